-- What the functions of the constructions require.
use Rattle.std.specs.Prelude.{◌≡◌, Bool, true, false, List, ℕ, ◌*◌, ◌≤◌, ◌<◌, length, get_or}
use Rattle.paper.specs.Check.{chart_fits}
use Rattle.paper.specs.Chart.{n_of}
use Rattle.paper.specs.Tables.{row_size, grade_at, next_at}
use Rattle.kinds.specs.declared.Kind.{Kind}
use Rattle.kinds.specs.declared.Kind.TheVariants.{Nerode, Reduced, Reverse, Rows}

-- a value of w bytes, all of them grades below k
pub record Value (k w : ℕ) (v : List ℕ) : Type 0 where
  pub long : length v ≡ w
  pub low : (p : ℕ) → p < w → get_or v p 0 < k

-- whether values are vectors of the chart; then no reverse table is read
abbrev pub of_vectors : Kind → Bool
of_vectors Nerode = true
of_vectors Reduced = true
of_vectors Reverse = true
of_vectors Rows = false

-- t is a table of r states and m letters with grades below k
pub record Reverses (t : List ℕ) (m k r : ℕ) : Type 0 where
  pub long : r * row_size m ≤ length t
  pub grades : (i : ℕ) → i < r → grade_at t m i < k
  pub nexts : (i x : ℕ) → i < r → x < m → next_at t m i x < r

-- the chart c is not refused, and the sizes are in range: vectors are as wide as it has states
pub record Sized (kind : Kind) (c : List ℕ) (width stride room : ℕ) : Type 0 where
  pub fits : chart_fits c ≡ true
  pub vectors : of_vectors kind ≡ true → width ≡ n_of c
  pub width_low : 1 ≤ width
  pub inside : width ≤ stride
  pub stride_high : stride ≤ 128
  pub room_low : 1 ≤ room
  pub room_high : room ≤ 4096
