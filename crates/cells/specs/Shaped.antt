-- What the inner functions of a chart require and ensure.
use Rattle.std.specs.Prelude.{◌≡◌, List, ℕ, ◌≤◌, ◌<◌, length, get_or}
use Rattle.replies.specs.declared.Shape.{Shape}
use Rattle.algebra.specs.Sizes.{Sizes}
use Rattle.paper.specs.Lists.{tabulate}
use Rattle.paper.specs.Chart.{head_size, k_of, e_of, n_of, m_of, letters, entry, join_from, prod_from, start_from, end_from, matrix_from, chart_size}

-- s is the shape of the chart c: its fields are the chart's, its sizes are in range, the chart's bytes are all there, and those behind
-- the head are grades
pub record Shaped (c : List ℕ) (s : Shape) : Type 0 where
  pub k_is : s.k ≡ k_of c
  pub e_is : s.e ≡ e_of c
  pub n_is : s.n ≡ n_of c
  pub m_is : s.m ≡ m_of c
  pub letters_is : s.letters ≡ letters c
  pub join_is : s.join ≡ join_from c
  pub prod_is : s.prod ≡ prod_from c
  pub start_is : s.start ≡ start_from c
  pub end_is : s.end ≡ end_from c
  pub matrix_is : s.matrix ≡ matrix_from c
  pub size_is : s.size ≡ chart_size c
  pub sizes : Sizes s.k s.e s.n s.m
  pub letters_low : 1 ≤ s.letters
  pub letters_high : s.letters ≤ 16
  pub fits : s.size ≤ length c
  pub graded : (i : ℕ) → head_size ≤ i → i < s.size → get_or c i 0 < s.k

-- a grade that was read: which one it is, and that it is below k
pub record Read (value k r : ℕ) : Type 0 where
  pub is : r ≡ value
  pub low : r < k

-- a size that was read: which one it is, and its range
pub record Ranged (least most value r : ℕ) : Type 0 where
  pub is : r ≡ value
  pub low : least ≤ r
  pub high : r ≤ most

-- n grades below k at the front of v
pub record Grades (k n : ℕ) (v : List ℕ) : Type 0 where
  pub long : n ≤ length v
  pub low : (p : ℕ) → p < n → get_or v p 0 < k

-- a vector of the chart c: a grade for each of its states
abbrev pub Vector : List ℕ → List ℕ → Type 0
Vector c v = Grades (k_of c) (n_of c) v

-- row p of letter x's matrix
unfoldable pub row_of : List ℕ → ℕ → ℕ → List ℕ
row_of c x p = tabulate (n_of c) (entry c x p)

-- a part of the chart c that was handed back: which vector it is, and that it is one
pub record Part (c vector v : List ℕ) : Type 0 where
  pub is : v ≡ vector
  pub grades : Vector c v
