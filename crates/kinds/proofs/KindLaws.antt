-- The four kinds: what each asks for, and that first values and steps are values. Assumes nothing.
use mathlib.Core.Path.{◌≡◌, refl, sym, ap, ◌∙◌}
use mathlib.Core.Bool.{true, false, false≢true}
use mathlib.Core.List.{List}
use mathlib.Core.Logic.{◌⊎◌, inl, inr}
use Prim.Native.Nat.{ℕ, ◌*◌, ◌≤◌, ◌<◌}
use native.Mathlib.Nat.{mul-le-mul}
use native.Mathlib.Omega.{arith}
use lib.ListN.{length, get_or}
use Rattle.paper.specs.Chart.{k_of, e_of, n_of, m_of, letters, start_vec, end_vec}
use Rattle.paper.specs.Vectors.{row_times}
use Rattle.paper.specs.Tables.{grade_at, next_at}
use Rattle.paper.specs.Check.{chart_fits}
use Rattle.lists.proofs.ByPlace.{length_tabulate, get_or_tabulate}
use Rattle.algebra.specs.Sizes.{Sizes}
use Rattle.algebra.proofs.Checked.{sound, fits_ranged, head_sizes, letters_bound}
use Rattle.algebra.proofs.Vectors.{length_row, length_col, length_start, length_end, start_grades, end_grades, row_grades, col_grades}
use Rattle.cells.specs.Shaped.{Grades, Vector, Part}
use Rattle.kinds.specs.Kinds.{grades_in, next_row, next_row_at, first_by, step_by, key_by, key_size, keyed, made, Ready}
use Rattle.kinds.specs.Ready.{Value, of_vectors, Reverses}
use Rattle.kinds.specs.declared.Kind.{Kind}
use Rattle.kinds.specs.declared.Kind.TheVariants.{Nerode, Reduced, Reverse, Rows}
use Rattle.kinds.specs.declared.plan.Plan.{Plan}

-- ---- keys

-- a value is its own key, but in the reduced table
pub own_key : (k : Kind) (c v : List ℕ) → keyed k ≡ false → key_by k c v ≡ v
own_key Nerode c v e = refl
own_key Reduced c v e = absurd (false≢true (sym e))
own_key Reverse c v e = refl
own_key Rows c v e = refl

pub own_size : (k : Kind) (c : List ℕ) (w : ℕ) → keyed k ≡ false → key_size k c w ≡ w
own_size Nerode c w e = refl
own_size Reduced c w e = absurd (false≢true (sym e))
own_size Reverse c w e = refl
own_size Rows c w e = refl

pub keyed_is : (k : Kind) → keyed k ≡ true → k ≡ Kind.Reduced
keyed_is Nerode e = absurd (false≢true e)
keyed_is Reduced e = refl
keyed_is Reverse e = absurd (false≢true e)
keyed_is Rows e = absurd (false≢true e)

-- ---- the sizes of a plan

pub plan_sizes : (p : Plan) → Sizes (k_of p.chart.now) (e_of p.chart.now) (n_of p.chart.now) (m_of p.chart.now)
plan_sizes p = head_sizes p.chart.now (fits_ranged p.chart.now p.sized.fits)

pub plan_letters : (p : Plan) → (1 ≤ letters p.chart.now) × (letters p.chart.now ≤ 16)
plan_letters p = letters_bound p.chart.now (fits_ranged p.chart.now p.sized.fits)

-- every place of a key is below 385
pub key_small : (p : Plan) → letters p.chart.now * n_of p.chart.now ≤ 384
key_small p = mul-le-mul (plan_letters p).1 (plan_sizes p).n_high

-- ---- vectors

pub as_grades : {k w n : ℕ} {v : List ℕ} → Value k w v → w ≡ n → Grades k n v
as_grades h e = record { long = rw h.long (omega arith); low = λ p l. h.low p (omega arith) }

-- where values are vectors, a value is one of the chart's
pub as_vector : (p : Plan) {v : List ℕ} → of_vectors p.kind ≡ true → Value (k_of p.chart.now) p.width v → Vector p.chart.now v
as_vector p e a = as_grades a (p.sized.vectors e)

-- the first vector fits where a value does
pub start_fits : (p : Plan) {v : List ℕ} {l : ℕ} → ((p.kind ≡ Kind.Nerode) ⊎ (p.kind ≡ Kind.Reduced)) → Part p.chart.now (start_vec p.chart.now) v → p.width ≤ l → length v ≤ l
start_fits p k e h = rw e.is (omega (arith, length_start p.chart.now, wide k))
  where
    wide : ((p.kind ≡ Kind.Nerode) ⊎ (p.kind ≡ Kind.Reduced)) → p.width ≡ n_of p.chart.now
    wide (inl e) = p.sized.vectors (rw e)
    wide (inr e) = p.sized.vectors (rw e)

pub end_fits : (p : Plan) {v : List ℕ} {l : ℕ} → p.kind ≡ Kind.Reverse → Part p.chart.now (end_vec p.chart.now) v → p.width ≤ l → length v ≤ l
end_fits p k e h = rw e.is (omega (arith, length_end p.chart.now, p.sized.vectors (rw k)))

-- what the next row asks for
pub rows_asked : (p : Plan) {m x l : ℕ} {v : List ℕ} → Ready p → p.kind ≡ Kind.Rows → m ≡ letters p.chart.now → x < letters p.chart.now → Value (k_of p.chart.now) p.width v → p.width ≤ l →
    (x < m) × (m ≤ 16) × (p.width ≡ length v) × Reverses p.reverse.now m 256 p.width × (p.width ≤ l)
rows_asked p a k e x v h =
    let r = a k in (
      omega arith,
      omega (arith, (plan_letters p).1),
      sym v.long,
      record {
        long = rw e r.long;
        grades = λ i b. rw e (omega (arith, r.grades i b, (plan_sizes p).k_high));
        nexts = λ i y b b'. rw e (r.nexts i y b (rw (← e) b'));
      },
      h,
    )

-- ---- values

vector_value : (c : List ℕ) {w : ℕ} (v : List ℕ) → w ≡ n_of c → length v ≡ n_of c → ((p : ℕ) → p < n_of c → get_or v p 0 < k_of c) → Value (k_of c) w v
vector_value c v e l low = record { long = rw e l; low = λ p b. low p (rw (← e) b) }

vector_low : (c : List ℕ) {w : ℕ} {v : List ℕ} → w ≡ n_of c → Value (k_of c) w v → (p : ℕ) → p < n_of c → get_or v p 0 < k_of c
vector_low c e v p b = v.low p (rw e b)

module _ (t : List ℕ) (m k w : ℕ) (r : Reverses t m k w) where
  rows_first : Value k w (grades_in t m w)
  unfolding grades_in
  rows_first =
      record {
        long = length_tabulate w (λ i. grade_at t m i);
        low = λ p b. rw (get_or_tabulate w (λ i. grade_at t m i) 0 p b) (r.grades p b);
      }

  rows_step : (x : ℕ) → x < m → (v : List ℕ) → Value k w v → Value k w (next_row t m w x v)
  unfolding next_row next_row_at
  rows_step x l v a =
      record {
        long = length_tabulate w (next_row_at t m x v);
        low = λ p b. rw (get_or_tabulate w (next_row_at t m x v) 0 p b) (a.low (next_at t m p x) (r.nexts p x b l));
      }

module _ (c t : List ℕ) (w : ℕ) (fits : chart_fits c ≡ true) where
  first_value : (k : Kind) → (of_vectors k ≡ true → w ≡ n_of c) → (k ≡ Kind.Rows → Reverses t (letters c) (k_of c) w) → Value (k_of c) w (first_by k c t (letters c) w)
  first_value Nerode e r = vector_value c (start_vec c) (e refl) (length_start c) (start_grades c (sound c fits))
  first_value Reduced e r = vector_value c (start_vec c) (e refl) (length_start c) (start_grades c (sound c fits))
  first_value Reverse e r = vector_value c (end_vec c) (e refl) (length_end c) (end_grades c (sound c fits))
  first_value Rows e r = rows_first t (letters c) (k_of c) w (r refl)

  step_value : (k : Kind) → (of_vectors k ≡ true → w ≡ n_of c) → (k ≡ Kind.Rows → Reverses t (letters c) (k_of c) w) → (x : ℕ) → x < letters c →
      (v : List ℕ) → Value (k_of c) w v → Value (k_of c) w (step_by k c t (letters c) w x v)
  step_value Nerode e r x l v a = vector_value c (row_times c x v) (e refl) (length_row c x v) (row_grades c (sound c fits) x v l (vector_low c (e refl) a))
  step_value Reduced e r x l v a = vector_value c (row_times c x v) (e refl) (length_row c x v) (row_grades c (sound c fits) x v l (vector_low c (e refl) a))
  step_value Reverse e r x l v a = vector_value c _ (e refl) (length_col c x v) (col_grades c (sound c fits) x v l (vector_low c (e refl) a))
  step_value Rows e r x l v a = rows_step t (letters c) (k_of c) w (r refl) x l v a

pub made_first : (p : Plan) → Ready p → Value (k_of p.chart.now) p.width (made p).first
made_first p r = first_value p.chart.now p.reverse.now p.width p.sized.fits p.kind p.sized.vectors r

pub made_step : (p : Plan) → Ready p → (x : ℕ) → x < letters p.chart.now → (v : List ℕ) → Value (k_of p.chart.now) p.width v → Value (k_of p.chart.now) p.width ((made p).step x v)
made_step p r = step_value p.chart.now p.reverse.now p.width p.sized.fits p.kind p.sized.vectors r

-- ---- rows, read from the reverse table

-- an entry of the next row
pub next_entry : (t : List ℕ) (m i x : ℕ) (row : List ℕ) {next a : ℕ} → next ≡ next_at t m i x → a ≡ get_or row next 0 → a ≡ next_row_at t m x row i
unfolding next_row_at
next_entry t m i x row e f = f ∙ ap (λ j. get_or row j 0) e
