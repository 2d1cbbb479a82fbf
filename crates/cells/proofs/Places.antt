-- Where the grades of a checked chart stand: each within the chart's bytes, and below k. Assumes nothing.
use mathlib.Core.Path.{◌≡◌, ◌∙◌, subst}
use mathlib.Core.List.{List}
use Prim.Native.Nat.{ℕ, ◌+◌, ◌*◌, ◌≤◌, ◌<◌}
use native.Mathlib.Omega.{arith}
use lib.Arith.{digits_lt}
use lib.ListN.{length, get_or}
use Rattle.replies.specs.declared.Shape.{Shape}
use Rattle.paper.specs.Chart.{head_size, k_of, n_of, letters, join, prod, entry}
use Rattle.cells.specs.Shaped.{Shaped, Read}

-- `value` stands at `at`: within the chart, and a grade below k
pub record Stands (c : List ℕ) (k at value : ℕ) : Type 0 where
  pub within : at < length c
  pub is : get_or c at 0 ≡ value
  pub low : get_or c at 0 < k

-- where parts of the chart begin: behind the head, and ending within the chart
record Lies (s : Shape) (from size : ℕ) : Type 0 where
  behind : head_size ≤ from
  ends : from + size ≤ s.size

module _ {c : List ℕ} {s : Shape} (h : Shaped c s) where
  join_lies : Lies s s.join (s.k * s.k)
  join_lies = record { behind = omega arith; ends = rw (h.join_is, h.size_is, h.k_is) (omega arith) }

  prod_lies : Lies s s.prod (s.k * s.k)
  prod_lies = record { behind = omega arith; ends = rw (h.prod_is, h.size_is, h.k_is) (omega arith) }

  matrix_lies : Lies s s.matrix (s.letters * s.n * s.n)
  unfolding letters
  matrix_lies = record { behind = omega arith; ends = rw (h.matrix_is, h.size_is, h.letters_is, h.n_is) (omega arith) }

  -- each place of such a part
  stands : {from size at value : ℕ} → Lies s from size → at < size → get_or c (from + at) 0 ≡ value → Stands c s.k (from + at) value
  stands {from} {size} {at} l low e =
      record { within = omega arith; is = e; low = h.graded (from + at) (omega arith) (omega arith) }

  pub join_stands : {a b : ℕ} → a < s.k → b < s.k → Stands c s.k (s.join + (a * s.k + b)) (join c a b)
  unfolding join
  join_stands p q = stands join_lies (digits_lt p q) (rw (h.join_is, h.k_is))

  pub prod_stands : {a b : ℕ} → a < s.k → b < s.k → Stands c s.k (s.prod + (a * s.k + b)) (prod c a b)
  unfolding prod
  prod_stands p q = stands prod_lies (digits_lt p q) (rw (h.prod_is, h.k_is))

  pub entry_stands : {x p q : ℕ} → x < s.letters → p < s.n → q < s.n → Stands c s.k (s.matrix + ((x * s.n + p) * s.n + q)) (entry c x p q)
  unfolding entry
  entry_stands x p q = stands matrix_lies (digits_lt (digits_lt x p) q) (rw (h.matrix_is, h.n_is))

-- ---- as contracts say it, by the chart's own numbers

-- what is true of a chart's bytes is true of what contracts see of it
pub at_view : {c v : List ℕ} {s : Shape} → c ≡ v → Shaped c s → Shaped v s
at_view {s = s} e h = subst (λ v. Shaped v s) e h

-- a byte read where a grade stands
read : {c : List ℕ} {s : Shape} {at value r : ℕ} → Shaped c s → Stands c s.k at value → r ≡ get_or c at 0 → Read value (k_of c) r
read h t e = record { is = e ∙ t.is; low = rw (e, ← h.k_is) t.low }

module _ {c : List ℕ} {s : Shape} (h : Shaped c s) where
  pub join_read : {a b r : ℕ} → a < k_of c → b < k_of c → r ≡ get_or c (s.join + (a * s.k + b)) 0 → Read (join c a b) (k_of c) r
  join_read p q e = read h (join_stands h (rw h.k_is p) (rw h.k_is q)) e

  pub prod_read : {a b r : ℕ} → a < k_of c → b < k_of c → r ≡ get_or c (s.prod + (a * s.k + b)) 0 → Read (prod c a b) (k_of c) r
  prod_read p q e = read h (prod_stands h (rw h.k_is p) (rw h.k_is q)) e

  pub entry_within : {x p q : ℕ} → x < letters c → p < n_of c → q < n_of c → s.matrix + ((x * s.n + p) * s.n + q) < length c
  entry_within x p q = (entry_stands h (rw h.letters_is x) (rw h.n_is p) (rw h.n_is q)).within

  pub entry_read : {x p q r : ℕ} → x < letters c → p < n_of c → q < n_of c → r ≡ get_or c (s.matrix + ((x * s.n + p) * s.n + q)) 0 → Read (entry c x p q) (k_of c) r
  entry_read x p q e = read h (entry_stands h (rw h.letters_is x) (rw h.n_is p) (rw h.n_is q)) e
