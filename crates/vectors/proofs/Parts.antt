-- A vector combined with a part of the chart: its grade, a reverse vector's, and an entry of a matrix times a column. Assumes nothing.
use mathlib.Core.Path.{◌∙◌}
use mathlib.Core.List.{List}
use Prim.Native.Nat.{ℕ, ◌+◌, ◌*◌, ◌≤◌, ◌<◌}
use native.Mathlib.Nat.{mul-le-mul}
use native.Mathlib.Omega.{arith}
use lib.Arith.{digits_lt}
use Rattle.replies.specs.declared.Shape.{Shape}
use Rattle.paper.specs.Chart.{k_of, n_of, entry, start_vec, end_vec}
use Rattle.paper.specs.Vectors.{combine, combine_term, col_entry, col_term, end_grade, start_grade}
use Rattle.lists.proofs.ByPlace.{get_or_tabulate}
use Rattle.algebra.proofs.Joins.{joins_cong}
use Rattle.cells.specs.Shaped.{Shaped, Read, Part, row_of}

module _ (c : List ℕ) where
  pub with_end : (v w : List ℕ) {r : ℕ} → Part c (end_vec c) w → Read (combine c v w) (k_of c) r → Read (end_grade c v) (k_of c) r
  unfolding end_grade
  with_end v w e r = record { is = r.is ∙ rw e.is; low = r.low }

  pub with_start : (v w : List ℕ) {r : ℕ} → Part c (start_vec c) v → Read (combine c v w) (k_of c) r → Read (start_grade c w) (k_of c) r
  unfolding start_grade
  with_start v w e r = record { is = r.is ∙ rw e.is; low = r.low }

  pub with_row : (x p : ℕ) (v w : List ℕ) {r : ℕ} → Part c (row_of c x p) v → Read (combine c v w) (k_of c) r → Read (col_entry c x w p) (k_of c) r
  unfolding col_entry col_term combine combine_term row_of
  with_row x p v w e r =
      record {
        is = r.is ∙ joins_cong c (n_of c) (combine_term c v w) (col_term c x w p) (λ q l. rw (e.is, get_or_tabulate (n_of c) (entry c x p) 0 q l));
        low = r.low;
      }

-- ---- a row's number

module _ {c : List ℕ} {s : Shape} (h : Shaped c s) where
  -- the number of row p of letter x's matrix and its offset are small
  pub row_small : (x p : ℕ) → x < s.letters → p < s.n → (x * s.n ≤ 384) × (x * s.n + p ≤ 384) × ((x * s.n + p) * s.n ≤ 9216)
  row_small x p lx lp =
      let a : x * s.n + p < s.letters * s.n = digits_lt lx lp in
      let b : s.letters * s.n ≤ 384 = mul-le-mul h.letters_high h.sizes.n_high in
      let d : x * s.n + p ≤ 384 = omega arith in
      (omega arith, d, mul-le-mul d h.sizes.n_high)
