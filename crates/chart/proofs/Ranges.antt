-- The sizes of a chart and its layout: ranges as facts, and bounds on the products. Assumes nothing.
use mathlib.Core.Path.{◌≡◌, sym}
use mathlib.Core.Bool.{Bool, true, false}
use mathlib.Core.List.{List}
use Prim.Native.Nat.{ℕ, ◌+◌, ◌-◌, ◌*◌, ◌≤◌, ◌<◌}
use native.Mathlib.Nat.{mul-le-mul}
use native.Mathlib.Omega.{arith}
use lib.ListN.{length, get_or, take, drop, length-take, length-drop}
use lib.Seq.{length-take-le, get_or-take, get_or-drop}
use Rattle.std.specs.List.{AllWithin, HoldsAt}
use Rattle.std.specs.Bool.{MatchBool}
use borrow.Author.Tests.{leb-true, ltb-true, lt-ltb, le-ltb}
use Rattle.paper.specs.Chart.{head_size, k_of, chart_size}
use Rattle.paper.specs.Check.{sizes_fit, grade_fits, grades_fit}
use Rattle.lists.proofs.Tests.{both_split, all_by, all_fails}
use Rattle.algebra.specs.Sizes.{Sizes}

pub sizes_are : (k e n m : ℕ) → sizes_fit k e n m ≡ true → Sizes k e n m
unfolding sizes_fit
sizes_are k e n m h =
    let ks-rest = both_split _ _ h in
    let ks = both_split _ _ ks-rest.0 in
    let e-rest = both_split _ _ ks-rest.1 in
    let ns-ms = both_split _ _ e-rest.1 in
    let ns = both_split _ _ ns-ms.0 in
    let ms = both_split _ _ ns-ms.1 in
    record {
      k_low = leb-true _ _ ks.0;
      k_high = leb-true _ _ ks.1;
      e_low = ltb-true _ _ e-rest.0;
      n_low = leb-true _ _ ns.0;
      n_high = leb-true _ _ ns.1;
      m_low = leb-true _ _ ms.0;
      m_high = leb-true _ _ ms.1;
    }

-- the products of sizes in range are small
pub record Small (k n m : ℕ) : Type 0 where
  pub table : k * k ≤ 256
  pub rows : m * n ≤ 384
  pub matrices : m * n * n ≤ 9216

pub small : {k e n m : ℕ} → Sizes k e n m → Small k n m
small h =
    record {
      table = mul-le-mul h.k_high h.k_high;
      rows = mul-le-mul h.m_high h.n_high;
      matrices = mul-le-mul (mul-le-mul h.m_high h.n_high) h.n_high;
    }

-- the bytes behind the head, as `all` tells of them
module _ (c : List ℕ) (n : ℕ) where
  behind : (i : ℕ) → i < n → get_or (take n (drop head_size c)) i 0 ≡ get_or c (head_size + i) 0
  behind i l = rw (get_or-take, get_or-drop)

  pub grades_by : {k : ℕ} (r : Bool) → k ≡ k_of c → n ≡ chart_size c - head_size → n + head_size ≤ length c →
      MatchBool r (AllWithin (λ x. x < k) (take n (drop head_size c)) 0 (length (take n (drop head_size c))))
      ((i : ℕ) × (i < length (take n (drop head_size c))) × HoldsAt (λ x. k ≤ x) (take n (drop head_size c)) i) →
      r ≡ grades_fit c
  unfolding grades_fit grade_fits
  grades_by true ek en h all =
      sym (all_by (grade_fits c) (chart_size c - head_size)
      (λ i l. lt-ltb _ _ (omega (arith, all i 0 (omega arith) (simp (length-take, length-drop) (omega arith)), behind i (omega arith)))))
  grades_by false ek en h some =
      let l : some.0 < n = omega (arith, length-take-le n (drop head_size c) (simp length-drop (omega arith)), some.1) in
      sym (all_fails (grade_fits c) (chart_size c - head_size) some.0 (omega arith) (le-ltb _ _ (omega (arith, some.2 0, behind some.0 l))))
