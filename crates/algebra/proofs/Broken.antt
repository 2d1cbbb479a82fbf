-- Refusal 4 names the first broken law and its first grades, those that the law does not speak of being 0. Assumes nothing.
use mathlib.Core.Path.{◌≡◌, refl, ◌∙◌}
use mathlib.Core.Bool.{Bool, true, false}
use mathlib.Core.Logic.{inl, inr}
use mathlib.Core.List.{List, [], ◌∷◌}
use Prim.Native.Nat.{ℕ, zero, suc, ◌<◌}
use native.Mathlib.Nat.{zero-lt-suc}
use native.Mathlib.Omega.{arith}
use lib.Arith.{lt_of_le-ne}
use lib.Dec.{eqb}
use borrow.Author.Tests.{eqb-false}
use Rattle.paper.specs.Lists.{unless}
use Rattle.paper.specs.Words.{LexBefore}
use Rattle.paper.specs.Reply.{fine}
use Rattle.paper.specs.Chart.{k_of}
use Rattle.paper.specs.Check.{laws, law_at, law_at_two, law_at_one, law_holds, broken_law, broken_a, broken_b, broken_c, broken_at, shape_of, check_reply}
use Rattle.lists.proofs.Tests.{not_both, all_at, least}
use Rattle.algebra.proofs.ListLaws.{FirstFail, first_fail}
use Rattle.algebra.proofs.Checked.{ranged, ranged_reply, law_at_lem}

-- law i, from 0, fails at a, b, d, and all that stands before passes: first the laws before it, then its grades, d moving fastest
pub record Broken (c : List ℕ) (i a b d : ℕ) : Type 0 where
  pub law_low : i < 8
  pub a_low : a < k_of c
  pub b_low : b < k_of c
  pub d_low : d < k_of c
  pub fails : law_at c i a b d ≡ false
  pub before : (j a' b' d' : ℕ) → a' < k_of c → b' < k_of c → d' < k_of c →
      LexBefore (j ∷ a' ∷ b' ∷ d' ∷ []) (i ∷ a ∷ b ∷ d ∷ []) → law_at c j a' b' d' ≡ true

-- all that stands before passes, where it does so law by law, then a by a, b by b, d by d
module _ (c : List ℕ) (i a b d : ℕ) (laws-before : (j : ℕ) → j < i → law_holds c j ≡ true) (a-before : (a' : ℕ) → a' < a → law_at_one c i a' ≡ true)
    (b-before : (b' : ℕ) → b' < b → law_at_two c i a b' ≡ true) (d-before : (d' : ℕ) → d' < d → law_at c i a b d' ≡ true) where
  passes_before : (j a' b' d' : ℕ) → a' < k_of c → b' < k_of c → d' < k_of c →
      LexBefore (j ∷ a' ∷ b' ∷ d' ∷ []) (i ∷ a ∷ b ∷ d ∷ []) → law_at c j a' b' d' ≡ true
  unfolding law_at_one law_at_two
  passes_before j a' b' d' ha hb hd (inl l) = law_at_lem c j (laws-before j l) a' b' d' ha hb hd
  passes_before j a' b' d' ha hb hd (inr (ej, inl l)) =
      rw ej (all_at (law_at c i a' b') (k_of c) (all_at (law_at_two c i a') (k_of c) (a-before a' l) b' hb) d' hd)
  passes_before j a' b' d' ha hb hd (inr (ej, inr (ea, inl l))) = rw (ej, ea) (all_at (law_at c i a b') (k_of c) (b-before b' l) d' hd)
  passes_before j a' b' d' ha hb hd (inr (ej, inr (ea, inr (eb, inl l)))) = rw (ej, ea, eb) (d-before d' l)
  passes_before j a' b' d' ha hb hd (inr (ej, inr (ea, inr (eb, inr (ed, none))))) = absurd none

-- what the reply names is where the law is first broken
broken_at_lem : (c : List ℕ) (i : ℕ) → FirstFail 8 (law_holds c) i →
    Broken c i (broken_a c i) (broken_b c i (broken_a c i)) (broken_c c i (broken_a c i) (broken_b c i (broken_a c i)))
unfolding law_holds law_at_one law_at_two broken_a broken_b broken_c
broken_at_lem c i law =
    let k = k_of c in
    let a = broken_a c i in
    let fa = first_fail k (law_at_one c i) law.fails in
    let b = broken_b c i a in
    let fb = first_fail k (law_at_two c i a) fa.fails in
    let fd = first_fail k (law_at c i a b) fb.fails in
    record {
      law_low = law.low;
      a_low = fa.low;
      b_low = fb.low;
      d_low = fd.low;
      fails = fd.fails;
      before = passes_before c i a b (broken_c c i a b) law.before fa.before fb.before fd.before;
    }

-- a chart refused by number 4 breaks a law, and the reply names it from 1 on
pub broken : (c : List ℕ) → (check_reply c).0 ≡ 4 → (i a b d : ℕ) × (check_reply c ≡ (4, suc i ∷ a ∷ b ∷ d ∷ [])) × Broken c i a b d
unfolding broken_law broken_at
broken c e =
    let r = ranged c 4 (omega arith) (omega arith) (omega arith) e in
    let law = law_broken (eqb (broken_law c) 8) refl (rw (ranged_reply c r) at e) in
    let first = least (law_holds c) 8 in
    let i = broken_law c in
    let a = broken_a c i in
    let b = broken_b c i a in
    let lt = lt_of_le-ne first.top (eqb-false (broken_law c) 8 law) in
    (i, a, b, broken_c c i a b, ranged_reply c r ∙ rw law, broken_at_lem c i (record { low = lt; fails = first.fails lt; before = first.before }))
  where
    law_broken : (t : Bool) → eqb (broken_law c) 8 ≡ t → (unless t (4, broken_at c (broken_law c)) (fine (shape_of c))).0 ≡ 4 → eqb (broken_law c) 8 ≡ false
    law_broken true q n = absurd (omega arith)
    law_broken false q n = q

-- ---- grades that a law does not speak of

module _ (c : List ℕ) (i a : ℕ) where
  -- a law that says the same at other grades b, d is not first broken behind them
  not_later : (b' d' b d : ℕ) → Broken c i a b d → b' < k_of c → d' < k_of c → law_at c i a b' d' ≡ law_at c i a b d → LexBefore (b' ∷ d' ∷ []) (b ∷ d ∷ []) → ⊥
  not_later b' d' b d h hb hd same l = not_both (h.before i a b' d' h.a_low hb hd (inr (refl, inr (refl, l)))) (same ∙ h.fails)

  -- a law that speaks of a alone, and one that speaks of a and b
  only_a : (b d : ℕ) → Broken c i a b d → law_at c i a 0 0 ≡ law_at c i a b d → (b ≡ 0) × (d ≡ 0)
  only_a zero zero h same = (refl, refl)
  only_a zero (suc d) h same = absurd (not_later 0 0 zero (suc d) h h.b_low (omega (arith, h.b_low)) same (inr (refl, inl (zero-lt-suc d))))
  only_a (suc b) d h same = absurd (not_later 0 0 (suc b) d h (omega (arith, h.b_low)) (omega (arith, h.b_low)) same (inl (zero-lt-suc b)))

  only_ab : (b d : ℕ) → Broken c i a b d → law_at c i a b 0 ≡ law_at c i a b d → d ≡ 0
  only_ab b zero h same = refl
  only_ab b (suc d) h same = absurd (not_later b 0 b (suc d) h h.b_low (omega (arith, h.b_low)) same (inr (refl, inl (zero-lt-suc d))))

-- laws 1, 4, 6 and 7 speak of a alone, law 2 of a and b: the others are named as 0
pub unused : (c : List ℕ) (a b d : ℕ) →
    (Broken c 0 a b d → (b ≡ 0) × (d ≡ 0)) ×
    (Broken c 1 a b d → d ≡ 0) ×
    (Broken c 3 a b d → (b ≡ 0) × (d ≡ 0)) ×
    (Broken c 5 a b d → (b ≡ 0) × (d ≡ 0)) ×
    (Broken c 6 a b d → (b ≡ 0) × (d ≡ 0))
unfolding law_at laws
unused c a b d =
    ((λ h. only_a c 0 a b d h refl), (λ h. only_ab c 1 a b d h refl), (λ h. only_a c 3 a b d h refl), (λ h. only_a c 5 a b d h refl), (λ h. only_a c 6 a b d h refl))
