-- Each law's test as the definitions have it, from the grades as they were read. Assumes nothing.
use mathlib.Core.Path.{◌≡◌, refl, sym, ap, ap₂, ◌∙◌}
use mathlib.Core.Bool.{Bool, true, false}
use mathlib.Core.List.{List}
use Prim.Native.Nat.{ℕ, ◌≤◌}
use lib.ListN.{get_or-eq_default}
use lib.Dec.{eqb}
use borrow.Author.Tests.{eq-eqb, ne_eqb}
use Rattle.paper.specs.Lists.{both}
use Rattle.paper.specs.Chart.{e_of, join, prod}
use Rattle.paper.specs.Check.{laws, law_at}
use Rattle.lists.proofs.Tests.{both_not_left}

-- ---- two tests, the second made only where the first passes

module _ {r s x y : ℕ} (p : r ≡ x) (q : s ≡ y) where
  first_fails : (rest : Bool) → (r ≡ s → ⊥) → eqb r s ≡ both (eqb x y) rest
  first_fails rest n = rw (p, q, ne_eqb x y (λ e. n (p ∙ e ∙ sym q))) (sym (both_not_left false rest refl))

  first_passes : {rest result : Bool} → r ≡ s → result ≡ rest → result ≡ both (eqb x y) rest
  unfolding both
  first_passes e f = rw (eq-eqb x y (sym p ∙ e ∙ q)) f

-- ---- law by law

-- a test that reads an operation twice on each side
pub associates : (op : ℕ → ℕ → ℕ) (a b c : ℕ) {ab l bc r : ℕ} →
    ab ≡ op a b → l ≡ op ab c → bc ≡ op b c → r ≡ op a bc → eqb l r ≡ eqb (op (op a b) c) (op a (op b c))
associates op a b c p q v w = rw (q, w, p, v)

module _ (ch : List ℕ) (a : ℕ) where
  -- the unit on the left gives l, on the right r
  module _ {e l : ℕ} (ee : e ≡ e_of ch) (p : l ≡ prod ch e a) where
    left : l ≡ prod ch (e_of ch) a
    left = p ∙ ap (λ e. prod ch e a) ee

    pub unit_fails : (l ≡ a → ⊥) → eqb l a ≡ law_at ch 5 a 0 0
    unfolding law_at laws
    unit_fails = first_fails left refl _

    pub unit_passes : {r : ℕ} → l ≡ a → r ≡ prod ch a e → eqb r a ≡ law_at ch 5 a 0 0
    unfolding law_at laws
    unit_passes t q = first_passes left refl t (ap (λ r. eqb r a) (q ∙ ap (prod ch a) ee))

  -- 0 on the left gives l, on the right r
  module _ {l : ℕ} (p : l ≡ prod ch 0 a) where
    pub zero_fails : (l ≡ 0 → ⊥) → eqb l 0 ≡ law_at ch 6 a 0 0
    unfolding law_at laws
    zero_fails = first_fails p refl _

    pub zero_passes : {r : ℕ} → l ≡ 0 → r ≡ prod ch a 0 → eqb r 0 ≡ law_at ch 6 a 0 0
    unfolding law_at laws
    zero_passes t q = first_passes p refl t (ap (λ r. eqb r 0) q)

  -- a before the join of b and c, and a before each
  module _ (b c : ℕ) {bc ab ac sum l : ℕ}
      (j : bc ≡ join ch b c) (p : ab ≡ prod ch a b) (q : ac ≡ prod ch a c) (s : sum ≡ join ch ab ac) (v : l ≡ prod ch a bc) where
    whole : l ≡ prod ch a (join ch b c)
    whole = v ∙ ap (prod ch a) j

    parts : sum ≡ join ch (prod ch a b) (prod ch a c)
    parts = s ∙ ap₂ (join ch) p q

    pub distributes_fails : (l ≡ sum → ⊥) → eqb l sum ≡ law_at ch 7 a b c
    unfolding law_at laws
    distributes_fails = first_fails whole parts _

    pub distributes_passes : {ba ca sum' r : ℕ} → l ≡ sum →
        ba ≡ prod ch b a → ca ≡ prod ch c a → sum' ≡ join ch ba ca → r ≡ prod ch bc a → eqb r sum' ≡ law_at ch 7 a b c
    unfolding law_at laws
    distributes_passes t p' q' s' v' =
        first_passes whole parts t (ap₂ eqb (v' ∙ ap (λ x. prod ch x a) j) (s' ∙ ap₂ (join ch) p' q'))

-- ---- by the law's number

module _ (ch : List ℕ) (a b c : ℕ) {law : ℕ} where
  pub law_by : (n : ℕ) {r : Bool} → law ≡ n → r ≡ law_at ch n a b c → r ≡ law_at ch law a b c
  law_by n e p = rw e p

  -- there is no law behind the last
  pub law_none : 8 ≤ law → true ≡ law_at ch law a b c
  unfolding law_at laws
  law_none h = sym (get_or-eq_default (laws ch a b c) true h)
