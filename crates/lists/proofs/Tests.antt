-- Choosing, and tests over numbers: what the definitions of Lists say, as facts. Assumes nothing.
use mathlib.Core.Path.{◌≡◌, refl, sym, ◌∙◌, subst}
use mathlib.Core.Bool.{Bool, true, false, false≢true}
use mathlib.Core.Logic.{◌⊎◌, inl, inr}
use Prim.Native.Nat.{ℕ, zero, suc, ◌+◌, ◌≤◌, ◌<◌}
use native.Mathlib.Nat.{eq-or-lt_of_le, not-suc-le-zero, le_of_suc-le-suc}
use native.Mathlib.Numerals.{add-one}
use native.Mathlib.Omega.{arith}
use lib.Dec.{eqb}
use borrow.Author.Tests.{eqb-true, eqb-false}
use Rattle.paper.specs.Lists.{pick, unless, both, all_below, fail_after, least_fail}

-- ---- choosing

pub not_both : {b : Bool} → b ≡ true → b ≡ false → ⊥
not_both p q = false≢true (sym q ∙ p)

pub pick_true {ℓ} : {X : Type ℓ} (b : Bool) (x y : X) → b ≡ true → pick b x y ≡ x
pick_true true x y e = refl
pick_true false x y e = absurd (false≢true e)

pub pick_false {ℓ} : {X : Type ℓ} (b : Bool) (x y : X) → b ≡ false → pick b x y ≡ y
pick_false true x y e = absurd (false≢true (sym e))
pick_false false x y e = refl

-- what holds of the one where the test passes, and of the other where it fails, holds of the choice
pub pick_case {ℓ κ} : {X : Type ℓ} (P : X → Type κ) (b : Bool) (x y : X) → (b ≡ true → P x) → (b ≡ false → P y) → P (pick b x y)
pick_case P true x y f g = f refl
pick_case P false x y f g = g refl

-- an answer of which something holds that does not hold of the refusal, where the test failed: it passed, and that holds of the rest
pub unless_told {ℓ κ} : {X : Type ℓ} (P : X → Type κ) (b : Bool) (x y : X) → (b ≡ false → P x → ⊥) → P (unless b x y) → (b ≡ true) × P y
unless_told P true x y f p = (refl, p)
unless_told P false x y f p = absurd (f refl p)

-- the same, where it never holds of the refusal
pub unless_passed {ℓ κ} : {X : Type ℓ} (P : X → Type κ) (b : Bool) (x y : X) → (P x → ⊥) → P (unless b x y) → (b ≡ true) × P y
unless_passed P b x y f = unless_told P b x y (λ e. f)

-- what a called test tells, where the code goes by its answer
pub fell : {t a : Bool} → t ≡ a → t ≡ false → a ≡ false
fell e h = sym e ∙ h

pub held : {t a : Bool} → t ≡ a → t ≡ true → a ≡ true
held e h = sym e ∙ h

-- ---- two tests

pub both_left : (a b : Bool) → both a b ≡ true → a ≡ true
unfolding both
both_left true b e = refl
both_left false b e = e

pub both_right : (a b : Bool) → both a b ≡ true → b ≡ true
unfolding both
both_right true b e = e
both_right false b e = absurd (false≢true e)

pub both_split : (a b : Bool) → both a b ≡ true → (a ≡ true) × (b ≡ true)
both_split a b e = (both_left a b e, both_right a b e)

pub both_true : (a b : Bool) → a ≡ true → b ≡ true → both a b ≡ true
unfolding both
both_true true b p q = q
both_true false b p q = p

pub both_false : (a : Bool) → both a false ≡ false
unfolding both
both_false true = refl
both_false false = refl

pub both_not_left : (a b : Bool) → a ≡ false → both a b ≡ false
unfolding both
both_not_left true b e = absurd (false≢true (sym e))
both_not_left false b e = refl

pub both_not_right : (a b : Bool) → b ≡ false → both a b ≡ false
unfolding both
both_not_right true b e = e
both_not_right false b e = refl

-- ---- tests below a number

-- what holds below n and at n holds below suc n
pub below_suc {ℓ} : {P : ℕ → Type ℓ} (n : ℕ) → ((i : ℕ) → i < n → P i) → P n → (i : ℕ) → i < suc n → P i
below_suc {P} n f p i h = go (eq-or-lt_of_le (le_of_suc-le-suc h))
  where
    go : (i ≡ n) ⊎ (i < n) → P i
    go (inl q) = subst P (sym q) p
    go (inr l) = f i l

module _ (test : ℕ → Bool) where
  pub all_at : (n : ℕ) → all_below n test ≡ true → (i : ℕ) → i < n → test i ≡ true
  unfolding all_below
  all_at zero e i h = absurd (not-suc-le-zero h)
  all_at (suc n) e i h =
      below_suc {P = λ j. test j ≡ true} n (all_at n (both_left (all_below n test) (test n) e)) (both_right (all_below n test) (test n) e) i h

  pub all_by : (n : ℕ) → ((i : ℕ) → i < n → test i ≡ true) → all_below n test ≡ true
  unfolding all_below
  all_by zero f = refl
  all_by (suc n) f = both_true (all_below n test) (test n) (all_by n (λ i h. f i (omega arith))) (f n (omega arith))

  -- one more, as a loop counts
  pub all_more : (n : ℕ) → all_below n test ≡ true → test n ≡ true → all_below (n + 1) test ≡ true
  unfolding all_below
  all_more n e p = rw add-one (both_true (all_below n test) (test n) e p)

  pub all_fails : (n i : ℕ) → i < n → test i ≡ false → all_below n test ≡ false
  all_fails n i h e = go (all_below n test) refl
    where
      go : (b : Bool) → all_below n test ≡ b → b ≡ false
      go true q = absurd (not_both (all_at n q i h) e)
      go false q = refl

-- i is the least number below n at which the test fails, or n
pub record Least (n : ℕ) (test : ℕ → Bool) (i : ℕ) : Type 0 where
  pub top : i ≤ n
  pub before : (j : ℕ) → j < i → test j ≡ true
  pub fails : i < n → test i ≡ false

module _ (test : ℕ → Bool) where
  pub least : (n : ℕ) → Least n test (least_fail n test)
  unfolding least_fail
  least zero = record { top = omega arith; before = λ j h. absurd (not-suc-le-zero h); fails = λ h. absurd (not-suc-le-zero h) }
  least (suc n) = go (least_fail n test) (least n) (eqb (least_fail n test) n) refl (test n) refl
    where
      go : (i : ℕ) → Least n test i → (b : Bool) → eqb i n ≡ b → (t : Bool) → test n ≡ t → Least (suc n) test (fail_after i n (test n))
      go i l true e true t =
          rw
          (e, t)
          (record {
            top = omega arith;
            before = below_suc {P = λ j. test j ≡ true} n (subst (λ (k : ℕ). (j : ℕ) → j < k → test j ≡ true) (eqb-true i n e) l.before) t;
            fails = λ h. absurd (omega arith);
          })
      go i l true e false t =
          rw
          (e, t)
          (record {
            top = omega arith;
            before = subst (λ (k : ℕ). (j : ℕ) → j < k → test j ≡ true) (eqb-true i n e) l.before;
            fails = λ h. t;
          })
      go i l false e b t =
          rw e (record { top = omega (arith, l.top); before = l.before; fails = λ h. l.fails (lt (eq-or-lt_of_le l.top)) })
        where
          lt : (i ≡ n) ⊎ (i < n) → i < n
          lt (inl q) = absurd (eqb-false i n e q)
          lt (inr q) = q

  -- there is only one
  pub least_one : (n i j : ℕ) → Least n test i → Least n test j → i ≡ j
  least_one n i j p q = go (native.Mathlib.Decide.dec_lt i j) (native.Mathlib.Decide.dec_lt j i)
    where
      go : Dec (i < j) → Dec (j < i) → i ≡ j
      go (yes h) d = absurd (not_both (q.before i h) (p.fails (omega (arith, q.top))))
      go (no h) (yes l) = absurd (not_both (p.before j l) (q.fails (omega (arith, p.top))))
      go (no h) (no l) = omega arith

  pub least_is : (n i : ℕ) → i < n → ((j : ℕ) → j < i → test j ≡ true) → test i ≡ false → least_fail n test ≡ i
  least_is n i h f e = least_one n (least_fail n test) i (least n) (record { top = omega arith; before = f; fails = λ _. e })

  -- it is n exactly where every test below n passes
  pub least_all : (n : ℕ) → n ≤ least_fail n test → (i : ℕ) → i < n → test i ≡ true
  least_all n e i h = (least n).before i (omega arith)

  pub least_none : (n : ℕ) → ((i : ℕ) → i < n → test i ≡ true) → least_fail n test ≡ n
  least_none n f = least_one n (least_fail n test) n (least n) (record { top = omega arith; before = f; fails = λ h. absurd (omega arith) })
