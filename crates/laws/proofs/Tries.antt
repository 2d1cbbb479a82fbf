-- How often a law has to be tried, and what the tries show. Assumes nothing.
use Rattle.std.specs.Prelude.{Option, Some, None}
use mathlib.Core.Path.{◌≡◌, refl, sym, ◌∙◌}
use mathlib.Core.Bool.{Bool, true, false}
use mathlib.Core.Logic.{◌⊎◌, inl, inr}
use mathlib.Core.List.{List}
use Prim.Native.Nat.{ℕ, zero, suc, ◌+◌, ◌≤◌, ◌<◌}
use native.Mathlib.Omega.{arith}
use lib.Dec.{ltb}
use Rattle.std.specs.Option.{MatchOption}
use borrow.Author.Tests.{lt-ltb, le-ltb, ltb-true, ltb-false}
use borrow.Author.Count.{below_none, below_more}
use Rattle.paper.specs.Lists.{pick, all_below, least_fail}
use Rattle.paper.specs.Check.{laws, law_at, law_at_two}
use Rattle.lists.proofs.Tests.{all_by, all_fails, least, least_is, least_all, least_none}
use Rattle.laws.specs.Laws.{Enough, first_for}

-- all of the numbers
pub every : {k : ℕ} {test : ℕ → Bool} → Enough k k test
every = record { low = omega arith; all = λ f. f }

-- the first alone, where the test is the same at each
pub one : {k : ℕ} {test : ℕ → Bool} → 0 < k → ((i : ℕ) → test i ≡ test 0) → Enough k 1 test
one h same = record { low = h; all = λ f i l. same i ∙ f 0 (omega arith) }

module _ {k : ℕ} (some : 0 < k) (ch : List ℕ) where
  -- laws 1, 2, 4, 6 and 7 of the paper say nothing of c
  pub one_c : (law a b : ℕ) → ((law ≡ 2) ⊎ ((law ≡ 4) ⊎ (law ≡ 7)) → ⊥) → Enough k 1 (law_at ch law a b)
  unfolding law_at laws
  one_c zero a b n = one some (λ c. refl)
  one_c (suc zero) a b n = one some (λ c. refl)
  one_c (suc (suc zero)) a b n = absurd (n (inl refl))
  one_c (suc (suc (suc zero))) a b n = one some (λ c. refl)
  one_c (suc (suc (suc (suc zero)))) a b n = absurd (n (inr (inl refl)))
  one_c (suc (suc (suc (suc (suc zero))))) a b n = one some (λ c. refl)
  one_c (suc (suc (suc (suc (suc (suc zero)))))) a b n = one some (λ c. refl)
  one_c (suc (suc (suc (suc (suc (suc (suc zero))))))) a b n = absurd (n (inr (inr refl)))
  one_c (suc (suc (suc (suc (suc (suc (suc (suc law)))))))) a b n = one some (λ c. refl)

  -- laws 1, 4, 6 and 7 of the paper say nothing of b
  pub one_b : (law a : ℕ) → (law ≡ 1 → ⊥) → (law ≡ 2 → ⊥) → ((law ≡ 4) ⊎ (law ≡ 7) → ⊥) → Enough k 1 (law_at_two ch law a)
  unfolding law_at laws law_at_two
  one_b zero a p q n = one some (λ b. refl)
  one_b (suc zero) a p q n = absurd (p refl)
  one_b (suc (suc zero)) a p q n = absurd (q refl)
  one_b (suc (suc (suc zero))) a p q n = one some (λ b. refl)
  one_b (suc (suc (suc (suc zero)))) a p q n = absurd (n (inl refl))
  one_b (suc (suc (suc (suc (suc zero))))) a p q n = one some (λ b. refl)
  one_b (suc (suc (suc (suc (suc (suc zero)))))) a p q n = one some (λ b. refl)
  one_b (suc (suc (suc (suc (suc (suc (suc zero))))))) a p q n = absurd (n (inr refl))
  one_b (suc (suc (suc (suc (suc (suc (suc (suc law)))))))) a p q n = one some (λ b. refl)

-- ---- a loop that tries a test at 0, 1, .. until it fails

-- it passed at the first i of n numbers, which are enough of k
pub record Tried (k n : ℕ) (test : ℕ → Bool) (i : ℕ) : Type 0 where
  pub enough : Enough k n test
  pub within : i ≤ n
  pub passed : (j : ℕ) → j < i → test j ≡ true

module _ {k n : ℕ} {test : ℕ → Bool} where
  pub tried_none : Enough k n test → Tried k n test 0
  tried_none enough = record { enough = enough; within = omega arith; passed = below_none _ }

  module _ {i : ℕ} (t : Tried k n test i) where
    pub tried_more : i < n → test i ≡ true → Tried k n test (i + 1)
    tried_more h e = record { enough = t.enough; within = omega arith; passed = below_more _ i t.passed e }

    -- where it fails, or where it never does, is the least number at which the test fails
    pub fails_at : i < n → test i ≡ false → i ≡ least_fail k test
    fails_at h e = sym (least_is test k i (omega (arith, t.enough.low)) t.passed e)

    pub fails_nowhere : n ≤ i → k ≡ least_fail k test
    fails_nowhere h = sym (least_none test _ (λ j l. t.enough.all (λ j l. t.passed j (omega arith)) j (omega arith)))

    -- so the loop's answer is that of the least
    module _ {A : Type 0} (told : ℕ → A) where
      pub some_first : i < n → test i ≡ false → Some (told i) ≡ first_for k told (least_fail k test)
      some_first h e = let q = fails_at h e in rw (← q, lt-ltb i k (omega (arith, t.enough.low)))

      pub none_first : n ≤ i → None ≡ first_for k told (least_fail k test)
      none_first h = let q = fails_nowhere h in rw (← q, le-ltb k k (omega arith))

-- `find` among enough numbers finds the least of all
pub found_first : {k n : ℕ} (test : ℕ → Bool) → Enough k n test → (r : Option ℕ) → MatchOption r (least_fail n test ≡ n) (λ i. (i < n) × (least_fail n test ≡ i)) →
    r ≡ first_for k (λ i. i) (least_fail k test)
found_first {n} test enough None e =
    none_first (record { enough = enough; within = omega arith; passed = least_all test n (omega arith) }) (λ i. i) (omega arith)
found_first {n} test enough (Some i) h =
    let low : least_fail n test < n = omega (arith, h.0, h.1) in
    some_first (record { enough = enough; within = omega (arith, h.0); passed = λ j l. (least test n).before j (omega (arith, h.1)) }) (λ i. i) h.0 (rw h.1 at ((least test n).fails low))

-- ---- from an answer of the first failure to all tests

module _ (k : ℕ) (test : ℕ → Bool) {A : Type 0} (told : ℕ → A) {r : Option A} (e : r ≡ first_for k told (least_fail k test)) where
  pub none_fails : ((x : A) → r ≡ Some x → ⊥) → all_below k test ≡ true
  none_fails none = go (ltb (least_fail k test) k) refl e
    where
      go : (b : Bool) → ltb (least_fail k test) k ≡ b → r ≡ pick b (Some (told (least_fail k test))) None → all_below k test ≡ true
      go true p h = absurd (none _ h)
      go false p h = all_by test k (least_all test k (omega (arith, ltb-false _ _ p)))

  pub some_fails : {x : A} → r ≡ Some x → (all_below k test ≡ false) × (x ≡ told (least_fail k test))
  some_fails {x} some = go (ltb (least_fail k test) k) refl e
    where
      go : (b : Bool) → ltb (least_fail k test) k ≡ b → r ≡ pick b (Some (told (least_fail k test))) None →
          (all_below k test ≡ false) × (x ≡ told (least_fail k test))
      go true p h =
          let low : least_fail k test < k = omega (arith, ltb-true _ _ p) in
          (all_fails test k (least_fail k test) low ((least test k).fails low), cc)
      go false p h = absurd (cc)
