-- What `all` and `find` answer over the numbers below n, or over a slice, where the closure answers a test. Assumes nothing.
use mathlib.Core.Path.{◌≡◌, sym, ◌∙◌}
use mathlib.Core.Bool.{Bool, true, false, not}
use mathlib.Core.List.{List}
use Prim.Native.Nat.{ℕ, ◌≤◌, ◌<◌}
use native.Mathlib.Omega.{arith}
use lib.ListN.{length, get_or}
use borrow.Author.Tests.{not-true, not-false}
use denote.Ref.{Bor}
use denote.Param.Members.{Mut}
use Rattle.std.proofs.iter.Yields.{fronts, nat_range_steps}
use Rattle.std.specs.declared.ops.Range.{Range}
use Rattle.std.specs.declared.slice.Iter.{Iter}
use Rattle.std.specs.Bool.{MatchBool, ⊤}
use Rattle.std.specs.Fn.{Called, CalledAt}
use Rattle.std.specs.Iterator.{YieldsThen}
use Rattle.std.specs.List.{FoldsTo, AllWithin, HoldsAt, range_with_len}
use Rattle.std.specs.Option.{MatchOption}
use Rattle.std.specs.Slice.Iter.{iter_rest}
use Rattle.std.specs.Prelude.{Option, None, Some}
use Rattle.std.proofs.lemmas.Iterator.{YieldsList-from_slice, YieldsList-from_range, cases_from_all, first_from_Range}
use Rattle.std.proofs.lemmas.List.FromFn.{length-range_with_len, get_or-range_with_len}
use Rattle.paper.specs.Lists.{all_below, least_fail}
use Rattle.lists.proofs.Tests.{all_by, all_fails, least_is, least_none}

-- the test of every number below n, from its cases
all_said : (test : ℕ → Bool) (n : ℕ) (r : Bool) → MatchBool r ((i : ℕ) → i < n → test i ≡ true) ((i : ℕ) × (i < n) × (test i ≡ false)) → r ≡ all_below n test
all_said test n true h = sym (all_by test n h)
all_said test n false h = sym (all_fails test n h.0 h.1 h.2)

-- `(0..n).all(|i| ..)`
pub range_all : {F : Type 0} {g : Mut F (ℕ × Unit {0}) Bool} {s : Range ℕ} (u : Range ℕ) (f : F) (r : Bool) (test : ℕ → Bool) (n : ℕ) → s ≡ record { start = 0; end = n } →
    (xs : List ℕ) × (o : Option ℕ) × (j : F) × YieldsThen nat_range_steps s xs o u × FoldsTo (λ p x q. Called g p (x, tt) true q) f xs j × MatchOption o (r ≡ true) (λ x. (r ≡ false) × ((h : F) × Called g j (x, tt) false h)) →
    ((x : ℕ) (b : Bool) (q : F) → Called g f (x, tt) b q → (q ≡ f) × (b ≡ test x)) → r ≡ all_below n test
range_all u f r test n e ran told =
    all_said test n r
    (by r (cases_from_all u f r (λ x. test x ≡ true) (λ x. test x ≡ false) ran (YieldsList-from_range 0 n n e (omega arith))
    (λ x q k. ((told x true q k).0, sym (told x true q k).1)) (λ x q k. sym (told x false q k).1)))
  where
    long : length (range_with_len 0 n) ≡ n
    long = length-range_with_len 0 n

    at : (i : ℕ) → i < n → get_or (range_with_len 0 n) i 0 ≡ i
    at i l = get_or-range_with_len 0 n i 0 l ∙ omega arith

    by : (b : Bool) → MatchBool b (AllWithin (λ x. test x ≡ true) (range_with_len 0 n) 0 (length (range_with_len 0 n))) ((i : ℕ) × (i < length (range_with_len 0 n)) × HoldsAt (λ x. test x ≡ false) (range_with_len 0 n) i) →
        MatchBool b ((i : ℕ) → i < n → test i ≡ true) ((i : ℕ) × (i < n) × (test i ≡ false))
    by true h = λ i l. rw (at i l) at (h i 0 (omega arith) (omega (arith, long)))
    by false h = let l : h.0 < n = omega (arith, long, h.1) in (h.0, l, rw (at h.0 l) at (h.2 0))

-- `v.iter().all(|x| ..)`
pub slice_all : {F : Type 0} {g : Mut F (Bor ℕ × Unit {0}) Bool} {s : Iter ℕ} (u : Iter ℕ) (f : F) (r : Bool) (test : ℕ → Bool) (v : List ℕ) → iter_rest s ≡ v →
    (xs : List (Bor ℕ)) × (o : Option (Bor ℕ)) × (j : F) × YieldsThen fronts s xs o u × FoldsTo (λ p x q. Called g p (x, tt) true q) f xs j × MatchOption o (r ≡ true) (λ x. (r ≡ false) × ((h : F) × Called g j (x, tt) false h)) →
    ((x : Bor ℕ) (b : Bool) (q : F) → Called g f (x, tt) b q → (q ≡ f) × (b ≡ test x.now)) → r ≡ all_below (length v) (λ i. test (get_or v i 0))
slice_all u f r test v e ran told =
    all_said (λ i. test (get_or v i 0)) (length v) r
    (by r (cases_from_all u f r (λ x. test x ≡ true) (λ x. test x ≡ false) ran (YieldsList-from_slice v e)
    (λ x q k. ((told x true q k).0, sym (told x true q k).1)) (λ x q k. sym (told x false q k).1)))
  where
    by : (b : Bool) → MatchBool b (AllWithin (λ x. test x ≡ true) v 0 (length v)) ((i : ℕ) × (i < length v) × HoldsAt (λ x. test x ≡ false) v i) →
        MatchBool b ((i : ℕ) → i < length v → test (get_or v i 0) ≡ true) ((i : ℕ) × (i < length v) × (test (get_or v i 0) ≡ false))
    by true h = λ i l. h i 0 (omega arith) l
    by false h = (h.0, h.1, h.2 0)

-- `(0..n).find(|i| ..)`, where the closure answers whether the test fails
pub range_find : {F : Type 0} {g : Mut F (Bor ℕ × Unit {0}) Bool} (s u : Range ℕ) (f : F) (r : Option ℕ) (test : ℕ → Bool) (n : ℕ) → s ≡ record { start = 0; end = n } →
    (xs : List ℕ) × (j : F) × YieldsThen nat_range_steps s xs r u × FoldsTo (λ p x q. CalledAt g p x false q) f xs j × MatchOption r ⊤ (λ x. (h : F) × CalledAt g j x true h) →
    ((x : ℕ) (b : Bool) (q : F) → CalledAt g f x b q → (q ≡ f) × (b ≡ not (test x))) → MatchOption r (least_fail n test ≡ n) (λ i. (i < n) × (least_fail n test ≡ i))
range_find s u f r test n e ran told =
    by r (first_from_Range s u f r (λ x. test x ≡ false) (λ x. test x ≡ true) ran (λ x q k. not-true (test x) (sym (told x true q k).1))
    (λ x q k. ((told x false q k).0, not-false (test x) (sym (told x false q k).1))))
  where
    by : (o : Option ℕ) → MatchOption o ((k : ℕ) → s.start ≤ k → k < s.end → test k ≡ true) (λ i. (s.start ≤ i) × (i < s.end) × (test i ≡ false) × ((k : ℕ) → s.start ≤ k → k < i → test k ≡ true)) →
        MatchOption o (least_fail n test ≡ n) (λ i. (i < n) × (least_fail n test ≡ i))
    by None h = least_none test n (λ k l. h k (rw e (omega arith)) (rw e l))
    by (Some i) h = let l : i < n = rw e at h.1 in (l, least_is test n i l (λ k b. h.3 k (rw e (omega arith)) b) h.2)
