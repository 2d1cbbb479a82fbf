-- The index of kept numbers: what it says, that a walk along a chain passes over no place with the number, and adding a place. Assumes
-- nothing.
use mathlib.Core.Path.{◌≡◌, refl, sym, ap, ◌∙◌}
use mathlib.Core.List.{List}
use Prim.Native.Nat.{ℕ, zero, suc, ◌+◌, ◌≤◌, ◌<◌}
use native.Mathlib.Nat.{le_refl}
use native.Mathlib.Numerals.{add-one}
use native.Mathlib.Omega.{arith}
use native.Mathlib.Decide.{dec_lt}
use lib.ListN.{length, get_or, set, replicate, get_or-replicate}
use lib.Seq.{get_or-set_same, get_or-set_other}
use lib.Dec.{eqb}
use borrow.Author.Tests.{eqb-true, eqb-false}
use Rattle.lists.proofs.Tests.{pick_case, below_suc}
use Rattle.marks.specs.declared.chains.Index.{Index}
use Rattle.marks.specs.Chains.{buckets, bucket_of, last_in, Chained}

-- ---- the last place of a bucket

module _ (marks : List ℕ) (h : ℕ) where
  pub last_low : (n : ℕ) → last_in marks h n ≤ n
  unfolding last_in
  last_low zero = le_refl 0
  last_low (suc n) =
      pick_case (λ (p : ℕ). p ≤ suc n) (eqb (bucket_of (get_or marks n 0)) h) (suc n) (last_in marks h n)
      (λ _. le_refl (suc n)) (λ _. omega (arith, last_low n))

  -- it is in the bucket
  pub last_own : (n s : ℕ) → suc s ≡ last_in marks h n → bucket_of (get_or marks s 0) ≡ h
  unfolding last_in
  last_own zero s = λ e. absurd (omega arith)
  last_own (suc n) s =
      pick_case (λ (p : ℕ). suc s ≡ p → bucket_of (get_or marks s 0) ≡ h) (eqb (bucket_of (get_or marks n 0)) h) (suc n) (last_in marks h n)
      (λ q e. let i : s ≡ n = omega arith in rw i (eqb-true (bucket_of (get_or marks n 0)) h q)) (λ _. last_own n s)

  -- and none past it is
  pub last_none : (n t : ℕ) → last_in marks h n ≤ t → t < n → bucket_of (get_or marks t 0) ≡ h → ⊥
  unfolding last_in
  last_none zero t = λ l b. absurd (omega arith)
  last_none (suc n) t =
      pick_case (λ (p : ℕ). p ≤ t → t < suc n → bucket_of (get_or marks t 0) ≡ h → ⊥) (eqb (bucket_of (get_or marks n 0)) h) (suc n) (last_in marks h n)
      (λ _ l b. absurd (omega arith))
      (λ q l b.
      below_suc {P = λ j. last_in marks h n ≤ j → bucket_of (get_or marks j 0) ≡ h → ⊥} n (λ j b l. last_none n j l b) (λ _. eqb-false (bucket_of (get_or marks n 0)) h q) t b l)

-- it depends on the numbers of those places only
pub last_cong : (a b : List ℕ) (h n : ℕ) → ((t : ℕ) → t < n → get_or a t 0 ≡ get_or b t 0) → last_in a h n ≡ last_in b h n
unfolding last_in
last_cong a b h zero e = refl
last_cong a b h (suc n) e = rw (e n (omega arith), last_cong a b h n (λ t l. e t (omega arith)))

-- ---- walking a chain

-- an entry that a walk along a number's chain comes to: 0, or that of a place in the number's bucket
pub record OnChain (marks : List ℕ) (held number p : ℕ) : Type 0 where
  pub low : p ≤ held
  pub own : (s : ℕ) → suc s ≡ p → bucket_of (get_or marks s 0) ≡ bucket_of number

-- Q holds of no place from p on and before top
abbrev pub NoneFrom : (ℕ → Type 0) → ℕ → ℕ → Type 0
NoneFrom Q p top = (t : ℕ) → p ≤ t → t < top → Q t → ⊥

module _ {index : Index} {held : ℕ} (k : Chained index held) (number : ℕ) where
  head_last : {p : ℕ} → p ≡ get_or index.heads (bucket_of number) 0 → p ≡ last_in index.marks (bucket_of number) held
  head_last e = e ∙ k.head_is (bucket_of number) (omega arith)

  -- where it starts
  pub start_on : {p : ℕ} → p ≡ get_or index.heads (bucket_of number) 0 → OnChain index.marks held number p
  start_on e =
      let q = head_last e in
      record { low = rw q (last_low index.marks (bucket_of number) held); own = λ s f. last_own index.marks (bucket_of number) held s (f ∙ q) }

  link_last : {p s q : ℕ} → OnChain index.marks held number p → suc s ≡ p → q ≡ get_or index.links s 0 → q ≡ last_in index.marks (bucket_of number) s
  link_last {s = s} o f e = e ∙ k.link_is s (omega (arith, o.low)) ∙ ap (λ (h : ℕ). last_in index.marks h s) (o.own s f)

  -- where it goes on: further down
  pub next_on : {p s q : ℕ} → OnChain index.marks held number p → suc s ≡ p → q ≡ get_or index.links s 0 → OnChain index.marks held number q
  next_on {s = s} o f e =
      let q = link_last o f e in
      record { low = rw q (omega (arith, last_low index.marks (bucket_of number) s, o.low)); own = λ r g. last_own index.marks (bucket_of number) s r (g ∙ q) }

  pub next_low : {p s q : ℕ} → OnChain index.marks held number p → suc s ≡ p → q ≡ get_or index.links s 0 → q ≤ s
  next_low {s = s} o f e = rw (link_last o f e) (last_low index.marks (bucket_of number) s)

  -- it passes over no place that has what only places with the number have
  module _ (Q : ℕ → Type 0) (numbered : (t : ℕ) → t < held → Q t → get_or index.marks t 0 ≡ number) where
    pub none_start : {p : ℕ} → p ≡ get_or index.heads (bucket_of number) 0 → NoneFrom Q p held
    none_start e t l b q =
        last_none index.marks (bucket_of number) held t (rw (← head_last e) l) b (ap bucket_of (numbered t b q))

    -- a place that has it and is not below top need not be told apart
    pub none_next : {p s q top : ℕ} → OnChain index.marks held number p → suc s ≡ p → q ≡ get_or index.links s 0 → NoneFrom Q p top → (s < top → Q s → ⊥) → NoneFrom Q q top
    none_next {p} {s} {q} o f e past here t l b h = go (dec_lt t s) (dec_lt s t)
      where
        go : Dec (t < s) → Dec (s < t) → ⊥
        go (yes i) j = last_none index.marks (bucket_of number) s t (rw (← link_last o f e) l) i (ap bucket_of (numbered t (omega (arith, o.low)) h))
        go (no i) (yes j) = past t (omega arith) b h
        go (no i) (no j) = let e : t ≡ s = omega arith in here (rw e at b) (rw e at h)

-- ---- adding a place
pub chained_none : (index : Index) → index.heads ≡ replicate buckets 0 → Chained index 0
unfolding last_in
chained_none index e =
    record {
      head_is = λ h b. rw e (get_or-replicate buckets h 0 0 b);
      link_is = λ s b. absurd (omega arith);
    }

module _ {index : Index} {held : ℕ} (k : Chained index held) (number : ℕ) (headed : length index.heads ≡ buckets) (linked : held < length index.links)
    (marked : held < length index.marks) where
  old : (h n : ℕ) → n ≤ held → last_in index.marks h n ≡ last_in (set index.marks held number) h n
  old h n b = last_cong index.marks (set index.marks held number) h n (λ t i. sym (get_or-set_other index.marks held t number 0 (λ e. omega arith)))

  new : get_or (set index.marks held number) held 0 ≡ number
  new = get_or-set_same index.marks held number 0 marked

  heads_more : (h : ℕ) → h < buckets → get_or (set index.heads (bucket_of number) (suc held)) h 0 ≡ last_in (set index.marks held number) h (suc held)
  unfolding last_in
  heads_more h b =
      pick_case (λ (p : ℕ). get_or (set index.heads (bucket_of number) (suc held)) h 0 ≡ p) (eqb (bucket_of (get_or (set index.marks held number) held 0)) h) (suc held) (last_in (set index.marks held number) h held)
      (λ q. let e : bucket_of number ≡ h = ap bucket_of (sym new) ∙ eqb-true _ h q in
      rw e (get_or-set_same index.heads h (suc held) 0 (rw headed b)))
      (λ q. get_or-set_other index.heads (bucket_of number) h (suc held) 0 (λ e. eqb-false _ h q (ap bucket_of new ∙ sym e)) ∙ k.head_is h b ∙ old h held (le_refl held))

  links_more : (s : ℕ) → s < suc held → get_or (set index.links held (get_or index.heads (bucket_of number) 0)) s 0 ≡ last_in (set index.marks held number) (bucket_of (get_or (set index.marks held number) s 0)) s
  links_more =
      below_suc {P = λ s. get_or (set index.links held (get_or index.heads (bucket_of number) 0)) s 0 ≡ last_in (set index.marks held number) (bucket_of (get_or (set index.marks held number) s 0)) s} held
      (λ s b.
      get_or-set_other index.links held s _ 0 (λ e. omega arith) ∙ k.link_is s b ∙ old _ s (omega arith)
      ∙ ap (λ (a : ℕ). last_in (set index.marks held number) (bucket_of a) s) (sym (get_or-set_other index.marks held s number 0 (λ e. omega arith))))
      (get_or-set_same index.links held _ 0 linked ∙ k.head_is (bucket_of number) (omega arith) ∙ old _ held (le_refl held)
      ∙ ap (λ (a : ℕ). last_in (set index.marks held number) (bucket_of a) held) (sym new))

  pub chained_more :
      Chained (record { heads = set index.heads (bucket_of number) (held + 1); links = set index.links held (get_or index.heads (bucket_of number) 0); marks = set index.marks held number }) (held + 1)
  chained_more = rw add-one (record { head_is = heads_more; link_is = links_more })
