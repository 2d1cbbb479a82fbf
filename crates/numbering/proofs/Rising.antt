-- Lists of words in rising order: they list each word once, and are equal where they list the same words. Assumes nothing.
use mathlib.Core.Path.{◌≡◌, refl, sym, ap, ◌∙◌}
use mathlib.Core.Logic.{inl, inr}
use mathlib.Core.List.{List, []}
use Prim.Native.Nat.{ℕ, zero, suc, ◌≤◌, ◌<◌, zero-le}
use native.Mathlib.Omega.{arith}
use native.Mathlib.Decide.{dec_lt}
use lib.ListN.{length, get_or}
use lib.Seq.{ext_get_or}
use Rattle.paper.specs.Words.{Before, UpTo}
use Rattle.numbering.proofs.Order.{before_irrefl, before_upto}
use Rattle.numbering.proofs.ListLaws.{Pairs}

module _ (ws : List (List ℕ)) (rises : Pairs Before ws) where
  -- the earlier is up to the later
  pub rises_upto : (i j : ℕ) → i ≤ j → j < length ws → UpTo (get_or ws i []) (get_or ws j [])
  rises_upto i j o l = go (dec_lt i j)
    where
      go : Dec (i < j) → UpTo (get_or ws i []) (get_or ws j [])
      go (yes h) = inr (rises i j h l)
      go (no h) = let e : i ≡ j = omega arith in inl (ap (λ (n : ℕ). get_or ws n []) e)

  -- a word before another stands earlier
  rises_order : (i j : ℕ) → i < length ws → Before (get_or ws i []) (get_or ws j []) → i < j
  rises_order i j l o = go (dec_lt i j)
    where
      go : Dec (i < j) → i < j
      go (yes h) = h
      go (no h) = absurd (before_irrefl (get_or ws i []) (before_upto (get_or ws i []) (get_or ws j []) (get_or ws i []) o (rises_upto j i (omega arith) l)))

  -- no word stands again later
  rises_once : (i j : ℕ) → i ≤ j → j < length ws → get_or ws j [] ≡ get_or ws i [] → i ≡ j
  rises_once i j o l e = go (dec_lt i j)
    where
      go : Dec (i < j) → i ≡ j
      go (yes h) = absurd (before_irrefl (get_or ws i []) (rw e at (rises i j h l)))
      go (no h) = omega arith

-- every word of the first list stands in the second
abbrev pub Within : List (List ℕ) → List (List ℕ) → Type 0
Within ws us = (i : ℕ) → i < length ws → (j : ℕ) × (j < length us) × (get_or us j [] ≡ get_or ws i [])

module _ (ws us : List (List ℕ)) (rise : Pairs Before ws) (rise' : Pairs Before us) (h : Within ws us) where
  -- a word of both lists stands in the second no earlier
  within_later : (i : ℕ) (l : i < length ws) → i ≤ (h i l).0
  within_later zero l = zero-le
  within_later (suc i) l =
      let k : i < length ws = omega arith in
      let o : Before (get_or us (h i k).0 []) (get_or us (h (suc i) l).0 []) = rw ((h i k).2, (h (suc i) l).2) (rise i (suc i) (omega arith) l) in
      omega (arith, within_later i k, rises_order us rise' (h i k).0 (h (suc i) l).0 (h i k).1 o)

  within_length : length ws ≤ length us
  within_length = go (length ws) refl
    where
      go : (n : ℕ) → length ws ≡ n → length ws ≤ length us
      go zero e = omega arith
      go (suc n) e = let l : n < length ws = omega arith in omega (arith, within_later n l, (h n l).1)

-- two lists of the same words in rising order are equal
pub rising_unique : (ws us : List (List ℕ)) → Pairs Before ws → Pairs Before us → Within ws us → Within us ws → ws ≡ us
rising_unique ws us r q h g = ext_get_or [] ws us (omega (arith, within_length ws us r q h, within_length us ws q r g)) same_at
  where
    same_at : (i : ℕ) → i < length ws → get_or ws i [] ≡ get_or us i []
    same_at i l =
        let j = h i l in
        let k = g j.0 j.1 in
        let there : i ≤ j.0 = within_later ws us r q h i l in
        let back : j.0 ≤ k.0 = within_later us ws q r g j.0 j.1 in
        let e : i ≡ k.0 = rises_once ws r i k.0 (omega arith) k.1 (k.2 ∙ j.2) in
        let d : j.0 ≡ i = omega arith in
        rw d at (sym j.2)
