-- What `kept` and `expanded` leave where it is and what they add, for any key and step. Assumes nothing.
use mathlib.Core.Path.{◌≡◌, refl, sym, ◌∙◌}
use mathlib.Core.List.{List, [], ◌∷◌, ◌++◌}
use Prim.Native.Nat.{ℕ, suc, ◌≤◌, ◌<◌}
use native.Mathlib.Omega.{arith}
use native.Mathlib.Decide.{dec_lt, le_ind}
use lib.ListN.{length, length-append}
use lib.Dec.{eqb}
use borrow.Author.Tests.{eq-eqb, ne_eqb}
use Rattle.paper.specs.Numbering.{place, kept, expanded}
use Rattle.lists.proofs.Tests.{pick_true, pick_false}
use Rattle.numbering.proofs.ListLaws.{Extends, extends_refl, extends_snoc, extends_trans, extends_length}
use Rattle.numbering.proofs.Place.{place_le, place_new, place_extends}

module _ (key : List ℕ → List ℕ) where
  -- a listed key is not kept again
  pub kept_old : (vs : List (List ℕ)) (v : List ℕ) → place key vs v < length vs → kept key vs v ≡ vs
  unfolding kept
  kept_old vs v h = pick_false (eqb (place key vs v) (length vs)) (vs ++ (v ∷ [])) vs (ne_eqb (place key vs v) (length vs) (λ e. omega arith))

  -- a new key is kept behind the others
  pub kept_new : (vs : List (List ℕ)) (v : List ℕ) → place key vs v ≡ length vs → kept key vs v ≡ vs ++ (v ∷ [])
  unfolding kept
  kept_new vs v h = pick_true (eqb (place key vs v) (length vs)) (vs ++ (v ∷ [])) vs (eq-eqb (place key vs v) (length vs) h)

  -- what holds of the kept values in both cases
  pub kept_case : (P : List (List ℕ) → Type 0) (vs : List (List ℕ)) (v : List ℕ) →
      (place key vs v < length vs → P vs) → (place key vs v ≡ length vs → P (vs ++ (v ∷ []))) → P (kept key vs v)
  kept_case P vs v old new = go (dec_lt (place key vs v) (length vs))
    where
      go : Dec (place key vs v < length vs) → P (kept key vs v)
      go (yes h) = rw (kept_old vs v h) (old h)
      go (no h) = let e : place key vs v ≡ length vs = omega (arith, place_le key vs v) in rw (kept_new vs v e) (new e)

  -- earlier values stay where they are
  pub kept_extends : (vs : List (List ℕ)) (v : List ℕ) → Extends vs (kept key vs v)
  kept_extends vs v = kept_case (λ us. Extends vs us) vs v (λ h. extends_refl) (λ e. extends_snoc v)

  -- once kept, a value stands at the place found before
  pub place_kept : (vs : List (List ℕ)) (v : List ℕ) → place key (kept key vs v) v ≡ place key vs v
  place_kept vs v = kept_case (λ us. place key us v ≡ place key vs v) vs v (λ h. refl) (λ e. place_new key vs v e ∙ sym e)

  pub kept_found : (vs : List (List ℕ)) (v : List ℕ) → place key (kept key vs v) v < length (kept key vs v)
  kept_found vs v =
      kept_case
      (λ us. place key us v < length us)
      vs
      v
      (λ h. h)
      (λ e. rw (place_new key vs v e) (simp length-append (omega arith)))

  module _ (step : ℕ → List ℕ → List ℕ) (v : List ℕ) (vs : List (List ℕ)) where
    -- one letter more
    pub expanded_suc : (x : ℕ) → expanded key step (suc x) v vs ≡ kept key (expanded key step x v vs) (step x v)
    unfolding expanded
    expanded_suc x = refl

    -- more letters list more behind
    pub expanded_more : (x y : ℕ) → x ≤ y → Extends (expanded key step x v vs) (expanded key step y v vs)
    expanded_more x y = le_ind (λ z. Extends (expanded key step x v vs) (expanded key step z v vs)) extends_refl more y
      where
        more : (z : ℕ) → x ≤ z → Extends (expanded key step x v vs) (expanded key step z v vs) →
            Extends (expanded key step x v vs) (expanded key step (suc z) v vs)
        more z h a = rw (expanded_suc z) (extends_trans a (kept_extends (expanded key step z v vs) (step z v)))

    pub expanded_extends : (x : ℕ) → Extends vs (expanded key step x v vs)
    unfolding expanded
    expanded_extends x = expanded_more 0 x (omega arith)

    -- what a letter below x leads to has a place
    pub expanded_found : (y x : ℕ) → y < x → place key (expanded key step x v vs) (step y v) < length (expanded key step x v vs)
    expanded_found y x h =
        let a = expanded_more (suc y) x h in
        let f : place key (expanded key step (suc y) v vs) (step y v) < length (expanded key step (suc y) v vs) =
        rw (expanded_suc y) (kept_found (expanded key step y v vs) (step y v)) in
        rw (place_extends key (step y v) a f) (omega (arith, extends_length a))
