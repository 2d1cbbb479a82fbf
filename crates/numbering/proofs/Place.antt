-- `place` is the first place of a key among the keys of a list. Assumes nothing.
use mathlib.Core.Path.{◌≡◌, ap}
use mathlib.Core.List.{List, [], ◌∷◌, ◌++◌}
use Prim.Native.Nat.{ℕ, zero, suc, ◌≤◌, ◌<◌, zero-le, suc-le-suc}
use native.Mathlib.Omega.{arith}
use native.Mathlib.Nat.{le_of_suc-le-suc, not-suc-le-zero}
use native.Mathlib.Decide.{dec_lt, dec_le}
use lib.Seq.{get_or-append_seam}
use lib.ListN.{length, get_or, length-append, get_or-append}
use Rattle.paper.specs.Lists.{same_list}
use Rattle.paper.specs.Numbering.{place}
use Rattle.lists.proofs.Tests.{pick_true, pick_false, pick_case}
use Rattle.lists.proofs.ByPlace.{same_true, same_by, same_false, same_not}
use Rattle.numbering.proofs.ListLaws.{Extends}

module _ (key : List ℕ → List ℕ) where
  -- the first value has the key: it stands at 0
  pub place_here : (w : List ℕ) (vs : List (List ℕ)) (v : List ℕ) → key w ≡ key v → place key (w ∷ vs) v ≡ 0
  unfolding place
  place_here w vs v e = pick_true (same_list (key w) (key v)) 0 (suc (place key vs v)) (same_by (key w) (key v) e)

  -- it has another key: the place is one behind that among the rest
  pub place_there : (w : List ℕ) (vs : List (List ℕ)) (v : List ℕ) → (key w ≡ key v → ⊥) → place key (w ∷ vs) v ≡ suc (place key vs v)
  unfolding place
  place_there w vs v n = pick_false (same_list (key w) (key v)) 0 (suc (place key vs v)) (same_not (key w) (key v) n)

  -- what holds of the place in both cases
  pub place_case : (P : ℕ → Type 0) (w : List ℕ) (vs : List (List ℕ)) (v : List ℕ) →
      (key w ≡ key v → P 0) → ((key w ≡ key v → ⊥) → P (suc (place key vs v))) → P (place key (w ∷ vs) v)
  unfolding place
  place_case P w vs v here there =
      pick_case
      P
      (same_list (key w) (key v))
      0
      (suc (place key vs v))
      (λ e. here (same_true (key w) (key v) e))
      (λ e. there (same_false (key w) (key v) e))

  -- no place is past the length
  pub place_le : (vs : List (List ℕ)) (v : List ℕ) → place key vs v ≤ length vs
  place_le [] v = unfold place in zero-le
  place_le (w ∷ vs) v = place_case (λ p. p ≤ suc (length vs)) w vs v (λ e. zero-le) (λ n. suc-le-suc (place_le vs v))

  -- the value at a place has the key
  pub place_key : (vs : List (List ℕ)) (v : List ℕ) → place key vs v < length vs → key (get_or vs (place key vs v) []) ≡ key v
  place_key [] v = λ h. absurd (not-suc-le-zero h)
  place_key (w ∷ vs) v =
      place_case (λ p. p < suc (length vs) → key (get_or (w ∷ vs) p []) ≡ key v) w vs v (λ e h. e) (λ n h. place_key vs v (le_of_suc-le-suc h))

  -- no value before the place has it
  pub place_first : (vs : List (List ℕ)) (v : List ℕ) (i : ℕ) → i < place key vs v → key (get_or vs i []) ≡ key v → ⊥
  place_first [] v i = unfold place in λ h e. not-suc-le-zero h
  place_first (w ∷ vs) v zero = place_case (λ p. 0 < p → key w ≡ key v → ⊥) w vs v (λ e h. absurd (not-suc-le-zero h)) (λ n h e. n e)
  place_first (w ∷ vs) v (suc i) =
      place_case
      (λ p. suc i < p → key (get_or vs i []) ≡ key v → ⊥)
      w
      vs
      v
      (λ e h. absurd (not-suc-le-zero h))
      (λ n h. place_first vs v i (le_of_suc-le-suc h))

  -- a listed value has the key: the place is no later than it
  pub place_at_most : (vs : List (List ℕ)) (v : List ℕ) (i : ℕ) → key (get_or vs i []) ≡ key v → place key vs v ≤ i
  place_at_most vs v i e = go (dec_le (place key vs v) i)
    where
      go : Dec (place key vs v ≤ i) → place key vs v ≤ i
      go (yes h) = h
      go (no h) = absurd (place_first vs v i (omega arith) e)

  pub place_found : (vs : List (List ℕ)) (v : List ℕ) (i : ℕ) → i < length vs → key (get_or vs i []) ≡ key v → place key vs v < length vs
  place_found vs v i h e = omega (arith, place_at_most vs v i e)

  -- no listed value has the key of one that has no place
  pub place_none : (vs : List (List ℕ)) (v : List ℕ) → place key vs v ≡ length vs → (i : ℕ) → i < length vs → key (get_or vs i []) ≡ key v → ⊥
  place_none vs v p i h e = place_first vs v i (omega arith) e

  -- and where no listed value has the key, it stands at none
  pub place_nowhere : (vs : List (List ℕ)) (v : List ℕ) → ((i : ℕ) → i < length vs → key (get_or vs i []) ≡ key v → ⊥) → place key vs v ≡ length vs
  place_nowhere vs v f = go (dec_lt (place key vs v) (length vs))
    where
      go : Dec (place key vs v < length vs) → place key vs v ≡ length vs
      go (yes h) = absurd (f (place key vs v) h (place_key vs v h))
      go (no h) = omega (arith, place_le vs v)

  -- a listed value has the key and none before it has: it stands at the place
  pub place_is : (vs : List (List ℕ)) (v : List ℕ) (i : ℕ) → i < length vs → key (get_or vs i []) ≡ key v →
      ((j : ℕ) → j < i → key (get_or vs j []) ≡ key v → ⊥) → place key vs v ≡ i
  place_is vs v i h e first = go (dec_lt (place key vs v) i)
    where
      go : Dec (place key vs v < i) → place key vs v ≡ i
      go (yes l) = absurd (first (place key vs v) l (place_key vs v (omega arith)))
      go (no l) = omega (arith, place_at_most vs v i e)

  -- a place stays, whatever is listed behind
  pub place_extends : {vs us : List (List ℕ)} (v : List ℕ) → Extends vs us → place key vs v < length vs → place key us v ≡ place key vs v
  place_extends {vs} v a h =
      rw a.is
      (place_is
      (vs ++ a.more)
      v
      (place key vs v)
      (simp length-append (omega arith))
      (rw (get_or-append vs a.more [] (place key vs v) h) (place_key vs v h))
      (λ j l e. place_first vs v j l (rw (get_or-append vs a.more [] j (omega arith)) at e)))

  -- a value of a new key stands, once it is put behind, at the old length
  pub place_new : (vs : List (List ℕ)) (v : List ℕ) → place key vs v ≡ length vs → place key (vs ++ (v ∷ [])) v ≡ length vs
  place_new vs v p =
      place_is
      (vs ++ (v ∷ []))
      v
      (length vs)
      (simp length-append (omega arith))
      (ap key (get_or-append_seam vs v [] []))
      (λ j l e. place_none vs v p j l (rw (get_or-append vs (v ∷ []) [] j l) at e))
