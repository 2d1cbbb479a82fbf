-- Two constructions whose steps agree on every letter have the same states and the same table. Assumes nothing.
use mathlib.Core.Path.{◌≡◌, refl, ap, ap₂, ◌∙◌}
use mathlib.Core.List.{List, [], ◌∷◌}
use Prim.Native.Nat.{ℕ, zero, suc, ◌≤◌, ◌<◌}
use native.Mathlib.Omega.{arith}
use lib.ListN.{length, get_or}
use lib.Dec.{ltb}
use Rattle.paper.specs.Lists.{pick}
use Rattle.paper.specs.Tables.{two_bytes}
use Rattle.paper.specs.Numbering.{place, kept, expanded, explored, states}
use Rattle.paper.specs.Constructions.{states_of, next_bytes, row_of, state_row, table_of}
use Rattle.lists.proofs.ByPlace.{joined_cong}

module _ (key : List ℕ → List ℕ) (step step' : ℕ → List ℕ → List ℕ) (m : ℕ) (same : (x : ℕ) → x < m → (v : List ℕ) → step x v ≡ step' x v) where
  expanded_same : (x : ℕ) (v : List ℕ) (vs : List (List ℕ)) → x ≤ m → expanded key step x v vs ≡ expanded key step' x v vs
  unfolding expanded
  expanded_same zero v vs l = refl
  expanded_same (suc x) v vs l = ap₂ (kept key) (expanded_same x v vs (omega arith)) (same x l v)

  explored_same : (room turns i : ℕ) (vs : List (List ℕ)) → explored key step m room turns i vs ≡ explored key step' m room turns i vs
  unfolding explored
  explored_same room zero i vs = refl
  explored_same room (suc turns) i vs =
      ap (λ (us : List (List ℕ)). pick (ltb i (length vs)) (pick (ltb room (length vs)) vs us) vs)
      (explored_same room turns (suc i) (expanded key step m (get_or vs i []) vs)
      ∙ ap (explored key step' m room turns (suc i)) (expanded_same m (get_or vs i []) vs (omega arith)))

  pub states_same : (room : ℕ) {first first' : List ℕ} (grade : List ℕ → ℕ) → first ≡ first' →
      states_of (record { first = first; step = step; key = key; grade = grade }) m room ≡ states_of (record { first = first'; step = step'; key = key; grade = grade }) m room
  unfolding states_of states
  states_same room {first} grade e = explored_same room (suc room) 0 (first ∷ []) ∙ ap (λ (v : List ℕ). explored key step' m room (suc room) 0 (v ∷ [])) e

  pub table_same : (first first' : List ℕ) (grade : List ℕ → ℕ) (vs : List (List ℕ)) →
      table_of (record { first = first; step = step; key = key; grade = grade }) m vs ≡ table_of (record { first = first'; step = step'; key = key; grade = grade }) m vs
  unfolding table_of state_row row_of next_bytes
  table_same first first' grade vs =
      joined_cong (length vs) _ _
      (λ s l. ap (λ (r : List ℕ). grade (get_or vs s []) ∷ r) (joined_cong m _ _ (λ x b. ap (λ (w : List ℕ). two_bytes (place key vs w)) (same x b (get_or vs s [])))))
