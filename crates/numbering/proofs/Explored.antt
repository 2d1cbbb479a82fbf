-- What `explored` does in each case: it ends, it is full, or it expands one state more. Assumes nothing.
use mathlib.Core.Path.{◌≡◌, refl, sym, ◌∙◌}
use mathlib.Core.List.{List, []}
use Prim.Native.Nat.{ℕ, zero, suc, ◌+◌, ◌≤◌, ◌<◌}
use native.Mathlib.Omega.{arith}
use native.Mathlib.Decide.{dec_lt}
use native.Mathlib.Nat.{not-suc-le-zero}
use lib.ListN.{length, get_or}
use lib.Dec.{ltb}
use borrow.Author.Tests.{lt-ltb, le-ltb}
use Rattle.paper.specs.Numbering.{expanded, explored}
use Rattle.lists.proofs.Tests.{pick_case}
use Rattle.numbering.proofs.ListLaws.{Extends, extends_refl, extends_trans, extends_length}
use Rattle.numbering.proofs.Kept.{expanded_extends}

module _ (key : List ℕ → List ℕ) (step : ℕ → List ℕ → List ℕ) (m room : ℕ) where
  -- no state of number i: nothing is left to expand
  pub explored_end : (turns i : ℕ) (vs : List (List ℕ)) → length vs ≤ i → explored key step m room turns i vs ≡ vs
  unfolding explored
  explored_end zero i vs h = refl
  explored_end (suc turns) i vs h = rw (le-ltb i (length vs) h)

  -- more than the room: the listing stops
  pub explored_full : (turns i : ℕ) (vs : List (List ℕ)) → room < length vs → explored key step m room turns i vs ≡ vs
  unfolding explored
  explored_full zero i vs h = refl
  explored_full (suc turns) i vs h = rw (lt-ltb room (length vs) h) (pick_case (λ us. us ≡ vs) (ltb i (length vs)) vs vs (λ e. refl) (λ e. refl))

  -- state i is expanded
  pub explored_step : (turns i : ℕ) (vs : List (List ℕ)) → i < length vs → length vs ≤ room →
      explored key step m room (suc turns) i vs ≡ explored key step m room turns (suc i) (expanded key step m (get_or vs i []) vs)
  unfolding explored
  explored_step turns i vs h l = rw (lt-ltb i (length vs) h, le-ltb room (length vs) l)

  -- what holds in each case
  pub explored_case : (P : List (List ℕ) → Type 0) (turns i : ℕ) (vs : List (List ℕ)) →
      (length vs ≤ i → P vs) →
      (room < length vs → P vs) →
      (i < length vs → length vs ≤ room → P (explored key step m room turns (suc i) (expanded key step m (get_or vs i []) vs))) →
      P (explored key step m room (suc turns) i vs)
  explored_case P turns i vs end full more = go (dec_lt i (length vs)) (dec_lt room (length vs))
    where
      go : Dec (i < length vs) → Dec (room < length vs) → P (explored key step m room (suc turns) i vs)
      go (no h) d = let l : length vs ≤ i = omega arith in rw (explored_end (suc turns) i vs l) (end l)
      go (yes h) (yes l) = rw (explored_full (suc turns) i vs l) (full l)
      go (yes h) (no l) = let b : length vs ≤ room = omega arith in rw (explored_step turns i vs h b) (more h b)

  -- listed values stay where they are
  pub explored_extends : (turns i : ℕ) (vs : List (List ℕ)) → Extends vs (explored key step m room turns i vs)
  explored_extends zero i vs = unfold explored in extends_refl
  explored_extends (suc turns) i vs =
      let us = expanded key step m (get_or vs i []) vs in
      let later = explored_extends turns (suc i) us in
      explored_case
      (λ ws. Extends vs ws)
      turns
      i
      vs
      (λ h. extends_refl)
      (λ h. extends_refl)
      (λ h l. extends_trans (expanded_extends key step (get_or vs i []) vs m) later)

  -- turns past what the room asks for change nothing
  pub explored_turns : (turns more i : ℕ) (vs : List (List ℕ)) → room < i + turns → turns ≤ more → i ≤ length vs →
      explored key step m room more i vs ≡ explored key step m room turns i vs
  explored_turns zero more i vs f h l =
      explored_full more i vs (omega arith) ∙ sym (explored_full 0 i vs (omega arith))
  explored_turns (suc turns) zero i vs f h l = absurd (not-suc-le-zero h)
  explored_turns (suc turns) (suc more) i vs f h l =
      let us = expanded key step m (get_or vs i []) vs in
      let ih = explored_turns turns more (suc i) us in
      explored_case
      (λ ws. explored key step m room (suc more) i vs ≡ ws)
      turns
      i
      vs
      (λ b. explored_end (suc more) i vs b)
      (λ b. explored_full (suc more) i vs b)
      (λ b d. explored_step more i vs b d ∙ ih (omega arith) (omega arith) (omega (arith, extends_length (expanded_extends key step (get_or vs i []) vs m))))
