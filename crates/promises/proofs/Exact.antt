-- When the builders build, and when exactly they answer 6 or 7. Assumes nothing.
use mathlib.Core.Path.{◌≡◌, refl, ap}
use mathlib.Core.Logic.{◌↔◌, ◌⊎◌, inl, inr, ⊎_elim}
use mathlib.Core.List.{List, []}
use Prim.Native.Nat.{ℕ, ◌<◌}
use native.Mathlib.Omega.{arith}
use lib.ListN.{length}
use Rattle.paper.specs.Reply.{Reply}
use Rattle.paper.specs.Chart.{letters}
use Rattle.paper.specs.Constructions.{Construction, states_of, nerode_by, reduced_by, reverse_by, reverse_states, rows_by, row_states}
use Rattle.paper.specs.Builders.{Forward, forward, nerode, reduced, Lent, Backward, brzozowski}
use Rattle.numbering.specs.Numbered.{KeyDecides}
use Rattle.numbering.proofs.Theorems.{room_exact}
use Rattle.promises.specs.Demands.{Outnumber, ForwardAdmits, ForwardBuilds, ForwardSeven, BackwardAdmits, ReverseFits, RowsOutnumber, BackwardBuilds, BackwardSix, BackwardSeven}
use Rattle.promises.proofs.Decides.{nerode_decides, reduced_decides, reverse_decides, rows_decides}
use Rattle.promises.proofs.Answers.{forward_admits, forward_cases, backward_admits, backward_cases}

-- the states outnumber the room where words of different keys do
outnumbers : (c : List ℕ) (b : Construction) → KeyDecides b (letters c) → (room : ℕ) → (room < length (states_of b (letters c) room)) ↔ Outnumber c b room
unfolding states_of
outnumbers c b decides room = room_exact b.key b.step (letters c) room b.first decides.steps

-- an answer given only where the call is admitted, and there in the same cases as X holds, is given exactly where both do
exactly : {E A X : Type 0} → (E → A) → (A → (E × X) ⊎ ((¬ E) × (¬ X))) → E ↔ (A × X)
exactly {E} {A} {X} admits agree = (to, from)
  where
    to : E → A × X
    to e = (admits e, ⊎_elim (λ h. h.1) (λ h. absurd (h.0 e)) (agree (admits e)))

    from : A × X → E
    from p = ⊎_elim (λ h. h.0) (λ h. absurd (h.1 p.1)) (agree p.0)

-- the number of an answer
number : {r s : Reply} → r ≡ s → r.0 ≡ s.0
number e = ap (λ (r : Reply). r.0) e

-- ---- Nerode and reduced

module _ (c : List ℕ) (b : Construction) (decides : KeyDecides b (letters c)) (room : ℕ) (table vectors : List ℕ) where
  abbrev reply : Reply
  reply = (forward c b room table vectors).reply

  forward_verdict : ForwardAdmits c room table vectors → (Outnumber c b room × (reply ≡ (7, []))) ⊎ ((¬ Outnumber c b room) × (reply.0 ≡ 0))
  forward_verdict a =
      let over = outnumbers c b decides room in
      ⊎_elim
      (λ h. inl (over.0 h.0, ap (λ (o : Forward). o.reply) h.1))
      (λ h. inr (λ many. omega (arith, over.1 many), ap (λ (o : Forward). o.reply.0) h.1))
      (forward_cases c b room table vectors a)

  forward_builds : (reply.0 ≡ 0) ↔ (ForwardAdmits c room table vectors × (¬ Outnumber c b room))
  forward_builds =
      exactly
      (forward_admits c b room table vectors 0 (inl refl))
      (λ a. ⊎_elim (λ h. inr (λ e. omega (arith, number h.1), λ few. few h.0)) (λ h. inl (h.1, h.0)) (forward_verdict a))

  forward_seven : (reply ≡ (7, [])) ↔ (ForwardAdmits c room table vectors × Outnumber c b room)
  forward_seven =
      exactly
      (λ e. forward_admits c b room table vectors 7 (inr (omega arith)) (number e))
      (λ a. ⊎_elim (λ h. inl (h.1, h.0)) (λ h. inr (λ e. omega (arith, number e), h.0)) (forward_verdict a))

pub nerode_builds : ForwardBuilds nerode nerode_by
unfolding nerode
nerode_builds c = forward_builds c (nerode_by c) (nerode_decides c)

pub reduced_builds : ForwardBuilds reduced reduced_by
unfolding reduced
reduced_builds c = forward_builds c (reduced_by c) (reduced_decides c)

pub nerode_seven : ForwardSeven nerode nerode_by
unfolding nerode
nerode_seven c = forward_seven c (nerode_by c) (nerode_decides c)

pub reduced_seven : ForwardSeven reduced reduced_by
unfolding reduced
reduced_seven c = forward_seven c (reduced_by c) (reduced_decides c)

-- ---- Brzozowski

reverse_outnumbers : (c : List ℕ) (reverseRoom : ℕ) → (reverseRoom < length (reverse_states c reverseRoom)) ↔ Outnumber c (reverse_by c) reverseRoom
unfolding reverse_states
reverse_outnumbers c reverseRoom = outnumbers c (reverse_by c) (reverse_decides c) reverseRoom

rows_outnumber : (c : List ℕ) (room reverseRoom : ℕ) → (room < length (row_states c (reverse_states c reverseRoom) room)) ↔ RowsOutnumber c room reverseRoom
unfolding row_states
rows_outnumber c room reverseRoom = outnumbers c (rows_by c (reverse_states c reverseRoom)) (rows_decides c (reverse_states c reverseRoom)) room

backward_verdict : (c : List ℕ) (room reverseRoom : ℕ) (l : Lent) → BackwardAdmits c room reverseRoom l →
    (Outnumber c (reverse_by c) reverseRoom × ((brzozowski c room reverseRoom l).reply ≡ (6, []))) ⊎
    (ReverseFits c reverseRoom ×
    ((RowsOutnumber c room reverseRoom × ((brzozowski c room reverseRoom l).reply ≡ (7, []))) ⊎
    ((¬ RowsOutnumber c room reverseRoom) × ((brzozowski c room reverseRoom l).reply.0 ≡ 0))))
backward_verdict c room reverseRoom l a =
    let reverse-over = reverse_outnumbers c reverseRoom in
    let rows_over = rows_outnumber c room reverseRoom in
    ⊎_elim
    (λ h. inl (reverse-over.0 h.0, ap (λ (o : Backward). o.reply) h.1))
    (λ h. inr (
      λ many. omega (arith, h.0, reverse-over.1 many),
      ⊎_elim
          (λ g. inl (rows_over.0 g.0, ap (λ (o : Backward). o.reply) g.1))
          (λ g. inr (λ many. omega (arith, g.0, rows_over.1 many), ap (λ (o : Backward). o.reply.0) g.1))
          h.1,
    ))
    (backward_cases c room reverseRoom l a)

pub brzozowski_builds : BackwardBuilds brzozowski
brzozowski_builds c room reverseRoom l =
    exactly
    (backward_admits c room reverseRoom l 0 (inl refl))
    (λ a.
    ⊎_elim
    (λ h. inr (λ e. omega (arith, number h.1), λ p. p.0 h.0))
    (λ h. ⊎_elim (λ g. inr (λ e. omega (arith, number g.1), λ p. p.1 g.0)) (λ g. inl (g.1, (h.0, g.0))) h.1)
    (backward_verdict c room reverseRoom l a))

pub brzozowski_six : BackwardSix brzozowski
brzozowski_six c room reverseRoom l =
    exactly
    (λ e. backward_admits c room reverseRoom l 6 (inr (omega arith)) (number e))
    (λ a.
    ⊎_elim
    (λ h. inl (h.1, h.0))
    (λ h. inr (λ e. ⊎_elim (λ g. omega (arith, number g.1, number e)) (λ g. omega (arith, number e)) h.1, h.0))
    (backward_verdict c room reverseRoom l a))

pub brzozowski_seven : BackwardSeven brzozowski
brzozowski_seven c room reverseRoom l =
    exactly
    (λ e. backward_admits c room reverseRoom l 7 (inr (omega arith)) (number e))
    (λ a.
    ⊎_elim
    (λ h. inr (λ e. omega (arith, number h.1, number e), λ p. p.0 h.0))
    (λ h. ⊎_elim (λ g. inl (g.1, (h.0, g.0))) (λ g. inr (λ e. omega (arith, number e), λ p. g.0 p.1)) h.1)
    (backward_verdict c room reverseRoom l a))
