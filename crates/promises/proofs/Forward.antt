-- Demand 2 for the Nerode and the reduced call: two instances of one proof, which go by their keys. Assumes nothing.
use mathlib.Core.Path.{◌≡◌, refl, sym, ap, subst}
use mathlib.Core.Logic.Iff
use mathlib.Core.Logic.{◌↔◌, inl, ⊎_elim}
use mathlib.Core.List.{List, []}
use Prim.Native.Nat.{ℕ, suc, ◌≤◌, ◌<◌}
use native.Mathlib.Omega.{arith}
use lib.ListN.{length, get_or}
use Rattle.paper.specs.Chart.{n_of, letters, start_vec}
use Rattle.paper.specs.Vectors.{row_times, vector_of, end_grade, grade_of}
use Rattle.paper.specs.Numbering.{itself}
use Rattle.paper.specs.Constructions.{Construction, states_of, nerode_by, reduced_key, reduced_by}
use Rattle.paper.specs.Builders.{state_most, placed, vector_at, Forward, forward_room, forward, nerode, reduced}
use Rattle.numbering.specs.Numbered.{KeyDecides}
use Rattle.numbering.proofs.Theorems.{states_each}
use Rattle.algebra.proofs.Checked.{sound}
use Rattle.algebra.proofs.Vectors.{length_row, length_start, grade_low}
use Rattle.algebra.proofs.Words.{reduced_rows, reduced_grade, reduced_same}
use Rattle.promises.specs.Faithful.{EveryWord, Faithful, of_forward, SameVector, SameAfterLetters}
use Rattle.promises.specs.Demands.{ForwardAdmits, ForwardFaithful}
use Rattle.promises.proofs.Decides.{nerode_decides, reduced_decides}
use Rattle.promises.proofs.Placed.{placed_vector}
use Rattle.promises.proofs.Faithful.{faithful}
use Rattle.promises.proofs.Answers.{room_facts, forward_made, forward_admits, forward_cases}

-- ---- for any key of vectors

module _
    (c : List ℕ)
    (key : List ℕ → List ℕ)
    (decides : KeyDecides (record { first = start_vec c; step = row_times c; key = key; grade = end_grade c }) (letters c))
    (alike : List ℕ → List ℕ → Type 0)
    (same : EveryWord c (λ u. EveryWord c (λ w. (key (vector_of c u) ≡ key (vector_of c w)) ↔ alike u w)))
    (room : ℕ)
    (table vectors : List ℕ)
  where
    abbrev b : Construction
    b = record { first = start_vec c; step = row_times c; key = key; grade = end_grade c }

    abbrev S : List (List ℕ)
    S = states_of b (letters c) room

    state_length : (s : ℕ) → s < length S → length (get_or S s []) ≡ n_of c
    unfolding states_of
    state_length = states_each key (row_times c) (letters c) room (start_vec c) (λ v. length v ≡ n_of c) (length_start c) (λ x h w e. length_row c x w)

    made_faithful : ForwardAdmits c room table vectors → length S ≤ room → Faithful c b (grade_of c) alike (of_forward c (forward_made c b room table vectors))
    unfolding vector_of grade_of forward_room
    made_faithful a fits =
        let r = room_facts state_most (letters c) (n_of c) room (length table) (length vectors) a.1 in
        let ok = sound c a.0 in
        faithful
        c
        ok
        b
        decides
        (grade_of c)
        (λ u w. refl)
        (grade_low c ok)
        alike
        same
        room
        r.high
        fits
        table
        (vector_at (placed (n_of c) (suc room) S vectors) (n_of c) (length S))
        (λ s l.
        placed_vector (n_of c) (suc room) S vectors (omega arith) r.long (λ t h. omega (arith, state_length t h)) s l (state_length s l))

    forward_faithful : (forward c b room table vectors).reply.0 ≡ 0 → Faithful c b (grade_of c) alike (of_forward c (forward c b room table vectors))
    forward_faithful e =
        let a = forward_admits c b room table vectors 0 (inl refl) e in
        ⊎_elim
        (λ h. absurd (omega (arith, ap (λ (o : Forward). o.reply.0) h.1)))
        (λ h. subst (λ (o : Forward). Faithful c b (grade_of c) alike (of_forward c o)) (sym h.1) (made_faithful a h.0))
        (forward_cases c b room table vectors a)

-- ---- the two calls

pub nerode_faithful : ForwardFaithful nerode nerode_by SameVector
unfolding nerode
nerode_faithful c = forward_faithful c itself (nerode_decides c) (SameVector c) (λ u hu w hw. Iff.rfl)

pub reduced_faithful : ForwardFaithful reduced reduced_by SameAfterLetters
unfolding reduced grade_of
reduced_faithful c =
    forward_faithful
    c
    (reduced_key c)
    (reduced_decides c)
    (SameAfterLetters c)
    (λ u hu w hw. (
      λ e. (reduced_rows c (vector_of c u) (vector_of c w) e, reduced_grade c (vector_of c u) (vector_of c w) e),
      λ h. reduced_same c (vector_of c u) (vector_of c w) h.0 h.1,
    ))
