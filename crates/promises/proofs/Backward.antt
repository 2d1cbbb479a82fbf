-- Demand 2 for the Brzozowski call: its table, its reverse table, its rows, and that no table is smaller. Assumes nothing.
use mathlib.Core.Path.{◌≡◌, refl, sym, ap, ◌∙◌, subst}
use mathlib.Core.Logic.Iff
use mathlib.Core.Logic.{◌↔◌, inl, ⊎_elim}
use mathlib.Core.List.{List, [], ◌++◌, reverse}
use Prim.Native.Nat.{ℕ, suc, ◌≤◌, ◌<◌}
use native.Mathlib.Omega.{arith}
use lib.ListN.{length, get_or}
use Rattle.paper.specs.Words.{Word, after}
use Rattle.paper.specs.Chart.{n_of, letters, end_vec}
use Rattle.paper.specs.Vectors.{times_col, combine, vector_of, grade_of, reverse_of}
use Rattle.paper.specs.Numbering.{itself, first_words}
use Rattle.paper.specs.Constructions.{states_of, reverse_by, reverse_states, first_row, first_row_at, row_after, row_after_at, row_grade, rows_by, row_states}
use Rattle.paper.specs.Builders.{state_most, reverse_most, room_fits, Lent, Backward, backward_room, brzozowski}
use Rattle.lists.proofs.Tests.{both_split}
use Rattle.lists.proofs.ByPlace.{length_tabulate}
use Rattle.numbering.proofs.Words.{word_append, word_reverse, after_append}
use Rattle.numbering.proofs.Theorems.{states_at, first_words_letters, states_distinct, states_some, states_start, states_each, states_closed}
use Rattle.algebra.proofs.Checked.{Sound, sound}
use Rattle.algebra.proofs.Vectors.{length_col, length_end, grade_low}
use Rattle.algebra.proofs.Words.{reverse_grade, Reverses, vector_row_at_lem, row_of_word, row_grade_lem}
use Rattle.algebra.proofs.Smallest.{word_row, alike_rows, smallest}
use Rattle.promises.specs.Faithful.{of_reverse, of_rows, EveryWord, Faithful, SameFuture, SameReverse}
use Rattle.promises.specs.Demands.{OnceBuilt, RowsFaithful, ReverseFaithful, RowsCombine, Smallest, BackwardAdmits}
use Rattle.promises.proofs.Decides.{reverse_decides, rows_decides}
use Rattle.promises.proofs.Placed.{placed_used, placed_vector}
use Rattle.promises.proofs.Faithful.{values_are, faithful}
use Rattle.promises.proofs.Answers.{Room, room_facts, backward_made, backward_admits, backward_cases}

-- ---- the reverse vectors, once they fit their room

reverses : (c : List ℕ) (reverseRoom : ℕ) → length (reverse_states c reverseRoom) ≤ reverseRoom → Reverses c (reverse_states c reverseRoom)
unfolding reverse_states states_of reverse_of
reverses c reverseRoom fits =
    record {
      some = states_some itself (times_col c) (letters c) reverseRoom (end_vec c);
      first = states_start itself (times_col c) (letters c) reverseRoom (end_vec c);
      closed = λ i x l h. states_closed itself (times_col c) (letters c) reverseRoom (end_vec c) (reverse_decides c).steps fits i l x h;
      reached =
          λ i l. (
            get_or (first_words itself (times_col c) (letters c) reverseRoom (end_vec c)) i [],
            (
              first_words_letters itself (times_col c) (letters c) reverseRoom (end_vec c) i l,
              states_at itself (times_col c) (letters c) reverseRoom (end_vec c) i l,
            ),
          );
    }

reverse_length : (c : List ℕ) (reverseRoom s : ℕ) → s < length (reverse_states c reverseRoom) → length (get_or (reverse_states c reverseRoom) s []) ≡ n_of c
unfolding reverse_states states_of
reverse_length c reverseRoom =
    states_each itself (times_col c) (letters c) reverseRoom (end_vec c) (λ v. length v ≡ n_of c) (length_end c) (λ x h w e. length_col c x w)

row_length : (c : List ℕ) (fs : List (List ℕ)) (room s : ℕ) → s < length (row_states c fs room) → length (get_or (row_states c fs room) s []) ≡ length fs
unfolding row_states states_of first_row row_after
row_length c fs room =
    states_each
    itself
    (row_after c fs)
    (letters c)
    room
    (first_row c fs)
    (λ v. length v ≡ length fs)
    (length_tabulate (length fs) (first_row_at c fs))
    (λ x h w e. length_tabulate (length fs) (row_after_at c fs x w))

-- words of one row get one grade however they go on, and the other way round
rows_alike : (c : List ℕ) (ok : Sound c) (fs : List (List ℕ)) (rev : Reverses c fs) →
    EveryWord c (λ u. EveryWord c (λ w. (word_row c fs u ≡ word_row c fs w) ↔ SameFuture c u w))
rows_alike c ok fs rev u hu w hw = (to, alike_rows c ok fs rev u w hu hw)
  where
    onward : (v : List ℕ) → Word (letters c) v → (t : List ℕ) → Word (letters c) t →
        grade_of c (v ++ t) ≡ row_grade (after (row_after c fs) (word_row c fs v) t)
    onward v hv t ht =
        sym (row_grade_lem c ok fs rev (v ++ t) (word_append (letters c) v t hv ht)) ∙ ap row_grade (after_append (row_after c fs) (first_row c fs) v t)

    to : word_row c fs u ≡ word_row c fs w → SameFuture c u w
    to e t ht = onward u hu t ht ∙ ap (λ (r : List ℕ). row_grade (after (row_after c fs) r t)) e ∙ sym (onward w hw t ht)

-- ---- what the call leaves

module _
    (c : List ℕ)
    (room reverseRoom : ℕ)
    (l : Lent)
    (a : BackwardAdmits c room reverseRoom l)
    (reverse-fits : length (reverse_states c reverseRoom) ≤ reverseRoom)
    (rows_fit : length (row_states c (reverse_states c reverseRoom) room) ≤ room)
  where
    abbrev fs : List (List ℕ)
    fs = reverse_states c reverseRoom

    abbrev rs : List (List ℕ)
    rs = row_states c fs room

    abbrev made : Backward
    made = backward_made c room reverseRoom l

    ok : Sound c
    ok = sound c a.0

    rev : Reverses c fs
    rev = reverses c reverseRoom reverse-fits

    rooms : Room state_most reverseRoom room (length l.rows) × Room reverse_most (n_of c) reverseRoom (length l.reverse_vectors)
    unfolding backward_room
    rooms =
        let h = both_split
        (room_fits state_most (letters c) reverseRoom room (length l.table) (length l.rows))
        (room_fits reverse_most (letters c) (n_of c) reverseRoom (length l.reverse_table) (length l.reverse_vectors))
        a.1 in (
          room_facts state_most (letters c) reverseRoom room (length l.table) (length l.rows) h.0,
          room_facts reverse_most (letters c) (n_of c) reverseRoom (length l.reverse_table) (length l.reverse_vectors) h.1,
        )

    reverse_value : (s : ℕ) → s < length fs → (of_reverse c made).value s ≡ get_or fs s []
    reverse_value s h =
        placed_vector
        (n_of c)
        (suc reverseRoom)
        fs
        l.reverse_vectors
        (omega arith)
        rooms.1.long
        (λ t g. omega (arith, reverse_length c reverseRoom t g))
        s
        h
        (reverse_length c reverseRoom s h)

    row_value : (s : ℕ) → s < length rs → (of_rows reverseRoom made).value s ≡ get_or rs s []
    row_value s h =
        rw (row_length c fs room s h) at
        (placed_used
        reverseRoom
        (suc room)
        rs
        l.rows
        (omega arith)
        rooms.0.long
        (λ t g. omega (arith, row_length c fs room t g))
        s
        h)

    reverse_made : ReverseFaithful c reverseRoom made
    unfolding reverse_states reverse_of
    reverse_made =
        faithful
        c
        ok
        (reverse_by c)
        (reverse_decides c)
        (λ w. grade_of c (reverse w))
        (reverse_grade c ok)
        (λ w hw. grade_low c ok (reverse w) (word_reverse (letters c) w hw))
        (SameReverse c)
        (λ u hu w hw. Iff.rfl)
        reverseRoom
        (omega (arith, rooms.1.high))
        reverse-fits
        l.reverse_table
        (of_reverse c made).value
        reverse_value

    rows_over : Faithful c (rows_by c fs) (grade_of c) (SameFuture c) (of_rows reverseRoom made)
    unfolding row_states
    rows_over =
        faithful
        c
        ok
        (rows_by c fs)
        (rows_decides c fs)
        (grade_of c)
        (row_grade_lem c ok fs rev)
        (grade_low c ok)
        (SameFuture c)
        (rows_alike c ok fs rev)
        room
        rooms.0.high
        rows_fit
        l.table
        (of_rows reverseRoom made).value
        row_value

    rows_made : RowsFaithful c reverseRoom made
    rows_made = rw (values_are fs (of_reverse c made).value reverse_value) rows_over

    combine_made : RowsCombine c reverseRoom made
    combine_made u hu i h =
        ap (λ (r : List ℕ). get_or r i 0) (rows_over.leads u hu ∙ row_of_word c ok fs rev u hu)
        ∙ vector_row_at_lem c fs (vector_of c u) i h
        ∙ ap (combine c (vector_of c u)) (sym (reverse_value i h))

    smallest_made : Smallest c reverseRoom made
    unfolding row_states states_of
    smallest_made rows count top fits graded =
        smallest
        c
        ok
        fs
        rev
        rows
        count
        top
        fits
        graded
        (length rs)
        (λ i. get_or (first_words itself (row_after c fs) (letters c) room (first_row c fs)) i [])
        (first_words_letters itself (row_after c fs) (letters c) room (first_row c fs))
        (λ i j o h e.
        let at = states_at itself (row_after c fs) (letters c) room (first_row c fs) in
        states_distinct itself (row_after c fs) (letters c) room (first_row c fs) i j o h (at i (omega arith) ∙ e ∙ sym (at j h)))

-- ---- the call

once_built : (P : List ℕ → ℕ → Backward → Type 0) →
    ((c : List ℕ) (room reverseRoom : ℕ) (l : Lent) → BackwardAdmits c room reverseRoom l → length (reverse_states c reverseRoom) ≤ reverseRoom →
    length (row_states c (reverse_states c reverseRoom) room) ≤ room → P c reverseRoom (backward_made c room reverseRoom l)) →
    OnceBuilt brzozowski P
once_built P holds c room reverseRoom l e =
    let a = backward_admits c room reverseRoom l 0 (inl refl) e in
    ⊎_elim
    (λ h. absurd (omega (arith, number h.1)))
    (λ h.
    ⊎_elim
    (λ g. absurd (omega (arith, number g.1)))
    (λ g. subst (P c reverseRoom) (sym g.1) (holds c room reverseRoom l a h.0 g.0))
    h.1)
    (backward_cases c room reverseRoom l a)
  where
    number : {o : Backward} → brzozowski c room reverseRoom l ≡ o → (brzozowski c room reverseRoom l).reply.0 ≡ o.reply.0
    number e = ap (λ (o : Backward). o.reply.0) e

pub brzozowski_faithful : OnceBuilt brzozowski RowsFaithful
brzozowski_faithful = once_built RowsFaithful rows_made

pub reverse_faithful : OnceBuilt brzozowski ReverseFaithful
reverse_faithful = once_built ReverseFaithful reverse_made

pub brzozowski_rows : OnceBuilt brzozowski RowsCombine
brzozowski_rows = once_built RowsCombine combine_made

pub brzozowski_smallest : OnceBuilt brzozowski Smallest
brzozowski_smallest = once_built Smallest smallest_made
