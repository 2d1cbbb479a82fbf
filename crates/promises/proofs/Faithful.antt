-- Demand 2 for any construction: the table of its states at the front of lent memory, with their values behind them. Assumes nothing.
use mathlib.Core.Path.{◌≡◌, refl, ap, ◌∙◌}
use mathlib.Core.Bool.{true}
use mathlib.Core.Logic.Iff
use mathlib.Core.Logic.{◌↔◌}
use mathlib.Core.List.{List, []}
use Prim.Native.Nat.{ℕ, ◌≤◌, ◌<◌}
use lib.ListN.{length, get_or, drop}
use lib.Dec.{eqb}
use borrow.Author.Tests.{eq-eqb}
use Rattle.paper.specs.Lists.{tabulate, in_front}
use Rattle.paper.specs.Words.{after}
use Rattle.paper.specs.Chart.{k_of, letters}
use Rattle.paper.specs.Tables.{table_fits, table_fits_chart, state_of}
use Rattle.paper.specs.Constructions.{Construction, states_of, table_of}
use Rattle.lists.proofs.Tests.{both_true}
use Rattle.lists.proofs.ByPlace.{tabulate_cong, tabulate_get_or}
use Rattle.numbering.specs.Numbered.{word_key, Numbered, KeyDecides}
use Rattle.numbering.proofs.Theorems.{states_at, first_words_letters, states_numbered}
use Rattle.numbering.proofs.TableBytes.{in_front_lem}
use Rattle.numbering.proofs.Built.{construction_fits, construction_states, construction_shares, construction_grades}
use Rattle.algebra.proofs.Checked.{Sound}
use Rattle.promises.specs.Faithful.{EveryWord, Faithful}

-- values read by place are the list that they are read from
pub values_are : (vs : List (List ℕ)) (value : ℕ → List ℕ) → ((s : ℕ) → s < length vs → value s ≡ get_or vs s []) → tabulate (length vs) value ≡ vs
values_are vs value at = tabulate_cong (length vs) value (λ s. get_or vs s []) at ∙ tabulate_get_or (length vs) vs [] refl

module _
    (c : List ℕ)
    (ok : Sound c)
    (b : Construction)
    (decides : KeyDecides b (letters c))
    (grade : List ℕ → ℕ)
    (graded : EveryWord c (λ u. b.grade (after b.step b.first u) ≡ grade u))
    (low : EveryWord c (λ u. grade u < k_of c))
    (alike : List ℕ → List ℕ → Type 0)
    (same : EveryWord c (λ u. EveryWord c (λ w. (word_key b.key b.step b.first u ≡ word_key b.key b.step b.first w) ↔ alike u w)))
    (room : ℕ)
    (small : room ≤ 4096)
    (fits : length (states_of b (letters c) room) ≤ room)
    (old : List ℕ)
    (value : ℕ → List ℕ)
    (values : (s : ℕ) → s < length (states_of b (letters c) room) → value s ≡ get_or (states_of b (letters c) room) s [])
  where
    abbrev S : List (List ℕ)
    S = states_of b (letters c) room

    abbrev rows : List ℕ
    rows = in_front (table_of b (letters c) S) old

    abbrev rest : List ℕ
    rest = drop (length (table_of b (letters c) S)) old

    state_grade_low : (s : ℕ) → s < length S → b.grade (get_or S s []) < k_of c
    unfolding states_of
    state_grade_low s h =
        let w = first_words_letters b.key b.step (letters c) room b.first s h in
        rw (states_at b.key b.step (letters c) room b.first s h, graded _ w) (low _ w)

    rows_fit : table_fits rows (length S) (letters c) (k_of c) ≡ true
    rows_fit =
        construction_fits
        b
        (letters c)
        room
        decides
        small
        fits
        rows
        rest
        (in_front_lem _ _)
        (k_of c)
        ok.letters_low
        ok.letters_high
        state_grade_low

    numbered : Numbered b.key b.step (letters c) b.first S
    unfolding states_of
    numbered = states_numbered b.key b.step (letters c) room b.first decides.steps fits

    pub faithful : Faithful c b grade alike (record { table = rows; count = length S; value = value })
    faithful =
        record {
          fits =
              unfold table_fits_chart in
              both_true (eqb (letters c) (letters c)) (table_fits rows (length S) (letters c) (k_of c)) (eq-eqb (letters c) (letters c) refl) rows_fit;
          grades = λ u w. construction_grades b (letters c) room decides small fits rows rest (in_front_lem _ _) u w ∙ graded u w;
          numbered = rw (values_are S value values) numbered;
          leads =
              λ u w.
              let h = construction_states b (letters c) room decides small fits rows rest (in_front_lem _ _) u w in
              ap b.key (values (state_of rows (letters c) u) h.0) ∙ h.1;
          shares =
              λ u hu w hw.
              Iff.trans (construction_shares b (letters c) room decides small fits rows rest (in_front_lem _ _) u w hu hw) (same u hu w hw);
        }
