-- The table of a construction's states, at the front of a buffer: it fits, a word leads in it to the word's key, and it grades every
-- word as the construction does. Assumes nothing.
use mathlib.Core.Path.{◌≡◌, refl, sym, ap, ◌∙◌}
use mathlib.Core.Logic.{◌↔◌}
use mathlib.Core.Bool.{true}
use mathlib.Core.List.{List, [], ◌++◌}
use Prim.Native.Nat.{ℕ, ◌≤◌, ◌<◌}
use native.Mathlib.Omega.{arith}
use lib.ListN.{length, get_or, length-append}
use Rattle.paper.specs.Words.{Word, after}
use Rattle.paper.specs.Numbering.{itself, place}
use Rattle.paper.specs.Tables.{next_at, table_fits, next_by, state_of, table_grade}
use Rattle.paper.specs.Constructions.{Construction, states_of, table_of}
use Rattle.numbering.specs.Numbered.{word_key, KeyDecides}
use Rattle.numbering.proofs.Theorems.{states_some, states_place, states_closed, walk_key}
use Rattle.numbering.proofs.TableFits.{table_passes}
use Rattle.numbering.proofs.TableBytes.{length_table, grade_back, next_back}

-- where values are their own keys, these decide all
pub itself_decides : (first : List ℕ) (step : ℕ → List ℕ → List ℕ) (grade : List ℕ → ℕ) (m : ℕ) →
    KeyDecides (record { first = first; step = step; key = itself; grade = grade }) m
itself_decides first step grade m = record { steps = λ v w x e l. ap (step x) e; grades = λ v w e. ap grade e }

module _
    (b : Construction)
    (m room : ℕ)
    (decides : KeyDecides b m)
    (small : room ≤ 4096)
    (fits : length (states_of b m room) ≤ room)
    (rows rest : List ℕ)
    (front : rows ≡ table_of b m (states_of b m room) ++ rest)
  where
    abbrev S : List (List ℕ)
    S = states_of b m room

    -- every next state is a state
    next_state : (s : ℕ) → s < length S → (x : ℕ) → x < m → place b.key S (b.step x (get_or S s [])) < length S
    unfolding states_of
    next_state = states_closed b.key b.step m room b.first decides.steps fits

    next_is : (s : ℕ) → s < length S → (x : ℕ) → x < m → next_at rows m s x ≡ place b.key S (b.step x (get_or S s []))
    next_is s h x l = next_back b m S rows rest front (omega arith) s x h l

    pub construction_fits : (top : ℕ) → 1 ≤ m → m ≤ 16 → ((s : ℕ) → s < length S → b.grade (get_or S s []) < top) →
        table_fits rows (length S) m top ≡ true
    construction_fits top low high grades =
        table_passes
        rows
        (length S)
        m
        top
        (record {
          sized =
              record {
                count_low = unfold states_of in states_some b.key b.step m room b.first;
                count_high = omega arith;
                m_low = low;
                m_high = high;
                long = rw front (simp length-append (omega (arith, length_table b m S)));
              };
          row =
              λ s h.
              record {
                grade_low = rw (grade_back b m S rows rest front s h) (grades s h);
                next_low = λ x l. rw (next_is s h x l) (next_state s h x l);
              };
        })

    -- the state to which a word leads has the key of the word's value
    pub construction_states : (u : List ℕ) → Word m u →
        (state_of rows m u < length S) × (b.key (get_or S (state_of rows m u) []) ≡ b.key (after b.step b.first u))
    unfolding states_of state_of next_by
    construction_states = walk_key b.key b.step m room b.first decides.steps fits (next_by rows m) next_is

    -- so two words share a state exactly where their keys are equal
    pub construction_shares : (u w : List ℕ) → Word m u → Word m w →
        (state_of rows m u ≡ state_of rows m w) ↔ (word_key b.key b.step b.first u ≡ word_key b.key b.step b.first w)
    construction_shares u w hu hw =
        (λ e. sym (found u hu).1 ∙ ap (λ (s : ℕ). b.key (get_or S s [])) e ∙ (found w hw).1, λ e. sym (placed u hu refl) ∙ placed w hw e)
      where
        found : (u : List ℕ) → Word m u → (state_of rows m u < length S) × (b.key (get_or S (state_of rows m u) []) ≡ word_key b.key b.step b.first u)
        found = construction_states

        -- the state of a word is the place of any value of its key
        placed : (t : List ℕ) → Word m t → word_key b.key b.step b.first u ≡ word_key b.key b.step b.first t →
            place b.key S (after b.step b.first u) ≡ state_of rows m t
        placed t ht e = unfold states_of in states_place b.key b.step m room b.first (state_of rows m t) (found t ht).0 (after b.step b.first u) ((found t ht).1 ∙ sym e)

    -- the table grades every word as the construction does
    pub construction_grades : (u : List ℕ) → Word m u → table_grade rows m u ≡ b.grade (after b.step b.first u)
    unfolding table_grade
    construction_grades u w =
        let h = construction_states u w in
        grade_back b m S rows rest front (state_of rows m u) h.0
        ∙ decides.grades (get_or S (state_of rows m u) []) (after b.step b.first u) h.1
