-- Demand 2 leaves nothing open: two tables that it holds of have the same states, values, grades and next states. Assumes nothing.
use mathlib.Core.Path.{◌≡◌, sym, ap, ◌∙◌}
use mathlib.Core.List.{List, []}
use Prim.Native.Nat.{ℕ, ◌<◌}
use native.Mathlib.Omega.{arith}
use lib.ListN.{length, get_or}
use Rattle.paper.specs.Words.{Word}
use Rattle.paper.specs.Chart.{letters}
use Rattle.paper.specs.Tables.{grade_at, next_at, state_of, table_grade}
use Rattle.paper.specs.Constructions.{Construction}
use Rattle.lists.proofs.ByPlace.{length_tabulate, get_or_tabulate}
use Rattle.numbering.proofs.Words.{with, word_with}
use Rattle.numbering.proofs.TableFits.{state_with}
use Rattle.numbering.proofs.Theorems.{numbered_unique}
use Rattle.promises.specs.Faithful.{Result, values_of, Faithful, SameTable, OneTable}
use Rattle.promises.proofs.FirstWords.{first, first_word, first_state, reached_low, reached}

module _ (c : List ℕ) (b : Construction) (grade : List ℕ → ℕ) (alike : List ℕ → List ℕ → Type 0) where
  module _ (t : Result) (f : Faithful c b grade alike t) where
    -- grade and next states of a state, from a word that leads to it
    grade_by : (u : List ℕ) → Word (letters c) u → (s : ℕ) → state_of t.table (letters c) u ≡ s → grade_at t.table (letters c) s ≡ grade u
    unfolding table_grade
    grade_by u w s e = ap (grade_at t.table (letters c)) (sym e) ∙ f.grades u w

    next_by : (u : List ℕ) (x s : ℕ) → state_of t.table (letters c) u ≡ s → next_at t.table (letters c) s x ≡ state_of t.table (letters c) (with x u)
    next_by u x s e = ap (λ (s : ℕ). next_at t.table (letters c) s x) (sym e) ∙ sym (state_with t.table (letters c) u x)

  module _ (t t' : Result) (f : Faithful c b grade alike t) (g : Faithful c b grade alike t') where
    values_same : values_of t ≡ values_of t'
    values_same = numbered_unique b.key b.step (letters c) b.first (values_of t) (values_of t') f.numbered g.numbered

    count_same : t.count ≡ t'.count
    count_same = sym (length_tabulate t.count t.value) ∙ ap length values_same ∙ length_tabulate t'.count t'.value

    value_same : (s : ℕ) → s < t.count → t.value s ≡ t'.value s
    value_same s h =
        sym (get_or_tabulate t.count t.value [] s h)
        ∙ ap (λ (vs : List (List ℕ)). get_or vs s []) values_same
        ∙ get_or_tabulate t'.count t'.value [] s (omega (arith, count_same))

    -- a word leads to one state in both
    state_same : (u : List ℕ) → Word (letters c) u → state_of t.table (letters c) u ≡ state_of t'.table (letters c) u
    state_same u w =
        let low = reached_low c b grade alike t' g u w in
        let h : state_of t'.table (letters c) u < t.count = omega (arith, count_same) in
        reached c b grade alike t f u w (state_of t'.table (letters c) u) h (ap b.key (value_same _ h) ∙ g.leads u w)

    same : SameTable c t t'
    same = (
      count_same,
      λ s h.
          let u = first c b grade alike t f s in
          let w = first_word c b grade alike t f s h in
          let at = first_state c b grade alike t f s h in
          let at' = sym (state_same u w) ∙ at in (
            value_same s h,
            grade_by t f u w s at ∙ sym (grade_by t' g u w s at'),
            λ x l.
                next_by t f u x s at
                ∙ state_same (with x u) (word_with (letters c) u x w l)
                ∙ sym (next_by t' g u x s at'),
          ),
    )

pub one_table : OneTable
one_table = same
