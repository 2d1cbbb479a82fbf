-- Tables beside a chart, and words that lead to one state. Assumes nothing.
use mathlib.Core.Path.{◌≡◌, ap, sym, ◌∙◌}
use mathlib.Core.Bool.{true}
use mathlib.Core.List.{List, ◌++◌}
use Prim.Native.Nat.{ℕ}
use lib.Dec.{eqb}
use borrow.Author.Tests.{eqb-true}
use Rattle.paper.specs.Words.{after}
use Rattle.paper.specs.Chart.{k_of, letters}
use Rattle.paper.specs.Tables.{grade_at, table_fits, table_fits_chart, next_by, state_of, table_grade}
use Rattle.lists.proofs.Tests.{both_left, both_right}
use Rattle.numbering.proofs.Words.{after_append}
use Rattle.numbering.proofs.TableFits.{Table, table_facts}

-- a table that fits beside a chart: its letters and its grades are the chart's
module _ (c rows : List ℕ) (count m : ℕ) (e : table_fits_chart c rows count m ≡ true) where
  pub chart_letters : m ≡ letters c
  unfolding table_fits_chart
  chart_letters = eqb-true m (letters c) (both_left (eqb m (letters c)) (table_fits rows count m (k_of c)) e)

  pub chart_table : Table rows count m (k_of c)
  unfolding table_fits_chart
  chart_table = table_facts rows count m (k_of c) (both_right (eqb m (letters c)) (table_fits rows count m (k_of c)) e)

-- two words that lead to one state get one grade however they go on
pub one_state : (rows : List ℕ) (m : ℕ) (u w t : List ℕ) → state_of rows m u ≡ state_of rows m w → table_grade rows m (u ++ t) ≡ table_grade rows m (w ++ t)
unfolding table_grade state_of
one_state rows m u w t e =
    ap (grade_at rows m)
    (after_append (next_by rows m) 0 u t ∙ ap (λ s. after (next_by rows m) s t) e ∙ sym (after_append (next_by rows m) 0 w t))
