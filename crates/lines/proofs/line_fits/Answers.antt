-- `lines::line_fits` meets its contract: the state is below the count, and each grade below k. Assumes nothing.
use mathlib.Core.Path.{◌∙◌}
use lib.Dec.{ltb}
use borrow.Author.Rules.{rules}
use borrow.Author.Tests.{tests, le-ltb}
use Rattle.lists.proofs.Methods.{slice_all}
use Rattle.lines.proofs.Reading.{state_high, grades_said}
use Rattle.lines.proofs.line_fits.Goals as goal

pub returns-then-line_state-count : goal.returns-then-line_state-count
returns-then-line_state-count c =
    grades_said c.requires _ c.k-k.ensures.is c.line_state.ensures c.if-line_state-count.true c.line_vector.ensures
    (slice_all _ _ _ (λ g. ltb g c.k-k.result) c.line_vector.result.now (cc) c.all.ensures.ran (λ x b q k. search (rules, tests)))

pub returns-else-line_state-count : goal.returns-else-line_state-count
returns-else-line_state-count c = le-ltb _ _ c.if-line_state-count.false ∙ state_high _ _ _ _ c.line_state.ensures c.if-line_state-count.false
