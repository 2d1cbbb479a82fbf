-- `index::is_pair` meets its contract: a line with another number holds another pair. Assumes nothing.
use mathlib.Core.Path.{◌∙◌}
use borrow.Author.Tests.{ne_eqb}
use Rattle.marks.proofs.MarkLaws.{unmarked}
use Rattle.index.proofs.is_pair.Goals as goal

pub returns-else-number_of-number : goal.returns-else-number_of-number
returns-else-number_of-number c = ne_eqb _ _ c.if-number_of-number.false ∙ unmarked _ _ (c.number_of.ensures ∙ c.requires.2) c.requires.3 c.if-number_of-number.false
