-- `lace::lace_grade` meets its contract: the number of what `steps::grade` answers. Assumes nothing.
use mathlib.Core.Path.{ap, ◌∙◌}
use Rattle.paper.specs.Tables.{grade_code}
use Rattle.lace.proofs.lace_grade.Goals as goal

pub returns : goal.returns
returns c = c.grade_number.ensures ∙ ap grade_code c.grade.ensures
