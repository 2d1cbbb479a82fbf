-- `lace::lace_step` meets its contract: the number of what `steps::step` answers. Assumes nothing.
use mathlib.Core.Path.{ap, ◌∙◌}
use Rattle.paper.specs.Tables.{step_code}
use Rattle.lace.proofs.lace_step.Goals as goal

pub returns : goal.returns
returns c = c.step_number.ensures ∙ ap step_code c.step.ensures
