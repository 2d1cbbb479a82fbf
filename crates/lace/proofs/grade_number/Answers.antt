-- `lace::grade_number` meets its contract. Assumes nothing.
use mathlib.Core.Path.{◌∙◌}
use Rattle.lace.proofs.Numbers.{grade_is}
use Rattle.lace.proofs.grade_number.Goals as goal

pub returns : goal.returns
returns c = c.unwrap_or.ensures ∙ grade_is c.args.answer
