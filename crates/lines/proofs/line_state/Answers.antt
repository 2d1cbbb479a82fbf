-- `lines::line_state` meets its contract. Assumes nothing.
use mathlib.Core.Path.{refl, ◌∙◌}
use Rattle.lines.proofs.Reading.{state_is}
use Rattle.lines.proofs.line_state.Goals as goal

pub returns : goal.returns
returns c = c.from.ensures ∙ c.from_be_bytes.ensures ∙ state_is c.requires c.n.ensures.is _ _ refl refl
