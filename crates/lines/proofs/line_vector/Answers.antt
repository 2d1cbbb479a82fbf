-- `lines::line_vector` meets its contract. Assumes nothing.
use mathlib.Core.Path.{refl}
use Rattle.lines.proofs.Reading.{vector_is}
use Rattle.lines.proofs.line_vector.Goals as goal

pub returns : goal.returns
returns c = vector_is c.requires c.n-n.ensures.is _ refl
