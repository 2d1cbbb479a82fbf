-- `lines::line_bytes` meets its contract. Assumes nothing.
use mathlib.Core.Path.{refl}
use Rattle.lines.proofs.Reading.{line_is}
use Rattle.lines.proofs.line_bytes.Goals as goal

pub returns : goal.returns
returns c = line_is c.requires c.n-size.ensures.is _ refl
