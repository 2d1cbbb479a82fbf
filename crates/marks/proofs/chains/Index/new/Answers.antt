-- `marks::chains::Index::new` meets its contract. Assumes nothing.
use mathlib.Core.Path.{refl}
use Rattle.marks.proofs.ChainLaws.{chained_none}
use Rattle.marks.proofs.chains.Index.new.Goals as goal

pub returns : goal.returns
returns c = chained_none _ refl
