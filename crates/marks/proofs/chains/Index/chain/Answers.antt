-- `marks::chains::Index::chain` meets its contract. Assumes nothing.
use mathlib.Core.Path.{refl}
use native.Mathlib.Omega.{arith}
use lib.Seq.{get_or-set_same}
use Rattle.marks.proofs.ChainLaws.{chained_more}
use Rattle.marks.proofs.chains.Index.chain.Goals as goal

pub returns : goal.returns
returns c = (chained_more c.requires.0 c.args.number (omega arith) (omega arith) (omega arith), refl, get_or-set_same c.args.self.now.marks c.args.held c.args.number 0 (omega arith))
