-- `vectors::times::times_col` meets its contract: an entry more with each turn. Assumes nothing.
use native.Mathlib.Omega.{arith}
use Rattle.lists.proofs.Lent.{in_front_none, in_front_tabulate}
use Rattle.paper.specs.Lists.{tabulate}
use Rattle.vectors.proofs.Products.{col_end}
use Rattle.vectors.proofs.times.times_col.Goals as goal

pub loop-p-init : goal.loop-p-init
unfolding tabulate
loop-p-init c = in_front_none _

pub loop-p-preserved : goal.loop-p-preserved
loop-p-preserved c = in_front_tabulate _ _ _ (omega arith) c.loop-p.invariant c.col_entry.ensures.is

pub returns : goal.returns
returns c = col_end _ _ _ _ _ c.loop-p.invariant (omega arith) c.n-p-end.ensures.is
