-- `marks::mark` meets its contract. The loop's invariant: the sum is the number of the bytes passed. Assumes nothing.
use mathlib.Core.Path.{refl}
use native.Mathlib.Omega.{arith}
use Rattle.marks.specs.Marks.{mark_to}
use Rattle.marks.proofs.MarkLaws.{mark_more, mark_all}
use Rattle.marks.proofs.mark.Goals as goal

pub loop-byte-init : goal.loop-byte-init
unfolding mark_to
loop-byte-init c = refl

pub loop-byte-preserved : goal.loop-byte-preserved
loop-byte-preserved c = mark_more _ _ c.loop-byte.invariant c.from.ensures

pub returns : goal.returns
returns c = mark_all _ _ c.loop-byte.invariant (omega arith)
