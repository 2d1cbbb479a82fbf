-- `walk::walk` meets its contract. The loop's invariant: `WalkTo`. Assumes nothing.
use native.Mathlib.Omega.{arith}
use Rattle.walk.proofs.Walking.{walk_none, walk_full, walk_more, walk_all}
use Rattle.walk.proofs.walk.Goals as goal

pub loop-i-init : goal.loop-i-init
loop-i-init c = walk_none _ _ _ _ c.requires

pub returns-in_err-held : goal.returns-in_err-held
returns-in_err-held c = rw c.from_residual.ensures (walk_full _ _ _ c.loop-i.invariant (omega arith) c.in_err-held.ensures)

pub loop-i-preserved : goal.loop-i-preserved
loop-i-preserved c = walk_more _ _ _ c.loop-i.invariant (omega arith) c.in_ok-held.ensures c.expand.auto.table

pub returns : goal.returns
returns c = walk_all _ _ _ c.loop-i.invariant (omega arith)
