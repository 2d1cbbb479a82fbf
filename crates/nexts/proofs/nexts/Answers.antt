-- `nexts::nexts` meets its contract. The loop's invariant: `NextsTo`. Assumes nothing.
use native.Mathlib.Omega.{arith}
use Rattle.nexts.proofs.Letters.{nexts_none, nexts_more, nexts_full, nexts_all}
use Rattle.nexts.proofs.nexts.Goals as goal

pub loop-x-init : goal.loop-x-init
loop-x-init c = nexts_none _ _ _ _ _ _ c.requires.0

pub returns-then-plan-held : goal.returns-then-plan-held
returns-then-plan-held c = nexts_full _ _ _ _ _ c.loop-x.invariant (omega arith) c.settle-settled.ensures c.if-plan-held.true

pub loop-x-preserved : goal.loop-x-preserved
loop-x-preserved c = nexts_more _ _ _ _ _ c.loop-x.invariant (omega arith) c.settle-settled.ensures (omega arith) c.put_two.ensures

pub returns : goal.returns
returns c = nexts_all _ _ _ _ _ c.loop-x.invariant (omega arith)
