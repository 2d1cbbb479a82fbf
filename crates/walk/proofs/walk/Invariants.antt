-- `walk::walk` meets its contract. The loop's invariant: `WalkTo`. Assumes nothing.
use Prim.Native.Nat.{◌-◌}
use Rattle.walk.proofs.Walking.{WalkTo}
use Rattle.walk.proofs.walk.Given as goal

abbrev pub invariant-loop-i : goal.invariant-loop-i
invariant-loop-i l = WalkTo l.plan l.initial.table l.table l.initial.vectors l.vectors l.index l.held l.i

abbrev pub decreases-loop-i : goal.decreases-loop-i
decreases-loop-i l = l.plan.room - l.i
