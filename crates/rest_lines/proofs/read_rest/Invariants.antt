-- `rest_lines::read_rest` meets its contract. The loop's invariant: the lines that are left come to what all of them come to.
-- Assumes nothing.
use Prim.Native.Nat.{◌-◌}
use lib.ListN.{length}
use Rattle.rest_lines.proofs.Loop.{Looped}
use Rattle.rest_lines.proofs.read_rest.Given as goal

abbrev pub invariant-loop-cursor : goal.invariant-loop-cursor
invariant-loop-cursor l = Looped l.text l.initial.chart l.counts l.chart l.cursor

abbrev pub decreases-loop-cursor : goal.decreases-loop-cursor
decreases-loop-cursor l = length l.text - l.cursor.pos
