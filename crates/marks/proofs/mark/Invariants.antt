-- `marks::mark` meets its contract. The loop's invariant: the sum is the number of the bytes passed. Assumes nothing.
use mathlib.Core.Path.{◌≡◌}
use Rattle.marks.specs.Marks.{mark_to}
use Rattle.marks.proofs.mark.Given as goal

abbrev pub invariant-loop-byte : goal.invariant-loop-byte
invariant-loop-byte l = l.sum ≡ mark_to l.byte-index l.key
