-- `frames::put_frame` meets its contract. The loop's invariant: the digits of j of the frame's bytes are in front of the buffer.
-- Assumes nothing.
use mathlib.Core.Path.{◌≡◌}
use Prim.Native.Nat.{◌*◌}
use lib.ListN.{length}
use Rattle.pages.specs.Frames.{frame}
use Rattle.frames.specs.Lines.{LineIn}
use Rattle.lists.proofs.Front.{begun}
use Rattle.frames.proofs.put_frame.Given as goal

abbrev pub invariant-loop-j : goal.invariant-loop-j
invariant-loop-j l = LineIn l.payload l.initial.out × (length l.out ≡ length l.initial.out) × (l.out ≡ begun (frame l.kind l.payload) l.initial.out (2 * l.j))
