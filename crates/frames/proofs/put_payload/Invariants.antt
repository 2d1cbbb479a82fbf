-- `frames::put_payload` meets its contract. The loop's invariant: i bytes of the payload are in front of the buffer.
-- Assumes nothing.
use mathlib.Core.Path.{◌≡◌}
use lib.ListN.{length}
use Rattle.pages.specs.Frames.{payload}
use Rattle.frames.specs.Lines.{PayloadIn}
use Rattle.lists.proofs.Front.{begun}
use Rattle.frames.proofs.put_payload.Given as goal

abbrev pub invariant-loop-i : goal.invariant-loop-i
invariant-loop-i l = PayloadIn l.text l.pos l.w l.initial.out × (length l.out ≡ length l.initial.out) × (l.out ≡ begun (payload l.w l.text l.pos) l.initial.out l.i)
