-- `frames::put_frame` meets its contract. The loop's invariant: the digits of j of the frame's bytes are in front of the buffer.
-- Assumes nothing.
use mathlib.Core.Path.{◌≡◌, refl, ◌∙◌}
use Prim.Native.Nat.{◌+◌}
use lib.ListN.{length}
use native.Mathlib.Omega.{arith}
use Rattle.frames.proofs.FrameWritten.{put_pair, put_end}
use Rattle.lists.proofs.Front.{begun_none}
use Rattle.frames.proofs.put_frame.Goals as goal

pub loop-j-init : goal.loop-j-init
loop-j-init c = (c.requires, refl, begun_none _ _)

pub loop-j-preserved : goal.loop-j-preserved
loop-j-preserved c = (c.loop-j.invariant.0, c.put_byte.auto.out ∙ c.loop-j.invariant.1, c.put_byte.ensures ∙ put_pair _ _ _ c.loop-j.invariant.0 _ c.loop-j.j c.loop-j.invariant.2 _ (search) c.frame_byte.ensures)

pub returns : goal.returns
returns c =
    let q : 3 + length c.args.payload.now ≡ c.loop-j.j = omega arith in
    rw q (put_end _ _ _ c.loop-j.invariant.0 _ c.loop-j.j c.loop-j.invariant.2 (omega arith))
