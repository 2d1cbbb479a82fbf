-- `frames::put_payload` meets its contract. The loop's invariant: i bytes of the payload are in front of the buffer.
-- Assumes nothing.
use mathlib.Core.Path.{refl}
use native.Mathlib.Omega.{arith}
use Prim.Native.Nat.{◌+◌}
use Rattle.pages.specs.Frames.{digits_length}
use lib.ListN.{length-set}
use Rattle.frames.proofs.FrameRead.{payload_digits, byte_there, byte_found, payload_more, payload_done}
use Rattle.lists.proofs.Front.{begun_none}
use Rattle.frames.proofs.put_payload.Goals as goal

pub loop-i-init : goal.loop-i-init
loop-i-init c = (c.requires, refl, begun_none _ _)

pub unwrap-requires : goal.unwrap-requires
unwrap-requires c = byte_there c.args.text.now (c.args.pos + digits_length c.loop-i.i) _ c.byte_at.ensures (payload_digits _ _ _ c.loop-i.i c.loop-i.invariant.0.digits (search))

pub loop-i-preserved : goal.loop-i-preserved
loop-i-preserved c = (c.loop-i.invariant.0, simp length-set c.loop-i.invariant.1, payload_more _ _ _ _ _ _ c.loop-i.invariant.2 _ c.loop-i.invariant.0.frame.room (search) (byte_found c.args.text.now _ _ _ c.byte_at.ensures c.unwrap.ensures))

pub returns : goal.returns
returns c = payload_done _ _ _ _ _ c.loop-i.i c.loop-i.invariant.2 (omega arith)
