-- `frames::frame_byte` meets its contract: each arm is the byte of its place.
-- Assumes nothing.
use native.Mathlib.Omega.{arith}
use Rattle.frames.proofs.FrameWritten.{byte_kind, byte_high, byte_low, byte_rest}
use Rattle.frames.proofs.frame_byte.Goals as goal

pub returns-in-0 : goal.returns-in-0
returns-in-0 c = byte_kind c.args.kind c.args.payload.now c.args.j c.in-0.is

pub returns-in-1 : goal.returns-in-1
returns-in-1 c = rw c.to_be_bytes.ensures (byte_high c.args.kind c.args.payload.now c.args.j c.in-1.is)

pub returns-in-2 : goal.returns-in-2
returns-in-2 c = rw c.to_be_bytes.ensures (byte_low c.args.kind c.args.payload.now c.args.j c.in-2.is)

pub returns-in_default : goal.returns-in_default
returns-in_default c = byte_rest c.args.kind c.args.payload.now c.args.j (omega arith)
