-- `frames::read_frame` meets its contract.
-- Assumes nothing.
use mathlib.Core.Path.{refl, sym}
use Rattle.lists.proofs.Tests.{fell, held}
use Rattle.frames.proofs.FrameRead.{frame_digits}
use Rattle.frames.proofs.read_frame.Goals as goal

pub returns-then-not-frame_fits : goal.returns-then-not-frame_fits
returns-then-not-frame_fits c = (sym (fell c.frame_fits.ensures c.if-not-frame_fits.true), refl)

pub put_payload-requires : goal.put_payload-requires
put_payload-requires c = record { frame = search; digits = frame_digits _ _ _ _ (held c.frame_fits.ensures c.if-not-frame_fits.false) }

pub returns : goal.returns
returns c = (sym (held c.frame_fits.ensures c.if-not-frame_fits.false), c.put_payload.ensures)
