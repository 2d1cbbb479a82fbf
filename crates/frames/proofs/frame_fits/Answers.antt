-- `frames::frame_fits` meets its contract: each return is what the tests on its way make of `frame_fits`.
-- Assumes nothing.
use Rattle.lists.proofs.Tests.{fell, held}
use Rattle.frames.proofs.FrameRead.{no_kind, bad_kind, bad_count, bad_newline, kind_found, count_found, frame_rest}
use Rattle.frames.proofs.frame_fits.Goals as goal

pub returns-in_default : goal.returns-in_default
returns-in_default c = no_kind _ _ _ _ c.in_default.ensures

pub returns-then-from-kind : goal.returns-then-from-kind
returns-then-from-kind c = bad_kind _ _ _ _ c.in-Some.ensures c.from.ensures c.if-from-kind.true

pub returns-then-ne : goal.returns-then-ne
returns-then-ne c = bad_count _ _ _ _ _ c.count_at.ensures (held c.ne.ensures c.if-ne.true)

pub returns-then-char_at-ne10 : goal.returns-then-char_at-ne10
returns-then-char_at-ne10 c = bad_newline _ _ _ _ _ c.char_at.ensures c.if-char_at-ne10.true

pub returns : goal.returns
returns c =
    frame_rest _ _ _ _ _ _ (kind_found _ c.args.w _ _ c.in-Some.ensures c.from.ensures c.if-from-kind.false)
    (count_found c.args.kind _ _ _ _ c.count_at.ensures (fell c.ne.ensures c.if-ne.false)) c.char_at.ensures c.if-char_at-ne10.false c.digits_fit.ensures
