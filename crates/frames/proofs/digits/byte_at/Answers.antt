-- `frames::digits::byte_at` meets its contract.
-- Assumes nothing.
use Rattle.frames.proofs.Hex.{byte_is}
use Rattle.frames.proofs.digits.byte_at.Goals as goal

pub returns : goal.returns
returns c =
    byte_is _ _ _ _ _ _ c.char_at.ensures c.char_at-2.ensures c.in_ok-high.ensures.value c.in_ok-low.ensures.value c.in_ok-high.ensures.small c.in_ok-low.ensures.small
