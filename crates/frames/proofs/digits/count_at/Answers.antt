-- `frames::digits::count_at` meets its contract.
-- Assumes nothing.
use mathlib.Core.Path.{◌∙◌}
use Rattle.frames.proofs.digits.count_at.Goals as goal

pub returns : goal.returns
returns c =
    record {
      high = c.in_ok-high.ensures.digits;
      low = c.in_ok-low.ensures.digits;
      value = c.from.ensures ∙ c.from_be_bytes.ensures ∙ rw (c.in_ok-high.ensures.value, c.in_ok-low.ensures.value);
    }
