-- `refusals::print_refusal` meets its contract.
-- Assumes nothing.
use Rattle.refusals.proofs.Refusal.{refusal_room, refusal_printed}
use Rattle.refusals.proofs.print_refusal.Goals as goal

pub returns-then-text-lt-REFUSAL_LINE : goal.returns-then-text-lt-REFUSAL_LINE
returns-then-text-lt-REFUSAL_LINE c = refusal_room _ _ c.if-text-lt-REFUSAL_LINE.true

pub returns : goal.returns
returns c = refusal_printed _ _ c.if-text-lt-REFUSAL_LINE.false _ c.put_frame.ensures
