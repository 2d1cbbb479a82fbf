-- `shown::refuse` meets its contract. Assumes nothing.
use Rattle.shown.proofs.Printed.{refusal_ok, refusal_answered}
use Rattle.shown.proofs.refuse.Goals as goal

pub unwrap-requires : goal.unwrap-requires
unwrap-requires c = refusal_ok _ c.print_refusal.result _ c.requires (rw c.from.ensures at c.print_refusal.ensures)

pub returns : goal.returns
returns c = refusal_answered _ c.print_refusal.result _ c.requires (rw c.from.ensures at c.print_refusal.ensures) c.unwrap.ensures
