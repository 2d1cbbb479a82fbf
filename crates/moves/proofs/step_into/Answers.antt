-- `moves::step_into` meets its contract. Assumes nothing.
use Rattle.kinds.proofs.KindLaws.{rows_asked}
use Rattle.moves.proofs.step_into.Goals as goal

pub put_next_row-requires : goal.put_next_row-requires
put_next_row-requires c = rows_asked c.args.plan.now c.requires.0 c.in-Rows.is c.letters.ensures.is c.requires.1 c.requires.2 c.requires.3
