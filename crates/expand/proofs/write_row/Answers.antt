-- `expand::write_row` meets its contract. Assumes nothing.
use Rattle.expand.proofs.Growing.{row_from}
use Rattle.expand.proofs.write_row.Goals as goal

pub returns : goal.returns
returns c = row_from _ _ _ c.args.row.now c.nexts.new.row _ _ _ c.grade_by.result c.nexts.result c.requires.1 c.grade_by.ensures c.nexts.ensures
