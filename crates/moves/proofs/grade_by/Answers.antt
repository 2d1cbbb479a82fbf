-- `moves::grade_by` meets its contract. Assumes nothing.
use Rattle.paper.specs.Constructions.{row_grade}
use Rattle.moves.proofs.grade_by.Goals as goal

pub returns-in-Rows : goal.returns-in-Rows
unfolding row_grade
returns-in-Rows c = rw c.in-Rows.is
