-- `vectors::times::end_grade` meets its contract: the end vector is a part of the chart. Assumes nothing.
use Rattle.vectors.proofs.Parts.{with_end}
use Rattle.vectors.proofs.times.end_grade.Goals as goal

pub returns : goal.returns
returns c = with_end _ _ _ c.end.ensures c.combine.ensures
