-- `vectors::times::start_grade` meets its contract: the start vector is a part of the chart. Assumes nothing.
use Rattle.vectors.proofs.Parts.{with_start}
use Rattle.vectors.proofs.times.start_grade.Goals as goal

pub returns : goal.returns
returns c = with_start _ _ _ c.start.ensures c.combine.ensures
