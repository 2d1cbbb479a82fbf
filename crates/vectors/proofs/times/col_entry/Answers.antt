-- `vectors::times::col_entry` meets its contract: a row of a matrix is a part of the chart, combined with the column. Assumes nothing.
use Rattle.vectors.proofs.Parts.{with_row}
use Rattle.vectors.proofs.times.col_entry.Goals as goal

pub returns : goal.returns
returns c = with_row _ _ _ _ _ c.row.ensures c.combine.ensures
