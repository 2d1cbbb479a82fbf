-- `cells::Chart::end` meets its contract. Assumes nothing.
use Rattle.cells.proofs.Places.{at_view}
use Rattle.cells.proofs.Parts.{end_part}
use Rattle.cells.proofs.Chart.end.Goals as goal

pub returns : goal.returns
returns c = end_part (at_view c.self.view_is c.self.invariant) cc
