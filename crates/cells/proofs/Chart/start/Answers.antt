-- `cells::Chart::start` meets its contract. Assumes nothing.
use Rattle.cells.proofs.Places.{at_view}
use Rattle.cells.proofs.Parts.{start_part}
use Rattle.cells.proofs.Chart.start.Goals as goal

pub returns : goal.returns
returns c = start_part (at_view c.self.view_is c.self.invariant) cc
