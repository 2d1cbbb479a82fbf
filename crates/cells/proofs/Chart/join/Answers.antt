-- `cells::Chart::join` meets its contract. Assumes nothing.
use Rattle.cells.proofs.Places.{at_view, join_read}
use Rattle.cells.proofs.Chart.join.Goals as goal

pub returns : goal.returns
returns c = join_read (at_view c.self.view_is c.self.invariant) c.requires.0 c.requires.1 cc
