-- `cells::Chart::prod` meets its contract. Assumes nothing.
use Rattle.cells.proofs.Places.{at_view, prod_read}
use Rattle.cells.proofs.Chart.prod.Goals as goal

pub returns : goal.returns
returns c = prod_read (at_view c.self.view_is c.self.invariant) c.requires.0 c.requires.1 cc
