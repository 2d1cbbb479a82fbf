-- `cells::Chart::entry` meets its contract. Assumes nothing.
use Rattle.cells.proofs.Places.{at_view, entry_within, entry_read}
use Rattle.cells.proofs.Chart.entry.Goals as goal

pub cell-requires : goal.cell-requires
cell-requires c = rw c.self.view_is (entry_within (at_view c.self.view_is c.self.invariant) c.requires.0 c.requires.1 c.requires.2)

pub returns : goal.returns
returns c = entry_read (at_view c.self.view_is c.self.invariant) c.requires.0 c.requires.1 c.requires.2 cc
