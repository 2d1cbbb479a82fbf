-- `cells::Chart::row` meets its contract. Assumes nothing.
use native.Mathlib.Omega.{arith}
use Rattle.cells.proofs.Places.{at_view}
use Rattle.cells.proofs.Parts.{row_ends, row_part}
use Rattle.cells.proofs.Chart.row.Goals as goal

pub part-requires : goal.part-requires
part-requires c = omega (arith, row_ends (at_view c.self.view_is c.self.invariant) _ _ c.requires.0 c.requires.1, c.self.invariant.fits)

pub returns : goal.returns
returns c = row_part (at_view c.self.view_is c.self.invariant) _ _ c.requires.0 c.requires.1 cc
