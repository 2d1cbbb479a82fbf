-- `rows::row_fits` meets its contract. The loop's invariant: the next states of the letters passed are below the count.
-- Assumes nothing.
use mathlib.Core.Path.{◌≡◌}
use mathlib.Core.Bool.{true}
use Rattle.paper.specs.Lists.{all_below}
use Rattle.paper.specs.Tables.{next_fits}
use Rattle.rows.proofs.row_fits.Given as goal

abbrev pub invariant-loop-x : goal.invariant-loop-x
invariant-loop-x l = all_below l.x (next_fits l.rows l.count l.m l.s) ≡ true
