-- `rows::row_fits` meets its contract. The loop's invariant: the next states of the letters passed are below the count.
-- Assumes nothing.
use mathlib.Core.Path.{refl}
use native.Mathlib.Omega.{arith}
use Rattle.paper.specs.Lists.{all_below}
use Rattle.rows.proofs.Rows.{bad_grade, bad_next, more_next, good_row}
use Rattle.rows.proofs.row_fits.Goals as goal

pub returns-then-top-grade_at : goal.returns-then-top-grade_at
returns-then-top-grade_at c = bad_grade _ _ _ _ _ (omega arith)

pub loop-x-init : goal.loop-x-init
unfolding all_below
loop-x-init c = refl

pub returns-then-count-next_at : goal.returns-then-count-next_at
returns-then-count-next_at c = bad_next _ _ _ _ _ c.loop-x.x (omega arith) (omega arith)

pub loop-x-preserved : goal.loop-x-preserved
loop-x-preserved c = more_next _ _ _ 0 _ _ c.loop-x.invariant (omega arith)

pub returns : goal.returns
returns c = good_row _ _ _ _ _ c.loop-x.x (omega arith) c.loop-x.invariant (omega arith)
