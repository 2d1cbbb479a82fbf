-- The loop of `vectors::times::combine`: `sum` is the join of the products below p.
use Rattle.paper.specs.Vectors.{joins, combine_term}
use Rattle.paper.specs.Chart.{k_of}
use Rattle.cells.specs.Shaped.{Read}
use Rattle.vectors.proofs.times.combine.Given as goal

abbrev pub invariant-loop-p : goal.invariant-loop-p
invariant-loop-p l = Read (joins l.chart l.p (combine_term l.chart l.v l.w)) (k_of l.chart) l.sum
