-- The loop of `vectors::times::join_rows`: the rows below p are joined in.
use Rattle.vectors.proofs.Products.{Rowing}
use Rattle.vectors.proofs.times.join_rows.Given as goal

abbrev pub invariant-loop-p : goal.invariant-loop-p
invariant-loop-p l = Rowing l.chart l.x l.v l.initial.out l.out l.p
