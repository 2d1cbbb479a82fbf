-- The loop of `vectors::times::times_col`: the entries below p stand at the front.
use mathlib.Core.Path.{◌≡◌}
use Rattle.paper.specs.Vectors.{col_entry}
use Rattle.paper.specs.Lists.{tabulate, in_front}
use Rattle.vectors.proofs.times.times_col.Given as goal

abbrev pub invariant-loop-p : goal.invariant-loop-p
invariant-loop-p l = l.out ≡ in_front (tabulate l.p (col_entry l.chart l.x l.w)) l.initial.out
