-- `laws::first_a` meets its contract. Assumes nothing.
use Rattle.paper.specs.Check.{law_at_one}
use Rattle.paper.specs.Chart.{k_of}
use Rattle.laws.proofs.Tries.{Tried}
use Rattle.paper.specs.Chart.{k_of}
use Rattle.laws.proofs.first_a.Given as goal

abbrev pub invariant-loop-a : goal.invariant-loop-a
invariant-loop-a l = Tried (k_of l.chart) l.a-end (law_at_one l.chart l.law) l.a
