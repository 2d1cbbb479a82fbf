-- `laws::first_b` meets its contract. Assumes nothing.
use Rattle.paper.specs.Check.{law_at_two}
use Rattle.paper.specs.Chart.{k_of}
use Rattle.laws.proofs.Tries.{Tried}
use Rattle.paper.specs.Chart.{k_of}
use Rattle.laws.proofs.first_b.Given as goal

abbrev pub invariant-loop-b : goal.invariant-loop-b
invariant-loop-b l = Tried (k_of l.chart) l.b-end (law_at_two l.chart l.law l.a) l.b
