-- `laws::first_broken` meets its contract. Assumes nothing.
use Rattle.paper.specs.Check.{law_holds}
use Rattle.laws.proofs.Tries.{Tried}
use Rattle.laws.proofs.first_broken.Given as goal

abbrev pub invariant-loop-law : goal.invariant-loop-law
invariant-loop-law l = Tried 8 8 (law_holds l.chart) l.law
