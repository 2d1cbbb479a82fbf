-- `search::find` meets its contract. The loop's invariant: `Down`. Assumes nothing.
use Rattle.marks.specs.Chains.{entry}
use Rattle.search.proofs.Found.{Down}
use Rattle.search.proofs.find.Given as goal

abbrev pub invariant-loop-next : goal.invariant-loop-next
invariant-loop-next l = Down l.plan l.vectors l.index.marks l.held l.number l.key l.next l.first

abbrev pub decreases-loop-next : goal.decreases-loop-next
decreases-loop-next l = entry l.next
