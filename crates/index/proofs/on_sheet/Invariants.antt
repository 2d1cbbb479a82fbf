-- The loop of `index::on_sheet`: no line from the entry on holds the pair.
use Rattle.marks.specs.Chains.{entry}
use Rattle.index.proofs.Looking.{Looking}
use Rattle.index.proofs.on_sheet.Given as goal

abbrev pub invariant-loop-next : goal.invariant-loop-next
invariant-loop-next l = Looking l.chart l.sheet l.lines l.index.marks l.number l.pair (entry l.next)

abbrev pub decreases-loop-next : goal.decreases-loop-next
decreases-loop-next l = entry l.next
