-- The loop of `index::index_lines`: the lines passed are in the index.
use Rattle.index.proofs.Looking.{Indexing}
use Rattle.index.proofs.index_lines.Given as goal

abbrev pub invariant-loop-i : goal.invariant-loop-i
invariant-loop-i l = Indexing l.chart l.sheet l.index l.i
