-- `nexts::nexts` meets its contract. The loop's invariant: `NextsTo`. Assumes nothing.
use Rattle.nexts.proofs.Letters.{NextsTo}
use Rattle.nexts.proofs.nexts.Given as goal

abbrev pub invariant-loop-x : goal.invariant-loop-x
invariant-loop-x l = NextsTo l.plan l.first l.v l.initial.row l.row l.initial.vectors l.vectors l.index l.held l.x
