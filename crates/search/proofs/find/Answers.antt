-- `search::find` meets its contract. The loop's invariant: `Down`. Assumes nothing.
use Rattle.search.proofs.Found.{down_start, down_here, down_past, down_less, down_end}
use Rattle.search.proofs.find.Goals as goal
use Rattle.search.proofs.find.Goals.{then-has_key, else-has_key}

pub loop-next-init : goal.loop-next-init
loop-next-init c = down_start c.requires.0 c.requires.2 c.last_with-next.ensures

pub loop-next-smaller : goal.loop-next-smaller
loop-next-smaller c = down_less c.requires.0 c.requires.2 c.loop-next.invariant c.in-Some.is _ c.earlier-next.ensures

pub loop-next-preserved : goal.loop-next-preserved
loop-next-preserved c = elim c.if-has_key.branch [
  | then-has_key w ↦ down_here c.requires.0 c.requires.2 c.loop-next.invariant c.in-Some.is c.earlier-next.ensures c.has_key.ensures w.first-is w.if-has_key.true
  | else-has_key w ↦ down_past c.requires.0 c.requires.2 c.loop-next.invariant c.in-Some.is c.earlier-next.ensures c.has_key.ensures w.first-is w.if-has_key.false
]

pub returns : goal.returns
returns c = down_end c.requires.0 c.requires.2 c.loop-next.invariant c.in_default.is
