-- `vectors::times::join_row` meets its contract: a place more with each turn. Assumes nothing.
use native.Mathlib.Omega.{arith}
use Rattle.vectors.proofs.Products.{joining_start, joining_more}
use Rattle.vectors.proofs.times.join_row.Goals as goal

pub loop-q-init : goal.loop-q-init
loop-q-init c = joining_start _ _ _ _ _ c.requires.3

pub loop-q-preserved : goal.loop-q-preserved
loop-q-preserved c = joining_more _ _ _ _ _ _ _ c.loop-q.invariant (omega (arith, c.n-q-end.ensures.is)) c.entry.ensures.is c.prod-term.ensures.is c.join.ensures
