-- `vectors::times::join_rows` meets its contract: a row more with each turn. Assumes nothing.
use native.Mathlib.Omega.{arith}
use mathlib.Core.Path.{refl}
use Rattle.vectors.proofs.Products.{rowing_start, rowing_more, rowing_end}
use Rattle.vectors.proofs.times.join_rows.Goals as goal

pub loop-p-init : goal.loop-p-init
loop-p-init c = rowing_start _ _ _ _ (omega (arith, c.shape-shape.ensures.sizes.k_low, c.shape-shape.ensures.k_is)) c.requires.2

pub loop-p-preserved : goal.loop-p-preserved
loop-p-preserved c = rowing_more _ _ _ _ _ _ _ c.loop-p.invariant (omega (arith, c.shape-shape.ensures.n_is)) refl (rw (← c.copy-own.ensures) c.join_row.ensures) (search)

pub returns : goal.returns
returns c = rowing_end _ _ _ _ _ c.loop-p.invariant (omega (arith, c.shape-shape.ensures.n_is))
