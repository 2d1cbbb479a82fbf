-- `vectors::times::combine` meets its contract: a term more with each place. Assumes nothing.
use native.Mathlib.Omega.{arith}
use mathlib.Core.Path.{refl}
use Rattle.vectors.proofs.Products.{joins_start, combine_more, combine_end}
use Rattle.vectors.proofs.times.combine.Goals as goal

pub loop-p-init : goal.loop-p-init
loop-p-init c = joins_start _ _ (omega (arith, c.shape-shape.ensures.sizes.k_low, c.shape-shape.ensures.k_is))

pub loop-p-preserved : goal.loop-p-preserved
loop-p-preserved c = combine_more _ _ _ _ c.loop-p.invariant refl refl c.prod.ensures.is c.join-sum.ensures

pub returns : goal.returns
returns c = combine_end _ _ _ (omega (arith, c.shape-shape.ensures.n_is)) c.loop-p.invariant
