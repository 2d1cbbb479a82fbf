-- `chart::sizes::laid_out` meets its contract: nothing wraps, since sizes in range have small products. Assumes nothing.
use mathlib.Core.Path.{refl}
use native.Mathlib.Omega.{arith}
use Rattle.paper.specs.Chart.{letters}
use Rattle.paper.specs.Check.{shape_of}
use Rattle.chart.proofs.Ranges.{small}
use Rattle.chart.proofs.sizes.laid_out.Goals as goal

pub overflow_mul-prod : goal.overflow_mul-prod
overflow_mul-prod c = omega (arith, small c.requires)

pub overflow_add-prod : goal.overflow_add-prod
overflow_add-prod c = omega (arith, small c.requires)

pub overflow_mul-start : goal.overflow_mul-start
overflow_mul-start c = omega (arith, small c.requires)

pub overflow_add-start : goal.overflow_add-start
overflow_add-start c = omega (arith, small c.requires)

pub overflow_add-end : goal.overflow_add-end
overflow_add-end c = omega (arith, small c.requires)

pub overflow_add-matrix : goal.overflow_add-matrix
overflow_add-matrix c = omega (arith, small c.requires)

pub overflow_mul-result : goal.overflow_mul-result
overflow_mul-result c = omega (arith, small c.requires)

pub overflow_mul-result-2 : goal.overflow_mul-result-2
overflow_mul-result-2 c = omega (arith, small c.requires)

pub overflow_add-result : goal.overflow_add-result
overflow_add-result c = omega (arith, small c.requires)

pub returns : goal.returns
unfolding shape_of letters
returns c = refl
