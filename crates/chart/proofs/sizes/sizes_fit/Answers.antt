-- `chart::sizes::sizes_fit` meets its contract. Assumes nothing.
use native.Mathlib.Omega.{arith}
use Rattle.std.proofs.lemmas.Bool.Decides.{nat_tests}
use Rattle.paper.specs.Lists.{both}
use Rattle.paper.specs.Check.{sizes_fit}
use Rattle.chart.proofs.sizes.sizes_fit.Goals as goal

pub returns-then-contains-2 : goal.returns-then-contains-2
unfolding sizes_fit both
returns-then-contains-2 c = grind (arith, nat_tests)

pub returns-else-contains-2 : goal.returns-else-contains-2
unfolding sizes_fit both
returns-else-contains-2 c = grind (arith, nat_tests)
