-- `rows::size_fits` meets its contract. Assumes nothing.
use native.Mathlib.Omega.{arith}
use Rattle.std.proofs.lemmas.Bool.Decides.{nat_tests}
use Rattle.paper.specs.Lists.{both}
use Rattle.paper.specs.Tables.{size_fits}
use Rattle.rows.proofs.size_fits.Goals as goal

pub returns-then-contains-2 : goal.returns-then-contains-2
unfolding size_fits both
returns-then-contains-2 c = grind (arith, nat_tests)

pub returns-else-contains-2 : goal.returns-else-contains-2
unfolding size_fits both
returns-else-contains-2 c = grind (arith, nat_tests)
