-- `law_tests::keeps_zero` meets its contract. Assumes nothing.
use Rattle.law_tests.proofs.LawTests.{zero_passes, zero_fails}
use Rattle.law_tests.proofs.keeps_zero.Goals as goal

pub returns-then-prod-eq0 : goal.returns-then-prod-eq0
returns-then-prod-eq0 c = zero_passes _ _ c.prod.ensures.is c.if-prod-eq0.true c.prod-then-prod-eq0.ensures.is

pub returns-else-prod-eq0 : goal.returns-else-prod-eq0
returns-else-prod-eq0 c = zero_fails _ _ c.prod.ensures.is c.if-prod-eq0.false
