-- `law_tests::keeps_unit` meets its contract. Assumes nothing.
use Rattle.law_tests.proofs.LawTests.{unit_passes, unit_fails}
use Rattle.law_tests.proofs.keeps_unit.Goals as goal

pub returns-then-prod-a : goal.returns-then-prod-a
returns-then-prod-a c = unit_passes _ _ c.shape-shape.ensures.e_is c.prod.ensures.is c.if-prod-a.true c.prod-then-prod-a.ensures.is

pub returns-else-prod-a : goal.returns-else-prod-a
returns-else-prod-a c = unit_fails _ _ c.shape-shape.ensures.e_is c.prod.ensures.is c.if-prod-a.false
