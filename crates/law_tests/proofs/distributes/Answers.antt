-- `law_tests::distributes` meets its contract. Assumes nothing.
use Rattle.law_tests.proofs.LawTests.{distributes_passes, distributes_fails}
use Rattle.law_tests.proofs.distributes.Goals as goal

pub returns-then-prod-left : goal.returns-then-prod-left
returns-then-prod-left c = distributes_passes _ _ _ _
    c.join-bc.ensures.is
    c.prod.ensures.is
    c.prod-2.ensures.is
    c.join-left.ensures.is
    c.prod-5.ensures.is
    c.if-prod-left.true
    c.prod-3.ensures.is
    c.prod-4.ensures.is
    c.join-right.ensures.is
    c.prod-then-prod-left.ensures.is

pub returns-else-prod-left : goal.returns-else-prod-left
returns-else-prod-left c = distributes_fails _ _ _ _
    c.join-bc.ensures.is
    c.prod.ensures.is
    c.prod-2.ensures.is
    c.join-left.ensures.is
    c.prod-5.ensures.is
    c.if-prod-left.false
