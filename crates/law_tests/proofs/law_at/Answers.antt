-- `law_tests::law_at` meets its contract, arm by arm. Assumes nothing.
use mathlib.Core.Path.{ap, ap₂}
use native.Mathlib.Omega.{arith}
use lib.Dec.{eqb}
use Rattle.paper.specs.Chart.{join, prod}
use Rattle.paper.specs.Check.{laws, law_at}
use Rattle.law_tests.proofs.LawTests.{law_by, law_none, associates}
use Rattle.law_tests.proofs.law_at.Goals as goal

pub returns-in-0 : goal.returns-in-0
unfolding law_at laws
returns-in-0 c = law_by _ _ _ _ 0 c.in-0.is (ap (λ r. eqb r c.args.a) c.join.ensures.is)

pub returns-in-1 : goal.returns-in-1
unfolding law_at laws
returns-in-1 c = law_by _ _ _ _ 1 c.in-1.is (ap₂ eqb c.join-in-1.ensures.is c.join-in-1-2.ensures.is)

pub returns-in-2 : goal.returns-in-2
unfolding law_at laws
returns-in-2 c = law_by _ _ _ _ 2 c.in-2.is
    (associates (join c.args.chart.now) _ _ _
    c.join-in-2.ensures.is
    c.join-in-2-2.ensures.is
    c.join-in-2-3.ensures.is
    c.join-in-2-4.ensures.is)

pub returns-in-3 : goal.returns-in-3
unfolding law_at laws
returns-in-3 c = law_by _ _ _ _ 3 c.in-3.is (ap (λ r. eqb r c.args.a) c.join-in-3.ensures.is)

pub returns-in-4 : goal.returns-in-4
unfolding law_at laws
returns-in-4 c = law_by _ _ _ _ 4 c.in-4.is
    (associates (prod c.args.chart.now) _ _ _
    c.prod.ensures.is
    c.prod-in-4.ensures.is
    c.prod-in-4-2.ensures.is
    c.prod-in-4-3.ensures.is)

pub returns-in-5 : goal.returns-in-5
unfolding law_at laws
returns-in-5 c = law_by _ _ _ _ 5 c.in-5.is c.keeps_unit.ensures

pub returns-in-6 : goal.returns-in-6
unfolding law_at laws
returns-in-6 c = law_by _ _ _ _ 6 c.in-6.is c.keeps_zero.ensures

pub returns-in-7 : goal.returns-in-7
returns-in-7 c = law_by _ _ _ _ 7 c.in-7.is c.distributes.ensures

pub returns-in_default : goal.returns-in_default
returns-in_default c = law_none _ _ _ _ (omega arith)
