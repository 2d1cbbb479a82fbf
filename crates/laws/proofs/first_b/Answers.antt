-- `laws::first_b` meets its contract. Assumes nothing.
use Rattle.paper.specs.Check.{law_at, law_at_two, broken_b, broken_c}
use Rattle.laws.specs.Laws.{with_c}
use Rattle.laws.proofs.Tries.{tried_none, tried_more, some_first, none_first, some_fails, none_fails}
use Rattle.laws.proofs.first_b.Goals as goal

pub loop-b-init : goal.loop-b-init
loop-b-init c = tried_none (rw (← c.k.ensures.is) (c.tries_b-b-end.ensures _ _))

pub returns-in-Some : goal.returns-in-Some
unfolding broken_b broken_c law_at_two
returns-in-Some c =
    let told = some_fails _ (law_at c.args.chart.now c.args.law c.args.a c.loop-b.b) (λ c. c) c.first_c.ensures c.in-Some.is in
    rw told.1 (some_first c.loop-b.invariant (with_c c.args.chart.now c.args.law c.args.a) c.loop-b-test.true told.0)

pub loop-b-preserved : goal.loop-b-preserved
unfolding broken_c law_at_two
loop-b-preserved c =
    tried_more c.loop-b.invariant c.loop-b-test.true
    (none_fails _ (law_at c.args.chart.now c.args.law c.args.a c.loop-b.b) (λ c. c) c.first_c.ensures c.in_default.not-Some)

pub returns : goal.returns
unfolding broken_b
returns c = none_first c.loop-b.invariant (with_c c.args.chart.now c.args.law c.args.a) c.loop-b-test.false
