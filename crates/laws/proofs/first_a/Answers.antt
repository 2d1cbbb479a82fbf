-- `laws::first_a` meets its contract. Assumes nothing.
use Rattle.std.specs.Prelude.{Some}
use mathlib.Core.Path.{ap, ◌∙◌}
use Rattle.paper.specs.Check.{law_at_two, law_at_one, broken_a, broken_b}
use Rattle.laws.specs.Laws.{with_b, with_c}
use Rattle.laws.proofs.Tries.{tried_more, some_first, none_first, some_fails, none_fails}
use Rattle.laws.proofs.first_a.Goals as goal

pub returns-in-Some : goal.returns-in-Some
unfolding broken_a broken_b law_at_one
returns-in-Some c =
    let told = some_fails _ (law_at_two c.args.chart.now c.args.law c.loop-a.a) (with_c c.args.chart.now c.args.law c.loop-a.a) c.first_b.ensures c.in-Some.is in
    ap (λ p. Some (c.loop-a.a, p.0, p.1)) told.1
    ∙ some_first c.loop-a.invariant (with_b c.args.chart.now c.args.law) c.loop-a-test.true told.0

pub loop-a-preserved : goal.loop-a-preserved
unfolding broken_b law_at_one
loop-a-preserved c =
    tried_more c.loop-a.invariant c.loop-a-test.true
    (none_fails _ (law_at_two c.args.chart.now c.args.law c.loop-a.a) (with_c c.args.chart.now c.args.law c.loop-a.a) c.first_b.ensures c.in_default.not-Some)

pub returns : goal.returns
unfolding broken_a
returns c = none_first c.loop-a.invariant (with_b c.args.chart.now c.args.law) c.loop-a-test.false
