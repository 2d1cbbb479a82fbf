-- `laws::first_broken` meets its contract. Assumes nothing.
use mathlib.Core.Path.{◌≡◌, sym, ap}
use mathlib.Core.List.{[], ◌∷◌}
use Prim.Native.Nat.{suc}
use native.Mathlib.Numerals.{add-one}
use native.Mathlib.Omega.{arith}
use Rattle.paper.specs.Lists.{least_fail}
use Rattle.paper.specs.Check.{law_holds, law_at_one, broken_law, broken_a, broken_at}
use Rattle.laws.specs.Laws.{with_b}
use Rattle.laws.proofs.Tries.{fails_at, fails_nowhere, tried_more, some_fails, none_fails}
use Rattle.laws.proofs.first_broken.Goals as goal

pub returns-in-Some : goal.returns-in-Some
unfolding law_holds broken_a broken_law broken_at
returns-in-Some c =
    let told = some_fails _ (law_at_one c.args.chart.now c.loop-law.law) (with_b c.args.chart.now c.loop-law.law) c.first_a.ensures c.in-Some.is in
    let first : c.loop-law.law ≡ least_fail 8 (law_holds c.args.chart.now) = fails_at c.loop-law.invariant c.loop-law-test.true told.0 in
    (omega arith, rw (← first, add-one) (ap (λ p. (4, suc c.loop-law.law ∷ p.0 ∷ p.1 ∷ p.2 ∷ [])) told.1))

pub loop-law-preserved : goal.loop-law-preserved
unfolding law_holds broken_a
loop-law-preserved c =
    tried_more c.loop-law.invariant c.loop-law-test.true
    (none_fails _ (law_at_one c.args.chart.now c.loop-law.law) (with_b c.args.chart.now c.loop-law.law) c.first_a.ensures c.in_default.not-Some)

pub returns : goal.returns
unfolding broken_law
returns c = sym (fails_nowhere c.loop-law.invariant c.loop-law-test.false)
