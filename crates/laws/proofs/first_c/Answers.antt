-- `laws::first_c` meets its contract. Assumes nothing.
use Rattle.std.proofs.Common.{◌<◌, refl, rules, tests}
use Rattle.std.proofs.lemmas.Iterator.{serves_from_Range}
use native.Mathlib.Omega.{arith}
use Rattle.paper.specs.Chart.{k_of}
use Rattle.paper.specs.Check.{law_at, broken_c}
use Rattle.lists.proofs.Methods.{range_find}
use Rattle.laws.specs.Laws.{Enough}
use Rattle.laws.proofs.Tries.{found_first}
use Rattle.laws.proofs.first_c.Goals as goal

pub find-requires-clause-callable : goal.find-requires-clause-callable
find-requires-clause-callable c =
    serves_from_Range (λ x q k. search (rules, tests))
    (λ x low high y e.
    let h = c.requires in
    let l : y.now < k_of c.args.chart.now = omega (arith, c.k.ensures.is, (c.tries_c.ensures c.args.chart.now 0 0).low) in
    (search rules, search rules))

pub returns : goal.returns
unfolding broken_c
returns c =
    let enough : Enough (k_of c.args.chart.now) c.tries_c.result (law_at c.args.chart.now c.args.law c.args.a c.args.b) =
    rw (← c.k.ensures.is) (c.tries_c.ensures _ _ _) in
    found_first (law_at c.args.chart.now c.args.law c.args.a c.args.b) enough c.find.result
    (range_find _ _ _ c.find.result (law_at c.args.chart.now c.args.law c.args.a c.args.b) c.tries_c.result refl c.find.ensures.ran
    (λ x b q k. search (rules, tests)))
