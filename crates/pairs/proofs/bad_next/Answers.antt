-- `pairs::bad_next` meets its contract: `find` answers the first letter at which the test fails. Assumes nothing.
use borrow.Author.Rules.{rules}
use mathlib.Core.Path.{refl}
use native.Mathlib.Omega.{arith}
use Prim.Native.Nat.{◌<◌}
use Rattle.std.proofs.Common.{tests}
use Rattle.std.proofs.lemmas.Iterator.{serves_from_Range}
use Rattle.paper.specs.Chart.{letters}
use Rattle.lists.proofs.Methods.{range_find}
use Rattle.lines.specs.Held.{next_held}
use Rattle.places.proofs.Search.{answered}
use Rattle.pairs.proofs.bad_next.Goals as goal

pub find-requires-clause-callable : goal.find-requires-clause-callable
find-requires-clause-callable c =
    serves_from_Range (λ x q k. search (rules, tests))
    (λ x low high y e.
    let h = c.requires in
    let l : y.now < letters c.args.indexed.now.sheet.chart.now = omega (arith, c.letters.ensures.is) in
    search rules)

pub returns : goal.returns
returns c =
    rw (← c.letters.ensures.is)
    (answered _ _ c.find.result
    (range_find _ _ _ c.find.result (next_held c.args.indexed.now.sheet c.args.i) c.letters.result refl c.find.ensures.ran
    (λ x b q k. search rules)))
