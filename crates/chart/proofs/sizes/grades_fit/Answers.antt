-- `chart::sizes::grades_fit` meets its contract. Assumes nothing.
use Rattle.std.proofs.Common.{◌<◌, ◌≤◌, ◌-◌, rules, tests, drop, take, arith}
use Rattle.std.proofs.lemmas.Iterator.{cases_from_all, YieldsList-from_slice}
use Rattle.chart.proofs.Ranges.{grades_by}
use Rattle.chart.proofs.sizes.grades_fit.Goals as goal

pub returns : goal.returns
returns c =
    grades_by c.args.chart.now (c.args.size - 4) c.all.result c.requires.0 (omega arith) (omega arith)
    (cases_from_all _ _ _ (λ x. x < c.args.k) (λ x. c.args.k ≤ x) c.all.ensures.ran
    (YieldsList-from_slice (take (c.args.size - 4) (drop 4 c.args.chart.now)) cc)
    (λ x q k. search (rules, tests))
    (λ x q k. search (rules, tests)))
