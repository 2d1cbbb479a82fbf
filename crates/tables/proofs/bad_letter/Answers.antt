-- `tables::bad_letter` meets its contract. Assumes nothing.
use Rattle.std.proofs.Common.{◌<◌, ◌≤◌, rules, tests}
use Rattle.std.proofs.lemmas.Iterator.{IsFirst-from_position, YieldsList-from_slice}
use Rattle.tables.proofs.Walks.{bad_by}
use Rattle.tables.proofs.bad_letter.Goals as goal

pub returns : goal.returns
returns c =
    bad_by c.args.word.now c.args.m c.position.result
    (IsFirst-from_position _ _ _ (λ x. c.args.m ≤ x) (λ x. x < c.args.m) c.position.ensures.ran
    (YieldsList-from_slice c.args.word.now cc)
    (λ x q k. search (rules, tests))
    (λ x q k. search (rules, tests)))
