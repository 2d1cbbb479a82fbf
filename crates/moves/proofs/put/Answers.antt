-- `moves::put` meets its contract: a grade more with each turn. Assumes nothing.
use native.Mathlib.Omega.{arith}
use mathlib.Core.Path.{◌≡◌, refl, ap, ◌∙◌}
use lib.ListN.{length}
use Rattle.paper.specs.Lists.{tabulate, in_front}
use Rattle.lists.proofs.ByPlace.{tabulate_get_or}
use Rattle.lists.proofs.Lent.{in_front_none, in_front_tabulate}
use Rattle.moves.proofs.put.Goals as goal

pub loop-p-init : goal.loop-p-init
unfolding tabulate
loop-p-init c = in_front_none _

pub loop-p-preserved : goal.loop-p-preserved
loop-p-preserved c = in_front_tabulate _ _ _ (omega arith) c.loop-p.invariant refl

pub returns : goal.returns
returns c =
    let e : length c.args.v.now ≡ c.loop-p.p = omega arith in
    c.loop-p.invariant ∙ ap (λ vs. in_front vs c.args.out.now) (tabulate_get_or c.loop-p.p c.args.v.now 0 e)
