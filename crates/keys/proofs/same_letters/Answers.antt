-- `keys::same_letters` meets its contract. Assumes nothing.
use mathlib.Core.Path.{refl, sym}
use native.Mathlib.Omega.{arith}
use Rattle.lists.proofs.Tests.{fell, held, all_more, all_fails}
use Rattle.paper.specs.Lists.{all_below}
use Rattle.kinds.proofs.Keys.{letter_part}
use Rattle.keys.proofs.same_letters.Goals as goal

pub loop-x-init : goal.loop-x-init
unfolding all_below
loop-x-init c = refl

pub returns-then-not-makes : goal.returns-then-not-makes
returns-then-not-makes c = sym (all_fails _ _ c.loop-x.x (omega arith) (fell (letter_part c.args.chart.now _ _ c.requires.1 c.loop-x.x _ refl (rw c.n-n.ensures.is at c.makes.ensures)) c.if-not-makes.true))

pub loop-x-preserved : goal.loop-x-preserved
loop-x-preserved c = all_more _ _ c.loop-x.invariant (held (letter_part c.args.chart.now _ _ c.requires.1 c.loop-x.x _ refl (rw c.n-n.ensures.is at c.makes.ensures)) c.if-not-makes.false)
