-- `moves::put_next_row` meets its contract: a place more with each turn. Assumes nothing.
use native.Mathlib.Omega.{arith}
use mathlib.Core.Path.{◌≡◌, refl, ◌∙◌}
use Rattle.paper.specs.Lists.{tabulate}
use Rattle.kinds.specs.Kinds.{next_row}
use Rattle.kinds.proofs.KindLaws.{next_entry}
use Rattle.lists.proofs.Lent.{in_front_none, in_front_tabulate}
use Rattle.moves.proofs.put_next_row.Goals as goal

pub loop-i-init : goal.loop-i-init
unfolding tabulate
loop-i-init c = in_front_none _

pub loop-i-preserved : goal.loop-i-preserved
loop-i-preserved c = in_front_tabulate _ _ _ (omega arith) c.loop-i.invariant (next_entry _ _ c.loop-i.i c.args.x _ c.next_at-next.ensures.0 refl)

pub returns : goal.returns
unfolding next_row
returns c = let e : c.loop-i.i ≡ c.args.count = omega arith in c.loop-i.invariant ∙ rw e refl
