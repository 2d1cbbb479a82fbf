-- `moves::put_table_grades` meets its contract: a grade more with each turn. Assumes nothing.
use native.Mathlib.Omega.{arith}
use mathlib.Core.Path.{◌≡◌, refl, ◌∙◌}
use Rattle.paper.specs.Lists.{tabulate}
use Rattle.kinds.specs.Kinds.{grades_in}
use Rattle.lists.proofs.Lent.{in_front_none, in_front_tabulate}
use Rattle.moves.proofs.put_table_grades.Goals as goal

pub loop-i-init : goal.loop-i-init
unfolding tabulate
loop-i-init c = in_front_none _

pub loop-i-preserved : goal.loop-i-preserved
loop-i-preserved c = in_front_tabulate _ _ _ (omega arith) c.loop-i.invariant c.grade_at.ensures

pub returns : goal.returns
unfolding grades_in
returns c = let e : c.loop-i.i ≡ c.args.count = omega arith in c.loop-i.invariant ∙ rw e refl
