-- The loop of `moves::put_table_grades`: the grades below i stand at the front.
use mathlib.Core.Path.{◌≡◌}
use Rattle.paper.specs.Tables.{grade_at}
use Rattle.paper.specs.Lists.{tabulate, in_front}
use Rattle.moves.proofs.put_table_grades.Given as goal

abbrev pub invariant-loop-i : goal.invariant-loop-i
invariant-loop-i l = l.out ≡ in_front (tabulate l.i (grade_at l.table l.letters)) l.initial.out
