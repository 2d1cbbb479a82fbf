-- The loop of `moves::put_next_row`: the new row's places below i stand at the front.
use mathlib.Core.Path.{◌≡◌}
use Rattle.paper.specs.Lists.{tabulate, in_front}
use Rattle.kinds.specs.Kinds.{next_row_at}
use Rattle.moves.proofs.put_next_row.Given as goal

abbrev pub invariant-loop-i : goal.invariant-loop-i
invariant-loop-i l = l.out ≡ in_front (tabulate l.i (next_row_at l.table l.letters l.x l.row)) l.initial.out
