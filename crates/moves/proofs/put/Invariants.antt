-- The loop of `moves::put`: the grades below p stand at the front.
use mathlib.Core.Path.{◌≡◌}
use lib.ListN.{get_or}
use Rattle.paper.specs.Lists.{tabulate, in_front}
use Rattle.moves.proofs.put.Given as goal

abbrev pub invariant-loop-p : goal.invariant-loop-p
invariant-loop-p l = l.out ≡ in_front (tabulate l.p (λ i. get_or l.v i 0)) l.initial.out
