-- `keys::same_letters` meets its contract. Assumes nothing.
use mathlib.Core.Bool.{true}
use mathlib.Core.Path.{◌≡◌}
use Rattle.paper.specs.Chart.{n_of}
use Rattle.paper.specs.Lists.{all_below}
use Rattle.kinds.specs.Kinds.{letter_same}
use Rattle.keys.proofs.same_letters.Given as goal

abbrev pub invariant-loop-x : goal.invariant-loop-x
invariant-loop-x l = all_below l.x (letter_same l.chart l.v (n_of l.chart) l.key) ≡ true
