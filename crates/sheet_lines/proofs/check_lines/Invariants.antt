-- The loop of `sheet_lines::check_lines`: the lines passed hold.
use mathlib.Core.Path.{◌≡◌}
use mathlib.Core.Bool.{true}
use Rattle.paper.specs.Lists.{all_below}
use Rattle.lines.specs.Held.{line_held}
use Rattle.sheet_lines.proofs.check_lines.Given as goal

abbrev pub invariant-loop-i : goal.invariant-loop-i
invariant-loop-i l = all_below l.i (line_held l.indexed.sheet) ≡ true
