-- `sheets::check_pairs` meets its contract: the lines are indexed, then the start pair and the lines are looked up. Assumes nothing.
use mathlib.Core.Path.{sym}
use Rattle.sheets.proofs.Answers.{start_wrong, start_right}
use Rattle.sheets.proofs.check_pairs.Goals as goal

pub returns-then-not-start_holds : goal.returns-then-not-start_holds
returns-then-not-start_holds c = rw (← c.new-indexed.ensures) (start_wrong c.new-indexed.result.sheet (sym c.if-not-start_holds.ensures))

pub returns : goal.returns
returns c = rw (← c.new-indexed.ensures) (start_right c.new-indexed.result.sheet (sym c.if-not-start_holds.ensures) c.check_lines.ensures)
