-- `sheet_lines::check_lines` meets its contract: the first line that does not hold decides. Assumes nothing.
use native.Mathlib.Omega.{arith}
use mathlib.Core.Path.{refl}
use Rattle.paper.specs.Lists.{all_below}
use Rattle.std.proofs.lemmas.Result.{err_from_is_err_and}
use Rattle.lists.proofs.Tests.{all_more}
use Rattle.sheet_lines.proofs.LineAnswers.{all_hold, line_wrong}
use Rattle.sheet_lines.proofs.check_lines.Goals as goal

pub loop-i-init : goal.loop-i-init
unfolding all_below
loop-i-init c = refl

pub returns-in_err-check_line : goal.returns-in_err-check_line
returns-in_err-check_line c =
    let p = err_from_is_err_and c.from_residual.result c.from_residual.ensures.1 in
    rw (p.1, p.2) (line_wrong _ _ _ _ (omega arith) c.loop-i.invariant c.in_err-check_line.ensures)

pub loop-i-preserved : goal.loop-i-preserved
loop-i-preserved c = all_more _ _ c.loop-i.invariant c.in_ok-check_line.ensures

pub returns : goal.returns
returns c = all_hold _ _ _ _ c.loop-i.invariant (omega arith)
