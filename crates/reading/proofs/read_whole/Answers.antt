-- `reading::read_whole` meets its contract: each step is what `lines_read` makes of the lines, and of the check of the chart read.
-- Assumes nothing.
use mathlib.Core.Path.{sym}
use native.Mathlib.Omega.{arith}
use lib.Seq.{length-take-le}
use Rattle.std.proofs.lemmas.Result.{err_from_is_err_and}
use Rattle.reading.proofs.Whole.{whole_none, size_inside, whole_fine, whole_refused}
use Rattle.reading.proofs.read_whole.Goals as goal

pub slice_bounds-check-end : goal.slice_bounds-check-end
slice_bounds-check-end c = size_inside _ _ _ c.read_lines.auto.chart _ c.read_lines.ensures _ c.in_ok-size.was

pub slice_bounds-check-end-2 : goal.slice_bounds-check-end-2
slice_bounds-check-end-2 c = sym (length-take-le _ _ (size_inside _ _ _ c.read_lines.auto.chart _ c.read_lines.ensures _ c.in_ok-size.was))

pub returns-in_err-size : goal.returns-in_err-size
returns-in_err-size c =
    let p = err_from_is_err_and c.from_residual.result c.from_residual.ensures.1 in
    rw (p.1, p.2) (whole_none _ _ _ c.read_lines.auto.chart _ c.read_lines.ensures _ c.in_err-size.was)

pub returns-in_err-shape : goal.returns-in_err-shape
returns-in_err-shape c =
    let p = err_from_is_err_and c.from_residual-in_err-shape.result c.from_residual-in_err-shape.ensures.1 in
    rw (p.1, p.2) (whole_refused _ _ _ c.read_lines.auto.chart _ c.read_lines.ensures _ c.in_ok-size.was _ (grind arith) _ c.in_err-shape.was)

pub returns : goal.returns
returns c = whole_fine _ _ _ c.read_lines.auto.chart _ c.read_lines.ensures _ c.in_ok-size.was _ (grind arith) _ c.in_ok-shape.was
