-- `sheets::check_sheet` meets its contract: each return is what the tests on its way make of `sheet_reply`. Assumes nothing.
use mathlib.Core.Path.{sym}
use native.Mathlib.Omega.{arith}
use Rattle.std.proofs.lemmas.Result.{err_from_is_err_and}
use Rattle.sheets.proofs.Answers.{readable, chart_refused, table_refused, sheet_refused, pairs_said}
use Rattle.sheets.proofs.check_sheet.Goals as goal

pub returns-in_err-chart : goal.returns-in_err-chart
returns-in_err-chart c =
    let p = err_from_is_err_and c.from_residual.result c.from_residual.ensures.1 in
    rw (p.1, p.2) (chart_refused _ _ _ _ _ _ _ c.in_err-chart.ensures)

pub returns-then-not-table_fits_chart : goal.returns-then-not-table_fits_chart
returns-then-not-table_fits_chart c = table_refused _ _ _ _ _ _ c.in_ok-chart.ensures (sym c.if-not-table_fits_chart.ensures)

pub returns-then-not-sheet_fits : goal.returns-then-not-sheet_fits
returns-then-not-sheet_fits c = sheet_refused _ _ _ _ _ _ c.in_ok-chart.ensures (sym c.if-not-table_fits_chart.ensures) (sym c.if-not-sheet_fits.ensures)

pub invariant_of-check_pairs : goal.invariant_of-check_pairs
invariant_of-check_pairs c = record { readable = readable _ _ _ _ _ _ (λ j. omega (arith, c.type_inv.sheet j)) (sym c.if-not-table_fits_chart.ensures) (sym c.if-not-sheet_fits.ensures) }

pub returns : goal.returns
returns c =
    pairs_said _ _ _ _ _ _ c.in_ok-chart.ensures (sym c.if-not-table_fits_chart.ensures) (sym c.if-not-sheet_fits.ensures) c.check_pairs.ensures
