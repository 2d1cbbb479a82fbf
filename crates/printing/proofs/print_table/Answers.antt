-- `printing::print_table` meets its contract: each return is what the tests on its way make of `print_table`.
-- Assumes nothing.
use Rattle.lists.proofs.Tests.{fell, held}
use Rattle.std.proofs.lemmas.Result.{err_from_is_err_and}
use Rattle.printing.proofs.TableText.{print_refused, print_room, print_bad, table_in, print_done}
use Rattle.printing.proofs.print_table.Goals as goal

pub returns-then-not-text_fits : goal.returns-then-not-text_fits
returns-then-not-text_fits c = print_room _ _ _ _ _ c.in_ok-chart.ensures (fell c.text_fits.ensures c.if-not-text_fits.true)

pub returns-then-not-table_fits_chart : goal.returns-then-not-table_fits_chart
returns-then-not-table_fits_chart c = print_bad _ _ _ _ _ c.in_ok-chart.ensures (held c.text_fits.ensures c.if-not-text_fits.false) (fell c.table_fits_chart.ensures c.if-not-table_fits_chart.true)

pub put_table-requires : goal.put_table-requires
put_table-requires c = table_in _ _ _ _ _ c.in_ok-chart.ensures (held c.text_fits.ensures c.if-not-text_fits.false) (held c.table_fits_chart.ensures c.if-not-table_fits_chart.false)

pub returns-in_err-chart : goal.returns-in_err-chart
returns-in_err-chart c =
    let p = err_from_is_err_and c.from_residual.result c.from_residual.ensures.1 in
    rw (p.1, p.2) (print_refused _ _ _ _ _ _ c.in_err-chart.ensures)

pub returns : goal.returns
returns c = print_done _ _ _ _ _ c.in_ok-chart.ensures (held c.text_fits.ensures c.if-not-text_fits.false) (held c.table_fits_chart.ensures c.if-not-table_fits_chart.false) _ _ c.put_table.ensures
