-- `card::cap` meets its contract: each return is what the tests on its way make of `cap_reply`. Assumes nothing.
use mathlib.Core.Path.{sym}
use Rattle.std.proofs.lemmas.Result.{err_from_is_err_and}
use Rattle.card.proofs.Caps.{cap_refused, cap_table, cap_is}
use Rattle.card.proofs.cap.Goals as goal

pub returns-in_err-chart : goal.returns-in_err-chart
returns-in_err-chart c =
    let p = err_from_is_err_and c.from_residual.result c.from_residual.ensures.1 in
    rw (p.1, p.2) (cap_refused _ _ _ _ _ c.in_err-chart.ensures)

pub returns-then-not-table_fits_chart : goal.returns-then-not-table_fits_chart
returns-then-not-table_fits_chart c = cap_table _ _ _ _ c.in_ok-chart.ensures (sym c.if-not-table_fits_chart.ensures)

pub cap_of-requires : goal.cap_of-requires
cap_of-requires c = record { fits = sym c.if-not-table_fits_chart.ensures }

pub returns : goal.returns
returns c = cap_is _ _ _ _ c.in_ok-chart.ensures (sym c.if-not-table_fits_chart.ensures) _ c.cap_of.ensures
