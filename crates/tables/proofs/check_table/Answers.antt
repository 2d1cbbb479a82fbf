-- `tables::check_table` meets its contract: the table's test decides between the two answers. Assumes nothing.
use Rattle.lists.proofs.Tests.{fell, held}
use Rattle.tables.proofs.Walks.{table_refused, table_accepted}
use Rattle.tables.proofs.check_table.Goals as goal

pub returns-then-not-table_fits : goal.returns-then-not-table_fits
returns-then-not-table_fits c = table_refused _ _ _ (fell c.table_fits.ensures c.if-not-table_fits.true)

pub returns : goal.returns
returns c = table_accepted _ _ _ (held c.table_fits.ensures c.if-not-table_fits.false)
