-- `shown::show` meets its contract. Assumes nothing.
use Rattle.shown.proofs.Printed.{chart_ok, table_ok, table_answered}
use Rattle.chart.proofs.Checked.{shaped}
use Rattle.shown.proofs.show.Goals as goal

pub unwrap-shape-requires : goal.unwrap-shape-requires
unwrap-shape-requires c = chart_ok c.requires.0 _ c.check.ensures

pub unwrap-requires : goal.unwrap-requires
unwrap-requires c = table_ok c.requires.0 c.print_table.result _ c.requires.1 _ (shaped _ c.check.ensures c.unwrap-shape.ensures).letters_is c.print_table.ensures

pub returns : goal.returns
returns c = table_answered c.requires.0 c.print_table.result _ c.requires.1 _ (shaped _ c.check.ensures c.unwrap-shape.ensures).letters_is c.print_table.ensures c.unwrap.ensures
