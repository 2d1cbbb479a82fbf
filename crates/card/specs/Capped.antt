-- What the cap asks of its callers.
use Rattle.std.specs.Prelude.{◌≡◌, true, List, ℕ}
use Rattle.paper.specs.Tables.{table_fits_chart}

-- a table whose letters and grades are the chart's, and that can be walked
pub record Beside (c rows : List ℕ) (count m : ℕ) : Type 0 where
  pub fits : table_fits_chart c rows count m ≡ true
