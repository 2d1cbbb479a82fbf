-- The table's test, from the size and the rows. Assumes nothing.
use mathlib.Core.Path.{◌≡◌}
use mathlib.Core.Bool.{true}
use mathlib.Core.List.{List}
use Prim.Native.Nat.{ℕ}
use Rattle.paper.specs.Lists.{all_below}
use Rattle.paper.specs.Tables.{size_fits, row_fits, table_fits}
use Rattle.lists.proofs.Tests.{both_split}

-- the table's test: the size, and the rows
module _ (rows : List ℕ) (count m top : ℕ) where
  pub table_parts : table_fits rows count m top ≡ true → (size_fits rows count m ≡ true) × (all_below count (row_fits rows count m top) ≡ true)
  unfolding table_fits
  table_parts e = both_split (size_fits rows count m) (all_below count (row_fits rows count m top)) e
