-- What the walk asks of its callers.
use Rattle.std.specs.Prelude.{◌≡◌, true, List, ℕ, length}
use Rattle.paper.specs.Lists.{all_below}
use Rattle.paper.specs.Tables.{grade_top, table_fits, letter_fits}

-- a table and a word with which the walk meets no refusal
pub record Walkable (rows : List ℕ) (count m : ℕ) (word : List ℕ) : Type 0 where
  pub table : table_fits rows count m grade_top ≡ true
  pub letters : all_below (length word) (letter_fits word m) ≡ true
