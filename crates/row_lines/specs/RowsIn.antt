-- What printing a table's rows asks of its caller.
use Rattle.std.specs.Prelude.{List, ℕ, ◌*◌, ◌≤◌, length}
use Rattle.paper.specs.Tables.{row_size}
use Rattle.pages.specs.Frames.{line_length}

-- a table's rows are there, with few enough letters that no length is past the largest number, and a buffer has room for their lines
pub record RowsIn (rows : List ℕ) (count m : ℕ) (text : List ℕ) : Type 0 where
  pub few : m ≤ 16
  pub inside : count * row_size m ≤ length rows
  pub room : count * line_length (row_size m) ≤ length text
