-- What the readers of a row ask of their callers.
use Rattle.std.specs.Prelude.{List, ℕ, ◌+◌, ◌*◌, ◌≤◌, length}
use Rattle.paper.specs.Tables.{row_size}

-- state s's row is inside the bytes, and its letters are few enough that no place in it is past the largest number
pub record RowIn (rows : List ℕ) (m s : ℕ) : Type 0 where
  pub few : m ≤ 16
  pub inside : s * row_size m + row_size m ≤ length rows
