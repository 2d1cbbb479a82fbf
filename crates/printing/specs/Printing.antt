-- What printing a table asks of its caller, and what it leaves.
use Rattle.std.specs.Prelude.{◌≡◌, List, ℕ, ◌≤◌, length}
use Rattle.paper.specs.Lists.{in_front}
use Rattle.pages.specs.Texts.{table_text_size}
use Rattle.card.specs.Capped.{Beside}

-- a table that is not refused beside its chart, and a buffer that has room for its text
pub record TableIn (c rows : List ℕ) (count m : ℕ) (text : List ℕ) : Type 0 where
  pub beside : Beside c rows count m
  pub room : table_text_size count m ≤ length text

-- a text stands in front of a buffer, and its length is known
pub record TablePut (printed old new : List ℕ) (size : ℕ) : Type 0 where
  pub size_is : size ≡ length printed
  pub front : new ≡ in_front printed old
