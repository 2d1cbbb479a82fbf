-- What a program's answer is, and how long it may be.
use Rattle.std.specs.Prelude.{◌≡◌, List, ℕ, ◌≤◌, length}
use Rattle.paper.specs.Lists.{in_front}

-- a text stands at a buffer's front, where there was room for it, and its length is known
pub record Answered (text old new : List ℕ) (size : ℕ) : Type 0 where
  pub room : length text ≤ length old
  pub size_is : size ≡ length text
  pub front : new ≡ in_front text old

-- the longest text of a table with as many states as the programs have room for, of 16 letters
abbrev pub answer_most : ℕ
answer_most = 9366
