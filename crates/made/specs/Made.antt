-- What a builder leaves for a program to print.
use Rattle.std.specs.Prelude.{◌≡◌, List, ℕ}
use Rattle.paper.specs.Reply.{Reply}
use Rattle.pages.specs.Programs.{built_text}
use Rattle.shown.specs.Shown.{Sound}

-- a builder left a table and answered r: the program's text is that of the table or the refusal
pub record Made (text c table : List ℕ) (r : Reply) : Type 0 where
  pub text_is : text ≡ built_text c r table
  pub sound : Sound c table r
