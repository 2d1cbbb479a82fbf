-- One reply: what a call's contract is, and that no second answer meets it.
use Rattle.std.specs.Prelude.{◌≡◌, List, ℕ, Result}
use Rattle.replies.specs.Replies.{built_said, both_said, written_said}
use Rattle.paper.specs.Builders.{Forward, Lent, Backward}
use Rattle.pages.specs.Texts.{Filled}
use Rattle.replies.specs.declared.Refusal.{Refusal}
use Rattle.replies.specs.declared.Both.{Both}

-- A call's contract is one equation: what its answer and the lent memory that it leaves say is its outcome by definition.
-- No second answer and memory meet it.
abbrev pub OneReply : {A O : Type 0} → (A → O) → O → Type 0
OneReply {A} says outcome = (a b : A) → says a ≡ outcome → says b ≡ outcome → a ≡ b

-- ---- what answers and lent memory say

-- the Nerode and the reduced call: answer, table, vectors
abbrev pub forward_says : Result ℕ Refusal × List ℕ × List ℕ → Forward
forward_says a = record { reply = built_said a.0; table = a.1; vectors = a.2 }

-- the Brzozowski call: answer, and its four buffers
abbrev pub backward_says : Result Both Refusal × Lent → Backward
backward_says a = record { reply = both_said a.0; left = a.1 }

-- reading and printing: answer, buffer
abbrev pub filled_says : Result ℕ Refusal × List ℕ → Filled
filled_says a = record { reply = written_said a.0; buffer = a.1 }

-- a part of lent bytes, or a number: itself
abbrev pub it_says : {A : Type 0} → A → A
it_says a = a
