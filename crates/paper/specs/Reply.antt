-- What a call answers, in document 01's numbers.
use Rattle.std.specs.Prelude.{List, ℕ}

-- an answer: the refusal's number, 0 where nothing is refused, and the values that go with it
abbrev pub Reply : Type 0
Reply = ℕ × List ℕ

-- nothing is refused, and these are the values
abbrev pub fine : List ℕ → Reply
fine values = (0, values)
