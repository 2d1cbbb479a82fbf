-- Document 01's number and values for everything that a call can answer.
use Rattle.std.specs.Prelude.{List, [], ◌∷◌, ℕ, Result, Ok, Err}
use Rattle.replies.specs.declared.Refusal.{Refusal}
use Rattle.replies.specs.declared.Refusal.TheVariants.{Sizes, Short, Grade, Law, Room, Reverse, States, Letter, Table, Sheet, Start, Line, Next, Text}
use Rattle.replies.specs.declared.Shape.{Shape}
use Rattle.replies.specs.declared.Both.{Both}
use Rattle.paper.specs.Reply.{Reply, fine}

abbrev pub said : Refusal → Reply
said Sizes = (1, [])
said Short = (2, [])
said Grade = (3, [])
said (Law law a b c) = (4, law ∷ a ∷ b ∷ c ∷ [])
said Room = (5, [])
said Reverse = (6, [])
said States = (7, [])
said (Letter at) = (8, at ∷ [])
said Table = (9, [])
said Sheet = (10, [])
said Start = (11, [])
said (Line line) = (12, line ∷ [])
said (Next line letter) = (13, line ∷ letter ∷ [])
said (Text line) = (14, line ∷ [])

-- the sizes of a chart, its letters, and where its parts begin
abbrev pub shape_said : Shape → List ℕ
shape_said s = s.k ∷ s.e ∷ s.n ∷ s.m ∷ s.letters ∷ s.join ∷ s.prod ∷ s.start ∷ s.end ∷ s.matrix ∷ s.size ∷ []

-- what an answer says: document 01's number 0 and its values, or what the refusal says
abbrev pub answer_said : {A : Type 0} → (A → List ℕ) → Result A Refusal → Reply
answer_said values (Ok a) = fine (values a)
answer_said values (Err why) = said why

-- an answer of one number: a state count, a next state, a grade or how many bytes were written
abbrev pub number_said : Result ℕ Refusal → Reply
number_said = answer_said (λ n. n ∷ [])

abbrev pub checked_said : Result Shape Refusal → Reply
checked_said = answer_said shape_said

-- what the table check and the sheet check answer
abbrev pub Verdict : Type 0
Verdict = Result (Unit {0}) Refusal

abbrev pub accepted : Verdict
accepted = Ok (record {})

abbrev pub verdict_said : Verdict → Reply
verdict_said = answer_said (λ _. [])

abbrev pub built_said : Result ℕ Refusal → Reply
built_said = number_said

abbrev pub both_said : Result Both Refusal → Reply
both_said = answer_said (λ b. b.states ∷ b.reverse ∷ [])

abbrev pub stepped_said : Result ℕ Refusal → Reply
stepped_said = number_said

abbrev pub graded_said : Result ℕ Refusal → Reply
graded_said = number_said

abbrev pub written_said : Result ℕ Refusal → Reply
written_said = number_said
