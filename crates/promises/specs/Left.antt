-- What a call that met its contract has left: demand 2 of a builder's bytes themselves, and demand 3 of the sheet check's own answer.
use Rattle.std.specs.Prelude.{◌≡◌, true, List, ℕ, ◌≤◌, Ok}
use Rattle.paper.specs.Words.{Word}
use Rattle.replies.specs.Replies.{Verdict, accepted, verdict_said}
use Rattle.paper.specs.Chart.{letters}
use Rattle.paper.specs.Vectors.{grade_of}
use Rattle.paper.specs.Tables.{table_fits, table_grade}
use Rattle.paper.specs.Builders.{Lent, brzozowski}
use Rattle.paper.specs.Sheets.{sheet_reply}
use Rattle.algebra.specs.Honest.{Right, Honest}
use Rattle.promises.specs.Faithful.{EveryWord}
use Rattle.promises.specs.Demands.{Builder}
use Rattle.promises.specs.OneReply.{forward_says, backward_says}

-- a table's bytes grade every word as the chart does
abbrev pub GradesAll : List ℕ → List ℕ → Type 0
GradesAll c rows = EveryWord c (λ u. table_grade rows (letters c) u ≡ grade_of c u)

-- ---- demand 2

-- whoever answers a state count and leaves this table and these vectors, as the contract says, left a table that grades every word
abbrev pub ForwardLeaves : Builder → Type 0
ForwardLeaves build =
    (c : List ℕ) (room : ℕ) (table vectors left kept : List ℕ) (count : ℕ) →
    forward_says (Ok count, left, kept) ≡ build c room table vectors → GradesAll c left

-- the same of the Brzozowski call, and that no table that grades every word has fewer states than it answers
abbrev pub BrzozowskiLeaves : Type 0
BrzozowskiLeaves =
    (c : List ℕ) (room reverseRoom : ℕ) (lent left : Lent) (count reverse : ℕ) →
    backward_says (Ok (record { states = count; reverse = reverse }), left) ≡ brzozowski c room reverseRoom lent →
    GradesAll c left.table ×
    ((rows : List ℕ) (fewer top : ℕ) → table_fits rows fewer (letters c) top ≡ true → GradesAll c rows → count ≤ fewer)

-- ---- demand 3

-- P holds of every answer that meets the sheet check's contract
abbrev pub SheetAnswers : (List ℕ → List ℕ → ℕ → ℕ → List ℕ → ℕ → Verdict → Type 0) → Type 0
SheetAnswers P =
    (c rows : List ℕ) (count m : ℕ) (sheet : List ℕ) (lines : ℕ) (r : Verdict) →
    verdict_said r ≡ sheet_reply c rows count m sheet lines → P c rows count m sheet lines r

-- what is accepted grades every word as the chart does
abbrev pub AcceptsTrue : Type 0
AcceptsTrue = SheetAnswers (λ c rows count m sheet lines r. r ≡ accepted → GradesAll c rows)

-- a right table with an honest sheet is accepted
abbrev pub AcceptsHonest : Type 0
AcceptsHonest = SheetAnswers (λ c rows count m sheet lines r. Right c rows count m → Honest c rows m sheet lines → r ≡ accepted)

-- a table that grades one word otherwise is accepted with no sheet
abbrev pub AcceptsNoFalse : Type 0
AcceptsNoFalse =
    SheetAnswers
    (λ c rows count m sheet lines r.
    (u : List ℕ) → Word (letters c) u → ¬ (table_grade rows (letters c) u ≡ grade_of c u) → ¬ (r ≡ accepted))
