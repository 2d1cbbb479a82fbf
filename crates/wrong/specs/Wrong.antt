-- The wrong programs that document 01 names, and that the demands shut them out. A program is any function; what it does is said of all its
-- answers.
use Rattle.std.specs.Prelude.{◌≡◌, List, ℕ, suc, ◌*◌, ◌<◌, get_or}
use Rattle.paper.specs.Lists.{part, in_front}
use Rattle.paper.specs.Reply.{Reply}
use Rattle.paper.specs.Chart.{letters}
use Rattle.paper.specs.Tables.{row_size, grade_at, next_at}
use Rattle.paper.specs.Constructions.{Construction, reduced_by}
use Rattle.paper.specs.Builders.{Lent, blank, blank_table, blank_vectors}
use Rattle.promises.specs.Faithful.{SameAfterLetters}
use Rattle.promises.specs.Demands.{Builder, ForwardBuilds, ForwardFaithful, BackwardBuilder, BackwardBuilds, OnceBuilt, RowsFaithful, Smallest, SheetCheck, SheetSound, SheetComplete}

-- ---- builders

-- what a builder answers, and the table that it leaves: of a chart, a room, and a table that is lent
abbrev pub Builds : Type 0
Builds = List ℕ → ℕ → List ℕ → Reply × List ℕ

-- a program in a call's place; the rest of what it is lent is zeros and large enough
abbrev pub forward_call : Builder → Builds
forward_call p c room table = let o = p c room table (blank_vectors room) in (o.reply, o.table)

abbrev pub backward_call : BackwardBuilder → Builds
backward_call p c room table =
    let
    o =
    p
    c
    room
    8
    (record { table = table; reverse_table = blank_table 8; reverse_vectors = blank_vectors 8; rows = blank (suc room * 8) })
    in
    (o.reply, o.left.table)

-- what may hold of a table that is built: of chart and room, the count, the table as lent, and the table as left
abbrev pub Fact : Type 1
Fact = List ℕ → ℕ → ℕ → List ℕ → List ℕ → Type 0

-- it holds of every table that p builds
abbrev pub OfBuilt : Builds → Fact → Type 0
OfBuilt p Holds =
    (c : List ℕ) (room : ℕ) (table : List ℕ) → (p c room table).0.0 ≡ 0 → Holds c room (get_or (p c room table).0.1 0 0) table (p c room table).1

-- it refuses all charts: no table is built
abbrev pub RefusesAll : Fact
RefusesAll c room count table left = ⊥

abbrev pub OneFixedTable : List ℕ → Fact
OneFixedTable rows c room count table left = left ≡ in_front rows table

abbrev pub WritesNothing : Fact
WritesNothing c room count table left = left ≡ table

-- the row of state s
abbrev pub row_at : List ℕ → List ℕ → ℕ → List ℕ
row_at c left s = part (row_size (letters c)) s left

abbrev pub CopiesFirstRow : Fact
CopiesFirstRow c room count table left = (s : ℕ) → s < count → row_at c left s ≡ row_at c left 0

-- the count comes from anything but the chart
abbrev pub InventsCount : (ℕ → List ℕ → ℕ) → Fact
InventsCount invented c room count table left = count ≡ invented room table

-- document 01's five wrong builders: p is none of them
pub record NoneOfFive (p : Builds) : Type 0 where
  pub refuses_all : ¬ OfBuilt p RefusesAll
  pub one_fixed_table : (rows : List ℕ) → ¬ OfBuilt p (OneFixedTable rows)
  pub writes_nothing : ¬ OfBuilt p WritesNothing
  pub copies_first_row : ¬ OfBuilt p CopiesFirstRow
  pub invents_count : (invented : ℕ → List ℕ → ℕ) → ¬ OfBuilt p (InventsCount invented)

-- demand 2 shuts out all five: no program that it holds of is one of them
abbrev pub ForwardShutsOut : (List ℕ → Construction) → (List ℕ → List ℕ → List ℕ → Type 0) → Type 0
ForwardShutsOut by alike = (p : Builder) → ForwardBuilds p by → ForwardFaithful p by alike → NoneOfFive (forward_call p)

abbrev pub BackwardShutsOut : Type 0
BackwardShutsOut = (p : BackwardBuilder) → BackwardBuilds p → OnceBuilt p RowsFaithful → OnceBuilt p Smallest → NoneOfFive (backward_call p)

-- so does each call's contract: no program that answers and leaves what the call's definition says is one of them
abbrev pub ForwardContract : Builder → Type 0
ForwardContract call =
    (p : Builder) → ((c : List ℕ) (room : ℕ) (table vectors : List ℕ) → p c room table vectors ≡ call c room table vectors) →
    NoneOfFive (forward_call p)

abbrev pub BackwardContract : BackwardBuilder → Type 0
BackwardContract call =
    (p : BackwardBuilder) → ((c : List ℕ) (room reverseRoom : ℕ) (l : Lent) → p c room reverseRoom l ≡ call c room reverseRoom l) →
    NoneOfFive (backward_call p)

-- a table merged again by the numbers of its states has no two states with one grade and the same next states
abbrev pub MergesAgain : Fact
MergesAgain c room count table left =
    (s t : ℕ) → s < t → t < count → grade_at left (letters c) s ≡ grade_at left (letters c) t →
    ¬ ((x : ℕ) → x < letters c → next_at left (letters c) s x ≡ next_at left (letters c) t x)

-- that is not the reduced table
abbrev pub MergesOnce : Type 0
MergesOnce = (p : Builder) → ForwardBuilds p reduced_by → ForwardFaithful p reduced_by SameAfterLetters → ¬ OfBuilt (forward_call p) MergesAgain

-- ---- sheet checks

abbrev pub AcceptsAll : SheetCheck → Type 0
AcceptsAll check = (c rows : List ℕ) (count m : ℕ) (sheet : List ℕ) (lines : ℕ) → (check c rows count m sheet lines).0 ≡ 0

abbrev pub RefusesSheets : SheetCheck → Type 0
RefusesSheets check = (c rows : List ℕ) (count m : ℕ) (sheet : List ℕ) (lines : ℕ) → ¬ ((check c rows count m sheet lines).0 ≡ 0)

-- demand 3 shuts out both
abbrev pub SoundNotAll : Type 0
SoundNotAll = (check : SheetCheck) → SheetSound check → ¬ AcceptsAll check

abbrev pub CompleteNotNone : Type 0
CompleteNotNone = (check : SheetCheck) → SheetComplete check → ¬ RefusesSheets check
