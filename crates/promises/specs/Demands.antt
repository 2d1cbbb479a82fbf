-- Demands 2 and 3, said of any program in a call's place: of what it answers and of the bytes that it leaves. To be read with `Faithful`
-- and with honest sheets (crates/algebra/specs).
use Rattle.std.specs.Prelude.{◌≡◌, true, ◌↔◌, List, [], ◌∷◌, ◌++◌, reverse, ℕ, suc, ◌≤◌, ◌<◌, get_or}
use Rattle.paper.specs.Lists.{joined}
use Rattle.paper.specs.Words.{Word}
use Rattle.paper.specs.Reply.{Reply, fine}
use Rattle.paper.specs.Chart.{letters}
use Rattle.paper.specs.Check.{chart_fits}
use Rattle.paper.specs.Vectors.{combine, vector_of, grade_of, reverse_of}
use Rattle.paper.specs.Tables.{two_bytes, table_fits, state_of, table_grade, word_reply}
use Rattle.paper.specs.Constructions.{Construction, reverse_by, reverse_states, rows_by}
use Rattle.paper.specs.Builders.{Forward, forward_room, nerode, Lent, Backward, backward_room}
use Rattle.numbering.specs.Numbered.{ManyKeys}
use Rattle.algebra.specs.Honest.{Right, Honest}
use Rattle.promises.specs.Faithful.{Result, answered, of_forward, of_reverse, of_rows, values_of, EveryWord, Faithful, SameFuture, SameReverse, KeepsFirst}

-- a construction's distinct states outnumber a room: one word more than the room have pairwise different keys
abbrev pub Outnumber : List ℕ → Construction → ℕ → Type 0
Outnumber c b room = ManyKeys b.key b.step (letters c) b.first (suc room)

-- ---- demand 2: the Nerode and the reduced call

-- chart, room, lent table, lent vectors
abbrev pub Builder : Type 0
Builder = List ℕ → ℕ → List ℕ → List ℕ → Forward

-- what a call that refuses nothing leaves is faithful to its construction and to the chart's grades
abbrev pub ForwardFaithful : Builder → (List ℕ → Construction) → (List ℕ → List ℕ → List ℕ → Type 0) → Type 0
ForwardFaithful build by alike =
    (c : List ℕ) (room : ℕ) (table vectors : List ℕ) → (build c room table vectors).reply.0 ≡ 0 →
    Faithful c (by c) (grade_of c) (alike c) (of_forward c (build c room table vectors))

-- the vector kept is that of the state's first word
abbrev pub ForwardKeeps : Builder → Type 0
ForwardKeeps build =
    (c : List ℕ) (room : ℕ) (table vectors : List ℕ) → (build c room table vectors).reply.0 ≡ 0 →
    KeepsFirst c (vector_of c) (of_forward c (build c room table vectors))

-- neither the chart nor the room and the lent buffers are refused
abbrev pub ForwardAdmits : List ℕ → ℕ → List ℕ → List ℕ → Type 0
ForwardAdmits c room table vectors = (chart_fits c ≡ true) × (forward_room c room table vectors ≡ true)

-- nothing is refused exactly where those are not and the distinct states do not outnumber the room
abbrev pub ForwardBuilds : Builder → (List ℕ → Construction) → Type 0
ForwardBuilds build by =
    (c : List ℕ) (room : ℕ) (table vectors : List ℕ) →
    ((build c room table vectors).reply.0 ≡ 0) ↔ (ForwardAdmits c room table vectors × (¬ Outnumber c (by c) room))

-- 7 exactly where they do
abbrev pub ForwardSeven : Builder → (List ℕ → Construction) → Type 0
ForwardSeven build by =
    (c : List ℕ) (room : ℕ) (table vectors : List ℕ) →
    ((build c room table vectors).reply ≡ (7, [])) ↔ (ForwardAdmits c room table vectors × Outnumber c (by c) room)

-- ---- demand 2: the Brzozowski call

-- chart, room, reverse room, lent buffers
abbrev pub BackwardBuilder : Type 0
BackwardBuilder = List ℕ → ℕ → ℕ → Lent → Backward

-- P holds of chart, reverse room and outcome wherever nothing is refused
abbrev pub OnceBuilt : BackwardBuilder → (List ℕ → ℕ → Backward → Type 0) → Type 0
OnceBuilt build P =
    (c : List ℕ) (room reverseRoom : ℕ) (l : Lent) → (build c room reverseRoom l).reply.0 ≡ 0 →
    P c reverseRoom (build c room reverseRoom l)

-- the table is faithful to the rows over the reverse vectors that the call leaves
abbrev pub RowsFaithful : List ℕ → ℕ → Backward → Type 0
RowsFaithful c reverseRoom o = Faithful c (rows_by c (values_of (of_reverse c o))) (grade_of c) (SameFuture c) (of_rows reverseRoom o)

-- the reverse table is faithful too: it grades every word as the chart grades the word turned round
abbrev pub ReverseFaithful : List ℕ → ℕ → Backward → Type 0
ReverseFaithful c reverseRoom o = Faithful c (reverse_by c) (λ w. grade_of c (reverse w)) (SameReverse c) (of_reverse c o)

-- the reverse vector kept is that of the state's first word, its letters in the order applied to the end vector
abbrev pub ReverseKeeps : List ℕ → ℕ → Backward → Type 0
ReverseKeeps c reverseRoom o = KeepsFirst c (reverse_of c) (of_reverse c o)

-- the row of a word lists, for every reverse vector, the word's vector combined with it
abbrev pub RowsCombine : List ℕ → ℕ → Backward → Type 0
RowsCombine c reverseRoom o =
    EveryWord
    c
    (λ u.
    (i : ℕ) → i < answered o.reply 1 →
    get_or ((of_rows reverseRoom o).value (state_of o.left.table (letters c) u)) i 0 ≡ combine c (vector_of c u) ((of_reverse c o).value i))

-- no table that grades every word as the chart does has fewer states
abbrev pub Smallest : List ℕ → ℕ → Backward → Type 0
Smallest c reverseRoom o =
    (rows : List ℕ) (count top : ℕ) → table_fits rows count (letters c) top ≡ true → EveryWord c (λ u. table_grade rows (letters c) u ≡ grade_of c u) →
    answered o.reply 0 ≤ count

-- neither the chart nor the rooms and the lent buffers are refused
abbrev pub BackwardAdmits : List ℕ → ℕ → ℕ → Lent → Type 0
BackwardAdmits c room reverseRoom l = (chart_fits c ≡ true) × (backward_room c room reverseRoom l ≡ true)

-- the reverse vectors fit their room
abbrev pub ReverseFits : List ℕ → ℕ → Type 0
ReverseFits c reverseRoom = ¬ Outnumber c (reverse_by c) reverseRoom

-- the distinct rows over the reverse vectors outnumber their room
abbrev pub RowsOutnumber : List ℕ → ℕ → ℕ → Type 0
RowsOutnumber c room reverseRoom = Outnumber c (rows_by c (reverse_states c reverseRoom)) room

-- nothing is refused exactly where neither outnumbers its room
abbrev pub BackwardBuilds : BackwardBuilder → Type 0
BackwardBuilds build =
    (c : List ℕ) (room reverseRoom : ℕ) (l : Lent) →
    ((build c room reverseRoom l).reply.0 ≡ 0) ↔
    (BackwardAdmits c room reverseRoom l × (ReverseFits c reverseRoom × (¬ RowsOutnumber c room reverseRoom)))

-- 6 exactly where the reverse vectors do
abbrev pub BackwardSix : BackwardBuilder → Type 0
BackwardSix build =
    (c : List ℕ) (room reverseRoom : ℕ) (l : Lent) →
    ((build c room reverseRoom l).reply ≡ (6, [])) ↔ (BackwardAdmits c room reverseRoom l × Outnumber c (reverse_by c) reverseRoom)

-- 7 exactly where the rows do and the reverse vectors do not
abbrev pub BackwardSeven : BackwardBuilder → Type 0
BackwardSeven build =
    (c : List ℕ) (room reverseRoom : ℕ) (l : Lent) →
    ((build c room reverseRoom l).reply ≡ (7, [])) ↔
    (BackwardAdmits c room reverseRoom l × (ReverseFits c reverseRoom × RowsOutnumber c room reverseRoom))

-- ---- demand 3: the sheet check

-- chart, table, state count, number of letters, sheet, number of lines
abbrev pub SheetCheck : Type 0
SheetCheck = List ℕ → List ℕ → ℕ → ℕ → List ℕ → ℕ → Reply

-- a table with an accepted sheet grades every word as the chart does
abbrev pub SheetSound : SheetCheck → Type 0
SheetSound check =
    (c rows : List ℕ) (count m : ℕ) (sheet : List ℕ) (lines : ℕ) → (check c rows count m sheet lines).0 ≡ 0 →
    (u : List ℕ) → Word m u → table_grade rows m u ≡ grade_of c u

-- an honest sheet beside a right table is accepted, whatever the order of its lines and however often each stands there
abbrev pub SheetComplete : SheetCheck → Type 0
SheetComplete check =
    (c rows : List ℕ) (count m : ℕ) (sheet : List ℕ) (lines : ℕ) → Right c rows count m → Honest c rows m sheet lines →
    check c rows count m sheet lines ≡ fine []

-- a table that grades one word otherwise has no accepted sheet
abbrev pub SheetRefuses : SheetCheck → Type 0
SheetRefuses check =
    (c rows : List ℕ) (count m : ℕ) (u : List ℕ) → Word m u → ¬ (table_grade rows m u ≡ grade_of c u) →
    (sheet : List ℕ) (lines : ℕ) → ¬ ((check c rows count m sheet lines).0 ≡ 0)

-- ---- the demands together

-- grading a whole word on a faithful table answers the chart's grade
abbrev pub WalksAlike : Type 1
WalksAlike =
    (c : List ℕ) (b : Construction) (alike : List ℕ → List ℕ → Type 0) (t : Result) → chart_fits c ≡ true → Faithful c b (grade_of c) alike t →
    EveryWord c (λ u. word_reply t.table t.count (letters c) u ≡ fine (grade_of c u ∷ []))

-- line s of a table's own sheet: state s and the vector behind it
abbrev pub sheet_line : Result → ℕ → List ℕ
sheet_line t s = two_bytes s ++ t.value s

-- beside the table, that sheet is accepted
abbrev pub SheetAccepted : SheetCheck → List ℕ → Result → Type 0
SheetAccepted check c t = check c t.table t.count (letters c) (joined t.count (sheet_line t)) t.count ≡ fine []

-- so are the sheets of Nerode tables: the check refuses not all
abbrev pub NerodeSheet : SheetCheck → Type 0
NerodeSheet check =
    (c : List ℕ) (room : ℕ) (table vectors : List ℕ) → (nerode c room table vectors).reply.0 ≡ 0 →
    SheetAccepted check c (of_forward c (nerode c room table vectors))
