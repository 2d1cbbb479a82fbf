-- When a table and what is kept beside it are those of a construction: the words of demand 2. To be read with document 01's definitions
-- (crates/paper/specs) and the numbering by first word (crates/numbering/specs).
use Rattle.std.specs.Prelude.{◌≡◌, true, ◌↔◌, List, ◌++◌, ℕ, ◌<◌, get_or, take}
use Rattle.paper.specs.Lists.{tabulate, part}
use Rattle.paper.specs.Words.{Word, UpTo}
use Rattle.paper.specs.Reply.{Reply}
use Rattle.paper.specs.Chart.{n_of, letters}
use Rattle.paper.specs.Vectors.{row_times, vector_of, grade_of, reverse_of}
use Rattle.paper.specs.Tables.{grade_at, next_at, table_fits_chart, state_of, table_grade}
use Rattle.paper.specs.Constructions.{Construction}
use Rattle.paper.specs.Builders.{vector_at, Forward, Backward}
use Rattle.numbering.specs.Numbered.{word_key, Numbered}

-- ---- what a call left

-- a table, how many states it has, and the vector or row behind each state
pub record Result : Type 0 where
  pub table : List ℕ
  pub count : ℕ
  pub value : ℕ → List ℕ

-- value i of an answer
abbrev pub answered : Reply → ℕ → ℕ
answered r i = get_or r.1 i 0

-- the Nerode and the reduced call: the vector behind a state is what `vector_at` hands back
abbrev pub of_forward : List ℕ → Forward → Result
of_forward c o = record { table = o.table; count = answered o.reply 0; value = vector_at o.vectors (n_of c) (answered o.reply 0) }

-- the Brzozowski call: the reverse table and its vectors
abbrev pub of_reverse : List ℕ → Backward → Result
of_reverse c o =
    record { table = o.left.reverse_table; count = answered o.reply 1; value = vector_at o.left.reverse_vectors (n_of c) (answered o.reply 1) }

-- place s of w bytes, as far as it is used
abbrev pub used_of : List ℕ → ℕ → ℕ → ℕ → List ℕ
used_of rows w used s = take used (part w s rows)

-- the Brzozowski call: the table and its rows, in places of as many bytes as the reverse room
abbrev pub of_rows : ℕ → Backward → Result
of_rows reverseRoom o =
    record { table = o.left.table; count = answered o.reply 0; value = used_of o.left.rows reverseRoom (answered o.reply 1) }

-- the values, in the order of their states
abbrev pub values_of : Result → List (List ℕ)
values_of t = tabulate t.count t.value

-- ---- demand 2: faithful tables

-- for every word of the chart's letters, the empty one among them
abbrev pub EveryWord : List ℕ → (List ℕ → Type 0) → Type 0
EveryWord c P = (u : List ℕ) → Word (letters c) u → P u

-- the result is that of a construction; `grade` is what a word should get, `alike` is when two words should share a state
pub record Faithful (c : List ℕ) (b : Construction) (grade : List ℕ → ℕ) (alike : List ℕ → List ℕ → Type 0) (t : Result) : Type 0 where
  -- the table check beside the chart refuses nothing
  pub fits : table_fits_chart c t.table t.count (letters c) ≡ true
  -- the table gives every word its grade
  pub grades : EveryWord c (λ u. table_grade t.table (letters c) u ≡ grade u)
  -- the values are the construction's distinct states, numbered by first word
  pub numbered : Numbered b.key b.step (letters c) b.first (values_of t)
  -- every word leads to the state of its key
  pub leads : EveryWord c (λ u. b.key (t.value (state_of t.table (letters c) u)) ≡ word_key b.key b.step b.first u)
  -- two words share a state exactly where they are alike
  pub shares : EveryWord c (λ u. EveryWord c (λ w. (state_of t.table (letters c) u ≡ state_of t.table (letters c) w) ↔ alike u w))

-- Nerode: words are alike where their vectors are equal
abbrev pub SameVector : List ℕ → List ℕ → List ℕ → Type 0
SameVector c u w = vector_of c u ≡ vector_of c w

-- reduced: where every letter makes the same of their vectors, and their grades are equal
abbrev pub SameAfterLetters : List ℕ → List ℕ → List ℕ → Type 0
SameAfterLetters c u w =
    ((x : ℕ) → x < letters c → row_times c x (vector_of c u) ≡ row_times c x (vector_of c w)) × (grade_of c u ≡ grade_of c w)

-- Brzozowski: where they get one grade however they go on
abbrev pub SameFuture : List ℕ → List ℕ → List ℕ → Type 0
SameFuture c u w = EveryWord c (λ t. grade_of c (u ++ t) ≡ grade_of c (w ++ t))

-- reverse: where their reverse vectors are equal
abbrev pub SameReverse : List ℕ → List ℕ → List ℕ → Type 0
SameReverse c u w = reverse_of c u ≡ reverse_of c w

-- u is the first word that leads to state s: shorter words first, then by letter number
abbrev pub FirstTo : List ℕ → List ℕ → ℕ → List ℕ → Type 0
FirstTo c table s u =
    Word (letters c) u × (state_of table (letters c) u ≡ s) × EveryWord c (λ w. state_of table (letters c) w ≡ s → UpTo u w)

-- the value behind each state is that of the first word that leads to it
abbrev pub KeepsFirst : List ℕ → (List ℕ → List ℕ) → Result → Type 0
KeepsFirst c value_of t = (s : ℕ) → s < t.count → (u : List ℕ) × (FirstTo c t.table s u × (t.value s ≡ value_of u))

-- as many states, and behind each the same value, grade and next states
abbrev pub SameTable : List ℕ → Result → Result → Type 0
SameTable c t t' =
    (t.count ≡ t'.count) ×
    ((s : ℕ) → s < t.count →
    (t.value s ≡ t'.value s) ×
    (grade_at t.table (letters c) s ≡ grade_at t'.table (letters c) s) ×
    ((x : ℕ) → x < letters c → next_at t.table (letters c) s x ≡ next_at t'.table (letters c) s x))

-- nothing is left open, so a fixed table, an invented count and rows copied from the first state are shut out
abbrev pub OneTable : Type 1
OneTable =
    (c : List ℕ) (b : Construction) (grade : List ℕ → ℕ) (alike : List ℕ → List ℕ → Type 0) (t t' : Result) →
    Faithful c b grade alike t → Faithful c b grade alike t' → SameTable c t t'
