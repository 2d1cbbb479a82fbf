-- The constructions: Nerode, reduced Nerode, reverse vectors, and Brzozowski's rows over them. One numbering and one table form serve all.
use Rattle.std.specs.Prelude.{List, [], ◌∷◌, ◌++◌, ℕ, length, get_or}
use Rattle.paper.specs.Lists.{tabulate, joined}
use Rattle.paper.specs.Chart.{letters, start_vec, end_vec}
use Rattle.paper.specs.Vectors.{row_times, times_col, end_grade, start_grade}
use Rattle.paper.specs.Numbering.{itself, place, states}
use Rattle.paper.specs.Tables.{two_bytes}

-- the first value, what a letter makes of a value, when two values are one state (their keys are equal), and a state's grade
pub record Construction : Type 0 where
  pub first : List ℕ
  pub step : ℕ → List ℕ → List ℕ
  pub key : List ℕ → List ℕ
  pub grade : List ℕ → ℕ

-- ---- states and table of a construction with m letters

-- its states numbered by first word; more than the room where they outnumber it
unfoldable pub states_of : Construction → ℕ → ℕ → List (List ℕ)
states_of b m room = states b.key b.step m room b.first

-- the next state of v by letter x among the listed ones, in two bytes
unfoldable pub next_bytes : Construction → List (List ℕ) → List ℕ → ℕ → List ℕ
next_bytes b vs v x = two_bytes (place b.key vs (b.step x v))

-- the row of the state whose value is v: its grade, then its next states by letter
unfoldable pub row_of : Construction → ℕ → List (List ℕ) → List ℕ → List ℕ
row_of b m vs v = b.grade v ∷ joined m (next_bytes b vs v)

unfoldable pub state_row : Construction → ℕ → List (List ℕ) → ℕ → List ℕ
state_row b m vs s = row_of b m vs (get_or vs s [])

unfoldable pub table_of : Construction → ℕ → List (List ℕ) → List ℕ
table_of b m vs = joined (length vs) (state_row b m vs)

-- ---- Nerode: the distinct vectors of all words from the start vector

abbrev pub nerode_by : List ℕ → Construction
nerode_by c = record { first = start_vec c; step = row_times c; key = itself; grade = end_grade c }

-- ---- reduced Nerode: words share a state where every letter makes the same of their vectors and their grades are equal

-- what letter x makes of the vector
unfoldable pub letter_key : List ℕ → List ℕ → ℕ → List ℕ
letter_key c v x = row_times c x v

unfoldable pub reduced_key : List ℕ → List ℕ → List ℕ
reduced_key c v = joined (letters c) (letter_key c v) ++ (end_grade c v ∷ [])

abbrev pub reduced_by : List ℕ → Construction
reduced_by c = record { first = start_vec c; step = row_times c; key = reduced_key c; grade = end_grade c }

-- ---- reverse vectors: from the end vector, letter x leads to x's matrix times f

abbrev pub reverse_by : List ℕ → Construction
reverse_by c = record { first = end_vec c; step = times_col c; key = itself; grade = start_grade c }

unfoldable pub reverse_states : List ℕ → ℕ → List (List ℕ)
reverse_states c room = states_of (reverse_by c) (letters c) room

-- ---- Brzozowski: the row of a word lists its vector combined with every reverse vector of fs

-- at reverse vector i, the start vector combined with it
unfoldable pub first_row_at : List ℕ → List (List ℕ) → ℕ → ℕ
first_row_at c fs i = start_grade c (get_or fs i [])

unfoldable pub first_row : List ℕ → List (List ℕ) → List ℕ
first_row c fs = tabulate (length fs) (first_row_at c fs)

-- after letter x, at reverse vector i: the old row at x's matrix times that vector
unfoldable pub row_after_at : List ℕ → List (List ℕ) → ℕ → List ℕ → ℕ → ℕ
row_after_at c fs x row i = get_or row (place itself fs (times_col c x (get_or fs i []))) 0

unfoldable pub row_after : List ℕ → List (List ℕ) → ℕ → List ℕ → List ℕ
row_after c fs x row = tabulate (length fs) (row_after_at c fs x row)

-- the row at the end vector, which is the first reverse vector
unfoldable pub row_grade : List ℕ → ℕ
row_grade row = get_or row 0 0

abbrev pub rows_by : List ℕ → List (List ℕ) → Construction
rows_by c fs = record { first = first_row c fs; step = row_after c fs; key = itself; grade = row_grade }

unfoldable pub row_states : List ℕ → List (List ℕ) → ℕ → List (List ℕ)
row_states c fs room = states_of (rows_by c fs) (letters c) room
