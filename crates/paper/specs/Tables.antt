-- A table as bytes, one row a state: its grade, then the next state for each letter in two bytes, high first. Checking and walking it.
use Rattle.std.specs.Prelude.{Bool, List, [], ◌∷◌, ℕ, ◌+◌, ◌*◌, ◌/◌, ◌%◌, length, get_or, eqb, leb, ltb}
use Rattle.paper.specs.Lists.{both, pick, unless, all_below, least_fail}
use Rattle.paper.specs.Words.{after}
use Rattle.paper.specs.Reply.{Reply, fine}
use Rattle.paper.specs.Chart.{k_of, letters}
use Rattle.paper.specs.Check.{check_reply, chart_fits}
use Rattle.paper.specs.Vectors.{joins}

-- ---- where each thing stands

-- a state number in two bytes, high first
unfoldable pub two_bytes : ℕ → List ℕ
two_bytes s = s / 256 % 256 ∷ s % 256 ∷ []

abbrev pub row_size : ℕ → ℕ
row_size m = 1 + 2 * m

abbrev pub grade_at : List ℕ → ℕ → ℕ → ℕ
grade_at rows m s = get_or rows (s * row_size m) 0

-- state s's next state by letter x
abbrev pub next_at : List ℕ → ℕ → ℕ → ℕ → ℕ
next_at rows m s x = get_or rows (s * row_size m + (1 + 2 * x)) 0 * 256 + get_or rows (s * row_size m + (2 + 2 * x)) 0

-- ---- when a table is refused

unfoldable pub size_fits : List ℕ → ℕ → ℕ → Bool
size_fits rows count m =
    both (both (leb 1 count) (leb count 4096))
    (both (both (leb 1 m) (leb m 16))
    (leb (count * row_size m) (length rows)))

unfoldable pub next_fits : List ℕ → ℕ → ℕ → ℕ → ℕ → Bool
next_fits rows count m s x = ltb (next_at rows m s x) count

-- state s's row: its grade below `top`, every next state below the count
unfoldable pub row_fits : List ℕ → ℕ → ℕ → ℕ → ℕ → Bool
row_fits rows count m top s = both (ltb (grade_at rows m s) top) (all_below m (next_fits rows count m s))

unfoldable pub table_fits : List ℕ → ℕ → ℕ → ℕ → Bool
table_fits rows count m top = both (size_fits rows count m) (all_below count (row_fits rows count m top))

-- a table alone has grades up to 15; beside a chart its grades are the chart's, and so are its letters
abbrev pub grade_top : ℕ
grade_top = 16

unfoldable pub table_fits_chart : List ℕ → List ℕ → ℕ → ℕ → Bool
table_fits_chart c rows count m = both (eqb m (letters c)) (table_fits rows count m (k_of c))

unfoldable pub table_reply : List ℕ → ℕ → ℕ → Reply
table_reply rows count m = unless (table_fits rows count m grade_top) (9, []) (fine [])

-- ---- one step, one grade

-- 9 for the size or the state, then 8, then 9 for the row used
unfoldable pub step_reply : List ℕ → ℕ → ℕ → ℕ → ℕ → Reply
step_reply rows count m s x =
    unless (size_fits rows count m) (9, [])
    (unless (ltb s count) (9, [])
    (unless (ltb x m) (8, 0 ∷ [])
    (unless (row_fits rows count m grade_top s) (9, [])
    (fine (next_at rows m s x ∷ [])))))

unfoldable pub grade_reply : List ℕ → ℕ → ℕ → ℕ → Reply
grade_reply rows count m s =
    unless (size_fits rows count m) (9, [])
    (unless (ltb s count) (9, [])
    (unless (row_fits rows count m grade_top s) (9, [])
    (fine (grade_at rows m s ∷ []))))

-- ---- a whole word

-- the state that a word leads to, and the grade that the table gives the word
unfoldable pub next_by : List ℕ → ℕ → ℕ → ℕ → ℕ
next_by rows m x s = next_at rows m s x

unfoldable pub state_of : List ℕ → ℕ → List ℕ → ℕ
state_of rows m u = after (next_by rows m) 0 u

unfoldable pub table_grade : List ℕ → ℕ → List ℕ → ℕ
table_grade rows m u = grade_at rows m (state_of rows m u)

unfoldable pub letter_fits : List ℕ → ℕ → ℕ → Bool
letter_fits word m i = ltb (get_or word i 0) m

-- the first place whose letter is m or more, or the word's length
unfoldable pub bad_letter : List ℕ → ℕ → ℕ
bad_letter word m = least_fail (length word) (letter_fits word m)

-- the whole table first, then all letters, then the walk
unfoldable pub word_reply : List ℕ → ℕ → ℕ → List ℕ → Reply
word_reply rows count m word =
    unless (table_fits rows count m grade_top) (9, [])
    (unless (leb (length word) (bad_letter word m)) (8, bad_letter word m ∷ [])
    (fine (table_grade rows m word ∷ [])))

-- ---- the cap: the join of the grades of all states

unfoldable pub cap_of : List ℕ → List ℕ → ℕ → ℕ → ℕ
cap_of c rows count m = joins c count (grade_at rows m)

unfoldable pub cap_reply : List ℕ → List ℕ → ℕ → ℕ → Reply
cap_reply c rows count m =
    unless (chart_fits c) (check_reply c)
    (unless (table_fits_chart c rows count m) (9, [])
    (fine (cap_of c rows count m ∷ [])))

-- ---- the bench: its reader, and the numbers that the C calls answer

-- the reader's state after a letter's answer: a refused letter leaves it as it was
unfoldable pub state_after : ℕ → Reply → ℕ
state_after s r = pick (eqb r.0 0) (get_or r.1 0 0) s

-- the reader's state once it has taken letters one at a time, from state 0
unfoldable pub reader_takes : List ℕ → ℕ → ℕ → ℕ → ℕ → ℕ
reader_takes rows count m x s = state_after s (step_reply rows count m s x)

unfoldable pub reader_state : List ℕ → ℕ → ℕ → List ℕ → ℕ
reader_state rows count m word = after (reader_takes rows count m) 0 word

-- the next state, 65,534 for refusal 8, 65,535 for refusal 9
unfoldable pub step_code : Reply → ℕ
step_code r = pick (eqb r.0 0) (get_or r.1 0 0) (pick (eqb r.0 8) 65534 65535)

-- the grade, 255 for refusal 9
unfoldable pub grade_code : Reply → ℕ
grade_code r = pick (eqb r.0 0) (get_or r.1 0 0) 255
