-- The four constructions that one walk makes, by kind. Rows are made from the bytes t of a reverse table of r states and m letters.
use Rattle.std.specs.Prelude.{◌≡◌, Bool, true, false, List, ℕ, ◌+◌, ◌*◌, get_or}
use Rattle.paper.specs.Lists.{tabulate, part, same_list}
use Rattle.paper.specs.Chart.{k_of, n_of, letters, start_vec, end_vec}
use Rattle.paper.specs.Vectors.{row_times, times_col, end_grade, start_grade}
use Rattle.paper.specs.Numbering.{itself}
use Rattle.paper.specs.Tables.{grade_at, next_at}
use Rattle.paper.specs.Constructions.{Construction, reduced_key, row_grade}
use Rattle.kinds.specs.declared.Kind.{Kind}
use Rattle.kinds.specs.declared.Kind.TheVariants.{Nerode, Reduced, Reverse, Rows}
use Rattle.kinds.specs.Ready.{Reverses}
use Rattle.kinds.specs.declared.plan.Plan.{Plan}

-- the reverse table's grade bytes
unfoldable pub grades_in : List ℕ → ℕ → ℕ → List ℕ
grades_in t m r = tabulate r (λ i. grade_at t m i)

-- after letter x, at i: the old row at the reverse table's next state of i
unfoldable pub next_row_at : List ℕ → ℕ → ℕ → List ℕ → ℕ → ℕ
next_row_at t m x row i = get_or row (next_at t m i x) 0

unfoldable pub next_row : List ℕ → ℕ → ℕ → ℕ → List ℕ → List ℕ
next_row t m r x row = tabulate r (next_row_at t m x row)

abbrev pub first_by : Kind → List ℕ → List ℕ → ℕ → ℕ → List ℕ
first_by Nerode c t m r = start_vec c
first_by Reduced c t m r = start_vec c
first_by Reverse c t m r = end_vec c
first_by Rows c t m r = grades_in t m r

abbrev pub step_by : Kind → List ℕ → List ℕ → ℕ → ℕ → ℕ → List ℕ → List ℕ
step_by Nerode c t m r = row_times c
step_by Reduced c t m r = row_times c
step_by Reverse c t m r = times_col c
step_by Rows c t m r = next_row t m r

abbrev pub key_by : Kind → List ℕ → List ℕ → List ℕ
key_by Nerode c = itself
key_by Reduced c = reduced_key c
key_by Reverse c = itself
key_by Rows c = itself

-- whether keys differ from values
abbrev pub keyed : Kind → Bool
keyed Nerode = false
keyed Reduced = true
keyed Reverse = false
keyed Rows = false

abbrev pub grade_by : Kind → List ℕ → List ℕ → ℕ
grade_by Nerode c = end_grade c
grade_by Reduced c = end_grade c
grade_by Reverse c = start_grade c
grade_by Rows c = row_grade

-- whether the key says of letter x what it makes of v
unfoldable pub letter_same : List ℕ → List ℕ → ℕ → List ℕ → ℕ → Bool
letter_same c v n key x = same_list (row_times c x v) (part n x key)

-- how many bytes a key has
abbrev pub key_size : Kind → List ℕ → ℕ → ℕ
key_size Nerode c w = w
key_size Reduced c w = letters c * n_of c + 1
key_size Reverse c w = w
key_size Rows c w = w

abbrev pub made_by : Kind → List ℕ → List ℕ → ℕ → ℕ → Construction
made_by kind c t m r = record { first = first_by kind c t m r; step = step_by kind c t m r; key = key_by kind c; grade = grade_by kind c }

-- what a plan makes of its chart and its reverse table
abbrev pub made : Plan → Construction
made p = made_by p.kind p.chart.now p.reverse.now (letters p.chart.now) p.width

-- first values and steps can be made: rows come from a table of the reverse states; the others need none
abbrev pub Ready : Plan → Type 0
Ready p = p.kind ≡ Kind.Rows → Reverses p.reverse.now (letters p.chart.now) (k_of p.chart.now) p.width

abbrev pub vectors_by : Kind → List ℕ → Construction
vectors_by kind c = made_by kind c c (letters c) (n_of c)
