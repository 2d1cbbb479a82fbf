-- The sheet check. A sheet lists pairs, one a line: a table state in two bytes, high first, and a vector.
use Rattle.std.specs.Prelude.{Bool, not, List, [], ◌∷◌, ℕ, ◌+◌, ◌*◌, length, get_or, drop, eqb, leb, ltb}
use Rattle.paper.specs.Lists.{both, unless, all_below, least_fail, part, same_list}
use Rattle.paper.specs.Reply.{Reply, fine}
use Rattle.paper.specs.Chart.{k_of, n_of, letters, start_vec}
use Rattle.paper.specs.Check.{check_reply, chart_fits}
use Rattle.paper.specs.Vectors.{row_times, end_grade}
use Rattle.paper.specs.Tables.{grade_at, next_at, table_fits_chart}

-- ---- a line

abbrev pub line_size : List ℕ → ℕ
line_size c = 2 + n_of c

unfoldable pub line_at : List ℕ → List ℕ → ℕ → List ℕ
line_at c sheet i = part (line_size c) i sheet

unfoldable pub line_state : List ℕ → List ℕ → ℕ → ℕ
line_state c sheet i = get_or (line_at c sheet i) 0 0 * 256 + get_or (line_at c sheet i) 1 0

unfoldable pub line_vector : List ℕ → List ℕ → ℕ → List ℕ
line_vector c sheet i = drop 2 (line_at c sheet i)

-- ---- when a sheet is refused

unfoldable pub line_grade_fits : List ℕ → List ℕ → ℕ → ℕ → Bool
line_grade_fits c sheet i p = ltb (get_or (line_vector c sheet i) p 0) (k_of c)

unfoldable pub line_fits : List ℕ → ℕ → List ℕ → ℕ → Bool
line_fits c count sheet i = both (ltb (line_state c sheet i) count) (all_below (n_of c) (line_grade_fits c sheet i))

unfoldable pub sheet_fits : List ℕ → ℕ → List ℕ → ℕ → Bool
sheet_fits c count sheet lines =
    both (both (leb lines 4096) (leb (lines * line_size c) (length sheet))) (all_below lines (line_fits c count sheet))

-- ---- pairs on the sheet

-- line i is not the pair of s and v
unfoldable pub other_pair : List ℕ → List ℕ → ℕ → List ℕ → ℕ → Bool
other_pair c sheet s v i = not (both (eqb (line_state c sheet i) s) (same_list (line_vector c sheet i) v))

unfoldable pub on_sheet : List ℕ → List ℕ → ℕ → ℕ → List ℕ → Bool
on_sheet c sheet lines s v = not (all_below lines (other_pair c sheet s v))

-- line i's table grade is its vector combined with end
unfoldable pub grade_holds : List ℕ → List ℕ → List ℕ → ℕ → Bool
grade_holds c rows sheet i = eqb (grade_at rows (letters c) (line_state c sheet i)) (end_grade c (line_vector c sheet i))

-- line i's next pair by letter x is on the sheet
unfoldable pub next_holds : List ℕ → List ℕ → List ℕ → ℕ → ℕ → ℕ → Bool
next_holds c rows sheet lines i x =
    on_sheet c sheet lines (next_at rows (letters c) (line_state c sheet i) x) (row_times c x (line_vector c sheet i))

-- ---- the check

unfoldable pub line_holds : List ℕ → List ℕ → List ℕ → ℕ → ℕ → Bool
line_holds c rows sheet lines i = both (grade_holds c rows sheet i) (all_below (letters c) (next_holds c rows sheet lines i))

-- the first line that fails, or how many lines there are
unfoldable pub bad_line : List ℕ → List ℕ → List ℕ → ℕ → ℕ
bad_line c rows sheet lines = least_fail lines (line_holds c rows sheet lines)

-- of a line that fails: 12 for its grade first, then 13 for its first letter
unfoldable pub line_reply : List ℕ → List ℕ → List ℕ → ℕ → ℕ → Reply
line_reply c rows sheet lines i =
    unless (grade_holds c rows sheet i) (12, i ∷ [])
    (13, i ∷ least_fail (letters c) (next_holds c rows sheet lines i) ∷ [])

unfoldable pub sheet_reply : List ℕ → List ℕ → ℕ → ℕ → List ℕ → ℕ → Reply
sheet_reply c rows count m sheet lines =
    unless (chart_fits c) (check_reply c)
    (unless (table_fits_chart c rows count m) (9, [])
    (unless (sheet_fits c count sheet lines) (10, [])
    (unless (on_sheet c sheet lines 0 (start_vec c)) (11, [])
    (unless (leb lines (bad_line c rows sheet lines)) (line_reply c rows sheet lines (bad_line c rows sheet lines))
    (fine [])))))
