-- What the inner functions of the sheet check ask of their callers.
use Rattle.std.specs.Prelude.{◌≡◌, List, [], ◌++◌, ℕ, ◌+◌, ◌*◌, ◌≤◌, ◌<◌, length, get_or, drop, leb}
use Rattle.paper.specs.Lists.{unless}
use Rattle.paper.specs.Reply.{Reply, fine}
use Rattle.paper.specs.Chart.{letters, start_vec}
use Rattle.paper.specs.Vectors.{row_times}
use Rattle.paper.specs.Tables.{two_bytes, next_at}
use Rattle.paper.specs.Sheets.{line_size, line_at, line_state, line_vector, on_sheet, bad_line, line_reply}
use Rattle.marks.specs.Marks.{mark_of}
use Rattle.marks.specs.Chains.{Chained}
use Rattle.marks.specs.declared.chains.Index.{Index}
use Rattle.cells.specs.Shaped.{Vector}
use Rattle.rows.specs.RowIn.{RowIn}

-- line i of the sheet inside the sheet's bytes
pub record LineIn (c sheet : List ℕ) (i : ℕ) : Type 0 where
  pub inside : i * line_size c + line_size c ≤ length sheet

-- the sheet's lines inside its bytes
pub record LinesIn (c sheet : List ℕ) (lines : ℕ) : Type 0 where
  pub few : lines ≤ 4096
  pub inside : lines * line_size c ≤ length sheet

-- the sheet's lines inside its bytes; each line names a row of the table, and its vector is one of grades
pub record Readable (c rows sheet : List ℕ) (lines : ℕ) : Type 0 where
  pub lines_in : LinesIn c sheet lines
  pub row : (i : ℕ) → i < lines → RowIn rows (letters c) (line_state c sheet i)
  pub byte : (j : ℕ) → get_or sheet j 0 < 256
  pub vector : (i : ℕ) → i < lines → Vector c (line_vector c sheet i)

-- the lines have an index: place i's number is that of line i's bytes
pub record Indexed (c sheet : List ℕ) (lines : ℕ) (index : Index) : Type 0 where
  pub lines_in : LinesIn c sheet lines
  pub chained : Chained index lines
  pub numbered : (i : ℕ) → i < lines → get_or index.marks i 0 ≡ mark_of (line_at c sheet i)

-- a pair as a line holds it: the state's two bytes, then the vector
abbrev pub pair_state : List ℕ → ℕ
pair_state pair = get_or pair 0 0 * 256 + get_or pair 1 0

abbrev pub pair_vector : List ℕ → List ℕ
pair_vector pair = drop 2 pair

unfoldable pub pair_of : ℕ → List ℕ → List ℕ
pair_of s v = two_bytes s ++ v

-- the table's next state of line i by letter x
abbrev pub next_state : List ℕ → List ℕ → List ℕ → ℕ → ℕ → ℕ
next_state c rows sheet i x = next_at rows (letters c) (line_state c sheet i) x

abbrev pub next_pair : List ℕ → List ℕ → List ℕ → ℕ → ℕ → List ℕ
next_pair c rows sheet i x = pair_of (next_state c rows sheet i x) (row_times c x (line_vector c sheet i))

-- what the lines of a sheet that fits come to: the last test of `sheet_reply`
unfoldable pub lines_reply : List ℕ → List ℕ → List ℕ → ℕ → Reply
lines_reply c rows sheet lines = unless (leb lines (bad_line c rows sheet lines)) (line_reply c rows sheet lines (bad_line c rows sheet lines)) (fine [])

-- the last two tests of `sheet_reply`: the start pair, then the lines
unfoldable pub pairs_reply : List ℕ → List ℕ → List ℕ → ℕ → Reply
pairs_reply c rows sheet lines = unless (on_sheet c sheet lines 0 (start_vec c)) (11, []) (lines_reply c rows sheet lines)
