-- What document 01 asks of a sheet, said of the sheet as one value.
use Rattle.std.specs.Prelude.{Bool, List, ℕ}
use Rattle.paper.specs.Reply.{Reply}
use Rattle.paper.specs.Sheets.{on_sheet, grade_holds, next_holds, line_holds, line_reply}
use Rattle.lines.specs.Readable.{next_state, next_pair, lines_reply, pairs_reply}
use Rattle.lines.specs.declared.sheet.Sheet.{Sheet}

-- the pair of a state and a vector is on the sheet
abbrev pub pair_held : Sheet → ℕ → List ℕ → Bool
pair_held s = on_sheet s.chart.now s.bytes.now s.lines

abbrev pub grade_held : Sheet → ℕ → Bool
grade_held s = grade_holds s.chart.now s.rows.now s.bytes.now

abbrev pub next_held : Sheet → ℕ → ℕ → Bool
next_held s = next_holds s.chart.now s.rows.now s.bytes.now s.lines

abbrev pub line_held : Sheet → ℕ → Bool
line_held s = line_holds s.chart.now s.rows.now s.bytes.now s.lines

-- the table's next state of line i by letter x, and the pair with it
abbrev pub state_after : Sheet → ℕ → ℕ → ℕ
state_after s = next_state s.chart.now s.rows.now s.bytes.now

abbrev pub pair_after : Sheet → ℕ → ℕ → List ℕ
pair_after s = next_pair s.chart.now s.rows.now s.bytes.now

-- the answers: of a line that does not hold, of the lines, and of the pairs
abbrev pub line_answer : Sheet → ℕ → Reply
line_answer s = line_reply s.chart.now s.rows.now s.bytes.now s.lines

abbrev pub lines_answer : Sheet → Reply
lines_answer s = lines_reply s.chart.now s.rows.now s.bytes.now s.lines

abbrev pub pairs_answer : Sheet → Reply
pairs_answer s = pairs_reply s.chart.now s.rows.now s.bytes.now s.lines
