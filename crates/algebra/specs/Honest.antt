-- What the sheet check is about: tables that grade as the chart, and honest sheets beside them.
use Rattle.std.specs.Prelude.{◌≡◌, true, List, ◌++◌, ℕ, ◌*◌, ◌≤◌, ◌<◌, length}
use Rattle.paper.specs.Words.{Word}
use Rattle.paper.specs.Check.{chart_fits}
use Rattle.paper.specs.Vectors.{vector_of, grade_of}
use Rattle.paper.specs.Tables.{two_bytes, table_fits_chart, state_of, table_grade}
use Rattle.paper.specs.Sheets.{line_size, line_at}

-- a table that fits beside a chart that is not refused, and grades every word as it does
pub record Right (c rows : List ℕ) (count m : ℕ) : Type 0 where
  pub chart : chart_fits c ≡ true
  pub table : table_fits_chart c rows count m ≡ true
  pub graded : (u : List ℕ) → Word m u → table_grade rows m u ≡ grade_of c u

-- the sheet line of a word: the table state and the vector that it reaches
unfoldable pub word_line : List ℕ → List ℕ → ℕ → List ℕ → List ℕ
word_line c rows m u = two_bytes (state_of rows m u) ++ vector_of c u

-- at most 4,096 lines that are exactly the pairs that words reach, in any order; that each stands there once is not needed
pub record Honest (c rows : List ℕ) (m : ℕ) (sheet : List ℕ) (lines : ℕ) : Type 0 where
  pub few : lines ≤ 4096
  pub long : lines * line_size c ≤ length sheet
  pub each : (i : ℕ) → i < lines → (u : List ℕ) × (Word m u × (line_at c sheet i ≡ word_line c rows m u))
  pub every : (u : List ℕ) → Word m u → (i : ℕ) × ((i < lines) × (line_at c sheet i ≡ word_line c rows m u))
