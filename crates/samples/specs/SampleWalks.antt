-- Cases of walking and the sheet check, worked by hand from document 01.
use Rattle.std.specs.Prelude.{List, [], ◌∷◌, ◌++◌, ℕ, take, set}
use Rattle.paper.specs.Tables.{table_reply, step_reply, grade_reply, word_reply, cap_reply, reader_state, step_code, grade_code}
use Rattle.paper.specs.Sheets.{sheet_reply}
use Rattle.paper.specs.Figures.{chart_e, table_e, sheet_e, chart13, reply}

-- ---- walking E's table

-- a step; the letter m; the state count; count 0; m of 17; a grade of 16 and a next state of 3 in the row used; both elsewhere
unfoldable pub steps : List (List ℕ)
steps =
    reply (step_reply table_e 3 2 0 1)
    ∷ reply (step_reply table_e 3 2 0 2)
    ∷ reply (step_reply table_e 3 2 3 2)
    ∷ reply (step_reply table_e 0 2 0 2)
    ∷ reply (step_reply table_e 3 17 0 2)
    ∷ reply (step_reply (set table_e 0 16) 3 2 0 1)
    ∷ reply (step_reply (set table_e 2 3) 3 2 0 1)
    ∷ reply (step_reply (set (set table_e 0 16) 2 3) 3 2 1 1)
    ∷ (step_code (step_reply table_e 3 2 0 1) ∷ step_code (step_reply table_e 3 2 0 2) ∷ step_code (step_reply table_e 3 2 3 0) ∷ [])
    ∷ (reader_state table_e 3 2 (1 ∷ 2 ∷ 0 ∷ []) ∷ reader_state table_e 3 2 (0 ∷ 255 ∷ []) ∷ [])
    ∷ []

unfoldable pub steps_due : List (List ℕ)
steps_due =
    (0 ∷ 2 ∷ [])
    ∷ (8 ∷ 0 ∷ [])
    ∷ (9 ∷ [])
    ∷ (9 ∷ [])
    ∷ (9 ∷ [])
    ∷ (9 ∷ [])
    ∷ (9 ∷ [])
    ∷ (0 ∷ 1 ∷ [])
    ∷ (2 ∷ 65534 ∷ 65535 ∷ [])
    ∷ (2 ∷ 1 ∷ [])
    ∷ []

-- grades of states and of words; the whole table; the cap alone, with another m, and with a grade that is not the chart's
unfoldable pub grades : List (List ℕ)
grades =
    reply (grade_reply table_e 3 2 1)
    ∷ reply (grade_reply table_e 3 2 3)
    ∷ (grade_code (grade_reply table_e 3 2 1) ∷ grade_code (grade_reply table_e 3 2 3) ∷ [])
    ∷ reply (word_reply table_e 3 2 [])
    ∷ reply (word_reply table_e 3 2 (0 ∷ 1 ∷ []))
    ∷ reply (word_reply table_e 3 2 (1 ∷ 2 ∷ 7 ∷ []))
    ∷ reply (word_reply (set table_e 10 16) 3 2 (7 ∷ []))
    ∷ reply (table_reply table_e 3 2)
    ∷ reply (table_reply (take 14 table_e) 3 2)
    ∷ reply (cap_reply chart_e table_e 3 2)
    ∷ reply (cap_reply chart_e table_e 3 1)
    ∷ reply (cap_reply chart_e (set table_e 0 3) 3 2)
    ∷ reply (cap_reply chart13 table_e 3 2)
    ∷ []

unfoldable pub grades_due : List (List ℕ)
grades_due =
    (0 ∷ 1 ∷ [])
    ∷ (9 ∷ [])
    ∷ (1 ∷ 255 ∷ [])
    ∷ (0 ∷ 0 ∷ [])
    ∷ (0 ∷ 1 ∷ [])
    ∷ (8 ∷ 1 ∷ [])
    ∷ (9 ∷ [])
    ∷ (0 ∷ [])
    ∷ (9 ∷ [])
    ∷ (0 ∷ 1 ∷ [])
    ∷ (9 ∷ [])
    ∷ (9 ∷ [])
    ∷ (4 ∷ 6 ∷ 1 ∷ 0 ∷ 0 ∷ [])
    ∷ []

-- ---- sheets: another chart's letters, too few bytes, a state and a grade out of range, a doubled line, a last line that fails
unfoldable pub sheets : List (List ℕ)
sheets =
    reply (sheet_reply chart_e table_e 3 3 sheet_e 6)
    ∷ reply (sheet_reply chart_e table_e 3 2 sheet_e 7)
    ∷ reply (sheet_reply chart_e table_e 3 2 (set sheet_e 21 3) 6)
    ∷ reply (sheet_reply chart_e table_e 3 2 (set sheet_e 23 3) 6)
    ∷ reply (sheet_reply chart_e table_e 3 2 (take 4 sheet_e ++ sheet_e) 7)
    ∷ reply (sheet_reply chart_e table_e 3 2 sheet_e 1)
    ∷ []

-- ---- together

unfoldable pub walks_tried : List (List (List ℕ))
walks_tried = steps ∷ grades ∷ sheets ∷ []

unfoldable pub walks_due : List (List (List ℕ))
walks_due = steps_due ∷ grades_due ∷ ((9 ∷ []) ∷ (10 ∷ []) ∷ (10 ∷ []) ∷ (10 ∷ []) ∷ (0 ∷ []) ∷ (13 ∷ 0 ∷ 0 ∷ []) ∷ []) ∷ []
