-- Cases that tell the definitions from near ones, worked by hand from document 01: sides, the unit, what a key holds, every byte left, the last line.
use Rattle.std.specs.Prelude.{List, [], ◌∷◌, ◌++◌, ℕ, replicate}
use Rattle.paper.specs.Check.{check_reply}
use Rattle.paper.specs.Vectors.{grade_of, reverse_of}
use Rattle.paper.specs.Builders.{Forward, placed, nerode, reduced, blank}
use Rattle.paper.specs.Sheets.{sheet_reply}
use Rattle.paper.specs.Figures.{chart_e, table_e, sheet_e, reply}

-- ---- the chart check

-- grade tables with one state, one letter and no grade but 0
unfoldable pub bare : ℕ → ℕ → List ℕ → List ℕ → List ℕ
bare k e join prod = k ∷ e ∷ 1 ∷ 1 ∷ (join ++ (prod ++ (0 ∷ 0 ∷ 0 ∷ [])))

-- three grades, the larger of two, whose unit is not the greatest
unfoldable pub unit_between : List ℕ
unit_between = reply (check_reply (bare 3 1 (0 ∷ 1 ∷ 2 ∷ 1 ∷ 1 ∷ 2 ∷ 2 ∷ 2 ∷ 2 ∷ []) (0 ∷ 0 ∷ 0 ∷ 0 ∷ 1 ∷ 2 ∷ 0 ∷ 2 ∷ 2 ∷ [])))

-- ---- words: a product that does not commute, so that 1 times 2 is 1 and 2 times 1 is 0

-- the larger of two grades, and of two of four
unfoldable pub larger : List ℕ
larger = 0 ∷ 1 ∷ 1 ∷ 1 ∷ []

unfoldable pub larger_of_four : List ℕ
larger_of_four = 0 ∷ 1 ∷ 2 ∷ 3 ∷ 1 ∷ 1 ∷ 2 ∷ 3 ∷ 2 ∷ 2 ∷ 2 ∷ 3 ∷ 3 ∷ 3 ∷ 3 ∷ 3 ∷ []

unfoldable pub one_sided : List ℕ
one_sided =
    4 ∷ 3 ∷ 1 ∷ 1 ∷ (larger_of_four ++ (0 ∷ 0 ∷ 0 ∷ 0 ∷ 0 ∷ 0 ∷ 1 ∷ 1 ∷ 0 ∷ 0 ∷ 2 ∷ 2 ∷ 0 ∷ 1 ∷ 2 ∷ 3 ∷ 3 ∷ 2 ∷ 1 ∷ []))

unfoldable pub one_sided_words : List (List ℕ)
one_sided_words = (grade_of one_sided [] ∷ grade_of one_sided (0 ∷ []) ∷ grade_of one_sided (0 ∷ 0 ∷ []) ∷ []) ∷ reverse_of one_sided (0 ∷ []) ∷ []

-- ---- builders, in memory that shows what is written

unfoldable pub nines : ℕ → List ℕ
nines n = replicate n 9

unfoldable pub forward_left : Forward → List (List ℕ)
forward_left f = reply f.reply ∷ f.table ∷ f.vectors ∷ []

-- one state, whose two vectors 1 and 0 are told apart by their grades alone
unfoldable pub told_by_grade : List ℕ
told_by_grade = 2 ∷ 1 ∷ 1 ∷ 1 ∷ (larger ++ (0 ∷ 0 ∷ 0 ∷ 1 ∷ 1 ∷ 1 ∷ 0 ∷ []))

-- room hit exactly and missed by one
unfoldable pub forwards : List (List ℕ)
forwards =
    forward_left (nerode chart_e 6 (nines 32) (nines 15))
    ++ (forward_left (nerode chart_e 5 (nines 26) (nines 13)) ++ forward_left (reduced told_by_grade 2 (nines 6) (nines 3)))

unfoldable pub nerode_e : List ℕ
nerode_e =
    0 ∷ 0 ∷ 1 ∷ 0 ∷ 2
    ∷ 1 ∷ 0 ∷ 1 ∷ 0 ∷ 3
    ∷ 0 ∷ 0 ∷ 2 ∷ 0 ∷ 4
    ∷ 1 ∷ 0 ∷ 3 ∷ 0 ∷ 5
    ∷ 0 ∷ 0 ∷ 4 ∷ 0 ∷ 4
    ∷ 1 ∷ 0 ∷ 5 ∷ 0 ∷ 5 ∷ []

unfoldable pub vectors_e : List ℕ
vectors_e = 2 ∷ 0 ∷ 2 ∷ 1 ∷ 1 ∷ 0 ∷ 1 ∷ 1 ∷ 0 ∷ 0 ∷ 0 ∷ 1 ∷ []

unfoldable pub forwards_due : List (List ℕ)
forwards_due =
    (0 ∷ 6 ∷ [])
    ∷ (nerode_e ++ (9 ∷ 9 ∷ []))
    ∷ (vectors_e ++ (0 ∷ 0 ∷ 9 ∷ []))
    ∷ (7 ∷ [])
    ∷ blank 26
    ∷ blank 13
    ∷ (0 ∷ 2 ∷ [])
    ∷ (1 ∷ 0 ∷ 1 ∷ 0 ∷ 0 ∷ 1 ∷ [])
    ∷ (1 ∷ 0 ∷ 0 ∷ [])
    ∷ []

-- a value of two bytes in a place of three, then a place that is not kept
unfoldable pub places_left : List ℕ
places_left = placed 3 2 ((1 ∷ 2 ∷ []) ∷ []) (nines 7)

-- ---- the sheet check

-- E's sheet and the line (0: 0,1), whose grade is 1 and not state 0's
unfoldable pub last_line_fails : List ℕ
last_line_fails = reply (sheet_reply chart_e table_e 3 2 (sheet_e ++ (0 ∷ 0 ∷ 0 ∷ 1 ∷ [])) 7)

-- ---- together

unfoldable pub near_tried : List (List (List ℕ))
near_tried = (unit_between ∷ places_left ∷ last_line_fails ∷ []) ∷ one_sided_words ∷ forwards ∷ []

unfoldable pub near_due : List (List (List ℕ))
near_due =
    ((0 ∷ 3 ∷ 1 ∷ 1 ∷ 1 ∷ 1 ∷ 4 ∷ 13 ∷ 22 ∷ 23 ∷ 24 ∷ 25 ∷ []) ∷ (1 ∷ 2 ∷ 9 ∷ 0 ∷ 0 ∷ 0 ∷ 9 ∷ []) ∷ (12 ∷ 6 ∷ []) ∷ [])
    ∷ ((2 ∷ 1 ∷ 0 ∷ []) ∷ (1 ∷ []) ∷ [])
    ∷ forwards_due
    ∷ []
