-- The paper's figures P1 to P13 as one table: what each comes to by the definitions, beside what document 01 says.
use Rattle.std.specs.Prelude.{List, [], ◌∷◌, map, ℕ, suc, ◌*◌, get_or, take, set}
use Rattle.paper.specs.Reply.{Reply}
use Rattle.paper.specs.Chart.{start_vec}
use Rattle.paper.specs.Check.{check_reply}
use Rattle.paper.specs.Vectors.{row_times, grade_of}
use Rattle.paper.specs.Constructions.{reverse_states}
use Rattle.paper.specs.Builders.{nerode, reduced, brzozowski, blank, blank_table, blank_vectors}
use Rattle.paper.specs.Sheets.{sheet_reply}

-- ---- the charts

unfoldable pub chart_e : List ℕ
chart_e =
    3 ∷ 2 ∷ 2 ∷ 2
    ∷ 0 ∷ 1 ∷ 2 ∷ 1 ∷ 1 ∷ 2 ∷ 2 ∷ 2 ∷ 2
    ∷ 0 ∷ 0 ∷ 0 ∷ 0 ∷ 0 ∷ 1 ∷ 0 ∷ 1 ∷ 2
    ∷ 2 ∷ 0 ∷ 0 ∷ 2
    ∷ 2 ∷ 1 ∷ 0 ∷ 2 ∷ 1 ∷ 0 ∷ 0 ∷ 2 ∷ []

-- the rows of its Brzozowski table
unfoldable pub table_e : List ℕ
table_e = 0 ∷ 0 ∷ 1 ∷ 0 ∷ 2 ∷ 1 ∷ 0 ∷ 1 ∷ 0 ∷ 1 ∷ 0 ∷ 0 ∷ 2 ∷ 0 ∷ 2 ∷ []

-- (0: 2,0), (1: 2,1), (2: 1,0), (1: 1,1), (2: 0,0), (1: 0,1)
unfoldable pub sheet_e : List ℕ
sheet_e = 0 ∷ 0 ∷ 2 ∷ 0 ∷ 0 ∷ 1 ∷ 2 ∷ 1 ∷ 0 ∷ 2 ∷ 1 ∷ 0 ∷ 0 ∷ 1 ∷ 1 ∷ 1 ∷ 0 ∷ 2 ∷ 0 ∷ 0 ∷ 0 ∷ 1 ∷ 0 ∷ 1 ∷ []

-- document 000, example 3.2
unfoldable pub chart32 : List ℕ
chart32 =
    2 ∷ 1 ∷ 3 ∷ 1
    ∷ 0 ∷ 1 ∷ 1 ∷ 1
    ∷ 0 ∷ 0 ∷ 0 ∷ 1
    ∷ 1 ∷ 0 ∷ 0 ∷ 0 ∷ 0 ∷ 1
    ∷ 0 ∷ 1 ∷ 0 ∷ 0 ∷ 0 ∷ 1 ∷ 1 ∷ 0 ∷ 1 ∷ []

-- document 001, example 2, with 0, 0.5 and 1 as grades 0, 1 and 2
unfoldable pub chart2 : List ℕ
chart2 =
    3 ∷ 2 ∷ 2 ∷ 2
    ∷ 0 ∷ 1 ∷ 2 ∷ 1 ∷ 1 ∷ 2 ∷ 2 ∷ 2 ∷ 2
    ∷ 0 ∷ 0 ∷ 0 ∷ 0 ∷ 1 ∷ 1 ∷ 0 ∷ 1 ∷ 2
    ∷ 2 ∷ 0 ∷ 2 ∷ 1
    ∷ 1 ∷ 1 ∷ 0 ∷ 2 ∷ 1 ∷ 2 ∷ 0 ∷ 1 ∷ []

-- P13's chart: two grades, and every product is 0
unfoldable pub chart13 : List ℕ
chart13 = 2 ∷ 1 ∷ 1 ∷ 1 ∷ 0 ∷ 1 ∷ 1 ∷ 1 ∷ 0 ∷ 0 ∷ 0 ∷ 0 ∷ 0 ∷ 0 ∷ 0 ∷ []

-- ---- the figures

-- a reply, number first
unfoldable pub reply : Reply → List ℕ
reply r = r.0 ∷ r.1

-- what the builders answer, on memory that is large enough
unfoldable pub nerode_in : ℕ → List ℕ → Reply
nerode_in room c = (nerode c room (blank_table room) (blank_vectors room)).reply

unfoldable pub reduced_in : ℕ → List ℕ → Reply
reduced_in room c = (reduced c room (blank_table room) (blank_vectors room)).reply

unfoldable pub brz_in : ℕ → ℕ → List ℕ → Reply
brz_in room reverse c =
    (brzozowski
    c
    room
    reverse
    (record {
      table = blank_table room;
      reverse_table = blank_table reverse;
      reverse_vectors = blank_vectors reverse;
      rows = blank (suc room * reverse);
    })
    ).reply

-- the state count of a reply
unfoldable pub count : Reply → ℕ
count r = get_or r.1 0 0

unfoldable pub worked : List (List (List ℕ))
worked =
    (row_times chart_e 0 (start_vec chart_e) ∷ [])
    ∷ reverse_states chart_e 64
    ∷ (map (grade_of chart_e) ([] ∷ (0 ∷ []) ∷ (1 ∷ []) ∷ (0 ∷ 1 ∷ []) ∷ (1 ∷ 0 ∷ []) ∷ []) ∷ [])
    ∷ ((count (nerode_in 8 chart_e) ∷ count (reduced_in 8 chart_e) ∷ count (brz_in 8 8 chart_e) ∷ []) ∷ [])
    ∷ (reply (nerode_in 6 chart_e) ∷ reply (nerode_in 5 chart_e) ∷ [])
    ∷ (reply (brz_in 3 2 chart_e) ∷ reply (brz_in 3 1 chart_e) ∷ [])
    ∷ ((count (nerode_in 8 chart32) ∷ count (reduced_in 8 chart32) ∷ count (brz_in 8 8 chart32) ∷ []) ∷ [])
    ∷ (reply (nerode_in 8 chart2) ∷ reply (brz_in 8 8 chart2) ∷ [])
    ∷ (reply (sheet_reply chart_e table_e 3 2 sheet_e 6) ∷ [])
    ∷ (reply (sheet_reply chart_e table_e 3 2 (take 20 sheet_e) 5) ∷ [])
    ∷ (reply (sheet_reply chart_e table_e 3 2 [] 0) ∷ [])
    ∷ (reply (sheet_reply chart_e (set table_e 5 0) 3 2 sheet_e 6) ∷ [])
    ∷ (reply (check_reply chart13) ∷ [])
    ∷ []

-- P1 to P13
unfoldable pub stated : List (List (List ℕ))
stated =
    ((2 ∷ 1 ∷ []) ∷ [])
    ∷ ((0 ∷ 2 ∷ []) ∷ (1 ∷ 2 ∷ []) ∷ [])
    ∷ ((0 ∷ 1 ∷ 0 ∷ 1 ∷ 0 ∷ []) ∷ [])
    ∷ ((6 ∷ 6 ∷ 3 ∷ []) ∷ [])
    ∷ ((0 ∷ 6 ∷ []) ∷ (7 ∷ []) ∷ [])
    ∷ ((0 ∷ 3 ∷ 2 ∷ []) ∷ (6 ∷ []) ∷ [])
    ∷ ((5 ∷ 4 ∷ 3 ∷ []) ∷ [])
    ∷ ((0 ∷ 3 ∷ []) ∷ (0 ∷ 2 ∷ 2 ∷ []) ∷ [])
    ∷ ((0 ∷ []) ∷ [])
    ∷ ((13 ∷ 3 ∷ 1 ∷ []) ∷ [])
    ∷ ((11 ∷ []) ∷ [])
    ∷ ((12 ∷ 1 ∷ []) ∷ [])
    ∷ ((4 ∷ 6 ∷ 1 ∷ 0 ∷ 0 ∷ []) ∷ [])
    ∷ []
