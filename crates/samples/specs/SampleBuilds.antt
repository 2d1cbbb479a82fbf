-- Cases of the builders, worked by hand from document 01: every byte left in memory of nines.
use Rattle.std.specs.Prelude.{List, [], ◌∷◌, ◌++◌, ℕ, take}
use Rattle.paper.specs.Chart.{letters, start_vec}
use Rattle.paper.specs.Vectors.{row_times}
use Rattle.paper.specs.Numbering.{itself, first_words}
use Rattle.paper.specs.Builders.{Lent, Backward, nerode, reduced, brzozowski, vector_at, blank}
use Rattle.paper.specs.Figures.{chart_e, table_e, reply}
use Rattle.paper.specs.NearCases.{larger, nines, forward_left, nerode_e, vectors_e}

-- ---- what is left in memory of nines

unfoldable pub backward_left : Backward → List (List ℕ)
backward_left b = reply b.reply ∷ b.left.table ∷ b.left.reverse_table ∷ b.left.reverse_vectors ∷ b.left.rows ∷ []

-- ---- Nerode and reduced Nerode

-- too little memory, just enough, a room out of range, a chart cut short
unfoldable pub other_forwards : List (List ℕ)
other_forwards =
    forward_left (nerode chart_e 6 (nines 29) (nines 14))
    ++ (forward_left (reduced chart_e 6 (nines 30) (nines 14))
    ++ (forward_left (reduced chart_e 4097 [] []) ++ forward_left (nerode (take 3 chart_e) 6 (nines 1) (nines 2))))

unfoldable pub other_forwards_due : List (List ℕ)
other_forwards_due =
    (5 ∷ [])
    ∷ nines 29
    ∷ nines 14
    ∷ (0 ∷ 6 ∷ [])
    ∷ nerode_e
    ∷ (vectors_e ++ (0 ∷ 0 ∷ []))
    ∷ (5 ∷ [])
    ∷ []
    ∷ []
    ∷ (2 ∷ [])
    ∷ nines 1
    ∷ nines 2
    ∷ []

-- one state, whose two vectors 1 and 0 are told apart by the last letter alone
unfoldable pub told_by_last : List ℕ
told_by_last = 2 ∷ 1 ∷ 1 ∷ 2 ∷ (larger ++ (0 ∷ 0 ∷ 0 ∷ 1 ∷ 1 ∷ 0 ∷ 0 ∷ 1 ∷ []))

unfoldable pub apart : List (List ℕ)
apart = forward_left (reduced told_by_last 2 (nines 10) (nines 3))

unfoldable pub apart_due : List (List ℕ)
apart_due = (0 ∷ 2 ∷ []) ∷ (0 ∷ 0 ∷ 1 ∷ 0 ∷ 0 ∷ 0 ∷ 0 ∷ 1 ∷ 0 ∷ 1 ∷ []) ∷ (1 ∷ 0 ∷ 0 ∷ []) ∷ []

-- the first words of E's Nerode states, and the vector behind a state
unfoldable pub words_e : List (List ℕ)
words_e =
    first_words itself (row_times chart_e) (letters chart_e) 6 (start_vec chart_e)
    ++ (vector_at vectors_e 2 6 3 ∷ vector_at vectors_e 2 6 6 ∷ vector_at vectors_e 2 7 6 ∷ [])

unfoldable pub words_due : List (List ℕ)
words_due = [] ∷ (0 ∷ []) ∷ (1 ∷ []) ∷ (0 ∷ 1 ∷ []) ∷ (1 ∷ 1 ∷ []) ∷ (0 ∷ 1 ∷ 1 ∷ []) ∷ (1 ∷ 1 ∷ []) ∷ [] ∷ [] ∷ []

-- ---- Brzozowski

-- room for four states and three reverse vectors, with one byte more in each buffer
unfoldable pub lent_e : ℕ → ℕ → Lent
lent_e table rows = record { table = nines table; reverse_table = nines 16; reverse_vectors = nines 9; rows = nines rows }

unfoldable pub backwards : List (List ℕ)
backwards =
    backward_left (brzozowski chart_e 4 3 (lent_e 21 16))
    ++ (backward_left (brzozowski chart_e 2 3 (lent_e 10 9))
    ++ (backward_left (brzozowski chart_e 2 1 (lent_e 10 9)) ++ backward_left (brzozowski chart_e 4 3 (lent_e 20 14))))

unfoldable pub backwards_due : List (List ℕ)
backwards_due =
    (0 ∷ 3 ∷ 2 ∷ [])
    ∷ (table_e ++ nines 6)
    ∷ (0 ∷ 0 ∷ 1 ∷ 0 ∷ 0 ∷ 1 ∷ 0 ∷ 1 ∷ 0 ∷ 0 ∷ nines 6)
    ∷ (0 ∷ 2 ∷ 1 ∷ 2 ∷ 0 ∷ 0 ∷ 0 ∷ 0 ∷ 9 ∷ [])
    ∷ (0 ∷ 1 ∷ 9 ∷ 1 ∷ 1 ∷ 9 ∷ 0 ∷ 0 ∷ 9 ∷ 0 ∷ 0 ∷ 0 ∷ 0 ∷ 0 ∷ 0 ∷ 9 ∷ [])
    ∷ (7 ∷ [])
    ∷ blank 10
    ∷ blank 16
    ∷ blank 9
    ∷ blank 9
    ∷ (6 ∷ [])
    ∷ blank 10
    ∷ blank 16
    ∷ blank 9
    ∷ blank 9
    ∷ (5 ∷ [])
    ∷ nines 20
    ∷ nines 16
    ∷ nines 9
    ∷ nines 14
    ∷ []

-- ---- together

unfoldable pub builds_tried : List (List (List ℕ))
builds_tried = other_forwards ∷ apart ∷ words_e ∷ backwards ∷ []

unfoldable pub builds_due : List (List (List ℕ))
builds_due = other_forwards_due ∷ apart_due ∷ words_due ∷ backwards_due ∷ []
