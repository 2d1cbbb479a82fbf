-- Cases of the chart check, worked by hand from document 01.
use Rattle.std.specs.Prelude.{List, [], ◌∷◌, ℕ, take, set}
use Rattle.paper.specs.Lists.{pick}
use Rattle.paper.specs.Chart.{at_most}
use Rattle.paper.specs.Check.{check_reply}
use Rattle.paper.specs.Figures.{chart_e, reply}
use Rattle.paper.specs.NearCases.{bare, larger, larger_of_four, one_sided}

-- each law broken first, law 8 on its left side and on its right one
unfoldable pub broken_tables : List (List ℕ)
broken_tables =
    reply (check_reply (bare 2 1 (0 ∷ 1 ∷ 1 ∷ 0 ∷ []) (0 ∷ 0 ∷ 0 ∷ 1 ∷ [])))
    ∷ reply (check_reply (bare 2 1 (0 ∷ 1 ∷ 0 ∷ 1 ∷ []) (0 ∷ 0 ∷ 0 ∷ 1 ∷ [])))
    ∷ reply (check_reply (bare 3 1 (0 ∷ 1 ∷ 0 ∷ 1 ∷ 1 ∷ 2 ∷ 0 ∷ 2 ∷ 2 ∷ []) (0 ∷ 0 ∷ 0 ∷ 0 ∷ 1 ∷ 2 ∷ 0 ∷ 2 ∷ 2 ∷ [])))
    ∷ reply (check_reply (bare 2 1 (0 ∷ 0 ∷ 0 ∷ 1 ∷ []) (0 ∷ 0 ∷ 0 ∷ 1 ∷ [])))
    ∷ reply (check_reply (bare 2 1 larger (1 ∷ 1 ∷ 1 ∷ 0 ∷ [])))
    ∷ reply (check_reply (bare 2 1 larger (0 ∷ 1 ∷ 0 ∷ 1 ∷ [])))
    ∷ reply (check_reply (bare 2 0 larger (0 ∷ 1 ∷ 1 ∷ 1 ∷ [])))
    ∷ reply (check_reply (bare 4 1 larger_of_four (0 ∷ 0 ∷ 0 ∷ 0 ∷ 0 ∷ 1 ∷ 2 ∷ 3 ∷ 0 ∷ 2 ∷ 2 ∷ 3 ∷ 0 ∷ 3 ∷ 2 ∷ 3 ∷ [])))
    ∷ reply (check_reply (bare 4 1 larger_of_four (0 ∷ 0 ∷ 0 ∷ 0 ∷ 0 ∷ 1 ∷ 2 ∷ 3 ∷ 0 ∷ 2 ∷ 2 ∷ 2 ∷ 0 ∷ 3 ∷ 3 ∷ 3 ∷ [])))
    ∷ []

unfoldable pub broken_due : List (List ℕ)
broken_due =
    (4 ∷ 1 ∷ 1 ∷ 0 ∷ 0 ∷ [])
    ∷ (4 ∷ 2 ∷ 0 ∷ 1 ∷ 0 ∷ [])
    ∷ (4 ∷ 3 ∷ 0 ∷ 1 ∷ 2 ∷ [])
    ∷ (4 ∷ 4 ∷ 1 ∷ 0 ∷ 0 ∷ [])
    ∷ (4 ∷ 5 ∷ 0 ∷ 0 ∷ 1 ∷ [])
    ∷ (4 ∷ 6 ∷ 0 ∷ 0 ∷ 0 ∷ [])
    ∷ (4 ∷ 7 ∷ 1 ∷ 0 ∷ 0 ∷ [])
    ∷ (4 ∷ 8 ∷ 3 ∷ 1 ∷ 2 ∷ [])
    ∷ (4 ∷ 8 ∷ 3 ∷ 1 ∷ 2 ∷ [])
    ∷ []

-- under four bytes; k of 17; e of 3; under the layout's length; a grade of 3
unfoldable pub short_charts : List (List ℕ)
short_charts =
    reply (check_reply (3 ∷ 2 ∷ 2 ∷ []))
    ∷ reply (check_reply (set chart_e 0 17))
    ∷ reply (check_reply (set chart_e 1 3))
    ∷ reply (check_reply (take 33 chart_e))
    ∷ reply (check_reply (set chart_e 33 3))
    ∷ []

-- grade 1 is at most 2 in E, and 2 is not at most 1
unfoldable pub order_e : List (List ℕ)
order_e = (pick (at_most chart_e 1 2) 1 0 ∷ pick (at_most chart_e 2 1) 1 0 ∷ []) ∷ []

-- ---- together

unfoldable pub charts_tried : List (List (List ℕ))
charts_tried = broken_tables ∷ short_charts ∷ order_e ∷ (take 1 (reply (check_reply one_sided)) ∷ []) ∷ []

unfoldable pub charts_due : List (List (List ℕ))
charts_due =
    broken_due
    ∷ ((2 ∷ []) ∷ (1 ∷ []) ∷ (1 ∷ []) ∷ (2 ∷ []) ∷ (3 ∷ []) ∷ [])
    ∷ ((1 ∷ 0 ∷ []) ∷ [])
    ∷ ((0 ∷ []) ∷ [])
    ∷ []
