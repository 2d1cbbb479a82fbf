-- When a chart is refused: ranges, length, grades, and the eight laws of its grade tables.
use Rattle.std.specs.Prelude.{Bool, true, List, [], ◌∷◌, ℕ, suc, ◌+◌, ◌-◌, length, get_or, eqb, leb, ltb}
use Rattle.paper.specs.Lists.{both, unless, all_below, least_fail}
use Rattle.paper.specs.Reply.{Reply, fine}
use Rattle.paper.specs.Chart.{head_size, k_of, e_of, n_of, m_of, letters, join_from, prod_from, start_from, end_from, matrix_from, chart_size, join, prod}

-- ---- ranges

unfoldable pub sizes_fit : ℕ → ℕ → ℕ → ℕ → Bool
sizes_fit k e n m =
    both (both (leb 2 k) (leb k 16))
    (both (ltb e k)
    (both (both (leb 1 n) (leb n 24))
    (both (leb 1 m) (leb m 16))))

unfoldable pub head_fits : List ℕ → Bool
head_fits c = sizes_fit (k_of c) (e_of c) (n_of c) (m_of c)

-- the i-th byte behind the head is a grade
unfoldable pub grade_fits : List ℕ → ℕ → Bool
grade_fits c i = ltb (get_or c (head_size + i) 0) (k_of c)

unfoldable pub grades_fit : List ℕ → Bool
grades_fit c = all_below (chart_size c - head_size) (grade_fits c)

-- ---- the laws

-- the eight laws at three grades, in the paper's order; a law that speaks of fewer passes the others over
unfoldable pub laws : List ℕ → ℕ → ℕ → ℕ → List Bool
laws ch a b c =
    eqb (join ch a a) a
    ∷ eqb (join ch a b) (join ch b a)
    ∷ eqb (join ch (join ch a b) c) (join ch a (join ch b c))
    ∷ eqb (join ch 0 a) a
    ∷ eqb (prod ch (prod ch a b) c) (prod ch a (prod ch b c))
    ∷ both (eqb (prod ch (e_of ch) a) a) (eqb (prod ch a (e_of ch)) a)
    ∷ both (eqb (prod ch 0 a) 0) (eqb (prod ch a 0) 0)
    ∷ both
    (eqb (prod ch a (join ch b c)) (join ch (prod ch a b) (prod ch a c)))
    (eqb (prod ch (join ch b c) a) (join ch (prod ch b a) (prod ch c a)))
    ∷ []

-- law i, from 0, at three grades; at a and b with every c; at a with every b and c; at all grades
unfoldable pub law_at : List ℕ → ℕ → ℕ → ℕ → ℕ → Bool
law_at ch i a b c = get_or (laws ch a b c) i true

unfoldable pub law_at_two : List ℕ → ℕ → ℕ → ℕ → Bool
law_at_two ch i a b = all_below (k_of ch) (law_at ch i a b)

unfoldable pub law_at_one : List ℕ → ℕ → ℕ → Bool
law_at_one ch i a = all_below (k_of ch) (law_at_two ch i a)

unfoldable pub law_holds : List ℕ → ℕ → Bool
law_holds ch i = all_below (k_of ch) (law_at_one ch i)

-- the first law that is broken, from 0, or 8
unfoldable pub broken_law : List ℕ → ℕ
broken_law ch = least_fail 8 (law_holds ch)

-- where law i is first broken, c moving fastest: the first a with some b and c, with it the first b with some c, the first c
unfoldable pub broken_a : List ℕ → ℕ → ℕ
broken_a ch i = least_fail (k_of ch) (law_at_one ch i)

unfoldable pub broken_b : List ℕ → ℕ → ℕ → ℕ
broken_b ch i a = least_fail (k_of ch) (law_at_two ch i a)

unfoldable pub broken_c : List ℕ → ℕ → ℕ → ℕ → ℕ
broken_c ch i a b = least_fail (k_of ch) (law_at ch i a b)

-- the paper's number of law i, and the grades at which it is first broken
unfoldable pub broken_at : List ℕ → ℕ → List ℕ
broken_at ch i =
    suc i
    ∷ broken_a ch i
    ∷ broken_b ch i (broken_a ch i)
    ∷ broken_c ch i (broken_a ch i) (broken_b ch i (broken_a ch i))
    ∷ []

-- ---- the check

-- what a chart that is not refused is answered: its sizes, its letters, and where its parts begin
unfoldable pub shape_of : List ℕ → List ℕ
shape_of c =
    k_of c ∷ e_of c ∷ n_of c ∷ m_of c ∷ letters c
    ∷ join_from c ∷ prod_from c ∷ start_from c ∷ end_from c ∷ matrix_from c ∷ chart_size c ∷ []

unfoldable pub check_reply : List ℕ → Reply
check_reply c =
    unless (leb head_size (length c)) (2, [])
    (unless (head_fits c) (1, [])
    (unless (leb (chart_size c) (length c)) (2, [])
    (unless (grades_fit c) (3, [])
    (unless (eqb (broken_law c) 8) (4, broken_at c (broken_law c))
    (fine (shape_of c))))))

-- whether it is refused
unfoldable pub chart_fits : List ℕ → Bool
chart_fits c = eqb (check_reply c).0 0
