-- A chart, read straight off its bytes: k, e, n, m; join by rows; product by rows; start; end; the matrices by letter and row.
use Rattle.std.specs.Prelude.{Bool, List, ℕ, ◌+◌, ◌*◌, get_or, eqb}
use Rattle.paper.specs.Lists.{tabulate}

-- ---- sizes

-- bytes before the tables
abbrev pub head_size : ℕ
head_size = 4

-- grades, unit grade, states, letters
abbrev pub k_of : List ℕ → ℕ
k_of c = get_or c 0 0

abbrev pub e_of : List ℕ → ℕ
e_of c = get_or c 1 0

abbrev pub n_of : List ℕ → ℕ
n_of c = get_or c 2 0

abbrev pub m_of : List ℕ → ℕ
m_of c = get_or c 3 0

-- how many letters a word may use: all that speaks of words, tables and builders counts by this name
unfoldable pub letters : List ℕ → ℕ
letters c = m_of c

-- ---- where each part begins

abbrev pub join_from : List ℕ → ℕ
join_from c = head_size

abbrev pub prod_from : List ℕ → ℕ
prod_from c = join_from c + k_of c * k_of c

abbrev pub start_from : List ℕ → ℕ
start_from c = prod_from c + k_of c * k_of c

abbrev pub end_from : List ℕ → ℕ
end_from c = start_from c + n_of c

abbrev pub matrix_from : List ℕ → ℕ
matrix_from c = end_from c + n_of c

-- how many bytes the chart is
abbrev pub chart_size : List ℕ → ℕ
chart_size c = matrix_from c + m_of c * n_of c * n_of c

-- ---- what stands there

unfoldable pub join : List ℕ → ℕ → ℕ → ℕ
join c a b = get_or c (join_from c + (a * k_of c + b)) 0

-- order is read from join: a is below b, or is b
unfoldable pub at_most : List ℕ → ℕ → ℕ → Bool
at_most c a b = eqb (join c a b) b

-- a times b: the sides are not exchanged anywhere
unfoldable pub prod : List ℕ → ℕ → ℕ → ℕ
prod c a b = get_or c (prod_from c + (a * k_of c + b)) 0

-- the grade p places behind `from`
unfoldable pub grade_from : List ℕ → ℕ → ℕ → ℕ
grade_from c from p = get_or c (from + p) 0

unfoldable pub start_vec : List ℕ → List ℕ
start_vec c = tabulate (n_of c) (grade_from c (start_from c))

unfoldable pub end_vec : List ℕ → List ℕ
end_vec c = tabulate (n_of c) (grade_from c (end_from c))

-- the entry at p, q of letter x's matrix
unfoldable pub entry : List ℕ → ℕ → ℕ → ℕ → ℕ
entry c x p q = get_or c (matrix_from c + ((x * n_of c + p) * n_of c + q)) 0
