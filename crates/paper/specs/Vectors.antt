-- Vectors of grades and the letters' matrices; the vector and the grade of a word.
use Rattle.std.specs.Prelude.{List, ℕ, zero, suc, get_or}
use Rattle.paper.specs.Lists.{tabulate}
use Rattle.paper.specs.Words.{after}
use Rattle.paper.specs.Chart.{n_of, join, prod, entry, start_vec, end_vec}

-- the join of f 0, .., f (n - 1)
unfoldable pub joins : List ℕ → ℕ → (ℕ → ℕ) → ℕ
joins c zero f = 0
joins c (suc n) f = join c (joins c n f) (f n)

-- ---- a row vector times letter x's matrix: at q the join over p of v(p) times M(p,q)

unfoldable pub row_term : List ℕ → ℕ → List ℕ → ℕ → ℕ → ℕ
row_term c x v q p = prod c (get_or v p 0) (entry c x p q)

unfoldable pub row_entry : List ℕ → ℕ → List ℕ → ℕ → ℕ
row_entry c x v q = joins c (n_of c) (row_term c x v q)

unfoldable pub row_times : List ℕ → ℕ → List ℕ → List ℕ
row_times c x v = tabulate (n_of c) (row_entry c x v)

-- ---- letter x's matrix times a column: at p the join over q of M(p,q) times w(q)

unfoldable pub col_term : List ℕ → ℕ → List ℕ → ℕ → ℕ → ℕ
col_term c x w p q = prod c (entry c x p q) (get_or w q 0)

unfoldable pub col_entry : List ℕ → ℕ → List ℕ → ℕ → ℕ
col_entry c x w p = joins c (n_of c) (col_term c x w p)

unfoldable pub times_col : List ℕ → ℕ → List ℕ → List ℕ
times_col c x w = tabulate (n_of c) (col_entry c x w)

-- ---- two vectors combined: the join over p of v(p) times w(p)

unfoldable pub combine_term : List ℕ → List ℕ → List ℕ → ℕ → ℕ
combine_term c v w p = prod c (get_or v p 0) (get_or w p 0)

unfoldable pub combine : List ℕ → List ℕ → List ℕ → ℕ
combine c v w = joins c (n_of c) (combine_term c v w)

-- ---- words

-- the vector of a word: the start vector times its letters' matrices in order
unfoldable pub vector_of : List ℕ → List ℕ → List ℕ
vector_of c u = after (row_times c) (start_vec c) u

-- the grade of a vector, and of a word
unfoldable pub end_grade : List ℕ → List ℕ → ℕ
end_grade c v = combine c v (end_vec c)

unfoldable pub grade_of : List ℕ → List ℕ → ℕ
grade_of c u = end_grade c (vector_of c u)

-- the reverse vector of a word: its letters' matrices times the end vector, in the order applied
unfoldable pub reverse_of : List ℕ → List ℕ → List ℕ
reverse_of c u = after (times_col c) (end_vec c) u

-- the grade byte of a reverse vector
unfoldable pub start_grade : List ℕ → List ℕ → ℕ
start_grade c f = combine c (start_vec c) f
