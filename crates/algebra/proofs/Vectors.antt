-- Rows, columns and vectors of words: their lengths, their entries are grades, and a letter goes over from the row to the column. Assumes nothing.
use mathlib.Core.Path.{◌≡◌, sym, ap, ◌∙◌}
use mathlib.Core.List.{List, [], ◌∷◌}
use Prim.Native.Nat.{ℕ, ◌<◌}
use lib.ListN.{length, get_or}
use Rattle.paper.specs.Words.{Word, after}
use Rattle.paper.specs.Chart.{k_of, n_of, letters, start_from, end_from, grade_from, prod, entry, start_vec, end_vec}
use Rattle.paper.specs.Vectors.{joins, row_term, row_entry, row_times, col_term, col_entry, times_col, combine_term, combine, vector_of, reverse_of, end_grade, grade_of}
use Rattle.lists.proofs.ByPlace.{length_tabulate, get_or_tabulate}
use Rattle.numbering.proofs.Words.{with, after_with, after_keeps}
use Rattle.algebra.proofs.Checked.{Sound}
use Rattle.algebra.proofs.Joins.{joins_cong, joins_low, joins_swap, prod_joins_left, prod_joins_right}

-- every entry of a vector is a grade
abbrev pub Grades : List ℕ → List ℕ → Type 0
Grades c v = (p : ℕ) → p < n_of c → get_or v p 0 < k_of c

-- ---- lengths and entries

module _ (c : List ℕ) where
  pub length_row : (x : ℕ) (v : List ℕ) → length (row_times c x v) ≡ n_of c
  unfolding row_times
  length_row x v = length_tabulate (n_of c) (row_entry c x v)

  pub length_col : (x : ℕ) (w : List ℕ) → length (times_col c x w) ≡ n_of c
  unfolding times_col
  length_col x w = length_tabulate (n_of c) (col_entry c x w)

  pub length_start : length (start_vec c) ≡ n_of c
  unfolding start_vec
  length_start = length_tabulate (n_of c) (grade_from c (start_from c))

  pub length_end : length (end_vec c) ≡ n_of c
  unfolding end_vec
  length_end = length_tabulate (n_of c) (grade_from c (end_from c))

  pub row_at : (x : ℕ) (v : List ℕ) (q : ℕ) → q < n_of c → get_or (row_times c x v) q 0 ≡ row_entry c x v q
  unfolding row_times
  row_at x v q h = get_or_tabulate (n_of c) (row_entry c x v) 0 q h

  pub col_at : (x : ℕ) (w : List ℕ) (p : ℕ) → p < n_of c → get_or (times_col c x w) p 0 ≡ col_entry c x w p
  unfolding times_col
  col_at x w p h = get_or_tabulate (n_of c) (col_entry c x w) 0 p h

  -- whatever steps make vectors of n entries
  length_after : (step : ℕ → List ℕ → List ℕ) → ((x : ℕ) (v : List ℕ) → length (step x v) ≡ n_of c) →
      (u v : List ℕ) → length v ≡ n_of c → length (after step v u) ≡ n_of c
  unfolding after
  length_after step e [] v h = h
  length_after step e (x ∷ u) v h = length_after step e u (step x v) (e x v)

  pub length_vector : (u : List ℕ) → length (vector_of c u) ≡ n_of c
  unfolding vector_of
  length_vector u = length_after (row_times c) length_row u (start_vec c) length_start

  -- one letter more
  pub vector_with : (u : List ℕ) (x : ℕ) → vector_of c (with x u) ≡ row_times c x (vector_of c u)
  unfolding vector_of
  vector_with u x = after_with (row_times c) (start_vec c) u x

module _ (c : List ℕ) (ok : Sound c) where
  -- ---- entries are grades

  pub start_grades : Grades c (start_vec c)
  unfolding start_vec
  start_grades p h = rw (get_or_tabulate (n_of c) (grade_from c (start_from c)) 0 p h) (ok.start_low p h)

  pub end_grades : Grades c (end_vec c)
  unfolding end_vec
  end_grades p h = rw (get_or_tabulate (n_of c) (grade_from c (end_from c)) 0 p h) (ok.end_low p h)

  pub row_grades : (x : ℕ) (v : List ℕ) → x < letters c → Grades c v → Grades c (row_times c x v)
  unfolding row_entry row_term
  row_grades x v hx hv q hq =
      rw (row_at c x v q hq) (joins_low c ok (n_of c) (row_term c x v q) (λ p hp. ok.prod_low (get_or v p 0) (entry c x p q) (hv p hp) (ok.entry_low x p q hx hp hq)))

  pub col_grades : (x : ℕ) (w : List ℕ) → x < letters c → Grades c w → Grades c (times_col c x w)
  unfolding col_entry col_term
  col_grades x w hx hw p hp =
      rw (col_at c x w p hp) (joins_low c ok (n_of c) (col_term c x w p) (λ q hq. ok.prod_low (entry c x p q) (get_or w q 0) (ok.entry_low x p q hx hp hq) (hw q hq)))

  pub vector_grades : (u : List ℕ) → Word (letters c) u → Grades c (vector_of c u)
  unfolding vector_of
  vector_grades u h = after_keeps (row_times c) (Grades c) (letters c) (λ x h v. row_grades x v h) (start_vec c) start_grades u h

  pub reverse_grades : (u : List ℕ) → Word (letters c) u → Grades c (reverse_of c u)
  unfolding reverse_of
  reverse_grades u h = after_keeps (times_col c) (Grades c) (letters c) (λ x h w. col_grades x w h) (end_vec c) end_grades u h

  pub combine_low : (v w : List ℕ) → Grades c v → Grades c w → combine c v w < k_of c
  unfolding combine combine_term
  combine_low v w hv hw = joins_low c ok (n_of c) (combine_term c v w) (λ p h. ok.prod_low (get_or v p 0) (get_or w p 0) (hv p h) (hw p h))

  pub grade_low : (u : List ℕ) → Word (letters c) u → grade_of c u < k_of c
  unfolding grade_of end_grade
  grade_low u h = combine_low (vector_of c u) (end_vec c) (vector_grades u h) end_grades

  -- ---- a letter's matrix goes over from the row to the column

  -- both sides are the join over p and q of v(p) times M(p,q) times f(q)
  pub adjoint : (x : ℕ) (v f : List ℕ) → x < letters c → Grades c v → Grades c f → combine c (row_times c x v) f ≡ combine c v (times_col c x f)
  unfolding combine combine_term row_entry row_term col_entry col_term
  adjoint x v f hx hv hf =
      joins_cong c n (combine_term c (row_times c x v) f) (λ q. joins c n (λ p. prod c (prod c (a p) (e p q)) (w q)))
      (λ q hq. ap (λ t. prod c t (w q)) (row_at c x v q hq)
      ∙ prod_joins_right c ok (w q) n (λ p. prod c (a p) (e p q)) (hf q hq) (λ p hp. ok.prod_low (a p) (e p q) (hv p hp) (he p q hp hq)))
      ∙ joins_swap c ok n n (λ q p. prod c (prod c (a p) (e p q)) (w q))
      (λ q p hq hp. ok.prod_low (prod c (a p) (e p q)) (w q) (ok.prod_low (a p) (e p q) (hv p hp) (he p q hp hq)) (hf q hq))
      ∙ joins_cong c n (λ p. joins c n (λ q. prod c (prod c (a p) (e p q)) (w q))) (combine_term c v (times_col c x f))
      (λ p hp.
      joins_cong c n (λ q. prod c (prod c (a p) (e p q)) (w q)) (λ q. prod c (a p) (prod c (e p q) (w q)))
      (λ q hq. ok.prod_assoc (a p) (e p q) (w q) (hv p hp) (he p q hp hq) (hf q hq))
      ∙ sym (prod_joins_left c ok (a p) n (λ q. prod c (e p q) (w q)) (hv p hp) (λ q hq. ok.prod_low (e p q) (w q) (he p q hp hq) (hf q hq)))
      ∙ ap (prod c (a p)) (sym (col_at c x f p hp)))
    where
      n : ℕ
      n = n_of c

      a : ℕ → ℕ
      a p = get_or v p 0

      w : ℕ → ℕ
      w q = get_or f q 0

      e : ℕ → ℕ → ℕ
      e p q = entry c x p q

      he : (p q : ℕ) → p < n_of c → q < n_of c → entry c x p q < k_of c
      he p q hp hq = ok.entry_low x p q hx hp hq
