-- Grades of words continued, and what the constructions need of them: reduced keys, and rows over the reverse vectors. Assumes nothing.
use mathlib.Core.Path.{◌≡◌, refl, sym, ap, ap₂, ◌∙◌, subst}
use mathlib.Core.List.{List, [], ◌∷◌, ◌++◌, reverse, reverse-cons}
use Prim.Native.Nat.{ℕ, ◌*◌, ◌<◌}
use lib.ListN.{length, get_or}
use lib.Seq.{get_or_at}
use Rattle.paper.specs.Lists.{tabulate, joined}
use Rattle.paper.specs.Words.{Word, after}
use Rattle.paper.specs.Chart.{n_of, letters, start_vec, end_vec}
use Rattle.paper.specs.Vectors.{row_times, times_col, combine, vector_of, end_grade, grade_of, reverse_of, start_grade}
use Rattle.paper.specs.Numbering.{itself, place}
use Rattle.paper.specs.Constructions.{letter_key, reduced_key, first_row_at, first_row, row_after_at, row_after, row_grade}
use Rattle.lists.proofs.ByPlace.{length_tabulate, get_or_tabulate, tabulate_cong, length_joined, joined_cong, joined_parts}
use Rattle.numbering.proofs.Words.{word_reverse, after_append, after_with, after_keeps}
use Rattle.numbering.proofs.Place.{place_key}
use Rattle.algebra.proofs.Checked.{Sound}
use Rattle.algebra.proofs.Vectors.{Grades, length_row, row_grades, col_grades, start_grades, end_grades, vector_grades, reverse_grades, adjoint}

-- ---- a word continued

module _ (c : List ℕ) (ok : Sound c) where
  -- letters applied to a column go over to the row in the other order
  carry : (w : List ℕ) → Word (letters c) w → (v f : List ℕ) → Grades c v → Grades c f →
      combine c v (after (times_col c) f w) ≡ combine c (after (row_times c) v (reverse w)) f
  unfolding after
  carry [] h v f hv hf = refl
  carry (x ∷ w) h v f hv hf =
      let back = after_keeps (row_times c) (Grades c) (letters c) (λ x h v. row_grades c ok x v h) v hv (reverse w) (word_reverse (letters c) w h.1) in
      carry w h.1 v (times_col c x f) hv (col_grades c ok x f h.0 hf)
      ∙ sym (adjoint c ok x (after (row_times c) v (reverse w)) f h.0 back hf)
      ∙ ap (λ (t : List ℕ). combine c t f) (sym (after_with (row_times c) v (reverse w) x) ∙ ap (after (row_times c) v) (sym (reverse-cons x w)))

  -- a word's vector combined with a reverse vector is the grade of the word continued
  pub continued : (u w : List ℕ) → Word (letters c) u → Word (letters c) w → combine c (vector_of c u) (reverse_of c w) ≡ grade_of c (u ++ reverse w)
  unfolding vector_of reverse_of grade_of end_grade
  continued u w hu hw =
      carry w hw (vector_of c u) (end_vec c) (vector_grades c ok u hu) (end_grades c ok)
      ∙ ap (λ (t : List ℕ). combine c t (end_vec c)) (sym (after_append (row_times c) (start_vec c) u (reverse w)))

  -- the grade byte of a reverse vector is the grade of its letters in the other order
  pub reverse_grade : (w : List ℕ) → Word (letters c) w → start_grade c (reverse_of c w) ≡ grade_of c (reverse w)
  unfolding start_grade vector_of after
  reverse_grade w hw = continued [] w tt hw

-- ---- reduced keys

letter_length : (c v : List ℕ) (x : ℕ) → x < letters c → length (letter_key c v x) ≡ n_of c
unfolding letter_key
letter_length c v x h = length_row c x v

module _ (c v w : List ℕ) where
  -- vectors of one key: every letter makes the same of them, and they have one grade
  pub reduced_rows : reduced_key c v ≡ reduced_key c w → (x : ℕ) → x < letters c → row_times c x v ≡ row_times c x w
  unfolding reduced_key letter_key
  reduced_rows e = joined_parts 0 (letters c) (n_of c) (letter_key c v) (letter_key c w) (letter_length c v) (letter_length c w) (end_grade c v ∷ []) (end_grade c w ∷ []) e

  pub reduced_grade : reduced_key c v ≡ reduced_key c w → end_grade c v ≡ end_grade c w
  unfolding reduced_key
  reduced_grade e = sym (last v) ∙ ap (λ l. get_or l (letters c * n_of c) 0) e ∙ last w
    where
      last : (v : List ℕ) → get_or (joined (letters c) (letter_key c v) ++ (end_grade c v ∷ [])) (letters c * n_of c) 0 ≡ end_grade c v
      last v =
          get_or_at (joined (letters c) (letter_key c v)) (end_grade c v) [] 0 (letters c * n_of c)
          (length_joined (letters c) (n_of c) (letter_key c v) (letter_length c v))

  pub reduced_same : ((x : ℕ) → x < letters c → row_times c x v ≡ row_times c x w) → end_grade c v ≡ end_grade c w → reduced_key c v ≡ reduced_key c w
  unfolding reduced_key letter_key
  reduced_same h e = ap₂ (λ l a. l ++ (a ∷ [])) (joined_cong (letters c) (letter_key c v) (letter_key c w) h) e

  -- so a letter leads from vectors of one key to vectors of one key
  pub reduced_keeps : (x : ℕ) → reduced_key c v ≡ reduced_key c w → x < letters c → reduced_key c (row_times c x v) ≡ reduced_key c (row_times c x w)
  reduced_keeps x e h = ap (reduced_key c) (reduced_rows e x h)

-- ---- rows over the reverse vectors

-- a finished list of reverse vectors: the end vector first, closed under letters, each the reverse vector of a word
pub record Reverses (c : List ℕ) (fs : List (List ℕ)) : Type 0 where
  pub some : 0 < length fs
  pub first : get_or fs 0 [] ≡ end_vec c
  pub closed : (i x : ℕ) → i < length fs → x < letters c → place itself fs (times_col c x (get_or fs i [])) < length fs
  pub reached : (i : ℕ) → i < length fs → (w : List ℕ) × (Word (letters c) w × (get_or fs i [] ≡ reverse_of c w))

-- the row of a vector: at each reverse vector, the two combined
unfoldable pub vector_row_at : List ℕ → List (List ℕ) → List ℕ → ℕ → ℕ
vector_row_at c fs v i = combine c v (get_or fs i [])

unfoldable pub vector_row : List ℕ → List (List ℕ) → List ℕ → List ℕ
vector_row c fs v = tabulate (length fs) (vector_row_at c fs v)

module _ (c : List ℕ) (fs : List (List ℕ)) where
  pub length_vector_row : (v : List ℕ) → length (vector_row c fs v) ≡ length fs
  unfolding vector_row
  length_vector_row v = length_tabulate (length fs) (vector_row_at c fs v)

  pub vector_row_at_lem : (v : List ℕ) (i : ℕ) → i < length fs → get_or (vector_row c fs v) i 0 ≡ combine c v (get_or fs i [])
  unfolding vector_row vector_row_at
  vector_row_at_lem v i h = get_or_tabulate (length fs) (vector_row_at c fs v) 0 i h

module _ (c : List ℕ) (ok : Sound c) (fs : List (List ℕ)) (rev : Reverses c fs) where
  reverse_at : (i : ℕ) → i < length fs → Grades c (get_or fs i [])
  reverse_at i h = let r = rev.reached i h in subst (Grades c) (sym r.1.1) (reverse_grades c ok r.0 r.1.0)

  -- a letter leads from the row of a vector to the row of the vector that it leads to
  pub row_step : (x : ℕ) (v : List ℕ) → x < letters c → Grades c v → row_after c fs x (vector_row c fs v) ≡ vector_row c fs (row_times c x v)
  unfolding row_after row_after_at vector_row vector_row_at
  row_step x v hx hv = tabulate_cong (length fs) (row_after_at c fs x (vector_row c fs v)) (vector_row_at c fs (row_times c x v)) at
    where
      at : (i : ℕ) → i < length fs → get_or (vector_row c fs v) (place itself fs (times_col c x (get_or fs i []))) 0 ≡ combine c (row_times c x v) (get_or fs i [])
      at i l =
          let h = rev.closed i x l hx in
          vector_row_at_lem c fs v (place itself fs (times_col c x (get_or fs i []))) h
          ∙ ap (combine c v) (place_key itself fs (times_col c x (get_or fs i [])) h)
          ∙ sym (adjoint c ok x v (get_or fs i []) hx hv (reverse_at i l))

  row_walk : (u : List ℕ) → Word (letters c) u → (v : List ℕ) → Grades c v → after (row_after c fs) (vector_row c fs v) u ≡ vector_row c fs (after (row_times c) v u)
  unfolding after
  row_walk [] w v hv = refl
  row_walk (x ∷ u) w v hv = rw (row_step x v w.0 hv) (row_walk u w.1 (row_times c x v) (row_grades c ok x v w.0 hv))

  -- the row that a word reaches is the row of its vector
  pub row_of_word : (u : List ℕ) → Word (letters c) u → after (row_after c fs) (first_row c fs) u ≡ vector_row c fs (vector_of c u)
  unfolding vector_of first_row first_row_at start_grade vector_row vector_row_at
  row_of_word u w = row_walk u w (start_vec c) (start_grades c ok)

  -- at the end vector it holds the word's grade
  pub row_grade_lem : (u : List ℕ) → Word (letters c) u → row_grade (after (row_after c fs) (first_row c fs) u) ≡ grade_of c u
  unfolding row_grade grade_of end_grade
  row_grade_lem u w = rw (row_of_word u w) (vector_row_at_lem c fs (vector_of c u) 0 rev.some ∙ ap (combine c (vector_of c u)) rev.first)
