-- Rows tell words apart only where some continuation does, so no table that grades as the chart has fewer states than there are rows. Assumes nothing.
use mathlib.Core.Path.{◌≡◌, sym, ap, ◌∙◌}
use mathlib.Core.Bool.{true}
use mathlib.Core.List.{List, ◌++◌, reverse}
use Prim.Native.Nat.{ℕ, ◌≤◌, ◌<◌}
use native.Mathlib.Omega.{arith}
use lib.ListN.{length, get_or}
use lib.Seq.{ext_get_or}
use Rattle.paper.specs.Words.{Word, after}
use Rattle.paper.specs.Chart.{letters}
use Rattle.paper.specs.Vectors.{combine, vector_of, grade_of}
use Rattle.paper.specs.Constructions.{first_row, row_after}
use Rattle.paper.specs.Tables.{state_of, table_grade, table_fits}
use Rattle.numbering.proofs.Words.{word_append, word_reverse}
use Rattle.numbering.proofs.Pigeonhole.{pigeonhole}
use Rattle.numbering.proofs.TableFits.{table_facts, state_low}
use Rattle.algebra.proofs.Checked.{Sound}
use Rattle.algebra.proofs.Words.{Reverses, length_vector_row, vector_row_at_lem, row_of_word, continued}
use Rattle.algebra.proofs.Tables.{one_state}

-- the row that a word reaches
abbrev pub word_row : List ℕ → List (List ℕ) → List ℕ → List ℕ
word_row c fs u = after (row_after c fs) (first_row c fs) u

module _ (c : List ℕ) (ok : Sound c) (fs : List (List ℕ)) (rev : Reverses c fs) where
  -- its entry at a reverse vector is the grade of the word continued by that vector's letters in the other order
  entry_grade : (u : List ℕ) → Word (letters c) u → (i : ℕ) (l : i < length fs) → get_or (word_row c fs u) i 0 ≡ grade_of c (u ++ reverse (rev.reached i l).0)
  entry_grade u hu i l =
      let r = rev.reached i l in
      ap (λ (t : List ℕ). get_or t i 0) (row_of_word c ok fs rev u hu)
      ∙ vector_row_at_lem c fs (vector_of c u) i l
      ∙ ap (combine c (vector_of c u)) r.1.1
      ∙ continued c ok u r.0 hu r.1.0

  -- it has an entry for each reverse vector
  size : (u : List ℕ) → Word (letters c) u → length (word_row c fs u) ≡ length fs
  size u hu = ap length (row_of_word c ok fs rev u hu) ∙ length_vector_row c fs (vector_of c u)

  within : (u : List ℕ) → Word (letters c) u → (i : ℕ) → i < length (word_row c fs u) → i < length fs
  within u hu i h = rw (size u hu) at h

  -- words that none tells apart have one row
  pub alike_rows : (u w : List ℕ) → Word (letters c) u → Word (letters c) w → ((t : List ℕ) → Word (letters c) t → grade_of c (u ++ t) ≡ grade_of c (w ++ t)) →
      word_row c fs u ≡ word_row c fs w
  alike_rows u w hu hw alike = ext_get_or 0 (word_row c fs u) (word_row c fs w) (size u hu ∙ sym (size w hw)) (λ i h. at i (within u hu i h))
    where
      at : (i : ℕ) → i < length fs → get_or (word_row c fs u) i 0 ≡ get_or (word_row c fs w) i 0
      at i l =
          let r = rev.reached i l in
          entry_grade u hu i l ∙ alike (reverse r.0) (word_reverse (letters c) r.0 r.1.0) ∙ sym (entry_grade w hw i l)

  -- a table that fits and grades every word as the chart does
  module _ (rows : List ℕ) (count top : ℕ) (fits : table_fits rows count (letters c) top ≡ true)
      (graded : (u : List ℕ) → Word (letters c) u → table_grade rows (letters c) u ≡ grade_of c u) where
    -- two words that lead it to one state have one row
    pub one_row : (u w : List ℕ) → Word (letters c) u → Word (letters c) w → state_of rows (letters c) u ≡ state_of rows (letters c) w → word_row c fs u ≡ word_row c fs w
    one_row u w hu hw e =
        alike_rows u w hu hw
        (λ t ht.
        sym (graded (u ++ t) (word_append (letters c) u t hu ht))
        ∙ one_state rows (letters c) u w t e
        ∙ graded (w ++ t) (word_append (letters c) w t hw ht))

    -- so it has as many states as there are words with different rows
    pub smallest : (r : ℕ) (word : ℕ → List ℕ) → ((i : ℕ) → i < r → Word (letters c) (word i)) →
        ((i j : ℕ) → i < j → j < r → word_row c fs (word i) ≡ word_row c fs (word j) → ⊥) → r ≤ count
    smallest r word words apart =
        pigeonhole r count (λ i. state_of rows (letters c) (word i))
        (λ i h. state_low rows count (letters c) top (table_facts rows count (letters c) top fits) (word i) (words i h))
        (λ i j o l e. apart i j o l (one_row (word i) (word j) (words i (omega arith)) (words j l) e))
