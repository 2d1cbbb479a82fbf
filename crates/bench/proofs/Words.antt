-- Reading a word letter by letter ends where walking it does, wherever grading the word refuses nothing. Assumes nothing.
use Rattle.std.specs.Prelude.{Result}
use mathlib.Core.Path.{◌≡◌, refl, sym, ap, ◌∙◌}
use mathlib.Core.Bool.{true}
use mathlib.Core.List.{List, [], ◌∷◌}
use Prim.Native.Nat.{ℕ, suc, ◌+◌, ◌<◌}
use native.Mathlib.Numerals.{add-one}
use native.Mathlib.Omega.{arith}
use lib.ListN.{length, get_or, drop}
use lib.Seq.{drop-cons, drop-length}
use lib.Dec.{leb}
use borrow.Author.Tests.{leb-true, ltb-true}
use Rattle.paper.specs.Reply.{Reply}
use Rattle.replies.specs.declared.Refusal.{Refusal}
use Rattle.replies.specs.Replies.{graded_said}
use Rattle.paper.specs.Words.{after, Word}
use Rattle.paper.specs.Tables.{grade_at, next_at, grade_top, row_fits, size_fits, table_fits, letter_fits, bad_letter, next_by, state_of, table_grade, state_after, reader_takes, reader_state, grade_reply, word_reply}
use Rattle.replies.proofs.Said.{graded_one}
use Rattle.lists.proofs.Tests.{unless_passed, all_at, least_all}
use Rattle.rows.proofs.Rows.{size_parts, step_next, grade_is}
use Rattle.rows.proofs.TableTest.{table_parts}
use Rattle.rows.proofs.Rows.{row_next}

-- ---- one letter more, and the end, for any way of taking letters

module _ (take : ℕ → ℕ → ℕ) (word : List ℕ) where
  pub read_more : (s i x s' t : ℕ) → i < length word → x ≡ get_or word i 0 → s' ≡ take x s → after take s (drop i word) ≡ t → after take s' (drop (i + 1) word) ≡ t
  unfolding after
  read_more s i x s' t l q r e = rw (add-one, r, q) (rw (drop-cons word i 0) at e)

  pub read_end : (s i t : ℕ) → i ≡ length word → after take s (drop i word) ≡ t → s ≡ t
  unfolding after
  read_end s i t q e = rw (q, drop-length) at e

-- ---- where the table fits

module _ (rows : List ℕ) (count m : ℕ) (fits : table_fits rows count m grade_top ≡ true) where
  size : size_fits rows count m ≡ true
  size = (table_parts rows count m grade_top fits).0

  row : (s : ℕ) → s < count → row_fits rows count m grade_top s ≡ true
  row = all_at (row_fits rows count m grade_top) count (table_parts rows count m grade_top fits).1

  next_below : (s x : ℕ) → s < count → x < m → next_by rows m x s < count
  unfolding next_by
  next_below s x l h = row_next rows count m grade_top s (row s l) x h

  takes_next : (s x : ℕ) → s < count → x < m → reader_takes rows count m x s ≡ next_by rows m x s
  unfolding reader_takes state_after next_by
  takes_next s x l h = rw (← step_next rows count m s x size l h (row s l) (next_at rows m s x) refl)

  -- the reader goes where the walk goes, and stays below the count
  same_way : (word : List ℕ) → Word m word → (s : ℕ) → s < count → (after (reader_takes rows count m) s word ≡ after (next_by rows m) s word) × (after (next_by rows m) s word < count)
  unfolding after
  same_way [] w s l = (refl, l)
  same_way (x ∷ word) w s l = rw (takes_next s x l w.0) (same_way word w.1 (next_by rows m x s) (next_below s x l w.0))

  state_grade : (s : ℕ) → s < count → ◌≡◌ {A = Reply} (0, grade_at rows m s ∷ []) (grade_reply rows count m s)
  state_grade s l = grade_is rows count m s size l (row s l) (grade_at rows m s) refl

-- ---- where grading the word refuses nothing

-- letters below m at every place make a word
word_by : (m : ℕ) (word : List ℕ) → ((i : ℕ) → i < length word → get_or word i 0 < m) → Word m word
word_by m [] f = tt
word_by m (x ∷ word) f = (f 0 (omega arith), word_by m word (λ i h. f (suc i) (omega arith)))

module _ (rows : List ℕ) (count m : ℕ) (word : List ℕ) where
  -- what the tests of `word_reply` said
  passed : (word_reply rows count m word).0 ≡ 0 → (table_fits rows count m grade_top ≡ true) × (leb (length word) (bad_letter word m) ≡ true) × Word m word
  unfolding word_reply bad_letter letter_fits
  passed e =
      let refuses : (n : ℕ) → suc n ≡ 0 → ⊥ = λ n z. omega arith in
      let a = unless_passed (λ (r : Reply). r.0 ≡ 0) (table_fits rows count m grade_top) _ _ (refuses 8) e in
      let b = unless_passed (λ (r : Reply). r.0 ≡ 0) (leb (length word) (bad_letter word m)) _ _ (refuses 7) a.1 in
      (a.0, b.0, word_by m word (λ i h. ltb-true _ _ (least_all (letter_fits word m) (length word) (leb-true _ _ b.0) i h)))

  -- a reader that takes the word's letters one at a time ends in the grade of the word
  pub read_as_graded : (word_reply rows count m word).0 ≡ 0 → grade_reply rows count m (reader_state rows count m word) ≡ word_reply rows count m word
  unfolding reader_state word_reply table_grade state_of
  read_as_graded e =
      let p = passed e in
      let way = same_way rows count m p.0 word p.2 0 (size_parts rows count m (size rows count m p.0)).0 in
      ap (grade_reply rows count m) way.0 ∙ sym (state_grade rows count m p.0 _ way.1) ∙ simp (p.0, p.1)

  -- so `read_word` answers what `grade_word` answers
  pub same_answer : (word_reply rows count m word).0 ≡ 0 → (g h : Result ℕ Refusal) → graded_said g ≡ grade_reply rows count m (reader_state rows count m word) → graded_said h ≡ word_reply rows count m word → g ≡ h
  same_answer e g h p q = graded_one g h (p ∙ read_as_graded e ∙ sym q)
