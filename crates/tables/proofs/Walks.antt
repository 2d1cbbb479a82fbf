-- The walk over a table whose rows fit, and the answer of grading a word.
use Rattle.std.specs.Prelude.{Option, Some, None}
use mathlib.Core.Path.{◌≡◌, sym, ap, ◌∙◌}
use mathlib.Core.Bool.{Bool, true, false}
use mathlib.Core.List.{List, [], ◌∷◌}
use Prim.Native.Nat.{ℕ, ◌+◌, ◌≤◌, ◌<◌}
use native.Mathlib.Numerals.{add-one}
use native.Mathlib.Omega.{arith}
use lib.ListN.{length, get_or, drop}
use lib.Seq.{drop-cons, drop-length}
use borrow.Author.Tests.{le-ltb, lt-ltb, le-leb, lt-leb, ltb-true}
use lib.Dec.{eqb}
use Rattle.paper.specs.Lists.{unless}
use Rattle.paper.specs.Reply.{Reply}
use Rattle.paper.specs.Words.{after}
use Rattle.paper.specs.Tables.{grade_at, next_at, row_fits, table_fits, next_by, state_of, table_grade, letter_fits, bad_letter, word_reply, grade_top, table_reply}
use Rattle.rows.specs.RowIn.{RowIn}
use Rattle.tables.specs.Walking.{Walkable}
use Rattle.places.specs.Search.{place_for}
use Rattle.places.proofs.Search.{answered_at, answered_none, answer_at, answer_none}
use Rattle.std.specs.List.{AllWithin, HoldsAt}
use Rattle.std.specs.Option.{MatchOption}
use Rattle.replies.specs.declared.Refusal.{Refusal}
use Rattle.replies.specs.Replies.{said}
use Rattle.replies.proofs.Said.{said_refuses}
use Rattle.lists.proofs.Tests.{not_both, unless_passed}
use Rattle.rows.proofs.TableTest.{table_parts}
use Rattle.lists.proofs.Tests.{all_at, all_by, least_none, least_is, least_all}
use Rattle.rows.proofs.Rows.{row_in, row_next, size_parts}

-- what checking a table answers
module _ (rows : List ℕ) (count m : ℕ) where
  pub table_refused : table_fits rows count m grade_top ≡ false → ◌≡◌ {A = Reply} (9, []) (table_reply rows count m)
  unfolding table_reply
  table_refused e = simp e

  pub table_accepted : table_fits rows count m grade_top ≡ true → ◌≡◌ {A = Reply} (0, []) (table_reply rows count m)
  unfolding table_reply
  table_accepted e = simp e

  pub passed : ◌≡◌ {A = Reply} (0, []) (table_reply rows count m) → table_fits rows count m grade_top ≡ true
  unfolding table_reply
  passed e =
      let refuses : ◌≡◌ {A = Reply} (0, []) (9, []) → ⊥ = λ h. let z : ◌≡◌ {A = ℕ} 0 9 = ap (λ (r : Reply). r.0) h in omega arith in
      (unless_passed (λ (r : Reply). (0, []) ≡ r) (table_fits rows count m grade_top) _ _ refuses e).0

-- one letter more of the walk
pub walk_more : (rows : List ℕ) (m s : ℕ) (word : List ℕ) (i x s' t : ℕ) → i < length word → x ≡ get_or word i 0 → s' ≡ next_at rows m s x → after (next_by rows m) s (drop i word) ≡ t → after (next_by rows m) s' (drop (i + 1) word) ≡ t
unfolding after next_by
walk_more rows m s word i x s' t l q r e = rw (add-one, r, q) (rw (drop-cons word i 0) at e)

-- the walk is over
pub walk_end : (rows : List ℕ) (m s : ℕ) (word : List ℕ) (i : ℕ) → i ≡ length word → after (next_by rows m) s (drop i word) ≡ after (next_by rows m) 0 word → grade_at rows m s ≡ table_grade rows m word
unfolding table_grade state_of after
walk_end rows m s word i q e = rw (← e, q, drop-length)

-- what a walkable table and word give at a state and a place
module _ (rows : List ℕ) (count m : ℕ) (word : List ℕ) (w : Walkable rows count m word) where
  pub walk_row : (s : ℕ) → s < count → RowIn rows m s
  walk_row s l = row_in rows count m s (table_parts rows count m 16 w.table).0 l

  pub walk_letter : (i : ℕ) → i < length word → get_or word i 0 < m
  unfolding letter_fits
  walk_letter i l = ltb-true _ _ (all_at (letter_fits word m) (length word) w.letters i l)

  pub walk_below : (s i x s' : ℕ) → s < count → i < length word → x ≡ get_or word i 0 → s' ≡ next_at rows m s x → s' < count
  walk_below s i x s' l k q r =
      rw (r, q)
      (row_next rows count m 16 s (all_at (row_fits rows count m 16) count (table_parts rows count m 16 w.table).1 s l) (get_or word i 0) (walk_letter i k))

  pub walk_some : 0 < count
  walk_some = (size_parts rows count m (table_parts rows count m 16 w.table).0).0

-- the first letter that is not one of m, as `position` tells of it
pub bad_by : (word : List ℕ) (m : ℕ) (r : Option ℕ) →
    MatchOption r (AllWithin (λ x. x < m) word 0 (length word)) (λ i. (i < length word) × HoldsAt (λ x. m ≤ x) word i × AllWithin (λ x. x < m) word 0 i) →
    r ≡ place_for (length word) (bad_letter word m)
unfolding bad_letter letter_fits
bad_by word m None all = answered_none _ _ (least_none (letter_fits word m) (length word) (λ i l. lt-ltb _ _ (all i 0 (omega arith) l)))
bad_by word m (Some i) at =
    answered_at _ _ i
    (least_is (letter_fits word m) (length word) i at.0 (λ j l. lt-ltb _ _ (at.2 j 0 (omega arith) l)) (le-ltb _ _ (at.1 0)))
    at.0

-- what grading a word answers, from what checking its table answers
module _ (rows : List ℕ) (count m : ℕ) (word : List ℕ) where
  pub word_table : (why : Refusal) → said why ≡ table_reply rows count m → said why ≡ word_reply rows count m word
  unfolding table_reply word_reply
  word_table why e = go (table_fits rows count m grade_top) _ e
    where
      go : (b : Bool) (rest : Reply) → said why ≡ unless b (9, []) (0, []) → said why ≡ unless b (9, []) rest
      go true rest h = absurd (not_both (ap (λ (r : Reply). eqb r.0 0) h) (said_refuses why))
      go false rest h = h

  module _ (e : table_fits rows count m grade_top ≡ true) {f : Option ℕ} (q : f ≡ place_for (length word) (bad_letter word m)) where
    pub word_letter : {i : ℕ} → f ≡ Some i → ◌≡◌ {A = Reply} (8, i ∷ []) (word_reply rows count m word)
    unfolding word_reply
    word_letter {i} h =
        let p = answer_at (length word) (bad_letter word m) i (sym q ∙ h) in
        simp (word_reply, e, p.1, lt-leb (length word) i (omega arith))

    pub word_walkable : f ≡ None → Walkable rows count m word
    unfolding bad_letter
    word_walkable h = record { table = e; letters = all_by (letter_fits word m) (length word) (least_all (letter_fits word m) (length word) (answer_none (length word) (bad_letter word m) (sym q ∙ h))) }

    pub word_grade : f ≡ None → {g : ℕ} → g ≡ table_grade rows m word → ◌≡◌ {A = Reply} (0, g ∷ []) (word_reply rows count m word)
    unfolding word_reply
    word_grade h k = simp (word_reply, e, le-leb (length word) (bad_letter word m) (answer_none (length word) (bad_letter word m) (sym q ∙ h)), k)
