-- When a table's size and one of its rows fit, from the tests that the code makes.
use mathlib.Core.Path.{◌≡◌}
use mathlib.Core.Bool.{Bool, true, false}
use mathlib.Core.List.{List, [], ◌∷◌}
use Rattle.paper.specs.Reply.{Reply}
use Prim.Native.Nat.{ℕ, ◌+◌, ◌*◌, ◌≤◌, ◌<◌}
use native.Mathlib.Omega.{arith}
use lib.ListN.{length}
use lib.Dec.{leb, ltb}
use borrow.Author.Tests.{le-ltb, lt-ltb, ltb-true, leb-true}
use Rattle.paper.specs.Lists.{both, all_below}
use Rattle.paper.specs.Tables.{grade_at, next_at, row_size, next_fits, size_fits, row_fits, step_reply, grade_reply}
use Rattle.rows.specs.RowIn.{RowIn}
use Rattle.lists.proofs.Bound.{row_end}
use Rattle.lists.proofs.Tests.{both_left, both_right, both_false, all_at, all_fails, all_more}

module _ (rows : List ℕ) (count m top s : ℕ) where
  -- the grade is too high
  pub bad_grade : top ≤ grade_at rows m s → false ≡ row_fits rows count m top s
  unfolding row_fits both
  bad_grade h = simp (le-ltb (grade_at rows m s) top h)

  -- a next state is too high
  pub bad_next : (x : ℕ) → x < m → count ≤ next_at rows m s x → false ≡ row_fits rows count m top s
  unfolding row_fits next_fits
  bad_next x l h = simp (all_fails (next_fits rows count m s) m x l (le-ltb (next_at rows m s x) count h), both_false)

  -- one more next state is not
  pub more_next : (x : ℕ) → all_below x (next_fits rows count m s) ≡ true → next_at rows m s x < count → all_below (x + 1) (next_fits rows count m s) ≡ true
  unfolding next_fits
  more_next x e h = all_more (next_fits rows count m s) x e (lt-ltb (next_at rows m s x) count h)

  -- nothing in the row is
  pub good_row : (x : ℕ) → x ≡ m → all_below x (next_fits rows count m s) ≡ true → grade_at rows m s < top → true ≡ row_fits rows count m top s
  unfolding row_fits both
  good_row x q e h = simp (lt-ltb (grade_at rows m s) top h, rw q at e)

-- the size, part by part
pub size_parts : (rows : List ℕ) (count m : ℕ) → size_fits rows count m ≡ true → (1 ≤ count) × (count ≤ 4096) × (1 ≤ m) × (m ≤ 16) × (count * row_size m ≤ length rows)
unfolding size_fits
size_parts rows count m e =
    let counts : Bool = both (leb 1 count) (leb count 4096) in
    let letters : Bool = both (leb 1 m) (leb m 16) in
    let bytes : Bool = leb (count * row_size m) (length rows) in
    let a : counts ≡ true = both_left counts (both letters bytes) e in
    let b : both letters bytes ≡ true = both_right counts (both letters bytes) e in
    let d : letters ≡ true = both_left letters bytes b in (
      leb-true 1 count (both_left (leb 1 count) (leb count 4096) a),
      leb-true count 4096 (both_right (leb 1 count) (leb count 4096) a),
      leb-true 1 m (both_left (leb 1 m) (leb m 16) d),
      leb-true m 16 (both_right (leb 1 m) (leb m 16) d),
      leb-true _ _ (both_right letters bytes b),
    )

-- a state of a table whose size fits has its row inside the bytes
pub row_in : (rows : List ℕ) (count m s : ℕ) → size_fits rows count m ≡ true → s < count → RowIn rows m s
row_in rows count m s e h =
    let p = size_parts rows count m e in
    record { few = p.3; inside = omega (arith, row_end (row_size m) h) }

-- what a step answers, case by case
module _ (rows : List ℕ) (count m s x : ℕ) where
  pub step_size : size_fits rows count m ≡ false → ◌≡◌ {A = Reply} (9, []) (step_reply rows count m s x)
  unfolding step_reply
  step_size e = simp (step_reply, e)

  module _ (e : size_fits rows count m ≡ true) where
    pub step_state : count ≤ s → ◌≡◌ {A = Reply} (9, []) (step_reply rows count m s x)
    unfolding step_reply
    step_state h = simp (step_reply, e, le-ltb s count h)

    module _ (l : s < count) where
      pub step_letter : m ≤ x → ◌≡◌ {A = Reply} (8, 0 ∷ []) (step_reply rows count m s x)
      unfolding step_reply
      step_letter h = simp (step_reply, e, lt-ltb s count l, le-ltb x m h)

      pub step_row : x < m → row_fits rows count m 16 s ≡ false → ◌≡◌ {A = Reply} (9, []) (step_reply rows count m s x)
      unfolding step_reply
      step_row h f = simp (step_reply, e, lt-ltb s count l, lt-ltb x m h, f)

      pub step_next : x < m → row_fits rows count m 16 s ≡ true → (r : ℕ) → r ≡ next_at rows m s x → ◌≡◌ {A = Reply} (0, r ∷ []) (step_reply rows count m s x)
      unfolding step_reply
      step_next h f r q = simp (step_reply, e, lt-ltb s count l, lt-ltb x m h, f, q)

-- what asking for a grade answers, case by case
module _ (rows : List ℕ) (count m s : ℕ) where
  pub grade_size : size_fits rows count m ≡ false → ◌≡◌ {A = Reply} (9, []) (grade_reply rows count m s)
  unfolding grade_reply
  grade_size e = simp (grade_reply, e)

  module _ (e : size_fits rows count m ≡ true) where
    pub grade_state : count ≤ s → ◌≡◌ {A = Reply} (9, []) (grade_reply rows count m s)
    unfolding grade_reply
    grade_state h = simp (grade_reply, e, le-ltb s count h)

    pub grade_row : s < count → row_fits rows count m 16 s ≡ false → ◌≡◌ {A = Reply} (9, []) (grade_reply rows count m s)
    unfolding grade_reply
    grade_row l f = simp (grade_reply, e, lt-ltb s count l, f)

    pub grade_is : s < count → row_fits rows count m 16 s ≡ true → (r : ℕ) → r ≡ grade_at rows m s → ◌≡◌ {A = Reply} (0, r ∷ []) (grade_reply rows count m s)
    unfolding grade_reply
    grade_is l f r q = simp (grade_reply, e, lt-ltb s count l, f, q)

-- what a row that fits says of its grade and its next states
module _ (rows : List ℕ) (count m top s : ℕ) (fits : row_fits rows count m top s ≡ true) where
  pub row_grade_lem : grade_at rows m s < top
  unfolding row_fits
  row_grade_lem = ltb-true _ _ (both_left _ (all_below m (next_fits rows count m s)) fits)

  pub row_next : (x : ℕ) → x < m → next_at rows m s x < count
  unfolding row_fits next_fits
  row_next x h = ltb-true _ _ (all_at (next_fits rows count m s) m (both_right (ltb (grade_at rows m s) top) _ fits) x h)
