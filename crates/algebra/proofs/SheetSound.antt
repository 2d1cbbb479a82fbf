-- The sheet check accepts only tables that grade every word as the chart does. Assumes nothing.
use mathlib.Core.Path.{◌≡◌}
use mathlib.Core.Bool.{true}
use mathlib.Core.List.{List, [], ◌∷◌}
use Prim.Native.Nat.{ℕ, ◌<◌}
use native.Mathlib.Omega.{arith}
use lib.Dec.{eqb, leb}
use borrow.Author.Tests.{eqb-true, leb-true, eq-eqb, not-true, not-false}
use Rattle.paper.specs.Lists.{both, all_below, least_fail, same_list}
use Rattle.paper.specs.Words.{Word, after}
use Rattle.paper.specs.Reply.{Reply}
use Rattle.paper.specs.Chart.{letters, start_vec}
use Rattle.paper.specs.Check.{chart_fits}
use Rattle.paper.specs.Vectors.{row_times, vector_of, end_grade, grade_of}
use Rattle.paper.specs.Tables.{grade_at, next_at, table_fits_chart, next_by, state_of, table_grade}
use Rattle.paper.specs.Sheets.{line_state, line_vector, sheet_fits, other_pair, on_sheet, grade_holds, next_holds, line_holds, bad_line, line_reply, sheet_reply}
use Rattle.lists.proofs.Tests.{both_left, both_right, both_true, unless_passed, all_at, all_fails, least_all}
use Rattle.lists.proofs.ByPlace.{same_true, same_by}
use Rattle.algebra.proofs.ListLaws.{first_fail}
use Rattle.algebra.proofs.Checked.{check_passed}
use Rattle.algebra.proofs.Tables.{chart_letters}

-- ---- pairs on the sheet

-- some line is the pair of s and v
pub record Listed (c sheet : List ℕ) (lines s : ℕ) (v : List ℕ) : Type 0 where
  pub line : ℕ
  pub low : line < lines
  pub state : line_state c sheet line ≡ s
  pub vector : line_vector c sheet line ≡ v

module _ (c sheet : List ℕ) (lines s : ℕ) (v : List ℕ) where
  pub listed : on_sheet c sheet lines s v ≡ true → Listed c sheet lines s v
  unfolding on_sheet other_pair
  listed e =
      let f = first_fail lines (other_pair c sheet s v) (not-true (all_below lines (other_pair c sheet s v)) e) in
      let i = least_fail lines (other_pair c sheet s v) in
      let t = not-false (both (eqb (line_state c sheet i) s) (same_list (line_vector c sheet i) v)) f.fails in
      record {
        line = i;
        low = f.low;
        state = eqb-true (line_state c sheet i) s (both_left (eqb (line_state c sheet i) s) (same_list (line_vector c sheet i) v) t);
        vector = same_true (line_vector c sheet i) v (both_right (eqb (line_state c sheet i) s) (same_list (line_vector c sheet i) v) t);
      }

  pub listed_on : Listed c sheet lines s v → on_sheet c sheet lines s v ≡ true
  unfolding on_sheet other_pair
  listed_on l =
      let i = l.line in
      let is = both_true (eqb (line_state c sheet i) s) (same_list (line_vector c sheet i) v) (eq-eqb (line_state c sheet i) s l.state) (same_by (line_vector c sheet i) v l.vector) in
      rw (all_fails (other_pair c sheet s v) lines i l.low (rw is))

-- ---- an accepted sheet

pub record Accepted (c rows : List ℕ) (count m : ℕ) (sheet : List ℕ) (lines : ℕ) : Type 0 where
  pub chart : chart_fits c ≡ true
  pub table : table_fits_chart c rows count m ≡ true
  pub fits : sheet_fits c count sheet lines ≡ true
  pub start : on_sheet c sheet lines 0 (start_vec c) ≡ true
  pub holds : (i : ℕ) → i < lines → line_holds c rows sheet lines i ≡ true

module _ (c rows : List ℕ) (count m : ℕ) (sheet : List ℕ) (lines : ℕ) where
  -- a line that fails is a refusal
  line_refused : (i : ℕ) → (line_reply c rows sheet lines i).0 ≡ 0 → ⊥
  unfolding line_reply
  line_refused i e = omega (arith, (unless_passed (λ (r : Reply). r.0 ≡ 0) (grade_holds c rows sheet i) _ _ (omega arith) e).1)

  pub accepted : (sheet_reply c rows count m sheet lines).0 ≡ 0 → Accepted c rows count m sheet lines
  unfolding sheet_reply bad_line
  accepted e =
      let number : Reply → Type 0 = λ r. r.0 ≡ 0 in
      let chart = check_passed c _ e in
      let table = unless_passed number (table_fits_chart c rows count m) _ _ (omega arith) chart.1 in
      let fits = unless_passed number (sheet_fits c count sheet lines) _ _ (omega arith) table.1 in
      let start = unless_passed number (on_sheet c sheet lines 0 (start_vec c)) _ _ (omega arith) fits.1 in
      let none = unless_passed number (leb lines (bad_line c rows sheet lines)) _ _ (line_refused (bad_line c rows sheet lines)) start.1 in
      record {
        chart = chart.0;
        table = table.0;
        fits = fits.0;
        start = start.0;
        holds = least_all (line_holds c rows sheet lines) lines (leb-true lines (bad_line c rows sheet lines) none.0);
      }

-- ---- table and chart go on alike from a pair on the sheet

module _ (c rows sheet : List ℕ) (lines : ℕ) (holds : (i : ℕ) → i < lines → line_holds c rows sheet lines i ≡ true) where
  pair_grade : (s : ℕ) (v : List ℕ) → Listed c sheet lines s v → grade_at rows (letters c) s ≡ end_grade c v
  unfolding line_holds grade_holds
  pair_grade s v l =
      rw (l.state, l.vector) at
      (eqb-true (grade_at rows (letters c) (line_state c sheet l.line)) (end_grade c (line_vector c sheet l.line))
      (both_left (grade_holds c rows sheet l.line) (all_below (letters c) (next_holds c rows sheet lines l.line)) (holds l.line l.low)))

  pair_next : (x s : ℕ) (v : List ℕ) → x < letters c → Listed c sheet lines s v → Listed c sheet lines (next_at rows (letters c) s x) (row_times c x v)
  unfolding line_holds next_holds
  pair_next x s v hx l =
      listed c sheet lines (next_at rows (letters c) s x) (row_times c x v)
      (rw (l.state, l.vector) at
      (all_at (next_holds c rows sheet lines l.line) (letters c)
      (both_right (grade_holds c rows sheet l.line) (all_below (letters c) (next_holds c rows sheet lines l.line)) (holds l.line l.low)) x hx))

  alike : (u : List ℕ) → Word (letters c) u → (s : ℕ) (v : List ℕ) → Listed c sheet lines s v →
      grade_at rows (letters c) (after (next_by rows (letters c)) s u) ≡ end_grade c (after (row_times c) v u)
  unfolding after next_by
  alike [] w s v l = pair_grade s v l
  alike (x ∷ u) w s v l = alike u w.1 (next_at rows (letters c) s x) (row_times c x v) (pair_next x s v w.0 l)

-- ---- sound

module _ (c rows : List ℕ) (count m : ℕ) (sheet : List ℕ) (lines : ℕ) where
  -- a table beside whose sheet nothing is refused grades every word as the chart does
  pub sheet_sound : (sheet_reply c rows count m sheet lines).0 ≡ 0 → (u : List ℕ) → Word m u → table_grade rows m u ≡ grade_of c u
  unfolding table_grade state_of grade_of vector_of
  sheet_sound e u w =
      let a = accepted c rows count m sheet lines e in
      let same = chart_letters c rows count m a.table in
      rw same (alike c rows sheet lines a.holds u (rw same at w) 0 (start_vec c) (listed c sheet lines 0 (start_vec c) a.start))

  -- a table that grades one word otherwise has no sheet beside which nothing is refused
  pub sheet_refuses : (u : List ℕ) → Word m u → (table_grade rows m u ≡ grade_of c u → ⊥) → (sheet_reply c rows count m sheet lines).0 ≡ 0 → ⊥
  sheet_refuses u w differ e = differ (sheet_sound e u w)
