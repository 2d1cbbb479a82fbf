-- The chart check's reply, test by test, and what a chart that is not refused satisfies. Assumes nothing.
use Rattle.std.specs.Prelude.{Result, Ok, Err}
use mathlib.Core.Path.{◌≡◌, sym, ap, ◌∙◌}
use mathlib.Core.Bool.{Bool, true, false}
use mathlib.Core.List.{List, [], ◌∷◌}
use Prim.Native.Nat.{ℕ, ◌+◌, ◌-◌, ◌≤◌, ◌<◌}
use native.Mathlib.Omega.{arith}
use lib.ListN.{length, get_or}
use lib.Dec.{eqb, leb}
use borrow.Author.Tests.{le-leb, lt-leb, leb-true, ltb-true, eq-eqb, ne_eqb}
use Rattle.replies.specs.declared.Shape.{Shape}
use Rattle.replies.specs.declared.Refusal.{Refusal}
use Rattle.paper.specs.Lists.{unless}
use Rattle.paper.specs.Reply.{Reply, fine}
use Rattle.replies.specs.Replies.{shape_said, checked_said}
use Rattle.paper.specs.Chart.{head_size, k_of, e_of, n_of, m_of, letters, chart_size}
use Rattle.paper.specs.Check.{sizes_fit, head_fits, grade_fits, grades_fit, broken_law, broken_at, shape_of, check_reply, chart_fits}
use Rattle.replies.proofs.Said.{said_refuses}
use Rattle.lists.proofs.Tests.{all_at, unless_passed}
use Rattle.laws.specs.Laws.{FirstBroken}
use Rattle.cells.specs.Shaped.{Shaped}
use Rattle.chart.proofs.Ranges.{sizes_are}

-- ---- the head as numbers

pub record Head (c : List ℕ) (k e n m : ℕ) : Type 0 where
  pub k_is : k ≡ k_of c
  pub e_is : e ≡ e_of c
  pub n_is : n ≡ n_of c
  pub m_is : m ≡ m_of c

-- ---- what the tests that a chart passed tell, each record with the one before

pub record Headed (c : List ℕ) : Type 0 where
  pub long : head_size ≤ length c
  pub heads : head_fits c ≡ true

pub record Laid (c : List ℕ) (s : Shape) : Type 0 where
  pub headed : Headed c
  pub shape : shape_said s ≡ shape_of c
  pub fits : chart_size c ≤ length c

pub record Graded (c : List ℕ) (s : Shape) : Type 0 where
  pub laid : Laid c s
  pub grades : grades_fit c ≡ true

pub size_is : (c : List ℕ) (s : Shape) → shape_said s ≡ shape_of c → s.size ≡ chart_size c
unfolding shape_of letters
size_is c s e = ap (λ l. get_or l 10 0) e

module _ {c : List ℕ} {k e n m : ℕ} (h : Head c k e n m) where
  pub head_fits_is : {t : Bool} → t ≡ sizes_fit k e n m → head_fits c ≡ t
  unfolding head_fits
  head_fits_is f = rw (← h.k_is, ← h.e_is, ← h.n_is, ← h.m_is) (sym f)

  pub headed : head_size ≤ length c → true ≡ sizes_fit k e n m → Headed c
  headed long f = record { long = long; heads = head_fits_is f }

  -- the shape depends on the head alone
  pub head_shape : (s : Shape) → shape_said s ≡ shape_of (k ∷ e ∷ n ∷ m ∷ []) → shape_said s ≡ shape_of c
  unfolding shape_of letters
  head_shape s e = e ∙ rw (h.k_is, h.e_is, h.n_is, h.m_is)

  pub laid : (s : Shape) → Headed c → shape_said s ≡ shape_of (k ∷ e ∷ n ∷ m ∷ []) → s.size ≤ length c → Laid c s
  laid s t e fits = let q = head_shape s e in record { headed = t; shape = q; fits = omega (arith, size_is c s q) }

-- ---- the reply, test by test

pub reply_head : (c : List ℕ) → length c < head_size → checked_said (Err Refusal.Short) ≡ check_reply c
unfolding check_reply
reply_head c h = rw (lt-leb head_size (length c) h)

pub reply_sizes : (c : List ℕ) → head_size ≤ length c → head_fits c ≡ false → checked_said (Err Refusal.Sizes) ≡ check_reply c
unfolding check_reply
reply_sizes c long f = rw (le-leb head_size (length c) long, f)

pub reply_short : {c : List ℕ} → Headed c → length c < chart_size c → checked_said (Err Refusal.Short) ≡ check_reply c
unfolding check_reply
reply_short {c} t h = rw (le-leb head_size (length c) t.long, t.heads, lt-leb (chart_size c) (length c) h)

-- past the length test
behind_length : {c : List ℕ} {s : Shape} → Laid c s → check_reply c
    ≡ unless (grades_fit c) (3, []) (unless (eqb (broken_law c) 8) (4, broken_at c (broken_law c)) (fine (shape_of c)))
unfolding check_reply
behind_length {c} t =
    rw (le-leb head_size (length c) t.headed.long, t.headed.heads, le-leb (chart_size c) (length c) t.fits)

pub reply_grade : {c : List ℕ} {s : Shape} → Laid c s → grades_fit c ≡ false → checked_said (Err Refusal.Grade) ≡ check_reply c
reply_grade t f = rw (behind_length t, f)

module _ {c : List ℕ} {s : Shape} (t : Graded c s) where
  pub reply_law : (why : Refusal) → FirstBroken c (Err why) → checked_said (Err why) ≡ check_reply c
  reply_law why f = rw (behind_length t.laid, t.grades, ne_eqb (broken_law c) 8 (λ e. omega (arith, f.0)), f.1)

  pub reply_fine : FirstBroken c (Ok tt) → checked_said (Ok s) ≡ check_reply c
  reply_fine f = rw (behind_length t.laid, t.grades, eq-eqb (broken_law c) 8 f, t.laid.shape)

-- what the inner functions require, from the tests
pub shaped_by : {c : List ℕ} {s : Shape} → Graded c s → Shaped c s
unfolding head_fits grades_fit grade_fits shape_of letters
shaped_by {c} {s} t =
    let field : (i : ℕ) → get_or (shape_said s) i 0 ≡ get_or (shape_of c) i 0 = λ i. ap (λ l. get_or l i 0) t.laid.shape in
    let h = sizes_are (k_of c) (e_of c) (n_of c) (m_of c) t.laid.headed.heads in
    record {
      k_is = field 0;
      e_is = field 1;
      n_is = field 2;
      m_is = field 3;
      letters_is = field 4;
      join_is = field 5;
      prod_is = field 6;
      start_is = field 7;
      end_is = field 8;
      matrix_is = field 9;
      size_is = field 10;
      sizes = rw (field 0, field 1, field 2, field 3) h;
      letters_low = rw (field 4) h.m_low;
      letters_high = rw (field 4) h.m_high;
      fits = rw (field 10) t.laid.fits;
      graded = λ i behind below.
          let there : head_size + (i - head_size) ≡ i = omega arith in
          let passed = all_at (grade_fits c) (chart_size c - head_size) t.grades (i - head_size) (omega (arith, field 10)) in
          let low = ltb-true (get_or c (head_size + (i - head_size)) 0) (k_of c) passed in
          rw (field 0) (rw there at low);
    }

-- a success is no refusal
not_fine : {values more : List ℕ} {n : ℕ} → 0 < n → fine values ≡ (n, more) → ⊥
not_fine h e = let zero_is = ap (λ (r : Reply). r.0) e in omega arith

-- ---- from the check's answer r, as a caller has it

module _ (c : List ℕ) {r : Result Shape Refusal} (reply : checked_said r ≡ check_reply c) where
  -- what the inner functions require
  pub shaped : {s : Shape} → r ≡ Ok s → Shaped c s
  unfolding check_reply
  shaped {s} e =
      let Is : Reply → Type 0 = λ r. fine (shape_said s) ≡ r in
      let long = unless_passed Is (leb head_size (length c)) _ _ (not_fine (omega arith)) (ap checked_said (sym e) ∙ reply) in
      let heads = unless_passed Is (head_fits c) _ _ (not_fine (omega arith)) long.1 in
      let fits = unless_passed Is (leb (chart_size c) (length c)) _ _ (not_fine (omega arith)) heads.1 in
      let grades = unless_passed Is (grades_fit c) _ _ (not_fine (omega arith)) fits.1 in
      let laws = unless_passed Is (eqb (broken_law c) 8) _ _ (not_fine (omega arith)) grades.1 in
      shaped_by
      (record {
        laid =
            record {
              headed = record { long = leb-true head_size (length c) long.0; heads = heads.0 };
              shape = ap (λ (r : Reply). r.1) laws.1;
              fits = leb-true (chart_size c) (length c) fits.0;
            };
        grades = grades.0;
      })

  -- whether the chart is refused
  pub fits_fine : {s : Shape} → r ≡ Ok s → chart_fits c ≡ true
  unfolding chart_fits
  fits_fine e = ap (λ (r : Reply). eqb r.0 0) (sym reply ∙ ap checked_said e)

  pub fits_refused : {why : Refusal} → r ≡ Err why → chart_fits c ≡ false
  unfolding chart_fits
  fits_refused {why} e = ap (λ (r : Reply). eqb r.0 0) (sym reply ∙ ap checked_said e) ∙ said_refuses why
