-- The sheet check refuses no honest sheet: the pairs that words reach, beside a table that grades as the chart does. Assumes nothing.
use mathlib.Core.Path.{◌≡◌, sym, ap₂, ◌∙◌, subst}
use mathlib.Core.Bool.{true}
use mathlib.Core.List.{List, [], ◌++◌}
use Prim.Native.Nat.{ℕ, ◌*◌, ◌≤◌, ◌<◌}
use native.Mathlib.Omega.{arith}
use lib.ListN.{length, get_or, length-append}
use lib.Dec.{leb, ltb}
use borrow.Author.Tests.{eq-eqb, lt-ltb, le-leb}
use Rattle.paper.specs.Lists.{both, all_below, joined}
use Rattle.paper.specs.Words.{Word, after}
use Rattle.paper.specs.Reply.{fine}
use Rattle.paper.specs.Chart.{k_of, n_of, letters, start_vec}
use Rattle.paper.specs.Vectors.{vector_of, end_grade, grade_of}
use Rattle.paper.specs.Tables.{two_bytes, grade_at, state_of, table_grade}
use Rattle.paper.specs.Sheets.{line_size, line_at, line_state, line_vector, line_grade_fits, line_fits, sheet_fits, on_sheet, grade_holds, next_holds, line_holds, bad_line, sheet_reply}
use Rattle.lists.proofs.Tests.{both_true, all_by, least_none}
use Rattle.lists.proofs.ByPlace.{length_joined, part_joined}
use Rattle.numbering.proofs.Words.{with, word_with}
use Rattle.numbering.proofs.TableFits.{Table, state_low, state_with}
use Rattle.numbering.proofs.TableBytes.{two_back}
use Rattle.algebra.specs.Honest.{Right, word_line, Honest}
use Rattle.algebra.proofs.Checked.{Sound, sound}
use Rattle.algebra.proofs.Vectors.{length_vector, vector_with, vector_grades}
use Rattle.algebra.proofs.Tables.{chart_letters, chart_table}
use Rattle.algebra.proofs.SheetSound.{listed_on}

module _ (c rows : List ℕ) (count : ℕ) (right : Right c rows count (letters c)) where
  ok : Sound c
  ok = sound c right.chart

  fits : Table rows count (letters c) (k_of c)
  fits = chart_table c rows count (letters c) right.table

  -- ---- a line read back

  module _ (sheet : List ℕ) (i : ℕ) (u : List ℕ) (w : Word (letters c) u) (e : line_at c sheet i ≡ word_line c rows (letters c) u) where
    state_back : line_state c sheet i ≡ state_of rows (letters c) u
    unfolding line_state word_line two_bytes
    state_back =
        let l = state_low rows count (letters c) (k_of c) fits u w in
        rw e (two_back (state_of rows (letters c) u) (omega (arith, fits.sized.count_high)))

    vector_back : line_vector c sheet i ≡ vector_of c u
    unfolding line_vector word_line two_bytes
    vector_back = rw e

    -- it fits, and its grade holds
    word_fits : line_fits c count sheet i ≡ true
    unfolding line_fits line_grade_fits
    word_fits =
        both_true (ltb (line_state c sheet i) count) (all_below (n_of c) (line_grade_fits c sheet i))
        (lt-ltb (line_state c sheet i) count (rw state_back (state_low rows count (letters c) (k_of c) fits u w)))
        (all_by (line_grade_fits c sheet i) (n_of c) (λ p l. lt-ltb (get_or (line_vector c sheet i) p 0) (k_of c) (rw vector_back (vector_grades c ok u w p l))))

    word_grade : grade_holds c rows sheet i ≡ true
    unfolding grade_holds table_grade grade_of
    word_grade = eq-eqb (grade_at rows (letters c) (line_state c sheet i)) (end_grade c (line_vector c sheet i)) (rw (state_back, vector_back) (right.graded u w))

  -- ---- the stages, passed

  module _ (sheet : List ℕ) (lines : ℕ) (h : Honest c rows (letters c) sheet lines) where
    -- the pair of a word is on the sheet
    reached : (u : List ℕ) → Word (letters c) u → on_sheet c sheet lines (state_of rows (letters c) u) (vector_of c u) ≡ true
    reached u w =
        let l = h.every u w in
        listed_on c sheet lines (state_of rows (letters c) u) (vector_of c u)
        (record { line = l.0; low = l.1.0; state = state_back sheet l.0 u w l.1.1; vector = vector_back sheet l.0 u w l.1.1 })

    sheet_fits_lem : sheet_fits c count sheet lines ≡ true
    unfolding sheet_fits
    sheet_fits_lem =
        both_true (both (leb lines 4096) (leb (lines * line_size c) (length sheet))) (all_below lines (line_fits c count sheet))
        (both_true (leb lines 4096) (leb (lines * line_size c) (length sheet)) (le-leb lines 4096 h.few) (le-leb (lines * line_size c) (length sheet) h.long))
        (all_by (line_fits c count sheet) lines (λ i l. let u = h.each i l in word_fits sheet i u.0 u.1.0 u.1.1))

    start_on : on_sheet c sheet lines 0 (start_vec c) ≡ true
    unfolding state_of vector_of after
    start_on = reached [] tt

    line_next : (i x : ℕ) → i < lines → x < letters c → next_holds c rows sheet lines i x ≡ true
    unfolding next_holds
    line_next i x l hx =
        let u = h.each i l in
        rw (state_back sheet i u.0 u.1.0 u.1.1, vector_back sheet i u.0 u.1.0 u.1.1)
        (rw (state_with rows (letters c) u.0 x, vector_with c u.0 x) at (reached (with x u.0) (word_with (letters c) u.0 x u.1.0 hx)))

    line_holds_lem : (i : ℕ) → i < lines → line_holds c rows sheet lines i ≡ true
    unfolding line_holds
    line_holds_lem i l =
        let u = h.each i l in
        both_true (grade_holds c rows sheet i) (all_below (letters c) (next_holds c rows sheet lines i)) (word_grade sheet i u.0 u.1.0 u.1.1)
        (all_by (next_holds c rows sheet lines i) (letters c) (λ x hx. line_next i x l hx))

    honest_reply : sheet_reply c rows count (letters c) sheet lines ≡ fine []
    unfolding sheet_reply bad_line
    honest_reply =
        rw (right.chart, right.table, sheet_fits_lem, start_on, least_none (line_holds c rows sheet lines) lines line_holds_lem, le-leb lines lines (omega arith))

-- an honest sheet beside a right table is not refused
pub sheet_complete : (c rows : List ℕ) (count m : ℕ) (sheet : List ℕ) (lines : ℕ) → Right c rows count m → Honest c rows m sheet lines →
    sheet_reply c rows count m sheet lines ≡ fine []
sheet_complete c rows count m sheet lines right h =
    subst (λ (m : ℕ). Right c rows count m → Honest c rows m sheet lines → sheet_reply c rows count m sheet lines ≡ fine [])
    (sym (chart_letters c rows count m right.table))
    (λ r h. honest_reply c rows count r sheet lines h) right h

-- ---- laid out as bytes

-- line i of the sheet of listed words
unfoldable pub words_line : List ℕ → List ℕ → ℕ → (ℕ → List ℕ) → ℕ → List ℕ
words_line c rows m word i = word_line c rows m (word i)

-- words whose pairs are all that words reach, their lines one after the other and more behind them, make an honest sheet
pub laid_out : (c rows : List ℕ) (m count : ℕ) (word : ℕ → List ℕ) (more : List ℕ) → count ≤ 4096 → ((i : ℕ) → i < count → Word m (word i)) →
    ((u : List ℕ) → Word m u → (i : ℕ) × ((i < count) × ((state_of rows m (word i) ≡ state_of rows m u) × (vector_of c (word i) ≡ vector_of c u)))) →
    Honest c rows m (joined count (words_line c rows m word) ++ more) count
unfolding line_at words_line word_line two_bytes
laid_out c rows m count word more few words every =
    record {
      few = few;
      long = omega (arith, length-append (joined count line) more, length_joined count (line_size c) line size);
      each = λ i l. (word i, (words i l, part_joined 0 count (line_size c) line more size i l));
      every = λ u w. let f = every u w in
          (f.0, (f.1.0, part_joined 0 count (line_size c) line more size f.0 f.1.0 ∙ ap₂ (λ s v. two_bytes s ++ v) f.1.1.0 f.1.1.1));
    }
  where
    line : ℕ → List ℕ
    line = words_line c rows m word

    size : (i : ℕ) → i < count → length (words_line c rows m word i) ≡ line_size c
    size i l = omega (arith, length_vector c (word i))
