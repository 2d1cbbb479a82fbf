-- What the sheet check answers, return by return. Assumes nothing.
use Rattle.std.specs.Prelude.{Ok, Err}
use mathlib.Core.Path.{◌≡◌}
use mathlib.Core.Bool.{true, false}
use mathlib.Core.List.{List, []}
use Prim.Native.Nat.{ℕ, ◌*◌, ◌<◌}
use native.Mathlib.Omega.{arith}
use lib.Dec.{eqb, leb, ltb}
use lib.ListN.{length, get_or}
use borrow.Author.Tests.{ltb-true, eqb-true}
use Rattle.replies.specs.declared.Refusal.{Refusal}
use Rattle.paper.specs.Lists.{both, all_below}
use Rattle.paper.specs.Reply.{Reply}
use Rattle.replies.specs.Replies.{said}
use Rattle.paper.specs.Chart.{k_of, n_of, letters, start_vec}
use Rattle.paper.specs.Tables.{table_fits, table_fits_chart}
use Rattle.paper.specs.Sheets.{line_size, line_state, line_vector, line_grade_fits, line_fits, sheet_fits, sheet_reply}
use Rattle.lists.proofs.Tests.{both_split, both_left, all_at}
use Rattle.chart.specs.Opened.{Opened}
use Rattle.card.proofs.Caps.{row_beside}
use Rattle.lines.specs.declared.sheet.Sheet.{Sheet}
use Rattle.lines.specs.Held.{pair_held, lines_answer, pairs_answer}
use Rattle.lines.specs.Readable.{LinesIn, Readable, lines_reply, pairs_reply}
use Rattle.lines.proofs.Reading.{bytes_in, length_vector, line_in}

-- ---- what the tests that a sheet passed tell

module _ (c rows : List ℕ) (count m : ℕ) (sheet : List ℕ) (lines : ℕ) (byte : (j : ℕ) → get_or sheet j 0 < 256) (fits : table_fits_chart c rows count m ≡ true) (e : sheet_fits c count sheet lines ≡ true) where
  sheet_parts : LinesIn c sheet lines × ((i : ℕ) → i < lines → line_fits c count sheet i ≡ true)
  unfolding sheet_fits
  sheet_parts =
      let a = both_split (both (leb lines 4096) (leb (lines * line_size c) (length sheet))) (all_below lines (line_fits c count sheet)) e in
      (bytes_in c sheet lines a.0, all_at (line_fits c count sheet) lines a.1)

  line_parts : (i : ℕ) → i < lines → (line_state c sheet i < count) × (all_below (n_of c) (line_grade_fits c sheet i) ≡ true)
  unfolding line_fits
  line_parts i l =
      let f = both_split (ltb (line_state c sheet i) count) (all_below (n_of c) (line_grade_fits c sheet i)) (sheet_parts.1 i l) in
      (ltb-true (line_state c sheet i) count f.0, f.1)

  letters_are : m ≡ letters c
  unfolding table_fits_chart
  letters_are = eqb-true m (letters c) (both_left (eqb m (letters c)) (table_fits rows count m (k_of c)) fits)

  pub readable : Readable c rows sheet lines
  unfolding line_grade_fits
  readable =
      record {
        lines_in = sheet_parts.0;
        byte = byte;
        row = λ i l. rw (← letters_are) (row_beside (record { fits = fits }) (line_parts i l).0);
        vector = λ i l. record {
          long = omega (arith, length_vector (line_in sheet_parts.0 l));
          low = λ p b. ltb-true (get_or (line_vector c sheet i) p 0) (k_of c) (all_at (line_grade_fits c sheet i) (n_of c) (line_parts i l).1 p b);
        };
      }

-- ---- the lines

module _ (s : Sheet) where
  pub start_wrong : pair_held s 0 (start_vec s.chart.now) ≡ false → ◌≡◌ {A = Reply} (11, []) (pairs_answer s)
  unfolding pairs_reply
  start_wrong o = rw o

  pub start_right : pair_held s 0 (start_vec s.chart.now) ≡ true → {r : Reply} → r ≡ lines_answer s → r ≡ pairs_answer s
  unfolding pairs_reply
  start_right o q = rw o q

-- ---- the sheet, where the chart was opened

module _ (c rows : List ℕ) (count m : ℕ) (sheet : List ℕ) (lines : ℕ) where
  pub chart_refused : (why : Refusal) → Opened c (Err why) → said why ≡ sheet_reply c rows count m sheet lines
  unfolding sheet_reply
  chart_refused why e = rw (e.0, ← e.1)

  module _ {v : List ℕ} (e : Opened c (Ok v)) where
    pub table_refused : table_fits_chart v rows count m ≡ false → ◌≡◌ {A = Reply} (9, []) (sheet_reply c rows count m sheet lines)
    unfolding sheet_reply
    table_refused f = rw (e.0, ← e.1, f)

    module _ (t : table_fits_chart v rows count m ≡ true) where
      pub sheet_refused : sheet_fits v count sheet lines ≡ false → ◌≡◌ {A = Reply} (10, []) (sheet_reply c rows count m sheet lines)
      unfolding sheet_reply
      sheet_refused f = rw (e.0, ← e.1, t, f)

      pub pairs_said : sheet_fits v count sheet lines ≡ true → {r : Reply} → r ≡ pairs_reply v rows sheet lines → r ≡ sheet_reply c rows count m sheet lines
      unfolding sheet_reply pairs_reply lines_reply
      pairs_said f q = rw (e.0, ← e.1, t, f) q
