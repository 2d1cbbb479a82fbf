-- Printing a table beside its chart: the first line, the rows, the cap, and the answer. Assumes nothing.
use mathlib.Core.Path.{◌≡◌, sym, ap, ◌∙◌}
use mathlib.Core.Bool.{true, false}
use mathlib.Core.List.{List, [], ◌∷◌, ◌++◌, append_assoc}
use Prim.Native.Nat.{ℕ, ◌+◌, ◌-◌, ◌*◌, ◌/◌, ◌%◌, ◌≤◌}
use native.Mathlib.Omega.{arith}
use lib.Dec.{leb}
use lib.ListN.{length, length-append, length-take, length-drop}
use borrow.Author.Tests.{leb-true}
use borrow.Rule.Slice.PartMut.{mid_of, put_mid}
use Rattle.std.specs.Prelude.{Ok, Err}
use Rattle.replies.specs.declared.Refusal.{Refusal}
use Rattle.paper.specs.Lists.{joined, in_front}
use Rattle.replies.specs.Replies.{said}
use Rattle.paper.specs.Tables.{two_bytes, row_size, table_fits_chart, cap_of}
use Rattle.pages.specs.Frames.{frame, line_length}
use Rattle.pages.specs.Texts.{Filled, printed, row_line, table_text, table_text_size, print_table}
use Rattle.chart.specs.Opened.{Opened}
use Rattle.rows.proofs.Rows.{size_parts}
use Rattle.card.proofs.Caps.{size_beside}
use Rattle.row_lines.specs.RowsIn.{RowsIn}
use Rattle.printing.specs.Printing.{TableIn, TablePut}
use Rattle.lists.proofs.Front.{front_more}
use Rattle.frames.proofs.FrameWritten.{length_frame}
use Rattle.row_lines.proofs.RowLines.{length_rows}

-- ---- the text

-- the first line and those of the rows
unfoldable pub rows_text : List ℕ → ℕ → ℕ → List ℕ
rows_text rows count m = frame 0x11 (count / 256 % 256 ∷ count % 256 ∷ m ∷ []) ++ joined count (row_line rows m)

module _ {c rows : List ℕ} {count m : ℕ} {old : List ℕ} (h : TableIn c rows count m old) where
  parts : (1 ≤ count) × (count ≤ 4096) × (1 ≤ m) × (m ≤ 16) × (count * row_size m ≤ length rows)
  parts = size_parts rows count m (size_beside h.beside)

  pub few : m ≤ 16
  few = parts.3

  -- a row's line is as long as document 01 says
  line_is : count * line_length (row_size m) ≡ count * (9 + 4 * m)
  line_is = let e : line_length (row_size m) ≡ 9 + 4 * m = omega arith in ap (λ (l : ℕ). count * l) e

  -- behind the first line there is room for the rows
  pub rows_in : (buf : List ℕ) → length buf ≡ length old → RowsIn rows count m (mid_of 13 (length buf - 13) buf)
  rows_in buf e =
      record { few = few; inside = parts.4; room = simp (length-take, length-drop) (omega (arith, line_is, h.room)) }

  length_text : length (rows_text rows count m) ≡ 13 + count * (9 + 4 * m)
  unfolding rows_text
  length_text =
      length-append (frame 0x11 (count / 256 % 256 ∷ count % 256 ∷ m ∷ [])) (joined count (row_line rows m))
      ∙ omega (arith, length_frame 0x11 (count / 256 % 256 ∷ count % 256 ∷ m ∷ []), length_rows rows count m parts.4 count (omega arith), line_is)

  -- the rows behind the first line
  pub rows_put : (buf lent : List ℕ) → buf ≡ in_front (frame 0x11 (count / 256 % 256 ∷ count % 256 ∷ m ∷ [])) old → lent ≡ in_front (joined count (row_line rows m)) (mid_of 13 (length buf - 13) buf) → put_mid 13 (length buf - 13) buf lent ≡ in_front (rows_text rows count m) old
  unfolding rows_text
  rows_put buf lent e p =
      front_more (frame 0x11 (count / 256 % 256 ∷ count % 256 ∷ m ∷ [])) (joined count (row_line rows m)) old buf lent 13
      (sym (length_frame 0x11 (count / 256 % 256 ∷ count % 256 ∷ m ∷ [])))
      e
      p

  whole : (cap : ℕ) → cap ≡ cap_of c rows count m → table_text c rows count m ≡ rows_text rows count m ++ frame 0x13 (cap ∷ [])
  unfolding table_text two_bytes rows_text
  whole cap e = rw (e, append_assoc)

  -- the cap behind them
  pub table_put : (buf lent : List ℕ) (cap : ℕ) → buf ≡ in_front (rows_text rows count m) old → cap ≡ cap_of c rows count m → lent ≡ in_front (frame 0x13 (cap ∷ [])) (mid_of (13 + count * (9 + 4 * m)) (length buf - (13 + count * (9 + 4 * m))) buf) → TablePut (table_text c rows count m) old (put_mid (13 + count * (9 + 4 * m)) (length buf - (13 + count * (9 + 4 * m))) buf lent) (13 + count * (9 + 4 * m) + 9)
  table_put buf lent cap e cap_is p =
      record {
        size_is = rw (whole cap cap_is, length-append, length_text, length_frame);
        front = rw (whole cap cap_is) (front_more (rows_text rows count m) (frame 0x13 (cap ∷ [])) old buf lent (13 + count * (9 + 4 * m)) (sym length_text) e p);
      }

-- ---- the answer, where the chart was opened
module _ (c rows : List ℕ) (count m : ℕ) (old : List ℕ) where
  pub print_refused : (why : Refusal) → Opened c (Err why) → ◌≡◌ {A = Filled} (record { reply = said why; buffer = old }) (print_table c rows count m old)
  unfolding print_table
  print_refused why e = rw (e.0, ← e.1)

  module _ {v : List ℕ} (e : Opened c (Ok v)) where
    pub print_room : leb (table_text_size count m) (length old) ≡ false → ◌≡◌ {A = Filled} (record { reply = (5, []); buffer = old }) (print_table c rows count m old)
    unfolding print_table
    print_room f = rw (e.0, f)

    module _ (room : leb (table_text_size count m) (length old) ≡ true) where
      pub print_bad : table_fits_chart v rows count m ≡ false → ◌≡◌ {A = Filled} (record { reply = (9, []); buffer = old }) (print_table c rows count m old)
      unfolding print_table
      print_bad f = rw (e.0, room, ← e.1, f)

      module _ (f : table_fits_chart v rows count m ≡ true) where
        pub table_in : TableIn v rows count m old
        table_in = record { beside = record { fits = f }; room = leb-true (table_text_size count m) (length old) room }

        pub print_done : (size : ℕ) (new : List ℕ) → TablePut (table_text v rows count m) old new size → ◌≡◌ {A = Filled} (record { reply = (0, size ∷ []); buffer = new }) (print_table c rows count m old)
        unfolding print_table printed
        print_done size new p = rw (e.0, room, ← e.1, f, p.size_is, p.front)
