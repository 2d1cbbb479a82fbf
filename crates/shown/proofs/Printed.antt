-- Texts printed into the answer's buffer: a refusal's line, a table's text, and which of them is due. Assumes nothing.
use mathlib.Core.Path.{◌≡◌, refl, ap}
use mathlib.Core.List.{List, [], ◌∷◌}
use Prim.Native.Nat.{ℕ, ◌+◌, ◌*◌, ◌≤◌}
use native.Mathlib.Nat.{le_refl}
use native.Mathlib.Omega.{arith}
use lib.ListN.{length, get_or, length-append}
use lib.Dec.{eqb}
use borrow.Author.Tests.{le-leb}
use Rattle.replies.specs.declared.Refusal.{Refusal}
use Rattle.replies.specs.declared.Shape.{Shape}
use Rattle.std.specs.Prelude.{Result, Ok, Err, IsOk}
use Rattle.paper.specs.Reply.{fine}
use Rattle.replies.specs.Replies.{said, checked_said, built_said, written_said}
use Rattle.paper.specs.Chart.{letters}
use Rattle.paper.specs.Check.{check_reply}
use Rattle.paper.specs.Tables.{two_bytes, row_size, table_fits, table_fits_chart}
use Rattle.pages.specs.Frames.{line_length}
use Rattle.pages.specs.Texts.{Filled, printed, refusal_text, print_refusal, table_text, table_text_size, print_table}
use Rattle.pages.specs.Programs.{or_refusal, built_text}
use Rattle.replies.proofs.Said.{said_refuses}
use Rattle.lists.proofs.Bound.{product}
use Rattle.lists.proofs.Tests.{not_both, both_left, both_right}
use Rattle.frames.proofs.FrameWritten.{length_frame}
use Rattle.rows.proofs.Rows.{size_parts}
use Rattle.chart.proofs.Checked.{fits_refused}
use Rattle.row_lines.proofs.RowLines.{length_rows}
use Rattle.shown.specs.Answered.{Answered, answer_most}
use Rattle.shown.specs.Shown.{Shown, Sound}

-- ---- a text that the printer put into a buffer

module _ (text old : List ℕ) {new : List ℕ} where
  printed_ok : (w : Result ℕ Refusal) → ◌≡◌ {A = Filled} (record { reply = written_said w; buffer = new }) (printed text old) → IsOk w
  unfolding printed
  printed_ok (Ok n) e = refl
  printed_ok (Err why) e = absurd (not_both (ap (λ (f : Filled). eqb f.reply.0 0) e) (said_refuses why))

  answered : {w : Result ℕ Refusal} {size : ℕ} → ◌≡◌ {A = Filled} (record { reply = written_said w; buffer = new }) (printed text old) →
      w ≡ Ok size → length text ≤ length old → Answered text old new size
  unfolding printed
  answered e q h =
      record { room = h; size_is = ap (λ (f : Filled). get_or f.reply.1 0 0) (rw q at e); front = ap (λ (f : Filled). f.buffer) e }

-- ---- a refusal's line

module _ (number : ℕ) (w : Result ℕ Refusal) (old : List ℕ) {new : List ℕ} (room : answer_most ≤ length old)
    (e : ◌≡◌ {A = Filled} (record { reply = written_said w; buffer = new }) (print_refusal number old)) where
  line_printed : ◌≡◌ {A = Filled} (record { reply = written_said w; buffer = new }) (printed (refusal_text number) old)
  unfolding print_refusal
  line_printed = rw (le-leb (line_length 1) (length old) (omega arith)) at e

  pub refusal_ok : IsOk w
  refusal_ok = printed_ok (refusal_text number) old w line_printed

  pub refusal_answered : {size : ℕ} → w ≡ Ok size → Answered (refusal_text number) old new size
  unfolding refusal_text
  refusal_answered q = answered (refusal_text number) old line_printed q (rw length_frame (omega arith))

-- ---- a table's text

-- as many bytes as document 01 says
pub length_table : (c rows : List ℕ) (count m : ℕ) → count * row_size m ≤ length rows → length (table_text c rows count m) ≡ table_text_size count m
unfolding table_text two_bytes
length_table c rows count m h =
    let line : line_length (row_size m) ≡ 9 + 4 * m = omega arith in
    simp (length-append, length_frame)
    (omega (arith, length_rows rows count m h count (le_refl count), ap (λ (l : ℕ). count * l) line))

module _ {c table : List ℕ} {count : ℕ} (t : Shown c table count) where
  parts : (1 ≤ count) × (count ≤ 4096) × (1 ≤ letters c) × (letters c ≤ 16) × (count * row_size (letters c) ≤ length table)
  unfolding table_fits_chart table_fits
  parts = size_parts table count (letters c) (both_left _ _ (both_right _ _ t.fits))

  most : table_text_size count (letters c) ≤ answer_most
  most = let lines = product {a = count} {b = 9 + 4 * letters c} {c = 128} {d = 73} t.few (omega (arith, parts.3)) in omega arith

  module _ (w : Result ℕ Refusal) (old : List ℕ) {new : List ℕ} (room : answer_most ≤ length old) (m : ℕ) (q : m ≡ letters c)
      (e : ◌≡◌ {A = Filled} (record { reply = written_said w; buffer = new }) (print_table c table count m old)) where
    table_printed : ◌≡◌ {A = Filled} (record { reply = written_said w; buffer = new }) (printed (table_text c table count (letters c)) old)
    unfolding print_table
    table_printed = rw (q, t.chart, le-leb (table_text_size count (letters c)) (length old) (omega (arith, most)), t.fits) at e

    pub table_ok : IsOk w
    table_ok = printed_ok (table_text c table count (letters c)) old w table_printed

    pub table_answered : {size : ℕ} → w ≡ Ok size → Answered (table_text c table count (letters c)) old new size
    table_answered p = answered (table_text c table count (letters c)) old table_printed p (rw (length_table c table count (letters c) parts.4) (omega (arith, most)))

  -- its chart is not refused
  pub chart_ok : (r : Result Shape Refusal) → checked_said r ≡ check_reply c → IsOk r
  chart_ok (Ok s) reply = refl
  chart_ok (Err why) reply = absurd (not_both t.chart (fits_refused c reply refl))

-- ---- from what a builder answered

pub built_refused : (c table : List ℕ) (why : Refusal) → refusal_text (said why).0 ≡ built_text c (said why) table
unfolding built_text or_refusal
built_refused c table why = rw (said_refuses why)

pub built_states : (c table : List ℕ) (count : ℕ) → table_text c table count (letters c) ≡ built_text c (fine (count ∷ [])) table
unfolding built_text or_refusal
built_states c table count = refl

pub sound_shown : {c table : List ℕ} {b : Result ℕ Refusal} {count : ℕ} → b ≡ Ok count → Sound c table (built_said b) → Shown c table count
sound_shown q h = rw q at h refl
