-- Charts, tables and refusals as text: reading a chart, printing a table or a refusal.
use Rattle.std.specs.Prelude.{List, [], ◌∷◌, ◌++◌, ℕ, zero, suc, ◌+◌, ◌*◌, length, replicate, leb}
use Rattle.paper.specs.Lists.{pick, unless, joined, part, in_front, zeros}
use Rattle.paper.specs.Reply.{Reply, fine}
use Rattle.paper.specs.Chart.{head_size, k_of, n_of, m_of, chart_size}
use Rattle.paper.specs.Check.{head_fits, check_reply, chart_fits}
use Rattle.paper.specs.Tables.{two_bytes, row_size, table_fits_chart, cap_of}
use Rattle.pages.specs.Frames.{frame, line_length, frame_fits, payload}

-- a reply, and a lent buffer as it is left
pub record Filled : Type 0 where
  pub reply : Reply
  pub buffer : List ℕ

-- ---- the lines of a chart

-- kind 01 is the head; of kinds 02 to 06, how many lines there are and how many bytes each carries
unfoldable pub lines_of : ℕ → ℕ → ℕ → ℕ → ℕ
lines_of k n m kind = pick (leb kind 1) 1 (pick (leb kind 3) k (pick (leb kind 5) 1 (pick (leb kind 6) (m * n) 0)))

unfoldable pub width_of : ℕ → ℕ → ℕ → ℕ
width_of k n kind = pick (leb kind 1) head_size (pick (leb kind 3) k n)

-- the lines due of so many kinds from a kind on: each line's kind and width
unfoldable pub dues_from : ℕ → ℕ → ℕ → ℕ → ℕ → List (ℕ × ℕ)
dues_from k n m zero kind = []
dues_from k n m (suc kinds) kind = replicate (lines_of k n m kind) (kind, width_of k n kind) ++ dues_from k n m kinds (suc kind)

-- the lines due after the head: kinds 02 to 06
unfoldable pub dues : List ℕ → List (ℕ × ℕ)
dues c = dues_from (k_of c) (n_of c) (m_of c) 5 2

-- ---- reading a chart

-- what reading lines comes to: the first line that is not the frame due there, a head out of range, or a chart's bytes
pub data Lines : Type 0 where
  bad_line : ℕ → Lines
  bad_head : Lines
  chart : List ℕ → Lines

-- the lines due, from a line and a place of the text on, behind the bytes read so far; then the text's end
unfoldable pub lines_from : List (ℕ × ℕ) → List ℕ → ℕ → ℕ → List ℕ → Lines
lines_from [] text line pos done = unless (leb (length text) pos) (bad_line line) (chart done)
lines_from (d ∷ ds) text line pos done =
    unless (frame_fits d.0 d.1 text pos) (bad_line line)
    (lines_from ds text (line + 1) (pos + line_length d.1) (done ++ payload d.1 text pos))

-- the lines behind a head
unfoldable pub lines_after : List ℕ → List ℕ → Lines
lines_after head text = unless (head_fits head) bad_head (lines_from (dues head) text 2 (line_length head_size) head)

abbrev pub text_most : ℕ
text_most = 22493

unfoldable pub lines_of_text : List ℕ → Lines
lines_of_text text =
    unless (leb (length text) text_most) (bad_line 0)
    (unless (frame_fits 0x01 head_size text 0) (bad_line 1)
    (lines_after (payload head_size text 0) text))

-- a chart that was read: 3 and 4 come last
unfoldable pub chart_read : List ℕ → List ℕ → Filled
chart_read c old =
    unless (chart_fits c) (record { reply = check_reply c; buffer = zeros old })
    (record { reply = fine (chart_size c ∷ []); buffer = in_front c old })

unfoldable pub lines_read : Lines → List ℕ → Filled
lines_read (bad_line line) old = record { reply = (14, line ∷ []); buffer = zeros old }
lines_read bad_head old = record { reply = (1, []); buffer = zeros old }
lines_read (chart c) old = chart_read c old

-- how many bytes the largest chart is
abbrev pub chart_most : ℕ
chart_most = 9780

unfoldable pub read_chart : List ℕ → List ℕ → Filled
read_chart text old = unless (leb chart_most (length old)) (record { reply = (5, []); buffer = old }) (lines_read (lines_of_text text) old)

-- ---- printing

-- a text printed into a buffer that holds it
unfoldable pub printed : List ℕ → List ℕ → Filled
printed text old = record { reply = fine (length text ∷ []); buffer = in_front text old }

-- count and m; one line a state; the cap
unfoldable pub row_line : List ℕ → ℕ → ℕ → List ℕ
row_line rows m s = frame 0x12 (part (row_size m) s rows)

unfoldable pub table_text : List ℕ → List ℕ → ℕ → ℕ → List ℕ
table_text c rows count m =
    frame 0x11 (two_bytes count ++ (m ∷ []))
    ++ (joined count (row_line rows m) ++ frame 0x13 (cap_of c rows count m ∷ []))

-- how long that text is
abbrev pub table_text_size : ℕ → ℕ → ℕ
table_text_size count m = 13 + count * (9 + 4 * m) + 9

unfoldable pub print_table : List ℕ → List ℕ → ℕ → ℕ → List ℕ → Filled
print_table c rows count m old =
    unless (chart_fits c) (record { reply = check_reply c; buffer = old })
    (unless (leb (table_text_size count m) (length old)) (record { reply = (5, []); buffer = old })
    (unless (table_fits_chart c rows count m) (record { reply = (9, []); buffer = old })
    (printed (table_text c rows count m) old)))

unfoldable pub refusal_text : ℕ → List ℕ
refusal_text number = frame 0x7f (number ∷ [])

unfoldable pub print_refusal : ℕ → List ℕ → Filled
print_refusal number old =
    unless (leb (line_length 1) (length old)) (record { reply = (5, []); buffer = old })
    (printed (refusal_text number) old)
