-- A whole text: its head, the lines behind it, and the chart that they make. Assumes nothing.
use mathlib.Core.Path.{◌≡◌, refl, sym, ap, ◌∙◌, subst}
use mathlib.Core.Bool.{true, false, false≢true}
use mathlib.Core.List.{List, [], ◌∷◌}
use Prim.Native.Nat.{ℕ, ◌≤◌, ◌<◌}
use native.Mathlib.Omega.{arith}
use Rattle.std.specs.Result.{is_err}
use Rattle.std.specs.Prelude.{Some, Result, Ok, Err}
use lib.ListN.{length, get_or, take, drop, length-append, get_or-append}
use lib.Seq.{take_at}
use borrow.Author.Tests.{le-leb, lt-leb}
use Rattle.replies.specs.declared.Refusal.{Refusal}
use Rattle.replies.specs.declared.Shape.{Shape}
use Rattle.paper.specs.Lists.{in_front, zeros}
use Rattle.replies.specs.Replies.{said, checked_said, written_said}
use Rattle.paper.specs.Chart.{head_size}
use Rattle.paper.specs.Check.{sizes_fit, head_fits, check_reply}
use Rattle.pages.specs.Frames.{payload, frame_fits}
use Rattle.pages.specs.Texts.{Filled, Lines, bad_line, bad_head, chart, width_of, dues, lines_after, text_most, chart_most, lines_of_text, chart_read, lines_read, read_chart}
use Rattle.chart.proofs.Ranges.{sizes_are}
use Rattle.chart.proofs.Checked.{shaped, fits_fine, fits_refused}
use Rattle.dues.specs.declared.Counts.{Counts}
use Rattle.dues.specs.declared.Rule.{Rule}
use Rattle.dues.specs.Dues.{Ruled}
use Rattle.rest_lines.specs.Reading.{RestIn, rest_lines, ChartRead, refused_by, LinesSay}
use Rattle.reading.specs.Zeroed.{zeroed_by}
use Rattle.lists.proofs.Lent.{length_in_front}
use Rattle.lists.proofs.Front.{front_front}
use Rattle.frames.proofs.FrameRead.{frame_inside, length_payload}

-- ---- the head

pub head_width : (s : Counts) (r : Rule) → Ruled s 1 r → r.width ≡ head_size
unfolding width_of
head_width s r e = e.width_is

module _ (text : List ℕ) where
  pub text_long : text_most < length text → lines_of_text text ≡ bad_line 0
  unfolding lines_of_text
  text_long h = simp (lines_of_text, lt-leb (length text) text_most h)

  pub text_first : length text ≤ text_most → (w : ℕ) → w ≡ head_size → frame_fits 0x01 w text 0 ≡ false → lines_of_text text ≡ bad_line 1
  unfolding lines_of_text
  text_first short w q e = simp (lines_of_text, le-leb (length text) text_most short, rw q at e)

-- a text's first line is a head, whose bytes stand in front of the buffer
pub record HeadRead (text old buf : List ℕ) : Type 0 where
  pub short : length text ≤ text_most
  pub fits : frame_fits 0x01 head_size text 0 ≡ true
  pub front : buf ≡ in_front (payload head_size text 0) old

pub head_read : (text old buf : List ℕ) (w : ℕ) → w ≡ head_size → length text ≤ text_most → frame_fits 0x01 w text 0 ≡ true → buf ≡ in_front (payload w text 0) old → HeadRead text old buf
head_read text old buf w q short e p = record { short = short; fits = rw q at e; front = rw q at p }

module _ {text old buf : List ℕ} (r : HeadRead text old buf) where
  head : List ℕ
  head = payload head_size text 0

  length_head : length head ≡ head_size
  unfolding head
  length_head = length_payload head_size text 0

  -- its bytes, as they are read off the buffer
  byte : (i x : ℕ) → i < head_size → x ≡ get_or buf i 0 → x ≡ get_or head i 0
  unfolding in_front head
  byte i x l z = z ∙ ap (λ (b : List ℕ). get_or b i 0) r.front ∙ get_or-append head (drop (length head) old) 0 i (rw length_head l)

  after_head : lines_of_text text ≡ lines_after head text
  unfolding lines_of_text head
  after_head = simp (lines_of_text, le-leb (length text) text_most r.short, r.fits)

  module _ (k e n m : ℕ) (ek : k ≡ get_or buf 0 0) (ee : e ≡ get_or buf 1 0) (en : n ≡ get_or buf 2 0) (em : m ≡ get_or buf 3 0) where
    sizes : sizes_fit k e n m ≡ head_fits head
    unfolding head_fits
    sizes = rw (byte 0 k (omega arith) ek, byte 1 e (omega arith) ee, byte 2 n (omega arith) en, byte 3 m (omega arith) em)

    -- its sizes are out of range
    pub text_head : sizes_fit k e n m ≡ false → lines_of_text text ≡ bad_head
    unfolding lines_after
    text_head f = after_head ∙ simp (lines_after, sym sizes ∙ f)

    -- they are not: the other lines may be read
    module _ (f : sizes_fit k e n m ≡ true) where
      pub rest_in : chart_most ≤ length old → RestIn text (record { k = k; n = n; m = m }) buf
      rest_in room =
          let s = sizes_are k e n m f in
          let l : length buf ≡ length old = ap length r.front ∙ length_in_front (payload head_size text 0) old (omega (arith, length_payload head_size text 0)) in
          record {
            short = r.short;
            first = frame_inside 0x01 head_size text 0 r.fits;
            room = omega arith;
            few = record { grades = s.k_high; states = s.n_high; letters = s.m_high };
            grades = omega (arith, s.k_low);
            states = s.n_low;
            letters = s.m_low;
          }

      rest_is : rest_lines text (record { k = k; n = n; m = m }) buf ≡ lines_of_text text
      unfolding lines_after dues in_front head
      rest_is =
          sym
          (after_head
          ∙ simp (lines_after, sym sizes ∙ f)
          (sym (rw (byte 0 k (omega arith) ek, byte 2 n (omega arith) en, byte 3 m (omega arith) em, r.front, take_at head (drop (length head) old) head_size length_head))))

      -- and say what the text comes to
      pub rest_says : (new : List ℕ) (a : Result ℕ Refusal) → LinesSay (rest_lines text (record { k = k; n = n; m = m }) buf) buf new a → LinesSay (lines_of_text text) old new a
      rest_says new (Ok size) h =
          record {
            bytes = h.bytes;
            lines_are = sym rest_is ∙ h.lines_are;
            size_is = h.size_is;
            headed = h.headed;
            front =
                h.front
                ∙ ap (λ (b : List ℕ). in_front h.bytes b) r.front
                ∙ front_front h.bytes (payload head_size text 0) old (omega (arith, h.headed, h.size_is, length_payload head_size text 0));
          }
      rest_says new (Err why) h = ap refused_by (sym rest_is) ∙ h

-- ---- the chart that was read

-- what lines that were read answer, the buffer being zeroed by a refusal
module _ (lines : Lines) (old new : List ℕ) (kept : length new ≡ length old) (a : Result ℕ Refusal) (says : LinesSay lines old new a) where
  zeroed : zeros new ≡ zeros old
  zeroed = rw kept

  said_as : {b : Result ℕ Refusal} → a ≡ b → LinesSay lines old new b
  said_as e = subst (λ f. LinesSay lines old new f) e says

  pub whole_none : (why : Refusal) → a ≡ Err why → ◌≡◌ {A = Filled} (record { reply = said why; buffer = zeros new }) (lines_read lines old)
  unfolding lines_read
  whole_none why e = rw zeroed (go lines (said_as e))
    where
      go : (l : Lines) → refused_by l ≡ Some why → ◌≡◌ {A = Filled} (record { reply = said why; buffer = zeros old }) (lines_read l old)
      go (bad_line line) q = let w : Refusal.Text line ≡ why = cc in rw (← w) refl
      go bad_head q = let w : Refusal.Sizes ≡ why = cc in rw (← w) refl
      go (chart bytes) q = absurd (cc)

  module _ (size : ℕ) (e : a ≡ Ok size) where
    read : ChartRead lines old new size
    read = said_as e

    pub size_inside : size ≤ length new
    unfolding in_front
    size_inside = omega (arith, read.size_is, ap length read.front, length-append read.bytes (drop (length read.bytes) old))

    module _ (r : Result Shape Refusal) (reply : checked_said r ≡ check_reply (take size new)) where
      bytes_are : take size new ≡ read.bytes
      unfolding in_front
      bytes_are = ap (λ (b : List ℕ). take size b) read.front ∙ take_at read.bytes (drop (length read.bytes) old) size (sym read.size_is)

      checked : checked_said r ≡ check_reply read.bytes
      checked = reply ∙ ap check_reply bytes_are

      pub whole_fine : (s : Shape) → r ≡ Ok s → ◌≡◌ {A = Filled} (record { reply = (0, s.size ∷ []); buffer = new }) (lines_read lines old)
      unfolding lines_read chart_read
      whole_fine s f = rw (read.lines_are, fits_fine read.bytes checked f, (shaped read.bytes checked f).size_is, ← read.front)

      pub whole_refused : (why : Refusal) → r ≡ Err why → ◌≡◌ {A = Filled} (record { reply = said why; buffer = zeros new }) (lines_read lines old)
      unfolding lines_read chart_read
      whole_refused why f = rw (read.lines_are, fits_refused read.bytes checked f, ← checked, f, zeroed)

-- ---- the answer
module _ (text old : List ℕ) where
  pub short_read : length old < chart_most → ◌≡◌ {A = Filled} (record { reply = (5, []); buffer = old }) (read_chart text old)
  unfolding read_chart
  short_read h = simp (lt-leb chart_most (length old) h)

  module _ (room : chart_most ≤ length old) (a : Result ℕ Refusal) (new : List ℕ) (says : ◌≡◌ {A = Filled} (record { reply = written_said a; buffer = zeroed_by a new }) (lines_read (lines_of_text text) old)) where
    long_read : read_chart text old ≡ lines_read (lines_of_text text) old
    unfolding read_chart
    long_read = simp (le-leb chart_most (length old) room)

    -- a refusal's buffer is zeroed, a chart's is left
    pub chart_refused : (zero : List ℕ) → zero ≡ zeros new → is_err a ≡ true → ◌≡◌ {A = Filled} (record { reply = written_said a; buffer = zero }) (read_chart text old)
    chart_refused zero z e = rw z (go a says e)
      where
        go : (b : Result ℕ Refusal) → ◌≡◌ {A = Filled} (record { reply = written_said b; buffer = zeroed_by b new }) (lines_read (lines_of_text text) old) → is_err b ≡ true → ◌≡◌ {A = Filled} (record { reply = written_said b; buffer = zeros new }) (read_chart text old)
        go (Ok size) h q = absurd (false≢true q)
        go (Err why) h q = h ∙ sym long_read

    pub chart_left : is_err a ≡ false → ◌≡◌ {A = Filled} (record { reply = written_said a; buffer = new }) (read_chart text old)
    chart_left e = go a says e
      where
        go : (b : Result ℕ Refusal) → ◌≡◌ {A = Filled} (record { reply = written_said b; buffer = zeroed_by b new }) (lines_read (lines_of_text text) old) → is_err b ≡ false → ◌≡◌ {A = Filled} (record { reply = written_said b; buffer = new }) (read_chart text old)
        go (Ok size) h q = h ∙ sym long_read
        go (Err why) h q = absurd (false≢true (sym q))
