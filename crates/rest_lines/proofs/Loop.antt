-- Reading one line after the other: the invariant of the loop over the lines behind the head, and its steps. Assumes nothing.
use mathlib.Core.Path.{◌≡◌, refl, sym, ap, ◌∙◌, subst}
use mathlib.Core.Bool.{Bool, true, false}
use mathlib.Core.List.{List, [], ◌∷◌, ◌++◌}
use mathlib.Core.Logic.{⊎_elim}
use Prim.Native.Nat.{ℕ, ◌+◌, ◌-◌, ◌*◌, ◌≤◌, ◌<◌}
use native.Mathlib.Nat.{eq-or-lt_of_le}
use native.Mathlib.Omega.{arith}
use lib.Dec.{ltb}
use lib.ListN.{length, take, length-append, length-take, length-drop, take-append-drop}
use lib.Seq.{length-take-le}
use borrow.Author.Tests.{le-leb, lt-leb, ltb-true, ltb-false}
use borrow.Rule.Slice.PartMut.{mid_of, put_mid}
use Rattle.paper.specs.Lists.{pick, in_front}
use Rattle.paper.specs.Chart.{head_size}
use Rattle.pages.specs.Frames.{line_length, payload, frame_fits}
use Rattle.pages.specs.Texts.{Lines, bad_line, lines_of, width_of, dues_from, lines_from, chart_most}
use Rattle.dues.specs.declared.Counts.{Counts}
use Rattle.dues.specs.declared.Rule.{Rule}
use Rattle.dues.specs.declared.Cursor.{Cursor}
use Rattle.frames.specs.Lines.{FrameIn}
use Rattle.dues.specs.Dues.{Ruled, Stepping, behind_line}
use Rattle.rest_lines.specs.Reading.{RestIn, rest_lines, ChartRead}
use Rattle.lists.proofs.Lent.{length_in_front}
use Rattle.lists.proofs.Front.{front_more}
use Rattle.frames.proofs.FrameRead.{frame_inside, length_payload}
use Rattle.dues.proofs.Dues.{rest_dues, rest_line, rest_next, rest_end, lines_over, lines_some, sum_due, bytes_due, bytes_few}

-- the lines of ds are due at a line and a place of the text, behind the bytes in front of the buffer; all in all they come to `total`
pub record Reading (text : List ℕ) (total : Lines) (old buf : List ℕ) (ds : List (ℕ × ℕ)) (line pos at : ℕ) : Type 0 where
  pub done : List ℕ
  pub placed : at ≡ length done
  pub headed : head_size ≤ at
  pub front : buf ≡ in_front done old
  pub within : pos ≤ length text
  pub low : line ≤ pos
  pub fits : at + bytes_due ds ≤ chart_most
  pub rest : lines_from ds text line pos done ≡ total

module _ {text : List ℕ} {total : Lines} {old buf : List ℕ} {line pos at : ℕ} where
  -- the buffer keeps its length
  read_kept : {ds : List (ℕ × ℕ)} → Reading text total old buf ds line pos at → chart_most ≤ length old → length buf ≡ length old
  read_kept r h = ap length r.front ∙ length_in_front r.done old (omega (arith, r.fits, r.placed))

  -- no line is due, and the text ends
  pub read_all : Reading text total old buf [] line pos at → length text ≤ pos → ChartRead total old buf at
  unfolding lines_from
  read_all r h =
      record { bytes = r.done; lines_are = sym (simp (le-leb (length text) pos h) at r.rest); size_is = r.placed; headed = r.headed; front = r.front }

  -- it does not end
  pub read_over : Reading text total old buf [] line pos at → pos < length text → total ≡ bad_line line
  unfolding lines_from
  read_over r h = sym (simp (lt-leb (length text) pos h) at r.rest)

  module _ {kind w : ℕ} {ds : List (ℕ × ℕ)} (r : Reading text total old buf ((kind, w) ∷ ds) line pos at) where
    -- the line is not the frame due
    read_bad : frame_fits kind w text pos ≡ false → total ≡ bad_line line
    unfolding lines_from
    read_bad e = sym (simp e at r.rest)

    -- it is
    read_line : (part : List ℕ) → frame_fits kind w text pos ≡ true → part ≡ in_front (payload w text pos) (mid_of at (length buf - at) buf) → Reading text total old (put_mid at (length buf - at) buf part) ds (line + 1) (pos + line_length w) (at + w)
    unfolding lines_from sum_due
    read_line part e q =
        record {
          done = r.done ++ payload w text pos;
          placed = omega (arith, length-append r.done (payload w text pos), length_payload w text pos, r.placed);
          headed = omega (arith, r.headed);
          front = front_more r.done (payload w text pos) old buf part at r.placed r.front q;
          within = frame_inside kind w text pos e;
          low = omega (arith, r.low);
          fits = omega (arith, r.fits);
          rest = simp e at r.rest;
        }

-- ---- the loop
pub record Looped (text old : List ℕ) (s : Counts) (buf : List ℕ) (c : Cursor) : Type 0 where
  pub ranges : RestIn text s old
  pub low : 2 ≤ c.kind
  pub high : c.kind ≤ 7
  pub ends : 7 ≤ c.kind + 5 * c.left
  pub more : 0 < c.left → c.kind ≤ 6
  pub reading : Reading text (rest_lines text s old) old buf (rest_dues s c.kind c.left) c.line c.pos c.at

-- the cursor at the head
abbrev pub at_head : Cursor
at_head = record { kind = 1; left = 1; line = 1; pos = 0; at = 0 }

-- behind the head
pub loop_start : (text old : List ℕ) (s : Counts) → RestIn text s old → Looped text old s old (behind_line s at_head)
unfolding dues_from lines_of width_of behind_line in_front
loop_start text old s r =
    let n : length (take head_size old) ≡ head_size = length-take-le head_size old (omega arith) in
    record {
      ranges = r;
      low = omega arith;
      high = omega arith;
      ends = omega arith;
      more = λ h. omega arith;
      reading =
          record {
            done = take head_size old;
            placed = sym n;
            headed = omega arith;
            front = rw n (sym (take-append-drop head_size old));
            within = r.first;
            low = omega arith;
            fits = bytes_few s r.few;
            rest = refl;
          };
    }

module _ {text old : List ℕ} {s : Counts} {buf : List ℕ} {c : Cursor} (r : Looped text old s buf c) where
  pub loop_kept : length buf ≡ length old
  loop_kept = read_kept r.reading r.ranges.room

  -- no line is due
  pub loop_end : c.left ≡ 0 → Reading text (rest_lines text s old) old buf [] c.line c.pos c.at
  loop_end q =
      subst (λ ds. Reading text (rest_lines text s old) old buf ds c.line c.pos c.at)
      (rest_end s c.kind c.left (omega (arith, r.high, r.ends)) q)
      r.reading

  -- a line is due
  module _ (l : 0 < c.left) where
    due_line : Reading text (rest_lines text s old) old buf ((c.kind, width_of s.k s.n c.kind) ∷ rest_dues s c.kind (c.left - 1)) c.line c.pos c.at
    due_line = subst (λ ds. Reading text (rest_lines text s old) old buf ds c.line c.pos c.at) (rest_line s c.kind c.left l) r.reading

    -- it goes by a rule
    module _ (due : Rule) (ruled : Ruled s c.kind due) where
      line : Reading text (rest_lines text s old) old buf ((c.kind, due.width) ∷ rest_dues s c.kind (c.left - 1)) c.line c.pos c.at
      line = rw ruled.width_is due_line

      -- there is room for its bytes, and no number on the way is too large
      pub loop_room : c.at + due.width ≤ length buf
      unfolding sum_due
      loop_room = omega (arith, line.fits, loop_kept, r.ranges.room)

      pub loop_frame : FrameIn c.pos due.width (mid_of c.at (length buf - c.at) buf)
      loop_frame =
          record {
            near = record { place = omega (arith, line.within, r.ranges.short); width = omega (arith, ruled.small) };
            room = simp (length-take, length-drop) (omega (arith, loop_room));
          }

      pub loop_step : Stepping c due s
      unfolding sum_due
      loop_step =
          record {
            ruled = ruled;
            few = r.ranges.few;
            low = r.more l;
            line = omega (arith, line.low, line.within, r.ranges.short);
            pos = omega (arith, line.within, r.ranges.short);
            at = omega (arith, line.fits);
          }

      -- it is not the frame due
      pub loop_bad : frame_fits c.kind due.width text c.pos ≡ false → rest_lines text s old ≡ bad_line c.line
      loop_bad e = read_bad line e

      -- it is
      module _ (e : frame_fits c.kind due.width text c.pos ≡ true) where
        wide : width_of s.k s.n c.kind ≡ due.width
        wide = sym ruled.width_is

        pub loop_falls : length text - (behind_line s c).pos < length text - c.pos
        unfolding behind_line
        loop_falls = rw wide (omega (arith, frame_inside c.kind due.width text c.pos e))

        pub loop_line : (part : List ℕ) → part ≡ in_front (payload due.width text c.pos) (mid_of c.at (length buf - c.at) buf) → Looped text old s (put_mid c.at (length buf - c.at) buf part) (behind_line s c)
        unfolding behind_line
        loop_line part p = rw wide (go (ltb 1 c.left) refl)
          where
            next : Reading text (rest_lines text s old) old (put_mid c.at (length buf - c.at) buf part) (rest_dues s c.kind (c.left - 1)) (c.line + 1) (c.pos + line_length due.width) (c.at + due.width)
            next = read_line line part e p

            k6 : c.kind ≤ 6
            k6 = r.more l

            go : (b : Bool) → ltb 1 c.left ≡ b → Looped text old s (put_mid c.at (length buf - c.at) buf part) (record { kind = pick b c.kind (c.kind + 1); left = pick b (c.left - 1) (lines_of s.k s.n s.m (c.kind + 1)); line = c.line + 1; pos = c.pos + line_length due.width; at = c.at + due.width })
            go true t =
                record {
                  ranges = r.ranges;
                  low = r.low;
                  high = r.high;
                  ends = omega (arith, k6, r.low, ltb-true 1 c.left t);
                  more = λ _. k6;
                  reading = next;
                }
            go false t =
                record {
                  ranges = r.ranges;
                  low = omega (arith, r.low);
                  high = omega (arith, k6);
                  ends = ⊎_elim (λ z. omega arith) (λ z. omega (arith, r.low, lines_some s (c.kind + 1) r.ranges.grades r.ranges.states r.ranges.letters (omega arith))) (eq-or-lt_of_le k6);
                  more = λ z. ⊎_elim (λ y. absurd (omega (arith, lines_over s (c.kind + 1) (omega arith)))) (λ y. omega arith) (eq-or-lt_of_le k6);
                  reading =
                      subst (λ ds. Reading text (rest_lines text s old) old (put_mid c.at (length buf - c.at) buf part) ds (c.line + 1) (c.pos + line_length due.width) (c.at + due.width))
                      (rest_next s c.kind (c.left - 1) k6 (omega (arith, ltb-false 1 c.left t)))
                      next;
                }
