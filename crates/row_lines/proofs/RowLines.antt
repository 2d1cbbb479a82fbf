-- The lines of a table's rows, one after another. Assumes nothing.
use mathlib.Core.Path.{◌≡◌, refl, sym, ap, ◌∙◌}
use mathlib.Core.List.{List}
use Prim.Native.Nat.{ℕ, suc, ◌+◌, ◌-◌, ◌*◌, ◌≤◌, ◌<◌}
use native.Mathlib.Nat.{suc-mul, mul-le-mul_right}
use native.Mathlib.Omega.{arith}
use lib.ListN.{length, take, drop, length-take, length-drop}
use borrow.Rule.Slice.PartMut.{mid_of, put_mid}
use Rattle.paper.specs.Lists.{joined, part, in_front}
use Rattle.paper.specs.Tables.{row_size}
use Rattle.pages.specs.Frames.{frame, line_length}
use Rattle.pages.specs.Texts.{row_line}
use Rattle.lists.proofs.ByPlace.{length_joined, length_part}
use Rattle.lists.proofs.Bound.{row_end}
use Rattle.frames.specs.Lines.{LineIn}
use Rattle.row_lines.specs.RowsIn.{RowsIn}
use Rattle.lists.proofs.Lent.{length_in_front}
use Rattle.lists.proofs.Front.{front_more}
use Rattle.frames.proofs.FrameWritten.{length_frame}

-- s lines are in front of the buffer
pub record Rowed (rows : List ℕ) (count m : ℕ) (old buf : List ℕ) (s : ℕ) : Type 0 where
  pub ready : RowsIn rows count m old
  pub front : buf ≡ in_front (joined s (row_line rows m)) old

-- state s's line
module _ (rows : List ℕ) (count m : ℕ) (inside : count * row_size m ≤ length rows) where
  rows_end : (s : ℕ) → s < count → s * row_size m + row_size m ≤ length rows
  rows_end s l = omega (arith, row_end (row_size m) l)

  length_line : (s : ℕ) → s < count → length (row_line rows m s) ≡ line_length (row_size m)
  unfolding row_line
  length_line s l =
      length_frame 0x12 (part (row_size m) s rows) ∙ ap (λ (w : ℕ). line_length w) (length_part (row_size m) s rows (rw suc-mul (rows_end s l)))

  pub length_rows : (s : ℕ) → s ≤ count → length (joined s (row_line rows m)) ≡ s * line_length (row_size m)
  length_rows s h = length_joined s (line_length (row_size m)) (row_line rows m) (λ i l. length_line i (omega arith))

pub rows_start : (rows : List ℕ) (count m : ℕ) (old : List ℕ) → RowsIn rows count m old → Rowed rows count m old old 0
unfolding joined in_front
rows_start rows count m old r = record { ready = r; front = refl }

module _ {rows : List ℕ} {count m : ℕ} {old buf : List ℕ} {s : ℕ} (r : Rowed rows count m old buf s) where
  module _ (l : s < count) where
    -- the lent part of the rows is state s's row, and its line comes next
    module _ (from next at : ℕ) (f : from ≡ s * row_size m) (e : next ≡ from + row_size m) (a : at ≡ s * line_length (row_size m)) where
      row_is : take (next - from) (drop from rows) ≡ part (row_size m) s rows
      unfolding part
      row_is = let q : next - from ≡ row_size m = omega arith in rw (q, f)

      pub row_more : (lent : List ℕ) → lent ≡ in_front (frame 0x12 (take (next - from) (drop from rows))) (mid_of at (length buf - at) buf) → Rowed rows count m old (put_mid at (length buf - at) buf lent) (s + 1)
      unfolding joined row_line
      row_more lent p =
          let n : at ≡ length (joined s (row_line rows m)) = a ∙ sym (length_rows rows count m r.ready.inside s (omega arith)) in
          let q : s + 1 ≡ suc s = omega arith in
          record { ready = r.ready; front = rw q (front_more (joined s (row_line rows m)) (row_line rows m s) old buf lent at n r.front (rw row_is at p)) }

-- ---- the buffer

module _ {rows : List ℕ} {count m : ℕ} {old buf : List ℕ} {s : ℕ} (r : Rowed rows count m old buf s) where
  -- keeps its length
  pub rows_kept : s ≤ count → length buf ≡ length old
  rows_kept h =
      ap length r.front
      ∙ length_in_front (joined s (row_line rows m)) old
      (omega (arith, length_rows rows count m r.ready.inside s h, mul-le-mul_right (line_length (row_size m)) h, r.ready.room))

  -- and has room for state s's line
  module _ (l : s < count) (at : ℕ) (a : at ≡ s * line_length (row_size m)) where
    pub line_inside : at + line_length (row_size m) ≤ length buf
    line_inside = omega (arith, row_end (line_length (row_size m)) l, a, r.ready.room, rows_kept (omega arith))

    pub line_room : (from next : ℕ) → from ≡ s * row_size m → next ≡ from + row_size m → LineIn (take (next - from) (drop from rows)) (mid_of at (length buf - at) buf)
    line_room from next f e =
        let n : length (part (row_size m) s rows) ≡ row_size m = length_part (row_size m) s rows (rw suc-mul (rows_end rows count m r.ready.inside s l)) in
        record { room = rw (row_is r l from next at f e a) (simp (length-take, length-drop) (omega (arith, line_inside))) }
