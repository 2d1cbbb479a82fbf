-- `row_lines::put_rows` meets its contract. The loop's invariant: the lines of s states are in front of the buffer.
-- Assumes nothing.
use mathlib.Core.Path.{◌≡◌, refl}
use Prim.Native.Nat.{◌+◌, ◌*◌}
use native.Mathlib.Omega.{arith}
use Rattle.paper.specs.Tables.{row_size}
use Rattle.pages.specs.Frames.{line_length}
use Rattle.row_lines.proofs.RowLines.{rows_start, row_more}
use Rattle.row_lines.proofs.put_rows.Goals as goal

pub loop-s-init : goal.loop-s-init
loop-s-init c = rows_start _ _ _ _ c.requires

pub loop-s-preserved : goal.loop-s-preserved
loop-s-preserved c =
    let q : 7 + 2 * (1 + 2 * c.args.m) ≡ line_length (row_size c.args.m) = omega arith in
    row_more c.loop-s.invariant c.loop-s-test.true _ _ _ refl refl (rw q refl) _ c.put_frame.ensures
