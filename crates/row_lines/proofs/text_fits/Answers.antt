-- `row_lines::text_fits` meets its contract: the room divided among the lines decides as the product does.
-- Assumes nothing.
use native.Mathlib.Omega.{arith}
use Rattle.row_lines.proofs.TextSize.{size_ends, size_none, size_short, size_by_line}
use Rattle.row_lines.proofs.text_fits.Goals as goal

pub returns-then-room-lt22 : goal.returns-then-room-lt22
returns-then-room-lt22 c = size_ends c.args.count c.args.m c.args.room c.if-room-lt22.true

pub returns-then-count-eq0 : goal.returns-then-count-eq0
returns-then-count-eq0 c = size_none c.args.count c.args.m c.args.room (search) c.if-count-eq0.true

pub returns-then-line-lt9 : goal.returns-then-line-lt9
returns-then-line-lt9 c = size_short c.args.count c.args.m c.args.room (search) (omega arith) (search)

pub returns : goal.returns
returns c = size_by_line c.args.count c.args.m c.args.room (search) (omega arith) (search)
