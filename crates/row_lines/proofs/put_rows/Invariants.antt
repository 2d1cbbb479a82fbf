-- `row_lines::put_rows` meets its contract. The loop's invariant: the lines of s states are in front of the buffer.
-- Assumes nothing.
use Rattle.row_lines.proofs.RowLines.{Rowed}
use Rattle.row_lines.proofs.put_rows.Given as goal

abbrev pub invariant-loop-s : goal.invariant-loop-s
invariant-loop-s l = Rowed l.rows l.count l.m l.initial.text l.text l.s
