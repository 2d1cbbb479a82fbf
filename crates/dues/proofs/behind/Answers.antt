-- `dues::behind` meets its contract: one more line of the kind, or the first of the next.
-- Assumes nothing.
use native.Mathlib.Omega.{arith}
use Rattle.dues.proofs.Dues.{behind_line_lem, behind_last}
use Rattle.dues.proofs.behind.Goals as goal

pub returns-then-cursor-gt1 : goal.returns-then-cursor-gt1
returns-then-cursor-gt1 c = behind_line_lem _ c.args.cursor c.args.due (omega arith) (omega arith)

pub returns : goal.returns
returns c = behind_last _ c.args.cursor c.args.due (omega arith) (omega arith) c.rule_of.result (omega arith)
