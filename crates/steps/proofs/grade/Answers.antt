-- `steps::grade` meets its contract: each return is what the tests on its way make of `grade_reply`.
-- Assumes nothing.
use native.Mathlib.Omega.{arith}
use Rattle.lists.proofs.Tests.{fell, held}
use Rattle.rows.proofs.Rows.{row_in, grade_size, grade_state, grade_row, grade_is}
use Rattle.steps.proofs.grade.Goals as goal

pub returns-then-not-size_fits : goal.returns-then-not-size_fits
returns-then-not-size_fits c = grade_size _ _ _ _ (fell c.size_fits.ensures c.if-not-size_fits.true)

pub returns-then-count-state : goal.returns-then-count-state
returns-then-count-state c = grade_state _ _ _ _ (held c.size_fits.ensures c.if-not-size_fits.false) (omega arith)

pub row_fits-requires : goal.row_fits-requires
row_fits-requires c = row_in _ _ _ _ (held c.size_fits.ensures c.if-not-size_fits.false) (omega arith)

pub returns-then-not-row_fits : goal.returns-then-not-row_fits
returns-then-not-row_fits c = grade_row _ _ _ _ (held c.size_fits.ensures c.if-not-size_fits.false) (omega arith) (fell c.row_fits.ensures c.if-not-row_fits.true)

pub grade_at-requires : goal.grade_at-requires
grade_at-requires c = row_in _ _ _ _ (held c.size_fits.ensures c.if-not-size_fits.false) (omega arith)

pub returns : goal.returns
returns c = grade_is _ _ _ _ (held c.size_fits.ensures c.if-not-size_fits.false) (omega arith) (held c.row_fits.ensures c.if-not-row_fits.false) _ c.grade_at.ensures
