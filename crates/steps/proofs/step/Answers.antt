-- `steps::step` meets its contract: each return is what the tests on its way make of `step_reply`.
-- Assumes nothing.
use native.Mathlib.Omega.{arith}
use Rattle.lists.proofs.Tests.{fell, held}
use Rattle.rows.proofs.Rows.{row_in, step_size, step_state, step_letter, step_row, step_next}
use Rattle.steps.proofs.step.Goals as goal

pub returns-then-not-size_fits : goal.returns-then-not-size_fits
returns-then-not-size_fits c = step_size _ _ _ _ _ (fell c.size_fits.ensures c.if-not-size_fits.true)

pub returns-then-count-state : goal.returns-then-count-state
returns-then-count-state c = step_state _ _ _ _ _ (held c.size_fits.ensures c.if-not-size_fits.false) (omega arith)

pub returns-then-m-letter : goal.returns-then-m-letter
returns-then-m-letter c = step_letter _ _ _ _ _ (held c.size_fits.ensures c.if-not-size_fits.false) (omega arith) (omega arith)

pub row_fits-requires : goal.row_fits-requires
row_fits-requires c = row_in _ _ _ _ (held c.size_fits.ensures c.if-not-size_fits.false) (omega arith)

pub returns-then-not-row_fits : goal.returns-then-not-row_fits
returns-then-not-row_fits c = step_row _ _ _ _ _ (held c.size_fits.ensures c.if-not-size_fits.false) (omega arith) (omega arith) (fell c.row_fits.ensures c.if-not-row_fits.true)

pub next_at-requires : goal.next_at-requires
next_at-requires c = (row_in _ _ _ _ (held c.size_fits.ensures c.if-not-size_fits.false) (omega arith), omega arith)

pub returns : goal.returns
returns c = step_next _ _ _ _ _ (held c.size_fits.ensures c.if-not-size_fits.false) (omega arith) (omega arith) (held c.row_fits.ensures c.if-not-row_fits.false) _ c.next_at.ensures.0
