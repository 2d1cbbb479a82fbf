-- `frames::digits::digit` meets its contract: the ranges of its arms are those of `digit_of`.
-- Assumes nothing.
use native.Mathlib.Omega.{arith}
use Rattle.frames.proofs.Hex.{digit_low, digit_high, digit_below, digit_between, digit_above}
use Rattle.frames.proofs.digits.digit.Goals as goal

pub returns-in-48-to-57-clause-value : goal.returns-in-48-to-57-clause-value
returns-in-48-to-57-clause-value c = digit_low _ (omega arith) (omega arith)

pub returns-in-97-to-102-clause-value : goal.returns-in-97-to-102-clause-value
returns-in-97-to-102-clause-value c = digit_high _ (omega arith) (omega arith)

pub returns-in_default-clause-value : goal.returns-in_default-clause-value
returns-in_default-clause-value c = digit_below _ (omega arith)

pub returns-in_default-2-clause-value : goal.returns-in_default-2-clause-value
returns-in_default-2-clause-value c = digit_between _ (omega arith) (omega arith)

pub returns-in_default-3-clause-value : goal.returns-in_default-3-clause-value
returns-in_default-3-clause-value c = digit_above _ (omega arith)
