-- `card::inner::cap_of` meets its contract. The loop's invariant: the grades of s states are joined.
-- Assumes nothing.
use native.Mathlib.Omega.{arith}
use Rattle.card.proofs.Caps.{row_beside, grade_beside, join_none, join_more, join_all}
use Rattle.card.proofs.inner.cap_of.Goals as goal

pub loop-s-init : goal.loop-s-init
loop-s-init c = join_none c.requires

pub grade_at-requires : goal.grade_at-requires
grade_at-requires c = row_beside c.loop-s.invariant.beside c.loop-s-test.true

pub join-cap-requires : goal.join-cap-requires
join-cap-requires c = (c.loop-s.invariant.below, grade_beside c.loop-s.invariant.beside c.loop-s-test.true c.grade_at.ensures)

pub loop-s-preserved : goal.loop-s-preserved
loop-s-preserved c = join_more c.loop-s.invariant c.grade_at.ensures c.join-cap.ensures

pub returns : goal.returns
returns c = join_all c.loop-s.invariant (omega arith)
