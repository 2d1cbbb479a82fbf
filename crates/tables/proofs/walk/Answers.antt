-- `tables::walk` meets its contract. Assumes nothing.
use mathlib.Core.Path.{refl, ◌∙◌}
use native.Mathlib.Omega.{arith}
use Rattle.tables.proofs.Walks.{walk_more, walk_end, walk_row, walk_letter, walk_below, walk_some}
use Rattle.tables.proofs.walk.Goals as goal

pub loop-letter-init : goal.loop-letter-init
loop-letter-init c = (walk_some _ _ _ _ c.requires, refl)

pub next_at-s-requires : goal.next_at-s-requires
next_at-s-requires c = (walk_row _ _ _ _ c.requires c.loop-letter.s (omega arith), omega (arith, walk_letter _ _ _ _ c.requires c.loop-letter.letter-index (omega arith)))

pub loop-letter-preserved : goal.loop-letter-preserved
loop-letter-preserved c = (
  walk_below _ _ _ _ c.requires c.loop-letter.s c.loop-letter.letter-index _ _ (omega arith) (omega arith) c.from.ensures c.next_at-s.ensures.0,
  walk_more _ _ c.loop-letter.s _ c.loop-letter.letter-index _ _ _ (omega arith) c.from.ensures c.next_at-s.ensures.0 c.loop-letter.invariant.1,
)

pub grade_at-requires : goal.grade_at-requires
grade_at-requires c = walk_row _ _ _ _ c.requires c.loop-letter.s (omega arith)

pub returns : goal.returns
returns c = c.grade_at.ensures ∙ walk_end _ _ c.loop-letter.s _ c.loop-letter.letter-index (omega arith) c.loop-letter.invariant.1
