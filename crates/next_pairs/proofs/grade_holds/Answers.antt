-- `next_pairs::grade_holds` meets its contract. Assumes nothing.
use Rattle.next_pairs.proofs.NextPairs.{grade_is}
use Rattle.next_pairs.proofs.grade_holds.Goals as goal

pub returns : goal.returns
returns c = grade_is _ _ _ _ c.letters.ensures.is c.state.ensures.0 c.vector.ensures.is c.grade_at-grade.ensures c.end_grade.ensures
