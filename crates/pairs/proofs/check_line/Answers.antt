-- `pairs::check_line` meets its contract: the grade is asked for first, then each letter. Assumes nothing.
use Rattle.lists.proofs.Tests.{fell, held}
use Rattle.pairs.proofs.Holding.{grade_wrong, letters_hold, letter_wrong}
use Rattle.pairs.proofs.check_line.Goals as goal

pub returns-then-not-grade_holds : goal.returns-then-not-grade_holds
returns-then-not-grade_holds c = grade_wrong _ _ _ _ _ (fell c.grade_holds.ensures c.if-not-grade_holds.true)

pub returns-in-Some : goal.returns-in-Some
returns-in-Some c = letter_wrong _ _ _ _ _ (held c.grade_holds.ensures c.if-not-grade_holds.false) c.in-Some.letter c.in-Some.ensures

pub returns-in-None : goal.returns-in-None
returns-in-None c = letters_hold _ _ _ _ _ (held c.grade_holds.ensures c.if-not-grade_holds.false) c.in-None.ensures
