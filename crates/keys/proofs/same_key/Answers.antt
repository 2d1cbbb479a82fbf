-- `keys::same_key` meets its contract. Assumes nothing.
use mathlib.Core.Path.{◌∙◌}
use Rattle.std.proofs.lemmas.Bool.{ne_eqb}
use Rattle.kinds.proofs.Keys.{grade_differs, letters_decide}
use Rattle.keys.proofs.same_key.Goals as goal

pub returns-then-end_grade-key : goal.returns-then-end_grade-key
returns-then-end_grade-key c = letters_decide c.args.chart.now _ _ c.requires.1 c.end_grade.ensures.is (rw (c.letters.ensures.is, c.n.ensures.is) at c.if-end_grade-key.true) c.same_letters.ensures

pub returns-else-end_grade-key : goal.returns-else-end_grade-key
returns-else-end_grade-key c = ne_eqb _ _ c.if-end_grade-key.false ∙ grade_differs c.args.chart.now _ _ c.requires.1 c.end_grade.ensures.is (rw (c.letters.ensures.is, c.n.ensures.is) at c.if-end_grade-key.false)
