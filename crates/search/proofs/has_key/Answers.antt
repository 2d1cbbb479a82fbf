-- `search::has_key` meets its contract. Assumes nothing.
use mathlib.Core.Path.{◌∙◌}
use native.Mathlib.Omega.{arith}
use Rattle.marks.proofs.MarkLaws.{unmarked}
use Rattle.search.proofs.Found.{value_taken, told}
use Rattle.search.proofs.has_key.Goals as goal

pub returns-then-number_of-number : goal.returns-then-number_of-number
returns-then-number_of-number c = unmarked _ _ (c.number_of.ensures ∙ c.requires.0.marked c.args.s (omega arith)) c.requires.2 c.if-number_of-number.true

pub same_by-requires : goal.same_by-requires
same_by-requires c = (value_taken c.requires.0 c.args.key.now c.args.s (omega arith), c.requires.3)

pub returns : goal.returns
returns c = told c.requires.0 c.args.key.now c.args.s c.same_by.ensures
