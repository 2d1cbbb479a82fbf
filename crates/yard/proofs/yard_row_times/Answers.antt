-- `yard::yard_row_times` meets its contract: what was tested is what the product asks for. Assumes nothing.
use native.Mathlib.Omega.{arith}
use Rattle.yard.proofs.yard_row_times.Goals as goal

pub multiply-requires : goal.multiply-requires
multiply-requires c = (
  omega (arith, c.letters.ensures.is),
  rw (← c.k.ensures.is, ← c.n-n.ensures.is) (c.are_grades.ensures c.if-not-are_grades.false),
  omega (arith, c.n-n.ensures.is),
)
