-- `walk::grow` meets its contract. Assumes nothing.
use native.Mathlib.Omega.{arith}
use Rattle.walk.proofs.Filled.{first_value, none_held, made_full, made_done}
use Rattle.walk.proofs.grow.Goals as goal

pub seek-requires : goal.seek-requires
seek-requires c = (none_held _ _ _ _ c.requires c.put_first.ensures c.new-index.ensures, omega arith, first_value _ _ _ _ c.requires c.put_first.ensures)

pub returns-in_err-held : goal.returns-in_err-held
returns-in_err-held c = rw c.from_residual.ensures (made_full _ _ _ _ c.requires c.put_first.ensures c.in_err-held.ensures)

pub returns : goal.returns
returns c = made_done _ _ _ _ c.requires c.put_first.ensures _ _ _ c.in_ok-held.ensures _ (c.fill.ensures.after (λ y e. e))
