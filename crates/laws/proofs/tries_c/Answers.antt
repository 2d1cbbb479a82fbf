-- `laws::tries_c` meets its contract. Assumes nothing.
use native.Mathlib.Omega.{arith}
use Rattle.laws.proofs.Tries.{every, one_c}
use Rattle.laws.proofs.tries_c.Goals as goal

pub returns-in-2 : goal.returns-in-2
returns-in-2 c = λ ch a b. every

pub returns-in_default : goal.returns-in_default
returns-in_default c = λ ch a b. one_c c.requires ch _ a b (λ e. omega arith)
