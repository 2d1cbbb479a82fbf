-- `laws::tries_b` meets its contract. Assumes nothing.
use native.Mathlib.Omega.{arith}
use Rattle.laws.proofs.Tries.{every, one_b}
use Rattle.laws.proofs.tries_b.Goals as goal

pub returns-in_default : goal.returns-in_default
returns-in_default c = λ ch a. one_b c.requires ch _ a (λ e. omega arith) (λ e. omega arith) (λ e. omega arith)

pub returns-in_default-2 : goal.returns-in_default-2
returns-in_default-2 c = λ ch a. one_b c.requires ch _ a (λ e. omega arith) (λ e. omega arith) (λ e. omega arith)

pub returns-in-1 : goal.returns-in-1
returns-in-1 c = λ ch a. every

pub returns-in-1-2 : goal.returns-in-1-2
returns-in-1-2 c = λ ch a. every
