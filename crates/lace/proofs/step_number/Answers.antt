-- `lace::step_number` meets its contract: each arm is the number of its case. Assumes nothing.
use Rattle.lace.proofs.Numbers.{step_given, step_letter, step_other}
use Rattle.lace.proofs.step_number.Goals as goal

pub returns-in-Ok : goal.returns-in-Ok
returns-in-Ok c = step_given _ _ c.in-Ok.is

pub returns-in-Letter : goal.returns-in-Letter
returns-in-Letter c = step_letter _ _ c.in-Err.is _ c.in-Letter.is

pub returns-in_default : goal.returns-in_default
returns-in_default c = step_other _ _ c.in-Err.is c.in_default.not-Letter
