-- `bench::reader::state_after` meets its contract: each arm is the state of its case. Assumes nothing.
use mathlib.Core.Path.{◌∙◌}
use Rattle.bench.proofs.States.{state_given, state_refused}
use Rattle.bench.proofs.reader.state_after.Goals as goal

pub returns-in-Ok : goal.returns-in-Ok
returns-in-Ok c = c.from.ensures ∙ state_given _ _ _ c.in-Ok.is

pub returns-in-Err : goal.returns-in-Err
returns-in-Err c = state_refused _ _ _ c.in-Err.is
