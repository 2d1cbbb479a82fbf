-- `settle::settle` meets its contract. Assumes nothing.
use Rattle.settle.proofs.Settling.{still_holds, new_value, settled_new, settled_old}
use Rattle.settle.proofs.settle.Goals as goal

pub seek-requires : goal.seek-requires
seek-requires c = (still_holds _ _ _ _ _ _ _ c.requires.0 c.requires.1 c.step_into.ensures, c.requires.1.roomy, new_value _ _ _ _ _ _ _ c.requires.0 c.requires.1 c.step_into.ensures)

pub returns : goal.returns
returns c = settled_old _ _ _ _ _ _ _ c.requires.0 c.requires.1 c.step_into.ensures _ _ c.seek.ensures _ c.in-Some.is

pub returns-in_default : goal.returns-in_default
returns-in_default c = settled_new _ _ _ _ _ _ _ c.requires.0 c.requires.1 c.step_into.ensures _ _ c.seek.ensures c.in_default.is
