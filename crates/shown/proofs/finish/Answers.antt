-- `shown::finish` meets its contract. Assumes nothing.
use Rattle.shown.proofs.Printed.{built_refused, built_states, sound_shown}
use Rattle.shown.proofs.finish.Goals as goal

pub show-requires : goal.show-requires
show-requires c = (sound_shown c.in-Ok.is c.requires.0, search)

pub returns-in-Err : goal.returns-in-Err
returns-in-Err c = rw (c.in-Err.is, ← built_refused) c.refuse.ensures

pub returns-in-Ok : goal.returns-in-Ok
returns-in-Ok c = rw (c.in-Ok.is, ← built_states) c.show.ensures
