-- `rooms::room_fits` meets its contract. Assumes nothing.
use native.Mathlib.Omega.{arith}
use Rattle.std.proofs.lemmas.Bool.Decides.{nat_tests}
use Rattle.paper.specs.Lists.{both}
use Rattle.paper.specs.Builders.{room_fits}
use Rattle.rooms.proofs.room_fits.Goals as goal

pub returns-then-room-m : goal.returns-then-room-m
unfolding room_fits both
returns-then-room-m c = grind (arith, nat_tests)

pub returns-else-room-m : goal.returns-else-room-m
unfolding room_fits both
returns-else-room-m c = grind (arith, nat_tests)
