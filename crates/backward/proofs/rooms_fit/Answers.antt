-- `backward::rooms_fit` meets its contract. Assumes nothing.
use native.Mathlib.Omega.{arith}
use mathlib.Core.Path.{sym, ◌∙◌}
use Rattle.lists.proofs.Tests.{both_not_right}
use Rattle.rooms.proofs.Rooms.{roomy, first_decides}
use Rattle.backward.proofs.rooms_fit.Goals as goal

pub room_fits-requires-then-room_fits : goal.room_fits-requires-then-room_fits
room_fits-requires-then-room_fits c = (omega arith, c.requires.0, (roomy _ _ _ _ _ _ (sym c.room_fits.ensures ∙ c.if-room_fits.true)).high)

pub returns-then-room_fits : goal.returns-then-room_fits
returns-then-room_fits c =
    first_decides _ _ c.room_fits-then-room_fits.ensures (sym c.room_fits.ensures ∙ c.if-room_fits.true)

pub returns-else-room_fits : goal.returns-else-room_fits
returns-else-room_fits c =
    c.if-room_fits.false ∙ sym (both_not_right _ _ (sym c.room_fits.ensures ∙ c.if-room_fits.false))
