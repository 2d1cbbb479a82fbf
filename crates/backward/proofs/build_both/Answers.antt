-- `backward::build_both` meets its contract. Assumes nothing.
use Rattle.lists.proofs.Tests.{fell, held}
use Rattle.backward.proofs.Before.{both_room, rooms_read}
use Rattle.backward.proofs.build_both.Goals as goal

pub returns-then-not-rooms_fit : goal.returns-then-not-rooms_fit
returns-then-not-rooms_fit c =
    both_room _ _ _ _ c.requires
    (rooms_read c.args.room c.args.reverse c.args.table.now c.args.reverse_table.now c.args.reverse_vectors.now c.args.rows.now c.shape.ensures (fell c.rooms_fit.ensures c.if-not-rooms_fit.true))

pub build_rows-requires : goal.build_rows-requires
build_rows-requires c = (c.requires, rooms_read c.args.room c.args.reverse c.args.table.now c.args.reverse_table.now c.args.reverse_vectors.now c.args.rows.now c.shape.ensures (held c.rooms_fit.ensures c.if-not-rooms_fit.false))

pub returns : goal.returns
returns c = c.build_rows.ensures
