-- `vector_build::build` meets its contract. Assumes nothing.
use mathlib.Core.List.{[]}
use native.Mathlib.Omega.{arith}
use Rattle.lists.proofs.Tests.{fell, held}
use Rattle.vector_build.proofs.Built.{room_read, room_parts, build_room, build_full, build_done}
use Rattle.walk.proofs.VectorPlan.{vector_sized, vector_asks}
use Rattle.rooms.proofs.Rooms.{zeros_of}
use Rattle.vector_build.proofs.build.Goals as goal

pub returns-then-not-room_fits : goal.returns-then-not-room_fits
returns-then-not-room_fits c =
    build_room c.args.kind _ c.requires.1 _ _ _
    (room_read c.args.kind _ c.requires.1 _ _ _ c.letters.ensures.is c.n-n.ensures.is (fell c.room_fits.ensures c.if-not-room_fits.true))

pub invariant_of-plan : goal.invariant_of-plan
invariant_of-plan c =
    let ok = room_read c.args.kind _ c.requires.1 _ _ _ c.letters.ensures.is c.n-n.ensures.is (held c.room_fits.ensures c.if-not-room_fits.false) in
    record { sized = vector_sized c.args.kind _ c.requires.1 (room_parts c.args.kind _ c.requires.1 _ _ _ ok) (omega arith) c.n-n.ensures.is }

pub grow-requires : goal.grow-requires
grow-requires c =
    let ok = room_read c.args.kind _ c.requires.1 _ _ _ c.letters.ensures.is c.n-n.ensures.is (held c.room_fits.ensures c.if-not-room_fits.false) in
    vector_asks _ c.requires.0 c.n-n.ensures.is (room_parts c.args.kind _ c.requires.1 _ _ _ ok)

pub returns-in_default : goal.returns-in_default
returns-in_default c =
    let ok = room_read c.args.kind _ c.requires.1 _ _ _ c.letters.ensures.is c.n-n.ensures.is (held c.room_fits.ensures c.if-not-room_fits.false) in
    build_full c.args.kind c.requires.0 _ [] c.requires.1 _ _ c.n-n.ensures.is _ _ ok c.in_default.ensures
    (zeros_of c.args.table.now c.grow.new.table (c.fill.ensures.after (λ y e. e)) c.grow.auto.table)
    (zeros_of c.args.vectors.now c.grow.new.vectors (c.fill-in_default.ensures.after (λ y e. e)) c.grow.auto.vectors)

pub returns : goal.returns
returns c =
    let ok = room_read c.args.kind _ c.requires.1 _ _ _ c.letters.ensures.is c.n-n.ensures.is (held c.room_fits.ensures c.if-not-room_fits.false) in
    build_done c.args.kind c.requires.0 _ [] c.requires.1 _ _ c.n-n.ensures.is _ _ ok c.in-Some.ensures
