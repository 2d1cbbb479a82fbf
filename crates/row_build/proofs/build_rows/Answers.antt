-- `row_build::build_rows` meets its contract. Assumes nothing.
use mathlib.Core.Path.{refl}
use native.Mathlib.Omega.{arith}
use Rattle.row_build.proofs.RowsBuilt.{rooms, back_rooms, back_sized, back_full, reverses, rows_sized, rows_full, rows_done}
use Rattle.rooms.proofs.Rooms.{zeros_of}
use Rattle.walk.proofs.VectorPlan.{vector_asks}
use Rattle.row_build.proofs.build_rows.Goals as goal

pub invariant_of-back : goal.invariant_of-back
invariant_of-back c = record { sized = back_sized _ c.requires.0 _ _ _ _ _ _ c.requires.1 c.n-n.ensures.is }

pub grow-requires : goal.grow-requires
grow-requires c = vector_asks _ refl c.n-n.ensures.is (back_rooms _ c.requires.0 _ _ _ _ _ _ c.requires.1)

pub returns-in_default : goal.returns-in_default
returns-in_default c =
    back_full _ c.requires.0 _ _ _ _ _ _ c.requires.1 c.in_default.ensures c.zero_all.ensures.0
    (zeros_of c.args.reverse_table.now c.grow.new.table c.zero_all.ensures.1 c.grow.auto.table)
    (zeros_of c.args.reverse_vectors.now c.grow.new.vectors c.zero_all.ensures.2 c.grow.auto.vectors) c.zero_all.ensures.3

pub invariant_of-plan : goal.invariant_of-plan
invariant_of-plan c = record { sized = rows_sized _ c.requires.0 _ _ _ _ _ _ c.requires.1 c.n-n.ensures.is c.in-Some.ensures _ (omega (arith, c.in-Some.ensures.roomy)) (omega (arith, c.in-Some.ensures.roomy)) }

pub grow-requires-2 : goal.grow-requires-2
grow-requires-2 c =
    let r = rooms _ c.requires.0 _ _ _ _ _ _ c.requires.1 in
    record {
      ready = λ _. reverses _ c.requires.0 _ _ _ _ _ _ c.requires.1 c.n-n.ensures.is c.in-Some.ensures c.grow.auto.table;
      table_fits = r.rows;
      fits = r.places;
    }

pub returns-in_default-grow : goal.returns-in_default-grow
returns-in_default-grow c =
    rows_full _ c.requires.0 _ _ _ _ _ _ c.requires.1 c.n-n.ensures.is c.in-Some.ensures c.in_default-grow.ensures
    (zeros_of c.args.table.now c.grow-2.new.table c.zero_all-in_default-grow.ensures.0 c.grow-2.auto.table)
    (zeros_of c.args.reverse_table.now c.grow.new.table c.zero_all-in_default-grow.ensures.1 c.grow.auto.table)
    (zeros_of c.args.reverse_vectors.now c.grow.new.vectors c.zero_all-in_default-grow.ensures.2 c.grow.auto.vectors)
    (zeros_of c.args.rows.now c.grow-2.new.vectors c.zero_all-in_default-grow.ensures.3 c.grow-2.auto.vectors)

pub returns : goal.returns
returns c = rows_done _ c.requires.0 _ _ _ _ _ _ c.requires.1 c.n-n.ensures.is c.in-Some.ensures c.in-Some-grow.ensures
