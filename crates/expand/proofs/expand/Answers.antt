-- `expand::expand` meets its contract. Assumes nothing.
use lib.ListN.{length-take, length-drop}
use mathlib.Core.Path.{ap}
use native.Mathlib.Omega.{arith}
use Prim.Native.Nat.{◌+◌, ◌*◌}
use Rattle.expand.proofs.Growing.{expand_from, row_within, copy_is, copy_asks}
use Rattle.expand.proofs.expand.Goals as goal

pub write_row-requires : goal.write_row-requires
write_row-requires c = (
  copy_asks c.requires _ c.copy_of-copy.ensures,
  rw c.letters.ensures.is (simp (length-take, length-drop) (omega (arith, row_within c.requires))),
)

pub returns : goal.returns
returns c =
    expand_from _ _ _ c.args.table.now c.write_row.new.row _ _ _ _ c.write_row.result (ap (λ m. c.args.i * (1 + 2 * m)) c.letters.ensures.is)
    (row_within c.requires) (copy_is c.requires _ c.copy_of-copy.ensures) c.write_row.ensures
