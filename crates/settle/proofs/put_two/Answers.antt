-- `settle::put_two` meets its contract. Assumes nothing.
use mathlib.Core.Path.{◌≡◌}
use native.Mathlib.Omega.{arith}
use Prim.Native.Nat.{◌+◌, ◌-◌}
use lib.Seq.{drop-drop}
use Rattle.paper.specs.Tables.{two_bytes}
use Rattle.places.specs.Memory.{spliced}
use Rattle.settle.proofs.put_two.Goals as goal

pub returns : goal.returns
unfolding two_bytes spliced
returns c = let e : c.args.at + 2 - c.args.at ≡ 2 = omega arith in rw (e, c.copy_from_slice.ensures.after, c.to_be_bytes.ensures, drop-drop)
