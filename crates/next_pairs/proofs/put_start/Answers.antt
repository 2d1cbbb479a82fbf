-- `next_pairs::put_start` meets its contract: the two bytes of state 0, then the chart's start vector. Assumes nothing.
use native.Mathlib.Omega.{arith}
use borrow.Author.Rules.{rules}
use Prim.Native.Nat.{◌≤◌}
use lib.ListN.{length, length-take, length-drop}
use Rattle.lines.proofs.PairBytes.{zero_bytes}
use Rattle.next_pairs.proofs.NextPairs.{start_long, start_put}
use Rattle.next_pairs.proofs.put_start.Goals as goal

pub copy_from_slice-requires : goal.copy_from_slice-requires
copy_from_slice-requires c = simp (length-take, length-drop) (omega (arith, c.requires, c.n.ensures.is, start_long c.args.chart.now c.start.ensures.is))

pub returns : goal.returns
returns c =
    let l : 2 ≤ length c.args.out.now = omega (arith, c.requires) in
    rw c.copy_from_slice.ensures.after
    (start_put c.args.chart.now c.args.out.now l c.n.ensures.is (zero_bytes c.args.out.now l (search rules)) c.start.ensures.is)
