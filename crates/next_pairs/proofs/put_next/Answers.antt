-- `next_pairs::put_next` meets its contract: the two bytes of the next state, then the product. Assumes nothing.
use native.Mathlib.Omega.{arith}
use mathlib.Core.Path.{◌∙◌}
use Prim.Native.Nat.{◌≤◌}
use lib.ListN.{length}
use Rattle.std.proofs.lemmas.Grind.{common_steps}
use Rattle.paper.specs.Tables.{two_bytes}
use Rattle.lines.proofs.PairBytes.{pair_put}
use Rattle.next_pairs.proofs.NextPairs.{next_put}
use Rattle.next_pairs.proofs.put_next.Goals as goal

pub next_at-s-requires : goal.next_at-s-requires
next_at-s-requires c = rw c.letters.ensures.is (c.state.ensures.1, c.requires.1)

pub row_times-requires : goal.row_times-requires
row_times-requires c = (c.requires.1, c.vector.ensures.grades, grind (arith, common_steps))

pub returns : goal.returns
unfolding two_bytes
returns c =
    let l : 2 ≤ length c.args.out.now = omega (arith, c.requires.2) in
    next_put _ _ _ _ c.letters.ensures.is c.state.ensures.0 c.vector.ensures.is c.args.x c.args.out.now c.next_at-s.ensures
    (pair_put c.args.out.now _ _ c.row_times.new.out l c.next_at-s.result (c.copy_from_slice.ensures.after ∙ c.to_be_bytes.ensures) c.row_times.ensures)
