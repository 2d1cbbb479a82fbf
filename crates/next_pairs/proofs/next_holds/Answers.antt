-- `next_pairs::next_holds` meets its contract. Assumes nothing.
use Rattle.next_pairs.proofs.NextPairs.{next_is}
use Rattle.next_pairs.proofs.next_holds.Goals as goal

pub returns : goal.returns
returns c = next_is _ _ _ _ _ _ _ c.n-size.ensures.is c.put_next.ensures c.holds.ensures
