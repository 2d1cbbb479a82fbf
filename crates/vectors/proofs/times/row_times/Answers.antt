-- `vectors::times::row_times` meets its contract: the place is zeroed, and the rows are joined over the zeros. Assumes nothing.
use borrow.Author.Rules.{rules}
use Rattle.vectors.proofs.Products.{blank, row_over}
use Rattle.vectors.proofs.times.row_times.Goals as goal

pub join_rows-requires : goal.join_rows-requires
join_rows-requires c = (c.requires.0, c.requires.1, blank _ _ _ (rw c.n.ensures.is c.requires.2) (search rules) c.n.ensures.is)

pub returns : goal.returns
returns c = row_over _ _ _ (rw c.n.ensures.is c.requires.2) (search rules) _ _ _ _ c.n.ensures.is c.join_rows.ensures
