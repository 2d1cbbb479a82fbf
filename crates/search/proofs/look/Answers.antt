-- `search::look` meets its contract. Assumes nothing.
use Rattle.search.proofs.Found.{sought_new}
use Rattle.search.proofs.look.Goals as goal

pub returns-then-is_none : goal.returns-then-is_none
returns-then-is_none c = sought_new c.requires.0 c.requires.3 c.find-found.ensures c.requires.2 c.mark-number.ensures c.chain.ensures c.if-is_none.ensures
