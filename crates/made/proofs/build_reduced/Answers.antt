-- `made::build_reduced` meets its contract. Assumes nothing.
use Rattle.made.proofs.Made.{reduced_made}
use Rattle.made.proofs.build_reduced.Goals as goal

pub returns : goal.returns
returns c = reduced_made _ _ c.requires c.blank.ensures c.reduced.ensures
