-- `made::build_nerode` meets its contract. Assumes nothing.
use Rattle.made.proofs.Made.{nerode_made}
use Rattle.made.proofs.build_nerode.Goals as goal

pub returns : goal.returns
returns c = nerode_made _ _ c.requires c.blank.ensures c.nerode.ensures
