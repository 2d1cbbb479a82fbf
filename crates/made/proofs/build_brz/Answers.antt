-- `made::build_brz` meets its contract. Assumes nothing.
use Rattle.std.proofs.lemmas.Result.{err_from_is_err_and}
use Rattle.made.proofs.Made.{brz_made, first_made}
use Rattle.made.proofs.build_brz.Goals as goal

pub returns-in_err-both : goal.returns-in_err-both
returns-in_err-both c =
    let p = err_from_is_err_and c.from_residual.result c.from_residual.ensures.1 in
    rw (p.1, p.2) (rw c.in_err-both.was at (brz_made _ _ c.brzozowski.ensures (rw (c.requires, c.blank.ensures, c.blank-2.ensures, c.blank-3.ensures))))

pub returns : goal.returns
returns c = first_made (rw c.in_ok-both.was at (brz_made _ _ c.brzozowski.ensures (rw (c.requires, c.blank.ensures, c.blank-2.ensures, c.blank-3.ensures))))
