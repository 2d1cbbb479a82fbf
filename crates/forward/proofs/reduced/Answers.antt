-- `forward::reduced` meets its contract. Assumes nothing.
use mathlib.Core.Path.{refl}
use Rattle.std.proofs.lemmas.Result.{err_from_is_err_and}
use Rattle.paper.specs.Builders.{reduced}
use Rattle.std.proofs.lemmas.Result.{err_from_is_err_and}
use Rattle.kinds.specs.declared.Kind.TheVariants.{Reduced}
use Rattle.forward.proofs.Refused.{build_refused, opened_fits, build_opened}
use Rattle.forward.proofs.reduced.Goals as goal

pub build-requires : goal.build-requires
build-requires c = (refl, opened_fits _ _ c.in_ok-open.ensures)

pub returns-in_err-open : goal.returns-in_err-open
unfolding reduced
returns-in_err-open c =
    let p = err_from_is_err_and c.from_residual.result c.from_residual.ensures.1 in
    rw (p.1, p.2) (build_refused _ _ _ _ _ _ c.in_err-open.ensures)

pub returns : goal.returns
unfolding reduced
returns c = build_opened _ _ c.in_ok-open.ensures Reduced _ _ _ c.build.ensures
