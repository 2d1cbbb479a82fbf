-- `chart::open` meets its contract. Assumes nothing.
use native.Mathlib.Omega.{arith}
use mathlib.Core.Path.{subst}
use Rattle.std.proofs.lemmas.Result.{err_from_is_err_and}
use Rattle.std.proofs.lemmas.List.{take_all}
use Rattle.cells.specs.Shaped.{Shaped}
use Rattle.chart.proofs.Checked.{shaped, fits_fine, fits_refused}
use Rattle.chart.proofs.open.Goals as goal

pub returns-in_err-shape : goal.returns-in_err-shape
returns-in_err-shape c =
    let p = err_from_is_err_and c.from_residual.result c.from_residual.ensures.1 in
    rw (p.1, p.2) (fits_refused _ (grind arith) c.in_err-shape.was, grind arith)

pub new-requires : goal.new-requires
new-requires c = subst (λ b. Shaped b c.in_ok-shape.shape) (grind (arith, take_all)) (shaped c.args.bytes.now (grind arith) c.in_ok-shape.was)

pub returns : goal.returns
returns c = (fits_fine _ (grind arith) c.in_ok-shape.was, grind (arith, take_all))
