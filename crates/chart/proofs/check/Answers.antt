-- `chart::check` meets its contract: each return is one step of the definition. Assumes nothing.
use mathlib.Core.Path.{refl, sym, subst}
use Rattle.std.specs.Prelude.{Ok, Err}
use Rattle.laws.specs.Laws.{FirstBroken}
use native.Mathlib.Omega.{arith}
use Rattle.std.proofs.lemmas.Result.{err_from_is_err_and}
use Rattle.chart.proofs.Ranges.{sizes_are}
use Rattle.chart.proofs.Checked.{Head, Headed, Laid, Graded, headed, laid, head_fits_is, head_shape, size_is, shaped_by, reply_head, reply_sizes, reply_short, reply_grade, reply_law, reply_fine}
use Rattle.chart.proofs.check.Goals as goal

pub returns-in_default : goal.returns-in_default
returns-in_default c = reply_head _ c.in_default.len_below

pub returns-then-not-sizes_fit : goal.returns-then-not-sizes_fit
returns-then-not-sizes_fit c =
    let head : Head c.args.chart.now c.from-k.result c.from-e.result c.from-n.result c.from-m.result =
    record { k_is = c.from-k.ensures; e_is = c.from-e.ensures; n_is = c.from-n.ensures; m_is = c.from-m.ensures } in
    reply_sizes _ c.in-len4-up.len_at_least (head_fits_is head c.if-not-sizes_fit.ensures)

pub laid_out-shape-requires : goal.laid_out-shape-requires
laid_out-shape-requires c = sizes_are _ _ _ _ (sym c.if-not-sizes_fit.ensures)

pub returns-then-chart-shape : goal.returns-then-chart-shape
returns-then-chart-shape c =
    let head : Head c.args.chart.now c.from-k.result c.from-e.result c.from-n.result c.from-m.result =
    record { k_is = c.from-k.ensures; e_is = c.from-e.ensures; n_is = c.from-n.ensures; m_is = c.from-m.ensures } in
    let t : Headed c.args.chart.now = headed head c.in-len4-up.len_at_least c.if-not-sizes_fit.ensures in
    reply_short t (omega (arith, size_is _ _ (head_shape head _ c.laid_out-shape.ensures)))

pub grades_fit-requires : goal.grades_fit-requires
grades_fit-requires c =
    let head : Head c.args.chart.now c.from-k.result c.from-e.result c.from-n.result c.from-m.result =
    record { k_is = c.from-k.ensures; e_is = c.from-e.ensures; n_is = c.from-n.ensures; m_is = c.from-m.ensures } in
    let t : Headed c.args.chart.now = headed head c.in-len4-up.len_at_least c.if-not-sizes_fit.ensures in
    let l : Laid c.args.chart.now c.laid_out-shape.result = laid head _ t c.laid_out-shape.ensures c.if-chart-shape.false in
    (refl, size_is _ _ l.shape, c.if-chart-shape.false)

pub returns-then-not-grades_fit : goal.returns-then-not-grades_fit
returns-then-not-grades_fit c =
    let head : Head c.args.chart.now c.from-k.result c.from-e.result c.from-n.result c.from-m.result =
    record { k_is = c.from-k.ensures; e_is = c.from-e.ensures; n_is = c.from-n.ensures; m_is = c.from-m.ensures } in
    let t : Headed c.args.chart.now = headed head c.in-len4-up.len_at_least c.if-not-sizes_fit.ensures in
    let l : Laid c.args.chart.now c.laid_out-shape.result = laid head _ t c.laid_out-shape.ensures c.if-chart-shape.false in
    reply_grade l (sym c.if-not-grades_fit.ensures)

pub new-requires : goal.new-requires
new-requires c =
    let head : Head c.args.chart.now c.from-k.result c.from-e.result c.from-n.result c.from-m.result =
    record { k_is = c.from-k.ensures; e_is = c.from-e.ensures; n_is = c.from-n.ensures; m_is = c.from-m.ensures } in
    let t : Headed c.args.chart.now = headed head c.in-len4-up.len_at_least c.if-not-sizes_fit.ensures in
    let l : Laid c.args.chart.now c.laid_out-shape.result = laid head _ t c.laid_out-shape.ensures c.if-chart-shape.false in
    let g : Graded c.args.chart.now c.laid_out-shape.result = record { laid = l; grades = sym c.if-not-grades_fit.ensures } in
    shaped_by g

pub returns-in_err-first_broken : goal.returns-in_err-first_broken
returns-in_err-first_broken c =
    let head : Head c.args.chart.now c.from-k.result c.from-e.result c.from-n.result c.from-m.result =
    record { k_is = c.from-k.ensures; e_is = c.from-e.ensures; n_is = c.from-n.ensures; m_is = c.from-m.ensures } in
    let t : Headed c.args.chart.now = headed head c.in-len4-up.len_at_least c.if-not-sizes_fit.ensures in
    let l : Laid c.args.chart.now c.laid_out-shape.result = laid head _ t c.laid_out-shape.ensures c.if-chart-shape.false in
    let g : Graded c.args.chart.now c.laid_out-shape.result = record { laid = l; grades = sym c.if-not-grades_fit.ensures } in
    let p = err_from_is_err_and c.from_residual.result c.from_residual.ensures.1 in
    rw (p.1, p.2) (reply_law g _ (subst (λ v. FirstBroken v (Err c.in_err-first_broken.field-0.0)) c.new.ensures c.in_err-first_broken.ensures))

pub returns : goal.returns
returns c =
    let head : Head c.args.chart.now c.from-k.result c.from-e.result c.from-n.result c.from-m.result =
    record { k_is = c.from-k.ensures; e_is = c.from-e.ensures; n_is = c.from-n.ensures; m_is = c.from-m.ensures } in
    let t : Headed c.args.chart.now = headed head c.in-len4-up.len_at_least c.if-not-sizes_fit.ensures in
    let l : Laid c.args.chart.now c.laid_out-shape.result = laid head _ t c.laid_out-shape.ensures c.if-chart-shape.false in
    let g : Graded c.args.chart.now c.laid_out-shape.result = record { laid = l; grades = sym c.if-not-grades_fit.ensures } in
    reply_fine g (subst (λ v. FirstBroken v (Ok tt)) c.new.ensures c.in_ok-first_broken.ensures)
