-- `rows::table_fits` meets its contract. Assumes nothing.
use mathlib.Core.Path.{refl}
use Rattle.std.proofs.Common.{rules, tests, sym}
use Rattle.std.proofs.lemmas.Iterator.{serves_from_Range}
use Rattle.paper.specs.Lists.{both}
use Rattle.paper.specs.Tables.{row_fits, table_fits}
use Rattle.lists.proofs.Methods.{range_all}
use Rattle.rows.proofs.Rows.{row_in}
use Rattle.rows.proofs.table_fits.Goals as goal

pub all-requires-clause-callable : goal.all-requires-clause-callable
all-requires-clause-callable c =
    serves_from_Range (λ x q k. search (rules, tests))
    (λ x low high. let r = row_in c.args.rows.now c.args.count c.args.m x (sym c.if-size_fits.ensures) high in search rules)

pub returns-then-size_fits : goal.returns-then-size_fits
unfolding table_fits both
returns-then-size_fits c =
    let e = range_all _ _ c.all.result (row_fits c.args.rows.now c.args.count c.args.m c.args.top) c.args.count refl c.all.ensures.ran (λ x b q k. search (rules, tests)) in
    rw (← c.if-size_fits.ensures) e

pub returns-else-size_fits : goal.returns-else-size_fits
unfolding table_fits both
returns-else-size_fits c = rw (c.if-size_fits.false, ← c.if-size_fits.ensures) refl
