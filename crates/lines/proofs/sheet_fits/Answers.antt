-- `lines::sheet_fits` meets its contract: its bytes are there, and every line fits. Assumes nothing.
use mathlib.Core.Path.{refl, sym}
use borrow.Author.Rules.{rules}
use borrow.Author.Tests.{tests}
use Rattle.std.proofs.lemmas.Iterator.{serves_from_Range}
use Rattle.paper.specs.Lists.{both}
use Rattle.paper.specs.Sheets.{line_fits, sheet_fits}
use Rattle.lists.proofs.Methods.{range_all}
use Rattle.lines.proofs.Reading.{bytes_in, line_in}
use Rattle.lines.proofs.sheet_fits.Goals as goal

pub all-requires-clause-callable : goal.all-requires-clause-callable
all-requires-clause-callable c =
    serves_from_Range (λ x q k. search (rules, tests))
    (λ x low high. let r = line_in (bytes_in c.args.chart.now c.args.sheet.now c.args.lines (sym c.if-bytes_there.ensures)) high in search rules)

pub returns-then-bytes_there : goal.returns-then-bytes_there
unfolding sheet_fits both
returns-then-bytes_there c =
    let e = range_all _ _ c.all.result (line_fits c.args.chart.now c.args.count c.args.sheet.now) c.args.lines refl c.all.ensures.ran (λ x b q k. search rules) in
    rw (← c.if-bytes_there.ensures) e

pub returns-else-bytes_there : goal.returns-else-bytes_there
unfolding sheet_fits both
returns-else-bytes_there c = rw (c.if-bytes_there.false, ← c.if-bytes_there.ensures) refl
