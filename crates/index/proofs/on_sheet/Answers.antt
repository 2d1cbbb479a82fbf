-- `index::on_sheet` meets its contract: a walk along the chain passes over no line that is the pair. Assumes nothing.
use mathlib.Core.Path.{refl}
use native.Mathlib.Omega.{arith}
use Rattle.marks.proofs.ChainLaws.{next_low}
use Rattle.lines.proofs.Reading.{line_in}
use Rattle.index.proofs.Looking.{looking_start, looking_next, found, nowhere}
use Rattle.index.proofs.on_sheet.Goals as goal

pub loop-next-init : goal.loop-next-init
loop-next-init c = looking_start c.requires.0 c.args.pair.now c.mark-number.ensures c.last_with-next.ensures

pub is_pair-requires : goal.is_pair-requires
is_pair-requires c =
    let k = rw c.in-Some.is at c.loop-next.invariant in
    (line_in c.requires.0.lines_in k.on.low, omega (arith, c.requires.0.lines_in.few, k.on.low), c.requires.0.numbered _ k.on.low, c.mark-number.ensures)

pub returns-then-is_pair : goal.returns-then-is_pair
returns-then-is_pair c =
    let k = rw c.in-Some.is at c.loop-next.invariant in
    found c.requires.0.lines_in c.args.pair.now c.in-Some.i k.on.low c.is_pair.ensures c.if-is_pair.true

pub loop-next-smaller : goal.loop-next-smaller
loop-next-smaller c =
    let k = rw c.in-Some.is at c.loop-next.invariant in
    rw c.in-Some.is (omega (arith, next_low c.requires.0.chained c.mark-number.result k.on refl c.earlier-next.ensures))

pub loop-next-preserved : goal.loop-next-preserved
loop-next-preserved c =
    let k = rw c.in-Some.is at c.loop-next.invariant in
    looking_next c.requires.0 c.args.pair.now c.mark-number.ensures k refl c.is_pair.ensures c.if-is_pair.false c.earlier-next.ensures

pub returns : goal.returns
returns c =
    nowhere c.requires.0.lines_in c.args.pair.now c.requires.1 (λ j. omega (arith, c.type_inv.sheet j)) (omega (arith, c.type_inv.pair 1))
    (rw c.in_default.is at c.loop-next.invariant.past)
