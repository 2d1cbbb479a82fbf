-- `next_pairs::start_holds` meets its contract. Assumes nothing.
use native.Mathlib.Omega.{arith}
use mathlib.Core.Path.{sym, ◌∙◌}
use Rattle.lines.proofs.PairBytes.{pair_said}
use Rattle.next_pairs.proofs.NextPairs.{length_start}
use Rattle.next_pairs.proofs.start_holds.Goals as goal

pub put_start-requires : goal.put_start-requires
put_start-requires c = omega (arith, c.n-size.ensures.is, c.n-size.ensures.high)

pub returns : goal.returns
returns c =
    pair_said 0 _ _ (length_start c.args.indexed.now.sheet.chart.now ∙ sym c.n-size.ensures.is) _ _ c.put_start.ensures c.args.indexed.now.sheet.chart.now c.args.indexed.now.sheet.bytes.now c.args.indexed.now.sheet.lines (omega arith)
    c.holds.ensures
