-- `reading::read_chart` meets its contract: a short buffer, a chart, and a refusal that zeroes.
-- Assumes nothing.
use native.Mathlib.Omega.{arith}
use Rattle.std.proofs.Common.{rules}
use Rattle.lists.proofs.Tests.{fell, held}
use Rattle.reading.proofs.Whole.{short_read, chart_refused, chart_left}
use Rattle.reading.proofs.read_chart.Goals as goal

pub returns-then-chart-lt-CHART_MOST : goal.returns-then-chart-lt-CHART_MOST
returns-then-chart-lt-CHART_MOST c = short_read _ _ (omega arith)

pub returns-then-is_err : goal.returns-then-is_err
returns-then-is_err c = chart_refused _ _ (search) _ _ c.read_whole-read.ensures _ (search rules) (held c.is_err.ensures.value c.if-is_err.true)

pub returns-else-is_err : goal.returns-else-is_err
returns-else-is_err c = chart_left _ _ (search) _ _ c.read_whole-read.ensures (fell c.is_err.ensures.value c.if-is_err.false)
