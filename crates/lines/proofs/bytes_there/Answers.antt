-- `lines::bytes_there` meets its contract. Assumes nothing.
use mathlib.Core.Path.{refl}
use Rattle.lines.proofs.Reading.{many_lines, bytes_said}
use Rattle.lines.proofs.bytes_there.Goals as goal

pub returns-then-lines-le4096 : goal.returns-then-lines-le4096
returns-then-lines-le4096 c = bytes_said c.args.chart.now c.args.sheet.now c.args.lines c.n.ensures.is c.if-lines-le4096.true refl

pub returns-else-lines-le4096 : goal.returns-else-lines-le4096
returns-else-lines-le4096 c = many_lines c.args.chart.now c.args.sheet.now c.args.lines c.if-lines-le4096.false
