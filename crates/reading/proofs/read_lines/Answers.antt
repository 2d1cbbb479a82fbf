-- `reading::read_lines` meets its contract: the first line, its sizes, and what `read_rest` says of the others.
-- Assumes nothing.
use mathlib.Core.Path.{ap}
use Rattle.rest_lines.specs.Reading.{refused_by}
use Rattle.lists.proofs.Tests.{fell, held}
use Rattle.reading.proofs.Whole.{head_width, text_long, text_first, head_read, text_head, rest_in, rest_says}
use Rattle.lists.proofs.Front.{picked}
use Rattle.reading.proofs.read_lines.Goals as goal

pub returns-then-text-gt-TEXT_MOST : goal.returns-then-text-gt-TEXT_MOST
returns-then-text-gt-TEXT_MOST c = ap refused_by (text_long _ c.if-text-gt-TEXT_MOST.true)

pub returns-then-not-read_frame : goal.returns-then-not-read_frame
returns-then-not-read_frame c = ap refused_by (text_first _ (search) _ (head_width _ _ c.rule_of-head.ensures) (fell c.read_frame.ensures.0 c.if-not-read_frame.true))

pub returns-then-not-sizes_fit : goal.returns-then-not-sizes_fit
returns-then-not-sizes_fit c = ap refused_by (text_head (head_read _ _ _ _ (head_width _ _ c.rule_of-head.ensures) (search) (held c.read_frame.ensures.0 c.if-not-read_frame.false) (picked c.read_frame.result _ _ _ c.read_frame.ensures.1 c.if-not-read_frame.false)) _ _ _ _ c.from-k.ensures c.from-e.ensures c.from-n.ensures c.from-m.ensures (fell c.sizes_fit.ensures c.if-not-sizes_fit.true))

pub read_rest-requires : goal.read_rest-requires
read_rest-requires c = rest_in (head_read _ _ _ _ (head_width _ _ c.rule_of-head.ensures) (search) (held c.read_frame.ensures.0 c.if-not-read_frame.false) (picked c.read_frame.result _ _ _ c.read_frame.ensures.1 c.if-not-read_frame.false)) _ _ _ _ c.from-k.ensures c.from-e.ensures c.from-n.ensures c.from-m.ensures (held c.sizes_fit.ensures c.if-not-sizes_fit.false) (search)

pub returns : goal.returns
returns c = rest_says (head_read _ _ _ _ (head_width _ _ c.rule_of-head.ensures) (search) (held c.read_frame.ensures.0 c.if-not-read_frame.false) (picked c.read_frame.result _ _ _ c.read_frame.ensures.1 c.if-not-read_frame.false)) _ _ _ _ c.from-k.ensures c.from-e.ensures c.from-n.ensures c.from-m.ensures (held c.sizes_fit.ensures c.if-not-sizes_fit.false) c.read_rest.new.chart c.read_rest.result c.read_rest.ensures
