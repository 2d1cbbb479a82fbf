-- `rest_lines::read_rest` meets its contract. The loop's invariant: the lines that are left come to what all of them come to.
-- Assumes nothing.
use mathlib.Core.Path.{ap}
use native.Mathlib.Omega.{arith}
use Rattle.rest_lines.specs.Reading.{refused_by}
use Rattle.lists.proofs.Tests.{fell, held}
use Rattle.rest_lines.proofs.Loop.{loop_start, loop_end, loop_room, loop_step, loop_bad, loop_frame, loop_falls, loop_line, read_all, read_over}
use Rattle.lists.proofs.Front.{picked}
use Rattle.rest_lines.proofs.read_rest.Goals as goal

pub loop-cursor-init : goal.loop-cursor-init
loop-cursor-init c = rw c.behind-cursor.ensures (loop_start _ _ _ c.requires)

pub slice_bounds-read_frame-count : goal.slice_bounds-read_frame-count
slice_bounds-read_frame-count c = omega (arith, loop_room c.loop-cursor.invariant c.loop-cursor-test.true _ c.rule_of-due.ensures)

pub slice_bounds-read_frame-start : goal.slice_bounds-read_frame-start
slice_bounds-read_frame-start c = omega (arith, loop_room c.loop-cursor.invariant c.loop-cursor-test.true _ c.rule_of-due.ensures)

pub read_frame-requires : goal.read_frame-requires
read_frame-requires c = loop_frame c.loop-cursor.invariant c.loop-cursor-test.true _ c.rule_of-due.ensures

pub returns-then-not-read_frame : goal.returns-then-not-read_frame
returns-then-not-read_frame c = ap refused_by (loop_bad c.loop-cursor.invariant c.loop-cursor-test.true _ c.rule_of-due.ensures (fell c.read_frame.ensures.0 c.if-not-read_frame.true))

pub behind-cursor-requires-in-loop-cursor : goal.behind-cursor-requires-in-loop-cursor
behind-cursor-requires-in-loop-cursor c = loop_step c.loop-cursor.invariant c.loop-cursor-test.true _ c.rule_of-due.ensures

pub loop-cursor-smaller : goal.loop-cursor-smaller
loop-cursor-smaller c = rw c.behind-cursor-in-loop-cursor.ensures (loop_falls c.loop-cursor.invariant c.loop-cursor-test.true _ c.rule_of-due.ensures (held c.read_frame.ensures.0 c.if-not-read_frame.false))

pub loop-cursor-preserved : goal.loop-cursor-preserved
loop-cursor-preserved c = rw c.behind-cursor-in-loop-cursor.ensures (loop_line c.loop-cursor.invariant c.loop-cursor-test.true _ c.rule_of-due.ensures (held c.read_frame.ensures.0 c.if-not-read_frame.false) _ (picked c.read_frame.result _ _ _ c.read_frame.ensures.1 c.if-not-read_frame.false))

pub returns-then-cursor-text : goal.returns-then-cursor-text
returns-then-cursor-text c = ap refused_by (read_over (loop_end c.loop-cursor.invariant (omega arith)) c.if-cursor-text.true)

pub returns : goal.returns
returns c = read_all (loop_end c.loop-cursor.invariant (omega arith)) c.if-cursor-text.false
