-- `key_bytes::put_key` meets its contract. Assumes nothing.
use native.Mathlib.Omega.{arith}
use Rattle.lists.proofs.Lent.{in_front_none}
use Rattle.paper.specs.Lists.{joined}
use Rattle.kinds.proofs.Keys.{key_more, key_all}
use Rattle.key_bytes.proofs.put_key.Goals as goal

pub loop-letter-init : goal.loop-letter-init
unfolding joined
loop-letter-init c = in_front_none _

pub loop-letter-preserved : goal.loop-letter-preserved
loop-letter-preserved c =
    rw c.n-n.ensures.is
    (key_more c.args.chart.now c.args.v.now c.args.out.now c.requires.1 c.loop-letter.letter c.loop-letter.out _
    (rw (← c.letters-letters.ensures.is) (omega arith)) c.loop-letter.auto.out c.loop-letter.invariant (rw c.n-n.ensures.is at c.row_times.ensures))

pub returns : goal.returns
returns c =
    rw (c.letters-letters.ensures.is, c.n-n.ensures.is)
    (key_all c.args.chart.now c.args.v.now c.args.out.now c.requires.1 c.loop-letter.letter c.loop-letter.out
    (rw (← c.letters-letters.ensures.is) (omega arith)) c.loop-letter.invariant c.end_grade.ensures.is)
