-- `bench::reader::read_word` meets its contract. Assumes nothing.
use mathlib.Core.Path.{ap, ◌∙◌}
use native.Mathlib.Omega.{arith}
use Rattle.paper.specs.Words.{after}
use Rattle.paper.specs.Tables.{reader_takes, reader_state, grade_reply}
use Rattle.bench.specs.declared.reader.Reader.{Reader}
use Rattle.bench.proofs.Words.{read_more, read_end}
use Rattle.bench.proofs.reader.read_word.Goals as goal

pub loop-letter-init : goal.loop-letter-init
unfolding reader_state
loop-letter-init c =
    let e = c.new-reader.ensures in
    record { leads = ap (λ s. after (reader_takes c.args.rows.now c.args.count c.args.m) s c.args.word.now) (omega (arith, e.3)); rows = ap (λ r. r.now) e.0; count = e.1; m = e.2 }

pub loop-letter-preserved : goal.loop-letter-preserved
loop-letter-preserved c =
    let i = c.loop-letter.invariant in
    let e = c.step.ensures.1 in
    record {
      leads =
          read_more _ _ c.loop-letter.reader.state c.loop-letter.letter-index _ _ _ c.loop-letter-test.true c.from.ensures
          (ap (λ (r : Reader). r.state) e ∙ rw (i.rows, i.count, i.m))
          i.leads;
      rows = ap (λ (r : Reader). r.rows.now) e ∙ i.rows;
      count = ap (λ (r : Reader). r.count) e ∙ i.count;
      m = ap (λ (r : Reader). r.m) e ∙ i.m;
    }

pub returns : goal.returns
returns c =
    let i = c.loop-letter.invariant in
    c.grade.ensures
    ∙ rw (i.rows, i.count, i.m) (ap (grade_reply _ _ _) (read_end _ _ c.loop-letter.reader.state c.loop-letter.letter-index _ (omega arith) i.leads))
