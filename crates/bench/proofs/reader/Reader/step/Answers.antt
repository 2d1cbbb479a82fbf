-- `bench::reader::Reader::step` meets its contract: the answer of `steps::step`, and the state that this answer leaves. Assumes nothing.
use mathlib.Core.Path.{ap, ◌∙◌}
use Rattle.paper.specs.Tables.{state_after, reader_takes}
use Rattle.bench.specs.Bench.{at_state}
use Rattle.bench.proofs.reader.Reader.step.Goals as goal

pub returns : goal.returns
unfolding reader_takes
returns c = (
  c.step-answer.ensures,
  ap (at_state c.args.self.now) (c.state_after-self.ensures ∙ ap (state_after c.args.self.now.state) c.step-answer.ensures),
)
