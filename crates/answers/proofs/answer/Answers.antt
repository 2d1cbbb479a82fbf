-- The text that is printed is the one due, since the chart was read as `program` reads it.
use Rattle.std.proofs.Common.{List, ℕ, subst}
use Rattle.shown.specs.Answered.{Answered}
use Rattle.answers.specs.Answers.{makes}
use Rattle.answers.proofs.ReadText.{read_refused, read_made}
use Rattle.answers.proofs.answer.Goals as goal

pub returns-in-Err-clause-answered : goal.returns-in-Err-clause-answered
returns-in-Err-clause-answered c =
    subst (λ (t : List ℕ). Answered t c.args.out.now c.refuse.new.out c.refuse.result)
    (read_refused (makes c.args.which) c.args.text.now c.read_chart.result c.blank-chart.ensures c.read_chart.ensures c.in-Err.is)
    c.refuse.ensures

pub returns-in-Ok-clause-answered : goal.returns-in-Ok-clause-answered
returns-in-Ok-clause-answered c =
    subst (λ (t : List ℕ). Answered t c.args.out.now c.answer_chart.new.out c.answer_chart.result)
    (read_made (makes c.args.which) c.args.text.now c.read_chart.result c.blank-chart.ensures c.read_chart.ensures c.in-Ok.is)
    c.answer_chart.ensures
