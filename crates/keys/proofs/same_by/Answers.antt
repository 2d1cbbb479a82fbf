-- `keys::same_by` meets its contract. Assumes nothing.
use mathlib.Core.Path.{sym, ap, ◌∙◌}
use Rattle.paper.specs.Lists.{same_list}
use Rattle.kinds.proofs.KindLaws.{own_key}
use Rattle.keys.proofs.same_by.Goals as goal

pub returns-else-keyed : goal.returns-else-keyed
returns-else-keyed c = c.same.ensures ∙ ap (λ y. same_list y c.args.key.now) (sym (own_key c.args.plan.now.kind c.args.plan.now.chart.now c.args.v.now (sym c.keyed.ensures ∙ c.if-keyed.false)))
