-- `keys::makes` meets its contract. Assumes nothing.
use mathlib.Core.Path.{◌≡◌, ◌∙◌}
use lib.ListN.{take}
use Rattle.paper.specs.Lists.{same_list}
use Rattle.paper.specs.Vectors.{row_times}
use Rattle.kinds.proofs.Keys.{made_front}
use Rattle.keys.proofs.makes.Goals as goal

pub returns : goal.returns
returns c =
    let due = c.args.due.now in
    let e : same_list (take c.n-n.result c.row_times.new.out) due ≡ same_list (row_times c.args.chart.now c.args.x c.args.v.now) due =
    rw c.n-n.ensures.is (made_front c.args.chart.now c.args.x c.args.v.now _ due c.row_times.ensures) in
    c.same.ensures ∙ e
