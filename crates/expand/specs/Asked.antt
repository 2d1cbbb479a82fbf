-- What expanding a state requires.
use Rattle.std.specs.Prelude.{List, ℕ, ◌*◌, ◌≤◌, ◌<◌, length}
use Rattle.paper.specs.Chart.{letters}
use Rattle.paper.specs.Tables.{row_size}
use Rattle.kinds.specs.Kinds.{Ready}
use Rattle.kinds.specs.declared.plan.Plan.{Plan}
use Rattle.marks.specs.declared.chains.Index.{Index}
use Rattle.search.specs.Kept.{Holds}

-- what expanding state i asks for
pub record ExpandAsks (p : Plan) (i held : ℕ) (table vectors : List ℕ) (index : Index) : Type 0 where
  pub ready : Ready p
  pub below : i < held
  pub roomy : held ≤ p.room
  pub holds : Holds p vectors index held
  pub table_fits : p.room * row_size (letters p.chart.now) ≤ length table
