-- What settling a candidate requires and leaves, by the definitions.
use Rattle.std.specs.Prelude.{◌≡◌, List, ℕ, suc, ◌≤◌}
use Rattle.kinds.specs.declared.plan.Plan.{Plan}
use Rattle.paper.specs.Chart.{k_of}
use Rattle.paper.specs.Numbering.{place, kept}
use Rattle.kinds.specs.Kinds.{made, Ready}
use Rattle.kinds.specs.Ready.{Value}
use Rattle.places.specs.Memory.{Apart}
use Rattle.marks.specs.declared.chains.Index.{Index}
use Rattle.search.specs.Kept.{kept_in, Holds}

-- letter x's candidate from v settled: its place, and how many are kept with it
pub record Settles (p : Plan) (x : ℕ) (v old new : List ℕ) (index : Index) (held at more : ℕ) : Type 0 where
  pub place_is : at ≡ place (made p).key (kept_in p held old) ((made p).step x v)
  pub kept_is : kept_in p more new ≡ kept (made p).key (kept_in p held old) ((made p).step x v)
  pub holds : Holds p new index more
  pub apart : Apart p.stride p.width (suc p.room) old new

-- what taking the letters of a value asks for
pub record Asks (p : Plan) (held : ℕ) (v vectors : List ℕ) (index : Index) : Type 0 where
  pub ready : Ready p
  pub roomy : held ≤ p.room
  pub value : Value (k_of p.chart.now) p.width v
  pub holds : Holds p vectors index held
