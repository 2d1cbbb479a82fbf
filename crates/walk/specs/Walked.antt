-- What the whole walk requires and leaves, by the definitions.
use Rattle.std.specs.Prelude.{◌≡◌, List, ℕ, Option, Some, None, suc, ◌*◌, ◌≤◌, ◌<◌, length}
use Rattle.paper.specs.Chart.{letters}
use Rattle.paper.specs.Tables.{row_size}
use Rattle.kinds.specs.declared.plan.Plan.{Plan}
use Rattle.paper.specs.Lists.{in_front}
use Rattle.paper.specs.Numbering.{explored}
use Rattle.paper.specs.Constructions.{Construction, states_of, table_of}
use Rattle.paper.specs.Builders.{placed}
use Rattle.kinds.specs.Kinds.{made, Ready}
use Rattle.marks.specs.declared.chains.Index.{Index}
use Rattle.search.specs.Kept.{kept_in, Holds}
use Rattle.places.specs.Memory.{Apart}

-- the states that the walk ends with, from the value in place 0
abbrev pub walked : Plan → List ℕ → List (List ℕ)
walked p old = explored (made p).key (made p).step (letters p.chart.now) p.room (suc p.room) 0 (kept_in p 1 old)

pub record WalkAsks (p : Plan) (table vectors : List ℕ) (index : Index) : Type 0 where
  pub ready : Ready p
  pub holds : Holds p vectors index 1
  pub table_fits : p.room * row_size (letters p.chart.now) ≤ length table

-- all states expanded
pub record Walked (p : Plan) (table table' old new : List ℕ) (h : ℕ) : Type 0 where
  pub roomy : h ≤ p.room
  pub listed : kept_in p h new ≡ walked p old
  pub apart : Apart p.stride p.width (suc p.room) old new
  pub table_is : table' ≡ in_front (table_of (made p) (letters p.chart.now) (walked p old)) table

abbrev pub WalkedAs : Plan → List ℕ → List ℕ → List ℕ → List ℕ → Option ℕ → Type 0
WalkedAs p table table' old new None = p.room < length (walked p old)
WalkedAs p table table' old new (Some h) = Walked p table table' old new h

-- a whole construction made in lent memory
pub record GrowAsks (p : Plan) (table vectors : List ℕ) : Type 0 where
  pub ready : Ready p
  pub table_fits : p.room * row_size (letters p.chart.now) ≤ length table
  pub fits : suc p.room * p.stride ≤ length vectors

abbrev pub states_by : Plan → List (List ℕ)
states_by p = states_of (made p) (letters p.chart.now) p.room

-- a construction b of m letters made, values one every `stride` bytes: how many states it has, its table and its values
pub record Makes (b : Construction) (m stride room : ℕ) (table table' old new : List ℕ) (h : ℕ) : Type 0 where
  pub count_is : h ≡ length (states_of b m room)
  pub roomy : h ≤ room
  pub table_is : table' ≡ in_front (table_of b m (states_of b m room)) table
  pub vectors_is : new ≡ placed stride (suc room) (states_of b m room) old

abbrev pub Made : Plan → List ℕ → List ℕ → List ℕ → List ℕ → ℕ → Type 0
Made p table table' old new h = Makes (made p) (letters p.chart.now) p.stride p.room table table' old new h

abbrev pub MadeAs : Plan → List ℕ → List ℕ → List ℕ → List ℕ → Option ℕ → Type 0
MadeAs p table table' old new None = p.room < length (states_by p)
MadeAs p table table' old new (Some h) = Made p table table' old new h
