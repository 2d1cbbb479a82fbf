-- The kept values and their numbers, and what a search among them answers.
use Rattle.std.specs.Prelude.{◌≡◌, List, ℕ, Option, Some, None, suc, ◌+◌, ◌*◌, ◌≤◌, ◌<◌, length, get_or}
use Rattle.places.specs.Search.{place_at, values, place_for}
use Rattle.marks.specs.Marks.{mark_of}
use Rattle.marks.specs.Chains.{Chained}
use Rattle.marks.specs.declared.chains.Index.{Index}
use Rattle.paper.specs.Chart.{k_of}
use Rattle.kinds.specs.Kinds.{made}
use Rattle.kinds.specs.declared.plan.Plan.{Plan}
use Rattle.paper.specs.Numbering.{place}
use Rattle.kinds.specs.Ready.{Value}

-- the values in the first `held` places
abbrev pub kept_in : Plan → ℕ → List ℕ → List (List ℕ)
kept_in p held vectors = values p.stride p.width held vectors

-- the first `held` places hold values, and their numbers are true
pub record Valued (p : Plan) (vectors marks : List ℕ) (held : ℕ) : Type 0 where
  pub fits : suc p.room * p.stride ≤ length vectors
  pub values : (s : ℕ) → s < held → Value (k_of p.chart.now) p.width (place_at p.stride p.width vectors s)
  pub marked : (s : ℕ) → s < held → get_or marks s 0 ≡ mark_of ((made p).key (place_at p.stride p.width vectors s))

-- and they are indexed by their numbers
pub record Holds (p : Plan) (vectors : List ℕ) (index : Index) (held : ℕ) : Type 0 where
  pub valued : Valued p vectors index.marks held
  pub chained : Chained index held

-- where a value with this key stands: the place of every value that has it
abbrev pub FoundFor : Plan → List ℕ → ℕ → List ℕ → Option ℕ → Type 0
FoundFor p vectors held key found =
    (v : List ℕ) → key ≡ (made p).key v → found ≡ place_for held (place ((made p).key) (kept_in p held vectors) v)

-- how many places are held once the value in place `held` is kept where its key is new
abbrev pub held_with : ℕ → Option ℕ → ℕ
held_with held (Some j) = held
held_with held None = held + 1

-- the value in place `held` looked for: where its key stands, and the index with it
pub record Sought (p : Plan) (vectors : List ℕ) (index : Index) (held : ℕ) (found : Option ℕ) : Type 0 where
  pub answer : found ≡ place_for held (place ((made p).key) (kept_in p held vectors) (place_at p.stride p.width vectors held))
  pub holds : Holds p vectors index (held_with held found)
