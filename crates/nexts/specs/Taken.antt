-- What taking all letters of a state leaves, by the definitions.
use Rattle.std.specs.Prelude.{◌≡◌, List, ◌∷◌, ℕ, Option, Some, None, suc, ◌≤◌, ◌<◌, length}
use Rattle.paper.specs.Chart.{letters}
use Rattle.paper.specs.Tables.{two_bytes}
use Rattle.kinds.specs.declared.plan.Plan.{Plan}
use Rattle.paper.specs.Lists.{joined}
use Rattle.paper.specs.Numbering.{place, expanded}
use Rattle.paper.specs.Constructions.{Construction}
use Rattle.kinds.specs.Kinds.{made}
use Rattle.places.specs.Memory.{Apart}
use Rattle.marks.specs.declared.chains.Index.{Index}
use Rattle.search.specs.Kept.{kept_in, Holds}

-- the states once v's letters are all taken, from `held` kept in `old`
abbrev pub grown : Plan → ℕ → List ℕ → List ℕ → List (List ℕ)
grown p held v old = expanded (made p).key (made p).step (letters p.chart.now) v (kept_in p held old)

-- letter x's next state, where vs is listed before the first letter
unfoldable pub found_bytes : Construction → List (List ℕ) → List ℕ → ℕ → List ℕ
found_bytes b vs v x = two_bytes (place b.key (expanded b.key b.step x v vs) (b.step x v))

-- the next states by all letters, and the row that they are in
unfoldable pub nexts_for : Construction → ℕ → List (List ℕ) → List ℕ → List ℕ
nexts_for b m vs v = joined m (found_bytes b vs v)

unfoldable pub row_for : Construction → ℕ → List (List ℕ) → List ℕ → List ℕ
row_for b m vs v = b.grade v ∷ nexts_for b m vs v

abbrev pub row_in : Plan → ℕ → List ℕ → List ℕ → List ℕ
row_in p held v old = row_for (made p) (letters p.chart.now) (kept_in p held old) v

-- v's letters all taken: h states are kept, and the row's bytes are what is due
pub record Taken (p : Plan) (held : ℕ) (v due row old new : List ℕ) (index : Index) (h : ℕ) : Type 0 where
  pub roomy : h ≤ p.room
  pub listed : kept_in p h new ≡ grown p held v old
  pub holds : Holds p new index h
  pub apart : Apart p.stride p.width (suc p.room) old new
  pub row_is : row ≡ due

abbrev pub TakenAs : Plan → ℕ → List ℕ → List ℕ → List ℕ → List ℕ → List ℕ → Index → Option ℕ → Type 0
TakenAs p held v due row old new index None = p.room < length (grown p held v old)
TakenAs p held v due row old new index (Some h) = Taken p held v due row old new index h
