-- What the products of vectors ask for and leave.
use Rattle.std.specs.Prelude.{◌≡◌, List, ℕ, ◌≤◌, ◌<◌, length, get_or}
use Rattle.paper.specs.Lists.{tabulate, in_front}
use Rattle.paper.specs.Chart.{n_of, join, prod, entry}
use Rattle.cells.specs.Shaped.{Vector}

-- at q, what stood there joined with a times the entry at p, q of letter x's matrix
unfoldable pub joined_at : List ℕ → ℕ → ℕ → ℕ → List ℕ → ℕ → ℕ
joined_at c x p a row q = join c (get_or row q 0) (prod c a (entry c x p q))

-- the first n places joined with a times row p of letter x's matrix, and still a vector
pub record RowJoined (c : List ℕ) (x p a : ℕ) (old new : List ℕ) : Type 0 where
  pub is : new ≡ in_front (tabulate (n_of c) (joined_at c x p a old)) old
  pub low : Vector c new

-- n zeros at the front of out
pub record Blank (n : ℕ) (out : List ℕ) : Type 0 where
  pub long : n ≤ length out
  pub zeros : (q : ℕ) → q < n → get_or out q 0 ≡ 0
