-- The memory lent to the Brzozowski call, as the definitions have it.
use Rattle.std.specs.Prelude.{List, ℕ}
use Rattle.paper.specs.Builders.{Lent}

abbrev pub lent : List ℕ → List ℕ → List ℕ → List ℕ → Lent
lent table reverse_table reverse_vectors rows =
    record { table = table; reverse_table = reverse_table; reverse_vectors = reverse_vectors; rows = rows }
