-- The number of a key: equal keys have equal numbers, so a search compares keys only where the numbers agree.
use Rattle.std.specs.Prelude.{List, ℕ, zero, suc, ◌+◌, ◌*◌, ◌%◌, length, get_or}

-- of the first n bytes of v
unfoldable pub mark_to : ℕ → List ℕ → ℕ
mark_to zero v = 0
mark_to (suc n) v = (mark_to n v * 33 + get_or v n 0) % 4294967296

unfoldable pub mark_of : List ℕ → ℕ
mark_of v = mark_to (length v) v
