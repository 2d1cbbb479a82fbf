-- Values in places of one stride, and what the search among them answers.
use Rattle.std.specs.Prelude.{List, ℕ, ◌*◌, take, drop, ltb, Option, Some, None}
use Rattle.paper.specs.Lists.{pick, tabulate}

-- the first w bytes of place s
unfoldable pub place_at : ℕ → ℕ → List ℕ → ℕ → List ℕ
place_at stride w xs s = take w (drop (s * stride) xs)

-- the values in the first `count` places
unfoldable pub values : ℕ → ℕ → ℕ → List ℕ → List (List ℕ)
values stride w count xs = tabulate count (place_at stride w xs)

-- the answer of a search among `count`: the place that it came to, or none where that is no place of theirs
abbrev pub place_for : ℕ → ℕ → Option ℕ
place_for count i = pick (ltb i count) (Some i) None
