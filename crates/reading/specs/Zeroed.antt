-- What reading leaves, once its caller has zeroed it.
use Rattle.std.specs.Prelude.{List, ℕ, Result, Ok, Err}
use Rattle.paper.specs.Lists.{zeros}
use Rattle.replies.specs.declared.Refusal.{Refusal}

-- a buffer as reading leaves it, once every refusal has zeroed it
abbrev pub zeroed_by : Result ℕ Refusal → List ℕ → List ℕ
zeroed_by (Ok size) buf = buf
zeroed_by (Err why) buf = zeros buf
