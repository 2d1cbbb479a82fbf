-- What opening a chart answers.
use Rattle.std.specs.Prelude.{◌≡◌, true, false, List, ℕ, Result, Ok, Err}
use Rattle.paper.specs.Check.{check_reply, chart_fits}
use Rattle.replies.specs.declared.Refusal.{Refusal}
use Rattle.replies.specs.Replies.{said}

-- bytes that are a chart, as they are, or the refusal
abbrev pub Opened : List ℕ → Result (List ℕ) Refusal → Type 0
Opened c (Ok v) = (chart_fits c ≡ true) × (v ≡ c)
Opened c (Err why) = (chart_fits c ≡ false) × (said why ≡ check_reply c)
