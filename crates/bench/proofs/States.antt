-- The state that a letter leaves, case by case of an answer. Assumes nothing.
use Rattle.std.specs.Prelude.{Result, Ok, Err}
use mathlib.Core.Path.{◌≡◌}
use Prim.Native.Nat.{ℕ}
use Rattle.paper.specs.Tables.{state_after}
use Rattle.replies.specs.Replies.{stepped_said}
use Rattle.replies.specs.declared.Refusal.{Refusal}
use Rattle.replies.proofs.Said.{said_refuses}

module _ (s : ℕ) (answer : Result ℕ Refusal) where
  pub state_given : (next : ℕ) → answer ≡ Ok next → next ≡ state_after s (stepped_said answer)
  unfolding state_after
  state_given next e = rw e

  pub state_refused : (why : Refusal) → answer ≡ Err why → s ≡ state_after s (stepped_said answer)
  unfolding state_after
  state_refused why e = rw (e, said_refuses why)
