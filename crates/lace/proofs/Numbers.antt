-- The numbers that the C calls answer, case by case of an answer. Assumes nothing.
use Rattle.std.specs.Prelude.{Result, Ok, Err}
use Rattle.std.specs.Result.{result_unwrap_or}
use mathlib.Core.Path.{◌≡◌, refl}
use Prim.Native.Nat.{ℕ}
use Rattle.paper.specs.Tables.{grade_code, step_code}
use Rattle.replies.specs.Replies.{said, stepped_said, graded_said}
use Rattle.replies.specs.declared.Refusal.{Refusal}
use Rattle.replies.specs.declared.Refusal.TheVariants.{Sizes, Short, Grade, Law, Room, Reverse, States, Letter, Table, Sheet, Start, Line, Next, Text}
use Rattle.replies.proofs.Said.{said_refuses}

-- a grade's number
pub grade_is : (answer : Result ℕ Refusal) → result_unwrap_or answer 255 ≡ grade_code (graded_said answer)
unfolding grade_code
grade_is (Ok g) = refl
grade_is (Err why) = rw (said_refuses why)

-- ---- a step's number

-- the last arm takes all variants but `Letter`
abbrev NoLetter : Refusal → Type 0
NoLetter why = (at : ℕ) → why ≡ Letter at → ⊥

said_other : (why : Refusal) → NoLetter why → ◌≡◌ {A = ℕ} 65535 (step_code (said why))
unfolding step_code
said_other Sizes k = refl
said_other Short k = refl
said_other Grade k = refl
said_other (Law law a b c) k = refl
said_other Room k = refl
said_other Reverse k = refl
said_other States k = refl
said_other (Letter at) k = absurd (k at refl)
said_other Table k = refl
said_other Sheet k = refl
said_other Start k = refl
said_other (Line line) k = refl
said_other (Next line letter) k = refl
said_other (Text line) k = refl

module _ (answer : Result ℕ Refusal) where
  pub step_given : (s : ℕ) → answer ≡ Ok s → s ≡ step_code (stepped_said answer)
  unfolding step_code
  step_given s e = rw e

  pub step_letter : (why : Refusal) → answer ≡ Err why → (at : ℕ) → why ≡ Letter at → ◌≡◌ {A = ℕ} 65534 (step_code (stepped_said answer))
  unfolding step_code
  step_letter why e at q = rw (e, q)

  pub step_other : (why : Refusal) → answer ≡ Err why → NoLetter why → ◌≡◌ {A = ℕ} 65535 (step_code (stepped_said answer))
  step_other why e k = rw e (said_other why k)
