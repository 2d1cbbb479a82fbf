-- One answer for a program's call: what it leaves in the buffer and the length that it answers are decided. Assumes nothing.
use mathlib.Core.Path.{◌≡◌, sym, ◌∙◌}
use mathlib.Core.List.{List}
use Prim.Native.Nat.{ℕ}
use Rattle.shown.specs.Answered.{Answered}

pub one_answered : (text old : List ℕ) (a b : ℕ × List ℕ) → Answered text old a.1 a.0 → Answered text old b.1 b.0 → a ≡ b
one_answered text old a b p q i = ((p.size_is ∙ sym q.size_is) i, (p.front ∙ sym q.front) i)
