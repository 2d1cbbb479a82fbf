-- `dues::rule_of` meets its contract: each arm is what `width_of` and `lines_of` say of its kinds.
-- Assumes nothing.
use mathlib.Core.Path.{refl, ap}
use Prim.Native.Nat.{ℕ}
use native.Mathlib.Omega.{arith}
use Rattle.lists.proofs.Bound.{product}
use Rattle.dues.proofs.Dues.{rule_head, rule_grades, rule_vector, rule_matrix, rule_none}
use Rattle.dues.proofs.rule_of.Goals as goal
use Rattle.dues.proofs.rule_of.Goals.{in-1, in-6, in-2-to-3, in-4-to-5, in_default, in_default-2}

pub overflow_mul-width : goal.overflow_mul-width
overflow_mul-width c = omega (arith, product {a = c.args.counts.m} {b = c.args.counts.n} {c = 16} {d = 24} (omega arith) (omega arith))

pub returns : goal.returns
returns c =
    elim c.match-kind.branch [
      | in-1 w ↦ rule_head _ _ _ refl (omega arith) (ap (λ (p : ℕ × ℕ). p.0) w.width-is) (ap (λ (p : ℕ × ℕ). p.1) w.width-is)
      | in-6 w ↦ rule_matrix _ _ _ refl (search) (omega arith) (ap (λ (p : ℕ × ℕ). p.0) w.width-is) (omega arith) (ap (λ (p : ℕ × ℕ). p.1) w.width-is)
      | in-2-to-3 w ↦ rule_grades _ _ _ refl (search) (omega arith) (omega arith) (ap (λ (p : ℕ × ℕ). p.0) w.width-is) (ap (λ (p : ℕ × ℕ). p.1) w.width-is)
      | in-4-to-5 w ↦ rule_vector _ _ _ refl (search) (omega arith) (ap (λ (p : ℕ × ℕ). p.0) w.width-is) (omega arith) (ap (λ (p : ℕ × ℕ). p.1) w.width-is)
      | in_default w ↦ absurd (omega arith)
      | in_default-2 w ↦ rule_none _ _ _ refl (search) (omega arith) (ap (λ (p : ℕ × ℕ). p.0) w.width-is) (omega arith) (ap (λ (p : ℕ × ℕ). p.1) w.width-is)
    ]
