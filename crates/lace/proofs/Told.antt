-- The numbers that the C calls answer tell all that a step or a grade answers: no next state and no grade is a reserved number. Assumes nothing.
use mathlib.Core.Path.{◌≡◌, refl}
use mathlib.Core.Bool.{Bool, true, false}
use mathlib.Core.List.{List, [], ◌∷◌}
use Prim.Native.Nat.{ℕ, ◌<◌}
use native.Mathlib.Omega.{arith}
use lib.Dec.{eqb, ltb}
use borrow.Author.Tests.{ltb-true, ne_eqb}
use Rattle.paper.specs.Lists.{unless}
use Rattle.paper.specs.Reply.{Reply}
use Rattle.paper.specs.Tables.{grade_at, next_at, grade_top, row_fits, size_fits, step_reply, grade_reply, step_code, grade_code}
use Rattle.rows.proofs.Rows.{size_parts}
use Rattle.rows.proofs.Rows.{row_grade_lem, row_next}
use Rattle.lace.specs.Told.{step_told, grade_told}

-- what holds of the refusal, and of the rest where the test passes, holds of the choice
unless_case : {X : Type 0} (P : X → Type 0) (b : Bool) (x y : X) → P x → (b ≡ true → P y) → P (unless b x y)
unless_case P true x y p f = f refl
unless_case P false x y p f = p

-- a number below a reserved one is not it
not_reserved : (n k : ℕ) → n < k → eqb n k ≡ false
not_reserved n k h = ne_eqb n k (λ e. omega arith)

-- ---- grades

abbrev GradeTells : Reply → Type 0
GradeTells r = grade_told (grade_code r) ≡ r

grade_refused : GradeTells (9, [])
unfolding grade_told grade_code
grade_refused = refl

grade_given : (g : ℕ) → g < 16 → GradeTells (0, g ∷ [])
unfolding grade_told grade_code
grade_given g h = simp (not_reserved g 255 (omega arith))

pub grade_told_lem : (rows : List ℕ) (count m s : ℕ) → grade_told (grade_code (grade_reply rows count m s)) ≡ grade_reply rows count m s
unfolding grade_reply
grade_told_lem rows count m s =
    unless_case GradeTells (size_fits rows count m) _ _ grade_refused (λ _.
    unless_case GradeTells (ltb s count) _ _ grade_refused (λ _.
    unless_case GradeTells (row_fits rows count m grade_top s) _ _ grade_refused (λ e. grade_given (grade_at rows m s) (row_grade_lem rows count m grade_top s e))))

-- ---- steps

abbrev StepTells : Reply → Type 0
StepTells r = step_told (step_code r) ≡ r

step_refused : StepTells (9, [])
unfolding step_told step_code
step_refused = refl

step_letter : StepTells (8, 0 ∷ [])
unfolding step_told step_code
step_letter = refl

step_given : (n : ℕ) → n < 4096 → StepTells (0, n ∷ [])
unfolding step_told step_code
step_given n h = simp (not_reserved n 65535 (omega arith), not_reserved n 65534 (omega arith))

pub step_told_lem : (rows : List ℕ) (count m s x : ℕ) → step_told (step_code (step_reply rows count m s x)) ≡ step_reply rows count m s x
unfolding step_reply
step_told_lem rows count m s x =
    unless_case StepTells (size_fits rows count m) _ _ step_refused (λ size.
    unless_case StepTells (ltb s count) _ _ step_refused (λ _.
    unless_case StepTells (ltb x m) _ _ step_letter (λ l.
    unless_case StepTells (row_fits rows count m grade_top s) _ _ step_refused (λ row.
    step_given (next_at rows m s x) (omega (arith, (size_parts rows count m size).1, row_next rows count m grade_top s row x (ltb-true x m l)))))))
