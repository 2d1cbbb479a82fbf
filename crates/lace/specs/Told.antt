-- What the numbers say that the C calls answer.
use Rattle.std.specs.Prelude.{[], ◌∷◌, ℕ, eqb}
use Rattle.paper.specs.Lists.{pick}
use Rattle.paper.specs.Reply.{Reply, fine}

-- 65,535 says refusal 9, 65,534 refusal 8, any other number is the next state
unfoldable pub step_told : ℕ → Reply
step_told n = pick (eqb n 65535) (9, []) (pick (eqb n 65534) (8, 0 ∷ []) (fine (n ∷ [])))

-- 255 says refusal 9, any other number is the grade
unfoldable pub grade_told : ℕ → Reply
grade_told n = pick (eqb n 255) (9, []) (fine (n ∷ []))
