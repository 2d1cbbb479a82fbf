-- A line that holds, and what one that does not is refused for. Assumes nothing.
use mathlib.Core.Path.{◌≡◌, sym}
use mathlib.Core.Bool.{true, false}
use mathlib.Core.List.{List, [], ◌∷◌}
use Prim.Native.Nat.{ℕ}
use Rattle.std.specs.Prelude.{None, Some}
use Rattle.paper.specs.Lists.{both, least_fail}
use Rattle.paper.specs.Reply.{Reply}
use Rattle.paper.specs.Chart.{letters}
use Rattle.paper.specs.Sheets.{grade_holds, next_holds, line_holds, line_reply}
use Rattle.places.specs.Search.{place_for}
use Rattle.places.proofs.Search.{answer_at, answer_none}
use Rattle.lists.proofs.Tests.{all_by, all_fails, least, least_all, both_not_left}

module _ (c rows sheet : List ℕ) (lines i : ℕ) where
  pub grade_wrong : grade_holds c rows sheet i ≡ false → (line_holds c rows sheet lines i ≡ false) × (◌≡◌ {A = Reply} (12, i ∷ []) (line_reply c rows sheet lines i))
  unfolding line_holds line_reply
  grade_wrong f = (both_not_left _ _ f, rw f)

  module _ (g : grade_holds c rows sheet i ≡ true) where
    pub letters_hold : None ≡ place_for (letters c) (least_fail (letters c) (next_holds c rows sheet lines i)) → line_holds c rows sheet lines i ≡ true
    unfolding line_holds both
    letters_hold e = rw g (all_by (next_holds c rows sheet lines i) (letters c) (least_all (next_holds c rows sheet lines i) (letters c) (answer_none _ _ (sym e))))

    pub letter_wrong : (x : ℕ) → Some x ≡ place_for (letters c) (least_fail (letters c) (next_holds c rows sheet lines i)) →
        (line_holds c rows sheet lines i ≡ false) × (◌≡◌ {A = Reply} (13, i ∷ x ∷ []) (line_reply c rows sheet lines i))
    unfolding line_holds line_reply both
    letter_wrong x e =
        let a = answer_at _ _ x (sym e) in
        (rw g (all_fails (next_holds c rows sheet lines i) (letters c) _ a.0 ((least (next_holds c rows sheet lines i) (letters c)).fails a.0)), rw (g, a.1))
