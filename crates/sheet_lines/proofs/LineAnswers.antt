-- The answer for a sheet's lines, from the first that does not hold. Assumes nothing.
use mathlib.Core.Path.{◌≡◌, ◌∙◌}
use mathlib.Core.Bool.{true, false}
use mathlib.Core.List.{List, []}
use Prim.Native.Nat.{ℕ, ◌<◌}
use native.Mathlib.Omega.{arith}
use borrow.Author.Tests.{le-leb, lt-leb}
use Rattle.paper.specs.Lists.{all_below}
use Rattle.paper.specs.Reply.{Reply}
use Rattle.paper.specs.Sheets.{line_holds, bad_line, line_reply}
use Rattle.lists.proofs.Tests.{all_at, least_is, least_none}
use Rattle.lines.specs.Readable.{lines_reply}

module _ (c rows sheet : List ℕ) (lines : ℕ) where
  pub all_hold : {i : ℕ} → all_below i (line_holds c rows sheet lines) ≡ true → i ≡ lines → ◌≡◌ {A = Reply} (0, []) (lines_reply c rows sheet lines)
  unfolding lines_reply bad_line
  all_hold a q =
      rw
      (least_none (line_holds c rows sheet lines) lines (all_at (line_holds c rows sheet lines) lines (rw q at a)), le-leb lines lines (omega arith))

  pub line_wrong : {i : ℕ} {r : Reply} → i < lines → all_below i (line_holds c rows sheet lines) ≡ true → (line_holds c rows sheet lines i ≡ false) × (r ≡ line_reply c rows sheet lines i) →
      r ≡ lines_reply c rows sheet lines
  unfolding lines_reply bad_line
  line_wrong {i} l a f =
      f.1 ∙ rw (least_is (line_holds c rows sheet lines) lines i l (all_at (line_holds c rows sheet lines) i a) f.0, lt-leb lines i l)
