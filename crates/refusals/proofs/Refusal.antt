-- A refusal's line, whole. Assumes nothing.
use mathlib.Core.Path.{◌≡◌}
use mathlib.Core.List.{List, [], ◌∷◌}
use Prim.Native.Nat.{ℕ, ◌≤◌, ◌<◌}
use lib.ListN.{length}
use borrow.Author.Tests.{le-leb, lt-leb}
use Rattle.paper.specs.Lists.{in_front}
use Rattle.pages.specs.Frames.{frame, line_length}
use Rattle.pages.specs.Texts.{Filled, printed, refusal_text, print_refusal}
use Rattle.frames.proofs.FrameWritten.{length_frame}

module _ (number : ℕ) (old : List ℕ) where
  pub refusal_room : length old < line_length 1 → ◌≡◌ {A = Filled} (record { reply = (5, []); buffer = old }) (print_refusal number old)
  unfolding print_refusal
  refusal_room h = simp (lt-leb (line_length 1) (length old) h)

  pub refusal_printed : line_length 1 ≤ length old → (new : List ℕ) → new ≡ in_front (frame 0x7f (number ∷ [])) old → ◌≡◌ {A = Filled} (record { reply = (0, 9 ∷ []); buffer = new }) (print_refusal number old)
  unfolding print_refusal printed refusal_text
  refusal_printed h new e = simp (le-leb (line_length 1) (length old) h, e, length_frame)
