-- The text of a chart, as a designer writes it.
use Rattle.std.specs.Prelude.{List, [], ◌∷◌, ◌++◌, ℕ, ◌+◌, take, drop}
use Rattle.paper.specs.Chart.{head_size}
use Rattle.pages.specs.Frames.{frame}
use Rattle.pages.specs.Texts.{dues}

-- frames of these kinds and widths, with the bytes of a chart from a place on
unfoldable pub frames_of : List ℕ → List (ℕ × ℕ) → ℕ → List ℕ
frames_of c [] at = []
frames_of c (d ∷ ds) at = frame d.0 (take d.1 (drop at c)) ++ frames_of c ds (at + d.1)

-- the head, then kinds 02 to 06
unfoldable pub text_of : List ℕ → List ℕ
text_of c = frames_of c ((0x01, head_size) ∷ dues c) 0
