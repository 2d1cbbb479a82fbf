-- Buffers of which parts are written over.
use Rattle.std.specs.Prelude.{◌≡◌, List, ◌++◌, ℕ, ◌+◌, ◌*◌, ◌≤◌, ◌<◌, length, get_or, take, drop}

-- a buffer with some bytes written over it from a place on
unfoldable pub spliced : ℕ → List ℕ → List ℕ → List ℕ
spliced at new old = take at old ++ (new ++ drop (at + length new) old)

-- only the first w bytes of the first `places` places may have changed
pub record Apart (stride w places : ℕ) (old new : List ℕ) : Type 0 where
  pub long : length new ≡ length old
  pub rest : (s j : ℕ) → w ≤ j → j < stride → get_or new (s * stride + j) 0 ≡ get_or old (s * stride + j) 0
  pub past : drop (places * stride) new ≡ drop (places * stride) old
