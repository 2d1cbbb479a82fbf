-- Hexadecimal digits: what `digit_of` says of each range of bytes, and the byte that two digits make. Assumes nothing.
use mathlib.Core.Path.{◌≡◌}
use mathlib.Core.List.{List}
use Prim.Native.Nat.{ℕ, ◌+◌, ◌-◌, ◌*◌, ◌≤◌, ◌<◌}
use native.Mathlib.Omega.{arith}
use lib.ListN.{get_or}
use borrow.Author.Tests.{le-leb, lt-leb}
use Rattle.paper.specs.Lists.{both}
use Rattle.pages.specs.Frames.{digit_of, byte_at}
use Rattle.frames.specs.Lines.{ByteRead}

-- the bytes that are digits
pub digit_low : (b : ℕ) → 48 ≤ b → b ≤ 57 → b - 48 ≡ digit_of b
unfolding digit_of both
digit_low b h l = simp (le-leb 48 b h, le-leb b 57 l)

pub digit_high : (b : ℕ) → 97 ≤ b → b ≤ 102 → b - 97 + 10 ≡ digit_of b
unfolding digit_of both
digit_high b h l = simp (le-leb 48 b (omega arith), lt-leb b 57 (omega arith), le-leb 97 b h, le-leb b 102 l) (omega arith)

-- the bytes that are none
pub digit_below : (b : ℕ) → b < 48 → 16 ≡ digit_of b
unfolding digit_of both
digit_below b h = simp (lt-leb 48 b h, lt-leb 97 b (omega arith))

pub digit_between : (b : ℕ) → 57 < b → b < 97 → 16 ≡ digit_of b
unfolding digit_of both
digit_between b h l = simp (le-leb 48 b (omega arith), lt-leb b 57 h, lt-leb 97 b l)

pub digit_above : (b : ℕ) → 102 < b → 16 ≡ digit_of b
unfolding digit_of both
digit_above b h = simp (le-leb 48 b (omega arith), lt-leb b 57 (omega arith), le-leb 97 b (omega arith), lt-leb b 102 h)

-- two digits make a byte
pub byte_is : (text : List ℕ) (i x y a b : ℕ) → x ≡ get_or text i 0 → y ≡ get_or text (i + 1) 0 → a ≡ digit_of x → b ≡ digit_of y → a < 16 → b < 16 → ByteRead text i (a * 16 + b)
unfolding byte_at
byte_is text i x y a b p q r s h l = record { digits = (rw (← p, ← r) h, rw (← q, ← s) l); value = rw (r, s, p, q) }
