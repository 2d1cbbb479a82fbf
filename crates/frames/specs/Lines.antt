-- What the inner functions of a line ask of their callers.
use Rattle.std.specs.Prelude.{◌≡◌, true, List, ℕ, ◌+◌, ◌*◌, ◌≤◌, ◌<◌, length, get_or}
use Rattle.paper.specs.Lists.{all_below}
use Rattle.pages.specs.Frames.{digits_length, digit_of, byte_at, digit_fits, line_length}

-- a place of a text, and a payload's length, so small that no place in the line is past the largest number
pub record Near (pos w : ℕ) : Type 0 where
  pub place : pos < 32768
  pub width : w < 256

-- a frame may be read into a buffer
pub record FrameIn (pos w : ℕ) (out : List ℕ) : Type 0 where
  pub near : Near pos w
  pub room : w ≤ length out

-- and its line is one of digits
pub record PayloadIn (text : List ℕ) (pos w : ℕ) (out : List ℕ) : Type 0 where
  pub frame : FrameIn pos w out
  pub digits : all_below (digits_length w) (digit_fits text pos) ≡ true

-- a buffer has room for a frame's line
pub record LineIn (payload out : List ℕ) : Type 0 where
  pub room : line_length (length payload) ≤ length out

-- two digits stand at a place of a text
abbrev pub TwoDigits : List ℕ → ℕ → Type 0
TwoDigits text i = (digit_of (get_or text i 0) < 16) × (digit_of (get_or text (i + 1) 0) < 16)

-- and they are a byte
pub record ByteRead (text : List ℕ) (i b : ℕ) : Type 0 where
  pub digits : TwoDigits text i
  pub value : b ≡ byte_at text i

-- a number's two bytes stand at a place of a text
pub record CountRead (text : List ℕ) (i n : ℕ) : Type 0 where
  pub high : TwoDigits text i
  pub low : TwoDigits text (i + 2)
  pub value : n ≡ byte_at text i * 256 + byte_at text (i + 2)
