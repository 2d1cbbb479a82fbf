-- Lines of lower-case hexadecimal, one frame a line: kind, the payload's byte count, payload, newline.
use Rattle.std.specs.Prelude.{Bool, List, [], ◌∷◌, ◌++◌, ℕ, ◌+◌, ◌-◌, ◌*◌, ◌/◌, ◌%◌, length, get_or, eqb, leb, ltb}
use Rattle.paper.specs.Lists.{both, pick, tabulate, all_below}
use Rattle.paper.specs.Tables.{two_bytes}

-- ---- writing

-- the digit of a number below 16
abbrev pub hex_of : ℕ → ℕ
hex_of n = pick (ltb n 10) (48 + n) (87 + n)

-- bytes, two digits each
unfoldable pub hexed : List ℕ → List ℕ
hexed [] = []
hexed (b ∷ bs) = hex_of (b / 16) ∷ hex_of (b % 16) ∷ hexed bs

abbrev pub newline : ℕ
newline = 10

-- the bytes of a line
unfoldable pub framed : ℕ → List ℕ → List ℕ
framed kind payload = kind ∷ (two_bytes (length payload) ++ payload)

unfoldable pub frame : ℕ → List ℕ → List ℕ
frame kind payload = hexed (framed kind payload) ++ (newline ∷ [])

-- how long a line is before a payload of w bytes, before its newline, and whole
abbrev pub head_length : ℕ
head_length = 6

abbrev pub digits_length : ℕ → ℕ
digits_length w = head_length + 2 * w

abbrev pub line_length : ℕ → ℕ
line_length w = digits_length w + 1

-- ---- reading: past the text's end nothing is a digit or a newline

-- the number of a digit, 16 for a byte that is none
unfoldable pub digit_of : ℕ → ℕ
digit_of b = pick (both (leb 48 b) (leb b 57)) (b - 48) (pick (both (leb 97 b) (leb b 102)) (b - 87) 16)

-- the byte whose two digits stand at a place
unfoldable pub byte_at : List ℕ → ℕ → ℕ
byte_at text i = digit_of (get_or text i 0) * 16 + digit_of (get_or text (i + 1) 0)

-- what stands i places behind pos is a digit
unfoldable pub digit_fits : List ℕ → ℕ → ℕ → Bool
digit_fits text pos i = ltb (digit_of (get_or text (pos + i) 0)) 16

-- the line at pos is a frame of this kind with a payload of w bytes
unfoldable pub frame_fits : ℕ → ℕ → List ℕ → ℕ → Bool
frame_fits kind w text pos =
    both (eqb (byte_at text pos) kind)
    (both (eqb (byte_at text (pos + 2) * 256 + byte_at text (pos + 4)) w)
    (both (eqb (get_or text (pos + digits_length w) 0) newline)
    (all_below (digits_length w) (digit_fits text pos))))

-- the i-th byte of its payload, and the payload
unfoldable pub payload_at : List ℕ → ℕ → ℕ → ℕ
payload_at text pos i = byte_at text (pos + digits_length i)

unfoldable pub payload : ℕ → List ℕ → ℕ → List ℕ
payload w text pos = tabulate w (payload_at text pos)
