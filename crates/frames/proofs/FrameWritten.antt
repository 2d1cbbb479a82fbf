-- Writing one line: a frame's bytes, their digits, and the line two digits at a time. Assumes nothing.
use mathlib.Core.Path.{◌≡◌, refl, sym, ap, ◌∙◌}
use mathlib.Core.List.{List, [], ◌∷◌}
use Prim.Native.Nat.{ℕ, zero, suc, ◌+◌, ◌-◌, ◌*◌, ◌/◌, ◌%◌, ◌≤◌, ◌<◌}
use native.Mathlib.Nat.{not-suc-le-zero, le_of_suc-le-suc}
use native.Mathlib.Omega.{arith}
use lib.ListN.{length, get_or, set, length-append, get_or-append}
use lib.Seq.{get_or_at}
use Rattle.paper.specs.Lists.{in_front}
use Rattle.paper.specs.Tables.{two_bytes}
use Rattle.pages.specs.Frames.{hex_of, hexed, framed, frame, newline, digits_length, line_length}
use Rattle.frames.specs.Lines.{LineIn}
use Rattle.lists.proofs.Front.{begun, begun_more, begun_all}

-- ---- the bytes of a line
module _ (kind : ℕ) (p : List ℕ) where
  length_framed : length (framed kind p) ≡ 3 + length p
  unfolding framed two_bytes
  length_framed = omega arith

  module _ (j : ℕ) where
    pub byte_kind : j ≡ 0 → kind ≡ get_or (framed kind p) j 0
    unfolding framed
    byte_kind q = rw q

    pub byte_high : j ≡ 1 → length p / 256 % 256 ≡ get_or (framed kind p) j 0
    unfolding framed two_bytes
    byte_high q = rw q

    pub byte_low : j ≡ 2 → length p % 256 ≡ get_or (framed kind p) j 0
    unfolding framed two_bytes
    byte_low q = rw q

    pub byte_rest : 3 ≤ j → get_or p (j - 3) 0 ≡ get_or (framed kind p) j 0
    unfolding framed two_bytes
    byte_rest h = let q : j ≡ suc (suc (suc (j - 3))) = omega arith in sym (ap (λ (i : ℕ). get_or (framed kind p) i 0) q)

-- ---- their digits

length_hexed : (xs : List ℕ) → length (hexed xs) ≡ 2 * length xs
unfolding hexed
length_hexed [] = refl
length_hexed (x ∷ xs) = omega (arith, length_hexed xs)

-- the digits of byte j
hexed_at : (xs : List ℕ) (j : ℕ) → j < length xs → (get_or (hexed xs) (2 * j) 0 ≡ hex_of (get_or xs j 0 / 16)) × (get_or (hexed xs) (2 * j + 1) 0 ≡ hex_of (get_or xs j 0 % 16))
unfolding hexed
hexed_at [] j l = absurd (not-suc-le-zero l)
hexed_at (x ∷ xs) zero l = (refl, refl)
hexed_at (x ∷ xs) (suc j) l =
    let p : 2 * suc j ≡ suc (suc (2 * j)) = omega arith in
    let q : 2 * suc j + 1 ≡ suc (suc (2 * j + 1)) = omega arith in
    let h = hexed_at xs j (le_of_suc-le-suc l) in
    (rw p h.0, rw q h.1)

-- ---- the line
module _ (kind : ℕ) (p : List ℕ) where
  pub length_frame : length (frame kind p) ≡ line_length (length p)
  unfolding frame
  length_frame = length-append (hexed (framed kind p)) (newline ∷ []) ∙ omega (arith, length_hexed (framed kind p), length_framed kind p)

  pub frame_at : (j : ℕ) → j < 3 + length p → (get_or (frame kind p) (2 * j) 0 ≡ hex_of (get_or (framed kind p) j 0 / 16)) × (get_or (frame kind p) (2 * j + 1) 0 ≡ hex_of (get_or (framed kind p) j 0 % 16))
  unfolding frame
  frame_at j l =
      let n = length_hexed (framed kind p) in
      let k = length_framed kind p in
      let h = hexed_at (framed kind p) j (omega arith) in (
        get_or-append (hexed (framed kind p)) (newline ∷ []) 0 (2 * j) (omega arith) ∙ h.0,
        get_or-append (hexed (framed kind p)) (newline ∷ []) 0 (2 * j + 1) (omega arith) ∙ h.1,
      )

  pub frame_newline : get_or (frame kind p) (digits_length (length p)) 0 ≡ newline
  unfolding frame
  frame_newline = get_or_at (hexed (framed kind p)) newline [] 0 (digits_length (length p)) (omega (arith, length_hexed (framed kind p), length_framed kind p))

  -- one byte of the frame more in front of a buffer, and the newline
  module _ (old : List ℕ) (r : LineIn p old) (buf : List ℕ) (j : ℕ) (e : buf ≡ begun (frame kind p) old (2 * j)) where
    pub put_pair : (b : ℕ) → j < 3 + length p → b ≡ get_or (framed kind p) j 0 → set (set buf (2 * j) (hex_of (b / 16))) (2 * j + 1) (hex_of (b % 16)) ≡ begun (frame kind p) old (2 * (j + 1))
    put_pair b l q =
        let h = frame_at j l in
        let n = length_frame in
        let m : 2 * (j + 1) ≡ 2 * j + 1 + 1 = omega arith in
        rw (q, m)
        (begun_more (frame kind p) old _ (2 * j + 1) _ (omega arith) (omega arith)
        (begun_more (frame kind p) old buf (2 * j) _ (omega arith) (omega arith) e (sym h.0))
        (sym h.1))

    pub put_end : j ≡ 3 + length p → set buf (2 * j) newline ≡ in_front (frame kind p) old
    put_end q =
        let n = length_frame in
        let m : 2 * j ≡ digits_length (length p) = omega arith in
        begun_more (frame kind p) old buf (2 * j) newline (omega arith) (omega arith) e (rw m (sym frame_newline))
        ∙ begun_all (frame kind p) old (2 * j + 1) (omega arith)
