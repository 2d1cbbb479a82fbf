-- A line is read as a frame exactly where it is that frame as it is written. Assumes nothing.
use mathlib.Core.Path.{◌≡◌, refl, sym, ap, ◌∙◌, subst}
use mathlib.Core.Bool.{Bool, true, false}
use mathlib.Core.List.{List, [], ◌∷◌, ◌++◌}
use mathlib.Core.Logic.{⊎_elim}
use Prim.Native.Nat.{ℕ, zero, suc, ◌+◌, ◌-◌, ◌*◌, ◌/◌, ◌%◌, ◌≤◌, ◌<◌}
use native.Mathlib.Omega.{arith}
use lib.Dec.{leb, ltb}
use lib.ListN.{length, get_or, take, drop, length-drop}
use lib.Seq.{take-suc, get_or-drop, ext_get_or}
use borrow.Author.Tests.{lt-ltb, le-ltb, ltb-true, ltb-false, leb-true, leb-false}
use Rattle.paper.specs.Lists.{pick, tabulate}
use Rattle.paper.specs.Tables.{two_bytes}
use Rattle.pages.specs.Frames.{hex_of, digit_of, hexed, framed, frame, newline, digits_length, line_length, byte_at, digit_fits, payload_at, payload, frame_fits}
use Rattle.lists.proofs.Tests.{all_by}
use Rattle.lists.proofs.ByPlace.{tabulate_cong}
use Rattle.lists.proofs.Bound.{le_or_lt}
use Rattle.texts.proofs.ListLaws.{tabulate_cons, take_two}
use Rattle.frames.proofs.Hex.{digit_low, digit_high, digit_below, digit_between, digit_above}
use Rattle.frames.proofs.FrameRead.{digit_at, kind_is, count_is, newline_is, frame_digits, frame_inside, frame_rest, length_payload, get_or_payload}
use Rattle.frames.proofs.FrameWritten.{byte_rest, frame_at, frame_newline}

-- ---- digits

-- the number of a digit's byte is the digit
hex_digit : (n : ℕ) → n < 16 → digit_of (hex_of n) ≡ n
hex_digit n h = go (ltb n 10) refl
  where
    go : (b : Bool) → ltb n 10 ≡ b → digit_of (pick b (48 + n) (87 + n)) ≡ n
    go true q = let k = ltb-true n 10 q in sym (digit_low (48 + n) (omega arith) (omega arith)) ∙ omega arith
    go false q = let k = ltb-false n 10 q in sym (digit_high (87 + n) (omega arith) (omega arith)) ∙ omega arith

-- a byte that is a digit is that of its number
digit_hex : (c : ℕ) → digit_of c < 16 → hex_of (digit_of c) ≡ c
digit_hex c h = go (leb 48 c) refl (leb c 57) refl (leb 97 c) refl (leb c 102) refl
  where
    low : 48 ≤ c → c ≤ 57 → hex_of (digit_of c) ≡ c
    low a b = rw (← digit_low c a b, lt-ltb (c - 48) 10 (omega arith)) (omega arith)

    high : 97 ≤ c → c ≤ 102 → hex_of (digit_of c) ≡ c
    high a b = rw (← digit_high c a b, le-ltb (c - 97 + 10) 10 (omega arith)) (omega arith)

    never : {A : Type 0} → 16 ≡ digit_of c → A
    never e = absurd (omega arith)

    go : (b₁ : Bool) → leb 48 c ≡ b₁ → (b₂ : Bool) → leb c 57 ≡ b₂ → (b₃ : Bool) → leb 97 c ≡ b₃ → (b₄ : Bool) → leb c 102 ≡ b₄ → hex_of (digit_of c) ≡ c
    go false q₁ b₂ q₂ b₃ q₃ b₄ q₄ = never (digit_below c (leb-false 48 c q₁))
    go true q₁ true q₂ b₃ q₃ b₄ q₄ = low (leb-true 48 c q₁) (leb-true c 57 q₂)
    go true q₁ false q₂ false q₃ b₄ q₄ = never (digit_between c (leb-false c 57 q₂) (leb-false 97 c q₃))
    go true q₁ false q₂ true q₃ false q₄ = never (digit_above c (leb-false c 102 q₄))
    go true q₁ false q₂ true q₃ true q₄ = high (leb-true 97 c q₃) (leb-true c 102 q₄)

hexed_append : (xs ys : List ℕ) → hexed (xs ++ ys) ≡ hexed xs ++ hexed ys
unfolding hexed
hexed_append [] ys = refl
hexed_append (x ∷ xs) ys = rw (hexed_append xs ys)

-- the byte at a place, as its two digits
byte_back : (text : List ℕ) (i : ℕ) → digit_of (get_or text i 0) < 16 → digit_of (get_or text (i + 1) 0) < 16 → hexed (byte_at text i ∷ []) ≡ get_or text i 0 ∷ get_or text (i + 1) 0 ∷ []
unfolding hexed byte_at
byte_back text i h k =
    let c : ℕ = get_or text i 0 in
    let d : ℕ = get_or text (i + 1) 0 in
    let p : (digit_of c * 16 + digit_of d) / 16 ≡ digit_of c = omega arith in
    let q : (digit_of c * 16 + digit_of d) % 16 ≡ digit_of d = omega arith in
    rw (p, q, digit_hex c h, digit_hex d k)

-- what is read of b bytes' digits is written as those digits
digits_back : (text : List ℕ) (pos b : ℕ) → ((i : ℕ) → i < 2 * b → digit_of (get_or text (pos + i) 0) < 16) → pos + 2 * b ≤ length text → hexed (tabulate b (λ j. byte_at text (pos + 2 * j))) ≡ take (2 * b) (drop pos text)
unfolding hexed tabulate
digits_back text pos zero h l = refl
digits_back text pos (suc b) h l =
    let q : 2 * suc b ≡ suc (suc (2 * b)) = omega arith in
    let z : pos + suc (2 * b) ≡ pos + 2 * b + 1 = omega arith in
    let d : digit_of (get_or text (pos + 2 * b + 1) 0) < 16 = rw z at (h (suc (2 * b)) (omega arith)) in
    hexed_append (tabulate b (λ j. byte_at text (pos + 2 * j))) (byte_at text (pos + 2 * b) ∷ [])
    ∙ rw (q, take_two (drop pos text) (2 * b) (simp length-drop (omega arith)), get_or-drop pos text (2 * b) 0, get_or-drop pos text (suc (2 * b)) 0, z, digits_back text pos b (λ i k. h i (omega arith)) (omega arith), byte_back text (pos + 2 * b) (h (2 * b) (omega arith)) d)

-- ---- a line that is read as a frame is that frame, as it is written
module _ (kind w : ℕ) (text : List ℕ) (pos : ℕ) (e : frame_fits kind w text pos ≡ true) where
  digit : (i : ℕ) → i < digits_length w → digit_of (get_or text (pos + i) 0) < 16
  digit i l = digit_at text pos (digits_length w) i (frame_digits kind w text pos e) l

  byte_small : (i : ℕ) → i + 1 < digits_length w → byte_at text (pos + i) < 256
  unfolding byte_at
  byte_small i l =
      let z : pos + (i + 1) ≡ pos + i + 1 = omega arith in
      omega (arith, digit i (omega arith), rw z at (digit (i + 1) l))

  -- the frame's bytes are those of the line's digits
  bytes_read : framed kind (payload w text pos) ≡ tabulate (3 + w) (λ j. byte_at text (pos + 2 * j))
  unfolding framed two_bytes payload payload_at
  bytes_read =
      let count = count_is kind w text pos e in
      let high : w / 256 % 256 ≡ byte_at text (pos + 2) = omega (arith, byte_small 2 (omega arith), byte_small 4 (omega arith)) in
      let low : w % 256 ≡ byte_at text (pos + 4) = omega (arith, byte_small 4 (omega arith)) in
      let z : pos + 2 * 0 ≡ pos = omega arith in
      let n : 3 + w ≡ suc (suc (suc w)) = omega arith in
      rw (length_payload w text pos, n, tabulate_cons, tabulate_cons, tabulate_cons, z, kind_is kind w text pos e, high, low)
      (ap (λ (p : List ℕ). kind ∷ byte_at text (pos + 2) ∷ byte_at text (pos + 4) ∷ p)
      (tabulate_cong w (payload_at text pos) (λ i. byte_at text (pos + 2 * suc (suc (suc i)))) (λ i l. ap (λ (j : ℕ). byte_at text (pos + j)) (omega arith))))

  pub frame_back : take (line_length w) (drop pos text) ≡ frame kind (payload w text pos)
  unfolding frame
  frame_back =
      let q : line_length w ≡ suc (2 * (3 + w)) = omega arith in
      let z : pos + 2 * (3 + w) ≡ pos + digits_length w = omega arith in
      let inside : pos + line_length w ≤ length text = frame_inside kind w text pos e in
      rw (q, take-suc (drop pos text) (2 * (3 + w)) 0 (simp length-drop (omega arith)), get_or-drop pos text (2 * (3 + w)) 0, z, newline_is kind w text pos e, bytes_read)
      (ap (λ (l : List ℕ). l ++ (newline ∷ [])) (sym (digits_back text pos (3 + w) (λ i k. digit i (omega arith)) (omega arith))))

-- ---- a frame that is written is read as that frame

-- every number of a list is a byte
unfoldable pub Bytes : List ℕ → Type 0
Bytes l = (i : ℕ) → get_or l i 0 < 256

module _ (kind : ℕ) (p text : List ℕ) (pos : ℕ) (small : kind < 256) (few : length p < 65536) (bytes : Bytes p) (same : (i : ℕ) → i < line_length (length p) → get_or text (pos + i) 0 ≡ get_or (frame kind p) i 0) where
  framed_small : (j : ℕ) → get_or (framed kind p) j 0 < 256
  unfolding Bytes framed two_bytes
  framed_small zero = small
  framed_small (suc zero) = omega arith
  framed_small (suc (suc zero)) = omega arith
  framed_small (suc (suc (suc j))) = bytes j

  high_is : (j : ℕ) → j < 3 + length p → digit_of (get_or text (pos + 2 * j) 0) ≡ get_or (framed kind p) j 0 / 16
  high_is j l = rw (same (2 * j) (omega arith), (frame_at kind p j l).0) (hex_digit (get_or (framed kind p) j 0 / 16) (omega (arith, framed_small j)))

  low_is : (j : ℕ) → j < 3 + length p → digit_of (get_or text (pos + (2 * j + 1)) 0) ≡ get_or (framed kind p) j 0 % 16
  low_is j l = rw (same (2 * j + 1) (omega arith), (frame_at kind p j l).1) (hex_digit (get_or (framed kind p) j 0 % 16) (omega arith))

  byte_read : (j i : ℕ) → i ≡ pos + 2 * j → j < 3 + length p → byte_at text i ≡ get_or (framed kind p) j 0
  unfolding byte_at
  byte_read j i q l =
      let z : pos + 2 * j + 1 ≡ pos + (2 * j + 1) = omega arith in
      rw (q, z, high_is j l, low_is j l) (omega arith)

  digit_read : (i : ℕ) → i < digits_length (length p) → digit_fits text pos i ≡ true
  unfolding digit_fits
  digit_read i l =
      ⊎_elim
      (λ h. let q : i ≡ 2 * (i / 2) = omega arith in lt-ltb _ 16 (subst (λ (n : ℕ). digit_of (get_or text (pos + n) 0) < 16) (sym q) (omega (arith, high_is (i / 2) (omega arith), framed_small (i / 2)))))
      (λ h. let q : i ≡ 2 * (i / 2) + 1 = omega arith in lt-ltb _ 16 (subst (λ (n : ℕ). digit_of (get_or text (pos + n) 0) < 16) (sym q) (omega (arith, low_is (i / 2) (omega arith)))))
      (le_or_lt (i % 2) 0)

  pub frame_read : frame_fits kind (length p) text pos ≡ true
  unfolding framed two_bytes
  frame_read =
      let w = length p in
      sym
      (frame_rest kind w text pos (get_or text (pos + digits_length w) 0) true (sym (byte_read 0 pos (omega arith) (omega arith)))
      (rw (byte_read 1 (pos + 2) (omega arith) (omega arith), byte_read 2 (pos + 4) (omega arith) (omega arith)) (omega arith))
      refl
      (same (digits_length w) (omega arith) ∙ frame_newline kind p)
      (sym (all_by (digit_fits text pos) (digits_length w) digit_read)))

  pub payload_read : payload (length p) text pos ≡ p
  payload_read =
      ext_get_or 0 (payload (length p) text pos) p (length_payload (length p) text pos)
      (λ i l.
      let k : i < length p = rw (length_payload (length p) text pos) at l in
      let j : 3 + i - 3 ≡ i = omega arith in
      get_or_payload text pos (length p) i k ∙ byte_read (3 + i) (pos + digits_length i) (omega arith) (omega arith) ∙ sym (byte_rest kind p (3 + i) (omega arith)) ∙ ap (λ (n : ℕ). get_or p n 0) j)
