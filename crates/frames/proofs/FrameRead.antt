-- Reading one line: when it is the frame due, from the tests that the code makes, and what its payload is. Assumes nothing.
use mathlib.Core.Path.{◌≡◌, refl, sym, ◌∙◌}
use mathlib.Core.Bool.{Bool, true, false, false≢true, not}
use mathlib.Core.List.{List}
use mathlib.Core.Logic.{⊎_elim}
use Prim.Native.Nat.{ℕ, ◌+◌, ◌*◌, ◌≤◌, ◌<◌}
use native.Mathlib.Omega.{arith}
use lib.ListN.{length, get_or, set, get_or-eq_default}
use borrow.Author.Tests.{eq-eqb, ne_eqb, ltb-true, eqb-true}
use Rattle.std.specs.Prelude.{Option, Some, None, MatchOption, IsSome}
use Rattle.std.specs.Option.{option_eq}
use lib.Dec.{eqb}
use Rattle.frames.specs.Lines.{TwoDigits, ByteRead, CountRead}
use Rattle.paper.specs.Lists.{both, all_below, in_front}
use Rattle.pages.specs.Frames.{digit_of, byte_at, digit_fits, digits_length, line_length, newline, payload_at, payload, frame_fits}
use Rattle.lists.proofs.Tests.{both_left, both_right, both_false, all_at}
use Rattle.lists.proofs.ByPlace.{length_tabulate, get_or_tabulate}
use Rattle.lists.proofs.Bound.{le_or_lt}
use Rattle.lists.proofs.Front.{begun, begun_more, begun_all}

-- ---- digits from pos on
module _ (text : List ℕ) (pos : ℕ) where
  pub digit_at : (n i : ℕ) → all_below n (digit_fits text pos) ≡ true → i < n → digit_of (get_or text (pos + i) 0) < 16
  unfolding digit_fits
  digit_at n i e l = ltb-true _ 16 (all_at (digit_fits text pos) n e i l)

-- ---- the frame's parts
pub not_true : (b : Bool) → not b ≡ true → b ≡ false
not_true true e = absurd (false≢true e)
not_true false e = refl

pub not_false : (b : Bool) → not b ≡ false → b ≡ true
not_false true e = refl
not_false false e = absurd (false≢true (sym e))

module _ (kind w : ℕ) (text : List ℕ) (pos : ℕ) where
  -- its line is not one of digits
  bad_digits : (all_below (digits_length w) (digit_fits text pos) ≡ true → ⊥) → false ≡ frame_fits kind w text pos
  unfolding frame_fits
  bad_digits h = go (all_below (digits_length w) (digit_fits text pos)) refl
    where
      go : (b : Bool) → all_below (digits_length w) (digit_fits text pos) ≡ b → false ≡ frame_fits kind w text pos
      go true q = absurd (h q)
      go false q = sym (simp (q, both_false))

  head_digits : (i : ℕ) → i ≤ 4 → all_below (digits_length w) (digit_fits text pos) ≡ true → TwoDigits text (pos + i)
  head_digits i l q =
      let r : pos + i + 1 ≡ pos + (i + 1) = omega arith in
      (digit_at text pos (digits_length w) i q (omega arith), rw r (digit_at text pos (digits_length w) (i + 1) q (omega arith)))

  pub no_kind : (TwoDigits text pos → ⊥) → false ≡ frame_fits kind w text pos
  unfolding frame_fits both
  no_kind h = let q : pos + 0 ≡ pos = omega arith in bad_digits (λ d. h (rw q at (head_digits 0 (omega arith) d)))

  pub bad_kind : {x y : ℕ} → ByteRead text pos x → y ≡ x → (y ≡ kind → ⊥) → false ≡ frame_fits kind w text pos
  unfolding frame_fits both
  bad_kind {x} h f e = simp (← h.value, ne_eqb x kind (λ q. e (f ∙ q)))

  pub bad_count : (x : Option ℕ) → MatchOption x (TwoDigits text (pos + 2) → TwoDigits text (pos + 2 + 2) → ⊥) (CountRead text (pos + 2)) → not (option_eq eqb x (Some w)) ≡ true → false ≡ frame_fits kind w text pos
  unfolding frame_fits both
  bad_count None h e =
      let q : pos + 2 + 2 ≡ pos + 4 = omega arith in
      bad_digits (λ d. h (head_digits 2 (omega arith) d) (rw q (head_digits 4 (omega arith) d)))
  bad_count (Some x) h e =
      let q : pos + 2 + 2 ≡ pos + 4 = omega arith in
      simp (← (rw q at h.value), not_true (eqb x w) e, both_false)

  pub bad_newline : (x : ℕ) → x ≡ get_or text (pos + digits_length w) 0 → (x ≡ newline → ⊥) → false ≡ frame_fits kind w text pos
  unfolding frame_fits both
  bad_newline x p h = simp (← p, ne_eqb x newline h, both_false)

  pub kind_found : {x y : ℕ} → ByteRead text pos x → y ≡ x → y ≡ kind → kind ≡ byte_at text pos
  kind_found h f e = sym e ∙ f ∙ h.value

  pub count_found : (x : Option ℕ) → MatchOption x (TwoDigits text (pos + 2) → TwoDigits text (pos + 2 + 2) → ⊥) (CountRead text (pos + 2)) → not (option_eq eqb x (Some w)) ≡ false → w ≡ byte_at text (pos + 2) * 256 + byte_at text (pos + 4)
  count_found None h e = absurd (false≢true (sym e))
  count_found (Some x) h e = let q : pos + 2 + 2 ≡ pos + 4 = omega arith in sym (eqb-true x w (not_false (eqb x w) e)) ∙ rw q at h.value

  pub frame_rest : (v : ℕ) (b : Bool) → kind ≡ byte_at text pos → w ≡ byte_at text (pos + 2) * 256 + byte_at text (pos + 4) → v ≡ get_or text (pos + digits_length w) 0 → v ≡ newline → b ≡ all_below (digits_length w) (digit_fits text pos) → b ≡ frame_fits kind w text pos
  unfolding frame_fits both
  frame_rest v b p q s s' e = simp (eq-eqb (byte_at text pos) kind (sym p), eq-eqb (byte_at text (pos + 2) * 256 + byte_at text (pos + 4)) w (sym q), eq-eqb (get_or text (pos + digits_length w) 0) newline (sym s ∙ s')) e

  -- what a frame that fits says of its line
  module _ (e : frame_fits kind w text pos ≡ true) where
    pub kind_is : byte_at text pos ≡ kind
    unfolding frame_fits
    kind_is = eqb-true _ kind (both_left _ _ e)

    pub count_is : byte_at text (pos + 2) * 256 + byte_at text (pos + 4) ≡ w
    unfolding frame_fits
    count_is = eqb-true _ w (both_left _ _ (both_right _ _ e))

    pub newline_is : get_or text (pos + digits_length w) 0 ≡ newline
    unfolding frame_fits
    newline_is = eqb-true _ newline (both_left _ _ (both_right _ _ (both_right _ _ e)))

    pub frame_digits : all_below (digits_length w) (digit_fits text pos) ≡ true
    unfolding frame_fits
    frame_digits = both_right _ _ (both_right _ _ (both_right _ _ e))

    -- its newline is inside the text, for past the end there is none
    pub frame_inside : pos + line_length w ≤ length text
    frame_inside =
        ⊎_elim (λ h. absurd (omega (arith, newline_is, get_or-eq_default text 0 h))) (λ h. omega arith)
        (le_or_lt (length text) (pos + digits_length w))

-- ---- the payload

-- two digits stand at each of its places
pub payload_digits : (text : List ℕ) (pos w i : ℕ) → all_below (digits_length w) (digit_fits text pos) ≡ true → i < w → TwoDigits text (pos + digits_length i)
payload_digits text pos w i e l =
    let r : pos + digits_length i + 1 ≡ pos + line_length i = omega arith in
    (digit_at text pos (digits_length w) (digits_length i) e (omega arith), rw r (digit_at text pos (digits_length w) (line_length i) e (omega arith)))

-- and are read as a byte
pub byte_there : (text : List ℕ) (i : ℕ) (x : Option ℕ) → MatchOption x (TwoDigits text i → ⊥) (ByteRead text i) → TwoDigits text i → IsSome x
byte_there text i None h d = absurd (h d)
byte_there text i (Some b) h d = refl

pub byte_found : (text : List ℕ) (i : ℕ) (x : Option ℕ) (b : ℕ) → MatchOption x (TwoDigits text i → ⊥) (ByteRead text i) → x ≡ Some b → b ≡ byte_at text i
byte_found text i x b h e = (rw e at h).value

pub length_payload : (w : ℕ) (text : List ℕ) (pos : ℕ) → length (payload w text pos) ≡ w
unfolding payload
length_payload w text pos = length_tabulate w (payload_at text pos)

pub get_or_payload : (text : List ℕ) (pos w i : ℕ) → i < w → get_or (payload w text pos) i 0 ≡ byte_at text (pos + digits_length i)
unfolding payload payload_at
get_or_payload text pos w i l = get_or_tabulate w (payload_at text pos) 0 i l

-- its bytes come in front of a buffer, one more, and all of them
module _ (text : List ℕ) (pos w : ℕ) (old buf : List ℕ) (i : ℕ) (e : buf ≡ begun (payload w text pos) old i) where
  pub payload_more : (x : ℕ) → w ≤ length old → i < w → x ≡ byte_at text (pos + digits_length i) → set buf i x ≡ begun (payload w text pos) old (i + 1)
  payload_more x h l q =
      begun_more (payload w text pos) old buf i x (rw (length_payload w text pos) l) (omega arith) e (q ∙ sym (get_or_payload text pos w i l))

  pub payload_done : i ≡ w → buf ≡ in_front (payload w text pos) old
  payload_done q = e ∙ begun_all (payload w text pos) old i (q ∙ sym (length_payload w text pos))
