-- The keys of the reduced table, written and compared letter by letter. Assumes nothing.
use mathlib.Core.Path.{◌≡◌, refl, sym, ap, ◌∙◌}
use mathlib.Core.Bool.{Bool, true, false}
use mathlib.Core.List.{List, []}
use Prim.Native.Nat.{ℕ, suc, ◌+◌, ◌-◌, ◌*◌, ◌≤◌, ◌<◌}
use native.Mathlib.Nat.{suc-mul, mul-le-mul_right}
use native.Mathlib.Numerals.{add-one}
use native.Mathlib.Omega.{arith}
use lib.Arith.{digits_lt}
use lib.ListN.{length, get_or, take, drop, set, length-append, get_or-append}
use lib.Seq.{ext_get_or, get_or_at, take-suc, take_all, take_at}
use borrow.Rule.Slice.PartMut.{put_mid}
use Rattle.paper.specs.Lists.{joined, part, in_front, same_list, all_below}
use Rattle.paper.specs.Chart.{n_of, letters}
use Rattle.paper.specs.Vectors.{row_times, end_grade}
use Rattle.paper.specs.Constructions.{letter_key, reduced_key}
use Rattle.lists.proofs.Tests.{not_both, all_at, all_by}
use Rattle.lists.proofs.ByPlace.{joined_cong, length_joined, get_or_joined, same_true, same_by, same_not, length_part, get_or_part}
use Rattle.lists.proofs.Lent.{in_front_next}
use Rattle.algebra.proofs.Vectors.{length_row}
use Rattle.kinds.specs.Kinds.{letter_same}
use Rattle.places.proofs.Memory.{joined_part, lent_from, in_front_splice}

-- what x letters make of v
length_letters : (c v : List ℕ) (x : ℕ) → length (joined x (letter_key c v)) ≡ x * n_of c
unfolding letter_key
length_letters c v x = length_joined x (n_of c) (letter_key c v) (λ y h. length_row c y v)

pub length_key : (c v : List ℕ) → length (reduced_key c v) ≡ letters c * n_of c + 1
unfolding reduced_key
length_key c v = rw (length-append, length_letters c v (letters c))

-- where letter x's part of a key of l bytes is
pub letter_inside : (x m n at l : ℕ) → at ≡ x * n → x < m → m * n + 1 ≤ l → at + n < l
letter_inside x m n at l e b f = omega (arith, suc-mul x n, mul-le-mul_right n b)

-- ---- writing a key

module _ (c v old : List ℕ) (fits : letters c * n_of c + 1 ≤ length old) where
  -- one letter more
  pub key_more : (x : ℕ) (out p : List ℕ) → x < letters c → length out ≡ length old → out ≡ in_front (joined x (letter_key c v)) old →
      p ≡ in_front (row_times c x v) (take (length out - x * n_of c) (drop (x * n_of c) out)) →
      put_mid (x * n_of c) (length out - x * n_of c) out p ≡ in_front (joined (x + 1) (letter_key c v)) old
  unfolding joined letter_key
  key_more x out p l lo eo ep =
      let r : length (row_times c x v) ≡ n_of c = length_row c x v in
      lent_from (x * n_of c) (row_times c x v) out p (rw (r, lo) (omega (arith, letter_inside x (letters c) (n_of c) (x * n_of c) (length old) refl l fits))) ep
      ∙ in_front_splice (joined x (letter_key c v)) old (row_times c x v) out (x * n_of c) eo (rw (length_letters c v x) refl)
      ∙ rw add-one

  -- the grade last
  pub key_all : (x : ℕ) (out : List ℕ) {g : ℕ} → x ≡ letters c → out ≡ in_front (joined x (letter_key c v)) old → g ≡ end_grade c v →
      set out (letters c * n_of c) g ≡ in_front (reduced_key c v) old
  unfolding reduced_key
  key_all x out e eo eg =
      let n : length (joined (letters c) (letter_key c v)) ≡ letters c * n_of c = rw (length_letters c v (letters c)) refl in
      let m : letters c * n_of c < length old = omega arith in
      rw (eo, eg, ← n, e) (in_front_next (joined (letters c) (letter_key c v)) old (end_grade c v) (rw n m))

-- ---- comparing keys

module _ (c v key : List ℕ) (long : length key ≡ letters c * n_of c + 1) where
  -- letter x's part of a key, as the code takes it
  pub letter_part : (x at : ℕ) {r : Bool} → at ≡ x * n_of c → r ≡ same_list (row_times c x v) (take (at + n_of c - at) (drop at key)) → r ≡ letter_same c v (n_of c) key x
  unfolding letter_same part
  letter_part x at e f = let q : at + n_of c - at ≡ n_of c = omega arith in f ∙ rw (q, e)

  key_letters : (x j : ℕ) → x < letters c → j < n_of c → get_or (reduced_key c v) (x * n_of c + j) 0 ≡ get_or (row_times c x v) j 0
  unfolding reduced_key letter_key
  key_letters x j a b =
      (get_or-append (joined (letters c) (letter_key c v)) _ 0 (x * n_of c + j) (rw length_letters (digits_lt a b))
      ∙ get_or_joined (letters c) (n_of c) (letter_key c v) 0 (λ y l. length_row c y v) x j a b)

  key_grade : get_or (reduced_key c v) (letters c * n_of c) 0 ≡ end_grade c v
  unfolding reduced_key
  key_grade = get_or_at (joined (letters c) (letter_key c v)) (end_grade c v) [] 0 (letters c * n_of c) (rw length_letters)

  -- another grade
  pub grade_differs : {g : ℕ} → g ≡ end_grade c v → (g ≡ get_or key (letters c * n_of c) 0 → ⊥) → false ≡ same_list (reduced_key c v) key
  grade_differs e f = sym (same_not (reduced_key c v) key (λ q. f (e ∙ sym key_grade ∙ ap (λ y. get_or y (letters c * n_of c) 0) q)))

  -- the letters and the grade agree
  same_parts : get_or key (letters c * n_of c) 0 ≡ end_grade c v → ((x : ℕ) → x < letters c → letter_same c v (n_of c) key x ≡ true) → reduced_key c v ≡ key
  unfolding reduced_key letter_key letter_same
  same_parts g a =
      let e : joined (letters c) (letter_key c v) ≡ take (letters c * n_of c) key =
      (joined_cong (letters c) (letter_key c v) (λ x. part (n_of c) x key) (λ x l. same_true (row_times c x v) (part (n_of c) x key) (a x l))
      ∙ joined_part (n_of c) (letters c) key) in
      let m : letters c * n_of c < length key = omega arith in
      rw (e, ← g, ← take-suc key (letters c * n_of c) 0 m) (take_all (suc (letters c * n_of c)) key (omega arith))

  -- equal keys agree on every letter
  parts_same : reduced_key c v ≡ key → (x : ℕ) → x < letters c → letter_same c v (n_of c) key x ≡ true
  unfolding letter_same
  parts_same q x l =
      let f : suc x * n_of c ≤ length (reduced_key c v) = rw (length_key c v) (omega (arith, mul-le-mul_right (n_of c) l)) in
      let n : length (part (n_of c) x (reduced_key c v)) ≡ n_of c = length_part (n_of c) x (reduced_key c v) f in
      rw (← q)
      (same_by
      (row_times c x v)
      (part (n_of c) x (reduced_key c v))
      (sym
      (ext_get_or 0 (part (n_of c) x (reduced_key c v)) (row_times c x v) (n ∙ sym (length_row c x v))
      (λ j b.
      let b' : j < n_of c = rw n at b in
      get_or_part (n_of c) x (reduced_key c v) 0 j b' ∙ key_letters x j l b'))))

  -- the same grade: the letters decide
  pub letters_decide : {g : ℕ} {r : Bool} → g ≡ end_grade c v → g ≡ get_or key (letters c * n_of c) 0 → r ≡ all_below (letters c) (letter_same c v (n_of c) key) →
      r ≡ same_list (reduced_key c v) key
  letters_decide {g} {r} e f d = go r d
    where
      go : (b : Bool) → b ≡ all_below (letters c) (letter_same c v (n_of c) key) → b ≡ same_list (reduced_key c v) key
      go true d = sym (same_by (reduced_key c v) key (same_parts (sym f ∙ e) (all_at (letter_same c v (n_of c) key) (letters c) (sym d))))
      go false d = sym (same_not (reduced_key c v) key (λ q. not_both (all_by (letter_same c v (n_of c) key) (letters c) (parts_same q)) (sym d)))

-- what a letter makes of v, in front of a local array
module _ (c : List ℕ) (x : ℕ) (v : List ℕ) where
  made_is : (old : List ℕ) {out : List ℕ} → out ≡ in_front (row_times c x v) old → take (n_of c) out ≡ row_times c x v
  unfolding in_front
  made_is old e = rw e (take_at (row_times c x v) _ (n_of c) (length_row c x v))

  pub made_front : (old due : List ℕ) {out : List ℕ} → out ≡ in_front (row_times c x v) old → same_list (take (n_of c) out) due ≡ same_list (row_times c x v) due
  made_front old due e = ap (λ y. same_list y due) (made_is old e)

-- the whole key, in front of a local array
pub key_front : (c v old : List ℕ) {out : List ℕ} → out ≡ in_front (reduced_key c v) old → take (letters c * n_of c + 1) out ≡ reduced_key c v
unfolding in_front
key_front c v old e = rw e (take_at _ _ _ (length_key c v))
