-- Buffers of which parts are written over, and values in places of one stride. Assumes nothing.
use mathlib.Core.Path.{◌≡◌, refl, sym, ap, ◌∙◌}
use mathlib.Core.List.{List, [], ◌∷◌, ◌++◌, append_assoc, append-nil}
use Prim.Native.Nat.{ℕ, zero, suc, ◌+◌, ◌-◌, ◌*◌, ◌≤◌, ◌<◌}
use native.Mathlib.Nat.{zero-mul, suc-mul, mul-le-mul_right, le_refl}
use native.Mathlib.Numerals.{add-one, add-two}
use native.Mathlib.Omega.{arith}
use native.Mathlib.Decide.{dec_lt}
use lib.ListN.{length, get_or, take, drop, set, length-append, length-take, length-drop, get_or-append, drop_of_length-le}
use lib.Seq.{take-add, set_split, set_at, drop-cons, append_snoc, take_at, drop_at, take_all, drop-drop, length-take-le, drop-append-add, get_or-take, get_or-drop, ext_get_or}
use borrow.Rule.Slice.PartMut.{put_mid}
use Rattle.paper.specs.Lists.{tabulate, in_front, joined, part}
use Rattle.lists.proofs.ByPlace.{tabulate_cong}
use Rattle.places.specs.Search.{place_at, values}
use Rattle.places.specs.Memory.{spliced, Apart}

-- ---- a run of bytes written over

-- what a part lent from place a on to the end becomes, said of the whole
pub lent_from : (a : ℕ) (new old p : List ℕ) → a + length new ≤ length old → p ≡ in_front new (take (length old - a) (drop a old)) →
    put_mid a (length old - a) old p ≡ spliced a new old
unfolding in_front spliced
lent_from a new old p h e =
    let l : length (drop a old) ≤ length old - a = rw length-drop (le_refl _) in
    rw (e, take_all _ _ l, drop_of_length-le _ l, append-nil, drop-drop)

pub length_spliced : (a : ℕ) (new old : List ℕ) → a + length new ≤ length old → length (spliced a new old) ≡ length old
unfolding spliced
length_spliced a new old h = simp (length-append, length-take, length-drop) (omega arith)

-- what is behind the run is as it was
pub drop_spliced : (a : ℕ) (new old : List ℕ) (b : ℕ) → a + length new ≤ length old → a + length new ≤ b → drop b (spliced a new old) ≡ drop b old
unfolding spliced
drop_spliced a new old b h l =
    let e : b ≡ (a + length new) + (b - (a + length new)) = omega arith in
    let n : length (take a old ++ new) ≡ a + length new = rw (length-append, length-take-le a old (omega arith)) in
    rw (e, ← drop-drop, ← append_assoc, drop_at (take a old ++ new) _ (a + length new) n, drop-drop)

-- bytes before the run and behind it are as they were
pub get_or_before : (a : ℕ) (new old : List ℕ) (i : ℕ) → a ≤ length old → i < a → get_or (spliced a new old) i 0 ≡ get_or old i 0
unfolding spliced
get_or_before a new old i h l = get_or-append (take a old) _ 0 i (rw (length-take-le a old h) l) ∙ rw get_or-take

pub get_or_behind : (a : ℕ) (new old : List ℕ) (i : ℕ) → a + length new ≤ length old → a + length new ≤ i → get_or (spliced a new old) i 0 ≡ get_or old i 0
get_or_behind a new old i h l =
    let q : i ≡ i + 0 = omega arith in
    ap (λ k. get_or (spliced a new old) k 0) q ∙ sym (get_or-drop i (spliced a new old) 0 0) ∙ ap (λ xs. get_or xs 0 0) (drop_spliced a new old i h l) ∙ get_or-drop i old 0 0 ∙ ap (λ k. get_or old k 0) (sym q)

drop_past : (xs ys : List ℕ) (n k : ℕ) → length xs ≡ k → drop (k + n) (xs ++ ys) ≡ drop n ys
drop_past xs ys n k e = rw (← e) (drop-append-add xs ys n)

-- a run written behind what stands in front
pub in_front_splice : (done old new buf : List ℕ) (at : ℕ) → buf ≡ in_front done old → length done ≡ at → spliced at new buf ≡ in_front (done ++ new) old
unfolding in_front spliced
in_front_splice done old new buf at e l =
    rw (e, take_at done _ at l, drop_past done _ (length new) at l, drop-drop, append_assoc, length-append)

-- ---- values in places

module _ (stride w : ℕ) where
  pub length_place : (xs : List ℕ) (s : ℕ) → s * stride + w ≤ length xs → length (place_at stride w xs s) ≡ w
  unfolding place_at
  length_place xs s h = simp (length-take, length-drop) (omega arith)

  pub place_byte : (xs : List ℕ) (s j : ℕ) → j < w → get_or (place_at stride w xs s) j 0 ≡ get_or xs (s * stride + j) 0
  unfolding place_at
  place_byte xs s j h = rw (get_or-take, get_or-drop)

  -- one place more, as a loop counts
  pub values_more : (held : ℕ) (xs : List ℕ) → values stride w (held + 1) xs ≡ values stride w held xs ++ (place_at stride w xs held ∷ [])
  unfolding values tabulate
  values_more held xs = rw add-one

  -- the candidate in place `held`
  module _ (held : ℕ) (new old : List ℕ) (wide : length new ≡ w) (inside : w ≤ stride) where
    pub place_here : held * stride ≤ length old → place_at stride w (spliced (held * stride) new old) held ≡ new
    unfolding place_at spliced
    place_here h = rw (drop_at (take (held * stride) old) _ (held * stride) (length-take-le (held * stride) old h), take_at new _ w wide)

    module _ (fits : held * stride + w ≤ length old) where
      pub place_before : (s : ℕ) → s < held → place_at stride w (spliced (held * stride) new old) s ≡ place_at stride w old s
      place_before s h =
          let b : s * stride + stride ≤ held * stride = omega (arith, suc-mul s stride, mul-le-mul_right stride h) in
          let n : length (spliced (held * stride) new old) ≡ length old = length_spliced (held * stride) new old (rw wide fits) in
          ext_get_or 0 _ _ (length_place (spliced (held * stride) new old) s (rw n (omega arith)) ∙ sym (length_place old s (omega arith)))
          (λ j l.
          let l' : j < w = rw (length_place (spliced (held * stride) new old) s (rw n (omega arith))) at l in
          place_byte (spliced (held * stride) new old) s j l'
          ∙ get_or_before (held * stride) new old (s * stride + j) (omega arith) (omega arith)
          ∙ sym (place_byte old s j l'))

      pub values_before : values stride w held (spliced (held * stride) new old) ≡ values stride w held old
      unfolding values
      values_before = tabulate_cong held _ _ place_before

      pub apart_spliced : (places : ℕ) → held < places → Apart stride w places old (spliced (held * stride) new old)
      apart_spliced places h =
          let m : held * stride + stride ≤ places * stride = omega (arith, suc-mul held stride, mul-le-mul_right stride h) in
          record {
            long = length_spliced (held * stride) new old (rw wide fits);
            rest = λ s j a b. rest s j a b (dec_lt s held);
            past = drop_spliced (held * stride) new old (places * stride) (rw wide fits) (rw wide (omega arith));
          }
        where
          rest : (s j : ℕ) → w ≤ j → j < stride → Dec (s < held) → get_or (spliced (held * stride) new old) (s * stride + j) 0 ≡ get_or old (s * stride + j) 0
          rest s j a b (yes l) = get_or_before (held * stride) new old (s * stride + j) (omega arith) (omega (arith, suc-mul s stride, mul-le-mul_right stride l))
          rest s j a b (no l) =
              let g : held ≤ s = omega arith in
              get_or_behind (held * stride) new old (s * stride + j) (rw wide fits) (rw wide (omega (arith, mul-le-mul_right stride g)))

-- ---- what stays apart

pub apart_refl : (stride w places : ℕ) (xs : List ℕ) → Apart stride w places xs xs
apart_refl stride w places xs = record { long = refl; rest = λ s j a b. refl; past = refl }

pub apart_trans : {stride w places : ℕ} {xs ys zs : List ℕ} → Apart stride w places xs ys → Apart stride w places ys zs → Apart stride w places xs zs
apart_trans a b = record { long = b.long ∙ a.long; rest = λ s j h l. b.rest s j h l ∙ a.rest s j h l; past = b.past ∙ a.past }

-- ---- parts

-- parts one after the other are the front
pub joined_part : (w n : ℕ) (xs : List ℕ) → joined n (λ s. part w s xs) ≡ take (n * w) xs
unfolding joined part
joined_part w zero xs = rw zero-mul
joined_part w (suc n) xs = rw (suc-mul, take-add, joined_part w n xs)

-- ---- two bytes side by side

pub set_two : (row : List ℕ) (at a b : ℕ) → at + 2 ≤ length row → set (set row at a) (at + 1) b ≡ spliced at (a ∷ b ∷ []) row
unfolding spliced
set_two row at a b h =
    let l : at < length row = omega arith in
    let l' : suc at < length row = omega arith in
    rw (set_split row at a l, drop-cons row (suc at) 0 l', ← append_snoc (take at row) a, set_at (take at row ++ (a ∷ [])) _ _ b (at + 1) (rw (length-append, length-take-le at row (omega arith))), append_snoc, add-two)
