-- Lists by place: lengths, elements and parts of what the definitions of Lists make. Assumes nothing.
use mathlib.Core.Path.{◌≡◌, refl, sym, ap, ap₂, ◌∙◌, subst}
use mathlib.Core.Bool.{Bool, true, false, ◌&&◌, false≢true}
use mathlib.Core.List.{List, [], ◌∷◌, ◌++◌}
use Prim.Native.Nat.{ℕ, zero, suc, ◌+◌, ◌*◌, ◌≤◌, ◌<◌}
use native.Mathlib.Nat.{not-suc-le-zero, zero-mul, suc-mul, mul-le-mul_right}
use native.Mathlib.Omega.{arith}
use lib.Arith.{digits_lt}
use lib.ListN.{length, get_or, length-append, length-take, length-drop, get_or-append}
use lib.Seq.{get_or_at, ext_get_or, get_or-append-add, get_or-take, get_or-drop}
use lib.Dec.{eqb}
use lib.Pointwise.{pointwise}
use borrow.Author.Tests.{eqb-true, eq-eqb}
use Rattle.paper.specs.Lists.{pick, tabulate, joined, part, same_list}
use Rattle.lists.proofs.Tests.{below_suc, not_both}

-- ---- tabulate

pub length_tabulate {ℓ} : {X : Type ℓ} (n : ℕ) (f : ℕ → X) → length (tabulate n f) ≡ n
unfolding tabulate
length_tabulate zero f = refl
length_tabulate (suc n) f = length-append (tabulate n f) (f n ∷ []) ∙ omega (arith, length_tabulate n f)

pub get_or_tabulate {ℓ} : {X : Type ℓ} (n : ℕ) (f : ℕ → X) (d : X) (i : ℕ) → i < n → get_or (tabulate n f) i d ≡ f i
unfolding tabulate
get_or_tabulate zero f d i h = absurd (not-suc-le-zero h)
get_or_tabulate (suc n) f d i h =
    below_suc {P = λ j. get_or (tabulate n f ++ (f n ∷ [])) j d ≡ f j} n
    (λ j l. get_or-append (tabulate n f) (f n ∷ []) d j (rw length_tabulate l) ∙ get_or_tabulate n f d j l)
    (get_or_at (tabulate n f) (f n) [] d n (length_tabulate n f)) i h

-- equal values make one list
pub tabulate_cong {ℓ} : {X : Type ℓ} (n : ℕ) (f g : ℕ → X) → ((i : ℕ) → i < n → f i ≡ g i) → tabulate n f ≡ tabulate n g
unfolding tabulate
tabulate_cong zero f g h = refl
tabulate_cong (suc n) f g h = ap₂ (λ l x. l ++ (x ∷ [])) (tabulate_cong n f g (λ i l. h i (omega arith))) (h n (omega arith))

-- a list is the table of its own elements
pub tabulate_get_or {ℓ} : {X : Type ℓ} (n : ℕ) (l : List X) (d : X) → length l ≡ n → tabulate n (λ i. get_or l i d) ≡ l
tabulate_get_or n l d e =
    ext_get_or d (tabulate n (λ i. get_or l i d)) l (length_tabulate n (λ i. get_or l i d) ∙ sym e)
    (λ i h. get_or_tabulate n (λ i. get_or l i d) d i (rw length_tabulate at h))

-- ---- same_list

pub same_true : (a b : List ℕ) → same_list a b ≡ true → a ≡ b
unfolding same_list
same_true [] [] e = refl
same_true [] (y ∷ b) e = absurd (false≢true e)
same_true (x ∷ a) [] e = absurd (false≢true e)
same_true (x ∷ a) (y ∷ b) e = go (eqb x y) refl e (same_true a b)
  where
    go : (t : Bool) → eqb x y ≡ t → pick t (same_list a b) false ≡ true → (same_list a b ≡ true → a ≡ b) → x ∷ a ≡ y ∷ b
    go true q e ih = ap₂ (λ h t. h ∷ t) (eqb-true x y q) (ih e)
    go false q e ih = absurd (false≢true e)

-- what the test of two slices says
pub same_pointwise : (a b : List ℕ) → pointwise eqb a b ≡ same_list a b
unfolding same_list
same_pointwise [] [] = refl
same_pointwise [] (y ∷ b) = refl
same_pointwise (x ∷ a) [] = refl
same_pointwise (x ∷ a) (y ∷ b) = ap₂ (λ t u. t && u) refl (same_pointwise a b) ∙ chosen (eqb x y) (same_list a b)
  where
    chosen : (t u : Bool) → t && u ≡ pick t u false
    chosen true u = refl
    chosen false u = refl

pub same_refl : (a : List ℕ) → same_list a a ≡ true
unfolding same_list
same_refl [] = refl
same_refl (x ∷ a) = rw (eq-eqb x x refl) (same_refl a)

pub same_by : (a b : List ℕ) → a ≡ b → same_list a b ≡ true
same_by a b e = rw e (same_refl b)

pub same_false : (a b : List ℕ) → same_list a b ≡ false → a ≡ b → ⊥
same_false a b e p = not_both (same_by a b p) e

-- lists that differ test as different
pub same_not : (a b : List ℕ) → (a ≡ b → ⊥) → same_list a b ≡ false
same_not a b f = go (same_list a b) refl
  where
    go : (t : Bool) → same_list a b ≡ t → t ≡ false
    go true e = absurd (f (same_true a b e))
    go false e = refl

-- ---- joined: lists of w elements one after the other

pub length_joined {ℓ} : {X : Type ℓ} (n w : ℕ) (f : ℕ → List X) → ((i : ℕ) → i < n → length (f i) ≡ w) → length (joined n f) ≡ n * w
unfolding joined
length_joined zero w f h = sym (zero-mul w)
length_joined (suc n) w f h =
    length-append (joined n f) (f n) ∙ omega (arith, length_joined n w f (λ i l. h i (omega arith)), h n (omega arith), suc-mul n w)

pub get_or_joined {ℓ} : {X : Type ℓ} (n w : ℕ) (f : ℕ → List X) (d : X) → ((i : ℕ) → i < n → length (f i) ≡ w) →
    (i j : ℕ) → i < n → j < w → get_or (joined n f) (i * w + j) d ≡ get_or (f i) j d
unfolding joined
get_or_joined zero w f d h i j p q = absurd (not-suc-le-zero p)
get_or_joined (suc n) w f d h i j p q =
    below_suc {P = λ k. get_or (joined n f ++ f n) (k * w + j) d ≡ get_or (f k) j d} n
    (λ k l. get_or-append (joined n f) (f n) d (k * w + j) (omega (arith, len, mul-le-mul_right w l)) ∙ get_or_joined n w f d (λ i l. h i (omega arith)) k j l q)
    (subst (λ (k : ℕ). get_or (joined n f ++ f n) (k + j) d ≡ get_or (f n) j d) len (get_or-append-add (joined n f) (f n) j d)) i p
  where
    len : length (joined n f) ≡ n * w
    len = length_joined n w f (λ i l. h i (omega arith))

pub joined_cong {ℓ} : {X : Type ℓ} (n : ℕ) (f g : ℕ → List X) → ((i : ℕ) → i < n → f i ≡ g i) → joined n f ≡ joined n g
unfolding joined
joined_cong zero f g h = refl
joined_cong (suc n) f g h = ap₂ (λ l r. l ++ r) (joined_cong n f g (λ i l. h i (omega arith))) (h n (omega arith))

-- the parts of equal lists of lists are equal, and so is what stands behind them
module _ {ℓ} {X : Type ℓ} (d : X) (n w : ℕ) (f g : ℕ → List X) (hf : (i : ℕ) → i < n → length (f i) ≡ w) (hg : (i : ℕ) → i < n → length (g i) ≡ w) where
  pub joined_parts : (s t : List X) → joined n f ++ s ≡ joined n g ++ t → (i : ℕ) → i < n → f i ≡ g i
  joined_parts s t e i h = ext_get_or d (f i) (g i) (hf i h ∙ sym (hg i h)) (λ j l. at j (rw (hf i h) at l))
    where
      at : (j : ℕ) → j < w → get_or (f i) j d ≡ get_or (g i) j d
      at j l =
          sym (get_or_joined n w f d hf i j h l)
          ∙ sym (get_or-append (joined n f) s d (i * w + j) (rw (length_joined n w f hf) (digits_lt h l)))
          ∙ ap (λ r. get_or r (i * w + j) d) e
          ∙ get_or-append (joined n g) t d (i * w + j) (rw (length_joined n w g hg) (digits_lt h l))
          ∙ get_or_joined n w g d hg i j h l

-- ---- part

pub length_part {ℓ} : {X : Type ℓ} (w s : ℕ) (xs : List X) → suc s * w ≤ length xs → length (part w s xs) ≡ w
unfolding part
length_part w s xs h = simp (length-take, length-drop) (omega (arith, suc-mul s w))

pub get_or_part {ℓ} : {X : Type ℓ} (w s : ℕ) (xs : List X) (d : X) (i : ℕ) → i < w → get_or (part w s xs) i d ≡ get_or xs (s * w + i) d
unfolding part
get_or_part w s xs d i h = rw (get_or-take, get_or-drop)

-- part i of lists of w elements one after the other, with more behind them
pub part_joined {ℓ} : {X : Type ℓ} (d : X) (n w : ℕ) (f : ℕ → List X) (more : List X) → ((i : ℕ) → i < n → length (f i) ≡ w) →
    (i : ℕ) → i < n → part w i (joined n f ++ more) ≡ f i
part_joined d n w f more h i l =
    ext_get_or d (part w i (joined n f ++ more)) (f i) (size ∙ sym (h i l)) (λ j b. at j (rw size at b))
  where
    size : length (part w i (joined n f ++ more)) ≡ w
    size = length_part w i (joined n f ++ more) (omega (arith, length-append (joined n f) more, length_joined n w f h, mul-le-mul_right w l))

    at : (j : ℕ) → j < w → get_or (part w i (joined n f ++ more)) j d ≡ get_or (f i) j d
    at j b =
        get_or_part w i (joined n f ++ more) d j b
        ∙ get_or-append (joined n f) more d (i * w + j) (rw (length_joined n w f h) (digits_lt l b))
        ∙ get_or_joined n w f d h i j l b
