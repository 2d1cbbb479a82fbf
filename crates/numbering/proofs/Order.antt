-- The order of words, shorter ones first, then by letter number: it is an order, and how a letter more moves in it. Assumes nothing.
use mathlib.Core.Path.{◌≡◌, refl, ◌∙◌}
use mathlib.Core.Logic.{inl, inr, ⊎_elim}
use mathlib.Core.List.{List, [], ◌∷◌}
use Prim.Native.Nat.{ℕ, ◌≤◌, ◌<◌, zero-le}
use native.Mathlib.Omega.{arith}
use native.Mathlib.Decide.{dec_lt}
use lib.ListN.{length-append}
use Rattle.paper.specs.Words.{LexBefore, Before, UpTo}
use Rattle.numbering.proofs.Words.{with}

-- ---- words of one length

lex_irrefl : (u : List ℕ) → LexBefore u u → ⊥
lex_irrefl [] l = l
lex_irrefl (x ∷ u) l = ⊎_elim (λ h. omega arith) (λ h. lex_irrefl u h.1) l

lex_trans : (u v w : List ℕ) → LexBefore u v → LexBefore v w → LexBefore u w
lex_trans [] [] w k l = absurd k
lex_trans [] (y ∷ v) w k l = absurd k
lex_trans (x ∷ u) [] w k l = absurd k
lex_trans (x ∷ u) (y ∷ v) [] k l = absurd l
lex_trans (x ∷ u) (y ∷ v) (z ∷ w) k l =
    ⊎_elim
    (λ h. ⊎_elim (λ g. inl (omega arith)) (λ g. inl (omega arith)) l)
    (λ h. ⊎_elim (λ g. inl (omega arith)) (λ g. inr (h.0 ∙ g.0, lex_trans u v w h.1 g.1)) l)
    k

lex_with : (u v : List ℕ) (x y : ℕ) → LexBefore u v → LexBefore (with x u) (with y v)
lex_with [] [] x y l = absurd l
lex_with [] (b ∷ v) x y l = absurd l
lex_with (a ∷ u) [] x y l = absurd l
lex_with (a ∷ u) (b ∷ v) x y l = ⊎_elim inl (λ h. inr (h.0, lex_with u v x y h.1)) l

lex_last : (u : List ℕ) (x y : ℕ) → x < y → LexBefore (with x u) (with y u)
lex_last [] x y h = inl h
lex_last (a ∷ u) x y h = inr (refl, lex_last u x y h)

-- ---- an order

-- no word is before itself
pub before_irrefl : (u : List ℕ) → Before u u → ⊥
before_irrefl u l = ⊎_elim (λ h. omega arith) (λ h. lex_irrefl u h.1) l

pub before_trans : (u v w : List ℕ) → Before u v → Before v w → Before u w
before_trans u v w (inl h) (inl g) = inl (omega arith)
before_trans u v w (inl h) (inr g) = inl (omega arith)
before_trans u v w (inr h) (inl g) = inl (omega arith)
before_trans u v w (inr h) (inr g) = inr (h.0 ∙ g.0, lex_trans u v w h.1 g.1)

pub before_upto : (u v w : List ℕ) → Before u v → UpTo v w → Before u w
before_upto u v w k (inl e) = rw e at k
before_upto u v w k (inr l) = before_trans u v w k l

pub upto_trans : (u v w : List ℕ) → UpTo u v → UpTo v w → UpTo u w
upto_trans u v w (inl e) l = rw e l
upto_trans u v w (inr k) l = inr (before_upto u v w k l)

-- two words each up to the other are equal
pub upto_antisym : (u v : List ℕ) → UpTo u v → UpTo v u → u ≡ v
upto_antisym u v (inl e) l = e
upto_antisym u v (inr k) l = absurd (before_irrefl u (before_upto u v u k l))

-- ---- a letter more

-- of two words the order stays, whatever letter each gets
pub before_with : (u v : List ℕ) (x y : ℕ) → Before u v → Before (with x u) (with y v)
before_with u v x y (inl h) = inl (simp length-append (omega arith))
before_with u v x y (inr h) = inr (simp length-append (omega arith), lex_with u v x y h.1)

-- two words that differ in the last letter alone
pub before_last : (u : List ℕ) (x y : ℕ) → x < y → Before (with x u) (with y u)
before_last u x y h = inr (simp length-append, lex_last u x y h)

-- a word is before itself with one more letter
pub before_longer : (u : List ℕ) (x : ℕ) → Before u (with x u)
before_longer u x = inl (simp length-append (omega arith))

pub upto_with : (u v : List ℕ) (x : ℕ) → UpTo u v → UpTo (with x u) (with x v)
upto_with u v x (inl e) = inl (cc)
upto_with u v x (inr l) = inr (before_with u v x x l)

-- what is before a word with a letter is before that word with a later letter
pub before_from : (u v : List ℕ) (x y : ℕ) → Before u (with x v) → x ≤ y → Before u (with y v)
before_from u v x y l h = go (dec_lt x y)
  where
    go : Dec (x < y) → Before u (with y v)
    go (yes g) = before_trans u (with x v) (with y v) l (before_last v x y g)
    go (no g) = let e : x ≡ y = omega arith in rw e at l

-- what is before a word with letter 0 is before each word from there on with one more letter
pub before_under : (w v u : List ℕ) (x : ℕ) → Before w (with 0 v) → UpTo v u → Before w (with x u)
before_under w v u x l (inl e) = before_from w u 0 x (rw e at l) zero-le
before_under w v u x l (inr k) = before_trans w (with 0 v) (with x u) l (before_with v u 0 x k)
