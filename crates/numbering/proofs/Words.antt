-- Words one after the other, turned round, or with one more letter, and where they lead. Assumes nothing.
use mathlib.Core.Path.{◌≡◌, refl}
use mathlib.Core.List.{List, [], ◌∷◌, ◌++◌, append_assoc, append-nil, reverse, reverse-cons}
use Prim.Native.Nat.{ℕ, zero, suc, ◌<◌}
use native.Mathlib.Omega.{arith}
use lib.ListN.{length, get_or}
use Rattle.paper.specs.Words.{Word, after}

-- the word with one more letter
abbrev pub with : ℕ → List ℕ → List ℕ
with x u = u ++ (x ∷ [])

-- what holds of the empty word, and of a word with one more letter where it holds of the word, holds of every word
pub with_ind : (P : List ℕ → Type 0) → P [] → ((u : List ℕ) (x : ℕ) → P u → P (with x u)) → (u : List ℕ) → P u
with_ind P none more u = go [] none u
  where
    go : (v : List ℕ) → P v → (u : List ℕ) → P (v ++ u)
    go v p [] = rw append-nil p
    go v p (x ∷ u) = rw append_assoc at (go (with x v) (more v x p) u)

module _ (m : ℕ) where
  pub word_append : (u t : List ℕ) → Word m u → Word m t → Word m (u ++ t)
  word_append [] t w d = d
  word_append (x ∷ u) t w d = (w.0, word_append u t w.1 d)

  pub word_with : (u : List ℕ) (x : ℕ) → Word m u → x < m → Word m (with x u)
  word_with u x w h = word_append u (x ∷ []) w (h, tt)

  pub word_reverse : (u : List ℕ) → Word m u → Word m (reverse u)
  word_reverse [] w = tt
  word_reverse (x ∷ u) w = rw reverse-cons (word_with (reverse u) x (word_reverse u w.1) w.0)

  pub word_front : (u : List ℕ) (x : ℕ) → Word m (with x u) → Word m u
  word_front [] x w = tt
  word_front (y ∷ u) x w = (w.0, word_front u x w.1)

  pub word_last : (u : List ℕ) (x : ℕ) → Word m (with x u) → x < m
  word_last [] x w = w.0
  word_last (y ∷ u) x w = word_last u x w.1

  -- a word's letters by their places
  pub word_at : (u : List ℕ) → Word m u → (i : ℕ) → i < length u → get_or u i 0 < m
  word_at [] w i h = omega arith
  word_at (x ∷ u) w zero h = w.0
  word_at (x ∷ u) w (suc i) h = word_at u w.1 i (omega arith)

module _ {ℓ} {X : Type ℓ} (step : ℕ → X → X) where
  -- a word goes on from where the one before it leads
  pub after_append : (v : X) (u t : List ℕ) → after step v (u ++ t) ≡ after step (after step v u) t
  unfolding after
  after_append v [] t = refl
  after_append v (x ∷ u) t = after_append (step x v) u t

  -- one more letter: one more step
  pub after_with : (v : X) (u : List ℕ) (x : ℕ) → after step v (with x u) ≡ step x (after step v u)
  unfolding after
  after_with v u x = after_append v u (x ∷ [])

  -- what every letter below m keeps holds wherever a word leads
  pub after_keeps {κ} : (P : X → Type κ) (m : ℕ) → ((x : ℕ) → x < m → (v : X) → P v → P (step x v)) →
      (v : X) → P v → (u : List ℕ) → Word m u → P (after step v u)
  unfolding after
  after_keeps P m keeps v p [] w = p
  after_keeps P m keeps v p (x ∷ u) w = after_keeps P m keeps (step x v) (keeps x w.0 v p) u w.1
