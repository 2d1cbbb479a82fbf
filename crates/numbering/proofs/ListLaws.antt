-- Laws of lists of lists by place: what holds of each element, of each two, and of a list with more behind it. Assumes nothing.
use mathlib.Core.Path.{◌≡◌, refl, sym, ap, ◌∙◌}
use mathlib.Core.List.{List, [], ◌∷◌, ◌++◌, map, append_assoc, append-nil}
use Prim.Native.Nat.{ℕ, zero, suc, ◌≤◌, ◌<◌}
use native.Mathlib.Omega.{arith}
use native.Mathlib.Decide.{dec_lt}
use native.Mathlib.Nat.{le_of_suc-le-suc, not-suc-le-zero}
use lib.ListN.{length, get_or, length-append, get_or-append}
use lib.Seq.{get_or-append_seam}

-- ---- each element, each two

-- P holds of each value listed
abbrev pub Each : (List ℕ → Type 0) → List (List ℕ) → Type 0
Each P vs = (i : ℕ) → i < length vs → P (get_or vs i [])

-- R holds of each two values listed, the earlier first
abbrev pub Pairs : (List ℕ → List ℕ → Type 0) → List (List ℕ) → Type 0
Pairs R vs = (i j : ℕ) → i < j → j < length vs → R (get_or vs i []) (get_or vs j [])

-- the places of a list with one value more: the old ones, and the last
last_case : (P : ℕ → Type 0) (vs : List (List ℕ)) (v : List ℕ) → ((i : ℕ) → i < length vs → P i) → P (length vs) →
    (i : ℕ) → i < length (vs ++ (v ∷ [])) → P i
last_case P vs v old last i l = go (dec_lt i (length vs))
  where
    go : Dec (i < length vs) → P i
    go (yes h) = old i h
    go (no h) = let e : i ≡ length vs = omega (arith, simp length-append at l) in rw e last

pub each_snoc : (P : List ℕ → Type 0) (vs : List (List ℕ)) (v : List ℕ) → Each P vs → P v → Each P (vs ++ (v ∷ []))
each_snoc P vs v h p =
    last_case
    (λ i. P (get_or (vs ++ (v ∷ [])) i []))
    vs
    v
    (λ i l. rw (get_or-append vs (v ∷ []) [] i l) (h i l))
    (rw (get_or-append_seam vs v [] []) p)

pub pairs_snoc : (R : List ℕ → List ℕ → Type 0) (vs : List (List ℕ)) (v : List ℕ) → Pairs R vs → Each (λ w. R w v) vs → Pairs R (vs ++ (v ∷ []))
pairs_snoc R vs v h p i j o l =
    last_case
    (λ j. i < j → R (get_or (vs ++ (v ∷ [])) i []) (get_or (vs ++ (v ∷ [])) j []))
    vs
    v
    (λ j k o. rw (get_or-append vs (v ∷ []) [] j k, get_or-append vs (v ∷ []) [] i (omega arith)) (h i j o k))
    (λ o. rw (get_or-append_seam vs v [] [], get_or-append vs (v ∷ []) [] i o) (p i o))
    j
    l
    o

-- a map, by place
pub get_or_map : (f : List ℕ → List ℕ) (vs : List (List ℕ)) (i : ℕ) → i < length vs → get_or (map f vs) i [] ≡ f (get_or vs i [])
get_or_map f [] i l = absurd (not-suc-le-zero l)
get_or_map f (v ∷ vs) zero l = refl
get_or_map f (v ∷ vs) (suc i) l = get_or_map f vs i (le_of_suc-le-suc l)

-- ---- a list with more behind it

-- the second list is the first with more behind it
pub record Extends (vs us : List (List ℕ)) : Type 0 where
  pub more : List (List ℕ)
  pub is : us ≡ vs ++ more

pub extends_refl : {vs : List (List ℕ)} → Extends vs vs
extends_refl {vs} = record { more = []; is = sym (append-nil vs) }

pub extends_snoc : {vs : List (List ℕ)} (v : List ℕ) → Extends vs (vs ++ (v ∷ []))
extends_snoc v = record { more = v ∷ []; is = refl }

pub extends_trans : {vs us ws : List (List ℕ)} → Extends vs us → Extends us ws → Extends vs ws
extends_trans {vs} a b =
    record { more = a.more ++ b.more; is = b.is ∙ ap (λ (l : List (List ℕ)). l ++ b.more) a.is ∙ append_assoc vs a.more b.more }

-- what is listed stays where it is
pub extends_get_or : {vs us : List (List ℕ)} → Extends vs us → (i : ℕ) → i < length vs → get_or us i [] ≡ get_or vs i []
extends_get_or {vs} a i l = rw a.is (get_or-append vs a.more [] i l)

pub extends_length : {vs us : List (List ℕ)} → Extends vs us → length vs ≤ length us
extends_length a = rw a.is (simp length-append (omega arith))
