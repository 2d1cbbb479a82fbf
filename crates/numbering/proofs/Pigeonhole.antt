-- The pigeonhole law: different numbers below b are at most b; and so for keys that all stand in a list. Assumes nothing.
use mathlib.Core.Path.{◌≡◌, sym, ap, ◌∙◌}
use mathlib.Core.List.{List, []}
use Prim.Native.Nat.{ℕ, zero, suc, ◌≤◌, ◌<◌, zero-le, suc-le-suc}
use native.Mathlib.Omega.{arith}
use native.Mathlib.Decide.{ℕ_discrete}
use native.Mathlib.Nat.{not-suc-le-zero}
use lib.ListN.{length, get_or}
use Rattle.paper.specs.Numbering.{place}
use Rattle.numbering.proofs.Place.{place_key}

-- y, but v where y is b
abbrev swapped : (y b v : ℕ) → Dec (y ≡ b) → ℕ
swapped y b v (yes e) = v
swapped y b v (no n) = y

swapped_below : (y b v : ℕ) (d : Dec (y ≡ b)) → y < suc b → v < suc b → (y ≡ v → ⊥) → swapped y b v d < b
swapped_below y b v (yes e) k l n = omega arith
swapped_below y b v (no e) k l n = omega arith

swapped_apart : (y z b v : ℕ) (c : Dec (y ≡ b)) (d : Dec (z ≡ b)) → (y ≡ z → ⊥) → (y ≡ v → ⊥) → (z ≡ v → ⊥) →
    swapped y b v c ≡ swapped z b v d → ⊥
swapped_apart y z b v (yes c) (yes d) k l n e = omega arith
swapped_apart y z b v (yes c) (no d) k l n e = omega arith
swapped_apart y z b v (no c) (yes d) k l n e = omega arith
swapped_apart y z b v (no c) (no d) k l n e = omega arith

-- the last number gives up its hole, and whoever sits in hole b moves there
pub pigeonhole : (a b : ℕ) (f : ℕ → ℕ) → ((i : ℕ) → i < a → f i < b) → ((i j : ℕ) → i < j → j < a → f i ≡ f j → ⊥) → a ≤ b
pigeonhole zero b f into apart = zero-le
pigeonhole (suc a) zero f into apart = absurd (not-suc-le-zero (into a (omega arith)))
pigeonhole (suc a) (suc b) f into apart =
    suc-le-suc
    (pigeonhole
    a
    b
    (λ i. swapped (f i) b (f a) (ℕ_discrete (f i) b))
    (λ i l. swapped_below (f i) b (f a) (ℕ_discrete (f i) b) (into i (omega arith)) (into a (omega arith)) (apart i a l (omega arith)))
    (λ i j o l.
    swapped_apart
    (f i)
    (f j)
    b
    (f a)
    (ℕ_discrete (f i) b)
    (ℕ_discrete (f j) b)
    (apart i j o (omega arith))
    (apart i a (omega arith) (omega arith))
    (apart j a l (omega arith))))

-- values of pairwise different keys that all have places in a list are no more than it lists
pub pigeonhole_keys : (key : List ℕ → List ℕ) (n : ℕ) (value : ℕ → List ℕ) (vs : List (List ℕ)) →
    ((i : ℕ) → i < n → place key vs (value i) < length vs) → ((i j : ℕ) → i < j → j < n → key (value i) ≡ key (value j) → ⊥) → n ≤ length vs
pigeonhole_keys key n value vs placed apart =
    pigeonhole
    n
    (length vs)
    (λ i. place key vs (value i))
    placed
    (λ i j o l e.
    apart
    i
    j
    o
    l
    (sym (place_key key vs (value i) (placed i (omega arith)))
    ∙ ap (λ (s : ℕ). key (get_or vs s [])) e
    ∙ place_key key vs (value j) (placed j l)))
