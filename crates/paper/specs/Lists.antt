-- Choosing, and lists by place: what the other definitions are written in.
use Rattle.std.specs.Prelude.{Bool, true, false, List, [], ◌∷◌, ◌++◌, ℕ, zero, suc, ◌*◌, length, take, drop, replicate, eqb}

-- ---- choosing

abbrev pub pick {ℓ} : {X : Type ℓ} → Bool → X → X → X
pick true a b = a
pick false a b = b

-- what is answered where the test fails, and what otherwise
abbrev pub unless {ℓ} : {X : Type ℓ} → Bool → X → X → X
unless true refused rest = rest
unless false refused rest = refused

unfoldable pub both : Bool → Bool → Bool
both true b = b
both false b = false

-- ---- tests at 0, .., n - 1

unfoldable pub all_below : ℕ → (ℕ → Bool) → Bool
all_below zero test = true
all_below (suc n) test = both (all_below n test) (test n)

-- the least place below n + 1 at which a test fails, from that below n and what the test says at n
abbrev pub fail_pick : Bool → Bool → ℕ → ℕ → ℕ
fail_pick true true i n = suc n
fail_pick true false i n = n
fail_pick false passes i n = i

abbrev pub fail_after : ℕ → ℕ → Bool → ℕ
fail_after i n passes = fail_pick (eqb i n) passes i n

-- the least i below n at which the test fails, or n
unfoldable pub least_fail : ℕ → (ℕ → Bool) → ℕ
least_fail zero test = zero
least_fail (suc n) test = fail_after (least_fail n test) n (test n)

-- ---- lists by place

-- f 0, .., f (n - 1)
unfoldable pub tabulate {ℓ} : {X : Type ℓ} → ℕ → (ℕ → X) → List X
tabulate zero f = []
tabulate (suc n) f = tabulate n f ++ (f n ∷ [])

-- the lists f 0, .., f (n - 1), one after the other
unfoldable pub joined {ℓ} : {X : Type ℓ} → ℕ → (ℕ → List X) → List X
joined zero f = []
joined (suc n) f = joined n f ++ f n

-- the i-th of the parts of w elements that xs is laid out in
unfoldable pub part {ℓ} : {X : Type ℓ} → ℕ → ℕ → List X → List X
part w i xs = take w (drop (i * w) xs)

unfoldable pub same_list : List ℕ → List ℕ → Bool
same_list [] [] = true
same_list [] (y ∷ ys) = false
same_list (x ∷ xs) [] = false
same_list (x ∷ xs) (y ∷ ys) = pick (eqb x y) (same_list xs ys) false

-- ---- lent memory

-- a buffer with new bytes at its front
unfoldable pub in_front : List ℕ → List ℕ → List ℕ
in_front new old = new ++ drop (length new) old

-- a buffer filled with zeros
abbrev pub zeros : List ℕ → List ℕ
zeros old = replicate (length old) 0
