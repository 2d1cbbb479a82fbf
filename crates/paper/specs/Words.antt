-- Words: lists of letters. Where one leads, and the order that numbers states.
use Rattle.std.specs.Prelude.{◌≡◌, ◌⊎◌, List, [], ◌∷◌, ℕ, ◌<◌, length}

-- every letter is below m
abbrev pub Word : ℕ → List ℕ → Type 0
Word m [] = Unit {0}
Word m (x ∷ u) = (x < m) × Word m u

-- where a word leads from v, its letters taken in order by `step`
unfoldable pub after {ℓ} : {X : Type ℓ} → (ℕ → X → X) → X → List ℕ → X
after step v [] = v
after step v (x ∷ u) = after step (step x v) u

-- of two words of one length: the first letter in which they differ is less in the first
abbrev pub LexBefore : List ℕ → List ℕ → Type 0
LexBefore [] [] = ⊥
LexBefore [] (y ∷ v) = ⊥
LexBefore (x ∷ u) [] = ⊥
LexBefore (x ∷ u) (y ∷ v) = (x < y) ⊎ ((x ≡ y) × LexBefore u v)

-- shorter words first, then by letter number from the first letter on
abbrev pub Before : List ℕ → List ℕ → Type 0
Before u v = (length u < length v) ⊎ ((length u ≡ length v) × LexBefore u v)

abbrev pub UpTo : List ℕ → List ℕ → Type 0
UpTo u v = (u ≡ v) ⊎ Before u v
