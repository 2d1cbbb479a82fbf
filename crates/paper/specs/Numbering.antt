-- The states that words reach, numbered by their first words: shorter words first, then by letter number.
-- A value is a vector, a reverse vector or a row; two values are one state where their keys are equal.
use Rattle.std.specs.Prelude.{List, [], ◌∷◌, ◌++◌, ℕ, zero, suc, length, get_or, eqb, ltb}
use Rattle.paper.specs.Lists.{pick, same_list}
use Rattle.paper.specs.Words.{after}

-- two values are one state only where they are equal
abbrev pub itself : List ℕ → List ℕ
itself v = v

-- the place of the first of vs whose key is v's, or the length of vs
unfoldable pub place : (List ℕ → List ℕ) → List (List ℕ) → List ℕ → ℕ
place key [] v = 0
place key (w ∷ vs) v = pick (same_list (key w) (key v)) 0 (suc (place key vs v))

-- vs, with v behind it where v is new
unfoldable pub kept : (List ℕ → List ℕ) → List (List ℕ) → List ℕ → List (List ℕ)
kept key vs v = pick (eqb (place key vs v) (length vs)) (vs ++ (v ∷ [])) vs

-- vs, with what the letters below x lead to from v
unfoldable pub expanded : (List ℕ → List ℕ) → (ℕ → List ℕ → List ℕ) → ℕ → List ℕ → List (List ℕ) → List (List ℕ)
expanded key step zero v vs = vs
expanded key step (suc x) v vs = kept key (expanded key step x v vs) (step x v)

-- states i, i + 1, .. expanded by m letters each, for as long as there is a state of that number and they are no more
-- than the room; `turns` only bounds the walk
unfoldable pub explored : (List ℕ → List ℕ) → (ℕ → List ℕ → List ℕ) → ℕ → ℕ → ℕ → ℕ → List (List ℕ) → List (List ℕ)
explored key step m room zero i vs = vs
explored key step m room (suc turns) i vs =
    pick (ltb i (length vs))
    (pick (ltb room (length vs)) vs (explored key step m room turns (suc i) (expanded key step m (get_or vs i []) vs)))
    vs

-- the states from v on; more than the room where they outnumber it
unfoldable pub states : (List ℕ → List ℕ) → (ℕ → List ℕ → List ℕ) → ℕ → ℕ → List ℕ → List (List ℕ)
states key step m room v = explored key step m room (suc room) 0 (v ∷ [])

-- their first words: the same listing made of words, each with the key of where it leads
unfoldable pub first_words : (List ℕ → List ℕ) → (ℕ → List ℕ → List ℕ) → ℕ → ℕ → List ℕ → List (List ℕ)
first_words key step m room v = states (λ w. key (after step v w)) (λ x w. w ++ (x ∷ [])) m room []
