-- The listing as a builder's loop meets it: what is still to come of it stays the same from turn to turn. Assumes nothing.
use mathlib.Core.Path.{◌≡◌, refl, sym, ◌∙◌}
use mathlib.Core.List.{List, [], ◌∷◌}
use Prim.Native.Nat.{ℕ, suc, ◌≤◌, ◌<◌}
use native.Mathlib.Omega.{arith}
use lib.ListN.{length, get_or}
use Rattle.paper.specs.Numbering.{place, expanded, explored, states}
use Rattle.numbering.proofs.ListLaws.{Extends, extends_trans, extends_get_or, extends_length}
use Rattle.numbering.proofs.Place.{place_extends}
use Rattle.numbering.proofs.Kept.{place_kept, expanded_suc, expanded_more, expanded_extends, expanded_found}
use Rattle.numbering.proofs.Explored.{explored_end, explored_step, explored_extends, explored_turns}

-- the whole listing, where vs is listed so far and the states below i are expanded; its turns are the same for every i, so that it is a
-- loop's invariant: `rest i vs ≡ states ..`
abbrev pub rest : (List ℕ → List ℕ) → (ℕ → List ℕ → List ℕ) → ℕ → ℕ → ℕ → List (List ℕ) → List (List ℕ)
rest key step m room i vs = explored key step m room (suc room) i vs

module _ (key : List ℕ → List ℕ) (step : ℕ → List ℕ → List ℕ) (m room : ℕ) where
  -- before the loop: the first value alone is listed
  pub rest_start : (v : List ℕ) → rest key step m room 0 (v ∷ []) ≡ states key step m room v
  unfolding states
  rest_start v = refl

  -- after the loop: all states are expanded
  pub rest_end : (i : ℕ) (vs : List (List ℕ)) → length vs ≤ i → rest key step m room i vs ≡ vs
  rest_end i vs h = explored_end key step m room (suc room) i vs h

  -- listed values stay where they are
  pub rest_extends : (i : ℕ) (vs : List (List ℕ)) → Extends vs (rest key step m room i vs)
  rest_extends = explored_extends key step m room (suc room)

  -- while state i is expanded
  module _ (i : ℕ) (vs : List (List ℕ)) (below : i < length vs) (fits : length vs ≤ room) where
    -- one turn of the loop
    pub rest_next : rest key step m room i vs ≡ rest key step m room (suc i) (expanded key step m (get_or vs i []) vs)
    rest_next =
        explored_step key step m room room i vs below fits
        ∙ sym
        (explored_turns
        key
        step
        m
        room
        room
        (suc room)
        (suc i)
        (expanded key step m (get_or vs i []) vs)
        (omega arith)
        (omega arith)
        (omega (arith, extends_length (expanded_extends key step (get_or vs i []) vs m))))

    -- what the letters below x led to stays where it is
    pub rest_expanded : (x : ℕ) → x ≤ m → Extends (expanded key step x (get_or vs i []) vs) (rest key step m room i vs)
    rest_expanded x b =
        rw
        rest_next
        (extends_trans (expanded_more key step (get_or vs i []) vs x m b) (rest_extends (suc i) (expanded key step m (get_or vs i []) vs)))

    -- more than the room by then: more than the room at the end
    pub rest_over : (x : ℕ) → x ≤ m → room < length (expanded key step x (get_or vs i []) vs) → room < length (rest key step m room i vs)
    rest_over x b o = omega (arith, extends_length (rest_expanded x b))

    -- the place found for letter x is its place at the end
    pub rest_place : (x : ℕ) → x < m →
        place key (rest key step m room i vs) (step x (get_or vs i [])) ≡ place key (expanded key step x (get_or vs i []) vs) (step x (get_or vs i []))
    rest_place x b =
        place_extends key (step x (get_or vs i [])) (rest_expanded (suc x) b) (expanded_found key step (get_or vs i []) vs x (suc x) (omega arith))
        ∙ rw (expanded_suc key step (get_or vs i []) vs x) (place_kept key (expanded key step x (get_or vs i []) vs) (step x (get_or vs i [])))

    -- state i's value is that of the end
    pub rest_value : get_or (rest key step m room i vs) i [] ≡ get_or vs i []
    rest_value = extends_get_or (rest_extends i vs) i below
