-- The listing of values is the listing of words with each word put to its value. Assumes nothing.
use mathlib.Core.Path.{◌≡◌, refl, sym, ap, ◌∙◌}
use mathlib.Core.List.{List, [], ◌∷◌, map, map-append}
use Prim.Native.Nat.{ℕ, zero, suc}
use lib.ListN.{get_or, length-map}
use Rattle.paper.specs.Words.{after}
use Rattle.paper.specs.Numbering.{place, kept, expanded, explored, states, first_words}
use Rattle.numbering.proofs.Words.{with, after_with}
use Rattle.numbering.proofs.ListLaws.{get_or_map}
use Rattle.numbering.proofs.Place.{place_here, place_there, place_case}
use Rattle.numbering.proofs.Kept.{kept_old, kept_new, kept_case}
use Rattle.numbering.proofs.Explored.{explored_end, explored_full, explored_step, explored_case}

-- values w of one listing put to values f w of the other, where a step on f w is f of a step on w
module _
    (key : List ℕ → List ℕ)
    (step : ℕ → List ℕ → List ℕ)
    (step' : ℕ → List ℕ → List ℕ)
    (f : List ℕ → List ℕ)
    (goes : (x : ℕ) (w : List ℕ) → f (step' x w) ≡ step x (f w))
    (m room : ℕ)
  where
    -- the key of a value is that of what it is put to
    abbrev key' : List ℕ → List ℕ
    key' w = key (f w)

    place_map : (ws : List (List ℕ)) (w : List ℕ) → place key (map f ws) (f w) ≡ place key' ws w
    place_map [] w = unfold place in refl
    place_map (u ∷ ws) w =
        place_case
        key'
        (λ p. place key (f u ∷ map f ws) (f w) ≡ p)
        u
        ws
        w
        (λ e. place_here key (f u) (map f ws) (f w) e)
        (λ n. place_there key (f u) (map f ws) (f w) n ∙ ap suc (place_map ws w))

    kept_map : (ws : List (List ℕ)) (w : List ℕ) → kept key (map f ws) (f w) ≡ map f (kept key' ws w)
    kept_map ws w =
        kept_case
        key'
        (λ us. kept key (map f ws) (f w) ≡ map f us)
        ws
        w
        (λ h. kept_old key (map f ws) (f w) (rw (place_map ws w, length-map) h))
        (λ e. kept_new key (map f ws) (f w) (rw (place_map ws w, length-map) e) ∙ sym (map-append f ws (w ∷ [])))

    expanded_map : (x : ℕ) (w : List ℕ) (ws : List (List ℕ)) → expanded key step x (f w) (map f ws) ≡ map f (expanded key' step' x w ws)
    unfolding expanded
    expanded_map zero w ws = refl
    expanded_map (suc x) w ws = rw (expanded_map x w ws, ← goes x w) (kept_map (expanded key' step' x w ws) (step' x w))

    pub explored_map : (turns i : ℕ) (ws : List (List ℕ)) → explored key step m room turns i (map f ws) ≡ map f (explored key' step' m room turns i ws)
    explored_map zero i ws = unfold explored in refl
    explored_map (suc turns) i ws =
        let us = expanded key' step' m (get_or ws i []) ws in
        let ih = explored_map turns (suc i) us in
        explored_case
        key'
        step'
        m
        room
        (λ vs. explored key step m room (suc turns) i (map f ws) ≡ map f vs)
        turns
        i
        ws
        (λ h. explored_end key step m room (suc turns) i (map f ws) (rw length-map h))
        (λ h. explored_full key step m room (suc turns) i (map f ws) (rw length-map h))
        (λ h l.
        explored_step key step m room turns i (map f ws) (rw length-map h) (rw length-map l)
        ∙ rw (get_or_map f ws i h, expanded_map m (get_or ws i []) ws) ih)

-- the states are the values of their first words
pub states_words : (key : List ℕ → List ℕ) (step : ℕ → List ℕ → List ℕ) (m room : ℕ) (v : List ℕ) →
    states key step m room v ≡ map (after step v) (first_words key step m room v)
unfolding states first_words after
states_words key step m room v =
    explored_map key step with (after step v) (λ x w. after_with step v w x) m room (suc room) 0 ([] ∷ [])
