-- Kept values, read back from their places in lent memory. Assumes nothing.
use mathlib.Core.Path.{◌≡◌, sym, ◌∙◌}
use mathlib.Core.List.{List, []}
use Prim.Native.Nat.{ℕ, suc, ◌*◌, ◌≤◌, ◌<◌}
use native.Mathlib.Nat.{mul-le-mul_right}
use native.Mathlib.Omega.{arith}
use lib.ListN.{length, get_or, take, drop, length-append, length-drop}
use lib.Seq.{take_all, take-append_seam}
use borrow.Author.Tests.{lt-ltb, le-leb}
use Rattle.paper.specs.Lists.{both, part, in_front}
use Rattle.paper.specs.Builders.{place_of, placed, vector_at}
use Rattle.lists.proofs.ByPlace.{length_joined, length_part, part_joined}

module _
    (w places : ℕ)
    (vs : List (List ℕ))
    (old : List ℕ)
    (few : length vs ≤ places)
    (long : places * w ≤ length old)
    (narrow : (s : ℕ) → s < length vs → length (get_or vs s []) ≤ w)
  where
    -- a place is as long as before
    length_place : (s : ℕ) → s < length vs → length (place_of w vs old s) ≡ w
    unfolding place_of in_front
    length_place s l =
        let h : suc s ≤ places = omega arith in
        let size : length (part w s old) ≡ w = length_part w s old (omega (arith, mul-le-mul_right w h)) in
        simp (length-append, length-drop) (omega (arith, narrow s l))

    placed_part : (s : ℕ) → s < length vs → part w s (placed w places vs old) ≡ place_of w vs old s
    unfolding placed
    placed_part = part_joined 0 (length vs) w (place_of w vs old) _ length_place

    -- the front of a place is its value
    pub placed_used : (s : ℕ) → s < length vs → take (length (get_or vs s [])) (part w s (placed w places vs old)) ≡ get_or vs s []
    unfolding place_of in_front
    placed_used s l = rw (placed_part s l) (take-append_seam (get_or vs s []) (drop (length (get_or vs s [])) (part w s old)))

    placed_long : (s : ℕ) → s < length vs → suc s * w ≤ length (placed w places vs old)
    unfolding placed
    placed_long s l =
        simp length-append (omega (arith, length_joined (length vs) w (place_of w vs old) length_place, mul-le-mul_right w l))

    -- a value that fills its place is the vector behind its state
    pub placed_vector : (s : ℕ) → s < length vs → length (get_or vs s []) ≡ w → vector_at (placed w places vs old) w (length vs) s ≡ get_or vs s []
    unfolding vector_at both
    placed_vector s l e =
        rw
        (lt-ltb s (length vs) l, le-leb (suc s * w) (length (placed w places vs old)) (placed_long s l))
        (sym (take_all w (part w s (placed w places vs old)) (omega (arith, length_part w s (placed w places vs old) (placed_long s l))))
        ∙ (rw e at (placed_used s l)))
