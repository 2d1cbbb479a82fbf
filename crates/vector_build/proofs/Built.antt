-- A table of vectors built, from its parts. Assumes nothing.
use mathlib.Core.Path.{◌≡◌, ap, ap₂, ◌∙◌}
use mathlib.Core.Bool.{Bool, true, false}
use mathlib.Core.List.{List, [], ◌∷◌}
use Prim.Native.Nat.{ℕ, suc, ◌≤◌, ◌<◌}
use lib.ListN.{length}
use borrow.Author.Tests.{lt-ltb, le-ltb}
use Rattle.paper.specs.Lists.{in_front, zeros}
use Rattle.paper.specs.Chart.{n_of, letters}
use Rattle.paper.specs.Check.{chart_fits}
use Rattle.paper.specs.Constructions.{Construction, states_of, table_of}
use Rattle.paper.specs.Builders.{room_fits, state_most, forward_room, forward_built, forward, placed}
use Rattle.kinds.specs.Kinds.{vectors_by, made_by}
use Rattle.kinds.specs.Ready.{of_vectors}
use Rattle.walk.specs.Walked.{Makes}
use Rattle.kinds.specs.declared.Kind.{Kind}
use Rattle.rooms.proofs.Rooms.{Roomy, roomy}
use Rattle.walk.proofs.VectorPlan.{made_alike}

module _ (kind : Kind) (c : List ℕ) (fits : chart_fits c ≡ true) (room : ℕ) (table vectors : List ℕ) where
  -- the room as the code tests it
  pub room_read : {b : Bool} {m n : ℕ} → m ≡ letters c → n ≡ n_of c → room_fits state_most m n room (length table) (length vectors) ≡ b → forward_room c room table vectors ≡ b
  unfolding forward_room
  room_read em en e = rw (← em, ← en) e

  pub room_parts : forward_room c room table vectors ≡ true → Roomy state_most (letters c) (n_of c) room (length table) (length vectors)
  unfolding forward_room
  room_parts e = roomy _ _ _ _ _ _ e

  pub build_room : forward_room c room table vectors ≡ false → record { reply = (5, []); table = table; vectors = vectors } ≡ forward c (vectors_by kind c) room table vectors
  unfolding forward
  build_room e = simp (fits, e)

-- made with values of n bytes; the reverse table t is not read
module _ (kind : Kind) (v : of_vectors kind ≡ true) (c t : List ℕ) (fits : chart_fits c ≡ true) (n room : ℕ) (e : n ≡ n_of c) (table vectors : List ℕ)
    (ok : forward_room c room table vectors ≡ true) where
  abbrev b : Construction
  b = made_by kind c t (letters c) n

  abbrev all : List (List ℕ)
  all = states_of (vectors_by kind c) (letters c) room

  made_is : b ≡ vectors_by kind c
  made_is = made_alike kind c t c (letters c) n v ∙ ap (λ r. made_by kind c c (letters c) r) e

  states_are : states_of b (letters c) room ≡ all
  states_are = ap (λ (b : Construction). states_of b (letters c) room) made_is

  pub build_full : room < length (states_of b (letters c) room) → {t' u : List ℕ} → t' ≡ zeros table → u ≡ zeros vectors →
      record { reply = (7, []); table = t'; vectors = u } ≡ forward c (vectors_by kind c) room table vectors
  unfolding forward forward_built
  build_full over et eu =
      let o : room < length all = rw (← states_are) over in
      simp (et, eu, fits, ok, lt-ltb room (length all) o)

  pub build_done : {table' vectors' : List ℕ} {count : ℕ} → Makes b (letters c) n room table table' vectors vectors' count →
      record { reply = (0, count ∷ []); table = table'; vectors = vectors' } ≡ forward c (vectors_by kind c) room table vectors
  unfolding forward forward_built
  build_done {table'} {vectors'} {count} d =
      let q : count ≡ length all = d.count_is ∙ ap length states_are in
      let l : length all ≤ room = rw (← q) d.roomy in
      let et : table' ≡ in_front (table_of (vectors_by kind c) (letters c) all) table =
      d.table_is ∙ ap₂ (λ (b : Construction) (vs : List (List ℕ)). in_front (table_of b (letters c) vs) table) made_is states_are in
      let ev : vectors' ≡ placed (n_of c) (suc room) all vectors = d.vectors_is ∙ ap₂ (λ (s : ℕ) (vs : List (List ℕ)). placed s (suc room) vs vectors) e states_are in
      simp (et, ev, q, fits, ok, le-ltb room (length all) l)
