-- What the builders answer and leave, case by case, and what the numbers of their answers say. Assumes nothing.
use mathlib.Core.Path.{◌≡◌, refl, ◌∙◌}
use mathlib.Core.Bool.{Bool, true, false}
use mathlib.Core.Logic.{◌⊎◌, inl, inr}
use mathlib.Core.List.{List, [], ◌∷◌}
use Prim.Native.Nat.{ℕ, suc, ◌*◌, ◌≤◌, ◌<◌}
use native.Mathlib.Decide.{dec_lt}
use native.Mathlib.Omega.{arith}
use lib.ListN.{length}
use lib.Dec.{eqb, leb}
use borrow.Author.Tests.{leb-true, lt-ltb, le-ltb}
use Rattle.paper.specs.Lists.{both, unless, in_front, zeros}
use Rattle.paper.specs.Reply.{Reply, fine}
use Rattle.paper.specs.Chart.{n_of, letters}
use Rattle.paper.specs.Check.{broken_law, check_reply, chart_fits}
use Rattle.paper.specs.Tables.{row_size}
use Rattle.paper.specs.Constructions.{Construction, states_of, table_of, reverse_by, reverse_states, rows_by, row_states}
use Rattle.paper.specs.Builders.{placed, room_fits, Forward, forward_room, forward_built, forward, Lent, Backward, all_zeros, backward_room, backward_built, brzozowski}
use Rattle.lists.proofs.Tests.{not_both, both_split, unless_passed, unless_told}
use Rattle.algebra.proofs.Checked.{number_fits, ranged, ranged_reply}
use Rattle.promises.specs.Demands.{ForwardAdmits, BackwardAdmits}

-- ---- charts and rooms

-- the chart's refusals have numbers 1 to 4
chart_number : (c : List ℕ) (n : ℕ) → (n ≡ 0) ⊎ (4 < n) → chart_fits c ≡ false → (check_reply c).0 ≡ n → ⊥
chart_number c n (inl z) q e = not_both (number_fits c (e ∙ z)) q
chart_number c n (inr h) q e =
    let r = ranged c n (omega arith) (omega arith) (omega arith) e in
    let law = unless_passed (λ (r : Reply). r.0 ≡ n) (eqb (broken_law c) 8) _ _ (omega arith) (rw (ranged_reply c r) at e) in
    omega (arith, law.1)

-- an answer of another number than those and 5: neither the chart nor the room is refused
admitted : {X : Type 0} (reply : X → Reply) (c : List ℕ) (room : Bool) (n : ℕ) → (n ≡ 0) ⊎ (5 < n) → (refused short rest : X) →
    reply refused ≡ check_reply c → reply short ≡ (5, []) →
    (reply (unless (chart_fits c) refused (unless room short rest))).0 ≡ n → (chart_fits c ≡ true) × (room ≡ true)
admitted {X} reply c room n other refused short rest by-chart by-room e =
    let number : X → Type 0 = λ o. (reply o).0 ≡ n in
    let chart = unless_told number (chart_fits c) refused (unless room short rest) (λ q p. chart_number c n (not_five other) q (rw by-chart at p)) e in
    (chart.0, (unless_passed number room short rest (λ p. not_short other (rw by-room at p)) chart.1).0)
  where
    not_five : (n ≡ 0) ⊎ (5 < n) → (n ≡ 0) ⊎ (4 < n)
    not_five (inl z) = inl z
    not_five (inr h) = inr (omega arith)

    not_short : (n ≡ 0) ⊎ (5 < n) → 5 ≡ n → ⊥
    not_short (inl z) p = omega arith
    not_short (inr h) p = omega arith

-- a room that is not refused
pub record Room (most w room values : ℕ) : Type 0 where
  pub high : room ≤ most
  pub long : suc room * w ≤ values

pub room_facts : (most m w room table values : ℕ) → room_fits most m w room table values ≡ true → Room most w room values
unfolding room_fits
room_facts most m w room table values e =
    let t = both_split (both (leb 1 room) (leb room most)) (both (leb (room * row_size m) table) (leb (suc room * w) values)) e in
    let r = both_split (leb 1 room) (leb room most) t.0 in
    let v = both_split (leb (room * row_size m) table) (leb (suc room * w) values) t.1 in
    record { high = leb-true room most r.1; long = leb-true (suc room * w) values v.1 }

-- ---- Nerode and reduced

module _ (c : List ℕ) (b : Construction) (room : ℕ) (table vectors : List ℕ) where
  abbrev S : List (List ℕ)
  S = states_of b (letters c) room

  abbrev pub forward_full : Forward
  forward_full = record { reply = (7, []); table = zeros table; vectors = zeros vectors }

  abbrev pub forward_made : Forward
  forward_made =
      record {
        reply = fine (length S ∷ []);
        table = in_front (table_of b (letters c) S) table;
        vectors = placed (n_of c) (suc room) S vectors;
      }

  pub forward_admits : (n : ℕ) → (n ≡ 0) ⊎ (5 < n) → (forward c b room table vectors).reply.0 ≡ n → ForwardAdmits c room table vectors
  unfolding forward
  forward_admits n other = admitted (λ (o : Forward). o.reply) c (forward_room c room table vectors) n other _ _ _ refl refl

  -- the states outnumber the room, or they are all there
  abbrev pub ForwardCases : Type 0
  ForwardCases =
      ((room < length S) × (forward c b room table vectors ≡ forward_full)) ⊎ ((length S ≤ room) × (forward c b room table vectors ≡ forward_made))

  pub forward_cases : ForwardAdmits c room table vectors → ForwardCases
  unfolding forward forward_built
  forward_cases a = go (dec_lt room (length S))
    where
      go : Dec (room < length S) → ForwardCases
      go (yes h) = inl (h, rw (a.0, a.1, lt-ltb room (length S) h))
      go (no h) = let l : length S ≤ room = omega arith in inr (l, rw (a.0, a.1, le-ltb room (length S) l))

-- ---- Brzozowski

module _ (c : List ℕ) (room reverseRoom : ℕ) (l : Lent) where
  abbrev fs : List (List ℕ)
  fs = reverse_states c reverseRoom

  abbrev rs : List (List ℕ)
  rs = row_states c fs room

  abbrev O : Backward
  O = brzozowski c room reverseRoom l

  abbrev pub backward_made : Backward
  backward_made =
      record {
        reply = fine (length rs ∷ length fs ∷ []);
        left =
            record {
              table = in_front (table_of (rows_by c fs) (letters c) rs) l.table;
              reverse_table = in_front (table_of (reverse_by c) (letters c) fs) l.reverse_table;
              reverse_vectors = placed (n_of c) (suc reverseRoom) fs l.reverse_vectors;
              rows = placed reverseRoom (suc room) rs l.rows;
            };
      }

  pub backward_admits : (n : ℕ) → (n ≡ 0) ⊎ (5 < n) → O.reply.0 ≡ n → BackwardAdmits c room reverseRoom l
  unfolding brzozowski
  backward_admits n other = admitted (λ (o : Backward). o.reply) c (backward_room c room reverseRoom l) n other _ _ _ refl refl

  -- the reverse vectors outnumber their room; they fit it, and the rows outnumber theirs; all are there
  abbrev pub BackwardCases : Type 0
  BackwardCases =
      ((reverseRoom < length fs) × (O ≡ record { reply = (6, []); left = all_zeros l })) ⊎
      ((length fs ≤ reverseRoom) × (((room < length rs) × (O ≡ record { reply = (7, []); left = all_zeros l })) ⊎ ((length rs ≤ room) × (O ≡ backward_made))))

  pub backward_cases : BackwardAdmits c room reverseRoom l → BackwardCases
  unfolding brzozowski backward_built
  backward_cases a = go (dec_lt reverseRoom (length fs)) (dec_lt room (length rs))
    where
      go : Dec (reverseRoom < length fs) → Dec (room < length rs) → BackwardCases
      go (yes h) d = inl (h, rw (a.0, a.1, lt-ltb reverseRoom (length fs) h))
      go (no h) (yes g) =
          let k : length fs ≤ reverseRoom = omega arith in
          inr (k, inl (g, rw (a.0, a.1, le-ltb reverseRoom (length fs) k, lt-ltb room (length rs) g)))
      go (no h) (no g) =
          let k : length fs ≤ reverseRoom = omega arith in
          let j : length rs ≤ room = omega arith in
          inr (k, inr (j, rw (a.0, a.1, le-ltb reverseRoom (length fs) k, le-ltb room (length rs) j)))
