-- What each builder answers, and every byte of the memory lent to it.
use Rattle.std.specs.Prelude.{Bool, List, [], ◌∷◌, ◌++◌, ℕ, suc, ◌-◌, ◌*◌, length, get_or, drop, replicate, leb, ltb}
use Rattle.paper.specs.Lists.{both, pick, unless, joined, part, in_front, zeros}
use Rattle.paper.specs.Reply.{Reply, fine}
use Rattle.paper.specs.Chart.{n_of, letters}
use Rattle.paper.specs.Check.{check_reply, chart_fits}
use Rattle.paper.specs.Tables.{row_size}
use Rattle.paper.specs.Constructions.{Construction, states_of, table_of, nerode_by, reduced_by, reverse_by, reverse_states, rows_by, row_states}

-- ---- values in their places

-- place s of w bytes: its value first, the rest as at entry
unfoldable pub place_of : ℕ → List (List ℕ) → List ℕ → ℕ → List ℕ
place_of w vs old s = in_front (get_or vs s []) (part w s old)

-- kept values in their places, zeros in the places after them, and what stood behind all the places
unfoldable pub placed : ℕ → ℕ → List (List ℕ) → List ℕ → List ℕ
placed w places vs old =
    joined (length vs) (place_of w vs old)
    ++ (replicate ((places - length vs) * w) 0 ++ drop (places * w) old)

-- the vector behind a state: a part of the lent bytes, empty where the state is not below the count or its place is not there
unfoldable pub vector_at : List ℕ → ℕ → ℕ → ℕ → List ℕ
vector_at vectors n count s = unless (both (ltb s count) (leb (suc s * n) (length vectors))) [] (part n s vectors)

-- ---- rooms

-- a room from 1 to `most`, rows for it in the table, and one place more than it for values of w bytes
unfoldable pub room_fits : ℕ → ℕ → ℕ → ℕ → ℕ → ℕ → Bool
room_fits most m w room table values =
    both (both (leb 1 room) (leb room most))
    (both (leb (room * row_size m) table)
    (leb (suc room * w) values))

abbrev pub state_most : ℕ
state_most = 4096

abbrev pub reverse_most : ℕ
reverse_most = 128

-- ---- Nerode and reduced Nerode

pub record Forward : Type 0 where
  pub reply : Reply
  pub table : List ℕ
  pub vectors : List ℕ

unfoldable pub forward_room : List ℕ → ℕ → List ℕ → List ℕ → Bool
forward_room c room table vectors = room_fits state_most (letters c) (n_of c) room (length table) (length vectors)

-- from the listed states
unfoldable pub forward_built : List ℕ → Construction → ℕ → List (List ℕ) → List ℕ → List ℕ → Forward
forward_built c b room vs table vectors =
    pick (ltb room (length vs))
    (record { reply = (7, []); table = zeros table; vectors = zeros vectors })
    (record {
      reply = fine (length vs ∷ []);
      table = in_front (table_of b (letters c) vs) table;
      vectors = placed (n_of c) (suc room) vs vectors;
    })

-- a whole call, by a construction whose values are the chart's vectors
unfoldable pub forward : List ℕ → Construction → ℕ → List ℕ → List ℕ → Forward
forward c b room table vectors =
    unless (chart_fits c) (record { reply = check_reply c; table = table; vectors = vectors })
    (unless (forward_room c room table vectors) (record { reply = (5, []); table = table; vectors = vectors })
    (forward_built c b room (states_of b (letters c) room) table vectors))

unfoldable pub nerode : List ℕ → ℕ → List ℕ → List ℕ → Forward
nerode c room table vectors = forward c (nerode_by c) room table vectors

unfoldable pub reduced : List ℕ → ℕ → List ℕ → List ℕ → Forward
reduced c room table vectors = forward c (reduced_by c) room table vectors

-- ---- Brzozowski

-- the memory lent: table, reverse table, reverse vectors, rows
pub record Lent : Type 0 where
  pub table : List ℕ
  pub reverse_table : List ℕ
  pub reverse_vectors : List ℕ
  pub rows : List ℕ

pub record Backward : Type 0 where
  pub reply : Reply
  pub left : Lent

unfoldable pub all_zeros : Lent → Lent
all_zeros l =
    record {
      table = zeros l.table;
      reverse_table = zeros l.reverse_table;
      reverse_vectors = zeros l.reverse_vectors;
      rows = zeros l.rows;
    }

-- the rows have `reverse` bytes a place, however many reverse vectors there are
unfoldable pub backward_room : List ℕ → ℕ → ℕ → Lent → Bool
backward_room c room reverse l =
    both
    (room_fits state_most (letters c) reverse room (length l.table) (length l.rows))
    (room_fits reverse_most (letters c) (n_of c) reverse (length l.reverse_table) (length l.reverse_vectors))

-- from the reverse vectors fs and the rows rs
unfoldable pub backward_built : List ℕ → ℕ → ℕ → List (List ℕ) → List (List ℕ) → Lent → Backward
backward_built c room reverse fs rs l =
    pick (ltb room (length rs))
    (record { reply = (7, []); left = all_zeros l })
    (record {
      reply = fine (length rs ∷ length fs ∷ []);
      left =
          record {
            table = in_front (table_of (rows_by c fs) (letters c) rs) l.table;
            reverse_table = in_front (table_of (reverse_by c) (letters c) fs) l.reverse_table;
            reverse_vectors = placed (n_of c) (suc reverse) fs l.reverse_vectors;
            rows = placed reverse (suc room) rs l.rows;
          };
    })

unfoldable pub brzozowski : List ℕ → ℕ → ℕ → Lent → Backward
brzozowski c room reverse l =
    unless (chart_fits c) (record { reply = check_reply c; left = l })
    (unless (backward_room c room reverse l) (record { reply = (5, []); left = l })
    (pick (ltb reverse (length (reverse_states c reverse)))
    (record { reply = (6, []); left = all_zeros l })
    (backward_built c room reverse (reverse_states c reverse) (row_states c (reverse_states c reverse) room) l)))

-- ---- memory of zeros that is enough for charts of up to 16 letters and 24 states

abbrev pub blank : ℕ → List ℕ
blank n = replicate n 0

abbrev pub blank_table : ℕ → List ℕ
blank_table room = blank (room * row_size 16)

abbrev pub blank_vectors : ℕ → List ℕ
blank_vectors room = blank (suc room * 24)
