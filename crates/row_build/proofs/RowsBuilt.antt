-- The reverse table and the rows over it built, from their parts. Assumes nothing.
use mathlib.Core.Path.{◌≡◌, ap, ◌∙◌}
use mathlib.Core.Bool.{true, false≢true}
use mathlib.Core.List.{List, [], ◌∷◌, ◌++◌}
use Prim.Native.Nat.{ℕ, suc, ◌*◌, ◌≤◌, ◌<◌}
use native.Mathlib.Nat.{mul-le-mul_right}
use native.Mathlib.Omega.{arith}
use lib.ListN.{length, get_or, drop}
use borrow.Author.Tests.{lt-ltb, le-ltb}
use Rattle.paper.specs.Lists.{in_front, zeros}
use Rattle.paper.specs.Chart.{k_of, n_of, letters, end_vec}
use Rattle.paper.specs.Check.{chart_fits}
use Rattle.paper.specs.Vectors.{times_col, start_grade}
use Rattle.paper.specs.Numbering.{itself, place}
use Rattle.paper.specs.Tables.{row_size, grade_at, next_at}
use Rattle.paper.specs.Constructions.{states_of, table_of, reverse_by, reverse_states, first_row_at, first_row, row_after_at, row_after, row_grade, rows_by, row_states}
use Rattle.paper.specs.Builders.{state_most, reverse_most, all_zeros, backward_room, backward_built, brzozowski, placed}
use Rattle.lists.proofs.Tests.{both_split}
use Rattle.lists.proofs.ByPlace.{tabulate_cong}
use Rattle.numbering.proofs.Theorems.{states_some, states_each, states_closed}
use Rattle.numbering.proofs.TableBytes.{in_front_lem, grade_back, next_back}
use Rattle.algebra.proofs.Checked.{sound}
use Rattle.algebra.proofs.Vectors.{Grades, start_grades, end_grades, col_grades, combine_low}
use Rattle.kinds.specs.Kinds.{grades_in, next_row, next_row_at, made_by}
use Rattle.kinds.specs.Ready.{Reverses, Sized}
use Rattle.walk.specs.Walked.{Makes}
use Rattle.row_build.specs.Lent.{lent}
use Rattle.kinds.specs.declared.Kind.{Kind}
use Rattle.rooms.proofs.Rooms.{Roomy, roomy}
use Rattle.walk.proofs.VectorPlan.{vector_sized}
use Rattle.row_build.proofs.SameSteps.{states_same, table_same}

module _ (c : List ℕ) (fits : chart_fits c ≡ true) (room reverse : ℕ) (table rt rv rows : List ℕ)
    (ok : backward_room c room reverse (lent table rt rv rows) ≡ true) where
  -- the reverse vectors
  abbrev fs : List (List ℕ)
  fs = reverse_states c reverse

  pub rooms : Roomy state_most (letters c) reverse room (length table) (length rows)
  unfolding backward_room
  rooms = roomy _ _ _ _ _ _ (both_split _ _ ok).0

  pub back_rooms : Roomy reverse_most (letters c) (n_of c) reverse (length rt) (length rv)
  unfolding backward_room
  back_rooms = roomy _ _ _ _ _ _ (both_split _ _ ok).1

  pub back_sized : {n : ℕ} → n ≡ n_of c → Sized Kind.Reverse c n n reverse
  back_sized e = vector_sized Kind.Reverse c fits back_rooms (omega arith) e

  -- too many reverse vectors
  pub back_full : reverse < length (states_of (reverse_by c) (letters c) reverse) → {t t' v' w : List ℕ} → t ≡ zeros table → t' ≡ zeros rt → v' ≡ zeros rv → w ≡ zeros rows →
      record { reply = (6, []); left = lent t t' v' w } ≡ brzozowski c room reverse (lent table rt rv rows)
  unfolding brzozowski all_zeros reverse_states
  back_full over et et' ev' ew = simp (et, et', ev', ew, fits, ok, lt-ltb reverse (length (states_of (reverse_by c) (letters c) reverse)) over)

  module _ {rt' rv' : List ℕ} {count n : ℕ} (e : n ≡ n_of c) (d : Makes (reverse_by c) (letters c) n reverse rt rt' rv rv' count) where
    count_is : count ≡ length fs
    unfolding reverse_states
    count_is = d.count_is

    few : length fs ≤ reverse
    few = rw (← count_is) d.roomy

    back_table : rt' ≡ in_front (table_of (reverse_by c) (letters c) fs) rt
    unfolding reverse_states
    back_table = d.table_is

    back_vectors : rv' ≡ placed (n_of c) (suc reverse) fs rv
    unfolding reverse_states
    back_vectors = d.vectors_is ∙ ap (λ s. placed s (suc reverse) (states_of (reverse_by c) (letters c) reverse) rv) e

    front : rt' ≡ table_of (reverse_by c) (letters c) fs ++ drop (length (table_of (reverse_by c) (letters c) fs)) rt
    front = back_table ∙ in_front_lem (table_of (reverse_by c) (letters c) fs) rt

    small : length fs ≤ 4096
    small = omega (arith, few, back_rooms.high)

    -- its bytes, read back
    grade_is : (i : ℕ) → i < length fs → grade_at rt' (letters c) i ≡ start_grade c (get_or fs i [])
    grade_is = grade_back (reverse_by c) (letters c) fs rt' _ front

    next_is : (i x : ℕ) → i < length fs → x < letters c → next_at rt' (letters c) i x ≡ place itself fs (times_col c x (get_or fs i []))
    next_is = next_back (reverse_by c) (letters c) fs rt' _ front small

    graded : (i : ℕ) → i < length fs → Grades c (get_or fs i [])
    unfolding reverse_states states_of
    graded = states_each itself (times_col c) (letters c) reverse (end_vec c) (Grades c) (end_grades c (sound c fits)) (λ x l w g. col_grades c (sound c fits) x w l g)

    closed : (i : ℕ) → i < length fs → (x : ℕ) → x < letters c → place itself fs (times_col c x (get_or fs i [])) < length fs
    unfolding reverse_states states_of
    closed = states_closed itself (times_col c) (letters c) reverse (end_vec c) (λ v w x q l. ap (times_col c x) q) few

    some : 0 < length fs
    unfolding reverse_states states_of
    some = states_some itself (times_col c) (letters c) reverse (end_vec c)

    pub reverses : length rt' ≡ length rt → Reverses rt' (letters c) (k_of c) count
    unfolding start_grade
    reverses l =
        rw
        count_is
        (record {
          long =
              let n : length fs * row_size (letters c) ≤ reverse * row_size (letters c) = mul-le-mul_right (row_size (letters c)) few in
              rw l (omega (arith, back_rooms.rows));
          grades = λ i b. rw (grade_is i b) (combine_low c (sound c fits) _ _ (start_grades c (sound c fits)) (graded i b));
          nexts = λ i x b g. rw (next_is i x b g) (closed i b x g);
        })

    -- rows of w bytes fit their places
    pub rows_sized : (w : ℕ) → count ≤ w → w ≤ reverse → Sized Kind.Rows c w reverse room
    rows_sized w low high =
        record {
          fits = fits;
          vectors = λ q. absurd (false≢true q);
          width_low = omega (arith, some, count_is);
          inside = high;
          stride_high = back_rooms.high;
          room_low = rooms.low;
          room_high = rooms.high;
        }

    -- the rows made from the bytes are those made from the reverse vectors
    first_same : grades_in rt' (letters c) (length fs) ≡ first_row c fs
    unfolding grades_in first_row first_row_at
    first_same = tabulate_cong (length fs) _ _ grade_is

    step_same : (x : ℕ) → x < letters c → (row : List ℕ) → next_row rt' (letters c) (length fs) x row ≡ row_after c fs x row
    unfolding next_row next_row_at row_after row_after_at
    step_same x l row = tabulate_cong (length fs) _ _ (λ i b. ap (λ j. get_or row j 0) (next_is i x b l))

    rows_states : states_of (made_by Kind.Rows c rt' (letters c) count) (letters c) room ≡ row_states c fs room
    unfolding row_states
    rows_states = rw count_is (states_same itself _ _ (letters c) step_same room row_grade first_same)

    rows_table : (vs : List (List ℕ)) → table_of (made_by Kind.Rows c rt' (letters c) count) (letters c) vs ≡ table_of (rows_by c fs) (letters c) vs
    rows_table vs = rw count_is (table_same itself _ _ (letters c) step_same _ _ row_grade vs)

    pub rows_full : room < length (states_of (made_by Kind.Rows c rt' (letters c) count) (letters c) room) → {t t' v' w : List ℕ} → t ≡ zeros table → t' ≡ zeros rt → v' ≡ zeros rv → w ≡ zeros rows →
        record { reply = (7, []); left = lent t t' v' w } ≡ brzozowski c room reverse (lent table rt rv rows)
    unfolding brzozowski backward_built all_zeros
    rows_full over et et' ev' ew =
        let o : room < length (row_states c fs room) = rw (← rows_states) over in
        simp (et, et', ev', ew, fits, ok, le-ltb reverse (length fs) few, lt-ltb room (length (row_states c fs room)) o)

    pub rows_done : {table' rows' : List ℕ} {held : ℕ} → Makes (made_by Kind.Rows c rt' (letters c) count) (letters c) reverse room table table' rows rows' held →
        record { reply = (0, held ∷ count ∷ []); left = lent table' rt' rv' rows' } ≡ brzozowski c room reverse (lent table rt rv rows)
    unfolding brzozowski backward_built
    rows_done {table'} {rows'} {held} k =
        let hl : held ≡ length (row_states c fs room) = k.count_is ∙ ap length rows_states in
        let l : length (row_states c fs room) ≤ room = rw (← hl) k.roomy in
        let et : table' ≡ in_front (table_of (rows_by c fs) (letters c) (row_states c fs room)) table =
        k.table_is ∙ ap (λ (y : List ℕ). in_front y table) (rows_table _ ∙ ap (table_of (rows_by c fs) (letters c)) rows_states) in
        let ew : rows' ≡ placed reverse (suc room) (row_states c fs room) rows = k.vectors_is ∙ ap (λ (vs : List (List ℕ)). placed reverse (suc room) vs rows) rows_states in
        simp (et, ew, back_table, back_vectors, hl, count_is, fits, ok, le-ltb reverse (length fs) few, le-ltb room (length (row_states c fs room)) l)
