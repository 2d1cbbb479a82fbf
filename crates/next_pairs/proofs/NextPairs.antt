-- The pairs that a line asks for, written into a part. Assumes nothing.
use mathlib.Core.Path.{◌≡◌, sym, ap, ◌∙◌}
use mathlib.Core.Bool.{Bool}
use mathlib.Core.List.{List, ◌++◌}
use Prim.Native.Nat.{ℕ, suc, ◌+◌, ◌-◌, ◌≤◌, ◌<◌}
use native.Mathlib.Omega.{arith}
use lib.Dec.{eqb}
use lib.Seq.{drop-drop}
use lib.ListN.{length, take, drop}
use borrow.Rule.Slice.PartMut.{put_mid}
use Rattle.paper.specs.Lists.{in_front}
use Rattle.paper.specs.Chart.{k_of, n_of, letters, start_from, grade_from, start_vec}
use Rattle.paper.specs.Vectors.{row_entry, row_times, end_grade}
use Rattle.paper.specs.Tables.{two_bytes, grade_at, next_at}
use Rattle.paper.specs.Sheets.{line_state, line_vector, on_sheet, grade_holds, next_holds}
use Rattle.lists.proofs.ByPlace.{length_tabulate}
use Rattle.cells.specs.Shaped.{Read}
use Rattle.lines.specs.Readable.{pair_state, pair_vector, pair_of, next_state, next_pair}
use Rattle.lines.proofs.PairBytes.{pair_said}

-- ---- how long a vector is

pub length_times : (c : List ℕ) (x : ℕ) (v : List ℕ) → length (row_times c x v) ≡ n_of c
unfolding row_times
length_times c x v = length_tabulate (n_of c) (row_entry c x v)

pub length_start : (c : List ℕ) → length (start_vec c) ≡ n_of c
unfolding start_vec
length_start c = length_tabulate (n_of c) (grade_from c (start_from c))

pub start_long : (c : List ℕ) {v : List ℕ} → v ≡ start_vec c → length v ≡ n_of c
start_long c e = rw e (length_start c)

-- the start pair, as it was written
pub start_put : (c old : List ℕ) {n : ℕ} {b v : List ℕ} → 2 ≤ length old → n ≡ n_of c → b ≡ two_bytes 0 → v ≡ start_vec c →
    put_mid 2 (2 + n - 2) (b ++ drop 2 old) v ≡ in_front (pair_of 0 (start_vec c)) old
unfolding in_front pair_of two_bytes
start_put c old l n-is b-is v-is =
    let e : 2 + n_of c - 2 ≡ length (start_vec c) = omega (arith, length_start c) in
    let e' : 2 + length (start_vec c) ≡ suc (suc (length (start_vec c))) = omega arith in
    rw (b-is, v-is, n-is, e) (ap (λ (w : List ℕ). two_bytes 0 ++ (start_vec c ++ w)) (drop-drop (length (start_vec c)) 2 old ∙ rw e'))

-- ---- a line of a sheet that fits

module _ (c rows sheet : List ℕ) (i : ℕ) {m q : ℕ} {v : List ℕ} (em : m ≡ letters c) (eq : q ≡ line_state c sheet i) (ev : v ≡ line_vector c sheet i) where
  pub grade_is : {a b : ℕ} → a ≡ grade_at rows m q → Read (end_grade c v) (k_of c) b → eqb a b ≡ grade_holds c rows sheet i
  unfolding grade_holds
  grade_is ea eb = rw (ea, eb.is, eq, ev, em)

  -- the next pair, as it was written
  pub next_put : (x : ℕ) (old : List ℕ) {t : ℕ} {out : List ℕ} → (t ≡ next_at rows m q x) × (t < 65536) →
      out ≡ in_front (pair_of t (row_times c x v)) old → (out ≡ in_front (next_pair c rows sheet i x) old) × (next_state c rows sheet i x < 65536)
  next_put x old {t} et eo =
      let t-is : t ≡ next_state c rows sheet i x = rw (et.0, eq, em) in (eo ∙ rw (t-is, ev), rw (← t-is) et.1)

module _ (c rows sheet : List ℕ) (lines i x : ℕ) (old : List ℕ) {out : List ℕ} {r : Bool} where
  -- it was looked up
  pub next_is : {n : ℕ} → n ≡ n_of c → (out ≡ in_front (next_pair c rows sheet i x) old) × (next_state c rows sheet i x < 65536) →
      r ≡ on_sheet c sheet lines (pair_state (take (2 + n) out)) (pair_vector (take (2 + n) out)) → r ≡ next_holds c rows sheet lines i x
  unfolding next_holds
  next_is n-is e q = pair_said (next_state c rows sheet i x) _ _ (length_times c x (line_vector c sheet i) ∙ sym n-is) old out e.0 c sheet lines e.1 q
