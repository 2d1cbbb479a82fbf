-- The row of a state, and its place in the table. Assumes nothing.
use mathlib.Core.Path.{◌≡◌, ◌∙◌}
use mathlib.Core.List.{List, [], ◌∷◌}
use Prim.Native.Nat.{ℕ, ◌+◌, ◌-◌, ◌*◌, ◌≤◌, ◌<◌}
use native.Mathlib.Nat.{suc-mul, mul-le-mul_right}
use native.Mathlib.Numerals.{one-add}
use native.Mathlib.Omega.{arith}
use lib.ListN.{length, take, drop, set, length-set}
use borrow.Rule.Slice.PartMut.{put_mid}
use Rattle.paper.specs.Lists.{in_front}
use Rattle.paper.specs.Chart.{letters}
use Rattle.paper.specs.Tables.{row_size}
use Rattle.places.specs.Search.{place_at}
use Rattle.kinds.specs.Kinds.{made}
use Rattle.places.specs.Memory.{spliced}
use Rattle.marks.specs.declared.chains.Index.{Index}
use Rattle.search.specs.Kept.{kept_in}
use Rattle.settle.specs.Settles.{Asks}
use Rattle.nexts.specs.Taken.{nexts_for, row_for, row_in, TakenAs}
use Rattle.expand.specs.Asked.{ExpandAsks}
use Rattle.kinds.specs.declared.plan.Plan.{Plan}
use Rattle.std.specs.Prelude.{Option, Some, None}
use Rattle.places.proofs.Memory.{lent_from}
use Rattle.nexts.proofs.Letters.{length_pairs, length_row_for}

-- ---- the row

-- a first byte, and a run from the second on
front_cons : (g : ℕ) (new row : List ℕ) → 0 < length row → spliced 1 new (set row 0 g) ≡ in_front (g ∷ new) row
unfolding spliced in_front
front_cons g new [] h = absurd (omega arith)
front_cons g new (y ∷ ys) h = rw one-add

-- one answer for another row
again : (p : Plan) (held : ℕ) (v due due' row row' old new : List ℕ) (index : Index) (r : Option ℕ) → (row ≡ due → row' ≡ due') →
    TakenAs p held v due row old new index r → TakenAs p held v due' row' old new index r
again p held v due due' row row' old new index None f d = d
again p held v due due' row row' old new index (Some h) f d = record { roomy = d.roomy; listed = d.listed; holds = d.holds; apart = d.apart; row_is = f d.row_is }

-- the row, from its grade and its next states
pub row_from : (p : Plan) (held : ℕ) (v row q old new : List ℕ) (index : Index) (g : ℕ) (r : Option ℕ) → row_size (letters p.chart.now) ≤ length row → g ≡ (made p).grade v →
    TakenAs p held v (in_front (nexts_for (made p) (letters p.chart.now) (kept_in p held old) v) (take (length (set row 0 g) - 1) (drop 1 (set row 0 g)))) q old new index r →
    TakenAs p held v (in_front (row_in p held v old) row) (put_mid 1 (length (set row 0 g) - 1) (set row 0 g) q) old new index r
unfolding row_for nexts_for
row_from p held v row q old new index g r h e d =
    again p held v _ _ q _ old new index r
    (λ w.
    lent_from 1 _ (set row 0 g) q (rw (length_pairs, length-set) h) w
    ∙ front_cons g _ row (omega arith)
    ∙ rw e)
    d

-- the row in its place in the table
pub expand_from : (p : Plan) (i held : ℕ) (table q old new : List ℕ) (index : Index) (v : List ℕ) (r : Option ℕ) {at : ℕ} → at ≡ i * row_size (letters p.chart.now) →
    i * row_size (letters p.chart.now) + row_size (letters p.chart.now) ≤ length table → v ≡ place_at p.stride p.width old i →
    TakenAs p held v (in_front (row_in p held v old) (take (length table - at) (drop at table))) q old new index r →
    TakenAs p held (place_at p.stride p.width old i)
    (spliced (i * row_size (letters p.chart.now)) (row_in p held (place_at p.stride p.width old i) old) table)
    (put_mid at (length table - at) table q) old new index r
expand_from p i held table q old new index v r {at} f h ev d =
    rw (← ev, ← f)
    (again p held v _ _ q _ old new index r (λ w. lent_from at (row_in p held v old) table q (rw (length_row_for, f) h) w) d)

-- row i of the table is within it
pub row_within : {p : Plan} {i held : ℕ} {table vectors : List ℕ} {index : Index} → ExpandAsks p i held table vectors index →
    i * row_size (letters p.chart.now) + row_size (letters p.chart.now) ≤ length table
row_within {p} {i} {held} a =
    let b : i < p.room = omega (arith, a.below, a.roomy) in
    omega (arith, suc-mul i (row_size (letters p.chart.now)), mul-le-mul_right (row_size (letters p.chart.now)) b, a.table_fits)

-- what is known of state i and the copy of its value
module _ {p : Plan} {i held : ℕ} {table vectors : List ℕ} {index : Index} (a : ExpandAsks p i held table vectors index) where
  module _ (copy : List ℕ) (e : take p.width copy ≡ take p.width (drop (i * p.stride) vectors)) where
    pub copy_is : take p.width copy ≡ place_at p.stride p.width vectors i
    unfolding place_at
    copy_is = e

    pub copy_asks : Asks p held (take p.width copy) vectors index
    copy_asks = record { ready = a.ready; roomy = a.roomy; value = rw copy_is (a.holds.valued.values i a.below); holds = a.holds }
