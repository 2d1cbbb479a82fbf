-- A table beside a chart: when it fits, its states' grades, and their join. Assumes nothing.
use Rattle.std.specs.Prelude.{Ok, Err}
use mathlib.Core.Path.{◌≡◌, refl, ◌∙◌}
use mathlib.Core.Bool.{Bool, true, false}
use mathlib.Core.List.{List, [], ◌∷◌}
use Prim.Native.Nat.{ℕ, ◌+◌, ◌<◌}
use native.Mathlib.Numerals.{add-one}
use native.Mathlib.Omega.{arith}
use lib.Dec.{eqb, ltb}
use borrow.Author.Tests.{eq-eqb, ne_eqb, ltb-true}
use Rattle.replies.specs.declared.Refusal.{Refusal}
use Rattle.paper.specs.Lists.{both, all_below}
use Rattle.paper.specs.Reply.{Reply}
use Rattle.replies.specs.Replies.{said}
use Rattle.paper.specs.Chart.{k_of, letters, join}
use Rattle.paper.specs.Vectors.{joins}
use Rattle.paper.specs.Tables.{grade_at, next_fits, size_fits, row_fits, table_fits, table_fits_chart, cap_of, cap_reply}
use Rattle.lists.proofs.Tests.{both_left, both_right, all_at}
use Rattle.cells.specs.Shaped.{Read}
use Rattle.card.specs.Capped.{Beside}
use Rattle.chart.specs.Opened.{Opened}
use Rattle.rows.specs.RowIn.{RowIn}
use Rattle.rows.proofs.Rows.{row_in, size_parts}
use Rattle.rows.proofs.TableTest.{table_parts}

-- ---- when a table fits
module _ (c rows : List ℕ) (count m : ℕ) where
  pub other_letters : (m ≡ letters c → ⊥) → false ≡ table_fits_chart c rows count m
  unfolding table_fits_chart both
  other_letters f = rw (ne_eqb m (letters c) f)

  pub same_letters : m ≡ letters c → {k : ℕ} → k ≡ k_of c → (b : Bool) → b ≡ table_fits rows count m k → b ≡ table_fits_chart c rows count m
  unfolding table_fits_chart both
  same_letters e f b q = rw (eq-eqb m (letters c) e, ← f) q

-- ---- a table that fits
module _ {c rows : List ℕ} {count m : ℕ} (h : Beside c rows count m) where
  -- it is one whose grades are the chart's
  fits : table_fits rows count m (k_of c) ≡ true
  unfolding table_fits_chart
  fits = both_right (eqb m (letters c)) (table_fits rows count m (k_of c)) h.fits

  pub size_beside : size_fits rows count m ≡ true
  size_beside = (table_parts rows count m (k_of c) fits).0

  pub row_beside : {q : ℕ} → q < count → RowIn rows m q
  row_beside {q} l = row_in rows count m q size_beside l

  pub grade_beside : {q g : ℕ} → q < count → g ≡ grade_at rows m q → g < k_of c
  unfolding row_fits
  grade_beside {q} l e =
      rw e
      (ltb-true _ _
      (both_left (ltb (grade_at rows m q) (k_of c)) (all_below m (next_fits rows count m q)) (all_at (row_fits rows count m (k_of c)) count (table_parts rows count m (k_of c) fits).1 q l)))

-- the grades of q states are joined
pub record Joined (c rows : List ℕ) (count m q cap : ℕ) : Type 0 where
  pub beside : Beside c rows count m
  pub below : cap < k_of c
  pub is : cap ≡ joins c q (grade_at rows m)

pub join_none : {c rows : List ℕ} {count m : ℕ} → Beside c rows count m → Joined c rows count m 0 0
unfolding joins
join_none {count = count} h = record { beside = h; below = omega (arith, grade_beside h (size_parts _ _ _ (size_beside h)).0 refl); is = refl }

module _ {c rows : List ℕ} {count m q cap : ℕ} (h : Joined c rows count m q cap) where
  pub join_more : {grade next : ℕ} → grade ≡ grade_at rows m q → Read (join c cap grade) (k_of c) next → Joined c rows count m (q + 1) next
  unfolding joins
  join_more g r = record { beside = h.beside; below = r.low; is = r.is ∙ rw (add-one, h.is, g) }

  pub join_all : q ≡ count → cap ≡ cap_of c rows count m
  unfolding cap_of
  join_all e = rw e at h.is

-- ---- what is answered, where the chart was opened

module _ (c rows : List ℕ) (count m : ℕ) where
  pub cap_refused : (why : Refusal) → Opened c (Err why) → said why ≡ cap_reply c rows count m
  unfolding cap_reply
  cap_refused why e = rw (e.0, ← e.1)

  module _ {v : List ℕ} (e : Opened c (Ok v)) where
    pub cap_table : table_fits_chart v rows count m ≡ false → ◌≡◌ {A = Reply} (9, []) (cap_reply c rows count m)
    unfolding cap_reply
    cap_table f = rw (e.0, ← e.1, f)

    pub cap_is : table_fits_chart v rows count m ≡ true → (g : ℕ) → g ≡ cap_of v rows count m → ◌≡◌ {A = Reply} (0, g ∷ []) (cap_reply c rows count m)
    unfolding cap_reply
    cap_is f g q = rw (e.0, ← e.1, f, q)
