-- Big joins as loops make them, one term at a time. Assumes nothing.
use mathlib.Core.Path.{◌≡◌, refl, ap, ◌∙◌}
use mathlib.Core.List.{List, ◌++◌}
use Prim.Native.Nat.{ℕ, ◌+◌, ◌≤◌, ◌<◌}
use native.Mathlib.Nat.{le_refl}
use native.Mathlib.Numerals.{add-one}
use native.Mathlib.Omega.{arith}
use native.Mathlib.Decide.{dec_lt}
use lib.ListN.{length, get_or, take, drop, set, length-set, length-append, length-drop, length-replicate, get_or-replicate, get_or-append}
use lib.Seq.{get_or-set_same, get_or-set_other, length-take-le, drop_at}
use Rattle.paper.specs.Lists.{tabulate, in_front, zeros}
use Rattle.paper.specs.Chart.{k_of, n_of, join, prod, entry}
use Rattle.paper.specs.Vectors.{joins, combine_term, combine, row_term, row_entry, row_times, col_entry, times_col}
use Rattle.lists.proofs.ByPlace.{length_tabulate, get_or_tabulate, tabulate_cong}
use Rattle.lists.proofs.Front.{front_front}
use Rattle.lists.proofs.Lent.{in_front_none, in_front_tabulate, get_or_in_front, get_or_behind, front_is}
use Rattle.cells.specs.Shaped.{Grades, Vector, Read}
use Rattle.vectors.specs.Products.{Blank, joined_at, RowJoined}

-- no term yet: grade 0
pub joins_start : (c : List ℕ) (f : ℕ → ℕ) {k : ℕ} → 0 < k → Read (joins c 0 f) k 0
unfolding joins
joins_start c f l = record { is = refl; low = l }

-- one term more
pub joins_more : (c : List ℕ) (f : ℕ → ℕ) (p : ℕ) {k sum term r : ℕ} → sum ≡ joins c p f → term ≡ f p → Read (join c sum term) k r → Read (joins c (p + 1) f) k r
unfolding joins
joins_more c f p a b r = record { is = r.is ∙ rw (a, b, add-one); low = r.low }

-- ---- two vectors combined

module _ (c v w : List ℕ) where
  pub combine_more : (p : ℕ) {k sum a b g r : ℕ} → Read (joins c p (combine_term c v w)) k sum → a ≡ get_or v p 0 → b ≡ get_or w p 0 → g ≡ prod c a b →
      Read (join c sum g) k r → Read (joins c (p + 1) (combine_term c v w)) k r
  unfolding combine_term
  combine_more p s ea eb eg r = joins_more c (combine_term c v w) p s.is (rw (eg, ea, eb)) r

  pub combine_end : {k p r : ℕ} → p ≡ n_of c → Read (joins c p (combine_term c v w)) k r → Read (combine c v w) k r
  unfolding combine
  combine_end e r = record { is = r.is ∙ rw e; low = r.low }

-- ---- a matrix times a column, entry by entry

pub col_end : (c : List ℕ) (x : ℕ) (w old out : List ℕ) {p n : ℕ} → out ≡ in_front (tabulate p (col_entry c x w)) old → p ≡ n → n ≡ n_of c →
    out ≡ in_front (times_col c x w) old
unfolding times_col
col_end c x w old out o e f = o ∙ rw (e, f)

-- ---- a row of a matrix joined into a vector

-- one grade stored
pub grades_set : {k n : ℕ} {v : List ℕ} (q r : ℕ) → Grades k n v → q < length v → r < k → Grades k n (set v q r)
grades_set {k} {n} {v} q r g h l = record { long = rw length-set g.long; low = λ p b. go p b (dec_lt p q) (dec_lt q p) }
  where
    go : (p : ℕ) → p < n → Dec (p < q) → Dec (q < p) → get_or (set v q r) p 0 < k
    go p b (yes o) d = rw (get_or-set_other v q p r 0 (λ e. omega arith)) (g.low p b)
    go p b (no o) (yes d) = rw (get_or-set_other v q p r 0 (λ e. omega arith)) (g.low p b)
    go p b (no o) (no d) =
        let e : p ≡ q = omega arith in
        rw (e, get_or-set_same v q r 0 h) l

-- the places below q are done
pub record Joining (c : List ℕ) (x p a : ℕ) (old out : List ℕ) (q : ℕ) : Type 0 where
  pub same : length out ≡ length old
  pub is : out ≡ in_front (tabulate q (joined_at c x p a old)) old
  pub grades : Vector c out

module _ (c : List ℕ) (x p a : ℕ) (old : List ℕ) where
  pub joining_start : Vector c old → Joining c x p a old old 0
  unfolding tabulate
  joining_start g = record { same = refl; is = in_front_none old; grades = g }

  pub joining_more : (out : List ℕ) (q : ℕ) {e t r : ℕ} → Joining c x p a old out q → q < n_of c → e ≡ entry c x p q → t ≡ prod c a e →
      Read (join c (get_or out q 0) t) (k_of c) r → Joining c x p a old (set out q r) (q + 1)
  unfolding joined_at
  joining_more out q {e} {t} {r} j h ee et er =
      record {
        same = rw length-set j.same;
        is = in_front_tabulate (joined_at c x p a old) old q (omega (arith, j.same, j.grades.long)) j.is (er.is ∙ rw (et, ee, unread));
        grades = grades_set q r j.grades (omega (arith, j.grades.long)) er.low;
      }
    where
      unread : get_or out q 0 ≡ get_or old q 0
      unread = rw j.is (get_or_behind (tabulate q (joined_at c x p a old)) old q (rw length_tabulate (le_refl q)))

-- ---- all rows, one after the other

-- the row vector v times letter x's matrix, its first p rows only
unfoldable pub rows_at : List ℕ → ℕ → List ℕ → ℕ → ℕ → ℕ
rows_at c x v p q = joins c p (row_term c x v q)

-- the rows below p are done
pub record Rowing (c : List ℕ) (x : ℕ) (v old out : List ℕ) (p : ℕ) : Type 0 where
  pub same : length out ≡ length old
  pub is : out ≡ in_front (tabulate (n_of c) (rows_at c x v p)) old
  pub grades : Vector c out

module _ (c : List ℕ) (x : ℕ) (v old : List ℕ) where
  abbrev n : ℕ
  n = n_of c

  pub rowing_start : 0 < k_of c → Blank n old → Rowing c x v old old 0
  unfolding rows_at joins
  rowing_start h b =
      record {
        same = refl;
        is = front_is n old (rows_at c x v 0) b.long b.zeros;
        grades = record { long = b.long; low = λ q l. rw (b.zeros q l) h };
      }

  pub rowing_more : (out new : List ℕ) (p : ℕ) {a : ℕ} → Rowing c x v old out p → p < n → a ≡ get_or v p 0 → RowJoined c x p a out new →
      length new ≡ length out → Rowing c x v old new (p + 1)
  unfolding rows_at joins joined_at row_term
  rowing_more out new p {a} r h e j s =
      record {
        same = s ∙ r.same;
        is =
            j.is
            ∙ ap (λ front. in_front front out) (tabulate_cong n (joined_at c x p a out) (rows_at c x v (p + 1)) (λ q l. rw (add-one, e, at q l)))
            ∙ ap (in_front (tabulate n (rows_at c x v (p + 1)))) r.is
            ∙ front_front (tabulate n (rows_at c x v (p + 1))) (tabulate n (rows_at c x v p)) old (rw (length_tabulate, length_tabulate) (le_refl n));
        grades = j.low;
      }
    where
      at : (q : ℕ) → q < n → get_or out q 0 ≡ rows_at c x v p q
      at q l = rw r.is (get_or_in_front (tabulate n (rows_at c x v p)) old q (rw length_tabulate l) ∙ get_or_tabulate n (rows_at c x v p) 0 q l)

  pub rowing_end : (out : List ℕ) {p : ℕ} → Rowing c x v old out p → p ≡ n_of c → out ≡ in_front (row_times c x v) old
  unfolding row_times row_entry rows_at
  rowing_end out r e = r.is ∙ rw e

-- ---- the place zeroed, and the product written over the zeros

module _ (n : ℕ) (old z : List ℕ) (fits : n ≤ length old) (zeroed : z ≡ zeros (take n old)) where
  length_zeroed : length z ≡ n
  length_zeroed = ap length zeroed ∙ length-replicate _ 0 ∙ length-take-le n old fits

  pub blank : {m : ℕ} → n ≡ m → Blank m (z ++ drop n old)
  blank e =
      record {
        long = rw (← e) (simp (length-append, length-drop) (omega (arith, length_zeroed)));
        zeros = λ q l. let l : q < n = rw e l in get_or-append z (drop n old) 0 q (rw length_zeroed l) ∙ ap (λ y. get_or y q 0) zeroed ∙ get_or-replicate (length (take n old)) q 0 0 (rw (length-take-le n old fits) l);
      }

  pub row_over : (c : List ℕ) (x : ℕ) (v out : List ℕ) → n ≡ n_of c → out ≡ in_front (row_times c x v) (z ++ drop n old) → out ≡ in_front (row_times c x v) old
  unfolding in_front row_times
  row_over c x v out e o = o ∙ rw (length_tabulate, ← e, drop_at z (drop n old) n length_zeroed)
