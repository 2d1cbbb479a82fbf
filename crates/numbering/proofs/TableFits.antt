-- A table that fits, as facts: its sizes, its grades, its next states; and a word stays within its states. Assumes nothing.
use mathlib.Core.Path.{◌≡◌}
use mathlib.Core.Bool.{Bool, true}
use mathlib.Core.List.{List}
use Prim.Native.Nat.{ℕ, ◌*◌, ◌≤◌, ◌<◌}
use lib.ListN.{length}
use lib.Dec.{leb, ltb}
use borrow.Author.Tests.{ltb-true, leb-true, lt-ltb, le-leb}
use Rattle.paper.specs.Lists.{both, all_below}
use Rattle.paper.specs.Words.{Word}
use Rattle.paper.specs.Tables.{row_size, grade_at, next_at, size_fits, next_fits, row_fits, table_fits, next_by, state_of}
use Rattle.lists.proofs.Tests.{both_split, both_true, all_at, all_by}
use Rattle.numbering.proofs.Words.{with, after_with, after_keeps}

pub record Sized (rows : List ℕ) (count m : ℕ) : Type 0 where
  pub count_low : 1 ≤ count
  pub count_high : count ≤ 4096
  pub m_low : 1 ≤ m
  pub m_high : m ≤ 16
  pub long : count * row_size m ≤ length rows

pub record Row (rows : List ℕ) (count m top s : ℕ) : Type 0 where
  pub grade_low : grade_at rows m s < top
  pub next_low : (x : ℕ) → x < m → next_at rows m s x < count

pub record Table (rows : List ℕ) (count m top : ℕ) : Type 0 where
  pub sized : Sized rows count m
  pub row : (s : ℕ) → s < count → Row rows count m top s

module _ (rows : List ℕ) (count m : ℕ) where
  abbrev count_fits : Bool
  count_fits = both (leb 1 count) (leb count 4096)

  abbrev letters_fit : Bool
  letters_fit = both (leb 1 m) (leb m 16)

  abbrev long_enough : Bool
  long_enough = leb (count * row_size m) (length rows)

  -- what passes has the facts, and what has the facts passes: sizes, a row, a table
  pub size_facts : size_fits rows count m ≡ true → Sized rows count m
  unfolding size_fits
  size_facts e =
      let h = both_split count_fits (both letters_fit long_enough) e in
      let c = both_split (leb 1 count) (leb count 4096) h.0 in
      let l = both_split letters_fit long_enough h.1 in
      let n = both_split (leb 1 m) (leb m 16) l.0 in
      record {
        count_low = leb-true 1 count c.0;
        count_high = leb-true count 4096 c.1;
        m_low = leb-true 1 m n.0;
        m_high = leb-true m 16 n.1;
        long = leb-true (count * row_size m) (length rows) l.1;
      }

  pub size_passes : Sized rows count m → size_fits rows count m ≡ true
  unfolding size_fits
  size_passes f =
      both_true count_fits (both letters_fit long_enough)
      (both_true (leb 1 count) (leb count 4096) (le-leb 1 count f.count_low) (le-leb count 4096 f.count_high))
      (both_true letters_fit long_enough
      (both_true (leb 1 m) (leb m 16) (le-leb 1 m f.m_low) (le-leb m 16 f.m_high))
      (le-leb (count * row_size m) (length rows) f.long))

  module _ (top : ℕ) where
    pub row_facts : (s : ℕ) → row_fits rows count m top s ≡ true → Row rows count m top s
    unfolding row_fits next_fits
    row_facts s e =
        let h = both_split (ltb (grade_at rows m s) top) (all_below m (next_fits rows count m s)) e in
        record {
          grade_low = ltb-true (grade_at rows m s) top h.0;
          next_low = λ x l. ltb-true (next_at rows m s x) count (all_at (next_fits rows count m s) m h.1 x l);
        }

    pub row_passes : (s : ℕ) → Row rows count m top s → row_fits rows count m top s ≡ true
    unfolding row_fits next_fits
    row_passes s f =
        both_true (ltb (grade_at rows m s) top) (all_below m (next_fits rows count m s)) (lt-ltb (grade_at rows m s) top f.grade_low)
        (all_by (next_fits rows count m s) m (λ x l. lt-ltb (next_at rows m s x) count (f.next_low x l)))

    pub table_facts : table_fits rows count m top ≡ true → Table rows count m top
    unfolding table_fits
    table_facts e =
        let h = both_split (size_fits rows count m) (all_below count (row_fits rows count m top)) e in
        record { sized = size_facts h.0; row = λ s l. row_facts s (all_at (row_fits rows count m top) count h.1 s l) }

    pub table_passes : Table rows count m top → table_fits rows count m top ≡ true
    unfolding table_fits
    table_passes f =
        both_true (size_fits rows count m) (all_below count (row_fits rows count m top)) (size_passes f.sized)
        (all_by (row_fits rows count m top) count (λ s l. row_passes s (f.row s l)))

    -- a word stays within the table's states
    pub state_low : Table rows count m top → (u : List ℕ) → Word m u → state_of rows m u < count
    unfolding state_of next_by
    state_low f = after_keeps (next_by rows m) (λ s. s < count) m (λ x h s l. (f.row s l).next_low x h) 0 f.sized.count_low

-- one more letter: one more step
pub state_with : (rows : List ℕ) (m : ℕ) (u : List ℕ) (x : ℕ) → state_of rows m (with x u) ≡ next_at rows m (state_of rows m u) x
unfolding state_of next_by
state_with rows m u x = after_with (next_by rows m) 0 u x
