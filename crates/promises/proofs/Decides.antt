-- The keys of the four constructions decide where letters lead, and grades. Assumes nothing.
use mathlib.Core.List.{List}
use Prim.Native.Nat.{ℕ}
use Rattle.paper.specs.Chart.{letters, start_vec, end_vec}
use Rattle.paper.specs.Vectors.{row_times, times_col, end_grade, start_grade}
use Rattle.paper.specs.Constructions.{nerode_by, reduced_by, reverse_by, first_row, row_after, row_grade, rows_by}
use Rattle.numbering.specs.Numbered.{KeyDecides}
use Rattle.numbering.proofs.Built.{itself_decides}
use Rattle.algebra.proofs.Words.{reduced_grade, reduced_keeps}

pub nerode_decides : (c : List ℕ) → KeyDecides (nerode_by c) (letters c)
nerode_decides c = itself_decides (start_vec c) (row_times c) (end_grade c) (letters c)

pub reduced_decides : (c : List ℕ) → KeyDecides (reduced_by c) (letters c)
reduced_decides c = record { steps = λ v w x e h. reduced_keeps c v w x e h; grades = λ v w e. reduced_grade c v w e }

pub reverse_decides : (c : List ℕ) → KeyDecides (reverse_by c) (letters c)
reverse_decides c = itself_decides (end_vec c) (times_col c) (start_grade c) (letters c)

pub rows_decides : (c : List ℕ) (fs : List (List ℕ)) → KeyDecides (rows_by c fs) (letters c)
rows_decides c fs = itself_decides (first_row c fs) (row_after c fs) row_grade (letters c)
