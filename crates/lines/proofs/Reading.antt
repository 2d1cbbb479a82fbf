-- A sheet's lines as the code reads them, and when they fit. Assumes nothing.
use mathlib.Core.Path.{◌≡◌, sym, ◌∙◌}
use mathlib.Core.Bool.{Bool, true, false}
use mathlib.Core.List.{List}
use Prim.Native.Nat.{ℕ, ◌+◌, ◌-◌, ◌*◌, ◌≤◌, ◌<◌}
use native.Mathlib.Nat.{suc-mul, mul-le-mul_right}
use native.Mathlib.Omega.{arith}
use lib.ListN.{length, get_or, take, drop, length-take, length-drop}
use lib.Seq.{get_or-take, get_or-drop, ext_get_or}
use lib.Dec.{leb, ltb}
use borrow.Author.Tests.{leb-true, le-ltb, lt-ltb, le-leb, lt-leb}
use Rattle.paper.specs.Lists.{both, all_below, part}
use Rattle.paper.specs.Chart.{k_of, n_of}
use Rattle.paper.specs.Sheets.{line_size, line_at, line_state, line_vector, line_grade_fits, line_fits}
use Rattle.lists.proofs.Tests.{both_split}
use Rattle.lists.proofs.ByPlace.{length_part, get_or_part}
use Rattle.lines.specs.Readable.{LineIn, LinesIn}

-- ---- one line

module _ {c sheet : List ℕ} {i : ℕ} (h : LineIn c sheet i) where
  length_line : length (part (line_size c) i sheet) ≡ 2 + n_of c
  length_line = length_part (2 + n_of c) i sheet (omega (arith, h.inside, suc-mul i (2 + n_of c)))

  pub line_length : length (line_at c sheet i) ≡ 2 + n_of c
  unfolding line_at
  line_length = length_line

  pub length_vector : length (line_vector c sheet i) ≡ n_of c
  unfolding line_vector line_at
  length_vector = simp (length-drop, length_line) (omega arith)

  vector_at : (p : ℕ) → p < n_of c → get_or (line_vector c sheet i) p 0 ≡ get_or sheet (i * (2 + n_of c) + 2 + p) 0
  unfolding line_vector line_at
  vector_at p l =
      let e : i * (2 + n_of c) + (2 + p) ≡ i * (2 + n_of c) + 2 + p = omega arith in
      rw get_or-drop (get_or_part (2 + n_of c) i sheet 0 (2 + p) (omega arith) ∙ rw e)

  vector_part : take (n_of c) (drop (i * (2 + n_of c) + 2) sheet) ≡ line_vector c sheet i
  vector_part =
      let q : length (take (n_of c) (drop (i * (2 + n_of c) + 2) sheet)) ≡ n_of c = simp (length-take, length-drop) (omega (arith, h.inside)) in
      ext_get_or 0 (take (n_of c) (drop (i * (2 + n_of c) + 2) sheet)) (line_vector c sheet i) (q ∙ sym length_vector)
      (λ p l.
      let b : p < n_of c = rw q at l in
      rw (get_or-take, get_or-drop) (sym (vector_at p b)))

  module _ {n : ℕ} (n-is : n ≡ n_of c) where
    pub state_is : (a b : ℕ) → a ≡ get_or sheet (i * (2 + n)) 0 → b ≡ get_or sheet (i * (2 + n) + 1) 0 → a * 256 + b ≡ line_state c sheet i
    unfolding line_state line_at
    state_is a b p q =
        let e : i * (2 + n) + 0 ≡ i * (2 + n) = omega arith in
        rw (← n-is, get_or_part (2 + n) i sheet 0 0 (omega arith), get_or_part (2 + n) i sheet 0 1 (omega arith), p, q, e)

    -- the part that the code takes for the line
    pub line_is : (r : List ℕ) → r ≡ take (i * (2 + n) + (2 + n) - i * (2 + n)) (drop (i * (2 + n)) sheet) → r ≡ line_at c sheet i
    unfolding line_at part
    line_is r f =
        let e : i * (2 + n) + (2 + n) - i * (2 + n) ≡ 2 + n = omega arith in
        f ∙ rw (e, n-is)

    -- and for its vector
    pub vector_is : (r : List ℕ) → r ≡ take (i * (2 + n) + 2 + n - (i * (2 + n) + 2)) (drop (i * (2 + n) + 2) sheet) → r ≡ line_vector c sheet i
    vector_is r f =
        let e : i * (2 + n) + 2 + n - (i * (2 + n) + 2) ≡ n = omega arith in
        f ∙ rw (e, n-is) vector_part

-- ---- when a line fits

pub state_high : (c : List ℕ) (count : ℕ) (sheet : List ℕ) (i : ℕ) {q : ℕ} → q ≡ line_state c sheet i → count ≤ q → false ≡ line_fits c count sheet i
unfolding line_fits both
state_high c count sheet i e l = rw (le-ltb (line_state c sheet i) count (rw e at l))

module _ {c sheet : List ℕ} {i : ℕ} (h : LineIn c sheet i) (count : ℕ) where
  -- the answer where its state is low enough: what every grade of it says
  pub grades_said : {k q : ℕ} {v : List ℕ} {r : Bool} → k ≡ k_of c → q ≡ line_state c sheet i → q < count → v ≡ line_vector c sheet i →
      r ≡ all_below (length v) (λ p. ltb (get_or v p 0) k) → r ≡ line_fits c count sheet i
  unfolding line_fits line_grade_fits both
  grades_said k-is e l f r = r ∙ rw (lt-ltb (line_state c sheet i) count (rw e at l), f, length_vector h, k-is)

-- ---- when a sheet fits

module _ (c sheet : List ℕ) (lines : ℕ) where
  pub many_lines : 4096 < lines → leb lines 4096 ≡ both (leb lines 4096) (leb (lines * line_size c) (length sheet))
  unfolding both
  many_lines l = rw (lt-leb lines 4096 l)

  pub bytes_said : {n : ℕ} {r : Bool} → n ≡ n_of c → lines ≤ 4096 → r ≡ leb (lines * (2 + n)) (length sheet) → r ≡ both (leb lines 4096) (leb (lines * line_size c) (length sheet))
  unfolding both
  bytes_said n-is l e = e ∙ rw (le-leb lines 4096 l, n-is)

  module _ (t : both (leb lines 4096) (leb (lines * line_size c) (length sheet)) ≡ true) where
    pub bytes_in : LinesIn c sheet lines
    bytes_in =
        let p = both_split (leb lines 4096) (leb (lines * line_size c) (length sheet)) t in
        record { few = leb-true lines 4096 p.0; inside = leb-true (lines * line_size c) (length sheet) p.1 }

-- a line of a sheet whose bytes are there
pub line_in : {c sheet : List ℕ} {lines i : ℕ} → LinesIn c sheet lines → i < lines → LineIn c sheet i
line_in {c = c} {i = i} h l = record { inside = omega (arith, h.inside, mul-le-mul_right (line_size c) l, suc-mul i (line_size c)) }
