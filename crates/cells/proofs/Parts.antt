-- Parts of a chart's bytes as vectors: the start vector, the end vector, a row of a matrix. Assumes nothing.
use mathlib.Core.Path.{◌≡◌, sym, ◌∙◌}
use mathlib.Core.List.{List}
use Prim.Native.Nat.{ℕ, ◌+◌, ◌*◌, ◌≤◌, ◌<◌}
use native.Mathlib.Nat.{add_assoc, mul-le-mul_right, suc-mul}
use native.Mathlib.Omega.{arith}
use lib.Arith.{digits_lt}
use lib.ListN.{length, get_or, take, drop, length-take, length-drop}
use lib.Seq.{ext_get_or, get_or-take, get_or-drop}
use Rattle.replies.specs.declared.Shape.{Shape}
use Rattle.paper.specs.Chart.{head_size, n_of, letters, start_from, end_from, matrix_from, grade_from, entry, start_vec, end_vec}
use Rattle.paper.specs.Lists.{tabulate}
use Rattle.lists.proofs.ByPlace.{length_tabulate, get_or_tabulate}
use Rattle.cells.specs.Shaped.{Shaped, Part, row_of}

module _ {c : List ℕ} {s : Shape} (h : Shaped c s) where
  -- as many bytes as there are states, from a place behind the head on
  part_at : (from : ℕ) (f : ℕ → ℕ) {v : List ℕ} → head_size ≤ from → from + s.n ≤ s.size → ((p : ℕ) → p < s.n → get_or c (from + p) 0 ≡ f p) →
      v ≡ take s.n (drop from c) → Part c (tabulate (n_of c) f) v
  part_at from f {v} b e at q =
      record {
        is = ext_get_or 0 v (tabulate (n_of c) f) (long ∙ h.n_is ∙ sym (length_tabulate (n_of c) f))
            (λ p l. read p (rw long at l) ∙ at p (rw long at l) ∙ sym (get_or_tabulate (n_of c) f 0 p (rw (long, h.n_is) at l)));
        grades =
            record {
              long = omega (arith, long, h.n_is);
              low = λ p l. rw (read p (rw h.n_is l), ← h.k_is) (h.graded (from + p) (omega arith) (omega (arith, h.n_is)));
            };
      }
    where
      long : length v ≡ s.n
      long = rw q (simp (length-take, length-drop) (omega (arith, h.fits)))

      read : (p : ℕ) → p < s.n → get_or v p 0 ≡ get_or c (from + p) 0
      read p l = rw (q, get_or-take, get_or-drop)

  pub start_part : {v : List ℕ} → v ≡ take s.n (drop s.start c) → Part c (start_vec c) v
  unfolding start_vec grade_from
  start_part =
      part_at s.start (grade_from c (start_from c)) (rw h.start_is (omega arith)) (rw (h.start_is, h.n_is, h.size_is) (omega arith))
      (λ p l. rw h.start_is)

  pub end_part : {v : List ℕ} → v ≡ take s.n (drop s.end c) → Part c (end_vec c) v
  unfolding end_vec grade_from
  end_part =
      part_at s.end (grade_from c (end_from c)) (rw h.end_is (omega arith)) (rw (h.end_is, h.n_is, h.size_is) (omega arith)) (λ p l. rw h.end_is)

  -- row p of letter x's matrix ends within the chart
  pub row_ends : (x p : ℕ) → x < letters c → p < n_of c → s.matrix + (x * s.n + p) * s.n + s.n ≤ s.size
  unfolding letters
  row_ends x p lx lp =
      let lx' : x < s.letters = rw h.letters_is lx in
      let lp' : p < s.n = rw h.n_is lp in
      let inside : x * s.n + p < s.letters * s.n = digits_lt lx' lp' in
      let l : (x * s.n + p) * s.n + s.n ≤ s.letters * s.n * s.n = omega (arith, suc-mul (x * s.n + p) s.n, mul-le-mul_right s.n inside) in
      let m : s.size ≡ s.matrix + s.letters * s.n * s.n = rw (h.size_is, h.matrix_is, h.letters_is, h.n_is) in
      omega arith

  pub row_part : (x p : ℕ) {v : List ℕ} → x < letters c → p < n_of c → v ≡ take s.n (drop (s.matrix + (x * s.n + p) * s.n) c) → Part c (row_of c x p) v
  unfolding row_of entry
  row_part x p lx lp =
      part_at (s.matrix + (x * s.n + p) * s.n) (entry c x p) (let b : head_size ≤ s.matrix = rw h.matrix_is (omega arith) in omega arith)
      (row_ends x p lx lp)
      (λ q l. rw (h.matrix_is, h.n_is, add_assoc (matrix_from c) ((x * n_of c + p) * n_of c) q))
