-- The bytes of a pair: writing them, reading them back, and when a line holds them. Assumes nothing.
use mathlib.Core.Path.{◌≡◌, refl, sym, ap, ap₂, ◌∙◌}
use mathlib.Core.Bool.{Bool}
use mathlib.Core.List.{List, ◌++◌, append-nil}
use Prim.Native.Nat.{ℕ, zero, suc, ◌+◌, ◌-◌, ◌≤◌, ◌<◌}
use native.Mathlib.Omega.{arith}
use lib.ListN.{length, get_or, take, drop, drop_of_length-le}
use lib.Seq.{drop-drop, length-take-le, take_at, take_all, get_or-drop, ext_get_or}
use borrow.Rule.Slice.PartMut.{put_mid}
use Rattle.paper.specs.Lists.{in_front, zeros}
use Rattle.paper.specs.Chart.{n_of}
use Rattle.paper.specs.Tables.{two_bytes}
use Rattle.paper.specs.Sheets.{line_at, line_state, line_vector, on_sheet}
use Rattle.lines.specs.Readable.{LineIn, pair_state, pair_vector, pair_of}
use Rattle.lines.proofs.Reading.{line_length}

-- ---- writing a pair

-- two bytes, copied over the front, and the vector written behind them, into the part lent from place 2 on
module _ (old b v p : List ℕ) (l : 2 ≤ length old) where
  abbrev pub begun : List ℕ
  begun = b ++ drop 2 old

  pub pair_put : (s : ℕ) → b ≡ two_bytes s → p ≡ in_front v (take (length begun - 2) (drop 2 begun)) → put_mid 2 (length begun - 2) begun p ≡ in_front (pair_of s v) old
  unfolding in_front pair_of two_bytes
  pair_put s q e =
      let w : length (drop 2 old) ≤ suc (suc (length (drop 2 old))) - 2 = omega arith in
      let n : 2 + length v ≡ suc (suc (length v)) = omega arith in
      rw (e, q, take_all _ (drop 2 old) w, drop_of_length-le (drop 2 old) w, append-nil, drop-drop, n)

-- the two bytes of state 0
pub zero_bytes : (old : List ℕ) {b : List ℕ} → 2 ≤ length old → b ≡ zeros (take 2 old) → b ≡ two_bytes 0
unfolding two_bytes
zero_bytes old l e = e ∙ rw (length-take-le 2 old l)

-- ---- reading it back

module _ (s : ℕ) (v : List ℕ) where
  pub pair_state_lem : s < 65536 → pair_state (pair_of s v) ≡ s
  unfolding pair_of two_bytes
  pair_state_lem h = omega arith

  pub pair_vector_lem : pair_vector (pair_of s v) ≡ v
  unfolding pair_of two_bytes
  pair_vector_lem = refl

  length_pair : length (pair_of s v) ≡ 2 + length v
  unfolding pair_of two_bytes
  length_pair = omega arith

  module _ (n : ℕ) (l : length v ≡ n) (old out : List ℕ) (e : out ≡ in_front (pair_of s v) old) where
    pub pair_front : take (2 + n) out ≡ pair_of s v
    unfolding in_front
    pair_front = rw e (take_at (pair_of s v) (drop (length (pair_of s v)) old) (2 + n) (length_pair ∙ omega arith))

    -- what was looked up is the pair of s and v
    pub pair_said : (c sheet : List ℕ) (lines : ℕ) {r : Bool} → s < 65536 → r ≡ on_sheet c sheet lines (pair_state (take (2 + n) out)) (pair_vector (take (2 + n) out)) → r ≡ on_sheet c sheet lines s v
    pair_said c sheet lines h q =
        q ∙ ap (λ (p : List ℕ). on_sheet c sheet lines (pair_state p) (pair_vector p)) pair_front ∙ ap₂ (on_sheet c sheet lines) (pair_state_lem h) pair_vector_lem

-- ---- when a line holds it

module _ {c sheet : List ℕ} {i : ℕ} (h : LineIn c sheet i) (pair : List ℕ) where
  pub line_state_lem : line_at c sheet i ≡ pair → line_state c sheet i ≡ pair_state pair
  unfolding line_state
  line_state_lem e = ap pair_state e

  pub line_vector_lem : line_at c sheet i ≡ pair → line_vector c sheet i ≡ pair_vector pair
  unfolding line_vector
  line_vector_lem e = ap pair_vector e

  -- the second bytes are below 256, so two states agree only where both their bytes do
  pub line_pair : length pair ≡ 2 + n_of c → get_or (line_at c sheet i) 1 0 < 256 → get_or pair 1 0 < 256 → line_state c sheet i ≡ pair_state pair → line_vector c sheet i ≡ pair_vector pair →
      line_at c sheet i ≡ pair
  unfolding line_state line_vector
  line_pair l a b p q = ext_get_or 0 (line_at c sheet i) pair (line_length h ∙ sym l) (λ j _. at j)
    where
      at : (j : ℕ) → get_or (line_at c sheet i) j 0 ≡ get_or pair j 0
      at zero = omega arith
      at (suc zero) = omega arith
      at (suc (suc j)) =
          let e : suc (suc j) ≡ 2 + j = omega arith in
          rw e (sym (get_or-drop 2 (line_at c sheet i) j 0) ∙ ap (λ (v : List ℕ). get_or v j 0) q ∙ get_or-drop 2 pair j 0)
