-- The index of the lines: filling it, and looking a pair up along a chain. Assumes nothing.
use mathlib.Core.Path.{◌≡◌, refl, sym, ap, ◌∙◌}
use mathlib.Core.Bool.{Bool, true, false, not}
use mathlib.Core.List.{List}
use Prim.Native.Nat.{ℕ, suc, ◌+◌, ◌*◌, ◌<◌}
use native.Mathlib.Omega.{arith}
use lib.ListN.{length, get_or}
use lib.Dec.{eqb}
use borrow.Author.Tests.{eqb-true, eq-eqb}
use Rattle.paper.specs.Lists.{both, same_list}
use Rattle.paper.specs.Chart.{n_of}
use Rattle.paper.specs.Sheets.{line_size, line_at, line_state, line_vector, other_pair, on_sheet}
use Rattle.lists.proofs.Tests.{all_by, all_fails, both_split, both_true}
use Rattle.lists.proofs.ByPlace.{same_true, same_false, same_by, get_or_part}
use Rattle.marks.specs.Marks.{mark_of}
use Rattle.marks.specs.Chains.{bucket_of, Chained}
use Rattle.marks.specs.declared.chains.Index.{Index}
use Rattle.marks.proofs.ChainLaws.{OnChain, NoneFrom, start_on, next_on, none_start, none_next}
use Rattle.lines.specs.Readable.{LinesIn, Indexed, pair_state, pair_vector}
use Rattle.lines.proofs.Reading.{line_in}
use Rattle.lines.proofs.PairBytes.{line_state_lem, line_vector_lem, line_pair}

-- ---- filling

-- the lines before i are in the index
pub record Indexing (c sheet : List ℕ) (index : Index) (i : ℕ) : Type 0 where
  pub chained : Chained index i
  pub numbered : (j : ℕ) → j < i → get_or index.marks j 0 ≡ mark_of (line_at c sheet j)

-- ---- looking a pair up

-- the entry p that the search has come to, and that no line from there on holds the pair
pub record Looking (c sheet : List ℕ) (lines : ℕ) (marks : List ℕ) (number : ℕ) (pair : List ℕ) (p : ℕ) : Type 0 where
  pub on : OnChain marks lines number p
  pub past : NoneFrom (λ t. line_at c sheet t ≡ pair) p lines

module _ {c sheet : List ℕ} {lines : ℕ} {index : Index} (h : Indexed c sheet lines index) {number : ℕ} (pair : List ℕ) (n : number ≡ mark_of pair) where
  same_number : (t : ℕ) → t < lines → line_at c sheet t ≡ pair → get_or index.marks t 0 ≡ number
  same_number t b q = h.numbered t b ∙ ap mark_of q ∙ sym n

  pub looking_start : {p : ℕ} → p ≡ get_or index.heads (bucket_of number) 0 → Looking c sheet lines index.marks number pair p
  looking_start e = record { on = start_on h.chained number e; past = none_start h.chained number _ same_number e }

  pub looking_next : {p i q : ℕ} {t : Bool} → Looking c sheet lines index.marks number pair p → suc i ≡ p → t ≡ same_list (line_at c sheet i) pair → t ≡ false → q ≡ get_or index.links i 0 →
      Looking c sheet lines index.marks number pair q
  looking_next {i = i} k f r w e =
      record {
        on = next_on h.chained number k.on f e;
        past = none_next h.chained number _ same_number k.on f e k.past (λ _. same_false (line_at c sheet i) pair (sym r ∙ w));
      }

module _ {c sheet : List ℕ} {lines : ℕ} (h : LinesIn c sheet lines) (pair : List ℕ) where
  pub found : (i : ℕ) → i < lines → {t : Bool} → t ≡ same_list (line_at c sheet i) pair → t ≡ true → true ≡ on_sheet c sheet lines (pair_state pair) (pair_vector pair)
  unfolding on_sheet other_pair
  found i b r w =
      let e : line_at c sheet i ≡ pair = same_true (line_at c sheet i) pair (sym r ∙ w) in
      let q = both_true _ _ (eq-eqb _ _ (line_state_lem (line_in h b) pair e)) (same_by _ _ (line_vector_lem (line_in h b) pair e)) in
      rw (all_fails (other_pair c sheet (pair_state pair) (pair_vector pair)) lines i b (ap not q))

  module _ (l : length pair ≡ 2 + n_of c) (bytes : (j : ℕ) → get_or sheet j 0 < 256) (low : get_or pair 1 0 < 256) where
    second_low : (t : ℕ) → get_or (line_at c sheet t) 1 0 < 256
    unfolding line_at
    second_low t = rw (get_or_part (line_size c) t sheet 0 1 (omega arith)) (bytes (t * line_size c + 1))

    other : (t : ℕ) → t < lines → (line_at c sheet t ≡ pair → ⊥) → other_pair c sheet (pair_state pair) (pair_vector pair) t ≡ true
    unfolding other_pair
    other t b f = go (both (eqb (line_state c sheet t) (pair_state pair)) (same_list (line_vector c sheet t) (pair_vector pair))) refl
      where
        go : (a : Bool) → both (eqb (line_state c sheet t) (pair_state pair)) (same_list (line_vector c sheet t) (pair_vector pair)) ≡ a → not a ≡ true
        go true q =
            let e = both_split _ _ q in
            absurd (f (line_pair (line_in h b) pair l (second_low t) low (eqb-true _ _ e.0) (same_true _ _ e.1)))
        go false q = refl

    pub nowhere : NoneFrom (λ t. line_at c sheet t ≡ pair) 0 lines → false ≡ on_sheet c sheet lines (pair_state pair) (pair_vector pair)
    unfolding on_sheet
    nowhere none = rw (all_by (other_pair c sheet (pair_state pair) (pair_vector pair)) lines (λ t b. other t b (none t (omega arith) b)))
