-- The first words of a faithful table's states: where they lead, and that the values kept are theirs. Assumes nothing.
use mathlib.Core.Path.{◌≡◌, sym, ap, ◌∙◌}
use mathlib.Core.List.{List, [], reverse}
use Prim.Native.Nat.{ℕ, ◌<◌}
use native.Mathlib.Decide.{dec_lt}
use native.Mathlib.Omega.{arith}
use lib.ListN.{length, get_or, length-map}
use Rattle.paper.specs.Words.{Word, after}
use Rattle.paper.specs.Chart.{k_of, letters}
use Rattle.paper.specs.Vectors.{vector_of, grade_of, reverse_of}
use Rattle.paper.specs.Tables.{state_of}
use Rattle.paper.specs.Constructions.{Construction, nerode_by, reduced_by, reverse_by}
use Rattle.paper.specs.Builders.{nerode, reduced, brzozowski}
use Rattle.lists.proofs.ByPlace.{length_tabulate, get_or_tabulate}
use Rattle.numbering.specs.Numbered.{word_key}
use Rattle.numbering.proofs.Order.{before_irrefl, before_upto}
use Rattle.numbering.proofs.ListLaws.{get_or_map}
use Rattle.numbering.proofs.TableFits.{state_low}
use Rattle.algebra.proofs.Tables.{chart_table}
use Rattle.promises.specs.Faithful.{Result, Faithful, SameVector, SameAfterLetters, SameReverse, KeepsFirst}
use Rattle.promises.specs.Demands.{ForwardKeeps, OnceBuilt, ReverseKeeps}
use Rattle.promises.proofs.Forward.{nerode_faithful, reduced_faithful}
use Rattle.promises.proofs.Backward.{reverse_faithful}

-- ---- for any construction

module _ (c : List ℕ) (b : Construction) (grade : List ℕ → ℕ) (alike : List ℕ → List ℕ → Type 0) (t : Result) (f : Faithful c b grade alike t) where
  -- the key of a word
  abbrev key_of : List ℕ → List ℕ
  key_of u = word_key b.key b.step b.first u

  -- the first word of a state
  abbrev pub first : ℕ → List ℕ
  first s = get_or f.numbered.words s []

  count_words : length f.numbered.words ≡ t.count
  count_words = sym (length-map f.numbered.words (after b.step b.first)) ∙ sym (ap length f.numbered.values) ∙ length_tabulate t.count t.value

  pub first_word : (s : ℕ) → s < t.count → Word (letters c) (first s)
  first_word s h = f.numbered.letters s (omega (arith, count_words))

  -- the value behind a state is its first word's
  pub first_value : (s : ℕ) → s < t.count → t.value s ≡ after b.step b.first (first s)
  first_value s h =
      sym (get_or_tabulate t.count t.value [] s h)
      ∙ ap (λ (vs : List (List ℕ)). get_or vs s []) f.numbered.values
      ∙ get_or_map (after b.step b.first) f.numbered.words s (omega (arith, count_words))

  first_key : (s : ℕ) → s < t.count → b.key (t.value s) ≡ key_of (first s)
  first_key s h = ap b.key (first_value s h)

  -- no two states have one key
  apart : (i j : ℕ) → i < j → j < t.count → b.key (t.value i) ≡ b.key (t.value j) → ⊥
  apart i j o h e =
      let l : j < length f.numbered.words = omega (arith, count_words) in
      before_irrefl
      (first i)
      (before_upto
      (first i)
      (first j)
      (first i)
      (f.numbered.rising i j o l)
      (f.numbered.first j l (first i) (first_word i (omega arith)) (sym (first_key i (omega arith)) ∙ e ∙ first_key j h)))

  one_state : (i j : ℕ) → i < t.count → j < t.count → b.key (t.value i) ≡ b.key (t.value j) → i ≡ j
  one_state i j h k e = go (dec_lt i j) (dec_lt j i)
    where
      go : Dec (i < j) → Dec (j < i) → i ≡ j
      go (yes o) d = absurd (apart i j o k e)
      go (no o) (yes d) = absurd (apart j i d h (sym e))
      go (no o) (no d) = omega arith

  pub reached_low : (u : List ℕ) → Word (letters c) u → state_of t.table (letters c) u < t.count
  reached_low = state_low t.table t.count (letters c) (k_of c) (chart_table c t.table t.count (letters c) f.fits)

  -- a word leads to the state of its key
  pub reached : (u : List ℕ) → Word (letters c) u → (s : ℕ) → s < t.count → b.key (t.value s) ≡ key_of u → state_of t.table (letters c) u ≡ s
  reached u w s h e = one_state (state_of t.table (letters c) u) s (reached_low u w) h (f.leads u w ∙ sym e)

  pub first_state : (s : ℕ) → s < t.count → state_of t.table (letters c) (first s) ≡ s
  first_state s h = reached (first s) (first_word s h) s h (first_key s h)

  pub keeps_first : KeepsFirst c (after b.step b.first) t
  keeps_first s h = (
    first s,
    ((first_word s h, first_state s h, λ u w e. f.numbered.first s (omega (arith, count_words)) u w (same_key u w e)), first_value s h),
  )
    where
      same_key : (u : List ℕ) → Word (letters c) u → state_of t.table (letters c) u ≡ s → key_of u ≡ key_of (first s)
      same_key u w e = sym (f.leads u w) ∙ ap (λ (s : ℕ). b.key (t.value s)) e ∙ first_key s h

-- ---- the vectors that the calls keep

pub nerode_keeps_first : ForwardKeeps nerode
unfolding vector_of
nerode_keeps_first c room table vectors e = keeps_first c (nerode_by c) (grade_of c) (SameVector c) _ (nerode_faithful c room table vectors e)

pub reduced_keeps_first : ForwardKeeps reduced
unfolding vector_of
reduced_keeps_first c room table vectors e = keeps_first c (reduced_by c) (grade_of c) (SameAfterLetters c) _ (reduced_faithful c room table vectors e)

pub reverse_keeps_first : OnceBuilt brzozowski ReverseKeeps
unfolding reverse_of
reverse_keeps_first c room reverseRoom l e =
    keeps_first c (reverse_by c) (λ w. grade_of c (reverse w)) (SameReverse c) _ (reverse_faithful c room reverseRoom l e)
