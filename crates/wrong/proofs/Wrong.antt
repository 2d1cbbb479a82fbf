-- No program that demands 2 and 3 hold of, and none that meets a builder's contract, is one of the wrong ones that document 01 names: two charts tell each of them. Assumes nothing.
use mathlib.Core.Path.{◌≡◌, refl, sym, ap, subst, ◌∙◌}
use mathlib.Core.List.{List, [], ◌∷◌}
use Prim.Native.Nat.{ℕ, ◌≤◌, ◌<◌}
use native.Mathlib.Omega.{arith}
use lib.ListN.{get_or}
use Rattle.paper.specs.Words.{Word}
use Rattle.paper.specs.Reply.{Reply}
use Rattle.paper.specs.Chart.{k_of, letters}
use Rattle.paper.specs.Vectors.{grade_of}
use Rattle.paper.specs.Tables.{row_size, grade_at, next_at, table_fits_chart, state_of, table_grade}
use Rattle.paper.specs.Constructions.{Construction, nerode_by, reduced_by}
use Rattle.paper.specs.Builders.{nerode, reduced, Lent, brzozowski, blank, blank_table, blank_vectors}
use Rattle.paper.specs.Figures.{chart_e, chart2, chart32}
use Rattle.paper.proofs.Figures.{definitions}
use Rattle.lists.proofs.Tests.{both_split}
use Rattle.lists.proofs.ByPlace.{get_or_part}
use Rattle.promises.specs.Faithful.{of_forward, EveryWord, Faithful, SameVector, SameAfterLetters, SameFuture}
use Rattle.promises.specs.Demands.{Builder, ForwardBuilds, ForwardFaithful, BackwardBuilder, BackwardBuilds, OnceBuilt, RowsFaithful, Smallest}
use Rattle.promises.proofs.Exact.{nerode_builds, reduced_builds, brzozowski_builds}
use Rattle.promises.proofs.Forward.{nerode_faithful, reduced_faithful}
use Rattle.promises.proofs.Backward.{brzozowski_faithful, brzozowski_smallest}
use Rattle.promises.proofs.FirstWords.{reached_low}
use Rattle.promises.proofs.OneTable.{one_table}
use Rattle.promises.proofs.Together.{own_sheet_accepted}
use Rattle.wrong.specs.Wrong.{Builds, OfBuilt, OneFixedTable, WritesNothing, row_at, CopiesFirstRow, NoneOfFive, forward_call, ForwardShutsOut, ForwardContract, MergesOnce, backward_call, BackwardShutsOut, BackwardContract, SoundNotAll, CompleteNotNone}

-- ---- builders

-- a row's first byte is its state's grade
grade_in_row : (c left : List ℕ) (s : ℕ) → get_or (row_at c left s) 0 0 ≡ grade_at left (letters c) s
grade_in_row c left s = get_or_part (row_size (letters c)) s left 0 0 (omega arith) ∙ ap (λ (i : ℕ). get_or left i 0) (omega arith)

-- the word 0 is one of E's
letter_word : Word (letters chart_e) (0 ∷ [])
unfolding definitions
letter_word = (omega arith, tt)

-- what p answers for a chart and six states, in a table of 30 zeros
module _ (p : Builds) (c : List ℕ) where
  abbrev built : Type 0
  built = (p c 6 (blank 30)).0.0 ≡ 0

  abbrev count : ℕ
  count = get_or (p c 6 (blank 30)).0.1 0 0

  abbrev left : List ℕ
  left = (p c 6 (blank 30)).1

-- E grades the empty word 0 and the word 0 with 1; document 001's example 2 grades the empty word 2
module _ (p : Builds) (built-e : built p chart_e) (built-o : built p chart2)
    (grades-e : EveryWord chart_e (λ u. table_grade (left p chart_e) (letters chart_e) u ≡ grade_of chart_e u))
    (grades-o : EveryWord chart2 (λ u. table_grade (left p chart2) (letters chart2) u ≡ grade_of chart2 u))
    (reached-e : state_of (left p chart_e) (letters chart_e) (0 ∷ []) < count p chart_e) (other : count p chart_e ≡ count p chart2 → ⊥)
  where
    empty_e : table_grade (left p chart_e) 2 [] ≡ 0
    unfolding definitions
    empty_e = grades-e [] tt

    letter_e : table_grade (left p chart_e) 2 (0 ∷ []) ≡ 1
    unfolding definitions
    letter_e = grades-e (0 ∷ []) letter_word

    empty_o : table_grade (left p chart2) 2 [] ≡ 2
    unfolding definitions
    empty_o = grades-o [] tt

    fixed : (rows : List ℕ) → ¬ OfBuilt p (OneFixedTable rows)
    fixed rows w =
        let same : left p chart_e ≡ left p chart2 = w chart_e 6 (blank 30) built-e ∙ sym (w chart2 6 (blank 30) built-o) in
        let z : ◌≡◌ {A = ℕ} 0 2 = sym empty_e ∙ ap (λ (l : List ℕ). table_grade l 2 []) same ∙ empty_o in
        absurd (omega (arith, z))

    unwritten : ¬ OfBuilt p WritesNothing
    unfolding definitions
    unwritten w =
        let z : ◌≡◌ {A = ℕ} 1 0 = sym letter_e ∙ ap (λ (l : List ℕ). table_grade l 2 (0 ∷ [])) (w chart_e 6 (blank 30) built-e) in
        absurd (omega (arith, z))

    copied : ¬ OfBuilt p CopiesFirstRow
    unfolding definitions
    copied w =
        let s = state_of (left p chart_e) 2 (0 ∷ []) in
        let row : row_at chart_e (left p chart_e) s ≡ row_at chart_e (left p chart_e) 0 = w chart_e 6 (blank 30) built-e s reached-e in
        let z : ◌≡◌ {A = ℕ} 1 0 =
        sym letter_e ∙ sym (grade_in_row chart_e (left p chart_e) s)
        ∙ ap (λ (l : List ℕ). get_or l 0 0) row
        ∙ grade_in_row chart_e (left p chart_e) 0 ∙ empty_e in
        absurd (omega (arith, z))

    none_of_five : NoneOfFive p
    none_of_five =
        record {
          refuses_all = λ w. w chart_e 6 (blank 30) built-e;
          one_fixed_table = fixed;
          writes_nothing = unwritten;
          copies_first_row = copied;
          invents_count = λ invented w. other (w chart_e 6 (blank 30) built-e ∙ sym (w chart2 6 (blank 30) built-o));
        }

-- a program that demand 2 holds of builds where the call does, and counts as it does
module _ (by : List ℕ → Construction) (alike : List ℕ → List ℕ → List ℕ → Type 0) (b p : Builder) (b-builds : ForwardBuilds b by)
    (b-faithful : ForwardFaithful b by alike) (p-builds : ForwardBuilds p by) (p-faithful : ForwardFaithful p by alike) (c : List ℕ)
    (at : built (forward_call b) c)
  where
    built_too : built (forward_call p) c
    built_too = (p-builds c 6 (blank 30) (blank_vectors 6)).1 ((b-builds c 6 (blank 30) (blank_vectors 6)).0 at)

    faithful_too : Faithful c (by c) (grade_of c) (alike c) (of_forward c (p c 6 (blank 30) (blank_vectors 6)))
    faithful_too = p-faithful c 6 (blank 30) (blank_vectors 6) built_too

    counted_too : count (forward_call p) c ≡ count (forward_call b) c
    counted_too = (one_table c (by c) (grade_of c) (alike c) _ _ faithful_too (b-faithful c 6 (blank 30) (blank_vectors 6) at)).0

-- so where the call's own counts for E and for the example differ, it is none of the five
module _ (by : List ℕ → Construction) (alike : List ℕ → List ℕ → List ℕ → Type 0) (b : Builder) (b-builds : ForwardBuilds b by)
    (b-faithful : ForwardFaithful b by alike) (at-e : built (forward_call b) chart_e) (at-o : built (forward_call b) chart2)
    (other : count (forward_call b) chart_e ≡ count (forward_call b) chart2 → ⊥)
  where
    shuts_out : ForwardShutsOut by alike
    shuts_out p p-builds p-faithful =
        let e = faithful_too by alike b p b-builds b-faithful p-builds p-faithful chart_e at-e in
        let o = faithful_too by alike b p b-builds b-faithful p-builds p-faithful chart2 at-o in
        none_of_five
        (forward_call p)
        (built_too by alike b p b-builds b-faithful p-builds p-faithful chart_e at-e)
        (built_too by alike b p b-builds b-faithful p-builds p-faithful chart2 at-o)
        e.grades
        o.grades
        (reached_low chart_e (by chart_e) (grade_of chart_e) (alike chart_e) _ e (0 ∷ []) letter_word)
        (λ q.
        other
        (sym (counted_too by alike b p b-builds b-faithful p-builds p-faithful chart_e at-e)
        ∙ q
        ∙ counted_too by alike b p b-builds b-faithful p-builds p-faithful chart2 at-o))

pub nerode_shuts_out : ForwardShutsOut nerode_by SameVector
unfolding definitions
nerode_shuts_out = shuts_out nerode_by SameVector nerode nerode_builds nerode_faithful refl refl (λ q. omega (arith, q))

pub reduced_shuts_out : ForwardShutsOut reduced_by SameAfterLetters
unfolding definitions
reduced_shuts_out = shuts_out reduced_by SameAfterLetters reduced reduced_builds reduced_faithful refl refl (λ q. omega (arith, q))

-- demand 2 holds of whatever meets the contract
contract : (by : List ℕ → Construction) (alike : List ℕ → List ℕ → List ℕ → Type 0) (call : Builder) → ForwardBuilds call by →
    ForwardFaithful call by alike → ForwardShutsOut by alike → ForwardContract call
contract by alike call builds faithful shuts p meets =
    let same : call ≡ p = λ i c room table vectors. sym (meets c room table vectors) i in
    shuts p (subst (λ (q : Builder). ForwardBuilds q by) same builds) (subst (λ (q : Builder). ForwardFaithful q by alike) same faithful)

pub nerode_contract : ForwardContract nerode
nerode_contract = contract nerode_by SameVector nerode nerode_builds nerode_faithful nerode_shuts_out

pub reduced_contract : ForwardContract reduced
reduced_contract = contract reduced_by SameAfterLetters reduced reduced_builds reduced_faithful reduced_shuts_out

-- the reduced table of document 000's example 3.2
abbrev merged : List ℕ
merged = (reduced chart32 4 (blank 12) (blank_vectors 4)).table

-- its states 2 and 3 have one grade and the same next states
next_alike : (x : ℕ) → x < 1 → next_at merged 1 2 x ≡ next_at merged 1 3 x
unfolding definitions
next_alike x l =
    let first : x ≡ 0 = omega arith in
    subst (λ (i : ℕ). next_at merged 1 2 i ≡ next_at merged 1 3 i) (sym first) refl

pub reduced_merges_once : MergesOnce
unfolding definitions
reduced_merges_once p p-builds p-faithful w =
    let at = (p-builds chart32 4 (blank 12) (blank_vectors 4)).1 ((reduced_builds chart32 4 (blank 12) (blank_vectors 4)).0 refl) in
    let same =
    one_table
    chart32
    (reduced_by chart32)
    (grade_of chart32)
    (SameAfterLetters chart32)
    (of_forward chart32 (reduced chart32 4 (blank 12) (blank_vectors 4)))
    _
    (reduced_faithful chart32 4 (blank 12) (blank_vectors 4) refl)
    (p-faithful chart32 4 (blank 12) (blank_vectors 4) at) in
    let two = same.1 2 (omega arith) in
    let three = same.1 3 (omega arith) in
    w chart32 4 (blank 12) at 2 3 (omega arith) (subst (λ (n : ℕ). 3 < n) same.0 (omega arith)) (sym two.1 ∙ three.1)
    (λ x l. sym (two.2 x l) ∙ next_alike x l ∙ three.2 x l)

-- ---- the Brzozowski call

-- what it is lent beside the table
abbrev lent : Lent
lent = record { table = blank 30; reverse_table = blank_table 8; reverse_vectors = blank_vectors 8; rows = blank 56 }

-- a program whose tables are faithful and smallest counts at least the call's states for E, and at most those for the example
module _ (p : BackwardBuilder) (builds : BackwardBuilds p) (faithful : OnceBuilt p RowsFaithful) (smallest : OnceBuilt p Smallest) where
  module _ (c : List ℕ) (at : built (backward_call brzozowski) c) where
    rows_built : built (backward_call p) c
    rows_built = (builds c 6 8 lent).1 ((brzozowski_builds c 6 8 lent).0 at)

    rows_faithful : RowsFaithful c 8 (p c 6 8 lent)
    rows_faithful = faithful c 6 8 lent rows_built

    fewer : count (backward_call brzozowski) c ≤ count (backward_call p) c
    unfolding table_fits_chart
    fewer = brzozowski_smallest c 6 8 lent at _ _ (k_of c) (both_split _ _ rows_faithful.fits).1 rows_faithful.grades

    more : count (backward_call p) c ≤ count (backward_call brzozowski) c
    unfolding table_fits_chart
    more =
        let f = brzozowski_faithful c 6 8 lent at in
        smallest c 6 8 lent rows_built _ _ (k_of c) (both_split _ _ f.fits).1 f.grades

  rows_none_of_five : built (backward_call brzozowski) chart_e → built (backward_call brzozowski) chart2 →
      count (backward_call brzozowski) chart2 < count (backward_call brzozowski) chart_e → NoneOfFive (backward_call p)
  rows_none_of_five at-e at-o less =
      let e = rows_faithful chart_e at-e in
      none_of_five
      (backward_call p)
      (rows_built chart_e at-e)
      (rows_built chart2 at-o)
      e.grades
      (rows_faithful chart2 at-o).grades
      (reached_low chart_e _ (grade_of chart_e) (SameFuture chart_e) _ e (0 ∷ []) letter_word)
      (λ q. absurd (omega (arith, q, less, fewer chart_e at-e, more chart2 at-o)))

pub brzozowski_shuts_out : BackwardShutsOut
unfolding definitions
brzozowski_shuts_out p builds faithful smallest = rows_none_of_five p builds faithful smallest refl refl (omega arith)

pub brzozowski_contract : BackwardContract brzozowski
brzozowski_contract p meets =
    let same : brzozowski ≡ p = λ i c room reverseRoom l. sym (meets c room reverseRoom l) i in
    brzozowski_shuts_out
    p
    (subst BackwardBuilds same brzozowski_builds)
    (subst (λ (q : BackwardBuilder). OnceBuilt q RowsFaithful) same brzozowski_faithful)
    (subst (λ (q : BackwardBuilder). OnceBuilt q Smallest) same brzozowski_smallest)

-- ---- sheet checks

-- a table of zeros grades E's word 0 wrong
pub sheet_not_all : SoundNotAll
unfolding definitions
sheet_not_all check sound accepts =
    let z : ◌≡◌ {A = ℕ} 0 1 = sound chart_e (blank 15) 3 2 [] 0 (accepts chart_e (blank 15) 3 2 [] 0) (0 ∷ []) letter_word in
    absurd (omega (arith, z))

-- E's Nerode table has its own sheet
pub sheet_not_none : CompleteNotNone
unfolding definitions
sheet_not_none check complete refuses =
    refuses _ _ _ _ _ _ (ap (λ (r : Reply). r.0) (own_sheet_accepted check complete chart_e 6 (blank 30) (blank_vectors 6) refl))
