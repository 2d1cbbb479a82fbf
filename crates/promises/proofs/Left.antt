-- What the builders leave, by their contracts, grades every word as the chart does, and what the sheet check accepts does too. Assumes nothing.
use mathlib.Core.Path.{◌≡◌, sym, ap, ◌∙◌, subst}
use mathlib.Core.List.{List}
use Prim.Native.Nat.{ℕ, ◌≤◌}
use Rattle.paper.specs.Reply.{Reply}
use Rattle.replies.specs.Replies.{verdict_said}
use Rattle.replies.specs.Replies.{accepted as yes}
use Rattle.paper.specs.Chart.{letters}
use Rattle.paper.specs.Builders.{Forward, Backward, nerode, reduced}
use Rattle.paper.specs.Constructions.{Construction, nerode_by, reduced_by}
use Rattle.promises.specs.Faithful.{answered, SameVector, SameAfterLetters}
use Rattle.promises.specs.Demands.{Builder, ForwardFaithful}
use Rattle.promises.specs.Left.{GradesAll, ForwardLeaves, BrzozowskiLeaves, AcceptsTrue, AcceptsHonest, AcceptsNoFalse}
use Rattle.replies.proofs.Said.{verdict_one}
use Rattle.algebra.proofs.SheetSound.{accepted}
use Rattle.algebra.proofs.Tables.{chart_letters}
use Rattle.promises.proofs.Forward.{nerode_faithful, reduced_faithful}
use Rattle.promises.proofs.Backward.{brzozowski_faithful, brzozowski_smallest}
use Rattle.promises.proofs.Sheets.{sheet_sound, sheet_complete}

-- ---- the builders

-- a faithful builder's contract leaves a faithful table
leaves : (build : Builder) (by : List ℕ → Construction) (alike : List ℕ → List ℕ → List ℕ → Type 0) → ForwardFaithful build by alike → ForwardLeaves build
leaves build by alike faithful c room table vectors left kept count e =
    subst (GradesAll c) (sym (ap (λ (o : Forward). o.table) e))
    (faithful c room table vectors (sym (ap (λ (o : Forward). o.reply.0) e))).grades

pub nerode_leaves : ForwardLeaves nerode
nerode_leaves = leaves nerode nerode_by SameVector nerode_faithful

pub reduced_leaves : ForwardLeaves reduced
reduced_leaves = leaves reduced reduced_by SameAfterLetters reduced_faithful

pub brzozowski_leaves : BrzozowskiLeaves
brzozowski_leaves c room reverseRoom lent left count reverse e =
    let done = sym (ap (λ (o : Backward). o.reply.0) e) in (
      subst (GradesAll c) (sym (ap (λ (o : Backward). o.left.table) e)) (brzozowski_faithful c room reverseRoom lent done).grades,
      λ rows fewer top fits graded.
          subst
          (λ (n : ℕ). n ≤ fewer)
          (sym (ap (λ (o : Backward). answered o.reply 0) e))
          (brzozowski_smallest c room reverseRoom lent done rows fewer top fits graded),
    )

-- ---- the sheet check

pub sheet_accepts_true : AcceptsTrue
sheet_accepts_true c rows count m sheet lines r e a u w =
    let zero = ap (λ (o : Reply). o.0) (sym e ∙ ap verdict_said a) in
    let same : m ≡ letters c = chart_letters c rows count m (accepted c rows count m sheet lines zero).table in
    rw (← same) (sheet_sound c rows count m sheet lines zero u (rw same w))

pub sheet_accepts_honest : AcceptsHonest
sheet_accepts_honest c rows count m sheet lines r e right honest =
    verdict_one r yes (e ∙ sheet_complete c rows count m sheet lines right honest)

pub sheet_accepts_no_false : AcceptsNoFalse
sheet_accepts_no_false c rows count m sheet lines r e u w differ a = differ (sheet_accepts_true c rows count m sheet lines r e a u w)
