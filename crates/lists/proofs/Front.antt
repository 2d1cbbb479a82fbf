-- A buffer that is written from its front on, one element after the other or one list after the other. Assumes nothing.
use mathlib.Core.Path.{◌≡◌, refl, sym, ap, ◌∙◌}
use mathlib.Core.Bool.{Bool, true}
use mathlib.Core.List.{List, ◌++◌, append_assoc, append-nil}
use Prim.Native.Nat.{ℕ, suc, ◌+◌, ◌-◌, ◌≤◌, ◌<◌}
use native.Mathlib.Nat.{le_refl}
use native.Mathlib.Numerals.{add-one}
use native.Mathlib.Omega.{arith}
use lib.ListN.{length, get_or, take, drop, set, length-append, length-drop, drop_of_length-le}
use lib.Seq.{take-suc, drop-cons, drop-append-add, drop-drop, set_at, take_all, take-length, take_at, drop_at, length-take-le, append_snoc}
use borrow.Rule.Slice.PartMut.{mid_of, put_mid}
use Rattle.paper.specs.Lists.{pick, in_front}
use Rattle.lists.proofs.Tests.{pick_true}

-- the first i elements of a list in front of a buffer
unfoldable pub begun : List ℕ → List ℕ → ℕ → List ℕ
begun new old i = take i new ++ drop i old

pub begun_none : (new old : List ℕ) → old ≡ begun new old 0
unfolding begun
begun_none new old = refl

-- one more of them
pub begun_more : (new old buf : List ℕ) (i x : ℕ) → i < length new → i < length old → buf ≡ begun new old i → x ≡ get_or new i 0 → set buf i x ≡ begun new old (i + 1)
unfolding begun
begun_more new old buf i x l h e q =
    rw (e, q, add-one, take-suc new i 0 l, drop-cons old i 0 h)
    (set_at (take i new) (get_or old i 0) (drop (suc i) old) (get_or new i 0) i (length-take-le i new (omega arith))
    ∙ sym (append_snoc (take i new) (get_or new i 0) (drop (suc i) old)))

-- all of them
pub begun_all : (new old : List ℕ) (i : ℕ) → i ≡ length new → begun new old i ≡ in_front new old
unfolding begun in_front
begun_all new old i q = rw (q, take-length)

-- ---- one list after the other

-- what is written in front of the part that is lent from behind a first list on stands behind that list
pub front_more : (done new old buf part : List ℕ) (at : ℕ) → at ≡ length done → buf ≡ in_front done old → part ≡ in_front new (mid_of at (length buf - at) buf) → put_mid at (length buf - at) buf part ≡ in_front (done ++ new) old
unfolding in_front
front_more done new old buf part at q e p =
    let all : length (drop at buf) ≤ length buf - at = rw length-drop (le_refl _) in
    rw
    (p, take_all _ _ all, drop_of_length-le _ all, append-nil, e, take_at done (drop (length done) old) at (sym q), drop_at done (drop (length done) old) at (sym q), drop-drop, length-append, append_assoc)

-- of a shorter list in front nothing is left
pub front_front : (new first old : List ℕ) → length first ≤ length new → in_front new (in_front first old) ≡ in_front new old
unfolding in_front
front_front new first old h =
    let n : length new ≡ length first + (length new - length first) = omega arith in
    ap (λ (l : List ℕ). new ++ l)
    (ap (λ (i : ℕ). drop i (first ++ drop (length first) old)) n
    ∙ drop-append-add first (drop (length first) old) (length new - length first)
    ∙ drop-drop (length new - length first) (length first) old
    ∙ ap (λ (i : ℕ). drop i old) (sym n))

-- a buffer that a call wrote where its test held
pub picked : (r : Bool) (buf new old : List ℕ) → buf ≡ pick r new old → r ≡ true → buf ≡ new
picked r buf new old e h = e ∙ pick_true r new old h
