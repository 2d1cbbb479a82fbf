-- Lent memory: what is written at the front of a buffer, and filling it with zeros. Assumes nothing.
use mathlib.Core.Path.{◌≡◌, refl, sym, ◌∙◌}
use mathlib.Core.List.{List, [], ◌∷◌, ◌++◌, append_assoc}
use Prim.Native.Nat.{ℕ, ◌+◌, ◌-◌, ◌≤◌, ◌<◌}
use native.Mathlib.Numerals.{add-one}
use native.Mathlib.Omega.{arith}
use lib.ListN.{length, get_or, drop, set, length-append, length-drop, get_or-append}
use native.Mathlib.Decide.{dec_lt}
use lib.Seq.{ext_get_or, set_at, drop-cons, get_or-drop, get_or-append-add}
use Rattle.paper.specs.Lists.{tabulate, in_front}
use Rattle.lists.proofs.ByPlace.{length_tabulate, get_or_tabulate}

-- ---- at the front

pub in_front_none : (old : List ℕ) → old ≡ in_front [] old
unfolding in_front
in_front_none old = refl

-- the buffer keeps its length
pub length_in_front : (new old : List ℕ) → length new ≤ length old → length (in_front new old) ≡ length old
unfolding in_front
length_in_front new old h = simp (length-append, length-drop) (omega arith)

-- the next byte
pub in_front_next : (new old : List ℕ) (a : ℕ) → length new < length old → set (in_front new old) (length new) a ≡ in_front (new ++ (a ∷ [])) old
unfolding in_front
in_front_next new old a h = rw (drop-cons old (length new) 0, set_at new _ _ a (length new) refl, append_assoc, length-append, add-one)

-- a tabulated list, one value further
pub in_front_tabulate : (f : ℕ → ℕ) (old : List ℕ) (i : ℕ) {out : List ℕ} {a : ℕ} → i < length old → out ≡ in_front (tabulate i f) old → a ≡ f i →
    set out i a ≡ in_front (tabulate (i + 1) f) old
unfolding tabulate
in_front_tabulate f old i h o e = rw (o, e, add-one, ← in_front_next (tabulate i f) old (f i) (rw length_tabulate h), length_tabulate)

-- what stands there: the new bytes, and behind them the old ones
pub get_or_in_front : (new old : List ℕ) (i : ℕ) → i < length new → get_or (in_front new old) i 0 ≡ get_or new i 0
unfolding in_front
get_or_in_front new old i h = get_or-append new (drop (length new) old) 0 i h

pub get_or_behind : (new old : List ℕ) (i : ℕ) → length new ≤ i → get_or (in_front new old) i 0 ≡ get_or old i 0
unfolding in_front
get_or_behind new old i h =
    let q : i ≡ length new + (i - length new) = omega arith in
    rw (q, get_or-append-add, get_or-drop)

-- a buffer whose first n bytes are f 0, .., f (n - 1) has them at its front
pub front_is : (n : ℕ) (old : List ℕ) (f : ℕ → ℕ) → n ≤ length old → ((q : ℕ) → q < n → get_or old q 0 ≡ f q) → old ≡ in_front (tabulate n f) old
front_is n old f h e =
    ext_get_or
    0
    old
    (in_front (tabulate n f) old)
    (sym (length_in_front (tabulate n f) old (rw length_tabulate h)))
    (λ i l. at i (dec_lt i n))
  where
    at : (i : ℕ) → Dec (i < n) → get_or old i 0 ≡ get_or (in_front (tabulate n f) old) i 0
    at i (yes l) = e i l ∙ sym (get_or_in_front (tabulate n f) old i (rw length_tabulate l) ∙ get_or_tabulate n f 0 i l)
    at i (no l) = sym (get_or_behind (tabulate n f) old i (rw length_tabulate (omega arith)))

-- ---- zeros
