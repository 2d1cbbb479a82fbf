-- The number of a key and the comparison of two slices, as their loops work them out. Assumes nothing.
use mathlib.Core.Path.{◌≡◌, sym, ap, ◌∙◌}
use mathlib.Core.Bool.{false}
use mathlib.Core.List.{List}
use Prim.Native.Nat.{ℕ, ◌+◌, ◌*◌, ◌%◌}
use native.Mathlib.Nat.{mod-add-mod}
use native.Mathlib.Numerals.{add-one}
use lib.ListN.{length, get_or}
use Rattle.paper.specs.Lists.{same_list}
use Rattle.lists.proofs.ByPlace.{same_not}
use Rattle.marks.specs.Marks.{mark_to, mark_of}

-- one byte more
pub mark_more : (key : List ℕ) (i : ℕ) {sum a : ℕ} → sum ≡ mark_to i key → a ≡ get_or key i 0 →
    ((sum * 33) % 4294967296 + a) % 4294967296 ≡ mark_to (i + 1) key
unfolding mark_to
mark_more key i {sum} {a} e f = mod-add-mod (sum * 33) 4294967296 a ∙ rw (add-one, e, f)

pub mark_all : (key : List ℕ) (i : ℕ) {sum : ℕ} → sum ≡ mark_to i key → i ≡ length key → sum ≡ mark_of key
unfolding mark_of
mark_all key i e q = e ∙ ap (λ n. mark_to n key) q

-- other numbers: other keys
pub unmarked : (a b : List ℕ) {m n : ℕ} → m ≡ mark_of a → n ≡ mark_of b → (m ≡ n → ⊥) → false ≡ same_list a b
unmarked a b p q f = sym (same_not a b (λ e. f (p ∙ ap mark_of e ∙ sym q)))
