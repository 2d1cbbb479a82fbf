-- General laws of lists that the library and the crate lists do not have. Assumes nothing.
use mathlib.Core.Path.{◌≡◌, refl, sym, ap, ◌∙◌, subst}
use mathlib.Core.List.{List, [], ◌∷◌, ◌++◌, append_assoc}
use Prim.Native.Nat.{ℕ, zero, suc, ◌+◌, ◌<◌}
use native.Mathlib.Omega.{arith}
use lib.ListN.{length, get_or, take, drop, length-append}
use lib.Seq.{take-suc, take-take, take-add, take-append_seam, drop-append_seam}
use Rattle.paper.specs.Lists.{tabulate}

-- the first value in front
pub tabulate_cons {ℓ} : {X : Type ℓ} (n : ℕ) (f : ℕ → X) → tabulate (suc n) f ≡ f 0 ∷ tabulate n (λ i. f (suc i))
unfolding tabulate
tabulate_cons zero f = refl
tabulate_cons {X} (suc n) f = ap (λ (l : List X). l ++ (f (suc n) ∷ [])) (tabulate_cons n f)

-- two elements more
pub take_two : (l : List ℕ) (n : ℕ) → suc n < length l → take (suc (suc n)) l ≡ take n l ++ (get_or l n 0 ∷ get_or l (suc n) 0 ∷ [])
take_two l n h =
    take-suc l (suc n) 0 h ∙ rw (take-suc l n 0 (omega arith)) (append_assoc (take n l) (get_or l n 0 ∷ []) (get_or l (suc n) 0 ∷ []))

-- a list that begins with two others, one behind the other
pub begins : (c done p : List ℕ) → take (length (done ++ p)) c ≡ done ++ p → (take (length done) c ≡ done) × (take (length p) (drop (length done) c) ≡ p)
begins c done p e =
    let n : length (done ++ p) ≡ length done + length p = length-append done p in
    let a : take (length done) c ≡ done = sym (take-take (length done) (length (done ++ p)) c (omega arith)) ∙ ap (λ (l : List ℕ). take (length done) l) e ∙ take-append_seam done p in
    let b : done ++ take (length p) (drop (length done) c) ≡ done ++ p = subst (λ (l : List ℕ). l ++ take (length p) (drop (length done) c) ≡ done ++ p) a (sym (take-add (length done) (length p) c) ∙ ap (λ (k : ℕ). take k c) (sym n) ∙ e) in
    (a, sym (drop-append_seam done (take (length p) (drop (length done) c))) ∙ ap (λ (l : List ℕ). drop (length done) l) b ∙ drop-append_seam done p)
