-- What a search answers, values in their places, and the vector behind a state. Assumes nothing.
use Rattle.std.specs.Prelude.{Option, Some, None, MatchOption}
use mathlib.Core.Path.{◌≡◌, refl, ◌∙◌}
use mathlib.Core.Bool.{Bool, true, false}
use mathlib.Core.List.{List, []}
use Prim.Native.Nat.{ℕ, suc, ◌+◌, ◌-◌, ◌*◌, ◌/◌, ◌≤◌, ◌<◌}
use native.Mathlib.Nat.{div-lt_iff_lt-mul, le-div_iff_mul-le}
use native.Mathlib.Omega.{arith}
use lib.Dec.{leb, ltb}
use lib.ListN.{length, get_or, take, drop}
use borrow.Author.Tests.{lt-ltb, le-ltb, le-leb, lt-leb, ltb-true, ltb-false}
use Rattle.paper.specs.Lists.{both, pick, unless, part}
use Rattle.paper.specs.Builders.{vector_at}
use Rattle.lists.proofs.Tests.{both_false}
use Rattle.lists.proofs.ByPlace.{length_tabulate, get_or_tabulate}
use Rattle.places.specs.Search.{place_at, values, place_for}

-- ---- the answer of a search, from the place that it came to and back

pub answered_at : (n j i : ℕ) → j ≡ i → i < n → Some i ≡ place_for n j
answered_at n j i q l = simp (q, lt-ltb i n l)

pub answered_none : (n j : ℕ) → j ≡ n → None ≡ place_for n j
answered_none n j q = simp (q, le-ltb n n (omega arith))

-- the same, of an answer that is told by its cases
pub answered : (n j : ℕ) (r : Option ℕ) → MatchOption r (j ≡ n) (λ i. (i < n) × (j ≡ i)) → r ≡ place_for n j
answered n j None h = answered_none n j h
answered n j (Some i) h = answered_at n j i h.1 h.0

module _ (n j : ℕ) where
  pub answer_at : (i : ℕ) → place_for n j ≡ Some i → (j < n) × (j ≡ i)
  answer_at i h = go (ltb j n) refl h
    where
      go : (b : Bool) → ltb j n ≡ b → pick b (Some j) None ≡ Some i → (j < n) × (j ≡ i)
      go true q k = (ltb-true j n q, cc)
      go false q k = let z : ◌≡◌ {A = ℕ} 0 1 = cc in absurd (omega arith)

  pub answer_none : place_for n j ≡ None → n ≤ j
  answer_none h = go (ltb j n) refl h
    where
      go : (b : Bool) → ltb j n ≡ b → pick b (Some j) None ≡ None → n ≤ j
      go true q k = let z : ◌≡◌ {A = ℕ} 0 1 = cc in absurd (omega arith)
      go false q k = ltb-false j n q

-- ---- values in places

module _ (stride w held : ℕ) (xs : List ℕ) where
  pub length_values : length (values stride w held xs) ≡ held
  unfolding values
  length_values = length_tabulate held (place_at stride w xs)

  pub values_at : (s : ℕ) → s < held → get_or (values stride w held xs) s [] ≡ place_at stride w xs s
  unfolding values
  values_at s h = get_or_tabulate held (place_at stride w xs) [] s h

-- ---- the vector behind a state

module _ (xs : List ℕ) (n count s : ℕ) where
  pub none_state : count ≤ s → [] ≡ vector_at xs n count s
  unfolding vector_at both
  none_state h = simp (le-ltb s count h)

  pub none_wide : n ≡ 0 → [] ≡ vector_at xs n count s
  unfolding vector_at part
  none_wide e = rw e (go (both (ltb s count) (leb (suc s * 0) (length xs))))
    where
      go : (b : Bool) → [] ≡ unless b [] (take 0 (drop (s * 0) xs))
      go true = refl
      go false = refl

  pub none_whole : s < count → 0 < n → length xs / n ≤ s → [] ≡ vector_at xs n count s
  unfolding vector_at
  none_whole h p l = simp (lt-leb (suc s * n) (length xs) ((div-lt_iff_lt-mul p).0 (omega arith)), both_false)

  pub whole : 0 < n → s < length xs / n → suc s * n ≤ length xs
  whole p l = (le-div_iff_mul-le p).0 l

  pub some_part : s < count → suc s * n ≤ length xs → (r : List ℕ) → r ≡ take (s * n + n - s * n) (drop (s * n) xs) → r ≡ vector_at xs n count s
  unfolding vector_at part both
  some_part h l r e =
      let q : s * n + n - s * n ≡ n = omega arith in
      simp (lt-ltb s count h, le-leb (suc s * n) (length xs) l) (e ∙ rw q)
