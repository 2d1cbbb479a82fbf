-- Big joins of a chart that is not refused, and the order read from join. Assumes nothing.
use mathlib.Core.Path.{◌≡◌, refl, sym, ap, ap₂, ◌∙◌}
use mathlib.Core.Bool.{true}
use mathlib.Core.List.{List}
use Prim.Native.Nat.{ℕ, zero, suc, ◌<◌}
use native.Mathlib.Omega.{arith}
use borrow.Author.Tests.{eqb-true, eq-eqb}
use Rattle.paper.specs.Chart.{k_of, join, prod, at_most}
use Rattle.paper.specs.Vectors.{joins}
use Rattle.algebra.proofs.Checked.{Sound}

-- big joins of equal grades are equal
pub joins_cong : (c : List ℕ) (n : ℕ) (f g : ℕ → ℕ) → ((i : ℕ) → i < n → f i ≡ g i) → joins c n f ≡ joins c n g
unfolding joins
joins_cong c zero f g h = refl
joins_cong c (suc n) f g h = ap₂ (join c) (joins_cong c n f g (λ i l. h i (omega arith))) (h n (omega arith))

module _ (c : List ℕ) (ok : Sound c) where
  -- ---- big joins

  pub zero_low : 0 < k_of c
  zero_low = omega (arith, ok.sizes.k_low)

  -- a big join of grades is a grade
  pub joins_low : (n : ℕ) (f : ℕ → ℕ) → ((i : ℕ) → i < n → f i < k_of c) → joins c n f < k_of c
  unfolding joins
  joins_low zero f h = zero_low
  joins_low (suc n) f h = ok.join_low (joins c n f) (f n) (joins_low n f (λ i l. h i (omega arith))) (h n (omega arith))

  -- (a ⊔ b) ⊔ (d ⊔ e) = (a ⊔ d) ⊔ (b ⊔ e)
  join_four : (a b d e : ℕ) → a < k_of c → b < k_of c → d < k_of c → e < k_of c →
      join c (join c a b) (join c d e) ≡ join c (join c a d) (join c b e)
  join_four a b d e ha hb hd he =
      ok.assoc a b (join c d e) ha hb (ok.join_low d e hd he)
      ∙ ap (join c a) (sym (ok.assoc b d e hb hd he) ∙ ap (λ t. join c t e) (ok.comm b d hb hd) ∙ ok.assoc d b e hd hb he)
      ∙ sym (ok.assoc a d (join c b e) ha hd (ok.join_low b e hb he))

  -- the big join of the least grade is it
  joins_zero : (n : ℕ) → joins c n (λ i. 0) ≡ 0
  unfolding joins
  joins_zero zero = refl
  joins_zero (suc n) = rw (joins_zero n) (ok.idem 0 zero_low)

  -- a big join of joins
  joins_join : (n : ℕ) (f g : ℕ → ℕ) → ((i : ℕ) → i < n → f i < k_of c) → ((i : ℕ) → i < n → g i < k_of c) →
      joins c n (λ i. join c (f i) (g i)) ≡ join c (joins c n f) (joins c n g)
  unfolding joins
  joins_join zero f g hf hg = sym (ok.idem 0 zero_low)
  joins_join (suc n) f g hf hg =
      ap (λ t. join c t (join c (f n) (g n))) (joins_join n f g (λ i l. hf i (omega arith)) (λ i l. hg i (omega arith)))
      ∙ join_four (joins c n f) (joins c n g) (f n) (g n) (joins_low n f (λ i l. hf i (omega arith))) (joins_low n g (λ i l. hg i (omega arith)))
      (hf n (omega arith)) (hg n (omega arith))

  -- two big joins exchanged
  pub joins_swap : (n m : ℕ) (f : ℕ → ℕ → ℕ) → ((i j : ℕ) → i < n → j < m → f i j < k_of c) →
      joins c n (λ i. joins c m (λ j. f i j)) ≡ joins c m (λ j. joins c n (λ i. f i j))
  unfolding joins
  joins_swap zero m f h = sym (joins_zero m)
  joins_swap (suc n) m f h =
      ap (λ t. join c t (joins c m (λ j. f n j))) (joins_swap n m f (λ i j l r. h i j (omega arith) r))
      ∙ sym (joins_join m (λ j. joins c n (λ i. f i j)) (λ j. f n j) (λ j r. joins_low n (λ i. f i j) (λ i l. h i j (omega arith) r)) (λ j r. h n j (omega arith) r))

  -- what keeps 0 and joins keeps a big join
  kept_joins : (g : ℕ → ℕ) → g 0 ≡ 0 → ((a b : ℕ) → a < k_of c → b < k_of c → g (join c a b) ≡ join c (g a) (g b)) → (n : ℕ) (f : ℕ → ℕ) →
      ((i : ℕ) → i < n → f i < k_of c) → g (joins c n f) ≡ joins c n (λ i. g (f i))
  unfolding joins
  kept_joins g none each zero f h = none
  kept_joins g none each (suc n) f h =
      each (joins c n f) (f n) (joins_low n f (λ i l. h i (omega arith))) (h n (omega arith))
      ∙ ap (λ t. join c t (g (f n))) (kept_joins g none each n f (λ i l. h i (omega arith)))

  -- as a product does, on either side
  pub prod_joins_left : (a n : ℕ) (f : ℕ → ℕ) → a < k_of c → ((i : ℕ) → i < n → f i < k_of c) →
      prod c a (joins c n f) ≡ joins c n (λ i. prod c a (f i))
  prod_joins_left a n f ha = kept_joins (prod c a) (ok.zero_right a ha) (λ x y hx hy. ok.dist_left a x y ha hx hy) n f

  pub prod_joins_right : (a n : ℕ) (f : ℕ → ℕ) → a < k_of c → ((i : ℕ) → i < n → f i < k_of c) →
      prod c (joins c n f) a ≡ joins c n (λ i. prod c (f i) a)
  prod_joins_right a n f ha = kept_joins (λ x. prod c x a) (ok.zero_left a ha) (λ x y hx hy. ok.dist_right a x y ha hx hy) n f

-- ---- order

module _ (c : List ℕ) where
  pub at_most_lem : (a b : ℕ) → join c a b ≡ b → at_most c a b ≡ true
  unfolding at_most
  at_most_lem a b e = eq-eqb (join c a b) b e

  pub at_most_join : (a b : ℕ) → at_most c a b ≡ true → join c a b ≡ b
  unfolding at_most
  at_most_join a b e = eqb-true (join c a b) b e

module _ (c : List ℕ) (ok : Sound c) where
  -- the least grade is below every grade
  pub at_most_least : (a : ℕ) → a < k_of c → at_most c 0 a ≡ true
  at_most_least a ha = at_most_lem c 0 a (ok.bottom a ha)

  pub at_most_refl : (a : ℕ) → a < k_of c → at_most c a a ≡ true
  at_most_refl a ha = at_most_lem c a a (ok.idem a ha)

  pub at_most_antisym : (a b : ℕ) → a < k_of c → b < k_of c → at_most c a b ≡ true → at_most c b a ≡ true → a ≡ b
  at_most_antisym a b ha hb p q = sym (at_most_join c b a q) ∙ ok.comm b a hb ha ∙ at_most_join c a b p

  pub at_most_trans : (a b d : ℕ) → a < k_of c → b < k_of c → d < k_of c → at_most c a b ≡ true → at_most c b d ≡ true → at_most c a d ≡ true
  at_most_trans a b d ha hb hd p q =
      at_most_lem c a d
      (ap (join c a) (sym (at_most_join c b d q)) ∙ sym (ok.assoc a b d ha hb hd) ∙ ap (λ t. join c t d) (at_most_join c a b p) ∙ at_most_join c b d q)

  -- join is the least upper bound
  pub join_upper_left : (a b : ℕ) → a < k_of c → b < k_of c → at_most c a (join c a b) ≡ true
  join_upper_left a b ha hb = at_most_lem c a (join c a b) (sym (ok.assoc a a b ha ha hb) ∙ ap (λ t. join c t b) (ok.idem a ha))

  pub join_upper_right : (a b : ℕ) → a < k_of c → b < k_of c → at_most c b (join c a b) ≡ true
  join_upper_right a b ha hb = rw (ok.comm a b ha hb) (join_upper_left b a hb ha)

  pub join_least : (a b d : ℕ) → a < k_of c → b < k_of c → d < k_of c → at_most c a d ≡ true → at_most c b d ≡ true → at_most c (join c a b) d ≡ true
  join_least a b d ha hb hd p q = at_most_lem c (join c a b) d (ok.assoc a b d ha hb hd ∙ ap (join c a) (at_most_join c b d q) ∙ at_most_join c a d p)

  -- product keeps order on either side
  pub prod_keeps_left : (a b d : ℕ) → a < k_of c → b < k_of c → d < k_of c → at_most c b d ≡ true → at_most c (prod c a b) (prod c a d) ≡ true
  prod_keeps_left a b d ha hb hd p = at_most_lem c (prod c a b) (prod c a d) (sym (ok.dist_left a b d ha hb hd) ∙ ap (prod c a) (at_most_join c b d p))

  pub prod_keeps_right : (a b d : ℕ) → a < k_of c → b < k_of c → d < k_of c → at_most c b d ≡ true → at_most c (prod c b a) (prod c d a) ≡ true
  prod_keeps_right a b d ha hb hd p = at_most_lem c (prod c b a) (prod c d a) (sym (ok.dist_right a b d ha hb hd) ∙ ap (λ t. prod c t a) (at_most_join c b d p))
