-- What a chart that is not refused satisfies: its sizes, its grades' range, and the laws of its grade tables. Assumes nothing.
use mathlib.Core.Path.{◌≡◌, subst}
use mathlib.Core.Bool.{true}
use mathlib.Core.List.{List}
use Prim.Native.Nat.{ℕ, ◌+◌, ◌-◌, ◌*◌, ◌≤◌, ◌<◌}
use native.Mathlib.Omega.{arith}
use lib.Arith.{digits_lt}
use lib.ListN.{length, get_or}
use lib.Dec.{eqb, leb, ltb}
use borrow.Author.Tests.{eqb-true, eq-eqb, ltb-true, leb-true}
use Rattle.paper.specs.Lists.{both, unless}
use Rattle.paper.specs.Reply.{Reply, fine}
use Rattle.paper.specs.Chart.{head_size, k_of, e_of, n_of, m_of, letters, join_from, prod_from, start_from, end_from, matrix_from, chart_size, join, prod, grade_from, entry}
use Rattle.algebra.specs.Sizes.{Sizes}
use Rattle.paper.specs.Check.{sizes_fit, head_fits, grade_fits, grades_fit, laws, law_at, law_at_two, law_at_one, law_holds, broken_law, broken_at, shape_of, check_reply, chart_fits}
use Rattle.lists.proofs.Tests.{not_both, both_left, both_right, both_split, unless_told, unless_passed, all_at, least_all}

-- ---- the stages of the check

-- the stages before the laws, passed
pub record Ranged (c : List ℕ) : Type 0 where
  pub long : leb head_size (length c) ≡ true
  pub heads : head_fits c ≡ true
  pub size : leb (chart_size c) (length c) ≡ true
  pub grades : grades_fit c ≡ true

-- what is answered once they are passed
abbrev pub law_reply : List ℕ → Reply
law_reply c = unless (eqb (broken_law c) 8) (4, broken_at c (broken_law c)) (fine (shape_of c))

module _ (c : List ℕ) where
  -- an answer of a number that these stages do not give
  pub ranged : (number : ℕ) → (1 ≡ number → ⊥) → (2 ≡ number → ⊥) → (3 ≡ number → ⊥) → (check_reply c).0 ≡ number → Ranged c
  unfolding check_reply
  ranged number no1 no2 no3 e =
      let is : Reply → Type 0 = λ r. r.0 ≡ number in
      let long = unless_passed is (leb head_size (length c)) _ _ no2 e in
      let heads = unless_passed is (head_fits c) _ _ no1 long.1 in
      let size = unless_passed is (leb (chart_size c) (length c)) _ _ no2 heads.1 in
      let grades = unless_passed is (grades_fit c) _ _ no3 size.1 in
      record { long = long.0; heads = heads.0; size = size.0; grades = grades.0 }

  pub ranged_reply : Ranged c → check_reply c ≡ law_reply c
  unfolding check_reply
  ranged_reply r = rw (r.long, r.heads, r.size, r.grades)

  -- a chart that is not refused
  pub fits_number : chart_fits c ≡ true → (check_reply c).0 ≡ 0
  unfolding chart_fits
  fits_number e = eqb-true (check_reply c).0 0 e

  pub number_fits : (check_reply c).0 ≡ 0 → chart_fits c ≡ true
  unfolding chart_fits
  number_fits e = eq-eqb (check_reply c).0 0 e

  pub fits_ranged : chart_fits c ≡ true → Ranged c
  fits_ranged e = ranged 0 (omega arith) (omega arith) (omega arith) (fits_number e)

  pub fits_lawful : chart_fits c ≡ true → eqb (broken_law c) 8 ≡ true
  fits_lawful e =
      (unless_passed (λ (r : Reply). r.0 ≡ 0) (eqb (broken_law c) 8) (4, broken_at c (broken_law c)) (fine (shape_of c)) (omega arith)
      (rw (ranged_reply (fits_ranged e)) at (fits_number e))).0

  -- an answer of a call that checks the chart first, where nothing is refused
  pub check_passed : (rest : Reply) → (unless (chart_fits c) (check_reply c) rest).0 ≡ 0 → (chart_fits c ≡ true) × (rest.0 ≡ 0)
  check_passed rest e = unless_told (λ (r : Reply). r.0 ≡ 0) (chart_fits c) (check_reply c) rest (λ q n. not_both (number_fits n) q) e

-- ---- sizes

pub sizes : (k e n m : ℕ) → sizes_fit k e n m ≡ true → Sizes k e n m
unfolding sizes_fit
sizes k e n m fit =
    let ks = both (leb 2 k) (leb k 16) in
    let ns = both (leb 1 n) (leb n 24) in
    let ms = both (leb 1 m) (leb m 16) in
    let t = both_split ks (both (ltb e k) (both ns ms)) fit in
    let tk = both_split (leb 2 k) (leb k 16) t.0 in
    let te = both_split (ltb e k) (both ns ms) t.1 in
    let tr = both_split ns ms te.1 in
    let tn = both_split (leb 1 n) (leb n 24) tr.0 in
    let tm = both_split (leb 1 m) (leb m 16) tr.1 in
    record {
      k_low = leb-true 2 k tk.0;
      k_high = leb-true k 16 tk.1;
      e_low = ltb-true e k te.0;
      n_low = leb-true 1 n tn.0;
      n_high = leb-true n 24 tn.1;
      m_low = leb-true 1 m tm.0;
      m_high = leb-true m 16 tm.1;
    }

-- ---- ranges: from the stages before the laws

module _ (c : List ℕ) (r : Ranged c) where
  pub head_sizes : Sizes (k_of c) (e_of c) (n_of c) (m_of c)
  unfolding head_fits
  head_sizes = sizes (k_of c) (e_of c) (n_of c) (m_of c) r.heads

  pub letters_bound : (1 ≤ letters c) × (letters c ≤ 16)
  unfolding letters
  letters_bound = (head_sizes.m_low, head_sizes.m_high)

  -- every byte behind the head is a grade
  pub grade_bound : (i : ℕ) → head_size ≤ i → i < chart_size c → get_or c i 0 < k_of c
  unfolding grades_fit grade_fits
  grade_bound i l h =
      let p : head_size + (i - head_size) ≡ i = omega arith in
      subst (λ (j : ℕ). get_or c j 0 < k_of c) p
      (ltb-true (get_or c (head_size + (i - head_size)) 0) (k_of c) (all_at (grade_fits c) (chart_size c - head_size) r.grades (i - head_size) (omega arith)))

  pub join_bound : (a b : ℕ) → a < k_of c → b < k_of c → join c a b < k_of c
  unfolding join
  join_bound a b p q = grade_bound (join_from c + (a * k_of c + b)) (omega arith) (omega (arith, digits_lt p q))

  pub prod_bound : (a b : ℕ) → a < k_of c → b < k_of c → prod c a b < k_of c
  unfolding prod
  prod_bound a b p q = grade_bound (prod_from c + (a * k_of c + b)) (omega arith) (omega (arith, digits_lt p q))

  pub start_bound : (p : ℕ) → p < n_of c → grade_from c (start_from c) p < k_of c
  unfolding grade_from
  start_bound p h = grade_bound (start_from c + p) (omega arith) (omega arith)

  pub end_bound : (p : ℕ) → p < n_of c → grade_from c (end_from c) p < k_of c
  unfolding grade_from
  end_bound p h = grade_bound (end_from c + p) (omega arith) (omega arith)

  pub entry_bound : (x p q : ℕ) → x < letters c → p < n_of c → q < n_of c → entry c x p q < k_of c
  unfolding entry letters
  entry_bound x p q hx hp hq = grade_bound (matrix_from c + ((x * n_of c + p) * n_of c + q)) (omega arith) (omega (arith, digits_lt (digits_lt hx hp) hq))

-- ---- laws

-- a law that holds passes at any three grades
pub law_at_lem : (c : List ℕ) (i : ℕ) → law_holds c i ≡ true → (a b d : ℕ) → a < k_of c → b < k_of c → d < k_of c → law_at c i a b d ≡ true
unfolding law_holds law_at_one law_at_two
law_at_lem c i e a b d ha hb hd = all_at (law_at c i a b) (k_of c) (all_at (law_at_two c i a) (k_of c) (all_at (law_at_one c i) (k_of c) e a ha) b hb) d hd

-- ---- a chart that is not refused

pub record Sound (c : List ℕ) : Type 0 where
  pub sizes : Sizes (k_of c) (e_of c) (n_of c) (m_of c)
  pub letters_low : 1 ≤ letters c
  pub letters_high : letters c ≤ 16
  pub long : chart_size c ≤ length c
  -- grades
  pub grade_low : (i : ℕ) → head_size ≤ i → i < chart_size c → get_or c i 0 < k_of c
  pub join_low : (a b : ℕ) → a < k_of c → b < k_of c → join c a b < k_of c
  pub prod_low : (a b : ℕ) → a < k_of c → b < k_of c → prod c a b < k_of c
  pub start_low : (p : ℕ) → p < n_of c → grade_from c (start_from c) p < k_of c
  pub end_low : (p : ℕ) → p < n_of c → grade_from c (end_from c) p < k_of c
  pub entry_low : (x p q : ℕ) → x < letters c → p < n_of c → q < n_of c → entry c x p q < k_of c
  -- laws
  pub idem : (a : ℕ) → a < k_of c → join c a a ≡ a
  pub comm : (a b : ℕ) → a < k_of c → b < k_of c → join c a b ≡ join c b a
  pub assoc : (a b d : ℕ) → a < k_of c → b < k_of c → d < k_of c → join c (join c a b) d ≡ join c a (join c b d)
  pub bottom : (a : ℕ) → a < k_of c → join c 0 a ≡ a
  pub prod_assoc : (a b d : ℕ) → a < k_of c → b < k_of c → d < k_of c → prod c (prod c a b) d ≡ prod c a (prod c b d)
  pub unit_left : (a : ℕ) → a < k_of c → prod c (e_of c) a ≡ a
  pub unit_right : (a : ℕ) → a < k_of c → prod c a (e_of c) ≡ a
  pub zero_left : (a : ℕ) → a < k_of c → prod c 0 a ≡ 0
  pub zero_right : (a : ℕ) → a < k_of c → prod c a 0 ≡ 0
  pub dist_left : (a b d : ℕ) → a < k_of c → b < k_of c → d < k_of c → prod c a (join c b d) ≡ join c (prod c a b) (prod c a d)
  pub dist_right : (a b d : ℕ) → a < k_of c → b < k_of c → d < k_of c → prod c (join c b d) a ≡ join c (prod c b a) (prod c d a)

-- a test of two equations
both_equal : (a b d e : ℕ) → both (eqb a b) (eqb d e) ≡ true → (a ≡ b) × (d ≡ e)
both_equal a b d e t = (eqb-true a b (both_left (eqb a b) (eqb d e) t), eqb-true d e (both_right (eqb a b) (eqb d e) t))

pub sound : (c : List ℕ) → chart_fits c ≡ true → Sound c
unfolding laws law_at broken_law
sound c accepted =
    record {
      sizes = head_sizes c r;
      letters_low = (letters_bound c r).0;
      letters_high = (letters_bound c r).1;
      long = leb-true (chart_size c) (length c) r.size;
      grade_low = grade_bound c r;
      join_low = join_bound c r;
      prod_low = prod_bound c r;
      start_low = start_bound c r;
      end_low = end_bound c r;
      entry_low = entry_bound c r;
      idem = λ a p. eqb-true _ _ (law 0 a 0 0 (omega arith) p z z);
      comm = λ a b p q. eqb-true _ _ (law 1 a b 0 (omega arith) p q z);
      assoc = λ a b d p q r. eqb-true _ _ (law 2 a b d (omega arith) p q r);
      bottom = λ a p. eqb-true _ _ (law 3 a 0 0 (omega arith) p z z);
      prod_assoc = λ a b d p q r. eqb-true _ _ (law 4 a b d (omega arith) p q r);
      unit_left = λ a p. (unit a p).0;
      unit_right = λ a p. (unit a p).1;
      zero_left = λ a p. (none a p).0;
      zero_right = λ a p. (none a p).1;
      dist_left = λ a b d p q r. (dist a b d p q r).0;
      dist_right = λ a b d p q r. (dist a b d p q r).1;
    }
  where
    r : Ranged c
    r = fits_ranged c accepted

    z : 0 < k_of c
    z = omega (arith, (head_sizes c r).k_low)

    law : (i a b d : ℕ) → i < 8 → a < k_of c → b < k_of c → d < k_of c → law_at c i a b d ≡ true
    law i a b d h = law_at_lem c i (least_all (law_holds c) 8 (omega (arith, eqb-true (broken_law c) 8 (fits_lawful c accepted))) i h) a b d

    -- the laws of two equations
    unit : (a : ℕ) → a < k_of c → (prod c (e_of c) a ≡ a) × (prod c a (e_of c) ≡ a)
    unit a p = both_equal _ _ _ _ (law 5 a 0 0 (omega arith) p z z)

    none : (a : ℕ) → a < k_of c → (prod c 0 a ≡ 0) × (prod c a 0 ≡ 0)
    none a p = both_equal _ _ _ _ (law 6 a 0 0 (omega arith) p z z)

    dist : (a b d : ℕ) → a < k_of c → b < k_of c → d < k_of c →
        (prod c a (join c b d) ≡ join c (prod c a b) (prod c a d)) × (prod c (join c b d) a ≡ join c (prod c b a) (prod c d a))
    dist a b d p q r = both_equal _ _ _ _ (law 7 a b d (omega arith) p q r)
