-- What the law check's inner functions ensure.
use Rattle.std.specs.Prelude.{◌≡◌, Bool, true, List, ℕ, ◌≤◌, ◌<◌, ltb, Option, Some, None, Result, Ok, Err}
use Rattle.paper.specs.Lists.{pick}
use Rattle.paper.specs.Chart.{k_of}
use Rattle.paper.specs.Check.{broken_a, broken_b, broken_c, broken_law, broken_at}
use Rattle.replies.specs.declared.Refusal.{Refusal}
use Rattle.replies.specs.Replies.{said}

-- trying a test at the first n of k numbers is enough
pub record Enough (k n : ℕ) (test : ℕ → Bool) : Type 0 where
  pub low : n ≤ k
  pub all : ((i : ℕ) → i < n → test i ≡ true) → (i : ℕ) → i < k → test i ≡ true

-- what is answered of the first of `count` numbers, or none where it is no number of theirs
abbrev pub first_for : {A : Type 0} → ℕ → (ℕ → A) → ℕ → Option A
first_for count told i = pick (ltb i count) (Some (told i)) None

-- the first c with which the law is broken at a and b
abbrev pub first_one : List ℕ → ℕ → ℕ → ℕ → Option ℕ
first_one ch law a b = first_for (k_of ch) (λ c. c) (broken_c ch law a b)

-- b, and the first c with which the law is broken at a and b
abbrev pub with_c : List ℕ → ℕ → ℕ → ℕ → ℕ × ℕ
with_c ch law a b = (b, broken_c ch law a b)

-- a, and the first b and c with which the law is broken at a
abbrev pub with_b : List ℕ → ℕ → ℕ → ℕ × ℕ × ℕ
with_b ch law a = (a, broken_b ch law a, broken_c ch law a (broken_b ch law a))

-- the first b with which the law is broken at a, and the first c with it
abbrev pub first_two : List ℕ → ℕ → ℕ → Option (ℕ × ℕ)
first_two ch law a = first_for (k_of ch) (with_c ch law a) (broken_b ch law a)

-- the first a with which the law is broken, and the first b and c with it
abbrev pub first_three : List ℕ → ℕ → Option (ℕ × ℕ × ℕ)
first_three ch law = first_for (k_of ch) (with_b ch law) (broken_a ch law)

-- no law is broken, or the refusal is the first law that the chart's tables break, by the paper's number, with its grades
abbrev pub FirstBroken : List ℕ → Result (Unit {0}) Refusal → Type 0
FirstBroken ch (Ok u) = broken_law ch ≡ 8
FirstBroken ch (Err why) = (broken_law ch < 8) × (said why ≡ (4, broken_at ch (broken_law ch)))
