-- What a call answers and the paper's number and values are one-to-one: two answers that say the same are the same. Assumes nothing.
use mathlib.Core.Path.{◌≡◌, refl, sym, ◌∙◌, ap}
use mathlib.Core.Bool.{false}
use mathlib.Core.List.{List, [], ◌∷◌}
use Rattle.std.specs.Prelude.{Result, Ok, Err}
use Prim.Native.Nat.{ℕ, ◌-◌}
use lib.ListN.{get_or}
use lib.Dec.{eqb}
use Rattle.paper.specs.Lists.{pick}
use Rattle.paper.specs.Reply.{Reply, fine}
use Rattle.replies.specs.Replies.{said, shape_said, answer_said, number_said, checked_said, verdict_said, built_said, both_said, stepped_said, graded_said, written_said}
use Rattle.replies.specs.declared.Refusal.{Refusal}
use Rattle.replies.specs.declared.Refusal.TheVariants.{Sizes, Short, Grade, Law, Room, Reverse, States, Letter, Table, Sheet, Start, Line, Next, Text}
use Rattle.replies.specs.declared.Shape.{Shape}
use Rattle.replies.specs.declared.Both.{Both}

-- what can be undone is one-to-one
one_to_one : {A : Type 0} (say : A → Reply) (undo : Reply → A) → ((a : A) → undo (say a) ≡ a) → (a b : A) → say a ≡ say b → a ≡ b
one_to_one say undo back a b e = sym (back a) ∙ (ap undo e ∙ back b)

-- ---- refusals

-- value i of a reply
abbrev value : Reply → ℕ → ℕ
value r i = get_or r.1 i 0

-- the refusal that a reply names
abbrev named : Reply → Refusal
named r =
    get_or
    (Sizes
    ∷ Short
    ∷ Grade
    ∷ Law (value r 0) (value r 1) (value r 2) (value r 3)
    ∷ Room
    ∷ Reverse
    ∷ States
    ∷ Letter (value r 0)
    ∷ Table
    ∷ Sheet
    ∷ Start
    ∷ Line (value r 0)
    ∷ Next (value r 0) (value r 1)
    ∷ Text (value r 0)
    ∷ [])
    (r.0 - 1)
    Sizes

named_said : (why : Refusal) → named (said why) ≡ why
named_said Sizes = refl
named_said Short = refl
named_said Grade = refl
named_said (Law law a b c) = refl
named_said Room = refl
named_said Reverse = refl
named_said States = refl
named_said (Letter at) = refl
named_said Table = refl
named_said Sheet = refl
named_said Start = refl
named_said (Line line) = refl
named_said (Next line letter) = refl
named_said (Text line) = refl

pub said_one : (r s : Refusal) → said r ≡ said s → r ≡ s
said_one = one_to_one said named named_said

-- no refusal has number 0
pub said_refuses : (why : Refusal) → eqb (said why).0 0 ≡ false
said_refuses Sizes = refl
said_refuses Short = refl
said_refuses Grade = refl
said_refuses (Law law a b c) = refl
said_refuses Room = refl
said_refuses Reverse = refl
said_refuses States = refl
said_refuses (Letter at) = refl
said_refuses Table = refl
said_refuses Sheet = refl
said_refuses Start = refl
said_refuses (Line line) = refl
said_refuses (Next line letter) = refl
said_refuses (Text line) = refl

-- ---- the answers: a success by its values, or a refusal

-- a success where the number is 0, else the refusal that is named
abbrev answered : {A : Type 0} → (Reply → A) → Reply → Result A Refusal
answered undo r = pick (eqb r.0 0) (Ok (undo r)) (Err (named r))

module _ {A : Type 0} (values : A → List ℕ) (undo : Reply → A) (undone : (a : A) → undo (fine (values a)) ≡ a) where
  answer_back : (a : Result A Refusal) → answered undo (answer_said values a) ≡ a
  answer_back (Ok a) = ap Ok (undone a)
  answer_back (Err why) = rw (said_refuses why, named_said why)

  -- two answers that say the same are the same, where the values say which success it is
  answer_one : (a b : Result A Refusal) → answer_said values a ≡ answer_said values b → a ≡ b
  answer_one = one_to_one (answer_said values) (answered undo) answer_back

pub number_one : (a b : Result ℕ Refusal) → number_said a ≡ number_said b → a ≡ b
number_one = answer_one (λ n. n ∷ []) (λ r. value r 0) (λ _. refl)

abbrev shape_of : Reply → Shape
shape_of r =
    record {
      k = value r 0;
      e = value r 1;
      n = value r 2;
      m = value r 3;
      letters = value r 4;
      join = value r 5;
      prod = value r 6;
      start = value r 7;
      end = value r 8;
      matrix = value r 9;
      size = value r 10;
    }

pub checked_one : (a b : Result Shape Refusal) → checked_said a ≡ checked_said b → a ≡ b
checked_one = answer_one shape_said shape_of (λ _. refl)

pub verdict_one : (a b : Result (Unit {0}) Refusal) → verdict_said a ≡ verdict_said b → a ≡ b
verdict_one = answer_one (λ _. []) (λ _. record {}) (λ _. refl)

pub built_one : (a b : Result ℕ Refusal) → built_said a ≡ built_said b → a ≡ b
built_one = number_one

pub both_one : (a b : Result Both Refusal) → both_said a ≡ both_said b → a ≡ b
both_one = answer_one (λ b. b.states ∷ b.reverse ∷ []) (λ r. record { states = value r 0; reverse = value r 1 }) (λ _. refl)

pub stepped_one : (a b : Result ℕ Refusal) → stepped_said a ≡ stepped_said b → a ≡ b
stepped_one = number_one

pub graded_one : (a b : Result ℕ Refusal) → graded_said a ≡ graded_said b → a ≡ b
graded_one = number_one

pub written_one : (a b : Result ℕ Refusal) → written_said a ≡ written_said b → a ≡ b
written_one = number_one
