-- One reply for the reader: no second answer, and no other reader left, meet a method's contract. Assumes nothing.
use Rattle.std.specs.Prelude.{Result}
use mathlib.Core.Path.{◌≡◌, sym, ◌∙◌}
use Prim.Native.Nat.{ℕ}
use Rattle.replies.specs.declared.Refusal.{Refusal}
use Rattle.replies.specs.Replies.{stepped_said, graded_said}
use Rattle.replies.proofs.Said.{stepped_one, graded_one}
use Rattle.bench.specs.Bench.{answer_to, grade_answer, taken}
use Rattle.bench.specs.declared.reader.Reader.{Reader}

-- `Reader::new`, of the rows, the count and the number of letters that some reader has
pub one_reader_new : (of a b : Reader) → (a.rows ≡ of.rows) × (a.count ≡ of.count) × (a.m ≡ of.m) × (a.state ≡ 0) →
    (b.rows ≡ of.rows) × (b.count ≡ of.count) × (b.m ≡ of.m) × (b.state ≡ 0) → a ≡ b
one_reader_new of a b p q i =
    record { rows = (p.0 ∙ sym q.0) i; count = (p.1 ∙ sym q.1) i; m = (p.2 ∙ sym q.2) i; state = (p.3 ∙ sym q.3) i }

-- `Reader::step`
pub one_reader_step : (r : Reader) (letter : ℕ) (a b : Result ℕ Refusal × Reader) → (stepped_said a.0 ≡ answer_to r letter) × (a.1 ≡ taken r letter) →
    (stepped_said b.0 ≡ answer_to r letter) × (b.1 ≡ taken r letter) → a ≡ b
one_reader_step r letter a b p q i = (stepped_one a.0 b.0 (p.0 ∙ sym q.0) i, (p.1 ∙ sym q.1) i)

-- `Reader::grade`
pub one_reader_grade : (r : Reader) (a b : Result ℕ Refusal) → graded_said a ≡ grade_answer r → graded_said b ≡ grade_answer r → a ≡ b
one_reader_grade r a b p q = graded_one a b (p ∙ sym q)
