-- One reply for each public call: no second answer, and no other bytes in lent memory, meet its contract. Assumes nothing.
use mathlib.Core.Path.{◌≡◌, sym, ap, ◌∙◌}
use mathlib.Core.List.{List}
use Prim.Native.Nat.{ℕ}
use Rattle.replies.specs.Replies.{checked_said, verdict_said, stepped_said, graded_said}
use Rattle.paper.specs.Check.{check_reply}
use Rattle.paper.specs.Tables.{table_reply, step_reply, grade_reply, word_reply, cap_reply, reader_state, step_code, grade_code}
use Rattle.paper.specs.Builders.{vector_at, Forward, nerode, reduced, Lent, Backward, brzozowski}
use Rattle.paper.specs.Sheets.{sheet_reply}
use Rattle.pages.specs.Texts.{Filled, read_chart, print_table, print_refusal}
use Rattle.replies.proofs.Said.{checked_one, verdict_one, built_one, both_one, stepped_one, graded_one, written_one}
use Rattle.promises.specs.OneReply.{OneReply, forward_says, backward_says, filled_says, it_says}

-- ---- for any call whose answers say different things

one : {A O : Type 0} (says : A → O) → ((a b : A) → says a ≡ says b → a ≡ b) → (outcome : O) → OneReply says outcome
one says apart outcome a b p q = apart a b (p ∙ sym q)

one_itself : {A : Type 0} (outcome : A) → OneReply it_says outcome
one_itself = one it_says (λ a b e. e)

one_forward : (outcome : Forward) → OneReply forward_says outcome
one_forward =
    one
    forward_says
    (λ a b e i. (
      built_one a.0 b.0 (ap (λ (o : Forward). o.reply) e) i,
      (e i).table,
      (e i).vectors,
    ))

one_filled : (outcome : Filled) → OneReply filled_says outcome
one_filled = one filled_says (λ a b e i. (written_one a.0 b.0 (ap (λ (o : Filled). o.reply) e) i, (e i).buffer))

-- ---- each call

pub one_check : (chart : List ℕ) → OneReply checked_said (check_reply chart)
one_check chart = one checked_said checked_one (check_reply chart)

pub one_nerode : (chart : List ℕ) (room : ℕ) (table vectors : List ℕ) → OneReply forward_says (nerode chart room table vectors)
one_nerode chart room table vectors = one_forward (nerode chart room table vectors)

pub one_reduced : (chart : List ℕ) (room : ℕ) (table vectors : List ℕ) → OneReply forward_says (reduced chart room table vectors)
one_reduced chart room table vectors = one_forward (reduced chart room table vectors)

pub one_brzozowski : (chart : List ℕ) (room reverseRoom : ℕ) (lent : Lent) → OneReply backward_says (brzozowski chart room reverseRoom lent)
one_brzozowski chart room reverseRoom lent =
    one
    backward_says
    (λ a b e i. (both_one a.0 b.0 (ap (λ (o : Backward). o.reply) e) i, (e i).left))
    (brzozowski chart room reverseRoom lent)

pub one_vector_at : (vectors : List ℕ) (n count state : ℕ) → OneReply it_says (vector_at vectors n count state)
one_vector_at vectors n count state = one_itself (vector_at vectors n count state)

pub one_check_table : (rows : List ℕ) (count m : ℕ) → OneReply verdict_said (table_reply rows count m)
one_check_table rows count m = one verdict_said verdict_one (table_reply rows count m)

pub one_step : (rows : List ℕ) (count m state letter : ℕ) → OneReply stepped_said (step_reply rows count m state letter)
one_step rows count m state letter = one stepped_said stepped_one (step_reply rows count m state letter)

pub one_grade : (rows : List ℕ) (count m state : ℕ) → OneReply graded_said (grade_reply rows count m state)
one_grade rows count m state = one graded_said graded_one (grade_reply rows count m state)

pub one_grade_word : (rows : List ℕ) (count m : ℕ) (word : List ℕ) → OneReply graded_said (word_reply rows count m word)
one_grade_word rows count m word = one graded_said graded_one (word_reply rows count m word)

pub one_cap : (chart rows : List ℕ) (count m : ℕ) → OneReply graded_said (cap_reply chart rows count m)
one_cap chart rows count m = one graded_said graded_one (cap_reply chart rows count m)

pub one_check_sheet : (chart rows : List ℕ) (count m : ℕ) (sheet : List ℕ) (lines : ℕ) → OneReply verdict_said (sheet_reply chart rows count m sheet lines)
one_check_sheet chart rows count m sheet lines = one verdict_said verdict_one (sheet_reply chart rows count m sheet lines)

pub one_read_chart : (text chart : List ℕ) → OneReply filled_says (read_chart text chart)
one_read_chart text chart = one_filled (read_chart text chart)

pub one_print_table : (chart rows : List ℕ) (count m : ℕ) (text : List ℕ) → OneReply filled_says (print_table chart rows count m text)
one_print_table chart rows count m text = one_filled (print_table chart rows count m text)

pub one_print_refusal : (number : ℕ) (text : List ℕ) → OneReply filled_says (print_refusal number text)
one_print_refusal number text = one_filled (print_refusal number text)

-- the bench's word; its reader's own methods are in crates/bench/proofs/One.antt
pub one_read_word : (rows : List ℕ) (count m : ℕ) (word : List ℕ) → OneReply graded_said (grade_reply rows count m (reader_state rows count m word))
one_read_word rows count m word = one_grade rows count m (reader_state rows count m word)

-- the C calls
pub one_lace_step : (rows : List ℕ) (count m state letter : ℕ) → OneReply it_says (step_code (step_reply rows count m state letter))
one_lace_step rows count m state letter = one_itself (step_code (step_reply rows count m state letter))

pub one_lace_grade : (rows : List ℕ) (count m state : ℕ) → OneReply it_says (grade_code (grade_reply rows count m state))
one_lace_grade rows count m state = one_itself (grade_code (grade_reply rows count m state))
