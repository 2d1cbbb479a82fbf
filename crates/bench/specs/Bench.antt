-- The bench: what its reader answers and becomes.
use Rattle.std.specs.Prelude.{ℕ}
use Rattle.paper.specs.Reply.{Reply}
use Rattle.paper.specs.Tables.{step_reply, grade_reply, reader_takes}
use Rattle.bench.specs.declared.reader.Reader.{Reader}

-- what the reader answers to a letter, and for its grade
abbrev pub answer_to : Reader → ℕ → Reply
answer_to r x = step_reply r.rows.now r.count r.m r.state x

abbrev pub grade_answer : Reader → Reply
grade_answer r = grade_reply r.rows.now r.count r.m r.state

-- the reader at another state of its table
abbrev pub at_state : Reader → ℕ → Reader
at_state r s = record { rows = r.rows; count = r.count; m = r.m; state = s }

-- the reader once it has taken a letter
abbrev pub taken : Reader → ℕ → Reader
taken r x = at_state r (reader_takes r.rows.now r.count r.m x r.state)
