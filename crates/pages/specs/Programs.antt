-- The three programs: a chart's text on standard input, the table's text or one refusal line on standard output.
use Rattle.std.specs.Prelude.{List, ℕ, suc, ◌*◌, get_or, eqb}
use Rattle.paper.specs.Lists.{unless}
use Rattle.paper.specs.Reply.{Reply}
use Rattle.paper.specs.Chart.{letters}
use Rattle.paper.specs.Builders.{Forward, Lent, Backward, nerode, reduced, brzozowski, blank, blank_table, blank_vectors}
use Rattle.pages.specs.Texts.{Filled, chart_most, read_chart, table_text, refusal_text}

-- the programs' rooms, and what they lend for charts of up to 16 letters and 24 states
abbrev pub program_room : ℕ
program_room = 128

abbrev pub program_reverse : ℕ
program_reverse = 64

abbrev pub program_lent : Lent
program_lent =
    record {
      table = blank_table program_room;
      reverse_table = blank_table program_reverse;
      reverse_vectors = blank_vectors program_reverse;
      rows = blank (suc program_room * program_reverse);
    }

-- the refusal line, or the text where nothing is refused
unfoldable pub or_refusal : Reply → List ℕ → List ℕ
or_refusal r text = unless (eqb r.0 0) (refusal_text r.0) text

-- from the chart that was read and what the builder answered and left in the table
unfoldable pub built_text : List ℕ → Reply → List ℕ → List ℕ
built_text c r table = or_refusal r (table_text c table (get_or r.1 0 0) (letters c))

unfoldable pub forward_text : List ℕ → Forward → List ℕ
forward_text c f = built_text c f.reply f.table

unfoldable pub backward_text : List ℕ → Backward → List ℕ
backward_text c b = built_text c b.reply b.left.table

-- what a program prints, from what it makes of the chart that was read
unfoldable pub read_text : (List ℕ → List ℕ) → Filled → List ℕ
read_text make read = or_refusal read.reply (make read.buffer)

unfoldable pub program : (List ℕ → List ℕ) → List ℕ → List ℕ
program make input = read_text make (read_chart input (blank chart_most))

unfoldable pub nerode_makes : List ℕ → List ℕ
nerode_makes c = forward_text c (nerode c program_room (blank_table program_room) (blank_vectors program_room))

unfoldable pub reduced_makes : List ℕ → List ℕ
reduced_makes c = forward_text c (reduced c program_room (blank_table program_room) (blank_vectors program_room))

unfoldable pub brz_makes : List ℕ → List ℕ
brz_makes c = backward_text c (brzozowski c program_room program_reverse program_lent)
