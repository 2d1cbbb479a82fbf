-- `index::index_lines` meets its contract: each line is inside the sheet's bytes. Assumes nothing.
use native.Mathlib.Omega.{arith}
use Rattle.lines.proofs.Reading.{line_in}
use Rattle.index.proofs.index_lines.Goals as goal

pub line_bytes-requires : goal.line_bytes-requires
line_bytes-requires c = line_in c.requires.0 (omega arith)
