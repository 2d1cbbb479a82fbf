-- What the frames due ask for, and where reading stands behind a line.
use Rattle.std.specs.Prelude.{◌≡◌, ℕ, ◌+◌, ◌-◌, ◌≤◌, ltb}
use Rattle.paper.specs.Lists.{pick}
use Rattle.pages.specs.Frames.{line_length}
use Rattle.pages.specs.Texts.{lines_of, width_of, text_most, chart_most}
use Rattle.dues.specs.declared.Counts.{Counts}
use Rattle.dues.specs.declared.Rule.{Rule}
use Rattle.dues.specs.declared.Cursor.{Cursor}

-- sizes that are not above document 01's
pub record Few (s : Counts) : Type 0 where
  pub grades : s.k ≤ 16
  pub states : s.n ≤ 24
  pub letters : s.m ≤ 16

-- what a kind of frame asks for
pub record Ruled (s : Counts) (kind : ℕ) (r : Rule) : Type 0 where
  pub width_is : r.width ≡ width_of s.k s.n kind
  pub lines_is : r.lines ≡ lines_of s.k s.n s.m kind
  pub next_is : r.next ≡ kind + 1
  pub small : r.width ≤ 24

-- the line at a cursor goes by a rule, and no number behind it is past the largest
pub record Stepping (c : Cursor) (r : Rule) (s : Counts) : Type 0 where
  pub ruled : Ruled s c.kind r
  pub few : Few s
  pub low : c.kind ≤ 6
  pub line : c.line ≤ text_most
  pub pos : c.pos ≤ text_most
  pub at : c.at ≤ chart_most

-- where reading stands behind the line at a cursor
unfoldable pub behind_line : Counts → Cursor → Cursor
behind_line s c =
    record {
      kind = pick (ltb 1 c.left) c.kind (c.kind + 1);
      left = pick (ltb 1 c.left) (c.left - 1) (lines_of s.k s.n s.m (c.kind + 1));
      line = c.line + 1;
      pos = c.pos + line_length (width_of s.k s.n c.kind);
      at = c.at + width_of s.k s.n c.kind;
    }
