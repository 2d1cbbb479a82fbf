-- What a table must be for a program to print it.
use Rattle.std.specs.Prelude.{◌≡◌, true, List, ℕ, ◌≤◌, get_or}
use Rattle.paper.specs.Reply.{Reply}
use Rattle.paper.specs.Chart.{letters}
use Rattle.paper.specs.Check.{chart_fits}
use Rattle.paper.specs.Tables.{table_fits_chart}
use Rattle.pages.specs.Programs.{program_room}

-- a table that is not refused beside its chart and has no more states than the programs' room
pub record Shown (c table : List ℕ) (count : ℕ) : Type 0 where
  pub chart : chart_fits c ≡ true
  pub fits : table_fits_chart c table count (letters c) ≡ true
  pub few : count ≤ program_room

-- so is what a builder leaves that refuses nothing
abbrev pub Sound : List ℕ → List ℕ → Reply → Type 0
Sound c table r = r.0 ≡ 0 → Shown c table (get_or r.1 0 0)
