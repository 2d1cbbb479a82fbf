-- What each program answers.
use Rattle.std.specs.Prelude.{List, ℕ}
use Rattle.pages.specs.Programs.{nerode_makes, reduced_makes, brz_makes}
use Rattle.answers.specs.declared.Program.{Program}

-- what each program makes of the chart that was read
abbrev pub makes : Program → List ℕ → List ℕ
makes Program.Nerode = nerode_makes
makes Program.Reduced = reduced_makes
makes Program.Brz = brz_makes
