-- `tables::walk` meets its contract. The loop's invariant: the letters that are left lead from s to where the whole word leads from 0.
-- Assumes nothing.
use mathlib.Core.Path.{◌≡◌}
use Prim.Native.Nat.{◌<◌}
use lib.ListN.{drop}
use Rattle.paper.specs.Words.{after}
use Rattle.paper.specs.Tables.{next_by}
use Rattle.tables.proofs.walk.Given as goal

abbrev pub invariant-loop-letter : goal.invariant-loop-letter
invariant-loop-letter l =
    (l.s < l.count) × (after (next_by l.rows l.m) l.s (drop l.letter-index l.word) ≡ after (next_by l.rows l.m) 0 l.word)
