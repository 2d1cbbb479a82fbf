-- Rooms that fit, from the tests of the code. Assumes nothing.
use mathlib.Core.Path.{◌≡◌, sym, ap, ◌∙◌}
use mathlib.Core.Bool.{Bool, true, false}
use mathlib.Core.List.{List}
use Prim.Native.Nat.{ℕ, suc, ◌*◌, ◌≤◌}
use lib.ListN.{length, replicate}
use borrow.Author.Tests.{leb-true}
use Rattle.paper.specs.Lists.{both, zeros}
use Rattle.paper.specs.Tables.{row_size}
use Rattle.paper.specs.Builders.{room_fits}
use Rattle.lists.proofs.Tests.{both_split}

module _ (most m w room table values : ℕ) where
  -- what a room that fits gives
  pub record Roomy : Type 0 where
    pub low : 1 ≤ room
    pub high : room ≤ most
    pub rows : room * row_size m ≤ table
    pub places : suc room * w ≤ values

  pub roomy : room_fits most m w room table values ≡ true → Roomy
  unfolding room_fits
  roomy e =
      let a = both_split _ _ e in
      let b = both_split _ _ a.0 in
      let d = both_split _ _ a.1 in
      record { low = leb-true _ _ b.0; high = leb-true _ _ b.1; rows = leb-true _ _ d.0; places = leb-true _ _ d.1 }

-- of two tests the second passed: the first decides
pub first_decides : (a b : Bool) {r : Bool} → r ≡ a → b ≡ true → r ≡ both a b
unfolding both
first_decides true b e q = e ∙ sym q
first_decides false b e q = e

-- zeros in a buffer that kept its length
pub zeros_of : (old new : List ℕ) {out : List ℕ} → out ≡ zeros new → length new ≡ length old → out ≡ zeros old
zeros_of old new e l = e ∙ ap (λ k. replicate k 0) l
