-- What is refused before anything is built. Assumes nothing.
use mathlib.Core.Path.{◌≡◌, ap, ◌∙◌}
use mathlib.Core.Bool.{Bool, true, false}
use mathlib.Core.List.{List, []}
use Prim.Native.Nat.{ℕ}
use lib.ListN.{length}
use Rattle.paper.specs.Lists.{both}
use Rattle.paper.specs.Chart.{n_of, letters}
use Rattle.paper.specs.Check.{chart_fits}
use Rattle.replies.specs.Replies.{said}
use Rattle.paper.specs.Builders.{room_fits, state_most, reverse_most, Lent, Backward, backward_room, brzozowski}
use Rattle.replies.specs.declared.Refusal.{Refusal}
use Rattle.replies.specs.declared.Shape.{Shape}
use Rattle.cells.specs.Shaped.{Shaped}
use Rattle.std.specs.Prelude.{Ok, Err}
use Rattle.chart.specs.Opened.{Opened}
use Rattle.row_build.specs.Lent.{lent}

pub opened_fits : (c v : List ℕ) → Opened c (Ok v) → chart_fits v ≡ true
opened_fits c v e = rw e.1 e.0

module _ (c : List ℕ) (room reverse : ℕ) (l : Lent) where
  -- the rooms do not fit
  pub both_room : chart_fits c ≡ true → backward_room c room reverse l ≡ false → record { reply = (5, []); left = l } ≡ brzozowski c room reverse l
  unfolding brzozowski
  both_room f e = simp (f, e)

  -- a refused chart
  pub both_refused : (why : Refusal) → Opened c (Err why) → record { reply = said why; left = l } ≡ brzozowski c room reverse l
  unfolding brzozowski
  both_refused why e = rw (e.0, ← e.1)

  -- a chart that was opened
  module _ (v : List ℕ) (e : Opened c (Ok v)) where
    pub both_opened : {left : Backward} → left ≡ brzozowski v room reverse l → left ≡ brzozowski c room reverse l
    both_opened p = p ∙ ap (λ (w : List ℕ). brzozowski w room reverse l) e.1

-- the rooms by the chart's own letters and states, whatever its bytes are
pub rooms_tested : (c : List ℕ) (room reverse : ℕ) (table rt rv rows : List ℕ) {b : Bool} →
    both (room_fits state_most (letters c) reverse room (length table) (length rows)) (room_fits reverse_most (letters c) (n_of c) reverse (length rt) (length rv)) ≡ b →
    backward_room c room reverse (lent table rt rv rows) ≡ b
unfolding backward_room
rooms_tested c room reverse table rt rv rows e = e

-- and as the code tests them, by its shape
pub rooms_read : {c : List ℕ} {s : Shape} (room reverse : ℕ) (table rt rv rows : List ℕ) {b : Bool} → Shaped c s →
    both (room_fits state_most s.letters reverse room (length table) (length rows)) (room_fits reverse_most s.letters s.n reverse (length rt) (length rv)) ≡ b →
    backward_room c room reverse (lent table rt rv rows) ≡ b
rooms_read room reverse table rt rv rows h e = rooms_tested _ room reverse table rt rv rows (rw (← h.letters_is, ← h.n_is) e)
