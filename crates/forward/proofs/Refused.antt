-- What is built of a chart that was opened is built of its bytes, and a refused chart leaves what was lent. Assumes nothing.
use mathlib.Core.Path.{◌≡◌, ap, ◌∙◌}
use mathlib.Core.Bool.{true}
use mathlib.Core.List.{List}
use Prim.Native.Nat.{ℕ}
use Rattle.std.specs.Prelude.{Ok, Err}
use Rattle.replies.specs.Replies.{said}
use Rattle.paper.specs.Check.{chart_fits}
use Rattle.paper.specs.Constructions.{Construction}
use Rattle.paper.specs.Builders.{Forward, forward}
use Rattle.kinds.specs.Kinds.{vectors_by}
use Rattle.replies.specs.declared.Refusal.{Refusal}
use Rattle.kinds.specs.declared.Kind.{Kind}
use Rattle.chart.specs.Opened.{Opened}

pub build_refused : (c : List ℕ) (b : Construction) (room : ℕ) (table vectors : List ℕ) (why : Refusal) → Opened c (Err why) →
    record { reply = said why; table = table; vectors = vectors } ≡ forward c b room table vectors
unfolding forward
build_refused c b room table vectors why e = rw (e.0, ← e.1)

module _ (c v : List ℕ) (e : Opened c (Ok v)) where
  pub opened_fits : chart_fits v ≡ true
  opened_fits = rw e.1 e.0

  pub build_opened : (kind : Kind) (room : ℕ) (table vectors : List ℕ) {left : Forward} → left ≡ forward v (vectors_by kind v) room table vectors → left ≡ forward c (vectors_by kind c) room table vectors
  build_opened kind room table vectors p = p ∙ ap (λ (w : List ℕ). forward w (vectors_by kind w) room table vectors) e.1
