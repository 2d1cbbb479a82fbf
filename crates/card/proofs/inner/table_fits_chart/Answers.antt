-- `card::inner::table_fits_chart` meets its contract. Assumes nothing.
use mathlib.Core.Path.{sym, ◌∙◌}
use borrow.Author.Tests.{ne_eqb}
use Rattle.card.proofs.Caps.{other_letters, same_letters}
use Rattle.card.proofs.inner.table_fits_chart.Goals as goal

pub returns-then-m-letters : goal.returns-then-m-letters
returns-then-m-letters c = same_letters _ _ _ _ (c.if-m-letters.true ∙ c.letters.ensures.is) c.k.ensures.is _ c.table_fits.ensures

pub returns-else-m-letters : goal.returns-else-m-letters
returns-else-m-letters c = ne_eqb _ _ c.if-m-letters.false ∙ other_letters _ _ _ _ (λ e. c.if-m-letters.false (e ∙ sym c.letters.ensures.is))
