-- `frames::digits_fit` meets its contract: the test of `all` is that of `digit_fits`.
-- Assumes nothing.
use mathlib.Core.Path.{refl}
use Rattle.std.proofs.Common.{rules}
use Rattle.std.proofs.lemmas.Bool.Decides.{nat_tests}
use Rattle.pages.specs.Frames.{digit_fits}
use Rattle.lists.proofs.Methods.{range_all}
use Rattle.frames.proofs.digits_fit.Goals as goal

pub returns : goal.returns
unfolding digit_fits
returns c = range_all _ _ c.all.result (digit_fits c.args.text.now c.args.pos) c.args.n refl c.all.ensures.ran (λ x b q k. search (rules, nat_tests))
