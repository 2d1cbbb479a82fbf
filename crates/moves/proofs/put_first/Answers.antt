-- `moves::put_first` meets its contract. Assumes nothing.
use mathlib.Core.Logic.{inl, inr}
use Rattle.kinds.proofs.KindLaws.{start_fits, end_fits}
use Rattle.moves.proofs.put_first.Goals as goal

pub put-requires : goal.put-requires
put-requires c = start_fits c.args.plan.now c.in-Nerode.is c.start.ensures c.requires.1

pub put-requires-in-Reverse : goal.put-requires-in-Reverse
put-requires-in-Reverse c = end_fits c.args.plan.now c.in-Reverse.is c.end.ensures c.requires.1

pub returns-in-Nerode : goal.returns-in-Nerode
returns-in-Nerode c =
    elim c.in-Nerode.is [
      | inl e ↦ rw (e, ← c.start.ensures.is) c.put.ensures
      | inr e ↦ rw (e, ← c.start.ensures.is) c.put.ensures
    ]

pub returns-in-Reverse : goal.returns-in-Reverse
returns-in-Reverse c = rw (c.in-Reverse.is, ← c.end.ensures.is) c.put-in-Reverse.ensures
