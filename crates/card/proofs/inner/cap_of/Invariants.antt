-- `card::inner::cap_of` meets its contract. The loop's invariant: the grades of s states are joined.
-- Assumes nothing.
use Rattle.card.proofs.Caps.{Joined}
use Rattle.card.proofs.inner.cap_of.Given as goal

abbrev pub invariant-loop-s : goal.invariant-loop-s
invariant-loop-s l = Joined l.chart l.rows l.count l.m l.s l.cap
