-- The loop of `vectors::times::join_row`: the places below q are joined, those behind are as at entry.
use Rattle.vectors.proofs.Products.{Joining}
use Rattle.vectors.proofs.times.join_row.Given as goal

abbrev pub invariant-loop-q : goal.invariant-loop-q
invariant-loop-q l = Joining l.chart l.x l.p l.a l.initial.out l.out l.q
