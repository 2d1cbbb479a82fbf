-- `key_bytes::put_key` meets its contract. Assumes nothing.
use mathlib.Core.Path.{◌≡◌}
use Rattle.paper.specs.Lists.{joined, in_front}
use Rattle.paper.specs.Constructions.{letter_key}
use Rattle.key_bytes.proofs.put_key.Given as goal

abbrev pub invariant-loop-letter : goal.invariant-loop-letter
invariant-loop-letter l = l.out ≡ in_front (joined l.letter (letter_key l.chart l.v)) l.initial.out
