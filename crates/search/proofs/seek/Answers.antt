-- `search::seek` meets its contract. Assumes nothing.
use mathlib.Core.Path.{◌≡◌, sym, ◌∙◌}
use Prim.Native.Nat.{◌+◌, ◌*◌}
use native.Mathlib.Omega.{arith}
use lib.ListN.{take}
use Rattle.paper.specs.Constructions.{reduced_key}
use Rattle.kinds.proofs.Keys.{key_front}
use Rattle.kinds.proofs.KindLaws.{keyed_is, key_small, as_vector}
use Rattle.search.proofs.Found.{candidate, key_reduced, size_reduced, key_itself, size_itself}
use Rattle.search.proofs.seek.Goals as goal

pub put_key-requires : goal.put_key-requires
put_key-requires c =
    let e = keyed_is c.args.plan.now.kind (sym c.keyed.ensures ∙ c.if-keyed.true) in
    (as_vector c.args.plan.now (rw e) (candidate c.args.plan.now c.args.vectors.now c.args.held c.requires.2), omega (arith, key_small c.args.plan.now))

pub look-requires : goal.look-requires
look-requires c =
    let e = keyed_is c.args.plan.now.kind (sym c.keyed.ensures ∙ c.if-keyed.true) in
    let k : take (c.letters.result * c.n.result + 1) c.put_key.new.out ≡ reduced_key c.args.plan.now.chart.now _ =
    rw (c.letters.ensures.is, c.n.ensures.is) (key_front c.args.plan.now.chart.now _ _ c.put_key.ensures) in
    (c.requires.0, c.requires.1, c.requires.2, key_reduced c.args.plan.now c.args.vectors.now c.args.held e k, size_reduced c.args.plan.now c.args.vectors.now c.args.held e k)

pub look-requires-else-keyed : goal.look-requires-else-keyed
look-requires-else-keyed c =
    let e = sym c.keyed.ensures ∙ c.if-keyed.false in
    (c.requires.0, c.requires.1, c.requires.2, key_itself c.args.plan.now c.args.vectors.now c.args.held e, size_itself c.args.plan.now c.args.vectors.now c.args.held e c.requires.2)
