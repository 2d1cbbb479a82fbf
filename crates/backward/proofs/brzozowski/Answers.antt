-- `backward::brzozowski` meets its contract. Assumes nothing.
use Rattle.std.proofs.lemmas.Result.{err_from_is_err_and}
use Rattle.row_build.specs.Lent.{lent}
use Rattle.backward.proofs.Before.{both_refused, opened_fits, both_opened}
use Rattle.backward.proofs.brzozowski.Goals as goal

pub build_both-requires : goal.build_both-requires
build_both-requires c = opened_fits _ _ c.in_ok-open.ensures

pub returns-in_err-open : goal.returns-in_err-open
returns-in_err-open c =
    let p = err_from_is_err_and c.from_residual.result c.from_residual.ensures.1 in
    rw (p.1, p.2)
    (both_refused _ _ _ (lent c.args.table.now c.args.reverse_table.now c.args.reverse_vectors.now c.args.rows.now) _ c.in_err-open.ensures)

pub returns : goal.returns
returns c =
    both_opened _ _ _ (lent c.args.table.now c.args.reverse_table.now c.args.reverse_vectors.now c.args.rows.now) _ c.in_ok-open.ensures
    c.build_both.ensures
