-- `tables::grade_word` meets its contract: each return is what the tests on its way make of `word_reply`. Assumes nothing.
use Rattle.std.proofs.lemmas.Result.{err_from_is_err_and}
use Rattle.tables.proofs.Walks.{passed, word_table, word_letter, word_walkable, word_grade}
use Rattle.tables.proofs.grade_word.Goals as goal

pub returns-in_err-check_table : goal.returns-in_err-check_table
returns-in_err-check_table c =
    let p = err_from_is_err_and c.from_residual.result c.from_residual.ensures.1 in
    rw (p.1, p.2) (word_table _ _ _ _ _ c.in_err-check_table.ensures)

pub walk-requires : goal.walk-requires
walk-requires c = word_walkable _ _ _ _ (passed _ _ _ c.in_ok-check_table.ensures) c.bad_letter.ensures c.in-None.is

pub returns-in-Some : goal.returns-in-Some
returns-in-Some c = word_letter _ _ _ _ (passed _ _ _ c.in_ok-check_table.ensures) c.bad_letter.ensures c.in-Some.is

pub returns-in-None : goal.returns-in-None
returns-in-None c = word_grade _ _ _ _ (passed _ _ _ c.in_ok-check_table.ensures) c.bad_letter.ensures c.in-None.is c.walk.ensures
