-- `printing::put_table` meets its contract: the first line, the rows behind it, the cap behind them.
-- Assumes nothing.
use native.Mathlib.Omega.{arith}
use Rattle.printing.proofs.TableText.{few, rows_in, rows_put, table_put}
use Rattle.printing.proofs.put_table.Goals as goal

pub overflow_cast-m : goal.overflow_cast-m
overflow_cast-m c = omega (arith, few c.requires)

pub put_rows-requires : goal.put_rows-requires
put_rows-requires c = rows_in c.requires c.put_frame.new.out c.put_frame.auto.out

pub overflow_mul-at : goal.overflow_mul-at
overflow_mul-at c = omega (arith, few c.requires)

pub overflow_add-at : goal.overflow_add-at
overflow_add-at c = omega (arith, few c.requires)

pub returns : goal.returns
returns c = table_put c.requires _ _ _ (rows_put c.requires _ _ (rw c.to_be_bytes.ensures at c.put_frame.ensures) c.put_rows.ensures) c.cap_of-cap.ensures c.put_frame-2.ensures
