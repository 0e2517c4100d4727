-- `plan::table::write_numbers` meets its contract. Assumes nothing.
use native.Mathlib.Nat.{add-zero}
use Rattle.plan.specs.Store.{store}
use Rattle.plan.specs.Table.{noted, put_row}
use Rattle.plan.proofs.table.write_numbers.Goals as goal

pub returns : goal.returns
unfolding noted put_row store
returns c = rw add-zero
