-- `plan::table::write_row` meets its contract. Assumes nothing.
use native.Mathlib.Nat.{add-zero}
use Rattle.plan.specs.Store.{store}
use Rattle.plan.specs.Table.{put_row}
use Rattle.plan.proofs.table.write_row.Goals as goal

pub returns : goal.returns
unfolding put_row store
returns c = rw (c.note.ensures, add-zero)
