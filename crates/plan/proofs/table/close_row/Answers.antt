-- `plan::table::close_row` meets its contract. Assumes nothing.
use mathlib.Core.Path.{refl}
use Rattle.plan.specs.Store.{store}
use Rattle.plan.specs.Table.{put_close}
use Rattle.plan.proofs.table.close_row.Goals as goal

pub returns : goal.returns
unfolding put_close store
returns c = refl
