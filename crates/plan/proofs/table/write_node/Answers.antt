-- `plan::table::write_node` meets its contract. Assumes nothing.
use native.Mathlib.Nat.{add-zero}
use Rattle.plan.specs.Store.{store}
use Rattle.plan.specs.Table.{put_node}
use Rattle.plan.proofs.table.write_node.Goals as goal

pub returns : goal.returns
unfolding put_node store
returns c = rw add-zero
