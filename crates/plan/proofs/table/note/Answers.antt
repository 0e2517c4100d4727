-- `plan::table::note` meets its contract. Assumes nothing.
use mathlib.Core.Path.{sym, ◌∙◌}
use native.Mathlib.Nat.{add-zero}
use Rattle.plan.specs.Store.{store}
use Rattle.plan.specs.Table.{noted}
use Rattle.plan.proofs.table.note.Goals as goal

pub returns-then-receives : goal.returns-then-receives
unfolding noted store
returns-then-receives c = rw (sym c.receives.ensures ∙ c.if-receives.true, add-zero)

pub returns-else-receives : goal.returns-else-receives
unfolding noted store
returns-else-receives c = rw (sym c.receives.ensures ∙ c.if-receives.false)
