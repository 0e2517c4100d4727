-- `plan::owns::plain_own` meets its contract. Assumes nothing.
use mathlib.Core.Path.{refl}
use Rattle.plan.specs.Store.{store, padded}
use Rattle.plan.proofs.owns.plain_own.Goals as goal

pub returns-clause-is : goal.returns-clause-is
unfolding store padded
returns-clause-is c = refl

pub returns-clause-put : goal.returns-clause-put
unfolding store padded
returns-clause-put c = c.write_row.ensures
