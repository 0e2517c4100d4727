-- `plan::owns::own_at` meets its contract. Assumes nothing.
use Rattle.plan.proofs.OwnReads.{own-of-arm, own-of-activity}
use Rattle.plan.proofs.owns.own_at.Goals as goal

ruleset cases = (own-of-arm, own-of-activity)

pub returns-then-arm : goal.returns-then-arm
returns-then-arm c = search cases

pub returns-else-arm : goal.returns-else-arm
returns-else-arm c = search cases
