-- `activity::closes` meets its contract. Assumes nothing.
use Rattle.activity.proofs.StepReturns.{closes-is, closes-full}
use Rattle.activity.proofs.closes.Goals as goal

ruleset cases = (closes-is, closes-full)

pub returns-then-f-lt32 : goal.returns-then-f-lt32
returns-then-f-lt32 c = search cases

pub returns-else-f-lt32 : goal.returns-else-f-lt32
returns-else-f-lt32 c = search cases
