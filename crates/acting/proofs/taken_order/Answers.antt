-- `acting::taken_order` meets its contract. Assumes nothing.
use Rattle.acting.proofs.TakeReturns.{takes-beyond, takes-far, takes-row, takes-asking, takes_none}
use Rattle.acting.proofs.taken_order.Goals as goal
use Rattle.acting.proofs.taken_order.Goals.{then-activities-t-via-then-activities-t, then-activities-t-via-else-activities-t+then-t-ge256}

ruleset cases = (takes-beyond, takes-far, takes-row, takes-asking, takes_none)

pub returns-then-activities-t : goal.returns-then-activities-t
returns-then-activities-t c =
    elim c.then-activities-t.branch [
      | then-activities-t-via-then-activities-t w ↦ search cases
      | then-activities-t-via-else-activities-t+then-t-ge256 w ↦ search cases
    ]

pub returns-in-2 : goal.returns-in-2
returns-in-2 c = search cases

pub returns-in-18 : goal.returns-in-18
returns-in-18 c = search cases

pub returns-in_default : goal.returns-in_default
returns-in_default c = search cases
