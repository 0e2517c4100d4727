-- `fit::least::least_slot` meets its contract. Assumes nothing.
use Rattle.fit.proofs.Sets.{least_slot}
use Rattle.fit.proofs.least.least_slot.Goals as goal
use Rattle.fit.proofs.least.least_slot.Goals.{then-activities-gt256-via-then-activities-gt256, then-activities-gt256-via-else-activities-gt256+then-waiting-gt64, then-activities-gt256-via-else-activities-gt256+else-waiting-gt64+then-order-eq0}

pub returns-then-activities-gt256 : goal.returns-then-activities-gt256
returns-then-activities-gt256 c =
    elim c.then-activities-gt256.branch [
      | then-activities-gt256-via-then-activities-gt256 w ↦ search least_slot
      | then-activities-gt256-via-else-activities-gt256+then-waiting-gt64 w ↦ search least_slot
      | then-activities-gt256-via-else-activities-gt256+else-waiting-gt64+then-order-eq0 w ↦ search least_slot
    ]

pub returns : goal.returns
returns c = search least_slot
