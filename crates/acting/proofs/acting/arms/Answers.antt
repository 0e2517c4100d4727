-- `acting::acting::arms` meets its contract. Assumes nothing.
use Rattle.acting.proofs.ChildReturns.{arms-taken, arms-other, arms_none, arms-no-pick}
use Rattle.acting.proofs.acting.arms.Goals as goal
use Rattle.acting.proofs.acting.arms.Goals.{else-kind_of-eq-PICK-via-then-kind_of-eq-PICK+then-child-e+else-child-t, else-kind_of-eq-PICK-via-then-kind_of-eq-PICK+else-child-e, else-kind_of-eq-PICK-via-else-kind_of-eq-PICK}

ruleset cases = (arms-taken, arms-other, arms_none, arms-no-pick)

pub returns-then-child-t : goal.returns-then-child-t
returns-then-child-t c = search cases

pub returns-else-kind_of-eq-PICK : goal.returns-else-kind_of-eq-PICK
returns-else-kind_of-eq-PICK c =
    elim c.else-kind_of-eq-PICK.branch [
      | else-kind_of-eq-PICK-via-then-kind_of-eq-PICK+then-child-e+else-child-t w ↦ search cases
      | else-kind_of-eq-PICK-via-then-kind_of-eq-PICK+else-child-e w ↦ search cases
      | else-kind_of-eq-PICK-via-else-kind_of-eq-PICK w ↦ search cases
    ]
