-- `settling::conflict::reach_at` meets its contract. Assumes nothing.
use Rattle.settling.proofs.ConflictReturns.{reach-other, reach-still, reach-pick}
use Rattle.settling.proofs.conflict.reach_at.Goals as goal

ruleset cases = (reach-other, reach-still, reach-pick)

pub returns-then-marks-k-eq-ACTIVE : goal.returns-then-marks-k-eq-ACTIVE
returns-then-marks-k-eq-ACTIVE c = search cases
