-- `acting::outcomes::part_raised` meets its contract. Assumes nothing.
use Rattle.acting.proofs.OutcomeReturns.{part-breaks, part-absorbed}
use Rattle.acting.proofs.outcomes.part_raised.Goals as goal

ruleset cases = (part-breaks, part-absorbed)

pub returns-then-state_of-eq-HANDLING : goal.returns-then-state_of-eq-HANDLING
returns-then-state_of-eq-HANDLING c = search cases

pub returns-else-state_of-eq-HANDLING : goal.returns-else-state_of-eq-HANDLING
returns-else-state_of-eq-HANDLING c = search cases
