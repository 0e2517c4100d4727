-- `acting::outcomes::part_over` meets its contract. Assumes nothing.
use Rattle.acting.proofs.OutcomeReturns.{part-ends, part-not}
use Rattle.acting.proofs.outcomes.part_over.Goals as goal

ruleset cases = (part-ends, part-not)

pub returns-then-state_of-eq-HANDLING : goal.returns-then-state_of-eq-HANDLING
returns-then-state_of-eq-HANDLING c = search cases

pub returns-else-state_of-eq-HANDLING : goal.returns-else-state_of-eq-HANDLING
returns-else-state_of-eq-HANDLING c = search cases
