-- `acting::outcomes::looks_again` meets its contract. Assumes nothing.
use Rattle.acting.proofs.OutcomeReturns.{looks-faulty, looks-halted, looks-not}
use Rattle.acting.proofs.outcomes.looks_again.Goals as goal

ruleset cases = (looks-faulty, looks-halted, looks-not)

pub returns-then-state_of-eq-FAULTY : goal.returns-then-state_of-eq-FAULTY
returns-then-state_of-eq-FAULTY c = search cases

pub returns-then-mark_of-eq-HALTED : goal.returns-then-mark_of-eq-HALTED
returns-then-mark_of-eq-HALTED c = search cases

pub returns-else-mark_of-eq-HALTED : goal.returns-else-mark_of-eq-HALTED
returns-else-mark_of-eq-HALTED c = search cases
