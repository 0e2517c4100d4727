-- `acting::outcomes::faults` meets its contract. Assumes nothing.
use Rattle.acting.proofs.OutcomeReturns.{faults-is}
use Rattle.acting.proofs.outcomes.faults.Goals as goal

ruleset cases = (faults-is)

pub returns : goal.returns
returns c = search cases
