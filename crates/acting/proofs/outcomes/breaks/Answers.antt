-- `acting::outcomes::breaks` meets its contract. Assumes nothing.
use Rattle.acting.proofs.OutcomeReturns.{breaks-is}
use Rattle.acting.proofs.outcomes.breaks.Goals as goal

ruleset cases = (breaks-is)

pub returns : goal.returns
returns c = search cases
