-- `acting::acting::replaced` meets its contract. Assumes nothing.
use Rattle.acting.proofs.CombineReturns.{replaced-one, replaced-other}
use Rattle.acting.proofs.acting.replaced.Goals as goal

ruleset cases = (replaced-one, replaced-other)

pub returns-in-2 : goal.returns-in-2
returns-in-2 c = search cases

pub returns-in_default : goal.returns-in_default
returns-in_default c = search cases
