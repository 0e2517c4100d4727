-- `acting::acting::joins` meets its contract. Assumes nothing.
use Rattle.acting.proofs.ChildReturns.{joins-over, joins-waits}
use Rattle.acting.proofs.acting.joins.Goals as goal

ruleset cases = (joins-over, joins-waits)

pub returns-then-quiet : goal.returns-then-quiet
returns-then-quiet c = search cases

pub returns-else-quiet : goal.returns-else-quiet
returns-else-quiet c = search cases
