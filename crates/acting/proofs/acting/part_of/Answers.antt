-- `acting::acting::part_of` meets its contract. Assumes nothing.
use Rattle.acting.proofs.CombineReturns.{part-own, part-around}
use Rattle.acting.proofs.acting.part_of.Goals as goal

ruleset cases = (part-own, part-around)

pub returns-then-is_scope : goal.returns-then-is_scope
returns-then-is_scope c = search cases

pub returns-else-is_scope : goal.returns-else-is_scope
returns-else-is_scope c = search cases
