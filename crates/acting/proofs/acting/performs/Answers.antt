-- `acting::acting::performs` meets its contract. Assumes nothing.
use Rattle.acting.proofs.CombineReturns.{performs-raise, performs-own}
use Rattle.acting.proofs.acting.performs.Goals as goal

ruleset cases = (performs-raise, performs-own)

pub returns-else-raise : goal.returns-else-raise
returns-else-raise c = search cases
