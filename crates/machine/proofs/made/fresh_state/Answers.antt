-- `machine::made::fresh_state` meets its contract. Assumes nothing.
use Rattle.machine.proofs.Copied.{fresh-is}
use Rattle.machine.proofs.made.fresh_state.Goals as goal

ruleset cases = (fresh-is)

pub returns : goal.returns
returns c = search cases
