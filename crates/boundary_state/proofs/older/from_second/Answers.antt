-- `boundary_state::older::from_second` meets its contract. Assumes nothing.
use Rattle.boundary_state.proofs.Renewing.{second_is}
use Rattle.boundary_state.proofs.older.from_second.Goals as goal

ruleset cases = (second_is)

pub returns : goal.returns
returns c = search cases
