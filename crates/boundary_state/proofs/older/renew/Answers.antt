-- `boundary_state::older::renew` meets its contract. Assumes nothing.
use Rattle.boundary_state.proofs.Renewing.{renew-is}
use Rattle.boundary_state.proofs.older.renew.Goals as goal

ruleset cases = (renew-is)

pub returns : goal.returns
returns c = search cases
