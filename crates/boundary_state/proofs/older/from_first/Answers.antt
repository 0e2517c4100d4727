-- `boundary_state::older::from_first` meets its contract. Assumes nothing.
use Rattle.boundary_state.proofs.Renewing.{first-is}
use Rattle.boundary_state.proofs.older.from_first.Goals as goal

ruleset cases = (first-is)

pub returns : goal.returns
returns c = search cases
