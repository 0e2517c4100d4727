-- `store::nothing` meets its contract. Assumes nothing.
use Rattle.store.proofs.Records.{nothing_is}
use Rattle.store.proofs.nothing.Goals as goal

pub returns : goal.returns
returns c = nothing_is c.no_state.ensures c.no_tally.ensures
