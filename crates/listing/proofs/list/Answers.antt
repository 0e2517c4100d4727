-- `listing::list` meets its contract. Assumes nothing.
use Rattle.offer.proofs.Having.{has-from}
use Rattle.machine.proofs.Whole.{state-whole}
use Rattle.listing.proofs.Asked.{list-unplanned, out-unplanned}
use Rattle.listing.proofs.list.Goals as goal

ruleset cases = (has-from, list-unplanned, out-unplanned)

pub returns-in_default : goal.returns-in_default
returns-in_default c = search cases

pub list_by-requires : goal.list_by-requires
list_by-requires c = let l = (state-whole c.args.state _ c.well_formed.0).messages-long in
    search cases
