-- `listing::list_by` meets its contract. Assumes nothing.
use Rattle.offer.proofs.Having.{has_room}
use Rattle.listing.proofs.Asked.{list_counted, list_written}
use Rattle.listing.proofs.list_by.Goals as goal

ruleset cases = (has_room, list_counted, list_written)

pub list_of-w-requires : goal.list_of-w-requires
list_of-w-requires c = search cases

pub returns : goal.returns
returns c = search cases
