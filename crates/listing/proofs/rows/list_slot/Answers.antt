-- `listing::rows::list_slot` meets its contract. Assumes nothing.
use Rattle.fit.proofs.Crossed.{slot-free}
use Rattle.listing.proofs.Asked.{list-live}
use Rattle.listing.proofs.rows.list_slot.Goals as goal

ruleset cases = (slot-free, list-live)

pub returns-then-order-eq0 : goal.returns-then-order-eq0
returns-then-order-eq0 c = search cases

pub returns : goal.returns
returns c = search cases
