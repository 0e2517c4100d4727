-- `boundary::moonhalyard_offers` meets its contract. Assumes nothing.
use Rattle.boundary.proofs.Calling.{offers-is}
use Rattle.boundary.proofs.moonhalyard_offers.Goals as goal

pub returns : goal.returns
returns c = offers-is c.args.state.now c.unpack-k.ensures c.offers.ensures c.offers_number.ensures
