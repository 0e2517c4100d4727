-- `boundary::moonhalyard_offer` meets its contract. Assumes nothing.
use Rattle.boundary.proofs.Calling.{offer-is}
use Rattle.boundary.proofs.moonhalyard_offer.Goals as goal

pub returns : goal.returns
returns c = offer-is c.args.choice c.args.state.now c.unpack-k.ensures c.offer.ensures c.step_number.ensures
