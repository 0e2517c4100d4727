-- `boundary::moonhalyard_list` meets its contract. Assumes nothing.
use Rattle.boundary.proofs.Calling.{list-number, list_put}
use Rattle.boundary.proofs.moonhalyard_list.Goals as goal

ruleset cases = (list-number, list_put)

pub returns : goal.returns
returns c = search cases
