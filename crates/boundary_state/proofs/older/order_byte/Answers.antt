-- `boundary_state::older::order_byte` meets its contract. Assumes nothing.
use Rattle.boundary_state.proofs.Renewing.{order-before, order-closing, order-after}
use Rattle.boundary_state.proofs.older.order_byte.Goals as goal

ruleset cases = (order-before, order-closing, order-after)

pub returns-then-within-lt337 : goal.returns-then-within-lt337
returns-then-within-lt337 c = search cases

pub returns-then-within-lt401 : goal.returns-then-within-lt401
returns-then-within-lt401 c = search cases

pub returns : goal.returns
returns c = search cases
