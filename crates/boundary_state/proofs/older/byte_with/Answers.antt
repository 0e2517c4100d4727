-- `boundary_state::older::byte_with` meets its contract. Assumes nothing.
use Rattle.boundary_state.proofs.Renewing.{with-mark, with-before, with-order}
use Rattle.boundary_state.proofs.older.byte_with.Goals as goal

ruleset cases = (with-mark, with-before, with-order)

pub returns-then-i-eq7 : goal.returns-then-i-eq7
returns-then-i-eq7 c = search cases

pub returns-then-i-lt5932 : goal.returns-then-i-lt5932
returns-then-i-lt5932 c = search cases

pub returns : goal.returns
returns c = search cases
