-- `boundary_state::older::byte_of` meets its contract. Assumes nothing.
use Rattle.boundary_state.proofs.Renewing.{byte-mark, byte-before, byte-order}
use Rattle.boundary_state.proofs.older.byte_of.Goals as goal

ruleset cases = (byte-mark, byte-before, byte-order)

pub returns-then-i-eq7 : goal.returns-then-i-eq7
returns-then-i-eq7 c = search cases

pub returns-then-i-lt5932 : goal.returns-then-i-lt5932
returns-then-i-lt5932 c = search cases

pub returns : goal.returns
returns c = search cases
