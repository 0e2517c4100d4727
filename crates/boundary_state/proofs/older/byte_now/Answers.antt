-- `boundary_state::older::byte_now` meets its contract. Assumes nothing.
use Rattle.boundary_state.proofs.Renewing.{now-mark, now-before, now-message, now-after}
use Rattle.boundary_state.proofs.older.byte_now.Goals as goal

ruleset cases = (now-mark, now-before, now-message, now-after)

pub returns-then-i-eq7 : goal.returns-then-i-eq7
returns-then-i-eq7 c = search cases

pub returns-then-i-lt4140 : goal.returns-then-i-lt4140
returns-then-i-lt4140 c = search cases

pub returns-then-i-lt6188 : goal.returns-then-i-lt6188
returns-then-i-lt6188 c = search cases

pub returns : goal.returns
returns c = search cases
