-- `listing::rows::lesser_of` meets its contract. Assumes nothing.
use Rattle.listing.proofs.Asked.{lesser-left, lesser-skip}
use Rattle.listing.proofs.rows.lesser_of.Goals as goal

ruleset cases = (lesser-left, lesser-skip)

pub returns-then-left-skip : goal.returns-then-left-skip
returns-then-left-skip c = search cases

pub returns-else-left-skip : goal.returns-else-left-skip
returns-else-left-skip c = search cases
