-- `listing::letters::list_starts` meets its contract. Assumes nothing.
use Rattle.offer.proofs.Starting.{starts-all}
use Rattle.listing.proofs.letters.list_starts.Goals as goal

ruleset cases = (starts-all)

pub returns : goal.returns
returns c = search cases
