-- `listing::letters::list_letters` meets its contract. Assumes nothing.
use borrow.Author.Rules.{rules}
use Rattle.offer.proofs.Starting.{starting-starts, starting-again, starting-done}
use Rattle.listing.proofs.Asked.{letter-lists}
use Rattle.listing.proofs.letters.list_letters.Goals as goal

ruleset cases = (letter-lists, starting-starts, starting-again, starting-done)

pub loop-j-init : goal.loop-j-init
loop-j-init c = (search cases, search rules)

pub loop-j-preserved : goal.loop-j-preserved
loop-j-preserved c = (search cases, search rules)

pub returns : goal.returns
returns c = search cases
