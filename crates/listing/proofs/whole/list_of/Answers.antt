-- `listing::whole::list_of` meets its contract. Assumes nothing.
use borrow.Author.Rules.{rules}
use Rattle.listing.proofs.Asked.{lists-all}
use Rattle.listing.proofs.whole.list_of.Goals as goal

ruleset cases = (lists-all, rules)

pub returns : goal.returns
returns c = search cases
