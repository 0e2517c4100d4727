-- `offer::previews::sight_of` meets its contract. Assumes nothing.
use borrow.Author.Rules.{rules}
use Rattle.offer.proofs.Sets.{sight_of}
use Rattle.offer.proofs.previews.sight_of.Goals as goal

pub returns : goal.returns
returns c = search (sight_of, rules)
