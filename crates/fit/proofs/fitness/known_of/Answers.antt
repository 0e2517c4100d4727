-- `fit::fitness::known_of` meets its contract. Assumes nothing.
use borrow.Author.Rules.{rules}
use Rattle.fit.proofs.Sets.{known_of}
use Rattle.fit.proofs.fitness.known_of.Goals as goal

pub returns : goal.returns
returns c = search (known_of, rules)
