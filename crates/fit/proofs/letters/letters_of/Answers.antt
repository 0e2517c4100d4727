-- `fit::letters::letters_of` meets its contract. Assumes nothing.
use borrow.Author.Rules.{rules}
use Rattle.fit.proofs.Sets.{letters_of}
use Rattle.fit.proofs.letters.letters_of.Goals as goal

pub returns : goal.returns
returns c = search (letters_of, rules)
