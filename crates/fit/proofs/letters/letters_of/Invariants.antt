-- `fit::letters::letters_of` meets its contract. Assumes nothing.
use Rattle.fit.proofs.Filled.{Filling}
use Rattle.fit.proofs.FitReturns.{Numbered}
use Rattle.fit.proofs.letters.letters_of.Given as goal

abbrev pub invariant-loop-i : goal.invariant-loop-i
invariant-loop-i l = Filling (Numbered l.messages) 512 l.out l.i
