-- `names::number_named` meets its contract. The loop's invariant: the search from k on finds what the whole search finds. Assumes nothing.
use Rattle.std.proofs.Common.{◌≡◌, ◌+◌, ◌-◌}
use Rattle.names.specs.Named.{is_named, first_from, number_named}
use Rattle.names.proofs.number_named.Given as goal

abbrev pub invariant-loop-k : goal.invariant-loop-k
invariant-loop-k l = number_named l.names l.first l.many l.word ≡ first_from (l.many - l.k) l.k (λ j. is_named l.names (l.first + j) l.word)
