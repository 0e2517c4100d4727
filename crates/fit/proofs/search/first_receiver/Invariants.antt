-- `fit::search::first_receiver` meets its contract. Assumes nothing.
use Rattle.std.proofs.Common.{◌≡◌}
use Rattle.std.specs.Prelude.{None}
use Rattle.fit.proofs.Searched.{Looking, Searching}
use Rattle.fit.proofs.search.first_receiver.Given as goal

abbrev pub invariant-loop-k : goal.invariant-loop-k
invariant-loop-k l = Looking l.table l.picks l.marks l.known l.slot l.rows l.letters l.j l.k × (l.found ≡ None)

abbrev pub invariant-search : goal.invariant-search
invariant-search l = Searching l.table l.flags l.picks l.orders l.activities l.letters l.j l.slot × (l.found ≡ None)
