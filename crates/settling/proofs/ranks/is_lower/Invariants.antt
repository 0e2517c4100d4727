-- `settling::ranks::is_lower` meets its contract. Assumes nothing.
use Rattle.settling.proofs.RankReturns.{Comparing}
use Rattle.settling.proofs.ranks.is_lower.Given as goal

abbrev pub invariant-loop-k : goal.invariant-loop-k
invariant-loop-k l = Comparing l.table l.activities l.before l.marks l.after l.others l.k
