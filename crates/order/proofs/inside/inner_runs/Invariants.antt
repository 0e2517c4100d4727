-- `order::inside::inner_runs` meets its contract. Assumes nothing.
use Rattle.order.proofs.InsideReturns.{Scanning}
use lib.Dec.{eqb}
use Prim.Native.Nat.{◌-◌}
use lib.ListN.{get_or}
use mathlib.Core.Bool.{not}
use Rattle.order.proofs.inside.inner_runs.Given as goal

abbrev pub invariant-loop-j : goal.invariant-loop-j
invariant-loop-j l = Scanning (λ k. not (eqb (get_or l.marks k 0) 0)) l.table l.from l.to l.j

abbrev pub decreases-loop-j : goal.decreases-loop-j
decreases-loop-j l = l.to - l.j
