-- `acting::acting::step_in` meet their contracts. Assumes nothing.
use Prim.Native.Nat.{◌-◌}
use Rattle.acting.proofs.acting.+step_in.Given as goal

abbrev pub decreases-step_in : goal.decreases-step_in
decreases-step_in l = 256 - l.k
