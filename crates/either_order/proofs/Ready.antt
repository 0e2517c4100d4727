-- What an order awaits has the step that its activity is there for. Assumes nothing.
use Prim.Native.Nat.{ℕ}
use mathlib.Core.Path.{◌≡◌}
use mathlib.Core.List.{List, Memᴰ}
use Rattle.plan.specs.Tree.{Plan}
use Rattle.order.specs.declared.Order.{Order}
use Rattle.machine.specs.Calls.{doing_at}
use Rattle.machine.specs.Fit.{Ready, ready_of}
use Rattle.machine.specs.Offer.{eager}
use Rattle.laws.proofs.Offering.{each_in, plan-ready, eager-each}

pub eager-does : (p : Plan) (o : Order) (r : Ready) → Memᴰ r (eager (ready_of p o)) → r.step ≡ doing_at p r.activity
eager-does p o r m = (each_in (eager-each (plan-ready p o)) m).is

pub ready-does : (p : Plan) (o : Order) (r : Ready) → Memᴰ r (ready_of p o) → r.step ≡ doing_at p r.activity
ready-does p o r m = (each_in (plan-ready p o) m).is
