-- Glue: the first open receive that a message fits. Assumes nothing: these are definitions, and nothing here has to be believed.
use Rattle.std.specs.Prelude.{ℕ, Bool, true, false, cond, List, [], ◌∷◌}
use Rattle.plan.specs.Tree.{Plan}
use Rattle.machine.specs.declared.Message.{Message}
use Rattle.order.specs.declared.Order.{Order}
use Rattle.std.specs.Prelude.{Option, None, Some}
use Rattle.fit.specs.declared.Receiver.{Receiver}
use Rattle.order.specs.Lists.{empties}
use Rattle.machine.specs.Fit.{Ready, Live, fitting}

-- a receive of the order in a slot
abbrev pub receiver : (slot activity : ℕ) → Option Receiver
receiver i k = Some (record { slot = i; activity = k })

-- of what the order in a slot awaits, the first that is an open receive and that the message fits
unfoldable pub first_of : Plan → (slot : ℕ) → Order → Message → List Ready → Option Receiver
first_of p i o m [] = None
first_of p i o m (r ∷ l) = cond (empties (fitting p o m r.step)) (first_of p i o m l) (receiver i r.activity)

unfoldable pub or_else : Option Receiver → Option Receiver → Option Receiver
or_else (Some x) r = Some x
or_else None r = r

-- "the search ends at the first open receive that fits": of all live orders
unfoldable pub first_receiver : Plan → List Live → Message → Option Receiver
first_receiver p [] m = None
first_receiver p (x ∷ l) m = or_else (first_of p x.slot x.order m x.ready) (first_receiver p l m)

-- whether there is none
unfoldable pub is_nothing : Option Receiver → Bool
is_nothing (Some x) = false
is_nothing None = true
