-- Meaning: what is known of a step that is on offer: which order has it, and that it may be taken. Only `actor`, which the promises name, has to be believed:
-- the rest is glue. Assumes nothing: these are definitions.
use Rattle.std.specs.Prelude.{ℕ, ◌+◌, ◌<◌, Bool, true, false, cond, List, ◌≡◌, leb, get_or}
use Rattle.plan.specs.Tree.{partner_from, Plan, size}
use Rattle.order.specs.declared.Order.{Order}
use Rattle.order.specs.Acting.{started_order}
use Rattle.order.specs.Lists.{every, empties}
use Rattle.order.specs.State.{is_live, no_order}
use Rattle.machine.specs.declared.Message.{Message}
use Rattle.machine.specs.Calls.{doing_at}
use Rattle.machine.specs.Fit.{Doing, no_step, sends, takes, moves, cuts, closes, Live, fits, unchecked, fittings}
use Rattle.machine.specs.Offer.{send_held, close_held}

-- what is known of a step that is on offer while `wait` messages wait, of an order and with the message at a place: it is not held, and the
-- message is there
unfoldable pub Allowed : Doing → (wait : ℕ) → Order → (place : ℕ) → Type 0
Allowed no_step wait o j = Unit
Allowed (sends to operation vs) wait o j = send_held wait o to vs ≡ false
Allowed (takes from operation vs) wait o j = j < wait
Allowed moves wait o j = Unit
Allowed cuts wait o j = Unit
Allowed (closes undo s) wait o j = close_held o undo s ≡ false

-- what is known of the message of a step on offer, where these are the live orders: it fits the receive that takes it; an order that stands
-- takes it with the fewest unchecked places of all open receives that it fits; and it starts an order only where it fits none
unfoldable pub Heeds : Doing → Plan → List Live → (starts : Bool) → Order → Message → Type 0
Heeds no_step p live starts o m = Unit
Heeds (sends to operation vs) p live starts o m = Unit
Heeds (takes from operation vs) p live starts o m =
    (fits p o (partner_from from) operation vs m ≡ true)
    × (cond starts (empties (fittings p live m)) (every (leb (unchecked p o vs)) (fittings p live m)) ≡ true)
Heeds moves p live starts o m = Unit
Heeds cuts p live starts o m = Unit
Heeds (closes undo s) p live starts o m = Unit

-- activity k of the plan has such a step
pub record Good (p : Plan) (wait : ℕ) (o : Order) (k j : ℕ) : Type 0 where
  pub inside : k < size p.body + size p.fault
  pub allowed : Allowed (doing_at p k) wait o j

-- the order that has the step: the one in the slot where that is live, a new one where it is free
abbrev pub acting_in : Plan → Order → Order
acting_in p o = elim (is_live o) [ true ↦ o | false ↦ started_order p ]

abbrev pub actor : Plan → List Order → (slot : ℕ) → Order
actor p os i = acting_in p (get_or os i no_order)
