-- Meaning: request 10 of document 02, independent steps in either order: the law behind it, the theorem, and the same for the public calls. Assumes nothing:
-- these are definitions.
use Rattle.std.specs.Prelude.{ℕ, ◌≡◌, Bool, true, false, not, ◌&&◌, List, [], ◌∷◌, get_or, eqb}
use Rattle.plan.specs.Found.{found, among}
use Rattle.plan.specs.Tree.{Own, kind, Acts, Plan}
use Rattle.order.specs.declared.Order.{Order}
use Rattle.order.specs.Judging.{step_order}
use Rattle.order.specs.Lists.{some}
use Rattle.order.specs.State.{is_live, no_order}
use Rattle.machine.specs.declared.State.{State}
use Rattle.machine.specs.declared.Tally.{Tally}
use Rattle.machine.specs.State.{with_order}
use Rattle.machine.specs.Limits.{plan_in}
use Rattle.machine.specs.Fit.{Doing, no_step, sends, takes, moves, cuts, closes, doing_of, ready_of, Letter}
use Rattle.machine.specs.Offer.{Offer, eager, close_held, step_offers, offers_of}
use Rattle.machine.specs.Calls.{doing_at, chosen, choosing, preview, answering, count_end, Stepped, taken, step}

-- "each a set, decide, raise, leave or close": to move is to set or to decide, to cut off is to raise or to leave
unfoldable pub independent : Doing → Bool
independent no_step = false
independent (sends partner operation vs) = false
independent (takes partner operation vs) = false
independent moves = true
independent cuts = true
independent (closes undo s) = true

-- These are the steps of codes 3 to 7 and 11 to 14: set, raise, leave, choose, repeat and scope.
unfoldable pub IndependentCodes : Type 0
IndependentCodes =
    (own : Own) (within : Acts) (k : ℕ) → independent (doing_of own within k) ≡ among (kind own) (3 ∷ 4 ∷ 5 ∷ 6 ∷ 7 ∷ 11 ∷ 12 ∷ 13 ∷ 14 ∷ [])

-- an entry of the offer, by the step that its activity is there for
abbrev pub independent_at : Plan → Offer → Bool
independent_at p x = independent (doing_at p x.activity)

-- "two offered steps": x is an entry of the offer, since some choice comes to it
pub record Offered (p : Plan) (s : State) (x : Offer) : Type 0 where
  pub choice : ℕ
  pub is : choosing (offers_of p s) choice ≡ chosen x

-- what stands in the slot of an entry
abbrev pub order_of : State → Offer → Order
order_of s x = get_or s.orders x.slot no_order

-- THE LAW, in three parts.

-- 1. Only takes look at the messages, and at which of them fit: what any other activity has on offer, and whether anything is held, is by its own
-- order and by how many messages wait. So a step that ends an order, or opens or ends receives, and with it changes what a message fits, touches
-- no other order's set, decide, raise, leave, close or send.
abbrev pub is_take : Doing → Bool
is_take d = elim d [ no_step ↦ false | sends p o vs ↦ false | takes p o vs ↦ true | moves ↦ false | cuts ↦ false | closes undo s ↦ false ]

unfoldable pub OnlyTakesLook : Type 0
OnlyTakesLook =
    (p : Plan) (wait : ℕ) (l m : List Letter) (slot : ℕ) (o : Order) (k : ℕ) (d : Doing) →
    ((step_offers p wait l slot o k d).held ≡ (step_offers p wait m slot o k d).held)
    × (is_take d ≡ false → step_offers p wait l slot o k d ≡ step_offers p wait m slot o k d)

-- whether a step is held for want of room, as far as the order alone can tell: a close
unfoldable pub close_waits : Order → Doing → Bool
close_waits o no_step = false
close_waits o (sends partner operation vs) = false
close_waits o (takes partner operation vs) = false
close_waits o moves = false
close_waits o cuts = false
close_waits o (closes undo s) = close_held o undo s

-- whether an order has such a step on offer, by the order alone: it is live, it awaits the step, eagerness does not put it aside, and it is not
-- held; such a step has no message
unfoldable pub has_step : Plan → Order → Offer → Bool
has_step p o x =
    is_live o
    && (some (λ r. eqb r.activity x.activity) (eager (ready_of p o))
    && (not (close_waits o (doing_at p x.activity)) && eqb x.place 0))

-- 2. An entry of these kinds is in the offer exactly where the order in its own slot has that step: neither another order nor a message has a
-- say, so that what another order does neither takes such an entry away nor adds one.
unfoldable pub OwnOrderOffers : Type 0
OwnOrderOffers =
    (p : Plan) (s : State) (x : Offer) → independent_at p x ≡ true →
    (Offered p s x → has_step p (order_of s x) x ≡ true) × (has_step p (order_of s x) x ≡ true → Offered p s x)

-- an order has its step: its slot and the tally change, and nothing else
unfoldable pub stepped_alone : Plan → Offer → State → Tally → Stepped
stepped_alone p x s t =
    let m = step_order p x.activity (order_of s x) in
    record {
      answer = answering x m.end m.fault;
      state = with_order x.slot m.order s;
      tally = count_end m.end t;
      log = m.log;
    }

-- 3. A step of these kinds changes its own slot and the tally alone, by what stood in its own slot; the messages stay.
unfoldable pub OwnSlotChanges : Type 0
OwnSlotChanges =
    (p : Plan) (s : State) (t : Tally) (x : Offer) → Offered p s x → independent_at p x ≡ true → taken p x s t ≡ stepped_alone p x s t

-- THE THEOREM.

-- two entries taken one after the other
abbrev pub taken_in_turn : Plan → (x y : Offer) → State → Tally → Stepped
taken_in_turn p x y s t = let r = taken p x s t in taken p y r.state r.tally

-- What is claimed of two entries, x and y. The state after x passes 17, with the same plan.
pub record InEitherOrder (p : Plan) (next : ℕ) (s : State) (t : Tally) (x y : Offer) : Type 0 where
  pub passes : plan_in (taken p x s t).state ≡ found p next
  -- "the second is still offered after the first": an entry with its slot, its activity and its place
  pub still : Offered p (taken p x s t).state y
  -- "give the same state and tally whichever is taken first"
  pub state : (taken_in_turn p x y s t).state ≡ (taken_in_turn p y x s t).state
  pub tally : (taken_in_turn p x y s t).tally ≡ (taken_in_turn p y x s t).tally
  -- and y answers as the second, the end of its order with the rest, what it answers as the first
  pub answer : (taken_in_turn p x y s t).answer ≡ (taken p y s t).answer

-- The claim for some pairs of offered steps, in every state that passes 17, reachable or not, and with every tally, one at its ceiling of
-- 4,294,967,295 included. Nothing is asked of the lengths of a state's lists: an entry of these kinds stands in a live slot, which is there.
unfoldable pub EitherOrder : (Plan → (x y : Offer) → Bool) → Type 0
EitherOrder pairs =
    (p : Plan) (next : ℕ) (s : State) (t : Tally) (x y : Offer) →
    plan_in s ≡ found p next → Offered p s x → Offered p s y → pairs p x y ≡ true → InEitherOrder p next s t x y

-- "of different orders": each live slot has one order, so these are different slots. A start is a take of a new order in a free slot, so neither of
-- two steps of the kinds below is one.
abbrev pub of_different_orders : (x y : Offer) → Bool
of_different_orders x y = not (eqb x.slot y.slot)

-- "each a set, decide, raise, leave or close". "Faulting ones are included": what an expression comes to is not asked.
unfoldable pub independent_pair : Plan → (x y : Offer) → Bool
independent_pair p x y = of_different_orders x y && (independent_at p x && independent_at p y)

-- Request 10: "two offered steps of different orders, each a set, decide, raise, leave or close, give the same state and tally whichever is taken
-- first, and the second is still offered after the first. Faulting ones are included."
abbrev pub Request10 : Type 0
Request10 = EitherOrder independent_pair

-- THE PUBLIC CALLS. The contracts of the code's steps are equations with `step`, which is called by a choice; `preview` shows the entry at one.

-- two calls one after the other
abbrev pub called_in_turn : (c d : ℕ) → State → Tally → Stepped
called_in_turn c d s t = let r = step c s t in step d r.state r.tally

-- What is claimed of the entries shown at c and d: after each call the other entry is shown, at a choice that may be another one ..
pub record CalledInEitherOrder (s : State) (t : Tally) (c d : ℕ) : Type 0 where
  pub second : ℕ
  pub first : ℕ
  pub second_shown : preview second (step c s t).state ≡ preview d s
  pub first_shown : preview first (step d s t).state ≡ preview c s
  -- .. and whatever choices show them, both ways lead to the same state and tally
  pub state : (i j : ℕ) → preview i (step c s t).state ≡ preview d s → preview j (step d s t).state ≡ preview c s
      → (called_in_turn c i s t).state ≡ (called_in_turn d j s t).state
  pub tally : (i j : ℕ) → preview i (step c s t).state ≡ preview d s → preview j (step d s t).state ≡ preview c s
      → (called_in_turn c i s t).tally ≡ (called_in_turn d j s t).tally
  -- and the second call answers what it would have answered as the first
  pub answer : (i : ℕ) → preview i (step c s t).state ≡ preview d s → (called_in_turn c i s t).answer ≡ (step d s t).answer

unfoldable pub CallsInEitherOrder : Type 0
CallsInEitherOrder =
    (p : Plan) (next : ℕ) (s : State) (t : Tally) (c d : ℕ) (x y : Offer) →
    plan_in s ≡ found p next → choosing (offers_of p s) c ≡ chosen x → choosing (offers_of p s) d ≡ chosen y → independent_pair p x y ≡ true
    → CalledInEitherOrder s t c d
