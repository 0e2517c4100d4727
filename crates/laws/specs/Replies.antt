-- Meaning: a reply address in the message (request 5): what a receive that stores it keeps, whom a send to a held partner reaches, and that no fit looks at it. Assumes nothing:
-- these are definitions.
use Rattle.std.specs.Prelude.{ℕ, ◌≡◌, true, false, List, [], ◌∷◌, ◌++◌, length, get_or}
use Rattle.plan.specs.Tree.{to_held, from_asking, Plan}
use Rattle.order.specs.declared.Order.{Order}
use Rattle.order.specs.declared.End.TheVariants.{None}
use Rattle.order.specs.Acting.{may_send}
use Rattle.order.specs.State.{is_bound, value_of, no_order}
use Rattle.machine.specs.declared.Message.{Message}
use Rattle.machine.specs.declared.State.{State}
use Rattle.machine.specs.declared.Tally.{Tally}
use Rattle.machine.specs.Calls.{choosing, chosen, doing_at, step}
use Rattle.machine.specs.Fit.{sends, takes, fits}
use Rattle.machine.specs.Offer.{Offer, offers_of}
use Rattle.machine.specs.Planned.{Planned}
use Rattle.machine.specs.State.{no_message, letters}
use Rattle.laws.specs.Good.{actor}

-- a message with another reply partner
abbrev pub answered_to : (reply : ℕ) → Message → Message
answered_to r m = record { partner = m.partner; operation = m.operation; count = m.count; values = m.values; reply = r }

-- STORED. "Code 18 is a receive with one last part, the variable that stores the reply partner": after it took a message, and the order goes on, that variable holds what the
-- message carried. (A message has four values, and an order 16 variables: lists of these lengths, as the arrays of the code.)
unfoldable pub RepliesStored : Type 0
RepliesStored =
    (p : Plan) (next : ℕ) (s : State) (t : Tally) (c : ℕ) (x : Offer) → Planned p next s → length s.orders ≡ 16 → choosing (offers_of p s) c ≡ chosen x
    → (partner v operation : ℕ) (vs : List ℕ) → doing_at p x.activity ≡ takes (from_asking partner v) operation vs → (step c s t).answer.end ≡ None
    → let m = get_or s.messages x.place no_message in let q = actor p s.orders x.slot in
    length m.values ≡ 4 → length q.values ≡ 16 → length q.bound ≡ 16
    → let o = get_or (step c s t).state.orders x.slot no_order in (is_bound o v ≡ true) × (value_of o v ≡ m.reply)

-- SENT. "Code 17 is a send whose first part is a variable that holds its partner, and whose last part is the reply partner that it carries": where it sends, one message more
-- waits, for that partner and with that reply partner.
unfoldable pub RepliesSent : Type 0
RepliesSent =
    (p : Plan) (next : ℕ) (s : State) (t : Tally) (c : ℕ) (x : Offer) → Planned p next s → length s.orders ≡ 16 → choosing (offers_of p s) c ≡ chosen x
    → (v reply operation : ℕ) (vs : List ℕ) → doing_at p x.activity ≡ sends (to_held v reply) operation vs
    → let o = actor p s.orders x.slot in may_send o (to_held v reply) vs ≡ true
    → (m : Message) × (letters (step c s t).state ≡ letters s ++ (m ∷ [])) × (m.partner ≡ value_of o v) × (m.reply ≡ reply)

-- IGNORED. "fit and request 2 ignore it"
unfoldable pub RepliesIgnored : Type 0
RepliesIgnored =
    (p : Plan) (o : Order) (partner operation : ℕ) (vs : List ℕ) (m : Message) (r : ℕ) → fits p o partner operation vs (answered_to r m) ≡ fits p o partner operation vs m

unfoldable pub RepliesArrive : Type 0
RepliesArrive = RepliesStored × (RepliesSent × RepliesIgnored)
