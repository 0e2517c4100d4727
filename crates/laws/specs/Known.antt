-- Meaning: what an order knows, told by the calls and their answers alone: what its last take or set of each variable gave, and nothing before it started. Then
-- the promises on variables. Assumes nothing: these are definitions.
use Rattle.std.specs.Prelude.{ℕ, ◌<◌, ◌≡◌, Bool, true, false, cond, ◌&&◌, List, [], ◌∷◌, eqb, length, get_or, drop}
use Rattle.plan.specs.Found.{found, among}
use Rattle.plan.specs.Read.{read_plan}
use Rattle.plan.specs.Tree.{Exp, constant, variable, binary, From, stored_by, Own, empty, send, receive, set as setting, raise, leave, choose, repeat, sequence, flow, pick, scope, arm, Act, act, Plan}
use Rattle.order.specs.declared.Order.{Order}
use Rattle.order.specs.declared.End.{End}
use Rattle.order.specs.declared.End.TheVariants.{None, Well, Handled, Failed, Left}
use Rattle.order.specs.Expression.{unbound_variable, Value, fault, value, both, evaluate}
use Rattle.order.specs.State.{is_live, is_bound, value_of, binding, no_order}
use Rattle.order.specs.Taking.{act_at, bind_all, storing}
use Rattle.machine.specs.declared.State.{State}
use Rattle.machine.specs.declared.Tally.{Tally}
use Rattle.machine.specs.Calls.{loaded, post, collect, drop_at, chosen, choosing, doing_at, gives, Stepped, step, Call, posting, collecting, dropping, stepping}
use Rattle.machine.specs.Fit.{takes}
use Rattle.machine.specs.Offer.{Offer, offers_of}
use Rattle.machine.specs.Planned.{Planned}
use Rattle.machine.specs.State.{no_message}
use Rattle.laws.specs.Good.{actor}

-- What is known of a variable: nothing, or its value.
pub data Known : Type 0 where
  unknown : Known
  known : (value : ℕ) → Known

-- what an order has in its place of a variable
unfoldable pub known_in : Order → (variable : ℕ) → Known
known_in o v = cond (is_bound o v) (known (value_of o v)) unknown

-- A variable and a value that a take or a set gave it.
pub record Given : Type 0 where
  pub variable : ℕ
  pub value : ℕ

-- what the last of these gave a variable, the latest first; "Variables start unbound"
unfoldable pub last_of : (variable : ℕ) → List Given → Known
last_of v [] = unknown
last_of v (g ∷ l) = cond (eqb g.variable v) (known g.value) (last_of v l)

-- a take gives each variable of its receive the message's value at its place: the others are "bound or overwritten"
unfoldable pub take_gives : (variables values : List ℕ) → List Given → List Given
take_gives [] xs l = l
take_gives (v ∷ vs) xs l = take_gives vs (drop 1 xs) (record { variable = v; value = get_or xs 0 0 } ∷ l)

-- what an expression comes to where this was given; "an unbound variable makes its step act as a raise"
abbrev pub to_value : Known → Value
to_value unknown = fault unbound_variable
to_value (known n) = value n

unfoldable pub worth : Exp → List Given → Value
worth (constant n) l = value n
worth (variable v) l = to_value (last_of v l)
worth (binary op x y) l = both op (worth x l) (worth y l)

-- a set gives its variable the value of its expression; one that faults gives nothing
abbrev pub set_gives : (variable : ℕ) → Value → List Given → List Given
set_gives v (fault x) l = l
set_gives v (value n) l = record { variable = v; value = n } ∷ l

-- what the step of an activity or arm gives: a receive and an arm give what their message has (its values, and behind these its reply partner), a set its value, any other nothing
unfoldable pub own_gives : Own → (values : List ℕ) → List Given → List Given
own_gives empty xs l = l
own_gives (send p q vs) xs l = l
own_gives (receive f q vs) xs l = take_gives (stored_by f) (drop 4 xs) (take_gives vs xs l)
own_gives (setting v e) xs l = set_gives v (worth e l) l
own_gives (raise n) xs l = l
own_gives leave xs l = l
own_gives (choose e) xs l = l
own_gives (repeat e) xs l = l
own_gives sequence xs l = l
own_gives flow xs l = l
own_gives pick xs l = l
own_gives (scope ns undo) xs l = l
own_gives (arm p q vs) xs l = take_gives vs xs l

abbrev pub own_of : Act → Own
own_of (act own within) = own

-- A slot as the answers tell it: free, or with an order and all that its takes and sets gave since it started, the latest first.
pub data Told : Type 0 where
  free : Told
  here : List Given → Told

abbrev pub is_here : Told → Bool
is_here free = false
is_here (here l) = true

abbrev pub given_in : Told → List Given
given_in free = []
given_in (here l) = l

-- "An order's end frees its slot"
unfoldable pub unless_ended : End → List Given → Told
unless_ended None l = here l
unless_ended Well l = free
unless_ended Handled l = free
unless_ended Failed l = free
unless_ended Left l = free

-- a step was taken, in this slot
abbrev pub is_taken_in : (slot : ℕ) → Stepped → Bool
is_taken_in i r = eqb r.answer.refusal 0 && eqb r.answer.slot i

-- a slot after a step with this answer: in a free one a new order started, which knows nothing; of the activity answered, and of the message at the
-- place answered, it has what that gives; and where an end is answered it is free again
unfoldable pub told_after : Plan → (slot : ℕ) → State → Stepped → Told → Told
told_after p i s r q =
    cond (is_taken_in i r)
    (unless_ended r.answer.end (own_gives (own_of (act_at p r.answer.activity)) (gives (get_or s.messages r.answer.place no_message)) (given_in q)))
    q

-- a slot after these calls, from a state in which it is told so
unfoldable pub told : Plan → List Call → (slot : ℕ) → State → Tally → Told → Told
told p [] i s t q = q
told p (posting m ∷ l) i s t q = told p l i (post m s).state t q
told p (collecting ∷ l) i s t q = told p l i (collect s).state t q
told p (dropping j ∷ l) i s t q = told p l i (drop_at j s).state t q
told p (stepping c ∷ l) i s t q = let r = step c s t in told p l i r.state r.tally (told_after p i s r q)

-- the state and the tally after these calls
unfoldable pub after : List Call → State → Tally → State × Tally
after [] s t = (s, t)
after (posting m ∷ l) s t = after l (post m s).state t
after (collecting ∷ l) s t = after l (collect s).state t
after (dropping j ∷ l) s t = after l (drop_at j s).state t
after (stepping c ∷ l) s t = let r = step c s t in after l r.state r.tally

-- what stands in a slot after these calls from a fresh start with a plan, and how they tell it
abbrev pub order_in : (bytes : List ℕ) → List Call → (slot : ℕ) → Tally → Order
order_in bytes l i t = get_or (after l (loaded bytes) t).0.orders i no_order

abbrev pub told_from : (bytes : List ℕ) → Plan → List Call → (slot : ℕ) → Tally → Told
told_from bytes p l i t = told p l i (loaded bytes) t free

-- KNOWN. What an order "already knows" is what its last take or set of a variable gave, over the calls made, and nothing before: after any run of posts,
-- collects and choices from a fresh start, for every slot and every variable.
unfoldable pub KnownAsTold : Type 0
KnownAsTold =
    (bytes : List ℕ) (p : Plan) (next : ℕ) → read_plan bytes ≡ found p next → (calls : List Call) (slot : ℕ) (t : Tally) (v : ℕ)
    → known_in (order_in bytes calls slot t) v ≡ last_of v (given_in (told_from bytes p calls slot t))

-- LIVE. And a slot is live exactly where, by the answers, an order started in it that has not ended.
unfoldable pub LiveAsTold : Type 0
LiveAsTold =
    (bytes : List ℕ) (p : Plan) (next : ℕ) → read_plan bytes ≡ found p next → (calls : List Call) (slot : ℕ) (t : Tally)
    → is_live (order_in bytes calls slot t) ≡ is_here (told_from bytes p calls slot t)

-- IN FULL, by the calls. Demand 2: "A message goes to a running order only if each correlation value it carries that the order already knows agrees in
-- full." Where a step takes a message for an order that was told to be there, the message has, at each place whose variable is for correlation and
-- was given a value in this order, the value that was given last.
unfoldable pub TakenAsKnown : Type 0
TakenAsKnown =
    (bytes : List ℕ) (p : Plan) (next : ℕ) → read_plan bytes ≡ found p next → (calls : List Call) (t : Tally) (c : ℕ)
    → let s = (after calls (loaded bytes) t).0 in let a = (step c s (after calls (loaded bytes) t).1).answer in
    a.refusal ≡ 0 → (l : List Given) → told_from bytes p calls a.slot t ≡ here l
    → (from : From) (operation : ℕ) (vs : List ℕ) → doing_at p a.activity ≡ takes from operation vs
    → (i : ℕ) → i < length vs → among (get_or vs i 0) p.correlation ≡ true → (x : ℕ) → last_of (get_or vs i 0) l ≡ known x
    → get_or (get_or s.messages a.place no_message).values i 0 ≡ x

-- EACH KIND OF STEP. What it does to the variables of its order, in every state that has its plan, reachable or not (what it does to the messages is
-- LettersMove): a take binds those of its receive or arm to what the message has at their places, a set its variable to what its expression comes to, unless
-- that faults, and no other step changes any; an order that ends leaves its slot with no order.
abbrev pub set_to : (variable : ℕ) → Value → Order → Order
set_to v (fault x) o = o
set_to v (value n) o = binding v n o

unfoldable pub variables_after : Own → (values : List ℕ) → Order → Order
variables_after empty xs o = o
variables_after (send p q vs) xs o = o
variables_after (receive f q vs) xs o = storing f (get_or xs 4 0) (bind_all vs xs o)
variables_after (setting v e) xs o = set_to v (evaluate e o) o
variables_after (raise n) xs o = o
variables_after leave xs o = o
variables_after (choose e) xs o = o
variables_after (repeat e) xs o = o
variables_after sequence xs o = o
variables_after flow xs o = o
variables_after pick xs o = o
variables_after (scope ns undo) xs o = o
variables_after (arm p q vs) xs o = bind_all vs xs o

-- what stands in a slot, q, after a step that answered this end, where the variables are to be those of o
unfoldable pub Leaves : End → (o q : Order) → Type 0
Leaves None o q = (q.values ≡ o.values) × (q.bound ≡ o.bound)
Leaves Well o q = q ≡ no_order
Leaves Handled o q = q ≡ no_order
Leaves Failed o q = q ≡ no_order
Leaves Left o q = q ≡ no_order

unfoldable pub VariablesMove : Type 0
VariablesMove =
    (p : Plan) (next : ℕ) (s : State) (t : Tally) (c : ℕ) (x : Offer) → Planned p next s → length s.orders ≡ 16 → choosing (offers_of p s) c ≡ chosen x
    → Leaves (step c s t).answer.end
    (variables_after (own_of (act_at p x.activity)) (gives (get_or s.messages x.place no_message)) (actor p s.orders x.slot))
    (get_or (step c s t).state.orders x.slot no_order)
