-- Meaning: the calls on a state: post, collect, drop, the offer shown, step and run, each with its refusals in order. Assumes nothing: these are definitions.
use Rattle.std.specs.Prelude.{ℕ, zero, suc, ◌+◌, true, false, cond, not, List, [], ◌∷◌, ◌++◌, length, get_or, take, leb, ltb, eqb}
use Rattle.plan.specs.Found.{Found, refused, found, among}
use Rattle.plan.specs.Read.{read_plan}
use Rattle.plan.specs.Tree.{To, reply_of, partner_from, Act, act, Acts, none, more, Plan, size}
use Rattle.machine.specs.declared.Message.{Message}
use Rattle.order.specs.declared.Order.{Order}
use Rattle.machine.specs.declared.State.{State}
use Rattle.machine.specs.declared.Loaded.{Loaded}
use Rattle.machine.specs.declared.Posted.{Posted}
use Rattle.machine.specs.declared.Collected.{Collected}
use Rattle.machine.specs.declared.Step.{Step}
use Rattle.machine.specs.declared.Tally.{Tally}
use Rattle.order.specs.declared.End.{End}
use Rattle.order.specs.declared.End.TheVariants.{None, Well, Handled, Failed, Left}
use Rattle.order.specs.Lists.{stored, empties}
use Rattle.order.specs.Taking.{bind_all, storing}
use Rattle.order.specs.State.{is_live, no_order, value_of}
use Rattle.machine.specs.State.{no_message, fresh, unplanned, letters, with_order, adding, removing}
use Rattle.machine.specs.Limits.{exchanged, plan_in, by}
use Rattle.order.specs.Event.{Event, started}
use Rattle.order.specs.Acting.{partner_to, may_send, begun_order, started_order}
use Rattle.order.specs.Judging.{step_order}
use Rattle.machine.specs.Fit.{Doing, no_step, sends, takes, moves, cuts, closes, doing_of}
use Rattle.machine.specs.Offer.{Offer, Offers, offers_of}

-- Load: the refusal and its place, or 0 and 0, and the state. "A refused plan gives a state with no plan."
abbrev pub loaded_as : List ℕ → Found Plan → Loaded
loaded_as s (refused n place) = record { refusal = n; place = place; state = unplanned }
loaded_as s (found p next) = record { refusal = 0; place = 0; state = fresh s }

unfoldable pub load : List ℕ → Loaded
load s = loaded_as s (read_plan s)

abbrev pub loaded : List ℕ → State
loaded s = (load s).state

-- Post: the refusal or 0, and the state. "Places beyond its count hold 0; post makes them so."
abbrev pub trimmed : Message → Message
trimmed m =
    record { partner = m.partner; operation = m.operation; count = m.count; values = stored 4 (take m.count m.values); reply = m.reply }

-- 13: "partner, operation or count outside its rule", and "post with a reply partner above 63"; 14: "64 messages wait"
unfoldable pub post_by : Plan → Message → State → Posted
post_by p m s =
    cond (not (exchanged m.partner m.operation m.count m.reply)) (record { refusal = 13; state = s })
    (cond (leb 64 s.waiting) (record { refusal = 14; state = s })
    (record { refusal = 0; state = adding (trimmed m) s }))

unfoldable pub post : Message → State → Posted
post m s = by (record { refusal = 17; state = s }) (λ p. post_by p m s) (plan_in s)

-- the partners that a plan receives on, in the order of the file
unfoldable pub partner_of : Doing → List ℕ
partner_of no_step = []
partner_of (sends to operation vs) = []
partner_of (takes from operation vs) = partner_from from ∷ []
partner_of moves = []
partner_of cuts = []
partner_of (closes undo s) = []

unfoldable mutual
  pub partners_in : Act → List ℕ
  partners_in (act own within) = partner_of (doing_of own within 0) ++ partners_among within

  pub partners_among : Acts → List ℕ
  partners_among none = []
  partners_among (more a l) = partners_in a ++ partners_among l

unfoldable pub partners_of : Plan → List ℕ
partners_of p = partners_in p.body ++ partners_in p.fault

-- the place of the oldest message, from the place i on, for a partner that is not among these; where there is none, the place after the last
unfoldable pub foreign : List ℕ → (i : ℕ) → List Message → ℕ
foreign ps i [] = i
foreign ps i (m ∷ l) = cond (among m.partner ps) (foreign ps (i + 1) l) i

-- The message at a place is handed out, and waits no more: the refusal or 0, the message (one with no values where it is refused), and the state. 15:
-- no message waits at that place
unfoldable pub handing : (place : ℕ) → State → Collected
handing i s =
    cond (ltb i s.waiting) (record { refusal = 0; message = get_or s.messages i no_message; state = removing i s })
    (record { refusal = 15; message = no_message; state = s })

-- Collect: "Collect hands out the oldest such message." 15: "no message for a partner the plan never receives on"
unfoldable pub collect_by : Plan → State → Collected
collect_by p s = handing (foreign (partners_of p) 0 (letters s)) s

unfoldable pub collect : State → Collected
collect s = by (record { refusal = 17; message = no_message; state = s }) (λ p. collect_by p s) (plan_in s)

-- Drop, no call of document 01: any message that waits is handed out, by its place, so that one that nothing will ever take does not stay for good
unfoldable pub drop_at : (place : ℕ) → State → Collected
drop_at i s = by (record { refusal = 17; message = no_message; state = s }) (λ p. handing i s) (plan_in s)

-- a step's answer where it is refused; where an offer is shown
abbrev pub refusing : ℕ → Step
refusing n = record { refusal = n; slot = 0; activity = 0; place = 0; end = None; fault = 0 }

abbrev pub answering : Offer → End → (fault : ℕ) → Step
answering x e n = record { refusal = 0; slot = x.slot; activity = x.activity; place = x.place; end = e; fault = n }

-- document 01's number for an end: 0 where there is none, then "one of well, handled, failed or left"
unfoldable pub end_number : End → ℕ
end_number None = 0
end_number Well = 1
end_number Handled = 2
end_number Failed = 3
end_number Left = 4

-- What a choice comes to: refused, or one of the offers.
pub data Chosen : Type 0 where
  refused_choice : (number : ℕ) → Chosen
  chosen : Offer → Chosen

-- "A choice counts from 0.": the one with this count
unfoldable pub nth : (number : ℕ) → List Offer → (choice : ℕ) → Chosen
nth number [] c = refused_choice number
nth number (x ∷ l) zero = chosen x
nth number (x ∷ l) (suc c) = nth number l c

-- 10: "nothing offered, nothing held"; 11: "nothing offered, something held"; 12: "choice beyond the offer"
unfoldable pub choosing : Offers → (choice : ℕ) → Chosen
choosing a c = nth (cond (empties a.offered) (cond a.held 11 10) 12) a.offered c

-- The offer shown without taking it.
abbrev pub previewed : Chosen → Step
previewed (refused_choice n) = refusing n
previewed (chosen x) = answering x None 0

unfoldable pub preview_by : Plan → (choice : ℕ) → State → Step
preview_by p c s = previewed (choosing (offers_of p s) c)

unfoldable pub preview : (choice : ℕ) → State → Step
preview c s = by (refusing 17) (λ p. preview_by p c s) (plan_in s)

-- "A count at 4,294,967,295 stays there."
abbrev pub counted : ℕ → ℕ
counted n = cond (ltb n 4294967295) (n + 1) n

abbrev pub count_start : Tally → Tally
count_start t = record { started = counted t.started; well = t.well; handled = t.handled; failed = t.failed; left = t.left }

unfoldable pub count_end : End → Tally → Tally
count_end None t = t
count_end Well t = record { started = t.started; well = counted t.well; handled = t.handled; failed = t.failed; left = t.left }
count_end Handled t =
    record { started = t.started; well = t.well; handled = counted t.handled; failed = t.failed; left = t.left }
count_end Failed t =
    record { started = t.started; well = t.well; handled = t.handled; failed = counted t.failed; left = t.left }
count_end Left t = record { started = t.started; well = t.well; handled = t.handled; failed = t.failed; left = counted t.left }

-- A step: its answer, the state, the tally, and what happened to the order in the slot that it answers.
pub record Stepped : Type 0 where
  pub answer : Step
  pub state : State
  pub tally : Tally
  pub log : List Event

-- the step that activity t is there for
unfoldable mutual
  pub doing_in : Act → (k t : ℕ) → Doing
  doing_in (act own within) k t = elim (eqb k t) [ true ↦ doing_of own within k | false ↦ doing_among within (k + 1) t ]

  pub doing_among : Acts → (c t : ℕ) → Doing
  doing_among none c t = no_step
  doing_among (more a l) c t = elim (ltb t (c + size a)) [ true ↦ doing_in a c t | false ↦ doing_among l (c + size a) t ]

unfoldable pub doing_at : Plan → (t : ℕ) → Doing
doing_at p t =
    elim (ltb t (size p.body)) [ true ↦ doing_in p.body 0 t | false ↦ doing_in p.fault (size p.body) t ]

-- the values of some variables
unfoldable pub values_of : Order → List ℕ → List ℕ
values_of o [] = []
values_of o (v ∷ vs) = value_of o v ∷ values_of o vs

-- the message that a send makes
abbrev pub sent_by : Order → To → (operation : ℕ) → (variables : List ℕ) → Message
sent_by o to operation vs =
    record { partner = partner_to o to; operation = operation; count = length vs; values = stored 4 (values_of o vs); reply = reply_of to }

-- what a message gives to whoever takes it: its four values, and then its reply partner
abbrev pub gives : Message → List ℕ
gives m = m.values ++ (m.reply ∷ [])

-- "Send (adds a message)"; a taken message leaves the table, and its values are bound
unfoldable pub messages_after : Doing → (place : ℕ) → Order → State → State
messages_after no_step j o s = s
messages_after (sends to operation vs) j o s = cond (may_send o to vs) (adding (sent_by o to operation vs) s) s
messages_after (takes from operation vs) j o s = removing j s
messages_after moves j o s = s
messages_after cuts j o s = s
messages_after (closes undo x) j o s = s

unfoldable pub order_taking : Doing → Message → Order → Order
order_taking no_step m o = o
order_taking (sends to operation vs) m o = o
order_taking (takes from operation vs) m o = storing from (get_or (gives m) 4 0) (bind_all vs (gives m) o)
order_taking moves m o = o
order_taking cuts m o = o
order_taking (closes undo x) m o = o

-- an order has the step x: what its slot, the messages and the tally are then; `l` is what happened before
unfoldable pub stepped : Plan → Offer → State → Tally → Order → List Event → Stepped
stepped p x s t o l =
    let step = doing_at p x.activity in
    let m = step_order p x.activity (order_taking step (get_or s.messages x.place no_message) o) in
    record {
      answer = answering x m.end m.fault;
      state = with_order x.slot m.order (messages_after step x.place o s);
      tally = count_end m.end t;
      log = l ++ m.log;
    }

-- "start (a new order whose start receive takes the message at once)": where the slot is free
unfoldable pub taken : Plan → Offer → State → Tally → Stepped
taken p x s t =
    let o = get_or s.orders x.slot no_order in
    elim (is_live o) [
      | true ↦ stepped p x s t o []
      | false ↦ stepped p x s (count_start t) (started_order p) (started ∷ (begun_order p).log)
    ]

unfoldable pub step_chosen : Plan → State → Tally → Chosen → Stepped
step_chosen p s t (refused_choice n) = record { answer = refusing n; state = s; tally = t; log = [] }
step_chosen p s t (chosen x) = taken p x s t

unfoldable pub step_by : Plan → (choice : ℕ) → State → Tally → Stepped
step_by p c s t = step_chosen p s t (choosing (offers_of p s) c)

unfoldable pub step : (choice : ℕ) → State → Tally → Stepped
step c s t = by (record { answer = refusing 17; state = s; tally = t; log = [] }) (λ p. step_by p c s t) (plan_in s)

-- A run: the steps taken, the refusal or 0, the state and the tally.
pub record Ran : Type 0 where
  pub taken : ℕ
  pub refusal : ℕ
  pub state : State
  pub tally : Tally

abbrev pub one_more : Ran → Ran
one_more r = record { taken = r.taken + 1; refusal = r.refusal; state = r.state; tally = r.tally }

-- goes on after a step that was taken
abbrev pub ran_on : (State → Tally → Ran) → Stepped → Ran
ran_on f r =
    elim (eqb r.answer.refusal 0) [
      | true ↦ one_more (f r.state r.tally)
      | false ↦ record { taken = 0; refusal = r.answer.refusal; state = r.state; tally = r.tally }
    ]

-- "A run takes a list of choices and a budget. It stops at the end of either or at the first refused step"
unfoldable pub run_by : (ℕ → State → Tally → Stepped) → (choices : List ℕ) → (budget : ℕ) → State → Tally → Ran
run_by f [] budget s t = record { taken = 0; refusal = 0; state = s; tally = t }
run_by f (c ∷ cs) zero s t = record { taken = 0; refusal = 0; state = s; tally = t }
run_by f (c ∷ cs) (suc budget) s t = ran_on (run_by f cs budget) (f c s t)

-- "A state that earns 17 gives 17 and no steps, with an empty list or budget too."
unfoldable pub run : (choices : List ℕ) → (budget : ℕ) → State → Tally → Ran
run cs budget s t =
    by (record { taken = 0; refusal = 17; state = s; tally = t }) (λ p. run_by step cs budget s t) (plan_in s)

-- A call that may change a state. A run is its steps.
pub data Call : Type 0 where
  posting : Message → Call
  collecting : Call
  dropping : (place : ℕ) → Call
  stepping : (choice : ℕ) → Call
