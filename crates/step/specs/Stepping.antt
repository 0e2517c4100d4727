-- Meaning: the code's answers for a step, by what the definitions say. Only `bare`, which the contract of a step names, has to be believed: the rest is glue.
-- Assumes nothing: these are definitions.
use Rattle.std.specs.Prelude.{ℕ, ◌+◌, ◌*◌, ◌<◌, ◌≤◌, Bool, true, false, cond, List, [], ◌≡◌, eqb, get_or}
use Rattle.plan.specs.Tree.{To, reply_of, Plan, size}
use Rattle.order.specs.declared.Order.{Order}
use Rattle.order.specs.declared.Next.{Next}
use Rattle.order.specs.Answering.{Names, to_at, Spelled, TakesOrder, StepsOrder}
use Rattle.order.specs.Lists.{stored}
use Rattle.order.specs.State.{no_order, value_of}
use Rattle.machine.specs.declared.Mail.{Mail}
use Rattle.machine.specs.declared.Message.{Message}
use Rattle.machine.specs.declared.State.{State}
use Rattle.machine.specs.declared.Step.{Step}
use Rattle.step.specs.declared.Change.{Change}
use Rattle.step.specs.declared.Stepped.{Stepped}
use Rattle.machine.specs.declared.Tally.{Tally}
use Rattle.machine.specs.Calls as calls
use Rattle.machine.specs.Calls.{doing_at, values_of, gives, messages_after, answering, count_end, choosing, chosen}
use Rattle.machine.specs.Fit.{sends}
use Rattle.machine.specs.Limits.{in_limits}
use Rattle.machine.specs.Offer.{offering, send_held, offers_of}
use Rattle.machine.specs.State.{no_message, with_messages, with_order}
use Rattle.laws.specs.Good.{Good}
use Rattle.offer.specs.Having.{Has}

-- a step without its log
abbrev pub bare : calls.Stepped → Stepped
bare r = record { answer = r.answer; state = r.state; tally = r.tally }

-- r is the value of variable v
pub record Worths (o : Order) (v r : ℕ) : Type 0 where
  pub is : v < 16 → r ≡ value_of o v

-- r are the values of the variables that row k names
pub record SentValues (t : List ℕ) (k : ℕ) (o : Order) (r : List ℕ) : Type 0 where
  pub is : (vs : List ℕ) → Names t k vs → r ≡ stored 4 (values_of o vs)

-- row k sends this
pub record SendRow (a : To) (b : ℕ) (vs : List ℕ) (k : ℕ) (t : List ℕ) : Type 0 where
  pub to : to_at t k ≡ a
  pub operation : get_or t (k * 13 + 2) 0 ≡ b
  pub names : Names t k vs

-- r is the reply partner that the message of the send in row k carries
pub record SentReply (t : List ℕ) (k r : ℕ) : Type 0 where
  pub is : r ≡ reply_of (to_at t k)

-- r is the state after the send in row k
pub record Sends (t : List ℕ) (k : ℕ) (o : Order) (s r : State) : Type 0 where
  pub is : (a : To) (b : ℕ) (vs : List ℕ) (j : ℕ) → SendRow a b vs k t → send_held s.waiting o a vs ≡ false → r ≡ messages_after (sends a b vs) j o s

-- r are the messages after it
pub record SendsMail (t : List ℕ) (k : ℕ) (o : Order) (messages : List Message) (waiting : ℕ) (r : Mail) : Type 0 where
  pub is : (s : State) → s.messages ≡ messages → s.waiting ≡ waiting → Sends t k o s (with_messages r.messages r.waiting s)

-- r is the state after what the step of activity k does to the messages
pub record MovesMessages (t : List ℕ) (activities : ℕ) (s : State) (o : Order) (k j : ℕ) (r : State) : Type 0 where
  pub is : (p : Plan) → Spelled p activities t → s.waiting ≤ 64 → Good p s.waiting o k j → r ≡ messages_after (doing_at p k) j o s

-- r are the messages after it
pub record MovesMail (t : List ℕ) (activities : ℕ) (messages : List Message) (waiting : ℕ) (o : Order) (k j : ℕ) (r : Mail) : Type 0 where
  pub is : (s : State) → s.messages ≡ messages → s.waiting ≡ waiting → MovesMessages t activities s o k j (with_messages r.messages r.waiting s)

-- r is what the step of activity k in an order leads to, its slot written back
pub record StepsSlot (t : List ℕ) (activities : ℕ) (s : State) (o : Order) (i k j : ℕ) (y : Tally) (r : Stepped) : Type 0 where
  pub is : (p : Plan) → Spelled p activities t → s.waiting ≤ 64 → Good p s.waiting o k j → r ≡ bare (calls.stepped p (offering i k j) s y o [])

-- m is what the step of activity k in an order leads to: the order takes the values of the message at place j, and moves on
pub record Nexts (t : List ℕ) (activities : ℕ) (messages : List Message) (o : Order) (k j : ℕ) (m : Next) : Type 0 where
  pub values : List ℕ
  pub between : Order
  pub read : values ≡ gives (get_or messages j no_message)
  pub takes : TakesOrder t activities k values o between
  pub moves : StepsOrder t activities k between m

-- the answer, the state and the tally where an order moved to this
abbrev pub moved_in : State → (slot activity place : ℕ) → Next → Tally → Stepped
moved_in s i k j m y =
    record {
      answer = answering (offering i k j) m.end m.fault;
      state = with_order i m.order s;
      tally = count_end m.end y;
    }

-- what a step that is refused with this answer changes: nothing
abbrev pub nothing_by : Step → List Message → (waiting : ℕ) → Tally → Change
nothing_by x messages waiting y = record { answer = x; order = no_order; messages = messages; waiting = waiting; tally = y }

-- a state with a change put in: a step that is refused leaves it; one that is taken leaves its order in its slot, and the messages
abbrev pub put_in : State → Change → State
put_in s r = cond (eqb r.answer.refusal 0) (with_order r.answer.slot r.order (with_messages r.messages r.waiting s)) s

-- the answer, the state and the tally where a step changes this
abbrev pub changed : State → Change → Stepped
changed s r = record { answer = r.answer; state = put_in s r; tally = r.tally }

-- r is what the step of activity k in the order o of slot i changes, in any state with these messages
pub record MovesFrom (t : List ℕ) (activities : ℕ) (o : Order) (messages : List Message) (waiting i k j : ℕ) (y : Tally) (r : Change) : Type 0 where
  pub is : (s : State) → s.messages ≡ messages → s.waiting ≡ waiting → StepsSlot t activities s o i k j y (changed s r)
  pub taken : r.answer.refusal ≡ 0
  pub slot : r.answer.slot ≡ i

-- r is what the offer with this slot, activity and place leads to
pub record TakesOffer (t : List ℕ) (activities : ℕ) (s : State) (i k j : ℕ) (y : Tally) (r : Stepped) : Type 0 where
  pub is : (p : Plan) (c : ℕ) → Spelled p activities t → in_limits s ≡ true → choosing (offers_of p s) c ≡ chosen (offering i k j)
      → r ≡ bare (calls.taken p (offering i k j) s y)

-- r is what the offer of an activity and a place changes in slot i with the order o
pub record Moves (t : List ℕ) (activities : ℕ) (o : Order) (messages : List Message) (waiting i k j : ℕ) (y : Tally) (r : Change) : Type 0 where
  pub is : (s : State) → s.messages ≡ messages → s.waiting ≡ waiting → o ≡ get_or s.orders i no_order → TakesOffer t activities s i k j y (changed s r)
  pub taken : r.answer.refusal ≡ 0
  pub slot : r.answer.slot ≡ i

-- r is what the step with a choice changes in a state that has the plan with this table and these flags. Whatever the table: a step that is taken
-- has one of the 16 slots, and one that is refused changes nothing.
pub record StepsBy (t flags : List ℕ) (activities : ℕ) (s : State) (c : ℕ) (y : Tally) (r : Change) : Type 0 where
  pub is : Has t flags activities s → changed s r ≡ bare (calls.step c s y)
  pub within : r.answer.refusal ≡ 0 → r.answer.slot < 16
  pub nothing : (r.answer.refusal ≡ 0 → ⊥) → r ≡ nothing_by r.answer s.messages s.waiting y
