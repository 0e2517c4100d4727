-- Glue: what the orders have on offer, what may start, and what is seen of the whole offer. Assumes nothing: these are definitions, and nothing here has to be
-- believed.
use Rattle.std.specs.Prelude.{ℕ, ◌-◌, ◌<◌, ◌≤◌, Bool, false, cond, List, [], ◌≡◌, ltb, length, get_or}
use Rattle.plan.specs.Tree.{Plan}
use Rattle.machine.specs.declared.Message.{Message}
use Rattle.order.specs.declared.Order.{Order}
use Rattle.machine.specs.declared.State.{State}
use Rattle.machine.specs.declared.Step.{Step}
use Rattle.fit.specs.Answering.{Correlated, message_at, Picks, catches}
use Rattle.order.specs.Acting.{started_order}
use Rattle.order.specs.Answering.{Spelled}
use Rattle.machine.specs.Calls.{preview_by}
use Rattle.machine.specs.Fit.{ready_of, Live, live_from, Letter, letters_from, fittings}
use Rattle.machine.specs.Offer.{Offers, together, all_of, order_offers, free_from, start_offers, offers_of}
use Rattle.machine.specs.State.{no_message}
use Rattle.offer.specs.declared.Amount.{Amount}
use Rattle.sight.specs.declared.Sight.{Sight}
use Rattle.fit.specs.Folds.{folded}
use Rattle.fit.specs.Lines.{Line, Tabled, Wholes}
use Rattle.fit.specs.Receiving.{Lent}
use Rattle.sight.specs.Sights.{seen, showing, withholding, unseen, Told}

-- r is the lowest free slot
pub record Frees (orders : List Order) (r : ℕ) : Type 0 where
  pub is : r ≡ free_from 0 orders

pub record Informed (t picks flags letters : List ℕ) (waiting : ℕ) (least : List ℕ) (p : Plan) (l : List Letter) : Type 0 where
  pub correlated : Correlated p flags
  pub picked : Picks t picks
  pub told : Told l letters waiting least

unfoldable pub offer_live : (wait : ℕ) → Plan → List Letter → Live → Sight → Sight
offer_live wait p l x s = seen (order_offers p wait l x) s

-- what a message adds at a line of an order as it starts
unfoldable pub start_line : (free place : ℕ) → Message → Order → Plan → List Letter → Line → Sight → Sight
start_line free j m o p l x s =
    cond (catches p o m x.own x.arms x.activity) (cond (ltb free 16) (showing free x.activity j s) (withholding s)) s

-- where r is false, the message at place j adds nothing at any line
pub record Could (t picks marks known : List ℕ) (activities : ℕ) (letters : List ℕ) (j : ℕ) (r : Bool) : Type 0 where
  pub not : r ≡ false → (free : ℕ) (s : Sight) → Wholes t activities (Lent t picks marks known) (start_line free j (message_at letters j)) s s

-- r is what the message at place j adds, where it may start the order o in the slot `free`
pub record StartsLetter {S : Type 0} (act : Offers → S → S) (t flags picks : List ℕ) (orders : List Order) (marks known : List ℕ) (free activities : ℕ) (letters : List ℕ) (j : ℕ) (s r : S) : Type 0 where
  pub is : (o : Order) (p : Plan) (y : Letter) → Correlated p flags → Lent t picks marks known o p [] → Tabled p t activities
      → y.place ≡ j → y.message ≡ message_at letters j → y.fitted ≡ fittings p (live_from p 0 orders) (message_at letters j)
      → r ≡ act (start_offers p free o (ready_of p o) y) s

-- r is what is seen of it, where it is one of the 64
pub record StartsAt (t flags picks : List ℕ) (orders : List Order) (marks known : List ℕ) (free activities : ℕ) (letters : List ℕ) (j : ℕ) (s r : Sight) : Type 0 where
  pub is : j < 64 → StartsLetter seen t flags picks orders marks known free activities letters j s r

-- the messages are those of the numbers
pub record Mailed (letters : List ℕ) (waiting : ℕ) (ms : List Message) : Type 0 where
  pub long : length ms ≡ waiting
  pub is : (j : ℕ) → j < waiting → get_or ms j no_message ≡ message_at letters j

-- what all messages that wait add
pub record Starts {S : Type 0} (act : Offers → S → S) (t flags picks : List ℕ) (orders : List Order) (marks known : List ℕ) (free activities : ℕ) (letters : List ℕ) (waiting : ℕ) (s r : S) : Type 0 where
  pub is : (o : Order) (p : Plan) (ms : List Message) → Correlated p flags → Lent t picks marks known o p [] → Tabled p t activities → Mailed letters waiting ms
      → r ≡ folded (λ y. act (start_offers p free o (ready_of p o) y)) (letters_from p (live_from p 0 orders) 0 ms) s

-- what they add in the lowest free slot, where o is an order as it starts
pub record StartsOrder {S : Type 0} (act : Offers → S → S) (t flags picks : List ℕ) (orders : List Order) (o : Order) (activities : ℕ) (letters : List ℕ) (waiting : ℕ) (s r : S) : Type 0 where
  pub is : (p : Plan) (ms : List Message) → Correlated p flags → Picks t picks → Tabled p t activities → Mailed letters waiting ms
      → r ≡ folded (λ y. act (start_offers p (free_from 0 orders) o (ready_of p o) y)) (letters_from p (live_from p 0 orders) 0 ms) s

-- r is what is seen of the whole offer of some orders and letters
pub record SeesBy (t flags picks : List ℕ) (orders : List Order) (activities : ℕ) (letters : List ℕ) (waiting choice : ℕ) (r : Sight) : Type 0 where
  pub sixteen : length orders ≡ 16
  pub is : (p : Plan) (ms : List Message) → Correlated p flags → Picks t picks → Spelled p activities t → Mailed letters waiting ms
      → r ≡ seen (together (all_of (order_offers p waiting (letters_from p (live_from p 0 orders) 0 ms)) (live_from p 0 orders))
      (all_of (start_offers p (free_from 0 orders) (started_order p) (ready_of p (started_order p))) (letters_from p (live_from p 0 orders) 0 ms))) (unseen choice)

-- r is what is seen of the whole offer
pub record SeesAll (t flags : List ℕ) (st : State) (activities choice : ℕ) (r : Sight) : Type 0 where
  pub orders : length st.orders ≡ 16
  pub messages : length st.messages ≡ 64
  pub few : st.waiting ≤ 64
  pub is : (p : Plan) → Correlated p flags → Spelled p activities t → r ≡ seen (offers_of p st) (unseen choice)

-- r is what the choice comes to
pub record Previews (t flags : List ℕ) (st : State) (activities choice : ℕ) (r : Step) : Type 0 where
  pub is : (p : Plan) → Correlated p flags → Spelled p activities t → r ≡ preview_by p choice st

-- how many are on offer, and whether something is held
abbrev pub amount_of : Offers → Amount
amount_of a = record { many = length a.offered; held = a.held }

-- what counting 4,294,967,295 down comes to
unfoldable pub amounted : Sight → Amount
amounted s = record { many = 4294967295 - s.pointer.left; held = s.held }

pub record Amounts (t flags : List ℕ) (st : State) (activities : ℕ) (r : Amount) : Type 0 where
  pub is : (p : Plan) → Correlated p flags → Spelled p activities t → r ≡ amount_of (offers_of p st)
