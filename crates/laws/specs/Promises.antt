-- Meaning: what the machine promises, as named statements about its definitions: each with the sentence of demand 1 or 2 that it renders. The contracts of the
-- code are equations with these definitions, so each holds of the compiled calls. Assumes nothing: these are definitions.
use Rattle.std.specs.Prelude.{ℕ, ◌+◌, ◌<◌, ◌≡◌, Bool, true, false, cond, List, [], ◌∷◌, ◌++◌, leb, length, get_or, take, drop}
use Rattle.plan.specs.Found.{found, among}
use Rattle.plan.specs.Read.{read_plan}
use Rattle.plan.specs.Tree.{From, Plan}
use Rattle.order.specs.declared.Order.{Order}
use Rattle.order.specs.Acting.{may_send}
use Rattle.order.specs.Lists.{stored}
use Rattle.order.specs.State.{is_live, is_bound, value_of, no_order}
use Rattle.machine.specs.declared.Message.{Message}
use Rattle.machine.specs.declared.State.{State}
use Rattle.machine.specs.declared.Tally.{Tally}
use Rattle.machine.specs.Calls.{load, post, collect, drop_at, choosing, chosen, answering, doing_at, sent_by, Stepped, step, run}
use Rattle.machine.specs.Fit.{Doing, no_step, sends, takes, moves, cuts, closes, live_from, fits, unchecked, fittings}
use Rattle.machine.specs.Limits.{plan_in}
use Rattle.machine.specs.Offer.{Offer, offering, offers_of}
use Rattle.machine.specs.Planned.{Planned}
use Rattle.machine.specs.State.{no_message, letters}
use Rattle.laws.specs.Good.{actor}

-- THE OFFER IS WHAT IS TAKEN. Demand 2: "The steps offered are exactly those that the published Blite rules allow .., and taking one gives the state
-- those rules give." A choice is taken exactly where the offer has an entry with that count, and it is that entry.
unfoldable pub OfferedIsTaken : Type 0
OfferedIsTaken =
    (p : Plan) (next : ℕ) (s : State) (t : Tally) (c : ℕ) → plan_in s ≡ found p next → c < length (offers_of p s).offered
    → (step c s t).answer ≡ answering (get_or (offers_of p s).offered c (offering 0 0 0)) (step c s t).answer.end (step c s t).answer.fault

unfoldable pub TakenIsOffered : Type 0
TakenIsOffered =
    (p : Plan) (next : ℕ) (s : State) (t : Tally) (c : ℕ) → plan_in s ≡ found p next → (step c s t).answer.refusal ≡ 0
    → c < length (offers_of p s).offered

-- IN FULL. Demand 2: "A message goes to a running order only if each correlation value it carries that the order already knows agrees in full." Where a
-- live order takes a message, at each place whose variable is for correlation and bound before the step, the message has the variable's value.
unfoldable pub TakenInFull : Type 0
TakenInFull =
    (p : Plan) (s : State) (c : ℕ) (x : Offer) → choosing (offers_of p s) c ≡ chosen x → is_live (get_or s.orders x.slot no_order) ≡ true
    → (from : From) (operation : ℕ) (vs : List ℕ) → doing_at p x.activity ≡ takes from operation vs
    → (i : ℕ) → i < length vs → among (get_or vs i 0) p.correlation ≡ true → is_bound (get_or s.orders x.slot no_order) (get_or vs i 0) ≡ true
    → get_or (get_or s.messages x.place no_message).values i 0 ≡ value_of (get_or s.orders x.slot no_order) (get_or vs i 0)

-- THE FEWEST. "Of all open receives in live orders that a message fits, only those with the fewest unchecked places may take it": no open receive that
-- it fits has fewer than the one that takes it.
unfoldable pub TakenByFewest : Type 0
TakenByFewest =
    (p : Plan) (s : State) (c : ℕ) (x : Offer) → choosing (offers_of p s) c ≡ chosen x → is_live (get_or s.orders x.slot no_order) ≡ true
    → (from : From) (operation : ℕ) (vs : List ℕ) → doing_at p x.activity ≡ takes from operation vs
    → (i : ℕ) → i < length (fittings p (live_from p 0 s.orders) (get_or s.messages x.place no_message))
    → leb (unchecked p (get_or s.orders x.slot no_order) vs) (get_or (fittings p (live_from p 0 s.orders) (get_or s.messages x.place no_message)) i 0) ≡ true

-- "Only if it fits none may it start an order": a step in a free slot takes a message that fits no open receive.
unfoldable pub StartsWhereNoneFits : Type 0
StartsWhereNoneFits =
    (p : Plan) (s : State) (c : ℕ) (x : Offer) → choosing (offers_of p s) c ≡ chosen x → is_live (get_or s.orders x.slot no_order) ≡ false
    → (from : From) (operation : ℕ) (vs : List ℕ) → doing_at p x.activity ≡ takes from operation vs
    → fittings p (live_from p 0 s.orders) (get_or s.messages x.place no_message) ≡ []

-- REFUSED IS UNCHANGED. Demand 1: "each refusal has a number, a fixed result and a fixed state afterwards". "All other refusals give back state, messages
-- and tally unchanged; a run gives them as its last taken step left them."
unfoldable pub RefusedPost : Type 0
RefusedPost = (m : Message) (s : State) → ((post m s).refusal ≡ 0 → ⊥) → (post m s).state ≡ s

unfoldable pub RefusedCollect : Type 0
RefusedCollect = (s : State) → ((collect s).refusal ≡ 0 → ⊥) → (collect s).state ≡ s

unfoldable pub RefusedDrop : Type 0
RefusedDrop = (place : ℕ) (s : State) → ((drop_at place s).refusal ≡ 0 → ⊥) → (drop_at place s).state ≡ s

unfoldable pub RefusedStep : Type 0
RefusedStep = (c : ℕ) (s : State) (t : Tally) → ((step c s t).answer.refusal ≡ 0 → ⊥) → ((step c s t).state ≡ s) × ((step c s t).tally ≡ t)

-- the state and the tally after steps with these choices, refused or not
unfoldable pub walked : List ℕ → State → Tally → State × Tally
walked [] s t = (s, t)
walked (c ∷ cs) s t = walked cs (step c s t).state (step c s t).tally

unfoldable pub RunAsLastStep : Type 0
RunAsLastStep =
    (cs : List ℕ) (budget : ℕ) (s : State) (t : Tally)
    → ((run cs budget s t).state ≡ (walked (take (run cs budget s t).taken cs) s t).0)
    × ((run cs budget s t).tally ≡ (walked (take (run cs budget s t).taken cs) s t).1)

-- 17 NEVER COMES. "State without an accepted plan, or with a number outside its limit": a state that passes 17 passes it after any call, with the same
-- plan; so from a fresh start 17 never comes. A posted message has its four places.
pub data Reached (p : Plan) (next : ℕ) : State → Type 0 where
  loading : (bytes : List ℕ) → read_plan bytes ≡ found p next → Reached p next (load bytes).state
  posting : {s : State} (m : Message) → length m.values ≡ 4 → Reached p next s → Reached p next (post m s).state
  collecting : {s : State} → Reached p next s → Reached p next (collect s).state
  dropping : {s : State} (place : ℕ) → Reached p next s → Reached p next (drop_at place s).state
  stepping : {s : State} (c : ℕ) (t : Tally) → Reached p next s → Reached p next (step c s t).state
  running : {s : State} (cs : List ℕ) (budget : ℕ) (t : Tally) → Reached p next s → Reached p next (run cs budget s t).state

unfoldable pub Never17 : Type 0
Never17 = (p : Plan) (next : ℕ) (s : State) → Reached p next s → plan_in s ≡ found p next

-- THE MESSAGES. "Send (adds a message)"; "Waiting messages stand in order of arrival; a taken or collected one closes the gap." What waits after a step: a
-- taken message has left, a send whose variables are bound has added one behind the others, and nothing else changes the messages.
unfoldable pub letters_after : Doing → (place : ℕ) → Order → List Message → List Message
letters_after no_step j o l = l
letters_after (sends to operation vs) j o l = cond (may_send o to vs) (l ++ (sent_by o to operation vs ∷ [])) l
letters_after (takes from operation vs) j o l = take j l ++ drop (j + 1) l
letters_after moves j o l = l
letters_after cuts j o l = l
letters_after (closes undo x) j o l = l

unfoldable pub LettersMove : Type 0
LettersMove =
    (p : Plan) (next : ℕ) (s : State) (t : Tally) (c : ℕ) (x : Offer) → Planned p next s → choosing (offers_of p s) c ≡ chosen x
    → letters (step c s t).state ≡ letters_after (doing_at p x.activity) x.place (actor p s.orders x.slot) (letters s)
