-- Meaning: what ties the history of a slot to what stands in it, to the steps taken and to their answers, stated beside demand 3, which judges the history by
-- itself: marks, lists, steps, faults, ends, places, and that nothing is stuck. Assumes nothing: these are definitions.
use Rattle.std.specs.Prelude.{ℕ, zero, suc, ◌+◌, ◌≡◌, Bool, true, false, cond, not, ◌&&◌, ◌||◌, List, [], ◌∷◌, ◌++◌, reverse, map, get_or, leb, ltb, eqb}
use Rattle.plan.specs.Found.{found}
use Rattle.plan.specs.Read.{read_plan}
use Rattle.plan.specs.Tree.{held_by, Own, empty, send, receive, set as setting, raise, leave, choose, repeat, sequence, flow, pick, scope, arm, is_scope, has_undo, numbers_of, general_part, undo_part, Act, act, Acts, none, more, Plan, size}
use Rattle.order.specs.declared.Order.{Order}
use Rattle.order.specs.declared.End.{End}
use Rattle.order.specs.declared.End.TheVariants.{None, Well, Handled, Failed, Left}
use Rattle.machine.specs.declared.State.{State}
use Rattle.machine.specs.declared.Tally.{Tally}
use Rattle.order.specs.Lists.{every, some, only, each}
use Rattle.order.specs.State.{idle, faulty, undoing, handling, halted, withdrawing, Name, root, inner, same, closings, state_in, choice_in, mark_of, state_of, is_live, no_order}
use Rattle.order.specs.Expression.{unbound_variable, conflicting_receive, no_such_partner, Value, fault as faulting, value, evaluate}
use Rattle.order.specs.Event.{Event, started, began, closed, faulted, stopped, ended, raised, left}
use Rattle.order.specs.Begin.{part, part_at, quiet}
use Rattle.order.specs.Scope.{Scope, chosen_part, chosen_at, scope_at, root_of, is_open, inner_runs}
use Rattle.order.specs.Acting.{all_bound, reaches, its_own, in_place, Moved, acted, started_order}
use Rattle.order.specs.Awaited.{Ready}
use Rattle.order.specs.Judging.{is_thing, Verdict, clear, clash, conflict, spare}
use Rattle.machine.specs.Fit.{Doing, no_step, sends, takes, moves, cuts, closes, ready_of}
use Rattle.machine.specs.State.{no_message}
use Rattle.machine.specs.Calls.{loaded, post, collect, drop_at, doing_at, order_taking, Stepped, step, Call, posting, collecting, dropping, stepping}
use Rattle.undoing.specs.History.{history}
use Rattle.undoing.specs.Demand3.{scopes_of, since, inside_of, closings_of, undone_of, has_turned, is_left, may_turn, none_now}

-- the state after these calls
unfoldable pub state_after : List Call → State → Tally → State
state_after [] s t = s
state_after (posting m ∷ l) s t = state_after l (post m s).state t
state_after (collecting ∷ l) s t = state_after l (collect s).state t
state_after (dropping j ∷ l) s t = state_after l (drop_at j s).state t
state_after (stepping c ∷ l) s t = let r = step c s t in state_after l r.state r.tally

-- the tally after these calls
unfoldable pub tally_after : List Call → State → Tally → Tally
tally_after [] s t = t
tally_after (posting m ∷ l) s t = tally_after l (post m s).state t
tally_after (collecting ∷ l) s t = tally_after l (collect s).state t
tally_after (dropping j ∷ l) s t = tally_after l (drop_at j s).state t
tally_after (stepping c ∷ l) s t = let r = step c s t in tally_after l r.state r.tally

-- what stands in a slot after these calls, and what happened in it, the newest first
abbrev pub order_after : List Call → (slot : ℕ) → State → Tally → Order
order_after l i s t = get_or (state_after l s t).orders i no_order

abbrev pub past_after : List Call → (slot : ℕ) → State → Tally → List Event
past_after l i s t = reverse (history l i s t)

-- a scope of the plan: the root, or one that has this number
abbrev pub is_name : Plan → Name → Bool
is_name p root = true
is_name p (inner k) = some (λ x. eqb x.number k) (scopes_of p)

-- What holds after any run of posts, collects and choices from a fresh start, for every accepted plan and every slot: of the plan, the order in
-- the slot and what happened in it.
abbrev pub Always : (Plan → Order → (past : List Event) → Type 0) → Type 0
Always P =
    (bytes : List ℕ) (p : Plan) (next : ℕ) → read_plan bytes ≡ found p next → (calls : List Call) (slot : ℕ) (t : Tally) →
    P p (order_after calls slot (loaded bytes) t) (past_after calls slot (loaded bytes) t)

-- A slot is live exactly where, by its history, an order has started and is not over.
unfoldable pub LiveTold : Type 0
LiveTold = Always (λ p o past. is_live o ≡ not (none_now past))

-- MARKS. In a live order the mark of every scope says what the history says of it: it is idle exactly where the scope is not left running; it
-- is that of an open scope exactly where the scope may still fault or be stopped; and it is one of the five others exactly where it has.
abbrev pub is_turned : (mark : ℕ) → Bool
is_turned m = (eqb (state_in m) faulty || eqb m halted) || ((eqb (state_in m) undoing || eqb m withdrawing) || eqb (state_in m) handling)

unfoldable pub MarksTold : Type 0
MarksTold =
    Always (λ p o past. is_live o ≡ true → (n : Name) → is_name p n ≡ true →
    (not (eqb (mark_of n o) idle) ≡ is_left n past) × (is_open (mark_of n o) ≡ may_turn n past) × (is_turned (mark_of n o) ≡ has_turned n past))

-- LISTS. In a live order what is remembered for a scope, the last first, is what closed directly inside it since it last began less what it has
-- undone since; and for a scope that is not left running nothing is remembered. A scope's list is that of its body: 0 the root's, k + 1 that of scope k.
abbrev pub body_of_name : Name → ℕ
body_of_name root = 0
body_of_name (inner k) = k + 1

abbrev pub remembered : Name → Order → List ℕ
remembered n o = reverse (map (λ c. c.scope) (only (λ c. eqb c.part (body_of_name n)) (closings o)))

unfoldable pub ListsTold : Type 0
ListsTold =
    Always (λ p o past. is_live o ≡ true → (n : Name) → is_name p n ≡ true →
    (is_left n past ≡ true → closings_of p n past ≡ undone_of p n past ++ remembered n o) × (is_left n past ≡ false → remembered n o ≡ []))

-- STEPS. The starts, closings, raises and leaves of a history are those of the steps taken in the slot, no more, no fewer, and in their order. A step's
-- own deed comes first, and then a raise for each conflict that stands when the receives open then are judged: so a receive or an arm raises exactly
-- where it is the higher one of the pair whose higher number is least.

-- an event that is a step's own
unfoldable pub is_deed : Event → Bool
is_deed started = true
is_deed (began k) = false
is_deed (closed k) = true
is_deed (faulted n x) = false
is_deed (stopped k) = false
is_deed (ended n) = false
is_deed (raised k x) = true
is_deed left = true

-- "makes its step act as a raise": a send of unbound variables, and an expression, with the number that it met
abbrev pub raised_if : (k : ℕ) → (number : ℕ) → (fails : Bool) → List Event
raised_if k x fails = cond fails (raised k x ∷ []) []

abbrev pub raised_by : (k : ℕ) → Value → List Event
raised_by k (faulting x) = raised k x ∷ []
raised_by k (value n) = []

-- what the step of activity k is in the history, by what the activity says of itself and by the order that has the step
unfoldable pub deed_of : Own → (k : ℕ) → Order → List Event
deed_of empty k o = []
deed_of (send to op vs) k o = cond (all_bound o (held_by to ++ vs)) (raised_if k no_such_partner (not (reaches o to))) (raised k unbound_variable ∷ [])
deed_of (receive p op vs) k o = []
deed_of (setting v e) k o = raised_by k (evaluate e o)
deed_of (raise n) k o = raised k n ∷ []
deed_of leave k o = left ∷ []
deed_of (choose e) k o = raised_by k (evaluate e o)
deed_of (repeat e) k o = raised_by k (evaluate e o)
deed_of sequence k o = []
deed_of flow k o = []
deed_of pick k o = []
deed_of (scope ns undo) k o = closed k ∷ []
deed_of (arm p op vs) k o = []

-- activity t, where k is the number of the first; none where there is no such activity
unfoldable mutual
  pub deed_in : Act → (k t : ℕ) → Order → List Event
  deed_in (act own within) k t o = elim (eqb k t) [ true ↦ deed_of own k o | false ↦ deed_among within (k + 1) t o ]

  pub deed_among : Acts → (c t : ℕ) → Order → List Event
  deed_among none c t o = []
  deed_among (more a l) c t o = elim (ltb t (c + size a)) [ true ↦ deed_in a c t o | false ↦ deed_among l (c + size a) t o ]

unfoldable pub deed_at : Plan → (t : ℕ) → Order → List Event
deed_at p t o =
    elim (ltb t (size p.body)) [ true ↦ deed_in p.body 0 t o | false ↦ deed_in p.fault (size p.body) t o ]

-- the order that has a step in a slot: the one that stands there, or the one that starts
abbrev pub having : Plan → (slot : ℕ) → State → Order
having p i s = let o = get_or s.orders i no_order in cond (is_live o) o (started_order p)

-- where it starts, that comes first
abbrev pub starting : (slot : ℕ) → State → List Event
starting i s = cond (is_live (get_or s.orders i no_order)) [] (started ∷ [])

-- a step was taken, in this slot
abbrev pub is_taken : (slot : ℕ) → Stepped → Bool
is_taken i r = eqb r.answer.refusal 0 && eqb r.answer.slot i

-- the order after the step of this answer, before it is judged: the one that has the step, with the values of its message bound, and its activity acted
abbrev pub own_step : Plan → (slot : ℕ) → State → Stepped → Moved
own_step p i s r =
    let t = r.answer.activity in
    acted its_own p t (order_taking (doing_at p t) (get_or s.messages r.answer.place no_message) (having p i s))

-- the raises of an order that is judged, at most n times
unfoldable pub clashes : (n : ℕ) → Plan → Moved → List Event
clashes zero p m = []
clashes (suc n) p m =
    elim m.end [
      | None ↦ elim (conflict p m.order) [ clear ↦ [] | clash k ↦ raised k conflicting_receive ∷ clashes n p (acted in_place p k m.order) ]
      | Well ↦ []
      | Handled ↦ []
      | Failed ↦ []
      | Left ↦ []
    ]

-- the step of this answer, where it was taken in this slot
unfoldable pub deed_by : Plan → (slot : ℕ) → State → Stepped → List Event
deed_by p i s r =
    cond (is_taken i r)
    (starting i s ++ (deed_at p r.answer.activity (having p i s) ++ clashes (spare p (own_step p i s r).order) p (own_step p i s r)))
    []

unfoldable pub deeds_taken : Plan → List Call → (slot : ℕ) → State → Tally → List Event
deeds_taken p [] i s t = []
deeds_taken p (posting m ∷ l) i s t = deeds_taken p l i (post m s).state t
deeds_taken p (collecting ∷ l) i s t = deeds_taken p l i (collect s).state t
deeds_taken p (dropping j ∷ l) i s t = deeds_taken p l i (drop_at j s).state t
deeds_taken p (stepping c ∷ l) i s t = let r = step c s t in deed_by p i s r ++ deeds_taken p l i r.state r.tally

unfoldable pub StepsTold : Type 0
StepsTold =
    (bytes : List ℕ) (p : Plan) (next : ℕ) → read_plan bytes ≡ found p next → (calls : List Call) (slot : ℕ) (t : Tally) →
    only is_deed (history calls slot (loaded bytes) t) ≡ deeds_taken p calls slot (loaded bytes) t

-- FAULTS. "A raise in a body faults the nearest scope around it."; "A raise inside the undo parts or fault part that a scope is running ends that
-- scope, forgets the rest of its list, and faults the scope around it."; "A fault that reaches a scope already stopped or faulted is absorbed."

-- Where an activity stands: in the body of a scope, in one of its fault parts, or in an undo part that it may run. With the scope goes, where it has no undo part, the
-- one around it, to which it hands on, and so on (`beyond`); and last the scope around the last of these (the root's is the root itself).
pub data Place : Type 0 where
  body_of : (scope : Name) → (beyond : List Name) → (around : Name) → Place
  fault_of : (scope : Name) → (beyond : List Name) → (around : Name) → Place
  undo_of : (scope : Name) → (beyond : List Name) → (around : Name) → Place

-- that scope, those beyond it, and the scope around the last of these; then the scope around the first
abbrev pub name_of : Place → Name
name_of (body_of n ns m) = n
name_of (fault_of n ns m) = n
name_of (undo_of n ns m) = n

abbrev pub beyond_of : Place → List Name
beyond_of (body_of n ns m) = ns
beyond_of (fault_of n ns m) = ns
beyond_of (undo_of n ns m) = ns

abbrev pub last_of : Place → Name
last_of (body_of n ns m) = m
last_of (fault_of n ns m) = m
last_of (undo_of n ns m) = m

abbrev pub first_of : List Name → Name → Name
first_of [] m = m
first_of (n ∷ ns) m = n

abbrev pub around_of : Place → Name
around_of q = first_of (beyond_of q) (last_of q)

-- beyond a scope that stands in this place, and around the last of that: where it has no undo part it hands on to the scope of the place
abbrev pub beyond_in : (undo : Bool) → Place → List Name
beyond_in undo q = cond undo [] (name_of q ∷ beyond_of q)

abbrev pub last_in : (undo : Bool) → Place → Name
last_in undo q = cond undo (name_of q) (last_of q)

-- where activity t stands, in activity k that stands in a place; the undo part of a scope is run by the scope around it, or by one beyond
unfoldable mutual
  pub place_in : Act → (k t : ℕ) → Place → Place
  place_in (act own within) k t q =
      elim (eqb k t) [
        | true ↦ q
        | false ↦ elim (is_scope own) [
          | true ↦ place_parts (general_part (numbers_of own)) within (k + 1) t (body_of (inner k) (beyond_in (has_undo own) q) (last_in (has_undo own) q)) (fault_of (inner k) (beyond_in (has_undo own) q) (last_in (has_undo own) q)) (undo_of (name_of q) (beyond_of q) (last_of q))
          | false ↦ place_among within (k + 1) t q
        ]
      ]

  pub place_among : Acts → (c t : ℕ) → Place → Place
  place_among none c t q = q
  place_among (more a l) c t q = elim (ltb t (c + size a)) [ true ↦ place_in a c t q | false ↦ place_among l (c + size a) t q ]

  -- the parts of a scope, each in its place: the next, after it `left` fault parts, and then the undo part
  pub place_parts : (left : ℕ) → Acts → (c t : ℕ) → (here fault undo : Place) → Place
  place_parts n none c t q f u = u
  place_parts zero (more a l) c t q f u = elim (ltb t (c + size a)) [ true ↦ place_in a c t q | false ↦ place_parts zero l (c + size a) t u f u ]
  place_parts (suc n) (more a l) c t q f u = elim (ltb t (c + size a)) [ true ↦ place_in a c t q | false ↦ place_parts n l (c + size a) t f f u ]

unfoldable pub place_of : Plan → (t : ℕ) → Place
place_of p t =
    elim (ltb t (size p.body)) [
      | true ↦ place_in p.body 0 t (body_of root [] root)
      | false ↦ place_in p.fault (size p.body) t (fault_of root [] root)
    ]

-- An undo part is run by the nearest of these scopes that is left running: the place with that one for its scope.
unfoldable pub run_at : (is_left : Name → Bool) → (scope : Name) → (beyond : List Name) → (around : Name) → Place
run_at f n [] m = undo_of n [] m
run_at f n (x ∷ xs) m = cond (f n) (undo_of n (x ∷ xs) m) (run_at f x xs m)

abbrev pub seen : (is_left : Name → Bool) → Place → Place
seen f (body_of n ns m) = body_of n ns m
seen f (fault_of n ns m) = fault_of n ns m
seen f (undo_of n ns m) = run_at f n ns m

-- where an activity stands, by what happened before and by what stands in the slot
abbrev pub place_after : Plan → (past : List Event) → (t : ℕ) → Place
place_after p past t = seen (λ n. is_left n past) (place_of p t)

abbrev pub place_now : Plan → Order → (t : ℕ) → Place
place_now p o t = seen (λ n. not (eqb (mark_of n o) idle)) (place_of p t)

-- what must happen next
pub data Due : Type 0 where
  nothing : Due
  fault : (scope : Name) → (number : ℕ) → Due
  end : (scope : Name) → Due

-- After a raise, with its number: the fault of the scope in whose body it was, or the end of the scope that runs the part it was in
abbrev pub due_first : (number : ℕ) → Place → Due
due_first x (body_of n ns m) = fault n x
due_first x (fault_of n ns m) = end n
due_first x (undo_of n ns m) = end n

-- after that end: the fault of the scope around, where that one may still fault, with the number of the same raise
abbrev pub due_second : (number : ℕ) → (past : List Event) → Place → Due
due_second x past (body_of n ns m) = nothing
due_second x past (fault_of n ns m) = cond (may_turn (first_of ns m) past) (fault (first_of ns m) x) nothing
due_second x past (undo_of n ns m) = cond (may_turn (first_of ns m) past) (fault (first_of ns m) x) nothing

unfoldable pub due_ended : Plan → (past : List Event) → Due
due_ended p [] = nothing
due_ended p (started ∷ past) = nothing
due_ended p (began k ∷ past) = nothing
due_ended p (closed k ∷ past) = nothing
due_ended p (faulted n x ∷ past) = nothing
due_ended p (stopped k ∷ past) = nothing
due_ended p (ended n ∷ past) = nothing
due_ended p (raised k x ∷ past) = due_second x past (place_after p past k)
due_ended p (left ∷ past) = nothing

unfoldable pub due : Plan → (past : List Event) → Due
due p [] = nothing
due p (started ∷ past) = nothing
due p (began k ∷ past) = nothing
due p (closed k ∷ past) = nothing
due p (faulted n x ∷ past) = nothing
due p (stopped k ∷ past) = nothing
due p (ended n ∷ past) = due_ended p past
due p (raised k x ∷ past) = due_first x (place_after p past k)
due p (left ∷ past) = nothing

-- which scope an event faults, and with which number; and which it ends
unfoldable pub is_fault_of : (Name → Bool) → Event → Bool
is_fault_of f started = false
is_fault_of f (began k) = false
is_fault_of f (closed k) = false
is_fault_of f (faulted n x) = f n
is_fault_of f (stopped k) = false
is_fault_of f (ended n) = false
is_fault_of f (raised k x) = false
is_fault_of f left = false

unfoldable pub is_fault_with : Name → (number : ℕ) → Event → Bool
is_fault_with s y started = false
is_fault_with s y (began k) = false
is_fault_with s y (closed k) = false
is_fault_with s y (faulted n x) = same s n && eqb x y
is_fault_with s y (stopped k) = false
is_fault_with s y (ended n) = false
is_fault_with s y (raised k x) = false
is_fault_with s y left = false

unfoldable pub is_end_of : Name → Event → Bool
is_end_of s started = false
is_end_of s (began k) = false
is_end_of s (closed k) = false
is_end_of s (faulted n x) = false
is_end_of s (stopped k) = false
is_end_of s (ended n) = same s n
is_end_of s (raised k x) = false
is_end_of s left = false

-- what is due happens next; and no scope faults but where that is due
abbrev pub heeds : Due → Event → Bool
heeds nothing e = not (is_fault_of (λ n. true) e)
heeds (fault s x) e = is_fault_with s x e
heeds (end s) e = is_end_of s e

abbrev pub is_nothing : Due → Bool
is_nothing nothing = true
is_nothing (fault s x) = false
is_nothing (end s) = false

-- a history, oldest first, after a past: each event heeds what is due, and at its end nothing is
unfoldable pub heeds_after : Plan → (past : List Event) → List Event → Bool
heeds_after p past [] = is_nothing (due p past)
heeds_after p past (e ∷ l) = heeds (due p past) e && heeds_after p (e ∷ past) l

unfoldable pub FaultsTold : Type 0
FaultsTold =
    (bytes : List ℕ) (p : Plan) (next : ℕ) → read_plan bytes ≡ found p next → (calls : List Call) (slot : ℕ) (t : Tally) →
    heeds_after p [] (history calls slot (loaded bytes) t) ≡ true

-- ENDS. "How an order ended is one of well, handled, failed or left: root body done; root fault part done; a fault out of the root; leave.": the ends
-- that the steps in a slot answer are those of its history, no more, no fewer, and in their order.

-- the newest event is a raise
unfoldable pub is_raised : (past : List Event) → Bool
is_raised [] = false
is_raised (started ∷ past) = false
is_raised (began k ∷ past) = false
is_raised (closed k ∷ past) = false
is_raised (faulted n x ∷ past) = false
is_raised (stopped k ∷ past) = false
is_raised (ended n ∷ past) = false
is_raised (raised k x ∷ past) = true
is_raised (left ∷ past) = false

-- how an order ended, by its newest event: its root ended, which had not turned, or had turned and ended right after a raise or not; or it left
unfoldable pub end_told : (past : List Event) → End
end_told [] = None
end_told (started ∷ past) = None
end_told (began k ∷ past) = None
end_told (closed k ∷ past) = None
end_told (faulted n x ∷ past) = None
end_told (stopped k ∷ past) = None
end_told (ended root ∷ past) = cond (has_turned root past) (cond (is_raised past) Failed Handled) Well
end_told (ended (inner k) ∷ past) = None
end_told (raised k x ∷ past) = None
end_told (left ∷ past) = Left

-- an end, where there is one
abbrev pub end_list : End → List End
end_list None = []
end_list Well = Well ∷ []
end_list Handled = Handled ∷ []
end_list Failed = Failed ∷ []
end_list Left = Left ∷ []

-- the ends of a history, oldest first, after a past
unfoldable pub ends_in : (past : List Event) → List Event → List End
ends_in past [] = []
ends_in past (e ∷ l) = end_list (end_told (e ∷ past)) ++ ends_in (e ∷ past) l

-- the end that a step answers, where its slot is this one
abbrev pub end_by : (slot : ℕ) → Stepped → List End
end_by i r = cond (eqb r.answer.slot i) (end_list r.answer.end) []

unfoldable pub ends_taken : List Call → (slot : ℕ) → State → Tally → List End
ends_taken [] i s t = []
ends_taken (posting m ∷ l) i s t = ends_taken l i (post m s).state t
ends_taken (collecting ∷ l) i s t = ends_taken l i (collect s).state t
ends_taken (dropping j ∷ l) i s t = ends_taken l i (drop_at j s).state t
ends_taken (stepping c ∷ l) i s t = let r = step c s t in end_by i r ++ ends_taken l i r.state r.tally

unfoldable pub EndsTold : Type 0
EndsTold =
    (bytes : List ℕ) (p : Plan) (next : ℕ) → read_plan bytes ≡ found p next → (calls : List Call) (slot : ℕ) (t : Tally) →
    ends_in [] (history calls slot (loaded bytes) t) ≡ ends_taken calls slot (loaded bytes) t

-- NUMBERS. "The desk asks why an order ended handled.": the number that a step answers where it ends its order handled or failed is that of the fault that the
-- root handled, or that went out of the root, as the history tells it.

-- the number of the fault of a scope since it last began, of which there is one at most
unfoldable pub numbers_told : Name → Event → List ℕ
numbers_told s started = []
numbers_told s (began k) = []
numbers_told s (closed k) = []
numbers_told s (faulted n x) = cond (same s n) (x ∷ []) []
numbers_told s (stopped k) = []
numbers_told s (ended n) = []
numbers_told s (raised k x) = []
numbers_told s left = []

unfoldable pub number_told : Name → (past : List Event) → ℕ
number_told s past = get_or (each (numbers_told s) (since s past)) 0 0

-- the number of the newest event, a raise
unfoldable pub raise_told : (past : List Event) → ℕ
raise_told [] = 0
raise_told (started ∷ past) = 0
raise_told (began k ∷ past) = 0
raise_told (closed k ∷ past) = 0
raise_told (faulted n x ∷ past) = 0
raise_told (stopped k ∷ past) = 0
raise_told (ended n ∷ past) = 0
raise_told (raised k x ∷ past) = x
raise_told (left ∷ past) = 0

abbrev pub cause_by : (past : List Event) → End → List ℕ
cause_by past None = []
cause_by past Well = []
cause_by past Handled = number_told root past ∷ []
cause_by past Failed = raise_told past ∷ []
cause_by past Left = []

-- of a history, oldest first, after a past; and of the steps in a slot
unfoldable pub causes_in : (past : List Event) → List Event → List ℕ
causes_in past [] = []
causes_in past (e ∷ l) = cause_by past (end_told (e ∷ past)) ++ causes_in (e ∷ past) l

abbrev pub cause_answered : (fault : ℕ) → End → List ℕ
cause_answered x None = []
cause_answered x Well = []
cause_answered x Handled = x ∷ []
cause_answered x Failed = x ∷ []
cause_answered x Left = []

abbrev pub cause_of : (slot : ℕ) → Stepped → List ℕ
cause_of i r = cond (eqb r.answer.slot i) (cause_answered r.answer.fault r.answer.end) []

unfoldable pub causes_taken : List Call → (slot : ℕ) → State → Tally → List ℕ
causes_taken [] i s t = []
causes_taken (posting m ∷ l) i s t = causes_taken l i (post m s).state t
causes_taken (collecting ∷ l) i s t = causes_taken l i (collect s).state t
causes_taken (dropping j ∷ l) i s t = causes_taken l i (drop_at j s).state t
causes_taken (stepping c ∷ l) i s t = let r = step c s t in cause_of i r ++ causes_taken l i r.state r.tally

unfoldable pub HandledBecause : Type 0
HandledBecause =
    (bytes : List ℕ) (p : Plan) (next : ℕ) → read_plan bytes ≡ found p next → (calls : List Call) (slot : ℕ) (t : Tally) →
    causes_in [] (history calls slot (loaded bytes) t) ≡ causes_taken calls slot (loaded bytes) t

-- PLACES. In a live order every activity that awaits its step stands where its scope is as it should be: in a body, that scope is open; in a
-- fault part, it is handling (so that by the lists it has undone all); in an undo part, the scope that runs it is undoing.
abbrev pub fits : Place → Order → Bool
fits (body_of n ns m) o = is_open (mark_of n o)
fits (fault_of n ns m) o = eqb (state_of n o) handling
fits (undo_of n ns m) o = eqb (state_of n o) undoing || eqb (mark_of n o) withdrawing

unfoldable pub PlacesTold : Type 0
PlacesTold = Always (λ p o past. is_live o ≡ true → every (λ r. fits (place_now p o r.activity) o) (ready_of p o) ≡ true)

-- NEVER STUCK. A live order always has an activity or an arm that awaits its step.
unfoldable pub is_step : Doing → Bool
is_step no_step = false
is_step (sends partner operation vs) = true
is_step (takes partner operation vs) = true
is_step moves = true
is_step cuts = true
is_step (closes undo s) = true

unfoldable pub NeverStuck : Type 0
NeverStuck = Always (λ p o past. is_live o ≡ true → some (λ r. is_step r.step) (ready_of p o) ≡ true)

-- GOING ON. In a live order a scope that waits has one running directly inside it; one that undoes has an undo part of its own to run running, that of one
-- directly inside it or inside one there that has no undo part and is not left running; never more than one; and no scope but one that undoes has any; one that
-- handles has something running in the fault part that it chose.

-- 1 where the undo part of a scope, the last of these, runs, and 0 where not
unfoldable pub undo_runs : (numbers : List ℕ) → Acts → (c : ℕ) → (marks : List ℕ) → ℕ
undo_runs ns l c ms = cond (quiet (part_at (undo_part ns) l c) (size (part (undo_part ns) l)) ms) 0 1

-- how many undo parts run, of the scopes of activity k with no other scope around them there; looking through one that has no undo part and is idle
unfoldable mutual
  pub undos_in : Act → (k : ℕ) → (marks : List ℕ) → ℕ
  undos_in (act own within) k ms =
      elim (is_scope own) [
        | true ↦ cond (has_undo own) (undo_runs (numbers_of own) within (k + 1) ms) (cond (eqb (get_or ms k 0) idle) (undos_first within (k + 1) ms) 0)
        | false ↦ undos_among within (k + 1) ms
      ]

  -- in the body of a scope
  pub undos_first : Acts → (c : ℕ) → (marks : List ℕ) → ℕ
  undos_first none c ms = 0
  undos_first (more a l) c ms = undos_in a c ms

  pub undos_among : Acts → (c : ℕ) → (marks : List ℕ) → ℕ
  undos_among none c ms = 0
  undos_among (more a l) c ms = undos_in a c ms + undos_among l (c + size a) ms

unfoldable pub moves_on : Scope → (mark : ℕ) → (marks : List ℕ) → Bool
moves_on s mark ms =
    let m = state_in mark in
    let c = choice_in mark in
    (not (eqb m faulty || eqb mark halted) || inner_runs s.body s.body_at ms)
    && (eqb (undos_in s.body s.body_at ms) (cond (eqb m undoing || eqb mark withdrawing) 1 0)
    && (not (eqb m handling) || not (quiet (chosen_at c s) (size (chosen_part c s)) ms)))

unfoldable mutual
  pub go_in : Act → (k : ℕ) → (marks : List ℕ) → Bool
  go_in (act own within) k ms =
      cond (is_scope own) ((not (has_undo own) && eqb (get_or ms k 0) idle) || moves_on (scope_at (numbers_of own) k within) (get_or ms k 0) ms) true
      && go_among within (k + 1) ms

  pub go_among : Acts → (c : ℕ) → (marks : List ℕ) → Bool
  go_among none c ms = true
  go_among (more a l) c ms = go_in a c ms && go_among l (c + size a) ms

unfoldable pub GoingOn : Type 0
GoingOn =
    Always (λ p o past. is_live o ≡ true →
    (moves_on (root_of p) o.root o.marks && (go_in p.body 0 o.marks && go_in p.fault (size p.body) o.marks)) ≡ true)

-- WHICH PAIR. A raise is asked for exactly where two receives or arms that are open are for one thing; it stands in place of the higher-numbered of
-- the two; and "of several pairs the one whose higher number is least comes first". Of any order.
unfoldable pub for_one : Doing → Doing → Bool
for_one d no_step = false
for_one d (sends partner operation vs) = false
for_one d (takes partner operation vs) = is_thing partner operation vs d
for_one d moves = false
for_one d cuts = false
for_one d (closes undo s) = false

-- one of these with a lower number is for the same thing
unfoldable pub is_higher : List Ready → Ready → Bool
is_higher l r = some (λ q. ltb q.activity r.activity && for_one q.step r.step) l

abbrev pub PairAs : List Ready → Verdict → Type 0
PairAs l clear = every (λ r. not (is_higher l r)) l ≡ true
PairAs l (clash k) =
    (some (λ r. eqb r.activity k && is_higher l r) l ≡ true) × (every (λ r. not (is_higher l r) || leb k r.activity) l ≡ true)

unfoldable pub PairTold : Type 0
PairTold = (p : Plan) (o : Order) → PairAs (ready_of p o) (conflict p o)

-- NO CONFLICT. In a live order no two of the receives and arms that are open are for one thing.
unfoldable pub NoneTwice : Type 0
NoneTwice = Always (λ p o past. conflict p o ≡ clear)
