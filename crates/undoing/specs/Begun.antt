-- Meaning: what a step logs as begun has begun, and nothing else has: the beginnings of a log against the marks before and after it. So none is only claimed,
-- and none is left out. A step goes through its order once for itself, and once for each raise of the judging that follows; this is said of each time, since
-- what begins the first time may be stopped the second. Assumes nothing: these are definitions.
use Rattle.std.specs.Prelude.{ℕ, zero, suc, ◌+◌, ◌≡◌, Bool, true, false, cond, not, ◌&&◌, ◌||◌, List, [], ◌∷◌, ◌++◌, get_or, ltb, eqb}
use Rattle.plan.specs.Found.{found}
use Rattle.plan.specs.Read.{read_plan}
use Rattle.plan.specs.Tree.{Own, kind, is_scope, is_pick, Act, act, Acts, none, more, Plan, size}
use Rattle.order.specs.declared.Order.{Order}
use Rattle.machine.specs.declared.State.{State}
use Rattle.machine.specs.declared.Tally.{Tally}
use Rattle.order.specs.declared.End.TheVariants.{None, Well, Handled, Failed, Left}
use Rattle.order.specs.Lists.{every, some, each}
use Rattle.order.specs.State.{idle, inside, mark_at, is_live, no_order}
use Rattle.order.specs.Event.{Event, started}
use Rattle.order.specs.Acting.{is_part, in_place, Moved, acted, begun_order, started_order}
use Rattle.order.specs.Judging.{Verdict, clear, clash, conflict, spare}
unfoldable pub use Rattle.order.specs.Awaited.{kind_in, kind_among, kind_at}
use Rattle.machine.specs.Calls.{loaded, post, collect, drop_at, Stepped, step, Call, posting, collecting, dropping, stepping}
use Rattle.undoing.specs.History.{log_of}
use Rattle.undoing.specs.Ties.{state_after, tally_after, is_taken, own_step}
use Rattle.undoing.specs.Orderly.{is_began_of}

-- "Sequence, flow and empty move on inside the step that lets them", and arms have no mark: any other activity that begins lasts beyond its step
unfoldable pub lasts : (kind : ℕ) → Bool
lasts n = not (eqb n 0 || ((eqb n 8 || eqb n 9) || eqb n 255))

-- whether an activity has steps of its own: a pick has those of its arms
unfoldable pub acts : (kind : ℕ) → Bool
acts n = not ((eqb n 0 || eqb n 10) || ((eqb n 8 || eqb n 9) || eqb n 255))

-- whether step t is that of activity j: j is t, or a pick one of whose arms is t
unfoldable mutual
  pub owns_in : Act → (k t j : ℕ) → Bool
  owns_in (act own within) k t j =
      elim (eqb k t) [
        | true ↦ eqb k j && acts (kind own)
        | false ↦ elim (is_pick own && is_part within (k + 1) t) [ true ↦ eqb k j | false ↦ owns_among within (k + 1) t j ]
      ]

  pub owns_among : Acts → (c t j : ℕ) → Bool
  owns_among none c t j = false
  owns_among (more a l) c t j = elim (ltb t (c + size a)) [ true ↦ owns_in a c t j | false ↦ owns_among l (c + size a) t j ]

unfoldable pub owns_at : Plan → (t j : ℕ) → Bool
owns_at p t j =
    elim (ltb t (size p.body)) [ true ↦ owns_in p.body 0 t j | false ↦ owns_in p.fault (size p.body) t j ]

-- whether an activity began with these events
abbrev pub has_began : (activity : ℕ) → List Event → Bool
has_began k l = some (is_began_of (eqb k)) l

-- A time that a step goes through its order: the activity that acts, or in whose place a raise stands, the order before and after, and what was logged.
pub record Taken : Type 0 where
  pub activity : ℕ
  pub before : Order
  pub after : Order
  pub log : List Event

-- the mark of an activity before the step: where no order was live, idle
abbrev pub mark_before : (activity : ℕ) → Taken → ℕ
mark_before k x = cond (is_live x.before) (mark_at k x.before) idle

-- No beginning is only claimed: an activity that a step logs as begun, and that lasts, is marked afterwards; or, with an order that starts, as it starts: a start
-- receive begins and has its step at once.
unfoldable pub is_marked : Plan → Taken → (activity : ℕ) → Bool
is_marked p x k =
    not (lasts (kind_at p k) && has_began k x.log)
    || (not (eqb (mark_at k x.after) idle) || (not (is_live x.before) && not (eqb (mark_at k (started_order p)) idle)))

-- in its own step a choose goes inside, as a pick does in that of its arm, and a repeat begins its body
unfoldable pub goes_in : (kind after : ℕ) → (body_began : Bool) → Bool
goes_in n y b = (eqb n 7 && b) || ((eqb n 6 || eqb n 10) && eqb y inside)

-- the kinds of a scope: with an undo part, with none, and with fault parts by number
abbrev pub is_scope_kind : (kind : ℕ) → Bool
is_scope_kind n = eqb n 11 || (eqb n 12 || eqb n 14)

-- None is left out: the mark of an activity that did not begin is idle after the step, or it was not idle before and either has not changed, the step not
-- being that activity's; or goes in with its own step; or is that of a repeat, which decides again. (The mark of a scope is what the history says of it.)
unfoldable pub may_be : (kind : ℕ) → (its_step body_began : Bool) → (before after : ℕ) → Bool
may_be n s b x y = eqb y idle || (not (eqb x idle) && (is_scope_kind n || cond s (goes_in n y b) (eqb y x || eqb n 7)))

unfoldable pub has_begun : Plan → Taken → (activity : ℕ) → Bool
has_begun p x k = has_began k x.log || may_be (kind_at p k) (owns_at p x.activity k) (has_began (k + 1) x.log) (mark_before k x) (mark_at k x.after)

-- What an activity begins with: alone, as the parts of a plan and the fault and undo parts of a scope do (of which Orderly and demand 3 speak); together with the
-- one around it, as the body of a scope and what stands in a flow; with that one or after another, in a sequence; in that one's step, in a choose,
-- a repeat or an arm.
pub data Lead : Type 0 where
  alone : Lead
  together : (around : ℕ) → Lead
  in_order : (around : ℕ) → Lead
  in_step : (around : ℕ) → Lead

-- of what stands in activity k, which is no scope
abbrev pub lead_of : Own → (k : ℕ) → Lead
lead_of own k = cond (eqb (kind own) 8) (in_order k) (cond (eqb (kind own) 9) (together k) (in_step k))

-- activity j, in activity k that begins so
unfoldable mutual
  pub lead_in : Act → (k j : ℕ) → Lead → Lead
  lead_in (act own within) k j q =
      elim (eqb k j) [
        | true ↦ q
        | false ↦ elim (is_scope own) [ true ↦ lead_parts within (k + 1) j (together k) | false ↦ lead_among within (k + 1) j (lead_of own k) ]
      ]

  pub lead_among : Acts → (c j : ℕ) → Lead → Lead
  lead_among none c j q = alone
  lead_among (more a l) c j q = elim (ltb j (c + size a)) [ true ↦ lead_in a c j q | false ↦ lead_among l (c + size a) j q ]

  -- the parts of a scope, the body first
  pub lead_parts : Acts → (c j : ℕ) → Lead → Lead
  lead_parts none c j q = alone
  lead_parts (more a l) c j q = elim (ltb j (c + size a)) [ true ↦ lead_in a c j q | false ↦ lead_among l (c + size a) j alone ]

unfoldable pub lead_at : Plan → (activity : ℕ) → Lead
lead_at p j =
    elim (ltb j (size p.body)) [ true ↦ lead_in p.body 0 j alone | false ↦ lead_in p.fault (size p.body) j alone ]

-- activity j may begin with these events of a step t: in a sequence also where t stands in it before j
unfoldable pub may_lead : Lead → (t j : ℕ) → List Event → Bool
may_lead alone t j l = true
may_lead (together k) t j l = has_began k l
may_lead (in_order k) t j l = has_began k l || (ltb k t && ltb t j)
may_lead (in_step k) t j l = eqb k t

-- None begins out of turn: what a step logs as begun begins with what it should.
unfoldable pub is_led : Plan → Taken → (activity : ℕ) → Bool
is_led p x k = not (has_began k x.log) || may_lead (lead_at p k) x.activity k x.log

-- the activities of a plan
unfoldable pub numbers : (n : ℕ) → List ℕ
numbers zero = []
numbers (suc n) = n ∷ numbers n

abbrev pub of_each : (Plan → Taken → (activity : ℕ) → Bool) → Plan → Taken → Bool
of_each f p x = not (is_live x.after) || every (f p x) (numbers (size p.body + size p.fault))

-- the raises of an order that is judged, at most n times
unfoldable pub raises_of : (n : ℕ) → Plan → Moved → List Taken
raises_of zero p m = []
raises_of (suc n) p m =
    elim m.end [
      | None ↦ elim (conflict p m.order) [
        | clear ↦ []
        | clash k ↦ record { activity = k; before = m.order; after = (acted in_place p k m.order).order; log = (acted in_place p k m.order).log }
            ∷ raises_of n p (acted in_place p k m.order)
      ]
      | Well ↦ []
      | Handled ↦ []
      | Failed ↦ []
      | Left ↦ []
    ]

-- what an order that starts logs before its step
abbrev pub start_log : Plan → (slot : ℕ) → State → List Event
start_log p i s = cond (is_live (get_or s.orders i no_order)) [] (started ∷ (begun_order p).log)

-- a step taken in a slot: its own time first, and then the raises
abbrev pub taken_by : Plan → (slot : ℕ) → State → Stepped → List Taken
taken_by p i s r =
    cond (is_taken i r)
    (record {
      activity = r.answer.activity;
      before = get_or s.orders i no_order;
      after = (own_step p i s r).order;
      log = start_log p i s ++ (own_step p i s r).log;
    }
    ∷ raises_of (spare p (own_step p i s r).order) p (own_step p i s r))
    []

-- the steps taken in a slot with these calls
unfoldable pub steps_taken : Plan → List Call → (slot : ℕ) → State → Tally → List Taken
steps_taken p [] i s t = []
steps_taken p (posting m ∷ l) i s t = steps_taken p l i (post m s).state t
steps_taken p (collecting ∷ l) i s t = steps_taken p l i (collect s).state t
steps_taken p (dropping j ∷ l) i s t = steps_taken p l i (drop_at j s).state t
steps_taken p (stepping c ∷ l) i s t = let r = step c s t in taken_by p i s r ++ steps_taken p l i r.state r.tally

-- ALL TIMES. What a step logs is what its times log, one after the other; and where it was taken in this slot, what stands there after it is the order
-- after the last.
unfoldable pub last_of : Order → List Taken → Order
last_of o [] = o
last_of o (x ∷ l) = last_of x.after l

unfoldable pub TimesTold : Type 0
TimesTold =
    (bytes : List ℕ) (p : Plan) (next : ℕ) → read_plan bytes ≡ found p next → (calls : List Call) (slot : ℕ) (t : Tally) (c : ℕ) →
    let s = state_after calls (loaded bytes) t in
    let r = step c s (tally_after calls (loaded bytes) t) in
    (log_of slot r ≡ each (λ x. x.log) (taken_by p slot s r)) × (get_or r.state.orders slot no_order ≡ last_of (get_or s.orders slot no_order) (taken_by p slot s r))

-- What holds of every time of every step taken, over any run of posts, collects and choices from a fresh start, for every accepted plan and every slot, where the order
-- lives on.
abbrev pub OfEachStep : (Plan → Taken → (activity : ℕ) → Bool) → Type 0
OfEachStep f =
    (bytes : List ℕ) (p : Plan) (next : ℕ) → read_plan bytes ≡ found p next → (calls : List Call) (slot : ℕ) (t : Tally) →
    every (of_each f p) (steps_taken p calls slot (loaded bytes) t) ≡ true

unfoldable pub BegunTruly : Type 0
BegunTruly = OfEachStep is_marked

unfoldable pub BegunAll : Type 0
BegunAll = OfEachStep has_begun

unfoldable pub BegunInTurn : Type 0
BegunInTurn = OfEachStep is_led
