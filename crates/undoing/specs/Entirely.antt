-- Meaning: what a history leaves open that is true step by step and by the marks alone: that a step begins a thing once, afresh, and with all that belongs to
-- it; that nothing changes in a slot but by its steps; that what is stopped is stopped throughout; and that all that runs has a step to come. Assumes nothing:
-- these are definitions.
use Rattle.std.specs.Prelude.{ℕ, ◌+◌, ◌≤◌, ◌≡◌, Bool, true, false, cond, not, ◌&&◌, ◌||◌, List, [], ◌∷◌, ◌++◌, reverse, map, length, get_or, leb, ltb, eqb}
use Rattle.plan.specs.Found.{found, among}
use Rattle.plan.specs.Read.{read_plan}
use Rattle.plan.specs.Tree.{Own, kind, is_scope, Act, act, Acts, none, more, Plan, size}
use Rattle.order.specs.declared.Closing.{Closing}
use Rattle.order.specs.declared.Order.{Order}
use Rattle.machine.specs.declared.Message.{Message}
use Rattle.machine.specs.declared.State.{State}
use Rattle.machine.specs.declared.Tally.{Tally}
use Rattle.order.specs.Lists.{every, some, alike}
use Rattle.order.specs.State.{idle, mark_at, mark_of, is_live, no_order}
use Rattle.order.specs.Event.{Event, started, began, closed, faulted, stopped, ended, raised, left}
use Rattle.order.specs.Scope.{is_open}
use Rattle.order.specs.Acting.{started_order}
use Rattle.order.specs.Taking.{act_at}
use Rattle.machine.specs.Fit.{ready_of}
use Rattle.machine.specs.State.{letters}
use Rattle.machine.specs.Limits.{plan_in}
use Rattle.machine.specs.Calls.{loaded, trimmed, post, partners_of, collect, drop_at, step, Call}
use Rattle.undoing.specs.Demand3.{Inner, scopes_of}
use Rattle.undoing.specs.Ties.{Always, order_after, is_turned, is_taken, is_step, Place, body_of, fault_of, undo_of, place_of}
use Rattle.undoing.specs.Orderly.{is_began_of}
use Rattle.undoing.specs.Begun.{kind_at, lasts, has_began, Taken, mark_before, is_marked, numbers, of_each, steps_taken}

-- What holds of every step taken and of every activity, also of the step that ends the order.
abbrev pub of_all : (Plan → Taken → (activity : ℕ) → Bool) → Plan → Taken → Bool
of_all f p x = every (f p x) (numbers (size p.body + size p.fault))

abbrev pub OfEveryStep : (Plan → Taken → (activity : ℕ) → Bool) → Type 0
OfEveryStep f =
    (bytes : List ℕ) (p : Plan) (next : ℕ) → read_plan bytes ≡ found p next → (calls : List Call) (slot : ℕ) (t : Tally) →
    every (of_all f p) (steps_taken p calls slot (loaded bytes) t) ≡ true

-- TRULY. No beginning is only claimed, also in the step that ends the order: what it logs as begun and lasts would have been left running, so there is none;
-- but what an order that starts begins with, and has its step at once.
unfoldable pub BegunTrulyEver : Type 0
BegunTrulyEver = OfEveryStep is_marked

-- ONCE. What lasts begins at most once in a step: "when that ends, the next".

-- how often an activity begins with these events
unfoldable pub times : (activity : ℕ) → List Event → ℕ
times k [] = 0
times k (e ∷ l) = cond (is_began_of (eqb k) e) 1 0 + times k l

unfoldable pub is_once : Plan → Taken → (activity : ℕ) → Bool
is_once p x k = not (lasts (kind_at p k)) || leb (times k x.log) 1

unfoldable pub BegunOnce : Type 0
BegunOnce = OfEveryStep is_once

-- AFRESH. What begins was idle before the step; or it stands in an undo part, and the step in it: an undo part that is over begins again for the closing before.
-- Or the step raised, and that undo part stands in the body of a scope with no undo part that had turned: what that one ran, a scope further out may have from an
-- earlier time, and begins anew when the raise ends it. Nothing else begins while it runs.
abbrev pub is_undo : Place → Bool
is_undo (body_of n ns m) = false
is_undo (fault_of n ns m) = false
is_undo (undo_of n ns m) = true

-- the step stands in an activity
abbrev pub stands_in : Plan → Taken → (activity : ℕ) → Bool
stands_in p x k = leb k x.activity && ltb x.activity (k + size (act_at p k))

-- a raise or a leave
unfoldable pub is_rash : Event → Bool
is_rash started = false
is_rash (began k) = false
is_rash (closed k) = false
is_rash (faulted n x) = false
is_rash (stopped k) = false
is_rash (ended n) = false
is_rash (raised k x) = true
is_rash left = true

-- it stands in the body of a scope with no undo part that had turned before the step
abbrev pub may_be_handed_on : Plan → Taken → (activity : ℕ) → Bool
may_be_handed_on p x k = some (λ y. (not y.undoes && is_turned (mark_at y.number x.before)) && (ltb y.number k && ltb k y.fault)) (scopes_of p)

unfoldable pub is_afresh : Plan → Taken → (activity : ℕ) → Bool
is_afresh p x k =
    not (has_began k x.log) || (eqb (mark_before k x) idle || (is_undo (place_of p k) && (stands_in p x k || (some is_rash x.log && may_be_handed_on p x k))))

unfoldable pub BegunAfresh : Type 0
BegunAfresh = OfEveryStep is_afresh

-- ENTIRELY. What begins begins with all that belongs to it: the body of a scope, what stands in a flow and the first of a sequence as often as the one
-- around them, no more and no fewer; and a later one of a sequence no oftener than the one before it, but once more where the step stands in that one.

-- what an activity begins with: nothing else; the one around it; or what stands before it in a sequence
pub data Turn : Type 0 where
  apart : Turn
  along : (around : ℕ) → Turn
  behind : (before : ℕ) → Turn

-- activity j, in activity k that begins so
unfoldable mutual
  pub turn_in : Act → (k j : ℕ) → Turn → Turn
  turn_in (act own within) k j q =
      elim (eqb k j) [
        | true ↦ q
        | false ↦ elim (eqb (kind own) 8) [
          | true ↦ turn_behind within (k + 1) j (along k)
          | false ↦ elim (is_scope own) [
            | true ↦ turn_first within (k + 1) j (along k)
            | false ↦ turn_among within (k + 1) j (cond (eqb (kind own) 9) (along k) apart)
          ]
        ]
      ]

  -- each of these begins so
  pub turn_among : Acts → (c j : ℕ) → Turn → Turn
  turn_among none c j q = apart
  turn_among (more a l) c j q = elim (ltb j (c + size a)) [ true ↦ turn_in a c j q | false ↦ turn_among l (c + size a) j q ]

  -- the first of these begins so, and the others alone
  pub turn_first : Acts → (c j : ℕ) → Turn → Turn
  turn_first none c j q = apart
  turn_first (more a l) c j q = elim (ltb j (c + size a)) [ true ↦ turn_in a c j q | false ↦ turn_among l (c + size a) j apart ]

  -- the first of these begins so, and each other behind the one before it
  pub turn_behind : Acts → (c j : ℕ) → Turn → Turn
  turn_behind none c j q = apart
  turn_behind (more a l) c j q = elim (ltb j (c + size a)) [ true ↦ turn_in a c j q | false ↦ turn_behind l (c + size a) j (behind c) ]

unfoldable pub turn_at : Plan → (activity : ℕ) → Turn
turn_at p j =
    elim (ltb j (size p.body)) [ true ↦ turn_in p.body 0 j apart | false ↦ turn_in p.fault (size p.body) j apart ]

-- activity j begins as often as it should with these events of a step t
unfoldable pub suits : Turn → (t j : ℕ) → List Event → Bool
suits apart t j l = true
suits (along k) t j l = eqb (times j l) (times k l)
suits (behind i) t j l = leb (times j l) (times i l + cond (leb i t && ltb t j) 1 0)

unfoldable pub is_entire : Plan → Taken → (activity : ℕ) → Bool
is_entire p x k = suits (turn_at p k) x.activity k x.log

unfoldable pub BegunEntirely : Type 0
BegunEntirely = OfEveryStep is_entire

-- ITS OWN STEPS. Nothing changes in a slot but by a step that is answered for it: each step finds the order as the last one left it, the first one finds none,
-- and what stands there now is as the last one left it.
abbrev pub same_closings : List Closing → List Closing → Bool
same_closings l m = alike (map (λ c. c.scope) l) (map (λ c. c.scope) m) && alike (map (λ c. c.part) l) (map (λ c. c.part) m)

unfoldable pub same_order : Order → Order → Bool
same_order o q =
    (eqb o.root q.root && (eqb o.kept q.kept && eqb o.cause q.cause))
    && (alike o.marks q.marks && (alike o.values q.values && (alike o.bound q.bound && same_closings o.remembered q.remembered)))

unfoldable pub chained : Order → List Taken → (now : Order) → Bool
chained o [] q = same_order o q
chained o (x ∷ l) q = same_order o x.before && chained x.after l q

unfoldable pub Chained : Type 0
Chained =
    (bytes : List ℕ) (p : Plan) (next : ℕ) → read_plan bytes ≡ found p next → (calls : List Call) (slot : ℕ) (t : Tally) →
    chained no_order (steps_taken p calls slot (loaded bytes) t) (order_after calls slot (loaded bytes) t) ≡ true

-- And of every state, reachable or not: a step leaves every slot but that of its answer as it was, and all of them where it is refused; a post and a collect
-- leave all orders as they were.
unfoldable pub OthersKept : Type 0
OthersKept =
    ((choice : ℕ) (s : State) (t : Tally) (slot : ℕ) → is_taken slot (step choice s t) ≡ false
    → get_or (step choice s t).state.orders slot no_order ≡ get_or s.orders slot no_order)
    × ((m : Message) (s : State) → (post m s).state.orders ≡ s.orders)
    × ((s : State) → (collect s).state.orders ≡ s.orders)
    × ((place : ℕ) (s : State) → (drop_at place s).state.orders ≡ s.orders)

-- What is posted waits behind all that waited, with nothing beyond its count; and what is refused changes nothing. For every state with its 64 places.
unfoldable pub PostAppends : Type 0
PostAppends =
    ((m : Message) (s : State) → length s.messages ≡ 64 → (post m s).refusal ≡ 0 → letters (post m s).state ≡ letters s ++ (trimmed m ∷ []))
    × ((m : Message) (s : State) → eqb (post m s).refusal 0 ≡ false → (post m s).state ≡ s)

-- "Collect hands out the oldest such message": of those that wait the first for a partner that the plan never receives on; "a taken or collected one closes the gap".
pub record Oldest (partners : List ℕ) (waiting : List Message) (m : Message) (after : List Message) : Type 0 where
  pub older : List Message
  pub newer : List Message
  pub waited : waiting ≡ older ++ (m ∷ newer)
  pub passed : every (λ x. among x.partner partners) older ≡ true
  pub strange : among m.partner partners ≡ false
  pub stays : after ≡ older ++ newer

unfoldable pub CollectOldest : Type 0
CollectOldest =
    (s : State) (p : Plan) (next : ℕ) → plan_in s ≡ found p next → length s.messages ≡ 64 → s.waiting ≤ 64 → (collect s).refusal ≡ 0 →
    Oldest (partners_of p) (letters s) (collect s).message (letters (collect s).state)

-- STOPPED. "an inner scope begun and not yet closed turns to undoing without a fault part. This holds at every depth": no scope is open directly inside one
-- that has turned.
unfoldable pub is_stopped : Order → Inner → Bool
is_stopped o x = not (is_turned (mark_of x.around o) && is_open (mark_at x.number o))

unfoldable pub StoppedTold : Type 0
StoppedTold = Always (λ p o past. is_live o ≡ true → every (is_stopped o) (scopes_of p) ≡ true)

-- STEPS TO COME. In a live order whatever is marked has something in it that awaits its step. With GoingOn, by which a scope that undoes has one undo part that
-- runs, one that handles the fault part that it chose, and one that waits an inner scope, each of these has a step to come in the part that it runs.
unfoldable pub has_next : Plan → Order → (activity : ℕ) → Bool
has_next p o k = eqb (mark_at k o) idle || some (λ r. is_step r.step && (leb k r.activity && ltb r.activity (k + size (act_at p k)))) (ready_of p o)

abbrev pub all_go_on : Plan → Order → Bool
all_go_on p o = every (has_next p o) (numbers (size p.body + size p.fault))

unfoldable pub AllGoOn : Type 0
AllGoOn = Always (λ p o past. is_live o ≡ true → all_go_on p o ≡ true)

-- ITS STEP. A step taken is that of an activity or an arm that awaits it, in the order that stood in the slot or in the one that starts.
unfoldable pub is_awaited : Plan → Taken → Bool
is_awaited p x = some (λ r. eqb r.activity x.activity) (ready_of p (cond (is_live x.before) x.before (started_order p)))

unfoldable pub AwaitedTold : Type 0
AwaitedTold =
    (bytes : List ℕ) (p : Plan) (next : ℕ) → read_plan bytes ≡ found p next → (calls : List Call) (slot : ℕ) (t : Tally) →
    every (is_awaited p) (steps_taken p calls slot (loaded bytes) t) ≡ true

-- LEFT TO FINISH. "an inner scope already faulted, undoing or handling is left to finish": in the body and in the fault parts of a scope in which the step does not
-- stand nothing begins, unless that scope itself begins or is stopped with it. Of a scope with no undo part this is said of its body as a whole and of its fault part:
-- an undo part within its body may have been handed on, and then a scope further out begins it. (Whatever else stands within a body begins with it, or with a step in
-- it: BegunInTurn.)
unfoldable pub is_stop_of : (scope : ℕ) → Event → Bool
is_stop_of k started = false
is_stop_of k (began j) = false
is_stop_of k (closed j) = false
is_stop_of k (faulted n x) = false
is_stop_of k (stopped j) = eqb k j
is_stop_of k (ended n) = false
is_stop_of k (raised j x) = false
is_stop_of k left = false

-- the numbers of which this is said, and the first beyond those of a scope
abbrev pub in_parts : Inner → (activity : ℕ) → Bool
in_parts y j = (ltb y.number j && ltb j y.undo) && (y.undoes || (eqb j (y.number + 1) || leb y.fault j))

abbrev pub beyond_all : Inner → ℕ
beyond_all y = y.undo + cond y.undoes y.count 0

unfoldable pub is_local : Taken → Inner → Bool
is_local x y =
    (leb y.number x.activity && ltb x.activity (beyond_all y))
    || ((has_began y.number x.log || some (is_stop_of y.number) x.log) || not (some (is_began_of (in_parts y)) x.log))

unfoldable pub LeftToFinish : Type 0
LeftToFinish =
    (bytes : List ℕ) (p : Plan) (next : ℕ) → read_plan bytes ≡ found p next → (calls : List Call) (slot : ℕ) (t : Tally) →
    every (λ x. every (is_local x) (scopes_of p)) (steps_taken p calls slot (loaded bytes) t) ≡ true

-- LEFT ALONE. "an inner scope already faulted, undoing or handling is left to finish": where it was so, and the step does not stand in it, each mark in it is
-- as it was, while the order runs on. (LEFT TO FINISH says that nothing begins there; this, that nothing is dropped.)
abbrev pub is_in : Inner → (activity : ℕ) → Bool
is_in y k = leb y.number k && ltb k (beyond_all y)

unfoldable pub is_left_alone : Plan → Taken → Inner → Bool
is_left_alone p x y =
    (not (is_turned (mark_before y.number x)) || is_in y x.activity)
    || of_each (λ p x k. not (is_in y k) || eqb (mark_at k x.after) (mark_at k x.before)) p x

unfoldable pub LeftAlone : Type 0
LeftAlone =
    (bytes : List ℕ) (p : Plan) (next : ℕ) → read_plan bytes ≡ found p next → (calls : List Call) (slot : ℕ) (t : Tally) →
    every (λ x. every (is_left_alone p x) (scopes_of p)) (steps_taken p calls slot (loaded bytes) t) ≡ true
