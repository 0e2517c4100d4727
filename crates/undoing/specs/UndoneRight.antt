-- Meaning: what it takes for a history to be that of a run, as one statement: demand 3 and all that ties the history to the plan, to the steps taken, to their
-- answers and to what stands in the slot. Assumes nothing: these are definitions.
use Rattle.std.specs.Prelude.{ℕ, ◌≡◌, Bool, true, false, cond, not, ◌&&◌, List, [], ◌∷◌, ◌++◌, reverse, map, eqb}
use Rattle.plan.specs.Found.{found}
use Rattle.plan.specs.Read.{read_plan}
use Rattle.plan.specs.Tree.{Plan, size}
use Rattle.order.specs.declared.Order.{Order}
use Rattle.order.specs.declared.End.{End}
use Rattle.machine.specs.declared.Tally.{Tally}
use Rattle.order.specs.Lists.{every, some, only, each, alike}
use Rattle.order.specs.State.{idle, Name, root, inner, mark_of, is_live, no_order}
use Rattle.order.specs.Event.{Event, started, began, closed, faulted, stopped, ended, raised, left}
use Rattle.order.specs.Scope.{is_open, root_of}
use Rattle.order.specs.Judging.{Verdict, clear, clash, conflict}
use Rattle.machine.specs.Fit.{ready_of}
use Rattle.machine.specs.Calls.{end_number, loaded, Call}
use Rattle.undoing.specs.History.{history}
use Rattle.undoing.specs.Demand3.{scopes_of, closings_of, undone_of, has_turned, is_left, may_turn, none_now, right}
use Rattle.undoing.specs.Ties.{order_after, is_turned, remembered, is_deed, deeds_taken, place_now, heeds_after, ends_in, ends_taken, causes_in, causes_taken, fits, is_step, moves_on, go_in}
use Rattle.undoing.specs.Orderly.{is_choice, is_cause, orderly_after}
use Rattle.undoing.specs.Begun.{Taken, is_marked, has_begun, is_led, of_each, steps_taken}
use Rattle.undoing.specs.Entirely.{of_all, is_once, is_afresh, is_entire, is_local, is_left_alone, is_awaited, chained, is_stopped, all_go_on}
use Rattle.undoing.specs.Standing.{stands}
use Rattle.undoing.specs.Onward.{is_kept, is_passed, is_decided}

-- The statements, by name. Each is a file's or a part's: see Demand3, Orderly, Ties, Begun, Entirely, Onward and Standing.
pub data Named : Type 0 where
  -- demand 3 itself: which undo parts start, in which order, and that none is left out
  demand3 : Named
  -- what begins, closes, raises or is stopped does so where its scope lets it; a fault part after all is undone
  orderly : Named
  -- "A raise in a body faults the nearest scope around it.", and no scope faults otherwise
  faults : Named
  -- the starts, closings, raises and leaves are those of the steps taken
  steps : Named
  -- the ends answered are those of the history
  ends : Named
  -- the numbers answered with these are those of the faults that the root handled, or that went out of it
  causes : Named
  -- what a step logs as begun, and lasts, is marked after it
  begun_truly : Named
  -- what is marked after a step and did not begin was marked before it
  begun_all : Named
  -- what begins begins with, or after, what it should
  begun_in_turn : Named
  -- what lasts begins once in a step
  once : Named
  -- what begins was idle before the step, but for an undo part that begins again
  afresh : Named
  -- what begins begins with all that belongs to it
  entirely : Named
  -- nothing begins in a scope in which the step does not stand, unless it begins or is stopped
  left_to_finish : Named
  -- in a scope that had turned, and in which the step does not stand, every mark is as it was
  left_alone : Named
  -- what runs and has not the step in it runs on
  kept_running : Named
  -- a sequence that has the step in it runs on, or has begun all that follows in it
  passed_on : Named
  -- a choose begins the part that its expression picks, and a repeat whose expression is true its body
  decided : Named
  -- a step is that of an activity or an arm that awaits it
  its_step : Named
  -- nothing changes in a slot but by its steps
  own_steps : Named
  -- a slot is live where its history has an order that is not over
  live : Named
  -- the mark of a scope is what the history says of it
  marks : Named
  -- a scope that faulted keeps the choice of its fault part for the number that it faulted with, and the root that number
  choices : Named
  -- closings since a scope began are those undone, then those remembered
  lists : Named
  -- what awaits its step stands in a scope that lets it
  places : Named
  -- a scope that waits, undoes or handles has what it waits for, undoes or handles
  going_on : Named
  -- a live order awaits a step
  never_stuck : Named
  -- no two receives or arms that are open are for one thing
  none_twice : Named
  -- no scope is open inside one that has turned
  stopped_within : Named
  -- whatever is marked has a step to come in it
  to_come : Named
  -- the marks stand as the shape of the plan asks
  standing : Named

abbrev pub same_bool : Bool → Bool → Bool
same_bool a b = cond a b (not b)

-- an event as four numbers, so that histories can be compared
abbrev pub name_code : Name → List ℕ
name_code root = 0 ∷ 0 ∷ []
name_code (inner k) = 1 ∷ k ∷ []

unfoldable pub event_code : Event → List ℕ
event_code started = 0 ∷ 0 ∷ 0 ∷ 0 ∷ []
event_code (began k) = 1 ∷ 0 ∷ 0 ∷ k ∷ []
event_code (closed k) = 2 ∷ 0 ∷ 0 ∷ k ∷ []
event_code (faulted n x) = 3 ∷ x ∷ name_code n
event_code (stopped k) = 4 ∷ 0 ∷ 0 ∷ k ∷ []
event_code (ended n) = 5 ∷ 0 ∷ name_code n
event_code (raised k x) = 6 ∷ x ∷ 0 ∷ k ∷ []
event_code left = 7 ∷ 0 ∷ 0 ∷ 0 ∷ []

abbrev pub same_events : List Event → List Event → Bool
same_events l m = alike (each event_code l) (each event_code m)

abbrev pub same_ends : List End → List End → Bool
same_ends l m = alike (map end_number l) (map end_number m)

-- the scopes of a plan, the root first
unfoldable pub names_of : Plan → List Name
names_of p = root ∷ map (λ x. inner x.number) (scopes_of p)

-- the mark of a scope says what the history does
unfoldable pub mark_told : Order → (past : List Event) → Name → Bool
mark_told o past n =
    same_bool (not (eqb (mark_of n o) idle)) (is_left n past)
    && (same_bool (is_open (mark_of n o)) (may_turn n past) && same_bool (is_turned (mark_of n o)) (has_turned n past))

-- what is remembered for it is what it has still to undo
unfoldable pub list_told : Plan → Order → (past : List Event) → Name → Bool
list_told p o past n =
    cond (is_left n past) (alike (closings_of p n past) (undone_of p n past ++ remembered n o)) (alike (remembered n o) [])

-- no two are for one thing
abbrev pub is_clear : Verdict → Bool
is_clear clear = true
is_clear (clash k) = false

abbrev pub unless : Bool → Named → List Named
unless true n = []
unless false n = n ∷ []

-- which of the statements a history breaks: of a plan, for what the steps taken are and these ends and numbers of faults answered, for these steps with the order
-- before and after each time that one goes through it, and where this order stands there now
unfoldable pub broken : Plan → (deeds : List Event) → (answered : List End) → (numbers : List ℕ) → List Taken → Order → (happened : List Event) → List Named
broken p ds es xs ts o l =
    let past = reverse l in
    unless (right p l) demand3
    ++ (unless (orderly_after p [] l) orderly
    ++ (unless (heeds_after p [] l) faults
    ++ (unless (same_events (only is_deed l) ds) steps
    ++ (unless (same_ends (ends_in [] l) es) ends
    ++ (unless (alike (causes_in [] l) xs) causes
    ++ (unless (every (of_all is_marked p) ts) begun_truly
    ++ (unless (every (of_each has_begun p) ts) begun_all
    ++ (unless (every (of_each is_led p) ts) begun_in_turn
    ++ (unless (every (of_all is_once p) ts) once
    ++ (unless (every (of_all is_afresh p) ts) afresh
    ++ (unless (every (of_all is_entire p) ts) entirely
    ++ (unless (every (λ x. every (is_local x) (scopes_of p)) ts) left_to_finish
    ++ (unless (every (λ x. every (is_left_alone p x) (scopes_of p)) ts) left_alone
    ++ (unless (every (of_all is_kept p) ts) kept_running
    ++ (unless (every (is_passed p) ts) passed_on
    ++ (unless (every (is_decided p) ts) decided
    ++ (unless (every (is_awaited p) ts) its_step
    ++ (unless (chained no_order ts o) own_steps
    ++ (unless (same_bool (is_live o) (not (none_now past))) live
    ++ cond (is_live o)
    (unless (every (mark_told o past) (names_of p)) marks
    ++ (unless (every (is_choice p o past) (names_of p) && is_cause o past) choices
    ++ (unless (every (list_told p o past) (names_of p)) lists
    ++ (unless (every (λ r. fits (place_now p o r.activity) o) (ready_of p o)) places
    ++ (unless (moves_on (root_of p) o.root o.marks && (go_in p.body 0 o.marks && go_in p.fault (size p.body) o.marks)) going_on
    ++ (unless (some (λ r. is_step r.step) (ready_of p o)) never_stuck
    ++ (unless (is_clear (conflict p o)) none_twice
    ++ (unless (every (is_stopped o) (scopes_of p)) stopped_within
    ++ (unless (all_go_on p o) to_come
    ++ unless (stands p o) standing)))))))))
    [])))))))))))))))))))

-- For every accepted plan, every run of posts, collects and choices from a fresh start, and every slot, the history of the slot breaks none.
unfoldable pub UndoneRight : Type 0
UndoneRight =
    (bytes : List ℕ) (p : Plan) (next : ℕ) → read_plan bytes ≡ found p next → (calls : List Call) (slot : ℕ) (t : Tally) →
    broken p (deeds_taken p calls slot (loaded bytes) t) (ends_taken calls slot (loaded bytes) t) (causes_taken calls slot (loaded bytes) t) (steps_taken p calls slot (loaded bytes) t) (order_after calls slot (loaded bytes) t) (history calls slot (loaded bytes) t)
    ≡ []
