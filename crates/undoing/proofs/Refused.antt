-- Engines that do wrong, each judged by its own answers and its own steps, and which of the statements each breaks first: computed. Assumes nothing.
use Prim.Native.Nat.{ℕ}
use mathlib.Core.Path.{◌≡◌, refl}
use mathlib.Core.Bool.{cond, not, ◌&&◌}
use mathlib.Core.List.{List, [], ◌∷◌, ◌++◌, map}
use lib.Dec.{eqb}
use Rattle.plan.specs.Read.{read_plan}
use Rattle.plan.specs.Tree.{Plan}
use Rattle.order.specs.declared.Order.{Order}
use Rattle.order.specs.declared.End.{End}
use Rattle.order.specs.declared.End.TheVariants.{None, Well, Handled, Failed, Left}
use Rattle.order.specs.State.{root, inner, idle, active, inside, done, faulty, undoing, handling, closing_of, mark_with, marked, is_live, no_order, with_root, with_marks, remembering, causing}
use Rattle.order.specs.Scope.{general_for}
use Rattle.order.specs.Event.{Event, started, began, closed, faulted, stopped, ended, raised, left}
use Rattle.order.specs.Acting.{started_order}
use Rattle.machine.specs.State.{no_tally}
use Rattle.machine.specs.Limits.{by}
use Rattle.machine.specs.Calls.{loaded, Call, posting, stepping}
use Rattle.machine.specs.Computing.{computing}
use Rattle.undoing.specs.Computing.{judging}
use Rattle.undoing.specs.Weighing.{weighing}
use Rattle.undoing.specs.History.{history}
use Rattle.undoing.specs.Ties.{order_after, deed_at, deeds_taken, end_list, ends_taken, cause_answered, causes_taken}
use Rattle.undoing.specs.Begun.{has_began, mark_before, Taken, steps_taken}
use Rattle.undoing.specs.UndoneRight.{Named, demand3, orderly, faults, steps, ends, causes, begun_truly, begun_all, begun_in_turn, once, afresh, entirely, left_to_finish, left_alone, kept_running, passed_on, decided, its_step, own_steps, marks, choices, lists, places, going_on, never_stuck, stopped_within, to_come, standing, broken}

-- What an engine does: a step of an activity, with what the order becomes, what it logs and what it answers, its end and the number of its fault; or something that happens to the slot while another
-- slot has its step, or with a post.
data Deed : Type 0 where
  does : (activity : ℕ) → (Order → Order) → List Event → End → (fault : ℕ) → Deed
  silently : (Order → Order) → Deed

-- An engine that is right up to some calls, and then does these deeds, in slot 0 of a fresh state of a plan.
record Engine : Type 0 where
  bytes : List ℕ
  calls : List Call
  deeds : List Deed

-- what is broken first
first-of : List Named → List Named → List Named
first-of [] l = l
first-of (n ∷ m) l = n ∷ m

-- by what the deeds are in the history, the ends and the numbers answered, the steps taken, the order that stands now, and what happened
judge : Plan → List Event → List End → List ℕ → List Taken → Order → List Event → List Deed → List Named
judge p ds es xs ts o h [] = []
judge p ds es xs ts o h (does k f l e x ∷ ws) =
    let q = f o in
    let ds' = ds ++ (cond (is_live o) [] (started ∷ []) ++ deed_at p k (cond (is_live o) o (started_order p))) in
    let es' = es ++ end_list e in
    let xs' = xs ++ cause_answered x e in
    let ts' = ts ++ (record { activity = k; before = o; after = q; log = l } ∷ []) in
    let h' = h ++ l in
    first-of (broken p ds' es' xs' ts' q h') (judge p ds' es' xs' ts' q h' ws)
judge p ds es xs ts o h (silently f ∷ ws) = first-of (broken p ds es xs ts (f o) h) (judge p ds es xs ts (f o) h ws)

verdict : Engine → List Named
verdict x =
    let s = loaded x.bytes in
    by [] (λ p. judge p (deeds_taken p x.calls 0 s no_tally) (ends_taken x.calls 0 s no_tally) (causes_taken x.calls 0 s no_tally) (steps_taken p x.calls 0 s no_tally) (order_after x.calls 0 s no_tally) (history x.calls 0 s no_tally) x.deeds) (read_plan x.bytes)

-- the message that starts each order, and the first choice
abbrev first : Call
first = posting (record { partner = 0; operation = 0; count = 1; values = 5 ∷ 0 ∷ 0 ∷ 0 ∷ []; reply = 0 })

abbrev next : Call
next = stepping 0

-- the mark of a scope that faulted with this number and has no part for it
abbrev faulted_by : (number state : ℕ) → ℕ
faulted_by x m = mark_with (general_for x) m

-- the order is over; it has this root and the mark of this activity, and no other
abbrev gone : Order → Order
gone o = no_order

abbrev only1 : ℕ → ℕ → (Order → Order)
only1 r k o = with_root r (marked k active (with_marks no_order.marks o))

-- Document 01's plan C: a receive 1; two scopes 2 and 6, empty but for their undo parts 5 and 9, which send; a raise 10; the root's fault part 11.
unfoldable plan_c : List ℕ
plan_c = 1 ∷ 1 ∷ 0 ∷ 8 ∷ 4 ∷ 2 ∷ 0 ∷ 0 ∷ 1 ∷ 0 ∷ 11 ∷ 0 ∷ 0 ∷ 1 ∷ 2 ∷ 1 ∷ 1 ∷ 0 ∷ 11 ∷ 0 ∷ 0 ∷ 1 ∷ 2 ∷ 2 ∷ 1 ∷ 0 ∷ 4 ∷ 0 ∷ []

-- A receive 1; a set 2; a repeat 3 of a sequence 4 with a scope 5 (undo part 8, a send) and a set 9, three times; a raise 10; the root's fault part
-- 11.
unfoldable three : List ℕ
three = 1 ∷ 2 ∷ 0 ∷ 8 ∷ 4 ∷ 2 ∷ 0 ∷ 0 ∷ 1 ∷ 0 ∷ 3 ∷ 1 ∷ 0 ∷ 0 ∷ 7 ∷ 5 ∷ 1 ∷ 1 ∷ 0 ∷ 3 ∷ 8 ∷ 2 ∷ 11 ∷ 0 ∷ 0 ∷ 1 ∷ 2 ∷ 1 ∷ 1 ∷ 1 ∷ 3 ∷ 1 ∷ 2 ∷ 1 ∷ 1 ∷ 0 ∷ 1 ∷ 4 ∷ 0 ∷ []

-- A receive 1; a flow 2 of a scope 3 (its body, a raise 4; its fault part, a send 5) and a sequence 7 of a scope 8 (undo part 11, a send) and a raise
-- 12; the root's fault part 13.
unfoldable inner_handler : List ℕ
inner_handler = 1 ∷ 1 ∷ 0 ∷ 8 ∷ 2 ∷ 2 ∷ 0 ∷ 0 ∷ 1 ∷ 0 ∷ 9 ∷ 2 ∷ 11 ∷ 4 ∷ 1 ∷ 2 ∷ 3 ∷ 1 ∷ 0 ∷ 0 ∷ 8 ∷ 2 ∷ 11 ∷ 0 ∷ 0 ∷ 1 ∷ 2 ∷ 1 ∷ 1 ∷ 0 ∷ 4 ∷ 0 ∷ []

-- A receive 1; a scope 2 whose body is a raise 3, with an empty fault part 4 and an undo part 5, a send; a raise 6; the root's fault part 7.
unfoldable handled_scope : List ℕ
handled_scope = 1 ∷ 1 ∷ 0 ∷ 8 ∷ 3 ∷ 2 ∷ 0 ∷ 0 ∷ 1 ∷ 0 ∷ 11 ∷ 4 ∷ 0 ∷ 1 ∷ 2 ∷ 1 ∷ 1 ∷ 0 ∷ 4 ∷ 0 ∷ []

-- A receive 1; a set 2; a repeat 3 of a scope 4, whose body is a choose 5 of a sequence 6, with an inner scope 7 (undo part 10, a send) and a set 11,
-- and a raise 12; its fault part is a set 13; the root's fault part 15. The first time the inner scope closes and then the outer one; the second time
-- the outer scope faults before the inner one begins.
unfoldable closed_outer : List ℕ
closed_outer = 1 ∷ 2 ∷ 0 ∷ 8 ∷ 3 ∷ 2 ∷ 0 ∷ 0 ∷ 1 ∷ 0 ∷ 3 ∷ 1 ∷ 0 ∷ 0 ∷ 7 ∷ 5 ∷ 1 ∷ 1 ∷ 0 ∷ 2 ∷ 11 ∷ 6 ∷ 4 ∷ 1 ∷ 1 ∷ 0 ∷ 0 ∷ 8 ∷ 2 ∷ 11 ∷ 0 ∷ 0 ∷ 1 ∷ 2 ∷ 1 ∷ 1 ∷ 0 ∷ 3 ∷ 1 ∷ 0 ∷ 1 ∷ 4 ∷ 3 ∷ 1 ∷ 0 ∷ 2 ∷ 0 ∷ 0 ∷ []

-- A receive 1; a choose 2 of a scope 3 (undo part 6, a send) and an empty activity 7, which it takes; a scope 8 (undo part 11, empty); a raise 12;
-- the root's fault part 13, a send.
unfoldable never_entered : List ℕ
never_entered = 1 ∷ 1 ∷ 0 ∷ 8 ∷ 4 ∷ 2 ∷ 0 ∷ 0 ∷ 1 ∷ 0 ∷ 6 ∷ 4 ∷ 1 ∷ 0 ∷ 0 ∷ 0 ∷ 11 ∷ 0 ∷ 0 ∷ 1 ∷ 2 ∷ 1 ∷ 1 ∷ 0 ∷ 0 ∷ 11 ∷ 0 ∷ 0 ∷ 0 ∷ 4 ∷ 1 ∷ 2 ∷ 2 ∷ 1 ∷ 0 ∷ []

-- A receive 1; a scope 2 (undo part 5, a sequence of two sends, 6 and 7); a raise 8; the root's fault part 9, a send.
unfoldable in_sequence : List ℕ
in_sequence = 1 ∷ 1 ∷ 0 ∷ 8 ∷ 3 ∷ 2 ∷ 0 ∷ 0 ∷ 1 ∷ 0 ∷ 11 ∷ 0 ∷ 0 ∷ 8 ∷ 2 ∷ 1 ∷ 2 ∷ 1 ∷ 1 ∷ 0 ∷ 1 ∷ 2 ∷ 1 ∷ 1 ∷ 0 ∷ 4 ∷ 1 ∷ 2 ∷ 2 ∷ 1 ∷ 0 ∷ []

-- The same with a flow of two sends for the undo part.
unfoldable in_flow : List ℕ
in_flow = 1 ∷ 1 ∷ 0 ∷ 8 ∷ 3 ∷ 2 ∷ 0 ∷ 0 ∷ 1 ∷ 0 ∷ 11 ∷ 0 ∷ 0 ∷ 9 ∷ 2 ∷ 1 ∷ 2 ∷ 1 ∷ 1 ∷ 0 ∷ 1 ∷ 2 ∷ 1 ∷ 1 ∷ 0 ∷ 4 ∷ 1 ∷ 2 ∷ 2 ∷ 1 ∷ 0 ∷ []

-- A receive 1; a flow 2 of a scope 3 (its body a sequence 4 of a set 5, a repeat 6 that twice closes a scope 8, undo part 11, a receive, and a raise
-- 13; fault part 14) and a sequence 16 of sets 17, 18 and 19.
unfoldable beside : List ℕ
beside = 1 ∷ 3 ∷ 0 ∷ 8 ∷ 2 ∷ 2 ∷ 0 ∷ 0 ∷ 1 ∷ 0 ∷ 9 ∷ 2 ∷ 11 ∷ 8 ∷ 3 ∷ 3 ∷ 1 ∷ 0 ∷ 0 ∷ 7 ∷ 5 ∷ 1 ∷ 1 ∷ 0 ∷ 2 ∷ 8 ∷ 2 ∷ 11 ∷ 0 ∷ 0 ∷ 2 ∷ 1 ∷ 1 ∷ 1 ∷ 0 ∷ 3 ∷ 1 ∷ 2 ∷ 1 ∷ 1 ∷ 0 ∷ 1 ∷ 4 ∷ 0 ∷ 0 ∷ 8 ∷ 3 ∷ 3 ∷ 2 ∷ 0 ∷ 1 ∷ 3 ∷ 2 ∷ 0 ∷ 2 ∷ 3 ∷ 2 ∷ 0 ∷ 3 ∷ 0 ∷ []

-- The same with a sequence of two sends, 12 and 13, for that undo part 11; the raise is 15, and beside the scope stands a repeat 18 of a receive 19
-- that never comes.
unfoldable hung : List ℕ
hung = 1 ∷ 3 ∷ 0 ∷ 8 ∷ 2 ∷ 2 ∷ 0 ∷ 0 ∷ 1 ∷ 0 ∷ 9 ∷ 2 ∷ 11 ∷ 8 ∷ 3 ∷ 3 ∷ 1 ∷ 0 ∷ 0 ∷ 7 ∷ 5 ∷ 1 ∷ 1 ∷ 0 ∷ 2 ∷ 8 ∷ 2 ∷ 11 ∷ 0 ∷ 0 ∷ 8 ∷ 2 ∷ 1 ∷ 1 ∷ 1 ∷ 1 ∷ 0 ∷ 1 ∷ 1 ∷ 2 ∷ 1 ∷ 0 ∷ 3 ∷ 1 ∷ 2 ∷ 1 ∷ 1 ∷ 0 ∷ 1 ∷ 4 ∷ 0 ∷ 0 ∷ 7 ∷ 0 ∷ 1 ∷ 2 ∷ 3 ∷ 3 ∷ 1 ∷ 2 ∷ 0 ∷ []

-- A receive 1; a flow 2 of a scope 3 (sets 5 and 6 in a sequence 4) and a raise 9; the root's fault part 10.
unfoldable unstopped : List ℕ
unstopped = 1 ∷ 1 ∷ 0 ∷ 8 ∷ 2 ∷ 2 ∷ 0 ∷ 0 ∷ 1 ∷ 0 ∷ 9 ∷ 2 ∷ 11 ∷ 8 ∷ 2 ∷ 3 ∷ 0 ∷ 0 ∷ 1 ∷ 3 ∷ 0 ∷ 0 ∷ 2 ∷ 0 ∷ 0 ∷ 4 ∷ 0 ∷ []

-- A receive 1; a set 2; a scope 3 (its body, a send 4; undo part 6, a send); a raise 7; the root's fault part 8.
unfoldable unbegun : List ℕ
unbegun = 1 ∷ 1 ∷ 0 ∷ 8 ∷ 4 ∷ 2 ∷ 0 ∷ 0 ∷ 1 ∷ 0 ∷ 3 ∷ 0 ∷ 0 ∷ 1 ∷ 11 ∷ 1 ∷ 1 ∷ 1 ∷ 1 ∷ 0 ∷ 0 ∷ 1 ∷ 1 ∷ 2 ∷ 1 ∷ 0 ∷ 4 ∷ 0 ∷ []

-- A receive 1; a scope 2 (undo part 5, a send); a flow 6 of a scope 7 (its body, a receive 8 that never comes) and a raise 11; the root's fault part
-- 12.
unfoldable waiting : List ℕ
waiting = 1 ∷ 1 ∷ 0 ∷ 8 ∷ 3 ∷ 2 ∷ 0 ∷ 0 ∷ 1 ∷ 0 ∷ 11 ∷ 0 ∷ 0 ∷ 1 ∷ 1 ∷ 1 ∷ 1 ∷ 0 ∷ 9 ∷ 2 ∷ 11 ∷ 2 ∷ 3 ∷ 3 ∷ 1 ∷ 0 ∷ 0 ∷ 0 ∷ 4 ∷ 0 ∷ []

-- A receive 1; a flow 2 of a scope 3, whose body is a sequence 4 of a scope 5 (undo part 8, a sequence of a send 9) and a receive 10, and a sequence
-- 13 of a set 14 and a raise 15; the root's fault part 16, a send.
unfoldable nested : List ℕ
nested = 1 ∷ 1 ∷ 0 ∷ 8 ∷ 2 ∷ 2 ∷ 0 ∷ 0 ∷ 1 ∷ 0 ∷ 9 ∷ 2 ∷ 11 ∷ 8 ∷ 2 ∷ 11 ∷ 0 ∷ 0 ∷ 8 ∷ 1 ∷ 1 ∷ 1 ∷ 1 ∷ 1 ∷ 0 ∷ 2 ∷ 3 ∷ 3 ∷ 1 ∷ 0 ∷ 0 ∷ 0 ∷ 8 ∷ 2 ∷ 3 ∷ 0 ∷ 0 ∷ 1 ∷ 4 ∷ 1 ∷ 2 ∷ 2 ∷ 1 ∷ 0 ∷ []

-- A receive 1; scopes 2 and 6, whose undo parts 5 and 9 raise; a raise 10; the root's fault part 11.
unfoldable raising_undo : List ℕ
raising_undo = 1 ∷ 1 ∷ 0 ∷ 8 ∷ 4 ∷ 2 ∷ 0 ∷ 0 ∷ 1 ∷ 0 ∷ 11 ∷ 0 ∷ 0 ∷ 4 ∷ 11 ∷ 0 ∷ 0 ∷ 4 ∷ 4 ∷ 0 ∷ []

-- A receive 1; a scope 2 (undo part 5, a send); a raise 6; the root's fault part 7, a send.
unfoldable one_send : List ℕ
one_send = 1 ∷ 1 ∷ 0 ∷ 8 ∷ 3 ∷ 2 ∷ 0 ∷ 0 ∷ 1 ∷ 0 ∷ 11 ∷ 0 ∷ 0 ∷ 1 ∷ 2 ∷ 1 ∷ 1 ∷ 0 ∷ 4 ∷ 1 ∷ 2 ∷ 2 ∷ 1 ∷ 0 ∷ []

-- A receive 0 alone; the root's fault part 1, empty.
unfoldable lone : List ℕ
lone = 1 ∷ 1 ∷ 0 ∷ 2 ∷ 0 ∷ 0 ∷ 1 ∷ 0 ∷ 0 ∷ []

-- A receive 1; a set 2; a repeat 3 of a sequence 4 with a scope 5 (undo part 8, a sequence of two sends, 9 and 10) and a set 11, twice; a raise 12;
-- the root's fault part 13, empty.
unfoldable twice : List ℕ
twice = 1 ∷ 2 ∷ 0 ∷ 8 ∷ 4 ∷ 2 ∷ 0 ∷ 0 ∷ 1 ∷ 0 ∷ 3 ∷ 1 ∷ 0 ∷ 0 ∷ 7 ∷ 5 ∷ 1 ∷ 1 ∷ 0 ∷ 2 ∷ 8 ∷ 2 ∷ 11 ∷ 0 ∷ 0 ∷ 8 ∷ 2 ∷ 1 ∷ 2 ∷ 1 ∷ 1 ∷ 1 ∷ 1 ∷ 2 ∷ 2 ∷ 1 ∷ 1 ∷ 3 ∷ 1 ∷ 2 ∷ 1 ∷ 1 ∷ 0 ∷ 1 ∷ 4 ∷ 0 ∷ []

-- A flow 0 of two receives, 1 (which the message starts) and 2; the root's fault part 3, empty.
unfoldable start_flow : List ℕ
start_flow = 1 ∷ 1 ∷ 0 ∷ 9 ∷ 2 ∷ 2 ∷ 0 ∷ 0 ∷ 1 ∷ 0 ∷ 2 ∷ 1 ∷ 0 ∷ 1 ∷ 0 ∷ 0 ∷ []

-- Scopes with no undo part of their own, code 12.

-- A receive 1; a scope 2 of code 12, whose body is a sequence 3 of scopes 4 (undo part 7, a send) and 8 (undo part 11, a send); its fault part 12,
-- empty; a raise 13; the root's fault part 14, empty.
unfoldable handed_on : List ℕ
handed_on = 1 ∷ 1 ∷ 0 ∷ 8 ∷ 3 ∷ 2 ∷ 0 ∷ 0 ∷ 1 ∷ 0 ∷ 12 ∷ 8 ∷ 2 ∷ 11 ∷ 0 ∷ 0 ∷ 1 ∷ 9 ∷ 1 ∷ 1 ∷ 0 ∷ 11 ∷ 0 ∷ 0 ∷ 1 ∷ 9 ∷ 2 ∷ 1 ∷ 0 ∷ 0 ∷ 4 ∷ 0 ∷ []

-- A receive 1; a flow 2 of a scope 3 of code 12, whose body is a scope 4 (undo part 7, a send), and a scope 9 (undo part 12, a send); a raise 13; the
-- root's fault part 14. Scope 4 closes, then 9, then 3.
unfoldable dated_outer : List ℕ
dated_outer = 1 ∷ 1 ∷ 0 ∷ 8 ∷ 3 ∷ 2 ∷ 0 ∷ 0 ∷ 1 ∷ 0 ∷ 9 ∷ 2 ∷ 12 ∷ 11 ∷ 0 ∷ 0 ∷ 1 ∷ 2 ∷ 1 ∷ 1 ∷ 0 ∷ 0 ∷ 11 ∷ 0 ∷ 0 ∷ 1 ∷ 2 ∷ 2 ∷ 1 ∷ 0 ∷ 4 ∷ 0 ∷ []

-- A receive 1; a scope 2 of code 12, whose body is a sequence 3 of a scope 4 (undo part 7, a send) and a raise 8; its fault part 9, empty; a raise 10;
-- the root's fault part 11, empty.
unfoldable faulted_open : List ℕ
faulted_open = 1 ∷ 1 ∷ 0 ∷ 8 ∷ 3 ∷ 2 ∷ 0 ∷ 0 ∷ 1 ∷ 0 ∷ 12 ∷ 8 ∷ 2 ∷ 11 ∷ 0 ∷ 0 ∷ 1 ∷ 2 ∷ 1 ∷ 1 ∷ 0 ∷ 4 ∷ 0 ∷ 4 ∷ 0 ∷ []

-- closed_outer with a scope 4 of code 12 and a raise 14 after the repeat: the first time the inner scope 7 closes and is handed on, the second time scope 4
-- faults before the inner one begins; the root's fault part 15.
unfoldable handed_once : List ℕ
handed_once = 1 ∷ 2 ∷ 0 ∷ 8 ∷ 4 ∷ 2 ∷ 0 ∷ 0 ∷ 1 ∷ 0 ∷ 3 ∷ 1 ∷ 0 ∷ 0 ∷ 7 ∷ 5 ∷ 1 ∷ 1 ∷ 0 ∷ 2 ∷ 12 ∷ 6 ∷ 4 ∷ 1 ∷ 1 ∷ 0 ∷ 0 ∷ 8 ∷ 2 ∷ 11 ∷ 0 ∷ 0 ∷ 1 ∷ 2 ∷ 1 ∷ 1 ∷ 0 ∷ 3 ∷ 1 ∷ 0 ∷ 1 ∷ 4 ∷ 3 ∷ 1 ∷ 0 ∷ 2 ∷ 4 ∷ 0 ∷ []

-- A receive 1; a set 2; a repeat 3 of a sequence 4: a scope 5 of code 12, whose body is a sequence 6 of a scope 7 (undo part 10, a flow of a raise 11 and
-- a receive 12) and a choose 13 (a raise 14 the second time); a set 17.
unfoldable anew : List ℕ
anew = 1 ∷ 2 ∷ 0 ∷ 8 ∷ 3 ∷ 2 ∷ 0 ∷ 0 ∷ 1 ∷ 0 ∷ 3 ∷ 1 ∷ 0 ∷ 0 ∷ 7 ∷ 5 ∷ 1 ∷ 1 ∷ 0 ∷ 3 ∷ 8 ∷ 2 ∷ 12 ∷ 8 ∷ 2 ∷ 11 ∷ 0 ∷ 0 ∷ 9 ∷ 2 ∷ 4 ∷ 2 ∷ 1 ∷ 1 ∷ 1 ∷ 0 ∷ 6 ∷ 5 ∷ 0 ∷ 0 ∷ 1 ∷ 1 ∷ 4 ∷ 0 ∷ 0 ∷ 3 ∷ 1 ∷ 2 ∷ 1 ∷ 1 ∷ 0 ∷ 1 ∷ 0 ∷ []

-- A receive 1; a flow 2 of a scope 3 of code 12, whose body is a sequence 4 of a scope 5 (undo part 8, a flow of two sends, 9 and 10) and a raise 11, and a
-- sequence 13 of a send 14 and a raise 15; the root's fault part 16, a send.
unfoldable left_undoing : List ℕ
left_undoing = 1 ∷ 1 ∷ 0 ∷ 8 ∷ 2 ∷ 2 ∷ 0 ∷ 0 ∷ 1 ∷ 0 ∷ 9 ∷ 2 ∷ 12 ∷ 8 ∷ 2 ∷ 11 ∷ 0 ∷ 0 ∷ 9 ∷ 2 ∷ 1 ∷ 2 ∷ 1 ∷ 1 ∷ 0 ∷ 1 ∷ 2 ∷ 2 ∷ 1 ∷ 0 ∷ 4 ∷ 0 ∷ 8 ∷ 2 ∷ 1 ∷ 2 ∷ 4 ∷ 1 ∷ 0 ∷ 4 ∷ 1 ∷ 2 ∷ 3 ∷ 1 ∷ 0 ∷ []

-- Faults with a number.

-- A receive 1; a flow 2 of a scope 3 of code 12, whose body is a raise 4 and its fault part a set 5 to 0 - 1, and a set 6 from a variable that nothing has bound;
-- the root's fault part 7, a send. The scope faults with 0, then the root with 1, by the set 6; the fault of the set 5, number 3, ends the scope and is absorbed.
unfoldable absorbed : List ℕ
absorbed = 1 ∷ 2 ∷ 0 ∷ 8 ∷ 2 ∷ 2 ∷ 0 ∷ 0 ∷ 1 ∷ 0 ∷ 9 ∷ 2 ∷ 12 ∷ 4 ∷ 3 ∷ 1 ∷ 3 ∷ 0 ∷ 0 ∷ 0 ∷ 1 ∷ 3 ∷ 1 ∷ 1 ∷ 1 ∷ 1 ∷ 2 ∷ 2 ∷ 1 ∷ 0 ∷ []

-- A receive 1; a scope 2 of code 12, whose body is a raise 3 and its fault part a set 4 from a variable that nothing has bound; the root's fault part 5, a
-- send.
unfoldable passed_out : List ℕ
passed_out = 1 ∷ 2 ∷ 0 ∷ 8 ∷ 2 ∷ 2 ∷ 0 ∷ 0 ∷ 1 ∷ 0 ∷ 12 ∷ 4 ∷ 3 ∷ 1 ∷ 1 ∷ 1 ∷ 1 ∷ 2 ∷ 2 ∷ 1 ∷ 0 ∷ []

-- Fault parts by number, code 14.

-- A receive 1; a scope 2 whose body is a raise 3 with the number 17, with fault parts for 16 (a send 4) and 17 (a send 5), a general one (a send 6) and an empty
-- undo part; the root's fault part 8, empty.
unfoldable named : List ℕ
named = 1 ∷ 1 ∷ 0 ∷ 8 ∷ 2 ∷ 2 ∷ 0 ∷ 0 ∷ 1 ∷ 0 ∷ 14 ∷ 13 ∷ 17 ∷ 2 ∷ 16 ∷ 1 ∷ 2 ∷ 1 ∷ 1 ∷ 0 ∷ 17 ∷ 1 ∷ 2 ∷ 2 ∷ 1 ∷ 0 ∷ 1 ∷ 2 ∷ 3 ∷ 1 ∷ 0 ∷ 0 ∷ 0 ∷ []

-- The same with a raise 3 with the number 18, for which the scope has no part.
unfoldable unnamed : List ℕ
unnamed = 1 ∷ 1 ∷ 0 ∷ 8 ∷ 2 ∷ 2 ∷ 0 ∷ 0 ∷ 1 ∷ 0 ∷ 14 ∷ 13 ∷ 18 ∷ 2 ∷ 16 ∷ 1 ∷ 2 ∷ 1 ∷ 1 ∷ 0 ∷ 17 ∷ 1 ∷ 2 ∷ 2 ∷ 1 ∷ 0 ∷ 1 ∷ 2 ∷ 3 ∷ 1 ∷ 0 ∷ 0 ∷ 0 ∷ []

-- The same with a sequence 3 for the body: a scope 4 (undo part 7, a send), and a raise 8 with the number 17; the parts are 9, 10 and 11.
unfoldable named_after : List ℕ
named_after = 1 ∷ 1 ∷ 0 ∷ 8 ∷ 2 ∷ 2 ∷ 0 ∷ 0 ∷ 1 ∷ 0 ∷ 14 ∷ 8 ∷ 2 ∷ 11 ∷ 0 ∷ 0 ∷ 1 ∷ 2 ∷ 4 ∷ 1 ∷ 0 ∷ 13 ∷ 17 ∷ 2 ∷ 16 ∷ 1 ∷ 2 ∷ 1 ∷ 1 ∷ 0 ∷ 17 ∷ 1 ∷ 2 ∷ 2 ∷ 1 ∷ 0 ∷ 1 ∷ 2 ∷ 3 ∷ 1 ∷ 0 ∷ 0 ∷ 0 ∷ []

-- A receive 1; a scope 2 whose body is a scope 3: its body a raise 4 with the number 17, for which its fault part is a raise 5 with the number 16, its other parts
-- empty. Scope 2 has fault parts for 16 (a send 8) and 17 (a send 9), a general one (a send 10) and an empty undo part; the root's fault part 12, empty.
unfoldable out_of_part : List ℕ
out_of_part = 1 ∷ 1 ∷ 0 ∷ 8 ∷ 2 ∷ 2 ∷ 0 ∷ 0 ∷ 1 ∷ 0 ∷ 14 ∷ 14 ∷ 13 ∷ 17 ∷ 1 ∷ 17 ∷ 13 ∷ 16 ∷ 0 ∷ 0 ∷ 2 ∷ 16 ∷ 1 ∷ 2 ∷ 1 ∷ 1 ∷ 0 ∷ 17 ∷ 1 ∷ 2 ∷ 2 ∷ 1 ∷ 0 ∷ 1 ∷ 2 ∷ 3 ∷ 1 ∷ 0 ∷ 0 ∷ 0 ∷ []

-- A receive 1; a set 2; a repeat 3, twice, of a sequence 4: a scope 5, whose body is a choose 6 of a raise 7 with the number 16, the first time, and a raise 8 with
-- the number 17, with fault parts for 16 (a send 9) and 17 (a send 10), its other parts empty; a set 13. The root's fault part 14, empty.
unfoldable in_turns : List ℕ
in_turns = 1 ∷ 2 ∷ 0 ∷ 8 ∷ 3 ∷ 2 ∷ 0 ∷ 0 ∷ 1 ∷ 0 ∷ 3 ∷ 1 ∷ 0 ∷ 0 ∷ 7 ∷ 5 ∷ 1 ∷ 1 ∷ 0 ∷ 2 ∷ 8 ∷ 2 ∷ 14 ∷ 6 ∷ 4 ∷ 1 ∷ 1 ∷ 0 ∷ 0 ∷ 13 ∷ 16 ∷ 13 ∷ 17 ∷ 2 ∷ 16 ∷ 1 ∷ 2 ∷ 1 ∷ 1 ∷ 0 ∷ 17 ∷ 1 ∷ 2 ∷ 2 ∷ 1 ∷ 0 ∷ 0 ∷ 0 ∷ 3 ∷ 1 ∷ 2 ∷ 1 ∷ 1 ∷ 0 ∷ 1 ∷ 0 ∷ []

-- Document 01's own and its shortcuts.

-- a raise ends the order at once, without undo
unfoldable ending : Engine
ending = record {
  bytes = plan_c;
  calls = first ∷ next ∷ next ∷ next ∷ [];
  deeds = does 10 gone (raised 10 0 ∷ ended root ∷ []) Failed 0 ∷ [];
}

-- a raise starts the fault part without undo
unfoldable skips_undo : Engine
skips_undo = record {
  bytes = plan_c;
  calls = first ∷ next ∷ next ∷ next ∷ [];
  deeds = does 10 gone (raised 10 0 ∷ began 11 ∷ ended root ∷ []) Handled 0 ∷ [];
}

-- scopes are neither logged nor undone
unfoldable scopeless : Engine
scopeless = record {
  bytes = plan_c;
  calls = first ∷ [];
  deeds = does 1 (λ o. with_root active (marked 0 active (marked 10 active no_order))) (started ∷ began 0 ∷ began 1 ∷ began 3 ∷ began 7 ∷ began 10 ∷ []) None 0 ∷ does 10 gone (raised 10 0 ∷ faulted root 0 ∷ began 11 ∷ ended root ∷ []) Handled 0 ∷ [];
}

-- the order hangs after its fault
unfoldable hanging : Engine
hanging = record {
  bytes = plan_c;
  calls = first ∷ next ∷ next ∷ next ∷ [];
  deeds = does 10 (λ o. with_root (faulted_by 0 faulty) (with_marks no_order.marks o)) (raised 10 0 ∷ faulted root 0 ∷ []) None 0 ∷ [];
}

-- a raise is logged as a leave
unfoldable leaving : Engine
leaving = record {
  bytes = plan_c;
  calls = first ∷ next ∷ next ∷ next ∷ [];
  deeds = does 10 gone (left ∷ []) Left 0 ∷ [];
}

-- a send in an undo part is logged as a raise, and the rest of the list is dropped
unfoldable sending : Engine
sending = record {
  bytes = plan_c;
  calls = first ∷ next ∷ next ∷ next ∷ next ∷ [];
  deeds = does 9 gone (raised 9 0 ∷ ended root ∷ []) Failed 0 ∷ [];
}

-- a fault without a raise, and an undo part that no raise asked for
unfoldable unasked : Engine
unasked = record {
  bytes = plan_c;
  calls = first ∷ next ∷ [];
  deeds = does 2 gone (closed 2 ∷ faulted root 0 ∷ began 5 ∷ began 11 ∷ ended root ∷ []) Handled 0 ∷ [];
}

-- the fault part starts before the undo parts
unfoldable fault_first : Engine
fault_first = record {
  bytes = plan_c;
  calls = first ∷ next ∷ next ∷ next ∷ [];
  deeds = does 10 (λ o. remembering (closing_of 2 0 ∷ []) (only1 (faulted_by 0 undoing) 9 o)) (raised 10 0 ∷ faulted root 0 ∷ began 11 ∷ began 9 ∷ []) None 0 ∷ does 9 (λ o. remembering [] (only1 (faulted_by 0 undoing) 5 o)) (began 5 ∷ []) None 0 ∷ does 5 gone (ended root ∷ []) Handled 0 ∷ [];
}

-- undoing in file order, with the closings logged in the reverse order
unfoldable turned_about : Engine
turned_about = record {
  bytes = plan_c;
  calls = first ∷ next ∷ [];
  deeds = does 2 (λ o. marked 2 idle (marked 6 done o)) (began 6 ∷ began 7 ∷ []) None 0 ∷ does 6 (λ o. remembering (closing_of 6 0 ∷ closing_of 2 0 ∷ []) (marked 6 idle (marked 10 active o))) (closed 6 ∷ closed 2 ∷ began 10 ∷ []) None 0 ∷ does 10 (λ o. remembering (closing_of 6 0 ∷ []) (only1 (faulted_by 0 undoing) 5 o)) (raised 10 0 ∷ faulted root 0 ∷ began 5 ∷ []) None 0 ∷ [];
}

-- an undo part that is over starts a second time, and that is not said
unfoldable unsaid : Engine
unsaid = record {
  bytes = plan_c;
  calls = first ∷ next ∷ next ∷ next ∷ next ∷ [];
  deeds = does 9 (λ o. o) ([]) None 0 ∷ [];
}

-- the newest undo part is started, and the other dropped
unfoldable newest : Engine
newest = record {
  bytes = plan_c;
  calls = first ∷ next ∷ next ∷ next ∷ next ∷ [];
  deeds = does 9 gone (began 11 ∷ ended root ∷ []) Handled 0 ∷ [];
}

-- undoing in file order
unfoldable oldest : Engine
oldest = record {
  bytes = plan_c;
  calls = first ∷ next ∷ next ∷ next ∷ [];
  deeds = does 10 (λ o. remembering (closing_of 6 0 ∷ []) (only1 (faulted_by 0 undoing) 5 o)) (raised 10 0 ∷ faulted root 0 ∷ began 5 ∷ []) None 0 ∷ [];
}

-- one of them starts twice
unfoldable twice_over : Engine
twice_over = record {
  bytes = plan_c;
  calls = first ∷ next ∷ next ∷ next ∷ next ∷ [];
  deeds = does 9 (λ o. o) (began 9 ∷ []) None 0 ∷ [];
}

-- the other is undone without the newest
unfoldable other : Engine
other = record {
  bytes = plan_c;
  calls = first ∷ next ∷ next ∷ next ∷ [];
  deeds = does 10 (λ o. remembering [] (only1 (faulted_by 0 undoing) 5 o)) (raised 10 0 ∷ faulted root 0 ∷ began 5 ∷ []) None 0 ∷ does 5 gone (began 11 ∷ ended root ∷ []) Handled 0 ∷ [];
}

-- once per scope where a repeat closed it often
unfoldable once_per : Engine
once_per = record {
  bytes = three;
  calls = first ∷ next ∷ next ∷ next ∷ next ∷ next ∷ next ∷ next ∷ next ∷ next ∷ next ∷ next ∷ next ∷ [];
  deeds = does 10 (λ o. remembering [] (only1 (faulted_by 0 undoing) 8 o)) (raised 10 0 ∷ faulted root 0 ∷ began 8 ∷ []) None 0 ∷ does 8 gone (began 11 ∷ ended root ∷ []) Handled 0 ∷ [];
}

-- the same, with only the last closing logged
unfoldable last_logged : Engine
last_logged = record {
  bytes = three;
  calls = first ∷ next ∷ next ∷ next ∷ [];
  deeds = does 5 (λ o. marked 5 idle (marked 9 active o)) (began 9 ∷ []) None 0 ∷ [];
}

-- a scope's undo starts while an inner handler still runs
unfoldable too_early : Engine
too_early = record {
  bytes = inner_handler;
  calls = first ∷ next ∷ next ∷ stepping 1 ∷ [];
  deeds = does 12 (λ o. with_root (faulted_by 0 undoing) (remembering [] (marked 0 idle (marked 2 idle (marked 7 idle (marked 12 idle (marked 11 active o))))))) (raised 12 0 ∷ faulted root 0 ∷ began 11 ∷ []) None 0 ∷ [];
}

-- an undo part starts before anything around it faulted
unfoldable unfaulted : Engine
unfaulted = record {
  bytes = inner_handler;
  calls = first ∷ next ∷ next ∷ [];
  deeds = does 8 (λ o. marked 8 idle (marked 11 active o)) (closed 8 ∷ began 11 ∷ []) None 0 ∷ [];
}

-- the root ends and leaves an inner scope running
unfoldable left_running : Engine
left_running = record {
  bytes = inner_handler;
  calls = first ∷ next ∷ next ∷ stepping 1 ∷ [];
  deeds = does 12 gone (raised 12 0 ∷ faulted root 0 ∷ began 13 ∷ ended root ∷ []) Handled 0 ∷ [];
}

-- a scope that faulted and was handled is remembered, and its fault is not logged
unfoldable remembers_handled : Engine
remembers_handled = record {
  bytes = handled_scope;
  calls = first ∷ next ∷ [];
  deeds = does 3 (λ o. remembering (closing_of 2 0 ∷ []) (marked 3 idle (marked 2 idle (marked 6 active o)))) (raised 3 0 ∷ began 4 ∷ closed 2 ∷ began 6 ∷ []) None 0 ∷ [];
}

-- the fault part runs though nothing raised
unfoldable unraised : Engine
unraised = record {
  bytes = handled_scope;
  calls = first ∷ next ∷ [];
  deeds = does 3 (λ o. remembering (closing_of 2 0 ∷ []) (marked 3 idle (marked 2 idle (marked 6 active o)))) (began 4 ∷ closed 2 ∷ began 6 ∷ []) None 0 ∷ [];
}

-- a scope that faulted and was handled is undone
unfoldable undoes_handled : Engine
undoes_handled = record {
  bytes = handled_scope;
  calls = first ∷ next ∷ next ∷ [];
  deeds = does 6 (only1 (faulted_by 0 undoing) 5) (raised 6 0 ∷ faulted root 0 ∷ began 5 ∷ []) None 0 ∷ [];
}

-- the same, with a closing claimed for it
unfoldable closes_handled : Engine
closes_handled = record {
  bytes = handled_scope;
  calls = first ∷ next ∷ [];
  deeds = does 3 (λ o. remembering (closing_of 2 0 ∷ []) (marked 3 idle (marked 2 idle (marked 6 active o)))) (raised 3 0 ∷ faulted (inner 2) 0 ∷ began 4 ∷ closed 2 ∷ began 6 ∷ []) None 0 ∷ [];
}

-- the close of the outer scope kept its list, and what closed in it the first time is undone the second time
unfoldable keeps_list : Engine
keeps_list = record {
  bytes = closed_outer;
  calls = first ∷ next ∷ next ∷ next ∷ next ∷ next ∷ next ∷ next ∷ next ∷ next ∷ [];
  deeds = does 12 (λ o. marked 12 idle (marked 5 idle (marked 4 (faulted_by 0 undoing) (marked 10 active o)))) (raised 12 0 ∷ faulted (inner 4) 0 ∷ began 10 ∷ []) None 0 ∷ [];
}

-- after an undo part that is over at once that of a scope that never began runs as well, and that is not said
unfoldable one_more : Engine
one_more = record {
  bytes = never_entered;
  calls = first ∷ next ∷ next ∷ next ∷ [];
  deeds = does 12 (λ o. remembering [] (only1 (faulted_by 0 undoing) 6 o)) (raised 12 0 ∷ faulted root 0 ∷ began 11 ∷ []) None 0 ∷ [];
}

-- and that is said
unfoldable one_more_said : Engine
one_more_said = record {
  bytes = never_entered;
  calls = first ∷ next ∷ next ∷ next ∷ [];
  deeds = does 12 (λ o. remembering [] (only1 (faulted_by 0 undoing) 6 o)) (raised 12 0 ∷ faulted root 0 ∷ began 11 ∷ began 6 ∷ []) None 0 ∷ [];
}

-- an undo part that is a sequence starts a second time, and only what begins in it is told
unfoldable untold : Engine
untold = record {
  bytes = in_sequence;
  calls = first ∷ next ∷ next ∷ next ∷ next ∷ [];
  deeds = does 7 (λ o. marked 7 idle (marked 6 active o)) (began 6 ∷ []) None 0 ∷ [];
}

-- What is only claimed, dropped, or done at the wrong time, behind a history that looks right.

-- the raise ends the order in its own step, handled, and both undo parts are only claimed
unfoldable claims_all : Engine
claims_all = record {
  bytes = plan_c;
  calls = first ∷ next ∷ next ∷ next ∷ [];
  deeds = does 10 gone (raised 10 0 ∷ faulted root 0 ∷ began 9 ∷ began 5 ∷ began 11 ∷ ended root ∷ []) Handled 0 ∷ [];
}

-- the newest undo part starts and has its step, and then the other is only claimed
unfoldable claims_other : Engine
claims_other = record {
  bytes = plan_c;
  calls = first ∷ next ∷ next ∷ next ∷ next ∷ [];
  deeds = does 9 gone (began 5 ∷ began 11 ∷ ended root ∷ []) Handled 0 ∷ [];
}

-- an undo part that is a sequence is only claimed
unfoldable claims_sequence : Engine
claims_sequence = record {
  bytes = in_sequence;
  calls = first ∷ next ∷ next ∷ [];
  deeds = does 8 (λ o. remembering [] (only1 (faulted_by 0 handling) 9 o)) (raised 8 0 ∷ faulted root 0 ∷ began 5 ∷ began 9 ∷ []) None 0 ∷ does 9 gone (ended root ∷ []) Handled 0 ∷ [];
}

-- closed three times, undone once, claimed three times
unfoldable claims_thrice : Engine
claims_thrice = record {
  bytes = three;
  calls = first ∷ next ∷ next ∷ next ∷ next ∷ next ∷ next ∷ next ∷ next ∷ next ∷ next ∷ next ∷ next ∷ [];
  deeds = does 10 (λ o. remembering [] (only1 (faulted_by 0 undoing) 8 o)) (raised 10 0 ∷ faulted root 0 ∷ began 8 ∷ began 8 ∷ began 8 ∷ []) None 0 ∷ does 8 gone (began 11 ∷ ended root ∷ []) Handled 0 ∷ [];
}

-- a step of another branch claims again the undo part that runs
unfoldable claims_beside : Engine
claims_beside = record {
  bytes = beside;
  calls = first ∷ next ∷ next ∷ next ∷ next ∷ next ∷ next ∷ next ∷ next ∷ next ∷ next ∷ [];
  deeds = does 17 (λ o. remembering [] (marked 17 idle (marked 18 active o))) (began 11 ∷ began 18 ∷ []) None 0 ∷ [];
}

-- while another slot has its step the undo part that runs is exchanged for the other
unfoldable other_slot : Engine
other_slot = record {
  bytes = plan_c;
  calls = first ∷ next ∷ next ∷ next ∷ next ∷ [];
  deeds = silently (λ o. marked 9 idle (marked 5 active o)) ∷ [];
}

-- an undo part hangs for good, and another branch goes on
unfoldable hangs : Engine
hangs = record {
  bytes = hung;
  calls = first ∷ next ∷ next ∷ next ∷ next ∷ next ∷ next ∷ next ∷ next ∷ next ∷ next ∷ [];
  deeds = does 12 (λ o. marked 12 idle o) ([]) None 0 ∷ [];
}

-- the root faults, and an inner scope is not stopped before it has done all it had to do
unfoldable runs_on : Engine
runs_on = record {
  bytes = unstopped;
  calls = first ∷ next ∷ [];
  deeds = does 9 (λ o. with_root (faulted_by 0 faulty) (marked 0 idle (marked 2 idle (marked 9 idle o)))) (raised 9 0 ∷ faulted root 0 ∷ []) None 0 ∷ [];
}

-- a step of another branch drops the undo part that runs, and starts it again
unfoldable drops : Engine
drops = record {
  bytes = beside;
  calls = first ∷ next ∷ next ∷ next ∷ next ∷ next ∷ next ∷ next ∷ next ∷ next ∷ next ∷ [];
  deeds = does 17 (λ o. remembering [] (marked 17 idle (marked 18 active o))) (began 11 ∷ began 18 ∷ []) None 0 ∷ does 18 (λ o. marked 11 idle (marked 3 idle (marked 18 idle (marked 19 active o)))) (began 14 ∷ ended (inner 3) ∷ began 19 ∷ []) None 0 ∷ [];
}

-- the body of a scope never begins, and the scope closes
unfoldable bodiless : Engine
bodiless = record {
  bytes = unbegun;
  calls = first ∷ next ∷ [];
  deeds = does 2 (λ o. marked 2 idle (marked 3 done o)) (began 3 ∷ []) None 0 ∷ [];
}

-- a scope is closed while its body runs
unfoldable closes_early : Engine
closes_early = record {
  bytes = unbegun;
  calls = first ∷ next ∷ next ∷ [];
  deeds = does 3 (λ o. remembering (closing_of 3 0 ∷ []) (marked 3 idle (marked 4 idle (marked 7 active o)))) (closed 3 ∷ began 7 ∷ []) None 0 ∷ [];
}

-- an order ends well in the middle of its body
unfoldable ends_midway : Engine
ends_midway = record {
  bytes = plan_c;
  calls = first ∷ next ∷ next ∷ [];
  deeds = does 6 gone (closed 6 ∷ ended root ∷ []) Well 0 ∷ [];
}

-- of an undo part that is a flow of two only the first begins
unfoldable half_flow : Engine
half_flow = record {
  bytes = in_flow;
  calls = first ∷ next ∷ next ∷ [];
  deeds = does 8 (λ o. remembering [] (marked 5 active (only1 (faulted_by 0 undoing) 6 o))) (raised 8 0 ∷ faulted root 0 ∷ began 5 ∷ began 6 ∷ []) None 0 ∷ [];
}

-- an undo part that is a send is only claimed, in the step that ends the order
unfoldable claims_send : Engine
claims_send = record {
  bytes = unbegun;
  calls = first ∷ next ∷ next ∷ next ∷ next ∷ [];
  deeds = does 7 gone (raised 7 0 ∷ faulted root 0 ∷ began 6 ∷ began 8 ∷ ended root ∷ []) Handled 0 ∷ [];
}

-- a slot is used again, and the new order finds what the last one remembered
unfoldable old_list : Engine
old_list = record {
  bytes = plan_c;
  calls = first ∷ first ∷ next ∷ next ∷ next ∷ next ∷ next ∷ next ∷ next ∷ [];
  deeds = silently (λ o. remembering (closing_of 2 0 ∷ []) o) ∷ [];
}

-- the root faults, and waits for an inner scope that it does not stop
unfoldable waits_for_ever : Engine
waits_for_ever = record {
  bytes = waiting;
  calls = first ∷ next ∷ next ∷ [];
  deeds = does 11 (λ o. with_root (faulted_by 0 faulty) (marked 0 idle (marked 6 idle (marked 11 idle o)))) (raised 11 0 ∷ faulted root 0 ∷ []) None 0 ∷ [];
}

-- the list of a scope that was stopped is only claimed
unfoldable claims_stopped : Engine
claims_stopped = record {
  bytes = nested;
  calls = first ∷ next ∷ next ∷ next ∷ [];
  deeds = does 15 (λ o. remembering [] (only1 (faulted_by 0 handling) 16 o)) (raised 15 0 ∷ faulted root 0 ∷ stopped 3 ∷ began 8 ∷ ended (inner 3) ∷ began 16 ∷ []) None 0 ∷ [];
}

-- a scope is said to begin anew, so that its closings are forgotten
unfoldable fakes_beginning : Engine
fakes_beginning = record {
  bytes = beside;
  calls = first ∷ next ∷ next ∷ next ∷ next ∷ [];
  deeds = does 12 (λ o. marked 12 idle (marked 6 active (marked 7 idle o))) (began 3 ∷ began 4 ∷ []) None 0 ∷ [];
}

-- a raise in an undo part is swallowed, and the next starts
unfoldable swallows : Engine
swallows = record {
  bytes = raising_undo;
  calls = first ∷ next ∷ next ∷ next ∷ next ∷ [];
  deeds = does 9 (λ o. remembering [] (only1 (faulted_by 0 undoing) 5 o)) (raised 9 0 ∷ began 5 ∷ []) None 0 ∷ [];
}

-- the list of a scope that was stopped is dropped
unfoldable drops_stopped : Engine
drops_stopped = record {
  bytes = nested;
  calls = first ∷ next ∷ next ∷ next ∷ [];
  deeds = does 15 (λ o. remembering [] (only1 (faulted_by 0 handling) 16 o)) (raised 15 0 ∷ faulted root 0 ∷ stopped 3 ∷ ended (inner 3) ∷ began 16 ∷ []) None 0 ∷ [];
}

-- an undo part that is a send is only claimed, while the order lives on
unfoldable claims_one : Engine
claims_one = record {
  bytes = one_send;
  calls = first ∷ next ∷ next ∷ [];
  deeds = does 6 (λ o. remembering [] (only1 (faulted_by 0 handling) 7 o)) (raised 6 0 ∷ faulted root 0 ∷ began 5 ∷ began 7 ∷ []) None 0 ∷ [];
}

-- two undo parts run at once
unfoldable both_at_once : Engine
both_at_once = record {
  bytes = plan_c;
  calls = first ∷ next ∷ next ∷ next ∷ [];
  deeds = does 10 (λ o. remembering [] (marked 9 active (only1 (faulted_by 0 undoing) 5 o))) (raised 10 0 ∷ faulted root 0 ∷ began 9 ∷ began 5 ∷ []) None 0 ∷ [];
}

-- an undo part runs in a body that has not turned
unfoldable in_open_body : Engine
in_open_body = record {
  bytes = plan_c;
  calls = first ∷ next ∷ next ∷ [];
  deeds = does 6 (λ o. remembering (closing_of 2 0 ∷ []) (marked 6 idle (marked 10 active (marked 9 active o)))) (closed 6 ∷ began 10 ∷ began 9 ∷ []) None 0 ∷ [];
}

-- another undo part runs than the one told
unfoldable another_than_told : Engine
another_than_told = record {
  bytes = plan_c;
  calls = first ∷ next ∷ next ∷ next ∷ [];
  deeds = does 10 (λ o. remembering (closing_of 2 0 ∷ []) (only1 (faulted_by 0 undoing) 5 o)) (raised 10 0 ∷ faulted root 0 ∷ began 9 ∷ []) None 0 ∷ [];
}

-- What is over before its time.

-- an undo part that is a sequence is over after its first send
unfoldable drops_tail : Engine
drops_tail = record {
  bytes = in_sequence;
  calls = first ∷ next ∷ next ∷ next ∷ [];
  deeds = does 6 (only1 (faulted_by 0 handling) 9) (began 9 ∷ []) None 0 ∷ [];
}

-- an undo part that is a flow is over after one of its two sends
unfoldable drops_branch : Engine
drops_branch = record {
  bytes = in_flow;
  calls = first ∷ next ∷ next ∷ next ∷ [];
  deeds = does 6 (only1 (faulted_by 0 handling) 9) (began 9 ∷ []) None 0 ∷ [];
}

-- a raise beside a scope that undoes drops one of the two sends that take back what closed in it
unfoldable drops_left : Engine
drops_left = record {
  bytes = left_undoing;
  calls = first ∷ next ∷ next ∷ next ∷ stepping 2 ∷ [];
  deeds = does 15 (λ o. with_root (faulted_by 0 faulty) (marked 0 idle (marked 2 idle (marked 13 idle (marked 15 idle (marked 10 idle o)))))) (raised 15 0 ∷ faulted root 0 ∷ []) None 0 ∷ [];
}

-- the same step as it should be
unfoldable leaves_alone : Engine
leaves_alone = record {
  bytes = left_undoing;
  calls = first ∷ next ∷ next ∷ next ∷ stepping 2 ∷ [];
  deeds = does 15 (λ o. with_root (faulted_by 0 faulty) (marked 0 idle (marked 2 idle (marked 13 idle (marked 15 idle o))))) (raised 15 0 ∷ faulted root 0 ∷ []) None 0 ∷ [];
}

-- of an undo part that is a sequence both sends begin at once
unfoldable as_flow : Engine
as_flow = record {
  bytes = in_sequence;
  calls = first ∷ next ∷ next ∷ [];
  deeds = does 8 (λ o. remembering [] (marked 5 active (marked 7 active (only1 (faulted_by 0 undoing) 6 o)))) (raised 8 0 ∷ faulted root 0 ∷ began 5 ∷ began 6 ∷ began 7 ∷ []) None 0 ∷ [];
}

-- the body of an order, a receive, begins again with the step that should end it
unfoldable again_and_again : Engine
again_and_again = record {
  bytes = lone;
  calls = first ∷ [];
  deeds = does 0 (λ o. with_root active (marked 0 active no_order)) (started ∷ began 0 ∷ began 0 ∷ []) None 0 ∷ [];
}

-- a scope closed twice: its undo part, a sequence, is cut short after its first send, and begins again for the other closing
unfoldable cuts_short : Engine
cuts_short = record {
  bytes = twice;
  calls = first ∷ next ∷ next ∷ next ∷ next ∷ next ∷ next ∷ next ∷ next ∷ next ∷ next ∷ [];
  deeds = does 9 (λ o. remembering [] o) (began 8 ∷ began 9 ∷ []) None 0 ∷ [];
}

-- of a flow of two receives with which an order starts the other is dropped in the starting step
unfoldable starts_half : Engine
starts_half = record {
  bytes = start_flow;
  calls = first ∷ [];
  deeds = does 1 gone (started ∷ began 0 ∷ began 1 ∷ began 2 ∷ ended root ∷ []) Well 0 ∷ [];
}

-- a repeat is left after its first round, without deciding again
unfoldable leaves_repeat : Engine
leaves_repeat = record {
  bytes = three;
  calls = first ∷ next ∷ next ∷ next ∷ next ∷ [];
  deeds = does 9 (λ o. marked 10 active (marked 9 idle (marked 4 idle (marked 3 idle o)))) (began 10 ∷ []) None 0 ∷ [];
}

-- a choose begins the part that its expression does not pick
unfoldable other_part : Engine
other_part = record {
  bytes = never_entered;
  calls = first ∷ next ∷ [];
  deeds = does 2 (λ o. marked 3 done (marked 2 inside o)) (began 3 ∷ began 4 ∷ []) None 0 ∷ [];
}

-- a choose begins nothing, and is over
unfoldable chooses_none : Engine
chooses_none = record {
  bytes = never_entered;
  calls = first ∷ next ∷ [];
  deeds = does 2 (λ o. marked 8 done (marked 2 idle o)) (began 8 ∷ began 9 ∷ []) None 0 ∷ [];
}

-- Request 13: what a scope with no undo part does with what closed in it.

-- what a scope of code 12 would hand on is forgotten
unfoldable forgets : Engine
forgets = record {
  bytes = handed_on;
  calls = first ∷ next ∷ next ∷ next ∷ [];
  deeds = does 2 (λ o. remembering [] (marked 2 idle (marked 13 active o))) (closed 2 ∷ began 13 ∷ []) None 0 ∷ [];
}

-- it is handed on in reverse
unfoldable hands_reversed : Engine
hands_reversed = record {
  bytes = handed_on;
  calls = first ∷ next ∷ next ∷ next ∷ [];
  deeds = does 2 (λ o. remembering (closing_of 8 0 ∷ closing_of 4 0 ∷ []) (marked 2 idle (marked 13 active o))) (closed 2 ∷ began 13 ∷ []) None 0 ∷ [];
}

-- it stays remembered for the scope of code 12
unfoldable keeps_for_inner : Engine
keeps_for_inner = record {
  bytes = handed_on;
  calls = first ∷ next ∷ next ∷ next ∷ [];
  deeds = does 2 (λ o. remembering (closing_of 4 3 ∷ closing_of 8 3 ∷ []) (marked 2 idle (marked 13 active o))) (closed 2 ∷ began 13 ∷ []) None 0 ∷ [];
}

-- it is remembered for both
unfoldable hands_to_both : Engine
hands_to_both = record {
  bytes = handed_on;
  calls = first ∷ next ∷ next ∷ next ∷ [];
  deeds = does 2 (λ o. remembering (closing_of 4 3 ∷ closing_of 8 3 ∷ closing_of 4 0 ∷ closing_of 8 0 ∷ []) (marked 2 idle (marked 13 active o))) (closed 2 ∷ began 13 ∷ []) None 0 ∷ [];
}

-- what was handed on is not undone
unfoldable skips_handed : Engine
skips_handed = record {
  bytes = handed_on;
  calls = first ∷ next ∷ next ∷ next ∷ next ∷ [];
  deeds = does 13 gone (raised 13 0 ∷ faulted root 0 ∷ began 14 ∷ ended root ∷ []) Handled 0 ∷ [];
}

-- what was handed on is undone in file order
unfoldable oldest_handed : Engine
oldest_handed = record {
  bytes = handed_on;
  calls = first ∷ next ∷ next ∷ next ∷ next ∷ [];
  deeds = does 13 (λ o. remembering (closing_of 8 0 ∷ []) (only1 (faulted_by 0 undoing) 7 o)) (raised 13 0 ∷ faulted root 0 ∷ began 7 ∷ []) None 0 ∷ [];
}

-- it is undone twice by the root
unfoldable twice_handed : Engine
twice_handed = record {
  bytes = handed_on;
  calls = first ∷ next ∷ next ∷ next ∷ next ∷ next ∷ next ∷ [];
  deeds = does 7 (λ o. only1 (faulted_by 0 undoing) 11 o) (began 11 ∷ []) None 0 ∷ [];
}

-- the scope of code 12 itself is taken for one that is undone, by its fault part
unfoldable undoes_by_fault : Engine
undoes_by_fault = record {
  bytes = handed_on;
  calls = first ∷ next ∷ next ∷ next ∷ next ∷ [];
  deeds = does 13 (λ o. remembering (closing_of 4 0 ∷ []) (only1 (faulted_by 0 undoing) 11 o)) (raised 13 0 ∷ faulted root 0 ∷ began 12 ∷ began 11 ∷ []) None 0 ∷ [];
}

-- what a scope of code 12 hands on is remembered by the inner closing
unfoldable dates_inner : Engine
dates_inner = record {
  bytes = dated_outer;
  calls = first ∷ next ∷ next ∷ stepping 1 ∷ [];
  deeds = does 3 (λ o. remembering (closing_of 4 0 ∷ closing_of 9 0 ∷ []) (marked 3 idle (marked 2 idle (marked 13 active o)))) (closed 3 ∷ began 13 ∷ []) None 0 ∷ [];
}

-- and undone so
unfoldable undoes_dated : Engine
undoes_dated = record {
  bytes = dated_outer;
  calls = first ∷ next ∷ next ∷ stepping 1 ∷ next ∷ [];
  deeds = does 13 (λ o. remembering (closing_of 4 0 ∷ []) (only1 (faulted_by 0 undoing) 12 o)) (raised 13 0 ∷ faulted root 0 ∷ began 12 ∷ []) None 0 ∷ [];
}

-- a scope of code 12 that faulted undoes what closed in it, and hands it on as well
unfoldable hands_on_faulted : Engine
hands_on_faulted = record {
  bytes = faulted_open;
  calls = first ∷ next ∷ next ∷ next ∷ [];
  deeds = does 7 (λ o. remembering (closing_of 4 0 ∷ []) (marked 7 idle (marked 2 idle (marked 10 active o)))) (began 9 ∷ ended (inner 2) ∷ began 10 ∷ []) None 0 ∷ [];
}

-- and the root undoes it once more
unfoldable undoes_faulted : Engine
undoes_faulted = record {
  bytes = faulted_open;
  calls = first ∷ next ∷ next ∷ next ∷ next ∷ [];
  deeds = does 10 (only1 (faulted_by 0 undoing) 7) (raised 10 0 ∷ faulted root 0 ∷ began 7 ∷ []) None 0 ∷ [];
}

-- a scope of code 12 that faulted hands it on instead of undoing it
unfoldable hands_on_instead : Engine
hands_on_instead = record {
  bytes = faulted_open;
  calls = first ∷ next ∷ next ∷ [];
  deeds = does 8 (λ o. remembering (closing_of 4 0 ∷ []) (marked 8 idle (marked 3 idle (marked 2 idle (marked 10 active o))))) (raised 8 0 ∷ faulted (inner 2) 0 ∷ began 9 ∷ ended (inner 2) ∷ began 10 ∷ []) None 0 ∷ [];
}

-- a raise in a scope of code 12 is passed over to the root
unfoldable passes_over : Engine
passes_over = record {
  bytes = faulted_open;
  calls = first ∷ next ∷ next ∷ [];
  deeds = does 8 (λ o. remembering [] (only1 (faulted_by 0 undoing) 7 o)) (raised 8 0 ∷ faulted root 0 ∷ began 7 ∷ []) None 0 ∷ [];
}

-- a scope of code 12 undoes what it handed on the time before
unfoldable undoes_handed_on : Engine
undoes_handed_on = record {
  bytes = handed_once;
  calls = first ∷ next ∷ next ∷ next ∷ next ∷ next ∷ next ∷ next ∷ next ∷ next ∷ [];
  deeds = does 12 (λ o. marked 12 idle (marked 5 idle (marked 4 (faulted_by 0 undoing) (marked 10 active o)))) (raised 12 0 ∷ faulted (inner 4) 0 ∷ began 10 ∷ []) None 0 ∷ [];
}

-- Request 4: the numbers of faults.

-- an order ends handled with the number of the last fault, which was absorbed
unfoldable names_last : Engine
names_last = record {
  bytes = absorbed;
  calls = first ∷ next ∷ next ∷ stepping 1 ∷ next ∷ [];
  deeds = does 7 gone (ended root ∷ []) Handled 3 ∷ [];
}

-- the number is lost on the way out of a fault part: the root faults with that of a plain raise
unfoldable loses_number : Engine
loses_number = record {
  bytes = passed_out;
  calls = first ∷ next ∷ next ∷ [];
  deeds = does 4 (only1 (faulted_by 0 handling) 5) (raised 4 1 ∷ ended (inner 2) ∷ faulted root 0 ∷ began 5 ∷ []) None 0 ∷ [];
}

-- the root keeps the number of a fault that was absorbed
unfoldable keeps_absorbed : Engine
keeps_absorbed = record {
  bytes = absorbed;
  calls = first ∷ next ∷ next ∷ stepping 1 ∷ [];
  deeds = does 5 (λ o. causing root 3 (only1 (faulted_by 1 handling) 7 o)) (raised 5 3 ∷ ended (inner 3) ∷ began 7 ∷ []) None 0 ∷ [];
}

-- Fault parts by number, the rest of request 4.

-- the general part runs though the number has a part, by the choice that goes with it
unfoldable general_always : Engine
general_always = record {
  bytes = named;
  calls = first ∷ next ∷ [];
  deeds = does 3 (λ o. marked 3 idle (marked 2 (faulted_by 17 handling) (marked 6 active o))) (raised 3 17 ∷ faulted (inner 2) 17 ∷ began 6 ∷ []) None 0 ∷ [];
}

-- the same, with the right choice kept
unfoldable general_runs : Engine
general_runs = record {
  bytes = named;
  calls = first ∷ next ∷ [];
  deeds = does 3 (λ o. marked 3 idle (marked 2 (mark_with 2 handling) (marked 6 active o))) (raised 3 17 ∷ faulted (inner 2) 17 ∷ began 6 ∷ []) None 0 ∷ [];
}

-- the general part runs, and the right one is told
unfoldable general_untold : Engine
general_untold = record {
  bytes = named;
  calls = first ∷ next ∷ [];
  deeds = does 3 (λ o. marked 3 idle (marked 2 (mark_with 2 handling) (marked 6 active o))) (raised 3 17 ∷ faulted (inner 2) 17 ∷ began 5 ∷ []) None 0 ∷ [];
}

-- the part of another number runs
unfoldable other_number : Engine
other_number = record {
  bytes = named;
  calls = first ∷ next ∷ [];
  deeds = does 3 (λ o. marked 3 idle (marked 2 (mark_with 1 handling) (marked 4 active o))) (raised 3 17 ∷ faulted (inner 2) 17 ∷ began 4 ∷ []) None 0 ∷ [];
}

-- the same, with a fault of that number told
unfoldable other_told : Engine
other_told = record {
  bytes = named;
  calls = first ∷ next ∷ [];
  deeds = does 3 (λ o. marked 3 idle (marked 2 (mark_with 1 handling) (marked 4 active o))) (raised 3 17 ∷ faulted (inner 2) 16 ∷ began 4 ∷ []) None 0 ∷ [];
}

-- the same, with a raise of that number told
unfoldable other_raise : Engine
other_raise = record {
  bytes = named;
  calls = first ∷ next ∷ [];
  deeds = does 3 (λ o. marked 3 idle (marked 2 (mark_with 1 handling) (marked 4 active o))) (raised 3 16 ∷ faulted (inner 2) 16 ∷ began 4 ∷ []) None 0 ∷ [];
}

-- a part by number runs though the scope faulted with another, for which it has none
unfoldable nearest_number : Engine
nearest_number = record {
  bytes = unnamed;
  calls = first ∷ next ∷ [];
  deeds = does 3 (λ o. marked 3 idle (marked 2 (mark_with 2 handling) (marked 5 active o))) (raised 3 18 ∷ faulted (inner 2) 18 ∷ began 5 ∷ []) None 0 ∷ [];
}

-- two of them run, one by number and then the general one
unfoldable both_parts : Engine
both_parts = record {
  bytes = named;
  calls = first ∷ next ∷ next ∷ [];
  deeds = does 5 (λ o. marked 5 idle (marked 6 active o)) (began 6 ∷ []) None 0 ∷ [];
}

-- the general part runs, and beside it another fault is kept than it was
unfoldable misremembers : Engine
misremembers = record {
  bytes = unnamed;
  calls = first ∷ next ∷ [];
  deeds = does 3 (λ o. marked 3 idle (marked 2 (faulted_by 1 handling) (marked 6 active o))) (raised 3 18 ∷ faulted (inner 2) 18 ∷ began 6 ∷ []) None 0 ∷ [];
}

-- the choice is lost while the scope undoes
unfoldable forgets_choice : Engine
forgets_choice = record {
  bytes = named_after;
  calls = first ∷ next ∷ next ∷ [];
  deeds = does 8 (λ o. remembering [] (marked 3 idle (marked 8 idle (marked 2 undoing (marked 7 active o))))) (raised 8 17 ∷ faulted (inner 2) 17 ∷ began 7 ∷ []) None 0 ∷ [];
}

-- it is lost meanwhile, with the step of another slot
unfoldable loses_choice : Engine
loses_choice = record {
  bytes = named_after;
  calls = first ∷ next ∷ next ∷ next ∷ [];
  deeds = silently (λ o. marked 2 (faulted_by 17 undoing) o) ∷ [];
}

-- the number of the raise is lost on its way out of a part: the scope around faults with that of a plain raise
unfoldable plain_out : Engine
plain_out = record {
  bytes = out_of_part;
  calls = first ∷ next ∷ next ∷ [];
  deeds = does 5 (λ o. marked 5 idle (marked 3 idle (marked 2 (faulted_by 0 handling) (marked 10 active o)))) (raised 5 16 ∷ ended (inner 3) ∷ faulted (inner 2) 0 ∷ began 10 ∷ []) None 0 ∷ [];
}

-- it faults with the number that the inner scope faulted with
unfoldable first_out : Engine
first_out = record {
  bytes = out_of_part;
  calls = first ∷ next ∷ next ∷ [];
  deeds = does 5 (λ o. marked 5 idle (marked 3 idle (marked 2 (mark_with 2 handling) (marked 9 active o)))) (raised 5 16 ∷ ended (inner 3) ∷ faulted (inner 2) 17 ∷ began 9 ∷ []) None 0 ∷ [];
}

-- the number is told, and the part for that of the inner scope runs
unfoldable first_part : Engine
first_part = record {
  bytes = out_of_part;
  calls = first ∷ next ∷ next ∷ [];
  deeds = does 5 (λ o. marked 5 idle (marked 3 idle (marked 2 (mark_with 2 handling) (marked 9 active o)))) (raised 5 16 ∷ ended (inner 3) ∷ faulted (inner 2) 16 ∷ began 9 ∷ []) None 0 ∷ [];
}

-- the choice of the first time decides the second time
unfoldable chooses_once : Engine
chooses_once = record {
  bytes = in_turns;
  calls = first ∷ next ∷ next ∷ next ∷ next ∷ next ∷ next ∷ next ∷ next ∷ next ∷ [];
  deeds = does 8 (λ o. marked 8 idle (marked 6 idle (marked 5 (mark_with 1 handling) (marked 9 active o)))) (raised 8 17 ∷ faulted (inner 5) 17 ∷ began 9 ∷ []) None 0 ∷ [];
}

-- a scope that is over keeps its choice
unfoldable keeps_choice : Engine
keeps_choice = record {
  bytes = in_turns;
  calls = first ∷ next ∷ next ∷ next ∷ next ∷ next ∷ [];
  deeds = does 9 (λ o. marked 9 idle (marked 5 (mark_with 1 idle) (marked 13 active o))) (ended (inner 5) ∷ began 13 ∷ []) None 0 ∷ [];
}

-- it begins again with the choice of the first time
unfoldable begins_chosen : Engine
begins_chosen = record {
  bytes = in_turns;
  calls = first ∷ next ∷ next ∷ next ∷ next ∷ next ∷ next ∷ next ∷ [];
  deeds = does 3 (λ o. marked 3 inside (marked 4 active (marked 5 (mark_with 1 active) (marked 6 active o)))) (began 4 ∷ began 5 ∷ began 6 ∷ []) None 0 ∷ [];
}

-- the right course of each plan, as far as its engines go
right : List (List Event)
right =
    (started ∷ began 0 ∷ began 1 ∷ began 2 ∷ began 3 ∷ closed 2 ∷ began 6 ∷ began 7 ∷ closed 6 ∷ began 10 ∷ raised 10 0 ∷ faulted root 0 ∷ began 9 ∷ began 5 ∷ began 11 ∷ ended root ∷ [])
    ∷ (started ∷ began 0 ∷ began 1 ∷ began 2 ∷ began 3 ∷ began 4 ∷ began 5 ∷ began 6 ∷ closed 5 ∷ began 9 ∷ began 4 ∷ began 5 ∷ began 6 ∷ closed 5 ∷ began 9 ∷ began 4 ∷ began 5 ∷ began 6 ∷ closed 5 ∷ began 9 ∷ began 10 ∷ raised 10 0 ∷ faulted root 0 ∷ began 8 ∷ began 8 ∷ began 8 ∷ began 11 ∷ ended root ∷ [])
    ∷ (started ∷ began 0 ∷ began 1 ∷ began 2 ∷ began 3 ∷ began 4 ∷ began 7 ∷ began 8 ∷ began 9 ∷ raised 4 0 ∷ faulted (inner 3) 0 ∷ began 5 ∷ closed 8 ∷ began 12 ∷ raised 12 0 ∷ faulted root 0 ∷ ended (inner 3) ∷ began 11 ∷ began 13 ∷ ended root ∷ [])
    ∷ (started ∷ began 0 ∷ began 1 ∷ began 2 ∷ began 3 ∷ raised 3 0 ∷ faulted (inner 2) 0 ∷ began 4 ∷ ended (inner 2) ∷ began 6 ∷ raised 6 0 ∷ faulted root 0 ∷ began 7 ∷ ended root ∷ [])
    ∷ (started ∷ began 0 ∷ began 1 ∷ began 2 ∷ began 3 ∷ began 4 ∷ began 5 ∷ began 6 ∷ began 7 ∷ began 8 ∷ closed 7 ∷ began 11 ∷ closed 4 ∷ began 4 ∷ began 5 ∷ began 12 ∷ raised 12 0 ∷ faulted (inner 4) 0 ∷ began 13 ∷ ended (inner 4) ∷ ended root ∷ [])
    ∷ (started ∷ began 0 ∷ began 1 ∷ began 2 ∷ began 7 ∷ began 8 ∷ began 9 ∷ closed 8 ∷ began 12 ∷ raised 12 0 ∷ faulted root 0 ∷ began 11 ∷ began 13 ∷ [])
    ∷ (started ∷ began 0 ∷ began 1 ∷ began 2 ∷ began 3 ∷ closed 2 ∷ began 8 ∷ raised 8 0 ∷ faulted root 0 ∷ began 5 ∷ began 6 ∷ began 7 ∷ began 9 ∷ [])
    ∷ (started ∷ began 0 ∷ began 1 ∷ began 2 ∷ began 3 ∷ closed 2 ∷ began 8 ∷ raised 8 0 ∷ faulted root 0 ∷ began 5 ∷ began 6 ∷ began 7 ∷ began 9 ∷ [])
    ∷ (started ∷ began 0 ∷ began 1 ∷ began 2 ∷ began 3 ∷ began 4 ∷ began 5 ∷ began 16 ∷ began 17 ∷ began 6 ∷ began 7 ∷ began 8 ∷ began 9 ∷ closed 8 ∷ began 12 ∷ began 7 ∷ began 8 ∷ began 9 ∷ closed 8 ∷ began 12 ∷ began 13 ∷ raised 13 0 ∷ faulted (inner 3) 0 ∷ began 11 ∷ [])
    ∷ (started ∷ began 0 ∷ began 1 ∷ began 2 ∷ began 3 ∷ began 4 ∷ began 5 ∷ began 18 ∷ began 6 ∷ began 7 ∷ began 8 ∷ began 9 ∷ closed 8 ∷ began 14 ∷ began 7 ∷ began 8 ∷ began 9 ∷ closed 8 ∷ began 14 ∷ began 15 ∷ raised 15 0 ∷ faulted (inner 3) 0 ∷ began 11 ∷ began 12 ∷ [])
    ∷ (started ∷ began 0 ∷ began 1 ∷ began 2 ∷ began 3 ∷ began 4 ∷ began 5 ∷ began 9 ∷ [])
    ∷ (started ∷ began 0 ∷ began 1 ∷ began 2 ∷ began 3 ∷ began 4 ∷ [])
    ∷ (started ∷ began 0 ∷ began 1 ∷ began 2 ∷ began 3 ∷ closed 2 ∷ began 6 ∷ began 7 ∷ began 8 ∷ began 11 ∷ [])
    ∷ (started ∷ began 0 ∷ began 1 ∷ began 2 ∷ began 3 ∷ began 4 ∷ began 5 ∷ began 6 ∷ began 13 ∷ began 14 ∷ closed 5 ∷ began 10 ∷ began 15 ∷ [])
    ∷ (started ∷ began 0 ∷ began 1 ∷ began 2 ∷ began 3 ∷ closed 2 ∷ began 6 ∷ began 7 ∷ closed 6 ∷ began 10 ∷ raised 10 0 ∷ faulted root 0 ∷ began 9 ∷ [])
    ∷ (started ∷ began 0 ∷ began 1 ∷ began 2 ∷ began 3 ∷ closed 2 ∷ began 6 ∷ [])
    ∷ (started ∷ began 0 ∷ ended root ∷ [])
    ∷ (started ∷ began 0 ∷ began 1 ∷ began 2 ∷ began 3 ∷ began 4 ∷ began 5 ∷ began 6 ∷ closed 5 ∷ began 11 ∷ began 4 ∷ began 5 ∷ began 6 ∷ closed 5 ∷ began 11 ∷ began 12 ∷ raised 12 0 ∷ faulted root 0 ∷ began 8 ∷ began 9 ∷ [])
    ∷ (started ∷ began 0 ∷ began 1 ∷ began 2 ∷ [])
    ∷ (started ∷ began 0 ∷ began 1 ∷ began 2 ∷ began 3 ∷ began 4 ∷ began 5 ∷ closed 4 ∷ began 8 ∷ began 9 ∷ closed 8 ∷ closed 2 ∷ began 13 ∷ raised 13 0 ∷ faulted root 0 ∷ began 11 ∷ began 7 ∷ began 14 ∷ ended root ∷ [])
    ∷ (started ∷ began 0 ∷ began 1 ∷ began 2 ∷ began 3 ∷ began 4 ∷ began 5 ∷ began 9 ∷ began 10 ∷ closed 4 ∷ closed 9 ∷ closed 3 ∷ began 13 ∷ raised 13 0 ∷ faulted root 0 ∷ began 7 ∷ began 12 ∷ began 14 ∷ ended root ∷ [])
    ∷ (started ∷ began 0 ∷ began 1 ∷ began 2 ∷ began 3 ∷ began 4 ∷ began 5 ∷ closed 4 ∷ began 8 ∷ raised 8 0 ∷ faulted (inner 2) 0 ∷ began 7 ∷ began 9 ∷ ended (inner 2) ∷ began 10 ∷ raised 10 0 ∷ faulted root 0 ∷ began 11 ∷ ended root ∷ [])
    ∷ (started ∷ began 0 ∷ began 1 ∷ began 2 ∷ began 3 ∷ began 4 ∷ began 5 ∷ began 6 ∷ began 7 ∷ began 8 ∷ closed 7 ∷ began 11 ∷ closed 4 ∷ began 4 ∷ began 5 ∷ began 12 ∷ raised 12 0 ∷ faulted (inner 4) 0 ∷ began 13 ∷ ended (inner 4) ∷ began 14 ∷ raised 14 0 ∷ faulted root 0 ∷ began 10 ∷ began 15 ∷ ended root ∷ [])
    ∷ (started ∷ began 0 ∷ began 1 ∷ began 2 ∷ began 3 ∷ began 4 ∷ began 5 ∷ began 6 ∷ began 7 ∷ began 8 ∷ closed 7 ∷ began 13 ∷ began 15 ∷ closed 5 ∷ began 17 ∷ began 4 ∷ began 5 ∷ began 6 ∷ began 7 ∷ began 8 ∷ closed 7 ∷ began 13 ∷ began 14 ∷ raised 14 0 ∷ faulted (inner 5) 0 ∷ began 10 ∷ began 11 ∷ began 12 ∷ raised 11 0 ∷ ended (inner 5) ∷ faulted root 0 ∷ began 10 ∷ began 11 ∷ began 12 ∷ [])
    ∷ (started ∷ began 0 ∷ began 1 ∷ began 2 ∷ began 3 ∷ began 4 ∷ began 6 ∷ raised 4 0 ∷ faulted (inner 3) 0 ∷ began 5 ∷ raised 6 1 ∷ faulted root 1 ∷ raised 5 3 ∷ ended (inner 3) ∷ began 7 ∷ ended root ∷ [])
    ∷ (started ∷ began 0 ∷ began 1 ∷ began 2 ∷ began 3 ∷ raised 3 0 ∷ faulted (inner 2) 0 ∷ began 4 ∷ raised 4 1 ∷ ended (inner 2) ∷ faulted root 1 ∷ began 5 ∷ ended root ∷ [])
    ∷ (started ∷ began 0 ∷ began 1 ∷ began 2 ∷ began 3 ∷ raised 3 17 ∷ faulted (inner 2) 17 ∷ began 5 ∷ ended (inner 2) ∷ ended root ∷ [])
    ∷ (started ∷ began 0 ∷ began 1 ∷ began 2 ∷ began 3 ∷ raised 3 18 ∷ faulted (inner 2) 18 ∷ began 6 ∷ ended (inner 2) ∷ ended root ∷ [])
    ∷ (started ∷ began 0 ∷ began 1 ∷ began 2 ∷ began 3 ∷ began 4 ∷ began 5 ∷ closed 4 ∷ began 8 ∷ raised 8 17 ∷ faulted (inner 2) 17 ∷ began 7 ∷ began 10 ∷ ended (inner 2) ∷ ended root ∷ [])
    ∷ (started ∷ began 0 ∷ began 1 ∷ began 2 ∷ began 3 ∷ began 4 ∷ raised 4 17 ∷ faulted (inner 3) 17 ∷ began 5 ∷ raised 5 16 ∷ ended (inner 3) ∷ faulted (inner 2) 16 ∷ began 8 ∷ ended (inner 2) ∷ ended root ∷ [])
    ∷ (started ∷ began 0 ∷ began 1 ∷ began 2 ∷ began 3 ∷ began 4 ∷ began 5 ∷ began 6 ∷ began 7 ∷ raised 7 16 ∷ faulted (inner 5) 16 ∷ began 9 ∷ ended (inner 5) ∷ began 13 ∷ began 4 ∷ began 5 ∷ began 6 ∷ began 8 ∷ raised 8 17 ∷ faulted (inner 5) 17 ∷ began 10 ∷ ended (inner 5) ∷ began 13 ∷ ended root ∷ [])
    ∷ []

logged : history (first ∷ next ∷ next ∷ next ∷ next ∷ next ∷ next ∷ []) 0 (loaded plan_c) no_tally ∷ history (first ∷ next ∷ next ∷ next ∷ next ∷ next ∷ next ∷ next ∷ next ∷ next ∷ next ∷ next ∷ next ∷ next ∷ next ∷ next ∷ next ∷ []) 0 (loaded three) no_tally ∷ history (first ∷ next ∷ next ∷ stepping 1 ∷ next ∷ next ∷ next ∷ []) 0 (loaded inner_handler) no_tally ∷ history (first ∷ next ∷ next ∷ next ∷ []) 0 (loaded handled_scope) no_tally ∷ history (first ∷ next ∷ next ∷ next ∷ next ∷ next ∷ next ∷ next ∷ next ∷ next ∷ next ∷ next ∷ next ∷ []) 0 (loaded closed_outer) no_tally ∷ history (first ∷ next ∷ next ∷ next ∷ next ∷ []) 0 (loaded never_entered) no_tally ∷ history (first ∷ next ∷ next ∷ next ∷ next ∷ next ∷ []) 0 (loaded in_sequence) no_tally ∷ history (first ∷ next ∷ next ∷ next ∷ next ∷ next ∷ []) 0 (loaded in_flow) no_tally ∷ history (first ∷ next ∷ next ∷ next ∷ next ∷ next ∷ next ∷ next ∷ next ∷ next ∷ next ∷ []) 0 (loaded beside) no_tally ∷ history (first ∷ next ∷ next ∷ next ∷ next ∷ next ∷ next ∷ next ∷ next ∷ next ∷ next ∷ []) 0 (loaded hung) no_tally ∷ history (first ∷ next ∷ []) 0 (loaded unstopped) no_tally ∷ history (first ∷ next ∷ next ∷ next ∷ []) 0 (loaded unbegun) no_tally ∷ history (first ∷ next ∷ next ∷ []) 0 (loaded waiting) no_tally ∷ history (first ∷ next ∷ next ∷ next ∷ []) 0 (loaded nested) no_tally ∷ history (first ∷ next ∷ next ∷ next ∷ next ∷ []) 0 (loaded raising_undo) no_tally ∷ history (first ∷ next ∷ next ∷ []) 0 (loaded one_send) no_tally ∷ history (first ∷ next ∷ []) 0 (loaded lone) no_tally ∷ history (first ∷ next ∷ next ∷ next ∷ next ∷ next ∷ next ∷ next ∷ next ∷ next ∷ next ∷ []) 0 (loaded twice) no_tally ∷ history (first ∷ next ∷ []) 0 (loaded start_flow) no_tally ∷ history (first ∷ next ∷ next ∷ next ∷ next ∷ next ∷ next ∷ next ∷ []) 0 (loaded handed_on) no_tally ∷ history (first ∷ next ∷ next ∷ stepping 1 ∷ next ∷ next ∷ next ∷ next ∷ []) 0 (loaded dated_outer) no_tally ∷ history (first ∷ next ∷ next ∷ next ∷ next ∷ next ∷ []) 0 (loaded faulted_open) no_tally ∷ history (first ∷ next ∷ next ∷ next ∷ next ∷ next ∷ next ∷ next ∷ next ∷ next ∷ next ∷ next ∷ next ∷ next ∷ next ∷ []) 0 (loaded handed_once) no_tally ∷ history (first ∷ next ∷ next ∷ next ∷ next ∷ next ∷ next ∷ next ∷ next ∷ next ∷ next ∷ next ∷ next ∷ []) 0 (loaded anew) no_tally ∷ history (first ∷ next ∷ next ∷ stepping 1 ∷ next ∷ next ∷ []) 0 (loaded absorbed) no_tally ∷ history (first ∷ next ∷ next ∷ next ∷ next ∷ []) 0 (loaded passed_out) no_tally ∷ history (first ∷ next ∷ next ∷ next ∷ []) 0 (loaded named) no_tally ∷ history (first ∷ next ∷ next ∷ next ∷ []) 0 (loaded unnamed) no_tally ∷ history (first ∷ next ∷ next ∷ next ∷ next ∷ next ∷ []) 0 (loaded named_after) no_tally ∷ history (first ∷ next ∷ next ∷ next ∷ next ∷ []) 0 (loaded out_of_part) no_tally ∷ history (first ∷ next ∷ next ∷ next ∷ next ∷ next ∷ next ∷ next ∷ next ∷ next ∷ next ∷ next ∷ next ∷ next ∷ []) 0 (loaded in_turns) no_tally ∷ [] ≡ right
unfolding right plan_c three inner_handler handled_scope closed_outer never_entered in_sequence in_flow beside hung unstopped unbegun waiting nested raising_undo one_send lone twice start_flow handed_on dated_outer faulted_open handed_once anew absorbed passed_out named unnamed named_after out_of_part in_turns computing judging
logged = refl

engines : List Engine
engines = ending ∷ skips_undo ∷ scopeless ∷ hanging ∷ leaving ∷ sending ∷ unasked ∷ fault_first ∷ turned_about ∷ unsaid ∷ newest ∷ oldest ∷ twice_over ∷ other ∷ once_per ∷ last_logged ∷ too_early ∷ unfaulted ∷ left_running ∷ remembers_handled ∷ unraised ∷ undoes_handled ∷ closes_handled ∷ keeps_list ∷ one_more ∷ one_more_said ∷ untold ∷ claims_all ∷ claims_other ∷ claims_sequence ∷ claims_thrice ∷ claims_beside ∷ other_slot ∷ hangs ∷ runs_on ∷ drops ∷ bodiless ∷ closes_early ∷ ends_midway ∷ half_flow ∷ claims_send ∷ old_list ∷ waits_for_ever ∷ claims_stopped ∷ fakes_beginning ∷ swallows ∷ drops_stopped ∷ claims_one ∷ both_at_once ∷ in_open_body ∷ another_than_told ∷ drops_tail ∷ drops_branch ∷ as_flow ∷ again_and_again ∷ cuts_short ∷ starts_half ∷ leaves_repeat ∷ other_part ∷ chooses_none ∷ []

-- and what each breaks
refused : map verdict engines
    ≡ (faults ∷ ends ∷ causes ∷ [])
    ∷ (orderly ∷ faults ∷ ends ∷ causes ∷ [])
    ∷ (orderly ∷ begun_in_turn ∷ entirely ∷ left_to_finish ∷ [])
    ∷ (going_on ∷ never_stuck ∷ standing ∷ [])
    ∷ (steps ∷ [])
    ∷ (steps ∷ [])
    ∷ (faults ∷ begun_truly ∷ passed_on ∷ [])
    ∷ (orderly ∷ [])
    ∷ (steps ∷ marks ∷ [])
    ∷ (begun_all ∷ [])
    ∷ (demand3 ∷ orderly ∷ [])
    ∷ (demand3 ∷ lists ∷ [])
    ∷ (demand3 ∷ lists ∷ [])
    ∷ (demand3 ∷ lists ∷ [])
    ∷ (lists ∷ [])
    ∷ (steps ∷ marks ∷ [])
    ∷ (demand3 ∷ standing ∷ [])
    ∷ (demand3 ∷ orderly ∷ places ∷ going_on ∷ standing ∷ [])
    ∷ (demand3 ∷ orderly ∷ [])
    ∷ (orderly ∷ faults ∷ steps ∷ [])
    ∷ (orderly ∷ steps ∷ [])
    ∷ (demand3 ∷ lists ∷ [])
    ∷ (demand3 ∷ steps ∷ [])
    ∷ (demand3 ∷ lists ∷ [])
    ∷ (begun_all ∷ [])
    ∷ (demand3 ∷ lists ∷ [])
    ∷ (begun_in_turn ∷ entirely ∷ [])
    ∷ (begun_truly ∷ [])
    ∷ (begun_truly ∷ [])
    ∷ (entirely ∷ [])
    ∷ (once ∷ [])
    ∷ (afresh ∷ left_to_finish ∷ [])
    ∷ (own_steps ∷ [])
    ∷ (passed_on ∷ to_come ∷ standing ∷ [])
    ∷ (stopped_within ∷ standing ∷ [])
    ∷ (afresh ∷ left_to_finish ∷ [])
    ∷ (entirely ∷ [])
    ∷ (its_step ∷ [])
    ∷ (passed_on ∷ [])
    ∷ (entirely ∷ [])
    ∷ (begun_truly ∷ [])
    ∷ (own_steps ∷ lists ∷ [])
    ∷ (stopped_within ∷ standing ∷ [])
    ∷ (entirely ∷ [])
    ∷ (orderly ∷ begun_in_turn ∷ afresh ∷ entirely ∷ passed_on ∷ lists ∷ [])
    ∷ (faults ∷ [])
    ∷ (demand3 ∷ [])
    ∷ (begun_truly ∷ [])
    ∷ (going_on ∷ standing ∷ [])
    ∷ (demand3 ∷ orderly ∷ places ∷ going_on ∷ standing ∷ [])
    ∷ (begun_truly ∷ begun_all ∷ [])
    ∷ (passed_on ∷ [])
    ∷ (kept_running ∷ [])
    ∷ (standing ∷ [])
    ∷ (once ∷ [])
    ∷ (passed_on ∷ [])
    ∷ (kept_running ∷ [])
    ∷ (kept_running ∷ [])
    ∷ (decided ∷ [])
    ∷ (decided ∷ [])
    ∷ []
unfolding engines plan_c three inner_handler handled_scope closed_outer never_entered in_sequence in_flow beside hung unstopped unbegun waiting nested raising_undo one_send lone twice start_flow ending skips_undo scopeless hanging leaving sending unasked fault_first turned_about unsaid newest oldest twice_over other once_per last_logged too_early unfaulted left_running remembers_handled unraised undoes_handled closes_handled keeps_list one_more one_more_said untold claims_all claims_other claims_sequence claims_thrice claims_beside other_slot hangs runs_on drops bodiless closes_early ends_midway half_flow claims_send old_list waits_for_ever claims_stopped fakes_beginning swallows drops_stopped claims_one both_at_once in_open_body another_than_told drops_tail drops_branch as_flow again_and_again cuts_short starts_half leaves_repeat other_part chooses_none first-of judge verdict computing judging weighing
refused = refl

-- a step beside a scope that undoes: one that drops something in it, and one that leaves it alone
refused_left : map verdict (drops_left ∷ leaves_alone ∷ []) ≡ (left_alone ∷ []) ∷ [] ∷ []
unfolding left_undoing drops_left leaves_alone first-of judge verdict computing judging weighing
refused_left = refl

-- the engines of request 13, and what each breaks
handers : List Engine
handers = forgets ∷ hands_reversed ∷ keeps_for_inner ∷ hands_to_both ∷ skips_handed ∷ oldest_handed ∷ twice_handed ∷ undoes_by_fault ∷ dates_inner ∷ undoes_dated ∷ hands_on_faulted ∷ undoes_faulted ∷ hands_on_instead ∷ passes_over ∷ undoes_handed_on ∷ []

refused_handers : map verdict handers
    ≡ (lists ∷ [])
    ∷ (lists ∷ [])
    ∷ (lists ∷ [])
    ∷ (lists ∷ [])
    ∷ (demand3 ∷ orderly ∷ [])
    ∷ (demand3 ∷ lists ∷ [])
    ∷ (demand3 ∷ lists ∷ [])
    ∷ (orderly ∷ left_to_finish ∷ [])
    ∷ (lists ∷ [])
    ∷ (demand3 ∷ lists ∷ [])
    ∷ (lists ∷ [])
    ∷ (demand3 ∷ lists ∷ [])
    ∷ (demand3 ∷ orderly ∷ lists ∷ [])
    ∷ (demand3 ∷ orderly ∷ faults ∷ marks ∷ [])
    ∷ (demand3 ∷ lists ∷ [])
    ∷ []
unfolding handers handed_on dated_outer faulted_open handed_once forgets hands_reversed keeps_for_inner hands_to_both skips_handed oldest_handed twice_handed undoes_by_fault dates_inner undoes_dated hands_on_faulted undoes_faulted hands_on_instead passes_over undoes_handed_on first-of judge verdict computing judging weighing
refused_handers = refl

-- the engines of request 4, and what each breaks
misnamers : List Engine
misnamers = names_last ∷ loses_number ∷ keeps_absorbed ∷ []

refused_misnamers : map verdict misnamers ≡ (causes ∷ []) ∷ (faults ∷ []) ∷ (choices ∷ []) ∷ []
unfolding misnamers absorbed passed_out names_last loses_number keeps_absorbed first-of judge verdict computing judging weighing
refused_misnamers = refl

-- the engines of fault parts by number, and what each breaks
choosers : List Engine
choosers = general_always ∷ general_runs ∷ general_untold ∷ other_number ∷ other_told ∷ other_raise ∷ nearest_number ∷ both_parts ∷ misremembers ∷ forgets_choice ∷ loses_choice ∷ plain_out ∷ first_out ∷ first_part ∷ chooses_once ∷ keeps_choice ∷ begins_chosen ∷ []

refused_choosers : map verdict choosers
    ≡ (orderly ∷ choices ∷ [])
    ∷ (orderly ∷ going_on ∷ standing ∷ [])
    ∷ (begun_truly ∷ begun_all ∷ going_on ∷ standing ∷ [])
    ∷ (orderly ∷ choices ∷ [])
    ∷ (faults ∷ [])
    ∷ (steps ∷ [])
    ∷ (orderly ∷ choices ∷ [])
    ∷ (orderly ∷ going_on ∷ standing ∷ [])
    ∷ (choices ∷ [])
    ∷ (choices ∷ [])
    ∷ (own_steps ∷ choices ∷ [])
    ∷ (faults ∷ [])
    ∷ (faults ∷ [])
    ∷ (orderly ∷ choices ∷ [])
    ∷ (orderly ∷ choices ∷ [])
    ∷ (marks ∷ choices ∷ to_come ∷ standing ∷ [])
    ∷ (marks ∷ choices ∷ places ∷ standing ∷ [])
    ∷ []
unfolding choosers named unnamed named_after out_of_part in_turns general_always general_runs general_untold other_number other_told other_raise nearest_number both_parts misremembers forgets_choice loses_choice plain_out first_out first_part chooses_once keeps_choice begins_chosen first-of judge verdict computing judging weighing
refused_choosers = refl

-- with the numbers that the right engine answers in these runs, that of the fault that the root handled
answered_numbers : causes_taken (first ∷ next ∷ next ∷ stepping 1 ∷ next ∷ next ∷ []) 0 (loaded absorbed) no_tally ∷ causes_taken (first ∷ next ∷ next ∷ next ∷ next ∷ []) 0 (loaded passed_out) no_tally ∷ [] ≡ (1 ∷ []) ∷ (1 ∷ []) ∷ []
unfolding absorbed passed_out computing judging
answered_numbers = refl

-- Not every step begins only what was idle: in the last of `anew` the raise 11 ends scope 5, which ran the undo part 10 for the second closing of scope 7, and in the same
-- step the root begins it for the first, which was handed on to it, with the receive 12, which ran.
begun_anew : by [] (λ p. map (λ x. cond (has_began 12 x.log && not (eqb (mark_before 12 x) idle)) x.activity 0) (steps_taken p (first ∷ next ∷ next ∷ next ∷ next ∷ next ∷ next ∷ next ∷ next ∷ next ∷ next ∷ next ∷ next ∷ []) 0 (loaded anew) no_tally)) (read_plan anew)
    ≡ 0 ∷ 0 ∷ 0 ∷ 0 ∷ 0 ∷ 0 ∷ 0 ∷ 0 ∷ 0 ∷ 0 ∷ 0 ∷ 11 ∷ []
unfolding anew computing judging weighing
begun_anew = refl
