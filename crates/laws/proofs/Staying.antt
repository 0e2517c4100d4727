-- An order within its limits stays within them: whatever begins, stops, undoes or closes, and so for a step of it. Assumes nothing.
use mathlib.Core.Path.{◌≡◌, refl, sym, ap, ◌∙◌, subst}
use mathlib.Core.Bool.{Bool, true, false, cond, not, ◌&&◌, ◌||◌, or-true}
use mathlib.Core.List.{List, [], ◌∷◌, ◌++◌, reverse, map}
use Prim.Native.Nat.{ℕ, zero, suc, ◌+◌, ◌<◌, ◌≤◌}
use native.Mathlib.Omega.{arith}
use borrow.Author.Tests.{eqb-true, lt-ltb, le-leb, leb-true, ltb-true}
use lib.Dec.{eqb, ltb, leb}
use lib.ListN.{length, get_or, take, drop, set, length-append, length-map, length-reverse}
use Rattle.plan.specs.Found.{among}
use Rattle.plan.specs.Tree.{Exp, held_by, Own, empty, send, receive, set as setting, raise, leave, choose, repeat, sequence, flow, pick, scope, arm, kind, is_scope, has_undo, numbers_of, undo_part, is_pick, Act, act, Acts, none, more, Plan, size, sizes}
use Rattle.plan.proofs.Accepts.{both}
use Rattle.order.specs.declared.Closing.{Closing}
use Rattle.plan.specs.Within.{plan_within}
use Rattle.order.specs.declared.Order.{Order}
use Rattle.order.specs.declared.Way.{Way}
use Rattle.order.specs.declared.Way.TheVariants.{Running as running, Over as over, Raising as raising, Leaving as leaving, Undone as undone, UndoRaising as undo_raising}
use Rattle.order.specs.declared.End.{End}
use Rattle.order.specs.declared.End.TheVariants.{None, Well, Handled, Failed, Left}
use Rattle.order.specs.Lists.{every, only, without_first, without_last}
use Rattle.order.specs.Event.{Event}
use Rattle.order.specs.Expression.{is_fault_number, unbound_variable, no_such_partner, conflicting_receive, Value, fault, value, evaluate, is_true}
use Rattle.order.specs.State.{idle, active, inside, done, faulty, undoing, handling, halted, withdrawing, Name, root, inner, with_marks, with_root, binding, closing_of, closings, remembering, mark_at, marked, mark_of, marking, state_of, choice_of, going, mark_with, state_in, causing, no_order}
use Rattle.order.specs.Begin.{Begun, begin, begin_in_turn, begin_all, begin_first, begin_after, begin_part, part, part_at, throughout, around, its_beginning, in_turn, side_by_side, nothing_begun, awaiting, cleared, quiet}
use Rattle.order.specs.Scope.{Outcome, Scope, Stopped, runs, after, begun_in, scope_at, choice_for, chosen_part, chosen_at, root_of, is_for, list_of, remembered_for, forgetting, adds, closing, inner_runs, begin_undo, begin_undo_first, begin_undo_in, where_over, start_undo, undo, ends, handle, undoes, turns, is_open, untouched, also_stopped, withdraws, stop, stop_all, stop_first, faults, breaks, looks_again, body_over, body_raised, undo_over, undo_raised, from_body, part_over, part_raised, from_fault, goes_through, from_undo}
use Rattle.order.specs.Acting.{finishes, raises, leaves, or_raises, enters, again, repeats, all_bound, reaches, itself, is_part, arms, goes_on, joins, in_scope, combines, step_in, step_among, step_root, end_of, moved_to, started_order, begun_order, Actor, its_own, in_place, replaces, performs, Moved, acted}
use Rattle.order.specs.Awaited.{Doing, no_step, sends, takes, moves, cuts, closes, Ready, ready_of}
use Rattle.order.specs.Judging.{is_second, Verdict, clear, clash, clash_after, conflict, following, upon, judged, spare, settled, step_order}
use Rattle.machine.specs.Calls.{doing_at}
use Rattle.laws.proofs.Roomy.{room_of, plan-room}
use Rattle.order.specs.Room.{has_room, room_in, room_among, room_plan}
use Rattle.order.specs.Taking.{bind_all}
use Rattle.order.proofs.Chosen.{state-with}
use Rattle.order.proofs.MemoryReturns.{closings-are}
use Rattle.machine.specs.Limits.{root_in_limits, mark_in_limits, order_in_limits}
use Rattle.laws.proofs.Limited.{Limited, LimitedAll, limited-within, limited-first, limited-rest, limited-parts}
use Rattle.laws.proofs.Numbers.{has_number, Numbered, number_step, number-among}
use Rattle.laws.proofs.Offering.{pick_true, pick-false, Each, each_none, each_more, Does, plan-ready}

-- a test that holds of each holds of each after one is changed to one of which it holds
pub every_set : {A : Type 0} (f : A → Bool) (l : List A) (i : ℕ) (v : A) → f v ≡ true → every f l ≡ true → every f (set l i v) ≡ true
unfolding every
every_set f [] i v h e = refl
every_set f (x ∷ l) zero v h e = both (f x) (every f l) e (λ a b. rw (h, b))
every_set f (x ∷ l) (suc i) v h e = both (f x) (every f l) e (λ a b. rw (a, every_set f l i v h b))

-- marks within their limits
pub record Small (ms : List ℕ) : Type 0 where
  pub is : every mark_in_limits ms ≡ true

abbrev Smalls : Begun → Type 0
Smalls r = Small r.marks

small_any : {ms : List ℕ} (k m : ℕ) → mark_in_limits m ≡ true → Small ms → Small (set ms k m)
small_any {ms} k m h s = record { is = every_set mark_in_limits ms k m h s.is }

-- one of the nine
nine : (m : ℕ) → leb m withdrawing ≡ true → mark_in_limits m ≡ true
unfolding mark_in_limits
nine m h = rw h

small-set : {ms : List ℕ} (k m : ℕ) → leb m withdrawing ≡ true → Small ms → Small (set ms k m)
small-set k m h s = small_any k m (nine m h) s

small-cleared : (n k : ℕ) {ms : List ℕ} → Small ms → Small (cleared k n ms)
unfolding cleared
small-cleared zero k s = s
small-cleared (suc n) k s = small-cleared n (k + 1) (small-set k idle refl s)

-- what begins
small-throughout : (k : ℕ) (r : Begun) → Small r.marks → Small (throughout k r).marks
small-throughout k r s = go r.over
  where
    go : (b : Bool) → Smalls (elim b [ true ↦ record { marks = set r.marks k idle; over = true; log = r.log } | false ↦ r ])
    go true = small-set k idle refl s
    go false = s

small-around : (k : ℕ) (r : Begun) → Small r.marks → Small (around k r).marks
small-around k r s = go r.over
  where
    go : (b : Bool) → Smalls (elim b [ true ↦ record { marks = set r.marks k done; over = false; log = r.log } | false ↦ r ])
    go true = small-set k done refl s
    go false = s

small-turn : (f : List ℕ → Begun) (r : Begun) → ((ms : List ℕ) → Small ms → Small (f ms).marks) → Small r.marks → Small (in_turn f r).marks
small-turn f r g s = go r.over
  where
    go : (b : Bool) → Smalls (elim b [ true ↦ (let s = f r.marks in record { marks = s.marks; over = s.over; log = r.log ++ s.log }) | false ↦ r ])
    go true = g r.marks s
    go false = s

mutual
  unfolding begin size

  small-begin : (a : Act) (k : ℕ) (ms : List ℕ) → Small ms → Small (begin a k ms).marks
  small-begin (act empty l) k ms s = s
  small-begin (act (send p o vs) l) k ms s = small-set k active refl s
  small-begin (act (receive p o vs) l) k ms s = small-set k active refl s
  small-begin (act (setting v e) l) k ms s = small-set k active refl s
  small-begin (act (raise zero) l) k ms s = small-set k active refl s
  small-begin (act (raise (suc number)) l) k ms s = small-set k active refl s
  small-begin (act leave l) k ms s = small-set k active refl s
  small-begin (act (choose e) l) k ms s = small-set k active refl s
  small-begin (act (repeat e) l) k ms s = small-set k active refl s
  small-begin (act sequence l) k ms s = small-throughout k (begin_in_turn l (k + 1) (set ms k active)) (small-in-turn l (k + 1) _ (small-set k active refl s))
  small-begin (act flow l) k ms s = small-throughout k (begin_all l (k + 1) (set ms k active)) (small_all l (k + 1) _ (small-set k active refl s))
  small-begin (act pick l) k ms s = small-set k active refl s
  small-begin (act (scope ns u) l) k ms s = small-around k (begin_first l (k + 1) (set ms k active)) (small-first l (k + 1) _ (small-set k active refl s))
  small-begin (act (arm p o vs) l) k ms s = s

  small-in-turn : (l : Acts) (c : ℕ) (ms : List ℕ) → Small ms → Small (begin_in_turn l c ms).marks
  small-in-turn none c ms s = s
  small-in-turn (more a l) c ms s = small-turn (begin_in_turn l (c + size a)) (begin a c ms) (λ ns t. small-in-turn l (c + size a) ns t) (small-begin a c ms s)

  small_all : (l : Acts) (c : ℕ) (ms : List ℕ) → Small ms → Small (begin_all l c ms).marks
  small_all none c ms s = s
  small_all (more a l) c ms s = small_all l (c + size a) _ (small-begin a c ms s)

  small-first : (l : Acts) (c : ℕ) (ms : List ℕ) → Small ms → Small (begin_first l c ms).marks
  small-first none c ms s = s
  small-first (more a l) c ms s = small-begin a c ms s

small-after : (l : Acts) (c t : ℕ) (ms : List ℕ) → Small ms → Small (begin_after l c t ms).marks
unfolding begin_after
small-after none c t ms s = s
small-after (more a l) c t ms s = go (ltb t (c + size a)) (small-after l (c + size a) t ms s)
  where
    go : (b : Bool) → Small (begin_after l (c + size a) t ms).marks → Smalls (elim b [ true ↦ begin_in_turn l (c + size a) ms | false ↦ begin_after l (c + size a) t ms ])
    go true y = small-in-turn l (c + size a) ms s
    go false y = y

small-part : (i : ℕ) (l : Acts) (c : ℕ) (ms : List ℕ) → Small ms → Small (begin_part i l c ms).marks
unfolding begin_part
small-part i l c ms s = small-begin (part i l) (part_at i l c) ms s

mutual
  unfolding begin_undo size

  small-undo : (a : Act) (k e : ℕ) (ms : List ℕ) → Small ms → Small (begin_undo a k e ms).marks
  small-undo (act own l) k e ms s =
      go (is_scope own) (has_undo own) (eqb k e) (small-part (undo_part (numbers_of own)) l (k + 1) ms s) (small-undo-first l (k + 1) e ms s) (small-undo-in l (k + 1) e ms s)
    where
      go : (b u v : Bool) → Small (begin_part (undo_part (numbers_of own)) l (k + 1) ms).marks → Small (begin_undo_first l (k + 1) e ms).marks → Small (begin_undo_in l (k + 1) e ms).marks
          → Smalls (elim b [
            | true ↦ cond u (cond v (begin_part (undo_part (numbers_of own)) l (k + 1) ms) (nothing_begun ms)) (begin_undo_first l (k + 1) e ms)
            | false ↦ begin_undo_in l (k + 1) e ms
          ])
      go true true true x y w = x
      go true true false x y w = s
      go true false v x y w = y
      go false u v x y w = w

  small-undo-first : (l : Acts) (c e : ℕ) (ms : List ℕ) → Small ms → Small (begin_undo_first l c e ms).marks
  small-undo-first none c e ms s = s
  small-undo-first (more a l) c e ms s = small-undo a c e ms s

  small-undo-in : (l : Acts) (c e : ℕ) (ms : List ℕ) → Small ms → Small (begin_undo_in l c e ms).marks
  small-undo-in none c e ms s = s
  small-undo-in (more a l) c e ms s = go (ltb e (c + size a)) (small-undo a c e ms s) (small-undo-in l (c + size a) e ms s)
    where
      go : (b : Bool) → Small (begin_undo a c e ms).marks → Small (begin_undo_in l (c + size a) e ms).marks
          → Smalls (elim b [ true ↦ begin_undo a c e ms | false ↦ begin_undo_in l (c + size a) e ms ])
      go true x y = x
      go false x y = y

-- An order within its limits, but for the root's mark: that is within its limits where the root is what changes (b), and else what it was (z).
abbrev is_root : Name → Bool
is_root root = true
is_root (inner k) = false

unfoldable pub RootIs : Bool → (was mark : ℕ) → Type 0
RootIs true z m = root_in_limits m ≡ true
RootIs false z m = m ≡ z

pub record Fine (b : Bool) (z : ℕ) (o : Order) : Type 0 where
  pub root : RootIs b z o.root
  pub marks : Small o.marks
  pub bound : every (λ b. leb b 1) o.bound ≡ true
  pub kept : o.kept ≤ 32
  pub cause : is_fault_number o.cause ≡ true

abbrev Fines : Bool → ℕ → Outcome → Type 0
Fines b z r = Fine b z r.order

abbrev FineStopped : ℕ → Stopped → Type 0
FineStopped z r = Fine false z r.order

-- what a mark of a scope may become
unfoldable Marks : Bool → ℕ → Type 0
Marks true m = root_in_limits m ≡ true
Marks false m = mark_in_limits m ≡ true

module _ {b : Bool} {z : ℕ} where
  fine-marks : {o : Order} {ms : List ℕ} → Fine b z o → Small ms → Fine b z (with_marks ms o)
  fine-marks f s = record { root = f.root; marks = s; bound = f.bound; kept = f.kept; cause = f.cause }

  fine-marked : {o : Order} (k m : ℕ) → leb m withdrawing ≡ true → Fine b z o → Fine b z (marked k m o)
  fine-marked k m h f = fine-marks f (small-set k m h f.marks)

  fine-remembering : {o : Order} (l : List Closing) → length l ≤ 32 → Fine b z o → Fine b z (remembering l o)
  fine-remembering l h f = record { root = f.root; marks = f.marks; bound = f.bound; kept = h; cause = f.cause }

  fine-binding : {o : Order} (v x : ℕ) → Fine b z o → Fine b z (binding v x o)
  fine-binding {o} v x f = record { root = f.root; marks = f.marks; bound = every_set (λ b. leb b 1) o.bound v 1 refl f.bound; kept = f.kept; cause = f.cause }

  fine-over : (r : Outcome) (g : Order → Outcome) → Fine b z r.order → ((q : Order) → Fine b z q → Fine b z (g q).order) → Fine b z (where_over g r).order
  fine-over r g f h = go r.result
    where
      go : (w : Way) → Fines b z (elim w [
        | running ↦ r
        | over ↦ after r.log (g r.order)
        | raising n ↦ r
        | leaving ↦ r
        | undone ↦ r
        | undo_raising n ↦ r
      ])
      go running = f
      go over = h r.order f
      go (raising n) = f
      go leaving = f
      go undone = f
      go (undo_raising n) = f

-- of two outcomes one
fine-pick : {b : Bool} {z : ℕ} (t : Bool) (x y : Outcome) → (t ≡ true → Fine b z x.order) → (t ≡ false → Fine b z y.order)
    → Fines b z (elim t [ true ↦ x | false ↦ y ])
fine-pick true x y f g = f refl
fine-pick false x y f g = g refl

-- the lists of closings get no longer
take-most : {A : Type 0} (n : ℕ) (l : List A) → length (take n l) ≤ n
take-most zero l = omega arith
take-most (suc n) [] = omega arith
take-most (suc n) (x ∷ l) = omega (arith, take-most n l)

only-most : {A : Type 0} (f : A → Bool) (l : List A) → length (only f l) ≤ length l
unfolding only
only-most f [] = omega arith
only-most f (x ∷ l) = go (f x) (only-most f l)
  where
    go : (b : Bool) → length (only f l) ≤ length l → length (cond b (x ∷ only f l) (only f l)) ≤ suc (length l)
    go true h = omega arith
    go false h = omega arith

first-most : {A : Type 0} (f : A → Bool) (l : List A) → length (without_first f l) ≤ length l
unfolding without_first
first-most f [] = omega arith
first-most f (y ∷ l) = go (f y) (first-most f l)
  where
    go : (b : Bool) → length (without_first f l) ≤ length l → length (cond b l (y ∷ without_first f l)) ≤ suc (length l)
    go true h = omega arith
    go false h = omega arith

last-most : {A : Type 0} (f : A → Bool) (l : List A) → length (without_last f l) ≤ length l
last-most f l = omega (arith, length-reverse (without_first f (reverse l)), first-most f (reverse l), length-reverse l)

-- those of which a test holds and those of which it does not are all
both_most : {A : Type 0} (f : A → Bool) (l : List A) → length (only (λ x. not (f x)) l) + length (only f l) ≤ length l
unfolding only
both_most f [] = omega arith
both_most f (x ∷ l) = go (f x) (both_most f l)
  where
    go : (b : Bool) → length (only (λ x. not (f x)) l) + length (only f l) ≤ length l
        → length (cond (not b) (x ∷ only (λ x. not (f x)) l) (only (λ x. not (f x)) l)) + length (cond b (x ∷ only f l) (only f l)) ≤ suc (length l)
    go true h = omega arith
    go false h = omega arith

fine-closings : {b : Bool} {z : ℕ} {o : Order} → Fine b z o → length (closings o) ≤ 32
fine-closings {o = o} f = omega (arith, take-most o.kept o.remembered, f.kept)

fine-forgetting : {b : Bool} {z : ℕ} {o : Order} (s : Scope) → Fine b z o → Fine b z (forgetting s o)
unfolding forgetting
fine-forgetting {o = o} s f =
    fine-remembering (only (λ e. not (is_for s e)) (closings o)) (omega (arith, only-most (λ e. not (is_for s e)) (closings o), fine-closings f)) f

-- the mark of a scope
fine-marking : {z : ℕ} {o : Order} (n : Name) (m : ℕ) → Marks (is_root n) m → Fine (is_root n) z o → Fine (is_root n) z (marking n m o)
unfolding Marks RootIs
fine-marking root m h f = record { root = h; marks = f.marks; bound = f.bound; kept = f.kept; cause = f.cause }
fine-marking (inner k) m h f = fine-marks f (small_any k m h f.marks)

-- the number of its fault
fine-causing : {b : Bool} {z : ℕ} {o : Order} (n : Name) (x : ℕ) → is_fault_number x ≡ true → Fine b z o → Fine b z (causing n x o)
fine-causing root x h f = record { root = f.root; marks = f.marks; bound = f.bound; kept = f.kept; cause = h }
fine-causing (inner k) x h f = f

any-mark : (b : Bool) (m : ℕ) → leb m withdrawing ≡ true → root_in_limits m ≡ true → Marks b m
unfolding Marks
any-mark true m h g = g
any-mark false m h g = nine m h

-- a mark that keeps its choice
fault-mark : (b : Bool) (c m : ℕ) → among m (faulty ∷ undoing ∷ handling ∷ []) ≡ true → m < 16 → Marks b (mark_with c m)
unfolding Marks root_in_limits mark_in_limits
fault-mark b c m h g = go b
  where
    x : among (state_in (mark_with c m)) (faulty ∷ undoing ∷ handling ∷ []) ≡ true
    x = rw (state-with c m g) h

    go : (b : Bool) → Marks b (mark_with c m)
    go true = rw x (or-true (among (mark_with c m) (idle ∷ active ∷ [])))
    go false = rw x (or-true (leb (mark_with c m) withdrawing))

fine-going : {z : ℕ} {o : Order} (n : Name) (m : ℕ) → among m (faulty ∷ undoing ∷ handling ∷ []) ≡ true → m < 16 → Fine (is_root n) z o → Fine (is_root n) z (going n m o)
fine-going {o = o} n m h g f = fine-marking n (mark_with (choice_of n o) m) (fault-mark (is_root n) (choice_of n o) m h g) f

-- what a scope that turns may be: the root does not stop, and so does not withdraw
unfoldable Turning : Bool → (with_fault : Bool) → Type 0
Turning b true = Unit {0}
Turning b false = Marks b withdrawing

turn-stops : (b : Bool) → Marks b withdrawing → Turning b false
unfolding Turning
turn-stops b m = m

-- an undo part begins, and the next
fine-start-undo : {b : Bool} {z : ℕ} {o : Order} (e : ℕ) (s : Scope) → Fine b z o → Fine b z (start_undo e s o).order
unfolding start_undo
fine-start-undo {o = o} e s f =
    fine-marks (fine-remembering (without_last (is_for s) (closings o)) (omega (arith, last-most (is_for s) (closings o), fine-closings f)) f)
    (small-undo s.body s.body_at e o.marks f.marks)

fine-undo : {b : Bool} {z : ℕ} {o : Order} (l : List ℕ) (s : Scope) → Fine b z o → Fine b z (undo l s o).order
unfolding undo
fine-undo [] s f = f
fine-undo {o = o} (e ∷ l) s f = fine-over (start_undo e s o) (undo l s) (fine-start-undo e s f) (λ q g. fine-undo l s g)

module _ {z : ℕ} (s : Scope) where
  fine-ends : {o : Order} → Fine (is_root s.name) z o → Fine (is_root s.name) z (ends s o).order
  unfolding root_in_limits among
  fine-ends f = fine-marking s.name idle (any-mark (is_root s.name) idle refl refl) f

  fine-handle : {o : Order} → Fine (is_root s.name) z o → Fine (is_root s.name) z (handle s o).order
  unfolding handle root_in_limits among
  fine-handle {o} f =
      let o' = going s.name handling o in
      let a = chosen_part (choice_of s.name o) s in
      let k = chosen_at (choice_of s.name o) s in
      let g = fine-going s.name handling refl (omega arith) f in
      fine-over (begun_in o' (begin a k o'.marks)) (ends s) (fine-marks g (small-begin a k o'.marks g.marks)) (λ q h. fine-ends h)

  fine-undoes : {o : Order} (w : Bool) → Turning (is_root s.name) w → Fine (is_root s.name) z o → Fine (is_root s.name) z (undoes w s o).order
  unfolding undoes among Turning
  fine-undoes {o} true m f =
      let o' = going s.name undoing o in
      fine-over (undo (remembered_for s o') s o') (handle s) (fine-undo (remembered_for s o') s (fine-going s.name undoing refl (omega arith) f)) (λ q h. fine-handle h)
  fine-undoes {o} false m f =
      let o' = marking s.name withdrawing o in
      fine-over (undo (remembered_for s o') s o') (ends s) (fine-undo (remembered_for s o') s (fine-marking s.name withdrawing m f)) (λ q h. fine-ends h)

  fine-turns : {o : Order} (w : Bool) → Turning (is_root s.name) w → Fine (is_root s.name) z o → Fine (is_root s.name) z (turns w s o).order
  unfolding turns
  fine-turns {o} w m f = fine-pick (inner_runs s.body s.body_at o.marks) (runs o) (undoes w s o) (λ e. f) (λ e. fine-undoes w m f)

  fine-undoes-fault : {o : Order} → Fine (is_root s.name) z o → Fine (is_root s.name) z (undoes true s o).order
  unfolding Turning
  fine-undoes-fault f = fine-undoes true tt f

  fine-turns-fault : {o : Order} → Fine (is_root s.name) z o → Fine (is_root s.name) z (turns true s o).order
  unfolding Turning
  fine-turns-fault f = fine-turns true tt f

-- a body stops: the root's mark stays
mutual
  unfolding stop withdraws size Marks Turning

  fine-stop : {z : ℕ} {o : Order} (a : Act) (k : ℕ) → Fine false z o → Fine false z (stop a k o).order
  fine-stop {z} {o} (act own l) k f =
      go (is_scope own) (is_open (mark_at k o))
      (fine-turns (scope_at (numbers_of own) k l) false (nine withdrawing refl) (fine-stop-first l (k + 1) (fine-marked k halted refl f)))
      (fine-stop-all l (k + 1) (fine-marked k idle refl f))
    where
      go : (x y : Bool) → Fine false z (withdraws k (scope_at (numbers_of own) k l) (stop_first l (k + 1) (marked k halted o))).order → Fine false z (stop_all l (k + 1) (marked k idle o)).order
          → FineStopped z (elim x [
            | true ↦ elim y [
              | true ↦ withdraws k (scope_at (numbers_of own) k l) (stop_first l (k + 1) (marked k halted o))
              | false ↦ untouched o
            ]
            | false ↦ stop_all l (k + 1) (marked k idle o)
          ])
      go true true g h = g
      go true false g h = f
      go false y g h = h

  fine-stop-all : {z : ℕ} {o : Order} (l : Acts) (c : ℕ) → Fine false z o → Fine false z (stop_all l c o).order
  fine-stop-all none c f = f
  fine-stop-all (more a l) c f = fine-stop-all l (c + size a) (fine-stop a c f)

  fine-stop-first : {z : ℕ} {o : Order} (l : Acts) (c : ℕ) → Fine false z o → Fine false z (stop_first l c o).order
  fine-stop-first none c f = f
  fine-stop-first (more a l) c f = fine-stop a c f

-- what leaves the root's mark as it is leaves it within its limits
fine-in : {b : Bool} {z : ℕ} {o : Order} → Fine b z o → Fine false o.root o
unfolding RootIs
fine-in f = record { root = refl; marks = f.marks; bound = f.bound; kept = f.kept; cause = f.cause }

fine-out : {b : Bool} {z : ℕ} {o r : Order} → Fine b z o → Fine false o.root r → Fine b z r
unfolding RootIs
fine-out {b} {z} {o} {r} f g = record { root = go b f.root g.root; marks = g.marks; bound = g.bound; kept = g.kept; cause = g.cause }
  where
    go : (b : Bool) → RootIs b z o.root → r.root ≡ o.root → RootIs b z r.root
    go true x e = rw e x
    go false x e = e ∙ x

module _ {z : ℕ} (s : Scope) where
  fine-faults : {o : Order} (n : ℕ) → is_fault_number n ≡ true → Fine (is_root s.name) z o → Fine (is_root s.name) z (faults n s o).order
  unfolding faults root_in_limits among
  fine-faults n h f =
      let g = fine-causing s.name n h (fine-marking s.name (mark_with (choice_for n s) faulty) (fault-mark (is_root s.name) (choice_for n s) faulty refl (omega arith)) f) in
      fine-turns-fault s (fine-out g (fine-stop s.body s.body_at (fine-in g)))

  fine-breaks : {o : Order} (n : ℕ) → Fine (is_root s.name) z o → Fine (is_root s.name) z (breaks n s o).order
  unfolding breaks root_in_limits among
  fine-breaks n f =
      let g = fine-forgetting s (fine-marking s.name idle (any-mark (is_root s.name) idle refl refl) f) in
      fine-marks g (small-cleared s.count s.first g.marks)

  -- only a scope with a number is halted, or withdraws
  not_root : {o : Order} (n : Name) (m : ℕ) → root_in_limits m ≡ false → Fine (is_root n) z o → eqb (mark_of n o) m ≡ true → Marks (is_root n) withdrawing
  unfolding Marks RootIs
  not_root {o} root m h f e =
      let q : o.root ≡ m = eqb-true o.root m e in
      let g : root_in_limits m ≡ true = rw q at f.root in
      absurd (let w : true ≡ false = sym g ∙ h in let v : ◌≡◌ {A = ℕ} 0 1 = cc in omega arith)
  not_root (inner k) m h f e = nine withdrawing refl

  fine-looks : {o : Order} → Fine (is_root s.name) z o → Fine (is_root s.name) z (looks_again s o).order
  unfolding looks_again root_in_limits among
  fine-looks {o} f =
      fine-pick (eqb (state_of s.name o) faulty) (turns true s o) (elim (eqb (mark_of s.name o) halted) [ true ↦ turns false s o | false ↦ runs o ]) (λ e. fine-turns-fault s f)
      (λ e. fine-pick (eqb (mark_of s.name o) halted) (turns false s o) (runs o) (λ d. fine-turns s false (turn-stops (is_root s.name) (not_root s.name halted refl f d)) f) (λ d. f))

  fine-raised : {o : Order} (n : ℕ) → is_fault_number n ≡ true → Fine (is_root s.name) z o → Fine (is_root s.name) z (body_raised n s o).order
  unfolding body_raised
  fine-raised {o} n h f = fine-pick (is_open (mark_of s.name o)) (faults n s o) (looks_again s o) (λ e. fine-faults n h f) (λ e. fine-looks f)

  fine-undo-over : {o : Order} → Fine (is_root s.name) z o → Fine (is_root s.name) z (undo_over s o).order
  unfolding undo_over root_in_limits among
  fine-undo-over {o} f =
      fine-pick (eqb (state_of s.name o) undoing) (undoes true s o) (elim (eqb (mark_of s.name o) withdrawing) [ true ↦ undoes false s o | false ↦ runs o ]) (λ e. fine-undoes-fault s f)
      (λ e. fine-pick (eqb (mark_of s.name o) withdrawing) (undoes false s o) (runs o) (λ d. fine-undoes s false (turn-stops (is_root s.name) (not_root s.name withdrawing refl f d)) f) (λ d. f))

  fine-undo-raised : {o : Order} (n : ℕ) → Fine (is_root s.name) z o → Fine (is_root s.name) z (undo_raised n s o).order
  unfolding undo_raised
  fine-undo-raised {o} n f = fine-pick (eqb (state_of s.name o) undoing || eqb (mark_of s.name o) withdrawing) (breaks n s o) (runs o) (λ e. fine-breaks n f) (λ e. f)

  fine-body-over : {o : Order} → Marks (is_root s.name) done → Fine (is_root s.name) z o → Fine (is_root s.name) z (body_over s o).order
  unfolding body_over
  fine-body-over {o} m f = fine-pick (eqb (mark_of s.name o) active) (runs (marking s.name done o)) (looks_again s o) (λ e. fine-marking s.name done m f) (λ e. fine-looks f)

  fine-part-over : {o : Order} → Fine (is_root s.name) z o → Fine (is_root s.name) z (part_over s o).order
  unfolding part_over
  fine-part-over {o} f = fine-pick (eqb (state_of s.name o) handling) (ends s o) (runs o) (λ e. fine-ends s f) (λ e. f)

  fine-part-raised : {o : Order} (n : ℕ) → Fine (is_root s.name) z o → Fine (is_root s.name) z (part_raised n s o).order
  unfolding part_raised
  fine-part-raised {o} n f = fine-pick (eqb (state_of s.name o) handling) (breaks n s o) (runs o) (λ e. fine-breaks n f) (λ e. f)

  fine-from-body : (r : Outcome) → Numbered r → Marks (is_root s.name) done → Fine (is_root s.name) z r.order → Fine (is_root s.name) z (from_body s r).order
  unfolding from_body
  fine-from-body r x m f = go r.result x
    where
      go : (w : Way) → has_number w ≡ true → Fines (is_root s.name) z (elim w [
        | running ↦ after r.log (looks_again s r.order)
        | over ↦ after r.log (body_over s r.order)
        | raising n ↦ after r.log (body_raised n s r.order)
        | leaving ↦ r
        | undone ↦ after r.log (undo_over s r.order)
        | undo_raising n ↦ after r.log (undo_raised n s r.order)
      ])
      go running x = fine-looks f
      go over x = fine-body-over m f
      go (raising n) x = fine-raised n x f
      go leaving x = f
      go undone x = fine-undo-over f
      go (undo_raising n) x = fine-undo-raised n f

  fine-from-fault : (r : Outcome) → Fine (is_root s.name) z r.order → Fine (is_root s.name) z (from_fault s r).order
  unfolding from_fault
  fine-from-fault r f = go r.result
    where
      go : (w : Way) → Fines (is_root s.name) z (elim w [
        | running ↦ r
        | over ↦ after r.log (part_over s r.order)
        | raising n ↦ after r.log (part_raised n s r.order)
        | leaving ↦ r
        | undone ↦ record { result = running; order = r.order; log = r.log }
        | undo_raising n ↦ record { result = running; order = r.order; log = r.log }
      ])
      go running = f
      go over = fine-part-over f
      go (raising n) = fine-part-raised n f
      go leaving = f
      go undone = f
      go (undo_raising n) = f

-- the step that an activity has by itself
fine-cond : {b : Bool} {z : ℕ} (t : Bool) (x y : Outcome) → Fine b z x.order → Fine b z y.order → Fines b z (cond t x y)
fine-cond true x y f g = f
fine-cond false x y f g = g

module _ {z : ℕ} where
  fine-or : {o : Order} (k : ℕ) (g : ℕ → Outcome) (v : Value) → Fine false z o → ((n : ℕ) → Fine false z (g n).order) → Fines false z (or_raises k o g v)
  fine-or k g (fault n) f h = fine-marked k idle refl f
  fine-or k g (value n) f h = h n

  fine-enters : {o : Order} (k : ℕ) (b : Begun) → Small b.marks → Fine false z o → Fine false z (enters k o b).order
  fine-enters {o} k b s f = fine-over (begun_in (marked k inside o) b) (finishes k) (fine-marks f s) (λ q g. fine-marked k idle refl g)

  fine-repeats : {o : Order} (k : ℕ) (l : Acts) → Fine false z o → Fine false z (repeats k l o).order
  unfolding repeats
  fine-repeats {o} k l f =
      let o' = marked k inside (with_marks (cleared (k + 1) (sizes l) o.marks) o) in
      let g : Fine false z o' = fine-marked k inside refl (fine-marks f (small-cleared (sizes l) (k + 1) f.marks)) in
      fine-over (begun_in o' (begin_part 0 l (k + 1) o'.marks)) (again k) (fine-marks g (small-part 0 l (k + 1) o'.marks g.marks)) (λ q h. fine-marked k active refl h)

  -- a close: what is left with what it adds
  fine-adding : {o : Order} (s : Scope) (ys : List Closing) → length (only (λ e. not (is_for s e)) (closings o)) + length ys ≤ 32 → Fine false z o
      → Fine false z (remembering (closings (forgetting s o) ++ ys) o)
  unfolding forgetting
  fine-adding {o} s ys h f =
      let xs = only (λ e. not (is_for s e)) (closings o) in
      let e : length (closings (remembering xs o) ++ ys) ≡ length xs + length ys =
      length-append (closings (remembering xs o)) ys ∙ ap (λ (l : List Closing). length l + length ys) (closings-are xs o) in
      fine-remembering (closings (remembering xs o) ++ ys) (omega (arith, e, h)) f

  fine-closing : {o : Order} (undo : Bool) (q k : ℕ) (s : Scope) → (not undo || ltb (length (only (λ e. not (is_for s e)) (closings o))) 32) ≡ true → Fine false z o
      → Fine false z (closing undo q k s o).order
  unfolding closing adds list_of
  fine-closing {o} true q k s h f =
      fine-marked k idle refl (fine-adding s (closing_of k q ∷ []) (omega (arith, ltb-true (length (only (λ e. not (is_for s e)) (closings o))) 32 h)) f)
  fine-closing {o} false q k s h f =
      fine-marked k idle refl (fine-adding s (map (λ c. closing_of c.scope q) (only (is_for s) (closings o)))
      (omega (arith, length-map (only (is_for s) (closings o)) (λ c. closing_of c.scope q), both_most (is_for s) (closings o), fine-closings f)) f)

  fine-itself : {o : Order} (own : Own) (l : Acts) (c k : ℕ) → has_room own l k (closings o) ≡ true → Fine false z o → Fine false z (itself own l c k o).order
  unfolding itself has_room
  fine-itself empty l c k h f = f
  fine-itself {o} (send to q vs) l c k h f =
      fine-cond (all_bound o (held_by to ++ vs)) (cond (reaches o to) (finishes k o) (raises no_such_partner k o)) (raises unbound_variable k o)
      (fine-cond (reaches o to) (finishes k o) (raises no_such_partner k o) (fine-marked k idle refl f) (fine-marked k idle refl f)) (fine-marked k idle refl f)
  fine-itself (receive p q vs) l c k h f = fine-marked k idle refl f
  fine-itself {o} (setting v e) l c k h f =
      fine-or k (λ n. finishes k (binding v n o)) (evaluate e o) f (λ n. fine-marked k idle refl (fine-binding v n f))
  fine-itself (raise zero) l c k h f = fine-marked k idle refl f
  fine-itself (raise (suc number)) l c k h f = fine-marked k idle refl f
  fine-itself leave l c k h f = fine-marked k idle refl f
  fine-itself {o} (choose e) l c k h f =
      fine-or k (λ n. enters k o (begin_part (cond (is_true n) 0 1) l (k + 1) (marked k inside o).marks)) (evaluate e o) f
      (λ n. fine-enters k (begin_part (cond (is_true n) 0 1) l (k + 1) (marked k inside o).marks)
      (small-part (cond (is_true n) 0 1) l (k + 1) (marked k inside o).marks (small-set k inside refl f.marks)) f)
  fine-itself {o} (repeat e) l c k h f =
      fine-or k (λ n. elim (is_true n) [ true ↦ repeats k l o | false ↦ finishes k o ]) (evaluate e o) f
      (λ n. fine-pick (is_true n) (repeats k l o) (finishes k o) (λ d. fine-repeats k l f) (λ d. fine-marked k idle refl f))
  fine-itself sequence l c k h f = f
  fine-itself flow l c k h f = f
  fine-itself pick l c k h f = f
  fine-itself (scope ns u) l c k h f = fine-closing u c k (scope_at ns k l) h f
  fine-itself {o} (arm p q vs) l c k h f = fine-marks f (small-part 0 l (k + 1) o.marks f.marks)

  -- what stands around it
  fine-goes : (k m : ℕ) (g : Order → Outcome) (r : Outcome) → Fine false z r.order → ((q : Order) → Fine false z q → Fine false z (g q).order) → Fine false z (goes_on k m g r).order
  unfolding goes_on
  fine-goes k m g r f h =
      fine-over r (λ o. elim (eqb (mark_at k o) m) [ true ↦ g o | false ↦ runs o ]) f (λ q y. fine-pick (eqb (mark_at k q) m) (g q) (runs q) (λ e. h q y) (λ e. y))

  fine-joins : {o : Order} (k : ℕ) (l : Acts) → Fine false z o → Fine false z (joins k l o).order
  unfolding joins
  fine-joins {o} k l f = fine-pick (quiet (k + 1) (sizes l) o.marks) (finishes k o) (runs o) (λ e. fine-marked k idle refl f) (λ e. f)

  fine-in-scope : (ns : List ℕ) (undo : Bool) (k t : ℕ) (l : Acts) (r : Outcome) → Numbered r → Fine false z r.order → Fine false z (in_scope ns undo k t l r).order
  unfolding in_scope Marks from_undo
  fine-in-scope ns undo k t l r x f =
      fine-pick (ltb t (part_at 1 l (k + 1))) (elim (goes_through undo k r) [ true ↦ r | false ↦ from_body (scope_at ns k l) r ])
      (elim (ltb t (part_at (undo_part ns) l (k + 1))) [ true ↦ from_fault (scope_at ns k l) r | false ↦ from_undo r ])
      (λ e. fine-pick (goes_through undo k r) r (from_body (scope_at ns k l) r) (λ d. f) (λ d. fine-from-body (scope_at ns k l) r x (nine done refl) f))
      (λ e. fine-pick (ltb t (part_at (undo_part ns) l (k + 1))) (from_fault (scope_at ns k l) r) (from_undo r) (λ d. fine-from-fault (scope_at ns k l) r f) (λ d. f))

  fine-combines : (own : Own) (l : Acts) (k t : ℕ) (r : Outcome) → Numbered r → Fine false z r.order → Fine false z (combines own l k t r).order
  unfolding combines
  fine-combines empty l k t r x f = f
  fine-combines (send p q vs) l k t r x f = f
  fine-combines (receive p q vs) l k t r x f = f
  fine-combines (setting v e) l k t r x f = f
  fine-combines (raise number) l k t r x f = f
  fine-combines leave l k t r x f = f
  fine-combines (choose e) l k t r x f = fine-goes k inside (finishes k) r f (λ q g. fine-marked k idle refl g)
  fine-combines (repeat e) l k t r x f = fine-goes k inside (again k) r f (λ q g. fine-marked k active refl g)
  fine-combines sequence l k t r x f =
      fine-goes k active (λ o. where_over (finishes k) (begun_in o (begin_after l (k + 1) t o.marks))) r f
      (λ q g. fine-over (begun_in q (begin_after l (k + 1) t q.marks)) (finishes k) (fine-marks g (small-after l (k + 1) t q.marks g.marks)) (λ o h. fine-marked k idle refl h))
  fine-combines flow l k t r x f = fine-goes k active (joins k l) r f (λ q g. fine-joins k l g)
  fine-combines pick l k t r x f = fine-goes k inside (finishes k) r f (λ q g. fine-marked k idle refl g)
  fine-combines (scope ns u) l k t r x f = fine-in-scope ns u k t l r x f
  fine-combines (arm p q vs) l k t r x f = f

  fine-arms : {o : Order} (own : Own) (l : Acts) (k t : ℕ) → Fine false z o → Fine false z (arms own l k t o)
  unfolding arms
  fine-arms {o} own l k t f = go (is_pick own && is_part l (k + 1) t)
    where
      go : (b : Bool) → Fine false z (cond b (marked k inside o) o)
      go true = fine-marked k inside refl f
      go false = f

arms-closings : (own : Own) (l : Acts) (k t : ℕ) (o : Order) → closings (arms own l k t o) ≡ closings o
unfolding arms
arms-closings own l k t o = go (is_pick own && is_part l (k + 1) t)
  where
    go : (b : Bool) → closings (cond b (marked k inside o) o) ≡ closings o
    go true = refl
    go false = refl

-- what acts, or the raise in its place
fine-performs : {z : ℕ} {o : Order} (y : Actor) (own : Own) (l : Acts) (c k : ℕ) → has_room own l k (closings o) ≡ true → Fine false z o → Fine false z (performs y own l c k o).order
unfolding performs
fine-performs {z} {o} y own l c k h f = go (replaces y (kind own))
  where
    go : (b : Bool) → Fine false z (elim b as (λ _. Outcome) [ true ↦ raises conflicting_receive k o | false ↦ itself own l c k o ]).order
    go true = fine-marked k idle refl f
    go false = fine-itself own l c k h f

-- step t in an activity
mutual
  unfolding step_in room_in size

  fine-step-in : {z : ℕ} {o : Order} (y : Actor) (a : Act) (c k t : ℕ) → Limited a → room_in a k t (closings o) ≡ true → Fine false z o → Fine false z (step_in y a c k t o).order
  fine-step-in {z} {o} y (act own l) c k t w h f =
      go (eqb k t) h (λ e. fine-performs y own l c k e f)
      (λ e. fine-combines own l k t (step_among y l (is_scope own) c (k + 1) t (arms own l k t o)) (number-among y l (is_scope own) c (k + 1) t (arms own l k t o) (limited-within own l w))
      (fine-step-among y l (is_scope own) c (k + 1) t (limited-within own l w) (ap (room_among l (k + 1) t) (arms-closings own l k t o) ∙ e) (fine-arms own l k t f)))
    where
      go : (b : Bool) → elim b [ true ↦ has_room own l k (closings o) | false ↦ room_among l (k + 1) t (closings o) ] ≡ true
          → (has_room own l k (closings o) ≡ true → Fine false z (performs y own l c k o).order)
          → (room_among l (k + 1) t (closings o) ≡ true → Fine false z (combines own l k t (step_among y l (is_scope own) c (k + 1) t (arms own l k t o))).order)
          → Fines false z (elim b [ true ↦ performs y own l c k o | false ↦ combines own l k t (step_among y l (is_scope own) c (k + 1) t (arms own l k t o)) ])
      go true e u v = u e
      go false e u v = v e

  fine-step-among : {z : ℕ} {o : Order} (y : Actor) (l : Acts) (w : Bool) (q c t : ℕ) → LimitedAll l → room_among l c t (closings o) ≡ true → Fine false z o
      → Fine false z (step_among y l w q c t o).order
  fine-step-among y none w q c t v h f = f
  fine-step-among {z} {o} y (more a l) w q c t v h f =
      go (ltb t (c + size a)) h (λ e. fine-step-in y a (cond w c q) c t (limited-first a l v) e f) (λ e. fine-step-among y l w q (c + size a) t (limited-rest a l v) e f)
    where
      go : (b : Bool) → elim b [ true ↦ room_in a c t (closings o) | false ↦ room_among l (c + size a) t (closings o) ] ≡ true
          → (room_in a c t (closings o) ≡ true → Fine false z (step_in y a (cond w c q) c t o).order)
          → (room_among l (c + size a) t (closings o) ≡ true → Fine false z (step_among y l w q (c + size a) t o).order)
          → Fines false z (elim b [ true ↦ step_in y a (cond w c q) c t o | false ↦ step_among y l w q (c + size a) t o ])
      go true e u v = u e
      go false e u v = v e

-- an order's limits and this
pub limits-fine : (o : Order) → order_in_limits o ≡ true → Fine true 0 o
unfolding order_in_limits RootIs
limits-fine o e =
    both (root_in_limits o.root) _ e (λ a b.
    both (every mark_in_limits o.marks) _ b (λ c d.
    both (every (λ b. leb b 1) o.bound) _ d (λ f g.
    both (leb o.kept 32) _ g (λ h i.
    record { root = a; marks = record { is = c }; bound = f; kept = leb-true _ _ h; cause = i }))))

pub fine-limits : {z : ℕ} {o : Order} → Fine true z o → order_in_limits o ≡ true
unfolding order_in_limits RootIs
fine-limits f = rw (f.root, f.marks.is, f.bound, le-leb _ _ f.kept, f.cause)

pub none-limits : order_in_limits no_order ≡ true
unfolding order_in_limits no_order root_in_limits mark_in_limits among every is_fault_number
none-limits = refl

-- how an order ended
abbrev Ends : Outcome → Type 0
Ends r = order_in_limits (moved_to r (end_of r)).order ≡ true

ended-fine : {z : ℕ} (r : Outcome) → Fine true z r.order → Ends r
unfolding moved_to end_of
ended-fine r f = go r.result
  where
    root-done : (b : Bool) → order_in_limits (moved_to r (cond b Well None)).order ≡ true
    root-done true = none-limits
    root-done false = fine-limits f

    go : (w : Way) → order_in_limits (moved_to r (elim w [
      | running ↦ cond (eqb r.order.root done) Well None
      | over ↦ Handled
      | raising n ↦ Failed
      | leaving ↦ Left
      | undone ↦ None
      | undo_raising n ↦ None
    ])).order ≡ true
    go running = root-done (eqb r.order.root done)
    go over = none-limits
    go (raising n) = none-limits
    go leaving = none-limits
    go undone = fine-limits f
    go (undo_raising n) = fine-limits f

ended-well : (l : List Event) (o : Order) → Ends (after l (runs (with_root done o)))
unfolding moved_to end_of
ended-well l o = none-limits

-- the root's body
ended-body : {z : ℕ} (p : Plan) (r : Outcome) → Numbered r → Fine true z r.order → Ends (from_body (root_of p) r)
unfolding from_body body_over
ended-body p r x f = go r.result x
  where
    body-over : (b : Bool) → Ends (after r.log (elim b [ true ↦ runs (marking root done r.order) | false ↦ looks_again (root_of p) r.order ]))
    body-over true = ended-well r.log r.order
    body-over false = ended-fine (after r.log (looks_again (root_of p) r.order)) (fine-looks (root_of p) f)

    go : (w : Way) → has_number w ≡ true → Ends (elim w [
      | running ↦ after r.log (looks_again (root_of p) r.order)
      | over ↦ after r.log (body_over (root_of p) r.order)
      | raising n ↦ after r.log (body_raised n (root_of p) r.order)
      | leaving ↦ r
      | undone ↦ after r.log (undo_over (root_of p) r.order)
      | undo_raising n ↦ after r.log (undo_raised n (root_of p) r.order)
    ])
    go running x = ended-fine (after r.log (looks_again (root_of p) r.order)) (fine-looks (root_of p) f)
    go over x = body-over (eqb r.order.root active)
    go (raising n) x = ended-fine (after r.log (body_raised n (root_of p) r.order)) (fine-raised (root_of p) n x f)
    go leaving x = ended-fine r f
    go undone x = ended-fine (after r.log (undo_over (root_of p) r.order)) (fine-undo-over (root_of p) f)
    go (undo_raising n) x = ended-fine (after r.log (undo_raised n (root_of p) r.order)) (fine-undo-raised (root_of p) n f)

-- An order within its limits that an activity acts in, or a raise in its place, stays so.
acted-limits : (y : Actor) (p : Plan) (t : ℕ) (o : Order) → plan_within p ≡ true → t < size p.body + size p.fault → room_plan p t (closings o) ≡ true → order_in_limits o ≡ true
    → order_in_limits (acted y p t o).order ≡ true
unfolding acted step_root room_in
acted-limits y p t o w h e f =
    limited-parts p w (λ v u.
    let z : 0 + size p.body ≡ size p.body = omega arith in
    go v u (ltb t (size p.body)) (ltb t (size p.body + size p.fault)) (lt-ltb t (size p.body + size p.fault) h)
    (subst (λ (n : ℕ). ◌≡◌ {A = Bool} (elim (ltb t n) [
      | true ↦ room_in p.body 0 t (closings o)
      | false ↦ elim (ltb t (n + size p.fault)) [ true ↦ room_in p.fault n t (closings o) | false ↦ true ]
    ]) true) z e))
  where
    fine : Fine true 0 o
    fine = limits-fine o f

    go : Limited p.body → Limited p.fault → (a b : Bool) → b ≡ true
        → ◌≡◌ {A = Bool} (elim a [
          | true ↦ room_in p.body 0 t (closings o)
          | false ↦ elim b [ true ↦ room_in p.fault (size p.body) t (closings o) | false ↦ true ]
        ]) true
        → Ends (elim a [
          | true ↦ from_body (root_of p) (step_in y p.body 0 0 t o)
          | false ↦ from_fault (root_of p) (step_in y p.fault (size p.body) (size p.body) t o)
        ])
    go v u true b q r = ended-body p (step_in y p.body 0 0 t o) (number_step y p.body 0 0 t o v) (fine-out fine (fine-step-in y p.body 0 0 t v r (fine-in fine)))
    go v u false true q r =
        ended-fine (from_fault (root_of p) (step_in y p.fault (size p.body) (size p.body) t o))
        (fine-from-fault (root_of p) (step_in y p.fault (size p.body) (size p.body) t o) (fine-out fine (fine-step-in y p.fault (size p.body) (size p.body) t u r (fine-in fine))))
    go v u false false q r = absurd (let w : ◌≡◌ {A = ℕ} 0 1 = cc in omega arith)

-- what is for the same thing as one before it closes nothing
second-room : (before : List Ready) (d : Doing) (xs : List Closing) → is_second before d ≡ true → room_of d xs ≡ true
unfolding is_second room_of
second-room before no_step xs e = refl
second-room before (sends p o vs) xs e = refl
second-room before (takes p o vs) xs e = refl
second-room before moves xs e = refl
second-room before cuts xs e = refl
second-room before (closes u s) xs e = absurd (let z : ◌≡◌ {A = Bool} false true = e in let w : ◌≡◌ {A = ℕ} 0 1 = cc in omega arith)

-- So the higher of a pair has a number of the plan, and room.
abbrev pub Roomed : Plan → List Closing → Verdict → Type 0
Roomed p xs clear = Unit {0}
Roomed p xs (clash k) = (k < size p.body + size p.fault) × (room_plan p k xs ≡ true)

clash-room : (p : Plan) (xs : List Closing) (before l : List Ready) → Each (Does (doing_at p) 0 (size p.body + size p.fault)) l → Roomed p xs (clash_after before l)
unfolding clash_after
clash-room p xs before [] each_none = tt
clash-room p xs before (r ∷ l) (each_more x w) = go (is_second before r.step) refl (clash-room p xs (r ∷ before) l w)
  where
    go : (b : Bool) → is_second before r.step ≡ b → Roomed p xs (clash_after (r ∷ before) l) → Roomed p xs (elim b [ true ↦ clash r.activity | false ↦ clash_after (r ∷ before) l ])
    go true e v = (x.high, plan-room p r.activity xs (subst (λ (d : Doing). room_of d xs ≡ true) x.is (second-room before r.step xs e)))
    go false e v = v

pub conflict-room : (p : Plan) (o : Order) → Roomed p (closings o) (conflict p o)
unfolding conflict
conflict-room p o = clash-room p (closings o) [] (ready_of p o) (plan-ready p o)

-- An order within its limits that is judged stays so.
judged-limits : (n : ℕ) (p : Plan) (m : Moved) → plan_within p ≡ true → order_in_limits m.order ≡ true → order_in_limits (judged n p m).order ≡ true
unfolding judged
judged-limits zero p m w f = f
judged-limits (suc n) p m w f = go (λ m' f'. judged-limits n p m' w f') m.end
  where
    on : ((m' : Moved) → order_in_limits m'.order ≡ true → order_in_limits (judged n p m').order ≡ true) → (v : Verdict) → Roomed p (closings m.order) v
        → order_in_limits (upon (judged n p) p m v).order ≡ true
    on g clear c = f
    on g (clash k) c = g (following m.log (acted in_place p k m.order)) (acted-limits in_place p k m.order w c.0 c.1 f)

    go : ((m' : Moved) → order_in_limits m'.order ≡ true → order_in_limits (judged n p m').order ≡ true) → (e : End)
        → order_in_limits (elim e as (λ _. Moved) [ None ↦ upon (judged n p) p m (conflict p m.order) | Well ↦ m | Handled ↦ m | Failed ↦ m | Left ↦ m ]).order ≡ true
    go g None = on g (conflict p m.order) (conflict-room p m.order)
    go g Well = f
    go g Handled = f
    go g Failed = f
    go g Left = f

-- A step of an order within its limits leaves it so.
pub step-limits : (p : Plan) (t : ℕ) (o : Order) → plan_within p ≡ true → t < size p.body + size p.fault → room_plan p t (closings o) ≡ true → order_in_limits o ≡ true
    → order_in_limits (step_order p t o).order ≡ true
unfolding step_order settled
step-limits p t o w h e f = judged-limits (spare p (acted its_own p t o).order) p (acted its_own p t o) w (acted-limits its_own p t o w h e f)

-- an order as it starts, and one that takes its values
pub start-limits : (p : Plan) → order_in_limits (started_order p) ≡ true
unfolding started_order begun_order RootIs root_in_limits among
start-limits p =
    let f = limits-fine no_order none-limits in
    let s = small-begin p.body 0 no_order.marks f.marks in
    fine-limits {z = 0} (record { root = refl; marks = s; bound = f.bound; kept = f.kept; cause = f.cause })

pub binding-limits : (v x : ℕ) (o : Order) → order_in_limits o ≡ true → order_in_limits (binding v x o) ≡ true
binding-limits v x o e = fine-limits (fine-binding v x (limits-fine o e))

pub bind-limits : (vs xs : List ℕ) (o : Order) → order_in_limits o ≡ true → order_in_limits (bind_all vs xs o) ≡ true
unfolding bind_all
bind-limits [] xs o e = e
bind-limits (v ∷ vs) xs o e = bind-limits vs (drop 1 xs) (binding v (get_or xs 0 0) o) (binding-limits v (get_or xs 0 0) o e)
