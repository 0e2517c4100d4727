-- The number that an order keeps is that of the newest fault of its root: what a step makes of it is what its log says. Assumes nothing.
use Prim.Native.Nat.{ℕ, zero, suc, ◌+◌}
use native.Mathlib.Omega.{arith}
use mathlib.Core.Path.{◌≡◌, refl, sym, ap, subst, ◌∙◌}
use mathlib.Core.Bool.{Bool, true, false, cond, ◌||◌, ◌&&◌}
use mathlib.Core.List.{List, [], ◌∷◌, ◌++◌}
use lib.ListN.{drop, get_or}
use lib.Dec.{eqb, ltb}
use Rattle.plan.specs.Tree.{Own, empty, send, receive, set as setting, raise, leave, choose, repeat, sequence, flow, pick, scope, arm, kind, is_scope, is_pick, numbers_of, undo_part, Act, act, Acts, none, more, Plan, size, sizes, from_partner, from_asking}
use Rattle.order.specs.declared.Order.{Order}
use Rattle.order.specs.declared.End.{End}
use Rattle.order.specs.declared.End.TheVariants.{None, Well, Handled, Failed, Left}
use Rattle.machine.specs.declared.Message.{Message}
use Rattle.order.specs.Lists.{only, without_last}
use Rattle.order.specs.State.{Name, root, inner, idle, active, inside, done, faulty, undoing, handling, halted, withdrawing, with_marks, binding, remembering, closings, mark_with, mark_of, state_of, choice_of, going, mark_at, marked, marking, causing, no_order}
use Rattle.order.specs.Expression.{conflicting_receive, Value, fault, value, evaluate, is_true}
use Rattle.order.specs.Event.{Event, started, began, closed, faulted, stopped, ended, raised, left}
use Rattle.order.specs.Begin.{Begun, begin, begin_after, begin_part, part_at, cleared, quiet}
use Rattle.order.specs.declared.Way.{Way as Result}
use Rattle.order.specs.declared.Way.TheVariants.{Running as running, Over as over, Raising as raising, Leaving as leaving, Undone as undone, UndoRaising as undo_raising}
use Rattle.order.specs.Scope.{Outcome, runs, after, begun_in, where_over, Scope, choice_for, chosen_part, chosen_at, scope_at, root_of, is_for, forgetting, closing, inner_runs, begin_undo, start_undo, undo, ends, handle, undoes, turns, remembered_for, is_open, untouched, withdraws, stop, stop_all, stop_first, faults, breaks, looks_again, body_over, body_raised, undo_over, undo_raised, from_body, part_over, part_raised, from_fault, goes_through, from_undo}
use Rattle.order.specs.Scope as definitions
use Rattle.order.specs.Acting.{finishes, raises, or_raises, again, repeats, itself, is_part, arms, goes_on, joins, in_scope, combines, Actor, its_own, in_place, replaces, performs, step_in, step_among, step_root, end_of, fault_of, Moved, moved_to, acted, begun_order, started_order}
use Rattle.order.specs.Judging.{Verdict, clear, clash, conflict, following, upon, judged, spare, settled, step_order}
use Rattle.order.specs.Taking.{bind_all}
use Rattle.machine.specs.Fit.{Doing, no_step, sends, takes, moves, cuts, closes}
use Rattle.machine.specs.Calls.{order_taking, gives}
use Rattle.undoing.proofs.Aside.{Aside, begin-silent, after-silent, part-silent, begin-undo-silent}
use Rattle.undoing.proofs.Sends.{by-send}

-- The number of the newest fault of the root in a log, oldest first; where there is none, the one before it.
abbrev pub next_number : (number : ℕ) → Event → ℕ
next_number c started = c
next_number c (began k) = c
next_number c (closed k) = c
next_number c (faulted root x) = x
next_number c (faulted (inner k) x) = c
next_number c (stopped k) = c
next_number c (ended n) = c
next_number c (raised k x) = c
next_number c left = c

unfoldable pub number_after : (number : ℕ) → List Event → ℕ
number_after c [] = c
number_after c (e ∷ l) = number_after (next_number c e) l

number_append : (c : ℕ) (l m : List Event) → number_after c (l ++ m) ≡ number_after (number_after c l) m
unfolding number_after
number_append c [] m = refl
number_append c (e ∷ l) m = number_append (next_number c e) l m

-- a fault
unfoldable is_faulted : Event → Bool
is_faulted started = false
is_faulted (began k) = false
is_faulted (closed k) = false
is_faulted (faulted n x) = true
is_faulted (stopped k) = false
is_faulted (ended n) = false
is_faulted (raised k x) = false
is_faulted left = false

faults-aside : Aside is_faulted
unfolding is_faulted
faults-aside = record { begins = λ k. refl; stops = λ k. refl; ends = λ n. refl }

-- a log with no fault leaves it
silent-number : (c : ℕ) (l : List Event) → only is_faulted l ≡ [] → number_after c l ≡ c
unfolding number_after only is_faulted
silent-number c [] h = refl
silent-number c (started ∷ l) h = silent-number c l h
silent-number c (began k ∷ l) h = silent-number c l h
silent-number c (closed k ∷ l) h = silent-number c l h
silent-number c (faulted n x ∷ l) h = absurd (some-none h)
  where
    some-none : {e : Event} {m : List Event} → e ∷ m ≡ [] → ⊥
    some-none g = let z : ◌≡◌ {A = ℕ} 0 1 = cc in omega arith
silent-number c (stopped k ∷ l) h = silent-number c l h
silent-number c (ended n ∷ l) h = silent-number c l h
silent-number c (raised k x ∷ l) h = silent-number c l h
silent-number c (left ∷ l) h = silent-number c l h

-- An order follows a log from a number: it keeps what the log makes of it.
pub record Follows (c : ℕ) (l : List Event) (o : Order) : Type 0 where
  pub keeps : o.cause ≡ number_after c l

-- nothing happened; it has the number that was there
nothing-follows : (o : Order) → Follows o.cause [] o
unfolding number_after
nothing-follows o = record { keeps = refl }

same-follows : {c : ℕ} {l : List Event} {o : Order} (q : Order) → q.cause ≡ o.cause → Follows c l o → Follows c l q
same-follows q e w = record { keeps = e ∙ w.keeps }

-- one log after the other
then-follows : {c : ℕ} {l : List Event} {o : Order} (m : List Event) (q : Order) → Follows c l o → Follows o.cause m q → Follows c (l ++ m) q
then-follows {c} {l} {o} m q w v = record { keeps = v.keeps ∙ (ap (λ (x : ℕ). number_after x m) w.keeps ∙ sym (number_append c l m)) }

silent-follows : {c : ℕ} (l : List Event) (o : Order) → o.cause ≡ c → only is_faulted l ≡ [] → Follows c l o
silent-follows {c} l o e h = record { keeps = e ∙ sym (silent-number c l h) }

-- of outcomes
abbrev Goes : (c : ℕ) → Outcome → Type 0
Goes c r = Follows c r.log r.order

goes-either : {c : ℕ} (b : Bool) (x y z : Outcome) → z ≡ elim b [ true ↦ x | false ↦ y ] → Goes c x → Goes c y → Goes c z
goes-either {c} true x y z e w v = subst (λ (r : Outcome). Goes c r) (sym e) w
goes-either {c} false x y z e w v = subst (λ (r : Outcome). Goes c r) (sym e) v

goes-where : {c : ℕ} (f : Order → Outcome) (r : Outcome) → Goes c r → ((o : Order) → Goes o.cause (f o)) → Goes c (where_over f r)
goes-where {c} f r w g = go r.result
  where
    go : (x : Result) → Goes c (where_over f (record { result = x; order = r.order; log = r.log }))
    go running = w
    go over = then-follows (f r.order).log (f r.order).order w (g r.order)
    go (raising x) = w
    go leaving = w
    go undone = w
    go (undo_raising x) = w

runs-goes : (o : Order) → Goes o.cause (runs o)
runs-goes o = nothing-follows o

begun-goes : (o : Order) (b : Begun) → only is_faulted b.log ≡ [] → Goes o.cause (begun_in o b)
begun-goes o b h = silent-follows b.log (with_marks b.marks o) refl h

marking-cause : (n : Name) (m : ℕ) (o : Order) → (marking n m o).cause ≡ o.cause
marking-cause root m o = refl
marking-cause (inner k) m o = refl

-- from an order with the same number
goes-as : {c d : ℕ} (r : Outcome) → c ≡ d → Goes c r → Goes d r
goes-as r e w = subst (λ (x : ℕ). Follows x r.log r.order) e w

-- What a scope does of itself.
ends-goes : (s : Scope) (o : Order) → Goes o.cause (ends s o)
unfolding only is_faulted
ends-goes s o = silent-follows (ended s.name ∷ []) (marking s.name idle o) (marking-cause s.name idle o) refl

undo-goes : (l : List ℕ) (s : Scope) (o : Order) → Goes o.cause (undo l s o)
unfolding undo start_undo
undo-goes [] s o = nothing-follows o
undo-goes (e ∷ l) s o =
    let q = remembering (without_last (is_for s) (closings o)) o in
    goes-where (undo l s) (start_undo e s o) (begun-goes q (begin_undo s.body s.body_at e q.marks) (begin-undo-silent is_faulted faults-aside s.body s.body_at e q.marks)) (λ p. undo-goes l s p)

handle-goes : (s : Scope) (o : Order) → Goes o.cause (handle s o)
unfolding handle
handle-goes s o =
    let c = choice_of s.name o in
    let q = going s.name handling o in
    goes-as (handle s o) (marking-cause s.name (mark_with c handling) o)
    (goes-where (ends s) (begun_in q (begin (chosen_part c s) (chosen_at c s) q.marks)) (begun-goes q (begin (chosen_part c s) (chosen_at c s) q.marks) (begin-silent is_faulted faults-aside (chosen_part c s) (chosen_at c s) q.marks)) (ends-goes s))

undoes-goes : (b : Bool) (s : Scope) (o : Order) → Goes o.cause (undoes b s o)
unfolding undoes
undoes-goes true s o =
    let q = going s.name undoing o in goes-as (undoes true s o) (marking-cause s.name (mark_with (choice_of s.name o) undoing) o) (goes-where (handle s) (undo (remembered_for s q) s q) (undo-goes (remembered_for s q) s q) (handle-goes s))
undoes-goes false s o =
    let q = marking s.name withdrawing o in goes-as (undoes false s o) (marking-cause s.name withdrawing o) (goes-where (ends s) (undo (remembered_for s q) s q) (undo-goes (remembered_for s q) s q) (ends-goes s))

turns-goes : (b : Bool) (s : Scope) (o : Order) → Goes o.cause (turns b s o)
unfolding turns
turns-goes b s o = goes-either (inner_runs s.body s.body_at o.marks) (runs o) (undoes b s o) (turns b s o) refl (runs-goes o) (undoes-goes b s o)

-- Stops.
abbrev Stops : (c : ℕ) → definitions.Stopped → Type 0
Stops c r = Follows c r.log r.order

stops-either : {c : ℕ} (b : Bool) (x y z : definitions.Stopped) → z ≡ elim b [ true ↦ x | false ↦ y ] → Stops c x → Stops c y → Stops c z
stops-either {c} true x y z e w v = subst (λ (r : definitions.Stopped). Stops c r) (sym e) w
stops-either {c} false x y z e w v = subst (λ (r : definitions.Stopped). Stops c r) (sym e) v

withdraws-stops : (k : ℕ) (s : Scope) (c : ℕ) (r : definitions.Stopped) → Stops c r → Stops c (withdraws k s r)
unfolding withdraws number_after
withdraws-stops k s c r w = record { keeps = (then-follows (turns false s r.order).log (turns false s r.order).order w (turns-goes false s r.order)).keeps }

mutual
  unfolding stop

  stop-stops : (a : Act) (k : ℕ) (o : Order) → Stops o.cause (stop a k o)
  stop-stops (act own within) k o =
      stops-either (is_scope own)
      (elim (is_open (mark_at k o)) [ true ↦ withdraws k (scope_at (numbers_of own) k within) (stop_first within (k + 1) (marked k halted o)) | false ↦ untouched o ])
      (stop_all within (k + 1) (marked k idle o)) (stop (act own within) k o) refl
      (stops-either (is_open (mark_at k o)) (withdraws k (scope_at (numbers_of own) k within) (stop_first within (k + 1) (marked k halted o))) (untouched o) _ refl
      (withdraws-stops k (scope_at (numbers_of own) k within) o.cause (stop_first within (k + 1) (marked k halted o)) (stop-first-stops within (k + 1) (marked k halted o))) (nothing-follows o))
      (stop-all-stops within (k + 1) (marked k idle o))

  stop-all-stops : (l : Acts) (c : ℕ) (o : Order) → Stops o.cause (stop_all l c o)
  stop-all-stops none c o = nothing-follows o
  stop-all-stops (more a l) c o =
      let r = stop a c o in
      then-follows (stop_all l (c + size a) r.order).log (stop_all l (c + size a) r.order).order (stop-stops a c o) (stop-all-stops l (c + size a) r.order)

  stop-first-stops : (l : Acts) (c : ℕ) (o : Order) → Stops o.cause (stop_first l c o)
  stop-first-stops none c o = nothing-follows o
  stop-first-stops (more a l) c o = stop-stops a c o

-- Faults: the root keeps the number of its own.
faulted-number : (n : Name) (x m : ℕ) (o : Order) → (causing n x (marking n m o)).cause ≡ next_number o.cause (faulted n x)
faulted-number root x m o = refl
faulted-number (inner k) x m o = refl

faults-goes : (x : ℕ) (s : Scope) (o : Order) → Goes o.cause (faults x s o)
unfolding faults number_after
faults-goes x s o =
    let m = mark_with (choice_for x s) faulty in
    let q = causing s.name x (marking s.name m o) in
    let r = stop s.body s.body_at q in
    record {
      keeps =
          (then-follows (turns true s r.order).log (turns true s r.order).order (stop-stops s.body s.body_at q) (turns-goes true s r.order)).keeps
          ∙ ap (λ (y : ℕ). number_after y (r.log ++ (turns true s r.order).log)) (faulted-number s.name x m o);
    }

breaks-goes : (x : ℕ) (s : Scope) (o : Order) → Goes o.cause (breaks x s o)
unfolding breaks forgetting only is_faulted
breaks-goes x s o = silent-follows (ended s.name ∷ []) (breaks x s o).order (marking-cause s.name idle o) refl

looks-goes : (s : Scope) (o : Order) → Goes o.cause (looks_again s o)
unfolding looks_again
looks-goes s o =
    goes-either (eqb (state_of s.name o) faulty) (turns true s o) (elim (eqb (mark_of s.name o) halted) [ true ↦ turns false s o | false ↦ runs o ]) (looks_again s o) refl (turns-goes true s o)
    (goes-either (eqb (mark_of s.name o) halted) (turns false s o) (runs o) _ refl (turns-goes false s o) (runs-goes o))

over-goes : (s : Scope) (o : Order) → Goes o.cause (body_over s o)
unfolding body_over
over-goes s o =
    goes-either (eqb (mark_of s.name o) active) (runs (marking s.name done o)) (looks_again s o) (body_over s o) refl
    (goes-as (runs (marking s.name done o)) (marking-cause s.name done o) (runs-goes (marking s.name done o))) (looks-goes s o)

raised-goes : (x : ℕ) (s : Scope) (o : Order) → Goes o.cause (body_raised x s o)
unfolding body_raised
raised-goes x s o = goes-either (is_open (mark_of s.name o)) (faults x s o) (looks_again s o) (body_raised x s o) refl (faults-goes x s o) (looks-goes s o)

undo-over-goes : (s : Scope) (o : Order) → Goes o.cause (undo_over s o)
unfolding undo_over
undo-over-goes s o =
    goes-either (eqb (state_of s.name o) undoing) (undoes true s o) (elim (eqb (mark_of s.name o) withdrawing) [ true ↦ undoes false s o | false ↦ runs o ]) (undo_over s o) refl (undoes-goes true s o)
    (goes-either (eqb (mark_of s.name o) withdrawing) (undoes false s o) (runs o) _ refl (undoes-goes false s o) (runs-goes o))

undo-raised-goes : (x : ℕ) (s : Scope) (o : Order) → Goes o.cause (undo_raised x s o)
unfolding undo_raised
undo-raised-goes x s o = goes-either (eqb (state_of s.name o) undoing || eqb (mark_of s.name o) withdrawing) (breaks x s o) (runs o) (undo_raised x s o) refl (breaks-goes x s o) (runs-goes o)

part-over-goes : (s : Scope) (o : Order) → Goes o.cause (part_over s o)
unfolding part_over
part-over-goes s o = goes-either (eqb (state_of s.name o) handling) (ends s o) (runs o) (part_over s o) refl (ends-goes s o) (runs-goes o)

part-raised-goes : (x : ℕ) (s : Scope) (o : Order) → Goes o.cause (part_raised x s o)
unfolding part_raised
part-raised-goes x s o = goes-either (eqb (state_of s.name o) handling) (breaks x s o) (runs o) (part_raised x s o) refl (breaks-goes x s o) (runs-goes o)

-- what it makes of a step in it
later-goes : {c : ℕ} (r x : Outcome) → Goes c r → Goes r.order.cause x → Goes c (after r.log x)
later-goes r x w v = then-follows x.log x.order w v

body-goes : {c : ℕ} (s : Scope) (r : Outcome) → Goes c r → Goes c (from_body s r)
unfolding from_body
body-goes {c} s r w = go r.result
  where
    go : (x : Result) → Goes c (from_body s (record { result = x; order = r.order; log = r.log }))
    go running = later-goes r (looks_again s r.order) w (looks-goes s r.order)
    go over = later-goes r (body_over s r.order) w (over-goes s r.order)
    go (raising x) = later-goes r (body_raised x s r.order) w (raised-goes x s r.order)
    go leaving = w
    go undone = later-goes r (undo_over s r.order) w (undo-over-goes s r.order)
    go (undo_raising x) = later-goes r (undo_raised x s r.order) w (undo-raised-goes x s r.order)

fault-goes : {c : ℕ} (s : Scope) (r : Outcome) → Goes c r → Goes c (from_fault s r)
unfolding from_fault
fault-goes {c} s r w = go r.result
  where
    go : (x : Result) → Goes c (from_fault s (record { result = x; order = r.order; log = r.log }))
    go running = w
    go over = later-goes r (part_over s r.order) w (part-over-goes s r.order)
    go (raising x) = later-goes r (part_raised x s r.order) w (part-raised-goes x s r.order)
    go leaving = w
    go undone = w
    go (undo_raising x) = w

-- Steps.
finishes-goes : (k : ℕ) (o : Order) → Goes o.cause (finishes k o)
finishes-goes k o = same-follows (marked k idle o) refl (nothing-follows o)

again-goes : (k : ℕ) (o : Order) → Goes o.cause (again k o)
again-goes k o = same-follows (marked k active o) refl (nothing-follows o)

raises-goes : (x k : ℕ) (o : Order) → Goes o.cause (raises x k o)
unfolding only is_faulted
raises-goes x k o = silent-follows (raised k x ∷ []) (marked k idle o) refl refl

or-goes : (k : ℕ) (o : Order) (f : ℕ → Outcome) (v : Value) → ((n : ℕ) → Goes o.cause (f n)) → Goes o.cause (or_raises k o f v)
or-goes k o f (fault x) h = raises-goes x k o
or-goes k o f (value n) h = h n

repeats-goes : (k : ℕ) (within : Acts) (o : Order) → Goes o.cause (repeats k within o)
unfolding repeats
repeats-goes k within o =
    let q = marked k inside (with_marks (cleared (k + 1) (sizes within) o.marks) o) in
    goes-where (again k) (begun_in q (begin_part 0 within (k + 1) q.marks)) (begun-goes q (begin_part 0 within (k + 1) q.marks) (part-silent is_faulted faults-aside 0 within (k + 1) q.marks)) (again-goes k)

itself-goes : (own : Own) (within : Acts) (q k : ℕ) (o : Order) → Goes o.cause (itself own within q k o)
unfolding itself closing only is_faulted
itself-goes empty within q k o = runs-goes o
itself-goes (send x y vs) within q k o = by-send (Goes o.cause) x y vs within q k o (finishes-goes k o) (λ n. raises-goes n k o)
itself-goes (receive x y vs) within q k o = finishes-goes k o
itself-goes (setting v x) within q k o = or-goes k o _ (evaluate x o) (λ n. finishes-goes k (binding v n o))
itself-goes (raise number) within q k o = raises-goes number k o
itself-goes leave within q k o = silent-follows (left ∷ []) (marked k idle o) refl refl
itself-goes (choose x) within q k o =
    or-goes k o _ (evaluate x o) (λ n. let p = marked k inside o in
    goes-where (finishes k) (begun_in p (begin_part (cond (is_true n) 0 1) within (k + 1) p.marks))
    (begun-goes p (begin_part (cond (is_true n) 0 1) within (k + 1) p.marks) (part-silent is_faulted faults-aside (cond (is_true n) 0 1) within (k + 1) p.marks)) (finishes-goes k))
itself-goes (repeat x) within q k o = or-goes k o _ (evaluate x o) (λ n. goes-either (is_true n) (repeats k within o) (finishes k o) _ refl (repeats-goes k within o) (finishes-goes k o))
itself-goes sequence within q k o = runs-goes o
itself-goes flow within q k o = runs-goes o
itself-goes pick within q k o = runs-goes o
itself-goes (scope xs u) within q k o = silent-follows (closed k ∷ []) (closing u q k (scope_at xs k within) o).order refl refl
itself-goes (arm x y vs) within q k o = begun-goes o (begin_part 0 within (k + 1) o.marks) (part-silent is_faulted faults-aside 0 within (k + 1) o.marks)

on-goes : {c : ℕ} (k m : ℕ) (f : Order → Outcome) (r : Outcome) → Goes c r → ((o : Order) → Goes o.cause (f o)) → Goes c (goes_on k m f r)
unfolding goes_on
on-goes k m f r w h = goes-where (λ o. elim (eqb (mark_at k o) m) [ true ↦ f o | false ↦ runs o ]) r w (λ o. goes-either (eqb (mark_at k o) m) (f o) (runs o) _ refl (h o) (runs-goes o))

joins-goes : (k : ℕ) (within : Acts) (o : Order) → Goes o.cause (joins k within o)
unfolding joins
joins-goes k within o = goes-either (quiet (k + 1) (sizes within) o.marks) (finishes k o) (runs o) (joins k within o) refl (finishes-goes k o) (runs-goes o)

combines-goes : {c : ℕ} (own : Own) (within : Acts) (k t : ℕ) (r : Outcome) → Goes c r → Goes c (combines own within k t r)
unfolding combines in_scope from_undo
combines-goes empty within k t r w = w
combines-goes (send x y vs) within k t r w = w
combines-goes (receive x y vs) within k t r w = w
combines-goes (setting v x) within k t r w = w
combines-goes (raise number) within k t r w = w
combines-goes leave within k t r w = w
combines-goes (choose x) within k t r w = on-goes k inside (finishes k) r w (finishes-goes k)
combines-goes (repeat x) within k t r w = on-goes k inside (again k) r w (again-goes k)
combines-goes sequence within k t r w =
    on-goes k active (λ o. where_over (finishes k) (begun_in o (begin_after within (k + 1) t o.marks))) r w
    (λ o. goes-where (finishes k) (begun_in o (begin_after within (k + 1) t o.marks)) (begun-goes o (begin_after within (k + 1) t o.marks) (after-silent is_faulted faults-aside within (k + 1) t o.marks)) (finishes-goes k))
combines-goes flow within k t r w = on-goes k active (joins k within) r w (joins-goes k within)
combines-goes pick within k t r w = on-goes k inside (finishes k) r w (finishes-goes k)
combines-goes (scope xs u) within k t r w =
    let s = scope_at xs k within in
    goes-either (ltb t (part_at 1 within (k + 1))) (elim (goes_through u k r) [ true ↦ r | false ↦ from_body s r ]) (elim (ltb t (part_at (undo_part xs) within (k + 1))) [ true ↦ from_fault s r | false ↦ from_undo r ]) _ refl
    (goes-either (goes_through u k r) r (from_body s r) _ refl w (body-goes s r w))
    (goes-either (ltb t (part_at (undo_part xs) within (k + 1))) (from_fault s r) (from_undo r) _ refl (fault-goes s r w) w)
combines-goes (arm x y vs) within k t r w = w

performs-goes : (actor : Actor) (own : Own) (within : Acts) (q k : ℕ) (o : Order) → Goes o.cause (performs actor own within q k o)
unfolding performs
performs-goes actor own within q k o =
    goes-either (replaces actor (kind own)) (raises conflicting_receive k o) (itself own within q k o) _ refl (raises-goes conflicting_receive k o) (itself-goes own within q k o)

arms-cause : (own : Own) (within : Acts) (k t : ℕ) (o : Order) → (arms own within k t o).cause ≡ o.cause
unfolding arms
arms-cause own within k t o = go (is_pick own && is_part within (k + 1) t)
  where
    go : (b : Bool) → (cond b (marked k inside o) o).cause ≡ o.cause
    go true = refl
    go false = refl

mutual
  unfolding step_in

  step-goes : (actor : Actor) (a : Act) (q k t : ℕ) (o : Order) → Goes o.cause (step_in actor a q k t o)
  step-goes actor (act own within) q k t o =
      let p = arms own within k t o in
      let r = step_among actor within (is_scope own) q (k + 1) t p in
      goes-either (eqb k t) (performs actor own within q k o) (combines own within k t r) (step_in actor (act own within) q k t o) refl (performs-goes actor own within q k o)
      (combines-goes own within k t r (goes-as r (arms-cause own within k t o) (among-goes actor within (is_scope own) q (k + 1) t p)))

  among-goes : (actor : Actor) (l : Acts) (b : Bool) (q c t : ℕ) (o : Order) → Goes o.cause (step_among actor l b q c t o)
  among-goes actor none b q c t o = runs-goes o
  among-goes actor (more a l) b q c t o =
      goes-either (ltb t (c + size a)) (step_in actor a (cond b c q) c t o) (step_among actor l b q (c + size a) t o) (step_among actor (more a l) b q c t o) refl
      (step-goes actor a (cond b c q) c t o) (among-goes actor l b q (c + size a) t o)

root-goes : (actor : Actor) (p : Plan) (t : ℕ) (o : Order) → Goes o.cause (step_root actor p t o)
unfolding step_root
root-goes actor p t o =
    goes-either (ltb t (size p.body)) (from_body (root_of p) (step_in actor p.body 0 0 t o)) (from_fault (root_of p) (step_in actor p.fault (size p.body) (size p.body) t o)) (step_root actor p t o) refl
    (body-goes (root_of p) (step_in actor p.body 0 0 t o) (step-goes actor p.body 0 0 t o))
    (fault-goes (root_of p) (step_in actor p.fault (size p.body) (size p.body) t o) (step-goes actor p.fault (size p.body) (size p.body) t o))

-- An order after a step: it follows the log where it lives on, and where it ended handled the number that it kept is the one answered.
abbrev pub Told : (c : ℕ) → List Event → Order → (fault : ℕ) → End → Type 0
Told c l o x None = Follows c l o
Told c l o x Well = Unit {0}
Told c l o x Handled = x ≡ number_after c l
Told c l o x Failed = Unit {0}
Told c l o x Left = Unit {0}

pub record Moves (c : ℕ) (m : Moved) : Type 0 where
  pub told : Told c m.log m.order m.fault m.end

acted-moves : (actor : Actor) (p : Plan) (t : ℕ) (o : Order) → Moves o.cause (acted actor p t o)
unfolding acted end_of fault_of moved_to
acted-moves actor p t o = go r.result (root-goes actor p t o)
  where
    r : Outcome
    r = step_root actor p t o

    well : (b : Bool) → Goes o.cause r → Moves o.cause (moved_to (record { result = running; order = r.order; log = r.log }) (cond b Well None))
    well true w = record { told = tt }
    well false w = record { told = w }

    go : (x : Result) → Goes o.cause r
        → Moves o.cause (moved_to (record { result = x; order = r.order; log = r.log }) (end_of (record { result = x; order = r.order; log = r.log })))
    go running w = well (eqb r.order.root done) w
    go over w = record { told = w.keeps }
    go (raising x) w = record { told = tt }
    go leaving w = record { told = tt }
    go undone w = record { told = w }
    go (undo_raising x) w = record { told = w }

-- judged
following-moves : {c : ℕ} (l : List Event) (o : Order) (m : Moved) → Follows c l o → Moves o.cause m → Moves c (following l m)
following-moves {c} l o m w v = record { told = go m.end v.told }
  where
    go : (e : End) → Told o.cause m.log m.order m.fault e → Told c (l ++ m.log) m.order m.fault e
    go None x = then-follows m.log m.order w x
    go Well x = tt
    go Handled x = x ∙ (ap (λ (y : ℕ). number_after y m.log) w.keeps ∙ sym (number_append c l m.log))
    go Failed x = tt
    go Left x = tt

judged-moves : (n : ℕ) (p : Plan) (c : ℕ) (m : Moved) → Moves c m → Moves c (judged n p m)
unfolding judged
judged-moves zero p c m w = w
judged-moves (suc n) p c m w = go m.end refl (λ m' w'. judged-moves n p c m' w')
  where
    on : ((m' : Moved) → Moves c m' → Moves c (judged n p m')) → Follows c m.log m.order → (v : Verdict) → Moves c (upon (judged n p) p m v)
    on f g clear = w
    on f g (clash k) = f (following m.log (acted in_place p k m.order)) (following-moves m.log m.order (acted in_place p k m.order) g (acted-moves in_place p k m.order))

    go : (e : End) → m.end ≡ e → ((m' : Moved) → Moves c m' → Moves c (judged n p m'))
        → Moves c (elim e [ None ↦ upon (judged n p) p m (conflict p m.order) | Well ↦ m | Handled ↦ m | Failed ↦ m | Left ↦ m ])
    go None d f = on f (subst (λ (e : End). Told c m.log m.order m.fault e) d w.told) (conflict p m.order)
    go Well d f = w
    go Handled d f = w
    go Failed d f = w
    go Left d f = w

-- A step of an order.
pub order-moves : (p : Plan) (t : ℕ) (o : Order) → Moves o.cause (step_order p t o)
unfolding step_order settled
order-moves p t o = judged-moves (spare p (acted its_own p t o).order) p o.cause (acted its_own p t o) (acted-moves its_own p t o)

-- taking a message leaves the number
bound-cause : (vs xs : List ℕ) (o : Order) → (bind_all vs xs o).cause ≡ o.cause
unfolding bind_all
bound-cause [] xs o = refl
bound-cause (v ∷ vs) xs o = bound-cause vs (drop 1 xs) (binding v (get_or xs 0 0) o)

pub taking-cause : (d : Doing) (m : Message) (o : Order) → (order_taking d m o).cause ≡ o.cause
unfolding order_taking
taking-cause no_step m o = refl
taking-cause (sends x y vs) m o = refl
taking-cause (takes (from_partner x) y vs) m o = bound-cause vs (gives m) o
taking-cause (takes (from_asking x v) y vs) m o = bound-cause vs (gives m) o
taking-cause moves m o = refl
taking-cause cuts m o = refl
taking-cause (closes u s) m o = refl

-- an order starts with none
pub started-number : (p : Plan) → number_after 0 (begun_order p).log ≡ (started_order p).cause
unfolding begun_order started_order no_order
started-number p = silent-number 0 (begun_order p).log (begin-silent is_faulted faults-aside p.body 0 no_order.marks)
