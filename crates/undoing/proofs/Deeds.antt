-- The starts, closings, raises and leaves that a step logs: its own, and no others. Assumes nothing.
use Prim.Native.Nat.{ℕ, zero, suc, ◌+◌}
use mathlib.Core.Path.{◌≡◌, refl, sym, ap, ◌∙◌}
use mathlib.Core.Bool.{Bool, true, false, cond, ◌&&◌, ◌||◌, false≢true}
use mathlib.Core.List.{List, [], ◌∷◌, ◌++◌, append-nil, append_assoc}
use lib.Dec.{eqb, ltb}
use borrow.Author.Tests.{eqb-true}
use Rattle.plan.specs.Tree.{Exp, constant, variable, binary, Own, empty, send, receive, set as setting, raise, leave, choose, repeat, sequence, flow, pick, scope, arm, kind, is_pick, Act, act, Acts, none, more, Plan, size, sizes, is_scope, undo_part, from_partner, from_asking, to_partner, to_held, held_by}
use Rattle.order.specs.declared.Order.{Order}
use Rattle.order.specs.declared.End.{End}
use Rattle.order.specs.declared.End.TheVariants.{None, Well, Handled, Failed, Left}
use Rattle.machine.specs.declared.Message.{Message}
use Rattle.order.specs.Lists.{only}
use Rattle.order.specs.State.{root, inside, binding, no_order, marked, mark_of, marking, mark_at, with_marks, faulty, halted, active, undoing, withdrawing, handling, done, causing, state_of, mark_with}
use Rattle.order.specs.Expression.{conflicting_receive, Value, fault, value, evaluate, is_true}
use Rattle.order.specs.Event.{Event, started, faulted, ended, raised}
use Rattle.order.specs.Begin.{Begun, begin_after, begin_part, part_at, quiet, cleared}
use Rattle.order.specs.declared.Way.{Way as Result}
use Rattle.order.specs.declared.Way.TheVariants.{Running as running, Over as over, Raising as raising, Leaving as leaving, Undone as undone, UndoRaising as undo_raising}
use Rattle.order.specs.Scope.{Outcome, runs, begun_in, where_over, Scope, scope_at, root_of, is_open, closing, ends, undoes, turns, stop, faults, breaks, looks_again, body_over, body_raised, undo_over, undo_raised, from_body, part_over, part_raised, from_fault, from_undo, goes_through, choice_for}
use Rattle.order.specs.Acting.{finishes, or_raises, enters, again, repeats, all_bound, itself, is_part, arms, goes_on, joins, in_scope, combines, step_in, step_among, step_root, end_of, moved_to, begun_order, its_own, in_place, replaces, performs, Moved, acted, reaches}
use Rattle.order.specs.Judging.{Verdict, clear, clash, conflict, following, upon, judged, spare, settled, step_order}
use Rattle.undoing.proofs.Judged.{is_take, OnClash, Higher, conflict-awaited}
use Rattle.machine.specs.Fit.{Doing, doing_of}
use Rattle.machine.specs.Calls.{doing_in, doing_among, doing_at, order_taking}
use Rattle.undoing.specs.Ties.{is_deed, raised_by, deed_of, deed_in, deed_among, deed_at, clashes}
use Rattle.undoing.proofs.Parts.{decide, only-append}
use Rattle.undoing.proofs.Aside.{Aside, silent-append, silent-after, begin-silent, after-silent, part-silent, where-silent, outcome-either, runs-silent, ends-silent, undoes-silent, turns-on-silent, stop-silent}

-- nothing but a step's own event is a deed
pub deeds-aside : Aside is_deed
unfolding is_deed
deeds-aside = record { begins = λ k. refl; stops = λ k. refl; ends = λ n. refl }

-- no deed in a log
abbrev Still : List Event → Type 0
Still l = only is_deed l ≡ []

-- what a scope does of itself
faults-still : (s : Scope) (number : ℕ) (o : Order) → Still (faults number s o).log
unfolding faults only is_deed
faults-still s number o =
    let o₁ = causing s.name number (marking s.name (mark_with (choice_for number s) faulty) o) in
    let r = stop s.body s.body_at o₁ in
    silent-append is_deed deeds-aside (faulted s.name number ∷ r.log) (turns true s r.order).log
    (stop-silent is_deed deeds-aside s.body s.body_at o₁) (turns-on-silent is_deed deeds-aside true s r.order)

breaks-still : (s : Scope) (number : ℕ) (o : Order) → Still (breaks number s o).log
unfolding breaks only is_deed
breaks-still s number o = refl

-- one of two
either : (b : Bool) (x y z : Outcome) → z ≡ elim b [ true ↦ x | false ↦ y ] → Still x.log → Still y.log → Still z.log
either b x y z e h g = outcome-either is_deed deeds-aside b x y h g z e

looks-still : (s : Scope) (o : Order) → Still (looks_again s o).log
unfolding looks_again
looks-still s o =
    either (eqb (state_of s.name o) faulty) (turns true s o) (elim (eqb (mark_of s.name o) halted) [ true ↦ turns false s o | false ↦ runs o ]) (looks_again s o) refl
    (turns-on-silent is_deed deeds-aside true s o)
    (either (eqb (mark_of s.name o) halted) (turns false s o) (runs o) (elim (eqb (mark_of s.name o) halted) [ true ↦ turns false s o | false ↦ runs o ]) refl
    (turns-on-silent is_deed deeds-aside false s o) (runs-silent is_deed deeds-aside o))

over-still : (s : Scope) (o : Order) → Still (body_over s o).log
unfolding body_over
over-still s o =
    either (eqb (mark_of s.name o) active) (runs (marking s.name done o)) (looks_again s o) (body_over s o) refl
    (runs-silent is_deed deeds-aside (marking s.name done o)) (looks-still s o)

raised-still : (s : Scope) (number : ℕ) (o : Order) → Still (body_raised number s o).log
unfolding body_raised
raised-still s number o = either (is_open (mark_of s.name o)) (faults number s o) (looks_again s o) (body_raised number s o) refl (faults-still s number o) (looks-still s o)

undo-over-still : (s : Scope) (o : Order) → Still (undo_over s o).log
unfolding undo_over
undo-over-still s o =
    either (eqb (state_of s.name o) undoing) (undoes true s o) (elim (eqb (mark_of s.name o) withdrawing) [ true ↦ undoes false s o | false ↦ runs o ]) (undo_over s o) refl
    (undoes-silent is_deed deeds-aside true s o)
    (either (eqb (mark_of s.name o) withdrawing) (undoes false s o) (runs o) (elim (eqb (mark_of s.name o) withdrawing) [ true ↦ undoes false s o | false ↦ runs o ]) refl
    (undoes-silent is_deed deeds-aside false s o) (runs-silent is_deed deeds-aside o))

undo-raised-still : (s : Scope) (number : ℕ) (o : Order) → Still (undo_raised number s o).log
unfolding undo_raised
undo-raised-still s number o =
    either (eqb (state_of s.name o) undoing || eqb (mark_of s.name o) withdrawing) (breaks number s o) (runs o) (undo_raised number s o) refl (breaks-still s number o) (runs-silent is_deed deeds-aside o)

-- what it makes of a step in it
pub body-deeds : (s : Scope) (r : Outcome) → only is_deed (from_body s r).log ≡ only is_deed r.log
unfolding from_body
body-deeds s r = go r.result
  where
    go : (x : Result) → only is_deed (from_body s (record { result = x; order = r.order; log = r.log })).log ≡ only is_deed r.log
    go running = silent-after is_deed deeds-aside r.log (looks_again s r.order).log (looks-still s r.order)
    go over = silent-after is_deed deeds-aside r.log (body_over s r.order).log (over-still s r.order)
    go (raising x) = silent-after is_deed deeds-aside r.log (body_raised x s r.order).log (raised-still s x r.order)
    go leaving = refl
    go undone = silent-after is_deed deeds-aside r.log (undo_over s r.order).log (undo-over-still s r.order)
    go (undo_raising x) = silent-after is_deed deeds-aside r.log (undo_raised x s r.order).log (undo-raised-still s x r.order)

part-over-still : (s : Scope) (o : Order) → Still (part_over s o).log
unfolding part_over
part-over-still s o = either (eqb (state_of s.name o) handling) (ends s o) (runs o) (part_over s o) refl (ends-silent is_deed deeds-aside s o) (runs-silent is_deed deeds-aside o)

part-raised-still : (s : Scope) (number : ℕ) (o : Order) → Still (part_raised number s o).log
unfolding part_raised
part-raised-still s number o = either (eqb (state_of s.name o) handling) (breaks number s o) (runs o) (part_raised number s o) refl (breaks-still s number o) (runs-silent is_deed deeds-aside o)

pub fault-deeds : (s : Scope) (r : Outcome) → only is_deed (from_fault s r).log ≡ only is_deed r.log
unfolding from_fault
fault-deeds s r = go r.result
  where
    go : (x : Result) → only is_deed (from_fault s (record { result = x; order = r.order; log = r.log })).log ≡ only is_deed r.log
    go running = refl
    go over = silent-after is_deed deeds-aside r.log (part_over s r.order).log (part-over-still s r.order)
    go (raising x) = silent-after is_deed deeds-aside r.log (part_raised x s r.order).log (part-raised-still s x r.order)
    go leaving = refl
    go undone = refl
    go (undo_raising x) = refl

-- what follows a step where that is over
where-deeds : (g : Order → Outcome) (r : Outcome) → ((o : Order) → Still (g o).log) → only is_deed (where_over g r).log ≡ only is_deed r.log
where-deeds g r e = go r.result
  where
    go : (x : Result) → only is_deed (where_over g (record { result = x; order = r.order; log = r.log })).log ≡ only is_deed r.log
    go running = refl
    go over = silent-after is_deed deeds-aside r.log (g r.order).log (e r.order)
    go (raising x) = refl
    go leaving = refl
    go undone = refl
    go (undo_raising x) = refl

goes-deeds : (k m : ℕ) (g : Order → Outcome) (r : Outcome) → ((o : Order) → Still (g o).log) → only is_deed (goes_on k m g r).log ≡ only is_deed r.log
unfolding goes_on
goes-deeds k m g r e =
    where-deeds (λ o. elim (eqb (mark_at k o) m) [ true ↦ g o | false ↦ runs o ]) r
    (λ o. either (eqb (mark_at k o) m) (g o) (runs o) (elim (eqb (mark_at k o) m) [ true ↦ g o | false ↦ runs o ]) refl (e o) (runs-silent is_deed deeds-aside o))

finishes-still : (k : ℕ) (o : Order) → Still (finishes k o).log
unfolding only
finishes-still k o = refl

joins-still : (k : ℕ) (within : Acts) (o : Order) → Still (joins k within o).log
unfolding joins
joins-still k within o =
    either (quiet (k + 1) (sizes within) o.marks) (finishes k o) (runs o) (joins k within o) refl (finishes-still k o) (runs-silent is_deed deeds-aside o)

scope-deeds : (ns : List ℕ) (v : Bool) (k t : ℕ) (within : Acts) (r : Outcome) → only is_deed (in_scope ns v k t within r).log ≡ only is_deed r.log
unfolding in_scope from_undo
scope-deeds ns v k t within r =
    decide (ltb t (part_at 1 within (k + 1)))
    (λ e. decide (goes_through v k r) (λ g. rw (e, in_scope, g)) (λ g. rw (e, in_scope, g) (body-deeds (scope_at ns k within) r)))
    (λ e. decide (ltb t (part_at (undo_part ns) within (k + 1))) (λ d. rw (e, d, in_scope) (fault-deeds (scope_at ns k within) r)) (λ d. rw (e, d, in_scope) refl))

combines-deeds : (own : Own) (within : Acts) (k t : ℕ) (r : Outcome) → only is_deed (combines own within k t r).log ≡ only is_deed r.log
unfolding combines only
combines-deeds empty within k t r = refl
combines-deeds (send p op vs) within k t r = refl
combines-deeds (receive p op vs) within k t r = refl
combines-deeds (setting v e) within k t r = refl
combines-deeds (raise zero) within k t r = refl
combines-deeds (raise (suc number)) within k t r = refl
combines-deeds leave within k t r = refl
combines-deeds (choose e) within k t r = goes-deeds k inside (finishes k) r (finishes-still k)
combines-deeds (repeat e) within k t r = goes-deeds k inside (again k) r (λ o. refl)
combines-deeds sequence within k t r =
    goes-deeds k active (λ o. where_over (finishes k) (begun_in o (begin_after within (k + 1) t o.marks))) r
    (λ o. where-silent is_deed deeds-aside (finishes k) (begun_in o (begin_after within (k + 1) t o.marks)) (after-silent is_deed deeds-aside within (k + 1) t o.marks) (finishes-still k))
combines-deeds flow within k t r = goes-deeds k active (joins k within) r (joins-still k within)
combines-deeds pick within k t r = goes-deeds k inside (finishes k) r (finishes-still k)
combines-deeds (scope ns v) within k t r = scope-deeds ns v k t within r
combines-deeds (arm p op vs) within k t r = refl

-- The step of an activity.
enters-still : (k : ℕ) (o : Order) (b : Begun) → Still b.log → Still (enters k o b).log
enters-still k o b h = where-silent is_deed deeds-aside (finishes k) (begun_in (marked k inside o) b) h (finishes-still k)

repeats-still : (k : ℕ) (within : Acts) (o : Order) → Still (repeats k within o).log
unfolding repeats only
repeats-still k within o =
    let o₁ = marked k inside (with_marks (cleared (k + 1) (sizes within) o.marks) o) in
    where-silent is_deed deeds-aside (again k) (begun_in o₁ (begin_part 0 within (k + 1) o₁.marks)) (part-silent is_deed deeds-aside 0 within (k + 1) o₁.marks) (λ o₂. refl)

-- an expression that faults, or the step itself
or-raises : (k : ℕ) (o : Order) (g : ℕ → Outcome) (v : Value) → ((n : ℕ) → Still (g n).log)
    → only is_deed (or_raises k o g v).log ≡ raised_by k v
unfolding only is_deed
or-raises k o g (fault x) h = refl
or-raises k o g (value n) h = h n

itself-deeds : (own : Own) (within : Acts) (q k : ℕ) (o : Order) → only is_deed (itself own within q k o).log ≡ deed_of own k o
unfolding itself closing deed_of only is_deed
itself-deeds empty within q k o = refl
itself-deeds (send p op vs) within q k o = decide (all_bound o (held_by p ++ vs)) (λ e. decide (reaches o p) (λ f. rw (e, f)) (λ f. rw (e, f))) (λ e. rw e)
itself-deeds (receive p op vs) within q k o = refl
itself-deeds (setting v e) within q k o = or-raises k o (λ n. finishes k (binding v n o)) (evaluate e o) (λ n. refl)
itself-deeds (raise zero) within q k o = refl
itself-deeds (raise (suc number)) within q k o = refl
itself-deeds leave within q k o = refl
itself-deeds (choose e) within q k o =
    or-raises k o (λ n. enters k o (begin_part (cond (is_true n) 0 1) within (k + 1) (marked k inside o).marks)) (evaluate e o)
    (λ n. enters-still k o (begin_part (cond (is_true n) 0 1) within (k + 1) (marked k inside o).marks) (part-silent is_deed deeds-aside (cond (is_true n) 0 1) within (k + 1) (marked k inside o).marks))
itself-deeds (repeat e) within q k o =
    or-raises k o (λ n. elim (is_true n) [ true ↦ repeats k within o | false ↦ finishes k o ]) (evaluate e o)
    (λ n. either (is_true n) (repeats k within o) (finishes k o) (elim (is_true n) [ true ↦ repeats k within o | false ↦ finishes k o ]) refl (repeats-still k within o) (finishes-still k o))
itself-deeds sequence within q k o = refl
itself-deeds flow within q k o = refl
itself-deeds pick within q k o = refl
itself-deeds (scope ns u) within q k o = refl
itself-deeds (arm p op vs) within q k o = part-silent is_deed deeds-aside 0 within (k + 1) o.marks

-- Marks say nothing of a deed.
evaluate-marked : (e : Exp) (k m : ℕ) (o : Order) → evaluate e (marked k m o) ≡ evaluate e o
unfolding evaluate
evaluate-marked (constant n) k m o = refl
evaluate-marked (variable v) k m o = refl
evaluate-marked (binary op l r) k m o = rw (evaluate-marked l k m o, evaluate-marked r k m o)

deed-marked : (own : Own) (j k m : ℕ) (o : Order) → deed_of own j (marked k m o) ≡ deed_of own j o
unfolding deed_of
deed-marked empty j k m o = refl
deed-marked (send (to_partner p) op vs) j k m o = refl
deed-marked (send (to_held held reply) op vs) j k m o = refl
deed-marked (receive p op vs) j k m o = refl
deed-marked (setting v e) j k m o = rw (evaluate-marked e k m o)
deed-marked (raise zero) j k m o = refl
deed-marked (raise (suc number)) j k m o = refl
deed-marked leave j k m o = refl
deed-marked (choose e) j k m o = rw (evaluate-marked e k m o)
deed-marked (repeat e) j k m o = rw (evaluate-marked e k m o)
deed-marked sequence j k m o = refl
deed-marked flow j k m o = refl
deed-marked pick j k m o = refl
deed-marked (scope ns v) j k m o = refl
deed-marked (arm p op vs) j k m o = refl

-- the same choice of two that are the same
alike-either : (b : Bool) (x y x' y' : List Event) → x ≡ x' → y ≡ y' → (z z' : List Event) → z ≡ elim b [ true ↦ x | false ↦ y ]
    → z' ≡ elim b [ true ↦ x' | false ↦ y' ] → z ≡ z'
alike-either true x y x' y' e d z z' h g = h ∙ (e ∙ sym g)
alike-either false x y x' y' e d z z' h g = h ∙ (d ∙ sym g)

mutual
  unfolding deed_in

  deeds-marked : (a : Act) (j t k m : ℕ) (o : Order) → deed_in a j t (marked k m o) ≡ deed_in a j t o
  deeds-marked (act own within) j t k m o =
      alike-either (eqb j t) _ _ _ _ (deed-marked own j k m o) (deeds-among-marked within (j + 1) t k m o) _ _ refl refl

  deeds-among-marked : (l : Acts) (c t k m : ℕ) (o : Order) → deed_among l c t (marked k m o) ≡ deed_among l c t o
  deeds-among-marked none c t k m o = refl
  deeds-among-marked (more a l) c t k m o =
      alike-either (ltb t (c + size a)) _ _ _ _ (deeds-marked a c t k m o) (deeds-among-marked l (c + size a) t k m o) _ _ refl refl

arms-marked : (own : Own) (within : Acts) (k t : ℕ) (o : Order) → deed_among within (k + 1) t (arms own within k t o) ≡ deed_among within (k + 1) t o
unfolding arms
arms-marked own within k t o =
    decide (is_pick own && is_part within (k + 1) t) (λ e. rw e (deeds-among-marked within (k + 1) t k inside o)) (λ e. rw e)

-- the logs of the same choice
log-either : (b : Bool) (x y : Outcome) (x' y' : List Event) → only is_deed x.log ≡ x' → only is_deed y.log ≡ y' → (z : Outcome) (z' : List Event)
    → z ≡ elim b [ true ↦ x | false ↦ y ] → z' ≡ elim b [ true ↦ x' | false ↦ y' ] → only is_deed z.log ≡ z'
log-either true x y x' y' e d z z' h g = ap (λ (r : Outcome). only is_deed r.log) h ∙ (e ∙ sym g)
log-either false x y x' y' e d z z' h g = ap (λ (r : Outcome). only is_deed r.log) h ∙ (d ∙ sym g)

-- the raises of an order that is judged are told by the order and its end
clashes-of : (n : ℕ) (p : Plan) (m m' : Moved) → m.end ≡ m'.end → m.order ≡ m'.order → clashes n p m ≡ clashes n p m'
unfolding clashes
clashes-of zero p m m' e d = refl
clashes-of (suc n) p m m' e d = ap (λ (x : End). found x m.order) e ∙ ap (λ (o : Order). found m'.end o) d
  where
    found : End → Order → List Event
    found x o =
        elim x [
          | None ↦ elim (conflict p o) [ clear ↦ [] | clash k ↦ raised k conflicting_receive ∷ clashes n p (acted in_place p k o) ]
          | Well ↦ []
          | Handled ↦ []
          | Failed ↦ []
          | Left ↦ []
        ]

mutual
  unfolding step_in deed_in only performs replaces

  -- a step in a tree logs its deed
  pub step-deeds : (a : Act) (q k t : ℕ) (o : Order) → only is_deed (step_in its_own a q k t o).log ≡ deed_in a k t o
  step-deeds (act own within) q k t o =
      log-either (eqb k t) (itself own within q k o) (combines own within k t (step_among its_own within (is_scope own) q (k + 1) t (arms own within k t o)))
      (deed_of own k o) (deed_among within (k + 1) t o) (itself-deeds own within q k o)
      (combines-deeds own within k t (step_among its_own within (is_scope own) q (k + 1) t (arms own within k t o)) ∙ (among-deeds within (is_scope own) q (k + 1) t (arms own within k t o) ∙ arms-marked own within k t o))
      (step_in its_own (act own within) q k t o) (deed_in (act own within) k t o) refl refl

  -- in a list
  among-deeds : (l : Acts) (b : Bool) (q c t : ℕ) (o : Order) → only is_deed (step_among its_own l b q c t o).log ≡ deed_among l c t o
  among-deeds none b q c t o = refl
  among-deeds (more a l) b q c t o =
      log-either (ltb t (c + size a)) (step_in its_own a (cond b c q) c t o) (step_among its_own l b q (c + size a) t o) (deed_in a c t o) (deed_among l (c + size a) t o)
      (step-deeds a (cond b c q) c t o) (among-deeds l b q (c + size a) t o) (step_among its_own (more a l) b q c t o) (deed_among (more a l) c t o) refl refl

-- from the root
root-deeds : (p : Plan) (t : ℕ) (o : Order) → only is_deed (step_root its_own p t o).log ≡ deed_at p t o
unfolding step_root deed_at
root-deeds p t o =
    log-either (ltb t (size p.body)) (from_body (root_of p) (step_in its_own p.body 0 0 t o)) (from_fault (root_of p) (step_in its_own p.fault (size p.body) (size p.body) t o))
    (deed_in p.body 0 t o) (deed_in p.fault (size p.body) t o)
    (body-deeds (root_of p) (step_in its_own p.body 0 0 t o) ∙ step-deeds p.body 0 0 t o)
    (fault-deeds (root_of p) (step_in its_own p.fault (size p.body) (size p.body) t o) ∙ step-deeds p.fault (size p.body) (size p.body) t o) (step_root its_own p t o) (deed_at p t o) refl refl

moved-deeds : (r : Outcome) (e : End) → only is_deed (moved_to r e).log ≡ only is_deed r.log
unfolding moved_to only is_deed
moved-deeds r None = refl
moved-deeds r Well = silent-after is_deed deeds-aside r.log (ended root ∷ []) refl
moved-deeds r Handled = refl
moved-deeds r Failed = refl
moved-deeds r Left = refl

-- The raise in place of a receive or an arm is its deed.
raise-deed : (own : Own) (within : Acts) (q k : ℕ) (o : Order) → is_take (doing_of own within k) ≡ true → only is_deed (performs in_place own within q k o).log ≡ raised k conflicting_receive ∷ []
unfolding is_take doing_of performs replaces kind only is_deed
raise-deed empty within q k o h = absurd (false≢true h)
raise-deed (send x y vs) within q k o h = absurd (false≢true h)
raise-deed (receive (from_partner x) y vs) within q k o h = refl
raise-deed (receive (from_asking x kept) y vs) within q k o h = refl
raise-deed (setting v x) within q k o h = absurd (false≢true h)
raise-deed (raise zero) within q k o h = absurd (false≢true h)
raise-deed (raise (suc number)) within q k o h = absurd (false≢true h)
raise-deed leave within q k o h = absurd (false≢true h)
raise-deed (choose x) within q k o h = absurd (false≢true h)
raise-deed (repeat x) within q k o h = absurd (false≢true h)
raise-deed sequence within q k o h = absurd (false≢true h)
raise-deed flow within q k o h = absurd (false≢true h)
raise-deed pick within q k o h = absurd (false≢true h)
raise-deed (scope ns v) within q k o h = absurd (false≢true h)
raise-deed (arm x y vs) within q k o h = refl

-- by the same choice of what is done and what is logged
raise-either : (b : Bool) (d d' : Doing) (x y : Outcome) (g : List Event) → (b ≡ true → is_take d ≡ true → only is_deed x.log ≡ g)
    → (b ≡ false → is_take d' ≡ true → only is_deed y.log ≡ g)
    → is_take (elim b [ true ↦ d | false ↦ d' ]) ≡ true → only is_deed (elim b as (λ _. Outcome) [ true ↦ x | false ↦ y ]).log ≡ g
raise-either true d d' x y g e f h = e refl h
raise-either false d d' x y g e f h = f refl h

mutual
  unfolding step_in doing_in only is_take

  pub raise-deeds : (a : Act) (q k t : ℕ) (o : Order) → is_take (doing_in a k t) ≡ true → only is_deed (step_in in_place a q k t o).log ≡ raised t conflicting_receive ∷ []
  raise-deeds (act own within) q k t o =
      raise-either (eqb k t) (doing_of own within k) (doing_among within (k + 1) t) (performs in_place own within q k o)
      (combines own within k t (step_among in_place within (is_scope own) q (k + 1) t (arms own within k t o))) (raised t conflicting_receive ∷ [])
      (λ e h. raise-deed own within q k o h ∙ ap (λ (j : ℕ). raised j conflicting_receive ∷ []) (eqb-true k t e))
      (λ e h. combines-deeds own within k t (step_among in_place within (is_scope own) q (k + 1) t (arms own within k t o)) ∙ raises-among within (is_scope own) q (k + 1) t (arms own within k t o) h)

  raises-among : (l : Acts) (b : Bool) (q c t : ℕ) (o : Order) → is_take (doing_among l c t) ≡ true → only is_deed (step_among in_place l b q c t o).log ≡ raised t conflicting_receive ∷ []
  raises-among none b q c t o h = absurd (false≢true h)
  raises-among (more a l) b q c t o h =
      raise-either (ltb t (c + size a)) (doing_in a c t) (doing_among l (c + size a) t) (step_in in_place a (cond b c q) c t o) (step_among in_place l b q (c + size a) t o) (raised t conflicting_receive ∷ [])
      (λ e g. raise-deeds a (cond b c q) c t o g) (λ e g. raises-among l b q (c + size a) t o g) h

raise-root : (p : Plan) (t : ℕ) (o : Order) → is_take (doing_at p t) ≡ true → only is_deed (step_root in_place p t o).log ≡ raised t conflicting_receive ∷ []
unfolding step_root doing_at
raise-root p t o =
    raise-either (ltb t (size p.body)) (doing_in p.body 0 t) (doing_in p.fault (size p.body) t)
    (from_body (root_of p) (step_in in_place p.body 0 0 t o)) (from_fault (root_of p) (step_in in_place p.fault (size p.body) (size p.body) t o)) (raised t conflicting_receive ∷ [])
    (λ e h. body-deeds (root_of p) (step_in in_place p.body 0 0 t o) ∙ raise-deeds p.body 0 0 t o h)
    (λ e h. fault-deeds (root_of p) (step_in in_place p.fault (size p.body) (size p.body) t o) ∙ raise-deeds p.fault (size p.body) (size p.body) t o h)

pub raised-deeds : (p : Plan) (t : ℕ) (o : Order) → is_take (doing_at p t) ≡ true → only is_deed (acted in_place p t o).log ≡ raised t conflicting_receive ∷ []
unfolding acted
raised-deeds p t o h = moved-deeds (step_root in_place p t o) (end_of (step_root in_place p t o)) ∙ raise-root p t o h

-- A step's own deed.
pub acted-deeds : (p : Plan) (t : ℕ) (o : Order) → only is_deed (acted its_own p t o).log ≡ deed_at p t o
unfolding acted
acted-deeds p t o = moved-deeds (step_root its_own p t o) (end_of (step_root its_own p t o)) ∙ root-deeds p t o

-- What is judged logs a raise for each conflict.
judged-deeds : (n : ℕ) (p : Plan) (m : Moved) → only is_deed (judged n p m).log ≡ only is_deed m.log ++ clashes n p m
unfolding judged clashes
judged-deeds zero p m = sym (append-nil (only is_deed m.log))
judged-deeds (suc n) p m = go (λ m'. judged-deeds n p m') m.end
  where
    on : ((m' : Moved) → only is_deed (judged n p m').log ≡ only is_deed m'.log ++ clashes n p m') → (v : Verdict) → OnClash (Higher p m.order) v
        → only is_deed (upon (judged n p) p m v).log ≡ only is_deed m.log ++ (elim v [ clear ↦ [] | clash k ↦ raised k conflicting_receive ∷ clashes n p (acted in_place p k m.order) ])
    on f clear c = sym (append-nil (only is_deed m.log))
    on f (clash k) c =
        f (following m.log (acted in_place p k m.order))
        ∙ (ap (λ (l : List Event). l ++ clashes n p (following m.log (acted in_place p k m.order))) (only-append is_deed m.log (acted in_place p k m.order).log)
        ∙ (ap (λ (l : List Event). (only is_deed m.log ++ l) ++ clashes n p (following m.log (acted in_place p k m.order))) (raised-deeds p k m.order c.1)
        ∙ (append_assoc (only is_deed m.log) (raised k conflicting_receive ∷ []) (clashes n p (following m.log (acted in_place p k m.order)))
        ∙ ap (λ (l : List Event). only is_deed m.log ++ (raised k conflicting_receive ∷ l)) (clashes-of n p (following m.log (acted in_place p k m.order)) (acted in_place p k m.order) refl refl))))

    go : ((m' : Moved) → only is_deed (judged n p m').log ≡ only is_deed m'.log ++ clashes n p m') → (e : End)
        → only is_deed (elim e as (λ _. Moved) [ None ↦ upon (judged n p) p m (conflict p m.order) | Well ↦ m | Handled ↦ m | Failed ↦ m | Left ↦ m ]).log
        ≡ only is_deed m.log
        ++ (elim e as (λ _. List Event) [
          | None ↦ elim (conflict p m.order) as (λ _. List Event) [ clear ↦ [] | clash k ↦ raised k conflicting_receive ∷ clashes n p (acted in_place p k m.order) ]
          | Well ↦ []
          | Handled ↦ []
          | Failed ↦ []
          | Left ↦ []
        ])
    go f None = on f (conflict p m.order) (conflict-awaited p m.order)
    go f Well = sym (append-nil (only is_deed m.log))
    go f Handled = sym (append-nil (only is_deed m.log))
    go f Failed = sym (append-nil (only is_deed m.log))
    go f Left = sym (append-nil (only is_deed m.log))

-- A step of an order logs its deed, and then a raise for each conflict.
pub order-deeds : (p : Plan) (t : ℕ) (o : Order) → only is_deed (step_order p t o).log ≡ deed_at p t o ++ clashes (spare p (acted its_own p t o).order) p (acted its_own p t o)
unfolding step_order settled
order-deeds p t o =
    judged-deeds (spare p (acted its_own p t o).order) p (acted its_own p t o) ∙ ap (λ (l : List Event). l ++ clashes (spare p (acted its_own p t o).order) p (acted its_own p t o)) (acted-deeds p t o)

-- what an order that starts logs before its step
pub start-deed : (p : Plan) → only is_deed (started ∷ (begun_order p).log) ≡ started ∷ []
unfolding begun_order only is_deed no_order
start-deed p = ap (λ (l : List Event). started ∷ l) (begin-silent is_deed deeds-aside p.body 0 no_order.marks)

-- Taking a message says nothing of a deed: what takes one has none.
deed-taking : (own : Own) (within : Acts) (k : ℕ) (m : Message) (o : Order) → deed_of own k (order_taking (doing_of own within k) m o) ≡ deed_of own k o
unfolding deed_of order_taking doing_of
deed-taking empty within k m o = refl
deed-taking (send p op vs) within k m o = refl
deed-taking (receive p op vs) within k m o = refl
deed-taking (setting v e) within k m o = refl
deed-taking (raise zero) within k m o = refl
deed-taking (raise (suc number)) within k m o = refl
deed-taking leave within k m o = refl
deed-taking (choose e) within k m o = refl
deed-taking (repeat e) within k m o = refl
deed-taking sequence within k m o = refl
deed-taking flow within k m o = refl
deed-taking pick within k m o = refl
deed-taking (scope ns v) within k m o = refl
deed-taking (arm p op vs) within k m o = refl

-- by the same choice of what is done and what is logged
pub taking-either : {A : Type 0} (b : Bool) (d d' : Doing) (g g' : Order → A) (m : Message) (o : Order) → g (order_taking d m o) ≡ g o → g' (order_taking d' m o) ≡ g' o
    → (z : Doing) (h : Order → A) → z ≡ elim b [ true ↦ d | false ↦ d' ] → ((o : Order) → h o ≡ elim b [ true ↦ g o | false ↦ g' o ]) → h (order_taking z m o) ≡ h o
taking-either true d d' g g' m o x y z h e f = ap (λ (v : Doing). h (order_taking v m o)) e ∙ (f (order_taking d m o) ∙ (x ∙ sym (f o)))
taking-either false d d' g g' m o x y z h e f = ap (λ (v : Doing). h (order_taking v m o)) e ∙ (f (order_taking d' m o) ∙ (y ∙ sym (f o)))

mutual
  unfolding deed_in doing_in

  deeds-taking : (a : Act) (k t : ℕ) (m : Message) (o : Order) → deed_in a k t (order_taking (doing_in a k t) m o) ≡ deed_in a k t o
  deeds-taking (act own within) k t m o =
      taking-either (eqb k t) (doing_of own within k) (doing_among within (k + 1) t) (deed_of own k) (deed_among within (k + 1) t) m o
      (deed-taking own within k m o) (deeds-among-taking within (k + 1) t m o) (doing_in (act own within) k t) (deed_in (act own within) k t) refl (λ o₁. refl)

  deeds-among-taking : (l : Acts) (c t : ℕ) (m : Message) (o : Order) → deed_among l c t (order_taking (doing_among l c t) m o) ≡ deed_among l c t o
  deeds-among-taking none c t m o = refl
  deeds-among-taking (more a l) c t m o =
      taking-either (ltb t (c + size a)) (doing_in a c t) (doing_among l (c + size a) t) (deed_in a c t) (deed_among l (c + size a) t) m o
      (deeds-taking a c t m o) (deeds-among-taking l (c + size a) t m o) (doing_among (more a l) c t) (deed_among (more a l) c t) refl (λ o₁. refl)

-- in a plan
pub plan-taking : (p : Plan) (t : ℕ) (m : Message) (o : Order) → deed_at p t (order_taking (doing_at p t) m o) ≡ deed_at p t o
unfolding deed_at doing_at
plan-taking p t m o =
    taking-either (ltb t (size p.body)) (doing_in p.body 0 t) (doing_in p.fault (size p.body) t) (deed_in p.body 0 t) (deed_in p.fault (size p.body) t) m o
    (deeds-taking p.body 0 t m o) (deeds-taking p.fault (size p.body) t m o) (doing_at p t) (deed_at p t) refl (λ o₁. refl)
