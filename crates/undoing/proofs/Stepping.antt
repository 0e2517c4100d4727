-- A step in a tree, from the activity that acts up: how the tree stands after it, and that all it logs is right. Assumes nothing.
use Prim.Native.Nat.{ℕ, zero, suc, ◌+◌, ◌≤◌, ◌<◌}
use native.Mathlib.Omega.{arith}
use mathlib.Core.Path.{◌≡◌, refl, sym, ap, subst, ◌∙◌}
use mathlib.Core.Bool.{Bool, true, false, ◌||◌, false≢true, or-true, cond, not, and-false}
use mathlib.Core.List.{List, [], ◌∷◌, ◌++◌, reverse, reverse-append, append-nil, map}
use lib.ListN.{length, get_or, length-set}
use lib.Seq.{get_or-set_same, get_or-set_other}
use lib.Dec.{eqb, ltb}
use borrow.Author.Tests.{eqb-true, eqb-false, eq-eqb, ne_eqb, ltb-true, ltb-false, lt-ltb, le-ltb, le-leb}
use Rattle.plan.specs.Tree.{Own, empty, send, receive, set as setting, raise, leave, choose, repeat, sequence, flow, pick, scope, arm, kind, is_arm, is_pick, is_scope, general_part, undo_part, Act, act, Acts, none, more, Plan, size, sizes, count}
use Rattle.order.specs.declared.Closing.{Closing}
use Rattle.order.specs.declared.Order.{Order}
use Rattle.order.specs.declared.End.TheVariants.{None, Left}
use Rattle.order.specs.Lists.{only}
use Rattle.order.specs.State.{Name, root, inner, same, idle, active, inside, done, closings, choice_in, remembering, marked, mark_of, closing_of}
use Rattle.order.specs.Expression.{conflicting_receive}
use Rattle.order.specs.Event.{Event, raised}
use Rattle.order.specs.Begin.{part, part_at, begin_part}
use Rattle.order.specs.declared.Way.{Way as Result}
use Rattle.order.specs.declared.Way.TheVariants.{Running as running, Over as over, Raising as raising, Leaving as leaving, Undone as undone, UndoRaising as undo_raising}
use Rattle.order.specs.Scope.{Outcome, runs, begun_in, Scope, scope_at, forgetting, closing, inner_runs, inner_runs_in, from_body, from_fault, from_undo, adds, goes_through, remembered_for}
use Rattle.order.specs.Scope.{list_of as closings_for}
use Rattle.order.specs.Acting.{raises, itself, Actor, its_own, in_place, replaces, performs, in_scope, combines, arms, is_part, step_in, step_among}
use Rattle.machine.specs.Fit.{awaits}
use Rattle.undoing.specs.Ties.{is_name, Place, body_of, undo_of, name_of, fault_of, beyond_of, last_of, body_of_name}
use Rattle.undoing.specs.Standing.{choice_on}
use Rattle.undoing.proofs.Parts.{both, decide, only-append, same-swap, map-append}
use Rattle.undoing.proofs.Choices.{general-is}
use Rattle.undoing.proofs.Accounts.{Phase, live, heals, phase, Known}
use Rattle.undoing.proofs.Moves.{Spot, unchanged, move-close, RunIn, runner_at, Before}
use Rattle.undoing.proofs.Marks.{run-loud, trio, spread, Agree, Quiet, Kept, holding, Nth, Run, run-awaits, run-one, run-all, run-body, run-done, run-turned, One, one-here, one_later, All, all-run, all_quiet, Turned, turned-waits, turned-undoes, turned-heals, turned-not-open, Stopped, stopped-part, stopped-quiet, stopped-scope, StoppedIn, stopped_more, Undoing, undoing-part, undoing-scope, UndoingIn, undoing-here, undoing-later, able-quiet, able-run, StoppableIn, able-more, quiet-part, quiet-agree, quiet-join, agree-below, agree-above, kept-wider, kept_set, run_agree, all-agree, stopped-agree, stopped-in-agree, quiet-stoppable, all-stoppable, undoing-through, turned-not-rest, stopped_none}
use Rattle.undoing.proofs.Orders.{list_of, moment_of, Does, does-one, plain-marked, Fit, fit-marked, bare, bare_in, inner_at, least, Sits, sits-part, sits-scope, SitsIn, sits-more, Remedy, remedy, remedy-names, remedy-bare, runner-kept, Healers, heals-by, heals-all, Rest, rest-undo, rest-none, sits-none}
use Rattle.undoing.proofs.Remedies.{part-from, part-to, part-order, undo-from, nth-there, nth-run, nth-goes, nth-ends, nth-below, nth-above, undoer, chosen-most, choice-on}
use Rattle.undoing.proofs.Beginning.{Begins, quiet-set, quiet-cons}
use Rattle.undoing.proofs.Seats.{Seat, remembering-closings, inside-rest, quiet-inner, quiet-inner-in, inner-is, is_for_name, bodies-apart, remembered-list, mark-kept}
use Rattle.undoing.proofs.Turning.{Apart}
use Rattle.undoing.proofs.Stopping.{seat-of}
use Rattle.undoing.proofs.Waiting.{opens, Waits, waits-itself, waits-within, WaitsIn, waits-first, waits-later, idle-awaits, opens-idle, quiet-waits, quiet-waits-in, nth-waits, stopped-waits, undoing-waits}
use Rattle.undoing.proofs.Breaking.{forgotten-list, forgotten-other}
use Rattle.undoing.proofs.Scoping.{Acted, RunAs, StopAs, ScopesRest, UndoAs, scope_live, scope-done, scope-turned, Turning, Running, StepsAs, Steps, Reach, from-live, from-stopped, from-undoing, from-heals, looks-is}
use Rattle.undoing.proofs.Goings.{begins-at, acts-raises, acts-itself, acts-runs}
use Rattle.undoing.proofs.Combining.{OneAs, AllAs, run-before, combines-one, combines-all, arms-holding, arms-held, arms_none, Idly, idly-same, idly-runs, combines-idly}

-- the definitions, by where the step is: in an activity other than a scope
pub step_is : (actor : Actor) (own : Own) (within : Acts) (y₀ k t : ℕ) (o : Order) (b : Bool) → is_scope own ≡ false → eqb k t ≡ b
    → step_in actor (act own within) y₀ k t o ≡ elim b [ true ↦ performs actor own within y₀ k o | false ↦ combines own within k t (step_among actor within false y₀ (k + 1) t (arms own within k t o)) ]
unfolding step_in
step_is actor own within y₀ k t o b s e =
    subst (λ (z : Bool). step_in actor (act own within) y₀ k t o ≡ elim z [ true ↦ performs actor own within y₀ k o | false ↦ combines own within k t (step_among actor within false y₀ (k + 1) t (arms own within k t o)) ]) e
    (ap (λ (z : Bool). elim (eqb k t) [ true ↦ performs actor own within y₀ k o | false ↦ combines own within k t (step_among actor within z y₀ (k + 1) t (arms own within k t o)) ]) s)

-- a scope closes in its step: no raise stands in its place
pub scope-performs : (actor : Actor) (xs : List ℕ) (v : Bool) (within : Acts) (y₀ k : ℕ) (o : Order) → performs actor (scope xs v) within y₀ k o ≡ closing v y₀ k (scope_at xs k within) o
unfolding performs replaces itself kind
scope-performs its_own xs v within y₀ k o = refl
scope-performs in_place [] true within y₀ k o = refl
scope-performs in_place [] false within y₀ k o = refl
scope-performs in_place (x ∷ xs) v within y₀ k o = refl

-- in a scope
pub scope-is : (actor : Actor) (xs : List ℕ) (v : Bool) (within : Acts) (y₀ k t : ℕ) (o : Order) (b : Bool) → eqb k t ≡ b
    → step_in actor (act (scope xs v) within) y₀ k t o ≡ elim b [ true ↦ closing v y₀ k (scope_at xs k within) o | false ↦ in_scope xs v k t within (step_among actor within true y₀ (k + 1) t o) ]
unfolding step_in combines arms
scope-is actor xs v within y₀ k t o b e =
    subst (λ (z : Bool). step_in actor (act (scope xs v) within) y₀ k t o ≡ elim z [ true ↦ closing v y₀ k (scope_at xs k within) o | false ↦ in_scope xs v k t within (step_among actor within true y₀ (k + 1) t o) ]) e
    (ap (λ (r : Outcome). elim (eqb k t) [ true ↦ r | false ↦ in_scope xs v k t within (step_among actor within true y₀ (k + 1) t o) ]) (scope-performs actor xs v within y₀ k o))

-- in a list
pub among-is : (actor : Actor) (a : Act) (l : Acts) (y₀ c t : ℕ) (o : Order) (b : Bool) → ltb t (c + size a) ≡ b
    → step_among actor (more a l) false y₀ c t o ≡ elim b [ true ↦ step_in actor a y₀ c t o | false ↦ step_among actor l false y₀ (c + size a) t o ]
unfolding step_in
among-is actor a l y₀ c t o b e = subst (λ (z : Bool). step_among actor (more a l) false y₀ c t o ≡ elim z [ true ↦ step_in actor a y₀ c t o | false ↦ step_among actor l false y₀ (c + size a) t o ]) e refl

-- in the parts of a scope
pub parts_is : (actor : Actor) (a : Act) (l : Acts) (y₀ c t : ℕ) (o : Order) (b : Bool) → ltb t (c + size a) ≡ b
    → step_among actor (more a l) true y₀ c t o ≡ elim b [ true ↦ step_in actor a c c t o | false ↦ step_among actor l true y₀ (c + size a) t o ]
unfolding step_in
parts_is actor a l y₀ c t o b e = subst (λ (z : Bool). step_among actor (more a l) true y₀ c t o ≡ elim z [ true ↦ step_in actor a c c t o | false ↦ step_among actor l true y₀ (c + size a) t o ]) e refl

-- The part of a place, by the number of its first activity, where that matters: a body's.
abbrev pub PartOf : Place → ℕ → Type 0
PartOf (body_of n ns c) y₀ = y₀ ≡ body_of_name n
PartOf (fault_of n ns c) y₀ = Unit {0}
PartOf (undo_of n ns c) y₀ = Unit {0}

-- an arm of an activity that has arms is taken
taken-arms : (own : Own) (within : Acts) (k t : ℕ) (o : Order) → is_pick own ≡ true → is_part within (k + 1) t ≡ true
    → arms own within k t o ≡ marked k inside o
unfolding arms
taken-arms own within k t o x y = rw (x, y)

-- the first of some has the first number
pub at_first : (u : Acts) (c : ℕ) → part_at 0 u c ≡ c
unfolding part_at
at_first none c = refl
at_first (more a l) c = refl

-- an outcome of an undo part
abbrev is_undone : Result → Bool
is_undone running = false
is_undone over = false
is_undone (raising x) = false
is_undone leaving = false
is_undone undone = true
is_undone (undo_raising x) = true

-- whether it goes through a scope with no undo part that is idle
through-told : (k : ℕ) (o : Order) (x : Result) (l : List Event) → get_or o.marks k 0 ≡ idle → is_undone x ≡ true → goes_through false k (record { result = x; order = o; log = l }) ≡ true
unfolding goes_through
through-told k o running l e u = absurd (false≢true u)
through-told k o over l e u = absurd (false≢true u)
through-told k o (raising x) l e u = absurd (false≢true u)
through-told k o leaving l e u = absurd (false≢true u)
through-told k o undone l e u = rw e
through-told k o (undo_raising x) l e u = rw e

-- what is no outcome of an undo part does not, and an idle scope has nothing to look for
module _ (p : Plan) (l : List Event) (s : Scope) (k : ℕ) (o o₁ : Order) (n : ℕ) (C : List Event → Order → Result → Type 0) (e : get_or o₁.marks k 0 ≡ idle)
    (w : Kept k n o.marks o₁.marks) (d : o₁.root ≡ o.root) where
  runs_on : s.name ≡ inner k → C l o₁ running
      → Acted k n o C (elim (goes_through false k (record { result = running; order = o₁; log = l })) [ true ↦ record { result = running; order = o₁; log = l } | false ↦ from_body s (record { result = running; order = o₁; log = l }) ])
  unfolding goes_through from_body
  runs_on i c =
      rw (e, goes_through, looks-is s o₁ idle (ap (λ (z : Name). mark_of z o₁) i ∙ e), append-nil)
      (record { kept = w; rooted = d; comes = c })

  leaves-on : C l o₁ leaving
      → Acted k n o C (elim (goes_through false k (record { result = leaving; order = o₁; log = l })) [ true ↦ record { result = leaving; order = o₁; log = l } | false ↦ from_body s (record { result = leaving; order = o₁; log = l }) ])
  unfolding goes_through from_body
  leaves-on c = rw (e, goes_through) (record { kept = w; rooted = d; comes = c })

-- so what comes of an undo part that an idle scope with none handed on is what comes of its body
pub through-so : (s : Scope) (k : ℕ) (o : Order) (x : Result) (l : List Event) → s.name ≡ inner k → get_or o.marks k 0 ≡ idle → (x ≡ over → ⊥) → ((n : ℕ) → x ≡ raising n → ⊥)
    → ◌≡◌ {A = Outcome}
    (elim (goes_through false k (record { result = x; order = o; log = l })) [ true ↦ record { result = x; order = o; log = l } | false ↦ from_body s (record { result = x; order = o; log = l }) ])
    (record { result = x; order = o; log = l })
unfolding goes_through from_body
through-so s k o running l i e f g = rw (e, goes_through, looks-is s o idle (ap (λ (z : Name). mark_of z o) i ∙ e), append-nil)
through-so s k o over l i e f g = absurd (f refl)
through-so s k o (raising x) l i e f g = absurd (g x refl)
through-so s k o leaving l i e f g = rw (e, goes_through)
through-so s k o undone l i e f g = rw (e, goes_through)
through-so s k o (undo_raising x) l i e f g = rw (e, goes_through)

-- in which part of a scope the step is
pub in_parts : (xs : List ℕ) (z : Bool) (b f : Act) (u : Acts) (k t : ℕ) (r : Outcome) (x y : Bool) → ltb t (k + 1 + size b) ≡ x → ltb t (part_at (undo_part xs) (trio b f u) (k + 1)) ≡ y
    → in_scope xs z k t (trio b f u) r
    ≡ elim x [ true ↦ elim (goes_through z k r) [ true ↦ r | false ↦ from_body (scope_at xs k (trio b f u)) r ] | false ↦ elim y [ true ↦ from_fault (scope_at xs k (trio b f u)) r | false ↦ from_undo r ] ]
unfolding in_scope part part_at
in_parts xs z b f u k t r x y e d =
    subst (λ (w : Bool). in_scope xs z k t (trio b f u) r
    ≡ elim x [ true ↦ elim (goes_through z k r) [ true ↦ r | false ↦ from_body (scope_at xs k (trio b f u)) r ] | false ↦ elim w [ true ↦ from_fault (scope_at xs k (trio b f u)) r | false ↦ from_undo r ] ]) d
    (subst (λ (w : Bool). in_scope xs z k t (trio b f u) r
    ≡ elim w [
      | true ↦ elim (goes_through z k r) [ true ↦ r | false ↦ from_body (scope_at xs k (trio b f u)) r ]
      | false ↦ elim (ltb t (part_at (undo_part xs) (trio b f u) (k + 1))) [ true ↦ from_fault (scope_at xs k (trio b f u)) r | false ↦ from_undo r ]
    ]) e refl)

-- in the i-th of its parts
pub parts-nth : (actor : Actor) (i : ℕ) (l : Acts) (y₀ c t : ℕ) (o : Order) → i < count l → part_at i l c ≤ t → t < part_at i l c + size (part i l)
    → step_among actor l true y₀ c t o ≡ step_in actor (part i l) (part_at i l c) (part_at i l c) t o
unfolding part part_at count
parts-nth actor i none y₀ c t o n h e = absurd (omega arith)
parts-nth actor zero (more a l) y₀ c t o n h e = parts_is actor a l y₀ c t o true (lt-ltb t (c + size a) e)
parts-nth actor (suc i) (more a l) y₀ c t o n h e =
    parts_is actor a l y₀ c t o false (le-ltb t (c + size a) (omega (arith, part-from i l (c + size a)))) ∙ parts-nth actor i l y₀ (c + size a) t o (omega arith) h e

-- A raise stands only in the place of a receive or an arm: any other acts itself.
pub plain-performs : (actor : Actor) (own : Own) (within : Acts) (y₀ k : ℕ) (o : Order) → (eqb (kind own) 2 || (eqb (kind own) 18 || eqb (kind own) 255)) ≡ false
    → performs actor own within y₀ k o ≡ itself own within y₀ k o
unfolding performs replaces
plain-performs its_own own within y₀ k o e = refl
plain-performs in_place own within y₀ k o e =
    subst (λ (b : Bool). elim b [ true ↦ raises conflicting_receive k o | false ↦ itself own within y₀ k o ] ≡ itself own within y₀ k o) (sym e) refl

module _ (p : Plan) (actor : Actor) where
  -- what acts, by what the activity itself does: where a raise stands in its place, that raises
  acts-performs : {x : Place} (own : Own) (within : Acts) (y₀ k : ℕ) (o : Order) → Spot p x k → Fit x o → is_scope own ≡ false → is_name p (inner k) ≡ false
      → Quiet o.marks (k + 1) (sizes within)
      → Acted k (1 + sizes within) o (RunAs p (act own within) k k o) (itself own within y₀ k o)
      → Acted k (1 + sizes within) o (RunAs p (act own within) k k o) (performs actor own within y₀ k o)
  unfolding performs
  acts-performs own within y₀ k o u f s z q w = go (replaces actor (kind own))
    where
      go : (b : Bool) → Acted k (1 + sizes within) o (RunAs p (act own within) k k o) (elim b [ true ↦ raises conflicting_receive k o | false ↦ itself own within y₀ k o ])
      go true = acts-raises p conflicting_receive own within k o u f s z q
      go false = w

  -- Closing.

  -- what stands after the others in the list
  added-list : (n : Name) (k : ℕ) (l m : List Closing) (o : Order)
      → list_of p n (marked k idle (remembering (l ++ m) o)) ≡ reverse (map (λ c. c.scope) (only (is_for_name n) m)) ++ reverse (map (λ c. c.scope) (only (is_for_name n) l))
  added-list n k l m o =
      ap (λ (c : List Closing). reverse (map (λ c. c.scope) (only (is_for_name n) c))) (remembering-closings (l ++ m) o)
      ∙ (ap (λ (c : List Closing). reverse (map (λ c. c.scope) c)) (only-append (is_for_name n) l m)
      ∙ (ap reverse (map-append (λ c. c.scope) (only (is_for_name n) l) (only (is_for_name n) m)) ∙ reverse-append (map (λ c. c.scope) (only (is_for_name n) l)) (map (λ c. c.scope) (only (is_for_name n) m))))

  -- what is handed on to a part is all for that part
  handed-on : (x z : ℕ) (l : List Closing)
      → map (λ c. c.scope) (only (λ (c : Closing). eqb c.part z) (map (λ c. closing_of c.scope x) l)) ≡ cond (eqb x z) (map (λ c. c.scope) l) []
  unfolding only
  handed-on x z [] = decide (eqb x z) (λ t. rw t) (λ t. rw t)
  handed-on x z (c ∷ l) = decide (eqb x z) (λ t. rw (t, handed-on x z l, t)) (λ t. rw (t, handed-on x z l, t))

  -- what a close adds is for the part that it stands in
  added-for : (v : Bool) (x k : ℕ) (s : Scope) (n : Name) (o : Order) → Seat p s
      → reverse (map (λ c. c.scope) (only (is_for_name n) (adds v x k s o))) ≡ cond (eqb x (body_of_name n)) (cond v (k ∷ []) (list_of p s.name o)) []
  unfolding adds only closings_for remembered_for
  added-for true x k s n o h = decide (eqb x (body_of_name n)) (λ t. rw t) (λ t. rw t)
  added-for false x k s n o h =
      ap reverse (handed-on x (body_of_name n) (closings_for s o))
      ∙ decide (eqb x (body_of_name n)) (λ t. rw t (remembered-list p s o h)) (λ t. rw t)

  -- the list of a scope in whose body the closed one does not stand, and of the one in whose body it does
  closed-list : (v : Bool) (x k : ℕ) (s : Scope) (n m : Name) (o : Order) → Seat p s → x ≡ body_of_name m → same n m ≡ false
      → list_of p n (marked k idle (remembering (closings (forgetting s o) ++ adds v x k s o) o)) ≡ list_of p n (forgetting s o)
  closed-list v x k s n m o h e t =
      added-list n k (closings (forgetting s o)) (adds v x k s o) o
      ∙ ap (λ (l : List ℕ). l ++ list_of p n (forgetting s o)) (added-for v x k s n o h ∙ ap (λ (b : Bool). cond b (cond v (k ∷ []) (list_of p s.name o)) []) (ap (λ (z : ℕ). eqb z (body_of_name n)) e ∙ bodies-apart n m t))

  closed-own : (v : Bool) (x k : ℕ) (s : Scope) (n : Name) (o : Order) → Seat p s → x ≡ body_of_name n
      → list_of p n (marked k idle (remembering (closings (forgetting s o) ++ adds v x k s o) o)) ≡ cond v (k ∷ []) (list_of p s.name o) ++ list_of p n (forgetting s o)
  closed-own v x k s n o h e =
      added-list n k (closings (forgetting s o)) (adds v x k s o) o
      ∙ ap (λ (l : List ℕ). l ++ list_of p n (forgetting s o)) (added-for v x k s n o h ∙ ap (λ (b : Bool). cond b (cond v (k ∷ []) (list_of p s.name o)) []) (eq-eqb x (body_of_name n) e))

  -- no other mark has a change
  closed-mark : (n : Name) (k : ℕ) (l : List Closing) (o : Order) → same n (inner k) ≡ false → mark_of n (marked k idle (remembering l o)) ≡ mark_of n o
  closed-mark root k l o t = refl
  closed-mark (inner j) k l o t = get_or-set_other o.marks k j idle 0 (eqb-false j k t)

  -- the close of a scope that is done is right
  closes : {n c : Name} {ns : List Name} (xs : List ℕ) (z : Bool) (b f : Act) (u : Acts) (y₀ k : ℕ) (o : Order) → y₀ ≡ body_of_name n → Known p (inner_at xs z k n ns (trio b f u)) → Spot p (body_of n ns c) k
      → Seat p (scope_at xs k (trio b f u))
      → phase (mark_of n o) ≡ live → get_or o.marks k 0 ≡ done → Quiet o.marks (k + 1) (size b + (size f + sizes u)) → k < length o.marks
      → Acted k (spread b f u) o (RunAs p (act (scope xs z) (trio b f u)) k k o) (closing z y₀ k (scope_at xs k (trio b f u)) o)
  unfolding closing size part part_at
  closes {n} {c} {ns} xs z b f u y₀ k o y kn g h v e q m =
      record {
        kept = kept_set k _ k idle o.marks (omega arith) (omega arith);
        rooted = refl;
        comes = (
          quiet-cons (get_or-set_same o.marks k idle 0 m) (quiet-part (quiet-set idle q (omega arith)) (omega arith) (omega arith)),
          does-one (λ past x. move-close p (moment_of p o) (moment_of p o₁) past x (inner_at xs z k n ns (trio b f u)) kn g (ap phase e)
              (inside-rest p s o h (quiet-inner b (k + 1) (quiet-part q (omega arith) (omega arith)))) v
              (ap phase (get_or-set_same o.marks k idle 0 m))
              (closed-list z y₀ k s (inner k) n o h y kn.apart ∙ forgotten-list p s o h)
              (closed-mark n k l₁ o (same-swap n (inner k) ∙ kn.apart))
              (closed-own z y₀ k s n o h y
              ∙ ap (λ (l : List ℕ). cond z (k ∷ []) (list_of p (inner k) o) ++ l) (forgotten-other p s n o h (same-swap n (inner k) ∙ kn.apart)))
              (λ i j t w. unchanged (closed-mark i k l₁ o t) (closed-list z y₀ k s i n o h y w ∙ forgotten-other p s i o h t))),
        );
      }
    where
      s : Scope
      s = scope_at xs k (trio b f u)

      l₁ : List Closing
      l₁ = closings (forgetting s o) ++ adds z y₀ k s o

      o₁ : Order
      o₁ = marked k idle (remembering l₁ o)

  -- From one to a list.

  -- of a list without scopes the first has none
  bare-first : (a : Act) (l : Acts) → bare_in (more a l) ≡ true → bare a ≡ true
  unfolding bare
  bare-first a l e = both (bare a) (bare_in l) e (λ x y. x)

  -- nor have the others
  bare-rest : (a : Act) (l : Acts) → bare_in (more a l) ≡ true → bare_in l ≡ true
  unfolding bare
  bare-rest a l e = both (bare a) (bare_in l) e (λ x y. y)

  module _ (a : Act) (l : Acts) (c t : ℕ) (o : Order) (r : Outcome) where
    first_one : Acted c (size a) o (RunAs p a c t o) r → Quiet o.marks (c + size a) (sizes l) → Acted c (size a + sizes l) o (OneAs p (more a l) c t o) r
    unfolding size
    first_one w q = record { kept = kept-wider w.kept (omega arith) (omega arith); rooted = w.rooted; comes = go r.result w.comes }
      where
        q₁ : Quiet r.order.marks (c + size a) (sizes l)
        q₁ = quiet-agree q (agree-above w.kept (omega arith))

        go : (x : Result) → RunAs p a c t o r.log r.order x → OneAs p (more a l) c t o r.log r.order x
        go running d = (one-here d.0 q₁, d.1)
        go over d = (quiet-join d.0 q₁ refl, d.1)
        go (raising x) d = (able-more d.0 (quiet-stoppable l (c + size a) q₁), d.1, λ e. d.2 (bare-first a l e))
        go leaving d = d
        go undone d = d
        go (undo_raising x) d = d

    -- where a later one runs
    later-one : Acted (c + size a) (sizes l) o (OneAs p l (c + size a) t o) r → Quiet o.marks c (size a)
        → Acted c (size a + sizes l) o (OneAs p (more a l) c t o) r
    unfolding size
    later-one w q = record { kept = kept-wider w.kept (omega arith) (omega arith); rooted = w.rooted; comes = go r.result w.comes }
      where
        q₁ : Quiet r.order.marks c (size a)
        q₁ = quiet-agree q (agree-below w.kept (omega arith))

        go : (x : Result) → OneAs p l (c + size a) t o r.log r.order x → OneAs p (more a l) c t o r.log r.order x
        go running d = (one_later q₁ d.0, d.1)
        go over d = (quiet-join q₁ d.0 refl, d.1)
        go (raising x) d = (able-more (able-quiet q₁) d.0, d.1, λ e. d.2 (bare-rest a l e))
        go leaving d = d
        go undone d = d
        go (undo_raising x) d = d

    -- the first of a flow
    first-all : Acted c (size a) o (RunAs p a c t o) r → All o.marks l (c + size a) → Acted c (size a + sizes l) o (AllAs p (more a l) c t o) r
    unfolding size
    first-all w q = record { kept = kept-wider w.kept (omega arith) (omega arith); rooted = w.rooted; comes = go r.result w.comes }
      where
        q₁ : All r.order.marks l (c + size a)
        q₁ = all-agree q (agree-above w.kept (omega arith))

        go : (x : Result) → RunAs p a c t o r.log r.order x → AllAs p (more a l) c t o r.log r.order x
        go running d = (all-run d.0 q₁, d.1, λ q. run-loud d.0 (quiet-part q (omega arith) (omega arith)))
        go over d = (all_quiet d.0 q₁, d.1)
        go (raising x) d = (able-more d.0 (all-stoppable q₁), d.1, λ e. d.2 (bare-first a l e))
        go leaving d = d
        go undone d = d
        go (undo_raising x) d = d

    -- a later one of a flow
    later-all : Acted (c + size a) (sizes l) o (AllAs p l (c + size a) t o) r
        → ((ms : List ℕ) → Agree c (size a) o.marks ms → All ms l (c + size a) → All ms (more a l) c)
        → ((ms : List ℕ) → Agree c (size a) o.marks ms → StoppableIn ms l (c + size a) → StoppableIn ms (more a l) c)
        → Acted c (size a + sizes l) o (AllAs p (more a l) c t o) r
    unfolding size
    later-all w f g = record { kept = kept-wider w.kept (omega arith) (omega arith); rooted = w.rooted; comes = go r.result w.comes }
      where
        h : Agree c (size a) o.marks r.order.marks
        h = agree-below w.kept (omega arith)

        go : (x : Result) → AllAs p l (c + size a) t o r.log r.order x → AllAs p (more a l) c t o r.log r.order x
        go running d = (f r.order.marks h d.0, d.1, λ q. d.2 (quiet-part q (omega arith) (omega arith)))
        go over d = (f r.order.marks h d.0, d.1)
        go (raising x) d = (g r.order.marks h d.0, d.1, λ e. d.2 (bare-rest a l e))
        go leaving d = d
        go undone d = d
        go (undo_raising x) d = d

  -- Arms.

  -- the step of an arm
  arm-itself : (own : Own) (within : Acts) (y₀ k : ℕ) (o : Order) → is_arm own ≡ true
      → (itself own within y₀ k o ≡ begun_in o (begin_part 0 within (k + 1) o.marks)) × (holding own ≡ idle) × (least own ≡ 1)
  unfolding itself kind least
  arm-itself empty within y₀ k o e = absurd (false≢true e)
  arm-itself (send x y vs) within y₀ k o e = absurd (false≢true e)
  arm-itself (receive x y vs) within y₀ k o e = absurd (false≢true e)
  arm-itself (setting v x) within y₀ k o e = absurd (false≢true e)
  arm-itself (raise zero) within y₀ k o e = absurd (false≢true e)
  arm-itself (raise (suc number)) within y₀ k o e = absurd (false≢true e)
  arm-itself leave within y₀ k o e = absurd (false≢true e)
  arm-itself (choose x) within y₀ k o e = absurd (false≢true e)
  arm-itself (repeat x) within y₀ k o e = absurd (false≢true e)
  arm-itself sequence within y₀ k o e = absurd (false≢true e)
  arm-itself flow within y₀ k o e = absurd (false≢true e)
  arm-itself pick within y₀ k o e = absurd (false≢true e)
  arm-itself (scope xs v) within y₀ k o e = absurd (false≢true e)
  arm-itself (arm x y vs) within y₀ k o e = (refl, refl, refl)

  -- an arm begins what stands within it
  arm-begun : (own : Own) (within : Acts) (k t : ℕ) (o : Order) (ms : List ℕ) (v : Bool) (g : List Event) → is_scope own ≡ false → holding own ≡ idle
      → get_or o.marks k 0 ≡ idle
      → Begins p (λ ns. One ns within (k + 1)) (k + 1) (sizes within) o o (record { marks = ms; over = v; log = g })
      → Acted k (1 + sizes within) o (RunAs p (act own within) k t o) (begun_in o (record { marks = ms; over = v; log = g }))
  unfolding size
  arm-begun own within k t o ms true g s h e b =
      record {
        kept = kept-wider b.kept (omega arith) (omega arith);
        rooted = refl;
        comes = (quiet-cons (b.kept.below k (omega arith) ∙ e) (b.quiet refl), b.does);
      }
  arm-begun own within k t o ms false g s h e b =
      record {
        kept = kept-wider b.kept (omega arith) (omega arith);
        rooted = refl;
        comes = (run-one s (b.kept.below k (omega arith) ∙ (e ∙ sym h)) (b.runs refl), b.does);
      }

  -- where all is quiet, what has its step is an open arm
  arm-steps : {x : Place} {a : Act} {k : ℕ} {ms : List ℕ} {b : Bool} → Sits p x a k → (y₀ t : ℕ) (o : Order) → Waits ms a k t b → Quiet ms k (size a)
      → Quiet o.marks k (size a)
      → k + size a ≤ length o.marks → Fit x o → (Acted k (size a) o (RunAs p a k t o) (step_in actor a y₀ k t o)) × (k ≡ t) × (b ≡ true)
  unfolding size kind
  arm-steps {ms = ms} (sits-part {q = x} {own} {within} {k} s g v y l) y₀ t o (waits-itself {b = b} e d) q q₁ m f =
      let i = idle-awaits own b (rw (q.at k (omega arith) (omega arith)) at d) in
      let j = arm-itself own within y₀ k o i.0 in (
        subst (λ (r : Outcome). Acted k (1 + sizes within) o (RunAs p (act own within) k t o) r) (sym (step_is actor own within y₀ k t o true s (eq-eqb k t e)))
            (subst (λ (n : ℕ). Acted k (1 + sizes within) o (RunAs p (act own within) k n o) (performs actor own within y₀ k o)) e
            (acts-performs own within y₀ k o v f s y.no_scope (quiet-part q₁ (omega arith) (omega arith))
            (subst (λ (r : Outcome). Acted k (1 + sizes within) o (RunAs p (act own within) k k o) r) (sym j.0)
            (arm-begun own within k k o _ _ _ s j.1 (q₁.at k (omega arith) (omega arith))
            (begins-at p l 0 (omega (arith, j.2)) o (quiet-part q₁ (omega arith) (omega arith)) (omega arith) f))))),
        e,
        i.1,
      )
  arm-steps {ms = ms} (sits-part {q = x} {own} {within} {k} s g v y l) y₀ t o (waits-within h w) q q₁ m f =
      absurd (quiet-waits-in w (opens-idle own (get_or ms k 0) (q.at k (omega arith) (omega arith))) (quiet-part q (omega arith) (omega arith)))
  arm-steps {ms = ms} (sits-scope {xs} {v = v₁} {k = k} kn v i sb z) y₀ t o (waits-itself {b = b} e d) q q₁ m f =
      absurd (false≢true (idle-awaits (scope xs v₁) b (rw (q.at k (omega arith) (omega arith)) at d)).0)
  arm-steps {ms = ms} (sits-scope {xs} {v = v₁} {k = k} kn v i sb z) y₀ t o (waits-within h w) q q₁ m f =
      absurd (quiet-waits-in w (opens-idle (scope xs v₁) (get_or ms k 0) (q.at k (omega arith) (omega arith))) (quiet-part q (omega arith) (omega arith)))

  -- in a list
  arms-steps : {x : Place} {l : Acts} {c : ℕ} {ms : List ℕ} {b : Bool} → SitsIn p x l c → (y₀ t : ℕ) (o : Order) → WaitsIn ms l c t b
      → Quiet ms c (sizes l) → Quiet o.marks c (sizes l)
      → c + sizes l ≤ length o.marks → Fit x o → (Acted c (sizes l) o (OneAs p l c t o) (step_among actor l false y₀ c t o)) × (is_part l c t ≡ true) × (b ≡ true)
  unfolding size is_part
  arms-steps {ms = ms} {b = b} (sits-none {c = c}) y₀ t o z q q₁ m f = elim z [ ]
  arms-steps (sits-more {q = x} {a} {l} {c} s y) y₀ t o (waits-first h w) q q₁ m f =
      let r = arm-steps s y₀ t o w (quiet-part q (omega arith) (omega arith)) (quiet-part q₁ (omega arith) (omega arith)) (omega arith) f in (
        subst (λ (z : Outcome). Acted c (size a + sizes l) o (OneAs p (more a l) c t o) z) (sym (among-is actor a l y₀ c t o true (lt-ltb t (c + size a) h)))
            (first_one a l c t o (step_in actor a y₀ c t o) r.0 (quiet-part q₁ (omega arith) (omega arith))),
        rw (eq-eqb c t r.1),
        r.2,
      )
  arms-steps (sits-more {q = x} {a} {l} {c} s y) y₀ t o (waits-later h w) q q₁ m f =
      let r = arms-steps y y₀ t o w (quiet-part q (omega arith) (omega arith)) (quiet-part q₁ (omega arith) (omega arith)) (omega arith) f in (
        subst (λ (z : Outcome). Acted c (size a + sizes l) o (OneAs p (more a l) c t o) z) (sym (among-is actor a l y₀ c t o false (le-ltb t (c + size a) h)))
            (later-one a l c t o (step_among actor l false y₀ (c + size a) t o) r.0 (quiet-part q₁ (omega arith) (omega arith))),
        rw (r.1, or-true),
        r.2,
      )

  -- what has one running in it has no step of its own, but a sequence or a flow that stays as it is
  pub held-itself : (own : Own) (within : Acts) (y₀ k : ℕ) (o : Order) → is_scope own ≡ false → awaits own false (holding own) ≡ true → performs actor own within y₀ k o ≡ runs o
  unfolding itself kind awaits
  held-itself empty within y₀ k o s e = absurd (false≢true e)
  held-itself (send x y vs) within y₀ k o s e = absurd (false≢true e)
  held-itself (receive x y vs) within y₀ k o s e = absurd (false≢true e)
  held-itself (setting v x) within y₀ k o s e = absurd (false≢true e)
  held-itself (raise zero) within y₀ k o s e = absurd (false≢true e)
  held-itself (raise (suc number)) within y₀ k o s e = absurd (false≢true e)
  held-itself leave within y₀ k o s e = absurd (false≢true e)
  held-itself (choose x) within y₀ k o s e = absurd (false≢true e)
  held-itself (repeat x) within y₀ k o s e = absurd (false≢true e)
  held-itself sequence within y₀ k o s e = plain-performs actor sequence within y₀ k o refl
  held-itself flow within y₀ k o s e = plain-performs actor flow within y₀ k o refl
  held-itself pick within y₀ k o s e = absurd (false≢true e)
  held-itself (scope xs v) within y₀ k o s e = absurd (false≢true e)
  held-itself (arm x y vs) within y₀ k o s e = absurd (false≢true e)

  -- what is no open arm and awaits is no arm
  not-arm : (own : Own) (b : Bool) (m : ℕ) → b ≡ false → awaits own b m ≡ true → is_arm own ≡ false
  unfolding awaits
  not-arm own b m f h = decide (is_arm own) (λ t. absurd (false≢true (sym f ∙ (rw t at h)))) (λ t. t)

  -- A step in an activity other than a scope that runs, by steps in what stands within it.
  module _ {x : Place} (own : Own) (within : Acts) (y₀ k t : ℕ) (o : Order) (s : is_scope own ≡ false) (g : least own ≤ count within) (z : is_name p (inner k) ≡ false)
      (u : Spot p x k) (i : Fit x o) (l : SitsIn p x within (k + 1)) (m : k + (1 + sizes within) ≤ length o.marks) where
    Here : Outcome → Type 0
    Here r = Acted k (1 + sizes within) o (RunAs p (act own within) k t o) r

    -- the step is its own
    part-itself : k ≡ t → Acted k (1 + sizes within) o (RunAs p (act own within) k k o) (performs actor own within y₀ k o) → Here (step_in actor (act own within) y₀ k t o)
    unfolding Here
    part-itself e w =
        subst (λ (r : Outcome). Acted k (1 + sizes within) o (RunAs p (act own within) k t o) r) (sym (step_is actor own within y₀ k t o true s (eq-eqb k t e)))
        (subst (λ (x : ℕ). Acted k (1 + sizes within) o (RunAs p (act own within) k x o) (performs actor own within y₀ k o)) e w)

    -- the step is within it
    part-within : k < t → (o₁ : Order) → arms own within k t o ≡ o₁ → Here (combines own within k t (step_among actor within false y₀ (k + 1) t o₁))
        → Here (step_in actor (act own within) y₀ k t o)
    unfolding Here
    part-within h o₁ e w =
        subst (λ (r : Outcome). Acted k (1 + sizes within) o (RunAs p (act own within) k t o) r)
        (sym (step_is actor own within y₀ k t o false s (ne_eqb k t (omega arith)) ∙ ap (λ (x : Order). combines own within k t (step_among actor within false y₀ (k + 1) t x)) e)) w

    -- an open pick: one of its arms is taken
    part-pick : {b : Bool} → k < t → get_or o.marks k 0 ≡ active → Quiet o.marks (k + 1) (sizes within) → WaitsIn o.marks within (k + 1) t b
        → (b ≡ true → is_pick own ≡ true)
        → Here (step_in actor (act own within) y₀ k t o)
    unfolding Here
    part-pick h e q w f =
        let o₁ = marked k inside o in
        let r = arms-steps l y₀ t o₁ w q (quiet-set inside q (omega arith)) (omega (arith, length-set o.marks k inside)) (fit-marked x k inside o u.before i) in
        part-within h o₁ (taken-arm (f r.2) r.1)
        (run-before (kept_set k (1 + sizes within) k inside o.marks (omega arith) (omega arith)) refl (plain-marked p k inside o z)
        (combines-one p own within k t o₁ (step_among actor within false y₀ (k + 1) t o₁) s z u.before (fit-marked x k inside o u.before i) l
        (get_or-set_same o.marks k inside 0 (omega arith) ∙ sym (arms-holding own (f r.2))) (omega (arith, length-set o.marks k inside)) r.0))
      where
        taken-arm : is_pick own ≡ true → is_part within (k + 1) t ≡ true → arms own within k t o ≡ marked k inside o
        taken-arm x y = taken-arms own within k t o x y

    -- one runs within it
    part-one : k < t → get_or o.marks k 0 ≡ holding own
        → Acted (k + 1) (sizes within) o (OneAs p within (k + 1) t o) (step_among actor within false y₀ (k + 1) t o) → Here (step_in actor (act own within) y₀ k t o)
    unfolding Here
    part-one h e w = part-within h o (arms-held own within k t o e) (combines-one p own within k t o (step_among actor within false y₀ (k + 1) t o) s z u.before i l e m w)

  -- what has one running in it has no open arms
  pub opens-held : (own : Own) (m : ℕ) → m ≡ holding own → opens own m ≡ false
  opens-held own m e =
      decide (is_pick own) (λ t. rw (t, e, arms-holding own t)) (λ t. rw t)

  -- however it runs
  part-steps : {x : Place} (own : Own) (within : Acts) (y₀ k t : ℕ) (o : Order) (b : Bool) → is_scope own ≡ false → least own ≤ count within → is_name p (inner k) ≡ false
      → Spot p x k → Fit x o → SitsIn p x within (k + 1) → k + (1 + sizes within) ≤ length o.marks → Waits o.marks (act own within) k t b → b ≡ false
      → Run o.marks (act own within) k
      → ((c : Bool) → WaitsIn o.marks within (k + 1) t c → c ≡ false → One o.marks within (k + 1) → Acted (k + 1) (sizes within) o (OneAs p within (k + 1) t o) (step_among actor within false y₀ (k + 1) t o))
      → ((c : Bool) → WaitsIn o.marks within (k + 1) t c → c ≡ false → All o.marks within (k + 1) → Acted (k + 1) (sizes within) o (AllAs p within (k + 1) t o) (step_among actor within false y₀ (k + 1) t o))
      → Acted k (1 + sizes within) o (RunAs p (act own within) k t o) (step_in actor (act own within) y₀ k t o)
  unfolding kind Here itself awaits
  part-steps own within y₀ k t o b s g z u v l m (waits-itself e d) f (run-awaits s₁ y x q) i j =
      part-itself own within y₀ k t o s g z u v l m e (acts-performs own within y₀ k o u v s z q (acts-itself p own within y₀ k o s (not-arm own b (get_or o.marks k 0) f d) y g z u v l x q m))
  part-steps own within y₀ k t o b s g z u v l m (waits-itself e d) f (run-one s₁ x r) i j =
      part-itself own within y₀ k t o s g z u v l m e
      (subst (λ (y : Outcome). Acted k (1 + sizes within) o (RunAs p (act own within) k k o) y) (sym (held-itself own within y₀ k o s (rw (x, f) at d))) (acts-runs p (act own within) k _ k o (run-one s₁ x r)))
  part-steps flow within y₀ k t o b s g z u v l m (waits-itself e d) f (run-all x r a) i j =
      part-itself flow within y₀ k t o s g z u v l m e
      (subst (λ (y : Outcome). Acted k (1 + sizes within) o (RunAs p (act flow within) k k o) y) (sym (plain-performs actor flow within y₀ k o refl)) (acts-runs p (act flow within) k _ k o (run-all x r a)))
  part-steps own within y₀ k t o b s g z u v l m (waits-itself e d) f (run-body x r q) i j = absurd (false≢true (sym s))
  part-steps own within y₀ k t o b s g z u v l m (waits-itself e d) f (run-done x q) i j = absurd (false≢true (sym s))
  part-steps own within y₀ k t o b s g z u v l m (waits-itself e d) f (run-turned x) i j = absurd (false≢true (sym s))
  part-steps own within y₀ k t o b s g z u v l m (waits-within h w) f (run-awaits s₁ _ x q) i j =
      part-pick own within y₀ k t o s g z u v l m h x q w (λ y. both (is_pick own) (eqb (get_or o.marks k 0) active) y (λ a c. a))
  part-steps own within y₀ k t o b s g z u v l m (waits-within h w) f (run-one s₁ x r) i j =
      part-one own within y₀ k t o s g z u v l m h x (i (opens own (get_or o.marks k 0)) w (opens-held own (get_or o.marks k 0) x) r)
  part-steps flow within y₀ k t o b s g z u v l m (waits-within h w) f (run-all x r a) i j =
      part-within flow within y₀ k t o s g z u v l m h o (arms-held flow within k t o x)
      (combines-all p within k t o (step_among actor within false y₀ (k + 1) t o) z x m (j (opens flow (get_or o.marks k 0)) w refl r))
  part-steps own within y₀ k t o b s g z u v l m (waits-within h w) f (run-body x r q) i j = absurd (false≢true (sym s))
  part-steps own within y₀ k t o b s g z u v l m (waits-within h w) f (run-done x q) i j = absurd (false≢true (sym s))
  part-steps own within y₀ k t o b s g z u v l m (waits-within h w) f (run-turned x) i j = absurd (false≢true (sym s))

  -- Scopes.

  module _ (xs : List ℕ) (z : Bool) (b f : Act) (u : Acts) (y₀ k : ℕ) where
    unfoldable pub Whole : Act
    Whole = act (scope xs z) (trio b f u)

    -- as a scope
    unfoldable pub Its : Scope
    Its = scope_at xs k (trio b f u)

    -- its numbers
    its-reach : Reach Its
    unfolding Its part part_at size
    its-reach = record { start = omega arith; lone = λ i x y. omega (arith, eqb-false i k y); end = omega arith; owns = (omega arith, omega arith) }

    -- in which part the step is
    in_is : (t : ℕ) (r : Outcome) (x y : Bool) → ltb t (k + 1 + size b) ≡ x → ltb t (part_at (undo_part xs) (trio b f u) (k + 1)) ≡ y
        → in_scope xs z k t (trio b f u) r ≡ elim x [ true ↦ elim (goes_through z k r) [ true ↦ r | false ↦ from_body Its r ] | false ↦ elim y [ true ↦ from_fault Its r | false ↦ from_undo r ] ]
    unfolding Its
    in_is t r x y e d = in_parts xs z b f u k t r x y e d

    -- a step within it
    scope-step : (t : ℕ) (o : Order) → k < t → step_in actor Whole y₀ k t o ≡ in_scope xs z k t (trio b f u) (step_among actor (trio b f u) true y₀ (k + 1) t o)
    unfolding Whole
    scope-step t o h = scope-is actor xs z (trio b f u) y₀ k t o false (ne_eqb k t (omega arith))

    -- in its body, whether or not what comes out of it goes through
    through-step : (t : ℕ) (o : Order) (x : Bool) → k < t → t < k + 1 + size b → goes_through z k (step_in actor b (k + 1) (k + 1) t o) ≡ x
        → step_in actor Whole y₀ k t o ≡ elim x [ true ↦ step_in actor b (k + 1) (k + 1) t o | false ↦ from_body Its (step_in actor b (k + 1) (k + 1) t o) ]
    through-step t o x h e d =
        scope-step t o h ∙ (in_is t _ true (ltb t (part_at (undo_part xs) (trio b f u) (k + 1))) (lt-ltb t (k + 1 + size b) e) refl
        ∙ (ap (λ (r : Outcome). elim (goes_through z k r) [ true ↦ r | false ↦ from_body Its r ]) (parts_is actor b (more f u) y₀ (k + 1) t o true (lt-ltb t (k + 1 + size b) e))
        ∙ ap (λ (w : Bool). elim w [ true ↦ step_in actor b (k + 1) (k + 1) t o | false ↦ from_body Its (step_in actor b (k + 1) (k + 1) t o) ]) d))

    -- in its body, where it is not idle
    pub body-step : (t m : ℕ) (o : Order) → k < t → t < k + 1 + size b → get_or (step_in actor b (k + 1) (k + 1) t o).order.marks k 0 ≡ m → (m ≡ idle → ⊥)
        → step_in actor Whole y₀ k t o ≡ from_body Its (step_in actor b (k + 1) (k + 1) t o)
    unfolding goes_through
    body-step t m o h e d n = through-step t o false h e (rw (d, ne_eqb m idle n, and-false))

    -- in one of its fault parts
    pub fault-step : (i t : ℕ) (o : Order) → i ≤ length xs → i < count (more f u) → part_at i (more f u) (k + 1 + size b) ≤ t → t < part_at i (more f u) (k + 1 + size b) + size (part i (more f u))
        → step_in actor Whole y₀ k t o ≡ from_fault Its (step_in actor (part i (more f u)) (part_at i (more f u) (k + 1 + size b)) (part_at i (more f u) (k + 1 + size b)) t o)
    unfolding part_at
    fault-step i t o n v h e =
        let lo = part-from i (more f u) (k + 1 + size b) in
        let hi = part-order i (general_part xs) (more f u) (k + 1 + size b) (omega (arith, general-is xs)) v in
        scope-step t o (omega arith) ∙ (in_is t _ false true (le-ltb t (k + 1 + size b) (omega arith)) (lt-ltb t (part_at (general_part xs) (more f u) (k + 1 + size b)) (omega arith))
        ∙ ap (from_fault Its) (parts_is actor b (more f u) y₀ (k + 1) t o false (le-ltb t (k + 1 + size b) (omega arith)) ∙ parts-nth actor i (more f u) y₀ (k + 1 + size b) t o v h e))

    module _ (t : ℕ) (o : Order) where
      its-kept : {o' : Order} → Apart Its o o' → Kept k (spread b f u) o.marks o'.marks
      unfolding Its part part_at size
      its-kept v = record { many = v.many; below = λ i x. v.below i (omega arith) (ne_eqb i k (omega arith)); above = λ i x. v.above i (omega arith) }

      -- all of it is quiet
      its-quiet : {ms : List ℕ} → get_or ms k 0 ≡ idle → Quiet ms (k + 1) (size b) → Quiet ms (k + 1 + size b) (size f + sizes u) → Quiet ms k (spread b f u)
      its-quiet e x y = quiet-cons e (quiet-join x y refl)

      -- it runs, or is over
      steps-run : (R : List ℕ → ℕ → Type 0) → ((ms : List ℕ) (m : ℕ) → R ms m → Running Its ms m) → (r : Outcome) → Steps p Its R o r
          → Acted k (spread b f u) o (RunAs p Whole k t o) r
      unfolding Its Whole part part_at size bare kind
      steps-run R g r v = record { kept = its-kept v.apart; rooted = v.apart.rooted refl; comes = go r.result v.comes }
        where
          runs_so : Running Its r.order.marks (get_or r.order.marks k 0) → Run r.order.marks Whole k
          runs_so (scope_live e x y) = run-body e x y
          runs_so (scope-done e x y) = run-done e (quiet-join x y refl)
          runs_so (scope-turned x) = run-turned x

          go : (x : Result) → StepsAs p Its R o r.log r.order x → RunAs p Whole k t o r.log r.order x
          go running c = (runs_so (g _ _ c.0), c.1)
          go over c = (its-quiet c.0 c.1 c.2, c.3)
          go (raising x) c = (able-quiet (its-quiet c.0 c.1 c.2), c.3, λ e. absurd (false≢true e))
          go leaving c = c
          go undone c = c
          go (undo_raising x) c = c

      -- it is stopped, and runs or is over
      steps-stop : (r : Outcome) → Steps p Its (Turning Its) o r → Acted k (spread b f u) o (StopAs p Whole k o) r
      unfolding Its Whole part part_at size
      steps-stop r v = record { kept = its-kept v.apart; rooted = v.apart.rooted refl; comes = go r.result v.comes }
        where
          go : (x : Result) → StepsAs p Its (Turning Its) o r.log r.order x → StopAs p Whole k o r.log r.order x
          go running c = (stopped-scope c.0, c.1)
          go over c = (stopped-quiet (its-quiet c.0 c.1 c.2), c.3)
          go (raising x) c = (stopped-quiet (its-quiet c.0 c.1 c.2), c.3)
          go leaving c = c
          go undone c = c
          go (undo_raising x) c = c

  -- in its undo part
  pub undo-step : (xs : List ℕ) (b f : Act) (u : Acts) (y₀ k t : ℕ) (o : Order) → undo_part xs < count (trio b f u) → part_at (undo_part xs) (trio b f u) (k + 1) ≤ t
      → t < part_at (undo_part xs) (trio b f u) (k + 1) + size (part (undo_part xs) (trio b f u))
      → step_in actor (act (scope xs true) (trio b f u)) y₀ k t o
      ≡ from_undo (step_in actor (part (undo_part xs) (trio b f u)) (part_at (undo_part xs) (trio b f u) (k + 1)) (part_at (undo_part xs) (trio b f u) (k + 1)) t o)
  unfolding Whole
  undo-step xs b f u y₀ k t o n h e =
      let lo : k + 1 + size b ≤ part_at (undo_part xs) (trio b f u) (k + 1) = undo-from xs b f u k in
      scope-step xs true b f u y₀ k t o (omega arith) ∙ (in_is xs true b f u y₀ k t _ false false (le-ltb t (k + 1 + size b) (omega arith)) (le-ltb t (part_at (undo_part xs) (trio b f u) (k + 1)) h)
      ∙ ap from_undo (parts-nth actor (undo_part xs) (trio b f u) y₀ (k + 1) t o n h e))

  -- the step of a fault part of scope k, the i-th after its body
  abbrev HealStep : (numbers : List ℕ) → Acts → (c k t : ℕ) → Order → Type 0
  HealStep xs l c k t o =
      (i : ℕ) → i ≤ length xs → (x : Bool) → Waits o.marks (part i l) (part_at i l c) t x → x ≡ false → Run o.marks (part i l) (part_at i l c) → phase (get_or o.marks k 0) ≡ heals
      → Acted (part_at i l c) (size (part i l)) o (RunAs p (part i l) (part_at i l c) t o) (step_in actor (part i l) (part_at i l c) (part_at i l c) t o)

  -- A step in a scope that is live, or that has turned, by steps in its body and in its fault part.
  module _ (xs : List ℕ) (z : Bool) (b f : Act) (u : Acts) (y₀ k t : ℕ) (o : Order) (h : Seat p (scope_at xs k (trio b f u))) (m : k + (spread b f u) ≤ length o.marks) where
    live-steps : {c : Bool} → k < t → WaitsIn o.marks (trio b f u) (k + 1) t c → c ≡ false → get_or o.marks k 0 ≡ active
        → Quiet o.marks (k + 1 + size b) (size f + sizes u)
        → ((x : Bool) → Waits o.marks b (k + 1) t x → x ≡ false → Acted (k + 1) (size b) o (RunAs p b (k + 1) t o) (step_in actor b (k + 1) (k + 1) t o))
        → Acted k (spread b f u) o (RunAs p (act (scope xs z) (trio b f u)) k t o) (step_in actor (act (scope xs z) (trio b f u)) y₀ k t o)
    unfolding Its Whole part part_at size
    live-steps lt (waits-first e w) d x q i =
        subst (λ (r : Outcome). Acted k (spread b f u) o (RunAs p (act (scope xs z) (trio b f u)) k t o) r)
        (sym (body-step xs z b f u y₀ k t active o lt e ((i _ w d).kept.below k (omega arith) ∙ x) (λ n. absurd (omega (arith, n)))))
        (steps-run xs z b f u y₀ k t o (Running (scope_at xs k (trio b f u))) (λ ms m z. z) (from_body (scope_at xs k (trio b f u)) (step_in actor b (k + 1) (k + 1) t o))
        (from-live p (scope_at xs k (trio b f u)) t o (step_in actor b (k + 1) (k + 1) t o) h x q (omega arith) (i _ w d)))
    live-steps lt (waits-later e w) d x q i = absurd (quiet-waits-in w d q)

    turned-steps : {c : Bool} → k < t → WaitsIn o.marks (trio b f u) (k + 1) t c → c ≡ false
        → Turned o.marks xs (get_or o.marks k 0) b (k + 1) (more f u) (k + 1 + size b)
        → ((x : Bool) → Waits o.marks b (k + 1) t x → x ≡ false → Stopped o.marks b (k + 1) → Acted (k + 1) (size b) o (StopAs p b (k + 1) o) (step_in actor b (k + 1) (k + 1) t o))
        → ((x : Bool) → Waits o.marks b (k + 1) t x → x ≡ false → Undoing o.marks b (k + 1) → (v : Bool) → phase (get_or o.marks k 0) ≡ Phase.undoes v → Acted (k + 1) (size b) o (UndoAs p (inner k) b (k + 1) t o) (step_in actor b (k + 1) (k + 1) t o))
        → HealStep xs (more f u) (k + 1 + size b) k t o
        → Steps p (scope_at xs k (trio b f u)) (Turning (scope_at xs k (trio b f u))) o (step_in actor (act (scope xs z) (trio b f u)) y₀ k t o)
    unfolding Its Whole part part_at size
    turned-steps lt (waits-first e w) d (turned-waits {w = v} q st n y) i j l =
        subst (λ (r : Outcome). Steps p (scope_at xs k (trio b f u)) (Turning (scope_at xs k (trio b f u))) o r)
        (sym (body-step xs z b f u y₀ k t (get_or o.marks k 0) o lt e ((i _ w d st).kept.below k (omega arith)) (turned-not-rest (turned-waits {xs = xs} {l = more f u} q st n y))))
        (from-stopped p v (scope_at xs k (trio b f u)) o (step_in actor b (k + 1) (k + 1) t o) h (λ x. refl) q y (omega arith) (i _ w d st))
    turned-steps lt (waits-first e w) d (turned-undoes {w = a} q st y) i j l =
        subst (λ (r : Outcome). Steps p (scope_at xs k (trio b f u)) (Turning (scope_at xs k (trio b f u))) o r)
        (sym (body-step xs z b f u y₀ k t (get_or o.marks k 0) o lt e ((j _ w d st a q).kept.below k (omega arith)) (turned-not-rest (turned-undoes {xs = xs} {l = more f u} q st y))))
        (from-undoing p a (scope_at xs k (trio b f u)) t o (step_in actor b (k + 1) (k + 1) t o) h (its-reach xs z b f u y₀ k) (λ x. refl) q y (omega arith) (j _ w d st a q))
    turned-steps lt (waits-first e w) d (turned-heals q y r) i j l = absurd (quiet-waits w d y)
    turned-steps lt (waits-later e w) d (turned-waits q st _ y) i j l = absurd (quiet-waits-in w d y)
    turned-steps lt (waits-later e w) d (turned-undoes q st y) i j l = absurd (quiet-waits-in w d y)
    turned-steps lt (waits-later e w) d (turned-heals q y r) i j l =
        let i₀ = choice_on xs (get_or o.marks k 0) in
        let n : i₀ ≤ length xs = omega (arith, choice-on xs (get_or o.marks k 0) _ refl, chosen-most xs (choice_in (get_or o.marks k 0))) in
        let v = nth-waits r w d in
        subst (λ (r : Outcome). Steps p (scope_at xs k (trio b f u)) (Turning (scope_at xs k (trio b f u))) o r) (sym (fault-step xs z b f u y₀ k i₀ t o n (nth-there r) v.0 v.1))
        (from-heals p (scope_at xs k (trio b f u)) t o _ h (its-reach xs z b f u y₀ k) q y r (omega arith) (l i₀ n _ v.2 d (nth-run r) q))

  -- Lists in a stopped body, and in one of which an undo part runs.
  abbrev pub StopInAs : Acts → (c : ℕ) → Order → List Event → Order → Result → Type 0
  StopInAs l c o g o' running = StoppedIn o'.marks l c × Does p None o g o'
  StopInAs l c o g o' over = StoppedIn o'.marks l c × Does p None o g o'
  StopInAs l c o g o' (raising x) = StoppedIn o'.marks l c × Does p None o g o'
  StopInAs l c o g o' leaving = Does p Left o g o'
  StopInAs l c o g o' undone = ⊥
  StopInAs l c o g o' (undo_raising x) = ⊥

  abbrev pub UndoInAs : Name → Acts → (c t : ℕ) → Order → List Event → Order → Result → Type 0
  UndoInAs n l c t o g o' running = UndoingIn o'.marks l c × Does p None o g o'
  UndoInAs n l c t o g o' over = ⊥
  UndoInAs n l c t o g o' (raising x) = ⊥
  UndoInAs n l c t o g o' leaving = Does p Left o g o'
  UndoInAs n l c t o g o' undone = Quiet o'.marks c (sizes l) × Does p None o g o'
  UndoInAs n l c t o g o' (undo_raising x) =
      (g ≡ raised t x ∷ []) × RunIn p (λ z. mark_of z o') n t × (inner_runs_in l c o'.marks ≡ false) × ScopesRest p o' c (sizes l) × Does p None o g o'

  module _ (a : Act) (l : Acts) (c : ℕ) (o : Order) (r : Outcome) where
    first-stopped : Acted c (size a) o (StopAs p a c o) r → StoppedIn o.marks l (c + size a) → Acted c (size a + sizes l) o (StopInAs (more a l) c o) r
    first-stopped w q = record { kept = kept-wider w.kept (omega arith) (omega arith); rooted = w.rooted; comes = go r.result w.comes }
      where
        q₁ : StoppedIn r.order.marks l (c + size a)
        q₁ = stopped-in-agree q (agree-above w.kept (omega arith))

        go : (x : Result) → StopAs p a c o r.log r.order x → StopInAs (more a l) c o r.log r.order x
        go running d = (stopped_more d.0 q₁, d.1)
        go over d = (stopped_more d.0 q₁, d.1)
        go (raising x) d = (stopped_more d.0 q₁, d.1)
        go leaving d = d
        go undone d = d
        go (undo_raising x) d = d

    later-stopped : Acted (c + size a) (sizes l) o (StopInAs l (c + size a) o) r → Stopped o.marks a c → Acted c (size a + sizes l) o (StopInAs (more a l) c o) r
    later-stopped w q = record { kept = kept-wider w.kept (omega arith) (omega arith); rooted = w.rooted; comes = go r.result w.comes }
      where
        q₁ : Stopped r.order.marks a c
        q₁ = stopped-agree q (agree-below w.kept (omega arith))

        go : (x : Result) → StopInAs l (c + size a) o r.log r.order x → StopInAs (more a l) c o r.log r.order x
        go running d = (stopped_more q₁ d.0, d.1)
        go over d = (stopped_more q₁ d.0, d.1)
        go (raising x) d = (stopped_more q₁ d.0, d.1)
        go leaving d = d
        go undone d = d
        go (undo_raising x) d = d

    module _ (n : Name) (t : ℕ) where
      first-undoing : Acted c (size a) o (UndoAs p n a c t o) r → Quiet o.marks (c + size a) (sizes l)
          → Acted c (size a + sizes l) o (UndoInAs n (more a l) c t o) r
      unfolding inner_runs size
      first-undoing w q = record { kept = kept-wider w.kept (omega arith) (omega arith); rooted = w.rooted; comes = go r.result w.comes }
        where
          q₁ : Quiet r.order.marks (c + size a) (sizes l)
          q₁ = quiet-agree q (agree-above w.kept (omega arith))

          go : (x : Result) → UndoAs p n a c t o r.log r.order x → UndoInAs n (more a l) c t o r.log r.order x
          go running d = (undoing-here d.0 q₁, d.1)
          go over d = d
          go (raising x) d = d
          go leaving d = d
          go undone d = (quiet-join d.0 q₁ refl, d.1)
          go (undo_raising n) d = (
            d.0,
            d.1,
            rw (d.2, quiet-inner-in l (c + size a) q₁),
            (λ j i x y. decide (ltb j (c + size a)) (λ z. d.3 j i x (ltb-true j (c + size a) z)) (λ z. q₁.at j (ltb-false j (c + size a) z) (omega arith))),
            d.4,
          )

      later-undoing : Acted (c + size a) (sizes l) o (UndoInAs n l (c + size a) t o) r → Quiet o.marks c (size a)
          → Acted c (size a + sizes l) o (UndoInAs n (more a l) c t o) r
      unfolding inner_runs size
      later-undoing w q = record { kept = kept-wider w.kept (omega arith) (omega arith); rooted = w.rooted; comes = go r.result w.comes }
        where
          q₁ : Quiet r.order.marks c (size a)
          q₁ = quiet-agree q (agree-below w.kept (omega arith))

          go : (x : Result) → UndoInAs n l (c + size a) t o r.log r.order x → UndoInAs n (more a l) c t o r.log r.order x
          go running d = (undoing-later q₁ d.0, d.1)
          go over d = d
          go (raising x) d = d
          go leaving d = d
          go undone d = (quiet-join q₁ d.0 refl, d.1)
          go (undo_raising n) d = (
            d.0,
            d.1,
            rw (quiet-inner a c q₁, d.2),
            (λ j i x y. decide (ltb j (c + size a)) (λ z. q₁.at j x (ltb-true j (c + size a) z)) (λ z. d.3 j i (ltb-false j (c + size a) z) (omega arith))),
            d.4,
          )

  -- an idle activity other than a scope, in a stopped body, and in one of which an undo part runs
  module _ (own : Own) (within : Acts) (k t : ℕ) (o : Order) (r : Outcome) (s : is_scope own ≡ false) (e : get_or o.marks k 0 ≡ idle) where
    stopped-combines : Acted (k + 1) (sizes within) o (StopInAs within (k + 1) o) r
        → Acted k (1 + sizes within) o (StopAs p (act own within) k o) (combines own within k t r)
    unfolding size
    stopped-combines w = go (combines-idly own within k t r s e₁)
      where
        e₁ : get_or r.order.marks k 0 ≡ idle
        e₁ = w.kept.below k (omega arith) ∙ e

        kept₁ : Kept k (1 + sizes within) o.marks r.order.marks
        kept₁ = kept-wider w.kept (omega arith) (omega arith)

        so : (x : Result) → StopInAs within (k + 1) o r.log r.order x → StopAs p (act own within) k o r.log r.order x
        so running d = (stopped-part s e₁ d.0, d.1)
        so over d = (stopped-part s e₁ d.0, d.1)
        so (raising x) d = (stopped-part s e₁ d.0, d.1)
        so leaving d = d
        so undone d = d
        so (undo_raising x) d = d

        runs_on : (x : Result) → x ≡ over → StopInAs within (k + 1) o r.log r.order x → StopAs p (act own within) k o r.log r.order running
        runs_on running i d = so running d
        runs_on over i d = so over d
        runs_on (raising x) i d = so (raising x) d
        runs_on leaving i d = absurd (let z : ◌≡◌ {A = ℕ} 0 1 = cc in omega arith)
        runs_on undone i d = absurd d
        runs_on (undo_raising x) i d = absurd d

        go : {r' : Outcome} → Idly r r' → Acted k (1 + sizes within) o (StopAs p (act own within) k o) r'
        go (idly-same i) = subst (λ (x : Outcome). Acted k (1 + sizes within) o (StopAs p (act own within) k o) x) (sym i) (record { kept = kept₁; rooted = w.rooted; comes = so r.result w.comes })
        go (idly-runs j i) =
            subst (λ (x : Outcome). Acted k (1 + sizes within) o (StopAs p (act own within) k o) x) (sym i)
            (record { kept = kept₁; rooted = w.rooted; comes = runs_on r.result j w.comes })

    undoing-combines : (n : Name) → is_name p (inner k) ≡ false → Acted (k + 1) (sizes within) o (UndoInAs n within (k + 1) t o) r
        → Acted k (1 + sizes within) o (UndoAs p n (act own within) k t o) (combines own within k t r)
    unfolding size
    undoing-combines n z w = go (combines-idly own within k t r s e₁)
      where
        e₁ : get_or r.order.marks k 0 ≡ idle
        e₁ = w.kept.below k (omega arith) ∙ e

        kept₁ : Kept k (1 + sizes within) o.marks r.order.marks
        kept₁ = kept-wider w.kept (omega arith) (omega arith)

        so : (x : Result) → UndoInAs n within (k + 1) t o r.log r.order x → UndoAs p n (act own within) k t o r.log r.order x
        so running d = (undoing-part s e₁ d.0, d.1)
        so over d = d
        so (raising x) d = d
        so leaving d = d
        so undone d = (quiet-cons e₁ d.0, d.1)
        so (undo_raising n) d = (
          d.0,
          d.1,
          inner-is own within k r.order.marks false s ∙ d.2,
          (λ j i x y. decide (eqb j k) (λ v. rw (eqb-true j k v) e₁) (λ v. d.3 j i (omega (arith, eqb-false j k v)) (omega arith))),
          d.4,
        )

        never : (x : Result) → x ≡ over → UndoInAs n within (k + 1) t o r.log r.order x → ⊥
        never running i d = let z : ◌≡◌ {A = ℕ} 0 1 = cc in omega arith
        never over i d = d
        never (raising x) i d = d
        never leaving i d = let z : ◌≡◌ {A = ℕ} 0 1 = cc in omega arith
        never undone i d = let z : ◌≡◌ {A = ℕ} 0 1 = cc in omega arith
        never (undo_raising x) i d = let z : ◌≡◌ {A = ℕ} 0 1 = cc in omega arith

        go : {r' : Outcome} → Idly r r' → Acted k (1 + sizes within) o (UndoAs p n (act own within) k t o) r'
        go (idly-same i) = subst (λ (x : Outcome). Acted k (1 + sizes within) o (UndoAs p n (act own within) k t o) x) (sym i) (record { kept = kept₁; rooted = w.rooted; comes = so r.result w.comes })
        go (idly-runs j i) = absurd (never r.result j w.comes)

  -- An undo part that runs.

  -- marks before a scope that a step in it keeps
  kept-before : {k n : ℕ} (o o' : Order) → Kept k n o.marks o'.marks → o'.root ≡ o.root → (s : Name) → Before s k → phase (mark_of s o') ≡ phase (mark_of s o)
  kept-before {k} o o' w e s b = ap phase (mark-kept s k o o' b (omega arith) e w)

  undo-acts : {n c : Name} {ns : List Name} (xs : List ℕ) (b f : Act) (u : Acts) (k t : ℕ) (m : Name) (o : Order) (r : Outcome) → Known p (inner_at xs true k n ns (trio b f u))
      → Spot p (body_of n ns c) k → Remedy p (undo_of n ns c) (part (undo_part xs) (trio b f u)) (part_at (undo_part xs) (trio b f u) (k + 1)) → runner_at (λ z. mark_of z o) n ns ≡ m
      → get_or o.marks k 0 ≡ idle → count (trio b f u) ≡ suc (undo_part xs) → Nth o.marks (undo_part xs) (trio b f u) (k + 1)
      → part_at (undo_part xs) (trio b f u) (k + 1) ≤ t → t < part_at (undo_part xs) (trio b f u) (k + 1) + size (part (undo_part xs) (trio b f u))
      → Acted (part_at (undo_part xs) (trio b f u) (k + 1)) (size (part (undo_part xs) (trio b f u))) o (RunAs p (part (undo_part xs) (trio b f u)) (part_at (undo_part xs) (trio b f u) (k + 1)) t o) r
      → Acted k (spread b f u) o (UndoAs p m (act (scope xs true) (trio b f u)) k t o) (from_undo r)
  unfolding from_undo size kind inner_runs
  undo-acts {n} {c} {ns} xs b f u k t m o r kn v₀ su y e c₀ q h i w =
      record { kept = kept₁; rooted = w.rooted; comes = go r.result w.comes }
    where
      at : ℕ
      at = part_at (undo_part xs) (trio b f u) (k + 1)

      many : ℕ
      many = size (part (undo_part xs) (trio b f u))

      from : k + 1 ≤ at
      from = part-from (undo_part xs) (trio b f u) (k + 1)

      kept₁ : Kept k (spread b f u) o.marks r.order.marks
      kept₁ = kept-wider w.kept (omega (arith, from)) (omega (arith, part-to (undo_part xs) (trio b f u) (k + 1) (nth-there q)))

      e₁ : get_or r.order.marks k 0 ≡ idle
      e₁ = w.kept.below k (omega (arith, from)) ∙ e

      go : (x : Result) → RunAs p (part (undo_part xs) (trio b f u)) at t o r.log r.order x
          → UndoAs p m (act (scope xs true) (trio b f u)) k t o r.log r.order
          (elim x [ running ↦ running | over ↦ undone | raising n ↦ undo_raising n | leaving ↦ leaving | undone ↦ undone | undo_raising n ↦ undo_raising n ])
      go running d = (undoing-scope e₁ c₀ (nth-goes q w.kept d.0), d.1)
      go over d = (quiet-cons e₁ (nth-ends q w.kept d.0), d.1)
      go (raising m) d = (
        d.2 (remedy-bare su),
        record {
          whose = inner_at xs true k n ns (trio b f u);
          known = kn;
          within = rw (le-leb at t h, lt-ltb t (at + many) i);
          runner = (runner-kept (λ z. mark_of z o) (λ z. mark_of z r.order) n ns k (kept-before o r.order kept₁ w.rooted) v₀.before.0 v₀.before.1).0 ∙ y;
        },
        rw e₁,
        (λ j v x y. decide (eqb j k) (λ z. rw (eqb-true j k z) e₁) (λ z. decide (ltb j at)
            (λ c. w.kept.below j (ltb-true j at c) ∙ nth-below q j (omega (arith, eqb-false j k z)) (ltb-true j at c))
            (λ c. decide (ltb j (at + many))
            (λ a. absurd (false≢true (sym (remedy-names su j (ltb-false j at c) (ltb-true j (at + many) a)) ∙ v)))
            (λ a. w.kept.above j (ltb-false j (at + many) a) ∙ nth-above q j (ltb-false j (at + many) a) (omega arith))))),
        d.1,
      )
      go leaving d = d
      go undone d = absurd d
      go (undo_raising x) d = absurd d

  -- what a scope with no undo part that is not left running makes of an undo part in its body: it goes through
  through-acts : (xs : List ℕ) (b f : Act) (u : Acts) (y₀ k t : ℕ) (m : Name) (o : Order) → get_or o.marks k 0 ≡ idle → Quiet o.marks (k + 1 + size b) (size f + sizes u)
      → k < t → t < k + 1 + size b
      → Acted (k + 1) (size b) o (UndoAs p m b (k + 1) t o) (step_in actor b (k + 1) (k + 1) t o)
      → Acted k (spread b f u) o (UndoAs p m (act (scope xs false) (trio b f u)) k t o) (step_in actor (act (scope xs false) (trio b f u)) y₀ k t o)
  unfolding Whole Its size inner_runs
  through-acts xs b f u y₀ k t m o e q h i w =
      subst (λ (x : Outcome). Acted k (spread b f u) o (UndoAs p m (act (scope xs false) (trio b f u)) k t o) x) (sym (through-step xs false b f u y₀ k t o (goes_through false k r) h i refl))
      (go r.result w.comes)
    where
      r : Outcome
      r = step_in actor b (k + 1) (k + 1) t o

      s : Scope
      s = scope_at xs k (trio b f u)

      e₁ : get_or r.order.marks k 0 ≡ idle
      e₁ = w.kept.below k (omega arith) ∙ e

      q₁ : Quiet r.order.marks (k + 1 + size b) (size f + sizes u)
      q₁ = quiet-agree q (agree-above w.kept (omega arith))

      kept₁ : Kept k (spread b f u) o.marks r.order.marks
      kept₁ = kept-wider w.kept (omega arith) (omega arith)

      Goal : Result → Type 0
      Goal x =
          let r₁ : Outcome = record { result = x; order = r.order; log = r.log } in
          Acted k (spread b f u) o (UndoAs p m (act (scope xs false) (trio b f u)) k t o) (elim (goes_through false k r₁) [ true ↦ r₁ | false ↦ from_body s r₁ ])

      as-it-is : (x : Result) → goes_through false k (record { result = x; order = r.order; log = r.log }) ≡ true
          → UndoAs p m (act (scope xs false) (trio b f u)) k t o r.log r.order x → Goal x
      as-it-is x g c =
          subst (λ (z : Bool). Acted k (spread b f u) o (UndoAs p m (act (scope xs false) (trio b f u)) k t o)
          (elim z [ true ↦ record { result = x; order = r.order; log = r.log } | false ↦ from_body s (record { result = x; order = r.order; log = r.log }) ])) (sym g)
          (record { kept = kept₁; rooted = w.rooted; comes = c })

      go : (x : Result) → UndoAs p m b (k + 1) t o r.log r.order x → Goal x
      go running d = runs_on p r.log s k o r.order (spread b f u) (UndoAs p m (act (scope xs false) (trio b f u)) k t o) e₁ kept₁ w.rooted refl (undoing-through e₁ d.0 q₁, d.1)
      go over d = absurd d
      go (raising x) d = absurd d
      go leaving d = leaves-on p r.log s k o r.order (spread b f u) (UndoAs p m (act (scope xs false) (trio b f u)) k t o) e₁ kept₁ w.rooted d
      go undone d = as-it-is undone (through-told k r.order undone r.log e₁ refl) (quiet-cons e₁ (quiet-join d.0 q₁ refl), d.1)
      go (undo_raising n) d =
          as-it-is (undo_raising n) (through-told k r.order (undo_raising n) r.log e₁ refl) (
            d.0,
            d.1,
            rw e₁,
            (λ j v x y. decide (eqb j k) (λ z. rw (eqb-true j k z) e₁) (λ z. decide (ltb j (k + 1 + size b))
                (λ c. d.3 j v (omega (arith, eqb-false j k z)) (ltb-true j (k + 1 + size b) c))
                (λ c. q₁.at j (ltb-false j (k + 1 + size b) c) (omega arith)))),
            d.4,
          )

  -- Where a step is not a part's own, there is no arm to be taken.
  not-part : (l : Acts) (c t : ℕ) → t < c → is_part l c t ≡ false
  unfolding is_part
  not-part none c t h = refl
  not-part (more a l) c t h = rw (ne_eqb c t (omega arith), not-part l (c + size a) t (omega arith))

  positive : (a : Act) → 1 ≤ size a
  unfolding size
  positive (act own within) = omega arith

  pub stopped-part-not : {ms : List ℕ} {l : Acts} {c t : ℕ} {b : Bool} → StoppedIn ms l c → WaitsIn ms l c t b → b ≡ false → is_part l c t ≡ false
  unfolding is_part
  stopped-part-not {ms = ms} {t = t} {b = b} (stopped_none {c = c}) z f = elim z [ ]
  stopped-part-not (stopped_more {a} {l} {c} x y) (waits-first {t = t} h w) f =
      rw (ne_eqb c t (omega (arith, stopped-waits x w f)), not-part l (c + size a) t h)
  stopped-part-not (stopped_more {a} {l} {c} x y) (waits-later {t = t} h w) f =
      rw (ne_eqb c t (omega (arith, positive a)), stopped-part-not y w f)

  pub undoing-part-not : {ms : List ℕ} {l : Acts} {c t : ℕ} {b : Bool} → UndoingIn ms l c → WaitsIn ms l c t b → b ≡ false → is_part l c t ≡ false
  unfolding is_part size
  undoing-part-not (undoing-here {a} {l} {c} x y) (waits-first {t = t} h w) f =
      rw (ne_eqb c t (omega (arith, undoing-waits x w f)), not-part l (c + size a) t h)
  undoing-part-not (undoing-here {a} {l} {c} x y) (waits-later {t = t} h w) f = absurd (quiet-waits-in w f y)
  undoing-part-not (undoing-later {a} {l} {c} x y) (waits-first {t = t} h w) f = absurd (quiet-waits w f x)
  undoing-part-not (undoing-later {a} {l} {c} x y) (waits-later {t = t} h w) f =
      rw (ne_eqb c t (omega (arith, positive a)), undoing-part-not y w f)

  -- A step in an idle activity other than a scope.
  stopped-steps : (own : Own) (within : Acts) (y₀ k t : ℕ) (o : Order) (b : Bool) → is_scope own ≡ false → Waits o.marks (act own within) k t b
      → b ≡ false → Stopped o.marks (act own within) k
      → ((c : Bool) → WaitsIn o.marks within (k + 1) t c → c ≡ false → StoppedIn o.marks within (k + 1) → Acted (k + 1) (sizes within) o (StopInAs within (k + 1) o) (step_among actor within false y₀ (k + 1) t o))
      → Acted k (1 + sizes within) o (StopAs p (act own within) k o) (step_in actor (act own within) y₀ k t o)
  unfolding kind size
  stopped-steps own within y₀ k t o b s (waits-itself e d) f r g = absurd (no_less (stopped-waits r (waits-itself e d) f) e)
    where
      no_less : k < t → k ≡ t → ⊥
      no_less y z = omega arith
  stopped-steps own within y₀ k t o b s (waits-within h w) f (stopped-part s₁ e l) g =
      let z : opens own (get_or o.marks k 0) ≡ false = opens-idle own (get_or o.marks k 0) e in
      subst (λ (r : Outcome). Acted k (1 + sizes within) o (StopAs p (act own within) k o) r)
      (sym (step_is actor own within y₀ k t o false s (ne_eqb k t (omega arith)) ∙ ap (λ (x : Order). combines own within k t (step_among actor within false y₀ (k + 1) t x)) (arms_none own within k t o (stopped-part-not l w z))))
      (stopped-combines own within k t o (step_among actor within false y₀ (k + 1) t o) s e (g _ w z l))
  stopped-steps own within y₀ k t o b s (waits-within h w) f (stopped-quiet q) g = absurd (quiet-waits-in w (opens-idle own (get_or o.marks k 0) (q.at k (omega arith) (omega arith))) (quiet-part q (omega arith) (omega arith)))
  stopped-steps own within y₀ k t o b s (waits-within h w) f (stopped-scope x) g = absurd (false≢true (sym s))

  undoing-steps : {n : Name} (own : Own) (within : Acts) (y₀ k t : ℕ) (o : Order) (b : Bool) → is_scope own ≡ false → is_name p (inner k) ≡ false
      → Waits o.marks (act own within) k t b → b ≡ false
      → Undoing o.marks (act own within) k
      → ((c : Bool) → WaitsIn o.marks within (k + 1) t c → c ≡ false → UndoingIn o.marks within (k + 1) → Acted (k + 1) (sizes within) o (UndoInAs n within (k + 1) t o) (step_among actor within false y₀ (k + 1) t o))
      → Acted k (1 + sizes within) o (UndoAs p n (act own within) k t o) (step_in actor (act own within) y₀ k t o)
  unfolding kind size
  undoing-steps own within y₀ k t o b s z (waits-itself e d) f r g = absurd (no_less (undoing-waits r (waits-itself e d) f) e)
    where
      no_less : k < t → k ≡ t → ⊥
      no_less y z = omega arith
  undoing-steps {n} own within y₀ k t o b s z (waits-within h w) f (undoing-part s₁ e l) g =
      let y : opens own (get_or o.marks k 0) ≡ false = opens-idle own (get_or o.marks k 0) e in
      subst (λ (r : Outcome). Acted k (1 + sizes within) o (UndoAs p n (act own within) k t o) r)
      (sym (step_is actor own within y₀ k t o false s (ne_eqb k t (omega arith)) ∙ ap (λ (x : Order). combines own within k t (step_among actor within false y₀ (k + 1) t x)) (arms_none own within k t o (undoing-part-not l w y))))
      (undoing-combines own within k t o (step_among actor within false y₀ (k + 1) t o) s e n z (g _ w y l))
  undoing-steps own within y₀ k t o b s z (waits-within h w) f (undoing-scope x q r) g = absurd (false≢true (sym s))
  undoing-steps own within y₀ k t o b s z (waits-within h w) f (undoing-through x q r) g = absurd (false≢true (sym s))

  -- A step in a scope, as it stands.
  module _ (xs : List ℕ) (z : Bool) (b f : Act) (u : Acts) (y₀ k t : ℕ) (o : Order) (h : Seat p (scope_at xs k (trio b f u))) (m : k + (spread b f u) ≤ length o.marks)
      (i : (x : Bool) → Waits o.marks b (k + 1) t x → x ≡ false → Stopped o.marks b (k + 1) → Acted (k + 1) (size b) o (StopAs p b (k + 1) o) (step_in actor b (k + 1) (k + 1) t o))
      (j : (x : Bool) → Waits o.marks b (k + 1) t x → x ≡ false → Undoing o.marks b (k + 1) → (v : Bool) → phase (get_or o.marks k 0) ≡ Phase.undoes v → Acted (k + 1) (size b) o (UndoAs p (inner k) b (k + 1) t o) (step_in actor b (k + 1) (k + 1) t o))
      (l : HealStep xs (more f u) (k + 1 + size b) k t o) where
    scope-runs : {n a : Name} {ns : List Name} {c : Bool} → y₀ ≡ body_of_name n → Known p (inner_at xs z k n ns (trio b f u)) → Spot p (body_of n ns a) k → phase (mark_of n o) ≡ live
        → Waits o.marks (act (scope xs z) (trio b f u)) k t c → c ≡ false → Run o.marks (act (scope xs z) (trio b f u)) k
        → ((x : Bool) → Waits o.marks b (k + 1) t x → x ≡ false → Run o.marks b (k + 1) → get_or o.marks k 0 ≡ active → Acted (k + 1) (size b) o (RunAs p b (k + 1) t o) (step_in actor b (k + 1) (k + 1) t o))
        → Acted k (spread b f u) o (RunAs p (act (scope xs z) (trio b f u)) k t o) (step_in actor (act (scope xs z) (trio b f u)) y₀ k t o)
    unfolding awaits kind itself size Its Whole
    scope-runs y₁ kn y v (waits-itself e d) c (run-awaits s _ x q) g = absurd (false≢true (sym s))
    scope-runs y₁ kn y v (waits-itself e d) c (run-one s x r) g = absurd (false≢true (sym s))
    scope-runs y₁ kn y v (waits-itself e d) c (run-body x r q) g = absurd (false≢true (rw x at d))
    scope-runs y₁ kn y v (waits-itself e d) c (run-done x q) g =
        subst (λ (r : Outcome). Acted k (spread b f u) o (RunAs p (act (scope xs z) (trio b f u)) k t o) r) (sym (scope-is actor xs z (trio b f u) y₀ k t o true (eq-eqb k t e)))
        (subst (λ (j : ℕ). Acted k (spread b f u) o (RunAs p (act (scope xs z) (trio b f u)) k j o) (closing z y₀ k (scope_at xs k (trio b f u)) o)) e (closes xs z b f u y₀ k o y₁ kn y h v x q (omega arith)))
    scope-runs y₁ kn y v (waits-itself e d) c (run-turned x) g = absurd (false≢true (sym (turned-not-open x) ∙ rw (d, or-true)))
    scope-runs y₁ kn y v (waits-within e w) c (run-awaits s _ x q) g = absurd (false≢true (sym s))
    scope-runs y₁ kn y v (waits-within e w) c (run-one s x r) g = absurd (false≢true (sym s))
    scope-runs y₁ kn y v (waits-within e w) c (run-body x r q) g = live-steps xs z b f u y₀ k t o h m e w refl x q (λ a z d. g a z d r x)
    scope-runs y₁ kn y v (waits-within e w) c (run-done x q) g = absurd (quiet-waits-in w refl (quiet-part q (omega arith) (omega arith)))
    scope-runs y₁ kn y v (waits-within e w) c (run-turned x) g =
        steps-run xs z b f u y₀ k t o (Turning (scope_at xs k (trio b f u))) (λ ms a. scope-turned) (step_in actor (act (scope xs z) (trio b f u)) y₀ k t o) (turned-steps xs z b f u y₀ k t o h m e w refl x i j l)

    scope-stops : {c : Bool} → Waits o.marks (act (scope xs z) (trio b f u)) k t c → c ≡ false → Stopped o.marks (act (scope xs z) (trio b f u)) k
        → Acted k (spread b f u) o (StopAs p (act (scope xs z) (trio b f u)) k o) (step_in actor (act (scope xs z) (trio b f u)) y₀ k t o)
    unfolding kind size Its Whole
    scope-stops w c (stopped-part s x q) = absurd (false≢true (sym s))
    scope-stops w c (stopped-quiet q) = absurd (quiet-waits w c q)
    scope-stops (waits-itself e d) c (stopped-scope x) = absurd (no_less (stopped-waits (stopped-scope {v = z} x) (waits-itself e d) c) e)
      where
        no_less : k < t → k ≡ t → ⊥
        no_less y z = omega arith
    scope-stops (waits-within e w) c (stopped-scope x) = steps-stop xs z b f u y₀ k t o (step_in actor (act (scope xs z) (trio b f u)) y₀ k t o) (turned-steps xs z b f u y₀ k t o h m e w refl x i j l)

  scope-undoes : {n a : Name} {ns : List Name} {c : Bool} (xs : List ℕ) (b f : Act) (u : Acts) (y₀ k t : ℕ) (m : Name) (o : Order) → Known p (inner_at xs true k n ns (trio b f u)) → Spot p (body_of n ns a) k
      → Remedy p (undo_of n ns a) (part (undo_part xs) (trio b f u)) (part_at (undo_part xs) (trio b f u) (k + 1)) → runner_at (λ z. mark_of z o) n ns ≡ m
      → Waits o.marks (act (scope xs true) (trio b f u)) k t c → c ≡ false → Undoing o.marks (act (scope xs true) (trio b f u)) k
      → ((x : Bool) → Waits o.marks (part (undo_part xs) (trio b f u)) (part_at (undo_part xs) (trio b f u) (k + 1)) t x → x ≡ false
      → Run o.marks (part (undo_part xs) (trio b f u)) (part_at (undo_part xs) (trio b f u) (k + 1))
      → Acted (part_at (undo_part xs) (trio b f u) (k + 1)) (size (part (undo_part xs) (trio b f u))) o (RunAs p (part (undo_part xs) (trio b f u)) (part_at (undo_part xs) (trio b f u) (k + 1)) t o)
      (step_in actor (part (undo_part xs) (trio b f u)) (part_at (undo_part xs) (trio b f u) (k + 1)) (part_at (undo_part xs) (trio b f u) (k + 1)) t o))
      → Acted k (spread b f u) o (UndoAs p m (act (scope xs true) (trio b f u)) k t o) (step_in actor (act (scope xs true) (trio b f u)) y₀ k t o)
  unfolding kind Its Whole
  scope-undoes xs b f u y₀ k t m o kn v su y w c (undoing-part s x q) g = absurd (false≢true (sym s))
  scope-undoes xs b f u y₀ k t m o kn v su y (waits-itself e d) c (undoing-scope x n r) g = absurd (no_less (undoing-waits (undoing-scope x n r) (waits-itself e d) c) e)
    where
      no_less : k < t → k ≡ t → ⊥
      no_less y z = omega arith
  scope-undoes xs b f u y₀ k t m o kn v su y (waits-within e w) c (undoing-scope x n r) g =
      let z = nth-waits r w refl in
      subst (λ (v : Outcome). Acted k (spread b f u) o (UndoAs p m (act (scope xs true) (trio b f u)) k t o) v) (sym (undo-step xs b f u y₀ k t o (nth-there r) z.0 z.1))
      (undo-acts xs b f u k t m o _ kn v su y x n r z.0 z.1 (g _ z.2 refl (nth-run r)))

  -- and in one with no undo part, that was looked through
  scope-through : {c : Bool} (xs : List ℕ) (b f : Act) (u : Acts) (y₀ k t : ℕ) (m : Name) (o : Order)
      → Waits o.marks (act (scope xs false) (trio b f u)) k t c → c ≡ false → Undoing o.marks (act (scope xs false) (trio b f u)) k
      → ((x : Bool) → Waits o.marks b (k + 1) t x → x ≡ false → Undoing o.marks b (k + 1) → get_or o.marks k 0 ≡ idle
      → Acted (k + 1) (size b) o (UndoAs p m b (k + 1) t o) (step_in actor b (k + 1) (k + 1) t o))
      → Acted k (spread b f u) o (UndoAs p m (act (scope xs false) (trio b f u)) k t o) (step_in actor (act (scope xs false) (trio b f u)) y₀ k t o)
  unfolding size
  scope-through xs b f u y₀ k t m o w c (undoing-part s x q) g = absurd (false≢true (sym s))
  scope-through xs b f u y₀ k t m o (waits-itself e d) c (undoing-through x r q) g = absurd (no_less (undoing-waits (undoing-through {xs = xs} {f = f} {u = u} x r q) (waits-itself e d) c) e)
    where
      no_less : k < t → k ≡ t → ⊥
      no_less y z = omega arith
  scope-through xs b f u y₀ k t m o (waits-within e (waits-first d w)) c (undoing-through x r q) g = through-acts xs b f u y₀ k t m o x q e d (g _ w refl r x)
  scope-through xs b f u y₀ k t m o (waits-within e (waits-later d w)) c (undoing-through x r q) g = absurd (quiet-waits-in w refl q)

  -- which is the step of its body
  pub through-is : (xs : List ℕ) (b f : Act) (u : Acts) (y₀ k t : ℕ) (m : Name) (o : Order) → get_or o.marks k 0 ≡ idle → k < t → t < k + 1 + size b
      → Acted (k + 1) (size b) o (UndoAs p m b (k + 1) t o) (step_in actor b (k + 1) (k + 1) t o)
      → step_in actor (act (scope xs false) (trio b f u)) y₀ k t o ≡ step_in actor b (k + 1) (k + 1) t o
  unfolding Whole Its
  through-is xs b f u y₀ k t m o e h d w =
      through-step xs false b f u y₀ k t o (goes_through false k r) h d refl
      ∙ through-so (scope_at xs k (trio b f u)) k r.order r.result r.log refl (w.kept.below k (omega arith) ∙ e)
      (λ z. subst (λ (x : Result). UndoAs p m b (k + 1) t o r.log r.order x) z w.comes)
      (λ n z. subst (λ (x : Result). UndoAs p m b (k + 1) t o r.log r.order x) z w.comes)
    where
      r : Outcome
      r = step_in actor b (k + 1) (k + 1) t o

  -- Every step in a tree that runs, in a stopped body, and in one of which an undo part runs.
  -- a scope that undoes runs its undo parts itself
  pub awake-first : (mk : Name → ℕ) (n : Name) (ns : List Name) (v : Bool) → phase (mk n) ≡ Phase.undoes v → runner_at mk n ns ≡ n
  awake-first mk n [] v e = refl
  awake-first mk n (x ∷ xs) v e = rw e

  mutual
    unfolding size kind bare Here part part_at

    pub steps : {x : Place} {a : Act} {k : ℕ} → Sits p x a k → (y₀ t : ℕ) (o : Order) (b : Bool) → PartOf x y₀ → Waits o.marks a k t b → b ≡ false → Run o.marks a k
        → Fit x o → k + size a ≤ length o.marks → Acted k (size a) o (RunAs p a k t o) (step_in actor a y₀ k t o)
    steps (sits-part {q = x} {own} {within} {k} s g u y l) y₀ t o b y₁ w e r v m =
        part-steps own within y₀ k t o b s g y.no_scope u v l m w e r
        (λ c w₁ e₁ r₁. steps-one l y₀ t o c y₁ w₁ e₁ r₁ v (omega arith))
        (λ c w₁ e₁ r₁. steps_all l y₀ t o c y₁ w₁ e₁ r₁ v (omega arith))
    steps (sits-scope {xs} {v = z₀} {n} {c = a} {ns} {b} {f} {u} {k} kn d i sb z) y₀ t o c y₁ w e r v m =
        scope-runs xs z₀ b f u y₀ k t o (seat-of kn d i sb z) m
        (λ x w₁ e₁ r₁. steps-stopped sb (k + 1) t o x refl w₁ e₁ r₁ (omega arith))
        (λ x w₁ e₁ r₁ v y. steps-undoing sb (k + 1) t o x refl w₁ e₁ r₁ (inner k) (awake-first (λ n. mark_of n o) (inner k) (cond z₀ [] (n ∷ ns)) v y)
        (v, ap (λ (n : Name). phase (mark_of n o)) (awake-first (λ n. mark_of n o) (inner k) (cond z₀ [] (n ∷ ns)) v y) ∙ y) (omega arith))
        (λ i₀ n₀ x w₁ e₁ r₁ y. steps-healers z i₀ t o x n₀ (λ j. tt) w₁ e₁ r₁ y (omega arith))
        y₁ kn d v w e r
        (λ x w₁ e₁ r₁ y. steps sb (k + 1) t o x refl w₁ e₁ r₁ (ap phase y) (omega arith))

    pub steps-one : {x : Place} {l : Acts} {c : ℕ} → SitsIn p x l c → (y₀ t : ℕ) (o : Order) (b : Bool) → PartOf x y₀ → WaitsIn o.marks l c t b → b ≡ false → One o.marks l c
        → Fit x o → c + sizes l ≤ length o.marks → Acted c (sizes l) o (OneAs p l c t o) (step_among actor l false y₀ c t o)
    steps-one (sits-none {q = q} {c = c}) y₀ t o b y₁ z e _ v m = elim z [ ]
    steps-one (sits-more {q = x} {a} {l} {c} s y) y₀ t o b y₁ (waits-first h w) e (one-here r q) v m =
        subst (λ (z : Outcome). Acted c (size a + sizes l) o (OneAs p (more a l) c t o) z) (sym (among-is actor a l y₀ c t o true (lt-ltb t (c + size a) h)))
        (first_one a l c t o (step_in actor a y₀ c t o) (steps s y₀ t o b y₁ w e r v (omega arith)) q)
    steps-one (sits-more {q = x} {a} {l} {c} s y) y₀ t o b y₁ (waits-later h w) e (one-here r q) v m = absurd (quiet-waits-in w e q)
    steps-one (sits-more {q = x} {a} {l} {c} s y) y₀ t o b y₁ (waits-first h w) e (one_later q r) v m = absurd (quiet-waits w e q)
    steps-one (sits-more {q = x} {a} {l} {c} s y) y₀ t o b y₁ (waits-later h w) e (one_later q r) v m =
        subst (λ (z : Outcome). Acted c (size a + sizes l) o (OneAs p (more a l) c t o) z) (sym (among-is actor a l y₀ c t o false (le-ltb t (c + size a) h)))
        (later-one a l c t o (step_among actor l false y₀ (c + size a) t o) (steps-one y y₀ t o b y₁ w e r v (omega arith)) q)

    pub steps_all : {x : Place} {l : Acts} {c : ℕ} → SitsIn p x l c → (y₀ t : ℕ) (o : Order) (b : Bool) → PartOf x y₀ → WaitsIn o.marks l c t b → b ≡ false → All o.marks l c
        → Fit x o → c + sizes l ≤ length o.marks → Acted c (sizes l) o (AllAs p l c t o) (step_among actor l false y₀ c t o)
    steps_all (sits-none {q = q} {c = c}) y₀ t o b y₁ z e _ v m = elim z [ ]
    steps_all (sits-more {q = x} {a} {l} {c} s y) y₀ t o b y₁ (waits-first h w) e (all-run r q) v m =
        subst (λ (z : Outcome). Acted c (size a + sizes l) o (AllAs p (more a l) c t o) z) (sym (among-is actor a l y₀ c t o true (lt-ltb t (c + size a) h)))
        (first-all a l c t o (step_in actor a y₀ c t o) (steps s y₀ t o b y₁ w e r v (omega arith)) q)
    steps_all (sits-more {q = x} {a} {l} {c} s y) y₀ t o b y₁ (waits-first h w) e (all_quiet q r) v m = absurd (quiet-waits w e q)
    steps_all (sits-more {q = x} {a} {l} {c} s y) y₀ t o b y₁ (waits-later h w) e (all-run r q) v m =
        subst (λ (z : Outcome). Acted c (size a + sizes l) o (AllAs p (more a l) c t o) z) (sym (among-is actor a l y₀ c t o false (le-ltb t (c + size a) h)))
        (later-all a l c t o (step_among actor l false y₀ (c + size a) t o) (steps_all y y₀ t o b y₁ w e q v (omega arith))
        (λ ms g z. all-run (run_agree r g) z) (λ ms g z. able-more (able-run (run_agree r g)) z))
    steps_all (sits-more {q = x} {a} {l} {c} s y) y₀ t o b y₁ (waits-later h w) e (all_quiet q r) v m =
        subst (λ (z : Outcome). Acted c (size a + sizes l) o (AllAs p (more a l) c t o) z) (sym (among-is actor a l y₀ c t o false (le-ltb t (c + size a) h)))
        (later-all a l c t o (step_among actor l false y₀ (c + size a) t o) (steps_all y y₀ t o b y₁ w e r v (omega arith))
        (λ ms g z. all_quiet (quiet-agree q g) z) (λ ms g z. able-more (able-quiet (quiet-agree q g)) z))

    pub steps-stopped : {x : Place} {a : Act} {k : ℕ} → Sits p x a k → (y₀ t : ℕ) (o : Order) (b : Bool) → PartOf x y₀ → Waits o.marks a k t b → b ≡ false → Stopped o.marks a k
        → k + size a ≤ length o.marks → Acted k (size a) o (StopAs p a k o) (step_in actor a y₀ k t o)
    steps-stopped (sits-part {q = x} {own} {within} {k} s g u y l) y₀ t o b y₁ w e r m =
        stopped-steps own within y₀ k t o b s w e r (λ c w₁ e₁ r₁. steps-stopped-in l y₀ t o c y₁ w₁ e₁ r₁ (omega arith))
    steps-stopped (sits-scope {xs} {v = z₀} {n} {c = a} {ns} {b} {f} {u} {k} kn d i sb z) y₀ t o c y₁ w e r m =
        scope-stops xs z₀ b f u y₀ k t o (seat-of kn d i sb z) m
        (λ x w₁ e₁ r₁. steps-stopped sb (k + 1) t o x refl w₁ e₁ r₁ (omega arith))
        (λ x w₁ e₁ r₁ v y. steps-undoing sb (k + 1) t o x refl w₁ e₁ r₁ (inner k) (awake-first (λ n. mark_of n o) (inner k) (cond z₀ [] (n ∷ ns)) v y)
        (v, ap (λ (n : Name). phase (mark_of n o)) (awake-first (λ n. mark_of n o) (inner k) (cond z₀ [] (n ∷ ns)) v y) ∙ y) (omega arith))
        (λ i₀ n₀ x w₁ e₁ r₁ y. steps-healers z i₀ t o x n₀ (λ j. tt) w₁ e₁ r₁ y (omega arith))
        w e r

    pub steps-stopped-in : {x : Place} {l : Acts} {c : ℕ} → SitsIn p x l c → (y₀ t : ℕ) (o : Order) (b : Bool) → PartOf x y₀ → WaitsIn o.marks l c t b → b ≡ false
        → StoppedIn o.marks l c
        → c + sizes l ≤ length o.marks → Acted c (sizes l) o (StopInAs l c o) (step_among actor l false y₀ c t o)
    steps-stopped-in (sits-none {q = q} {c = c}) y₀ t o b y₁ z e _ m = elim z [ ]
    steps-stopped-in (sits-more {q = x} {a} {l} {c} s y) y₀ t o b y₁ (waits-first h w) e (stopped_more r q) m =
        subst (λ (z : Outcome). Acted c (size a + sizes l) o (StopInAs (more a l) c o) z) (sym (among-is actor a l y₀ c t o true (lt-ltb t (c + size a) h)))
        (first-stopped a l c o (step_in actor a y₀ c t o) (steps-stopped s y₀ t o b y₁ w e r (omega arith)) q)
    steps-stopped-in (sits-more {q = x} {a} {l} {c} s y) y₀ t o b y₁ (waits-later h w) e (stopped_more r q) m =
        subst (λ (z : Outcome). Acted c (size a + sizes l) o (StopInAs (more a l) c o) z) (sym (among-is actor a l y₀ c t o false (le-ltb t (c + size a) h)))
        (later-stopped a l c o (step_among actor l false y₀ (c + size a) t o) (steps-stopped-in y y₀ t o b y₁ w e q (omega arith)) r)

    pub steps-undoing : {x : Place} {a : Act} {k : ℕ} → Sits p x a k → (y₀ t : ℕ) (o : Order) (b : Bool) → PartOf x y₀ → Waits o.marks a k t b → b ≡ false → Undoing o.marks a k
        → (m : Name) → runner_at (λ n. mark_of n o) (name_of x) (beyond_of x) ≡ m
        → Fit (undo_of (name_of x) (beyond_of x) (last_of x)) o → k + size a ≤ length o.marks → Acted k (size a) o (UndoAs p m a k t o) (step_in actor a y₀ k t o)
    steps-undoing (sits-part {q = x} {own} {within} {k} s g u y l) y₀ t o b y₁ w e r m₀ y₂ v m =
        undoing-steps own within y₀ k t o b s y.no_scope w e r (λ c w₁ e₁ r₁. steps-undoing-in l y₀ t o c y₁ w₁ e₁ r₁ m₀ y₂ v (omega arith))
    steps-undoing (sits-scope {v = true} kn d i sb z) y₀ t o c y₁ w e (undoing-part s x q) m₀ y₂ v m = absurd (false≢true (sym s))
    steps-undoing (sits-scope {xs} {v = true} {n} {c = a} {ns} {b} {f} {u} {k} kn d i sb z) y₀ t o c y₁ w e (undoing-scope x q r) m₀ y₂ v m =
        scope-undoes xs b f u y₀ k t m₀ o kn d (undoer z) y₂ w e (undoing-scope x q r) (λ x w₁ e₁ r₁. steps-undoer z refl t o x (λ j. tt) w₁ e₁ r₁ v (omega arith))
    steps-undoing (sits-scope {xs} {v = false} {n} {c = a} {ns} {b} {f} {u} {k} kn d i sb z) y₀ t o c y₁ w e r m₀ y₂ v m =
        scope-through xs b f u y₀ k t m₀ o w e r
        (λ x w₁ e₁ r₁ j. steps-undoing sb (k + 1) t o x refl w₁ e₁ r₁ m₀ (rw j y₂) (rw j v) (omega arith))

    pub steps-undoing-in : {x : Place} {l : Acts} {c : ℕ} → SitsIn p x l c → (y₀ t : ℕ) (o : Order) (b : Bool) → PartOf x y₀ → WaitsIn o.marks l c t b → b ≡ false
        → UndoingIn o.marks l c
        → (m : Name) → runner_at (λ n. mark_of n o) (name_of x) (beyond_of x) ≡ m
        → Fit (undo_of (name_of x) (beyond_of x) (last_of x)) o → c + sizes l ≤ length o.marks → Acted c (sizes l) o (UndoInAs m l c t o) (step_among actor l false y₀ c t o)
    steps-undoing-in (sits-none {q = q} {c = c}) y₀ t o b y₁ z e _ m₀ y₂ v m = elim z [ ]
    steps-undoing-in (sits-more {q = x} {a} {l} {c} s y) y₀ t o b y₁ (waits-first h w) e (undoing-here r q) m₀ y₂ v m =
        subst (λ (z : Outcome). Acted c (size a + sizes l) o (UndoInAs m₀ (more a l) c t o) z) (sym (among-is actor a l y₀ c t o true (lt-ltb t (c + size a) h)))
        (first-undoing a l c o (step_in actor a y₀ c t o) m₀ t (steps-undoing s y₀ t o b y₁ w e r m₀ y₂ v (omega arith)) q)
    steps-undoing-in (sits-more {q = x} {a} {l} {c} s y) y₀ t o b y₁ (waits-later h w) e (undoing-here r q) m₀ y₂ v m = absurd (quiet-waits-in w e q)
    steps-undoing-in (sits-more {q = x} {a} {l} {c} s y) y₀ t o b y₁ (waits-first h w) e (undoing-later q r) m₀ y₂ v m = absurd (quiet-waits w e q)
    steps-undoing-in (sits-more {q = x} {a} {l} {c} s y) y₀ t o b y₁ (waits-later h w) e (undoing-later q r) m₀ y₂ v m =
        subst (λ (z : Outcome). Acted c (size a + sizes l) o (UndoInAs m₀ (more a l) c t o) z) (sym (among-is actor a l y₀ c t o false (le-ltb t (c + size a) h)))
        (later-undoing a l c o (step_among actor l false y₀ (c + size a) t o) m₀ t (steps-undoing-in y y₀ t o b y₁ w e r m₀ y₂ v (omega arith)) q)

    steps-healers : {s : Name} {xs : List ℕ} {z : Bool} {q y : Place} {l : Acts} {c : ℕ} → Healers p s xs z q y l c → (i t : ℕ) (o : Order) (b : Bool) → i ≤ length xs → ((j : ℕ) → PartOf q j)
        → Waits o.marks (part i l) (part_at i l c) t b → b ≡ false → Run o.marks (part i l) (part_at i l c) → Fit q o → c + sizes l ≤ length o.marks
        → Acted (part_at i l c) (size (part i l)) o (RunAs p (part i l) (part_at i l c) t o) (step_in actor (part i l) (part_at i l c) (part_at i l c) t o)
    steps-healers (heals-by {c} y a h) zero t o b n d w e r v m = steps-part a c t o b (d c) w e r v (omega arith)
    steps-healers (heals-by y a h) (suc i) t o b n d w e r v m = steps-healers h i t o b (omega arith) d w e r v (omega arith)
    steps-healers (heals-all {c} y a h) zero t o b n d w e r v m = steps-part a c t o b (d c) w e r v (omega arith)
    steps-healers (heals-all y a h) (suc i) t o b n d w e r v m = absurd (omega arith)

    steps-undoer : {s : Name} {xs : List ℕ} {z : Bool} {q y : Place} {l : Acts} {c : ℕ} → Healers p s xs z q y l c → z ≡ true → (t : ℕ) (o : Order) (b : Bool) → ((j : ℕ) → PartOf y j)
        → Waits o.marks (part (general_part xs) l) (part_at (general_part xs) l c) t b → b ≡ false → Run o.marks (part (general_part xs) l) (part_at (general_part xs) l c) → Fit y o → c + sizes l ≤ length o.marks
        → Acted (part_at (general_part xs) l c) (size (part (general_part xs) l)) o (RunAs p (part (general_part xs) l) (part_at (general_part xs) l c) t o)
        (step_in actor (part (general_part xs) l) (part_at (general_part xs) l c) (part_at (general_part xs) l c) t o)
    steps-undoer (heals-by y a h) n t o b d w e r v m = steps-undoer h n t o b d w e r v (omega arith)
    steps-undoer (heals-all y a h) n t o b d w e r v m = steps-rest h n t o b d w e r v (omega arith)

    steps-rest : {z : Bool} {y : Place} {l : Acts} {c : ℕ} → Rest p z y l c → z ≡ true → (t : ℕ) (o : Order) (b : Bool) → ((j : ℕ) → PartOf y j)
        → Waits o.marks (part 0 l) (part_at 0 l c) t b → b ≡ false → Run o.marks (part 0 l) (part_at 0 l c) → Fit y o → c + sizes l ≤ length o.marks
        → Acted (part_at 0 l c) (size (part 0 l)) o (RunAs p (part 0 l) (part_at 0 l c) t o) (step_in actor (part 0 l) (part_at 0 l c) (part_at 0 l c) t o)
    steps-rest (rest-undo {k} su) n t o b d w e r v m = steps-part su k t o b (d k) w e r v (omega arith)
    steps-rest rest-none n t o b d w e r v m = absurd (false≢true n)

    pub steps-part : {x : Place} {a : Act} {k : ℕ} → Remedy p x a k → (y₀ t : ℕ) (o : Order) (b : Bool) → PartOf x y₀ → Waits o.marks a k t b → b ≡ false → Run o.marks a k
        → Fit x o → k + size a ≤ length o.marks → Acted k (size a) o (RunAs p a k t o) (step_in actor a y₀ k t o)
    steps-part (remedy {q = x} {own} {within} {k} s a g u z l d) y₀ t o b y₁ w e r v m =
        part-steps own within y₀ k t o b s g z u v l m w e r
        (λ c w₁ e₁ r₁. steps-one l y₀ t o c y₁ w₁ e₁ r₁ v (omega arith))
        (λ c w₁ e₁ r₁. steps_all l y₀ t o c y₁ w₁ e₁ r₁ v (omega arith))
