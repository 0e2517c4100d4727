-- A step that does not stand in a scope that has turned leaves every mark in it as it was. Along the way to the step no activity around both is over, and no scope goes on: an inner
-- scope runs. Assumes nothing.
use Prim.Native.Nat.{ℕ, zero, suc, ◌+◌, ◌≤◌, ◌<◌}
use native.Mathlib.Omega.{arith}
use mathlib.Core.Path.{◌≡◌, refl, sym, ap, subst, ◌∙◌}
use mathlib.Core.Bool.{Bool, true, false, cond, not, ◌&&◌, ◌||◌, false≢true, or-true}
use mathlib.Core.List.{List, [], ◌∷◌, ◌++◌}
use lib.ListN.{length, get_or, length-set}
use lib.Seq.{get_or-set_same, get_or-set_other}
use lib.Dec.{eqb, ltb}
use borrow.Author.Tests.{eqb-true, eqb-false, eq-eqb, ne_eqb, lt-ltb, le-ltb}
use Rattle.plan.specs.Tree.{to_partner, to_held, Own, empty, send, receive, set as setting, raise, leave, choose, repeat, sequence, flow, pick, scope, arm, kind, is_scope, Act, act, Acts, none, more, Plan, size, sizes}
use Rattle.order.specs.declared.Order.{Order}
use Rattle.order.specs.declared.Way.{Way as Result}
use Rattle.order.specs.declared.Way.TheVariants.{Running as running, Over as over, Raising as raising, Leaving as leaving, Undone as undone, UndoRaising as undo_raising}
use Rattle.order.specs.State.{idle, active, inside, faulty, Name, inner, marked, marking, mark_at, mark_of, mark_with, causing}
use Rattle.order.specs.Event.{Event, faulted}
use Rattle.order.specs.Begin.{begin_after, quiet, part, part_at}
use Rattle.order.specs.Scope.{Outcome, runs, after, begun_in, where_over, Scope, scope_at, choice_for, is_open, inner_runs, turns, stop, faults, looks_again, body_over, body_raised, from_body, goes_through}
use Rattle.order.specs.Acting.{finishes, again, itself, Actor, its_own, in_place, replaces, performs, arms, goes_on, joins, combines, step_in, step_among}
use Rattle.order.specs.Awaited.{awaits}
use Rattle.undoing.specs.Ties.{Place, name_of}
use Rattle.undoing.proofs.Parts.{both, decide}
use Rattle.undoing.proofs.Accounts.{live, waits, phase, phase-faulty}
use Rattle.undoing.proofs.Marks.{trio, holding, Agree, Quiet, Kept, Run, run-awaits, run-one, run-all, run-body, run-done, run-turned, One, one-here, one_later, All, all_none, all-run, all_quiet, Turned, turned-waits, turned-undoes, turned-heals, Stopped, stopped-part, stopped-quiet, stopped-scope, StoppedIn, stopped_more, Stoppable, quiet-part, agree-below, agree-above, stoppable-agree, turned-not-open}
use Rattle.undoing.proofs.Orders.{Fit, Sits, sits-part, sits-scope, SitsIn, sits-more, sits-none}
use Rattle.undoing.proofs.Waiting.{idle-awaits, Waits, waits-itself, waits-within, WaitsIn, waits-first, waits-later, opens, opens-idle, quiet-waits, quiet-waits-in, stopped-waits, waits-from}
use Rattle.undoing.proofs.Fitting.{waits-to}
use Rattle.undoing.proofs.Combining.{AllAs, quiet-found, arms-held, arms_none}
use Rattle.undoing.proofs.Causing.{caused, caused-mark, chosen_mark, faults-is}
use Rattle.undoing.proofs.Moves.{Before}
use Rattle.undoing.proofs.Seats.{mark-kept, marking-mark, marking-agree, marking-length}
use Rattle.undoing.proofs.Scoping.{Acted, RunAs, StopAs, raised_is, over-is}
use Rattle.undoing.proofs.Stopping.{stops}
use Rattle.undoing.proofs.Stepping.{PartOf, StopInAs, step_is, among-is, body-step, steps, steps_all, steps-stopped, steps-stopped-in, opens-held, stopped-part-not, Whole, Its}
use Rattle.undoing.proofs.Lying.{turns-wait, looks-wait, Up, up-here, up-part, up-scope, UpIn, up_first, up-later, up-range, up-range-in, up-loud-in, up-quiet, up-quiet-in, up-undoing, up-agree, up-agree-in, up-inner, stop-alone}

-- it goes on: nothing that has the scope in it is over
abbrev pub Goes : Result → Type 0
Goes running = Unit {0}
Goes over = ⊥
Goes (raising x) = Unit {0}
Goes leaving = Unit {0}
Goes undone = ⊥
Goes (undo_raising x) = ⊥

abbrev pub MayEnd : Result → Type 0
MayEnd running = Unit {0}
MayEnd over = Unit {0}
MayEnd (raising x) = Unit {0}
MayEnd leaving = Unit {0}
MayEnd undone = ⊥
MayEnd (undo_raising x) = ⊥

-- which of two numbers is not above the other
data Aside (a b c d : ℕ) : Type 0 where
  left-of : a ≤ b → Aside a b c d
  right_of : c ≤ d → Aside a b c d

module _ (j many : ℕ) where
  pub record Good (S : List ℕ → Type 0) (o : Order) (r : Outcome) : Type 0 where
    pub same : Agree j many o.marks r.order.marks
    pub up : S r.order.marks
    pub goes : Goes r.result

  -- of a list of which one member had the step: that may be over, where the scope lies in another
  pub record Beside (S : List ℕ → Type 0) (o : Order) (r : Outcome) : Type 0 where
    pub same : Agree j many o.marks r.order.marks
    pub up : S r.order.marks
    pub ends : MayEnd r.result

  good-beside : {S : List ℕ → Type 0} {o : Order} (r : Outcome) → Good S o r → Beside S o r
  good-beside r g = record { same = g.same; up = g.up; ends = go r.result g.goes }
    where
      go : (x : Result) → Goes x → MayEnd x
      go running g = tt
      go over g = absurd g
      go (raising x) g = tt
      go leaving g = tt
      go undone g = absurd g
      go (undo_raising x) g = absurd g

  -- where an activity goes on, and where it may not
  goes_same : (k m : ℕ) (g : Order → Outcome) (r : Outcome) → Goes r.result → goes_on k m g r ≡ r
  unfolding goes_on
  goes_same k m g r h = go r.result h
    where
      go : (x : Result) → Goes x → goes_on k m g (record { result = x; order = r.order; log = r.log }) ≡ record { result = x; order = r.order; log = r.log }
      go running h = refl
      go over h = absurd h
      go (raising x) h = refl
      go leaving h = refl
      go undone h = absurd h
      go (undo_raising x) h = absurd h

  -- an activity other than a scope makes nothing more of it
  combines-same : (own : Own) (within : Acts) (k t : ℕ) (r : Outcome) → is_scope own ≡ false → Goes r.result → combines own within k t r ≡ r
  unfolding combines
  combines-same empty within k t r s g = refl
  combines-same (send p o vs) within k t r s g = refl
  combines-same (receive p o vs) within k t r s g = refl
  combines-same (setting v e) within k t r s g = refl
  combines-same (raise n) within k t r s g = refl
  combines-same leave within k t r s g = refl
  combines-same (choose e) within k t r s g = goes_same k inside (finishes k) r g
  combines-same (repeat e) within k t r s g = goes_same k inside (again k) r g
  combines-same sequence within k t r s g = goes_same k active (λ o. where_over (finishes k) (begun_in o (begin_after within (k + 1) t o.marks))) r g
  combines-same flow within k t r s g = goes_same k active (joins k within) r g
  combines-same pick within k t r s g = goes_same k inside (finishes k) r g
  combines-same (scope ns v) within k t r s g = absurd (false≢true (sym s))
  combines-same (arm p o vs) within k t r s g = refl

  -- where it may be over, and would go on only by a mark that it has not, or has nothing to do
  goes-beside : {S : List ℕ → Type 0} {o : Order} (k m : ℕ) (g : Order → Outcome) (r : Outcome) → (eqb (mark_at k r.order) m ≡ true → g r.order ≡ runs r.order) → Beside S o r → Good S o (goes_on k m g r)
  unfolding goes_on
  goes-beside {S} {o} k m g r h b = go r.result b.ends
    where
      none : elim (eqb (mark_at k r.order) m) as (λ x. Outcome) [ true ↦ g r.order | false ↦ runs r.order ] ≡ runs r.order
      none = decide (eqb (mark_at k r.order) m) (λ t. rw t (h t)) (λ t. rw t)

      go : (x : Result) → MayEnd x → Good S o (goes_on k m g (record { result = x; order = r.order; log = r.log }))
      go running h = record { same = b.same; up = b.up; goes = tt }
      go over h = subst (λ (z : Outcome). Good S o (after r.log z)) (sym none) (record { same = b.same; up = b.up; goes = tt })
      go (raising x) h = record { same = b.same; up = b.up; goes = tt }
      go leaving h = record { same = b.same; up = b.up; goes = tt }
      go undone h = absurd h
      go (undo_raising x) h = absurd h

  -- one that is idle goes on with nothing
  idle-beside : {S : List ℕ → Type 0} {o : Order} (own : Own) (within : Acts) (k t : ℕ) (r : Outcome) → is_scope own ≡ false → mark_at k r.order ≡ idle → Beside S o r → Beside S o (combines own within k t r)
  unfolding combines
  idle-beside empty within k t r s e b = b
  idle-beside (send p o vs) within k t r s e b = b
  idle-beside (receive p o vs) within k t r s e b = b
  idle-beside (setting v x) within k t r s e b = b
  idle-beside (raise n) within k t r s e b = b
  idle-beside leave within k t r s e b = b
  idle-beside (choose x) within k t r s e b = good-beside (goes_on k inside (finishes k) r) (goes-beside k inside (finishes k) r (λ d. absurd (false≢true (rw e at d))) b)
  idle-beside (repeat x) within k t r s e b = good-beside (goes_on k inside (again k) r) (goes-beside k inside (again k) r (λ d. absurd (false≢true (rw e at d))) b)
  idle-beside sequence within k t r s e b =
      let g : Order → Outcome = λ o. where_over (finishes k) (begun_in o (begin_after within (k + 1) t o.marks)) in good-beside (goes_on k active g r) (goes-beside k active g r (λ d. absurd (false≢true (rw e at d))) b)
  idle-beside flow within k t r s e b = good-beside (goes_on k active (joins k within) r) (goes-beside k active (joins k within) r (λ d. absurd (false≢true (rw e at d))) b)
  idle-beside pick within k t r s e b = good-beside (goes_on k inside (finishes k) r) (goes-beside k inside (finishes k) r (λ d. absurd (false≢true (rw e at d))) b)
  idle-beside (scope ns v) within k t r s e b = absurd (false≢true (sym s))
  idle-beside (arm p o vs) within k t r s e b = b

  -- a flow in which something is loud
  flow-beside : {S : List ℕ → Type 0} {o : Order} (within : Acts) (k t : ℕ) (r : Outcome) → (Quiet r.order.marks (k + 1) (sizes within) → ⊥) → Beside S o r → Good S o (combines flow within k t r)
  unfolding combines joins
  flow-beside within k t r q b =
      goes-beside k active (joins k within) r
      (λ d. decide (quiet (k + 1) (sizes within) r.order.marks) (λ z. absurd (q (quiet-found (sizes within) (k + 1) r.order.marks z))) (λ z. rw (joins, z))) b

  -- its own step, where one of its parts runs: a sequence and a flow have none
  itself-none : (own : Own) (within : Acts) (q k m : ℕ) (o : Order) → is_scope own ≡ false → m ≡ holding own → awaits own false m ≡ true → itself own within q k o ≡ runs o
  unfolding itself awaits kind
  itself-none empty within q k m o s e a = refl
  itself-none (send x op vs) within q k m o s e a = absurd (false≢true (rw e at a))
  itself-none (receive x op vs) within q k m o s e a = absurd (false≢true (rw e at a))
  itself-none (setting v x) within q k m o s e a = absurd (false≢true (rw e at a))
  itself-none (raise n) within q k m o s e a = absurd (false≢true (rw e at a))
  itself-none leave within q k m o s e a = absurd (false≢true (rw e at a))
  itself-none (choose x) within q k m o s e a = absurd (false≢true (rw e at a))
  itself-none (repeat x) within q k m o s e a = absurd (false≢true (rw e at a))
  itself-none sequence within q k m o s e a = refl
  itself-none flow within q k m o s e a = refl
  itself-none pick within q k m o s e a = refl
  itself-none (scope ns v) within q k m o s e a = absurd (false≢true (sym s))
  itself-none (arm p op vs) within q k m o s e a = absurd (false≢true a)

  performs-none : (actor : Actor) (own : Own) (within : Acts) (q k m : ℕ) (o : Order) → is_scope own ≡ false → m ≡ holding own → awaits own false m ≡ true → performs actor own within q k o ≡ runs o
  unfolding performs replaces kind awaits
  performs-none its_own own within q k m o s e a = itself-none own within q k m o s e a
  performs-none in_place empty within q k m o s e a = itself-none empty within q k m o s e a
  performs-none in_place (send (to_partner x) op vs) within q k m o s e a = itself-none (send (to_partner x) op vs) within q k m o s e a
  performs-none in_place (send (to_held v r) op vs) within q k m o s e a = itself-none (send (to_held v r) op vs) within q k m o s e a
  performs-none in_place (receive x op vs) within q k m o s e a = absurd (false≢true (rw e at a))
  performs-none in_place (setting v x) within q k m o s e a = itself-none (setting v x) within q k m o s e a
  performs-none in_place (raise zero) within q k m o s e a = itself-none (raise zero) within q k m o s e a
  performs-none in_place (raise (suc n)) within q k m o s e a = itself-none (raise (suc n)) within q k m o s e a
  performs-none in_place leave within q k m o s e a = itself-none leave within q k m o s e a
  performs-none in_place (choose x) within q k m o s e a = itself-none (choose x) within q k m o s e a
  performs-none in_place (repeat x) within q k m o s e a = itself-none (repeat x) within q k m o s e a
  performs-none in_place sequence within q k m o s e a = itself-none sequence within q k m o s e a
  performs-none in_place flow within q k m o s e a = itself-none flow within q k m o s e a
  performs-none in_place pick within q k m o s e a = itself-none pick within q k m o s e a
  performs-none in_place (scope ns v) within q k m o s e a = absurd (false≢true (sym s))
  performs-none in_place (arm p op vs) within q k m o s e a = absurd (false≢true a)

  good-so : {S T : List ℕ → Type 0} {o : Order} (r : Outcome) → ((ms : List ℕ) → S ms → T ms) → Good S o r → Good T o r
  good-so r f g = record { same = g.same; up = f r.order.marks g.up; goes = g.goes }

  -- What a scope around makes of it: it waits on.
  module _ (p : Plan) (s : Scope) where
    abbrev Held : (marks : List ℕ) → Type 0
    Held ms = Up ms j many s.body s.body_at

    looks-good : {o : Order} (l : List Event) (o₁ : Order) → Agree j many o.marks o₁.marks → Held o₁.marks → Good Held o (after l (looks_again s o₁))
    looks-good {o} l o₁ g v = subst (λ (z : Outcome). Good Held o (after l z)) (sym (looks-wait s o₁ (up-inner v))) (record { same = g; up = v; goes = tt })

    looks-mark : (o₁ : Order) → Held o₁.marks → mark_of s.name (looks_again s o₁).order ≡ mark_of s.name o₁
    looks-mark o₁ v = ap (λ (z : Outcome). mark_of s.name z.order) (looks-wait s o₁ (up-inner v))

    -- one that has turned
    pub body-waits : {o : Order} (r : Outcome) → Beside Held o r → is_open (mark_of s.name r.order) ≡ false → Good Held o (from_body s r) × (mark_of s.name (from_body s r).order ≡ mark_of s.name r.order)
    unfolding from_body
    body-waits {o} r g e = go r.result g.ends
      where
        m : ℕ
        m = mark_of s.name r.order

        looked : Good Held o (after r.log (looks_again s r.order)) × (mark_of s.name (looks_again s r.order).order ≡ m)
        looked = (looks-good r.log r.order g.same g.up, looks-mark r.order g.up)

        not-active : eqb m active ≡ false
        not-active = decide (eqb m active) (λ t. absurd (false≢true (sym e ∙ rw t))) (λ t. t)

        go : (x : Result) → MayEnd x → Good Held o (from_body s (record { result = x; order = r.order; log = r.log })) × (mark_of s.name (from_body s (record { result = x; order = r.order; log = r.log })).order ≡ m)
        go running h = looked
        go over h = subst (λ (z : Outcome). Good Held o (after r.log z) × (mark_of s.name z.order ≡ m)) (sym (over-is s r.order m refl ∙ rw not-active)) looked
        go (raising x) h = subst (λ (z : Outcome). Good Held o (after r.log z) × (mark_of s.name z.order ≡ m)) (sym (raised_is x s r.order false e)) looked
        go leaving h = (record { same = g.same; up = g.up; goes = tt }, refl)
        go undone h = absurd h
        go (undo_raising x) h = absurd h

    -- one that is open, where a fault comes out of its body: it faults, and waits for what was left to finish
    faults-good : {x₀ : Place} {o : Order} (l : List Event) (number : ℕ) (o₁ : Order) → Before s.name s.body_at → Sits p x₀ s.body s.body_at → name_of x₀ ≡ s.name → Agree j many o.marks o₁.marks → Held o₁.marks
        → Stoppable o₁.marks s.body s.body_at → s.body_at + size s.body ≤ length o₁.marks → Good Held o (after l (faults number s o₁)) × (eqb (mark_of s.name (faults number s o₁).order) idle ≡ false)
    faults-good {x₀} {o} l number o₁ bf sb e g v t m =
        let r₀ = up-range v in
        let c = chosen_mark number s in
        let o₂ = caused s.name number (marking s.name c o₁) in
        let there : Agree s.body_at (size s.body) o₁.marks o₂.marks = marking-agree s.name c o₁ bf in
        let k₀ : mark_of s.name o₂ ≡ c = caused-mark s.name s.name number (marking s.name c o₁) ∙ marking-mark s.name s.body_at c o₁ bf (omega arith) in
        let w : phase (mark_of (name_of x₀) o₂) ≡ waits true = ap (λ (n : Name). phase (mark_of n o₂)) e ∙ (ap phase k₀ ∙ phase-faulty (choice_for number s)) in
        let many₁ : s.body_at + size s.body ≤ length o₂.marks = omega (arith, marking-length s.name c o₁) in
        let r = stop-alone p sb o₂ w (stoppable-agree t there) many₁ (up-agree v there) in
        let q = stops p sb o₂ w (stoppable-agree t there) many₁ in
        let o₃ = (stop s.body s.body_at o₂).order in
        let k₁ : mark_of s.name o₃ ≡ c = mark-kept s.name s.body_at o₂ o₃ bf (omega arith) q.rooted q.kept ∙ k₀ in
        let z = turns-wait true s o₃ (up-inner r.1) in
        subst (λ (y : Outcome). Good Held o (after l y) × (eqb (mark_of s.name y.order) idle ≡ false)) (sym (faults-is number s o₁))
        (subst (λ (y : Outcome). Good Held o (after l (after (faulted s.name number ∷ (stop s.body s.body_at o₂).log) y)) × (eqb (mark_of s.name y.order) idle ≡ false)) (sym z)
        (record { same = record { at = λ i x y. r.0.at i x y ∙ (there.at i (omega arith) (omega arith) ∙ g.at i x y) }; up = r.1; goes = tt }, ap (λ (i : ℕ). eqb i idle) k₁ ∙ faulty-loud (choice_for number s)))
      where
        faulty-loud : (c : ℕ) → eqb (mark_with c faulty) idle ≡ false
        faulty-loud c = ne_eqb (mark_with c faulty) idle (omega arith)

    -- one that is open, whatever comes out of its body but that it is over
    pub body-good : {x₀ : Place} {o : Order} (r : Outcome) → (C : List Event → Order → Result → Type 0) → ((x : ℕ) → C r.log r.order (raising x) → Stoppable r.order.marks s.body s.body_at) → Before s.name s.body_at
        → Sits p x₀ s.body s.body_at → name_of x₀ ≡ s.name → mark_of s.name r.order ≡ active → s.body_at + size s.body ≤ length r.order.marks → C r.log r.order r.result → Good Held o r
        → Good Held o (from_body s r) × (eqb (mark_of s.name (from_body s r).order) idle ≡ false)
    unfolding from_body
    body-good {o = o} r C f bf sb e a m c g = go r.result g.goes c
      where
        loud : eqb (mark_of s.name r.order) idle ≡ false
        loud = ap (λ (i : ℕ). eqb i idle) a

        go : (x : Result) → Goes x → C r.log r.order x
            → Good Held o (from_body s (record { result = x; order = r.order; log = r.log })) × (eqb (mark_of s.name (from_body s (record { result = x; order = r.order; log = r.log })).order) idle ≡ false)
        go running h d = (looks-good r.log r.order g.same g.up, ap (λ (i : ℕ). eqb i idle) (looks-mark r.order g.up) ∙ loud)
        go over h d = absurd h
        go (raising x) h d =
            subst (λ (y : Outcome). Good Held o (after r.log y) × (eqb (mark_of s.name y.order) idle ≡ false)) (sym (raised_is x s r.order true (ap is_open a)))
            (faults-good r.log x r.order bf sb e g.same g.up (f x d) m)
        go leaving h d = (record { same = g.same; up = g.up; goes = tt }, loud)
        go undone h d = absurd h
        go (undo_raising x) h d = absurd h

  -- The step. It stands in none of the numbers of the scope.
  module _ (p : Plan) (actor : Actor) (t : ℕ) (apart : j ≤ t → t < j + many → ⊥) where
    -- what an activity beside it does, whatever comes of it
    acted-ends : {k n : ℕ} {o : Order} {S : List ℕ → Type 0} (C : List Event → Order → Result → Type 0) (r : Outcome) → Acted k n o C r → ((x : Result) → C r.log r.order x → MayEnd x) → Aside (j + many) k (k + n) j → S r.order.marks → Beside S o r
    acted-ends C r v f (left-of h) u = record { same = record { at = λ i x y. v.kept.below i (omega arith) }; up = u; ends = f r.result v.comes }
    acted-ends C r v f (right_of h) u = record { same = record { at = λ i x y. v.kept.above i (omega arith) }; up = u; ends = f r.result v.comes }

    run_ends : (a : Act) (k : ℕ) (o : Order) (l : List Event) (o' : Order) (x : Result) → RunAs p a k t o l o' x → MayEnd x
    run_ends a k o l o' running c = tt
    run_ends a k o l o' over c = tt
    run_ends a k o l o' (raising x) c = tt
    run_ends a k o l o' leaving c = tt
    run_ends a k o l o' undone c = absurd c
    run_ends a k o l o' (undo_raising x) c = absurd c

    all-ends : (a : Acts) (k : ℕ) (o : Order) (l : List Event) (o' : Order) (x : Result) → AllAs p a k t o l o' x → MayEnd x
    all-ends a k o l o' running c = tt
    all-ends a k o l o' over c = tt
    all-ends a k o l o' (raising x) c = tt
    all-ends a k o l o' leaving c = tt
    all-ends a k o l o' undone c = absurd c
    all-ends a k o l o' (undo_raising x) c = absurd c

    stop-ends : (a : Act) (k : ℕ) (o : Order) (l : List Event) (o' : Order) (x : Result) → StopAs p a k o l o' x → MayEnd x
    stop-ends a k o l o' running c = tt
    stop-ends a k o l o' over c = tt
    stop-ends a k o l o' (raising x) c = tt
    stop-ends a k o l o' leaving c = tt
    stop-ends a k o l o' undone c = absurd c
    stop-ends a k o l o' (undo_raising x) c = absurd c

    stop-in-ends : (a : Acts) (k : ℕ) (o : Order) (l : List Event) (o' : Order) (x : Result) → StopInAs p actor a k o l o' x → MayEnd x
    stop-in-ends a k o l o' running c = tt
    stop-in-ends a k o l o' over c = tt
    stop-in-ends a k o l o' (raising x) c = tt
    stop-in-ends a k o l o' leaving c = tt
    stop-in-ends a k o l o' undone c = absurd c
    stop-in-ends a k o l o' (undo_raising x) c = absurd c

    -- a step in the body of a scope around it
    scope-good : {o : Order} (xs : List ℕ) (z : Bool) (b f : Act) (u : Acts) (y₀ k : ℕ) → k < t → t < k + 1 + size b → (loud : eqb (get_or (step_in actor b (k + 1) (k + 1) t o).order.marks k 0) idle ≡ false)
        → Good (λ ms. Up ms j many b (k + 1)) o (from_body (scope_at xs k (trio b f u)) (step_in actor b (k + 1) (k + 1) t o)) → eqb (get_or (from_body (scope_at xs k (trio b f u)) (step_in actor b (k + 1) (k + 1) t o)).order.marks k 0) idle ≡ false
        → Good (λ ms. Up ms j many (act (scope xs z) (trio b f u)) k) o (step_in actor (act (scope xs z) (trio b f u)) y₀ k t o)
    unfolding Whole Its
    scope-good {o} xs z b f u y₀ k h e loud g up =
        let r = step_in actor b (k + 1) (k + 1) t o in
        subst (λ (w : Outcome). Good (λ ms. Up ms j many (act (scope xs z) (trio b f u)) k) o w)
        (sym (body-step p actor xs z b f u y₀ k t (get_or r.order.marks k 0) o h e refl (eqb-false (get_or r.order.marks k 0) idle loud)))
        (record { same = g.same; up = up-scope up g.up; goes = g.goes })

    -- that has turned
    turned-good : {o : Order} (xs : List ℕ) (z : Bool) (b f : Act) (u : Acts) (y₀ k : ℕ) → k < t → t < k + 1 + size b → is_open (get_or o.marks k 0) ≡ false → eqb (get_or o.marks k 0) idle ≡ false
        → get_or (step_in actor b (k + 1) (k + 1) t o).order.marks k 0 ≡ get_or o.marks k 0 → Beside (λ ms. Up ms j many b (k + 1)) o (step_in actor b (k + 1) (k + 1) t o)
        → Good (λ ms. Up ms j many (act (scope xs z) (trio b f u)) k) o (step_in actor (act (scope xs z) (trio b f u)) y₀ k t o)
    unfolding part part_at
    turned-good {o} xs z b f u y₀ k h e closed loud same g =
        let r = step_in actor b (k + 1) (k + 1) t o in
        let w = body-waits p (scope_at xs k (trio b f u)) r g (ap is_open same ∙ closed) in
        scope-good xs z b f u y₀ k h e (ap (λ (i : ℕ). eqb i idle) same ∙ loud) w.0 (ap (λ (i : ℕ). eqb i idle) (w.1 ∙ same) ∙ loud)

    -- that is open
    open-good : {x₀ : Place} {o : Order} (xs : List ℕ) (z : Bool) (b f : Act) (u : Acts) (y₀ k : ℕ) → k < t → t < k + 1 + size b → Sits p x₀ b (k + 1) → name_of x₀ ≡ inner k → get_or o.marks k 0 ≡ active
        → Acted (k + 1) (size b) o (RunAs p b (k + 1) t o) (step_in actor b (k + 1) (k + 1) t o) → k + 1 + size b ≤ length o.marks → Good (λ ms. Up ms j many b (k + 1)) o (step_in actor b (k + 1) (k + 1) t o)
        → Good (λ ms. Up ms j many (act (scope xs z) (trio b f u)) k) o (step_in actor (act (scope xs z) (trio b f u)) y₀ k t o)
    unfolding part part_at
    open-good {x₀} {o} xs z b f u y₀ k h e sb n act₀ v m g =
        let r = step_in actor b (k + 1) (k + 1) t o in
        let same : get_or r.order.marks k 0 ≡ active = v.kept.below k (omega arith) ∙ act₀ in
        let w = body-good p (scope_at xs k (trio b f u)) r (RunAs p b (k + 1) t o) (λ x c. c.0) (omega arith) sb n same (omega (arith, v.kept.many)) v.comes g in
        scope-good xs z b f u y₀ k h e (ap (λ (i : ℕ). eqb i idle) same) w.0 w.1

    beside-so : {S T : List ℕ → Type 0} {o : Order} (r : Outcome) → ((ms : List ℕ) → S ms → T ms) → Beside S o r → Beside T o r
    beside-so r f g = record { same = g.same; up = f r.order.marks g.up; ends = g.ends }

    -- in a scope that has turned, whatever stands in it
    alone-turned : (xs : List ℕ) (z : Bool) (b f : Act) (u : Acts) (y₀ k : ℕ) (o : Order) {c : Bool} → Turned o.marks xs (get_or o.marks k 0) b (k + 1) (more f u) (k + 1 + size b) → eqb (get_or o.marks k 0) idle ≡ false
        → Waits o.marks (act (scope xs z) (trio b f u)) k t c → Up o.marks j many b (k + 1)
        → ((c : Bool) → c ≡ false → Waits o.marks b (k + 1) t c → Stopped o.marks b (k + 1) → Beside (λ ms. Up ms j many b (k + 1)) o (step_in actor b (k + 1) (k + 1) t o))
        → ((c : Bool) → c ≡ false → Waits o.marks b (k + 1) t c → Stopped o.marks b (k + 1) → Acted (k + 1) (size b) o (StopAs p b (k + 1) o) (step_in actor b (k + 1) (k + 1) t o))
        → Good (λ ms. Up ms j many (act (scope xs z) (trio b f u)) k) o (step_in actor (act (scope xs z) (trio b f u)) y₀ k t o)
    unfolding kind awaits size
    alone-turned xs z b f u y₀ k o tr loud (waits-itself h a) v g s = absurd (false≢true (sym (turned-not-open tr) ∙ rw (a, or-true)))
    alone-turned xs z b f u y₀ k o (turned-waits e r i q) loud (waits-within h (waits-first h₁ w)) v g s =
        turned-good xs z b f u y₀ k h h₁ (turned-not-open {m = get_or o.marks k 0} (turned-waits {xs = xs} {l = more f u} e r i q)) loud ((s _ refl w r).kept.below k (omega arith)) (g _ refl w r)
    alone-turned xs z b f u y₀ k o (turned-waits e r i q) loud (waits-within h (waits-later h₁ w)) v g s = absurd (quiet-waits-in w refl q)
    alone-turned xs z b f u y₀ k o (turned-undoes e r q) loud (waits-within h w) v g s = absurd (up-undoing v r)
    alone-turned xs z b f u y₀ k o (turned-heals e q r) loud (waits-within h w) v g s = absurd (up-quiet v q)

    -- in an activity other than a scope, by how it runs and where the step is
    part-alone : (own : Own) (within : Acts) (y₀ k : ℕ) (o : Order) (b : Bool) → is_scope own ≡ false → b ≡ false → Up o.marks j many (act own within) k → Run o.marks (act own within) k → Waits o.marks (act own within) k t b
        → ((c : Bool) → WaitsIn o.marks within (k + 1) t c → c ≡ false → One o.marks within (k + 1) → UpIn o.marks j many within (k + 1) → Good (λ ms. UpIn ms j many within (k + 1)) o (step_among actor within false y₀ (k + 1) t o))
        → ((c : Bool) → WaitsIn o.marks within (k + 1) t c → c ≡ false → All o.marks within (k + 1) → UpIn o.marks j many within (k + 1) → Beside (λ ms. UpIn ms j many within (k + 1)) o (step_among actor within false y₀ (k + 1) t o))
        → Good (λ ms. Up ms j many (act own within) k) o (step_in actor (act own within) y₀ k t o)
    unfolding size kind awaits
    part-alone own within y₀ k o b s e (up-here d _ _ _ _) r w one all = absurd (false≢true (sym s ∙ d))
    part-alone own within y₀ k o b s e (up-scope d u) r w one all = absurd (false≢true (sym s))
    part-alone own within y₀ k o b s e (up-part d u) (run-awaits _ _ _ z) w one all = absurd (up-quiet-in u z)
    part-alone own within y₀ k o b s e (up-part d u) (run-one _ h r) (waits-itself z a) one all =
        subst (λ (w : Outcome). Good (λ ms. Up ms j many (act own within) k) o w)
        (sym (step_is actor own within y₀ k t o true s (eq-eqb k t z) ∙ performs-none actor own within y₀ k (get_or o.marks k 0) o s h (subst (λ (c : Bool). awaits own c (get_or o.marks k 0) ≡ true) e a)))
        (record { same = record { at = λ i x y. refl }; up = up-part d u; goes = tt })
    part-alone own within y₀ k o b s e (up-part d u) (run-one _ h r) (waits-within z w) one all =
        let n = one (opens own (get_or o.marks k 0)) w (opens-held p actor own (get_or o.marks k 0) h) r u in
        subst (λ (w : Outcome). Good (λ ms. Up ms j many (act own within) k) o w)
        (sym (step_is actor own within y₀ k t o false s (ne_eqb k t (omega arith)) ∙ (ap (λ (a : Order). combines own within k t (step_among actor within false y₀ (k + 1) t a)) (arms-held own within k t o h)
        ∙ combines-same own within k t (step_among actor within false y₀ (k + 1) t o) s n.goes)))
        (good-so (step_among actor within false y₀ (k + 1) t o) (λ ms. up-part s) n)
    part-alone own within y₀ k o b s e (up-part d u) (run-all h r nq) (waits-itself z a) one all =
        subst (λ (w : Outcome). Good (λ ms. Up ms j many (act flow within) k) o w)
        (sym (step_is actor flow within y₀ k t o true s (eq-eqb k t z) ∙ performs-none actor flow within y₀ k (get_or o.marks k 0) o s h (subst (λ (c : Bool). awaits flow c (get_or o.marks k 0) ≡ true) e a)))
        (record { same = record { at = λ i x y. refl }; up = up-part d u; goes = tt })
    part-alone own within y₀ k o b s e (up-part d u) (run-all h r nq) (waits-within z w) one all =
        let n = all (opens flow (get_or o.marks k 0)) w refl r u in
        subst (λ (w : Outcome). Good (λ ms. Up ms j many (act flow within) k) o w)
        (sym (step_is actor flow within y₀ k t o false s (ne_eqb k t (omega arith)) ∙ ap (λ (a : Order). combines flow within k t (step_among actor within false y₀ (k + 1) t a)) (arms-held flow within k t o h)))
        (good-so (combines flow within k t (step_among actor within false y₀ (k + 1) t o)) (λ ms. up-part s) (flow-beside within k t (step_among actor within false y₀ (k + 1) t o) (λ x. up-quiet-in n.up x) n))
    part-alone own within y₀ k o b s e (up-part d u) (run-body _ _ _) w one all = absurd (false≢true (sym s))
    part-alone own within y₀ k o b s e (up-part d u) (run-done _ _) w one all = absurd (false≢true (sym s))
    part-alone own within y₀ k o b s e (up-part d u) (run-turned _) w one all = absurd (false≢true (sym s))

    -- in a scope
    scope-alone : {x₀ : Place} (xs : List ℕ) (z : Bool) (b f : Act) (u : Acts) (y₀ k : ℕ) (o : Order) (c : Bool) → Sits p x₀ b (k + 1) → name_of x₀ ≡ inner k → k + 1 + size b ≤ length o.marks
        → Up o.marks j many (act (scope xs z) (trio b f u)) k → Run o.marks (act (scope xs z) (trio b f u)) k → Waits o.marks (act (scope xs z) (trio b f u)) k t c
        → (Waits o.marks b (k + 1) t false → Run o.marks b (k + 1) → get_or o.marks k 0 ≡ active → Up o.marks j many b (k + 1) → Good (λ ms. Up ms j many b (k + 1)) o (step_in actor b (k + 1) (k + 1) t o))
        → (Waits o.marks b (k + 1) t false → Run o.marks b (k + 1) → get_or o.marks k 0 ≡ active → Acted (k + 1) (size b) o (RunAs p b (k + 1) t o) (step_in actor b (k + 1) (k + 1) t o))
        → ((c : Bool) → c ≡ false → Waits o.marks b (k + 1) t c → Stopped o.marks b (k + 1) → Up o.marks j many b (k + 1) → Beside (λ ms. Up ms j many b (k + 1)) o (step_in actor b (k + 1) (k + 1) t o))
        → ((c : Bool) → c ≡ false → Waits o.marks b (k + 1) t c → Stopped o.marks b (k + 1) → Acted (k + 1) (size b) o (StopAs p b (k + 1) o) (step_in actor b (k + 1) (k + 1) t o))
        → Good (λ ms. Up ms j many (act (scope xs z) (trio b f u)) k) o (step_in actor (act (scope xs z) (trio b f u)) y₀ k t o)
    unfolding size kind awaits
    scope-alone xs z b f u y₀ k o c sb n m (up-part s v) r w g a i l = absurd (false≢true (sym s))
    scope-alone xs z b f u y₀ k o c sb n m (up-here s n₀ n₁ _ _) r w g a i l = absurd (let lo = waits-from w in let hi = waits-to w in apart (omega arith) (omega arith))
    scope-alone xs z b f u y₀ k o c sb n m (up-scope x v) (run-awaits s _ _ _) w g a i l = absurd (false≢true (sym s))
    scope-alone xs z b f u y₀ k o c sb n m (up-scope x v) (run-one s _ _) w g a i l = absurd (false≢true (sym s))
    scope-alone xs z b f u y₀ k o c sb n m (up-scope x v) (run-done _ q) w g a i l = absurd (up-quiet v (quiet-part q (omega arith) (omega arith)))
    scope-alone xs z b f u y₀ k o c sb n m (up-scope x v) (run-body h r q) (waits-itself y d) g a i l = absurd (false≢true (rw h at d))
    scope-alone xs z b f u y₀ k o c sb n m (up-scope x v) (run-body h r q) (waits-within y (waits-first d w)) g a i l = open-good xs z b f u y₀ k y d sb n h (a w r h) m (g w r h v)
    scope-alone xs z b f u y₀ k o c sb n m (up-scope x v) (run-body h r q) (waits-within y (waits-later d w)) g a i l = absurd (quiet-waits-in w refl q)
    scope-alone xs z b f u y₀ k o c sb n m (up-scope x v) (run-turned q) w g a i l = alone-turned xs z b f u y₀ k o q x w v (λ c₁ e₁ w₁ r₁. i c₁ e₁ w₁ r₁ v) l

    -- in a stopped body
    idle-alone : (own : Own) (within : Acts) (y₀ k : ℕ) (o : Order) (b : Bool) → is_scope own ≡ false → b ≡ false → Up o.marks j many (act own within) k → Stopped o.marks (act own within) k → Waits o.marks (act own within) k t b
        → ((c : Bool) → WaitsIn o.marks within (k + 1) t c → c ≡ false → StoppedIn o.marks within (k + 1) → UpIn o.marks j many within (k + 1) → Beside (λ ms. UpIn ms j many within (k + 1)) o (step_among actor within false y₀ (k + 1) t o))
        → ((c : Bool) → WaitsIn o.marks within (k + 1) t c → c ≡ false → StoppedIn o.marks within (k + 1) → Acted (k + 1) (sizes within) o (StopInAs p actor within (k + 1) o) (step_among actor within false y₀ (k + 1) t o))
        → Beside (λ ms. Up ms j many (act own within) k) o (step_in actor (act own within) y₀ k t o)
    unfolding size kind awaits
    idle-alone own within y₀ k o b s e (up-here d _ _ _ _) r w g a = absurd (false≢true (sym s ∙ d))
    idle-alone own within y₀ k o b s e (up-scope d u) r w g a = absurd (false≢true (sym s))
    idle-alone own within y₀ k o b s e (up-part d u) (stopped-quiet n) w g a = absurd (up-quiet-in u (quiet-part n (omega arith) (omega arith)))
    idle-alone own within y₀ k o b s e (up-part d u) (stopped-scope _) w g a = absurd (false≢true (sym s))
    idle-alone own within y₀ k o b s e (up-part d u) (stopped-part s₁ h n) (waits-itself z v) g a = absurd (false≢true (sym e ∙ (idle-awaits own b (rw h at v)).1))
    idle-alone own within y₀ k o b s e (up-part d u) (stopped-part s₁ h r) (waits-within z w) g a =
        let c : opens own (get_or o.marks k 0) ≡ false = opens-idle own (get_or o.marks k 0) h in
        subst (λ (w : Outcome). Beside (λ ms. Up ms j many (act own within) k) o w)
        (sym (step_is actor own within y₀ k t o false s (ne_eqb k t (omega arith)) ∙ ap (λ (a : Order). combines own within k t (step_among actor within false y₀ (k + 1) t a)) (arms_none own within k t o (stopped-part-not p actor r w c))))
        (beside-so (combines own within k t (step_among actor within false y₀ (k + 1) t o)) (λ ms. up-part s)
        (idle-beside own within k t (step_among actor within false y₀ (k + 1) t o) s ((a _ w c r).kept.below k (omega arith) ∙ h) (g _ w c r u)))

    scope-stopped : (xs : List ℕ) (z : Bool) (b f : Act) (u : Acts) (y₀ k : ℕ) (o : Order) (c : Bool) → Up o.marks j many (act (scope xs z) (trio b f u)) k → Stopped o.marks (act (scope xs z) (trio b f u)) k → Waits o.marks (act (scope xs z) (trio b f u)) k t c
        → ((c : Bool) → c ≡ false → Waits o.marks b (k + 1) t c → Stopped o.marks b (k + 1) → Up o.marks j many b (k + 1) → Beside (λ ms. Up ms j many b (k + 1)) o (step_in actor b (k + 1) (k + 1) t o))
        → ((c : Bool) → c ≡ false → Waits o.marks b (k + 1) t c → Stopped o.marks b (k + 1) → Acted (k + 1) (size b) o (StopAs p b (k + 1) o) (step_in actor b (k + 1) (k + 1) t o))
        → Beside (λ ms. Up ms j many (act (scope xs z) (trio b f u)) k) o (step_in actor (act (scope xs z) (trio b f u)) y₀ k t o)
    unfolding size kind
    scope-stopped xs z b f u y₀ k o c (up-part s v) r w i l = absurd (false≢true (sym s))
    scope-stopped xs z b f u y₀ k o c (up-here s n₀ n₁ _ _) r w i l = absurd (let lo = waits-from w in let hi = waits-to w in apart (omega arith) (omega arith))
    scope-stopped xs z b f u y₀ k o c (up-scope x v) (stopped-part s _ _) w i l = absurd (false≢true (sym s))
    scope-stopped xs z b f u y₀ k o c (up-scope x v) (stopped-quiet n) w i l = absurd (up-quiet v (quiet-part n (omega arith) (omega arith)))
    scope-stopped xs z b f u y₀ k o c (up-scope x v) (stopped-scope q) w i l =
        good-beside (step_in actor (act (scope xs z) (trio b f u)) y₀ k t o) (alone-turned xs z b f u y₀ k o q x w v (λ c₁ e₁ w₁ r₁. i c₁ e₁ w₁ r₁ v) l)

    mutual
      unfolding size

      pub alone-run : {x : Place} {a : Act} {k : ℕ} → Sits p x a k → (y₀ : ℕ) (o : Order) (b : Bool) → PartOf x y₀ → Waits o.marks a k t b → b ≡ false → Run o.marks a k → Fit x o → k + size a ≤ length o.marks
          → Up o.marks j many a k → Good (λ ms. Up ms j many a k) o (step_in actor a y₀ k t o)
      alone-run (sits-part {own = own} {within} {k} s g v y l) y₀ o b q w e r f m u =
          part-alone own within y₀ k o b s e u r w (λ c w₁ e₁ r₁ u₁. alone-one l y₀ o c q w₁ e₁ r₁ f (omega arith) u₁) (λ c w₁ e₁ r₁ u₁. alone-all l y₀ o c q w₁ e₁ r₁ f (omega arith) u₁)
      alone-run (sits-scope {xs = xs} {v = z₀} {b = b₀} {f = f₀} {u = u₀} {k = k} kn d i sb z) y₀ o b q w e r f m u =
          scope-alone xs z₀ b₀ f₀ u₀ y₀ k o b sb refl (omega arith) u r w
          (λ w₁ r₁ h u₁. alone-run sb (k + 1) o false refl w₁ refl r₁ (ap phase h) (omega arith) u₁)
          (λ w₁ r₁ h. steps p actor sb (k + 1) t o false refl w₁ refl r₁ (ap phase h) (omega arith))
          (λ c e₁ w₁ r₁ u₁. alone-stopped sb (k + 1) o c refl w₁ e₁ r₁ (omega arith) u₁)
          (λ c e₁ w₁ r₁. steps-stopped p actor sb (k + 1) t o c refl w₁ e₁ r₁ (omega arith))

      alone-one : {x : Place} {l : Acts} {c : ℕ} → SitsIn p x l c → (y₀ : ℕ) (o : Order) (b : Bool) → PartOf x y₀ → WaitsIn o.marks l c t b → b ≡ false → One o.marks l c → Fit x o → c + sizes l ≤ length o.marks
          → UpIn o.marks j many l c → Good (λ ms. UpIn ms j many l c) o (step_among actor l false y₀ c t o)
      alone-one (sits-none {c = c}) y₀ o b q z e _ f m u = elim z [ ]
      alone-one (sits-more {a = a} {l} {c} s y) y₀ o b q (waits-first h w) e (one-here r n) f m (up_first u) =
          subst (λ (z : Outcome). Good (λ ms. UpIn ms j many (more a l) c) o z) (sym (among-is actor a l y₀ c t o true (lt-ltb t (c + size a) h)))
          (good-so (step_in actor a y₀ c t o) (λ ms. up_first) (alone-run s y₀ o b q w e r f (omega arith) u))
      alone-one (sits-more s y) y₀ o b q (waits-first h w) e (one-here r n) f m (up-later u) = absurd (up-quiet-in u n)
      alone-one (sits-more s y) y₀ o b q (waits-later h w) e (one-here r n) f m u = absurd (quiet-waits-in w e n)
      alone-one (sits-more s y) y₀ o b q (waits-first h w) e (one_later n r) f m u = absurd (quiet-waits w e n)
      alone-one (sits-more s y) y₀ o b q (waits-later h w) e (one_later n r) f m (up_first u) = absurd (up-quiet u n)
      alone-one (sits-more {a = a} {l} {c} s y) y₀ o b q (waits-later h w) e (one_later n r) f m (up-later u) =
          subst (λ (z : Outcome). Good (λ ms. UpIn ms j many (more a l) c) o z) (sym (among-is actor a l y₀ c t o false (le-ltb t (c + size a) h)))
          (good-so (step_among actor l false y₀ (c + size a) t o) (λ ms. up-later) (alone-one y y₀ o b q w e r f (omega arith) u))

      alone-all : {x : Place} {l : Acts} {c : ℕ} → SitsIn p x l c → (y₀ : ℕ) (o : Order) (b : Bool) → PartOf x y₀ → WaitsIn o.marks l c t b → b ≡ false → All o.marks l c → Fit x o → c + sizes l ≤ length o.marks
          → UpIn o.marks j many l c → Beside (λ ms. UpIn ms j many l c) o (step_among actor l false y₀ c t o)
      alone-all (sits-none {c = c}) y₀ o b q z e _ f m u = elim z [ ]
      alone-all (sits-more {a = a} {l} {c} s y) y₀ o b q (waits-first h w) e (all-run r n) f m (up_first u) =
          subst (λ (z : Outcome). Beside (λ ms. UpIn ms j many (more a l) c) o z) (sym (among-is actor a l y₀ c t o true (lt-ltb t (c + size a) h)))
          (good-beside (step_in actor a y₀ c t o) (good-so (step_in actor a y₀ c t o) (λ ms. up_first) (alone-run s y₀ o b q w e r f (omega arith) u)))
      alone-all (sits-more {a = a} {l} {c} s y) y₀ o b q (waits-first h w) e (all-run r n) f m (up-later u) =
          let r₀ = up-range-in u in
          let v = steps p actor s y₀ t o b q w e r f (omega arith) in
          subst (λ (z : Outcome). Beside (λ ms. UpIn ms j many (more a l) c) o z) (sym (among-is actor a l y₀ c t o true (lt-ltb t (c + size a) h)))
          (acted-ends (RunAs p a c t o) (step_in actor a y₀ c t o) v (λ x d. run_ends a c o _ _ x d) (right_of (omega arith)) (up-later (up-agree-in u (agree-above v.kept (omega arith)))))
      alone-all (sits-more s y) y₀ o b q (waits-first h w) e (all_quiet n r) f m u = absurd (quiet-waits w e n)
      alone-all (sits-more {a = a} {l} {c} s y) y₀ o b q (waits-later h w) e (all-run r n) f m (up_first u) =
          let r₀ = up-range u in
          let v = steps_all p actor y y₀ t o b q w e n f (omega arith) in
          subst (λ (z : Outcome). Beside (λ ms. UpIn ms j many (more a l) c) o z) (sym (among-is actor a l y₀ c t o false (le-ltb t (c + size a) h)))
          (acted-ends (AllAs p l (c + size a) t o) (step_among actor l false y₀ (c + size a) t o) v (λ x d. all-ends l (c + size a) o _ _ x d) (left-of (omega arith)) (up_first (up-agree u (agree-below v.kept (omega arith)))))
      alone-all (sits-more {a = a} {l} {c} s y) y₀ o b q (waits-later h w) e (all-run r n) f m (up-later u) =
          subst (λ (z : Outcome). Beside (λ ms. UpIn ms j many (more a l) c) o z) (sym (among-is actor a l y₀ c t o false (le-ltb t (c + size a) h)))
          (beside-so (step_among actor l false y₀ (c + size a) t o) (λ ms. up-later) (alone-all y y₀ o b q w e n f (omega arith) u))
      alone-all (sits-more s y) y₀ o b q (waits-later h w) e (all_quiet n r) f m (up_first u) = absurd (up-quiet u n)
      alone-all (sits-more {a = a} {l} {c} s y) y₀ o b q (waits-later h w) e (all_quiet n r) f m (up-later u) =
          subst (λ (z : Outcome). Beside (λ ms. UpIn ms j many (more a l) c) o z) (sym (among-is actor a l y₀ c t o false (le-ltb t (c + size a) h)))
          (beside-so (step_among actor l false y₀ (c + size a) t o) (λ ms. up-later) (alone-all y y₀ o b q w e r f (omega arith) u))

      -- in a stopped body
      pub alone-stopped : {x : Place} {a : Act} {k : ℕ} → Sits p x a k → (y₀ : ℕ) (o : Order) (b : Bool) → PartOf x y₀ → Waits o.marks a k t b → b ≡ false → Stopped o.marks a k → k + size a ≤ length o.marks
          → Up o.marks j many a k → Beside (λ ms. Up ms j many a k) o (step_in actor a y₀ k t o)
      alone-stopped (sits-part {own = own} {within} {k} s g v y l) y₀ o b q w e r m u =
          idle-alone own within y₀ k o b s e u r w (λ c w₁ e₁ r₁ u₁. stopped-in l y₀ o c q w₁ e₁ r₁ (omega arith) u₁) (λ c w₁ e₁ r₁. steps-stopped-in p actor l y₀ t o c q w₁ e₁ r₁ (omega arith))
      alone-stopped (sits-scope {xs = xs} {v = z₀} {b = b₀} {f = f₀} {u = u₀} {k = k} kn d i sb z) y₀ o b q w e r m u =
          scope-stopped xs z₀ b₀ f₀ u₀ y₀ k o b u r w (λ c e₁ w₁ r₁ u₁. alone-stopped sb (k + 1) o c refl w₁ e₁ r₁ (omega arith) u₁) (λ c e₁ w₁ r₁. steps-stopped p actor sb (k + 1) t o c refl w₁ e₁ r₁ (omega arith))

      stopped-in : {x : Place} {l : Acts} {c : ℕ} → SitsIn p x l c → (y₀ : ℕ) (o : Order) (b : Bool) → PartOf x y₀ → WaitsIn o.marks l c t b → b ≡ false → StoppedIn o.marks l c → c + sizes l ≤ length o.marks
          → UpIn o.marks j many l c → Beside (λ ms. UpIn ms j many l c) o (step_among actor l false y₀ c t o)
      stopped-in (sits-none {c = c}) y₀ o b q z e _ m _ = elim z [ ]
      stopped-in (sits-more {a = a} {l} {c} s y) y₀ o b q (waits-first h w) e (stopped_more r n) m (up_first u) =
          subst (λ (z : Outcome). Beside (λ ms. UpIn ms j many (more a l) c) o z) (sym (among-is actor a l y₀ c t o true (lt-ltb t (c + size a) h)))
          (beside-so (step_in actor a y₀ c t o) (λ ms. up_first) (alone-stopped s y₀ o b q w e r (omega arith) u))
      stopped-in (sits-more {a = a} {l} {c} s y) y₀ o b q (waits-first h w) e (stopped_more r n) m (up-later u) =
          let r₀ = up-range-in u in
          let v = steps-stopped p actor s y₀ t o b q w e r (omega arith) in
          subst (λ (z : Outcome). Beside (λ ms. UpIn ms j many (more a l) c) o z) (sym (among-is actor a l y₀ c t o true (lt-ltb t (c + size a) h)))
          (acted-ends (StopAs p a c o) (step_in actor a y₀ c t o) v (λ x d. stop-ends a c o _ _ x d) (right_of (omega arith)) (up-later (up-agree-in u (agree-above v.kept (omega arith)))))
      stopped-in (sits-more {a = a} {l} {c} s y) y₀ o b q (waits-later h w) e (stopped_more r n) m (up_first u) =
          let r₀ = up-range u in
          let v = steps-stopped-in p actor y y₀ t o b q w e n (omega arith) in
          subst (λ (z : Outcome). Beside (λ ms. UpIn ms j many (more a l) c) o z) (sym (among-is actor a l y₀ c t o false (le-ltb t (c + size a) h)))
          (acted-ends (StopInAs p actor l (c + size a) o) (step_among actor l false y₀ (c + size a) t o) v (λ x d. stop-in-ends l (c + size a) o _ _ x d) (left-of (omega arith)) (up_first (up-agree u (agree-below v.kept (omega arith)))))
      stopped-in (sits-more {a = a} {l} {c} s y) y₀ o b q (waits-later h w) e (stopped_more r n) m (up-later u) =
          subst (λ (z : Outcome). Beside (λ ms. UpIn ms j many (more a l) c) o z) (sym (among-is actor a l y₀ c t o false (le-ltb t (c + size a) h)))
          (beside-so (step_among actor l false y₀ (c + size a) t o) (λ ms. up-later) (stopped-in y y₀ o b q w e n (omega arith) u))
