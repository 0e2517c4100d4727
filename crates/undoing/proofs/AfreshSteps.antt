-- What begins in a step of an order that stands was idle before it, or stands with the step in an undo part. Assumes nothing.
use Prim.Native.Nat.{ℕ, zero, suc, ◌+◌, ◌≤◌, ◌<◌}
use native.Mathlib.Omega.{arith}
use mathlib.Core.Path.{◌≡◌, refl, sym, ap, subst, ◌∙◌}
use mathlib.Core.Bool.{Bool, true, false, cond, not, ◌&&◌, ◌||◌, false≢true}
use mathlib.Core.List.{List, [], ◌∷◌, ◌++◌}
use lib.ListN.{length, get_or}
use lib.Seq.{get_or-set_other}
use lib.Dec.{eqb, ltb}
use borrow.Author.Tests.{eqb-true, eqb-false, eq-eqb, ne_eqb, ltb-true, ltb-false, lt-ltb, le-ltb}
use Rattle.plan.specs.Tree.{Own, empty, send, receive, set as setting, raise, leave, choose, repeat, sequence, flow, pick, scope, arm, kind, is_scope, is_pick, Act, act, Acts, none, more, Plan, size, sizes, count, general_part, undo_part}
use Rattle.order.specs.declared.Order.{Order}
use Rattle.order.specs.Lists.{some}
use Rattle.order.specs.State.{Name, inner, idle, active, inside, faulty, halted, done, undoing, withdrawing, state_in, mark_at, mark_of, marking}
use Rattle.order.specs.Event.{Event, faulted}
use Rattle.order.specs.Begin.{Begun, begin_in_turn, begin_after, part, part_at, quiet}
use Rattle.order.specs.declared.Way.{Way as Result}
use Rattle.order.specs.declared.Way.TheVariants.{Running as running, Over as over, Raising as raising, Leaving as leaving, Undone as undone, UndoRaising as undo_raising}
use Rattle.order.specs.Scope.{Outcome, runs, begun_in, where_over, Scope, scope_at, chosen_part, choice_for, is_open, inner_runs, inner_runs_in, turns, stop, faults, looks_again, body_over, body_raised, undo_over, undo_raised, from_body, from_fault, from_undo, closing}
use Rattle.order.specs.Acting.{finishes, again, itself, is_part, arms, goes_on, joins, combines, step_in, step_among, Actor, performs}
use Rattle.order.specs.Taking.{act_in, act_among, act_at}
use Rattle.machine.specs.Fit.{awaits}
use Rattle.undoing.specs.Demand3.{Inner, scopes_of}
use Rattle.undoing.specs.Ties.{Place, body_of, undo_of, name_of, beyond_of, last_of, place_of, is_turned}
use Rattle.undoing.specs.Orderly.{is_began_of}
use Rattle.undoing.specs.Standing.{choice_on}
use Rattle.undoing.specs.Entirely.{is_undo, is_rash}
use Rattle.undoing.proofs.Causing.{caused, caused-mark, chosen_mark, faults-is}
use Rattle.undoing.proofs.Parts.{decide, one-some}
use Rattle.undoing.proofs.Accounts.{Phase, waits, heals, phase, phase-faulty}
use Rattle.undoing.proofs.Places.{first-of, second-of}
use Rattle.undoing.proofs.Moves.{Spot, runner_at}
use Rattle.undoing.proofs.Marks.{trio, Agree, Quiet, Run, run-awaits, run-one, run-all, run-body, run-done, run-turned, One, one-here, one_later, All, all-run, all_quiet, Nth, Turned, turned-waits, turned-undoes, turned-heals, Stopped, stopped-part, stopped-quiet, stopped-scope, StoppedIn, stopped_more, Stoppable, stoppable-agree, Undoing, undoing-part, undoing-scope, undoing-through, UndoingIn, undoing-here, undoing-later, quiet-part, agree-above, agree-below, stopped-agree, stopped-in-agree, turned-not-open, turned-not-rest, not-open}
use Rattle.undoing.proofs.Orders.{Fit, inner_at, Sits, sits-part, sits-scope, SitsIn, sits-more, Remedy, remedy, Healers, heals-by, heals-all, Rest, rest-undo, rest-none, sits-none}
use Rattle.undoing.proofs.Seats.{Seat, mark-kept, marking-mark, marking-agree, marking-length, inner-is, stopped-rests, stopped-rests-in}
use Rattle.undoing.proofs.Choices.{general-is}
use Rattle.undoing.proofs.Remedies.{part-from, part-to, nth-there, nth-run, undoer, chosen_on}
use Rattle.undoing.proofs.Healing.{other-mark, choice-least, undo-turned}
use Rattle.undoing.proofs.Stopping.{seat-of}
use Rattle.undoing.proofs.Waiting.{opens, Waits, waits-itself, waits-within, WaitsIn, waits-first, waits-later, opens-idle, quiet-waits, quiet-waits-in, nth-waits, undoing-waits, stopped-waits}
use Rattle.undoing.proofs.Scoping.{Acted, RunAs, StopAs, UndoAs, undoes-mark}
use Rattle.undoing.proofs.Combining.{arms-held, arms_none, Idly, idly-same, idly-runs, combines-idly}
use Rattle.undoing.proofs.Stepping.{PartOf, through-is, awake-first, plain-performs, steps, steps_all, steps-stopped, steps-stopped-in, steps-undoing, steps-undoing-in, steps-part, held-itself, opens-held, stopped-part-not, undoing-part-not, body-step, fault-step, undo-step, Whole, Its}
use Rattle.undoing.proofs.Truly.{no-pick, Arms, Knows, knows, KnowsIn, knows_more, knows-none}
use Rattle.undoing.proofs.Lasting.{is_raising, KnowsEach, each-knows}
use Rattle.undoing.proofs.Entire.{Named, turn-starts}
use Rattle.undoing.proofs.Entering.{scope-general, step-at}
use Rattle.undoing.proofs.Shapes.{is_mild, Mild, mild-finishes, mild-again, mild-joins, mild-follows}
use Rattle.undoing.proofs.Coming.{in-here, in_within, in-first, in-later}
use Rattle.undoing.proofs.Single.{looks-none, looks-still}
use Rattle.undoing.proofs.Dropping.{is_bad, Wane, Drops, step-drops, body_has, fault-has, combines-has, calmer, not-bad}
use Rattle.undoing.proofs.Afresh.{New, new-idle, new-again, News, quiet-news, Fresh, fresh-none, fresh-append, fresh-event, fresh-range, Calm, calm-part, calm-undo, calm-through, CalmIn, calm_more, quiet_calm, quiet-calm-in, run-calm, stopped-calm, fresh-where, fresh-either, fresh-runs, turns-fresh, looks-fresh, over-fresh, undone-fresh, undo-raised-fresh, fault-fresh, stop-fresh, Excused, NamedEach, NewsEach, each-named}

abbrev log-of : Outcome → List Event
log-of o = o.log

abbrev result-of : Outcome → Result
result-of o = o.result

abbrev marks-of : Outcome → List ℕ
marks-of o = o.order.marks

-- one that undoes has not faulted and waits no more
pub not-faulty : (m : ℕ) (z : Bool) → phase m ≡ Phase.undoes z → eqb (state_in m) faulty ≡ false
not-faulty m true q = rw (eqb-true (state_in m) undoing (undoes-mark m q).0)
not-faulty m false q = rw (eqb-true m withdrawing (undoes-mark m q).1)

-- by the results of what goes on
abbrev pub is_undone : Result → Bool
is_undone running = false
is_undone over = false
is_undone (raising x) = false
is_undone leaving = false
is_undone undone = true
is_undone (undo_raising x) = false

abbrev pub is_over : Result → Bool
is_over running = false
is_over over = true
is_over (raising x) = false
is_over leaving = false
is_over undone = false
is_over (undo_raising x) = false

over-is : (x : Result) → is_over x ≡ true → x ≡ over
over-is running e = absurd (false≢true e)
over-is over e = refl
over-is (raising x) e = absurd (false≢true e)
over-is leaving e = absurd (false≢true e)
over-is undone e = absurd (false≢true e)
over-is (undo_raising x) e = absurd (false≢true e)

mild-not-undone : (x : Result) → is_mild x ≡ true → is_undone x ≡ true → ⊥
mild-not-undone running m e = false≢true e
mild-not-undone over m e = false≢true e
mild-not-undone (raising x) m e = false≢true e
mild-not-undone leaving m e = false≢true e
mild-not-undone undone m e = false≢true m
mild-not-undone (undo_raising x) m e = false≢true e

-- what goes on is undone, or over, only where what ran in it is
on-undone : (k m : ℕ) (g : Order → Outcome) (r : Outcome) → ((q : Order) → Mild (g q)) → is_undone (goes_on k m g r).result ≡ true → is_undone r.result ≡ true
unfolding goes_on
on-undone k m g r h = go r.result
  where
    on : (b : Bool) → is_undone (result-of (elim b [ true ↦ g r.order | false ↦ runs r.order ])) ≡ true → ⊥
    on true e = mild-not-undone (g r.order).result (h r.order).goes e
    on false e = false≢true e

    go : (x : Result) → is_undone (where_over (λ q. elim (eqb (mark_at k q) m) [ true ↦ g q | false ↦ runs q ]) (record { result = x; order = r.order; log = r.log })).result ≡ true → is_undone x ≡ true
    go running e = e
    go over e = absurd (on (eqb (mark_at k r.order) m) e)
    go (raising x) e = e
    go leaving e = e
    go undone e = e
    go (undo_raising x) e = e

on-over : (k m : ℕ) (g : Order → Outcome) (r : Outcome) → is_over (goes_on k m g r).result ≡ true → is_over r.result ≡ true
unfolding goes_on
on-over k m g r = go r.result
  where
    go : (x : Result) → is_over (where_over (λ q. elim (eqb (mark_at k q) m) [ true ↦ g q | false ↦ runs q ]) (record { result = x; order = r.order; log = r.log })).result ≡ true → is_over x ≡ true
    go running e = e
    go over e = refl
    go (raising x) e = e
    go leaving e = e
    go undone e = e
    go (undo_raising x) e = e

combines-undone : (own : Own) (within : Acts) (k t : ℕ) (r : Outcome) → is_scope own ≡ false → is_undone (combines own within k t r).result ≡ true → is_undone r.result ≡ true
unfolding combines kind
combines-undone empty within k t r s e = e
combines-undone (send a b vs) within k t r s e = e
combines-undone (receive a b vs) within k t r s e = e
combines-undone (setting v x) within k t r s e = e
combines-undone (raise number) within k t r s e = e
combines-undone leave within k t r s e = e
combines-undone (choose x) within k t r s e = on-undone k inside (finishes k) r (mild-finishes k) e
combines-undone (repeat x) within k t r s e = on-undone k inside (again k) r (mild-again k) e
combines-undone sequence within k t r s e = on-undone k active _ r (λ q. mild-follows within k t q) e
combines-undone flow within k t r s e = on-undone k active (joins k within) r (λ q. mild-joins k within q) e
combines-undone pick within k t r s e = on-undone k inside (finishes k) r (mild-finishes k) e
combines-undone (scope xs z₀) within k t r s e = absurd (false≢true (sym s))
combines-undone (arm a b vs) within k t r s e = e

combines-over : (own : Own) (within : Acts) (k t : ℕ) (r : Outcome) → is_scope own ≡ false → is_over (combines own within k t r).result ≡ true → is_over r.result ≡ true
unfolding combines kind
combines-over empty within k t r s e = e
combines-over (send a b vs) within k t r s e = e
combines-over (receive a b vs) within k t r s e = e
combines-over (setting v x) within k t r s e = e
combines-over (raise number) within k t r s e = e
combines-over leave within k t r s e = e
combines-over (choose x) within k t r s e = on-over k inside (finishes k) r e
combines-over (repeat x) within k t r s e = on-over k inside (again k) r e
combines-over sequence within k t r s e = on-over k active _ r e
combines-over flow within k t r s e = on-over k active (joins k within) r e
combines-over pick within k t r s e = on-over k inside (finishes k) r e
combines-over (scope xs z₀) within k t r s e = absurd (false≢true (sym s))
combines-over (arm a b vs) within k t r s e = e

-- a flow that goes on changes no mark but its own
joins-marks : (k : ℕ) (within : Acts) (r : Outcome) (j : ℕ) → k < j → get_or (goes_on k active (joins k within) r).order.marks j 0 ≡ get_or r.order.marks j 0
unfolding goes_on joins
joins-marks k within r j h = go r.result
  where
    ends : (b : Bool) → get_or (marks-of (elim b [ true ↦ finishes k r.order | false ↦ runs r.order ])) j 0 ≡ get_or r.order.marks j 0
    ends true = get_or-set_other r.order.marks k j idle 0 (omega arith)
    ends false = refl

    on : (b : Bool) → get_or (marks-of (elim b [ true ↦ joins k within r.order | false ↦ runs r.order ])) j 0 ≡ get_or r.order.marks j 0
    on true = ends (quiet (k + 1) (sizes within) r.order.marks)
    on false = refl

    go : (x : Result) → get_or (where_over (λ q. elim (eqb (mark_at k q) active) [ true ↦ joins k within q | false ↦ runs q ]) (record { result = x; order = r.order; log = r.log })).order.marks j 0 ≡ get_or r.order.marks j 0
    go running = refl
    go over = on (eqb (mark_at k r.order) active)
    go (raising x) = refl
    go leaving = refl
    go undone = refl
    go (undo_raising x) = refl

-- the step, where it is the activity's own, or in what stands within
pub its_own : (actor : Actor) (own : Own) (within : Acts) (y₀ k t : ℕ) (o : Order) → k ≡ t → step_in actor (act own within) y₀ k t o ≡ performs actor own within y₀ k o
unfolding step_in
its_own actor own within y₀ k t o e =
    first-of (eqb k t) (performs actor own within y₀ k o) (combines own within k t (step_among actor within (is_scope own) y₀ (k + 1) t (arms own within k t o))) (step_in actor (act own within) y₀ k t o) refl (eq-eqb k t e)

pub its-within : (actor : Actor) (own : Own) (within : Acts) (y₀ k t : ℕ) (o o₁ : Order) → is_scope own ≡ false → (k ≡ t → ⊥) → arms own within k t o ≡ o₁
    → step_in actor (act own within) y₀ k t o ≡ combines own within k t (step_among actor within false y₀ (k + 1) t o₁)
unfolding step_in
its-within actor own within y₀ k t o o₁ s n e =
    second-of (eqb k t) (performs actor own within y₀ k o) (combines own within k t (step_among actor within (is_scope own) y₀ (k + 1) t (arms own within k t o))) (step_in actor (act own within) y₀ k t o) refl (ne_eqb k t n)
    ∙ (ap (λ (v : Bool). combines own within k t (step_among actor within v y₀ (k + 1) t (arms own within k t o))) s ∙ ap (λ (q : Order). combines own within k t (step_among actor within false y₀ (k + 1) t q)) e)

pub its-first : (actor : Actor) (a : Act) (l : Acts) (y₀ c t : ℕ) (o : Order) → t < c + size a → step_among actor (more a l) false y₀ c t o ≡ step_in actor a y₀ c t o
unfolding step_in
its-first actor a l y₀ c t o h = first-of (ltb t (c + size a)) (step_in actor a y₀ c t o) (step_among actor l false y₀ (c + size a) t o) (step_among actor (more a l) false y₀ c t o) refl (lt-ltb t (c + size a) h)

pub its-later : (actor : Actor) (a : Act) (l : Acts) (y₀ c t : ℕ) (o : Order) → c + size a ≤ t → step_among actor (more a l) false y₀ c t o ≡ step_among actor l false y₀ (c + size a) t o
unfolding step_in
its-later actor a l y₀ c t o h = second-of (ltb t (c + size a)) (step_in actor a y₀ c t o) (step_among actor l false y₀ (c + size a) t o) (step_among actor (more a l) false y₀ c t o) refl (le-ltb t (c + size a) h)

-- what stands at a number of a tree is what the plan has there
pub record Stood (p : Plan) (a : Act) (k : ℕ) : Type 0 where
  pub at : (j : ℕ) → k ≤ j → j < k + size a → act_at p j ≡ act_in a k j

pub record StoodIn (p : Plan) (l : Acts) (c : ℕ) : Type 0 where
  pub at : (j : ℕ) → c ≤ j → j < c + sizes l → act_at p j ≡ act_among l c j

pub stood-here : {p : Plan} {own : Own} {within : Acts} {k : ℕ} → Stood p (act own within) k → act_at p k ≡ act own within
unfolding size
stood-here {p} {own} {within} {k} w = w.at k (omega arith) (omega arith) ∙ in-here (act own within) k

pub stood-within : {p : Plan} {own : Own} {within : Acts} {k : ℕ} → Stood p (act own within) k → StoodIn p within (k + 1)
unfolding size
stood-within {p} {own} {within} {k} w = record { at = λ j x y. w.at j (omega arith) (omega arith) ∙ in_within own within k j (omega arith) }

pub stood-first : {p : Plan} {a : Act} {l : Acts} {c : ℕ} → StoodIn p (more a l) c → Stood p a c
unfolding size
stood-first {p} {a} {l} {c} w = record { at = λ j x y. w.at j x (omega arith) ∙ in-first a l c j y }

pub stood-later : {p : Plan} {a : Act} {l : Acts} {c : ℕ} → StoodIn p (more a l) c → StoodIn p l (c + size a)
unfolding size
stood-later {p} {a} {l} {c} w = record { at = λ j x y. w.at j (omega arith) (omega arith) ∙ in-later a l c j x }

pub stood-nth : {p : Plan} {l : Acts} {c : ℕ} → StoodIn p l c → (i : ℕ) → i < count l → Stood p (part i l) (part_at i l c)
unfolding part part_at count
stood-nth {l = none} w i h = absurd (omega arith)
stood-nth {l = more a l} w zero h = stood-first w
stood-nth {l = more a l} w (suc i) h = stood-nth {l = l} (stood-later w) i (omega arith)

-- it stands in the body of a scope with no undo part that has turned
abbrev pub is_handed : Plan → List ℕ → (activity : ℕ) → Bool
is_handed p ms j = some (λ (y : Inner). (not y.undoes && is_turned (get_or ms y.number 0)) && (ltb y.number j && ltb j y.fault)) (scopes_of p)

-- an activity stands in an undo part, and the step in it, or it may have been handed on, where the step raised
pub data How (p : Plan) (t : ℕ) (ms : List ℕ) (v : Bool) (j : ℕ) : Type 0 where
  in-it : j ≤ t → t < j + size (act_at p j) → How p t ms v j
  handed : v ≡ true → is_handed p ms j ≡ true → How p t ms v j

pub record Again (p : Plan) (t : ℕ) (ms : List ℕ) (v : Bool) (j : ℕ) : Type 0 where
  pub place : is_undo (place_of p j) ≡ true
  pub how : How p t ms v j

-- with more events it may still
how-more : {p : Plan} {t : ℕ} {ms : List ℕ} {v w : Bool} {j : ℕ} → (v ≡ true → w ≡ true) → How p t ms v j → How p t ms w j
how-more g (in-it a b) = in-it a b
how-more g (handed e h) = handed (g e) h

new-more : {p : Plan} {f : ℕ → ℕ} {t : ℕ} {ms : List ℕ} {v w : Bool} {j : ℕ} → (v ≡ true → w ≡ true) → New p f (Again p t ms v) ms j → New p f (Again p t ms w) ms j
new-more g (new-idle e) = new-idle e
new-more g (new-again a) = new-again (record { place = a.place; how = how-more g a.how })

pub fresh-more : {p : Plan} {f : ℕ → ℕ} {t : ℕ} {ms : List ℕ} {v w : Bool} {l : List Event} → (v ≡ true → w ≡ true) → Fresh p f (Again p t ms v) ms l → Fresh p f (Again p t ms w) ms l
fresh-more g x = record { at = λ j h. new-more g (x.at j h) }

-- What stands in the body of such a scope is excused.
pub its-excused : (p : Plan) (f : ℕ → ℕ) (t : ℕ) (ms : List ℕ) (w : Bool) → w ≡ true → Excused p f (Again p t ms w) ms
unfolding part_at part
its-excused p f t ms w raised =
    record {
      at = λ xs k n ns b g u kn v. record {
        at = λ j x y z. record {
          place = z;
          how = handed raised (one-some _ (λ (y : Inner). eqb y.number k) (inner_at xs false k n ns (trio b g u)) (scopes_of p) kn.by_number (rw (v, lt-ltb k j (omega arith), lt-ltb j (k + 1 + size b) y)));
        };
      };
    }

module _ (p : Plan) (actor : Actor) (f : ℕ → ℕ) (t : ℕ) (o : Order) (A : ℕ → Type 0) where
  abbrev pub Newly : List Event → Type 0
  Newly l = Fresh p f A o.marks l

  -- Activities other than scopes.

  -- all that a step logs as begun stands in the activity, and is not that
  pub quiet-fresh : {own : Own} {within : Acts} {k : ℕ} → Knows f (act own within) k → (y₀ : ℕ) → k ≤ t → Quiet o.marks (k + 1) (sizes within) → Newly (step_in actor (act own within) y₀ k t o).log
  unfolding size
  quiet-fresh {own} {within} {k} x y₀ h q =
      let s = (step-at f t actor x y₀ o h).strict in
      fresh-range p f A o.marks (step_in actor (act own within) y₀ k t o).log (k + 1) (sizes within) (λ j e. s.below j (omega arith)) (λ j e. s.above j (omega arith)) (quiet-news p f A o.marks q)

  -- what follows in a sequence is quiet
  pub after-fresh : {l : Acts} {c : ℕ} {b : Bool} → KnowsIn f l c → Arms false l → WaitsIn o.marks l c t b → b ≡ false → One o.marks l c → (ns : List ℕ) → Newly (begin_after l c t ns).log
  unfolding begin_after
  after-fresh {b = b} (knows-none {c = c}) r z e _ ns = elim z [ ]
  after-fresh (knows_more {a = act own v} {l} {c} x y) r (waits-first h w) e (one-here n q) ns =
      let s = turn-starts f y r.1 ns in
      subst (λ (z : Begun). Newly z.log) (sym (first-of (ltb t (c + size (act own v))) (begin_in_turn l (c + size (act own v)) ns) (begin_after l (c + size (act own v)) t ns) (begin_after (more (act own v) l) c t ns) refl (lt-ltb t (c + size (act own v)) h)))
      (fresh-range p f A o.marks (begin_in_turn l (c + size (act own v)) ns).log (c + size (act own v)) (sizes l) s.below s.above (quiet-news p f A o.marks q))
  after-fresh (knows_more x y) r (waits-later h w) e (one-here n q) ns = absurd (quiet-waits-in w e q)
  after-fresh (knows_more x y) r (waits-first h w) e (one_later q n) ns = absurd (quiet-waits w e q)
  after-fresh (knows_more {a = act own v} {l} {c} x y) r (waits-later h w) e (one_later q n) ns =
      subst (λ (z : Begun). Newly z.log) (sym (second-of (ltb t (c + size (act own v))) (begin_in_turn l (c + size (act own v)) ns) (begin_after l (c + size (act own v)) t ns) (begin_after (more (act own v) l) c t ns) refl (le-ltb t (c + size (act own v)) h)))
      (after-fresh y r.1 w e n ns)

  on-fresh : (k m : ℕ) (g : Order → Outcome) (r : Outcome) → Newly r.log → (eqb (mark_at k r.order) m ≡ true → Newly (g r.order).log) → Newly (goes_on k m g r).log
  unfolding goes_on
  on-fresh k m g r w h = go r.result
    where
      on : Newly (r.log ++ log-of (elim (eqb (mark_at k r.order) m) [ true ↦ g r.order | false ↦ runs r.order ]))
      on = fresh-append p f A o.marks r.log _ w (fresh-either p f A o.marks (eqb (mark_at k r.order) m) (g r.order) (runs r.order) _ refl h (λ e. fresh-runs p f A o.marks r.order))

      go : (x : Result) → Newly (where_over (λ q. elim (eqb (mark_at k q) m) [ true ↦ g q | false ↦ runs q ]) (record { result = x; order = r.order; log = r.log })).log
      go running = w
      go over = on
      go (raising x) = w
      go leaving = w
      go undone = w
      go (undo_raising x) = w

  pub none-fresh : Newly []
  unfolding some
  none-fresh = fresh-none p f A o.marks [] (λ j. refl)

  joins-fresh : (k : ℕ) (within : Acts) (q : Order) → Newly (joins k within q).log
  unfolding joins
  joins-fresh k within q = fresh-either p f A o.marks (quiet (k + 1) (sizes within) q.marks) (finishes k q) (runs q) (joins k within q) refl (λ e. none-fresh) (λ e. none-fresh)

  pub combines-fresh : (own : Own) (within : Acts) (k : ℕ) (r : Outcome) → is_scope own ≡ false → Newly r.log
      → (eqb (kind own) 8 ≡ true → eqb (mark_at k r.order) active ≡ true → (ns : List ℕ) → Newly (begin_after within (k + 1) t ns).log) → Newly (combines own within k t r).log
  unfolding combines kind
  combines-fresh empty within k r s w h = w
  combines-fresh (send a b vs) within k r s w h = w
  combines-fresh (receive a b vs) within k r s w h = w
  combines-fresh (setting v e) within k r s w h = w
  combines-fresh (raise number) within k r s w h = w
  combines-fresh leave within k r s w h = w
  combines-fresh (choose e) within k r s w h = on-fresh k inside (finishes k) r w (λ d. none-fresh)
  combines-fresh (repeat e) within k r s w h = on-fresh k inside (again k) r w (λ d. none-fresh)
  combines-fresh sequence within k r s w h =
      on-fresh k active (λ q. where_over (finishes k) (begun_in q (begin_after within (k + 1) t q.marks))) r w
      (λ d. fresh-where p f A o.marks (finishes k) (begun_in r.order (begin_after within (k + 1) t r.order.marks)) (h refl d r.order.marks) (λ q. none-fresh))
  combines-fresh flow within k r s w h = on-fresh k active (joins k within) r w (λ d. joins-fresh k within r.order)
  combines-fresh pick within k r s w h = on-fresh k inside (finishes k) r w (λ d. none-fresh)
  combines-fresh (scope xs z₀) within k r s w h = absurd (false≢true (sym s))
  combines-fresh (arm a b vs) within k r s w h = w

  -- A scope, whose body has a step.
  module _ (s : Scope) (h : Seat p s) (kb : Knows f s.body s.body_at) (kf : KnowsEach f s) (named : NamedEach p f A o.marks s) (q : Quiet o.marks s.parts_at (sizes s.parts))
      (m : s.body_at + size s.body ≤ length o.marks) (w : Newly (step_in actor s.body s.body_at s.body_at t o).log)
      (ex : some is_rash (step_in actor s.body s.body_at s.body_at t o).log ≡ true → Excused p f A o.marks) where
    abbrev its : Outcome
    its = step_in actor s.body s.body_at s.body_at t o

    -- each fault part that it may choose is quiet
    each-news : NewsEach p f A o.marks s
    each-news c =
        let w = h.chosen c in
        let i = chosen_on s.numbers c in
        let lo = part-from i s.parts s.parts_at in
        let hi = part-to i s.parts s.parts_at w.there in
        quiet-news p f A o.marks (quiet-part q (omega (arith, w.at)) (omega (arith, w.at, ap size w.is)))

    its-mark : {C : List Event → Order → Result → Type 0} → Acted s.body_at (size s.body) o C its → mark_of s.name its.order ≡ mark_of s.name o
    its-mark v = mark-kept s.name s.body_at o its.order h.before (omega arith) v.rooted v.kept

    later : (x : Outcome) → Newly x.log → Newly (its.log ++ x.log)
    later x v = fresh-append p f A o.marks its.log x.log w v

    faults-fresh : (number : ℕ) (o₁ : Order) → Calm p f A o.marks s.body s.body_at → Stoppable o₁.marks s.body s.body_at → length o₁.marks ≡ length o.marks
        → ((j : ℕ) → Wane o.marks o₁.marks j) → Newly (faults number s o₁).log
    unfolding is_began_of
    faults-fresh number o₁ c y n st =
        let z = chosen_mark number s in
        let o₂ = caused s.name number (marking s.name z o₁) in
        let r = stop s.body s.body_at o₂ in
        let g : Agree s.body_at (size s.body) o₁.marks o₂.marks = marking-agree s.name z o₁ h.before in
        subst (λ (z : Outcome). Newly z.log) (sym (faults-is number s o₁))
        (fresh-event p f A o.marks (faulted s.name number) _ (λ j. refl)
        (fresh-append p f A o.marks r.log (turns true s r.order).log
        (stop-fresh p f A o.marks h.body kb c o₂ (ap phase (caused-mark s.name s.name number (marking s.name z o₁) ∙ marking-mark s.name s.body_at z o₁ h.before (omega arith)) ∙ phase-faulty (choice_for number s)) (stoppable-agree y g) (omega (arith, marking-length s.name z o₁))
        (record {
          at = λ j x y e. let d : is_open (get_or o₁.marks j 0) ≡ true = subst (λ (i : ℕ). is_open i ≡ true) (g.at j x y) e in
              (st j).was d;
        }))
        (turns-fresh p f A o.marks s kb kf named true (λ e. each-news) r.order (λ v. c))))

    pub live-fresh : mark_of s.name o ≡ active → Run o.marks s.body s.body_at → Acted s.body_at (size s.body) o (RunAs p s.body s.body_at t o) its → Newly (from_body s its).log
    unfolding from_body body_raised body_over
    live-fresh a run v = go its.result refl v.comes
      where
        still : Newly (looks_again s its.order).log
        still = subst (λ (r : Outcome). Newly r.log) (sym (looks-still f s kb kf its.order (rw (its-mark v ∙ a)) (rw (its-mark v ∙ a)))) none-fresh

        go : (x : Result) → its.result ≡ x → RunAs p s.body s.body_at t o its.log its.order x → Newly (from_body s (record { result = x; order = its.order; log = its.log })).log
        go running e d = later (looks_again s its.order) still
        go over e d =
            later (body_over s its.order)
            (fresh-either p f A o.marks (eqb (mark_of s.name its.order) active) (runs (marking s.name done its.order)) (looks_again s its.order) (body_over s its.order) refl (λ z. none-fresh) (λ z. still))
        go (raising x) e d =
            later (body_raised x s its.order)
            (fresh-either p f A o.marks (is_open (mark_of s.name its.order)) (faults x s its.order) (looks_again s its.order) (body_raised x s its.order) refl
            (λ z. faults-fresh x its.order (run-calm p f A o.marks (ex (drops.rash (subst (λ (y : Result). is_bad y ≡ true) (sym e) refl))) h.body run) d.0 v.kept.many (drops.stays (subst (λ (y : Result). is_raising y ≡ true) (sym e) refl)))
            (λ z. still))
          where
            drops : Drops o its
            drops = step-drops f t actor kb s.body_at o
        go leaving e d = w
        go undone e d = absurd d
        go (undo_raising x) e d = absurd d

    pub waits-fresh : (z : Bool) → phase (mark_of s.name o) ≡ waits z → Stopped o.marks s.body s.body_at
        → (some is_rash its.log ≡ false → inner_runs s.body s.body_at its.order.marks ≡ false → Calm p f A o.marks s.body s.body_at)
        → Acted s.body_at (size s.body) o (StopAs p s.body s.body_at o) its → Newly (from_body s its).log
    unfolding from_body body_raised
    waits-fresh z ph st cm v = go its.result v.comes
      where
        c : inner_runs s.body s.body_at its.order.marks ≡ false → Calm p f A o.marks s.body s.body_at
        c d = decide (some is_rash its.log) (λ e. stopped-calm p f A o.marks (ex e) h.body st) (λ e. cm e d)

        nf : NewsEach p f A o.marks s
        nf = each-news

        go : (x : Result) → StopAs p s.body s.body_at o its.log its.order x → Newly (from_body s (record { result = x; order = its.order; log = its.log })).log
        go running d = later (looks_again s its.order) (looks-fresh p f A o.marks s kb kf named nf its.order c)
        go over d = later (body_over s its.order) (over-fresh p f A o.marks s kb kf named nf its.order c)
        go (raising x) d =
            later (body_raised x s its.order)
            (fresh-either p f A o.marks (is_open (mark_of s.name its.order)) (faults x s its.order) (looks_again s its.order) (body_raised x s its.order) refl
            (λ y. absurd (false≢true (sym (not-open (mark_of s.name its.order) (waits z) (ap phase (its-mark v) ∙ ph) (λ d. let z : ◌≡◌ {A = ℕ} 0 1 = cc in omega arith)) ∙ y)))
            (λ y. looks-fresh p f A o.marks s kb kf named nf its.order c))
        go leaving d = w
        go undone d = absurd d
        go (undo_raising x) d = absurd d

    pub undoes-fresh : (z : Bool) → phase (mark_of s.name o) ≡ Phase.undoes z → (is_undone its.result ≡ true → Calm p f A o.marks s.body s.body_at)
        → Acted s.body_at (size s.body) o (UndoAs p s.name s.body s.body_at t o) its → Newly (from_body s its).log
    unfolding from_body
    undoes-fresh z ph c v = go its.result refl v.comes
      where
        still : looks_again s its.order ≡ runs its.order
        still =
            looks-still f s kb kf its.order
            (not-faulty (mark_of s.name its.order) z (ap phase (its-mark v) ∙ ph))
            (other-mark (mark_of s.name its.order) halted (Phase.undoes z) (ap phase (its-mark v) ∙ ph) (λ d. let z : ◌≡◌ {A = ℕ} 0 1 = cc in omega arith))

        go : (x : Result) → its.result ≡ x → UndoAs p s.name s.body s.body_at t o its.log its.order x → Newly (from_body s (record { result = x; order = its.order; log = its.log })).log
        go running e d = later (looks_again s its.order) (subst (λ (r : Outcome). Newly r.log) (sym still) none-fresh)
        go over e d = absurd d
        go (raising x) e d = absurd d
        go leaving e d = w
        go undone e d = later (undo_over s its.order) (undone-fresh p f A o.marks s kb kf named (c (subst (λ (y : Result). is_undone y ≡ true) (sym e) refl)) each-news its.order)
        go (undo_raising x) e d = later (undo_raised x s its.order) (undo-raised-fresh p f A o.marks s x its.order)

-- neither of two
neither : (a b : Bool) → (a || b) ≡ false → (a ≡ false) × (b ≡ false)
neither true b e = absurd (false≢true (sym e))
neither false b e = (refl, e)

module _ (p : Plan) (actor : Actor) (f : ℕ → ℕ) (t : ℕ) (o : Order) (raised : Bool) where
  -- An undo part that is over after the step: all that ran in it had the step in it.
  its-again : {x : Place} {own : Own} {within : Acts} {k : ℕ} → Spot p x k → is_undo x ≡ true → Stood p (act own within) k → k ≤ t → t < k + size (act own within) → Again p t o.marks raised k
  its-again {k = k} s u w h e = record { place = ap is_undo s.place ∙ u; how = in-it h (subst (λ (a : Act). t < k + size a) (sym (stood-here w)) e) }

  news-node : {k n : ℕ} → New p f (Again p t o.marks raised) o.marks k → News p f (Again p t o.marks raised) o.marks (k + 1) n → News p f (Again p t o.marks raised) o.marks k (1 + n)
  news-node {k} w v = record { at = λ j x y. decide (eqb j k) (λ e. subst (λ (i : ℕ). New p f (Again p t o.marks raised) o.marks i) (sym (eqb-true j k e)) w) (λ e. let d = eqb-false j k e in v.at j (omega arith) (omega arith)) }

  news-join : {k n m : ℕ} → News p f (Again p t o.marks raised) o.marks k n → News p f (Again p t o.marks raised) o.marks (k + n) m → News p f (Again p t o.marks raised) o.marks k (n + m)
  news-join {k} {n} {m} w v = record { at = λ j x y. decide (ltb j (k + n)) (λ e. w.at j x (ltb-true j (k + n) e)) (λ e. v.at j (ltb-false j (k + n) e) (omega arith)) }

  quiet-back : {k n : ℕ} (ns : List ℕ) → Quiet ns k n → Agree k n o.marks ns → Quiet o.marks k n
  quiet-back ns q g = record { at = λ i x y. sym (g.at i x y) ∙ q.at i x y }

  ran-part : {x : Place} (own : Own) (within : Acts) (y₀ k : ℕ) (b : Bool) → is_scope own ≡ false → Spot p x k → is_undo x ≡ true → Stood p (act own within) k
      → Waits o.marks (act own within) k t b → b ≡ false → Run o.marks (act own within) k → t < k + size (act own within) → is_over (step_in actor (act own within) y₀ k t o).result ≡ true
      → Quiet (step_in actor (act own within) y₀ k t o).order.marks k (size (act own within))
      → ((c : Bool) → WaitsIn o.marks within (k + 1) t c → c ≡ false → One o.marks within (k + 1) → is_over (step_among actor within false y₀ (k + 1) t o).result ≡ true → News p f (Again p t o.marks raised) o.marks (k + 1) (sizes within))
      → ((c : Bool) → WaitsIn o.marks within (k + 1) t c → c ≡ false → All o.marks within (k + 1) → is_over (step_among actor within false y₀ (k + 1) t o).result ≡ true
      → Quiet (step_among actor within false y₀ (k + 1) t o).order.marks (k + 1) (sizes within) → News p f (Again p t o.marks raised) o.marks (k + 1) (sizes within))
      → News p f (Again p t o.marks raised) o.marks k (size (act own within))
  unfolding size kind itself awaits combines
  ran-part own within y₀ k b s u i st (waits-itself e₁ d₁) e (run-awaits s₁ y x q) h d z one all = news-node (new-again (its-again u i st (omega arith) h)) (quiet-news p f (Again p t o.marks raised) o.marks q)
  ran-part own within y₀ k b s u i st (waits-itself e₁ d₁) e (run-one s₁ x r) h d z one all =
      absurd (false≢true (subst (λ (q : Outcome). is_over q.result ≡ true) (its_own actor own within y₀ k t o e₁ ∙ held-itself p actor own within y₀ k o s (rw (x, e) at d₁)) d))
  ran-part flow within y₀ k b s u i st (waits-itself e₁ d₁) e (run-all x r a) h d z one all = absurd (false≢true (subst (λ (q : Outcome). is_over q.result ≡ true) (its_own actor flow within y₀ k t o e₁ ∙ plain-performs actor flow within y₀ k o refl) d))
  ran-part own within y₀ k b s u i st (waits-itself e₁ d₁) e (run-body x r q) h d z one all = absurd (false≢true (sym s))
  ran-part own within y₀ k b s u i st (waits-itself e₁ d₁) e (run-done x q) h d z one all = absurd (false≢true (sym s))
  ran-part own within y₀ k b s u i st (waits-itself e₁ d₁) e (run-turned x) h d z one all = absurd (false≢true (sym s))
  ran-part own within y₀ k b s u i st (waits-within g w) e (run-awaits s₁ y x q) h d z one all = news-node (new-again (its-again u i st (omega arith) h)) (quiet-news p f (Again p t o.marks raised) o.marks q)
  ran-part own within y₀ k b s u i st (waits-within g w) e (run-one s₁ x r) h d z one all =
      news-node (new-again (its-again u i st (omega arith) h))
      (one (opens own (get_or o.marks k 0)) w (opens-held p actor own (get_or o.marks k 0) x) r
      (combines-over own within k t (step_among actor within false y₀ (k + 1) t o) s (subst (λ (q : Outcome). is_over q.result ≡ true) (its-within actor own within y₀ k t o o s (λ e. omega arith) (arms-held own within k t o x)) d)))
  ran-part flow within y₀ k b s u i st (waits-within g w) e (run-all x r a) h d z one all =
      let y = its-within actor flow within y₀ k t o o refl (λ e. omega arith) (arms-held flow within k t o x) in
      news-node (new-again (its-again u i st (omega arith) h))
      (all (opens flow (get_or o.marks k 0)) w refl r
      (combines-over flow within k t (step_among actor within false y₀ (k + 1) t o) s (subst (λ (q : Outcome). is_over q.result ≡ true) y d))
      (record { at = λ j v w. sym (joins-marks k within (step_among actor within false y₀ (k + 1) t o) j (omega arith)) ∙ (subst (λ (q : Outcome). Quiet q.order.marks k (1 + sizes within)) y z).at j (omega arith) (omega arith) }))
  ran-part own within y₀ k b s u i st (waits-within g w) e (run-body x r q) h d z one all = absurd (false≢true (sym s))
  ran-part own within y₀ k b s u i st (waits-within g w) e (run-done x q) h d z one all = absurd (false≢true (sym s))
  ran-part own within y₀ k b s u i st (waits-within g w) e (run-turned x) h d z one all = absurd (false≢true (sym s))

  over-quiet : (a : Act) (y₀ k : ℕ) → is_over (step_in actor a y₀ k t o).result ≡ true → Acted k (size a) o (RunAs p a k t o) (step_in actor a y₀ k t o) → Quiet (step_in actor a y₀ k t o).order.marks k (size a)
  over-quiet a y₀ k d w = (subst (λ (y : Result). RunAs p a k t o (step_in actor a y₀ k t o).log (step_in actor a y₀ k t o).order y) (over-is (step_in actor a y₀ k t o).result d) w.comes).0

  mutual
    unfolding size kind itself awaits

    ran-run : {x : Place} {a : Act} {k : ℕ} → Sits p x a k → is_undo x ≡ true → Stood p a k → (y₀ : ℕ) → PartOf x y₀ → (b : Bool) → Waits o.marks a k t b → b ≡ false → Run o.marks a k → Fit x o → k + size a ≤ length o.marks
        → t < k + size a → is_over (step_in actor a y₀ k t o).result ≡ true → News p f (Again p t o.marks raised) o.marks k (size a)
    ran-run (sits-part {q = x} {own} {within} {k} s g u y l) i st y₀ y₁ b w e run v m h d =
        ran-part own within y₀ k b s u i st w e run h d (over-quiet (act own within) y₀ k d (steps p actor (sits-part s g u y l) y₀ t o b y₁ w e run v m))
        (λ c w₁ e₁ r₁ d₁. ran-one l i (stood-within st) y₀ y₁ c w₁ e₁ r₁ v (omega arith) d₁)
        (λ c w₁ e₁ r₁ d₁ q. ran-all l i (stood-within st) y₀ y₁ c w₁ e₁ r₁ v (omega arith) d₁ q)
    ran-run (sits-scope kn s j sb y) i st y₀ y₁ b w e run v m h d = absurd (false≢true i)

    ran-one : {x : Place} {l : Acts} {c : ℕ} → SitsIn p x l c → is_undo x ≡ true → StoodIn p l c → (y₀ : ℕ) → PartOf x y₀ → (b : Bool) → WaitsIn o.marks l c t b → b ≡ false → One o.marks l c → Fit x o → c + sizes l ≤ length o.marks
        → is_over (step_among actor l false y₀ c t o).result ≡ true → News p f (Again p t o.marks raised) o.marks c (sizes l)
    ran-one (sits-none {q = q} {c = c}) i st y₀ y₁ b z e _ v m d = elim z [ ]
    ran-one (sits-more {q = x} {a} {l} {c} s y) i st y₀ y₁ b (waits-first h w) e (one-here r q) v m d =
        news-join (ran-run s i (stood-first st) y₀ y₁ b w e r v (omega arith) h (subst (λ (z : Outcome). is_over z.result ≡ true) (its-first actor a l y₀ c t o h) d)) (quiet-news p f (Again p t o.marks raised) o.marks q)
    ran-one (sits-more {q = x} {a} {l} {c} s y) i st y₀ y₁ b (waits-later h w) e (one-here r q) v m d = absurd (quiet-waits-in w e q)
    ran-one (sits-more {q = x} {a} {l} {c} s y) i st y₀ y₁ b (waits-first h w) e (one_later q r) v m d = absurd (quiet-waits w e q)
    ran-one (sits-more {q = x} {a} {l} {c} s y) i st y₀ y₁ b (waits-later h w) e (one_later q r) v m d =
        news-join (quiet-news p f (Again p t o.marks raised) o.marks q) (ran-one y i (stood-later st) y₀ y₁ b w e r v (omega arith) (subst (λ (z : Outcome). is_over z.result ≡ true) (its-later actor a l y₀ c t o h) d))

    ran-all : {x : Place} {l : Acts} {c : ℕ} → SitsIn p x l c → is_undo x ≡ true → StoodIn p l c → (y₀ : ℕ) → PartOf x y₀ → (b : Bool) → WaitsIn o.marks l c t b → b ≡ false → All o.marks l c → Fit x o → c + sizes l ≤ length o.marks
        → is_over (step_among actor l false y₀ c t o).result ≡ true → Quiet (step_among actor l false y₀ c t o).order.marks c (sizes l) → News p f (Again p t o.marks raised) o.marks c (sizes l)
    ran-all (sits-none {q = q} {c = c}) i st y₀ y₁ b w e _ v m d z = elim w [ ]
    ran-all (sits-more {q = x} {a} {l} {c} s y) i st y₀ y₁ b (waits-first h w) e (all-run r q) v m d z =
        let j = its-first actor a l y₀ c t o h in
        news-join (ran-run s i (stood-first st) y₀ y₁ b w e r v (omega arith) h (subst (λ (z : Outcome). is_over z.result ≡ true) j d))
        (quiet-news p f (Again p t o.marks raised) o.marks (quiet-back (step_in actor a y₀ c t o).order.marks (subst (λ (q : Outcome). Quiet q.order.marks (c + size a) (sizes l)) j (quiet-part z (omega arith) (omega arith)))
        (record { at = λ n x y. (steps p actor s y₀ t o b y₁ w e r v (omega arith)).kept.above n (omega arith) })))
    ran-all (sits-more {q = x} {a} {l} {c} s y) i st y₀ y₁ b (waits-first h w) e (all_quiet q r) v m d z = absurd (quiet-waits w e q)
    ran-all (sits-more {q = x} {a} {l} {c} s y) i st y₀ y₁ b (waits-later h w) e (all-run r q) v m d z =
        let j = its-later actor a l y₀ c t o h in
        news-join (quiet-news p f (Again p t o.marks raised) o.marks (quiet-back (step_among actor l false y₀ (c + size a) t o).order.marks (subst (λ (q : Outcome). Quiet q.order.marks c (size a)) j (quiet-part z (omega arith) (omega arith)))
        (record { at = λ n x g. (steps_all p actor y y₀ t o b y₁ w e q v (omega arith)).kept.below n (omega arith) })))
        (ran-all y i (stood-later st) y₀ y₁ b w e q v (omega arith) (subst (λ (z : Outcome). is_over z.result ≡ true) j d) (subst (λ (q : Outcome). Quiet q.order.marks (c + size a) (sizes l)) j (quiet-part z (omega arith) (omega arith))))
    ran-all (sits-more {q = x} {a} {l} {c} s y) i st y₀ y₁ b (waits-later h w) e (all_quiet q r) v m d z =
        let j = its-later actor a l y₀ c t o h in
        news-join (quiet-news p f (Again p t o.marks raised) o.marks q)
        (ran-all y i (stood-later st) y₀ y₁ b w e r v (omega arith) (subst (λ (z : Outcome). is_over z.result ≡ true) j d) (subst (λ (q : Outcome). Quiet q.order.marks (c + size a) (sizes l)) j (quiet-part z (omega arith) (omega arith))))

  ran-undo : {n c : Name} {ns : List Name} {a : Act} {k : ℕ} → Remedy p (undo_of n ns c) a k → Stood p a k → (y₀ : ℕ) → PartOf (undo_of n ns c) y₀ → (b : Bool) → Waits o.marks a k t b → b ≡ false → Run o.marks a k → Fit (undo_of n ns c) o → k + size a ≤ length o.marks
      → t < k + size a → is_over (step_in actor a y₀ k t o).result ≡ true → News p f (Again p t o.marks raised) o.marks k (size a)
  unfolding size
  ran-undo (remedy {own = own} {within} {k} s a g u z l j) st y₀ y₁ b w e run v m h d =
      ran-part own within y₀ k b s u refl st w e run h d (over-quiet (act own within) y₀ k d (steps-part p actor (remedy s a g u z l j) y₀ t o b y₁ w e run v m))
      (λ c w₁ e₁ r₁ d₁. ran-one l refl (stood-within st) y₀ y₁ c w₁ e₁ r₁ v (omega arith) d₁)
      (λ c w₁ e₁ r₁ d₁ q. ran-all l refl (stood-within st) y₀ y₁ c w₁ e₁ r₁ v (omega arith) d₁ q)

  from-undo-over : (a : Act) (k : ℕ) → Acted k (size a) o (RunAs p a k t o) (step_in actor a k k t o) → is_undone (from_undo (step_in actor a k k t o)).result ≡ true → is_over (step_in actor a k k t o).result ≡ true
  unfolding from_undo
  from-undo-over a k w d = go (step_in actor a k k t o).result w.comes d
    where
      go : (x : Result) → RunAs p a k t o (step_in actor a k k t o).log (step_in actor a k k t o).order x → is_undone (from_undo (record { result = x; order = o; log = [] })).result ≡ true → is_over x ≡ true
      go running c e = e
      go over c e = refl
      go (raising x) c e = absurd (false≢true e)
      go leaving c e = absurd (false≢true e)
      go undone c e = absurd c
      go (undo_raising x) c e = absurd (false≢true e)

  no_less : {k : ℕ} → k < t → k ≡ t → ⊥
  no_less y z = omega arith

  -- A body of which an undo part runs, and is over after the step.
  mutual
    unfolding size kind part part_at

    pub undoing-calm : {x : Place} {a : Act} {k : ℕ} → Sits p x a k → Stood p a k → (y₀ : ℕ) → PartOf x y₀ → (b : Bool) → Waits o.marks a k t b → b ≡ false → Undoing o.marks a k → (m₀ : Name) → runner_at (λ n. mark_of n o) (name_of x) (beyond_of x) ≡ m₀ → Fit (undo_of (name_of x) (beyond_of x) (last_of x)) o → k + size a ≤ length o.marks
        → is_undone (step_in actor a y₀ k t o).result ≡ true → Calm p f (Again p t o.marks raised) o.marks a k
    undoing-calm (sits-part {q = x} {own} {within} {k} s g u y l) st y₀ y₁ b (waits-itself e₁ d₁) e (undoing-part s₁ i r) m₀ y₂ v m d =
        absurd (no_less (undoing-waits (undoing-part s₁ i r) (waits-itself e₁ d₁) e) e₁)
    undoing-calm (sits-part {q = x} {own} {within} {k} s g u y l) st y₀ y₁ b (waits-within h w) e (undoing-part s₁ i r) m₀ y₂ v m d =
        let c = opens-idle own (get_or o.marks k 0) i in
        calm-part s (undoing-calm-in l (stood-within st) y₀ y₁ _ w c r m₀ y₂ v (omega arith)
        (combines-undone own within k t (step_among actor within false y₀ (k + 1) t o) s (subst (λ (q : Outcome). is_undone q.result ≡ true) (its-within actor own within y₀ k t o o s (λ e. omega arith) (arms_none own within k t o (undoing-part-not p actor r w c))) d)))
    undoing-calm (sits-part s g u y l) st y₀ y₁ b w e (undoing-scope i q r) m₀ y₂ v m d = absurd (false≢true (sym s))
    undoing-calm (sits-part s g u y l) st y₀ y₁ b w e (undoing-through i q r) m₀ y₂ v m d = absurd (false≢true (sym s))
    undoing-calm (sits-scope {v = true} kn s j sb y) st y₀ y₁ b w e (undoing-part s₁ i r) m₀ y₂ v m d = absurd (false≢true (sym s₁))
    undoing-calm (sits-scope {xs} {v = true} {b = b} {f = g} {u} {k} kn s j sb y) st y₀ y₁ c (waits-itself e₁ d₁) e (undoing-scope i n r) m₀ y₂ v m d =
        absurd (no_less (undoing-waits (undoing-scope {xs = xs} {b = b} {f = g} {u = u} i n r) (waits-itself e₁ d₁) e) e₁)
    undoing-calm (sits-scope {xs} {v = true} {b = b} {f = g} {u} {k} kn s j sb y) st y₀ y₁ c (waits-within h w) e (undoing-scope i n r) m₀ y₂ v m d =
        let z = nth-waits r w refl in
        let a = part (undo_part xs) (trio b g u) in
        let k₁ = part_at (undo_part xs) (trio b g u) (k + 1) in
        let hi = part-to (undo_part xs) (trio b g u) (k + 1) (nth-there r) in
        calm-undo {l = more g u}
        (ran-undo (undoer y) (stood-nth (stood-within st) (undo_part xs) (nth-there r)) k₁ tt _ z.2 refl (nth-run r) v (omega arith) z.1
        (from-undo-over a k₁ (steps-part p actor (undoer y) k₁ t o _ tt z.2 refl (nth-run r) v (omega arith)) (subst (λ (z : Outcome). is_undone z.result ≡ true) (undo-step p actor xs b g u y₀ k t o (nth-there r) z.0 z.1) d)))
        (λ z. absurd (false≢true (subst (λ (n : ℕ). is_open n ≡ true) i z)))
    undoing-calm (sits-scope {v = false} kn s j sb y) st y₀ y₁ b w e (undoing-part s₁ i r) m₀ y₂ v m d = absurd (false≢true (sym s₁))
    undoing-calm (sits-scope {xs} {v = false} {b = b} {f = g} {u = u} {k = k} kn s j sb y) st y₀ y₁ c (waits-itself e₁ d₁) e (undoing-through i q r) m₀ y₂ v m d =
        absurd (no_less (undoing-waits (undoing-through {xs = xs} {b = b} {f = g} {u = u} i q r) (waits-itself e₁ d₁) e) e₁)
    undoing-calm (sits-scope {xs} {v = false} {b = b} {f = g} {u = u} {k = k} kn s j sb y) st y₀ y₁ c (waits-within h (waits-first h₁ w)) e (undoing-through i q r) m₀ y₂ v m d =
        calm-through (undoing-calm sb (stood-first (stood-within st)) (k + 1) refl _ w refl q m₀ (rw i y₂) (rw i v) (omega arith)
        (subst (λ (z : Outcome). is_undone z.result ≡ true)
        (through-is p actor xs b g u y₀ k t m₀ o i h h₁ (steps-undoing p actor sb (k + 1) t o _ refl w refl q m₀ (rw i y₂) (rw i v) (omega arith))) d))
    undoing-calm (sits-scope {v = false} kn s j sb y) st y₀ y₁ c (waits-within h (waits-later h₁ w)) e (undoing-through i q r) m₀ y₂ v m d = absurd (quiet-waits-in w refl r)

    undoing-calm-in : {x : Place} {l : Acts} {c : ℕ} → SitsIn p x l c → StoodIn p l c → (y₀ : ℕ) → PartOf x y₀ → (b : Bool) → WaitsIn o.marks l c t b → b ≡ false → UndoingIn o.marks l c → (m₀ : Name) → runner_at (λ n. mark_of n o) (name_of x) (beyond_of x) ≡ m₀ → Fit (undo_of (name_of x) (beyond_of x) (last_of x)) o
        → c + sizes l ≤ length o.marks → is_undone (step_among actor l false y₀ c t o).result ≡ true → CalmIn p f (Again p t o.marks raised) o.marks l c
    undoing-calm-in (sits-none {q = q} {c = c}) st y₀ y₁ b z e _ m₀ y₂ v m d = elim z [ ]
    undoing-calm-in (sits-more {q = x} {a} {l} {c} s y) st y₀ y₁ b (waits-first h w) e (undoing-here r q) m₀ y₂ v m d =
        calm_more (undoing-calm s (stood-first st) y₀ y₁ b w e r m₀ y₂ v (omega arith) (subst (λ (z : Outcome). is_undone z.result ≡ true) (its-first actor a l y₀ c t o h) d)) (quiet-calm-in p f (Again p t o.marks raised) o.marks y q)
    undoing-calm-in (sits-more {q = x} {a} {l} {c} s y) st y₀ y₁ b (waits-later h w) e (undoing-here r q) m₀ y₂ v m d = absurd (quiet-waits-in w e q)
    undoing-calm-in (sits-more {q = x} {a} {l} {c} s y) st y₀ y₁ b (waits-first h w) e (undoing-later q r) m₀ y₂ v m d = absurd (quiet-waits w e q)
    undoing-calm-in (sits-more {q = x} {a} {l} {c} s y) st y₀ y₁ b (waits-later h w) e (undoing-later q r) m₀ y₂ v m d =
        calm_more (quiet_calm p f (Again p t o.marks raised) o.marks s q) (undoing-calm-in y (stood-later st) y₀ y₁ b w e r m₀ y₂ v (omega arith) (subst (λ (z : Outcome). is_undone z.result ≡ true) (its-later actor a l y₀ c t o h) d))

  -- a scope that is left as it was
  stays-so : (s : Scope) (r : Outcome) → looks_again s r.order ≡ runs r.order → eqb (mark_of s.name r.order) active ≡ false → is_bad r.result ≡ false → is_undone r.result ≡ false → (from_body s r).order ≡ r.order
  unfolding from_body body_over
  stays-so s r l a = go r.result
    where
      same : (looks_again s r.order).order ≡ r.order
      same = ap (λ (z : Outcome). z.order) l

      ended_so : (z : Outcome) → z ≡ elim (eqb (mark_of s.name r.order) active) [ true ↦ runs (marking s.name done r.order) | false ↦ looks_again s r.order ] → z.order ≡ r.order
      ended_so z e = ap (λ (y : Outcome). y.order) (second-of (eqb (mark_of s.name r.order) active) (runs (marking s.name done r.order)) (looks_again s r.order) z e a) ∙ same

      go : (x : Result) → is_bad x ≡ false → is_undone x ≡ false → (from_body s (record { result = x; order = r.order; log = r.log })).order ≡ r.order
      go running n u = same
      go over n u = ended_so (body_over s r.order) refl
      go (raising x) n u = absurd (false≢true (sym n))
      go leaving n u = absurd (false≢true (sym n))
      go undone n u = absurd (false≢true (sym u))
      go (undo_raising x) n u = absurd (false≢true (sym n))

  -- where an inner scope is not left running its mark is idle
  at_rest : (xs : List ℕ) (v : Bool) (within : Acts) (k : ℕ) (ns : List ℕ) → inner_runs (act (scope xs v) within) k ns ≡ false → get_or ns k 0 ≡ idle
  at_rest xs v within k ns e = eqb-true (get_or ns k 0) idle (not_so (eqb (get_or ns k 0) idle) (sym (inner-is (scope xs v) within k ns true refl) ∙ e))
    where
      not_so : (x : Bool) → not x ≡ false → x ≡ true
      not_so true e = refl
      not_so false e = absurd (false≢true (sym e))

  -- A scope with no undo part, stopped, in whose body the step is, and which is over after it.
  scope-ended : {n : Name} {ns : List Name} (xs : List ℕ) (b g : Act) (u : Acts) (y₀ k : ℕ) → Seat p (scope_at xs k (trio b g u)) → Sits p (body_of (inner k) ns n) b (k + 1) → Stood p b (k + 1) → (kb : Knows f b (k + 1)) (kf : KnowsEach f (scope_at xs k (trio b g u)))
      → k + (1 + (size b + (size g + sizes u))) ≤ length o.marks → k < t → WaitsIn o.marks (trio b g u) (k + 1) t false
      → Turned o.marks xs (get_or o.marks k 0) b (k + 1) (more g u) (k + 1 + size b)
      → some is_rash (step_in actor (act (scope xs false) (trio b g u)) y₀ k t o).log ≡ false → inner_runs (act (scope xs false) (trio b g u)) k (step_in actor (act (scope xs false) (trio b g u)) y₀ k t o).order.marks ≡ false
      → ((x : Bool) → Waits o.marks b (k + 1) t x → x ≡ false → Stopped o.marks b (k + 1) → some is_rash (step_in actor b (k + 1) (k + 1) t o).log ≡ false
      → inner_runs b (k + 1) (step_in actor b (k + 1) (k + 1) t o).order.marks ≡ false → Calm p f (Again p t o.marks raised) o.marks b (k + 1))
      → Calm p f (Again p t o.marks raised) o.marks b (k + 1)
  unfolding size part part_at Its Whole
  scope-ended xs b g u y₀ k h sb st kb kf m lt (waits-first e w) (turned-waits {w = a} q z n y) c i ih =
      let s = scope_at xs k (trio b g u) in
      let r = step_in actor b (k + 1) (k + 1) t o in
      let v = steps-stopped p actor sb (k + 1) t o false refl w refl z (omega arith) in
      let d = v.kept.below k (omega arith) in
      let j = body-step p actor xs false b g u y₀ k t (get_or o.marks k 0) o lt e d (turned-not-rest (turned-waits {xs = xs} {l = more g u} q z n y)) in
      let c₁ = calmer r.log (from_body s r).log (body_has is_rash s r) (subst (λ (y : Outcome). some is_rash y.log ≡ false) j c) in
      decide (inner_runs b (k + 1) r.order.marks)
      (λ l. absurd (turned-not-rest (turned-waits {xs = xs} {l = more g u} q z n y)
      (sym d ∙ (sym (ap (λ (y : Order). get_or y.marks k 0) (stays-so s r (looks-none f s kb kf r.order l) (other-mark (get_or r.order.marks k 0) active (waits a) (ap phase d ∙ q) (λ d. let z : ◌≡◌ {A = ℕ} 0 1 = cc in omega arith))
      (not-bad o r (step-drops f t actor kb (k + 1) o) c₁) (not-undone r.result v.comes))) ∙ at_rest xs false (trio b g u) k (from_body s r).order.marks (subst (λ (y : Outcome). inner_runs (act (scope xs false) (trio b g u)) k y.order.marks ≡ false) j i)))))
      (λ l. ih false w refl z c₁ l)
    where
      not-undone : (y : Result) → StopAs p b (k + 1) o (step_in actor b (k + 1) (k + 1) t o).log (step_in actor b (k + 1) (k + 1) t o).order y → is_undone y ≡ false
      not-undone running c = refl
      not-undone over c = refl
      not-undone (raising x) c = refl
      not-undone leaving c = refl
      not-undone undone c = absurd c
      not-undone (undo_raising x) c = refl
  scope-ended {ns = ns} xs b g u y₀ k h sb st kb kf m lt (waits-first e w) (turned-undoes {w = a} q z y) c i ih =
      let s = scope_at xs k (trio b g u) in
      let r = step_in actor b (k + 1) (k + 1) t o in
      let r₀ = awake-first p actor (λ n. mark_of n o) (inner k) ns a q in
      let v = steps-undoing p actor sb (k + 1) t o false refl w refl z (inner k) r₀ (a, ap (λ (n : Name). phase (mark_of n o)) r₀ ∙ q) (omega arith) in
      let d = v.kept.below k (omega arith) in
      let j = body-step p actor xs false b g u y₀ k t (get_or o.marks k 0) o lt e d (turned-not-rest (turned-undoes {xs = xs} {l = more g u} q z y)) in
      let c₁ = calmer r.log (from_body s r).log (body_has is_rash s r) (subst (λ (y : Outcome). some is_rash y.log ≡ false) j c) in
      decide (is_undone r.result)
      (λ l. undoing-calm sb st (k + 1) refl false w refl z (inner k) r₀ (a, ap (λ (n : Name). phase (mark_of n o)) r₀ ∙ q) (omega arith) l)
      (λ l. absurd (turned-not-rest (turned-undoes {xs = xs} {l = more g u} q z y)
      (sym d ∙ (sym (ap (λ (y : Order). get_or y.marks k 0) (stays-so s r
      (looks-still f s kb kf r.order (not-faulty (get_or r.order.marks k 0) a (ap phase d ∙ q))
      (other-mark (get_or r.order.marks k 0) halted (Phase.undoes a) (ap phase d ∙ q) (λ d. let z : ◌≡◌ {A = ℕ} 0 1 = cc in omega arith)))
      (other-mark (get_or r.order.marks k 0) active (Phase.undoes a) (ap phase d ∙ q) (λ d. let z : ◌≡◌ {A = ℕ} 0 1 = cc in omega arith))
      (not-bad o r (step-drops f t actor kb (k + 1) o) c₁) l)) ∙ at_rest xs false (trio b g u) k (from_body s r).order.marks (subst (λ (y : Outcome). inner_runs (act (scope xs false) (trio b g u)) k y.order.marks ≡ false) j i)))))
  scope-ended xs b g u y₀ k h sb st kb kf m lt (waits-first e w) (turned-heals q z y) c i ih = absurd (quiet-waits w refl z)
  scope-ended xs b g u y₀ k h sb st kb kf m lt (waits-later d w) (turned-waits q z n y) c i ih = absurd (quiet-waits-in w refl y)
  scope-ended xs b g u y₀ k h sb st kb kf m lt (waits-later d w) (turned-undoes q z y) c i ih = absurd (quiet-waits-in w refl y)
  scope-ended xs b g u y₀ k h sb st kb kf m lt (waits-later d w) (turned-heals q z y) c i ih = quiet_calm p f (Again p t o.marks raised) o.marks sb z

  -- An activity of a stopped body.
  part-ended : {x : Place} {b : Bool} (own : Own) (within : Acts) (y₀ k : ℕ) → is_scope own ≡ false → SitsIn p x within (k + 1) → PartOf x y₀ → Waits o.marks (act own within) k t b → b ≡ false → Stopped o.marks (act own within) k
      → k + (1 + sizes within) ≤ length o.marks → some is_rash (step_in actor (act own within) y₀ k t o).log ≡ false → inner_runs (act own within) k (step_in actor (act own within) y₀ k t o).order.marks ≡ false
      → ((c : Bool) → WaitsIn o.marks within (k + 1) t c → c ≡ false → StoppedIn o.marks within (k + 1) → some is_rash (step_among actor within false y₀ (k + 1) t o).log ≡ false
      → inner_runs_in within (k + 1) (step_among actor within false y₀ (k + 1) t o).order.marks ≡ false → CalmIn p f (Again p t o.marks raised) o.marks within (k + 1))
      → Calm p f (Again p t o.marks raised) o.marks (act own within) k
  unfolding size
  part-ended own within y₀ k s l y₁ (waits-itself e₁ d) q d₁ m c i g = absurd (no_less (stopped-waits d₁ (waits-itself e₁ d) q) e₁)
  part-ended own within y₀ k s l y₁ (waits-within h w) q (stopped-part s₁ e j) m c i g =
      let z = opens-idle own (get_or o.marks k 0) e in
      let r = step_among actor within false y₀ (k + 1) t o in
      let v = steps-stopped-in p actor l y₀ t o _ y₁ w z j (omega arith) in
      let a = its-within actor own within y₀ k t o o s (λ e. omega arith) (arms_none own within k t o (stopped-part-not p actor j w z)) in
      calm-part s (g _ w z j (calmer r.log (combines own within k t r).log (combines-has is_rash own within k t r) (subst (λ (y : Outcome). some is_rash y.log ≡ false) a c))
      (subst (λ (y : Order). inner_runs_in within (k + 1) y.marks ≡ false) (idly-order (combines-idly own within k t r s (v.kept.below k (omega arith) ∙ e)))
      (sym (inner-is own within k (combines own within k t r).order.marks false s) ∙ subst (λ (y : Outcome). inner_runs (act own within) k y.order.marks ≡ false) a i)))
    where
      idly-order : {r r' : Outcome} → Idly r r' → r'.order ≡ r.order
      idly-order (idly-same e) = ap (λ (z : Outcome). z.order) e
      idly-order (idly-runs d e) = ap (λ (z : Outcome). z.order) e
  part-ended own within y₀ k s l y₁ (waits-within h w) q (stopped-quiet j) m c i g =
      absurd (quiet-waits-in w (opens-idle own (get_or o.marks k 0) (j.at k (omega arith) (omega arith))) (quiet-part j (omega arith) (omega arith)))
  part-ended own within y₀ k s l y₁ (waits-within h w) q (stopped-scope e) m c i g = absurd (false≢true (sym s))

  -- A stopped body in which the step is, and in which no scope is left running after it.
  mutual
    unfolding size inner_runs

    pub ended-calm : {x : Place} {a : Act} {k : ℕ} → Sits p x a k → Knows f a k → Stood p a k → (y₀ : ℕ) → PartOf x y₀ → (b : Bool) → Waits o.marks a k t b → b ≡ false → Stopped o.marks a k → k + size a ≤ length o.marks
        → some is_rash (step_in actor a y₀ k t o).log ≡ false → inner_runs a k (step_in actor a y₀ k t o).order.marks ≡ false → Calm p f (Again p t o.marks raised) o.marks a k
    ended-calm (sits-part {q = x} {own} {within} {k} s g u y l) (knows e n r z) st y₀ y₁ b w q d m c i =
        part-ended own within y₀ k s l y₁ w q d m c i (λ c₁ w₁ e₁ r₁ c₂ i₂. ended-calm-in l z (stood-within st) y₀ y₁ c₁ w₁ e₁ r₁ (omega arith) c₂ i₂)
    ended-calm (sits-scope kn d j sb y) (knows e n r z) st y₀ y₁ b w q (stopped-part s i₁ r₁) m c i = absurd (false≢true (sym s))
    ended-calm (sits-scope kn d j sb y) (knows e n r z) st y₀ y₁ b w q (stopped-quiet r₁) m c i = absurd (quiet-waits w q r₁)
    ended-calm (sits-scope {v = true} kn d j sb y) (knows e n r z) st y₀ y₁ a w q (stopped-scope x) m c i =
        calm-undo (quiet-news p f (Again p t o.marks raised) o.marks (undo-turned y refl x)) (λ v. absurd (false≢true (sym (turned-not-open x) ∙ v)))
    ended-calm (sits-scope {xs} {v = false} {b = b} {f = g} {u = u} kn d j sb y) (knows e n r z) st y₀ y₁ a (waits-itself e₁ d₁) q (stopped-scope x) m c i =
        absurd (no_less (stopped-waits (stopped-scope {xs = xs} {b = b} {f = g} {u = u} x) (waits-itself e₁ d₁) q) e₁)
    ended-calm (sits-scope {xs} {v = false} {b = b} {f = g} {u = u} {k = k} kn d j sb y) (knows e n r (knows_more kb kl)) st y₀ y₁ a (waits-within h w) q (stopped-scope x) m c i =
        calm-through (scope-ended xs b g u y₀ k (seat-of kn d j sb y) sb (stood-first (stood-within st)) kb (each-knows f xs k (scope-general (scope xs false) (trio b g u) refl n) (knows_more kb kl)) m h w x c i
        (λ x w₁ e₁ r₁ c₁ i₁. ended-calm sb kb (stood-first (stood-within st)) (k + 1) refl x w₁ e₁ r₁ (omega arith) c₁ i₁))

    ended-calm-in : {x : Place} {l : Acts} {c : ℕ} → SitsIn p x l c → KnowsIn f l c → StoodIn p l c → (y₀ : ℕ) → PartOf x y₀ → (b : Bool) → WaitsIn o.marks l c t b → b ≡ false → StoppedIn o.marks l c → c + sizes l ≤ length o.marks
        → some is_rash (step_among actor l false y₀ c t o).log ≡ false → inner_runs_in l c (step_among actor l false y₀ c t o).order.marks ≡ false → CalmIn p f (Again p t o.marks raised) o.marks l c
    ended-calm-in (sits-none {q = q} {c = c}) _ st y₀ y₁ b z e _ m d i = elim z [ ]
    ended-calm-in (sits-more {q = x} {a} {l} {c} s y) (knows_more z n) st y₀ y₁ b (waits-first h w) e (stopped_more r q) m d i =
        let j = its-first actor a l y₀ c t o h in
        let ns = (step_in actor a y₀ c t o).order.marks in
        let v : (inner_runs a c ns || inner_runs_in l (c + size a) ns) ≡ false = subst (λ (y : Outcome). (inner_runs a c y.order.marks || inner_runs_in l (c + size a) y.order.marks) ≡ false) j i in
        let k = (steps-stopped p actor s y₀ t o b y₁ w e r (omega arith)).kept in
        calm_more (ended-calm s z (stood-first st) y₀ y₁ b w e r (omega arith) (subst (λ (y : Outcome). some is_rash y.log ≡ false) j d) (neither (inner_runs a c ns) (inner_runs_in l (c + size a) ns) v).0)
        (quiet-calm-in p f (Again p t o.marks raised) o.marks y (quiet-back ns (stopped-rests-in (stopped-in-agree q (agree-above k (omega arith))) (neither (inner_runs a c ns) (inner_runs_in l (c + size a) ns) v).1) (agree-above k (omega arith))))
    ended-calm-in (sits-more {q = x} {a} {l} {c} s y) (knows_more z n) st y₀ y₁ b (waits-later h w) e (stopped_more r q) m d i =
        let j = its-later actor a l y₀ c t o h in
        let ns = (step_among actor l false y₀ (c + size a) t o).order.marks in
        let v : (inner_runs a c ns || inner_runs_in l (c + size a) ns) ≡ false = subst (λ (y : Outcome). (inner_runs a c y.order.marks || inner_runs_in l (c + size a) y.order.marks) ≡ false) j i in
        let k = (steps-stopped-in p actor y y₀ t o b y₁ w e q (omega arith)).kept in
        calm_more (quiet_calm p f (Again p t o.marks raised) o.marks s (quiet-back ns (stopped-rests (stopped-agree r (agree-below k (omega arith))) (neither (inner_runs a c ns) (inner_runs_in l (c + size a) ns) v).0) (agree-below k (omega arith))))
        (ended-calm-in y n (stood-later st) y₀ y₁ b w e q (omega arith) (subst (λ (y : Outcome). some is_rash y.log ≡ false) j d) (neither (inner_runs a c ns) (inner_runs_in l (c + size a) ns) v).1)

module _ (p : Plan) (actor : Actor) (f : ℕ → ℕ) (t : ℕ) (o : Order) where
  -- by whether these events raise
  abbrev By : List Event → ℕ → Type 0
  By l = Again p t o.marks (some is_rash l)

  abbrev Its-fresh : List Event → Type 0
  Its-fresh l = Fresh p f (By l) o.marks l

  -- the close of a scope is its own
  plain-scope : (xs : List ℕ) (v : Bool) → (eqb (kind (scope xs v)) 2 || (eqb (kind (scope xs v)) 18 || eqb (kind (scope xs v)) 255)) ≡ false
  unfolding kind
  plain-scope [] true = refl
  plain-scope [] false = refl
  plain-scope (x ∷ xs) v = refl

  pub arms_of : (own : Own) (within : Acts) → eqb (kind own) 8 ≡ true → Arms (is_pick own) within → Arms false within
  arms_of own within e r = subst (λ (b : Bool). Arms b within) (no-pick own 8 refl (eqb-true (kind own) 8 e)) r

  part-fresh : (own : Own) (within : Acts) (y₀ k : ℕ) (b : Bool) → is_scope own ≡ false → Knows f (act own within) k → Waits o.marks (act own within) k t b → b ≡ false → Run o.marks (act own within) k
      → ((c : Bool) → WaitsIn o.marks within (k + 1) t c → c ≡ false → One o.marks within (k + 1) → Its-fresh (step_among actor within false y₀ (k + 1) t o).log)
      → ((c : Bool) → WaitsIn o.marks within (k + 1) t c → c ≡ false → All o.marks within (k + 1) → Its-fresh (step_among actor within false y₀ (k + 1) t o).log)
      → Its-fresh (step_in actor (act own within) y₀ k t o).log
  unfolding kind itself awaits
  part-fresh own within y₀ k b s x (waits-itself e₁ d₁) e (run-awaits s₁ y z q) one all = quiet-fresh p actor f t o (By (step_in actor (act own within) y₀ k t o).log) x y₀ (omega arith) q
  part-fresh own within y₀ k b s x (waits-itself e₁ d₁) e (run-one s₁ y r) one all =
      subst (λ (q : Outcome). Its-fresh q.log) (sym (its_own actor own within y₀ k t o e₁ ∙ held-itself p actor own within y₀ k o s (rw (y, e) at d₁))) (none-fresh p actor f t o (By []))
  part-fresh flow within y₀ k b s x (waits-itself e₁ d₁) e (run-all y r a) one all = subst (λ (q : Outcome). Its-fresh q.log) (sym (its_own actor flow within y₀ k t o e₁ ∙ plain-performs actor flow within y₀ k o refl)) (none-fresh p actor f t o (By []))
  part-fresh own within y₀ k b s x (waits-itself e₁ d₁) e (run-body y r q) one all = absurd (false≢true (sym s))
  part-fresh own within y₀ k b s x (waits-itself e₁ d₁) e (run-done y q) one all = absurd (false≢true (sym s))
  part-fresh own within y₀ k b s x (waits-itself e₁ d₁) e (run-turned y) one all = absurd (false≢true (sym s))
  part-fresh own within y₀ k b s x (waits-within h w) e (run-awaits s₁ y z q) one all = quiet-fresh p actor f t o (By (step_in actor (act own within) y₀ k t o).log) x y₀ (omega arith) q
  part-fresh own within y₀ k b s (knows x n r z) (waits-within h w) e (run-one s₁ y l) one all =
      let c = opens-held p actor own (get_or o.marks k 0) y in
      subst (λ (q : Outcome). Its-fresh q.log) (sym (its-within actor own within y₀ k t o o s (λ e. omega arith) (arms-held own within k t o y)))
      (combines-fresh p actor f t o (By (combines own within k t (step_among actor within false y₀ (k + 1) t o)).log) own within k (step_among actor within false y₀ (k + 1) t o) s
      (fresh-more (combines-has is_rash own within k t (step_among actor within false y₀ (k + 1) t o)) (one (opens own (get_or o.marks k 0)) w c l)) (λ i d ns. after-fresh p actor f t o (By (combines own within k t (step_among actor within false y₀ (k + 1) t o)).log) z (arms_of own within i r) w c l ns))
  part-fresh flow within y₀ k b s (knows x n r z) (waits-within h w) e (run-all y l a) one all =
      subst (λ (q : Outcome). Its-fresh q.log) (sym (its-within actor flow within y₀ k t o o refl (λ e. omega arith) (arms-held flow within k t o y)))
      (combines-fresh p actor f t o (By (combines flow within k t (step_among actor within false y₀ (k + 1) t o)).log) flow within k (step_among actor within false y₀ (k + 1) t o) s
      (fresh-more (combines-has is_rash flow within k t (step_among actor within false y₀ (k + 1) t o)) (all (opens flow (get_or o.marks k 0)) w refl l)) (λ i. absurd (false≢true i)))
  part-fresh own within y₀ k b s x (waits-within h w) e (run-body y r q) one all = absurd (false≢true (sym s))
  part-fresh own within y₀ k b s x (waits-within h w) e (run-done y q) one all = absurd (false≢true (sym s))
  part-fresh own within y₀ k b s x (waits-within h w) e (run-turned y) one all = absurd (false≢true (sym s))

  first-fresh : (a : Act) (l : Acts) (y₀ c : ℕ) → t < c + size a → Its-fresh (step_in actor a y₀ c t o).log → Its-fresh (step_among actor (more a l) false y₀ c t o).log
  first-fresh a l y₀ c h w = subst (λ (q : Outcome). Its-fresh q.log) (sym (its-first actor a l y₀ c t o h)) w

  later-fresh : (a : Act) (l : Acts) (y₀ c : ℕ) → c + size a ≤ t → Its-fresh (step_among actor l false y₀ (c + size a) t o).log → Its-fresh (step_among actor (more a l) false y₀ c t o).log
  later-fresh a l y₀ c h w = subst (λ (q : Outcome). Its-fresh q.log) (sym (its-later actor a l y₀ c t o h)) w

  -- an activity of a stopped body, or of one of which an undo part runs: its own mark is idle
  idle-fresh : {C : List Event → Order → Result → Type 0} (own : Own) (within : Acts) (y₀ k : ℕ) → is_scope own ≡ false → get_or o.marks k 0 ≡ idle → is_part within (k + 1) t ≡ false → k < t
      → Acted (k + 1) (sizes within) o C (step_among actor within false y₀ (k + 1) t o) → Its-fresh (step_among actor within false y₀ (k + 1) t o).log → Its-fresh (step_in actor (act own within) y₀ k t o).log
  idle-fresh own within y₀ k s i n h v w =
      subst (λ (q : Outcome). Its-fresh q.log) (sym (its-within actor own within y₀ k t o o s (λ e. omega arith) (arms_none own within k t o n)))
      (combines-fresh p actor f t o (By (combines own within k t (step_among actor within false y₀ (k + 1) t o)).log) own within k (step_among actor within false y₀ (k + 1) t o) s
      (fresh-more (combines-has is_rash own within k t (step_among actor within false y₀ (k + 1) t o)) w)
      (λ e d. absurd (false≢true (subst (λ (z : ℕ). eqb z active ≡ true) (v.kept.below k (omega arith) ∙ i) d))))

  closing-fresh : (xs : List ℕ) (z₀ : Bool) (within : Acts) (y₀ k : ℕ) → k ≡ t → Its-fresh (step_in actor (act (scope xs z₀) within) y₀ k t o).log
  unfolding itself closing some is_began_of kind
  closing-fresh xs z₀ within y₀ k e = subst (λ (q : Outcome). Its-fresh q.log) (sym (its_own actor (scope xs z₀) within y₀ k t o e ∙ plain-performs actor (scope xs z₀) within y₀ k o (plain-scope xs z₀))) (fresh-none p f (By (itself (scope xs z₀) within y₀ k o).log) o.marks (itself (scope xs z₀) within y₀ k o).log (λ j. refl))

  -- a step in one of the fault parts of scope k, the i-th after its body
  abbrev HealsFresh : (numbers : List ℕ) → Acts → (c k : ℕ) → Type 0
  HealsFresh xs l c k =
      (i : ℕ) → i ≤ length xs → (x : Bool) → Waits o.marks (part i l) (part_at i l c) t x → x ≡ false → Run o.marks (part i l) (part_at i l c) → phase (get_or o.marks k 0) ≡ heals
      → Its-fresh (step_in actor (part i l) (part_at i l c) (part_at i l c) t o).log

  abbrev Names : (numbers : List ℕ) → Acts → (k : ℕ) → Type 0
  Names xs l k = (choice : ℕ) → Named f (chosen_part choice (scope_at xs k l))

  -- A scope that has turned.
  turned-fresh : {n : Name} {ns : List Name} (xs : List ℕ) (z₀ : Bool) (b g : Act) (u : Acts) (y₀ k : ℕ) → Seat p (scope_at xs k (trio b g u)) → Sits p (body_of (inner k) ns n) b (k + 1) → Stood p b (k + 1) → (kb : Knows f b (k + 1)) (kf : KnowsEach f (scope_at xs k (trio b g u))) → Names xs (trio b g u) k
      → k + (1 + (size b + (size g + sizes u))) ≤ length o.marks
      → k < t → WaitsIn o.marks (trio b g u) (k + 1) t false → Turned o.marks xs (get_or o.marks k 0) b (k + 1) (more g u) (k + 1 + size b)
      → ((x : Bool) → Waits o.marks b (k + 1) t x → x ≡ false → Stopped o.marks b (k + 1) → Its-fresh (step_in actor b (k + 1) (k + 1) t o).log)
      → ((x : Bool) → Waits o.marks b (k + 1) t x → x ≡ false → Undoing o.marks b (k + 1) → (v : Bool) → phase (get_or o.marks k 0) ≡ Phase.undoes v → Its-fresh (step_in actor b (k + 1) (k + 1) t o).log)
      → HealsFresh xs (more g u) (k + 1 + size b) k
      → Its-fresh (step_in actor (act (scope xs z₀) (trio b g u)) y₀ k t o).log
  unfolding size part part_at Its Whole
  turned-fresh xs z₀ b g u y₀ k h sb st kb kf i m lt (waits-first e w) (turned-waits {w = a} q z n y) j l v =
      let c = steps-stopped p actor sb (k + 1) t o false refl w refl z (omega arith) in
      subst (λ (d : Outcome). Its-fresh d.log) (sym (body-step p actor xs z₀ b g u y₀ k t (get_or o.marks k 0) o lt e (c.kept.below k (omega arith)) (turned-not-rest (turned-waits {xs = xs} {l = more g u} q z n y))))
      (waits-fresh p actor f t o (By (from_body (scope_at xs k (trio b g u)) (step_in actor b (k + 1) (k + 1) t o)).log) (scope_at xs k (trio b g u)) h kb kf i y (omega arith) (fresh-more (body_has is_rash (scope_at xs k (trio b g u)) (step_in actor b (k + 1) (k + 1) t o)) (j false w refl z)) (λ r. its-excused p f t o.marks (some is_rash (from_body (scope_at xs k (trio b g u)) (step_in actor b (k + 1) (k + 1) t o)).log) (body_has is_rash (scope_at xs k (trio b g u)) (step_in actor b (k + 1) (k + 1) t o) r)) a q z
      (λ d l. ended-calm p actor f t o (some is_rash (from_body (scope_at xs k (trio b g u)) (step_in actor b (k + 1) (k + 1) t o)).log) sb kb st (k + 1) refl false w refl z (omega arith) d l) c)
  turned-fresh {ns = ns} xs z₀ b g u y₀ k h sb st kb kf i m lt (waits-first e w) (turned-undoes {w = a} q z y) j l v =
      let r = awake-first p actor (λ n. mark_of n o) (inner k) ns a q in
      let c = steps-undoing p actor sb (k + 1) t o false refl w refl z (inner k) r (a, ap (λ (n : Name). phase (mark_of n o)) r ∙ q) (omega arith) in
      subst (λ (d : Outcome). Its-fresh d.log) (sym (body-step p actor xs z₀ b g u y₀ k t (get_or o.marks k 0) o lt e (c.kept.below k (omega arith)) (turned-not-rest (turned-undoes {xs = xs} {l = more g u} q z y))))
      (undoes-fresh p actor f t o (By (from_body (scope_at xs k (trio b g u)) (step_in actor b (k + 1) (k + 1) t o)).log) (scope_at xs k (trio b g u)) h kb kf i y (omega arith) (fresh-more (body_has is_rash (scope_at xs k (trio b g u)) (step_in actor b (k + 1) (k + 1) t o)) (l false w refl z a q)) (λ r. its-excused p f t o.marks (some is_rash (from_body (scope_at xs k (trio b g u)) (step_in actor b (k + 1) (k + 1) t o)).log) (body_has is_rash (scope_at xs k (trio b g u)) (step_in actor b (k + 1) (k + 1) t o) r)) a q
      (λ d. undoing-calm p actor f t o (some is_rash (from_body (scope_at xs k (trio b g u)) (step_in actor b (k + 1) (k + 1) t o)).log) sb st (k + 1) refl false w refl z (inner k) r (a, ap (λ (n : Name). phase (mark_of n o)) r ∙ q) (omega arith) d) c)
  turned-fresh xs z₀ b g u y₀ k h sb st kb kf i m lt (waits-first e w) (turned-heals q z y) j l v = absurd (quiet-waits w refl z)
  turned-fresh xs z₀ b g u y₀ k h sb st kb kf i m lt (waits-later d w) (turned-waits q z _ y) j l v = absurd (quiet-waits-in w refl y)
  turned-fresh xs z₀ b g u y₀ k h sb st kb kf i m lt (waits-later d w) (turned-undoes q z y) j l v = absurd (quiet-waits-in w refl y)
  turned-fresh xs z₀ b g u y₀ k h sb st kb kf i m lt (waits-later d w) (turned-heals q z y) j l v =
      let c = nth-waits y w refl in
      let i₁ = choice_on xs (get_or o.marks k 0) in
      let le : i₁ ≤ length xs = omega (arith, choice-least xs (get_or o.marks k 0), general-is xs) in
      let r = step_in actor (part i₁ (more g u)) (part_at i₁ (more g u) (k + 1 + size b)) (part_at i₁ (more g u) (k + 1 + size b)) t o in
      subst (λ (d : Outcome). Its-fresh d.log) (sym (fault-step p actor xs z₀ b g u y₀ k i₁ t o le (nth-there y) c.0 c.1))
      (fault-fresh p f (By (from_fault (scope_at xs k (trio b g u)) r).log) o.marks (scope_at xs k (trio b g u)) r (fresh-more (fault-has is_rash (scope_at xs k (trio b g u)) r) (v i₁ le false c.2 refl (nth-run y) q)))

  -- A scope whose body runs.
  body-fresh : {n : Name} {ns : List Name} (xs : List ℕ) (z₀ : Bool) (b g : Act) (u : Acts) (y₀ k : ℕ) → Seat p (scope_at xs k (trio b g u)) → Sits p (body_of (inner k) ns n) b (k + 1) → (kb : Knows f b (k + 1)) (kf : KnowsEach f (scope_at xs k (trio b g u))) → Names xs (trio b g u) k
      → k + (1 + (size b + (size g + sizes u))) ≤ length o.marks
      → k < t → WaitsIn o.marks (trio b g u) (k + 1) t false → get_or o.marks k 0 ≡ active → Run o.marks b (k + 1) → Quiet o.marks (k + 1 + size b) (size g + sizes u)
      → (Waits o.marks b (k + 1) t false → Its-fresh (step_in actor b (k + 1) (k + 1) t o).log) → Its-fresh (step_in actor (act (scope xs z₀) (trio b g u)) y₀ k t o).log
  unfolding size part part_at Its Whole
  body-fresh xs z₀ b g u y₀ k h sb kb kf i m lt (waits-first e w) x r q j =
      let a = steps p actor sb (k + 1) t o false refl w refl r (ap phase x) (omega arith) in
      subst (λ (d : Outcome). Its-fresh d.log) (sym (body-step p actor xs z₀ b g u y₀ k t active o lt e (a.kept.below k (omega arith) ∙ x) (λ n. absurd (omega (arith, n)))))
      (live-fresh p actor f t o (By (from_body (scope_at xs k (trio b g u)) (step_in actor b (k + 1) (k + 1) t o)).log) (scope_at xs k (trio b g u)) h kb kf i q (omega arith) (fresh-more (body_has is_rash (scope_at xs k (trio b g u)) (step_in actor b (k + 1) (k + 1) t o)) (j w)) (λ r. its-excused p f t o.marks (some is_rash (from_body (scope_at xs k (trio b g u)) (step_in actor b (k + 1) (k + 1) t o)).log) (body_has is_rash (scope_at xs k (trio b g u)) (step_in actor b (k + 1) (k + 1) t o) r)) x r a)
  body-fresh xs z₀ b g u y₀ k h sb kb kf i m lt (waits-later d (waits-first e w)) x r q j = absurd (quiet-waits w refl (quiet-part q (omega arith) (omega arith)))
  body-fresh xs z₀ b g u y₀ k h sb kb kf i m lt (waits-later d (waits-later e w)) x r q j = absurd (quiet-waits-in w refl (quiet-part q (omega arith) (omega arith)))

  -- A scope, by how it stands.
  module _ {n : Name} {ns : List Name} (xs : List ℕ) (z₀ : Bool) (b g : Act) (u : Acts) (y₀ k : ℕ) (h : Seat p (scope_at xs k (trio b g u))) (sb : Sits p (body_of (inner k) ns n) b (k + 1)) (st : Stood p b (k + 1)) (kb : Knows f b (k + 1)) (kf : KnowsEach f (scope_at xs k (trio b g u))) (i : Names xs (trio b g u) k)
      (m : k + (1 + (size b + (size g + sizes u))) ≤ length o.marks)
      (hs : (x : Bool) → Waits o.marks b (k + 1) t x → x ≡ false → Stopped o.marks b (k + 1) → Its-fresh (step_in actor b (k + 1) (k + 1) t o).log)
      (hu : (x : Bool) → Waits o.marks b (k + 1) t x → x ≡ false → Undoing o.marks b (k + 1) → (v : Bool) → phase (get_or o.marks k 0) ≡ Phase.undoes v → Its-fresh (step_in actor b (k + 1) (k + 1) t o).log)
      (hf : HealsFresh xs (more g u) (k + 1 + size b) k) where
    scope-run : {c : Bool} → Waits o.marks (act (scope xs z₀) (trio b g u)) k t c → Run o.marks (act (scope xs z₀) (trio b g u)) k
        → (Waits o.marks b (k + 1) t false → Run o.marks b (k + 1) → get_or o.marks k 0 ≡ active → Its-fresh (step_in actor b (k + 1) (k + 1) t o).log)
        → Its-fresh (step_in actor (act (scope xs z₀) (trio b g u)) y₀ k t o).log
    unfolding size
    scope-run (waits-itself e d) run j = closing-fresh xs z₀ (trio b g u) y₀ k e
    scope-run (waits-within e w) (run-awaits s _ x z) j = absurd (false≢true (sym s))
    scope-run (waits-within e w) (run-one s x z) j = absurd (false≢true (sym s))
    scope-run (waits-within e w) (run-body x z q) j = body-fresh xs z₀ b g u y₀ k h sb kb kf i m e w x z q (λ w₁. j w₁ z x)
    scope-run (waits-within e w) (run-done x z) j = absurd (quiet-waits-in w refl (quiet-part z (omega arith) (omega arith)))
    scope-run (waits-within e w) (run-turned x) j = turned-fresh xs z₀ b g u y₀ k h sb st kb kf i m e w x hs hu hf

    scope-stopped : {c : Bool} → Waits o.marks (act (scope xs z₀) (trio b g u)) k t c → c ≡ false → Stopped o.marks (act (scope xs z₀) (trio b g u)) k
        → Its-fresh (step_in actor (act (scope xs z₀) (trio b g u)) y₀ k t o).log
    unfolding size
    scope-stopped w q (stopped-part s _ j) = absurd (false≢true (sym s))
    scope-stopped w q (stopped-quiet j) = absurd (quiet-waits w q j)
    scope-stopped (waits-itself e d) q (stopped-scope x) = closing-fresh xs z₀ (trio b g u) y₀ k e
    scope-stopped (waits-within e w) q (stopped-scope x) = turned-fresh xs z₀ b g u y₀ k h sb st kb kf i m e w x hs hu hf

  -- an activity of a body that is stopped, or of which an undo part runs
  part-stopped : {x : Place} {b : Bool} (own : Own) (within : Acts) (y₀ k : ℕ) → is_scope own ≡ false → SitsIn p x within (k + 1) → PartOf x y₀ → Waits o.marks (act own within) k t b → b ≡ false → Stopped o.marks (act own within) k
      → k + (1 + sizes within) ≤ length o.marks
      → ((c : Bool) → WaitsIn o.marks within (k + 1) t c → c ≡ false → StoppedIn o.marks within (k + 1) → Its-fresh (step_among actor within false y₀ (k + 1) t o).log) → Its-fresh (step_in actor (act own within) y₀ k t o).log
  unfolding size
  part-stopped own within y₀ k s l y₁ (waits-itself e₁ d) q d₁ m g = absurd (no_less p actor f t o true (stopped-waits d₁ (waits-itself e₁ d) q) e₁)
  part-stopped own within y₀ k s l y₁ (waits-within h w) q (stopped-part s₁ i j) m g =
      let c = opens-idle own (get_or o.marks k 0) i in
      idle-fresh own within y₀ k s i (stopped-part-not p actor j w c) h (steps-stopped-in p actor l y₀ t o _ y₁ w c j (omega arith)) (g _ w c j)
  part-stopped own within y₀ k s l y₁ (waits-within h w) q (stopped-quiet i) m g =
      absurd (quiet-waits-in w (opens-idle own (get_or o.marks k 0) (i.at k (omega arith) (omega arith))) (quiet-part i (omega arith) (omega arith)))
  part-stopped own within y₀ k s l y₁ (waits-within h w) q (stopped-scope i) m g = absurd (false≢true (sym s))

  part-undoing : {x : Place} {b : Bool} (own : Own) (within : Acts) (y₀ k : ℕ) → is_scope own ≡ false → SitsIn p x within (k + 1) → PartOf x y₀ → Waits o.marks (act own within) k t b → b ≡ false → Undoing o.marks (act own within) k
      → (m₀ : Name) → runner_at (λ n. mark_of n o) (name_of x) (beyond_of x) ≡ m₀ → Fit (undo_of (name_of x) (beyond_of x) (last_of x)) o → k + (1 + sizes within) ≤ length o.marks
      → ((c : Bool) → WaitsIn o.marks within (k + 1) t c → c ≡ false → UndoingIn o.marks within (k + 1) → Its-fresh (step_among actor within false y₀ (k + 1) t o).log) → Its-fresh (step_in actor (act own within) y₀ k t o).log
  part-undoing own within y₀ k s l y₁ (waits-itself e₁ d) q d₁ m₀ y₂ v m g = absurd (no_less p actor f t o true (undoing-waits d₁ (waits-itself e₁ d) q) e₁)
  part-undoing own within y₀ k s l y₁ (waits-within h w) q (undoing-part s₁ i j) m₀ y₂ v m g =
      let c = opens-idle own (get_or o.marks k 0) i in
      idle-fresh own within y₀ k s i (undoing-part-not p actor j w c) h (steps-undoing-in p actor l y₀ t o _ y₁ w c j m₀ y₂ v (omega arith)) (g _ w c j)
  part-undoing own within y₀ k s l y₁ (waits-within h w) q (undoing-scope i j z) m₀ y₂ v m g = absurd (false≢true (sym s))
  part-undoing own within y₀ k s l y₁ (waits-within h w) q (undoing-through i j z) m₀ y₂ v m g = absurd (false≢true (sym s))

  -- a scope whose undo part runs, and one that was looked through
  scope-undoes : {c : Bool} (xs : List ℕ) (b g : Act) (u : Acts) (y₀ k : ℕ) → Waits o.marks (act (scope xs true) (trio b g u)) k t c → Undoing o.marks (act (scope xs true) (trio b g u)) k
      → (Waits o.marks (part (undo_part xs) (trio b g u)) (part_at (undo_part xs) (trio b g u) (k + 1)) t false → Nth o.marks (undo_part xs) (trio b g u) (k + 1)
      → Its-fresh (step_in actor (part (undo_part xs) (trio b g u)) (part_at (undo_part xs) (trio b g u) (k + 1)) (part_at (undo_part xs) (trio b g u) (k + 1)) t o).log)
      → Its-fresh (step_in actor (act (scope xs true) (trio b g u)) y₀ k t o).log
  unfolding from_undo
  scope-undoes xs b g u y₀ k (waits-itself e d) z i = closing-fresh xs true (trio b g u) y₀ k e
  scope-undoes xs b g u y₀ k (waits-within e w) (undoing-part s _ _) i = absurd (false≢true (sym s))
  scope-undoes xs b g u y₀ k (waits-within e w) (undoing-scope x n r) i =
      let c = nth-waits r w refl in subst (λ (q : Outcome). Its-fresh q.log) (sym (undo-step p actor xs b g u y₀ k t o (nth-there r) c.0 c.1)) (i c.2 r)

  scope-through : {c : Bool} {m₀ : Name} (xs : List ℕ) (b g : Act) (u : Acts) (y₀ k : ℕ) → Waits o.marks (act (scope xs false) (trio b g u)) k t c → get_or o.marks k 0 ≡ idle → Quiet o.marks (k + 1 + size b) (size g + sizes u)
      → (Waits o.marks b (k + 1) t false → Acted (k + 1) (size b) o (UndoAs p m₀ b (k + 1) t o) (step_in actor b (k + 1) (k + 1) t o))
      → (Waits o.marks b (k + 1) t false → Its-fresh (step_in actor b (k + 1) (k + 1) t o).log)
      → Its-fresh (step_in actor (act (scope xs false) (trio b g u)) y₀ k t o).log
  unfolding size
  scope-through xs b g u y₀ k (waits-itself e d) x j a i = closing-fresh xs false (trio b g u) y₀ k e
  scope-through {m₀ = m₀} xs b g u y₀ k (waits-within e (waits-first d w)) x j a i = subst (λ (q : Outcome). Its-fresh q.log) (sym (through-is p actor xs b g u y₀ k t m₀ o x e d (a w))) (i w)
  scope-through xs b g u y₀ k (waits-within e (waits-later d w)) x j a i = absurd (quiet-waits-in w refl j)

  mutual
    unfolding size part part_at

    pub fresh-run : {x : Place} {a : Act} {k : ℕ} → Sits p x a k → Knows f a k → Stood p a k → (y₀ : ℕ) → PartOf x y₀ → (b : Bool) → Waits o.marks a k t b → b ≡ false → Run o.marks a k → Fit x o → k + size a ≤ length o.marks
        → Its-fresh (step_in actor a y₀ k t o).log
    fresh-run (sits-part {q = x} {own} {within} {k} s g u y l) (knows e n r z) st y₀ y₁ b w q run v m =
        part-fresh own within y₀ k b s (knows e n r z) w q run (λ c w₁ e₁ r₁. fresh-one l z (stood-within st) y₀ y₁ c w₁ e₁ r₁ v (omega arith)) (λ c w₁ e₁ r₁. fresh-all l z (stood-within st) y₀ y₁ c w₁ e₁ r₁ v (omega arith))
    fresh-run (sits-scope {xs} {v = z₀} {n} {c = a} {ns} {b} {f = g} {u} {k} kn d i sb y) (knows e n₁ r (knows_more kb kl)) st y₀ y₁ c w q run v m =
        scope-run xs z₀ b g u y₀ k (seat-of kn d i sb y) sb (stood-first (stood-within st)) kb (each-knows f xs k (scope-general (scope xs z₀) (trio b g u) refl n₁) (knows_more kb kl)) (each-named p f (By []) o.marks xs k (trio b g u) r (scope-general (scope xs z₀) (trio b g u) refl n₁)) m
        (λ x w₁ e₁ r₁. fresh-stopped sb kb (stood-first (stood-within st)) (k + 1) refl x w₁ e₁ r₁ (omega arith))
        (λ x w₁ e₁ r₁ v z. let r = awake-first p actor (λ n. mark_of n o) (inner k) (cond z₀ [] (n ∷ ns)) v z in
        fresh-undoing sb kb (stood-first (stood-within st)) (k + 1) refl x w₁ e₁ r₁ (inner k) r (v, ap (λ (n : Name). phase (mark_of n o)) r ∙ z) (omega arith))
        (λ j le x w₁ e₁ r₁ z. fresh-healers y kl (stood-later (stood-within st)) j x le (λ _. tt) w₁ e₁ r₁ z (omega arith))
        w run (λ w₁ r₁ x. fresh-run sb kb (stood-first (stood-within st)) (k + 1) refl false w₁ refl r₁ (ap phase x) (omega arith))

    fresh-one : {x : Place} {l : Acts} {c : ℕ} → SitsIn p x l c → KnowsIn f l c → StoodIn p l c → (y₀ : ℕ) → PartOf x y₀ → (b : Bool) → WaitsIn o.marks l c t b → b ≡ false → One o.marks l c → Fit x o → c + sizes l ≤ length o.marks
        → Its-fresh (step_among actor l false y₀ c t o).log
    fresh-one (sits-none {q = q} {c = c}) _ st y₀ y₁ b z e _ v m = elim z [ ]
    fresh-one (sits-more {q = x} {a} {l} {c} s y) (knows_more z n) st y₀ y₁ b (waits-first h w) e (one-here r q) v m = first-fresh a l y₀ c h (fresh-run s z (stood-first st) y₀ y₁ b w e r v (omega arith))
    fresh-one (sits-more {q = x} {a} {l} {c} s y) (knows_more z n) st y₀ y₁ b (waits-later h w) e (one-here r q) v m = absurd (quiet-waits-in w e q)
    fresh-one (sits-more {q = x} {a} {l} {c} s y) (knows_more z n) st y₀ y₁ b (waits-first h w) e (one_later q r) v m = absurd (quiet-waits w e q)
    fresh-one (sits-more {q = x} {a} {l} {c} s y) (knows_more z n) st y₀ y₁ b (waits-later h w) e (one_later q r) v m = later-fresh a l y₀ c h (fresh-one y n (stood-later st) y₀ y₁ b w e r v (omega arith))

    fresh-all : {x : Place} {l : Acts} {c : ℕ} → SitsIn p x l c → KnowsIn f l c → StoodIn p l c → (y₀ : ℕ) → PartOf x y₀ → (b : Bool) → WaitsIn o.marks l c t b → b ≡ false → All o.marks l c → Fit x o → c + sizes l ≤ length o.marks
        → Its-fresh (step_among actor l false y₀ c t o).log
    fresh-all (sits-none {q = q} {c = c}) _ st y₀ y₁ b z e _ v m = elim z [ ]
    fresh-all (sits-more {q = x} {a} {l} {c} s y) (knows_more z n) st y₀ y₁ b (waits-first h w) e (all-run r q) v m = first-fresh a l y₀ c h (fresh-run s z (stood-first st) y₀ y₁ b w e r v (omega arith))
    fresh-all (sits-more {q = x} {a} {l} {c} s y) (knows_more z n) st y₀ y₁ b (waits-first h w) e (all_quiet q r) v m = absurd (quiet-waits w e q)
    fresh-all (sits-more {q = x} {a} {l} {c} s y) (knows_more z n) st y₀ y₁ b (waits-later h w) e (all-run r q) v m = later-fresh a l y₀ c h (fresh-all y n (stood-later st) y₀ y₁ b w e q v (omega arith))
    fresh-all (sits-more {q = x} {a} {l} {c} s y) (knows_more z n) st y₀ y₁ b (waits-later h w) e (all_quiet q r) v m = later-fresh a l y₀ c h (fresh-all y n (stood-later st) y₀ y₁ b w e r v (omega arith))

    pub fresh-stopped : {x : Place} {a : Act} {k : ℕ} → Sits p x a k → Knows f a k → Stood p a k → (y₀ : ℕ) → PartOf x y₀ → (b : Bool) → Waits o.marks a k t b → b ≡ false → Stopped o.marks a k → k + size a ≤ length o.marks
        → Its-fresh (step_in actor a y₀ k t o).log
    fresh-stopped (sits-part {q = x} {own} {within} {k} s g u y l) (knows e n r z) st y₀ y₁ b w q run m =
        part-stopped own within y₀ k s l y₁ w q run m (λ c w₁ e₁ r₁. fresh-stopped-in l z (stood-within st) y₀ y₁ c w₁ e₁ r₁ (omega arith))
    fresh-stopped (sits-scope {xs} {v = z₀} {n} {c = a} {ns} {b} {f = g} {u} {k} kn d i sb y) (knows e n₁ r (knows_more kb kl)) st y₀ y₁ c w q run m =
        scope-stopped xs z₀ b g u y₀ k (seat-of kn d i sb y) sb (stood-first (stood-within st)) kb (each-knows f xs k (scope-general (scope xs z₀) (trio b g u) refl n₁) (knows_more kb kl)) (each-named p f (By []) o.marks xs k (trio b g u) r (scope-general (scope xs z₀) (trio b g u) refl n₁)) m
        (λ x w₁ e₁ r₁. fresh-stopped sb kb (stood-first (stood-within st)) (k + 1) refl x w₁ e₁ r₁ (omega arith))
        (λ x w₁ e₁ r₁ v z. let r = awake-first p actor (λ n. mark_of n o) (inner k) (cond z₀ [] (n ∷ ns)) v z in
        fresh-undoing sb kb (stood-first (stood-within st)) (k + 1) refl x w₁ e₁ r₁ (inner k) r (v, ap (λ (n : Name). phase (mark_of n o)) r ∙ z) (omega arith))
        (λ j le x w₁ e₁ r₁ z. fresh-healers y kl (stood-later (stood-within st)) j x le (λ _. tt) w₁ e₁ r₁ z (omega arith))
        w q run

    fresh-stopped-in : {x : Place} {l : Acts} {c : ℕ} → SitsIn p x l c → KnowsIn f l c → StoodIn p l c → (y₀ : ℕ) → PartOf x y₀ → (b : Bool) → WaitsIn o.marks l c t b → b ≡ false → StoppedIn o.marks l c → c + sizes l ≤ length o.marks
        → Its-fresh (step_among actor l false y₀ c t o).log
    fresh-stopped-in (sits-none {q = q} {c = c}) _ st y₀ y₁ b z e _ m = elim z [ ]
    fresh-stopped-in (sits-more {q = x} {a} {l} {c} s y) (knows_more z n) st y₀ y₁ b (waits-first h w) e (stopped_more r q) m = first-fresh a l y₀ c h (fresh-stopped s z (stood-first st) y₀ y₁ b w e r (omega arith))
    fresh-stopped-in (sits-more {q = x} {a} {l} {c} s y) (knows_more z n) st y₀ y₁ b (waits-later h w) e (stopped_more r q) m = later-fresh a l y₀ c h (fresh-stopped-in y n (stood-later st) y₀ y₁ b w e q (omega arith))

    pub fresh-undoing : {x : Place} {a : Act} {k : ℕ} → Sits p x a k → Knows f a k → Stood p a k → (y₀ : ℕ) → PartOf x y₀ → (b : Bool) → Waits o.marks a k t b → b ≡ false → Undoing o.marks a k → (m₀ : Name) → runner_at (λ n. mark_of n o) (name_of x) (beyond_of x) ≡ m₀ → Fit (undo_of (name_of x) (beyond_of x) (last_of x)) o
        → k + size a ≤ length o.marks → Its-fresh (step_in actor a y₀ k t o).log
    fresh-undoing (sits-part {q = x} {own} {within} {k} s g u y l) (knows e n r z) st y₀ y₁ b w q run m₀ y₂ v m =
        part-undoing own within y₀ k s l y₁ w q run m₀ y₂ v m (λ c w₁ e₁ r₁. fresh-undoing-in l z (stood-within st) y₀ y₁ c w₁ e₁ r₁ m₀ y₂ v (omega arith))
    fresh-undoing (sits-scope {xs} {v = true} {b = b} {f = g} {u} {k} kn d i sb y) (knows e n₁ r (knows_more kb kl)) st y₀ y₁ c w q run m₀ y₂ v m =
        scope-undoes xs b g u y₀ k w run
        (λ w₁ j. fresh-undoer y refl kl (stood-later (stood-within st)) false (λ _. tt) w₁ refl (nth-run j) v (omega arith))
    fresh-undoing (sits-scope {v = false} kn d i sb y) (knows e n₁ r (knows_more kb kl)) st y₀ y₁ c w q (undoing-part s _ j) m₀ y₂ v m = absurd (false≢true (sym s))
    fresh-undoing (sits-scope {xs} {v = false} {b = b} {f = g} {u = u} {k = k} kn d i sb y) (knows e n₁ r (knows_more kb kl)) st y₀ y₁ c w q (undoing-through x z j) m₀ y₂ v m =
        scope-through {m₀ = m₀} xs b g u y₀ k w x j (λ w₁. steps-undoing p actor sb (k + 1) t o false refl w₁ refl z m₀ (rw x y₂) (rw x v) (omega arith))
        (λ w₁. fresh-undoing sb kb (stood-first (stood-within st)) (k + 1) refl false w₁ refl z m₀ (rw x y₂) (rw x v) (omega arith))

    fresh-undoing-in : {x : Place} {l : Acts} {c : ℕ} → SitsIn p x l c → KnowsIn f l c → StoodIn p l c → (y₀ : ℕ) → PartOf x y₀ → (b : Bool) → WaitsIn o.marks l c t b → b ≡ false → UndoingIn o.marks l c → (m₀ : Name) → runner_at (λ n. mark_of n o) (name_of x) (beyond_of x) ≡ m₀ → Fit (undo_of (name_of x) (beyond_of x) (last_of x)) o
        → c + sizes l ≤ length o.marks → Its-fresh (step_among actor l false y₀ c t o).log
    fresh-undoing-in (sits-none {q = q} {c = c}) _ st y₀ y₁ b z e _ m₀ y₂ v m = elim z [ ]
    fresh-undoing-in (sits-more {q = x} {a} {l} {c} s y) (knows_more z n) st y₀ y₁ b (waits-first h w) e (undoing-here r q) m₀ y₂ v m = first-fresh a l y₀ c h (fresh-undoing s z (stood-first st) y₀ y₁ b w e r m₀ y₂ v (omega arith))
    fresh-undoing-in (sits-more {q = x} {a} {l} {c} s y) (knows_more z n) st y₀ y₁ b (waits-later h w) e (undoing-here r q) m₀ y₂ v m = absurd (quiet-waits-in w e q)
    fresh-undoing-in (sits-more {q = x} {a} {l} {c} s y) (knows_more z n) st y₀ y₁ b (waits-first h w) e (undoing-later q r) m₀ y₂ v m = absurd (quiet-waits w e q)
    fresh-undoing-in (sits-more {q = x} {a} {l} {c} s y) (knows_more z n) st y₀ y₁ b (waits-later h w) e (undoing-later q r) m₀ y₂ v m = later-fresh a l y₀ c h (fresh-undoing-in y n (stood-later st) y₀ y₁ b w e r m₀ y₂ v (omega arith))

    -- in one of the fault parts of a scope, in its undo part
    fresh-healers : {s : Name} {xs : List ℕ} {z : Bool} {q y : Place} {l : Acts} {c : ℕ} → Healers p s xs z q y l c → KnowsIn f l c → StoodIn p l c → (i : ℕ) (b : Bool) → i ≤ length xs → ((j : ℕ) → PartOf q j)
        → Waits o.marks (part i l) (part_at i l c) t b → b ≡ false → Run o.marks (part i l) (part_at i l c) → Fit q o → c + sizes l ≤ length o.marks
        → Its-fresh (step_in actor (part i l) (part_at i l c) (part_at i l c) t o).log
    fresh-healers (heals-by {c} y a h) (knows_more k kl) st zero b n d w e r v m = fresh-part a k (stood-first st) c (d c) b w e r v (omega arith)
    fresh-healers (heals-by y a h) (knows_more k kl) st (suc i) b n d w e r v m = fresh-healers h kl (stood-later st) i b (omega arith) d w e r v (omega arith)
    fresh-healers (heals-all {c} y a h) (knows_more k kl) st zero b n d w e r v m = fresh-part a k (stood-first st) c (d c) b w e r v (omega arith)
    fresh-healers (heals-all y a h) (knows_more k kl) st (suc i) b n d w e r v m = absurd (omega arith)

    fresh-undoer : {s : Name} {xs : List ℕ} {z : Bool} {q y : Place} {l : Acts} {c : ℕ} → Healers p s xs z q y l c → z ≡ true → KnowsIn f l c → StoodIn p l c → (b : Bool) → ((j : ℕ) → PartOf y j)
        → Waits o.marks (part (general_part xs) l) (part_at (general_part xs) l c) t b → b ≡ false → Run o.marks (part (general_part xs) l) (part_at (general_part xs) l c) → Fit y o → c + sizes l ≤ length o.marks
        → Its-fresh (step_in actor (part (general_part xs) l) (part_at (general_part xs) l c) (part_at (general_part xs) l c) t o).log
    fresh-undoer (heals-by y a h) n (knows_more k kl) st b d w e r v m = fresh-undoer h n kl (stood-later st) b d w e r v (omega arith)
    fresh-undoer (heals-all y a h) n (knows_more k kl) st b d w e r v m = fresh-rest h n kl (stood-later st) b d w e r v (omega arith)

    fresh-rest : {z : Bool} {y : Place} {l : Acts} {c : ℕ} → Rest p z y l c → z ≡ true → KnowsIn f l c → StoodIn p l c → (b : Bool) → ((j : ℕ) → PartOf y j)
        → Waits o.marks (part 0 l) (part_at 0 l c) t b → b ≡ false → Run o.marks (part 0 l) (part_at 0 l c) → Fit y o → c + sizes l ≤ length o.marks
        → Its-fresh (step_in actor (part 0 l) (part_at 0 l c) (part_at 0 l c) t o).log
    fresh-rest (rest-undo {k} su) n (knows_more ku kl) st b d w e r v m = fresh-part su ku (stood-first st) k (d k) b w e r v (omega arith)
    fresh-rest rest-none n ku st b d w e r v m = absurd (false≢true n)

    pub fresh-part : {x : Place} {a : Act} {k : ℕ} → Remedy p x a k → Knows f a k → Stood p a k → (y₀ : ℕ) → PartOf x y₀ → (b : Bool) → Waits o.marks a k t b → b ≡ false → Run o.marks a k → Fit x o → k + size a ≤ length o.marks
        → Its-fresh (step_in actor a y₀ k t o).log
    fresh-part (remedy {q = x} {own} {within} {k} s a g u z₁ l d) (knows e n r z) st y₀ y₁ b w q run v m =
        part-fresh own within y₀ k b s (knows e n r z) w q run (λ c w₁ e₁ r₁. fresh-one l z (stood-within st) y₀ y₁ c w₁ e₁ r₁ v (omega arith)) (λ c w₁ e₁ r₁. fresh-all l z (stood-within st) y₀ y₁ c w₁ e₁ r₁ v (omega arith))
