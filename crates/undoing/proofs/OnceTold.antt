-- What lasts begins at most once in a step. Assumes nothing.
use Prim.Native.Nat.{ℕ, ◌+◌, ◌≤◌, ◌<◌}
use native.Mathlib.Omega.{arith}
use mathlib.Core.Path.{◌≡◌, refl, sym, ap, subst, ◌∙◌}
use mathlib.Core.Bool.{Bool, true, false, cond, ◌||◌, false≢true}
use mathlib.Core.List.{List, [], ◌∷◌, ◌++◌}
use lib.ListN.{length}
use lib.Dec.{eqb, ltb}
use borrow.Author.Tests.{eqb-true, ltb-false, lt-ltb, le-ltb}
use Rattle.plan.specs.Tree.{Own, empty, send, receive, set as setting, raise, leave, choose, repeat, sequence, flow, pick, scope, arm, kind, act, Acts, none, more, size, sizes, count, is_scope, is_pick}
use Rattle.order.specs.declared.Order.{Order}
use Rattle.order.specs.Lists.{some}
use Rattle.order.specs.State.{active, inside, undoing, handling, withdrawing, done, with_marks, mark_at, marked, mark_of, marking, binding, state_of}
use Rattle.order.specs.Event.{Event, began, faulted}
use Rattle.order.specs.Expression.{conflicting_receive, Value, fault, value, evaluate, is_true}
use Rattle.order.specs.Begin.{Begun, begin_in_turn, begin_after, part, begin_part, cleared, quiet}
use Rattle.order.specs.declared.Way.{Way as Result}
use Rattle.order.specs.declared.Way.TheVariants.{Running as running, Over as over, Raising as raising, Leaving as leaving, Undone as undone, UndoRaising as undo_raising}
use Rattle.order.specs.Scope.{Outcome, runs, after, begun_in, where_over, Scope, scope_at, is_open, inner_runs, closing, ends, turns, stop, faults, breaks, looks_again, body_over, body_raised, undo_over, undo_raised, from_body, part_over, part_raised, from_fault}
use Rattle.order.specs.Acting.{finishes, raises, or_raises, again, repeats, itself, is_part, arms, goes_on, joins, combines, step_in, step_among, Actor, replaces, performs}
use Rattle.undoing.specs.Orderly.{is_began_of}
use Rattle.undoing.specs.Begun.{lasts, has_began}
use Rattle.undoing.specs.Entirely.{times}
use Rattle.undoing.proofs.Causing.{caused, chosen_mark, faults-is}
use Rattle.undoing.proofs.Parts.{decide}
use Rattle.undoing.proofs.Orders.{least}
use Rattle.undoing.proofs.Places.{first-of, second-of}
use Rattle.undoing.proofs.Seats.{marking-length}
use Rattle.undoing.proofs.Truly.{Arms, needs, Knows, knows, KnowsIn, knows-none, knows_more}
use Rattle.undoing.proofs.Lasting.{is_raising, KnowsEach}
use Rattle.undoing.proofs.Keeping as keeping
use Rattle.undoing.proofs.Entire.{times-append, turn-starts}
use Rattle.undoing.proofs.Entering.{step-at}
use Rattle.undoing.proofs.Single.{Once, Light, light-none, light-once, once-light, once-event, after-onto, part-onto, Lone, turns-lone, undone-lone, looks-lone, turns-none, stop-stops, lone-zero, lone-begun, lone-where, once-apart}
use Rattle.undoing.proofs.Sends.{by-send}

-- none has begun, as the other test has it
pub none-times : (j : ℕ) (l : List Event) → has_began j l ≡ false → times j l ≡ 0
unfolding times some
none-times j [] e = refl
none-times j (x ∷ l) e = decide (is_began_of (eqb j) x) (λ d. absurd (false≢true (sym (rw d at e)))) (λ d. rw d (let z = none-times j l (rw d at e) in omega arith))

abbrev log-of : Outcome → List Event
log-of o = o.log

-- runs on or is over
abbrev pub is_going : Result → Bool
is_going running = true
is_going over = true
is_going (raising x) = false
is_going leaving = false
is_going undone = false
is_going (undo_raising x) = false

module _ (f : ℕ → ℕ) where
  -- A scope that looks again begins nothing, or nothing that lasts began before it.
  pub data Rests (s : Scope) (r : Outcome) : Type 0 where
    rests-still : looks_again s r.order ≡ runs r.order → Rests s r
    rests-light : Light f r.log → Rests s r

  module _ (s : Scope) (kb : Knows f s.body s.body_at) (kf : KnowsEach f s) where
    faults-once : (number : ℕ) (o : Order) → s.body_at + size s.body ≤ length o.marks → Once f (faults number s o).log
    unfolding times is_began_of
    faults-once number o m =
        let o₁ = caused s.name number (marking s.name (chosen_mark number s) o) in
        let q = stop s.body s.body_at o₁ in
        let w = stop-stops f kb o₁ (omega (arith, marking-length s.name (chosen_mark number s) o)) in
        subst (λ (z : Outcome). Once f z.log) (sym (faults-is number s o))
        (once-event f (faulted s.name number) _ (λ j. refl)
        (decide (inner_runs s.body s.body_at q.order.marks)
        (λ d. subst (λ (z : Outcome). Once f (q.log ++ z.log)) (sym (turns-none f s kb kf true q.order d)) (once-light f q.log w.once (light-none f [] (λ j. refl))))
        (λ d. light-once f (turns true s q.order).log (w.light d) (turns-lone f s kb kf true q.order).once)))

    either-once : (v : Bool) (x y z : Outcome) → z ≡ elim v [ true ↦ x | false ↦ y ] → Once f x.log → Once f y.log → Once f z.log
    either-once true x y z e g h = subst (λ (r : Outcome). Once f r.log) (sym e) g
    either-once false x y z e g h = subst (λ (r : Outcome). Once f r.log) (sym e) h

    raised-once : (number : ℕ) (o : Order) → s.body_at + size s.body ≤ length o.marks → Once f (body_raised number s o).log
    unfolding body_raised
    raised-once number o m = either-once (is_open (mark_of s.name o)) (faults number s o) (looks_again s o) (body_raised number s o) refl (faults-once number o m) (looks-lone f s kb kf o).once

    looks-after : (r : Outcome) → Once f r.log → Rests s r → Once f (r.log ++ (looks_again s r.order).log)
    unfolding times
    looks-after r w (rests-still e) = subst (λ (z : Outcome). Once f (r.log ++ z.log)) (sym e) (once-light f r.log w (light-none f [] (λ j. refl)))
    looks-after r w (rests-light e) = light-once f (looks_again s r.order).log e (looks-lone f s kb kf r.order).once

    over-after : (r : Outcome) → Once f r.log → Rests s r → Once f (r.log ++ (body_over s r.order).log)
    unfolding body_over times
    over-after r w e = go (eqb (mark_of s.name r.order) active)
      where
        go : (b : Bool) → Once f (r.log ++ log-of (elim b [ true ↦ runs (marking s.name done r.order) | false ↦ looks_again s r.order ]))
        go true = once-light f r.log w (light-none f [] (λ j. refl))
        go false = looks-after r w e

    undo-raised-none : (number : ℕ) (o : Order) (j : ℕ) → times j (undo_raised number s o).log ≡ 0
    unfolding undo_raised breaks times is_began_of
    undo-raised-none number o j = go (eqb (state_of s.name o) undoing || eqb (mark_of s.name o) withdrawing)
      where
        go : (b : Bool) → times j (log-of (elim b [ true ↦ breaks number s o | false ↦ runs o ])) ≡ 0
        go true = refl
        go false = refl

    part-over-none : (o : Order) (j : ℕ) → times j (part_over s o).log ≡ 0
    unfolding part_over times is_began_of
    part-over-none o j = go (eqb (state_of s.name o) handling)
      where
        go : (b : Bool) → times j (log-of (elim b [ true ↦ ends s o | false ↦ runs o ])) ≡ 0
        go true = refl
        go false = refl

    part-raised-none : (number : ℕ) (o : Order) (j : ℕ) → times j (part_raised number s o).log ≡ 0
    unfolding part_raised breaks times is_began_of
    part-raised-none number o j = go (eqb (state_of s.name o) handling)
      where
        go : (b : Bool) → times j (log-of (elim b [ true ↦ breaks number s o | false ↦ runs o ])) ≡ 0
        go true = refl
        go false = refl

    -- what a scope makes of a step in its body
    pub body-once : (r : Outcome) → s.body_at + size s.body ≤ length r.order.marks → Once f r.log → (is_going r.result ≡ true → Rests s r) → (r.result ≡ undone → Light f r.log)
        → (is_raising r.result ≡ true → (j : ℕ) → times j r.log ≡ 0) → Once f (from_body s r).log
    unfolding from_body
    body-once r m w g u z = go r.result refl
      where
        go : (x : Result) → r.result ≡ x → Once f (from_body s (record { result = x; order = r.order; log = r.log })).log
        go running e = looks-after r w (g (ap is_going e))
        go over e = over-after r w (g (ap is_going e))
        go (raising x) e = light-once f (body_raised x s r.order).log (light-none f r.log (z (ap is_raising e))) (raised-once x r.order m)
        go leaving e = w
        go undone e = light-once f (undo_over s r.order).log (u e) (undone-lone f s kb kf r.order).once
        go (undo_raising x) e = once-light f r.log w (light-none f (undo_raised x s r.order).log (undo-raised-none x r.order))

    pub fault-once : (r : Outcome) → Once f r.log → Once f (from_fault s r).log
    unfolding from_fault
    fault-once r w = go r.result
      where
        go : (x : Result) → Once f (from_fault s (record { result = x; order = r.order; log = r.log })).log
        go running = w
        go over = once-light f r.log w (light-none f (part_over s r.order).log (part-over-none r.order))
        go (raising x) = once-light f r.log w (light-none f (part_raised x s r.order).log (part-raised-none x r.order))
        go leaving = w
        go undone = w
        go (undo_raising x) = w

  -- Activities other than scopes.
  or-lone : (k : ℕ) (o : Order) (g : ℕ → Outcome) (v : Value) → ((n : ℕ) → Lone f (g n)) → Lone f (or_raises k o g v)
  unfolding times is_began_of
  or-lone k o g (fault x) h = lone-zero f (raises x k o) (λ j. refl)
  or-lone k o g (value n) h = h n

  pub itself-lone : (own : Own) (within : Acts) (q₀ k : ℕ) (o : Order) → needs own ≤ count within → KnowsIn f within (k + 1) → Lone f (itself own within q₀ k o)
  unfolding itself needs least kind times is_began_of closing repeats
  itself-lone empty within q₀ k o n y = lone-zero f (runs o) (λ j. refl)
  itself-lone (send a b vs) within q₀ k o n y = by-send (Lone f) a b vs within q₀ k o (lone-zero f (finishes k o) (λ j. refl)) (λ x. lone-zero f (raises x k o) (λ j. refl))
  itself-lone (receive a b vs) within q₀ k o n y = lone-zero f (finishes k o) (λ j. refl)
  itself-lone (setting v e) within q₀ k o n y = or-lone k o _ (evaluate e o) (λ i. lone-zero f (finishes k (binding v i o)) (λ j. refl))
  itself-lone (raise number) within q₀ k o n y = lone-zero f (raises number k o) (λ j. refl)
  itself-lone leave within q₀ k o n y = lone-zero f (itself leave within q₀ k o) (λ j. refl)
  itself-lone (choose e) within q₀ k o n y =
      or-lone k o _ (evaluate e o) (λ z. let o₁ = marked k inside o in
      lone-where f (finishes k) (begun_in o₁ (begin_part (cond (is_true z) 0 1) within (k + 1) o₁.marks)) (lone-begun f o₁ (begin_part (cond (is_true z) 0 1) within (k + 1) o₁.marks) (part-onto f y (cond (is_true z) 0 1) (second (is_true z)) o₁.marks))
      (λ q. lone-zero f (finishes k q) (λ j. refl)))
    where
      second : (b : Bool) → cond b 0 1 < count within
      second true = omega arith
      second false = omega arith
  itself-lone (repeat e) within q₀ k o n y = or-lone k o _ (evaluate e o) (λ z. turn (is_true z))
    where
      turn : (b : Bool) → Lone f (elim b [ true ↦ repeats k within o | false ↦ finishes k o ])
      turn true =
          let o₁ = marked k inside (with_marks (cleared (k + 1) (sizes within) o.marks) o) in
          lone-where f (again k) (begun_in o₁ (begin_part 0 within (k + 1) o₁.marks)) (lone-begun f o₁ (begin_part 0 within (k + 1) o₁.marks) (part-onto f y 0 (omega arith) o₁.marks)) (λ q. lone-zero f (again k q) (λ j. refl))
      turn false = lone-zero f (finishes k o) (λ j. refl)
  itself-lone sequence within q₀ k o n y = lone-zero f (runs o) (λ j. refl)
  itself-lone flow within q₀ k o n y = lone-zero f (runs o) (λ j. refl)
  itself-lone pick within q₀ k o n y = lone-zero f (runs o) (λ j. refl)
  itself-lone (scope ns v) within q₀ k o n y = lone-zero f (closing v q₀ k (scope_at ns k within) o) (λ j. refl)
  itself-lone (arm a b vs) within q₀ k o n y = lone-begun f o (begin_part 0 within (k + 1) o.marks) (part-onto f y 0 (omega arith) o.marks)

  -- where the step's part of a list ends: what it logs stands before, what follows in a sequence after
  record Edge (actor : Actor) (l : Acts) (v : Bool) (q₀ c t : ℕ) : Type 0 where
    edge : ℕ
    before : (o : Order) (j : ℕ) → edge ≤ j → times j (step_among actor l v q₀ c t o).log ≡ 0
    behind : (ms : List ℕ) (j : ℕ) → j < edge → times j (begin_after l c t ms).log ≡ 0

  edge_of : (actor : Actor) {l : Acts} {c : ℕ} → KnowsIn f l c → Arms false l → (v : Bool) (q₀ t : ℕ) → c ≤ t → Edge actor l v q₀ c t
  unfolding step_in begin_after times
  edge_of actor (knows-none {c}) r v q₀ t h = record { edge = c; before = λ o j e. refl; behind = λ ms j e. refl }
  edge_of actor (knows_more {a = act own w} {l} {c} x y) r v q₀ t h =
      decide (ltb t (c + size (act own w)))
      (λ d. record {
        edge = c + size (act own w);
        before = λ o j e. ap (λ (z : Outcome). times j z.log) (first-of (ltb t (c + size (act own w))) (step_in actor (act own w) (cond v c q₀) c t o) (step_among actor l v q₀ (c + size (act own w)) t o) (step_among actor (more (act own w) l) v q₀ c t o) refl d) ∙ (step-at f t actor x (cond v c q₀) o h).strict.above j e;
        behind = λ ms j e. ap (λ (z : Begun). times j z.log) (first-of (ltb t (c + size (act own w))) (begin_in_turn-of ms) (begin_after l (c + size (act own w)) t ms) (begin_after (more (act own w) l) c t ms) refl d) ∙ (turn-starts f y r.1 ms).below j e;
      })
      (λ d. let z = edge_of actor y r.1 v q₀ t (ltb-false t (c + size (act own w)) d) in
      record {
        edge = z.edge;
        before = λ o j e. ap (λ (z : Outcome). times j z.log) (second-of (ltb t (c + size (act own w))) (step_in actor (act own w) (cond v c q₀) c t o) (step_among actor l v q₀ (c + size (act own w)) t o) (step_among actor (more (act own w) l) v q₀ c t o) refl d) ∙ z.before o j e;
        behind = λ ms j e. ap (λ (z : Begun). times j z.log) (second-of (ltb t (c + size (act own w))) (begin_in_turn-of ms) (begin_after l (c + size (act own w)) t ms) (begin_after (more (act own w) l) c t ms) refl d) ∙ z.behind ms j e;
      })
    where
      begin_in_turn-of : List ℕ → Begun
      begin_in_turn-of ms = begin_in_turn l (c + size (act own w)) ms

  -- goes on, and begins nothing more
  on-once : (k v : ℕ) (g : Order → Outcome) (r : Outcome) → Once f r.log → ((q : Order) (j : ℕ) → times j (g q).log ≡ 0) → Once f (goes_on k v g r).log
  unfolding goes_on times
  on-once k v g r w z = go r.result
    where
      on : (b : Bool) → Once f (r.log ++ log-of (elim b [ true ↦ g r.order | false ↦ runs r.order ]))
      on true = once-light f r.log w (light-none f (g r.order).log (z r.order))
      on false = once-light f r.log w (light-none f [] (λ j. refl))

      go : (x : Result) → Once f (where_over (λ q. elim (eqb (mark_at k q) v) [ true ↦ g q | false ↦ runs q ]) (record { result = x; order = r.order; log = r.log })).log
      go running = w
      go over = on (eqb (mark_at k r.order) v)
      go (raising x) = w
      go leaving = w
      go undone = w
      go (undo_raising x) = w

  sequence-once : (actor : Actor) {within : Acts} (v₀ : Bool) (q₀ k t : ℕ) (o : Order) → KnowsIn f within (k + 1) → Arms false within → k + 1 ≤ t → Once f (step_among actor within v₀ q₀ (k + 1) t o).log
      → Once f (goes_on k active (λ q. where_over (finishes k) (begun_in q (begin_after within (k + 1) t q.marks))) (step_among actor within v₀ q₀ (k + 1) t o)).log
  unfolding goes_on times
  sequence-once actor {within} v₀ q₀ k t o y a h w = go r.result
    where
      r : Outcome
      r = step_among actor within v₀ q₀ (k + 1) t o

      e : Edge actor within v₀ q₀ (k + 1) t
      e = edge_of actor y a v₀ q₀ t h

      b : Begun
      b = begin_after within (k + 1) t r.order.marks

      joined : Once f (r.log ++ b.log)
      joined = once-apart f e.edge r.log b.log (e.before o) (e.behind r.order.marks) w (record { at = λ j n. (after-onto f y a t r.order.marks).once j })

      next : (v : Bool) → Once f (r.log ++ (where_over (finishes k) (record { result = cond v over running; order = with_marks b.marks r.order; log = b.log })).log)
      next true = record { at = λ j n. let x = joined.at j n in let d = times-append j r.log b.log in let g = times-append j r.log (b.log ++ []) in let i = times-append j b.log [] in omega arith }
      next false = joined

      on : (v : Bool) → Once f (r.log ++ log-of (elim v [ true ↦ where_over (finishes k) (begun_in r.order b) | false ↦ runs r.order ]))
      on true = next b.over
      on false = once-light f r.log w (light-none f [] (λ j. refl))

      go : (x : Result)
          → Once f (where_over (λ q. elim (eqb (mark_at k q) active) [ true ↦ where_over (finishes k) (begun_in q (begin_after within (k + 1) t q.marks)) | false ↦ runs q ]) (record { result = x; order = r.order; log = r.log })).log
      go running = w
      go over = on (eqb (mark_at k r.order) active)
      go (raising x) = w
      go leaving = w
      go undone = w
      go (undo_raising x) = w

  joins-none : (k : ℕ) (within : Acts) (q : Order) (j : ℕ) → times j (joins k within q).log ≡ 0
  unfolding joins times
  joins-none k within q j = go (quiet (k + 1) (sizes within) q.marks)
    where
      go : (b : Bool) → times j (log-of (elim b [ true ↦ finishes k q | false ↦ runs q ])) ≡ 0
      go true = refl
      go false = refl

  -- what an activity other than a scope makes of a step within it
  pub combines-once : (actor : Actor) (own : Own) (within : Acts) (q₀ k t : ℕ) (o : Order) → is_scope own ≡ false → Arms (is_pick own) within → KnowsIn f within (k + 1) → k + 1 ≤ t
      → Once f (step_among actor within (is_scope own) q₀ (k + 1) t o).log → Once f (combines own within k t (step_among actor within (is_scope own) q₀ (k + 1) t o)).log
  unfolding combines kind times
  combines-once actor empty within q₀ k t o s r y h w = w
  combines-once actor (send a b vs) within q₀ k t o s r y h w = w
  combines-once actor (receive a b vs) within q₀ k t o s r y h w = w
  combines-once actor (setting v e) within q₀ k t o s r y h w = w
  combines-once actor (raise number) within q₀ k t o s r y h w = w
  combines-once actor leave within q₀ k t o s r y h w = w
  combines-once actor (choose e) within q₀ k t o s r y h w = on-once k inside (finishes k) _ w (λ q j. refl)
  combines-once actor (repeat e) within q₀ k t o s r y h w = on-once k inside (again k) _ w (λ q j. refl)
  combines-once actor sequence within q₀ k t o s r y h w = sequence-once actor false q₀ k t o y r h w
  combines-once actor flow within q₀ k t o s r y h w = on-once k active (joins k within) _ w (joins-none k within)
  combines-once actor pick within q₀ k t o s r y h w = on-once k inside (finishes k) _ w (λ q j. refl)
  combines-once actor (scope ns v) within q₀ k t o s r y h w = absurd (false≢true (sym s))
  combines-once actor (arm a b vs) within q₀ k t o s r y h w = w

  part-from : (l : Acts) (c t : ℕ) → is_part l c t ≡ true → c ≤ t
  unfolding is_part size
  part-from none c t h = absurd (false≢true h)
  part-from (more (act own v) l) c t h =
      decide (eqb c t) (λ e. let z = eqb-true c t e in omega arith) (λ e. let z = part-from l (c + (1 + sizes v)) t (rw e at h) in omega arith)

  -- what acts: the activity itself, or a raise in its place
  pub performs-once : (actor : Actor) (own : Own) (within : Acts) (q₀ k : ℕ) (o : Order) → needs own ≤ count within → KnowsIn f within (k + 1) → Once f (performs actor own within q₀ k o).log
  unfolding performs times is_began_of
  performs-once actor own within q₀ k o n y = go (replaces actor (kind own))
    where
      go : (b : Bool) → Once f (log-of (elim b [ true ↦ raises conflicting_receive k o | false ↦ itself own within q₀ k o ]))
      go true = (lone-zero f (raises conflicting_receive k o) (λ j. refl)).once
      go false = (itself-lone own within q₀ k o n y).once

  -- the step of one of a list
  pub own-once : (actor : Actor) {l : Acts} {c : ℕ} → KnowsIn f l c → (v : Bool) (q₀ t : ℕ) (o : Order) → is_part l c t ≡ true → Once f (step_among actor l v q₀ c t o).log
  unfolding is_part step_in size
  own-once actor knows-none v q₀ t o e = absurd (false≢true e)
  own-once actor (knows_more {a = act own w} {l} {c} (knows x n r y) z) v q₀ t o e =
      decide (eqb c t)
      (λ d. let i = eqb-true c t d in
      subst (λ (q : Outcome). Once f q.log) (sym (first-of (ltb t (c + (1 + sizes w))) (step_in actor (act own w) (cond v c q₀) c t o) (step_among actor l v q₀ (c + (1 + sizes w)) t o) (step_among actor (more (act own w) l) v q₀ c t o) refl (lt-ltb t (c + (1 + sizes w)) (omega arith))))
      (subst (λ (q : Outcome). Once f q.log) (sym (first-of (eqb c t) (performs actor own w (cond v c q₀) c o) (combines own w c t (step_among actor w (is_scope own) (cond v c q₀) (c + 1) t (arms own w c t o))) (step_in actor (act own w) (cond v c q₀) c t o) refl d)) (performs-once actor own w (cond v c q₀) c o n y)))
      (λ d. let g : is_part l (c + (1 + sizes w)) t ≡ true = rw d at e in
      subst (λ (q : Outcome). Once f q.log) (sym (second-of (ltb t (c + (1 + sizes w))) (step_in actor (act own w) (cond v c q₀) c t o) (step_among actor l v q₀ (c + (1 + sizes w)) t o) (step_among actor (more (act own w) l) v q₀ c t o) refl (le-ltb t (c + (1 + sizes w)) (part-from l (c + (1 + sizes w)) t g))))
      (own-once actor z v q₀ t o g))
