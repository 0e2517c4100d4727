-- What lasts begins at most once in a step, over any run. Assumes nothing.
use Prim.Native.Nat.{ℕ, ◌+◌, ◌≤◌, ◌<◌}
use native.Mathlib.Omega.{arith}
use mathlib.Core.Path.{◌≡◌, refl, sym, ap, subst, ◌∙◌}
use mathlib.Core.Bool.{Bool, true, false, cond, not, ◌||◌, false≢true}
use mathlib.Core.List.{List, [], ◌∷◌, ◌++◌}
use lib.ListN.{length}
use lib.Dec.{eqb, ltb, leb}
use borrow.Author.Tests.{eqb-true, lt-ltb, le-ltb, le-leb}
use Rattle.plan.specs.Found.{Found, found}
use Rattle.plan.specs.Read.{read_plan}
use Rattle.plan.specs.Tree.{Plan, size, Act, none, more}
use Rattle.plan.proofs.Limits.{accepted-is-within}
use Rattle.order.specs.declared.Order.{Order}
use Rattle.order.specs.declared.End.{End}
use Rattle.order.specs.declared.End.TheVariants.{None, Well, Handled, Failed, Left}
use Rattle.machine.specs.declared.Message.{Message}
use Rattle.machine.specs.declared.State.{State}
use Rattle.machine.specs.declared.Tally.{Tally}
use Rattle.order.specs.Lists.{every, some}
use Rattle.order.specs.State.{Name, idle, root, mark_of, is_live, no_order}
use Rattle.machine.specs.State.{fresh}
use Rattle.order.specs.Event.{Event, started, ended}
use Rattle.order.specs.Scope.{Outcome, root_of, chosen_part, chosen_at, from_body, from_fault}
use Rattle.order.specs.Acting.{step_in, step_root, end_of, moved_to, begun_order, started_order, Actor, its_own, acted}
use Rattle.machine.specs.Calls.{loaded_as, load, post, collect, Stepped, doing_at, step, Call, posting, collecting, stepping}
use Rattle.undoing.specs.History.{log_of}
use Rattle.undoing.specs.Ties.{is_taken}
use Rattle.undoing.specs.Orderly.{is_began_of}
use Rattle.undoing.specs.Begun.{has_began, kind_at, lasts, Taken, numbers, taken_by, steps_taken}
use Rattle.undoing.specs.Entirely.{of_all, times, is_once, is_rash, BegunOnce}
use Rattle.undoing.proofs.Parts.{decide, every_append}
use Rattle.undoing.proofs.Accounts.{phase}
use Rattle.undoing.proofs.Choices.{root-chosen}
use Rattle.undoing.proofs.Marks.{quiet-part, Nth, nth_here, nth-later, Run, turned-waits, turned-undoes, turned-heals}
use Rattle.undoing.proofs.Orders.{onto}
use Rattle.undoing.proofs.Places.{first-of, second-of}
use Rattle.undoing.proofs.Planning.{Promised, promised}
use Rattle.undoing.proofs.Waiting.{quiet-waits}
use Rattle.undoing.proofs.Scoping.{scope_live, scope-done, scope-turned, Running}
use Rattle.undoing.proofs.Stepping.{awake-first, steps, steps-stopped, steps-undoing}
use Rattle.undoing.proofs.Roots.{Awaited, in-body, in-fault, Standing, choice-none}
use Rattle.undoing.proofs.Slots.{standing-live, Alike, taking-alike, alike-awaited, alike-stands, order-starts}
use Rattle.undoing.proofs.Happening.{order_in, with_message, Happens, nothing-here, goes-here, starts-here, step-happens}
use Rattle.undoing.proofs.Demanded.{step_after}
use Rattle.undoing.proofs.Truly.{Knows}
use Rattle.undoing.proofs.Lasting.{KnowsEach}
use Rattle.undoing.proofs.BegunTold.{body-knows, fault-knows, start-began}
use Rattle.undoing.proofs.Entire.{times-append, times-event}
use Rattle.undoing.proofs.Single.{Once, once-light, light-none, Onto, begin-onto}
use Rattle.undoing.proofs.OnceTold.{none-times, fault-once}
use Rattle.undoing.proofs.OnceSteps.{live-body, waits-body, undoing-body, once-run, once-stopped, once-undoing, once-part}
use Rattle.undoing.proofs.Bodies.{begin-bodies}
use Rattle.undoing.proofs.Afresh.{Fresh, New, new-idle, new-again}
use Rattle.undoing.proofs.AfreshSteps.{Again}
use Rattle.undoing.proofs.AfreshTold.{order-fresh}
use Rattle.undoing.proofs.EachTime.{time, OfTimes, OfStarts, each-time}
use Rattle.undoing.proofs.EntirelyTold.{each_below}

-- the one fault part of the root runs
first_run : {ms : List ℕ} {i : ℕ} {a : Act} {c : ℕ} → Nth ms i (more a none) c → i ≡ 0 → Run ms a c
first_run (nth_here r q) e = r
first_run (nth-later q r) e = absurd (omega arith)

module _ (p : Plan) (h : Promised p) where
  kb : Knows (kind_at p) p.body 0
  kb = body-knows p h

  kf : KnowsEach (kind_at p) (root_of p)
  kf = root-chosen (λ a j. Knows (kind_at p) a j) p (fault-knows p h)

  root-once : (actor : Actor) (t : ℕ) (o : Order) → Awaited p o.marks t → Standing p o → Once (kind_at p) (step_root actor p t o).log
  unfolding step_root size chosen_part chosen_at
  root-once actor t o (in-body e w) st =
      subst (λ (r : Outcome). Once (kind_at p) r.log)
      (sym (first-of (ltb t (size p.body)) (from_body (root_of p) (step_in actor p.body 0 0 t o)) (from_fault (root_of p) (step_in actor p.fault (size p.body) (size p.body) t o)) (step_root actor p t o) refl (lt-ltb t (size p.body) e))) (go st.runs)
    where
      m : size p.body + size p.fault ≤ length o.marks
      m = st.many

      go : Running (root_of p) o.marks o.root → Once (kind_at p) (from_body (root_of p) (step_in actor p.body 0 0 t o)).log
      go (scope_live d r q) =
          live-body p actor (kind_at p) (root_of p) h.seat kb kf t o (omega arith) (omega arith) (once-run p actor (kind_at p) h.seat.body kb 0 t o false w refl r (ap phase d) (omega arith)) d
          (steps p actor h.seat.body 0 t o false h.seat.at w refl r (ap phase d) (omega arith))
      go (scope-done d q z) = absurd (st.going d)
      go (scope-turned (turned-waits q z _ v)) =
          waits-body p actor (kind_at p) (root_of p) h.seat kb kf t o (omega arith) (omega arith) (once-stopped p actor (kind_at p) h.seat.body kb 0 t o false w refl z (omega arith))
          (steps-stopped p actor h.seat.body 0 t o false h.seat.at w refl z (omega arith))
      go (scope-turned (turned-undoes {w = a} q z v)) =
          undoing-body p actor (kind_at p) (root_of p) h.seat kb kf t o (omega arith) (omega arith) (once-undoing p actor (kind_at p) h.seat.body kb 0 t o false w refl z root (awake-first p actor (λ n. mark_of n o) root h.seat.beyond a q) (a, ap (λ (n : Name). phase (mark_of n o)) (awake-first p actor (λ n. mark_of n o) root h.seat.beyond a q) ∙ q) (omega arith)) a q
          (steps-undoing p actor h.seat.body 0 t o false h.seat.at w refl z root (awake-first p actor (λ n. mark_of n o) root h.seat.beyond a q) (a, ap (λ (n : Name). phase (mark_of n o)) (awake-first p actor (λ n. mark_of n o) root h.seat.beyond a q) ∙ q) (omega arith))
      go (scope-turned (turned-heals q z v)) = absurd (quiet-waits w refl z)
  root-once actor t o (in-fault e w) st =
      subst (λ (r : Outcome). Once (kind_at p) r.log)
      (sym (second-of (ltb t (size p.body)) (from_body (root_of p) (step_in actor p.body 0 0 t o)) (from_fault (root_of p) (step_in actor p.fault (size p.body) (size p.body) t o)) (step_root actor p t o) refl (le-ltb t (size p.body) e))) (go st.runs)
    where
      m : size p.body + size p.fault ≤ length o.marks
      m = st.many

      go : Running (root_of p) o.marks o.root → Once (kind_at p) (from_fault (root_of p) (step_in actor p.fault (size p.body) (size p.body) t o)).log
      go (scope_live d r q) = absurd (quiet-waits w refl (quiet-part q (omega arith) (omega arith)))
      go (scope-done d q z) = absurd (st.going d)
      go (scope-turned (turned-waits q z _ v)) = absurd (quiet-waits w refl (quiet-part v (omega arith) (omega arith)))
      go (scope-turned (turned-undoes q z v)) = absurd (quiet-waits w refl (quiet-part v (omega arith) (omega arith)))
      go (scope-turned (turned-heals q z v)) =
          fault-once (kind_at p) (root_of p) kb kf (step_in actor p.fault (size p.body) (size p.body) t o) (once-part p actor (kind_at p) (h.seat.fault 0) (fault-knows p h) (size p.body) t o false w refl (first_run v (choice-none o.root)) q (omega arith))

  order-once : (actor : Actor) (t : ℕ) (o : Order) → Awaited p o.marks t → Standing p o → Once (kind_at p) (acted actor p t o).log
  unfolding acted moved_to times is_began_of
  order-once actor t o a st = go (end_of (step_root actor p t o))
    where
      w : Once (kind_at p) (step_root actor p t o).log
      w = root-once actor t o a st

      go : (e : End) → Once (kind_at p) (moved_to (step_root actor p t o) e).log
      go None = w
      go Well = once-light (kind_at p) (step_root actor p t o).log w (light-none (kind_at p) (ended root ∷ []) (λ j. refl))
      go Handled = w
      go Failed = w
      go Left = w

  start-times : (k : ℕ) → times k (started ∷ (begun_order p).log) ≤ 1
  unfolding begun_order is_began_of
  start-times k = let e = times-event k started (begun_order p).log refl in let w = (begin-onto (kind_at p) kb no_order.marks).once k in omega arith

  is-once : (x : Taken) (k : ℕ) → (lasts (kind_at p k) ≡ true → times k x.log ≤ 1) → is_once p x k ≡ true
  unfolding is_once
  is-once x k g = decide (lasts (kind_at p k)) (λ l. rw (l, le-leb (times k x.log) 1 (g l))) (λ l. rw l)

  -- what an order that starts begins with does not begin again in its first step
  start-once : (t : ℕ) (m : Message) → Awaited p (started_order p).marks t → Standing p (started_order p) → (k : ℕ) → lasts (kind_at p k) ≡ true → has_began k (begun_order p).log ≡ true
      → has_began k (acted its_own p t (with_message p t m (started_order p))).log ≡ true → ⊥
  unfolding started_order begun_order some is_began_of
  start-once t m x st k l b d = so ((subst (λ (ms : List ℕ). Fresh p (kind_at p) (Again p t ms (some is_rash (acted its_own p t (with_message p t m (started_order p))).log)) ms (acted its_own p t (with_message p t m (started_order p))).log) like.marks (order-fresh p h its_own t (with_message p t m (started_order p)) (alike-awaited like t x) (alike-stands p (started_order p) (with_message p t m (started_order p)) like st))).at k d)
    where
      like : Alike p (started_order p) (with_message p t m (started_order p))
      like = taking-alike p (doing_at p t) m (started_order p)

      so : New p (kind_at p) (Again p t (started_order p).marks (some is_rash (acted its_own p t (with_message p t m (started_order p))).log)) (started_order p).marks k → ⊥
      so (new-idle e) = false≢true (sym ((start-began p h).truly k l b) ∙ ap (λ (v : ℕ). eqb v idle) e)
      so (new-again e) = false≢true (sym ((begin-bodies p h.seat.body refl no_order.marks).at k b) ∙ e.place)

  after-start : (k : ℕ) (l : List Event) → has_began k (started ∷ l) ≡ true → has_began k l ≡ true
  unfolding some is_began_of
  after-start k l e = e

  once-both : (k : ℕ) (l m : List Event) → times k l ≤ 1 → times k m ≤ 1 → (has_began k l ≡ true → has_began k m ≡ true → ⊥) → times k (l ++ m) ≤ 1
  once-both k l m a b g =
      let e = times-append k l m in
      decide (has_began k l)
      (λ x. decide (has_began k m) (λ y. absurd (g x y)) (λ y. let z = none-times k m y in omega arith))
      (λ x. let z = none-times k l x in omega arith)

  once-time : OfTimes p (of_all is_once p)
  once-time actor t o o' past like a st g =
      let x = time t o [] (acted actor p t o') in
      each_below (is_once p x) (size p.body + size p.fault) (λ k n. is-once x k (λ j.
      ((order-once actor t o' (alike-awaited like t a) (alike-stands p o o' like st)).at k j)))

  once-start : OfStarts p (of_all is_once p)
  once-start t m o past z n a =
      let o' = with_message p t m (started_order p) in
      let l = started ∷ (begun_order p).log in
      let x = time t o l (acted its_own p t o') in
      let like = taking-alike p (doing_at p t) m (started_order p) in
      let st = (order-starts p h t past n a).1 in
      each_below (is_once p x) (size p.body + size p.fault) (λ k i. is-once x k (λ j.
      once-both k l (acted its_own p t o').log (start-times k) ((order-once its_own t o' (alike-awaited like t a) (alike-stands p (started_order p) o' like st)).at k j)
      (λ b d. start-once t m a st k j (after-start k (begun_order p).log b) d)))

-- What lasts begins once.
pub begun-once : BegunOnce
unfolding BegunOnce
begun-once = each-time (of_all is_once) once-time once-start
