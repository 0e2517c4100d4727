-- What a step of an order does to its variables and to the mark of its root: only a set binds, and an order that has not ended stays live. Assumes nothing.
use mathlib.Core.Path.{◌≡◌, refl, sym, ◌∙◌, subst}
use mathlib.Core.Bool.{Bool, true, false, cond, ◌&&◌, ◌||◌, false≢true}
use mathlib.Core.List.{List, [], ◌∷◌, ◌++◌}
use Prim.Native.Nat.{ℕ, zero, suc, ◌+◌, ◌<◌}
use native.Mathlib.Omega.{arith}
use borrow.Author.Tests.{lt-ltb}
use lib.Dec.{eqb, ltb}
use Rattle.plan.specs.Tree.{Exp, constant, variable, binary, held_by, Own, empty, send, receive, set as setting, raise, leave, choose, repeat, sequence, flow, pick, scope, arm, kind, is_scope, numbers_of, undo_part, is_pick, Act, act, Acts, none, more, Plan, size, sizes}
use Rattle.order.specs.declared.Closing.{Closing}
use Rattle.order.specs.declared.Order.{Order}
use Rattle.order.specs.declared.Way.{Way}
use Rattle.order.specs.declared.Way.TheVariants.{Running as running, Over as over, Raising as raising, Leaving as leaving, Undone as undone, UndoRaising as undo_raising}
use Rattle.order.specs.declared.End.{End}
use Rattle.order.specs.declared.End.TheVariants.{None, Well, Handled, Failed, Left}
use Rattle.order.specs.Event.{Event, faulted}
use Rattle.order.specs.Expression.{unbound_variable, no_such_partner, conflicting_receive, Value, fault, value, evaluate, is_true}
use Rattle.order.specs.State.{idle, active, inside, done, faulty, undoing, handling, halted, withdrawing, Name, root, inner, with_marks, binding, closings, remembering, mark_at, marked, mark_of, marking, state_of, choice_of, going, mark_with, causing, no_order}
use Rattle.order.specs.Begin.{Begun, begin, begin_after, begin_part, part_at, cleared, quiet}
use Rattle.order.specs.Scope.{Outcome, Scope, Stopped, runs, after, begun_in, scope_at, choice_for, chosen_part, chosen_at, root_of, remembered_for, forgetting, adds, closing, inner_runs, where_over, start_undo, undo, ends, handle, undoes, turns, is_open, untouched, withdraws, stop, stop_all, stop_first, faults, breaks, looks_again, body_over, body_raised, undo_over, undo_raised, from_body, part_over, part_raised, from_fault, goes_through, from_undo}
use Rattle.order.specs.Acting.{finishes, raises, or_raises, enters, again, repeats, all_bound, reaches, itself, is_part, arms, goes_on, joins, in_scope, combines, step_in, step_among, step_root, end_of, Moved, moved_to, Actor, its_own, in_place, replaces, performs, acted}
use Rattle.order.specs.Awaited.{Doing, no_step, sends, takes, moves, cuts, closes, doing_of, Ready, ready_of}
use Rattle.order.specs.Judging.{is_second, Verdict, clear, clash, clash_after, conflict, following, upon, judged, spare, settled, step_order}
use Rattle.machine.specs.Calls.{doing_at}
use Rattle.order.specs.Taking.{act_in, act_among, act_at}
use Rattle.order.proofs.Chosen.{with-live}
use Rattle.laws.specs.Known.{own_of, set_to, Leaves}
use Rattle.laws.proofs.Offering.{Each, each_none, each_more, Does, plan-ready}
use Rattle.laws.proofs.Doing.{act_doing, plan-doing}

abbrev is_root : Name → Bool
is_root root = true
is_root (inner k) = false

-- A result after which an order goes on, as far as the root has a say.
unfoldable lasts : Way → Bool
lasts running = true
lasts over = false
lasts (raising n) = false
lasts leaving = false
lasts undone = true
lasts (undo_raising n) = true

-- The root's mark: where the root is what changes (b), it is live; else it is what it was (z).
unfoldable RootIs : Bool → (was mark : ℕ) → Type 0
RootIs true z m = eqb m idle ≡ false
RootIs false z m = m ≡ z

-- the same with a result: where the root is what changes, it need not be live after the order's end
unfoldable RootOut : Bool → (was : ℕ) → Way → (mark : ℕ) → Type 0
RootOut true z w m = lasts w ≡ true → eqb m idle ≡ false
RootOut false z w m = m ≡ z

-- or before the fault part begins
unfoldable RootLoose : Bool → (was mark : ℕ) → Type 0
RootLoose true z m = Unit
RootLoose false z m = m ≡ z

-- These are its variables, and that its root's mark.
record As (xs bs : List ℕ) (b : Bool) (z : ℕ) (q : Order) : Type 0 where
  values : q.values ≡ xs
  bound : q.bound ≡ bs
  root : RootIs b z q.root

record Loose (xs bs : List ℕ) (b : Bool) (z : ℕ) (q : Order) : Type 0 where
  values : q.values ≡ xs
  bound : q.bound ≡ bs
  root : RootLoose b z q.root

record Out (xs bs : List ℕ) (b : Bool) (z : ℕ) (r : Outcome) : Type 0 where
  values : r.order.values ≡ xs
  bound : r.order.bound ≡ bs
  root : RootOut b z r.result r.order.root

abbrev AsOutcome : (xs bs : List ℕ) → Bool → ℕ → Outcome → Type 0
AsOutcome xs bs b z r = As xs bs b z r.order

abbrev AsStopped : (xs bs : List ℕ) → ℕ → Stopped → Type 0
AsStopped xs bs z r = As xs bs false z r.order

module _ {xs bs : List ℕ} {b : Bool} {z : ℕ} where
  loosely : {q : Order} → As xs bs b z q → Loose xs bs b z q
  unfolding RootIs RootLoose
  loosely {q} f = record { values = f.values; bound = f.bound; root = go b f.root }
    where
      go : (c : Bool) → RootIs c z q.root → RootLoose c z q.root
      go true h = tt
      go false h = h

  out : (r : Outcome) → As xs bs b z r.order → Out xs bs b z r
  unfolding RootIs RootOut
  out r f = record { values = f.values; bound = f.bound; root = go b f.root }
    where
      go : (c : Bool) → RootIs c z r.order.root → RootOut c z r.result r.order.root
      go true h = λ e. h
      go false h = h

  over-out : (r : Outcome) → lasts r.result ≡ false → Loose xs bs b z r.order → Out xs bs b z r
  unfolding RootLoose RootOut
  over-out r e f = record { values = f.values; bound = f.bound; root = go b f.root }
    where
      go : (c : Bool) → RootLoose c z r.order.root → RootOut c z r.result r.order.root
      go true h = λ d. absurd (false≢true (sym e ∙ d))
      go false h = h

  as-marks : {q : Order} (ms : List ℕ) → As xs bs b z q → As xs bs b z (with_marks ms q)
  as-marks ms f = record { values = f.values; bound = f.bound; root = f.root }

  as-remembering : {q : Order} (l : List Closing) → As xs bs b z q → As xs bs b z (remembering l q)
  as-remembering l f = record { values = f.values; bound = f.bound; root = f.root }

  loose-marks : {q : Order} (ms : List ℕ) → Loose xs bs b z q → Loose xs bs b z (with_marks ms q)
  loose-marks ms f = record { values = f.values; bound = f.bound; root = f.root }

  loose-forgetting : {q : Order} (s : Scope) → Loose xs bs b z q → Loose xs bs b z (forgetting s q)
  unfolding forgetting
  loose-forgetting s f = record { values = f.values; bound = f.bound; root = f.root }

  -- goes on where this much is over
  as-over : (r : Outcome) (g : Order → Outcome) → As xs bs b z r.order → ((q : Order) → As xs bs b z q → Out xs bs b z (g q)) → Out xs bs b z (where_over g r)
  as-over r g f h = go r.result (out r f) (h r.order f)
    where
      go : (w : Way) → Out xs bs b z r → Out xs bs b z (g r.order) → Out xs bs b z (elim w [
        | running ↦ r
        | over ↦ after r.log (g r.order)
        | raising n ↦ r
        | leaving ↦ r
        | undone ↦ r
        | undo_raising n ↦ r
      ])
      go running x y = x
      go over x y = record { values = y.values; bound = y.bound; root = y.root }
      go (raising n) x y = x
      go leaving x y = x
      go undone x y = x
      go (undo_raising n) x y = x

  as-where : (r : Outcome) (g : Order → Outcome) → As xs bs b z r.order → ((q : Order) → As xs bs b z q → As xs bs b z (g q).order) → As xs bs b z (where_over g r).order
  as-where r g f h = go r.result
    where
      go : (w : Way) → AsOutcome xs bs b z (elim w [
        | running ↦ r
        | over ↦ after r.log (g r.order)
        | raising n ↦ r
        | leaving ↦ r
        | undone ↦ r
        | undo_raising n ↦ r
      ])
      go running = f
      go over = h r.order f
      go (raising n) = f
      go leaving = f
      go undone = f
      go (undo_raising n) = f

  -- of two outcomes one
  as-pick : (t : Bool) (x y : Outcome) → As xs bs b z x.order → As xs bs b z y.order → AsOutcome xs bs b z (elim t [ true ↦ x | false ↦ y ])
  as-pick true x y f g = f
  as-pick false x y f g = g

  out-pick : (t : Bool) (x y : Outcome) → (t ≡ true → Out xs bs b z x) → (t ≡ false → Out xs bs b z y) → Out xs bs b z (elim t [ true ↦ x | false ↦ y ])
  out-pick true x y f g = f refl
  out-pick false x y f g = g refl

  out-after : (l : List Event) (r : Outcome) → Out xs bs b z r → Out xs bs b z (after l r)
  out-after l r f = record { values = f.values; bound = f.bound; root = f.root }

  -- an undo part begins, and the next
  as-start-undo : {q : Order} (e : ℕ) (s : Scope) → As xs bs b z q → As xs bs b z (start_undo e s q).order
  unfolding start_undo
  as-start-undo e s f = record { values = f.values; bound = f.bound; root = f.root }

inside-as : {xs bs : List ℕ} {z : ℕ} {r : Outcome} → Out xs bs false z r → As xs bs false z r.order
unfolding RootIs RootOut
inside-as f = record { values = f.values; bound = f.bound; root = f.root }

module _ {xs bs : List ℕ} {z : ℕ} where
  -- the mark of a scope
  marking-as : {q : Order} (n : Name) (m : ℕ) → eqb m idle ≡ false → Loose xs bs (is_root n) z q → As xs bs (is_root n) z (marking n m q)
  unfolding RootIs RootLoose
  marking-as root m h f = record { values = f.values; bound = f.bound; root = h }
  marking-as (inner k) m h f = record { values = f.values; bound = f.bound; root = f.root }

  going-as : {q : Order} (n : Name) (m : ℕ) → 0 < m → Loose xs bs (is_root n) z q → As xs bs (is_root n) z (going n m q)
  going-as {q} n m h f = marking-as n (mark_with (choice_of n q) m) (with-live (choice_of n q) m h) f

  -- the number of its fault
  causing-as : {b : Bool} {q : Order} (n : Name) (x : ℕ) → As xs bs b z q → As xs bs b z (causing n x q)
  causing-as root x f = record { values = f.values; bound = f.bound; root = f.root }
  causing-as (inner k) x f = f

  marking-loose : {q : Order} (n : Name) (m : ℕ) → Loose xs bs (is_root n) z q → Loose xs bs (is_root n) z (marking n m q)
  unfolding RootLoose
  marking-loose root m f = record { values = f.values; bound = f.bound; root = tt }
  marking-loose (inner k) m f = record { values = f.values; bound = f.bound; root = f.root }

as-undo : {xs bs : List ℕ} {b : Bool} {z : ℕ} (l : List ℕ) (s : Scope) (q : Order) → As xs bs b z q → As xs bs b z (undo l s q).order
unfolding undo
as-undo [] s q f = f
as-undo (e ∷ l) s q f = as-where (start_undo e s q) (undo l s) (as-start-undo e s f) (λ o g. as-undo l s o g)

module _ {xs bs : List ℕ} {z : ℕ} (s : Scope) where
  out-ends : (q : Order) → Loose xs bs (is_root s.name) z q → Out xs bs (is_root s.name) z (ends s q)
  unfolding lasts
  out-ends q f = over-out (ends s q) refl (marking-loose s.name idle f)

  out-handle : (q : Order) → Loose xs bs (is_root s.name) z q → Out xs bs (is_root s.name) z (handle s q)
  unfolding handle
  out-handle q f =
      let o = going s.name handling q in
      let b = begin (chosen_part (choice_of s.name q) s) (chosen_at (choice_of s.name q) s) o.marks in
      as-over (begun_in o b) (ends s) (as-marks b.marks (going-as s.name handling (omega arith) f))
      (λ q g. out-ends q (loosely g))

  out-undoes : (w : Bool) (q : Order) → Loose xs bs (is_root s.name) z q → Out xs bs (is_root s.name) z (undoes w s q)
  unfolding undoes
  out-undoes true q f =
      let o = going s.name undoing q in
      as-over (undo (remembered_for s o) s o) (handle s) (as-undo (remembered_for s o) s o (going-as s.name undoing (omega arith) f)) (λ q g. out-handle q (loosely g))
  out-undoes false q f =
      let o = marking s.name withdrawing q in
      as-over (undo (remembered_for s o) s o) (ends s) (as-undo (remembered_for s o) s o (marking-as s.name withdrawing refl f)) (λ q g. out-ends q (loosely g))

  out-turns : (w : Bool) (q : Order) → As xs bs (is_root s.name) z q → Out xs bs (is_root s.name) z (turns w s q)
  unfolding turns
  out-turns w q f = out-pick (inner_runs s.body s.body_at q.marks) (runs q) (undoes w s q) (λ e. out (runs q) f) (λ e. out-undoes w q (loosely f))

-- a body stops: the root's mark stays
mutual
  unfolding stop withdraws size

  as-stop : {xs bs : List ℕ} {z : ℕ} (a : Act) (k : ℕ) (q : Order) → As xs bs false z q → As xs bs false z (stop a k q).order
  as-stop {xs} {bs} {z} (act own l) k q f =
      go (is_scope own) (is_open (mark_at k q))
      (inside-as (out-turns (scope_at (numbers_of own) k l) false (stop_first l (k + 1) (marked k halted q)).order (as-stop-first l (k + 1) (marked k halted q) (as-marks _ f))))
      (as-stop-all l (k + 1) (marked k idle q) (as-marks _ f))
    where
      go : (x y : Bool) → As xs bs false z (withdraws k (scope_at (numbers_of own) k l) (stop_first l (k + 1) (marked k halted q))).order → As xs bs false z (stop_all l (k + 1) (marked k idle q)).order
          → AsStopped xs bs z (elim x [
            | true ↦ elim y [
              | true ↦ withdraws k (scope_at (numbers_of own) k l) (stop_first l (k + 1) (marked k halted q))
              | false ↦ untouched q
            ]
            | false ↦ stop_all l (k + 1) (marked k idle q)
          ])
      go true true g h = g
      go true false g h = f
      go false y g h = h

  as-stop-all : {xs bs : List ℕ} {z : ℕ} (l : Acts) (c : ℕ) (q : Order) → As xs bs false z q → As xs bs false z (stop_all l c q).order
  as-stop-all none c q f = f
  as-stop-all (more a l) c q f = as-stop-all l (c + size a) (stop a c q).order (as-stop a c q f)

  as-stop-first : {xs bs : List ℕ} {z : ℕ} (l : Acts) (c : ℕ) (q : Order) → As xs bs false z q → As xs bs false z (stop_first l c q).order
  as-stop-first none c q f = f
  as-stop-first (more a l) c q f = as-stop a c q f

-- what leaves the root's mark as it is leaves it live
as-in : {xs bs : List ℕ} {b : Bool} {z : ℕ} {q : Order} → As xs bs b z q → As xs bs false q.root q
unfolding RootIs
as-in f = record { values = f.values; bound = f.bound; root = refl }

as-out : {xs bs ys cs : List ℕ} {b : Bool} {z : ℕ} {q r : Order} → As xs bs b z q → As ys cs false q.root r → As ys cs b z r
unfolding RootIs
as-out {b = b} {z = z} {q = q} {r = r} f g = record { values = g.values; bound = g.bound; root = go b f.root g.root }
  where
    go : (c : Bool) → RootIs c z q.root → r.root ≡ q.root → RootIs c z r.root
    go true x e = rw e x
    go false x e = e ∙ x

module _ {xs bs : List ℕ} {z : ℕ} (s : Scope) where
  out-faults : (n : ℕ) (q : Order) → Loose xs bs (is_root s.name) z q → Out xs bs (is_root s.name) z (faults n s q)
  unfolding faults
  out-faults n q f =
      let m = mark_with (choice_for n s) faulty in
      let o = causing s.name n (marking s.name m q) in
      let g : As xs bs (is_root s.name) z o = causing-as s.name n (marking-as s.name m (with-live (choice_for n s) faulty (omega arith)) f) in
      let r = stop s.body s.body_at o in
      out-after (faulted s.name n ∷ r.log) (turns true s r.order) (out-turns s true r.order (as-out g (as-stop s.body s.body_at o (as-in g))))

  out-breaks : (n : ℕ) (q : Order) → Loose xs bs (is_root s.name) z q → Out xs bs (is_root s.name) z (breaks n s q)
  unfolding breaks lasts
  out-breaks n q f = over-out (breaks n s q) refl (loose-marks _ (loose-forgetting s (marking-loose s.name idle f)))

  out-looks : (q : Order) → As xs bs (is_root s.name) z q → Out xs bs (is_root s.name) z (looks_again s q)
  unfolding looks_again
  out-looks q f =
      out-pick (eqb (state_of s.name q) faulty) (turns true s q) (elim (eqb (mark_of s.name q) halted) [ true ↦ turns false s q | false ↦ runs q ]) (λ e. out-turns s true q f)
      (λ e. out-pick (eqb (mark_of s.name q) halted) (turns false s q) (runs q) (λ d. out-turns s false q f) (λ d. out (runs q) f))

  out-body-over : (q : Order) → As xs bs (is_root s.name) z q → Out xs bs (is_root s.name) z (body_over s q)
  unfolding body_over
  out-body-over q f =
      out-pick (eqb (mark_of s.name q) active) (runs (marking s.name done q)) (looks_again s q)
      (λ e. out (runs (marking s.name done q)) (marking-as s.name done refl (loosely f))) (λ e. out-looks q f)

  out-body-raised : (n : ℕ) (q : Order) → As xs bs (is_root s.name) z q → Out xs bs (is_root s.name) z (body_raised n s q)
  unfolding body_raised
  out-body-raised n q f = out-pick (is_open (mark_of s.name q)) (faults n s q) (looks_again s q) (λ e. out-faults n q (loosely f)) (λ e. out-looks q f)

  out-undo-over : (q : Order) → As xs bs (is_root s.name) z q → Out xs bs (is_root s.name) z (undo_over s q)
  unfolding undo_over
  out-undo-over q f =
      out-pick (eqb (state_of s.name q) undoing) (undoes true s q) (elim (eqb (mark_of s.name q) withdrawing) [ true ↦ undoes false s q | false ↦ runs q ]) (λ e. out-undoes s true q (loosely f))
      (λ e. out-pick (eqb (mark_of s.name q) withdrawing) (undoes false s q) (runs q) (λ d. out-undoes s false q (loosely f)) (λ d. out (runs q) f))

  out-undo-raised : (n : ℕ) (q : Order) → As xs bs (is_root s.name) z q → Out xs bs (is_root s.name) z (undo_raised n s q)
  unfolding undo_raised
  out-undo-raised n q f =
      out-pick (eqb (state_of s.name q) undoing || eqb (mark_of s.name q) withdrawing) (breaks n s q) (runs q) (λ e. out-breaks n q (loosely f)) (λ e. out (runs q) f)

  out-part-over : (q : Order) → As xs bs (is_root s.name) z q → Out xs bs (is_root s.name) z (part_over s q)
  unfolding part_over
  out-part-over q f = out-pick (eqb (state_of s.name q) handling) (ends s q) (runs q) (λ e. out-ends s q (loosely f)) (λ e. out (runs q) f)

  out-part-raised : (n : ℕ) (q : Order) → As xs bs (is_root s.name) z q → Out xs bs (is_root s.name) z (part_raised n s q)
  unfolding part_raised
  out-part-raised n q f = out-pick (eqb (state_of s.name q) handling) (breaks n s q) (runs q) (λ e. out-breaks n q (loosely f)) (λ e. out (runs q) f)

  out-from-body : (r : Outcome) → As xs bs (is_root s.name) z r.order → Out xs bs (is_root s.name) z (from_body s r)
  unfolding from_body
  out-from-body r f = go r.result
    where
      go : (w : Way) → Out xs bs (is_root s.name) z (elim w [
        | running ↦ after r.log (looks_again s r.order)
        | over ↦ after r.log (body_over s r.order)
        | raising n ↦ after r.log (body_raised n s r.order)
        | leaving ↦ r
        | undone ↦ after r.log (undo_over s r.order)
        | undo_raising n ↦ after r.log (undo_raised n s r.order)
      ])
      go running = out-after r.log _ (out-looks r.order f)
      go over = out-after r.log _ (out-body-over r.order f)
      go (raising n) = out-after r.log _ (out-body-raised n r.order f)
      go leaving = out r f
      go undone = out-after r.log _ (out-undo-over r.order f)
      go (undo_raising n) = out-after r.log _ (out-undo-raised n r.order f)

  out-from-fault : (r : Outcome) → As xs bs (is_root s.name) z r.order → Out xs bs (is_root s.name) z (from_fault s r)
  unfolding from_fault
  out-from-fault r f = go r.result
    where
      go : (w : Way) → Out xs bs (is_root s.name) z (elim w [
        | running ↦ r
        | over ↦ after r.log (part_over s r.order)
        | raising n ↦ after r.log (part_raised n s r.order)
        | leaving ↦ r
        | undone ↦ record { result = running; order = r.order; log = r.log }
        | undo_raising n ↦ record { result = running; order = r.order; log = r.log }
      ])
      go running = out r f
      go over = out-after r.log _ (out-part-over r.order f)
      go (raising n) = out-after r.log _ (out-part-raised n r.order f)
      go leaving = out r f
      go undone = out (record { result = running; order = r.order; log = r.log }) f
      go (undo_raising n) = out (record { result = running; order = r.order; log = r.log }) f

-- What a set does: the order with its variable bound, where its expression comes to a value.
unfoldable pub set_by : Own → Order → Order
set_by empty o = o
set_by (send p q vs) o = o
set_by (receive p q vs) o = o
set_by (setting v e) o = set_to v (evaluate e o) o
set_by (raise number) o = o
set_by leave o = o
set_by (choose e) o = o
set_by (repeat e) o = o
set_by sequence o = o
set_by flow o = o
set_by pick o = o
set_by (scope ns u) o = o
set_by (arm p q vs) o = o

-- an order with the variables and the root of another
abbrev Alike : (o q : Order) → Type 0
Alike o q = As o.values o.bound false o.root q

alike : (o : Order) → Alike o o
unfolding RootIs
alike o = record { values = refl; bound = refl; root = refl }

-- an expression asks for the variables alone
evaluate-alike : (e : Exp) (o q : Order) → Alike o q → evaluate e q ≡ evaluate e o
unfolding evaluate
evaluate-alike (constant n) o q f = refl
evaluate-alike (variable v) o q f = rw (f.values, f.bound)
evaluate-alike (binary op l r) o q f = rw (evaluate-alike l o q f, evaluate-alike r o q f)

set-alike : (own : Own) (o q : Order) → Alike o q → Alike (set_by own o) (set_by own q)
unfolding set_by RootIs
set-alike empty o q f = f
set-alike (send a b vs) o q f = f
set-alike (receive a b vs) o q f = f
set-alike (setting v e) o q f = rw (evaluate-alike e o q f) (go (evaluate e o))
  where
    go : (x : Value) → Alike (set_to v x o) (set_to v x q)
    go (fault n) = f
    go (value n) = record { values = rw f.values; bound = rw f.bound; root = f.root }
set-alike (raise number) o q f = f
set-alike leave o q f = f
set-alike (choose e) o q f = f
set-alike (repeat e) o q f = f
set-alike sequence o q f = f
set-alike flow o q f = f
set-alike pick o q f = f
set-alike (scope ns u) o q f = f
set-alike (arm a b vs) o q f = f

-- the step that an activity has by itself
alike-or : (o : Order) (k : ℕ) (g : ℕ → Outcome) (v : Value) → ((n : ℕ) → Alike o (g n).order) → Alike o (or_raises k o g v).order
alike-or o k g (fault n) h = as-marks _ (alike o)
alike-or o k g (value n) h = h n

alike-enters : (o : Order) (k : ℕ) (b : Begun) → Alike o (enters k o b).order
alike-enters o k b = as-where (begun_in (marked k inside o) b) (finishes k) (as-marks b.marks (alike o)) (λ q g. as-marks _ g)

alike-repeats : (o : Order) (k : ℕ) (l : Acts) → Alike o (repeats k l o).order
unfolding repeats
alike-repeats o k l =
    let q = marked k inside (with_marks (cleared (k + 1) (sizes l) o.marks) o) in
    as-where (begun_in q (begin_part 0 l (k + 1) q.marks)) (again k) (as-marks (begin_part 0 l (k + 1) q.marks).marks (alike o)) (λ q g. as-marks _ g)

alike-cond : (o : Order) (t : Bool) (x y : Outcome) → Alike o x.order → Alike o y.order → Alike o (cond t x y).order
alike-cond o true x y f g = f
alike-cond o false x y f g = g

alike-itself : (own : Own) (l : Acts) (c k : ℕ) (o : Order) → Alike (set_by own o) (itself own l c k o).order
unfolding itself set_by closing forgetting
alike-itself empty l c k o = alike o
alike-itself (send to q vs) l c k o =
    alike-cond o (all_bound o (held_by to ++ vs)) (cond (reaches o to) (finishes k o) (raises no_such_partner k o)) (raises unbound_variable k o)
    (alike-cond o (reaches o to) (finishes k o) (raises no_such_partner k o) (as-marks _ (alike o)) (as-marks _ (alike o))) (as-marks _ (alike o))
alike-itself (receive p q vs) l c k o = as-marks _ (alike o)
alike-itself (setting v e) l c k o = go (evaluate e o)
  where
    go : (x : Value) → Alike (set_to v x o) (or_raises k o (λ n. finishes k (binding v n o)) x).order
    go (fault n) = as-marks _ (alike o)
    go (value n) = as-marks _ (alike (binding v n o))
alike-itself (raise zero) l c k o = as-marks _ (alike o)
alike-itself (raise (suc number)) l c k o = as-marks _ (alike o)
alike-itself leave l c k o = as-marks _ (alike o)
alike-itself (choose e) l c k o =
    alike-or o k (λ n. enters k o (begin_part (cond (is_true n) 0 1) l (k + 1) (marked k inside o).marks)) (evaluate e o)
    (λ n. alike-enters o k (begin_part (cond (is_true n) 0 1) l (k + 1) (marked k inside o).marks))
alike-itself (repeat e) l c k o =
    alike-or o k (λ n. elim (is_true n) [ true ↦ repeats k l o | false ↦ finishes k o ]) (evaluate e o)
    (λ n. as-pick (is_true n) (repeats k l o) (finishes k o) (alike-repeats o k l) (as-marks _ (alike o)))
alike-itself sequence l c k o = alike o
alike-itself flow l c k o = alike o
alike-itself pick l c k o = alike o
alike-itself (scope ns u) l c k o = as-marks _ (as-remembering (closings (forgetting (scope_at ns k l) o) ++ adds u c k (scope_at ns k l) o) (alike o))
alike-itself (arm p q vs) l c k o = as-marks _ (alike o)

-- what stands around it
module _ {xs bs : List ℕ} {z : ℕ} where
  as-goes : (k m : ℕ) (g : Order → Outcome) (r : Outcome) → As xs bs false z r.order → ((q : Order) → As xs bs false z q → As xs bs false z (g q).order)
      → As xs bs false z (goes_on k m g r).order
  unfolding goes_on
  as-goes k m g r f h = as-where r (λ o. elim (eqb (mark_at k o) m) [ true ↦ g o | false ↦ runs o ]) f (λ q y. as-pick (eqb (mark_at k q) m) (g q) (runs q) (h q y) y)

  as-joins : (k : ℕ) (l : Acts) (q : Order) → As xs bs false z q → As xs bs false z (joins k l q).order
  unfolding joins
  as-joins k l q f = as-pick (quiet (k + 1) (sizes l) q.marks) (finishes k q) (runs q) (as-marks _ f) f

  as-in-scope : (ns : List ℕ) (undo : Bool) (k t : ℕ) (l : Acts) (r : Outcome) → As xs bs false z r.order → As xs bs false z (in_scope ns undo k t l r).order
  unfolding in_scope from_undo
  as-in-scope ns undo k t l r f =
      as-pick (ltb t (part_at 1 l (k + 1))) (elim (goes_through undo k r) [ true ↦ r | false ↦ from_body (scope_at ns k l) r ])
      (elim (ltb t (part_at (undo_part ns) l (k + 1))) [ true ↦ from_fault (scope_at ns k l) r | false ↦ from_undo r ])
      (as-pick (goes_through undo k r) r (from_body (scope_at ns k l) r) f (inside-as (out-from-body (scope_at ns k l) r f)))
      (as-pick (ltb t (part_at (undo_part ns) l (k + 1))) (from_fault (scope_at ns k l) r) (from_undo r) (inside-as (out-from-fault (scope_at ns k l) r f)) f)

  as-combines : (own : Own) (l : Acts) (k t : ℕ) (r : Outcome) → As xs bs false z r.order → As xs bs false z (combines own l k t r).order
  unfolding combines
  as-combines empty l k t r f = f
  as-combines (send p q vs) l k t r f = f
  as-combines (receive p q vs) l k t r f = f
  as-combines (setting v e) l k t r f = f
  as-combines (raise number) l k t r f = f
  as-combines leave l k t r f = f
  as-combines (choose e) l k t r f = as-goes k inside (finishes k) r f (λ q g. as-marks _ g)
  as-combines (repeat e) l k t r f = as-goes k inside (again k) r f (λ q g. as-marks _ g)
  as-combines sequence l k t r f =
      as-goes k active (λ o. where_over (finishes k) (begun_in o (begin_after l (k + 1) t o.marks))) r f
      (λ q g. as-where (begun_in q (begin_after l (k + 1) t q.marks)) (finishes k) (as-marks (begin_after l (k + 1) t q.marks).marks g) (λ o h. as-marks _ h))
  as-combines flow l k t r f = as-goes k active (joins k l) r f (λ q g. as-joins k l q g)
  as-combines pick l k t r f = as-goes k inside (finishes k) r f (λ q g. as-marks _ g)
  as-combines (scope ns u) l k t r f = as-in-scope ns u k t l r f
  as-combines (arm p q vs) l k t r f = f

alike-arms : (own : Own) (l : Acts) (k t : ℕ) (o : Order) → Alike o (arms own l k t o)
unfolding arms
alike-arms own l k t o = go (is_pick own && is_part l (k + 1) t)
  where
    go : (b : Bool) → Alike o (cond b (marked k inside o) o)
    go true = as-marks _ (alike o)
    go false = alike o

as-alike : (o q r : Order) → Alike o q → Alike q r → Alike o r
unfolding RootIs
as-alike o q r f g = record { values = g.values ∙ f.values; bound = g.bound ∙ f.bound; root = g.root ∙ f.root }

abbrev AlikeOutcome : Order → Outcome → Type 0
AlikeOutcome o r = Alike o r.order

-- a raise stands only in the place of what sets nothing
replaced-set : (y : Actor) (own : Own) (o : Order) → replaces y (kind own) ≡ true → set_by own o ≡ o
unfolding replaces kind set_by
replaced-set y empty o h = refl
replaced-set y (send p q vs) o h = refl
replaced-set y (receive p q vs) o h = refl
replaced-set its_own (setting v e) o h = absurd (false≢true h)
replaced-set in_place (setting v e) o h = absurd (false≢true h)
replaced-set y (raise zero) o h = refl
replaced-set y (raise (suc number)) o h = refl
replaced-set y leave o h = refl
replaced-set y (choose e) o h = refl
replaced-set y (repeat e) o h = refl
replaced-set y sequence o h = refl
replaced-set y flow o h = refl
replaced-set y pick o h = refl
replaced-set y (scope ns u) o h = refl
replaced-set y (arm p q vs) o h = refl

-- what acts, or the raise in its place
alike-performs : (y : Actor) (own : Own) (l : Acts) (c k : ℕ) (o : Order) → Alike (set_by own o) (performs y own l c k o).order
unfolding performs
alike-performs y own l c k o = go (replaces y (kind own)) refl
  where
    go : (b : Bool) → replaces y (kind own) ≡ b → AlikeOutcome (set_by own o) (elim b [ true ↦ raises conflicting_receive k o | false ↦ itself own l c k o ])
    go true e = subst (λ (q : Order). Alike q (marked k idle o)) (sym (replaced-set y own o e)) (as-marks _ (alike o))
    go false e = alike-itself own l c k o

-- step t in an activity
mutual
  unfolding step_in act_in size set_by

  alike-step : (y : Actor) (a : Act) (c k t : ℕ) (o : Order) → Alike (set_by (own_of (act_in a k t)) o) (step_in y a c k t o).order
  alike-step y (act own l) c k t o =
      go (eqb k t) (alike-performs y own l c k o)
      (as-combines own l k t (step_among y l (is_scope own) c (k + 1) t (arms own l k t o))
      (as-alike (set_by (own_of (act_among l (k + 1) t)) o) (set_by (own_of (act_among l (k + 1) t)) (arms own l k t o)) (step_among y l (is_scope own) c (k + 1) t (arms own l k t o)).order
      (set-alike (own_of (act_among l (k + 1) t)) o (arms own l k t o) (alike-arms own l k t o)) (alike-among y l (is_scope own) c (k + 1) t (arms own l k t o))))
    where
      go : (b : Bool) → Alike (set_by own o) (performs y own l c k o).order
          → Alike (set_by (own_of (act_among l (k + 1) t)) o) (combines own l k t (step_among y l (is_scope own) c (k + 1) t (arms own l k t o))).order
          → AlikeOutcome (set_by (own_of (elim b [ true ↦ act own l | false ↦ act_among l (k + 1) t ])) o)
          (elim b [ true ↦ performs y own l c k o | false ↦ combines own l k t (step_among y l (is_scope own) c (k + 1) t (arms own l k t o)) ])
      go true u v = u
      go false u v = v

  alike-among : (y : Actor) (l : Acts) (w : Bool) (q c t : ℕ) (o : Order) → Alike (set_by (own_of (act_among l c t)) o) (step_among y l w q c t o).order
  alike-among y none w q c t o = alike o
  alike-among y (more a l) w q c t o = go (ltb t (c + size a)) (alike-step y a (cond w c q) c t o) (alike-among y l w q (c + size a) t o)
    where
      go : (b : Bool) → Alike (set_by (own_of (act_in a c t)) o) (step_in y a (cond w c q) c t o).order
          → Alike (set_by (own_of (act_among l (c + size a) t)) o) (step_among y l w q (c + size a) t o).order
          → AlikeOutcome (set_by (own_of (elim b [ true ↦ act_in a c t | false ↦ act_among l (c + size a) t ])) o)
          (elim b [ true ↦ step_in y a (cond w c q) c t o | false ↦ step_among y l w q (c + size a) t o ])
      go true u v = u
      go false u v = v

-- What stands in the slot then: an order with these variables that is live, or none.
unfoldable pub Goes : End → (o q : Order) → Type 0
Goes None o q = (q.values ≡ o.values) × (q.bound ≡ o.bound) × (eqb q.root idle ≡ false)
Goes Well o q = q ≡ no_order
Goes Handled o q = q ≡ no_order
Goes Failed o q = q ≡ no_order
Goes Left o q = q ≡ no_order

pub goes-leaves : (e : End) (o q : Order) → Goes e o q → Leaves e o q
unfolding Goes Leaves
goes-leaves None o q f = (f.0, f.1)
goes-leaves Well o q f = f
goes-leaves Handled o q f = f
goes-leaves Failed o q f = f
goes-leaves Left o q f = f

abbrev GoesTo : Order → Outcome → Type 0
GoesTo o r = Goes (moved_to r (end_of r)).end o (moved_to r (end_of r)).order

moved-goes : (o : Order) (z : ℕ) (r : Outcome) → Out o.values o.bound true z r → GoesTo o r
unfolding moved_to end_of Goes RootOut lasts
moved-goes o z r f = go r.result f.root
  where
    root-done : (b : Bool) → eqb r.order.root idle ≡ false → Goes (moved_to r (cond b Well None)).end o (moved_to r (cond b Well None)).order
    root-done true h = refl
    root-done false h = (f.values, f.bound, h)

    go : (w : Way) → RootOut true z w r.order.root → (let e : End = elim w [
      | running ↦ cond (eqb r.order.root done) Well None
      | over ↦ Handled
      | raising n ↦ Failed
      | leaving ↦ Left
      | undone ↦ None
      | undo_raising n ↦ None
    ] in Goes (moved_to r e).end o (moved_to r e).order)
    go running h = root-done (eqb r.order.root done) (h refl)
    go over h = refl
    go (raising n) h = refl
    go leaving h = refl
    go undone h = (f.values, f.bound, h refl)
    go (undo_raising n) h = (f.values, f.bound, h refl)

set-live : (own : Own) (o : Order) → (set_by own o).root ≡ o.root
unfolding set_by
set-live empty o = refl
set-live (send p q vs) o = refl
set-live (receive p q vs) o = refl
set-live (setting v e) o = go (evaluate e o)
  where
    go : (x : Value) → (set_to v x o).root ≡ o.root
    go (fault n) = refl
    go (value n) = refl
set-live (raise zero) o = refl
set-live (raise (suc number)) o = refl
set-live leave o = refl
set-live (choose e) o = refl
set-live (repeat e) o = refl
set-live sequence o = refl
set-live flow o = refl
set-live pick o = refl
set-live (scope ns u) o = refl
set-live (arm p q vs) o = refl

-- an order that is live, and one with its variables and its root
live-as : (o q : Order) → eqb o.root idle ≡ false → Alike o q → As o.values o.bound true 0 q
unfolding RootIs
live-as o q h f = record { values = f.values; bound = f.bound; root = rw f.root h }

-- So where an activity of a live order acts, or a raise in its place: where the order does not end it is live, and its variables are those that it had, but
-- for what a set gives.
acted-goes : (y : Actor) (p : Plan) (t : ℕ) (o : Order) → t < size p.body + size p.fault → eqb o.root idle ≡ false
    → Goes (acted y p t o).end (set_by (own_of (act_at p t)) o) (acted y p t o).order
unfolding acted step_root act_in
acted-goes y p t o h e =
    let z : 0 + size p.body ≡ size p.body = omega arith in
    subst (λ (n : ℕ). GoesTo (set_by (own_of (elim (ltb t n) [
      | true ↦ act_in p.body 0 t
      | false ↦ elim (ltb t (n + size p.fault)) [ true ↦ act_in p.fault n t | false ↦ act empty none ]
    ])) o) (step_root y p t o)) (sym z) (go (ltb t (size p.body)) (ltb t (size p.body + size p.fault)) (lt-ltb _ _ h))
  where
    live : (own : Own) → eqb (set_by own o).root idle ≡ false
    live own = rw (set-live own o) e

    go : (a b : Bool) → b ≡ true
        → GoesTo (set_by (own_of (elim a [
          | true ↦ act_in p.body 0 t
          | false ↦ elim b [ true ↦ act_in p.fault (size p.body) t | false ↦ act empty none ]
        ])) o)
        (elim a [
          | true ↦ from_body (root_of p) (step_in y p.body 0 0 t o)
          | false ↦ from_fault (root_of p) (step_in y p.fault (size p.body) (size p.body) t o)
        ])
    go true b q =
        let own = own_of (act_in p.body 0 t) in
        moved-goes (set_by own o) 0 (from_body (root_of p) (step_in y p.body 0 0 t o))
        (out-from-body (root_of p) (step_in y p.body 0 0 t o) (live-as (set_by own o) (step_in y p.body 0 0 t o).order (live own) (alike-step y p.body 0 0 t o)))
    go false true q =
        let own = own_of (act_in p.fault (size p.body) t) in
        moved-goes (set_by own o) 0 (from_fault (root_of p) (step_in y p.fault (size p.body) (size p.body) t o))
        (out-from-fault (root_of p) (step_in y p.fault (size p.body) (size p.body) t o)
        (live-as (set_by own o) (step_in y p.fault (size p.body) (size p.body) t o).order (live own) (alike-step y p.fault (size p.body) (size p.body) t o)))
    go false false q = absurd (false≢true q)

-- An order that is judged: what raises then is a receive or an arm, which sets nothing.
is_taking : Doing → Bool
is_taking no_step = false
is_taking (sends p o vs) = false
is_taking (takes p o vs) = true
is_taking moves = false
is_taking cuts = false
is_taking (closes u x) = false

second-takes : (before : List Ready) (d : Doing) → is_second before d ≡ true → is_taking d ≡ true
unfolding is_second is_taking
second-takes before no_step e = e
second-takes before (sends p o vs) e = e
second-takes before (takes p o vs) e = refl
second-takes before moves e = e
second-takes before cuts e = e
second-takes before (closes u x) e = e

abbrev Takes : Plan → Verdict → Type 0
Takes p clear = Unit {0}
Takes p (clash k) = (k < size p.body + size p.fault) × (is_taking (doing_at p k) ≡ true)

clash-takes : (p : Plan) (before l : List Ready) → Each (Does (doing_at p) 0 (size p.body + size p.fault)) l → Takes p (clash_after before l)
unfolding clash_after
clash-takes p before [] each_none = tt
clash-takes p before (r ∷ l) (each_more x w) = go (is_second before r.step) refl (clash-takes p (r ∷ before) l w)
  where
    go : (b : Bool) → is_second before r.step ≡ b → Takes p (clash_after (r ∷ before) l) → Takes p (elim b [ true ↦ clash r.activity | false ↦ clash_after (r ∷ before) l ])
    go true e v = (x.high, subst (λ (d : Doing). is_taking d ≡ true) x.is (second-takes before r.step e))
    go false e v = v

conflict-takes : (p : Plan) (o : Order) → Takes p (conflict p o)
unfolding conflict
conflict-takes p o = clash-takes p [] (ready_of p o) (plan-ready p o)

taking-sets : (a : Act) (k : ℕ) (o : Order) → is_taking (act_doing a k) ≡ true → set_by (own_of a) o ≡ o
unfolding act_doing doing_of is_taking set_by
taking-sets (act empty l) k o h = refl
taking-sets (act (send p q vs) l) k o h = refl
taking-sets (act (receive p q vs) l) k o h = refl
taking-sets (act (setting v e) l) k o h = absurd (false≢true h)
taking-sets (act (raise zero) l) k o h = refl
taking-sets (act (raise (suc number)) l) k o h = refl
taking-sets (act leave l) k o h = refl
taking-sets (act (choose e) l) k o h = refl
taking-sets (act (repeat e) l) k o h = refl
taking-sets (act sequence l) k o h = refl
taking-sets (act flow l) k o h = refl
taking-sets (act pick l) k o h = refl
taking-sets (act (scope ns u) l) k o h = refl
taking-sets (act (arm p q vs) l) k o h = refl

goes_on_lem : (e : End) (o q r : Order) → Goes None o q → Goes e q r → Goes e o r
unfolding Goes
goes_on_lem None o q r f g = (g.0 ∙ f.0, g.1 ∙ f.1, g.2)
goes_on_lem Well o q r f g = g
goes_on_lem Handled o q r f g = g
goes_on_lem Failed o q r f g = g
goes_on_lem Left o q r f g = g

abbrev MovesTo : Order → Moved → Type 0
MovesTo o m = Goes m.end o m.order

judged-goes : (n : ℕ) (p : Plan) (o : Order) (m : Moved) → MovesTo o m → MovesTo o (judged n p m)
unfolding judged Goes
judged-goes zero p o m f = f
judged-goes (suc n) p o m f = go (λ m' f'. judged-goes n p o m' f') m.end refl
  where
    raise-goes : (k : ℕ) → Goes None o m.order → (k < size p.body + size p.fault) × (is_taking (doing_at p k) ≡ true) → MovesTo o (acted in_place p k m.order)
    raise-goes k g c =
        let w = acted-goes in_place p k m.order c.0 g.2 in
        let z = taking-sets (act_at p k) k m.order (subst (λ (d : Doing). is_taking d ≡ true) (plan-doing p k c.0) c.1) in
        goes_on_lem (acted in_place p k m.order).end o m.order (acted in_place p k m.order).order g
        (subst (λ (q : Order). Goes (acted in_place p k m.order).end q (acted in_place p k m.order).order) z w)

    on : ((m' : Moved) → MovesTo o m' → MovesTo o (judged n p m')) → Goes None o m.order → (v : Verdict) → Takes p v → MovesTo o (upon (judged n p) p m v)
    on h g clear c = f
    on h g (clash k) c = h (following m.log (acted in_place p k m.order)) (raise-goes k g c)

    go : ((m' : Moved) → MovesTo o m' → MovesTo o (judged n p m')) → (e : End) → m.end ≡ e
        → MovesTo o (elim e as (λ _. Moved) [ None ↦ upon (judged n p) p m (conflict p m.order) | Well ↦ m | Handled ↦ m | Failed ↦ m | Left ↦ m ])
    go h None e = on h (subst (λ (x : End). Goes x o m.order) e f) (conflict p m.order) (conflict-takes p m.order)
    go h Well e = f
    go h Handled e = f
    go h Failed e = f
    go h Left e = f

-- So for a step of a live order, with the judging that follows.
pub order-goes : (p : Plan) (t : ℕ) (o : Order) → t < size p.body + size p.fault → eqb o.root idle ≡ false
    → Goes (step_order p t o).end (set_by (own_of (act_at p t)) o) (step_order p t o).order
unfolding step_order settled
order-goes p t o h e =
    judged-goes (spare p (acted its_own p t o).order) p (set_by (own_of (act_at p t)) o) (acted its_own p t o) (acted-goes its_own p t o h e)
