-- An inner scope that has turned is left alone, over any run. Assumes nothing.
use Prim.Native.Nat.{ℕ, ◌+◌, ◌≤◌, ◌<◌}
use native.Mathlib.Omega.{arith}
use mathlib.Core.Path.{◌≡◌, refl, sym, ap, subst, ◌∙◌}
use mathlib.Core.Bool.{Bool, true, false, cond, not, ◌&&◌, ◌||◌, false≢true, or-true}
use mathlib.Core.List.{List, [], ◌∷◌, ◌++◌}
use lib.ListN.{length, get_or}
use lib.Dec.{eqb, ltb, leb}
use borrow.Author.Tests.{eqb-true, eq-eqb, ne_eqb, lt-ltb, le-leb, leb-true, ltb-true}
use Rattle.plan.specs.Tree.{Own, scope, kind, is_scope, Act, act, Acts, none, more, Plan, size, sizes, count}
use Rattle.order.specs.declared.Order.{Order}
use Rattle.order.specs.declared.End.{End}
use Rattle.order.specs.declared.End.TheVariants.{None, Well, Handled, Failed, Left}
use Rattle.order.specs.Lists.{every}
use Rattle.order.specs.State.{idle, active, done, Name, root, inner, mark_at, is_live, no_order}
use Rattle.order.specs.Scope.{Outcome, root_of, is_open}
use Rattle.order.specs.Event.{Event, started}
use Rattle.order.specs.Acting.{step_in, step_root, end_of, Moved, moved_to, begun_order, started_order, Actor, its_own, acted}
use Rattle.undoing.specs.Demand3.{Inner, scopes_in, scopes_among, scopes_of}
use Rattle.undoing.specs.Ties.{is_turned}
use Rattle.undoing.specs.Begun.{Taken, mark_before, numbers}
use Rattle.undoing.specs.Entirely.{is_in, is_left_alone, LeftAlone, beyond_all}
use Rattle.undoing.proofs.Parts.{both, decide, every_append}
use Rattle.undoing.proofs.Accounts.{phase, waits}
use Rattle.undoing.proofs.Marks.{trio, Agree, Quiet, Run, run-awaits, run-one, run-all, run-body, run-done, run-turned, Turned, turned-waits, turned-undoes, turned-heals, Stopped, stopped-part, stopped-quiet, stopped-scope, Undoing, undoing-part, undoing-scope, undoing-through, nth-later, quiet-part, turned-not-rest, not-open}
use Rattle.undoing.proofs.Orders.{inner_at}
use Rattle.undoing.proofs.Planning.{Formed, formed-part, formed-scope, FormedIn, formed-none, formed-more, scopes-is, Promised, whole, scopes-scope}
use Rattle.undoing.proofs.Waiting.{quiet-waits}
use Rattle.undoing.proofs.Scoping.{RunAs, Running, scope_live, scope-done, scope-turned}
use Rattle.undoing.proofs.Stepping.{steps, steps-stopped}
use Rattle.undoing.proofs.Roots.{Awaited, in-body, in-fault, Standing, root_is}
use Rattle.undoing.proofs.Slots.{Alike, alike-awaited, alike-stands, standing-live}
use Rattle.undoing.proofs.Finding.{Shape, Shapes, shapes-more, shape-run, shape-stopped, shape-undoing, shape-quiet, within-shapes, body-shape}
use Rattle.undoing.proofs.Healing.{one-quiet}
use Rattle.undoing.proofs.OneTime.{standing-shape}
use Rattle.undoing.proofs.EachTime.{time, OfTimes, OfStarts, each-time}
use Rattle.undoing.proofs.EntirelyTold.{each_below}
use Rattle.undoing.proofs.NearTold.{scope-end}
use Rattle.undoing.proofs.Happening.{with_message}
use Rattle.undoing.proofs.Lying.{Up, up-here, up-part, up-scope, UpIn, up_first, up-later, up-quiet, up-undoing}
use Rattle.undoing.proofs.LeftAlone.{alone-run, alone-stopped, body-waits, body-good}

-- what has turned is up, and not open
turned_up : (m : ℕ) → is_turned m ≡ true → (eqb m idle ≡ false) × (is_open m ≡ false)
turned_up m e = (
  decide (eqb m idle) (λ d. absurd (false≢true (ap is_turned (sym (eqb-true m idle d)) ∙ e))) (λ d. d),
  decide (eqb m active) (λ d. absurd (false≢true (ap is_turned (sym (eqb-true m active d)) ∙ e))) (λ d. rw d (decide (eqb m done) (λ c. absurd (false≢true (ap is_turned (sym (eqb-true m done c)) ∙ e))) (λ c. c))),
)

-- A scope with one that has turned in its body is up.
loud-around : {ms xs : List ℕ} {v : Bool} {b f : Act} {u : Acts} {j many k : ℕ} → Shape ms (act (scope xs v) (trio b f u)) k → Up ms j many b (k + 1) → eqb (get_or ms k 0) idle ≡ false
unfolding size kind
loud-around (shape-run (run-awaits s _ _ _)) w = absurd (false≢true (sym s))
loud-around (shape-run (run-one s _ _)) w = absurd (false≢true (sym s))
loud-around (shape-run (run-body h _ _)) w = ap (λ (i : ℕ). eqb i idle) h
loud-around (shape-run (run-done h _)) w = ap (λ (i : ℕ). eqb i idle) h
loud-around {ms} {k = k} (shape-run (run-turned t)) w = ne_eqb (get_or ms k 0) idle (turned-not-rest t)
loud-around (shape-stopped (stopped-part s _ _)) w = absurd (false≢true (sym s))
loud-around (shape-stopped (stopped-quiet q)) w = absurd (up-quiet w (quiet-part q (omega arith) (omega arith)))
loud-around {ms} {k = k} (shape-stopped (stopped-scope t)) w = ne_eqb (get_or ms k 0) idle (turned-not-rest t)
loud-around (shape-undoing (undoing-part s _ _)) w = absurd (false≢true (sym s))
loud-around (shape-undoing (undoing-scope _ _ (nth-later q _))) w = absurd (up-quiet w q)
loud-around (shape-undoing (undoing-through _ r _)) w = absurd (up-undoing w r)
loud-around (shape-quiet q) w = absurd (up-quiet w (quiet-part q (omega arith) (omega arith)))

-- Of the root: in a step of an order that stands what has turned in its body, and has not the step, is left alone.
module _ (p : Plan) (h : Promised p) (actor : Actor) (t : ℕ) (o : Order) (st : Standing p o) (j many : ℕ) (apart : j ≤ t → t < j + many → ⊥) (u : Up o.marks j many p.body 0) where
  in-root : Running (root_of p) o.marks o.root → Awaited p o.marks t → Agree j many o.marks (step_root actor p t o).order.marks
  in-root (scope_live d r q) (in-body e i) =
      let v = steps p actor h.seat.body 0 t o false h.seat.at i refl r (ap phase d) (omega (arith, st.many)) in
      let g = alone-run j many p actor t apart h.seat.body 0 o false h.seat.at i refl r (ap phase d) (omega (arith, st.many)) u in
      subst (λ (z : Outcome). Agree j many o.marks z.order.marks) (sym (root_is actor p t o true (lt-ltb t (size p.body) e)))
      (body-good j many p (root_of p) (step_in actor p.body 0 0 t o) (RunAs p p.body 0 t o) (λ x c. c.0) tt h.seat.body refl (v.rooted ∙ d) (omega (arith, st.many, v.kept.many)) v.comes g).0.same
  in-root (scope-done d q z) a = absurd (st.going d)
  in-root (scope-turned (turned-waits {w = b} e₁ r f q)) (in-body e i) =
      let v = steps-stopped p actor h.seat.body 0 t o false h.seat.at i refl r (omega (arith, st.many)) in
      let g = alone-stopped j many p actor t apart h.seat.body 0 o false h.seat.at i refl r (omega (arith, st.many)) u in
      subst (λ (z : Outcome). Agree j many o.marks z.order.marks) (sym (root_is actor p t o true (lt-ltb t (size p.body) e)))
      (body-waits j many p (root_of p) (step_in actor p.body 0 0 t o) g (ap is_open v.rooted ∙ not-open o.root (waits b) e₁ (λ d. let z : ◌≡◌ {A = ℕ} 0 1 = cc in omega arith))).0.same
  in-root (scope-turned (turned-undoes e₁ r q)) a = absurd (up-undoing u r)
  in-root (scope-turned (turned-heals e₁ r q)) a = absurd (up-quiet u r)
  in-root (scope_live d r q) (in-fault e i) = absurd (quiet-waits i refl (one-quiet p.fault q))
  in-root (scope-turned (turned-waits e₁ r f q)) (in-fault e i) = absurd (quiet-waits i refl (one-quiet p.fault q))

-- So a scope of the body that has turned is left alone, wherever it stands.
module _ (p : Plan) (x : Taken) (live : is_live x.before ≡ true) where
  -- one in which the step does not stand, and whose marks agree
  alone-so : (y : Inner) (many : ℕ) → beyond_all y ≡ y.number + many
      → ((y.number ≤ x.activity → x.activity < y.number + many → ⊥) → is_turned (mark_at y.number x.before) ≡ true → is_live x.after ≡ true → Agree y.number many x.before.marks x.after.marks)
      → is_left_alone p x y ≡ true
  unfolding is_left_alone
  alone-so y many e g =
      decide (is_in y x.activity) (λ i. rw (i, or-true))
      (λ i. rw i (decide (is_turned (mark_before y.number x)) (λ d. rw d (outside i d)) (λ d. rw d)))
    where
      each : Agree y.number many x.before.marks x.after.marks → (n : ℕ) → every (λ k. not (is_in y k) || eqb (mark_at k x.after) (mark_at k x.before)) (numbers n) ≡ true
      each a n =
          each_below (λ k. not (is_in y k) || eqb (mark_at k x.after) (mark_at k x.before)) n
          (λ k h. decide (is_in y k)
          (λ i. rw i (eq-eqb (mark_at k x.after) (mark_at k x.before) (both (leb y.number k) (ltb k (beyond_all y)) i (λ c d. a.at k (leb-true y.number k c) (subst (λ (z : ℕ). k < z) e (ltb-true k (beyond_all y) d))))))
          (λ i. rw i))

      outside : is_in y x.activity ≡ false → is_turned (mark_before y.number x) ≡ true
          → not (is_live x.after) || every (λ k. not (is_in y k) || eqb (mark_at k x.after) (mark_at k x.before)) (numbers (size p.body + size p.fault)) ≡ true
      outside i d =
          decide (is_live x.after)
          (λ z. let a = g (λ c e₁. false≢true (sym i ∙ rw (le-leb y.number x.activity c, lt-ltb x.activity (beyond_all y) (subst (λ (z : ℕ). x.activity < z) (sym e) e₁)))) (rw live at d) z in
          rw (each a (size p.body + size p.fault), or-true))
          (λ z. rw z)

  module _ (agree : (j many : ℕ) → (j ≤ x.activity → x.activity < j + many → ⊥) → Up x.before.marks j many p.body 0 → is_live x.after ≡ true → Agree j many x.before.marks x.after.marks) where
    mutual
      unfolding scopes_in every kind size

      each-alone : {h r : Bool} {a : Act} → Formed h r a → (k : ℕ) (n : Name) (ns : List Name) → Shape x.before.marks a k → ((j many : ℕ) → Up x.before.marks j many a k → Up x.before.marks j many p.body 0)
          → every (is_left_alone p x) (scopes_in a k n ns) ≡ true
      each-alone (formed-part {own = own} {within = within} s i g y) k n ns sh up =
          subst (λ (l : List Inner). every (is_left_alone p x) l ≡ true) (sym (scopes-is own within k n ns false s)) (each-alone-in y (k + 1) n ns (within-shapes s sh) (λ j many u. up j many (up-part s u)))
      each-alone (formed-scope {xs = xs} {v = v} {b = b} {f = g} {u = u} few many fb fl) k n ns sh up =
          subst (λ (l : List Inner). every (is_left_alone p x) l ≡ true) (sym (scopes-scope xs v b fl k n ns))
          (rw (
            alone-so (inner_at xs v k n ns (more b (more g u))) (1 + sizes (more b (more g u))) (scope-end xs v b (more g u) many k n ns)
                (λ a d. let t = turned_up (get_or x.before.marks k 0) d in agree k (1 + sizes (more b (more g u))) a (up k (1 + sizes (more b (more g u))) (up-here refl refl refl t.0 t.1))),
            each-alone fb (k + 1) (inner k) (cond v [] (n ∷ ns)) (body-shape sh) (λ j m u. up j m (up-scope (loud-around sh u) u)),
          ))

      each-alone-in : {h r : Bool} {l : Acts} → FormedIn h r l → (c : ℕ) (n : Name) (ns : List Name) → Shapes x.before.marks l c → ((j many : ℕ) → UpIn x.before.marks j many l c → Up x.before.marks j many p.body 0)
          → every (is_left_alone p x) (scopes_among l c n ns) ≡ true
      each-alone-in formed-none c n ns sh up = refl
      each-alone-in (formed-more {a = a} {l = l} y z) c n ns (shapes-more s q) up =
          every_append (is_left_alone p x) (scopes_in a c n ns) (scopes_among l (c + size a) n ns) (each-alone y c n ns s (λ j many u. up j many (up_first u))) (each-alone-in z (c + size a) n ns q (λ j many u. up j many (up-later u)))

-- in every time that a step goes through an order
module _ (p : Plan) (h : Promised p) where
  order-alone : (actor : Actor) (t : ℕ) (o : Order) → Standing p o → Awaited p o.marks t → (j many : ℕ) → (j ≤ t → t < j + many → ⊥) → Up o.marks j many p.body 0 → is_live (acted actor p t o).order ≡ true
      → Agree j many o.marks (acted actor p t o).order.marks
  unfolding acted moved_to no_order
  order-alone actor t o st a j many apart u = go (end_of (step_root actor p t o))
    where
      go : (e : End) → is_live (moved_to (step_root actor p t o) e).order ≡ true → Agree j many o.marks (moved_to (step_root actor p t o) e).order.marks
      go None z = in-root p h actor t o st j many apart u st.runs a
      go Well z = absurd (false≢true z)
      go Handled z = absurd (false≢true z)
      go Failed z = absurd (false≢true z)
      go Left z = absurd (false≢true z)

  time-alone : OfTimes p (λ x. every (is_left_alone p x) (scopes_of p))
  time-alone actor t o o' past like a st g =
      let x = time t o [] (acted actor p t o') in
      subst (λ (l : List Inner). every (is_left_alone p x) l ≡ true) (sym (whole p h.body h.fault))
      (each-alone p x (standing-live p o st)
      (λ j many apart u z. subst (λ (ms : List ℕ). Agree j many ms (acted actor p t o').order.marks) like.marks
      (order-alone actor t o' (alike-stands p o o' like st) (alike-awaited like t a) j many apart (subst (λ (ms : List ℕ). Up ms j many p.body 0) (sym like.marks) u) z))
      h.body 0 root [] (standing-shape p o st) (λ j many u. u))

  -- an order that starts has no scope that had turned
  none-turned : (x : Taken) → is_live x.before ≡ false → (l : List Inner) → every (is_left_alone p x) l ≡ true
  unfolding every is_left_alone
  none-turned x z [] = refl
  none-turned x z (y ∷ l) = rw (z, none-turned x z l)

  start-alone : OfStarts p (λ x. every (is_left_alone p x) (scopes_of p))
  start-alone t m o past z n a = none-turned (time t o (started ∷ (begun_order p).log) (acted its_own p t (with_message p t m (started_order p)))) z (scopes_of p)

-- Left alone.
pub left_alone : LeftAlone
unfolding LeftAlone
left_alone = each-time (λ p x. every (is_left_alone p x) (scopes_of p)) time-alone start-alone
