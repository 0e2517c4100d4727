-- No scope is open inside one that has turned. Assumes nothing.
use Prim.Native.Nat.{ℕ, ◌+◌}
use native.Mathlib.Omega.{arith}
use mathlib.Core.Path.{◌≡◌, refl, sym, ap, subst, ◌∙◌}
use mathlib.Core.Bool.{Bool, true, false, cond, not, ◌&&◌, false≢true, and-false}
use mathlib.Core.List.{List, [], ◌∷◌}
use lib.ListN.{get_or}
use lib.Dec.{eqb}
use Rattle.plan.specs.Tree.{Own, kind, Act, act, Acts, none, more, Plan, size, sizes, scope, is_scope}
use Rattle.plan.proofs.Limits.{accepted-is-within}
use Rattle.order.specs.declared.Order.{Order}
use Rattle.order.specs.Event.{Event}
use Rattle.order.specs.Lists.{every}
use Rattle.order.specs.State.{Name, root, inner, active, done, mark_of, is_live}
use Rattle.order.specs.Scope.{is_open, root_of}
use Rattle.undoing.specs.Demand3.{Inner, scopes_in, scopes_among, scopes_of}
use Rattle.undoing.specs.Ties.{is_turned}
use Rattle.undoing.specs.Entirely.{is_stopped, StoppedTold}
use Rattle.undoing.proofs.Parts.{every_append}
use Rattle.undoing.proofs.Marks.{trio, Quiet, Run, run-awaits, run-one, run-all, run-body, run-done, run-turned, One, one-here, one_later, All, all_none, all-run, all_quiet, Turned, turned-waits, turned-undoes, turned-heals, Stopped, stopped-part, stopped-quiet, stopped-scope, StoppedIn, stopped_none, stopped_more, Undoing, undoing-part, undoing-scope, undoing-through, UndoingIn, undoing-here, undoing-later, quiet-part, turned-not-open}
use Rattle.undoing.proofs.Orders.{inner_at}
use Rattle.undoing.proofs.Remedies.{undo-from, nth-below}
use Rattle.undoing.proofs.Planning.{Formed, formed-part, formed-scope, FormedIn, formed-none, formed-more, scopes-is, scopes-scope, Promised, promised, whole}
use Rattle.undoing.proofs.Scoping.{scope_live, scope-done, scope-turned, Running}
use Rattle.undoing.proofs.Roots.{Standing}
use Rattle.undoing.proofs.Slots.{Slot, slot-free, slot-live}
use Rattle.undoing.proofs.Told.{slot-after}

module _ (o : Order) where
  -- of the scopes of an activity, and of a list
  abbrev Calm : Act → (k : ℕ) → Name → List Name → Type 0
  Calm a k n ns = every (is_stopped o) (scopes_in a k n ns) ≡ true

  abbrev CalmIn : Acts → (c : ℕ) → Name → List Name → Type 0
  CalmIn l c n ns = every (is_stopped o) (scopes_among l c n ns) ≡ true

  part-calm : (own : Own) (within : Acts) (k : ℕ) (n : Name) (ns : List Name) → is_scope own ≡ false → CalmIn within (k + 1) n ns → Calm (act own within) k n ns
  part-calm own within k n ns s h = subst (λ (l : List Inner). every (is_stopped o) l ≡ true) (sym (scopes-is own within k n ns false s)) h

  none-calm : (c : ℕ) (n : Name) (ns : List Name) → CalmIn none c n ns
  unfolding scopes_in every
  none-calm c n ns = refl

  more-calm : (a : Act) (l : Acts) (c : ℕ) (n : Name) (ns : List Name) → Calm a c n ns → CalmIn l (c + size a) n ns → CalmIn (more a l) c n ns
  unfolding scopes_in
  more-calm a l c n ns h g = every_append (is_stopped o) (scopes_in a c n ns) (scopes_among l (c + size a) n ns) h g

  -- a scope that is not open, or in one that has not turned
  scope-calm : {f : Act} {u : Acts} (xs : List ℕ) (v : Bool) (b : Act) (k : ℕ) (n : Name) (ns : List Name) → (is_turned (mark_of n o) && is_open (get_or o.marks k 0)) ≡ false
      → Calm b (k + 1) (inner k) (cond v [] (n ∷ ns)) → FormedIn true false (more f u) → Calm (act (scope xs v) (trio b f u)) k n ns
  unfolding every is_stopped
  scope-calm {f} {u} xs v b k n ns e h x =
      subst (λ (l : List Inner). every (is_stopped o) l ≡ true) (sym (scopes-scope xs v b x k n ns)) (rw e h)

  shut : (k : ℕ) (n : Name) → is_open (get_or o.marks k 0) ≡ false → (is_turned (mark_of n o) && is_open (get_or o.marks k 0)) ≡ false
  shut k n e = rw (e, and-false)

  mutual
    unfolding size

    quiet_calm : {h r : Bool} {a : Act} → Formed h r a → (k : ℕ) (n : Name) (ns : List Name) → Quiet o.marks k (size a) → Calm a k n ns
    quiet_calm (formed-part {own = own} {within = within} s i g y) k n ns q = part-calm own within k n ns s (quiet-in-calm y (k + 1) n ns (quiet-part q (omega arith) (omega arith)))
    quiet_calm (formed-scope {xs = xs} {v = v} {b = b} {f = f} {u = u} few many x y) k n ns q =
        scope-calm xs v b k n ns (shut k n (rw (q.at k (omega arith) (omega arith)))) (quiet_calm x (k + 1) (inner k) (cond v [] (n ∷ ns)) (quiet-part q (omega arith) (omega arith))) y

    quiet-in-calm : {h r : Bool} {l : Acts} → FormedIn h r l → (c : ℕ) (n : Name) (ns : List Name) → Quiet o.marks c (sizes l) → CalmIn l c n ns
    quiet-in-calm formed-none c n ns q = none-calm c n ns
    quiet-in-calm (formed-more {a = a} {l = l} x y) c n ns q =
        more-calm a l c n ns (quiet_calm x c n ns (quiet-part q (omega arith) (omega arith))) (quiet-in-calm y (c + size a) n ns (quiet-part q (omega arith) (omega arith)))

  mutual
    unfolding size kind

    -- what runs, in a scope that has not turned
    run-calm : {h r : Bool} {a : Act} {k : ℕ} → Run o.marks a k → Formed h r a → (n : Name) (ns : List Name) → is_turned (mark_of n o) ≡ false → Calm a k n ns
    run-calm {k = k} (run-awaits s₁ d e q) (formed-part {own = own} {within = within} s i g y) n ns t = part-calm own within k n ns s (quiet-in-calm y (k + 1) n ns q)
    run-calm {k = k} (run-one s₁ e r) (formed-part {own = own} {within = within} s i g y) n ns t = part-calm own within k n ns s (one-calm r y n ns t)
    run-calm {k = k} (run-all e r z) (formed-part {own = own} {within = within} s i g y) n ns t = part-calm own within k n ns s (all-calm r y n ns t)
    run-calm (run-body e r q) (formed-part s i g y) n ns t = absurd (false≢true (sym s))
    run-calm (run-done e q) (formed-part s i g y) n ns t = absurd (false≢true (sym s))
    run-calm (run-turned e) (formed-part s i g y) n ns t = absurd (false≢true (sym s))
    run-calm (run-awaits s d e q) (formed-scope few many x y) n ns t = absurd (false≢true (sym s))
    run-calm (run-one s e r) (formed-scope few many x y) n ns t = absurd (false≢true (sym s))
    run-calm {k = k} (run-body e r q) (formed-scope {xs = xs} {v = v} {b = b} {f = f} {u = u} few many x y) n ns t = scope-calm xs v b k n ns (rw t) (run-calm r x (inner k) (cond v [] (n ∷ ns)) (rw e)) y
    run-calm {k = k} (run-done e q) (formed-scope {xs = xs} {v = v} {b = b} {f = f} {u = u} few many x y) n ns t = scope-calm xs v b k n ns (rw t) (quiet_calm x (k + 1) (inner k) (cond v [] (n ∷ ns)) (quiet-part q (omega arith) (omega arith))) y
    run-calm {k = k} (run-turned e) (formed-scope {xs = xs} {v = v} {b = b} {f = f} {u = u} few many x y) n ns t = scope-calm xs v b k n ns (rw t) (turned-calm e x (inner k) (cond v [] (n ∷ ns))) y

    one-calm : {h r : Bool} {l : Acts} {c : ℕ} → One o.marks l c → FormedIn h r l → (n : Name) (ns : List Name) → is_turned (mark_of n o) ≡ false → CalmIn l c n ns
    one-calm {c = c} (one-here r q) (formed-more {a = a} {l = l} x y) n ns t = more-calm a l c n ns (run-calm r x n ns t) (quiet-in-calm y (c + size a) n ns q)
    one-calm {c = c} (one_later q r) (formed-more {a = a} {l = l} x y) n ns t = more-calm a l c n ns (quiet_calm x c n ns q) (one-calm r y n ns t)

    all-calm : {h r : Bool} {l : Acts} {c : ℕ} → All o.marks l c → FormedIn h r l → (n : Name) (ns : List Name) → is_turned (mark_of n o) ≡ false → CalmIn l c n ns
    all-calm {c = c} all_none formed-none n ns t = none-calm c n ns
    all-calm {c = c} (all-run r z) (formed-more {a = a} {l = l} x y) n ns t = more-calm a l c n ns (run-calm r x n ns t) (all-calm z y n ns t)
    all-calm {c = c} (all_quiet q z) (formed-more {a = a} {l = l} x y) n ns t = more-calm a l c n ns (quiet_calm x c n ns q) (all-calm z y n ns t)

    -- the body of a scope that has
    turned-calm : {h r : Bool} {ms : List ℕ} {m kb kf : ℕ} {b : Act} {l : Acts} → Turned o.marks ms m b kb l kf → Formed h r b → (n : Name) (ns : List Name) → Calm b kb n ns
    turned-calm (turned-waits e s i q) x n ns = stopped-calm s x n ns
    turned-calm (turned-undoes e u q) x n ns = undoing-calm u x n ns
    turned-calm {kb = kb} (turned-heals e q r) x n ns = quiet_calm x kb n ns q

    stopped-calm : {h r : Bool} {a : Act} {k : ℕ} → Stopped o.marks a k → Formed h r a → (n : Name) (ns : List Name) → Calm a k n ns
    stopped-calm {k = k} (stopped-part s₁ e l) (formed-part {own = own} {within = within} s i g y) n ns = part-calm own within k n ns s (stopped-in-calm l y n ns)
    stopped-calm (stopped-scope t) (formed-part s i g y) n ns = absurd (false≢true (sym s))
    stopped-calm {k = k} (stopped-quiet q) x n ns = quiet_calm x k n ns q
    stopped-calm (stopped-part s e l) (formed-scope few many x y) n ns = absurd (false≢true (sym s))
    stopped-calm {k = k} (stopped-scope t) (formed-scope {xs = xs} {v = v} {b = b} {f = f} {u = u} few many x y) n ns = scope-calm xs v b k n ns (shut k n (turned-not-open t)) (turned-calm t x (inner k) (cond v [] (n ∷ ns))) y

    stopped-in-calm : {h r : Bool} {l : Acts} {c : ℕ} → StoppedIn o.marks l c → FormedIn h r l → (n : Name) (ns : List Name) → CalmIn l c n ns
    stopped-in-calm {c = c} stopped_none formed-none n ns = none-calm c n ns
    stopped-in-calm {c = c} (stopped_more s z) (formed-more {a = a} {l = l} x y) n ns = more-calm a l c n ns (stopped-calm s x n ns) (stopped-in-calm z y n ns)

    undoing-calm : {h r : Bool} {a : Act} {k : ℕ} → Undoing o.marks a k → Formed h r a → (n : Name) (ns : List Name) → Calm a k n ns
    undoing-calm {k = k} (undoing-part s₁ e l) (formed-part {own = own} {within = within} s i g y) n ns = part-calm own within k n ns s (undoing-in-calm l y n ns)
    undoing-calm (undoing-scope e c r) (formed-part s i g y) n ns = absurd (false≢true (sym s))
    undoing-calm (undoing-through e r q) (formed-part s i g y) n ns = absurd (false≢true (sym s))
    undoing-calm (undoing-part s e l) (formed-scope few many x y) n ns = absurd (false≢true (sym s))
    undoing-calm {k = k} (undoing-scope e c r) (formed-scope {xs = xs} {v = v} {b = b} {f = f} {u = u} few many x y) n ns =
        scope-calm xs v b k n ns (shut k n (rw e)) (quiet_calm x (k + 1) (inner k) (cond v [] (n ∷ ns)) (record { at = λ i p q. nth-below r i p (omega (arith, undo-from xs b f u k)) })) y
    undoing-calm {k = k} (undoing-through e r q) (formed-scope {xs = xs} {v = v} {b = b} {f = f} {u = u} few many x y) n ns =
        scope-calm xs v b k n ns (shut k n (rw e)) (undoing-calm r x (inner k) (cond v [] (n ∷ ns))) y

    undoing-in-calm : {h r : Bool} {l : Acts} {c : ℕ} → UndoingIn o.marks l c → FormedIn h r l → (n : Name) (ns : List Name) → CalmIn l c n ns
    undoing-in-calm {c = c} (undoing-here r q) (formed-more {a = a} {l = l} x y) n ns = more-calm a l c n ns (undoing-calm r x n ns) (quiet-in-calm y (c + size a) n ns q)
    undoing-in-calm {c = c} (undoing-later q r) (formed-more {a = a} {l = l} x y) n ns = more-calm a l c n ns (quiet_calm x c n ns q) (undoing-in-calm r y n ns)

-- of an order that stands
standing-calm : (p : Plan) (o : Order) → Promised p → Standing p o → every (is_stopped o) (scopes_of p) ≡ true
standing-calm p o h st = subst (λ (l : List Inner). every (is_stopped o) l ≡ true) (sym (whole p h.body h.fault)) (go st.runs)
  where
    go : Running (root_of p) o.marks o.root → every (is_stopped o) (scopes_in p.body 0 root []) ≡ true
    go (scope_live e r q) = run-calm o r h.body root [] (rw e)
    go (scope-done e q r) = quiet_calm o h.body 0 root [] q
    go (scope-turned t) = turned-calm o t h.body root []

-- What is stopped is stopped throughout.
pub stopped-told : StoppedTold
unfolding StoppedTold
stopped-told bytes p next e calls slot t v = go (slot-after bytes p next e calls slot t) v
  where
    go : {o : Order} {past : List Event} → Slot p o past → is_live o ≡ true → every (is_stopped o) (scopes_of p) ≡ true
    go (slot-free x y) v = absurd (false≢true (sym x ∙ v))
    go {o} (slot-live x y) v = standing-calm p o (promised p (accepted-is-within bytes e)) x
