-- An order that stands has an activity that awaits its step. Assumes nothing.
use Prim.Native.Nat.{ℕ, zero, suc, ◌+◌, ◌≤◌}
use native.Mathlib.Omega.{arith}
use mathlib.Core.Path.{◌≡◌, refl, sym, ap, subst, ◌∙◌}
use mathlib.Core.Bool.{Bool, true, false, ◌&&◌, ◌||◌, false≢true, or-true}
use mathlib.Core.List.{List, ◌∷◌}
use lib.ListN.{get_or}
use lib.Dec.{eqb}
use borrow.Author.Tests.{eqb-true}
use Rattle.plan.specs.Tree.{Own, empty, send, receive, set as setting, raise, leave, choose, repeat, sequence, flow, pick, scope, arm, kind, is_arm, is_pick, is_scope, Act, act, Acts, none, more, Plan, size, sizes, count}
use Rattle.plan.proofs.Limits.{accepted-is-within}
use Rattle.order.specs.declared.Order.{Order}
use Rattle.order.specs.State.{is_live, active, done}
use Rattle.order.specs.Event.{Event}
use Rattle.order.specs.Scope.{root_of, inner_runs, inner_runs_in}
use Rattle.order.specs.Lists.{some}
use Rattle.machine.specs.Fit.{Ready, ready_in, ready_among, ready_of, awaits, doing_of}
use Rattle.undoing.specs.Ties.{is_step, NeverStuck}
use Rattle.undoing.proofs.Parts.{both, decide, some-append}
use Rattle.undoing.proofs.Marks.{is_doer, trio, Quiet, Run, run-awaits, run-one, run-all, run-body, run-done, run-turned, One, one-here, one_later, All, all_none, all-run, all_quiet, Nth, nth_here, nth-later, Turned, turned-waits, turned-undoes, turned-heals, Stopped, stopped-part, stopped-quiet, stopped-scope, StoppedIn, stopped_none, stopped_more, Undoing, undoing-part, undoing-scope, UndoingIn, undoing-here, undoing-later, quiet-join, undoing-through}
use Rattle.undoing.proofs.Seats.{quiet-inner, inner-is}
use Rattle.undoing.proofs.Scoping.{scope_live, scope-done, scope-turned, Running}
use Rattle.undoing.proofs.Orders.{least}
use Rattle.undoing.proofs.Planning.{Formed, formed-part, formed-scope, FormedIn, formed-none, formed-more, Promised, promised}
use Rattle.undoing.proofs.Roots.{Standing}
use Rattle.undoing.proofs.Slots.{Slot, slot-free, slot-live}
use Rattle.undoing.proofs.Told.{slot-after}

-- whether something in activity k awaits its step, by its mark: a pick, for its arms
unfoldable mutual
  pub awaits_in : Act → (k : ℕ) → (marks : List ℕ) → Bool
  awaits_in (act own within) k ms =
      (is_doer own && eqb (get_or ms k 0) active) || ((is_scope own && eqb (get_or ms k 0) done) || awaits_among within (k + 1) ms)

  pub awaits_among : Acts → (c : ℕ) → (marks : List ℕ) → Bool
  awaits_among none c ms = false
  awaits_among (more a l) c ms = awaits_in a c ms || awaits_among l (c + size a) ms

module _ (ms : List ℕ) where
  -- what something within awaits
  within-awaits : (own : Own) (within : Acts) (k : ℕ) → awaits_among within (k + 1) ms ≡ true → awaits_in (act own within) k ms ≡ true
  unfolding awaits_in
  within-awaits own within k e = rw (e, or-true, or-true)

  -- the first of two, or the second
  first-awaits : (a : Act) (l : Acts) (c : ℕ) → awaits_in a c ms ≡ true → awaits_among (more a l) c ms ≡ true
  unfolding awaits_in
  first-awaits a l c e = rw e

  later-awaits : (a : Act) (l : Acts) (c : ℕ) → awaits_among l (c + size a) ms ≡ true → awaits_among (more a l) c ms ≡ true
  unfolding awaits_in
  later-awaits a l c e = rw (e, or-true)

  -- one that awaits; a scope that is done
  itself-awaits : (own : Own) (within : Acts) (k : ℕ) → is_doer own ≡ true → get_or ms k 0 ≡ active → awaits_in (act own within) k ms ≡ true
  unfolding awaits_in
  itself-awaits own within k i e = rw (i, e)

  done-awaits : (xs : List ℕ) (v : Bool) (within : Acts) (k : ℕ) → get_or ms k 0 ≡ done → awaits_in (act (scope xs v) within) k ms ≡ true
  unfolding awaits_in kind is_doer
  done-awaits xs v within k e = rw e

  -- the parts of a scope
  body-awaits : (own : Own) (b : Act) (l : Acts) (k : ℕ) → awaits_in b (k + 1) ms ≡ true → awaits_in (act own (more b l)) k ms ≡ true
  body-awaits own b l k e = within-awaits own (more b l) k (first-awaits b l (k + 1) e)

  -- its body, or one of those after it
  either-awaits : (own : Own) (b : Act) (l : Acts) (k : ℕ) → (awaits_in b (k + 1) ms || awaits_among l (k + 1 + size b) ms) ≡ true → awaits_in (act own (more b l)) k ms ≡ true
  either-awaits own b l k e = decide (awaits_in b (k + 1) ms) (λ t. body-awaits own b l k t) (λ t. within-awaits own (more b l) k (later-awaits b l (k + 1) (rw t at e)))

  -- no scope runs where all is quiet
  quiet-not : (a : Act) (k : ℕ) → Quiet ms k (size a) → inner_runs a k ms ≡ true → ⊥
  quiet-not a k q e = false≢true (sym (quiet-inner a k q) ∙ e)

  list-either : (a : Act) (l : Acts) (c : ℕ) → inner_runs_in (more a l) c ms ≡ true → (inner_runs a c ms ≡ true → awaits_in a c ms ≡ true)
      → (inner_runs_in l (c + size a) ms ≡ true → awaits_among l (c + size a) ms ≡ true) → awaits_among (more a l) c ms ≡ true
  unfolding inner_runs
  list-either a l c e f g = decide (inner_runs a c ms) (λ t. first-awaits a l c (f t)) (λ t. later-awaits a l c (g (rw t at e)))

  none_runs : (c : ℕ) → inner_runs_in none c ms ≡ true → awaits_among none c ms ≡ true
  unfolding inner_runs
  none_runs c e = absurd (false≢true e)

  nothing-quiet : (c : ℕ) → Quiet ms c (sizes none)
  unfolding size
  nothing-quiet c = record { at = λ i x y. absurd (omega arith) }

  more-quiet : (a : Act) (l : Acts) (c : ℕ) → Quiet ms c (size a) → Quiet ms (c + size a) (sizes l) → Quiet ms c (sizes (more a l))
  unfolding size
  more-quiet a l c q r = quiet-join q r refl

  mutual
    -- what runs
    pub run-waits : {a : Act} {k : ℕ} → Run ms a k → awaits_in a k ms ≡ true
    run-waits (run-awaits {own} {within} {k} s i e q) = itself-awaits own within k i e
    run-waits (run-one {own} {within} {k} s e r) = within-awaits own within k (one-waits r)
    run-waits (run-all {within} {k} e r z) = within-awaits flow within k (all-waits r z)
    run-waits (run-body {xs} {v} {b} {f} {u} {k} e r q) = body-awaits (scope xs v) b (more f u) k (run-waits r)
    run-waits (run-done {xs} {v} {b} {f} {u} {k} e q) = done-awaits xs v (trio b f u) k e
    run-waits (run-turned {xs} {v} {b} {f} {u} {k} t) = either-awaits (scope xs v) b (more f u) k (turned-waits-so t)

    pub one-waits : {l : Acts} {c : ℕ} → One ms l c → awaits_among l c ms ≡ true
    one-waits (one-here {a} {l} {c} r q) = first-awaits a l c (run-waits r)
    one-waits (one_later {a} {l} {c} q r) = later-awaits a l c (one-waits r)

    pub nth-waits-so : {i : ℕ} {l : Acts} {c : ℕ} → Nth ms i l c → awaits_among l c ms ≡ true
    nth-waits-so (nth_here {a} {l} {c} r q) = first-awaits a l c (run-waits r)
    nth-waits-so (nth-later {i} {a} {l} {c} q r) = later-awaits a l c (nth-waits-so r)

    pub all-waits : {l : Acts} {c : ℕ} → All ms l c → (Quiet ms c (sizes l) → ⊥) → awaits_among l c ms ≡ true
    all-waits (all_none {c}) z = absurd (z (nothing-quiet c))
    all-waits (all-run {a} {l} {c} r x) z = first-awaits a l c (run-waits r)
    all-waits (all_quiet {a} {l} {c} q x) z = later-awaits a l c (all-waits x (λ y. z (more-quiet a l c q y)))

    -- a scope that turned
    pub turned-waits-so : {xs : List ℕ} {m kb kf : ℕ} {b : Act} {l : Acts} → Turned ms xs m b kb l kf → (awaits_in b kb ms || awaits_among l kf ms) ≡ true
    turned-waits-so (turned-waits e s n q) = rw (stopped-waits-so s n)
    turned-waits-so (turned-undoes e u q) = rw (undoing-waits-so u)
    turned-waits-so (turned-heals e q r) = rw (nth-waits-so r, or-true)

    -- a stopped body in which a scope runs
    pub stopped-waits-so : {a : Act} {k : ℕ} → Stopped ms a k → inner_runs a k ms ≡ true → awaits_in a k ms ≡ true
    stopped-waits-so (stopped-part {own} {within} {k} s e l) n = within-awaits own within k (stopped-in-waits l (sym (inner-is own within k ms false s) ∙ n))
    stopped-waits-so (stopped-quiet {a} {k} q) n = absurd (quiet-not a k q n)
    stopped-waits-so (stopped-scope {xs} {v} {b} {f} {u} {k} t) n = either-awaits (scope xs v) b (more f u) k (turned-waits-so t)

    stopped-in-waits : {l : Acts} {c : ℕ} → StoppedIn ms l c → inner_runs_in l c ms ≡ true → awaits_among l c ms ≡ true
    stopped-in-waits (stopped_none {c}) n = none_runs c n
    stopped-in-waits (stopped_more {a} {l} {c} s x) n = list-either a l c n (λ e. stopped-waits-so s e) (λ e. stopped-in-waits x e)

    -- one of which an undo part runs
    pub undoing-waits-so : {a : Act} {k : ℕ} → Undoing ms a k → awaits_in a k ms ≡ true
    undoing-waits-so (undoing-part {own} {within} {k} s e l) = within-awaits own within k (undoing-in-waits l)
    undoing-waits-so (undoing-scope {xs} {b} {f} {u} {k} e n r) = within-awaits (scope xs true) (trio b f u) k (nth-waits-so r)
    undoing-waits-so (undoing-through {xs} {b} {f} {u} {k} e r q) = body-awaits (scope xs false) b (more f u) k (undoing-waits-so r)

    undoing-in-waits : {l : Acts} {c : ℕ} → UndoingIn ms l c → awaits_among l c ms ≡ true
    undoing-in-waits (undoing-here {a} {l} {c} r q) = first-awaits a l c (undoing-waits-so r)
    undoing-in-waits (undoing-later {a} {l} {c} q r) = later-awaits a l c (undoing-in-waits r)

  -- What awaits so is found among those that are ready, where the tree has its form.
  unfoldable pub stepping : Ready → Bool
  stepping r = is_step r.step

  -- one more is ready, or not
  pub ready-is : (own : Own) (within : Acts) (k : ℕ) (b v : Bool) → awaits own b (get_or ms k 0) ≡ v
      → ready_in (act own within) k b ms
      ≡ elim v [
        | true ↦ record { activity = k; step = doing_of own within k } ∷ ready_among within (k + 1) (is_pick own && eqb (get_or ms k 0) active) ms
        | false ↦ ready_among within (k + 1) (is_pick own && eqb (get_or ms k 0) active) ms
      ]
  unfolding ready_in
  ready-is own within k b v t =
      subst (λ (z : Bool). ready_in (act own within) k b ms
      ≡ elim z [
        | true ↦ record { activity = k; step = doing_of own within k } ∷ ready_among within (k + 1) (is_pick own && eqb (get_or ms k 0) active) ms
        | false ↦ ready_among within (k + 1) (is_pick own && eqb (get_or ms k 0) active) ms
      ]) t refl

  -- it has a step
  own-ready : (own : Own) (within : Acts) (k : ℕ) (b : Bool) → awaits own b (get_or ms k 0) ≡ true → is_step (doing_of own within k) ≡ true
      → some stepping (ready_in (act own within) k b ms) ≡ true
  unfolding some stepping
  own-ready own within k b t i = ap (some stepping) (ready-is own within k b true t) ∙ rw i

  -- what stands within it has one
  within-ready : (own : Own) (within : Acts) (k : ℕ) (b : Bool)
      → some stepping (ready_among within (k + 1) (is_pick own && eqb (get_or ms k 0) active) ms) ≡ true → some stepping (ready_in (act own within) k b ms) ≡ true
  unfolding some
  within-ready own within k b e =
      decide (awaits own b (get_or ms k 0))
      (λ t. ap (some stepping) (ready-is own within k b true t) ∙ rw (e, or-true))
      (λ t. ap (some stepping) (ready-is own within k b false t) ∙ e)

  -- one of a list has
  first-ready : (a : Act) (l : Acts) (c : ℕ) (b : Bool) → some stepping (ready_in a c b ms) ≡ true → some stepping (ready_among (more a l) c b ms) ≡ true
  unfolding ready_in
  first-ready a l c b e = some-append stepping (ready_in a c b ms) (ready_among l (c + size a) b ms) ∙ rw e

  later-ready : (a : Act) (l : Acts) (c : ℕ) (b : Bool) → some stepping (ready_among l (c + size a) b ms) ≡ true → some stepping (ready_among (more a l) c b ms) ≡ true
  unfolding ready_in
  later-ready a l c b e = some-append stepping (ready_in a c b ms) (ready_among l (c + size a) b ms) ∙ rw (e, or-true)

  -- an open arm has
  arm-ready : (own : Own) (within : Acts) (k : ℕ) → is_arm own ≡ true → some stepping (ready_in (act own within) k true ms) ≡ true
  unfolding kind awaits doing_of is_step
  arm-ready empty within k e = absurd (false≢true e)
  arm-ready (send x y vs) within k e = absurd (false≢true e)
  arm-ready (receive x y vs) within k e = absurd (false≢true e)
  arm-ready (setting v x) within k e = absurd (false≢true e)
  arm-ready (raise zero) within k e = absurd (false≢true e)
  arm-ready (raise (suc number)) within k e = absurd (false≢true e)
  arm-ready leave within k e = absurd (false≢true e)
  arm-ready (choose x) within k e = absurd (false≢true e)
  arm-ready (repeat x) within k e = absurd (false≢true e)
  arm-ready sequence within k e = absurd (false≢true e)
  arm-ready flow within k e = absurd (false≢true e)
  arm-ready pick within k e = absurd (false≢true e)
  arm-ready (scope xs v) within k e = absurd (false≢true e)
  arm-ready (arm x y vs) within k e = own-ready (arm x y vs) within k true refl refl

  -- an arm of a pick
  arms-ready : {h r : Bool} {l : Acts} → FormedIn h r l → r ≡ true → 1 ≤ count l → (c : ℕ) → some stepping (ready_among l c true ms) ≡ true
  unfolding count
  arms-ready formed-none e n c = absurd (omega arith)
  arms-ready (formed-more {l = l} (formed-part {own = own} {within = within} s i g f) y) e n c = first-ready (act own within) l c true (arm-ready own within c (i ∙ e))
  arms-ready (formed-more (formed-scope few many x y) w) e n c = absurd (false≢true e)

  -- what awaits its step, by its kind
  doer-ready : {h : Bool} (own : Own) (within : Acts) (k : ℕ) (b : Bool) → FormedIn h (is_pick own) within → least own ≤ count within → is_doer own ≡ true → get_or ms k 0 ≡ active
      → some stepping (ready_in (act own within) k b ms) ≡ true
  unfolding kind awaits doing_of is_step is_doer least
  doer-ready empty within k b f n i e = absurd (false≢true i)
  doer-ready (send x y vs) within k b f n i e = own-ready (send x y vs) within k b (rw e) refl
  doer-ready (receive x y vs) within k b f n i e = own-ready (receive x y vs) within k b (rw e) refl
  doer-ready (setting v x) within k b f n i e = own-ready (setting v x) within k b (rw e) refl
  doer-ready (raise zero) within k b f n i e = own-ready (raise zero) within k b (rw e) refl
  doer-ready (raise (suc number)) within k b f n i e = own-ready (raise (suc number)) within k b (rw e) refl
  doer-ready leave within k b f n i e = own-ready leave within k b (rw e) refl
  doer-ready (choose x) within k b f n i e = own-ready (choose x) within k b (rw e) refl
  doer-ready (repeat x) within k b f n i e = own-ready (repeat x) within k b (rw e) refl
  doer-ready sequence within k b f n i e = absurd (false≢true i)
  doer-ready flow within k b f n i e = absurd (false≢true i)
  doer-ready pick within k b f n i e = within-ready pick within k b (rw e (arms-ready f refl n (k + 1)))
  doer-ready (scope xs v) within k b f n i e = absurd (false≢true i)
  doer-ready (arm x y vs) within k b f n i e = absurd (false≢true i)

  -- a scope that is done
  done-ready : (xs : List ℕ) (v : Bool) (within : Acts) (k : ℕ) (b : Bool) → get_or ms k 0 ≡ done → some stepping (ready_in (act (scope xs v) within) k b ms) ≡ true
  unfolding kind awaits doing_of is_step
  done-ready xs v within k b e = own-ready (scope xs v) within k b (rw e) refl

  -- by where it awaits
  part-cases : {P : Type 0} (own : Own) (within : Acts) (k : ℕ) → awaits_in (act own within) k ms ≡ true → is_scope own ≡ false
      → (is_doer own ≡ true → get_or ms k 0 ≡ active → P) → (awaits_among within (k + 1) ms ≡ true → P) → P
  unfolding awaits_in
  part-cases own within k e s f g =
      decide (is_doer own && eqb (get_or ms k 0) active)
      (λ t. both (is_doer own) (eqb (get_or ms k 0) active) t (λ i d. f i (eqb-true (get_or ms k 0) active d)))
      (λ t. g (rw (t, s) at e))

  scope-cases : {P : Type 0} (xs : List ℕ) (v : Bool) (within : Acts) (k : ℕ) → awaits_in (act (scope xs v) within) k ms ≡ true → (get_or ms k 0 ≡ done → P) → (awaits_among within (k + 1) ms ≡ true → P) → P
  unfolding awaits_in kind is_doer
  scope-cases xs v within k e f g = decide (eqb (get_or ms k 0) done) (λ t. f (eqb-true (get_or ms k 0) done t)) (λ t. g (rw t at e))

  more-cases : {P : Type 0} (a : Act) (l : Acts) (c : ℕ) → awaits_among (more a l) c ms ≡ true → (awaits_in a c ms ≡ true → P) → (awaits_among l (c + size a) ms ≡ true → P) → P
  unfolding awaits_in
  more-cases a l c e f g = decide (awaits_in a c ms) f (λ t. g (rw t at e))

  none-awaits : (c : ℕ) → awaits_among none c ms ≡ true → ⊥
  unfolding awaits_in
  none-awaits c e = false≢true e

  mutual
    pub ready-some : {h r : Bool} {a : Act} → Formed h r a → (k : ℕ) (b : Bool) → awaits_in a k ms ≡ true → some stepping (ready_in a k b ms) ≡ true
    ready-some (formed-part {own = own} {within = within} s i g f) k b e =
        part-cases own within k e s (λ j d. doer-ready own within k b f g j d) (λ d. within-ready own within k b (ready-among f (k + 1) _ d))
    ready-some (formed-scope {xs = xs} {v = v₀} {b = x} {f = y} {u = z} few many fx fl) k b e =
        scope-cases xs v₀ (trio x y z) k e (λ d. done-ready xs v₀ (trio x y z) k b d)
        (λ d. within-ready (scope xs v₀) (trio x y z) k b (more-cases x (more y z) (k + 1) d
        (λ v. first-ready x (more y z) (k + 1) _ (ready-some fx (k + 1) _ v))
        (λ v. later-ready x (more y z) (k + 1) _ (ready-among fl (k + 1 + size x) _ v))))

    pub ready-among : {h r : Bool} {l : Acts} → FormedIn h r l → (c : ℕ) (b : Bool) → awaits_among l c ms ≡ true → some stepping (ready_among l c b ms) ≡ true
    ready-among formed-none c b e = absurd (none-awaits c e)
    ready-among (formed-more {a = a} {l = l} x y) c b e =
        more-cases a l c e (λ d. first-ready a l c b (ready-some x c b d)) (λ d. later-ready a l c b (ready-among y (c + size a) b d))

-- of an order that stands
standing-waits : (p : Plan) (o : Order) → Promised p → Standing p o → some (λ r. is_step r.step) (ready_of p o) ≡ true
unfolding ready_of stepping
standing-waits p o h st = some-append (stepping o.marks) (ready_in p.body 0 false o.marks) (ready_in p.fault (size p.body) false o.marks) ∙ go st.runs
  where
    in-body : awaits_in p.body 0 o.marks ≡ true
        → (some (stepping o.marks) (ready_in p.body 0 false o.marks) || some (stepping o.marks) (ready_in p.fault (size p.body) false o.marks)) ≡ true
    in-body e = rw (ready-some o.marks h.body 0 false e)

    alone : awaits_among (more p.fault none) (size p.body) o.marks ≡ true → awaits_in p.fault (size p.body) o.marks ≡ true
    alone e = more-cases o.marks p.fault none (size p.body) e (λ d. d) (λ d. absurd (none-awaits o.marks (size p.body + size p.fault) d))

    in_either : (awaits_in p.body 0 o.marks || awaits_among (more p.fault none) (size p.body) o.marks) ≡ true
        → (some (stepping o.marks) (ready_in p.body 0 false o.marks) || some (stepping o.marks) (ready_in p.fault (size p.body) false o.marks)) ≡ true
    in_either e = decide (awaits_in p.body 0 o.marks) (λ t. in-body t) (λ t. rw (ready-some o.marks h.fault (size p.body) false (alone (rw t at e)), or-true))

    go : Running (root_of p) o.marks o.root
        → (some (stepping o.marks) (ready_in p.body 0 false o.marks) || some (stepping o.marks) (ready_in p.fault (size p.body) false o.marks)) ≡ true
    go (scope_live e r q) = in-body (run-waits o.marks r)
    go (scope-done e r q) = absurd (st.going e)
    go (scope-turned t) = in_either (turned-waits-so o.marks t)

-- A live order is never stuck.
pub never_stuck : NeverStuck
unfolding NeverStuck
never_stuck bytes p next e calls slot t v = go (slot-after bytes p next e calls slot t) v
  where
    go : {o : Order} {past : List Event} → Slot p o past → is_live o ≡ true → some (λ r. is_step r.step) (ready_of p o) ≡ true
    go (slot-free x y) v = absurd (false≢true (sym x ∙ v))
    go {o} (slot-live x y) v = standing-waits p o (promised p (accepted-is-within bytes e)) x
