-- A live order stands as its plan's shape asks, after any run. Assumes nothing.
use Prim.Native.Nat.{ℕ, zero, suc, ◌+◌, ◌-◌, ◌≤◌}
use native.Mathlib.Omega.{arith}
use mathlib.Core.Path.{◌≡◌, refl, sym, ap, subst, ◌∙◌}
use mathlib.Core.Bool.{Bool, true, false, cond, not, ◌&&◌, ◌||◌, false≢true, or-true}
use mathlib.Core.List.{List}
use lib.ListN.{get_or}
use lib.Dec.{eqb}
use borrow.Author.Tests.{eq-eqb, ne_eqb}
use Rattle.plan.specs.Tree.{Own, empty, send, receive, set as setting, raise, leave, choose, repeat, sequence, flow, pick, scope, arm, kind, is_scope, has_undo, numbers_of, Act, act, Acts, none, more, Plan, size, sizes, count, to_partner, to_held, from_partner, from_asking}
use Rattle.order.specs.declared.Order.{Order}
use Rattle.order.specs.Event.{Event}
use Rattle.order.specs.State.{idle, active, done, faulty, undoing, handling, halted, withdrawing, state_in, is_live}
use Rattle.order.specs.Begin.{quiet}
use Rattle.order.specs.Scope.{is_open, inner_runs, root_of}
use Rattle.undoing.specs.Standing.{is_doing, holding_of, runs_in, one_runs, all_run, scope_runs, turned_runs, only_runs, choice_on, stopped_in, stopped_all, undoing_in, undoing_one, undoing_first, last_runs, stands, Stands}
use Rattle.undoing.proofs.Parts.{decide}
use Rattle.undoing.proofs.Accounts.{Phase, waits, heals, phase}
use Rattle.undoing.proofs.Places.{first-of, second-of}
use Rattle.undoing.proofs.Marks.{trio, Quiet, holding, is_doer, Run, run-awaits, run-one, run-all, run-body, run-done, run-turned, One, one-here, one_later, All, all_none, all-run, all_quiet, Nth, nth_here, nth-later, Turned, turned-waits, turned-undoes, turned-heals, Stopped, stopped-part, stopped-quiet, stopped-scope, StoppedIn, stopped_none, stopped_more, Undoing, undoing-part, undoing-scope, undoing-through, UndoingIn, undoing-here, undoing-later, quiet-part, turned-not-open}
use Rattle.undoing.proofs.Combining.{quiet_told, quiet-found}
use Rattle.undoing.proofs.Scoping.{scope_live, scope-done, scope-turned, Running, waits-mark, undoes-mark, no-heals}
use Rattle.undoing.proofs.Healing.{only-runs, one-quiet}
use Rattle.undoing.proofs.Roots.{Standing, choice-none}
use Rattle.undoing.proofs.Slots.{Slot, slot-free, slot-live}
use Rattle.undoing.proofs.Told.{slot-after}

doing : (own : Own) → is_doer own ≡ true → is_doing (kind own) ≡ true
unfolding is_doer is_doing kind
doing empty e = absurd (false≢true e)
doing (send (to_partner p) o vs) e = refl
doing (send (to_held held reply) o vs) e = refl
doing (receive (from_partner p) o vs) e = refl
doing (receive (from_asking p kept) o vs) e = refl
doing (setting v x) e = refl
doing (raise zero) e = refl
doing (raise (suc number)) e = refl
doing leave e = refl
doing (choose x) e = refl
doing (repeat x) e = refl
doing sequence e = absurd (false≢true e)
doing flow e = absurd (false≢true e)
doing pick e = refl
doing (scope xs v) e = absurd (false≢true e)
doing (arm p o vs) e = absurd (false≢true e)

holds-so : (own : Own) → is_scope own ≡ false → holding_of (kind own) ≡ holding own
unfolding holding_of kind
holds-so empty s = refl
holds-so (send (to_partner p) o vs) s = refl
holds-so (send (to_held held reply) o vs) s = refl
holds-so (receive (from_partner p) o vs) s = refl
holds-so (receive (from_asking p kept) o vs) s = refl
holds-so (setting v x) s = refl
holds-so (raise zero) s = refl
holds-so (raise (suc number)) s = refl
holds-so leave s = refl
holds-so (choose x) s = refl
holds-so (repeat x) s = refl
holds-so sequence s = refl
holds-so flow s = refl
holds-so pick s = refl
holds-so (scope xs v) s = absurd (false≢true (sym s))
holds-so (arm p o vs) s = refl

-- a scope in a phase has one of its two marks
pub waits-is : (m : ℕ) (w : Bool) → phase m ≡ waits w → (eqb (state_in m) faulty || eqb m halted) ≡ true
waits-is m true e = rw (waits-mark m e).0
waits-is m false e = rw ((waits-mark m e).1, or-true)

pub undoes-is : (m : ℕ) (w : Bool) → phase m ≡ Phase.undoes w → (eqb (state_in m) undoing || eqb m withdrawing) ≡ true
undoes-is m true e = rw (undoes-mark m e).0
undoes-is m false e = rw ((undoes-mark m e).1, or-true)

pub heals-is : (m : ℕ) → phase m ≡ heals → eqb (state_in m) handling ≡ true
heals-is m e = decide (eqb (state_in m) handling) (λ z. z) (λ z. absurd (no-heals m z e))

one_less : (i : ℕ) → suc i - 1 ≡ i
one_less i = omega arith

eq-so : (m n : ℕ) → m ≡ n → eqb n n ≡ true → eqb m n ≡ true
eq-so m n e h = subst (λ (i : ℕ). eqb i n ≡ true) (sym e) h

module _ (ms : List ℕ) where
  q-so : {k n : ℕ} (j m : ℕ) → Quiet ms k n → k ≤ j → j + m ≤ k + n → quiet j m ms ≡ true
  q-so j m q h e = quiet_told m j ms (quiet-part q h e)

  -- by whether it is a scope
  plain-so : (own : Own) (within : Acts) (k : ℕ) → is_scope own ≡ false
      → ((is_doing (kind own) && (eqb (get_or ms k 0) active && quiet (k + 1) (sizes within) ms))
      || ((eqb (get_or ms k 0) (holding_of (kind own)) && one_runs within (k + 1) ms) || (eqb (kind own) 9 && (eqb (get_or ms k 0) active && (all_run within (k + 1) ms && not (quiet (k + 1) (sizes within) ms)))))) ≡ true
      → runs_in (act own within) k ms ≡ true
  unfolding runs_in
  plain-so own within k s e = second-of (is_scope own) (scope_runs (numbers_of own) within k ms) _ (runs_in (act own within) k ms) refl s ∙ e

  stop-plain : (own : Own) (within : Acts) (k : ℕ) → is_scope own ≡ false → stopped_in (act own within) k ms ≡ (eqb (get_or ms k 0) idle && stopped_all within (k + 1) ms)
  unfolding runs_in
  stop-plain own within k s = second-of (is_scope own) (quiet k (1 + sizes within) ms || (not (eqb (get_or ms k 0) active || eqb (get_or ms k 0) done) && scope_runs (numbers_of own) within k ms)) _ (stopped_in (act own within) k ms) refl s

  stop-scope : (own : Own) (within : Acts) (k : ℕ) → is_scope own ≡ true
      → stopped_in (act own within) k ms ≡ (quiet k (1 + sizes within) ms || (not (eqb (get_or ms k 0) active || eqb (get_or ms k 0) done) && scope_runs (numbers_of own) within k ms))
  unfolding runs_in
  stop-scope own within k s = first-of (is_scope own) _ (eqb (get_or ms k 0) idle && stopped_all within (k + 1) ms) (stopped_in (act own within) k ms) refl s

  undo-plain : (own : Own) (within : Acts) (k : ℕ) → is_scope own ≡ false → undoing_in (act own within) k ms ≡ (eqb (get_or ms k 0) idle && undoing_one within (k + 1) ms)
  unfolding runs_in
  undo-plain own within k s = ap (λ (b : Bool). eqb (get_or ms k 0) idle && b) (second-of (is_scope own) (cond (has_undo own) (last_runs within (k + 1) ms) (undoing_first within (k + 1) ms)) (undoing_one within (k + 1) ms) _ refl s)

  -- a scope that turned is stopped
  stop-turned : {b : Bool} (m : ℕ) (a : Bool) → is_open m ≡ false → b ≡ true → (a || (not (eqb m active || eqb m done) && b)) ≡ true
  stop-turned m a e d = rw (e, d, or-true)

  -- what is quiet is stopped
  mutual
    unfolding size runs_in

    quiet-stopped : (a : Act) (k : ℕ) → Quiet ms k (size a) → stopped_in a k ms ≡ true
    quiet-stopped (act own within) k q =
        decide (is_scope own)
        (λ s. stop-scope own within k s ∙ rw (quiet_told (1 + sizes within) k ms q))
        (λ s. stop-plain own within k s ∙ rw (q.at k (omega arith) (omega arith), quiet-stopped-all within (k + 1) (quiet-part q (omega arith) (omega arith))))

    quiet-stopped-all : (l : Acts) (c : ℕ) → Quiet ms c (sizes l) → stopped_all l c ms ≡ true
    quiet-stopped-all none c q = refl
    quiet-stopped-all (more a l) c q = rw (quiet-stopped a c (quiet-part q (omega arith) (omega arith)), quiet-stopped-all l (c + size a) (quiet-part q (omega arith) (omega arith)))

  mutual
    unfolding size runs_in kind count

    run-so : {a : Act} {k : ℕ} → Run ms a k → runs_in a k ms ≡ true
    run-so (run-awaits {own} {within} {k} s y e q) = plain-so own within k s (rw (doing own y, eq-so (get_or ms k 0) active e refl, quiet_told (sizes within) (k + 1) ms q))
    run-so (run-one {own} {within} {k} s e r) =
        plain-so own within k s (rw (one-so r, subst (λ (m : ℕ). eqb (get_or ms k 0) m ≡ true) (sym (holds-so own s)) (subst (λ (m : ℕ). eqb m (holding own) ≡ true) (sym e) (eq-eqb (holding own) (holding own) refl)), or-true))
    run-so (run-all {within} {k} e r z) =
        plain-so flow within k refl (rw (eq-so (get_or ms k 0) active e refl, all_so r, decide (quiet (k + 1) (sizes within) ms) (λ d. absurd (z (quiet-found (sizes within) (k + 1) ms d))) (λ d. d), or-true, or-true))
    run-so (run-body {v} {b} {f} {u} {k} e r q) = rw (eq-so (get_or ms k 0) active e refl, run-so r, q-so (k + 1 + size b) (size f + sizes u) q (omega arith) (omega arith))
    run-so (run-done {v} {b} {f} {u} {k} e q) = rw (eq-so (get_or ms k 0) done e refl, q-so (k + 1) (size b + (size f + sizes u)) q (omega arith) (omega arith), or-true)
    run-so (run-turned {f} {u} t) = rw (turned_so f u t refl, or-true, or-true)

    one-so : {l : Acts} {c : ℕ} → One ms l c → one_runs l c ms ≡ true
    one-so (one-here {a} {l} {c} r q) = rw (run-so r, quiet_told (sizes l) (c + size a) ms q)
    one-so (one_later {a} {l} {c} q r) = rw (quiet_told (size a) c ms q, one-so r, or-true)

    all_so : {l : Acts} {c : ℕ} → All ms l c → all_run l c ms ≡ true
    all_so all_none = refl
    all_so (all-run r q) = rw (run-so r, all_so q)
    all_so (all_quiet {a} {l} {c} q r) = rw (quiet_told (size a) c ms q, or-true, all_so r)

    -- the i-th runs, and the others are quiet; the last
    only_so : {i : ℕ} {l : Acts} {c : ℕ} → Nth ms i l c → only_runs i l c ms ≡ true
    only_so (nth_here {a} {l} {c} r q) = rw (run-so r, quiet_told (sizes l) (c + size a) ms q)
    only_so (nth-later {i} {a} {l} {c} q r) = rw (ne_eqb (suc i) 0 (omega arith), quiet_told (size a) c ms q, one_less i) (only_so r)

    last-so : {i : ℕ} {l : Acts} {c : ℕ} → Nth ms i l c → count l ≡ suc i → last_runs l c ms ≡ true
    last-so (nth_here {l = none} r q) e = run-so r
    last-so (nth_here {l = more x l} r q) e = absurd (omega arith)
    last-so (nth-later {l = none} q r) e = absurd (omega arith)
    last-so (nth-later {i} {a} {l = more x l} {c} q r) e = rw (quiet_told (size a) c ms q) (last-so r (omega arith))

    turned_so : {xs : List ℕ} {m kb kf : ℕ} {b : Act} {l : Acts} (f : Act) (u : Acts) → Turned ms xs m b kb l kf → l ≡ more f u
        → turned_runs (choice_on xs m) (more f u) kf ms m (stopped_in b kb ms && inner_runs b kb ms) (undoing_in b kb ms) (quiet kb (size b) ms) ≡ true
    turned_so f u (turned-waits {w} {m = m} {kf = kf} e s i y) d = rw (waits-is m w e, stopped-so s, i, quiet_told (size f + sizes u) kf ms (subst (λ (l : Acts). Quiet ms kf (sizes l)) d y))
    turned_so f u (turned-undoes {w} {m = m} {kf = kf} e s y) d = rw (undoes-is m w e, undoing-so s, or-true, quiet_told (size f + sizes u) kf ms (subst (λ (l : Acts). Quiet ms kf (sizes l)) d y))
    turned_so f u (turned-heals {xs} {m} {kb} {kf} {b} e y r) d =
        let z : only_runs (choice_on xs m) (more f u) kf ms ≡ true = subst (λ (l : Acts). only_runs (choice_on xs m) l kf ms ≡ true) d (only_so r) in rw (heals-is m e, quiet_told (size b) kb ms y, z, or-true)

    stopped-so : {a : Act} {k : ℕ} → Stopped ms a k → stopped_in a k ms ≡ true
    stopped-so (stopped-part {own} {within} {k} s e r) = stop-plain own within k s ∙ rw (e, stopped-all-so r)
    stopped-so (stopped-quiet {a} {k} q) = quiet-stopped a k q
    stopped-so (stopped-scope {xs} {v} {b} {f} {u} {k} t) =
        let z : scope_runs xs (trio b f u) k ms ≡ true = rw (turned_so f u t refl, or-true, or-true) in stop-scope (scope xs v) (trio b f u) k refl ∙ stop-turned (get_or ms k 0) (quiet k (1 + sizes (trio b f u)) ms) (turned-not-open t) z

    stopped-all-so : {l : Acts} {c : ℕ} → StoppedIn ms l c → stopped_all l c ms ≡ true
    stopped-all-so stopped_none = refl
    stopped-all-so (stopped_more r q) = rw (stopped-so r, stopped-all-so q)

    undoing-so : {a : Act} {k : ℕ} → Undoing ms a k → undoing_in a k ms ≡ true
    undoing-so (undoing-part {own} {within} {k} s e r) = undo-plain own within k s ∙ rw (e, undoing-one-so r)
    undoing-so (undoing-scope e n r) = rw (e, last-so r n)
    undoing-so (undoing-through {b} {f} {u} {k} e r q) = rw (e, undoing-so r, q-so (k + 1 + size b) (size f + sizes u) q (omega arith) (omega arith))

    undoing-one-so : {l : Acts} {c : ℕ} → UndoingIn ms l c → undoing_one l c ms ≡ true
    undoing-one-so (undoing-here {a} {l} {c} r q) = rw (undoing-so r, quiet_told (sizes l) (c + size a) ms q)
    undoing-one-so (undoing-later {a} {l} {c} q r) = rw (quiet_told (size a) c ms q, undoing-one-so r, or-true)

-- an order that stands
standing-so : (p : Plan) (o : Order) → Standing p o → stands p o ≡ true
unfolding stands
standing-so p o st = go st.runs
  where
    ms : List ℕ
    ms = o.marks

    go : Running (root_of p) o.marks o.root → stands p o ≡ true
    go (scope_live e r q) = rw (eq-so o.root active e refl, run-so ms r, quiet_told (size p.fault) (size p.body) ms (one-quiet p.fault q))
    go (scope-done e q r) = absurd (st.going e)
    go (scope-turned (turned-waits {w} e s i y)) = rw (waits-is o.root w e, stopped-so ms s, i, quiet_told (size p.fault) (size p.body) ms (one-quiet p.fault y), or-true)
    go (scope-turned (turned-undoes {w} e s y)) = rw (undoes-is o.root w e, undoing-so ms s, quiet_told (size p.fault) (size p.body) ms (one-quiet p.fault y), or-true, or-true)
    go (scope-turned (turned-heals e y r)) = rw (heals-is o.root e, quiet_told (size p.body) 0 ms y, run-so ms (only-runs r (choice-none o.root)), or-true, or-true)

-- Every live order stands.
pub stands-told : Stands
unfolding Stands
stands-told bytes p next e calls slot t v = go (slot-after bytes p next e calls slot t) v
  where
    go : {o : Order} {past : List Event} → Slot p o past → is_live o ≡ true → stands p o ≡ true
    go (slot-free x y) v = absurd (false≢true (sym x ∙ v))
    go {o} (slot-live x y) v = standing-so p o x
