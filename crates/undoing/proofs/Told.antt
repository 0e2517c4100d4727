-- Marks and lists after any calls, by the history: from the ties that hold of every slot. Assumes nothing.
use Prim.Native.Nat.{ℕ}
use mathlib.Core.Path.{◌≡◌, refl, sym, subst, ◌∙◌}
use mathlib.Core.Bool.{Bool, true, false, not, ◌&&◌, false≢true, ◌||◌}
use mathlib.Core.List.{List, [], ◌∷◌, ◌++◌, append-nil}
use lib.Dec.{eqb}
use borrow.Author.Tests.{eqb-true}
use Rattle.plan.specs.Found.{Found, found}
use Rattle.plan.specs.Read.{read_plan}
use Rattle.plan.proofs.Limits.{accepted-is-within}
use Rattle.order.specs.declared.Order.{Order}
use Rattle.machine.specs.declared.State.{State}
use Rattle.machine.specs.declared.Tally.{Tally}
use Rattle.order.specs.Lists.{every}
use Rattle.machine.specs.Fit.{Ready, ready_of}
use Rattle.order.specs.State.{Name, idle, active, done, faulty, undoing, handling, halted, withdrawing, mark_of, is_live, state_in}
use Rattle.machine.specs.State.{fresh}
use Rattle.order.specs.Event.{Event}
use Rattle.order.specs.Scope.{is_open}
use Rattle.machine.specs.Calls.{loaded_as, load, post, collect, drop_at, step, Call, posting, collecting, dropping, stepping}
use Rattle.undoing.specs.History.{log_of, history}
use Rattle.undoing.specs.Demand3.{closings_of, undone_of, has_turned, is_left, may_turn, none_now}
use Rattle.plan.specs.Tree.{Plan}
use Rattle.undoing.specs.Ties.{is_name, state_after, order_after, past_after, LiveTold, is_turned, MarksTold, remembered, ListsTold, fits, place_now, PlacesTold}
use Rattle.undoing.proofs.Parts.{decide}
use Rattle.undoing.proofs.Accounts.{Account, account_of, left-unfinished, Phase, rest, live, waits, undoes, heals, odd, phase, Tied}
use Rattle.undoing.proofs.Orders.{list_of, onto, onto-append}
use Rattle.undoing.proofs.Roots.{Awaited, Standing}
use Rattle.undoing.proofs.Offered.{Each, each_none, each_more, ready-awaited}
use Rattle.undoing.proofs.Fitting.{standing-fits}
use Rattle.undoing.proofs.Planning.{Promised, promised}
use Rattle.undoing.proofs.Slots.{Slot, slot-free, slot-live, standing-live, post-same, collect-same, drop-same, Sane, same-sane, fresh-sane}
use Rattle.undoing.proofs.Demanded.{step_after}

-- what a mark of each phase is
pub record Told (m : ℕ) (left turned : Bool) (finished : Bool) : Type 0 where
  pub idles : not (eqb m idle) ≡ left
  pub opens : is_open m ≡ (left && not turned)
  pub turns : is_turned m ≡ (turned && not finished)

-- a mark and the account tied to it
pub told : (m : ℕ) (l : List ℕ) (a : Account) → (a.left ≡ true → a.finished ≡ false) → Tied (phase m) l a → Told m a.left a.turned a.finished
told m l a f t =
    decide (eqb m idle) (λ e. is idle e resting)
    (λ e1. decide (eqb m active) (λ e. is active e (opened refl refl refl))
    (λ e2. decide (eqb m done) (λ e. is done e (opened refl refl refl))
    (λ e3. decide (eqb (state_in m) faulty || eqb m halted)
    (λ e. let z : Tied (waits (eqb (state_in m) faulty)) l a = rw (e2, e3, e) at t in turned (rw e1) (rw (e2, e3)) (rw e) (z.0, z.1))
    (λ e4. decide (eqb (state_in m) undoing || eqb m withdrawing)
    (λ e. let z : Tied (undoes (eqb (state_in m) undoing)) l a = rw (e2, e3, e4, e) at t in turned (rw e1) (rw (e2, e3)) (rw (e4, e)) (z.0, z.1))
    (λ e5. decide (eqb (state_in m) handling)
    (λ e. let z : Tied heals l a = rw (e2, e3, e4, e5, e) at t in turned (rw e1) (rw (e2, e3)) (rw (e4, e5, e)) (z.0, z.1))
    (λ e6. absurd (rw (e1, e2, e3, e4, e5, e6) at t)))))))
  where
    is : (v : ℕ) → eqb m v ≡ true → (Tied (phase v) l a → Told v a.left a.turned a.finished) → Told m a.left a.turned a.finished
    is v e g = subst (λ (z : ℕ). Tied (phase z) l a → Told z a.left a.turned a.finished) (sym (eqb-true m v e)) g t

    resting : Tied rest l a → Told idle a.left a.turned a.finished
    resting t = record { idles = sym t.0; opens = rw t.0; turns = sym t.2 }

    opened : {v : ℕ} → not (eqb v idle) ≡ true → is_open v ≡ true → is_turned v ≡ false → Tied live l a → Told v a.left a.turned a.finished
    opened x y z t = record { idles = x ∙ sym t.0; opens = y ∙ rw (t.0, t.1); turns = z ∙ rw t.1 }

    turned : {v : ℕ} → not (eqb v idle) ≡ true → is_open v ≡ false → is_turned v ≡ true → (a.left ≡ true) × (a.turned ≡ true) → Told v a.left a.turned a.finished
    turned x y z t = record { idles = x ∙ sym t.0; opens = y ∙ rw (t.0, t.1); turns = z ∙ rw (t.1, f t.0) }

-- the same for the list
pub listed : (q : Phase) (l : List ℕ) (a : Account) → Tied q l a → (a.left ≡ true → a.closings ≡ a.undone ++ l) × (a.left ≡ false → l ≡ [])
listed rest l a t = ((λ e. absurd (false≢true (sym t.0 ∙ e))), λ e. t.1)
listed live l a t = ((λ e. t.3 ∙ rw t.2), λ e. absurd (false≢true (sym e ∙ t.0)))
listed (waits w) l a t = ((λ e. t.3 ∙ rw t.2), λ e. absurd (false≢true (sym e ∙ t.0)))
listed (undoes w) l a t = ((λ e. t.2), λ e. absurd (false≢true (sym e ∙ t.0)))
listed heals l a t = ((λ e. t.2 ∙ rw (t.3, append-nil)), λ e. absurd (false≢true (sym e ∙ t.0)))
listed odd l a t = absurd t

module _ (p : Plan) (bytes : List ℕ) (next i : ℕ) (accepted : read_plan bytes ≡ found p next) (h : Promised p) where
  -- after any calls the slot is as it should be
  pub sanely : (calls : List Call) (s : State) (t : Tally) (past : List Event) → Sane p bytes next i accepted h s past
      → Sane p bytes next i accepted h (state_after calls s t) (onto (history calls i s t) past)
  unfolding history state_after
  sanely [] s t past g = g
  sanely (posting m ∷ l) s t past g = sanely l (post m s).state t past (same-sane p bytes next i accepted h s (post m s).state past (post-same m s) g)
  sanely (collecting ∷ l) s t past g = sanely l (collect s).state t past (same-sane p bytes next i accepted h s (collect s).state past (collect-same s) g)
  sanely (dropping j ∷ l) s t past g = sanely l (drop_at j s).state t past (same-sane p bytes next i accepted h s (drop_at j s).state past (drop-same j s) g)
  sanely (stepping c ∷ l) s t past g =
      subst (λ (z : List Event). Sane p bytes next i accepted h (state_after l (step c s t).state (step c s t).tally) z)
      (sym (onto-append past (log_of i (step c s t)) (history l i (step c s t).state (step c s t).tally)))
      (sanely l (step c s t).state (step c s t).tally (onto (log_of i (step c s t)) past) (step_after p bytes next i accepted h c s t past g).1)

-- the slot after any calls from a fresh start
pub slot-after : (bytes : List ℕ) (p : Plan) (next : ℕ) → read_plan bytes ≡ found p next → (calls : List Call) (slot : ℕ) (t : Tally)
    → Slot p (order_after calls slot (load bytes).state t) (past_after calls slot (load bytes).state t)
unfolding load
slot-after bytes p next e calls slot t =
    subst (λ (f : Found Plan). Slot p (order_after calls slot (loaded_as bytes f).state t) (past_after calls slot (loaded_as bytes f).state t)) (sym e)
    (sanely p bytes next slot e (promised p (accepted-is-within bytes e)) calls (fresh bytes) t [] (fresh-sane p bytes next slot e (promised p (accepted-is-within bytes e)))).slot

-- Whether the slot is live.
pub live-told : LiveTold
unfolding LiveTold
live-told bytes p next e calls slot t = go (slot-after bytes p next e calls slot t)
  where
    go : {o : Order} {past : List Event} → Slot p o past → is_live o ≡ not (none_now past)
    go {o} {past} (slot-free x y) = x ∙ rw y
    go {o} {past} (slot-live x y) = standing-live p o x ∙ rw y.now

-- The marks of the scopes.
pub slot-marks : {p : Plan} {o : Order} {past : List Event} → Slot p o past → is_live o ≡ true → (n : Name) → is_name p n ≡ true
    → (not (eqb (mark_of n o) idle) ≡ is_left n past) × (is_open (mark_of n o) ≡ may_turn n past) × (is_turned (mark_of n o) ≡ has_turned n past)
unfolding may_turn has_turned
slot-marks (slot-free x y) v n i = absurd (false≢true (sym x ∙ v))
slot-marks {p} {o} {past} (slot-live x y) v n i =
    let z = told (mark_of n o) (list_of p n o) (account_of p n past) (λ l. left-unfinished n past l) (y.ties n i) in
    (z.idles, z.opens, z.turns)

pub marks-told : MarksTold
unfolding MarksTold
marks-told bytes p next e calls slot t = slot-marks (slot-after bytes p next e calls slot t)

-- What is remembered for them.
pub lists-told : ListsTold
unfolding ListsTold
lists-told bytes p next e calls slot t v n i = go (slot-after bytes p next e calls slot t) v
  where
    go : {o : Order} {past : List Event} → Slot p o past → is_live o ≡ true
        → (is_left n past ≡ true → closings_of p n past ≡ undone_of p n past ++ remembered n o) × (is_left n past ≡ false → remembered n o ≡ [])
    go (slot-free x y) v = absurd (false≢true (sym x ∙ v))
    go {o} {past} (slot-live x y) v = listed (phase (mark_of n o)) (list_of p n o) (account_of p n past) (y.ties n i)

-- Where what awaits its step stands.
pub places-told : PlacesTold
unfolding PlacesTold every
places-told bytes p next e calls slot t v = go (slot-after bytes p next e calls slot t) v
  where
    each : {o : Order} {l : List Ready} → Standing p o → Each {A = Ready} (λ r. Awaited p o.marks r.activity) l → every (λ r. fits (place_now p o r.activity) o) l ≡ true
    each st each_none = refl
    each {o} st (each_more {a} w l) = rw (standing-fits p o a.activity st w, each st l)

    go : {o : Order} {past : List Event} → Slot p o past → is_live o ≡ true → every (λ r. fits (place_now p o r.activity) o) (ready_of p o) ≡ true
    go (slot-free x y) v = absurd (false≢true (sym x ∙ v))
    go {o} (slot-live x y) v = each x (ready-awaited p o)
