-- Nothing changes in a slot but by its own steps. Assumes nothing.
use Prim.Native.Nat.{ℕ, zero, suc}
use mathlib.Core.Path.{◌≡◌, refl, sym, ap, subst, ◌∙◌}
use mathlib.Core.Bool.{Bool, true, false, false≢true}
use mathlib.Core.List.{List, [], ◌∷◌, ◌++◌, map}
use lib.ListN.{get_or, set}
use lib.Seq.{get_or-set_other}
use lib.Dec.{eqb}
use borrow.Author.Tests.{eqb-true, eqb-false, eq-eqb}
use Rattle.plan.specs.Found.{Found, found, refused}
use Rattle.plan.specs.Read.{read_plan}
use Rattle.plan.specs.Tree.{Plan}
use Rattle.order.specs.declared.Order.{Order}
use Rattle.machine.specs.declared.State.{State}
use Rattle.machine.specs.declared.Tally.{Tally}
use Rattle.order.specs.State.{is_live, no_order}
use Rattle.machine.specs.State.{fresh}
use Rattle.order.specs.Event.{Event, started}
use Rattle.order.specs.declared.End.{End}
use Rattle.order.specs.declared.End.TheVariants.{None, Well, Handled, Failed, Left}
use Rattle.order.specs.Acting.{Moved, in_place, acted, begun_order, started_order}
use Rattle.order.specs.Judging.{Verdict, clear, clash, conflict, spare}
use Rattle.machine.specs.Limits.{plan_in, by}
use Rattle.machine.specs.Offer.{Offer, offers_of}
use Rattle.machine.specs.Calls.{refusing, Chosen, refused_choice, chosen, choosing, count_start, loaded_as, load, post, collect, drop_at, Stepped, doing_at, messages_after, stepped, taken, step_chosen, step_by, step, Call, posting, collecting, dropping, stepping}
use Rattle.undoing.specs.History.{log_of}
use Rattle.undoing.specs.Ties.{state_after, is_taken, own_step}
use Rattle.undoing.specs.Begun.{Taken, raises_of, taken_by, steps_taken, last_of}
use Rattle.undoing.specs.Entirely.{same_order, chained, Chained, OthersKept}
use Rattle.undoing.proofs.Parts.{both, decide, alike-itself}
use Rattle.plan.proofs.Limits.{accepted-is-within}
use Rattle.undoing.proofs.Orders.{onto}
use Rattle.undoing.proofs.Planning.{Promised, promised}
use Rattle.undoing.proofs.Slots.{Same, messages-same, post-same, collect-same, drop-same, fresh-order, Sane, same-sane, fresh-sane}
use Rattle.undoing.proofs.Happening.{order_in, step-happens}
use Rattle.undoing.proofs.Demanded.{step_after}
use Rattle.undoing.proofs.Times.{happens-times}

-- A step that is taken changes the slot of its answer.
stepped-other : (p : Plan) (x : Offer) (s : State) (t : Tally) (o : Order) (l : List Event) (i : ℕ) → is_taken i (stepped p x s t o l) ≡ false
    → order_in (stepped p x s t o l).state i ≡ order_in s i
unfolding stepped
stepped-other p x s t o l i e =
    let u = messages-same (doing_at p x.activity) x.place o s in
    get_or-set_other (messages_after (doing_at p x.activity) x.place o s).orders x.slot i _ no_order (λ d. eqb-false x.slot i e (sym d)) ∙ ap (λ (os : List Order). get_or os i no_order) u.orders

-- the slot i is as it was unless the step is its own
abbrev Other : State → (i : ℕ) → Stepped → Type 0
Other s i r = is_taken i r ≡ false → order_in r.state i ≡ order_in s i

taken-other : (p : Plan) (x : Offer) (s : State) (t : Tally) (i : ℕ) → Other s i (taken p x s t)
unfolding taken
taken-other p x s t i = go (is_live (order_in s x.slot))
  where
    go : (b : Bool) → Other s i (elim b [ true ↦ stepped p x s t (order_in s x.slot) [] | false ↦ stepped p x s (count_start t) (started_order p) (started ∷ (begun_order p).log) ])
    go true = stepped-other p x s t (order_in s x.slot) [] i
    go false = stepped-other p x s (count_start t) (started_order p) (started ∷ (begun_order p).log) i

pub step_other : (c : ℕ) (s : State) (t : Tally) (i : ℕ) → is_taken i (step c s t) ≡ false → order_in (step c s t).state i ≡ order_in s i
unfolding step step_by step_chosen
step_other c s t i = found-by (plan_in s)
  where
    choice : (p : Plan) (y : Chosen) → is_taken i (step_chosen p s t y) ≡ false → order_in (step_chosen p s t y).state i ≡ order_in s i
    choice p (refused_choice n) e = refl
    choice p (chosen x) e = taken-other p x s t i e

    found-by : (f : Found Plan) → is_taken i (by (record { answer = refusing 17; state = s; tally = t; log = [] }) (λ p. step_by p c s t) f) ≡ false
        → order_in (by (record { answer = refusing 17; state = s; tally = t; log = [] }) (λ p. step_by p c s t) f).state i ≡ order_in s i
    found-by (refused n q) e = refl
    found-by (found p n) e = choice p (choosing (offers_of p s) c) e

pub others-kept : OthersKept
unfolding OthersKept
others-kept = (step_other, (λ m s. (post-same m s).orders), (λ s. (collect-same s).orders), λ j s. (drop-same j s).orders)

-- Over any calls.
order_same : (o : Order) → same_order o o ≡ true
unfolding same_order
order_same o =
    rw (eq-eqb o.root o.root refl, eq-eqb o.kept o.kept refl, eq-eqb o.cause o.cause refl, alike-itself o.marks, alike-itself o.values, alike-itself o.bound, alike-itself (map (λ c. c.scope) o.remembered), alike-itself (map (λ c. c.part) o.remembered))

-- times that follow each other
chained_append : (o : Order) (l m : List Taken) (q : Order) → chained o l (last_of o l) ≡ true → chained (last_of o l) m q ≡ true → chained o (l ++ m) q ≡ true
unfolding chained last_of
chained_append o [] m q a b = b
chained_append o (x ∷ l) m q a b = both (same_order o x.before) (chained x.after l (last_of x.after l)) a (λ c d. rw (c, chained_append x.after l m q d b))

chained-raises : (n : ℕ) (p : Plan) (m : Moved) → chained m.order (raises_of n p m) (last_of m.order (raises_of n p m)) ≡ true
unfolding raises_of chained last_of
chained-raises zero p m = order_same m.order
chained-raises (suc n) p m = go (λ m'. chained-raises n p m') m.end
  where
    all : Verdict → List Taken
    all v = elim v [ clear ↦ [] | clash k ↦ record { activity = k; before = m.order; after = (acted in_place p k m.order).order; log = (acted in_place p k m.order).log } ∷ raises_of n p (acted in_place p k m.order) ]

    on : ((m' : Moved) → chained m'.order (raises_of n p m') (last_of m'.order (raises_of n p m')) ≡ true) → (v : Verdict) → chained m.order (all v) (last_of m.order (all v)) ≡ true
    on f clear = order_same m.order
    on f (clash k) = rw (order_same m.order, f (acted in_place p k m.order))

    go : ((m' : Moved) → chained m'.order (raises_of n p m') (last_of m'.order (raises_of n p m')) ≡ true) → (e : End) → let l = elim e as (λ _. List Taken) [ None ↦ all (conflict p m.order) | Well ↦ [] | Handled ↦ [] | Failed ↦ [] | Left ↦ [] ] in chained m.order l (last_of m.order l) ≡ true
    go f None = on f (conflict p m.order)
    go f Well = order_same m.order
    go f Handled = order_same m.order
    go f Failed = order_same m.order
    go f Left = order_same m.order

module _ (p : Plan) (bytes : List ℕ) (next i : ℕ) (accepted : read_plan bytes ≡ found p next) (h : Promised p) where
  taken-chained : (s : State) (r : Stepped) → chained (order_in s i) (taken_by p i s r) (last_of (order_in s i) (taken_by p i s r)) ≡ true
  unfolding chained last_of
  taken-chained s r =
      decide (is_taken i r)
      (λ e. rw (e, order_same (order_in s i), chained-raises (spare p (own_step p i s r).order) p (own_step p i s r)))
      (λ e. rw (e, order_same (order_in s i)))

  chain : (calls : List Call) (s : State) (t : Tally) (past : List Event) → Sane p bytes next i accepted h s past
      → chained (order_in s i) (steps_taken p calls i s t) (order_in (state_after calls s t) i) ≡ true
  unfolding chained steps_taken state_after
  chain [] s t past g = order_same (order_in s i)
  chain (posting m ∷ l) s t past g =
      subst (λ (o : Order). chained o (steps_taken p l i (post m s).state t) (order_in (state_after l (post m s).state t) i) ≡ true)
      (ap (λ (os : List Order). get_or os i no_order) (post-same m s).orders) (chain l (post m s).state t past (same-sane p bytes next i accepted h s (post m s).state past (post-same m s) g))
  chain (collecting ∷ l) s t past g =
      subst (λ (o : Order). chained o (steps_taken p l i (collect s).state t) (order_in (state_after l (collect s).state t) i) ≡ true)
      (ap (λ (os : List Order). get_or os i no_order) (collect-same s).orders) (chain l (collect s).state t past (same-sane p bytes next i accepted h s (collect s).state past (collect-same s) g))
  chain (dropping j ∷ l) s t past g =
      subst (λ (o : Order). chained o (steps_taken p l i (drop_at j s).state t) (order_in (state_after l (drop_at j s).state t) i) ≡ true)
      (ap (λ (os : List Order). get_or os i no_order) (drop-same j s).orders) (chain l (drop_at j s).state t past (same-sane p bytes next i accepted h s (drop_at j s).state past (drop-same j s) g))
  chain (stepping c ∷ l) s t past g =
      let r = step c s t in
      let q = order_in (state_after l r.state r.tally) i in
      chained_append (order_in s i) (taken_by p i s r) (steps_taken p l i r.state r.tally) q (taken-chained s r)
      (subst (λ (o : Order). chained o (steps_taken p l i r.state r.tally) q ≡ true) (happens-times p bytes next i accepted h s past r (step-happens p bytes next i accepted h c s t past g).happens).1
      (chain l r.state r.tally (onto (log_of i r) past) (step_after p bytes next i accepted h c s t past g).1))

pub chained-told : Chained
unfolding Chained load fresh
chained-told bytes p next e calls slot t =
    subst (λ (f : Found Plan). chained no_order (steps_taken p calls slot (loaded_as bytes f).state t) (order_in (state_after calls (loaded_as bytes f).state t) slot) ≡ true) (sym e)
    (subst (λ (o : Order). chained o (steps_taken p calls slot (fresh bytes) t) (order_in (state_after calls (fresh bytes) t) slot) ≡ true) (fresh-order slot)
    (let h = promised p (accepted-is-within bytes e) in chain p bytes next slot e h calls (fresh bytes) t [] (fresh-sane p bytes next slot e h)))
