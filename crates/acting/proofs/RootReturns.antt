-- The returns of the functions on a whole order. Assumes nothing.
use mathlib.Core.Path.{◌≡◌, refl, sym, ap, ◌∙◌}
use mathlib.Core.Bool.{Bool, true, false, cond}
use mathlib.Core.List.{List, []}
use mathlib.Core.Logic.{◌⊎◌, inl, inr}
use Prim.Native.Nat.{ℕ, ◌+◌, ◌-◌, ◌<◌, ◌≤◌, min}
use native.Mathlib.Omega.{arith}
use borrow.Author.Tests.{eq-eqb, ne_eqb, lt-ltb, le-ltb, ltb-false}
use lib.Dec.{eqb, ltb}
use Rattle.plan.specs.Tree.{Act, act, Acts, none, more, Plan, size, sizes, count}
use Rattle.order.specs.declared.Closing.{Closing}
use Rattle.order.specs.declared.End.TheVariants.{None, Well, Handled, Failed, Left}
use Rattle.order.specs.declared.Next.{Next}
use Rattle.order.specs.declared.Order.{Order}
use Rattle.order.specs.declared.Spot.{Spot}
use Rattle.order.specs.declared.Way.{Way}
use Rattle.order.specs.declared.Way.TheVariants.{Running, Over, Raising, Leaving, Undone, UndoRaising}
use Rattle.order.specs.declared.Went.{Went}
use Rattle.order.specs.Acting.{Actor, step_in, step_root, end_of, fault_of, moved_to, acted}
use Rattle.order.specs.Answering.{went, outcome, next_of, ended_of, Makes, StepsIn, root_made, RootSpot, ActsOrder}
use Rattle.order.specs.Begin.{part, part_at}
use Rattle.order.specs.Event.{Event}
use Rattle.order.specs.Room.{has_room, room_in, room_among, room_plan}
use Rattle.order.specs.Scope.{Scope, Outcome, root_of, from_body, from_fault}
use Rattle.order.specs.Stands as standing
use Rattle.order.specs.Stands.{PlanStands}
use Rattle.order.specs.State.{closings}
use Rattle.order.proofs.Deciding.{yes, no}
use Rattle.acting.proofs.CombineReturns.{body_same, fault-same}
use Rattle.order.proofs.PlanStands.{plan-stands}
use Rattle.order.proofs.Standing.{size-pos, stands-end, stands-inside}

-- `moved_to`
module _ (r : Went) where
  pub moved-well : r.way ≡ Running → r.order.root ≡ 3 → {p : Next} → p ≡ ended_of Well 0 → p ≡ next_of (moved_to (outcome r) (end_of (outcome r)))
  unfolding moved_to end_of fault_of
  moved-well e h i = rw (e, eq-eqb _ _ h) i

  pub moved-handled : r.way ≡ Over → {p : Next} → p ≡ ended_of Handled r.order.cause → p ≡ next_of (moved_to (outcome r) (end_of (outcome r)))
  unfolding moved_to end_of fault_of
  moved-handled e i = rw e i

  pub moved-failed : {x : ℕ} → r.way ≡ Raising x → {p : Next} → p ≡ ended_of Failed x → p ≡ next_of (moved_to (outcome r) (end_of (outcome r)))
  unfolding moved_to end_of fault_of
  moved-failed e i = rw e i

  pub moved-left : r.way ≡ Leaving → {p : Next} → p ≡ ended_of Left 0 → p ≡ next_of (moved_to (outcome r) (end_of (outcome r)))
  unfolding moved_to end_of fault_of
  moved-left e i = rw e i

  pub moved_on : r.way ≡ Running → (r.order.root ≡ 3 → ⊥) → ◌≡◌ {A = Next} (record { end = None; fault = 0; order = r.order }) (next_of (moved_to (outcome r) (end_of (outcome r))))
  unfolding moved_to end_of fault_of
  moved_on e h = rw (e, ne_eqb _ _ h)

  moved-undone : r.way ≡ Undone → ◌≡◌ {A = Next} (record { end = None; fault = 0; order = r.order }) (next_of (moved_to (outcome r) (end_of (outcome r))))
  unfolding moved_to end_of fault_of
  moved-undone e = rw e

  moved-undo_raising : {x : ℕ} → r.way ≡ UndoRaising x → ◌≡◌ {A = Next} (record { end = None; fault = 0; order = r.order }) (next_of (moved_to (outcome r) (end_of (outcome r))))
  unfolding moved_to end_of fault_of
  moved-undo_raising e = rw e

  pub moved-still : (r.way ≡ Undone) ⊎ ((x : ℕ) × (r.way ≡ UndoRaising x))
      → ◌≡◌ {A = Next} (record { end = None; fault = 0; order = r.order }) (next_of (moved_to (outcome r) (end_of (outcome r))))
  moved-still (inl e) = moved-undone e
  moved-still (inr x) = moved-undo_raising x.1

-- the end and the order do not hang on what happened
moved_same : (R : Outcome) → next_of (moved_to R (end_of R)) ≡ next_of (moved_to (outcome (went R)) (end_of (outcome (went R))))
unfolding moved_to end_of fault_of
moved_same R = go R.result R.order R.log
  where
    by-test : (b : Bool) (o : Order) (g : List Event)
        → next_of (moved_to (record { result = Running; order = o; log = g }) (cond b Well None))
        ≡ next_of (moved_to (record { result = Running; order = o; log = [] }) (cond b Well None))
    by-test true o g = refl
    by-test false o g = refl

    go : (w : Way) (o : Order) (g : List Event)
        → next_of (moved_to (record { result = w; order = o; log = g }) (end_of (record { result = w; order = o; log = g })))
        ≡ next_of (moved_to (record { result = w; order = o; log = [] }) (end_of (record { result = w; order = o; log = [] })))
    go Running o g = by-test (eqb o.root 3) o g
    go Over o g = refl
    go (Raising x) o g = refl
    go Leaving o g = refl
    go Undone o g = refl
    go (UndoRaising x) o g = refl

-- `root_spot`
pub root_is : (t : List ℕ) (activities : ℕ) {e : ℕ} → e ≡ min activities 256 → {n f : ℕ} → standing.End t 0 n → f < 256 → (n < 256 → f ≡ n)
    → RootSpot t activities (record { root = true; first = 0; end = e; body = 0; parts = f; count = 0 })
unfolding standing.Stands part part_at count
root_is t activities {e} h {n} {f} z u j = record {
  low = u;
  held = λ p s. record {
    end = omega arith;
    body = s.body;
    next = omega (arith, fault-at p s);
    parts = record { first = rw (fault-at p s) s.fault; rest = tt };
    general = omega arith;
    many = refl;
    numbers = record { row = omega arith; few = omega arith; is = λ i l. absurd (omega arith) };
  };
  same = λ p s.
      let m : activities ≤ 256 = omega (arith, s.many, stands-inside p.fault (size p.body) t s.fault) in
      let c : e - 0 ≡ size p.body + size p.fault = omega (arith, s.many, m, h) in
      rw (fault-at p s, c);
}
  where
    fault-at : (p : Plan) → PlanStands p activities t → f ≡ size p.body
    fault-at p s =
        let a : n ≡ 0 + size p.body = stands-end p.body 0 t s.body z in
        let b : n < 256 = omega (arith, stands-inside p.fault (size p.body) t s.fault, size-pos p.fault) in
        omega (arith, j b)

-- no step is held in what ends before it
room-past : (l : Acts) (c x : ℕ) (xs : List Closing) → c + sizes l ≤ x → room_among l c x xs ≡ true
unfolding room_in size
room-past none c x xs h = refl
room-past (more a l) c x xs h =
    no (ltb x (c + size a)) (room_in a c x xs) (room_among l (c + size a) x xs) (le-ltb x (c + size a) (omega arith))
    ∙ room-past l (c + size a) x xs (omega arith)

room-beyond : (a : Act) (k x : ℕ) (xs : List Closing) → k + size a ≤ x → room_in a k x xs ≡ true
unfolding room_in size
room-beyond (act own l) k x xs h =
    no (eqb k x) (has_room own l k xs) (room_among l (k + 1) x xs) (ne_eqb k x (λ e. omega arith)) ∙ room-past l (k + 1) x xs (omega arith)

-- `acted`
module _ (t : List ℕ) (activities : ℕ) (v : Actor) (x : ℕ) (o : Order) {z : Spot} (y : RootSpot t activities z) where
  fault-row : (p : Plan) → PlanStands p activities t → z.parts ≡ size p.body
  fault-row p s = ap (λ (c : Scope). c.parts_at) (y.same p s)

  room-body : (p : Plan) → x < size p.body → room_plan p x (closings o) ≡ true → room_in p.body 0 x (closings o) ≡ true
  unfolding room_in
  room-body p h g =
      let m : x < 0 + size p.body = omega arith in
      sym (yes (ltb x (0 + size p.body)) (room_in p.body 0 x (closings o)) _ (lt-ltb _ _ m)) ∙ g

  pub step-body : x < z.parts → {r : Went} → StepsIn t v 0 0 x o r → {p : Went} → Makes t z from_body r p → {n : Next}
      → n ≡ next_of (moved_to (outcome p) (end_of (outcome p))) → ActsOrder t activities v x o n
  unfolding acted step_root
  step-body h {r} a {p} b {n} c = record {
    is = λ q s room.
        let w = plan-stands s in
        let m : x < size q.body = omega (arith, fault-row q w) in
        let R = step_in v q.body 0 0 x o in
        let d : r ≡ went R = a.is q.body (omega arith) w.body (room-body q m room) in
        let e : p ≡ went (from_body (root_of q) (outcome (went R)))
        = (rw d at (b.is (root_made q) (y.held q w))) ∙ ap (λ (s : Scope). went (from_body s (outcome (went R)))) (y.same q w) in
        let f : p ≡ went (step_root v q x o)
        = e ∙ (sym (body_same (root_of q) R) ∙ sym (ap went (yes (ltb x (size q.body)) (from_body (root_of q) R) _ (lt-ltb _ _ m)))) in
        (rw f at c) ∙ sym (moved_same (step_root v q x o));
  }

  room-fault : (p : Plan) → size p.body ≤ x → room_plan p x (closings o) ≡ true → room_in p.fault (size p.body) x (closings o) ≡ true
  unfolding room_in
  room-fault p h g =
      let k : 0 + size p.body ≡ size p.body = omega arith in
      rw k at (go (ltb x (0 + size p.body + size p.fault)) refl
      (sym (no (ltb x (0 + size p.body)) (room_in p.body 0 x (closings o)) _ (le-ltb x (0 + size p.body) (omega arith))) ∙ g))
    where
      go : (b : Bool) → ltb x (0 + size p.body + size p.fault) ≡ b
          → ◌≡◌ {A = Bool} (elim b [ true ↦ room_in p.fault (0 + size p.body) x (closings o) | false ↦ true ]) true
          → room_in p.fault (0 + size p.body) x (closings o) ≡ true
      go true e v = v
      go false e v = room-beyond p.fault (0 + size p.body) x (closings o) (ltb-false _ _ e)

  pub step-fault : z.parts ≤ x → {r : Went} → StepsIn t v z.parts z.parts x o r → {p : Went} → Makes t z from_fault r p → {n : Next}
      → n ≡ next_of (moved_to (outcome p) (end_of (outcome p))) → ActsOrder t activities v x o n
  unfolding acted step_root
  step-fault h {r} a {p} b {n} c = record {
    is = λ q s room.
        let w = plan-stands s in
        let i : z.parts ≡ size q.body = fault-row q w in
        let m : size q.body ≤ x = omega arith in
        let R = step_in v q.fault (size q.body) (size q.body) x o in
        let d : r ≡ went R = (rw i at a).is q.fault (omega (arith, y.low)) w.fault (room-fault q m room) in
        let e : p ≡ went (from_fault (root_of q) (outcome (went R)))
        = (rw d at (b.is (root_made q) (y.held q w))) ∙ ap (λ (s : Scope). went (from_fault s (outcome (went R)))) (y.same q w) in
        let f : p ≡ went (step_root v q x o)
        = e ∙ (sym (fault-same (root_of q) R) ∙ sym (ap went (no (ltb x (size q.body)) (from_body (root_of q) _) (from_fault (root_of q) R) (le-ltb _ _ m)))) in
        (rw f at c) ∙ sym (moved_same (step_root v q x o));
  }
