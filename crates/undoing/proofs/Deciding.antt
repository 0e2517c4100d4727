-- What a choose or a repeat decides is done: what its expression picks begins in its step. Assumes nothing.
use Prim.Native.Nat.{ℕ, zero, suc, ◌+◌, ◌≤◌, ◌<◌}
use native.Mathlib.Omega.{arith}
use mathlib.Core.Path.{◌≡◌, refl, sym, ap, subst, ◌∙◌}
use mathlib.Core.Bool.{Bool, true, false, cond, ◌&&◌, ◌||◌, or-true}
use mathlib.Core.List.{List, [], ◌∷◌, ◌++◌}
use lib.Dec.{eqb, ltb}
use Rattle.plan.specs.Tree.{Exp, constant, variable, binary, Own, empty, send, receive, set as setting, raise, leave, choose, repeat, sequence, flow, pick, scope, arm, kind, is_scope, is_pick, Act, act, Acts, none, more, Plan, size, sizes, count}
use Rattle.order.specs.declared.Order.{Order}
use Rattle.order.specs.declared.End.{End}
use Rattle.order.specs.declared.End.TheVariants.{None, Well, Handled, Failed, Left}
use Rattle.machine.specs.declared.Message.{Message}
use Rattle.order.specs.Lists.{every}
use Rattle.order.specs.State.{inside, root, with_marks, marked}
use Rattle.order.specs.Event.{Event, started, ended}
use Rattle.order.specs.Expression.{conflicting_receive, Value, fault, value, evaluate, is_true}
use Rattle.order.specs.Begin.{part, part_at, begin_part, cleared}
use Rattle.order.specs.Scope.{Outcome, begun_in, root_of, from_body, from_fault}
use Rattle.order.specs.Acting.{finishes, raises, or_raises, enters, again, repeats, itself, arms, combines, step_in, step_among, step_root, end_of, moved_to, acted, begun_order, started_order, Actor, its_own, in_place, replaces, performs, is_part}
use Rattle.order.specs.Awaited.{doing_of, kind_at}
use Rattle.machine.specs.Calls.{doing_in, doing_among, doing_at, order_taking}
use Rattle.undoing.specs.Orderly.{is_began_of}
use Rattle.undoing.specs.Begun.{has_began}
use Rattle.undoing.specs.Onward.{picked_by, picks, picks_in, picks_among, picks_at, is_decided, Decided}
use Rattle.undoing.proofs.Parts.{decide, some-append, every-so}
use Rattle.undoing.proofs.Orders.{least}
use Rattle.undoing.proofs.Places.{first-of, second-of}
use Rattle.undoing.proofs.Planning.{Promised}
use Rattle.undoing.proofs.Slots.{standing-live}
use Rattle.undoing.proofs.Deeds.{taking-either}
use Rattle.undoing.proofs.Truly.{Arms, needs, Knows, knows, KnowsIn, knows-none, knows_more}
use Rattle.undoing.proofs.Keeping.{begins-said}
use Rattle.undoing.proofs.BegunTold.{body-knows, fault-knows}
use Rattle.undoing.proofs.EachTime.{Took, took, took-none, OfTaking, OfStarts, each-taking}
use Rattle.undoing.proofs.Dropping.{where-has, body_has, fault-has, combines-has}

-- all of these began
abbrev Has : List ℕ → List Event → Type 0
Has js l = every (λ j. has_began j l) js ≡ true

has_more : (js : List ℕ) (l m : List Event) → ((i : ℕ) → has_began i l ≡ true → has_began i m ≡ true) → Has js l → Has js m
has_more js l m f e = every-so (λ i. has_began i l) (λ i. has_began i m) f js e

either_same : {A : Type 0} (b : Bool) (x y z w : A) → x ≡ z → y ≡ w → (u v : A) → u ≡ elim b [ true ↦ x | false ↦ y ] → v ≡ elim b [ true ↦ z | false ↦ w ] → u ≡ v
either_same true x y z w e d u v i j = i ∙ (e ∙ sym j)
either_same false x y z w e d u v i j = i ∙ (d ∙ sym j)

-- Marks make no difference to what is picked,
evaluate-marked : (e : Exp) (i n : ℕ) (o : Order) → evaluate e (marked i n o) ≡ evaluate e o
unfolding evaluate
evaluate-marked (constant n) i v o = refl
evaluate-marked (variable x) i v o = refl
evaluate-marked (binary op l r) i v o = rw (evaluate-marked l i v o, evaluate-marked r i v o)

picks-marked : (own : Own) (within : Acts) (k i n : ℕ) (o : Order) → picks own within k (marked i n o) ≡ picks own within k o
unfolding picks
picks-marked empty within k i n o = refl
picks-marked (send p op vs) within k i n o = refl
picks-marked (receive p op vs) within k i n o = refl
picks-marked (setting v e) within k i n o = refl
picks-marked (raise zero) within k i n o = refl
picks-marked (raise (suc number)) within k i n o = refl
picks-marked leave within k i n o = refl
picks-marked (choose e) within k i n o = ap (λ (w : Value). picked_by (λ m. part_at (cond (is_true m) 0 1) within (k + 1) ∷ []) w) (evaluate-marked e i n o)
picks-marked (repeat e) within k i n o = ap (λ (w : Value). picked_by (λ m. cond (is_true m) (part_at 0 within (k + 1) ∷ []) []) w) (evaluate-marked e i n o)
picks-marked sequence within k i n o = refl
picks-marked flow within k i n o = refl
picks-marked pick within k i n o = refl
picks-marked (scope xs v) within k i n o = refl
picks-marked (arm p op vs) within k i n o = refl

mutual
  unfolding picks_in

  in-marked : (a : Act) (k t i n : ℕ) (o : Order) → picks_in a k t (marked i n o) ≡ picks_in a k t o
  in-marked (act own within) k t i n o =
      either_same (eqb k t) (picks own within k (marked i n o)) (picks_among within (k + 1) t (marked i n o)) (picks own within k o) (picks_among within (k + 1) t o)
      (picks-marked own within k i n o) (among-marked within (k + 1) t i n o) (picks_in (act own within) k t (marked i n o)) (picks_in (act own within) k t o) refl refl

  among-marked : (l : Acts) (c t i n : ℕ) (o : Order) → picks_among l c t (marked i n o) ≡ picks_among l c t o
  among-marked none c t i n o = refl
  among-marked (more a l) c t i n o =
      either_same (ltb t (c + size a)) (picks_in a c t (marked i n o)) (picks_among l (c + size a) t (marked i n o)) (picks_in a c t o) (picks_among l (c + size a) t o)
      (in-marked a c t i n o) (among-marked l (c + size a) t i n o) (picks_among (more a l) c t (marked i n o)) (picks_among (more a l) c t o) refl refl

arms-picks : (own : Own) (within : Acts) (k t : ℕ) (o : Order) → picks_among within (k + 1) t (arms own within k t o) ≡ picks_among within (k + 1) t o
unfolding arms
arms-picks own within k t o = go (is_pick own && is_part within (k + 1) t)
  where
    go : (b : Bool) → picks_among within (k + 1) t (cond b (marked k inside o) o) ≡ picks_among within (k + 1) t o
    go true = among-marked within (k + 1) t k inside o
    go false = refl

-- nor does the message: what takes one picks nothing.
own-taking : (own : Own) (within : Acts) (k : ℕ) (m : Message) (o : Order) → picks own within k (order_taking (doing_of own within k) m o) ≡ picks own within k o
unfolding picks order_taking doing_of
own-taking empty within k m o = refl
own-taking (send p op vs) within k m o = refl
own-taking (receive p op vs) within k m o = refl
own-taking (setting v e) within k m o = refl
own-taking (raise zero) within k m o = refl
own-taking (raise (suc number)) within k m o = refl
own-taking leave within k m o = refl
own-taking (choose e) within k m o = refl
own-taking (repeat e) within k m o = refl
own-taking sequence within k m o = refl
own-taking flow within k m o = refl
own-taking pick within k m o = refl
own-taking (scope xs v) within k m o = refl
own-taking (arm p op vs) within k m o = refl

mutual
  unfolding picks_in doing_in

  in-taking : (a : Act) (k t : ℕ) (m : Message) (o : Order) → picks_in a k t (order_taking (doing_in a k t) m o) ≡ picks_in a k t o
  in-taking (act own within) k t m o =
      taking-either (eqb k t) (doing_of own within k) (doing_among within (k + 1) t) (picks own within k) (picks_among within (k + 1) t) m o
      (own-taking own within k m o) (among-taking within (k + 1) t m o) (doing_in (act own within) k t) (picks_in (act own within) k t) refl (λ o₁. refl)

  among-taking : (l : Acts) (c t : ℕ) (m : Message) (o : Order) → picks_among l c t (order_taking (doing_among l c t) m o) ≡ picks_among l c t o
  among-taking none c t m o = refl
  among-taking (more a l) c t m o =
      taking-either (ltb t (c + size a)) (doing_in a c t) (doing_among l (c + size a) t) (picks_in a c t) (picks_among l (c + size a) t) m o
      (in-taking a c t m o) (among-taking l (c + size a) t m o) (doing_among (more a l) c t) (picks_among (more a l) c t) refl (λ o₁. refl)

at-taking : (p : Plan) (t : ℕ) (m : Message) (o : Order) → picks_at p t (order_taking (doing_at p t) m o) ≡ picks_at p t o
unfolding picks_at doing_at
at-taking p t m o =
    taking-either (ltb t (size p.body)) (doing_in p.body 0 t) (doing_in p.fault (size p.body) t) (picks_in p.body 0 t) (picks_in p.fault (size p.body) t) m o
    (in-taking p.body 0 t m o) (in-taking p.fault (size p.body) t m o) (doing_at p t) (picks_at p t) refl (λ o₁. refl)

took-picks : (p : Plan) (t : ℕ) (o o' : Order) → Took p t o o' → picks_at p t o' ≡ picks_at p t o
took-picks p t o o' (took m) = at-taking p t m o
took-picks p t o o' took-none = refl

-- Its own step.
part-said : (i : ℕ) (l : Acts) (c : ℕ) (ms : List ℕ) → Arms false l → i < count l → has_began (part_at i l c) (begin_part i l c ms).log ≡ true
unfolding begin_part part part_at count
part-said i none c ms h n = absurd (omega arith)
part-said zero (more a l) c ms h n = begins-said a l c ms h
part-said (suc i) (more (act own within) l) c ms h n = part-said i l (c + size (act own within)) ms h.1 (omega arith)

abbrev log-of : Outcome → List Event
log-of r = r.log

itself-picks : (own : Own) (within : Acts) (q₀ k : ℕ) (o : Order) → needs own ≤ count within → Arms (is_pick own) within → Has (picks own within k o) (itself own within q₀ k o).log
unfolding itself picks needs least kind every repeats
itself-picks empty within q₀ k o n h = refl
itself-picks (send p op vs) within q₀ k o n h = refl
itself-picks (receive p op vs) within q₀ k o n h = refl
itself-picks (setting v e) within q₀ k o n h = refl
itself-picks (raise zero) within q₀ k o n h = refl
itself-picks (raise (suc number)) within q₀ k o n h = refl
itself-picks leave within q₀ k o n h = refl
itself-picks (choose e) within q₀ k o n h = go (evaluate e o)
  where
    into : (i : ℕ) → i < 2 → has_began (part_at i within (k + 1)) (enters k o (begin_part i within (k + 1) (marked k inside o).marks)).log ≡ true
    into i m =
        where-has (is_began_of (eqb (part_at i within (k + 1)))) (finishes k) (begun_in (marked k inside o) (begin_part i within (k + 1) (marked k inside o).marks))
        (part-said i within (k + 1) (marked k inside o).marks h (omega arith))

    first_two : (b : Bool) → cond b 0 1 < 2
    first_two true = omega arith
    first_two false = omega arith

    go : (w : Value) → Has (picked_by (λ m. part_at (cond (is_true m) 0 1) within (k + 1) ∷ []) w) (or_raises k o (λ m. enters k o (begin_part (cond (is_true m) 0 1) within (k + 1) (marked k inside o).marks)) w).log
    go (fault x) = refl
    go (value m) = rw (into (cond (is_true m) 0 1) (first_two (is_true m)))
itself-picks (repeat e) within q₀ k o n h = go (evaluate e o)
  where
    body : has_began (part_at 0 within (k + 1)) (repeats k within o).log ≡ true
    body =
        let q = marked k inside (with_marks (cleared (k + 1) (sizes within) o.marks) o) in
        where-has (is_began_of (eqb (part_at 0 within (k + 1)))) (again k) (begun_in q (begin_part 0 within (k + 1) q.marks)) (part-said 0 within (k + 1) q.marks h (omega arith))

    by-truth : (b : Bool) (z : Outcome) → z ≡ elim b [ true ↦ repeats k within o | false ↦ finishes k o ] → Has (cond b (part_at 0 within (k + 1) ∷ []) []) z.log
    by-truth true z d = subst (λ (q : Outcome). Has (part_at 0 within (k + 1) ∷ []) q.log) (sym d) (rw body)
    by-truth false z d = refl

    go : (w : Value) → Has (picked_by (λ m. cond (is_true m) (part_at 0 within (k + 1) ∷ []) []) w) (or_raises k o (λ m. elim (is_true m) [ true ↦ repeats k within o | false ↦ finishes k o ]) w).log
    go (fault x) = refl
    go (value m) = by-truth (is_true m) _ refl
itself-picks sequence within q₀ k o n h = refl
itself-picks flow within q₀ k o n h = refl
itself-picks pick within q₀ k o n h = refl
itself-picks (scope xs v) within q₀ k o n h = refl
itself-picks (arm p op vs) within q₀ k o n h = refl

-- a raise stands in place of what picks nothing
placed-picks : (own : Own) (within : Acts) (k : ℕ) (o : Order) → (eqb (kind own) 2 || (eqb (kind own) 18 || eqb (kind own) 255)) ≡ true → picks own within k o ≡ []
unfolding kind picks
placed-picks empty within k o e = refl
placed-picks (send p op vs) within k o e = refl
placed-picks (receive p op vs) within k o e = refl
placed-picks (setting v x) within k o e = refl
placed-picks (raise zero) within k o e = refl
placed-picks (raise (suc number)) within k o e = refl
placed-picks leave within k o e = refl
placed-picks (choose x) within k o e = absurd (let z : ◌≡◌ {A = ℕ} 0 1 = ap (λ (b : Bool). cond b 1 0) e in omega arith)
placed-picks (repeat x) within k o e = absurd (let z : ◌≡◌ {A = ℕ} 0 1 = ap (λ (b : Bool). cond b 1 0) e in omega arith)
placed-picks sequence within k o e = refl
placed-picks flow within k o e = refl
placed-picks pick within k o e = refl
placed-picks (scope xs v) within k o e = refl
placed-picks (arm p op vs) within k o e = refl

performs-picks : (actor : Actor) (own : Own) (within : Acts) (q₀ k : ℕ) (o : Order) → needs own ≤ count within → Arms (is_pick own) within → Has (picks own within k o) (performs actor own within q₀ k o).log
unfolding performs replaces every
performs-picks its_own own within q₀ k o n h = itself-picks own within q₀ k o n h
performs-picks in_place own within q₀ k o n h =
    decide (eqb (kind own) 2 || (eqb (kind own) 18 || eqb (kind own) 255))
    (λ d. subst (λ (js : List ℕ). Has js (performs in_place own within q₀ k o).log) (sym (placed-picks own within k o d)) refl)
    (λ d. subst (λ (r : Outcome). Has (picks own within k o) r.log)
    (sym (second-of (eqb (kind own) 2 || (eqb (kind own) 18 || eqb (kind own) 255)) (raises conflicting_receive k o) (itself own within q₀ k o) (performs in_place own within q₀ k o) refl d)) (itself-picks own within q₀ k o n h))

-- What is made of it has it too.
module _ (f : ℕ → ℕ) (actor : Actor) where
  mutual
    unfolding step_in picks_in every

    step-picks : {a : Act} {k : ℕ} → Knows f a k → (q₀ t : ℕ) (o : Order) → Has (picks_in a k t o) (step_in actor a q₀ k t o).log
    step-picks (knows {own} {within} {k} x n h y) q₀ t o =
        decide (eqb k t)
        (λ d. subst (λ (js : List ℕ). Has js (step_in actor (act own within) q₀ k t o).log) (sym (first-of (eqb k t) (picks own within k o) (picks_among within (k + 1) t o) (picks_in (act own within) k t o) refl d))
        (subst (λ (r : Outcome). Has (picks own within k o) r.log)
        (sym (first-of (eqb k t) (performs actor own within q₀ k o) (combines own within k t (step_among actor within (is_scope own) q₀ (k + 1) t (arms own within k t o))) (step_in actor (act own within) q₀ k t o) refl d))
        (performs-picks actor own within q₀ k o n h)))
        (λ d. let r = step_among actor within (is_scope own) q₀ (k + 1) t (arms own within k t o) in
        subst (λ (js : List ℕ). Has js (step_in actor (act own within) q₀ k t o).log) (sym (second-of (eqb k t) (picks own within k o) (picks_among within (k + 1) t o) (picks_in (act own within) k t o) refl d))
        (subst (λ (q : Outcome). Has (picks_among within (k + 1) t o) q.log) (sym (second-of (eqb k t) (performs actor own within q₀ k o) (combines own within k t r) (step_in actor (act own within) q₀ k t o) refl d))
        (has_more (picks_among within (k + 1) t o) r.log (combines own within k t r).log (λ i z. combines-has (is_began_of (eqb i)) own within k t r z)
        (subst (λ (js : List ℕ). Has js r.log) (arms-picks own within k t o) (among-picks y (is_scope own) q₀ t (arms own within k t o))))))

    among-picks : {l : Acts} {c : ℕ} → KnowsIn f l c → (v₀ : Bool) (q₀ t : ℕ) (o : Order) → Has (picks_among l c t o) (step_among actor l v₀ q₀ c t o).log
    among-picks knows-none v₀ q₀ t o = refl
    among-picks (knows_more {a = a} {l = l} {c = c} x y) v₀ q₀ t o =
        decide (ltb t (c + size a))
        (λ d. subst (λ (js : List ℕ). Has js (step_among actor (more a l) v₀ q₀ c t o).log) (sym (first-of (ltb t (c + size a)) (picks_in a c t o) (picks_among l (c + size a) t o) (picks_among (more a l) c t o) refl d))
        (subst (λ (r : Outcome). Has (picks_in a c t o) r.log) (sym (first-of (ltb t (c + size a)) (step_in actor a (cond v₀ c q₀) c t o) (step_among actor l v₀ q₀ (c + size a) t o) (step_among actor (more a l) v₀ q₀ c t o) refl d)) (step-picks x (cond v₀ c q₀) t o)))
        (λ d. subst (λ (js : List ℕ). Has js (step_among actor (more a l) v₀ q₀ c t o).log) (sym (second-of (ltb t (c + size a)) (picks_in a c t o) (picks_among l (c + size a) t o) (picks_among (more a l) c t o) refl d))
        (subst (λ (r : Outcome). Has (picks_among l (c + size a) t o) r.log) (sym (second-of (ltb t (c + size a)) (step_in actor a (cond v₀ c q₀) c t o) (step_among actor l v₀ q₀ (c + size a) t o) (step_among actor (more a l) v₀ q₀ c t o) refl d)) (among-picks y v₀ q₀ t o)))

module _ (p : Plan) (h : Promised p) where
  root-picks : (actor : Actor) (t : ℕ) (o : Order) → Has (picks_at p t o) (step_root actor p t o).log
  unfolding step_root picks_at
  root-picks actor t o =
      let b = step_in actor p.body 0 0 t o in
      let g = step_in actor p.fault (size p.body) (size p.body) t o in
      let k = size p.body in
      decide (ltb t k)
      (λ d. subst (λ (js : List ℕ). Has js (step_root actor p t o).log) (sym (first-of (ltb t k) (picks_in p.body 0 t o) (picks_in p.fault k t o) (picks_at p t o) refl d))
      (subst (λ (r : Outcome). Has (picks_in p.body 0 t o) r.log) (sym (first-of (ltb t k) (from_body (root_of p) b) (from_fault (root_of p) g) (step_root actor p t o) refl d))
      (has_more (picks_in p.body 0 t o) b.log (from_body (root_of p) b).log (λ i z. body_has (is_began_of (eqb i)) (root_of p) b z) (step-picks (kind_at p) actor (body-knows p h) 0 t o))))
      (λ d. subst (λ (js : List ℕ). Has js (step_root actor p t o).log) (sym (second-of (ltb t k) (picks_in p.body 0 t o) (picks_in p.fault k t o) (picks_at p t o) refl d))
      (subst (λ (r : Outcome). Has (picks_in p.fault k t o) r.log) (sym (second-of (ltb t k) (from_body (root_of p) b) (from_fault (root_of p) g) (step_root actor p t o) refl d))
      (has_more (picks_in p.fault k t o) g.log (from_fault (root_of p) g).log (λ i z. fault-has (is_began_of (eqb i)) (root_of p) g z) (step-picks (kind_at p) actor (fault-knows p h) (size p.body) t o))))

  moved-has : (r : Outcome) (e : End) (i : ℕ) → has_began i r.log ≡ true → has_began i (moved_to r e).log ≡ true
  unfolding moved_to
  moved-has r None i d = d
  moved-has r Well i d = some-append (is_began_of (eqb i)) r.log (ended root ∷ []) ∙ rw d
  moved-has r Handled i d = d
  moved-has r Failed i d = d
  moved-has r Left i d = d

  acted-picks : (actor : Actor) (t : ℕ) (o : Order) → Has (picks_at p t o) (acted actor p t o).log
  unfolding acted
  acted-picks actor t o =
      let r = step_root actor p t o in has_more (picks_at p t o) r.log (acted actor p t o).log (λ i z. moved-has r (end_of r) i z) (root-picks actor t o)

  decided-time : OfTaking p (is_decided p)
  unfolding is_decided
  decided-time actor t o o' past w like a st g =
      rw (standing-live p o st) (subst (λ (js : List ℕ). Has js (acted actor p t o').log) (took-picks p t o o' w) (acted-picks actor t o'))

  decided-start : OfStarts p (is_decided p)
  unfolding is_decided
  decided-start t m o past z n a =
      let q = order_taking (doing_at p t) m (started_order p) in
      let l = started ∷ (begun_order p).log in
      rw z (has_more (picks_at p t (started_order p)) (acted its_own p t q).log (l ++ (acted its_own p t q).log) (λ i d. some-append (is_began_of (eqb i)) l (acted its_own p t q).log ∙ rw (d, or-true))
      (subst (λ (js : List ℕ). Has js (acted its_own p t q).log) (at-taking p t m (started_order p)) (acted-picks its_own t q)))

-- Over any run.
pub decided-told : Decided
unfolding Decided
decided-told = each-taking is_decided decided-time decided-start
