-- The close of a scope is the first event of its step: what else happens with it follows. Assumes nothing.
use Prim.Native.Nat.{ℕ, ◌+◌}
use native.Mathlib.Omega.{arith}
use mathlib.Core.Path.{◌≡◌, refl, sym, ap, subst, ◌∙◌}
use mathlib.Core.Bool.{Bool, true, false, cond, ◌&&◌, false≢true}
use mathlib.Core.List.{List, [], ◌∷◌, ◌++◌}
use lib.Dec.{eqb, ltb}
use borrow.Author.Tests.{eqb-true, lt-ltb}
use Rattle.plan.specs.Tree.{Own, empty, send, receive, set as setting, raise, leave, choose, repeat, sequence, flow, pick, scope, arm, is_scope, Act, act, Acts, none, more, Plan, size}
use Rattle.order.specs.declared.Order.{Order}
use Rattle.order.specs.declared.End.{End}
use Rattle.order.specs.declared.End.TheVariants.{None, Well, Handled, Failed, Left}
use Rattle.order.specs.declared.Way.{Way as Result}
use Rattle.order.specs.declared.Way.TheVariants.{Running as running, Over as over, Raising as raising, Leaving as leaving, Undone as undone, UndoRaising as undo_raising}
use Rattle.order.specs.Event.{Event, closed}
use Rattle.order.specs.State.{active, inside, mark_at}
use Rattle.order.specs.Begin.{begin_after}
use Rattle.order.specs.Scope.{Outcome, Scope, runs, begun_in, where_over, closing, from_body, from_fault, goes_through, from_undo, root_of, scope_at}
use Rattle.order.specs.Acting.{finishes, again, itself, arms, goes_on, joins, in_scope, combines, its_own, replaces, performs, step_in, step_among, step_root, end_of, Moved, moved_to, acted}
use Rattle.undoing.proofs.Parts.{both, decide}
use Rattle.undoing.proofs.Finding.{has_back, has_back_in, Back, backs, backs_in, backs-part, backs-other, backs-in-is, backs-none}
use Rattle.undoing.proofs.Roots.{root_is}
use Rattle.undoing.proofs.Takers.{has-range, has-range-in}

-- a log that begins with an event
pub record First (e : Event) (l : List Event) : Type 0 where
  pub rest : List Event
  pub is : l ≡ e ∷ rest

first_more : {e : Event} {l : List Event} (m : List Event) → First e l → First e (l ++ m)
first_more m f = record { rest = f.rest ++ m; is = ap (λ (z : List Event). z ++ m) f.is }

first-where : {e : Event} (g : Order → Outcome) (r : Outcome) → First e r.log → First e (where_over g r).log
first-where {e} g r f = go r.result
  where
    go : (x : Result) → First e (where_over g (record { result = x; order = r.order; log = r.log })).log
    go running = f
    go over = first_more _ f
    go (raising x) = f
    go leaving = f
    go undone = f
    go (undo_raising x) = f

first_body : {e : Event} (s : Scope) (r : Outcome) → First e r.log → First e (from_body s r).log
unfolding from_body
first_body {e} s r f = go r.result
  where
    go : (x : Result) → First e (from_body s (record { result = x; order = r.order; log = r.log })).log
    go running = first_more _ f
    go over = first_more _ f
    go (raising x) = first_more _ f
    go leaving = f
    go undone = first_more _ f
    go (undo_raising x) = first_more _ f

first-fault : {e : Event} (s : Scope) (r : Outcome) → First e r.log → First e (from_fault s r).log
unfolding from_fault
first-fault {e} s r f = go r.result
  where
    go : (x : Result) → First e (from_fault s (record { result = x; order = r.order; log = r.log })).log
    go running = f
    go over = first_more _ f
    go (raising x) = first_more _ f
    go leaving = f
    go undone = f
    go (undo_raising x) = f

first-undo : {e : Event} (r : Outcome) → First e r.log → First e (from_undo r).log
unfolding from_undo
first-undo {e} r f = go r.result
  where
    go : (x : Result) → First e (from_undo (record { result = x; order = r.order; log = r.log })).log
    go running = f
    go over = f
    go (raising x) = f
    go leaving = f
    go undone = f
    go (undo_raising x) = f

first_either : {e : Event} (b : Bool) (x y z : Outcome) → z ≡ elim b [ true ↦ x | false ↦ y ] → First e x.log → First e y.log → First e z.log
first_either {e} true x y z d f g = subst (λ (r : Outcome). First e r.log) (sym d) f
first_either {e} false x y z d f g = subst (λ (r : Outcome). First e r.log) (sym d) g

first_goes : {e : Event} (k m : ℕ) (g : Order → Outcome) (r : Outcome) → First e r.log → First e (goes_on k m g r).log
unfolding goes_on
first_goes k m g r f = first-where (λ o. elim (eqb (mark_at k o) m) [ true ↦ g o | false ↦ runs o ]) r f

first-combines : {e : Event} (own : Own) (within : Acts) (k t : ℕ) (r : Outcome) → First e r.log → First e (combines own within k t r).log
unfolding combines in_scope
first-combines empty within k t r f = f
first-combines (send p o vs) within k t r f = f
first-combines (receive p o vs) within k t r f = f
first-combines (setting v x) within k t r f = f
first-combines (raise n) within k t r f = f
first-combines leave within k t r f = f
first-combines (choose x) within k t r f = first_goes k inside (finishes k) r f
first-combines (repeat x) within k t r f = first_goes k inside (again k) r f
first-combines sequence within k t r f = first_goes k active (λ o. where_over (finishes k) (begun_in o (begin_after within (k + 1) t o.marks))) r f
first-combines flow within k t r f = first_goes k active (joins k within) r f
first-combines pick within k t r f = first_goes k inside (finishes k) r f
first-combines (scope ns u) within k t r f =
    first_either (ltb t _) (elim (goes_through u k r) [ true ↦ r | false ↦ from_body (scope_at ns k within) r ]) (elim (ltb t _) [ true ↦ from_fault (scope_at ns k within) r | false ↦ from_undo r ]) _ refl
    (first_either (goes_through u k r) r (from_body (scope_at ns k within) r) _ refl f (first_body (scope_at ns k within) r f))
    (first_either (ltb t _) (from_fault (scope_at ns k within) r) (from_undo r) _ refl (first-fault (scope_at ns k within) r f) (first-undo r f))
first-combines (arm p o vs) within k t r f = f

step_is : (own : Own) (within : Acts) (q k t : ℕ) (o : Order) (b : Bool) → eqb k t ≡ b
    → step_in its_own (act own within) q k t o ≡ elim b [ true ↦ itself own within q k o | false ↦ combines own within k t (step_among its_own within (is_scope own) q (k + 1) t (arms own within k t o)) ]
unfolding step_in performs replaces
step_is own within q k t o b e =
    subst (λ (z : Bool). step_in its_own (act own within) q k t o ≡ elim z [ true ↦ itself own within q k o | false ↦ combines own within k t (step_among its_own within (is_scope own) q (k + 1) t (arms own within k t o)) ]) e refl

among-is : (a : Act) (l : Acts) (v : Bool) (q c t : ℕ) (o : Order) (b : Bool) → ltb t (c + size a) ≡ b
    → step_among its_own (more a l) v q c t o ≡ elim b [ true ↦ step_in its_own a (cond v c q) c t o | false ↦ step_among its_own l v q (c + size a) t o ]
unfolding step_in
among-is a l v q c t o b e =
    subst (λ (z : Bool). step_among its_own (more a l) v q c t o ≡ elim z [ true ↦ step_in its_own a (cond v c q) c t o | false ↦ step_among its_own l v q (c + size a) t o ]) e refl

-- the step of a scope
own_first : (own : Own) (within : Acts) (q k : ℕ) (o : Order) → is_scope own ≡ true → First (closed k) (itself own within q k o).log
unfolding itself closing
own_first empty within q k o s = absurd (false≢true s)
own_first (send p op vs) within q k o s = absurd (false≢true s)
own_first (receive p op vs) within q k o s = absurd (false≢true s)
own_first (setting v x) within q k o s = absurd (false≢true s)
own_first (raise n) within q k o s = absurd (false≢true s)
own_first leave within q k o s = absurd (false≢true s)
own_first (choose x) within q k o s = absurd (false≢true s)
own_first (repeat x) within q k o s = absurd (false≢true s)
own_first sequence within q k o s = absurd (false≢true s)
own_first flow within q k o s = absurd (false≢true s)
own_first pick within q k o s = absurd (false≢true s)
own_first (scope ns u) within q k o s = record { rest = []; is = refl }
own_first (arm p op vs) within q k o s = absurd (false≢true s)

mutual
  closes-first : (a : Act) (q k t : ℕ) (o : Order) → has_back a k t ≡ true → First (closed t) (step_in its_own a q k t o).log
  closes-first (act own within) q k t o h =
      decide (eqb k t)
      (λ e. subst (λ (r : Outcome). First (closed t) r.log) (sym (step_is own within q k t o true e))
      (subst (λ (j : ℕ). First (closed j) (itself own within q k o).log) (eqb-true k t e) (own_first own within q k o (here e))))
      (λ e. subst (λ (r : Outcome). First (closed t) r.log) (sym (step_is own within q k t o false e))
      (first-combines own within k t (step_among its_own within (is_scope own) q (k + 1) t (arms own within k t o))
      (closes-among within (is_scope own) q (k + 1) t (arms own within k t o) (ap (λ (z : Back). z.has) (sym (backs-other own within k t e)) ∙ h))))
    where
      here : eqb k t ≡ true → is_scope own ≡ true
      here e =
          decide (is_scope own) (λ s. s)
          (λ s. let r = has-range-in within (k + 1) t (ap (λ (z : Back). z.has) (sym (backs-part own within k t s)) ∙ h) in let d = eqb-true k t e in absurd (omega arith))

  closes-among : (l : Acts) (v : Bool) (q c t : ℕ) (o : Order) → has_back_in l c t ≡ true → First (closed t) (step_among its_own l v q c t o).log
  closes-among none v q c t o h = absurd (backs-none c t h)
  closes-among (more a l) v q c t o h =
      decide (ltb t (c + size a))
      (λ e. subst (λ (r : Outcome). First (closed t) r.log) (sym (among-is a l v q c t o true e)) (closes-first a (cond v c q) c t o (ap (λ (z : Back). z.has) (sym (backs-in-is a l c t true e)) ∙ h)))
      (λ e. subst (λ (r : Outcome). First (closed t) r.log) (sym (among-is a l v q c t o false e)) (closes-among l v q (c + size a) t o (ap (λ (z : Back). z.has) (sym (backs-in-is a l c t false e)) ∙ h)))

-- of an order
pub acted-first : (p : Plan) (t : ℕ) (o : Order) → has_back p.body 0 t ≡ true → First (closed t) (acted its_own p t o).log
unfolding acted moved_to step_root
acted-first p t o h = go (end_of (step_root its_own p t o))
  where
    first : First (closed t) (step_root its_own p t o).log
    first =
        let r = has-range p.body 0 t h in
        subst (λ (r : Outcome). First (closed t) r.log) (sym (root_is its_own p t o true (lt-ltb t (size p.body) (omega arith))))
        (first_body (root_of p) (step_in its_own p.body 0 0 t o) (closes-first p.body 0 0 t o h))

    go : (e : End) → First (closed t) (moved_to (step_root its_own p t o) e).log
    go None = first
    go Well = first_more _ first
    go Handled = first
    go Failed = first
    go Left = first
