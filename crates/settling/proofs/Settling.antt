-- The judging after a step comes to an end: each raise leaves an order lower than before. Assumes nothing.
use Prim.Native.Nat.{ℕ, zero, suc, ◌+◌, ◌*◌, ◌≤◌, ◌<◌}
use native.Mathlib.Omega.{arith}
use mathlib.Core.Path.{◌≡◌, refl, sym, ap, subst, ◌∙◌}
use mathlib.Core.Bool.{Bool, true, false, cond, false≢true}
use mathlib.Core.List.{List, [], ◌∷◌, ◌++◌}
use lib.ListN.{get_or, replicate, length-replicate, get_or-replicate, get_or-eq_default}
use lib.Dec.{eqb, ltb}
use borrow.Author.Tests.{eqb-true, eqb-false, lt-ltb, le-ltb, ltb-true, ltb-false}
use Rattle.plan.specs.Found.{Found, found}
use Rattle.plan.specs.Read.{read_plan}
use Rattle.plan.specs.Tree.{Act, act, Acts, none, more, Plan, size}
use Rattle.order.specs.declared.Order.{Order}
use Rattle.order.specs.declared.End.{End}
use Rattle.order.specs.declared.End.TheVariants.{None, Well, Handled, Failed, Left}
use Rattle.machine.specs.declared.State.{State}
use Rattle.machine.specs.declared.Tally.{Tally}
use Rattle.order.specs.State.{idle, active, done, mark_of, state_in, root, with_marks, no_order}
use Rattle.machine.specs.State.{fresh}
use Rattle.order.specs.Begin.{cleared}
use Rattle.order.specs.declared.Way.{Way as Result}
use Rattle.order.specs.declared.Way.TheVariants.{Running as running, Over as over, Raising as raising, Leaving as leaving, Undone as undone, UndoRaising as undo_raising}
use Rattle.order.specs.Event.{Event}
use Rattle.order.specs.Scope.{Outcome, root_of, from_body, from_fault}
use Rattle.order.specs.Acting.{its_own, in_place, step_in, step_root, end_of, Moved, moved_to, acted}
use Rattle.order.specs.Awaited.{Doing, kind_at}
use Rattle.order.specs.Judging.{Verdict, clear, clash, conflict, following, upon, judged, rank, weight, spare, settled, step_order}
use Rattle.machine.specs.Calls.{loaded_as, load, post, collect, doing_at, doing_in, step, Call, posting, collecting, stepping}
use Rattle.settling.proofs.Parts.{decide, first-of, second-of}
use Rattle.settling.proofs.Formed.{Shaped}
use Rattle.settling.proofs.Waiting.{Awaited, in-body, in-fault}
use Rattle.settling.proofs.Knowing.{body-knows, fault-knows}
use Rattle.settling.proofs.Clashing.{is_take, doing-body, doing-fault, OnClash, Higher, conflict-awaited}
use Rattle.settling.proofs.Lower.{Same, Owns, own_root, Under, Lowered, stays, lowers}
use Rattle.settling.proofs.Falling.{Falls, falls-wider, Fell, is_plain, no_arm, step_falls, body-lowered, fault-lowered}

-- A rank is below 9.
pub rank_most : (n m : ℕ) → rank n m ≤ 8
unfolding rank
rank_most n m =
    decide (eqb (state_in m) 2) (λ e. decide (eqb n 7) (λ d. rw (e, rank, d) (omega arith)) (λ d. rw (e, rank, d) (omega arith)))
    (λ e. decide (eqb (state_in m) 1) (λ d. rw (e, rank, d) (omega arith))
    (λ d. decide (eqb (state_in m) 3) (λ c. rw (e, rank, d, c) (omega arith))
    (λ c. decide (eqb (state_in m) 4) (λ b. rw (e, rank, d, c, b) (omega arith))
    (λ b. decide (eqb (state_in m) 7) (λ a. rw (e, rank, d, c, b, a) (omega arith))
    (λ a. decide (eqb (state_in m) 5) (λ z. rw (e, rank, d, c, b, a, z) (omega arith))
    (λ z. decide (eqb (state_in m) 8) (λ y. rw (e, rank, d, c, b, a, z, y) (omega arith))
    (λ y. decide (eqb (state_in m) 6) (λ x. rw (e, rank, d, c, b, a, z, y, x) (omega arith)) (λ x. rw (e, rank, d, c, b, a, z, y, x) (omega arith)))))))))

-- What is less stays less, whatever follows.
pub weight-less : (f : ℕ → ℕ) (n k : ℕ) (ms ns : List ℕ) (x y : ℕ) → x < y → weight f k n ns x < weight f k n ms y
unfolding weight
weight-less f zero k ms ns x y e = e
weight-less f (suc n) k ms ns x y e =
    weight-less f n (k + 1) ms ns (x * 9 + rank (f k) (get_or ns k 0)) (y * 9 + rank (f k) (get_or ms k 0)) (omega (arith, rank_most (f k) (get_or ns k 0), e))

-- where the first mark that changes falls, the weight does
weight-falls : (f : ℕ → ℕ) (n k : ℕ) (ms ns : List ℕ) (x : ℕ) → Falls f k (k + n) ms ns → weight f k n ns x < weight f k n ms x
unfolding weight
weight-falls f zero k ms ns x w = absurd (omega (arith, w.from, w.to))
weight-falls f (suc n) k ms ns x w =
    decide (eqb w.at k)
    (λ e. weight-less f n (k + 1) ms ns _ _
    (let d : rank (f k) (get_or ns k 0) < rank (f k) (get_or ms k 0) = subst (λ (j : ℕ). rank (f j) (get_or ns j 0) < rank (f j) (get_or ms j 0)) (eqb-true w.at k e) w.less in omega (arith, d)))
    (λ e. let j = eqb-false w.at k e in
    subst (λ (m : ℕ). weight f (k + 1) n ns (x * 9 + rank (f k) m) < weight f (k + 1) n ms (x * 9 + rank (f k) (get_or ms k 0))) (sym (w.same.at k (omega (arith, w.from, j))))
    (weight-falls f n (k + 1) ms ns (x * 9 + rank (f k) (get_or ms k 0))
    (record { at = w.at; from = omega (arith, w.from, j); to = omega (arith, w.to); same = w.same; less = w.less })))

-- A raise in place of an open receive: where the order goes on, less is left.
module _ (p : Plan) (h : Shaped p) where
  N : ℕ
  N = size p.body + size p.fault

  spare-falls : (o : Order) (r r₁ : Outcome) (i : Bool) (b e : ℕ) → e ≤ N → Fell (kind_at p) i b e o r → Lowered (root_of p) 0 r.order r₁ → spare p r₁.order < spare p o
  unfolding spare N
  spare-falls o r r₁ i b e v w (stays d) =
      subst (λ (x : Order). weight (kind_at p) 0 (size p.body + size p.fault) x.marks (rank 11 x.root) < weight (kind_at p) 0 (size p.body + size p.fault) o.marks (rank 11 o.root)) (sym d)
      (subst (λ (x : ℕ). weight (kind_at p) 0 (size p.body + size p.fault) r.order.marks (rank 11 x) < weight (kind_at p) 0 (size p.body + size p.fault) o.marks (rank 11 o.root)) (sym w.root)
      (weight-falls (kind_at p) (size p.body + size p.fault) 0 o.marks r.order.marks (rank 11 o.root) (falls-wider (omega arith) (omega arith) w.falls)))
  spare-falls o r r₁ i b e v w (lowers {n} d u) =
      weight-less (kind_at p) (size p.body + size p.fault) 0 o.marks r₁.order.marks (rank 11 r₁.order.root) (rank 11 o.root)
      (subst (λ (x : ℕ). rank 11 r₁.order.root < rank 11 x) w.root (omega (arith, d, u.rank)))

  root-clears : (o₁ : Order) → rank 11 (mark_of root (with_marks (cleared 0 N o₁.marks) o₁)) ≤ rank 11 (mark_of root o₁)
  root-clears o₁ = omega arith

  pub root-falls : (t : ℕ) (o : Order) → Awaited p o.marks t → is_take (doing_at p t) ≡ true → spare p (step_root in_place p t o).order < spare p o
  unfolding step_root N
  root-falls t o (in-body e w) i =
      let r = step_in in_place p.body 0 0 t o in
      let z = step_falls h.body (body-knows p h) 0 t o w (subst (λ (d : Doing). is_take d ≡ true) (doing-body p t e) i) (no_arm 0 t h.body) in
      subst (λ (x : Outcome). spare p x.order < spare p o)
      (sym (first-of (ltb t (size p.body)) (from_body (root_of p) r) (from_fault (root_of p) (step_in in_place p.fault (size p.body) (size p.body) t o)) (step_root in_place p t o) refl (lt-ltb t (size p.body) e)))
      (spare-falls o r (from_body (root_of p) r) false 0 (0 + size p.body) (omega arith) z (body-lowered (root_of p) 0 (own_root p) root-clears r z.plain).0)
  root-falls t o (in-fault e w) i =
      let r = step_in in_place p.fault (size p.body) (size p.body) t o in
      let z = step_falls h.fault (fault-knows p h) (size p.body) t o w (subst (λ (d : Doing). is_take d ≡ true) (doing-fault p t e) i) (no_arm (size p.body) t h.fault) in
      subst (λ (x : Outcome). spare p x.order < spare p o)
      (sym (second-of (ltb t (size p.body)) (from_body (root_of p) (step_in in_place p.body 0 0 t o)) (from_fault (root_of p) r) (step_root in_place p t o) refl (le-ltb t (size p.body) e)))
      (spare-falls o r (from_fault (root_of p) r) true (size p.body) (size p.body + size p.fault) (omega arith) z (fault-lowered (root_of p) 0 (own_root p) root-clears r (z.out refl)).0)

  moved_order : (r : Outcome) (e : End) → (moved_to r e).end ≡ None → (moved_to r e).order ≡ r.order
  unfolding moved_to
  moved_order r None d = refl
  moved_order r Well d = absurd (let z : ◌≡◌ {A = ℕ} 0 1 = cc in omega arith)
  moved_order r Handled d = absurd (let z : ◌≡◌ {A = ℕ} 0 1 = cc in omega arith)
  moved_order r Failed d = absurd (let z : ◌≡◌ {A = ℕ} 0 1 = cc in omega arith)
  moved_order r Left d = absurd (let z : ◌≡◌ {A = ℕ} 0 1 = cc in omega arith)

  pub acted-falls : (k : ℕ) (o : Order) → Higher p o k → (acted in_place p k o).end ≡ None → spare p (acted in_place p k o).order < spare p o
  unfolding acted
  acted-falls k o c d =
      subst (λ (x : Order). spare p x < spare p o) (sym (moved_order (step_root in_place p k o) (end_of (step_root in_place p k o)) d)) (root-falls k o c.0 c.1)

  -- where nothing is left there is no conflict
  pub empty-clear : (o : Order) → spare p o ≤ 0 → conflict p o ≡ clear
  empty-clear o s = go (conflict p o) (conflict-awaited p o)
    where
      go : (v : Verdict) → OnClash (Higher p o) v → v ≡ clear
      go clear c = refl
      go (clash k) c = absurd (omega (arith, root-falls k o c.0 c.1, s))

  -- An order with no conflict, or that has ended, is judged as it is.
  pub judged-as-is : (n : ℕ) (m : Moved) → (m.end ≡ None → conflict p m.order ≡ clear) → judged (suc n) p m ≡ m
  unfolding judged
  judged-as-is n m s = go m.end refl
    where
      on : (v : Verdict) → v ≡ clear → upon (judged n p) p m v ≡ m
      on clear e = refl
      on (clash k) e = absurd (let z : ◌≡◌ {A = ℕ} 0 1 = cc in omega arith)

      go : (e : End) → m.end ≡ e → ◌≡◌ {A = Moved} (elim e as (λ _. Moved) [ None ↦ upon (judged n p) p m (conflict p m.order) | Well ↦ m | Handled ↦ m | Failed ↦ m | Left ↦ m ]) m
      go None e = on (conflict p m.order) (s e)
      go Well e = refl
      go Handled e = refl
      go Failed e = refl
      go Left e = refl

  -- Judged more often than is left, it comes to the same: what a loop in the code needs.
  pub judged-enough : (n n' : ℕ) (m : Moved) → (m.end ≡ None → spare p m.order ≤ n) → (m.end ≡ None → spare p m.order ≤ n') → judged n p m ≡ judged n' p m
  unfolding judged
  judged-enough zero zero m s s' = refl
  judged-enough zero (suc n') m s s' = sym (judged-as-is n' m (λ e. empty-clear m.order (s e)))
  judged-enough (suc n) zero m s s' = judged-as-is n m (λ e. empty-clear m.order (s' e))
  judged-enough (suc n) (suc n') m s s' = go (λ m' x y. judged-enough n n' m' x y) m.end refl
    where
      on : ((m' : Moved) → (m'.end ≡ None → spare p m'.order ≤ n) → (m'.end ≡ None → spare p m'.order ≤ n') → judged n p m' ≡ judged n' p m') → m.end ≡ None → (v : Verdict)
          → OnClash (Higher p m.order) v → upon (judged n p) p m v ≡ upon (judged n' p) p m v
      on f e clear c = refl
      on f e (clash k) c =
          f (following m.log (acted in_place p k m.order))
          (λ d. let x = acted-falls k m.order c d in let y = s e in omega (arith, x, y))
          (λ d. let x = acted-falls k m.order c d in let y = s' e in omega (arith, x, y))

      go : ((m' : Moved) → (m'.end ≡ None → spare p m'.order ≤ n) → (m'.end ≡ None → spare p m'.order ≤ n') → judged n p m' ≡ judged n' p m') → (e : End) → m.end ≡ e
          → ◌≡◌ {A = Moved} (elim e as (λ _. Moved) [ None ↦ upon (judged n p) p m (conflict p m.order) | Well ↦ m | Handled ↦ m | Failed ↦ m | Left ↦ m ])
          (elim e as (λ _. Moved) [ None ↦ upon (judged n' p) p m (conflict p m.order) | Well ↦ m | Handled ↦ m | Failed ↦ m | Left ↦ m ])
      go f None e = on f e (conflict p m.order) (conflict-awaited p m.order)
      go f Well e = refl
      go f Handled e = refl
      go f Failed e = refl
      go f Left e = refl
