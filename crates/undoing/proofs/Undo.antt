-- How a scope undoes, handles and ends: what runs in it then, and that all it logs is right. Assumes nothing.
use Prim.Native.Nat.{ℕ, suc, ◌+◌, ◌≤◌, ◌<◌}
use native.Mathlib.Omega.{arith}
use mathlib.Core.Path.{◌≡◌, refl, sym, ap, subst, ◌∙◌}
use mathlib.Core.Bool.{Bool, true, false, cond, false≢true}
use mathlib.Core.List.{List, [], ◌∷◌, ◌++◌}
use lib.ListN.{length, get_or}
use lib.Dec.{eqb, ltb}
use borrow.Author.Tests.{eqb-true, lt-ltb, le-ltb}
use Rattle.plan.specs.Tree.{Own, kind, is_scope, has_undo, numbers_of, general_part, undo_part, Act, act, Acts, none, more, Plan, size, sizes, count, scope}
use Rattle.order.specs.declared.Closing.{Closing}
use Rattle.order.specs.declared.Order.{Order}
use Rattle.order.specs.declared.End.TheVariants.{None}
use Rattle.order.specs.Lists.{every, without_last}
use Rattle.order.specs.State.{Name, root, inner, idle, with_marks, closings, remembering, mark_of}
use Rattle.order.specs.Event.{Event, began}
use Rattle.order.specs.Begin.{Begun, nothing_begun, begin, begin_part, part, part_at}
use Rattle.order.specs.declared.Way.{Way as Result}
use Rattle.order.specs.declared.Way.TheVariants.{Running as running, Over as over, Raising as raising, Leaving as leaving, Undone as undone, UndoRaising as undo_raising}
use Rattle.order.specs.Scope.{Outcome, runs, begun_in, Scope, is_for, begin_undo, begin_undo_first, begin_undo_in, where_over, start_undo, undo, undoes}
use Rattle.undoing.specs.Demand3.{Inner, undone_of}
use Rattle.undoing.specs.Ties.{Place, undo_of, name_of, beyond_of, last_of}
use Rattle.undoing.proofs.Parts.{neither, decide, every-at}
use Rattle.undoing.proofs.Choices.{general-is}
use Rattle.undoing.proofs.Accounts.{Phase, phase, Known}
use Rattle.undoing.proofs.Moves.{Spot, runner_at, tied_at}
use Rattle.undoing.proofs.Marks.{trio, spread, Quiet, Kept, nth-later, Undoing, undoing-part, undoing-scope, undoing-through, UndoingIn, undoing-here, undoing-later, quiet-part, quiet-agree, quiet-join, agree-below, agree-above, kept-wider, kept_then, kept-itself}
use Rattle.undoing.proofs.Orders.{list_of, moment_of, Does, does-then, does-nothing, Fit, Sits, sits-part, sits-scope, SitsIn, sits-none, sits-more, remedy-spot}
use Rattle.undoing.proofs.Remedies.{part-from, part-to, nth-begun, nth-over, healers-many, undoer}
use Rattle.undoing.proofs.Beginning.{quiet-cons, Begins, begins-remedy}
use Rattle.undoing.proofs.Seats.{Seat, mark-kept, reaches, reaches_first, reaches_in, reaches-is, reaches-scope, reaches-range, reaches-range-in, closings-reach, quiet-inner, removed-list, does-undo}

-- how a scope stands after its list, or in it
abbrev pub UndoneAs : Plan → Scope → Order → Result → Type 0
UndoneAs p s o running = Undoing o.marks s.body s.body_at
UndoneAs p s o over = Quiet o.marks s.body_at (size s.body) × (list_of p s.name o ≡ [])
UndoneAs p s o (raising x) = ⊥
UndoneAs p s o leaving = ⊥
UndoneAs p s o undone = ⊥
UndoneAs p s o (undo_raising x) = ⊥

pub record Undone (p : Plan) (s : Scope) (o : Order) (r : Outcome) : Type 0 where
  pub kept : Kept s.body_at (size s.body) o.marks r.order.marks
  pub rooted : r.order.root ≡ o.root
  pub does : Does p None o r.log r.order
  pub comes : UndoneAs p s r.order r.result

-- the undo part of e begins, in an activity that is no scope, and in a scope
pub undo-is : (own : Own) (within : Acts) (k e : ℕ) (ms : List ℕ) → is_scope own ≡ false → begin_undo (act own within) k e ms ≡ begin_undo_in within (k + 1) e ms
unfolding begin_undo
undo-is own within k e ms t =
    subst (λ (z : Bool). elim z [ true ↦ cond (has_undo own) (cond (eqb k e) (begin_part (undo_part (numbers_of own)) within (k + 1) ms) (nothing_begun ms)) (begin_undo_first within (k + 1) e ms) | false ↦ begin_undo_in within (k + 1) e ms ]
    ≡ begin_undo_in within (k + 1) e ms) (sym t) refl

undo-scope : (own : Own) (within : Acts) (k e : ℕ) (ms : List ℕ) (v : Bool) → is_scope own ≡ true → has_undo own ≡ v
    → begin_undo (act own within) k e ms ≡ cond v (cond (eqb k e) (begin_part (undo_part (numbers_of own)) within (k + 1) ms) (nothing_begun ms)) (begin_undo_first within (k + 1) e ms)
unfolding begin_undo
undo-scope own within k e ms v t u =
    subst (λ (y : Bool). begin_undo (act own within) k e ms ≡ cond y (cond (eqb k e) (begin_part (undo_part (numbers_of own)) within (k + 1) ms) (nothing_begun ms)) (begin_undo_first within (k + 1) e ms)) u
    (subst (λ (z : Bool). elim z [ true ↦ cond (has_undo own) (cond (eqb k e) (begin_part (undo_part (numbers_of own)) within (k + 1) ms) (nothing_begun ms)) (begin_undo_first within (k + 1) e ms) | false ↦ begin_undo_in within (k + 1) e ms ]
    ≡ cond (has_undo own) (cond (eqb k e) (begin_part (undo_part (numbers_of own)) within (k + 1) ms) (nothing_begun ms)) (begin_undo_first within (k + 1) e ms)) (sym t) refl)

-- in a list
pub undo-in-is : (a : Act) (l : Acts) (c e : ℕ) (ms : List ℕ) (b : Bool) → ltb e (c + size a) ≡ b
    → begin_undo_in (more a l) c e ms ≡ elim b [ true ↦ begin_undo a c e ms | false ↦ begin_undo_in l (c + size a) e ms ]
unfolding begin_undo
undo-in-is a l c e ms b t =
    subst (λ (z : Bool). begin_undo_in (more a l) c e ms ≡ elim z [ true ↦ begin_undo a c e ms | false ↦ begin_undo_in l (c + size a) e ms ]) t refl

-- where a scope is not reached nothing begins
mutual
  unfolding begin_undo reaches size

  -- in an activity
  pub unreached : (a : Act) (k e : ℕ) (ms : List ℕ) → reaches a k e ≡ false → begin_undo a k e ms ≡ nothing_begun ms
  unreached (act own within) k e ms d =
      decide (is_scope own)
      (λ t. decide (has_undo own)
      (λ u. let z : eqb k e ≡ false = sym (reaches-scope own within k e true t u) ∙ d in rw (undo-scope own within k e ms true t u, z))
      (λ u. undo-scope own within k e ms false t u ∙ unreached-first within (k + 1) e ms (sym (reaches-scope own within k e false t u) ∙ d)))
      (λ t. undo-is own within k e ms t ∙ unreached-in within (k + 1) e ms (sym (reaches-is own within k e t) ∙ d))

  unreached-first : (l : Acts) (c e : ℕ) (ms : List ℕ) → reaches_first l c e ≡ false → begin_undo_first l c e ms ≡ nothing_begun ms
  unreached-first none c e ms d = refl
  unreached-first (more a l) c e ms d = unreached a c e ms d

  -- in a list
  unreached-in : (l : Acts) (c e : ℕ) (ms : List ℕ) → reaches_in l c e ≡ false → begin_undo_in l c e ms ≡ nothing_begun ms
  unreached-in none c e ms d = refl
  unreached-in (more a l) c e ms d =
      neither (reaches a c e) (reaches_in l (c + size a) e) d
      (λ x y. decide (ltb e (c + size a)) (λ t. undo-in-is a l c e ms true t ∙ unreached a c e ms x) (λ t. undo-in-is a l c e ms false t ∙ unreached-in l (c + size a) e ms y))

-- what began, with another account of how it stands while it runs
begins-so : {p : Plan} {S T : List ℕ → Type 0} {k n j m : ℕ} {o₀ o : Order} {r : Begun} → Begins p S k n o₀ o r → j ≤ k → k + n ≤ j + m
    → (Quiet r.marks k n → Kept k n o.marks r.marks → Quiet r.marks j m) → (Kept k n o.marks r.marks → S r.marks → T r.marks)
    → Begins p T j m o₀ o r
begins-so b h e f g =
    record { kept = kept-wider b.kept h e; quiet = λ x. f (b.quiet x) b.kept; runs = λ x. g b.kept (b.runs x); does = b.does }

module _ (p : Plan) where
  -- the undo part of a scope that is reached in an activity begins, for the scope m that is to run it
  mutual
    unfolding begin_undo begin_part part part_at begin size count reaches kind

    -- in an activity
    pub begins-undo : {x : Place} {a : Act} {k : ℕ} → Sits p x a k → (e : ℕ) → reaches a k e ≡ true → (m : Name) (o₀ o : Order)
        → ((y : Inner) (c : Name) → y.undoes ≡ true → Known p y → Spot p (undo_of y.around y.beyond c) y.undo → y.number ≡ e
        → runner_at (λ n. mark_of n o) y.around y.beyond ≡ m → Does p None o₀ (began y.undo ∷ []) o)
        → Quiet o.marks k (size a) → k + size a ≤ length o.marks → runner_at (λ n. mark_of n o) (name_of x) (beyond_of x) ≡ m → Fit (undo_of (name_of x) (beyond_of x) (last_of x)) o
        → Begins p (λ ms. Undoing ms a k) k (size a) o₀ o (begin_undo a k e o.marks)
    begins-undo (sits-part {q = x} {own} {within} {k} s g v y l) e d m o₀ o f q h r i =
        subst (λ (r : Begun). Begins p (λ ms. Undoing ms (act own within) k) k (1 + sizes within) o₀ o r)
        (sym (undo-is own within k e o.marks s))
        (begins-so (begins-undo-in l e (sym (reaches-is own within k e s) ∙ d) m o₀ o f (quiet-part q (omega arith) (omega arith)) (omega arith) r i) (omega arith) (omega arith)
        (λ z w. quiet-cons (w.below k (omega arith) ∙ q.at k (omega arith) (omega arith)) z)
        (λ w z. undoing-part s (w.below k (omega arith) ∙ q.at k (omega arith) (omega arith)) z))
    begins-undo (sits-scope {xs} {v = true} {n} {c} {ns} {b} {f = f'} {u} {k} kn v w sb z) e d m o₀ o f q h r i =
        let t : eqb k e ≡ true = d in
        let i₀ = general_part xs in
        let j = k + 1 + size b in
        let su = undoer z in
        let y : i₀ < count (more f' u) = omega (arith, healers-many z, general-is xs) in
        let lo = part-from i₀ (more f' u) j in
        let hi = part-to i₀ (more f' u) j y in
        let q₁ : Quiet o.marks j (size f' + sizes u) = quiet-part q (omega arith) (omega arith) in
        subst (λ (r : Begun). Begins p (λ ms. Undoing ms (act (scope xs true) (trio b f' u)) k) k (spread b f' u) o₀ o r)
        (rw t)
        (begins-so (begins-remedy p su o₀ o (f _ c refl kn (remedy-spot su) (eqb-true k e t) r) (quiet-part q₁ lo hi) (omega arith) i) (omega arith) (omega arith)
        (λ x v. quiet-cons (v.below k (omega arith) ∙ q.at k (omega arith) (omega arith))
        (quiet-join (quiet-agree (quiet-part {j = k + 1} {m = size b} q (omega arith) (omega arith)) (agree-below v (omega arith))) (nth-over i₀ (more f' u) j y q₁ v x) refl))
        (λ v x. undoing-scope (v.below k (omega arith) ∙ q.at k (omega arith) (omega arith)) (omega (arith, healers-many z, general-is xs))
        (nth-later (quiet-agree (quiet-part q (omega arith) (omega arith)) (agree-below v (omega arith))) (nth-begun i₀ (more f' u) j y q₁ v x))))
    begins-undo (sits-scope {v = false} {n} {c} {ns} {b} {f = f'} {u} {k} kn v w sb z) e d m o₀ o f q h r i =
        let y : get_or o.marks k 0 ≡ idle = q.at k (omega arith) (omega arith) in
        begins-so (begins-undo sb e d m o₀ o f (quiet-part q (omega arith) (omega arith)) (omega arith) (rw y r) (rw y i)) (omega arith) (omega arith)
        (λ x v. quiet-cons (v.below k (omega arith) ∙ y)
        (quiet-join x (quiet-agree (quiet-part {j = k + 1 + size b} {m = size f' + sizes u} q (omega arith) (omega arith)) (agree-above v (omega arith))) refl))
        (λ v x. undoing-through (v.below k (omega arith) ∙ y) x
        (quiet-agree (quiet-part {j = k + 1 + size b} {m = size f' + sizes u} q (omega arith) (omega arith)) (agree-above v (omega arith))))

    -- in a list
    pub begins-undo-in : {x : Place} {l : Acts} {c : ℕ} → SitsIn p x l c → (e : ℕ) → reaches_in l c e ≡ true → (m : Name) (o₀ o : Order)
        → ((y : Inner) (c : Name) → y.undoes ≡ true → Known p y → Spot p (undo_of y.around y.beyond c) y.undo → y.number ≡ e
        → runner_at (λ n. mark_of n o) y.around y.beyond ≡ m → Does p None o₀ (began y.undo ∷ []) o)
        → Quiet o.marks c (sizes l) → c + sizes l ≤ length o.marks → runner_at (λ n. mark_of n o) (name_of x) (beyond_of x) ≡ m → Fit (undo_of (name_of x) (beyond_of x) (last_of x)) o
        → Begins p (λ ms. UndoingIn ms l c) c (sizes l) o₀ o (begin_undo_in l c e o.marks)
    begins-undo-in (sits-none {q = x} {c}) e d m o₀ o f q h r i = absurd (false≢true d)
    begins-undo-in (sits-more {q = x} {a} {l} {c} s y) e d m o₀ o f q h w i =
        decide (reaches a c e)
        (λ t. let r = reaches-range a c e t in
        subst (λ (r : Begun). Begins p (λ ms. UndoingIn ms (more a l) c) c (size a + sizes l) o₀ o r)
        (sym (undo-in-is a l c e o.marks true (lt-ltb e (c + size a) r.1)))
        (begins-so (begins-undo s e t m o₀ o f (quiet-part q (omega arith) (omega arith)) (omega arith) w i) (omega arith) (omega arith)
        (λ x v. quiet-join x (quiet-agree (quiet-part {j = c + size a} {m = sizes l} q (omega arith) (omega arith)) (agree-above v (omega arith))) refl)
        (λ v x. undoing-here {l = l} x (quiet-agree (quiet-part q (omega arith) (omega arith)) (agree-above v (omega arith))))))
        (λ t. let z : reaches_in l (c + size a) e ≡ true = rw t at d in
        let r = reaches-range-in l (c + size a) e z in
        subst (λ (r : Begun). Begins p (λ ms. UndoingIn ms (more a l) c) c (size a + sizes l) o₀ o r)
        (sym (undo-in-is a l c e o.marks false (le-ltb e (c + size a) r.0)))
        (begins-so (begins-undo-in y e z m o₀ o f (quiet-part q (omega arith) (omega arith)) (omega arith) w i) (omega arith) (omega arith)
        (λ x v. quiet-join (quiet-agree (quiet-part {j = c} {m = size a} q (omega arith) (omega arith)) (agree-below v (omega arith))) x refl)
        (λ v x. undoing-later {a = a} (quiet-agree (quiet-part q (omega arith) (omega arith)) (agree-below v (omega arith))) x)))

  -- an undo part has begun, and the list goes on where it is over
  undone-after : (s : Scope) (l : List ℕ) (o o' : Order) (ms : List ℕ) (v : Bool) (g : List Event) → o'.marks ≡ o.marks → o'.root ≡ o.root
      → Begins p (λ ns. Undoing ns s.body s.body_at) s.body_at (size s.body) o o' (record { marks = ms; over = v; log = g })
      → (Quiet ms s.body_at (size s.body) → Undone p s (with_marks ms o') (undo l s (with_marks ms o')))
      → Undone p s o (where_over (undo l s) (begun_in o' (record { marks = ms; over = v; log = g })))
  undone-after s l o o' ms true g e d b f =
      let r = f (b.quiet refl) in
      record {
        kept = kept_then (subst (λ (ns : List ℕ). Kept s.body_at (size s.body) ns ms) e b.kept) r.kept;
        rooted = r.rooted ∙ d;
        does = does-then b.does r.does;
        comes = r.comes;
      }
  undone-after s l o o' ms false g e d b f =
      record {
        kept = subst (λ (ns : List ℕ). Kept s.body_at (size s.body) ns ms) e b.kept;
        rooted = d;
        does = b.does;
        comes = b.runs refl;
      }

  -- where the last remembered for a scope that undoes were not reached in its body the ties would not hold, by what closed: so all may be said
  unreached-does : (v : Bool) (s : Scope) (o o' : Order) (e : ℕ) (l : List ℕ) → Seat p s → phase (mark_of s.name o) ≡ Phase.undoes v → list_of p s.name o ≡ e ∷ l
      → reaches s.body s.body_at e ≡ false → Does p None o [] o'
  unreached-does v s o o' e l h q i d =
      record {
        does = λ past g.
            let c = (tied_at p (moment_of p o) (moment_of p o) past g (Phase.undoes v) s.name h.name q).2 in
            absurd (false≢true (sym d ∙ every-at (reaches s.body s.body_at) (undone_of p s.name past) e l (subst (λ (z : List ℕ). every (reaches s.body s.body_at) z ≡ true) (c ∙ ap (λ (z : List ℕ). undone_of p s.name past ++ z) i) (closings-reach p past h.body h.inside))));
      }

  -- what is remembered has no mark, and no other scope runs an undo part for it
  pub kept-mark : (l : List Closing) (o : Order) (n : Name) → mark_of n (remembering l o) ≡ mark_of n o
  kept-mark l o root = refl
  kept-mark l o (inner k) = refl

  pub kept-runner : (l : List Closing) (o : Order) (n : Name) (ns : List Name) → runner_at (λ n. mark_of n o) n ns ≡ runner_at (λ n. mark_of n (remembering l o)) n ns
  kept-runner l o n [] = refl
  kept-runner l o n (x ∷ xs) = rw (kept-mark l o n, kept-runner l o x xs)

  pub awake-kept : (v : Bool) (l : List Closing) (o : Order) (n : Name) (ns : List Name) → phase (mark_of n o) ≡ Phase.undoes v
      → (runner_at (λ n. mark_of n (remembering l o)) n ns ≡ n) × (phase (mark_of n (remembering l o)) ≡ Phase.undoes v)
  awake-kept v l o n [] e = (refl, ap phase (kept-mark l o n) ∙ e)
  awake-kept v l o n (x ∷ xs) e = let z : phase (mark_of n (remembering l o)) ≡ Phase.undoes v = ap phase (kept-mark l o n) ∙ e in (rw z, z)

  -- what its undo part does as it begins
  pub last-does : (v : Bool) (s : Scope) (e : ℕ) (l : List ℕ) (o : Order) → Seat p s → phase (mark_of s.name o) ≡ Phase.undoes v → Quiet o.marks s.body_at (size s.body) → list_of p s.name o ≡ e ∷ l
      → (y : Inner) (c : Name) → y.undoes ≡ true → Known p y → Spot p (undo_of y.around y.beyond c) y.undo → y.number ≡ e
      → runner_at (λ n. mark_of n (remembering (without_last (is_for s) (closings o)) o)) y.around y.beyond ≡ s.name → Does p None o (began y.undo ∷ []) (remembering (without_last (is_for s) (closings o)) o)
  last-does v s e l o h q z i x c y kn xs xe xr =
      does-undo p v s o l x h y kn xs (kept-runner (without_last (is_for s) (closings o)) o x.around x.beyond ∙ xr) q (quiet-inner s.body s.body_at z) (i ∙ ap (λ (y : ℕ). y ∷ l) (sym xe))

  -- the undo part of the last remembered begins
  pub last_begins : (v : Bool) (s : Scope) (e : ℕ) (l : List ℕ) (o : Order) → Seat p s → phase (mark_of s.name o) ≡ Phase.undoes v → Quiet o.marks s.body_at (size s.body)
      → s.body_at + size s.body ≤ length o.marks → list_of p s.name o ≡ e ∷ l
      → Begins p (λ ns. Undoing ns s.body s.body_at) s.body_at (size s.body) o (remembering (without_last (is_for s) (closings o)) o) (begin_undo s.body s.body_at e o.marks)
  last_begins v s e l o h q z m i =
      let o' = remembering (without_last (is_for s) (closings o)) o in
      let w = awake-kept v (without_last (is_for s) (closings o)) o s.name h.beyond q in
      decide (reaches s.body s.body_at e)
      (λ d. begins-undo h.body e d s.name o o' (last-does v s e l o h q z i) z m w.0 (v, ap (λ (n : Name). phase (mark_of n o')) w.0 ∙ w.1))
      (λ d. subst (λ (r : Begun). Begins p (λ ns. Undoing ns s.body s.body_at) s.body_at (size s.body) o o' r) (sym (unreached s.body s.body_at e o.marks d))
      (record { kept = kept-itself _ _ o.marks; quiet = λ x. z; runs = λ x. absurd (false≢true (sym x)); does = unreached-does v s o o' e l h q i d }))

  -- A scope undoes its list.
  pub undoes-list : (v : Bool) (s : Scope) (l : List ℕ) (o : Order) → Seat p s → phase (mark_of s.name o) ≡ Phase.undoes v → Quiet o.marks s.body_at (size s.body)
      → s.body_at + size s.body ≤ length o.marks → list_of p s.name o ≡ l → Undone p s o (undo l s o)
  unfolding undo start_undo
  undoes-list v s [] o h q z m i =
      record { kept = kept-itself _ _ o.marks; rooted = refl; does = does-nothing (λ n j. (refl, refl, refl)); comes = (z, i) }
  undoes-list v s (e ∷ l) o h q z m i =
      let o' = remembering (without_last (is_for s) (closings o)) o in
      let b = last_begins v s e l o h q z m i in
      undone-after s l o o' _ _ _ refl refl b
      (λ c. undoes-list v s l (with_marks (begin_undo s.body s.body_at e o.marks).marks o') h
      (ap phase (mark-kept s.name s.body_at o _ h.before (omega arith) refl b.kept) ∙ q) c (omega (arith, b.kept.many)) (removed-list p s e l o h i))
