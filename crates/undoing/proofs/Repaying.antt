-- An undo part that begins has all its sure steps to come, a step in one that runs takes itself away from these, and so it goes through the list. Assumes nothing.
use Prim.Native.Nat.{ℕ, zero, suc, ◌+◌, ◌≤◌, ◌<◌}
use native.Mathlib.Omega.{arith}
use mathlib.Core.Path.{◌≡◌, refl, sym, ap, subst, ◌∙◌}
use mathlib.Core.Bool.{Bool, true, false, cond, ◌&&◌, ◌||◌, false≢true, or-true, or-false}
use mathlib.Core.List.{List, [], ◌∷◌, ◌++◌, append-nil}
use lib.ListN.{length, get_or}
use lib.Dec.{eqb, ltb}
use borrow.Author.Tests.{eqb-true, eq-eqb, ne_eqb, lt-ltb, le-ltb, ltb-true, ltb-false}
use Rattle.plan.specs.Tree.{Own, empty, send, receive, set as setting, raise, leave, choose, repeat, sequence, flow, pick, arm, Act, act, Acts, none, more, Plan, size, sizes, scope, is_scope, numbers_of, general_part, undo_part}
use Rattle.order.specs.declared.Order.{Order}
use Rattle.order.specs.declared.End.TheVariants.{None}
use Rattle.order.specs.Lists.{some, only, without_last}
use Rattle.order.specs.State.{Name, idle, active, with_marks, closings, remembering, mark_of}
use Rattle.order.specs.Event.{Event, began}
use Rattle.order.specs.Begin.{Begun, begin, begin_part, part, part_at, quiet}
use Rattle.order.specs.declared.Way.{Way as Result}
use Rattle.order.specs.declared.Way.TheVariants.{Running as running, Over as over, Raising as raising, Leaving as leaving, Undone as undone, UndoRaising as undo_raising}
use Rattle.order.specs.Scope.{Outcome, begun_in, where_over, Scope, is_for, begin_undo, begin_undo_in, start_undo, undo, from_undo}
use Rattle.order.specs.Acting.{combines, its_own, step_in, step_among}
use Rattle.undoing.specs.Demand3.{Inner}
use Rattle.undoing.specs.Ties.{Place, place_of, body_of, undo_of, name_of, beyond_of, last_of}
use Rattle.undoing.specs.Answered.{is_sure, has_all, surely, surely_among, back_in, back_among, putting, without}
use Rattle.undoing.proofs.Parts.{decide, neither, some-append}
use Rattle.undoing.proofs.Accounts.{Phase, phase, Known}
use Rattle.undoing.proofs.Moves.{Spot, runner_at}
use Rattle.undoing.proofs.Marks.{trio, spread, Quiet, Undoing, undoing-part, undoing-scope, undoing-through, UndoingIn, undoing-here, undoing-later, quiet-part, quiet-agree, agree-below, agree-above}
use Rattle.undoing.proofs.Orders.{list_of, Does, Fit, Sits, sits-part, sits-scope, SitsIn, sits-none, sits-more, Remedy, remedy, remedy-bare, Healers}
use Rattle.undoing.proofs.Remedies.{part-from, part-to, nth-there, nth-run, undoer}
use Rattle.undoing.proofs.Healing.{healers-none, undo-there, undo-all}
use Rattle.undoing.proofs.Seats.{Seat, mark-kept, reaches, reaches_in, reaches-is, reaches-range, reaches-range-in, removed-list}
use Rattle.undoing.proofs.Undo.{undo-is, undo-in-is, unreached, begins-undo, begins-undo-in, awake-kept, last-does, last_begins}
use Rattle.undoing.proofs.Waiting.{opens, Waits, waits-itself, waits-within, WaitsIn, waits-first, waits-later, opens-idle, quiet-waits, quiet-waits-in, nth-waits, undoing-waits}
use Rattle.undoing.proofs.Scoping.{Acted, RunAs, UndoAs}
use Rattle.undoing.proofs.Combining.{arms_none, Idly, idly-same, idly-runs, combines-idly}
use Rattle.undoing.proofs.Stepping.{PartOf, through-is, among-is, undo-step, undoing-part-not, steps-undoing, steps-undoing-in, steps-part, UndoInAs}
use Rattle.undoing.proofs.Sure.{of_kind, surely-is, left_in, left_in_turn, left_of_all, Off, off-below, off-above, off_part, surely-none, Comes, remedy-comes}
use Rattle.undoing.proofs.Lessening.{own_is, LessAs, remedy-less, due-left}
use Rattle.undoing.proofs.Owing.{not-scope, closings-step, directly, directly_in, directly-is, directly-range, directly-range-in, undo-left-none, undo_left_in, undo_left_among, undo-left-is, undo-left-scope, undo-quiet, undo-quiet-in}

-- the definition, by whether an activity is the scope
back_is : (own : Own) (within : Acts) (k e : ℕ) (b : Bool) → (is_scope own && eqb k e) ≡ b
    → back_in (act own within) k e ≡ elim b [ true ↦ surely (part (undo_part (numbers_of own)) within) (part_at (undo_part (numbers_of own)) within (k + 1)) | false ↦ back_among within (k + 1) e ]
unfolding back_in
back_is own within k e b t = subst (λ (z : Bool). back_in (act own within) k e ≡ elim z [ true ↦ surely (part (undo_part (numbers_of own)) within) (part_at (undo_part (numbers_of own)) within (k + 1)) | false ↦ back_among within (k + 1) e ]) t refl

back-in-is : (a : Act) (l : Acts) (c e : ℕ) (b : Bool) → ltb e (c + size a) ≡ b → back_among (more a l) c e ≡ elim b [ true ↦ back_in a c e | false ↦ back_among l (c + size a) e ]
unfolding back_in
back-in-is a l c e b t = subst (λ (z : Bool). back_among (more a l) c e ≡ elim z [ true ↦ back_in a c e | false ↦ back_among l (c + size a) e ]) t refl

-- of an activity other than a scope, and of a scope
pub back-part : (own : Own) (within : Acts) (k e : ℕ) → is_scope own ≡ false → back_in (act own within) k e ≡ back_among within (k + 1) e
back-part own within k e s = back_is own within k e false (rw s)

pub back-scope : (xs : List ℕ) (v : Bool) (b : Act) (l : Acts) (k e : ℕ) → eqb k e ≡ true
    → back_in (act (scope xs v) (more b l)) k e ≡ surely (part (general_part xs) l) (part_at (general_part xs) l (k + 1 + size b))
unfolding part part_at
back-scope xs v b l k e t = back_is (scope xs v) (more b l) k e true t

-- one with no undo part has none
pub back-without : {p : Plan} {s : Name} {xs : List ℕ} {q w : Place} {l : Acts} {c : ℕ} → Healers p s xs false q w l c → (b : Act) (k e : ℕ) → eqb k e ≡ true
    → back_in (act (scope xs false) (more b l)) k e ≡ []
unfolding surely is_sure has_all
back-without {xs = xs} {l = l} h b k e t = back-scope xs false b l k e t ∙ ap (λ (a : Act). surely a (part_at (general_part xs) l (k + 1 + size b))) (healers-none h)

-- an account of what began by other words
comes-so : {left left' : List ℕ → List ℕ} {sure sure' : List ℕ} {r : Begun} → Comes left sure r → sure' ≡ sure → left' r.marks ≡ left r.marks → Comes left' sure' r
comes-so b e d = record { over = λ z. e ∙ b.over z; runs = λ z. d ∙ (b.runs z ∙ sym e) }

-- of a list of which one undo part runs or begins, what is to come is that one's
first-left : (a : Act) (l : Acts) (c : ℕ) (ms : List ℕ) → undo_left_among l (c + size a) ms ≡ [] → undo_left_among (more a l) c ms ≡ undo_left_in a c ms
unfolding undo_left_in
first-left a l c ms e = rw e (append-nil (undo_left_in a c ms))

later-left : (a : Act) (l : Acts) (c : ℕ) (ms : List ℕ) → undo_left_in a c ms ≡ [] → undo_left_among (more a l) c ms ≡ undo_left_among l (c + size a) ms
unfolding undo_left_in
later-left a l c ms e = rw e

pub none-directly : (c e : ℕ) → directly_in none c e ≡ true → ⊥
unfolding directly
none-directly c e d = false≢true d

pub later-directly : (a : Act) (l : Acts) (c e : ℕ) → directly_in (more a l) c e ≡ true → directly a c e ≡ false → directly_in l (c + size a) e ≡ true
unfolding directly
later-directly a l c e d t = rw t at d

-- the undo part of a scope that has one
last-begun : (xs : List ℕ) (b : Act) (l : Acts) (k e : ℕ) (ms : List ℕ) → eqb k e ≡ true
    → begin_undo (act (scope xs true) (more b l)) k e ms ≡ begin (part (general_part xs) l) (part_at (general_part xs) l (k + 1 + size b)) ms
unfolding begin_undo begin_part part part_at
last-begun xs b l k e ms t = rw t

-- What is due for scope e where it stands directly in an activity or in a list; for one that was handed on nothing is in the book.
abbrev pub due_in : Act → (k e : ℕ) → List ℕ
due_in a k e = cond (directly a k e) (back_in a k e) []

abbrev due_among : Acts → (c e : ℕ) → List ℕ
due_among l c e = cond (directly_in l c e) (back_among l c e) []

due-part : (own : Own) (within : Acts) (k e : ℕ) → is_scope own ≡ false → due_in (act own within) k e ≡ due_among within (k + 1) e
due-part own within k e s = rw (directly-is own within k e false s, back-part own within k e s)

-- out of its numbers nothing stands directly
pub out-directly : (a : Act) (k e : ℕ) → k + size a ≤ e → directly a k e ≡ false
out-directly a k e h = decide (directly a k e) (λ t. let r = directly-range a k e t in absurd (omega arith)) (λ t. t)

pub out-directly-in : (l : Acts) (c e : ℕ) → e < c → directly_in l c e ≡ false
out-directly-in l c e h = decide (directly_in l c e) (λ t. let r = directly-range-in l c e t in absurd (omega arith)) (λ t. t)

none-due : (c e : ℕ) → due_among none c e ≡ []
unfolding directly
none-due c e = refl

due-first : (a : Act) (l : Acts) (c e : ℕ) → e < c + size a → due_among (more a l) c e ≡ due_in a c e
unfolding directly
due-first a l c e h = rw (out-directly-in l (c + size a) e h, or-false, back-in-is a l c e true (lt-ltb e (c + size a) h))

due-later : (a : Act) (l : Acts) (c e : ℕ) → c + size a ≤ e → due_among (more a l) c e ≡ due_among l (c + size a) e
unfolding directly
due-later a l c e h = rw (out-directly a c e h, back-in-is a l c e false (le-ltb e (c + size a) h))

module _ (p : Plan) where
  -- The undo part of a scope that is reached in an activity begins: what is due for it is to come, and nothing where it was handed on.
  through-comes : {s : Name} {xs : List ℕ} {x w : Place} {l : Acts} {c : ℕ} → Healers p s xs false x w l c → (b : Act) (k e : ℕ) → k < e → (r : Begun)
      → Comes (undo_left_in (act (scope xs false) (more b l)) k) (due_in (act (scope xs false) (more b l)) k e) r
  through-comes {xs = xs} {l = l} z b k e h r =
      let d : due_in (act (scope xs false) (more b l)) k e ≡ [] = rw (directly-is (scope xs false) (more b l) k e true refl, ne_eqb k e (omega arith)) in
      record { over = λ y. d; runs = λ y. undo-left-none z b k r.marks ∙ sym d }

  mutual
    unfolding size reaches

    pub undo-comes : {x : Place} {a : Act} {k : ℕ} → Sits p x a k → (e : ℕ) → reaches a k e ≡ true → (m : Name) (o₀ o : Order)
        → ((y : Inner) (c : Name) → y.undoes ≡ true → Known p y → Spot p (undo_of y.around y.beyond c) y.undo → y.number ≡ e
        → runner_at (λ n. mark_of n o) y.around y.beyond ≡ m → Does p None o₀ (began y.undo ∷ []) o)
        → Quiet o.marks k (size a) → k + size a ≤ length o.marks → runner_at (λ n. mark_of n o) (name_of x) (beyond_of x) ≡ m → Fit (undo_of (name_of x) (beyond_of x) (last_of x)) o
        → Comes (undo_left_in a k) (due_in a k e) (begin_undo a k e o.marks)
    undo-comes (sits-part {q = x} {own} {within} {k} s g v y l) e d m o₀ o f q h r i =
        subst (Comes (undo_left_in (act own within) k) (due_in (act own within) k e)) (sym (undo-is own within k e o.marks s))
        (comes-so (undo-comes-in l e (sym (reaches-is own within k e s) ∙ d) m o₀ o f (quiet-part q (omega arith) (omega arith)) (omega arith) r i) (due-part own within k e s) (undo-left-is own within k _ s))
    undo-comes (sits-scope {xs = xs} {v = true} {b = b} {f = f'} {u = u} {k = k} kn v w sb z) e d m o₀ o f q h r i =
        let t : eqb k e ≡ true = d in
        subst (Comes (undo_left_in (act (scope xs true) (trio b f' u)) k) (due_in (act (scope xs true) (trio b f' u)) k e)) (sym (last-begun xs b (more f' u) k e o.marks t))
        (comes-so (remedy-comes p (undoer z) o (undo-all z refl (quiet-part q (omega arith) (omega arith))) (omega (arith, part-to (general_part xs) (more f' u) (k + 1 + size b) (undo-there z refl))) i)
        (rw (directly-is (scope xs true) (trio b f' u) k e true refl, t, back-scope xs true b (more f' u) k e t)) (undo-left-scope xs true b (more f' u) k _))
    undo-comes (sits-scope {v = false} {b = b} {k = k} kn v w sb z) e d m o₀ o f q h r i =
        let y = reaches-range b (k + 1) e d in through-comes z b k e (omega arith) _

    pub undo-comes-in : {x : Place} {l : Acts} {c : ℕ} → SitsIn p x l c → (e : ℕ) → reaches_in l c e ≡ true → (m : Name) (o₀ o : Order)
        → ((y : Inner) (c : Name) → y.undoes ≡ true → Known p y → Spot p (undo_of y.around y.beyond c) y.undo → y.number ≡ e
        → runner_at (λ n. mark_of n o) y.around y.beyond ≡ m → Does p None o₀ (began y.undo ∷ []) o)
        → Quiet o.marks c (sizes l) → c + sizes l ≤ length o.marks → runner_at (λ n. mark_of n o) (name_of x) (beyond_of x) ≡ m → Fit (undo_of (name_of x) (beyond_of x) (last_of x)) o
        → Comes (undo_left_among l c) (due_among l c e) (begin_undo_in l c e o.marks)
    undo-comes-in (sits-none {q = x} {c}) e d m o₀ o f q h w i = absurd (false≢true d)
    undo-comes-in (sits-more {q = x} {a} {l} {c} s y) e d m o₀ o f q h w i =
        decide (reaches a c e)
        (λ t. let r = reaches-range a c e t in
        let b = begins-undo p s e t m o₀ o f (quiet-part q (omega arith) (omega arith)) (omega arith) w i in
        subst (Comes (undo_left_among (more a l) c) (due_among (more a l) c e)) (sym (undo-in-is a l c e o.marks true (lt-ltb e (c + size a) r.1)))
        (comes-so (undo-comes s e t m o₀ o f (quiet-part q (omega arith) (omega arith)) (omega arith) w i) (due-first a l c e r.1)
        (first-left a l c _ (undo-quiet-in y _ (quiet-agree (quiet-part q (omega arith) (omega arith)) (agree-above b.kept (omega arith)))))))
        (λ t. let z : reaches_in l (c + size a) e ≡ true = rw t at d in
        let r = reaches-range-in l (c + size a) e z in
        let b = begins-undo-in p y e z m o₀ o f (quiet-part q (omega arith) (omega arith)) (omega arith) w i in
        subst (Comes (undo_left_among (more a l) c) (due_among (more a l) c e)) (sym (undo-in-is a l c e o.marks false (le-ltb e (c + size a) r.0)))
        (comes-so (undo-comes-in y e z m o₀ o f (quiet-part q (omega arith) (omega arith)) (omega arith) w i) (due-later a l c e r.0)
        (later-left a l c _ (undo-quiet s _ (quiet-agree (quiet-part q (omega arith) (omega arith)) (agree-below b.kept (omega arith)))))))

-- what is not reached is not due
mutual
  unfolding reaches

  unreached-due : {p : Plan} {x : Place} {a : Act} {k : ℕ} → Sits p x a k → (e : ℕ) → reaches a k e ≡ false → due_in a k e ≡ []
  unreached-due (sits-part {own = own} {within} {k} s g v y l) e d = due-part own within k e s ∙ unreached-dues l e (sym (reaches-is own within k e s) ∙ d)
  unreached-due (sits-scope {xs = xs} {v = true} {b = b} {f = f} {u = u} {k = k} kn v i sb z) e d = rw (directly-is (scope xs true) (trio b f u) k e true refl, d)
  unreached-due (sits-scope {xs = xs} {v = false} {b = b} {f = f} {u = u} {k = k} kn v i sb z) e d =
      decide (eqb k e) (λ t. rw (directly-is (scope xs false) (trio b f u) k e true refl, t, back-without z b k e t)) (λ t. rw (directly-is (scope xs false) (trio b f u) k e true refl, t))

  unreached-dues : {p : Plan} {x : Place} {l : Acts} {c : ℕ} → SitsIn p x l c → (e : ℕ) → reaches_in l c e ≡ false → due_among l c e ≡ []
  unreached-dues (sits-none {c = c}) e d = none-due c e
  unreached-dues (sits-more {a = a} {l} {c} s y) e d =
      neither (reaches a c e) (reaches_in l (c + size a) e) d (λ i j. decide (ltb e (c + size a))
      (λ t. due-first a l c e (ltb-true e (c + size a) t) ∙ unreached-due s e i) (λ t. due-later a l c e (ltb-false e (c + size a) t) ∙ unreached-dues y e j))

-- What is to come after a step in an undo part that runs.
abbrev pub RepaysAs : (left : List ℕ → List ℕ) (t : ℕ) (ms ns : List ℕ) → Result → Type 0
RepaysAs left t ms ns running = left ns ≡ without t (left ms)
RepaysAs left t ms ns over = Unit {0}
RepaysAs left t ms ns (raising x) = Unit {0}
RepaysAs left t ms ns leaving = Unit {0}
RepaysAs left t ms ns undone = without t (left ms) ≡ []
RepaysAs left t ms ns (undo_raising x) = Unit {0}

pub record Repays (left : List ℕ → List ℕ) (t : ℕ) (o : Order) (r : Outcome) : Type 0 where
  pub lists : closings r.order ≡ closings o
  pub less : RepaysAs left t o.marks r.order.marks r.result

-- by other words
repays-so : {left left' : List ℕ → List ℕ} {t : ℕ} {o : Order} {r : Outcome} → Repays left t o r → left' o.marks ≡ left o.marks → left' r.order.marks ≡ left r.order.marks → Repays left' t o r
repays-so {left} {left'} {t} {o} {r} w e d = record { lists = w.lists; less = go r.result w.less }
  where
    go : (x : Result) → RepaysAs left t o.marks r.order.marks x → RepaysAs left' t o.marks r.order.marks x
    go running y = rw (d, e) y
    go over y = tt
    go (raising x) y = tt
    go leaving y = tt
    go undone y = rw e y
    go (undo_raising x) y = tt

-- nothing in an undo part is an undo part
abbrev NotUndone : Result → Type 0
NotUndone running = Unit {0}
NotUndone over = Unit {0}
NotUndone (raising x) = Unit {0}
NotUndone leaving = Unit {0}
NotUndone undone = ⊥
NotUndone (undo_raising x) = Unit {0}

not-undone : (p : Plan) (a : Act) (k t : ℕ) (o o' : Order) (l : List Event) (x : Result) → RunAs p a k t o l o' x → NotUndone x
not-undone p a k t o o' l running c = tt
not-undone p a k t o o' l over c = tt
not-undone p a k t o o' l (raising x) c = tt
not-undone p a k t o o' l leaving c = tt
not-undone p a k t o o' l undone c = c
not-undone p a k t o o' l (undo_raising x) c = tt

-- what goes up from an undo part
repays-up : (left : List ℕ → List ℕ) (t : ℕ) (o : Order) (r : Outcome) → closings r.order ≡ closings o → NotUndone r.result → LessAs left t o.marks r.order.marks r.result → Repays left t o (from_undo r)
unfolding from_undo
repays-up left t o r e n y = record { lists = e; less = go r.result n y }
  where
    go : (x : Result) → NotUndone x → LessAs left t o.marks r.order.marks x
        → RepaysAs left t o.marks r.order.marks (elim x [ running ↦ running | over ↦ undone | raising n ↦ undo_raising n | leaving ↦ leaving | undone ↦ undone | undo_raising n ↦ undo_raising n ])
    go running n y = y
    go over n y = y
    go (raising x) n y = tt
    go leaving n y = tt
    go undone n y = absurd n
    go (undo_raising x) n y = tt

-- what an idle activity other than a scope makes of it
repays-idly : (p : Plan) (n : Name) (left : List ℕ → List ℕ) (within : Acts) (k t : ℕ) (o : Order) (r r' : Outcome) → Idly r r' → UndoInAs p its_own n within (k + 1) t o r.log r.order r.result
    → Repays left t o r → Repays left t o r'
repays-idly p n left within k t o r r' (idly-same i) c w = subst (Repays left t o) (sym i) w
repays-idly p n left within k t o r r' (idly-runs j i) c w = absurd (never r.result j c)
  where
    never : (x : Result) → x ≡ over → UndoInAs p its_own n within (k + 1) t o r.log r.order x → ⊥
    never running i d = let z : ◌≡◌ {A = ℕ} 0 1 = cc in omega arith
    never over i d = d
    never (raising x) i d = d
    never leaving i d = let z : ◌≡◌ {A = ℕ} 0 1 = cc in omega arith
    never undone i d = let z : ◌≡◌ {A = ℕ} 0 1 = cc in omega arith
    never (undo_raising x) i d = let z : ◌≡◌ {A = ℕ} 0 1 = cc in omega arith

no_less : {k t : ℕ} → k < t → k ≡ t → ⊥
no_less y z = omega arith

-- nothing was to come, and nothing is
nothing-repays : (left : List ℕ → List ℕ) (t : ℕ) (ms ns : List ℕ) (x : Result) → ((ms : List ℕ) → left ms ≡ []) → RepaysAs left t ms ns x
unfolding only
nothing-repays left t ms ns running f = rw (f ns, f ms)
nothing-repays left t ms ns over f = tt
nothing-repays left t ms ns (raising x) f = tt
nothing-repays left t ms ns leaving f = tt
nothing-repays left t ms ns undone f = rw (f ms)
nothing-repays left t ms ns (undo_raising x) f = tt

-- A step in a body of which an undo part runs.
module _ (p : Plan) where
  scope-repays : {x : Place} {c : Bool} (xs : List ℕ) (b f : Act) (u : Acts) (q₀ k t : ℕ) (o : Order)
      → Remedy p x (part (undo_part xs) (trio b f u)) (part_at (undo_part xs) (trio b f u) (k + 1)) → PartOf x (part_at (undo_part xs) (trio b f u) (k + 1))
      → Waits o.marks (act (scope xs true) (trio b f u)) k t c → c ≡ false → Undoing o.marks (act (scope xs true) (trio b f u)) k
      → Fit x o → k + spread b f u ≤ length o.marks
      → Repays (undo_left_in (act (scope xs true) (trio b f u)) k) t o (step_in its_own (act (scope xs true) (trio b f u)) q₀ k t o)
  unfolding size part part_at
  scope-repays xs b f u q₀ k t o su y₁ (waits-itself e d) c r v m = absurd (no_less (undoing-waits r (waits-itself e d) c) e)
  scope-repays xs b f u q₀ k t o su y₁ (waits-within e w) c (undoing-part s _ _) v m = absurd (not-scope s)
  scope-repays xs b f u q₀ k t o su y₁ (waits-within e w) c (undoing-scope x n r) v m =
      let z = nth-waits r w refl in
      let a = part (undo_part xs) (trio b f u) in
      let n = part_at (undo_part xs) (trio b f u) (k + 1) in
      let h = part-to (undo_part xs) (trio b f u) (k + 1) (nth-there r) in
      subst (Repays (undo_left_in (act (scope xs true) (trio b f u)) k) t o) (sym (undo-step p its_own xs b f u q₀ k t o (nth-there r) z.0 z.1))
      (repays-so (repays-up (left_in a n) t o (step_in its_own a n n t o) (closings-step a n n t o (remedy-bare su))
      (not-undone p a n t o _ _ (step_in its_own a n n t o).result (steps-part p its_own su n t o _ y₁ z.2 refl (nth-run r) v (omega arith)).comes)
      (remedy-less p su n t o _ y₁ z.2 refl (nth-run r) v (omega arith)))
      (undo-left-scope xs true b (more f u) k o.marks) (undo-left-scope xs true b (more f u) k _))

  through-repays : {s : Name} {xs : List ℕ} {x w : Place} {f : Act} {u : Acts} {n : ℕ} → Healers p s xs false x w (more f u) n → {c : Bool} (b : Act) (q₀ k t : ℕ) (m₀ : Name) (o : Order)
      → Waits o.marks (act (scope xs false) (trio b f u)) k t c → c ≡ false → get_or o.marks k 0 ≡ idle → Undoing o.marks b (k + 1) → Quiet o.marks (k + 1 + size b) (size f + sizes u)
      → (Waits o.marks b (k + 1) t false → Acted (k + 1) (size b) o (UndoAs p m₀ b (k + 1) t o) (step_in its_own b (k + 1) (k + 1) t o))
      → (Waits o.marks b (k + 1) t false → closings (step_in its_own b (k + 1) (k + 1) t o).order ≡ closings o)
      → Repays (undo_left_in (act (scope xs false) (trio b f u)) k) t o (step_in its_own (act (scope xs false) (trio b f u)) q₀ k t o)
  unfolding size
  through-repays {xs = xs} {f = f} {u} z b q₀ k t m₀ o (waits-itself e d) c x r q a g = absurd (no_less (undoing-waits (undoing-through {xs = xs} {f = f} {u = u} x r q) (waits-itself e d) c) e)
  through-repays {xs = xs} {f = f} {u} z b q₀ k t m₀ o (waits-within e (waits-first d w)) c x r q a g =
      subst (Repays (undo_left_in (act (scope xs false) (trio b f u)) k) t o) (sym (through-is p its_own xs b f u q₀ k t m₀ o x e d (a w)))
      (record { lists = g w; less = nothing-repays (undo_left_in (act (scope xs false) (trio b f u)) k) t o.marks _ (step_in its_own b (k + 1) (k + 1) t o).result (λ ms. undo-left-none z b k ms) })
  through-repays z b q₀ k t m₀ o (waits-within e (waits-later d w)) c x r q a g = absurd (quiet-waits-in w refl q)

  mutual
    unfolding size part part_at

    pub undo-repays : {x : Place} {a : Act} {k : ℕ} → Sits p x a k → (q₀ t : ℕ) (o : Order) (b : Bool) → PartOf x q₀ → Waits o.marks a k t b → b ≡ false → Undoing o.marks a k
        → (m₀ : Name) → runner_at (λ n. mark_of n o) (name_of x) (beyond_of x) ≡ m₀ → Fit (undo_of (name_of x) (beyond_of x) (last_of x)) o → k + size a ≤ length o.marks → Repays (undo_left_in a k) t o (step_in its_own a q₀ k t o)
    undo-repays (sits-part {q = x} {own} {within} {k} s g u y l) q₀ t o b q₁ (waits-itself z d) e r m₀ y₂ v m = absurd (no_less (undoing-waits r (waits-itself z d) e) z)
    undo-repays (sits-part {q = x} {own} {within} {k} s g u y l) q₀ t o b q₁ (waits-within h w) e (undoing-part s₁ z r) m₀ y₂ v m =
        let i : opens own (get_or o.marks k 0) ≡ false = opens-idle own (get_or o.marks k 0) z in
        let a = steps-undoing-in p its_own l q₀ t o _ q₁ w i r m₀ y₂ v (omega arith) in
        let j = step_among its_own within false q₀ (k + 1) t o in
        subst (Repays (undo_left_in (act own within) k) t o)
        (sym (own_is own within q₀ k t o false s (ne_eqb k t (omega arith)) ∙ ap (λ (x : Order). combines own within k t (step_among its_own within false q₀ (k + 1) t x)) (arms_none own within k t o (undoing-part-not p its_own r w i))))
        (repays-idly p m₀ (undo_left_in (act own within) k) within k t o j (combines own within k t j) (combines-idly own within k t j s (a.kept.below k (omega arith) ∙ z)) a.comes
        (repays-so (undo-repays-in l q₀ t o _ q₁ w i r m₀ y₂ v (omega arith)) (undo-left-is own within k o.marks s) (undo-left-is own within k j.order.marks s)))
    undo-repays (sits-part s g u y l) q₀ t o b q₁ (waits-within h w) e (undoing-scope _ _ _) m₀ y₂ v m = absurd (not-scope s)
    undo-repays (sits-part s g u y l) q₀ t o b q₁ (waits-within h w) e (undoing-through _ _ _) m₀ y₂ v m = absurd (not-scope s)
    undo-repays (sits-scope {xs = xs} {v = true} {b = b} {f = f} {u = u} {k = k} kn d i sb z) q₀ t o c q₁ w e r m₀ y₂ v m = scope-repays xs b f u q₀ k t o (undoer z) tt w e r v m
    undo-repays (sits-scope {v = false} kn d i sb z) q₀ t o c q₁ w e (undoing-part s _ _) m₀ y₂ v m = absurd (not-scope s)
    undo-repays (sits-scope {v = false} {b = b} {k = k} kn d i sb z) q₀ t o c q₁ w e (undoing-through x r q) m₀ y₂ v m =
        through-repays z b q₀ k t m₀ o w e x r q (λ w₁. steps-undoing p its_own sb (k + 1) t o false refl w₁ refl r m₀ (rw x y₂) (rw x v) (omega arith))
        (λ w₁. (undo-repays sb (k + 1) t o false refl w₁ refl r m₀ (rw x y₂) (rw x v) (omega arith)).lists)

    pub undo-repays-in : {x : Place} {l : Acts} {c : ℕ} → SitsIn p x l c → (q₀ t : ℕ) (o : Order) (b : Bool) → PartOf x q₀ → WaitsIn o.marks l c t b → b ≡ false → UndoingIn o.marks l c
        → (m₀ : Name) → runner_at (λ n. mark_of n o) (name_of x) (beyond_of x) ≡ m₀ → Fit (undo_of (name_of x) (beyond_of x) (last_of x)) o → c + sizes l ≤ length o.marks
        → Repays (undo_left_among l c) t o (step_among its_own l false q₀ c t o)
    undo-repays-in (sits-none {q = q} {c = c}) q₀ t o b q₁ z e _ m₀ y₂ v m = elim z [ ]
    undo-repays-in (sits-more {q = x} {a} {l} {c} s y) q₀ t o b q₁ (waits-first h w) e (undoing-here r q) m₀ y₂ v m =
        let i = steps-undoing p its_own s q₀ t o b q₁ w e r m₀ y₂ v (omega arith) in
        subst (Repays (undo_left_among (more a l) c) t o) (sym (among-is its_own a l q₀ c t o true (lt-ltb t (c + size a) h)))
        (repays-so (undo-repays s q₀ t o b q₁ w e r m₀ y₂ v (omega arith)) (first-left a l c o.marks (undo-quiet-in y o.marks q)) (first-left a l c _ (undo-quiet-in y _ (quiet-agree q (agree-above i.kept (omega arith))))))
    undo-repays-in (sits-more {q = x} {a} {l} {c} s y) q₀ t o b q₁ (waits-later h w) e (undoing-here r q) m₀ y₂ v m = absurd (quiet-waits-in w e q)
    undo-repays-in (sits-more {q = x} {a} {l} {c} s y) q₀ t o b q₁ (waits-first h w) e (undoing-later q r) m₀ y₂ v m = absurd (quiet-waits w e q)
    undo-repays-in (sits-more {q = x} {a} {l} {c} s y) q₀ t o b q₁ (waits-later h w) e (undoing-later q r) m₀ y₂ v m =
        let i = steps-undoing-in p its_own y q₀ t o b q₁ w e r m₀ y₂ v (omega arith) in
        subst (Repays (undo_left_among (more a l) c) t o) (sym (among-is its_own a l q₀ c t o false (le-ltb t (c + size a) h)))
        (repays-so (undo-repays-in y q₀ t o b q₁ w e r m₀ y₂ v (omega arith)) (later-left a l c o.marks (undo-quiet s o.marks q)) (later-left a l c _ (undo-quiet s _ (quiet-agree q (agree-below i.kept (omega arith))))))

-- one of two tests holds
or_case : {P : Type 0} (a b : Bool) → (a || b) ≡ true → (a ≡ true → P) → (b ≡ true → P) → P
or_case true b h f g = f refl
or_case false b h f g = g h

-- the scope directly in a list stands in the first or in the others
pub back-first : (a : Act) (l : Acts) (c e : ℕ) → directly a c e ≡ true → back_among (more a l) c e ≡ back_in a c e
back-first a l c e t = back-in-is a l c e true (lt-ltb e (c + size a) (directly-range a c e t).1)

pub back-later : (a : Act) (l : Acts) (c e : ℕ) → directly_in l (c + size a) e ≡ true → back_among (more a l) c e ≡ back_among l (c + size a) e
back-later a l c e t = back-in-is a l c e false (le-ltb e (c + size a) (directly-range-in l (c + size a) e t).0)

pub direct-scope : (xs : List ℕ) (z : Bool) (within : Acts) (k e : ℕ) → directly (act (scope xs z) within) k e ≡ true → eqb k e ≡ true
direct-scope xs z within k e d = sym (directly-is (scope xs z) within k e true refl) ∙ d

-- What takes a scope back is a step of its undo part: a number that is none of a tree's takes none of its scopes back.
mutual
  unfolding size some

  pub back_none : (a : Act) (k e t : ℕ) {p : Plan} {x : Place} → Sits p x a k → directly a k e ≡ true → Off t k (size a) → some (eqb t) (back_in a k e) ≡ false
  back_none (act own within) k e t (sits-part s g v y l) d f =
      ap (some (eqb t)) (back-part own within k e s) ∙ back-none-in within (k + 1) e t l (sym (directly-is own within k e false s) ∙ d) (off_part f (omega arith) (omega arith))
  back_none (act (scope xs true) (more b (more f u))) k e t (sits-scope kn v i sb z) d g =
      ap (some (eqb t)) (back-scope xs true b (more f u) k e (direct-scope xs true (trio b f u) k e d))
      ∙ surely-none (part (general_part xs) (more f u)) (part_at (general_part xs) (more f u) (k + 1 + size b)) t
      (off_part g (omega (arith, part-from (general_part xs) (more f u) (k + 1 + size b))) (omega (arith, part-to (general_part xs) (more f u) (k + 1 + size b) (undo-there z refl))))
  back_none (act (scope xs false) (more b (more f u))) k e t (sits-scope kn v i sb z) d g =
      ap (some (eqb t)) (back-without z b k e (direct-scope xs false (trio b f u) k e d))

  pub back-none-in : (l : Acts) (c e t : ℕ) {p : Plan} {x : Place} → SitsIn p x l c → directly_in l c e ≡ true → Off t c (sizes l) → some (eqb t) (back_among l c e) ≡ false
  back-none-in none c e t sits-none d f = absurd (none-directly c e d)
  back-none-in (more a l) c e t (sits-more s y) d f =
      decide (directly a c e)
      (λ b. ap (some (eqb t)) (back-first a l c e b) ∙ back_none a c e t s b (off_part f (omega arith) (omega arith)))
      (λ b. let z = later-directly a l c e d b in ap (some (eqb t)) (back-later a l c e z) ∙ back-none-in l (c + size a) e t y z (off_part f (omega arith) (omega arith)))

-- A step that takes back, in a body of which an undo part runs, is still to come.
scope-due : {ms : List ℕ} (xs : List ℕ) (b f : Act) (u : Acts) (k e t : ℕ) (c : Bool) → Waits ms (act (scope xs true) (trio b f u)) k t c → c ≡ false → eqb k e ≡ true
    → Undoing ms (act (scope xs true) (trio b f u)) k → some (eqb t) (back_in (act (scope xs true) (trio b f u)) k e) ≡ true
    → some (eqb t) (undo_left_in (act (scope xs true) (trio b f u)) k ms) ≡ true
unfolding part part_at
scope-due xs b f u k e t c (waits-itself z g) n d r h = absurd (no_less (undoing-waits r (waits-itself z g) n) z)
scope-due xs b f u k e t c (waits-within z w) n d (undoing-part s _ _) h = absurd (not-scope s)
scope-due {ms} xs b f u k e t c (waits-within z w) n d (undoing-scope x y r) h =
    ap (some (eqb t)) (undo-left-scope xs true b (more f u) k ms)
    ∙ due-left (part (undo_part xs) (trio b f u)) (part_at (undo_part xs) (trio b f u) (k + 1)) t _ (nth-waits r w refl).2 refl (nth-run r) (ap (some (eqb t)) (sym (back-scope xs true b (more f u) k e d)) ∙ h)

mutual
  unfolding size some

  pub undo-due : {p : Plan} {x : Place} {ms : List ℕ} (a : Act) (k e t : ℕ) (b : Bool) → Sits p x a k → directly a k e ≡ true → Waits ms a k t b → b ≡ false → Undoing ms a k
      → some (eqb t) (back_in a k e) ≡ true → some (eqb t) (undo_left_in a k ms) ≡ true
  undo-due (act own within) k e t b (sits-part s g v y l) d (waits-itself z c) f r h = absurd (no_less (undoing-waits r (waits-itself z c) f) z)
  undo-due {ms = ms} (act own within) k e t b (sits-part s g v y l) d (waits-within z w) f (undoing-part _ i r) h =
      ap (some (eqb t)) (undo-left-is own within k ms s)
      ∙ undo-due-in within (k + 1) e t _ l (sym (directly-is own within k e false s) ∙ d) w (opens-idle own (get_or ms k 0) i) r (ap (some (eqb t)) (sym (back-part own within k e s)) ∙ h)
  undo-due (act own within) k e t b (sits-part s g v y l) d (waits-within z w) f (undoing-scope _ _ _) h = absurd (not-scope s)
  undo-due (act own within) k e t b (sits-part s g v y l) d (waits-within z w) f (undoing-through _ _ _) h = absurd (not-scope s)
  undo-due (act (scope xs true) (more b' (more f' u))) k e t b (sits-scope kn v i sb z) d w f r h = scope-due xs b' f' u k e t b w f (direct-scope xs true (trio b' f' u) k e d) r h
  undo-due (act (scope xs false) (more b' (more f' u))) k e t b (sits-scope kn v i sb z) d w f r h =
      absurd (false≢true (ap (some (eqb t)) (sym (back-without z b' k e (direct-scope xs false (trio b' f' u) k e d))) ∙ h))

  undo-due-in : {p : Plan} {x : Place} {ms : List ℕ} (l : Acts) (c e t : ℕ) (b : Bool) → SitsIn p x l c → directly_in l c e ≡ true → WaitsIn ms l c t b → b ≡ false → UndoingIn ms l c
      → some (eqb t) (back_among l c e) ≡ true → some (eqb t) (undo_left_among l c ms) ≡ true
  undo-due-in {p = p} {ms = ms} none c e t b _ d z f _ h = elim z [ ]
  undo-due-in {ms = ms} (more a l) c e t b (sits-more s y) d (waits-first z w) f (undoing-here r q) h =
      ap (some (eqb t)) (first-left a l c ms (undo-quiet-in y ms q))
      ∙ decide (directly a c e)
      (λ i. undo-due a c e t b s i w f r (ap (some (eqb t)) (sym (back-first a l c e i)) ∙ h))
      (λ i. let j = later-directly a l c e d i in
      absurd (false≢true (sym (back-none-in l (c + size a) e t y j (off-below t (c + size a) (sizes l) z)) ∙ (ap (some (eqb t)) (sym (back-later a l c e j)) ∙ h))))
  undo-due-in (more a l) c e t b (sits-more s y) d (waits-later z w) f (undoing-here r q) h = absurd (quiet-waits-in w f q)
  undo-due-in (more a l) c e t b (sits-more s y) d (waits-first z w) f (undoing-later q r) h = absurd (quiet-waits w f q)
  undo-due-in {ms = ms} (more a l) c e t b (sits-more s y) d (waits-later z w) f (undoing-later q r) h =
      ap (some (eqb t)) (later-left a l c ms (undo-quiet s ms q))
      ∙ decide (directly a c e)
      (λ i. absurd (false≢true (sym (back_none a c e t s i (off-above t c (size a) z)) ∙ (ap (some (eqb t)) (sym (back-first a l c e i)) ∙ h))))
      (λ i. let j = later-directly a l c e d i in undo-due-in l (c + size a) e t b y j w f r (ap (some (eqb t)) (sym (back-later a l c e j)) ∙ h))

-- And it stands in an undo part of the scope around.
kind-place : (p : Plan) (q : Place) (own : Own) (within : Acts) (k t : ℕ) → place_of p k ≡ q → (some (eqb t) (surely_among within (k + 1)) ≡ true → place_of p t ≡ q)
    → some (eqb t) (of_kind own (k ∷ []) (surely_among within (k + 1)) (surely_among within (k + 1))) ≡ true → place_of p t ≡ q
unfolding some
kind-place p q own within k t v f h = go own h
  where
    its : some (eqb t) (k ∷ []) ≡ true → place_of p t ≡ q
    its e = subst (λ (i : ℕ). place_of p i ≡ q) (sym (eqb-true t k (sym (or-false (eqb t k)) ∙ e))) v

    go : (own : Own) → some (eqb t) (of_kind own (k ∷ []) (surely_among within (k + 1)) (surely_among within (k + 1))) ≡ true → place_of p t ≡ q
    go empty h = absurd (false≢true h)
    go (send x y vs) h = its h
    go (receive x y vs) h = its h
    go (setting x y) h = its h
    go (raise zero) h = its h
    go (raise (suc number)) h = its h
    go leave h = its h
    go (choose x) h = its h
    go (repeat x) h = absurd (false≢true h)
    go sequence h = f h
    go flow h = f h
    go pick h = absurd (false≢true h)
    go (scope xs u) h = absurd (false≢true h)
    go (arm x y vs) h = absurd (false≢true h)

mutual
  unfolding size surely some

  surely-place : {p : Plan} {q : Place} {a : Act} {k : ℕ} → Sits p q a k → (t : ℕ) → some (eqb t) (surely a k) ≡ true → place_of p t ≡ q
  surely-place {p = p} {q = q} (sits-part {own = own} {within} {k} s g v y l) t h =
      kind-place p q own within k t v.place (λ z. surely-places l t z) (ap (some (eqb t)) (sym (surely-is own within k)) ∙ h)
  surely-place (sits-scope {xs = xs} {v = z₀} {b = b} {f = f} {u = u} {k = k} kn v i sb z) t h = absurd (false≢true (ap (some (eqb t)) (sym (surely-is (scope xs z₀) (trio b f u) k)) ∙ h))

  surely-places : {p : Plan} {q : Place} {l : Acts} {c : ℕ} → SitsIn p q l c → (t : ℕ) → some (eqb t) (surely_among l c) ≡ true → place_of p t ≡ q
  surely-places sits-none t h = absurd (false≢true h)
  surely-places (sits-more {a = a} {l} {c} s y) t h =
      or_case (some (eqb t) (surely a c)) (some (eqb t) (surely_among l (c + size a))) (sym (some-append (eqb t) (surely a c) (surely_among l (c + size a))) ∙ h) (λ z. surely-place s t z) (λ z. surely-places y t z)

remedy-place : {p : Plan} {q : Place} {a : Act} {k : ℕ} → Remedy p q a k → (t : ℕ) → some (eqb t) (surely a k) ≡ true → place_of p t ≡ q
remedy-place {p = p} {q = q} (remedy {own = own} {within} {k} s a g v z l b) t h =
    kind-place p q own within k t v.place (λ z. surely-places l t z) (ap (some (eqb t)) (sym (surely-is own within k)) ∙ h)

mutual
  unfolding some

  pub back-place : {p : Plan} {x : Place} (a : Act) (k e t : ℕ) → Sits p x a k → directly a k e ≡ true → some (eqb t) (back_in a k e) ≡ true → place_of p t ≡ undo_of (name_of x) (beyond_of x) (last_of x)
  back-place (act own within) k e t (sits-part s g v y l) d h =
      back-places within (k + 1) e t l (sym (directly-is own within k e false s) ∙ d) (ap (some (eqb t)) (sym (back-part own within k e s)) ∙ h)
  back-place (act (scope xs true) (more b (more f u))) k e t (sits-scope kn v i sb z) d h =
      remedy-place (undoer z) t (ap (some (eqb t)) (sym (back-scope xs true b (more f u) k e (direct-scope xs true (trio b f u) k e d))) ∙ h)
  back-place (act (scope xs false) (more b (more f u))) k e t (sits-scope kn v i sb z) d h =
      absurd (false≢true (ap (some (eqb t)) (sym (back-without z b k e (direct-scope xs false (trio b f u) k e d))) ∙ h))

  back-places : {p : Plan} {x : Place} (l : Acts) (c e t : ℕ) → SitsIn p x l c → directly_in l c e ≡ true → some (eqb t) (back_among l c e) ≡ true → place_of p t ≡ undo_of (name_of x) (beyond_of x) (last_of x)
  back-places none c e t sits-none d h = absurd (none-directly c e d)
  back-places (more a l) c e t (sits-more s y) d h =
      decide (directly a c e)
      (λ i. back-place a c e t s i (ap (some (eqb t)) (sym (back-first a l c e i)) ∙ h))
      (λ i. let j = later-directly a l c e d i in back-places l (c + size a) e t y j (ap (some (eqb t)) (sym (back-later a l c e j)) ∙ h))

-- What is still to come is sure.
kind-sub : (t : ℕ) (own : Own) (x y z x' y' z' : List ℕ) → (some (eqb t) x ≡ true → some (eqb t) x' ≡ true) → (some (eqb t) y ≡ true → some (eqb t) y' ≡ true) → (some (eqb t) z ≡ true → some (eqb t) z' ≡ true)
    → some (eqb t) (of_kind own x y z) ≡ true → some (eqb t) (of_kind own x' y' z') ≡ true
unfolding some
kind-sub t empty x y z x' y' z' e f g h = h
kind-sub t (send a b vs) x y z x' y' z' e f g h = e h
kind-sub t (receive a b vs) x y z x' y' z' e f g h = e h
kind-sub t (setting a b) x y z x' y' z' e f g h = e h
kind-sub t (raise zero) x y z x' y' z' e f g h = e h
kind-sub t (raise (suc number)) x y z x' y' z' e f g h = e h
kind-sub t leave x y z x' y' z' e f g h = e h
kind-sub t (choose a) x y z x' y' z' e f g h = e h
kind-sub t (repeat a) x y z x' y' z' e f g h = h
kind-sub t sequence x y z x' y' z' e f g h = f h
kind-sub t flow x y z x' y' z' e f g h = g h
kind-sub t pick x y z x' y' z' e f g h = h
kind-sub t (scope xs u) x y z x' y' z' e f g h = h
kind-sub t (arm a b vs) x y z x' y' z' e f g h = h

-- of two lists
some_first : (t : ℕ) (x y : List ℕ) → some (eqb t) x ≡ true → some (eqb t) (x ++ y) ≡ true
some_first t x y h = some-append (eqb t) x y ∙ rw h

some-later : (t : ℕ) (x y : List ℕ) → some (eqb t) y ≡ true → some (eqb t) (x ++ y) ≡ true
some-later t x y h = some-append (eqb t) x y ∙ (ap (λ (b : Bool). some (eqb t) x || b) h ∙ or-true (some (eqb t) x))

some-either : {P : Type 0} (t : ℕ) (x y : List ℕ) → some (eqb t) (x ++ y) ≡ true → (some (eqb t) x ≡ true → P) → (some (eqb t) y ≡ true → P) → P
some-either t x y h f g = or_case (some (eqb t) x) (some (eqb t) y) (sym (some-append (eqb t) x y) ∙ h) f g

some-choice : {P : Type 0} (t : ℕ) (b : Bool) (x y : List ℕ) → some (eqb t) (cond b x y) ≡ true → (some (eqb t) x ≡ true → P) → (some (eqb t) y ≡ true → P) → P
some-choice t true x y h f g = f h
some-choice t false x y h f g = g h

some-cond : (t : ℕ) (b : Bool) (x : List ℕ) → some (eqb t) (cond b x []) ≡ true → some (eqb t) x ≡ true
unfolding some
some-cond t true x h = h
some-cond t false x h = absurd (false≢true h)

mutual
  unfolding left_in surely some

  left-sure : (a : Act) (k t : ℕ) (ms : List ℕ) → some (eqb t) (left_in a k ms) ≡ true → some (eqb t) (surely a k) ≡ true
  left-sure (act own within) k t ms h =
      ap (some (eqb t)) (surely-is own within k)
      ∙ kind-sub t own _ _ _ (k ∷ []) (surely_among within (k + 1)) (surely_among within (k + 1)) (some-cond t (eqb (get_or ms k 0) active) (k ∷ [])) (λ z. turn-sure within (k + 1) t ms z) (λ z. all-sure within (k + 1) t ms z) h

  turn-sure : (l : Acts) (c t : ℕ) (ms : List ℕ) → some (eqb t) (left_in_turn l c ms) ≡ true → some (eqb t) (surely_among l c) ≡ true
  turn-sure none c t ms h = absurd (false≢true h)
  turn-sure (more a l) c t ms h =
      some-choice t (quiet c (size a) ms) (left_in_turn l (c + size a) ms) (left_in a c ms ++ surely_among l (c + size a)) h
      (λ z. some-later t (surely a c) (surely_among l (c + size a)) (turn-sure l (c + size a) t ms z))
      (λ z. some-either t (left_in a c ms) (surely_among l (c + size a)) z
      (λ y. some_first t (surely a c) (surely_among l (c + size a)) (left-sure a c t ms y)) (λ y. some-later t (surely a c) (surely_among l (c + size a)) y))

  all-sure : (l : Acts) (c t : ℕ) (ms : List ℕ) → some (eqb t) (left_of_all l c ms) ≡ true → some (eqb t) (surely_among l c) ≡ true
  all-sure none c t ms h = absurd (false≢true h)
  all-sure (more a l) c t ms h =
      some-either t (left_in a c ms) (left_of_all l (c + size a) ms) h
      (λ y. some_first t (surely a c) (surely_among l (c + size a)) (left-sure a c t ms y)) (λ y. some-later t (surely a c) (surely_among l (c + size a)) (all-sure l (c + size a) t ms y))

-- so it takes back one of the scopes directly in the body
pub record Back (a : Act) (k t : ℕ) : Type 0 where
  pub scope : ℕ
  pub direct : directly a k scope ≡ true
  pub takes : some (eqb t) (back_in a k scope) ≡ true

pub record BackIn (l : Acts) (c t : ℕ) : Type 0 where
  pub scope : ℕ
  pub direct : directly_in l c scope ≡ true
  pub takes : some (eqb t) (back_among l c scope) ≡ true

back-here : (a : Act) (l : Acts) (c t : ℕ) → Back a c t → BackIn (more a l) c t
unfolding directly
back-here a l c t b = record { scope = b.scope; direct = rw b.direct; takes = ap (some (eqb t)) (back-first a l c b.scope b.direct) ∙ b.takes }

back-there : (a : Act) (l : Acts) (c t : ℕ) → BackIn l (c + size a) t → BackIn (more a l) c t
unfolding directly
back-there a l c t b = record { scope = b.scope; direct = rw (b.direct, or-true); takes = ap (some (eqb t)) (back-later a l c b.scope b.direct) ∙ b.takes }

none_left : (c t : ℕ) (ms : List ℕ) → some (eqb t) (undo_left_among none c ms) ≡ true → ⊥
unfolding undo_left_in some
none_left c t ms h = false≢true h

more_left : (a : Act) (l : Acts) (c : ℕ) (ms : List ℕ) → undo_left_among (more a l) c ms ≡ undo_left_in a c ms ++ undo_left_among l (c + size a) ms
unfolding undo_left_in
more_left a l c ms = refl

mutual
  unfolding some

  pub left_back : {p : Plan} {x : Place} {a : Act} {k : ℕ} → Sits p x a k → (t : ℕ) (ms : List ℕ) → some (eqb t) (undo_left_in a k ms) ≡ true → Back a k t
  left_back (sits-part {own = own} {within} {k} s g v y l) t ms h =
      let b = left-backs l t ms (ap (some (eqb t)) (sym (undo-left-is own within k ms s)) ∙ h) in
      record { scope = b.scope; direct = directly-is own within k b.scope false s ∙ b.direct; takes = ap (some (eqb t)) (back-part own within k b.scope s) ∙ b.takes }
  left_back (sits-scope {xs = xs} {v = true} {b = b} {f = f} {u = u} {k = k} kn v i sb z) t ms h =
      record {
        scope = k;
        direct = directly-is (scope xs true) (trio b f u) k k true refl ∙ eq-eqb k k refl;
        takes = ap (some (eqb t)) (back-scope xs true b (more f u) k k (eq-eqb k k refl))
            ∙ left-sure (part (general_part xs) (more f u)) (part_at (general_part xs) (more f u) (k + 1 + size b)) t ms (ap (some (eqb t)) (sym (undo-left-scope xs true b (more f u) k ms)) ∙ h);
      }
  left_back (sits-scope {v = false} {b = b} {k = k} kn v i sb z) t ms h = absurd (false≢true (ap (some (eqb t)) (sym (undo-left-none z b k ms)) ∙ h))

  left-backs : {p : Plan} {x : Place} {l : Acts} {c : ℕ} → SitsIn p x l c → (t : ℕ) (ms : List ℕ) → some (eqb t) (undo_left_among l c ms) ≡ true → BackIn l c t
  left-backs (sits-none {c = c}) t ms h = absurd (none_left c t ms h)
  left-backs (sits-more {a = a} {l} {c} s y) t ms h =
      some-either t (undo_left_in a c ms) (undo_left_among l (c + size a) ms) (ap (some (eqb t)) (sym (more_left a l c ms)) ∙ h)
      (λ z. back-here a l c t (left_back s t ms z)) (λ z. back-there a l c t (left-backs y t ms z))

-- a list without what it has not
pub none-without : (t : ℕ) (l : List ℕ) → some (eqb t) l ≡ false → without t l ≡ l
unfolding some only
none-without t [] h = refl
none-without t (x ∷ l) h = decide (eqb t x) (λ e. absurd (false≢true (sym h ∙ rw e))) (λ e. rw (e, none-without t l (rw e at h)))

-- The close of a scope directly inside stands in the body.
mutual
  pub close-place : {p : Plan} {x : Place} (a : Act) (k e : ℕ) → Sits p x a k → directly a k e ≡ true → place_of p e ≡ body_of (name_of x) (beyond_of x) (last_of x)
  close-place (act own within) k e (sits-part s g v y l) d = close-places within (k + 1) e l (sym (directly-is own within k e false s) ∙ d)
  close-place {p = p} (act (scope xs z₀) (more b (more f u))) k e (sits-scope {n = n} {c} {ns} kn v i sb z) d =
      subst (λ (j : ℕ). place_of p j ≡ body_of n ns c) (eqb-true k e (direct-scope xs z₀ (trio b f u) k e d)) v.place

  close-places : {p : Plan} {x : Place} (l : Acts) (c e : ℕ) → SitsIn p x l c → directly_in l c e ≡ true → place_of p e ≡ body_of (name_of x) (beyond_of x) (last_of x)
  close-places none c e sits-none d = absurd (none-directly c e d)
  close-places (more a l) c e (sits-more s y) d = decide (directly a c e) (λ i. close-place a c e s i) (λ i. close-places l (c + size a) e y (later-directly a l c e d i))

-- what is due for these closings, the latest first
unfoldable pub dues_of : (back : ℕ → List ℕ) → List ℕ → List (List ℕ)
dues_of back [] = []
dues_of back (e ∷ l) = putting (back e) (dues_of back l)

-- A scope undoes its list: where one of its undo parts runs then, that is to come, and what is remembered; else nothing was due.
abbrev pub PaysAs : Plan → Scope → (due : List (List ℕ)) → Order → Result → Type 0
PaysAs p s d o running = putting (undo_left_in s.body s.body_at o.marks) (dues_of (due_in s.body s.body_at) (list_of p s.name o)) ≡ d
PaysAs p s d o over = d ≡ []
PaysAs p s d o (raising x) = Unit {0}
PaysAs p s d o leaving = Unit {0}
PaysAs p s d o undone = Unit {0}
PaysAs p s d o (undo_raising x) = Unit {0}

module _ (p : Plan) where
  undo-then : (s : Scope) (l : List ℕ) (e : ℕ) (o' : Order) (ms : List ℕ) (v : Bool) (g : List Event)
      → Comes (undo_left_in s.body s.body_at) (due_in s.body s.body_at e) (record { marks = ms; over = v; log = g })
      → list_of p s.name (with_marks ms o') ≡ l
      → (v ≡ true → PaysAs p s (dues_of (due_in s.body s.body_at) l) (undo l s (with_marks ms o')).order (undo l s (with_marks ms o')).result)
      → PaysAs p s (dues_of (due_in s.body s.body_at) (e ∷ l)) (where_over (undo l s) (begun_in o' (record { marks = ms; over = v; log = g }))).order (where_over (undo l s) (begun_in o' (record { marks = ms; over = v; log = g }))).result
  unfolding dues_of
  undo-then s l e o' ms true g b i f =
      subst (λ (d : List ℕ). PaysAs p s (putting d (dues_of (due_in s.body s.body_at) l)) (undo l s (with_marks ms o')).order (undo l s (with_marks ms o')).result) (sym (b.over refl)) (f refl)
  undo-then s l e o' ms false g b i f = rw (b.runs refl, i)

  last-comes : (v : Bool) (s : Scope) (e : ℕ) (l : List ℕ) (o : Order) → Seat p s → phase (mark_of s.name o) ≡ Phase.undoes v → Quiet o.marks s.body_at (size s.body)
      → s.body_at + size s.body ≤ length o.marks → list_of p s.name o ≡ e ∷ l → Comes (undo_left_in s.body s.body_at) (due_in s.body s.body_at e) (begin_undo s.body s.body_at e o.marks)
  last-comes v s e l o h q z m i =
      let o' = remembering (without_last (is_for s) (closings o)) o in
      let w = awake-kept p v (without_last (is_for s) (closings o)) o s.name h.beyond q in
      decide (reaches s.body s.body_at e)
      (λ d. undo-comes p h.body e d s.name o o' (last-does p v s e l o h q z i) z m w.0 (v, ap (λ (n : Name). phase (mark_of n o')) w.0 ∙ w.1))
      (λ d. subst (Comes (undo_left_in s.body s.body_at) (due_in s.body s.body_at e)) (sym (unreached s.body s.body_at e o.marks d))
      (record { over = λ x. unreached-due h.body e d; runs = λ x. absurd (false≢true (sym x)) }))

  pub undo-pays : (v : Bool) (s : Scope) (l : List ℕ) (o : Order) → Seat p s → phase (mark_of s.name o) ≡ Phase.undoes v → Quiet o.marks s.body_at (size s.body)
      → s.body_at + size s.body ≤ length o.marks → list_of p s.name o ≡ l → PaysAs p s (dues_of (due_in s.body s.body_at) l) (undo l s o).order (undo l s o).result
  unfolding undo start_undo dues_of
  undo-pays v s [] o h q z m i = refl
  undo-pays v s (e ∷ l) o h q z m i =
      let o' = remembering (without_last (is_for s) (closings o)) o in
      let b = last_begins p v s e l o h q z m i in
      undo-then s l e o' _ _ _ (last-comes v s e l o h q z m i) (removed-list p s e l o h i)
      (λ c. undo-pays v s l (with_marks (begin_undo s.body s.body_at e o.marks).marks o') h
      (ap phase (mark-kept s.name s.body_at o _ h.before (omega arith) refl b.kept) ∙ q) (b.quiet c) (omega (arith, b.kept.many)) (removed-list p s e l o h i))
