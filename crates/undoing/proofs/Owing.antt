-- What an order still owes: what is to come of the undo part that runs, and the sure steps of those that are remembered. Assumes nothing.
use Prim.Native.Nat.{ℕ, zero, suc, ◌+◌, ◌≤◌, ◌<◌}
use native.Mathlib.Omega.{arith}
use mathlib.Core.Path.{◌≡◌, refl, sym, ap, subst, ◌∙◌}
use mathlib.Core.Bool.{Bool, true, false, cond, not, ◌&&◌, ◌||◌, or-false, false≢true}
use mathlib.Core.List.{List, [], ◌++◌}
use lib.Dec.{eqb, ltb}
use borrow.Author.Tests.{eqb-true, not-true}
use Rattle.plan.specs.Tree.{Own, empty, send, receive, set as setting, raise, leave, choose, repeat, sequence, flow, pick, scope, arm, kind, Act, act, Acts, none, more, Plan, size, sizes, is_scope, is_pick, numbers_of, general_part, undo_part}
use Rattle.order.specs.declared.Order.{Order}
use Rattle.order.specs.Lists.{some}
use Rattle.order.specs.State.{Name, active, inside, with_marks, closings, binding, mark_at, marked}
use Rattle.order.specs.Expression.{Value, fault, value, evaluate, is_true}
use Rattle.order.specs.Begin.{begin_after, begin_part, part, part_at, cleared, quiet}
use Rattle.order.specs.declared.Way.{Way as Result}
use Rattle.order.specs.declared.Way.TheVariants.{Running as running, Over as over, Raising as raising, Leaving as leaving, Undone as undone, UndoRaising as undo_raising}
use Rattle.order.specs.Scope.{Outcome, runs, after, begun_in, where_over}
use Rattle.order.specs.Acting.{finishes, or_raises, again, repeats, itself, goes_on, joins, combines, arms, is_part, its_own, step_in, step_among}
use Rattle.undoing.specs.Ties.{Place}
use Rattle.undoing.proofs.Parts.{both, decide, some-append}
use Rattle.undoing.proofs.Marks.{Quiet, Run, run-awaits, run-one, run-all, run-body, run-done, run-turned, All, all-run, all_quiet, Stopped, stopped-part, stopped-quiet, stopped-scope, StoppedIn, stopped_more, quiet-part}
use Rattle.undoing.proofs.Orders.{directs, directs_in, bare, bare_in, Sits, sits-part, sits-scope, SitsIn, sits-none, sits-more, Healers}
use Rattle.undoing.proofs.Beginning.{quiet_all}
use Rattle.undoing.proofs.Seats.{directs-is}
use Rattle.undoing.proofs.Stepping.{among-is}
use Rattle.undoing.proofs.Healing.{healers-none, undo-all, undo-turned}
use Rattle.undoing.proofs.Sure.{left_in, left-quiet}
use Rattle.undoing.proofs.Lessening.{own_is, one_each}
use Rattle.undoing.proofs.Sends.{by-send}

-- A step in a tree without scopes leaves what is remembered.

closings-where : (f : Order → Outcome) (r : Outcome) → ((o : Order) → closings (f o).order ≡ closings o) → closings (where_over f r).order ≡ closings r.order
closings-where f r g = go r.result
  where
    go : (x : Result) → closings (where_over f (record { result = x; order = r.order; log = r.log })).order ≡ closings r.order
    go running = refl
    go over = g r.order
    go (raising x) = refl
    go leaving = refl
    go undone = refl
    go (undo_raising x) = refl

closings-goes : (k m : ℕ) (f : Order → Outcome) (r : Outcome) → ((o : Order) → closings (f o).order ≡ closings o) → closings (goes_on k m f r).order ≡ closings r.order
unfolding goes_on
closings-goes k m f r g = closings-where (λ o. elim (eqb (mark_at k o) m) [ true ↦ f o | false ↦ runs o ]) r (λ o. go o (eqb (mark_at k o) m))
  where
    go : (o : Order) (b : Bool) → closings (after [] (elim b [ true ↦ f o | false ↦ runs o ])).order ≡ closings o
    go o true = g o
    go o false = refl

closings-joins : (k : ℕ) (within : Acts) (o : Order) → closings (joins k within o).order ≡ closings o
unfolding joins
closings-joins k within o = go (quiet (k + 1) (sizes within) o.marks)
  where
    go : (b : Bool) → closings (after [] (elim b [ true ↦ finishes k o | false ↦ runs o ])).order ≡ closings o
    go true = refl
    go false = refl

closings-raises : (k : ℕ) (o : Order) (f : ℕ → Outcome) (v : Value) → ((n : ℕ) → closings (f n).order ≡ closings o) → closings (or_raises k o f v).order ≡ closings o
closings-raises k o f (fault x) g = refl
closings-raises k o f (value n) g = g n

closings-repeats : (k : ℕ) (within : Acts) (o : Order) → closings (repeats k within o).order ≡ closings o
unfolding repeats
closings-repeats k within o =
    let o₁ = marked k inside (with_marks (cleared (k + 1) (sizes within) o.marks) o) in closings-where (again k) (begun_in o₁ (begin_part 0 within (k + 1) o₁.marks)) (λ o. refl)

closings-itself : (own : Own) (within : Acts) (y₀ k : ℕ) (o : Order) → is_scope own ≡ false → closings (itself own within y₀ k o).order ≡ closings o
unfolding itself kind
closings-itself empty within y₀ k o s = refl
closings-itself (send x y vs) within y₀ k o s = by-send (λ r. closings r.order ≡ closings o) x y vs within y₀ k o refl (λ n. refl)
closings-itself (receive x y vs) within y₀ k o s = refl
closings-itself (setting v x) within y₀ k o s = closings-raises k o (λ n. finishes k (binding v n o)) (evaluate x o) (λ n. refl)
closings-itself (raise zero) within y₀ k o s = refl
closings-itself (raise (suc number)) within y₀ k o s = refl
closings-itself leave within y₀ k o s = refl
closings-itself (choose x) within y₀ k o s =
    closings-raises k o _ (evaluate x o) (λ n. closings-where (finishes k) (begun_in (marked k inside o) (begin_part (cond (is_true n) 0 1) within (k + 1) (marked k inside o).marks)) (λ o. refl))
closings-itself (repeat x) within y₀ k o s = closings-raises k o (λ n. elim (is_true n) [ true ↦ repeats k within o | false ↦ finishes k o ]) (evaluate x o) (λ n. go (is_true n))
  where
    go : (b : Bool) → closings (after [] (elim b [ true ↦ repeats k within o | false ↦ finishes k o ])).order ≡ closings o
    go true = closings-repeats k within o
    go false = refl
closings-itself sequence within y₀ k o s = refl
closings-itself flow within y₀ k o s = refl
closings-itself pick within y₀ k o s = refl
closings-itself (scope xs u) within y₀ k o s = absurd (false≢true (sym s))
closings-itself (arm x y vs) within y₀ k o s = refl

pub closings-combines : (own : Own) (within : Acts) (k t : ℕ) (r : Outcome) → is_scope own ≡ false → closings (combines own within k t r).order ≡ closings r.order
unfolding combines kind
closings-combines empty within k t r s = refl
closings-combines (send x y vs) within k t r s = refl
closings-combines (receive x y vs) within k t r s = refl
closings-combines (setting v x) within k t r s = refl
closings-combines (raise zero) within k t r s = refl
closings-combines (raise (suc number)) within k t r s = refl
closings-combines leave within k t r s = refl
closings-combines (choose x) within k t r s = closings-goes k inside (finishes k) r (λ o. refl)
closings-combines (repeat x) within k t r s = closings-goes k inside (again k) r (λ o. refl)
closings-combines sequence within k t r s =
    closings-goes k active (λ o. where_over (finishes k) (begun_in o (begin_after within (k + 1) t o.marks))) r (λ o. closings-where (finishes k) (begun_in o (begin_after within (k + 1) t o.marks)) (λ o. refl))
closings-combines flow within k t r s = closings-goes k active (joins k within) r (λ o. closings-joins k within o)
closings-combines pick within k t r s = closings-goes k inside (finishes k) r (λ o. refl)
closings-combines (scope xs u) within k t r s = absurd (false≢true (sym s))
closings-combines (arm x y vs) within k t r s = refl

closings-arms : (own : Own) (within : Acts) (k t : ℕ) (o : Order) → closings (arms own within k t o) ≡ closings o
unfolding arms
closings-arms own within k t o = go (is_pick own && is_part within (k + 1) t)
  where
    go : (b : Bool) → closings (cond b (marked k inside o) o) ≡ closings o
    go true = refl
    go false = refl

closings-none : (y₀ c t : ℕ) (o : Order) → closings (step_among its_own none false y₀ c t o).order ≡ closings o
unfolding step_in
closings-none y₀ c t o = refl

mutual
  unfolding bare

  pub closings-step : (a : Act) (y₀ k t : ℕ) (o : Order) → bare a ≡ true → closings (step_in its_own a y₀ k t o).order ≡ closings o
  closings-step (act own within) y₀ k t o b =
      both (not (is_scope own)) (bare_in within) b (λ x y. let s = not-true (is_scope own) x in decide (eqb k t)
      (λ e. ap (λ (r : Outcome). closings r.order) (own_is own within y₀ k t o true s e) ∙ closings-itself own within y₀ k o s)
      (λ e. ap (λ (r : Outcome). closings r.order) (own_is own within y₀ k t o false s e)
      ∙ (closings-combines own within k t _ s ∙ (closings-among within y₀ (k + 1) t (arms own within k t o) y ∙ closings-arms own within k t o))))

  closings-among : (l : Acts) (y₀ c t : ℕ) (o : Order) → bare_in l ≡ true → closings (step_among its_own l false y₀ c t o).order ≡ closings o
  closings-among none y₀ c t o b = closings-none y₀ c t o
  closings-among (more a l) y₀ c t o b =
      both (bare a) (bare_in l) b (λ x y. decide (ltb t (c + size a))
      (λ e. ap (λ (r : Outcome). closings r.order) (among-is its_own a l y₀ c t o true e) ∙ closings-step a y₀ c t o x)
      (λ e. ap (λ (r : Outcome). closings r.order) (among-is its_own a l y₀ c t o false e) ∙ closings-among l y₀ (c + size a) t o y))

-- Whether scope e stands directly in an activity: with no other scope around it there.
unfoldable mutual
  pub directly : Act → (k e : ℕ) → Bool
  directly (act own within) k e = elim (is_scope own) [ true ↦ eqb k e | false ↦ directly_in within (k + 1) e ]

  pub directly_in : Acts → (c e : ℕ) → Bool
  directly_in none c e = false
  directly_in (more a l) c e = directly a c e || directly_in l (c + size a) e

pub directly-is : (own : Own) (within : Acts) (k e : ℕ) (b : Bool) → is_scope own ≡ b
    → directly (act own within) k e ≡ elim b [ true ↦ eqb k e | false ↦ directly_in within (k + 1) e ]
unfolding directly
directly-is own within k e b t = subst (λ (z : Bool). directly (act own within) k e ≡ elim z [ true ↦ eqb k e | false ↦ directly_in within (k + 1) e ]) t refl

mutual
  unfolding directly directs some size

  pub directly-directs : (a : Act) (k e : ℕ) (n : Name) (ns : List Name) → directly a k e ≡ some (λ x. eqb x.number e) (directs a k n ns)
  directly-directs (act own within) k e n ns =
      decide (is_scope own) (λ t. rw (directly-is own within k e true t, directs-is own within k n ns true t, or-false))
      (λ t. rw (directly-is own within k e false t, directs-is own within k n ns false t) (directly-directs-in within (k + 1) e n ns))

  pub directly-directs-in : (l : Acts) (c e : ℕ) (n : Name) (ns : List Name) → directly_in l c e ≡ some (λ x. eqb x.number e) (directs_in l c n ns)
  directly-directs-in none c e n ns = refl
  directly-directs-in (more a l) c e n ns =
      rw (some-append (λ x. eqb x.number e) (directs a c n ns) (directs_in l (c + size a) n ns), ← directly-directs a c e n ns, ← directly-directs-in l (c + size a) e n ns)

-- it has one of the numbers of the activity
mutual
  unfolding directly size

  pub directly-range : (a : Act) (k e : ℕ) → directly a k e ≡ true → (k ≤ e) × (e < k + size a)
  directly-range (act own within) k e d =
      decide (is_scope own)
      (λ t. let z : k ≡ e = eqb-true k e (sym (directly-is own within k e true t) ∙ d) in (omega arith, omega arith))
      (λ t. let r = directly-range-in within (k + 1) e (sym (directly-is own within k e false t) ∙ d) in (omega arith, omega arith))

  pub directly-range-in : (l : Acts) (c e : ℕ) → directly_in l c e ≡ true → (c ≤ e) × (e < c + sizes l)
  directly-range-in none c e d = absurd (false≢true d)
  directly-range-in (more a l) c e d =
      decide (directly a c e)
      (λ t. let r = directly-range a c e t in (omega arith, omega arith))
      (λ t. let r = directly-range-in l (c + size a) e (rw t at d) in (omega arith, omega arith))

-- What is to come of the undo parts that run, of the scopes directly in a tree.
unfoldable mutual
  pub undo_left_in : Act → (k : ℕ) → (marks : List ℕ) → List ℕ
  undo_left_in (act own within) k ms =
      cond (is_scope own) (left_in (part (undo_part (numbers_of own)) within) (part_at (undo_part (numbers_of own)) within (k + 1)) ms) (undo_left_among within (k + 1) ms)

  pub undo_left_among : Acts → (c : ℕ) → (marks : List ℕ) → List ℕ
  undo_left_among none c ms = []
  undo_left_among (more a l) c ms = undo_left_in a c ms ++ undo_left_among l (c + size a) ms

pub undo-left-is : (own : Own) (within : Acts) (k : ℕ) (ms : List ℕ) → is_scope own ≡ false → undo_left_in (act own within) k ms ≡ undo_left_among within (k + 1) ms
unfolding undo_left_in
undo-left-is own within k ms s = rw s

-- that of a scope
pub undo-left-scope : (xs : List ℕ) (v : Bool) (b : Act) (l : Acts) (k : ℕ) (ms : List ℕ)
    → undo_left_in (act (scope xs v) (more b l)) k ms ≡ left_in (part (general_part xs) l) (part_at (general_part xs) l (k + 1 + size b)) ms
unfolding undo_left_in part part_at
undo-left-scope xs v b l k ms = refl

-- of one with no undo part nothing is to come: what it has handed on is not looked for here
pub undo-left-none : {p : Plan} {s : Name} {xs : List ℕ} {q w : Place} {l : Acts} {c : ℕ} → Healers p s xs false q w l c → (b : Act) (k : ℕ) (ms : List ℕ)
    → undo_left_in (act (scope xs false) (more b l)) k ms ≡ []
unfolding left_in
undo-left-none {xs = xs} {l = l} h b k ms = undo-left-scope xs false b l k ms ∙ ap (λ (a : Act). left_in a (part_at (general_part xs) l (k + 1 + size b)) ms) (healers-none h)

-- of either, where the undo part is quiet
left-scope : {p : Plan} {s : Name} {xs : List ℕ} {v : Bool} {q w : Place} {l : Acts} (b : Act) (k : ℕ) → Healers p s xs v q w l (k + 1 + size b) → (ms : List ℕ)
    → (v ≡ true → Quiet ms (part_at (general_part xs) l (k + 1 + size b)) (size (part (general_part xs) l))) → undo_left_in (act (scope xs v) (more b l)) k ms ≡ []
left-scope {xs = xs} {v = true} {l = l} b k h ms q = undo-left-scope xs true b l k ms ∙ left-quiet (part (general_part xs) l) (part_at (general_part xs) l (k + 1 + size b)) ms (q refl)
left-scope {v = false} b k h ms q = undo-left-none h b k ms

-- nothing where all is quiet
mutual
  unfolding undo_left_in size

  pub undo-quiet : {p : Plan} {x : Place} {a : Act} {k : ℕ} → Sits p x a k → (ms : List ℕ) → Quiet ms k (size a) → undo_left_in a k ms ≡ []
  undo-quiet (sits-part {own = own} {within} {k} s g v y l) ms q = undo-left-is own within k ms s ∙ undo-quiet-in l ms (quiet-part q (omega arith) (omega arith))
  undo-quiet (sits-scope {b = b} {f} {u} {k} kn v i sb z) ms q = left-scope b k z ms (λ e. undo-all z e (quiet-part q (omega arith) (omega arith)))

  pub undo-quiet-in : {p : Plan} {x : Place} {l : Acts} {c : ℕ} → SitsIn p x l c → (ms : List ℕ) → Quiet ms c (sizes l) → undo_left_among l c ms ≡ []
  undo-quiet-in sits-none ms q = refl
  undo-quiet-in (sits-more {a = a} {l} {c} s y) ms q = rw (undo-quiet s ms (quiet-part q (omega arith) (omega arith)), undo-quiet-in y ms (quiet-part q (omega arith) (omega arith)))

-- an activity other than a scope is none
pub not-scope : true ≡ false → ⊥
not-scope s = false≢true (sym s)

-- what stands within an activity that runs runs or is quiet
run-within : {ms : List ℕ} {own : Own} {within : Acts} {k : ℕ} → is_scope own ≡ false → Run ms (act own within) k → All ms within (k + 1)
run-within {within = within} {k} s (run-awaits _ _ _ q) = quiet_all within (k + 1) q
run-within s (run-one _ _ q) = one_each q
run-within s (run-all _ q _) = q
run-within s (run-body _ _ _) = absurd (not-scope s)
run-within s (run-done _ _) = absurd (not-scope s)
run-within s (run-turned _) = absurd (not-scope s)

-- nor where a body runs, or was stopped: the undo parts directly in it are quiet
mutual
  unfolding undo_left_in size

  pub undo-run : {p : Plan} {x : Place} {a : Act} {k : ℕ} {ms : List ℕ} → Sits p x a k → Run ms a k → undo_left_in a k ms ≡ []
  undo-run {ms = ms} (sits-part {own = own} {within} {k} s g v y l) r = undo-left-is own within k ms s ∙ undo-within l (run-within s r)
  undo-run {ms = ms} (sits-scope {b = b} {f} {u} {k} kn v i sb z) (run-awaits s _ _ _) = absurd (not-scope s)
  undo-run {ms = ms} (sits-scope {b = b} {f} {u} {k} kn v i sb z) (run-one s _ _) = absurd (not-scope s)
  undo-run {ms = ms} (sits-scope {b = b} {f} {u} {k} kn v i sb z) (run-body e r q) = left-scope b k z ms (λ e. undo-all z e (quiet-part q (omega arith) (omega arith)))
  undo-run {ms = ms} (sits-scope {b = b} {f} {u} {k} kn v i sb z) (run-done e q) = left-scope b k z ms (λ e. undo-all z e (quiet-part q (omega arith) (omega arith)))
  undo-run {ms = ms} (sits-scope {b = b} {f} {u} {k} kn v i sb z) (run-turned t) = left-scope b k z ms (λ e. undo-turned z e t)

  undo-within : {p : Plan} {x : Place} {l : Acts} {c : ℕ} {ms : List ℕ} → SitsIn p x l c → All ms l c → undo_left_among l c ms ≡ []
  undo-within sits-none r = refl
  undo-within {ms = ms} (sits-more s y) (all-run r q) = rw (undo-run s r, undo-within y q)
  undo-within {ms = ms} (sits-more s y) (all_quiet r q) = rw (undo-quiet s ms r, undo-within y q)

mutual
  unfolding undo_left_in size

  pub undo-stopped : {p : Plan} {x : Place} {a : Act} {k : ℕ} {ms : List ℕ} → Sits p x a k → Stopped ms a k → undo_left_in a k ms ≡ []
  undo-stopped {ms = ms} (sits-part s g v y l) (stopped-quiet q) = undo-quiet (sits-part s g v y l) ms q
  undo-stopped {ms = ms} (sits-part {own = own} {within} {k} s g v y l) (stopped-part _ _ r) = undo-left-is own within k ms s ∙ undo-stopped-in l r
  undo-stopped {ms = ms} (sits-part {within = within} {k} s g v y l) (stopped-scope _) = absurd (not-scope s)
  undo-stopped {ms = ms} (sits-scope kn v i sb z) (stopped-quiet q) = undo-quiet (sits-scope kn v i sb z) ms q
  undo-stopped {ms = ms} (sits-scope {b = b} {f} {u} {k} kn v i sb z) (stopped-part s _ _) = absurd (not-scope s)
  undo-stopped {ms = ms} (sits-scope {b = b} {f} {u} {k} kn v i sb z) (stopped-scope t) = left-scope b k z ms (λ e. undo-turned z e t)

  pub undo-stopped-in : {p : Plan} {x : Place} {l : Acts} {c : ℕ} {ms : List ℕ} → SitsIn p x l c → StoppedIn ms l c → undo_left_among l c ms ≡ []
  undo-stopped-in sits-none r = refl
  undo-stopped-in (sits-more s y) (stopped_more r q) = rw (undo-stopped s r, undo-stopped-in y q)
