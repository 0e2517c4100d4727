-- What begins was idle before, or is told of otherwise: what begins with an activity, where a scope undoes and where a body stops. Assumes nothing.
use Prim.Native.Nat.{ℕ, zero, suc, ◌+◌, ◌≤◌, ◌<◌}
use native.Mathlib.Omega.{arith}
use mathlib.Core.Path.{◌≡◌, refl, sym, ap, subst, ◌∙◌}
use mathlib.Core.Bool.{Bool, true, false, cond, ◌||◌, false≢true, or-true}
use mathlib.Core.List.{List, [], ◌∷◌, ◌++◌}
use lib.ListN.{length, get_or, set, length-set}
use lib.Seq.{get_or-set_same, get_or-set_other}
use lib.Dec.{eqb, ltb}
use borrow.Author.Tests.{eqb-true, eqb-false, ltb-true, ltb-false}
use Rattle.plan.specs.Tree.{Own, kind, is_scope, has_undo, Act, act, Acts, none, more, Plan, size, sizes, count, scope, numbers_of, general_part, undo_part}
use Rattle.order.specs.declared.Order.{Order}
use Rattle.order.specs.Lists.{some}
use Rattle.order.specs.State.{Name, idle, undoing, handling, halted, withdrawing, faulty, active, done, mark_at, marked, mark_of, marking, state_of, choice_of, going}
use Rattle.order.specs.Event.{Event, stopped}
use Rattle.order.specs.Begin.{Begun, nothing_begun, begin, part, part_at, begin_part}
use Rattle.order.specs.declared.Way.{Way as Result}
use Rattle.order.specs.declared.Way.TheVariants.{Running as running, Over as over, Raising as raising, Leaving as leaving, Undone as undone, UndoRaising as undo_raising}
use Rattle.order.specs.Scope.{Outcome, runs, begun_in, where_over, Scope, scope_at, chosen_part, chosen_at, is_open, inner_runs, begin_undo, begin_undo_first, begin_undo_in, start_undo, undo, ends, handle, undoes, turns, remembered_for, withdraws, stop, stop_all, breaks, looks_again, body_over, undo_over, undo_raised, part_over, part_raised, from_fault}
use Rattle.order.specs.Scope as definitions
use Rattle.undoing.specs.Ties.{Place, name_of, place_of, is_turned}
use Rattle.undoing.specs.Orderly.{is_began_of}
use Rattle.undoing.specs.Begun.{has_began}
use Rattle.undoing.specs.Entirely.{is_undo, times}
use Rattle.undoing.proofs.Parts.{decide}
use Rattle.undoing.proofs.Accounts.{waits, phase, Known}
use Rattle.undoing.proofs.Places.{first-of, second-of}
use Rattle.undoing.proofs.Marks.{trio, Agree, Quiet, Run, run-awaits, run-one, run-all, run-body, run-done, run-turned, One, one-here, one_later, All, all_none, all-run, all_quiet, Turned, turned-waits, turned-undoes, turned-heals, Stopped, stopped-part, stopped-quiet, stopped-scope, StoppedIn, stopped_none, stopped_more, Stoppable, StoppableIn, able-more, quiet-part, agree-above, stoppable-agree, stoppable-in-agree, parts-stoppable, Found, found-quiet, found-open, found-turned, scope-found, turned-not-open, kept_set}
use Rattle.undoing.proofs.Orders.{before_of, inner_at, Sits, sits-part, sits-scope, SitsIn, sits-none, sits-more, Remedy, remedy}
use Rattle.undoing.proofs.Choices.{chosen-each}
use Rattle.undoing.proofs.Remedies.{part-from, part-to, undoer}
use Rattle.undoing.proofs.Healing.{undo-there, undo-all, undo-turned}
use Rattle.undoing.proofs.Lasting.{part-knows, KnowsEach, each-knows}
use Rattle.undoing.proofs.Seats.{mark-kept}
use Rattle.undoing.proofs.Stopping.{stop_is, stops}
use Rattle.undoing.proofs.Truly.{began-in, Arms, Knows, knows, KnowsIn, knows-none, knows_more}
use Rattle.undoing.proofs.Entire.{Named, begin-starts}
use Rattle.undoing.proofs.Entering.{scope-undo, scope-general}
use Rattle.undoing.proofs.Upright.{waits-is, undoes-is, heals-is}

-- what began did so at least once
pub began-times : (j : ℕ) (l : List Event) → has_began j l ≡ true → 1 ≤ times j l
unfolding times some
began-times j [] e = absurd (false≢true e)
began-times j (x ∷ l) e = decide (is_began_of (eqb j) x) (λ d. rw d (omega arith)) (λ d. rw d (let z = began-times j l (rw d at e) in omega arith))

module _ (p : Plan) (f : ℕ → ℕ) (A : ℕ → Type 0) (ms : List ℕ) where
  -- it may begin: it is idle, or A says so
  pub data New (j : ℕ) : Type 0 where
    new-idle : get_or ms j 0 ≡ idle → New j
    new-again : A j → New j

  -- n of them from k on
  pub record News (k n : ℕ) : Type 0 where
    pub at : (j : ℕ) → k ≤ j → j < k + n → New j

  pub quiet-news : {k n : ℕ} → Quiet ms k n → News k n
  quiet-news q = record { at = λ j x y. new-idle (q.at j x y) }

  pub news-part : {k n j m : ℕ} → News k n → k ≤ j → j + m ≤ k + n → News j m
  news-part w h e = record { at = λ i x y. w.at i (omega arith) (omega arith) }

  -- all that begins with these events may
  pub record Fresh (l : List Event) : Type 0 where
    pub at : (j : ℕ) → has_began j l ≡ true → New j

  pub fresh-none : (l : List Event) → ((j : ℕ) → has_began j l ≡ false) → Fresh l
  fresh-none l z = record { at = λ j h. absurd (false≢true (sym (z j) ∙ h)) }

  pub fresh-append : (l m : List Event) → Fresh l → Fresh m → Fresh (l ++ m)
  fresh-append l m w v = record { at = λ j h. began-in j l m h (λ x. w.at j x) (λ x. v.at j x) }

  pub fresh-event : (e : Event) (l : List Event) → ((j : ℕ) → is_began_of (eqb j) e ≡ false) → Fresh l → Fresh (e ∷ l)
  unfolding some
  fresh-event e l n w = fresh-append (e ∷ []) l (fresh-none (e ∷ []) (λ j. rw (n j))) w

  -- what begins in a stretch that may
  pub fresh-range : (l : List Event) (k n : ℕ) → ((j : ℕ) → j < k → times j l ≡ 0) → ((j : ℕ) → k + n ≤ j → times j l ≡ 0) → News k n → Fresh l
  fresh-range l k n a b w =
      record {
        at = λ j h. let z = began-times j l h in
            decide (ltb j k)
            (λ d. absurd (let y = a j (ltb-true j k d) in omega arith))
            (λ d. decide (ltb j (k + n)) (λ e. w.at j (ltb-false j k d) (ltb-true j (k + n) e)) (λ e. absurd (let y = b j (ltb-false j (k + n) e) in omega arith)));
      }

  pub begin-fresh : {a : Act} {k : ℕ} → Knows f a k → Named f a → News k (size a) → (ns : List ℕ) → Fresh (begin a k ns).log
  begin-fresh {a} {k} x i w ns = let s = begin-starts f x i ns in fresh-range (begin a k ns).log k (size a) s.below s.above w

  -- Calm: the undo parts of the scopes directly in it, and through those that have none, may begin, and so in each of these that is open.
  mutual
    pub data Calm : Act → ℕ → Type 0 where
      calm-part : {own : Own} {within : Acts} {k : ℕ} → is_scope own ≡ false → CalmIn within (k + 1) → Calm (act own within) k
      calm-undo : {xs : List ℕ} {b : Act} {l : Acts} {k : ℕ} → News (part_at (general_part xs) l (k + 1 + size b)) (size (part (general_part xs) l)) → (is_open (get_or ms k 0) ≡ true → Calm b (k + 1))
          → Calm (act (scope xs true) (more b l)) k
      calm-through : {xs : List ℕ} {b : Act} {l : Acts} {k : ℕ} → Calm b (k + 1) → Calm (act (scope xs false) (more b l)) k

    pub data CalmIn : Acts → ℕ → Type 0 where
      calm-none : {c : ℕ} → CalmIn none c
      calm_more : {a : Act} {l : Acts} {c : ℕ} → Calm a c → CalmIn l (c + size a) → CalmIn (more a l) c

  -- where all is quiet
  mutual
    unfolding size

    pub quiet_calm : {x : Place} {a : Act} {k : ℕ} → Sits p x a k → Quiet ms k (size a) → Calm a k
    quiet_calm (sits-part s g u y l) q = calm-part s (quiet-calm-in l (quiet-part q (omega arith) (omega arith)))
    quiet_calm (sits-scope {v = true} kn d i sb y) q =
        calm-undo (quiet-news (undo-all y refl (quiet-part q (omega arith) (omega arith)))) (λ e. quiet_calm sb (quiet-part q (omega arith) (omega arith)))
    quiet_calm (sits-scope {v = false} kn d i sb y) q = calm-through (quiet_calm sb (quiet-part q (omega arith) (omega arith)))

    pub quiet-calm-in : {x : Place} {l : Acts} {c : ℕ} → SitsIn p x l c → Quiet ms c (sizes l) → CalmIn l c
    quiet-calm-in sits-none q = calm-none
    quiet-calm-in (sits-more s y) q = calm_more (quiet_calm s (quiet-part q (omega arith) (omega arith))) (quiet-calm-in y (quiet-part q (omega arith) (omega arith)))

  -- All that stands in an undo part has a place so.
  node-undo : (k j : ℕ) → is_undo (place_of p k) ≡ true → (k + 1 ≤ j → is_undo (place_of p j) ≡ true) → k ≤ j → is_undo (place_of p j) ≡ true
  node-undo k j e g h = decide (eqb j k) (λ d. subst (λ (i : ℕ). is_undo (place_of p i) ≡ true) (sym (eqb-true j k d)) e) (λ d. let z = eqb-false j k d in g (omega arith))

  mutual
    unfolding size

    in-undo : {x : Place} {a : Act} {k : ℕ} → Sits p x a k → is_undo x ≡ true → (j : ℕ) → k ≤ j → j < k + size a → is_undo (place_of p j) ≡ true
    in-undo (sits-part {k = k} s g u y l) i j h e = node-undo k j (ap is_undo u.place ∙ i) (λ n. in-undo-in l i j n (omega arith)) h
    in-undo (sits-scope kn d z sb y) i j h e = absurd (false≢true i)

    in-undo-in : {x : Place} {l : Acts} {c : ℕ} → SitsIn p x l c → is_undo x ≡ true → (j : ℕ) → c ≤ j → j < c + sizes l → is_undo (place_of p j) ≡ true
    in-undo-in sits-none i j h e = absurd (omega arith)
    in-undo-in (sits-more {a = a} {c = c} s y) i j h e =
        decide (ltb j (c + size a)) (λ d. in-undo s i j h (ltb-true j (c + size a) d)) (λ d. in-undo-in y i j (ltb-false j (c + size a) d) (omega arith))

  remedy-undo : {x : Place} {a : Act} {k : ℕ} → Remedy p x a k → is_undo x ≡ true → (j : ℕ) → k ≤ j → j < k + size a → is_undo (place_of p j) ≡ true
  unfolding size
  remedy-undo (remedy {k = k} s a g u z l d) i j h e = node-undo k j (ap is_undo u.place ∙ i) (λ n. in-undo-in l i j n (omega arith)) h

  -- n from k on may begin where they stand in an undo part
  pub record Excuse (k n : ℕ) : Type 0 where
    pub at : (j : ℕ) → k ≤ j → j < k + n → is_undo (place_of p j) ≡ true → A j

  excuse-part : {k n j m : ℕ} → Excuse k n → k ≤ j → j + m ≤ k + n → Excuse j m
  excuse-part w h e = record { at = λ i x y z. w.at i (omega arith) (omega arith) z }

  mutual
    unfolding size

    excuse-calm : {x : Place} {a : Act} {k : ℕ} → Sits p x a k → Excuse k (size a) → Calm a k
    excuse-calm (sits-part s g u y l) q = calm-part s (excuse-calm-in l (excuse-part q (omega arith) (omega arith)))
    excuse-calm (sits-scope {xs} {v = true} {b = b} {f} {u} {k} kn d i sb y) q =
        let lo = part-from (general_part xs) (more f u) (k + 1 + size b) in
        let hi = part-to (general_part xs) (more f u) (k + 1 + size b) (undo-there y refl) in
        calm-undo {xs = xs} {b = b} {l = more f u} {k = k} (record { at = λ j x z. new-again (q.at j (omega arith) (omega arith) (remedy-undo (undoer y) refl j x z)) })
        (λ e. excuse-calm sb (excuse-part q (omega arith) (omega arith)))
    excuse-calm (sits-scope {v = false} kn d i sb y) q = calm-through (excuse-calm sb (excuse-part q (omega arith) (omega arith)))

    excuse-calm-in : {x : Place} {l : Acts} {c : ℕ} → SitsIn p x l c → Excuse c (sizes l) → CalmIn l c
    excuse-calm-in sits-none q = calm-none
    excuse-calm-in (sits-more s y) q = calm_more (excuse-calm s (excuse-part q (omega arith) (omega arith))) (excuse-calm-in y (excuse-part q (omega arith) (omega arith)))

  -- it has turned
  turned-is : {xs : List ℕ} {m kb kf : ℕ} {b : Act} {l : Acts} → Turned ms xs m b kb l kf → is_turned m ≡ true
  turned-is (turned-waits {w} {m} e s i q) = rw (waits-is m w e)
  turned-is (turned-undoes {w} {m} e s q) = rw (undoes-is m w e, or-true)
  turned-is (turned-heals {m} e s q) = rw (heals-is m e, or-true, or-true)

  -- What stands in an undo part in the body of a scope that has none, and has turned, may begin: a scope further out may have it from an earlier time.
  pub record Excused : Type 0 where
    pub at : (xs : List ℕ) (k : ℕ) (n : Name) (ns : List Name) (b g : Act) (u : Acts) → Known p (inner_at xs false k n ns (trio b g u)) → is_turned (get_or ms k 0) ≡ true → Excuse (k + 1) (size b)

  module _ (ex : Excused) where
    -- where it runs
    mutual
      unfolding size kind

      pub run-calm : {x : Place} {a : Act} {k : ℕ} → Sits p x a k → Run ms a k → Calm a k
      run-calm (sits-part s g u y l) (run-awaits s₁ d e q) = calm-part s (quiet-calm-in l q)
      run-calm (sits-part s g u y l) (run-one s₁ e r) = calm-part s (one-calm l r)
      run-calm (sits-part s g u y l) (run-all e r z) = calm-part s (all-calm l r)
      run-calm (sits-part s g u y l) (run-body e r q) = absurd (false≢true (sym s))
      run-calm (sits-part s g u y l) (run-done e q) = absurd (false≢true (sym s))
      run-calm (sits-part s g u y l) (run-turned e) = absurd (false≢true (sym s))
      run-calm (sits-scope kn d i sb y) (run-awaits s x e q) = absurd (false≢true (sym s))
      run-calm (sits-scope kn d i sb y) (run-one s e r) = absurd (false≢true (sym s))
      run-calm (sits-scope {v = true} kn d i sb y) (run-body e r q) =
          calm-undo (quiet-news (undo-all y refl q)) (λ v. run-calm sb r)
      run-calm (sits-scope {v = true} kn d i sb y) (run-done e q) =
          calm-undo (quiet-news (undo-all y refl (quiet-part q (omega arith) (omega arith)))) (λ v. quiet_calm sb (quiet-part q (omega arith) (omega arith)))
      run-calm (sits-scope {v = true} kn d i sb y) (run-turned e) =
          calm-undo (quiet-news (undo-turned y refl e)) (λ v. absurd (false≢true (sym (turned-not-open e) ∙ v)))
      run-calm (sits-scope {v = false} kn d i sb y) (run-body e r q) = calm-through (run-calm sb r)
      run-calm (sits-scope {v = false} kn d i sb y) (run-done e q) = calm-through (quiet_calm sb (quiet-part q (omega arith) (omega arith)))
      run-calm (sits-scope {xs} {v = false} {n} {c} {ns} {b} {f = g} {u} {k} kn d i sb y) (run-turned e) = calm-through (excuse-calm sb (ex.at xs k n ns b g u kn (turned-is e)))

      one-calm : {x : Place} {l : Acts} {c : ℕ} → SitsIn p x l c → One ms l c → CalmIn l c
      one-calm (sits-none {q = q} {c = c}) z = elim z [ ]
      one-calm (sits-more s y) (one-here r q) = calm_more (run-calm s r) (quiet-calm-in y q)
      one-calm (sits-more s y) (one_later q r) = calm_more (quiet_calm s q) (one-calm y r)

      all-calm : {x : Place} {l : Acts} {c : ℕ} → SitsIn p x l c → All ms l c → CalmIn l c
      all-calm sits-none all_none = calm-none
      all-calm (sits-more s y) (all-run r q) = calm_more (run-calm s r) (all-calm y q)
      all-calm (sits-more s y) (all_quiet q r) = calm_more (quiet_calm s q) (all-calm y r)

    -- where it is stopped
    mutual
      unfolding size kind

      pub stopped-calm : {x : Place} {a : Act} {k : ℕ} → Sits p x a k → Stopped ms a k → Calm a k
      stopped-calm (sits-part s g u y l) (stopped-part s₁ e r) = calm-part s (stopped-calm-in l r)
      stopped-calm (sits-part s g u y l) (stopped-scope e) = absurd (false≢true (sym s))
      stopped-calm (sits-part s g u y l) (stopped-quiet q) = quiet_calm (sits-part s g u y l) q
      stopped-calm (sits-scope kn d i sb y) (stopped-quiet q) = quiet_calm (sits-scope kn d i sb y) q
      stopped-calm (sits-scope kn d i sb y) (stopped-part s e r) = absurd (false≢true (sym s))
      stopped-calm (sits-scope {v = true} kn d i sb y) (stopped-scope e) =
          calm-undo (quiet-news (undo-turned y refl e)) (λ v. absurd (false≢true (sym (turned-not-open e) ∙ v)))
      stopped-calm (sits-scope {xs} {v = false} {n} {c} {ns} {b} {f = g} {u} {k} kn d i sb y) (stopped-scope e) = calm-through (excuse-calm sb (ex.at xs k n ns b g u kn (turned-is e)))

      stopped-calm-in : {x : Place} {l : Acts} {c : ℕ} → SitsIn p x l c → StoppedIn ms l c → CalmIn l c
      stopped-calm-in sits-none stopped_none = calm-none
      stopped-calm-in (sits-more s y) (stopped_more r q) = calm_more (stopped-calm s r) (stopped-calm-in y q)

  -- none of a list without arms is an arm
  pub part-named : (l : Acts) → Arms false l → (i : ℕ) → i < count l → Named f (part i l)
  unfolding part count
  part-named none r i h = absurd (omega arith)
  part-named (more (act own within) l) r zero h = r.0
  part-named (more (act own within) l) r (suc i) h = part-named l r.1 i (omega arith)

  -- the undo part of a scope in it
  cond-fresh : (v : Bool) (x y : Begun) → Fresh x.log → Fresh y.log → Fresh (cond v x y).log
  cond-fresh true x y g h = g
  cond-fresh false x y g h = h

  none-begun : (ns : List ℕ) → Fresh (nothing_begun ns).log
  unfolding some
  none-begun ns = fresh-none [] (λ j. refl)

  mutual
    unfolding begin_undo begin_part part part_at kind count

    undo-fresh : {a : Act} {k : ℕ} → Calm a k → Knows f a k → (e : ℕ) (ns : List ℕ) → Fresh (begin_undo a k e ns).log
    undo-fresh (calm-part {own} {within} {k} s c) (knows x n r y) e ns =
        subst (λ (b : Begun). Fresh b.log)
        (sym (second-of (is_scope own) (cond (has_undo own) (cond (eqb k e) (begin_part (undo_part (numbers_of own)) within (k + 1) ns) (nothing_begun ns)) (begin_undo_first within (k + 1) e ns)) (begin_undo_in within (k + 1) e ns) (begin_undo (act own within) k e ns) refl s))
        (undo-in-fresh c y e ns)
    undo-fresh (calm-undo {xs} {b} {l} {k} w c) (knows x n r (knows_more kb kl)) e ns =
        let h = scope-undo (scope xs true) (more b l) refl refl n in
        cond-fresh (eqb k e) (begin_part (undo_part xs) (more b l) (k + 1) ns) (nothing_begun ns)
        (begin-fresh (part-knows f kl (general_part xs) (omega arith)) (part-named (more b l) r (undo_part xs) h) w ns) (none-begun ns)
    undo-fresh (calm-through c) (knows x n r (knows_more kb y)) e ns = undo-fresh c kb e ns

    undo-in-fresh : {l : Acts} {c : ℕ} → CalmIn l c → KnowsIn f l c → (e : ℕ) (ns : List ℕ) → Fresh (begin_undo_in l c e ns).log
    undo-in-fresh calm-none y e ns = none-begun ns
    undo-in-fresh (calm_more {a} {l} {c} w v) (knows_more x y) e ns =
        decide (ltb e (c + size a))
        (λ b. subst (λ (z : Begun). Fresh z.log) (sym (first-of (ltb e (c + size a)) (begin_undo a c e ns) (begin_undo_in l (c + size a) e ns) (begin_undo_in (more a l) c e ns) refl b)) (undo-fresh w x e ns))
        (λ b. subst (λ (z : Begun). Fresh z.log) (sym (second-of (ltb e (c + size a)) (begin_undo a c e ns) (begin_undo_in l (c + size a) e ns) (begin_undo_in (more a l) c e ns) refl b)) (undo-in-fresh v y e ns))

  pub fresh-where : (g : Order → Outcome) (o : Outcome) → Fresh o.log → ((q : Order) → Fresh (g q).log) → Fresh (where_over g o).log
  fresh-where g o w h = go o.result
    where
      go : (x : Result) → Fresh (where_over g (record { result = x; order = o.order; log = o.log })).log
      go running = w
      go over = fresh-append o.log (g o.order).log w (h o.order)
      go (raising x) = w
      go leaving = w
      go undone = w
      go (undo_raising x) = w

  pub fresh-either : (v : Bool) (x y z : Outcome) → z ≡ elim v [ true ↦ x | false ↦ y ] → (v ≡ true → Fresh x.log) → (v ≡ false → Fresh y.log) → Fresh z.log
  fresh-either true x y z e g h = subst (λ (q : Outcome). Fresh q.log) (sym e) (g refl)
  fresh-either false x y z e g h = subst (λ (q : Outcome). Fresh q.log) (sym e) (h refl)

  pub fresh-runs : (o : Order) → Fresh (runs o).log
  unfolding some
  fresh-runs o = fresh-none [] (λ j. refl)

  -- each fault part that a scope may choose is no arm, and may begin
  abbrev pub NamedEach : Scope → Type 0
  NamedEach s = (choice : ℕ) → Named f (chosen_part choice s)

  abbrev pub NewsEach : Scope → Type 0
  NewsEach s = (choice : ℕ) → News (chosen_at choice s) (size (chosen_part choice s))

  pub each-named : (xs : List ℕ) (k : ℕ) (within : Acts) → Arms false within → general_part xs < count within → NamedEach (scope_at xs k within)
  each-named xs k within r n = chosen-each (λ a j. Named f a) xs k within (λ i x z. part-named within r i (omega arith))

  -- A scope whose body is calm and whose fault parts may begin.
  module _ (s : Scope) (kb : Knows f s.body s.body_at) (kf : KnowsEach f s) (i : NamedEach s) (c : Calm s.body s.body_at) where
    abbrev May : (w : Bool) → Type 0
    May w = w ≡ true → NewsEach s

    ends_fresh : (o : Order) → Fresh (ends s o).log
    unfolding some is_began_of
    ends_fresh o = fresh-none (ends s o).log (λ j. refl)

    list-fresh : (l : List ℕ) (o : Order) → Fresh (undo l s o).log
    unfolding undo start_undo some
    list-fresh [] o = fresh-none [] (λ j. refl)
    list-fresh (x ∷ l) o = fresh-where (undo l s) (start_undo x s o) (undo-fresh c kb x o.marks) (λ q. list-fresh l q)

    handle-fresh : (o : Order) → NewsEach s → Fresh (handle s o).log
    unfolding handle
    handle-fresh o w =
        let o₁ = going s.name handling o in
        let c = choice_of s.name o in
        fresh-where (ends s) (begun_in o₁ (begin (chosen_part c s) (chosen_at c s) o₁.marks)) (begin-fresh (kf c) (i c) (w c) o₁.marks) (λ q. ends_fresh q)

    undoes-fresh : (w : Bool) → May w → (o : Order) → Fresh (undoes w s o).log
    unfolding undoes
    undoes-fresh true w o = let o₁ = going s.name undoing o in fresh-where (handle s) (undo (remembered_for s o₁) s o₁) (list-fresh (remembered_for s o₁) o₁) (λ q. handle-fresh q (w refl))
    undoes-fresh false w o = let o₁ = marking s.name withdrawing o in fresh-where (ends s) (undo (remembered_for s o₁) s o₁) (list-fresh (remembered_for s o₁) o₁) (λ q. ends_fresh q)

    pub undone-fresh : NewsEach s → (o : Order) → Fresh (undo_over s o).log
    unfolding undo_over
    undone-fresh h o =
        fresh-either (eqb (state_of s.name o) undoing) (undoes true s o) (elim (eqb (mark_of s.name o) withdrawing) [ true ↦ undoes false s o | false ↦ runs o ]) (undo_over s o) refl (λ v. undoes-fresh true (λ e. h) o)
        (λ v. fresh-either (eqb (mark_of s.name o) withdrawing) (undoes false s o) (runs o) _ refl (λ v. undoes-fresh false (λ e. h) o) (λ v. fresh-runs o))

  -- One that turns when none of its inner scopes is left running, and whose body is calm then.
  module _ (s : Scope) (kb : Knows f s.body s.body_at) (kf : KnowsEach f s) (i : NamedEach s) where
    abbrev Then : Order → Type 0
    Then o = inner_runs s.body s.body_at o.marks ≡ false → Calm s.body s.body_at

    pub turns-fresh : (w : Bool) → (w ≡ true → NewsEach s) → (o : Order) → Then o → Fresh (turns w s o).log
    unfolding turns
    turns-fresh w h o c = fresh-either (inner_runs s.body s.body_at o.marks) (runs o) (undoes w s o) (turns w s o) refl (λ v. fresh-runs o) (λ v. undoes-fresh s kb kf i (c v) w h o)

    module _ (h : NewsEach s) where
      pub looks-fresh : (o : Order) → Then o → Fresh (looks_again s o).log
      unfolding looks_again
      looks-fresh o c =
          fresh-either (eqb (state_of s.name o) faulty) (turns true s o) (elim (eqb (mark_of s.name o) halted) [ true ↦ turns false s o | false ↦ runs o ]) (looks_again s o) refl (λ v. turns-fresh true (λ e. h) o c)
          (λ v. fresh-either (eqb (mark_of s.name o) halted) (turns false s o) (runs o) _ refl (λ v. turns-fresh false (λ e. h) o c) (λ v. fresh-runs o))

      pub over-fresh : (o : Order) → Then o → Fresh (body_over s o).log
      unfolding body_over
      over-fresh o c = fresh-either (eqb (mark_of s.name o) active) (runs (marking s.name done o)) (looks_again s o) (body_over s o) refl (λ v. fresh-runs (marking s.name done o)) (λ v. looks-fresh o c)

  breaks-fresh : (s : Scope) (number : ℕ) (o : Order) → Fresh (breaks number s o).log
  unfolding breaks some is_began_of
  breaks-fresh s number o = fresh-none (breaks number s o).log (λ j. refl)

  pub undo-raised-fresh : (s : Scope) (number : ℕ) (o : Order) → Fresh (undo_raised number s o).log
  unfolding undo_raised
  undo-raised-fresh s number o = fresh-either (eqb (state_of s.name o) undoing || eqb (mark_of s.name o) withdrawing) (breaks number s o) (runs o) (undo_raised number s o) refl (λ v. breaks-fresh s number o) (λ v. fresh-runs o)

  -- what a scope makes of a step in its fault part
  pub fault-fresh : (s : Scope) (r : Outcome) → Fresh r.log → Fresh (from_fault s r).log
  unfolding from_fault part_over part_raised some is_began_of
  fault-fresh s r w = go r.result
    where
      go : (x : Result) → Fresh (from_fault s (record { result = x; order = r.order; log = r.log })).log
      go running = w
      go over = fresh-append r.log (part_over s r.order).log w (fresh-either (eqb (state_of s.name r.order) handling) (ends s r.order) (runs r.order) _ refl (λ v. fresh-none (ends s r.order).log (λ j. refl)) (λ v. fresh-runs r.order))
      go (raising x) = fresh-append r.log (part_raised x s r.order).log w (fresh-either (eqb (state_of s.name r.order) handling) (breaks x s r.order) (runs r.order) _ refl (λ v. breaks-fresh s x r.order) (λ v. fresh-runs r.order))
      go leaving = w
      go undone = w
      go (undo_raising x) = w

  -- Stopping: the scopes that are open were so before the step.
  pub record Opened (k n : ℕ) (ns : List ℕ) : Type 0 where
    pub at : (j : ℕ) → k ≤ j → j < k + n → is_open (get_or ns j 0) ≡ true → is_open (get_or ms j 0) ≡ true

  opened-part : {k n c m : ℕ} {ns : List ℕ} → Opened k n ns → k ≤ c → c + m ≤ k + n → Opened c m ns
  opened-part w h e = record { at = λ j x y. w.at j (omega arith) (omega arith) }

  opened-agree : {k n : ℕ} {ns os : List ℕ} → Opened k n ns → Agree k n ns os → Opened k n os
  opened-agree w g = record { at = λ j x y e. w.at j x y (subst (λ (m : ℕ). is_open m ≡ true) (g.at j x y) e) }

  agree-set : {k n : ℕ} (j v : ℕ) (ns : List ℕ) → j < k → Agree k n ns (set ns j v)
  agree-set j v ns h = record { at = λ i x y. get_or-set_other ns j i v 0 (omega arith) }

  withdraws-fresh : (xs : List ℕ) (b g : Act) (u : Acts) (k : ℕ) (r : definitions.Stopped) → Knows f b (k + 1) → KnowsEach f (scope_at xs k (trio b g u)) → NamedEach (scope_at xs k (trio b g u)) → Calm b (k + 1) → Fresh r.log
      → Fresh (withdraws k (scope_at xs k (trio b g u)) r).log
  unfolding withdraws part part_at is_began_of
  withdraws-fresh xs b g u k r kb kf i c w =
      fresh-event (stopped k) _ (λ j. refl)
      (fresh-append r.log (turns false (scope_at xs k (trio b g u)) r.order).log w (turns-fresh (scope_at xs k (trio b g u)) kb kf i false (λ e. absurd (false≢true e)) r.order (λ v. c)))

  -- a scope is stopped, as it is found
  scope-fresh : (xs : List ℕ) (x : Bool) (b g : Act) (u : Acts) (k : ℕ) (o : Order) → Knows f b (k + 1) → KnowsEach f (scope_at xs k (trio b g u)) → NamedEach (scope_at xs k (trio b g u)) → (is_open (get_or ms k 0) ≡ true → Calm b (k + 1))
      → Opened k (size (act (scope xs x) (trio b g u))) o.marks → Found o.marks xs b g u k → (Calm b (k + 1) → Stoppable o.marks b (k + 1) → Fresh (stop b (k + 1) (marked k halted o)).log)
      → Fresh (stop (act (scope xs x) (trio b g u)) k o).log
  unfolding stop size kind some
  scope-fresh xs x b g u k o kb kf i c h (found-quiet z) go =
      subst (λ (y : definitions.Stopped). Fresh y.log) (sym (stop_is (scope xs x) (trio b g u) k o true false refl (rw (z.at k (omega arith) (omega arith))))) (fresh-none [] (λ j. refl))
  scope-fresh xs x b g u k o kb kf i c h (found-open y a z) go =
      subst (λ (y : definitions.Stopped). Fresh y.log) (sym (stop_is (scope xs x) (trio b g u) k o true true refl y))
      (let c₂ = c (h.at k (omega arith) (omega arith) y) in withdraws-fresh xs b g u k (stop b (k + 1) (marked k halted o)) kb kf i c₂ (go c₂ a))
  scope-fresh xs x b g u k o kb kf i c h (found-turned y a) go = subst (λ (y : definitions.Stopped). Fresh y.log) (sym (stop_is (scope xs x) (trio b g u) k o true false refl y)) (fresh-none [] (λ j. refl))

  mutual
    unfolding stop size kind some

    pub stop-fresh : {x : Place} {v : Bool} {a : Act} {k : ℕ} → Sits p x a k → Knows f a k → Calm a k → (o : Order) → phase (mark_of (name_of x) o) ≡ waits v → Stoppable o.marks a k
        → k + size a ≤ length o.marks → Opened k (size a) o.marks → Fresh (stop a k o).log
    stop-fresh (sits-part {q = x} {own} {within} {k} s g v y l) (knows e n r z) (calm-part s₁ c) o w t m h =
        let o₁ = marked k idle o in
        subst (λ (q : definitions.Stopped). Fresh q.log) (sym (stop_is own within k o false (is_open (mark_at k o)) s refl))
        (stop-all-fresh l z c o₁
        (ap phase (mark-kept (name_of x) k o o₁ v.before.0 (omega arith) refl (kept_set k 1 k idle o.marks (omega arith) (omega arith))) ∙ w)
        (stoppable-in-agree (parts-stoppable s t) (agree-set k idle o.marks (omega arith)))
        (omega (arith, length-set o.marks k idle)) (opened-agree (opened-part h (omega arith) (omega arith)) (agree-set k idle o.marks (omega arith))))
    stop-fresh (sits-part s g v y l) (knows e n r z) (calm-undo q c) o w t m h = absurd (false≢true (sym s))
    stop-fresh (sits-part s g v y l) (knows e n r z) (calm-through c) o w t m h = absurd (false≢true (sym s))
    stop-fresh (sits-scope kn v i sb e) (knows d n r z) (calm-part s c) o w t m h = absurd (false≢true (sym s))
    stop-fresh (sits-scope {xs} {v = true} {b = b} {f = g} {u = u} {k = k} kn v i sb e) (knows d n₁ r (knows_more kb kl)) (calm-undo q c₁) o w t m h =
        scope-fresh xs true b g u k o kb (each-knows f xs k (scope-general (scope xs true) (trio b g u) refl n₁) (knows_more kb kl)) (each-named xs k (trio b g u) r (scope-general (scope xs true) (trio b g u) refl n₁)) c₁ h (scope-found t)
        (λ c₂ a. stop-fresh sb kb c₂ (marked k halted o) (ap phase (get_or-set_same o.marks k halted 0 (omega arith))) (stoppable-agree a (agree-set k halted o.marks (omega arith)))
        (omega (arith, length-set o.marks k halted)) (opened-agree (opened-part h (omega arith) (omega arith)) (agree-set k halted o.marks (omega arith))))
    stop-fresh (sits-scope {xs} {v = false} {b = b} {f = g} {u = u} {k = k} kn v i sb e) (knows d n₁ r (knows_more kb kl)) (calm-through c₁) o w t m h =
        scope-fresh xs false b g u k o kb (each-knows f xs k (scope-general (scope xs false) (trio b g u) refl n₁) (knows_more kb kl)) (each-named xs k (trio b g u) r (scope-general (scope xs false) (trio b g u) refl n₁)) (λ z. c₁) h (scope-found t)
        (λ c₂ a. stop-fresh sb kb c₂ (marked k halted o) (ap phase (get_or-set_same o.marks k halted 0 (omega arith))) (stoppable-agree a (agree-set k halted o.marks (omega arith)))
        (omega (arith, length-set o.marks k halted)) (opened-agree (opened-part h (omega arith) (omega arith)) (agree-set k halted o.marks (omega arith))))

    stop-all-fresh : {x : Place} {v : Bool} {l : Acts} {c : ℕ} → SitsIn p x l c → KnowsIn f l c → CalmIn l c → (o : Order) → phase (mark_of (name_of x) o) ≡ waits v → StoppableIn o.marks l c
        → c + sizes l ≤ length o.marks → Opened c (sizes l) o.marks → Fresh (stop_all l c o).log
    stop-all-fresh sits-none knows-none calm-none o w t m h = fresh-none [] (λ j. refl)
    stop-all-fresh (sits-more {q = x} {a} {l} {c} s y) (knows_more k z) (calm_more d e) o w (able-more t u) m h =
        let r = stops p s o w t (omega arith) in
        fresh-append (stop a c o).log (stop_all l (c + size a) (stop a c o).order).log
        (stop-fresh s k d o w t (omega arith) (opened-part h (omega arith) (omega arith)))
        (stop-all-fresh y z e (stop a c o).order (ap phase (mark-kept (name_of x) c o (stop a c o).order (before_of s).0 (omega arith) r.rooted r.kept) ∙ w)
        (stoppable-in-agree u (agree-above r.kept (omega arith))) (omega (arith, r.kept.many)) (opened-agree (opened-part h (omega arith) (omega arith)) (agree-above r.kept (omega arith))))
