-- What takes a scope back is answered at most as often as that scope closed, at every moment of every order, over any run. Assumes nothing.
use Prim.Native.Nat.{ℕ, zero, suc, ◌+◌, ◌≤◌}
use native.Mathlib.Omega.{arith}
use mathlib.Core.Path.{◌≡◌, refl, sym, ap, subst, ◌∙◌}
use mathlib.Core.Bool.{Bool, true, false, cond, ◌&&◌, false≢true}
use mathlib.Core.List.{List, [], ◌∷◌, ◌++◌}
use lib.ListN.{length, get_or, length-append}
use lib.Dec.{eqb, leb, ltb}
use borrow.Author.Tests.{eqb-true, le-leb}
use Rattle.plan.specs.Found.{Found, found}
use Rattle.plan.specs.Read.{read_plan}
use Rattle.plan.specs.Tree.{Own, empty, send, receive, set as setting, raise, leave, choose, repeat, sequence, flow, pick, scope, arm, Act, act, Acts, none, more, Plan, size}
use Rattle.plan.proofs.Limits.{accepted-is-within}
use Rattle.order.specs.declared.Order.{Order}
use Rattle.order.specs.declared.End.{End}
use Rattle.order.specs.declared.End.TheVariants.{None, Well, Handled, Failed, Left}
use Rattle.machine.specs.declared.State.{State}
use Rattle.machine.specs.declared.Step.{Step}
use Rattle.machine.specs.declared.Tally.{Tally}
use Rattle.order.specs.Lists.{every, some, only}
use Rattle.order.specs.State.{root, is_live, no_order}
use Rattle.machine.specs.State.{fresh}
use Rattle.order.specs.Event.{Event, started, began, closed, faulted, stopped, ended, raised, left}
use Rattle.order.specs.Expression.{Value, fault, value, evaluate}
use Rattle.order.specs.Acting.{Actor, its_own, in_place, Moved, acted, begun_order, started_order}
use Rattle.order.specs.Judging.{Verdict, clear, clash, conflict, following, upon, judged, spare, settled, step_order}
use Rattle.machine.specs.Calls.{loaded_as, load, post, collect, drop_at, Stepped, doing_at, step, Call, posting, collecting, dropping, stepping}
use Rattle.undoing.specs.History.{log_of}
use Rattle.undoing.specs.Demand3.{scopes_of, is_begin, since}
use Rattle.undoing.specs.Orderly.{is_began_of}
use Rattle.undoing.specs.Ties.{is_taken, is_deed, raised_if, raised_by, deed_of, deed_in, deed_among, deed_at, end_list, end_by}
use Rattle.undoing.specs.Begun.{has_began}
use Rattle.undoing.specs.Buyer.{how_many, is_closed_of}
use Rattle.undoing.specs.Answered.{back_of, answered, often_in, going_on}
use Rattle.undoing.specs.AnyScope.{no_oftener, never_oftener, NeverTakenBackTwice}
use Rattle.undoing.proofs.Parts.{both, decide, only-append, some-append}
use Rattle.undoing.proofs.Moves.{HoldsAt}
use Rattle.undoing.proofs.Orders.{moment_of, onto, onto-append, fair-right}
use Rattle.undoing.proofs.Roots.{Awaited, Standing, EndedAs, Passed, passes_on, passes-end}
use Rattle.undoing.proofs.Planning.{Promised, promised}
use Rattle.undoing.proofs.Judged.{Fitting, OnClash, Higher, conflict-awaited, passed-joined, passed-stands, passed-once}
use Rattle.undoing.proofs.Slots.{standing-live, Alike, alike-itself, taking-alike, alike-awaited, alike-stands, alike-holds, taken_step, order-starts, post-same, collect-same, drop-same, Sane, same-sane, fresh-sane}
use Rattle.undoing.proofs.Happening.{order_in, with_message, Happens, nothing-here, goes-here, starts-here, step-happens}
use Rattle.undoing.proofs.Demanded.{step_after}
use Rattle.undoing.proofs.Deeds.{acted-deeds, raised-deeds, start-deed}
use Rattle.undoing.proofs.Ending.{is_start, start-kept, log-starts}
use Rattle.undoing.proofs.Bought.{all_known}
use Rattle.undoing.proofs.OfOrder.{one_if, Within, within_all, within_none, within-once}
use Rattle.undoing.proofs.OneTime.{first, its, is_left, own-left, time-fewer, start-fewer}
use Rattle.undoing.proofs.AsOften.{every-named, every-among}
use Rattle.undoing.proofs.TakenBack.{end_in, end-in, fresh-free}
use Rattle.undoing.proofs.Sends.{by-sent}

-- how many events are such
many-append : (f : Event → Bool) (l m : List Event) → how_many f (l ++ m) ≡ how_many f l + how_many f m
many-append f l m = ap length (only-append f l m) ∙ length-append (only f l) (only f m)

many_more : (f : Event → Bool) (e : Event) (l : List Event) → how_many f (e ∷ l) ≡ one_if (f e) + how_many f l
unfolding only
many_more f e l = decide (f e) (λ t. rw t (omega arith)) (λ t. rw t (omega arith))

-- where one began there is one
pub some-many : (f : Event → Bool) (l : List Event) → some f l ≡ true → 1 ≤ how_many f l
unfolding some only
some-many f [] h = absurd (false≢true h)
some-many f (e ∷ l) h = decide (f e) (λ t. rw t (omega arith)) (λ t. rw t (some-many f l (rw t at h)))

start_is : (e : Event) → is_begin root e ≡ is_start e
unfolding is_begin is_start
start_is started = refl
start_is (began k) = refl
start_is (closed k) = refl
start_is (faulted n x) = refl
start_is (stopped k) = refl
start_is (ended n) = refl
start_is (raised k x) = refl
start_is left = refl

-- in the order that runs there are those that were, and those of a log that starts none
many-onto : (f : Event → Bool) (l past : List Event) → some is_start l ≡ false → how_many f (since root (onto l past)) ≡ how_many f l + how_many f (since root past)
unfolding some since only
many-onto f [] past h = omega arith
many-onto f (e ∷ l) past h =
    decide (is_start e)
    (λ t. absurd (false≢true (sym (rw t at h))))
    (λ t. let a = many-onto f l (e ∷ past) (rw t at h) in
    let b : how_many f (since root (e ∷ past)) ≡ how_many f (e ∷ since root past) = rw (start_is e ∙ t, since) in
    let c = many_more f e (since root past) in let d = many_more f e l in omega arith)

-- a step closes its own scope and no other
closed-deed : (k : ℕ) (e : Event) → is_closed_of k e ≡ true → is_deed e ≡ true
unfolding is_closed_of is_deed
closed-deed k started h = refl
closed-deed k (began j) h = absurd (false≢true h)
closed-deed k (closed j) h = refl
closed-deed k (faulted n x) h = absurd (false≢true h)
closed-deed k (stopped j) h = absurd (false≢true h)
closed-deed k (ended n) h = absurd (false≢true h)
closed-deed k (raised j x) h = refl
closed-deed k left h = refl

closed-deeds : (k : ℕ) (l : List Event) → how_many (is_closed_of k) l ≡ how_many (is_closed_of k) (only is_deed l)
unfolding only
closed-deeds k [] = refl
closed-deeds k (e ∷ l) =
    decide (is_closed_of k e)
    (λ t. rw (t, closed-deed k e t, t, closed-deeds k l))
    (λ t. decide (is_deed e) (λ d. rw (t, d, t, closed-deeds k l)) (λ d. rw (t, d, closed-deeds k l)))

fault-shut : (e k : ℕ) (v : Value) → how_many (is_closed_of e) (raised_by k v) ≤ one_if (eqb e k)
unfolding only is_closed_of
fault-shut e k (fault x) = omega arith
fault-shut e k (value n) = omega arith

deed-shut : (own : Own) (e k : ℕ) (o : Order) → how_many (is_closed_of e) (deed_of own k o) ≤ one_if (eqb e k)
unfolding deed_of only is_closed_of
deed-shut empty e k o = omega arith
deed-shut (send x y vs) e k o = by-sent (λ l. how_many (is_closed_of e) l ≤ one_if (eqb e k)) x y vs k o (omega arith) (λ n. omega arith)
deed-shut (receive x y vs) e k o = omega arith
deed-shut (setting v x) e k o = fault-shut e k (evaluate x o)
deed-shut (raise number) e k o = omega arith
deed-shut leave e k o = omega arith
deed-shut (choose x) e k o = fault-shut e k (evaluate x o)
deed-shut (repeat x) e k o = fault-shut e k (evaluate x o)
deed-shut sequence e k o = omega arith
deed-shut flow e k o = omega arith
deed-shut pick e k o = omega arith
deed-shut (scope xs u) e k o = decide (eqb e k) (λ t. rw t (omega arith)) (λ t. rw t (omega arith))
deed-shut (arm x y vs) e k o = omega arith

either-shut : (e t : ℕ) (b : Bool) (x y z : List Event) → z ≡ elim b [ true ↦ x | false ↦ y ] → how_many (is_closed_of e) x ≤ one_if (eqb e t) → how_many (is_closed_of e) y ≤ one_if (eqb e t) → how_many (is_closed_of e) z ≤ one_if (eqb e t)
either-shut e t true x y z d h g = subst (λ (l : List Event). how_many (is_closed_of e) l ≤ one_if (eqb e t)) (sym d) h
either-shut e t false x y z d h g = subst (λ (l : List Event). how_many (is_closed_of e) l ≤ one_if (eqb e t)) (sym d) g

mutual
  unfolding deed_in only

  deed-in-shut : (a : Act) (e k t : ℕ) (o : Order) → how_many (is_closed_of e) (deed_in a k t o) ≤ one_if (eqb e t)
  deed-in-shut (act own within) e k t o =
      decide (eqb k t)
      (λ d. subst (λ (l : List Event). how_many (is_closed_of e) l ≤ one_if (eqb e t)) (sym (subst (λ (z : Bool). deed_in (act own within) k t o ≡ elim z [ true ↦ deed_of own k o | false ↦ deed_among within (k + 1) t o ]) d refl))
      (subst (λ (i : ℕ). how_many (is_closed_of e) (deed_of own k o) ≤ one_if (eqb e i)) (eqb-true k t d) (deed-shut own e k o)))
      (λ d. subst (λ (l : List Event). how_many (is_closed_of e) l ≤ one_if (eqb e t)) (sym (subst (λ (z : Bool). deed_in (act own within) k t o ≡ elim z [ true ↦ deed_of own k o | false ↦ deed_among within (k + 1) t o ]) d refl))
      (deed-among-shut within e (k + 1) t o))

  deed-among-shut : (l : Acts) (e c t : ℕ) (o : Order) → how_many (is_closed_of e) (deed_among l c t o) ≤ one_if (eqb e t)
  deed-among-shut none e c t o = omega arith
  deed-among-shut (more a l) e c t o = either-shut e t (ltb t _) (deed_in a c t o) (deed_among l _ t o) _ refl (deed-in-shut a e c t o) (deed-among-shut l e _ t o)

deed-at-shut : (p : Plan) (e t : ℕ) (o : Order) → how_many (is_closed_of e) (deed_at p t o) ≤ one_if (eqb e t)
unfolding deed_at
deed-at-shut p e t o =
    either-shut e t (ltb t (size p.body)) (deed_in p.body 0 t o) (deed_in p.fault (size p.body) t o) (deed_at p t o) refl (deed-in-shut p.body e 0 t o) (deed-in-shut p.fault e (size p.body) t o)

-- how often a step is one of these and one more
often-more : (i k : ℕ) (ks : List ℕ) → often_in i (k ∷ ks) ≡ one_if (eqb i k) + often_in i ks
unfolding only
often-more i k ks = decide (eqb i k) (λ e. rw e (omega arith)) (λ e. rw e (omega arith))

one-most : (b : Bool) → one_if b ≤ 1
one-most true = omega arith
one-most false = omega arith

-- what is written down of a step, and how often it closes; of a raise in place of a receive nothing, and never
abbrev pub wrote : Actor → (i k : ℕ) → ℕ
wrote its_own i k = one_if (eqb i k)
wrote in_place i k = 0

-- how often a step closes a scope
pub acted-shut : (p : Plan) (e : ℕ) (actor : Actor) (k : ℕ) (o : Order) → Fitting actor p k → how_many (is_closed_of e) (acted actor p k o).log ≤ wrote actor e k
unfolding only is_closed_of
acted-shut p e its_own k o f =
    let a = closed-deeds e (acted its_own p k o).log in
    let b = ap (λ (l : List Event). how_many (is_closed_of e) l) (acted-deeds p k o) in let c = deed-at-shut p e k o in omega arith
acted-shut p e in_place k o f =
    let a = closed-deeds e (acted in_place p k o).log in
    let b : how_many (is_closed_of e) (only is_deed (acted in_place p k o).log) ≡ 0 = ap (λ (l : List Event). how_many (is_closed_of e) l) (raised-deeds p k o f) in omega arith

-- One step that takes one scope back.
module _ (p : Plan) (h : Promised p) (e t : ℕ) (takes : some (eqb t) (back_of p e) ≡ true) where
  abbrev mark : List ℕ → ℕ
  mark ms = one_if (is_left p h e t takes ms)

  abbrev begins : List Event → ℕ
  begins l = how_many (is_began_of (eqb (first p h e t takes))) l

  abbrev shuts : List Event → ℕ
  shuts l = how_many (is_closed_of e) l

  abbrev Right : List Event → Type 0
  Right past = Within p (all_known p h) (its p h e t takes).inner (its p h e t takes).known (its p h e t takes).undoes past

  -- its undo part began at most once for each closing
  once : (past : List Event) → Right past → begins (since root past) ≤ shuts (since root past)
  once past g =
      let x = its p h e t takes in
      let w = within-once p (all_known p h) x.inner x.known x.undoes past g in
      subst (λ (i : ℕ). how_many (is_began_of (eqb i)) (since root past) ≤ shuts (since root past)) x.undo
      (subst (λ (i : ℕ). how_many (is_began_of (eqb x.inner.undo)) (since root past) ≤ how_many (is_closed_of i) (since root past)) x.number w)

  -- A is how often it was answered, with what is written down of this step; B how often its undo part began before, C how often its scope closes
  record Kept (A B C : ℕ) (m : Moved) : Type 0 where
    unstarted : some is_start m.log ≡ false
    shut : shuts m.log ≤ C
    comes : m.end ≡ None → A + mark m.order.marks ≤ B + begins m.log

  -- where it is the step it was to come
  was-left : (actor : Actor) (k : ℕ) (o : Order) → Awaited p o.marks k → Standing p o → wrote actor t k ≤ mark o.marks
  was-left its_own k o w st =
      decide (eqb t k)
      (λ d. let z = own-left p h e t takes o st (subst (λ (i : ℕ). Awaited p o.marks i) (sym (eqb-true t k d)) w) in rw (d, z) (omega arith))
      (λ d. rw d (omega arith))
  was-left in_place k o w st = omega arith

  not_own : (actor : Actor) (k : ℕ) → eqb t k ≡ false → wrote actor t k ≡ 0
  not_own its_own k d = rw d
  not_own in_place k d = refl

  -- once through the order
  acted-kept : (actor : Actor) (k : ℕ) (o o' : Order) (past : List Event) (A B : ℕ) → Fitting actor p k → Alike p o o' → Awaited p o.marks k → Standing p o → HoldsAt p (moment_of p o) past
      → A + mark o.marks ≤ B → Kept (A + wrote actor t k) B (wrote actor e k) (acted actor p k o')
  acted-kept actor k o o' past A B f like w st g c =
      record { unstarted = log-starts actor p k o' f; shut = acted-shut p e actor k o' f; comes = λ d. go (live d) }
    where
      m : Moved
      m = acted actor p k o'

      live : m.end ≡ None → is_live m.order ≡ true
      live d =
          standing-live p m.order (passed-stands p past m d (passed-once p h actor k o' past (alike-awaited like k w) (alike-stands p o o' like st) (alike-holds like past g))).0

      go : is_live m.order ≡ true → A + wrote actor t k + mark m.order.marks ≤ B + begins m.log
      go v =
          let q = was-left actor k o w st in
          let n = one-most (is_left p h e t takes m.order.marks) in
          decide (has_began (first p h e t takes) m.log)
          (λ b. let y = some-many (is_began_of (eqb (first p h e t takes))) m.log b in omega arith)
          (λ b. decide (is_left p h e t takes m.order.marks)
          (λ i. let z = time-fewer p h e t takes actor k o o' like w st v b i in
          let z₁ = not_own actor k z.1 in let z₂ : mark o.marks ≡ 1 = rw z.0 in omega arith)
          (λ i. let z : mark m.order.marks ≡ 0 = rw i in omega arith))

  -- what is judged
  judged-kept : (A B C n : ℕ) (past : List Event) (m : Moved) → Passed p past m → Kept A B C m → Kept A B C (judged n p m)
  unfolding judged
  judged-kept A B C zero past m w q = q
  judged-kept A B C (suc n) past m w q = go (λ m' w' q'. judged-kept A B C n past m' w' q') m.end refl
    where
      on : ((m' : Moved) → Passed p past m' → Kept A B C m' → Kept A B C (judged n p m')) → m.end ≡ None → (v : Verdict) → OnClash (Higher p m.order) v → Kept A B C (upon (judged n p) p m v)
      on f d clear c = q
      on f d (clash k) c =
          let s = passed-stands p past m d w in
          let l = onto m.log past in
          let m' = acted in_place p k m.order in
          let y = acted-kept in_place k m.order m.order l A (B + begins m.log) c.1 (alike-itself p m.order) c.0 s.0 s.1 (q.comes d) in
          f (following m.log m') (passed-joined p past m m' d w (passed-once p h in_place k m.order l c.0 s.0 s.1))
          (record {
            unstarted = some-append is_start m.log m'.log ∙ rw (q.unstarted, y.unstarted);
            shut = let i = many-append (is_closed_of e) m.log m'.log in let a = q.shut in let b = y.shut in omega arith;
            comes = λ d₁. let i = many-append (is_began_of (eqb (first p h e t takes))) m.log m'.log in let a = y.comes d₁ in omega arith;
          })

      go : ((m' : Moved) → Passed p past m' → Kept A B C m' → Kept A B C (judged n p m')) → (d : End) → m.end ≡ d
          → Kept A B C (elim d [ None ↦ upon (judged n p) p m (conflict p m.order) | Well ↦ m | Handled ↦ m | Failed ↦ m | Left ↦ m ])
      go f None d = on f d (conflict p m.order) (conflict-awaited p m.order)
      go f Well d = q
      go f Handled d = q
      go f Failed d = q
      go f Left d = q

  step_kept : (k : ℕ) (o o' : Order) (past : List Event) (A B : ℕ) → Alike p o o' → Awaited p o.marks k → Standing p o → HoldsAt p (moment_of p o) past
      → A + mark o.marks ≤ B → Kept (A + one_if (eqb t k)) B (one_if (eqb e k)) (step_order p k o')
  unfolding step_order settled
  step_kept k o o' past A B like w st g c =
      judged-kept (A + one_if (eqb t k)) B (one_if (eqb e k)) (spare p (acted its_own p k o').order) past (acted its_own p k o')
      (passed-once p h its_own k o' past (alike-awaited like k w) (alike-stands p o o' like st) (alike-holds like past g)) (acted-kept its_own k o o' past A B tt like w st g c)

  -- what stands in a slot, its history and the steps of its order that were answered
  data Counts (o : Order) (past : List Event) (ks : List ℕ) : Type 0 where
    counts-free : is_live o ≡ false → ks ≡ [] → Counts o past ks
    counts-live : is_live o ≡ true → often_in t ks + mark o.marks ≤ begins (since root past) → shuts (since root past) ≤ often_in e ks → Counts o past ks

  counts-after : (k : ℕ) (ks : List ℕ) (m : Moved) (past : List Event) → Passed p past m → Kept (often_in t ks + one_if (eqb t k)) (begins (since root past)) (one_if (eqb e k)) m → shuts (since root past) ≤ often_in e ks
      → Counts m.order (onto m.log past) (going_on m.end (k ∷ ks))
  unfolding no_order
  counts-after k ks m past (passes_on r d z y) q c =
      subst (λ (x : End). Counts m.order (onto m.log past) (going_on x (k ∷ ks))) (sym d)
      (counts-live (standing-live p m.order z)
      (let a = often-more t k ks in let b = many-onto (is_began_of (eqb (first p h e t takes))) m.log past q.unstarted in let f = q.comes d in omega arith)
      (let a = often-more e k ks in let b = many-onto (is_closed_of e) m.log past q.unstarted in let f = q.shut in omega arith))
  counts-after k ks m past (passes-end r d z) q c = go m.end z
    where
      go : (x : End) → EndedAs p x (onto m.log past) → Counts m.order (onto m.log past) (going_on x (k ∷ ks))
      go None z = absurd z
      go Well z = counts-free (ap is_live d) refl
      go Handled z = counts-free (ap is_live d) refl
      go Failed z = counts-free (ap is_live d) refl
      go Left z = counts-free (ap is_live d) refl

  -- one more answer: it is no oftener
  fewer : (k : ℕ) (ks : List ℕ) (o : Order) (past : List Event) → Awaited p o.marks k → Standing p o → Right past
      → often_in t ks + mark o.marks ≤ begins (since root past) → shuts (since root past) ≤ often_in e ks → leb (often_in t (k ∷ ks)) (often_in e (k ∷ ks)) ≡ true
  fewer k ks o past w st g a b =
      let x = often-more t k ks in let y = often-more e k ks in let q = was-left its_own k o w st in let z = once past g in
      le-leb (often_in t (k ∷ ks)) (often_in e (k ∷ ks)) (omega arith)

  -- these of a slot's answers
  unfoldable pub each : List ℕ → List Step → Bool
  each ks [] = true
  each ks (x ∷ l) = leb (often_in t (x.activity ∷ ks)) (often_in e (x.activity ∷ ks)) && each (going_on x.end (x.activity ∷ ks)) l

  -- an order that starts
  start-marks : mark (started_order p).marks ≤ begins (begun_order p).log
  start-marks =
      let n = one-most (is_left p h e t takes (started_order p).marks) in
      decide (has_began (first p h e t takes) (begun_order p).log)
      (λ b. let y = some-many (is_began_of (eqb (first p h e t takes))) (begun_order p).log b in omega arith)
      (λ b. decide (is_left p h e t takes (started_order p).marks) (λ i. absurd (start-fewer p h e t takes b i)) (λ i. let z : mark (started_order p).marks ≡ 0 = rw i in omega arith))

  start-silent : only is_deed (begun_order p).log ≡ []
  unfolding only is_deed
  start-silent = let z = start-deed p in cc

  begun-unstarted : some is_start (begun_order p).log ≡ false
  unfolding some
  begun-unstarted = start-kept (begun_order p).log ∙ ap (some is_start) start-silent

  begun-shut : shuts (begun_order p).log ≡ 0
  unfolding only
  begun-shut = closed-deeds e (begun_order p).log ∙ ap (λ (l : List Event). shuts l) start-silent

  since-start : (past : List Event) → since root (started ∷ past) ≡ []
  unfolding since is_begin
  since-start past = refl

  start-counts : (past : List Event) → (often_in t [] + mark (started_order p).marks ≤ begins (since root (onto (started ∷ (begun_order p).log) past))) × (shuts (since root (onto (started ∷ (begun_order p).log) past)) ≤ often_in e [])
  unfolding only
  start-counts past =
      let a = many-onto (is_began_of (eqb (first p h e t takes))) (begun_order p).log (started ∷ past) begun-unstarted in
      let b = many-onto (is_closed_of e) (begun_order p).log (started ∷ past) begun-unstarted in
      let c : begins (since root (started ∷ past)) ≡ 0 = ap (λ (l : List Event). begins l) (since-start past) in
      let d : shuts (since root (started ∷ past)) ≡ 0 = ap (λ (l : List Event). shuts l) (since-start past) in
      let f = start-marks in let g = begun-shut in (omega arith, omega arith)

  module _ (bytes : List ℕ) (next i : ℕ) (accepted : read_plan bytes ≡ found p next) where
    abbrev Noted : State → List Event → Stepped → List ℕ → Type 0
    Noted s past r ks = (rest : List Step) → ((js : List ℕ) → Counts (order_in r.state i) (onto (log_of i r) past) js → each js rest ≡ true) → each ks (cond (is_taken i r) (r.answer ∷ []) [] ++ rest) ≡ true

    taken-end : (r : Stepped) (x : End) → is_taken i r ≡ true → end_by i r ≡ end_list x → r.answer.end ≡ x
    taken-end r x q d =
        both (eqb r.answer.refusal 0) (eqb r.answer.slot i) q
        (λ a b. sym (end-in r.answer.end) ∙ (ap end_in (let z : end_list r.answer.end ≡ end_list x = rw b at d in z) ∙ end-in x))

    answer-noted : (s : State) (past past₁ : List Event) (r : Stepped) (ks : List ℕ) (k : ℕ) (m : Moved) → (is_taken i r ≡ true) × (r.answer.activity ≡ k) → onto (log_of i r) past ≡ onto m.log past₁ → end_by i r ≡ end_list m.end → order_in r.state i ≡ m.order
        → leb (often_in t (k ∷ ks)) (often_in e (k ∷ ks)) ≡ true → Counts m.order (onto m.log past₁) (going_on m.end (k ∷ ks)) → Noted s past r ks
    unfolding each
    answer-noted s past past₁ r ks k m q y z d a b rest f =
        rw (q.0, q.1, taken-end r m.end q.0 z, a)
        (f (going_on m.end (k ∷ ks)) (subst (λ (o : Order). Counts o (onto (log_of i r) past) (going_on m.end (k ∷ ks))) (sym d) (subst (λ (l : List Event). Counts m.order l (going_on m.end (k ∷ ks))) (sym y) b)))

    happens-noted : (s : State) (past : List Event) (r : Stepped) (ks : List ℕ) → Happens p i s past r → Right past → Counts (order_in s i) past ks → Noted s past r ks
    happens-noted s past r ks (nothing-here n l z d) g b rest f =
        rw n (f ks (subst (λ (o : Order). Counts o (onto (log_of i r) past) ks) (sym d) (subst (λ (v : List Event). Counts (order_in s i) (onto v past) ks) (sym l) b)))
    happens-noted s past r ks (goes-here k m q w st c y l z d) g (counts-free n v) rest f = absurd (false≢true (sym n ∙ standing-live p (order_in s i) st))
    happens-noted s past r ks (goes-here k m q w st c y l z d) g (counts-live n a b) rest f =
        let o = order_in s i in
        let v = taking-alike p (doing_at p k) m o in
        answer-noted s past past r ks k (step_order p k (with_message p k m o)) (q.0, q.1) (ap (λ (x : List Event). onto x past) l) z d
        (fewer k ks o past w st g a b)
        (counts-after k ks (step_order p k (with_message p k m o)) past (taken_step p h k o (with_message p k m o) past v w st y)
        (step_kept k o (with_message p k m o) past (often_in t ks) (begins (since root past)) v w st y a) b) rest f
    happens-noted s past r ks (starts-here k m q w x n l z d) g (counts-live c a b) rest f = absurd (false≢true (sym x ∙ c))
    happens-noted s past r ks (starts-here k m q w x n l z d) g (counts-free c y) rest f =
        let o = started_order p in
        let l₀ = started ∷ (begun_order p).log in
        let v = taking-alike p (doing_at p k) m o in
        let b = order-starts p h k past n w in
        let a = start-counts past in
        let g₀ : Right (onto l₀ past) = within_all p (all_known p h) (its p h e t takes).inner (its p h e t takes).known (its p h e t takes).undoes past l₀ (fair-right p past l₀ b.0).0 g in
        subst (λ (js : List ℕ). each js (cond (is_taken i r) (r.answer ∷ []) [] ++ rest) ≡ true) (sym y)
        (answer-noted s past (onto l₀ past) r [] k (step_order p k (with_message p k m o)) (q.0, q.1) (ap (λ (x : List Event). onto x past) l ∙ onto-append past l₀ (step_order p k (with_message p k m o)).log) z d
        (fewer k [] o (onto l₀ past) w b.1 g₀ a.0 a.1)
        (counts-after k [] (step_order p k (with_message p k m o)) (onto l₀ past) (taken_step p h k o (with_message p k m o) (onto l₀ past) v w b.1 b.2)
        (step_kept k o (with_message p k m o) (onto l₀ past) (often_in t []) (begins (since root (onto l₀ past))) v w b.1 b.2 a.0) a.1) rest f)

    -- over any calls
    all_noted : (calls : List Call) (s : State) (u : Tally) (past : List Event) (ks : List ℕ) → Sane p bytes next i accepted h s past → Right past → Counts (order_in s i) past ks → each ks (answered calls i s u) ≡ true
    unfolding answered each
    all_noted [] s u past ks g w b = refl
    all_noted (posting m ∷ l) s u past ks g w b =
        all_noted l (post m s).state u past ks (same-sane p bytes next i accepted h s (post m s).state past (post-same m s) g) w (subst (λ (os : List Order). Counts (get_or os i no_order) past ks) (sym (post-same m s).orders) b)
    all_noted (collecting ∷ l) s u past ks g w b =
        all_noted l (collect s).state u past ks (same-sane p bytes next i accepted h s (collect s).state past (collect-same s) g) w (subst (λ (os : List Order). Counts (get_or os i no_order) past ks) (sym (collect-same s).orders) b)
    all_noted (dropping j ∷ l) s u past ks g w b =
        all_noted l (drop_at j s).state u past ks (same-sane p bytes next i accepted h s (drop_at j s).state past (drop-same j s) g) w (subst (λ (os : List Order). Counts (get_or os i no_order) past ks) (sym (drop-same j s).orders) b)
    all_noted (stepping c ∷ l) s u past ks g w b =
        let r = step c s u in
        let a = step_after p bytes next i accepted h c s u past g in
        let w₁ : Right (onto (log_of i r) past) = within_all p (all_known p h) (its p h e t takes).inner (its p h e t takes).known (its p h e t takes).undoes past (log_of i r) (fair-right p past (log_of i r) a.0).0 w in
        happens-noted s past r ks (step-happens p bytes next i accepted h c s u past g).happens w b (answered l i r.state r.tally)
        (λ js b₁. all_noted l r.state r.tally (onto (log_of i r) past) js a.1 w₁ b₁)

    pub fresh-noted : (calls : List Call) (u : Tally) → each [] (answered calls i (fresh bytes) u) ≡ true
    fresh-noted calls u =
        all_noted calls (fresh bytes) u [] [] (fresh-sane p bytes next i accepted h) (within_none p (all_known p h) (its p h e t takes).inner (its p h e t takes).known (its p h e t takes).undoes)
        (counts-free (fresh-free bytes i) refl)

-- all of them
module _ (p : Plan) (h : Promised p) where
  all-each : (l : List Step) (ks : List ℕ) → ((e t : ℕ) (takes : some (eqb t) (back_of p e) ≡ true) → each p h e t takes ks l ≡ true) → never_oftener p ks l ≡ true
  unfolding never_oftener each no_oftener
  all-each [] ks f = refl
  all-each (x ∷ l) ks f =
      let js = x.activity ∷ ks in
      rw (every-named (λ k. every (λ t. leb (often_in t js) (often_in k js)) (back_of p k)) (scopes_of p)
      (λ k c. every-among (λ t. leb (often_in t js) (often_in k js)) (back_of p k) (λ t i. both (leb (often_in t js) (often_in k js)) (each p h k t i (going_on x.end js) l) (f k t i) (λ a b. a))))
      (all-each l (going_on x.end js) (λ k t i. both (leb (often_in t js) (often_in k js)) (each p h k t i (going_on x.end js) l) (f k t i) (λ a b. b)))

-- The answers alone, of any scope.
pub never-taken-back-twice : NeverTakenBackTwice
unfolding NeverTakenBackTwice load
never-taken-back-twice bytes p next d calls slot u =
    subst (λ (f : Found Plan). never_oftener p [] (answered calls slot (loaded_as bytes f).state u) ≡ true) (sym d)
    (let h = promised p (accepted-is-within bytes d) in
    all-each p h (answered calls slot (fresh bytes) u) [] (λ e t takes. fresh-noted p h e t takes bytes next slot d calls u))
