-- Nothing is dropped, and what follows begins, over any run. Assumes nothing.
use Prim.Native.Nat.{ℕ, ◌+◌, ◌≤◌, ◌<◌}
use native.Mathlib.Omega.{arith}
use mathlib.Core.Path.{◌≡◌, refl, sym, ap, subst, ◌∙◌}
use mathlib.Core.Bool.{Bool, true, false, cond, not, ◌&&◌, ◌||◌, false≢true, or-true}
use mathlib.Core.List.{List, [], ◌∷◌, ◌++◌}
use lib.ListN.{length, get_or}
use lib.Dec.{eqb, ltb, leb}
use borrow.Author.Tests.{eqb-true, eq-eqb, lt-ltb, le-ltb, le-leb, ltb-true, ltb-false}
use Rattle.plan.specs.Tree.{Own, kind, Act, Acts, none, more, Plan, size, sizes}
use Rattle.order.specs.declared.Order.{Order}
use Rattle.order.specs.declared.End.TheVariants.{None, Well}
use Rattle.order.specs.Lists.{some}
use Rattle.order.specs.State.{Name, root, idle, done, halted, withdrawing, mark_at, mark_of, is_live, no_order}
use Rattle.order.specs.Event.{Event, started, ended}
use Rattle.order.specs.Begin.{quiet}
use Rattle.order.specs.declared.Way.{Way as Result}
use Rattle.order.specs.declared.Way.TheVariants.{Running as running, Over as over, Raising as raising, Leaving as leaving, Undone as undone, UndoRaising as undo_raising}
use Rattle.order.specs.Scope.{Outcome, root_of, from_body, from_fault}
use Rattle.order.specs.Acting.{step_in, step_root, end_of, moved_to, begun_order, started_order, Actor, its_own, acted}
use Rattle.undoing.proofs.EachTime.{time, OfTimes, OfStarts, each-time}
use Rattle.undoing.proofs.Judged.{root-mild}
use Rattle.undoing.proofs.Moves.{HoldsAt}
use Rattle.order.specs.Taking.{act_among, act_at}
use Rattle.machine.specs.Calls.{doing_at}
use Rattle.undoing.specs.Orderly.{is_began_of}
use Rattle.undoing.specs.Begun.{kind_at, lasts, has_began, Taken}
use Rattle.undoing.specs.Entirely.{of_all, is_rash}
use Rattle.undoing.specs.Onward.{had_by, stands_under, may_be_over, is_kept, KeptRunning, goes_on, passes_in, passes_among, is_passed, PassedOn}
use Rattle.undoing.proofs.Parts.{decide, some-append}
use Rattle.undoing.proofs.Accounts.{phase}
use Rattle.undoing.proofs.Marks.{Quiet, turned-waits, turned-undoes, turned-heals, turned-not-open}
use Rattle.undoing.proofs.Orders.{moment_of, onto}
use Rattle.undoing.proofs.Places.{first-of, second-of}
use Rattle.undoing.proofs.Combining.{quiet-found}
use Rattle.undoing.proofs.Planning.{Promised}
use Rattle.undoing.proofs.Waiting.{quiet-waits}
use Rattle.undoing.proofs.Scoping.{scope_live, scope-done, scope-turned, Running, StepsAs}
use Rattle.undoing.proofs.Scoping as scoping
use Rattle.undoing.proofs.Stepping.{awake-first, steps, steps-stopped, steps-undoing}
use Rattle.undoing.proofs.Roots.{Awaited, in-body, in-fault, Standing}
use Rattle.undoing.proofs.Roots as roots
use Rattle.undoing.proofs.Slots.{standing-live, Alike, taking-alike, alike-awaited, alike-stands, alike-holds, order-starts}
use Rattle.undoing.proofs.Happening.{with_message}
use Rattle.undoing.proofs.Truly.{Up, Knows}
use Rattle.undoing.proofs.Lasting.{KnowsEach, Within}
use Rattle.undoing.proofs.Keeping as keeping
use Rattle.undoing.proofs.BegunTold.{body-knows, fault-knows}
use Rattle.undoing.proofs.EntirelyTold.{each_below}
use Rattle.undoing.proofs.NearTold.{awaited-to}
use Rattle.undoing.proofs.Coming.{in-first, in-later}
use Rattle.undoing.proofs.Choices.{root-chosen}
use Rattle.undoing.proofs.Healing.{only-runs, one-quiet}
use Rattle.undoing.proofs.Dropping.{is_bad, step-drops, root-drops, body_has, fault-has, calmer, not-bad}
use Rattle.undoing.proofs.AfreshSteps.{Stood}
use Rattle.undoing.proofs.Growing.{body-grows, fault-grows, step-grows}
use Rattle.undoing.proofs.Passing.{Onward, on-later, on-lives, Thru, thru-here, thru-in, ThruIn, thru-first, thru-later, Passes, thru-map, later_more, live-passes, waits-passes, undoes-passes, fault-passes, thru-run, thru-stopped, thru-undoing, thru-part}

-- a log without its last, or without its first
calm-front : (l m : List Event) → some is_rash (l ++ m) ≡ false → some is_rash l ≡ false
calm-front l m e = decide (some is_rash l) (λ d. absurd (false≢true (sym e ∙ (some-append is_rash l m ∙ rw d)))) (λ d. d)

calm-back : (l m : List Event) → some is_rash (l ++ m) ≡ false → some is_rash m ≡ false
calm-back l m e = decide (some is_rash m) (λ d. absurd (false≢true (sym e ∙ (some-append is_rash l m ∙ rw (d, or-true))))) (λ d. d)

module _ (p : Plan) (h : Promised p) where
  kb : Knows (kind_at p) p.body 0
  kb = body-knows p h

  kf : Knows (kind_at p) p.fault (size p.body)
  kf = fault-knows p h

  body-stood : Stood p p.body 0
  body-stood = record { at = λ j x y. in-first p.body (more p.fault none) 0 j (omega arith) }

  fault-stood : Stood p p.fault (size p.body)
  fault-stood =
      record {
        at = λ j x y. in-later p.body (more p.fault none) 0 j (omega arith)
            ∙ (ap (λ (c : ℕ). act_among (more p.fault none) c j) (zero-plus (size p.body)) ∙ in-first p.fault none (size p.body) j y);
      }
    where
      zero-plus : (n : ℕ) → 0 + n ≡ n
      zero-plus n = omega arith

  each-kf : KnowsEach (kind_at p) (root_of p)
  each-kf = root-chosen (λ a j. Knows (kind_at p) a j) p kf

  parts : Within (kind_at p) (root_of p) 0 (size p.body + size p.fault)
  parts =
      record {
        name = refl;
        body = kb;
        fault = each-kf;
        body_from = omega arith;
        body_to = omega arith;
        fault_from = root-chosen (λ a j. 0 ≤ j) p (omega arith);
        fault_to = root-chosen (λ a j. j + size a ≤ size p.body + size p.fault) p (omega arith);
      }

  abbrev whole : Acts
  whole = more p.body (more p.fault none)

  module _ (actor : Actor) (t : ℕ) (o : Order) (a : Awaited p o.marks t) (st : Standing p o) where
    m : size p.body + size p.fault ≤ length o.marks
    m = st.many

    -- where the step is
    root-body : t < size p.body → step_root actor p t o ≡ from_body (root_of p) (step_in actor p.body 0 0 t o)
    unfolding step_root
    root-body e = first-of (ltb t (size p.body)) (from_body (root_of p) (step_in actor p.body 0 0 t o)) (from_fault (root_of p) (step_in actor p.fault (size p.body) (size p.body) t o)) (step_root actor p t o) refl (lt-ltb t (size p.body) e)

    root-fault : size p.body ≤ t → step_root actor p t o ≡ from_fault (root_of p) (step_in actor p.fault (size p.body) (size p.body) t o)
    unfolding step_root
    root-fault e = second-of (ltb t (size p.body)) (from_body (root_of p) (step_in actor p.body 0 0 t o)) (from_fault (root_of p) (step_in actor p.fault (size p.body) (size p.body) t o)) (step_root actor p t o) refl (le-ltb t (size p.body) e)

    module _ (c : some is_rash (step_root actor p t o).log ≡ false) where
      calm-body : t < size p.body → some is_rash (from_body (root_of p) (step_in actor p.body 0 0 t o)).log ≡ false
      calm-body e = subst (λ (r : Outcome). some is_rash r.log ≡ false) (root-body e) c

      calm-fault : size p.body ≤ t → some is_rash (from_fault (root_of p) (step_in actor p.fault (size p.body) (size p.body) t o)).log ≡ false
      calm-fault e = subst (λ (r : Outcome). some is_rash r.log ≡ false) (root-fault e) c

      root-grows : (j : ℕ) → lasts (kind_at p j) ≡ true → (j ≤ t → t < j + size (act_at p j) → (eqb (kind_at p j) 7 && ltb j t) ≡ true) → (t < j → j < t + size (act_at p t) → ⊥) → Up o.marks j → Up (step_root actor p t o).order.marks j
      root-grows j l off under u = go a
        where
          go : Awaited p o.marks t → Up (step_root actor p t o).order.marks j
          go (in-body e w) =
              let its = step_in actor p.body 0 0 t o in
              let i = calmer its.log (from_body (root_of p) its).log (body_has is_rash (root_of p) its) (calm-body e) in
              subst (λ (r : Outcome). Up r.order.marks j) (sym (root-body e))
              (body-grows (kind_at p) (root_of p) 0 (size p.body + size p.fault) parts its (omega (arith, m, (keeping.step-steps (kind_at p) actor kb 0 t o (omega (arith, m))).long)) (not-bad o its (step-drops (kind_at p) t actor kb 0 o) i) j l (λ d. omega arith)
              (step-grows (kind_at p) actor p t j l off under kb body-stood 0 (omega arith) (omega arith) o (omega (arith, m)) i u))
          go (in-fault e w) =
              let its = step_in actor p.fault (size p.body) (size p.body) t o in
              let i = calmer its.log (from_fault (root_of p) its).log (fault-has is_rash (root_of p) its) (calm-fault e) in
              subst (λ (r : Outcome). Up r.order.marks j) (sym (root-fault e))
              (fault-grows (kind_at p) (root_of p) 0 (size p.body + size p.fault) parts its (omega (arith, m, (keeping.step-steps (kind_at p) actor kf (size p.body) t o (omega (arith, m))).long)) (not-bad o its (step-drops (kind_at p) t actor kf (size p.body) o) i) j l (λ d. omega arith)
              (step-grows (kind_at p) actor p t j l off under kf fault-stood (size p.body) e (awaited-to {p = p} {ms = o.marks} {t = t} (in-fault e w)) o (omega (arith, m)) i u))

      root-thru : ThruIn p actor (kind_at p) t o (step_root actor p t o) whole 0
      root-thru = go a
        where
          go : Awaited p o.marks t → ThruIn p actor (kind_at p) t o (step_root actor p t o) whole 0
          go (in-body e w) = thru-first {a = p.body} {l = more p.fault none} {c = 0} (omega arith) (subst (λ (r : Outcome). Thru p actor (kind_at p) t o r p.body 0) (sym (root-body e)) (on st.runs))
            where
              its : Outcome
              its = step_in actor p.body 0 0 t o

              i : some is_rash its.log ≡ false
              i = calmer its.log (from_body (root_of p) its).log (body_has is_rash (root_of p) its) (calm-body e)

              mapped : Passes p actor (kind_at p) t o its (from_body (root_of p) its) 0 (size p.body) → Thru p actor (kind_at p) t o its p.body 0 → Thru p actor (kind_at p) t o (from_body (root_of p) its) p.body 0
              mapped w x = thru-map p actor (kind_at p) t o w x (omega arith) (omega arith)

              on : Running (root_of p) o.marks o.root → Thru p actor (kind_at p) t o (from_body (root_of p) its) p.body 0
              on (scope_live d r q) =
                  mapped (live-passes p actor (kind_at p) t o (root_of p) h.seat 0 (size p.body + size p.fault) parts (omega arith) (omega (arith, m)) (λ j x y. omega arith) (calm-body e) d
                  (steps p actor h.seat.body 0 t o false h.seat.at w refl r (ap phase d) (omega (arith, m))))
                  (thru-run p actor (kind_at p) t o h.seat.body kb 0 h.seat.at false w refl r (ap phase d) (omega (arith, m)) i)
              on (scope-done d q z) = absurd (st.going d)
              on (scope-turned (turned-waits {w = a} q z _ v)) =
                  mapped (waits-passes p actor (kind_at p) t o (root_of p) h.seat 0 (size p.body + size p.fault) parts (omega arith) (omega (arith, m)) (λ j x y. omega arith) (calm-body e)
                  (steps-stopped p actor h.seat.body 0 t o false h.seat.at w refl z (omega (arith, m))))
                  (thru-stopped p actor (kind_at p) t o h.seat.body kb 0 h.seat.at false w refl z (omega (arith, m)) i)
              on (scope-turned (turned-undoes {w = a} q z v)) =
                  let r₀ = awake-first p actor (λ n. mark_of n o) root h.seat.beyond a q in
                  mapped (undoes-passes p actor (kind_at p) t o (root_of p) h.seat 0 (size p.body + size p.fault) parts (omega arith) (omega (arith, m)) (λ j x y. omega arith) (calm-body e) a q
                  (steps-undoing p actor h.seat.body 0 t o false h.seat.at w refl z root r₀ (a, ap (λ (n : Name). phase (mark_of n o)) r₀ ∙ q) (omega (arith, m))))
                  (thru-undoing p actor (kind_at p) t o h.seat.body kb 0 h.seat.at false w refl z root r₀ (a, ap (λ (n : Name). phase (mark_of n o)) r₀ ∙ q) (omega (arith, m)) i)
              on (scope-turned (turned-heals q z v)) = absurd (quiet-waits w refl z)
          go (in-fault e w) = later (subst (λ (r : Outcome). Thru p actor (kind_at p) t o r p.fault (size p.body)) (sym (root-fault e)) (on st.runs))
            where
              its : Outcome
              its = step_in actor p.fault (size p.body) (size p.body) t o

              i : some is_rash its.log ≡ false
              i = calmer its.log (from_fault (root_of p) its).log (fault-has is_rash (root_of p) its) (calm-fault e)

              later : Thru p actor (kind_at p) t o (step_root actor p t o) p.fault (size p.body) → ThruIn p actor (kind_at p) t o (step_root actor p t o) whole 0
              later x = thru-later {a = p.body} {l = more p.fault none} {c = 0} (omega arith) (subst (λ (c : ℕ). ThruIn p actor (kind_at p) t o (step_root actor p t o) (more p.fault none) c) (omega arith) (thru-first {a = p.fault} {l = none} {c = size p.body} (awaited-to {p = p} {ms = o.marks} {t = t} (in-fault e w)) x))

              on : Running (root_of p) o.marks o.root → Thru p actor (kind_at p) t o (from_fault (root_of p) its) p.fault (size p.body)
              on (scope_live d r q) = absurd (quiet-waits w refl (one-quiet p.fault q))
              on (scope-done d q z) = absurd (st.going d)
              on (scope-turned (turned-waits q z _ v)) = absurd (quiet-waits w refl (one-quiet p.fault v))
              on (scope-turned (turned-undoes q z v)) = absurd (quiet-waits w refl (one-quiet p.fault v))
              on (scope-turned (turned-heals q z v)) =
                  thru-map p actor (kind_at p) t o
                  (fault-passes p actor (kind_at p) t o (root_of p) h.seat 0 (size p.body + size p.fault) parts (omega arith) (omega (arith, m)) (λ j x y. omega arith) p.fault (size p.body) kf (omega arith) (λ j x y. omega arith) (calm-fault e))
                  (thru-part p actor (kind_at p) t o (roots.root-fault h.seat) kf (size p.body) tt false w refl (only-runs v (roots.choice-none o.root)) q (omega (arith, m)) i) (omega arith) (omega arith)

    -- what the order becomes
    record Moves (r : Outcome) (q : Order) (l : List Event) : Type 0 where
      more-log : (i : ℕ) → has_began i r.log ≡ true → has_began i l ≡ true
      same_log : (i : ℕ) → has_began i r.log ≡ false → has_began i l ≡ false
      up : (j : ℕ) → j < size p.body + size p.fault → Up r.order.marks j → Up q.marks j

    done-quiets : (ms : List ℕ) (n : ℕ) → n ≡ done → Running (root_of p) ms n → Quiet ms 0 (size p.body) × Quiet ms (size p.body) (size p.fault)
    done-quiets ms n e (scope_live d r q) = absurd (let z : ◌≡◌ {A = ℕ} 1 3 = sym d ∙ e in omega arith)
    done-quiets ms n e (scope-done d r q) = (r, one-quiet p.fault q)
    done-quiets ms n e (scope-turned t) = absurd (false≢true (sym (turned-not-open t) ∙ rw e))

    quiet_none : (ms : List ℕ) → Quiet ms 0 (size p.body) → Quiet ms (size p.body) (size p.fault) → (j : ℕ) → j < size p.body + size p.fault → Up ms j → ⊥
    quiet_none ms q z j n u =
        false≢true (sym u ∙ ap (λ (m : ℕ). eqb m idle)
        (decide (ltb j (size p.body)) (λ c. q.at j (omega arith) (omega (arith, ltb-true j (size p.body) c))) (λ c. z.at j (ltb-false j (size p.body) c) (omega arith))))

    order-moves : (o.root ≡ halted → ⊥) → (o.root ≡ withdrawing → ⊥) → some is_rash (acted actor p t o).log ≡ false
        → (some is_rash (step_root actor p t o).log ≡ false) × Moves (step_root actor p t o) (acted actor p t o).order (acted actor p t o).log
    unfolding acted end_of moved_to some is_began_of
    order-moves x y c = go r.result refl w.comes c
      where
        r : Outcome
        r = step_root actor p t o

        w : scoping.Steps p (root_of p) (Running (root_of p)) o r
        w = roots.root-steps p actor h.seat t o a st x y

        same : (q : Order) → ((j : ℕ) → j < size p.body + size p.fault → Up r.order.marks j → Up q.marks j) → Moves r q r.log
        same q g = record { more-log = λ i d. d; same_log = λ i d. d; up = g }

        go : (z : Result) → r.result ≡ z → StepsAs p (root_of p) (Running (root_of p)) o r.log r.order z
            → some is_rash (moved_to (record { result = z; order = r.order; log = r.log }) (end_of (record { result = z; order = r.order; log = r.log }))).log ≡ false
            → (some is_rash r.log ≡ false) × Moves r (moved_to (record { result = z; order = r.order; log = r.log }) (end_of (record { result = z; order = r.order; log = r.log }))).order (moved_to (record { result = z; order = r.order; log = r.log }) (end_of (record { result = z; order = r.order; log = r.log }))).log
        go running d v c = by-done (eqb r.order.root done) refl c
          where
            by-done : (i : Bool) → eqb r.order.root done ≡ i → some is_rash (moved_to (record { result = running; order = r.order; log = r.log }) (cond i Well None)).log ≡ false
                → (some is_rash r.log ≡ false) × Moves r (moved_to (record { result = running; order = r.order; log = r.log }) (cond i Well None)).order (moved_to (record { result = running; order = r.order; log = r.log }) (cond i Well None)).log
            by-done true i c =
                let z = done-quiets r.order.marks r.order.root (eqb-true r.order.root done i) v.0 in (
                  calm-front r.log (ended root ∷ []) c,
                  record {
                    more-log = λ i d. some-append (is_began_of (eqb i)) r.log (ended root ∷ []) ∙ rw d;
                    same_log = λ i d. some-append (is_began_of (eqb i)) r.log (ended root ∷ []) ∙ rw d;
                    up = λ j n u. absurd (quiet_none r.order.marks z.0 z.1 j n u);
                  },
                )
            by-done false i c = (c, same r.order (λ j n u. u))
        go over d v c = (c, same no_order (λ j n u. absurd (quiet_none r.order.marks v.1 (one-quiet p.fault v.2) j n u)))
        go (raising x) d v c = absurd (false≢true (sym c ∙ (root-drops (kind_at p) t actor p kb kf o).rash (ap is_bad d)))
        go leaving d v c = absurd (false≢true (sym c ∙ (root-drops (kind_at p) t actor p kb kf o).rash (ap is_bad d)))
        go undone d v c = absurd v
        go (undo_raising x) d v c = absurd v

  -- As the tests have it: by the marks and the log after the step.
  module _ (actor : Actor) (t : ℕ) (o : Order) (r : Outcome) (v : Bool) (ns : List ℕ) (l : List Event) (more-log : (i : ℕ) → has_began i r.log ≡ true → has_began i l ≡ true)
      (up : (j : ℕ) → j < size p.body + size p.fault → Up r.order.marks j → Up ns j) (same_log : v ≡ false → (i : ℕ) → has_began i r.log ≡ false → has_began i l ≡ false) where
    goes-told : (within : Acts) (k : ℕ) → k + 1 + sizes within ≤ size p.body + size p.fault → Onward p actor (kind_at p) t o within k r → goes_on v within k t ns l ≡ true
    unfolding goes_on
    goes-told within k n (on-later z) = rw (later_more within (k + 1) t r.log l more-log z, or-true)
    goes-told within k n (on-lives j a b e u z) = rw (again v refl, loud)
      where
        again : (w : Bool) → v ≡ w → (v || not (has_began k l)) ≡ true
        again true d = rw d
        again false d = rw (d, same_log d k z)

        loud : quiet (k + 1) (sizes within) ns ≡ false
        loud = decide (quiet (k + 1) (sizes within) ns) (λ d. absurd (false≢true (sym (up j (omega arith) u) ∙ ap (λ (m : ℕ). eqb m idle) ((quiet-found (sizes within) (k + 1) ns d).at j (omega arith) b)))) (λ d. d)

    node-told : (own : Own) (within : Acts) (k : ℕ) → k + 1 + sizes within ≤ size p.body + size p.fault → (eqb (kind own) 8 ≡ true → Up o.marks k → Onward p actor (kind_at p) t o within k r)
        → ((not (eqb (kind own) 8) || eqb (get_or o.marks k 0) idle) || goes_on v within k t ns l) ≡ true
    node-told own within k n g =
        decide (eqb (kind own) 8)
        (λ d. decide (eqb (get_or o.marks k 0) idle) (λ e. rw (d, e)) (λ e. rw (d, e, goes-told within k n (g d e))))
        (λ d. rw d)

    mutual
      unfolding passes_in size

      thru-told : {a : Act} {k : ℕ} → Thru p actor (kind_at p) t o r a k → k + size a ≤ size p.body + size p.fault → passes_in v a k t o.marks ns l ≡ true
      thru-told (thru-here {own} {within} {k} e) n = rw (eq-eqb k t e)
      thru-told (thru-in {own} {within} {k} lt g x) n = rw (node-told own within k (omega arith) g, thru-in-told x (omega arith), or-true)

      thru-in-told : {x : Acts} {c : ℕ} → ThruIn p actor (kind_at p) t o r x c → c + sizes x ≤ size p.body + size p.fault → passes_among v x c t o.marks ns l ≡ true
      thru-in-told (thru-first {a = a} {l = x} {c = c} e w) n = first-of (ltb t (c + size a)) (passes_in v a c t o.marks ns l) (passes_among v x (c + size a) t o.marks ns l) (passes_among v (more a x) c t o.marks ns l) refl (lt-ltb t (c + size a) e) ∙ thru-told w (omega arith)
      thru-in-told (thru-later {a = a} {l = x} {c = c} e w) n = second-of (ltb t (c + size a)) (passes_in v a c t o.marks ns l) (passes_among v x (c + size a) t o.marks ns l) (passes_among v (more a x) c t o.marks ns l) refl (le-ltb t (c + size a) e) ∙ thru-in-told w (omega arith)

  -- of a time of the order o, as it was or having taken its message, with these events before its own
  module _ (actor : Actor) (t : ℕ) (o o₁ : Order) (past : List Event) (alike : Alike p o o₁) (a : Awaited p o.marks t) (st : Standing p o) (g : HoldsAt p (moment_of p o) past) (front : List Event) where
    a₁ : Awaited p o₁.marks t
    a₁ = alike-awaited alike t a

    st₁ : Standing p o₁
    st₁ = alike-stands p o o₁ alike st

    moves : some is_rash (acted actor p t o₁).log ≡ false → (some is_rash (step_root actor p t o₁).log ≡ false) × Moves actor t o₁ a₁ st₁ (step_root actor p t o₁) (acted actor p t o₁).order (acted actor p t o₁).log
    moves c = let d = root-mild p o₁ past (alike-holds alike past g) in order-moves actor t o₁ a₁ st₁ d.0 d.1 c

    time-grows : some is_rash (front ++ (acted actor p t o₁).log) ≡ false → (j : ℕ) → j < size p.body + size p.fault → lasts (kind_at p j) ≡ true → (j ≤ t → t < j + size (act_at p j) → (eqb (kind_at p j) 7 && ltb j t) ≡ true) → (t < j → j < t + size (act_at p t) → ⊥)
        → Up o.marks j → Up (acted actor p t o₁).order.marks j
    time-grows c j n l off under u =
        let w = moves (calm-back front (acted actor p t o₁).log c) in
        w.1.up j n (root-grows actor t o₁ a₁ st₁ w.0 j l off under (subst (λ (ms : List ℕ). Up ms j) (sym alike.marks) u))

    time-thru : (v : Bool) → (v ≡ false → (i : ℕ) → has_began i front ≡ false) → some is_rash (front ++ (acted actor p t o₁).log) ≡ false
        → passes_among v whole 0 t o.marks (acted actor p t o₁).order.marks (front ++ (acted actor p t o₁).log) ≡ true
    unfolding size
    time-thru v f c =
        let w = moves (calm-back front (acted actor p t o₁).log c) in
        subst (λ (ms : List ℕ). passes_among v whole 0 t ms (acted actor p t o₁).order.marks (front ++ (acted actor p t o₁).log) ≡ true) alike.marks
        (thru-in-told actor t o₁ (step_root actor p t o₁) v (acted actor p t o₁).order.marks (front ++ (acted actor p t o₁).log)
        (λ i d. some-append (is_began_of (eqb i)) front (acted actor p t o₁).log ∙ rw (w.1.more-log i d, or-true)) w.1.up
        (λ e i d. some-append (is_began_of (eqb i)) front (acted actor p t o₁).log ∙ rw (f e i, w.1.same_log i d)) (root-thru actor t o₁ a₁ st₁ w.0) (omega arith))

  is-kept : (x : Taken) (k : ℕ) → (some is_rash x.log ≡ false → lasts (kind_at p k) ≡ true → (k ≤ x.activity → x.activity < k + size (act_at p k) → (eqb (kind_at p k) 7 && ltb k x.activity) ≡ true) → (x.activity < k → k < x.activity + size (act_at p x.activity) → ⊥)
      → Up (had_by p x).marks k → Up x.after.marks k) → is_kept p x k ≡ true
  unfolding is_kept
  is-kept x k g =
      decide (some is_rash x.log) (λ r. rw r) (λ r.
      decide (lasts (kind_at p k)) (λ l.
      decide (eqb (mark_at k (had_by p x)) idle) (λ e. rw (r, l, e)) (λ e.
      decide (may_be_over p x k) (λ s. rw (r, l, e, s)) (λ s.
      decide (stands_under p x k) (λ u. rw (r, l, e, s, u)) (λ u. rw (
        r,
        l,
        e,
        s,
        u,
        g r l (again-from (leb k x.activity) (ltb x.activity (k + size (act_at p k))) (eqb (kind_at p k) 7 && ltb k x.activity) s (le-leb k x.activity) (lt-ltb x.activity (k + size (act_at p k))))
            (apart_from (ltb x.activity k) (ltb k (x.activity + size (act_at p x.activity))) u (lt-ltb x.activity k) (lt-ltb k (x.activity + size (act_at p x.activity)))) e,
      )))))
      (λ l. rw (r, l)))
    where
      apart_from : {A B : Type 0} (b c : Bool) → (b && c) ≡ false → (A → b ≡ true) → (B → c ≡ true) → A → B → ⊥
      apart_from b c e f g x y = false≢true (sym e ∙ rw (f x, g y))

      again-from : {A B : Type 0} (b c d : Bool) → ((b && c) && not d) ≡ false → (A → b ≡ true) → (B → c ≡ true) → A → B → d ≡ true
      again-from b c true e f g x y = refl
      again-from b c false e f g x y = absurd (false≢true (sym e ∙ rw (f x, g y)))

  is-passed : (x : Taken) → (some is_rash x.log ≡ false → passes_among (not (is_live x.before)) whole 0 x.activity (had_by p x).marks x.after.marks x.log ≡ true) → is_passed p x ≡ true
  unfolding is_passed
  is-passed x g = decide (some is_rash x.log) (λ r. rw r) (λ r. rw (r, g r))

  had-live : (o : Order) (k : ℕ) → is_live o ≡ true → Up (cond (is_live o) o (started_order p)).marks k → Up o.marks k
  had-live o k v u = subst (λ (b : Bool). Up (cond b o (started_order p)).marks k) v u

  had-started : (o : Order) (k : ℕ) → is_live o ≡ false → Up (cond (is_live o) o (started_order p)).marks k → Up (started_order p).marks k
  had-started o k v u = subst (λ (b : Bool). Up (cond b o (started_order p)).marks k) v u

  kept-time : OfTimes p (of_all is_kept p)
  kept-time actor t o o' past like a st g =
      let x = time t o [] (acted actor p t o') in
      each_below (is_kept p x) (size p.body + size p.fault) (λ k n. is-kept x k (λ z b off under u.
      time-grows actor t o o' past like a st g [] z k n b off under (had-live o k (standing-live p o st) u)))

  kept-start : OfStarts p (of_all is_kept p)
  kept-start t m o past z n a =
      let o' = with_message p t m (started_order p) in
      let l = started ∷ (begun_order p).log in
      let x = time t o l (acted its_own p t o') in
      let like = taking-alike p (doing_at p t) m (started_order p) in
      let b = order-starts p h t past n a in
      each_below (is_kept p x) (size p.body + size p.fault) (λ k i. is-kept x k (λ c j off under u.
      time-grows its_own t (started_order p) o' (onto l past) like a b.1 b.2 l c k i j off under (had-started o k z u)))

  passed-time : OfTimes p (is_passed p)
  unfolding some
  passed-time actor t o o' past like a st g =
      let x = time t o [] (acted actor p t o') in
      is-passed x (λ c. rw (standing-live p o st) (time-thru actor t o o' past like a st g [] false (λ e i. refl) c))

  passed_start : OfStarts p (is_passed p)
  passed_start t m o past z n a =
      let o' = with_message p t m (started_order p) in
      let l = started ∷ (begun_order p).log in
      let x = time t o l (acted its_own p t o') in
      let like = taking-alike p (doing_at p t) m (started_order p) in
      let b = order-starts p h t past n a in
      is-passed x (λ c. rw z (time-thru its_own t (started_order p) o' (onto l past) like a b.1 b.2 l true (λ e. absurd (false≢true (sym e))) c))

-- Nothing is dropped,
pub kept-running : KeptRunning
unfolding KeptRunning
kept-running = each-time (of_all is_kept) kept-time kept-start

-- and what follows begins.
pub passed_on : PassedOn
unfolding PassedOn
passed_on = each-time is_passed passed-time passed_start
