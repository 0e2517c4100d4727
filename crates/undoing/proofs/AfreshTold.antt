-- What begins was idle before, over any run; and so what lasts begins at most once, also in the step that starts an order. Assumes nothing.
use Prim.Native.Nat.{ℕ, ◌+◌, ◌≤◌}
use native.Mathlib.Omega.{arith}
use mathlib.Core.Path.{◌≡◌, refl, sym, ap, subst, ◌∙◌}
use mathlib.Core.Bool.{true, false, ◌&&◌, ◌||◌, or-true}
use mathlib.Core.List.{List, [], ◌∷◌, ◌++◌}
use lib.ListN.{length, get_or}
use lib.Dec.{eqb, ltb}
use borrow.Author.Tests.{lt-ltb, le-ltb, le-leb}
use Rattle.plan.specs.Tree.{none, more, Plan, size}
use Rattle.order.specs.declared.Order.{Order}
use Rattle.order.specs.declared.End.{End}
use Rattle.order.specs.declared.End.TheVariants.{None, Well, Handled, Failed, Left}
use Rattle.order.specs.Lists.{some}
use Rattle.order.specs.State.{Name, root, idle, mark_of, is_live}
use Rattle.order.specs.Event.{started, ended}
use Rattle.order.specs.Scope.{chosen_part, Outcome, root_of, from_body, from_fault}
use Rattle.order.specs.Acting.{step_in, step_root, end_of, moved_to, begun_order, started_order, Actor, its_own, acted}
use Rattle.undoing.proofs.EachTime.{time, OfTimes, OfStarts, each-time}
use Rattle.order.specs.Taking.{act_among, act_at}
use Rattle.undoing.specs.Ties.{place_of}
use Rattle.undoing.specs.Orderly.{is_began_of}
use Rattle.undoing.specs.Begun.{kind_at, has_began, Taken}
use Rattle.undoing.specs.Entirely.{of_all, is_undo, stands_in, is_rash, may_be_handed_on, is_afresh, BegunAfresh}
use Rattle.undoing.proofs.Parts.{decide, some-append}
use Rattle.undoing.proofs.Accounts.{phase}
use Rattle.undoing.proofs.Marks.{turned-waits, turned-undoes, turned-heals}
use Rattle.undoing.proofs.Places.{first-of, second-of}
use Rattle.undoing.proofs.Planning.{Promised}
use Rattle.undoing.proofs.Waiting.{quiet-waits}
use Rattle.undoing.proofs.Scoping.{scope_live, scope-done, scope-turned, Running}
use Rattle.undoing.proofs.Stepping.{awake-first, steps, steps-stopped, steps-undoing}
use Rattle.undoing.proofs.Roots.{root-fault, choice-none, Awaited, in-body, in-fault, Standing}
use Rattle.undoing.proofs.Slots.{standing-live, alike-awaited, alike-stands}
use Rattle.undoing.proofs.Happening.{with_message}
use Rattle.undoing.proofs.Truly.{Knows}
use Rattle.undoing.proofs.Entire.{Named}
use Rattle.undoing.proofs.BegunTold.{body-knows, fault-knows}
use Rattle.undoing.proofs.EntirelyTold.{each_below, formed-named}
use Rattle.undoing.proofs.Coming.{in-first, in-later}
use Rattle.undoing.proofs.Choices.{root-chosen}
use Rattle.undoing.proofs.Healing.{only-runs, one-quiet}
use Rattle.undoing.proofs.Lasting.{KnowsEach}
use Rattle.undoing.proofs.Dropping.{body_has, fault-has}
use Rattle.undoing.proofs.Afresh.{New, new-idle, new-again, Fresh, fresh-append, fresh-none, fault-fresh}
use Rattle.undoing.proofs.AfreshSteps.{How, in-it, handed, Again, fresh-more, its-excused, Stood, undoing-calm, ended-calm, live-fresh, waits-fresh, undoes-fresh, fresh-run, fresh-stopped, fresh-undoing, fresh-part}

module _ (p : Plan) (h : Promised p) where
  kb : Knows (kind_at p) p.body 0
  kb = body-knows p h

  kf : Knows (kind_at p) p.fault (size p.body)
  kf = fault-knows p h

  nf : Named (kind_at p) p.fault
  nf = formed-named (kind_at p) h.fault

  -- of each fault part that the root may choose, which is the one
  each-kf : KnowsEach (kind_at p) (root_of p)
  each-kf = root-chosen (λ a j. Knows (kind_at p) a j) p kf

  each-nf : (choice : ℕ) → Named (kind_at p) (chosen_part choice (root_of p))
  each-nf = root-chosen (λ a j. Named (kind_at p) a) p nf

  body-stood : Stood p p.body 0
  body-stood = record { at = λ j x y. in-first p.body (more p.fault none) 0 j (omega arith) }

  fault-stood : Stood p p.fault (size p.body)
  fault-stood =
      record {
        at = λ j x y. in-later p.body (more p.fault none) 0 j (omega arith)
            ∙ (ap (λ (c : ℕ). act_among (more p.fault none) c j) (zero-plus (size p.body)) ∙ in-first p.fault none (size p.body) j y);
      }
    where
      zero-plus : (n : ℕ) → 0 + n ≡ n
      zero-plus n = omega arith

  root-fresh : (actor : Actor) (t : ℕ) (o : Order) → Awaited p o.marks t → Standing p o → Fresh p (kind_at p) (Again p t o.marks (some is_rash (step_root actor p t o).log)) o.marks (step_root actor p t o).log
  unfolding step_root
  root-fresh actor t o (in-body e w) st =
      subst (λ (r : Outcome). Fresh p (kind_at p) (Again p t o.marks (some is_rash r.log)) o.marks r.log)
      (sym (first-of (ltb t (size p.body)) (from_body (root_of p) (step_in actor p.body 0 0 t o)) (from_fault (root_of p) (step_in actor p.fault (size p.body) (size p.body) t o)) (step_root actor p t o) refl (lt-ltb t (size p.body) e))) (go st.runs)
    where
      m : size p.body + size p.fault ≤ length o.marks
      m = st.many

      go : Running (root_of p) o.marks o.root → Fresh p (kind_at p) (Again p t o.marks (some is_rash (from_body (root_of p) (step_in actor p.body 0 0 t o)).log)) o.marks (from_body (root_of p) (step_in actor p.body 0 0 t o)).log
      go (scope_live d r q) =
          live-fresh p actor (kind_at p) t o (Again p t o.marks (some is_rash (from_body (root_of p) (step_in actor p.body 0 0 t o)).log)) (root_of p) h.seat kb each-kf each-nf q (omega arith) (fresh-more (body_has is_rash (root_of p) (step_in actor p.body 0 0 t o)) (fresh-run p actor (kind_at p) t o h.seat.body kb body-stood 0 h.seat.at false w refl r (ap phase d) (omega arith))) (λ r. its-excused p (kind_at p) t o.marks (some is_rash (from_body (root_of p) (step_in actor p.body 0 0 t o)).log) (body_has is_rash (root_of p) (step_in actor p.body 0 0 t o) r)) d r
          (steps p actor h.seat.body 0 t o false h.seat.at w refl r (ap phase d) (omega arith))
      go (scope-done d q z) = absurd (st.going d)
      go (scope-turned (turned-waits {w = a} q z _ v)) =
          waits-fresh p actor (kind_at p) t o (Again p t o.marks (some is_rash (from_body (root_of p) (step_in actor p.body 0 0 t o)).log)) (root_of p) h.seat kb each-kf each-nf v (omega arith) (fresh-more (body_has is_rash (root_of p) (step_in actor p.body 0 0 t o)) (fresh-stopped p actor (kind_at p) t o h.seat.body kb body-stood 0 h.seat.at false w refl z (omega arith))) (λ r. its-excused p (kind_at p) t o.marks (some is_rash (from_body (root_of p) (step_in actor p.body 0 0 t o)).log) (body_has is_rash (root_of p) (step_in actor p.body 0 0 t o) r)) a q z
          (λ d l. ended-calm p actor (kind_at p) t o (some is_rash (from_body (root_of p) (step_in actor p.body 0 0 t o)).log) h.seat.body kb body-stood 0 h.seat.at false w refl z (omega arith) d l)
          (steps-stopped p actor h.seat.body 0 t o false h.seat.at w refl z (omega arith))
      go (scope-turned (turned-undoes {w = a} q z v)) =
          let r₀ = awake-first p actor (λ n. mark_of n o) root h.seat.beyond a q in
          undoes-fresh p actor (kind_at p) t o (Again p t o.marks (some is_rash (from_body (root_of p) (step_in actor p.body 0 0 t o)).log)) (root_of p) h.seat kb each-kf each-nf v (omega arith) (fresh-more (body_has is_rash (root_of p) (step_in actor p.body 0 0 t o)) (fresh-undoing p actor (kind_at p) t o h.seat.body kb body-stood 0 h.seat.at false w refl z root r₀ (a, ap (λ (n : Name). phase (mark_of n o)) r₀ ∙ q) (omega arith))) (λ r. its-excused p (kind_at p) t o.marks (some is_rash (from_body (root_of p) (step_in actor p.body 0 0 t o)).log) (body_has is_rash (root_of p) (step_in actor p.body 0 0 t o) r)) a q
          (λ d. undoing-calm p actor (kind_at p) t o (some is_rash (from_body (root_of p) (step_in actor p.body 0 0 t o)).log) h.seat.body body-stood 0 h.seat.at false w refl z root r₀ (a, ap (λ (n : Name). phase (mark_of n o)) r₀ ∙ q) (omega arith) d)
          (steps-undoing p actor h.seat.body 0 t o false h.seat.at w refl z root r₀ (a, ap (λ (n : Name). phase (mark_of n o)) r₀ ∙ q) (omega arith))
      go (scope-turned (turned-heals q z v)) = absurd (quiet-waits w refl z)
  root-fresh actor t o (in-fault e w) st =
      subst (λ (r : Outcome). Fresh p (kind_at p) (Again p t o.marks (some is_rash r.log)) o.marks r.log)
      (sym (second-of (ltb t (size p.body)) (from_body (root_of p) (step_in actor p.body 0 0 t o)) (from_fault (root_of p) (step_in actor p.fault (size p.body) (size p.body) t o)) (step_root actor p t o) refl (le-ltb t (size p.body) e))) (go st.runs)
    where
      m : size p.body + size p.fault ≤ length o.marks
      m = st.many

      go : Running (root_of p) o.marks o.root → Fresh p (kind_at p) (Again p t o.marks (some is_rash (from_fault (root_of p) (step_in actor p.fault (size p.body) (size p.body) t o)).log)) o.marks (from_fault (root_of p) (step_in actor p.fault (size p.body) (size p.body) t o)).log
      go (scope_live d r q) = absurd (quiet-waits w refl (one-quiet p.fault q))
      go (scope-done d q z) = absurd (st.going d)
      go (scope-turned (turned-waits q z _ v)) = absurd (quiet-waits w refl (one-quiet p.fault v))
      go (scope-turned (turned-undoes q z v)) = absurd (quiet-waits w refl (one-quiet p.fault v))
      go (scope-turned (turned-heals q z v)) =
          fault-fresh p (kind_at p) (Again p t o.marks (some is_rash (from_fault (root_of p) (step_in actor p.fault (size p.body) (size p.body) t o)).log)) o.marks (root_of p) (step_in actor p.fault (size p.body) (size p.body) t o) (fresh-more (fault-has is_rash (root_of p) (step_in actor p.fault (size p.body) (size p.body) t o)) (fresh-part p actor (kind_at p) t o (root-fault h.seat) kf fault-stood (size p.body) tt false w refl (only-runs v (choice-none o.root)) q (omega arith)))

  pub order-fresh : (actor : Actor) (t : ℕ) (o : Order) → Awaited p o.marks t → Standing p o → Fresh p (kind_at p) (Again p t o.marks (some is_rash (acted actor p t o).log)) o.marks (acted actor p t o).log
  unfolding acted moved_to some is_began_of
  order-fresh actor t o a st = go (end_of (step_root actor p t o))
    where
      w : Fresh p (kind_at p) (Again p t o.marks (some is_rash (step_root actor p t o).log)) o.marks (step_root actor p t o).log
      w = root-fresh actor t o a st

      go : (e : End) → Fresh p (kind_at p) (Again p t o.marks (some is_rash (moved_to (step_root actor p t o) e).log)) o.marks (moved_to (step_root actor p t o) e).log
      go None = w
      go Well =
          let l = (step_root actor p t o).log in
          let r = Again p t o.marks (some is_rash (l ++ (ended root ∷ []))) in
          fresh-append p (kind_at p) r o.marks l (ended root ∷ []) (fresh-more (λ e. some-append is_rash l (ended root ∷ []) ∙ rw e) w) (fresh-none p (kind_at p) r o.marks (ended root ∷ []) (λ j. refl))
      go Handled = w
      go Failed = w
      go Left = w

  -- as the test has it
  is-afresh : (x : Taken) (k : ℕ) → is_live x.before ≡ true → Fresh p (kind_at p) (Again p x.activity x.before.marks (some is_rash x.log)) x.before.marks x.log → is_afresh p x k ≡ true
  unfolding is_afresh
  is-afresh x k l w = decide (has_began k x.log) (λ b. rw (b, l) (so (w.at k b))) (λ b. rw b)
    where
      by : How p x.activity x.before.marks (some is_rash x.log) k → (stands_in p x k || (some is_rash x.log && may_be_handed_on p x k)) ≡ true
      by (in-it a b) = rw (le-leb k x.activity a, lt-ltb x.activity (k + size (act_at p k)) b)
      by (handed r e) = rw (r, e, or-true)

      so : New p (kind_at p) (Again p x.activity x.before.marks (some is_rash x.log)) x.before.marks k → (eqb (get_or x.before.marks k 0) idle || (is_undo (place_of p k) && (stands_in p x k || (some is_rash x.log && may_be_handed_on p x k)))) ≡ true
      so (new-idle e) = rw e
      so (new-again e) = rw (e.place, by e.how, or-true)

  is-first : (x : Taken) (k : ℕ) → is_live x.before ≡ false → is_afresh p x k ≡ true
  unfolding is_afresh
  is-first x k l = rw (l, or-true)

  afresh-time : OfTimes p (of_all is_afresh p)
  afresh-time actor t o o' past like a st g =
      let x = time t o [] (acted actor p t o') in
      each_below (is_afresh p x) (size p.body + size p.fault) (λ k n. is-afresh x k (standing-live p o st)
      (subst (λ (ms : List ℕ). Fresh p (kind_at p) (Again p t ms (some is_rash (acted actor p t o').log)) ms (acted actor p t o').log) like.marks (order-fresh actor t o' (alike-awaited like t a) (alike-stands p o o' like st))))

  afresh-start : OfStarts p (of_all is_afresh p)
  afresh-start t m o past z n a =
      let x = time t o (started ∷ (begun_order p).log) (acted its_own p t (with_message p t m (started_order p))) in
      each_below (is_afresh p x) (size p.body + size p.fault) (λ k i. is-first x k z)

-- What begins begins afresh.
pub begun-afresh : BegunAfresh
unfolding BegunAfresh
begun-afresh = each-time (of_all is_afresh) afresh-time afresh-start
