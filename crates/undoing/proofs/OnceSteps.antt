-- What lasts begins at most once in a step of an order that stands. Assumes nothing.
use Prim.Native.Nat.{ℕ, zero, suc, ◌+◌, ◌≤◌, ◌<◌}
use native.Mathlib.Omega.{arith}
use mathlib.Core.Path.{◌≡◌, refl, sym, ap, subst, ◌∙◌}
use mathlib.Core.Bool.{Bool, true, false, cond, not, ◌&&◌, ◌||◌, false≢true, or-true}
use mathlib.Core.List.{List, [], ◌∷◌, ◌++◌}
use lib.ListN.{length, get_or}
use lib.Dec.{eqb, ltb, leb}
use borrow.Author.Tests.{eqb-true, eqb-false, eq-eqb, ne_eqb, ltb-true, ltb-false, lt-ltb, le-ltb, leb-true, leb-false}
use Rattle.plan.specs.Tree.{Own, kind, Act, act, Acts, none, more, Plan, size, sizes, count, scope, flow, is_scope, is_pick, general_part, undo_part}
use Rattle.order.specs.declared.Order.{Order}
use Rattle.order.specs.State.{Name, root, inner, idle, active, faulty, halted, done, withdrawing, state_in, choice_in, mark_of}
use Rattle.order.specs.Event.{Event}
use Rattle.order.specs.Begin.{part, part_at}
use Rattle.order.specs.declared.Way.{Way as Result}
use Rattle.order.specs.declared.Way.TheVariants.{Running as running, Over as over, Raising as raising, Leaving as leaving, Undone as undone, UndoRaising as undo_raising}
use Rattle.order.specs.Scope.{Outcome, Scope, scope_at, root_of, inner_runs, from_body, from_fault, from_undo, closing}
use Rattle.order.specs.Acting.{is_part, arms, combines, step_in, step_among, step_root, Actor, performs}
use Rattle.machine.specs.Fit.{awaits}
use Rattle.undoing.specs.Ties.{Place, body_of, undo_of, name_of, beyond_of, last_of}
use Rattle.undoing.specs.Begun.{lasts, has_began}
use Rattle.undoing.specs.Entirely.{times}
use Rattle.undoing.specs.Standing.{choice_on}
use Rattle.undoing.proofs.Parts.{both, decide}
use Rattle.undoing.proofs.Choices.{general-there}
use Rattle.undoing.proofs.Accounts.{Phase, live, waits, heals, phase}
use Rattle.undoing.proofs.Moves.{runner_at}
use Rattle.undoing.proofs.Places.{first-of, second-of}
use Rattle.undoing.proofs.Marks.{trio, Quiet, Kept, Nth, Run, run-awaits, run-one, run-all, run-body, run-done, run-turned, One, one-here, one_later, All, all-run, all_quiet, Turned, turned-waits, turned-undoes, turned-heals, Stopped, stopped-part, stopped-quiet, stopped-scope, StoppedIn, stopped_more, Undoing, undoing-part, undoing-scope, undoing-through, UndoingIn, undoing-here, undoing-later, quiet-part, turned-not-open, turned-not-rest}
use Rattle.undoing.proofs.Orders.{Fit, Sits, sits-part, sits-scope, SitsIn, sits-more, Remedy, remedy, Healers, heals-by, heals-all, Rest, rest-undo, rest-none, sits-none}
use Rattle.undoing.proofs.Remedies.{nth-there, nth-run, chosen-most, choice-on}
use Rattle.undoing.proofs.Seats.{Seat, mark-kept, stopped-rests}
use Rattle.undoing.proofs.Stopping.{seat-of}
use Rattle.undoing.proofs.Waiting.{opens, Waits, waits-itself, waits-within, WaitsIn, waits-first, waits-later, waits-from, opens-idle, quiet-waits, quiet-waits-in, nth-waits, stopped-waits, undoing-waits}
use Rattle.undoing.proofs.Scoping.{Acted, RunAs, StopAs, UndoAs, state-open}
use Rattle.undoing.proofs.Combining.{arms-held, arms_none}
use Rattle.undoing.proofs.Stepping.{through-is, awake-first, steps, steps-stopped, steps-undoing, steps-part, opens-held, stopped-part-not, undoing-part-not, body-step, fault-step, undo-step, Whole, Its}
use Rattle.undoing.proofs.Truly.{Up, Arms, needs, Knows, knows, KnowsIn, knows-none, knows_more}
use Rattle.undoing.proofs.Lasting.{is_raising, KnowsEach, each-knows}
use Rattle.undoing.proofs.Keeping as keeping
use Rattle.undoing.proofs.Entering.{Strict, StepsAt, step-at}
use Rattle.undoing.proofs.Single.{Once, Light, once-none, looks-none, looks-still}
use Rattle.undoing.proofs.OnceTold.{none-times, is_going, Rests, rests-still, rests-light, body-once, fault-once, performs-once, combines-once, own-once}

-- a mark of one phase is none of another
other-mark : (m v : ℕ) (q : Phase) → phase m ≡ q → (phase v ≡ q → ⊥) → eqb m v ≡ false
other-mark m v q e f = decide (eqb m v) (λ t. absurd (f (ap phase (sym (eqb-true m v t)) ∙ e))) (λ t. t)

-- one that undoes is not faulty
not-faulty : (m : ℕ) (v : Bool) → phase m ≡ Phase.undoes v → eqb (state_in m) faulty ≡ false
not-faulty m v e =
    decide (eqb (state_in m) faulty)
    (λ t. absurd (let z : waits true ≡ Phase.undoes v = rw (state-open m faulty t (omega arith), t) at e in let x : ◌≡◌ {A = ℕ} 0 1 = cc in omega arith))
    (λ t. t)

-- what awaits where all is quiet is one of the list
quiet-is-part : {ms : List ℕ} {l : Acts} {c t : ℕ} {b : Bool} → WaitsIn ms l c t b → Quiet ms c (sizes l) → is_part l c t ≡ true
unfolding is_part size
quiet-is-part (waits-first {c = c} {t} h (waits-itself e d)) q = rw (eq-eqb c t e)
quiet-is-part {ms} (waits-first {a = act own within} {c = c} h (waits-within g w)) q =
    absurd (quiet-waits-in w (opens-idle own (get_or ms c 0) (q.at c (omega arith) (omega arith))) (quiet-part q (omega arith) (omega arith)))
quiet-is-part (waits-later {a} {l} {c} {t} h w) q = rw (quiet-is-part w (quiet-part q (omega arith) (omega arith)), or-true)

module _ (p : Plan) (actor : Actor) (f : ℕ → ℕ) where
  -- where all is quiet after a step, nothing that lasts began in it
  quiet-light : {a : Act} {k : ℕ} → Knows f a k → (y₀ t : ℕ) (o : Order) → k ≤ t → k + size a ≤ length o.marks → Quiet (step_in actor a y₀ k t o).order.marks k (size a) → Light f (step_in actor a y₀ k t o).log
  quiet-light {a} {k} x y₀ t o h m q =
      record {
        at = λ j n. decide (has_began j (step_in actor a y₀ k t o).log)
            (λ b. decide (leb j k)
            (λ c. (step-at f t actor x y₀ o h).strict.below j (leb-so j k c))
            (λ c. decide (ltb j (k + size a))
            (λ d. absurd (false≢true (sym ((keeping.step-steps f actor x y₀ t o m).truly j n b) ∙ ap (λ (v : ℕ). eqb v idle) (q.at j (leb-not j k c) (ltb-true j (k + size a) d)))))
            (λ d. (step-at f t actor x y₀ o h).strict.above j (ltb-false j (k + size a) d))))
            (λ b. none-times j (step_in actor a y₀ k t o).log b);
      }
    where
      leb-so : (j k : ℕ) → leb j k ≡ true → j ≤ k
      leb-so j k e = leb-true j k e

      leb-not : (j k : ℕ) → leb j k ≡ false → k ≤ j
      leb-not j k e = let z = leb-false j k e in omega arith

  raise-none : {a : Act} {k : ℕ} → Knows f a k → (y₀ t : ℕ) (o : Order) → k + size a ≤ length o.marks → is_raising (step_in actor a y₀ k t o).result ≡ true → (j : ℕ) → times j (step_in actor a y₀ k t o).log ≡ 0
  raise-none {a} {k} x y₀ t o m e j = none-times j (step_in actor a y₀ k t o).log ((keeping.step-steps f actor x y₀ t o m).quits e j)

  -- A scope, whose body has a step.
  module _ (s : Scope) (h : Seat p s) (kb : Knows f s.body s.body_at) (kf : KnowsEach f s) (t : ℕ) (o : Order) (i : s.body_at ≤ t) (m : s.body_at + size s.body ≤ length o.marks)
      (w : Once f (step_in actor s.body s.body_at s.body_at t o).log) where
    abbrev pub its : Outcome
    its = step_in actor s.body s.body_at s.body_at t o

    its-mark : {C : List Event → Order → Result → Type 0} → Acted s.body_at (size s.body) o C its → mark_of s.name its.order ≡ mark_of s.name o
    its-mark v = mark-kept s.name s.body_at o its.order h.before (omega arith) v.rooted v.kept

    pub live-body : mark_of s.name o ≡ active → Acted s.body_at (size s.body) o (RunAs p s.body s.body_at t o) its → Once f (from_body s its).log
    live-body e v =
        body-once f s kb kf its (omega (arith, v.kept.many)) w
        (λ g. rests-still (looks-still f s kb kf its.order (rw (its-mark v ∙ e)) (rw (its-mark v ∙ e))))
        (λ g. absurd (subst (λ (x : Result). RunAs p s.body s.body_at t o its.log its.order x) g v.comes))
        (raise-none kb s.body_at t o m)

    stopped-of : (x : Result) → is_going x ≡ true → StopAs p s.body s.body_at o its.log its.order x → Stopped its.order.marks s.body s.body_at
    stopped-of running g c = c.0
    stopped-of over g c = c.0
    stopped-of (raising x) g c = absurd (false≢true g)
    stopped-of leaving g c = absurd (false≢true g)
    stopped-of undone g c = absurd (false≢true g)
    stopped-of (undo_raising x) g c = absurd (false≢true g)

    pub waits-body : Acted s.body_at (size s.body) o (StopAs p s.body s.body_at o) its → Once f (from_body s its).log
    waits-body v =
        body-once f s kb kf its (omega (arith, v.kept.many)) w
        (λ g. decide (inner_runs s.body s.body_at its.order.marks)
        (λ d. rests-still (looks-none f s kb kf its.order d))
        (λ d. rests-light (quiet-light kb s.body_at t o i m (stopped-rests (stopped-of its.result g v.comes) d))))
        (λ g. absurd (subst (λ (x : Result). StopAs p s.body s.body_at o its.log its.order x) g v.comes))
        (raise-none kb s.body_at t o m)

    pub undoing-body : (v : Bool) → phase (mark_of s.name o) ≡ Phase.undoes v → Acted s.body_at (size s.body) o (UndoAs p s.name s.body s.body_at t o) its → Once f (from_body s its).log
    undoing-body x e v =
        body-once f s kb kf its (omega (arith, v.kept.many)) w
        (λ g. rests-still (looks-still f s kb kf its.order
        (not-faulty (mark_of s.name its.order) x (ap phase (its-mark v) ∙ e))
        (other-mark (mark_of s.name its.order) halted (Phase.undoes x) (ap phase (its-mark v) ∙ e) (λ d. let z : ◌≡◌ {A = ℕ} 0 1 = cc in omega arith))))
        (λ g. quiet-light kb s.body_at t o i m (subst (λ (y : Result). UndoAs p s.name s.body s.body_at t o its.log its.order y) g v.comes).0)
        (raise-none kb s.body_at t o m)

  -- An activity other than a scope.
  step-once : (own : Own) (within : Acts) (y₀ k t : ℕ) (o o₁ : Order) → (k ≡ t → ⊥) → arms own within k t o ≡ o₁ → Once f (combines own within k t (step_among actor within (is_scope own) y₀ (k + 1) t o₁)).log → Once f (step_in actor (act own within) y₀ k t o).log
  unfolding step_in
  step-once own within y₀ k t o o₁ n e w =
      subst (λ (q : Outcome). Once f q.log) (sym (second-of (eqb k t) (performs actor own within y₀ k o) (combines own within k t (step_among actor within (is_scope own) y₀ (k + 1) t (arms own within k t o))) (step_in actor (act own within) y₀ k t o) refl (ne_eqb k t n)))
      (subst (λ (q : Order). Once f (combines own within k t (step_among actor within (is_scope own) y₀ (k + 1) t q)).log) (sym e) w)

  itself-once : (own : Own) (within : Acts) (y₀ k t : ℕ) (o : Order) → k ≡ t → needs own ≤ count within → KnowsIn f within (k + 1) → Once f (step_in actor (act own within) y₀ k t o).log
  unfolding step_in
  itself-once own within y₀ k t o e n y =
      subst (λ (q : Outcome). Once f q.log) (sym (first-of (eqb k t) (performs actor own within y₀ k o) (combines own within k t (step_among actor within (is_scope own) y₀ (k + 1) t (arms own within k t o))) (step_in actor (act own within) y₀ k t o) refl (eq-eqb k t e)))
      (performs-once f actor own within y₀ k o n y)

  part-once : (own : Own) (within : Acts) (y₀ k t : ℕ) (o : Order) (b : Bool) → is_scope own ≡ false → needs own ≤ count within → Arms (is_pick own) within → KnowsIn f within (k + 1)
      → Waits o.marks (act own within) k t b → Run o.marks (act own within) k
      → ((c : Bool) → WaitsIn o.marks within (k + 1) t c → c ≡ false → One o.marks within (k + 1) → Once f (step_among actor within (is_scope own) y₀ (k + 1) t o).log)
      → ((c : Bool) → WaitsIn o.marks within (k + 1) t c → c ≡ false → All o.marks within (k + 1) → Once f (step_among actor within (is_scope own) y₀ (k + 1) t o).log)
      → Once f (step_in actor (act own within) y₀ k t o).log
  unfolding kind
  part-once own within y₀ k t o b s n r z (waits-itself e d) run i j = itself-once own within y₀ k t o e n z
  part-once own within y₀ k t o b s n r z (waits-within h w) (run-awaits s₁ y x q) i j =
      let g = quiet-is-part w q in
      step-once own within y₀ k t o (arms own within k t o) (λ e. omega arith) refl (combines-once f actor own within y₀ k t (arms own within k t o) s r z (omega arith) (own-once f actor z (is_scope own) y₀ t (arms own within k t o) g))
  part-once own within y₀ k t o b s n r z (waits-within h w) (run-one s₁ x y) i j =
      step-once own within y₀ k t o o (λ e. omega arith) (arms-held own within k t o x) (combines-once f actor own within y₀ k t o s r z (omega arith) (i (opens own (get_or o.marks k 0)) w (opens-held p actor own (get_or o.marks k 0) x) y))
  part-once flow within y₀ k t o b s n r z (waits-within h w) (run-all x y a) i j =
      step-once flow within y₀ k t o o (λ e. omega arith) (arms-held flow within k t o x) (combines-once f actor flow within y₀ k t o s r z (omega arith) (j (opens flow (get_or o.marks k 0)) w refl y))
  part-once own within y₀ k t o b s n r z (waits-within h w) (run-body x y q) i j = absurd (false≢true (sym s))
  part-once own within y₀ k t o b s n r z (waits-within h w) (run-done x q) i j = absurd (false≢true (sym s))
  part-once own within y₀ k t o b s n r z (waits-within h w) (run-turned x) i j = absurd (false≢true (sym s))

  first-once : (a : Act) (l : Acts) (v₀ : Bool) (y₀ c t : ℕ) (o : Order) → t < c + size a → Once f (step_in actor a (cond v₀ c y₀) c t o).log → Once f (step_among actor (more a l) v₀ y₀ c t o).log
  unfolding step_in
  first-once a l v₀ y₀ c t o h w = subst (λ (q : Outcome). Once f q.log) (sym (first-of (ltb t (c + size a)) (step_in actor a (cond v₀ c y₀) c t o) (step_among actor l v₀ y₀ (c + size a) t o) (step_among actor (more a l) v₀ y₀ c t o) refl (lt-ltb t (c + size a) h))) w

  later-once : (a : Act) (l : Acts) (v₀ : Bool) (y₀ c t : ℕ) (o : Order) → c + size a ≤ t → Once f (step_among actor l v₀ y₀ (c + size a) t o).log → Once f (step_among actor (more a l) v₀ y₀ c t o).log
  unfolding step_in
  later-once a l v₀ y₀ c t o h w = subst (λ (q : Outcome). Once f q.log) (sym (second-of (ltb t (c + size a)) (step_in actor a (cond v₀ c y₀) c t o) (step_among actor l v₀ y₀ (c + size a) t o) (step_among actor (more a l) v₀ y₀ c t o) refl (le-ltb t (c + size a) h))) w

  -- the step of a fault part of scope k, the i-th after its body
  abbrev HealOnce : (numbers : List ℕ) → Acts → (c k t : ℕ) → Order → Type 0
  HealOnce xs l c k t o =
      (i : ℕ) → i ≤ length xs → (x : Bool) → Waits o.marks (part i l) (part_at i l c) t x → x ≡ false → Run o.marks (part i l) (part_at i l c) → phase (get_or o.marks k 0) ≡ heals
      → Once f (step_in actor (part i l) (part_at i l c) (part_at i l c) t o).log

  -- A scope that has turned.
  turned-once : {n : Name} {ns : List Name} (xs : List ℕ) (z₀ : Bool) (b g : Act) (u : Acts) (y₀ k t : ℕ) (o : Order) → Seat p (scope_at xs k (trio b g u)) → Sits p (body_of (inner k) ns n) b (k + 1) → (kb : Knows f b (k + 1)) (kf : KnowsEach f (scope_at xs k (trio b g u)))
      → k + (1 + (size b + (size g + sizes u))) ≤ length o.marks
      → k < t → WaitsIn o.marks (trio b g u) (k + 1) t false → Turned o.marks xs (get_or o.marks k 0) b (k + 1) (more g u) (k + 1 + size b)
      → ((x : Bool) → Waits o.marks b (k + 1) t x → x ≡ false → Stopped o.marks b (k + 1) → Once f (step_in actor b (k + 1) (k + 1) t o).log)
      → ((x : Bool) → Waits o.marks b (k + 1) t x → x ≡ false → Undoing o.marks b (k + 1) → (v : Bool) → phase (get_or o.marks k 0) ≡ Phase.undoes v → Once f (step_in actor b (k + 1) (k + 1) t o).log)
      → HealOnce xs (more g u) (k + 1 + size b) k t o
      → Once f (step_in actor (act (scope xs z₀) (trio b g u)) y₀ k t o).log
  unfolding size part part_at Its Whole
  turned-once xs z₀ b g u y₀ k t o h sb kb kf m i (waits-first e w) (turned-waits q z n y) j l v =
      let a = steps-stopped p actor sb (k + 1) t o false refl w refl z (omega arith) in
      subst (λ (d : Outcome). Once f d.log) (sym (body-step p actor xs z₀ b g u y₀ k t (get_or o.marks k 0) o i e (a.kept.below k (omega arith)) (turned-not-rest (turned-waits {xs = xs} {l = more g u} q z n y))))
      (waits-body (scope_at xs k (trio b g u)) h kb kf t o (waits-from w) (omega arith) (j false w refl z) a)
  turned-once {ns = ns} xs z₀ b g u y₀ k t o h sb kb kf m i (waits-first e w) (turned-undoes {w = a} q z y) j l v =
      let r = awake-first p actor (λ n. mark_of n o) (inner k) ns a q in
      let c = steps-undoing p actor sb (k + 1) t o false refl w refl z (inner k) r (a, ap (λ (n : Name). phase (mark_of n o)) r ∙ q) (omega arith) in
      subst (λ (d : Outcome). Once f d.log) (sym (body-step p actor xs z₀ b g u y₀ k t (get_or o.marks k 0) o i e (c.kept.below k (omega arith)) (turned-not-rest (turned-undoes {xs = xs} {l = more g u} q z y))))
      (undoing-body (scope_at xs k (trio b g u)) h kb kf t o (waits-from w) (omega arith) (l false w refl z a q) a q c)
  turned-once xs z₀ b g u y₀ k t o h sb kb kf m i (waits-first e w) (turned-heals q z y) j l v = absurd (quiet-waits w refl z)
  turned-once xs z₀ b g u y₀ k t o h sb kb kf m i (waits-later d w) (turned-waits q z _ y) j l v = absurd (quiet-waits-in w refl y)
  turned-once xs z₀ b g u y₀ k t o h sb kb kf m i (waits-later d w) (turned-undoes q z y) j l v = absurd (quiet-waits-in w refl y)
  turned-once xs z₀ b g u y₀ k t o h sb kb kf m i (waits-later d w) (turned-heals q z r) j l v =
      let i₀ = choice_on xs (get_or o.marks k 0) in
      let n : i₀ ≤ length xs = omega (arith, choice-on xs (get_or o.marks k 0) _ refl, chosen-most xs (choice_in (get_or o.marks k 0))) in
      let x = nth-waits r w refl in
      subst (λ (d : Outcome). Once f d.log) (sym (fault-step p actor xs z₀ b g u y₀ k i₀ t o n (nth-there r) x.0 x.1))
      (fault-once f (scope_at xs k (trio b g u)) kb kf _ (v i₀ n false x.2 refl (nth-run r) q))

  -- A scope whose body runs.
  live-once : {n : Name} {ns : List Name} (xs : List ℕ) (z₀ : Bool) (b g : Act) (u : Acts) (y₀ k t : ℕ) (o : Order) → Seat p (scope_at xs k (trio b g u)) → Sits p (body_of (inner k) ns n) b (k + 1) → (kb : Knows f b (k + 1)) (kf : KnowsEach f (scope_at xs k (trio b g u)))
      → k + (1 + (size b + (size g + sizes u))) ≤ length o.marks
      → k < t → WaitsIn o.marks (trio b g u) (k + 1) t false → get_or o.marks k 0 ≡ active → Run o.marks b (k + 1) → Quiet o.marks (k + 1 + size b) (size g + sizes u)
      → (Waits o.marks b (k + 1) t false → Once f (step_in actor b (k + 1) (k + 1) t o).log) → Once f (step_in actor (act (scope xs z₀) (trio b g u)) y₀ k t o).log
  unfolding size part part_at Its Whole
  live-once xs z₀ b g u y₀ k t o h sb kb kf m i (waits-first e w) x r q j =
      let a = steps p actor sb (k + 1) t o false refl w refl r (ap phase x) (omega arith) in
      subst (λ (d : Outcome). Once f d.log) (sym (body-step p actor xs z₀ b g u y₀ k t active o i e (a.kept.below k (omega arith) ∙ x) (λ n. absurd (omega (arith, n)))))
      (live-body (scope_at xs k (trio b g u)) h kb kf t o (waits-from w) (omega arith) (j w) x a)
  live-once xs z₀ b g u y₀ k t o h sb kb kf m i (waits-later d w) x r q j = absurd (quiet-waits-in w refl q)

  -- A scope, by how it stands.
  module _ {n : Name} {ns : List Name} (xs : List ℕ) (z₀ : Bool) (b g : Act) (u : Acts) (y₀ k t : ℕ) (o : Order) (h : Seat p (scope_at xs k (trio b g u))) (sb : Sits p (body_of (inner k) ns n) b (k + 1)) (kb : Knows f b (k + 1))
      (kl : KnowsIn f (more g u) (k + 1 + size b)) (nn : needs (scope xs z₀) ≤ count (trio b g u)) (m : k + (1 + (size b + (size g + sizes u))) ≤ length o.marks)
      (hs : (x : Bool) → Waits o.marks b (k + 1) t x → x ≡ false → Stopped o.marks b (k + 1) → Once f (step_in actor b (k + 1) (k + 1) t o).log)
      (hu : (x : Bool) → Waits o.marks b (k + 1) t x → x ≡ false → Undoing o.marks b (k + 1) → (v : Bool) → phase (get_or o.marks k 0) ≡ Phase.undoes v → Once f (step_in actor b (k + 1) (k + 1) t o).log)
      (hf : HealOnce xs (more g u) (k + 1 + size b) k t o) where
    its-parts : KnowsEach f (scope_at xs k (trio b g u))
    unfolding needs
    its-parts = each-knows f xs k (general-there (scope xs z₀) (count (trio b g u)) nn) (knows_more kb kl)

    scope-run : {c : Bool} → Waits o.marks (act (scope xs z₀) (trio b g u)) k t c → Run o.marks (act (scope xs z₀) (trio b g u)) k
        → (Waits o.marks b (k + 1) t false → Run o.marks b (k + 1) → get_or o.marks k 0 ≡ active → Once f (step_in actor b (k + 1) (k + 1) t o).log)
        → Once f (step_in actor (act (scope xs z₀) (trio b g u)) y₀ k t o).log
    unfolding size
    scope-run (waits-itself e d) run j = itself-once (scope xs z₀) (trio b g u) y₀ k t o e nn (knows_more kb kl)
    scope-run (waits-within e w) (run-awaits s _ x z) j = absurd (false≢true (sym s))
    scope-run (waits-within e w) (run-one s x z) j = absurd (false≢true (sym s))
    scope-run (waits-within e w) (run-body x z q) j = live-once xs z₀ b g u y₀ k t o h sb kb its-parts m e w x z q (λ w₁. j w₁ z x)
    scope-run (waits-within e w) (run-done x z) j = absurd (quiet-waits-in w refl (quiet-part z (omega arith) (omega arith)))
    scope-run (waits-within e w) (run-turned x) j = turned-once xs z₀ b g u y₀ k t o h sb kb its-parts m e w x hs hu hf

    scope-stopped : {c : Bool} → Waits o.marks (act (scope xs z₀) (trio b g u)) k t c → c ≡ false → Stopped o.marks (act (scope xs z₀) (trio b g u)) k
        → Once f (step_in actor (act (scope xs z₀) (trio b g u)) y₀ k t o).log
    unfolding size
    scope-stopped w q (stopped-part s _ j) = absurd (false≢true (sym s))
    scope-stopped w q (stopped-quiet j) = absurd (quiet-waits w q j)
    scope-stopped (waits-itself e d) q (stopped-scope x) = itself-once (scope xs z₀) (trio b g u) y₀ k t o e nn (knows_more kb kl)
    scope-stopped (waits-within e w) q (stopped-scope x) = turned-once xs z₀ b g u y₀ k t o h sb kb its-parts m e w x hs hu hf

  -- one whose undo part runs, and one that was looked through
  scope-undoes : {c : Bool} (xs : List ℕ) (b g : Act) (u : Acts) (y₀ k t : ℕ) (o : Order) → KnowsIn f (trio b g u) (k + 1) → needs (scope xs true) ≤ count (trio b g u)
      → Waits o.marks (act (scope xs true) (trio b g u)) k t c → Nth o.marks (undo_part xs) (trio b g u) (k + 1)
      → (Waits o.marks (part (undo_part xs) (trio b g u)) (part_at (undo_part xs) (trio b g u) (k + 1)) t false
      → Once f (step_in actor (part (undo_part xs) (trio b g u)) (part_at (undo_part xs) (trio b g u) (k + 1)) (part_at (undo_part xs) (trio b g u) (k + 1)) t o).log)
      → Once f (step_in actor (act (scope xs true) (trio b g u)) y₀ k t o).log
  unfolding size Its Whole from_undo
  scope-undoes xs b g u y₀ k t o kn n (waits-itself e d) j i = itself-once (scope xs true) (trio b g u) y₀ k t o e n kn
  scope-undoes xs b g u y₀ k t o kn n (waits-within e w) j i =
      let z = nth-waits j w refl in
      subst (λ (q : Outcome). Once f q.log) (sym (undo-step p actor xs b g u y₀ k t o (nth-there j) z.0 z.1)) (i z.2)

  scope-through : {c : Bool} {m₀ : Name} (xs : List ℕ) (b g : Act) (u : Acts) (y₀ k t : ℕ) (o : Order) → KnowsIn f (trio b g u) (k + 1) → needs (scope xs false) ≤ count (trio b g u)
      → Waits o.marks (act (scope xs false) (trio b g u)) k t c → get_or o.marks k 0 ≡ idle → Quiet o.marks (k + 1 + size b) (size g + sizes u)
      → (Waits o.marks b (k + 1) t false → Acted (k + 1) (size b) o (UndoAs p m₀ b (k + 1) t o) (step_in actor b (k + 1) (k + 1) t o))
      → (Waits o.marks b (k + 1) t false → Once f (step_in actor b (k + 1) (k + 1) t o).log)
      → Once f (step_in actor (act (scope xs false) (trio b g u)) y₀ k t o).log
  unfolding size
  scope-through xs b g u y₀ k t o kn n (waits-itself e d) x j a i = itself-once (scope xs false) (trio b g u) y₀ k t o e n kn
  scope-through {m₀ = m₀} xs b g u y₀ k t o kn n (waits-within e (waits-first d w)) x j a i =
      subst (λ (q : Outcome). Once f q.log) (sym (through-is p actor xs b g u y₀ k t m₀ o x e d (a w))) (i w)
  scope-through xs b g u y₀ k t o kn n (waits-within e (waits-later d w)) x j a i = absurd (quiet-waits-in w refl j)

  mutual
    unfolding size part part_at

    pub once-run : {x : Place} {a : Act} {k : ℕ} → Sits p x a k → Knows f a k → (y₀ t : ℕ) (o : Order) (b : Bool) → Waits o.marks a k t b → b ≡ false → Run o.marks a k → Fit x o → k + size a ≤ length o.marks
        → Once f (step_in actor a y₀ k t o).log
    once-run (sits-part {q = x} {own} {within} {k} s g u y l) (knows e n r z) y₀ t o b w q run v m =
        part-once own within y₀ k t o b s n r z w run (λ c w₁ e₁ r₁. once-one l z (is_scope own) y₀ t o c w₁ e₁ r₁ v (omega arith)) (λ c w₁ e₁ r₁. once-all l z (is_scope own) y₀ t o c w₁ e₁ r₁ v (omega arith))
    once-run (sits-scope {xs} {v = z₀} {n} {c = a} {ns} {b} {f = g} {u} {k} kn d i sb y) (knows e n₁ r (knows_more kb kl)) y₀ t o c w q run v m =
        scope-run xs z₀ b g u y₀ k t o (seat-of kn d i sb y) sb kb kl n₁ m
        (λ x w₁ e₁ r₁. once-stopped sb kb (k + 1) t o x w₁ e₁ r₁ (omega arith))
        (λ x w₁ e₁ r₁ v z. let r = awake-first p actor (λ n. mark_of n o) (inner k) (cond z₀ [] (n ∷ ns)) v z in
        once-undoing sb kb (k + 1) t o x w₁ e₁ r₁ (inner k) r (v, ap (λ (n : Name). phase (mark_of n o)) r ∙ z) (omega arith))
        (λ i₀ n₀ x w₁ e₁ r₁ z. once-healers y kl i₀ t o x n₀ w₁ e₁ r₁ z (omega arith))
        w run (λ w₁ r₁ x. once-run sb kb (k + 1) t o false w₁ refl r₁ (ap phase x) (omega arith))

    once-one : {x : Place} {l : Acts} {c : ℕ} → SitsIn p x l c → KnowsIn f l c → (v₀ : Bool) (y₀ t : ℕ) (o : Order) (b : Bool) → WaitsIn o.marks l c t b → b ≡ false → One o.marks l c → Fit x o → c + sizes l ≤ length o.marks
        → Once f (step_among actor l v₀ y₀ c t o).log
    once-one (sits-none {q = q} {c = c}) _ v₀ y₀ t o b z e _ v m = elim z [ ]
    once-one (sits-more {q = x} {a} {l} {c} s y) (knows_more z n) v₀ y₀ t o b (waits-first h w) e (one-here r q) v m = first-once a l v₀ y₀ c t o h (once-run s z (cond v₀ c y₀) t o b w e r v (omega arith))
    once-one (sits-more {q = x} {a} {l} {c} s y) (knows_more z n) v₀ y₀ t o b (waits-later h w) e (one-here r q) v m = absurd (quiet-waits-in w e q)
    once-one (sits-more {q = x} {a} {l} {c} s y) (knows_more z n) v₀ y₀ t o b (waits-first h w) e (one_later q r) v m = absurd (quiet-waits w e q)
    once-one (sits-more {q = x} {a} {l} {c} s y) (knows_more z n) v₀ y₀ t o b (waits-later h w) e (one_later q r) v m = later-once a l v₀ y₀ c t o h (once-one y n v₀ y₀ t o b w e r v (omega arith))

    once-all : {x : Place} {l : Acts} {c : ℕ} → SitsIn p x l c → KnowsIn f l c → (v₀ : Bool) (y₀ t : ℕ) (o : Order) (b : Bool) → WaitsIn o.marks l c t b → b ≡ false → All o.marks l c → Fit x o → c + sizes l ≤ length o.marks
        → Once f (step_among actor l v₀ y₀ c t o).log
    once-all (sits-none {q = q} {c = c}) _ v₀ y₀ t o b z e _ v m = elim z [ ]
    once-all (sits-more {q = x} {a} {l} {c} s y) (knows_more z n) v₀ y₀ t o b (waits-first h w) e (all-run r q) v m = first-once a l v₀ y₀ c t o h (once-run s z (cond v₀ c y₀) t o b w e r v (omega arith))
    once-all (sits-more {q = x} {a} {l} {c} s y) (knows_more z n) v₀ y₀ t o b (waits-first h w) e (all_quiet q r) v m = absurd (quiet-waits w e q)
    once-all (sits-more {q = x} {a} {l} {c} s y) (knows_more z n) v₀ y₀ t o b (waits-later h w) e (all-run r q) v m = later-once a l v₀ y₀ c t o h (once-all y n v₀ y₀ t o b w e q v (omega arith))
    once-all (sits-more {q = x} {a} {l} {c} s y) (knows_more z n) v₀ y₀ t o b (waits-later h w) e (all_quiet q r) v m = later-once a l v₀ y₀ c t o h (once-all y n v₀ y₀ t o b w e r v (omega arith))

    pub once-stopped : {x : Place} {a : Act} {k : ℕ} → Sits p x a k → Knows f a k → (y₀ t : ℕ) (o : Order) (b : Bool) → Waits o.marks a k t b → b ≡ false → Stopped o.marks a k → k + size a ≤ length o.marks
        → Once f (step_in actor a y₀ k t o).log
    once-stopped (sits-part {q = x} {own} {within} {k} s g u y l) (knows e n r z) y₀ t o b (waits-itself e₁ d) q st m = itself-once own within y₀ k t o e₁ n z
    once-stopped (sits-part {q = x} {own} {within} {k} s g u y l) (knows e n r z) y₀ t o b (waits-within h w) q (stopped-part s₁ i j) m =
        let c = opens-idle own (get_or o.marks k 0) i in
        step-once own within y₀ k t o o (λ d. omega arith) (arms_none own within k t o (stopped-part-not p actor j w c)) (combines-once f actor own within y₀ k t o s r z (omega arith) (once-stopped-in l z (is_scope own) y₀ t o _ w c j (omega arith)))
    once-stopped (sits-part {q = x} {own} {within} {k} s g u y l) (knows e n r z) y₀ t o b (waits-within h w) q (stopped-quiet i) m =
        absurd (quiet-waits-in w (opens-idle own (get_or o.marks k 0) (i.at k (omega arith) (omega arith))) (quiet-part i (omega arith) (omega arith)))
    once-stopped (sits-part {q = x} {own} {within} {k} s g u y l) (knows e n r z) y₀ t o b (waits-within h w) q (stopped-scope i) m = absurd (false≢true (sym s))
    once-stopped (sits-scope {xs} {v = z₀} {n} {c = a} {ns} {b} {f = g} {u} {k} kn d i sb y) (knows e n₁ r (knows_more kb kl)) y₀ t o c w q st m =
        scope-stopped xs z₀ b g u y₀ k t o (seat-of kn d i sb y) sb kb kl n₁ m
        (λ x w₁ e₁ r₁. once-stopped sb kb (k + 1) t o x w₁ e₁ r₁ (omega arith))
        (λ x w₁ e₁ r₁ v z. let r = awake-first p actor (λ n. mark_of n o) (inner k) (cond z₀ [] (n ∷ ns)) v z in
        once-undoing sb kb (k + 1) t o x w₁ e₁ r₁ (inner k) r (v, ap (λ (n : Name). phase (mark_of n o)) r ∙ z) (omega arith))
        (λ i₀ n₀ x w₁ e₁ r₁ z. once-healers y kl i₀ t o x n₀ w₁ e₁ r₁ z (omega arith))
        w q st

    once-stopped-in : {x : Place} {l : Acts} {c : ℕ} → SitsIn p x l c → KnowsIn f l c → (v₀ : Bool) (y₀ t : ℕ) (o : Order) (b : Bool) → WaitsIn o.marks l c t b → b ≡ false → StoppedIn o.marks l c → c + sizes l ≤ length o.marks
        → Once f (step_among actor l v₀ y₀ c t o).log
    once-stopped-in (sits-none {q = q} {c = c}) _ v₀ y₀ t o b z e _ m = elim z [ ]
    once-stopped-in (sits-more {q = x} {a} {l} {c} s y) (knows_more z n) v₀ y₀ t o b (waits-first h w) e (stopped_more r q) m = first-once a l v₀ y₀ c t o h (once-stopped s z (cond v₀ c y₀) t o b w e r (omega arith))
    once-stopped-in (sits-more {q = x} {a} {l} {c} s y) (knows_more z n) v₀ y₀ t o b (waits-later h w) e (stopped_more r q) m = later-once a l v₀ y₀ c t o h (once-stopped-in y n v₀ y₀ t o b w e q (omega arith))

    pub once-undoing : {x : Place} {a : Act} {k : ℕ} → Sits p x a k → Knows f a k → (y₀ t : ℕ) (o : Order) (b : Bool) → Waits o.marks a k t b → b ≡ false → Undoing o.marks a k → (m₀ : Name) → runner_at (λ n. mark_of n o) (name_of x) (beyond_of x) ≡ m₀ → Fit (undo_of (name_of x) (beyond_of x) (last_of x)) o
        → k + size a ≤ length o.marks → Once f (step_in actor a y₀ k t o).log
    once-undoing (sits-part {q = x} {own} {within} {k} s g u y l) (knows e n r z) y₀ t o b (waits-itself e₁ d) q st m₀ y₂ v m = itself-once own within y₀ k t o e₁ n z
    once-undoing (sits-part {q = x} {own} {within} {k} s g u y l) (knows e n r z) y₀ t o b (waits-within h w) q (undoing-part s₁ i j) m₀ y₂ v m =
        let c = opens-idle own (get_or o.marks k 0) i in
        step-once own within y₀ k t o o (λ d. omega arith) (arms_none own within k t o (undoing-part-not p actor j w c)) (combines-once f actor own within y₀ k t o s r z (omega arith) (once-undoing-in l z (is_scope own) y₀ t o _ w c j m₀ y₂ v (omega arith)))
    once-undoing (sits-part {q = x} {own} {within} {k} s g u y l) (knows e n r z) y₀ t o b (waits-within h w) q (undoing-scope i j _) m₀ y₂ v m = absurd (false≢true (sym s))
    once-undoing (sits-part {q = x} {own} {within} {k} s g u y l) (knows e n r z) y₀ t o b (waits-within h w) q (undoing-through i j _) m₀ y₂ v m = absurd (false≢true (sym s))
    once-undoing (sits-scope {v = true} kn d i sb y) (knows e n₁ r (knows_more kb kl)) y₀ t o c w q (undoing-part s _ j) m₀ y₂ v m = absurd (false≢true (sym s))
    once-undoing (sits-scope {xs} {v = true} {b = b} {f = g} {u} {k = k} kn d i sb y) (knows e n₁ r (knows_more kb kl)) y₀ t o c w q (undoing-scope x z j) m₀ y₂ v m =
        scope-undoes xs b g u y₀ k t o (knows_more kb kl) n₁ w j (λ w₁. once-undoer y kl refl t o false w₁ refl (nth-run j) v (omega arith))
    once-undoing (sits-scope {v = false} kn d i sb y) (knows e n₁ r (knows_more kb kl)) y₀ t o c w q (undoing-part s _ j) m₀ y₂ v m = absurd (false≢true (sym s))
    once-undoing (sits-scope {xs} {v = false} {n} {c = a} {ns} {b} {f = g} {u} {k} kn d i sb y) (knows e n₁ r (knows_more kb kl)) y₀ t o c w q (undoing-through x z j) m₀ y₂ v m =
        scope-through {m₀ = m₀} xs b g u y₀ k t o (knows_more kb kl) n₁ w x j (λ w₁. steps-undoing p actor sb (k + 1) t o false refl w₁ refl z m₀ (rw x y₂) (rw x v) (omega arith))
        (λ w₁. once-undoing sb kb (k + 1) t o false w₁ refl z m₀ (rw x y₂) (rw x v) (omega arith))

    once-undoing-in : {x : Place} {l : Acts} {c : ℕ} → SitsIn p x l c → KnowsIn f l c → (v₀ : Bool) (y₀ t : ℕ) (o : Order) (b : Bool) → WaitsIn o.marks l c t b → b ≡ false → UndoingIn o.marks l c → (m₀ : Name) → runner_at (λ n. mark_of n o) (name_of x) (beyond_of x) ≡ m₀ → Fit (undo_of (name_of x) (beyond_of x) (last_of x)) o
        → c + sizes l ≤ length o.marks → Once f (step_among actor l v₀ y₀ c t o).log
    once-undoing-in (sits-none {q = q} {c = c}) _ v₀ y₀ t o b z e _ m₀ y₂ v m = elim z [ ]
    once-undoing-in (sits-more {q = x} {a} {l} {c} s y) (knows_more z n) v₀ y₀ t o b (waits-first h w) e (undoing-here r q) m₀ y₂ v m = first-once a l v₀ y₀ c t o h (once-undoing s z (cond v₀ c y₀) t o b w e r m₀ y₂ v (omega arith))
    once-undoing-in (sits-more {q = x} {a} {l} {c} s y) (knows_more z n) v₀ y₀ t o b (waits-later h w) e (undoing-here r q) m₀ y₂ v m = absurd (quiet-waits-in w e q)
    once-undoing-in (sits-more {q = x} {a} {l} {c} s y) (knows_more z n) v₀ y₀ t o b (waits-first h w) e (undoing-later q r) m₀ y₂ v m = absurd (quiet-waits w e q)
    once-undoing-in (sits-more {q = x} {a} {l} {c} s y) (knows_more z n) v₀ y₀ t o b (waits-later h w) e (undoing-later q r) m₀ y₂ v m = later-once a l v₀ y₀ c t o h (once-undoing-in y n v₀ y₀ t o b w e r m₀ y₂ v (omega arith))

    -- the fault parts of a scope, and what stands after them
    once-healers : {s : Name} {xs : List ℕ} {z : Bool} {x y : Place} {l : Acts} {c : ℕ} → Healers p s xs z x y l c → KnowsIn f l c → (i t : ℕ) (o : Order) (b : Bool) → i ≤ length xs
        → Waits o.marks (part i l) (part_at i l c) t b → b ≡ false → Run o.marks (part i l) (part_at i l c) → Fit x o → c + sizes l ≤ length o.marks
        → Once f (step_in actor (part i l) (part_at i l c) (part_at i l c) t o).log
    once-healers (heals-by {c} y a h) (knows_more ka kl) zero t o b n w e r v m = once-part a ka c t o b w e r v (omega arith)
    once-healers (heals-by y a h) (knows_more ka kl) (suc i) t o b n w e r v m = once-healers h kl i t o b (omega arith) w e r v (omega arith)
    once-healers (heals-all {c} y a h) (knows_more ka kl) zero t o b n w e r v m = once-part a ka c t o b w e r v (omega arith)
    once-healers (heals-all y a h) (knows_more ka kl) (suc i) t o b n w e r v m = absurd (omega arith)

    once-undoer : {s : Name} {xs : List ℕ} {z : Bool} {x y : Place} {l : Acts} {c : ℕ} → Healers p s xs z x y l c → KnowsIn f l c → z ≡ true → (t : ℕ) (o : Order) (b : Bool)
        → Waits o.marks (part (general_part xs) l) (part_at (general_part xs) l c) t b → b ≡ false → Run o.marks (part (general_part xs) l) (part_at (general_part xs) l c) → Fit y o → c + sizes l ≤ length o.marks
        → Once f (step_in actor (part (general_part xs) l) (part_at (general_part xs) l c) (part_at (general_part xs) l c) t o).log
    once-undoer (heals-by y a h) (knows_more ka kl) n t o b w e r v m = once-undoer h kl n t o b w e r v (omega arith)
    once-undoer (heals-all y a h) (knows_more ka kl) n t o b w e r v m = once-rest h kl n t o b w e r v (omega arith)

    once-rest : {z : Bool} {y : Place} {l : Acts} {c : ℕ} → Rest p z y l c → KnowsIn f l c → z ≡ true → (t : ℕ) (o : Order) (b : Bool)
        → Waits o.marks (part 0 l) (part_at 0 l c) t b → b ≡ false → Run o.marks (part 0 l) (part_at 0 l c) → Fit y o → c + sizes l ≤ length o.marks
        → Once f (step_in actor (part 0 l) (part_at 0 l c) (part_at 0 l c) t o).log
    once-rest (rest-undo {k} su) (knows_more ku kn) n t o b w e r v m = once-part su ku k t o b w e r v (omega arith)
    once-rest rest-none kn n t o b w e r v m = absurd (false≢true n)

    pub once-part : {x : Place} {a : Act} {k : ℕ} → Remedy p x a k → Knows f a k → (y₀ t : ℕ) (o : Order) (b : Bool) → Waits o.marks a k t b → b ≡ false → Run o.marks a k → Fit x o → k + size a ≤ length o.marks
        → Once f (step_in actor a y₀ k t o).log
    once-part (remedy {q = x} {own} {within} {k} s a g u z₁ l d) (knows e n r z) y₀ t o b w q run v m =
        part-once own within y₀ k t o b s n r z w run (λ c w₁ e₁ r₁. once-one l z (is_scope own) y₀ t o c w₁ e₁ r₁ v (omega arith)) (λ c w₁ e₁ r₁. once-all l z (is_scope own) y₀ t o c w₁ e₁ r₁ v (omega arith))
