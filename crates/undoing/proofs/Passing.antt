-- A sequence that has the step in it runs on, or all that follows in it begins: of a step that is neither a raise nor a leave. Assumes nothing.
use Prim.Native.Nat.{ℕ, zero, suc, ◌+◌, ◌≤◌, ◌<◌}
use native.Mathlib.Omega.{arith}
use mathlib.Core.Path.{◌≡◌, refl, sym, ap, subst, ◌∙◌}
use mathlib.Core.Bool.{Bool, true, false, cond, ◌&&◌, false≢true, or-true}
use mathlib.Core.List.{List, [], ◌∷◌, ◌++◌}
use lib.ListN.{length, get_or}
use lib.Dec.{eqb, ltb}
use borrow.Author.Tests.{eqb-true}
use Rattle.plan.specs.Tree.{Own, empty, send, receive, set as setting, raise, leave, choose, repeat, sequence, flow, pick, scope, arm, kind, is_scope, Act, act, Acts, none, more, Plan, size, sizes, count, general_part, undo_part, to_partner, to_held, from_partner, from_asking}
use Rattle.order.specs.declared.Order.{Order}
use Rattle.order.specs.Lists.{some}
use Rattle.order.specs.State.{Name, inner, idle, active, done, halted, mark_at, mark_of, marking}
use Rattle.order.specs.Event.{Event}
use Rattle.order.specs.Begin.{Begun, in_turn, begin, begin_in_turn, begin_after, part, part_at}
use Rattle.order.specs.declared.Way.{Way as Result}
use Rattle.order.specs.declared.Way.TheVariants.{Running as running, Over as over, Raising as raising, Leaving as leaving, Undone as undone, UndoRaising as undo_raising}
use Rattle.order.specs.Scope.{Outcome, runs, begun_in, where_over, Scope, scope_at, inner_runs, looks_again, body_over, from_body, from_fault, from_undo}
use Rattle.order.specs.Acting.{finishes, goes_on, combines, step_in, step_among, is_part, Actor}
use Rattle.undoing.specs.Ties.{Place, body_of, undo_of, name_of, beyond_of, last_of}
use Rattle.undoing.specs.Orderly.{is_began_of}
use Rattle.undoing.specs.Begun.{lasts, is_scope_kind, has_began}
use Rattle.undoing.specs.Standing.{choice_on}
use Rattle.undoing.specs.Entirely.{times, is_rash}
use Rattle.undoing.specs.Onward.{each_began, later_began}
use Rattle.undoing.proofs.Parts.{both, decide, some-append}
use Rattle.undoing.proofs.Accounts.{Phase, live, heals, phase}
use Rattle.undoing.proofs.Places.{first-of, second-of}
use Rattle.undoing.proofs.Marks.{trio, Quiet, is_doer, Run, run-awaits, run-one, run-all, run-body, run-done, run-turned, One, one-here, one_later, All, all_none, all-run, all_quiet, Nth, Turned, turned-waits, turned-undoes, turned-heals, Stopped, stopped-part, stopped-quiet, stopped-scope, StoppedIn, stopped_more, Undoing, undoing-part, undoing-scope, undoing-through, UndoingIn, undoing-here, undoing-later, quiet-part, quiet-join, turned-not-rest}
use Rattle.undoing.proofs.Orders.{Fit, Sits, sits-part, sits-scope, SitsIn, sits-more, Remedy, remedy, Healers, heals-by, heals-all, Rest, rest-undo, rest-none, sits-none}
use Rattle.undoing.proofs.Moves.{runner_at}
use Rattle.undoing.proofs.Seats.{Seat, mark-kept, stopped-rests}
use Rattle.undoing.proofs.Choices.{general-is}
use Rattle.undoing.proofs.Remedies.{part-from, part-to, nth-there, nth-run}
use Rattle.undoing.proofs.Healing.{other-mark, choice-least}
use Rattle.undoing.proofs.Stopping.{seat-of}
use Rattle.undoing.proofs.Waiting.{opens, Waits, waits-itself, waits-within, WaitsIn, waits-first, waits-later, opens-idle, quiet-waits, quiet-waits-in, nth-waits}
use Rattle.undoing.proofs.Scoping.{Acted, RunAs, StopAs, UndoAs}
use Rattle.undoing.proofs.Combining.{arms-held, arms_none}
use Rattle.undoing.proofs.Stepping.{PartOf, through-is, awake-first, steps, steps-stopped, steps-stopped-in, steps-undoing, steps-undoing-in, steps-part, opens-held, stopped-part-not, undoing-part-not, body-step, fault-step, undo-step, Whole, Its}
use Rattle.undoing.proofs.Truly.{Up, scope-kind, no-pick, Arms, Knows, knows, KnowsIn, knows-none, knows_more}
use Rattle.undoing.proofs.Lasting.{part-knows, Within, scope-needs, scope-within}
use Rattle.undoing.proofs.Keeping.{begins-said}
use Rattle.undoing.proofs.Keeping as keeping
use Rattle.undoing.proofs.Entering.{step-at}
use Rattle.undoing.proofs.Single.{looks-none, looks-still}
use Rattle.undoing.proofs.Dropping.{is_bad, step-drops, among-drops, body_has, fault-has, combines-has, calmer, not-bad}
use Rattle.undoing.proofs.Afresh.{began-times, Fresh, New, new-idle, new-again, fault-fresh}
use Rattle.undoing.proofs.AfreshSteps.{not-faulty, is_over, is_undone, its-within, its-first, its-later, after-fresh, combines-fresh, arms_of}
use Rattle.undoing.proofs.Growing.{body-grows, fault-grows, combines-grows}

-- More events: what had begun has.
each_more : (l : Acts) (c : ℕ) (m n : List Event) → ((i : ℕ) → has_began i m ≡ true → has_began i n ≡ true) → each_began l c m ≡ true → each_began l c n ≡ true
unfolding each_began
each_more none c m n f e = refl
each_more (more a l) c m n f e = both (has_began c m) (each_began l (c + size a) m) e (λ x y. rw (f c x, each_more l (c + size a) m n f y))

pub later_more : (l : Acts) (c t : ℕ) (m n : List Event) → ((i : ℕ) → has_began i m ≡ true → has_began i n ≡ true) → later_began l c t m ≡ true → later_began l c t n ≡ true
unfolding later_began
later_more none c t m n f e = refl
later_more (more a l) c t m n f e =
    decide (ltb t (c + size a))
    (λ d. rw (later_began, d) (each_more l (c + size a) m n f (rw (later_began, d) at e)))
    (λ d. rw (later_began, d) (later_more l (c + size a) t m n f (rw (later_began, d) at e)))

began-before : (i : ℕ) (l m : List Event) → has_began i l ≡ true → has_began i (l ++ m) ≡ true
began-before i l m e = some-append (is_began_of (eqb i)) l m ∙ rw e

began-behind : (i : ℕ) (l m : List Event) → has_began i m ≡ true → has_began i (l ++ m) ≡ true
began-behind i l m e = some-append (is_began_of (eqb i)) l m ∙ rw (e, or-true)

-- none of it began
pub times_none : (k : ℕ) (l : List Event) → times k l ≡ 0 → has_began k l ≡ false
times_none k l e = decide (has_began k l) (λ d. absurd (let z = began-times k l d in omega arith)) (λ d. d)

module _ (f : ℕ → ℕ) where
  -- what begins in turn, and is over at once, has all begun
  turn-each : {l : Acts} {c : ℕ} → KnowsIn f l c → Arms false l → (ns : List ℕ) → (begin_in_turn l c ns).over ≡ true → each_began l c (begin_in_turn l c ns).log ≡ true
  unfolding begin each_began
  turn-each knows-none r ns e = refl
  turn-each (knows_more {a = act own w} {l} {c} x y) r ns e =
      go (begin (act own w) c ns) (begins-said (act own w) l c ns r) (begin (act own w) c ns).over refl e (turn-each y r.1 (begin (act own w) c ns).marks)
    where
      go : (b : Begun) → has_began c b.log ≡ true → (v : Bool) → b.over ≡ v → (in_turn (begin_in_turn l (c + size (act own w))) (record { marks = b.marks; over = v; log = b.log })).over ≡ true
          → ((begin_in_turn l (c + size (act own w)) b.marks).over ≡ true → each_began l (c + size (act own w)) (begin_in_turn l (c + size (act own w)) b.marks).log ≡ true)
          → each_began (more (act own w) l) c (in_turn (begin_in_turn l (c + size (act own w))) (record { marks = b.marks; over = v; log = b.log })).log ≡ true
      go b s true d e g =
          let m = (begin_in_turn l (c + size (act own w)) b.marks).log in
          rw (began-before c b.log m s, each_more l (c + size (act own w)) m (b.log ++ m) (λ i z. began-behind i b.log m z) (g e))
      go b s false d e g = absurd (false≢true e)

  after-each : {l : Acts} {c : ℕ} → KnowsIn f l c → Arms false l → (t : ℕ) (ns : List ℕ) → (begin_after l c t ns).over ≡ true → later_began l c t (begin_after l c t ns).log ≡ true
  unfolding begin_after later_began
  after-each knows-none r t ns e = refl
  after-each (knows_more {a = act own w} {l} {c} x y) r t ns e =
      decide (ltb t (c + size (act own w)))
      (λ d. let q = first-of (ltb t (c + size (act own w))) (begin_in_turn l (c + size (act own w)) ns) (begin_after l (c + size (act own w)) t ns) (begin_after (more (act own w) l) c t ns) refl d in
      subst (λ (b : Begun). later_began (more (act own w) l) c t b.log ≡ true) (sym q) (rw (later_began, d) (turn-each y r.1 ns (subst (λ (b : Begun). b.over ≡ true) q e))))
      (λ d. let q = second-of (ltb t (c + size (act own w))) (begin_in_turn l (c + size (act own w)) ns) (begin_after l (c + size (act own w)) t ns) (begin_after (more (act own w) l) c t ns) refl d in
      subst (λ (b : Begun). later_began (more (act own w) l) c t b.log ≡ true) (sym q) (rw (later_began, d) (after-each y r.1 t ns (subst (λ (b : Begun). b.over ≡ true) q e))))

  -- a sequence that is over with a step in it
  seq-over : {within : Acts} (k t : ℕ) (r : Outcome) → KnowsIn f within (k + 1) → Arms false within → is_over (combines sequence within k t r).result ≡ true
      → later_began within (k + 1) t (combines sequence within k t r).log ≡ true
  unfolding combines goes_on
  seq-over {within} k t r y a = go r.result
    where
      b : Begun
      b = begin_after within (k + 1) t r.order.marks

      next : (v : Bool) → b.over ≡ v → is_over (where_over (finishes k) (record { result = cond v over running; order = (begun_in r.order b).order; log = b.log })).result ≡ true
          → later_began within (k + 1) t (r.log ++ (where_over (finishes k) (record { result = cond v over running; order = (begun_in r.order b).order; log = b.log })).log) ≡ true
      next true d e = later_more within (k + 1) t b.log (r.log ++ (b.log ++ [])) (λ i z. began-behind i r.log (b.log ++ []) (began-before i b.log [] z)) (after-each y a t r.order.marks d)
      next false d e = absurd (false≢true e)

      on : (v : Bool) (z : Outcome) → z ≡ elim v [ true ↦ where_over (finishes k) (begun_in r.order b) | false ↦ runs r.order ] → is_over z.result ≡ true → later_began within (k + 1) t (r.log ++ z.log) ≡ true
      on true z d e =
          subst (λ (q : Outcome). later_began within (k + 1) t (r.log ++ q.log) ≡ true) (sym d) (next b.over refl (subst (λ (q : Outcome). is_over q.result ≡ true) d e))
      on false z d e = absurd (false≢true (subst (λ (q : Outcome). is_over q.result ≡ true) d e))

      go : (x : Result)
          → is_over (where_over (λ q. elim (eqb (mark_at k q) active) [ true ↦ where_over (finishes k) (begun_in q (begin_after within (k + 1) t q.marks)) | false ↦ runs q ]) (record { result = x; order = r.order; log = r.log })).result ≡ true
          → later_began within (k + 1) t (where_over (λ q. elim (eqb (mark_at k q) active) [ true ↦ where_over (finishes k) (begun_in q (begin_after within (k + 1) t q.marks)) | false ↦ runs q ]) (record { result = x; order = r.order; log = r.log })).log ≡ true
      go running e = absurd (false≢true e)
      go over e = on (eqb (mark_at k r.order) active) _ refl e
      go (raising x) e = absurd (false≢true e)
      go leaving e = absurd (false≢true e)
      go undone e = absurd (false≢true e)
      go (undo_raising x) e = absurd (false≢true e)

  -- What runs has something in it that lasts and is marked.
  pub data Loud (ms : List ℕ) (c n : ℕ) : Type 0 where
    loud : (j : ℕ) → c ≤ j → j < c + n → lasts (f j) ≡ true → Up ms j → Loud ms c n

  loud-wider : {ms : List ℕ} {c n d m : ℕ} → Loud ms d m → c ≤ d → d + m ≤ c + n → Loud ms c n
  loud-wider (loud j a b l u) h e = loud j (omega arith) (omega arith) l u

  doer-lasts : (own : Own) → is_doer own ≡ true → lasts (kind own) ≡ true
  unfolding is_doer lasts kind
  doer-lasts empty e = absurd (false≢true e)
  doer-lasts (send (to_partner p) o vs) e = refl
  doer-lasts (send (to_held held reply) o vs) e = refl
  doer-lasts (receive (from_partner p) o vs) e = refl
  doer-lasts (receive (from_asking p kept) o vs) e = refl
  doer-lasts (setting v x) e = refl
  doer-lasts (raise zero) e = refl
  doer-lasts (raise (suc number)) e = refl
  doer-lasts leave e = refl
  doer-lasts (choose x) e = refl
  doer-lasts (repeat x) e = refl
  doer-lasts sequence e = absurd (false≢true e)
  doer-lasts flow e = absurd (false≢true e)
  doer-lasts pick e = refl
  doer-lasts (scope xs v) e = absurd (false≢true e)
  doer-lasts (arm p o vs) e = absurd (false≢true e)

  scope-lasts : (xs : List ℕ) (v : Bool) → lasts (kind (scope xs v)) ≡ true
  unfolding lasts kind
  scope-lasts [] true = refl
  scope-lasts [] false = refl
  scope-lasts (x ∷ xs) v = refl

  mutual
    unfolding size lasts kind

    run-loud-so : {ms : List ℕ} {a : Act} {k : ℕ} → Knows f a k → Run ms a k → Loud ms k (size a)
    run-loud-so {ms} (knows e n r y) (run-awaits {own} {within} {k} s d z q) = loud k (omega arith) (omega arith) (ap lasts e ∙ doer-lasts own d) (rw z)
    run-loud-so (knows e n r y) (run-one s d z) = loud-wider (one-loud-so y z) (omega arith) (omega arith)
    run-loud-so (knows e n r y) (run-all d z q) = loud-wider (all-loud-so y z q) (omega arith) (omega arith)
    run-loud-so (knows e n r y) (run-body {xs} {v} {k = k} d z q) = loud k (omega arith) (omega arith) (ap lasts e ∙ scope-lasts xs v) (rw d)
    run-loud-so (knows e n r y) (run-done {xs} {v} {k = k} d q) = loud k (omega arith) (omega arith) (ap lasts e ∙ scope-lasts xs v) (rw d)
    run-loud-so {ms} (knows e n r y) (run-turned {xs} {v} {k = k} d) = loud k (omega arith) (omega arith) (ap lasts e ∙ scope-lasts xs v) (decide (eqb (get_or ms k 0) idle) (λ z. absurd (turned-not-rest d (eqb-true (get_or ms k 0) idle z))) (λ z. z))

    one-loud-so : {ms : List ℕ} {l : Acts} {c : ℕ} → KnowsIn f l c → One ms l c → Loud ms c (sizes l)
    one-loud-so {ms = ms} (knows-none {c = c}) z = elim z [ ]
    one-loud-so (knows_more x y) (one-here r q) = loud-wider (run-loud-so x r) (omega arith) (omega arith)
    one-loud-so (knows_more x y) (one_later q r) = loud-wider (one-loud-so y r) (omega arith) (omega arith)

    all-loud-so : {ms : List ℕ} {l : Acts} {c : ℕ} → KnowsIn f l c → All ms l c → (Quiet ms c (sizes l) → ⊥) → Loud ms c (sizes l)
    all-loud-so knows-none all_none z = absurd (z (record { at = λ i x y. absurd (omega arith) }))
    all-loud-so (knows_more x y) (all-run r q) z = loud-wider (run-loud-so x r) (omega arith) (omega arith)
    all-loud-so (knows_more x y) (all_quiet q r) z = loud-wider (all-loud-so y r (λ w. z (quiet-join q w refl))) (omega arith) (omega arith)

module _ (p : Plan) (actor : Actor) (f : ℕ → ℕ) (t : ℕ) (o : Order) where
  -- A sequence that has the step in it, after the outcome r.
  pub data Onward (within : Acts) (k : ℕ) (r : Outcome) : Type 0 where
    on-later : later_began within (k + 1) t r.log ≡ true → Onward within k r
    on-lives : (j : ℕ) → k < j → j < k + 1 + sizes within → lasts (f j) ≡ true → Up r.order.marks j → has_began k r.log ≡ false → Onward within k r

  mutual
    pub data Thru (r : Outcome) : Act → ℕ → Type 0 where
      thru-here : {own : Own} {within : Acts} {k : ℕ} → k ≡ t → Thru r (act own within) k
      thru-in : {own : Own} {within : Acts} {k : ℕ} → k < t → (eqb (kind own) 8 ≡ true → Up o.marks k → Onward within k r) → ThruIn r within (k + 1) → Thru r (act own within) k

    pub data ThruIn (r : Outcome) : Acts → ℕ → Type 0 where
      thru-first : {a : Act} {l : Acts} {c : ℕ} → t < c + size a → Thru r a c → ThruIn r (more a l) c
      thru-later : {a : Act} {l : Acts} {c : ℕ} → c + size a ≤ t → ThruIn r l (c + size a) → ThruIn r (more a l) c

  -- from one outcome to what is made of it
  pub record Passes (r q : Outcome) (c n : ℕ) : Type 0 where
    pub has : (i : ℕ) → has_began i r.log ≡ true → has_began i q.log ≡ true
    pub grows : (j : ℕ) → c ≤ j → j < c + n → lasts (f j) ≡ true → Up r.order.marks j → Up q.order.marks j
    pub none : (i j : ℕ) → c ≤ j → j < c + n → Up r.order.marks j → Up o.marks i → has_began i r.log ≡ false → has_began i q.log ≡ false

  onward-map : {r q : Outcome} {c n : ℕ} (within : Acts) (k : ℕ) → Passes r q c n → c ≤ k → k + 1 + sizes within ≤ c + n → Up o.marks k → Onward within k r → Onward within k q
  onward-map {r} {q} within k w h e u (on-later z) = on-later (later_more within (k + 1) t r.log q.log w.has z)
  onward-map within k w h e u (on-lives j a b l v z) = on-lives j a b l (w.grows j (omega arith) (omega arith) l v) (w.none k j (omega arith) (omega arith) v u z)

  mutual
    unfolding size

    pub thru-map : {r q : Outcome} {c n : ℕ} → Passes r q c n → {a : Act} {k : ℕ} → Thru r a k → c ≤ k → k + size a ≤ c + n → Thru q a k
    thru-map w (thru-here d) h e = thru-here d
    thru-map w (thru-in {own} {within} {k} lt g l) h e = thru-in lt (λ i u. onward-map within k w h (omega arith) u (g i u)) (thru-in-map w l (omega arith) (omega arith))

    pub thru-in-map : {r q : Outcome} {c n : ℕ} → Passes r q c n → {l : Acts} {d : ℕ} → ThruIn r l d → c ≤ d → d + sizes l ≤ c + n → ThruIn q l d
    thru-in-map w (thru-first lt x) h e = thru-first lt (thru-map w x h (omega arith))
    thru-in-map w (thru-later lt x) h e = thru-later lt (thru-in-map w x (omega arith) (omega arith))

  -- what began with more and not before was idle
  abbrev Begun-in : Outcome → ℕ → Type 0
  Begun-in r i = has_began i r.log ≡ true

  none_from : (r q : Outcome) → Fresh p f (Begun-in r) o.marks q.log → (i : ℕ) → Up o.marks i → has_began i r.log ≡ false → has_began i q.log ≡ false
  none_from r q w i u z = decide (has_began i q.log) (λ d. absurd (so (w.at i d))) (λ d. d)
    where
      so : New p f (Begun-in r) o.marks i → ⊥
      so (new-idle e) = false≢true (sym u ∙ ap (λ (m : ℕ). eqb m idle) e)
      so (new-again e) = false≢true (sym z ∙ e)

  its_fresh : (r : Outcome) → Fresh p f (Begun-in r) o.marks r.log
  its_fresh r = record { at = λ j h. new-again h }

  -- Activities other than scopes.
  combines-passes : (own : Own) (within : Acts) (y₀ k : ℕ) → Knows f (act own within) k → is_scope own ≡ false → k + 1 + sizes within ≤ length o.marks
      → some is_rash (combines own within k t (step_among actor within false y₀ (k + 1) t o)).log ≡ false
      → (eqb (kind own) 8 ≡ true → eqb (mark_at k (step_among actor within false y₀ (k + 1) t o).order) active ≡ true → (ns : List ℕ) → Fresh p f (Begun-in (step_among actor within false y₀ (k + 1) t o)) o.marks (begin_after within (k + 1) t ns).log)
      → Passes (step_among actor within false y₀ (k + 1) t o) (combines own within k t (step_among actor within false y₀ (k + 1) t o)) (k + 1) (sizes within)
  combines-passes own within y₀ k (knows e n a y) s m c g =
      let r = step_among actor within false y₀ (k + 1) t o in
      record {
        has = λ i d. combines-has (is_began_of (eqb i)) own within k t r d;
        grows = λ j x z l u. combines-grows f own within k t r e n y (omega (arith, (keeping.among-steps f actor y false y₀ t o m).long))
            (not-bad o r (among-drops f t actor y false y₀ o) (calmer r.log (combines own within k t r).log (combines-has is_rash own within k t r) c)) j l (λ d. omega arith) u;
        none = λ i j x z v u d. none_from r (combines own within k t r) (combines-fresh p actor f t o (Begun-in r) own within k r s (its_fresh r) g) i u d;
      }

  -- what has the step where all is quiet is an arm
  arm-thru : {r : Outcome} {l : Acts} {c : ℕ} {b : Bool} → WaitsIn o.marks l c t b → Quiet o.marks c (sizes l) → ThruIn r l c
  unfolding size
  arm-thru (waits-first h (waits-itself e d)) q = thru-first h (thru-here e)
  arm-thru (waits-first {a = act own within} {c = c} h (waits-within g w)) q =
      absurd (quiet-waits-in w (opens-idle own (get_or o.marks c 0) (q.at c (omega arith) (omega arith))) (quiet-part q (omega arith) (omega arith)))
  arm-thru (waits-later h w) q = thru-later h (arm-thru w (quiet-part q (omega arith) (omega arith)))

  -- a sequence
  seq-claim : (own : Own) (within : Acts) (y₀ k : ℕ) → Knows f (act own within) k → k < t → Acted k (size (act own within)) o (RunAs p (act own within) k t o) (step_in actor (act own within) y₀ k t o)
      → some is_rash (step_in actor (act own within) y₀ k t o).log ≡ false → step_in actor (act own within) y₀ k t o ≡ combines own within k t (step_among actor within false y₀ (k + 1) t o) → eqb (kind own) 8 ≡ true
      → Onward within k (step_in actor (act own within) y₀ k t o)
  unfolding kind size is_doer
  seq-claim empty within y₀ k x h w c q e = absurd (false≢true e)
  seq-claim (send (to_partner a) b vs) within y₀ k x h w c q e = absurd (false≢true e)
  seq-claim (send (to_held held reply) b vs) within y₀ k x h w c q e = absurd (false≢true e)
  seq-claim (receive (from_partner a) b vs) within y₀ k x h w c q e = absurd (false≢true e)
  seq-claim (receive (from_asking a kept) b vs) within y₀ k x h w c q e = absurd (false≢true e)
  seq-claim (setting v z) within y₀ k x h w c q e = absurd (false≢true e)
  seq-claim (raise zero) within y₀ k x h w c q e = absurd (false≢true e)
  seq-claim (raise (suc number)) within y₀ k x h w c q e = absurd (false≢true e)
  seq-claim leave within y₀ k x h w c q e = absurd (false≢true e)
  seq-claim (choose z) within y₀ k x h w c q e = absurd (false≢true e)
  seq-claim (repeat z) within y₀ k x h w c q e = absurd (false≢true e)
  seq-claim sequence within y₀ k (knows x n a y) h w c q e = go R.result refl w.comes
    where
      R : Outcome
      R = step_in actor (act sequence within) y₀ k t o

      good : is_bad R.result ≡ false
      good = not-bad o R (step-drops f t actor (knows x n a y) y₀ o) c

      lives : Run R.order.marks (act sequence within) k → Onward within k R
      lives (run-awaits s d z q) = absurd (false≢true d)
      lives (run-one s d z) = go (one-loud-so f y z)
        where
          go : Loud f R.order.marks (k + 1) (sizes within) → Onward within k R
          go (loud j i b l u) = on-lives j (omega arith) b l u (times_none k R.log ((step-at f t actor (knows x n a y) y₀ o (omega arith)).strict.below k (omega arith)))

      go : (z : Result) → R.result ≡ z → RunAs p (act sequence within) k t o R.log R.order z → Onward within k R
      go running d v = lives v.0
      go over d v =
          on-later (subst (λ (u : Outcome). later_began within (k + 1) t u.log ≡ true) (sym q)
          (seq-over f k t (step_among actor within false y₀ (k + 1) t o) y a (subst (λ (u : Outcome). is_over u.result ≡ true) q (subst (λ (z : Result). is_over z ≡ true) (sym d) refl))))
      go (raising x) d v = absurd (false≢true (sym good ∙ ap is_bad d))
      go leaving d v = absurd (false≢true (sym good ∙ ap is_bad d))
      go undone d v = absurd v
      go (undo_raising x) d v = absurd v
  seq-claim flow within y₀ k x h w c q e = absurd (false≢true e)
  seq-claim pick within y₀ k x h w c q e = absurd (false≢true e)
  seq-claim (scope [] true) within y₀ k x h w c q e = absurd (false≢true e)
  seq-claim (scope [] false) within y₀ k x h w c q e = absurd (false≢true e)
  seq-claim (scope (n ∷ ns) v) within y₀ k x h w c q e = absurd (false≢true e)
  seq-claim (arm a b vs) within y₀ k x h w c q e = absurd (false≢true e)

  part-thru : (own : Own) (within : Acts) (y₀ k : ℕ) (b : Bool) → is_scope own ≡ false → Knows f (act own within) k → Waits o.marks (act own within) k t b → b ≡ false → Run o.marks (act own within) k
      → k + 1 + sizes within ≤ length o.marks → Acted k (size (act own within)) o (RunAs p (act own within) k t o) (step_in actor (act own within) y₀ k t o) → some is_rash (step_in actor (act own within) y₀ k t o).log ≡ false
      → ((c : Bool) → WaitsIn o.marks within (k + 1) t c → c ≡ false → One o.marks within (k + 1) → some is_rash (step_among actor within false y₀ (k + 1) t o).log ≡ false → ThruIn (step_among actor within false y₀ (k + 1) t o) within (k + 1))
      → ((c : Bool) → WaitsIn o.marks within (k + 1) t c → c ≡ false → All o.marks within (k + 1) → some is_rash (step_among actor within false y₀ (k + 1) t o).log ≡ false → ThruIn (step_among actor within false y₀ (k + 1) t o) within (k + 1))
      → Thru (step_in actor (act own within) y₀ k t o) (act own within) k
  unfolding kind
  part-thru own within y₀ k b s x (waits-itself e d) q run m w c one all = thru-here e
  part-thru own within y₀ k b s x (waits-within h v) q (run-awaits s₁ y z u) m w c one all =
      thru-in h (λ e up. absurd (quiet-waits-in v (ap (λ (n : Bool). n && eqb (get_or o.marks k 0) active) (no-pick own 8 refl (eqb-true (kind own) 8 e))) u)) (arm-thru v u)
  part-thru own within y₀ k b s (knows x n r y) (waits-within h v) q (run-one s₁ z l) m w c one all =
      let i = its-within actor own within y₀ k t o o s (λ e. omega arith) (arms-held own within k t o z) in
      let a = opens-held p actor own (get_or o.marks k 0) z in
      let c₁ : some is_rash (combines own within k t (step_among actor within false y₀ (k + 1) t o)).log ≡ false = subst (λ (u : Outcome). some is_rash u.log ≡ false) i c in
      thru-in h (λ e up. seq-claim own within y₀ k (knows x n r y) h w c i e)
      (subst (λ (u : Outcome). ThruIn u within (k + 1)) (sym i)
      (thru-in-map (combines-passes own within y₀ k (knows x n r y) s m c₁ (λ e d ns. after-fresh p actor f t o (Begun-in (step_among actor within false y₀ (k + 1) t o)) y (arms_of p actor f t o own within e r) v a l ns))
      (one (opens own (get_or o.marks k 0)) v a l (calmer _ _ (combines-has is_rash own within k t (step_among actor within false y₀ (k + 1) t o)) c₁)) (omega arith) (omega arith)))
  part-thru flow within y₀ k b s (knows x n r y) (waits-within h v) q (run-all z l g) m w c one all =
      let i = its-within actor flow within y₀ k t o o refl (λ e. omega arith) (arms-held flow within k t o z) in
      let c₁ : some is_rash (combines flow within k t (step_among actor within false y₀ (k + 1) t o)).log ≡ false = subst (λ (u : Outcome). some is_rash u.log ≡ false) i c in
      thru-in h (λ e up. absurd (false≢true e))
      (subst (λ (u : Outcome). ThruIn u within (k + 1)) (sym i)
      (thru-in-map (combines-passes flow within y₀ k (knows x n r y) s m c₁ (λ e. absurd (false≢true e)))
      (all (opens flow (get_or o.marks k 0)) v refl l (calmer _ _ (combines-has is_rash flow within k t (step_among actor within false y₀ (k + 1) t o)) c₁)) (omega arith) (omega arith)))
  part-thru own within y₀ k b s x (waits-within h v) q (run-body y r z) m w c one all = absurd (false≢true (sym s))
  part-thru own within y₀ k b s x (waits-within h v) q (run-done y z) m w c one all = absurd (false≢true (sym s))
  part-thru own within y₀ k b s x (waits-within h v) q (run-turned y) m w c one all = absurd (false≢true (sym s))

  -- an activity of a stopped body, or of one of which an undo part runs: its own mark is idle
  idle-thru : {C : List Event → Order → Result → Type 0} (own : Own) (within : Acts) (y₀ k : ℕ) → Knows f (act own within) k → is_scope own ≡ false → get_or o.marks k 0 ≡ idle → is_part within (k + 1) t ≡ false → k < t
      → k + 1 + sizes within ≤ length o.marks → Acted (k + 1) (sizes within) o C (step_among actor within false y₀ (k + 1) t o) → some is_rash (step_in actor (act own within) y₀ k t o).log ≡ false
      → (some is_rash (step_among actor within false y₀ (k + 1) t o).log ≡ false → ThruIn (step_among actor within false y₀ (k + 1) t o) within (k + 1)) → Thru (step_in actor (act own within) y₀ k t o) (act own within) k
  idle-thru own within y₀ k x s i n h m v c g =
      let q = its-within actor own within y₀ k t o o s (λ e. omega arith) (arms_none own within k t o n) in
      let c₁ : some is_rash (combines own within k t (step_among actor within false y₀ (k + 1) t o)).log ≡ false = subst (λ (u : Outcome). some is_rash u.log ≡ false) q c in
      thru-in h (λ e up. absurd (false≢true (sym up ∙ ap (λ (m : ℕ). eqb m idle) i)))
      (subst (λ (u : Outcome). ThruIn u within (k + 1)) (sym q)
      (thru-in-map (combines-passes own within y₀ k x s m c₁ (λ e d. absurd (false≢true (subst (λ (z : ℕ). eqb z active ≡ true) (v.kept.below k (omega arith) ∙ i) d))))
      (g (calmer _ _ (combines-has is_rash own within k t (step_among actor within false y₀ (k + 1) t o)) c₁)) (omega arith) (omega arith)))

  -- A scope.
  module _ (s : Scope) (h : Seat p s) (b e : ℕ) (w : Within f s b e) (from : b ≤ s.body_at) (m : e ≤ length o.marks) (below : (j : ℕ) → s.body_at ≤ j → j + 1 ≡ b → ⊥) where
    abbrev its : Outcome
    its = step_in actor s.body s.body_at s.body_at t o

    long : length its.order.marks ≡ length o.marks
    long = (keeping.step-steps f actor w.body s.body_at t o (omega (arith, w.body_to))).long

    its-mark : {C : List Event → Order → Result → Type 0} → Acted s.body_at (size s.body) o C its → mark_of s.name its.order ≡ mark_of s.name o
    its-mark v = mark-kept s.name s.body_at o its.order h.before (omega arith) v.rooted v.kept

    module _ (c : some is_rash (from_body s its).log ≡ false) where
      good : is_bad its.result ≡ false
      good = not-bad o its (step-drops f t actor w.body s.body_at o) (calmer its.log (from_body s its).log (body_has is_rash s its) c)

      -- where it does not look again, and none of its undo parts is over, nothing more begins
      none_more : looks_again s its.order ≡ runs its.order → is_undone its.result ≡ false → (i : ℕ) → has_began i its.log ≡ false → has_began i (from_body s its).log ≡ false
      unfolding from_body body_over some
      none_more l u i d = go its.result good u
        where
          with-more : (n : List Event) → has_began i n ≡ false → has_began i (its.log ++ n) ≡ false
          with-more n z = some-append (is_began_of (eqb i)) its.log n ∙ rw (d, z)

          still : has_began i (looks_again s its.order).log ≡ false
          still = ap (λ (r : Outcome). has_began i r.log) l

          ended_so : (v : Bool) (z : Outcome) → z ≡ elim v [ true ↦ runs (marking s.name done its.order) | false ↦ looks_again s its.order ] → has_began i z.log ≡ false
          ended_so true z e = ap (λ (r : Outcome). has_began i r.log) e
          ended_so false z e = ap (λ (r : Outcome). has_began i r.log) e ∙ still

          go : (x : Result) → is_bad x ≡ false → is_undone x ≡ false → has_began i (from_body s (record { result = x; order = its.order; log = its.log })).log ≡ false
          go running n u = with-more (looks_again s its.order).log still
          go over n u = with-more (body_over s its.order).log (ended_so (eqb (mark_of s.name its.order) active) (body_over s its.order) refl)
          go (raising x) n u = absurd (false≢true (sym n))
          go leaving n u = absurd (false≢true (sym n))
          go undone n u = absurd (false≢true (sym u))
          go (undo_raising x) n u = absurd (false≢true (sym n))

      body-passes : ((j : ℕ) → s.body_at ≤ j → j < s.body_at + size s.body → Up its.order.marks j → (looks_again s its.order ≡ runs its.order) × (is_undone its.result ≡ false)) → Passes its (from_body s its) s.body_at (size s.body)
      body-passes g =
          record {
            has = λ i d. body_has (is_began_of (eqb i)) s its d;
            grows = λ j x z l u. body-grows f s b e w its (omega (arith, long)) good j l (below j x) u;
            none = λ i j x z v u d. let y = g j x z v in none_more y.0 y.1 i d;
          }

      pub live-passes : mark_of s.name o ≡ active → Acted s.body_at (size s.body) o (RunAs p s.body s.body_at t o) its → Passes its (from_body s its) s.body_at (size s.body)
      live-passes a v =
          body-passes (λ j x z u. (looks-still f s w.body w.fault its.order (rw (its-mark v ∙ a)) (rw (its-mark v ∙ a)), not-undone its.result v.comes))
        where
          not-undone : (y : Result) → RunAs p s.body s.body_at t o its.log its.order y → is_undone y ≡ false
          not-undone running c = refl
          not-undone over c = refl
          not-undone (raising x) c = refl
          not-undone leaving c = refl
          not-undone undone c = absurd c
          not-undone (undo_raising x) c = refl

      pub waits-passes : Acted s.body_at (size s.body) o (StopAs p s.body s.body_at o) its → Passes its (from_body s its) s.body_at (size s.body)
      waits-passes v =
          body-passes (λ j x z u. (
            decide (inner_runs s.body s.body_at its.order.marks)
                (λ d. looks-none f s w.body w.fault its.order d)
                (λ d. absurd (false≢true (sym u ∙ ap (λ (m : ℕ). eqb m idle) ((stopped-rests (stopped-of its.result good v.comes) d).at j x z)))),
            not-undone its.result v.comes,
          ))
        where
          stopped-of : (y : Result) → is_bad y ≡ false → StopAs p s.body s.body_at o its.log its.order y → Stopped its.order.marks s.body s.body_at
          stopped-of running n c = c.0
          stopped-of over n c = c.0
          stopped-of (raising x) n c = absurd (false≢true (sym n))
          stopped-of leaving n c = absurd (false≢true (sym n))
          stopped-of undone n c = absurd c
          stopped-of (undo_raising x) n c = absurd c

          not-undone : (y : Result) → StopAs p s.body s.body_at o its.log its.order y → is_undone y ≡ false
          not-undone running c = refl
          not-undone over c = refl
          not-undone (raising x) c = refl
          not-undone leaving c = refl
          not-undone undone c = absurd c
          not-undone (undo_raising x) c = refl

      pub undoes-passes : (z : Bool) → phase (mark_of s.name o) ≡ Phase.undoes z → Acted s.body_at (size s.body) o (UndoAs p s.name s.body s.body_at t o) its → Passes its (from_body s its) s.body_at (size s.body)
      undoes-passes z ph v =
          body-passes (λ j x y u. (
            looks-still f s w.body w.fault its.order
                (not-faulty (mark_of s.name its.order) z (ap phase (its-mark v) ∙ ph))
                (other-mark (mark_of s.name its.order) halted (Phase.undoes z) (ap phase (its-mark v) ∙ ph) (λ d. let z : ◌≡◌ {A = ℕ} 0 1 = cc in omega arith)),
            decide (is_undone its.result) (λ d. absurd (undone-quiet its.result d v.comes j x y u)) (λ d. d),
          ))
        where
          undone-quiet : (y : Result) → is_undone y ≡ true → UndoAs p s.name s.body s.body_at t o its.log its.order y → (j : ℕ) → s.body_at ≤ j → j < s.body_at + size s.body → Up its.order.marks j → ⊥
          undone-quiet running d c j x z u = false≢true d
          undone-quiet over d c j x z u = false≢true d
          undone-quiet (raising n) d c j x z u = false≢true d
          undone-quiet leaving d c j x z u = false≢true d
          undone-quiet undone d c j x z u = false≢true (sym u ∙ ap (λ (m : ℕ). eqb m idle) (c.0.at j x z))
          undone-quiet (undo_raising n) d c j x z u = false≢true d

    -- one of its fault parts
    pub fault-passes : (a : Act) (k : ℕ) → Knows f a k → k + size a ≤ e → ((j : ℕ) → k ≤ j → j + 1 ≡ b → ⊥) → some is_rash (from_fault s (step_in actor a k k t o)).log ≡ false
        → Passes (step_in actor a k k t o) (from_fault s (step_in actor a k k t o)) k (size a)
    fault-passes a k x to low c =
        let r = step_in actor a k k t o in
        let good = not-bad o r (step-drops f t actor x k o) (calmer r.log (from_fault s r).log (fault-has is_rash s r) c) in
        record {
          has = λ i d. fault-has (is_began_of (eqb i)) s r d;
          grows = λ j y z l u. fault-grows f s b e w r (omega (arith, (keeping.step-steps f actor x k t o (omega arith)).long)) good j l (low j y) u;
          none = λ i j y z v u d. none_from r (from_fault s r) (fault-fresh p f (Begun-in r) o.marks s r (its_fresh r)) i u d;
        }

  undo-passes : (a : Act) (k n : ℕ) → Passes (step_in actor a k k t o) (from_undo (step_in actor a k k t o)) k n
  unfolding from_undo
  undo-passes a k n = record { has = λ i d. d; grows = λ j x z l u. u; none = λ i j x z v u d. d }

  undo-calm : (r : Outcome) → some is_rash (from_undo r).log ≡ false → some is_rash r.log ≡ false
  unfolding from_undo
  undo-calm r e = e

  first-thru : (a : Act) (l : Acts) (y₀ c : ℕ) → t < c + size a → Thru (step_in actor a y₀ c t o) a c → ThruIn (step_among actor (more a l) false y₀ c t o) (more a l) c
  first-thru a l y₀ c h w = thru-first h (subst (λ (q : Outcome). Thru q a c) (sym (its-first actor a l y₀ c t o h)) w)

  later-thru : (a : Act) (l : Acts) (y₀ c : ℕ) → c + size a ≤ t → ThruIn (step_among actor l false y₀ (c + size a) t o) l (c + size a) → ThruIn (step_among actor (more a l) false y₀ c t o) (more a l) c
  later-thru a l y₀ c h w = thru-later h (subst (λ (q : Outcome). ThruIn q l (c + size a)) (sym (its-later actor a l y₀ c t o h)) w)

  calm-first : (a : Act) (l : Acts) (y₀ c : ℕ) → t < c + size a → some is_rash (step_among actor (more a l) false y₀ c t o).log ≡ false → some is_rash (step_in actor a y₀ c t o).log ≡ false
  calm-first a l y₀ c h e = subst (λ (q : Outcome). some is_rash q.log ≡ false) (its-first actor a l y₀ c t o h) e

  calm-later : (a : Act) (l : Acts) (y₀ c : ℕ) → c + size a ≤ t → some is_rash (step_among actor (more a l) false y₀ c t o).log ≡ false → some is_rash (step_among actor l false y₀ (c + size a) t o).log ≡ false
  calm-later a l y₀ c h e = subst (λ (q : Outcome). some is_rash q.log ≡ false) (its-later actor a l y₀ c t o h) e

  -- a scope is no sequence
  no-sequence : (xs : List ℕ) (v : Bool) → eqb (kind (scope xs v)) 8 ≡ true → ⊥
  unfolding kind
  no-sequence [] true e = false≢true e
  no-sequence [] false e = false≢true e
  no-sequence (x ∷ xs) v e = false≢true e

  -- in the i-th of a list
  thru-nth : {r : Outcome} (i : ℕ) (l : Acts) (c : ℕ) → i < count l → part_at i l c ≤ t → t < part_at i l c + size (part i l) → Thru r (part i l) (part_at i l c) → ThruIn r l c
  unfolding part part_at count
  thru-nth i none c n lo hi w = absurd (omega arith)
  thru-nth zero (more a l) c n lo hi w = thru-first hi w
  thru-nth (suc i) (more a l) c n lo hi w = thru-later {a = a} {c = c} (omega (arith, part-from i l (c + size a))) (thru-nth i l (c + size a) (omega arith) lo hi w)

  -- what f knows of the parts
  within-known : {own : Own} {within : Acts} {k : ℕ} → Knows f (act own within) k → KnowsIn f within (k + 1)
  within-known (knows e n r y) = y

  first-known : {a : Act} {l : Acts} {c : ℕ} → KnowsIn f (more a l) c → Knows f a c
  first-known (knows_more x y) = x

  later-known : {a : Act} {l : Acts} {c : ℕ} → KnowsIn f (more a l) c → KnowsIn f l (c + size a)
  later-known (knows_more x y) = y

  -- the numbers of a scope
  its-within-scope : (xs : List ℕ) (z₀ : Bool) (b g : Act) (u : Acts) (k : ℕ) → Knows f (act (scope xs z₀) (trio b g u)) k → Within f (scope_at xs k (trio b g u)) (k + 1) (k + 1 + sizes (trio b g u))
  its-within-scope xs z₀ b g u k (knows e n r y) = scope-within f xs (ap is_scope_kind e ∙ scope-kind (scope xs z₀)) (scope-needs f (scope xs z₀) (count (trio b g u)) refl n) y

  module _ {n : Name} {ns : List Name} (xs : List ℕ) (z₀ : Bool) (b g : Act) (u : Acts) (y₀ k : ℕ) (h : Seat p (scope_at xs k (trio b g u))) (sb : Sits p (body_of (inner k) ns n) b (k + 1)) (x : Knows f (act (scope xs z₀) (trio b g u)) k)
      (m : k + (1 + (size b + (size g + sizes u))) ≤ length o.marks) (lt : k < t) (w : WaitsIn o.marks (trio b g u) (k + 1) t false) (c : some is_rash (step_in actor (act (scope xs z₀) (trio b g u)) y₀ k t o).log ≡ false) where
    abbrev Whole-step : Outcome
    Whole-step = step_in actor (act (scope xs z₀) (trio b g u)) y₀ k t o

    abbrev Body-step : Outcome
    Body-step = step_in actor b (k + 1) (k + 1) t o

    abbrev Fault-step : ℕ → Outcome
    Fault-step i = step_in actor (part i (more g u)) (part_at i (more g u) (k + 1 + size b)) (part_at i (more g u) (k + 1 + size b)) t o

    in-body : (t < k + 1 + size b) → Thru Whole-step b (k + 1) → Thru Whole-step (act (scope xs z₀) (trio b g u)) k
    in-body e v = thru-in lt (λ d. absurd (no-sequence xs z₀ d)) (thru-first e v)

    in-fault : (i : ℕ) → i < count (more g u) → k + 1 + size b ≤ t → part_at i (more g u) (k + 1 + size b) ≤ t → t < part_at i (more g u) (k + 1 + size b) + size (part i (more g u))
        → Thru Whole-step (part i (more g u)) (part_at i (more g u) (k + 1 + size b)) → Thru Whole-step (act (scope xs z₀) (trio b g u)) k
    in-fault i n d lo hi v = thru-in lt (λ d. absurd (no-sequence xs z₀ d)) (thru-later d (thru-nth i (more g u) (k + 1 + size b) n lo hi v))

    calm-body : Whole-step ≡ from_body (scope_at xs k (trio b g u)) Body-step → some is_rash (from_body (scope_at xs k (trio b g u)) Body-step).log ≡ false
    calm-body q = subst (λ (q : Outcome). some is_rash q.log ≡ false) q c

    calm-its : Whole-step ≡ from_body (scope_at xs k (trio b g u)) Body-step → some is_rash Body-step.log ≡ false
    calm-its q = calmer _ _ (body_has is_rash (scope_at xs k (trio b g u)) Body-step) (calm-body q)

    W : Within f (scope_at xs k (trio b g u)) (k + 1) (k + 1 + sizes (trio b g u))
    W = its-within-scope xs z₀ b g u k x

    turned-thru : Turned o.marks xs (get_or o.marks k 0) b (k + 1) (more g u) (k + 1 + size b)
        → ((y : Bool) → Waits o.marks b (k + 1) t y → y ≡ false → Stopped o.marks b (k + 1) → some is_rash Body-step.log ≡ false → Thru Body-step b (k + 1))
        → ((y : Bool) → Waits o.marks b (k + 1) t y → y ≡ false → Undoing o.marks b (k + 1) → (v : Bool) → phase (get_or o.marks k 0) ≡ Phase.undoes v → some is_rash Body-step.log ≡ false → Thru Body-step b (k + 1))
        → ((i : ℕ) → i ≤ length xs → i < count (more g u) → (y : Bool) → Waits o.marks (part i (more g u)) (part_at i (more g u) (k + 1 + size b)) t y → y ≡ false
        → Run o.marks (part i (more g u)) (part_at i (more g u) (k + 1 + size b)) → phase (get_or o.marks k 0) ≡ heals → some is_rash (Fault-step i).log ≡ false
        → Thru (Fault-step i) (part i (more g u)) (part_at i (more g u) (k + 1 + size b)))
        → Thru Whole-step (act (scope xs z₀) (trio b g u)) k
    unfolding size part part_at Its Whole
    turned-thru r i j l = go r w
      where
        go : Turned o.marks xs (get_or o.marks k 0) b (k + 1) (more g u) (k + 1 + size b) → WaitsIn o.marks (trio b g u) (k + 1) t false → Thru Whole-step (act (scope xs z₀) (trio b g u)) k
        go (turned-waits d z n y) (waits-first e v) =
            let a = steps-stopped p actor sb (k + 1) t o false refl v refl z (omega arith) in
            let q = body-step p actor xs z₀ b g u y₀ k t (get_or o.marks k 0) o lt e (a.kept.below k (omega arith)) (turned-not-rest (turned-waits {xs = xs} {l = more g u} d z n y)) in
            in-body e (subst (λ (q : Outcome). Thru q b (k + 1)) (sym q)
            (thru-map (waits-passes (scope_at xs k (trio b g u)) h (k + 1) (k + 1 + sizes (trio b g u)) W (omega arith) (omega arith) (λ j a d. omega arith) (calm-body q) a)
            (i false v refl z (calm-its q)) (omega arith) (omega arith)))
        go (turned-undoes {w = a} d z y) (waits-first e v) =
            let r = awake-first p actor (λ n. mark_of n o) (inner k) ns a d in
            let s = steps-undoing p actor sb (k + 1) t o false refl v refl z (inner k) r (a, ap (λ (n : Name). phase (mark_of n o)) r ∙ d) (omega arith) in
            let q = body-step p actor xs z₀ b g u y₀ k t (get_or o.marks k 0) o lt e (s.kept.below k (omega arith)) (turned-not-rest (turned-undoes {xs = xs} {l = more g u} d z y)) in
            in-body e (subst (λ (q : Outcome). Thru q b (k + 1)) (sym q)
            (thru-map (undoes-passes (scope_at xs k (trio b g u)) h (k + 1) (k + 1 + sizes (trio b g u)) W (omega arith) (omega arith) (λ j a d. omega arith) (calm-body q) a d s)
            (j false v refl z a d (calm-its q)) (omega arith) (omega arith)))
        go (turned-heals d z y) (waits-first e v) = absurd (quiet-waits v refl z)
        go (turned-waits d z _ y) (waits-later a v) = absurd (quiet-waits-in v refl y)
        go (turned-undoes d z y) (waits-later a v) = absurd (quiet-waits-in v refl y)
        go (turned-heals d z y) (waits-later a v) =
            let e = nth-waits y v refl in
            let i₁ = choice_on xs (get_or o.marks k 0) in
            let le : i₁ ≤ length xs = omega (arith, choice-least xs (get_or o.marks k 0), general-is xs) in
            let k₁ = part_at i₁ (more g u) (k + 1 + size b) in
            let lo = part-from i₁ (more g u) (k + 1 + size b) in
            let hi = part-to i₁ (more g u) (k + 1 + size b) (nth-there y) in
            let q = fault-step p actor xs z₀ b g u y₀ k i₁ t o le (nth-there y) e.0 e.1 in
            let c₁ : some is_rash (from_fault (scope_at xs k (trio b g u)) (Fault-step i₁)).log ≡ false = subst (λ (z : Outcome). some is_rash z.log ≡ false) q c in
            in-fault i₁ (nth-there y) a e.0 e.1 (subst (λ (q : Outcome). Thru q (part i₁ (more g u)) k₁) (sym q)
            (thru-map (fault-passes (scope_at xs k (trio b g u)) h (k + 1) (k + 1 + sizes (trio b g u)) W (omega arith) (omega arith) (λ j a d. omega arith) (part i₁ (more g u)) k₁
            (part-knows f (later-known (within-known x)) i₁ (nth-there y)) (omega arith) (λ j a d. omega arith) c₁)
            (l i₁ le (nth-there y) false e.2 refl (nth-run y) d (calmer _ _ (fault-has is_rash (scope_at xs k (trio b g u)) (Fault-step i₁)) c₁)) (omega arith) (omega arith)))

    live-thru : get_or o.marks k 0 ≡ active → Run o.marks b (k + 1) → Quiet o.marks (k + 1 + size b) (size g + sizes u)
        → (Waits o.marks b (k + 1) t false → some is_rash Body-step.log ≡ false → Thru Body-step b (k + 1)) → Thru Whole-step (act (scope xs z₀) (trio b g u)) k
    unfolding size part part_at Its Whole
    live-thru d r q j = go w
      where
        go : WaitsIn o.marks (trio b g u) (k + 1) t false → Thru Whole-step (act (scope xs z₀) (trio b g u)) k
        go (waits-first e v) =
            let a = steps p actor sb (k + 1) t o false refl v refl r (ap phase d) (omega arith) in
            let i = body-step p actor xs z₀ b g u y₀ k t active o lt e (a.kept.below k (omega arith) ∙ d) (λ n. absurd (omega (arith, n))) in
            in-body e (subst (λ (q : Outcome). Thru q b (k + 1)) (sym i)
            (thru-map (live-passes (scope_at xs k (trio b g u)) h (k + 1) (k + 1 + sizes (trio b g u)) W (omega arith) (omega arith) (λ j a d. omega arith) (calm-body i) d a)
            (j v (calm-its i)) (omega arith) (omega arith)))
        go (waits-later a (waits-first e v)) = absurd (quiet-waits v refl (quiet-part q (omega arith) (omega arith)))
        go (waits-later a (waits-later e v)) = absurd (quiet-waits-in v refl (quiet-part q (omega arith) (omega arith)))

  -- What the mutual block below asks of each kind of activity, with what it finds of the parts as premises: so that each is checked by itself.
  part_by : (own : Own) (within : Acts) (y₀ k : ℕ) (b : Bool) → is_scope own ≡ false → Knows f (act own within) k → Waits o.marks (act own within) k t b → b ≡ false → Run o.marks (act own within) k
      → k + size (act own within) ≤ length o.marks → Acted k (size (act own within)) o (RunAs p (act own within) k t o) (step_in actor (act own within) y₀ k t o) → some is_rash (step_in actor (act own within) y₀ k t o).log ≡ false
      → ((c : Bool) → WaitsIn o.marks within (k + 1) t c → c ≡ false → One o.marks within (k + 1) → k + 1 + sizes within ≤ length o.marks → some is_rash (step_among actor within false y₀ (k + 1) t o).log ≡ false
      → ThruIn (step_among actor within false y₀ (k + 1) t o) within (k + 1))
      → ((c : Bool) → WaitsIn o.marks within (k + 1) t c → c ≡ false → All o.marks within (k + 1) → k + 1 + sizes within ≤ length o.marks → some is_rash (step_among actor within false y₀ (k + 1) t o).log ≡ false
      → ThruIn (step_among actor within false y₀ (k + 1) t o) within (k + 1))
      → Thru (step_in actor (act own within) y₀ k t o) (act own within) k
  unfolding size
  part_by own within y₀ k b s x w q run m a c one all =
      let m₁ : k + 1 + sizes within ≤ length o.marks = omega arith in
      part-thru own within y₀ k b s x w q run m₁ a c (λ d w₁ e₁ r₁ c₁. one d w₁ e₁ r₁ m₁ c₁) (λ d w₁ e₁ r₁ c₁. all d w₁ e₁ r₁ m₁ c₁)

  module _ {n : Name} {ns : List Name} (xs : List ℕ) (z₀ : Bool) (b g : Act) (u : Acts) (y₀ k : ℕ) (h : Seat p (scope_at xs k (trio b g u))) (sb : Sits p (body_of (inner k) ns n) b (k + 1)) (x : Knows f (act (scope xs z₀) (trio b g u)) k)
      (m : k + (1 + (size b + (size g + sizes u))) ≤ length o.marks)
      (i : (y : Bool) → Waits o.marks b (k + 1) t y → y ≡ false → Stopped o.marks b (k + 1) → k + 1 + size b ≤ length o.marks → some is_rash (step_in actor b (k + 1) (k + 1) t o).log ≡ false → Thru (step_in actor b (k + 1) (k + 1) t o) b (k + 1))
      (j : (y : Bool) → Waits o.marks b (k + 1) t y → y ≡ false → Undoing o.marks b (k + 1) → (v : Bool) → phase (get_or o.marks k 0) ≡ Phase.undoes v → k + 1 + size b ≤ length o.marks
      → some is_rash (step_in actor b (k + 1) (k + 1) t o).log ≡ false → Thru (step_in actor b (k + 1) (k + 1) t o) b (k + 1))
      (l : (i : ℕ) → i ≤ length xs → i < count (more g u) → (y : Bool) → Waits o.marks (part i (more g u)) (part_at i (more g u) (k + 1 + size b)) t y → y ≡ false
      → Run o.marks (part i (more g u)) (part_at i (more g u) (k + 1 + size b)) → phase (get_or o.marks k 0) ≡ heals
      → some is_rash (step_in actor (part i (more g u)) (part_at i (more g u) (k + 1 + size b)) (part_at i (more g u) (k + 1 + size b)) t o).log ≡ false
      → Thru (step_in actor (part i (more g u)) (part_at i (more g u) (k + 1 + size b)) (part_at i (more g u) (k + 1 + size b)) t o) (part i (more g u)) (part_at i (more g u) (k + 1 + size b))) where
    -- one that has turned, with the lengths that its parts ask for
    turned_by : k < t → WaitsIn o.marks (trio b g u) (k + 1) t false → some is_rash (step_in actor (act (scope xs z₀) (trio b g u)) y₀ k t o).log ≡ false
        → Turned o.marks xs (get_or o.marks k 0) b (k + 1) (more g u) (k + 1 + size b) → Thru (step_in actor (act (scope xs z₀) (trio b g u)) y₀ k t o) (act (scope xs z₀) (trio b g u)) k
    turned_by lt w c r =
        turned-thru {n = n} {ns = ns} xs z₀ b g u y₀ k h sb x m lt w c r (λ y w₁ e₁ r₁ c₁. i y w₁ e₁ r₁ (omega arith) c₁) (λ y w₁ e₁ r₁ v z c₁. j y w₁ e₁ r₁ v z (omega arith) c₁) l

    scope-run-by : (c : Bool) → Waits o.marks (act (scope xs z₀) (trio b g u)) k t c → Run o.marks (act (scope xs z₀) (trio b g u)) k → some is_rash (step_in actor (act (scope xs z₀) (trio b g u)) y₀ k t o).log ≡ false
        → ((y : Bool) → Waits o.marks b (k + 1) t y → y ≡ false → Run o.marks b (k + 1) → phase (get_or o.marks k 0) ≡ live → k + 1 + size b ≤ length o.marks → some is_rash (step_in actor b (k + 1) (k + 1) t o).log ≡ false
        → Thru (step_in actor b (k + 1) (k + 1) t o) b (k + 1))
        → Thru (step_in actor (act (scope xs z₀) (trio b g u)) y₀ k t o) (act (scope xs z₀) (trio b g u)) k
    unfolding size
    scope-run-by c (waits-itself e d) r z q = thru-here e
    scope-run-by c (waits-within lt w) (run-awaits s d y v) z q = absurd (false≢true (sym s))
    scope-run-by c (waits-within lt w) (run-one s d y) z q = absurd (false≢true (sym s))
    scope-run-by c (waits-within lt w) (run-body d r v) z q = live-thru {n = n} {ns = ns} xs z₀ b g u y₀ k h sb x m lt w z d r v (λ w₁ c₁. q false w₁ refl r (ap phase d) (omega arith) c₁)
    scope-run-by c (waits-within lt w) (run-done d v) z q = absurd (quiet-waits-in w refl (quiet-part v (omega arith) (omega arith)))
    scope-run-by c (waits-within lt w) (run-turned d) z q = turned_by lt w z d

    scope-stopped-by : (c : Bool) → Waits o.marks (act (scope xs z₀) (trio b g u)) k t c → c ≡ false → Stopped o.marks (act (scope xs z₀) (trio b g u)) k → some is_rash (step_in actor (act (scope xs z₀) (trio b g u)) y₀ k t o).log ≡ false
        → Thru (step_in actor (act (scope xs z₀) (trio b g u)) y₀ k t o) (act (scope xs z₀) (trio b g u)) k
    scope-stopped-by c w q (stopped-part s e d) z = absurd (false≢true (sym s))
    scope-stopped-by c w q (stopped-quiet e) z = absurd (quiet-waits w q e)
    scope-stopped-by c (waits-itself e d) q (stopped-scope y) z = thru-here e
    scope-stopped-by c (waits-within lt w) q (stopped-scope y) z = turned_by lt w z y

  -- one whose undo part runs, and one that was looked through
  scope-undoing-by : (xs : List ℕ) (b g : Act) (u : Acts) (y₀ k : ℕ) (c : Bool) → Waits o.marks (act (scope xs true) (trio b g u)) k t c → Undoing o.marks (act (scope xs true) (trio b g u)) k
      → some is_rash (step_in actor (act (scope xs true) (trio b g u)) y₀ k t o).log ≡ false
      → (Waits o.marks (part (undo_part xs) (trio b g u)) (part_at (undo_part xs) (trio b g u) (k + 1)) t false → Nth o.marks (undo_part xs) (trio b g u) (k + 1)
      → some is_rash (step_in actor (part (undo_part xs) (trio b g u)) (part_at (undo_part xs) (trio b g u) (k + 1)) (part_at (undo_part xs) (trio b g u) (k + 1)) t o).log ≡ false
      → Thru (step_in actor (part (undo_part xs) (trio b g u)) (part_at (undo_part xs) (trio b g u) (k + 1)) (part_at (undo_part xs) (trio b g u) (k + 1)) t o) (part (undo_part xs) (trio b g u)) (part_at (undo_part xs) (trio b g u) (k + 1)))
      → Thru (step_in actor (act (scope xs true) (trio b g u)) y₀ k t o) (act (scope xs true) (trio b g u)) k
  scope-undoing-by xs b g u y₀ k c (waits-itself e d) q z i = thru-here e
  scope-undoing-by xs b g u y₀ k c (waits-within h w) (undoing-part s _ _) z i = absurd (false≢true (sym s))
  scope-undoing-by xs b g u y₀ k c (waits-within h w) (undoing-scope x n r) z i =
      let d = nth-waits r w refl in
      let a = part (undo_part xs) (trio b g u) in
      let k₁ = part_at (undo_part xs) (trio b g u) (k + 1) in
      let e = undo-step p actor xs b g u y₀ k t o (nth-there r) d.0 d.1 in
      thru-in h (λ d. absurd (no-sequence xs true d)) (thru-nth (undo_part xs) (trio b g u) (k + 1) (nth-there r) d.0 d.1
      (subst (λ (v : Outcome). Thru v a k₁) (sym e)
      (thru-map (undo-passes a k₁ (size a)) (i d.2 r (undo-calm (step_in actor a k₁ k₁ t o) (subst (λ (v : Outcome). some is_rash v.log ≡ false) e z))) (omega arith) (omega arith))))

  scope-through-by : {m₀ : Name} (xs : List ℕ) (b g : Act) (u : Acts) (y₀ k : ℕ) (c : Bool) → Waits o.marks (act (scope xs false) (trio b g u)) k t c → get_or o.marks k 0 ≡ idle → Quiet o.marks (k + 1 + size b) (size g + sizes u)
      → some is_rash (step_in actor (act (scope xs false) (trio b g u)) y₀ k t o).log ≡ false
      → (Waits o.marks b (k + 1) t false → Acted (k + 1) (size b) o (UndoAs p m₀ b (k + 1) t o) (step_in actor b (k + 1) (k + 1) t o))
      → (Waits o.marks b (k + 1) t false → some is_rash (step_in actor b (k + 1) (k + 1) t o).log ≡ false → Thru (step_in actor b (k + 1) (k + 1) t o) b (k + 1))
      → Thru (step_in actor (act (scope xs false) (trio b g u)) y₀ k t o) (act (scope xs false) (trio b g u)) k
  unfolding size
  scope-through-by xs b g u y₀ k c (waits-itself e d) x q z a i = thru-here e
  scope-through-by {m₀ = m₀} xs b g u y₀ k c (waits-within h (waits-first h₁ w)) x q z a i =
      let e = through-is p actor xs b g u y₀ k t m₀ o x h h₁ (a w) in
      thru-in h (λ d. absurd (no-sequence xs false d)) (thru-first h₁ (subst (λ (v : Outcome). Thru v b (k + 1)) (sym e) (i w (subst (λ (v : Outcome). some is_rash v.log ≡ false) e z))))
  scope-through-by xs b g u y₀ k c (waits-within h (waits-later h₁ w)) x q z a i = absurd (quiet-waits-in w refl q)

  part-stopped-by : (own : Own) (within : Acts) (y₀ k : ℕ) (b : Bool) {x : Place} → is_scope own ≡ false → SitsIn p x within (k + 1) → PartOf x y₀ → Knows f (act own within) k → Waits o.marks (act own within) k t b → Stopped o.marks (act own within) k
      → k + size (act own within) ≤ length o.marks → some is_rash (step_in actor (act own within) y₀ k t o).log ≡ false
      → ((c : Bool) → WaitsIn o.marks within (k + 1) t c → c ≡ false → StoppedIn o.marks within (k + 1) → k + 1 + sizes within ≤ length o.marks → some is_rash (step_among actor within false y₀ (k + 1) t o).log ≡ false
      → ThruIn (step_among actor within false y₀ (k + 1) t o) within (k + 1))
      → Thru (step_in actor (act own within) y₀ k t o) (act own within) k
  unfolding size kind
  part-stopped-by own within y₀ k b s y y₁ x (waits-itself e d) r m z i = thru-here e
  part-stopped-by own within y₀ k b s y y₁ x (waits-within h w) (stopped-part s₁ e j) m z i =
      let c = opens-idle own (get_or o.marks k 0) e in
      idle-thru own within y₀ k x s e (stopped-part-not p actor j w c) h (omega arith) (steps-stopped-in p actor y y₀ t o _ y₁ w c j (omega arith)) z (λ c₁. i _ w c j (omega arith) c₁)
  part-stopped-by own within y₀ k b s y y₁ x (waits-within h w) (stopped-quiet j) m z i =
      absurd (quiet-waits-in w (opens-idle own (get_or o.marks k 0) (j.at k (omega arith) (omega arith))) (quiet-part j (omega arith) (omega arith)))
  part-stopped-by own within y₀ k b s y y₁ x (waits-within h w) (stopped-scope e) m z i = absurd (false≢true (sym s))

  part-undoing-by : (own : Own) (within : Acts) (y₀ k : ℕ) (b : Bool) {x : Place} → is_scope own ≡ false → SitsIn p x within (k + 1) → PartOf x y₀ → (m₀ : Name) → runner_at (λ n. mark_of n o) (name_of x) (beyond_of x) ≡ m₀ → Fit (undo_of (name_of x) (beyond_of x) (last_of x)) o → Knows f (act own within) k → Waits o.marks (act own within) k t b
      → Undoing o.marks (act own within) k → k + size (act own within) ≤ length o.marks → some is_rash (step_in actor (act own within) y₀ k t o).log ≡ false
      → ((c : Bool) → WaitsIn o.marks within (k + 1) t c → c ≡ false → UndoingIn o.marks within (k + 1) → k + 1 + sizes within ≤ length o.marks → some is_rash (step_among actor within false y₀ (k + 1) t o).log ≡ false
      → ThruIn (step_among actor within false y₀ (k + 1) t o) within (k + 1))
      → Thru (step_in actor (act own within) y₀ k t o) (act own within) k
  unfolding size kind
  part-undoing-by own within y₀ k b s y y₁ m₀ y₂ v x (waits-itself e d) r m z i = thru-here e
  part-undoing-by own within y₀ k b s y y₁ m₀ y₂ v x (waits-within h w) (undoing-part s₁ e j) m z i =
      let c = opens-idle own (get_or o.marks k 0) e in
      idle-thru own within y₀ k x s e (undoing-part-not p actor j w c) h (omega arith) (steps-undoing-in p actor y y₀ t o _ y₁ w c j m₀ y₂ v (omega arith)) z (λ c₁. i _ w c j (omega arith) c₁)
  part-undoing-by own within y₀ k b s y y₁ m₀ y₂ v x (waits-within h w) (undoing-scope e j q) m z i = absurd (false≢true (sym s))
  part-undoing-by own within y₀ k b s y y₁ m₀ y₂ v x (waits-within h w) (undoing-through e j q) m z i = absurd (false≢true (sym s))

  -- lists: the one with the step, or a later one
  one-by : (a : Act) (l : Acts) (y₀ c : ℕ) (b : Bool) → WaitsIn o.marks (more a l) c t b → b ≡ false → One o.marks (more a l) c → c + sizes (more a l) ≤ length o.marks → some is_rash (step_among actor (more a l) false y₀ c t o).log ≡ false
      → (Waits o.marks a c t b → Run o.marks a c → c + size a ≤ length o.marks → some is_rash (step_in actor a y₀ c t o).log ≡ false → Thru (step_in actor a y₀ c t o) a c)
      → (WaitsIn o.marks l (c + size a) t b → One o.marks l (c + size a) → c + size a + sizes l ≤ length o.marks → some is_rash (step_among actor l false y₀ (c + size a) t o).log ≡ false
      → ThruIn (step_among actor l false y₀ (c + size a) t o) l (c + size a))
      → ThruIn (step_among actor (more a l) false y₀ c t o) (more a l) c
  unfolding size
  one-by a l y₀ c b (waits-first h w) e (one-here r q) m i f g = first-thru a l y₀ c h (f w r (omega arith) (calm-first a l y₀ c h i))
  one-by a l y₀ c b (waits-later h w) e (one-here r q) m i f g = absurd (quiet-waits-in w e q)
  one-by a l y₀ c b (waits-first h w) e (one_later q r) m i f g = absurd (quiet-waits w e q)
  one-by a l y₀ c b (waits-later h w) e (one_later q r) m i f g = later-thru a l y₀ c h (g w r (omega arith) (calm-later a l y₀ c h i))

  all-by : (a : Act) (l : Acts) (y₀ c : ℕ) (b : Bool) → WaitsIn o.marks (more a l) c t b → b ≡ false → All o.marks (more a l) c → c + sizes (more a l) ≤ length o.marks → some is_rash (step_among actor (more a l) false y₀ c t o).log ≡ false
      → (Waits o.marks a c t b → Run o.marks a c → c + size a ≤ length o.marks → some is_rash (step_in actor a y₀ c t o).log ≡ false → Thru (step_in actor a y₀ c t o) a c)
      → (WaitsIn o.marks l (c + size a) t b → All o.marks l (c + size a) → c + size a + sizes l ≤ length o.marks → some is_rash (step_among actor l false y₀ (c + size a) t o).log ≡ false
      → ThruIn (step_among actor l false y₀ (c + size a) t o) l (c + size a))
      → ThruIn (step_among actor (more a l) false y₀ c t o) (more a l) c
  unfolding size
  all-by a l y₀ c b (waits-first h w) e (all-run r q) m i f g = first-thru a l y₀ c h (f w r (omega arith) (calm-first a l y₀ c h i))
  all-by a l y₀ c b (waits-first h w) e (all_quiet q r) m i f g = absurd (quiet-waits w e q)
  all-by a l y₀ c b (waits-later h w) e (all-run r q) m i f g = later-thru a l y₀ c h (g w q (omega arith) (calm-later a l y₀ c h i))
  all-by a l y₀ c b (waits-later h w) e (all_quiet q r) m i f g = later-thru a l y₀ c h (g w r (omega arith) (calm-later a l y₀ c h i))

  stopped_by : (a : Act) (l : Acts) (y₀ c : ℕ) (b : Bool) → WaitsIn o.marks (more a l) c t b → StoppedIn o.marks (more a l) c → c + sizes (more a l) ≤ length o.marks → some is_rash (step_among actor (more a l) false y₀ c t o).log ≡ false
      → (Waits o.marks a c t b → Stopped o.marks a c → c + size a ≤ length o.marks → some is_rash (step_in actor a y₀ c t o).log ≡ false → Thru (step_in actor a y₀ c t o) a c)
      → (WaitsIn o.marks l (c + size a) t b → StoppedIn o.marks l (c + size a) → c + size a + sizes l ≤ length o.marks → some is_rash (step_among actor l false y₀ (c + size a) t o).log ≡ false
      → ThruIn (step_among actor l false y₀ (c + size a) t o) l (c + size a))
      → ThruIn (step_among actor (more a l) false y₀ c t o) (more a l) c
  unfolding size
  stopped_by a l y₀ c b (waits-first h w) (stopped_more r q) m i f g = first-thru a l y₀ c h (f w r (omega arith) (calm-first a l y₀ c h i))
  stopped_by a l y₀ c b (waits-later h w) (stopped_more r q) m i f g = later-thru a l y₀ c h (g w q (omega arith) (calm-later a l y₀ c h i))

  undoing-by : (a : Act) (l : Acts) (y₀ c : ℕ) (b : Bool) → WaitsIn o.marks (more a l) c t b → b ≡ false → UndoingIn o.marks (more a l) c → c + sizes (more a l) ≤ length o.marks → some is_rash (step_among actor (more a l) false y₀ c t o).log ≡ false
      → (Waits o.marks a c t b → Undoing o.marks a c → c + size a ≤ length o.marks → some is_rash (step_in actor a y₀ c t o).log ≡ false → Thru (step_in actor a y₀ c t o) a c)
      → (WaitsIn o.marks l (c + size a) t b → UndoingIn o.marks l (c + size a) → c + size a + sizes l ≤ length o.marks → some is_rash (step_among actor l false y₀ (c + size a) t o).log ≡ false
      → ThruIn (step_among actor l false y₀ (c + size a) t o) l (c + size a))
      → ThruIn (step_among actor (more a l) false y₀ c t o) (more a l) c
  unfolding size
  undoing-by a l y₀ c b (waits-first h w) e (undoing-here r q) m i f g = first-thru a l y₀ c h (f w r (omega arith) (calm-first a l y₀ c h i))
  undoing-by a l y₀ c b (waits-later h w) e (undoing-here r q) m i f g = absurd (quiet-waits-in w e q)
  undoing-by a l y₀ c b (waits-first h w) e (undoing-later q r) m i f g = absurd (quiet-waits w e q)
  undoing-by a l y₀ c b (waits-later h w) e (undoing-later q r) m i f g = later-thru a l y₀ c h (g w r (omega arith) (calm-later a l y₀ c h i))

  mutual
    unfolding size part part_at

    pub thru-run : {x : Place} {a : Act} {k : ℕ} → Sits p x a k → Knows f a k → (y₀ : ℕ) → PartOf x y₀ → (b : Bool) → Waits o.marks a k t b → b ≡ false → Run o.marks a k → Fit x o → k + size a ≤ length o.marks
        → some is_rash (step_in actor a y₀ k t o).log ≡ false → Thru (step_in actor a y₀ k t o) a k
    thru-run (sits-part {q = x} {own} {within} {k} s g u y l) z y₀ y₁ b w q run v m c =
        part_by own within y₀ k b s z w q run m (steps p actor (sits-part s g u y l) y₀ t o b y₁ w q run v m) c
        (λ d w₁ e₁ r₁ m₁ c₁. thru-one l (within-known z) y₀ y₁ d w₁ e₁ r₁ v m₁ c₁) (λ d w₁ e₁ r₁ m₁ c₁. thru-all l (within-known z) y₀ y₁ d w₁ e₁ r₁ v m₁ c₁)
    thru-run (sits-scope {xs} {v = z₀} {n} {c = a} {ns} {b} {f = g} {u} {k} kn d i sb y) z y₀ y₁ c w q run v m e =
        scope-run-by xs z₀ b g u y₀ k (seat-of kn d i sb y) sb z m
        (λ x w₁ e₁ r₁ m₁ c₁. thru-stopped sb (first-known (within-known z)) (k + 1) refl x w₁ e₁ r₁ m₁ c₁)
        (λ x w₁ e₁ r₁ v z₁ m₁ c₁. let r = awake-first p actor (λ n. mark_of n o) (inner k) (cond z₀ [] (n ∷ ns)) v z₁ in
        thru-undoing sb (first-known (within-known z)) (k + 1) refl x w₁ e₁ r₁ (inner k) r (v, ap (λ (n : Name). phase (mark_of n o)) r ∙ z₁) m₁ c₁)
        (λ j le n₁ x w₁ e₁ r₁ z₁ c₁. thru-healers y (later-known (within-known z)) j x le (λ _. tt) w₁ e₁ r₁ z₁ (omega arith) c₁)
        c w run e
        (λ x w₁ e₁ r₁ z₁ m₁ c₁. thru-run sb (first-known (within-known z)) (k + 1) refl x w₁ e₁ r₁ z₁ m₁ c₁)

    thru-one : {x : Place} {l : Acts} {c : ℕ} → SitsIn p x l c → KnowsIn f l c → (y₀ : ℕ) → PartOf x y₀ → (b : Bool) → WaitsIn o.marks l c t b → b ≡ false → One o.marks l c → Fit x o → c + sizes l ≤ length o.marks
        → some is_rash (step_among actor l false y₀ c t o).log ≡ false → ThruIn (step_among actor l false y₀ c t o) l c
    thru-one (sits-none {q = q} {c = c}) z y₀ y₁ b w e r v m i = elim w [ ]
    thru-one (sits-more {q = x} {a} {l} {c} s y) z y₀ y₁ b w e r v m i =
        one-by a l y₀ c b w e r m i (λ w₁ r₁ m₁ c₁. thru-run s (first-known z) y₀ y₁ b w₁ e r₁ v m₁ c₁) (λ w₁ r₁ m₁ c₁. thru-one y (later-known z) y₀ y₁ b w₁ e r₁ v m₁ c₁)

    thru-all : {x : Place} {l : Acts} {c : ℕ} → SitsIn p x l c → KnowsIn f l c → (y₀ : ℕ) → PartOf x y₀ → (b : Bool) → WaitsIn o.marks l c t b → b ≡ false → All o.marks l c → Fit x o → c + sizes l ≤ length o.marks
        → some is_rash (step_among actor l false y₀ c t o).log ≡ false → ThruIn (step_among actor l false y₀ c t o) l c
    thru-all (sits-none {q = q} {c = c}) z y₀ y₁ b w e r v m i = elim w [ ]
    thru-all (sits-more {q = x} {a} {l} {c} s y) z y₀ y₁ b w e r v m i =
        all-by a l y₀ c b w e r m i (λ w₁ r₁ m₁ c₁. thru-run s (first-known z) y₀ y₁ b w₁ e r₁ v m₁ c₁) (λ w₁ r₁ m₁ c₁. thru-all y (later-known z) y₀ y₁ b w₁ e r₁ v m₁ c₁)

    pub thru-stopped : {x : Place} {a : Act} {k : ℕ} → Sits p x a k → Knows f a k → (y₀ : ℕ) → PartOf x y₀ → (b : Bool) → Waits o.marks a k t b → b ≡ false → Stopped o.marks a k → k + size a ≤ length o.marks
        → some is_rash (step_in actor a y₀ k t o).log ≡ false → Thru (step_in actor a y₀ k t o) a k
    thru-stopped (sits-part {q = x} {own} {within} {k} s g u y l) z y₀ y₁ b w q r m c =
        part-stopped-by own within y₀ k b s l y₁ z w r m c (λ d w₁ e₁ r₁ m₁ c₁. thru-stopped-in l (within-known z) y₀ y₁ d w₁ e₁ r₁ m₁ c₁)
    thru-stopped (sits-scope {xs} {v = z₀} {n} {c = a} {ns} {b} {f = g} {u} {k} kn d i sb y) z y₀ y₁ c w q r m e =
        scope-stopped-by xs z₀ b g u y₀ k (seat-of kn d i sb y) sb z m
        (λ x w₁ e₁ r₁ m₁ c₁. thru-stopped sb (first-known (within-known z)) (k + 1) refl x w₁ e₁ r₁ m₁ c₁)
        (λ x w₁ e₁ r₁ v z₁ m₁ c₁. let r = awake-first p actor (λ n. mark_of n o) (inner k) (cond z₀ [] (n ∷ ns)) v z₁ in
        thru-undoing sb (first-known (within-known z)) (k + 1) refl x w₁ e₁ r₁ (inner k) r (v, ap (λ (n : Name). phase (mark_of n o)) r ∙ z₁) m₁ c₁)
        (λ j le n₁ x w₁ e₁ r₁ z₁ c₁. thru-healers y (later-known (within-known z)) j x le (λ _. tt) w₁ e₁ r₁ z₁ (omega arith) c₁)
        c w q r e

    thru-stopped-in : {x : Place} {l : Acts} {c : ℕ} → SitsIn p x l c → KnowsIn f l c → (y₀ : ℕ) → PartOf x y₀ → (b : Bool) → WaitsIn o.marks l c t b → b ≡ false → StoppedIn o.marks l c → c + sizes l ≤ length o.marks
        → some is_rash (step_among actor l false y₀ c t o).log ≡ false → ThruIn (step_among actor l false y₀ c t o) l c
    thru-stopped-in (sits-none {q = q} {c = c}) z y₀ y₁ b w e r m i = elim w [ ]
    thru-stopped-in (sits-more {q = x} {a} {l} {c} s y) z y₀ y₁ b w e r m i =
        stopped_by a l y₀ c b w r m i (λ w₁ r₁ m₁ c₁. thru-stopped s (first-known z) y₀ y₁ b w₁ e r₁ m₁ c₁) (λ w₁ r₁ m₁ c₁. thru-stopped-in y (later-known z) y₀ y₁ b w₁ e r₁ m₁ c₁)

    pub thru-undoing : {x : Place} {a : Act} {k : ℕ} → Sits p x a k → Knows f a k → (y₀ : ℕ) → PartOf x y₀ → (b : Bool) → Waits o.marks a k t b → b ≡ false → Undoing o.marks a k → (m₀ : Name) → runner_at (λ n. mark_of n o) (name_of x) (beyond_of x) ≡ m₀ → Fit (undo_of (name_of x) (beyond_of x) (last_of x)) o
        → k + size a ≤ length o.marks → some is_rash (step_in actor a y₀ k t o).log ≡ false → Thru (step_in actor a y₀ k t o) a k
    thru-undoing (sits-part {q = x} {own} {within} {k} s g u y l) z y₀ y₁ b w q r m₀ y₂ v m c =
        part-undoing-by own within y₀ k b s l y₁ m₀ y₂ v z w r m c (λ d w₁ e₁ r₁ m₁ c₁. thru-undoing-in l (within-known z) y₀ y₁ d w₁ e₁ r₁ m₀ y₂ v m₁ c₁)
    thru-undoing (sits-scope {xs} {v = true} {b = b} {f = g} {u} {k} kn d i sb y) z y₀ y₁ c w q run m₀ y₂ v m e =
        scope-undoing-by xs b g u y₀ k c w run e
        (λ w₁ r c₁. thru-undoer y refl (later-known (within-known z)) false (λ _. tt) w₁ refl (nth-run r) v (omega arith) c₁)
    thru-undoing (sits-scope {v = false} kn d i sb y) z y₀ y₁ c w q (undoing-part s j r) m₀ y₂ v m e = absurd (false≢true (sym s))
    thru-undoing (sits-scope {xs} {v = false} {b = b} {f = g} {u = u} {k = k} kn d i sb y) z y₀ y₁ c w q (undoing-through x j r) m₀ y₂ v m e =
        scope-through-by {m₀ = m₀} xs b g u y₀ k c w x r e (λ w₁. steps-undoing p actor sb (k + 1) t o false refl w₁ refl j m₀ (rw x y₂) (rw x v) (omega arith))
        (λ w₁ c₁. thru-undoing sb (first-known (within-known z)) (k + 1) refl false w₁ refl j m₀ (rw x y₂) (rw x v) (omega arith) c₁)

    thru-undoing-in : {x : Place} {l : Acts} {c : ℕ} → SitsIn p x l c → KnowsIn f l c → (y₀ : ℕ) → PartOf x y₀ → (b : Bool) → WaitsIn o.marks l c t b → b ≡ false → UndoingIn o.marks l c → (m₀ : Name) → runner_at (λ n. mark_of n o) (name_of x) (beyond_of x) ≡ m₀ → Fit (undo_of (name_of x) (beyond_of x) (last_of x)) o
        → c + sizes l ≤ length o.marks → some is_rash (step_among actor l false y₀ c t o).log ≡ false → ThruIn (step_among actor l false y₀ c t o) l c
    thru-undoing-in (sits-none {q = q} {c = c}) z y₀ y₁ b w e r m₀ y₂ v m i = elim w [ ]
    thru-undoing-in (sits-more {q = x} {a} {l} {c} s y) z y₀ y₁ b w e r m₀ y₂ v m i =
        undoing-by a l y₀ c b w e r m i (λ w₁ r₁ m₁ c₁. thru-undoing s (first-known z) y₀ y₁ b w₁ e r₁ m₀ y₂ v m₁ c₁) (λ w₁ r₁ m₁ c₁. thru-undoing-in y (later-known z) y₀ y₁ b w₁ e r₁ m₀ y₂ v m₁ c₁)

    -- in one of the fault parts of a scope, in its undo part
    thru-healers : {s : Name} {xs : List ℕ} {z : Bool} {q y : Place} {l : Acts} {c : ℕ} → Healers p s xs z q y l c → KnowsIn f l c → (i : ℕ) (b : Bool) → i ≤ length xs → ((j : ℕ) → PartOf q j)
        → Waits o.marks (part i l) (part_at i l c) t b → b ≡ false → Run o.marks (part i l) (part_at i l c) → Fit q o → c + sizes l ≤ length o.marks
        → some is_rash (step_in actor (part i l) (part_at i l c) (part_at i l c) t o).log ≡ false → Thru (step_in actor (part i l) (part_at i l c) (part_at i l c) t o) (part i l) (part_at i l c)
    thru-healers (heals-by {c} y a h) z zero b n d w e r v m i = thru-part a (first-known z) c (d c) b w e r v (omega arith) i
    thru-healers (heals-by y a h) z (suc j) b n d w e r v m i = thru-healers h (later-known z) j b (omega arith) d w e r v (omega arith) i
    thru-healers (heals-all {c} y a h) z zero b n d w e r v m i = thru-part a (first-known z) c (d c) b w e r v (omega arith) i
    thru-healers (heals-all y a h) z (suc j) b n d w e r v m i = absurd (omega arith)

    thru-undoer : {s : Name} {xs : List ℕ} {z : Bool} {q y : Place} {l : Acts} {c : ℕ} → Healers p s xs z q y l c → z ≡ true → KnowsIn f l c → (b : Bool) → ((j : ℕ) → PartOf y j)
        → Waits o.marks (part (general_part xs) l) (part_at (general_part xs) l c) t b → b ≡ false → Run o.marks (part (general_part xs) l) (part_at (general_part xs) l c) → Fit y o → c + sizes l ≤ length o.marks
        → some is_rash (step_in actor (part (general_part xs) l) (part_at (general_part xs) l c) (part_at (general_part xs) l c) t o).log ≡ false
        → Thru (step_in actor (part (general_part xs) l) (part_at (general_part xs) l c) (part_at (general_part xs) l c) t o) (part (general_part xs) l) (part_at (general_part xs) l c)
    thru-undoer (heals-by y a h) n z b d w e r v m i = thru-undoer h n (later-known z) b d w e r v (omega arith) i
    thru-undoer (heals-all y a h) n z b d w e r v m i = thru-rest h n (later-known z) b d w e r v (omega arith) i

    thru-rest : {v₀ : Bool} {y : Place} {l : Acts} {c : ℕ} → Rest p v₀ y l c → v₀ ≡ true → KnowsIn f l c → (b : Bool) → ((j : ℕ) → PartOf y j)
        → Waits o.marks (part 0 l) (part_at 0 l c) t b → b ≡ false → Run o.marks (part 0 l) (part_at 0 l c) → Fit y o → c + sizes l ≤ length o.marks
        → some is_rash (step_in actor (part 0 l) (part_at 0 l c) (part_at 0 l c) t o).log ≡ false → Thru (step_in actor (part 0 l) (part_at 0 l c) (part_at 0 l c) t o) (part 0 l) (part_at 0 l c)
    thru-rest (rest-undo {k} su) n z b d w e r v m i = thru-part su (first-known z) k (d k) b w e r v (omega arith) i
    thru-rest rest-none n z b d w e r v m i = absurd (false≢true n)

    pub thru-part : {x : Place} {a : Act} {k : ℕ} → Remedy p x a k → Knows f a k → (y₀ : ℕ) → PartOf x y₀ → (b : Bool) → Waits o.marks a k t b → b ≡ false → Run o.marks a k → Fit x o → k + size a ≤ length o.marks
        → some is_rash (step_in actor a y₀ k t o).log ≡ false → Thru (step_in actor a y₀ k t o) a k
    thru-part (remedy {q = x} {own} {within} {k} s a g u z₁ l d) z y₀ y₁ b w q run v m c =
        part_by own within y₀ k b s z w q run m (steps-part p actor (remedy s a g u z₁ l d) y₀ t o b y₁ w q run v m) c
        (λ d w₁ e₁ r₁ m₁ c₁. thru-one l (within-known z) y₀ y₁ d w₁ e₁ r₁ v m₁ c₁) (λ d w₁ e₁ r₁ m₁ c₁. thru-all l (within-known z) y₀ y₁ d w₁ e₁ r₁ v m₁ c₁)
