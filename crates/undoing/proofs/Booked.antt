-- What a buyer has written down of an order agrees with the order, and does so after each step of it. Assumes nothing.
use Prim.Native.Nat.{ℕ, ◌+◌, ◌≤◌, ◌<◌}
use native.Mathlib.Omega.{arith}
use mathlib.Core.Path.{◌≡◌, refl, sym, ap, subst, ◌∙◌}
use mathlib.Core.Bool.{Bool, true, false, not, ◌||◌, false≢true, or-true}
use mathlib.Core.List.{List, [], ◌∷◌, reverse, map}
use lib.ListN.{length}
use lib.Dec.{eqb}
use borrow.Author.Tests.{eqb-true, eq-eqb, lt-ltb, le-ltb}
use Rattle.plan.specs.Tree.{Act, Acts, Plan, size}
use Rattle.order.specs.declared.Closing.{Closing}
use Rattle.order.specs.declared.Order.{Order}
use Rattle.order.specs.declared.End.TheVariants.{None}
use Rattle.order.specs.Lists.{some, only}
use Rattle.order.specs.State.{state_in, choice_in, mark_with, Name, root, idle, active, faulty, undoing, handling, halted, withdrawing, with_root, mark_of, causing}
use Rattle.order.specs.Expression.{conflicting_receive}
use Rattle.order.specs.Event.{Event, faulted}
use Rattle.order.specs.Begin.{Begun, begin}
use Rattle.order.specs.declared.Way.{Way as Result}
use Rattle.order.specs.declared.Way.TheVariants.{Running as running, Over as over, Raising as raising, Leaving as leaving, Undone as undone, UndoRaising as undo_raising}
use Rattle.order.specs.Scope.{Outcome, runs, after, begun_in, where_over, Scope, root_of, chosen_part, chosen_at, choice_for, is_open, inner_runs, remembered_for, undo, ends, handle, undoes, turns, stop, faults, breaks, looks_again, body_over, undo_over, undo_raised, part_over, part_raised, from_body, from_fault}
use Rattle.order.specs.Acting.{Actor, its_own, in_place, step_in, step_root}
use Rattle.order.proofs.Chosen.{choice-with}
use Rattle.undoing.specs.Demand3.{Inner, inside_of, closings_of}
use Rattle.undoing.specs.Ties.{Place, undo_of, run_at, seen, place_now, body_of_name, fits, is_deed}
use Rattle.undoing.specs.Answered.{back_of, is_close, is_back, Book, putting, without, is_due, paid, noted, may_note}
use Rattle.undoing.proofs.Parts.{decide}
use Rattle.undoing.proofs.Accounts.{Phase, live, waits, heals, phase, phase-faulty, phase-undoing, phase-handling}
use Rattle.undoing.proofs.Moves.{HoldsAt, tied_at, move-fault}
use Rattle.undoing.proofs.Marks.{Quiet, Run, Turned, turned-waits, turned-undoes, turned-heals, Stopped, Undoing, Stoppable, not-open, quiet-agree, agree-below, agree-above}
use Rattle.undoing.proofs.Orders.{list_of, moment_of, onto, Does}
use Rattle.undoing.proofs.Healing.{other-mark, only-runs, one-quiet, quiet_one}
use Rattle.undoing.proofs.Seats.{faulting-elsewhere, stopped-rests, remembered-list}
use Rattle.undoing.proofs.Undo.{UndoneAs, Undone, undoes-list}
use Rattle.undoing.proofs.Turning.{TurnsAs, handles}
use Rattle.undoing.proofs.Stopping.{Stops, stops}
use Rattle.undoing.proofs.Waiting.{Waits, quiet-waits}
use Rattle.undoing.proofs.Scoping.{looks-is, over-is, raised_is, Acted, RunAs, StopAs, UndoAs, scope_live, scope-done, scope-turned, Running, waits-mark, undoes-mark, no-heals}
use Rattle.undoing.proofs.Stepping.{awake-first, steps, steps-stopped, steps-undoing, steps-part}
use Rattle.undoing.proofs.Roots.{Awaited, in-body, in-fault, Standing, root-fault, choice-none, root_is}
use Rattle.undoing.proofs.Planning.{Promised}
use Rattle.undoing.proofs.Judged.{is_take, Fitting, doing-body}
use Rattle.undoing.proofs.Aside.{stop-silent}
use Rattle.undoing.proofs.Deeds.{deeds-aside}
use Rattle.undoing.proofs.Fitting.{standing-fits}
use Rattle.undoing.proofs.Ending.{is_start, start-kept}
use Rattle.undoing.proofs.Owing.{undo_left_in, undo-quiet, undo-run, undo-stopped}
use Rattle.undoing.proofs.Repaying.{due_in, Repays, RepaysAs, undo-repays, undo-due, back-place, Back, left_back, none-without, close-place, dues_of, PaysAs, undo-pays}
use Rattle.undoing.proofs.Upsetting.{undo-raises}
use Rattle.undoing.proofs.Pushing.{dues_onto, onto-dues, direct-close, dues_with, step-dues}

-- what is due for closings at the root, those directly inside it, and what an order owes
abbrev pub dues_in : Plan → List ℕ → List (List ℕ)
dues_in p l = dues_of (due_in p.body 0) l

abbrev pub owed : Plan → Order → List (List ℕ)
owed p o = putting (undo_left_in p.body 0 o.marks) (dues_in p (list_of p root o))

-- the mark of a root that has begun to undo
abbrev pub begun_mark : ℕ → Bool
begun_mark m = (eqb (state_in m) undoing || eqb m withdrawing) || eqb (state_in m) handling

-- A book agrees with an order: the same is due, and taking back has begun only where the root has come to it.
pub record Agrees (p : Plan) (o : Order) (a : Book) : Type 0 where
  pub due : owed p o ≡ a.due
  pub calm : begun_mark o.root ≡ false → a.begun ≡ false

-- the same of an outcome; where the root is over nothing is due
abbrev pub SettledAs : Plan → (due : List (List ℕ)) → (begun : Bool) → Order → Result → Type 0
SettledAs p d b o running = (owed p o ≡ d) × (begun_mark o.root ≡ false → b ≡ false)
SettledAs p d b o over = d ≡ []
SettledAs p d b o (raising x) = Unit {0}
SettledAs p d b o leaving = Unit {0}
SettledAs p d b o undone = Unit {0}
SettledAs p d b o (undo_raising x) = Unit {0}

abbrev pub Settled : Plan → (due : List (List ℕ)) → (begun : Bool) → Outcome → Type 0
Settled p d b r = SettledAs p d b r.order r.result

-- What is written down of a step; of a raise in place of a receive nothing, since nobody answers it. And whether it may be.
abbrev pub written : Actor → Plan → (t : ℕ) → Book → Book
written its_own p t a = noted p root t a
written in_place p t a = a

abbrev pub May : Actor → Plan → (t : ℕ) → Book → Type 0
May its_own p t a = may_note p root t a ≡ true
May in_place p t a = Unit {0}

-- what the tests say of the mark of a root that waits, that undoes, that handles
waits-none : (m : ℕ) → phase m ≡ waits true → (eqb (state_in m) undoing || eqb m withdrawing) ≡ false
waits-none m q =
    rw (eqb-true (state_in m) faulty (waits-mark m q).0, other-mark m withdrawing (waits true) q (λ d. let z : ◌≡◌ {A = ℕ} 0 1 = cc in omega arith))

waits-calm : (m : ℕ) → phase m ≡ waits true → begun_mark m ≡ false
waits-calm m q = rw (waits-none m q, eqb-true (state_in m) faulty (waits-mark m q).0)

undo-mark : (m : ℕ) → phase m ≡ Phase.undoes true → (eqb (state_in m) undoing || eqb m withdrawing) ≡ true
undo-mark m q = rw (undoes-mark m q).0

begun-undoes : (m : ℕ) → phase m ≡ Phase.undoes true → begun_mark m ≡ true
begun-undoes m q = rw (undoes-mark m q).0

heals-mark : (m : ℕ) → phase m ≡ heals → eqb (state_in m) handling ≡ true
heals-mark m q = decide (eqb (state_in m) handling) (λ z. z) (λ z. absurd (no-heals m z q))

begun-heals : (m : ℕ) → phase m ≡ heals → begun_mark m ≡ true
begun-heals m q = rw (heals-mark m q, or-true)

heals-none : (m : ℕ) → phase m ≡ heals → (eqb (state_in m) undoing || eqb m withdrawing) ≡ false
heals-none m q = rw (eqb-true (state_in m) handling (heals-mark m q), other-mark m withdrawing heals q (λ d. let z : ◌≡◌ {A = ℕ} 0 1 = cc in omega arith))

-- how one that waits looks again, and one that undoes
looks-waits : (s : Scope) (o : Order) → phase (mark_of s.name o) ≡ waits true → looks_again s o ≡ turns true s o
looks-waits s o q = looks-is s o (mark_of s.name o) refl ∙ rw (waits-mark (mark_of s.name o) q).0

looks-undoes : (s : Scope) (o : Order) → phase (mark_of s.name o) ≡ Phase.undoes true → looks_again s o ≡ runs o
looks-undoes s o q =
    looks-is s o (mark_of s.name o) refl
    ∙ rw (eqb-true (state_in (mark_of s.name o)) undoing (undoes-mark (mark_of s.name o) q).0, other-mark (mark_of s.name o) halted (Phase.undoes true) q (λ d. let z : ◌≡◌ {A = ℕ} 0 1 = cc in omega arith))

over-waits : (s : Scope) (o : Order) → phase (mark_of s.name o) ≡ waits true → body_over s o ≡ looks_again s o
over-waits s o q = over-is s o (mark_of s.name o) refl ∙ rw (other-mark (mark_of s.name o) active (waits true) q (λ d. let z : ◌≡◌ {A = ℕ} 0 1 = cc in omega arith))

-- a root that runs its fault part has a quiet body
heals-quiet : {ms xs : List ℕ} {m kb kf : ℕ} {b : Act} {l : Acts} → Turned ms xs m b kb l kf → phase m ≡ heals → Quiet ms kb (size b)
heals-quiet (turned-waits {w = w} e x n y) d = absurd (let z : heals ≡ waits w = sym d ∙ e in let x : ◌≡◌ {A = ℕ} 0 1 = cc in omega arith)
heals-quiet (turned-undoes {w = w} e x y) d = absurd (let z : heals ≡ Phase.undoes w = sym d ∙ e in let x : ◌≡◌ {A = ℕ} 0 1 = cc in omega arith)
heals-quiet (turned-heals e q r) d = q

-- nothing runs and nothing is remembered
quiet-owed : (p : Plan) (o : Order) → undo_left_in p.body 0 o.marks ≡ [] → owed p o ≡ dues_in p (list_of p root o)
quiet-owed p o e = ap (λ (l : List ℕ). putting l (dues_in p (list_of p root o))) e

pub none-owed : (p : Plan) (o : Order) → undo_left_in p.body 0 o.marks ≡ [] → list_of p root o ≡ [] → owed p o ≡ []
unfolding dues_of
none-owed p o e l = quiet-owed p o e ∙ ap (dues_in p) l

-- one of some scopes, by its number
pub some-find : {P : Type 0} (f : ℕ → Bool) (l : List Inner) → some (λ x. f x.number) l ≡ true → ((e : ℕ) → some (λ x. eqb x.number e) l ≡ true → f e ≡ true → P) → P
unfolding some
some-find f [] h g = absurd (false≢true h)
some-find f (x ∷ l) h g =
    decide (f x.number)
    (λ e. g x.number (rw (eq-eqb x.number x.number refl)) e)
    (λ e. some-find f l (rw e at h) (λ i a b. g i (rw (a, or-true)) b))

pub some-found : (f : ℕ → Bool) (e : ℕ) (l : List Inner) → some (λ x. eqb x.number e) l ≡ true → f e ≡ true → some (λ x. f x.number) l ≡ true
unfolding some
some-found f e [] h g = absurd (false≢true h)
some-found f e (x ∷ l) h g =
    decide (eqb x.number e)
    (λ i. rw (ap f (eqb-true x.number e i) ∙ g))
    (λ i. rw (some-found f e l (rw i at h) g, or-true))

-- a step that is due is paid
paid-put : (t : ℕ) (l : List ℕ) (d : List (List ℕ)) → some (eqb t) l ≡ true → (paid t (putting l d) ≡ putting (without t l) d) × (is_due t (putting l d) ≡ true)
unfolding some
paid-put t [] d h = absurd (false≢true h)
paid-put t (x ∷ l) d h = (refl, h)

module _ (p : Plan) (h : Promised p) where
  -- The root undoes, handles and ends.
  handle-settles : (b : Bool) (o : Order) → phase o.root ≡ Phase.undoes true → list_of p root o ≡ [] → Quiet o.marks 0 (size p.body) → Quiet o.marks (size p.body) (size p.fault)
      → size p.body + size p.fault ≤ length o.marks → Settled p [] b (handle (root_of p) o)
  unfolding handle size
  handle-settles b o e l z y m = go (begin (chosen_part c (root_of p)) (chosen_at c (root_of p)) o.marks).over (handles p (root_of p) o h.seat e l z (quiet_one p.fault y) (omega arith)).comes
    where
      c : ℕ
      c = choice_in o.root

      r : Begun
      r = begin (chosen_part c (root_of p)) (chosen_at c (root_of p)) o.marks

      handled : Bool → Outcome
      handled v = where_over (ends (root_of p)) (begun_in (with_root (mark_with c handling) o) (record { marks = r.marks; over = v; log = r.log }))

      go : (v : Bool) → TurnsAs p (root_of p) o (handled v).log (handled v).order (handled v).result → Settled p [] b (handled v)
      go true c₁ = refl
      go false c₁ =
          (none-owed p (handled false).order (undo-quiet h.seat.body r.marks (heals-quiet c₁.0 (phase-handling c))) l, λ x. absurd (false≢true (sym x ∙ begun-heals (mark_with c handling) (phase-handling c))))

  undoes-settles : (b : Bool) (o : Order) → Quiet o.marks 0 (size p.body) → Quiet o.marks (size p.body) (size p.fault) → size p.body + size p.fault ≤ length o.marks
      → Settled p (dues_in p (list_of p root o)) b (undoes true (root_of p) o)
  unfolding undoes
  undoes-settles b o z y m = go r.result u.comes pays
    where
      s : Scope
      s = root_of p

      o' : Order
      o' = with_root (mark_with (choice_in o.root) undoing) o

      l : List ℕ
      l = remembered_for s o'

      i : l ≡ list_of p root o
      i = remembered-list p s o' h.seat

      r : Outcome
      r = undo l s o'

      u : Undone p s o' r
      u = undoes-list p true s l o' h.seat (phase-undoing (choice_in o.root)) z (omega arith) (sym i)

      pays : PaysAs p s (dues_of (due_in p.body 0) l) r.order r.result
      pays = undo-pays p true s l o' h.seat (phase-undoing (choice_in o.root)) z (omega arith) (sym i)

      go : (x : Result) → UndoneAs p s r.order x → PaysAs p s (dues_of (due_in p.body 0) l) r.order x
          → Settled p (dues_in p (list_of p root o)) b (where_over (handle s) (record { result = x; order = r.order; log = r.log }))
      go running c d = (d ∙ ap (dues_in p) i, λ x. absurd (false≢true (sym x ∙ begun-undoes r.order.root (ap phase u.rooted ∙ phase-undoing (choice_in o.root)))))
      go over c d =
          subst (λ (e : List (List ℕ)). Settled p e b (after r.log (handle s r.order))) (sym (ap (dues_in p) (sym i) ∙ d))
          (handle-settles b r.order (ap phase u.rooted ∙ phase-undoing (choice_in o.root)) c.1 c.0 (quiet-agree y (agree-above u.kept (omega arith))) (omega (arith, u.kept.many)))
      go (raising x) c d = absurd c
      go leaving c d = absurd c
      go undone c d = absurd c
      go (undo_raising x) c d = absurd c

  turns-settles : (o : Order) → Stopped o.marks p.body 0 → Quiet o.marks (size p.body) (size p.fault) → size p.body + size p.fault ≤ length o.marks
      → Settled p (dues_in p (list_of p root o)) false (turns true (root_of p) o)
  unfolding turns
  turns-settles o t y m = go (inner_runs p.body 0 o.marks) refl
    where
      go : (b : Bool) → inner_runs p.body 0 o.marks ≡ b → Settled p (dues_in p (list_of p root o)) false (after [] (elim b [ true ↦ runs o | false ↦ undoes true (root_of p) o ]))
      go true e = (quiet-owed p o (undo-stopped h.seat.body t), λ x. refl)
      go false e = undoes-settles false o (stopped-rests t e) y m

  faults-settles : (number : ℕ) (o : Order) (past : List Event) → o.root ≡ active → Stoppable o.marks p.body 0 → Quiet o.marks (size p.body) (size p.fault)
      → size p.body + size p.fault ≤ length o.marks → HoldsAt p (moment_of p o) past → Settled p (dues_in p (list_of p root o)) false (faults number (root_of p) o)
  unfolding faults only is_deed some is_start dues_onto
  faults-settles number o past e t y m g =
      subst (λ (d : List (List ℕ)). Settled p d false (turns true (root_of p) o₂)) same-dues
      (turns-settles o₂ r.stands (quiet-agree y (agree-above r.kept (omega arith))) (omega (arith, r.kept.many)))
    where
      o₁ : Order
      o₁ = causing root number (with_root (mark_with (choice_for number (root_of p)) faulty) o)

      o₂ : Order
      o₂ = (stop p.body 0 o₁).order

      l : List Event
      l = (stop p.body 0 o₁).log

      r : Stops p (λ ms. Stopped ms p.body 0) 0 (size p.body) o₁ (stop p.body 0 o₁)
      r = stops p h.seat.body o₁ (phase-faulty (choice_for number (root_of p))) t (omega arith)

      g₁ : HoldsAt p (moment_of p o₁) (faulted root number ∷ past)
      g₁ =
          (move-fault p (moment_of p o) (moment_of p o₁) past g root number refl (ap phase e) (phase-faulty (choice_for number (root_of p))) (choice-with (choice_for number (root_of p)) faulty (omega arith) ∙ h.seat.choice number) refl
          (faulting-elsewhere p root number (mark_with (choice_for number (root_of p)) faulty) o)).1

      g₂ : HoldsAt p (moment_of p o₂) (onto l (faulted root number ∷ past))
      g₂ = (r.does.does (faulted root number ∷ past) g₁).1

      still : only is_deed l ≡ []
      still = stop-silent is_deed deeds-aside p.body 0 o₁

      unstarted : some is_start (faulted root number ∷ l) ≡ false
      unstarted = start-kept l ∙ ap (some is_start) still

      same-dues : dues_in p (list_of p root o₂) ≡ dues_in p (list_of p root o)
      same-dues =
          ap (dues_in p) (sym (tied_at p (moment_of p o₂) (moment_of p o₂) (onto l (faulted root number ∷ past)) g₂ (waits true) root refl (ap phase r.rooted ∙ phase-faulty (choice_for number (root_of p)))).3)
          ∙ (onto-dues p h.seat (faulted root number ∷ l) past unstarted ∙ (ap (λ (z : List Event). dues_onto p h.seat z (dues_in p (closings_of p root past))) still
          ∙ ap (dues_in p) (tied_at p (moment_of p o) (moment_of p o) past g live root refl (ap phase e)).3))

  -- Which steps close and take back.
  module _ (t : ℕ) (o : Order) (fit : fits (place_now p o t) o ≡ true) where
    back-of : is_back p root t ≡ true → Back p.body 0 t
    unfolding back_of
    back-of e =
        some-find (λ i. some (eqb t) (back_of p i)) (inside_of p root) e
        (λ i a b. record { scope = i; direct = direct-close p h.seat i ∙ a; takes = b })

    is-back : Back p.body 0 t → is_back p root t ≡ true
    unfolding back_of
    is-back b = some-found (λ i. some (eqb t) (back_of p i)) b.scope (inside_of p root) (sym (direct-close p h.seat b.scope) ∙ b.direct) b.takes

    -- an undo part of one directly inside it is run by the root
    root-runs : (ns : List Name) → ns ≡ [] → (m : Name) → (eqb (state_in o.root) undoing || eqb o.root withdrawing) ≡ fits (seen (λ n. not (eqb (mark_of n o) idle)) (undo_of root ns m)) o
    unfolding run_at
    root-runs ns e m = subst (λ (z : List Name). (eqb (state_in o.root) undoing || eqb o.root withdrawing) ≡ fits (seen (λ n. not (eqb (mark_of n o) idle)) (undo_of root z m)) o) (sym e) refl

    not_back : (eqb (state_in o.root) undoing || eqb o.root withdrawing) ≡ false → is_back p root t ≡ false
    not_back e =
        decide (is_back p root t)
        (λ i. let b = back-of i in absurd (false≢true (sym e ∙ (root-runs h.seat.beyond h.alone h.seat.around
        ∙ (ap (λ (q : Place). fits (seen (λ n. not (eqb (mark_of n o) idle)) q) o) (sym (back-place p.body 0 b.scope t h.seat.body b.direct b.takes)) ∙ fit)))))
        (λ i. i)

    not-close : is_open o.root ≡ false → is_close p root t ≡ false
    not-close e =
        decide (is_close p root t)
        (λ i. absurd (false≢true (sym e ∙ (ap (λ (q : Place). fits (seen (λ n. not (eqb (mark_of n o) idle)) q) o) (sym (close-place p.body 0 t h.seat.body (direct-close p h.seat t ∙ i))) ∙ fit))))
        (λ i. i)

    -- what is noted where nothing is taken back
    noted-calm : (a : Book) (l : List ℕ) → is_back p root t ≡ false → a.due ≡ dues_in p l → a.begun ≡ false
        → (may_note p root t a ≡ true) × ((noted p root t a).due ≡ dues_with p h.seat its_own t (dues_in p l)) × ((noted p root t a).begun ≡ false)
    unfolding noted may_note
    noted-calm a l n d b =
        decide (is_close p root t)
        (λ e. (rw (e, b), rw (e, d), rw (e, b)))
        (λ e. (rw (e, n), rw (e, n, d), rw (e, n, b)))

    -- and where neither is done
    noted-same : (a : Book) → is_back p root t ≡ false → is_close p root t ≡ false → (may_note p root t a ≡ true) × (noted p root t a ≡ a)
    unfolding noted may_note
    noted-same a n e = (rw (e, n), rw (e, n))

    -- the same of what is written
    written-calm : (actor : Actor) (a : Book) (l : List ℕ) → is_back p root t ≡ false → a.due ≡ dues_in p l → a.begun ≡ false
        → May actor p t a × ((written actor p t a).due ≡ dues_with p h.seat actor t (dues_in p l)) × ((written actor p t a).begun ≡ false)
    written-calm its_own a l n d b = noted-calm a l n d b
    written-calm in_place a l n d b = (tt, d, b)

    written_same : (actor : Actor) (a : Book) → is_back p root t ≡ false → is_close p root t ≡ false → May actor p t a × (written actor p t a ≡ a)
    written_same its_own a n e = noted-same a n e
    written_same in_place a n e = (tt, refl)

    -- what is noted where an undo part runs
    noted_undo : (a : Book) (left : List ℕ) (d : List (List ℕ)) → is_close p root t ≡ false → a.due ≡ putting left d → (is_back p root t ≡ true → some (eqb t) left ≡ true)
        → (is_back p root t ≡ false → some (eqb t) left ≡ false) → (may_note p root t a ≡ true) × ((noted p root t a).due ≡ putting (without t left) d)
    unfolding noted may_note
    noted_undo a left d e i f g =
        decide (is_back p root t)
        (λ b. let y = paid-put t left d (f b) in (rw (e, b, i) y.1, rw (e, b, i) y.0))
        (λ b. (rw (e, b), rw (e, b, i) (ap (λ (l : List ℕ). putting l d) (sym (none-without t left (g b))))))

  -- A step of an order that agrees with a book.
  module _ (t : ℕ) (o : Order) (past : List Event) (a : Book) (g : HoldsAt p (moment_of p o) past) (ag : Agrees p o a) (m : size p.body + size p.fault ≤ length o.marks)
      (fit : fits (place_now p o t) o ≡ true) where
    -- in the root's body
    abbrev its : Actor → Outcome
    its actor = step_in actor p.body 0 0 t o

    abbrev Right : Actor → Outcome → Type 0
    Right actor r = May actor p t a × Settled p (written actor p t a).due (written actor p t a).begun r

    -- where nothing is taken back, by what is due then
    right-calm : (actor : Actor) (r : Outcome) → undo_left_in p.body 0 o.marks ≡ [] → begun_mark o.root ≡ false → (eqb (state_in o.root) undoing || eqb o.root withdrawing) ≡ false
        → Settled p (dues_with p h.seat actor t (dues_in p (list_of p root o))) false r → Right actor r
    right-calm actor r e b n w =
        let y = written-calm t o fit actor a (list_of p root o) (not_back t o fit n) (sym ag.due ∙ quiet-owed p o e) (ag.calm b) in
        (y.0, subst (λ (d : List (List ℕ)). Settled p d (written actor p t a).begun r) (sym y.1) (subst (λ (c : Bool). Settled p (dues_with p h.seat actor t (dues_in p (list_of p root o))) c r) (sym y.2) w))

    -- The root is live.
    live-right : (actor : Actor) → Fitting actor p t → t < size p.body → o.root ≡ active → Run o.marks p.body 0 → Quiet o.marks (size p.body) (size p.fault) → Waits o.marks p.body 0 t false → Right actor (from_body (root_of p) (its actor))
    unfolding from_body
    live-right actor j i d r q w =
        right-calm actor (from_body (root_of p) (its actor)) (undo-run h.seat.body r) (rw d) (rw d) (go (its actor).result v.comes)
      where
        v : Acted 0 (size p.body) o (RunAs p p.body 0 t o) (step_in actor p.body 0 0 t o)
        v = steps p actor h.seat.body 0 t o false h.seat.at w refl r (ap phase d) (omega arith)

        o₁ : Order
        o₁ = (step_in actor p.body 0 0 t o).order

        d₁ : o₁.root ≡ active
        d₁ = v.rooted ∙ d

        q₁ : Quiet o₁.marks (size p.body) (size p.fault)
        q₁ = quiet-agree q (agree-above v.kept (omega arith))

        listed : Does p None o (step_in actor p.body 0 0 t o).log o₁ → dues_in p (list_of p root o₁) ≡ dues_with p h.seat actor t (dues_in p (list_of p root o))
        listed c =
            let g₁ = (c.does past g).1 in
            ap (dues_in p) (sym (tied_at p (moment_of p o₁) (moment_of p o₁) (onto (step_in actor p.body 0 0 t o).log past) g₁ live root refl (ap phase d₁)).3)
            ∙ (step-dues p h.seat actor t o past j i ∙ ap (λ (l : List ℕ). dues_with p h.seat actor t (dues_in p l)) (tied_at p (moment_of p o) (moment_of p o) past g live root refl (ap phase d)).3)

        go : (x : Result) → RunAs p p.body 0 t o (step_in actor p.body 0 0 t o).log o₁ x
            → Settled p (dues_with p h.seat actor t (dues_in p (list_of p root o))) false (from_body (root_of p) (record { result = x; order = o₁; log = (step_in actor p.body 0 0 t o).log }))
        go running c =
            subst (λ (z : Outcome). Settled p (dues_with p h.seat actor t (dues_in p (list_of p root o))) false (after (step_in actor p.body 0 0 t o).log z)) (sym (looks-is (root_of p) o₁ active d₁))
            (quiet-owed p o₁ (undo-run h.seat.body c.0) ∙ listed c.1, λ x. refl)
        go over c =
            subst (λ (z : Outcome). Settled p (dues_with p h.seat actor t (dues_in p (list_of p root o))) false (after (step_in actor p.body 0 0 t o).log z)) (sym (over-is (root_of p) o₁ active d₁))
            (quiet-owed p o₁ (undo-quiet h.seat.body o₁.marks c.0) ∙ listed c.1, λ x. refl)
        go (raising x) c =
            subst (λ (z : Outcome). Settled p (dues_with p h.seat actor t (dues_in p (list_of p root o))) false (after (step_in actor p.body 0 0 t o).log z)) (sym (raised_is x (root_of p) o₁ true (rw d₁)))
            (subst (λ (z : List (List ℕ)). Settled p z false (faults x (root_of p) o₁)) (listed c.1)
            (faults-settles x o₁ (onto (step_in actor p.body 0 0 t o).log past) d₁ c.0 q₁ (omega (arith, v.kept.many)) (c.1.does past g).1))
        go leaving c = tt
        go undone c = absurd c
        go (undo_raising x) c = absurd c

    -- It waits for its inner scopes.
    waits-right : (actor : Actor) → Fitting actor p t → t < size p.body → phase o.root ≡ waits true → Stopped o.marks p.body 0 → Quiet o.marks (size p.body) (size p.fault) → Waits o.marks p.body 0 t false → Right actor (from_body (root_of p) (its actor))
    unfolding from_body
    waits-right actor j i d r q w =
        right-calm actor (from_body (root_of p) (its actor)) (undo-stopped h.seat.body r) (waits-calm o.root d) (waits-none o.root d) (go (its actor).result v.comes)
      where
        v : Acted 0 (size p.body) o (StopAs p p.body 0 o) (step_in actor p.body 0 0 t o)
        v = steps-stopped p actor h.seat.body 0 t o false h.seat.at w refl r (omega arith)

        o₁ : Order
        o₁ = (step_in actor p.body 0 0 t o).order

        d₁ : phase o₁.root ≡ waits true
        d₁ = ap phase v.rooted ∙ d

        looks : Stopped o₁.marks p.body 0 → Does p None o (step_in actor p.body 0 0 t o).log o₁
            → Settled p (dues_with p h.seat actor t (dues_in p (list_of p root o))) false (after (step_in actor p.body 0 0 t o).log (looks_again (root_of p) o₁))
        looks s c =
            let g₁ = (c.does past g).1 in
            let e : dues_in p (list_of p root o₁) ≡ dues_with p h.seat actor t (dues_in p (list_of p root o))
            = ap (dues_in p) (sym (tied_at p (moment_of p o₁) (moment_of p o₁) (onto (step_in actor p.body 0 0 t o).log past) g₁ (waits true) root refl d₁).3)
            ∙ (step-dues p h.seat actor t o past j i ∙ ap (λ (l : List ℕ). dues_with p h.seat actor t (dues_in p l)) (tied_at p (moment_of p o) (moment_of p o) past g (waits true) root refl d).3) in
            subst (λ (z : Outcome). Settled p (dues_with p h.seat actor t (dues_in p (list_of p root o))) false (after (step_in actor p.body 0 0 t o).log z)) (sym (looks-waits (root_of p) o₁ d₁))
            (subst (λ (z : List (List ℕ)). Settled p z false (turns true (root_of p) o₁)) e (turns-settles o₁ s (quiet-agree q (agree-above v.kept (omega arith))) (omega (arith, v.kept.many))))

        go : (x : Result) → StopAs p p.body 0 o (step_in actor p.body 0 0 t o).log o₁ x
            → Settled p (dues_with p h.seat actor t (dues_in p (list_of p root o))) false (from_body (root_of p) (record { result = x; order = o₁; log = (step_in actor p.body 0 0 t o).log }))
        go running c = looks c.0 c.1
        go over c =
            subst (λ (z : Outcome). Settled p (dues_with p h.seat actor t (dues_in p (list_of p root o))) false (after (step_in actor p.body 0 0 t o).log z)) (sym (over-waits (root_of p) o₁ d₁)) (looks c.0 c.1)
        go (raising x) c =
            subst (λ (z : Outcome). Settled p (dues_with p h.seat actor t (dues_in p (list_of p root o))) false (after (step_in actor p.body 0 0 t o).log z)) (sym (raised_is x (root_of p) o₁ false (not-open o₁.root (waits true) d₁ (λ e. let z : ◌≡◌ {A = ℕ} 0 1 = cc in omega arith)))) (looks c.0 c.1)
        go leaving c = tt
        go undone c = absurd c
        go (undo_raising x) c = absurd c

    -- One of its undo parts runs.
    undoing-right : (actor : Actor) → Fitting actor p t → t < size p.body → phase o.root ≡ Phase.undoes true → Undoing o.marks p.body 0 → Quiet o.marks (size p.body) (size p.fault) → Waits o.marks p.body 0 t false → Right actor (from_body (root_of p) (its actor))
    unfolding from_body undo_over undo_raised breaks
    undoing-right its_own j i d r q w =
        (y.0, subst (λ (e : List (List ℕ)). Settled p e (noted p root t a).begun (from_body (root_of p) (step_in its_own p.body 0 0 t o))) (sym y.1) (go (step_in its_own p.body 0 0 t o).result v.comes u.less))
      where
        v : Acted 0 (size p.body) o (UndoAs p root p.body 0 t o) (step_in its_own p.body 0 0 t o)
        v = steps-undoing p its_own h.seat.body 0 t o false h.seat.at w refl r root (awake-first p its_own (λ n. mark_of n o) root h.seat.beyond true d) (true, ap (λ (n : Name). phase (mark_of n o)) (awake-first p its_own (λ n. mark_of n o) root h.seat.beyond true d) ∙ d) (omega arith)

        u : Repays (undo_left_in p.body 0) t o (step_in its_own p.body 0 0 t o)
        u = undo-repays p h.seat.body 0 t o false h.seat.at w refl r root (awake-first p its_own (λ n. mark_of n o) root h.seat.beyond true d) (true, ap (λ (n : Name). phase (mark_of n o)) (awake-first p its_own (λ n. mark_of n o) root h.seat.beyond true d) ∙ d) (omega arith)

        left : List ℕ
        left = undo_left_in p.body 0 o.marks

        due : is_back p root t ≡ true → some (eqb t) left ≡ true
        due e = let b = back-of t o fit e in undo-due p.body 0 b.scope t false h.seat.body b.direct w refl r b.takes

        undue : is_back p root t ≡ false → some (eqb t) left ≡ false
        undue e = decide (some (eqb t) left) (λ i. absurd (false≢true (sym e ∙ is-back t o fit (left_back h.seat.body t o.marks i)))) (λ i. i)

        y : (may_note p root t a ≡ true) × ((noted p root t a).due ≡ putting (without t left) (dues_in p (list_of p root o)))
        y = noted_undo t o fit a left (dues_in p (list_of p root o)) (not-close t o fit (not-open o.root (Phase.undoes true) d (λ e. let z : ◌≡◌ {A = ℕ} 0 1 = cc in omega arith))) (sym ag.due) due undue

        o₁ : Order
        o₁ = (step_in its_own p.body 0 0 t o).order

        d₁ : phase o₁.root ≡ Phase.undoes true
        d₁ = ap phase v.rooted ∙ d

        same-list : list_of p root o₁ ≡ list_of p root o
        same-list = ap (λ (c : List Closing). reverse (map (λ x. x.scope) (only (λ x. eqb x.part (body_of_name root)) c))) u.lists

        go : (x : Result) → UndoAs p root p.body 0 t o (step_in its_own p.body 0 0 t o).log o₁ x → RepaysAs (undo_left_in p.body 0) t o.marks o₁.marks x
            → Settled p (putting (without t left) (dues_in p (list_of p root o))) (noted p root t a).begun (from_body (root_of p) (record { result = x; order = o₁; log = (step_in its_own p.body 0 0 t o).log }))
        go running c l =
            subst (λ (z : Outcome). Settled p (putting (without t left) (dues_in p (list_of p root o))) (noted p root t a).begun (after (step_in its_own p.body 0 0 t o).log z)) (sym (looks-undoes (root_of p) o₁ d₁))
            (rw (l, same-list), λ x. absurd (false≢true (sym x ∙ begun-undoes o₁.root d₁)))
        go over c l = absurd c
        go (raising x) c l = absurd c
        go leaving c l = tt
        go undone c l =
            subst (λ (z : Bool). Settled p (putting (without t left) (dues_in p (list_of p root o))) (noted p root t a).begun
            (after (step_in its_own p.body 0 0 t o).log (elim z [ true ↦ undoes true (root_of p) o₁ | false ↦ elim (eqb o₁.root withdrawing) [ true ↦ undoes false (root_of p) o₁ | false ↦ runs o₁ ] ])))
            (sym (undoes-mark o₁.root d₁).0)
            (subst (λ (e : List (List ℕ)). Settled p e (noted p root t a).begun (undoes true (root_of p) o₁)) (ap (dues_in p) same-list ∙ ap (λ (i : List ℕ). putting i (dues_in p (list_of p root o))) (sym l))
            (undoes-settles (noted p root t a).begun o₁ c.0 (quiet-agree q (agree-above v.kept (omega arith))) (omega (arith, v.kept.many))))
        go (undo_raising x) c l =
            subst (λ (z : Bool). Settled p (putting (without t left) (dues_in p (list_of p root o))) (noted p root t a).begun (after (step_in its_own p.body 0 0 t o).log (elim z [ true ↦ breaks x (root_of p) o₁ | false ↦ runs o₁ ])))
            (sym (undo-mark o₁.root d₁)) tt
    undoing-right in_place j i d r q w = (
      tt,
      subst (λ (x : Result). Settled p a.due a.begun (from_body (root_of p) (record { result = x; order = o₁; log = (step_in in_place p.body 0 0 t o).log })))
          (sym (undo-raises p h.seat.body 0 t o false h.seat.at w refl r root (awake-first p in_place (λ n. mark_of n o) root h.seat.beyond true d) (true, ap (λ (n : Name). phase (mark_of n o)) (awake-first p in_place (λ n. mark_of n o) root h.seat.beyond true d) ∙ d) (omega arith) (ap is_take (sym (doing-body p t i)) ∙ j)))
          (subst (λ (z : Bool). Settled p a.due a.begun (after (step_in in_place p.body 0 0 t o).log (elim z [ true ↦ breaks conflicting_receive (root_of p) o₁ | false ↦ runs o₁ ]))) (sym (undo-mark o₁.root d₁)) tt),
    )
      where
        o₁ : Order
        o₁ = (step_in in_place p.body 0 0 t o).order

        d₁ : phase o₁.root ≡ Phase.undoes true
        d₁ = ap phase (steps-undoing p in_place h.seat.body 0 t o false h.seat.at w refl r root (awake-first p in_place (λ n. mark_of n o) root h.seat.beyond true d) (true, ap (λ (n : Name). phase (mark_of n o)) (awake-first p in_place (λ n. mark_of n o) root h.seat.beyond true d) ∙ d) (omega arith)).rooted ∙ d

    -- Its fault part runs.
    heals-right : (actor : Actor) → phase o.root ≡ heals → Quiet o.marks 0 (size p.body) → Run o.marks p.fault (size p.body) → Waits o.marks p.fault (size p.body) t false
        → Right actor (from_fault (root_of p) (step_in actor p.fault (size p.body) (size p.body) t o))
    unfolding from_fault part_over part_raised breaks
    heals-right actor d q r w = (
      y.0,
      subst (λ (b : Book). Settled p b.due b.begun (from_fault (root_of p) (step_in actor p.fault (size p.body) (size p.body) t o))) (sym y.1)
          (subst (λ (e : List (List ℕ)). Settled p e a.begun (from_fault (root_of p) (step_in actor p.fault (size p.body) (size p.body) t o))) (sym none-due ∙ ag.due) (go (step_in actor p.fault (size p.body) (size p.body) t o).result v.comes)),
    )
      where
        y : May actor p t a × (written actor p t a ≡ a)
        y = written_same t o fit actor a (not_back t o fit (heals-none o.root d)) (not-close t o fit (not-open o.root heals d (λ e. let z : ◌≡◌ {A = ℕ} 0 1 = cc in omega arith)))

        v : Acted (size p.body) (size p.fault) o (RunAs p p.fault (size p.body) t o) (step_in actor p.fault (size p.body) (size p.body) t o)
        v = steps-part p actor (root-fault h.seat) (size p.body) t o false tt w refl r d m

        none-due : owed p o ≡ []
        none-due = none-owed p o (undo-quiet h.seat.body o.marks q) (tied_at p (moment_of p o) (moment_of p o) past g heals root refl d).3

        o₁ : Order
        o₁ = (step_in actor p.fault (size p.body) (size p.body) t o).order

        d₁ : phase o₁.root ≡ heals
        d₁ = ap phase v.rooted ∙ d

        go : (x : Result) → RunAs p p.fault (size p.body) t o (step_in actor p.fault (size p.body) (size p.body) t o).log o₁ x
            → Settled p [] a.begun (from_fault (root_of p) (record { result = x; order = o₁; log = (step_in actor p.fault (size p.body) (size p.body) t o).log }))
        go running c = (
          none-owed p o₁ (undo-quiet h.seat.body o₁.marks (quiet-agree q (agree-below v.kept (omega arith))))
              (tied_at p (moment_of p o₁) (moment_of p o₁) (onto (step_in actor p.fault (size p.body) (size p.body) t o).log past) (c.1.does past g).1 heals root refl d₁).3,
          λ x. absurd (false≢true (sym x ∙ begun-heals o₁.root d₁)),
        )
        go over c =
            subst (λ (z : Bool). Settled p [] a.begun (after (step_in actor p.fault (size p.body) (size p.body) t o).log (elim z [ true ↦ ends (root_of p) o₁ | false ↦ runs o₁ ]))) (sym (heals-mark o₁.root d₁)) refl
        go (raising x) c =
            subst (λ (z : Bool). Settled p [] a.begun (after (step_in actor p.fault (size p.body) (size p.body) t o).log (elim z [ true ↦ breaks x (root_of p) o₁ | false ↦ runs o₁ ]))) (sym (heals-mark o₁.root d₁)) tt
        go leaving c = tt
        go undone c = absurd c
        go (undo_raising x) c = absurd c

  -- However it stands.
  pub root-right : (actor : Actor) (t : ℕ) (o : Order) (past : List Event) (a : Book) → Fitting actor p t → Awaited p o.marks t → Standing p o → (o.root ≡ halted → ⊥) → (o.root ≡ withdrawing → ⊥) → HoldsAt p (moment_of p o) past → Agrees p o a
      → May actor p t a × Settled p (written actor p t a).due (written actor p t a).begun (step_root actor p t o)
  root-right actor t o past a fits-so w st x y g ag = go w st.runs
    where
      fit : fits (place_now p o t) o ≡ true
      fit = standing-fits p o t st w

      is-faulty : (v : Bool) → phase o.root ≡ waits v → phase o.root ≡ waits true
      is-faulty true q = q
      is-faulty false q = absurd (x (eqb-true o.root halted (waits-mark o.root q).1))

      is-undoing : (v : Bool) → phase o.root ≡ Phase.undoes v → phase o.root ≡ Phase.undoes true
      is-undoing true q = q
      is-undoing false q = absurd (y (eqb-true o.root withdrawing (undoes-mark o.root q).1))

      go : Awaited p o.marks t → Running (root_of p) o.marks o.root → May actor p t a × Settled p (written actor p t a).due (written actor p t a).begun (step_root actor p t o)
      go (in-body e i) (scope_live d r q) =
          subst (λ (z : Outcome). May actor p t a × Settled p (written actor p t a).due (written actor p t a).begun z) (sym (root_is actor p t o true (lt-ltb t (size p.body) e))) (live-right t o past a g ag st.many fit actor fits-so e d r (one-quiet p.fault q) i)
      go (in-body e i) (scope-done d q z) = absurd (st.going d)
      go (in-body e i) (scope-turned (turned-waits {w = v} q z _ c)) =
          subst (λ (z : Outcome). May actor p t a × Settled p (written actor p t a).due (written actor p t a).begun z) (sym (root_is actor p t o true (lt-ltb t (size p.body) e))) (waits-right t o past a g ag st.many fit actor fits-so e (is-faulty v q) z (one-quiet p.fault c) i)
      go (in-body e i) (scope-turned (turned-undoes {w = v} q z c)) =
          subst (λ (z : Outcome). May actor p t a × Settled p (written actor p t a).due (written actor p t a).begun z) (sym (root_is actor p t o true (lt-ltb t (size p.body) e))) (undoing-right t o past a g ag st.many fit actor fits-so e (is-undoing v q) z (one-quiet p.fault c) i)
      go (in-body e i) (scope-turned (turned-heals q z c)) = absurd (quiet-waits i refl z)
      go (in-fault e i) (scope_live d r q) = absurd (quiet-waits i refl (one-quiet p.fault q))
      go (in-fault e i) (scope-done d q z) = absurd (st.going d)
      go (in-fault e i) (scope-turned (turned-waits q z _ c)) = absurd (quiet-waits i refl (one-quiet p.fault c))
      go (in-fault e i) (scope-turned (turned-undoes q z c)) = absurd (quiet-waits i refl (one-quiet p.fault c))
      go (in-fault e i) (scope-turned (turned-heals q z c)) =
          subst (λ (z : Outcome). May actor p t a × Settled p (written actor p t a).due (written actor p t a).begun z) (sym (root_is actor p t o false (le-ltb t (size p.body) e))) (heals-right t o past a g ag st.many fit actor q z (only-runs c (choice-none o.root)) i)
