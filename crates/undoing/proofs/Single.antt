-- What lasts begins at most once where an activity begins, a scope undoes or a body stops. Assumes nothing.
use Prim.Native.Nat.{ℕ, zero, suc, ◌+◌, ◌≤◌, ◌<◌}
use native.Mathlib.Omega.{arith}
use mathlib.Core.Path.{◌≡◌, refl, sym, ap, subst, ◌∙◌}
use mathlib.Core.Bool.{Bool, true, false, cond, not, ◌&&◌, ◌||◌, false≢true}
use mathlib.Core.List.{List, [], ◌∷◌, ◌++◌}
use lib.ListN.{length, get_or, set, length-set}
use lib.Seq.{get_or-set_same}
use lib.Dec.{eqb, ltb, leb}
use borrow.Author.Tests.{eqb-true, eqb-false, eq-eqb, ltb-true, ltb-false, lt-ltb, le-ltb}
use Rattle.plan.specs.Tree.{Own, empty, send, receive, set as setting, raise, leave, choose, repeat, sequence, flow, pick, scope, arm, kind, Act, act, Acts, none, more, Plan, size, sizes, count, is_scope, has_undo, is_pick, numbers_of, undo_part, general_part}
use Rattle.order.specs.declared.Order.{Order}
use Rattle.order.specs.State.{Name, root, inner, idle, active, inside, faulty, undoing, handling, halted, withdrawing, done, with_marks, closings, remembering, mark_at, marked, mark_of, marking, state_of, going, choice_of}
use Rattle.order.specs.Event.{Event, began, stopped, faulted, ended}
use Rattle.order.specs.Lists.{without_last}
use Rattle.order.specs.Begin.{Begun, nothing_begun, throughout, around, its_beginning, in_turn, side_by_side, begin, begin_in_turn, begin_all, begin_first, begin_after, part, part_at, begin_part}
use Rattle.order.specs.declared.Way.{Way as Result}
use Rattle.order.specs.declared.Way.TheVariants.{Running as running, Over as over, Raising as raising, Leaving as leaving, Undone as undone, UndoRaising as undo_raising}
use Rattle.order.specs.Scope.{Outcome, runs, begun_in, where_over, Scope, scope_at, is_open, inner_runs, inner_runs_in, is_for, begin_undo, begin_undo_first, begin_undo_in, start_undo, undo, ends, handle, undoes, turns, remembered_for, untouched, withdraws, stop, stop_all, stop_first, also_stopped, faults, breaks, looks_again, body_over, body_raised, undo_over, undo_raised, part_over, part_raised, chosen_part, chosen_at}
use Rattle.order.specs.Scope as definitions
use Rattle.undoing.specs.Orderly.{is_began_of}
use Rattle.undoing.specs.Begun.{lasts}
use Rattle.undoing.specs.Entirely.{times}
use Rattle.undoing.proofs.Parts.{both, neither, decide}
use Rattle.undoing.proofs.Truly.{Up, up-other, Arms, needs, Knows, knows, KnowsIn, knows-none, knows_more, Began}
use Rattle.undoing.proofs.Lasting.{KnowsEach, each-knows, undo-began, Halts, stop_halts, stop-all-halts, stop-first-halts}
use Rattle.undoing.proofs.Entire.{times-append, times-event, Starts, Ranks, Named, begin-starts, turn-starts, all-starts, first-starts}
use Rattle.undoing.proofs.Entering.{scope-arms, scope-undo, scope-general, scope-lasts, Strict, StrictIn, undo-strict, stop-strict, stop-all-strict}

module _ (f : ℕ → ℕ) where
  -- what lasts begins at most once; not at all
  pub record Once (l : List Event) : Type 0 where
    pub at : (j : ℕ) → lasts (f j) ≡ true → times j l ≤ 1

  pub record Light (l : List Event) : Type 0 where
    pub at : (j : ℕ) → lasts (f j) ≡ true → times j l ≡ 0

  pub once-none : (l : List Event) → ((j : ℕ) → times j l ≡ 0) → Once l
  once-none l z = record { at = λ j h. let e = z j in omega arith }

  pub light-none : (l : List Event) → ((j : ℕ) → times j l ≡ 0) → Light l
  light-none l z = record { at = λ j h. z j }

  pub light-once : {l : List Event} (m : List Event) → Light l → Once m → Once (l ++ m)
  light-once {l} m w v = record { at = λ j h. let e = times-append j l m in let a = w.at j h in let b = v.at j h in omega arith }

  pub once-light : (l : List Event) {m : List Event} → Once l → Light m → Once (l ++ m)
  once-light l {m} w v = record { at = λ j h. let e = times-append j l m in let a = w.at j h in let b = v.at j h in omega arith }

  light-light : {l : List Event} (m : List Event) → Light l → Light m → Light (l ++ m)
  light-light {l} m w v = record { at = λ j h. let e = times-append j l m in let a = w.at j h in let b = v.at j h in omega arith }

  pub once-event : (e : Event) (l : List Event) → ((j : ℕ) → is_began_of (eqb j) e ≡ false) → Once l → Once (e ∷ l)
  once-event e l n w = record { at = λ j h. let z = times-event j e l (n j) in let a = w.at j h in omega arith }

  light-event : (e : Event) (l : List Event) → ((j : ℕ) → is_began_of (eqb j) e ≡ false) → Light l → Light (e ∷ l)
  light-event e l n w = record { at = λ j h. times-event j e l (n j) ∙ w.at j h }

  -- Beginnings: each number at most once, and nothing that lasts where it is over.
  pub record Onto (b : Begun) : Type 0 where
    pub once : (j : ℕ) → times j b.log ≤ 1
    pub light : b.over ≡ true → (j : ℕ) → lasts (f j) ≡ true → times j b.log ≡ 0

  onto-nothing : (ms : List ℕ) → Onto (nothing_begun ms)
  unfolding times
  onto-nothing ms = record { once = λ j. omega arith; light = λ e j h. refl }

  single : (k j : ℕ) → times j (began k ∷ []) ≤ 1
  unfolding times is_began_of
  single k j = decide (eqb j k) (λ e. rw e (omega arith)) (λ e. rw e (omega arith))

  onto-waits : (k : ℕ) (ms : List ℕ) → Onto (record { marks = ms; over = false; log = began k ∷ [] })
  onto-waits k ms = record { once = single k; light = λ e. absurd (false≢true e) }

  -- one around others that begin beyond it
  onto-around : (k : ℕ) (b : Begun) (v : Bool) (ms : List ℕ) → Onto b → ((j : ℕ) → j ≤ k → times j b.log ≡ 0) → (v ≡ true → (b.over ≡ true) × (lasts (f k) ≡ false))
      → Onto (record { marks = ms; over = v; log = began k ∷ b.log })
  unfolding times is_began_of
  onto-around k b v ms w z g =
      record {
        once = λ j. decide (eqb j k) (λ e. let y = eqb-true j k e in rw e (let x = z j (omega arith) in omega arith)) (λ e. rw e (let x = w.once j in omega arith));
        light = λ e j h. decide (eqb j k)
            (λ d. absurd (false≢true (sym (g e).1 ∙ subst (λ (i : ℕ). lasts (f i) ≡ true) (eqb-true j k d) h)))
            (λ d. rw d (let x = w.light (g e).0 j h in omega arith));
      }

  onto-through : (k : ℕ) (b : Begun) → lasts (f k) ≡ false → Onto b → ((j : ℕ) → j ≤ k → times j b.log ≡ 0) → Onto (its_beginning k (throughout k b))
  onto-through k b n w z = go b.over refl
    where
      go : (v : Bool) → b.over ≡ v → Onto (its_beginning k (throughout k (record { marks = b.marks; over = v; log = b.log })))
      go true e = onto-around k b true _ w z (λ d. (e, n))
      go false e = onto-around k b false _ w z (λ d. absurd (false≢true d))

  onto-scope : (k : ℕ) (b : Begun) → Onto b → ((j : ℕ) → j ≤ k → times j b.log ≡ 0) → Onto (its_beginning k (around k b))
  onto-scope k b w z = go b.over refl
    where
      go : (v : Bool) → b.over ≡ v → Onto (its_beginning k (around k (record { marks = b.marks; over = v; log = b.log })))
      go true e = onto-around k b false _ w z (λ d. absurd (false≢true d))
      go false e = onto-around k b false _ w z (λ d. absurd (false≢true d))

  -- two stretches
  onto-both : (c : ℕ) (l m : List Event) (v : Bool) (ms : List ℕ) → ((j : ℕ) → c ≤ j → times j l ≡ 0) → ((j : ℕ) → j < c → times j m ≡ 0) → ((j : ℕ) → times j l ≤ 1) → ((j : ℕ) → times j m ≤ 1)
      → (v ≡ true → (j : ℕ) → lasts (f j) ≡ true → (times j l ≡ 0) × (times j m ≡ 0)) → Onto (record { marks = ms; over = v; log = l ++ m })
  onto-both c l m v ms a b w y g =
      record {
        once = λ j. decide (ltb j c)
            (λ e. let z = b j (ltb-true j c e) in let x = w j in let d = times-append j l m in omega arith)
            (λ e. let z = a j (ltb-false j c e) in let x = y j in let d = times-append j l m in omega arith);
        light = λ e j h. let z = g e j h in let d = times-append j l m in omega arith;
      }

  -- by its kind
  own-onto : (own : Own) (within : Acts) (k : ℕ) → f k ≡ kind own → (ms : List ℕ)
      → (is_pick own ≡ false → (ns : List ℕ) → Onto (begin_in_turn within (k + 1) ns) × ((j : ℕ) → j ≤ k → times j (begin_in_turn within (k + 1) ns).log ≡ 0))
      → (is_pick own ≡ false → (ns : List ℕ) → Onto (begin_all within (k + 1) ns) × ((j : ℕ) → j ≤ k → times j (begin_all within (k + 1) ns).log ≡ 0))
      → (is_pick own ≡ false → (ns : List ℕ) → Onto (begin_first within (k + 1) ns) × ((j : ℕ) → j ≤ k → times j (begin_first within (k + 1) ns).log ≡ 0))
      → Onto (begin (act own within) k ms)
  unfolding begin kind lasts times
  own-onto empty within k e ms t a b = onto-around k (nothing_begun ms) true ms (onto-nothing ms) (λ j h. refl) (λ d. (refl, ap lasts e))
  own-onto (send p o vs) within k e ms t a b = onto-waits k _
  own-onto (receive p o vs) within k e ms t a b = onto-waits k _
  own-onto (setting v x) within k e ms t a b = onto-waits k _
  own-onto (raise zero) within k e ms t a b = onto-waits k _
  own-onto (raise (suc number)) within k e ms t a b = onto-waits k _
  own-onto leave within k e ms t a b = onto-waits k _
  own-onto (choose x) within k e ms t a b = onto-waits k _
  own-onto (repeat x) within k e ms t a b = onto-waits k _
  own-onto sequence within k e ms t a b = let z = t refl (set ms k active) in onto-through k (begin_in_turn within (k + 1) (set ms k active)) (ap lasts e) z.0 z.1
  own-onto flow within k e ms t a b = let z = a refl (set ms k active) in onto-through k (begin_all within (k + 1) (set ms k active)) (ap lasts e) z.0 z.1
  own-onto pick within k e ms t a b = onto-waits k _
  own-onto (scope xs v) within k e ms t a b = let z = b refl (set ms k active) in onto-scope k (begin_first within (k + 1) (set ms k active)) z.0 z.1
  own-onto (arm p o vs) within k e ms t a b = onto-nothing ms

  mutual
    unfolding begin size

    pub begin-onto : {a : Act} {k : ℕ} → Knows f a k → (ms : List ℕ) → Onto (begin a k ms)
    begin-onto (knows {own} {within} {k} e n r y) ms =
        own-onto own within k e ms
        (λ d ns. let q = subst (λ (b : Bool). Arms b within) d r in (turn-onto y q ns, λ j h. (turn-starts f y q ns).below j (omega arith)))
        (λ d ns. let q = subst (λ (b : Bool). Arms b within) d r in (all-onto y q ns, λ j h. (all-starts f y q ns).below j (omega arith)))
        (λ d ns. let q = subst (λ (b : Bool). Arms b within) d r in (first-onto y q ns, λ j h. (first-starts f y q ns).below j (omega arith)))

    pub turn-onto : {l : Acts} {c : ℕ} → KnowsIn f l c → Arms false l → (ms : List ℕ) → Onto (begin_in_turn l c ms)
    turn-onto (knows-none {c}) r ms = onto-nothing ms
    turn-onto (knows_more {a = act own w} {l} {c} x y) r ms =
        go (begin (act own w) c ms) (begin-onto x ms) (begin-starts f x r.0 ms) (turn-onto y r.1 (begin (act own w) c ms).marks) (turn-starts f y r.1 (begin (act own w) c ms).marks).below (begin (act own w) c ms).over refl
      where
        go : (b : Begun) → Onto b → Starts (act own w) c b.log → Onto (begin_in_turn l (c + size (act own w)) b.marks) → ((j : ℕ) → j < c + size (act own w) → times j (begin_in_turn l (c + size (act own w)) b.marks).log ≡ 0)
            → (v : Bool) → b.over ≡ v → Onto (in_turn (begin_in_turn l (c + size (act own w))) (record { marks = b.marks; over = v; log = b.log }))
        go b o s z n true e =
            onto-both (c + size (act own w)) b.log (begin_in_turn l (c + size (act own w)) b.marks).log _ _ s.above n o.once z.once (λ d j h. (o.light e j h, z.light d j h))
        go b o s z n false e = record { once = o.once; light = λ d. absurd (false≢true d) }

    all-onto : {l : Acts} {c : ℕ} → KnowsIn f l c → Arms false l → (ms : List ℕ) → Onto (begin_all l c ms)
    all-onto (knows-none {c}) r ms = onto-nothing ms
    all-onto (knows_more {a = act own w} {l} {c} x y) r ms =
        let b = begin (act own w) c ms in
        let o = begin-onto x ms in
        let z = all-onto y r.1 b.marks in
        onto-both (c + size (act own w)) b.log (begin_all l (c + size (act own w)) b.marks).log _ _ (begin-starts f x r.0 ms).above (all-starts f y r.1 b.marks).below o.once z.once
        (λ d j h. both b.over (begin_all l (c + size (act own w)) b.marks).over d (λ u v. (o.light u j h, z.light v j h)))

    first-onto : {l : Acts} {c : ℕ} → KnowsIn f l c → Arms false l → (ms : List ℕ) → Onto (begin_first l c ms)
    first-onto (knows-none {c}) r ms = onto-nothing ms
    first-onto (knows_more {a = act own w} {l} {c} x y) r ms = begin-onto x ms

  pub after-onto : {l : Acts} {c : ℕ} → KnowsIn f l c → Arms false l → (t : ℕ) (ms : List ℕ) → Onto (begin_after l c t ms)
  unfolding begin_after
  after-onto (knows-none {c}) r t ms = onto-nothing ms
  after-onto (knows_more {a = act own w} {l} {c} x y) r t ms =
      decide (ltb t (c + size (act own w))) (λ d. rw (begin_after, d) (turn-onto y r.1 ms)) (λ d. rw (begin_after, d) (after-onto y r.1 t ms))

  pub part-onto : {l : Acts} {c : ℕ} → KnowsIn f l c → (i : ℕ) → i < count l → (ms : List ℕ) → Onto (begin_part i l c ms)
  unfolding begin_part part part_at count
  part-onto knows-none i h ms = absurd (omega arith)
  part-onto (knows_more x y) zero h ms = begin-onto x ms
  part-onto (knows_more x y) (suc i) h ms = part-onto y i (omega arith) ms

  either-onto : (v : Bool) (x y z : Begun) → z ≡ elim v [ true ↦ x | false ↦ y ] → (v ≡ true → Onto x) → Onto y → Onto z
  either-onto true x y z e g h = subst Onto (sym e) (g refl)
  either-onto false x y z e g h = subst Onto (sym e) h

  cond-onto : (v : Bool) (x y : Begun) → (v ≡ true → Onto x) → Onto y → Onto (cond v x y)
  cond-onto true x y g h = g refl
  cond-onto false x y g h = h

  mutual
    unfolding begin_undo

    undo-onto : {a : Act} {k : ℕ} → Knows f a k → (e : ℕ) (ms : List ℕ) → Onto (begin_undo a k e ms)
    undo-onto (knows {own} {within} {k} x n r y) e ms =
        either-onto (is_scope own) (cond (has_undo own) (cond (eqb k e) (begin_part (undo_part (numbers_of own)) within (k + 1) ms) (nothing_begun ms)) (begin_undo_first within (k + 1) e ms)) (begin_undo_in within (k + 1) e ms) _ refl
        (λ s. cond-onto (has_undo own) (cond (eqb k e) (begin_part (undo_part (numbers_of own)) within (k + 1) ms) (nothing_begun ms)) (begin_undo_first within (k + 1) e ms)
        (λ u. cond-onto (eqb k e) (begin_part (undo_part (numbers_of own)) within (k + 1) ms) (nothing_begun ms) (λ v. part-onto y (undo_part (numbers_of own)) (scope-undo own within s u n) ms) (onto-nothing ms))
        (undo-first-onto y e ms)) (undo-in-onto y e ms)

    -- in the body of a scope
    undo-first-onto : {l : Acts} {c : ℕ} → KnowsIn f l c → (e : ℕ) (ms : List ℕ) → Onto (begin_undo_first l c e ms)
    undo-first-onto (knows-none {c}) e ms = onto-nothing ms
    undo-first-onto (knows_more x y) e ms = undo-onto x e ms

    undo-in-onto : {l : Acts} {c : ℕ} → KnowsIn f l c → (e : ℕ) (ms : List ℕ) → Onto (begin_undo_in l c e ms)
    undo-in-onto (knows-none {c}) e ms = onto-nothing ms
    undo-in-onto (knows_more {a} {l} {c} x y) e ms = either-onto (ltb e (c + size a)) (begin_undo a c e ms) (begin_undo_in l (c + size a) e ms) _ refl (λ v. undo-onto x e ms) (undo-in-onto y e ms)

  abbrev pub is_over : Result → Bool
  is_over running = false
  is_over over = true
  is_over (raising x) = false
  is_over leaving = false
  is_over undone = false
  is_over (undo_raising x) = false

  -- An outcome of a scope's own.
  pub record Lone (r : Outcome) : Type 0 where
    pub once : Once r.log
    pub light : is_over r.result ≡ true → Light r.log

  pub lone-zero : (r : Outcome) → ((j : ℕ) → times j r.log ≡ 0) → Lone r
  lone-zero r z = record { once = once-none r.log z; light = λ e. light-none r.log z }

  lone-runs : (o : Order) → Lone (runs o)
  unfolding times
  lone-runs o = lone-zero (runs o) (λ j. refl)

  pub lone-begun : (o : Order) (b : Begun) → Onto b → Lone (begun_in o b)
  lone-begun o b w = record { once = record { at = λ j h. w.once j }; light = λ e. go b.over refl e }
    where
      go : (v : Bool) → b.over ≡ v → is_over (cond v over running) ≡ true → Light b.log
      go true e d = record { at = λ j h. w.light e j h }
      go false e d = absurd (false≢true d)

  pub lone-where : (g : Order → Outcome) (r : Outcome) → Lone r → ((o : Order) → Lone (g o)) → Lone (where_over g r)
  lone-where g r w h = go r.result refl
    where
      same : (x : Result) → r.result ≡ x → Lone (record { result = x; order = r.order; log = r.log })
      same x e = record { once = w.once; light = λ d. w.light (ap is_over e ∙ d) }

      go : (x : Result) → r.result ≡ x → Lone (where_over g (record { result = x; order = r.order; log = r.log }))
      go running e = same running e
      go over e = let v = h r.order in record { once = light-once (g r.order).log (w.light (ap is_over e)) v.once; light = λ d. light-light (g r.order).log (w.light (ap is_over e)) (v.light d) }
      go (raising x) e = same (raising x) e
      go leaving e = same leaving e
      go undone e = same undone e
      go (undo_raising x) e = same (undo_raising x) e

  lone-either : (v : Bool) (x y z : Outcome) → z ≡ elim v [ true ↦ x | false ↦ y ] → Lone x → Lone y → Lone z
  lone-either true x y z e g h = subst Lone (sym e) g
  lone-either false x y z e g h = subst Lone (sym e) h

  module _ (s : Scope) (kb : Knows f s.body s.body_at) (kf : KnowsEach f s) where
    ends-lone : (o : Order) → Lone (ends s o)
    unfolding times is_began_of
    ends-lone o = lone-zero (ends s o) (λ j. refl)

    list-lone : (l : List ℕ) (o : Order) → Lone (undo l s o)
    unfolding undo start_undo times
    list-lone [] o = lone-zero (record { result = over; order = o; log = [] }) (λ j. refl)
    list-lone (e ∷ l) o = lone-where (undo l s) (start_undo e s o) (lone-begun (remembering (without_last (is_for s) (closings o)) o) (begin_undo s.body s.body_at e o.marks) (undo-onto kb e o.marks)) (λ q. list-lone l q)

    handle-lone : (o : Order) → Lone (handle s o)
    unfolding handle
    handle-lone o =
        let o₁ = going s.name handling o in
        let c = choice_of s.name o in
        lone-where (ends s) (begun_in o₁ (begin (chosen_part c s) (chosen_at c s) o₁.marks)) (lone-begun o₁ (begin (chosen_part c s) (chosen_at c s) o₁.marks) (begin-onto (kf c) o₁.marks)) (λ q. ends-lone q)

    undoes-lone : (w : Bool) (o : Order) → Lone (undoes w s o)
    unfolding undoes
    undoes-lone true o = let o₁ = going s.name undoing o in lone-where (handle s) (undo (remembered_for s o₁) s o₁) (list-lone (remembered_for s o₁) o₁) (λ q. handle-lone q)
    undoes-lone false o = let o₁ = marking s.name withdrawing o in lone-where (ends s) (undo (remembered_for s o₁) s o₁) (list-lone (remembered_for s o₁) o₁) (λ q. ends-lone q)

    pub turns-lone : (w : Bool) (o : Order) → Lone (turns w s o)
    unfolding turns
    turns-lone w o = lone-either (inner_runs s.body s.body_at o.marks) (runs o) (undoes w s o) (turns w s o) refl (lone-runs o) (undoes-lone w o)

    pub undone-lone : (o : Order) → Lone (undo_over s o)
    unfolding undo_over
    undone-lone o =
        lone-either (eqb (state_of s.name o) undoing) (undoes true s o) (elim (eqb (mark_of s.name o) withdrawing) [ true ↦ undoes false s o | false ↦ runs o ]) (undo_over s o) refl (undoes-lone true o)
        (lone-either (eqb (mark_of s.name o) withdrawing) (undoes false s o) (runs o) _ refl (undoes-lone false o) (lone-runs o))

    pub looks-lone : (o : Order) → Lone (looks_again s o)
    unfolding looks_again
    looks-lone o =
        lone-either (eqb (state_of s.name o) faulty) (turns true s o) (elim (eqb (mark_of s.name o) halted) [ true ↦ turns false s o | false ↦ runs o ]) (looks_again s o) refl (turns-lone true o)
        (lone-either (eqb (mark_of s.name o) halted) (turns false s o) (runs o) _ refl (turns-lone false o) (lone-runs o))

    -- it begins nothing while an inner scope runs
    pub turns-none : (w : Bool) (o : Order) → inner_runs s.body s.body_at o.marks ≡ true → turns w s o ≡ runs o
    unfolding turns
    turns-none w o e = ap (λ (b : Bool). elim b [ true ↦ runs o | false ↦ undoes w s o ]) e

    looks-by : (o : Order) (v w : Bool) → eqb (state_of s.name o) faulty ≡ v → eqb (mark_of s.name o) halted ≡ w
        → looks_again s o ≡ elim v [ true ↦ turns true s o | false ↦ elim w [ true ↦ turns false s o | false ↦ runs o ] ]
    unfolding looks_again
    looks-by o v w d c =
        subst (λ (y : Bool). looks_again s o ≡ elim v [ true ↦ turns true s o | false ↦ elim y [ true ↦ turns false s o | false ↦ runs o ] ]) c
        (subst (λ (y : Bool). looks_again s o ≡ elim y [ true ↦ turns true s o | false ↦ elim (eqb (mark_of s.name o) halted) [ true ↦ turns false s o | false ↦ runs o ] ]) d refl)

    pub looks-none : (o : Order) → inner_runs s.body s.body_at o.marks ≡ true → looks_again s o ≡ runs o
    looks-none o e =
        decide (eqb (state_of s.name o) faulty)
        (λ d. looks-by o true (eqb (mark_of s.name o) halted) d refl ∙ turns-none true o e)
        (λ d. decide (eqb (mark_of s.name o) halted) (λ c. looks-by o false true d c ∙ turns-none false o e) (λ c. looks-by o false false d c))

    -- nor where it does not wait
    pub looks-still : (o : Order) → eqb (state_of s.name o) faulty ≡ false → eqb (mark_of s.name o) halted ≡ false → looks_again s o ≡ runs o
    looks-still o d c = looks-by o false false d c

  -- by whether an activity is a scope
  inner-as : (own : Own) (within : Acts) (k : ℕ) (ms : List ℕ) (b : Bool) → is_scope own ≡ b
      → inner_runs (act own within) k ms ≡ elim b [ true ↦ not (eqb (get_or ms k 0) idle) | false ↦ inner_runs_in within (k + 1) ms ]
  unfolding inner_runs
  inner-as own within k ms b e = subst (λ (z : Bool). inner_runs (act own within) k ms ≡ elim z [ true ↦ not (eqb (get_or ms k 0) idle) | false ↦ inner_runs_in within (k + 1) ms ]) e refl

  not-up : (b : Bool) → (b ≡ false → ⊥) → not b ≡ false
  not-up true h = refl
  not-up false h = absurd (h refl)

  up-not : (b : Bool) → b ≡ false → not b ≡ false → ⊥
  up-not true e h = false≢true (sym e)
  up-not false e h = false≢true (sym h)

  -- Stopping: what lasts begins at most once; and where no scope is left running in it, not at all.
  pub record Stops (a : Act) (k : ℕ) (r : definitions.Stopped) : Type 0 where
    pub once : Once r.log
    pub light : inner_runs a k r.order.marks ≡ false → Light r.log

  record StopsIn (l : Acts) (c : ℕ) (r : definitions.Stopped) : Type 0 where
    once : Once r.log
    light : inner_runs_in l c r.order.marks ≡ false → Light r.log

  -- an inner scope that runs still runs where no mark of a scope is cleared
  mutual
    unfolding inner_runs kind size lasts

    runs_on : {a : Act} {k : ℕ} → Knows f a k → (ms ns : List ℕ) → ((j : ℕ) → lasts (f j) ≡ true → k ≤ j → j < k + size a → Up ms j → Up ns j) → inner_runs a k ns ≡ false → inner_runs a k ms ≡ false
    runs_on (knows {own} {within} {k} e n r y) ms ns g h =
        decide (is_scope own)
        (λ s. inner-as own within k ms true s ∙ not-up (eqb (get_or ms k 0) idle) (λ u. up-not (eqb (get_or ns k 0) idle) (g k (ap lasts e ∙ scope-lasts own s) (omega arith) (omega arith) u) (sym (inner-as own within k ns true s) ∙ h)))
        (λ s. inner-as own within k ms false s ∙ runs-on-in y ms ns (λ j a b c. g j a (omega arith) (omega arith)) (sym (inner-as own within k ns false s) ∙ h))

    runs-on-in : {l : Acts} {c : ℕ} → KnowsIn f l c → (ms ns : List ℕ) → ((j : ℕ) → lasts (f j) ≡ true → c ≤ j → j < c + sizes l → Up ms j → Up ns j) → inner_runs_in l c ns ≡ false → inner_runs_in l c ms ≡ false
    runs-on-in knows-none ms ns g h = refl
    runs-on-in (knows_more {a} {l} {c} x y) ms ns g h =
        neither (inner_runs a c ns) (inner_runs_in l (c + size a) ns) h (λ u v. rw (runs_on x ms ns (λ j p q w. g j p q (omega arith)) u, runs-on-in y ms ns (λ j p q w. g j p (omega arith) (omega arith)) v))

  pub once-apart : (c : ℕ) (l m : List Event) → ((j : ℕ) → c ≤ j → times j l ≡ 0) → ((j : ℕ) → j < c → times j m ≡ 0) → Once l → Once m → Once (l ++ m)
  once-apart c l m a b w v =
      record {
        at = λ j h. decide (ltb j c)
            (λ e. let z = b j (ltb-true j c e) in let x = w.at j h in let d = times-append j l m in omega arith)
            (λ e. let z = a j (ltb-false j c e) in let x = v.at j h in let d = times-append j l m in omega arith);
      }

  -- undoing clears no mark that lasts
  undo-up : (s : Scope) → Knows f s.body s.body_at → (k : ℕ) → lasts (f k) ≡ true → (l : List ℕ) (o : Order) → s.body_at + size s.body ≤ length o.marks → Up o.marks k → Up (undo l s o).order.marks k
  unfolding undo start_undo
  undo-up s kb k n [] o m u = u
  undo-up s kb k n (e ∷ l) o m u =
      let b = undo-began f kb e o.marks m in
      let q = with_marks (begin_undo s.body s.body_at e o.marks).marks (remembering (without_last (is_for s) (closings o)) o) in
      go (begin_undo s.body s.body_at e o.marks).over q (begin_undo s.body s.body_at e o.marks).log (b.grows k n u) (undo-up s kb k n l q (omega (arith, b.long)) (b.grows k n u))
    where
      go : (v : Bool) (q : Order) (g : List Event) → Up q.marks k → Up (undo l s q).order.marks k → Up (where_over (undo l s) (record { result = cond v over running; order = q; log = g })).order.marks k
      go true q g x y = y
      go false q g x y = x

  -- a scope that ends after its list began nothing that lasts
  withdrawn : (s : Scope) (k : ℕ) → s.name ≡ inner k → (kb : Knows f s.body s.body_at) (kf : KnowsEach f s) → lasts (f k) ≡ true → (o : Order) → k < length o.marks → s.body_at + size s.body ≤ length o.marks
      → eqb (get_or (undoes false s o).order.marks k 0) idle ≡ true → Light (undoes false s o).log
  unfolding undoes
  withdrawn s k i kb kf n o h m e = go u.result refl e
    where
      o₁ : Order
      o₁ = marking s.name withdrawing o

      u : Outcome
      u = undo (remembered_for s o₁) s o₁

      w : Lone u
      w = list-lone s kb kf (remembered_for s o₁) o₁

      set_here : Up o₁.marks k
      set_here = subst (λ (z : Name). Up (marking z withdrawing o).marks k) (sym i) (ap (λ (m : ℕ). eqb m idle) (get_or-set_same o.marks k withdrawing 0 h))

      long : length o₁.marks ≡ length o.marks
      long = subst (λ (z : Name). length (marking z withdrawing o).marks ≡ length o.marks) (sym i) (length-set o.marks k withdrawing)

      up : Up u.order.marks k
      up = undo-up s kb k n (remembered_for s o₁) o₁ (omega (arith, long)) set_here

      go : (x : Result) → u.result ≡ x → eqb (get_or (where_over (ends s) (record { result = x; order = u.order; log = u.log })).order.marks k 0) idle ≡ true
          → Light (where_over (ends s) (record { result = x; order = u.order; log = u.log })).log
      go running d e = absurd (false≢true (sym up ∙ e))
      go over d e = light-light (ends s u.order).log (w.light (ap is_over d)) ((ends-lone s kb kf u.order).light refl)
      go (raising x) d e = absurd (false≢true (sym up ∙ e))
      go leaving d e = absurd (false≢true (sym up ∙ e))
      go undone d e = absurd (false≢true (sym up ∙ e))
      go (undo_raising x) d e = absurd (false≢true (sym up ∙ e))

  turns-some : (s : Scope) (w : Bool) (o : Order) → inner_runs s.body s.body_at o.marks ≡ false → turns w s o ≡ undoes w s o
  unfolding turns
  turns-some s w o e = ap (λ (b : Bool). elim b [ true ↦ runs o | false ↦ undoes w s o ]) e

  withdraws-stops : {b : Act} {l : Acts} {k : ℕ} (own : Own) (o : Order) → is_scope own ≡ true → f k ≡ kind own → (kb : Knows f b (k + 1)) (kf : KnowsEach f (scope_at (numbers_of own) k (more b l)))
      → k + 1 + size b ≤ length o.marks → Stops b (k + 1) (stop b (k + 1) (marked k halted o)) → Halts f (k + 1) (size b) (marked k halted o) (stop b (k + 1) (marked k halted o))
      → Stops (act own (more b l)) k (withdraws k (scope_at (numbers_of own) k (more b l)) (stop b (k + 1) (marked k halted o)))
  unfolding withdraws part part_at lasts kind times is_began_of
  withdraws-stops {b} {l} {k} own o s e kb kf m w v =
      decide (inner_runs b (k + 1) r.order.marks)
      (λ d. let z = turns-none sc kb kf false r.order d in
      record {
        once = once-event (stopped k) _ (λ j. refl) (subst (λ (q : Outcome). Once (r.log ++ q.log)) (sym z) (once-light r.log w.once (light-none [] (λ j. refl))));
        light = λ c. absurd (up-not (eqb (get_or r.order.marks k 0) idle) up (sym (inner-as own (more b l) k r.order.marks true s) ∙ subst (λ (q : Outcome). inner_runs (act own (more b l)) k q.order.marks ≡ false) z c));
      })
      (λ d. let z = turns-some sc false r.order d in
      record {
        once = once-event (stopped k) _ (λ j. refl) (light-once (turns false sc r.order).log (w.light d) (turns-lone sc kb kf false r.order).once);
        light = λ c. light-event (stopped k) _ (λ j. refl) (light-light (turns false sc r.order).log (w.light d) (subst (λ (q : Outcome). Light q.log) (sym z)
            (withdrawn sc k refl kb kf last r.order (omega (arith, v.long, length-set o.marks k halted)) (omega (arith, v.long, length-set o.marks k halted))
            (idle-of (eqb (get_or (undoes false sc r.order).order.marks k 0) idle) (sym (inner-as own (more b l) k (undoes false sc r.order).order.marks true s) ∙ subst (λ (q : Outcome). inner_runs (act own (more b l)) k q.order.marks ≡ false) z c)))));
      })
    where
      r : definitions.Stopped
      r = stop b (k + 1) (marked k halted o)

      sc : Scope
      sc = scope_at (numbers_of own) k (more b l)

      last : lasts (f k) ≡ true
      last = ap lasts e ∙ scope-lasts own s

      up : Up r.order.marks k
      up = v.below k last (omega arith) (ap (λ (m : ℕ). eqb m idle) (get_or-set_same o.marks k halted 0 (omega arith)))

      idle-of : (b : Bool) → not b ≡ false → b ≡ true
      idle-of true h = refl
      idle-of false h = absurd (false≢true (sym h))

  stops-either : {a : Act} {k : ℕ} (v : Bool) (x y z : definitions.Stopped) → z ≡ elim v [ true ↦ x | false ↦ y ] → (v ≡ true → Stops a k x) → (v ≡ false → Stops a k y) → Stops a k z
  stops-either {a} {k} true x y z e g h = subst (λ (r : definitions.Stopped). Stops a k r) (sym e) (g refl)
  stops-either {a} {k} false x y z e g h = subst (λ (r : definitions.Stopped). Stops a k r) (sym e) (h refl)

  abbrev FirstStops : Acts → (c : ℕ) → Order → Type 0
  FirstStops none c o = Unit {0}
  FirstStops (more a l) c o = Stops a c (stop a c o)

  first_stops : {within : Acts} {k : ℕ} (own : Own) (o : Order) → is_scope own ≡ true → f k ≡ kind own → KnowsIn f within (k + 1) → general_part (numbers_of own) < count within → k + 1 + sizes within ≤ length o.marks
      → FirstStops within (k + 1) (marked k halted o) → Stops (act own within) k (withdraws k (scope_at (numbers_of own) k within) (stop_first within (k + 1) (marked k halted o)))
  unfolding stop size count
  first_stops own o s e knows-none n m w = absurd (omega arith)
  first_stops {k = k} own o s e (knows_more {a = b} {l} x y) n m w =
      withdraws-stops {l = l} own o s e x (each-knows f (numbers_of own) k n (knows_more x y)) (omega arith) w (stop_halts f x (marked k halted o) (omega (arith, length-set o.marks k halted)))

  mutual
    unfolding stop size count times inner_runs

    pub stop-stops : {a : Act} {k : ℕ} → Knows f a k → (o : Order) → k + size a ≤ length o.marks → Stops a k (stop a k o)
    stop-stops (knows {own} {within} {k} e n r y) o m =
        stops-either (is_scope own) (elim (is_open (mark_at k o)) [ true ↦ withdraws k (scope_at (numbers_of own) k within) (stop_first within (k + 1) (marked k halted o)) | false ↦ untouched o ]) (stop_all within (k + 1) (marked k idle o)) _ refl
        (λ s. stops-either (is_open (mark_at k o)) (withdraws k (scope_at (numbers_of own) k within) (stop_first within (k + 1) (marked k halted o))) (untouched o) _ refl
        (λ v. first_stops own o s e y (scope-general own within s n) (omega arith) (stop-first-stops y (marked k halted o) (omega (arith, length-set o.marks k halted))))
        (λ v. record { once = once-none [] (λ j. refl); light = λ c. light-none [] (λ j. refl) }))
        (λ s. let z = stop-all-stops y (marked k idle o) (omega (arith, length-set o.marks k idle)) in
        record { once = z.once; light = λ c. z.light (sym (inner-as own within k (stop_all within (k + 1) (marked k idle o)).order.marks false s) ∙ c) })

    -- the first of a list
    stop-first-stops : {l : Acts} {c : ℕ} → KnowsIn f l c → (o : Order) → c + sizes l ≤ length o.marks → FirstStops l c o
    stop-first-stops knows-none o m = tt
    stop-first-stops (knows_more {a} {l} {c} x y) o m = stop-stops x o (omega arith)

    stop-all-stops : {l : Acts} {c : ℕ} → KnowsIn f l c → (o : Order) → c + sizes l ≤ length o.marks → StopsIn l c (stop_all l c o)
    stop-all-stops knows-none o m = record { once = once-none [] (λ j. refl); light = λ c. light-none [] (λ j. refl) }
    stop-all-stops (knows_more {a} {l} {c} x y) o m =
        let r = stop a c o in
        let q = stop_all l (c + size a) r.order in
        let v = stop_halts f x o (omega arith) in
        let u = stop-all-halts f y r.order (omega (arith, v.long)) in
        let w = stop-stops x o (omega arith) in
        let z = stop-all-stops y r.order (omega (arith, v.long)) in
        record {
          once = once-apart (c + size a) r.log q.log (stop-strict f x o).above (stop-all-strict f y r.order).below w.once z.once;
          light = λ d. neither (inner_runs a c q.order.marks) (inner_runs_in l (c + size a) q.order.marks) d (λ d₁ d₂.
              light-light q.log (w.light (runs_on x r.order.marks q.order.marks (λ j h a b. u.below j h b) d₁)) (z.light d₂));
        }
