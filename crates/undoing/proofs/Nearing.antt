-- Nothing begins in a scope in which the step does not stand, unless the scope begins or is stopped with it. Read off the logs alone. Assumes nothing.
use Prim.Native.Nat.{ℕ, zero, suc, ◌+◌, ◌≤◌, ◌<◌}
use native.Mathlib.Omega.{arith}
use mathlib.Core.Path.{◌≡◌, refl, sym, subst, ◌∙◌}
use mathlib.Core.Bool.{Bool, true, false, cond, not, ◌||◌, false≢true, or-true}
use mathlib.Core.List.{List, [], ◌∷◌, ◌++◌}
use lib.ListN.{set}
use lib.Dec.{eqb, ltb, leb}
use borrow.Author.Tests.{eqb-true, eqb-false, eq-eqb, ltb-true, ltb-false, leb-true}
use Rattle.plan.specs.Tree.{Own, empty, send, receive, set as setting, raise, leave, choose, repeat, sequence, flow, pick, scope, arm, kind, Act, act, Acts, none, more, Plan, size, sizes, count, is_scope, has_undo, is_pick, numbers_of, undo_part, general_part}
use Rattle.order.specs.declared.Order.{Order}
use Rattle.order.specs.Lists.{some}
use Rattle.order.specs.State.{idle, active, inside, faulty, undoing, handling, halted, withdrawing, done, with_marks, mark_at, marked, mark_of, marking, causing, state_of, going, mark_with, choice_of}
use Rattle.order.specs.Event.{Event, began, stopped, faulted}
use Rattle.order.specs.Expression.{conflicting_receive, Value, fault, value, evaluate, is_true}
use Rattle.order.specs.Begin.{Begun, nothing_begun, throughout, around, in_turn, begin, begin_in_turn, begin_all, begin_first, begin_after, part, part_at, begin_part, cleared, quiet}
use Rattle.order.specs.declared.Way.{Way as Result}
use Rattle.order.specs.declared.Way.TheVariants.{Running as running, Over as over, Raising as raising, Leaving as leaving, Undone as undone, UndoRaising as undo_raising}
use Rattle.order.specs.Scope.{Outcome, root_of, runs, begun_in, where_over, Scope, scope_at, is_open, inner_runs, closing, begin_undo, begin_undo_first, begin_undo_in, start_undo, undo, ends, handle, undoes, turns, remembered_for, untouched, withdraws, stop, stop_all, stop_first, faults, breaks, looks_again, body_over, body_raised, undo_over, undo_raised, from_body, part_over, part_raised, from_fault, from_undo, goes_through, choice_for, chosen_part, chosen_at}
use Rattle.order.specs.Scope as definitions
use Rattle.order.specs.Acting.{finishes, raises, or_raises, again, repeats, itself, arms, goes_on, joins, in_scope, combines, step_in, step_among, step_root, Actor, replaces, performs}
use Rattle.undoing.specs.Orderly.{is_began_of}
use Rattle.undoing.specs.Begun.{has_began}
use Rattle.undoing.specs.Entirely.{times, is_stop_of}
use Rattle.undoing.proofs.Parts.{decide, some-append}
use Rattle.undoing.proofs.Choices.{chosen-each, root-chosen}
use Rattle.undoing.proofs.Orders.{least}
use Rattle.undoing.proofs.Places.{first-of, second-of}
use Rattle.undoing.proofs.Stepping.{at_first}
use Rattle.undoing.proofs.Truly.{Arms, needs, Knows, knows, KnowsIn, knows-none, knows_more}
use Rattle.undoing.proofs.Entire.{Two, times-append, Zero, zero-part, Named, begin-starts, turn-starts, all-starts}
use Rattle.undoing.proofs.Entering.{scope-arms, scope-undo, scope-general, part-list, undo-strict, undo-in-strict, stop-strict, stop-all-strict, step-at, among-at}
use Rattle.undoing.proofs.Sends.{by-send}

abbrev log-of : Outcome → List Event
log-of o = o.log

module _ (t : ℕ) where
  -- of scope k, with an undo part where z is true, whose fault part starts at f, whose undo part would at u, and which ends at e
  pub data Near (l : List Event) (z : Bool) (k f u e : ℕ) : Type 0 where
    near-stands : k ≤ t → t < e → Near l z k f u e
    near-began : has_began k l ≡ true → Near l z k f u e
    near-stopped : some (is_stop_of k) l ≡ true → Near l z k f u e
    near_none : ((j : ℕ) → k < j → j < u → (z || (eqb j (k + 1) || leb f j)) ≡ true → times j l ≡ 0) → Near l z k f u e

  near-append : (l m : List Event) (z : Bool) (k f u e : ℕ) → Near l z k f u e → Near m z k f u e → Near (l ++ m) z k f u e
  near-append l m z k f u e (near-stands a b) y = near-stands a b
  near-append l m z k f u e (near-began a) y = near-began (some-append (is_began_of (eqb k)) l m ∙ rw a)
  near-append l m z k f u e (near-stopped a) y = near-stopped (some-append (is_stop_of k) l m ∙ rw a)
  near-append l m z k f u e (near_none a) (near-stands b c) = near-stands b c
  near-append l m z k f u e (near_none a) (near-began b) = near-began (some-append (is_began_of (eqb k)) l m ∙ rw (b, or-true))
  near-append l m z k f u e (near_none a) (near-stopped b) = near-stopped (some-append (is_stop_of k) l m ∙ rw (b, or-true))
  near-append l m z k f u e (near_none a) (near_none b) = near_none (λ j x y w. let z = times-append j l m in let c = a j x y w in let d = b j x y w in omega arith)

  unfoldable mutual
    pub Local : List Event → Act → (k : ℕ) → Type 0
    Local l (act own within) k = Two (is_scope own ≡ true → Near l (has_undo own) k (part_at 1 within (k + 1)) (part_at (undo_part (numbers_of own)) within (k + 1)) (k + size (act own within))) (LocalIn l within (k + 1))

    pub LocalIn : List Event → Acts → (c : ℕ) → Type 0
    LocalIn l none c = Unit {0}
    LocalIn l (more a r) c = Two (Local l a c) (LocalIn l r (c + size a))

  part-to : (i : ℕ) (l : Acts) (c : ℕ) → part_at i l c ≤ c + sizes l
  unfolding part_at size
  part-to i none c = omega arith
  part-to zero (more a l) c = omega arith
  part-to (suc i) (more a l) c = let z = part-to i l (c + size a) in omega arith

  mutual
    unfolding Local size

    local-zero : (l : List Event) (a : Act) (k : ℕ) → Zero l k (size a) → Local l a k
    local-zero l (act own within) k z =
        record { one = λ s. near_none (λ j x y w. z.at j (omega arith) (omega (arith, part-to (undo_part (numbers_of own)) within (k + 1)))); other = in-zero l within (k + 1) (zero-part z (omega arith) (omega arith)) }

    in-zero : (l : List Event) (r : Acts) (c : ℕ) → Zero l c (sizes r) → LocalIn l r c
    in-zero l none c z = tt
    in-zero l (more a r) c z = record { one = local-zero l a c (zero-part z (omega arith) (omega arith)); other = in-zero l r (c + size a) (zero-part z (omega arith) (omega arith)) }

  mutual
    unfolding Local

    local-append : (l m : List Event) (a : Act) (k : ℕ) → Local l a k → Local m a k → Local (l ++ m) a k
    local-append l m (act own within) k h g =
        record { one = λ s. near-append l m (has_undo own) k (part_at 1 within (k + 1)) (part_at (undo_part (numbers_of own)) within (k + 1)) (k + size (act own within)) (h.one s) (g.one s); other = in-append l m within (k + 1) h.other g.other }

    pub in-append : (l m : List Event) (r : Acts) (c : ℕ) → LocalIn l r c → LocalIn m r c → LocalIn (l ++ m) r c
    in-append l m none c h g = tt
    in-append l m (more a r) c h g = record { one = local-append l m a c h.one g.one; other = in-append l m r (c + size a) h.other g.other }

  -- an event before it
  in-event : (e : Event) (l : List Event) (r : Acts) (c : ℕ) → Zero (e ∷ []) c (sizes r) → LocalIn l r c → LocalIn (e ∷ l) r c
  in-event e l r c z h = in-append (e ∷ []) l r c (in-zero (e ∷ []) r c z) h

  pub in-none : (l : List Event) (r : Acts) (c : ℕ) → ((j : ℕ) → times j l ≡ 0) → LocalIn l r c
  in-none l r c z = in-zero l r c (record { at = λ j x y. z j })

  -- in an activity other than a scope
  plain_local : (own : Own) (within : Acts) (k : ℕ) (l : List Event) → is_scope own ≡ false → LocalIn l within (k + 1) → Local l (act own within) k
  unfolding Local
  plain_local own within k l s h = record { one = λ e. absurd (false≢true (sym s ∙ e)); other = h }

  -- of the first of a list, with nothing in the others; of the others, with nothing in the first
  head_in : (a : Act) (r : Acts) (c : ℕ) (l : List Event) → Local l a c → ((j : ℕ) → c + size a ≤ j → times j l ≡ 0) → LocalIn l (more a r) c
  unfolding Local
  head_in a r c l h z = record { one = h; other = in-zero l r (c + size a) (record { at = λ j x y. z j x }) }

  tail-in : (a : Act) (r : Acts) (c : ℕ) (l : List Event) → LocalIn l r (c + size a) → ((j : ℕ) → j < c + size a → times j l ≡ 0) → LocalIn l (more a r) c
  unfolding Local
  tail-in a r c l h z = record { one = local-zero l a c (record { at = λ j x y. z j y }); other = h }

  single : (k c n : ℕ) → k < c → Zero (began k ∷ []) c n
  unfolding times is_began_of
  single k c n h = record { at = λ j x y. decide (eqb j k) (λ e. absurd (let z = eqb-true j k e in omega arith)) (λ e. rw e (omega arith)) }

  module _ (f : ℕ → ℕ) where
    through-log : (k : ℕ) (r : Begun) → (throughout k r).log ≡ r.log
    through-log k r = go r.over
      where
        go : (v : Bool) → (throughout k (record { marks = r.marks; over = v; log = r.log })).log ≡ r.log
        go true = refl
        go false = refl

    around-log : (k : ℕ) (r : Begun) → (around k r).log ≡ r.log
    around-log k r = go r.over
      where
        go : (v : Bool) → (around k (record { marks = r.marks; over = v; log = r.log })).log ≡ r.log
        go true = refl
        go false = refl

    own-local : (own : Own) (within : Acts) (k : ℕ) (ms : List ℕ)
        → (is_pick own ≡ false → (ns : List ℕ) → LocalIn (begin_in_turn within (k + 1) ns).log within (k + 1)) → (is_pick own ≡ false → (ns : List ℕ) → LocalIn (begin_all within (k + 1) ns).log within (k + 1))
        → (is_pick own ≡ false → (ns : List ℕ) → LocalIn (begin_first within (k + 1) ns).log within (k + 1)) → Local (begin (act own within) k ms).log (act own within) k
    unfolding begin kind Local some is_began_of times
    own-local empty within k ms a b c = plain_local empty within k _ refl (in-zero _ within (k + 1) (single k (k + 1) (sizes within) (omega arith)))
    own-local (send p o vs) within k ms a b c = plain_local (send p o vs) within k _ refl (in-zero _ within (k + 1) (single k (k + 1) (sizes within) (omega arith)))
    own-local (receive p o vs) within k ms a b c = plain_local (receive p o vs) within k _ refl (in-zero _ within (k + 1) (single k (k + 1) (sizes within) (omega arith)))
    own-local (setting v e) within k ms a b c = plain_local (setting v e) within k _ refl (in-zero _ within (k + 1) (single k (k + 1) (sizes within) (omega arith)))
    own-local (raise zero) within k ms a b c = plain_local (raise zero) within k _ refl (in-zero _ within (k + 1) (single k (k + 1) (sizes within) (omega arith)))
    own-local (raise (suc number)) within k ms a b c = plain_local (raise (suc number)) within k _ refl (in-zero _ within (k + 1) (single k (k + 1) (sizes within) (omega arith)))
    own-local leave within k ms a b c = plain_local leave within k _ refl (in-zero _ within (k + 1) (single k (k + 1) (sizes within) (omega arith)))
    own-local (choose e) within k ms a b c = plain_local (choose e) within k _ refl (in-zero _ within (k + 1) (single k (k + 1) (sizes within) (omega arith)))
    own-local (repeat e) within k ms a b c = plain_local (repeat e) within k _ refl (in-zero _ within (k + 1) (single k (k + 1) (sizes within) (omega arith)))
    own-local sequence within k ms a b c =
        plain_local sequence within k _ refl (in-event (began k) _ within (k + 1) (single k (k + 1) (sizes within) (omega arith)) (subst (λ (l : List Event). LocalIn l within (k + 1)) (sym (through-log k (begin_in_turn within (k + 1) (set ms k active)))) (a refl (set ms k active))))
    own-local flow within k ms a b c =
        plain_local flow within k _ refl (in-event (began k) _ within (k + 1) (single k (k + 1) (sizes within) (omega arith)) (subst (λ (l : List Event). LocalIn l within (k + 1)) (sym (through-log k (begin_all within (k + 1) (set ms k active)))) (b refl (set ms k active))))
    own-local pick within k ms a b c = plain_local pick within k _ refl (in-zero _ within (k + 1) (single k (k + 1) (sizes within) (omega arith)))
    own-local (scope xs v) within k ms a b c =
        record {
          one = λ s. near-began (rw (eq-eqb k k refl));
          other = in-event (began k) _ within (k + 1) (single k (k + 1) (sizes within) (omega arith)) (subst (λ (l : List Event). LocalIn l within (k + 1)) (sym (around-log k (begin_first within (k + 1) (set ms k active)))) (c refl (set ms k active)));
        }
    own-local (arm p o vs) within k ms a b c = plain_local (arm p o vs) within k _ refl (in-none [] within (k + 1) (λ j. refl))

    mutual
      unfolding begin Local times

      begin-local : {a : Act} {k : ℕ} → Knows f a k → (ms : List ℕ) → Local (begin a k ms).log a k
      begin-local (knows {own} {within} {k} e n r y) ms =
          own-local own within k ms (λ d ns. turn-local y (subst (λ (b : Bool). Arms b within) d r) ns) (λ d ns. all_local y (subst (λ (b : Bool). Arms b within) d r) ns) (λ d ns. first-local y (subst (λ (b : Bool). Arms b within) d r) ns)

      turn-local : {l : Acts} {c : ℕ} → KnowsIn f l c → Arms false l → (ms : List ℕ) → LocalIn (begin_in_turn l c ms).log l c
      turn-local (knows-none {c}) r ms = tt
      turn-local (knows_more {a = act own w} {l} {c} x y) r ms =
          go (begin (act own w) c ms).over (head_in (act own w) l c (begin (act own w) c ms).log (begin-local x ms) (begin-starts f x r.0 ms).above)
          (tail-in (act own w) l c _ (turn-local y r.1 (begin (act own w) c ms).marks) (turn-starts f y r.1 (begin (act own w) c ms).marks).below)
        where
          go : (v : Bool) → LocalIn (begin (act own w) c ms).log (more (act own w) l) c → LocalIn (begin_in_turn l (c + size (act own w)) (begin (act own w) c ms).marks).log (more (act own w) l) c
              → LocalIn (in_turn (begin_in_turn l (c + size (act own w))) (record { marks = (begin (act own w) c ms).marks; over = v; log = (begin (act own w) c ms).log })).log (more (act own w) l) c
          go true a b = in-append _ _ (more (act own w) l) c a b
          go false a b = a

      all_local : {l : Acts} {c : ℕ} → KnowsIn f l c → Arms false l → (ms : List ℕ) → LocalIn (begin_all l c ms).log l c
      all_local (knows-none {c}) r ms = tt
      all_local (knows_more {a = act own w} {l} {c} x y) r ms =
          in-append _ _ (more (act own w) l) c (head_in (act own w) l c (begin (act own w) c ms).log (begin-local x ms) (begin-starts f x r.0 ms).above)
          (tail-in (act own w) l c _ (all_local y r.1 (begin (act own w) c ms).marks) (all-starts f y r.1 (begin (act own w) c ms).marks).below)

      first-local : {l : Acts} {c : ℕ} → KnowsIn f l c → Arms false l → (ms : List ℕ) → LocalIn (begin_first l c ms).log l c
      first-local (knows-none {c}) r ms = tt
      first-local (knows_more {a = act own w} {l} {c} x y) r ms = head_in (act own w) l c (begin (act own w) c ms).log (begin-local x ms) (begin-starts f x r.0 ms).above

    part-local : {l : Acts} {c : ℕ} → KnowsIn f l c → Arms false l → (i : ℕ) → i < count l → (ms : List ℕ) → LocalIn (begin_part i l c ms).log l c × ((j : ℕ) → j < part_at i l c → times j (begin_part i l c ms).log ≡ 0)
    unfolding begin_part part part_at count
    part-local knows-none r i h ms = absurd (omega arith)
    part-local (knows_more {a = act own w} {l} {c} x y) r zero h ms =
        (head_in (act own w) l c (begin (act own w) c ms).log (begin-local x ms) (begin-starts f x r.0 ms).above, (begin-starts f x r.0 ms).below)
    part-local (knows_more {a = act own w} {l} {c} x y) r (suc i) h ms =
        let z = part-local y r.1 i (omega arith) ms in
        (tail-in (act own w) l c _ z.0 (λ j q. (part-list f y r.1 i (omega arith) ms).below j q), z.1)

    cond-local : (a : Act) (k : ℕ) (v : Bool) (x y : Begun) → (v ≡ true → Local x.log a k) → (v ≡ false → Local y.log a k) → Local (cond v x y).log a k
    cond-local a k true x y g h = g refl
    cond-local a k false x y g h = h refl

    -- looking for an undo part in the body of a scope begins neither that body nor anything behind it
    undo-first-times : {l : Acts} {c : ℕ} → KnowsIn f l c → (e : ℕ) (ms : List ℕ) (j : ℕ) → (eqb j c || leb (part_at 1 l c) j) ≡ true → times j (begin_undo_first l c e ms).log ≡ 0
    unfolding begin_undo part_at times
    undo-first-times (knows-none {c}) e ms j h = refl
    undo-first-times (knows_more {a} {l} {c} x y) e ms j h =
        decide (eqb j c)
        (λ d. (undo-strict f x e ms).below j (omega (arith, eqb-true j c d)))
        (λ d. (undo-strict f x e ms).above j (leb-true (c + size a) j (subst (λ (i : ℕ). leb i j ≡ true) (at_first l (c + size a)) (rw d at h))))

    -- an undo part
    mutual
      unfolding begin_undo Local times

      undo-local : {a : Act} {k : ℕ} → Knows f a k → (e : ℕ) (ms : List ℕ) → Local (begin_undo a k e ms).log a k
      undo-local (knows {own} {within} {k} x n r y) e ms =
          decide (is_scope own)
          (λ s. subst (λ (b : Begun). Local b.log (act own within) k)
          (sym (first-of (is_scope own) (cond (has_undo own) (cond (eqb k e) (begin_part (undo_part (numbers_of own)) within (k + 1) ms) (nothing_begun ms)) (begin_undo_first within (k + 1) e ms)) (begin_undo_in within (k + 1) e ms) (begin_undo (act own within) k e ms) refl s))
          (cond-local (act own within) k (has_undo own) (cond (eqb k e) (begin_part (undo_part (numbers_of own)) within (k + 1) ms) (nothing_begun ms)) (begin_undo_first within (k + 1) e ms)
          (λ u. let z = part-local y (scope-arms own within s r) (undo_part (numbers_of own)) (scope-undo own within s u n) ms in
          cond-local (act own within) k (eqb k e) (begin_part (undo_part (numbers_of own)) within (k + 1) ms) (nothing_begun ms) (λ v. record { one = λ c. near_none (λ j a b w. z.1 j b); other = z.0 })
          (λ v. local-zero [] (act own within) k (record { at = λ j a b. refl })))
          (λ u. record { one = λ c. near_none (λ j a b w. undo-first-times y e ms j (rw u at w)); other = undo-first-local y e ms })))
          (λ s. subst (λ (b : Begun). Local b.log (act own within) k)
          (sym (second-of (is_scope own) (cond (has_undo own) (cond (eqb k e) (begin_part (undo_part (numbers_of own)) within (k + 1) ms) (nothing_begun ms)) (begin_undo_first within (k + 1) e ms)) (begin_undo_in within (k + 1) e ms) (begin_undo (act own within) k e ms) refl s))
          (plain_local own within k _ s (undo-in-local y e ms)))

      undo-first-local : {l : Acts} {c : ℕ} → KnowsIn f l c → (e : ℕ) (ms : List ℕ) → LocalIn (begin_undo_first l c e ms).log l c
      undo-first-local (knows-none {c}) e ms = tt
      undo-first-local (knows_more {a} {l} {c} x y) e ms = head_in a l c _ (undo-local x e ms) (undo-strict f x e ms).above

      undo-in-local : {l : Acts} {c : ℕ} → KnowsIn f l c → (e : ℕ) (ms : List ℕ) → LocalIn (begin_undo_in l c e ms).log l c
      undo-in-local (knows-none {c}) e ms = tt
      undo-in-local (knows_more {a} {l} {c} x y) e ms =
          decide (ltb e (c + size a))
          (λ b. subst (λ (z : Begun). LocalIn z.log (more a l) c)
          (sym (first-of (ltb e (c + size a)) (begin_undo a c e ms) (begin_undo_in l (c + size a) e ms) (begin_undo_in (more a l) c e ms) refl b))
          (head_in a l c _ (undo-local x e ms) (undo-strict f x e ms).above))
          (λ b. subst (λ (z : Begun). LocalIn z.log (more a l) c)
          (sym (second-of (ltb e (c + size a)) (begin_undo a c e ms) (begin_undo_in l (c + size a) e ms) (begin_undo_in (more a l) c e ms) refl b))
          (tail-in a l c _ (undo-in-local y e ms) (undo-in-strict f y e ms).below))

    -- A scope whose body is the first of a list, and its fault parts are among those after it.
    record Sits (s : Scope) (r : Acts) (c : ℕ) : Type 0 where
      body : Knows f s.body s.body_at
      in_body : (l : List Event) → Local l s.body s.body_at → ((j : ℕ) → s.body_at + size s.body ≤ j → times j l ≡ 0) → LocalIn l r c
      in_fault : (choice : ℕ) (ms : List ℕ) → LocalIn (begin (chosen_part choice s) (chosen_at choice s) ms).log r c

    sits-scope : {within : Acts} {k : ℕ} (xs : List ℕ) → KnowsIn f within (k + 1) → Arms false within → general_part xs < count within → Sits (scope_at xs k within) within (k + 1)
    unfolding part part_at begin_part count
    sits-scope xs knows-none r n = absurd (omega arith)
    sits-scope {k = k} xs (knows_more {a} {l} x y) r n =
        record {
          body = x;
          in_body = λ m h e. head_in a l (k + 1) m h e;
          in_fault = chosen-each (λ b j. (ms : List ℕ) → LocalIn (begin b j ms).log (more a l) (k + 1)) xs k (more a l)
              (λ i h g ms. (part-local (knows_more {a = a} x y) r i (omega arith) ms).0);
        }

    module _ (r : Acts) (c : ℕ) where
      where-local : (g : Order → Outcome) (o : Outcome) → LocalIn o.log r c → ((q : Order) → LocalIn (g q).log r c) → LocalIn (where_over g o).log r c
      where-local g o w h = go o.result
        where
          go : (x : Result) → LocalIn (where_over g (record { result = x; order = o.order; log = o.log })).log r c
          go running = w
          go over = in-append o.log (g o.order).log r c w (h o.order)
          go (raising x) = w
          go leaving = w
          go undone = w
          go (undo_raising x) = w

      either-local : (v : Bool) (x y z : Outcome) → z ≡ elim v [ true ↦ x | false ↦ y ] → LocalIn x.log r c → LocalIn y.log r c → LocalIn z.log r c
      either-local true x y z e g h = subst (λ (q : Outcome). LocalIn q.log r c) (sym e) g
      either-local false x y z e g h = subst (λ (q : Outcome). LocalIn q.log r c) (sym e) h

      runs-local : (o : Order) → LocalIn (runs o).log r c
      unfolding times
      runs-local o = in-none [] r c (λ j. refl)

    module _ (s : Scope) (r : Acts) (c : ℕ) (h : Sits s r c) where
      ends-local : (o : Order) → LocalIn (ends s o).log r c
      unfolding times is_began_of
      ends-local o = in-none _ r c (λ j. refl)

      list-local : (l : List ℕ) (o : Order) → LocalIn (undo l s o).log r c
      unfolding undo start_undo times
      list-local [] o = in-none [] r c (λ j. refl)
      list-local (x ∷ l) o =
          where-local r c (undo l s) (start_undo x s o) (h.in_body _ (undo-local h.body x o.marks) (undo-strict f h.body x o.marks).above) (λ q. list-local l q)

      handle-local : (o : Order) → LocalIn (handle s o).log r c
      unfolding handle
      handle-local o =
          let o₁ = going s.name handling o in
          let i = choice_of s.name o in
          where-local r c (ends s) (begun_in o₁ (begin (chosen_part i s) (chosen_at i s) o₁.marks)) (h.in_fault i o₁.marks) (λ q. ends-local q)

      undoes-local : (w : Bool) (o : Order) → LocalIn (undoes w s o).log r c
      unfolding undoes
      undoes-local true o = let o₁ = going s.name undoing o in where-local r c (handle s) (undo (remembered_for s o₁) s o₁) (list-local (remembered_for s o₁) o₁) (λ q. handle-local q)
      undoes-local false o = let o₁ = marking s.name withdrawing o in where-local r c (ends s) (undo (remembered_for s o₁) s o₁) (list-local (remembered_for s o₁) o₁) (λ q. ends-local q)

      turns-local : (w : Bool) (o : Order) → LocalIn (turns w s o).log r c
      unfolding turns
      turns-local w o = either-local r c (inner_runs s.body s.body_at o.marks) (runs o) (undoes w s o) (turns w s o) refl (runs-local r c o) (undoes-local w o)

      looks-local : (o : Order) → LocalIn (looks_again s o).log r c
      unfolding looks_again
      looks-local o =
          either-local r c (eqb (state_of s.name o) faulty) (turns true s o) (elim (eqb (mark_of s.name o) halted) [ true ↦ turns false s o | false ↦ runs o ]) (looks_again s o) refl (turns-local true o)
          (either-local r c (eqb (mark_of s.name o) halted) (turns false s o) (runs o) _ refl (turns-local false o) (runs-local r c o))

      over-local : (o : Order) → LocalIn (body_over s o).log r c
      unfolding body_over
      over-local o = either-local r c (eqb (mark_of s.name o) active) (runs (marking s.name done o)) (looks_again s o) (body_over s o) refl (runs-local r c (marking s.name done o)) (looks-local o)

      undone-local : (o : Order) → LocalIn (undo_over s o).log r c
      unfolding undo_over
      undone-local o =
          either-local r c (eqb (state_of s.name o) undoing) (undoes true s o) (elim (eqb (mark_of s.name o) withdrawing) [ true ↦ undoes false s o | false ↦ runs o ]) (undo_over s o) refl (undoes-local true o)
          (either-local r c (eqb (mark_of s.name o) withdrawing) (undoes false s o) (runs o) _ refl (undoes-local false o) (runs-local r c o))

      breaks-local : (number : ℕ) (o : Order) → LocalIn (breaks number s o).log r c
      unfolding breaks times is_began_of
      breaks-local number o = in-none _ r c (λ j. refl)

      undo-raised-local : (number : ℕ) (o : Order) → LocalIn (undo_raised number s o).log r c
      unfolding undo_raised
      undo-raised-local number o = either-local r c (eqb (state_of s.name o) undoing || eqb (mark_of s.name o) withdrawing) (breaks number s o) (runs o) (undo_raised number s o) refl (breaks-local number o) (runs-local r c o)

      part-over-local : (o : Order) → LocalIn (part_over s o).log r c
      unfolding part_over
      part-over-local o = either-local r c (eqb (state_of s.name o) handling) (ends s o) (runs o) (part_over s o) refl (ends-local o) (runs-local r c o)

      part-raised-local : (number : ℕ) (o : Order) → LocalIn (part_raised number s o).log r c
      unfolding part_raised
      part-raised-local number o = either-local r c (eqb (state_of s.name o) handling) (breaks number s o) (runs o) (part_raised number s o) refl (breaks-local number o) (runs-local r c o)

    -- Stopping.
    halt-local : (a : Act) (k : ℕ) (v : Bool) (x y z : definitions.Stopped) → z ≡ elim v [ true ↦ x | false ↦ y ] → (v ≡ true → Local x.log a k) → (v ≡ false → Local y.log a k) → Local z.log a k
    halt-local a k true x y z e g h = subst (λ (r : definitions.Stopped). Local r.log a k) (sym e) (g refl)
    halt-local a k false x y z e g h = subst (λ (r : definitions.Stopped). Local r.log a k) (sym e) (h refl)

    mutual
      unfolding stop withdraws Local times is_began_of is_stop_of some

      stop-local : {a : Act} {k : ℕ} → Knows f a k → (o : Order) → Local (stop a k o).log a k
      stop-local (knows {own} {within} {k} x n r y) o =
          halt-local (act own within) k (is_scope own) (elim (is_open (mark_at k o)) [ true ↦ withdraws k (scope_at (numbers_of own) k within) (stop_first within (k + 1) (marked k halted o)) | false ↦ untouched o ]) (stop_all within (k + 1) (marked k idle o)) _ refl
          (λ s. halt-local (act own within) k (is_open (mark_at k o)) (withdraws k (scope_at (numbers_of own) k within) (stop_first within (k + 1) (marked k halted o))) (untouched o) _ refl
          (λ v. record {
            one = λ e. near-stopped (rw (eq-eqb k k refl));
            other = in-event (stopped k) _ within (k + 1) (record { at = λ j p q. refl }) (in-append _ _ within (k + 1) (stop-first-local y (marked k halted o))
                (turns-local (scope_at (numbers_of own) k within) within (k + 1) (sits-scope (numbers_of own) y (scope-arms own within s r) (scope-general own within s n)) false _));
          })
          (λ v. local-zero [] (act own within) k (record { at = λ j p q. refl })))
          (λ s. plain_local own within k _ s (stop-all-local y (marked k idle o)))

      stop-all-local : {l : Acts} {c : ℕ} → KnowsIn f l c → (o : Order) → LocalIn (stop_all l c o).log l c
      stop-all-local (knows-none {c}) o = tt
      stop-all-local (knows_more {a} {l} {c} x y) o =
          in-append (stop a c o).log (stop_all l (c + size a) (stop a c o).order).log (more a l) c (head_in a l c _ (stop-local x o) (stop-strict f x o).above)
          (tail-in a l c _ (stop-all-local y (stop a c o).order) (stop-all-strict f y (stop a c o).order).below)

      stop-first-local : {l : Acts} {c : ℕ} → KnowsIn f l c → (o : Order) → LocalIn (stop_first l c o).log l c
      stop-first-local (knows-none {c}) o = tt
      stop-first-local (knows_more {a} {l} {c} x y) o = head_in a l c _ (stop-local x o) (stop-strict f x o).above

    module _ (s : Scope) (r : Acts) (c : ℕ) (h : Sits s r c) where
      faults-local : (number : ℕ) (o : Order) → LocalIn (faults number s o).log r c
      unfolding faults times is_began_of
      faults-local number o =
          let o₁ = causing s.name number (marking s.name (mark_with (choice_for number s) faulty) o) in
          let q = stop s.body s.body_at o₁ in
          in-event (faulted s.name number) _ r c (record { at = λ j x y. refl }) (in-append q.log (turns true s q.order).log r c (h.in_body _ (stop-local h.body o₁) (stop-strict f h.body o₁).above) (turns-local s r c h true q.order))

      raised-local : (number : ℕ) (o : Order) → LocalIn (body_raised number s o).log r c
      unfolding body_raised
      raised-local number o = either-local r c (is_open (mark_of s.name o)) (faults number s o) (looks_again s o) (body_raised number s o) refl (faults-local number o) (looks-local s r c h o)

      body-local : (q : Outcome) → LocalIn q.log r c → LocalIn (from_body s q).log r c
      unfolding from_body
      body-local q w = go q.result
        where
          later : (x : Outcome) → LocalIn x.log r c → LocalIn (q.log ++ x.log) r c
          later x v = in-append q.log x.log r c w v

          go : (y : Result) → LocalIn (from_body s (record { result = y; order = q.order; log = q.log })).log r c
          go running = later (looks_again s q.order) (looks-local s r c h q.order)
          go over = later (body_over s q.order) (over-local s r c h q.order)
          go (raising x) = later (body_raised x s q.order) (raised-local x q.order)
          go leaving = w
          go undone = later (undo_over s q.order) (undone-local s r c h q.order)
          go (undo_raising x) = later (undo_raised x s q.order) (undo-raised-local s r c h x q.order)

      fault-local : (q : Outcome) → LocalIn q.log r c → LocalIn (from_fault s q).log r c
      unfolding from_fault
      fault-local q w = go q.result
        where
          go : (y : Result) → LocalIn (from_fault s (record { result = y; order = q.order; log = q.log })).log r c
          go running = w
          go over = in-append q.log (part_over s q.order).log r c w (part-over-local s r c h q.order)
          go (raising x) = in-append q.log (part_raised x s q.order).log r c w (part-raised-local s r c h x q.order)
          go leaving = w
          go undone = w
          go (undo_raising x) = w

    -- A step.
    after-local : {l : Acts} {c : ℕ} → KnowsIn f l c → Arms false l → (ms : List ℕ) → LocalIn (begin_after l c t ms).log l c × ((j : ℕ) → j < c → times j (begin_after l c t ms).log ≡ 0)
    unfolding begin_after Local times
    after-local (knows-none {c}) r ms = (tt, λ j h. refl)
    after-local (knows_more {a = act own w} {l} {c} x y) r ms =
        decide (ltb t (c + size (act own w)))
        (λ d. rw (begin_after, d) (tail-in (act own w) l c _ (turn-local y r.1 ms) (turn-starts f y r.1 ms).below, λ j h. (turn-starts f y r.1 ms).below j (omega arith)))
        (λ d. let z = after-local y r.1 ms in rw (begin_after, d) (tail-in (act own w) l c _ z.0 z.1, λ j h. z.1 j (omega arith)))

    on-local : (r : Acts) (c : ℕ) (k v : ℕ) (g : Order → Outcome) (q : Outcome) → LocalIn q.log r c → ((o : Order) → LocalIn (g o).log r c) → LocalIn (goes_on k v g q).log r c
    unfolding goes_on
    on-local r c k v g q w h = where-local r c (λ o. elim (eqb (mark_at k o) v) [ true ↦ g o | false ↦ runs o ]) q w (λ o. either-local r c (eqb (mark_at k o) v) (g o) (runs o) _ refl (h o) (runs-local r c o))

    joins-local : (r : Acts) (c : ℕ) (k : ℕ) (within : Acts) (o : Order) → LocalIn (joins k within o).log r c
    unfolding joins times
    joins-local r c k within o = either-local r c (quiet (k + 1) (sizes within) o.marks) (finishes k o) (runs o) (joins k within o) refl (in-none [] r c (λ j. refl)) (runs-local r c o)

    or-local : (r : Acts) (c : ℕ) (k : ℕ) (o : Order) (g : ℕ → Outcome) (v : Value) → ((n : ℕ) → LocalIn (g n).log r c) → LocalIn (or_raises k o g v).log r c
    unfolding times is_began_of
    or-local r c k o g (fault x) h = in-none _ r c (λ j. refl)
    or-local r c k o g (value n) h = h n

    itself-local : (own : Own) (within : Acts) (q₀ k : ℕ) (o : Order) → needs own ≤ count within → Arms (is_pick own) within → KnowsIn f within (k + 1) → LocalIn (itself own within q₀ k o).log within (k + 1)
    unfolding itself needs least kind times is_began_of closing repeats
    itself-local empty within q₀ k o n r y = in-none [] within (k + 1) (λ j. refl)
    itself-local (send a b vs) within q₀ k o n r y = by-send (λ x. LocalIn x.log within (k + 1)) a b vs within q₀ k o (in-none [] within (k + 1) (λ j. refl)) (λ x. in-none _ within (k + 1) (λ j. refl))
    itself-local (receive a b vs) within q₀ k o n r y = in-none [] within (k + 1) (λ j. refl)
    itself-local (setting v e) within q₀ k o n r y = or-local within (k + 1) k o _ (evaluate e o) (λ i. in-none [] within (k + 1) (λ j. refl))
    itself-local (raise zero) within q₀ k o n r y = in-none _ within (k + 1) (λ j. refl)
    itself-local (raise (suc number)) within q₀ k o n r y = in-none _ within (k + 1) (λ j. refl)
    itself-local leave within q₀ k o n r y = in-none _ within (k + 1) (λ j. refl)
    itself-local (choose e) within q₀ k o n r y = or-local within (k + 1) k o _ (evaluate e o) (λ z. let o₁ = marked k inside o in
        where-local within (k + 1) (finishes k) (begun_in o₁ (begin_part (cond (is_true z) 0 1) within (k + 1) o₁.marks)) (part-local y r (cond (is_true z) 0 1) (second (is_true z)) o₁.marks).0 (λ q. in-none [] within (k + 1) (λ j. refl)))
      where
        second : (b : Bool) → cond b 0 1 < count within
        second true = omega arith
        second false = omega arith
    itself-local (repeat e) within q₀ k o n r y = or-local within (k + 1) k o _ (evaluate e o) (λ z. either-local within (k + 1) (is_true z) (repeats k within o) (finishes k o) _ refl body (in-none [] within (k + 1) (λ j. refl)))
      where
        body : LocalIn (repeats k within o).log within (k + 1)
        body =
            let o₁ = marked k inside (with_marks (cleared (k + 1) (sizes within) o.marks) o) in
            where-local within (k + 1) (again k) (begun_in o₁ (begin_part 0 within (k + 1) o₁.marks)) (part-local y r 0 (omega arith) o₁.marks).0 (λ q. in-none [] within (k + 1) (λ j. refl))
    itself-local sequence within q₀ k o n r y = in-none [] within (k + 1) (λ j. refl)
    itself-local flow within q₀ k o n r y = in-none [] within (k + 1) (λ j. refl)
    itself-local pick within q₀ k o n r y = in-none [] within (k + 1) (λ j. refl)
    itself-local (scope xs v) within q₀ k o n r y = in-none _ within (k + 1) (λ j. refl)
    itself-local (arm a b vs) within q₀ k o n r y = (part-local y r 0 (omega arith) o.marks).0

    combines-local : (own : Own) (within : Acts) (k : ℕ) (q : Outcome) → needs own ≤ count within → Arms (is_pick own) within → KnowsIn f within (k + 1) → LocalIn q.log within (k + 1)
        → LocalIn (combines own within k t q).log within (k + 1)
    unfolding combines needs kind times in_scope from_undo
    combines-local empty within k q n r y w = w
    combines-local (send a b vs) within k q n r y w = w
    combines-local (receive a b vs) within k q n r y w = w
    combines-local (setting v e) within k q n r y w = w
    combines-local (raise number) within k q n r y w = w
    combines-local leave within k q n r y w = w
    combines-local (choose e) within k q n r y w = on-local within (k + 1) k inside (finishes k) q w (λ o. in-none [] within (k + 1) (λ j. refl))
    combines-local (repeat e) within k q n r y w = on-local within (k + 1) k inside (again k) q w (λ o. in-none [] within (k + 1) (λ j. refl))
    combines-local sequence within k q n r y w =
        on-local within (k + 1) k active _ q w (λ o. where-local within (k + 1) (finishes k) (begun_in o (begin_after within (k + 1) t o.marks)) (after-local y r o.marks).0 (λ o₁. in-none [] within (k + 1) (λ j. refl)))
    combines-local flow within k q n r y w = on-local within (k + 1) k active (joins k within) q w (λ o. joins-local within (k + 1) k within o)
    combines-local pick within k q n r y w = on-local within (k + 1) k inside (finishes k) q w (λ o. in-none [] within (k + 1) (λ j. refl))
    combines-local (scope xs u) within k q n r y w =
        let s = scope_at xs k within in
        let i = sits-scope xs y r (scope-general (scope xs u) within refl n) in
        either-local within (k + 1) (ltb t (part_at 1 within (k + 1))) (elim (goes_through u k q) [ true ↦ q | false ↦ from_body s q ]) (elim (ltb t (part_at (undo_part xs) within (k + 1))) [ true ↦ from_fault s q | false ↦ from_undo q ]) _ refl
        (either-local within (k + 1) (goes_through u k q) q (from_body s q) _ refl w (body-local s within (k + 1) i q w))
        (either-local within (k + 1) (ltb t (part_at (undo_part xs) within (k + 1))) (from_fault s q) (from_undo q) _ refl (fault-local s within (k + 1) i q w) w)
    combines-local (arm a b vs) within k q n r y w = w

    case-local : (r : Acts) (c : ℕ) (v : Bool) (x y z : Outcome) → z ≡ elim v [ true ↦ x | false ↦ y ] → (v ≡ true → LocalIn x.log r c) → (v ≡ false → LocalIn y.log r c) → LocalIn z.log r c
    case-local r c true x y z e g h = subst (λ (q : Outcome). LocalIn q.log r c) (sym e) (g refl)
    case-local r c false x y z e g h = subst (λ (q : Outcome). LocalIn q.log r c) (sym e) (h refl)

    -- what acts: the activity itself, or a raise in its place
    performs-local : (actor : Actor) (own : Own) (within : Acts) (q₀ k : ℕ) (o : Order) → needs own ≤ count within → Arms (is_pick own) within → KnowsIn f within (k + 1)
        → LocalIn (performs actor own within q₀ k o).log within (k + 1)
    unfolding performs times is_began_of
    performs-local actor own within q₀ k o n r y =
        case-local within (k + 1) (replaces actor (kind own)) (raises conflicting_receive k o) (itself own within q₀ k o) _ refl (λ e. in-none _ within (k + 1) (λ j. refl)) (λ e. itself-local own within q₀ k o n r y)

    mutual
      unfolding step_in Local times size

      step_local : (actor : Actor) {a : Act} {k : ℕ} → Knows f a k → (q₀ : ℕ) (o : Order) → k ≤ t → t < k + size a → Local (step_in actor a q₀ k t o).log a k
      step_local actor (knows {own} {within} {k} x n r y) q₀ o h e =
          record {
            one = λ s. near-stands h e;
            other = case-local within (k + 1) (eqb k t) (performs actor own within q₀ k o) (combines own within k t (step_among actor within (is_scope own) q₀ (k + 1) t (arms own within k t o))) _ refl
                (λ d. performs-local actor own within q₀ k o n r y)
                (λ d. combines-local own within k (step_among actor within (is_scope own) q₀ (k + 1) t (arms own within k t o)) n r y
                (among-local actor y (is_scope own) q₀ (arms own within k t o) (let z = eqb-false k t d in omega arith)));
          }

      among-local : (actor : Actor) {l : Acts} {c : ℕ} → KnowsIn f l c → (v : Bool) (q₀ : ℕ) (o : Order) → c ≤ t → LocalIn (step_among actor l v q₀ c t o).log l c
      among-local actor (knows-none {c}) v q₀ o h = tt
      among-local actor (knows_more {a} {l} {c} x y) v q₀ o h =
          case-local (more a l) c (ltb t (c + size a)) (step_in actor a (cond v c q₀) c t o) (step_among actor l v q₀ (c + size a) t o) _ refl
          (λ e. head_in a l c _ (step_local actor x (cond v c q₀) o h (ltb-true t (c + size a) e)) (step-at f t actor x (cond v c q₀) o h).strict.above)
          (λ e. tail-in a l c _ (among-local actor y v q₀ o (ltb-false t (c + size a) e)) (λ j q. (among-at f t actor y v q₀ o (ltb-false t (c + size a) e)).strict.below j q))

    -- From the root.
    module _ (p : Plan) (kb : Knows f p.body 0) (kf : Knows f p.fault (size p.body)) (named : Named f p.fault) where
      abbrev pub all : Acts
      all = more p.body (more p.fault none)

      fault-in : (l : List Event) → Local l p.fault (size p.body) → ((j : ℕ) → j < size p.body → times j l ≡ 0) → ((j : ℕ) → size p.body + size p.fault ≤ j → times j l ≡ 0) → LocalIn l all 0
      fault-in l h z y =
          tail-in p.body (more p.fault none) 0 l (subst (λ (c : ℕ). LocalIn l (more p.fault none) c) (omega arith) (head_in p.fault none (size p.body) l h y)) (λ j x. z j (omega arith))

      sits-root : Sits (root_of p) all 0
      sits-root =
          record {
            body = kb;
            in_body = λ l h e. head_in p.body (more p.fault none) 0 l h e;
            in_fault = root-chosen (λ a j. (ms : List ℕ) → LocalIn (begin a j ms).log all 0) p
                (λ ms. let e = begin-starts f kf named ms in fault-in _ (begin-local kf ms) e.below e.above);
          }

      pub root-local : (actor : Actor) (o : Order) → t < size p.body + size p.fault → LocalIn (step_root actor p t o).log all 0
      unfolding step_root
      root-local actor o n =
          case-local all 0 (ltb t (size p.body)) (from_body (root_of p) (step_in actor p.body 0 0 t o)) (from_fault (root_of p) (step_in actor p.fault (size p.body) (size p.body) t o)) (step_root actor p t o) refl
          (λ e. body-local (root_of p) all 0 sits-root (step_in actor p.body 0 0 t o) (head_in p.body (more p.fault none) 0 _ (step_local actor kb 0 o (omega arith) (let z = ltb-true t (size p.body) e in omega arith)) (step-at f t actor kb 0 o (omega arith)).strict.above))
          (λ e. let z = ltb-false t (size p.body) e in
          let w = (step-at f t actor kf (size p.body) o z).strict in
          fault-local (root_of p) all 0 sits-root (step_in actor p.fault (size p.body) (size p.body) t o) (fault-in _ (step_local actor kf (size p.body) o z n) (λ j x. w.below j (omega arith)) w.above))

      pub start-local : Named f p.body → (ms : List ℕ) → LocalIn (begin p.body 0 ms).log all 0
      start-local i ms = head_in p.body (more p.fault none) 0 _ (begin-local kb ms) (begin-starts f kb i ms).above
