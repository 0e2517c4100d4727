-- What a scope, a stop and a step begin, they begin entirely; and a step that leaves begins nothing. Read off the logs alone. Assumes nothing.
use Prim.Native.Nat.{ℕ, zero, suc, ◌+◌, ◌≤◌, ◌<◌}
use native.Mathlib.Omega.{arith}
use mathlib.Core.Path.{◌≡◌, refl, sym, ap, subst, ◌∙◌}
use mathlib.Core.Bool.{Bool, true, false, cond, ◌&&◌, ◌||◌, false≢true}
use mathlib.Core.List.{List, [], ◌∷◌, ◌++◌}
use lib.Dec.{eqb, ltb, leb}
use borrow.Author.Tests.{eqb-false, ltb-false, le-leb}
use Rattle.plan.specs.Tree.{Own, empty, send, receive, set as setting, raise, leave, choose, repeat, sequence, flow, pick, scope, arm, kind, Act, act, Acts, none, more, Plan, size, sizes, count, is_scope, has_undo, is_pick, numbers_of, undo_part, general_part}
use Rattle.order.specs.declared.Order.{Order}
use Rattle.order.specs.State.{idle, active, inside, faulty, undoing, handling, halted, withdrawing, done, with_marks, mark_at, marked, mark_of, marking, binding, causing, state_of, going, mark_with, choice_of}
use Rattle.order.specs.Event.{Event, faulted, stopped}
use Rattle.order.specs.Expression.{conflicting_receive, Value, fault, value, evaluate, is_true}
use Rattle.order.specs.Begin.{Begun, nothing_begun, begin, begin_after, part, part_at, begin_part, cleared, quiet}
use Rattle.order.specs.declared.Way.{Way as Result}
use Rattle.order.specs.declared.Way.TheVariants.{Running as running, Over as over, Raising as raising, Leaving as leaving, Undone as undone, UndoRaising as undo_raising}
use Rattle.order.specs.Scope.{Outcome, root_of, runs, after, begun_in, where_over, Scope, scope_at, is_open, inner_runs, closing, begin_undo, begin_undo_first, begin_undo_in, start_undo, undo, ends, handle, undoes, turns, remembered_for, untouched, withdraws, stop, stop_all, stop_first, faults, breaks, looks_again, body_over, body_raised, undo_over, undo_raised, from_body, part_over, part_raised, from_fault, from_undo, goes_through, choice_for, chosen_part, chosen_at}
use Rattle.order.specs.Scope as definitions
use Rattle.order.specs.Acting.{finishes, raises, or_raises, again, repeats, itself, arms, goes_on, joins, in_scope, combines, step_in, step_among, step_root, Actor, replaces, performs}
use Rattle.undoing.specs.Orderly.{is_began_of}
use Rattle.undoing.specs.Begun.{lasts}
use Rattle.undoing.specs.Entirely.{times}
use Rattle.undoing.proofs.Parts.{decide}
use Rattle.undoing.proofs.Choices.{chosen-each, root-chosen, general-there, undo-there}
use Rattle.undoing.proofs.Orders.{least}
use Rattle.undoing.proofs.Places.{first-of, second-of}
use Rattle.undoing.proofs.Planning.{scope-own}
use Rattle.undoing.proofs.Truly.{Arms, needs, Knows, knows, KnowsIn, knows-none, knows_more}
use Rattle.undoing.proofs.Entire.{scope-not, times-append, times-event, Zero, Even, Row, Rows, First, Holds, HoldsIn, no, even-zero, even-rows, even-even, even-first, holds-zero, holds-in-zero, first-same, holds_same, holds-in-same, rows_append, first-append, holds-in-append, Starts, Ranks, none-ranks, rows_row, Named, begin-starts, turn-starts}
use Rattle.undoing.proofs.Sends.{by-send}

abbrev pub is_leaving : Result → Bool
is_leaving running = false
is_leaving over = false
is_leaving (raising x) = false
is_leaving leaving = true
is_leaving undone = false
is_leaving (undo_raising x) = false

-- a later one of a sequence may begin once more where the step stands in the one before it
abbrev pub allow : (t : ℕ) → ℕ → ℕ → ℕ
allow t i j = cond (leb i t && ltb t j) 1 0

abbrev log-of : Outcome → List Event
log-of o = o.log

abbrev result-of : Outcome → Result
result-of o = o.result

-- What begins stands in an activity, and is not that; in a list, and is none of it; in a list, and is not the first of it.
pub record Strict (x : ℕ → ℕ → ℕ) (a : Act) (k : ℕ) (l : List Event) : Type 0 where
  pub holds : Holds x l a k
  pub below : (j : ℕ) → j ≤ k → times j l ≡ 0
  pub above : (j : ℕ) → k + size a ≤ j → times j l ≡ 0

pub record StrictIn (x : ℕ → ℕ → ℕ) (r : Acts) (c : ℕ) (l : List Event) : Type 0 where
  pub holds : HoldsIn x l r c
  pub even : Even l 0 r c
  pub below : (j : ℕ) → j < c → times j l ≡ 0
  pub above : (j : ℕ) → c + sizes r ≤ j → times j l ≡ 0

pub record Wide (x : ℕ → ℕ → ℕ) (r : Acts) (c : ℕ) (l : List Event) : Type 0 where
  pub holds : HoldsIn x l r c
  pub first : First l 0 r c
  pub below : (j : ℕ) → j < c → times j l ≡ 0
  pub above : (j : ℕ) → c + sizes r ≤ j → times j l ≡ 0

-- no scope is a sequence or a flow, or has arms
pub scope-kind : (own : Own) (n : ℕ) → is_scope own ≡ true → eqb 11 n ≡ false → eqb 12 n ≡ false → eqb 14 n ≡ false → eqb (kind own) n ≡ false
scope-kind own n s h g i = ap (λ (x : Own). eqb (kind x) n) (scope-own own s) ∙ scope-not n (numbers_of own) (has_undo own) h g i

pub scope-arms : (own : Own) (within : Acts) → is_scope own ≡ true → Arms (is_pick own) within → Arms false within
scope-arms own within s r = subst (λ (b : Bool). Arms b within) (ap is_pick (scope-own own s)) r

pub scope-lasts : (own : Own) → is_scope own ≡ true → lasts (kind own) ≡ true
unfolding lasts kind
scope-lasts own s = ap (λ (x : Own). lasts (kind x)) (scope-own own s) ∙ go (numbers_of own) (has_undo own)
  where
    go : (ns : List ℕ) (v : Bool) → lasts (kind (scope ns v)) ≡ true
    go [] true = refl
    go [] false = refl
    go (n ∷ ns) v = refl

-- its undo part stands within it, and its fault parts
pub scope-undo : (own : Own) (within : Acts) → is_scope own ≡ true → has_undo own ≡ true → needs own ≤ count within → undo_part (numbers_of own) < count within
unfolding needs
scope-undo own within s u h = undo-there own (count within) u (rw s at h)

pub scope-general : (own : Own) (within : Acts) → is_scope own ≡ true → needs own ≤ count within → general_part (numbers_of own) < count within
unfolding needs
scope-general own within s h = general-there own (count within) (rw s at h)

module _ (x : ℕ → ℕ → ℕ) where
  strict_of : (own : Own) (within : Acts) (k : ℕ) (l : List Event) → StrictIn x within (k + 1) l → Strict x (act own within) k l
  unfolding Holds size
  strict_of own within k l w =
      let n : times k l ≡ 0 = w.below k (omega arith) in
      record {
        holds = record {
          rows = λ e. even-rows x l (times k l) within (k + 1) n w.even;
          even = λ e. even-even x l (times k l) within (k + 1) n w.even;
          first = λ e. even-first x l (times k l) within (k + 1) n w.even;
          rest = w.holds;
        };
        below = λ j u. w.below j (omega arith);
        above = λ j u. w.above j (omega arith);
      }

  scope_of : (own : Own) (within : Acts) (k : ℕ) (l : List Event) → is_scope own ≡ true → Wide x within (k + 1) l → Strict x (act own within) k l
  unfolding Holds size
  scope_of own within k l s w =
      let n : times k l ≡ 0 = w.below k (omega arith) in
      record {
        holds = record {
          rows = λ e. absurd (false≢true (sym (scope-kind own 8 s refl refl refl) ∙ e));
          even = λ e. absurd (false≢true (sym (scope-kind own 9 s refl refl refl) ∙ e));
          first = λ e. subst (λ (n : ℕ). First l n within (k + 1)) (sym n) w.first;
          rest = w.holds;
        };
        below = λ j u. w.below j (omega arith);
        above = λ j u. w.above j (omega arith);
      }

  strict-wide : {r : Acts} {c : ℕ} {l : List Event} → StrictIn x r c l → Wide x r c l
  strict-wide {r} {c} {l} w = record { holds = w.holds; first = even-first x l 0 r c refl w.even; below = w.below; above = w.above }

  -- nothing begins
  strict-zero : (a : Act) (k : ℕ) (l : List Event) → ((j : ℕ) → times j l ≡ 0) → Strict x a k l
  strict-zero a k l z = record { holds = holds-zero x l a k (record { at = λ j u v. z j }); below = λ j u. z j; above = λ j u. z j }

  in-zero : (r : Acts) (c : ℕ) (l : List Event) → ((j : ℕ) → times j l ≡ 0) → StrictIn x r c l
  in-zero r c l z =
      record { holds = holds-in-zero x l r c (record { at = λ j u v. z j }); even = even-zero x l r c (record { at = λ j u v. z j }); below = λ j u. z j; above = λ j u. z j }

  pub wide-zero : (r : Acts) (c : ℕ) (l : List Event) → ((j : ℕ) → times j l ≡ 0) → Wide x r c l
  wide-zero r c l z = strict-wide (in-zero r c l z)

  -- as often with another list
  strict-like : {a : Act} {k : ℕ} {l : List Event} (m : List Event) → ((j : ℕ) → times j m ≡ times j l) → Strict x a k l → Strict x a k m
  strict-like {a} {k} {l} m e w =
      record { holds = holds_same x l m a k (record { at = λ j u v. e j }) w.holds; below = λ j u. e j ∙ w.below j u; above = λ j u. e j ∙ w.above j u }

  pub wide-like : {r : Acts} {c : ℕ} {l : List Event} (m : List Event) → ((j : ℕ) → times j m ≡ times j l) → Wide x r c l → Wide x r c m
  wide-like {r} {c} {l} m e w =
      record {
        holds = holds-in-same x l m r c (record { at = λ j u v. e j }) w.holds;
        first = first-same x l m 0 r c (record { at = λ j u v. e j }) w.first;
        below = λ j u. e j ∙ w.below j u;
        above = λ j u. e j ∙ w.above j u;
      }

  wide-event : {r : Acts} {c : ℕ} {l : List Event} (e : Event) → ((j : ℕ) → is_began_of (eqb j) e ≡ false) → Wide x r c l → Wide x r c (e ∷ l)
  wide-event {l = l} e n w = wide-like (e ∷ l) (λ j. times-event j e l (n j)) w

  pub wide-append : {r : Acts} {c : ℕ} (l m : List Event) → Wide x r c l → Wide no r c m → Wide x r c (l ++ m)
  wide-append {r} {c} l m w v =
      record {
        holds = holds-in-append x no x (λ i j. omega arith) l m r c w.holds v.holds;
        first = first-append x no x (λ i j. omega arith) l m 0 0 r c w.first v.first;
        below = λ j u. let e = times-append j l m in let a = w.below j u in let b = v.below j u in omega arith;
        above = λ j u. let e = times-append j l m in let a = w.above j u in let b = v.above j u in omega arith;
      }

  -- of the first of a list, and of a later one
  strict-first : (a : Act) (r : Acts) (c : ℕ) (l : List Event) → Strict x a c l → StrictIn x (more a r) c l
  unfolding Holds size
  strict-first a r c l w =
      let z : Zero l (c + size a) (sizes r) = record { at = λ j u v. w.above j u } in
      record {
        holds = record { one = w.holds; other = holds-in-zero x l r (c + size a) z };
        even = record { one = w.below c (omega arith); other = even-zero x l r (c + size a) z };
        below = λ j u. w.below j (omega arith);
        above = λ j u. w.above j (omega arith);
      }

  strict-later : (a : Act) (r : Acts) (c : ℕ) (l : List Event) → StrictIn x r (c + size a) l → StrictIn x (more a r) c l
  unfolding Holds size
  strict-later (act own within) r c l w =
      record {
        holds = record { one = holds-zero x l (act own within) c (record { at = λ j u v. w.below j v }); other = w.holds };
        even = record { one = w.below c (omega arith); other = w.even };
        below = λ j u. w.below j (omega arith);
        above = λ j u. w.above j (omega arith);
      }

-- one of a list begins
pub record InList (r : Acts) (c : ℕ) (l : List Event) : Type 0 where
  pub holds : HoldsIn no l r c
  pub below : (j : ℕ) → j < c → times j l ≡ 0
  pub above : (j : ℕ) → c + sizes r ≤ j → times j l ≡ 0

pub list-first : (a : Act) (r : Acts) (c : ℕ) (l : List Event) → Starts a c l → InList (more a r) c l
unfolding Holds size
list-first a r c l w =
    record { holds = record { one = w.holds; other = holds-in-zero no l r (c + size a) (record { at = λ j u v. w.above j u }) }; below = w.below; above = λ j u. w.above j (omega arith) }

list-later : (a : Act) (r : Acts) (c : ℕ) (l : List Event) → InList r (c + size a) l → InList (more a r) c l
unfolding Holds size
list-later a r c l w =
    record { holds = record { one = holds-zero no l a c (record { at = λ j u v. w.below j v }); other = w.holds }; below = λ j u. w.below j (omega arith); above = λ j u. w.above j (omega arith) }

-- one that is not the first
list-wide : (a : Act) (r : Acts) (c : ℕ) (l : List Event) → InList r (c + size a) l → Wide no (more a r) c l
unfolding size
list-wide (act own within) r c l w = let v = list-later (act own within) r c l w in record { holds = v.holds; first = w.below c (omega arith); below = v.below; above = v.above }

-- in an activity other than a sequence, a flow or a scope
plain_of : (x : ℕ → ℕ → ℕ) (own : Own) (within : Acts) (k : ℕ) (l : List Event) → eqb (kind own) 8 ≡ false → eqb (kind own) 9 ≡ false → is_scope own ≡ false → InList within (k + 1) l
    → Strict x (act own within) k l
unfolding Holds size times
plain_of x own within k l a b s w =
    record {
      holds = record {
        rows = λ e. absurd (false≢true (sym a ∙ e));
        even = λ e. absurd (false≢true (sym b ∙ e));
        first = λ e. absurd (false≢true (sym s ∙ e));
        rest = subst (λ (m : List Event). HoldsIn x m within (k + 1)) refl (holds-in-append-none l within (k + 1) w.holds);
      };
      below = λ j u. w.below j (omega arith);
      above = λ j u. w.above j (omega arith);
    }
  where
    -- with nothing before it
    holds-in-append-none : (l : List Event) (r : Acts) (c : ℕ) → HoldsIn no l r c → HoldsIn x l r c
    holds-in-append-none l r c h = holds-in-append no no x (λ i j. omega arith) [] l r c (holds-in-zero no [] r c (record { at = λ j u v. refl })) h

module _ (f : ℕ → ℕ) where
  pub part-list : {l : Acts} {c : ℕ} → KnowsIn f l c → Arms false l → (i : ℕ) → i < count l → (ms : List ℕ) → InList l c (begin_part i l c ms).log
  unfolding begin_part part part_at count
  part-list knows-none r i h ms = absurd (omega arith)
  part-list (knows_more {a = act own w} {l} {c} x y) r zero h ms = list-first (act own w) l c (begin (act own w) c ms).log (begin-starts f x r.0 ms)
  part-list (knows_more {a = act own w} {l} {c} x y) r (suc i) h ms = list-later (act own w) l c _ (part-list y r.1 i (omega arith) ms)

  part-wide : {l : Acts} {c : ℕ} → KnowsIn f l c → Arms false l → (i : ℕ) → 1 ≤ i → i < count l → (ms : List ℕ) → Wide no l c (begin_part i l c ms).log
  unfolding begin_part part part_at count
  part-wide knows-none r i g h ms = absurd (omega arith)
  part-wide (knows_more x y) r zero g h ms = absurd (omega arith)
  part-wide (knows_more {a = act own w} {l} {c} x y) r (suc i) g h ms = list-wide (act own w) l c _ (part-list y r.1 i (omega arith) ms)

  either-strict : {a : Act} {k : ℕ} (v : Bool) (x y z : Begun) → z ≡ elim v [ true ↦ x | false ↦ y ] → (v ≡ true → Strict no a k x.log) → Strict no a k y.log → Strict no a k z.log
  either-strict {a} {k} true x y z e g h = subst (λ (r : Begun). Strict no a k r.log) (sym e) (g refl)
  either-strict {a} {k} false x y z e g h = subst (λ (r : Begun). Strict no a k r.log) (sym e) h

  either-in : {l : Acts} {c : ℕ} (v : Bool) (x y z : Begun) → z ≡ elim v [ true ↦ x | false ↦ y ] → StrictIn no l c x.log → StrictIn no l c y.log → StrictIn no l c z.log
  either-in {l} {c} true x y z e g h = subst (λ (r : Begun). StrictIn no l c r.log) (sym e) g
  either-in {l} {c} false x y z e g h = subst (λ (r : Begun). StrictIn no l c r.log) (sym e) h

  cond-wide : {l : Acts} {c : ℕ} (v : Bool) (x y : Begun) → (v ≡ true → Wide no l c x.log) → (v ≡ false → Wide no l c y.log) → Wide no l c (cond v x y).log
  cond-wide true x y g h = g refl
  cond-wide false x y g h = h refl

  -- an undo part
  mutual
    unfolding begin_undo times

    pub undo-strict : {a : Act} {k : ℕ} → Knows f a k → (e : ℕ) (ms : List ℕ) → Strict no a k (begin_undo a k e ms).log
    undo-strict (knows {own} {within} {k} x n r y) e ms =
        either-strict (is_scope own) (cond (has_undo own) (cond (eqb k e) (begin_part (undo_part (numbers_of own)) within (k + 1) ms) (nothing_begun ms)) (begin_undo_first within (k + 1) e ms)) (begin_undo_in within (k + 1) e ms) _ refl
        (λ s. scope_of no own within k _ s
        (cond-wide (has_undo own) (cond (eqb k e) (begin_part (undo_part (numbers_of own)) within (k + 1) ms) (nothing_begun ms)) (begin_undo_first within (k + 1) e ms)
        (λ u. cond-wide (eqb k e) (begin_part (undo_part (numbers_of own)) within (k + 1) ms) (nothing_begun ms) (λ v. part-wide y (scope-arms own within s r) (undo_part (numbers_of own)) (omega arith) (scope-undo own within s u n) ms) (λ v. wide-zero no within (k + 1) [] (λ j. refl)))
        (λ u. undo-first-wide y e ms)))
        (strict_of no own within k _ (undo-in-strict y e ms))

    -- in the body of a scope
    undo-first-wide : {l : Acts} {c : ℕ} → KnowsIn f l c → (e : ℕ) (ms : List ℕ) → Wide no l c (begin_undo_first l c e ms).log
    undo-first-wide (knows-none {c}) e ms = wide-zero no none c [] (λ j. refl)
    undo-first-wide (knows_more {a} {l} {c} x y) e ms = strict-wide no (strict-first no a l c _ (undo-strict x e ms))

    pub undo-in-strict : {l : Acts} {c : ℕ} → KnowsIn f l c → (e : ℕ) (ms : List ℕ) → StrictIn no l c (begin_undo_in l c e ms).log
    undo-in-strict (knows-none {c}) e ms = in-zero no none c [] (λ j. refl)
    undo-in-strict (knows_more {a} {l} {c} x y) e ms =
        either-in (ltb e (c + size a)) (begin_undo a c e ms) (begin_undo_in l (c + size a) e ms) _ refl (strict-first no a l c _ (undo-strict x e ms)) (strict-later no a l c _ (undo-in-strict y e ms))

  -- A scope whose body is the first of a list, and its fault parts are among those after it.
  pub record Sit (s : Scope) (r : Acts) (c : ℕ) : Type 0 where
    pub body : Knows f s.body s.body_at
    pub in_body : (x : ℕ → ℕ → ℕ) (l : List Event) → Strict x s.body s.body_at l → Wide x r c l
    pub in_fault : (choice : ℕ) (ms : List ℕ) → Wide no r c (begin (chosen_part choice s) (chosen_at choice s) ms).log

  sit-scope : {within : Acts} {k : ℕ} (ns : List ℕ) → KnowsIn f within (k + 1) → Arms false within → general_part ns < count within → Sit (scope_at ns k within) within (k + 1)
  unfolding part part_at begin_part count
  sit-scope ns knows-none r n = absurd (omega arith)
  sit-scope {k = k} ns (knows_more {a = act own₀ w₀} {l} x y) r n =
      record {
        body = x;
        in_body = λ v m h. strict-wide v (strict-first v (act own₀ w₀) l (k + 1) m h);
        in_fault = chosen-each (λ a j. (ms : List ℕ) → Wide no (more (act own₀ w₀) l) (k + 1) (begin a j ms).log) ns k (more (act own₀ w₀) l)
            (λ i h g. part-wide (knows_more {a = act own₀ w₀} x y) r i h (omega arith));
      }

  -- an outcome of a scope's own
  record Goes (r : Acts) (c : ℕ) (o : Outcome) : Type 0 where
    wide : Wide no r c o.log
    stays : is_leaving o.result ≡ false

  module _ {r : Acts} {c : ℕ} where
    goes-zero : (o : Outcome) → ((j : ℕ) → times j o.log ≡ 0) → is_leaving o.result ≡ false → Goes r c o
    goes-zero o z e = record { wide = wide-zero no r c o.log z; stays = e }

    goes-runs : (o : Order) → Goes r c (runs o)
    unfolding times
    goes-runs o = goes-zero (runs o) (λ j. refl) refl

    goes-where : (g : Order → Outcome) (o : Outcome) → Goes r c o → ((q : Order) → Goes r c (g q)) → Goes r c (where_over g o)
    goes-where g o w h = go o.result refl
      where
        same : (x : Result) → o.result ≡ x → Goes r c (record { result = x; order = o.order; log = o.log })
        same x e = record { wide = w.wide; stays = ap is_leaving (sym e) ∙ w.stays }

        go : (x : Result) → o.result ≡ x → Goes r c (where_over g (record { result = x; order = o.order; log = o.log }))
        go running e = same running e
        go over e = record { wide = wide-append no o.log (g o.order).log w.wide (h o.order).wide; stays = (h o.order).stays }
        go (raising x) e = same (raising x) e
        go leaving e = same leaving e
        go undone e = same undone e
        go (undo_raising x) e = same (undo_raising x) e

    goes-either : (v : Bool) (x y z : Outcome) → z ≡ elim v [ true ↦ x | false ↦ y ] → Goes r c x → Goes r c y → Goes r c z
    goes-either true x y z e g h = subst (λ (q : Outcome). Goes r c q) (sym e) g
    goes-either false x y z e g h = subst (λ (q : Outcome). Goes r c q) (sym e) h

    goes-begun : (o : Order) (b : Begun) → Wide no r c b.log → Goes r c (begun_in o b)
    goes-begun o b w = record { wide = w; stays = decide b.over (λ t. rw t) (λ t. rw t) }

  module _ (s : Scope) (r : Acts) (c : ℕ) (h : Sit s r c) where
    ends-goes : (o : Order) → Goes r c (ends s o)
    unfolding times is_began_of
    ends-goes o = goes-zero (ends s o) (λ j. refl) refl

    list-goes : (l : List ℕ) (o : Order) → Goes r c (undo l s o)
    unfolding undo start_undo times
    list-goes [] o = goes-zero (record { result = over; order = o; log = [] }) (λ j. refl) refl
    list-goes (e ∷ l) o =
        goes-where (undo l s) (start_undo e s o) (let g = goes-begun o (begin_undo s.body s.body_at e o.marks) (h.in_body no _ (undo-strict h.body e o.marks)) in record { wide = g.wide; stays = g.stays }) (λ q. list-goes l q)

    handle-goes : (o : Order) → Goes r c (handle s o)
    unfolding handle
    handle-goes o =
        let o₁ = going s.name handling o in
        let i = choice_of s.name o in
        goes-where (ends s) (begun_in o₁ (begin (chosen_part i s) (chosen_at i s) o₁.marks)) (goes-begun o₁ (begin (chosen_part i s) (chosen_at i s) o₁.marks) (h.in_fault i o₁.marks)) (λ q. ends-goes q)

    undoes-goes : (w : Bool) (o : Order) → Goes r c (undoes w s o)
    unfolding undoes
    undoes-goes true o = let o₁ = going s.name undoing o in goes-where (handle s) (undo (remembered_for s o₁) s o₁) (list-goes (remembered_for s o₁) o₁) (λ q. handle-goes q)
    undoes-goes false o = let o₁ = marking s.name withdrawing o in goes-where (ends s) (undo (remembered_for s o₁) s o₁) (list-goes (remembered_for s o₁) o₁) (λ q. ends-goes q)

    turns-goes : (w : Bool) (o : Order) → Goes r c (turns w s o)
    unfolding turns
    turns-goes w o = goes-either (inner_runs s.body s.body_at o.marks) (runs o) (undoes w s o) (turns w s o) refl (goes-runs o) (undoes-goes w o)

    looks-goes : (o : Order) → Goes r c (looks_again s o)
    unfolding looks_again
    looks-goes o =
        goes-either (eqb (state_of s.name o) faulty) (turns true s o) (elim (eqb (mark_of s.name o) halted) [ true ↦ turns false s o | false ↦ runs o ]) (looks_again s o) refl (turns-goes true o)
        (goes-either (eqb (mark_of s.name o) halted) (turns false s o) (runs o) _ refl (turns-goes false o) (goes-runs o))

    over-goes : (o : Order) → Goes r c (body_over s o)
    unfolding body_over
    over-goes o = goes-either (eqb (mark_of s.name o) active) (runs (marking s.name done o)) (looks_again s o) (body_over s o) refl (goes-runs (marking s.name done o)) (looks-goes o)

    undone-goes : (o : Order) → Goes r c (undo_over s o)
    unfolding undo_over
    undone-goes o =
        goes-either (eqb (state_of s.name o) undoing) (undoes true s o) (elim (eqb (mark_of s.name o) withdrawing) [ true ↦ undoes false s o | false ↦ runs o ]) (undo_over s o) refl (undoes-goes true o)
        (goes-either (eqb (mark_of s.name o) withdrawing) (undoes false s o) (runs o) _ refl (undoes-goes false o) (goes-runs o))

    breaks-goes : (number : ℕ) (o : Order) → Goes r c (breaks number s o)
    unfolding breaks times is_began_of
    breaks-goes number o = goes-zero (breaks number s o) (λ j. refl) refl

    part-goes : (o : Order) → Goes r c (part_over s o)
    unfolding part_over
    part-goes o = goes-either (eqb (state_of s.name o) handling) (ends s o) (runs o) (part_over s o) refl (ends-goes o) (goes-runs o)

    undo-raised-goes : (number : ℕ) (o : Order) → Goes r c (undo_raised number s o)
    unfolding undo_raised
    undo-raised-goes number o = goes-either (eqb (state_of s.name o) undoing || eqb (mark_of s.name o) withdrawing) (breaks number s o) (runs o) (undo_raised number s o) refl (breaks-goes number o) (goes-runs o)

    part-raised-goes : (number : ℕ) (o : Order) → Goes r c (part_raised number s o)
    unfolding part_raised
    part-raised-goes number o = goes-either (eqb (state_of s.name o) handling) (breaks number s o) (runs o) (part_raised number s o) refl (breaks-goes number o) (goes-runs o)

  -- Stopping.
  halt-strict : {a : Act} {k : ℕ} (v : Bool) (x y z : definitions.Stopped) → z ≡ elim v [ true ↦ x | false ↦ y ] → (v ≡ true → Strict no a k x.log) → (v ≡ false → Strict no a k y.log)
      → Strict no a k z.log
  halt-strict {a} {k} true x y z e g h = subst (λ (r : definitions.Stopped). Strict no a k r.log) (sym e) (g refl)
  halt-strict {a} {k} false x y z e g h = subst (λ (r : definitions.Stopped). Strict no a k r.log) (sym e) (h refl)

  also-strict : (a : Act) (l : Acts) (c : ℕ) (m n : List Event) → Strict no a c m → StrictIn no l (c + size a) n → StrictIn no (more a l) c (m ++ n)
  also-strict a l c m n w v =
      let x = strict-first no a l c m w in
      let y = strict-later no a l c n v in
      record {
        holds = holds-in-append no no no (λ i j. omega arith) m n (more a l) c x.holds y.holds;
        even = even-append-zero (more a l) c x.even y.even;
        below = λ j u. let e = times-append j m n in let b = x.below j u in let d = y.below j u in omega arith;
        above = λ j u. let e = times-append j m n in let b = x.above j u in let d = y.above j u in omega arith;
      }
    where
      even-append-zero : (r : Acts) (c : ℕ) → Even m 0 r c → Even n 0 r c → Even (m ++ n) 0 r c
      even-append-zero none c h g = tt
      even-append-zero (more b r) c h g = record { one = let e = times-append c m n in let u = h.one in let v = g.one in omega arith; other = even-append-zero r (c + size b) h.other g.other }

  mutual
    unfolding stop withdraws times is_began_of

    pub stop-strict : {a : Act} {k : ℕ} → Knows f a k → (o : Order) → Strict no a k (stop a k o).log
    stop-strict (knows {own} {within} {k} x n r y) o =
        halt-strict (is_scope own) (elim (is_open (mark_at k o)) [ true ↦ withdraws k (scope_at (numbers_of own) k within) (stop_first within (k + 1) (marked k halted o)) | false ↦ untouched o ]) (stop_all within (k + 1) (marked k idle o)) _ refl
        (λ s. halt-strict (is_open (mark_at k o)) (withdraws k (scope_at (numbers_of own) k within) (stop_first within (k + 1) (marked k halted o))) (untouched o) _ refl
        (λ v. scope_of no own within k _ s (wide-event no (stopped k) (λ j. refl) (wide-append no _ _ (stop-first-wide y (marked k halted o))
        (turns-goes (scope_at (numbers_of own) k within) within (k + 1) (sit-scope (numbers_of own) y (scope-arms own within s r) (scope-general own within s n)) false _).wide)))
        (λ v. strict-zero no (act own within) k [] (λ j. refl)))
        (λ s. strict_of no own within k _ (stop-all-strict y (marked k idle o)))

    pub stop-all-strict : {l : Acts} {c : ℕ} → KnowsIn f l c → (o : Order) → StrictIn no l c (stop_all l c o).log
    stop-all-strict (knows-none {c}) o = in-zero no none c [] (λ j. refl)
    stop-all-strict (knows_more {a} {l} {c} x y) o = also-strict a l c (stop a c o).log (stop_all l (c + size a) (stop a c o).order).log (stop-strict x o) (stop-all-strict y (stop a c o).order)

    stop-first-wide : {l : Acts} {c : ℕ} → KnowsIn f l c → (o : Order) → Wide no l c (stop_first l c o).log
    stop-first-wide (knows-none {c}) o = wide-zero no none c [] (λ j. refl)
    stop-first-wide (knows_more {a} {l} {c} x y) o = strict-wide no (strict-first no a l c (stop a c o).log (stop-strict x o))

  -- A step of a scope's.
  pub record Steps (x : ℕ → ℕ → ℕ) (r : Acts) (c : ℕ) (o : Outcome) : Type 0 where
    pub wide : Wide x r c o.log
    pub leaves : is_leaving o.result ≡ true → (j : ℕ) → times j o.log ≡ 0

  module _ (x : ℕ → ℕ → ℕ) (s : Scope) (r : Acts) (c : ℕ) (h : Sit s r c) where
    faults-goes : (number : ℕ) (o : Order) → Goes r c (faults number s o)
    unfolding faults is_began_of
    faults-goes number o =
        let o₁ = causing s.name number (marking s.name (mark_with (choice_for number s) faulty) o) in
        let q = stop s.body s.body_at o₁ in
        let t = turns-goes s r c h true q.order in
        record { wide = wide-event no (faulted s.name number) (λ j. refl) (wide-append no q.log (turns true s q.order).log (h.in_body no _ (stop-strict h.body o₁)) t.wide); stays = t.stays }

    raised-goes : (number : ℕ) (o : Order) → Goes r c (body_raised number s o)
    unfolding body_raised
    raised-goes number o = goes-either (is_open (mark_of s.name o)) (faults number s o) (looks_again s o) (body_raised number s o) refl (faults-goes number o) (looks-goes s r c h o)

    then-steps : (q : Outcome) (o : Outcome) → Steps x r c q → Goes r c o → Steps x r c (after q.log o)
    then-steps q o w v = record { wide = wide-append x q.log o.log w.wide v.wide; leaves = λ e. absurd (false≢true (sym v.stays ∙ e)) }

    as-steps : (q : Outcome) (y : Result) → (is_leaving y ≡ true → is_leaving q.result ≡ true) → Steps x r c q → Steps x r c (record { result = y; order = q.order; log = q.log })
    as-steps q y e w = record { wide = w.wide; leaves = λ d. w.leaves (e d) }

    pub body-steps : (q : Outcome) → Steps x r c q → Steps x r c (from_body s q)
    unfolding from_body
    body-steps q w = go q.result refl
      where
        go : (y : Result) → q.result ≡ y → Steps x r c (from_body s (record { result = y; order = q.order; log = q.log }))
        go running e = then-steps q (looks_again s q.order) w (looks-goes s r c h q.order)
        go over e = then-steps q (body_over s q.order) w (over-goes s r c h q.order)
        go (raising x) e = then-steps q (body_raised x s q.order) w (raised-goes x q.order)
        go leaving e = as-steps q leaving (λ d. ap is_leaving e) w
        go undone e = then-steps q (undo_over s q.order) w (undone-goes s r c h q.order)
        go (undo_raising x) e = then-steps q (undo_raised x s q.order) w (undo-raised-goes s r c h x q.order)

    pub fault-steps : (q : Outcome) → Steps x r c q → Steps x r c (from_fault s q)
    unfolding from_fault
    fault-steps q w = go q.result refl
      where
        go : (y : Result) → q.result ≡ y → Steps x r c (from_fault s (record { result = y; order = q.order; log = q.log }))
        go running e = as-steps q running (λ d. absurd (false≢true d)) w
        go over e = then-steps q (part_over s q.order) w (part-goes s r c h q.order)
        go (raising x) e = then-steps q (part_raised x s q.order) w (part-raised-goes s r c h x q.order)
        go leaving e = as-steps q leaving (λ d. ap is_leaving e) w
        go undone e = as-steps q running (λ d. absurd (false≢true d)) w
        go (undo_raising x) e = as-steps q running (λ d. absurd (false≢true d)) w

    undo-steps : (q : Outcome) → Steps x r c q → Steps x r c (from_undo q)
    unfolding from_undo
    undo-steps q w = go q.result refl
      where
        go : (y : Result) → q.result ≡ y → Steps x r c (from_undo (record { result = y; order = q.order; log = q.log }))
        go running e = as-steps q running (λ d. absurd (false≢true d)) w
        go over e = as-steps q undone (λ d. absurd (false≢true d)) w
        go (raising x) e = as-steps q (undo_raising x) (λ d. absurd (false≢true d)) w
        go leaving e = as-steps q leaving (λ d. ap is_leaving e) w
        go undone e = as-steps q undone (λ d. absurd (false≢true d)) w
        go (undo_raising x) e = as-steps q (undo_raising x) (λ d. absurd (false≢true d)) w

  steps-either : {x : ℕ → ℕ → ℕ} {r : Acts} {c : ℕ} (v : Bool) (p q z : Outcome) → z ≡ elim v [ true ↦ p | false ↦ q ] → Steps x r c p → Steps x r c q → Steps x r c z
  steps-either {x} {r} {c} true p q z e g h = subst (λ (o : Outcome). Steps x r c o) (sym e) g
  steps-either {x} {r} {c} false p q z e g h = subst (λ (o : Outcome). Steps x r c o) (sym e) h

  -- A step in an activity, and in a list.
  pub record StepsAt (x : ℕ → ℕ → ℕ) (a : Act) (k : ℕ) (o : Outcome) : Type 0 where
    pub strict : Strict x a k o.log
    pub leaves : is_leaving o.result ≡ true → (j : ℕ) → times j o.log ≡ 0

  pub record StepsIn (x : ℕ → ℕ → ℕ) (r : Acts) (c : ℕ) (o : Outcome) : Type 0 where
    pub strict : StrictIn x r c o.log
    pub leaves : is_leaving o.result ≡ true → (j : ℕ) → times j o.log ≡ 0

  module _ (t : ℕ) where
    -- what follows in a sequence
    row_of : (x : ℕ → ℕ → ℕ) (m : List Event) (i : ℕ) (r : Acts) (c : ℕ) → Rows x m 0 r c → Row x m i r c
    row_of x m i none c h = tt
    row_of x m i (more a r) c h = record { one = let e = h.one in omega arith; other = h.other }

    after-in : (own : Own) (w : Acts) (l : Acts) (c : ℕ) (m : List Event) (P : List Event → Type 0) → Ranks P l (c + size (act own w)) m
        → (P m → Row (allow t) m c l (c + size (act own w))) → Ranks (λ m. Rows (allow t) m 0 (more (act own w) l) c) (more (act own w) l) c m
    unfolding Holds size
    after-in own w l c m P z g =
        record {
          holds = record { one = holds-zero no m (act own w) c (record { at = λ j u v. z.below j v }); other = z.holds };
          ranks = record { one = z.below c (omega arith); other = g z.ranks };
          below = λ j u. z.below j (omega arith);
          above = λ j u. z.above j (omega arith);
        }

    pub after-ranks : {l : Acts} {c : ℕ} → KnowsIn f l c → Arms false l → c ≤ t → (ms : List ℕ) → Ranks (λ m. Rows (allow t) m 0 l c) l c (begin_after l c t ms).log
    unfolding begin_after
    after-ranks (knows-none {c}) r h ms = none-ranks _ c tt
    after-ranks (knows_more {a = act own w} {l} {c} x y) r h ms =
        decide (ltb t (c + size (act own w)))
        (λ d. rw (begin_after, d) (after-in own w l c _ _ (turn-starts f y r.1 ms)
        (λ g. rows_row (allow t) _ c l (c + size (act own w)) (rw (le-leb c t h, d) (omega arith)) g (λ i j. omega arith))))
        (λ d. rw (begin_after, d) (after-in own w l c _ _ (after-ranks y r.1 (ltb-false t (c + size (act own w)) d) ms) (λ g. row_of (allow t) _ c l (c + size (act own w)) g)))

    -- nothing begins
    silent : (a : Act) (k : ℕ) (o : Outcome) → ((j : ℕ) → times j o.log ≡ 0) → StepsAt (allow t) a k o
    silent a k o z = record { strict = strict-zero (allow t) a k o.log z; leaves = λ e. z }

    -- goes on, and begins nothing more
    where-at : (a : Act) (k : ℕ) (g : Order → Outcome) (o : Outcome) → StepsAt (allow t) a k o → ((q : Order) (j : ℕ) → times j (g q).log ≡ 0) → ((q : Order) → is_leaving (g q).result ≡ false)
        → StepsAt (allow t) a k (where_over g o)
    where-at a k g o w z n = go o.result refl
      where
        same : (x : Result) → o.result ≡ x → StepsAt (allow t) a k (record { result = x; order = o.order; log = o.log })
        same x e = record { strict = w.strict; leaves = λ d. w.leaves (ap is_leaving e ∙ d) }

        go : (x : Result) → o.result ≡ x → StepsAt (allow t) a k (where_over g (record { result = x; order = o.order; log = o.log }))
        go running e = same running e
        go over e =
            record {
              strict = strict-like (allow t) (o.log ++ (g o.order).log) (λ j. let u = times-append j o.log (g o.order).log in let v = z o.order j in omega arith) w.strict;
              leaves = λ d. absurd (false≢true (sym (n o.order) ∙ d));
            }
        go (raising x) e = same (raising x) e
        go leaving e = same leaving e
        go undone e = same undone e
        go (undo_raising x) e = same (undo_raising x) e

    begun-at : (a : Act) (k : ℕ) (o : Order) (b : Begun) → Strict (allow t) a k b.log → StepsAt (allow t) a k (begun_in o b)
    begun-at a k o b w = record { strict = w; leaves = λ e. absurd (not-leaving b.over e) }
      where
        not-leaving : (v : Bool) → is_leaving (cond v over running) ≡ true → ⊥
        not-leaving true e = false≢true e
        not-leaving false e = false≢true e

    either-at : {a : Act} {k : ℕ} (v : Bool) (p q z : Outcome) → z ≡ elim v [ true ↦ p | false ↦ q ] → (v ≡ true → StepsAt (allow t) a k p) → (v ≡ false → StepsAt (allow t) a k q) → StepsAt (allow t) a k z
    either-at {a} {k} true p q z e g h = subst (λ (o : Outcome). StepsAt (allow t) a k o) (sym e) (g refl)
    either-at {a} {k} false p q z e g h = subst (λ (o : Outcome). StepsAt (allow t) a k o) (sym e) (h refl)

    or_at : (a : Act) (k : ℕ) (o : Order) (g : ℕ → Outcome) (v : Value) → ((n : ℕ) → StepsAt (allow t) a k (g n)) → StepsAt (allow t) a k (or_raises k o g v)
    unfolding times is_began_of
    or_at a k o g (fault x) h = silent a k (raises x k o) (λ j. refl)
    or_at a k o g (value n) h = h n

    itself-at : (own : Own) (within : Acts) (q₀ k : ℕ) (o : Order) → needs own ≤ count within → Arms (is_pick own) within → KnowsIn f within (k + 1)
        → StepsAt (allow t) (act own within) k (itself own within q₀ k o)
    unfolding itself needs least kind times is_began_of closing repeats
    itself-at empty within q₀ k o n r y = silent (act empty within) k (runs o) (λ j. refl)
    itself-at (send a b vs) within q₀ k o n r y =
        by-send (StepsAt (allow t) (act (send a b vs) within) k) a b vs within q₀ k o (silent (act (send a b vs) within) k (finishes k o) (λ j. refl)) (λ x. silent (act (send a b vs) within) k (raises x k o) (λ j. refl))
    itself-at (receive a b vs) within q₀ k o n r y = silent (act (receive a b vs) within) k (finishes k o) (λ j. refl)
    itself-at (setting v e) within q₀ k o n r y = or_at (act (setting v e) within) k o _ (evaluate e o) (λ i. silent (act (setting v e) within) k (finishes k (binding v i o)) (λ j. refl))
    itself-at (raise zero) within q₀ k o n r y = silent (act (raise zero) within) k (raises 0 k o) (λ j. refl)
    itself-at (raise (suc number)) within q₀ k o n r y = silent (act (raise (suc number)) within) k (raises (suc number) k o) (λ j. refl)
    itself-at leave within q₀ k o n r y = silent (act leave within) k (itself leave within q₀ k o) (λ j. refl)
    itself-at (choose e) within q₀ k o n r y =
        or_at (act (choose e) within) k o _ (evaluate e o) (λ z. let o₁ = marked k inside o in
        where-at (act (choose e) within) k (finishes k) (begun_in o₁ (begin_part (cond (is_true z) 0 1) within (k + 1) o₁.marks))
        (begun-at (act (choose e) within) k o₁ (begin_part (cond (is_true z) 0 1) within (k + 1) o₁.marks) (plain_of (allow t) (choose e) within k _ refl refl refl (part-list y r (cond (is_true z) 0 1) (second (is_true z)) o₁.marks))) (λ q j. refl) (λ q. refl))
      where
        second : (b : Bool) → cond b 0 1 < count within
        second true = omega arith
        second false = omega arith
    itself-at (repeat e) within q₀ k o n r y = or_at (act (repeat e) within) k o _ (evaluate e o) (λ z. either-at (is_true z) (repeats k within o) (finishes k o) _ refl (λ d. body) (λ d. silent (act (repeat e) within) k (finishes k o) (λ j. refl)))
      where
        body : StepsAt (allow t) (act (repeat e) within) k (repeats k within o)
        body =
            let o₁ = marked k inside (with_marks (cleared (k + 1) (sizes within) o.marks) o) in
            where-at (act (repeat e) within) k (again k) (begun_in o₁ (begin_part 0 within (k + 1) o₁.marks))
            (begun-at (act (repeat e) within) k o₁ (begin_part 0 within (k + 1) o₁.marks) (plain_of (allow t) (repeat e) within k _ refl refl refl (part-list y r 0 (omega arith) o₁.marks))) (λ q j. refl) (λ q. refl)
    itself-at sequence within q₀ k o n r y = silent (act sequence within) k (runs o) (λ j. refl)
    itself-at flow within q₀ k o n r y = silent (act flow within) k (runs o) (λ j. refl)
    itself-at pick within q₀ k o n r y = silent (act pick within) k (runs o) (λ j. refl)
    itself-at (scope ns v) within q₀ k o n r y = silent (act (scope ns v) within) k (closing v q₀ k (scope_at ns k within) o) (λ j. refl)
    itself-at (arm a b vs) within q₀ k o n r y =
        begun-at (act (arm a b vs) within) k o (begin_part 0 within (k + 1) o.marks) (plain_of (allow t) (arm a b vs) within k _ refl refl refl (part-list y r 0 (omega arith) o.marks))

    -- what an activity other than a sequence or a scope makes of a step within it
    up_at : (own : Own) (within : Acts) (k : ℕ) (o : Outcome) → StepsIn (allow t) within (k + 1) o → StepsAt (allow t) (act own within) k o
    up_at own within k o w = record { strict = strict_of (allow t) own within k o.log w.strict; leaves = w.leaves }

    on-at : (own : Own) (within : Acts) (k v : ℕ) (g : Order → Outcome) (o : Outcome) → StepsIn (allow t) within (k + 1) o
        → ((q : Order) (j : ℕ) → times j (g q).log ≡ 0) → ((q : Order) → is_leaving (g q).result ≡ false) → StepsAt (allow t) (act own within) k (goes_on k v g o)
    unfolding goes_on times
    on-at own within k v g o w z n =
        where-at (act own within) k (λ q. elim (eqb (mark_at k q) v) [ true ↦ g q | false ↦ runs q ]) o (up_at own within k o w) (λ q j. zeros q j (eqb (mark_at k q) v)) (λ q. stays q (eqb (mark_at k q) v))
      where
        zeros : (q : Order) (j : ℕ) (b : Bool) → times j (log-of (elim b [ true ↦ g q | false ↦ runs q ])) ≡ 0
        zeros q j true = z q j
        zeros q j false = refl

        stays : (q : Order) (b : Bool) → is_leaving (result-of (elim b [ true ↦ g q | false ↦ runs q ])) ≡ false
        stays q true = n q
        stays q false = refl

    joins-silent : (k : ℕ) (within : Acts) (q : Order) (j : ℕ) → times j (joins k within q).log ≡ 0
    unfolding joins times
    joins-silent k within q j = go (quiet (k + 1) (sizes within) q.marks)
      where
        go : (b : Bool) → times j (log-of (elim b [ true ↦ finishes k q | false ↦ runs q ])) ≡ 0
        go true = refl
        go false = refl

    joins-stays : (k : ℕ) (within : Acts) (q : Order) → is_leaving (joins k within q).result ≡ false
    unfolding joins
    joins-stays k within q = go (quiet (k + 1) (sizes within) q.marks)
      where
        go : (b : Bool) → is_leaving (result-of (elim b [ true ↦ finishes k q | false ↦ runs q ])) ≡ false
        go true = refl
        go false = refl

    -- a sequence goes on
    follows-at : (within : Acts) (k : ℕ) (o : Outcome) (m : List Event) → StrictIn (allow t) within (k + 1) o.log → Ranks (λ m. Rows (allow t) m 0 within (k + 1)) within (k + 1) m
        → Strict (allow t) (act sequence within) k (o.log ++ m)
    unfolding Holds size kind
    follows-at within k o m w v =
        let n : times k (o.log ++ m) ≡ 0 = let e = times-append k o.log m in let a = w.below k (omega arith) in let b = v.below k (omega arith) in omega arith in
        record {
          holds = record {
            rows = λ e. subst (λ (i : ℕ). Rows (allow t) (o.log ++ m) i within (k + 1)) (sym n)
                (rows_append no (allow t) (allow t) (λ i j. omega arith) o.log m 0 0 within (k + 1) (even-rows no o.log 0 within (k + 1) refl w.even) v.ranks);
            even = λ e. absurd (false≢true e);
            first = λ e. absurd (false≢true e);
            rest = holds-in-append (allow t) no (allow t) (λ i j. omega arith) o.log m within (k + 1) w.holds v.holds;
          };
          below = λ j u. let e = times-append j o.log m in let a = w.below j (omega arith) in let b = v.below j (omega arith) in omega arith;
          above = λ j u. let e = times-append j o.log m in let a = w.above j (omega arith) in let b = v.above j (omega arith) in omega arith;
        }

    next_of : (within : Acts) (k : ℕ) → Order → Outcome
    next_of within k q = where_over (finishes k) (begun_in q (begin_after within (k + 1) t q.marks))

    next-times : (within : Acts) (k : ℕ) (q : Order) (j : ℕ) → times j (next_of within k q).log ≡ times j (begin_after within (k + 1) t q.marks).log
    unfolding next_of times
    next-times within k q j = go (begin_after within (k + 1) t q.marks).over
      where
        b : Begun
        b = begin_after within (k + 1) t q.marks

        go : (v : Bool) → times j (where_over (finishes k) (record { result = cond v over running; order = with_marks b.marks q; log = b.log })).log ≡ times j b.log
        go true = let e = times-append j b.log [] in omega arith
        go false = refl

    next-stays : (within : Acts) (k : ℕ) (q : Order) → is_leaving (next_of within k q).result ≡ false
    unfolding next_of
    next-stays within k q = go (begin_after within (k + 1) t q.marks).over
      where
        b : Begun
        b = begin_after within (k + 1) t q.marks

        go : (v : Bool) → is_leaving (where_over (finishes k) (record { result = cond v over running; order = with_marks b.marks q; log = b.log })).result ≡ false
        go true = refl
        go false = refl

    sequence-at : (within : Acts) (k : ℕ) (o : Outcome) → KnowsIn f within (k + 1) → Arms false within → k + 1 ≤ t → StepsIn (allow t) within (k + 1) o
        → StepsAt (allow t) (act sequence within) k (goes_on k active (next_of within k) o)
    unfolding goes_on times
    sequence-at within k o y r h w = go o.result refl
      where
        same : (x : Result) → o.result ≡ x → StepsAt (allow t) (act sequence within) k (record { result = x; order = o.order; log = o.log })
        same x e = record { strict = strict_of (allow t) sequence within k o.log w.strict; leaves = λ d. w.leaves (ap is_leaving e ∙ d) }

        on : (b : Bool) → StepsAt (allow t) (act sequence within) k (after o.log (elim b [ true ↦ next_of within k o.order | false ↦ runs o.order ]))
        on true =
            record {
              strict = strict-like (allow t) (o.log ++ (next_of within k o.order).log)
                  (λ j. let a = times-append j o.log (next_of within k o.order).log in let b = times-append j o.log (begin_after within (k + 1) t o.order.marks).log in let c = next-times within k o.order j in omega arith)
                  (follows-at within k o (begin_after within (k + 1) t o.order.marks).log w.strict (after-ranks y r h o.order.marks));
              leaves = λ e. absurd (false≢true (sym (next-stays within k o.order) ∙ e));
            }
        on false = record { strict = strict-like (allow t) (o.log ++ []) (λ j. let a = times-append j o.log [] in omega arith) (strict_of (allow t) sequence within k o.log w.strict); leaves = λ e. absurd (false≢true e) }

        go : (x : Result) → o.result ≡ x
            → StepsAt (allow t) (act sequence within) k (where_over (λ q. elim (eqb (mark_at k q) active) [ true ↦ next_of within k q | false ↦ runs q ]) (record { result = x; order = o.order; log = o.log }))
        go running e = same running e
        go over e = on (eqb (mark_at k o.order) active)
        go (raising x) e = same (raising x) e
        go leaving e = same leaving e
        go undone e = same undone e
        go (undo_raising x) e = same (undo_raising x) e

    combines-at : (own : Own) (within : Acts) (k : ℕ) (o : Outcome) → needs own ≤ count within → Arms (is_pick own) within → KnowsIn f within (k + 1) → k + 1 ≤ t
        → StepsIn (allow t) within (k + 1) o → StepsAt (allow t) (act own within) k (combines own within k t o)
    unfolding combines needs kind times next_of in_scope
    combines-at empty within k o n r y h w = up_at empty within k o w
    combines-at (send a b vs) within k o n r y h w = up_at (send a b vs) within k o w
    combines-at (receive a b vs) within k o n r y h w = up_at (receive a b vs) within k o w
    combines-at (setting v e) within k o n r y h w = up_at (setting v e) within k o w
    combines-at (raise zero) within k o n r y h w = up_at (raise zero) within k o w
    combines-at (raise (suc number)) within k o n r y h w = up_at (raise (suc number)) within k o w
    combines-at leave within k o n r y h w = up_at leave within k o w
    combines-at (choose e) within k o n r y h w = on-at (choose e) within k inside (finishes k) o w (λ q j. refl) (λ q. refl)
    combines-at (repeat e) within k o n r y h w = on-at (repeat e) within k inside (again k) o w (λ q j. refl) (λ q. refl)
    combines-at sequence within k o n r y h w = sequence-at within k o y r h w
    combines-at flow within k o n r y h w = on-at flow within k active (joins k within) o w (joins-silent k within) (joins-stays k within)
    combines-at pick within k o n r y h w = on-at pick within k inside (finishes k) o w (λ q j. refl) (λ q. refl)
    combines-at (scope ns u) within k o n r y h w =
        let s = scope_at ns k within in
        let i = sit-scope ns y r (scope-general (scope ns u) within refl n) in
        let v : Steps (allow t) within (k + 1) o = record { wide = strict-wide (allow t) w.strict; leaves = w.leaves } in
        let z : Steps (allow t) within (k + 1) (in_scope ns u k t within o)
        = steps-either (ltb t (part_at 1 within (k + 1))) (elim (goes_through u k o) [ true ↦ o | false ↦ from_body s o ]) (elim (ltb t (part_at (undo_part ns) within (k + 1))) [ true ↦ from_fault s o | false ↦ from_undo o ]) _ refl
        (steps-either (goes_through u k o) o (from_body s o) _ refl v (body-steps (allow t) s within (k + 1) i o v))
        (steps-either (ltb t (part_at (undo_part ns) within (k + 1))) (from_fault s o) (from_undo o) _ refl (fault-steps (allow t) s within (k + 1) i o v) (undo-steps (allow t) s within (k + 1) i o v)) in
        record { strict = scope_of (allow t) (scope ns u) within k _ refl z.wide; leaves = z.leaves }
    combines-at (arm a b vs) within k o n r y h w = up_at (arm a b vs) within k o w

    either-list : {l : Acts} {c : ℕ} (v : Bool) (p q z : Outcome) → z ≡ elim v [ true ↦ p | false ↦ q ] → (v ≡ true → StepsIn (allow t) l c p) → (v ≡ false → StepsIn (allow t) l c q)
        → StepsIn (allow t) l c z
    either-list {l} {c} true p q z e g h = subst (λ (o : Outcome). StepsIn (allow t) l c o) (sym e) (g refl)
    either-list {l} {c} false p q z e g h = subst (λ (o : Outcome). StepsIn (allow t) l c o) (sym e) (h refl)

    -- what acts: the activity itself, or a raise in its place
    performs-at : (actor : Actor) (own : Own) (within : Acts) (q₀ k : ℕ) (o : Order) → needs own ≤ count within → Arms (is_pick own) within → KnowsIn f within (k + 1)
        → StepsAt (allow t) (act own within) k (performs actor own within q₀ k o)
    unfolding performs times is_began_of
    performs-at actor own within q₀ k o n r y =
        either-at (replaces actor (kind own)) (raises conflicting_receive k o) (itself own within q₀ k o) _ refl (λ e. silent (act own within) k (raises conflicting_receive k o) (λ j. refl)) (λ e. itself-at own within q₀ k o n r y)

    mutual
      unfolding step_in times

      pub step-at : (actor : Actor) {a : Act} {k : ℕ} → Knows f a k → (q₀ : ℕ) (o : Order) → k ≤ t → StepsAt (allow t) a k (step_in actor a q₀ k t o)
      step-at actor (knows {own} {within} {k} x n r y) q₀ o h =
          either-at (eqb k t) (performs actor own within q₀ k o) (combines own within k t (step_among actor within (is_scope own) q₀ (k + 1) t (arms own within k t o))) _ refl
          (λ e. performs-at actor own within q₀ k o n r y)
          (λ e. let b : k + 1 ≤ t = let z = eqb-false k t e in omega arith in
          combines-at own within k (step_among actor within (is_scope own) q₀ (k + 1) t (arms own within k t o)) n r y b (among-at actor y (is_scope own) q₀ (arms own within k t o) b))

      pub among-at : (actor : Actor) {l : Acts} {c : ℕ} → KnowsIn f l c → (v : Bool) (q₀ : ℕ) (o : Order) → c ≤ t → StepsIn (allow t) l c (step_among actor l v q₀ c t o)
      among-at actor (knows-none {c}) v q₀ o h = record { strict = in-zero (allow t) none c [] (λ j. refl); leaves = λ e j. refl }
      among-at actor (knows_more {a} {l} {c} x y) v q₀ o h =
          either-list (ltb t (c + size a)) (step_in actor a (cond v c q₀) c t o) (step_among actor l v q₀ (c + size a) t o) _ refl
          (λ e. let z = step-at actor x (cond v c q₀) o h in record { strict = strict-first (allow t) a l c _ z.strict; leaves = z.leaves })
          (λ e. let z = among-at actor y v q₀ o (ltb-false t (c + size a) e) in record { strict = strict-later (allow t) a l c _ z.strict; leaves = z.leaves })

    -- From the root, whose body and fault part are a list.
    abbrev pub whole : Plan → Acts
    whole p = more p.body (more p.fault none)

    module _ (p : Plan) (kb : Knows f p.body 0) (kf : Knows f p.fault (size p.body)) (named : Named f p.fault) where
      sit-root : Sit (root_of p) (whole p) 0
      sit-root =
          record {
            body = kb;
            in_body = λ v m h. strict-wide v (strict-first v p.body (more p.fault none) 0 m h);
            in_fault = root-chosen (λ a j. (ms : List ℕ) → Wide no (whole p) 0 (begin a j ms).log) p
                (λ ms. list-wide p.body (more p.fault none) 0 _ (subst (λ (c : ℕ). InList (more p.fault none) c (begin p.fault (size p.body) ms).log) (omega arith)
                (list-first p.fault none (size p.body) _ (begin-starts f kf named ms))));
          }

      pub root-at : (actor : Actor) (o : Order) → Steps (allow t) (whole p) 0 (step_root actor p t o)
      unfolding step_root
      root-at actor o =
          decide (ltb t (size p.body))
          (λ e. subst (λ (q : Outcome). Steps (allow t) (whole p) 0 q) (sym (first-of (ltb t (size p.body)) in_body in_fault (step_root actor p t o) refl e))
          (body-steps (allow t) (root_of p) (whole p) 0 sit-root (step_in actor p.body 0 0 t o) (let z = step-at actor kb 0 o (omega arith) in record { wide = sit-root.in_body (allow t) _ z.strict; leaves = z.leaves })))
          (λ e. subst (λ (q : Outcome). Steps (allow t) (whole p) 0 q) (sym (second-of (ltb t (size p.body)) in_body in_fault (step_root actor p t o) refl e))
          (fault-steps (allow t) (root_of p) (whole p) 0 sit-root (step_in actor p.fault (size p.body) (size p.body) t o)
          (let z = step-at actor kf (size p.body) o (ltb-false t (size p.body) e) in
          record {
            wide = strict-wide (allow t) (strict-later (allow t) p.body (more p.fault none) 0 _ (subst (λ (c : ℕ). StrictIn (allow t) (more p.fault none) c (step_in actor p.fault (size p.body) (size p.body) t o).log) (omega arith) (strict-first (allow t) p.fault none (size p.body) _ z.strict)));
            leaves = z.leaves;
          })))
        where
          in_body : Outcome
          in_body = from_body (root_of p) (step_in actor p.body 0 0 t o)

          in_fault : Outcome
          in_fault = from_fault (root_of p) (step_in actor p.fault (size p.body) (size p.body) t o)
