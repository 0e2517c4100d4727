-- What a step logs as begun is marked afterwards, where it lasts; and what it does not is set only where it was, or as its own step has it. Assumes nothing.
use Prim.Native.Nat.{ℕ, zero, suc, ◌+◌, ◌≤◌, ◌<◌}
use native.Mathlib.Omega.{arith}
use mathlib.Core.Path.{◌≡◌, refl, sym, ap, subst, ◌∙◌}
use mathlib.Core.Bool.{Bool, true, false, cond, ◌&&◌, ◌||◌, false≢true, and-false}
use mathlib.Core.List.{List, ◌++◌}
use lib.ListN.{length, get_or, set, length-set}
use lib.Seq.{get_or-set_same}
use lib.Dec.{eqb, ltb}
use borrow.Author.Tests.{eqb-true, eqb-false, eq-eqb, ne_eqb, ltb-true, ltb-false, lt-ltb, le-ltb}
use Rattle.plan.specs.Tree.{Own, empty, send, receive, set as setting, raise, leave, choose, repeat, sequence, flow, pick, scope, arm, kind, is_arm, is_pick, is_scope, Act, act, Acts, none, more, Plan, size, sizes, count, undo_part, general_part}
use Rattle.order.specs.declared.Order.{Order}
use Rattle.order.specs.declared.End.{End}
use Rattle.order.specs.declared.End.TheVariants.{None, Well, Handled, Failed, Left}
use Rattle.order.specs.Lists.{some}
use Rattle.order.specs.State.{is_live, no_order, idle, active, inside, done, undoing, handling, withdrawing, with_marks, mark_at, marked, mark_of, marking, binding, state_of}
use Rattle.order.specs.Event.{Event}
use Rattle.order.specs.Expression.{conflicting_receive, Value, fault, value, evaluate, is_true}
use Rattle.order.specs.Begin.{Begun, begin, begin_after, part, part_at, begin_part, cleared, quiet}
use Rattle.order.specs.declared.Way.{Way as Result}
use Rattle.order.specs.declared.Way.TheVariants.{Running as running, Over as over, Raising as raising, Leaving as leaving, Undone as undone, UndoRaising as undo_raising}
use Rattle.order.specs.Scope.{Outcome, root_of, runs, after, begun_in, where_over, Scope, scope_at, is_open, forgetting, closing, turns, stop, faults, breaks, looks_again, body_over, body_raised, undo_over, undo_raised, from_body, part_over, part_raised, from_fault, from_undo, goes_through}
use Rattle.order.specs.Acting.{finishes, raises, leaves, or_raises, enters, again, repeats, itself, is_part, arms, goes_on, joins, in_scope, combines, step_in, step_among, step_root, end_of, moved_to, Actor, replaces, performs, acted}
use Rattle.machine.specs.Fit.{awaits}
use Rattle.undoing.specs.Orderly.{is_began_of}
use Rattle.undoing.specs.Begun.{lasts, acts, owns_in, owns_among, owns_at, has_began, goes_in, is_scope_kind}
use Rattle.undoing.proofs.Causing.{caused, chosen_mark, faults-is}
use Rattle.undoing.proofs.Parts.{both, decide, some-append}
use Rattle.undoing.proofs.Choices.{root-chosen}
use Rattle.undoing.proofs.Seats.{marking-length}
use Rattle.undoing.proofs.Breaking.{cleared-kept}
use Rattle.undoing.proofs.Orders.{least}
use Rattle.undoing.proofs.Places.{first-of, second-of}
use Rattle.undoing.proofs.Waiting.{Waits, waits-itself, waits-within, WaitsIn, waits-first, waits-later}
use Rattle.undoing.proofs.Roots.{Awaited, in-body, in-fault}
use Rattle.undoing.proofs.Truly.{scope-kind, or_case, began-in, began-neither, Up, Stay, stay-up, stay_then, stay-other, not-cleared, stay-idle, stay-cleared, shifts, Arms, needs, Knows, knows, KnowsIn, knows-none, knows_more, Began}
use Rattle.undoing.proofs.Lasting.{is_raising, part-began, after-began, owned-other, stay-marking, Goes, goes-runs, goes-where, goes-begun, goes-marked, goes-either, finishes-goes, Within, turns-goes, looks-goes, over-goes, undone-goes, part-goes, scope-needs, scope-within, stop_halts}
use Rattle.undoing.proofs.Sends.{by-send}

-- a repeat and no other of these that are no scopes
repeat-shifts : (n : ℕ) → is_scope_kind n ≡ false → shifts n ≡ true → eqb n 7 ≡ true
repeat-shifts n z s = or_case (eqb n 7) (is_scope_kind n) s (λ e. e) (λ e. absurd (false≢true (sym z ∙ e)))

still-shifts : (n : ℕ) → is_scope_kind n ≡ false → eqb n 7 ≡ false → shifts n ≡ false
still-shifts n z s = rw (s, z)

-- the kind of a pick, and of an arm
pub pick-kind : (own : Own) → is_pick own ≡ true → kind own ≡ 10
unfolding kind
pick-kind empty e = absurd (false≢true e)
pick-kind (send x y vs) e = absurd (false≢true e)
pick-kind (receive x y vs) e = absurd (false≢true e)
pick-kind (setting v x) e = absurd (false≢true e)
pick-kind (raise zero) e = absurd (false≢true e)
pick-kind (raise (suc number)) e = absurd (false≢true e)
pick-kind leave e = absurd (false≢true e)
pick-kind (choose x) e = absurd (false≢true e)
pick-kind (repeat x) e = absurd (false≢true e)
pick-kind sequence e = absurd (false≢true e)
pick-kind flow e = absurd (false≢true e)
pick-kind pick e = refl
pick-kind (scope ns v) e = absurd (false≢true e)
pick-kind (arm x y vs) e = absurd (false≢true e)

pub arm-kind : (own : Own) → is_arm own ≡ true → kind own ≡ 255
unfolding kind
arm-kind empty e = absurd (false≢true e)
arm-kind (send x y vs) e = absurd (false≢true e)
arm-kind (receive x y vs) e = absurd (false≢true e)
arm-kind (setting v x) e = absurd (false≢true e)
arm-kind (raise zero) e = absurd (false≢true e)
arm-kind (raise (suc number)) e = absurd (false≢true e)
arm-kind leave e = absurd (false≢true e)
arm-kind (choose x) e = absurd (false≢true e)
arm-kind (repeat x) e = absurd (false≢true e)
arm-kind sequence e = absurd (false≢true e)
arm-kind flow e = absurd (false≢true e)
arm-kind pick e = absurd (false≢true e)
arm-kind (scope ns v) e = absurd (false≢true e)
arm-kind (arm x y vs) e = refl

-- with more begun
goes-in-more : (n y : ℕ) (a b : Bool) → (a ≡ true → b ≡ true) → goes_in n y a ≡ true → goes_in n y b ≡ true
unfolding goes_in
goes-in-more n y a true h g = decide (eqb n 7) (λ e. rw e) (λ e. rw e (rw e at g))
goes-in-more n y true false h g = absurd (false≢true (h refl))
goes-in-more n y false false h g = g

began-more : (j : ℕ) (l m : List Event) → has_began j l ≡ true → has_began j (l ++ m) ≡ true
began-more j l m h = some-append (is_began_of (eqb j)) l m ∙ rw h

-- no arm begins silently
pub begins-said : (a : Act) (l : Acts) (k : ℕ) (ms : List ℕ) → Arms false (more a l) → has_began k (begin a k ms).log ≡ true
unfolding begin kind some is_began_of
begins-said (act empty within) l k ms h = rw (eq-eqb k k refl)
begins-said (act (send p o vs) within) l k ms h = rw (eq-eqb k k refl)
begins-said (act (receive p o vs) within) l k ms h = rw (eq-eqb k k refl)
begins-said (act (setting v e) within) l k ms h = rw (eq-eqb k k refl)
begins-said (act (raise zero) within) l k ms h = rw (eq-eqb k k refl)
begins-said (act (raise (suc number)) within) l k ms h = rw (eq-eqb k k refl)
begins-said (act leave within) l k ms h = rw (eq-eqb k k refl)
begins-said (act (choose e) within) l k ms h = rw (eq-eqb k k refl)
begins-said (act (repeat e) within) l k ms h = rw (eq-eqb k k refl)
begins-said (act sequence within) l k ms h = rw (eq-eqb k k refl)
begins-said (act flow within) l k ms h = rw (eq-eqb k k refl)
begins-said (act pick within) l k ms h = rw (eq-eqb k k refl)
begins-said (act (scope ns v) within) l k ms h = rw (eq-eqb k k refl)
begins-said (act (arm p o vs) within) l k ms h = absurd (false≢true (sym h.0))

first_said : (l : Acts) (c : ℕ) (ms : List ℕ) → Arms false l → 1 ≤ count l → has_began c (begin_part 0 l c ms).log ≡ true
unfolding begin_part part part_at count
first_said none c ms h n = absurd (omega arith)
first_said (more a l) c ms h n = begins-said a l c ms h

-- Whose step it is.
pub part-from : (l : Acts) (c t : ℕ) → is_part l c t ≡ true → c ≤ t
unfolding is_part
part-from none c t h = absurd (false≢true h)
part-from (more a l) c t h =
    or_case (eqb c t) (is_part l (c + size a) t) h (λ e. let z = eqb-true c t e in omega arith) (λ e. let z = part-from l (c + size a) t e in omega arith)

module _ (t j : ℕ) where
  pub owns-itself : (own : Own) (within : Acts) (k : ℕ) → k ≡ t → owns_in (act own within) k t j ≡ (eqb k j && acts (kind own))
  unfolding owns_in
  owns-itself own within k e =
      first-of (eqb k t) (eqb k j && acts (kind own)) (elim (is_pick own && is_part within (k + 1) t) [ true ↦ eqb k j | false ↦ owns_among within (k + 1) t j ]) (owns_in (act own within) k t j) refl (eq-eqb k t e)

  owns-else : (own : Own) (within : Acts) (k : ℕ) → (k ≡ t → ⊥)
      → owns_in (act own within) k t j ≡ elim (is_pick own && is_part within (k + 1) t) [ true ↦ eqb k j | false ↦ owns_among within (k + 1) t j ]
  unfolding owns_in
  owns-else own within k e =
      second-of (eqb k t) (eqb k j && acts (kind own)) (elim (is_pick own && is_part within (k + 1) t) [ true ↦ eqb k j | false ↦ owns_among within (k + 1) t j ]) (owns_in (act own within) k t j) refl (ne_eqb k t e)

  owns-arm : (own : Own) (within : Acts) (k : ℕ) → (k ≡ t → ⊥) → (is_pick own && is_part within (k + 1) t) ≡ true
      → owns_in (act own within) k t j ≡ eqb k j
  owns-arm own within k e h = owns-else own within k e ∙ first-of (is_pick own && is_part within (k + 1) t) (eqb k j) (owns_among within (k + 1) t j) _ refl h

  pub owns-within : (own : Own) (within : Acts) (k : ℕ) → (k ≡ t → ⊥) → (is_pick own && is_part within (k + 1) t) ≡ false
      → owns_in (act own within) k t j ≡ owns_among within (k + 1) t j
  owns-within own within k e h = owns-else own within k e ∙ second-of (is_pick own && is_part within (k + 1) t) (eqb k j) (owns_among within (k + 1) t j) _ refl h

  pub owns-first : (a : Act) (l : Acts) (c : ℕ) → ltb t (c + size a) ≡ true → owns_among (more a l) c t j ≡ owns_in a c t j
  unfolding owns_in
  owns-first a l c h = first-of (ltb t (c + size a)) (owns_in a c t j) (owns_among l (c + size a) t j) (owns_among (more a l) c t j) refl h

  pub owns-later : (a : Act) (l : Acts) (c : ℕ) → ltb t (c + size a) ≡ false → owns_among (more a l) c t j ≡ owns_among l (c + size a) t j
  unfolding owns_in
  owns-later a l c h = second-of (ltb t (c + size a)) (owns_in a c t j) (owns_among l (c + size a) t j) (owns_among (more a l) c t j) refl h

  -- of its numbers
  mutual
    unfolding owns_in

    owns-from : (a : Act) (k : ℕ) → owns_in a k t j ≡ true → k ≤ j
    owns-from (act own within) k h =
        decide (eqb k t)
        (λ e. both (eqb k j) (acts (kind own)) (sym (owns-itself own within k (eqb-true k t e)) ∙ h) (λ x y. let z = eqb-true k j x in omega arith))
        (λ e. decide (is_pick own && is_part within (k + 1) t)
        (λ d. let z = eqb-true k j (sym (owns-arm own within k (eqb-false k t e) d) ∙ h) in omega arith)
        (λ d. let z = owns-in-from within (k + 1) (sym (owns-within own within k (eqb-false k t e) d) ∙ h) in omega arith))

    owns-in-from : (l : Acts) (c : ℕ) → owns_among l c t j ≡ true → c ≤ j
    owns-in-from none c h = absurd (false≢true h)
    owns-in-from (more a l) c h =
        decide (ltb t (c + size a)) (λ e. owns-from a c (sym (owns-first a l c e) ∙ h)) (λ e. let z = owns-in-from l (c + size a) (sym (owns-later a l c e) ∙ h) in omega arith)

  -- an arm's step is none of an arm
  arm-acts : (own : Own) → is_arm own ≡ true → acts (kind own) ≡ false
  unfolding acts kind
  arm-acts own h = rw (arm-kind own h)

  arm-owns : (l : Acts) (c : ℕ) → Arms true l → is_part l c t ≡ true → owns_among l c t j ≡ false
  unfolding is_part size
  arm-owns none c r h = absurd (false≢true h)
  arm-owns (more (act own within) l) c r h =
      decide (ltb t (c + (1 + sizes within)))
      (λ e. let y = ltb-true t (c + (1 + sizes within)) e in
      or_case (eqb c t) (is_part l (c + (1 + sizes within)) t) h
      (λ d. owns-first (act own within) l c e ∙ (owns-itself own within c (eqb-true c t d) ∙ rw (arm-acts own r.0, and-false)))
      (λ d. let z = part-from l (c + (1 + sizes within)) t d in absurd (omega arith)))
      (λ e. let y = ltb-false t (c + (1 + sizes within)) e in
      or_case (eqb c t) (is_part l (c + (1 + sizes within)) t) h
      (λ d. let z = eqb-true c t d in absurd (omega arith))
      (λ d. owns-later (act own within) l c e ∙ arm-owns l (c + (1 + sizes within)) r.1 d))

module _ (f : ℕ → ℕ) where
  -- What a scope makes of a fault: what it logs stands from b on and is marked, where no fault came out; and what is no scope is set only where it was.
  record Falls (b : ℕ) (o : Order) (r : Outcome) : Type 0 where
    truly : (j : ℕ) → lasts (f j) ≡ true → has_began j r.log ≡ true → Up r.order.marks j
    range : (j : ℕ) → has_began j r.log ≡ true → b ≤ j
    stays : (j : ℕ) → is_scope_kind (f j) ≡ false → has_began j r.log ≡ false → Stay o.marks r.order.marks j
    long : length r.order.marks ≡ length o.marks
    quits : is_raising r.result ≡ true → (j : ℕ) → has_began j r.log ≡ false

  module _ (s : Scope) (b e : ℕ) (h : Within f s b e) where
    goes-falls : {o : Order} {r : Outcome} → Goes f b e o r → Falls b o r
    goes-falls w =
        record {
          truly = w.truly;
          range = λ j z. (w.range j z).0;
          stays = λ j z n. w.stays j (λ d. absurd (owned-other f s.name b j h.name z d)) n;
          long = w.long;
          quits = λ q. absurd (false≢true (sym w.calm ∙ q));
        }

    falls-either : {o : Order} (v : Bool) (x y z : Outcome) → z ≡ elim v [ true ↦ x | false ↦ y ] → Falls b o x → Falls b o y → Falls b o z
    falls-either {o} true x y z d w g = subst (λ (r : Outcome). Falls b o r) (sym d) w
    falls-either {o} false x y z d w g = subst (λ (r : Outcome). Falls b o r) (sym d) g

    faults-falls : (number : ℕ) (o : Order) → e ≤ length o.marks → Falls b o (faults number s o)
    unfolding some is_began_of
    faults-falls number o m =
        let o₁ = caused s.name number (marking s.name (chosen_mark number s) o) in
        let n = marking-length s.name (chosen_mark number s) o in
        let w = stop_halts f h.body o₁ (omega (arith, h.body_to)) in
        let r = stop s.body s.body_at o₁ in
        let v = turns-goes f s b e h true r.order (omega (arith, w.long)) in
        subst (λ (z : Outcome). Falls b o z) (sym (faults-is number s o)) (record {
          truly = λ j y z. began-in j r.log (turns true s r.order).log z (λ q. v.grows j y (λ d. let g = w.range j q in omega (arith, h.body_from)) (w.truly j y q)) (λ q. v.truly j y q);
          range = λ j z. began-in j r.log (turns true s r.order).log z (λ q. let g = w.range j q in omega (arith, h.body_from)) (λ q. (v.range j q).0);
          stays = λ j z y.
              let q = began-neither j r.log (turns true s r.order).log y in
              stay_then (stay-marking f s.name b (chosen_mark number s) o j h.name z)
              (stay_then (w.stays j z q.0) (v.stays j (λ d. absurd (owned-other f s.name b j h.name z d)) q.1));
          long = v.long ∙ (w.long ∙ n);
          quits = λ q. absurd (false≢true (sym v.calm ∙ q));
        })

    breaks-falls : (number : ℕ) (o : Order) → Falls b o (breaks number s o)
    unfolding breaks forgetting some is_began_of
    breaks-falls number o =
        record {
          truly = λ j x y. absurd (false≢true y);
          range = λ j y. absurd (false≢true y);
          stays = λ j z y. stay_then (stay-marking f s.name b idle o j h.name z) (stay-cleared s.count s.first (marking s.name idle o).marks j);
          long = (cleared-kept s.count s.first (marking s.name idle o).marks).many ∙ marking-length s.name idle o;
          quits = λ q j. refl;
        }

    raised-falls : (number : ℕ) (o : Order) → e ≤ length o.marks → Falls b o (body_raised number s o)
    unfolding body_raised
    raised-falls number o m = falls-either (is_open (mark_of s.name o)) (faults number s o) (looks_again s o) (body_raised number s o) refl (faults-falls number o m) (goes-falls (looks-goes f s b e h o m))

    undo-raised-falls : (number : ℕ) (o : Order) → Falls b o (undo_raised number s o)
    unfolding undo_raised
    undo-raised-falls number o =
        falls-either (eqb (state_of s.name o) undoing || eqb (mark_of s.name o) withdrawing) (breaks number s o) (runs o) (undo_raised number s o) refl (breaks-falls number o) (goes-falls (goes-runs f b e o))

    part-raised-falls : (number : ℕ) (o : Order) → Falls b o (part_raised number s o)
    unfolding part_raised
    part-raised-falls number o = falls-either (eqb (state_of s.name o) handling) (breaks number s o) (runs o) (part_raised number s o) refl (breaks-falls number o) (goes-falls (goes-runs f b e o))

  -- Activities other than scopes.
  pub again-goes : (k e : ℕ) (o : Order) → eqb (f k) 7 ≡ true → Goes f (k + 1) e o (again k o)
  again-goes k e o q = goes-marked f k active o (again k o) refl (rw q) (goes-runs f (k + 1) e (marked k active o))

  pub joins-goes : (k e : ℕ) (within : Acts) (o : Order) → Goes f (k + 1) e o (joins k within o)
  unfolding joins
  joins-goes k e within o = goes-either f (quiet (k + 1) (sizes within) o.marks) (finishes k o) (runs o) (joins k within o) refl (finishes-goes f k e o) (goes-runs f (k + 1) e o)

  pub follows-goes : {within : Acts} (k t : ℕ) (o : Order) → KnowsIn f within (k + 1) → k + 1 + sizes within ≤ length o.marks
      → Goes f (k + 1) (k + 1 + sizes within) o (where_over (finishes k) (begun_in o (begin_after within (k + 1) t o.marks)))
  follows-goes {within} k t o y m =
      goes-where f (finishes k) (begun_in o (begin_after within (k + 1) t o.marks)) (goes-begun f o (begin_after within (k + 1) t o.marks) (after-began f y t o.marks m) (omega arith) (omega arith))
      (λ o₁ d. finishes-goes f k _ o₁)

  -- what goes on keeps what began
  where-began : (j : ℕ) (x : Order → Outcome) (r : Outcome) → has_began j r.log ≡ true → has_began j (where_over x r).log ≡ true
  where-began j x r h = go r.result
    where
      go : (y : Result) → has_began j (where_over x (record { result = y; order = r.order; log = r.log })).log ≡ true
      go running = h
      go over = began-more j r.log (x r.order).log h
      go (raising x) = h
      go leaving = h
      go undone = h
      go (undo_raising x) = h

  -- a choose that is set after its step is inside
  entered : {n : ℕ} (k : ℕ) (o : Order) (b : Begun) → k < length o.marks → Began f (k + 1) n (set o.marks k inside) b
      → Up (enters k o b).order.marks k → get_or (enters k o b).order.marks k 0 ≡ inside
  entered k o b l w = go b.over
    where
      go : (v : Bool)
          → Up (where_over (finishes k) (record { result = cond v over running; order = with_marks b.marks (marked k inside o); log = b.log })).order.marks k
          → get_or (where_over (finishes k) (record { result = cond v over running; order = with_marks b.marks (marked k inside o); log = b.log })).order.marks k 0 ≡ inside
      go true u = absurd (not-cleared b.marks k u)
      go false u = (w.stays k (decide (has_began k b.log) (λ t. let z = w.range k t in absurd (omega arith)) (λ t. t))).same u ∙ get_or-set_same o.marks k inside 0 l

  -- A step, which is that of those that g tells: what it logs stands from b on and is marked, and a fault that came out of it began nothing. What is no scope
  -- and is not logged: the step not being its own, it is set only where it was, and as it was unless it is a repeat; else it goes in.
  pub record Steps (g : ℕ → Bool) (b : ℕ) (o : Order) (r : Outcome) : Type 0 where
    pub truly : (j : ℕ) → lasts (f j) ≡ true → has_began j r.log ≡ true → Up r.order.marks j
    pub range : (j : ℕ) → has_began j r.log ≡ true → b ≤ j
    pub keeps : (j : ℕ) → is_scope_kind (f j) ≡ false → g j ≡ false → has_began j r.log ≡ false → Up r.order.marks j
        → Up o.marks j × (eqb (f j) 7 ≡ false → get_or r.order.marks j 0 ≡ get_or o.marks j 0)
    pub its : (j : ℕ) → is_scope_kind (f j) ≡ false → g j ≡ true → has_began j r.log ≡ false → Up r.order.marks j
        → goes_in (f j) (get_or r.order.marks j 0) (has_began (j + 1) r.log) ≡ true
    pub long : length r.order.marks ≡ length o.marks
    pub quits : is_raising r.result ≡ true → (j : ℕ) → has_began j r.log ≡ false

  module _ (g : ℕ → Bool) where
    steps-lower : {b c : ℕ} {o : Order} {r : Outcome} → c ≤ b → Steps g b o r → Steps g c o r
    steps-lower h w = record { truly = w.truly; range = λ j z. let q = w.range j z in omega arith; keeps = w.keeps; its = w.its; long = w.long; quits = w.quits }

    -- the same step by another name
    steps-owned : {b : ℕ} {o : Order} {r : Outcome} (g₁ : ℕ → Bool) → ((j : ℕ) → g₁ j ≡ g j) → Steps g b o r → Steps g₁ b o r
    steps-owned g₁ h w =
        record { truly = w.truly; range = w.range; keeps = λ j z y. w.keeps j z (sym (h j) ∙ y); its = λ j z y. w.its j z (sym (h j) ∙ y); long = w.long; quits = w.quits }

    -- from other marks that are the same
    pub steps-from : {b : ℕ} {r : Outcome} (o o₁ : Order) → o.marks ≡ o₁.marks → Steps g b o r → Steps g b o₁ r
    steps-from {r = r} o o₁ d w =
        record {
          truly = w.truly;
          range = w.range;
          keeps = λ j z y n u. subst (λ (ms : List ℕ). Up ms j × (eqb (f j) 7 ≡ false → get_or r.order.marks j 0 ≡ get_or ms j 0)) d (w.keeps j z y n u);
          its = w.its;
          long = w.long ∙ ap length d;
          quits = w.quits;
        }

    -- the same outcome by its result
    steps-as : {b : ℕ} {o : Order} (r : Outcome) (x : Result) → (is_raising x ≡ true → is_raising r.result ≡ true) → Steps g b o r
        → Steps g b o (record { result = x; order = r.order; log = r.log })
    steps-as r x h w = record { truly = w.truly; range = w.range; keeps = w.keeps; its = w.its; long = w.long; quits = λ q. w.quits (h q) }

    steps-either : {b : ℕ} {o : Order} (v : Bool) (x y z : Outcome) → z ≡ elim v [ true ↦ x | false ↦ y ] → Steps g b o x → Steps g b o y → Steps g b o z
    steps-either {b} {o} true x y z d w q = subst (λ (r : Outcome). Steps g b o r) (sym d) w
    steps-either {b} {o} false x y z d w q = subst (λ (r : Outcome). Steps g b o r) (sym d) q

    -- what stays after the step
    keeps_then : {b : ℕ} {o : Order} {r : Outcome} (l : List Event) (o₁ : Order) (j : ℕ) → Steps g b o r → is_scope_kind (f j) ≡ false → g j ≡ false
        → has_began j (r.log ++ l) ≡ false
        → Stay r.order.marks o₁.marks j → Up o₁.marks j → Up o.marks j × (eqb (f j) 7 ≡ false → get_or o₁.marks j 0 ≡ get_or o.marks j 0)
    keeps_then {r = r} l o₁ j w z y n s u = let k = w.keeps j z y (began-neither j r.log l n).0 (stay-up s u) in (k.0, λ q. s.same u ∙ k.1 q)

    its-then : {b : ℕ} {o : Order} {r : Outcome} (l : List Event) (o₁ : Order) (j : ℕ) → Steps g b o r → is_scope_kind (f j) ≡ false → g j ≡ true
        → has_began j (r.log ++ l) ≡ false
        → Stay r.order.marks o₁.marks j → Up o₁.marks j → goes_in (f j) (get_or o₁.marks j 0) (has_began (j + 1) (r.log ++ l)) ≡ true
    its-then {r = r} l o₁ j w z y n s u =
        goes-in-more (f j) (get_or o₁.marks j 0) (has_began (j + 1) r.log) (has_began (j + 1) (r.log ++ l)) (began-more (j + 1) r.log l)
        (subst (λ (m : ℕ). goes_in (f j) m (has_began (j + 1) r.log) ≡ true) (sym (s.same u)) (w.its j z y (began-neither j r.log l n).0 (stay-up s u)))

    -- What follows in the same step; the step is not that of a repeat before b, which was set if it is set again.
    abbrev Free : (b : ℕ) → (r x : Outcome) → Type 0
    Free b r x = (j : ℕ) → j + 1 ≡ b → is_scope_kind (f j) ≡ false → shifts (f j) ≡ true → (g j ≡ false) × (Up x.order.marks j → Up r.order.marks j)

    shift-case : {P : Type 0} (b j : ℕ) → ((j + 1 ≡ b → shifts (f j) ≡ false) → P) → (j + 1 ≡ b → shifts (f j) ≡ true → P) → P
    shift-case b j h k = decide (shifts (f j)) (λ t. decide (eqb (j + 1) b) (λ e. k (eqb-true (j + 1) b e) t) (λ e. h (λ d. absurd (eqb-false (j + 1) b e d)))) (λ t. h (λ d. t))

    steps-after : {b e : ℕ} (o : Order) (r x : Outcome) → Steps g b o r → Goes f b e r.order x → Free b r x → Steps g b o (after r.log x)
    steps-after {b} o r x w v h =
        record {
          truly = λ j y z. began-in j r.log x.log z (λ q. v.grows j y (λ d. let n = w.range j q in omega arith) (w.truly j y q)) (λ q. v.truly j y q);
          range = λ j z. began-in j r.log x.log z (λ q. w.range j q) (λ q. (v.range j q).0);
          keeps = λ j z y n u.
              shift-case b j
              (λ q. keeps_then x.log x.order j w z y n (v.stays j q (began-neither j r.log x.log n).1) u)
              (λ d t. ((w.keeps j z y (began-neither j r.log x.log n).0 ((h j d z t).1 u)).0, λ q. absurd (false≢true (sym q ∙ repeat-shifts (f j) z t))));
          its = λ j z y n u.
              shift-case b j
              (λ q. its-then x.log x.order j w z y n (v.stays j q (began-neither j r.log x.log n).1) u)
              (λ d t. absurd (false≢true (sym (h j d z t).0 ∙ y)));
          long = v.long ∙ w.long;
          quits = λ q. absurd (false≢true (sym v.calm ∙ q));
        }

    -- after a fault that came out of what began nothing
    steps-fall : {b : ℕ} (o : Order) (r x : Outcome) → Steps g b o r → is_raising r.result ≡ true → Falls b r.order x → Steps g b o (after r.log x)
    steps-fall o r x w q v =
        record {
          truly = λ j y z. began-in j r.log x.log z (λ d. absurd (false≢true (sym (w.quits q j) ∙ d))) (λ d. v.truly j y d);
          range = λ j z. began-in j r.log x.log z (λ d. absurd (false≢true (sym (w.quits q j) ∙ d))) (λ d. v.range j d);
          keeps = λ j z y n u. keeps_then x.log x.order j w z y n (v.stays j z (began-neither j r.log x.log n).1) u;
          its = λ j z y n u. its-then x.log x.order j w z y n (v.stays j z (began-neither j r.log x.log n).1) u;
          long = v.long ∙ w.long;
          quits = λ d j. some-append (is_began_of (eqb j)) r.log x.log ∙ rw (w.quits q j, v.quits d j);
        }

    module _ (s : Scope) (b e : ℕ) (h : Within f s b e) where
      -- a scope's own mark is none of these
      scope-free : (r x : Outcome) → Free b r x
      scope-free r x j d z t = absurd (owned-other f s.name b j h.name z d)

      body-steps : (o : Order) (r : Outcome) → e ≤ length o.marks → Steps g b o r → Steps g b o (from_body s r)
      unfolding from_body
      body-steps o r m w = go r.result refl
        where
          l : e ≤ length r.order.marks
          l = omega (arith, w.long)

          follows : (x : Outcome) → Goes f b e r.order x → Steps g b o (after r.log x)
          follows x v = steps-after o r x w v (scope-free r x)

          go : (x : Result) → r.result ≡ x → Steps g b o (from_body s (record { result = x; order = r.order; log = r.log }))
          go running d = follows (looks_again s r.order) (looks-goes f s b e h r.order l)
          go over d = follows (body_over s r.order) (over-goes f s b e h r.order l)
          go (raising x) d = steps-fall o r (body_raised x s r.order) w (ap is_raising d) (raised-falls s b e h x r.order l)
          go leaving d = steps-as r leaving (λ q. ap is_raising d ∙ q) w
          go undone d = follows (undo_over s r.order) (undone-goes f s b e h r.order l)
          go (undo_raising x) d = steps-fall o r (undo_raised x s r.order) w (ap is_raising d) (undo-raised-falls s b e h x r.order)

      fault-steps : (o : Order) (r : Outcome) → Steps g b o r → Steps g b o (from_fault s r)
      unfolding from_fault
      fault-steps o r w = go r.result refl
        where
          passes : (y : Result) → is_raising y ≡ false → Steps g b o (record { result = y; order = r.order; log = r.log })
          passes y d = steps-as r y (λ q. absurd (false≢true (sym d ∙ q))) w

          go : (x : Result) → r.result ≡ x → Steps g b o (from_fault s (record { result = x; order = r.order; log = r.log }))
          go running d = passes running refl
          go over d = steps-after o r (part_over s r.order) w (part-goes f s b e h r.order) (scope-free r (part_over s r.order))
          go (raising x) d = steps-fall o r (part_raised x s r.order) w (ap is_raising d) (part-raised-falls s b e h x r.order)
          go leaving d = passes leaving refl
          go undone d = passes running refl
          go (undo_raising x) d = passes running refl

    undo-steps : {b : ℕ} (o : Order) (r : Outcome) → Steps g b o r → Steps g b o (from_undo r)
    unfolding from_undo
    undo-steps {b} o r w = go r.result refl
      where
        go : (x : Result) → r.result ≡ x → Steps g b o (from_undo (record { result = x; order = r.order; log = r.log }))
        go running d = steps-as r running (λ q. ap is_raising d ∙ q) w
        go over d = steps-as r undone (λ q. absurd (false≢true q)) w
        go (raising x) d = steps-as r (undo_raising x) (λ q. ap is_raising d) w
        go leaving d = steps-as r leaving (λ q. absurd (false≢true q)) w
        go undone d = steps-as r undone (λ q. absurd (false≢true q)) w
        go (undo_raising x) d = steps-as r (undo_raising x) (λ q. ap is_raising d) w

    -- goes on where its mark is as it was
    goes-on-steps : {e : ℕ} (k v : ℕ) (o : Order) (x : Order → Outcome) (r : Outcome) → eqb v idle ≡ false → (shifts (f k) ≡ true → g k ≡ false)
        → Steps g (k + 1) o r
        → ((o₁ : Order) → length o₁.marks ≡ length o.marks → Goes f (k + 1) e o₁ (x o₁)) → Steps g (k + 1) o (goes_on k v x r)
    unfolding goes_on
    goes-on-steps {e} k v o x r a b w h = go r.result refl
      where
        free : (y : Outcome) → (Up y.order.marks k → Up r.order.marks k) → Free (k + 1) r y
        free y q j d z t =
            let i : k ≡ j = omega arith in
            subst (λ (i : ℕ). (g i ≡ false) × (Up y.order.marks i → Up r.order.marks i)) i (b (ap (λ (i : ℕ). shifts (f i)) i ∙ t), q)

        on : (t : Bool) → eqb (mark_at k r.order) v ≡ t → Steps g (k + 1) o (after r.log (elim t [ true ↦ x r.order | false ↦ runs r.order ]))
        on true d = steps-after o r (x r.order) w (h r.order w.long) (free (x r.order) (λ u. ap (λ (m : ℕ). eqb m idle) (eqb-true (mark_at k r.order) v d) ∙ a))
        on false d = steps-after o r (runs r.order) w (goes-runs f (k + 1) e r.order) (free (runs r.order) (λ u. u))

        go : (y : Result) → r.result ≡ y
            → Steps g (k + 1) o (where_over (λ o₁. elim (eqb (mark_at k o₁) v) [ true ↦ x o₁ | false ↦ runs o₁ ]) (record { result = y; order = r.order; log = r.log }))
        go running d = steps-as r running (λ q. absurd (false≢true q)) w
        go over d = on (eqb (mark_at k r.order) v) refl
        go (raising x) d = steps-as r (raising x) (λ q. ap is_raising d) w
        go leaving d = steps-as r leaving (λ q. absurd (false≢true q)) w
        go undone d = steps-as r undone (λ q. absurd (false≢true q)) w
        go (undo_raising x) d = steps-as r (undo_raising x) (λ q. ap is_raising d) w

    -- what it makes of a step within it
    scope-steps : (ns : List ℕ) (v : Bool) (within : Acts) (k t : ℕ) (o : Order) (r : Outcome) → is_scope_kind (f k) ≡ true → general_part ns < count within → KnowsIn f within (k + 1)
        → k + 1 + sizes within ≤ length o.marks → Steps g (k + 1) o r
        → Steps g (k + 1) o (in_scope ns v k t within r)
    unfolding in_scope
    scope-steps ns v within k t o r q n y m w =
        let s = scope_at ns k within in
        let h = scope-within f ns q n y in
        steps-either (ltb t (part_at 1 within (k + 1))) (elim (goes_through v k r) [ true ↦ r | false ↦ from_body s r ]) (elim (ltb t (part_at (undo_part ns) within (k + 1))) [ true ↦ from_fault s r | false ↦ from_undo r ]) _ refl
        (steps-either (goes_through v k r) r (from_body s r) _ refl w (body-steps s (k + 1) (k + 1 + sizes within) h o r m w))
        (steps-either (ltb t (part_at (undo_part ns) within (k + 1))) (from_fault s r) (from_undo r) _ refl (fault-steps s (k + 1) (k + 1 + sizes within) h o r w) (undo-steps o r w))

    combines-steps : (own : Own) (within : Acts) (k t : ℕ) (o : Order) (r : Outcome) → f k ≡ kind own → needs own ≤ count within → KnowsIn f within (k + 1)
        → k + 1 + sizes within ≤ length o.marks
        → g k ≡ false → Steps g (k + 1) o r → Steps g (k + 1) o (combines own within k t r)
    unfolding combines needs kind
    combines-steps empty within k t o r e n y m q w = w
    combines-steps (send a b vs) within k t o r e n y m q w = w
    combines-steps (receive a b vs) within k t o r e n y m q w = w
    combines-steps (setting v x) within k t o r e n y m q w = w
    combines-steps (raise number) within k t o r e n y m q w = w
    combines-steps leave within k t o r e n y m q w = w
    combines-steps (choose x) within k t o r e n y m q w = goes-on-steps {e = 0} k inside o (finishes k) r refl (λ s. q) w (λ o₁ d. finishes-goes f k 0 o₁)
    combines-steps (repeat x) within k t o r e n y m q w = goes-on-steps {e = 0} k inside o (again k) r refl (λ s. q) w (λ o₁ d. again-goes k 0 o₁ (ap (λ (i : ℕ). eqb i 7) e))
    combines-steps sequence within k t o r e n y m q w = goes-on-steps {e = k + 1 + sizes within} k active o _ r refl (λ s. q) w (λ o₁ d. follows-goes k t o₁ y (omega arith))
    combines-steps flow within k t o r e n y m q w = goes-on-steps {e = 0} k active o (joins k within) r refl (λ s. q) w (λ o₁ d. joins-goes k 0 within o₁)
    combines-steps pick within k t o r e n y m q w = goes-on-steps {e = 0} k inside o (finishes k) r refl (λ s. q) w (λ o₁ d. finishes-goes f k 0 o₁)
    combines-steps (scope ns v) within k t o r e n y m q w =
        scope-steps ns v within k t o r (ap is_scope_kind e ∙ scope-kind (scope ns v)) (scope-needs f (scope ns v) (count within) refl n) y m w
    combines-steps (arm a b vs) within k t o r e n y m q w = w

    -- nothing happens
    still-steps : (b : ℕ) (o : Order) → ((j : ℕ) → g j ≡ true → ⊥) → Steps g b o (runs o)
    unfolding some
    still-steps b o h =
        record {
          truly = λ j x y. absurd (false≢true y);
          range = λ j y. absurd (false≢true y);
          keeps = λ j z y n u. (u, λ q. refl);
          its = λ j z y n u. absurd (h j y);
          long = refl;
          quits = λ q j. refl;
        }

    -- its mark is cleared, and nothing begins
    idle-steps : (k : ℕ) (o : Order) (r : Outcome) → r.order.marks ≡ set o.marks k idle → ((j : ℕ) → has_began j r.log ≡ false)
        → ((j : ℕ) → g j ≡ true → j ≡ k) → Steps g (k + 1) o r
    idle-steps k o r d n h =
        record {
          truly = λ j x y. absurd (false≢true (sym (n j) ∙ y));
          range = λ j y. absurd (false≢true (sym (n j) ∙ y));
          keeps = λ j z y m u. (stay-up (stays j) u, λ q. (stays j).same u);
          its = λ j z y m u. absurd (not-cleared o.marks k (subst (λ (ms : List ℕ). Up ms k) d (subst (λ (i : ℕ). Up r.order.marks i) (h j y) u)));
          long = ap length d ∙ length-set o.marks k idle;
          quits = λ q. n;
        }
      where
        stays : (j : ℕ) → Stay o.marks r.order.marks j
        stays j = subst (λ (ms : List ℕ). Stay o.marks ms j) (sym d) (stay-idle o.marks k j)

    or-steps : (k : ℕ) (o : Order) (x : ℕ → Outcome) (v : Value) → ((j : ℕ) → g j ≡ true → j ≡ k) → ((n : ℕ) → Steps g (k + 1) o (x n))
        → Steps g (k + 1) o (or_raises k o x v)
    unfolding some is_began_of
    or-steps k o x (fault n) h y = idle-steps k o (raises n k o) refl (λ j. refl) h
    or-steps k o x (value n) h y = y n

    -- from marks that are as they were, but its own
    own-steps : {e : ℕ} (k : ℕ) (o o₁ : Order) (r : Outcome) → g k ≡ true → ((j : ℕ) → g j ≡ true → j ≡ k) → length o₁.marks ≡ length o.marks
        → ((j : ℕ) → (j ≡ k → ⊥) → Stay o.marks o₁.marks j)
        → Goes f (k + 1) e o₁ r → (Up r.order.marks k → goes_in (f k) (get_or r.order.marks k 0) (has_began (k + 1) r.log) ≡ true) → Steps g (k + 1) o r
    own-steps k o o₁ r q h l s w c =
        record {
          truly = w.truly;
          range = λ j z. (w.range j z).0;
          keeps = λ j z y n u.
              let d = other j y in
              let v = stay_then (s j d) (w.stays j (λ e. absurd (d (omega arith))) n) in (stay-up v u, λ x. v.same u);
          its = λ j z y n. subst (λ (i : ℕ). Up r.order.marks i → goes_in (f i) (get_or r.order.marks i 0) (has_began (i + 1) r.log) ≡ true) (sym (h j y)) c;
          long = w.long ∙ l;
          quits = λ x. absurd (false≢true (sym w.calm ∙ x));
        }
      where
        other : (j : ℕ) → g j ≡ false → j ≡ k → ⊥
        other j y d = false≢true (sym y ∙ subst (λ (i : ℕ). g i ≡ true) (sym d) q)

    repeats-steps : (within : Acts) (k : ℕ) (o : Order) → f k ≡ 7 → 1 ≤ count within → Arms false within → KnowsIn f within (k + 1)
        → k + 1 + sizes within ≤ length o.marks → g k ≡ true → ((j : ℕ) → g j ≡ true → j ≡ k)
        → Steps g (k + 1) o (repeats k within o)
    unfolding repeats goes_in
    repeats-steps within k o e n a y m q h =
        let ms = cleared (k + 1) (sizes within) o.marks in
        let o₁ = marked k inside (with_marks ms o) in
        let l : length o₁.marks ≡ length o.marks = length-set ms k inside ∙ (cleared-kept (sizes within) (k + 1) o.marks).many in
        own-steps {e = k + 1 + sizes within} k o o₁ (repeats k within o) q h l (λ j d. stay_then (stay-cleared (sizes within) (k + 1) o.marks j) (stay-other ms k inside j d))
        (goes-where f (again k) (begun_in o₁ (begin_part 0 within (k + 1) o₁.marks))
        (goes-begun f {b = k + 1} {e = k + 1 + sizes within} o₁ (begin_part 0 within (k + 1) o₁.marks) (part-began f y 0 (omega arith) o₁.marks (omega arith)) (omega arith) (omega arith))
        (λ o₂ d. again-goes k _ o₂ (ap (λ (i : ℕ). eqb i 7) e)))
        (λ u. rw (e, where-began (k + 1) (again k) (begun_in o₁ (begin_part 0 within (k + 1) o₁.marks)) (first_said within (k + 1) o₁.marks a n)))

    -- its own step
    itself-steps : (own : Own) (within : Acts) (q₀ k : ℕ) (o : Order) → f k ≡ kind own → needs own ≤ count within → Arms (is_pick own) within
        → KnowsIn f within (k + 1) → k + 1 + sizes within ≤ length o.marks
        → (acts (kind own) ≡ true → g k ≡ true) → ((j : ℕ) → g j ≡ true → (j ≡ k) × (acts (kind own) ≡ true)) → Steps g (k + 1) o (itself own within q₀ k o)
    unfolding itself needs least kind acts goes_in closing some is_began_of
    itself-steps empty within q₀ k o e n a y m q h = still-steps (k + 1) o (λ j z. false≢true (h j z).1)
    itself-steps (send b c vs) within q₀ k o e n a y m q h =
        by-send (Steps g (k + 1) o) b c vs within q₀ k o (idle-steps k o (finishes k o) refl (λ j. refl) (λ j z. (h j z).0)) (λ x. idle-steps k o (raises x k o) refl (λ j. refl) (λ j z. (h j z).0))
    itself-steps (receive b c vs) within q₀ k o e n a y m q h = idle-steps k o (finishes k o) refl (λ j. refl) (λ j z. (h j z).0)
    itself-steps (setting v x) within q₀ k o e n a y m q h = or-steps k o _ (evaluate x o) (λ j z. (h j z).0) (λ i. idle-steps k o (finishes k (binding v i o)) refl (λ j. refl) (λ j z. (h j z).0))
    itself-steps (raise number) within q₀ k o e n a y m q h = idle-steps k o (raises number k o) refl (λ j. refl) (λ j z. (h j z).0)
    itself-steps leave within q₀ k o e n a y m q h = idle-steps k o (leaves k o) refl (λ j. refl) (λ j z. (h j z).0)
    itself-steps (choose x) within q₀ k o e n a y m q h = or-steps k o _ (evaluate x o) (λ j z. (h j z).0) (λ z. enters-steps (cond (is_true z) 0 1) (first_two (is_true z)))
      where
        first_two : (b : Bool) → cond b 0 1 < 2
        first_two true = omega arith
        first_two false = omega arith

        enters-steps : (i : ℕ) → i < 2 → Steps g (k + 1) o (enters k o (begin_part i within (k + 1) (marked k inside o).marks))
        enters-steps i d =
            let o₁ = marked k inside o in
            let b = begin_part i within (k + 1) o₁.marks in
            let w = part-began f y i (omega arith) o₁.marks (omega (arith, length-set o.marks k inside)) in
            own-steps {e = k + 1 + sizes within} k o o₁ (enters k o b) (q refl) (λ j z. (h j z).0) (length-set o.marks k inside) (λ j d. stay-other o.marks k inside j d)
            (goes-where f (finishes k) (begun_in o₁ b) (goes-begun f {b = k + 1} {e = k + 1 + sizes within} o₁ b w (omega arith) (omega arith)) (λ o₂ d. finishes-goes f k _ o₂))
            (λ u. rw (e, entered k o b (omega arith) w u))
    itself-steps (repeat x) within q₀ k o e n a y m q h = or-steps k o _ (evaluate x o) (λ j z. (h j z).0) (λ z. turn (is_true z))
      where
        turn : (b : Bool) → Steps g (k + 1) o (elim b [ true ↦ repeats k within o | false ↦ finishes k o ])
        turn true = repeats-steps within k o e (omega arith) a y m (q refl) (λ j z. (h j z).0)
        turn false = idle-steps k o (finishes k o) refl (λ j. refl) (λ j z. (h j z).0)
    itself-steps sequence within q₀ k o e n a y m q h = still-steps (k + 1) o (λ j z. false≢true (h j z).1)
    itself-steps flow within q₀ k o e n a y m q h = still-steps (k + 1) o (λ j z. false≢true (h j z).1)
    itself-steps pick within q₀ k o e n a y m q h = still-steps (k + 1) o (λ j z. false≢true (h j z).1)
    itself-steps (scope ns v) within q₀ k o e n a y m q h = idle-steps k o (closing v q₀ k (scope_at ns k within) o) refl (λ j. refl) (λ j z. (h j z).0)
    itself-steps (arm b c vs) within q₀ k o e n a y m q h =
        let w = goes-begun f {b = k + 1} {e = k + 1 + sizes within} o (begin_part 0 within (k + 1) o.marks) (part-began f y 0 (omega arith) o.marks m) (omega arith) (omega arith) in
        record {
          truly = w.truly;
          range = λ j z. (w.range j z).0;
          keeps = λ j z x i u.
              let v = w.stays j (λ d. ap shifts (subst (λ (i : ℕ). f i ≡ 255) (omega arith) e)) i in (stay-up v u, λ t. v.same u);
          its = λ j z x. absurd (false≢true (h j x).1);
          long = w.long;
          quits = λ x. absurd (false≢true (sym w.calm ∙ x));
        }

    -- a raise in its place
    performs-steps : (actor : Actor) (own : Own) (within : Acts) (q₀ k : ℕ) (o : Order) → f k ≡ kind own → needs own ≤ count within → Arms (is_pick own) within
        → KnowsIn f within (k + 1) → k + 1 + sizes within ≤ length o.marks
        → (acts (kind own) ≡ true → g k ≡ true) → ((j : ℕ) → g j ≡ true → (j ≡ k) × (acts (kind own) ≡ true)) → Steps g (k + 1) o (performs actor own within q₀ k o)
    unfolding performs some is_began_of
    performs-steps actor own within q₀ k o e n a y m q h = go (replaces actor (kind own))
      where
        go : (b : Bool) → Steps g (k + 1) o (elim b [ true ↦ raises conflicting_receive k o | false ↦ itself own within q₀ k o ])
        go true = idle-steps k o (raises conflicting_receive k o) refl (λ j. refl) (λ j z. (h j z).0)
        go false = itself-steps own within q₀ k o e n a y m q h

  -- the step of an arm is its pick's, which goes inside with it
  pick-steps : (g : ℕ → Bool) (k : ℕ) (o : Order) (r : Outcome) → f k ≡ 10 → k < length o.marks → ((j : ℕ) → g j ≡ false)
      → Steps g (k + 1) (marked k inside o) r → Steps (eqb k) (k + 1) o r
  unfolding goes_in
  pick-steps g k o r e l h w =
      record {
        truly = w.truly;
        range = w.range;
        keeps = λ j z y n u.
            let q = w.keeps j z (h j) n u in
            let s = stay-other o.marks k inside j (λ d. eqb-false k j y (sym d)) in (stay-up s q.0, λ x. q.1 x ∙ s.same q.0);
        its = λ j z y. subst (λ (i : ℕ). has_began i r.log ≡ false → Up r.order.marks i → goes_in (f i) (get_or r.order.marks i 0) (has_began (i + 1) r.log) ≡ true) (eqb-true k j y)
            (λ n u. rw (e, (w.keeps k (ap is_scope_kind e) (h k) n u).1 (ap (λ (i : ℕ). eqb i 7) e) ∙ get_or-set_same o.marks k inside 0 l));
        long = w.long ∙ length-set o.marks k inside;
        quits = w.quits;
      }

  -- what a pick is when one of its arms acts
  arms-here : (own : Own) (within : Acts) (k t : ℕ) (o : Order) (b : Bool) → (is_pick own && is_part within (k + 1) t) ≡ b
      → arms own within k t o ≡ cond b (marked k inside o) o
  unfolding arms
  arms-here own within k t o b e = rw e

  -- not of what stands around it
  not-around : (within : Acts) (k t : ℕ) → owns_among within (k + 1) t k ≡ false
  not-around within k t = decide (owns_among within (k + 1) t k) (λ e. let z = owns-in-from t k within (k + 1) e in absurd (omega arith)) (λ e. e)

  -- where it stands within, by what stands there
  within-steps : (actor : Actor) (own : Own) (within : Acts) (q₀ k t : ℕ) (o : Order) → f k ≡ kind own → needs own ≤ count within → Arms (is_pick own) within
      → KnowsIn f within (k + 1) → k + 1 + sizes within ≤ length o.marks
      → (k ≡ t → ⊥) → ((o₁ : Order) → length o₁.marks ≡ length o.marks → Steps (owns_among within (k + 1) t) (k + 1) o₁ (step_among actor within (is_scope own) q₀ (k + 1) t o₁))
      → Steps (owns_in (act own within) k t) (k + 1) o (combines own within k t (step_among actor within (is_scope own) q₀ (k + 1) t (arms own within k t o)))
  within-steps actor own within q₀ k t o e n a y m i w =
      decide (is_pick own && is_part within (k + 1) t)
      (λ d. both (is_pick own) (is_part within (k + 1) t) d (λ b c.
      subst (λ (o₁ : Order). Steps (owns_in (act own within) k t) (k + 1) o (combines own within k t (step_among actor within (is_scope own) q₀ (k + 1) t o₁))) (sym (arms-here own within k t o true d))
      (steps-owned (eqb k) (owns_in (act own within) k t) (λ j. owns-arm t j own within k i d)
      (pick-steps (owns_among within (k + 1) t) k o _ (e ∙ pick-kind own b) (omega arith) (λ j. arm-owns t j within (k + 1) (subst (λ (r : Bool). Arms r within) b a) c)
      (combined (marked k inside o) (length-set o.marks k inside))))))
      (λ d. subst (λ (o₁ : Order). Steps (owns_in (act own within) k t) (k + 1) o (combines own within k t (step_among actor within (is_scope own) q₀ (k + 1) t o₁))) (sym (arms-here own within k t o false d))
      (steps-owned (owns_among within (k + 1) t) (owns_in (act own within) k t) (λ j. owns-within t j own within k i d) (combined o refl)))
    where
      combined : (o₁ : Order) → length o₁.marks ≡ length o.marks
          → Steps (owns_among within (k + 1) t) (k + 1) o₁ (combines own within k t (step_among actor within (is_scope own) q₀ (k + 1) t o₁))
      combined o₁ l = combines-steps (owns_among within (k + 1) t) own within k t o₁ (step_among actor within (is_scope own) q₀ (k + 1) t o₁) e n y (omega arith) (not-around within k t) (w o₁ l)

  mutual
    unfolding step_in owns_in size

    pub step-steps : (actor : Actor) {a : Act} {k : ℕ} → Knows f a k → (q₀ t : ℕ) (o : Order) → k + size a ≤ length o.marks → Steps (owns_in a k t) k o (step_in actor a q₀ k t o)
    step-steps actor (knows {own} {within} {k} x n r y) q₀ t o h =
        decide (eqb k t)
        (λ e. subst (λ (z : Outcome). Steps (owns_in (act own within) k t) k o z)
        (sym (first-of (eqb k t) (performs actor own within q₀ k o) (combines own within k t (step_among actor within (is_scope own) q₀ (k + 1) t (arms own within k t o))) (step_in actor (act own within) q₀ k t o) refl e))
        (steps-lower (owns_in (act own within) k t) (omega arith) (performs-steps (owns_in (act own within) k t) actor own within q₀ k o x n r y (omega arith)
        (λ q. owns-itself t k own within k (eqb-true k t e) ∙ rw (eq-eqb k k refl, q))
        (λ j q. both (eqb k j) (acts (kind own)) (sym (owns-itself t j own within k (eqb-true k t e)) ∙ q) (λ u v. (sym (eqb-true k j u), v))))))
        (λ e. subst (λ (z : Outcome). Steps (owns_in (act own within) k t) k o z)
        (sym (second-of (eqb k t) (performs actor own within q₀ k o) (combines own within k t (step_among actor within (is_scope own) q₀ (k + 1) t (arms own within k t o))) (step_in actor (act own within) q₀ k t o) refl e))
        (steps-lower (owns_in (act own within) k t) (omega arith) (within-steps actor own within q₀ k t o x n r y (omega arith) (eqb-false k t e) (λ o₁ l. among-steps actor y (is_scope own) q₀ t o₁ (omega arith)))))

    pub among-steps : (actor : Actor) {l : Acts} {c : ℕ} → KnowsIn f l c → (v : Bool) (q₀ t : ℕ) (o : Order) → c + sizes l ≤ length o.marks → Steps (owns_among l c t) c o (step_among actor l v q₀ c t o)
    among-steps actor (knows-none {c}) v q₀ t o h = still-steps (owns_among none c t) c o (λ j. false≢true)
    among-steps actor (knows_more {a} {l} {c} x y) v q₀ t o h =
        decide (ltb t (c + size a))
        (λ e. subst (λ (z : Outcome). Steps (owns_among (more a l) c t) c o z)
        (sym (first-of (ltb t (c + size a)) (step_in actor a (cond v c q₀) c t o) (step_among actor l v q₀ (c + size a) t o) (step_among actor (more a l) v q₀ c t o) refl e))
        (steps-owned (owns_in a c t) (owns_among (more a l) c t) (λ j. owns-first t j a l c e) (step-steps actor x (cond v c q₀) t o (omega arith))))
        (λ e. subst (λ (z : Outcome). Steps (owns_among (more a l) c t) c o z)
        (sym (second-of (ltb t (c + size a)) (step_in actor a (cond v c q₀) c t o) (step_among actor l v q₀ (c + size a) t o) (step_among actor (more a l) v q₀ c t o) refl e))
        (steps-owned (owns_among l (c + size a) t) (owns_among (more a l) c t) (λ j. owns-later t j a l c e) (steps-lower (owns_among l (c + size a) t) (omega arith) (among-steps actor y v q₀ t o (omega arith)))))

  module _ (p : Plan) (kb : Knows f p.body 0) (kf : Knows f p.fault (size p.body)) where
    -- From the root.
    pub root-steps : (actor : Actor) (t : ℕ) (o : Order) → size p.body + size p.fault ≤ length o.marks → Steps (owns_at p t) 0 o (step_root actor p t o)
    unfolding step_root owns_at
    root-steps actor t o m =
        decide (ltb t (size p.body))
        (λ e. steps-owned (owns_in p.body 0 t) (owns_at p t) (λ j. first-of (ltb t (size p.body)) (owns_in p.body 0 t j) (owns_in p.fault (size p.body) t j) (owns_at p t j) refl e)
        (subst (λ (z : Outcome). Steps (owns_in p.body 0 t) 0 o z) (sym (first-of (ltb t (size p.body)) in_body in_fault (step_root actor p t o) refl e))
        (body-steps (owns_in p.body 0 t) (root_of p) 0 (size p.body + size p.fault) w o (step_in actor p.body 0 0 t o) m (step-steps actor kb 0 t o (omega arith)))))
        (λ e. steps-owned (owns_in p.fault (size p.body) t) (owns_at p t) (λ j. second-of (ltb t (size p.body)) (owns_in p.body 0 t j) (owns_in p.fault (size p.body) t j) (owns_at p t j) refl e)
        (subst (λ (z : Outcome). Steps (owns_in p.fault (size p.body) t) 0 o z) (sym (second-of (ltb t (size p.body)) in_body in_fault (step_root actor p t o) refl e))
        (fault-steps (owns_in p.fault (size p.body) t) (root_of p) 0 (size p.body + size p.fault) w o (step_in actor p.fault (size p.body) (size p.body) t o)
        (steps-lower (owns_in p.fault (size p.body) t) (omega arith) (step-steps actor kf (size p.body) t o (omega arith))))))
      where
        in_body : Outcome
        in_body = from_body (root_of p) (step_in actor p.body 0 0 t o)

        in_fault : Outcome
        in_fault = from_fault (root_of p) (step_in actor p.fault (size p.body) (size p.body) t o)

        w : Within f (root_of p) 0 (size p.body + size p.fault)
        w =
            record {
              name = refl;
              body = kb;
              fault = root-chosen (λ a j. Knows f a j) p kf;
              body_from = omega arith;
              body_to = omega arith;
              fault_from = root-chosen (λ a j. 0 ≤ j) p (omega arith);
              fault_to = root-chosen (λ a j. j + size a ≤ size p.body + size p.fault) p (omega arith);
            }

    -- Where an order lives on after its step.
    pub order-steps : (actor : Actor) (t : ℕ) (o : Order) → size p.body + size p.fault ≤ length o.marks → is_live (acted actor p t o).order ≡ true
        → Steps (owns_at p t) 0 o (record { result = running; order = (acted actor p t o).order; log = (acted actor p t o).log })
    unfolding acted moved_to no_order
    order-steps actor t o m v = go (end_of (step_root actor p t o)) v
      where
        r : Outcome
        r = step_root actor p t o

        go : (e : End) → is_live (moved_to r e).order ≡ true
            → Steps (owns_at p t) 0 o (record { result = running; order = (moved_to r e).order; log = (moved_to r e).log })
        go None v = steps-as (owns_at p t) r running (λ q. absurd (false≢true q)) (root-steps actor t o m)
        go Well v = absurd (false≢true v)
        go Handled v = absurd (false≢true v)
        go Failed v = absurd (false≢true v)
        go Left v = absurd (false≢true v)

-- What has its step was set before it.
awaits-up : (own : Own) (b : Bool) (m : ℕ) → acts (kind own) ≡ true → awaits own b m ≡ true → eqb m idle ≡ false
unfolding awaits acts
awaits-up own b m a h =
    decide (is_arm own)
    (λ e. absurd (false≢true (rw (arm-kind own e) at a)))
    (λ e. decide (is_scope own) (λ s. rw (eqb-true m done (rw (e, s) at h))) (λ s. rw (eqb-true m active (rw (e, s) at h))))

module _ {ms : List ℕ} (t j : ℕ) where
  -- an arm that awaits its step is open
  pub arm-open : {l : Acts} {c : ℕ} {b : Bool} → Arms true l → WaitsIn ms l c t b → is_part l c t ≡ true → b ≡ true
  unfolding is_part awaits size
  arm-open {b = b} r (waits-first {a = act own within} {l = l} {c = c} u (waits-itself d q)) h = rw r.0 at q
  arm-open r (waits-first {a = act own within} {l = l} {c = c} u (waits-within d q)) h =
      or_case (eqb c t) (is_part l (c + (1 + sizes within)) t) h (λ e. let z = eqb-true c t e in absurd (omega arith)) (λ e. let z = part-from l (c + (1 + sizes within)) t e in absurd (omega arith))
  arm-open r (waits-later {a = act own within} {l = l} {c = c} u w) h =
      or_case (eqb c t) (is_part l (c + (1 + sizes within)) t) h (λ e. let z = eqb-true c t e in absurd (omega arith)) (λ e. arm-open r.1 w e)

  mutual
    unfolding owns_in

    own-up : {f : ℕ → ℕ} {a : Act} {k : ℕ} {b : Bool} → Knows f a k → Waits ms a k t b → owns_in a k t j ≡ true → Up ms j
    own-up (knows {own} {within} {k} x n r y) (waits-itself {b = b} e q) h =
        both (eqb k j) (acts (kind own)) (sym (owns-itself t j own within k e) ∙ h) (λ u v. subst (λ (i : ℕ). Up ms i) (eqb-true k j u) (awaits-up own b (get_or ms k 0) v q))
    own-up (knows {own} {within} {k} x n r y) (waits-within e w) h =
        decide (is_pick own && is_part within (k + 1) t)
        (λ d. both (is_pick own) (is_part within (k + 1) t) d (λ u v.
        both (is_pick own) (eqb (get_or ms k 0) active) (arm-open (subst (λ (z : Bool). Arms z within) u r) w v) (λ a b.
        subst (λ (i : ℕ). Up ms i) (eqb-true k j (sym (owns-arm t j own within k (λ i. omega arith) d) ∙ h)) (rw (eqb-true (get_or ms k 0) active b)))))
        (λ d. own-up-in y w (sym (owns-within t j own within k (λ i. omega arith) d) ∙ h))

    own-up-in : {f : ℕ → ℕ} {l : Acts} {c : ℕ} {b : Bool} → KnowsIn f l c → WaitsIn ms l c t b → owns_among l c t j ≡ true → Up ms j
    own-up-in {f = f} {b = b} (knows-none {c = c}) z h = elim z [ ]
    own-up-in (knows_more {a} {l} {c} x y) (waits-first u w) h = own-up x w (sym (owns-first t j a l c (lt-ltb t (c + size a) u)) ∙ h)
    own-up-in (knows_more {a} {l} {c} x y) (waits-later u w) h = own-up-in y w (sym (owns-later t j a l c (le-ltb t (c + size a) u)) ∙ h)

  pub awaited-up : {f : ℕ → ℕ} (p : Plan) → Knows f p.body 0 → Knows f p.fault (size p.body) → Awaited p ms t → owns_at p t j ≡ true → Up ms j
  unfolding owns_at
  awaited-up p kb kf (in-body e w) h = own-up kb w (rw (owns_at, lt-ltb t (size p.body) e) at h)
  awaited-up p kb kf (in-fault e w) h = own-up kf w (rw (owns_at, le-ltb t (size p.body) e) at h)
