-- A fault that comes out of a step has set no mark: each that is set then is what it was; and a fault or a leave that comes out of one is told. Assumes nothing.
use Prim.Native.Nat.{ℕ, zero, suc, ◌+◌}
use mathlib.Core.Path.{◌≡◌, refl, sym, subst, ◌∙◌}
use mathlib.Core.Bool.{Bool, true, false, cond, ◌&&◌, ◌||◌, false≢true}
use mathlib.Core.List.{List, [], ◌∷◌, ◌++◌}
use lib.ListN.{get_or, set}
use lib.Dec.{eqb, ltb}
use borrow.Author.Tests.{eqb-true, eqb-false}
use Rattle.plan.specs.Tree.{Own, empty, send, receive, set as setting, raise, leave, choose, repeat, sequence, flow, pick, scope, arm, kind, is_scope, is_pick, Act, Acts, none, more, Plan, size, undo_part}
use Rattle.order.specs.declared.Order.{Order}
use Rattle.order.specs.State.{Name, root, inner, idle, active, inside, faulty, undoing, handling, withdrawing, marked, mark_at, mark_of, marking, binding, causing, state_of, mark_with}
use Rattle.order.specs.Event.{Event}
use Rattle.order.specs.Lists.{some}
use Rattle.order.specs.Expression.{conflicting_receive, Value, fault, value, evaluate, is_true}
use Rattle.order.specs.Begin.{part_at, begin_part, begin_after}
use Rattle.order.specs.declared.Way.{Way as Result}
use Rattle.order.specs.declared.Way.TheVariants.{Running as running, Over as over, Raising as raising, Leaving as leaving, Undone as undone, UndoRaising as undo_raising}
use Rattle.order.specs.Scope.{Outcome, runs, begun_in, where_over, Scope, scope_at, root_of, is_open, forgetting, closing, stop, faults, breaks, looks_again, body_over, body_raised, undo_over, undo_raised, from_body, part_over, part_raised, from_fault, goes_through, from_undo, choice_for}
use Rattle.order.specs.Acting.{finishes, raises, leaves, or_raises, again, repeats, itself, is_part, arms, goes_on, joins, in_scope, combines, step_in, step_among, step_root, Actor, replaces, performs}
use Rattle.undoing.specs.Entirely.{is_rash}
use Rattle.undoing.proofs.Parts.{decide, some-append}
use Rattle.undoing.proofs.Aside.{part-silent}
use Rattle.undoing.proofs.Shapes.{graves-aside, is_grave, is_mild, Mild, mild-either, mild-begun, mild-runs, mild-turns, mild-looks, mild-over, mild-undo-over, mild-part-over, mild-finishes, mild-again, mild-joins, mild-enters, mild-repeats, mild-follows}
use Rattle.undoing.proofs.Truly.{Stay, stay-still, stay_then, stay-other, stay-idle, stay-cleared, Knows, knows, KnowsIn, knows-none, knows_more}
use Rattle.undoing.proofs.Lasting.{is_raising}
use Rattle.undoing.proofs.Sends.{by-send}

-- a fault came out, or the order leaves
abbrev pub is_bad : Result → Bool
is_bad running = false
is_bad over = false
is_bad (raising x) = true
is_bad leaving = true
is_bad undone = false
is_bad (undo_raising x) = true

-- a scope that is open was open
pub record Wane (ms ns : List ℕ) (j : ℕ) : Type 0 where
  pub was : is_open (get_or ns j 0) ≡ true → is_open (get_or ms j 0) ≡ true

wane-so : {ms ns : List ℕ} {j : ℕ} → Stay ms ns j → Wane ms ns j
wane-so {ns = ns} {j = j} f = record { was = λ e. subst (λ (i : ℕ). is_open i ≡ true) (f.same (open_up (get_or ns j 0) e)) e }
  where
    open_up : (i : ℕ) → is_open i ≡ true → eqb i idle ≡ false
    open_up i e = decide (eqb i idle) (λ d. absurd (false≢true (subst (λ (z : ℕ). is_open z ≡ true) (eqb-true i idle d) e))) (λ d. d)

wane-then : {ls ms ns : List ℕ} {j : ℕ} → Wane ls ms j → Wane ms ns j → Wane ls ns j
wane-then f g = record { was = λ e. f.was (g.was e) }

inside-shut : (ms : List ℕ) (k : ℕ) → is_open (get_or (set ms k inside) k 0) ≡ false
inside-shut [] k = refl
inside-shut (m ∷ ms) zero = refl
inside-shut (m ∷ ms) (suc k) = inside-shut ms k

wane-inside : (ms : List ℕ) (k j : ℕ) → Wane ms (set ms k inside) j
wane-inside ms k j =
    decide (eqb j k)
    (λ t. record { was = λ e. absurd (false≢true (sym (subst (λ (i : ℕ). is_open (get_or (set ms k inside) i 0) ≡ false) (sym (eqb-true j k t)) (inside-shut ms k)) ∙ e)) })
    (λ t. wane-so (stay-other ms k inside j (eqb-false j k t)))

pub record Drops (o : Order) (r : Outcome) : Type 0 where
  pub stays : is_raising r.result ≡ true → (j : ℕ) → Wane o.marks r.order.marks j
  pub rash : is_bad r.result ≡ true → some is_rash r.log ≡ true

mild-good : (x : Result) → is_mild x ≡ true → is_bad x ≡ true → ⊥
mild-good running m e = false≢true e
mild-good over m e = false≢true e
mild-good (raising x) m e = false≢true m
mild-good leaving m e = false≢true m
mild-good undone m e = false≢true m
mild-good (undo_raising x) m e = false≢true m

mild-calm : (x : Result) → is_mild x ≡ true → is_raising x ≡ true → ⊥
mild-calm running m e = false≢true e
mild-calm over m e = false≢true e
mild-calm (raising x) m e = false≢true m
mild-calm leaving m e = false≢true m
mild-calm undone m e = false≢true m
mild-calm (undo_raising x) m e = false≢true m

mild-drops : (o : Order) (r : Outcome) → is_mild r.result ≡ true → Drops o r
mild-drops o r m = record { stays = λ e. absurd (mild-calm r.result m e); rash = λ e. absurd (mild-good r.result m e) }

raises-drops : (x k : ℕ) (o : Order) → Drops o (raises x k o)
unfolding some is_rash
raises-drops x k o = record { stays = λ e j. wane-so (stay-idle o.marks k j); rash = λ e. refl }

or-drops : (k : ℕ) (o : Order) (g : ℕ → Outcome) (v : Value) → ((n : ℕ) → Mild (g n)) → Drops o (or_raises k o g v)
or-drops k o g (fault x) h = raises-drops x k o
or-drops k o g (value n) h = mild-drops o (g n) (h n).goes

itself-drops : (own : Own) (within : Acts) (q k : ℕ) (o : Order) → Drops o (itself own within q k o)
unfolding itself closing some is_rash
itself-drops empty within q k o = mild-drops o (runs o) refl
itself-drops (send a b vs) within q k o = by-send (Drops o) a b vs within q k o (mild-drops o (finishes k o) refl) (λ x. raises-drops x k o)
itself-drops (receive a b vs) within q k o = mild-drops o (finishes k o) refl
itself-drops (setting v e) within q k o = or-drops k o _ (evaluate e o) (λ n. mild-finishes k (binding v n o))
itself-drops (raise number) within q k o = raises-drops number k o
itself-drops leave within q k o = record { stays = λ e. absurd (false≢true e); rash = λ e. refl }
itself-drops (choose e) within q k o =
    or-drops k o _ (evaluate e o) (λ n. mild-enters k o (begin_part (cond (is_true n) 0 1) within (k + 1) (marked k inside o).marks) (part-silent is_grave graves-aside (cond (is_true n) 0 1) within (k + 1) (marked k inside o).marks))
itself-drops (repeat e) within q k o = or-drops k o _ (evaluate e o) (λ n. mild-either (is_true n) (repeats k within o) (finishes k o) (mild-repeats k within o) (mild-finishes k o) _ refl)
itself-drops sequence within q k o = mild-drops o (runs o) refl
itself-drops flow within q k o = mild-drops o (runs o) refl
itself-drops pick within q k o = mild-drops o (runs o) refl
itself-drops (scope xs v) within q k o = mild-drops o (closing v q k (scope_at xs k within) o) refl
itself-drops (arm a b vs) within q k o =
    mild-drops o (begun_in o (begin_part 0 within (k + 1) o.marks)) (mild-begun o (begin_part 0 within (k + 1) o.marks) (part-silent is_grave graves-aside 0 within (k + 1) o.marks)).goes

where-drops : (o : Order) (g : Order → Outcome) (r : Outcome) → Drops o r → ((q : Order) → Mild (g q)) → Drops o (where_over g r)
where-drops o g r w h = go r.result refl
  where
    same : (x : Result) → r.result ≡ x → Drops o (record { result = x; order = r.order; log = r.log })
    same x e = record { stays = λ d. w.stays (subst (λ (y : Result). is_raising y ≡ true) (sym e) d); rash = λ d. w.rash (subst (λ (y : Result). is_bad y ≡ true) (sym e) d) }

    go : (x : Result) → r.result ≡ x → Drops o (where_over g (record { result = x; order = r.order; log = r.log }))
    go running e = same running e
    go over e = record { stays = λ d. absurd (mild-calm (g r.order).result (h r.order).goes d); rash = λ d. absurd (mild-good (g r.order).result (h r.order).goes d) }
    go (raising x) e = same (raising x) e
    go leaving e = same leaving e
    go undone e = same undone e
    go (undo_raising x) e = same (undo_raising x) e

on-mild : (k m : ℕ) (g : Order → Outcome) → ((q : Order) → Mild (g q)) → (q : Order) → Mild (elim (eqb (mark_at k q) m) [ true ↦ g q | false ↦ runs q ])
on-mild k m g h q = mild-either (eqb (mark_at k q) m) (g q) (runs q) (h q) (mild-runs q) _ refl

on-drops : (o : Order) (k m : ℕ) (g : Order → Outcome) (r : Outcome) → Drops o r → ((q : Order) → Mild (g q)) → Drops o (goes_on k m g r)
unfolding goes_on
on-drops o k m g r w h = where-drops o (λ q. elim (eqb (mark_at k q) m) [ true ↦ g q | false ↦ runs q ]) r w (on-mild k m g h)

more-rash : (l m : List Event) → some is_rash l ≡ true → some is_rash (l ++ m) ≡ true
more-rash l m e = some-append is_rash l m ∙ rw e

stay-marking-idle : (n : Name) (o : Order) (j : ℕ) → Stay o.marks (marking n idle o).marks j
stay-marking-idle root o j = stay-still o.marks j
stay-marking-idle (inner k) o j = stay-idle o.marks k j

breaks-stay : (s : Scope) (number : ℕ) (o : Order) (j : ℕ) → Stay o.marks (breaks number s o).order.marks j
unfolding breaks forgetting
breaks-stay s number o j = stay_then (stay-marking-idle s.name o j) (stay-cleared s.count s.first (marking s.name idle o).marks j)

drops-either : (o : Order) (v : Bool) (x y z : Outcome) → z ≡ elim v [ true ↦ x | false ↦ y ] → Drops o x → Drops o y → Drops o z
drops-either o true x y z e g h = subst (λ (r : Outcome). Drops o r) (sym e) g
drops-either o false x y z e g h = subst (λ (r : Outcome). Drops o r) (sym e) h

body-drops : (s : Scope) (o : Order) (r : Outcome) → Drops o r → Drops o (from_body s r)
unfolding from_body body_raised faults undo_raised
body-drops s o r w = go r.result refl
  where
    go : (x : Result) → r.result ≡ x → Drops o (from_body s (record { result = x; order = r.order; log = r.log }))
    go running e = record { stays = λ d. absurd (mild-calm (looks_again s r.order).result (mild-looks s r.order).goes d); rash = λ d. absurd (mild-good (looks_again s r.order).result (mild-looks s r.order).goes d) }
    go over e = record { stays = λ d. absurd (mild-calm (body_over s r.order).result (mild-over s r.order).goes d); rash = λ d. absurd (mild-good (body_over s r.order).result (mild-over s r.order).goes d) }
    go (raising x) e =
        record {
          stays = λ d. absurd (mild-calm (body_raised x s r.order).result (raised (is_open (mark_of s.name r.order)) (body_raised x s r.order) refl) d);
          rash = λ d. absurd (mild-good (body_raised x s r.order).result (raised (is_open (mark_of s.name r.order)) (body_raised x s r.order) refl) d);
        }
      where
        raised : (v : Bool) (z : Outcome) → z ≡ elim v [ true ↦ faults x s r.order | false ↦ looks_again s r.order ] → is_mild z.result ≡ true
        raised true z e = subst (λ (q : Outcome). is_mild q.result ≡ true) (sym e) (mild-turns true s (stop s.body s.body_at (causing s.name x (marking s.name (mark_with (choice_for x s) faulty) r.order))).order).goes
        raised false z e = subst (λ (q : Outcome). is_mild q.result ≡ true) (sym e) (mild-looks s r.order).goes
    go leaving e = record { stays = λ d. absurd (false≢true d); rash = λ d. w.rash (subst (λ (y : Result). is_bad y ≡ true) (sym e) refl) }
    go undone e = record { stays = λ d. absurd (mild-calm (undo_over s r.order).result (mild-undo-over s r.order).goes d); rash = λ d. absurd (mild-good (undo_over s r.order).result (mild-undo-over s r.order).goes d) }
    go (undo_raising x) e =
        record {
          stays = λ d. broke (eqb (state_of s.name r.order) undoing || eqb (mark_of s.name r.order) withdrawing) (undo_raised x s r.order) refl;
          rash = λ d. more-rash r.log (undo_raised x s r.order).log (w.rash (subst (λ (y : Result). is_bad y ≡ true) (sym e) refl));
        }
      where
        broke : (v : Bool) (z : Outcome) → z ≡ elim v [ true ↦ breaks x s r.order | false ↦ runs r.order ] → (j : ℕ) → Wane o.marks z.order.marks j
        broke true z d j = subst (λ (q : Outcome). Wane o.marks q.order.marks j) (sym d) (wane-then (w.stays (subst (λ (y : Result). is_raising y ≡ true) (sym e) refl) j) (wane-so (breaks-stay s x r.order j)))
        broke false z d j = subst (λ (q : Outcome). Wane o.marks q.order.marks j) (sym d) (w.stays (subst (λ (y : Result). is_raising y ≡ true) (sym e) refl) j)

fault-drops : (s : Scope) (o : Order) (r : Outcome) → Drops o r → Drops o (from_fault s r)
unfolding from_fault part_raised
fault-drops s o r w = go r.result refl
  where
    go : (x : Result) → r.result ≡ x → Drops o (from_fault s (record { result = x; order = r.order; log = r.log }))
    go running e = record { stays = λ d. absurd (false≢true d); rash = λ d. absurd (false≢true d) }
    go over e = record { stays = λ d. absurd (mild-calm (part_over s r.order).result (mild-part-over s r.order).goes d); rash = λ d. absurd (mild-good (part_over s r.order).result (mild-part-over s r.order).goes d) }
    go (raising x) e =
        record {
          stays = λ d. broke (eqb (state_of s.name r.order) handling) (part_raised x s r.order) refl;
          rash = λ d. more-rash r.log (part_raised x s r.order).log (w.rash (subst (λ (y : Result). is_bad y ≡ true) (sym e) refl));
        }
      where
        broke : (v : Bool) (z : Outcome) → z ≡ elim v [ true ↦ breaks x s r.order | false ↦ runs r.order ] → (j : ℕ) → Wane o.marks z.order.marks j
        broke true z d j = subst (λ (q : Outcome). Wane o.marks q.order.marks j) (sym d) (wane-then (w.stays (subst (λ (y : Result). is_raising y ≡ true) (sym e) refl) j) (wane-so (breaks-stay s x r.order j)))
        broke false z d j = subst (λ (q : Outcome). Wane o.marks q.order.marks j) (sym d) (w.stays (subst (λ (y : Result). is_raising y ≡ true) (sym e) refl) j)
    go leaving e = record { stays = λ d. absurd (false≢true d); rash = λ d. w.rash (subst (λ (y : Result). is_bad y ≡ true) (sym e) refl) }
    go undone e = record { stays = λ d. absurd (false≢true d); rash = λ d. absurd (false≢true d) }
    go (undo_raising x) e = record { stays = λ d. absurd (false≢true d); rash = λ d. absurd (false≢true d) }

undo-drops : (o : Order) (r : Outcome) → Drops o r → Drops o (from_undo r)
unfolding from_undo
undo-drops o r w = go r.result refl
  where
    go : (x : Result) → r.result ≡ x → Drops o (from_undo (record { result = x; order = r.order; log = r.log }))
    go running e = record { stays = λ d. absurd (false≢true d); rash = λ d. absurd (false≢true d) }
    go over e = record { stays = λ d. absurd (false≢true d); rash = λ d. absurd (false≢true d) }
    go (raising x) e = record { stays = λ d. w.stays (subst (λ (y : Result). is_raising y ≡ true) (sym e) refl); rash = λ d. w.rash (subst (λ (y : Result). is_bad y ≡ true) (sym e) refl) }
    go leaving e = record { stays = λ d. absurd (false≢true d); rash = λ d. w.rash (subst (λ (y : Result). is_bad y ≡ true) (sym e) refl) }
    go undone e = record { stays = λ d. absurd (false≢true d); rash = λ d. absurd (false≢true d) }
    go (undo_raising x) e = record { stays = λ d. w.stays (subst (λ (y : Result). is_raising y ≡ true) (sym e) refl); rash = λ d. w.rash (subst (λ (y : Result). is_bad y ≡ true) (sym e) refl) }

combines-drops : (own : Own) (within : Acts) (k t : ℕ) (o : Order) (r : Outcome) → Drops o r → Drops o (combines own within k t r)
unfolding combines in_scope
combines-drops empty within k t o r w = w
combines-drops (send a b vs) within k t o r w = w
combines-drops (receive a b vs) within k t o r w = w
combines-drops (setting v e) within k t o r w = w
combines-drops (raise number) within k t o r w = w
combines-drops leave within k t o r w = w
combines-drops (choose e) within k t o r w = on-drops o k inside (finishes k) r w (mild-finishes k)
combines-drops (repeat e) within k t o r w = on-drops o k inside (again k) r w (mild-again k)
combines-drops sequence within k t o r w = on-drops o k active _ r w (λ q. mild-follows within k t q)
combines-drops flow within k t o r w = on-drops o k active (joins k within) r w (λ q. mild-joins k within q)
combines-drops pick within k t o r w = on-drops o k inside (finishes k) r w (mild-finishes k)
combines-drops (scope xs v) within k t o r w =
    drops-either o (ltb t (part_at 1 within (k + 1))) (elim (goes_through v k r) [ true ↦ r | false ↦ from_body (scope_at xs k within) r ]) (elim (ltb t (part_at (undo_part xs) within (k + 1))) [ true ↦ from_fault (scope_at xs k within) r | false ↦ from_undo r ]) _ refl
    (drops-either o (goes_through v k r) r (from_body (scope_at xs k within) r) _ refl w (body-drops (scope_at xs k within) o r w))
    (drops-either o (ltb t (part_at (undo_part xs) within (k + 1))) (from_fault (scope_at xs k within) r) (from_undo r) _ refl (fault-drops (scope_at xs k within) o r w) (undo-drops o r w))
combines-drops (arm a b vs) within k t o r w = w

-- what acts: the activity itself, or a raise in its place
performs-drops : (actor : Actor) (own : Own) (within : Acts) (q k : ℕ) (o : Order) → Drops o (performs actor own within q k o)
unfolding performs
performs-drops actor own within q k o = drops-either o (replaces actor (kind own)) (raises conflicting_receive k o) (itself own within q k o) _ refl (raises-drops conflicting_receive k o) (itself-drops own within q k o)

-- an arm that acts makes its pick no scope
arms-wane : (own : Own) (within : Acts) (k t : ℕ) (o : Order) (j : ℕ) → Wane o.marks (arms own within k t o).marks j
unfolding arms
arms-wane own within k t o j =
    decide (is_pick own && is_part within (k + 1) t) (λ e. rw e (wane-inside o.marks k j)) (λ e. rw e (wane-so (stay-still o.marks j)))

drops-from : {o q : Order} {r : Outcome} → ((j : ℕ) → Wane o.marks q.marks j) → Drops q r → Drops o r
drops-from f w = record { stays = λ e j. wane-then (f j) (w.stays e j); rash = w.rash }

-- What has happened in a step stays so in what is made of it.
module _ (h : Event → Bool) where
  more-has : (l m : List Event) → some h l ≡ true → some h (l ++ m) ≡ true
  more-has l m e = some-append h l m ∙ rw e

  pub where-has : (g : Order → Outcome) (r : Outcome) → some h r.log ≡ true → some h (where_over g r).log ≡ true
  where-has g r e = go r.result
    where
      go : (x : Result) → some h (where_over g (record { result = x; order = r.order; log = r.log })).log ≡ true
      go running = e
      go over = more-has r.log (g r.order).log e
      go (raising x) = e
      go leaving = e
      go undone = e
      go (undo_raising x) = e

  on-has : (k m : ℕ) (g : Order → Outcome) (r : Outcome) → some h r.log ≡ true → some h (goes_on k m g r).log ≡ true
  unfolding goes_on
  on-has k m g r e = where-has (λ q. elim (eqb (mark_at k q) m) [ true ↦ g q | false ↦ runs q ]) r e

  pub body_has : (s : Scope) (r : Outcome) → some h r.log ≡ true → some h (from_body s r).log ≡ true
  unfolding from_body
  body_has s r e = go r.result
    where
      go : (x : Result) → some h (from_body s (record { result = x; order = r.order; log = r.log })).log ≡ true
      go running = more-has r.log (looks_again s r.order).log e
      go over = more-has r.log (body_over s r.order).log e
      go (raising x) = more-has r.log (body_raised x s r.order).log e
      go leaving = e
      go undone = more-has r.log (undo_over s r.order).log e
      go (undo_raising x) = more-has r.log (undo_raised x s r.order).log e

  pub fault-has : (s : Scope) (r : Outcome) → some h r.log ≡ true → some h (from_fault s r).log ≡ true
  unfolding from_fault
  fault-has s r e = go r.result
    where
      go : (x : Result) → some h (from_fault s (record { result = x; order = r.order; log = r.log })).log ≡ true
      go running = e
      go over = more-has r.log (part_over s r.order).log e
      go (raising x) = more-has r.log (part_raised x s r.order).log e
      go leaving = e
      go undone = e
      go (undo_raising x) = e

  has_either : (v : Bool) (x y z : Outcome) → z ≡ elim v [ true ↦ x | false ↦ y ] → some h x.log ≡ true → some h y.log ≡ true → some h z.log ≡ true
  has_either true x y z e a b = subst (λ (r : Outcome). some h r.log ≡ true) (sym e) a
  has_either false x y z e a b = subst (λ (r : Outcome). some h r.log ≡ true) (sym e) b

  pub combines-has : (own : Own) (within : Acts) (k t : ℕ) (r : Outcome) → some h r.log ≡ true → some h (combines own within k t r).log ≡ true
  unfolding combines in_scope from_undo
  combines-has empty within k t r e = e
  combines-has (send a b vs) within k t r e = e
  combines-has (receive a b vs) within k t r e = e
  combines-has (setting v x) within k t r e = e
  combines-has (raise number) within k t r e = e
  combines-has leave within k t r e = e
  combines-has (choose x) within k t r e = on-has k inside (finishes k) r e
  combines-has (repeat x) within k t r e = on-has k inside (again k) r e
  combines-has sequence within k t r e = on-has k active (λ o. where_over (finishes k) (begun_in o (begin_after within (k + 1) t o.marks))) r e
  combines-has flow within k t r e = on-has k active (joins k within) r e
  combines-has pick within k t r e = on-has k inside (finishes k) r e
  combines-has (scope xs v) within k t r e =
      has_either (ltb t (part_at 1 within (k + 1))) (elim (goes_through v k r) [ true ↦ r | false ↦ from_body (scope_at xs k within) r ]) (elim (ltb t (part_at (undo_part xs) within (k + 1))) [ true ↦ from_fault (scope_at xs k within) r | false ↦ from_undo r ]) _ refl
      (has_either (goes_through v k r) r (from_body (scope_at xs k within) r) _ refl e (body_has (scope_at xs k within) r e))
      (has_either (ltb t (part_at (undo_part xs) within (k + 1))) (from_fault (scope_at xs k within) r) (from_undo r) _ refl (fault-has (scope_at xs k within) r e) e)
  combines-has (arm a b vs) within k t r e = e

-- where none is rash with more, none was
pub calmer : (l m : List Event) → (some is_rash l ≡ true → some is_rash m ≡ true) → some is_rash m ≡ false → some is_rash l ≡ false
calmer l m f e = decide (some is_rash l) (λ d. absurd (false≢true (sym e ∙ f d))) (λ d. d)

pub not-bad : (o : Order) (r : Outcome) → Drops o r → some is_rash r.log ≡ false → is_bad r.result ≡ false
not-bad o r w e = decide (is_bad r.result) (λ d. absurd (false≢true (sym e ∙ w.rash d))) (λ d. d)

module _ (f : ℕ → ℕ) (t : ℕ) where
  mutual
    unfolding step_in

    pub step-drops : (actor : Actor) {a : Act} {k : ℕ} → Knows f a k → (q : ℕ) (o : Order) → Drops o (step_in actor a q k t o)
    step-drops actor (knows {own} {within} {k} e n r y) q o =
        drops-either o (eqb k t) (performs actor own within q k o) (combines own within k t (step_among actor within (is_scope own) q (k + 1) t (arms own within k t o))) _ refl (performs-drops actor own within q k o)
        (combines-drops own within k t o (step_among actor within (is_scope own) q (k + 1) t (arms own within k t o)) (drops-from (arms-wane own within k t o) (among-drops actor y (is_scope own) q (arms own within k t o))))

    pub among-drops : (actor : Actor) {l : Acts} {c : ℕ} → KnowsIn f l c → (v : Bool) (q : ℕ) (o : Order) → Drops o (step_among actor l v q c t o)
    among-drops actor knows-none v q o = mild-drops o (runs o) refl
    among-drops actor (knows_more {a} {l} {c} x y) v q o =
        drops-either o (ltb t (c + size a)) (step_in actor a (cond v c q) c t o) (step_among actor l v q (c + size a) t o) _ refl (step-drops actor x (cond v c q) o) (among-drops actor y v q o)

  -- from the root
  pub root-drops : (actor : Actor) (p : Plan) → Knows f p.body 0 → Knows f p.fault (size p.body) → (o : Order) → Drops o (step_root actor p t o)
  unfolding step_root
  root-drops actor p kb kf o =
      drops-either o (ltb t (size p.body)) (from_body (root_of p) (step_in actor p.body 0 0 t o)) (from_fault (root_of p) (step_in actor p.fault (size p.body) (size p.body) t o)) (step_root actor p t o) refl
      (body-drops (root_of p) o (step_in actor p.body 0 0 t o) (step-drops actor kb 0 o)) (fault-drops (root_of p) o (step_in actor p.fault (size p.body) (size p.body) t o) (step-drops actor kf (size p.body) o))
