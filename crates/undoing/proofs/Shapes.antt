-- The log of a step by its raise: what follows a raise, and that nothing faults without one. Assumes nothing.
use Prim.Native.Nat.{ℕ, zero, suc, ◌+◌, ◌≤◌, ◌<◌}
use native.Mathlib.Omega.{arith}
use mathlib.Core.Path.{◌≡◌, refl, sym, ap, subst, ◌∙◌}
use mathlib.Core.Bool.{Bool, true, false, cond, not, ◌&&◌, ◌||◌, false≢true, and-false, and-true}
use mathlib.Core.List.{List, [], ◌∷◌, ◌++◌}
use lib.ListN.{length, get_or, set}
use lib.Seq.{get_or-set_other}
use lib.Dec.{eqb, ltb, leb}
use borrow.Author.Tests.{eqb-true, ltb-false, leb-true, leb-false}
use Rattle.plan.specs.Tree.{Own, empty, send, receive, set as setting, raise, leave, choose, repeat, sequence, flow, pick, scope, arm, kind, is_pick, is_scope, Act, act, Acts, none, more, Plan, size, sizes, general_part, count}
use Rattle.order.specs.declared.Order.{Order}
use Rattle.order.specs.declared.End.{End}
use Rattle.order.specs.declared.End.TheVariants.{None, Well, Handled, Failed, Left}
use Rattle.order.specs.Lists.{only, without_last}
use Rattle.order.specs.State.{Name, root, inner, closings, remembering, idle, inside, binding, marked, mark_of, marking, mark_at, with_marks, faulty, halted, active, undoing, withdrawing, handling, done, causing, state_of, going, mark_with, state_in, choice_of}
use Rattle.order.specs.Expression.{conflicting_receive, Value, fault, value, evaluate, is_true}
use Rattle.order.specs.Event.{Event, started, began, closed, faulted, stopped, ended, raised, left}
use Rattle.order.specs.Begin.{Begun, begin, begin_after, begin_part, part, part_at, quiet, cleared}
use Rattle.order.specs.declared.Way.{Way as Result}
use Rattle.order.specs.declared.Way.TheVariants.{Running as running, Over as over, Raising as raising, Leaving as leaving, Undone as undone, UndoRaising as undo_raising}
use Rattle.order.specs.Scope.{Outcome, runs, after, begun_in, where_over, Scope, scope_at, root_of, is_open, inner_runs, closing, begin_undo, start_undo, undo, ends, handle, undoes, turns, stop, faults, breaks, looks_again, body_over, body_raised, undo_over, undo_raised, from_body, part_over, part_raised, from_fault, from_undo, remembered_for, forgetting, is_for, goes_through, choice_for, chosen_part, chosen_at}
use Rattle.order.specs.Acting.{finishes, raises, or_raises, enters, again, repeats, itself, is_part, arms, goes_on, joins, in_scope, combines, step_in, step_among, step_root, end_of, fault_of as fault_number, moved_to, begun_order, Actor, replaces, performs, acted}
use Rattle.undoing.specs.Ties.{is_name, fits, Place, body_of, fault_of, undo_of, name_of, place_in, place_among, place_of, beyond_of, last_of, first_of, beyond_in, last_in, run_at, seen, place_parts}
use Rattle.undoing.proofs.Parts.{decide, both as both_true}
use Rattle.undoing.proofs.Choices.{general-is, general-suc}
use Rattle.undoing.proofs.Orders.{bare, bare_in, Sits, sits-part, sits-scope, SitsIn, sits-none, sits-more, Remedy, remedy, Healers, heals-by, heals-all, Rest, rest-undo, rest-none}
use Rattle.undoing.proofs.Seats.{Seat}
use Rattle.undoing.proofs.Moves.{Before}
use Rattle.undoing.proofs.Breaking.{cleared-kept}
use Rattle.undoing.proofs.Stepping.{scope-performs}
use Rattle.undoing.proofs.Places.{first-of, second-of, parts, place_here, place-within, place-scope, place-first, place-later, parts_first, parts-later}
use Rattle.undoing.proofs.Landing.{Landed, landed, beyond, lands, lands-count, lands-before, lands-after, at_from, lands-step, lands-fault, lands-undo, beyond-after, beyond-step}
use Rattle.undoing.proofs.Aside.{Aside, silent-append, begin-silent, after-silent, part-silent, runs-silent, begin-undo-silent, ends-silent, stop-silent}
use Rattle.undoing.proofs.Sends.{by-send}

-- a raise or a fault
unfoldable pub is_grave : Event → Bool
is_grave started = false
is_grave (began k) = false
is_grave (closed k) = false
is_grave (faulted n x) = true
is_grave (stopped k) = false
is_grave (ended n) = false
is_grave (raised k x) = true
is_grave left = false

-- neither in a log
abbrev pub Calm : List Event → Type 0
Calm l = only is_grave l ≡ []

pub graves-aside : Aside is_grave
unfolding is_grave
graves-aside = record { begins = λ k. refl; stops = λ k. refl; ends = λ n. refl }

-- it runs on, or it is over
abbrev pub is_mild : Result → Bool
is_mild running = true
is_mild over = true
is_mild (raising x) = false
is_mild leaving = false
is_mild undone = false
is_mild (undo_raising x) = false

-- it runs on or is over, and logs neither
pub record Mild (r : Outcome) : Type 0 where
  pub goes : is_mild r.result ≡ true
  pub calm : Calm r.log

pub mild-either : (b : Bool) (x y : Outcome) → Mild x → Mild y → (z : Outcome) → z ≡ elim b [ true ↦ x | false ↦ y ] → Mild z
mild-either true x y h g z e = subst (λ (r : Outcome). Mild r) (sym e) h
mild-either false x y h g z e = subst (λ (r : Outcome). Mild r) (sym e) g

pub mild-where : (g : Order → Outcome) (r : Outcome) → Mild r → ((o : Order) → Mild (g o)) → Mild (where_over g r)
mild-where g r h e = go r.result h.goes
  where
    go : (x : Result) → is_mild x ≡ true → Mild (where_over g (record { result = x; order = r.order; log = r.log }))
    go running m = record { goes = refl; calm = h.calm }
    go over m = record { goes = (e r.order).goes; calm = silent-append is_grave graves-aside r.log (g r.order).log h.calm (e r.order).calm }
    go (raising x) m = absurd (false≢true m)
    go leaving m = absurd (false≢true m)
    go undone m = absurd (false≢true m)
    go (undo_raising x) m = absurd (false≢true m)

pub mild-begun : (o : Order) (b : Begun) → Calm b.log → Mild (begun_in o b)
mild-begun o b h = record { goes = decide b.over (λ e. rw e) (λ e. rw e); calm = h }

pub mild-runs : (o : Order) → Mild (runs o)
mild-runs o = record { goes = refl; calm = runs-silent is_grave graves-aside o }

pub mild-ends : (s : Scope) (o : Order) → Mild (ends s o)
mild-ends s o = record { goes = refl; calm = ends-silent is_grave graves-aside s o }

pub mild-undo : (l : List ℕ) (s : Scope) (o : Order) → Mild (undo l s o)
unfolding undo start_undo only
mild-undo [] s o = record { goes = refl; calm = refl }
mild-undo (e ∷ l) s o =
    let o₁ = remembering (without_last (is_for s) (closings o)) o in
    mild-where (undo l s) (start_undo e s o)
    (mild-begun o₁ (begin_undo s.body s.body_at e o₁.marks) (begin-undo-silent is_grave graves-aside s.body s.body_at e o₁.marks)) (λ o₂. mild-undo l s o₂)

pub mild-handle : (s : Scope) (o : Order) → Mild (handle s o)
unfolding handle
mild-handle s o =
    let o₁ = going s.name handling o in
    let c = choice_of s.name o in
    mild-where (ends s) (begun_in o₁ (begin (chosen_part c s) (chosen_at c s) o₁.marks))
    (mild-begun o₁ (begin (chosen_part c s) (chosen_at c s) o₁.marks) (begin-silent is_grave graves-aside (chosen_part c s) (chosen_at c s) o₁.marks)) (mild-ends s)

pub mild-undoes : (b : Bool) (s : Scope) (o : Order) → Mild (undoes b s o)
unfolding undoes
mild-undoes true s o = let o₁ = going s.name undoing o in mild-where (handle s) (undo (remembered_for s o₁) s o₁) (mild-undo (remembered_for s o₁) s o₁) (mild-handle s)
mild-undoes false s o = let o₁ = marking s.name withdrawing o in mild-where (ends s) (undo (remembered_for s o₁) s o₁) (mild-undo (remembered_for s o₁) s o₁) (mild-ends s)

pub mild-turns : (b : Bool) (s : Scope) (o : Order) → Mild (turns b s o)
unfolding turns
mild-turns b s o = mild-either (inner_runs s.body s.body_at o.marks) (runs o) (undoes b s o) (mild-runs o) (mild-undoes b s o) (turns b s o) refl

pub mild-looks : (s : Scope) (o : Order) → Mild (looks_again s o)
unfolding looks_again
mild-looks s o =
    mild-either (eqb (state_of s.name o) faulty) (turns true s o) (elim (eqb (mark_of s.name o) halted) [ true ↦ turns false s o | false ↦ runs o ]) (mild-turns true s o)
    (mild-either (eqb (mark_of s.name o) halted) (turns false s o) (runs o) (mild-turns false s o) (mild-runs o) (elim (eqb (mark_of s.name o) halted) [ true ↦ turns false s o | false ↦ runs o ]) refl)
    (looks_again s o) refl

pub mild-over : (s : Scope) (o : Order) → Mild (body_over s o)
unfolding body_over
mild-over s o =
    mild-either (eqb (mark_of s.name o) active) (runs (marking s.name done o)) (looks_again s o) (mild-runs (marking s.name done o)) (mild-looks s o) (body_over s o) refl

pub mild-undo-over : (s : Scope) (o : Order) → Mild (undo_over s o)
unfolding undo_over
mild-undo-over s o =
    mild-either (eqb (state_of s.name o) undoing) (undoes true s o) (elim (eqb (mark_of s.name o) withdrawing) [ true ↦ undoes false s o | false ↦ runs o ]) (mild-undoes true s o)
    (mild-either (eqb (mark_of s.name o) withdrawing) (undoes false s o) (runs o) (mild-undoes false s o) (mild-runs o) (elim (eqb (mark_of s.name o) withdrawing) [ true ↦ undoes false s o | false ↦ runs o ]) refl)
    (undo_over s o) refl

pub mild-part-over : (s : Scope) (o : Order) → Mild (part_over s o)
unfolding part_over
mild-part-over s o = mild-either (eqb (state_of s.name o) handling) (ends s o) (runs o) (mild-ends s o) (mild-runs o) (part_over s o) refl

pub mild-finishes : (k : ℕ) (o : Order) → Mild (finishes k o)
unfolding only
mild-finishes k o = record { goes = refl; calm = refl }

pub mild-again : (k : ℕ) (o : Order) → Mild (again k o)
mild-again k o = mild-runs (marked k active o)

pub mild-joins : (k : ℕ) (within : Acts) (o : Order) → Mild (joins k within o)
unfolding joins
mild-joins k within o = mild-either (quiet (k + 1) (sizes within) o.marks) (finishes k o) (runs o) (mild-finishes k o) (mild-runs o) (joins k within o) refl

pub mild-enters : (k : ℕ) (o : Order) (b : Begun) → Calm b.log → Mild (enters k o b)
mild-enters k o b h = mild-where (finishes k) (begun_in (marked k inside o) b) (mild-begun (marked k inside o) b h) (mild-finishes k)

pub mild-repeats : (k : ℕ) (within : Acts) (o : Order) → Mild (repeats k within o)
unfolding repeats
mild-repeats k within o =
    let o₁ = marked k inside (with_marks (cleared (k + 1) (sizes within) o.marks) o) in
    mild-where (again k) (begun_in o₁ (begin_part 0 within (k + 1) o₁.marks)) (mild-begun o₁ (begin_part 0 within (k + 1) o₁.marks) (part-silent is_grave graves-aside 0 within (k + 1) o₁.marks)) (mild-again k)

pub mild-follows : (within : Acts) (k t : ℕ) (o : Order) → Mild (where_over (finishes k) (begun_in o (begin_after within (k + 1) t o.marks)))
mild-follows within k t o =
    mild-where (finishes k) (begun_in o (begin_after within (k + 1) t o.marks)) (mild-begun o (begin_after within (k + 1) t o.marks) (after-silent is_grave graves-aside within (k + 1) t o.marks)) (mild-finishes k)

-- activity t stands in a fault part or an undo part that scope n runs, by which scopes are left running, and m is around n
pub data Handler (p : Plan) (t : ℕ) (φ : Name → Bool) (n m : Name) : Type 0 where
  in-fault : {ns : List Name} {c : Name} → place_of p t ≡ fault_of n ns c → first_of ns c ≡ m → Handler p t φ n m
  in-undo : {ns : List Name} {c : Name} → seen φ (place_of p t) ≡ undo_of n ns c → first_of ns c ≡ m → Handler p t φ n m

-- The log of a step of t: neither a raise nor a fault; a raise and its fault, with one number; a raise, the end of the scope that ran the part, and the fault of
-- the one around, with that number, or none where that one is not open; or a raise lost, where its scope is not as it should be.
pub data Shape (p : Plan) (t : ℕ) (φ : Name → Bool) (o : Order) : List Event → Type 0 where
  shape-calm : {l : List Event} → Calm l → Shape p t φ o l
  shape-fault : {number : ℕ} {n m : Name} {ns : List Name} {l : List Event} → place_of p t ≡ body_of n ns m → Calm l → Shape p t φ o (raised t number ∷ faulted n number ∷ l)
  shape-end-fault : {number : ℕ} {n m : Name} {l : List Event} → Handler p t φ n m → is_name p m ≡ true → is_open (mark_of m o) ≡ true → Calm l → Shape p t φ o (raised t number ∷ ended n ∷ faulted m number ∷ l)
  shape-end : {number k : ℕ} {m : Name} {l : List Event} → Handler p t φ (inner k) m → is_name p m ≡ true → is_open (mark_of m o) ≡ false → Calm l → Shape p t φ o (raised t number ∷ ended (inner k) ∷ l)
  shape-lost : {number : ℕ} {q : Place} {l : List Event} → seen φ (place_of p t) ≡ q → is_name p (name_of q) ≡ true → fits q o ≡ false → Calm l → Shape p t φ o (raised t number ∷ l)

-- what is calm may follow
shape-append : {p : Plan} {t : ℕ} {φ : Name → Bool} {o : Order} {l : List Event} (m : List Event) → Shape p t φ o l → Calm m → Shape p t φ o (l ++ m)
shape-append {l = l} m (shape-calm c) h = shape-calm (silent-append is_grave graves-aside l m c h)
shape-append m (shape-fault {l = l} x c) h = shape-fault x (silent-append is_grave graves-aside l m c h)
shape-append m (shape-end-fault {l = l} x y z c) h = shape-end-fault x y z (silent-append is_grave graves-aside l m c h)
shape-append m (shape-end {l = l} x y z c) h = shape-end x y z (silent-append is_grave graves-aside l m c h)
shape-append m (shape-lost {l = l} x y z c) h = shape-lost x y z (silent-append is_grave graves-aside l m c h)

-- the root, and the marks before k, are as they were
pub record Below (k : ℕ) (o o' : Order) : Type 0 where
  pub marks : (i : ℕ) → i < k → get_or o'.marks i 0 ≡ get_or o.marks i 0
  pub rooted : o'.root ≡ o.root

-- a raise of that number that comes out of an activity in a place
pub data Raise (p : Plan) (t : ℕ) (φ : Name → Bool) (x : ℕ) (q : Place) : List Event → Type 0 where
  raise-here : place_of p t ≡ q → Raise p t φ x q (raised t x ∷ [])
  raise-out : {k : ℕ} → Handler p t φ (inner k) (name_of q) → Raise p t φ x q (raised t x ∷ ended (inner k) ∷ [])

-- what a step in an activity in a place comes to
abbrev pub OutAs : Plan → (t : ℕ) → (φ : Name → Bool) → (bare : Bool) → Place → (k : ℕ) → Order → List Event → Order → Result → Type 0
OutAs p t φ b q k o l o' running = Shape p t φ o l
OutAs p t φ b q k o l o' over = Shape p t φ o l
OutAs p t φ b q k o l o' (raising x) = Raise p t φ x q l × Below k o o' × (b ≡ true → (l ≡ raised t x ∷ []) × (place_of p t ≡ q))
OutAs p t φ b q k o l o' leaving = Shape p t φ o l
OutAs p t φ b q k o l o' undone = Shape p t φ o l
OutAs p t φ b q k o l o' (undo_raising x) = (l ≡ raised t x ∷ []) × (seen φ (place_of p t) ≡ run_at φ (name_of q) (beyond_of q) (last_of q)) × Below k o o' × (b ≡ false)

pub record Out (p : Plan) (t : ℕ) (φ : Name → Bool) (b : Bool) (q : Place) (k : ℕ) (o : Order) (r : Outcome) : Type 0 where
  pub comes : OutAs p t φ b q k o r.log r.order r.result

module _ (p : Plan) (t : ℕ) (φ : Name → Bool) (b : Bool) (q : Place) (k : ℕ) (o : Order) where
  -- what is mild, after a log of its shape
  mild-as : (l : List Event) (r : Outcome) → Shape p t φ o l → Mild r → OutAs p t φ b q k o (l ++ r.log) r.order r.result
  mild-as l r s m = go r.result m.goes
    where
      go : (x : Result) → is_mild x ≡ true → OutAs p t φ b q k o (l ++ r.log) r.order x
      go running e = shape-append r.log s m.calm
      go over e = shape-append r.log s m.calm
      go (raising x) e = absurd (false≢true e)
      go leaving e = absurd (false≢true e)
      go undone e = absurd (false≢true e)
      go (undo_raising x) e = absurd (false≢true e)

  -- what is mild
  out-mild : (r : Outcome) → Mild r → Out p t φ b q k o r
  unfolding only
  out-mild r m = record { comes = mild-as [] r (shape-calm refl) m }

  -- goes on where it is over
  out-where : (g : Order → Outcome) (r : Outcome) → ((o : Order) → Mild (g o)) → Out p t φ b q k o r → Out p t φ b q k o (where_over g r)
  out-where g r m h = go r.result h.comes
    where
      go : (x : Result) → OutAs p t φ b q k o r.log r.order x → Out p t φ b q k o (where_over g (record { result = x; order = r.order; log = r.log }))
      go running c = record { comes = c }
      go over c = record { comes = mild-as r.log (g r.order) c (m r.order) }
      go (raising x) c = record { comes = c }
      go leaving c = record { comes = c }
      go undone c = record { comes = c }
      go (undo_raising x) c = record { comes = c }

  -- and k still has its mark
  out-goes : (m : ℕ) (g : Order → Outcome) (r : Outcome) → ((o : Order) → Mild (g o)) → Out p t φ b q k o r → Out p t φ b q k o (goes_on k m g r)
  unfolding goes_on
  out-goes m g r f h =
      out-where (λ o. elim (eqb (mark_at k o) m) [ true ↦ g o | false ↦ runs o ]) r
      (λ o. mild-either (eqb (mark_at k o) m) (g o) (runs o) (f o) (mild-runs o) (elim (eqb (mark_at k o) m) [ true ↦ g o | false ↦ runs o ]) refl) h

  -- activity k raises, and is t
  out-raises : (n : ℕ) → k ≡ t → place_of p t ≡ q → Out p t φ b q k o (raises n k o)
  out-raises n e l =
      subst (λ (z : ℕ). Out p t φ b q k o (record { result = raising n; order = marked k idle o; log = raised z n ∷ [] })) (sym e)
      (record { comes = (raise-here l, record { marks = λ i x. get_or-set_other o.marks k i idle 0 (omega arith); rooted = refl }, λ x. (refl, l)) })

  -- an expression that faults, or the step itself
  out-or : k ≡ t → place_of p t ≡ q → (g : ℕ → Outcome) (v : Value) → ((n : ℕ) → Mild (g n)) → Out p t φ b q k o (or_raises k o g v)
  out-or e l g (fault x) m = out-raises x e l
  out-or e l g (value n) m = out-mild (g n) (m n)

  -- the step of an activity other than a scope
  out-itself : (own : Own) (within : Acts) (q₀ : ℕ) → is_scope own ≡ false → k ≡ t → place_of p t ≡ q → Out p t φ b q k o (itself own within q₀ k o)
  unfolding itself kind only is_grave
  out-itself empty within q₀ s e l = out-mild (runs o) (mild-runs o)
  out-itself (send x op vs) within q₀ s e l = by-send (Out p t φ b q k o) x op vs within q₀ k o (out-mild (finishes k o) (mild-finishes k o)) (λ n. out-raises n e l)
  out-itself (receive x op vs) within q₀ s e l = out-mild (finishes k o) (mild-finishes k o)
  out-itself (setting v x) within q₀ s e l = out-or e l (λ n. finishes k (binding v n o)) (evaluate x o) (λ n. mild-finishes k (binding v n o))
  out-itself (raise number) within q₀ s e l = out-raises number e l
  out-itself leave within q₀ s e l = record { comes = shape-calm refl }
  out-itself (choose x) within q₀ s e l =
      out-or e l (λ n. enters k o (begin_part (cond (is_true n) 0 1) within (k + 1) (marked k inside o).marks)) (evaluate x o)
      (λ n. mild-enters k o (begin_part (cond (is_true n) 0 1) within (k + 1) (marked k inside o).marks) (part-silent is_grave graves-aside (cond (is_true n) 0 1) within (k + 1) (marked k inside o).marks))
  out-itself (repeat x) within q₀ s e l =
      out-or e l (λ n. elim (is_true n) [ true ↦ repeats k within o | false ↦ finishes k o ]) (evaluate x o)
      (λ n. mild-either (is_true n) (repeats k within o) (finishes k o) (mild-repeats k within o) (mild-finishes k o) (elim (is_true n) [ true ↦ repeats k within o | false ↦ finishes k o ]) refl)
  out-itself sequence within q₀ s e l = out-mild (runs o) (mild-runs o)
  out-itself flow within q₀ s e l = out-mild (runs o) (mild-runs o)
  out-itself pick within q₀ s e l = out-mild (runs o) (mild-runs o)
  out-itself (scope xs v) within q₀ s e l = absurd (false≢true (sym s))
  out-itself (arm x op vs) within q₀ s e l =
      out-mild (begun_in o (begin_part 0 within (k + 1) o.marks)) (mild-begun o (begin_part 0 within (k + 1) o.marks) (part-silent is_grave graves-aside 0 within (k + 1) o.marks))

  -- a raise in its place
  out-performs : (actor : Actor) (own : Own) (within : Acts) (q₀ : ℕ) → is_scope own ≡ false → k ≡ t → place_of p t ≡ q → Out p t φ b q k o (performs actor own within q₀ k o)
  unfolding performs
  out-performs actor own within q₀ s e l = go (replaces actor (kind own))
    where
      go : (v : Bool) → Out p t φ b q k o (elim v [ true ↦ raises conflicting_receive k o | false ↦ itself own within q₀ k o ])
      go true = out-raises conflicting_receive e l
      go false = out-itself own within q₀ s e l

  -- what it makes of a step within it
  out-combines : (own : Own) (within : Acts) (r : Outcome) → is_scope own ≡ false → Out p t φ b q k o r → Out p t φ b q k o (combines own within k t r)
  unfolding combines kind
  out-combines empty within r s h = h
  out-combines (send x op vs) within r s h = h
  out-combines (receive x op vs) within r s h = h
  out-combines (setting v x) within r s h = h
  out-combines (raise number) within r s h = h
  out-combines leave within r s h = h
  out-combines (choose x) within r s h = out-goes inside (finishes k) r (mild-finishes k) h
  out-combines (repeat x) within r s h = out-goes inside (again k) r (mild-again k) h
  out-combines sequence within r s h = out-goes active (λ o. where_over (finishes k) (begun_in o (begin_after within (k + 1) t o.marks))) r (mild-follows within k t) h
  out-combines flow within r s h = out-goes active (joins k within) r (mild-joins k within) h
  out-combines pick within r s h = out-goes inside (finishes k) r (mild-finishes k) h
  out-combines (scope xs v) within r s h = absurd (false≢true (sym s))
  out-combines (arm x op vs) within r s h = h

-- What a scope makes of a step in it. Its name stands before the number of its body.
record Scoped (p : Plan) (s : Scope) : Type 0 where
  before : Before s.name s.body_at
  name : is_name p s.name ≡ true

-- it keeps its mark
mark-below : (n : Name) (c : ℕ) (o o' : Order) → Before n c → Below c o o' → mark_of n o' ≡ mark_of n o
mark-below root c o o' h g = g.rooted
mark-below (inner k) c o o' h g = g.marks k h

-- a raise in its parts ends it
data Ended (p : Plan) (t : ℕ) (φ : Name → Bool) (s : Scope) (m : Name) (o : Order) (x : ℕ) : List Event → Order → Type 0 where
  ended_so : {o₁ : Order} → Handler p t φ s.name m → is_open (mark_of s.name o) ≡ false → Below s.body_at o o₁
      → Ended p t φ s m o x (raised t x ∷ ended s.name ∷ []) (breaks x s o₁).order

abbrev ScopeAs : Plan → (t : ℕ) → (φ : Name → Bool) → Scope → Name → Order → List Event → Order → Result → Type 0
ScopeAs p t φ s m o l o' running = Shape p t φ o l
ScopeAs p t φ s m o l o' over = Shape p t φ o l
ScopeAs p t φ s m o l o' (raising x) = Ended p t φ s m o x l o'
ScopeAs p t φ s m o l o' leaving = Shape p t φ o l
ScopeAs p t φ s m o l o' undone = ⊥
ScopeAs p t φ s m o l o' (undo_raising x) = ⊥

record ScopeOut (p : Plan) (t : ℕ) (φ : Name → Bool) (s : Scope) (m : Name) (o : Order) (r : Outcome) : Type 0 where
  comes : ScopeAs p t φ s m o r.log r.order r.result

-- a fault came out of an undo part
abbrev is_out : Result → Bool
is_out running = false
is_out over = false
is_out (raising x) = false
is_out leaving = false
is_out undone = false
is_out (undo_raising x) = true

-- where it is run: past a scope that is not left, where there is none beyond, and where the scope is left
run_past : (φ : Name → Bool) (n x : Name) (xs : List Name) (c : Name) → φ n ≡ false → run_at φ n (x ∷ xs) c ≡ run_at φ x xs c
unfolding run_at
run_past φ n x xs c e = rw e

run_none : (φ : Name → Bool) (n c : Name) → run_at φ n [] c ≡ undo_of n [] c
unfolding run_at
run_none φ n c = refl

run-here : (φ : Name → Bool) (n x : Name) (xs : List Name) (c : Name) → φ n ≡ true → run_at φ n (x ∷ xs) c ≡ undo_of n (x ∷ xs) c
unfolding run_at
run-here φ n x xs c e = rw e

-- a mark that is one of these is not that of an open scope
undoes-not-open : (m : ℕ) → (eqb (state_in m) undoing || eqb m withdrawing) ≡ true → is_open m ≡ false
undoes-not-open m e =
    decide (eqb m active) (λ d. absurd (false≢true (rw (eqb-true m active d) at e)))
    (λ d. decide (eqb m done) (λ c. absurd (false≢true (rw (eqb-true m done c) at e))) (λ c. rw (d, c)))

heals-not-open : (m : ℕ) → eqb (state_in m) handling ≡ true → is_open m ≡ false
heals-not-open m e =
    decide (eqb m active) (λ d. absurd (false≢true (rw (eqb-true m active d) at e)))
    (λ d. decide (eqb m done) (λ c. absurd (false≢true (rw (eqb-true m done c) at e))) (λ c. rw (d, c)))

module _ (p : Plan) (t : ℕ) (φ : Name → Bool) (s : Scope) (m : Name) (o : Order) (h : Scoped p s) where
  scope-mild : (l : List Event) (r : Outcome) → Shape p t φ o l → Mild r → ScopeOut p t φ s m o (after l r)
  scope-mild l r g e = record { comes = go r.result e.goes }
    where
      go : (x : Result) → is_mild x ≡ true → ScopeAs p t φ s m o (l ++ r.log) r.order x
      go running d = shape-append r.log g e.calm
      go over d = shape-append r.log g e.calm
      go (raising x) d = absurd (false≢true d)
      go leaving d = absurd (false≢true d)
      go undone d = absurd (false≢true d)
      go (undo_raising x) d = absurd (false≢true d)

  -- the result of what is mild
  scope-result : (l : List Event) (r : Outcome) → is_mild r.result ≡ true → Shape p t φ o l → ScopeOut p t φ s m o (record { result = r.result; order = r.order; log = l })
  scope-result l r d g = record { comes = go r.result d }
    where
      go : (x : Result) → is_mild x ≡ true → ScopeAs p t φ s m o l r.order x
      go running d = g
      go over d = g
      go (raising x) d = absurd (false≢true d)
      go leaving d = absurd (false≢true d)
      go undone d = absurd (false≢true d)
      go (undo_raising x) d = absurd (false≢true d)

  -- the scope faults
  faults-out : {x : ℕ} {ns : List Name} {c : Name} (l : List Event) (o₁ : Order) → is_open (mark_of s.name o) ≡ true → Raise p t φ x (body_of s.name ns c) l → ScopeOut p t φ s m o (after l (faults x s o₁))
  unfolding faults
  faults-out {x} {ns} {c} l o₁ n g =
      let o₂ = causing s.name x (marking s.name (mark_with (choice_for x s) faulty) o₁) in
      let r = stop s.body s.body_at o₂ in
      let e = mild-turns true s r.order in
      scope-result (l ++ ((faulted s.name x ∷ r.log) ++ (turns true s r.order).log)) (turns true s r.order) e.goes
      (go l g (r.log ++ (turns true s r.order).log)
      (silent-append is_grave graves-aside r.log (turns true s r.order).log (stop-silent is_grave graves-aside s.body s.body_at o₂) e.calm))
    where
      go : (l : List Event) → Raise p t φ x (body_of s.name ns c) l → (k : List Event) → Calm k → Shape p t φ o (l ++ (faulted s.name x ∷ k))
      go _ (raise-here y) k e = shape-fault y e
      go _ (raise-out y) k e = shape-end-fault y h.name n e

  -- it does not, as it is not open
  looks-out : {x : ℕ} {ns : List Name} {c : Name} (l : List Event) (o₁ : Order) → is_open (mark_of s.name o) ≡ false → Raise p t φ x (body_of s.name ns c) l → ScopeOut p t φ s m o (after l (looks_again s o₁))
  looks-out {x} {ns} {c} l o₁ n g =
      let e = mild-looks s o₁ in
      scope-result (l ++ (looks_again s o₁).log) (looks_again s o₁) e.goes (go l g (looks_again s o₁).log e.calm)
    where
      go : (l : List Event) → Raise p t φ x (body_of s.name ns c) l → (k : List Event) → Calm k → Shape p t φ o (l ++ k)
      go _ (raise-here y) k e = shape-lost (ap (seen φ) y) h.name n e
      go _ (raise-out y) k e = shape-end y h.name n e

  -- a step in its body
  body-out : {ns : List Name} {c₀ : Name} (b : Bool) (r : Outcome) → first_of ns c₀ ≡ m → (is_out r.result ≡ true → Below s.body_at o r.order → run_at φ s.name ns c₀ ≡ undo_of s.name ns c₀)
      → Out p t φ b (body_of s.name ns c₀) s.body_at o r → ScopeOut p t φ s m o (from_body s r)
  unfolding from_body body_raised undo_raised breaks only
  body-out {ns} {c₀} b r y here w = go r.result refl w.comes
    where
      o₁ : Order
      o₁ = r.order

      so : {x : ℕ} (b : Bool) → is_open (mark_of s.name o₁) ≡ b → Raise p t φ x (body_of s.name ns c₀) r.log → Below s.body_at o o₁
          → ScopeOut p t φ s m o (after r.log (elim b [ true ↦ faults x s o₁ | false ↦ looks_again s o₁ ]))
      so true e g k = faults-out r.log o₁ (ap is_open (sym (mark-below s.name s.body_at o o₁ h.before k)) ∙ e) g
      so false e g k = looks-out r.log o₁ (ap is_open (sym (mark-below s.name s.body_at o o₁ h.before k)) ∙ e) g

      un : {x : ℕ} (b : Bool) (l : List Event) → (eqb (state_of s.name o₁) undoing || eqb (mark_of s.name o₁) withdrawing) ≡ b → l ≡ raised t x ∷ [] → seen φ (place_of p t) ≡ undo_of s.name ns c₀
          → Below s.body_at o o₁ → ScopeOut p t φ s m o (after l (elim b [ true ↦ breaks x s o₁ | false ↦ runs o₁ ]))
      un {x} true l e d g k =
          subst (λ (z : List Event). ScopeOut p t φ s m o (after z (breaks x s o₁))) (sym d)
          (record { comes = ended_so (in-undo g y) (ap is_open (sym (mark-below s.name s.body_at o o₁ h.before k)) ∙ undoes-not-open (mark_of s.name o₁) e) k })
      un false l e d g k =
          subst (λ (z : List Event). ScopeOut p t φ s m o (after z (runs o₁))) (sym d)
          (record { comes = shape-lost g h.name (ap (λ (x : ℕ). eqb (state_in x) undoing || eqb x withdrawing) (sym (mark-below s.name s.body_at o o₁ h.before k)) ∙ e) refl })

      go : (x : Result) → r.result ≡ x → OutAs p t φ b (body_of s.name ns c₀) s.body_at o r.log o₁ x → ScopeOut p t φ s m o (from_body s (record { result = x; order = o₁; log = r.log }))
      go running z c = scope-mild r.log (looks_again s o₁) c (mild-looks s o₁)
      go over z c = scope-mild r.log (body_over s o₁) c (mild-over s o₁)
      go (raising x) z c = so (is_open (mark_of s.name o₁)) refl c.0 c.1
      go leaving z c = record { comes = c }
      go undone z c = scope-mild r.log (undo_over s o₁) c (mild-undo-over s o₁)
      go (undo_raising x) z c = un (eqb (state_of s.name o₁) undoing || eqb (mark_of s.name o₁) withdrawing) r.log refl c.0 (c.1 ∙ here (ap is_out z) c.2) c.2

  -- a step in a fault part, which has the number j
  fault-out : {ns : List Name} {c₀ : Name} (j : ℕ) (r : Outcome) → first_of ns c₀ ≡ m → s.body_at ≤ j → Out p t φ true (fault_of s.name ns c₀) j o r → ScopeOut p t φ s m o (from_fault s r)
  unfolding from_fault part_raised breaks only
  fault-out {ns} {c₀} j r y f w = go r.result w.comes
    where
      o₁ : Order
      o₁ = r.order

      un : {x : ℕ} (b : Bool) (l : List Event) → eqb (state_of s.name o₁) handling ≡ b → l ≡ raised t x ∷ [] → place_of p t ≡ fault_of s.name ns c₀
          → Below s.body_at o o₁ → ScopeOut p t φ s m o (after l (elim b [ true ↦ breaks x s o₁ | false ↦ runs o₁ ]))
      un {x} true l e d g k =
          subst (λ (z : List Event). ScopeOut p t φ s m o (after z (breaks x s o₁))) (sym d)
          (record { comes = ended_so (in-fault g y) (ap is_open (sym (mark-below s.name s.body_at o o₁ h.before k)) ∙ heals-not-open (mark_of s.name o₁) e) k })
      un false l e d g k =
          subst (λ (z : List Event). ScopeOut p t φ s m o (after z (runs o₁))) (sym d)
          (record { comes = shape-lost (ap (seen φ) g) h.name (ap (λ (x : ℕ). eqb (state_in x) handling) (sym (mark-below s.name s.body_at o o₁ h.before k)) ∙ e) refl })

      go : (x : Result) → OutAs p t φ true (fault_of s.name ns c₀) j o r.log o₁ x → ScopeOut p t φ s m o (from_fault s (record { result = x; order = o₁; log = r.log }))
      go running c = record { comes = c }
      go over c = scope-mild r.log (part_over s o₁) c (mild-part-over s o₁)
      go (raising n) c =
          un (eqb (state_of s.name o₁) handling) r.log refl (c.2 refl).0 (c.2 refl).1
          (record { marks = λ i x. c.1.marks i (omega arith); rooted = c.1.rooted })
      go leaving c = record { comes = c }
      go undone c = record { comes = c }
      go (undo_raising x) c = absurd (false≢true (sym c.3))

-- Up the tree.

-- the same in a wider stretch, and with no scope only where there was none
out-wider : (p : Plan) (t : ℕ) (φ : Name → Bool) (b b' : Bool) (q : Place) (k k' : ℕ) (o : Order) (r : Outcome) → k ≤ k' → (b ≡ true → b' ≡ true) → Out p t φ b' q k' o r → Out p t φ b q k o r
out-wider p t φ b b' q k k' o r h f w = record { comes = go r.result w.comes }
  where
    below : Below k' o r.order → Below k o r.order
    below g = record { marks = λ i x. g.marks i (omega arith); rooted = g.rooted }

    go : (x : Result) → OutAs p t φ b' q k' o r.log r.order x → OutAs p t φ b q k o r.log r.order x
    go running c = c
    go over c = c
    go (raising x) c = (c.0, below c.1, λ e. c.2 (f e))
    go leaving c = c
    go undone c = c
    go (undo_raising x) c = (c.0, c.1, below c.2, decide b (λ e. absurd (false≢true (sym c.3 ∙ f e))) (λ e. e))

-- a mark that is no scope's says nothing
mark-plain : (p : Plan) (n : Name) (k v : ℕ) (o : Order) → is_name p (inner k) ≡ false → is_name p n ≡ true → mark_of n (marked k v o) ≡ mark_of n o
mark-plain p root k v o e i = refl
mark-plain p (inner j) k v o e i =
    get_or-set_other o.marks k j v 0 (λ d. false≢true (sym e ∙ subst (λ (z : ℕ). is_name p (inner z) ≡ true) d i))

shape-marked : (p : Plan) (t : ℕ) (φ : Name → Bool) (k v : ℕ) (o : Order) {l : List Event} → is_name p (inner k) ≡ false → Shape p t φ (marked k v o) l → Shape p t φ o l
shape-marked p t φ k v o e (shape-calm c) = shape-calm c
shape-marked p t φ k v o e (shape-fault x c) = shape-fault x c
shape-marked p t φ k v o e (shape-end-fault {n} {m} x y z c) = shape-end-fault x y (ap is_open (sym (mark-plain p m k v o e y)) ∙ z) c
shape-marked p t φ k v o e (shape-end {m = m} x y z c) = shape-end x y (ap is_open (sym (mark-plain p m k v o e y)) ∙ z) c
shape-marked p t φ k v o e (shape-lost {q} x y z c) = shape-lost x y (fits-marked q y ∙ z) c
  where
    fits-marked : (q : Place) → is_name p (name_of q) ≡ true → fits q o ≡ fits q (marked k v o)
    fits-marked (body_of n ns m) i = ap is_open (sym (mark-plain p n k v o e i))
    fits-marked (fault_of n ns m) i = ap (λ (x : ℕ). eqb (state_in x) handling) (sym (mark-plain p n k v o e i))
    fits-marked (undo_of n ns m) i = ap (λ (x : ℕ). eqb (state_in x) undoing || eqb x withdrawing) (sym (mark-plain p n k v o e i))

out-marked : (p : Plan) (t : ℕ) (φ : Name → Bool) (b : Bool) (q : Place) (k v : ℕ) (o : Order) (r : Outcome) → is_name p (inner k) ≡ false → Out p t φ b q k (marked k v o) r → Out p t φ b q k o r
out-marked p t φ b q k v o r e w = record { comes = go r.result w.comes }
  where
    below : Below k (marked k v o) r.order → Below k o r.order
    below g = record { marks = λ i x. g.marks i x ∙ get_or-set_other o.marks k i v 0 (omega arith); rooted = g.rooted }

    go : (x : Result) → OutAs p t φ b q k (marked k v o) r.log r.order x → OutAs p t φ b q k o r.log r.order x
    go running c = shape-marked p t φ k v o e c
    go over c = shape-marked p t φ k v o e c
    go (raising x) c = (c.0, below c.1, c.2)
    go leaving c = shape-marked p t φ k v o e c
    go undone c = shape-marked p t φ k v o e c
    go (undo_raising x) c = (c.0, c.1, below c.2, c.3)

out-arms : (p : Plan) (t : ℕ) (φ : Name → Bool) (b : Bool) (q : Place) (own : Own) (within : Acts) (k : ℕ) (o : Order) (r : Outcome) → is_name p (inner k) ≡ false
    → Out p t φ b q k (arms own within k t o) r → Out p t φ b q k o r
unfolding arms
out-arms p t φ b q own within k o r e =
    decide (is_pick own && is_part within (k + 1) t) (λ d. rw d (out-marked p t φ b q k inside o r e)) (λ d. rw d (λ w. w))

-- the definitions, by where the step is
step-here : (actor : Actor) (own : Own) (within : Acts) (q₀ k t : ℕ) (o : Order) → eqb k t ≡ true → step_in actor (act own within) q₀ k t o ≡ performs actor own within q₀ k o
unfolding step_in
step-here actor own within q₀ k t o e =
    first-of (eqb k t) (performs actor own within q₀ k o) (combines own within k t (step_among actor within (is_scope own) q₀ (k + 1) t (arms own within k t o))) (step_in actor (act own within) q₀ k t o) refl e

step-within : (actor : Actor) (own : Own) (within : Acts) (q₀ k t : ℕ) (o : Order) → eqb k t ≡ false
    → step_in actor (act own within) q₀ k t o ≡ combines own within k t (step_among actor within (is_scope own) q₀ (k + 1) t (arms own within k t o))
unfolding step_in
step-within actor own within q₀ k t o e =
    second-of (eqb k t) (performs actor own within q₀ k o) (combines own within k t (step_among actor within (is_scope own) q₀ (k + 1) t (arms own within k t o))) (step_in actor (act own within) q₀ k t o) refl e

among_first : (actor : Actor) (a : Act) (l : Acts) (v : Bool) (q₀ c t : ℕ) (o : Order) → ltb t (c + size a) ≡ true → step_among actor (more a l) v q₀ c t o ≡ step_in actor a (cond v c q₀) c t o
unfolding step_in
among_first actor a l v q₀ c t o e = first-of (ltb t (c + size a)) (step_in actor a (cond v c q₀) c t o) (step_among actor l v q₀ (c + size a) t o) (step_among actor (more a l) v q₀ c t o) refl e

among_later : (actor : Actor) (a : Act) (l : Acts) (v : Bool) (q₀ c t : ℕ) (o : Order) → ltb t (c + size a) ≡ false → step_among actor (more a l) v q₀ c t o ≡ step_among actor l v q₀ (c + size a) t o
unfolding step_in
among_later actor a l v q₀ c t o e = second-of (ltb t (c + size a)) (step_in actor a (cond v c q₀) c t o) (step_among actor l v q₀ (c + size a) t o) (step_among actor (more a l) v q₀ c t o) refl e

-- the first of some has the first number
at_first : (u : Acts) (c : ℕ) → part_at 0 u c ≡ c
unfolding part_at
at_first none c = refl
at_first (more a l) c = refl

-- which scopes are left running, as an order's marks say of the plan's scopes
abbrev pub Agrees : Plan → (Name → Bool) → Order → Type 0
Agrees p φ o = (n : Name) → is_name p n ≡ true → φ n ≡ not (eqb (mark_of n o) idle)

agrees-arms : (p : Plan) (φ : Name → Bool) (own : Own) (within : Acts) (k t : ℕ) (o : Order) → is_name p (inner k) ≡ false → Agrees p φ o → Agrees p φ (arms own within k t o)
unfolding arms
agrees-arms p φ own within k t o e g n i =
    decide (is_pick own && is_part within (k + 1) t) (λ d. rw d (g n i ∙ ap (λ (x : ℕ). not (eqb x idle)) (sym (mark-plain p n k inside o e i)))) (λ d. rw d (g n i))

-- an activity other than a scope
part_out : (actor : Actor) (p : Plan) (t : ℕ) (φ : Name → Bool) (q : Place) (own : Own) (within : Acts) (q₀ k : ℕ) (o : Order) → is_scope own ≡ false → is_name p (inner k) ≡ false
    → place_of p t ≡ place_in (act own within) k t q
    → Agrees p φ o → ((o : Order) → Agrees p φ o → place_of p t ≡ place_among within (k + 1) t q → Out p t φ (bare_in within) q (k + 1) o (step_among actor within (is_scope own) q₀ (k + 1) t o))
    → Out p t φ (bare (act own within)) q k o (step_in actor (act own within) q₀ k t o)
unfolding bare
part_out actor p t φ q own within q₀ k o s n l g f =
    decide (eqb k t)
    (λ e. subst (λ (r : Outcome). Out p t φ (not (is_scope own) && bare_in within) q k o r) (sym (step-here actor own within q₀ k t o e))
    (out-performs p t φ _ q k o actor own within q₀ s (eqb-true k t e) (l ∙ place_here own within k t q e)))
    (λ e. subst (λ (r : Outcome). Out p t φ (not (is_scope own) && bare_in within) q k o r) (sym (step-within actor own within q₀ k t o e))
    (out-combines p t φ _ q k o own within (step_among actor within (is_scope own) q₀ (k + 1) t (arms own within k t o)) s
    (out-arms p t φ _ q own within k o (step_among actor within (is_scope own) q₀ (k + 1) t (arms own within k t o)) n
    (out-wider p t φ _ (bare_in within) q k (k + 1) (arms own within k t o) _ (omega arith) (λ d. both_true (not (is_scope own)) (bare_in within) d (λ x y. y))
    (f (arms own within k t o) (agrees-arms p φ own within k t o n g) (l ∙ place-within own within k t q e s))))))

-- a list
among-out : (actor : Actor) (p : Plan) (t : ℕ) (φ : Name → Bool) (q : Place) (a : Act) (m : Acts) (v : Bool) (q₀ c : ℕ) (o : Order) → place_of p t ≡ place_among (more a m) c t q
    → (place_of p t ≡ place_in a c t q → Out p t φ (bare a) q c o (step_in actor a (cond v c q₀) c t o))
    → (place_of p t ≡ place_among m (c + size a) t q → Out p t φ (bare_in m) q (c + size a) o (step_among actor m v q₀ (c + size a) t o))
    → Out p t φ (bare_in (more a m)) q c o (step_among actor (more a m) v q₀ c t o)
unfolding bare
among-out actor p t φ q a m v q₀ c o l f g =
    decide (ltb t (c + size a))
    (λ e. subst (λ (r : Outcome). Out p t φ (bare a && bare_in m) q c o r) (sym (among_first actor a m v q₀ c t o e))
    (out-wider p t φ _ (bare a) q c c o (step_in actor a (cond v c q₀) c t o) (omega arith) (λ d. both_true (bare a) (bare_in m) d (λ x y. x)) (f (l ∙ place-first a m c t q e))))
    (λ e. subst (λ (r : Outcome). Out p t φ (bare a && bare_in m) q c o r) (sym (among_later actor a m v q₀ c t o e))
    (out-wider p t φ _ (bare_in m) q c (c + size a) o (step_among actor m v q₀ (c + size a) t o) (omega arith) (λ d. both_true (bare a) (bare_in m) d (λ x y. y)) (g (l ∙ place-later a m c t q e))))

-- A scope in a place.
module _ (p : Plan) (t : ℕ) (φ : Name → Bool) (q : Place) (xs : List ℕ) (z₀ : Bool) (b : Act) (ps : Acts) (q₀ k : ℕ) (o : Order) where
  -- what its name and its body are
  scoped : is_name p (inner k) ≡ true → Scoped p (scope_at xs k (more b ps))
  unfolding part part_at
  scoped n = record { before = omega arith; name = n }

  -- it comes to this where it stands
  scope-as : (r : Outcome) → ScopeOut p t φ (scope_at xs k (more b ps)) (name_of q) o r → Out p t φ false q k o r
  unfolding part part_at breaks forgetting
  scope-as r w = record { comes = go r.log r.order r.result w.comes }
    where
      go : (l : List Event) (o' : Order) (x : Result) → ScopeAs p t φ (scope_at xs k (more b ps)) (name_of q) o l o' x → OutAs p t φ false q k o l o' x
      go l o' running c = c
      go l o' over c = c
      go _ _ (raising y) (ended_so {o₁} g n d) = (
        raise-out g,
        record {
          marks = λ i x. (cleared-kept (1 + sizes (more b ps)) k (set o₁.marks k idle)).below i x ∙ (get_or-set_other o₁.marks k i idle 0 (omega arith) ∙ d.marks i (omega arith));
          rooted = d.rooted;
        },
        (λ e. absurd (false≢true e)),
      )
      go l o' leaving c = c
      go l o' undone c = absurd c
      go l o' (undo_raising x) c = absurd c

  -- its undo part, which a scope around it runs
  undo-as : (c : ℕ) (r : Outcome) → k ≤ c → Out p t φ true (undo_of (name_of q) (beyond_of q) (last_of q)) c o r → Out p t φ false q k o (from_undo r)
  unfolding from_undo
  undo-as c r h w = record { comes = go r.result w.comes }
    where
      go : (x : Result) → OutAs p t φ true (undo_of (name_of q) (beyond_of q) (last_of q)) c o r.log r.order x
          → OutAs p t φ false q k o r.log r.order (from_undo (record { result = x; order = r.order; log = r.log })).result
      go running d = d
      go over d = d
      go (raising n) d = ((d.2 refl).0, ap (seen φ) (d.2 refl).1, record { marks = λ i x. d.1.marks i (omega arith); rooted = d.1.rooted }, refl)
      go leaving d = d
      go undone d = d
      go (undo_raising x) d = absurd (false≢true (sym d.3))

  -- what goes through it comes to the same where it stands
  through-as : (r : Outcome) → goes_through z₀ k r ≡ true → is_name p (inner k) ≡ true → Agrees p φ o → Out p t φ (bare b) (body_of (inner k) (beyond_in z₀ q) (last_in z₀ q)) (k + 1) o r → Out p t φ false q k o r
  unfolding goes_through
  through-as r g n a w = record { comes = go z₀ r.result g w.comes }
    where
      go : (v : Bool) (x : Result) → goes_through v k (record { result = x; order = r.order; log = r.log }) ≡ true
          → OutAs p t φ (bare b) (body_of (inner k) (beyond_in v q) (last_in v q)) (k + 1) o r.log r.order x → OutAs p t φ false q k o r.log r.order x
      go true x e c = absurd (false≢true e)
      go false running e c = absurd (false≢true (sym (and-false (eqb (mark_at k r.order) idle)) ∙ e))
      go false over e c = absurd (false≢true (sym (and-false (eqb (mark_at k r.order) idle)) ∙ e))
      go false (raising x) e c = absurd (false≢true (sym (and-false (eqb (mark_at k r.order) idle)) ∙ e))
      go false leaving e c = absurd (false≢true (sym (and-false (eqb (mark_at k r.order) idle)) ∙ e))
      go false undone e c = c
      go false (undo_raising z) e c =
          let i : get_or o.marks k 0 ≡ idle = sym (c.2.marks k (omega arith)) ∙ eqb-true (mark_at k r.order) idle (both_true (eqb (mark_at k r.order) idle) true e (λ x y. x)) in
          let y : φ (inner k) ≡ false = a (inner k) n ∙ rw i in
          (c.0, c.1 ∙ passed y, record { marks = λ j x. c.2.marks j (omega arith); rooted = c.2.rooted }, refl)
        where
          passed : φ (inner k) ≡ false → run_at φ (inner k) (name_of q ∷ beyond_of q) (last_of q) ≡ run_at φ (name_of q) (beyond_of q) (last_of q)
          passed y = run_past φ (inner k) (name_of q) (beyond_of q) (last_of q) y

  -- where it does not, its own scope is the one
  stays_here : (r : Outcome) → goes_through z₀ k r ≡ false → is_name p (inner k) ≡ true → Agrees p φ o → Below (k + 1) o r.order → is_out r.result ≡ true
      → run_at φ (inner k) (beyond_in z₀ q) (last_in z₀ q) ≡ undo_of (inner k) (beyond_in z₀ q) (last_in z₀ q)
  unfolding goes_through
  stays_here r g n a d w = go z₀ r.result g w
    where
      awake : eqb (mark_at k r.order) idle ≡ false → φ (inner k) ≡ true
      awake e = a (inner k) n ∙ rw (sym (d.marks k (omega arith)), e)

      go : (v : Bool) (x : Result) → goes_through v k (record { result = x; order = r.order; log = r.log }) ≡ false → is_out x ≡ true
          → run_at φ (inner k) (beyond_in v q) (last_in v q) ≡ undo_of (inner k) (beyond_in v q) (last_in v q)
      go true x e i = run_none φ (inner k) (name_of q)
      go false running e i = absurd (false≢true i)
      go false over e i = absurd (false≢true i)
      go false (raising x) e i = absurd (false≢true i)
      go false leaving e i = absurd (false≢true i)
      go false undone e i = absurd (false≢true i)
      go false (undo_raising x) e i = run-here φ (inner k) (name_of q) (beyond_of q) (last_of q) (awake (sym (and-true (eqb (mark_at k r.order) idle)) ∙ e))

  -- in which part the step is
  in-body : (r : Outcome) (v : Bool) → ltb t (k + 1 + size b) ≡ true → goes_through z₀ k r ≡ v → in_scope xs z₀ k t (more b ps) r ≡ elim v [ true ↦ r | false ↦ from_body (scope_at xs k (more b ps)) r ]
  unfolding in_scope part part_at
  in-body r v d e =
      first-of (ltb t (part_at 0 ps (k + 1 + size b))) (elim (goes_through z₀ k r) [ true ↦ r | false ↦ from_body (scope_at xs k (more b ps)) r ])
      (elim (ltb t (part_at (general_part xs) ps (k + 1 + size b))) [ true ↦ from_fault (scope_at xs k (more b ps)) r | false ↦ from_undo r ]) (in_scope xs z₀ k t (more b ps) r) refl (ap (ltb t) (at_first ps (k + 1 + size b)) ∙ d)
      ∙ ap (λ (z : Bool). elim z as (λ _. Outcome) [ true ↦ r | false ↦ from_body (scope_at xs k (more b ps)) r ]) e

  in_rest : (r : Outcome) (v : Bool) → ltb t (k + 1 + size b) ≡ false → ltb t (part_at (general_part xs) ps (k + 1 + size b)) ≡ v
      → in_scope xs z₀ k t (more b ps) r ≡ elim v [ true ↦ from_fault (scope_at xs k (more b ps)) r | false ↦ from_undo r ]
  unfolding in_scope part part_at
  in_rest r v d e =
      second-of (ltb t (part_at 0 ps (k + 1 + size b))) (elim (goes_through z₀ k r) [ true ↦ r | false ↦ from_body (scope_at xs k (more b ps)) r ])
      (elim (ltb t (part_at (general_part xs) ps (k + 1 + size b))) [ true ↦ from_fault (scope_at xs k (more b ps)) r | false ↦ from_undo r ]) (in_scope xs z₀ k t (more b ps) r) refl (ap (ltb t) (at_first ps (k + 1 + size b)) ∙ d)
      ∙ ap (λ (z : Bool). elim z as (λ _. Outcome) [ true ↦ from_fault (scope_at xs k (more b ps)) r | false ↦ from_undo r ]) e

  -- the places of its parts
  abbrev of_body : Place
  of_body = body_of (inner k) (beyond_in z₀ q) (last_in z₀ q)

  abbrev of_fault : Place
  of_fault = fault_of (inner k) (beyond_in z₀ q) (last_in z₀ q)

  abbrev of_undo : Place
  of_undo = undo_of (name_of q) (beyond_of q) (last_of q)

  scope-out : (actor : Actor) → is_name p (inner k) ≡ true → Agrees p φ o → place_of p t ≡ place_in (act (scope xs z₀) (more b ps)) k t q
      → (place_of p t ≡ place_in b (k + 1) t of_body → Out p t φ (bare b) of_body (k + 1) o (step_in actor b (k + 1) (k + 1) t o))
      → ((i : ℕ) → i ≤ length xs → place_of p t ≡ place_in (part i ps) (part_at i ps (k + 1 + size b)) t of_fault
      → Out p t φ true of_fault (part_at i ps (k + 1 + size b)) o (step_in actor (part i ps) (part_at i ps (k + 1 + size b)) (part_at i ps (k + 1 + size b)) t o))
      → ((i : ℕ) → length xs < i → i < count ps → place_of p t ≡ place_in (part i ps) (part_at i ps (k + 1 + size b)) t of_undo
      → Out p t φ true of_undo (part_at i ps (k + 1 + size b)) o (step_in actor (part i ps) (part_at i ps (k + 1 + size b)) (part_at i ps (k + 1 + size b)) t o))
      → Out p t φ (bare (act (scope xs z₀) (more b ps))) q k o (step_in actor (act (scope xs z₀) (more b ps)) q₀ k t o)
  unfolding bare itself closing combines arms part part_at only is_grave step_in
  scope-out actor n a l ib jf ju =
      decide (eqb k t)
      (λ e. subst (λ (r : Outcome). Out p t φ false q k o r) (sym (step-here actor (scope xs z₀) (more b ps) q₀ k t o e ∙ scope-performs actor xs z₀ (more b ps) q₀ k o)) (out-mild p t φ false q k o (closing z₀ q₀ k (scope_at xs k (more b ps)) o) (record { goes = refl; calm = refl })))
      (λ e. subst (λ (r : Outcome). Out p t φ false q k o r) (sym (step-within actor (scope xs z₀) (more b ps) q₀ k t o e)) (inside-it (l ∙ place-scope xs z₀ (more b ps) k t q e)))
    where
      S : Scope
      S = scope_at xs k (more b ps)

      around-it : first_of (beyond_in z₀ q) (last_in z₀ q) ≡ name_of q
      around-it = go z₀
        where
          go : (v : Bool) → first_of (beyond_in v q) (last_in v q) ≡ name_of q
          go true = refl
          go false = refl

      via : {r r' : Outcome} → r ≡ r' → Out p t φ false q k o r' → Out p t φ false q k o r
      via e w = subst (λ (r : Outcome). Out p t φ false q k o r) (sym e) w

      r₁ : Outcome
      r₁ = step_in actor b (k + 1) (k + 1) t o

      of-body : (v : Bool) → goes_through z₀ k r₁ ≡ v → Out p t φ (bare b) of_body (k + 1) o r₁ → Out p t φ false q k o (elim v [ true ↦ r₁ | false ↦ from_body S r₁ ])
      of-body true e w = through-as r₁ e n a w
      of-body false e w = scope-as (from_body S r₁) (body-out p t φ S (name_of q) o (scoped n) (bare b) r₁ around-it (λ i d. stays_here r₁ e n a d i) w)

      -- a part after the body
      later : ltb t (k + 1 + size b) ≡ false → place_of p t ≡ place_parts (length xs) ps (k + 1 + size b) t of_fault of_fault of_undo → Landed ps (k + 1 + size b) t
          → Out p t φ false q k o (in_scope xs z₀ k t (more b ps) (step_among actor ps true q₀ (k + 1 + size b) t o))
      later d l₁ (landed i w) =
          decide (leb i (length xs))
          (λ e. let h = leb-true i (length xs) e in
          via (in_rest _ true d (lands-before w (general_part xs) (omega (arith, general-is xs))) ∙ ap (from_fault S) (lands-step actor w q₀ o))
          (scope-as _ (fault-out p t φ S (name_of q) o (scoped n) (part_at i ps (k + 1 + size b)) _ around-it (omega (arith, at_from i ps (k + 1 + size b)))
          (jf i h (l₁ ∙ lands-fault w (length xs) h of_fault of_undo)))))
          (λ e. let h = leb-false i (length xs) e in
          via (in_rest _ false d (lands-after w (ltb-false t (k + 1 + size b) d) (general_part xs) (omega (arith, general-is xs))) ∙ ap from_undo (lands-step actor w q₀ o))
          (undo-as (part_at i ps (k + 1 + size b)) _ (omega (arith, at_from i ps (k + 1 + size b))) (ju i h (lands-count w) (l₁ ∙ lands-undo w (length xs) h of_fault of_undo))))
      later d l₁ (beyond h) =
          via (in_rest _ false d (beyond-after ps (k + 1 + size b) t h (general_part xs)) ∙ ap from_undo (beyond-step actor ps (k + 1 + size b) t q₀ o h))
          (undo-as (k + 1) (runs o) (omega arith) (out-mild p t φ true of_undo (k + 1) o (runs o) (mild-runs o)))

      inside-it : place_of p t ≡ parts xs z₀ (more b ps) k t q → Out p t φ false q k o (in_scope xs z₀ k t (more b ps) (step_among actor (more b ps) true q₀ (k + 1) t o))
      inside-it l₁ =
          decide (ltb t (k + 1 + size b))
          (λ d. via (ap (in_scope xs z₀ k t (more b ps)) (among_first actor b ps true q₀ (k + 1) t o d) ∙ in-body r₁ (goes_through z₀ k r₁) d refl)
          (of-body (goes_through z₀ k r₁) refl (ib (l₁ ∙ parts_first (general_part xs) b ps (k + 1) t _ _ _ d))))
          (λ d. via (ap (in_scope xs z₀ k t (more b ps)) (among_later actor b ps true q₀ (k + 1) t o d))
          (later d (l₁ ∙ (ap (λ (i : ℕ). place_parts i (more b ps) (k + 1) t of_body of_fault of_undo) (general-suc xs) ∙ parts-later (length xs) b ps (k + 1) t of_body of_fault of_undo d))
          (lands ps (k + 1 + size b) t (ltb-false t (k + 1 + size b) d))))

-- in an empty list
nothing-out : (actor : Actor) (p : Plan) (t : ℕ) (φ : Name → Bool) (b : Bool) (q : Place) (v : Bool) (q₀ c : ℕ) (o : Order) → Out p t φ b q c o (step_among actor none v q₀ c t o)
unfolding step_in
nothing-out actor p t φ b q v q₀ c o = out-mild p t φ b q c o (runs o) (mild-runs o)

-- Every step in a tree.
mutual
  unfolding bare part part_at count

  outs : (actor : Actor) {p : Plan} {x : Place} {a : Act} {k : ℕ} → Sits p x a k → (t : ℕ) (φ : Name → Bool) (q : Place) (q₀ : ℕ) (o : Order) → Agrees p φ o → place_of p t ≡ place_in a k t q
      → Out p t φ (bare a) q k o (step_in actor a q₀ k t o)
  outs actor {p} (sits-part {own = own} {within = within} {k = k} s g v y l) t φ q q₀ o c e = part_out actor p t φ q own within q₀ k o s y.no_scope e c (λ o₁ c₁ d. outs-in actor l t φ q (is_scope own) q₀ o₁ c₁ d)
  outs actor {p} (sits-scope {xs = xs} {v = z₀} {b = b} {f = f} {u = u} {k = k} kn v i sb z) t φ q q₀ o c e =
      scope-out p t φ q xs z₀ b (more f u) q₀ k o actor kn.name c e
      (λ d. outs actor sb t φ (body_of (inner k) (beyond_in z₀ q) (last_in z₀ q)) (k + 1) o c d)
      (λ i h d. outs-heal actor z t φ (fault_of (inner k) (beyond_in z₀ q) (last_in z₀ q)) i h o c d)
      (λ i h g d. outs-undo actor z t φ (undo_of (name_of q) (beyond_of q) (last_of q)) i h g o c d)

  outs-in : (actor : Actor) {p : Plan} {x : Place} {l : Acts} {c : ℕ} → SitsIn p x l c → (t : ℕ) (φ : Name → Bool) (q : Place) (v : Bool) (q₀ : ℕ) (o : Order) → Agrees p φ o → place_of p t ≡ place_among l c t q
      → Out p t φ (bare_in l) q c o (step_among actor l v q₀ c t o)
  outs-in actor {p} (sits-none {c = c}) t φ q v q₀ o h e = nothing-out actor p t φ (bare_in none) q v q₀ c o
  outs-in actor {p} (sits-more {a = a} {l = l} {c = c} s y) t φ q v q₀ o h e = among-out actor p t φ q a l v q₀ c o e (λ d. outs actor s t φ q (cond v c q₀) o h d) (λ d. outs-in actor y t φ q v q₀ o h d)

  -- a fault part, and the undo part
  outs-heal : (actor : Actor) {p : Plan} {s : Name} {xs : List ℕ} {z : Bool} {x y : Place} {l : Acts} {c : ℕ} → Healers p s xs z x y l c → (t : ℕ) (φ : Name → Bool) (q : Place) (i : ℕ) → i ≤ length xs
      → (o : Order) → Agrees p φ o → place_of p t ≡ place_in (part i l) (part_at i l c) t q → Out p t φ true q (part_at i l c) o (step_in actor (part i l) (part_at i l c) (part_at i l c) t o)
  outs-heal actor (heals-by z r h) t φ q zero e o g d = outs-remedy actor r t φ q o g d
  outs-heal actor (heals-by z r h) t φ q (suc i) e o g d = outs-heal actor h t φ q i (omega arith) o g d
  outs-heal actor (heals-all z r h) t φ q zero e o g d = outs-remedy actor r t φ q o g d
  outs-heal actor (heals-all z r h) t φ q (suc i) e o g d = absurd (omega arith)

  outs-undo : (actor : Actor) {p : Plan} {s : Name} {xs : List ℕ} {z : Bool} {x y : Place} {l : Acts} {c : ℕ} → Healers p s xs z x y l c → (t : ℕ) (φ : Name → Bool) (q : Place) (i : ℕ) → length xs < i → i < count l
      → (o : Order) → Agrees p φ o → place_of p t ≡ place_in (part i l) (part_at i l c) t q → Out p t φ true q (part_at i l c) o (step_in actor (part i l) (part_at i l c) (part_at i l c) t o)
  outs-undo actor (heals-by z r h) t φ q zero e n o g d = absurd (omega arith)
  outs-undo actor (heals-by z r h) t φ q (suc i) e n o g d = outs-undo actor h t φ q i (omega arith) (omega arith) o g d
  outs-undo actor (heals-all z r h) t φ q zero e n o g d = absurd (omega arith)
  outs-undo actor (heals-all z r h) t φ q (suc i) e n o g d = outs-rest actor h t φ q i (omega arith) o g d

  outs-rest : (actor : Actor) {p : Plan} {z : Bool} {y : Place} {l : Acts} {c : ℕ} → Rest p z y l c → (t : ℕ) (φ : Name → Bool) (q : Place) (i : ℕ) → i < count l
      → (o : Order) → Agrees p φ o → place_of p t ≡ place_in (part i l) (part_at i l c) t q → Out p t φ true q (part_at i l c) o (step_in actor (part i l) (part_at i l c) (part_at i l c) t o)
  outs-rest actor (rest-undo y) t φ q zero n o g d = outs-remedy actor y t φ q o g d
  outs-rest actor (rest-undo y) t φ q (suc i) n o g d = absurd (omega arith)
  outs-rest actor rest-none t φ q i n o g d = absurd (omega arith)

  outs-remedy : (actor : Actor) {p : Plan} {x : Place} {a : Act} {k : ℕ} → Remedy p x a k → (t : ℕ) (φ : Name → Bool) (q : Place) (o : Order) → Agrees p φ o → place_of p t ≡ place_in a k t q
      → Out p t φ true q k o (step_in actor a k k t o)
  outs-remedy actor {p} (remedy {own = own} {within = within} {k = k} s a g v z l d) t φ q o h e =
      subst (λ (y : Bool). Out p t φ y q k o (step_in actor (act own within) k k t o)) (rw (s, d))
      (part_out actor p t φ q own within k k o s z e h (λ o₁ h₁ v. outs-in actor l t φ q (is_scope own) k o₁ h₁ v))

-- From the root.
root-out : (actor : Actor) (p : Plan) → Seat p (root_of p) → (t : ℕ) (φ : Name → Bool) (o : Order) → Agrees p φ o → ScopeOut p t φ (root_of p) root o (step_root actor p t o)
unfolding step_root place_of chosen_part chosen_at
root-out actor p h t φ o g =
    decide (ltb t (size p.body))
    (λ e. rw (e, step_root) (body-out p t φ (root_of p) root o w (bare p.body) (step_in actor p.body 0 0 t o) refl (λ i d. run_none φ root root) (outs actor h.body t φ (body_of root [] root) 0 o g (rw (e, place_of) refl))))
    (λ e. rw (e, step_root) (fault-out p t φ (root_of p) root o w (size p.body) (step_in actor p.fault (size p.body) (size p.body) t o) refl (omega arith)
    (outs-remedy actor (h.fault 0) t φ (fault_of root [] root) o g (rw (e, place_of) refl))))
  where
    w : Scoped p (root_of p)
    w = record { before = tt; name = refl }

-- an order that failed
abbrev pub is_failed : End → Bool
is_failed None = false
is_failed Well = false
is_failed Handled = false
is_failed Failed = true
is_failed Left = false

-- The log of a step of an order, by how the order ends and with which fault: a raise of that number out of the root and nothing else where it fails, and of its shape where not.
pub data OrderShape (p : Plan) (t : ℕ) (φ : Name → Bool) (o : Order) : End → (fault : ℕ) → List Event → Type 0 where
  shaped : {e : End} {x : ℕ} {l : List Event} → is_failed e ≡ false → Shape p t φ o l → OrderShape p t φ o e x l
  out : {x : ℕ} → Handler p t φ root root → is_open (mark_of root o) ≡ false → OrderShape p t φ o Failed x (raised t x ∷ ended root ∷ [])

pub order-shape : (actor : Actor) (p : Plan) → Seat p (root_of p) → (t : ℕ) (φ : Name → Bool) (o : Order) → Agrees p φ o → OrderShape p t φ o (acted actor p t o).end (acted actor p t o).fault (acted actor p t o).log
unfolding acted end_of fault_number moved_to only is_grave
order-shape actor p h t φ o g = go r.log r.order r.result (root-out actor p h t φ o g).comes
  where
    r : Outcome
    r = step_root actor p t o

    well : (l : List Event) (o' : Order) (b : Bool) → Shape p t φ o l
        → OrderShape p t φ o (moved_to (record { result = running; order = o'; log = l }) (cond b Well None)).end
        (moved_to (record { result = running; order = o'; log = l }) (cond b Well None)).fault (moved_to (record { result = running; order = o'; log = l }) (cond b Well None)).log
    well l o' true g = shaped refl (shape-append (ended root ∷ []) g refl)
    well l o' false g = shaped refl g

    go : (l : List Event) (o' : Order) (x : Result) → ScopeAs p t φ (root_of p) root o l o' x
        → OrderShape p t φ o (moved_to (record { result = x; order = o'; log = l }) (end_of (record { result = x; order = o'; log = l }))).end
        (moved_to (record { result = x; order = o'; log = l }) (end_of (record { result = x; order = o'; log = l }))).fault
        (moved_to (record { result = x; order = o'; log = l }) (end_of (record { result = x; order = o'; log = l }))).log
    go l o' running c = well l o' (eqb o'.root done) c
    go l o' over c = shaped refl c
    go _ _ (raising x) (ended_so g n d) = out g n
    go l o' leaving c = shaped refl c
    go l o' undone c = absurd c
    go l o' (undo_raising x) c = absurd c

-- What an order that starts logs before its step is calm.
pub start-calm : (p : Plan) → Calm (started ∷ (begun_order p).log)
unfolding begun_order only is_grave
start-calm p = begin-silent is_grave graves-aside p.body 0 _
