-- The returns of the functions by which an activity goes on after a step within it, and of a step in an activity. Assumes nothing.
use mathlib.Core.Path.{◌≡◌, refl, sym, ap, subst, ◌∙◌}
use mathlib.Core.Bool.{Bool, true, false, cond, not, ◌&&◌, false≢true, and-false}
use mathlib.Core.List.{List, [], ◌∷◌}
use mathlib.Core.Logic.{◌⊎◌, inl, inr}
use Prim.Native.Nat.{ℕ, zero, suc, ◌+◌, ◌<◌, ◌≤◌}
use native.Mathlib.Omega.{arith}
use borrow.Author.Tests.{eq-eqb, ne_eqb, lt-ltb, le-ltb, ltb-true}
use lib.Dec.{eqb, ltb}
use lib.ListN.{length}
use Rattle.plan.specs.Tree.{to_partner, to_held, from_partner, from_asking, Own, empty, send, receive, set as setting, raise, leave, choose, repeat, sequence, flow, pick, scope, arm, kind, is_scope, has_undo, numbers_of, general_part, undo_part, is_pick, Act, act, Acts, more, size, sizes}
use Rattle.order.specs.declared.Order.{Order}
use Rattle.order.specs.declared.Spot.{Spot}
use Rattle.order.specs.declared.Way.{Way}
use Rattle.order.specs.declared.Way.TheVariants.{Running, Over, Raising, Leaving, Undone, UndoRaising}
use Rattle.order.specs.declared.Went.{Went}
use Rattle.order.specs.Acting.{finishes, raises, again, is_part, joins, goes_on, in_scope, combines, Actor, in_place, replaces, performs, itself, arms, step_in, step_among}
use Rattle.order.specs.Answering.{KindOf, scope_kind, went, outcome, is_over, of_undo, Made, scope_act, SpotAt, UndoRow, Makes, runs_of, finishes_of, StepsAt, Among, ChildWith, Arms, Follows, JoinsAt, Through, InScope, has_parts, GoesOn, Combines, raises_of, actor_of, Performs, PartOf, StepsIn}
use Rattle.order.specs.Begin.{part_at, begin_after}
use Rattle.order.specs.Event.{Event}
use Rattle.order.specs.Expression.{conflicting_receive}
use Rattle.order.specs.Lists.{only}
use Rattle.order.specs.Room.{has_room, room_in, room_among}
use Rattle.order.specs.Scope.{Scope, Outcome, runs, begun_in, where_over, is_for, forgetting, scope_at, from_body, from_fault, goes_through, from_undo}
use Rattle.order.specs.Stands.{End, Stands}
use Rattle.order.specs.State.{closings, mark_at, marked}
use Rattle.order.proofs.Deciding.{yes, no, where-not}
use Rattle.order.proofs.Owns.{of-kind}
use Rattle.order.proofs.PartReturns.{spot-parts, spot-undo}
use Rattle.order.proofs.Standing.{size-pos, stands-end, stands-inside, row-kind, scope-kind, own-scope, first-at, scope-line, numbered-undo, if-parts}
use Rattle.order.proofs.MemoryReturns.{closings-are}

-- `goes_through`
through-is : (v : Bool) (k : ℕ) (w : Way) (o : Order)
    → goes_through v k (record { result = w; order = o; log = [] }) ≡ (not v && (eqb (mark_at k o) 0 && of_undo w))
unfolding goes_through of_undo
through-is v k Running o = refl
through-is v k Over o = refl
through-is v k (Raising x) o = refl
through-is v k Leaving o = refl
through-is v k Undone o = refl
through-is v k (UndoRaising x) o = refl

module _ {t : List ℕ} {k : ℕ} (r : Went) {kd : ℕ} (q : KindOf t k kd) where
  pub through-never : (kd ≡ 12 → ⊥) → Through t k r false
  unfolding kind
  through-never h = record { is = λ ns v l s. go ns v l s (row-kind q (scope ns v) l s) }
    where
      go : (ns : List ℕ) (v : Bool) (l : Acts) → Stands (act (scope ns v) l) k t → kd ≡ kind (scope ns v) → false ≡ goes_through v k (outcome r)
      go ns true l s e = sym (through-is true k r.way r.order)
      go [] false l s e = absurd (h e)
      go (n ∷ ns) false l s e = absurd (false≢true (numbered-undo n ns false (scope-line t k (n ∷ ns) false l s).numbers))

  module _ (h : kd ≡ 12) {m : ℕ} (i : m ≡ mark_at k r.order) where
    pub through_not : (m ≡ 0 → ⊥) → Through t k r false
    through_not g = record {
      is = λ ns v l s.
          let d : eqb (mark_at k r.order) 0 ≡ false = ne_eqb _ _ (λ x. g (i ∙ x)) in
          sym (through-is v k r.way r.order ∙ rw d (and-false (not v)));
    }

    pub through-so : m ≡ 0 → {b : Bool} → b ≡ of_undo r.way → Through t k r b
    unfolding kind
    through-so g {b} j = record { is = λ ns v l s. go ns v (row-kind q (scope ns v) l s) }
      where
        go : (ns : List ℕ) (v : Bool) → kd ≡ kind (scope ns v) → b ≡ goes_through v k (outcome r)
        go [] true e = absurd (omega arith)
        go (n ∷ ns) true e = absurd (omega arith)
        go ns false e = j ∙ sym (through-is false k r.way r.order ∙ rw (eq-eqb _ _ (sym i ∙ g)))

-- `in_scope`
module _ (t : List ℕ) (k x : ℕ) (r : Went) {z : Spot} (y : SpotAt t k z) where
  InAct : Went → Act → Type 0
  InAct p (act own l) = p ≡ went (in_scope (numbers_of own) (has_undo own) k x l (outcome r))

  abbrev body_end : Made → ℕ
  body_end m = part_at 0 m.parts (k + 1 + size m.body)

  parts_at : (v : Bool) (m : Made) → Stands (scope_act v m) k t → z.parts ≡ body_end m
  parts_at v m s = spot-parts y v m s ∙ sym (first-at m.parts (k + 1 + size m.body))

  module _ (h : x < z.parts) {c : Bool} (i : Through t k r c) where
    pub in-through : c ≡ true → InScope t k x r r
    unfolding in_scope part_at InAct
    in-through j = record {
      is = λ ns v l s. if-parts (InAct r) t k (λ v m sb s.
          let n : x < body_end m = omega (arith, parts_at v m s) in
          let l = more m.body m.parts in
          sym (ap went (yes (ltb x (body_end m)) _ _ (lt-ltb _ _ n)
          ∙ yes (goes_through v k (outcome r)) (outcome r) (from_body (scope_at m.numbers k l) (outcome r)) (sym (i.is m.numbers v l s) ∙ j)))) ns v l s;
    }

    pub in-body : c ≡ false → {p : Went} → Makes t z from_body r p → InScope t k x r p
    unfolding in_scope part_at InAct
    in-body j {p} g = record {
      is = λ ns v l s. if-parts (InAct p) t k (λ v m sb s.
          let n : x < body_end m = omega (arith, parts_at v m s) in
          let l = more m.body m.parts in
          g.is m (y.held v m s)
          ∙ (ap (λ (c : Scope). went (from_body c (outcome r))) (y.same v m s)
          ∙ sym (ap went (yes (ltb x (body_end m)) _ _ (lt-ltb _ _ n)
          ∙ no (goes_through v k (outcome r)) (outcome r) (from_body (scope_at m.numbers k l) (outcome r)) (sym (i.is m.numbers v l s) ∙ j))))) ns v l s;
    }

  module _ (h : z.parts ≤ x) {n : ℕ} (e : UndoRow t z n) where
    abbrev faults-end : Made → ℕ
    faults-end m = part_at (general_part m.numbers) m.parts (k + 1 + size m.body)

    pub in-fault : x < n → {p : Went} → Makes t z from_fault r p → InScope t k x r p
    unfolding in_scope part_at InAct
    in-fault d {p} g = record {
      is = λ ns v l s. if-parts (InAct p) t k (λ v m sb s.
          let a : body_end m ≤ x = omega (arith, parts_at v m s) in
          let b : x < faults-end m = omega (arith, spot-undo y e v m s) in
          let w = scope_at m.numbers k (more m.body m.parts) in
          g.is m (y.held v m s)
          ∙ (ap (λ (c : Scope). went (from_fault c (outcome r))) (y.same v m s)
          ∙ sym (ap went (no (ltb x (body_end m)) _ _ (le-ltb _ _ a)
          ∙ yes (ltb x (faults-end m)) (from_fault w (outcome r)) (from_undo (outcome r)) (lt-ltb _ _ b))))) ns v l s;
    }

    pub in-undo : n ≤ x → {p : Went} → p ≡ went (from_undo (outcome r)) → InScope t k x r p
    unfolding in_scope part_at InAct
    in-undo d {p} g = record {
      is = λ ns v l s. if-parts (InAct p) t k (λ v m sb s.
          let a : body_end m ≤ x = omega (arith, parts_at v m s) in
          let b : faults-end m ≤ x = omega (arith, spot-undo y e v m s) in
          let w = scope_at m.numbers k (more m.body m.parts) in
          g ∙ sym (ap went (no (ltb x (body_end m)) _ _ (le-ltb _ _ a)
          ∙ no (ltb x (faults-end m)) (from_fault w (outcome r)) (from_undo (outcome r)) (le-ltb _ _ b)))) ns v l s;
    }

-- `goes_on`: by the kind of the row and its mark
abbrev over_at : Order → Outcome
over_at o = record { result = Over; order = o; log = [] }

module _ (t : List ℕ) (k e child : ℕ) (o : Order) {kd : ℕ} (q : KindOf t k kd) {m : ℕ} (j : m ≡ mark_at k o) where
  has-mark : (n : ℕ) → m ≡ n → eqb (mark_at k o) n ≡ true
  has-mark n h = eq-eqb _ _ (sym j ∙ h)

  no-mark : (n : ℕ) → (m ≡ n → ⊥) → eqb (mark_at k o) n ≡ false
  no-mark n h = ne_eqb _ _ (λ g. h (j ∙ g))

  pub sequence-follows : kd ≡ 8 → m ≡ 1 → {p : Went} → Follows t k e child o p → GoesOn t k e child o p
  unfolding combines goes_on
  sequence-follows h i {p} g = record {
    is = λ own l x s c w d.
        of-kind 8 (λ y. p ≡ went (combines y l k x (over_at o)))
        (g.is l x w ∙ sym (ap went (yes (eqb (mark_at k o) 1) (where_over (finishes k) (begun_in o (begin_after l (k + 1) x o.marks))) (runs o) (has-mark 1 i))))
        own (sym (row-kind q own l s) ∙ h);
  }

  pub sequence-stays : kd ≡ 8 → (m ≡ 1 → ⊥) → {p : Went} → p ≡ runs_of o → GoesOn t k e child o p
  unfolding combines goes_on
  sequence-stays h i {p} g = record {
    is = λ own l x s c w d.
        of-kind 8 (λ y. p ≡ went (combines y l k x (over_at o)))
        (g ∙ sym (ap went (no (eqb (mark_at k o) 1) (where_over (finishes k) (begun_in o (begin_after l (k + 1) x o.marks))) (runs o) (no-mark 1 i))))
        own (sym (row-kind q own l s) ∙ h);
  }

  pub flow-joins : kd ≡ 9 → m ≡ 1 → {p : Went} → JoinsAt k e o p → GoesOn t k e child o p
  unfolding combines goes_on
  flow-joins h i {p} g = record {
    is = λ own l x s c w d.
        of-kind 9 (λ y. p ≡ went (combines y l k x (over_at o)))
        (g.is l c ∙ sym (ap went (yes (eqb (mark_at k o) 1) (joins k l o) (runs o) (has-mark 1 i))))
        own (sym (row-kind q own l s) ∙ h);
  }

  pub flow-stays : kd ≡ 9 → (m ≡ 1 → ⊥) → {p : Went} → p ≡ runs_of o → GoesOn t k e child o p
  unfolding combines goes_on
  flow-stays h i {p} g = record {
    is = λ own l x s c w d.
        of-kind 9 (λ y. p ≡ went (combines y l k x (over_at o)))
        (g ∙ sym (ap went (no (eqb (mark_at k o) 1) (joins k l o) (runs o) (no-mark 1 i))))
        own (sym (row-kind q own l s) ∙ h);
  }

  pub repeat-decides : kd ≡ 7 → m ≡ 2 → {p : Went} → p ≡ runs_of (marked k 1 o) → GoesOn t k e child o p
  unfolding combines goes_on
  repeat-decides h i {p} g = record {
    is = λ own l x s c w d.
        of-kind 7 (λ y. p ≡ went (combines y l k x (over_at o)))
        (λ v. g ∙ sym (ap went (yes (eqb (mark_at k o) 2) (again k o) (runs o) (has-mark 2 i))))
        own (sym (row-kind q own l s) ∙ h);
  }

  pub repeat-stays : kd ≡ 7 → (m ≡ 2 → ⊥) → {p : Went} → p ≡ runs_of o → GoesOn t k e child o p
  unfolding combines goes_on
  repeat-stays h i {p} g = record {
    is = λ own l x s c w d.
        of-kind 7 (λ y. p ≡ went (combines y l k x (over_at o)))
        (λ v. g ∙ sym (ap went (no (eqb (mark_at k o) 2) (again k o) (runs o) (no-mark 2 i))))
        own (sym (row-kind q own l s) ∙ h);
  }

  -- a choose or a pick
  module _ (h8 : kd ≡ 8 → ⊥) (h9 : kd ≡ 9 → ⊥) (h7 : kd ≡ 7 → ⊥) where
    inside-over : (own : Own) (l : Acts) (x : ℕ) → kd ≡ kind own → has_parts (kind own) ≡ true
        → combines own l k x (over_at o) ≡ goes_on k 2 (finishes k) (over_at o)
    unfolding combines kind
    inside-over empty l x h d = absurd (false≢true d)
    inside-over (send (to_partner p) q vs) l x h d = absurd (false≢true d)
    inside-over (send (to_held v r) q vs) l x h d = absurd (false≢true d)
    inside-over (receive (from_partner p) q vs) l x h d = absurd (false≢true d)
    inside-over (receive (from_asking p v) q vs) l x h d = absurd (false≢true d)
    inside-over (setting v e) l x h d = absurd (false≢true d)
    inside-over (raise zero) l x h d = absurd (false≢true d)
    inside-over (raise (suc number)) l x h d = absurd (false≢true d)
    inside-over leave l x h d = absurd (false≢true d)
    inside-over (choose e) l x h d = refl
    inside-over (repeat e) l x h d = absurd (h7 h)
    inside-over sequence l x h d = absurd (h8 h)
    inside-over flow l x h d = absurd (h9 h)
    inside-over pick l x h d = refl
    inside-over (scope [] true) l x h d = absurd (false≢true d)
    inside-over (scope [] false) l x h d = absurd (false≢true d)
    inside-over (scope (n ∷ ns) v) l x h d = absurd (false≢true d)
    inside-over (arm p q vs) l x h d = absurd (false≢true d)

    pub inside-finishes : m ≡ 2 → {p : Went} → p ≡ finishes_of k o → GoesOn t k e child o p
    unfolding goes_on
    inside-finishes i g = record {
      is = λ own l x s c w d.
          g ∙ sym (ap went (inside-over own l x (row-kind q own l s) d ∙ yes (eqb (mark_at k o) 2) (finishes k o) (runs o) (has-mark 2 i)));
    }

    pub inside-stays : (m ≡ 2 → ⊥) → {p : Went} → p ≡ runs_of o → GoesOn t k e child o p
    unfolding goes_on
    inside-stays i g = record {
      is = λ own l x s c w d.
          g ∙ sym (ap went (inside-over own l x (row-kind q own l s) d ∙ no (eqb (mark_at k o) 2) (finishes k o) (runs o) (no-mark 2 i)));
    }

-- `combines`
over-is : (w : Way) → is_over w ≡ true → w ≡ Over
unfolding is_over
over-is Running h = absurd (false≢true h)
over-is Over h = refl
over-is (Raising x) h = absurd (false≢true h)
over-is Leaving h = absurd (false≢true h)
over-is Undone h = absurd (false≢true h)
over-is (UndoRaising x) h = absurd (false≢true h)

goes-waits : (k m : ℕ) (f : Order → Outcome) (R : Outcome) → is_over R.result ≡ false → went (goes_on k m f R) ≡ went R
unfolding goes_on
goes-waits k m f R h = where-not (λ o. elim (eqb (mark_at k o) m) [ true ↦ f o | false ↦ runs o ]) R h

combines-waits : (own : Own) (l : Acts) (k x : ℕ) (R : Outcome) → is_scope own ≡ false → is_over R.result ≡ false → went (combines own l k x R) ≡ went R
unfolding combines kind
combines-waits empty l k x R n h = refl
combines-waits (send p q vs) l k x R n h = refl
combines-waits (receive p q vs) l k x R n h = refl
combines-waits (setting v e) l k x R n h = refl
combines-waits (raise zero) l k x R n h = refl
combines-waits (raise (suc number)) l k x R n h = refl
combines-waits leave l k x R n h = refl
combines-waits (choose e) l k x R n h = goes-waits k 2 (finishes k) R h
combines-waits (repeat e) l k x R n h = goes-waits k 2 (again k) R h
combines-waits sequence l k x R n h = goes-waits k 1 (λ o. where_over (finishes k) (begun_in o (begin_after l (k + 1) x o.marks))) R h
combines-waits flow l k x R n h = goes-waits k 1 (joins k l) R h
combines-waits pick l k x R n h = goes-waits k 2 (finishes k) R h
combines-waits (scope ns v) l k x R n h = absurd (false≢true (sym n))
combines-waits (arm p q vs) l k x R n h = refl

combines-plain : (own : Own) (l : Acts) (k x : ℕ) (R : Outcome) → is_scope own ≡ false → has_parts (kind own) ≡ false → went (combines own l k x R) ≡ went R
unfolding combines kind
combines-plain empty l k x R n h = refl
combines-plain (send p q vs) l k x R n h = refl
combines-plain (receive p q vs) l k x R n h = refl
combines-plain (setting v e) l k x R n h = refl
combines-plain (raise zero) l k x R n h = refl
combines-plain (raise (suc number)) l k x R n h = refl
combines-plain leave l k x R n h = refl
combines-plain (choose e) l k x R n h = absurd (false≢true (sym h))
combines-plain (repeat e) l k x R n h = absurd (false≢true (sym h))
combines-plain sequence l k x R n h = absurd (false≢true (sym h))
combines-plain flow l k x R n h = absurd (false≢true (sym h))
combines-plain pick l k x R n h = absurd (false≢true (sym h))
combines-plain (scope ns v) l k x R n h = absurd (false≢true (sym n))
combines-plain (arm p q vs) l k x R n h = refl

module _ (t : List ℕ) (k e child x : ℕ) (r : Went) {kd : ℕ} (q : KindOf t k kd) where
  module _ {a : Bool} (d : a ≡ scope_kind kd) where
    scope-there : (own : Own) (l : Acts) → Stands (act own l) k t → is_scope own ≡ a
    scope-there own l s = sym (scope-kind own) ∙ (rw (← row-kind q own l s) (sym d))

    pub combines-scope : a ≡ true → {p : Went} → InScope t k x r p → Combines t k e child x r p
    unfolding combines
    combines-scope h {p} g = record {
      is = λ own l s c w.
          own-scope (λ y. Stands (act y l) k t → p ≡ went (combines y l k x (outcome r))) (λ ns v s. g.is ns v l s) own (scope-there own l s ∙ h) s;
    }

    module _ (n : a ≡ false) {v : Bool} (i : v ≡ has_parts kd) where
      parts_are : (own : Own) (l : Acts) → Stands (act own l) k t → has_parts (kind own) ≡ v
      parts_are own l s = rw (← row-kind q own l s) (sym i)

      pub combines-goes : v ≡ true → {u : Bool} → u ≡ is_over r.way → u ≡ true → {p : Went} → GoesOn t k e child r.order p → Combines t k e child x r p
      combines-goes h {u} j y {p} g = record {
        is = λ own l s c w.
            let z : r.way ≡ Over = over-is r.way (sym j ∙ y) in
            rw z (g.is own l x s c w (parts_are own l s ∙ h));
      }

      pub combines-runs : v ≡ true → {u : Bool} → u ≡ is_over r.way → u ≡ false → Combines t k e child x r r
      combines-runs h {u} j y = record {
        is = λ own l s c w. sym (combines-waits own l k x (outcome r) (scope-there own l s ∙ n) (sym j ∙ y));
      }

      pub combines-none : v ≡ false → Combines t k e child x r r
      combines-none h = record {
        is = λ own l s c w. sym (combines-plain own l k x (outcome r) (scope-there own l s ∙ n) (parts_are own l s ∙ h));
      }

-- what an activity makes of an outcome does not hang on what happened before
abbrev Same : (Outcome → Outcome) → Way → Type 0
Same F w = (o : Order) (g : List Event) → went (F (record { result = w; order = o; log = g })) ≡ went (F (record { result = w; order = o; log = [] }))

by_way : (F : Outcome → Outcome) → Same F Running → Same F Over → ((x : ℕ) → Same F (Raising x)) → Same F Leaving → Same F Undone → ((x : ℕ) → Same F (UndoRaising x))
    → (R : Outcome) → went (F R) ≡ went (F (outcome (went R)))
by_way F a b c d e f R = go R.result R.order R.log
  where
    go : (w : Way) → Same F w
    go Running = a
    go Over = b
    go (Raising x) = c x
    go Leaving = d
    go Undone = e
    go (UndoRaising x) = f x

goes_same : (k m : ℕ) (f : Order → Outcome) (R : Outcome) → went (goes_on k m f R) ≡ went (goes_on k m f (outcome (went R)))
unfolding goes_on
goes_same k m f = by_way (goes_on k m f) (λ o g. refl) (λ o g. refl) (λ x o g. refl) (λ o g. refl) (λ o g. refl) (λ x o g. refl)

pub body_same : (s : Scope) (R : Outcome) → went (from_body s R) ≡ went (from_body s (outcome (went R)))
unfolding from_body
body_same s = by_way (from_body s) (λ o g. refl) (λ o g. refl) (λ x o g. refl) (λ o g. refl) (λ o g. refl) (λ x o g. refl)

pub fault-same : (s : Scope) (R : Outcome) → went (from_fault s R) ≡ went (from_fault s (outcome (went R)))
unfolding from_fault
fault-same s = by_way (from_fault s) (λ o g. refl) (λ o g. refl) (λ x o g. refl) (λ o g. refl) (λ o g. refl) (λ x o g. refl)

undo-same : (R : Outcome) → went (from_undo R) ≡ went (from_undo (outcome (went R)))
unfolding from_undo
undo-same = by_way from_undo (λ o g. refl) (λ o g. refl) (λ x o g. refl) (λ o g. refl) (λ o g. refl) (λ x o g. refl)

scope-same : (ns : List ℕ) (v : Bool) (k x : ℕ) (l : Acts) (R : Outcome) → went (in_scope ns v k x l R) ≡ went (in_scope ns v k x l (outcome (went R)))
unfolding in_scope goes_through
scope-same ns v k x l R = go (ltb x (part_at 1 l (k + 1))) (ltb x (part_at (undo_part ns) l (k + 1))) (goes_through v k R)
  where
    go : (a b c : Bool) → ◌≡◌ {A = Went}
        (went (elim a [
          | true ↦ elim c [ true ↦ R | false ↦ from_body (scope_at ns k l) R ]
          | false ↦ elim b [ true ↦ from_fault (scope_at ns k l) R | false ↦ from_undo R ]
        ]))
        (went (elim a [
          | true ↦ elim c [ true ↦ outcome (went R) | false ↦ from_body (scope_at ns k l) (outcome (went R)) ]
          | false ↦ elim b [ true ↦ from_fault (scope_at ns k l) (outcome (went R)) | false ↦ from_undo (outcome (went R)) ]
        ]))
    go true b true = refl
    go true b false = body_same (scope_at ns k l) R
    go false true c = fault-same (scope_at ns k l) R
    go false false c = undo-same R

combines-same : (own : Own) (l : Acts) (k x : ℕ) (R : Outcome) → went (combines own l k x R) ≡ went (combines own l k x (outcome (went R)))
unfolding combines
combines-same empty l k x R = refl
combines-same (send p q vs) l k x R = refl
combines-same (receive p q vs) l k x R = refl
combines-same (setting v e) l k x R = refl
combines-same (raise zero) l k x R = refl
combines-same (raise (suc number)) l k x R = refl
combines-same leave l k x R = refl
combines-same (choose e) l k x R = goes_same k 2 (finishes k) R
combines-same (repeat e) l k x R = goes_same k 2 (again k) R
combines-same sequence l k x R = goes_same k 1 (λ o. where_over (finishes k) (begun_in o (begin_after l (k + 1) x o.marks))) R
combines-same flow l k x R = goes_same k 1 (joins k l) R
combines-same pick l k x R = goes_same k 2 (finishes k) R
combines-same (scope ns v) l k x R = scope-same ns v k x l R
combines-same (arm p q vs) l k x R = refl

-- what room a scope needs
room_of : (own : Own) (l : Acts) (k : ℕ) (o : Order) → has_room own l k (closings o) ≡ true
    → has_undo own ≡ true → length (closings (forgetting (scope_at (numbers_of own) k l) o)) < 32
unfolding has_room forgetting
room_of own l k o h e =
    let xs = only (λ e. not (is_for (scope_at (numbers_of own) k l) e)) (closings o) in
    let m : ltb (length xs) 32 ≡ true = rw e at h in
    rw (closings-are xs o) (ltb-true (length xs) 32 m)

-- `replaced`, `performs`
in_place_lem : (own : Own) (l : Acts) (q k : ℕ) (o : Order) (b : Bool) → replaces in_place (kind own) ≡ b
    → performs in_place own l q k o ≡ elim b [ true ↦ raises conflicting_receive k o | false ↦ itself own l q k o ]
unfolding performs
in_place_lem own l q k o b e =
    subst (λ (z : Bool). performs in_place own l q k o ≡ elim z [ true ↦ raises conflicting_receive k o | false ↦ itself own l q k o ]) e refl

kind-there : {t : List ℕ} {k : ℕ} (own : Own) (l : Acts) {n : ℕ} → KindOf t k n → Stands (act own l) k t → kind own ≡ n
unfolding Stands size
kind-there {t} {k} own l {n} a s = sym (a.is (omega (arith, stands-inside (act own l) k t s)) ∙ s.first.row.kind)

module _ {t : List ℕ} {q k : ℕ} {o : Order} where
  replaced-receive : {n : ℕ} → KindOf t k n → n ≡ 2 → {r : Went} → r ≡ raises_of conflicting_receive k o → Performs t in_place q k o r
  unfolding replaces
  replaced-receive a e y = record { is = λ own l d s g. y ∙ sym (ap went (in_place_lem own l q k o true (rw (kind-there own l a s ∙ e)))) }

  replaced-asking : {n : ℕ} → KindOf t k n → n ≡ 18 → {r : Went} → r ≡ raises_of conflicting_receive k o → Performs t in_place q k o r
  unfolding replaces
  replaced-asking a e y = record { is = λ own l d s g. y ∙ sym (ap went (in_place_lem own l q k o true (rw (kind-there own l a s ∙ e)))) }

  replaced-arm : {n : ℕ} → KindOf t k n → n ≡ 255 → {r : Went} → r ≡ raises_of conflicting_receive k o → Performs t in_place q k o r
  unfolding replaces
  replaced-arm a e y = record { is = λ own l d s g. y ∙ sym (ap went (in_place_lem own l q k o true (rw (kind-there own l a s ∙ e)))) }

  pub replaced-one : {n : ℕ} → KindOf t k n → (n ≡ 2) ⊎ ((n ≡ 18) ⊎ (n ≡ 255)) → {r : Went} → r ≡ raises_of conflicting_receive k o → Performs t in_place q k o r
  replaced-one a (inl e) y = replaced-receive a e y
  replaced-one a (inr (inl e)) y = replaced-asking a e y
  replaced-one a (inr (inr e)) y = replaced-arm a e y

  pub replaced-other : {n : ℕ} → KindOf t k n → ((n ≡ 2) ⊎ ((n ≡ 18) ⊎ (n ≡ 255)) → ⊥) → {r : Went} → StepsAt t q k o r → Performs t in_place q k o r
  unfolding replaces
  replaced-other {n} a e y =
      record {
        is = λ own l i s g.
            y.is own l i s g ∙ sym (ap went (in_place_lem own l q k o false (rw (unlike own l s 2 (λ z. e (inl z)), unlike own l s 18 (λ z. e (inr (inl z))), unlike own l s 255 (λ z. e (inr (inr z)))))));
      }
    where
      unlike : (own : Own) (l : Acts) → Stands (act own l) k t → (m : ℕ) → (n ≡ m → ⊥) → eqb (kind own) m ≡ false
      unlike own l s m h = ne_eqb (kind own) m (λ z. h (sym (kind-there own l a s) ∙ z))

  pub performs-raise : {b : Bool} → b ≡ true → {r : Went} → Performs t in_place q k o r → Performs t (actor_of b) q k o r
  performs-raise e y = rw e y

  pub performs-own : {b : Bool} → b ≡ false → {r : Went} → StepsAt t q k o r → Performs t (actor_of b) q k o r
  unfolding performs replaces
  performs-own e y = rw e (record { is = λ own l d s g. y.is own l d s g })

-- `part_of`
module _ {t : List ℕ} (q : ℕ) {k : ℕ} (child : ℕ) {kd : ℕ} (y : KindOf t k kd) {a : Bool} (d : a ≡ scope_kind kd) where
  part-there : (own : Own) (l : Acts) → Stands (act own l) k t → is_scope own ≡ a
  part-there own l s = sym (scope-kind own) ∙ (rw (← row-kind y own l s) (sym d))

  pub part-own : a ≡ true → PartOf t q k child child
  part-own e = record { is = λ own l s. rw (part-there own l s, e); small = λ h g. g }

  pub part-around : a ≡ false → PartOf t q k child q
  part-around e = record { is = λ own l s. rw (part-there own l s, e); small = λ h g. h }

-- `step_in`
pub step-itself : {t : List ℕ} {z : Actor} {q k x : ℕ} {o : Order} → k ≡ x → {r : Went} → Performs t z q k o r → StepsIn t z q k x o r
unfolding step_in room_in
step-itself {t} {z} {q} {k} {x} {o} e {r} y = record { is = is }
  where
    is : (a : Act) → q < 256 → Stands a k t → room_in a k x (closings o) ≡ true → r ≡ went (step_in z a q k x o)
    is (act own l) d s h =
        let m : eqb k x ≡ true = eq-eqb k x e in
        let g : has_room own l k (closings o) ≡ true = sym (yes (eqb k x) (has_room own l k (closings o)) (room_among l (k + 1) x (closings o)) m) ∙ h in
        y.is own l d s (room_of own l k o g)
        ∙ sym (ap went (yes (eqb k x) (performs z own l q k o) (combines own l k x (step_among z l (is_scope own) q (k + 1) x (arms own l k x o))) m))

-- what is remembered stays as it is where an arm of a pick takes its message
arms-closings : (own : Own) (l : Acts) (k x : ℕ) (o : Order) → closings (arms own l k x o) ≡ closings o
unfolding arms
arms-closings own l k x o = go (is_pick own && is_part l (k + 1) x)
  where
    go : (b : Bool) → closings (cond b (marked k 2 o) o) ≡ closings o
    go true = refl
    go false = refl

module _ {t : List ℕ} {k x : ℕ} {o : Order} (n : k ≡ x → ⊥) {e : ℕ} (z : End t k e) {child : ℕ} (y : ChildWith t (k + 1) e x child)
    {o₁ : Order} (w : Arms t k e child x o o₁) {r p : Went} (c : Combines t k e child x r p) where
  row-end : (own : Own) (l : Acts) → Stands (act own l) k t → e ≡ k + 1 + sizes l
  unfolding size
  row-end own l s = omega (arith, stands-end (act own l) k t s z)

  among : (own : Own) (l : Acts) → Stands (act own l) k t → Among t l (k + 1) e x child
  unfolding Stands
  among own l s = y.is l s.rest (row-end own l s)

  combined : (v : Actor) (q : ℕ) (own : Own) (l : Acts) → Stands (act own l) k t → r ≡ went (step_among v l (is_scope own) q (k + 1) x o₁)
      → p ≡ went (step_in v (act own l) q k x o)
  unfolding step_in
  combined v q own l s g =
      let i : o₁ ≡ arms own l k x o = w.is own l s (among own l s) in
      let R = step_among v l (is_scope own) q (k + 1) x (arms own l k x o) in
      let d : r ≡ went R = rw i at g in
      (rw d at (c.is own l s (row-end own l s) (among own l s)))
      ∙ (sym (combines-same own l k x R)
      ∙ sym (ap went (no (eqb k x) (performs v own l q k o) (combines own l k x R) (ne_eqb k x n))))

  room_within : (own : Own) (l : Acts) → room_in (act own l) k x (closings o) ≡ true → room_among l (k + 1) x (closings o) ≡ true
  unfolding room_in
  room_within own l h = sym (no (eqb k x) (has_room own l k (closings o)) (room_among l (k + 1) x (closings o)) (ne_eqb k x n)) ∙ h

  pub step-within : {v : Actor} {q u : ℕ} → child < e → PartOf t q k child u → StepsIn t v u child x o₁ r → StepsIn t v q k x o p
  step-within {v} {q} {u} h f g = record { is = is }
    where
      is : (a : Act) → q < 256 → Stands a k t → room_in a k x (closings o) ≡ true → p ≡ went (step_in v a q k x o)
      is (act own l) y s m =
          let d = (among own l s).found h in
          let i : o₁ ≡ arms own l k x o = w.is own l s (among own l s) in
          let j : closings o₁ ≡ closings o = ap closings i ∙ arms-closings own l k x o in
          let w' : room_in d.part child x (closings o₁) ≡ true = rw j (sym (d.room (closings o)) ∙ room_within own l m) in
          let c' : child < 256 = omega (arith, stands-inside d.part child t d.stands, size-pos d.part) in
          let r' : r ≡ went (step_in v d.part u child x o₁) = g.is d.part (f.small y c') d.stands w' in
          combined v q own l s ((rw (f.is own l s) at r') ∙ ap went (sym (d.steps v (is_scope own) q o₁)))

  pub step-nowhere : {v : Actor} {q : ℕ} → e ≤ child → r ≡ runs_of o₁ → StepsIn t v q k x o p
  step-nowhere {v} {q} h g = record { is = is }
    where
      is : (a : Act) → q < 256 → Stands a k t → room_in a k x (closings o) ≡ true → p ≡ went (step_in v a q k x o)
      is (act own l) y s m = combined v q own l s (g ∙ ap went (sym (((among own l s).missed h).steps v (is_scope own) q o₁)))
