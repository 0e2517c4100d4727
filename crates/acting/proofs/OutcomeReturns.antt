-- The returns of the functions by which a scope answers a fault and what runs in it. Assumes nothing.
use mathlib.Core.Path.{◌≡◌, sym, ap, ◌∙◌}
use mathlib.Core.Bool.{Bool, true, false, ◌||◌}
use mathlib.Core.List.{List}
use mathlib.Core.Logic.{◌⊎◌, inl, inr}
use Prim.Native.Nat.{ℕ}
use borrow.Author.Tests.{eq-eqb, ne_eqb}
use lib.Dec.{eqb}
use Rattle.order.specs.declared.Order.{Order}
use Rattle.order.specs.declared.Spot.{Spot}
use Rattle.order.specs.declared.Way.{Way}
use Rattle.order.specs.declared.Way.TheVariants.{Running, Over, Raising, Leaving, Undone, UndoRaising}
use Rattle.order.specs.declared.Went.{Went}
use Rattle.order.specs.Answering.{runs_of, went, outcome, name_of, scope_of, Faulting, Clears, Stops, Turns, Undoes, Forgets, ends_of, Leads, Makes, PartOver}
use Rattle.order.specs.Scope.{choice_for, forgetting, is_open, stop, faults, breaks, looks_again, body_over, body_raised, undo_over, undo_raised, from_body, part_over, part_raised, from_fault, from_undo}
use Rattle.order.proofs.Deciding.{yes, no}
use Rattle.order.specs.State.{mark_with, mark_of, marking, state_of, causing, with_marks}

-- `faults`
pub faults-is : (t : List ℕ) (n : ℕ) (z : Spot) (o : Order) {o₁ : Order} → Faulting t z n o o₁
    → {p : Order} → Stops t z.body o₁ p → {r : Went} → Turns t true z p r → Leads t z (faults n) o r
unfolding faults
faults-is t n z o {o₁} g {p} x {r} y = record {
  is = λ m h.
      let a : p ≡ (stop m.body z.body (causing (name_of z) n (marking (name_of z) (mark_with (choice_for n (scope_of z m)) 4) o))).order
      = rw (g.is m h) at (x.is m.body h.body) in
      rw a at (y.is m h);
}

-- `breaks`
pub breaks-is : (t : List ℕ) (x : ℕ) (z : Spot) (o : Order) {o₁ : Order} → o₁ ≡ marking (name_of z) 0 o → {p : Order} → Forgets z.body o₁ p
    → {n : List ℕ} → Clears z.first z.end p.marks n → {q : Order} → q ≡ with_marks n p
    → Leads t z (breaks x) o (record { way = Raising x; order = q })
unfolding breaks forgetting
breaks-is t x z o {o₁} e {p} y {n} i {q} j = record {
  is = λ m h.
      let a : p ≡ forgetting (scope_of z m) o₁ = y.is in
      rw (j, i.is h.end, a, e);
}

-- by the mark of the scope
module _ (t : List ℕ) (z : Spot) (o : Order) {m : ℕ} (e : m ≡ mark_of (name_of z) o) where
  is-mark : (n : ℕ) → m ≡ n → eqb (mark_of (name_of z) o) n ≡ true
  is-mark n h = eq-eqb _ _ (sym e ∙ h)

  no-mark : (n : ℕ) → (m ≡ n → ⊥) → eqb (mark_of (name_of z) o) n ≡ false
  no-mark n h = ne_eqb _ _ (λ g. h (e ∙ g))

  -- `body_over`
  pub body-done : m ≡ 1 → {p : Order} → p ≡ marking (name_of z) 3 o → {r : Went} → r ≡ runs_of p → Leads t z body_over o r
  unfolding body_over
  body-done h i y = record { is = λ x k. (rw i at y) ∙ sym (ap went (yes _ _ _ (is-mark 1 h))) }

  pub body-looks : (m ≡ 1 → ⊥) → {r : Went} → Leads t z looks_again o r → Leads t z body_over o r
  unfolding body_over
  body-looks h y = record { is = λ x k. y.is x k ∙ sym (ap went (no _ _ _ (no-mark 1 h))) }

  -- `body_raised`
  pub raised-faults : (n : ℕ) {v : Bool} → v ≡ is_open m → v ≡ true → {r : Went} → Leads t z (faults n) o r → Leads t z (body_raised n) o r
  unfolding body_raised
  raised-faults n j g y = record { is = λ x k. y.is x k ∙ sym (ap went (yes (is_open (mark_of (name_of z) o)) _ _ (rw (← e) (sym j ∙ g)))) }

  pub raised-absorbed : (n : ℕ) {v : Bool} → v ≡ is_open m → v ≡ false → {r : Went} → Leads t z looks_again o r → Leads t z (body_raised n) o r
  unfolding body_raised
  raised-absorbed n j g y = record { is = λ x k. y.is x k ∙ sym (ap went (no (is_open (mark_of (name_of z) o)) _ _ (rw (← e) (sym j ∙ g)))) }

-- by its mark without its choice, and then by its mark
module _ (t : List ℕ) (z : Spot) (o : Order) {s : ℕ} (a : s ≡ state_of (name_of z) o) where
  is_state : (n : ℕ) → s ≡ n → eqb (state_of (name_of z) o) n ≡ true
  is_state n h = eq-eqb _ _ (sym a ∙ h)

  no-state : (n : ℕ) → (s ≡ n → ⊥) → eqb (state_of (name_of z) o) n ≡ false
  no-state n h = ne_eqb _ _ (λ g. h (a ∙ g))

  -- `looks_again`
  pub looks-faulty : s ≡ 4 → {r : Went} → Turns t true z o r → Leads t z looks_again o r
  unfolding looks_again
  looks-faulty h y = record { is = λ x k. y.is x k ∙ sym (ap went (yes _ _ _ (is_state 4 h))) }

  -- `undo_over`
  pub undone-next : s ≡ 5 → {r : Went} → Undoes t true z o r → Leads t z undo_over o r
  unfolding undo_over
  undone-next h y = record { is = λ x k. y.is x k ∙ sym (ap went (yes _ _ _ (is_state 5 h))) }

  -- `undo_raised`
  abbrev undoes-now : Bool
  undoes-now = eqb (state_of (name_of z) o) 5 || eqb (mark_of (name_of z) o) 8

  pub undo-breaks : (n : ℕ) → s ≡ 5 → {r : Went} → Leads t z (breaks n) o r → Leads t z (undo_raised n) o r
  unfolding undo_raised
  undo-breaks n h y = record { is = λ x k. y.is x k ∙ sym (ap went (yes undoes-now _ _ (rw (is_state 5 h)))) }

  module _ {m : ℕ} (e : m ≡ mark_of (name_of z) o) where
    pub looks-halted : (s ≡ 4 → ⊥) → m ≡ 7 → {r : Went} → Turns t false z o r → Leads t z looks_again o r
    unfolding looks_again
    looks-halted g h y = record {
      is = λ x k. y.is x k ∙ sym (ap went (no _ _ _ (no-state 4 g) ∙ yes _ _ _ (is-mark t z o e 7 h)));
    }

    pub looks-not : (s ≡ 4 → ⊥) → (m ≡ 7 → ⊥) → {r : Went} → r ≡ runs_of o → Leads t z looks_again o r
    unfolding looks_again
    looks-not g h y = record { is = λ x k. y ∙ sym (ap went (no _ _ _ (no-state 4 g) ∙ no _ _ _ (no-mark t z o e 7 h))) }

    pub undone-ends : (s ≡ 5 → ⊥) → m ≡ 8 → {r : Went} → Undoes t false z o r → Leads t z undo_over o r
    unfolding undo_over
    undone-ends g h y = record { is = λ x k. y.is x k ∙ sym (ap went (no _ _ _ (no-state 5 g) ∙ yes _ _ _ (is-mark t z o e 8 h))) }

    pub undone-not : (s ≡ 5 → ⊥) → (m ≡ 8 → ⊥) → {r : Went} → r ≡ runs_of o → Leads t z undo_over o r
    unfolding undo_over
    undone-not g h y = record { is = λ x k. y ∙ sym (ap went (no _ _ _ (no-state 5 g) ∙ no _ _ _ (no-mark t z o e 8 h))) }

    pub undo-breaks-too : (n : ℕ) → (s ≡ 5 → ⊥) → m ≡ 8 → {r : Went} → Leads t z (breaks n) o r → Leads t z (undo_raised n) o r
    unfolding undo_raised
    undo-breaks-too n g h y = record { is = λ x k. y.is x k ∙ sym (ap went (yes undoes-now _ _ (rw (no-state 5 g, is-mark t z o e 8 h)))) }

    pub undo-absorbed : (n : ℕ) → (s ≡ 5 → ⊥) → (m ≡ 8 → ⊥) → {r : Went} → r ≡ runs_of o → Leads t z (undo_raised n) o r
    unfolding undo_raised
    undo-absorbed n g h y = record { is = λ x k. y ∙ sym (ap went (no undoes-now _ _ (rw (no-state 5 g, no-mark t z o e 8 h)))) }

  -- `part_over`, `part_raised`
  pub part-ends : s ≡ 6 → {r : Went} → r ≡ ends_of z o → PartOver z o r
  unfolding part_over
  part-ends h y = record { is = λ x. y ∙ sym (ap went (yes _ _ _ (is_state 6 h))) }

  pub part-not : (s ≡ 6 → ⊥) → {r : Went} → r ≡ runs_of o → PartOver z o r
  unfolding part_over
  part-not h y = record { is = λ x. y ∙ sym (ap went (no _ _ _ (no-state 6 h))) }

  pub part-breaks : (n : ℕ) → s ≡ 6 → {r : Went} → Leads t z (breaks n) o r → Leads t z (part_raised n) o r
  unfolding part_raised
  part-breaks n h y = record { is = λ x k. y.is x k ∙ sym (ap went (yes _ _ _ (is_state 6 h))) }

  pub part-absorbed : (n : ℕ) → (s ≡ 6 → ⊥) → {r : Went} → r ≡ runs_of o → Leads t z (part_raised n) o r
  unfolding part_raised
  part-absorbed n h y = record { is = λ x k. y ∙ sym (ap went (no _ _ _ (no-state 6 h))) }

-- `from_body`, `from_fault`, `from_undo`: by how what ran stands
as-way : (r : Went) {w : Way} → r.way ≡ w → r ≡ record { way = w; order = r.order }
as-way r e = rw (← e)

module _ (t : List ℕ) (z : Spot) (r : Went) where
  pub from-running : r.way ≡ Running → {p : Went} → Leads t z looks_again r.order p → Makes t z from_body r p
  unfolding from_body
  from-running e y = record { is = λ m k. rw e (y.is m k) }

  pub from-over : r.way ≡ Over → {p : Went} → Leads t z body_over r.order p → Makes t z from_body r p
  unfolding from_body
  from-over e y = record { is = λ m k. rw e (y.is m k) }

  pub from-raising : {x : ℕ} → r.way ≡ Raising x → {p : Went} → Leads t z (body_raised x) r.order p → Makes t z from_body r p
  unfolding from_body
  from-raising e y = record { is = λ m k. rw e (y.is m k) }

  pub from-leaving : r.way ≡ Leaving → Makes t z from_body r r
  unfolding from_body
  from-leaving e = record { is = λ m k. as-way r e ∙ rw (e, e) }

  pub from-undone : r.way ≡ Undone → {p : Went} → Leads t z undo_over r.order p → Makes t z from_body r p
  unfolding from_body
  from-undone e y = record { is = λ m k. rw e (y.is m k) }

  pub from-undo_raising : {x : ℕ} → r.way ≡ UndoRaising x → {p : Went} → Leads t z (undo_raised x) r.order p → Makes t z from_body r p
  unfolding from_body
  from-undo_raising e y = record { is = λ m k. rw e (y.is m k) }

  fault-running : r.way ≡ Running → {p : Went} → p ≡ runs_of r.order → Makes t z from_fault r p
  unfolding from_fault
  fault-running e y = record { is = λ m k. rw (e, e) y }

  pub fault-over : r.way ≡ Over → {p : Went} → PartOver z r.order p → Makes t z from_fault r p
  unfolding from_fault
  fault-over e y = record { is = λ m k. rw e (y.is m) }

  pub fault-raising : {x : ℕ} → r.way ≡ Raising x → {p : Went} → Leads t z (part_raised x) r.order p → Makes t z from_fault r p
  unfolding from_fault
  fault-raising e y = record { is = λ m k. rw e (y.is m k) }

  pub fault-leaving : r.way ≡ Leaving → Makes t z from_fault r r
  unfolding from_fault
  fault-leaving e = record { is = λ m k. as-way r e ∙ rw (e, e) }

  fault-undone : r.way ≡ Undone → {p : Went} → p ≡ runs_of r.order → Makes t z from_fault r p
  unfolding from_fault
  fault-undone e y = record { is = λ m k. rw e y }

  fault-undo_raising : {x : ℕ} → r.way ≡ UndoRaising x → {p : Went} → p ≡ runs_of r.order → Makes t z from_fault r p
  unfolding from_fault
  fault-undo_raising e y = record { is = λ m k. rw e y }

  pub fault-still : (r.way ≡ Running) ⊎ ((r.way ≡ Undone) ⊎ ((x : ℕ) × (r.way ≡ UndoRaising x))) → {p : Went} → p ≡ runs_of r.order → Makes t z from_fault r p
  fault-still (inl e) y = fault-running e y
  fault-still (inr (inl e)) y = fault-undone e y
  fault-still (inr (inr x)) y = fault-undo_raising x.1 y

module _ (r : Went) where
  pub up-over : r.way ≡ Over → ◌≡◌ {A = Went} (record { way = Undone; order = r.order }) (went (from_undo (outcome r)))
  unfolding from_undo
  up-over e = rw e

  pub up-raising : {x : ℕ} → r.way ≡ Raising x → ◌≡◌ {A = Went} (record { way = UndoRaising x; order = r.order }) (went (from_undo (outcome r)))
  unfolding from_undo
  up-raising e = rw e

  pub up-still : (r.way ≡ Running) ⊎ ((r.way ≡ Leaving) ⊎ ((r.way ≡ Undone) ⊎ ((x : ℕ) × (r.way ≡ UndoRaising x)))) → r ≡ went (from_undo (outcome r))
  unfolding from_undo
  up-still (inl e) = as-way r e ∙ rw e
  up-still (inr (inl e)) = as-way r e ∙ rw e
  up-still (inr (inr (inl e))) = as-way r e ∙ rw e
  up-still (inr (inr (inr x))) = as-way r x.1 ∙ rw x.1
