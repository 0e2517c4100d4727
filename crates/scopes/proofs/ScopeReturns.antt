-- The returns of the functions by which a scope ends, handles its fault, undoes and turns. Assumes nothing.
use mathlib.Core.Path.{◌≡◌, sym, ap, ◌∙◌}
use mathlib.Core.Bool.{Bool, true, false}
use mathlib.Core.List.{List}
use Prim.Native.Nat.{ℕ}
use Rattle.order.specs.declared.Entered.{Entered}
use Rattle.order.specs.declared.Order.{Order}
use Rattle.order.specs.declared.Spot.{Spot}
use Rattle.order.specs.declared.Way.TheVariants.{Over}
use Rattle.order.specs.declared.Went.{Went}
use Rattle.order.specs.Answering.{runs_of, went, is_over, begun_of, Begins, RunsInside, Made, name_of, scope_of, Held, ChosenRow, UndoesList, ends_of, Handles, Undoes, Turns}
use Rattle.order.specs.Begin.{begin}
use Rattle.order.specs.Scope.{chosen_part, chosen_at, Outcome, begun_in, where_over, ends, remembered_for, undo, handle, undoes, turns, inner_runs}
use Rattle.order.specs.State.{marking, choice_of, going}
use Rattle.order.proofs.Deciding.{yes, no, goes_on, stays}
use Rattle.order.proofs.PartReturns.{chosen-stands}

-- `handle`
module _ (t : List ℕ) (z : Spot) (o : Order) {c : ℕ} (d : c ≡ choice_of (name_of z) o) {n : ℕ} (w : ChosenRow t z c n) {o₁ : Order}
    (e : o₁ ≡ going (name_of z) 6 o) {b : Entered} (x : Begins t n o₁.marks b) {r : Went} (y : r ≡ begun_of o₁ b) {v : Bool} (q : v ≡ is_over r.way) where
  abbrev begun_with : Made → Outcome
  begun_with m = begun_in o₁ (begin (chosen_part c (scope_of z m)) (chosen_at c (scope_of z m)) o₁.marks)

  part-begun : (m : Made) → Held z m t → r ≡ went (begun_with m)
  part-begun m h = y ∙ rw ((rw (w.is m h) at x).is (chosen_part c (scope_of z m)) (chosen-stands c z m h))

  handled : (m : Made) → went (handle (scope_of z m) o) ≡ went (where_over (ends (scope_of z m)) (begun_with m))
  unfolding handle
  handled m = rw (e, d)

  pub handle-over : v ≡ true → {p : Went} → p ≡ ends_of z r.order → Handles t z o p
  handle-over h g = record { is = λ m k. goes_on (ends (scope_of z m)) (begun_with m) (part-begun m k) q h g ∙ sym (handled m) }

  pub handle-runs : v ≡ false → Handles t z o r
  handle-runs h = record { is = λ m k. stays (ends (scope_of z m)) (begun_with m) (part-begun m k) q h ∙ sym (handled m) }

-- `undoes`
module _ (t : List ℕ) (z : Spot) (o : Order) {o₁ : Order} {r : Went} (x : UndoesList t z o₁ r) {v : Bool} (q : v ≡ is_over r.way) where
  module _ (e : o₁ ≡ going (name_of z) 5 o) where
    undone-handling : (m : Made) → went (undoes true (scope_of z m) o) ≡ went (where_over (handle (scope_of z m)) (undo (remembered_for (scope_of z m) o₁) (scope_of z m) o₁))
    unfolding undoes
    undone-handling m = rw e

    pub undoes-handles : v ≡ true → {p : Went} → Handles t z r.order p → Undoes t true z o p
    undoes-handles h g = record {
      is = λ m k. goes_on (handle (scope_of z m)) (undo (remembered_for (scope_of z m) o₁) (scope_of z m) o₁) (x.is m k) q h (g.is m k) ∙ sym (undone-handling m);
    }

    pub undoes-waits : v ≡ false → Undoes t true z o r
    undoes-waits h = record {
      is = λ m k. stays (handle (scope_of z m)) (undo (remembered_for (scope_of z m) o₁) (scope_of z m) o₁) (x.is m k) q h ∙ sym (undone-handling m);
    }

  module _ (e : o₁ ≡ marking (name_of z) 8 o) where
    undone-ending : (m : Made) → went (undoes false (scope_of z m) o) ≡ went (where_over (ends (scope_of z m)) (undo (remembered_for (scope_of z m) o₁) (scope_of z m) o₁))
    unfolding undoes
    undone-ending m = rw e

    pub undoes-ends : v ≡ true → {p : Went} → p ≡ ends_of z r.order → Undoes t false z o p
    undoes-ends h g = record {
      is = λ m k. goes_on (ends (scope_of z m)) (undo (remembered_for (scope_of z m) o₁) (scope_of z m) o₁) (x.is m k) q h g ∙ sym (undone-ending m);
    }

    pub undoes-stays : v ≡ false → Undoes t false z o r
    undoes-stays h = record {
      is = λ m k. stays (ends (scope_of z m)) (undo (remembered_for (scope_of z m) o₁) (scope_of z m) o₁) (x.is m k) q h ∙ sym (undone-ending m);
    }

-- `turns`
module _ (t : List ℕ) (b : Bool) (z : Spot) (o : Order) {v : Bool} (x : RunsInside t z.body z.parts o.marks v) where
  pub turns-not : v ≡ true → {r : Went} → r ≡ runs_of o → Turns t b z o r
  unfolding turns
  turns-not h y = record {
    is = λ m k. y ∙ sym (ap went (yes (inner_runs m.body z.body o.marks) _ (undoes b (scope_of z m) o) (sym (x.is m.body k.body k.next) ∙ h)));
  }

  pub turns-undoes : v ≡ false → {r : Went} → Undoes t b z o r → Turns t b z o r
  unfolding turns
  turns-undoes h u = record {
    is = λ m k.
        u.is m k
        ∙ sym (ap went (no (inner_runs m.body z.body o.marks) _ (undoes b (scope_of z m) o) (sym (x.is m.body k.body k.next) ∙ h)));
  }
