-- What a test picks, and what goes on where an outcome is over. Assumes nothing.
use mathlib.Core.Path.{◌≡◌, refl, sym, ap, ◌∙◌}
use mathlib.Core.Bool.{Bool, true, false, false≢true}
use mathlib.Core.List.{List}
use Rattle.order.specs.declared.Order.{Order}
use Rattle.order.specs.declared.Way.{Way}
use Rattle.order.specs.declared.Way.TheVariants.{Running, Over, Raising, Leaving, Undone, UndoRaising}
use Rattle.order.specs.declared.Went.{Went}
use Rattle.order.specs.Answering.{went, is_over}
use Rattle.order.specs.Event.{Event}
use Rattle.order.specs.Scope.{Outcome, where_over}

-- what a test picks of two
pub yes : {A : Type 0} (x : Bool) (p q : A) → x ≡ true → ◌≡◌ {A = A} (elim x [ true ↦ p | false ↦ q ]) p
yes true p q e = refl
yes false p q e = absurd (false≢true e)

pub no : {A : Type 0} (x : Bool) (p q : A) → x ≡ false → ◌≡◌ {A = A} (elim x [ true ↦ p | false ↦ q ]) q
no true p q e = absurd (false≢true (sym e))
no false p q e = refl

-- what goes on where it is over, and what does not
pub where-over : (f : Order → Outcome) (r : Outcome) → is_over r.result ≡ true → went (where_over f r) ≡ went (f r.order)
unfolding is_over
where-over f r e = go r.result r.order r.log e
  where
    go : (w : Way) (o : Order) (g : List Event) → is_over w ≡ true → went (where_over f (record { result = w; order = o; log = g })) ≡ went (f o)
    go Running o g e = absurd (false≢true e)
    go Over o g e = refl
    go (Raising n) o g e = absurd (false≢true e)
    go Leaving o g e = absurd (false≢true e)
    go Undone o g e = absurd (false≢true e)
    go (UndoRaising n) o g e = absurd (false≢true e)

pub where-not : (f : Order → Outcome) (r : Outcome) → is_over r.result ≡ false → went (where_over f r) ≡ went r
unfolding is_over
where-not f r e = go r.result r.order r.log e
  where
    go : (w : Way) (o : Order) (g : List Event) → is_over w ≡ false → went (where_over f (record { result = w; order = o; log = g })) ≡ record { way = w; order = o }
    go Running o g e = refl
    go Over o g e = absurd (false≢true (sym e))
    go (Raising n) o g e = refl
    go Leaving o g e = refl
    go Undone o g e = refl
    go (UndoRaising n) o g e = refl

-- what goes on where the outcome is over, by what the code knows of it
module _ (f : Order → Outcome) (R : Outcome) {r : Went} (e : r ≡ went R) {v : Bool} (q : v ≡ is_over r.way) where
  pub goes_on : v ≡ true → {p : Went} → p ≡ went (f r.order) → p ≡ went (where_over f R)
  goes_on h g =
      let m : is_over R.result ≡ true = sym (rw (ap (λ (u : Went). u.way) e) at q) ∙ h in
      g ∙ (ap (λ (u : Went). went (f u.order)) e ∙ sym (where-over f R m))

  pub stays : v ≡ false → r ≡ went (where_over f R)
  stays h =
      let m : is_over R.result ≡ false = sym (rw (ap (λ (u : Went). u.way) e) at q) ∙ h in
      e ∙ sym (where-not f R m)
