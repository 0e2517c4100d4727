-- Request 10 for the public calls: a step called at the choices that show two independent entries, in either order. Assumes nothing.
use Prim.Native.Nat.{ℕ, zero, suc}
use native.Mathlib.Omega.{arith}
use mathlib.Core.Path.{◌≡◌, refl, sym, ap, ◌∙◌}
use mathlib.Core.Bool.{Bool, true, false, cond}
use mathlib.Core.List.{List, [], ◌∷◌}
use borrow.Author.Tests.{ne_eqb}
use Rattle.plan.specs.Found.{found}
use Rattle.plan.specs.Tree.{Plan}
use Rattle.order.specs.declared.End.TheVariants.{None}
use Rattle.order.specs.Lists.{empties}
use Rattle.machine.specs.declared.State.{State}
use Rattle.machine.specs.declared.Step.{Step}
use Rattle.machine.specs.declared.Tally.{Tally}
use Rattle.machine.specs.Limits.{plan_in}
use Rattle.machine.specs.Offer.{Offer, Offers, offers_of}
use Rattle.machine.specs.Calls.{Chosen, refused_choice, chosen, nth, choosing, previewed, preview_by, preview, answering, Stepped, taken, step_chosen, step_by, step}
use Rattle.either_order.specs.Independent.{taken_in_turn, called_in_turn, InEitherOrder, EitherOrder, independent_pair, CallsInEitherOrder}
use Rattle.either_order.proofs.EitherOrder.{apart, request-10}

-- a step that is refused answers no 0
nth-refused : (n : ℕ) (l : List Offer) (c k : ℕ) → nth n l c ≡ refused_choice k → n ≡ k
unfolding nth
nth-refused n [] c k e = cc
nth-refused n (x ∷ l) zero k e = absurd (let z : ◌≡◌ {A = ℕ} 0 1 = cc in omega arith)
nth-refused n (x ∷ l) (suc c) k e = nth-refused n l c k e

never-0 : (a : Offers) (c : ℕ) → choosing a c ≡ refused_choice 0 → ⊥
unfolding choosing
never-0 a c e = go (empties a.offered) a.held (nth-refused _ a.offered c 0 e)
  where
    go : (x y : Bool) → ◌≡◌ {A = ℕ} (cond x (cond y 11 10) 12) 0 → ⊥
    go true true e = omega arith
    go true false e = omega arith
    go false y e = omega arith

module _ (p : Plan) {next : ℕ} (s : State) (e : plan_in s ≡ found p next) where
  step-takes : (c : ℕ) (t : Tally) {x : Offer} → choosing (offers_of p s) c ≡ chosen x → step c s t ≡ taken p x s t
  unfolding step step_by step_chosen
  step-takes c t f = rw (e, f)

  chosen-shown : (c : ℕ) {x : Offer} → choosing (offers_of p s) c ≡ chosen x → preview c s ≡ answering x None 0
  unfolding preview preview_by
  chosen-shown c f = rw (e, f)

  shown-chosen : (c : ℕ) {x : Offer} → preview c s ≡ answering x None 0 → choosing (offers_of p s) c ≡ chosen x
  unfolding preview preview_by
  shown-chosen c {x} f = go (choosing (offers_of p s) c) refl (rw e at f)
    where
      go : (y : Chosen) → choosing (offers_of p s) c ≡ y → previewed y ≡ answering x None 0 → y ≡ chosen x
      go (refused_choice n) g h =
          let z : n ≡ 0 = ap (λ (r : Step). r.refusal) h in absurd (never-0 (offers_of p s) c (g ∙ ap refused_choice z))
      go (chosen y) g h = ap (λ (r : Step). chosen (record { slot = r.slot; activity = r.activity; place = r.place })) h

pair-swaps : (p : Plan) (x y : Offer) → independent_pair p x y ≡ true → independent_pair p y x ≡ true
unfolding independent_pair
pair-swaps p x y e = apart p x y e (λ d h g. rw (ne_eqb y.slot x.slot (λ q. d (sym q)), g, h))

-- the two calls, the first at c and then the second at the choice i that shows it
module _ (p : Plan) (next : ℕ) (s : State) (t : Tally) (c d : ℕ) (x y : Offer) (e : plan_in s ≡ found p next)
    (f : choosing (offers_of p s) c ≡ chosen x) (g : choosing (offers_of p s) d ≡ chosen y) (h : independent_pair p x y ≡ true) where
  pair : InEitherOrder p next s t x y
  unfolding EitherOrder
  pair = request-10 p next s t x y e (record { choice = c; is = f }) (record { choice = d; is = g }) h

  shown : (i : ℕ) → choosing (offers_of p (taken p x s t).state) i ≡ chosen y → preview i (step c s t).state ≡ preview d s
  shown i q =
      ap (λ (r : Stepped). preview i r.state) (step-takes p s e c t f) ∙ chosen-shown p (taken p x s t).state pair.passes i q ∙ sym (chosen-shown p s e d g)

  calls : (i : ℕ) → preview i (step c s t).state ≡ preview d s
      → called_in_turn c i s t ≡ taken_in_turn p x y s t
  calls i q =
      let a : step c s t ≡ taken p x s t = step-takes p s e c t f in
      let z = shown-chosen p (taken p x s t).state pair.passes i (ap (λ (r : Stepped). preview i r.state) (sym a) ∙ q ∙ chosen-shown p s e d g) in
      ap (λ (r : Stepped). step i r.state r.tally) a ∙ step-takes p (taken p x s t).state pair.passes i (taken p x s t).tally z

pub calls-in-either-order : CallsInEitherOrder
unfolding CallsInEitherOrder
calls-in-either-order p next s t c d x y e f g h =
    let k = pair-swaps p x y h in
    let a = pair p next s t c d x y e f g h in
    let b = pair p next s t d c y x e g f k in
    record {
      second = a.still.choice;
      first = b.still.choice;
      second_shown = shown p next s t c d x y e f g h a.still.choice a.still.is;
      first_shown = shown p next s t d c y x e g f k b.still.choice b.still.is;
      state = λ i j m n.
          ap (λ (r : Stepped). r.state) (calls p next s t c d x y e f g h i m)
          ∙ a.state
          ∙ sym (ap (λ (r : Stepped). r.state) (calls p next s t d c y x e g f k j n));
      tally = λ i j m n.
          ap (λ (r : Stepped). r.tally) (calls p next s t c d x y e f g h i m)
          ∙ a.tally
          ∙ sym (ap (λ (r : Stepped). r.tally) (calls p next s t d c y x e g f k j n));
      answer = λ i m.
          ap (λ (r : Stepped). r.answer) (calls p next s t c d x y e f g h i m)
          ∙ a.answer
          ∙ sym (ap (λ (r : Stepped). r.answer) (step-takes p s e d t g));
    }
