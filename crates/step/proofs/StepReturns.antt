-- The returns of a step. Assumes nothing.
use mathlib.Core.Path.{◌≡◌, refl, sym, ap, ◌∙◌, subst}
use mathlib.Core.Bool.{Bool, true, false, cond}
use mathlib.Core.List.{List, [], ◌∷◌}
use Prim.Native.Nat.{ℕ, zero, suc, ◌+◌, ◌-◌, ◌<◌, ◌≤◌}
use native.Mathlib.Numerals.{add-one}
use native.Mathlib.Omega.{arith}
use borrow.Author.Tests.{eq-eqb, ne_eqb}
use lib.Dec.{eqb}
use lib.ListN.{length, get_or, take, drop, drop_of_length-le}
use lib.Seq.{drop-cons}
use Rattle.std.specs.Prelude.{Result, Ok, Err}
use Rattle.plan.specs.declared.Accepted.{Accepted}
use Rattle.plan.specs.declared.Refusal.{Refusal}
use Rattle.plan.specs.Answers.{answer_of, table_for, flags_for}
use Rattle.plan.specs.Found.{Found, refused, found}
use Rattle.plan.specs.Table.{table_of, flags_of}
use Rattle.plan.specs.Tree.{Plan, size}
use Rattle.order.specs.Answering.{Spelled, StartsOrder}
use Rattle.order.specs.Lists.{empties}
use Rattle.order.specs.declared.End.TheVariants.{None}
use Rattle.order.specs.declared.Order.{Order}
use Rattle.order.specs.State.{no_order}
use Rattle.order.proofs.Accepted.{accepted-spelled}
use Rattle.order.proofs.PlanStands.{plan-stands}
use Rattle.order.proofs.Standing.{stands-inside}
use Rattle.machine.specs.declared.State.{State}
use Rattle.machine.specs.declared.Step.{Step}
use Rattle.step.specs.declared.Change.{Change}
use Rattle.step.specs.declared.Stepped.{Stepped}
use Rattle.machine.specs.declared.Tally.{Tally}
use Rattle.machine.specs.Calls as calls
use Rattle.machine.specs.Calls.{Chosen, refused_choice, chosen, nth, choosing, previewed, preview_by, preview, refusing, answering, step_chosen, step_by, step, run_by, ran_on, one_more, run}
use Rattle.machine.specs.Limits.{in_limits, plan_in, by}
use Rattle.machine.specs.Offer.{Offer, Offers, offering, offers_of}
use Rattle.offer.specs.Having.{Has, OffersBy}
use Rattle.offer.proofs.Having.{has-limits, has-from}
use Rattle.machine.specs.State.{with_messages, with_order}
use Rattle.step.specs.Stepping.{bare, TakesOffer, nothing_by, changed, Moves, StepsBy}
use Rattle.machine.proofs.Called.{answer-no, answer-got, plan-found}
use Rattle.machine.proofs.Moved.{same-there}
use Rattle.laws.proofs.Offering.{chosen-fine}
use Rattle.laws.proofs.Promised.{refusal-some}
use Rattle.laws.proofs.Keeping.{step-by-keeps, step-is-by, step_keeps}
use Rattle.step.proofs.Changed.{put-taken, put_refused}

-- `step_by`
module _ {t flags : List ℕ} {n : ℕ} {s : State} (h : Has t flags n s) (c : ℕ) (y : Tally) {x : Step} (e : x ≡ preview c s) where
  seen : x ≡ previewed (choosing (offers_of h.plan s) c)
  unfolding preview preview_by
  seen = e ∙ rw h.planned.is

  step-shown : step c s y ≡ step_chosen h.plan s y (choosing (offers_of h.plan s) c)
  unfolding step_by
  step-shown = step-is-by h.planned c y

  step-takes : x.refusal ≡ 0 → {r : Stepped} → TakesOffer t n s x.slot x.activity x.place y r → r ≡ bare (step c s y)
  unfolding step_chosen
  step-takes q {r} a = go (choosing (offers_of h.plan s) c) refl seen ∙ ap bare (sym step-shown)
    where
      go : (w : Chosen) → choosing (offers_of h.plan s) c ≡ w → x ≡ previewed w → r ≡ bare (step_chosen h.plan s y (choosing (offers_of h.plan s) c))
      go (refused_choice m) f g = absurd (refusal-some (offers_of h.plan s) c m f (sym (ap (λ (v : Step). v.refusal) g) ∙ q))
      go (chosen o) f g =
          let d : offering x.slot x.activity x.place ≡ o = ap (λ (v : Step). offering v.slot v.activity v.place) g in
          let k : choosing (offers_of h.plan s) c ≡ chosen (offering x.slot x.activity x.place) = f ∙ ap chosen (sym d) in
          a.is h.plan c h.spelled (has-limits h) k ∙ ap (λ (w : Chosen). bare (step_chosen h.plan s y w)) (sym k)

  -- what is offered stands in one of the slots
  slot-within : x.refusal ≡ 0 → length s.orders ≡ 16 → x.slot < 16
  slot-within q l = go (choosing (offers_of h.plan s) c) refl seen
    where
      go : (w : Chosen) → choosing (offers_of h.plan s) c ≡ w → x ≡ previewed w → x.slot < 16
      go (refused_choice m) f g = absurd (refusal-some (offers_of h.plan s) c m f (sym (ap (λ (v : Step). v.refusal) g) ∙ q))
      go (chosen o) f g = let e : x.slot ≡ o.slot = ap (λ (v : Step). v.slot) g in omega (arith, e, (chosen-fine h.plan s c o f).slot l)

  step_stays : (x.refusal ≡ 0 → ⊥) → ◌≡◌ {A = Stepped} (record { answer = x; state = s; tally = y }) (bare (step c s y))
  unfolding step_chosen
  step_stays q = go (choosing (offers_of h.plan s) c) refl seen ∙ ap bare (sym step-shown)
    where
      go : (w : Chosen) → choosing (offers_of h.plan s) c ≡ w → x ≡ previewed w
          → ◌≡◌ {A = Stepped} (record { answer = x; state = s; tally = y }) (bare (step_chosen h.plan s y (choosing (offers_of h.plan s) c)))
      go (refused_choice m) f g = ap (λ (v : Step). record { answer = v; state = s; tally = y }) g ∙ ap (λ (w : Chosen). bare (step_chosen h.plan s y w)) (sym f)
      go (chosen o) f g = absurd (q (ap (λ (v : Step). v.refusal) g))

-- a step that is refused with the answer x changes nothing
module _ (s : State) (y : Tally) {x : Step} {r : Change} (q : x.refusal ≡ 0 → ⊥) (e : r ≡ nothing_by x s.messages s.waiting y) where
  not_taken : r.answer.refusal ≡ 0 → ⊥
  not_taken z = q (sym (ap (λ (v : Change). v.answer.refusal) e) ∙ z)

  leaves : changed s r ≡ record { answer = x; state = s; tally = y }
  leaves = rw (put_refused s r not_taken) (ap (λ (v : Change). record { answer = v.answer; state = s; tally = v.tally }) e)

  by-refusal : {t flags : List ℕ} {n c : ℕ} → (Has t flags n s → ◌≡◌ {A = Stepped} (record { answer = x; state = s; tally = y }) (bare (step c s y))) → StepsBy t flags n s c y r
  by-refusal f = record {
    is = λ h. leaves ∙ f h;
    within = λ z. absurd (not_taken z);
    nothing = λ z. e ∙ ap (λ (v : Step). nothing_by v s.messages s.waiting y) (sym (ap (λ (v : Change). v.answer) e));
  }

module _ {t flags : List ℕ} {n : ℕ} {s : State} {c : ℕ} (y : Tally) {x : Step} (a : OffersBy t flags n s c x) where
  pub step-taken : x.refusal ≡ 0 → x.slot < 16 → length s.orders ≡ 16 → (d : Order) {r : Change}
      → Moves t n (get_or s.orders x.slot d) s.messages s.waiting x.slot x.activity x.place y r → StepsBy t flags n s c y r
  step-taken q g l d w = record {
    is = λ h. step-takes h c y (a.is h) q (w.is s refl refl (same-there s.orders x.slot d no_order (omega arith)));
    within = λ z. omega (arith, w.slot);
    nothing = λ z. absurd (z w.taken);
  }

  pub step-beyond : x.refusal ≡ 0 → 16 ≤ x.slot → length s.orders ≡ 16 → {z : Step} {r : Change} → z ≡ refusing 17 → r ≡ nothing_by z s.messages s.waiting y → StepsBy t flags n s c y r
  step-beyond q g l {z} d e = by-refusal s y (λ f. omega (arith, ap (λ (v : Step). v.refusal) d)) e (λ h. absurd (omega (arith, slot-within h c y (a.is h) q l)))

  pub step-refused : (x.refusal ≡ 0 → ⊥) → {r : Change} → r ≡ nothing_by x s.messages s.waiting y → StepsBy t flags n s c y r
  step-refused q e = by-refusal s y q e (λ h. step_stays h c y (a.is h) q)

-- `take_step`: a state that earns 17, and one that has a plan
module _ (s : State) {a : Result Accepted Refusal} (e : a ≡ answer_of (plan_in s)) where
  pub step-unplanned : (c : ℕ) (y : Tally) {bad : Refusal} → a ≡ Err bad → {x : Step} → x ≡ refusing 17
      → ◌≡◌ {A = Stepped} (record { answer = x; state = s; tally = y }) (bare (step c s y))
  unfolding step
  step-unplanned c y o q = rw (q, answer-no (plan_in s) e o)

  module _ {c : ℕ} {y : Tally} {good : Accepted} {t flags : List ℕ} {r : Change} (o : a ≡ Ok good) (q : t ≡ table_for (plan_in s)) (f : flags ≡ flags_for (plan_in s))
      (l : length s.messages ≡ 64) (x : StepsBy t flags good.activities s c y r) where
    pub step_left : (r.answer.refusal ≡ 0 → ⊥) → ◌≡◌ {A = Stepped} (record { answer = r.answer; state = s; tally = r.tally }) (bare (step c s y))
    step_left z = rw (put_refused s r z) at (x.is (has-from s e o q f l))

    pub step-put : r.answer.refusal ≡ 0
        → ◌≡◌ {A = Stepped} (record { answer = r.answer; state = with_order r.answer.slot r.order (with_messages r.messages r.waiting s); tally = r.tally }) (bare (step c s y))
    step-put z = rw (put-taken s r z) at (x.is (has-from s e o q f l))
