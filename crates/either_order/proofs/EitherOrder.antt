-- Request 10: two independent steps of different orders give the same state and tally in either order, and each is still offered after the other.
-- Assumes nothing.
use Prim.Native.Nat.{ℕ, zero, suc}
use native.Mathlib.Omega.{arith}
use mathlib.Core.Path.{◌≡◌, refl, sym, ap, subst, ◌∙◌}
use mathlib.Core.Bool.{Bool, true, false, cond, not}
use mathlib.Core.List.{List, [], ◌∷◌}
use lib.ListN.{get_or, set, take}
use lib.Seq.{get_or-set_other}
use lib.Dec.{eqb, leb}
use borrow.Author.Tests.{eqb-false}
use Rattle.plan.specs.Found.{refused, found}
use Rattle.plan.specs.Read.{read_plan}
use Rattle.plan.specs.Tree.{Plan}
use Rattle.plan.proofs.Accepts.{both}
use Rattle.plan.specs.Within.{plan_within}
use Rattle.plan.proofs.Limits.{accepted-is-within}
use Rattle.order.specs.declared.End.{End}
use Rattle.order.specs.declared.End.TheVariants.{None, Well, Handled, Failed, Left}
use Rattle.order.specs.declared.Order.{Order}
use Rattle.order.specs.Acting.{Moved}
use Rattle.order.specs.Judging.{step_order}
use Rattle.order.specs.Lists.{every}
use Rattle.order.specs.State.{is_live, no_order}
use Rattle.machine.specs.declared.State.{State}
use Rattle.machine.specs.declared.Tally.{Tally}
use Rattle.machine.specs.State.{with_order}
use Rattle.machine.specs.Limits.{order_in_limits, in_limits, plan_in}
use Rattle.machine.specs.Offer.{Offer}
use Rattle.machine.specs.Calls.{answering, count_end, Stepped, taken}
use Rattle.laws.specs.Good.{Good, actor}
use Rattle.laws.proofs.Offering.{pick_true, chosen-fine}
use Rattle.laws.proofs.Keeping.{order-limits}
use Rattle.laws.proofs.Staying.{every_set, step-limits}
use Rattle.laws.proofs.Doing.{good-room}
use Rattle.either_order.specs.Independent.{independent_at, Offered, order_of, has_step, OwnOrderOffers, stepped_alone, OwnSlotChanges, taken_in_turn, EitherOrder, independent_pair, Request10}
use Rattle.either_order.proofs.Law.{not-true, has-live, own-order-offers, own-slot-changes}

-- two orders that end are counted in either order, at the ceiling too
counts-swap : (a b : End) (t : Tally) → count_end a (count_end b t) ≡ count_end b (count_end a t)
unfolding count_end
counts-swap None b t = refl
counts-swap Well None t = refl
counts-swap Well Well t = refl
counts-swap Well Handled t = refl
counts-swap Well Failed t = refl
counts-swap Well Left t = refl
counts-swap Handled None t = refl
counts-swap Handled Well t = refl
counts-swap Handled Handled t = refl
counts-swap Handled Failed t = refl
counts-swap Handled Left t = refl
counts-swap Failed None t = refl
counts-swap Failed Well t = refl
counts-swap Failed Handled t = refl
counts-swap Failed Failed t = refl
counts-swap Failed Left t = refl
counts-swap Left None t = refl
counts-swap Left Well t = refl
counts-swap Left Handled t = refl
counts-swap Left Failed t = refl
counts-swap Left Left t = refl

-- two slots are written in either order
slots-swap : (l : List Order) (i j : ℕ) (a b : Order) → (i ≡ j → ⊥) → set (set l i a) j b ≡ set (set l j b) i a
slots-swap [] i j a b h = refl
slots-swap (o ∷ l) zero zero a b h = absurd (h refl)
slots-swap (o ∷ l) zero (suc j) a b h = refl
slots-swap (o ∷ l) (suc i) zero a b h = refl
slots-swap (o ∷ l) (suc i) (suc j) a b h = ap (λ (z : List Order). o ∷ z) (slots-swap l i j a b (λ e. h (ap suc e)))

-- a state with other orders
orders_in : List Order → State → State
orders_in l s = record { plan = s.plan; length = s.length; orders = l; messages = s.messages; waiting = s.waiting }

-- what 17 asks of a state, and that it is asked of the slots one by one
limited : {A : Type 0} {p : Plan} {next : ℕ} (s : State) → plan_in s ≡ found p next → (in_limits s ≡ true → read_plan (take s.length s.plan) ≡ found p next → A) → A
unfolding plan_in
limited {A} {p} {next} s e f = go (in_limits s) refl e
  where
    go : (b : Bool) → in_limits s ≡ b → cond b (read_plan (take s.length s.plan)) (refused 17 0) ≡ found p next → A
    go true h e = f h e
    go false h e = absurd (let z : ◌≡◌ {A = ℕ} 0 1 = cc in omega arith)

orders-limited : (s : State) → in_limits s ≡ true → every order_in_limits s.orders ≡ true
unfolding in_limits
orders-limited s e = both (leb s.length 4096) _ e (λ a b. both (leb s.waiting 64) _ b (λ c d. both (every order_in_limits s.orders) _ d (λ f g. f)))

limits-put : (s : State) (i : ℕ) (o : Order) → order_in_limits o ≡ true → in_limits s ≡ true → in_limits (with_order i o s) ≡ true
unfolding in_limits
limits-put s i o h e =
    both (leb s.length 4096) _ e (λ a b.
    both (leb s.waiting 64) _ b (λ c d.
    both (every order_in_limits s.orders) _ d (λ f g.
    rw (a, c, every_set order_in_limits s.orders i o h f, g))))

put-passes : {p : Plan} {next : ℕ} (s : State) (i : ℕ) (o : Order) → order_in_limits o ≡ true → plan_in s ≡ found p next → plan_in (with_order i o s) ≡ found p next
unfolding plan_in
put-passes s i o h e = limited s e (λ f g. rw (limits-put s i o h f, g))

-- another slot is as it was
others-stay : (p : Plan) (x y : Offer) (s : State) (t : Tally) → (x.slot ≡ y.slot → ⊥) → order_of (stepped_alone p x s t).state y ≡ order_of s y
unfolding stepped_alone
others-stay p x y s t d = get_or-set_other s.orders x.slot y.slot _ no_order (λ e. d (sym e))

-- one such step
module _ (p : Plan) (s : State) (t : Tally) (x : Offer) (c : Offered p s x) (h : independent_at p x ≡ true) where
  has : has_step p (order_of s x) x ≡ true
  unfolding OwnOrderOffers
  has = (own-order-offers p s x h).0 c

  alone : taken p x s t ≡ stepped_alone p x s t
  unfolding OwnSlotChanges
  alone = own-slot-changes p s t x c h

  moved-limits : plan_within p ≡ true → every order_in_limits s.orders ≡ true → order_in_limits (step_order p x.activity (order_of s x)).order ≡ true
  moved-limits w l =
      let o : actor p s.orders x.slot ≡ order_of s x = pick_true (is_live (order_of s x)) _ _ (has-live p (order_of s x) x has) in
      let g = subst (λ (q : Order). Good p s.waiting q x.activity x.place) o (chosen-fine p s c.choice x c.is).good in
      step-limits p x.activity (order_of s x) w g.inside (good-room g) (order-limits s.orders x.slot l)

  -- the state after it passes 17
  after-passes : {next : ℕ} → plan_in s ≡ found p next → plan_in (taken p x s t).state ≡ found p next
  unfolding stepped_alone
  after-passes e = rw alone (put-passes s x.slot _ (moved-limits (limited s e (λ f g. accepted-is-within _ g)) (limited s e (λ f g. orders-limited s f))) e)

  still-offered : (y : Offer) → (x.slot ≡ y.slot → ⊥) → Offered p s y → independent_at p y ≡ true → Offered p (taken p x s t).state y
  unfolding OwnOrderOffers
  still-offered y d b g =
      rw alone ((own-order-offers p (stepped_alone p x s t).state y g).1
      (ap (λ (o : Order). has_step p o y) (others-stay p x y s t d) ∙ (own-order-offers p s y g).0 b))

-- two of them, one after the other
module _ (p : Plan) (s : State) (t : Tally) (x y : Offer) (d : x.slot ≡ y.slot → ⊥) (c : Offered p s x) (h : independent_at p x ≡ true)
    (b : Offered p s y) (g : independent_at p y ≡ true) where
  both-taken : taken_in_turn p x y s t ≡ stepped_alone p y (stepped_alone p x s t).state (stepped_alone p x s t).tally
  both-taken =
      alone p (taken p x s t).state (taken p x s t).tally y (still-offered p s t x c h y d b g) g
      ∙ ap (λ (r : Stepped). stepped_alone p y r.state r.tally) (alone p s t x c h)

  -- so the second moves as it would have moved as the first
  second-moves : step_order p y.activity (order_of (stepped_alone p x s t).state y) ≡ step_order p y.activity (order_of s y)
  second-moves = ap (step_order p y.activity) (others-stay p x y s t d)

  second-state : (taken_in_turn p x y s t).state
      ≡ with_order y.slot (step_order p y.activity (order_of s y)).order (with_order x.slot (step_order p x.activity (order_of s x)).order s)
  unfolding stepped_alone
  second-state =
      ap (λ (r : Stepped). r.state) both-taken
      ∙ ap (λ (m : Moved). with_order y.slot m.order (with_order x.slot (step_order p x.activity (order_of s x)).order s)) second-moves

  second-tally : (taken_in_turn p x y s t).tally
      ≡ count_end (step_order p y.activity (order_of s y)).end (count_end (step_order p x.activity (order_of s x)).end t)
  unfolding stepped_alone
  second-tally =
      ap (λ (r : Stepped). r.tally) both-taken ∙ ap (λ (m : Moved). count_end m.end (count_end (step_order p x.activity (order_of s x)).end t)) second-moves

  second-answer : (taken_in_turn p x y s t).answer ≡ (taken p y s t).answer
  unfolding stepped_alone
  second-answer =
      ap (λ (r : Stepped). r.answer) both-taken ∙ ap (λ (m : Moved). answering y m.end m.fault) second-moves ∙ ap (λ (r : Stepped). r.answer) (sym (alone p s t y b g))

-- what a pair of entries is, taken apart
pub apart : {A : Type 0} (p : Plan) (x y : Offer) → independent_pair p x y ≡ true
    → ((x.slot ≡ y.slot → ⊥) → independent_at p x ≡ true → independent_at p y ≡ true → A) → A
unfolding independent_pair
apart p x y e f =
    both (not (eqb x.slot y.slot)) _ e (λ a b.
    both (independent_at p x) _ b (λ c d. f (eqb-false x.slot y.slot (not-true _ a)) c d))

pub request-10 : Request10
unfolding EitherOrder orders_in
request-10 p next s t x y e c b i =
    apart p x y i (λ d h g.
    let d' : y.slot ≡ x.slot → ⊥ = λ q. d (sym q) in
    record {
      passes = after-passes p s t x c h e;
      still = still-offered p s t x c h y d b g;
      state = second-state p s t x y d c h b g
          ∙ ap (λ (l : List Order). orders_in l s) (slots-swap s.orders x.slot y.slot _ _ d)
          ∙ sym (second-state p s t y x d' b g c h);
      tally = second-tally p s t x y d c h b g ∙ counts-swap _ _ t ∙ sym (second-tally p s t y x d' b g c h);
      answer = second-answer p s t x y d c h b g;
    })
