-- Wrong variants of request 10, refuted by computed examples: sends included, takes included, two steps of one order included. Assumes nothing.
use Prim.Native.Nat.{ℕ}
use native.Mathlib.Omega.{arith}
use mathlib.Core.Path.{◌≡◌, refl, ap}
use mathlib.Core.Bool.{Bool, true, false, ◌&&◌}
use mathlib.Core.List.{List, []}
use lib.Dec.{eqb}
use borrow.Author.Tests.{eq-eqb}
use Rattle.plan.specs.Read.{read_plan}
use Rattle.plan.specs.Tree.{empty, act, none, Plan}
use Rattle.order.specs.Lists.{some}
use Rattle.machine.specs.declared.State.{State}
use Rattle.machine.specs.State.{no_tally}
use Rattle.machine.specs.Computing.{computing}
use Rattle.machine.specs.Limits.{by}
use Rattle.machine.specs.Offer.{Offer, offering, offers_of}
use Rattle.machine.specs.Calls.{choosing, taken}
use Rattle.either_order.specs.Independent.{independent, Offered, EitherOrder}
use Rattle.either_order.specs.Examples.{or_sends, or_takes, or_one_order, reached, sending, two_sends, nearly_full, opening, choose_and_take, setting_twice, two_sets, second}
use Rattle.either_order.proofs.Members.{nth_in, in_some}

-- the plan that some bytes spell
unfoldable plan_of : List ℕ → Plan
plan_of l = by (record { variables = 0; correlation = []; body = act empty none; fault = act empty none }) (λ p. p) (read_plan l)

-- an entry that is not in the offer
unfoldable is_entry : Offer → Offer → Bool
is_entry x y = eqb x.slot y.slot && (eqb x.activity y.activity && eqb x.place y.place)

not-offered : (p : Plan) (s : State) (x : Offer) → some (is_entry x) (offers_of p s).offered ≡ false → Offered p s x → ⊥
unfolding choosing is_entry
not-offered p s x e c =
    let h : is_entry x x ≡ true = rw (eq-eqb x.slot x.slot refl, eq-eqb x.activity x.activity refl, eq-eqb x.place x.place refl) in
    let g : some (is_entry x) (offers_of p s).offered ≡ true = in_some (is_entry x) (nth_in _ c.choice (offers_of p s).offered c.is) h in
    let z : ◌≡◌ {A = ℕ} 0 1 = cc in
    omega arith

-- the second send is held
pub not-with-sends : EitherOrder or_sends → ⊥
unfolding EitherOrder or_sends independent is_entry plan_of nearly_full two_sends reached sending computing
not-with-sends claim =
    let p = plan_of sending in
    let x = offering 0 2 0 in
    let y = offering 1 2 0 in
    let r = claim p 16 nearly_full no_tally x y refl (record { choice = 0; is = refl }) (record { choice = 1; is = refl }) refl in
    not-offered p (taken p x nearly_full no_tally).state y refl r.still

-- after a choose of another order the take is no longer on offer
pub not-with-takes : EitherOrder or_takes → ⊥
unfolding EitherOrder or_takes independent is_entry plan_of choose_and_take reached opening computing
not-with-takes claim =
    let p = plan_of opening in
    let x = offering 0 2 0 in
    let y = offering 1 6 0 in
    let r = claim p 29 choose_and_take no_tally x y refl (record { choice = 0; is = refl }) (record { choice = 1; is = refl }) refl in
    not-offered p (taken p x choose_and_take no_tally).state y refl r.still

-- the later of two sets decides
pub not-in-one-order : EitherOrder or_one_order → ⊥
unfolding EitherOrder or_one_order independent plan_of second two_sets reached setting_twice computing
not-in-one-order claim =
    let p = plan_of setting_twice in
    let x = offering 0 3 0 in
    let y = offering 0 4 0 in
    let r = claim p 26 two_sets no_tally x y refl (record { choice = 0; is = refl }) (record { choice = 1; is = refl }) refl in
    let z : ◌≡◌ {A = ℕ} 2 1 = ap second r.state in
    omega arith
