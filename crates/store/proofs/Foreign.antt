-- Bytes that hold no state stand for the state with no plan, which earns 17 in every call. Assumes nothing.
use mathlib.Core.Path.{◌≡◌, refl}
use mathlib.Core.Bool.{true, false}
use mathlib.Core.List.{List}
use Prim.Native.Nat.{ℕ}
use Rattle.numbers.specs.Number.{number_at, groups}
use Rattle.plan.specs.Found.{refused, among, number_in}
use Rattle.plan.specs.Read.{read_any, read_plan, version_in}
use Rattle.order.specs.Expression.{is_fault_number}
use Rattle.order.specs.Lists.{every}
use Rattle.order.specs.State.{no_order}
use Rattle.machine.specs.declared.Message.{Message}
use Rattle.machine.specs.declared.Tally.{Tally}
use Rattle.machine.specs.Calls.{post, collect, preview, step, run}
use Rattle.machine.specs.Limits.{plan_in, in_limits, order_in_limits, root_in_limits, mark_in_limits}
use Rattle.machine.specs.State.{fresh, unplanned, no_tally}
use Rattle.store.specs.Packed.{holds, kept_as, unpacked}

pub unpacked-none : (l : List ℕ) → holds l ≡ false → unpacked l ≡ kept_as true unplanned no_tally
unfolding unpacked
unpacked-none l h = rw h

no-plan : plan_in unplanned ≡ refused 2 0
unfolding plan_in in_limits fresh every order_in_limits root_in_limits mark_in_limits is_fault_number among no_order read_any read_plan version_in number_in number_at groups
no-plan = refl

-- what the calls answer for such bytes
module _ (l : List ℕ) (h : holds l ≡ false) where
  none : plan_in (unpacked l).state ≡ refused 2 0
  none = rw (unpacked-none l h) no-plan

  pub post-none : (m : Message) → (post m (unpacked l).state).refusal ≡ 17
  unfolding post
  post-none m = rw none

  pub collect-none : (collect (unpacked l).state).refusal ≡ 17
  unfolding collect
  collect-none = rw none

  pub offer-none : (choice : ℕ) → (preview choice (unpacked l).state).refusal ≡ 17
  unfolding preview
  offer-none c = rw none

  pub step-none : (choice : ℕ) (t : Tally) → (step choice (unpacked l).state t).answer.refusal ≡ 17
  unfolding step
  step-none c t = rw none

  pub run_none : (choices : List ℕ) (budget : ℕ) (t : Tally) → (run choices budget (unpacked l).state t).refusal ≡ 17
  unfolding run
  run_none cs b t = rw none
