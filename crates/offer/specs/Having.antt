-- Meaning: a state with the plan that a table and flags are of, and the code's answers for an offer in it. Only `offered_in`, which the contract of `offers`
-- names, has to be believed: the rest is glue. Assumes nothing: these are definitions.
use Rattle.std.specs.Prelude.{ℕ, false, List, ◌≡◌, length}
use Rattle.plan.specs.Tree.{Plan}
use Rattle.order.specs.Answering.{Spelled}
use Rattle.machine.specs.declared.State.{State}
use Rattle.machine.specs.declared.Step.{Step}
use Rattle.machine.specs.Calls.{preview}
use Rattle.machine.specs.Limits.{plan_in, by}
use Rattle.machine.specs.Offer.{offers_of}
use Rattle.machine.specs.Planned.{Planned}
use Rattle.offer.specs.declared.Offered.{Offered}
use Rattle.fit.specs.Answering.{Correlated}

-- a state with the plan that a table and flags are of
pub record Has (t flags : List ℕ) (activities : ℕ) (s : State) : Type 0 where
  pub plan : Plan
  pub next : ℕ
  pub planned : Planned plan next s
  pub spelled : Spelled plan activities t
  pub correlated : Correlated plan flags

-- r is what a choice comes to in such a state
pub record OffersBy (t flags : List ℕ) (activities : ℕ) (s : State) (c : ℕ) (r : Step) : Type 0 where
  pub is : Has t flags activities s → r ≡ preview c s

-- how many steps are offered, and whether something is held; or 17
unfoldable pub offered_in : State → Offered
offered_in s =
    by (record { refusal = 17; many = 0; held = false })
    (λ p. record { refusal = 0; many = length (offers_of p s).offered; held = (offers_of p s).held })
    (plan_in s)
