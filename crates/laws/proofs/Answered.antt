-- A reply address computed: a receive of code 18 stores whom to reply to, and a send of code 17 sends there, with its own reply partner; a held partner above 63 makes a send fault with
-- 5, and an unbound variable with 1 first. Assumes nothing.
use Prim.Native.Nat.{ℕ}
use mathlib.Core.Path.{◌≡◌, refl}
use mathlib.Core.List.{List, [], ◌∷◌}
use lib.ListN.{length}
use Rattle.order.specs.Lists.{stored}
use Rattle.machine.specs.declared.Message.{Message}
use Rattle.machine.specs.declared.State.{State}
use Rattle.machine.specs.Calls.{loaded, post, step}
use Rattle.machine.specs.Computing.{computing}
use Rattle.machine.specs.State.{letters, no_tally}

abbrev letter : (partner operation : ℕ) → List ℕ → (reply : ℕ) → Message
letter p o l r = record { partner = p; operation = o; count = length l; values = stored 4 l; reply = r }

-- a receive from partner 3, operation 5, variable 0, whom to reply to in variable 2; a send to the partner that variable 2 holds, operation 6, variable 0, with the reply partner 9
asked : List ℕ
asked = 1 ∷ 3 ∷ 1 ∷ 0 ∷ 8 ∷ 2 ∷ 18 ∷ 3 ∷ 5 ∷ 1 ∷ 0 ∷ 2 ∷ 17 ∷ 2 ∷ 6 ∷ 1 ∷ 0 ∷ 9 ∷ 0 ∷ []

-- the same receive of code 2, variables 0 and 1; the send is to the partner that the variable `to` holds
named : (to : ℕ) → List ℕ
named v = 1 ∷ 3 ∷ 1 ∷ 0 ∷ 8 ∷ 2 ∷ 2 ∷ 3 ∷ 5 ∷ 2 ∷ 0 ∷ 1 ∷ 17 ∷ v ∷ 6 ∷ 1 ∷ 0 ∷ 9 ∷ 0 ∷ []

-- a message arrives, an order starts with it
started : List ℕ → Message → State
started bytes m = (step 0 (post m (loaded bytes)).state no_tally).state

replied : letters (step 0 (started asked (letter 3 5 (7 ∷ []) 40)) no_tally).state ≡ letter 40 6 (7 ∷ []) 9 ∷ []
unfolding computing asked started
replied = refl

reached : letters (step 0 (started (named 1) (letter 3 5 (7 ∷ 63 ∷ []) 40)) no_tally).state ≡ letter 63 6 (7 ∷ []) 9 ∷ []
unfolding computing named started
reached = refl

beyond : (step 0 (started (named 1) (letter 3 5 (7 ∷ 64 ∷ []) 40)) no_tally).answer.fault ≡ 5
unfolding computing named started
beyond = refl

unbound : (step 0 (started (named 2) (letter 3 5 (7 ∷ 64 ∷ []) 40)) no_tally).answer.fault ≡ 1
unfolding computing named started
unbound = refl

refused : (post (letter 3 5 (7 ∷ []) 64) (loaded asked)).refusal ≡ 13
unfolding computing asked
refused = refl
