-- Meaning: what is taken back in any scope of a plan, at any depth, told by the answers of the steps taken alone, while an order runs and not only at its end: the
-- twin of Answered, which keeps its book for the root. Assumes nothing: these are definitions.
use Rattle.std.specs.Prelude.{ℕ, ◌≡◌, Bool, true, ◌&&◌, List, [], ◌∷◌, leb}
use Rattle.plan.specs.Found.{found}
use Rattle.plan.specs.Read.{read_plan}
use Rattle.plan.specs.Tree.{Plan}
use Rattle.machine.specs.declared.Step.{Step}
use Rattle.machine.specs.declared.Tally.{Tally}
use Rattle.order.specs.Lists.{every}
use Rattle.machine.specs.Calls.{loaded, Call}
use Rattle.undoing.specs.Demand3.{scopes_of}
use Rattle.undoing.specs.Answered.{back_of, answered, often_in, going_on}

-- AT MOST AS OFTEN. Of every scope of the plan: each step that takes it back was answered, in this order, at most as often as the scope closed. Where it holds of
-- all answers up to each, a closing is taken back at most once, and never before it was made.
unfoldable pub no_oftener : Plan → (steps : List ℕ) → Bool
no_oftener p ks = every (λ x. every (λ t. leb (often_in t ks) (often_in x.number ks)) (back_of p x.number)) (scopes_of p)

-- the answers in a slot, oldest first, where these steps of its order were answered before, the newest first
unfoldable pub never_oftener : Plan → (steps : List ℕ) → List Step → Bool
never_oftener p ks [] = true
never_oftener p ks (x ∷ l) = let js = x.activity ∷ ks in no_oftener p js && never_oftener p (going_on x.end js) l

-- For every accepted plan, every run of posts, collects and choices from a fresh start, and every slot; also where the order failed or left.
unfoldable pub NeverTakenBackTwice : Type 0
NeverTakenBackTwice =
    (bytes : List ℕ) (p : Plan) (next : ℕ) → read_plan bytes ≡ found p next → (calls : List Call) (slot : ℕ) (t : Tally) →
    never_oftener p [] (answered calls slot (loaded bytes) t) ≡ true
