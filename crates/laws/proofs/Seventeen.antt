-- Refusal 17 computed: states with one number outside its limit, or without an accepted plan, in every call; and a fresh one, which passes. Assumes nothing.
use Prim.Native.Nat.{ℕ}
use mathlib.Core.Path.{◌≡◌, refl}
use mathlib.Core.Bool.{Bool, true, not, ◌&&◌}
use mathlib.Core.List.{List, [], ◌∷◌}
use lib.ListN.{set}
use lib.Dec.{eqb}
use Rattle.machine.specs.declared.Message.{Message}
use Rattle.order.specs.declared.Order.{Order}
use Rattle.machine.specs.declared.State.{State}
use Rattle.order.specs.Lists.{every}
use Rattle.order.specs.State.{no_order, marked, with_root}
use Rattle.machine.specs.State.{no_message, fresh, unplanned, no_tally, with_order, with_messages, adding}
use Rattle.machine.specs.Limits.{in_limits}
use Rattle.machine.specs.Calls.{post, collect, drop_at, preview, step, run}
use Rattle.machine.specs.Computing.{computing}
use Rattle.laws.specs.Replies.{answered_to}

-- document 01's plan A, and a message that starts an order of it
plan_a : List ℕ
plan_a = 1 ∷ 2 ∷ 1 ∷ 0 ∷ 2 ∷ 3 ∷ 5 ∷ 2 ∷ 0 ∷ 1 ∷ 0 ∷ []

abbrev letter : (partner operation count : ℕ) → List ℕ → Message
letter p o n l = record { partner = p; operation = o; count = n; values = l; reply = 0 }

abbrev holding : Order → State
holding o = with_order 7 o (fresh plan_a)

abbrev having : Message → State
having m = adding m (fresh plan_a)

-- the first bytes of plan A, as many as this; all numbers else as in a fresh state
abbrev cut : (length : ℕ) → State
cut n =
    record {
      plan = (fresh plan_a).plan;
      length = n;
      orders = (fresh plan_a).orders;
      messages = (fresh plan_a).messages;
      waiting = 0;
    }

abbrev with_bound : (place number : ℕ) → Order
with_bound v b =
    record {
      root = 0;
      marks = no_order.marks;
      values = no_order.values;
      bound = set no_order.bound v b;
      remembered = no_order.remembered;
      kept = 0;
      cause = 0;
    }

abbrev with_kept : (number : ℕ) → Order
with_kept n =
    record {
      root = 0;
      marks = no_order.marks;
      values = no_order.values;
      bound = no_order.bound;
      remembered = no_order.remembered;
      kept = n;
      cause = 0;
    }

abbrev with_cause : (number : ℕ) → Order
with_cause n =
    record {
      root = 0;
      marks = no_order.marks;
      values = no_order.values;
      bound = no_order.bound;
      remembered = no_order.remembered;
      kept = 0;
      cause = n;
    }

-- a mark, one with a choice that it has no use for, the mark of the root, likewise, a bound variable, the closings, the number of a fault, the messages, one message, the plan
wrong : List State
wrong =
    holding (marked 255 9 no_order) ∷ holding (marked 255 23 no_order) ∷ holding (with_root 2 no_order) ∷ holding (with_root 9 no_order) ∷ holding (with_root 17 no_order) ∷ holding (with_bound 15 2) ∷ holding (with_kept 33)
    ∷ holding (with_cause 6) ∷ holding (with_cause 15) ∷ holding (with_cause 256)
    ∷ with_messages (fresh plan_a).messages 65 (fresh plan_a)
    ∷ having (letter 64 5 1 (7 ∷ 0 ∷ 0 ∷ 0 ∷ []))
    ∷ having (letter 3 64 1 (7 ∷ 0 ∷ 0 ∷ 0 ∷ []))
    ∷ having (letter 3 5 0 (0 ∷ 0 ∷ 0 ∷ 0 ∷ []))
    ∷ having (letter 3 5 5 (7 ∷ 0 ∷ 0 ∷ 0 ∷ []))
    ∷ having (letter 3 5 2 (7 ∷ 9 ∷ 0 ∷ 1 ∷ []))
    ∷ having (answered_to 64 (letter 3 5 1 (7 ∷ 0 ∷ 0 ∷ 0 ∷ [])))
    ∷ cut 4097
    ∷ cut 12
    ∷ cut 10
    ∷ unplanned
    ∷ []

-- the same numbers at their limits, and marks with a choice
within : List State
within =
    fresh plan_a ∷ holding (marked 255 8 no_order) ∷ holding (marked 255 246 no_order) ∷ holding (with_root 6 no_order) ∷ holding (with_root 148 no_order) ∷ holding (with_bound 15 1) ∷ holding (with_kept 32)
    ∷ holding (with_cause 5) ∷ holding (with_cause 16) ∷ holding (with_cause 255)
    ∷ having (letter 63 63 1 (7 ∷ 0 ∷ 0 ∷ 0 ∷ []))
    ∷ having (letter 3 5 4 (7 ∷ 9 ∷ 0 ∷ 1 ∷ []))
    ∷ having (answered_to 63 (letter 3 5 1 (7 ∷ 0 ∷ 0 ∷ 0 ∷ [])))
    ∷ []

-- every call on a state answers 17, a run with an empty list and budget too
refuses : State → Bool
refuses s =
    eqb (post (letter 3 5 1 (7 ∷ 0 ∷ 0 ∷ 0 ∷ [])) s).refusal 17
    && (eqb (collect s).refusal 17
    && (eqb (drop_at 0 s).refusal 17
    && (eqb (preview 0 s).refusal 17 && (eqb (step 0 s no_tally).answer.refusal 17 && eqb (run [] 0 s no_tally).refusal 17))))

all_refused : every refuses wrong ≡ true
unfolding computing plan_a wrong refuses
all_refused = refl

all_pass : every (λ s. not (eqb (post (letter 3 5 1 (7 ∷ 0 ∷ 0 ∷ 0 ∷ [])) s).refusal 17)) within ≡ true
unfolding computing plan_a within
all_pass = refl
