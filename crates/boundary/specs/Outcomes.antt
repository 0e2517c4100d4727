-- Meaning: every outcome that the contract of a public call allows, and that any two of them are equal. Assumes nothing: these are definitions.
-- A record has the clauses of a call's `ensures`, over what it is given and over all that it gives and leaves: what it answers, and what stands afterwards
-- in each thing lent to it.
use Rattle.std.specs.Prelude.{ℕ, ◌+◌, ◌≡◌, List, map, length, Result, is_ok}
use Rattle.plan.specs.declared.Accepted.{Accepted}
use Rattle.plan.specs.declared.Refusal.{Refusal}
use Rattle.plan.specs.Answers.{answer_of, table_for, flags_for}
use Rattle.plan.specs.Read.{read_plan}
use Rattle.show.specs.declared.Shown.{Shown}
use Rattle.show.specs.Shown.{is_shown, shown_part, shown_start, shown_refusal, part_of, start_of, refusal_of, said}
use Rattle.machine.specs.declared.Collected.{Collected}
use Rattle.machine.specs.declared.Loaded.{Loaded}
use Rattle.machine.specs.declared.Message.{Message}
use Rattle.machine.specs.declared.Posted.{Posted}
use Rattle.machine.specs.declared.State.{State}
use Rattle.machine.specs.declared.Step.{Step}
use Rattle.machine.specs.declared.Tally.{Tally}
use Rattle.machine.specs.Calls as calls
use Rattle.machine.specs.Calls.{preview}
use Rattle.offer.specs.declared.Offered.{Offered}
use Rattle.offer.specs.Having.{offered_in}
use Rattle.step.specs.declared.Stepped.{Stepped}
use Rattle.step.specs.Stepping.{bare}
use Rattle.run.specs.declared.Ran.{Ran}
use Rattle.run.specs.Running.{ran_of}
use Rattle.run.specs.Telling.{told_in}
use Rattle.answers.specs.Numbering.{step_number, filled}
use Rattle.listing.specs.declared.Listed.{Listed}
use Rattle.listing.specs.Listing.{listed_in, listed_out}

-- "Any two outcomes allowed by a contract are shown equal": whatever is given, what is allowed is one thing
abbrev pub Fixed : {Given Outcome : Type 0} → (Given → Outcome → Type 0) → Type 0
Fixed {Given} {Outcome} Allowed = (x : Given) (a b : Outcome) → Allowed x a → Allowed x b → a ≡ b

-- the same of an answer that lends a part of what it was given: no contract says where in memory that lies, so outcomes are equal in all that they say
abbrev pub FixedAs : {Given Outcome Said : Type 0} → (Outcome → Said) → (Given → Outcome → Type 0) → Type 0
FixedAs {Given} {Outcome} {Said} say Allowed = (x : Given) (a b : Outcome) → Allowed x a → Allowed x b → say a ≡ say b

-- `plan::accept`: the answer, the table and the flags
pub record Accept (s : List ℕ) (o : Result Accepted Refusal × List ℕ × List ℕ) : Type 0 where
  pub is : o.0 ≡ answer_of (read_plan s)
  pub rows : o.1 ≡ table_for (read_plan s)
  pub flags : o.2 ≡ flags_for (read_plan s)

-- `show::show` of bytes and an activity: a part and its start, or a refusal
pub record Show (x : List ℕ × ℕ) (r : Result Shown ℕ) : Type 0 where
  pub given : is_ok r ≡ is_shown (read_plan x.0) x.1
  pub part : part_of r ≡ shown_part (read_plan x.0) x.0 x.1
  pub place : start_of r ≡ shown_start (read_plan x.0) x.1
  pub refused : refusal_of r ≡ shown_refusal (read_plan x.0) x.1

-- `machine::load`
pub record Load (s : List ℕ) (r : Loaded) : Type 0 where
  pub is : r ≡ calls.load s

-- `mail::post` and `mail::collect`
pub record Post (x : State × Message) (r : Posted) : Type 0 where
  pub is : r ≡ calls.post x.1 x.0

pub record Collect (s : State) (r : Collected) : Type 0 where
  pub is : r ≡ calls.collect s

-- `mail::drop_at` of a state and a place
pub record Drop (x : State × ℕ) (r : Collected) : Type 0 where
  pub is : r ≡ calls.drop_at x.1 x.0

-- `offer::offer` of a state and a choice, and `offer::offers`
pub record Offer (x : State × ℕ) (r : Step) : Type 0 where
  pub is : r ≡ preview x.1 x.0

pub record Offers (s : State) (r : Offered) : Type 0 where
  pub is : r ≡ offered_in s

-- `listing::list` of a state, a choice and a buffer: what it gives, and the buffer
pub record ListFrom (x : State × ℕ × List ℕ) (o : Listed × List ℕ) : Type 0 where
  pub is : o.0 ≡ listed_in x.1 x.0 (length x.2)
  pub out : o.1 ≡ listed_out x.1 x.0 x.2

-- `step::take_step` of a state, a choice and a tally; `step::step`, which leaves the tally in what was lent
pub record TakeStep (x : State × ℕ × Tally) (r : Stepped) : Type 0 where
  pub is : r ≡ bare (calls.step x.1 x.0 x.2)

pub record TakenStep (x : State × ℕ × Tally) (o : Stepped × Tally) : Type 0 where
  pub is : (o.0 ≡ bare (calls.step x.1 x.0 x.2)) × (o.1 ≡ o.0.tally)

-- `run::run` of a state, choices, a budget and a tally: what it gives, and what is left of the budget
pub record Run (x : State × List ℕ × ℕ × Tally) (o : Ran × ℕ) : Type 0 where
  pub is : o.0 ≡ ran_of (calls.run x.1 x.2 x.0 x.3)
  pub left : o.1 + o.0.taken ≡ x.2

-- `run::run_told` of the same and a buffer: what it gives, what is left of the budget, and the buffer
pub record RunTold (x : State × List ℕ × ℕ × Tally × List ℕ) (o : Ran × ℕ × List ℕ) : Type 0 where
  pub is : o.0 ≡ ran_of (calls.run x.1 x.2 x.0 x.3)
  pub left : o.1 + o.0.taken ≡ x.2
  pub told : o.2 ≡ filled 0 (map step_number (told_in x.1 x.2 x.0 x.3)) x.4

-- EVERY OUTCOME IS FIXED, of every public call of document 01, of drop, of a window of offers and of a run that is told.
pub record AllFixed : Type 0 where
  pub accept : Fixed Accept
  pub show : FixedAs said Show
  pub load : Fixed Load
  pub post : Fixed Post
  pub collect : Fixed Collect
  pub drop : Fixed Drop
  pub offer : Fixed Offer
  pub offers : Fixed Offers
  pub list : Fixed ListFrom
  pub take_step : Fixed TakeStep
  pub step : Fixed TakenStep
  pub run : Fixed Run
  pub run_told : Fixed RunTold
