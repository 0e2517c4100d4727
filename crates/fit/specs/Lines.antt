-- Glue: the activities and arms of a plan as lines, one for each row of the plan's table, and what going through the rows comes to. Assumes nothing: these are
-- definitions, and nothing here has to be believed.
use Rattle.std.specs.Prelude.{ℕ, ◌+◌, ◌≤◌, ◌<◌, Bool, true, false, cond, ◌&&◌, List, [], ◌∷◌, ◌++◌, ◌≡◌, eqb, length, get_or}
use Rattle.plan.specs.Spells.{Spells, SpellsPlan, variables_of}
use Rattle.plan.specs.Tree.{Own, is_pick, has_undo, numbers_of, Act, act, Acts, none, more, Plan, size}
use Rattle.plan.specs.Within.{numbers_within, plan_within}
use Rattle.order.specs.declared.Order.{Order}
use Rattle.fit.specs.Answering.{arms_from}
use Rattle.machine.specs.Fit.{doing_of, awaits, Ready, Letter}
use Rattle.order.specs.State.{active}
use Rattle.fit.specs.Folds.{folded}

-- an activity or arm with its number, and whether arms are open where it stands
pub record Line : Type 0 where
  pub activity : ℕ
  pub own : Own
  pub within : Acts
  pub arms : Bool

-- activity k and all within it, ascending
unfoldable mutual
  pub lines_in : Act → (k : ℕ) → (arms : Bool) → List ℕ → List Line
  lines_in (act own within) k arms ms =
      record { activity = k; own = own; within = within; arms = arms }
      ∷ lines_among within (k + 1) (is_pick own && eqb (get_or ms k 0) active) ms

  pub lines_among : Acts → (c : ℕ) → (arms : Bool) → List ℕ → List Line
  lines_among none c arms ms = []
  lines_among (more a l) c arms ms = lines_in a c arms ms ++ lines_among l (c + size a) arms ms

unfoldable pub lines_of : Plan → (marks : List ℕ) → List Line
lines_of p ms = lines_in p.body 0 false ms ++ lines_in p.fault (size p.body) false ms

-- what a line awaits: itself, or nothing
abbrev pub is_ready : List ℕ → Line → Bool
is_ready ms x = awaits x.own x.arms (get_or ms x.activity 0)

abbrev pub ready_at : Line → Ready
ready_at x = record { activity = x.activity; step = doing_of x.own x.within x.activity }

unfoldable pub ready_line : List ℕ → Line → List Ready
ready_line ms x = cond (is_ready ms x) (ready_at x ∷ []) []

-- row k of the table, one of its 256, spells the line x, whose numbers are within their limits
pub record Stands (t ms : List ℕ) (k : ℕ) (x : Line) : Type 0 where
  pub place : ℕ
  pub node : ℕ
  pub inside : k < 256
  pub activity : x.activity ≡ k
  pub spelled : Spells (act x.own x.within) place k node t
  pub arms : x.arms ≡ arms_from t ms k k
  pub few : length (variables_of x.own) ≤ 4
  pub numbers : numbers_within (numbers_of x.own) (has_undo x.own) ≡ true

-- the table is that of the plan
pub record Tabled (p : Plan) (t : List ℕ) (activities : ℕ) : Type 0 where
  pub spells : SpellsPlan p t
  pub many : activities ≡ size p.body + size p.fault
  pub limited : plan_within p ≡ true

-- r is what f makes of the state c at row k, for any order that this is known of
pub record Rows {S : Type 0} (t : List ℕ) (k : ℕ) (Given : Order → Plan → List Letter → Type 0) (f : Order → Plan → List Letter → Line → S → S) (c r : S) : Type 0 where
  pub is : (o : Order) (p : Plan) (l : List Letter) (x : Line) → Given o p l → Stands t o.marks k x → r ≡ f o p l x c

-- at all rows, ascending
pub record Wholes {S : Type 0} (t : List ℕ) (activities : ℕ) (Given : Order → Plan → List Letter → Type 0) (f : Order → Plan → List Letter → Line → S → S) (c r : S) : Type 0 where
  pub is : (o : Order) (p : Plan) (l : List Letter) → Given o p l → Tabled p t activities → r ≡ folded (f o p l) (lines_of p o.marks) c
