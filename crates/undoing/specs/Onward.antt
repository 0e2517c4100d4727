-- Meaning: what runs goes on: nothing is dropped, what follows begins, and what is decided is done. Of every step taken, against the order that had it. Assumes
-- nothing: these are definitions.
use Rattle.std.specs.Prelude.{ℕ, ◌+◌, ◌≡◌, Bool, true, false, cond, not, ◌&&◌, ◌||◌, List, [], ◌∷◌, get_or, leb, ltb, eqb}
use Rattle.plan.specs.Found.{found}
use Rattle.plan.specs.Read.{read_plan}
use Rattle.plan.specs.Tree.{Own, empty, send, receive, set as setting, raise, leave, choose, repeat, sequence, flow, pick, scope, arm, kind, Act, act, Acts, none, more, Plan, size, sizes}
use Rattle.order.specs.declared.Order.{Order}
use Rattle.machine.specs.declared.Tally.{Tally}
use Rattle.order.specs.Lists.{every, some}
use Rattle.order.specs.State.{idle, mark_at, is_live}
use Rattle.order.specs.Event.{Event}
use Rattle.order.specs.Expression.{Value, fault, value, evaluate, is_true}
use Rattle.order.specs.Begin.{part_at, quiet}
use Rattle.order.specs.Acting.{started_order}
use Rattle.order.specs.Taking.{act_at}
use Rattle.machine.specs.Calls.{loaded, Call}
use Rattle.undoing.specs.Begun.{kind_at, lasts, has_began, Taken, steps_taken}
use Rattle.undoing.specs.Entirely.{OfEveryStep, is_rash, stands_in}

-- the order that had the step: the one that stood in the slot, or the one that starts
abbrev pub had_by : Plan → Taken → Order
had_by p x = cond (is_live x.before) x.before (started_order p)

-- KEPT. Nothing is dropped: in a step that is neither a raise nor a leave what lasts and runs is still marked afterwards, unless the step stands in it, or it stands
-- in the activity whose step it is ("Repeat begins its body afresh each time"). And a repeat only where that step is its own: when its body is over it decides again.
abbrev pub stands_under : Plan → Taken → (activity : ℕ) → Bool
stands_under p x k = ltb x.activity k && ltb k (x.activity + size (act_at p x.activity))

abbrev pub may_be_over : Plan → Taken → (activity : ℕ) → Bool
may_be_over p x k = stands_in p x k && not (eqb (kind_at p k) 7 && ltb k x.activity)

unfoldable pub is_kept : Plan → Taken → (activity : ℕ) → Bool
is_kept p x k =
    (some is_rash x.log || not (lasts (kind_at p k)))
    || (eqb (mark_at k (had_by p x)) idle || ((may_be_over p x k || stands_under p x k) || not (eqb (mark_at k x.after) idle)))

unfoldable pub KeptRunning : Type 0
KeptRunning = OfEveryStep is_kept

-- PASSED ON. "when that ends, the next"; "root body done": in a step that is neither a raise nor a leave a sequence that has the step in it runs on, something in it
-- being marked, and does not begin again; or all that follows in it, after the one with the step, has begun in this step. So none is over before its last.

-- each of these began
unfoldable pub each_began : Acts → (c : ℕ) → List Event → Bool
each_began none c l = true
each_began (more a r) c l = has_began c l && each_began r (c + size a) l

-- each of these after the one with the step
unfoldable pub later_began : Acts → (c t : ℕ) → List Event → Bool
later_began none c t l = true
later_began (more a r) c t l = elim (ltb t (c + size a)) [ true ↦ each_began r (c + size a) l | false ↦ later_began r (c + size a) t l ]

-- a sequence k, by the marks after the step; with an order that starts it began before its step
unfoldable pub goes_on : (started : Bool) → Acts → (k t : ℕ) → (after : List ℕ) → List Event → Bool
goes_on v within k t ns l = ((v || not (has_began k l)) && not (quiet (k + 1) (sizes within) ns)) || later_began within (k + 1) t l

-- of every sequence on the way to step t that was marked before
unfoldable mutual
  pub passes_in : (started : Bool) → Act → (k t : ℕ) → (before after : List ℕ) → List Event → Bool
  passes_in v (act own within) k t ms ns l =
      eqb k t || (((not (eqb (kind own) 8) || eqb (get_or ms k 0) idle) || goes_on v within k t ns l) && passes_among v within (k + 1) t ms ns l)

  pub passes_among : (started : Bool) → Acts → (c t : ℕ) → (before after : List ℕ) → List Event → Bool
  passes_among v none c t ms ns l = true
  passes_among v (more a r) c t ms ns l = elim (ltb t (c + size a)) [ true ↦ passes_in v a c t ms ns l | false ↦ passes_among v r (c + size a) t ms ns l ]

unfoldable pub is_passed : Plan → Taken → Bool
is_passed p x =
    some is_rash x.log || passes_among (not (is_live x.before)) (more p.body (more p.fault none)) 0 x.activity (had_by p x).marks x.after.marks x.log

unfoldable pub PassedOn : Type 0
PassedOn =
    (bytes : List ℕ) (p : Plan) (next : ℕ) → read_plan bytes ≡ found p next → (calls : List Call) (slot : ℕ) (t : Tally) →
    every (is_passed p) (steps_taken p calls slot (loaded bytes) t) ≡ true

-- DECIDED. "decide (choose or repeat)": in its step a choose begins its first part where its expression is true, else its second, and a repeat its body where its
-- expression is true; by the variables of the order that had the step.
abbrev pub picked_by : (ℕ → List ℕ) → Value → List ℕ
picked_by f (fault x) = []
picked_by f (value n) = f n

unfoldable pub picks : Own → (within : Acts) → (k : ℕ) → Order → List ℕ
picks empty within k o = []
picks (send p op vs) within k o = []
picks (receive p op vs) within k o = []
picks (setting v e) within k o = []
picks (raise n) within k o = []
picks leave within k o = []
picks (choose e) within k o = picked_by (λ n. part_at (cond (is_true n) 0 1) within (k + 1) ∷ []) (evaluate e o)
picks (repeat e) within k o = picked_by (λ n. cond (is_true n) (part_at 0 within (k + 1) ∷ []) []) (evaluate e o)
picks sequence within k o = []
picks flow within k o = []
picks pick within k o = []
picks (scope ns undo) within k o = []
picks (arm p op vs) within k o = []

-- of activity t
unfoldable mutual
  pub picks_in : Act → (k t : ℕ) → Order → List ℕ
  picks_in (act own within) k t o = elim (eqb k t) [ true ↦ picks own within k o | false ↦ picks_among within (k + 1) t o ]

  pub picks_among : Acts → (c t : ℕ) → Order → List ℕ
  picks_among none c t o = []
  picks_among (more a l) c t o = elim (ltb t (c + size a)) [ true ↦ picks_in a c t o | false ↦ picks_among l (c + size a) t o ]

unfoldable pub picks_at : Plan → (t : ℕ) → Order → List ℕ
picks_at p t o =
    elim (ltb t (size p.body)) [ true ↦ picks_in p.body 0 t o | false ↦ picks_in p.fault (size p.body) t o ]

unfoldable pub is_decided : Plan → Taken → Bool
is_decided p x = every (λ j. has_began j x.log) (picks_at p x.activity (had_by p x))

unfoldable pub Decided : Type 0
Decided =
    (bytes : List ℕ) (p : Plan) (next : ℕ) → read_plan bytes ≡ found p next → (calls : List Call) (slot : ℕ) (t : Tally) →
    every (is_decided p) (steps_taken p calls slot (loaded bytes) t) ≡ true
