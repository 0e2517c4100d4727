-- Meaning: two receives open for one thing, and the faults that a step makes of them. Assumes nothing: these are definitions.
use Rattle.std.specs.Prelude.{ℕ, zero, suc, ◌+◌, ◌*◌, Bool, true, false, cond, ◌&&◌, List, [], ◌∷◌, ◌++◌, get_or, eqb}
use Rattle.plan.specs.Tree.{From, partner_from, Plan, size}
use Rattle.order.specs.declared.Order.{Order}
use Rattle.order.specs.declared.End.{End}
use Rattle.order.specs.declared.End.TheVariants.{None, Well, Handled, Failed, Left}
use Rattle.order.specs.Lists.{some, alike}
use Rattle.order.specs.State.{active, inside, done, faulty, undoing, handling, halted, withdrawing, state_in}
use Rattle.order.specs.Event.{Event}
use Rattle.order.specs.Acting.{Actor, its_own, in_place, Moved, acted}
use Rattle.order.specs.Awaited.{Doing, no_step, sends, takes, moves, cuts, closes, Ready, ready_of, kind_at}

-- "a receive in an order with the partner, operation and variables of one already open there": the variables in the same order; where a reply partner is stored is
-- ignored
unfoldable pub is_thing : From → (operation : ℕ) → (variables : List ℕ) → Doing → Bool
is_thing p q vs no_step = false
is_thing p q vs (sends p' q' ws) = false
is_thing p q vs (takes p' q' ws) = eqb (partner_from p) (partner_from p') && (eqb q q' && alike vs ws)
is_thing p q vs moves = false
is_thing p q vs cuts = false
is_thing p q vs (closes undo s) = false

-- whether this is a receive or an arm, and one of these is for the same thing
unfoldable pub is_second : (before : List Ready) → Doing → Bool
is_second before no_step = false
is_second before (sends p q vs) = false
is_second before (takes p q vs) = some (λ r. is_thing p q vs r.step) before
is_second before moves = false
is_second before cuts = false
is_second before (closes undo s) = false

-- What is open, judged: no two are for one thing; or "of several pairs the one whose higher number is least", by that number.
pub data Verdict : Type 0 where
  clear : Verdict
  clash : (higher : ℕ) → Verdict

-- of what is awaited, ascending, the first that is for the same thing as one before it: the higher of its pair, and no other pair has a lower one
unfoldable pub clash_after : (before : List Ready) → List Ready → Verdict
clash_after before [] = clear
clash_after before (r ∷ l) = elim (is_second before r.step) [ true ↦ clash r.activity | false ↦ clash_after (r ∷ before) l ]

-- "Two arms of one pick count too.": arms are awaited like receives
unfoldable pub conflict : Plan → Order → Verdict
conflict p o = clash_after [] (ready_of p o)

-- what happened before comes first
abbrev pub following : List Event → Moved → Moved
following l m = record { end = m.end; fault = m.fault; order = m.order; log = l ++ m.log }

-- "it also does what a raise standing in place of the higher-numbered of the two would do"
abbrev pub upon : (Moved → Moved) → Plan → Moved → Verdict → Moved
upon rest p m clear = m
upon rest p m (clash k) = rest (following m.log (acted in_place p k m.order))

-- "Receives open after the step are judged; .. and what stays open is judged again", at most n times. An order that has ended has none open.
unfoldable pub judged : (n : ℕ) → Plan → Moved → Moved
judged zero p m = m
judged (suc n) p m =
    elim m.end [
      | None ↦ upon (judged n p) p m (conflict p m.order)
      | Well ↦ m
      | Handled ↦ m
      | Failed ↦ m
      | Left ↦ m
    ]

-- How far a mark is from idle, for an activity of this kind: a scope is active, done, faulty or stopped, undoing, handling; a repeat that has decided
-- decides again; anything else is active and then inside. Nothing but a beginning leads back up.
unfoldable pub rank : (kind mark : ℕ) → ℕ
rank n mark =
    let m = state_in mark in
    cond (eqb m inside) (cond (eqb n 7) 8 6)
    (cond (eqb m active) 7
    (cond (eqb m done) 6
    (cond (eqb m faulty) 5
    (cond (eqb m halted) 4
    (cond (eqb m undoing) 3
    (cond (eqb m withdrawing) 2
    (cond (eqb m handling) 1 0)))))))

-- the ranks of n marks from k on as one number to the base 9, the first the most significant, after x
unfoldable pub weight : (kinds : ℕ → ℕ) → (k n : ℕ) → List ℕ → (x : ℕ) → ℕ
weight f k zero ms x = x
weight f k (suc n) ms x = weight f (k + 1) n ms (x * 9 + rank (f k) (get_or ms k 0))

-- A raise in place of an open receive lowers the first rank that it changes, that of the root coming before all others: what begins with it stands behind
-- what is over with it. So an order can be judged no more often than this.
unfoldable pub spare : Plan → Order → ℕ
spare p o = weight (kind_at p) 0 (size p.body + size p.fault) o.marks (rank 11 o.root)

-- judged until no two are for one thing
unfoldable pub settled : Plan → Moved → Moved
settled p m = judged (spare p m.order) p m

-- a step of an order, the one that starts it too: activity t has its step, and what is open then is judged
unfoldable pub step_order : Plan → (t : ℕ) → Order → Moved
step_order p t o = settled p (acted its_own p t o)
