-- The promises on variables and on the tally, computed: true of a run of the right engine, false of engines that spoil its steps, each judged by its own
-- answers and states. Assumes nothing.
use Prim.Native.Nat.{ℕ, ◌+◌}
use mathlib.Core.Path.{◌≡◌, refl}
use mathlib.Core.Bool.{Bool, true, false, cond, not, ◌&&◌, ◌||◌}
use mathlib.Core.List.{List, [], ◌∷◌, ◌++◌}
use lib.Dec.{eqb}
use lib.ListN.{get_or, drop, set, replicate}
use Rattle.plan.specs.Found.{Found, refused, found}
use Rattle.plan.specs.Read.{read_plan}
use Rattle.plan.specs.Tree.{Plan}
use Rattle.order.specs.declared.Order.{Order}
use Rattle.order.specs.declared.End.TheVariants.{Well, Handled, Failed, Left}
use Rattle.order.specs.Lists.{every, alike}
use Rattle.order.specs.State.{is_live, no_order}
use Rattle.order.specs.Taking.{act_in}
use Rattle.machine.specs.declared.State.{State}
use Rattle.machine.specs.declared.Tally.{Tally}
use Rattle.machine.specs.Calls.{loaded, post, collect, drop_at, counted, Stepped, step, Call, posting, collecting, dropping, stepping}
use Rattle.machine.specs.Computing.{computing}
use Rattle.machine.specs.State.{no_tally, with_order}
use Rattle.laws.specs.Known.{Known, unknown, known, known_in, last_of, take_gives, worth, own_gives, Told, free, is_here, given_in, unless_ended, told_after}
use Rattle.laws.specs.Counted.{up_to, start_of, end_of}
use Rattle.laws.specs.Starred.{message, of_tally}

-- An engine by its steps; what it did over some calls: the state and tally that it came to, the slot as its answers tell it, and what they count.
abbrev Engine : Type 0
Engine = ℕ → State → Tally → Stepped

record Did : Type 0 where
  state : State
  tally : Tally
  slot : Told
  counts : List ℕ

adds : List ℕ → List ℕ → List ℕ
adds [] m = []
adds (n ∷ l) m = (n + get_or m 0 0) ∷ adds l (drop 1 m)

-- what one step counts: the start and the four ends
step_counts : State → Stepped → List ℕ
step_counts s r = start_of s r ∷ end_of Well s r ∷ end_of Handled s r ∷ end_of Failed s r ∷ end_of Left s r ∷ []

next : Engine → Plan → Call → Did → Did
next f p (posting m) d = record { state = (post m d.state).state; tally = d.tally; slot = d.slot; counts = d.counts }
next f p collecting d = record { state = (collect d.state).state; tally = d.tally; slot = d.slot; counts = d.counts }
next f p (dropping j) d = record { state = (drop_at j d.state).state; tally = d.tally; slot = d.slot; counts = d.counts }
next f p (stepping c) d =
    let r = f c d.state d.tally in
    record { state = r.state; tally = r.tally; slot = told_after p 0 d.state r d.slot; counts = adds d.counts (step_counts d.state r) }

-- whether a test holds after every call
always : (Did → Bool) → Engine → Plan → List Call → Did → Bool
always test f p [] d = test d
always test f p (c ∷ l) d = test d && always test f p l (next f p c d)

-- whether slot 0 holds what is told of it, and whether the tally has counted
same_known : Known → Known → Bool
same_known unknown unknown = true
same_known unknown (known y) = false
same_known (known x) unknown = false
same_known (known x) (known y) = eqb x y

knows : Did → Bool
knows d =
    let o = get_or d.state.orders 0 no_order in
    cond (is_live o) (is_here d.slot) (not (is_here d.slot))
    && every (λ v. same_known (known_in o v) (last_of v (given_in d.slot))) (0 ∷ 1 ∷ 2 ∷ 15 ∷ 16 ∷ [])

has_counted : Did → Bool
has_counted d = alike (of_tally d.tally) d.counts

-- Correlation variable 0. Receive (0, 1) into 0 and 1; set 2 to what 1 holds and 1 more; receive (0, 2) into 0 and 1; receive (0, 3) into 1.
bytes : List ℕ
bytes = 1 ∷ 3 ∷ 1 ∷ 0 ∷ 8 ∷ 4 ∷ 2 ∷ 0 ∷ 1 ∷ 2 ∷ 0 ∷ 1 ∷ 3 ∷ 2 ∷ 2 ∷ 1 ∷ 1 ∷ 0 ∷ 1 ∷ 2 ∷ 0 ∷ 2 ∷ 2 ∷ 0 ∷ 1 ∷ 2 ∷ 0 ∷ 3 ∷ 1 ∷ 1 ∷ 0 ∷ []

-- an order that starts with 7 and 1, sets 2, and takes 7 and 5; it ends, and another starts in its slot with 9 and 4
begun : List Call
begun = message 0 1 (7 ∷ 1 ∷ []) ∷ stepping 0 ∷ stepping 0 ∷ message 0 2 (7 ∷ 5 ∷ []) ∷ stepping 0 ∷ []

again : List Call
again = begun ++ (message 0 3 (6 ∷ []) ∷ stepping 0 ∷ message 0 1 (9 ∷ 4 ∷ []) ∷ stepping 0 ∷ [])

judge : (Did → Bool) → Engine → List Call → Bool
judge test f l = by-plan (read_plan bytes)
  where
    by-plan : Found Plan → Bool
    by-plan (refused n k) = false
    by-plan (found p n) = always test f p l (record { state = loaded bytes; tally = no_tally; slot = free; counts = 0 ∷ 0 ∷ 0 ∷ 0 ∷ 0 ∷ [] })

-- the right engine
right_knows : (judge knows step begun && judge knows step again) ≡ true
unfolding computing act_in known_in last_of take_gives worth own_gives unless_ended told_after start_of end_of next always same_known knows bytes begun again judge adds step_counts
right_knows = refl

right_counts : (judge has_counted step begun && judge has_counted step again) ≡ true
unfolding computing act_in known_in last_of take_gives worth own_gives unless_ended told_after start_of end_of next always has_counted of_tally bytes begun again judge adds step_counts
right_counts = refl

-- a step whose order is changed behind its answer
spoils : ((before after : Order) → Order) → Engine
spoils f c s t =
    let r = step c s t in
    let i = r.answer.slot in
    record {
      answer = r.answer;
      state = cond (eqb r.answer.refusal 0) (with_order i (f (get_or s.orders i no_order) (get_or r.state.orders i no_order)) r.state) r.state;
      tally = r.tally;
      log = r.log;
    }

abbrev with_variables : (values bound : List ℕ) → Order → Order
with_variables xs bs o = record { root = o.root; marks = o.marks; values = xs; bound = bs; remembered = o.remembered; kept = o.kept; cause = o.cause }

-- a take and a set bind nothing: the premise of TakenInFull is then never met; nothing is bound anew; a step forgets another variable; only the first is bound;
-- the values stand at each other's places; a set leaves its variable; a variable is bound that nothing gave; a step forgets all; and an order
-- starts with what the one before it in the slot knew
binds_nothing : Engine
binds_nothing = spoils (λ before after. with_variables before.values before.bound after)

forgets : Engine
forgets = spoils (λ before after. with_variables after.values (set after.bound 0 0) after)

first_only : Engine
first_only = spoils (λ before after. with_variables after.values (set after.bound 1 0) after)

swapped : Engine
swapped = spoils (λ before after. with_variables (set (set after.values 0 (get_or after.values 1 0)) 1 (get_or after.values 0 0)) after.bound after)

keeps_old : Engine
keeps_old = spoils (λ before after. with_variables (set after.values 1 (get_or before.values 1 0)) after.bound after)

binds_more : Engine
binds_more = spoils (λ before after. with_variables after.values (set after.bound 15 1) after)

knows_before : Engine
knows_before = spoils (λ before after. cond (is_live before) (cond (is_live after) after (with_variables before.values before.bound after)) (with_variables after.values (replicate 16 1) after))

ends_silently : Engine
ends_silently = spoils (λ before after. cond (is_live before) no_order after)

none_knows :
    ((judge knows binds_nothing begun || judge knows forgets begun) || (judge knows first_only begun || judge knows swapped begun))
    || ((judge knows keeps_old begun || judge knows binds_more begun) || (judge knows knows_before again || judge knows ends_silently begun))
    ≡ false
unfolding computing act_in known_in last_of take_gives worth own_gives unless_ended told_after start_of end_of next always same_known knows bytes begun again judge adds step_counts spoils binds_nothing forgets first_only swapped keeps_old binds_more knows_before ends_silently
none_knows = refl

-- a step whose tally is changed behind its answer: nothing counted; each step counted as a start; an end counted as another
tallies : ((before after : Tally) → Tally) → Engine
tallies f c s t = let r = step c s t in record { answer = r.answer; state = r.state; tally = f t r.tally; log = r.log }

uncounted : Engine
uncounted = tallies (λ before after. before)

each_starts : Engine
each_starts = tallies (λ before after. record { started = counted before.started; well = after.well; handled = after.handled; failed = after.failed; left = after.left })

other_end : Engine
other_end = tallies (λ before after. record { started = after.started; well = after.failed; handled = after.handled; failed = after.well; left = after.left })

none_counts : (judge has_counted uncounted again || (judge has_counted each_starts again || judge has_counted other_end again)) ≡ false
unfolding computing act_in known_in last_of take_gives worth own_gives unless_ended told_after start_of end_of next always has_counted of_tally bytes begun again judge adds step_counts tallies uncounted each_starts other_end
none_counts = refl

-- "A count at 4,294,967,295 stays there.": one that goes back to 0, or one too many, is another
ceiling : (eqb (up_to 4294967295 1) 4294967295 && (eqb (up_to 4294967290 5) 4294967295 && eqb (up_to 4294967290 9) 4294967295)) ≡ true
unfolding up_to
ceiling = refl
