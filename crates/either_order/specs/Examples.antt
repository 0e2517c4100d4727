-- Glue: small examples, computed: a pair of steps that request 10 speaks of, and of each thing that it does not claim one: sends, takes, steps of one order,
-- and the numbers of the choices. Assumes nothing, and nothing here has to be believed.
use Rattle.std.specs.Prelude.{ℕ, ◌≡◌, refl, Bool, true, false, cond, not, ◌&&◌, ◌||◌, List, [], ◌∷◌, ◌++◌, length, get_or, replicate, eqb}
use Rattle.plan.specs.Tree.{Plan}
use Rattle.order.specs.Lists.{each, stored}
use Rattle.order.specs.State.{is_live, no_order, value_of}
use Rattle.machine.specs.declared.Message.{Message}
use Rattle.machine.specs.declared.State.{State}
use Rattle.machine.specs.declared.Tally.{Tally}
use Rattle.machine.specs.State.{no_message, letters, with_messages, no_tally}
use Rattle.machine.specs.Fit.{Doing, no_step, sends, takes, moves, cuts, closes}
use Rattle.machine.specs.Limits.{plan_in, by}
use Rattle.machine.specs.Offer.{Offer, offers_of}
use Rattle.machine.specs.Calls.{doing_at, loaded, post, collect, drop_at, preview, step, Call, posting, collecting, dropping, stepping}
use Rattle.machine.specs.Computing.{computing}
use Rattle.either_order.specs.Independent.{independent_at, is_take, of_different_orders}

-- the state after these calls
unfoldable pub reached : List Call → State → State
reached [] s = s
reached (posting m ∷ l) s = reached l (post m s).state
reached (collecting ∷ l) s = reached l (collect s).state
reached (dropping i ∷ l) s = reached l (drop_at i s).state
reached (stepping c ∷ l) s = reached l (step c s no_tally).state

abbrev pub holding : (partner operation : ℕ) → List ℕ → Message
holding p o l = record { partner = p; operation = o; count = length l; values = stored 4 l; reply = 0 }

-- the offer as numbers: slot, activity and place of each entry
unfoldable pub entries : List Offer → List ℕ
entries l = each (λ x. x.slot ∷ x.activity ∷ x.place ∷ []) l

unfoldable pub offer : State → List ℕ
offer s = by [] (λ p. entries (offers_of p s).offered) (plan_in s)

unfoldable pub is_held : State → Bool
is_held s = by false (λ p. (offers_of p s).held) (plan_in s)

-- the messages that wait, by their first values
unfoldable pub waits : State → List ℕ
waits s = each (λ m. get_or m.values 0 0 ∷ []) (letters s)

-- WHAT IS CLAIMED. A receive 1; by what it took a choose 2 between a set 3 to the value of an unbound variable, which acts as a raise, and a leave
-- 4; an empty fault part. Two orders have decided, one for the set and one for the leave. Whichever of the two steps is taken first, no order is
-- live after both and the tally is the same, with one count of ends at its ceiling and the other next to it.
unfoldable pub deciding : List ℕ
deciding = 1 ∷ 3 ∷ 0 ∷ 8 ∷ 2 ∷ 2 ∷ 0 ∷ 0 ∷ 1 ∷ 0 ∷ 6 ∷ 1 ∷ 0 ∷ 3 ∷ 1 ∷ 1 ∷ 2 ∷ 5 ∷ 0 ∷ []

unfoldable pub decided : State
decided =
    reached (posting (holding 0 0 (1 ∷ [])) ∷ stepping 0 ∷ posting (holding 0 0 (0 ∷ [])) ∷ stepping 1 ∷ stepping 0 ∷ stepping 1 ∷ [])
    (loaded deciding)

set_and_leave : offer decided ≡ 0 ∷ 3 ∷ 0 ∷ 1 ∷ 4 ∷ 0 ∷ []
unfolding offer entries decided reached deciding computing
set_and_leave = refl

unfoldable pub near_ceiling : Tally
near_ceiling = record { started = 2; well = 0; handled = 4294967295; failed = 0; left = 4294967294 }

-- a 1 for each live order, and the two counts, after the steps at these choices
unfoldable pub after_two : (c d : ℕ) → List ℕ
after_two c d =
    let r = step c decided near_ceiling in
    let q = step d r.state r.tally in
    each (λ o. cond (is_live o) (1 ∷ []) []) q.state.orders ++ (q.tally.handled ∷ q.tally.left ∷ [])

either_way : (after_two 0 0 ≡ 4294967295 ∷ 4294967295 ∷ []) × (after_two 1 0 ≡ 4294967295 ∷ 4294967295 ∷ [])
unfolding after_two near_ceiling decided reached deciding computing
either_way = (refl, refl)

-- NOT CLAIMED: SENDS. A receive 1 and then a send 2 of what it took; two orders, which took 5 and 6, have their sends on offer.
unfoldable pub sending : List ℕ
sending = 1 ∷ 1 ∷ 0 ∷ 8 ∷ 2 ∷ 2 ∷ 0 ∷ 0 ∷ 1 ∷ 0 ∷ 1 ∷ 2 ∷ 1 ∷ 1 ∷ 0 ∷ 0 ∷ []

unfoldable pub two_sends : State
two_sends = reached (posting (holding 0 0 (5 ∷ [])) ∷ stepping 0 ∷ posting (holding 0 0 (6 ∷ [])) ∷ stepping 1 ∷ []) (loaded sending)

sends_offered : offer two_sends ≡ 0 ∷ 2 ∷ 0 ∷ 1 ∷ 2 ∷ 0 ∷ []
unfolding offer entries two_sends reached sending computing
sends_offered = refl

-- the messages arrive in the order of the sends
first_then_second : waits (reached (stepping 0 ∷ stepping 0 ∷ []) two_sends) ≡ 5 ∷ 6 ∷ []
unfolding waits two_sends reached sending computing
first_then_second = refl

second_then_first : waits (reached (stepping 1 ∷ stepping 0 ∷ []) two_sends) ≡ 6 ∷ 5 ∷ []
unfolding waits two_sends reached sending computing
second_then_first = refl

-- and where 63 messages wait, the first send fills the table: the second is held
unfoldable pub nearly_full : State
nearly_full = with_messages (replicate 63 (holding 2 1 (7 ∷ [])) ++ (no_message ∷ [])) 63 two_sends

both_offered : offer nearly_full ≡ 0 ∷ 2 ∷ 0 ∷ 1 ∷ 2 ∷ 0 ∷ []
unfolding offer entries nearly_full two_sends reached sending computing
both_offered = refl

second_held : (offer (reached (stepping 0 ∷ []) nearly_full) ≡ []) × (is_held (reached (stepping 0 ∷ []) nearly_full) ≡ true)
unfolding offer is_held entries nearly_full two_sends reached sending computing
second_held = (refl, refl)

-- so the claim is false with sends included (`not-with-sends`)
abbrev pub is_send : Doing → Bool
is_send d = elim d [ no_step ↦ false | sends p o vs ↦ true | takes p o vs ↦ false | moves ↦ false | cuts ↦ false | closes undo s ↦ false ]

unfoldable pub or_sends : Plan → (x y : Offer) → Bool
or_sends p x y =
    of_different_orders x y
    && ((independent_at p x || is_send (doing_at p x.activity)) && (independent_at p y || is_send (doing_at p y.activity)))

-- A receive 1, then a send 3 beside a receive 4 of what is sent so; two orders. What one sends may be taken by the other: that take is on offer
-- after the send only.
unfoldable pub passing : List ℕ
passing = 1 ∷ 2 ∷ 0 ∷ 8 ∷ 2 ∷ 2 ∷ 0 ∷ 0 ∷ 1 ∷ 0 ∷ 9 ∷ 2 ∷ 1 ∷ 3 ∷ 1 ∷ 1 ∷ 0 ∷ 2 ∷ 3 ∷ 1 ∷ 1 ∷ 1 ∷ 0 ∷ []

unfoldable pub two_passing : State
two_passing = reached (posting (holding 0 0 (5 ∷ [])) ∷ stepping 0 ∷ posting (holding 0 0 (6 ∷ [])) ∷ stepping 1 ∷ []) (loaded passing)

nothing_to_take : offer two_passing ≡ 0 ∷ 3 ∷ 0 ∷ 1 ∷ 3 ∷ 0 ∷ []
unfolding offer entries two_passing reached passing computing
nothing_to_take = refl

-- NOT CLAIMED: TAKES. After that send either order may take the message; once one has, the other may not.
unfoldable pub one_message : State
one_message = reached (stepping 0 ∷ []) two_passing

either_takes : offer one_message ≡ 0 ∷ 4 ∷ 0 ∷ 1 ∷ 3 ∷ 0 ∷ 1 ∷ 4 ∷ 0 ∷ []
unfolding offer entries one_message two_passing reached passing computing
either_takes = refl

other_may_not : offer (reached (stepping 0 ∷ []) one_message) ≡ 1 ∷ 3 ∷ 0 ∷ []
unfolding offer entries one_message two_passing reached passing computing
other_may_not = refl

-- A receive 1, then receives 3 and 4 beside each other that bind one correlation variable; two orders, and a message for each of the two. Before
-- any is taken, either order may take either. Once order 0 has taken the first, the second fits order 0 with no place unchecked, so order 1 may not
-- take it any more.
unfoldable pub correlating : List ℕ
correlating = 1 ∷ 2 ∷ 1 ∷ 0 ∷ 8 ∷ 2 ∷ 2 ∷ 0 ∷ 0 ∷ 1 ∷ 1 ∷ 9 ∷ 2 ∷ 2 ∷ 0 ∷ 1 ∷ 1 ∷ 0 ∷ 2 ∷ 0 ∷ 2 ∷ 1 ∷ 0 ∷ 0 ∷ []

unfoldable pub two_messages : State
two_messages =
    reached (posting (holding 0 0 (5 ∷ [])) ∷ stepping 0 ∷ posting (holding 0 0 (6 ∷ [])) ∷ stepping 0
    ∷ posting (holding 0 1 (7 ∷ [])) ∷ posting (holding 0 2 (7 ∷ [])) ∷ []) (loaded correlating)

all_may_take : offer two_messages ≡ 0 ∷ 3 ∷ 0 ∷ 0 ∷ 4 ∷ 1 ∷ 1 ∷ 3 ∷ 0 ∷ 1 ∷ 4 ∷ 1 ∷ []
unfolding offer entries two_messages reached correlating computing
all_may_take = refl

one_may_take : offer (reached (stepping 0 ∷ []) two_messages) ≡ 0 ∷ 4 ∷ 0 ∷ []
unfolding offer entries two_messages reached correlating computing
one_may_take = refl

-- A pick 0 with an arm 1, after which a choose 2 opens a receive 3 of the correlation variable that the arm bound, and an arm 5 with a receive 6 of
-- it, not bound yet; two orders, one by each arm, and a message that fits receive 6. Once order 0 has decided, the message fits its receive with no
-- place unchecked, so order 1 may not take it any more: a step of the kinds of request 10 changes what fits, and so what another order may take.
unfoldable pub opening : List ℕ
opening =
    1 ∷ 2 ∷ 1 ∷ 0 ∷ 10 ∷ 2 ∷ 0 ∷ 0 ∷ 1 ∷ 0 ∷ 6 ∷ 0 ∷ 1 ∷ 2 ∷ 0 ∷ 1 ∷ 1 ∷ 0 ∷ 0 ∷ 0 ∷ 2 ∷ 1 ∷ 1 ∷ 2 ∷ 0 ∷ 1 ∷ 1 ∷ 0 ∷ 0 ∷ []

unfoldable pub choose_and_take : State
choose_and_take =
    reached (posting (holding 0 0 (7 ∷ [])) ∷ stepping 0 ∷ posting (holding 0 2 (5 ∷ [])) ∷ stepping 1 ∷ posting (holding 0 1 (7 ∷ [])) ∷ [])
    (loaded opening)

choose_or_take : offer choose_and_take ≡ 0 ∷ 2 ∷ 0 ∷ 1 ∷ 6 ∷ 0 ∷ []
unfolding offer entries choose_and_take reached opening computing
choose_or_take = refl

take_lost : offer (reached (stepping 0 ∷ []) choose_and_take) ≡ 0 ∷ 3 ∷ 0 ∷ []
unfolding offer entries choose_and_take reached opening computing
take_lost = refl

-- so the claim is false with takes included (`not-with-takes`)
unfoldable pub or_takes : Plan → (x y : Offer) → Bool
or_takes p x y =
    of_different_orders x y
    && ((independent_at p x || is_take (doing_at p x.activity)) && (independent_at p y || is_take (doing_at p y.activity)))

-- NOT CLAIMED: STEPS OF ONE ORDER. A receive 1, then sets 3 and 4 of one variable to 1 and to 2 beside each other, then a receive 5: the later set
-- decides.
unfoldable pub setting_twice : List ℕ
setting_twice = 1 ∷ 2 ∷ 0 ∷ 8 ∷ 3 ∷ 2 ∷ 0 ∷ 0 ∷ 1 ∷ 0 ∷ 9 ∷ 2 ∷ 3 ∷ 1 ∷ 0 ∷ 1 ∷ 3 ∷ 1 ∷ 0 ∷ 2 ∷ 2 ∷ 0 ∷ 1 ∷ 1 ∷ 0 ∷ 0 ∷ []

unfoldable pub two_sets : State
two_sets = reached (posting (holding 0 0 (5 ∷ [])) ∷ stepping 0 ∷ []) (loaded setting_twice)

sets_offered : offer two_sets ≡ 0 ∷ 3 ∷ 0 ∷ 0 ∷ 4 ∷ 0 ∷ []
unfolding offer entries two_sets reached setting_twice computing
sets_offered = refl

-- variable 1 of the order in slot 0
unfoldable pub second : State → ℕ
second s = value_of (get_or s.orders 0 no_order) 1

later_decides : (second (reached (stepping 0 ∷ stepping 0 ∷ []) two_sets) ≡ 2) × (second (reached (stepping 1 ∷ stepping 0 ∷ []) two_sets) ≡ 1)
unfolding second two_sets reached setting_twice computing
later_decides = (refl, refl)

-- so the claim is false with two steps of one order included (`not-in-one-order`)
unfoldable pub or_one_order : Plan → (x y : Offer) → Bool
or_one_order p x y = not (eqb x.slot y.slot && eqb x.activity y.activity) && (independent_at p x && independent_at p y)

-- NOT CLAIMED: THE NUMBERS OF THE CHOICES. A receive 1 and then a leave 2; two orders. The leave of order 1 is at choice 1, and at choice 0 after
-- that of order 0; at choice 1 there is nothing then (12).
unfoldable pub leaving : List ℕ
leaving = 1 ∷ 1 ∷ 0 ∷ 8 ∷ 2 ∷ 2 ∷ 0 ∷ 0 ∷ 1 ∷ 0 ∷ 5 ∷ 0 ∷ []

unfoldable pub two_leaves : State
two_leaves = reached (posting (holding 0 0 (5 ∷ [])) ∷ stepping 0 ∷ posting (holding 0 0 (6 ∷ [])) ∷ stepping 1 ∷ []) (loaded leaving)

leaves_offered : offer two_leaves ≡ 0 ∷ 2 ∷ 0 ∷ 1 ∷ 2 ∷ 0 ∷ []
unfolding offer entries two_leaves reached leaving computing
leaves_offered = refl

choices_shift : (offer (reached (stepping 0 ∷ []) two_leaves) ≡ 1 ∷ 2 ∷ 0 ∷ []) × ((preview 1 (reached (stepping 0 ∷ []) two_leaves)).refusal ≡ 12)
unfolding offer entries two_leaves reached leaving computing
choices_shift = (refl, refl)
