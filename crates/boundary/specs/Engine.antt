-- Meaning: the engine over the caller's bytes: what each call answers, and what it leaves in them. Assumes nothing: these are definitions.
-- Bytes that hold no state stand for the state with no plan, which earns 17 in every call.
use Rattle.std.specs.Prelude.{ℕ, ◌+◌, ◌*◌, ◌%◌, cond, List, map, eqb, ltb, length}
use Rattle.machine.specs.declared.Collected.{Collected}
use Rattle.machine.specs.declared.Message.{Message}
use Rattle.machine.specs.declared.Posted.{Posted}
use Rattle.machine.specs.declared.State.{State}
use Rattle.machine.specs.declared.Tally.{Tally}
use Rattle.machine.specs.Calls as calls
use Rattle.machine.specs.Calls.{preview}
use Rattle.machine.specs.State.{no_tally}
use Rattle.offer.specs.declared.Offered.{Offered}
use Rattle.offer.specs.Having.{offered_in}
use Rattle.answers.specs.Numbering.{step_number, filled}
use Rattle.listing.specs.Listing.{listed_in, listed_out}
use Rattle.run.specs.Telling.{told_in}
use Rattle.store.specs.Packed.{packed_into, message_into, unpacked}
use Rattle.boundary.specs.Packed.{pair_of}

-- the state and the tally that bytes hold
abbrev pub state_of : List ℕ → State
state_of l = (unpacked l).state

abbrev pub tally_of : List ℕ → Tally
tally_of l = (unpacked l).tally

-- the bytes after a call: unchanged where it was refused
unfoldable pub updated : (refusal : ℕ) → State → Tally → List ℕ → List ℕ
updated n s t l = cond (eqb n 0) (packed_into s t l) l

-- load: the refusal and its place; 18 where there is no room for a state. A fresh state, or one with no plan, with nothing counted
unfoldable pub load_number : (plan : List ℕ) → List ℕ → ℕ
load_number s l = cond (eqb (length l) 12748) (pair_of (calls.load s).refusal (calls.load s).place) (pair_of 18 0)

unfoldable pub load_bytes : (plan : List ℕ) → List ℕ → List ℕ
load_bytes s l = packed_into (calls.load s).state no_tally l

-- post
abbrev pub posted_in : Message → List ℕ → Posted
posted_in m l = calls.post m (state_of l)

unfoldable pub post_number : Message → List ℕ → ℕ
post_number m l = (posted_in m l).refusal

unfoldable pub post_bytes : Message → List ℕ → List ℕ
post_bytes m l = updated (posted_in m l).refusal (posted_in m l).state (tally_of l) l

-- a call that hands out a message: 18, and nothing changed, where there is no room for one
unfoldable pub handed_number : (State → Collected) → List ℕ → (message : List ℕ) → ℕ
handed_number call l m = cond (ltb (length m) 32) 18 (call (state_of l)).refusal

unfoldable pub handed_bytes : (State → Collected) → List ℕ → (message : List ℕ) → List ℕ
handed_bytes call l m = cond (ltb (length m) 32) l (updated (call (state_of l)).refusal (call (state_of l)).state (tally_of l) l)

unfoldable pub handed_message : (State → Collected) → List ℕ → (message : List ℕ) → List ℕ
handed_message call l m = cond (ltb (length m) 32) m (message_into (call (state_of l)).message m)

-- collect
abbrev pub collect_number : List ℕ → (message : List ℕ) → ℕ
collect_number = handed_number calls.collect

abbrev pub collect_bytes : List ℕ → (message : List ℕ) → List ℕ
collect_bytes = handed_bytes calls.collect

abbrev pub collect_message : List ℕ → (message : List ℕ) → List ℕ
collect_message = handed_message calls.collect

-- drop
abbrev pub drop_number : (place : ℕ) → List ℕ → (message : List ℕ) → ℕ
drop_number i = handed_number (calls.drop_at i)

abbrev pub drop_bytes : (place : ℕ) → List ℕ → (message : List ℕ) → List ℕ
drop_bytes i = handed_bytes (calls.drop_at i)

abbrev pub drop_message : (place : ℕ) → List ℕ → (message : List ℕ) → List ℕ
drop_message i = handed_message (calls.drop_at i)

-- how much is offered as one number: the refusal from bit 40 on, whether something is held at bit 32, how many
unfoldable pub offers_number : Offered → ℕ
offers_number x = x.refusal % 16777216 * 1099511627776 + x.many % 4294967296 + cond x.held 4294967296 0

unfoldable pub offer_number : (choice : ℕ) → List ℕ → ℕ
offer_number c l = step_number (preview c (state_of l))

unfoldable pub offers_of : List ℕ → ℕ
offers_of l = offers_number (offered_in (state_of l))

-- list: the refusal and how many were written; what stands in the buffer
unfoldable pub list_number : (first : ℕ) → List ℕ → (out : List ℕ) → ℕ
list_number first l w = pair_of (listed_in first (state_of l) (length w)).refusal (listed_in first (state_of l) (length w)).many

unfoldable pub list_out : (first : ℕ) → List ℕ → (out : List ℕ) → List ℕ
list_out first l w = listed_out first (state_of l) w

-- step
abbrev pub stepped_in : (choice : ℕ) → List ℕ → calls.Stepped
stepped_in c l = calls.step c (state_of l) (tally_of l)

unfoldable pub step_of : (choice : ℕ) → List ℕ → ℕ
step_of c l = step_number (stepped_in c l).answer

unfoldable pub step_bytes : (choice : ℕ) → List ℕ → List ℕ
step_bytes c l = updated (stepped_in c l).answer.refusal (stepped_in c l).state (stepped_in c l).tally l

-- run: the bytes are as the last step taken left them
unfoldable pub ran_in : (choices : List ℕ) → (budget : ℕ) → List ℕ → calls.Ran
ran_in cs n l = calls.run cs n (state_of l) (tally_of l)

unfoldable pub run_bytes : (choices : List ℕ) → (budget : ℕ) → List ℕ → List ℕ
run_bytes cs n l = cond (eqb (ran_in cs n l).taken 0) l (packed_into (ran_in cs n l).state (ran_in cs n l).tally l)

-- what a run tells: a number for each step taken, one after the other, as far as there is room
unfoldable pub run_told : (choices : List ℕ) → (budget : ℕ) → List ℕ → (told : List ℕ) → List ℕ
run_told cs n l w = filled 0 (map step_number (told_in cs n (state_of l) (tally_of l))) w
