-- Meaning: the starred examples of document 01, of numbers, of plans and of calls on a state, as rows of one table, and the statement that every row holds.
-- Assumes nothing.
use Rattle.std.specs.Prelude.{ℕ, ◌+◌, ◌≡◌, refl, Bool, true, cond, ◌&&◌, List, [], ◌∷◌, ◌++◌, length, take, set, eqb, Result, Ok, Err}
use Rattle.numbers.specs.Number.{number_at}
use Rattle.numbers.specs.declared.Number.{Number}
use Rattle.numbers.specs.declared.Trouble.{Trouble}
use Rattle.numbers.specs.declared.Trouble.TheVariants.{Short, Bad}
use Rattle.plan.specs.Found.{Found, refused, found}
use Rattle.plan.specs.Read.{read_plan}
use Rattle.plan.specs.Tree.{Plan, size}
use Rattle.machine.specs.declared.Message.{Message}
use Rattle.machine.specs.declared.State.{State}
use Rattle.machine.specs.declared.Step.{Step}
use Rattle.machine.specs.declared.Tally.{Tally}
use Rattle.order.specs.Lists.{every, each, alike, stored}
use Rattle.machine.specs.State.{letters, no_tally}
use Rattle.machine.specs.Calls.{end_number, loaded, post, collect, drop_at, Stepped, step, Call, posting, collecting, dropping, stepping}
use Rattle.machine.specs.Computing.{computing}

-- A run: the bytes of a plan, calls on a fresh state of it, all that they answer in turn (a refusal, or 0 and the values), the messages that wait
-- at the end and the tally.
pub record Run : Type 0 where
  pub bytes : List ℕ
  pub calls : List Call
  pub answers : List ℕ
  pub waiting : List ℕ
  pub tally : List ℕ

-- A row of the table: bytes read as a number, with 0, its value and the next place, or with the refusal that it earns; bytes read as a plan, with
-- the refusal or 0, the place, and the number of activities and arms; or a run.
pub data Row : Type 0 where
  numeral : (bytes answer : List ℕ) → Row
  planned : (bytes answer : List ℕ) → Row
  ran : Run → Row

abbrev pub of_number : Result Number Trouble → List ℕ
of_number (Ok r) = 0 ∷ r.value ∷ r.next ∷ []
of_number (Err Short) = 2 ∷ []
of_number (Err Bad) = 3 ∷ []

abbrev pub of_plan : Found Plan → List ℕ
of_plan (refused number place) = number ∷ place ∷ 0 ∷ []
of_plan (found p next) = 0 ∷ 0 ∷ (size p.body + size p.fault) ∷ []

-- a message as its numbers: partner, operation, count and values
unfoldable pub of_message : Message → List ℕ
of_message m = m.partner ∷ m.operation ∷ m.count ∷ take m.count m.values

unfoldable pub of_tally : Tally → List ℕ
of_tally t = t.started ∷ t.well ∷ t.handled ∷ t.failed ∷ t.left ∷ []

-- "A taken step answers its slot, activity, message place (0 where none) and this end, if any."
unfoldable pub of_step : Step → List ℕ
of_step a = cond (eqb a.refusal 0) (0 ∷ a.slot ∷ a.activity ∷ a.place ∷ end_number a.end ∷ []) (a.refusal ∷ [])

-- whether these calls answer this, and leave these messages and this tally
unfoldable pub answer : List Call → (answers waiting tally : List ℕ) → List ℕ → State → Tally → Bool
answer [] answers waiting tally told s t =
    alike told answers && (alike (each of_message (letters s)) waiting && alike (of_tally t) tally)
answer (posting m ∷ l) answers waiting tally told s t =
    let r = post m s in answer l answers waiting tally (told ++ (r.refusal ∷ [])) r.state t
answer (collecting ∷ l) answers waiting tally told s t =
    let r = collect s in answer l answers waiting tally (told ++ (r.refusal ∷ of_message r.message)) r.state t
answer (dropping i ∷ l) answers waiting tally told s t =
    let r = drop_at i s in answer l answers waiting tally (told ++ (r.refusal ∷ of_message r.message)) r.state t
answer (stepping c ∷ l) answers waiting tally told s t =
    let r = step c s t in answer l answers waiting tally (told ++ of_step r.answer) r.state r.tally

unfoldable pub holds : Row → Bool
holds (numeral bytes told) = alike (of_number (number_at bytes 0)) told
holds (planned bytes told) = alike (of_plan (read_plan bytes)) told
holds (ran x) = answer x.calls x.answers x.waiting x.tally [] (loaded x.bytes) no_tally

abbrev pub message : (partner operation : ℕ) → List ℕ → Call
message p o l = posting (record { partner = p; operation = o; count = length l; values = stored 4 l; reply = 0 })

-- "Plan A is 01 02 01 00 02 03 05 02 00 01 00."
abbrev pub plan_a : List ℕ
plan_a = 0x01 ∷ 0x02 ∷ 0x01 ∷ 0x00 ∷ 0x02 ∷ 0x03 ∷ 0x05 ∷ 0x02 ∷ 0x00 ∷ 0x01 ∷ 0x00 ∷ []

unfoldable pub rows : List Row
rows =
    -- "A is accepted, 2 activities. Its first ten bytes: 2, place 10. A and one more 00: 9, place 11."
    planned plan_a (0 ∷ 0 ∷ 2 ∷ [])
    ∷ planned (take 10 plan_a) (2 ∷ 10 ∷ 0 ∷ [])
    ∷ planned (plan_a ++ (0x00 ∷ [])) (9 ∷ 11 ∷ 0 ∷ [])
    -- "No bytes: 2. 02: 4. 81 00: 3. All three at place 0. 01 02 01 00 00 00: 7, place 4."
    ∷ planned [] (2 ∷ 0 ∷ 0 ∷ [])
    ∷ planned (0x02 ∷ []) (4 ∷ 0 ∷ 0 ∷ [])
    ∷ planned (0x81 ∷ 0x00 ∷ []) (3 ∷ 0 ∷ 0 ∷ [])
    ∷ planned (0x01 ∷ 0x02 ∷ 0x01 ∷ 0x00 ∷ 0x00 ∷ 0x00 ∷ []) (7 ∷ 4 ∷ 0 ∷ [])
    -- "A with byte 9 made 00 (a variable twice): 5, place 9."
    ∷ planned (set plan_a 9 0x00) (5 ∷ 9 ∷ 0 ∷ [])
    -- "AC 02 is 300; FF FF FF FF 0F is 4,294,967,295; with 10 as the last byte, 3."
    ∷ numeral (0xAC ∷ 0x02 ∷ []) (0 ∷ 300 ∷ 2 ∷ [])
    ∷ numeral (0xFF ∷ 0xFF ∷ 0xFF ∷ 0xFF ∷ 0x0F ∷ []) (0 ∷ 4294967295 ∷ 5 ∷ [])
    ∷ numeral (0xFF ∷ 0xFF ∷ 0xFF ∷ 0xFF ∷ 0x10 ∷ []) (3 ∷ [])
    -- "A fresh state of A: step 10. Post partner 3, operation 5, values 7 and 9: choice 1 gives 12, choice 0 starts an order that ends well; then 10."
    ∷ ran (record {
      bytes = plan_a;
      calls = stepping 0 ∷ message 3 5 (7 ∷ 9 ∷ []) ∷ stepping 1 ∷ stepping 0 ∷ stepping 0 ∷ [];
      answers = 10 ∷ 0 ∷ 12 ∷ 0 ∷ 0 ∷ 0 ∷ 0 ∷ 1 ∷ 10 ∷ [];
      waiting = [];
      tally = 1 ∷ 1 ∷ 0 ∷ 0 ∷ 0 ∷ [];
    })
    -- "Plan C: a receive; a scope, empty but for undo "send operation 1"; the same with operation 2; raise; empty fault part. Steps: start, close,
    -- close, raise, send 2, send 1. The order ends handled."
    ∷ ran (record {
      bytes =
          1 ∷ 1 ∷ 0 ∷ 8 ∷ 4 ∷ 2 ∷ 0 ∷ 0 ∷ 1 ∷ 0 ∷ 11 ∷ 0 ∷ 0 ∷ 1 ∷ 2 ∷ 1 ∷ 1 ∷ 0 ∷ 11 ∷ 0 ∷ 0 ∷ 1 ∷ 2 ∷ 2 ∷ 1 ∷ 0 ∷ 4 ∷ 0 ∷ [];
      calls =
          message 0 0 (5 ∷ []) ∷ stepping 0 ∷ stepping 0 ∷ stepping 0 ∷ stepping 0 ∷ stepping 0 ∷ stepping 0 ∷ stepping 0 ∷ [];
      answers =
          0 ∷ 0 ∷ 0 ∷ 1 ∷ 0 ∷ 0 ∷ 0 ∷ 0 ∷ 2 ∷ 0 ∷ 0 ∷ 0 ∷ 0 ∷ 6 ∷ 0 ∷ 0 ∷ 0 ∷ 0 ∷ 10 ∷ 0 ∷ 0 ∷ 0 ∷ 0 ∷ 9 ∷ 0 ∷ 0 ∷ 0 ∷ 0 ∷ 5 ∷ 0 ∷ 2 ∷ 10 ∷ [];
      waiting = 2 ∷ 2 ∷ 1 ∷ 5 ∷ 2 ∷ 1 ∷ 1 ∷ 5 ∷ [];
      tally = 1 ∷ 0 ∷ 1 ∷ 0 ∷ 0 ∷ [];
    })
    ∷ []

-- every row holds
pub all_hold : every holds rows ≡ true
unfolding rows holds answer of_message of_tally of_step computing
all_hold = refl
