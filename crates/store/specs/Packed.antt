-- Meaning: a state with its tally as 12,748 bytes, and what bytes hold. Assumes nothing: these are definitions.
use Rattle.std.specs.Prelude.{ℕ, Bool, true, false, cond, ◌&&◌, List, [], ◌∷◌, ◌++◌, eqb, leb, length, get_or, take, drop}
use Rattle.order.specs.declared.Closing.{Closing}
use Rattle.order.specs.declared.Order.{Order}
use Rattle.order.specs.Lists.{each}
use Rattle.machine.specs.declared.Message.{Message}
use Rattle.machine.specs.declared.State.{State}
use Rattle.machine.specs.declared.Tally.{Tally}
use Rattle.machine.specs.State.{unplanned, no_tally}
use Rattle.store.specs.declared.Kept.{Kept}
use Rattle.store.specs.Bytes.{spelled, valued, number_in, many_in}

-- in front stands the mark, "MOONHAL4": its last figure is the version of these bytes
abbrev pub mark : List ℕ
mark = 77 ∷ 79 ∷ 79 ∷ 78 ∷ 72 ∷ 65 ∷ 76 ∷ 52 ∷ []

-- 20 bytes
unfoldable pub tally_bytes : Tally → List ℕ
tally_bytes t =
    spelled 4 t.started ++ spelled 4 t.well ++ spelled 4 t.handled ++ spelled 4 t.failed ++ spelled 4 t.left

-- 32 bytes
unfoldable pub message_bytes : Message → List ℕ
message_bytes m =
    spelled 4 m.partner ++ spelled 4 m.operation ++ spelled 4 m.count ++ each (spelled 4) m.values ++ spelled 4 m.reply

-- 2 bytes
unfoldable pub closing_bytes : Closing → List ℕ
closing_bytes c = c.scope ∷ c.part ∷ []

-- 410 bytes
unfoldable pub order_bytes : Order → List ℕ
order_bytes o =
    (o.root ∷ o.marks) ++ each (spelled 4) o.values ++ o.bound ++ each closing_bytes o.remembered ++ spelled 8 o.kept ++ (o.cause ∷ [])

-- 12,720 bytes
unfoldable pub state_bytes : State → List ℕ
state_bytes s =
    spelled 8 s.length ++ s.plan ++ spelled 8 s.waiting ++ each message_bytes s.messages ++ each order_bytes s.orders

unfoldable pub packed : State → Tally → List ℕ
packed s t = mark ++ tally_bytes t ++ state_bytes s

-- what is read of these
unfoldable pub tally_in : List ℕ → Tally
tally_in s =
    record {
      started = number_in 4 s;
      well = number_in 4 (drop 4 s);
      handled = number_in 4 (drop 8 s);
      failed = number_in 4 (drop 12 s);
      left = number_in 4 (drop 16 s);
    }

unfoldable pub message_in : List ℕ → Message
message_in s =
    record {
      partner = number_in 4 s;
      operation = number_in 4 (drop 4 s);
      count = number_in 4 (drop 8 s);
      values = many_in (number_in 4) 4 4 (drop 12 s);
      reply = number_in 4 (drop 28 s);
    }

unfoldable pub closing_in : List ℕ → Closing
closing_in s =
    record {
      scope = get_or s 0 0;
      part = get_or s 1 0;
    }

unfoldable pub order_in : List ℕ → Order
order_in s =
    record {
      root = get_or s 0 0;
      marks = take 256 (drop 1 s);
      values = many_in (number_in 4) 4 16 (drop 257 s);
      bound = take 16 (drop 321 s);
      remembered = many_in closing_in 2 32 (drop 337 s);
      kept = number_in 8 (drop 401 s);
      cause = get_or s 409 0;
    }

unfoldable pub state_in : List ℕ → State
state_in s =
    record {
      plan = take 4096 (drop 8 s);
      length = number_in 8 s;
      orders = many_in order_in 410 16 (drop 6160 s);
      messages = many_in message_in 32 64 (drop 4112 s);
      waiting = number_in 8 (drop 4104 s);
    }

-- bytes hold a state where there are 12,748 of them, with the mark in front
unfoldable pub holds : List ℕ → Bool
holds s = eqb (length s) 12748 && eqb (number_in 8 s) (valued mark)

abbrev pub kept_as : (refused : Bool) → State → Tally → Kept
kept_as r s t = record { refused = r; state = s; tally = t }

-- bytes that hold none give the state with no plan, with nothing counted
unfoldable pub unpacked : List ℕ → Kept
unpacked s = cond (holds s) (kept_as false (state_in (drop 28 s)) (tally_in (drop 8 s))) (kept_as true unplanned no_tally)

-- a state with its tally is written where there is just room for it
unfoldable pub packed_into : State → Tally → List ℕ → List ℕ
packed_into s t l = cond (eqb (length l) 12748) (packed s t) l

-- a message is written into the first 32 bytes, where there are as many
unfoldable pub message_into : Message → List ℕ → List ℕ
message_into m l = cond (leb 32 (length l)) (message_bytes m ++ drop 32 l) l
