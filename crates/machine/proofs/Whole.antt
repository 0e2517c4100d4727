-- What is known of every state, message and tally there is: each number fits its type, and each array has its length. Assumes nothing.
use mathlib.Core.Path.{◌≡◌}
use mathlib.Core.List.{List}
use lib.ListN.{length}
use mir.Val.{Val}
use denote.Laws.{Is}
use denote.Struct.Declared.{row}
use Rattle.order.specs.contracts.Order as order
use Rattle.order.proofs.Whole.{Each, Word, Long, array_of, bytes_of, words_of, WholeOrder, order-whole}
use Rattle.machine.specs.declared.Message.{Message}
use Rattle.machine.specs.contracts.Message as message
use Rattle.machine.specs.declared.State.{State}
use Rattle.machine.specs.contracts.State as state
use Rattle.machine.specs.declared.Tally.{Tally}
use Rattle.machine.specs.contracts.Tally as tally

pub record WholeTally (t : Tally) : Type 0 where
  pub started : Word t.started
  pub well : Word t.well
  pub handled : Word t.handled
  pub failed : Word t.failed
  pub left : Word t.left

pub record WholeMessage (m : Message) : Type 0 where
  pub partner : Word m.partner
  pub operation : Word m.operation
  pub count : Word m.count
  pub values : Each Word m.values
  pub values-long : length m.values ≡ 4
  pub reply : Word m.reply

pub record WholeState (s : State) : Type 0 where
  pub plan-long : length s.plan ≡ 4096
  pub length-fits : Long s.length
  pub orders : Each WholeOrder s.orders
  pub orders-long : length s.orders ≡ 16
  pub messages : Each WholeMessage s.messages
  pub messages-long : length s.messages ≡ 64
  pub waiting : Long s.waiting

pub tally-whole : (t : Tally) (vs : List Val) → Is (row tally.the_type) t vs → WholeTally t
tally-whole t vs p =
    let a = p.1.1 in
    record { started = a.0.1; well = a.1.0.1; handled = a.1.1.0.1; failed = a.1.1.1.0.1; left = a.1.1.1.1.0.1 }

pub message-whole : (m : Message) (vs : List Val) → Is (row message.the_type) m vs → WholeMessage m
message-whole m vs p =
    let a = p.1.1 in
    let v = words_of 4 m.values _ a.1.1.1.0 in
    record { partner = a.0.1; operation = a.1.0.1; count = a.1.1.0.1; values = v.0; values-long = v.1; reply = a.1.1.1.1.0.1 }

pub state-whole : (s : State) (vs : List Val) → Is (row state.the_type) s vs → WholeState s
state-whole s vs p =
    let a = p.1.1 in
    let o = array_of (row order.the_type) WholeOrder order-whole 16 s.orders _ a.1.1.0 in
    let m = array_of (row message.the_type) WholeMessage message-whole 64 s.messages _ a.1.1.1.0 in
    record {
      plan-long = bytes_of 4096 s.plan _ a.0;
      length-fits = a.1.0.1;
      orders = o.0;
      orders-long = o.1;
      messages = m.0;
      messages-long = m.1;
      waiting = a.1.1.1.1.0.1;
    }
