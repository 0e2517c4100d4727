-- The parts of a state, each written as its parts are. Assumes nothing.
use mathlib.Core.Path.{◌≡◌, refl, ◌∙◌}
use mathlib.Core.List.{List, [], ◌∷◌}
use Prim.Native.Nat.{ℕ, ◌+◌, ◌*◌, ◌≤◌, ◌<◌}
use native.Mathlib.Omega.{arith}
use borrow.Author.Tests.{ne_eqb, le-leb, lt-leb}
use lib.ListN.{length}
use lib.Seq.{sets-eq}
use Rattle.order.specs.declared.Closing.{Closing}
use Rattle.order.specs.declared.Order.{Order}
use Rattle.order.specs.Lists.{each}
use Rattle.machine.specs.declared.Message.{Message}
use Rattle.machine.specs.declared.State.{State}
use Rattle.machine.specs.declared.Tally.{Tally}
use Rattle.store.specs.Bytes.{spelled}
use Rattle.store.specs.Packed.{tally_bytes, message_bytes, closing_bytes, order_bytes, state_bytes, packed, packed_into, message_into}
use Rattle.store.specs.Putting.{Put}
use Rattle.store.proofs.Puts.{then, put_all}
use Rattle.machine.proofs.Whole.{WholeMessage, WholeState}
use Rattle.order.proofs.Whole.{WholeOrder}

pub closing-put : {l m n : List ℕ} {at : ℕ} (x : Closing) → Put l m at 1 (x.scope ∷ []) → Put m n (at + 1) 1 (x.part ∷ []) → Put l n at 2 (closing_bytes x)
unfolding closing_bytes
closing-put x a b = then a b refl refl

module _ {l m n o p : List ℕ} {at : ℕ} where
  pub message-put : (x : Message) → WholeMessage x → Put l m at 4 (spelled 4 x.partner) → Put m n (at + 4) 4 (spelled 4 x.operation)
      → Put n o (at + 8) 4 (spelled 4 x.count) → Put o p (at + 12) (length x.values * 4) (each (spelled 4) x.values)
      → {q : List ℕ} → Put p q (at + 28) 4 (spelled 4 x.reply) → Put l q at 32 (message_bytes x)
  unfolding message_bytes
  message-put x w a b c d e =
      let f = then {r = 28} (then (then a b refl (refl {a = 8})) c refl (refl {a = 12})) d refl (omega arith) in
      then f e refl refl

  module _ {q : List ℕ} where
    pub tally-put : (t : Tally) → Put l m at 4 (spelled 4 t.started) → Put m n (at + 4) 4 (spelled 4 t.well)
        → Put n o (at + 8) 4 (spelled 4 t.handled) → Put o p (at + 12) 4 (spelled 4 t.failed) → Put p q (at + 16) 4 (spelled 4 t.left)
        → Put l q at 20 (tally_bytes t)
    unfolding tally_bytes
    tally-put t a b c d e =
        then (then (then (then a b refl (refl {a = 8})) c refl (refl {a = 12})) d refl (refl {a = 16})) e refl refl

    pub order-put : {j s : List ℕ} (x : Order) → WholeOrder x
        → Put l j at 1 (x.root ∷ []) → Put j m (at + 1) (length x.marks) x.marks → Put m n (at + 257) (length x.values * 4) (each (spelled 4) x.values) → Put n o (at + 321) (length x.bound) x.bound
        → Put o p (at + 337) 64 (each closing_bytes x.remembered) → Put p q (at + 401) 8 (spelled 8 x.kept) → Put q s (at + 409) 1 (x.cause ∷ [])
        → Put l s at 410 (order_bytes x)
    unfolding order_bytes
    order-put x w r a b c d e h =
        let f = then {r = 257} r a refl (omega arith) in
        let g = then {r = 321} f b refl (omega arith) in
        let i = then {r = 401} (then {r = 337} g c refl (omega arith)) d refl refl in
        then (then {r = 409} i e refl refl) h refl refl

    pub state-put : (x : State) → WholeState x → Put l m at 8 (spelled 8 x.length)
        → Put m n (at + 8) (length x.plan) x.plan → Put n o (at + 4104) 8 (spelled 8 x.waiting)
        → Put o p (at + 4112) 2048 (each message_bytes x.messages) → Put p q (at + 6160) 6560 (each order_bytes x.orders)
        → Put l q at 12720 (state_bytes x)
    unfolding state_bytes
    state-put x w a b c d e =
        let f = then {r = 4104} a b refl (omega arith) in
        then (then (then f c refl (refl {a = 4112})) d refl (refl {a = 6160})) e refl refl

-- there is room for a list of a known length
pub room-bytes : {n : ℕ} (k p : ℕ) (l : List ℕ) → length l ≡ k → p + k ≤ n → p + length l ≤ n
room-bytes k p l e h = omega arith

pub room-fours : {n : ℕ} (k p : ℕ) (l : List ℕ) → length l ≡ k → p + k * 4 ≤ n → p + length l * 4 ≤ n
room-fours k p l e h = omega arith

-- `pack`
module _ {l m n o : List ℕ} (s : State) (t : Tally) where
  pub pack-is : length l ≡ 12748 → Put l m 0 8 (spelled 8 3768458767009533773) → Put m n 8 20 (tally_bytes t) → Put n o 28 12720 (state_bytes s)
      → o ≡ packed_into s t l
  unfolding packed_into packed spelled
  pack-is e a b c = rw e (put_all (then (then a b refl (refl {a = 28})) c refl refl) e)

pub pack-no : (s : State) (t : Tally) (l : List ℕ) → (length l ≡ 12748 → ⊥) → l ≡ packed_into s t l
unfolding packed_into
pack-no s t l e = rw (ne_eqb (length l) 12748 e)

-- `write_message`
pub message-fits : (m : Message) (l : List ℕ) {o : List ℕ} → 32 ≤ length l → Put l o 0 32 (message_bytes m) → o ≡ message_into m l
unfolding message_into
message-fits m l h p =
    let z : 0 + length (message_bytes m) ≡ 32 = omega (arith, p.size) in
    p.is ∙ sets-eq (message_bytes m) l 0 (omega (arith, p.size)) ∙ rw (z, le-leb 32 (length l) h)

pub message-no : (m : Message) (l : List ℕ) → length l < 32 → l ≡ message_into m l
unfolding message_into
message-no m l h = rw (lt-leb 32 (length l) h)
