-- The parts of a state, each read as its parts are. Assumes nothing.
use mathlib.Core.Path.{◌≡◌, ◌∙◌}
use mathlib.Core.Bool.{true, false}
use mathlib.Core.List.{List}
use Prim.Native.Nat.{ℕ, ◌+◌, ◌-◌, ◌<◌, ◌≤◌}
use native.Mathlib.Nat.{add-zero}
use native.Mathlib.Omega.{arith}
use borrow.Author.Tests.{ne_eqb, le-leb, lt-leb}
use lib.ListN.{length, get_or, take, drop}
use lib.Seq.{drop-drop, get_or-drop}
use Rattle.order.specs.declared.Closing.{Closing}
use Rattle.order.specs.declared.Order.{Order}
use Rattle.machine.specs.declared.Message.{Message}
use Rattle.machine.specs.declared.State.{State}
use Rattle.machine.specs.declared.Tally.{Tally}
use Rattle.machine.specs.State.{unplanned, no_tally}
use Rattle.store.specs.declared.Kept.{Kept}
use Rattle.store.specs.Bytes.{valued, number_in, eight_at, many_in}
use Rattle.store.specs.Packed.{tally_in, message_in, closing_in, order_in, state_in, holds, kept_as, unpacked}

module _ (s : List ℕ) (at : ℕ) where
  pub tally-is : {a b c d e : ℕ} → a ≡ number_in 4 (drop at s) → b ≡ number_in 4 (drop (at + 4) s) → c ≡ number_in 4 (drop (at + 8) s)
      → d ≡ number_in 4 (drop (at + 12) s) → e ≡ number_in 4 (drop (at + 16) s)
      → ◌≡◌ {A = Tally} (record { started = a; well = b; handled = c; failed = d; left = e }) (tally_in (drop at s))
  unfolding tally_in
  tally-is f g h i j = simp (drop-drop, f, g, h, i, j)

  pub message-is : {a b c e : ℕ} {v : List ℕ} → a ≡ number_in 4 (drop at s) → b ≡ number_in 4 (drop (at + 4) s) → c ≡ number_in 4 (drop (at + 8) s)
      → v ≡ many_in (number_in 4) 4 4 (drop (at + 12) s) → e ≡ number_in 4 (drop (at + 28) s)
      → ◌≡◌ {A = Message} (record { partner = a; operation = b; count = c; values = v; reply = e }) (message_in (drop at s))
  unfolding message_in
  message-is f g h i j = simp (drop-drop, f, g, h, i, j)

  pub closing-is : ◌≡◌ {A = Closing} (record { scope = get_or s at 0; part = get_or s (at + 1) 0 }) (closing_in (drop at s))
  unfolding closing_in
  closing-is = simp (get_or-drop, add-zero)

  pub order_is : {m v b : List ℕ} {r : List Closing} {k : ℕ} → m ≡ take 256 (drop (at + 1) s) → v ≡ many_in (number_in 4) 4 16 (drop (at + 257) s)
      → b ≡ take 16 (drop (at + 321) s) → r ≡ many_in closing_in 2 32 (drop (at + 337) s) → k ≡ number_in 8 (drop (at + 401) s)
      → ◌≡◌ {A = Order} (record { root = get_or s at 0; marks = m; values = v; bound = b; remembered = r; kept = k; cause = get_or s (at + 409) 0 }) (order_in (drop at s))
  unfolding order_in
  order_is f g h i j = simp (drop-drop, get_or-drop, add-zero, f, g, h, i, j)

  pub state-is : {p : List ℕ} {n w : ℕ} {o : List Order} {m : List Message} → p ≡ take 4096 (drop (at + 8) s) → n ≡ number_in 8 (drop at s)
      → w ≡ number_in 8 (drop (at + 4104) s) → m ≡ many_in message_in 32 64 (drop (at + 4112) s) → o ≡ many_in order_in 410 16 (drop (at + 6160) s)
      → ◌≡◌ {A = State} (record { plan = p; length = n; orders = o; messages = m; waiting = w }) (state_in (drop at s))
  unfolding state_in
  state-is f g h i j = simp (drop-drop, f, g, h, i, j)

-- `number_at`
module _ (s : List ℕ) (at : ℕ) where
  pub eight-short : length s < 8 → 0 ≡ eight_at s at
  unfolding eight_at
  eight-short h = rw (lt-leb (at + 8) (length s) (omega arith))

  pub eight-far : 8 ≤ length s → length s - 8 < at → 0 ≡ eight_at s at
  unfolding eight_at
  eight-far h g = rw (lt-leb (at + 8) (length s) (omega arith))

  pub eight-there : {n : ℕ} → 8 ≤ length s → at ≤ length s - 8 → n ≡ number_in 8 (drop at s) → n ≡ eight_at s at
  unfolding eight_at
  eight-there h g e = e ∙ rw (le-leb (at + 8) (length s) (omega arith))

-- `nothing`, `unpack`
pub nothing_is : {s : State} {t : Tally} → s ≡ unplanned → t ≡ no_tally → kept_as true s t ≡ kept_as true unplanned no_tally
nothing_is e f = rw (e, f)

module _ (s : List ℕ) where
  pub unpack-is : {x : State} {t : Tally} → length s ≡ 12748 → number_in 8 s ≡ 3768458767009533773 → t ≡ tally_in (drop 8 s) → x ≡ state_in (drop 28 s)
      → kept_as false x t ≡ unpacked s
  unfolding unpacked holds valued
  unpack-is e f g h = rw (e, f, g, h)

  pub unpack-mark : {k : Kept} → length s ≡ 12748 → (number_in 8 s ≡ 3768458767009533773 → ⊥) → k ≡ kept_as true unplanned no_tally → k ≡ unpacked s
  unfolding unpacked holds valued
  unpack-mark e f g = rw (e, ne_eqb (number_in 8 s) 3768458767009533773 f, g)

  pub unpack-size : {k : Kept} → (length s ≡ 12748 → ⊥) → k ≡ kept_as true unplanned no_tally → k ≡ unpacked s
  unfolding unpacked holds
  unpack-size e g = rw (ne_eqb (length s) 12748 e, g)
