-- Numbers copied into an array with zeros behind them: the loops that do it, and what is made by them. Assumes nothing.
use mathlib.Core.Path.{◌≡◌, refl, sym, ap, ◌∙◌}
use mathlib.Core.List.{List, [], ◌∷◌, ◌++◌, append_assoc}
use Prim.Native.Nat.{ℕ, suc, ◌+◌, ◌-◌, ◌<◌, ◌≤◌}
use native.Mathlib.Numerals.{add-one}
use native.Mathlib.Omega.{arith}
use lib.ListN.{length, get_or, take, drop, set, replicate, length-append}
use Rattle.std.proofs.lemmas.List.{drop-replicate}
use lib.Seq.{take-suc, take_all, length-take-le, set_at}
use Rattle.machine.specs.declared.Message.{Message}
use Rattle.order.specs.declared.Order.{Order}
use Rattle.machine.specs.declared.State.{State}
use Rattle.order.specs.Lists.{stored}
use Rattle.order.specs.State.{closing_of, no_order}
use Rattle.machine.specs.State.{no_message, fresh}
use Rattle.machine.specs.Calls.{trimmed}

-- one more number
pub stored_more : (n : ℕ) (l : List ℕ) (i : ℕ) → i < length l → i < n → set (stored n (take i l)) i (get_or l i 0) ≡ stored n (take (i + 1) l)
stored_more n l i h k =
    let m : length (take i l) ≡ i = length-take-le i l (omega arith) in
    let z : n - length (take i l) ≡ suc (n - suc i) = omega arith in
    let y : length (take i l ++ (get_or l i 0 ∷ [])) ≡ suc i = length-append (take i l) (get_or l i 0 ∷ []) ∙ omega arith in
    let a : set (stored n (take i l)) i (get_or l i 0) ≡ take i l ++ (get_or l i 0 ∷ replicate (n - suc i) 0) =
    rw z (set_at (take i l) 0 (replicate (n - suc i) 0) (get_or l i 0) i m) in
    let b : stored n (take i l ++ (get_or l i 0 ∷ [])) ≡ take i l ++ (get_or l i 0 ∷ replicate (n - suc i) 0) =
    rw y (append_assoc (take i l) (get_or l i 0 ∷ []) (replicate (n - suc i) 0)) in
    a ∙ sym (ap (λ (j : ℕ). stored n (take j l)) (add-one i) ∙ ap (stored n) (take-suc l i 0 h) ∙ b)

-- numbers copied over the front of an array of zeros
pub copied_front : (n : ℕ) (l : List ℕ) {front all : List ℕ} → front ≡ l → all ≡ replicate n 0 → front ++ drop (length l) all ≡ stored n l
copied_front n l e z = rw (e, z) (ap (λ (r : List ℕ). l ++ r) (drop-replicate (length l) n 0))

-- `no_order`, `no_message`
pub no-order-is : ◌≡◌ {A = Order}
    (record { root = 0; marks = replicate 256 0; values = replicate 16 0; bound = replicate 16 0; remembered = replicate 32 (closing_of 0 0); kept = 0; cause = 0 }) no_order
unfolding no_order
no-order-is = refl

pub no-message-is : ◌≡◌ {A = Message} (record { partner = 0; operation = 0; count = 0; values = replicate 4 0; reply = 0 }) no_message
unfolding no_message
no-message-is = refl

-- `fresh_state`
pub fresh-is : {bytes : List ℕ} {o : Order} {m : Message} (s : List ℕ) → bytes ≡ stored 4096 s → o ≡ no_order → m ≡ no_message
    → ◌≡◌ {A = State} (record { plan = bytes; length = length s; orders = replicate 16 o; messages = replicate 64 m; waiting = 0 }) (fresh s)
unfolding fresh
fresh-is s b o m = rw (b, o, m)

-- `trim`
pub trim-is : {l : List ℕ} (m : Message) → l ≡ stored 4 (take m.count m.values)
    → ◌≡◌ {A = Message} (record { partner = m.partner; operation = m.operation; count = m.count; values = l; reply = m.reply }) (trimmed m)
trim-is m e = rw e
