-- What was packed is read back: every state with its tally. Assumes nothing.
use mathlib.Core.Path.{◌≡◌, refl, sym, ap, ◌∙◌}
use mathlib.Core.Bool.{Bool, true, false, ◌&&◌}
use mathlib.Core.List.{List, [], ◌∷◌, ◌++◌, append_assoc, append-nil}
use Prim.Native.Nat.{ℕ, zero, suc, ◌+◌, ◌*◌, ◌<◌}
use native.Mathlib.Nat.{suc-mul, zero-mul, add_comm}
use native.Mathlib.Omega.{arith}
use lib.Dec.{eqb}
use lib.ListN.{length, get_or, take, drop, length-append}
use lib.Seq.{take_at, drop_at, drop-append-add, get_or-drop, length-take-le}
use borrow.Author.Tests.{eqb-true}
use Rattle.order.specs.declared.Closing.{Closing}
use Rattle.order.specs.declared.Order.{Order}
use Rattle.order.specs.Lists.{each}
use Rattle.machine.specs.declared.Message.{Message}
use Rattle.machine.specs.declared.State.{State}
use Rattle.machine.specs.declared.Tally.{Tally}
use Rattle.store.specs.Bytes.{spelled, valued, number_in, many_in}
use Rattle.store.specs.Packed.{mark, tally_bytes, message_bytes, closing_bytes, order_bytes, state_bytes, packed, tally_in, message_in, closing_in, order_in, state_in, holds, kept_as, unpacked}
use Rattle.store.proofs.Numbers.{spelled-long, spelled-valued, number-back}
use Rattle.machine.proofs.Whole.{WholeTally, WholeMessage, WholeState}
use Rattle.order.proofs.Whole.{Each, Word, WholeOrder}

-- past a part of n bytes
past : (n m : ℕ) (a b : List ℕ) → length a ≡ n → drop (n + m) (a ++ b) ≡ drop m b
past n m a b e = rw (sym e) (drop-append-add a b m)

-- things of w bytes each
each_long : {A : Type 0} (g : A → List ℕ) (P : A → Type 0) (w : ℕ) → ((x : A) → P x → length (g x) ≡ w) → (l : List A) → Each P l
    → length (each g l) ≡ length l * w
unfolding each
each_long g P w h [] p = sym (zero-mul w)
each_long g P w h (x ∷ l) p =
    let e = each_long g P w h l p.1 in
    length-append (g x) (each g l) ∙ rw (h x p.0, e, suc-mul (length l) w) (add_comm w (length l * w))

many-back : {A : Type 0} (f : List ℕ → A) (g : A → List ℕ) (P : A → Type 0) (w : ℕ) → ((x : A) (r : List ℕ) → P x → f (g x ++ r) ≡ x)
    → ((x : A) → P x → length (g x) ≡ w) → (l : List A) (n : ℕ) (r : List ℕ) → Each P l → length l ≡ n → many_in f w n (each g l ++ r) ≡ l
unfolding each many_in
many-back f g P w back long [] zero r p e = refl
many-back f g P w back long [] (suc n) r p e = absurd (omega arith)
many-back f g P w back long (x ∷ l) zero r p e = absurd (omega arith)
many-back f g P w back long (x ∷ l) (suc n) r p e =
    rw (append_assoc (g x) (each g l) r, back x (each g l ++ r) p.0, drop_at (g x) (each g l ++ r) w (long x p.0))
    (ap (λ (t : List _). x ∷ t) (many-back f g P w back long l n r p.1 (omega arith)))

words_long : (l : List ℕ) (n : ℕ) → Each Word l → length l ≡ n → length (each (spelled 4) l) ≡ n * 4
words_long l n p e = each_long (spelled 4) Word 4 (λ x h. spelled-long 4 x) l p ∙ rw e

words_back : (l : List ℕ) (n : ℕ) (r : List ℕ) → Each Word l → length l ≡ n → many_in (number_in 4) 4 n (each (spelled 4) l ++ r) ≡ l
words_back = many-back (number_in 4) (spelled 4) Word 4 (number-back 4) (λ x h. spelled-long 4 x)

tally-back : (t : Tally) (r : List ℕ) → WholeTally t → tally_in (tally_bytes t ++ r) ≡ t
unfolding tally_in tally_bytes spelled
tally-back t r w =
    let s = tally_bytes t ++ r in
    let a : number_in 4 s ≡ t.started = number-back 4 t.started _ w.started in
    let b : number_in 4 (drop 4 s) ≡ t.well = number-back 4 t.well _ w.well in
    let c : number_in 4 (drop 8 s) ≡ t.handled = number-back 4 t.handled _ w.handled in
    let d : number_in 4 (drop 12 s) ≡ t.failed = number-back 4 t.failed _ w.failed in
    let e : number_in 4 (drop 16 s) ≡ t.left = number-back 4 t.left _ w.left in
    λ i. record { started = a i; well = b i; handled = c i; failed = d i; left = e i }

message-long : (m : Message) → WholeMessage m → length (message_bytes m) ≡ 32
unfolding message_bytes
message-long m w =
    simp (length-append, spelled-long, words_long m.values 4 w.values w.values-long)

message-back : (m : Message) (r : List ℕ) → WholeMessage m → message_in (message_bytes m ++ r) ≡ m
unfolding message_in message_bytes spelled
message-back m r w =
    let s = message_bytes m ++ r in
    let a : number_in 4 s ≡ m.partner = number-back 4 m.partner _ w.partner in
    let b : number_in 4 (drop 4 s) ≡ m.operation = number-back 4 m.operation _ w.operation in
    let c : number_in 4 (drop 8 s) ≡ m.count = number-back 4 m.count _ w.count in
    let v = each (spelled 4) m.values in
    let t = spelled 4 m.reply ++ r in
    let p : drop 12 s ≡ v ++ t = append_assoc v (spelled 4 m.reply) r in
    let q : drop 28 s ≡ t = ap (drop 16) p ∙ past 16 0 v t (words_long m.values 4 w.values w.values-long) in
    let d : many_in (number_in 4) 4 4 (drop 12 s) ≡ m.values = rw p (words_back m.values 4 t w.values w.values-long) in
    let e : number_in 4 (drop 28 s) ≡ m.reply = rw q (number-back 4 m.reply r w.reply) in
    λ i. record { partner = a i; operation = b i; count = c i; values = d i; reply = e i }

-- closings, of which nothing need be known
always : {A : Type 0} (l : List A) → Each (λ (x : A). Unit) l
always [] = tt
always (x ∷ l) = (tt, always l)

closings-long : (l : List Closing) → length (each closing_bytes l) ≡ length l * 2
unfolding closing_bytes
closings-long l = each_long closing_bytes (λ x. Unit) 2 (λ x h. refl) l (always l)

closings-back : (l : List Closing) (n : ℕ) (r : List ℕ) → length l ≡ n → many_in closing_in 2 n (each closing_bytes l ++ r) ≡ l
unfolding closing_bytes closing_in
closings-back l n r e = many-back closing_in closing_bytes (λ x. Unit) 2 (λ x r h. refl) (λ x h. refl) l n r (always l) e

order-long : (o : Order) → WholeOrder o → length (order_bytes o) ≡ 410
unfolding order_bytes
order-long o w =
    simp (length-append, spelled-long, words_long o.values 16 w.values w.values-long, w.marks-long, w.bound-long, closings-long o.remembered, w.remembered-long)

order-back : (o : Order) (r : List ℕ) → WholeOrder o → order_in (order_bytes o ++ r) ≡ o
unfolding order_in order_bytes
order-back o r w =
    let v = each (spelled 4) o.values in
    let j = o.cause ∷ r in
    let k = spelled 8 o.kept ++ j in
    let l = words_long o.values 16 w.values w.values-long in
    let h = each closing_bytes o.remembered in
    let g : length h ≡ 64 = closings-long o.remembered ∙ rw w.remembered-long in
    let s = o.marks ++ (v ++ (o.bound ++ (h ++ k))) in
    let e : order_bytes o ++ r ≡ o.root ∷ s = simp append_assoc in
    let m : take 256 s ≡ o.marks = take_at o.marks _ 256 w.marks-long in
    let p : drop 256 s ≡ v ++ (o.bound ++ (h ++ k)) = past 256 0 o.marks _ w.marks-long in
    let q : drop 320 s ≡ o.bound ++ (h ++ k) = past 256 64 o.marks _ w.marks-long ∙ past 64 0 v _ l in
    let t : drop 336 s ≡ h ++ k = past 256 80 o.marks _ w.marks-long ∙ past 64 16 v _ l ∙ past 16 0 o.bound _ w.bound-long in
    let u : drop 400 s ≡ k =
    past 256 144 o.marks _ w.marks-long ∙ past 64 80 v _ l ∙ past 16 64 o.bound _ w.bound-long ∙ past 64 0 h _ g in
    let b : many_in (number_in 4) 4 16 (drop 256 s) ≡ o.values = rw p (words_back o.values 16 _ w.values w.values-long) in
    let c : take 16 (drop 320 s) ≡ o.bound = rw q (take_at o.bound _ 16 w.bound-long) in
    let d : many_in closing_in 2 32 (drop 336 s) ≡ o.remembered = rw t (closings-back o.remembered 32 _ w.remembered-long) in
    let f : number_in 8 (drop 400 s) ≡ o.kept = rw u (number-back 8 o.kept j w.kept) in
    let y : drop 408 s ≡ j =
    past 256 152 o.marks _ w.marks-long ∙ past 64 88 v _ l ∙ past 16 72 o.bound _ w.bound-long ∙ past 64 8 h _ g ∙ past 8 0 (spelled 8 o.kept) _ (spelled-long 8 o.kept) in
    let x : get_or s 408 0 ≡ o.cause = sym (get_or-drop 408 s 0 0) ∙ ap (λ (t : List ℕ). get_or t 0 0) y in
    ap order_in e ∙ (λ i. record { root = o.root; marks = m i; values = b i; bound = c i; remembered = d i; kept = f i; cause = x i })

state-long : (s : State) → WholeState s → length (state_bytes s) ≡ 12720
unfolding state_bytes
state-long s w =
    let m = each_long message_bytes WholeMessage 32 message-long s.messages w.messages in
    let o = each_long order_bytes WholeOrder 410 order-long s.orders w.orders in
    simp (length-append, spelled-long, m, o, w.plan-long, w.messages-long, w.orders-long)

state-back : (s : State) (r : List ℕ) → WholeState s → state_in (state_bytes s ++ r) ≡ s
unfolding state_in state_bytes
state-back s r w =
    let n = spelled 8 s.length in
    let h = spelled 8 s.waiting in
    let m = each message_bytes s.messages in
    let o = each order_bytes s.orders ++ r in
    let i = spelled-long 8 s.length in
    let j = spelled-long 8 s.waiting in
    let k : length m ≡ 2048 = each_long message_bytes WholeMessage 32 message-long s.messages w.messages ∙ rw w.messages-long in
    let b = n ++ (s.plan ++ (h ++ (m ++ o))) in
    let e : state_bytes s ++ r ≡ b = simp append_assoc in
    let p : drop 8 b ≡ s.plan ++ (h ++ (m ++ o)) = past 8 0 n _ i in
    let q : drop 4104 b ≡ h ++ (m ++ o) = past 8 4096 n _ i ∙ past 4096 0 s.plan _ w.plan-long in
    let t : drop 4112 b ≡ m ++ o = past 8 4104 n _ i ∙ past 4096 8 s.plan _ w.plan-long ∙ past 8 0 h _ j in
    let u : drop 6160 b ≡ o = past 8 6152 n _ i ∙ past 4096 2056 s.plan _ w.plan-long ∙ past 8 2048 h _ j ∙ past 2048 0 m _ k in
    let a : take 4096 (drop 8 b) ≡ s.plan = rw p (take_at s.plan _ 4096 w.plan-long) in
    let c : number_in 8 b ≡ s.length = number-back 8 s.length _ w.length-fits in
    let d : number_in 8 (drop 4104 b) ≡ s.waiting = rw q (number-back 8 s.waiting _ w.waiting) in
    let f : many_in message_in 32 64 (drop 4112 b) ≡ s.messages =
    rw t (many-back message_in message_bytes WholeMessage 32 message-back message-long s.messages 64 o w.messages w.messages-long) in
    let g : many_in order_in 410 16 (drop 6160 b) ≡ s.orders =
    rw u (many-back order_in order_bytes WholeOrder 410 order-back order-long s.orders 16 r w.orders w.orders-long) in
    ap state_in e ∙ (λ x. record { plan = a x; length = c x; orders = g x; messages = f x; waiting = d x })

packed-long : (s : State) (t : Tally) → WholeState s → length (packed s t) ≡ 12748
unfolding packed tally_bytes
packed-long s t w = simp (length-append, spelled-long, state-long s w)

-- in front stands the mark, then the tally, then the state
packed-mark : (s : State) (t : Tally) → number_in 8 (packed s t) ≡ 3768458767009533773
unfolding packed number_in valued
packed-mark s t = refl

packed-tally : (s : State) (t : Tally) → drop 8 (packed s t) ≡ tally_bytes t ++ state_bytes s
unfolding packed
packed-tally s t = refl

packed-state : (s : State) (t : Tally) → drop 28 (packed s t) ≡ state_bytes s ++ []
unfolding packed tally_bytes spelled
packed-state s t = sym (append-nil (state_bytes s))

-- unpacking what was packed gives the same state and tally
pub unpacked-packed : (s : State) (t : Tally) → WholeState s → WholeTally t → unpacked (packed s t) ≡ kept_as false s t
unfolding unpacked holds valued
unpacked-packed s t v w =
    rw (packed-long s t v, packed-mark s t, packed-state s t, packed-tally s t, state-back s [] v, tally-back t (state_bytes s) w)

first-valued : (s : List ℕ) → valued (take 8 s) ≡ number_in 8 s
unfolding number_in
first-valued s = refl

mark-spelled : spelled 8 (valued mark) ≡ mark
unfolding spelled valued
mark-spelled = refl

and_left : (a b : Bool) → (a && b) ≡ true → a ≡ true
and_left true b h = refl
and_left false b h = h

and_right : (a b : Bool) → (a && b) ≡ true → b ≡ true
and_right true b h = h
and_right false b h = let z : ◌≡◌ {A = Bool} false true = h in cc

-- bytes that hold a state have the mark in front
pub held-marked : (s : List ℕ) → Each (λ b. b < 256) (take 8 s) → holds s ≡ true → take 8 s ≡ mark
unfolding holds
held-marked s p h =
    let a = eqb (length s) 12748 in
    let b = eqb (number_in 8 s) (valued mark) in
    let l : length s ≡ 12748 = eqb-true (length s) 12748 (and_left a b h) in
    let e : number_in 8 s ≡ valued mark = eqb-true (number_in 8 s) (valued mark) (and_right a b h) in
    let n : length (take 8 s) ≡ 8 = length-take-le 8 s (omega arith) in
    sym (spelled-valued (take 8 s) p) ∙ rw n (ap (spelled 8) (first-valued s ∙ e) ∙ mark-spelled)
