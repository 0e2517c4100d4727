-- The messages that wait: the loop that closes a gap, the search for one that is to be collected, and the returns of post and collect. Assumes nothing.
use mathlib.Core.Path.{◌≡◌, refl, sym, ap, ◌∙◌}
use mathlib.Core.Bool.{Bool, true, false, cond, not}
use mathlib.Core.List.{List, [], ◌∷◌, ◌++◌, append_assoc}
use Prim.Native.Nat.{ℕ, zero, suc, ◌+◌, ◌-◌, ◌<◌, ◌≤◌}
use native.Mathlib.Numerals.{add-one}
use native.Mathlib.Omega.{arith}
use borrow.Author.Tests.{lt-ltb, le-ltb, le-leb, lt-leb, ltb-true, leb-true, not-true, not-false}
use lib.Dec.{ltb, leb, eqb}
use lib.ListN.{length, get_or, take, drop, set, length-append, length-drop, take-append-drop, drop_of_length-le}
use lib.Seq.{take-suc, take_all, length-take-le, set_at, take_at, drop-cons, drop-length, get_or-append-add, get_or-drop, get_or-take}
use Rattle.std.proofs.Math.Seq.{paste}
use Rattle.std.proofs.lemmas.List.Edits.{paste_all}
use Rattle.plan.specs.Found.{among}
use Rattle.plan.specs.Tree.{Plan}
use Rattle.plan.proofs.Accepts.{both}
use Rattle.machine.specs.declared.Message.{Message}
use Rattle.machine.specs.declared.State.{State}
use Rattle.machine.specs.declared.Posted.{Posted}
use Rattle.machine.specs.declared.Collected.{Collected}
use Rattle.machine.specs.Heard.{Heard}
use Rattle.order.specs.Lists.{every}
use Rattle.machine.specs.State.{no_message, with_messages, adding, removing}
use Rattle.machine.specs.Limits.{exchanged, message_in_limits, order_in_limits, in_limits}
use Rattle.machine.specs.Calls.{trimmed, post_by, partners_of, foreign, handing, collect_by}
use Rattle.machine.specs.Planned.{added_to, taken_from, Adds, Removes}

-- A gap at k is closed in a list of 64: its elements up to i are those of the list without the one at k, and those from i on are where they were.
abbrev without : {A : Type 0} → ℕ → List A → List A
without k l = take k l ++ drop (k + 1) l

pub record Gap {A : Type 0} (l out : List A) (k i : ℕ) : Type 0 where
  pub is : out ≡ take i (without k l) ++ drop i l
  pub long : length l ≡ 64
  pub ahead : k ≤ i
  pub within : i ≤ 63

module _ {A : Type 0} (l : List A) (k : ℕ) (e : length l ≡ 64) where
  length_without : k < 64 → length (without k l) ≡ 63
  length_without h =
      let a : length (take k l) ≡ k = length-take-le k l (omega arith) in
      let b = length-drop (k + 1) l in
      length-append (take k l) (drop (k + 1) l) ∙ omega arith

  -- those behind the gap are copied one place down
  pub gap-copied : k < 64 → {out : List A} → out ≡ paste l k (drop (k + 1) l) (64 - (k + 1)) → Gap l out k 63
  gap-copied h q =
      let n : 64 - (k + 1) ≡ length (drop (k + 1) l) = omega (arith, length-drop (k + 1) l) in
      let z : k + (64 - (k + 1)) ≡ 63 = omega arith in
      let w = length_without h in
      let t : take 63 (without k l) ≡ without k l = take_all 63 (without k l) (omega arith) in
      record {
        is = q
            ∙ paste_all l k (drop (k + 1) l) (64 - (k + 1)) n
            ∙ ap (λ (j : ℕ). take k l ++ (drop (k + 1) l ++ drop j l)) z
            ∙ sym (append_assoc (take k l) (drop (k + 1) l) (drop 63 l))
            ∙ ap (λ (y : List A). y ++ drop 63 l) (sym t);
        long = e;
        ahead = omega arith;
        within = omega arith;
      }

module _ {A : Type 0} {l out : List A} {k i : ℕ} (a : Gap l out k i) where
  -- the element at i is another
  gap-set : (x d : A) → i < 64 → set out i x ≡ take i (without k l) ++ (x ∷ drop (suc i) l)
  gap-set x d h =
      let m = a.long in
      let w = length_without l k a.long (omega arith) in
      let n : length (take i (without k l)) ≡ i = length-take-le i (without k l) (omega arith) in
      ap (λ (y : List A). set y i x) (a.is ∙ ap (λ (y : List A). take i (without k l) ++ y) (drop-cons l i d (omega arith)))
      ∙ set_at (take i (without k l)) (get_or l i d) (drop (suc i) l) x i n

  pub gap-closed : (x : A) → 63 ≤ i → set out 63 x ≡ take k l ++ (drop (k + 1) l ++ (x ∷ []))
  gap-closed x h =
      let m = a.long in
      let w = length_without l k a.long (omega arith) in
      let q : i ≡ 63 = omega arith in
      let z : suc i ≡ length l = omega arith in
      ap (λ (j : ℕ). set out j x) (sym q)
      ∙ gap-set x x (omega arith)
      ∙ ap (λ (y : List A). y ++ (x ∷ drop (suc i) l)) (take_all i (without k l) (omega arith))
      ∙ ap (λ (y : List A). without k l ++ (x ∷ y)) (ap (λ (j : ℕ). drop j l) z ∙ drop-length l)
      ∙ append_assoc (take k l) (drop (k + 1) l) (x ∷ [])

pub gap-filled : {l out : List Message} {k i : ℕ} {x : Message} → Gap l out k i → 63 ≤ i → x ≡ no_message
    → set out 63 x ≡ take k l ++ (drop (k + 1) l ++ (no_message ∷ []))
gap-filled {l} {out} {k} {i} {x} a h e = ap (λ (y : Message). set out 63 y) e ∙ gap-closed a no_message h

-- `left`
pub left_is : (s : State) (k : ℕ) {l : List Message} → l ≡ take k s.messages ++ (drop (k + 1) s.messages ++ (no_message ∷ []))
    → ◌≡◌ {A = State} (record { plan = s.plan; length = s.length; orders = s.orders; messages = l; waiting = s.waiting - 1 }) (removing k s)
left_is s k e = rw e

-- `post_by`
pub post-count : (m : Message) {r : Bool} → r ≡ exchanged m.partner m.operation m.count m.reply → not r ≡ false → m.count ≤ 4
unfolding exchanged
post-count m {r} e t =
    both (ltb m.partner 64) _ (sym e ∙ not-false r t) (λ a b.
    both (ltb m.operation 64) _ b (λ c d.
    both (leb 1 m.count) _ d (λ f g.
    both (leb m.count 4) _ g (λ x y. leb-true _ _ x))))

module _ (m : Message) (s : State) {r : Bool} (e : r ≡ exchanged m.partner m.operation m.count m.reply) where
  pub post-ruled-out : not r ≡ true → (p : Plan) → ◌≡◌ {A = Posted} (record { refusal = 13; state = s }) (post_by p m s)
  unfolding post_by
  post-ruled-out q p = rw (sym e ∙ not-true r q)

  module _ (t : not r ≡ false) where
    pub post-full : 64 ≤ s.waiting → (p : Plan) → ◌≡◌ {A = Posted} (record { refusal = 14; state = s }) (post_by p m s)
    unfolding post_by
    post-full h p = rw (sym e ∙ not-false r t, le-leb _ _ h)

    pub post-taken : {n : Message} {u : State} → s.waiting < 64 → n ≡ trimmed m → u ≡ adding n s
        → (p : Plan) → ◌≡◌ {A = Posted} (record { refusal = 0; state = u }) (post_by p m s)
    unfolding post_by
    post-taken {n} {u} h q v p =
        let z : u ≡ adding (trimmed m) s = v ∙ ap (λ (x : Message). adding x s) q in
        rw (sym e ∙ not-false r t, lt-leb _ _ h, z)

-- `foreign_place`: of the messages that wait the first i are for partners of the plan, whatever its partners are
pub record Seeking (t : List ℕ) (l : List Message) (n i : ℕ) : Type 0 where
  pub long : length l ≡ n
  pub within : i ≤ n
  pub same : (ps : List ℕ) → Heard t ps → foreign ps 0 l ≡ foreign ps i (drop i l)

pub seeking-starts : (t : List ℕ) (l : List Message) (n : ℕ) → n ≤ 64 → length l ≡ 64 → Seeking t (take n l) n 0
seeking-starts t l n h e = record { long = length-take-le n l (omega arith); within = omega arith; same = λ ps x. refl }

-- a message among those within their limits has a partner below 64
pub every-at : (f : Message → Bool) (l : List Message) (i : ℕ) (d : Message) → every f l ≡ true → i < length l → f (get_or l i d) ≡ true
unfolding every
every-at f [] i d e h = absurd (omega arith)
every-at f (m ∷ l) zero d e h = both (f m) (every f l) e (λ a b. a)
every-at f (m ∷ l) (suc i) d e h = both (f m) (every f l) e (λ a b. every-at f l i d b (omega arith))

module _ {t : List ℕ} {l : List Message} {n i : ℕ} (a : Seeking t l n i) where
  pub seeking-none : n ≤ i → (ps : List ℕ) → Heard t ps → n ≡ foreign ps 0 l
  unfolding foreign
  seeking-none h ps x =
      let m = a.long in
      let w = a.within in
      let k : length l ≤ i = omega arith in
      let q : drop i l ≡ [] = drop_of_length-le l k in
      let z : i ≡ n = omega arith in
      sym (a.same ps x ∙ rw q z)

  pub partner-below : (d : Message) → every message_in_limits l ≡ true → i < n → (get_or l i d).partner < 64
  unfolding message_in_limits exchanged
  partner-below d e h =
      let m = a.long in
      let z : message_in_limits (get_or l i d) ≡ true = every-at message_in_limits l i d e (omega arith) in
      both (exchanged (get_or l i d).partner (get_or l i d).operation (get_or l i d).count (get_or l i d).reply) _ z (λ a b.
      both (ltb (get_or l i d).partner 64) _ a (λ x y. ltb-true _ _ x))

  module _ (d : Message) {b : Bool} (v : every message_in_limits l ≡ true) (h : i < n) (e : b ≡ eqb (get_or t (3328 + (get_or l i d).partner) 0) 1) where
    one_more : (ps : List ℕ) → Heard t ps → foreign ps 0 l ≡ cond b (foreign ps (i + 1) (drop (i + 1) l)) i
    unfolding foreign
    one_more ps x =
        let m = a.long in
        let k : i < length l = omega arith in
        let y : b ≡ among (get_or l i d).partner ps = e ∙ x.tells (get_or l i d).partner (partner-below d v h) in
        a.same ps x ∙ rw (drop-cons l i d k, add-one i, sym y)

    pub seeking-found : b ≡ false → (ps : List ℕ) → Heard t ps → i ≡ foreign ps 0 l
    seeking-found q ps x = sym (one_more ps x ∙ rw q)

    pub seeking-on : b ≡ true → Seeking t l n (i + 1)
    seeking-on q = record { long = a.long; within = omega arith; same = λ ps x. one_more ps x ∙ rw q }

-- `collect_by`
pub limits-letters : (s : State) → in_limits s ≡ true → (s.waiting ≤ 64) × (every message_in_limits (take s.waiting s.messages) ≡ true)
unfolding in_limits
limits-letters s e =
    both (leb s.length 4096) _ e (λ a b.
    both (leb s.waiting 64) _ b (λ c d.
    both (every order_in_limits s.orders) _ d (λ f g. (leb-true _ _ c, g))))

module _ (s : State) (e : in_limits s ≡ true) where
  pub limits-waiting : s.waiting ≤ 64
  limits-waiting = (limits-letters s e).0

  pub limits-messages : every message_in_limits (take s.waiting s.messages) ≡ true
  limits-messages = (limits-letters s e).1

  pub limits-place : {i : ℕ} → i < s.waiting → i < 64
  limits-place h = omega (arith, (limits-letters s e).0)

-- `letter_at`: an element that stands in a list does not hang on what else would be read
pub same-there : {A : Type 0} (l : List A) (i : ℕ) (d e : A) → i < length l → get_or l i d ≡ get_or l i e
same-there [] i d e h = absurd (omega arith)
same-there (x ∷ l) zero d e h = refl
same-there (x ∷ l) (suc i) d e h = same-there l i d e (omega arith)

pub letter-there : (l : List Message) (i : ℕ) → i < 64 → length l ≡ 64
    → get_or l i (record { partner = 0; operation = 0; count = 0; values = []; reply = 0 }) ≡ get_or l i no_message
letter-there l i h e = same-there l i _ no_message (omega arith)

-- `handed`
module _ (s : State) (i : ℕ) where
  pub handed-none : {m : Message} → s.waiting ≤ i → m ≡ no_message
      → ◌≡◌ {A = Collected} (record { refusal = 15; message = m; state = s }) (handing i s)
  unfolding handing
  handed-none h q = rw (le-ltb _ _ h, q)

  pub handed-one : {m : Message} {u : State} → i < s.waiting → m ≡ get_or s.messages i no_message → u ≡ removing i s
      → ◌≡◌ {A = Collected} (record { refusal = 0; message = m; state = u }) (handing i s)
  unfolding handing
  handed-one h z q = rw (lt-ltb _ _ h, q, z)

-- `collect_by`
pub collect-handed : (t : List ℕ) (s : State) {i : ℕ} {r : Collected} → ((ps : List ℕ) → Heard t ps → i ≡ foreign ps 0 (take s.waiting s.messages))
    → r ≡ handing i s → (p : Plan) → Heard t (partners_of p) → r ≡ collect_by p s
unfolding collect_by
collect-handed t s f e p x = rw (sym (f (partners_of p) x)) e

-- the messages of a state are put back as they are
pub kept-mail : (s : State) {l : List Message} {n : ℕ} → s.messages ≡ l → s.waiting ≡ n → with_messages l n s ≡ s
kept-mail s e f = rw (← e, ← f)

-- `with_message`
module _ (m : Message) (l : List Message) (n : ℕ) where
  pub added_more : n < 64 → Adds m l n (record { messages = set l n m; waiting = n + 1 })
  unfolding added_to
  added_more h = record { is = λ s e f. rw (e, f, lt-ltb _ _ h) }

  pub added_full : 64 ≤ n → Adds m l n (record { messages = l; waiting = n })
  unfolding added_to
  added_full h = record { is = λ s e f. kept-mail s e f ∙ rw (f, le-ltb _ _ h) }

-- `without_message`
module _ (j : ℕ) (l : List Message) (n : ℕ) where
  pub taken-beyond : 64 < n → Removes j l n (record { messages = l; waiting = n })
  unfolding taken_from
  taken-beyond h = record { is = λ s e f. kept-mail s e f ∙ rw (f, lt-leb _ _ h) }

  pub taken_none : n ≤ 64 → n ≤ j → Removes j l n (record { messages = l; waiting = n })
  unfolding taken_from
  taken_none g h = record { is = λ s e f. kept-mail s e f ∙ rw (f, le-leb _ _ g, le-ltb _ _ h) }

  pub taken-one : n ≤ 64 → j < n → {r : List Message} → r ≡ take j l ++ (drop (j + 1) l ++ (no_message ∷ [])) → Removes j l n (record { messages = r; waiting = n - 1 })
  unfolding taken_from
  taken-one g h q = record { is = λ s e f. rw (q, e, f, le-leb _ _ g, lt-ltb _ _ h) }
