-- The returns of the functions that read a send or a receive with a reply partner. Assumes nothing.
use mathlib.Core.Path.{◌≡◌, refl, sym, ap, ◌∙◌}
use mathlib.Core.Bool.{Bool, true, false, cond, ◌&&◌, ◌||◌, false≢true}
use mathlib.Core.List.{List, [], ◌∷◌, ◌++◌}
use Prim.Native.Nat.{ℕ, zero, suc, ◌+◌, ◌*◌, ◌<◌, ◌≤◌}
use native.Mathlib.Omega.{arith}
use borrow.Author.Tests.{eq-eqb, ne_eqb}
use lib.Dec.{eqb}
use lib.ListN.{length, get_or, set, length-append}
use lib.Seq.{set-set}
use Rattle.plan.specs.declared.Own as code
use Rattle.std.specs.Prelude.{Result, Ok, Err}
use Rattle.numbers.specs.declared.Number.{Number}
use Rattle.plan.specs.declared.Refusal.{Refusal}
use Rattle.plan.specs.Answers.{refusal, field_of, storing_in, message_own, OwnRead}
use Rattle.plan.specs.Fits.{FieldFits}
use Rattle.plan.specs.Found.{Found, refused, found, and_then, field_in, among}
use Rattle.plan.specs.Nodes.{IsMessage, sends, receives, holds, asks, is_arm}
use Rattle.plan.specs.Numbering.{backwards, named}
use Rattle.plan.specs.Read.{Head, head, variables_in, tuple_in, exchange_in, held_send_in, asking_receive_in}
use Rattle.plan.specs.Store.{store, padded, chosen}
use Rattle.plan.specs.Table.{row, row_of, noted, put_row, put_own_nodes, put_own, own_nodes}
use Rattle.plan.specs.Tree.{Own, to_held, from_asking, send, receive, kind}
use Rattle.plan.proofs.Beside.{store_beside, noted-beside}
use Rattle.plan.proofs.Finds.{Finds, finds-refused, finds-itself, finds-found, finds-cond, finds-then, finds-so}
use Rattle.plan.proofs.Kept.{store_at, noted-kept}
use Rattle.plan.proofs.OneNumber.{then_found, then-refused, field-got, field-no, field_fits, handed}
use Rattle.plan.proofs.OwnReads.{own-refused, own_row, own-no, own-got, own-numbers, own-no-field}
use Rattle.plan.proofs.Stands.{field-within}
use Rattle.plan.proofs.Stores.{chosen_at, length-store}
use Rattle.plan.proofs.TableLong.{length-noted}

-- What an exchange finds and writes, and what reading on from it finds.

-- what was found of an exchange of which `own` is made: its operation, and the variables l behind it
record Exchanged (vars : ℕ) (once : Bool) (s : List ℕ) (own : ℕ → List ℕ → Own) (within at : ℕ) (h : Head) (next : ℕ) : Type 0 where
  operation : ℕ
  middle : ℕ
  l : List ℕ
  first : field_in s 0 64 at ≡ found operation middle
  rest : tuple_in vars once s middle ≡ found l next
  is : h ≡ head (own operation l) within

exchange-found : (vars : ℕ) (once : Bool) (s : List ℕ) (own : ℕ → List ℕ → Own) (within at : ℕ)
    → Finds (λ h next. Exchanged vars once s own within at h next) (exchange_in vars once s own within at)
unfolding exchange_in
exchange-found vars once s own within at =
    finds-then (finds-itself (field_in s 0 64 at))
    (λ operation p e. finds-then (finds-itself (tuple_in vars once s p))
    (λ l q f. finds-found (record { operation = operation; middle = p; l = l; first = e; rest = f; is = refl })))

-- the row of an exchange, by its kind
record Exchanging (k p o : ℕ) (l : List ℕ) (at n m : ℕ) (t : List ℕ) : Type 0 where
  same : kind (message_own k p o l) ≡ k
  none : own_nodes (message_own k p o l) ≡ 0
  put : put_own (message_own k p o l) at n m t ≡ put_row n (row k p o l 0 0 at) t

exchanging : {k : ℕ} (p o : ℕ) (l : List ℕ) (at n m : ℕ) (t : List ℕ) → IsMessage k → Exchanging k p o l at n m t
unfolding message_own kind own_nodes put_own_nodes put_own row_of
exchanging p o l at n m t sends = record { same = refl; none = refl; put = refl }
exchanging p o l at n m t receives = record { same = refl; none = refl; put = refl }
exchanging p o l at n m t holds = record { same = refl; none = refl; put = refl }
exchanging p o l at n m t asks = record { same = refl; none = refl; put = refl }
exchanging p o l at n m t is_arm = record { same = refl; none = refl; put = refl }

-- an exchange that was read and written
record Written (vars : ℕ) (once : Bool) (s : List ℕ) (k p at place n m : ℕ) (t t₁ : List ℕ) (told within next nodes : ℕ) : Type 0 where
  operation : ℕ
  middle : ℕ
  l : List ℕ
  first : field_in s 0 64 at ≡ found operation middle
  rest : tuple_in vars once s middle ≡ found l next
  put : t₁ ≡ put_row n (row k p operation l 0 0 place) t
  same : told ≡ k
  many : within ≡ 0
  none : nodes ≡ m

module _ (vars : ℕ) (once : Bool) (s : List ℕ) {k : ℕ} (p at place n m : ℕ) {x : Result code.Own Refusal} {t t₁ : List ℕ} (message : IsMessage k)
    (a : OwnRead (exchange_in vars once s (message_own k p) 0 at) place n m x t t₁) where
  written : {told within next nodes : ℕ} → x ≡ Ok (code.Own.Read told within next nodes) → Written vars once s k p at place n m t t₁ told within next nodes
  written b =
      let c = own-got (exchange_in vars once s (message_own k p) 0 at) place n m a b in
      let d = (exchange-found vars once s (message_own k p) 0 at).holds c.is in
      let g = exchanging p d.operation d.l place n m t message in
      let own : c.h.own ≡ message_own k p d.operation d.l = ap (λ (h : Head). h.own) d.is in
      record {
        operation = d.operation;
        middle = d.middle;
        l = d.l;
        first = d.first;
        rest = d.rest;
        put = c.put ∙ (ap (λ (w : Own). put_own w place n m t) own ∙ g.put);
        same = c.same ∙ (ap kind own ∙ g.same);
        many = c.many ∙ ap (λ (h : Head). h.within) d.is;
        none = omega (arith, c.count, ap own_nodes own, g.none);
      }

  -- it is no scope with fault parts by number
  exchange-plain : {body : ℕ} → x ≡ Ok (code.Own.Numbered body) → ⊥
  exchange-plain b =
      let c = own-numbers (exchange_in vars once s (message_own k p) 0 at) place n m a b in
      let d = (exchange-found vars once s (message_own k p) 0 at).holds c.is in
      false≢true (sym (ap (λ (h : Head). h.numbered) d.is) ∙ c.told)

-- where the exchange is refused, so is all that goes on from it
tuple-refuses : {A B : Type 0} (g : Found (List ℕ)) (f : List ℕ → ℕ → A) (k : List ℕ → ℕ → Found B) {number place : ℕ}
    → and_then g (λ l q. found (f l q) q) ≡ refused number place → and_then g k ≡ refused number place
tuple-refuses (refused n p) f k e = let i = e in cc
tuple-refuses (found l q) f k e = let z : ◌≡◌ {A = ℕ} 0 1 = cc in absurd (omega arith)

exchange-refuses : {B : Type 0} (g : Found ℕ) (tuple : ℕ → Found (List ℕ)) (own : ℕ → List ℕ → Own) (within : ℕ) (k : ℕ → List ℕ → ℕ → Found B) {number place : ℕ}
    → and_then g (λ o p. and_then (tuple p) (λ l q. found (head (own o l) within) q)) ≡ refused number place
    → and_then g (λ o p. and_then (tuple p) (k o)) ≡ refused number place
exchange-refuses (refused n p) tuple own within k e = let i = e in cc
exchange-refuses (found o p) tuple own within k e = tuple-refuses (tuple p) (λ l q. head (own o l) within) (k o) e

-- A number of a row, written again.

store-again : (x y : ℕ) (l : List ℕ) (base offset : ℕ) (t : List ℕ) → set (store (x ∷ l) base offset t) (base + offset) y ≡ store (y ∷ l) base offset t
unfolding store
store-again x y l base offset t =
    sym (store_beside l base (offset + 1) (base + offset) y (set t (base + offset) x) (omega arith))
    ∙ ap (store l base (offset + 1)) (set-set t (base + offset) x y)

held-row : (n a x o c v1 v2 v3 v4 b y e at : ℕ) (t : List ℕ)
    → set (set (put_row n (17 ∷ a ∷ o ∷ c ∷ v1 ∷ v2 ∷ v3 ∷ v4 ∷ b ∷ e ∷ at ∷ []) t) (n * 13 + 1) x) (n * 13 + 8) y
    ≡ put_row n (17 ∷ x ∷ o ∷ c ∷ v1 ∷ v2 ∷ v3 ∷ v4 ∷ y ∷ e ∷ at ∷ []) t
unfolding put_row noted store
held-row n a x o c v1 v2 v3 v4 b y e at t =
    ap (λ (u : List ℕ). set u (n * 13 + 8) y) (store-again a x (o ∷ c ∷ v1 ∷ v2 ∷ v3 ∷ v4 ∷ b ∷ e ∷ at ∷ []) (n * 13) 1 (set t (n * 13 + 0) 17))
    ∙ store-again b y (e ∷ at ∷ []) (n * 13) 8 (store (17 ∷ x ∷ o ∷ c ∷ v1 ∷ v2 ∷ v3 ∷ v4 ∷ []) (n * 13) 0 t)

asking-row : (n p o c v1 v2 v3 v4 b y e at : ℕ) (t : List ℕ) → n < 256
    → set (put_row n (18 ∷ p ∷ o ∷ c ∷ v1 ∷ v2 ∷ v3 ∷ v4 ∷ b ∷ e ∷ at ∷ []) t) (n * 13 + 8) y
    ≡ put_row n (18 ∷ p ∷ o ∷ c ∷ v1 ∷ v2 ∷ v3 ∷ v4 ∷ y ∷ e ∷ at ∷ []) t
unfolding put_row store
asking-row n p o c v1 v2 v3 v4 b y e at t h =
    sym (noted-beside (n * 13 + 8) y (omega arith) 18 p (store (18 ∷ p ∷ o ∷ c ∷ v1 ∷ v2 ∷ v3 ∷ v4 ∷ b ∷ e ∷ at ∷ []) (n * 13) 0 t))
    ∙ ap (noted 18 p) (store-again b y (e ∷ at ∷ []) (n * 13) 8 (store (18 ∷ p ∷ o ∷ c ∷ v1 ∷ v2 ∷ v3 ∷ v4 ∷ []) (n * 13) 0 t))

-- what stands in a row of a receive that was just written
row_at : (n : ℕ) (r t : List ℕ) → length r ≡ 11 → n < 256 → length t ≡ 11584 → get_or r 1 0 < 64 → (j : ℕ) → j < 11
    → get_or (put_row n r t) (n * 13 + j) 0 ≡ get_or r j 0
unfolding put_row
row_at n r t w h long p j l =
    let z : n * 13 + 0 + j ≡ n * 13 + j = omega arith in
    (noted-kept (n + 1) 256 0 0 (omega arith) (omega arith) (get_or r 0 0) (get_or r 1 0) (store r (n * 13) 0 t) (λ q. p)).rows_below (n * 13 + j) (omega arith)
    ∙ ap (λ (i : ℕ). get_or (store r (n * 13) 0 t) i 0) (sym z)
    ∙ store_at r (n * 13) 0 t (omega arith) j (omega arith)

length-row : (n : ℕ) (r t : List ℕ) → length (put_row n r t) ≡ length t
unfolding put_row
length-row n r t = length-noted (get_or r 0 0) (get_or r 1 0) (store r (n * 13) 0 t) ∙ length-store r (n * 13) 0 t

-- The variables of a tuple in eight places, the latest first.

or-four : (a b c d : Bool) → (d || (c || (b || (a || false)))) ≡ (a || (b || (c || (d || false))))
or-four true true true true = refl
or-four true true true false = refl
or-four true true false true = refl
or-four true true false false = refl
or-four true false true true = refl
or-four true false true false = refl
or-four true false false true = refl
or-four true false false false = refl
or-four false true true true = refl
or-four false true true false = refl
or-four false true false true = refl
or-four false true false false = refl
or-four false false true true = refl
or-four false false true false = refl
or-four false false false true = refl
or-four false false false false = refl

abbrev eight : List ℕ → List ℕ
eight l = get_or l 0 0 ∷ get_or l 1 0 ∷ get_or l 2 0 ∷ get_or l 3 0 ∷ 0 ∷ 0 ∷ 0 ∷ 0 ∷ []

among-eight : (v : ℕ) (l : List ℕ) → length l ≤ 4 → among v (backwards (length l) (eight (padded l))) ≡ among v l
unfolding among backwards padded store
among-eight v [] h = refl
among-eight v (a ∷ []) h = refl
among-eight v (a ∷ b ∷ []) h = or-four false false (eqb v a) (eqb v b)
among-eight v (a ∷ b ∷ c ∷ []) h = or-four false (eqb v a) (eqb v b) (eqb v c)
among-eight v (a ∷ b ∷ c ∷ d ∷ []) h = or-four (eqb v a) (eqb v b) (eqb v c) (eqb v d)
among-eight v (a ∷ b ∷ c ∷ d ∷ e ∷ l) h = absurd (omega arith)

-- a tuple has no more than four
variables-many : (vars : ℕ) (once : Bool) (s : List ℕ) (left : ℕ) (read : List ℕ) (at : ℕ)
    → Finds (λ l next. length l ≡ length read + left) (variables_in vars once s left read at)
unfolding variables_in
variables-many vars once s zero read at = finds-found (omega arith)
variables-many vars once s (suc left) read at =
    finds-then (finds-itself (field_in s 0 vars at))
    (λ v next h. finds-cond (once && among v read) (λ t. finds-refused)
    (λ t. finds-so (variables-many vars once s left (read ++ (v ∷ [])) next) (λ l q k. omega (arith, k, length-append read (v ∷ [])))))

tuple-few : (vars : ℕ) (once : Bool) (s : List ℕ) (at : ℕ) → Finds (λ l next. length l ≤ 4) (tuple_in vars once s at)
unfolding tuple_in
tuple-few vars once s at =
    finds-then (field-within s 1 5 at) (λ count q j. finds-so (variables-many vars once s count [] q) (λ l next k. omega (arith, j.1, k)))

-- `held_send_own`
module _ (vars : ℕ) (s : List ℕ) (at place n m : ℕ) (t : List ℕ) {f : Result Number Refusal} (e : f ≡ field_of (field_in s 0 vars at)) where
  pub held-no-variable : (u : List ℕ) {y : Refusal} → f ≡ Err y → OwnRead (held_send_in vars s at) place n m (Err y) t u
  unfolding held_send_in
  held-no-variable u o = own-no-field (field_in s 0 vars at) _ place n m t u e o

  module _ {v : Number} (o : f ≡ Ok v) {x : Result code.Own Refusal} {t₁ : List ℕ} (a : OwnRead (exchange_in vars false s (message_own 17 0) 0 v.next) place n m x t t₁) where
    pub held-no-exchange : (u : List ℕ) {y : Refusal} → x ≡ Err y → OwnRead (held_send_in vars s at) place n m (Err y) t u
    unfolding held_send_in exchange_in
    held-no-exchange u b =
        own-refused _ place n m t u
        (then_found (field_in s 0 vars at) _ (field-got _ e o) ∙ exchange-refuses (field_in s 0 64 v.next) (tuple_in vars false s) (message_own 17 0) 0 _ (own-no _ place n m a b))

    pub held_plain : (u : List ℕ) {body : ℕ} → x ≡ Ok (code.Own.Numbered body) → OwnRead (held_send_in vars s at) place n m (Ok (code.Own.Numbered body)) t u
    held_plain u b = absurd (exchange-plain vars false s 0 v.next place n m holds a b)

    module _ {told within last nodes : ℕ} (b : x ≡ Ok (code.Own.Read told within last nodes)) {g : Result Number Refusal} (i : g ≡ field_of (field_in s 0 64 last)) where
      pub held-no-reply : (u : List ℕ) {y : Refusal} → g ≡ Err y → OwnRead (held_send_in vars s at) place n m (Err y) t u
      unfolding held_send_in
      held-no-reply u z =
          let c = written vars false s 0 v.next place n m holds a b in
          own-refused _ place n m t u
          (then_found (field_in s 0 vars at) _ (field-got _ e o)
          ∙ (then_found (field_in s 0 64 v.next) _ c.first
          ∙ (then_found (tuple_in vars false s c.middle) _ c.rest
          ∙ then-refused (field_in s 0 64 last) _ (field-no _ i z))))

      pub held-read : {reply : Number} {t₂ u : List ℕ} → g ≡ Ok reply → t₂ ≡ set t₁ (n * 13 + 1) reply.value → u ≡ set t₂ (n * 13 + 8) v.value
          → OwnRead (held_send_in vars s at) place n m (Ok (code.Own.Read told within reply.next nodes)) t u
      unfolding held_send_in kind own_nodes put_own_nodes row_of
      held-read {reply} {u = u} z w y =
          let c = written vars false s 0 v.next place n m holds a b in
          rw (c.same, c.many, c.none)
          (own_row _ place n m t u (send (to_held v.value reply.value) c.operation c.l)
          (then_found (field_in s 0 vars at) _ (field-got _ e o)
          ∙ (then_found (field_in s 0 64 v.next) _ c.first
          ∙ (then_found (tuple_in vars false s c.middle) _ c.rest
          ∙ then_found (field_in s 0 64 last) _ (field-got _ i z))))
          refl refl refl
          (y
          ∙ (ap (λ (q : List ℕ). set q (n * 13 + 8) v.value) w
          ∙ (ap (λ (q : List ℕ). set (set q (n * 13 + 1) reply.value) (n * 13 + 8) v.value) c.put
          ∙ held-row n 0 reply.value _ _ _ _ _ _ 0 v.value 0 place t))))

-- `spoken_for`
module _ (v : ℕ) (flags others : List ℕ) where
  pub for-correlation : get_or flags v 0 ≡ 1 → true ≡ (among v (chosen 0 flags) || among v others)
  for-correlation h = rw (chosen_at flags 0 v v (omega arith) ∙ eq-eqb _ _ h)

  pub for-no-correlation : {b : Bool} → (get_or flags v 0 ≡ 1 → ⊥) → b ≡ among v others → b ≡ (among v (chosen 0 flags) || among v others)
  for-no-correlation h e = rw (chosen_at flags 0 v v (omega arith) ∙ ne_eqb _ _ h) e

-- `storing_at`
pub storing-below : (s : List ℕ) (at vars : ℕ) {r : Result Number Refusal} {read : Number} → vars ≤ 16 → FieldFits s at 0 vars r → r ≡ Ok read → read.value < 16
storing-below s at vars l f o = omega (arith, (field_fits s at 0 vars f o).1.1)

module _ (vars : ℕ) (cs others s : List ℕ) (at : ℕ) {r : Result Number Refusal} (e : r ≡ field_of (field_in s 0 vars at)) where
  pub storing-handed : {y : Refusal} → r ≡ Err y → Err y ≡ field_of (storing_in vars cs others s at)
  unfolding storing_in
  storing-handed o = handed (field_in s 0 vars at) _ e o

  module _ {read : Number} (o : r ≡ Ok read) {b : Bool} (i : b ≡ (among read.value cs || among read.value others)) where
    pub storing-spoken-for : b ≡ true → Err (refusal 5 at) ≡ field_of (storing_in vars cs others s at)
    unfolding storing_in field_of
    storing-spoken-for h = rw (field-got (field_in s 0 vars at) e o, sym i ∙ h)

    pub storing-good : b ≡ false → Ok read ≡ field_of (storing_in vars cs others s at)
    unfolding storing_in field_of
    storing-good h = rw (field-got (field_in s 0 vars at) e o, sym i ∙ h)

-- readers that find the same
then_same : {A B : Type 0} (g : Found A) (f k : A → ℕ → Found B) → ((a : A) (next : ℕ) → f a next ≡ k a next) → and_then g f ≡ and_then g k
then_same (refused number place) f k e = refl
then_same (found a next) f k e = e a next

storing-same : (vars : ℕ) (cs a b s : List ℕ) (at : ℕ) → ((v : ℕ) → among v a ≡ among v b) → storing_in vars cs a s at ≡ storing_in vars cs b s at
unfolding storing_in
storing-same vars cs a b s at h = then_same (field_in s 0 vars at) _ _ (λ v next. rw (h v))

-- what follows the variable that stores
cond-then : {A B : Type 0} (b : Bool) (number place : ℕ) (a : A) (next : ℕ) (k : A → ℕ → Found B)
    → and_then (cond b (refused number place) (found a next)) k ≡ cond b (refused number place) (k a next)
cond-then true number place a next k = refl
cond-then false number place a next k = refl

then-in : {A B C : Type 0} (g : Found A) (f : A → ℕ → Found B) (h : B → ℕ → Found C) → and_then (and_then g f) h ≡ and_then g (λ a p. and_then (f a p) h)
then-in (refused number place) f h = refl
then-in (found a next) f h = refl

storing-then : {B : Type 0} (vars : ℕ) (cs others s : List ℕ) (at : ℕ) (k : ℕ → ℕ → Found B)
    → and_then (field_in s 0 vars at) (λ v next. cond (among v cs || among v others) (refused 5 at) (k v next)) ≡ and_then (storing_in vars cs others s at) k
unfolding storing_in
storing-then vars cs others s at k =
    sym (then-in (field_in s 0 vars at) _ k ∙ then_same (field_in s 0 vars at) _ _ (λ v next. cond-then (among v cs || among v others) 5 at v next k))

-- `asking_receive_own`
module _ (vars : ℕ) (cs s : List ℕ) (at place n m : ℕ) (t : List ℕ) {f : Result Number Refusal} (e : f ≡ field_of (field_in s 0 64 at)) where
  pub asking-no-partner : (u : List ℕ) {y : Refusal} → f ≡ Err y → OwnRead (asking_receive_in vars cs s at) place n m (Err y) t u
  unfolding asking_receive_in
  asking-no-partner u o = own-no-field (field_in s 0 64 at) _ place n m t u e o

  module _ {partner : Number} (o : f ≡ Ok partner) {x : Result code.Own Refusal} {t₁ : List ℕ}
      (a : OwnRead (exchange_in vars true s (message_own 18 partner.value) 0 partner.next) place n m x t t₁) where
    pub asking-no-exchange : (u : List ℕ) {y : Refusal} → x ≡ Err y → OwnRead (asking_receive_in vars cs s at) place n m (Err y) t u
    unfolding asking_receive_in exchange_in
    asking-no-exchange u b =
        own-refused _ place n m t u
        (then_found (field_in s 0 64 at) _ (field-got _ e o)
        ∙ exchange-refuses (field_in s 0 64 partner.next) (tuple_in vars true s) (message_own 18 partner.value) 0 _ (own-no _ place n m a b))

    pub asking-plain : (u : List ℕ) {body : ℕ} → x ≡ Ok (code.Own.Numbered body) → OwnRead (asking_receive_in vars cs s at) place n m (Ok (code.Own.Numbered body)) t u
    asking-plain u b = absurd (exchange-plain vars true s partner.value partner.next place n m asks a b)

    module _ {told within last nodes : ℕ} (b : x ≡ Ok (code.Own.Read told within last nodes)) (h : n < 256) (long : length t₁ ≡ 11584) (low : partner.value < 64) where
      exchange : Written vars true s 18 partner.value partner.next place n m t t₁ told within last nodes
      exchange = written vars true s partner.value partner.next place n m asks a b

      few : length exchange.l ≤ 4
      few = (tuple-few vars true s exchange.middle).holds exchange.rest

      -- what stands in the row
      in_row : (j : ℕ) → j < 11 → get_or t₁ (n * 13 + j) 0 ≡ get_or (row 18 partner.value exchange.operation exchange.l 0 0 place) j 0
      in_row j l =
          let was : length t ≡ 11584 = sym (ap length exchange.put ∙ length-row n (row 18 partner.value exchange.operation exchange.l 0 0 place) t) ∙ long in
          ap (λ (u : List ℕ). get_or u (n * 13 + j) 0) exchange.put ∙ row_at n (row 18 partner.value exchange.operation exchange.l 0 0 place) t refl h was low j l

      pub asking-few : get_or t₁ (n * 13 + 3) 0 ≤ 4
      asking-few = omega (arith, in_row 3 (omega arith), few)

      named-same : (v : ℕ) → among v (named t₁ n) ≡ among v exchange.l
      named-same v =
          rw (in_row 3 (omega arith), in_row 4 (omega arith), in_row 5 (omega arith), in_row 6 (omega arith), in_row 7 (omega arith)) (among-eight v exchange.l few)

      -- reading goes on behind the exchange
      asking-on : asking_receive_in vars cs s at
          ≡ and_then (storing_in vars cs (named t₁ n) s last) (λ v after. found (head (receive (from_asking partner.value v) exchange.operation exchange.l) 0) after)
      unfolding asking_receive_in
      asking-on =
          then_found (field_in s 0 64 at) _ (field-got _ e o)
          ∙ (then_found (field_in s 0 64 partner.next) _ exchange.first
          ∙ (then_found (tuple_in vars true s exchange.middle) _ exchange.rest
          ∙ (storing-then vars cs exchange.l s last _
          ∙ ap (λ (g : Found ℕ). and_then g (λ v after. found (head (receive (from_asking partner.value v) exchange.operation exchange.l) 0) after))
          (sym (storing-same vars cs (named t₁ n) exchange.l s last named-same)))))

      module _ {g : Result Number Refusal} (i : g ≡ field_of (storing_in vars cs (named t₁ n) s last)) where
        pub asking-no-variable : (u : List ℕ) {y : Refusal} → g ≡ Err y → OwnRead (asking_receive_in vars cs s at) place n m (Err y) t u
        asking-no-variable u z = own-refused _ place n m t u (asking-on ∙ then-refused (storing_in vars cs (named t₁ n) s last) _ (field-no _ i z))

        pub asking-read : {v : Number} {u : List ℕ} → g ≡ Ok v → u ≡ set t₁ (n * 13 + 8) v.value
            → OwnRead (asking_receive_in vars cs s at) place n m (Ok (code.Own.Read told within v.next nodes)) t u
        unfolding kind own_nodes put_own_nodes row_of
        asking-read {v} {u = u} z y =
            rw (exchange.same, exchange.many, exchange.none)
            (own_row _ place n m t u (receive (from_asking partner.value v.value) exchange.operation exchange.l)
            (asking-on ∙ then_found (storing_in vars cs (named t₁ n) s last) _ (field-got _ i z))
            refl refl refl (y ∙ (ap (λ (q : List ℕ). set q (n * 13 + 8) v.value) exchange.put ∙ asking-row n partner.value _ _ _ _ _ _ 0 v.value 0 place t h)))
