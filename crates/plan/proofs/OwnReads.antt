-- The returns of the functions that read what an activity or arm says of itself. Assumes nothing.
use mathlib.Core.Path.{◌≡◌, refl, sym, ◌∙◌}
use mathlib.Core.Bool.{Bool, true, false, cond, not, true≢false, ◌&&◌, ◌||◌}
use mathlib.Core.List.{List, [], ◌∷◌}
use Prim.Native.Nat.{ℕ, zero, suc, ◌+◌, ◌<◌, ◌≤◌}
use native.Mathlib.Nat.{add-zero}
use native.Mathlib.Omega.{arith}
use borrow.Author.Tests.{leb-false, eqb-false, le-leb, lt-leb, eq-eqb, ne_eqb}
use lib.Dec.{leb, eqb}
use lib.ListN.{get_or}
use Rattle.plan.specs.declared.Nodes.{Nodes}
use Rattle.plan.specs.declared.Tuple.{Tuple}
use Rattle.plan.specs.declared.Own as code
use Rattle.std.specs.Prelude.{Result, Ok, Err}
use Rattle.numbers.specs.declared.Number.{Number}
use Rattle.plan.specs.declared.Refusal.{Refusal}
use Rattle.plan.specs.Answers.{refusal, field_of, tuple_of, NodesRead, message_own, expression_own, list_own, own_answer, OwnPut, OwnRead}
use Rattle.plan.specs.Fits.{NumberFits, FieldFits}
use Rattle.plan.specs.Found.{Found, refused, found, and_then, number_in, field_in, among}
use Rattle.plan.specs.Nodes.{Base, Room, IsMessage, sends, receives, holds, asks, is_arm, IsExpression, sets, chooses, repeats, IsList, is_sequence, is_flow, is_pick, node_head_in}
use Rattle.plan.specs.Read.{Head, head, expression_in, tuple_in, exchange_in, arm_in, partner_in, held_send_in, asking_receive_in, with_expression_in, set_in, list_in, raise_in, is_code, is_scope_code, code_in, parts_in, head_in}
use Rattle.plan.specs.Store.{store, padded, chosen}
use Rattle.plan.specs.Table.{row, row_of, put_row, put_own, put_own_nodes, put_nodes, own_nodes, nodes_of}
use Rattle.plan.specs.Tree.{Exp, Own, empty, raise, leave, scope, kind}
use Rattle.plan.proofs.Finds.{Finds, finds-refused, finds-itself, finds-found, finds-cond, finds-then}
use Rattle.plan.proofs.ByKind.{raise-kind}
use Rattle.plan.proofs.ExpressionReads.{nodes-no, nodes-got}
use Rattle.plan.proofs.Stores.{chosen_at}
use Rattle.plan.proofs.TupleReads.{tuple-got, tuple-no}
use Rattle.plan.proofs.OneNumber.{then_found, then-refused, field-got, field-no, number_fits, field_fits, handed}

-- neither of two tests holds
cond-split : {P : Type 0} (a b : Bool) → (a || b) ≡ false → (a ≡ false → b ≡ false → P) → P
cond-split true b e f = let z : ◌≡◌ {A = Bool} true false = e in absurd (true≢false z)
cond-split false b e f = f refl e

-- `code_at`
module _ {r : Result Number Refusal} (s : List ℕ) (handler : Bool) (depth n at : ℕ) (e : r ≡ field_of (number_in s at)) where
  pub activity-code-handed : {y : Refusal} → r ≡ Err y → Err y ≡ field_of (code_in s handler depth n at)
  unfolding code_in
  activity-code-handed o = handed (number_in s at) _ e o

  module _ {read : Number} (o : r ≡ Ok read) {w : Bool} (k : w ≡ not (is_code read.value)) where
    pub code-unknown : w ≡ true → Err (refusal 4 at) ≡ field_of (code_in s handler depth n at)
    unfolding code_in field_of
    code-unknown h = rw (field-got (number_in s at) e o, sym k ∙ h)

    module _ (h : w ≡ false) {x : Bool} (i : x ≡ (handler && is_scope_code read.value)) where
      pub code-misplaced : x ≡ true → Err (refusal 8 at) ≡ field_of (code_in s handler depth n at)
      unfolding code_in field_of
      code-misplaced t = rw (field-got (number_in s at) e o, sym k ∙ h, sym i ∙ t)

      module _ (t : x ≡ false) {y : Bool} (j : y ≡ (eqb depth 0 || leb 256 n)) where
        pub code-overrun : y ≡ true → Err (refusal 6 at) ≡ field_of (code_in s handler depth n at)
        unfolding code_in field_of
        code-overrun u = rw (field-got (number_in s at) e o, sym k ∙ h, sym i ∙ t, sym j ∙ u)

        pub code-good : y ≡ false → Ok read ≡ field_of (code_in s handler depth n at)
        unfolding code_in field_of
        code-good u = rw (field-got (number_in s at) e o, sym k ∙ h, sym i ∙ t, sym j ∙ u)

-- what holds of a code that is read
pub record Coded (depth n code : ℕ) : Type 0 where
  pub deep : depth ≡ 0 → ⊥
  pub numbered : n < 256

none_over : (depth n : ℕ) → (eqb depth 0 || leb 256 n) ≡ false → (depth ≡ 0 → ⊥) × (n < 256)
none_over depth n e = cond-split (eqb depth 0) (leb 256 n) e (λ a b. (eqb-false depth 0 a, leb-false 256 n b))

pub code-numbered : (s : List ℕ) (handler : Bool) (depth n at : ℕ) → Finds (λ code next. Coded depth n code) (code_in s handler depth n at)
unfolding code_in
code-numbered s handler depth n at =
    finds-then (finds-itself (number_in s at))
    (λ code next h. finds-cond (not (is_code code)) (λ t. finds-refused)
    (λ t. finds-cond (handler && is_scope_code code) (λ u. finds-refused)
    (λ u. finds-cond (eqb depth 0 || leb 256 n) (λ w. finds-refused)
    (λ w. finds-found (record { deep = (none_over depth n w).0; numbered = (none_over depth n w).1 })))))

-- what an activity says of itself comes to, where what is found is known
module _ (g : Found Head) (at n m : ℕ) (t u : List ℕ) where
  pub own-refused : {number place : ℕ} → g ≡ refused number place → OwnRead g at n m (Err (refusal number place)) t u
  unfolding own_answer OwnPut
  own-refused e = rw e (record { is = refl; put = tt })

  pub own-found : (own : Own) {k within next nodes : ℕ} → g ≡ found (head own within) next → k ≡ kind own → nodes ≡ m + own_nodes own
      → u ≡ put_own own at n m t → OwnRead g at n m (Ok (code.Own.Read k within next nodes)) t u
  unfolding own_answer OwnPut
  own-found own e i c p = rw (e, i, c) (record { is = refl; put = p })

-- an activity whose own numbers are no expression, where its row is written
pub own_row : (g : Found Head) (at n m : ℕ) (t u : List ℕ) (own : Own) {k within next : ℕ} → g ≡ found (head own within) next → k ≡ kind own
    → own_nodes own ≡ 0 → put_own_nodes own m t ≡ t → u ≡ put_row n (row_of own m at) t → OwnRead g at n m (Ok (code.Own.Read k within next m)) t u
unfolding put_own
own_row g at n m t u own e i z p w = own-found g at n m t u own e i (rw z (sym (add-zero m))) (rw p w)

-- what was found, where the answer is known
no_of : {P : Type 0} {y : Refusal} {r : Result code.Own Refusal} (next k within nodes : ℕ) (b : Bool)
    → r ≡ Ok (cond b (code.Own.Numbered next) (code.Own.Read k within next nodes)) → r ≡ Err y → P
no_of next k within nodes true i o = let z : ◌≡◌ {A = ℕ} 0 1 = cc in absurd (omega arith)
no_of next k within nodes false i o = let z : ◌≡◌ {A = ℕ} 0 1 = cc in absurd (omega arith)

pub own-no : (g : Found Head) (at n m : ℕ) {r : Result code.Own Refusal} {t u : List ℕ} {y : Refusal} → OwnRead g at n m r t u → r ≡ Err y
    → g ≡ refused y.number y.place
unfolding own_answer
own-no (refused n p) at k m a o = let i = a.is in cc
own-no (found x n) at k m a o = no_of _ _ _ _ x.numbered a.is o

pub record Said (g : Found Head) (at n m k within next nodes : ℕ) (t u : List ℕ) : Type 0 where
  pub h : Head
  pub is : g ≡ found h next
  pub plain : h.numbered ≡ false
  pub same : k ≡ kind h.own
  pub many : within ≡ h.within
  pub count : nodes ≡ m + own_nodes h.own
  pub put : u ≡ put_own h.own at n m t

said_of : (g : Found Head) (at n m : ℕ) (x : Head) {r : Result code.Own Refusal} {t u : List ℕ} {k within next after nodes : ℕ} → g ≡ found x after → (b : Bool) → x.numbered ≡ b
    → r ≡ Ok (cond b (code.Own.Numbered after) (code.Own.Read (kind x.own) x.within after (m + own_nodes x.own))) → u ≡ cond b t (put_own x.own at n m t)
    → r ≡ Ok (code.Own.Read k within next nodes) → Said g at n m k within next nodes t u
said_of g at n m x e true z i p o = let z : ◌≡◌ {A = ℕ} 0 1 = cc in absurd (omega arith)
said_of g at n m x {next = next} {after = after} e false z i p o =
    let j : next ≡ after = cc in
    record { h = x; is = rw j e; plain = z; same = cc; many = cc; count = cc; put = p }

pub own-got : (g : Found Head) (at n m : ℕ) {r : Result code.Own Refusal} {t u : List ℕ} {k within next nodes : ℕ} → OwnRead g at n m r t u
    → r ≡ Ok (code.Own.Read k within next nodes) → Said g at n m k within next nodes t u
unfolding own_answer OwnPut
own-got (refused n p) at l m a o = let i = a.is in let z : ◌≡◌ {A = ℕ} 0 1 = cc in absurd (omega arith)
own-got (found x n) at l m a o = said_of (found x n) at l m x refl x.numbered refl a.is a.put o

-- the head of a scope with fault parts by number: nothing is written yet
pub record Numbers (g : Found Head) (body : ℕ) (t u : List ℕ) : Type 0 where
  pub h : Head
  pub is : g ≡ found h body
  pub told : h.numbered ≡ true
  pub same : u ≡ t

numbers_of : (g : Found Head) (at n m : ℕ) (x : Head) {r : Result code.Own Refusal} {t u : List ℕ} {next after : ℕ} → g ≡ found x after → (b : Bool) → x.numbered ≡ b
    → r ≡ Ok (cond b (code.Own.Numbered after) (code.Own.Read (kind x.own) x.within after (m + own_nodes x.own))) → u ≡ cond b t (put_own x.own at n m t)
    → r ≡ Ok (code.Own.Numbered next) → Numbers g next t u
numbers_of g at n m x {next = next} {after = after} e true z i p o =
    let j : next ≡ after = cc in
    record { h = x; is = rw j e; told = z; same = p }
numbers_of g at n m x e false z i p o = let z : ◌≡◌ {A = ℕ} 0 1 = cc in absurd (omega arith)

pub own-numbers : (g : Found Head) (at n m : ℕ) {r : Result code.Own Refusal} {t u : List ℕ} {next : ℕ} → OwnRead g at n m r t u → r ≡ Ok (code.Own.Numbered next) → Numbers g next t u
unfolding own_answer OwnPut
own-numbers (refused n p) at l m a o = let i = a.is in let z : ◌≡◌ {A = ℕ} 0 1 = cc in absurd (omega arith)
own-numbers (found x n) at l m a o = numbers_of (found x n) at l m x refl x.numbered refl a.is a.put o

-- an answer handed on from the reading of one number
module _ {r : Result Number Refusal} (g : Found ℕ) (f : ℕ → ℕ → Found Head) (at n m : ℕ) (t u : List ℕ) (e : r ≡ field_of g) where
  pub own-no-field : {y : Refusal} → r ≡ Err y → OwnRead (and_then g f) at n m (Err y) t u
  own-no-field o = own-refused _ at n m t u (rw (field-no g e o))

-- `list_own`
pub list-no-count : {r : Result Number Refusal} (s : List ℕ) (k limit at place n m : ℕ) (t u : List ℕ) {y : Refusal} → r ≡ field_of (field_in s 1 limit at)
    → r ≡ Err y → OwnRead (list_in s (list_own k) limit at) place n m (Err y) t u
unfolding list_in
list-no-count s k limit at place n m t u e o = own-no-field (field_in s 1 limit at) _ place n m t u e o

list-row : (g : Found Head) (at n m : ℕ) (t u : List ℕ) {k within next : ℕ} → IsList k → g ≡ found (head (list_own k) within) next
    → u ≡ put_row n (row k 0 0 [] 0 0 at) t → OwnRead g at n m (Ok (code.Own.Read k within next m)) t u
unfolding list_own kind own_nodes put_own_nodes row_of
list-row g at n m t u is_sequence e w = own_row g at n m t u (list_own 8) e refl refl refl w
list-row g at n m t u is_flow e w = own_row g at n m t u (list_own 9) e refl refl refl w
list-row g at n m t u is_pick e w = own_row g at n m t u (list_own 10) e refl refl refl w

pub list_counted : {c : Result Number Refusal} {r : Result code.Own Refusal} (s : List ℕ) (k limit at place n m : ℕ) (t u : List ℕ) {within : Number} → IsList k
    → c ≡ field_of (field_in s 1 limit at) → c ≡ Ok within → r ≡ Ok (code.Own.Read k within.value within.next m) → u ≡ put_row n (row k 0 0 [] 0 0 place) t
    → OwnRead (list_in s (list_own k) limit at) place n m r t u
unfolding list_in
list_counted s k limit at place n m t u l e o i w = rw i (list-row _ place n m t u l (rw (field-got (field_in s 1 limit at) e o)) w)

-- `raise_own`
module _ (s : List ℕ) (at place n m : ℕ) (t u : List ℕ) {f : Result Number Refusal} (e : f ≡ field_of (field_in s 16 256 at)) where
  pub raise-no-number : {y : Refusal} → f ≡ Err y → OwnRead (raise_in s at) place n m (Err y) t u
  unfolding raise_in
  raise-no-number o = own-no-field (field_in s 16 256 at) _ place n m t u e o

  pub raise-number : {number : Number} → FieldFits s at 16 256 f → f ≡ Ok number → u ≡ put_row n (row 13 number.value 0 [] 0 0 place) t
      → OwnRead (raise_in s at) place n m (Ok (code.Own.Read 13 0 number.next m)) t u
  unfolding raise_in own_nodes put_own_nodes row_of
  raise-number {number} b o w =
      let k = raise-kind number.value (field_fits s at 16 256 b o).1.0 in
      own_row _ place n m t u (raise number.value) (rw (field-got (field_in s 16 256 at) e o)) (sym k) refl refl (rw k w)

message-row : (g : Found Head) (at n m : ℕ) (t u : List ℕ) (p o : ℕ) (vs : List ℕ) {k within next : ℕ} → IsMessage k
    → g ≡ found (head (message_own k p o vs) within) next → u ≡ put_row n (row k p o vs 0 0 at) t
    → OwnRead g at n m (Ok (code.Own.Read k within next m)) t u
unfolding message_own kind own_nodes put_own_nodes row_of
message-row g at n m t u p o vs sends e w = own_row g at n m t u (message_own 1 p o vs) e refl refl refl w
message-row g at n m t u p o vs receives e w = own_row g at n m t u (message_own 2 p o vs) e refl refl refl w
message-row g at n m t u p o vs holds e w = own_row g at n m t u (message_own 17 p o vs) e refl refl refl w
message-row g at n m t u p o vs asks e w = own_row g at n m t u (message_own 18 p o vs) e refl refl refl w
message-row g at n m t u p o vs is_arm e w = own_row g at n m t u (message_own 255 p o vs) e refl refl refl w

-- `expression_own`
module _ (vars : ℕ) (s : List ℕ) (k v within at place n m : ℕ) (t : List ℕ) where
  pub own-no-expression : {r : Result Nodes Refusal} (u : List ℕ) {y : Refusal} → NodesRead (expression_in 8 vars s at) m r t u → r ≡ Err y
      → OwnRead (with_expression_in vars s (expression_own k v) within at) place n m (Err y) t u
  unfolding with_expression_in
  own-no-expression u a o = own-refused _ place n m t u (rw (nodes-no _ m a o))

expression-row : (g : Found Head) (at n m : ℕ) (t t₁ u : List ℕ) (x : Exp) {k v within next nodes : ℕ} → IsExpression k v
    → g ≡ found (head (expression_own k v x) within) next → nodes ≡ m + nodes_of x → t₁ ≡ put_nodes x m t → u ≡ put_row n (row k 0 0 [] v m at) t₁
    → OwnRead g at n m (Ok (code.Own.Read k within next nodes)) t u
unfolding expression_own kind own_nodes put_own_nodes put_own row_of
expression-row g at n m t t₁ u x (sets {v}) e c p w = own-found g at n m t u (expression_own 3 v x) e refl c (rw (← p) w)
expression-row g at n m t t₁ u x chooses e c p w = own-found g at n m t u (expression_own 6 0 x) e refl c (rw (← p) w)
expression-row g at n m t t₁ u x repeats e c p w = own-found g at n m t u (expression_own 7 0 x) e refl c (rw (← p) w)

pub own-expression : (vars : ℕ) (s : List ℕ) (k v within at place n m : ℕ) (t t₁ u : List ℕ) {r : Result Nodes Refusal} {made : Nodes} → IsExpression k v
    → NodesRead (expression_in 8 vars s at) m r t t₁ → r ≡ Ok made → u ≡ put_row n (row k 0 0 [] v m place) t₁
    → OwnRead (with_expression_in vars s (expression_own k v) within at) place n m (Ok (code.Own.Read k within made.next made.nodes)) t u
unfolding with_expression_in
own-expression vars s k v within at place n m t t₁ u i a o w =
    let x = nodes-got _ m a o in
    expression-row _ place n m t t₁ u x.e i (then_found (expression_in 8 vars s at) _ x.is) x.count x.put w

-- `partner_own` and `arm_own`
module _ (vars : ℕ) (once : Bool) (s : List ℕ) (k at place n m : ℕ) (t u : List ℕ) {p : Result Number Refusal} (e : p ≡ field_of (field_in s 0 64 at)) where
  pub message-no-partner : {y : Refusal} → p ≡ Err y → OwnRead (partner_in vars once s (message_own k) at) place n m (Err y) t u
  unfolding partner_in
  message-no-partner o = own-no-field (field_in s 0 64 at) _ place n m t u e o

  pub message-partner : {r : Result code.Own Refusal} {partner : Number} → p ≡ Ok partner
      → OwnRead (exchange_in vars once s (message_own k partner.value) 0 partner.next) place n m r t u → OwnRead (partner_in vars once s (message_own k) at) place n m r t u
  unfolding partner_in
  message-partner o a = rw (field-got (field_in s 0 64 at) e o) a

module _ (vars : ℕ) (s : List ℕ) (at n m : ℕ) (t u : List ℕ) {p : Result Number Refusal} (e : p ≡ field_of (field_in s 0 64 at)) where
  pub arm-no-partner : {y : Refusal} → p ≡ Err y → OwnRead (arm_in vars s n at) at n m (Err y) t u
  unfolding arm_in
  arm-no-partner o = own-no-field (field_in s 0 64 at) _ at n m t u e o

  pub arm-257 : {partner : Number} → p ≡ Ok partner → 256 ≤ n → OwnRead (arm_in vars s n at) at n m (Err (refusal 6 at)) t u
  unfolding arm_in
  arm-257 o h = own-refused _ at n m t u (rw (field-got (field_in s 0 64 at) e o, le-leb _ _ h))

  pub arm-partner : {r : Result code.Own Refusal} {partner : Number} → p ≡ Ok partner → n < 256
      → OwnRead (exchange_in vars true s (message_own 255 partner.value) 1 partner.next) at n m r t u → OwnRead (arm_in vars s n at) at n m r t u
  unfolding arm_in message_own
  arm-partner o h a = rw (field-got (field_in s 0 64 at) e o, lt-leb _ _ h) a

-- `set_own`
module _ (vars : ℕ) (flags s : List ℕ) (at place n m : ℕ) (t u : List ℕ) {v : Result Number Refusal} (e : v ≡ field_of (field_in s 0 vars at)) where
  pub set-no-variable : {y : Refusal} → v ≡ Err y → OwnRead (set_in vars (chosen 0 flags) s at) place n m (Err y) t u
  unfolding set_in
  set-no-variable o = own-no-field (field_in s 0 vars at) _ place n m t u e o

  module _ {read : Number} (o : v ≡ Ok read) where
    pub set-correlated : among read.value (chosen 0 flags) ≡ true → OwnRead (set_in vars (chosen 0 flags) s at) place n m (Err (refusal 5 at)) t u
    unfolding set_in
    set-correlated h = own-refused _ place n m t u (rw (field-got (field_in s 0 vars at) e o, h))

    pub set-variable : {r : Result code.Own Refusal} → among read.value (chosen 0 flags) ≡ false → OwnRead (with_expression_in vars s (expression_own 3 read.value) 0 read.next) place n m r t u
        → OwnRead (set_in vars (chosen 0 flags) s at) place n m r t u
    unfolding set_in expression_own
    set-variable h a = rw (field-got (field_in s 0 vars at) e o, h) a

-- what a value that kept its rule is below
pub value-below : (s : List ℕ) (at least limit : ℕ) {r : Result Number Refusal} {read : Number} → FieldFits s at least limit r → r ≡ Ok read → read.value < limit
value-below s at least limit f o = (field_fits s at least limit f o).1.1

pub variable-below : (s : List ℕ) (at : ℕ) {vars n m place : ℕ} {r : Result Number Refusal} {read : Number} → FieldFits s at 0 vars r → r ≡ Ok read
    → Room s vars n m place at → read.value < 16
variable-below s at f o a = let b = a.base in omega (arith, (field_fits s at 0 _ f o).1.1)

-- there is room for what follows a number
module _ (s : List ℕ) (vars n m at : ℕ) where
  pub room-on : (place least limit : ℕ) {r : Result Number Refusal} {read : Number} → Room s vars n m place at → FieldFits s at least limit r → r ≡ Ok read
      → Room s vars n m place read.next
  room-on place least limit a f o =
      let b = (field_fits s at least limit f o).0 in
      let c = a.ahead in
      record { base = a.base; numbered = a.numbered; ahead = omega arith }

  pub room-arm : (least limit : ℕ) {r : Result Number Refusal} {read : Number} → Base s vars m at → n < 256 → FieldFits s at least limit r → r ≡ Ok read
      → Room s vars n m at read.next
  room-arm least limit a h f o = let b = (field_fits s at least limit f o).0 in record { base = a; numbered = h; ahead = omega arith }

  pub room-code : (handler : Bool) (depth : ℕ) {r : Result Number Refusal} {code : Number} → Base s vars m at → r ≡ field_of (code_in s handler depth n at)
      → NumberFits s at r → r ≡ Ok code → Room s vars n m at code.next
  room-code handler depth a e f o =
      let b = number_fits s at f o in
      record { base = a; numbered = ((code-numbered s handler depth n at).holds (field-got _ e o)).numbered; ahead = omega arith }

-- `activity_own`
module _ (vars : ℕ) (cs s : List ℕ) (handler : Bool) (depth at n m : ℕ) (t u : List ℕ) {c : Result Number Refusal} (e : c ≡ field_of (code_in s handler depth n at)) where
  pub activity-no-code : {y : Refusal} → c ≡ Err y → OwnRead (head_in vars cs s handler depth n at) at n m (Err y) t u
  unfolding head_in
  activity-no-code o = own-no-field (code_in s handler depth n at) _ at n m t u e o

  pub activity-parts : {r : Result code.Own Refusal} {read : Number} → c ≡ Ok read → OwnRead (parts_in vars cs s read.value read.next) at n m r t u
      → OwnRead (head_in vars cs s handler depth n at) at n m r t u
  unfolding head_in
  activity-parts o a = rw (field-got (code_in s handler depth n at) e o) a

-- `own_at`
module _ (a : Bool) (vars : ℕ) (cs s : List ℕ) (handler : Bool) (depth n at m : ℕ) (t u : List ℕ) {r : Result code.Own Refusal} where
  pub own-of-arm : a ≡ true → OwnRead (arm_in vars s n at) at n m r t u → OwnRead (node_head_in a vars cs s handler depth n at) at n m r t u
  own-of-arm h b = rw h b

  pub own-of-activity : a ≡ false → OwnRead (head_in vars cs s handler depth n at) at n m r t u
      → OwnRead (node_head_in a vars cs s handler depth n at) at n m r t u
  own-of-activity h b = rw h b

-- `set_own`: the flag says whether the variable is for correlation
module _ (vars : ℕ) (flags s : List ℕ) (at place n m : ℕ) (t u : List ℕ) {v : Result Number Refusal} {read : Number} (e : v ≡ field_of (field_in s 0 vars at))
    (o : v ≡ Ok read) where
  pub set-flagged : get_or flags read.value 0 ≡ 1 → OwnRead (set_in vars (chosen 0 flags) s at) place n m (Err (refusal 5 at)) t u
  set-flagged h = set-correlated vars flags s at place n m t u e o (chosen_at flags 0 read.value read.value (omega arith) ∙ eq-eqb _ _ h)

  pub set-plain : {r : Result code.Own Refusal} → (get_or flags read.value 0 ≡ 1 → ⊥) → OwnRead (with_expression_in vars s (expression_own 3 read.value) 0 read.next) place n m r t u
      → OwnRead (set_in vars (chosen 0 flags) s at) place n m r t u
  set-plain h a = set-variable vars flags s at place n m t u e o (chosen_at flags 0 read.value read.value (omega arith) ∙ ne_eqb _ _ h) a

-- `exchange_own`
module _ (vars : ℕ) (once : Bool) (s : List ℕ) (k partner within at place n m : ℕ) (t u : List ℕ) {f : Result Number Refusal} (e : f ≡ field_of (field_in s 0 64 at)) where
  pub exchange-no-operation : {y : Refusal} → f ≡ Err y
      → OwnRead (exchange_in vars once s (message_own k partner) within at) place n m (Err y) t u
  unfolding exchange_in
  exchange-no-operation o = own-no-field (field_in s 0 64 at) _ place n m t u e o

  module _ {operation : Number} (o : f ≡ Ok operation) {x : Result Tuple Refusal} (i : x ≡ tuple_of (tuple_in vars once s operation.next)) where
    pub exchange-no-tuple : {y : Refusal} → x ≡ Err y
        → OwnRead (exchange_in vars once s (message_own k partner) within at) place n m (Err y) t u
    unfolding exchange_in
    exchange-no-tuple z = own-refused _ place n m t u (then_found (field_in s 0 64 at) _ (field-got _ e o) ∙ then-refused (tuple_in vars once s operation.next) _ (tuple-no _ i z))

    pub exchange-read : {y : Tuple} → IsMessage k → x ≡ Ok y
        → u ≡ put_row n (k ∷ partner ∷ operation.value ∷ y.count ∷ get_or y.variables 0 0 ∷ get_or y.variables 1 0 ∷ get_or y.variables 2 0 ∷ get_or y.variables 3 0 ∷ 0 ∷ 0 ∷ place ∷ []) t
        → OwnRead (exchange_in vars once s (message_own k partner) within at) place n m (Ok (code.Own.Read k within y.next m)) t u
    unfolding exchange_in
    exchange-read j z w =
        let y = tuple-got _ i z in
        message-row _ place n m t u partner operation.value y.l j
        (then_found (field_in s 0 64 at) _ (field-got _ e o) ∙ then_found (tuple_in vars once s operation.next) _ y.is)
        (rw (← y.many, ← y.stored) w)

-- a code below 3 that is not 0 is that of a send or a receive
pub message-kind : (k : ℕ) → (k ≡ 0 → ⊥) → k < 3 → IsMessage k
message-kind zero i l = absurd (i refl)
message-kind (suc zero) i l = sends
message-kind (suc (suc zero)) i l = receives
message-kind (suc (suc (suc k))) i l = absurd (omega arith)

-- `parts_own`: the table of codes
module _ (vars : ℕ) (cs s : List ℕ) (k at place n m : ℕ) (t u : List ℕ) {r : Result code.Own Refusal} where
  pub parts-empty : k ≡ 0 → r ≡ Ok (code.Own.Read 0 0 at m) → u ≡ put_row n (row 0 0 0 [] 0 0 place) t → OwnRead (parts_in vars cs s k at) place n m r t u
  unfolding parts_in kind own_nodes put_own_nodes row_of
  parts-empty h i w = rw (h, i) (own_row _ place n m t u empty refl refl refl refl w)

  pub parts-raise : k ≡ 4 → r ≡ Ok (code.Own.Read 4 0 at m) → u ≡ put_row n (row 4 0 0 [] 0 0 place) t → OwnRead (parts_in vars cs s k at) place n m r t u
  unfolding parts_in kind own_nodes put_own_nodes row_of
  parts-raise h i w = rw (h, i) (own_row _ place n m t u (raise 0) refl refl refl refl w)

  pub parts-leave : k ≡ 5 → r ≡ Ok (code.Own.Read 5 0 at m) → u ≡ put_row n (row 5 0 0 [] 0 0 place) t → OwnRead (parts_in vars cs s k at) place n m r t u
  unfolding parts_in kind own_nodes put_own_nodes row_of
  parts-leave h i w = rw (h, i) (own_row _ place n m t u leave refl refl refl refl w)

  pub parts-scope : k ≡ 11 → r ≡ Ok (code.Own.Read 11 3 at m) → u ≡ put_row n (row 11 0 0 [] 0 0 place) t → OwnRead (parts_in vars cs s k at) place n m r t u
  unfolding parts_in kind own_nodes put_own_nodes row_of store padded
  parts-scope h i w = rw (h, i) (own_row _ place n m t u (scope [] true) refl refl refl refl w)

  pub parts-open : k ≡ 12 → r ≡ Ok (code.Own.Read 12 2 at m) → u ≡ put_row n (row 12 0 0 [] 0 0 place) t → OwnRead (parts_in vars cs s k at) place n m r t u
  unfolding parts_in kind own_nodes put_own_nodes row_of store padded
  parts-open h i w = rw (h, i) (own_row _ place n m t u (scope [] false) refl refl refl refl w)

  pub parts-number : k ≡ 13 → OwnRead (raise_in s at) place n m r t u → OwnRead (parts_in vars cs s k at) place n m r t u
  unfolding parts_in
  parts-number h a = rw h a

  pub parts-message : (k ≡ 0 → ⊥) → k < 3 → OwnRead (partner_in vars (eqb k 2) s (message_own k) at) place n m r t u
      → OwnRead (parts_in vars cs s k at) place n m r t u
  unfolding parts_in message_own
  parts-message = go k
    where
      go : (j : ℕ) → (j ≡ 0 → ⊥) → j < 3 → OwnRead (partner_in vars (eqb j 2) s (message_own j) at) place n m r t u
          → OwnRead (parts_in vars cs s j at) place n m r t u
      go zero i l a = absurd (i refl)
      go (suc zero) i l a = a
      go (suc (suc zero)) i l a = a
      go (suc (suc (suc j))) i l a = absurd (omega arith)

  pub parts-set : k ≡ 3 → OwnRead (set_in vars cs s at) place n m r t u → OwnRead (parts_in vars cs s k at) place n m r t u
  unfolding parts_in
  parts-set h a = rw h a

  pub parts-choose : k ≡ 6 → OwnRead (with_expression_in vars s (expression_own 6 0) 2 at) place n m r t u → OwnRead (parts_in vars cs s k at) place n m r t u
  unfolding parts_in expression_own
  parts-choose h a = rw h a

  pub parts-repeat : k ≡ 7 → OwnRead (with_expression_in vars s (expression_own 7 0) 1 at) place n m r t u → OwnRead (parts_in vars cs s k at) place n m r t u
  unfolding parts_in expression_own
  parts-repeat h a = rw h a

  pub parts-sequence : k ≡ 8 → OwnRead (list_in s (list_own 8) 33 at) place n m r t u → OwnRead (parts_in vars cs s k at) place n m r t u
  unfolding parts_in list_own
  parts-sequence h a = rw h a

  pub parts-flow : k ≡ 9 → OwnRead (list_in s (list_own 9) 33 at) place n m r t u → OwnRead (parts_in vars cs s k at) place n m r t u
  unfolding parts_in list_own
  parts-flow h a = rw h a

  pub parts-pick : k ≡ 10 → OwnRead (list_in s (list_own 10) 9 at) place n m r t u → OwnRead (parts_in vars cs s k at) place n m r t u
  unfolding parts_in list_own
  parts-pick h a = rw h a

  pub parts_held : k ≡ 17 → OwnRead (held_send_in vars s at) place n m r t u → OwnRead (parts_in vars cs s k at) place n m r t u
  unfolding parts_in
  parts_held h a = rw h a

-- nothing is written of a scope with fault parts by number
module _ (vars : ℕ) (cs s : List ℕ) (k at place n m : ℕ) (t : List ℕ) where
  pub parts-numbered : k ≡ 14 → OwnRead (parts_in vars cs s k at) place n m (Ok (code.Own.Numbered at)) t t
  unfolding parts_in own_answer OwnPut
  parts-numbered h = rw h (record { is = refl; put = refl })

-- a code that is none of these is that of a receive that stores the reply partner
module _ (vars : ℕ) (cs s : List ℕ) (k at place n m : ℕ) (t u : List ℕ) {r : Result code.Own Refusal} where
  pub parts-asking : (k ≡ 0 → ⊥) → 3 ≤ k → (k ≡ 3 → ⊥) → (k ≡ 4 → ⊥) → (k ≡ 5 → ⊥) → (k ≡ 6 → ⊥) → (k ≡ 7 → ⊥) → (k ≡ 8 → ⊥) → (k ≡ 9 → ⊥) → (k ≡ 10 → ⊥)
      → (k ≡ 11 → ⊥) → (k ≡ 12 → ⊥) → (k ≡ 13 → ⊥) → (k ≡ 14 → ⊥) → (k ≡ 17 → ⊥) → OwnRead (asking_receive_in vars cs s at) place n m r t u
      → OwnRead (parts_in vars cs s k at) place n m r t u
  unfolding parts_in
  parts-asking n0 l n3 n4 n5 n6 n7 n8 n9 n10 n11 n12 n13 n14 n17 a =
      let n1 : k ≡ 1 → ⊥ = λ e. omega (arith, l, e) in
      let n2 : k ≡ 2 → ⊥ = λ e. omega (arith, l, e) in
      simp (ne_eqb _ _ n0, ne_eqb _ _ n1, ne_eqb _ _ n2, ne_eqb _ _ n3, ne_eqb _ _ n4, ne_eqb _ _ n5, ne_eqb _ _ n6, ne_eqb _ _ n7, ne_eqb _ _ n8, ne_eqb _ _ n9, ne_eqb _ _ n10, ne_eqb _ _ n11, ne_eqb _ _ n12, ne_eqb _ _ n13, ne_eqb _ _ n14, ne_eqb _ _ n17)
      a
