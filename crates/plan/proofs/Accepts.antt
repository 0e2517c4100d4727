-- The spelling of every plan within the limits is read as that plan. Assumes nothing.
use borrow.Author.Tests.{ltb-true, leb-true, eqb-true, not-true, le-ltb, lt-leb, eq-eqb, ne_eqb}
use native.Mathlib.Omega.{arith}
use native.Mathlib.Numerals.{one-add, sub-one}
use mathlib.Core.Path.{◌≡◌, refl, sym, ap, ◌∙◌}
use mathlib.Core.Bool.{Bool, true, false, cond, not, ◌&&◌, ◌||◌, false≢true, or_assoc, and-false}
use mathlib.Core.List.{List, [], ◌∷◌, ◌++◌, append_assoc, append-nil, map}
use Prim.Native.Nat.{ℕ, zero, suc, ◌+◌, ◌-◌, ◌≤◌, ◌<◌}
use lib.ListN.{length, take, drop, length-append, length-drop, take-append-drop}
use lib.Seq.{length-take-le, drop-drop, drop-append_seam}
use lib.Dec.{ltb, leb, eqb}
use Rattle.numbers.specs.Number.{got, number_at}
use Rattle.numbers.specs.Shortest.{shortest}
use Rattle.numbers.proofs.Laws.{shortest-is-read}
use Rattle.plan.specs.Found.{Found, found, and_then, number_in, field_in, among}
use Rattle.plan.specs.Read.{expression_code_in, operation_of, leaf_in, expression_in, variables_in, tuple_in, Head, head, exchange_in, arm_in, partner_in, held_send_in, asking_receive_in, with_expression_in, set_in, list_in, raise_in, namable, fault_number_in, is_code, is_scope_code, code_in, parts_in, head_in, many_in, numbered_head, numbered_in, numbered_scope_in, read_arm, later_of, read_act, start_form, correlation_in, version_in, root_in, read_any}
use Rattle.plan.specs.Spell.{spell, operation_code, expression_numbers, exchange_numbers, own_numbers, gaps_of, act_numbers, acts_numbers, plan_numbers, spelling}
use Rattle.plan.specs.Tree.{Operation, sum, difference, equal, less, Exp, constant, variable, binary, Own, empty, to_partner, to_held, from_partner, from_asking, send, receive, set, raise, leave, choose, repeat, sequence, flow, pick, scope, arm, kind, numbers_of, Act, act, Acts, none, more, Plan, size, sizes, count, is_pick, is_scope}
use Rattle.plan.specs.Within.{expression_within, variables_within, exchange_within, from1, numbers_each, numbers_within, own_within, act_within, acts_within, ascending, plan_within}
use Rattle.plan.proofs.Stands.{scope-numbers}
use Rattle.plan.proofs.ByKind.{raise-limits, ByNumber, plain, numbered, by_number, namable-small, early-code, code-small}

-- both of two tests hold
pub both : (a b : Bool) {P : Type 0} → (a && b) ≡ true → (a ≡ true → b ≡ true → P) → P
both true b e f = f refl e
both false b e f = absurd (false≢true e)

-- That the bytes s from `at` on are the spelling of the numbers ns, with `rest` after it.
record Left (rest s : List ℕ) (at : ℕ) (ns : List ℕ) : Type 0 where
  inside : at ≤ length s
  there : drop at s ≡ spell ns ++ rest

-- That reading finds a, and that ns are left after it.
record Gives (rest s : List ℕ) {A : Type 0} (o : Found A) (a : A) (ns : List ℕ) : Type 0 where
  next : ℕ
  finds : o ≡ found a next
  after : Left rest s next ns

module _ {rest s : List ℕ} where
  -- reading that goes on
  and-then : {A B : Type 0} {o : Found A} (f : A → ℕ → Found B) {a : A} {b : B} {ms ns : List ℕ} → Gives rest s o a ms
      → ((at : ℕ) → Left rest s at ms → Gives rest s (f a at) b ns) → Gives rest s (and_then o f) b ns
  and-then f r g =
      let q = g r.next r.after in
      record { next = q.next; finds = rw r.finds q.finds; after = q.after }

  -- reading that ends
  ends : {A : Type 0} {a : A} {ns : List ℕ} {at : ℕ} → Left rest s at ns → Gives rest s (found a at) a ns
  ends {at = at} t = record { next = at; finds = refl; after = t }

-- a number, at the place where its spelling starts
number-at : (s r : List ℕ) (at v : ℕ) → at ≤ length s → drop at s ≡ shortest v ++ r → v ≤ 4294967295 → number_at s at ≡ got v (at + length (shortest v))
number-at s r at v i e h =
    let l : length (take at s) ≡ at = length-take-le at s i in
    let w : take at s ++ (shortest v ++ r) ≡ s = rw (← e) (take-append-drop at s) in
    rw (l, w) at (shortest-is-read (take at s) r v h)

module _ {rest s : List ℕ} {at : ℕ} {ns : List ℕ} where
  number : {v : ℕ} → v ≤ 4294967295 → Left rest s at (v ∷ ns) → Gives rest s (number_in s at) v ns
  unfolding number_in spell
  number {v} h t =
      let e : drop at s ≡ shortest v ++ (spell ns ++ rest) = t.there ∙ append_assoc (shortest v) (spell ns) rest in
      let l : length s - at ≡ length (shortest v) + (length (spell ns) + length rest) = simp (length-drop, length-append) at (ap length e) in
      record {
        next = at + length (shortest v);
        finds = rw (number-at s (spell ns ++ rest) at v t.inside e h);
        after = record {
          inside = omega (arith, l, t.inside);
          there = sym (drop-drop (length (shortest v)) at s) ∙ rw e (drop-append_seam (shortest v) (spell ns ++ rest));
        };
      }

  field : {least limit v : ℕ} → least ≤ v → v < limit → v ≤ 4294967295 → Left rest s at (v ∷ ns) → Gives rest s (field_in s least limit at) v ns
  unfolding field_in
  field l m h t = and-then _ (number h t) (λ next u. rw (le-ltb _ _ l, lt-leb _ _ m) (ends u))

-- the number of a fault part, none of those read
fault-number : {rest s : List ℕ} {at x : ℕ} {ns : List ℕ} (read : List ℕ) → namable x ≡ true → among x read ≡ false → Left rest s at (x ∷ ns)
    → Gives rest s (fault_number_in s read at) x ns
unfolding fault_number_in
fault-number {x = x} read h k t = and-then _ (number (omega (arith, namable-small x h)) t) (λ next u. rw (h, k) (ends u))

-- Expressions.

record Code (o : Operation) : Type 0 where
  known : operation_code o ≤ 5
  inner : ltb (operation_code o) 2 ≡ false
  same : operation_of (operation_code o) ≡ o

code_of : (o : Operation) → Code o
unfolding operation_code
code_of sum = record { known = omega arith; inner = refl; same = refl }
code_of difference = record { known = omega arith; inner = refl; same = refl }
code_of equal = record { known = omega arith; inner = refl; same = refl }
code_of less = record { known = omega arith; inner = refl; same = refl }

expression-code : {rest s : List ℕ} {at code : ℕ} {ns : List ℕ} → code ≤ 5 → Left rest s at (code ∷ ns) → Gives rest s (expression_code_in s at) code ns
unfolding expression_code_in
expression-code h t = and-then _ (number (omega arith) t) (λ next u. rw (le-ltb _ _ h) (ends u))

-- Variables.

pub among-append : (w : ℕ) (a b : List ℕ) → among w (a ++ b) ≡ (among w a || among w b)
unfolding among
among-append w [] b = refl
among-append w (x ∷ a) b = rw (among-append w a b) (sym (or_assoc (eqb w x) (among w a) (among w b)))

-- where `once` holds, no variable of l is among those that are read
unfoldable pub Apart : (once : Bool) (read l : List ℕ) → Type 0
Apart once read l = (w : ℕ) → among w l ≡ true → (once && among w read) ≡ false

pub apart-first : (once : Bool) (read l : List ℕ) (v : ℕ) → Apart once read (v ∷ l) → (once && among v read) ≡ false
unfolding Apart among
apart-first once read l v a = a v (rw (eq-eqb v v refl))

apart_next : (once : Bool) (read l : List ℕ) (v : ℕ) → Apart once read (v ∷ l) → (once && among v l) ≡ false → Apart once (read ++ (v ∷ [])) l
unfolding Apart among
apart_next false read l v a h w m = refl
apart_next true read l v a h w m =
    let n : eqb w v ≡ false = ne_eqb w v (λ e. false≢true (sym h ∙ rw e at m)) in
    rw (among-append w read (v ∷ []), n, a w (rw n m))

-- the same where those that are read are the latest first
pub apart_more : (read l : List ℕ) (v : ℕ) → Apart true read (v ∷ l) → among v l ≡ false → Apart true (v ∷ read) l
unfolding Apart among
apart_more read l v a h w m =
    let n : eqb w v ≡ false = ne_eqb w v (λ e. false≢true (sym h ∙ rw e at m)) in
    rw n (a w (rw n m))

-- What an exchange within the limits keeps to.
record Exchange (vars : ℕ) (once : Bool) (partner operation : ℕ) (variables : List ℕ) : Type 0 where
  partner-known : partner < 64
  operation-known : operation < 64
  some : 1 ≤ length variables
  most : length variables ≤ 4
  each : variables_within vars once variables ≡ true

exchange-of : (vars : ℕ) (once : Bool) (partner operation : ℕ) (variables : List ℕ) → exchange_within vars once partner operation variables ≡ true
    → Exchange vars once partner operation variables
unfolding exchange_within
exchange-of vars once partner operation variables h =
    both (ltb partner 64) _ h (λ a h1. both (ltb operation 64) _ h1 (λ b h2. both (leb 1 (length variables)) _ h2 (λ c h3.
    both (leb (length variables) 4) _ h3 (λ d e. record {
      partner-known = ltb-true _ _ a;
      operation-known = ltb-true _ _ b;
      some = leb-true _ _ c;
      most = leb-true _ _ d;
      each = e;
    }))))

-- what follows is read where there are `vars` variables
module _ {rest s : List ℕ} (vars : ℕ) (few : vars ≤ 16) where
  -- a variable
  a-variable : {at v : ℕ} {ns : List ℕ} → ltb v vars ≡ true → Left rest s at (v ∷ ns) → Gives rest s (field_in s 0 vars at) v ns
  a-variable {v = v} h t = let l = ltb-true v vars h in field (omega arith) l (omega arith) t

  expression : (e : Exp) (depth : ℕ) {at : ℕ} {ns : List ℕ} → expression_within vars e depth ≡ true → Left rest s at (expression_numbers e ++ ns)
      → Gives rest s (expression_in depth vars s at) e ns
  unfolding expression_within expression_numbers expression_in leaf_in
  expression (constant value) zero h t = absurd (false≢true h)
  expression (variable v) zero h t = absurd (false≢true h)
  expression (binary o l r) zero h t = absurd (false≢true h)
  expression (constant value) (suc d) h t =
      both (ltb 0 (suc d)) _ h (λ _ m. and-then _ (expression-code (omega arith) t) (λ p u. and-then _ (number (leb-true _ _ m) u) (λ q w. ends w)))
  expression (variable v) (suc d) h t =
      both (ltb 0 (suc d)) _ h (λ _ m. and-then _ (expression-code (omega arith) t) (λ p u. and-then _ (a-variable m u) (λ q w. ends w)))
  expression (binary o l r) (suc d) {ns = ns} h t =
      both (ltb 0 (suc d)) _ h (λ _ m. both (expression_within vars l (suc d - 1)) _ m (λ x y.
      let c = code_of o in
      and-then _ (expression-code c.known t) (λ p u.
      rw (c.inner, c.same)
      (and-then _ (expression l d (rw (sub-one (suc d)) at x) (rw append_assoc at u)) (λ q v.
      and-then _ (expression r d (rw (sub-one (suc d)) at y) v) (λ z w. ends w))))))

  variables : (once : Bool) (read l : List ℕ) {at : ℕ} {ns : List ℕ} → Apart once read l → variables_within vars once l ≡ true
      → Left rest s at (l ++ ns) → Gives rest s (variables_in vars once s (length l) read at) (read ++ l) ns
  unfolding variables_within variables_in
  variables once read [] a h t = rw (append-nil read) (ends t)
  variables once read (v ∷ l) a h t =
      both (ltb v vars) _ h (λ x y. both (not (once && among v l)) _ y (λ z rest-within.
      and-then _ (a-variable x t) (λ p u.
      rw (apart-first once read l v a)
      (rw (append_assoc read (v ∷ []) l) at (variables once (read ++ (v ∷ [])) l (apart_next once read l v a (not-true _ z)) rest-within u)))))

  module _ {once : Bool} {partner operation : ℕ} {l : List ℕ} (x : Exchange vars once partner operation l) where
    tuple : {at : ℕ} {ns : List ℕ} → Left rest s at (length l ∷ (l ++ ns)) → Gives rest s (tuple_in vars once s at) l ns
    unfolding tuple_in Apart among
    tuple t = and-then _ (field x.some (omega arith) (omega arith) t) (λ p u. variables once [] l (λ w m. and-false once) x.each u)

    exchange : (own : ℕ → List ℕ → Own) (within : ℕ) {at : ℕ} {ns : List ℕ} → Left rest s at (operation ∷ length l ∷ (l ++ ns))
        → Gives rest s (exchange_in vars once s own within at) (head (own operation l) within) ns
    unfolding exchange_in
    exchange own within t =
        and-then _ (field (omega arith) x.operation-known (omega arith) t) (λ p u. and-then _ (tuple u) (λ q w. ends w))

    with-partner : (own : ℕ → ℕ → List ℕ → Own) {at : ℕ} {ns : List ℕ} → Left rest s at (partner ∷ operation ∷ length l ∷ (l ++ ns))
        → Gives rest s (partner_in vars once s own at) (head (own partner operation l) 0) ns
    unfolding partner_in
    with-partner own t =
        and-then _ (field (omega arith) x.partner-known (omega arith) t) (λ p u. exchange (own partner) 0 u)

  an-arm : {partner operation : ℕ} {l : List ℕ} → Exchange vars true partner operation l → {n at : ℕ} {ns : List ℕ} → n < 256
      → Left rest s at (partner ∷ operation ∷ length l ∷ (l ++ ns)) → Gives rest s (arm_in vars s n at) (head (arm partner operation l) 1) ns
  unfolding arm_in
  an-arm {partner} x room t =
      and-then _ (field (omega arith) x.partner-known (omega arith) t) (λ p u. rw (lt-leb _ _ room) (exchange x (arm partner) 1 u))

  a-held-send : {v reply operation : ℕ} {l : List ℕ} → ltb v vars ≡ true → Exchange vars false reply operation l → {at : ℕ} {ns : List ℕ}
      → Left rest s at (v ∷ operation ∷ length l ∷ ((l ++ (reply ∷ [])) ++ ns)) → Gives rest s (held_send_in vars s at) (head (send (to_held v reply) operation l) 0) ns
  unfolding held_send_in
  a-held-send {reply = reply} {l = l} k x {ns = ns} t =
      and-then _ (a-variable k t) (λ p u.
      and-then _ (field (omega arith) x.operation-known (omega arith) u) (λ q w.
      and-then _ (tuple x (rw (append_assoc l (reply ∷ []) ns) at w)) (λ r y.
      and-then _ (field (omega arith) x.partner-known (omega arith) y) (λ e z. ends z))))

  an-asking-receive : (cs : List ℕ) {partner operation v : ℕ} {l : List ℕ} → ltb v vars ≡ true → (among v cs || among v l) ≡ false → Exchange vars true partner operation l
      → {at : ℕ} {ns : List ℕ} → Left rest s at (partner ∷ operation ∷ length l ∷ ((l ++ (v ∷ [])) ++ ns))
      → Gives rest s (asking_receive_in vars cs s at) (head (receive (from_asking partner v) operation l) 0) ns
  unfolding asking_receive_in
  an-asking-receive cs {v = v} {l = l} k m x {ns = ns} t =
      and-then _ (field (omega arith) x.partner-known (omega arith) t) (λ p u.
      and-then _ (field (omega arith) x.operation-known (omega arith) u) (λ q w.
      and-then _ (tuple x (rw (append_assoc l (v ∷ []) ns) at w)) (λ r y.
      and-then _ (a-variable k y) (λ e z. rw m (ends z)))))

  with-expression : (own : Exp → Own) (within : ℕ) (e : Exp) {at : ℕ} {ns : List ℕ} → expression_within vars e 8 ≡ true
      → Left rest s at (expression_numbers e ++ ns) → Gives rest s (with_expression_in vars s own within at) (head (own e) within) ns
  unfolding with_expression_in
  with-expression own within e h t = and-then _ (expression e 8 h t) (λ p u. ends u)

  a-set : (cs : List ℕ) (v : ℕ) (e : Exp) {at : ℕ} {ns : List ℕ} → ltb v vars ≡ true → among v cs ≡ false → expression_within vars e 8 ≡ true
      → Left rest s at (v ∷ (expression_numbers e ++ ns)) → Gives rest s (set_in vars cs s at) (head (set v e) 0) ns
  unfolding set_in
  a-set cs v e h k x t = and-then _ (a-variable h t) (λ p u. rw k (with-expression (set v) 0 e x u))

  a-list : (own : Own) (limit within : ℕ) {at : ℕ} {ns : List ℕ} → from1 limit within ≡ true → limit ≤ 32 → Left rest s at (within ∷ ns)
      → Gives rest s (list_in s own (limit + 1) at) (head own within) ns
  unfolding list_in
  a-list own limit within h k t =
      both (leb 1 within) _ h (λ x y.
      let l = leb-true 1 within x in
      let m = leb-true within limit y in
      and-then _ (field l (omega arith) (omega arith) t) (λ p u. ends u))

  a-raise : (number : ℕ) {at : ℕ} {ns : List ℕ} → (16 ≤ number) × (number < 256) → Left rest s at (number ∷ ns)
      → Gives rest s (raise_in s at) (head (raise number) 0) ns
  unfolding raise_in
  a-raise number l t = and-then _ (field l.0 l.1 (omega (arith, l.1)) t) (λ p u. ends u)

  module _ (handler : Bool) {depth n : ℕ} (levels : 0 < depth) (room : n < 256) where
    code : {code at : ℕ} {ns : List ℕ} → is_code code ≡ true → (handler && is_scope_code code) ≡ false → Left rest s at (code ∷ ns)
        → Gives rest s (code_in s handler depth n at) code ns
    unfolding code_in
    code {code = c} h k t =
        and-then _ (number (omega (arith, code-small c h)) t) (λ p u. rw (h, k, ne_eqb depth 0 (λ z. omega arith), lt-leb _ _ room) (ends u))

    -- an activity's code, and what follows it
    coded : (cs : List ℕ) {code at : ℕ} {h : Head} {ms ns : List ℕ} → code ≤ 10 → Left rest s at (code ∷ ms)
        → ((p : ℕ) → Left rest s p ms → Gives rest s (parts_in vars cs s code p) h ns) → Gives rest s (head_in vars cs s handler depth n at) h ns
    unfolding head_in
    coded cs {code = c} k t parts = and-then _ (code (early-code c (omega arith)) (rw (ne_eqb c 11 (λ z. omega arith), ne_eqb c 12 (λ z. omega arith), ne_eqb c 14 (λ z. omega arith)) (and-false handler)) t) parts

    -- an activity before those within it; a scope with fault parts by number below
    an-own : (cs : List ℕ) (own : Own) (within : ℕ) {at : ℕ} {ns : List ℕ} → numbers_of own ≡ [] → own_within vars cs handler false own within ≡ true
        → Left rest s at (own_numbers own within ++ ns) → Gives rest s (head_in vars cs s handler depth n at) (head own within) ns
    unfolding head_in parts_in own_within own_numbers exchange_numbers
    an-own cs empty within k h t = rw (eqb-true within 0 h) (coded cs (omega arith) t (λ p u. ends u))
    an-own cs (send (to_partner partner) operation l) within k h t =
        both (eqb within 0) _ h (λ z x. rw (eqb-true within 0 z)
        (coded cs (omega arith) t (λ p u. with-partner (exchange-of vars false partner operation l x) (λ q. send (to_partner q)) u)))
    an-own cs (send (to_held v reply) operation l) within k h t =
        both (eqb within 0) _ h (λ z h1. both (ltb v vars) _ h1 (λ y x. rw (eqb-true within 0 z)
        (and-then _ (code refl (and-false handler) t) (λ p u. a-held-send y (exchange-of vars false reply operation l x) u))))
    an-own cs (receive (from_partner partner) operation l) within k h t =
        both (eqb within 0) _ h (λ z x. rw (eqb-true within 0 z)
        (coded cs (omega arith) t (λ p u. with-partner (exchange-of vars true partner operation l x) (λ q. receive (from_partner q)) u)))
    an-own cs (receive (from_asking partner v) operation l) within k h t =
        both (eqb within 0) _ h (λ z h1. both (exchange_within vars true partner operation l) _ h1 (λ x h2. both (ltb v vars) _ h2 (λ y w. rw (eqb-true within 0 z)
        (and-then _ (code refl (and-false handler) t) (λ p u. an-asking-receive cs y (not-true _ w) (exchange-of vars true partner operation l x) u)))))
    an-own cs (set v e) within k h t =
        both (eqb within 0) _ h (λ z h1. both (ltb v vars) _ h1 (λ x h2. both (not (among v cs)) _ h2 (λ y w. rw (eqb-true within 0 z)
        (coded cs (omega arith) t (λ p u. a-set cs v e x (not-true _ y) w u)))))
    an-own cs (raise zero) within k h t =
        both (eqb within 0) _ h (λ z x. rw (eqb-true within 0 z) (coded cs (omega arith) t (λ p u. ends u)))
    an-own cs (raise (suc number)) within k h t =
        both (eqb within 0) _ h (λ z x. rw (eqb-true within 0 z) (and-then _ (code refl (and-false handler) t) (λ p u. a-raise (suc number) (raise-limits number x) u)))
    an-own cs leave within k h t = rw (eqb-true within 0 h) (coded cs (omega arith) t (λ p u. ends u))
    an-own cs (choose e) within k h t =
        both (eqb within 2) _ h (λ z x. rw (eqb-true within 2 z) (coded cs (omega arith) t (λ p u. with-expression choose 2 e x u)))
    an-own cs (repeat e) within k h t =
        both (eqb within 1) _ h (λ z x. rw (eqb-true within 1 z) (coded cs (omega arith) t (λ p u. with-expression repeat 1 e x u)))
    an-own cs sequence within k h t = coded cs (omega arith) t (λ p u. a-list sequence 32 within h (omega arith) u)
    an-own cs flow within k h t = coded cs (omega arith) t (λ p u. a-list flow 32 within h (omega arith) u)
    an-own cs pick within k h t = coded cs (omega arith) t (λ p u. a-list pick 8 within h (omega arith) u)
    an-own cs (scope [] true) within k h t =
        both (eqb within 3) _ h (λ z x. both (not handler) _ x (λ y w. rw (eqb-true within 3 z)
        (and-then _ (code refl (rw (not-true handler y)) t) (λ p u. ends u))))
    an-own cs (scope [] false) within k h t =
        both (eqb within 2) _ h (λ z x. both (not handler) _ x (λ y w. rw (eqb-true within 2 z)
        (and-then _ (code refl (rw (not-true handler y)) t) (λ p u. ends u))))
    an-own cs (scope (n ∷ l) undo) within k h t = let z : ◌≡◌ {A = ℕ} 0 1 = cc in absurd (omega arith)
    an-own cs (arm partner operation l) within k h t = absurd (false≢true h)

    -- a scope with fault parts by number, before its body
    numbered-own : (cs : List ℕ) {at : ℕ} {ns : List ℕ} → handler ≡ false → Left rest s at (14 ∷ ns) → Gives rest s (head_in vars cs s handler depth n at) numbered_head ns
    unfolding head_in parts_in
    numbered-own cs e t = and-then _ (code refl (rw e) t) (λ p u. ends u)

  -- an arm before the activity within it
  an-arm-own : (cs : List ℕ) (handler : Bool) (own : Own) (within : ℕ) {n at : ℕ} {ns : List ℕ} → n < 256 → own_within vars cs handler true own within ≡ true
      → Left rest s at (own_numbers own within ++ ns) → ((is_scope own ≡ false) × ((is_pick own ≡ false) × (numbers_of own ≡ []))) × Gives rest s (arm_in vars s n at) (head own within) ns
  unfolding own_within own_numbers exchange_numbers kind
  an-arm-own cs handler (arm partner operation l) within room h t =
      ((refl, (refl, refl)), both (eqb within 1) _ h (λ z x. rw (eqb-true within 1 z) (an-arm (exchange-of vars true partner operation l x) room t)))
  an-arm-own cs handler empty within room h t = absurd (false≢true h)
  an-arm-own cs handler (send (to_partner partner) operation l) within room h t = absurd (false≢true h)
  an-arm-own cs handler (send (to_held v reply) operation l) within room h t = absurd (false≢true h)
  an-arm-own cs handler (receive (from_partner partner) operation l) within room h t = absurd (false≢true h)
  an-arm-own cs handler (receive (from_asking partner v) operation l) within room h t = absurd (false≢true h)
  an-arm-own cs handler (set v e) within room h t = absurd (false≢true h)
  an-arm-own cs handler (raise n) within room h t = absurd (false≢true h)
  an-arm-own cs handler leave within room h t = absurd (false≢true h)
  an-arm-own cs handler (choose e) within room h t = absurd (false≢true h)
  an-arm-own cs handler (repeat e) within room h t = absurd (false≢true h)
  an-arm-own cs handler sequence within room h t = absurd (false≢true h)
  an-arm-own cs handler flow within room h t = absurd (false≢true h)
  an-arm-own cs handler pick within room h t = absurd (false≢true h)
  an-arm-own cs handler (scope ns v) within room h t = absurd (false≢true h)

-- Activities and arms with those within them.

-- what reads an arm, or an activity, with `depth` levels left
abbrev pub reader : (vars : ℕ) (cs s : List ℕ) (arms : Bool) (depth : ℕ) → Bool → ℕ → ℕ → Found Act
reader vars cs s arms depth = cond arms (read_arm (read_act depth vars cs s) vars s) (read_act depth vars cs s)

module _ (rest s : List ℕ) (vars : ℕ) (few : vars ≤ 16) (cs : List ℕ) where
  Accepted : Act → Type 0
  Accepted a = (arms handler : Bool) (depth n at : ℕ) (ns : List ℕ) → n + size a ≤ 256 → act_within vars cs handler arms a depth ≡ true
      → Left rest s at (act_numbers a ++ ns) → Gives rest s (reader vars cs s arms depth handler n at) a ns

  EachAccepted : Acts → Type 0
  EachAccepted none = Unit
  EachAccepted (more a l) = Accepted a × EachAccepted l

  many-accepted : (l : Acts) → EachAccepted l → (arms handler later : Bool) (depth n at : ℕ) (ns : List ℕ) → n + sizes l ≤ 256
      → acts_within vars cs handler later arms l depth ≡ true
      → Left rest s at (acts_numbers [] l ++ ns) → Gives rest s (many_in (reader vars cs s arms depth) handler later (count l) n at) l ns
  unfolding Accepted EachAccepted acts_within acts_numbers sizes count many_in
  many-accepted none each arms handler later depth n at ns room h t = ends t
  many-accepted (more a l) each arms handler later depth n at ns room h t =
      both (act_within vars cs handler arms a depth) _ h (λ x y.
      rw (one-add (count l))
      (and-then _ (each.0 arms handler depth n at (acts_numbers [] l ++ ns) (omega arith) x (rw (append_assoc (act_numbers a) (acts_numbers [] l) ns) at t)) (λ p u.
      and-then _ (many-accepted l each.1 arms later later depth (n + size a) p ns (omega arith) y u) (λ q w. ends w))))

  -- fault parts by number, each behind its number, and what follows them
  parts-accepted : (numbers : List ℕ) (l : Acts) → EachAccepted l → (known : List ℕ) (depth n at : ℕ) (ns : List ℕ) → count l ≡ length numbers + 2
      → n + sizes l ≤ 256 → acts_within vars cs true true false l depth ≡ true → numbers_each numbers ≡ true → Apart true known numbers
      → Left rest s at (acts_numbers (map (λ x. x ∷ []) numbers) l ++ ns)
      → Gives rest s (numbered_in (read_act depth vars cs s) s (length numbers) known n at) (record { numbers = numbers; parts = l }) ns
  unfolding Accepted EachAccepted acts_within acts_numbers sizes count numbers_each numbered_in
  parts-accepted [] l each known depth n at ns many room h f a t =
      and-then _ (rw many at (many-accepted l each false true true depth n at ns room h t)) (λ p u. ends u)
  parts-accepted (x ∷ l) none each known depth n at ns many room h f a t = absurd (omega arith)
  parts-accepted (x ∷ l) (more b m) each known depth n at ns many room h f a t =
      both (act_within vars cs true false b depth) _ h (λ u v. both (namable x) _ f (λ g f1. both (not (among x l)) _ f1 (λ i j.
      and-then _ (fault-number known g (apart-first true known l x a) t) (λ p w.
      and-then _ (each.0 false true depth n p (acts_numbers (map (λ y. y ∷ []) l) m ++ ns) (omega arith) u (rw append_assoc at w)) (λ q w.
      and-then _ (parts-accepted l m each.1 (x ∷ known) depth (n + size b) q ns (omega arith) (omega arith) v j (apart_more known l x a (not-true _ i)) w) (λ z w.
      ends w))))))

  numbered-accepted : (number : ℕ) (numbers : List ℕ) (undo : Bool) (l : Acts) → EachAccepted l → (handler : Bool) (d n at : ℕ) (ns : List ℕ)
      → n + (1 + sizes l) ≤ 256 → own_within vars cs handler false (scope (number ∷ numbers) undo) (count l) ≡ true → acts_within vars cs handler true false l d ≡ true
      → Left rest s at (act_numbers (act (scope (number ∷ numbers) undo) l) ++ ns)
      → Gives rest s (read_act (suc d) vars cs s handler n at) (act (scope (number ∷ numbers) undo) l) ns
  unfolding Accepted EachAccepted Apart among own_within numbers_within acts_within sizes count read_act numbered_scope_in
  numbered-accepted x k undo none each handler d n at ns room h y t =
      both (eqb 0 (length (x ∷ k) + cond undo 3 2)) _ h (λ e w. let f = eqb-true 0 (length (x ∷ k) + cond undo 3 2) e in absurd (omega arith))
  numbered-accepted x k false (more b m) each handler d n at ns room h y t =
      both (eqb (count (more b m)) (length (x ∷ k) + 2)) _ h (λ e h1. both (not handler) _ h1 (λ g h2. absurd (false≢true h2)))
  numbered-accepted x k true (more b m) each handler d n at ns room h y t =
      both (eqb (count (more b m)) (length (x ∷ k) + 3)) _ h (λ e h1. both (not handler) _ h1 (λ g h2. both (leb (length (x ∷ k)) 8) _ h2 (λ i j.
      both (act_within vars cs handler false b d) _ y (λ u v.
      let few-numbers = leb-true (length (x ∷ k)) 8 i in
      let parts : count m ≡ length (x ∷ k) + 2 = omega (arith, eqb-true (count (more b m)) (length (x ∷ k) + 3) e) in
      let left : Left rest s at (14 ∷ ((act_numbers b ++ (length (x ∷ k) ∷ acts_numbers (map (λ z. z ∷ []) (x ∷ k)) m)) ++ ns)) =
      rw (scope-numbers (x ∷ k) b m (omega arith) parts) at t in
      and-then _ (numbered-own vars few handler (omega arith) (omega arith) cs (not-true handler g) left) (λ p t1.
      and-then _ (each.0 false handler d (n + 1) p (length (x ∷ k) ∷ (acts_numbers (map (λ z. z ∷ []) (x ∷ k)) m ++ ns)) (omega arith) u (rw append_assoc at t1)) (λ q t2.
      and-then _ (field (omega arith) (omega arith) (omega arith) t2) (λ z t3.
      and-then _ (parts-accepted (x ∷ k) m each.1 [] d (n + 1 + size b) z ns parts (omega arith) v j (λ w o. refl) t3) (λ o t4. ends t4))))))))

  plain-accepted : (own : Own) (l : Acts) → numbers_of own ≡ [] → EachAccepted l → (handler : Bool) (d n at : ℕ) (ns : List ℕ)
      → n + (1 + sizes l) ≤ 256 → own_within vars cs handler false own (count l) ≡ true → acts_within vars cs handler (later_of own handler) (is_pick own) l d ≡ true
      → Left rest s at (act_numbers (act own l) ++ ns) → Gives rest s (read_act (suc d) vars cs s handler n at) (act own l) ns
  unfolding act_numbers gaps_of read_act
  plain-accepted own l e each handler d n at ns room x y t =
      let u : Left rest s at (own_numbers own (count l) ++ (acts_numbers [] l ++ ns)) = rw (e, append_assoc) at t in
      and-then _ (an-own vars few handler (omega arith) (omega arith) cs own (count l) e x u) (λ p u.
      and-then _ (many-accepted l each (is_pick own) handler (later_of own handler) d (n + 1) p ns (omega arith) y u) (λ q w. ends w))

  any-accepted : (own : Own) → ByNumber own → (l : Acts) → EachAccepted l → (handler : Bool) (d n at : ℕ) (ns : List ℕ)
      → n + (1 + sizes l) ≤ 256 → own_within vars cs handler false own (count l) ≡ true → acts_within vars cs handler (later_of own handler) (is_pick own) l d ≡ true
      → Left rest s at (act_numbers (act own l) ++ ns) → Gives rest s (read_act (suc d) vars cs s handler n at) (act own l) ns
  any-accepted own (plain e) l = plain-accepted own l e
  any-accepted own (numbered x k undo) l = numbered-accepted x k undo l

  act-accepted : (own : Own) (l : Acts) → EachAccepted l → Accepted (act own l)
  unfolding Accepted act_within act_numbers gaps_of size read_arm
  act-accepted own l each true handler depth n at ns room h t =
      both (own_within vars cs handler true own (count l)) _ h (λ x y.
      let (k, o) = an-arm-own vars few cs handler own (count l) (omega arith) x (rw append_assoc at t) in
      and-then _ o (λ p u. and-then _ (many-accepted l each false handler handler depth (n + 1) p ns (omega arith) (rw (k.0, k.1.0) at y) (rw k.1.1 at u)) (λ q w. ends w)))
  act-accepted own l each false handler zero n at ns room h t = absurd (false≢true h)
  act-accepted own l each false handler (suc d) n at ns room h t =
      both (ltb 0 (suc d)) _ h (λ _ h1. both (own_within vars cs handler false own (count l)) _ h1 (λ x y.
      any-accepted own (by_number own) l each handler d n at ns room x (rw (sub-one (suc d)) at y) t))

  mutual
    unfolding EachAccepted

    accepted : (a : Act) → Accepted a
    accepted (act own l) = act-accepted own l (each-accepted l)

    each-accepted : (l : Acts) → EachAccepted l
    each-accepted none = tt
    each-accepted (more a l) = (accepted a, each-accepted l)

-- Plans.

-- each of the correlation variables is above the one before, so that there are no more of them than variables
ascending-few : (vars least : ℕ) (l : List ℕ) → least ≤ vars → ascending vars least l ≡ true → least + length l ≤ vars
unfolding ascending
ascending-few vars least [] k h = omega arith
ascending-few vars least (v ∷ l) k h =
    both (leb least v) _ h (λ x h1. both (ltb v vars) _ h1 (λ y z.
    let a = leb-true least v x in
    let b = ltb-true v vars y in
    omega (arith, ascending-few vars (v + 1) l (omega arith) z)))

correlation : {rest s : List ℕ} (vars : ℕ) → vars ≤ 16 → (least : ℕ) (read l : List ℕ) {at : ℕ} {ns : List ℕ} → ascending vars least l ≡ true
    → Left rest s at (l ++ ns) → Gives rest s (correlation_in vars s (length l) least read at) (read ++ l) ns
unfolding ascending correlation_in
correlation vars few least read [] h t = rw (append-nil read) (ends t)
correlation vars few least read (v ∷ l) h t =
    both (leb least v) _ h (λ x h1. both (ltb v vars) _ h1 (λ y z.
    let b = ltb-true v vars y in
    and-then _ (field (leb-true least v x) b (omega arith) t) (λ p u.
    rw (append_assoc read (v ∷ []) l) at (correlation vars few (v + 1) (read ++ (v ∷ [])) l z u))))

-- What a plan within the limits keeps to.
record Limits (p : Plan) : Type 0 where
  short : length (spelling p) ≤ 4096
  some : 1 ≤ p.variables
  few : p.variables ≤ 16
  ordered : ascending p.variables 0 p.correlation ≡ true
  body : act_within p.variables p.correlation false false p.body 16 ≡ true
  fault : act_within p.variables p.correlation true false p.fault 16 ≡ true
  room : size p.body + size p.fault ≤ 256
  start : start_form p.body ≡ true

limits : (p : Plan) → plan_within p ≡ true → Limits p
unfolding plan_within
limits p h =
    both (leb (length (spelling p)) 4096) _ h (λ a h1.
    both (from1 16 p.variables) _ h1 (λ b h2.
    both (leb 1 p.variables) _ b (λ b1 b2.
    both (ascending p.variables 0 p.correlation) _ h2 (λ c h3.
    both (act_within p.variables p.correlation false false p.body 16) _ h3 (λ d h4.
    both (act_within p.variables p.correlation true false p.fault 16) _ h4 (λ e h5.
    both (leb (size p.body + size p.fault) 256) _ h5 (λ f g. record {
      short = leb-true _ _ a;
      some = leb-true _ _ b1;
      few = leb-true _ _ b2;
      ordered = c;
      body = d;
      fault = e;
      room = leb-true _ _ f;
      start = g;
    })))))))

-- where nothing is left, the bytes end
at-end : (s : List ℕ) (at : ℕ) → Left [] s at [] → at ≡ length s
unfolding spell
at-end s at t =
    let l : length s - at ≡ 0 = simp length-drop at (ap length t.there) in
    omega (arith, t.inside)

module _ (p : Plan) (l : Limits p) where
  root : {s : List ℕ} {at : ℕ} → Left [] s at (act_numbers p.body ++ act_numbers p.fault)
      → Gives [] s (root_in p.variables p.correlation s at) p []
  unfolding root_in Accepted
  root {s} {at} t =
      let read = accepted [] s p.variables l.few p.correlation in
      and-then _ (read p.body false false 16 0 at (act_numbers p.fault) (omega arith) l.body t) (λ q u.
      and-then _ (read p.fault false true 16 (size p.body) q [] l.room l.fault (rw (append-nil (act_numbers p.fault)) u)) (λ e w.
      rw (le-ltb e (length s) (omega (arith, at-end s e w)), l.start) (ends w)))

  plan : {s : List ℕ} → length s ≤ 4096 → Left [] s 0 (plan_numbers p) → Gives [] s (read_any s) p []
  unfolding read_any version_in plan_numbers
  plan {s} short t =
      let many = ascending-few p.variables 0 p.correlation (omega arith) l.ordered in
      rw (le-ltb 4096 (length s) short)
      (and-then _ (and-then _ (number (omega arith) t) (λ q u. ends u)) (λ a t1.
      and-then _ (field l.some (omega arith) (omega arith) t1) (λ b t2.
      and-then _ (field (omega arith) (omega arith) (omega arith) t2) (λ c t3.
      and-then _ (correlation p.variables l.few 0 [] p.correlation l.ordered t3) (λ d t4. root t4)))))

-- The spelling of a plan within the limits is read as that plan, whether or not its receives agree.
pub spelled-is-read : (p : Plan) → plan_within p ≡ true → read_any (spelling p) ≡ found p (length (spelling p))
unfolding spelling
spelled-is-read p h =
    let l = limits p h in
    let r = plan p l l.short (record { inside = omega arith; there = sym (append-nil (spell (plan_numbers p))) }) in
    rw (at-end (spelling p) r.next r.after) at r.finds
