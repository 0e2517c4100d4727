-- What is accepted as a plan is a plan within the limits. Assumes nothing.
use borrow.Author.Tests.{ltb-false, eqb-true, eqb-false, not-true, not-false, lt-ltb, le-leb, eq-eqb, ne_eqb}
use native.Mathlib.Omega.{arith}
use native.Mathlib.Numerals.{sub-one}
use mathlib.Core.Path.{◌≡◌, refl, sym, ◌∙◌}
use mathlib.Core.Bool.{Bool, true, false, cond, not, ◌&&◌, ◌||◌, false≢true, and-true, and-false}
use mathlib.Core.Logic.{◌↔◌}
use mathlib.Core.List.{List, [], ◌∷◌, ◌++◌, append_assoc, append-nil}
use Prim.Native.Nat.{ℕ, zero, suc, ◌+◌, ◌≤◌, ◌<◌}
use lib.ListN.{length, length-append}
use lib.Dec.{ltb, leb, eqb}
use Rattle.std.specs.Prelude.{Result, Ok, Err}
use Rattle.numbers.specs.Number.{number_at}
use Rattle.numbers.specs.Shortest.{Bytes}
use Rattle.numbers.specs.declared.Number.{Number}
use Rattle.numbers.specs.declared.Trouble.{Trouble}
use Rattle.numbers.specs.declared.Trouble.TheVariants.{Short, Bad}
use Rattle.numbers.proofs.Laws.{value-bounds}
use Rattle.plan.specs.Agree.{agree}
use Rattle.plan.specs.Found.{Found, found, found_number, number_in, field_in, among}
use Rattle.plan.specs.Read.{expression_code_in, leaf_in, expression_in, variables_in, tuple_in, Head, head, exchange_in, arm_in, partner_in, held_send_in, asking_receive_in, with_expression_in, set_in, list_in, raise_in, namable, fault_number_in, is_code, is_scope_code, code_in, parts_in, head_in, many_in, Numbered, numbered_in, numbered_scope_in, whole_in, read_arm, reads_in, later_of, read_act, start_form, correlation_in, version_in, root_in, read_any, read_plan}
use Rattle.plan.specs.Spell.{spelling}
use Rattle.plan.specs.Tree.{Exp, Own, to_partner, from_partner, send, receive, set, choose, repeat, sequence, flow, pick, arm, kind, Act, Plan, size, count, is_pick, is_scope}
use Rattle.plan.specs.Within.{expression_within, variables_within, exchange_within, from1, raise_within, numbers_each, numbers_within, own_within, act_within, acts_within, ascending, plan_within}
use Rattle.plan.proofs.Accepts.{both, among-append, reader, spelled-is-read}
use Rattle.plan.proofs.Agreeing.{accepted-any, accepted-agrees, spelled-is-accepted}
use Rattle.plan.proofs.Finds.{Finds, finds-refused, finds-itself, finds-found, finds-cond, finds-code, finds-then, finds-both, finds-so}
use Rattle.plan.proofs.Stands.{neither, field-within, HeadIs, plain, numbered, arm_plain, head-is, Reads, many-count, numbered-stands, act-stands, plan-stands}
use Rattle.plan.proofs.Spelled.{accepted-is-spelled}
use Rattle.plan.proofs.Bounds.{act-numbered}
use Rattle.plan.proofs.ByKind.{raise-allowed}

small-number : (s : List ℕ) (at : ℕ) (r : Result Number Trouble) → number_at s at ≡ r → Finds (λ v next. v ≤ 4294967295) (found_number s at r)
small-number s at (Err Short) e = finds-refused
small-number s at (Err Bad) e = finds-refused
small-number s at (Ok r) e = finds-found (value-bounds s at e).small

number-within : (s : List ℕ) (at : ℕ) → Finds (λ v next. v ≤ 4294967295) (number_in s at)
unfolding number_in
number-within s at = small-number s at (number_at s at) refl

-- Expressions.

leaf-within : (depth vars : ℕ) (s : List ℕ) (code at : ℕ) → Finds (λ e next. expression_within vars e (suc depth) ≡ true) (leaf_in vars s code at)
unfolding leaf_in expression_within
leaf-within depth vars s code at =
    finds-cond (eqb code 0)
    (λ t. finds-then (number-within s at) (λ v next h. finds-found (rw (lt-ltb 0 (suc depth) (omega arith), le-leb v 4294967295 h))))
    (λ t. finds-then (field-within s 0 vars at) (λ v next h. finds-found (rw (lt-ltb 0 (suc depth) (omega arith), lt-ltb v vars h.1))))

expression-within : (depth vars : ℕ) (s : List ℕ) (at : ℕ) → Finds (λ e next. expression_within vars e depth ≡ true) (expression_in depth vars s at)
unfolding expression_in expression_within
expression-within zero vars s at = finds-then (finds-itself (expression_code_in s at)) (λ code next h. finds-refused)
expression-within (suc depth) vars s at =
    finds-then (finds-itself (expression_code_in s at))
    (λ code next h. finds-cond (ltb code 2)
    (λ t. leaf-within depth vars s code next)
    (λ t. finds-then (expression-within depth vars s next)
    (λ left p x. finds-then (expression-within depth vars s p)
    (λ right q y. finds-found (rw (lt-ltb 0 (suc depth) (omega arith), sub-one (suc depth), x, y))))))

-- Variables.

-- one more, and none that is there
apart_snoc : (once : Bool) (x v : ℕ) (l : List ℕ) → (once && among x l) ≡ false → (once && among v (x ∷ l)) ≡ false → (once && among x (l ++ (v ∷ []))) ≡ false
unfolding among
apart_snoc false x v l h a = refl
apart_snoc true x v l h a =
    let n : eqb x v ≡ false = ne_eqb x v (λ e. eqb-false v x (neither (eqb v x) (among v l) a).0 (sym e)) in
    rw (among-append x l (v ∷ []), h, n)

apart-rest : (once : Bool) (x v : ℕ) (l : List ℕ) → (once && among v (x ∷ l)) ≡ false → (once && among v l) ≡ false
unfolding among
apart-rest false x v l a = refl
apart-rest true x v l a = (neither (eqb v x) (among v l) a).1

variables-snoc : (vars : ℕ) (once : Bool) (l : List ℕ) (v : ℕ) → v < vars → (once && among v l) ≡ false → variables_within vars once l ≡ true
    → variables_within vars once (l ++ (v ∷ [])) ≡ true
unfolding variables_within among
variables-snoc vars once [] v k a h = rw (lt-ltb v vars k, and-false once)
variables-snoc vars once (x ∷ l) v k a h =
    both (ltb x vars) _ h (λ p h1. both (not (once && among x l)) _ h1 (λ q w.
    rw (p, apart_snoc once x v l (not-true _ q) a, variables-snoc vars once l v k (apart-rest once x v l a) w)))

-- the variables l are within the limits, `total` of them
record Tuple (vars : ℕ) (once : Bool) (total : ℕ) (l : List ℕ) : Type 0 where
  each : variables_within vars once l ≡ true
  many : length l ≡ total

variables-within : (vars : ℕ) (once : Bool) (s : List ℕ) (left : ℕ) (read : List ℕ) (at total : ℕ) → variables_within vars once read ≡ true
    → length read + left ≡ total → Finds (λ l next. Tuple vars once total l) (variables_in vars once s left read at)
unfolding variables_in
variables-within vars once s zero read at total h e = finds-found (record { each = h; many = omega arith })
variables-within vars once s (suc left) read at total h e =
    finds-then (field-within s 0 vars at)
    (λ v next k. finds-cond (once && among v read) (λ t. finds-refused)
    (λ t. variables-within vars once s left (read ++ (v ∷ [])) next total (variables-snoc vars once read v k.1 t h) (simp length-append (omega arith))))

-- a tuple: 1 to 4 variables; and an exchange with it
abbrev FewWithin : (vars : ℕ) (once : Bool) → List ℕ → Type 0
FewWithin vars once l = (1 ≤ length l) × (length l ≤ 4) × (variables_within vars once l ≡ true)

tuple-within : (vars : ℕ) (once : Bool) (s : List ℕ) (at : ℕ) → Finds (λ l next. FewWithin vars once l) (tuple_in vars once s at)
unfolding tuple_in variables_within
tuple-within vars once s at =
    finds-then (field-within s 1 5 at)
    (λ total q c. finds-so (variables-within vars once s total [] q total refl (omega arith))
    (λ l next x. (omega (arith, x.many), omega (arith, x.many), x.each)))

exchange-allowed : (vars : ℕ) (once : Bool) {partner operation : ℕ} (l : List ℕ) → partner < 64 → operation < 64 → FewWithin vars once l
    → exchange_within vars once partner operation l ≡ true
unfolding exchange_within
exchange-allowed vars once {partner} {operation} l h k x =
    rw (lt-ltb partner 64 h, lt-ltb operation 64 k, le-leb 1 (length l) x.0, le-leb (length l) 4 x.1, x.2)

-- Heads.

-- Each reader of a head's later parts finds what P holds of, where P holds of all that the limits allow.
module _ (vars : ℕ) (s : List ℕ) (P : Head → Type 0) where
  exchange-within : (once : Bool) (partner : ℕ) (own : ℕ → List ℕ → Own) (within at : ℕ) → partner < 64
      → ((operation : ℕ) (variables : List ℕ) → exchange_within vars once partner operation variables ≡ true → P (head (own operation variables) within))
      → Finds (λ h next. P h) (exchange_in vars once s own within at)
  unfolding exchange_in
  exchange-within once partner own within at k f =
      finds-then (field-within s 0 64 at)
      (λ operation p h. finds-then (tuple-within vars once s p)
      (λ l next x. finds-found (f operation l (exchange-allowed vars once l k h.1 x))))

  with-expression-within : (own : Exp → Own) (within at : ℕ) → ((e : Exp) → expression_within vars e 8 ≡ true → P (head (own e) within))
      → Finds (λ h next. P h) (with_expression_in vars s own within at)
  unfolding with_expression_in
  with-expression-within own within at f = finds-then (expression-within 8 vars s at) (λ e next h. finds-found (f e h))

  list-within : (own : Own) (most at : ℕ) → ((within : ℕ) → from1 most within ≡ true → P (head own within))
      → Finds (λ h next. P h) (list_in s own (most + 1) at)
  unfolding list_in
  list-within own most at f =
      finds-then (field-within s 1 (most + 1) at)
      (λ within next h. finds-found (f within (rw (le-leb 1 within h.0, le-leb within most (omega (arith, h.1))))))

-- what an activity says of itself is within the limits; a scope with fault parts by number stands in no fault or undo part
abbrev pub HeadWithin : (vars : ℕ) (cs : List ℕ) (handler : Bool) → Head → Type 0
HeadWithin vars cs handler h = cond h.numbered (not handler) (own_within vars cs handler false h.own h.within) ≡ true

-- what an arm says of itself
abbrev pub ArmWithin : (vars : ℕ) (cs : List ℕ) (handler : Bool) → Head → Type 0
ArmWithin vars cs handler h = ((is_scope h.own ≡ false) × (is_pick h.own ≡ false)) × (own_within vars cs handler true h.own h.within ≡ true)

pub arm_within : (vars : ℕ) (cs s : List ℕ) (handler : Bool) (n at : ℕ) → Finds (λ h next. ArmWithin vars cs handler h) (arm_in vars s n at)
unfolding arm_in own_within kind
arm_within vars cs s handler n at =
    finds-then (field-within s 0 64 at)
    (λ partner p h. finds-cond (leb 256 n) (λ t. finds-refused)
    (λ t. exchange-within vars s (ArmWithin vars cs handler) true partner (arm partner) 1 p h.1 (λ operation l x. ((refl, refl), x))))

module _ (vars : ℕ) (cs s : List ℕ) (handler : Bool) where
  partner-within : (once : Bool) (own : ℕ → ℕ → List ℕ → Own) (at : ℕ)
      → ((partner operation : ℕ) (l : List ℕ) → exchange_within vars once partner operation l ≡ true → own_within vars cs handler false (own partner operation l) 0 ≡ true)
      → Finds (λ h next. HeadWithin vars cs handler h) (partner_in vars once s own at)
  unfolding partner_in
  partner-within once own at f =
      finds-then (field-within s 0 64 at) (λ partner p h. exchange-within vars s (HeadWithin vars cs handler) once partner (own partner) 0 p h.1 (f partner))

  held-send-within : (at : ℕ) → Finds (λ h next. HeadWithin vars cs handler h) (held_send_in vars s at)
  unfolding held_send_in own_within
  held-send-within at =
      finds-then (field-within s 0 vars at)
      (λ v p h. finds-then (field-within s 0 64 p)
      (λ operation q k. finds-then (tuple-within vars false s q)
      (λ l r x. finds-then (field-within s 0 64 r)
      (λ reply next m. finds-found (rw (lt-ltb v vars h.1, exchange-allowed vars false l m.1 k.1 x))))))

  asking-receive-within : (at : ℕ) → Finds (λ h next. HeadWithin vars cs handler h) (asking_receive_in vars cs s at)
  unfolding asking_receive_in own_within
  asking-receive-within at =
      finds-then (field-within s 0 64 at)
      (λ partner p h. finds-then (field-within s 0 64 p)
      (λ operation q k. finds-then (tuple-within vars true s q)
      (λ l r x. finds-then (field-within s 0 vars r)
      (λ v next m. finds-cond (among v cs || among v l) (λ t. finds-refused)
      (λ t. finds-found (rw (exchange-allowed vars true l h.1 k.1 x, lt-ltb v vars m.1, t)))))))

  set-within : (at : ℕ) → Finds (λ h next. HeadWithin vars cs handler h) (set_in vars cs s at)
  unfolding set_in own_within
  set-within at =
      finds-then (field-within s 0 vars at)
      (λ v p h. finds-cond (among v cs) (λ t. finds-refused)
      (λ t. with-expression-within vars s (HeadWithin vars cs handler) (set v) 0 p (λ e x. rw (lt-ltb v vars h.1, t, x))))

  raise-within : (at : ℕ) → Finds (λ h next. HeadWithin vars cs handler h) (raise_in s at)
  unfolding raise_in own_within
  raise-within at = finds-then (field-within s 16 256 at) (λ n p h. finds-found (raise-allowed n h.0 h.1))

  -- the table of codes
  parts_within : (code at : ℕ) → is_code code ≡ true → (handler && is_scope_code code) ≡ false → Finds (λ h next. HeadWithin vars cs handler h) (parts_in vars cs s code at)
  unfolding parts_in own_within raise_within numbers_within
  parts_within code at m k =
      finds-code code 0 (omega arith) (λ e. finds-found refl)
      (λ l. finds-code code 1 l (λ e. partner-within false (λ p. send (to_partner p)) at (λ partner operation variables x. x))
      (λ l. finds-code code 2 l (λ e. partner-within true (λ p. receive (from_partner p)) at (λ partner operation variables x. x))
      (λ l. finds-code code 3 l (λ e. set-within at)
      (λ l. finds-code code 4 l (λ e. finds-found refl)
      (λ l. finds-code code 5 l (λ e. finds-found refl)
      (λ l. finds-code code 6 l (λ e. with-expression-within vars s (HeadWithin vars cs handler) choose 2 at (λ x h. h))
      (λ l. finds-code code 7 l (λ e. with-expression-within vars s (HeadWithin vars cs handler) repeat 1 at (λ x h. h))
      (λ l. finds-code code 8 l (λ e. list-within vars s (HeadWithin vars cs handler) sequence 32 at (λ x h. h))
      (λ l. finds-code code 9 l (λ e. list-within vars s (HeadWithin vars cs handler) flow 32 at (λ x h. h))
      (λ l. finds-code code 10 l (λ e. list-within vars s (HeadWithin vars cs handler) pick 8 at (λ x h. h))
      (λ l. finds-code code 11 l (λ e. finds-found (rw (sym (and-true handler) ∙ rw e at k)))
      (λ l. finds-code code 12 l (λ e. finds-found (rw (sym (and-true handler) ∙ rw e at k)))
      (λ l. finds-code code 13 l (λ e. raise-within at)
      (λ l. finds-code code 14 l (λ e. finds-found (rw (sym (and-true handler) ∙ rw e at k)))
      (λ l. finds-cond (eqb code 17) (λ t. held-send-within at) (λ t. asking-receive-within at))))))))))))))))

  pub head-within : (depth n at : ℕ) → Finds (λ h next. HeadWithin vars cs handler h) (head_in vars cs s handler depth n at)
  unfolding head_in code_in
  head-within depth n at =
      finds-then
      (finds-then {Q = λ code next. (is_code code ≡ true) × ((handler && is_scope_code code) ≡ false)} (finds-itself (number_in s at))
      (λ code next h. finds-cond (not (is_code code)) (λ t. finds-refused)
      (λ t. finds-cond (handler && is_scope_code code) (λ u. finds-refused)
      (λ u. finds-cond (eqb depth 0 || leb 256 n) (λ w. finds-refused) (λ w. finds-found (not-false (is_code code) t, u))))))
      (λ code next h. parts_within code next h.0 h.1)

-- The numbers of fault parts.

-- none of ns is among those known
abbrev pub Others : (known ns : List ℕ) → Type 0
Others known ns = (w : ℕ) → among w ns ≡ true → among w known ≡ false

pub others-itself : (x : ℕ) (known ns : List ℕ) → Others (x ∷ known) ns → among x ns ≡ false
unfolding among
others-itself x known ns f = go (among x ns) (λ e. rw (eq-eqb x x refl) at (f x e))
  where
    go : (b : Bool) → (b ≡ true → true ≡ false) → b ≡ false
    go true g = g refl
    go false g = refl

pub others-more : (x : ℕ) (known ns : List ℕ) → among x known ≡ false → Others (x ∷ known) ns → Others known (x ∷ ns)
unfolding among
others-more x known ns h f w e = go (eqb w x) refl
  where
    go : (b : Bool) → eqb w x ≡ b → among w known ≡ false
    go true q = rw (eqb-true w x q) h
    go false q = (neither (eqb w x) (among w known) (f w (rw q at e))).1

pub numbers-allowed : (ns : List ℕ) → length ns ≤ 8 → numbers_each ns ≡ true → numbers_within ns true ≡ true
unfolding numbers_within
numbers-allowed [] h e = refl
numbers-allowed (x ∷ ns) h e = rw (le-leb (length (x ∷ ns)) 8 h, e)

-- a number that a fault part may have, none of those known
fault-number-within : (s known : List ℕ) (at : ℕ) → Finds (λ x next. (namable x ≡ true) × (among x known ≡ false)) (fault_number_in s known at)
unfolding fault_number_in
fault-number-within s known at =
    finds-then (finds-itself (number_in s at))
    (λ x next h. finds-cond (namable x && not (among x known)) (λ t. both (namable x) _ t (λ a b. finds-found (a, not-true (among x known) b))) (λ t. finds-refused))

-- Activities and arms with those within them.

-- whatever a reader of activities or arms finds is within the limits, with `depth` levels left
abbrev Keeps : (vars : ℕ) (cs : List ℕ) (arms : Bool) (depth : ℕ) → (Bool → ℕ → ℕ → Found Act) → Type 0
Keeps vars cs arms depth read = (handler : Bool) (n at : ℕ) → Finds (λ a next. act_within vars cs handler arms a depth ≡ true) (read handler n at)

module _ (vars : ℕ) (cs s : List ℕ) where
  many-within : (arms : Bool) (depth : ℕ) (read : Bool → ℕ → ℕ → Found Act) → Keeps vars cs arms depth read → (handler later : Bool) (left n at : ℕ)
      → Finds (λ l next. acts_within vars cs handler later arms l depth ≡ true) (many_in read handler later left n at)
  unfolding many_in acts_within
  many-within arms depth read r handler later zero n at = finds-found refl
  many-within arms depth read r handler later (suc left) n at =
      finds-then (r handler n at)
      (λ a p h. finds-then (many-within arms depth read r later later left (n + size a) p) (λ l q m. finds-found (rw (h, m))))

  -- fault parts by number, and what follows them
  record PartsWithin (depth : ℕ) (known : List ℕ) (c : Numbered) : Type 0 where
    each : numbers_each c.numbers ≡ true
    others : Others known c.numbers
    parts : acts_within vars cs true true false c.parts depth ≡ true

  numbered_within : (depth : ℕ) (read : Bool → ℕ → ℕ → Found Act) → Keeps vars cs false depth read → (left : ℕ) (known : List ℕ) (n at : ℕ)
      → Finds (λ c next. PartsWithin depth known c) (numbered_in read s left known n at)
  unfolding numbered_in acts_within numbers_each among
  numbered_within depth read r zero known n at =
      finds-then (many-within false depth read r true true 2 n at)
      (λ l next h. finds-found (record { each = refl; others = λ w e. absurd (false≢true e); parts = h }))
  numbered_within depth read r (suc left) known n at =
      finds-then (fault-number-within s known at)
      (λ x p h. finds-then (r true n p)
      (λ a q k. finds-then (numbered_within depth read r left (x ∷ known) (n + size a) q)
      (λ c next m. finds-found (record {
        each = rw (h.0, others-itself x known c.numbers m.others, m.each);
        others = others-more x known c.numbers h.1 m.others;
        parts = rw (k, m.parts);
      }))))

  scope-within : (depth : ℕ) (read : Bool → ℕ → ℕ → Found Act) → Reads s read → Keeps vars cs false depth read → (handler : Bool) → not handler ≡ true → (n at : ℕ)
      → Finds (λ a next. act_within vars cs handler false a (suc depth) ≡ true) (numbered_scope_in read s handler n at)
  unfolding numbered_scope_in act_within own_within count
  scope-within depth read t r handler e n at =
      finds-then (r handler (n + 1) at)
      (λ body p b. finds-then (field-within s 1 9 p)
      (λ k q f. finds-then (finds-both (numbered-stands s read t k [] (n + 1 + size body) q) (numbered_within depth read r k [] (n + 1 + size body) q))
      (λ c next m. finds-found
      (rw (
        lt-ltb 0 (suc depth) (omega arith),
        eq-eqb (1 + count c.parts) (length c.numbers + 3) (omega (arith, m.0.many, m.0.parts)),
        e,
        numbers-allowed c.numbers (omega (arith, m.0.many, f.1)) m.1.each,
        sub-one (suc depth),
        b,
        m.1.parts,
      )))))

  arm-act-within : (depth : ℕ) (read : Bool → ℕ → ℕ → Found Act) → Keeps vars cs false depth read → Keeps vars cs true depth (read_arm read vars s)
  unfolding read_arm act_within
  arm-act-within depth read r handler n at =
      finds-then (finds-both (arm_plain vars s n at) (arm_within vars cs s handler n at))
      (λ h p w. rw w.0.told (finds-then
      (finds-both (many-count read handler handler h.within (n + 1) p) (many-within false depth read r handler handler h.within (n + 1) p))
      (λ l q m. finds-found (rw (m.0, w.1.1, w.1.0.0, w.1.0.1, m.1)))))

  reads-within : (depth : ℕ) → Keeps vars cs false depth (read_act depth vars cs s) → (arms : Bool) → Keeps vars cs arms depth (reader vars cs s arms depth)
  reads-within depth r true = arm-act-within depth (read_act depth vars cs s) r
  reads-within depth r false = r

  -- an activity, whatever its head is
  whole-within : (depth : ℕ) → Keeps vars cs false depth (read_act depth vars cs s) → (handler : Bool) (n : ℕ) (h : Head) (at : ℕ) → HeadIs h → HeadWithin vars cs handler h
      → Finds (λ a next. act_within vars cs handler false a (suc depth) ≡ true)
      (whole_in (reads_in h.own (read_act depth vars cs s) vars s) s handler (later_of h.own handler) n h at)
  unfolding act_within
  whole-within depth r handler n h at (plain k) w =
      let arms = is_pick h.own in
      let later = later_of h.own handler in
      let read = reader vars cs s arms depth in
      let own : own_within vars cs handler false h.own h.within ≡ true = rw k.told at w in
      rw k.told
      (finds-then
      (finds-both (many-count read handler later h.within (n + 1) at)
      (many-within arms depth read (reads-within depth r arms) handler later h.within (n + 1) at))
      (λ l q m. finds-found (rw (lt-ltb 0 (suc depth) (omega arith), m.0, own, sub-one (suc depth), m.1))))
  whole-within depth r handler n h at numbered w =
      scope-within depth (read_act depth vars cs s) (act-stands depth vars cs s) r handler w n at

  act-within : (depth : ℕ) → Keeps vars cs false depth (read_act depth vars cs s)
  unfolding read_act
  act-within zero handler n at = finds-then (head-within vars cs s handler 0 n at) (λ h p w. finds-refused)
  act-within (suc depth) handler n at =
      finds-then (finds-both (head-is vars cs s handler (suc depth) n at) (head-within vars cs s handler (suc depth) n at))
      (λ h p w. whole-within depth (act-within depth) handler n h p w.0 w.1)

-- Plans.

-- the correlation variables are those that are read and others, each at least `least`
record Rising (vars least : ℕ) (read l : List ℕ) : Type 0 where
  others : List ℕ
  all : l ≡ read ++ others
  rise : ascending vars least others ≡ true

correlation-within : (vars : ℕ) (s : List ℕ) (left least : ℕ) (read : List ℕ) (at : ℕ)
    → Finds (λ l next. Rising vars least read l) (correlation_in vars s left least read at)
unfolding correlation_in ascending
correlation-within vars s zero least read at = finds-found (record { others = []; all = sym (append-nil read); rise = refl })
correlation-within vars s (suc left) least read at =
    finds-then (field-within s least vars at)
    (λ v p h. finds-so (correlation-within vars s left (v + 1) (read ++ (v ∷ [])) p)
    (λ l q r. record {
      others = v ∷ r.others;
      all = r.all ∙ append_assoc read (v ∷ []) r.others;
      rise = rw (le-leb least v h.0, lt-ltb v vars h.1, r.rise);
    }))

-- all but the length of the spelling
abbrev Kept : Plan → Type 0
Kept p = length (spelling p) ≤ 4096 → plan_within p ≡ true

root-within : (vars : ℕ) (cs s : List ℕ) (at : ℕ) → 1 ≤ vars → vars ≤ 16 → ascending vars 0 cs ≡ true → Finds (λ p next. Kept p) (root_in vars cs s at)
unfolding root_in plan_within
root-within vars cs s at a b c =
    finds-then (act-within vars cs s 16 false 0 at)
    (λ body p x. finds-then (finds-both (act-within vars cs s 16 true (size body) p) (act-numbered 16 vars cs s true (size body) p))
    (λ fault q y. finds-cond (ltb q (length s)) (λ t. finds-refused)
    (λ t. finds-cond (start_form body)
    (λ u. finds-found (λ k. rw (le-leb _ 4096 k, le-leb 1 vars a, le-leb vars 16 b, c, x, y.0, le-leb (size body + size fault) 256 y.1, u)))
    (λ u. finds-refused))))

plan-within : (s : List ℕ) → Finds (λ p next. (length s ≤ 4096) × Kept p) (read_any s)
unfolding read_any
plan-within s =
    finds-cond (ltb 4096 (length s)) (λ t. finds-refused)
    (λ t. finds-so (finds-then (finds-itself (version_in s))
    (λ version p v. finds-then (field-within s 1 17 p)
    (λ vars q w. finds-then (finds-itself (field_in s 0 (vars + 1) q))
    (λ total r h. finds-then (correlation-within vars s total 0 [] r)
    (λ cs at c. root-within vars cs s at w.0 (omega (arith, w.1)) (rw c.all c.rise))))))
    (λ p next k. (ltb-false 4096 (length s) t, k)))

-- What is read is within the limits, whether or not its receives agree.
pub any-is-within : (s : List ℕ) {p : Plan} {next : ℕ} → read_any s ≡ found p next → plan_within p ≡ true
unfolding spelling
any-is-within s e =
    let (short, kept) = (plan-within s).holds e in
    let r = (plan-stands s).holds e in
    kept (omega (arith, r.last, r.plan.ends))

-- What is accepted is within the limits.
pub accepted-is-within : (s : List ℕ) {p : Plan} {next : ℕ} → read_plan s ≡ found p next → plan_within p ≡ true
accepted-is-within s e = any-is-within s (accepted-any s e)

-- Bytes are accepted as a plan exactly where they spell it, it is within the limits, and its receives agree.
pub accepted-exactly : (s : List ℕ) (p : Plan) → Bytes s → (read_plan s ≡ found p (length s)) ↔ ((plan_within p ≡ true) × ((agree p ≡ true) × (s ≡ spelling p)))
accepted-exactly s p y =
    (λ e. (accepted-is-within s e, (accepted-agrees s e, accepted-is-spelled s y e)), λ k. rw k.1.1 (spelled-is-accepted p k.0 k.1.0))

-- Plans within the limits that are spelled alike are the same.
pub spelling-tells : (p q : Plan) → plan_within p ≡ true → plan_within q ≡ true → spelling p ≡ spelling q → p ≡ q
spelling-tells p q h k e =
    let a = spelled-is-read p h in
    let b = spelled-is-read q k in
    cc
