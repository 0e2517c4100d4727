-- Whatever is read of a plan stands there in its spelling. Assumes nothing.
use native.Mathlib.Omega.{arith}
use native.Mathlib.Decide.{dec_lt}
use borrow.Author.Tests.{ltb-true, ltb-false, leb-false, eqb-true, not-false}
use mathlib.Core.Path.{◌≡◌, refl, sym, ap, ◌∙◌}
use mathlib.Core.Bool.{Bool, true, false, cond, not, ◌&&◌, ◌||◌, false≢true}
use mathlib.Core.List.{List, [], ◌∷◌, ◌++◌, append_assoc, append-nil, map}
use Prim.Native.Nat.{ℕ, zero, suc, ◌+◌, ◌≤◌, ◌<◌}
use lib.ListN.{length, take, drop, length-append}
use lib.Seq.{take-add, drop-drop}
use lib.Dec.{ltb, leb, eqb}
use Rattle.std.specs.Prelude.{Result, Ok, Err}
use Rattle.numbers.specs.Number.{got, number_at}
use Rattle.numbers.specs.Shortest.{Bytes, shortest}
use Rattle.numbers.specs.declared.Number.{Number}
use Rattle.numbers.specs.declared.Trouble.{Trouble}
use Rattle.numbers.specs.declared.Trouble.TheVariants.{Short, Bad}
use Rattle.numbers.proofs.Laws.{read-ends, read-is-shortest, value-bounds, shortest-long}
use Rattle.plan.specs.Found.{Found, found_number, number_in, field_in, among}
use Rattle.plan.specs.Tree.{Exp, constant, variable, binary, Own, empty, to_partner, to_held, from_partner, from_asking, send, receive, set, raise, leave, choose, repeat, sequence, flow, pick, scope, arm, numbers_of, Act, act, Acts, none, more, Plan, size, count, is_pick}
use Rattle.plan.specs.Spell.{spell, operation_code, expression_numbers, exchange_numbers, own_numbers, gaps_of, act_numbers, acts_numbers, plan_numbers}
use Rattle.plan.specs.Read.{expression_code_in, operation_of, leaf_in, expression_in, variables_in, tuple_in, Head, head, numbered_head, exchange_in, arm_in, partner_in, held_send_in, asking_receive_in, with_expression_in, set_in, list_in, raise_in, namable, fault_number_in, is_code, is_scope_code, code_in, parts_in, head_in, many_in, Numbered, numbered_in, numbered_scope_in, whole_in, read_arm, reads_in, later_of, read_act, start_form, correlation_in, version_in, root_in, read_any}
use Rattle.plan.proofs.Finds.{Finds, finds-refused, finds-itself, finds-found, finds-cond, finds-code, finds-then, finds-both, finds-so, cond-case, code-case}
use Rattle.plan.proofs.ByKind.{raise-numbers, last_code}

-- From `at` to `next` the numbers ns stand in their spelling, each in the shortest form.
pub record Stands (s : List ℕ) (at : ℕ) (ns : List ℕ) (next : ℕ) : Type 0 where
  pub ends : next ≡ at + length (spell ns)
  pub inside : at < next → next ≤ length s
  pub spells : Bytes s → take (length (spell ns)) (drop at s) ≡ spell ns

pub spell-append : (ns ms : List ℕ) → spell (ns ++ ms) ≡ spell ns ++ spell ms
unfolding spell
spell-append [] ms = refl
spell-append (x ∷ ns) ms = rw (spell-append ns ms) (sym (append_assoc (shortest x) (spell ns) (spell ms)))

pub stands-none : {s : List ℕ} {at : ℕ} → Stands s at [] at
unfolding spell
stands-none = record { ends = omega arith; inside = λ h. absurd (omega arith); spells = λ y. refl }

module _ {s : List ℕ} {at p next : ℕ} {ns ms : List ℕ} where
  pub stands-append : Stands s at ns p → Stands s p ms next → Stands s at (ns ++ ms) next
  stands-append a b =
      let l : length (spell (ns ++ ms)) ≡ length (spell ns) + length (spell ms) = ap length (spell-append ns ms) ∙ length-append (spell ns) (spell ms) in
      record {
        ends = omega (arith, a.ends, b.ends);
        inside = λ h. elim (dec_lt p next) [ yes f ↦ b.inside f | no f ↦ omega (arith, f, a.inside (omega (arith, f, b.ends)), b.ends) ];
        spells = λ y.
            rw (l, take-add (length (spell ns)) (length (spell ms)) (drop at s), a.spells y, drop-drop, ← a.ends, b.spells y)
            (sym (spell-append ns ms));
      }

-- numbers are no more than their bytes
pub spell-long : (ns : List ℕ) → length ns ≤ length (spell ns)
unfolding spell
spell-long [] = omega arith
spell-long (x ∷ ns) = rw length-append (omega (arith, (shortest-long x).0, spell-long ns))

module _ {s : List ℕ} {at next : ℕ} {ns : List ℕ} (a : Stands s at ns next) where
  -- what stands from a place within the list on ends within it
  pub stands-inside : at ≤ length s → next ≤ length s
  stands-inside h = elim (dec_lt at next) [ yes f ↦ a.inside f | no f ↦ omega (arith, f) ]

  -- numbers that stand somewhere end further on, and within the list
  pub stands-forward : 0 < length ns → (at < next) × (next ≤ length s)
  stands-forward h = let f : at < next = omega (arith, a.ends, spell-long ns) in (f, a.inside f)

pub expression-some : (e : Exp) → 0 < length (expression_numbers e)
unfolding expression_numbers
expression-some (constant value) = omega arith
expression-some (variable number) = omega arith
expression-some (binary operation left right) = omega arith

pub own-some : (own : Own) (within : ℕ) → 0 < length (own_numbers own within)
unfolding own_numbers exchange_numbers
own-some empty within = omega arith
own-some (send (to_partner partner) operation variables) within = omega arith
own-some (send (to_held v reply) operation variables) within = omega arith
own-some (receive (from_partner partner) operation variables) within = omega arith
own-some (receive (from_asking partner v) operation variables) within = omega arith
own-some (set v e) within = omega arith
own-some (raise zero) within = omega arith
own-some (raise (suc n)) within = omega arith
own-some leave within = omega arith
own-some (choose e) within = omega arith
own-some (repeat e) within = omega arith
own-some sequence within = omega arith
own-some flow within = omega arith
own-some pick within = omega arith
own-some (scope ns v) within = omega arith
own-some (arm partner operation variables) within = omega arith

pub act-some : (a : Act) → 0 < length (act_numbers a)
unfolding act_numbers
act-some (act own l) = rw length-append (omega (arith, own-some own (count l)))

-- What is found is numbers that stand where it was read.
abbrev pub Standing : {A : Type 0} → (s : List ℕ) (at : ℕ) → (A → List ℕ) → Found A → Type 0
Standing s at numbers x = Finds (λ a next. Stands s at (numbers a) next) x

abbrev pub one : ℕ → List ℕ
one x = x ∷ []

module _ (s : List ℕ) (at : ℕ) {v next : ℕ} (e : number_at s at ≡ got v next) where
  value-stands : Stands s at (v ∷ []) next
  unfolding spell
  value-stands = record {
    ends = rw append-nil (read-ends s at e);
    inside = λ h. (value-bounds s at e).inside;
    spells = λ y. rw append-nil (read-is-shortest s at y e).spells;
  }

found_number_lem : (s : List ℕ) (at : ℕ) (r : Result Number Trouble) → number_at s at ≡ r → Standing s at one (found_number s at r)
found_number_lem s at (Err Short) e = finds-refused
found_number_lem s at (Err Bad) e = finds-refused
found_number_lem s at (Ok r) e = finds-found (value-stands s at e)

pub number-stands : (s : List ℕ) (at : ℕ) → Standing s at one (number_in s at)
unfolding number_in
number-stands s at = found_number_lem s at (number_at s at) refl

pub field-stands : (s : List ℕ) (least limit at : ℕ) → Standing s at one (field_in s least limit at)
unfolding field_in
field-stands s least limit at =
    finds-then (number-stands s at)
    (λ v next h. finds-cond (ltb v least || leb limit v) (λ t. finds-refused) (λ t. finds-found h))

-- of two tests of which one would be enough neither holds
pub neither : (a b : Bool) → (a || b) ≡ false → (a ≡ false) × (b ≡ false)
neither true b e = absurd (false≢true (sym e))
neither false b e = (refl, e)

-- a field keeps its rule
pub field-within : (s : List ℕ) (least limit at : ℕ) → Finds (λ v next. (least ≤ v) × (v < limit)) (field_in s least limit at)
unfolding field_in
field-within s least limit at =
    finds-then (finds-itself (number_in s at))
    (λ v next h. finds-cond (ltb v least || leb limit v) (λ t. finds-refused)
    (λ t. let n = neither (ltb v least) (leb limit v) t in finds-found (ltb-false v least n.0, leb-false limit v n.1)))

pub code-stands : (s : List ℕ) (at : ℕ) → Finds (λ code next. Stands s at (code ∷ []) next × (code ≤ 5)) (expression_code_in s at)
unfolding expression_code_in
code-stands s at =
    finds-then (number-stands s at)
    (λ code next h. finds-cond (ltb 5 code) (λ t. finds-refused) (λ t. finds-found (h, ltb-false 5 code t)))

pub operation-code : (code : ℕ) → 2 ≤ code → code ≤ 5 → operation_code (operation_of code) ≡ code
unfolding operation_code
operation-code code l m =
    code-case (λ o. operation_code o ≡ code) code 2 l sym
    (λ l3. code-case (λ o. operation_code o ≡ code) code 3 l3 sym
    (λ l4. code-case (λ o. operation_code o ≡ code) code 4 l4 sym (λ l5. omega arith)))

-- a code is followed by numbers
stands-code : {s : List ℕ} {at p next code : ℕ} {ms : List ℕ} (k : ℕ) → code ≡ k → Stands s at (code ∷ []) p → Stands s p ms next
    → Stands s at (k ∷ ms) next
stands-code k e a b = rw e at (stands-append a b)

pub leaf-stands : (vars : ℕ) (s : List ℕ) (start at code : ℕ) → code < 2 → Stands s start (code ∷ []) at
    → Standing s start expression_numbers (leaf_in vars s code at)
unfolding leaf_in expression_numbers
leaf-stands vars s start at code l c =
    finds-code code 0 (omega arith)
    (λ z. finds-then (number-stands s at) (λ v next h. finds-found (stands-code 0 z c h)))
    (λ z. finds-then (field-stands s 0 vars at) (λ v next h. finds-found (stands-code 1 (omega arith) c h)))

pub expression-stands : (depth vars : ℕ) (s : List ℕ) (at : ℕ) → Standing s at expression_numbers (expression_in depth vars s at)
unfolding expression_in expression_numbers
expression-stands zero vars s at = finds-then (code-stands s at) (λ code next h. finds-refused)
expression-stands (suc depth) vars s at =
    finds-then (code-stands s at)
    (λ code next h. finds-cond (ltb code 2)
    (λ t. leaf-stands vars s at next code (ltb-true code 2 t) h.0)
    (λ t. finds-then (expression-stands depth vars s next)
    (λ left p a. finds-then (expression-stands depth vars s p)
    (λ right q b. finds-found
    (stands-code (operation_code (operation_of code)) (sym (operation-code code (ltb-false code 2 t) h.1)) h.0
    (stands-append a b))))))

-- the numbers l stand from `start` on, `total` of them
pub record Listed (s : List ℕ) (start total : ℕ) (l : List ℕ) (next : ℕ) : Type 0 where
  pub all : Stands s start l next
  pub many : length l ≡ total

-- one more after those that are read
snoc-length : (read : List ℕ) (v left total : ℕ) → length read + suc left ≡ total → length (read ++ (v ∷ [])) + left ≡ total
snoc-length read v left total e = simp length-append (omega arith)

pub variables-stand : (vars : ℕ) (once : Bool) (s : List ℕ) (left : ℕ) (read : List ℕ) (start at total : ℕ) → Stands s start read at
    → length read + left ≡ total → Finds (Listed s start total) (variables_in vars once s left read at)
unfolding variables_in
variables-stand vars once s zero read start at total a e = finds-found (record { all = a; many = omega arith })
variables-stand vars once s (suc left) read start at total a e =
    finds-then (field-stands s 0 vars at)
    (λ v next h. finds-cond (once && among v read) (λ t. finds-refused)
    (λ t. variables-stand vars once s left (read ++ (v ∷ [])) start next total (stands-append a h) (snoc-length read v left total e)))

pub correlation-stands : (vars : ℕ) (s : List ℕ) (left least : ℕ) (read : List ℕ) (start at total : ℕ) → Stands s start read at
    → length read + left ≡ total → Finds (Listed s start total) (correlation_in vars s left least read at)
unfolding correlation_in
correlation-stands vars s zero least read start at total a e = finds-found (record { all = a; many = omega arith })
correlation-stands vars s (suc left) least read start at total a e =
    finds-then (field-stands s least vars at)
    (λ v next h. correlation-stands vars s left (v + 1) (read ++ (v ∷ [])) start next total (stands-append a h) (snoc-length read v left total e))

-- a count and that many numbers
pub counted-stands : {s : List ℕ} {at p next total : ℕ} {l : List ℕ} → Stands s at (total ∷ []) p → Listed s p total l next
    → Stands s at (length l ∷ l) next
counted-stands h a = stands-code _ (sym a.many) h a.all

pub tuple-stands : (vars : ℕ) (once : Bool) (s : List ℕ) (at : ℕ) → Standing s at (λ l. length l ∷ l) (tuple_in vars once s at)
unfolding tuple_in
tuple-stands vars once s at =
    finds-then (field-stands s 1 5 at)
    (λ k p h. finds-so (variables-stand vars once s k [] p p k stands-none (omega arith)) (λ l next a. counted-stands h a))

-- the numbers of a head stand from `start` on; of a scope with fault parts by number it is the code alone
abbrev pub head_numbers : Head → List ℕ
head_numbers h = cond h.numbered (14 ∷ []) (own_numbers h.own h.within)

-- Each reader of a head's later parts: ns stand before what it reads, and the head's numbers are ns with these.
module _ (vars : ℕ) (s : List ℕ) {start at : ℕ} (ns : List ℕ) (a : Stands s start ns at) where
  pub exchange-stands : (once : Bool) (own : ℕ → List ℕ → Own) (within : ℕ)
      → ((operation : ℕ) (variables : List ℕ) → own_numbers (own operation variables) within ≡ ns ++ (operation ∷ length variables ∷ variables))
      → Standing s start head_numbers (exchange_in vars once s own within at)
  unfolding exchange_in
  exchange-stands once own within e =
      finds-then (field-stands s 0 64 at)
      (λ operation p h. finds-then (tuple-stands vars once s p)
      (λ variables q b. finds-found (rw (e operation variables) (stands-append a (stands-append h b)))))

  pub with-expression-stands : (own : Exp → Own) (within : ℕ) → ((e : Exp) → own_numbers (own e) within ≡ ns ++ expression_numbers e)
      → Standing s start head_numbers (with_expression_in vars s own within at)
  unfolding with_expression_in
  with-expression-stands own within f =
      finds-then (expression-stands 8 vars s at) (λ e next h. finds-found (rw (f e) (stands-append a h)))

  pub list-stands : (own : Own) (limit : ℕ) → ((k : ℕ) → own_numbers own k ≡ ns ++ (k ∷ [])) → Standing s start head_numbers (list_in s own limit at)
  unfolding list_in
  list-stands own limit e = finds-then (field-stands s 1 limit at) (λ k next h. finds-found (rw (e k) (stands-append a h)))

pub arm-stands : (vars : ℕ) (s : List ℕ) (n at : ℕ) → Standing s at head_numbers (arm_in vars s n at)
unfolding arm_in own_numbers exchange_numbers
arm-stands vars s n at =
    finds-then (field-stands s 0 64 at)
    (λ partner p h. finds-cond (leb 256 n) (λ t. finds-refused)
    (λ t. exchange-stands vars s (partner ∷ []) h true (arm partner) 1 (λ operation variables. refl)))

-- the parts after a code
module _ (vars : ℕ) (cs s : List ℕ) {start at code : ℕ} (a : Stands s start (code ∷ []) at) where
  pub partner-stands : (once : Bool) (own : ℕ → ℕ → List ℕ → Own)
      → ((partner operation : ℕ) (variables : List ℕ) → own_numbers (own partner operation variables) 0 ≡ code ∷ exchange_numbers partner operation variables)
      → Standing s start head_numbers (partner_in vars once s own at)
  unfolding partner_in exchange_numbers
  partner-stands once own e =
      finds-then (field-stands s 0 64 at)
      (λ partner p h. exchange-stands vars s (code ∷ partner ∷ []) (stands-append a h) once (own partner) 0 (e partner))

  pub set-stands : code ≡ 3 → Standing s start head_numbers (set_in vars cs s at)
  unfolding set_in own_numbers
  set-stands e =
      finds-then (field-stands s 0 vars at)
      (λ v p h. finds-cond (among v cs) (λ t. finds-refused)
      (λ t. with-expression-stands vars s (3 ∷ v ∷ []) (stands-code 3 e a h) (set v) 0 (λ x. refl)))

  pub raise-stands : code ≡ 13 → Standing s start head_numbers (raise_in s at)
  unfolding raise_in
  raise-stands e =
      finds-then (finds-both (field-stands s 16 256 at) (field-within s 16 256 at))
      (λ n p h. finds-found (rw (raise-numbers n 0 h.1.0) (stands-code 13 e a h.0)))

  pub held-send-stands : code ≡ 17 → Standing s start head_numbers (held_send_in vars s at)
  unfolding held_send_in own_numbers exchange_numbers
  held-send-stands e =
      finds-then (field-stands s 0 vars at)
      (λ v p h. finds-then (field-stands s 0 64 p)
      (λ operation q k. finds-then (tuple-stands vars false s q)
      (λ variables r b. finds-then (field-stands s 0 64 r)
      (λ reply next c. finds-found (stands-code 17 e a (stands-append h (stands-append k (stands-append b c))))))))

  pub asking-receive-stands : code ≡ 18 → Standing s start head_numbers (asking_receive_in vars cs s at)
  unfolding asking_receive_in own_numbers exchange_numbers
  asking-receive-stands e =
      finds-then (field-stands s 0 64 at)
      (λ partner p h. finds-then (field-stands s 0 64 p)
      (λ operation q k. finds-then (tuple-stands vars true s q)
      (λ variables r b. finds-then (field-stands s 0 vars r)
      (λ v next c. finds-cond (among v cs || among v variables) (λ t. finds-refused)
      (λ t. finds-found (stands-code 18 e a (stands-append h (stands-append k (stands-append b c)))))))))

  -- the table of codes
  pub parts-stand : is_code code ≡ true → Standing s start head_numbers (parts_in vars cs s code at)
  unfolding parts_in own_numbers
  parts-stand m =
      finds-code code 0 (omega arith) (λ e. finds-found (rw e at a))
      (λ l. finds-code code 1 l (λ e. partner-stands false (λ p. send (to_partner p)) (λ partner operation variables. rw e))
      (λ l. finds-code code 2 l (λ e. partner-stands true (λ p. receive (from_partner p)) (λ partner operation variables. rw e))
      (λ l. finds-code code 3 l set-stands
      (λ l. finds-code code 4 l (λ e. finds-found (rw e at a))
      (λ l. finds-code code 5 l (λ e. finds-found (rw e at a))
      (λ l. finds-code code 6 l (λ e. with-expression-stands vars s (code ∷ []) a choose 2 (λ x. rw e))
      (λ l. finds-code code 7 l (λ e. with-expression-stands vars s (code ∷ []) a repeat 1 (λ x. rw e))
      (λ l. finds-code code 8 l (λ e. list-stands vars s (code ∷ []) a sequence 33 (λ k. rw e))
      (λ l. finds-code code 9 l (λ e. list-stands vars s (code ∷ []) a flow 33 (λ k. rw e))
      (λ l. finds-code code 10 l (λ e. list-stands vars s (code ∷ []) a pick 9 (λ k. rw e))
      (λ l. finds-code code 11 l (λ e. finds-found (rw e at a))
      (λ l. finds-code code 12 l (λ e. finds-found (rw e at a))
      (λ l. finds-code code 13 l raise-stands
      (λ l. finds-code code 14 l (λ e. finds-found (rw e at a))
      (λ l. finds-cond (eqb code 17) (λ t. held-send-stands (eqb-true code 17 t))
      (λ t. asking-receive-stands (last_code code m l t)))))))))))))))))

pub head-stands : (vars : ℕ) (cs s : List ℕ) (handler : Bool) (depth n at : ℕ) → Standing s at head_numbers (head_in vars cs s handler depth n at)
unfolding head_in code_in
head-stands vars cs s handler depth n at =
    finds-then
    (finds-then {Q = λ code next. Stands s at (code ∷ []) next × (is_code code ≡ true)} (number-stands s at)
    (λ code next h. finds-cond (not (is_code code)) (λ t. finds-refused)
    (λ t. finds-cond (handler && is_scope_code code) (λ u. finds-refused)
    (λ u. finds-cond (eqb depth 0 || leb 256 n) (λ w. finds-refused) (λ w. finds-found (h, not-false (is_code code) t))))))
    (λ code next h. parts-stand vars cs s h.0 h.1)

-- What a head may be: one that has no fault parts by number, and says how many stand within it; or that of a scope which has some.
pub record Plain (h : Head) : Type 0 where
  pub told : h.numbered ≡ false
  pub none : numbers_of h.own ≡ []

pub data HeadIs : Head → Type 0 where
  plain : {h : Head} → Plain h → HeadIs h
  numbered : HeadIs numbered_head

abbrev plainly : (own : Own) (within : ℕ) → numbers_of own ≡ [] → Plain (head own within)
plainly own within e = record { told = refl; none = e }

module _ (vars : ℕ) (s : List ℕ) where
  exchange-plain : (once : Bool) (own : ℕ → List ℕ → Own) (within at : ℕ) → ((operation : ℕ) (variables : List ℕ) → numbers_of (own operation variables) ≡ [])
      → Finds (λ h next. Plain h) (exchange_in vars once s own within at)
  unfolding exchange_in
  exchange-plain once own within at e =
      finds-then (finds-itself (field_in s 0 64 at))
      (λ operation p h. finds-then (finds-itself (tuple_in vars once s p)) (λ l q k. finds-found (plainly _ _ (e operation l))))

  partner-plain : (once : Bool) (own : ℕ → ℕ → List ℕ → Own) (at : ℕ)
      → ((partner operation : ℕ) (variables : List ℕ) → numbers_of (own partner operation variables) ≡ []) → Finds (λ h next. Plain h) (partner_in vars once s own at)
  unfolding partner_in
  partner-plain once own at e = finds-then (finds-itself (field_in s 0 64 at)) (λ partner p h. exchange-plain once (own partner) 0 p (e partner))

  held-send-plain : (at : ℕ) → Finds (λ h next. Plain h) (held_send_in vars s at)
  unfolding held_send_in
  held-send-plain at =
      finds-then (finds-itself (field_in s 0 vars at))
      (λ v p h. finds-then (finds-itself (field_in s 0 64 p))
      (λ operation q k. finds-then (finds-itself (tuple_in vars false s q))
      (λ l r m. finds-then (finds-itself (field_in s 0 64 r)) (λ reply next c. finds-found (plainly _ _ refl)))))

  asking-receive-plain : (cs : List ℕ) (at : ℕ) → Finds (λ h next. Plain h) (asking_receive_in vars cs s at)
  unfolding asking_receive_in
  asking-receive-plain cs at =
      finds-then (finds-itself (field_in s 0 64 at))
      (λ partner p h. finds-then (finds-itself (field_in s 0 64 p))
      (λ operation q k. finds-then (finds-itself (tuple_in vars true s q))
      (λ l r m. finds-then (finds-itself (field_in s 0 vars r))
      (λ v next c. finds-cond (among v cs || among v l) (λ t. finds-refused) (λ t. finds-found (plainly _ _ refl))))))

  with-expression-plain : (own : Exp → Own) (within at : ℕ) → ((e : Exp) → numbers_of (own e) ≡ []) → Finds (λ h next. Plain h) (with_expression_in vars s own within at)
  unfolding with_expression_in
  with-expression-plain own within at e = finds-then (finds-itself (expression_in 8 vars s at)) (λ x p h. finds-found (plainly _ _ (e x)))

  set-plain : (cs : List ℕ) (at : ℕ) → Finds (λ h next. Plain h) (set_in vars cs s at)
  unfolding set_in
  set-plain cs at =
      finds-then (finds-itself (field_in s 0 vars at))
      (λ v p h. finds-cond (among v cs) (λ t. finds-refused) (λ t. with-expression-plain (set v) 0 p (λ e. refl)))

  list-plain : (own : Own) (limit at : ℕ) → numbers_of own ≡ [] → Finds (λ h next. Plain h) (list_in s own limit at)
  unfolding list_in
  list-plain own limit at e = finds-then (finds-itself (field_in s 1 limit at)) (λ k p h. finds-found (plainly _ _ e))

  raise-plain : (at : ℕ) → Finds (λ h next. Plain h) (raise_in s at)
  unfolding raise_in
  raise-plain at = finds-then (finds-itself (field_in s 16 256 at)) (λ k p h. finds-found (plainly _ _ refl))

  pub arm_plain : (n at : ℕ) → Finds (λ h next. Plain h) (arm_in vars s n at)
  unfolding arm_in
  arm_plain n at =
      finds-then (finds-itself (field_in s 0 64 at))
      (λ partner p h. finds-cond (leb 256 n) (λ t. finds-refused) (λ t. exchange-plain true (arm partner) 1 p (λ operation l. refl)))

abbrev so-plain : {x : Found Head} → Finds (λ h next. Plain h) x → Finds (λ h next. HeadIs h) x
so-plain f = finds-so f (λ h next k. plain k)

pub parts_are : (vars : ℕ) (cs s : List ℕ) (code at : ℕ) → Finds (λ h next. HeadIs h) (parts_in vars cs s code at)
unfolding parts_in
parts_are vars cs s code at =
    finds-cond (eqb code 0) (λ e. finds-found (plain (plainly _ _ refl)))
    (λ l. finds-cond (eqb code 1) (λ e. so-plain (partner-plain vars s false (λ p. send (to_partner p)) at (λ partner operation variables. refl)))
    (λ l. finds-cond (eqb code 2) (λ e. so-plain (partner-plain vars s true (λ p. receive (from_partner p)) at (λ partner operation variables. refl)))
    (λ l. finds-cond (eqb code 3) (λ e. so-plain (set-plain vars s cs at))
    (λ l. finds-cond (eqb code 4) (λ e. finds-found (plain (plainly _ _ refl)))
    (λ l. finds-cond (eqb code 5) (λ e. finds-found (plain (plainly _ _ refl)))
    (λ l. finds-cond (eqb code 6) (λ e. so-plain (with-expression-plain vars s choose 2 at (λ x. refl)))
    (λ l. finds-cond (eqb code 7) (λ e. so-plain (with-expression-plain vars s repeat 1 at (λ x. refl)))
    (λ l. finds-cond (eqb code 8) (λ e. so-plain (list-plain vars s sequence 33 at refl))
    (λ l. finds-cond (eqb code 9) (λ e. so-plain (list-plain vars s flow 33 at refl))
    (λ l. finds-cond (eqb code 10) (λ e. so-plain (list-plain vars s pick 9 at refl))
    (λ l. finds-cond (eqb code 11) (λ e. finds-found (plain (plainly _ _ refl)))
    (λ l. finds-cond (eqb code 12) (λ e. finds-found (plain (plainly _ _ refl)))
    (λ l. finds-cond (eqb code 13) (λ e. so-plain (raise-plain vars s at))
    (λ l. finds-cond (eqb code 14) (λ e. finds-found numbered)
    (λ l. finds-cond (eqb code 17) (λ e. so-plain (held-send-plain vars s at))
    (λ l. so-plain (asking-receive-plain vars s cs at)))))))))))))))))

pub head-is : (vars : ℕ) (cs s : List ℕ) (handler : Bool) (depth n at : ℕ) → Finds (λ h next. HeadIs h) (head_in vars cs s handler depth n at)
unfolding head_in
head-is vars cs s handler depth n at =
    finds-then (finds-itself (code_in s handler depth n at)) (λ code next h. parts_are vars cs s code next)

-- whatever a reader of an activity or arm finds stands where it was read
abbrev pub Reads : List ℕ → (Bool → ℕ → ℕ → Found Act) → Type 0
Reads s read = (handler : Bool) (n at : ℕ) → Standing s at act_numbers (read handler n at)

pub many-count : (read : Bool → ℕ → ℕ → Found Act) (handler later : Bool) (left n at : ℕ)
    → Finds (λ l next. count l ≡ left) (many_in read handler later left n at)
unfolding many_in count
many-count read handler later zero n at = finds-found refl
many-count read handler later (suc left) n at =
    finds-then (finds-itself (read handler n at))
    (λ a p h. finds-then (many-count read later later left (n + size a) p) (λ l q e. finds-found (omega arith)))

pub fault-number-stands : (s read : List ℕ) (at : ℕ) → Standing s at one (fault_number_in s read at)
unfolding fault_number_in
fault-number-stands s read at =
    finds-then (number-stands s at)
    (λ x next h. finds-cond (namable x && not (among x read)) (λ t. finds-found h) (λ t. finds-refused))

-- The fault parts by number that c has, `left` of them, with what follows them: they stand from `at` on, each behind its number.
pub record NumberedStands (s : List ℕ) (at left : ℕ) (c : Numbered) (next : ℕ) : Type 0 where
  pub all : Stands s at (acts_numbers (map one c.numbers) c.parts) next
  pub many : length c.numbers ≡ left
  pub parts : count c.parts ≡ left + 2

-- the numbers of a scope that has fault parts by number: its code, its body, their count, and then each behind its number
pub scope-numbers : (numbers : List ℕ) (body : Act) (parts : Acts) → 0 < length numbers → count parts ≡ length numbers + 2
    → act_numbers (act (scope numbers true) (more body parts)) ≡ 14 ∷ (act_numbers body ++ (length numbers ∷ acts_numbers (map one numbers) parts))
unfolding act_numbers own_numbers gaps_of count
scope-numbers [] body parts h e = absurd (omega arith)
scope-numbers (x ∷ l) body none h e = absurd (omega arith)
scope-numbers (x ∷ l) body (more a parts) h e = refl

module _ (s : List ℕ) (read : Bool → ℕ → ℕ → Found Act) (r : Reads s read) where
  pub many-stands : (handler later : Bool) (left n at : ℕ) → Standing s at (acts_numbers []) (many_in read handler later left n at)
  unfolding many_in acts_numbers
  many-stands handler later zero n at = finds-found stands-none
  many-stands handler later (suc left) n at =
      finds-then (r handler n at)
      (λ a p h. finds-then (many-stands later later left (n + size a) p) (λ l q m. finds-found (stands-append h m)))

  pub numbered-stands : (left : ℕ) (known : List ℕ) (n at : ℕ) → Finds (NumberedStands s at left) (numbered_in read s left known n at)
  unfolding numbered_in acts_numbers count
  numbered-stands zero known n at =
      finds-then (finds-both (many-count read true true 2 n at) (many-stands true true 2 n at))
      (λ l next m. finds-found (record { all = m.1; many = refl; parts = m.0 }))
  numbered-stands (suc left) known n at =
      finds-then (fault-number-stands s known at)
      (λ x p h. finds-then (r true n p)
      (λ a q k. finds-then (numbered-stands left (x ∷ known) (n + size a) q)
      (λ c next m. finds-found (record {
        all = stands-append h (stands-append k m.all);
        many = omega (arith, m.many);
        parts = omega (arith, m.parts);
      }))))

  numbered-scope-stands : (handler : Bool) (n start at : ℕ) → Stands s start (14 ∷ []) at → Standing s start act_numbers (numbered_scope_in read s handler n at)
  unfolding numbered_scope_in
  numbered-scope-stands handler n start at a =
      finds-then (r handler (n + 1) at)
      (λ body p b. finds-then (finds-both (field-stands s 1 9 p) (field-within s 1 9 p))
      (λ k q f. finds-then (numbered-stands k [] (n + 1 + size body) q)
      (λ c next m. finds-found
      (rw (scope-numbers c.numbers body c.parts (omega (arith, m.many, f.1.0)) (omega (arith, m.many, m.parts)), m.many)
      (stands-append a (stands-append b (stands-append f.0 m.all)))))))

  plain-stands : (handler later : Bool) (n : ℕ) (h : Head) (start at : ℕ) → Plain h → Stands s start (head_numbers h) at
      → Standing s start act_numbers (whole_in read s handler later n h at)
  unfolding act_numbers gaps_of
  plain-stands handler later n h start at k a =
      rw k.told
      (finds-then (finds-both (many-count read handler later h.within (n + 1) at) (many-stands handler later h.within (n + 1) at))
      (λ l next m. finds-found (rw (k.none, m.0) (stands-append (rw k.told at a) m.1))))

  pub whole-stands : (handler later : Bool) (n : ℕ) (h : Head) (start at : ℕ) → HeadIs h → Stands s start (head_numbers h) at
      → Standing s start act_numbers (whole_in read s handler later n h at)
  whole-stands handler later n h start at (plain k) a = plain-stands handler later n h start at k a
  whole-stands handler later n h start at numbered a = numbered-scope-stands handler n start at a

  pub arm-act-stands : (vars : ℕ) → Reads s (read_arm read vars s)
  unfolding read_arm
  arm-act-stands vars handler n at =
      finds-then (finds-both (arm_plain vars s n at) (arm-stands vars s n at)) (λ h next a. plain-stands handler handler n h at next a.0 a.1)

  pub reads-stand : (arms : Bool) (vars : ℕ) → Reads s (cond arms (read_arm read vars s) read)
  reads-stand arms vars = cond-case (Reads s) arms (λ t. arm-act-stands vars) (λ t. r)

pub act-stands : (depth vars : ℕ) (cs s : List ℕ) → Reads s (read_act depth vars cs s)
unfolding read_act
act-stands zero vars cs s handler n at = finds-then (head-stands vars cs s handler 0 n at) (λ h next a. finds-refused)
act-stands (suc depth) vars cs s handler n at =
    finds-then (finds-both (head-is vars cs s handler (suc depth) n at) (head-stands vars cs s handler (suc depth) n at))
    (λ h next a. whole-stands s (reads_in h.own (read_act depth vars cs s) vars s)
    (reads-stand s (read_act depth vars cs s) (act-stands depth vars cs s) (is_pick h.own) vars)
    handler (later_of h.own handler) n h at next a.0 a.1)

-- a plan's numbers stand from 0 on, and nothing stands after them
pub record PlanStands (s : List ℕ) (p : Plan) (next : ℕ) : Type 0 where
  pub plan : Stands s 0 (plan_numbers p) next
  pub last : next ≡ length s

pub root_stands : (vars : ℕ) (cs s : List ℕ) (at : ℕ) → Stands s 0 (1 ∷ vars ∷ length cs ∷ cs) at → Finds (PlanStands s) (root_in vars cs s at)
unfolding root_in plan_numbers
root_stands vars cs s at h =
    finds-then (act-stands 16 vars cs s false 0 at)
    (λ body p b. finds-then (act-stands 16 vars cs s true (size body) p)
    (λ fault q f. finds-cond (ltb q (length s)) (λ t. finds-refused)
    (λ t. finds-cond (start_form body)
    (λ u.
    let w : Stands s 0 ((1 ∷ vars ∷ length cs ∷ cs) ++ (act_numbers body ++ act_numbers fault)) q = stands-append h (stands-append b f) in
    finds-found (record { plan = w; last = omega (arith, stands-inside w (omega arith), ltb-false q (length s) t) }))
    (λ u. finds-refused))))

pub version-stands : (s : List ℕ) → Finds (λ version next. Stands s 0 (1 ∷ []) next) (version_in s)
unfolding version_in
version-stands s =
    finds-then (number-stands s 0)
    (λ version next h. finds-cond (eqb version 1) (λ t. finds-found (rw (eqb-true version 1 t) at h)) (λ t. finds-refused))

pub plan-stands : (s : List ℕ) → Finds (PlanStands s) (read_any s)
unfolding read_any
plan-stands s =
    finds-cond (ltb 4096 (length s)) (λ t. finds-refused)
    (λ t. finds-then (version-stands s)
    (λ version p v. finds-then (field-stands s 1 17 p)
    (λ vars q w. finds-then (field-stands s 0 (vars + 1) q)
    (λ k r h. finds-then (correlation-stands vars s k 0 [] r r k stands-none (omega arith))
    (λ cs at c. root_stands vars cs s at (stands-append v (stands-append w (counted-stands h c))))))))
