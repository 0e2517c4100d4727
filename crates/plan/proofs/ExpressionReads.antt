-- The returns of the functions that read an expression. Assumes nothing.
use mathlib.Core.Path.{◌≡◌, refl, sym, ap, ◌∙◌}
use mathlib.Core.Bool.{Bool, true, false, cond}
use mathlib.Core.List.{List}
use Prim.Native.Nat.{ℕ, zero, suc, ◌+◌, ◌-◌, ◌<◌, ◌≤◌}
use native.Mathlib.Decide.{dec_lt}
use native.Mathlib.Numerals.{sub-one}
use native.Mathlib.Omega.{arith}
use borrow.Author.Tests.{lt-ltb, le-ltb, eq-eqb, ne_eqb}
use lib.Dec.{eqb}
use mir.Syntax.{w32, w64}
use mir.Val.{Fits}
use lib.ListN.{length}
use Rattle.plan.specs.declared.Nodes.{Nodes}
use Rattle.std.specs.Prelude.{Result, Ok, Err}
use Rattle.numbers.specs.declared.Number.{Number}
use Rattle.plan.specs.declared.Refusal.{Refusal}
use Rattle.plan.specs.Answers.{expression_read, refusal, field_of, nodes_answer, NodesPut, NodesRead}
use Rattle.plan.specs.Fits.{NumberFits}
use Rattle.plan.specs.Found.{Found, refused, found, and_then, number_in, field_in}
use Rattle.plan.specs.Read.{expression_code_in, operation_of, leaf_in, expression_in}
use Rattle.plan.specs.Spell.{operation_code}
use Rattle.plan.specs.Table.{nodes_of, put_node, put_nodes}
use Rattle.plan.specs.Tree.{Operation, Exp, constant, variable, binary}
use Rattle.plan.proofs.OneNumber.{field-got, field-no, number_fits, handed}
use Rattle.plan.proofs.Bounds.{expression-nodes-spelled}
use Rattle.plan.proofs.Stands.{code-stands, operation-code, expression-stands, stands-forward, expression-some}

-- `expression_code_at`
module _ {r : Result Number Refusal} (s : List ℕ) (at : ℕ) (e : r ≡ field_of (number_in s at)) where
  pub code-handed : {y : Refusal} → r ≡ Err y → Err y ≡ field_of (expression_code_in s at)
  unfolding expression_code_in
  code-handed o = handed (number_in s at) _ e o

  pub code-unknown : {read : Number} → r ≡ Ok read → 5 < read.value → Err (refusal 4 at) ≡ field_of (expression_code_in s at)
  unfolding expression_code_in field_of
  code-unknown o h = rw (field-got (number_in s at) e o, lt-ltb _ _ h)

  pub code-known : {read : Number} → r ≡ Ok read → read.value ≤ 5 → Ok read ≡ field_of (expression_code_in s at)
  unfolding expression_code_in field_of
  code-known o h = rw (field-got (number_in s at) e o, le-ltb _ _ h)

-- `leaf_at`: the number that it reads
abbrev leaf_field : (vars : ℕ) → List ℕ → (code at : ℕ) → Found ℕ
leaf_field vars s code at = cond (eqb code 0) (number_in s at) (field_in s 0 vars at)

pub leaf-constant : {r : Result Number Refusal} (vars : ℕ) (s : List ℕ) (code at : ℕ) → code ≡ 0 → r ≡ field_of (number_in s at) → r ≡ field_of (leaf_field vars s code at)
leaf-constant vars s code at z e = rw (eq-eqb _ _ z) e

pub leaf-variable : {r : Result Number Refusal} (vars : ℕ) (s : List ℕ) (code at : ℕ) → (code ≡ 0 → ⊥) → r ≡ field_of (field_in s 0 vars at) → r ≡ field_of (leaf_field vars s code at)
leaf-variable vars s code at z e = rw (ne_eqb _ _ z) e

-- the leaf that a value makes, of a constant where t holds and of a variable where not
leaf : (t : Bool) → (value : ℕ) → Exp
leaf t value = cond t (constant value) (variable value)

leaf-found : (t : Bool) (x y : Found ℕ) {value next : ℕ} → cond t x y ≡ found value next
    → cond t (and_then x (λ v p. found (constant v) p)) (and_then y (λ v p. found (variable v) p)) ≡ found (leaf t value) next
unfolding leaf
leaf-found true x y e = rw e
leaf-found false x y e = rw e

leaf-refused : (t : Bool) (x y : Found ℕ) {number place : ℕ} → cond t x y ≡ refused number place
    → cond t (and_then x (λ v p. found (constant v) p)) (and_then y (λ v p. found (variable v) p)) ≡ refused number place
leaf-refused true x y e = rw e
leaf-refused false x y e = rw e

leaf-nodes : (t : Bool) (value : ℕ) → nodes_of (leaf t value) ≡ 1
unfolding leaf nodes_of
leaf-nodes true value = refl
leaf-nodes false value = refl

leaf-put : (code value m : ℕ) (t : List ℕ) → code < 2 → put_nodes (leaf (eqb code 0) value) m t ≡ put_node m code value t
unfolding leaf put_nodes
leaf-put code value m t h =
    elim (dec_lt code 1) [
      | yes l ↦ let z : code ≡ 0 = omega arith in rw z
      | no l ↦ let z : code ≡ 1 = omega (arith, l) in rw z
    ]

-- what an expression comes to, where what is found is known
module _ (g : Found Exp) (m : ℕ) (t u : List ℕ) where
  pub nodes-refused : {number place : ℕ} → g ≡ refused number place → NodesRead g m (Err (refusal number place)) t u
  unfolding nodes_answer NodesPut
  nodes-refused e = rw e (record { is = refl; put = tt })

  pub nodes-found : {e : Exp} {next nodes : ℕ} → g ≡ found e next → nodes ≡ m + nodes_of e → u ≡ put_nodes e m t
      → NodesRead g m (expression_read next nodes) t u
  unfolding nodes_answer NodesPut
  nodes-found e n p = rw (e, n) (record { is = refl; put = p })

-- what was found of an expression that was read
pub record Expression (g : Found Exp) (m next nodes : ℕ) (t u : List ℕ) : Type 0 where
  pub e : Exp
  pub is : g ≡ found e next
  pub count : nodes ≡ m + nodes_of e
  pub put : u ≡ put_nodes e m t

-- and the other way round
pub nodes-no : (g : Found Exp) (m : ℕ) {r : Result Nodes Refusal} {y : Refusal} {t u : List ℕ} → NodesRead g m r t u → r ≡ Err y
    → g ≡ refused y.number y.place
unfolding nodes_answer
nodes-no (refused n p) m a o = let i = a.is in cc
nodes-no (found x n) m a o = let i = a.is in let z : ◌≡◌ {A = ℕ} 0 1 = cc in absurd (omega arith)

pub nodes-got : (g : Found Exp) (m : ℕ) {r : Result Nodes Refusal} {t u : List ℕ} {y : Nodes} → NodesRead g m r t u → r ≡ Ok y
    → Expression g m y.next y.nodes t u
unfolding nodes_answer NodesPut
nodes-got (refused n p) m a o = let i = a.is in let z : ◌≡◌ {A = ℕ} 0 1 = cc in absurd (omega arith)
nodes-got (found x n) m {y = y} a o =
    let i = a.is in
    let j : y.next ≡ n = cc in
    record { e = x; is = rw j; count = cc; put = a.put }

-- there are no more nodes than places passed
pub nodes-behind : (depth vars : ℕ) (s : List ℕ) (at m : ℕ) {r : Result Nodes Refusal} {t u : List ℕ} {made : Nodes}
    → NodesRead (expression_in depth vars s at) m r t u → r ≡ Ok made → m ≤ at → (made.nodes ≤ made.next) × (made.next ≤ length s)
nodes-behind depth vars s at m a o h =
    let x = nodes-got _ m a o in
    let b = (expression-stands depth vars s at).holds x.is in
    (omega (arith, x.count, b.ends, expression-nodes-spelled x.e), (stands-forward b (expression-some x.e)).1)

-- a node that is read for has room in the table, since it is no further on than its place
module _ (s : List ℕ) (at : ℕ) {m : ℕ} {code : Number} {c : Result Number Refusal} (f : NumberFits s at c) (o : c ≡ Ok code) (l : length s ≤ 4096) (h : m ≤ at) where
  pub node-below : m < 4096
  node-below = let a = number_fits s at f o in omega arith

  pub node-behind : m + 1 ≤ code.next
  node-behind = let a = number_fits s at f o in omega arith

  pub node-fits : Fits w64 (m + 1)
  node-fits = let a = number_fits s at f o in omega arith

-- and so has the node after an expression
module _ (depth vars : ℕ) (s : List ℕ) (at m : ℕ) {r : Result Nodes Refusal} {t u : List ℕ} {made : Nodes} (a : NodesRead (expression_in depth vars s at) m r t u)
    (o : r ≡ Ok made) (h : m ≤ at) where
  pub after-behind : made.nodes ≤ made.next
  after-behind = (nodes-behind depth vars s at m a o h).0

  pub after-fits : length s ≤ 4096 → Fits w32 made.nodes
  after-fits l = omega (arith, nodes-behind depth vars s at m a o h)

-- an operation whose left operand is read and whose right operand is what g finds
joined : (o : Operation) (left : Exp) (m : ℕ) (t u : List ℕ) (g : Found Exp) {r : Result Nodes Refusal}
    → NodesRead g (m + 1 + nodes_of left) r (put_node m (operation_code o) (m + 1 + nodes_of left) (put_nodes left (m + 1) t)) u
    → NodesRead (and_then g (λ right q. found (binary o left right) q)) m r t u
unfolding nodes_answer NodesPut nodes_of put_nodes
joined o left m t u (refused n p) a = record { is = a.is; put = tt }
joined o left m t u (found right q) a =
    let c : m + 1 + nodes_of left + nodes_of right ≡ m + (1 + nodes_of left + nodes_of right) = omega arith in
    record { is = a.is ∙ ap (expression_read q) c; put = a.put }

-- `expression_at`
module _ (depth vars : ℕ) (s : List ℕ) (at m : ℕ) (t : List ℕ) {c : Result Number Refusal} (e : c ≡ field_of (expression_code_in s at)) where
  pub expression-no-code : (u : List ℕ) {y : Refusal} → c ≡ Err y
      → NodesRead (expression_in depth vars s at) m (Err y) t u
  unfolding expression_in
  expression-no-code u {y} o =
      nodes-refused _ m t u
      (elim depth as (λ d. expression_in d vars s at ≡ refused y.number y.place) [ zero ↦ rw (field-no (expression_code_in s at) e o) | suc d ↦ rw (field-no (expression_code_in s at) e o) ])

  module _ {code : Number} (o : c ≡ Ok code) where
    pub expression-deep : (u : List ℕ) → depth ≡ 0 → NodesRead (expression_in depth vars s at) m (Err (refusal 6 at)) t u
    unfolding expression_in
    expression-deep u z = nodes-refused _ m t u (rw (z, field-got (expression_code_in s at) e o))

    -- one level of the definition
    level-leaf : (depth ≡ 0 → ⊥) → code.value < 2 → expression_in depth vars s at ≡ leaf_in vars s code.value code.next
    unfolding expression_in
    level-leaf = elim depth as (λ d. (d ≡ 0 → ⊥) → code.value < 2 → expression_in d vars s at ≡ leaf_in vars s code.value code.next) [ zero ↦ λ z h. absurd (z refl) | suc d ↦ λ z h. rw (field-got (expression_code_in s at) e o, lt-ltb _ _ h) ]

    level-binary : (depth ≡ 0 → ⊥) → 2 ≤ code.value
        → expression_in depth vars s at
        ≡ and_then (expression_in (depth - 1) vars s code.next) (λ left p. and_then (expression_in (depth - 1) vars s p) (λ right q. found (binary (operation_of code.value) left right) q))
    unfolding expression_in
    level-binary = elim depth as (λ d. (d ≡ 0 → ⊥) → 2 ≤ code.value
        → expression_in d vars s at
        ≡ and_then (expression_in (d - 1) vars s code.next) (λ left p. and_then (expression_in (d - 1) vars s p) (λ right q. found (binary (operation_of code.value) left right) q))) [ zero ↦ λ z h. absurd (z refl) | suc d ↦ λ z h. rw (sub-one (suc d), field-got (expression_code_in s at) e o, le-ltb _ _ h) ]

    module _ (z : depth ≡ 0 → ⊥) where
      pub expression-no-leaf : (u : List ℕ) {v : Result Number Refusal} {y : Refusal} → code.value < 2 → v ≡ field_of (leaf_field vars s code.value code.next)
          → v ≡ Err y → NodesRead (expression_in depth vars s at) m (Err y) t u
      unfolding leaf_in
      expression-no-leaf u h f n =
          nodes-refused _ m t u (level-leaf z h ∙ leaf-refused (eqb code.value 0) _ _ (field-no (leaf_field vars s code.value code.next) f n))

      pub expression-leaf : (u : List ℕ) {v : Result Number Refusal} {read : Number} → code.value < 2 → v ≡ field_of (leaf_field vars s code.value code.next)
          → v ≡ Ok read → u ≡ put_node m code.value read.value t → NodesRead (expression_in depth vars s at) m (expression_read read.next (m + 1)) t u
      unfolding leaf_in
      expression-leaf u {read = read} h f g p =
          nodes-found _ m t u (level-leaf z h ∙ leaf-found (eqb code.value 0) _ _ (field-got (leaf_field vars s code.value code.next) f g))
          (rw (leaf-nodes (eqb code.value 0) read.value)) (p ∙ sym (leaf-put code.value read.value m t h))

      pub expression-no-left : (u : List ℕ) {l : Result Nodes Refusal} {y : Refusal} → 2 ≤ code.value → NodesRead (expression_in (depth - 1) vars s code.next) (m + 1) l t u
          → l ≡ Err y → NodesRead (expression_in depth vars s at) m (Err y) t u
      expression-no-left u h a n = nodes-refused _ m t u (level-binary z h ∙ rw (nodes-no _ (m + 1) a n))

      pub expression-binary : (t₁ t₂ u : List ℕ) {l r : Result Nodes Refusal} {made : Nodes} → 2 ≤ code.value → NodesRead (expression_in (depth - 1) vars s code.next) (m + 1) l t t₁
          → l ≡ Ok made → t₂ ≡ put_node m code.value made.nodes t₁ → NodesRead (expression_in (depth - 1) vars s made.next) made.nodes r t₂ u
          → NodesRead (expression_in depth vars s at) m r t u
      expression-binary t₁ t₂ u {made = made} h a n w b =
          let x = nodes-got _ (m + 1) a n in
          let k : operation_code (operation_of code.value) ≡ code.value = operation-code code.value h ((code-stands s at).holds (field-got (expression_code_in s at) e o)).1 in
          rw (level-binary z h, x.is)
          (joined (operation_of code.value) x.e m t u (expression_in (depth - 1) vars s made.next) (rw (k, ← x.count, ← x.put, ← w) b))
