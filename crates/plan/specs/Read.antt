-- Meaning: what a list of bytes says, read as a plan: document 01, "The plan on file" and refusals 1 to 9, and refusal 21 of document 02. Assumes nothing:
-- these are definitions.
-- `vars` is the count V of variables, cs the correlation variables, s the bytes, `at` the place read at and n the number of the activity or arm there.
-- `handler` holds inside a fault part or an undo part.
use Rattle.std.specs.Prelude.{ℕ, zero, suc, ◌+◌, Bool, true, false, cond, not, ◌&&◌, ◌||◌, List, [], ◌∷◌, ◌++◌, length, ltb, leb, eqb}
use Rattle.plan.specs.Agree.{asked, judged}
use Rattle.plan.specs.Found.{Found, refused, found, and_then, number_in, field_in, among}
use Rattle.plan.specs.Tree.{Operation, sum, difference, equal, less, Exp, constant, variable, binary, Own, empty, to_partner, to_held, from_partner, from_asking, send, receive, set, raise, leave, choose, repeat, sequence, flow, pick, scope, arm, kind, is_scope, is_pick, Act, act, Acts, none, more, Plan, size}

-- Expressions: "0 constant, with its value; 1 variable; and with two operands, left first, 2 sum; 3 difference; 4 equal; 5 less."

-- 4: unknown code, at that number
unfoldable pub expression_code_in : List ℕ → (at : ℕ) → Found ℕ
expression_code_in s at = and_then (number_in s at) (λ code next. cond (ltb 5 code) (refused 4 at) (found code next))

abbrev pub operation_of : (code : ℕ) → Operation
operation_of code = cond (eqb code 2) sum (cond (eqb code 3) difference (cond (eqb code 4) equal less))

-- the value of a constant is any number, a variable is below vars
unfoldable pub leaf_in : (vars : ℕ) → List ℕ → (code at : ℕ) → Found Exp
leaf_in vars s code at =
    cond (eqb code 0)
    (and_then (number_in s at) (λ value next. found (constant value) next))
    (and_then (field_in s 0 vars at) (λ number next. found (variable number) next))

-- the expression at `at`, where `depth` levels are left; 6: expression depth 9, at its first number
unfoldable pub expression_in : (depth vars : ℕ) → List ℕ → (at : ℕ) → Found Exp
expression_in zero vars s at = and_then (expression_code_in s at) (λ code next. refused 6 at)
expression_in (suc depth) vars s at =
    and_then (expression_code_in s at) (λ code next.
    cond (ltb code 2) (leaf_in vars s code next)
    (and_then (expression_in depth vars s next) (λ left p.
    and_then (expression_in depth vars s p) (λ right q.
    found (binary (operation_of code) left right) q))))

-- Tuples: "tuples 1 to 4 variables, any variable below V; an arm, like a receive, names no variable twice."

-- `left` more variables after those that are read; where `once` holds, none that is among them
unfoldable pub variables_in : (vars : ℕ) (once : Bool) → List ℕ → (left : ℕ) → (read : List ℕ) → (at : ℕ) → Found (List ℕ)
variables_in vars once s zero read at = found read at
variables_in vars once s (suc left) read at =
    and_then (field_in s 0 vars at) (λ v next.
    cond (once && among v read) (refused 5 at)
    (variables_in vars once s left (read ++ (v ∷ [])) next))

-- a count, and that many variables
unfoldable pub tuple_in : (vars : ℕ) (once : Bool) → List ℕ → (at : ℕ) → Found (List ℕ)
tuple_in vars once s at = and_then (field_in s 1 5 at) (λ count next. variables_in vars once s count [] next)

-- What an activity or arm says of itself, and how many stand directly within it; or, of a scope with fault parts by number, that the rest is told after
-- its body: these numbers stand between the parts.
pub record Head : Type 0 where
  pub own : Own
  pub within : ℕ
  pub numbered : Bool

abbrev pub head : Own → ℕ → Head
head own within = record { own = own; within = within; numbered = false }

abbrev pub numbered_head : Head
numbered_head = record { own = scope [] true; within = 1; numbered = true }

-- "partner, operation, count, variables", from the operation on, of an activity or arm that has `within` directly within it
unfoldable pub exchange_in : (vars : ℕ) (once : Bool) → List ℕ → (ℕ → List ℕ → Own) → (within at : ℕ) → Found Head
exchange_in vars once s own within at =
    and_then (field_in s 0 64 at) (λ operation p.
    and_then (tuple_in vars once s p) (λ variables q.
    found (head (own operation variables) within) q))

-- an arm, from its partner number on; 6: arm 257, at its first number
unfoldable pub arm_in : (vars : ℕ) → List ℕ → (n at : ℕ) → Found Head
arm_in vars s n at =
    and_then (field_in s 0 64 at) (λ partner next.
    cond (leb 256 n) (refused 6 at) (exchange_in vars true s (arm partner) 1 next))

-- a send or a receive of a fixed partner, from its partner number on
unfoldable pub partner_in : (vars : ℕ) (once : Bool) → List ℕ → (ℕ → ℕ → List ℕ → Own) → (at : ℕ) → Found Head
partner_in vars once s own at = and_then (field_in s 0 64 at) (λ partner next. exchange_in vars once s (own partner) 0 next)

-- "Code 17 is a send whose first part is a variable that holds its partner, and whose last part is the reply partner that it carries."
unfoldable pub held_send_in : (vars : ℕ) → List ℕ → (at : ℕ) → Found Head
held_send_in vars s at =
    and_then (field_in s 0 vars at) (λ v p.
    and_then (field_in s 0 64 p) (λ operation q.
    and_then (tuple_in vars false s q) (λ variables r.
    and_then (field_in s 0 64 r) (λ reply next.
    found (head (send (to_held v reply) operation variables) 0) next))))

-- "Code 18 is a receive with one last part, the variable that stores the reply partner": "That variable is not for correlation and not among the others."
unfoldable pub asking_receive_in : (vars : ℕ) → List ℕ → List ℕ → (at : ℕ) → Found Head
asking_receive_in vars cs s at =
    and_then (field_in s 0 64 at) (λ partner p.
    and_then (field_in s 0 64 p) (λ operation q.
    and_then (tuple_in vars true s q) (λ variables r.
    and_then (field_in s 0 vars r) (λ v next.
    cond (among v cs || among v variables) (refused 5 r)
    (found (head (receive (from_asking partner v) operation variables) 0) next)))))

-- an expression, and then `within` activities
unfoldable pub with_expression_in : (vars : ℕ) → List ℕ → (Exp → Own) → (within at : ℕ) → Found Head
with_expression_in vars s own within at = and_then (expression_in 8 vars s at) (λ e next. found (head (own e) within) next)

-- "a variable that isn't for correlation, expression"
unfoldable pub set_in : (vars : ℕ) → List ℕ → List ℕ → (at : ℕ) → Found Head
set_in vars cs s at =
    and_then (field_in s 0 vars at) (λ v next.
    cond (among v cs) (refused 5 at) (with_expression_in vars s (set v) 0 next))

-- a count below `limit`, and that many directly within
unfoldable pub list_in : List ℕ → Own → (limit at : ℕ) → Found Head
list_in s own limit at = and_then (field_in s 1 limit at) (λ count next. found (head own count) next)

-- "Code 13 is a raise with a number 16 to 255."
unfoldable pub raise_in : List ℕ → (at : ℕ) → Found Head
raise_in s at = and_then (field_in s 16 256 at) (λ n next. found (head (raise n) 0) next)

-- "a number twice in one scope, or one outside 0 to 4 and 16 to 255, is 5", and since request 5 "number 5, which a scope of code 14 may then name": a number that a fault part may have, and that is none of those read
unfoldable pub namable : ℕ → Bool
namable n = leb n 5 || (leb 16 n && leb n 255)

unfoldable pub fault_number_in : List ℕ → (read : List ℕ) → (at : ℕ) → Found ℕ
fault_number_in s read at =
    and_then (number_in s at) (λ n next.
    cond (namable n && not (among n read)) (found n next) (refused 5 at))

-- "codes 17 and 18 no longer earn 4": 15 and 16 do
abbrev pub is_code : ℕ → Bool
is_code code = leb code 14 || (eqb code 17 || eqb code 18)

-- the code of an activity: 4 unknown code; 8 scope in a fault or undo part; 6 depth 17 or activity 257; in that order, at that number
abbrev pub is_scope_code : ℕ → Bool
is_scope_code code = eqb code 11 || (eqb code 12 || eqb code 14)

unfoldable pub code_in : List ℕ → (handler : Bool) → (depth n at : ℕ) → Found ℕ
code_in s handler depth n at =
    and_then (number_in s at) (λ code next.
    cond (not (is_code code)) (refused 4 at)
    (cond (handler && is_scope_code code) (refused 8 at)
    (cond (eqb depth 0 || leb 256 n) (refused 6 at)
    (found code next))))

-- the parts of an activity before those within it, by its code: the table of document 01
unfoldable pub parts_in : (vars : ℕ) → List ℕ → List ℕ → (code at : ℕ) → Found Head
parts_in vars cs s code at =
    cond (eqb code 0) (found (head empty 0) at)
    (cond (eqb code 1) (partner_in vars false s (λ p. send (to_partner p)) at)
    (cond (eqb code 2) (partner_in vars true s (λ p. receive (from_partner p)) at)
    (cond (eqb code 3) (set_in vars cs s at)
    (cond (eqb code 4) (found (head (raise 0) 0) at)
    (cond (eqb code 5) (found (head leave 0) at)
    (cond (eqb code 6) (with_expression_in vars s choose 2 at)
    (cond (eqb code 7) (with_expression_in vars s repeat 1 at)
    (cond (eqb code 8) (list_in s sequence 33 at)
    (cond (eqb code 9) (list_in s flow 33 at)
    (cond (eqb code 10) (list_in s pick 9 at)
    (cond (eqb code 11) (found (head (scope [] true) 3) at)
    (cond (eqb code 12) (found (head (scope [] false) 2) at)
    (cond (eqb code 13) (raise_in s at)
    (cond (eqb code 14) (found numbered_head at)
    (cond (eqb code 17) (held_send_in vars s at)
    (asking_receive_in vars cs s at))))))))))))))))

unfoldable pub head_in : (vars : ℕ) → List ℕ → List ℕ → (handler : Bool) → (depth n at : ℕ) → Found Head
head_in vars cs s handler depth n at = and_then (code_in s handler depth n at) (λ code next. parts_in vars cs s code next)

-- `left` activities or arms, each read by `one`; `handler` is that of the first of them and `later` that of the others
unfoldable pub many_in : (one : Bool → ℕ → ℕ → Found Act) → (handler later : Bool) → (left n at : ℕ) → Found Acts
many_in one handler later zero n at = found none at
many_in one handler later (suc left) n at =
    and_then (one handler n at) (λ a p.
    and_then (many_in one later later left (n + size a) p) (λ l q.
    found (more a l) q))

-- The fault parts of a scope that has some by number, with their numbers, and what follows them.
pub record Numbered : Type 0 where
  pub numbers : List ℕ
  pub parts : Acts

abbrev pub also_numbered : ℕ → Act → Numbered → Numbered
also_numbered x a c = record { numbers = x ∷ c.numbers; parts = more a c.parts }

-- "that many numbers each with its fault part, the general fault part, undo part": `left` more numbers after those that are read
unfoldable pub numbered_in : (one : Bool → ℕ → ℕ → Found Act) → List ℕ → (left : ℕ) → (read : List ℕ) → (n at : ℕ) → Found Numbered
numbered_in one s zero read n at = and_then (many_in one true true 2 n at) (λ l next. found (record { numbers = []; parts = l }) next)
numbered_in one s (suc left) read n at =
    and_then (fault_number_in s read at) (λ x p.
    and_then (one true n p) (λ a q.
    and_then (numbered_in one s left (x ∷ read) (n + size a) q) (λ c next.
    found (also_numbered x a c) next)))

-- "body, count 1 to 8, that many numbers each with its fault part, the general fault part, undo part", of the scope with the number n
unfoldable pub numbered_scope_in : (one : Bool → ℕ → ℕ → Found Act) → List ℕ → (handler : Bool) → (n at : ℕ) → Found Act
numbered_scope_in one s handler n at =
    and_then (one handler (n + 1) at) (λ body p.
    and_then (field_in s 1 9 p) (λ count q.
    and_then (numbered_in one s count [] (n + 1 + size body) q) (λ c next.
    found (act (scope c.numbers true) (more body c.parts)) next)))

-- those within: read by `one`, and put under what the activity or arm says of itself
abbrev pub whole_in : (one : Bool → ℕ → ℕ → Found Act) → List ℕ → (handler later : Bool) → (n : ℕ) → Head → (at : ℕ) → Found Act
whole_in one s handler later n h at =
    cond h.numbered (numbered_scope_in one s handler n at)
    (and_then (many_in one handler later h.within (n + 1) at) (λ l next.
    found (act h.own l) next))

-- an arm, whose activity is read by `one`: "An arm adds no depth."
unfoldable pub read_arm : (one : Bool → ℕ → ℕ → Found Act) → (vars : ℕ) → List ℕ → (handler : Bool) → (n at : ℕ) → Found Act
read_arm one vars s handler n at = and_then (arm_in vars s n at) (whole_in one s handler handler n)

-- what stands within a pick are arms, within all else activities
abbrev pub reads_in : Own → (one : Bool → ℕ → ℕ → Found Act) → (vars : ℕ) → List ℕ → Bool → ℕ → ℕ → Found Act
reads_in own one vars s = cond (is_pick own) (read_arm one vars s) one

-- a scope's fault parts and its undo part are handlers, whatever stands around it
abbrev pub later_of : Own → (handler : Bool) → Bool
later_of own handler = is_scope own || handler

-- the activity at `at`, where `depth` levels are left
unfoldable pub read_act : (depth vars : ℕ) → (cs s : List ℕ) → (handler : Bool) → (n at : ℕ) → Found Act
read_act zero vars cs s handler n at = and_then (head_in vars cs s handler 0 n at) (λ h next. refused 6 at)
read_act (suc depth) vars cs s handler n at =
    and_then (head_in vars cs s handler (suc depth) n at) (λ h next.
    whole_in (reads_in h.own (read_act depth vars cs s) vars s) s handler (later_of h.own handler) n h next)

-- "The body must be a start form: a receive, a pick, a sequence whose first is a start form, a flow of start forms, a scope whose body is a
-- start form." `first` is whether the first within is a start form, `every` whether all are.
unfoldable pub starts : (kind : ℕ) → (first every : Bool) → Bool
starts kind first every =
    cond (eqb kind 2 || (eqb kind 18 || eqb kind 10)) true
    (cond (eqb kind 8 || is_scope_code kind) first
    (cond (eqb kind 9) every false))

unfoldable mutual
  pub start_form : Act → Bool
  start_form (act own l) = starts (kind own) (first_starts l) (every_starts l)

  pub first_starts : Acts → Bool
  first_starts none = false
  first_starts (more a l) = start_form a

  pub every_starts : Acts → Bool
  every_starts none = true
  every_starts (more a l) = start_form a && every_starts l

-- "a count of correlation variables (0 to V) and their numbers, each below V and above the one before": `left` more, each at least `least`
unfoldable pub correlation_in : (vars : ℕ) → List ℕ → (left least : ℕ) → (read : List ℕ) → (at : ℕ) → Found (List ℕ)
correlation_in vars s zero least read at = found read at
correlation_in vars s (suc left) least read at =
    and_then (field_in s least vars at) (λ v next.
    correlation_in vars s left (v + 1) (read ++ (v ∷ [])) next)

-- the version, which is 1, at 0; 4: unknown version
unfoldable pub version_in : List ℕ → Found ℕ
version_in s = and_then (number_in s 0) (λ version next. cond (eqb version 1) (found version next) (refused 4 0))

-- after the root's parts: 9, bytes after the plan, at the first of them; then 7, body no start form, at the body's code
abbrev pub closing : List ℕ → Plan → (body next : ℕ) → Found Plan
closing s p body next =
    cond (ltb next (length s)) (refused 9 next)
    (cond (start_form p.body) (found p next) (refused 7 body))

-- the root's body and the root's fault part, both of depth 1, from `at` on
unfoldable pub root_in : (vars : ℕ) → (cs s : List ℕ) → (at : ℕ) → Found Plan
root_in vars cs s at =
    and_then (read_act 16 vars cs s false 0 at) (λ body p.
    and_then (read_act 16 vars cs s true (size body) p) (λ fault q.
    closing s (record { variables = vars; correlation = cs; body = body; fault = fault }) at q))

-- a plan, whether or not its receives agree; 1: plan longer than 4,096 bytes, at 0
unfoldable pub read_any : List ℕ → Found Plan
read_any s =
    cond (ltb 4096 (length s)) (refused 1 0)
    (and_then (version_in s) (λ version p.
    and_then (field_in s 1 17 p) (λ vars q.
    and_then (field_in s 0 (vars + 1) q) (λ count r.
    and_then (correlation_in vars s count 0 [] r) (λ cs at.
    root_in vars cs s at)))))

-- a plan; 21, "last of all plan refusals"
unfoldable pub read_plan : List ℕ → Found Plan
read_plan s = and_then (read_any s) (λ p next. judged [] (asked p) (found p next))
