-- The returns of `rows`. Assumes nothing.
use borrow.Author.Tests.{lt-ltb, le-ltb}
use native.Mathlib.Omega.{arith}
use mathlib.Core.Path.{◌≡◌, refl, ap, ◌∙◌}
use mathlib.Core.List.{List}
use Prim.Native.Nat.{ℕ, ◌+◌, ◌*◌, ◌/◌, ◌≤◌, ◌<◌}
use lib.ListN.{length}
use lib.Seq.{sets}
use mir.Syntax.{w64}
use mir.Val.{Fits}
use Rattle.numbers.specs.Shortest.{Bytes}
use Rattle.std.specs.Prelude.{Result, Ok, Err}
use Rattle.std.specs.Result.{IsErrAnd}
use Rattle.std.proofs.lemmas.Result.{err_from_is_err_and}
use Rattle.plan.specs.declared.Accepted.{Accepted}
use Rattle.plan.specs.declared.Refusal.{Refusal}
use Rattle.plan.specs.Answers.{refusal, accepted, answer_of, table_into, table_for}
use Rattle.plan.specs.Found.{Found, refused, found}
use Rattle.plan.specs.Read.{read_plan}
use Rattle.plan.specs.Spell.{spell, act_numbers, spelling}
use Rattle.plan.specs.Table.{nodes, table_of}
use Rattle.plan.specs.Tree.{Plan, size}
use Rattle.plan.proofs.Bounds.{act-nodes-spelled}
use Rattle.plan.proofs.Limits.{accepted-is-within}
use Rattle.plan.proofs.Spelled.{accepted-is-spelled}
use Rattle.plan.proofs.TableSpells.{accepted-spells, plan-length}
use Rattle.rows.specs.Cut.{between_in, cut_plan}
use Rattle.writer.specs.Rows.{lines, plan_rows, rows_of}
use Rattle.writer.specs.Written.{rows_answer, rows_for}
use Rattle.rows.proofs.Completes.{Limits, limits}
use Rattle.rows.proofs.Cuts.{between_of, rows-many, plan-between, between-few, table-long, plan-cut}

-- The plan is refused.
module _ (s : List ℕ) {e : Refusal} (o : Err e ≡ answer_of (read_plan s)) where
  no-plan : (g : Found Plan) → Err e ≡ answer_of g → g ≡ refused e.number e.place
  unfolding answer_of
  no-plan (refused n q) i = cc
  no-plan (found p n) i = cc

  pub rows-no : (room : ℕ) {x : Result ℕ Refusal} → IsErrAnd x (λ y. y ≡ e) → x ≡ rows_answer (read_plan s) room
  unfolding rows_answer
  rows-no room {x} w = let p = err_from_is_err_and x w in rw (p.1, p.2, no-plan (read_plan s) o)

  pub rows-no-table : (out : List ℕ) → out ≡ rows_for (read_plan s) out
  unfolding rows_for
  rows-no-table out = rw (no-plan (read_plan s) o)

-- what was accepted
record Got (g : Found Plan) (acts m : ℕ) : Type 0 where
  p : Plan
  next : ℕ
  is : g ≡ found p next
  many : acts ≡ size p.body + size p.fault
  rest : m ≡ nodes p.body + nodes p.fault

got : (g : Found Plan) {a : Accepted} → Ok a ≡ answer_of g → Got g a.activities a.nodes
unfolding answer_of
got (refused n q) e = cc
got (found p n) {a} e =
    let i : a ≡ accepted p.variables (size p.body + size p.fault) (nodes p.body + nodes p.fault) = cc in
    record { p = p; next = n; is = refl; many = ap (λ (x : Accepted). x.activities) i; rest = ap (λ (x : Accepted). x.nodes) i }

table_is : (g : Found Plan) {p : Plan} {next : ℕ} {t : List ℕ} → g ≡ found p next → t ≡ table_for g → t ≡ table_of p
unfolding table_into
table_is g e w = w ∙ rw e

-- the bytes of the root's parts are no more than those of the plan
parts-few : (p : Plan) → length (spell (act_numbers p.body)) + length (spell (act_numbers p.fault)) ≤ length (spelling p)
parts-few p = omega (arith, plan-length p)

-- no more nodes than bytes
nodes-few : (p : Plan) → nodes p.body + nodes p.fault ≤ length (spelling p)
nodes-few p = omega (arith, parts-few p, act-nodes-spelled p.body, act-nodes-spelled p.fault)

module _ (s : List ℕ) {a : Accepted} (e : Ok a ≡ answer_of (read_plan s)) where
  x : Got (read_plan s) a.activities a.nodes
  x = got (read_plan s) e

  l : Limits x.p
  l = limits x.p (accepted-is-within s x.is)

  pub rows-acts : a.activities ≤ 256
  rows-acts = omega (arith, x.many, l.room)

  pub rows-first : Fits w64 (a.activities + a.nodes)
  rows-first = omega (arith, x.many, x.rest, l.room, l.short, nodes-few x.p)

  -- b is the count of the numbers between parts, by the table
  module _ {t : List ℕ} (w : t ≡ table_for (read_plan s)) {b : ℕ} (f : b ≡ between_in a.activities t 0) where
    between_is : b ≡ between_of x.p.body + between_of x.p.fault
    between_is =
        let i = table_is (read_plan s) x.is w in
        f ∙ (ap (λ (n : ℕ). between_in n t 0) x.many ∙ ap (λ (u : List ℕ). between_in (size x.p.body + size x.p.fault) u 0) i) ∙ plan-between x.p l (table_of x.p) (accepted-spells s x.is)

    pub rows_few : a.activities + a.nodes + b ≤ 16384
    rows_few =
        let c = between-few x.p l in
        omega (arith, x.many, x.rest, l.room, l.short, nodes-few x.p, between_is, c.0, c.1, parts-few x.p)

    pub rows_fit : Fits w64 (a.activities + a.nodes + b)
    rows_fit = omega (arith, rows_few)

    counted : length (plan_rows x.p) ≡ a.activities + a.nodes + b + 1
    counted = omega (arith, rows-many x.p l, x.many, x.rest, between_is)

    long : length (rows_of x.p) ≡ (a.activities + a.nodes + b + 1) * 20
    long = omega (arith, table-long x.p l, counted)

    module _ (out : List ℕ) (h : length out / 20 ≤ a.activities + a.nodes + b) where
      short : length out < length (rows_of x.p)
      short = omega (arith, long)

      pub rows_short : Err (refusal 18 0) ≡ rows_answer (read_plan s) (length out)
      unfolding rows_answer
      rows_short = rw (x.is, lt-ltb (length out) (length (rows_of x.p)) short)

      pub rows-short-table : out ≡ rows_for (read_plan s) out
      unfolding rows_for
      rows-short-table = rw (x.is, lt-ltb (length out) (length (rows_of x.p)) short)

    module _ (out : List ℕ) (h : a.activities + a.nodes + b < length out / 20) where
      pub rows-room : (a.activities + a.nodes + b + 1) * 20 ≤ length out
      rows-room = omega arith

      room : length (rows_of x.p) ≤ length out
      room = omega (arith, long, rows-room)

      pub rows-yes : Ok ((a.activities + a.nodes + b + 1) * 20) ≡ rows_answer (read_plan s) (length out)
      unfolding rows_answer
      rows-yes =
          rw (x.is, le-ltb (length out) (length (rows_of x.p)) room, long)

      pub rows-yes-table : Bytes s → {out₁ : List ℕ} → out₁ ≡ sets out 0 (lines (cut_plan (a.activities + a.nodes + b) s t)) → out₁ ≡ rows_for (read_plan s) out
      unfolding rows_for rows_of
      rows-yes-table y g =
          let c = plan-cut x.p l s (table_of x.p) (accepted-is-spelled s y x.is) (accepted-spells s x.is) (a.activities + a.nodes + b) counted in
          g ∙ rw (table_is (read_plan s) x.is w, c, x.is, le-ltb (length out) (length (rows_of x.p)) room)
