-- The returns of the function that reads a plan and judges its receives. Assumes nothing.
use native.Mathlib.Omega.{arith}
use mathlib.Core.Path.{◌≡◌, refl, sym, ap, ◌∙◌}
use mathlib.Core.Bool.{true}
use mathlib.Core.List.{List, []}
use Prim.Native.Nat.{ℕ, ◌+◌, ◌≤◌}
use lib.ListN.{length}
use Rattle.std.specs.Prelude.{Result, Ok, Err}
use Rattle.plan.specs.declared.Accepted.{Accepted}
use Rattle.plan.specs.declared.Refusal.{Refusal}
use Rattle.plan.specs.Agree.{asked, judged}
use Rattle.plan.specs.Answers.{refusal, answer_of, PlanPut, PlanRead}
use Rattle.plan.specs.Found.{Found, refused, found}
use Rattle.plan.specs.Heard.{rows_asked, differing}
use Rattle.plan.specs.Read.{read_any, read_plan}
use Rattle.plan.specs.Table.{table_over}
use Rattle.plan.specs.Tree.{Plan, size}
use Rattle.plan.specs.Within.{plan_within}
use Rattle.plan.proofs.Hears.{Told, judged-by}
use Rattle.plan.proofs.Limits.{any-is-within}
use Rattle.plan.proofs.RowsAsked.{plan-fits, table-asked}
use Rattle.plan.proofs.TableLong.{length-put_all}
use Rattle.plan.proofs.TableSpells.{limited}

-- the plan that was read
record Got (g : Found Plan) (t u flags : List ℕ) (k : ℕ) (r : Result Accepted Refusal) : Type 0 where
  plan : Plan
  next : ℕ
  is : g ≡ found plan next
  rows : k ≡ size plan.body + size plan.fault
  put : u ≡ table_over t plan
  answer : r ≡ answer_of (found plan next)
  whole : PlanPut (found plan next) t u flags

got : (g : Found Plan) (t u flags : List ℕ) {r : Result Accepted Refusal} {x : Accepted} → PlanRead g r t u flags → r ≡ Ok x → Got g t u flags x.activities r
unfolding answer_of PlanPut
got (refused n p) t u flags a o = let i = a.is in let z : ◌≡◌ {A = ℕ} 0 1 = cc in absurd (omega arith)
got (found p n) t u flags {x = x} a o =
    let i = a.is in
    let e : x.activities ≡ size p.body + size p.fault = cc in
    record { plan = p; next = n; is = refl; rows = e; put = a.put.0; answer = a.is; whole = a.put }

no-plan : (g : Found Plan) (t u flags : List ℕ) {r : Result Accepted Refusal} {x : Refusal} → PlanRead g r t u flags → r ≡ Err x → g ≡ refused x.number x.place
unfolding answer_of
no-plan (refused n p) t u flags a o = let i = a.is in cc
no-plan (found q n) t u flags a o = let i = a.is in let z : ◌≡◌ {A = ℕ} 0 1 = cc in absurd (omega arith)

read-refused : (g : Found Plan) (t u flags : List ℕ) {number place : ℕ} → g ≡ refused number place → PlanRead g (Err (refusal number place)) t u flags
unfolding answer_of PlanPut
read-refused g t u flags e = rw e (record { is = refl; put = tt })

read_found : (g : Found Plan) (t u flags : List ℕ) {r : Result Accepted Refusal} {p : Plan} {next : ℕ} → g ≡ found p next → r ≡ answer_of (found p next) → PlanPut (found p next) t u flags
    → PlanRead g r t u flags
read_found g t u flags e i w = rw e (record { is = i; put = w })

over-long : (p : Plan) (t u : List ℕ) → u ≡ table_over t p → length u ≡ length t
unfolding table_over
over-long p t u e = ap length e ∙ length-put_all [] _ _ 0 0 t

of-table : (p : Plan) → plan_within p ≡ true → (t u : List ℕ) → length u ≡ 11584 → {k : ℕ} → k ≡ size p.body + size p.fault → u ≡ table_over t p
    → rows_asked k u 0 ≡ asked p
of-table p h t u long e f = rw (e, f) (table-asked p h t (sym (over-long p t u f) ∙ long))

module _ (s t u flags : List ℕ) {a : Result Accepted Refusal} (x : PlanRead (read_any s) a t u flags) where
  pub agreed-no : {y : Refusal} → a ≡ Err y → PlanRead (read_plan s) (Err y) t u flags
  unfolding read_plan
  agreed-no o = read-refused _ t u flags (rw (no-plan (read_any s) t u flags x o))

  module _ {y : Accepted} (o : a ≡ Ok y) where
    g : Got (read_any s) t u flags y.activities a
    g = got (read_any s) t u flags x o

    pub agreed-few : y.activities ≤ 256
    agreed-few = omega (arith, g.rows, (limited g.plan (any-is-within s g.is)).few)

    module _ (long : length u ≡ 11584) {d : ℕ} (e : d ≡ differing (rows_asked y.activities u 0)) where
      differing-is : d ≡ differing (asked g.plan)
      differing-is = e ∙ ap differing (of-table g.plan (any-is-within s g.is) t u long g.rows g.put)

      told : Told d (judged [] (asked g.plan) (found g.plan g.next)) (found g.plan g.next)
      told = rw differing-is (judged-by (asked g.plan) (found g.plan g.next) (plan-fits g.plan (any-is-within s g.is)))

      pub agreed-yes : d ≡ 0 → PlanRead (read_plan s) (Ok y) t u flags
      unfolding read_plan
      agreed-yes z = read_found _ t u flags (rw g.is (told.agreed z)) (sym o ∙ g.answer) g.whole

      pub agreed-differs : (d ≡ 0 → ⊥) → PlanRead (read_plan s) (Err (refusal 21 d)) t u flags
      unfolding read_plan
      agreed-differs n = read-refused _ t u flags (rw g.is (told.differed n))
