-- The returns of `show`, and why the part that it hands out is one of the slice. Assumes nothing.
use mathlib.Core.Path.{◌≡◌, refl, sym, ap, ◌∙◌}
use mathlib.Core.List.{List}
use Prim.Native.Nat.{ℕ, ◌+◌, ◌-◌, ◌*◌, ◌<◌, ◌≤◌}
use native.Mathlib.Omega.{arith}
use borrow.Author.Tests.{lt-ltb}
use lib.ListN.{length, get_or, take, drop}
use Rattle.std.specs.Prelude.{Result, Ok}
use Rattle.plan.specs.declared.Accepted.{Accepted}
use Rattle.plan.specs.declared.Refusal.{Refusal}
use Rattle.plan.specs.Answers.{accepted, answer_of, table_into, table_for}
use Rattle.plan.specs.Found.{Found, refused, found}
use Rattle.plan.specs.Read.{read_plan}
use Rattle.show.specs.Shown.{shown_part, shown_start, shown_refusal}
use Rattle.plan.specs.Spell.{spell, act_numbers, spelling}
use Rattle.plan.specs.Spells.{Part, part_plan}
use Rattle.plan.specs.Table.{table_of, nodes}
use Rattle.plan.specs.Tree.{Plan, size}
use Rattle.plan.proofs.Finds.{Finds}
use Rattle.plan.proofs.Agreeing.{accepted-any}
use Rattle.plan.proofs.Limits.{accepted-is-within}
use Rattle.show.proofs.Places.{plan-start, plan-stop, plan-inside}
use Rattle.plan.proofs.Stands.{plan-stands}
use Rattle.plan.proofs.TableSpells.{limited, accepted-spells}

-- what was accepted
record Plan-read (g : Found Plan) (k : ℕ) (t : List ℕ) : Type 0 where
  p : Plan
  next : ℕ
  is : g ≡ found p next
  many : k ≡ size p.body + size p.fault
  rows : t ≡ table_of p

plan-read : (g : Found Plan) {a : Accepted} {t : List ℕ} → Ok a ≡ answer_of g → t ≡ table_for g → Plan-read g a.activities t
unfolding answer_of table_into
plan-read (refused n q) e w = cc
plan-read (found p n) {a} e w =
    let i : a ≡ accepted p.variables (size p.body + size p.fault) (nodes p.body + nodes p.fault) = cc in
    record { p = p; next = n; is = refl; many = ap (λ (x : Accepted). x.activities) i; rows = w }

-- an accepted plan has at most 256 activities and arms
accepted-few : (s : List ℕ) → Finds (λ p next. size p.body + size p.fault ≤ 256) (read_plan s)
accepted-few s = record { holds = λ {a = p} e. (limited p (accepted-is-within s e)).few }

same-part : (s : List ℕ) {n m a b : ℕ} → n ≡ m → a ≡ b → take n (drop a s) ≡ take m (drop b s)
same-part s e f = rw (e, f)

-- where the part of activity k stands
record Placed (s t : List ℕ) (k : ℕ) (q : Part) : Type 0 where
  start : get_or t (k * 13 + 10) 0 ≡ q.start
  stop : get_or t (k * 13 + 12) 0 ≡ q.start + length (spell (act_numbers q.what))
  inside : q.start + length (spell (act_numbers q.what)) ≤ length s

module _ (s : List ℕ) (k : ℕ) {a : Accepted} {t : List ℕ} (e : Ok a ≡ answer_of (read_plan s)) (w : t ≡ table_for (read_plan s)) (h : k < a.activities) where
  x : Plan-read (read_plan s) a.activities t
  x = plan-read (read_plan s) e w

  few : k < size x.p.body + size x.p.fault
  few = omega (arith, x.many)

  placed : Placed s t k (part_plan x.p k)
  unfolding spelling
  placed =
      let a = accepted-spells s x.is in
      let i = plan-inside x.p k few in
      let b = (plan-stands s).holds (accepted-any s x.is) in
      record {
        start = ap (λ u. get_or u (k * 13 + 10) 0) x.rows ∙ plan-start x.p k few (table_of x.p) a;
        stop = ap (λ u. get_or u (k * 13 + 12) 0) x.rows ∙ plan-stop x.p k few (table_of x.p) a;
        inside = omega (arith, i.below, b.plan.ends, b.last);
      }

  module _ {start stop : ℕ} (i : start ≡ get_or t (k * 13 + 10) 0) (j : stop ≡ get_or t (k * 13 + 12) 0) where
    pub show-ordered : start ≤ stop
    show-ordered = let a = placed in omega (arith, a.start, a.stop)

    pub show-inside : stop ≤ length s
    show-inside = let a = placed in omega (arith, a.stop, a.inside)

    pub show-part : take (stop - start) (drop start s) ≡ shown_part (read_plan s) s k
    unfolding shown_part
    show-part =
        let a = placed in
        let l : stop - start ≡ length (spell (act_numbers (part_plan x.p k).what)) = omega (arith, a.start, a.stop) in
        same-part s l (i ∙ a.start) ∙ sym (ap (λ g. shown_part g s k) x.is ∙ rw (lt-ltb _ _ few))

    pub show-place : start ≡ shown_start (read_plan s) k
    unfolding shown_start
    show-place = i ∙ placed.start ∙ sym (ap (λ g. shown_start g k) x.is ∙ rw (lt-ltb _ _ few))

  pub show-shown : 0 ≡ shown_refusal (read_plan s) k
  unfolding shown_refusal
  show-shown = sym (ap (λ g. shown_refusal g k) x.is ∙ rw (lt-ltb _ _ few))

-- an accepted plan has rows for all its activities
pub show_few : (s : List ℕ) {r : Result Accepted Refusal} {a : Accepted} → r ≡ answer_of (read_plan s) → r ≡ Ok a → a.activities ≤ 256
show_few s {r} {a} i o = let e : Ok a ≡ answer_of (read_plan s) = sym o ∙ i in let x = plan-read (read_plan s) e refl in omega (arith, x.many, (accepted-few s).holds x.is)

pub ruleset showing = (show_few, show-ordered, show-inside, show-part, show-place, show-shown)
