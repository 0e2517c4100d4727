-- The plan that a state runs by, and the returns of load, post and collect. Assumes nothing.
use mathlib.Core.Path.{◌≡◌, refl, sym, ap, ◌∙◌}
use mathlib.Core.Bool.{Bool, true, false, cond, not}
use mathlib.Core.List.{List, []}
use Prim.Native.Nat.{ℕ, ◌≤◌}
use native.Mathlib.Omega.{arith}
use borrow.Author.Tests.{ltb-false, leb-true, not-true, not-false}
use lib.Dec.{ltb, leb}
use lib.ListN.{length, take, replicate}
use lib.Seq.{length-take-le}
use Rattle.std.specs.Prelude.{Result, Ok, Err}
use Rattle.plan.specs.declared.Accepted.{Accepted}
use Rattle.plan.specs.declared.Refusal.{Refusal}
use Rattle.plan.specs.Answers.{answer_of, table_into, table_for, flags_for}
use Rattle.plan.specs.Found.{Found, refused, found}
use Rattle.plan.specs.Read.{read_any, read_plan}
use Rattle.plan.proofs.Agreeing.{accepted-any}
use Rattle.plan.specs.Tree.{Plan}
use Rattle.plan.proofs.Accepts.{both}
use Rattle.machine.specs.declared.Message.{Message}
use Rattle.machine.specs.declared.State.{State}
use Rattle.machine.specs.declared.Loaded.{Loaded}
use Rattle.machine.specs.declared.Posted.{Posted}
use Rattle.machine.specs.declared.Collected.{Collected}
use Rattle.machine.specs.Heard.{Heard}
use Rattle.machine.specs.Limits.{in_limits, plan_in}
use Rattle.machine.specs.State.{no_message, fresh}
use Rattle.machine.specs.Calls.{load, post_by, post, partners_of, handing, collect_by, collect, drop_at}
use Rattle.machine.proofs.Partners.{accepted-heard}

-- what was found, where the answer is known
pub answer-no : (g : Found Plan) {a : Result Accepted Refusal} {bad : Refusal} → a ≡ answer_of g → a ≡ Err bad → g ≡ refused bad.number bad.place
unfolding answer_of
answer-no (refused n p) e o = cc
answer-no (found p n) e o = cc

pub record Got (g : Found Plan) : Type 0 where
  pub plan : Plan
  pub next : ℕ
  pub is : g ≡ found plan next

pub answer-got : (g : Found Plan) {a : Result Accepted Refusal} {good : Accepted} → a ≡ answer_of g → a ≡ Ok good → Got g
unfolding answer_of
answer-got (refused n p) e o = cc
answer-got (found p n) e o = record { plan = p; next = n; is = refl }

-- `accepted`
pub prefix-long : (l : List ℕ) (n : ℕ) → n ≤ length l → n ≡ length (take n l)
prefix-long l n h = sym (length-take-le n l h)

-- `planned`
module _ (s : State) {b : Bool} (e : b ≡ in_limits s) where
  module _ (t : not b ≡ true) where
    plan-out : plan_in s ≡ refused 17 0
    unfolding plan_in
    plan-out = rw (sym e ∙ not-true b t)

    pub planned-none : ◌≡◌ {A = Result Accepted Refusal} (Err (record { number = 17; place = 0 })) (answer_of (plan_in s))
    unfolding answer_of
    planned-none = rw plan-out

    pub planned-blank : (t : List ℕ) → replicate 11584 0 ≡ table_into t (plan_in s)
    unfolding table_into
    planned-blank t = rw plan-out

    pub planned-bare : replicate 16 0 ≡ flags_for (plan_in s)
    unfolding flags_for
    planned-bare = rw plan-out

  module _ (t : not b ≡ false) where
    plan-in : plan_in s ≡ read_plan (take s.length s.plan)
    unfolding plan_in
    plan-in = rw (sym e ∙ not-false b t)

    pub planned-read : {a : Result Accepted Refusal} → a ≡ answer_of (read_plan (take s.length s.plan)) → a ≡ answer_of (plan_in s)
    planned-read q = q ∙ ap answer_of (sym plan-in)

    pub planned-rows : (t : List ℕ) {l : List ℕ} → l ≡ table_into t (read_plan (take s.length s.plan)) → l ≡ table_into t (plan_in s)
    planned-rows t q = q ∙ ap (table_into t) (sym plan-in)

    pub planned-flags : {l : List ℕ} → l ≡ flags_for (read_plan (take s.length s.plan)) → l ≡ flags_for (plan_in s)
    planned-flags q = q ∙ ap flags_for (sym plan-in)

pub ruled-length : (s : State) {b : Bool} → b ≡ in_limits s → not b ≡ false → length s.plan ≡ 4096 → s.length ≤ length s.plan
unfolding in_limits
ruled-length s {b} e t l =
    let h : s.length ≤ 4096 = both (leb s.length 4096) _ (sym e ∙ not-false b t) (λ a c. leb-true _ _ a) in
    omega arith

-- `load`
pub short-found : (s : List ℕ) {p : Plan} {next : ℕ} → read_plan s ≡ found p next → length s ≤ 4096
unfolding read_any
short-found s {p} {next} q = ltb-false 4096 (length s) (go (ltb 4096 (length s)) _ (accepted-any s q))
  where
    go : (b : Bool) (x : Found Plan) → cond b (refused 1 0) x ≡ found p next → b ≡ false
    go true x e = let z : ◌≡◌ {A = ℕ} 0 1 = cc in absurd (omega arith)
    go false x e = refl

module _ (s : List ℕ) {a : Result Accepted Refusal} (e : a ≡ answer_of (read_plan s)) where
  pub load-no : {u : State} {bad : Refusal} → a ≡ Err bad → u ≡ fresh []
      → ◌≡◌ {A = Loaded} (record { refusal = bad.number; place = bad.place; state = u }) (load s)
  unfolding load
  load-no o q = rw (answer-no (read_plan s) e o, q)

  pub load-yes : {u : State} {good : Accepted} → a ≡ Ok good → u ≡ fresh s → ◌≡◌ {A = Loaded} (record { refusal = 0; place = 0; state = u }) (load s)
  unfolding load
  load-yes o q = rw ((answer-got (read_plan s) e o).is, q)

  pub load-short : {good : Accepted} → a ≡ Ok good → length s ≤ 4096
  load-short o = short-found s (answer-got (read_plan s) e o).is

-- a state that has a plan
pub plan-found : (s : State) {p : Plan} {next : ℕ} → plan_in s ≡ found p next → (in_limits s ≡ true) × (read_plan (take s.length s.plan) ≡ found p next)
unfolding plan_in
plan-found s {p} {next} q = go (in_limits s) q
  where
    go : (b : Bool) {x : Found Plan} → cond b x (refused 17 0) ≡ found p next → (b ≡ true) × (x ≡ found p next)
    go true e = (refl, e)
    go false e = let z : ◌≡◌ {A = ℕ} 0 1 = cc in absurd (omega arith)

-- `post`
module _ (m : Message) (s : State) {a : Result Accepted Refusal} (e : a ≡ answer_of (plan_in s)) where
  pub post-none : {bad : Refusal} → a ≡ Err bad → ◌≡◌ {A = Posted} (record { refusal = 17; state = s }) (post m s)
  unfolding post
  post-none o = rw (answer-no (plan_in s) e o)

  pub post-planned : {good : Accepted} {r : Posted} → a ≡ Ok good → ((p : Plan) → r ≡ post_by p m s) → r ≡ post m s
  unfolding post
  post-planned o f = let g = answer-got (plan_in s) e o in rw g.is (f g.plan)

-- `drop_at`
module _ (i : ℕ) (s : State) {a : Result Accepted Refusal} (e : a ≡ answer_of (plan_in s)) where
  pub drop-unplanned : {bad : Refusal} {m : Message} → a ≡ Err bad → m ≡ no_message
      → ◌≡◌ {A = Collected} (record { refusal = 17; message = m; state = s }) (drop_at i s)
  unfolding drop_at
  drop-unplanned o q = rw (answer-no (plan_in s) e o, q)

  pub drop-planned : {good : Accepted} {r : Collected} → a ≡ Ok good → r ≡ handing i s → r ≡ drop_at i s
  unfolding drop_at
  drop-planned o f = rw (answer-got (plan_in s) e o).is f

-- `collect`
module _ (s : State) {a : Result Accepted Refusal} (e : a ≡ answer_of (plan_in s)) where
  pub collect-unplanned : {bad : Refusal} {m : Message} → a ≡ Err bad → m ≡ no_message
      → ◌≡◌ {A = Collected} (record { refusal = 17; message = m; state = s }) (collect s)
  unfolding collect
  collect-unplanned o q = rw (answer-no (plan_in s) e o, q)

  pub collect-limits : {good : Accepted} → a ≡ Ok good → in_limits s ≡ true
  collect-limits o = (plan-found s (answer-got (plan_in s) e o).is).0

  pub collect-planned : {good : Accepted} {t : List ℕ} {r : Collected} → a ≡ Ok good → t ≡ table_for (plan_in s)
      → ((p : Plan) → Heard t (partners_of p) → r ≡ collect_by p s) → r ≡ collect s
  unfolding collect table_into
  collect-planned {t = t} o q f =
      let g = answer-got (plan_in s) e o in
      let h = accepted-heard (take s.length s.plan) (plan-found s g.is).1 in
      let x : t ≡ table_for (found g.plan g.next) = q ∙ ap table_for g.is in
      rw g.is (f g.plan (rw x h))
