-- What a state with its plan, table and flags has, how it comes by them, and the returns of the public calls. Assumes nothing.
use mathlib.Core.Path.{◌≡◌, ap, ◌∙◌}
use mathlib.Core.Bool.{true, false}
use mathlib.Core.List.{List}
use Prim.Native.Nat.{ℕ, ◌+◌, ◌<◌, ◌≤◌}
use native.Mathlib.Omega.{arith}
use lib.ListN.{length, take}
use Rattle.std.specs.Prelude.{Result, Ok, Err}
use Rattle.plan.specs.declared.Accepted.{Accepted}
use Rattle.plan.specs.declared.Refusal.{Refusal}
use Rattle.plan.specs.Answers.{answer_of, table_into, table_for, flags_for}
use Rattle.plan.specs.Found.{found}
use Rattle.plan.specs.Table.{table_of, flags_of}
use Rattle.plan.specs.Tree.{Plan, size}
use Rattle.order.proofs.Accepted.{accepted-spelled}
use Rattle.order.proofs.PlanStands.{plan-stands}
use Rattle.order.proofs.Standing.{stands-inside}
use Rattle.machine.specs.declared.State.{State}
use Rattle.machine.specs.declared.Step.{Step}
use Rattle.machine.specs.Calls.{preview_by, preview, refusing}
use Rattle.machine.specs.Limits.{in_limits, plan_in}
use Rattle.machine.proofs.Called.{answer-no, answer-got, plan-found}
use Rattle.machine.proofs.Moved.{limits-waiting}
use Rattle.offer.specs.declared.Amount.{Amount}
use Rattle.offer.specs.declared.Offered.{Offered}
use Rattle.offer.specs.Having.{Has, OffersBy, offered_in}
use Rattle.offer.specs.Seeing.{Previews, Amounts}
use Rattle.fit.proofs.FirstFits.{accepted-correlated}

-- what a state with its plan, table and flags has besides
pub has-limits : {t flags : List ℕ} {n : ℕ} {s : State} → Has t flags n s → in_limits s ≡ true
has-limits {s = s} h = (plan-found s h.planned.is).0

pub has_room : {t flags : List ℕ} {n : ℕ} {s : State} → Has t flags n s → s.waiting ≤ 64
has_room {s = s} h = limits-waiting s (has-limits h)

pub has-few : {t flags : List ℕ} {n : ℕ} {s : State} → Has t flags n s → n ≤ 256
has-few {t} h = omega (arith, stands-inside h.plan.fault (size h.plan.body) t (plan-stands h.spelled).fault, h.spelled.many)

-- what a choice comes to by the plan is what it comes to
pub shown_by : {t flags : List ℕ} {n : ℕ} {s : State} (h : Has t flags n s) (c : ℕ) {r : Step} → r ≡ preview_by h.plan c s → r ≡ preview c s
unfolding preview
shown_by h c e = e ∙ rw h.planned.is

-- `offer_by`: a state that has its plan passes the tests in front
pub offer-beyond : {t flags : List ℕ} {n : ℕ} {s : State} (c : ℕ) {r : Step} → 256 < n → OffersBy t flags n s c r
offer-beyond c g = record { is = λ h. absurd (omega (arith, has-few h)) }

pub offer-full : {t flags : List ℕ} {n : ℕ} {s : State} (c : ℕ) {r : Step} → 64 < s.waiting → OffersBy t flags n s c r
offer-full c g = record { is = λ h. absurd (omega (arith, has_room h)) }

pub offer-found : {t flags : List ℕ} {n c : ℕ} {s : State} {r : Step} → Previews t flags s n c r → OffersBy t flags n s c r
offer-found {c = c} x = record { is = λ h. shown_by h c (x.is h.plan h.correlated h.spelled) }

-- `count_by`
pub counted-all : {t flags : List ℕ} {n : ℕ} {s : State} {r : Amount} → Has t flags n s → Amounts t flags s n r
    → ◌≡◌ {A = Offered} (record { refusal = 0; many = r.many; held = r.held }) (offered_in s)
unfolding offered_in
counted-all h x = rw (h.planned.is, x.is h.plan h.correlated h.spelled)

-- a state that earns 17, and one that has a plan
has-found : {s : State} {p : Plan} {next k : ℕ} {t flags : List ℕ} → plan_in s ≡ found p next → k ≡ size p.body + size p.fault → t ≡ table_of p → flags ≡ flags_of p
    → length s.messages ≡ 64 → Has t flags k s
has-found {s} {p} {next} e m x y l =
    let w = (plan-found s e).1 in
    record {
      plan = p;
      next = next;
      planned = record { is = e; long = l };
      spelled = rw (x, m) (accepted-spelled (take s.length s.plan) w);
      correlated = rw y (accepted-correlated (take s.length s.plan) w);
    }

module _ (s : State) {a : Result Accepted Refusal} (e : a ≡ answer_of (plan_in s)) where
  pub has-from : {good : Accepted} {t flags : List ℕ} → a ≡ Ok good → t ≡ table_for (plan_in s) → flags ≡ flags_for (plan_in s) → length s.messages ≡ 64 → Has t flags good.activities s
  unfolding answer_of table_into flags_for
  has-from {good} {t} {flags} o q f l =
      let g = answer-got (plan_in s) e o in
      let i : a ≡ answer_of (found g.plan g.next) = e ∙ ap answer_of g.is in
      let m : good.activities ≡ size g.plan.body + size g.plan.fault = cc in
      has-found g.is m (q ∙ ap table_for g.is) (f ∙ ap flags_for g.is) l

  pub offer-unplanned : (c : ℕ) {bad : Refusal} → a ≡ Err bad → {r : Step} → r ≡ refusing 17 → r ≡ preview c s
  unfolding preview
  offer-unplanned c o q = q ∙ rw (answer-no (plan_in s) e o)

  pub offer-planned : (c : ℕ) {good : Accepted} {t flags : List ℕ} {r : Step} → a ≡ Ok good → t ≡ table_for (plan_in s) → flags ≡ flags_for (plan_in s)
      → length s.messages ≡ 64 → OffersBy t flags good.activities s c r → r ≡ preview c s
  offer-planned c o q f l x = x.is (has-from o q f l)

  pub count-unplanned : {bad : Refusal} → a ≡ Err bad → ◌≡◌ {A = Offered} (record { refusal = 17; many = 0; held = false }) (offered_in s)
  unfolding offered_in
  count-unplanned o = rw (answer-no (plan_in s) e o)
