-- The returns of a run. Assumes nothing.
use mathlib.Core.Path.{◌≡◌, refl, sym, ap, ◌∙◌, subst}
use mathlib.Core.Bool.{Bool, true, false, cond}
use mathlib.Core.List.{List, [], ◌∷◌, map}
use Prim.Native.Nat.{ℕ, zero, suc, ◌+◌, ◌-◌, ◌<◌, ◌≤◌}
use native.Mathlib.Numerals.{add-one}
use native.Mathlib.Omega.{arith}
use borrow.Author.Tests.{eq-eqb, ne_eqb}
use lib.Dec.{eqb}
use lib.ListN.{length, get_or, take, drop, set, length-set, drop_of_length-le}
use lib.Seq.{drop-cons}
use Rattle.std.specs.Prelude.{Result, Ok, Err}
use Rattle.plan.specs.declared.Accepted.{Accepted}
use Rattle.plan.specs.declared.Refusal.{Refusal}
use Rattle.plan.specs.Answers.{answer_of, table_for, flags_for}
use Rattle.plan.specs.Found.{Found, refused, found}
use Rattle.plan.specs.Table.{table_of, flags_of}
use Rattle.plan.specs.Tree.{Plan, size}
use Rattle.order.specs.Answering.{Spelled, StartsOrder}
use Rattle.order.specs.Lists.{empties}
use Rattle.order.specs.declared.End.TheVariants.{None}
use Rattle.order.specs.declared.Order.{Order}
use Rattle.order.proofs.Accepted.{accepted-spelled}
use Rattle.order.proofs.PlanStands.{plan-stands}
use Rattle.order.proofs.Standing.{stands-inside}
use Rattle.run.specs.declared.Ran.{Ran}
use Rattle.machine.specs.declared.State.{State}
use Rattle.machine.specs.declared.Step.{Step}
use Rattle.step.specs.declared.Change.{Change}
use Rattle.step.specs.declared.Stepped.{Stepped}
use Rattle.machine.specs.declared.Tally.{Tally}
use Rattle.machine.specs.Calls as calls
use Rattle.machine.specs.Calls.{Chosen, refused_choice, chosen, nth, choosing, previewed, preview_by, preview, refusing, answering, step_chosen, step_by, step, run_by, ran_on, one_more, run}
use Rattle.machine.specs.Limits.{in_limits, plan_in, by}
use Rattle.machine.specs.State.{with_messages, with_order}
use Rattle.machine.specs.Offer.{Offer, Offers, offering, offers_of}
use Rattle.answers.specs.Numbering.{step_number, filled}
use Rattle.run.specs.Running.{ran_of, after}
use Rattle.run.specs.Telling.{told_on, told_by, told_in}
use Rattle.offer.specs.Having.{Has}
use Rattle.offer.proofs.Having.{has-from}
use Rattle.step.specs.Stepping.{bare, changed, StepsBy}
use Rattle.step.proofs.Changed.{put-taken, put_refused}
use Rattle.machine.proofs.Called.{answer-no, answer-got, plan-found}
use Rattle.laws.proofs.Offering.{pick_true, pick-false}
use Rattle.laws.proofs.Keeping.{step-by-keeps, step-is-by, step_keeps}

-- `run_told`: a state that earns 17, and one that has a plan
module _ (s : State) {a : Result Accepted Refusal} (e : a ≡ answer_of (plan_in s)) where
  pub run-unplanned : (cs : List ℕ) (b : ℕ) (y : Tally) {bad : Refusal} → a ≡ Err bad
      → ◌≡◌ {A = Ran} (record { taken = 0; refusal = 17; state = s; tally = y }) (ran_of (run cs b s y))
  unfolding run
  run-unplanned cs b y o = rw (answer-no (plan_in s) e o)

  pub run-planned : (cs : List ℕ) (b : ℕ) (y : Tally) {good : Accepted} → a ≡ Ok good → {r : Ran} → r ≡ ran_of (run_by step cs b s y) → r ≡ ran_of (run cs b s y)
  unfolding run
  run-planned cs b y o q = let g = answer-got (plan_in s) e o in q ∙ rw g.is

  pub told-unplanned : (cs : List ℕ) (b : ℕ) (y : Tally) (w : List ℕ) {bad : Refusal} → a ≡ Err bad
      → w ≡ filled 0 (map step_number (told_in cs b s y)) w
  unfolding told_in filled
  told-unplanned cs b y w o = rw (answer-no (plan_in s) e o)

  pub told-planned : (cs : List ℕ) (b : ℕ) (y : Tally) (w : List ℕ) {good : Accepted} → a ≡ Ok good → {u : List ℕ}
      → u ≡ filled 0 (map step_number (told_by step cs b s y)) w → u ≡ filled 0 (map step_number (told_in cs b s y)) w
  unfolding told_in
  told-planned cs b y w o q = let g = answer-got (plan_in s) e o in q ∙ rw g.is

pub none-spent : (b : ℕ) → b + 0 ≡ b
none-spent b = omega arith

-- `run_by`: after i steps, with what is left of the budget, the run is the rest of it, and so is what it tells
pub record Going (t flags : List ℕ) (n : ℕ) (cs : List ℕ) (b₀ : ℕ) (s₀ : State) (y₀ : Tally) (w₀ : List ℕ) (i b : ℕ) (s : State) (y : Tally) (w : List ℕ) : Type 0 where
  pub has : Has t flags n s
  pub within : i ≤ length cs
  pub left : b + i ≡ b₀
  pub same : run_by step cs b₀ s₀ y₀ ≡ after i (run_by step (drop i cs) b s y)
  pub long : length w ≡ length w₀
  pub told : filled 0 (map step_number (told_by step cs b₀ s₀ y₀)) w₀ ≡ filled i (map step_number (told_by step (drop i cs) b s y)) w

pub going-starts : {t flags : List ℕ} {n : ℕ} {s : State} (cs : List ℕ) (b : ℕ) (y : Tally) (w : List ℕ) → Has t flags n s → Going t flags n cs b s y w 0 b s y w
going-starts cs b y w h = record { has = h; within = omega arith; left = omega arith; same = first-of (run_by step cs b _ y); long = refl; told = refl }
  where
    first-of : (r : calls.Ran) → r ≡ after 0 r
    first-of r = let z : 0 + r.taken ≡ r.taken = omega arith in rw z

module _ {t flags : List ℕ} {n : ℕ} {cs : List ℕ} {b₀ : ℕ} {s₀ : State} {y₀ : Tally} {w₀ : List ℕ} {i b : ℕ} {s : State} {y : Tally} {w : List ℕ}
    (g : Going t flags n cs b₀ s₀ y₀ w₀ i b s y w) where
  -- where nothing more is taken
  going-ends : {r : calls.Ran} → run_by step (drop i cs) b s y ≡ r → r.taken ≡ 0
      → ◌≡◌ {A = Ran} (record { taken = i; refusal = r.refusal; state = r.state; tally = r.tally }) (ran_of (run_by step cs b₀ s₀ y₀))
  going-ends {r} e q =
      let z : i ≡ i + r.taken = omega (arith, q) in
      ap (λ (k : ℕ). record { taken = k; refusal = r.refusal; state = r.state; tally = r.tally }) z
      ∙ sym (ap (λ (v : calls.Ran). ran_of (after i v)) e) ∙ sym (ap ran_of g.same)

  pub going-empty : length cs ≤ i → ◌≡◌ {A = Ran} (record { taken = length cs; refusal = 0; state = s; tally = y }) (ran_of (run_by step cs b₀ s₀ y₀))
  unfolding run_by
  going-empty h =
      let z : length cs ≡ i = omega (arith, g.within) in
      rw z (going-ends {r = record { taken = 0; refusal = 0; state = s; tally = y }} (ap (λ (l : List ℕ). run_by step l b s y) (drop_of_length-le cs h)) refl)

  pub going-spent : i < length cs → b ≡ 0 → ◌≡◌ {A = Ran} (record { taken = i; refusal = 0; state = s; tally = y }) (ran_of (run_by step cs b₀ s₀ y₀))
  unfolding run_by
  going-spent h e =
      going-ends {r = record { taken = 0; refusal = 0; state = s; tally = y }}
      (ap (λ (l : List ℕ). run_by step l b s y) (drop-cons cs i 0 h) ∙ ap (λ (k : ℕ). run_by step (get_or cs i 0 ∷ drop (suc i) cs) k s y) e) refl

  told-ends : {l : List Step} → told_by step (drop i cs) b s y ≡ l → l ≡ [] → w ≡ filled 0 (map step_number (told_by step cs b₀ s₀ y₀)) w₀
  unfolding filled
  told-ends e z = sym (g.told ∙ ap (λ (l : List Step). filled i (map step_number l) w) (e ∙ z))

  pub told-empty : length cs ≤ i → w ≡ filled 0 (map step_number (told_by step cs b₀ s₀ y₀)) w₀
  unfolding told_by
  told-empty h = told-ends (ap (λ (l : List ℕ). told_by step l b s y) (drop_of_length-le cs h)) refl

  pub told-spent : i < length cs → b ≡ 0 → w ≡ filled 0 (map step_number (told_by step cs b₀ s₀ y₀)) w₀
  unfolding told_by
  told-spent h e =
      told-ends
      (ap (λ (l : List ℕ). told_by step l b s y) (drop-cons cs i 0 h) ∙ ap (λ (k : ℕ). told_by step (get_or cs i 0 ∷ drop (suc i) cs) k s y) e) refl

  -- one more step
  module _ (h : i < length cs) (e : b ≡ 0 → ⊥) {r : Change} (x : StepsBy t flags n s (get_or cs i 0) y r) where
    q : changed s r ≡ bare (step (get_or cs i 0) s y)
    q = x.is g.has

    one-step : run_by step (drop i cs) b s y ≡ ran_on (run_by step (drop (i + 1) cs) (b - 1)) (step (get_or cs i 0) s y)
    unfolding run_by
    one-step =
        let z : b ≡ suc (b - 1) = omega (arith, e) in
        ap (λ (l : List ℕ). run_by step l b s y) (drop-cons cs i 0 h)
        ∙ ap (λ (k : ℕ). run_by step (get_or cs i 0 ∷ drop (suc i) cs) k s y) z
        ∙ ap (λ (k : ℕ). ran_on (run_by step (drop k cs) (b - 1)) (step (get_or cs i 0) s y)) (sym (add-one i))

    one_told : told_by step (drop i cs) b s y ≡ told_on (told_by step (drop (i + 1) cs) (b - 1)) (step (get_or cs i 0) s y)
    unfolding told_by
    one_told =
        let z : b ≡ suc (b - 1) = omega (arith, e) in
        ap (λ (l : List ℕ). told_by step l b s y) (drop-cons cs i 0 h)
        ∙ ap (λ (k : ℕ). told_by step (get_or cs i 0 ∷ drop (suc i) cs) k s y) z
        ∙ ap (λ (k : ℕ). told_on (told_by step (drop k cs) (b - 1)) (step (get_or cs i 0) s y)) (sym (add-one i))

    answers : r.answer.refusal ≡ (step (get_or cs i 0) s y).answer.refusal
    answers = ap (λ (v : Stepped). v.answer.refusal) q

    told-answer : r.answer ≡ (step (get_or cs i 0) s y).answer
    told-answer = ap (λ (v : Stepped). v.answer) q

    tallies : r.tally ≡ (step (get_or cs i 0) s y).tally
    tallies = ap (λ (v : Stepped). v.tally) q

    -- the tally that a step that is refused leaves
    tally-stays : (r.answer.refusal ≡ 0 → ⊥) → y ≡ (step (get_or cs i 0) s y).tally
    tally-stays f = sym (ap (λ (v : Change). v.tally) (x.nothing f)) ∙ tallies

    pub going-refused : (r.answer.refusal ≡ 0 → ⊥)
        → ◌≡◌ {A = Ran} (record { taken = i; refusal = r.answer.refusal; state = s; tally = y }) (ran_of (run_by step cs b₀ s₀ y₀))
    going-refused f =
        let states : s ≡ (step (get_or cs i 0) s y).state = sym (put_refused s r f) ∙ ap (λ (v : Stepped). v.state) q in
        let kept = tally-stays f in
        going-ends {r = record { taken = 0; refusal = r.answer.refusal; state = s; tally = y }}
        (one-step ∙ pick-false (eqb (step (get_or cs i 0) s y).answer.refusal 0) _ _ (ap (λ (k : ℕ). eqb k 0) (sym answers) ∙ ne_eqb r.answer.refusal 0 f)
        ∙ rw (← answers, ← states, ← kept)) refl

    pub told-refused : (r.answer.refusal ≡ 0 → ⊥) → w ≡ filled 0 (map step_number (told_by step cs b₀ s₀ y₀)) w₀
    told-refused f =
        told-ends one_told
        (pick-false (eqb (step (get_or cs i 0) s y).answer.refusal 0) _ _ (ap (λ (k : ℕ). eqb k 0) (sym answers) ∙ ne_eqb r.answer.refusal 0 f))

    -- the state with the step put in
    abbrev after-it : State
    after-it = with_order r.answer.slot r.order (with_messages r.messages r.waiting s)

    pub going_on : r.answer.refusal ≡ 0 → {x : ℕ} {v : List ℕ} → x ≡ step_number r.answer → v ≡ set w i x
        → Going t flags n cs b₀ s₀ y₀ w₀ (i + 1) (b - 1) after-it r.tally v
    unfolding filled
    going_on f {x} {v} is put =
        let k = step_keeps g.has.planned (get_or cs i 0) y in
        let states : after-it ≡ (step (get_or cs i 0) s y).state = sym (put-taken s r f) ∙ ap (λ (v : Stepped). v.state) q in
        let z : told_by step (drop i cs) b s y ≡ r.answer ∷ told_by step (drop (i + 1) cs) (b - 1) after-it r.tally =
        one_told
        ∙ pick_true (eqb (step (get_or cs i 0) s y).answer.refusal 0) _ _ (ap (λ (k : ℕ). eqb k 0) (sym answers) ∙ eq-eqb r.answer.refusal 0 f)
        ∙ rw (← states, ← tallies, ← told-answer) in
        record {
          has = record {
            plan = g.has.plan;
            next = g.has.next;
            planned = rw states k;
            spelled = g.has.spelled;
            correlated = g.has.correlated;
          };
          within = omega arith;
          left = omega (arith, g.left, e);
          same = g.same ∙ ap (after i) (one-step
              ∙ pick_true (eqb (step (get_or cs i 0) s y).answer.refusal 0) _ _ (ap (λ (k : ℕ). eqb k 0) (sym answers) ∙ eq-eqb r.answer.refusal 0 f)
              ∙ rw (← states, ← tallies)) ∙ later (run_by step (drop (i + 1) cs) (b - 1) after-it r.tally);
          long = ap length put ∙ (length-set w i x ∙ g.long);
          told = g.told ∙ (ap (λ (l : List Step). filled i (map step_number l) w) z ∙ rw (put, is));
        }
      where
        later : (v : calls.Ran) → after i (one_more v) ≡ after (i + 1) v
        later v = let z : i + (v.taken + 1) ≡ i + 1 + v.taken = omega arith in rw z
