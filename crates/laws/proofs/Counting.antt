-- The tally counts the starts and the ends answered, proved. Assumes nothing.
use Prim.Native.Nat.{ℕ, ◌+◌, ◌≤◌, ◌<◌}
use native.Mathlib.Omega.{arith}
use mathlib.Core.Path.{◌≡◌, refl, sym, ap, ◌∙◌}
use mathlib.Core.Bool.{Bool, true, false, cond, not, ◌&&◌}
use mathlib.Core.List.{List, [], ◌∷◌}
use borrow.Author.Tests.{eqb-true, leb-true, leb-false, ltb-true, ltb-false, le-leb}
use lib.Dec.{leb, ltb, eqb}
use lib.ListN.{get_or}
use Rattle.plan.specs.Found.{Found, refused, found}
use Rattle.plan.specs.Tree.{Plan}
use Rattle.order.specs.declared.End.{End}
use Rattle.order.specs.declared.End.TheVariants.{None, Well, Handled, Failed, Left}
use Rattle.order.specs.Acting.{started_order, begun_order}
use Rattle.order.specs.Event.{started}
use Rattle.order.specs.State.{is_live, no_order}
use Rattle.machine.specs.declared.State.{State}
use Rattle.machine.specs.declared.Tally.{Tally}
use Rattle.machine.specs.Calls.{end_number, post, collect, drop_at, Chosen, refused_choice, chosen, choosing, refusing, counted, count_start, count_end, Stepped, stepped, taken, step_chosen, step_by, step, Call, posting, collecting, dropping, stepping}
use Rattle.machine.specs.Limits.{plan_in, by}
use Rattle.machine.specs.Offer.{Offer, offers_of}
use Rattle.laws.specs.Known.{after}
use Rattle.laws.specs.Counted.{up_to, start_of, end_of, counting, TallyCounts}
use Rattle.laws.proofs.Promised.{refusal-some}

-- counting up to the ceiling
up_none : (n : ℕ) → n ≤ 4294967295 → n ≡ up_to n 0
unfolding up_to
up_none n h = rw (le-leb (n + 0) 4294967295 (omega arith)) (omega arith)

up_one : (n : ℕ) → n ≤ 4294967295 → counted n ≡ up_to n 1
unfolding up_to
up_one n h = go (ltb n 4294967295) refl (leb (n + 1) 4294967295) refl
  where
    go : (a : Bool) → ltb n 4294967295 ≡ a → (b : Bool) → leb (n + 1) 4294967295 ≡ b → cond a (n + 1) n ≡ cond b (n + 1) 4294967295
    go true e true d = refl
    go true e false d = absurd (omega (arith, ltb-true n 4294967295 e, leb-false (n + 1) 4294967295 d))
    go false e true d = absurd (omega (arith, ltb-false n 4294967295 e, leb-true (n + 1) 4294967295 d))
    go false e false d = omega (arith, ltb-false n 4294967295 e, h)

up_small : (n k : ℕ) → up_to n k ≤ 4294967295
unfolding up_to
up_small n k = go (leb (n + k) 4294967295) refl
  where
    go : (b : Bool) → leb (n + k) 4294967295 ≡ b → cond b (n + k) 4294967295 ≤ 4294967295
    go true e = leb-true (n + k) 4294967295 e
    go false e = omega arith

up_more : (n a b : ℕ) → up_to (up_to n a) b ≡ up_to n (a + b)
unfolding up_to
up_more n a b = go (leb (n + a) 4294967295) refl
  where
    past : (x : Bool) → leb (4294967295 + b) 4294967295 ≡ x → (y : Bool) → leb (n + (a + b)) 4294967295 ≡ y → 4294967295 < n + a
        → cond x (4294967295 + b) 4294967295 ≡ cond y (n + (a + b)) 4294967295
    past true d true f h = absurd (omega (arith, leb-true (n + (a + b)) 4294967295 f))
    past true d false f h = let z = leb-true (4294967295 + b) 4294967295 d in omega arith
    past false d true f h = absurd (omega (arith, leb-true (n + (a + b)) 4294967295 f))
    past false d false f h = refl

    go : (x : Bool) → leb (n + a) 4294967295 ≡ x
        → (let m : ℕ = cond x (n + a) 4294967295 in cond (leb (m + b) 4294967295) (m + b) 4294967295) ≡ cond (leb (n + (a + b)) 4294967295) (n + (a + b)) 4294967295
    go true e = let z : n + (a + b) ≡ n + a + b = omega arith in rw z
    go false e = past (leb (4294967295 + b) 4294967295) refl (leb (n + (a + b)) 4294967295) refl (leb-false (n + a) 4294967295 e)

-- One count of the tally, f, and what a step adds to it, g: brought up to date by every step, it is by every run.
record Rule (f : Tally → ℕ) (g : State → Stepped → ℕ) : Type 0 where
  steps : (c : ℕ) (s : State) (t : Tally) → f t ≤ 4294967295 → f (step c s t).tally ≡ up_to (f t) (g s (step c s t))

run-counts : {f : Tally → ℕ} {g : State → Stepped → ℕ} → Rule f g → (l : List Call) (s : State) (t : Tally) → f t ≤ 4294967295 → f (after l s t).1 ≡ up_to (f t) (counting g l s t)
unfolding after counting
run-counts {f} w [] s t h = up_none (f t) h
run-counts w (posting m ∷ l) s t h = run-counts w l (post m s).state t h
run-counts w (collecting ∷ l) s t h = run-counts w l (collect s).state t h
run-counts w (dropping j ∷ l) s t h = run-counts w l (drop_at j s).state t h
run-counts {f} {g} w (stepping c ∷ l) s t h =
    let e = w.steps c s t h in
    let d : f (step c s t).tally ≤ 4294967295 = rw e (up_small (f t) (g s (step c s t))) in
    run-counts w l (step c s t).state (step c s t).tally d
    ∙ (ap (λ (n : ℕ). up_to n (counting g l (step c s t).state (step c s t).tally)) e ∙ up_more (f t) (g s (step c s t)) (counting g l (step c s t).state (step c s t).tally))

-- A rule by what a step comes to: refused, it changes no tally and counts nothing; taken in a live slot or in a free one, it counts what it answers.
record Judged (f : Tally → ℕ) (g : State → Stepped → ℕ) : Type 0 where
  none : (s : State) (t : Tally) (n : ℕ) → (n ≡ 0 → ⊥) → g s (record { answer = refusing n; state = s; tally = t; log = [] }) ≡ 0
  lives : (p : Plan) (x : Offer) (s : State) (t : Tally) → is_live (get_or s.orders x.slot no_order) ≡ true → f t ≤ 4294967295
      → let r = stepped p x s t (get_or s.orders x.slot no_order) [] in f r.tally ≡ up_to (f t) (g s r)
  starts : (p : Plan) (x : Offer) (s : State) (t : Tally) → is_live (get_or s.orders x.slot no_order) ≡ false → f t ≤ 4294967295
      → let r = stepped p x s (count_start t) (started_order p) (started ∷ (begun_order p).log) in f r.tally ≡ up_to (f t) (g s r)

judged-rule : {f : Tally → ℕ} {g : State → Stepped → ℕ} → Judged f g → Rule f g
unfolding step step_by step_chosen taken
judged-rule {f} {g} w = record { steps = λ c s t h. go c s t h (plan_in s) }
  where
    Right : State → Tally → Stepped → Type 0
    Right s t r = f r.tally ≡ up_to (f t) (g s r)

    refuses : (s : State) (t : Tally) (n : ℕ) → (n ≡ 0 → ⊥) → f t ≤ 4294967295 → Right s t (record { answer = refusing n; state = s; tally = t; log = [] })
    refuses s t n z h = rw (w.none s t n z) (up_none (f t) h)

    slot : (p : Plan) (x : Offer) (s : State) (t : Tally) → f t ≤ 4294967295 → (b : Bool) → is_live (get_or s.orders x.slot no_order) ≡ b
        → Right s t (elim b [
          | true ↦ stepped p x s t (get_or s.orders x.slot no_order) []
          | false ↦ stepped p x s (count_start t) (started_order p) (started ∷ (begun_order p).log)
        ])
    slot p x s t h true e = w.lives p x s t e h
    slot p x s t h false e = w.starts p x s t e h

    chose : (p : Plan) (c : ℕ) (s : State) (t : Tally) → f t ≤ 4294967295 → (y : Chosen) → choosing (offers_of p s) c ≡ y → Right s t (step_chosen p s t y)
    chose p c s t h (refused_choice n) e = refuses s t n (refusal-some (offers_of p s) c n e) h
    chose p c s t h (chosen x) e = slot p x s t h (is_live (get_or s.orders x.slot no_order)) refl

    go : (c : ℕ) (s : State) (t : Tally) → f t ≤ 4294967295 → (y : Found Plan) → Right s t (by (record { answer = refusing 17; state = s; tally = t; log = [] }) (λ p. step_by p c s t) y)
    go c s t h (refused n k) = refuses s t 17 (λ z. omega arith) h
    go c s t h (found p n) = chose p c s t h (choosing (offers_of p s) c) refl

-- starts
end-keeps : (e : End) (t : Tally) → (count_end e t).started ≡ t.started
unfolding count_end
end-keeps None t = refl
end-keeps Well t = refl
end-keeps Handled t = refl
end-keeps Failed t = refl
end-keeps Left t = refl

start-rule : Judged (λ t. t.started) start_of
unfolding stepped start_of
start-rule = record {
  none = λ s t n z. go n s z (eqb n 0) refl;
  lives = λ p x s t e h. rw e (end-keeps _ t ∙ up_none t.started h);
  starts = λ p x s t e h. rw e (end-keeps _ (count_start t) ∙ up_one t.started h);
}
  where
    go : (n : ℕ) (s : State) → (n ≡ 0 → ⊥) → (b : Bool) → eqb n 0 ≡ b → ◌≡◌ {A = ℕ} (cond (b && not (is_live (get_or s.orders 0 no_order))) 1 0) 0
    go n s z true e = absurd (z (eqb-true n 0 e))
    go n s z false e = refl

-- ends: one count of the four, which a start leaves as it is
record Ending (d : End) (f : Tally → ℕ) : Type 0 where
  none : end_number d ≡ 0 → ⊥
  starts : (t : Tally) → f (count_start t) ≡ f t
  ends : (e : End) (t : Tally) → f t ≤ 4294967295 → f (count_end e t) ≡ up_to (f t) (cond (eqb (end_number e) (end_number d)) 1 0)

end-rule : {d : End} {f : Tally → ℕ} → Ending d f → Judged f (end_of d)
unfolding stepped end_of end_number
end-rule {d} {f} w = record {
  none = λ s t n z. go (eqb 0 (end_number d)) refl;
  lives = λ p x s t e h. w.ends _ t h;
  starts = λ p x s t e h. shift t _ _ (w.ends _ (count_start t) (rw (w.starts t) h));
}
  where
    shift : (t : Tally) (m n : ℕ) → m ≡ up_to (f (count_start t)) n → m ≡ up_to (f t) n
    shift t m n e = e ∙ ap (λ (k : ℕ). up_to k n) (w.starts t)

    go : (b : Bool) → eqb 0 (end_number d) ≡ b → ◌≡◌ {A = ℕ} (cond b 1 0) 0
    go true e = absurd (w.none (sym (eqb-true 0 (end_number d) e)))
    go false e = refl

well-ends : Ending Well (λ t. t.well)
unfolding end_number count_end
well-ends = record { none = λ z. omega arith; starts = λ t. refl; ends = go }
  where
    go : (e : End) (t : Tally) → t.well ≤ 4294967295 → (count_end e t).well ≡ up_to t.well (cond (eqb (end_number e) 1) 1 0)
    go None t h = up_none t.well h
    go Well t h = up_one t.well h
    go Handled t h = up_none t.well h
    go Failed t h = up_none t.well h
    go Left t h = up_none t.well h

handled-ends : Ending Handled (λ t. t.handled)
unfolding end_number count_end
handled-ends = record { none = λ z. omega arith; starts = λ t. refl; ends = go }
  where
    go : (e : End) (t : Tally) → t.handled ≤ 4294967295 → (count_end e t).handled ≡ up_to t.handled (cond (eqb (end_number e) 2) 1 0)
    go None t h = up_none t.handled h
    go Well t h = up_none t.handled h
    go Handled t h = up_one t.handled h
    go Failed t h = up_none t.handled h
    go Left t h = up_none t.handled h

failed_ends : Ending Failed (λ t. t.failed)
unfolding end_number count_end
failed_ends = record { none = λ z. omega arith; starts = λ t. refl; ends = go }
  where
    go : (e : End) (t : Tally) → t.failed ≤ 4294967295 → (count_end e t).failed ≡ up_to t.failed (cond (eqb (end_number e) 3) 1 0)
    go None t h = up_none t.failed h
    go Well t h = up_none t.failed h
    go Handled t h = up_none t.failed h
    go Failed t h = up_one t.failed h
    go Left t h = up_none t.failed h

left-ends : Ending Left (λ t. t.left)
unfolding end_number count_end
left-ends = record { none = λ z. omega arith; starts = λ t. refl; ends = go }
  where
    go : (e : End) (t : Tally) → t.left ≤ 4294967295 → (count_end e t).left ≡ up_to t.left (cond (eqb (end_number e) 4) 1 0)
    go None t h = up_none t.left h
    go Well t h = up_none t.left h
    go Handled t h = up_none t.left h
    go Failed t h = up_none t.left h
    go Left t h = up_one t.left h

pub tally-counts : TallyCounts
unfolding TallyCounts
tally-counts l s t h = record {
  started = run-counts (judged-rule start-rule) l s t h.started;
  well = run-counts (judged-rule (end-rule well-ends)) l s t h.well;
  handled = run-counts (judged-rule (end-rule handled-ends)) l s t h.handled;
  failed = run-counts (judged-rule (end-rule failed_ends)) l s t h.failed;
  left = run-counts (judged-rule (end-rule left-ends)) l s t h.left;
}
