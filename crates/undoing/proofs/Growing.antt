-- In a step that is neither a raise nor a leave no mark that lasts is cleared but those of the activities that have the step in them. Assumes nothing.
use Prim.Native.Nat.{ℕ, zero, suc, ◌+◌, ◌≤◌, ◌<◌}
use native.Mathlib.Omega.{arith}
use mathlib.Core.Path.{◌≡◌, refl, sym, ap, subst, ◌∙◌}
use mathlib.Core.Bool.{Bool, true, false, cond, ◌&&◌, false≢true}
use mathlib.Core.List.{List, [], ◌∷◌}
use lib.ListN.{length, get_or, length-set}
use lib.Seq.{get_or-set_same}
use lib.Dec.{eqb, ltb}
use borrow.Author.Tests.{eqb-true, eqb-false, ltb-true, ltb-false}
use Rattle.plan.specs.Tree.{Own, empty, send, receive, set as setting, raise, leave, choose, repeat, sequence, flow, pick, scope, arm, kind, is_scope, is_pick, Act, act, Acts, more, Plan, size, sizes, count, undo_part, to_partner, to_held, from_partner, from_asking}
use Rattle.order.specs.declared.Order.{Order}
use Rattle.order.specs.Lists.{some}
use Rattle.order.specs.State.{idle, active, inside, with_marks, marked, mark_at, binding}
use Rattle.order.specs.Event.{Event}
use Rattle.order.specs.Expression.{conflicting_receive, Value, fault, value, evaluate, is_true}
use Rattle.order.specs.Begin.{part_at, begin_part, begin_after, cleared}
use Rattle.order.specs.declared.Way.{Way as Result}
use Rattle.order.specs.declared.Way.TheVariants.{Running as running, Over as over, Raising as raising, Leaving as leaving, Undone as undone, UndoRaising as undo_raising}
use Rattle.order.specs.Scope.{Outcome, runs, begun_in, where_over, Scope, scope_at, closing, from_body, from_fault, goes_through, from_undo}
use Rattle.order.specs.Acting.{finishes, raises, or_raises, enters, again, repeats, itself, is_part, arms, goes_on, joins, in_scope, combines, step_in, step_among, Actor, replaces, performs}
use Rattle.order.specs.Taking.{act_at}
use Rattle.undoing.specs.Begun.{lasts, is_scope_kind}
use Rattle.undoing.specs.Entirely.{is_rash}
use Rattle.undoing.proofs.Parts.{both, decide}
use Rattle.undoing.proofs.Orders.{least}
use Rattle.undoing.proofs.Places.{first-of, second-of}
use Rattle.undoing.proofs.Breaking.{cleared-kept}
use Rattle.undoing.proofs.Truly.{Up, up-other, scope-kind, no-pick, needs, Knows, knows, KnowsIn, knows-none, knows_more}
use Rattle.undoing.proofs.Lasting.{part-began, goes-where, goes-begun, finishes-goes, Within, looks-goes, over-goes, undone-goes, part-goes, scope-needs, scope-within}
use Rattle.undoing.proofs.Keeping.{again-goes, joins-goes, follows-goes}
use Rattle.undoing.proofs.Keeping as keeping
use Rattle.undoing.proofs.Dropping.{is_bad, among-drops, combines-has, calmer, not-bad}
use Rattle.undoing.proofs.AfreshSteps.{Stood, StoodIn, stood-here, stood-within, stood-first, stood-later}
use Rattle.undoing.proofs.Sends.{by-send}

abbrev log-of : Outcome → List Event
log-of o = o.log

module _ (f : ℕ → ℕ) where
  -- a scope
  module _ (s : Scope) (b e : ℕ) (h : Within f s b e) (r : Outcome) (m : e ≤ length r.order.marks) (n : is_bad r.result ≡ false) (j : ℕ) (l : lasts (f j) ≡ true) (d : j + 1 ≡ b → ⊥) (u : Up r.order.marks j) where
    pub body-grows : Up (from_body s r).order.marks j
    unfolding from_body
    body-grows = go r.result n
      where
        go : (x : Result) → is_bad x ≡ false → Up (from_body s (record { result = x; order = r.order; log = r.log })).order.marks j
        go running n = (looks-goes f s b e h r.order m).grows j l d u
        go over n = (over-goes f s b e h r.order m).grows j l d u
        go (raising x) n = absurd (false≢true (sym n))
        go leaving n = u
        go undone n = (undone-goes f s b e h r.order m).grows j l d u
        go (undo_raising x) n = absurd (false≢true (sym n))

    pub fault-grows : Up (from_fault s r).order.marks j
    unfolding from_fault
    fault-grows = go r.result n
      where
        go : (x : Result) → is_bad x ≡ false → Up (from_fault s (record { result = x; order = r.order; log = r.log })).order.marks j
        go running n = u
        go over n = (part-goes f s b e h r.order).grows j l d u
        go (raising x) n = absurd (false≢true (sym n))
        go leaving n = u
        go undone n = u
        go (undo_raising x) n = u

  on-grows : (k v : ℕ) (g : Order → Outcome) (r : Outcome) (j : ℕ) → Up (g r.order).order.marks j → Up r.order.marks j → Up (goes_on k v g r).order.marks j
  unfolding goes_on
  on-grows k v g r j w u = go r.result
    where
      on : (b : Bool) (z : Outcome) → z ≡ elim b [ true ↦ g r.order | false ↦ runs r.order ] → Up z.order.marks j
      on true z e = subst (λ (q : Outcome). Up q.order.marks j) (sym e) w
      on false z e = subst (λ (q : Outcome). Up q.order.marks j) (sym e) u

      go : (x : Result) → Up (where_over (λ q. elim (eqb (mark_at k q) v) [ true ↦ g q | false ↦ runs q ]) (record { result = x; order = r.order; log = r.log })).order.marks j
      go running = u
      go over = on (eqb (mark_at k r.order) v) _ refl
      go (raising x) = u
      go leaving = u
      go undone = u
      go (undo_raising x) = u

  grows-either : (j : ℕ) (v : Bool) (x y z : Outcome) → z ≡ elim v [ true ↦ x | false ↦ y ] → Up x.order.marks j → Up y.order.marks j → Up z.order.marks j
  grows-either j true x y z e a b = subst (λ (q : Outcome). Up q.order.marks j) (sym e) a
  grows-either j false x y z e a b = subst (λ (q : Outcome). Up q.order.marks j) (sym e) b

  pub combines-grows : (own : Own) (within : Acts) (k t : ℕ) (r : Outcome) → f k ≡ kind own → needs own ≤ count within → KnowsIn f within (k + 1) → k + 1 + sizes within ≤ length r.order.marks
      → is_bad r.result ≡ false → (j : ℕ) → lasts (f j) ≡ true → (j ≡ k → ⊥) → Up r.order.marks j → Up (combines own within k t r).order.marks j
  unfolding combines needs kind in_scope from_undo
  combines-grows empty within k t r e n y m q j l d u = u
  combines-grows (send a b vs) within k t r e n y m q j l d u = u
  combines-grows (receive a b vs) within k t r e n y m q j l d u = u
  combines-grows (setting v x) within k t r e n y m q j l d u = u
  combines-grows (raise number) within k t r e n y m q j l d u = u
  combines-grows leave within k t r e n y m q j l d u = u
  combines-grows (choose x) within k t r e n y m q j l d u = on-grows k inside (finishes k) r j ((finishes-goes f k 0 r.order).grows j l (λ i. d (omega arith)) u) u
  combines-grows (repeat x) within k t r e n y m q j l d u = on-grows k inside (again k) r j ((again-goes f k 0 r.order (ap (λ (i : ℕ). eqb i 7) e)).grows j l (λ i. d (omega arith)) u) u
  combines-grows sequence within k t r e n y m q j l d u =
      on-grows k active (λ o. where_over (finishes k) (begun_in o (begin_after within (k + 1) t o.marks))) r j ((follows-goes f k t r.order y m).grows j l (λ i. d (omega arith)) u) u
  combines-grows flow within k t r e n y m q j l d u = on-grows k active (joins k within) r j ((joins-goes f k 0 within r.order).grows j l (λ i. d (omega arith)) u) u
  combines-grows pick within k t r e n y m q j l d u = on-grows k inside (finishes k) r j ((finishes-goes f k 0 r.order).grows j l (λ i. d (omega arith)) u) u
  combines-grows (scope xs v) within k t r e n y m q j l d u =
      let s = scope_at xs k within in
      let h = scope-within f xs (ap is_scope_kind e ∙ scope-kind (scope xs v)) (scope-needs f (scope xs v) (count within) refl n) y in
      grows-either j (ltb t (part_at 1 within (k + 1))) (elim (goes_through v k r) [ true ↦ r | false ↦ from_body s r ]) (elim (ltb t (part_at (undo_part xs) within (k + 1))) [ true ↦ from_fault s r | false ↦ from_undo r ]) _ refl
      (grows-either j (goes_through v k r) r (from_body s r) _ refl u (body-grows s (k + 1) (k + 1 + sizes within) h r m q j l (λ i. d (omega arith)) u))
      (grows-either j (ltb t (part_at (undo_part xs) within (k + 1))) (from_fault s r) (from_undo r) _ refl (fault-grows s (k + 1) (k + 1 + sizes within) h r m q j l (λ i. d (omega arith)) u) u)
  combines-grows (arm a b vs) within k t r e n y m q j l d u = u

  -- its own step
  itself-grows : (own : Own) (within : Acts) (q k : ℕ) (o : Order) → f k ≡ kind own → needs own ≤ count within → KnowsIn f within (k + 1) → k + 1 + sizes within ≤ length o.marks
      → (j : ℕ) → lasts (f j) ≡ true → (j ≡ k → ⊥) → (k < j → j < k + 1 + sizes within → ⊥) → Up o.marks j → Up (itself own within q k o).order.marks j
  unfolding itself needs least kind closing repeats
  itself-grows empty within q k o e n y m j l d c u = u
  itself-grows (send a b vs) within q k o e n y m j l d c u = by-send (λ r. Up r.order.marks j) a b vs within q k o (up-other o.marks k idle j d u) (λ x. up-other o.marks k idle j d u)
  itself-grows (receive a b vs) within q k o e n y m j l d c u = up-other o.marks k idle j d u
  itself-grows (setting v x) within q k o e n y m j l d c u = go (evaluate x o)
    where
      go : (w : Value) → Up (or_raises k o (λ i. finishes k (binding v i o)) w).order.marks j
      go (fault x) = up-other o.marks k idle j d u
      go (value i) = up-other o.marks k idle j d u
  itself-grows (raise zero) within q k o e n y m j l d c u = up-other o.marks k idle j d u
  itself-grows (raise (suc number)) within q k o e n y m j l d c u = up-other o.marks k idle j d u
  itself-grows leave within q k o e n y m j l d c u = up-other o.marks k idle j d u
  itself-grows (choose x) within q k o e n y m j l d c u = go (evaluate x o)
    where
      into : (i : ℕ) → i < 2 → Up (enters k o (begin_part i within (k + 1) (marked k inside o).marks)).order.marks j
      into i h =
          let o₁ = marked k inside o in
          let b = begin_part i within (k + 1) o₁.marks in
          (goes-where f (finishes k) (begun_in o₁ b)
          (goes-begun f {b = k + 1} {e = k + 1 + sizes within} o₁ b (part-began f y i (omega arith) o₁.marks (omega (arith, length-set o.marks k inside))) (omega arith) (omega arith))
          (λ o₂ z. finishes-goes f k _ o₂)).grows j l (λ z. d (omega arith)) (up-other o.marks k inside j d u)

      first_two : (b : Bool) → cond b 0 1 < 2
      first_two true = omega arith
      first_two false = omega arith

      go : (w : Value) → Up (or_raises k o (λ i. enters k o (begin_part (cond (is_true i) 0 1) within (k + 1) (marked k inside o).marks)) w).order.marks j
      go (fault x) = up-other o.marks k idle j d u
      go (value i) = into (cond (is_true i) 0 1) (first_two (is_true i))
  itself-grows (repeat x) within q k o e n y m j l d c u = go (evaluate x o)
    where
      ms : List ℕ
      ms = cleared (k + 1) (sizes within) o.marks

      same : get_or ms j 0 ≡ get_or o.marks j 0
      same =
          decide (ltb k j)
          (λ a. decide (ltb j (k + 1 + sizes within)) (λ b. absurd (c (ltb-true k j a) (ltb-true j (k + 1 + sizes within) b))) (λ b. (cleared-kept (sizes within) (k + 1) o.marks).above j (ltb-false j (k + 1 + sizes within) b)))
          (λ a. let z = ltb-false k j a in (cleared-kept (sizes within) (k + 1) o.marks).below j (omega arith))

      over-again : Up (repeats k within o).order.marks j
      over-again =
          let o₁ = marked k inside (with_marks ms o) in
          let z : length o₁.marks ≡ length o.marks = length-set ms k inside ∙ (cleared-kept (sizes within) (k + 1) o.marks).many in
          (goes-where f (again k) (begun_in o₁ (begin_part 0 within (k + 1) o₁.marks))
          (goes-begun f {b = k + 1} {e = k + 1 + sizes within} o₁ (begin_part 0 within (k + 1) o₁.marks) (part-began f y 0 (omega arith) o₁.marks (omega arith)) (omega arith) (omega arith))
          (λ o₂ z. again-goes f k _ o₂ (ap (λ (i : ℕ). eqb i 7) e))).grows j l (λ z. d (omega arith)) (up-other ms k inside j d (ap (λ (v : ℕ). eqb v idle) same ∙ u))

      by-truth : (b : Bool) (z : Outcome) → z ≡ elim b [ true ↦ repeats k within o | false ↦ finishes k o ] → Up z.order.marks j
      by-truth true z i = subst (λ (q : Outcome). Up q.order.marks j) (sym i) over-again
      by-truth false z i = subst (λ (q : Outcome). Up q.order.marks j) (sym i) (up-other o.marks k idle j d u)

      go : (w : Value) → Up (or_raises k o (λ i. elim (is_true i) [ true ↦ repeats k within o | false ↦ finishes k o ]) w).order.marks j
      go (fault x) = up-other o.marks k idle j d u
      go (value i) = by-truth (is_true i) _ refl
  itself-grows sequence within q k o e n y m j l d c u = u
  itself-grows flow within q k o e n y m j l d c u = u
  itself-grows pick within q k o e n y m j l d c u = u
  itself-grows (scope xs v) within q k o e n y m j l d c u = up-other o.marks k idle j d u
  itself-grows (arm a b vs) within q k o e n y m j l d c u =
      (goes-begun f {b = k + 1} {e = k + 1 + sizes within} o (begin_part 0 within (k + 1) o.marks) (part-began f y 0 (omega arith) o.marks m) (omega arith) (omega arith)).grows j l (λ z. d (omega arith)) u

  arms_up : (own : Own) (within : Acts) (k t : ℕ) (o : Order) (j : ℕ) → (j ≡ k → ⊥) → Up o.marks j → Up (arms own within k t o).marks j
  unfolding arms
  arms_up own within k t o j d u = go (is_pick own && is_part within (k + 1) t)
    where
      go : (b : Bool) → Up (cond b (marked k inside o) o).marks j
      go true = up-other o.marks k inside j d u
      go false = u

  arms-long : (own : Own) (within : Acts) (k t : ℕ) (o : Order) → length (arms own within k t o).marks ≡ length o.marks
  unfolding arms
  arms-long own within k t o = go (is_pick own && is_part within (k + 1) t)
    where
      go : (b : Bool) → length (cond b (marked k inside o) o).marks ≡ length o.marks
      go true = length-set o.marks k inside
      go false = refl

  -- what acts: the activity itself, or a raise in its place
  abbrev UpIn : (j : ℕ) → Outcome → Type 0
  UpIn j r = Up r.order.marks j

  performs-grows : (actor : Actor) (own : Own) (within : Acts) (q k : ℕ) (o : Order) → f k ≡ kind own → needs own ≤ count within → KnowsIn f within (k + 1) → k + 1 + sizes within ≤ length o.marks
      → (j : ℕ) → lasts (f j) ≡ true → (j ≡ k → ⊥) → (k < j → j < k + 1 + sizes within → ⊥) → Up o.marks j → Up (performs actor own within q k o).order.marks j
  unfolding performs
  performs-grows actor own within q k o e n y m j l d c u = go (replaces actor (kind own))
    where
      go : (b : Bool) → UpIn j (elim b [ true ↦ raises conflicting_receive k o | false ↦ itself own within q k o ])
      go true = up-other o.marks k idle j d u
      go false = itself-grows own within q k o e n y m j l d c u

  -- a repeat that has the step in it, and not as its own
  arms_same : (own : Own) (within : Acts) (k t : ℕ) (o : Order) → kind own ≡ 7 → Up o.marks k → Up (arms own within k t o).marks k
  unfolding arms
  arms_same own within k t o e u = subst (λ (b : Bool). Up (cond (b && is_part within (k + 1) t) (marked k inside o) o).marks k) (sym (no-pick own 7 refl e)) u

  again-up : (own : Own) (within : Acts) (k t : ℕ) (r : Outcome) → kind own ≡ 7 → k < length r.order.marks → Up r.order.marks k → Up (combines own within k t r).order.marks k
  unfolding combines kind
  again-up empty within k t r e m u = absurd (omega arith)
  again-up (send (to_partner a) b vs) within k t r e m u = absurd (omega arith)
  again-up (send (to_held held reply) b vs) within k t r e m u = absurd (omega arith)
  again-up (receive (from_partner a) b vs) within k t r e m u = absurd (omega arith)
  again-up (receive (from_asking a kept) b vs) within k t r e m u = absurd (omega arith)
  again-up (setting v x) within k t r e m u = absurd (omega arith)
  again-up (raise zero) within k t r e m u = absurd (omega arith)
  again-up (raise (suc number)) within k t r e m u = absurd (omega arith)
  again-up leave within k t r e m u = absurd (omega arith)
  again-up (choose x) within k t r e m u = absurd (omega arith)
  again-up (repeat x) within k t r e m u = on-grows k inside (again k) r k (ap (λ (v : ℕ). eqb v idle) (get_or-set_same r.order.marks k active 0 m)) u
  again-up sequence within k t r e m u = absurd (omega arith)
  again-up flow within k t r e m u = absurd (omega arith)
  again-up pick within k t r e m u = absurd (omega arith)
  again-up (scope [] true) within k t r e m u = absurd (omega arith)
  again-up (scope [] false) within k t r e m u = absurd (omega arith)
  again-up (scope (x ∷ xs) v) within k t r e m u = absurd (omega arith)
  again-up (arm a b vs) within k t r e m u = absurd (omega arith)

  -- A step: j has it not in it, or is a repeat that has it, and not as its own; and j does not stand in what has it.
  module _ (actor : Actor) (p : Plan) (t j : ℕ) (l : lasts (f j) ≡ true) (off : j ≤ t → t < j + size (act_at p j) → (eqb (f j) 7 && ltb j t) ≡ true) (under : t < j → j < t + size (act_at p t) → ⊥) where
    mutual
      unfolding step_in size

      pub step-grows : {a : Act} {k : ℕ} → Knows f a k → Stood p a k → (q₀ : ℕ) → k ≤ t → t < k + size a → (o : Order) → k + size a ≤ length o.marks → some is_rash (step_in actor a q₀ k t o).log ≡ false → Up o.marks j
          → Up (step_in actor a q₀ k t o).order.marks j
      step-grows (knows {own} {within} {k} x n r y) st q₀ h e o m c u =
          decide (eqb k t)
          (λ d. let i = eqb-true k t d in
          subst (λ (q : Outcome). Up q.order.marks j) (sym (first-of (eqb k t) (performs actor own within q₀ k o) (combines own within k t (step_among actor within (is_scope own) q₀ (k + 1) t (arms own within k t o))) (step_in actor (act own within) q₀ k t o) refl d))
          (performs-grows actor own within q₀ k o x n y (omega arith) j l (not_own i)
          (λ a b. under (omega arith) (subst (λ (z : Act). j < t + size z) (sym (subst (λ (z : ℕ). act_at p z ≡ act own within) i (stood-here st))) (omega arith))) u))
          (λ d. let i = eqb-false k t d in
          let q = second-of (eqb k t) (performs actor own within q₀ k o) (combines own within k t (step_among actor within (is_scope own) q₀ (k + 1) t (arms own within k t o))) (step_in actor (act own within) q₀ k t o) refl d in
          let o₁ = arms own within k t o in
          let z = arms-long own within k t o in
          let r₁ = step_among actor within (is_scope own) q₀ (k + 1) t o₁ in
          let c₁ : some is_rash (combines own within k t r₁).log ≡ false = subst (λ (w : Outcome). some is_rash w.log ≡ false) q c in
          let c₂ = calmer r₁.log (combines own within k t r₁).log (combines-has is_rash own within k t r₁) c₁ in
          let m₁ = among-long y o₁ (omega arith) in
          subst (λ (w : Outcome). Up w.order.marks j) (sym q)
          (decide (eqb j k)
          (λ same. let s = eqb-true j k same in
          let g : kind own ≡ 7 = sym x ∙ (ap f (sym s) ∙ eqb-true (f j) 7 (both (eqb (f j) 7) (ltb j t) (its_own s) (λ a b. a))) in
          subst (λ (i : ℕ). Up (combines own within k t r₁).order.marks i) (sym s)
          (again-up own within k t r₁ g (omega (arith, m₁))
          (subst (λ (i : ℕ). Up r₁.order.marks i) s
          (among-grows y (stood-within st) (is_scope own) q₀ (omega arith) (omega arith) o₁ (omega arith) c₂ (subst (λ (i : ℕ). Up o₁.marks i) (sym s) (arms_same own within k t o g (subst (λ (i : ℕ). Up o.marks i) s u)))))))
          (λ other. let not-k = eqb-false j k other in
          combines-grows own within k t r₁ x n y (omega (arith, m₁)) (not-bad o₁ r₁ (among-drops f t actor y (is_scope own) q₀ o₁) c₂) j l not-k
          (among-grows y (stood-within st) (is_scope own) q₀ (omega arith) (omega arith) o₁ (omega arith) c₂ (arms_up own within k t o j not-k u)))))
        where
          its_own : j ≡ k → (eqb (f j) 7 && ltb j t) ≡ true
          its_own d = off (omega arith) (subst (λ (i : ℕ). t < i + size (act_at p i)) (sym d) (subst (λ (z : Act). t < k + size z) (sym (stood-here st)) e))

          not_own : k ≡ t → j ≡ k → ⊥
          not_own i d = both (eqb (f j) 7) (ltb j t) (its_own d) (λ a b. let z = ltb-true j t b in omega arith)

          among-long : KnowsIn f within (k + 1) → (o₁ : Order) → k + 1 + sizes within ≤ length o₁.marks → length (step_among actor within (is_scope own) q₀ (k + 1) t o₁).order.marks ≡ length o₁.marks
          among-long y o₁ m = (keeping.among-steps f actor y (is_scope own) q₀ t o₁ m).long

      pub among-grows : {r : Acts} {c : ℕ} → KnowsIn f r c → StoodIn p r c → (v₀ : Bool) (q₀ : ℕ) → c ≤ t → t < c + sizes r → (o : Order) → c + sizes r ≤ length o.marks → some is_rash (step_among actor r v₀ q₀ c t o).log ≡ false → Up o.marks j
          → Up (step_among actor r v₀ q₀ c t o).order.marks j
      among-grows knows-none st v₀ q₀ h e o m c u = absurd (omega arith)
      among-grows (knows_more {a = a} {l = r} {c = c} x y) st v₀ q₀ h e o m z u =
          decide (ltb t (c + size a))
          (λ d. let q = first-of (ltb t (c + size a)) (step_in actor a (cond v₀ c q₀) c t o) (step_among actor r v₀ q₀ (c + size a) t o) (step_among actor (more a r) v₀ q₀ c t o) refl d in
          subst (λ (w : Outcome). Up w.order.marks j) (sym q)
          (step-grows x (stood-first st) (cond v₀ c q₀) h (ltb-true t (c + size a) d) o (omega arith) (subst (λ (w : Outcome). some is_rash w.log ≡ false) q z) u))
          (λ d. let q = second-of (ltb t (c + size a)) (step_in actor a (cond v₀ c q₀) c t o) (step_among actor r v₀ q₀ (c + size a) t o) (step_among actor (more a r) v₀ q₀ c t o) refl d in
          subst (λ (w : Outcome). Up w.order.marks j) (sym q)
          (among-grows y (stood-later st) v₀ q₀ (ltb-false t (c + size a) d) (omega arith) o (omega arith) (subst (λ (w : Outcome). some is_rash w.log ≡ false) q z) u))
