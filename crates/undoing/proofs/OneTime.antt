-- One step that takes one scope back, over one time that a step goes through its order: to come after it only where it was before and was not that step, or where
-- the undo part began with it; and where it is that step, it was to come. Assumes nothing.
use Prim.Native.Nat.{ℕ, ◌+◌, ◌≤◌, ◌<◌}
use native.Mathlib.Omega.{arith}
use mathlib.Core.Path.{◌≡◌, refl, sym, ap, subst, ◌∙◌}
use mathlib.Core.Bool.{Bool, true, false, ◌&&◌, false≢true, and-false}
use mathlib.Core.List.{List}
use lib.ListN.{length, get_or}
use lib.Dec.{eqb, ltb}
use borrow.Author.Tests.{eqb-true, eq-eqb, lt-ltb, le-ltb, ltb-true, ltb-false}
use Rattle.plan.specs.Tree.{kind, is_pick, Act, act, Acts, Plan, size}
use Rattle.order.specs.declared.Order.{Order}
use Rattle.order.specs.Lists.{some}
use Rattle.order.specs.State.{idle, active, is_live, no_order}
use Rattle.order.specs.declared.Way.TheVariants.{Running as running}
use Rattle.order.specs.Scope.{root_of}
use Rattle.order.specs.Acting.{is_part, Actor, Moved, acted, begun_order, started_order}
use Rattle.undoing.specs.Begun.{acts, owns_in, owns_among, owns_at, has_began, goes_in, kind_at, lead_at, alone, is_scope_kind}
use Rattle.undoing.specs.Answered.{surely, back_of}
use Rattle.undoing.proofs.Parts.{both, decide}
use Rattle.undoing.proofs.Orders.{remedy-bare, remedy-names}
use Rattle.undoing.proofs.Waiting.{Waits, waits-itself, waits-within, WaitsIn, waits-first, waits-later}
use Rattle.undoing.proofs.Scoping.{scope_live, scope-done, scope-turned, Running}
use Rattle.undoing.proofs.Roots.{Awaited, in-body, in-fault, Standing}
use Rattle.undoing.proofs.Planning.{Promised}
use Rattle.undoing.proofs.Slots.{Alike, idle-marks}
use Rattle.undoing.proofs.Truly.{or_case, Up, Arms, Knows, knows, KnowsIn, knows-none, knows_more, stay-up}
use Rattle.undoing.proofs.Leading.{Fine, begin-fine}
use Rattle.undoing.proofs.Keeping.{arm-kind, owns-itself, owns-within, owns-first, owns-later, Steps, steps-from, order-steps, awaited-up}
use Rattle.undoing.proofs.BegunTold.{body-knows, fault-knows, plan-named, lb, body-lead, lead-here, steps-fine, start-began}
use Rattle.undoing.proofs.Sure.{left_in, left-quiet, Off, off-below, off-above}
use Rattle.undoing.proofs.Lessening.{due-left}
use Rattle.undoing.proofs.Shrinking.{Stretch, fewer-off, fewer-on, surely-range}
use Rattle.undoing.proofs.Finding.{has_back, back_part, back_at, backs, back-spans, Shape, shape-run, shape-quiet, turned-shape, Inside, Runs, find}
use Rattle.undoing.proofs.Locating.{Located, located}

-- one of the arms of a pick
part-arm : {f : ℕ → ℕ} {l : Acts} {c t : ℕ} → KnowsIn f l c → Arms true l → is_part l c t ≡ true → f t ≡ 255
unfolding is_part
part-arm knows-none r h = absurd (false≢true h)
part-arm {f} {t = t} (knows_more {a = act own within} {l} {c} (knows x n r₁ y) z) r h =
    or_case (eqb c t) (is_part l (c + size (act own within)) t) h (λ e. subst (λ (i : ℕ). f i ≡ 255) (eqb-true c t e) (x ∙ arm-kind own r.0)) (λ e. part-arm z r.1 e)

-- a step of an activity that acts is its own
mutual
  unfolding acts

  owns-self : {ms : List ℕ} {f : ℕ → ℕ} {a : Act} {k t : ℕ} {b : Bool} → Knows f a k → Waits ms a k t b → acts (f t) ≡ true → owns_in a k t t ≡ true
  owns-self {f = f} {t = t} (knows {own} {within} {k} x n r y) (waits-itself e q) h =
      let z : acts (kind own) ≡ true = ap acts (sym x) ∙ subst (λ (i : ℕ). acts (f i) ≡ true) (sym e) h in
      owns-itself t t own within k e ∙ rw (eq-eqb k t e, z)
  owns-self {f = f} {t = t} (knows {own} {within} {k} x n r y) (waits-within e w) h =
      decide (is_pick own && is_part within (k + 1) t)
      (λ d. both (is_pick own) (is_part within (k + 1) t) d (λ u v. absurd (false≢true (sym (ap acts (part-arm y (subst (λ (z : Bool). Arms z within) u r) v)) ∙ h))))
      (λ d. owns-within t t own within k (λ i. omega arith) d ∙ owns-self-in y w h)

  owns-self-in : {ms : List ℕ} {f : ℕ → ℕ} {l : Acts} {c t : ℕ} {b : Bool} → KnowsIn f l c → WaitsIn ms l c t b → acts (f t) ≡ true → owns_among l c t t ≡ true
  owns-self-in {ms = ms} {f = f} {t = t} {b = b} (knows-none {c = c}) z h = elim z [ ]
  owns-self-in {t = t} (knows_more {a} {l} {c} x y) (waits-first u w) h = owns-first t t a l c (lt-ltb t (c + size a) u) ∙ owns-self x w h
  owns-self-in {t = t} (knows_more {a} {l} {c} x y) (waits-later u w) h = owns-later t t a l c (le-ltb t (c + size a) u) ∙ owns-self-in y w h

owns-awaited : (p : Plan) (h : Promised p) (ms : List ℕ) (t : ℕ) → Awaited p ms t → acts (kind_at p t) ≡ true → owns_at p t t ≡ true
unfolding owns_at
owns-awaited p h ms t (in-body e w) a = rw (owns_at, lt-ltb t (size p.body) e) (owns-self (body-knows p h) w a)
owns-awaited p h ms t (in-fault e w) a = rw (owns_at, le-ltb t (size p.body) e) (owns-self (fault-knows p h) w a)

-- how the body of an order that stands stands
pub standing-shape : (p : Plan) (o : Order) → Standing p o → Shape o.marks p.body 0
standing-shape p o st = go st.runs
  where
    go : Running (root_of p) o.marks o.root → Shape o.marks p.body 0
    go (scope_live d r q) = shape-run r
    go (scope-done d r q) = shape-quiet r
    go (scope-turned t) = turned-shape t

-- out of a stretch or in it
in-or-off : {P : Type 0} (t k n : ℕ) → ((k ≤ t) × (t < k + n) → P) → (Off t k n → P) → P
in-or-off t k n f g =
    decide (ltb t k) (λ e. g (off-below t k n (ltb-true t k e)))
    (λ e. decide (ltb t (k + n)) (λ d. f (ltb-false t k e, ltb-true t (k + n) d)) (λ d. g (off-above t k n (ltb-false t (k + n) d))))

size-one : (a : Act) → 1 ≤ size a
unfolding size
size-one (act own within) = omega arith

module _ (p : Plan) (h : Promised p) (e t : ℕ) (takes : some (eqb t) (back_of p e) ≡ true) where
  abbrev pub part : Act
  part = back_part p.body 0 e

  abbrev pub first : ℕ
  first = back_at p.body 0 e

  has : has_back p.body 0 e ≡ true
  has = (located p h e t takes).0

  pub its : Located p e (backs p.body 0 e)
  its = (located p h e t takes).1

  -- it is to come
  abbrev pub is_left : List ℕ → Bool
  is_left ms = some (eqb t) (left_in part first ms)

  sure : some (eqb t) (surely part first) ≡ true
  unfolding back_of
  sure = ap (some (eqb t)) (sym its.sure) ∙ takes

  -- no scope stands in it
  plain : (j : ℕ) → first ≤ j → j < first + size part → is_scope_kind (kind_at p j) ≡ false
  plain j x y = decide (is_scope_kind (kind_at p j)) (λ s. absurd (false≢true (sym (remedy-names its.sits j x y) ∙ plan-named p j s))) (λ s. s)

  runs : (o : Order) (k : ℕ) → Standing p o → Awaited p o.marks k → Inside k (backs p.body 0 e) → Runs o.marks k (backs p.body 0 e)
  runs o k st (in-body x w) i = find h.seat.body (standing-shape p o st) w e has i
  runs o k st (in-fault x w) i = let r = back-spans h.seat.body e has in absurd (omega arith)

  -- where it is the step, it was to come
  pub own-left : (o : Order) → Standing p o → Awaited p o.marks t → is_left o.marks ≡ true
  own-left o st w =
      let r = runs o t st w (surely-range part first t sure) in due-left part first t false r.waits refl r.runs sure

  not_in : (n y : ℕ) (b : Bool) → eqb n 7 ≡ false → y ≡ active → goes_in n y b ≡ true → ⊥
  unfolding goes_in
  not_in n y b s d g = false≢true (rw (s, d, and-false) at g)

  module _ (actor : Actor) (k : ℕ) (o o' : Order) (like : Alike p o o') (w : Awaited p o.marks k) (st : Standing p o) (live : is_live (acted actor p k o').order ≡ true) where
    m : Moved
    m = acted actor p k o'

    went : Steps (kind_at p) (owns_at p k) 0 o (record { result = running; order = (acted actor p k o').order; log = (acted actor p k o').log })
    went =
        steps-from (kind_at p) (owns_at p k) o' o like.marks
        (order-steps (kind_at p) p (body-knows p h) (fault-knows p h) actor k o' (subst (λ (ms : List ℕ). size p.body + size p.fault ≤ length ms) (sym like.marks) st.many) live)

    stretch : Stretch (kind_at p) (lead_at p) (owns_at p k) k (acted actor p k o').log o.marks (acted actor p k o').order.marks (steps-fine p h actor k o') first (size part)
    stretch =
        record {
          ups = λ j x y b u. decide (owns_at p k j)
              (λ d. awaited-up k j p (body-knows p h) (fault-knows p h) w d)
              (λ d. (went.keeps j (plain j x y) d b u).0);
          still = λ j x y b s d. let u : Up (acted actor p k o').order.marks j = ap (λ (v : ℕ). eqb v idle) d in
              decide (owns_at p k j)
              (λ c. absurd (not_in (kind_at p j) (get_or (acted actor p k o').order.marks j 0) (has_began (j + 1) (acted actor p k o').log) s d (went.its j (plain j x y) c b u)))
              (λ c. (sym ((went.keeps j (plain j x y) c b u).1 s) ∙ d, c));
        }

    pub time-fewer : has_began first (acted actor p k o').log ≡ false → is_left (acted actor p k o').order.marks ≡ true → (is_left o.marks ≡ true) × (eqb t k ≡ false)
    time-fewer b i =
        in-or-off k first (size part)
        (λ n. let r = runs o k st w n in
        fewer-on (kind_at p) (lead_at p) (owns_at p k) k (acted actor p k o').log o.marks (acted actor p k o').order.marks (steps-fine p h actor k o')
        part first its.leads its.knows (remedy-bare its.sits) stretch (owns-awaited p h o.marks k w) r.runs r.waits refl b t i)
        (λ n. fewer-off (kind_at p) (lead_at p) (owns_at p k) k (acted actor p k o').log o.marks (acted actor p k o').order.marks (steps-fine p h actor k o')
        its.leads its.knows (remedy-bare its.sits) stretch n b t i)

  -- with an order that starts it is to come only where the undo part began
  pub start-fewer : has_began first (begun_order p).log ≡ false → is_left (started_order p).marks ≡ true → ⊥
  unfolding started_order some begun_order
  start-fewer b i =
      let t₀ = first + size part in
      let fine : Fine (lead_at p) t₀ (begun_order p).log = begin-fine (lead_at p) t₀ (lb p h) (body-lead p 0 (omega (arith, size-one p.body)) ∙ lead-here (lead_at p) p.body 0 alone) no_order.marks in
      let stretch : Stretch (kind_at p) (lead_at p) (λ j. false) t₀ (begun_order p).log no_order.marks (begun_order p).marks fine first (size part)
      = record { ups = λ j x y c u. stay-up ((start-began p h).stays j c) u; still = λ j x y c s d. (sym (((start-began p h).stays j c).same (ap (λ (v : ℕ). eqb v idle) d)) ∙ d, refl) } in
      let z = fewer-off (kind_at p) (lead_at p) (λ j. false) t₀ (begun_order p).log no_order.marks (begun_order p).marks fine
      its.leads its.knows (remedy-bare its.sits) stretch (off-above t₀ first (size part) (omega arith)) b t i in
      false≢true (sym (ap (some (eqb t)) (left-quiet part first no_order.marks (idle-marks p h first (size part)))) ∙ z.0)
