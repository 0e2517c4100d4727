-- What a step begins it begins entirely and truly, also where it ends the order, over any run. Assumes nothing.
use Prim.Native.Nat.{ℕ, zero, suc, ◌+◌, ◌≤◌, ◌<◌}
use native.Mathlib.Omega.{arith}
use mathlib.Core.Path.{◌≡◌, refl, sym, ap, subst, ◌∙◌}
use mathlib.Core.Bool.{Bool, true, false, cond, not, ◌&&◌, ◌||◌, false≢true, or-true}
use mathlib.Core.List.{List, [], ◌∷◌, ◌++◌}
use lib.ListN.{length, get_or}
use lib.Dec.{eqb, ltb, leb}
use borrow.Author.Tests.{eqb-true, eqb-false, eq-eqb, le-leb, ltb-true, ltb-false, not-true}
use Rattle.plan.specs.Found.{Found, found}
use Rattle.plan.specs.Read.{read_plan}
use Rattle.plan.specs.Tree.{Own, kind, Act, act, Acts, none, more, Plan, size, sizes, is_scope}
use Rattle.plan.proofs.Limits.{accepted-is-within}
use Rattle.order.specs.declared.Order.{Order}
use Rattle.order.specs.declared.End.{End}
use Rattle.order.specs.declared.End.TheVariants.{None, Well, Handled, Failed, Left}
use Rattle.machine.specs.declared.Message.{Message}
use Rattle.machine.specs.declared.State.{State}
use Rattle.machine.specs.declared.Tally.{Tally}
use Rattle.order.specs.Lists.{every, some}
use Rattle.order.specs.State.{root, idle, done, halted, withdrawing, mark_at, is_live, no_order, going}
use Rattle.machine.specs.State.{fresh}
use Rattle.machine.specs.Limits.{root_in_limits}
use Rattle.order.specs.Event.{Event, started, began, closed, faulted, stopped, ended, raised, left}
use Rattle.order.specs.declared.Way.{Way as Result}
use Rattle.order.specs.declared.Way.TheVariants.{Running as running, Over as over, Raising as raising, Leaving as leaving, Undone as undone, UndoRaising as undo_raising}
use Rattle.order.specs.Begin.{begin}
use Rattle.order.specs.Scope.{Outcome, root_of}
use Rattle.order.specs.Acting.{step_root, end_of, moved_to, begun_order, started_order, Actor, its_own, acted}
use Rattle.machine.specs.Calls.{loaded_as, load, post, collect, Stepped, doing_at, step, Call, posting, collecting, stepping}
use Rattle.undoing.specs.History.{log_of}
use Rattle.undoing.specs.Demand3.{none_now}
use Rattle.undoing.specs.Ties.{is_taken}
use Rattle.undoing.specs.Orderly.{is_began_of}
use Rattle.undoing.specs.Begun.{kind_at, lasts, owns_at, has_began, Taken, is_marked, numbers, of_each, taken_by, steps_taken, BegunTruly}
use Rattle.undoing.specs.Entirely.{of_all, BegunTrulyEver, times, Turn, apart, along, behind, turn_in, turn_among, turn_first, turn_behind, turn_at, suits, is_entire, BegunEntirely}
use Rattle.undoing.proofs.Parts.{both, decide, every_append}
use Rattle.undoing.proofs.Marks.{Quiet, quiet-part, turned-not-open}
use Rattle.undoing.proofs.Orders.{moment_of, onto}
use Rattle.undoing.proofs.Places.{first-of, second-of}
use Rattle.undoing.proofs.Planning.{Formed, formed-part, formed-scope, Promised, promised}
use Rattle.undoing.proofs.Scoping.{scope_live, scope-done, scope-turned, Running, StepsAs}
use Rattle.undoing.proofs.Roots.{Awaited, Standing}
use Rattle.undoing.proofs.Roots as roots
use Rattle.undoing.proofs.Slots.{standing-live, Alike, taking-alike, alike-awaited, alike-stands, alike-holds, order-starts}
use Rattle.undoing.proofs.Judged.{root-mild}
use Rattle.undoing.proofs.EachTime.{time, OfTimes, OfStarts, each-time}
use Rattle.undoing.proofs.Moves.{HoldsAt}
use Rattle.undoing.proofs.Happening.{order_in, with_message, Happens, nothing-here, goes-here, starts-here, step-happens}
use Rattle.undoing.proofs.Demanded.{step_after}
use Rattle.undoing.proofs.Truly.{began-in, Up, Knows, Began}
use Rattle.undoing.proofs.Keeping as keeping
use Rattle.undoing.proofs.Lasting.{is_raising}
use Rattle.undoing.proofs.Scoping as scoping
use Rattle.undoing.proofs.BegunTold.{body-knows, fault-knows, start-began}
use Rattle.undoing.proofs.Entire.{Two, times-append, times-event, Even, Row, Rows, First, Node, Holds, HoldsIn, no, holds-in-same, holds-in-append, Starts, Named, begin-starts}
use Rattle.undoing.proofs.Entering.{is_leaving, allow, Wide, wide-like, wide-zero, wide-append, InList, list-first, Steps, whole, root-at}

-- the laws of the tree, as the test has them
module _ (t : ℕ) (l : List Event) where
  -- each of a list suits
  abbrev Suit : Turn → Acts → (c : ℕ) → Type 0
  Suit q none c = Unit {0}
  Suit q (more a r) c = Two (suits q t c l ≡ true) (Suit q r (c + size a))

  suit-apart : (r : Acts) (c : ℕ) → Suit apart r c
  unfolding suits
  suit-apart none c = tt
  suit-apart (more a r) c = record { one = refl; other = suit-apart r (c + size a) }

  suit-along : (k : ℕ) (r : Acts) (c : ℕ) → Even l (times k l) r c → Suit (along k) r c
  unfolding suits
  suit-along k none c h = tt
  suit-along k (more a r) c h = record { one = eq-eqb (times c l) (times k l) h.one; other = suit-along k r (c + size a) h.other }

  suit-kind : (b : Bool) (k : ℕ) (r : Acts) (c : ℕ) → (b ≡ true → Even l (times k l) r c) → Suit (cond b (along k) apart) r c
  suit-kind true k r c h = suit-along k r c (h refl)
  suit-kind false k r c h = suit-apart r c

  mutual
    unfolding Holds turn_in suits

    suits-in : (a : Act) (k j : ℕ) (q : Turn) → Holds (allow t) l a k → suits q t k l ≡ true → suits (turn_in a k j q) t j l ≡ true
    suits-in (act own within) k j q h s =
        decide (eqb k j)
        (λ e. subst (λ (z : Turn). suits z t j l ≡ true) (sym (first-of (eqb k j) q deep (turn_in (act own within) k j q) refl e)) (subst (λ (i : ℕ). suits q t i l ≡ true) (eqb-true k j e) s))
        (λ e. subst (λ (z : Turn). suits z t j l ≡ true) (sym (second-of (eqb k j) q deep (turn_in (act own within) k j q) refl e))
        (below (λ d. suits-rows within (k + 1) j k h.rest (h.rows d)) (λ d. suits-first within (k + 1) j k h.rest (h.first d))
        (suits-among within (k + 1) j (cond (eqb (kind own) 9) (along k) apart) h.rest (suit-kind (eqb (kind own) 9) k within (k + 1) h.even))))
      where
        plain : Turn
        plain = turn_among within (k + 1) j (cond (eqb (kind own) 9) (along k) apart)

        rest : Turn
        rest = elim (is_scope own) [ true ↦ turn_first within (k + 1) j (along k) | false ↦ plain ]

        deep : Turn
        deep = elim (eqb (kind own) 8) [ true ↦ turn_behind within (k + 1) j (along k) | false ↦ rest ]

        below : (eqb (kind own) 8 ≡ true → suits (turn_behind within (k + 1) j (along k)) t j l ≡ true) → (is_scope own ≡ true → suits (turn_first within (k + 1) j (along k)) t j l ≡ true)
            → suits plain t j l ≡ true → suits deep t j l ≡ true
        below x y z =
            decide (eqb (kind own) 8)
            (λ e. subst (λ (z : Turn). suits z t j l ≡ true) (sym (first-of (eqb (kind own) 8) (turn_behind within (k + 1) j (along k)) rest deep refl e)) (x e))
            (λ e. subst (λ (z : Turn). suits z t j l ≡ true) (sym (second-of (eqb (kind own) 8) (turn_behind within (k + 1) j (along k)) rest deep refl e))
            (decide (is_scope own)
            (λ d. subst (λ (z : Turn). suits z t j l ≡ true) (sym (first-of (is_scope own) (turn_first within (k + 1) j (along k)) plain rest refl d)) (y d))
            (λ d. subst (λ (z : Turn). suits z t j l ≡ true) (sym (second-of (is_scope own) (turn_first within (k + 1) j (along k)) plain rest refl d)) z)))

    suits-among : (r : Acts) (c j : ℕ) (q : Turn) → HoldsIn (allow t) l r c → Suit q r c → suits (turn_among r c j q) t j l ≡ true
    suits-among none c j q h s = refl
    suits-among (more a r) c j q h s =
        decide (ltb j (c + size a))
        (λ e. subst (λ (z : Turn). suits z t j l ≡ true) (sym (first-of (ltb j (c + size a)) (turn_in a c j q) (turn_among r (c + size a) j q) (turn_among (more a r) c j q) refl e)) (suits-in a c j q h.one s.one))
        (λ e. subst (λ (z : Turn). suits z t j l ≡ true) (sym (second-of (ltb j (c + size a)) (turn_in a c j q) (turn_among r (c + size a) j q) (turn_among (more a r) c j q) refl e)) (suits-among r (c + size a) j q h.other s.other))

    suits-first : (r : Acts) (c j k : ℕ) → HoldsIn (allow t) l r c → First l (times k l) r c → suits (turn_first r c j (along k)) t j l ≡ true
    suits-first none c j k h s = refl
    suits-first (more a r) c j k h s =
        decide (ltb j (c + size a))
        (λ e. subst (λ (z : Turn). suits z t j l ≡ true) (sym (first-of (ltb j (c + size a)) (turn_in a c j (along k)) (turn_among r (c + size a) j apart) (turn_first (more a r) c j (along k)) refl e)) (suits-in a c j (along k) h.one (eq-eqb (times c l) (times k l) s)))
        (λ e. subst (λ (z : Turn). suits z t j l ≡ true) (sym (second-of (ltb j (c + size a)) (turn_in a c j (along k)) (turn_among r (c + size a) j apart) (turn_first (more a r) c j (along k)) refl e)) (suits-among r (c + size a) j apart h.other (suit-apart r (c + size a))))

    suits-rows : (r : Acts) (c j k : ℕ) → HoldsIn (allow t) l r c → Rows (allow t) l (times k l) r c → suits (turn_behind r c j (along k)) t j l ≡ true
    suits-rows none c j k h s = refl
    suits-rows (more a r) c j k h s =
        decide (ltb j (c + size a))
        (λ e. subst (λ (z : Turn). suits z t j l ≡ true) (sym (first-of (ltb j (c + size a)) (turn_in a c j (along k)) (turn_behind r (c + size a) j (behind c)) (turn_behind (more a r) c j (along k)) refl e)) (suits-in a c j (along k) h.one (eq-eqb (times c l) (times k l) s.one)))
        (λ e. subst (λ (z : Turn). suits z t j l ≡ true) (sym (second-of (ltb j (c + size a)) (turn_in a c j (along k)) (turn_behind r (c + size a) j (behind c)) (turn_behind (more a r) c j (along k)) refl e)) (suits-row r (c + size a) j c h.other s.other))

    suits-row : (r : Acts) (c j i : ℕ) → HoldsIn (allow t) l r c → Row (allow t) l i r c → suits (turn_behind r c j (behind i)) t j l ≡ true
    suits-row none c j i h s = refl
    suits-row (more a r) c j i h s =
        decide (ltb j (c + size a))
        (λ e. subst (λ (z : Turn). suits z t j l ≡ true) (sym (first-of (ltb j (c + size a)) (turn_in a c j (behind i)) (turn_behind r (c + size a) j (behind c)) (turn_behind (more a r) c j (behind i)) refl e)) (suits-in a c j (behind i) h.one (le-leb (times c l) (times i l + allow t i c) s.one)))
        (λ e. subst (λ (z : Turn). suits z t j l ≡ true) (sym (second-of (ltb j (c + size a)) (turn_in a c j (behind i)) (turn_behind r (c + size a) j (behind c)) (turn_behind (more a r) c j (behind i)) refl e)) (suits-row r (c + size a) j c h.other s.other))

  suits-plan : (p : Plan) (j : ℕ) → HoldsIn (allow t) l (more p.body (more p.fault none)) 0 → suits (turn_at p j) t j l ≡ true
  unfolding turn_at Holds suits
  suits-plan p j h =
      decide (ltb j (size p.body))
      (λ e. subst (λ (z : Turn). suits z t j l ≡ true) (sym (first-of (ltb j (size p.body)) (turn_in p.body 0 j apart) (turn_in p.fault (size p.body) j apart) (turn_at p j) refl e)) (suits-in p.body 0 j apart h.one refl))
      (λ e. subst (λ (z : Turn). suits z t j l ≡ true) (sym (second-of (ltb j (size p.body)) (turn_in p.body 0 j apart) (turn_in p.fault (size p.body) j apart) (turn_at p j) refl e))
      (suits-in p.fault (size p.body) j apart (subst (λ (c : ℕ). Holds (allow t) l p.fault c) (omega arith) h.other.one) refl))

-- none begins, as the other test has it
times_none : (j : ℕ) (l : List Event) → times j l ≡ 0 → has_began j l ≡ false
unfolding times some
times_none j [] e = refl
times_none j (x ∷ l) e = decide (is_began_of (eqb j) x) (λ d. absurd (let z : 1 + times j l ≡ 0 = rw d at e in omega arith)) (λ d. rw (d, times_none j l (let z : 0 + times j l ≡ 0 = rw d at e in omega arith)))

-- what is no arm
pub formed-named : (f : ℕ → ℕ) {h : Bool} {a : Act} → Formed h false a → Named f a
unfolding kind
formed-named f (formed-part s i g y) = i
formed-named f (formed-scope few many x y) = refl

-- each number below
pub each_below : (f : ℕ → Bool) (n : ℕ) → ((k : ℕ) → k < n → f k ≡ true) → every f (numbers n) ≡ true
unfolding every numbers
each_below f zero g = refl
each_below f (suc n) g = rw (g n (omega arith), each_below f n (λ k h. g k (omega arith)))

-- and back
below_each : (f : ℕ → Bool) (n : ℕ) → every f (numbers n) ≡ true → (k : ℕ) → k < n → f k ≡ true
unfolding every numbers
below_each f zero e k h = absurd (omega arith)
below_each f (suc n) e k h = both (f n) (every f (numbers n)) e (λ a b. decide (eqb k n) (λ d. subst (λ (i : ℕ). f i ≡ true) (sym (eqb-true k n d)) a) (λ d. below_each f n b k (omega (arith, eqb-false k n d))))

every-apart : {A : Type 0} (f : A → Bool) (l m : List A) → every f (l ++ m) ≡ true → (every f l ≡ true) × (every f m ≡ true)
unfolding every
every-apart f [] m e = (refl, e)
every-apart f (a ∷ l) m e = both (f a) (every f (l ++ m)) e (λ x y. let z = every-apart f l m y in (rw (x, z.0), z.1))

taken-lives : (p : Plan) (f : Plan → Taken → ℕ → Bool) (x : Taken) → is_live x.after ≡ true → every (of_each f p) (x ∷ []) ≡ true
    → every (f p x) (numbers (size p.body + size p.fault)) ≡ true
unfolding every
taken-lives p f x v e = both (every (f p x) (numbers (size p.body + size p.fault))) true (rw v at e) (λ a b. a)

module _ (p : Plan) (h : Promised p) where
  kb : Knows (kind_at p) p.body 0
  kb = body-knows p h

  kf : Knows (kind_at p) p.fault (size p.body)
  kf = fault-knows p h

  -- what a step of an order logs, by how it ends
  order-wide : (actor : Actor) (t : ℕ) (o : Order) → Wide (allow t) (whole (kind_at p) t p) 0 (acted actor p t o).log
  unfolding acted moved_to times is_began_of
  order-wide actor t o = go (end_of (step_root actor p t o))
    where
      w : Steps (kind_at p) (allow t) (whole (kind_at p) t p) 0 (step_root actor p t o)
      w = root-at (kind_at p) t p kb kf (formed-named (kind_at p) h.fault) actor o

      go : (e : End) → Wide (allow t) (whole (kind_at p) t p) 0 (moved_to (step_root actor p t o) e).log
      go None = w.wide
      go Well = wide-like (allow t) ((step_root actor p t o).log ++ (ended root ∷ [])) (λ j. let a = times-append j (step_root actor p t o).log (ended root ∷ []) in let b : times j (ended root ∷ []) ≡ 0 = refl in omega arith) w.wide
      go Handled = w.wide
      go Failed = w.wide
      go Left = w.wide

  start-starts : Starts p.body 0 (begun_order p).log
  unfolding begun_order
  start-starts = begin-starts (kind_at p) kb (formed-named (kind_at p) h.body) no_order.marks

  start-holds : (actor : Actor) (t : ℕ) (o : Order) → HoldsIn (allow t) ((started ∷ (begun_order p).log) ++ (acted actor p t o).log) (whole (kind_at p) t p) 0
  unfolding times is_began_of
  start-holds actor t o =
      holds-in-append no (allow t) (allow t) (λ i j. omega arith) (started ∷ (begun_order p).log) (acted actor p t o).log (whole (kind_at p) t p) 0
      (like (list-first p.body (more p.fault none) 0 (begun_order p).log start-starts).holds) (order-wide actor t o).holds
    where
      like : HoldsIn no (begun_order p).log (whole (kind_at p) t p) 0 → HoldsIn no (started ∷ (begun_order p).log) (whole (kind_at p) t p) 0
      like w = holds-in-same no (begun_order p).log (started ∷ (begun_order p).log) (whole (kind_at p) t p) 0 (record { at = λ j u v. times-event j started (begun_order p).log refl }) w

  -- the only one of a list
  alone-quiet : {ms : List ℕ} (a : Act) (c : ℕ) → Quiet ms c (sizes (more a none)) → Quiet ms c (size a)
  unfolding size
  alone-quiet a c q = quiet-part q (omega arith) (omega arith)

  -- a root that is done has quiet parts
  done-quiets : (ms : List ℕ) (m : ℕ) → m ≡ done → Running (root_of p) ms m → Quiet ms 0 (size p.body) × Quiet ms (size p.body) (size p.fault)
  done-quiets ms m e (scope_live d r q) = absurd (let z : ◌≡◌ {A = ℕ} 1 3 = sym d ∙ e in omega arith)
  done-quiets ms m e (scope-done d r q) = (r, alone-quiet p.fault (size p.body) q)
  done-quiets ms m e (scope-turned t) = absurd (false≢true (sym (turned-not-open t) ∙ rw e))

  -- Where a step ends the order, nothing that lasts begins in it.
  ended-light : (actor : Actor) (t : ℕ) (o : Order) → Awaited p o.marks t → Standing p o → (o.root ≡ halted → ⊥) → (o.root ≡ withdrawing → ⊥) → is_live (acted actor p t o).order ≡ false
      → (k : ℕ) → k < size p.body + size p.fault → lasts (kind_at p k) ≡ true → has_began k (acted actor p t o).log ≡ true → ⊥
  unfolding acted end_of moved_to some is_began_of
  ended-light actor t o a st x y v k n e b = go r.result refl w.comes v b
    where
      r : Outcome
      r = step_root actor p t o

      w : scoping.Steps p (root_of p) (Running (root_of p)) o r
      w = roots.root-steps p actor h.seat t o a st x y

      s : keeping.Steps (kind_at p) (owns_at p t) 0 o r
      s = keeping.root-steps (kind_at p) p kb kf actor t o st.many

      quiet : Quiet r.order.marks 0 (size p.body) → Quiet r.order.marks (size p.body) (size p.fault) → has_began k r.log ≡ true → ⊥
      quiet q z d =
          let u = s.truly k e d in
          false≢true (sym u ∙ ap (λ (m : ℕ). eqb m idle)
          (decide (ltb k (size p.body)) (λ c. q.at k (omega arith) (omega (arith, ltb-true k (size p.body) c))) (λ c. z.at k (ltb-false k (size p.body) c) (omega arith))))

      go : (z : Result) → r.result ≡ z → StepsAs p (root_of p) (Running (root_of p)) o r.log r.order z
          → is_live (moved_to (record { result = z; order = r.order; log = r.log }) (end_of (record { result = z; order = r.order; log = r.log }))).order ≡ false
          → has_began k (moved_to (record { result = z; order = r.order; log = r.log }) (end_of (record { result = z; order = r.order; log = r.log }))).log ≡ true → ⊥
      go running d c v b = by-done (eqb r.order.root done) refl v b
        where
          by-done : (i : Bool) → eqb r.order.root done ≡ i → is_live (moved_to (record { result = running; order = r.order; log = r.log }) (cond i Well None)).order ≡ false
              → has_began k (moved_to (record { result = running; order = r.order; log = r.log }) (cond i Well None)).log ≡ true → ⊥
          by-done true i v b =
              let z = done-quiets r.order.marks r.order.root (eqb-true r.order.root done i) c.0 in
              began-in k r.log (ended root ∷ []) b (λ d. quiet z.0 z.1 d) (λ d. false≢true d)
          by-done false i v b =
              false≢true (sym v ∙ standing-live p r.order (record { many = omega (arith, st.many, w.apart.many); runs = c.0; going = eqb-false r.order.root done i }))
      go over d c v b = quiet c.1 (alone-quiet p.fault (size p.body) c.2) b
      go (raising x) d c v b = false≢true (sym (s.quits (ap is_raising d) k) ∙ b)
      go leaving d c v b = false≢true (sym (times_none k r.log ((root-at (kind_at p) t p kb kf (formed-named (kind_at p) h.fault) actor o).leaves (ap is_leaving d) k)) ∙ b)
      go undone d c v b = c
      go (undo_raising x) d c v b = c

  not-marked : (x : Taken) (k : ℕ) → (lasts (kind_at p k) ≡ true → has_began k x.log ≡ true → ⊥) → is_marked p x k ≡ true
  unfolding is_marked
  not-marked x k g = decide (lasts (kind_at p k)) (λ l. decide (has_began k x.log) (λ b. absurd (g l b)) (λ b. rw (l, b))) (λ l. rw l)

  is-marked : (x : Taken) (k : ℕ)
      → (lasts (kind_at p k) ≡ true → has_began k x.log ≡ true → (not (eqb (mark_at k x.after) idle) || (not (is_live x.before) && not (eqb (mark_at k (started_order p)) idle))) ≡ true)
      → is_marked p x k ≡ true
  unfolding is_marked
  is-marked x k g = decide (lasts (kind_at p k)) (λ l. decide (has_began k x.log) (λ b. rw (l, b, g l b)) (λ b. rw (l, b))) (λ l. rw l)

  -- Each time. Where the order lives on, what begins is marked; where it ends, nothing that lasts begins.
  live-steps : (actor : Actor) (t : ℕ) (o o' : Order) → Alike p o o' → Standing p o → is_live (acted actor p t o').order ≡ true
      → keeping.Steps (kind_at p) (owns_at p t) 0 o (record { result = running; order = (acted actor p t o').order; log = (acted actor p t o').log })
  live-steps actor t o o' like st v =
      keeping.steps-from (kind_at p) (owns_at p t) o' o like.marks
      (keeping.order-steps (kind_at p) p kb kf actor t o' (subst (λ (ms : List ℕ). size p.body + size p.fault ≤ length ms) (sym like.marks) st.many) v)

  light-so : (actor : Actor) (t : ℕ) (o o' : Order) (past : List Event) → Alike p o o' → Awaited p o.marks t → Standing p o → HoldsAt p (moment_of p o) past → is_live (acted actor p t o').order ≡ false
      → (k : ℕ) → k < size p.body + size p.fault → lasts (kind_at p k) ≡ true → has_began k (acted actor p t o').log ≡ true → ⊥
  light-so actor t o o' past like a st g =
      let d = root-mild p o' past (alike-holds like past g) in
      ended-light actor t o' (alike-awaited like t a) (alike-stands p o o' like st) d.0 d.1

  truly-time : OfTimes p (of_all is_marked p)
  truly-time actor t o o' past like a st g =
      let x = time t o [] (acted actor p t o') in
      each_below (is_marked p x) (size p.body + size p.fault) (λ k n. decide (is_live (acted actor p t o').order)
      (λ v. is-marked x k (λ c b. rw ((live-steps actor t o o' like st v).truly k c b)))
      (λ v. not-marked x k (λ c b. light-so actor t o o' past like a st g v k n c b)))

  truly-start : OfStarts p (of_all is_marked p)
  unfolding some is_began_of started_order
  truly-start t m o past z n a =
      let o₀ = started_order p in
      let o' = with_message p t m o₀ in
      let l = started ∷ (begun_order p).log in
      let x = time t o l (acted its_own p t o') in
      let like = taking-alike p (doing_at p t) m o₀ in
      let b = order-starts p h t past n a in
      each_below (is_marked p x) (size p.body + size p.fault) (λ k i. is-marked x k (λ c w.
      began-in k (begun_order p).log (acted its_own p t o').log w
      (λ e. rw (z, (start-began p h).truly k c e, or-true))
      (λ e. decide (is_live (acted its_own p t o').order)
      (λ v. rw ((live-steps its_own t o₀ o' like b.1 v).truly k c e))
      (λ v. absurd (light-so its_own t o₀ o' (onto l past) like a b.1 b.2 v k i c e)))))

  entire-time : OfTimes p (of_all is_entire p)
  unfolding is_entire
  entire-time actor t o o' past like a st g =
      let x = time t o [] (acted actor p t o') in
      each_below (is_entire p x) (size p.body + size p.fault) (λ k n. suits-plan t _ p k (order-wide actor t o').holds)

  entire-start : OfStarts p (of_all is_entire p)
  unfolding is_entire
  entire-start t m o past z n a =
      let o' = with_message p t m (started_order p) in
      let x = time t o (started ∷ (begun_order p).log) (acted its_own p t o') in
      each_below (is_entire p x) (size p.body + size p.fault) (λ k i. suits-plan t _ p k (start-holds its_own t o'))

-- No beginning is only claimed, also in the step that ends the order,
pub begun-truly-ever : BegunTrulyEver
unfolding BegunTrulyEver
begun-truly-ever = each-time (of_all is_marked) truly-time truly-start

-- and what begins begins entirely.
pub begun-entirely : BegunEntirely
unfolding BegunEntirely
begun-entirely = each-time (of_all is_entire) entire-time entire-start
