-- Whatever is marked in a live order has something in it that awaits its step. Assumes nothing.
use Prim.Native.Nat.{ℕ, zero, suc, ◌+◌, ◌≤◌, ◌<◌}
use native.Mathlib.Omega.{arith}
use mathlib.Core.Path.{◌≡◌, refl, sym, ap, subst, ◌∙◌}
use mathlib.Core.Bool.{Bool, true, false, ◌&&◌, ◌||◌, false≢true, or-true}
use mathlib.Core.List.{List, [], ◌∷◌, ◌++◌, append-nil}
use lib.ListN.{get_or}
use lib.Dec.{eqb, ltb, leb}
use borrow.Author.Tests.{eqb-true, eqb-false, eq-eqb, ne_eqb, lt-ltb, le-ltb, ltb-true, ltb-false, le-leb, leb-true}
use Rattle.plan.specs.Tree.{Own, kind, Act, act, Acts, none, more, Plan, size, sizes, scope, is_pick}
use Rattle.plan.proofs.Limits.{accepted-is-within}
use Rattle.order.specs.declared.Order.{Order}
use Rattle.order.specs.Event.{Event}
use Rattle.order.specs.Lists.{every, some}
use Rattle.order.specs.State.{idle, active, is_live}
use Rattle.order.specs.Scope.{root_of}
use Rattle.order.specs.Taking.{act_in, act_among, act_at}
use Rattle.machine.specs.Fit.{Ready, ready_in, ready_among, ready_of, awaits, doing_of}
use Rattle.undoing.specs.Ties.{is_step}
use Rattle.undoing.specs.Begun.{numbers}
use Rattle.undoing.specs.Entirely.{has_next, AllGoOn}
use Rattle.undoing.proofs.Parts.{both, decide, every_append, some-append}
use Rattle.undoing.proofs.Places.{first-of, second-of}
use Rattle.undoing.proofs.Truly.{Up}
use Rattle.undoing.proofs.Marks.{trio, Quiet, Run, run-awaits, run-one, run-all, run-body, run-done, run-turned, One, one-here, one_later, All, all_none, all-run, all_quiet, Nth, nth_here, nth-later, Turned, turned-waits, turned-undoes, turned-heals, Stopped, stopped-part, stopped-quiet, stopped-scope, StoppedIn, stopped_none, stopped_more, Undoing, undoing-part, undoing-scope, undoing-through, UndoingIn, undoing-here, undoing-later, quiet-part}
use Rattle.undoing.proofs.Planning.{Formed, formed-part, formed-scope, FormedIn, formed-none, formed-more, Promised, promised}
use Rattle.undoing.proofs.Scoping.{scope_live, scope-done, scope-turned, Running}
use Rattle.undoing.proofs.Roots.{Standing}
use Rattle.undoing.proofs.Slots.{Slot, slot-free, slot-live}
use Rattle.undoing.proofs.Told.{slot-after}
use Rattle.undoing.proofs.Awaiting.{stepping, ready-is, ready-some, run-waits}
use Rattle.undoing.proofs.EntirelyTold.{each_below}

-- the step of a number from k on, n of them
abbrev In : (k n : ℕ) → Ready → Bool
In k n r = leb k r.activity && ltb r.activity (k + n)

-- what is ready in an activity has its numbers
module _ (ms : List ℕ) where
  in-wider : (k n c m : ℕ) (l : List Ready) → k ≤ c → c + m ≤ k + n → every (In c m) l ≡ true → every (In k n) l ≡ true
  unfolding every
  in-wider k n c m [] h g e = refl
  in-wider k n c m (r ∷ l) h g e =
      both (In c m r) (every (In c m) l) e (λ a b. both (leb c r.activity) (ltb r.activity (c + m)) a (λ x y.
      rw (le-leb k r.activity (omega (arith, leb-true c r.activity x)), lt-ltb r.activity (k + n) (omega (arith, ltb-true r.activity (c + m) y)), in-wider k n c m l h g b)))

  mutual
    unfolding ready_in every size

    ready-range : (a : Act) (k : ℕ) (b : Bool) → every (In k (size a)) (ready_in a k b ms) ≡ true
    ready-range (act own within) k b =
        let w = in-wider k (1 + sizes within) (k + 1) (sizes within) (ready_among within (k + 1) (is_pick own && eqb (get_or ms k 0) active) ms) (omega arith) (omega arith) (ready-in-range within (k + 1) (is_pick own && eqb (get_or ms k 0) active)) in
        decide (awaits own b (get_or ms k 0))
        (λ t. subst (λ (l : List Ready). every (In k (1 + sizes within)) l ≡ true) (sym (ready-is ms own within k b true t)) (rw (le-leb k k (omega arith), lt-ltb k (k + (1 + sizes within)) (omega arith), w)))
        (λ t. subst (λ (l : List Ready). every (In k (1 + sizes within)) l ≡ true) (sym (ready-is ms own within k b false t)) w)

    ready-in-range : (l : Acts) (c : ℕ) (b : Bool) → every (In c (sizes l)) (ready_among l c b ms) ≡ true
    ready-in-range none c b = refl
    ready-in-range (more a l) c b =
        every_append (In c (size a + sizes l)) (ready_in a c b ms) (ready_among l (c + size a) b ms)
        (in-wider c (size a + sizes l) c (size a) (ready_in a c b ms) (omega arith) (omega arith) (ready-range a c b))
        (in-wider c (size a + sizes l) (c + size a) (sizes l) (ready_among l (c + size a) b ms) (omega arith) (omega arith) (ready-in-range l (c + size a) b))

  some-both : (f g : Ready → Bool) (l : List Ready) → some f l ≡ true → every g l ≡ true → some (λ r. f r && g r) l ≡ true
  unfolding some every
  some-both f g [] e d = absurd (false≢true e)
  some-both f g (r ∷ l) e d = both (g r) (every g l) d (λ a b. decide (f r) (λ t. rw (t, a)) (λ t. rw (t, some-both f g l (rw t at e) b)))

-- the activity with a number
pub in-here : (a : Act) (k : ℕ) → act_in a k k ≡ a
unfolding act_in
in-here (act own within) k = first-of (eqb k k) (act own within) (act_among within (k + 1) k) (act_in (act own within) k k) refl (eq-eqb k k refl)

pub in_within : (own : Own) (within : Acts) (k j : ℕ) → k < j → act_in (act own within) k j ≡ act_among within (k + 1) j
unfolding act_in
in_within own within k j h = second-of (eqb k j) (act own within) (act_among within (k + 1) j) (act_in (act own within) k j) refl (ne_eqb k j (omega arith))

pub in-first : (a : Act) (l : Acts) (c j : ℕ) → j < c + size a → act_among (more a l) c j ≡ act_in a c j
unfolding act_in
in-first a l c j h = first-of (ltb j (c + size a)) (act_in a c j) (act_among l (c + size a) j) (act_among (more a l) c j) refl (lt-ltb j (c + size a) h)

pub in-later : (a : Act) (l : Acts) (c j : ℕ) → c + size a ≤ j → act_among (more a l) c j ≡ act_among l (c + size a) j
unfolding act_in
in-later a l c j h = second-of (ltb j (c + size a)) (act_in a c j) (act_among l (c + size a) j) (act_among (more a l) c j) refl (le-ltb j (c + size a) h)

module _ (ms : List ℕ) (rs : List Ready) where
  -- what is ready there is among these
  record Among (a : Act) (k : ℕ) : Type 0 where
    free : Bool
    among : (f : Ready → Bool) → some f (ready_in a k free ms) ≡ true → some f rs ≡ true

  record AmongIn (l : Acts) (c : ℕ) : Type 0 where
    free : Bool
    among : (f : Ready → Bool) → some f (ready_among l c free ms) ≡ true → some f rs ≡ true

  among-within : (own : Own) (within : Acts) (k : ℕ) → Among (act own within) k → AmongIn within (k + 1)
  unfolding some
  among-within own within k w =
      record {
        free = is_pick own && eqb (get_or ms k 0) active;
        among = λ f e. w.among f (decide (awaits own w.free (get_or ms k 0))
            (λ t. ap (some f) (ready-is ms own within k w.free true t) ∙ rw (e, or-true))
            (λ t. ap (some f) (ready-is ms own within k w.free false t) ∙ e));
      }

  among_first : (a : Act) (l : Acts) (c : ℕ) → AmongIn (more a l) c → Among a c
  unfolding ready_in
  among_first a l c w = record { free = w.free; among = λ f e. w.among f (some-append f (ready_in a c w.free ms) (ready_among l (c + size a) w.free ms) ∙ rw e) }

  among_later : (a : Act) (l : Acts) (c : ℕ) → AmongIn (more a l) c → AmongIn l (c + size a)
  unfolding ready_in
  among_later a l c w = record { free = w.free; among = λ f e. w.among f (some-append f (ready_in a c w.free ms) (ready_among l (c + size a) w.free ms) ∙ rw (e, or-true)) }

  alone_among : (a : Act) (c : ℕ) → Among a c → AmongIn (more a none) c
  unfolding ready_in
  alone_among a c w = record { free = w.free; among = λ f e. w.among f (subst (λ (l : List Ready). some f l ≡ true) (append-nil (ready_in a c w.free ms)) e) }

  -- a step to come in an activity
  abbrev Comes : ℕ → Act → Type 0
  Comes j a = some (λ r. is_step r.step && In j (size a) r) rs ≡ true

  run-comes : {h r : Bool} {a : Act} {k : ℕ} → Run ms a k → Formed h r a → Among a k → Comes k a
  unfolding stepping
  run-comes {a = a} {k = k} d f w =
      w.among (λ r. is_step r.step && In k (size a) r) (some-both ms (stepping ms) (In k (size a)) (ready_in a k w.free ms) (ready-some ms f k w.free (run-waits ms d)) (ready-range ms a k w.free))

  -- of every number that is marked
  abbrev Each : Act → (k : ℕ) → Type 0
  Each a k = (j : ℕ) → k ≤ j → j < k + size a → Up ms j → Comes j (act_in a k j)

  abbrev EachIn : Acts → (c : ℕ) → Type 0
  EachIn l c = (j : ℕ) → c ≤ j → j < c + sizes l → Up ms j → Comes j (act_among l c j)

  quiet-up : {k n : ℕ} → Quiet ms k n → (j : ℕ) → k ≤ j → j < k + n → Up ms j → ⊥
  quiet-up q j x y u = false≢true (sym u ∙ ap (λ (m : ℕ). eqb m idle) (q.at j x y))

  each-quiet : (a : Act) (k : ℕ) → Quiet ms k (size a) → Each a k
  each-quiet a k q j x y u = absurd (quiet-up q j x y u)

  in-quiet : (l : Acts) (c : ℕ) → Quiet ms c (sizes l) → EachIn l c
  in-quiet l c q j x y u = absurd (quiet-up q j x y u)

  each_more : (a : Act) (l : Acts) (c : ℕ) → Each a c → EachIn l (c + size a) → EachIn (more a l) c
  unfolding size
  each_more a l c f g j x y u =
      decide (ltb j (c + size a))
      (λ t. let z = ltb-true j (c + size a) t in subst (Comes j) (sym (in-first a l c j z)) (f j x z u))
      (λ t. let z = ltb-false j (c + size a) t in subst (Comes j) (sym (in-later a l c j z)) (g j z (omega arith) u))

  each-act : (own : Own) (within : Acts) (k : ℕ) → (Up ms k → Comes k (act own within)) → EachIn within (k + 1) → Each (act own within) k
  unfolding size
  each-act own within k f g j x y u =
      decide (eqb k j)
      (λ t. subst (λ (i : ℕ). Comes i (act_in (act own within) k i)) (eqb-true k j t) (subst (Comes k) (sym (in-here (act own within) k)) (f (subst (λ (i : ℕ). Up ms i) (sym (eqb-true k j t)) u))))
      (λ t. let z : k < j = let w = eqb-false k j t in omega arith in subst (Comes j) (sym (in_within own within k j z)) (g j (omega arith) (omega arith) u))

  -- each of a list has its form
  data Forms : Acts → Type 0 where
    forms-none : Forms none
    forms-more : {h r : Bool} {a : Act} {l : Acts} → Formed h r a → Forms l → Forms (more a l)

  formed-forms : {h r : Bool} {l : Acts} → FormedIn h r l → Forms l
  formed-forms formed-none = forms-none
  formed-forms (formed-more x y) = forms-more x (formed-forms y)

  each-scope : (xs : List ℕ) (z : Bool) (b : Act) (l : Acts) (k : ℕ) → (Up ms k → Comes k (act (scope xs z) (more b l))) → Each b (k + 1) → EachIn l (k + 1 + size b)
      → Each (act (scope xs z) (more b l)) k
  each-scope xs z b l k c x y = each-act (scope xs z) (more b l) k c (each_more b l (k + 1) x y)

  mutual
    unfolding size kind

    run-each : {h r : Bool} {a : Act} {k : ℕ} → Run ms a k → Formed h r a → Among a k → Each a k
    run-each {k = k} (run-awaits s₁ d e q) (formed-part {own = own} {within = within} s i g y) w =
        each-act own within k (λ u. run-comes (run-awaits s₁ d e q) (formed-part s i g y) w) (in-quiet within (k + 1) q)
    run-each {k = k} (run-one s₁ e r) (formed-part {own = own} {within = within} s i g y) w =
        each-act own within k (λ u. run-comes (run-one s₁ e r) (formed-part s i g y) w) (one_each r y (among-within own within k w))
    run-each {k = k} (run-all e r z) (formed-part {own = own} {within = within} s i g y) w =
        each-act own within k (λ u. run-comes (run-all e r z) (formed-part s i g y) w) (all-each r y (among-within own within k w))
    run-each (run-body e r q) (formed-part s i g y) w = absurd (false≢true (sym s))
    run-each (run-done e q) (formed-part s i g y) w = absurd (false≢true (sym s))
    run-each (run-turned e) (formed-part s i g y) w = absurd (false≢true (sym s))
    run-each (run-awaits s d e q) (formed-scope few many x y) w = absurd (false≢true (sym s))
    run-each (run-one s e r) (formed-scope few many x y) w = absurd (false≢true (sym s))
    run-each {k = k} (run-body e r q) (formed-scope {xs = xs} {v = v₀} {b = b} {f = f} {u = u} few many x y) w =
        each-scope xs v₀ b (more f u) k (λ v. run-comes (run-body e r q) (formed-scope few many x y) w)
        (run-each r x (among_first b (more f u) (k + 1) (among-within (scope xs v₀) (trio b f u) k w))) (in-quiet (more f u) (k + 1 + size b) q)
    run-each {k = k} (run-done e q) (formed-scope {xs = xs} {v = v₀} {b = b} {f = f} {u = u} few many x y) w =
        each-scope xs v₀ b (more f u) k (λ v. run-comes (run-done e q) (formed-scope few many x y) w)
        (each-quiet b (k + 1) (quiet-part q (omega arith) (omega arith))) (in-quiet (more f u) (k + 1 + size b) (quiet-part q (omega arith) (omega arith)))
    run-each {k = k} (run-turned t) (formed-scope {xs = xs} {v = v₀} {b = b} {f = f} {u = u} few many x y) w =
        let v = among-within (scope xs v₀) (trio b f u) k w in
        let g = turned-each t x y (among_first b (more f u) (k + 1) v) (among_later b (more f u) (k + 1) v) in
        each-scope xs v₀ b (more f u) k (λ i. run-comes (run-turned t) (formed-scope few many x y) w) g.0 g.1

    one_each : {h r : Bool} {l : Acts} {c : ℕ} → One ms l c → FormedIn h r l → AmongIn l c → EachIn l c
    one_each {c = c} (one-here r q) (formed-more {a = a} {l = l} x y) w = each_more a l c (run-each r x (among_first a l c w)) (in-quiet l (c + size a) q)
    one_each {c = c} (one_later q r) (formed-more {a = a} {l = l} x y) w = each_more a l c (each-quiet a c q) (one_each r y (among_later a l c w))

    all-each : {h r : Bool} {l : Acts} {c : ℕ} → All ms l c → FormedIn h r l → AmongIn l c → EachIn l c
    all-each all_none formed-none w = λ j x y u. absurd (omega arith)
    all-each {c = c} (all-run r z) (formed-more {a = a} {l = l} x y) w = each_more a l c (run-each r x (among_first a l c w)) (all-each z y (among_later a l c w))
    all-each {c = c} (all_quiet q z) (formed-more {a = a} {l = l} x y) w = each_more a l c (each-quiet a c q) (all-each z y (among_later a l c w))

    nth-each : {i : ℕ} {l : Acts} {c : ℕ} → Nth ms i l c → Forms l → AmongIn l c → EachIn l c
    nth-each {c = c} (nth_here r q) (forms-more {a = a} {l = l} x y) w = each_more a l c (run-each r x (among_first a l c w)) (in-quiet l (c + size a) q)
    nth-each {c = c} (nth-later q r) (forms-more {a = a} {l = l} x y) w = each_more a l c (each-quiet a c q) (nth-each r y (among_later a l c w))

    turned-each : {h h₁ r r₁ : Bool} {xs : List ℕ} {m kb kf : ℕ} {b : Act} {l : Acts} → Turned ms xs m b kb l kf → Formed h r b → FormedIn h₁ r₁ l → Among b kb → AmongIn l kf → Each b kb × EachIn l kf
    turned-each {kf = kf} {l = l} (turned-waits e s i q) x y v w = (stopped-each s x v, in-quiet l kf q)
    turned-each {kf = kf} {l = l} (turned-undoes e u q) x y v w = (undoing-each u x v, in-quiet l kf q)
    turned-each {kb = kb} {b = b} (turned-heals e q r) x y v w = (each-quiet b kb q, nth-each r (formed-forms y) w)

    stopped-each : {h r : Bool} {a : Act} {k : ℕ} → Stopped ms a k → Formed h r a → Among a k → Each a k
    stopped-each {k = k} (stopped-part s₁ e l) (formed-part {own = own} {within = within} s i g y) w =
        each-act own within k (λ u. absurd (false≢true (sym u ∙ rw e))) (stopped-in-each l y (among-within own within k w))
    stopped-each (stopped-scope t) (formed-part s i g y) w = absurd (false≢true (sym s))
    stopped-each {a = a} {k = k} (stopped-quiet q) x w = each-quiet a k q
    stopped-each (stopped-part s e l) (formed-scope few many x y) w = absurd (false≢true (sym s))
    stopped-each {k = k} (stopped-scope t) (formed-scope {xs = xs} {v = v₀} {b = b} {f = f} {u = u} few many x y) w =
        let v = among-within (scope xs v₀) (trio b f u) k w in
        let g = turned-each t x y (among_first b (more f u) (k + 1) v) (among_later b (more f u) (k + 1) v) in
        each-scope xs v₀ b (more f u) k (λ i. run-comes (run-turned t) (formed-scope few many x y) w) g.0 g.1

    stopped-in-each : {h r : Bool} {l : Acts} {c : ℕ} → StoppedIn ms l c → FormedIn h r l → AmongIn l c → EachIn l c
    stopped-in-each stopped_none formed-none w = λ j x y u. absurd (omega arith)
    stopped-in-each {c = c} (stopped_more s z) (formed-more {a = a} {l = l} x y) w = each_more a l c (stopped-each s x (among_first a l c w)) (stopped-in-each z y (among_later a l c w))

    undoing-each : {h r : Bool} {a : Act} {k : ℕ} → Undoing ms a k → Formed h r a → Among a k → Each a k
    undoing-each {k = k} (undoing-part s₁ e l) (formed-part {own = own} {within = within} s i g y) w =
        each-act own within k (λ u. absurd (false≢true (sym u ∙ rw e))) (undoing-in-each l y (among-within own within k w))
    undoing-each (undoing-scope e n r) (formed-part s i g y) w = absurd (false≢true (sym s))
    undoing-each (undoing-through e r q) (formed-part s i g y) w = absurd (false≢true (sym s))
    undoing-each (undoing-part s e l) (formed-scope few many x y) w = absurd (false≢true (sym s))
    undoing-each {k = k} (undoing-scope {xs} e n r) (formed-scope {b = b} {f = f} {u = u} few many x y) w =
        each-act (scope xs true) (trio b f u) k (λ i. absurd (false≢true (sym i ∙ rw e))) (nth-each r (forms-more x (formed-forms y)) (among-within (scope xs true) (trio b f u) k w))
    undoing-each {k = k} (undoing-through {xs} e r q) (formed-scope {b = b} {f = f} {u = u} few many x y) w =
        each-scope xs false b (more f u) k (λ i. absurd (false≢true (sym i ∙ rw e)))
        (undoing-each r x (among_first b (more f u) (k + 1) (among-within (scope xs false) (trio b f u) k w))) (in-quiet (more f u) (k + 1 + size b) q)

    undoing-in-each : {h r : Bool} {l : Acts} {c : ℕ} → UndoingIn ms l c → FormedIn h r l → AmongIn l c → EachIn l c
    undoing-in-each {c = c} (undoing-here r q) (formed-more {a = a} {l = l} x y) w = each_more a l c (undoing-each r x (among_first a l c w)) (in-quiet l (c + size a) q)
    undoing-in-each {c = c} (undoing-later q r) (formed-more {a = a} {l = l} x y) w = each_more a l c (each-quiet a c q) (undoing-in-each r y (among_later a l c w))

sizes-alone : (a : Act) → sizes (more a none) ≡ size a
unfolding size
sizes-alone a = omega arith

-- of an order that stands
standing-comes : (p : Plan) (o : Order) → Promised p → Standing p o → (k : ℕ) → k < size p.body + size p.fault → has_next p o k ≡ true
unfolding has_next ready_of
standing-comes p o h st k n =
    decide (eqb (get_or o.marks k 0) idle)
    (λ e. rw e)
    (λ e. rw e (by_part (go st.runs) e))
  where
    rs : List Ready
    rs = ready_of p o

    in_body : Among o.marks rs p.body 0
    in_body = record { free = false; among = λ f e. some-append f (ready_in p.body 0 false o.marks) (ready_in p.fault (size p.body) false o.marks) ∙ rw e }

    in_fault : Among o.marks rs p.fault (size p.body)
    in_fault = record { free = false; among = λ f e. some-append f (ready_in p.body 0 false o.marks) (ready_in p.fault (size p.body) false o.marks) ∙ rw (e, or-true) }

    go : Running (root_of p) o.marks o.root → Each o.marks rs p.body 0 × EachIn o.marks rs (more p.fault none) (size p.body)
    go (scope_live e r q) = (run-each o.marks rs r h.body in_body, in-quiet o.marks rs (more p.fault none) (size p.body) q)
    go (scope-done e q r) = (each-quiet o.marks rs p.body 0 q, in-quiet o.marks rs (more p.fault none) (size p.body) r)
    go (scope-turned t) = turned-each o.marks rs t h.body (formed-more h.fault formed-none) in_body (alone_among o.marks rs p.fault (size p.body) in_fault)

    by_part : Each o.marks rs p.body 0 × EachIn o.marks rs (more p.fault none) (size p.body) → Up o.marks k → Comes o.marks rs k (act_at p k)
    by_part w u =
        decide (ltb k (size p.body))
        (λ t. let z = ltb-true k (size p.body) t in subst (Comes o.marks rs k) (sym (in-first p.body (more p.fault none) 0 k (omega arith))) (w.0 k (omega arith) (omega arith) u))
        (λ t. let z = ltb-false k (size p.body) t in
        subst (Comes o.marks rs k) (sym (in-later p.body (more p.fault none) 0 k (omega arith) ∙ ap (λ (c : ℕ). act_among (more p.fault none) c k) (zero-plus (size p.body)))) (w.1 k z (omega (arith, sizes-alone p.fault)) u))
      where
        zero-plus : (n : ℕ) → 0 + n ≡ n
        zero-plus n = omega arith

-- All go on.
pub all-go-on : AllGoOn
unfolding AllGoOn
all-go-on bytes p next e calls slot t v = go (slot-after bytes p next e calls slot t) v
  where
    go : {o : Order} {past : List Event} → Slot p o past → is_live o ≡ true → every (has_next p o) (numbers (size p.body + size p.fault)) ≡ true
    go (slot-free x y) v = absurd (false≢true (sym x ∙ v))
    go {o} (slot-live x y) v = each_below (has_next p o) (size p.body + size p.fault) (standing-comes p o (promised p (accepted-is-within bytes e)) x)
