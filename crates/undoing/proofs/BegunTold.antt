-- What a step logs as begun is marked, and what is marked has begun, over any run. Assumes nothing.
use Prim.Native.Nat.{ℕ, zero, suc, ◌+◌, ◌≤◌, ◌<◌}
use native.Mathlib.Omega.{arith}
use mathlib.Core.Path.{◌≡◌, refl, sym, ap, subst, ◌∙◌}
use mathlib.Core.Bool.{Bool, true, false, cond, not, ◌&&◌, ◌||◌, false≢true, or-true}
use mathlib.Core.List.{List, [], ◌∷◌, ◌++◌}
use lib.ListN.{length, get_or, length-replicate}
use lib.Dec.{eqb, ltb}
use borrow.Author.Tests.{eqb-true, eq-eqb, ne_eqb, lt-ltb, le-ltb, not-true}
use Rattle.plan.specs.Found.{Found, found}
use Rattle.plan.specs.Read.{read_plan}
use Rattle.plan.specs.Tree.{Own, scope, kind, is_scope, Act, act, Acts, none, more, Plan, size, sizes, count, has_undo}
use Rattle.plan.proofs.Limits.{accepted-is-within}
use Rattle.order.specs.declared.Order.{Order}
use Rattle.machine.specs.declared.Message.{Message}
use Rattle.machine.specs.declared.State.{State}
use Rattle.machine.specs.declared.Tally.{Tally}
use Rattle.order.specs.State.{Name, root, inner, idle, mark_at, is_live, no_order}
use Rattle.machine.specs.State.{no_message, fresh}
use Rattle.order.specs.Lists.{every, some}
use Rattle.order.specs.Event.{Event, started, began, closed, faulted, stopped, ended, raised, left}
use Rattle.order.specs.declared.End.{End}
use Rattle.order.specs.declared.End.TheVariants.{None, Well, Handled, Failed, Left}
use Rattle.order.specs.declared.Way.TheVariants.{Running as running}
use Rattle.order.specs.Acting.{Moved, begun_order, started_order, Actor, its_own, in_place, acted}
use Rattle.order.specs.Judging.{Verdict, clear, clash, conflict, spare}
use Rattle.undoing.proofs.Judged.{OnClash, Higher, conflict-awaited, passed-stands, passed-once}
use Rattle.machine.specs.Calls.{loaded_as, load, post, collect, drop_at, Stepped, doing_at, step, Call, posting, collecting, dropping, stepping}
use Rattle.undoing.specs.History.{log_of}
use Rattle.undoing.specs.Demand3.{Inner, scopes_in, scopes_among, scopes_of, is_begin, is_finish, is_left, none_now}
use Rattle.undoing.specs.Ties.{is_name, is_taken}
use Rattle.undoing.specs.Orderly.{is_began_of}
use Rattle.undoing.specs.Begun.{Lead, alone, together, lead_of, lead_in, lead_among, lead_parts, lead_at, is_led, BegunInTurn, kind_in, kind_among, kind_at, lasts, owns_at, has_began, Taken, mark_before, is_marked, goes_in, may_be, has_begun, numbers, of_each, raises_of, taken_by, steps_taken, BegunTruly, BegunAll, is_scope_kind}
use Rattle.undoing.proofs.Parts.{decide, every_append, some-append}
use Rattle.undoing.proofs.Marks.{trio}
use Rattle.undoing.proofs.Orders.{least, moment_of, onto, onto-append}
use Rattle.undoing.proofs.Moves.{HoldsAt}
use Rattle.undoing.proofs.Places.{first-of, second-of}
use Rattle.undoing.proofs.Planning.{Formed, formed-part, formed-scope, FormedIn, formed-none, formed-more, scopes-is, Promised, promised}
use Rattle.undoing.proofs.Roots.{Awaited, Standing, Passed}
use Rattle.undoing.proofs.Slots.{Slot, slot-live, standing-live, Alike, alike-itself, taking-alike, alike-awaited, alike-stands, alike-holds, passed-slot, idle-marks, order-starts, post-same, collect-same, drop-same, Sane, same-sane, fresh-sane}
use Rattle.undoing.proofs.Happening.{order_in, with_message, Happens, nothing-here, goes-here, starts-here, step-happens}
use Rattle.undoing.proofs.Demanded.{step_after}
use Rattle.undoing.proofs.Told.{slot-marks}
use Rattle.undoing.proofs.Truly.{neither, began-in, began-neither, Up, stay-up, Arms, needs, Knows, knows, KnowsIn, knows-none, knows_more, Began, begin-began, scope-kind}
use Rattle.undoing.proofs.Leading.{Leads, leads-part, leads-scope, LeadsIn, leads-none, leads-more, Fine, fine-append, fine-event, begin-fine, order-fine}
use Rattle.undoing.proofs.Keeping.{Steps, steps-from, order-steps, awaited-up}
use Rattle.plan.specs.Within.{scope_parts}

-- the parts of a scope, by those after its body
parts-many : (xs : List ℕ) (v : Bool) (b : Act) (l : Acts) → count l ≡ length xs + cond v 2 1 → scope_parts xs v ≤ count (more b l)
unfolding count
parts-many xs true b l n = omega arith
parts-many xs false b l n = omega arith

-- A tree of its form, whose kinds f knows as the tree does.
module _ (f : ℕ → ℕ) where
  kind-here : (own : Own) (within : Acts) (k : ℕ) → kind_in (act own within) k k ≡ kind own
  unfolding kind_in
  kind-here own within k = first-of (eqb k k) (kind own) (kind_among within (k + 1) k) (kind_in (act own within) k k) refl (eq-eqb k k refl)

  kind-within : (own : Own) (within : Acts) (k t : ℕ) → k < t → kind_in (act own within) k t ≡ kind_among within (k + 1) t
  unfolding kind_in
  kind-within own within k t h = second-of (eqb k t) (kind own) (kind_among within (k + 1) t) (kind_in (act own within) k t) refl (ne_eqb k t (omega arith))

  kind-first : (a : Act) (l : Acts) (c t : ℕ) → t < c + size a → kind_among (more a l) c t ≡ kind_in a c t
  unfolding kind_in
  kind-first a l c t h = first-of (ltb t (c + size a)) (kind_in a c t) (kind_among l (c + size a) t) (kind_among (more a l) c t) refl (lt-ltb t (c + size a) h)

  kind-later : (a : Act) (l : Acts) (c t : ℕ) → c + size a ≤ t → kind_among (more a l) c t ≡ kind_among l (c + size a) t
  unfolding kind_in
  kind-later a l c t h = second-of (ltb t (c + size a)) (kind_in a c t) (kind_among l (c + size a) t) (kind_among (more a l) c t) refl (le-ltb t (c + size a) h)

  needs-part : (own : Own) (n : ℕ) → is_scope own ≡ false → least own ≤ n → needs own ≤ n
  unfolding needs
  needs-part own n s h = rw s h

  needs-scope : (xs : List ℕ) (v : Bool) (b : Act) (l : Acts) → count l ≡ length xs + cond v 2 1 → needs (scope xs v) ≤ count (more b l)
  unfolding needs
  needs-scope xs v b l n = parts-many xs v b l n

  arms-in : {h r : Bool} {l : Acts} → FormedIn h r l → Arms r l
  unfolding kind
  arms-in formed-none = tt
  arms-in (formed-more (formed-part s i g y) z) = (i, arms-in z)
  arms-in (formed-more (formed-scope few many x y) z) = (refl, arms-in z)

  -- no part of a scope is an arm
  not-arms : {h : Bool} {a : Act} (l : Acts) → Formed h false a → Arms false l → Arms false (more a l)
  unfolding kind
  not-arms l (formed-part s i g y) z = (i, z)
  not-arms l (formed-scope few many x y) z = (refl, z)

  mutual
    unfolding size kind

    knows-in : {h r : Bool} {a : Act} → Formed h r a → (k : ℕ) → ((t : ℕ) → k ≤ t → t < k + size a → f t ≡ kind_in a k t) → Knows f a k
    knows-in (formed-part {own = own} {within = within} s i g y) k d =
        knows (d k (omega arith) (omega arith) ∙ kind-here own within k) (needs-part own (count within) s g) (arms-in y)
        (knows-all y (k + 1) (λ t u v. d t (omega arith) (omega arith) ∙ kind-within own within k t (omega arith)))
    knows-in (formed-scope {xs = xs} {v = v₀} {b = b} {f = g} {u = u} few many x y) k d =
        knows (d k (omega arith) (omega arith) ∙ kind-here (scope xs v₀) (trio b g u) k) (needs-scope xs v₀ b (more g u) many) (not-arms (more g u) x (arms-in y))
        (knows_more (knows-in x (k + 1) (λ t v w. e t (omega arith) (omega arith) ∙ kind-first b (more g u) (k + 1) t (omega arith)))
        (knows-all y (k + 1 + size b) (λ t v w. e t (omega arith) (omega arith) ∙ kind-later b (more g u) (k + 1) t (omega arith))))
      where
        e : (t : ℕ) → k < t → t < k + size (act (scope xs v₀) (trio b g u)) → f t ≡ kind_among (trio b g u) (k + 1) t
        e t v w = d t (omega arith) w ∙ kind-within (scope xs v₀) (trio b g u) k t v

    knows-all : {h r : Bool} {l : Acts} → FormedIn h r l → (c : ℕ) → ((t : ℕ) → c ≤ t → t < c + sizes l → f t ≡ kind_among l c t) → KnowsIn f l c
    knows-all formed-none c d = knows-none
    knows-all (formed-more {a = a} {l = l} x y) c d =
        knows_more (knows-in x c (λ t u v. d t (omega arith) (omega arith) ∙ kind-first a l c t (omega arith)))
        (knows-all y (c + size a) (λ t u v. d t (omega arith) (omega arith) ∙ kind-later a l c t (omega arith)))

pub body-knows : (p : Plan) → Promised p → Knows (kind_at p) p.body 0
unfolding kind_at
body-knows p h =
    knows-in (kind_at p) h.body 0 (λ t u v. first-of (ltb t (size p.body)) (kind_in p.body 0 t) (kind_in p.fault (size p.body) t) (kind_at p t) refl (lt-ltb t (size p.body) (omega arith)))

pub fault-knows : (p : Plan) → Promised p → Knows (kind_at p) p.fault (size p.body)
unfolding kind_at
fault-knows p h =
    knows-in (kind_at p) h.fault (size p.body) (λ t u v. second-of (ltb t (size p.body)) (kind_in p.body 0 t) (kind_in p.fault (size p.body) t) (kind_at p t) refl (le-ltb t (size p.body) u))

-- no activity is without a number
size-some : (a : Act) (c : ℕ) → c < c + size a
unfolding size
size-some (act own within) c = omega arith

-- And whose leads it knows.
module _ (lead : ℕ → Lead) where
  pub lead-here : (a : Act) (k : ℕ) (q : Lead) → lead_in a k k q ≡ q
  unfolding lead_in
  lead-here (act own within) k q =
      first-of (eqb k k) q (elim (is_scope own) [ true ↦ lead_parts within (k + 1) k (together k) | false ↦ lead_among within (k + 1) k (lead_of own k) ]) (lead_in (act own within) k k q) refl (eq-eqb k k refl)

  lead-within : (own : Own) (within : Acts) (k j : ℕ) (q : Lead) → k < j
      → lead_in (act own within) k j q ≡ elim (is_scope own) [ true ↦ lead_parts within (k + 1) j (together k) | false ↦ lead_among within (k + 1) j (lead_of own k) ]
  unfolding lead_in
  lead-within own within k j q h =
      second-of (eqb k j) q (elim (is_scope own) [ true ↦ lead_parts within (k + 1) j (together k) | false ↦ lead_among within (k + 1) j (lead_of own k) ]) (lead_in (act own within) k j q) refl (ne_eqb k j (omega arith))

  lead-first : (a : Act) (l : Acts) (c j : ℕ) (q : Lead) → j < c + size a → lead_among (more a l) c j q ≡ lead_in a c j q
  unfolding lead_in
  lead-first a l c j q h = first-of (ltb j (c + size a)) (lead_in a c j q) (lead_among l (c + size a) j q) (lead_among (more a l) c j q) refl (lt-ltb j (c + size a) h)

  lead-later : (a : Act) (l : Acts) (c j : ℕ) (q : Lead) → c + size a ≤ j → lead_among (more a l) c j q ≡ lead_among l (c + size a) j q
  unfolding lead_in
  lead-later a l c j q h = second-of (ltb j (c + size a)) (lead_in a c j q) (lead_among l (c + size a) j q) (lead_among (more a l) c j q) refl (le-ltb j (c + size a) h)

  parts_first : (a : Act) (l : Acts) (c j : ℕ) (q : Lead) → j < c + size a → lead_parts (more a l) c j q ≡ lead_in a c j q
  unfolding lead_in
  parts_first a l c j q h = first-of (ltb j (c + size a)) (lead_in a c j q) (lead_among l (c + size a) j alone) (lead_parts (more a l) c j q) refl (lt-ltb j (c + size a) h)

  parts-later : (a : Act) (l : Acts) (c j : ℕ) (q : Lead) → c + size a ≤ j → lead_parts (more a l) c j q ≡ lead_among l (c + size a) j alone
  unfolding lead_in
  parts-later a l c j q h = second-of (ltb j (c + size a)) (lead_in a c j q) (lead_among l (c + size a) j alone) (lead_parts (more a l) c j q) refl (le-ltb j (c + size a) h)

  -- an activity and its lead, where its numbers are known
  abbrev Knowing : Act → (k : ℕ) → Lead → Type 0
  Knowing a k q = (j : ℕ) → k ≤ j → j < k + size a → lead j ≡ lead_in a k j q

  mutual
    unfolding size kind

    leads-in : {h r : Bool} {a : Act} → Formed h r a → (k : ℕ) (q : Lead) → Knowing a k q → Leads lead a k
    leads-in (formed-part {own = own} {within = within} s i g y) k q d =
        leads-part s g (leads-all y (k + 1) (lead_of own k) (λ j u v. d j (omega arith) (omega arith) ∙ (lead-within own within k j q (omega arith)
        ∙ second-of (is_scope own) (lead_parts within (k + 1) j (together k)) (lead_among within (k + 1) j (lead_of own k)) _ refl s)))
    leads-in (formed-scope {xs = xs} {v = v₀} {b = b} {f = g} {u = u} few many x y) k q d =
        leads-scope (kb (k + 1) (omega arith) (size-some b (k + 1)) ∙ lead-here b (k + 1) (together k)) (parts-many xs v₀ b (more g u) many) (leads-in x (k + 1) (together k) kb)
        (leads-all y (k + 1 + size b) alone (λ j v w. parts j (omega arith) (omega arith) ∙ parts-later b (more g u) (k + 1) j (together k) v))
      where
        parts : (j : ℕ) → k < j → j < k + size (act (scope xs v₀) (trio b g u)) → lead j ≡ lead_parts (trio b g u) (k + 1) j (together k)
        parts j v w = d j (omega arith) w ∙ lead-within (scope xs v₀) (trio b g u) k j q v

        kb : Knowing b (k + 1) (together k)
        kb j v w = parts j (omega arith) (omega arith) ∙ parts_first b (more g u) (k + 1) j (together k) w

    leads-all : {h r : Bool} {l : Acts} → FormedIn h r l → (c : ℕ) (q : Lead) → ((j : ℕ) → c ≤ j → j < c + sizes l → lead j ≡ lead_among l c j q)
        → LeadsIn lead l c q
    leads-all formed-none c q d = leads-none
    leads-all (formed-more {a = a} {l = l} x y) c q d =
        let e : Knowing a c q = λ j u v. d j u (omega arith) ∙ lead-first a l c j q v in
        leads-more (e c (omega arith) (size-some a c) ∙ lead-here a c q) (leads-in x c q e) (leads-all y (c + size a) q (λ j u v. d j (omega arith) (omega arith) ∙ lead-later a l c j q u))

pub body-lead : (p : Plan) (j : ℕ) → j < size p.body → lead_at p j ≡ lead_in p.body 0 j alone
unfolding lead_at
body-lead p j v = first-of (ltb j (size p.body)) (lead_in p.body 0 j alone) (lead_in p.fault (size p.body) j alone) (lead_at p j) refl (lt-ltb j (size p.body) v)

fault-lead : (p : Plan) (j : ℕ) → size p.body ≤ j → lead_at p j ≡ lead_in p.fault (size p.body) j alone
unfolding lead_at
fault-lead p j v = second-of (ltb j (size p.body)) (lead_in p.body 0 j alone) (lead_in p.fault (size p.body) j alone) (lead_at p j) refl (le-ltb j (size p.body) v)

-- A scope by its kind is one of the plan's.
mutual
  unfolding scopes_in kind_in some

  scope-named : (a : Act) (k t : ℕ) (n : Name) (ns : List Name) → is_scope_kind (kind_in a k t) ≡ true → some (λ x. eqb x.number t) (scopes_in a k n ns) ≡ true
  scope-named (act own within) k t n ns h =
      decide (eqb k t)
      (λ e. let s : is_scope own ≡ true = sym (scope-kind own) ∙ (ap is_scope_kind (sym (first-of (eqb k t) (kind own) (kind_among within (k + 1) t) (kind_in (act own within) k t) refl e)) ∙ h) in
      subst (λ (l : List Inner). some (λ x. eqb x.number t) l ≡ true) (sym (scopes-is own within k n ns true s)) (rw e))
      (λ e. let y : (m : Name) (ms : List Name) → some (λ x. eqb x.number t) (scopes_among within (k + 1) m ms) ≡ true
      = λ m ms. among-named within (k + 1) t m ms (ap is_scope_kind (sym (second-of (eqb k t) (kind own) (kind_among within (k + 1) t) (kind_in (act own within) k t) refl e)) ∙ h) in
      decide (is_scope own)
      (λ s. subst (λ (l : List Inner). some (λ x. eqb x.number t) l ≡ true) (sym (scopes-is own within k n ns true s)) (rw (y (inner k) (cond (has_undo own) [] (n ∷ ns)), or-true)))
      (λ s. subst (λ (l : List Inner). some (λ x. eqb x.number t) l ≡ true) (sym (scopes-is own within k n ns false s)) (y n ns)))

  among-named : (l : Acts) (c t : ℕ) (n : Name) (ns : List Name) → is_scope_kind (kind_among l c t) ≡ true → some (λ x. eqb x.number t) (scopes_among l c n ns) ≡ true
  among-named none c t n ns h = absurd (false≢true h)
  among-named (more a l) c t n ns h =
      some-append (λ x. eqb x.number t) (scopes_in a c n ns) (scopes_among l (c + size a) n ns)
      ∙ decide (ltb t (c + size a))
      (λ e. rw (scope-named a c t n ns (ap is_scope_kind (sym (first-of (ltb t (c + size a)) (kind_in a c t) (kind_among l (c + size a) t) (kind_among (more a l) c t) refl e)) ∙ h)))
      (λ e. rw (among-named l (c + size a) t n ns (ap is_scope_kind (sym (second-of (ltb t (c + size a)) (kind_in a c t) (kind_among l (c + size a) t) (kind_among (more a l) c t) refl e)) ∙ h), or-true))

pub plan-named : (p : Plan) (t : ℕ) → is_scope_kind (kind_at p t) ≡ true → is_name p (inner t) ≡ true
unfolding scopes_of kind_at
plan-named p t h =
    some-append (λ x. eqb x.number t) (scopes_in p.body 0 root []) (scopes_in p.fault (size p.body) root [])
    ∙ decide (ltb t (size p.body))
    (λ e. rw (scope-named p.body 0 t root [] (rw (kind_at, e) at h)))
    (λ e. rw (scope-named p.fault (size p.body) t root [] (rw (kind_at, e) at h), or-true))

-- A scope that is left running and did not begin was left before.
left_one : (k : ℕ) (e : Event) (past : List Event) → is_began_of (eqb k) e ≡ false → is_left (inner k) (e ∷ past) ≡ true → is_left (inner k) past ≡ true
unfolding is_left is_begin is_finish is_began_of
left_one k started past n h = absurd (false≢true h)
left_one k (began j) past n h = rw (is_left, n) at h
left_one k (closed j) past n h = decide (eqb k j) (λ t. absurd (false≢true (rw (is_left, t) at h))) (λ t. rw (is_left, t) at h)
left_one k (faulted m x) past n h = h
left_one k (stopped j) past n h = h
left_one k (ended root) past n h = h
left_one k (ended (inner j)) past n h = decide (eqb k j) (λ t. absurd (false≢true (rw (is_left, t) at h))) (λ t. rw (is_left, t) at h)
left_one k (raised j x) past n h = h
left_one k left past n h = h

left-before : (k : ℕ) (l past : List Event) → has_began k l ≡ false → is_left (inner k) (onto l past) ≡ true → is_left (inner k) past ≡ true
unfolding some
left-before k [] past n h = h
left-before k (e ∷ l) past n h = let z = neither (is_began_of (eqb k) e) (has_began k l) n in left_one k e past z.0 (left-before k l (e ∷ past) z.1 h)

-- the three statements, of some steps taken
abbrev AllBegun : Plan → List Taken → Type 0
AllBegun p l = (every (of_each is_marked p) l ≡ true) × (every (of_each has_begun p) l ≡ true) × (every (of_each is_led p) l ≡ true)

-- what may be, where what is set was
may-be : (n : ℕ) (s b : Bool) (x y : ℕ) → (eqb y idle ≡ false → (eqb x idle ≡ false) × ((is_scope_kind n || cond s (goes_in n y b) (eqb y x || eqb n 7)) ≡ true))
    → may_be n s b x y ≡ true
unfolding may_be
may-be n s b x y h = decide (eqb y idle) (λ e. rw e) (λ e. let z = h e in rw (e, z.0, z.1))

module _ (p : Plan) (h : Promised p) where
  kb : Knows (kind_at p) p.body 0
  kb = body-knows p h

  kf : Knows (kind_at p) p.fault (size p.body)
  kf = fault-knows p h

  -- the mark of a scope that did not begin
  scope-up : {o o₁ : Order} (k : ℕ) (l past : List Event) → Slot p o past → Slot p o₁ (onto l past) → is_live o ≡ true → is_live o₁ ≡ true
      → is_scope_kind (kind_at p k) ≡ true → has_began k l ≡ false
      → Up o₁.marks k → Up o.marks k
  scope-up {o} {o₁} k l past a b v w s n u =
      let i = plan-named p k s in
      not-true (eqb (get_or o.marks k 0) idle) ((slot-marks a v (inner k) i).0 ∙ left-before k l past n (sym (slot-marks b w (inner k) i).0 ∙ rw u))

  -- a step of an order that awaits it
  steps-may : (t : ℕ) (o o₁ : Order) (l : List Event) → Steps (kind_at p) (owns_at p t) 0 o (record { result = running; order = o₁; log = l })
      → Awaited p o.marks t → (k : ℕ) → has_began k l ≡ false
      → (is_scope_kind (kind_at p k) ≡ true → Up o₁.marks k → Up o.marks k) → may_be (kind_at p k) (owns_at p t k) (has_began (k + 1) l) (get_or o.marks k 0) (get_or o₁.marks k 0) ≡ true
  steps-may t o o₁ l w a k n c =
      may-be (kind_at p k) (owns_at p t k) (has_began (k + 1) l) (get_or o.marks k 0) (get_or o₁.marks k 0)
      (λ u. decide (is_scope_kind (kind_at p k))
      (λ s. (c s u, rw s))
      (λ s. decide (owns_at p t k)
      (λ e. (awaited-up t k p kb kf a e, rw (s, e) (w.its k s e n u)))
      (λ e. let z = w.keeps k s e n u in (z.0, rw (s, e) (decide (eqb (kind_at p k) 7) (λ d. rw (d, or-true)) (λ d. rw (eq-eqb _ _ (z.1 d))))))))

  -- an order that starts has its step at once
  start-steps : (t : ℕ) (m : Message) (past : List Event) → none_now past ≡ true → Awaited p (started_order p).marks t
      → let o = acted its_own p t (with_message p t m (started_order p)) in
      is_live o.order ≡ true → Steps (kind_at p) (owns_at p t) 0 (started_order p) (record { result = running; order = o.order; log = o.log })
  start-steps t m past z a v =
      let like = taking-alike p (doing_at p t) m (started_order p) in
      steps-from (kind_at p) (owns_at p t) (with_message p t m (started_order p)) (started_order p) like.marks
      (order-steps (kind_at p) p kb kf its_own t (with_message p t m (started_order p))
      (subst (λ (ms : List ℕ). size p.body + size p.fault ≤ length ms) (sym like.marks) (order-starts p h t past z a).1.many) v)

  pub start-began : Began (kind_at p) 0 (size p.body) no_order.marks (begun_order p)
  unfolding begun_order no_order
  start-began = begin-began (kind_at p) kb no_order.marks (omega (arith, h.few, length-replicate 256 idle))

  -- what is logged then is marked as it starts, or afterwards
  starts-marked : (t : ℕ) (m : Message) (past : List Event) → none_now past ≡ true → Awaited p (started_order p).marks t
      → let o = acted its_own p t (with_message p t m (started_order p)) in
      is_live o.order ≡ true → (k : ℕ) → lasts (kind_at p k) ≡ true → has_began k ((started ∷ (begun_order p).log) ++ o.log) ≡ true
      → (not (eqb (mark_at k o.order) idle) || not (eqb (mark_at k (started_order p)) idle)) ≡ true
  unfolding some is_began_of started_order
  starts-marked t m past z a v k y g =
      began-in k (begun_order p).log (acted its_own p t (with_message p t m (started_order p))).log g
      (λ b. rw (start-began.truly k y b, or-true))
      (λ b. rw ((start-steps t m past z a v).truly k y b))

  -- what is set then has begun
  starts-idle : (t : ℕ) (m : Message) (past : List Event) → none_now past ≡ true → Awaited p (started_order p).marks t
      → let o = acted its_own p t (with_message p t m (started_order p)) in
      Slot p o.order (onto ((started ∷ (begun_order p).log) ++ o.log) past) → is_live o.order ≡ true → (k : ℕ)
      → has_began k ((started ∷ (begun_order p).log) ++ o.log) ≡ false → Up o.order.marks k → ⊥
  unfolding some is_began_of started_order is_left is_begin is_finish
  starts-idle t m past z a b v k n u =
      decide (is_scope_kind (kind_at p k))
      (λ s. false≢true (left-before k ((begun_order p).log ++ o.log) (started ∷ past) n (sym (slot-marks b v (inner k) (plan-named p k s)).0 ∙ rw u)))
      (λ s. decide (owns_at p t k)
      (λ e. resting (awaited-up t k p kb kf a e))
      (λ e. resting ((start-steps t m past z a v).keeps k s e ns.1 u).0))
    where
      o : Moved
      o = acted its_own p t (with_message p t m (started_order p))

      ns : (has_began k (begun_order p).log ≡ false) × (has_began k o.log ≡ false)
      ns = began-neither k (begun_order p).log o.log n

      resting : Up (started_order p).marks k → ⊥
      resting x =
          false≢true (sym (stay-up (start-began.stays k ns.0) x) ∙ ap (λ (i : ℕ). eqb i idle) ((idle-marks p h k 1).at k (omega arith) (omega arith)))

  -- what is begun begins in its turn, in a step and with an order that starts
  pub lb : Leads (lead_at p) p.body 0
  lb = leads-in (lead_at p) h.body 0 alone (λ j u v. body-lead p j (omega arith))

  pub lf : Leads (lead_at p) p.fault (size p.body)
  lf = leads-in (lead_at p) h.fault (size p.body) alone (λ j u v. fault-lead p j u)

  pub steps-fine : (actor : Actor) (t : ℕ) (o : Order) → Fine (lead_at p) t (acted actor p t o).log
  steps-fine actor t o = order-fine (lead_at p) t actor p lb lf (fault-lead p (size p.body) (omega arith) ∙ lead-here (lead_at p) p.fault (size p.body) alone) o

  starts-fine : (t : ℕ) (o : Order) → Fine (lead_at p) t ((started ∷ (begun_order p).log) ++ (acted its_own p t o).log)
  unfolding begun_order is_began_of
  starts-fine t o =
      fine-append (lead_at p) t (started ∷ (begun_order p).log) (acted its_own p t o).log
      (fine-event (lead_at p) t started (begun_order p).log (λ j. refl) (begin-fine (lead_at p) t lb (body-lead p 0 (omega (arith, size-some p.body 0)) ∙ lead-here (lead_at p) p.body 0 alone) no_order.marks)) (steps-fine its_own t o)

  is-led : (x : Taken) (k : ℕ) → Fine (lead_at p) x.activity x.log → is_led p x k ≡ true
  unfolding is_led
  is-led x k w = decide (has_began k x.log) (λ b. rw (b, w.may k b)) (λ b. rw b)

  -- each of a step's activities
  each_number : (f : ℕ → Bool) → ((k : ℕ) → f k ≡ true) → (n : ℕ) → every f (numbers n) ≡ true
  unfolding every numbers
  each_number f g zero = refl
  each_number f g (suc n) = rw (g n, each_number f g n)

  one-taken : (f : Plan → Taken → ℕ → Bool) (x : Taken) → (is_live x.after ≡ true → (k : ℕ) → f p x k ≡ true) → every (of_each f p) (x ∷ []) ≡ true
  unfolding every
  one-taken f x g = decide (is_live x.after) (λ v. rw (v, each_number (f p x) (g v) (size p.body + size p.fault))) (λ v. rw v)

  is-marked : (x : Taken) (k : ℕ)
      → (lasts (kind_at p k) ≡ true → has_began k x.log ≡ true
      → (not (eqb (mark_at k x.after) idle) || (not (is_live x.before) && not (eqb (mark_at k (started_order p)) idle))) ≡ true) → is_marked p x k ≡ true
  unfolding is_marked
  is-marked x k g =
      decide (lasts (kind_at p k)) (λ l. decide (has_began k x.log) (λ b. rw (l, b, g l b)) (λ b. rw (l, b))) (λ l. rw l)

  has-begun : (x : Taken) (k : ℕ)
      → (has_began k x.log ≡ false → may_be (kind_at p k) (owns_at p x.activity k) (has_began (k + 1) x.log) (mark_before k x) (mark_at k x.after) ≡ true)
      → has_begun p x k ≡ true
  unfolding has_begun
  has-begun x k g = decide (has_began k x.log) (λ b. rw b) (λ b. rw (b, g b))

  -- a time that a step goes through an order that stands
  abbrev time : (t : ℕ) → Order → Moved → Taken
  time t o m = record { activity = t; before = o; after = m.order; log = m.log }

  begun_first : (x : Taken) (l : List Taken) → AllBegun p (x ∷ []) → AllBegun p l → AllBegun p (x ∷ l)
  unfolding every
  begun_first x l a b = (
    every_append (of_each is_marked p) (x ∷ []) l a.0 b.0,
    every_append (of_each has_begun p) (x ∷ []) l a.1 b.1,
    every_append (of_each is_led p) (x ∷ []) l a.2 b.2,
  )

  time-begun : (actor : Actor) (t : ℕ) (o o' : Order) (past : List Event) → Alike p o o' → Awaited p o.marks t → Standing p o → HoldsAt p (moment_of p o) past
      → AllBegun p (time t o (acted actor p t o') ∷ [])
  time-begun actor t o o' past like x st g = (
    one-taken is_marked one (λ v k. is-marked one k (λ z y. rw ((w₁ v).truly k z y))),
    one-taken has_begun one (λ v k. has-begun one k (λ n. rw (standing-live p o st)
        (steps-may t o m.order m.log (w₁ v) x k n (λ z u. scope-up k m.log past (slot-live st g) b (standing-live p o st) v z n u)))),
    one-taken is_led one (λ v k. is-led one k (steps-fine actor t o')),
  )
    where
      m : Moved
      m = acted actor p t o'

      one : Taken
      one = time t o m

      b : Slot p m.order (onto m.log past)
      b = (passed-slot p h past m (passed-once p h actor t o' past (alike-awaited like t x) (alike-stands p o o' like st) (alike-holds like past g))).1

      w₁ : is_live m.order ≡ true → Steps (kind_at p) (owns_at p t) 0 o (record { result = running; order = m.order; log = m.log })
      w₁ v =
          steps-from (kind_at p) (owns_at p t) o' o like.marks
          (order-steps (kind_at p) p kb kf actor t o' (subst (λ (ms : List ℕ). size p.body + size p.fault ≤ length ms) (sym like.marks) st.many) v)

  -- the raises of an order that is judged
  raises-begun : (n : ℕ) (past : List Event) (m : Moved) → Passed p past m → AllBegun p (raises_of n p m)
  unfolding raises_of every
  raises-begun zero past m w = (refl, refl, refl)
  raises-begun (suc n) past m w = go (λ past' m' w'. raises-begun n past' m' w') m.end refl
    where
      on : ((past' : List Event) (m' : Moved) → Passed p past' m' → AllBegun p (raises_of n p m')) → m.end ≡ None → (v : Verdict) → OnClash (Higher p m.order) v
          → AllBegun p (elim v [ clear ↦ [] | clash k ↦ time k m.order (acted in_place p k m.order) ∷ raises_of n p (acted in_place p k m.order) ])
      on f e clear c = (refl, refl, refl)
      on f e (clash k) c =
          let s = passed-stands p past m e w in
          begun_first (time k m.order (acted in_place p k m.order)) (raises_of n p (acted in_place p k m.order))
          (time-begun in_place k m.order m.order (onto m.log past) (alike-itself p m.order) c.0 s.0 s.1)
          (f (onto m.log past) (acted in_place p k m.order) (passed-once p h in_place k m.order (onto m.log past) c.0 s.0 s.1))

      go : ((past' : List Event) (m' : Moved) → Passed p past' m' → AllBegun p (raises_of n p m')) → (e : End) → m.end ≡ e
          → AllBegun p (elim e [
            | None ↦ elim (conflict p m.order) [ clear ↦ [] | clash k ↦ time k m.order (acted in_place p k m.order) ∷ raises_of n p (acted in_place p k m.order) ]
            | Well ↦ []
            | Handled ↦ []
            | Failed ↦ []
            | Left ↦ []
          ])
      go f None e = on f e (conflict p m.order) (conflict-awaited p m.order)
      go f Well e = (refl, refl, refl)
      go f Handled e = (refl, refl, refl)
      go f Failed e = (refl, refl, refl)
      go f Left e = (refl, refl, refl)

  module _ (i : ℕ) where
    -- what a step did in the slot, as taken: its own time, and the raises
    abbrev pub times : Order → (t : ℕ) → List Event → Moved → List Taken
    times o t l m = record { activity = t; before = o; after = m.order; log = l ++ m.log } ∷ raises_of (spare p m.order) p m

    pub taken-goes : (s : State) (t : ℕ) (m : Message) (r : Stepped) → (is_taken i r ≡ true) × (r.answer.activity ≡ t) × (get_or s.messages r.answer.place no_message ≡ m)
        → is_live (order_in s i) ≡ true → taken_by p i s r ≡ times (order_in s i) t [] (acted its_own p t (with_message p t m (order_in s i)))
    taken-goes s t m r q v = rw (q.0, q.1, q.2, v)

    pub taken-starts : (s : State) (t : ℕ) (m : Message) (r : Stepped) → (is_taken i r ≡ true) × (r.answer.activity ≡ t) × (get_or s.messages r.answer.place no_message ≡ m)
        → is_live (order_in s i) ≡ false
        → taken_by p i s r ≡ times (order_in s i) t (started ∷ (begun_order p).log) (acted its_own p t (with_message p t m (started_order p)))
    taken-starts s t m r q v = rw (q.0, q.1, q.2, v)

    happens-begun : (s : State) (past : List Event) (r : Stepped) → Happens p i s past r → AllBegun p (taken_by p i s r)
    unfolding every
    happens-begun s past r (nothing-here n l e d) = (rw n, rw n, rw n)
    happens-begun s past r (goes-here t m q x st c y l e d) =
        let o = order_in s i in
        let o' = with_message p t m o in
        let like = taking-alike p (doing_at p t) m o in
        subst (AllBegun p) (sym (taken-goes s t m r (q.0, q.1, q.2) (standing-live p o st)))
        (begun_first (time t o (acted its_own p t o')) (raises_of (spare p (acted its_own p t o').order) p (acted its_own p t o')) (time-begun its_own t o o' past like x st y)
        (raises-begun (spare p (acted its_own p t o').order) past (acted its_own p t o') (passed-once p h its_own t o' past (alike-awaited like t x) (alike-stands p o o' like st) (alike-holds like past y))))
    happens-begun s past r (starts-here t m q x z n l e d) =
        subst (AllBegun p) (sym (taken-starts s t m r (q.0, q.1, q.2) z))
        (begun_first one (raises_of (spare p m₁.order) p m₁) (
          one-taken is_marked one (λ v k. is-marked one k (λ y g. marked v k y g)),
          one-taken has_begun one (λ v k. has-begun one k (λ y. rw z (may-be (kind_at p k) (owns_at p t k) (has_began (k + 1) (l₀ ++ m₁.log)) idle (mark_at k m₁.order) (λ u. absurd (starts-idle t m past n x slot v k y u))))),
          one-taken is_led one (λ v k. is-led one k (starts-fine t o')),
        )
        (raises-begun (spare p m₁.order) (onto l₀ past) m₁ passed))
      where
        o' : Order
        o' = with_message p t m (started_order p)

        l₀ : List Event
        l₀ = started ∷ (begun_order p).log

        m₁ : Moved
        m₁ = acted its_own p t o'

        one : Taken
        one = record { activity = t; before = order_in s i; after = m₁.order; log = l₀ ++ m₁.log }

        passed : Passed p (onto l₀ past) m₁
        passed =
            let like = taking-alike p (doing_at p t) m (started_order p) in
            let b = order-starts p h t past n x in
            passed-once p h its_own t o' (onto l₀ past) (alike-awaited like t x) (alike-stands p (started_order p) o' like b.1) (alike-holds like (onto l₀ past) b.2)

        slot : Slot p m₁.order (onto (l₀ ++ m₁.log) past)
        slot = subst (λ (w : List Event). Slot p m₁.order w) (sym (onto-append past l₀ m₁.log)) (passed-slot p h (onto l₀ past) m₁ passed).1

        marked : is_live m₁.order ≡ true → (k : ℕ) → lasts (kind_at p k) ≡ true → has_began k (l₀ ++ m₁.log) ≡ true
            → (not (eqb (mark_at k m₁.order) idle) || (not (is_live (order_in s i)) && not (eqb (mark_at k (started_order p)) idle))) ≡ true
        marked v k y g = rw z (starts-marked t m past n x v k y g)

    -- over any calls
    module _ (bytes : List ℕ) (next : ℕ) (accepted : read_plan bytes ≡ found p next) where
      all-begun : (calls : List Call) (s : State) (t : Tally) (past : List Event) → Sane p bytes next i accepted h s past
          → AllBegun p (steps_taken p calls i s t)
      unfolding steps_taken every
      all-begun [] s t past g = (refl, refl, refl)
      all-begun (posting m ∷ l) s t past g = all-begun l (post m s).state t past (same-sane p bytes next i accepted h s (post m s).state past (post-same m s) g)
      all-begun (collecting ∷ l) s t past g = all-begun l (collect s).state t past (same-sane p bytes next i accepted h s (collect s).state past (collect-same s) g)
      all-begun (dropping j ∷ l) s t past g = all-begun l (drop_at j s).state t past (same-sane p bytes next i accepted h s (drop_at j s).state past (drop-same j s) g)
      all-begun (stepping c ∷ l) s t past g =
          let r = step c s t in
          let g₁ = (step_after p bytes next i accepted h c s t past g).1 in
          let x = happens-begun s past r (step-happens p bytes next i accepted h c s t past g).happens in
          let y = all-begun l r.state r.tally (onto (log_of i r) past) g₁ in
          (joined is_marked r x.0 y.0, joined has_begun r x.1 y.1, joined is_led r x.2 y.2)
        where
          joined : (f : Plan → Taken → ℕ → Bool) (r : Stepped) → every (of_each f p) (taken_by p i s r) ≡ true
              → every (of_each f p) (steps_taken p l i r.state r.tally) ≡ true
              → every (of_each f p) (taken_by p i s r ++ steps_taken p l i r.state r.tally) ≡ true
          joined f r a b = every_append (of_each f p) (taken_by p i s r) (steps_taken p l i r.state r.tally) a b

-- from a fresh start
fresh-begun : (bytes : List ℕ) (p : Plan) (next : ℕ) → read_plan bytes ≡ found p next → (calls : List Call) (slot : ℕ) (t : Tally)
    → AllBegun p (steps_taken p calls slot (load bytes).state t)
unfolding load
fresh-begun bytes p next e calls slot t =
    subst (λ (f : Found Plan). AllBegun p (steps_taken p calls slot (loaded_as bytes f).state t)) (sym e)
    (let h = promised p (accepted-is-within bytes e) in all-begun p h slot bytes next e calls (fresh bytes) t [] (fresh-sane p bytes next slot e h))

-- No beginning is only claimed,
pub begun-truly : BegunTruly
unfolding BegunTruly
begun-truly bytes p next e calls slot t = (fresh-begun bytes p next e calls slot t).0

-- none is left out,
pub begun_all : BegunAll
unfolding BegunAll
begun_all bytes p next e calls slot t = (fresh-begun bytes p next e calls slot t).1

-- and none comes out of turn.
pub begun-in-turn : BegunInTurn
unfolding BegunInTurn
begun-in-turn bytes p next e calls slot t = (fresh-begun bytes p next e calls slot t).2
