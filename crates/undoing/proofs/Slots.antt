-- What stands in a slot over the calls: an order that stands, tied to its history, or none; and a state that is sane. Assumes nothing.
use Prim.Native.Nat.{ℕ, zero, suc, ◌+◌, ◌≤◌, ◌<◌}
use native.Mathlib.Omega.{arith}
use mathlib.Core.Path.{◌≡◌, refl, sym, ap, subst, ◌∙◌}
use mathlib.Core.Bool.{Bool, true, false, not, false≢true}
use mathlib.Core.List.{List, [], ◌∷◌}
use lib.ListN.{length, get_or, take, drop, replicate, length-replicate, get_or-replicate, get_or-eq_default}
use lib.Seq.{take-append_seam}
use lib.Dec.{eqb, ltb, leb}
use borrow.Author.Tests.{eqb-true, ltb-true, ltb-false}
use Rattle.plan.specs.Found.{Found, refused, found, among}
use Rattle.plan.specs.Read.{read_plan}
use Rattle.plan.specs.Tree.{Plan, size, none, more, sizes, from_partner, from_asking}
use Rattle.machine.specs.declared.Message.{Message}
use Rattle.order.specs.declared.Order.{Order}
use Rattle.machine.specs.declared.State.{State}
use Rattle.order.specs.Lists.{every, only}
use Rattle.order.specs.State.{Name, root, inner, idle, active, with_root, binding, choice_in, mark_of, is_live, no_order}
use Rattle.machine.specs.State.{no_message, fresh, letters}
use Rattle.order.specs.Expression.{is_fault_number}
use Rattle.machine.specs.Limits.{exchanged, root_in_limits, mark_in_limits, order_in_limits, in_limits, plan_in, by}
use Rattle.order.specs.Event.{Event, started}
use Rattle.order.specs.Begin.{begin}
use Rattle.order.specs.Scope.{root_of}
use Rattle.order.specs.Acting.{Actor, its_own, Moved, acted, begun_order, started_order, may_send}
use Rattle.order.specs.Judging.{following, spare, settled, step_order}
use Rattle.order.specs.declared.End.TheVariants.{None}
use Rattle.machine.specs.Fit.{Doing, no_step, sends, takes, moves, cuts, closes}
use Rattle.order.specs.Taking.{bind_all}
use Rattle.machine.specs.Calls.{post_by, post, partners_of, foreign, handing, collect_by, collect, drop_at, messages_after, order_taking, gives}
use Rattle.undoing.specs.Demand3.{none_now}
use Rattle.undoing.proofs.Parts.{both, decide}
use Rattle.undoing.proofs.Accounts.{Phase, rest, waits, heals, phase}
use Rattle.undoing.proofs.Moves.{Everywhere, HoldsAt, fair, move_start}
use Rattle.undoing.proofs.Marks.{Quiet, Run, turned-waits, turned-undoes, turned-heals, quiet-part, quiet-agree, agree-above}
use Rattle.undoing.proofs.Orders.{moment_of, fair_after, onto, does-nothing}
use Rattle.undoing.proofs.Beginning.{Begins, begins}
use Rattle.undoing.proofs.Waiting.{quiet-waits}
use Rattle.undoing.proofs.Scoping.{scope_live, scope-done, scope-turned, Running}
use Rattle.undoing.proofs.Roots.{Awaited, in-body, in-fault, Standing, Passed, passes_on, passes-end, ended-now}
use Rattle.undoing.proofs.Planning.{Promised}
use Rattle.undoing.proofs.Judged.{Fitting, passed-joined, passed-once, judged-so}

-- a slot: it is free and its history is that of orders that are over; or its order stands, tied to its history
pub data Slot (p : Plan) (o : Order) (past : List Event) : Type 0 where
  slot-free : is_live o ≡ false → none_now past ≡ true → Slot p o past
  slot-live : Standing p o → HoldsAt p (moment_of p o) past → Slot p o past

-- an order that stands is live
pub standing-live : (p : Plan) (o : Order) → Standing p o → is_live o ≡ true
standing-live p o h = go o.root h.runs
  where
    not-rest : (m : ℕ) (q : Phase) → phase m ≡ q → (rest ≡ q → ⊥) → not (eqb m idle) ≡ true
    not-rest m q e f = decide (eqb m idle) (λ t. absurd (f (sym (ap phase (eqb-true m idle t)) ∙ e))) (λ t. rw t)

    go : (m : ℕ) → Running (root_of p) o.marks m → not (eqb m idle) ≡ true
    go m (scope_live e r q) = rw e
    go m (scope-done e r q) = rw e
    go m (scope-turned (turned-waits {w = a} e r _ q)) = not-rest m (waits a) e (λ d. let z : ◌≡◌ {A = ℕ} 0 1 = cc in omega arith)
    go m (scope-turned (turned-undoes {w = a} e r q)) = not-rest m (Phase.undoes a) e (λ d. let z : ◌≡◌ {A = ℕ} 0 1 = cc in omega arith)
    go m (scope-turned (turned-heals e r q)) = not-rest m heals e (λ d. let z : ◌≡◌ {A = ℕ} 0 1 = cc in omega arith)

-- Binding the values of a message changes no mark and nothing that is remembered.
pub record Alike (p : Plan) (o o' : Order) : Type 0 where
  pub marks : o'.marks ≡ o.marks
  pub root : o'.root ≡ o.root
  pub everywhere : Everywhere p (moment_of p o) (moment_of p o')

-- an order and itself
pub alike-itself : (p : Plan) (o : Order) → Alike p o o
alike-itself p o = record { marks = refl; root = refl; everywhere = λ s i. (refl, refl, refl) }

-- binding some variables
bound-alike : (p : Plan) (vs xs : List ℕ) (o : Order) → Alike p o (bind_all vs xs o)
unfolding bind_all
bound-alike p [] xs o = alike-itself p o
bound-alike p (v ∷ vs) xs o =
    let r = bound-alike p vs (drop 1 xs) (binding v (get_or xs 0 0) o) in
    record { marks = r.marks; root = r.root; everywhere = λ s i. let w = r.everywhere s i in (w.0 ∙ ap phase (same-mark s), w.1 ∙ refl, w.2 ∙ ap choice_in (same-mark s)) }
  where
    same-mark : (s : Name) → mark_of s (binding v (get_or xs 0 0) o) ≡ mark_of s o
    same-mark root = refl
    same-mark (inner k) = refl

alike_then : {p : Plan} {o o' o'' : Order} → Alike p o o' → Alike p o' o'' → Alike p o o''
alike_then a b =
    record { marks = b.marks ∙ a.marks; root = b.root ∙ a.root; everywhere = λ s i. let x = a.everywhere s i in let y = b.everywhere s i in (y.0 ∙ x.0, y.1 ∙ x.1, y.2 ∙ x.2) }

-- taking a message, by the step that it is for
pub taking-alike : (p : Plan) (d : Doing) (m : Message) (o : Order) → Alike p o (order_taking d m o)
unfolding order_taking bind_all
taking-alike p no_step m o = alike-itself p o
taking-alike p (sends a b vs) m o = alike-itself p o
taking-alike p (takes (from_partner a) b vs) m o = bound-alike p vs (gives m) o
taking-alike p (takes (from_asking a v) b vs) m o = alike_then (bound-alike p vs (gives m) o) (bound-alike p (v ∷ []) (get_or (gives m) 4 0 ∷ []) (bind_all vs (gives m) o))
taking-alike p moves m o = alike-itself p o
taking-alike p cuts m o = alike-itself p o
taking-alike p (closes undo s) m o = alike-itself p o

-- So what awaits its step still does, the order stands, and is tied to its history.
pub alike-awaited : {p : Plan} {o o' : Order} → Alike p o o' → (t : ℕ) → Awaited p o.marks t → Awaited p o'.marks t
alike-awaited {p} e t w = subst (λ (ms : List ℕ). Awaited p ms t) (sym e.marks) w

pub alike-stands : (p : Plan) (o o' : Order) → Alike p o o' → Standing p o → Standing p o'
alike-stands p o o' e st =
    record {
      many = subst (λ (ms : List ℕ). size p.body + size p.fault ≤ length ms) (sym e.marks) st.many;
      runs = subst (λ (ms : List ℕ). Running (root_of p) ms o'.root) (sym e.marks) (subst (λ (x : ℕ). Running (root_of p) o.marks x) (sym e.root) st.runs);
      going = λ d. st.going (sym e.root ∙ d);
    }

pub alike-holds : {p : Plan} {o o' : Order} → Alike p o o' → (past : List Event) → HoldsAt p (moment_of p o) past → HoldsAt p (moment_of p o') past
unfolding fair_after
alike-holds e past g = ((does-nothing e.everywhere).does past g).1

module _ (p : Plan) (h : Promised p) where
  -- what holds of each walk of a step, of an order that stands and has taken its message
  pub taken-so : (Q : List Event → Moved → Type 0)
      → ((actor : Actor) (t : ℕ) (o : Order) (past : List Event) → Fitting actor p t → Awaited p o.marks t → Standing p o → HoldsAt p (moment_of p o) past → Q past (acted actor p t o))
      → ((past : List Event) (m m' : Moved) → m.end ≡ None → Q past m → Q (onto m.log past) m' → Q past (following m.log m'))
      → (t : ℕ) (o o' : Order) (past : List Event) → Alike p o o' → Awaited p o.marks t → Standing p o → HoldsAt p (moment_of p o) past → Q past (step_order p t o')
  unfolding step_order settled
  taken-so Q once joined t o o' past e w st g =
      let w' = alike-awaited e t w in
      let st' = alike-stands p o o' e st in
      let g' = alike-holds e past g in
      judged-so p h Q once joined (spare p (acted its_own p t o').order) past (acted its_own p t o') (passed-once p h its_own t o' past w' st' g') (once its_own t o' past tt w' st' g')

  -- a step of an order that stands and has taken its message
  pub taken_step : (t : ℕ) (o o' : Order) (past : List Event) → Alike p o o' → Awaited p o.marks t → Standing p o
      → HoldsAt p (moment_of p o) past → Passed p past (step_order p t o')
  taken_step t o o' past e w st g = taken-so (Passed p) (λ actor t o past y. passed-once p h actor t o past) (passed-joined p) t o o' past e w st g

  -- what stands in a slot after that
  pub passed-slot : (past : List Event) (m : Moved) → Passed p past m → (fair_after p past m.log ≡ true) × Slot p m.order (onto m.log past)
  unfolding no_order
  passed-slot past m (passes_on r z st g) = (r, slot-live st g)
  passed-slot past m (passes-end r e n) = (r, slot-free (ap is_live e) (ended-now p m.end (onto m.log past) n))

  -- An order starts.
  pub idle-marks : (k n : ℕ) → Quiet no_order.marks k n
  unfolding no_order
  idle-marks k n =
      record {
        at = λ i x y. decide (ltb i 256) (λ t. get_or-replicate 256 i idle 0 (ltb-true i 256 t)) (λ t. get_or-eq_default (replicate 256 idle) 0 {n = i} (omega (arith, ltb-false i 256 t, length-replicate 256 idle)));
      }

  -- what is logged then is right, and the order stands
  pub order-starts : (t : ℕ) (past : List Event) → none_now past ≡ true → Awaited p (started_order p).marks t
      → (fair_after p past (started ∷ (begun_order p).log) ≡ true) × Standing p (started_order p) × HoldsAt p (moment_of p (started_order p)) (onto (started ∷ (begun_order p).log) past)
  unfolding started_order begun_order no_order fair_after only size
  order-starts t past z w = (
    rw m.0 d.0,
    record { many = omega (arith, b.kept.many, h.few, length-replicate 256 idle); runs = go (begun_order p).over refl; going = λ e. omega arith },
    d.1,
  )
    where
      o₀ : Order
      o₀ = with_root active no_order

      few : 0 + size p.body ≤ length no_order.marks
      few = omega (arith, h.few, length-replicate 256 idle)

      b : Begins p (λ ms. Run ms p.body 0) 0 (size p.body) o₀ o₀ (begin p.body 0 no_order.marks)
      b = begins p h.seat.body o₀ (idle-marks 0 (size p.body)) few refl

      m : (fair p past started ≡ true) × HoldsAt p (moment_of p o₀) (started ∷ past)
      m = move_start p (moment_of p o₀) past z refl (λ k. ap phase ((idle-marks k 1).at k (omega arith) (omega arith))) (λ s. refl)

      d : (fair_after p (started ∷ past) (begun_order p).log ≡ true) × HoldsAt p (moment_of p (started_order p)) (onto (begun_order p).log (started ∷ past))
      d = b.does.does (started ∷ past) m.1

      q : Quiet (begun_order p).marks (size p.body) (sizes (more p.fault none))
      q = quiet-agree (idle-marks (size p.body) (sizes (more p.fault none))) (agree-above b.kept (omega arith))

      go : (v : Bool) → (begun_order p).over ≡ v → Running (root_of p) (begun_order p).marks active
      go true e = absurd (nothing w)
        where
          nothing : Awaited p (begun_order p).marks t → ⊥
          nothing (in-body x y) = quiet-waits y refl (b.quiet e)
          nothing (in-fault x y) = quiet-waits y refl (quiet-part q (omega arith) (omega arith))
      go false e = scope_live refl (b.runs e) q

-- A state with the same plan and the same orders.
pub record Same (s s' : State) : Type 0 where
  pub plan : s'.plan ≡ s.plan
  pub long : s'.length ≡ s.length
  pub orders : s'.orders ≡ s.orders

-- a state and itself
same-itself : (s : State) → Same s s
same-itself s = record { plan = refl; long = refl; orders = refl }

-- a step changes messages, and nothing else but its order
pub messages-same : (d : Doing) (j : ℕ) (o : Order) (s : State) → Same s (messages_after d j o s)
unfolding messages_after
messages-same no_step j o s = same-itself s
messages-same (sends a b vs) j o s = decide (may_send o a vs) (λ t. rw t (record { plan = refl; long = refl; orders = refl })) (λ t. rw t (same-itself s))
messages-same (takes a b vs) j o s = record { plan = refl; long = refl; orders = refl }
messages-same moves j o s = same-itself s
messages-same cuts j o s = same-itself s
messages-same (closes undo x) j o s = same-itself s

-- posting
pub post-same : (m : Message) (s : State) → Same s (post m s).state
unfolding post post_by
post-same m s = go (plan_in s)
  where
    go : (f : Found Plan) → Same s (by (record { refusal = 17; state = s }) (λ p. post_by p m s) f).state
    go (refused n k) = same-itself s
    go (found p n) =
        decide (not (exchanged m.partner m.operation m.count m.reply))
        (λ t. rw t (same-itself s))
        (λ t. decide (leb 64 s.waiting) (λ u. rw (t, u) (same-itself s)) (λ u. rw (t, u) (record { plan = refl; long = refl; orders = refl })))

-- handing out a message by its place
handing-same : (i : ℕ) (s : State) → Same s (handing i s).state
unfolding handing
handing-same i s = decide (ltb i s.waiting) (λ t. rw t (record { plan = refl; long = refl; orders = refl })) (λ t. rw t (same-itself s))

handed-same : (place : Plan → ℕ) (s : State) (f : Found Plan)
    → Same s (by (record { refusal = 17; message = no_message; state = s }) (λ p. handing (place p) s) f).state
handed-same place s (refused n k) = same-itself s
handed-same place s (found p n) = handing-same (place p) s

-- collecting
pub collect-same : (s : State) → Same s (collect s).state
unfolding collect collect_by
collect-same s = handed-same (λ p. foreign (partners_of p) 0 (letters s)) s (plan_in s)

-- dropping
pub drop-same : (i : ℕ) (s : State) → Same s (drop_at i s).state
unfolding drop_at
drop-same i s = handed-same (λ p. i) s (plan_in s)

-- a test that holds of each holds of the i-th, and of what stands for it where there is none
pub every-at : {A : Type 0} (f : A → Bool) (l : List A) (i : ℕ) (d : A) → f d ≡ true → every f l ≡ true → f (get_or l i d) ≡ true
unfolding every
every-at f [] i d e h = e
every-at f (a ∷ l) zero d e h = both (f a) (every f l) h (λ x y. x)
every-at f (a ∷ l) (suc i) d e h = both (f a) (every f l) h (λ x y. every-at f l i d e y)

-- no order is within the limits
pub no-order-limits : order_in_limits no_order ≡ true
unfolding order_in_limits no_order root_in_limits mark_in_limits every among is_fault_number
no-order-limits = refl

-- the root of an order that starts is within its limits
pub started-in-limits : (p : Plan) → root_in_limits (started_order p).root ≡ true
unfolding started_order root_in_limits among
started-in-limits p = refl

-- a state within the limits has its plan
pub plan-in : (s : State) → in_limits s ≡ true → plan_in s ≡ read_plan (take s.length s.plan)
unfolding plan_in
plan-in s e = rw e

-- any other has none
pub plan-out : (s : State) → in_limits s ≡ false → plan_in s ≡ refused 17 0
unfolding plan_in
plan-out s e = rw e

-- the orders of a state within the limits are within theirs
pub orders-within : (s : State) → in_limits s ≡ true → every order_in_limits s.orders ≡ true
unfolding in_limits
orders-within s e =
    both (leb s.length 4096) _ e (λ a b. both (leb s.waiting 64) _ b (λ c d. both (every order_in_limits s.orders) _ d (λ x y. x)))

-- in a fresh state there is no order
pub fresh-order : (i : ℕ) → get_or (replicate 16 no_order) i no_order ≡ no_order
fresh-order i =
    decide (ltb i 16) (λ t. get_or-replicate 16 i no_order no_order (ltb-true i 16 t))
    (λ t. get_or-eq_default (replicate 16 no_order) no_order {n = i} (omega (arith, ltb-false i 16 t, length-replicate 16 no_order)))

-- a live order stands in one of the slots
pub live-within : (os : List Order) (k : ℕ) → is_live (get_or os k no_order) ≡ true → k < length os
unfolding no_order
live-within os k e = decide (ltb k (length os)) (λ t. ltb-true k (length os) t) (λ t. absurd (false≢true (sym (ap is_live (get_or-eq_default os no_order {n = k} (ltb-false k (length os) t))) ∙ e)))

module _ (p : Plan) (bytes : List ℕ) (next i : ℕ) (accepted : read_plan bytes ≡ found p next) (h : Promised p) where
  pub record Sane (s : State) (past : List Event) : Type 0 where
    pub plan : take s.length s.plan ≡ bytes
    pub many : length s.orders ≡ 16
    pub slot : Slot p (get_or s.orders i no_order) past

  -- what changes neither plan nor orders keeps a state sane
  pub same-sane : (s s' : State) (past : List Event) → Same s s' → Sane s past → Sane s' past
  same-sane s s' past e g =
      record {
        plan = rw (e.plan, e.long) g.plan;
        many = rw e.orders g.many;
        slot = subst (λ (os : List Order). Slot p (get_or os i no_order) past) (sym e.orders) g.slot;
      }

  -- a fresh state is
  pub fresh-sane : Sane (fresh bytes) []
  unfolding fresh none_now no_order
  fresh-sane = record { plan = take-append_seam bytes _; many = length-replicate 16 no_order; slot = slot-free (ap is_live (fresh-order i)) refl }
