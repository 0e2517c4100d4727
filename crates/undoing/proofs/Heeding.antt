-- What is due happens next, and nothing faults but where that is due. Assumes nothing.
use Prim.Native.Nat.{ℕ, ◌+◌, ◌≤◌}
use native.Mathlib.Omega.{arith}
use mathlib.Core.Path.{◌≡◌, refl, sym, ap, subst, ◌∙◌}
use mathlib.Core.Bool.{true, false, cond, false≢true, Bool, not}
use mathlib.Core.List.{List, [], ◌∷◌, ◌++◌}
use lib.ListN.{length}
use lib.Dec.{eqb}
use borrow.Author.Tests.{eq-eqb}
use Rattle.plan.specs.Found.{Found, found}
use Rattle.plan.specs.Read.{read_plan}
use Rattle.plan.specs.Tree.{Plan, size}
use Rattle.plan.proofs.Limits.{accepted-is-within}
use Rattle.order.specs.declared.Order.{Order}
use Rattle.order.specs.declared.End.{End}
use Rattle.machine.specs.declared.State.{State}
use Rattle.machine.specs.declared.Tally.{Tally}
use Rattle.order.specs.Lists.{only}
use Rattle.order.specs.State.{Name, root, inner, mark_of, idle}
use Rattle.machine.specs.State.{fresh}
use Rattle.order.specs.Event.{Event, started, began, closed, faulted, stopped, ended, raised, left}
use Rattle.order.specs.Scope.{is_open, root_of}
use Rattle.order.specs.Acting.{Actor, Moved, acted, begun_order, started_order}
use Rattle.order.specs.declared.End.TheVariants.{None}
use Rattle.order.specs.Judging.{following, step_order}
use Rattle.machine.specs.Calls.{loaded_as, load, post, collect, drop_at, Stepped, doing_at, step, Call, posting, collecting, dropping, stepping}
use Rattle.undoing.specs.History.{log_of, history}
use Rattle.undoing.specs.Demand3.{may_turn, is_left}
use Rattle.undoing.specs.Ties.{is_name, fits, Place, body_of, fault_of, undo_of, place_of, Due, nothing, fault, end, due_first, due_second, due_ended, due, is_fault_of, is_fault_with, is_end_of, heeds, is_nothing, heeds_after, FaultsTold, is_raised, seen, place_after, place_now}
use Rattle.undoing.proofs.Parts.{both, same-itself}
use Rattle.undoing.proofs.Accounts.{account_of, left-unfinished}
use Rattle.undoing.proofs.Moves.{HoldsAt}
use Rattle.undoing.proofs.Orders.{list_of, moment_of, onto, does-nothing}
use Rattle.undoing.proofs.Roots.{Awaited, Standing}
use Rattle.undoing.proofs.Planning.{Promised, promised}
use Rattle.undoing.proofs.Seats.{Seat}
use Rattle.undoing.proofs.Chains.{place-named, seen_same}
use Rattle.undoing.proofs.Shapes.{is_grave, Calm, Handler, in-fault, in-undo, Shape, shape-calm, shape-fault, shape-end-fault, shape-end, shape-lost, OrderShape, shaped, out, order-shape, start-calm}
use Rattle.undoing.proofs.Fitting.{standing-fits}
use Rattle.undoing.proofs.Told.{told}
use Rattle.undoing.proofs.Happening.{order_in, with_message, Happens, nothing-here, goes-here, starts-here, step-happens}
use Rattle.undoing.proofs.Scoping.{Running}
use Rattle.undoing.proofs.Judged.{Fitting}
use Rattle.undoing.proofs.Slots.{taken-so, Alike, taking-alike, order-starts, post-same, collect-same, drop-same, Sane, same-sane, fresh-sane}
use Rattle.undoing.proofs.Demanded.{step_after}

-- nothing is due
abbrev pub Clear : Plan → (past : List Event) → Type 0
Clear p past = is_nothing (due p past) ≡ true

-- then it is not
clear-is : (d : Due) → is_nothing d ≡ true → d ≡ nothing
clear-is nothing e = refl
clear-is (fault s x) e = absurd (false≢true e)
clear-is (end s) e = absurd (false≢true e)

-- a raise has something due after it
first-due : (x : ℕ) (q : Place) → is_nothing (due_first x q) ≡ false
first-due x (body_of n ns m) = refl
first-due x (fault_of n ns m) = refl
first-due x (undo_of n ns m) = refl

-- so that where nothing is due, the newest event is no raise
pub clear-raised : (p : Plan) (past : List Event) → Clear p past → is_raised past ≡ false
unfolding due is_raised
clear-raised p [] h = refl
clear-raised p (started ∷ past) h = refl
clear-raised p (began k ∷ past) h = refl
clear-raised p (closed k ∷ past) h = refl
clear-raised p (faulted n x ∷ past) h = refl
clear-raised p (stopped k ∷ past) h = refl
clear-raised p (ended n ∷ past) h = refl
clear-raised p (raised k x ∷ past) h = absurd (false≢true (sym (first-due x (place_after p past k)) ∙ h))
clear-raised p (left ∷ past) h = refl

-- and nothing is due after an end either
clear-ended : (p : Plan) (past : List Event) → Clear p past → is_nothing (due_ended p past) ≡ true
unfolding due due_ended
clear-ended p [] h = refl
clear-ended p (started ∷ past) h = refl
clear-ended p (began k ∷ past) h = refl
clear-ended p (closed k ∷ past) h = refl
clear-ended p (faulted n x ∷ past) h = refl
clear-ended p (stopped k ∷ past) h = refl
clear-ended p (ended n ∷ past) h = refl
clear-ended p (raised k x ∷ past) h = absurd (false≢true (sym (first-due x (place_after p past k)) ∙ h))
clear-ended p (left ∷ past) h = refl

-- an event that is no fault, where nothing is due
heeds-clear : (d : Due) (e : Event) → is_nothing d ≡ true → is_fault_of (λ n. true) e ≡ false → heeds d e ≡ true
heeds-clear nothing e h f = rw f
heeds-clear (fault s x) e h f = absurd (false≢true h)
heeds-clear (end s) e h f = absurd (false≢true h)

-- a calm log
pub calm-heeds : (p : Plan) (l past : List Event) → Calm l → Clear p past → heeds_after p past l ≡ true
unfolding heeds_after only is_grave due is_fault_of
calm-heeds p [] past c h = h
calm-heeds p (started ∷ l) past c h = rw (heeds-clear (due p past) started h refl, calm-heeds p l (started ∷ past) c refl)
calm-heeds p (began k ∷ l) past c h = rw (heeds-clear (due p past) (began k) h refl, calm-heeds p l (began k ∷ past) c refl)
calm-heeds p (closed k ∷ l) past c h = rw (heeds-clear (due p past) (closed k) h refl, calm-heeds p l (closed k ∷ past) c refl)
calm-heeds p (faulted n x ∷ l) past c h = absurd (let z : ◌≡◌ {A = ℕ} 0 1 = cc in omega arith)
calm-heeds p (stopped k ∷ l) past c h = rw (heeds-clear (due p past) (stopped k) h refl, calm-heeds p l (stopped k ∷ past) c refl)
calm-heeds p (ended n ∷ l) past c h = rw (heeds-clear (due p past) (ended n) h refl, calm-heeds p l (ended n ∷ past) c (clear-ended p past h))
calm-heeds p (raised k x ∷ l) past c h = absurd (let z : ◌≡◌ {A = ℕ} 0 1 = cc in omega arith)
calm-heeds p (left ∷ l) past c h = rw (heeds-clear (due p past) left h refl, calm-heeds p l (left ∷ past) c refl)

-- at its end nothing is due
pub heeds-clears : (p : Plan) (l past : List Event) → heeds_after p past l ≡ true → Clear p (onto l past)
unfolding heeds_after
heeds-clears p [] past h = h
heeds-clears p (e ∷ l) past h = both (heeds (due p past) e) _ h (λ x y. heeds-clears p l (e ∷ past) y)

-- some events and then others
pub heeds-append : (p : Plan) (l m past : List Event) → heeds_after p past l ≡ true → heeds_after p (onto l past) m ≡ true → heeds_after p past (l ++ m) ≡ true
unfolding heeds_after
heeds-append p [] m past h g = g
heeds-append p (e ∷ l) m past h g = both (heeds (due p past) e) _ h (λ x y. rw (x, heeds-append p l m (e ∷ past) y g))

-- which scopes an order's marks say are left running
abbrev pub left_by : Order → Name → Bool
left_by o n = not (eqb (mark_of n o) idle)

-- what is due after a raise in a part that a scope runs
handler-first : (p : Plan) (t x : ℕ) (φ : Name → Bool) (n m : Name) → Handler p t φ n m → due_first x (seen φ (place_of p t)) ≡ end n
handler-first p t x φ n m (in-fault e y) = ap (λ (q : Place). due_first x (seen φ q)) e
handler-first p t x φ n m (in-undo e y) = ap (due_first x) e

handler-second : (p : Plan) (t x : ℕ) (φ : Name → Bool) (n m : Name) (past : List Event) → Handler p t φ n m → due_second x past (seen φ (place_of p t)) ≡ cond (may_turn m past) (fault m x) nothing
handler-second p t x φ n m past (in-fault e y) = ap (λ (q : Place). due_second x past (seen φ q)) e ∙ ap (λ (z : Name). cond (may_turn z past) (fault z x) nothing) y
handler-second p t x φ n m past (in-undo e y) = ap (due_second x past) e ∙ ap (λ (z : Name). cond (may_turn z past) (fault z x) nothing) y

-- whether a scope may turn is told by its mark
may-turn : (p : Plan) (o : Order) (past : List Event) (n : Name) → HoldsAt p (moment_of p o) past → is_name p n ≡ true → is_open (mark_of n o) ≡ may_turn n past
unfolding may_turn
may-turn p o past n h i = (told (mark_of n o) (list_of p n o) (account_of p n past) (λ l. left-unfinished n past l) (h.ties n i)).opens

-- the history sees the place that the marks do
pub after-now : (p : Plan) → Seat p (root_of p) → (t : ℕ) (o : Order) (past : List Event) → HoldsAt p (moment_of p o) past → place_after p past t ≡ seen (left_by o) (place_of p t)
after-now p g t o past h =
    seen_same p (λ n. is_left n past) (left_by o)
    (λ n i. sym (told (mark_of n o) (list_of p n o) (account_of p n past) (λ l. left-unfinished n past l) (h.ties n i)).idles) (place_of p t) (place-named p g t)

-- a log of its shape
shape-heeds : (p : Plan) → Seat p (root_of p) → (t : ℕ) (o : Order) (l past : List Event) → HoldsAt p (moment_of p o) past → fits (place_now p o t) o ≡ true → Clear p past → Shape p t (left_by o) o l
    → heeds_after p past l ≡ true
unfolding heeds_after due due_ended is_fault_of is_fault_with is_end_of
shape-heeds p g t o l past h f c (shape-calm x) = calm-heeds p l past x c
shape-heeds p g t o _ past h f c (shape-fault {number} {n} {m} {ns} {l} x y) =
    rw (heeds-clear (due p past) (raised t number) c refl, x, same-itself n, eq-eqb number number refl, calm-heeds p l (faulted n number ∷ raised t number ∷ past) y refl)
shape-heeds p g t o _ past h f c (shape-end-fault {number} {n} {m} {l} x i z y) =
    rw (
      heeds-clear (due p past) (raised t number) c refl,
      after-now p g t o past h,
      handler-first p t number (left_by o) n m x,
      same-itself n,
      handler-second p t number (left_by o) n m past x,
      sym (may-turn p o past m h i) ∙ z,
      same-itself m,
      eq-eqb number number refl,
      calm-heeds p l (faulted m number ∷ ended n ∷ raised t number ∷ past) y refl,
    )
shape-heeds p g t o _ past h f c (shape-end {number} {k} {m} {l} x i z y) =
    rw (
      heeds-clear (due p past) (raised t number) c refl,
      after-now p g t o past h,
      handler-first p t number (left_by o) (inner k) m x,
      same-itself (inner k),
      calm-heeds p l (ended (inner k) ∷ raised t number ∷ past) y (rw (after-now p g t o past h, handler-second p t number (left_by o) (inner k) m past x, sym (may-turn p o past m h i) ∙ z) refl),
    )
shape-heeds p g t o _ past h f c (shape-lost {number} {q} {l} x i z y) = absurd (false≢true (sym z ∙ (ap (λ (v : Place). fits v o) (sym x) ∙ f)))

-- the log of a step of an order
order-shape-heeds : (p : Plan) → Seat p (root_of p) → (t : ℕ) (o : Order) (e : End) (number : ℕ) (l past : List Event) → HoldsAt p (moment_of p o) past → fits (place_now p o t) o ≡ true → Clear p past
    → OrderShape p t (left_by o) o e number l → heeds_after p past l ≡ true
unfolding heeds_after due due_ended is_fault_of is_fault_with is_end_of
order-shape-heeds p g t o e number l past h f c (shaped x y) = shape-heeds p g t o l past h f c y
order-shape-heeds p g t o _ number _ past h f c (out x z) =
    rw (
      heeds-clear (due p past) (raised t number) c refl,
      after-now p g t o past h,
      handler-first p t number (left_by o) root root x,
      handler-second p t number (left_by o) root root past x,
      sym (may-turn p o past root h refl) ∙ z,
    )

module _ (p : Plan) (h : Promised p) where
  -- what one walk logs is heeded; so are two, one after the other
  abbrev Heeded : List Event → Moved → Type 0
  Heeded past m = Clear p past → heeds_after p past m.log ≡ true

  pub heeds-once : (actor : Actor) (t : ℕ) (o : Order) (past : List Event) → Fitting actor p t → Awaited p o.marks t → Standing p o → HoldsAt p (moment_of p o) past → Heeded past (acted actor p t o)
  heeds-once actor t o past y w st g c =
      order-shape-heeds p h.seat t o (acted actor p t o).end (acted actor p t o).fault (acted actor p t o).log past g (standing-fits p o t st w) c (order-shape actor p h.seat t (left_by o) o (λ n i. refl))

  heeds-joined : (past : List Event) (m m' : Moved) → m.end ≡ None → Heeded past m → Heeded (onto m.log past) m' → Heeded past (following m.log m')
  heeds-joined past m m' e x y c = heeds-append p m.log m'.log past (x c) (y (heeds-clears p m.log past (x c)))

  -- a step of an order that stands and has taken its message
  order-heeds : (t : ℕ) (o o' : Order) (past : List Event) → Alike p o o' → Awaited p o.marks t → Standing p o → HoldsAt p (moment_of p o) past → Clear p past
      → heeds_after p past (step_order p t o').log ≡ true
  order-heeds t o o' past e w st g = taken-so p h Heeded heeds-once heeds-joined t o o' past e w st g

module _ (p : Plan) (bytes : List ℕ) (next i : ℕ) (accepted : read_plan bytes ≡ found p next) (h : Promised p) where
  abbrev Heeds : List Event → Stepped → Type 0
  Heeds past r = heeds_after p past (log_of i r) ≡ true

  -- a step, in this slot or elsewhere
  pub step-heeds : (c : ℕ) (s : State) (t : Tally) (past : List Event) → Sane p bytes next i accepted h s past → Clear p past → Heeds past (step c s t)
  unfolding heeds_after
  step-heeds c s t past g z = go (step-happens p bytes next i accepted h c s t past g).happens
    where
      r : Stepped
      r = step c s t

      go : Happens p i s past r → Heeds past r
      go (nothing-here n l e o) = rw l z
      go (goes-here t v q w st m y l e d) = rw l (order-heeds p h t (order_in s i) (with_message p t v (order_in s i)) past (taking-alike p (doing_at p t) v (order_in s i)) w st y z)
      go (starts-here t v q w n y l e d) =
          let o = with_message p t v (started_order p) in
          let b = order-starts p h t past y w in
          let l₀ = started ∷ (begun_order p).log in
          let x = calm-heeds p l₀ past (start-calm p) z in
          rw l (heeds-append p l₀ (step_order p t o).log past x (order-heeds p h t (started_order p) o (onto l₀ past) (taking-alike p (doing_at p t) v (started_order p)) w b.1 b.2 (heeds-clears p l₀ past x)))

  -- over any calls
  heeding : (calls : List Call) (s : State) (t : Tally) (past : List Event) → Sane p bytes next i accepted h s past → Clear p past → heeds_after p past (history calls i s t) ≡ true
  unfolding history heeds_after
  heeding [] s t past g c = c
  heeding (posting m ∷ l) s t past g c = heeding l (post m s).state t past (same-sane p bytes next i accepted h s (post m s).state past (post-same m s) g) c
  heeding (collecting ∷ l) s t past g c = heeding l (collect s).state t past (same-sane p bytes next i accepted h s (collect s).state past (collect-same s) g) c
  heeding (dropping j ∷ l) s t past g c = heeding l (drop_at j s).state t past (same-sane p bytes next i accepted h s (drop_at j s).state past (drop-same j s) g) c
  heeding (stepping v ∷ l) s t past g c =
      let r = step v s t in
      let z = step-heeds v s t past g c in
      heeds-append p (log_of i r) (history l i r.state r.tally) past z
      (heeding l r.state r.tally (onto (log_of i r) past) (step_after p bytes next i accepted h v s t past g).1 (heeds-clears p (log_of i r) past z))

-- A raise has its consequences, and nothing faults without one.
pub faults-told : FaultsTold
unfolding FaultsTold load due
faults-told bytes p next e calls slot t =
    subst (λ (f : Found Plan). heeds_after p [] (history calls slot (loaded_as bytes f).state t) ≡ true) (sym e)
    (heeding p bytes next slot e (promised p (accepted-is-within bytes e)) calls (fresh bytes) t [] (fresh-sane p bytes next slot e (promised p (accepted-is-within bytes e))) refl)
