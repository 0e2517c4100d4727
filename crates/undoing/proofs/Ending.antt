-- The ends that a history tells are those that its steps answered, and what is promised at ends holds there. Assumes nothing.
use Prim.Native.Nat.{ℕ, zero, suc}
use native.Mathlib.Omega.{arith}
use mathlib.Core.Path.{◌≡◌, refl, sym, ap, subst, ◌∙◌}
use mathlib.Core.Bool.{Bool, true, false, cond, not, ◌&&◌, false≢true}
use mathlib.Core.List.{List, [], ◌∷◌, ◌++◌, append-nil, append_assoc}
use lib.Dec.{eqb, ltb}
use Rattle.plan.specs.Found.{Found, found}
use Rattle.plan.specs.Read.{read_plan}
use Rattle.plan.specs.Tree.{Own, empty, send, receive, set as setting, raise, leave, choose, repeat, sequence, flow, pick, scope, arm, Act, act, Acts, none, more, Plan, size}
use Rattle.plan.proofs.Limits.{accepted-is-within}
use Rattle.order.specs.declared.Order.{Order}
use Rattle.order.specs.declared.End.{End}
use Rattle.order.specs.declared.End.TheVariants.{None, Well, Handled, Failed, Left}
use Rattle.machine.specs.declared.State.{State}
use Rattle.machine.specs.declared.Tally.{Tally}
use Rattle.order.specs.Lists.{some, only}
use Rattle.order.specs.Expression.{Value, fault, value, evaluate}
use Rattle.order.specs.State.{root, inner}
use Rattle.machine.specs.State.{fresh}
use Rattle.order.specs.Event.{Event, started, began, closed, faulted, stopped, ended, raised, left}
use Rattle.order.specs.Acting.{begun_order, started_order, Actor, its_own, in_place, Moved, acted}
use Rattle.order.specs.Judging.{following, step_order}
use Rattle.undoing.proofs.Judged.{Fitting, passed-once}
use Rattle.machine.specs.Calls.{loaded_as, load, post, collect, drop_at, Stepped, doing_at, step, Call, posting, collecting, dropping, stepping}
use Rattle.undoing.specs.History.{log_of, history}
use Rattle.undoing.specs.Demand3.{closings_of, none_now, is_over, allowed}
use Rattle.undoing.specs.Orderly.{orderly}
use Rattle.undoing.specs.Ties.{is_deed, raised_if, raised_by, deed_of, deed_in, deed_among, deed_at, place_now, fits, due, is_raised, end_told, end_list, ends_in, end_by, ends_taken, EndsTold, heeds_after}
use Rattle.undoing.specs.Buyer.{at_ends, all_back, HandledTakesAllBack, none_back, WellTakesNothingBack}
use Rattle.undoing.proofs.Parts.{both, decide, alike-itself}
use Rattle.undoing.proofs.Moves.{HoldsAt, fair}
use Rattle.undoing.proofs.Orders.{ends_turned, older, moment_of, fair_after, onto}
use Rattle.undoing.proofs.Roots.{Awaited, Standing, EndedAs, Passed, passes_on, passes-end}
use Rattle.undoing.proofs.Planning.{Promised, promised}
use Rattle.undoing.proofs.Slots.{Alike, taking-alike, taken-so, order-starts, post-same, collect-same, drop-same, Sane, same-sane, fresh-sane}
use Rattle.undoing.proofs.Demanded.{step_after}
use Rattle.undoing.proofs.Happening.{order_in, with_message, Happens, nothing-here, goes-here, starts-here, step-happens}
use Rattle.undoing.proofs.Deeds.{acted-deeds, raised-deeds, start-deed}
use Rattle.undoing.proofs.Shapes.{is_grave, Calm, Shape, shape-calm, shape-fault, shape-end-fault, shape-end, shape-lost, OrderShape, shaped, out, order-shape, start-calm}
use Rattle.undoing.proofs.Fitting.{standing-fits}
use Rattle.undoing.proofs.Heeding.{left_by, Clear, clear-raised, heeds-append, heeds-clears, heeds-once, step-heeds, calm-heeds}
use Rattle.undoing.proofs.Sends.{by-sent}

-- Starts.

-- an order starts
unfoldable pub is_start : Event → Bool
is_start started = true
is_start (began k) = false
is_start (closed k) = false
is_start (faulted n x) = false
is_start (stopped k) = false
is_start (ended n) = false
is_start (raised k x) = false
is_start left = false

-- a start is a deed
pub start-kept : (l : List Event) → some is_start l ≡ some is_start (only is_deed l)
unfolding some only is_start is_deed
start-kept [] = refl
start-kept (started ∷ l) = refl
start-kept (began k ∷ l) = start-kept l
start-kept (closed k ∷ l) = start-kept l
start-kept (faulted n x ∷ l) = start-kept l
start-kept (stopped k ∷ l) = start-kept l
start-kept (ended n ∷ l) = start-kept l
start-kept (raised k x ∷ l) = start-kept l
start-kept (left ∷ l) = start-kept l

-- the step of no activity is a start
by-starts : (k : ℕ) (v : Value) → some is_start (raised_by k v) ≡ false
unfolding some is_start
by-starts k (fault x) = refl
by-starts k (value n) = refl

deed-starts : (own : Own) (k : ℕ) (o : Order) → some is_start (deed_of own k o) ≡ false
unfolding deed_of some is_start
deed-starts empty k o = refl
deed-starts (send x y vs) k o = by-sent (λ l. some is_start l ≡ false) x y vs k o refl (λ n. refl)
deed-starts (receive x y vs) k o = refl
deed-starts (setting v e) k o = by-starts k (evaluate e o)
deed-starts (raise zero) k o = refl
deed-starts (raise (suc number)) k o = refl
deed-starts leave k o = refl
deed-starts (choose e) k o = by-starts k (evaluate e o)
deed-starts (repeat e) k o = by-starts k (evaluate e o)
deed-starts sequence k o = refl
deed-starts flow k o = refl
deed-starts pick k o = refl
deed-starts (scope xs u) k o = refl
deed-starts (arm x y vs) k o = refl

either-starts : (b : Bool) (x y z : List Event) → z ≡ elim b [ true ↦ x | false ↦ y ] → some is_start x ≡ false → some is_start y ≡ false → some is_start z ≡ false
either-starts true x y z e h g = ap (some is_start) e ∙ h
either-starts false x y z e h g = ap (some is_start) e ∙ g

mutual
  unfolding deed_in some

  pub deed-in-starts : (a : Act) (k t : ℕ) (o : Order) → some is_start (deed_in a k t o) ≡ false
  deed-in-starts (act own within) k t o = either-starts (eqb k t) (deed_of own k o) (deed_among within _ t o) _ refl (deed-starts own k o) (deed-among-starts within _ t o)

  deed-among-starts : (l : Acts) (c t : ℕ) (o : Order) → some is_start (deed_among l c t o) ≡ false
  deed-among-starts none c t o = refl
  deed-among-starts (more a l) c t o = either-starts (ltb t _) (deed_in a c t o) (deed_among l _ t o) _ refl (deed-in-starts a c t o) (deed-among-starts l _ t o)

-- nor has the log of a walk one
pub log-starts : (actor : Actor) (p : Plan) (t : ℕ) (o : Order) → Fitting actor p t → some is_start (acted actor p t o).log ≡ false
unfolding deed_at some is_start
log-starts its_own p t o y =
    start-kept (acted its_own p t o).log
    ∙ (ap (some is_start) (acted-deeds p t o)
    ∙ either-starts (ltb t (size p.body)) (deed_in p.body 0 t o) (deed_in p.fault (size p.body) t o) (deed_at p t o) refl (deed-in-starts p.body 0 t o) (deed-in-starts p.fault (size p.body) t o))
log-starts in_place p t o y = start-kept (acted in_place p t o).log ∙ ap (some is_start) (raised-deeds p t o y)

-- The ends of a log.

-- where an order lives on, its newest event tells of no end
pub now-none : (past : List Event) → none_now past ≡ false → end_told past ≡ None
unfolding end_told none_now is_over
now-none [] h = refl
now-none (started ∷ past) h = refl
now-none (began k ∷ past) h = refl
now-none (closed k ∷ past) h = refl
now-none (faulted n x ∷ past) h = refl
now-none (stopped k ∷ past) h = refl
now-none (ended root ∷ past) h = absurd (false≢true (sym h))
now-none (ended (inner k) ∷ past) h = refl
now-none (raised k x ∷ past) h = refl
now-none (left ∷ past) h = absurd (false≢true (sym h))

-- nothing but a start is allowed after an order's end
pub after_none : (p : Plan) (past : List Event) (e : Event) → none_now past ≡ true → allowed p past e ≡ true → is_start e ≡ true
unfolding allowed is_start
after_none p past started n h = refl
after_none p past (began k) n h = absurd (false≢true (rw n at h))
after_none p past (closed k) n h = absurd (false≢true (rw n at h))
after_none p past (faulted m x) n h = absurd (false≢true (rw n at h))
after_none p past (stopped k) n h = absurd (false≢true (rw n at h))
after_none p past (ended m) n h = absurd (false≢true (rw n at h))
after_none p past (raised k x) n h = absurd (false≢true (rw n at h))
after_none p past left n h = absurd (false≢true (rw n at h))

-- so that a fair log without a start has no end but at its end
fair-ends : (p : Plan) (l past : List Event) → fair_after p past l ≡ true → some is_start l ≡ false → none_now past ≡ false → ends_in past l ≡ end_list (end_told (onto l past))
unfolding fair_after some ends_in
fair-ends p [] past h s n = sym (ap end_list (now-none past n))
fair-ends p (e ∷ l) past h s n =
    both (fair p past e) _ h (λ a b. decide (is_start e)
    (λ t. absurd (false≢true (sym (rw t at s))))
    (λ t. decide (none_now (e ∷ past))
    (λ v. last l v b (rw t at s))
    (λ v. ap (λ (x : End). end_list x ++ ends_in (e ∷ past) l) (now-none (e ∷ past) v) ∙ fair-ends p l (e ∷ past) b (rw t at s) v)))
  where
    last : (l : List Event) → none_now (e ∷ past) ≡ true → fair_after p (e ∷ past) l ≡ true → some is_start l ≡ false
        → end_list (end_told (e ∷ past)) ++ ends_in (e ∷ past) l ≡ end_list (end_told (onto l (e ∷ past)))
    last [] v b s = append-nil (end_list (end_told (e ∷ past)))
    last (d ∷ l) v b s =
        both (fair p (e ∷ past) d) _ b (λ x y. both (allowed p (e ∷ past) d) (orderly p (e ∷ past) d) x (λ z w.
        let q = after_none p (e ∷ past) d v z in absurd (false≢true (sym (rw q at s)))))

-- and what holds at its end holds at its ends
fair-at : (p : Plan) (f : End → List Event → Bool) → ((past : List Event) → f None past ≡ true) → (l past : List Event) → fair_after p past l ≡ true → some is_start l ≡ false
    → none_now past ≡ false → f (end_told (onto l past)) (older (onto l past)) ≡ true → at_ends f past l ≡ true
unfolding fair_after some at_ends
fair-at p f i [] past h s n g = refl
fair-at p f i (e ∷ l) past h s n g =
    both (fair p past e) _ h (λ a b. decide (is_start e)
    (λ t. absurd (false≢true (sym (rw t at s))))
    (λ t. decide (none_now (e ∷ past))
    (λ v. last l v b (rw t at s) g)
    (λ v. rw (now-none (e ∷ past) v, i past, fair-at p f i l (e ∷ past) b (rw t at s) v g))))
  where
    last : (l : List Event) → none_now (e ∷ past) ≡ true → fair_after p (e ∷ past) l ≡ true → some is_start l ≡ false
        → f (end_told (onto l (e ∷ past))) (older (onto l (e ∷ past))) ≡ true → (f (end_told (e ∷ past)) past && at_ends f (e ∷ past) l) ≡ true
    last [] v b s g = rw g
    last (d ∷ l) v b s g =
        both (fair p (e ∷ past) d) _ b (λ x y. both (allowed p (e ∷ past) d) (orderly p (e ∷ past) d) x (λ z w.
        let q = after_none p (e ∷ past) d v z in absurd (false≢true (sym (rw q at s)))))

-- two logs, one after the other
at-append : (f : End → List Event → Bool) (l m past : List Event) → at_ends f past l ≡ true → at_ends f (onto l past) m ≡ true → at_ends f past (l ++ m) ≡ true
unfolding at_ends
at-append f [] m past h g = g
at-append f (e ∷ l) m past h g = both (f (end_told (e ∷ past)) past) _ h (λ x y. rw (x, at-append f l m (e ∷ past) y g))

ends-append : (l m past : List Event) → ends_in past (l ++ m) ≡ ends_in past l ++ ends_in (onto l past) m
unfolding ends_in
ends-append [] m past = refl
ends-append (e ∷ l) m past = rw (ends-append l m (e ∷ past), append_assoc)

-- The root's end right after a raise.
unfoldable pub raw_end : (past : List Event) → Bool
raw_end [] = false
raw_end (started ∷ past) = false
raw_end (began k ∷ past) = false
raw_end (closed k ∷ past) = false
raw_end (faulted n x ∷ past) = false
raw_end (stopped k ∷ past) = false
raw_end (ended root ∷ past) = is_raised past
raw_end (ended (inner k) ∷ past) = false
raw_end (raised k x ∷ past) = false
raw_end (left ∷ past) = false

-- an order that lives on has none
pub now-cool : (past : List Event) → none_now past ≡ false → raw_end past ≡ false
unfolding raw_end none_now is_over
now-cool [] h = refl
now-cool (started ∷ past) h = refl
now-cool (began k ∷ past) h = refl
now-cool (closed k ∷ past) h = refl
now-cool (faulted n x ∷ past) h = refl
now-cool (stopped k ∷ past) h = refl
now-cool (ended root ∷ past) h = absurd (false≢true (sym h))
now-cool (ended (inner k) ∷ past) h = refl
now-cool (raised k x ∷ past) h = refl
now-cool (left ∷ past) h = refl

-- a calm log brings none
calm-cool : (l past : List Event) → Calm l → is_raised past ≡ false → raw_end past ≡ false → raw_end (onto l past) ≡ false
unfolding only is_grave is_raised raw_end
calm-cool [] past c h g = g
calm-cool (started ∷ l) past c h g = calm-cool l (started ∷ past) c refl refl
calm-cool (began k ∷ l) past c h g = calm-cool l (began k ∷ past) c refl refl
calm-cool (closed k ∷ l) past c h g = calm-cool l (closed k ∷ past) c refl refl
calm-cool (faulted n x ∷ l) past c h g = absurd (let z : ◌≡◌ {A = ℕ} 0 1 = cc in omega arith)
calm-cool (stopped k ∷ l) past c h g = calm-cool l (stopped k ∷ past) c refl refl
calm-cool (ended root ∷ l) past c h g = calm-cool l (ended root ∷ past) c refl h
calm-cool (ended (inner k) ∷ l) past c h g = calm-cool l (ended (inner k) ∷ past) c refl refl
calm-cool (raised k x ∷ l) past c h g = absurd (let z : ◌≡◌ {A = ℕ} 0 1 = cc in omega arith)
calm-cool (left ∷ l) past c h g = calm-cool l (left ∷ past) c refl refl

-- nor does one of its shape, where no raise is lost
shape-cool : (p : Plan) (t : ℕ) (o : Order) (l past : List Event) → Shape p t (left_by o) o l → fits (place_now p o t) o ≡ true → is_raised past ≡ false → raw_end past ≡ false → raw_end (onto l past) ≡ false
unfolding is_raised raw_end
shape-cool p t o l past (shape-calm c) f h g = calm-cool l past c h g
shape-cool p t o _ past (shape-fault {number} {n} {m} {ns} {l} x c) f h g = calm-cool l (faulted n number ∷ raised t number ∷ past) c refl refl
shape-cool p t o _ past (shape-end-fault {number} {n} {m} {l} x i z c) f h g = calm-cool l (faulted m number ∷ ended n ∷ raised t number ∷ past) c refl refl
shape-cool p t o _ past (shape-end {number} {k} {m} {l} x i z c) f h g = calm-cool l (ended (inner k) ∷ raised t number ∷ past) c refl refl
shape-cool p t o _ past (shape-lost {number} {q} {l} x i z c) f h g = absurd (false≢true (sym z ∙ (ap (λ v. fits v o) (sym x) ∙ f)))

-- How the newest event tells an end.
told-turned : (past : List Event) (b : Bool) → ends_turned past ≡ true → raw_end past ≡ b → end_told past ≡ cond b Failed Handled
unfolding ends_turned raw_end end_told
told-turned [] b h g = absurd (false≢true h)
told-turned (started ∷ past) b h g = absurd (false≢true h)
told-turned (began k ∷ past) b h g = absurd (false≢true h)
told-turned (closed k ∷ past) b h g = absurd (false≢true h)
told-turned (faulted n x ∷ past) b h g = absurd (false≢true h)
told-turned (stopped k ∷ past) b h g = absurd (false≢true h)
told-turned (ended root ∷ past) b h g = rw (h, g)
told-turned (ended (inner k) ∷ past) b h g = absurd (false≢true h)
told-turned (raised k x ∷ past) b h g = absurd (false≢true h)
told-turned (left ∷ past) b h g = absurd (false≢true h)

-- the end of an order whose log is of its shape
pub told-end : (p : Plan) (t : ℕ) (o : Order) (e : End) (number : ℕ) (l past : List Event) → EndedAs p e (onto l past) → OrderShape p t (left_by o) o e number l → fits (place_now p o t) o ≡ true
    → is_raised past ≡ false → raw_end past ≡ false → end_told (onto l past) ≡ e
unfolding raw_end is_raised
told-end p t o None number l past h s f c g = absurd h
told-end p t o Well number l past h s f c g = h.0
told-end p t o Handled number l past h (shaped x y) f c g = told-turned (onto l past) false h.0 (shape-cool p t o l past y f c g)
told-end p t o Failed number l past h (shaped x y) f c g = absurd (false≢true (sym x))
told-end p t o Failed number _ past h (out x y) f c g = told-turned (ended root ∷ raised t number ∷ past) true h refl
told-end p t o Left number l past h s f c g = h

-- What a promise at ends asks: nothing where there is none, and what is known of an order that ended so.
pub record Kept (p : Plan) (f : End → List Event → Bool) : Type 0 where
  pub none : (past : List Event) → f None past ≡ true
  pub ended : (e : End) (past : List Event) → EndedAs p e past → f e (older past) ≡ true

module _ (p : Plan) (h : Promised p) where
  -- the ends of a log, and what is promised there
  abbrev Ends : List Event → List Event → End → Type 0
  Ends past l e = (ends_in past l ≡ end_list e) × ((f : End → List Event → Bool) → Kept p f → at_ends f past l ≡ true)

  -- of one walk, and that it is heeded; so of two, one after the other
  abbrev Ended : List Event → Moved → Type 0
  Ended past m = Clear p past → Ends past m.log m.end × (heeds_after p past m.log ≡ true)

  ends-once : (actor : Actor) (t : ℕ) (o : Order) (past : List Event) → Fitting actor p t → Awaited p o.marks t → Standing p o → HoldsAt p (moment_of p o) past → Ended past (acted actor p t o)
  ends-once actor t o past v w st g c = (go (passed-once p h actor t o past w st g), heeds-once p h actor t o past v w st g c)
    where
      l : List Event
      l = (acted actor p t o).log

      e : End
      e = (acted actor p t o).end

      fit : fits (place_now p o t) o ≡ true
      fit = standing-fits p o t st w

      go : Passed p past (acted actor p t o) → Ends past l e
      go (passes_on r d z y) =
          let q = now-none (onto l past) y.now in (
            fair-ends p l past r (log-starts actor p t o v) g.now ∙ (ap end_list q ∙ ap end_list (sym d)),
            λ f k. fair-at p f k.none l past r (log-starts actor p t o v) g.now (rw q (k.none (older (onto l past)))),
          )
      go (passes-end r d z) =
          let q = told-end p t o e (acted actor p t o).fault l past z (order-shape actor p h.seat t (left_by o) o (λ n i. refl)) fit (clear-raised p past c) (now-cool past g.now) in (
            fair-ends p l past r (log-starts actor p t o v) g.now ∙ ap end_list q,
            λ f k. fair-at p f k.none l past r (log-starts actor p t o v) g.now (rw q (k.ended e (onto l past) z)),
          )

  ends-joined : (past : List Event) (m m' : Moved) → m.end ≡ None → Ended past m → Ended (onto m.log past) m' → Ended past (following m.log m')
  ends-joined past m m' e x y c =
      let a = x c in
      let b = y (heeds-clears p m.log past a.1) in (
        (
          ends-append m.log m'.log past ∙ (ap (λ (z : List End). z ++ ends_in (onto m.log past) m'.log) (a.0.0 ∙ ap end_list e) ∙ b.0.0),
          λ f k. at-append f m.log m'.log past (a.0.1 f k) (b.0.1 f k),
        ),
        heeds-append p m.log m'.log past a.1 b.1,
      )

  -- a step of an order that stands and has taken its message
  order-ends : (t : ℕ) (o o' : Order) (past : List Event) → Alike p o o' → Awaited p o.marks t → Standing p o → HoldsAt p (moment_of p o) past → Clear p past
      → Ends past (step_order p t o').log (step_order p t o').end
  order-ends t o o' past a w st g c = (taken-so p h Ended ends-once ends-joined t o o' past a w st g c).0

-- where an order starts it does not end
started-ends : (p : Plan) (l past : List Event) → fair_after p past (started ∷ l) ≡ true → only is_deed (started ∷ l) ≡ started ∷ [] → none_now (onto l (started ∷ past)) ≡ false
    → (ends_in past (started ∷ l) ≡ []) × ((f : End → List Event → Bool) → Kept p f → at_ends f past (started ∷ l) ≡ true)
unfolding fair_after ends_in at_ends end_told only is_deed none_now is_over some
started-ends p l past h d n =
    both (fair p past started) _ h (λ x y.
    let s : some is_start l ≡ false = start-kept l ∙ ap (some is_start) (let z : only is_deed l ≡ [] = cc in z) in
    let q = now-none (onto l (started ∷ past)) n in (
      fair-ends p l (started ∷ past) y s refl ∙ ap end_list q,
      λ f k. rw (k.none past, fair-at p f k.none l (started ∷ past) y s refl (rw q (k.none (older (onto l (started ∷ past)))))),
    ))

module _ (p : Plan) (bytes : List ℕ) (next i : ℕ) (accepted : read_plan bytes ≡ found p next) (h : Promised p) where
  -- a step, in this slot or elsewhere
  step-ends : (s : State) (past : List Event) (r : Stepped) → Happens p i s past r → Clear p past
      → (ends_in past (log_of i r) ≡ end_by i r) × ((f : End → List Event → Bool) → Kept p f → at_ends f past (log_of i r) ≡ true)
  unfolding ends_in at_ends
  step-ends s past r (nothing-here n l e o) c = (rw (l, e), λ f k. rw l)
  step-ends s past r (goes-here t v q w st m g l e d) c =
      let x = order-ends p h t (order_in s i) (with_message p t v (order_in s i)) past (taking-alike p (doing_at p t) v (order_in s i)) w st g c in (ap (ends_in past) l ∙ (x.0 ∙ sym e), λ f k. rw l (x.1 f k))
  step-ends s past r (starts-here t v q w z n l e d) c =
      let o = with_message p t v (started_order p) in
      let b = order-starts p h t past n w in
      let l₀ = started ∷ (begun_order p).log in
      let y = started-ends p (begun_order p).log past b.0 (start-deed p) b.2.now in
      let x = order-ends p h t (started_order p) o (onto l₀ past) (taking-alike p (doing_at p t) v (started_order p)) w b.1 b.2 (heeds-clears p l₀ past (calm-heeds p l₀ past (start-calm p) c)) in (
        ap (ends_in past) l ∙ (ends-append l₀ (step_order p t o).log past ∙ (ap (λ z. z ++ ends_in (onto l₀ past) (step_order p t o).log) y.0 ∙ (x.0 ∙ sym e))),
        λ f k. rw l (at-append f l₀ (step_order p t o).log past (y.1 f k) (x.1 f k)),
      )

  -- over any calls
  all-ends : (calls : List Call) (s : State) (t : Tally) (past : List Event) → Sane p bytes next i accepted h s past → Clear p past
      → (ends_in past (history calls i s t) ≡ ends_taken calls i s t) × ((f : End → List Event → Bool) → Kept p f → at_ends f past (history calls i s t) ≡ true)
  unfolding history ends_taken ends_in at_ends
  all-ends [] s t past g c = (refl, λ f k. refl)
  all-ends (posting m ∷ l) s t past g c = all-ends l (post m s).state t past (same-sane p bytes next i accepted h s (post m s).state past (post-same m s) g) c
  all-ends (collecting ∷ l) s t past g c = all-ends l (collect s).state t past (same-sane p bytes next i accepted h s (collect s).state past (collect-same s) g) c
  all-ends (dropping j ∷ l) s t past g c = all-ends l (drop_at j s).state t past (same-sane p bytes next i accepted h s (drop_at j s).state past (drop-same j s) g) c
  all-ends (stepping v ∷ l) s t past g c =
      let r = step v s t in
      let x = step-ends s past r (step-happens p bytes next i accepted h v s t past g).happens c in
      let y = all-ends l r.state r.tally (onto (log_of i r) past) (step_after p bytes next i accepted h v s t past g).1 (heeds-clears p (log_of i r) past (step-heeds p bytes next i accepted h v s t past g c)) in (
        ends-append (log_of i r) (history l i r.state r.tally) past ∙ rw (x.0, y.0),
        λ f k. at-append f (log_of i r) (history l i r.state r.tally) past (x.1 f k) (y.1 f k),
      )

-- from a fresh start
from-fresh : (bytes : List ℕ) (p : Plan) (next : ℕ) → read_plan bytes ≡ found p next → (calls : List Call) (slot : ℕ) (t : Tally)
    → (ends_in [] (history calls slot (load bytes).state t) ≡ ends_taken calls slot (load bytes).state t)
    × ((f : End → List Event → Bool) → Kept p f → at_ends f [] (history calls slot (load bytes).state t) ≡ true)
unfolding load due
from-fresh bytes p next e calls slot t =
    subst (λ (f : Found Plan). (ends_in [] (history calls slot (loaded_as bytes f).state t) ≡ ends_taken calls slot (loaded_as bytes f).state t)
    × ((g : End → List Event → Bool) → Kept p g → at_ends g [] (history calls slot (loaded_as bytes f).state t) ≡ true)) (sym e)
    (all-ends p bytes next slot e (promised p (accepted-is-within bytes e)) calls (fresh bytes) t [] (fresh-sane p bytes next slot e (promised p (accepted-is-within bytes e))) refl)

-- The ends of a history are those answered.
pub ends-told : EndsTold
unfolding EndsTold
ends-told bytes p next e calls slot t = (from-fresh bytes p next e calls slot t).0

-- An order that ended handled has taken all back, and one that ended well nothing.
pub handled-takes-all-back : HandledTakesAllBack
unfolding HandledTakesAllBack
handled-takes-all-back bytes p next e calls slot t = (from-fresh bytes p next e calls slot t).1 (all_back p) (record { none = λ past. refl; ended = kept })
  where
    kept : (e : End) (past : List Event) → EndedAs p e past → all_back p e (older past) ≡ true
    kept None past h = refl
    kept Well past h = refl
    kept Handled past h = rw (h.1, alike-itself (closings_of p root (older past)))
    kept Failed past h = refl
    kept Left past h = refl

pub well-takes-nothing-back : WellTakesNothingBack
unfolding WellTakesNothingBack
well-takes-nothing-back bytes p next e calls slot t = (from-fresh bytes p next e calls slot t).1 (none_back p) (record { none = λ past. refl; ended = kept })
  where
    kept : (e : End) (past : List Event) → EndedAs p e past → none_back p e (older past) ≡ true
    kept None past h = refl
    kept Well past h = rw h.1
    kept Handled past h = refl
    kept Failed past h = refl
    kept Left past h = refl
