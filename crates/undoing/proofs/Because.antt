-- The numbers answered with the ends of orders are those that the history tells; a root that faulted keeps its own, and a scope the choice for its own. Assumes nothing.
use Prim.Native.Nat.{ℕ}
use native.Mathlib.Omega.{arith}
use mathlib.Core.Path.{◌≡◌, refl, sym, ap, subst, ◌∙◌}
use mathlib.Core.Bool.{Bool, true, false, cond, not, ◌&&◌, ◌||◌, false≢true}
use mathlib.Core.List.{List, [], ◌∷◌, ◌++◌, append-nil, append_assoc}
use lib.ListN.{get_or}
use lib.Dec.{eqb}
use borrow.Author.Tests.{eqb-true, eq-eqb}
use Rattle.plan.specs.Found.{Found, found}
use Rattle.plan.specs.Read.{read_plan}
use Rattle.plan.specs.Tree.{Plan}
use Rattle.plan.proofs.Limits.{accepted-is-within}
use Rattle.order.specs.declared.Order.{Order}
use Rattle.order.specs.declared.End.{End}
use Rattle.order.specs.declared.End.TheVariants.{None, Well, Handled, Failed, Left}
use Rattle.machine.specs.declared.State.{State}
use Rattle.machine.specs.declared.Tally.{Tally}
use Rattle.order.specs.Lists.{some, only, each}
use Rattle.order.specs.State.{idle, active, done, faulty, undoing, handling, halted, withdrawing, Name, root, inner, state_in, choice_in, mark_of, choice_of, is_live, no_order}
use Rattle.machine.specs.State.{fresh}
use Rattle.order.specs.Event.{Event, started, began, closed, faulted, stopped, ended, raised, left}
use Rattle.order.specs.Acting.{begun_order, started_order, Actor, Moved, acted}
use Rattle.order.specs.Judging.{following, step_order}
use Rattle.machine.specs.Calls.{loaded_as, load, post, collect, drop_at, Stepped, doing_at, step, Call, posting, collecting, dropping, stepping}
use Rattle.undoing.specs.History.{log_of, history}
use Rattle.undoing.specs.Demand3.{since, is_begin, is_turn, is_finish, has_turned, none_now, is_over, allowed}
use Rattle.undoing.specs.Orderly.{orderly, has_faulted, choice_told, is_choice, is_cause, ChoicesTold}
use Rattle.undoing.specs.Ties.{is_name, state_after, order_after, past_after, is_deed, due, is_fault_of, heeds_after, end_told, end_list, end_by, numbers_told, number_told, raise_told, cause_by, causes_in, cause_answered, cause_of, causes_taken, HandledBecause}
use Rattle.undoing.proofs.Parts.{both, decide}
use Rattle.undoing.proofs.Accounts.{account_of, left-unfinished, Phase, rest, live, waits, undoes, heals, odd, phase, is_hurt, choice_by, Tied, Chosen}
use Rattle.undoing.proofs.Moves.{HoldsAt, fair}
use Rattle.undoing.proofs.Orders.{ends_turned, older, list_of, moment_of, fair_after, onto, onto-append}
use Rattle.undoing.proofs.Roots.{Awaited, Standing, EndedAs, Passed, passes_on, passes-end}
use Rattle.undoing.proofs.Planning.{Promised, promised}
use Rattle.undoing.proofs.Judged.{Fitting, passed-once, root-turns}
use Rattle.undoing.proofs.Slots.{Slot, slot-free, slot-live, standing-live, Alike, taking-alike, taken-so, taken_step, order-starts, post-same, collect-same, drop-same, Sane, same-sane, fresh-sane}
use Rattle.undoing.proofs.Demanded.{step_after}
use Rattle.undoing.proofs.Happening.{order_in, with_message, Happens, nothing-here, goes-here, starts-here, step-happens}
use Rattle.undoing.proofs.Deeds.{start-deed}
use Rattle.undoing.proofs.Shapes.{OrderShape, shaped, out, order-shape, start-calm}
use Rattle.undoing.proofs.Fitting.{standing-fits}
use Rattle.undoing.proofs.Told.{slot-after}
use Rattle.undoing.proofs.Heeding.{left_by, Clear, clear-raised, heeds-append, heeds-clears, heeds-once, step-heeds, calm-heeds}
use Rattle.undoing.proofs.Ending.{is_start, start-kept, log-starts, now-none, after_none, told-end, now-cool}
use Rattle.undoing.proofs.Numbered.{next_number, number_after, Told, order-moves, taking-cause, started-number}

-- A number is known by a past where it is that of the newest fault of the root since it began, if there is one.
record Known (c : ℕ) (past : List Event) : Type 0 where
  known : has_faulted root past ≡ true → c ≡ number_told root past

-- an order starts with none
start-known : (c : ℕ) (past : List Event) → Known c (started ∷ past)
unfolding has_faulted since is_begin some
start-known c past = record { known = λ h. absurd (false≢true h) }

-- event by event, and over a log
next_known : (c : ℕ) (e : Event) (past : List Event) → Known c past → Known (next_number c e) (e ∷ past)
unfolding has_faulted number_told since is_begin is_fault_of numbers_told some each
next_known c started past w = start-known c past
next_known c (began k) past w = record { known = w.known }
next_known c (closed k) past w = record { known = w.known }
next_known c (faulted root x) past w = record { known = λ h. refl }
next_known c (faulted (inner k) x) past w = record { known = w.known }
next_known c (stopped k) past w = record { known = w.known }
next_known c (ended n) past w = record { known = w.known }
next_known c (raised k x) past w = record { known = w.known }
next_known c left past w = record { known = w.known }

log-known : (l : List Event) (c : ℕ) (past : List Event) → Known c past → Known (number_after c l) (onto l past)
unfolding number_after
log-known [] c past w = w
log-known (e ∷ l) c past w = log-known l (next_number c e) (e ∷ past) (next_known c e past w)

-- the root that ends and had turned has faulted, and its end does not change its number
turned-faulted : (past : List Event) → ends_turned past ≡ true → (has_faulted root past ≡ true) × (number_told root past ≡ number_told root (older past))
unfolding ends_turned has_turned has_faulted number_told since is_begin is_fault_of numbers_told some each
turned-faulted [] h = absurd (false≢true h)
turned-faulted (started ∷ past) h = absurd (false≢true h)
turned-faulted (began k ∷ past) h = absurd (false≢true h)
turned-faulted (closed k ∷ past) h = absurd (false≢true h)
turned-faulted (faulted n x ∷ past) h = absurd (false≢true h)
turned-faulted (stopped k ∷ past) h = absurd (false≢true h)
turned-faulted (ended root ∷ past) h = (sym (root-turns (since root past)) ∙ both (some (is_turn root) (since root past)) (not (some (is_finish root) (since root past))) h (λ x y. x), refl)
turned-faulted (ended (inner k) ∷ past) h = absurd (false≢true h)
turned-faulted (raised k x ∷ past) h = absurd (false≢true h)
turned-faulted (left ∷ past) h = absurd (false≢true h)

-- The numbers of a log.
causes-append : (l m past : List Event) → causes_in past (l ++ m) ≡ causes_in past l ++ causes_in (onto l past) m
unfolding causes_in
causes-append [] m past = refl
causes-append (e ∷ l) m past = rw (causes-append l m (e ∷ past), append_assoc)

-- a fair log without a start has none but at its end
fair-causes : (p : Plan) (l past : List Event) → fair_after p past l ≡ true → some is_start l ≡ false → none_now past ≡ false → causes_in past l ≡ cause_by (older (onto l past)) (end_told (onto l past))
unfolding fair_after some causes_in
fair-causes p [] past h s n = sym (ap (cause_by (older past)) (now-none past n))
fair-causes p (e ∷ l) past h s n =
    both (fair p past e) _ h (λ a b. decide (is_start e)
    (λ t. absurd (false≢true (sym (rw t at s))))
    (λ t. decide (none_now (e ∷ past))
    (λ v. last l v b (rw t at s))
    (λ v. ap (λ (x : End). cause_by past x ++ causes_in (e ∷ past) l) (now-none (e ∷ past) v) ∙ fair-causes p l (e ∷ past) b (rw t at s) v)))
  where
    last : (l : List Event) → none_now (e ∷ past) ≡ true → fair_after p (e ∷ past) l ≡ true → some is_start l ≡ false
        → cause_by past (end_told (e ∷ past)) ++ causes_in (e ∷ past) l ≡ cause_by (older (onto l (e ∷ past))) (end_told (onto l (e ∷ past)))
    last [] v b s = append-nil (cause_by past (end_told (e ∷ past)))
    last (d ∷ l) v b s =
        both (fair p (e ∷ past) d) _ b (λ x y. both (allowed p (e ∷ past) d) (orderly p (e ∷ past) d) x (λ z w.
        let q = after_none p (e ∷ past) d v z in absurd (false≢true (sym (rw q at s)))))

-- the number that goes with an end: of an order that ended handled the one that the history tells, else the one answered
abbrev shown : End → (told answered : ℕ) → ℕ
shown None y x = x
shown Well y x = x
shown Handled y x = y
shown Failed y x = x
shown Left y x = x

-- an end right after a raise tells of its number
shape-cause : (p : Plan) (t : ℕ) (o : Order) (e : End) (x : ℕ) (l past : List Event) → OrderShape p t (left_by o) o e x l
    → cause_by (older (onto l past)) e ≡ cause_answered (shown e (number_told root (older (onto l past))) x) e
unfolding raise_told
shape-cause p t o None x l past s = refl
shape-cause p t o Well x l past s = refl
shape-cause p t o Handled x l past s = refl
shape-cause p t o Failed x l past (shaped f s) = absurd (false≢true (sym f))
shape-cause p t o Failed x _ past (out f s) = refl
shape-cause p t o Left x l past s = refl

module _ (p : Plan) (h : Promised p) where
  -- of one walk, and that it is heeded; so of two, one after the other
  abbrev Numbers : List Event → Moved → Type 0
  Numbers past m = Clear p past → (causes_in past m.log ≡ cause_answered (shown m.end (number_told root (older (onto m.log past))) m.fault) m.end) × (heeds_after p past m.log ≡ true)

  numbers-once : (actor : Actor) (t : ℕ) (o : Order) (past : List Event) → Fitting actor p t → Awaited p o.marks t → Standing p o → HoldsAt p (moment_of p o) past → Numbers past (acted actor p t o)
  numbers-once actor t o past v w st g c = (go (passed-once p h actor t o past w st g), heeds-once p h actor t o past v w st g c)
    where
      l : List Event
      l = (acted actor p t o).log

      e : End
      e = (acted actor p t o).end

      x : ℕ
      x = (acted actor p t o).fault

      shape : OrderShape p t (left_by o) o e x l
      shape = order-shape actor p h.seat t (left_by o) o (λ n i. refl)

      go : Passed p past (acted actor p t o) → causes_in past l ≡ cause_answered (shown e (number_told root (older (onto l past))) x) e
      go (passes_on r d z y) =
          fair-causes p l past r (log-starts actor p t o v) g.now
          ∙ (ap (cause_by (older (onto l past))) (now-none (onto l past) y.now) ∙ sym (ap (λ (f : End). cause_answered (shown f (number_told root (older (onto l past))) x) f) d))
      go (passes-end r d z) =
          fair-causes p l past r (log-starts actor p t o v) g.now
          ∙ (ap (cause_by (older (onto l past))) (told-end p t o e x l past z shape (standing-fits p o t st w) (clear-raised p past c) (now-cool past g.now)) ∙ shape-cause p t o e x l past shape)

  numbers-joined : (past : List Event) (m m' : Moved) → m.end ≡ None → Numbers past m → Numbers (onto m.log past) m' → Numbers past (following m.log m')
  numbers-joined past m m' e x y c =
      let a = x c in
      let b = y (heeds-clears p m.log past a.1) in
      let n = number_told root (older (onto m.log past)) in (
        causes-append m.log m'.log past
            ∙ (ap (λ (z : List ℕ). z ++ causes_in (onto m.log past) m'.log) (a.0 ∙ ap (λ (f : End). cause_answered (shown f n m.fault) f) e)
            ∙ (b.0 ∙ ap (λ (z : List Event). cause_answered (shown m'.end (number_told root (older z)) m'.fault) m'.end) (sym (onto-append past m.log m'.log)))),
        heeds-append p m.log m'.log past a.1 b.1,
      )

  -- where an order ended handled both are the same
  handled-same : (c x : ℕ) (l past : List Event) (o : Order) (e : End) → Known c past → Told c l o x e → EndedAs p e (onto l past)
      → cause_answered (shown e (number_told root (older (onto l past))) x) e ≡ cause_answered x e
  handled-same c x l past o None k t z = refl
  handled-same c x l past o Well k t z = refl
  handled-same c x l past o Handled k t z =
      let f = turned-faulted (onto l past) z.0 in ap (λ (n : ℕ). n ∷ []) (sym (t ∙ ((log-known l c past k).known f.0 ∙ f.1)))
  handled-same c x l past o Failed k t z = refl
  handled-same c x l past o Left k t z = refl

  -- what a step of an order answers, and what the order keeps after it
  abbrev Because : List Event → Moved → Type 0
  Because past m = (causes_in past m.log ≡ cause_answered m.fault m.end) × (is_live m.order ≡ true → Known m.order.cause (onto m.log past))

  order-because : (t : ℕ) (o o' : Order) (past : List Event) → Alike p o o' → Awaited p o.marks t → Standing p o → HoldsAt p (moment_of p o) past → Clear p past → Known o'.cause past
      → Because past (step_order p t o')
  unfolding no_order
  order-because t o o' past a w st g c k = go (taken_step p h t o o' past a w st g)
    where
      m : Moved
      m = step_order p t o'

      n : ℕ
      n = number_told root (older (onto m.log past))

      told : Told o'.cause m.log m.order m.fault m.end
      told = (order-moves p t o').told

      so : causes_in past m.log ≡ cause_answered (shown m.end n m.fault) m.end
      so = (taken-so p h Numbers numbers-once numbers-joined t o o' past a w st g c).0

      go : Passed p past m → Because past m
      go (passes_on r d z y) = (
        so ∙ (ap (λ (e : End). cause_answered (shown e n m.fault) e) d ∙ sym (ap (cause_answered m.fault) d)),
        λ v. subst (λ (i : ℕ). Known i (onto m.log past)) (sym (subst (λ (e : End). Told o'.cause m.log m.order m.fault e) d told).keeps) (log-known m.log o'.cause past k),
      )
      go (passes-end r d z) = (
        so ∙ handled-same o'.cause m.fault m.log past m.order m.end k told z,
        λ v. absurd (false≢true (ap is_live (sym d) ∙ v)),
      )

-- where an order starts it answers none
started-causes : (p : Plan) (l past : List Event) → fair_after p past (started ∷ l) ≡ true → only is_deed (started ∷ l) ≡ started ∷ [] → none_now (onto l (started ∷ past)) ≡ false → causes_in past (started ∷ l) ≡ []
unfolding fair_after causes_in end_told only is_deed none_now is_over some
started-causes p l past h d n =
    both (fair p past started) _ h (λ x y.
    let s : some is_start l ≡ false = start-kept l ∙ ap (some is_start) (let z : only is_deed l ≡ [] = cc in z) in
    fair-causes p l (started ∷ past) y s refl ∙ ap (cause_by (older (onto l (started ∷ past)))) (now-none (onto l (started ∷ past)) n))

-- The numbers of a step's answer.
abbrev of_ends : (fault : ℕ) → List End → List ℕ
of_ends x [] = []
of_ends x (e ∷ l) = cause_answered x e

ends-cause : (x : ℕ) (e : End) → cause_answered x e ≡ of_ends x (end_list e)
ends-cause x None = refl
ends-cause x Well = refl
ends-cause x Handled = refl
ends-cause x Failed = refl
ends-cause x Left = refl

answer-cause : (i : ℕ) (r : Stepped) → cause_of i r ≡ of_ends r.answer.fault (end_by i r)
answer-cause i r = go (eqb r.answer.slot i)
  where
    go : (b : Bool) → cond b (cause_answered r.answer.fault r.answer.end) [] ≡ of_ends r.answer.fault (cond b (end_list r.answer.end) [])
    go true = ends-cause r.answer.fault r.answer.end
    go false = refl

taken-cause : (i : ℕ) (r : Stepped) (x : ℕ) (e : End) → r.answer.fault ≡ x → end_by i r ≡ end_list e → cause_of i r ≡ cause_answered x e
taken-cause i r x e f d = answer-cause i r ∙ (ap (of_ends r.answer.fault) d ∙ (ap (λ (y : ℕ). of_ends y (end_list e)) f ∙ sym (ends-cause x e)))

module _ (p : Plan) (bytes : List ℕ) (next i : ℕ) (accepted : read_plan bytes ≡ found p next) (h : Promised p) where
  -- the order in the slot keeps what the past tells
  abbrev Keeps : State → List Event → Type 0
  Keeps s past = is_live (order_in s i) ≡ true → Known (order_in s i).cause past

  same-keeps : (s s' : State) (past : List Event) → s'.orders ≡ s.orders → Keeps s past → Keeps s' past
  same-keeps s s' past e k = subst (λ (os : List Order). is_live (get_or os i no_order) ≡ true → Known (get_or os i no_order).cause past) (sym e) k

  -- a step, in this slot or elsewhere
  step-because : (s : State) (past : List Event) (r : Stepped) → Happens p i s past r → Clear p past → Keeps s past
      → (causes_in past (log_of i r) ≡ cause_of i r) × Keeps r.state (onto (log_of i r) past)
  unfolding causes_in
  step-because s past r (nothing-here n l e o) c k = (
    rw l (sym (answer-cause i r ∙ ap (of_ends r.answer.fault) e)),
    subst (λ (z : Order). is_live z ≡ true → Known z.cause (onto (log_of i r) past)) (sym o) (subst (λ (z : List Event). is_live (order_in s i) ≡ true → Known (order_in s i).cause (onto z past)) (sym l) k),
  )
  step-because s past r (goes-here t v q w st m g l e d) c k =
      let o = order_in s i in
      let o' = with_message p t v o in
      let x = order-because p h t o o' past (taking-alike p (doing_at p t) v o) w st g c (subst (λ (n : ℕ). Known n past) (sym (taking-cause (doing_at p t) v o)) (k (standing-live p o st))) in (
        ap (causes_in past) l ∙ (x.0 ∙ sym (taken-cause i r (step_order p t o').fault (step_order p t o').end q.3 e)),
        subst (λ (z : Order). is_live z ≡ true → Known z.cause (onto (log_of i r) past)) (sym d)
            (subst (λ (z : List Event). is_live (step_order p t o').order ≡ true → Known (step_order p t o').order.cause (onto z past)) (sym l) x.1),
      )
  step-because s past r (starts-here t v q w z n l e d) c k =
      let o = started_order p in
      let o' = with_message p t v o in
      let b = order-starts p h t past n w in
      let l₀ = started ∷ (begun_order p).log in
      let k₀ : Known o.cause (onto l₀ past) = subst (λ (y : ℕ). Known y (onto l₀ past)) (started-number p) (log-known (begun_order p).log 0 (started ∷ past) (start-known 0 past)) in
      let x = order-because p h t o o' (onto l₀ past) (taking-alike p (doing_at p t) v o) w b.1 b.2 (heeds-clears p l₀ past (calm-heeds p l₀ past (start-calm p) c))
      (subst (λ (y : ℕ). Known y (onto l₀ past)) (sym (taking-cause (doing_at p t) v o)) k₀) in (
        ap (causes_in past) l ∙ (causes-append l₀ (step_order p t o').log past
            ∙ (ap (λ (y : List ℕ). y ++ causes_in (onto l₀ past) (step_order p t o').log) (started-causes p (begun_order p).log past b.0 (start-deed p) b.2.now) ∙ (x.0 ∙ sym (taken-cause i r (step_order p t o').fault (step_order p t o').end q.3 e)))),
        subst (λ (y : Order). is_live y ≡ true → Known y.cause (onto (log_of i r) past)) (sym d)
            (subst (λ (y : List Event). is_live (step_order p t o').order ≡ true → Known (step_order p t o').order.cause y) (sym (ap (λ (y : List Event). onto y past) l ∙ onto-append past l₀ (step_order p t o').log)) x.1),
      )

  -- over any calls
  all-because : (calls : List Call) (s : State) (t : Tally) (past : List Event) → Sane p bytes next i accepted h s past → Clear p past → Keeps s past
      → (causes_in past (history calls i s t) ≡ causes_taken calls i s t) × Keeps (state_after calls s t) (onto (history calls i s t) past)
  unfolding history state_after causes_taken causes_in
  all-because [] s t past g c k = (refl, k)
  all-because (posting m ∷ l) s t past g c k =
      let u = post-same m s in all-because l (post m s).state t past (same-sane p bytes next i accepted h s (post m s).state past u g) c (same-keeps s (post m s).state past u.orders k)
  all-because (collecting ∷ l) s t past g c k =
      let u = collect-same s in all-because l (collect s).state t past (same-sane p bytes next i accepted h s (collect s).state past u g) c (same-keeps s (collect s).state past u.orders k)
  all-because (dropping j ∷ l) s t past g c k =
      let u = drop-same j s in all-because l (drop_at j s).state t past (same-sane p bytes next i accepted h s (drop_at j s).state past u g) c (same-keeps s (drop_at j s).state past u.orders k)
  all-because (stepping v ∷ l) s t past g c k =
      let r = step v s t in
      let x = step-because s past r (step-happens p bytes next i accepted h v s t past g).happens c k in
      let y = all-because l r.state r.tally (onto (log_of i r) past) (step_after p bytes next i accepted h v s t past g).1 (heeds-clears p (log_of i r) past (step-heeds p bytes next i accepted h v s t past g c)) x.1 in (
        causes-append (log_of i r) (history l i r.state r.tally) past ∙ rw (x.0, y.0),
        subst (λ (z : List Event). Keeps (state_after l r.state r.tally) z) (sym (onto-append past (log_of i r) (history l i r.state r.tally))) y.1,
      )

-- from a fresh start
nothing_known : (c : ℕ) → Known c []
unfolding has_faulted since some
nothing_known c = record { known = λ h. absurd (false≢true h) }

from-fresh : (bytes : List ℕ) (p : Plan) (next : ℕ) → read_plan bytes ≡ found p next → (calls : List Call) (slot : ℕ) (t : Tally)
    → (causes_in [] (history calls slot (load bytes).state t) ≡ causes_taken calls slot (load bytes).state t)
    × (is_live (order_after calls slot (load bytes).state t) ≡ true → Known (order_after calls slot (load bytes).state t).cause (past_after calls slot (load bytes).state t))
unfolding load due
from-fresh bytes p next e calls slot t =
    subst (λ (f : Found Plan). (causes_in [] (history calls slot (loaded_as bytes f).state t) ≡ causes_taken calls slot (loaded_as bytes f).state t)
    × (is_live (order_after calls slot (loaded_as bytes f).state t) ≡ true → Known (order_after calls slot (loaded_as bytes f).state t).cause (past_after calls slot (loaded_as bytes f).state t))) (sym e)
    (all-because p bytes next slot e (promised p (accepted-is-within bytes e)) calls (fresh bytes) t [] (fresh-sane p bytes next slot e (promised p (accepted-is-within bytes e))) refl
    (λ v. nothing_known (order_in (fresh bytes) slot).cause))

-- The numbers answered are those that the history tells.
pub handled-because : HandledBecause
unfolding HandledBecause
handled-because bytes p next e calls slot t = (from-fresh bytes p next e calls slot t).0

-- The choice of a scope, by its phase: where no fault part is to come its mark is one of the nine alone.
plain-choice : (m : ℕ) (q : Phase) → phase m ≡ q → is_hurt q ≡ false → (q ≡ odd → ⊥) → choice_in m ≡ 0
plain-choice m q e h f =
    decide (eqb m active) (λ t. ap choice_in (eqb-true m active t))
    (λ t. decide (eqb m done) (λ u. ap choice_in (eqb-true m done u))
    (λ u. decide (eqb m halted) (λ v. ap choice_in (eqb-true m halted v))
    (λ v. decide (eqb m withdrawing) (λ w. ap choice_in (eqb-true m withdrawing w))
    (λ w. decide (eqb m idle) (λ x. ap choice_in (eqb-true m idle x))
    (λ x. absurd (decide (eqb (state_in m) faulty)
    (λ y. false≢true (sym h ∙ (ap is_hurt (sym e) ∙ rw (t, u, y))))
    (λ y. decide (eqb (state_in m) undoing)
    (λ z. false≢true (sym h ∙ (ap is_hurt (sym e) ∙ rw (t, u, y, v, z))))
    (λ z. decide (eqb (state_in m) handling)
    (λ a. false≢true (sym h ∙ (ap is_hurt (sym e) ∙ rw (t, u, y, v, z, w, a))))
    (λ a. f (sym e ∙ rw (t, u, y, v, z, w, a, x)))))))))))

-- the choice for the number that a scope faulted with
by_number : (p : Plan) (past : List Event) (n : Name) → choice_by p n (number_told n past) ≡ choice_told p n past
unfolding choice_told choice_by
by_number p past root = refl
by_number p past (inner k) = refl

-- A scope of a live order keeps its choice for the number that it faulted with.
chosen-told : (p : Plan) (n : Name) (past : List Event) (m : ℕ) (l : List ℕ) → Tied (phase m) l (account_of p n past) → Chosen p n m (account_of p n past)
    → choice_in m ≡ cond (has_turned n past && has_faulted n past) (choice_told p n past) 0
unfolding has_turned
chosen-told p n past m l t c = go (phase m) refl t c
  where
    go : (q : Phase) → phase m ≡ q → Tied q l (account_of p n past) → (is_hurt q ≡ true → choice_in m ≡ choice_by p n (number_told n past))
        → choice_in m ≡ cond ((some (is_turn n) (since n past) && not (some (is_finish n) (since n past))) && has_faulted n past) (choice_told p n past) 0
    go rest e t c = rw t.2 (plain-choice m rest e refl (λ d. let z : ◌≡◌ {A = ℕ} 0 1 = cc in omega arith))
    go live e t c = rw t.1 (plain-choice m live e refl (λ d. let z : ◌≡◌ {A = ℕ} 0 1 = cc in omega arith))
    go (waits true) e t c = rw (t.1, left-unfinished n past t.0, t.4) (c refl ∙ by_number p past n)
    go (waits false) e t c = rw (t.1, left-unfinished n past t.0, t.4) (plain-choice m (waits false) e refl (λ d. let z : ◌≡◌ {A = ℕ} 0 1 = cc in omega arith))
    go (undoes true) e t c = rw (t.1, left-unfinished n past t.0, t.3) (c refl ∙ by_number p past n)
    go (undoes false) e t c = rw (t.1, left-unfinished n past t.0, t.3) (plain-choice m (undoes false) e refl (λ d. let z : ◌≡◌ {A = ℕ} 0 1 = cc in omega arith))
    go heals e t c = rw (t.1, left-unfinished n past t.0, t.4) (c refl ∙ by_number p past n)
    go odd e t c = absurd t

-- The scopes of a live order keep the choices of their fault parts, and its root the number that it faulted with.
pub choices-told : ChoicesTold
unfolding ChoicesTold is_choice is_cause
choices-told bytes p next e calls slot t v = (λ n i. chosen (slot-after bytes p next e calls slot t) n i, go ((from-fresh bytes p next e calls slot t).1 v))
  where
    o : Order
    o = order_after calls slot (load bytes).state t

    past : List Event
    past = past_after calls slot (load bytes).state t

    chosen : Slot p o past → (n : Name) → is_name p n ≡ true → eqb (choice_of n o) (cond (has_turned n past && has_faulted n past) (choice_told p n past) 0) ≡ true
    chosen (slot-free x y) n i = absurd (false≢true (sym x ∙ v))
    chosen (slot-live x y) n i = eq-eqb (choice_of n o) _ (chosen-told p n past (mark_of n o) (list_of p n o) (y.ties n i) (y.choices n i))

    go : Known o.cause past → (not (has_faulted root past) || eqb o.cause (number_told root past)) ≡ true
    go k = decide (has_faulted root past) (λ f. rw (f, eq-eqb o.cause (number_told root past) (k.known f))) (λ f. rw f)
