-- What is offered awaits its step: in its live order, or in an order as it starts, in a free slot. Assumes nothing.
use Prim.Native.Nat.{ℕ, zero, suc, ◌+◌, ◌<◌}
use native.Mathlib.Omega.{arith}
use mathlib.Core.Path.{◌≡◌, refl, sym, ap, subst, ◌∙◌}
use mathlib.Core.Bool.{Bool, true, false, not, ◌&&◌}
use mathlib.Core.List.{List, [], ◌∷◌, ◌++◌, append-nil, map}
use lib.ListN.{length, get_or, length-append, get_or-eq_default}
use lib.Seq.{get_or-append_seam, append_snoc}
use lib.Dec.{leb}
use borrow.Author.Tests.{leb-false}
use Rattle.plan.specs.Tree.{Act, act, Acts, none, more, Plan, size, sizes, partner_from}
use Rattle.order.specs.declared.Order.{Order}
use Rattle.machine.specs.declared.State.{State}
use Rattle.order.specs.Lists.{only, some, each, empties}
use Rattle.order.specs.State.{is_live, no_order}
use Rattle.machine.specs.Fit.{Doing, no_step, sends, takes, moves, cuts, closes, doing_of, awaits, Ready, ready_in, ready_among, ready_of, Live, live_from, Letter, fits, may_take}
use Rattle.order.specs.Acting.{started_order}
use Rattle.machine.specs.Offer.{Offer, offering, Offers, all_of, unless_held, is_cut, eager, send_held, close_held, step_offers, order_offers, start_of, starts_of, free_from, start_offers, offers_of}
use Rattle.machine.specs.Calls.{chosen, nth, choosing}
use Rattle.undoing.proofs.Parts.{decide}
use Rattle.undoing.proofs.Waiting.{opens, Waits, waits-itself, waits-within, WaitsIn, waits-first, waits-later, waits-from, waits-in-from}
use Rattle.undoing.proofs.Roots.{Awaited, in-body, in-fault}

-- P holds of each
pub data Each {A : Type 0} (P : A → Type 0) : List A → Type 0 where
  each_none : Each P []
  each_more : {a : A} {l : List A} → P a → Each P l → Each P (a ∷ l)

module _ {A : Type 0} where
  pub each_append : {P : A → Type 0} {l m : List A} → Each P l → Each P m → Each P (l ++ m)
  each_append each_none y = y
  each_append (each_more x l) y = each_more x (each_append l y)

  -- where one gives the other
  pub each-so : {P Q : A → Type 0} {l : List A} → ((a : A) → P a → Q a) → Each P l → Each Q l
  each-so f each_none = each_none
  each-so f (each_more {a} x l) = each_more (f a x) (each-so f l)

  -- of those that a filter lets through
  each-only : {P : A → Type 0} {l : List A} (f : A → Bool) → Each P l → Each P (only f l)
  unfolding only
  each-only f each_none = each_none
  each-only {P} f (each_more {a} {l} x y) = decide (f a) (λ t. rw t (each_more x (each-only f y))) (λ t. rw t (each-only f y))

  -- of what each gives
  each_map : {B : Type 0} {Q : B → Type 0} (f : A → B) → ((a : A) → Q (f a)) → (l : List A) → Each Q (map f l)
  each_map f h [] = each_none
  each_map f h (a ∷ l) = each_more (h a) (each_map f h l)

  -- of what each of these gives
  each-map-so : {B : Type 0} {P : A → Type 0} {Q : B → Type 0} {l : List A} (f : A → B) → ((a : A) → P a → Q (f a)) → Each P l → Each Q (map f l)
  each-map-so f h each_none = each_none
  each-map-so f h (each_more {a} x y) = each_more (h a x) (each-map-so f h y)

-- What is ready awaits its step.
mutual
  unfolding ready_in size

  -- in an activity
  ready-waits : (a : Act) (k : ℕ) (b : Bool) (ms : List ℕ) → Each {A = Ready} (λ r. Waits ms a k r.activity b × (r.activity < k + size a)) (ready_in a k b ms)
  ready-waits (act own within) k b ms =
      ready-own (awaits own b (get_or ms k 0)) refl
      (each-so (λ r w. (waits-within (omega (arith, waits-in-from w.0)) w.0, omega (arith, w.1))) (among-waits within (k + 1) (opens own (get_or ms k 0)) ms))
    where
      ready-own : (x : Bool) → awaits own b (get_or ms k 0) ≡ x
          → Each {A = Ready} (λ r. Waits ms (act own within) k r.activity b × (r.activity < k + (1 + sizes within))) (ready_among within (k + 1) (opens own (get_or ms k 0)) ms)
          → Each {A = Ready} (λ r. Waits ms (act own within) k r.activity b × (r.activity < k + (1 + sizes within)))
          (elim x [ true ↦ record { activity = k; step = doing_of own within k } ∷ ready_among within (k + 1) (opens own (get_or ms k 0)) ms | false ↦ ready_among within (k + 1) (opens own (get_or ms k 0)) ms ])
      ready-own true e y = each_more (waits-itself refl e, omega arith) y
      ready-own false e y = y

  -- in a list
  among-waits : (l : Acts) (c : ℕ) (b : Bool) (ms : List ℕ)
      → Each {A = Ready} (λ r. WaitsIn ms l c r.activity b × (r.activity < c + sizes l)) (ready_among l c b ms)
  among-waits none c b ms = each_none
  among-waits (more a l) c b ms =
      each_append
      (each-so (λ r w. (waits-first w.1 w.0, omega (arith, w.1))) (ready-waits a c b ms))
      (each-so (λ r w. (waits-later (waits-in-from w.0) w.0, omega (arith, w.1))) (among-waits l (c + size a) b ms))

-- in a plan
pub ready-awaited : (p : Plan) (o : Order) → Each {A = Ready} (λ r. Awaited p o.marks r.activity) (ready_of p o)
unfolding ready_of
ready-awaited p o =
    each_append (each-so (λ r w. in-body (omega (arith, w.1)) w.0) (ready-waits p.body 0 false o.marks))
    (each-so (λ r w. in-fault (waits-from w.0) w.0) (ready-waits p.fault (size p.body) false o.marks))

-- all offers of many
all-each : {A : Type 0} {P : A → Type 0} {Q : Offer → Type 0} {l : List A} (f : A → Offers) → ((a : A) → P a → Each Q (f a).offered) → Each P l
    → Each Q (all_of f l).offered
unfolding all_of
all-each f h each_none = each_none
all-each f h (each_more {a} x y) = each_append (h a x) (all-each f h y)

-- offers that may be held
unless-each : {Q : Offer → Type 0} {l : List Offer} (b : Bool) → Each Q l → Each Q (unless_held b l).offered
unless-each true y = each_none
unless-each false y = y

-- the offers of one activity are for its slot and for itself
step-each : (p : Plan) (wait : ℕ) (l : List Letter) (i : ℕ) (o : Order) (k : ℕ) (d : Doing)
    → Each {A = Offer} (λ x. (x.slot ≡ i) × (x.activity ≡ k)) (step_offers p wait l i o k d).offered
unfolding step_offers
step-each p wait l i o k no_step = each_none
step-each p wait l i o k (sends a b vs) = unless-each (send_held wait o a vs) (each_more (refl, refl) each_none)
step-each p wait l i o k (takes a b vs) = each_map _ (λ x. (refl, refl)) (only (may_take p o (partner_from a) b vs) l)
step-each p wait l i o k moves = each_more (refl, refl) each_none
step-each p wait l i o k cuts = each_more (refl, refl) each_none
step-each p wait l i o k (closes undo s) = unless-each (close_held o undo s) (each_more (refl, refl) each_none)

-- An offer is good: it awaits its step in its slot's live order, or in an order as it starts where the slot is free.
pub data Good (p : Plan) (os : List Order) (x : Offer) : Type 0 where
  good-live : is_live (get_or os x.slot no_order) ≡ true → Awaited p (get_or os x.slot no_order).marks x.activity → Good p os x
  good_start : is_live (get_or os x.slot no_order) ≡ false → x.slot < 16 → Awaited p (started_order p).marks x.activity → Good p os x

-- those that are eager
eager-each : {P : Ready → Type 0} {l : List Ready} → Each P l → Each P (eager l)
unfolding eager
eager-each {P} {l} y = decide (some is_cut l) (λ t. rw t (each-only is_cut y)) (λ t. rw t y)

record Stands (p : Plan) (os : List Order) (x : Live) : Type 0 where
  lives : is_live x.order ≡ true
  ready : x.ready ≡ ready_of p x.order
  stands : get_or os x.slot no_order ≡ x.order

-- each live order stands in its slot
live-each : (p : Plan) (pre l os : List Order) → pre ++ l ≡ os → (i : ℕ) → length pre ≡ i → Each (Stands p os) (live_from p i l)
unfolding live_from
live-each p pre [] os e i d = each_none
live-each p pre (o ∷ l) os e i d =
    live_own (is_live o) refl (live-each p (pre ++ (o ∷ [])) l os (append_snoc pre o l ∙ e) (i + 1) (length-append pre (o ∷ []) ∙ omega (arith, d)))
  where
    live_own : (b : Bool) → is_live o ≡ b → Each (Stands p os) (live_from p (i + 1) l)
        → Each (Stands p os) (elim b [ true ↦ record { slot = i; order = o; ready = ready_of p o } ∷ live_from p (i + 1) l | false ↦ live_from p (i + 1) l ])
    live_own true h y =
        each_more (record { lives = h; ready = refl; stands = ap (λ (z : List Order). get_or z i no_order) (sym e) ∙ subst (λ (z : ℕ). get_or (pre ++ (o ∷ l)) z no_order ≡ o) d (get_or-append_seam pre o l no_order) }) y
    live_own false h y = y

-- the offers of a live order are good
order-each : (p : Plan) (os : List Order) (wait : ℕ) (l : List Letter) (x : Live) → Stands p os x → Each (Good p os) (order_offers p wait l x).offered
unfolding order_offers
order-each p os wait l x h =
    all-each (λ r. step_offers p wait l x.slot x.order r.activity r.step)
    (λ r w. each-so (λ y z. good-live (subst (λ (k : ℕ). is_live (get_or os k no_order) ≡ true) (sym z.0) (ap is_live h.stands ∙ h.lives))
    (subst (λ (k : ℕ). Awaited p (get_or os k no_order).marks y.activity) (sym z.0)
    (subst (λ (o : Order). Awaited p o.marks y.activity) (sym h.stands) (subst (λ (k : ℕ). Awaited p x.order.marks k) (sym z.1) w))))
    (step-each p wait l x.slot x.order r.activity r.step))
    (eager-each (subst (λ (z : List Ready). Each {A = Ready} (λ r. Awaited p x.order.marks r.activity) z) (sym h.ready) (ready-awaited p x.order)))

-- the first free slot, where there is one
free-each : (pre l os : List Order) → pre ++ l ≡ os → (i : ℕ) → length pre ≡ i → is_live (get_or os (free_from i l) no_order) ≡ false
unfolding free_from no_order
free-each pre [] os e i d =
    ap is_live (get_or-eq_default os no_order (omega (arith, d, ap length (sym e ∙ append-nil pre))))
free-each pre (o ∷ l) os e i d =
    decide (is_live o)
    (λ t. rw t (free-each (pre ++ (o ∷ [])) l os (append_snoc pre o l ∙ e) (i + 1) (length-append pre (o ∷ []) ∙ omega (arith, d))))
    (λ t. rw t (ap is_live (ap (λ (z : List Order). get_or z i no_order) (sym e) ∙ subst (λ (z : ℕ). get_or (pre ++ (o ∷ l)) z no_order ≡ o) d (get_or-append_seam pre o l no_order)) ∙ t))

-- starts
starts-each : (p : Plan) (o : Order) (x : Letter) {l : List Ready} → Each {A = Ready} (λ r. Awaited p o.marks r.activity) l
    → Each (λ k. Awaited p o.marks k) (starts_of p o l x)
unfolding starts_of start_of each
starts-each p o x {l} y = decide (empties x.fitted) (λ t. rw t (all y)) (λ t. rw t each_none)
  where
    one : (a : ℕ) (d : Doing) → Awaited p o.marks a → Each (λ k. Awaited p o.marks k) (start_of p o x (record { activity = a; step = d }))
    one a no_step w = each_none
    one a (sends b c vs) w = each_none
    one a (takes b c vs) w = decide (fits p o (partner_from b) c vs x.message) (λ t. rw t (each_more w each_none)) (λ t. rw t each_none)
    one a moves w = each_none
    one a cuts w = each_none
    one a (closes undo s) w = each_none

    all : {l : List Ready} → Each {A = Ready} (λ r. Awaited p o.marks r.activity) l → Each (λ k. Awaited p o.marks k) (each (start_of p o x) l)
    all each_none = each_none
    all (each_more {a} w z) = each_append (one a.activity a.step w) (all z)

-- the starts are good
start-each : (p : Plan) (os : List Order) (free : ℕ) (x : Letter) → is_live (get_or os free no_order) ≡ false
    → Each (Good p os) (start_offers p free (started_order p) (ready_of p (started_order p)) x).offered
unfolding start_offers
start-each p os free x h = go (starts_of p (started_order p) (ready_of p (started_order p)) x) (starts-each p (started_order p) x (ready-awaited p (started_order p)))
  where
    go : (ks : List ℕ) → Each (λ k. Awaited p (started_order p).marks k) ks
        → Each (Good p os) (unless_held (leb 16 free && not (empties ks)) (map (λ k. offering free k x.place) ks)).offered
    go [] y = unless-each (leb 16 free && not true) each_none
    go (k ∷ ks) y =
        decide (leb 16 free)
        (λ t. rw t each_none)
        (λ t. rw t (each-map-so (λ k. offering free k x.place) (λ k w. good_start h (leb-false 16 free t) w) y))

-- nothing is asked
each-any : {A : Type 0} (l : List A) → Each (λ a. Unit {0}) l
each-any [] = each_none
each-any (a ∷ l) = each_more tt (each-any l)

-- all offers are good
offers-good : (p : Plan) (s : State) → Each (Good p s.orders) (offers_of p s).offered
unfolding offers_of
offers-good p s =
    each_append
    (all-each _ (λ x h. order-each p s.orders s.waiting _ x h) (live-each p [] s.orders s.orders refl 0 refl))
    (all-each _ (λ x h. start-each p s.orders (free_from 0 s.orders) x (free-each [] s.orders s.orders refl 0 refl)) (each-any _))

-- the one chosen is one of them
nth-each : {P : Offer → Type 0} {l : List Offer} (n c : ℕ) (x : Offer) → Each P l → nth n l c ≡ chosen x → P x
unfolding nth
nth-each n c x each_none e = absurd (let z : ◌≡◌ {A = ℕ} 0 1 = cc in omega arith)
nth-each {P} n zero x (each_more {a} h y) e = subst P (let z : a ≡ x = cc in z) h
nth-each n (suc c) x (each_more h y) e = nth-each n c x y e

-- What a choice comes to is good.
pub chosen-good : (p : Plan) (s : State) (c : ℕ) (x : Offer) → choosing (offers_of p s) c ≡ chosen x → Good p s.orders x
unfolding choosing
chosen-good p s c x e = nth-each _ c x (offers-good p s) e
