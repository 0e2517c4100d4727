-- The law behind request 10, in its three parts: only takes look at the messages; what an order has on offer of the independent kinds is by that
-- order alone; and such a step changes its own slot and the tally alone. Assumes nothing.
use Prim.Native.Nat.{ℕ, zero, suc, ◌+◌}
use native.Mathlib.Omega.{arith}
use mathlib.Core.Path.{◌≡◌, refl, sym, ap, subst, ◌∙◌}
use mathlib.Core.Logic.{⊎_elim}
use mathlib.Core.Bool.{Bool, true, false, cond, not, ◌&&◌}
use mathlib.Core.List.{List, [], ◌∷◌, map, Memᴰ}
use lib.ListN.{get_or}
use lib.Dec.{eqb, leb}
use borrow.Author.Tests.{eq-eqb, eqb-true}
use Rattle.plan.specs.Found.{among}
use Rattle.plan.specs.Tree.{to_partner, to_held, From, from_partner, from_asking, partner_from, empty, send, receive, set as setting, raise, leave, choose, repeat, sequence, flow, pick, scope, arm, kind, Plan}
use Rattle.plan.proofs.Accepts.{both}
use Rattle.order.specs.declared.Order.{Order}
use Rattle.order.specs.Acting.{started_order}
use Rattle.order.specs.Lists.{each, empties, some, only}
use Rattle.order.specs.State.{is_live, no_order}
use Rattle.machine.specs.declared.Message.{Message}
use Rattle.machine.specs.declared.State.{State}
use Rattle.machine.specs.declared.Tally.{Tally}
use Rattle.machine.specs.State.{letters, no_message}
use Rattle.machine.specs.Fit.{Doing, no_step, sends, takes, moves, cuts, closes, doing_of, Ready, ready_of, Live, live_from, Letter, letters_from, fits, may_take}
use Rattle.machine.specs.Offer.{Offer, offering, unless_held, eager, send_held, close_held, step_offers, order_offers, start_of, starts_of, start_offers, free_from, offers_of}
use Rattle.machine.specs.Calls.{doing_at, choosing, messages_after, order_taking, stepped, taken}
use Rattle.laws.proofs.Offering.{pick_true}
use Rattle.either_order.specs.Independent.{independent, IndependentCodes, independent_at, Offered, order_of, OnlyTakesLook, close_waits, has_step, OwnOrderOffers, stepped_alone, OwnSlotChanges}
use Rattle.either_order.proofs.Members.{in_all, all_in, in_map, in-each, some_in, in_some, nth_in, in-nth}
use Rattle.either_order.proofs.Ready.{ready-does, eager-does}

pub independent-codes : IndependentCodes
unfolding IndependentCodes independent doing_of kind among
independent-codes empty l k = refl
independent-codes (send (to_partner p) o vs) l k = refl
independent-codes (send (to_held v r) o vs) l k = refl
independent-codes (receive (from_partner p) o vs) l k = refl
independent-codes (receive (from_asking p v) o vs) l k = refl
independent-codes (setting v e) l k = refl
independent-codes (raise zero) l k = refl
independent-codes (raise (suc number)) l k = refl
independent-codes leave l k = refl
independent-codes (choose e) l k = refl
independent-codes (repeat e) l k = refl
independent-codes sequence l k = refl
independent-codes flow l k = refl
independent-codes pick l k = refl
independent-codes (scope [] true) l k = refl
independent-codes (scope [] false) l k = refl
independent-codes (scope (n ∷ ns) u) l k = refl
independent-codes (arm p o vs) l k = refl

-- 1. Only takes look at the messages.
pub only-takes-look : OnlyTakesLook
unfolding OnlyTakesLook step_offers
only-takes-look p w l m i o k no_step = (refl, λ e. refl)
only-takes-look p w l m i o k (sends a b vs) = (refl, λ e. refl)
only-takes-look p w l m i o k (takes a b vs) = (refl, λ e. absurd (let z : ◌≡◌ {A = ℕ} 0 1 = cc in omega arith))
only-takes-look p w l m i o k moves = (refl, λ e. refl)
only-takes-look p w l m i o k cuts = (refl, λ e. refl)
only-takes-look p w l m i o k (closes u s) = (refl, λ e. refl)

-- 2. What an order has on offer.
pub not-true : (b : Bool) → not b ≡ true → b ≡ false
not-true true e = sym e
not-true false e = refl

-- no take is independent
never : {A : Type 0} {a : From} {b : ℕ} {vs : List ℕ} (d : Doing) → d ≡ takes a b vs → independent d ≡ true → A
unfolding independent
never {a = a} {b} {vs} d e h = absurd (let y : independent (takes a b vs) ≡ true = ap independent (sym e) ∙ h in let z : ◌≡◌ {A = ℕ} 0 1 = cc in omega arith)

-- an entry of one activity of an order: of its slot and of itself, and, where its step is independent, of no message and not held
record Entry (i : ℕ) (o : Order) (k : ℕ) (d : Doing) (x : Offer) : Type 0 where
  slot : x.slot ≡ i
  activity : x.activity ≡ k
  free : independent d ≡ true → close_waits o d ≡ false
  place : independent d ≡ true → x.place ≡ 0

module _ (p : Plan) (w : ℕ) (l : List Letter) (i : ℕ) (o : Order) (k : ℕ) where
  -- where there is one entry and no message, which may be held
  lone-in : (d : Doing) (h : Bool) {x : Offer} → (h ≡ false → close_waits o d ≡ false) → Memᴰ x (unless_held h (offering i k 0 ∷ [])).offered → Entry i o k d x
  lone-in d true f m = absurd (mathlib.Core.List.Memᴰ.not-nil m)
  lone-in d false f m =
      let e = mathlib.Core.List.Memᴰ.eq_of_singleton m in
      record {
        slot = ap (λ (z : Offer). z.slot) e;
        activity = ap (λ (z : Offer). z.activity) e;
        free = λ h. f refl;
        place = λ h. ap (λ (z : Offer). z.place) e;
      }

  step_in : (d : Doing) {x : Offer} → Memᴰ x (step_offers p w l i o k d).offered → Entry i o k d x
  unfolding step_offers close_waits
  step_in no_step m = absurd (mathlib.Core.List.Memᴰ.not-nil m)
  step_in (sends a b vs) m = lone-in (sends a b vs) (send_held w o a vs) (λ e. refl) m
  step_in (takes a b vs) m =
      let r = in_map (λ (y : Letter). offering i k y.place) (only (may_take p o (partner_from a) b vs) l) m in
      record {
        slot = ap (λ (z : Offer). z.slot) r.holds;
        activity = ap (λ (z : Offer). z.activity) r.holds;
        free = λ h. never (takes a b vs) refl h;
        place = λ h. never (takes a b vs) refl h;
      }
  step_in moves m = lone-in moves false (λ e. refl) m
  step_in cuts m = lone-in cuts false (λ e. refl) m
  step_in (closes u s) m = lone-in (closes u s) (close_held o u s) (λ e. e) m

  in_step : (d : Doing) → independent d ≡ true → close_waits o d ≡ false → Memᴰ (offering i k 0) (step_offers p w l i o k d).offered
  unfolding step_offers close_waits independent
  in_step no_step h f = absurd (let z : ◌≡◌ {A = ℕ} 0 1 = cc in omega arith)
  in_step (sends a b vs) h f = absurd (let z : ◌≡◌ {A = ℕ} 0 1 = cc in omega arith)
  in_step (takes a b vs) h f = absurd (let z : ◌≡◌ {A = ℕ} 0 1 = cc in omega arith)
  in_step moves h f = mathlib.Core.List.Memᴰ.head refl
  in_step cuts h f = mathlib.Core.List.Memᴰ.head refl
  in_step (closes u s) h f = rw f (mathlib.Core.List.Memᴰ.head refl)

-- a live order stands in its slot
record Sits (p : Plan) (i : ℕ) (l : List Order) (v : Live) : Type 0 where
  number : ℕ
  slot : v.slot ≡ i + number
  order : v.order ≡ get_or l number no_order
  ready : v.ready ≡ ready_of p v.order
  live : is_live v.order ≡ true

live_in : (p : Plan) (i : ℕ) (l : List Order) {v : Live} → Memᴰ v (live_from p i l) → Sits p i l v
unfolding live_from
live_in p i [] m = absurd (mathlib.Core.List.Memᴰ.not-nil m)
live_in p i (o ∷ l) {v} m = go (is_live o) refl (λ n. live_in p (i + 1) l n) m
  where
    rest : Sits p (i + 1) l v → Sits p i (o ∷ l) v
    rest w = record { number = suc w.number; slot = w.slot ∙ omega arith; order = w.order; ready = w.ready; live = w.live }

    go : (b : Bool) → is_live o ≡ b → (Memᴰ v (live_from p (i + 1) l) → Sits p (i + 1) l v)
        → Memᴰ v (elim b [ true ↦ record { slot = i; order = o; ready = ready_of p o } ∷ live_from p (i + 1) l | false ↦ live_from p (i + 1) l ]) → Sits p i (o ∷ l) v
    go true h f n = ⊎_elim own (λ y. rest (f y)) (mathlib.Core.List.Memᴰ.cases_cons n)
      where
        own : ◌≡◌ {A = Live} v (record { slot = i; order = o; ready = ready_of p o }) → Sits p i (o ∷ l) v
        own e =
            let g : v.order ≡ o = ap (λ (z : Live). z.order) e in
            record {
              number = 0;
              slot = ap (λ (z : Live). z.slot) e ∙ omega arith;
              order = g;
              ready = ap (λ (z : Live). z.ready) e ∙ ap (ready_of p) (sym g);
              live = ap is_live g ∙ h;
            }
    go false h f n = rest (f n)

in-live : (p : Plan) (i : ℕ) (l : List Order) (n k : ℕ) → is_live (get_or l n no_order) ≡ true → k ≡ i + n
    → Memᴰ (record { slot = k; order = get_or l n no_order; ready = ready_of p (get_or l n no_order) }) (live_from p i l)
unfolding live_from no_order
in-live p i [] n k h e = absurd (let z : ◌≡◌ {A = ℕ} 0 1 = cc in omega arith)
in-live p i (o ∷ l) zero k h e =
    let f : k ≡ i = e ∙ omega arith in
    rw (h, live_from) (mathlib.Core.List.Memᴰ.head (ap (λ (z : ℕ). record { slot = z; order = o; ready = ready_of p o }) f))
in-live p i (o ∷ l) (suc n) k h e = go (is_live o) (in-live p (i + 1) l n k h (e ∙ omega arith))
  where
    v : Live
    v = record { slot = k; order = get_or l n no_order; ready = ready_of p (get_or l n no_order) }

    go : (b : Bool) → Memᴰ v (live_from p (i + 1) l)
        → Memᴰ v (elim b [ true ↦ record { slot = i; order = o; ready = ready_of p o } ∷ live_from p (i + 1) l | false ↦ live_from p (i + 1) l ])
    go true m = mathlib.Core.List.Memᴰ.tail m
    go false m = m

-- the entries of the live orders
module _ (p : Plan) (s : State) (x : Offer) (h : independent_at p x ≡ true) where
  live-has : (w : ℕ) (l : List Letter) (v : Live) → Sits p 0 s.orders v → Memᴰ x (order_offers p w l v).offered → has_step p (order_of s x) x ≡ true
  unfolding order_offers has_step
  live-has w l v c m =
      let r = in_all (λ (r : Ready). step_offers p w l v.slot v.order r.activity r.step) (eager v.ready) m in
      let g = step_in p w l v.slot v.order r.one.activity r.one.step r.holds in
      let o : order_of s x ≡ v.order = ap (λ (z : ℕ). get_or s.orders z no_order) (g.slot ∙ c.slot ∙ omega arith) ∙ sym c.order in
      let n : Memᴰ r.one (eager (ready_of p v.order)) = subst (λ (z : List Ready). Memᴰ r.one (eager z)) c.ready r.among in
      let d : doing_at p x.activity ≡ r.one.step = ap (doing_at p) g.activity ∙ sym (eager-does p v.order r.one n) in
      let i : independent r.one.step ≡ true = ap independent (sym d) ∙ h in
      let a : is_live v.order ≡ true = c.live in
      let b : some (λ (r : Ready). eqb r.activity x.activity) (eager (ready_of p v.order)) ≡ true =
      in_some (λ (r : Ready). eqb r.activity x.activity) n (eq-eqb _ _ (sym g.activity)) in
      let f : close_waits v.order (doing_at p x.activity) ≡ false = ap (close_waits v.order) d ∙ g.free i in
      let e : eqb x.place 0 ≡ true = eq-eqb _ _ (g.place i) in
      rw (o, a, b, f, e)

  -- a start is a take
  start-never : {A : Type 0} (o : Order) (y : Letter) (k a : ℕ) (d : Doing) → Memᴰ k (start_of p o y (record { activity = a; step = d })) → d ≡ doing_at p a
      → x.activity ≡ k → A
  unfolding start_of
  start-never o y k a no_step m e f = absurd (mathlib.Core.List.Memᴰ.not-nil m)
  start-never o y k a (sends b c vs) m e f = absurd (mathlib.Core.List.Memᴰ.not-nil m)
  start-never {A} o y k a (takes b c vs) m e f = go (fits p o (partner_from b) c vs y.message) m
    where
      go : (b : Bool) → Memᴰ k (cond b (a ∷ []) []) → A
      go true n = never (doing_at p x.activity) (ap (doing_at p) (f ∙ mathlib.Core.List.Memᴰ.eq_of_singleton n) ∙ sym e) h
      go false n = absurd (mathlib.Core.List.Memᴰ.not-nil n)
  start-never o y k a moves m e f = absurd (mathlib.Core.List.Memᴰ.not-nil m)
  start-never o y k a cuts m e f = absurd (mathlib.Core.List.Memᴰ.not-nil m)
  start-never o y k a (closes u z) m e f = absurd (mathlib.Core.List.Memᴰ.not-nil m)

  start_has : {A : Type 0} (free : ℕ) (o : Order) (y : Letter) → Memᴰ x (start_offers p free o (ready_of p o) y).offered → A
  unfolding start_offers starts_of
  start_has {A} free o y m = held (leb 16 free && not (empties (starts_of p o (ready_of p o) y))) m
    where
      fitted : (b : Bool) (k : ℕ) → x.activity ≡ k → Memᴰ k (cond b (each (start_of p o y) (ready_of p o)) []) → A
      fitted true k f n =
          let r = in-each (start_of p o y) (ready_of p o) n in
          start-never o y k r.one.activity r.one.step r.holds (ready-does p o r.one r.among) f
      fitted false k f n = absurd (mathlib.Core.List.Memᴰ.not-nil n)

      held : (b : Bool) → Memᴰ x (unless_held b (map (λ k. offering free k y.place) (starts_of p o (ready_of p o) y))).offered → A
      held true n = absurd (mathlib.Core.List.Memᴰ.not-nil n)
      held false n =
          let r = in_map (λ (k : ℕ). offering free k y.place) (starts_of p o (ready_of p o) y) n in
          fitted (empties y.fitted) r.one (ap (λ (z : Offer). z.activity) r.holds) r.among

  offered-has : Offered p s x → has_step p (order_of s x) x ≡ true
  unfolding choosing offers_of
  offered-has c =
      let live = live_from p 0 s.orders in
      let l = letters_from p live 0 (letters s) in
      let o = started_order p in
      ⊎_elim
      (λ m. let r = in_all (order_offers p s.waiting l) live m in live-has s.waiting l r.one (live_in p 0 s.orders r.among) r.holds)
      (λ m. let r = in_all (start_offers p (free_from 0 s.orders) o (ready_of p o)) l m in start_has (free_from 0 s.orders) o r.one r.holds)
      (mathlib.Core.List.Memᴰ.append_cases _ (nth_in _ c.choice (offers_of p s).offered c.is))

  has-offered : has_step p (order_of s x) x ≡ true → Offered p s x
  unfolding choosing offers_of has_step order_offers
  has-offered e =
      let live = live_from p 0 s.orders in
      let l = letters_from p live 0 (letters s) in
      both (is_live (order_of s x)) _ e (λ a b.
      both (some (λ (r : Ready). eqb r.activity x.activity) (eager (ready_of p (order_of s x)))) _ b (λ c d.
      both (not (close_waits (order_of s x) (doing_at p x.activity))) _ d (λ f g.
      let r = some_in (λ (r : Ready). eqb r.activity x.activity) (eager (ready_of p (order_of s x))) c in
      let i : r.one.activity ≡ x.activity = eqb-true _ _ r.holds in
      let j : r.one.step ≡ doing_at p x.activity = eager-does p (order_of s x) r.one r.among ∙ ap (doing_at p) i in
      let m : Memᴰ (offering x.slot x.activity 0) (step_offers p s.waiting l x.slot (order_of s x) r.one.activity r.one.step).offered =
      rw (i, j) (in_step p s.waiting l x.slot (order_of s x) x.activity (doing_at p x.activity) h (not-true _ f)) in
      let z : x ≡ offering x.slot x.activity 0 = ap (offering x.slot x.activity) (eqb-true x.place 0 g) in
      let k = all_in (λ (r : Ready). step_offers p s.waiting l x.slot (order_of s x) r.activity r.step) r.among (mathlib.Core.List.Memᴰ.cast z m) in
      let q = in-nth _ (mathlib.Core.List.Memᴰ.append_left _ (all_in (order_offers p s.waiting l) (in-live p 0 s.orders x.slot x.slot a (omega arith)) k)) in
      record { choice = q.choice; is = q.is })))

pub own-order-offers : OwnOrderOffers
unfolding OwnOrderOffers
own-order-offers p s x h = (offered-has p s x h, has-offered p s x h)

-- 3. What such a step changes.
pub has-live : (p : Plan) (o : Order) (x : Offer) → has_step p o x ≡ true → is_live o ≡ true
unfolding has_step
has-live p o x e = both (is_live o) _ e (λ a b. a)

messages-stay : (d : Doing) (j : ℕ) (o : Order) (s : State) → independent d ≡ true → messages_after d j o s ≡ s
unfolding messages_after independent
messages-stay no_step j o s h = refl
messages-stay (sends a b vs) j o s h = absurd (let z : ◌≡◌ {A = ℕ} 0 1 = cc in omega arith)
messages-stay (takes a b vs) j o s h = absurd (let z : ◌≡◌ {A = ℕ} 0 1 = cc in omega arith)
messages-stay moves j o s h = refl
messages-stay cuts j o s h = refl
messages-stay (closes u x) j o s h = refl

nothing_bound : (d : Doing) (m : Message) (o : Order) → independent d ≡ true → order_taking d m o ≡ o
unfolding order_taking independent
nothing_bound no_step m o h = refl
nothing_bound (sends a b vs) m o h = refl
nothing_bound (takes a b vs) m o h = absurd (let z : ◌≡◌ {A = ℕ} 0 1 = cc in omega arith)
nothing_bound moves m o h = refl
nothing_bound cuts m o h = refl
nothing_bound (closes u x) m o h = refl

stepped-alone : (p : Plan) (x : Offer) (s : State) (t : Tally) → independent_at p x ≡ true → stepped p x s t (order_of s x) [] ≡ stepped_alone p x s t
unfolding stepped_alone stepped
stepped-alone p x s t h =
    rw (messages-stay (doing_at p x.activity) x.place (order_of s x) s h, nothing_bound (doing_at p x.activity) (get_or s.messages x.place no_message) (order_of s x) h)

pub own-slot-changes : OwnSlotChanges
unfolding OwnSlotChanges taken
own-slot-changes p s t x c h =
    pick_true (is_live (order_of s x)) _ _ (has-live p (order_of s x) x (offered-has p s x h c)) ∙ stepped-alone p x s t h
