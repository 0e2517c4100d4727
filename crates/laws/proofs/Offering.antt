-- What is on offer may be taken: its step is the one that its activity is there for, it is not held, and its message is there and fits. Assumes nothing.
use Prim.Native.Nat.{ℕ, zero, suc, ◌+◌, ◌<◌, ◌≤◌}
use native.Mathlib.Omega.{arith}
use mathlib.Core.Path.{◌≡◌, refl, sym, ap, subst, ◌∙◌}
use mathlib.Core.Bool.{Bool, true, false, cond, not, ◌&&◌}
use mathlib.Core.Logic.{⊎_elim}
use mathlib.Core.List.Memᴰ
use mathlib.Core.List.{List, [], ◌∷◌, ◌++◌, append-nil, map, Memᴰ}
use lib.ListN.{length, get_or, take, length-append, get_or-eq_default}
use lib.Seq.{get_or-append_seam, append_snoc}
use lib.Dec.{leb, ltb, eqb}
use borrow.Author.Tests.{lt-ltb, le-ltb, leb-false, eq-eqb, ne_eqb}
use Rattle.plan.proofs.Accepts.{both}
use Rattle.plan.specs.Tree.{From, partner_from, Own, Act, act, Acts, none, more, Plan, size, sizes}
use Rattle.order.specs.declared.Order.{Order}
use Rattle.order.specs.Acting.{started_order}
use Rattle.order.specs.Lists.{only, some, each, empties}
use Rattle.order.specs.State.{is_live, no_order}
use Rattle.machine.specs.declared.Message.{Message}
use Rattle.machine.specs.declared.State.{State}
use Rattle.machine.specs.Calls.{doing_in, doing_among, doing_at, chosen, nth, choosing}
use Rattle.machine.specs.Fit.{Doing, no_step, sends, takes, moves, cuts, closes, doing_of, awaits, Ready, ready_in, ready_among, ready_of, Live, live_from, Letter, letters_from, fits, fittings, may_take}
use Rattle.machine.specs.Offer.{Offer, offering, Offers, all_of, unless_held, is_cut, eager, send_held, close_held, step_offers, order_offers, start_of, starts_of, free_from, start_offers, offers_of}
use Rattle.machine.specs.State.{no_message}
use Rattle.laws.specs.Good.{Allowed, Heeds, Good, acting_in, actor}

-- P holds of each
pub data Each {A : Type 0} (P : A → Type 0) : List A → Type 0 where
  each_none : Each P []
  each_more : {a : A} {l : List A} → P a → Each P l → Each P (a ∷ l)

module _ {A : Type 0} where
  pub each_in : {P : A → Type 0} {l : List A} {x : A} → Each P l → Memᴰ x l → P x
  each_in each_none m = absurd (Memᴰ.not-nil m)
  each_in {P} (each_more {a} h y) m = ⊎_elim (λ e. subst P (sym e) h) (λ n. each_in y n) (Memᴰ.cases_cons m)

  each_append : {P : A → Type 0} {l m : List A} → Each P l → Each P m → Each P (l ++ m)
  each_append each_none y = y
  each_append (each_more x l) y = each_more x (each_append l y)

  each-so : {P Q : A → Type 0} {l : List A} → ((a : A) → P a → Q a) → Each P l → Each Q l
  each-so f each_none = each_none
  each-so f (each_more {a} x l) = each_more (f a x) (each-so f l)

  each-only : {P : A → Type 0} {l : List A} (f : A → Bool) → Each P l → Each P (only f l)
  unfolding only
  each-only f each_none = each_none
  each-only {P} f (each_more {a} {l} x y) = by-test (f a) (each-only f y)
    where
      by-test : (b : Bool) → Each P (only f l) → Each P (cond b (a ∷ only f l) (only f l))
      by-test true r = each_more x r
      by-test false r = r

  -- what is picked passes the test
  each-picked : {P : A → Type 0} {l : List A} (f : A → Bool) → Each P l → Each (λ a. P a × (f a ≡ true)) (only f l)
  unfolding only
  each-picked f each_none = each_none
  each-picked {P} f (each_more {a} {l} x y) = by-test (f a) refl (each-picked f y)
    where
      by-test : (b : Bool) → f a ≡ b → Each (λ z. P z × (f z ≡ true)) (only f l) → Each (λ z. P z × (f z ≡ true)) (cond b (a ∷ only f l) (only f l))
      by-test true e r = each_more (x, e) r
      by-test false e r = r

  each_map : {B : Type 0} {P : A → Type 0} {Q : B → Type 0} {l : List A} (f : A → B) → ((a : A) → P a → Q (f a)) → Each P l → Each Q (map f l)
  each_map f h each_none = each_none
  each_map f h (each_more {a} x y) = each_more (h a x) (each_map f h y)

  each-cond : {P : A → Type 0} {l m : List A} (b : Bool) → Each P l → Each P m → Each P (cond b l m)
  each-cond true x y = x
  each-cond false x y = y

  -- some or none, by a test
  each-where : {P : A → Type 0} {l : List A} (b : Bool) → (b ≡ true → Each P l) → Each P (cond b l [])
  each-where true f = f refl
  each-where false f = each_none

pub pick_true : {A : Type 0} (b : Bool) (x y : A) → b ≡ true → elim b [ true ↦ x | false ↦ y ] ≡ x
pick_true true x y e = refl
pick_true false x y e = let z : ◌≡◌ {A = Bool} false true = e in absurd (let w : ◌≡◌ {A = ℕ} 0 1 = cc in omega arith)

pub pick-false : {A : Type 0} (b : Bool) (x y : A) → b ≡ false → elim b [ true ↦ x | false ↦ y ] ≡ y
pick-false false x y e = refl
pick-false true x y e = let z : ◌≡◌ {A = Bool} true false = e in absurd (let w : ◌≡◌ {A = ℕ} 0 1 = cc in omega arith)

-- what is ready has the step that its activity is there for
pub record Does (f : ℕ → Doing) (from to : ℕ) (r : Ready) : Type 0 where
  pub is : r.step ≡ f r.activity
  pub low : from ≤ r.activity
  pub high : r.activity < to

mutual
  unfolding ready_in doing_in size

  in-ready : (a : Act) (k : ℕ) (b : Bool) (ms : List ℕ) → Each (Does (doing_in a k) k (k + size a)) (ready_in a k b ms)
  in-ready (act own within) k b ms =
      by-test (awaits own b (get_or ms k 0)) _
      (each-so (λ r w. record {
        is = w.is ∙ sym (pick-false (eqb k r.activity) _ _ (ne_eqb k r.activity (λ e. omega (arith, w.low, e))));
        low = omega (arith, w.low);
        high = omega (arith, w.high);
      }) (among-ready within (k + 1) _ ms))
    where
      by-test : (x : Bool) (l : List Ready) → Each (Does (doing_in (act own within) k) k (k + (1 + sizes within))) l
          → Each (Does (doing_in (act own within) k) k (k + (1 + sizes within))) (elim x [ true ↦ record { activity = k; step = doing_of own within k } ∷ l | false ↦ l ])
      by-test true l y = each_more (record { is = sym (pick_true (eqb k k) _ _ (eq-eqb k k refl)); low = omega arith; high = omega arith }) y
      by-test false l y = y

  among-ready : (l : Acts) (c : ℕ) (b : Bool) (ms : List ℕ) → Each (Does (doing_among l c) c (c + sizes l)) (ready_among l c b ms)
  among-ready none c b ms = each_none
  among-ready (more a l) c b ms =
      each_append
      (each-so (λ r w. record {
        is = w.is ∙ sym (pick_true (ltb r.activity (c + size a)) _ _ (lt-ltb _ _ w.high));
        low = w.low;
        high = omega (arith, w.high);
      }) (in-ready a c b ms))
      (each-so (λ r w. record {
        is = w.is ∙ sym (pick-false (ltb r.activity (c + size a)) _ _ (le-ltb _ _ w.low));
        low = omega (arith, w.low);
        high = omega (arith, w.high);
      }) (among-ready l (c + size a) b ms))

pub plan-ready : (p : Plan) (o : Order) → Each (Does (doing_at p) 0 (size p.body + size p.fault)) (ready_of p o)
unfolding ready_of doing_at
plan-ready p o =
    each_append
    (each-so (λ r w. record {
      is = w.is ∙ sym (pick_true (ltb r.activity (size p.body)) _ _ (lt-ltb r.activity (size p.body) (omega (arith, w.high))));
      low = omega arith;
      high = omega (arith, w.high);
    }) (in-ready p.body 0 false o.marks))
    (each-so (λ r w. record {
      is = w.is ∙ sym (pick-false (ltb r.activity (size p.body)) _ _ (le-ltb _ _ w.low));
      low = omega arith;
      high = w.high;
    }) (in-ready p.fault (size p.body) false o.marks))

-- the messages stand where they wait, each with its fittings
record Waits (p : Plan) (live : List Live) (ms : List Message) (wait : ℕ) (x : Letter) : Type 0 where
  is : x.place < wait
  stands : x.message ≡ get_or ms x.place no_message
  fitted : x.fitted ≡ fittings p live x.message

letters-wait : (p : Plan) (live : List Live) (pre ms all : List Message) → pre ++ ms ≡ all → (i : ℕ) → length pre ≡ i → (n wait : ℕ) → i + n ≤ wait
    → Each (Waits p live all wait) (letters_from p live i (take n ms))
unfolding letters_from
letters-wait p live pre ms all e i d zero wait h = each_none
letters-wait p live pre [] all e i d (suc n) wait h = each_none
letters-wait p live pre (m ∷ ms) all e i d (suc n) wait h =
    let g : get_or all i no_message ≡ m = ap (λ (z : List Message). get_or z i no_message) (sym e) ∙ subst (λ (z : ℕ). get_or (pre ++ (m ∷ ms)) z no_message ≡ m) d (get_or-append_seam pre m ms no_message) in
    each_more {a = record { place = i; message = m; fitted = fittings p live m }} (record { is = omega arith; stands = sym g; fitted = refl })
    (letters-wait p live (pre ++ (m ∷ [])) ms all (append_snoc pre m ms ∙ e) (i + 1) (length-append pre (m ∷ []) ∙ omega (arith, d)) n wait (omega arith))

-- all offers of many
all-each : {A : Type 0} {P : A → Type 0} {Q : Offer → Type 0} {l : List A} (f : A → Offers) → ((a : A) → P a → Each Q (f a).offered) → Each P l
    → Each Q (all_of f l).offered
unfolding all_of
all-each f h each_none = each_none
all-each f h (each_more {a} x y) = each_append (h a x) (all-each f h y)

-- the offers of one activity are for its slot and for itself, are not held, and their messages fit
record Offered (p : Plan) (live : List Live) (ms : List Message) (wait : ℕ) (starts : Bool) (o : Order) (i k : ℕ) (d : Doing) (x : Offer) : Type 0 where
  slot : x.slot ≡ i
  activity : x.activity ≡ k
  allowed : Allowed d wait o x.place
  heeds : Heeds d p live starts o (get_or ms x.place no_message)

module _ (p : Plan) (live : List Live) (ms : List Message) (wait : ℕ) {l : List Letter} (w : Each (Waits p live ms wait) l) (i : ℕ) (o : Order) (k : ℕ) where
  letter-heeds : (a : From) (b : ℕ) (vs : List ℕ) (x : Letter) → Waits p live ms wait x → may_take p o (partner_from a) b vs x ≡ true
      → Heeds (takes a b vs) p live false o (get_or ms x.place no_message)
  unfolding Heeds may_take
  letter-heeds a b vs x h e = both (fits p o (partner_from a) b vs x.message) _ e (λ f g. (rw (sym h.stands) f, rw (sym h.stands, sym h.fitted) g))

  step-each : (d : Doing) → Each (Offered p live ms wait false o i k d) (step_offers p wait l i o k d).offered
  unfolding step_offers Allowed Heeds
  step-each no_step = each_none
  step-each (sends a b vs) = held (send_held wait o a vs) refl
    where
      held : (x : Bool) → send_held wait o a vs ≡ x → Each (Offered p live ms wait false o i k (sends a b vs)) (unless_held x (offering i k 0 ∷ [])).offered
      held true e = each_none
      held false e = each_more (record { slot = refl; activity = refl; allowed = e; heeds = tt }) each_none
  step-each (takes a b vs) =
      each_map (λ x. offering i k x.place) (λ x h. record { slot = refl; activity = refl; allowed = h.0.is; heeds = letter-heeds a b vs x h.0 h.1 })
      (each-picked (may_take p o (partner_from a) b vs) w)
  step-each moves = each_more (record { slot = refl; activity = refl; allowed = tt; heeds = tt }) each_none
  step-each cuts = each_more (record { slot = refl; activity = refl; allowed = tt; heeds = tt }) each_none
  step-each (closes u s) = held (close_held o u s) refl
    where
      held : (x : Bool) → close_held o u s ≡ x → Each (Offered p live ms wait false o i k (closes u s)) (unless_held x (offering i k 0 ∷ [])).offered
      held true e = each_none
      held false e = each_more (record { slot = refl; activity = refl; allowed = e; heeds = tt }) each_none

-- whether an offer for a slot is a start: it is free
abbrev pub starts_in : List Order → (slot : ℕ) → Bool
starts_in os i = not (is_live (get_or os i no_order))

-- an offer that may be taken
pub record Fine (p : Plan) (s : State) (x : Offer) : Type 0 where
  pub slot : length s.orders ≡ 16 → x.slot < 16
  pub good : Good p s.waiting (actor p s.orders x.slot) x.activity x.place
  pub heeds : Heeds (doing_at p x.activity) p (live_from p 0 s.orders) (starts_in s.orders x.slot) (actor p s.orders x.slot) (get_or s.messages x.place no_message)

fine-from : (p : Plan) (s : State) (b : Bool) (o : Order) (i k : ℕ) (d : Doing) → actor p s.orders i ≡ o → starts_in s.orders i ≡ b → d ≡ doing_at p k
    → k < size p.body + size p.fault → (length s.orders ≡ 16 → i < 16) → (x : Offer)
    → Offered p (live_from p 0 s.orders) s.messages s.waiting b o i k d x → Fine p s x
fine-from p s b o i k d e st f h n x y =
    let g : actor p s.orders x.slot ≡ o = ap (actor p s.orders) y.slot ∙ e in
    let v : starts_in s.orders x.slot ≡ b = ap (starts_in s.orders) y.slot ∙ st in
    let z : d ≡ doing_at p x.activity = f ∙ ap (doing_at p) (sym y.activity) in
    record {
      slot = λ q. omega (arith, y.slot, n q);
      good = record {
        inside = omega (arith, y.activity);
        allowed = subst (λ (q : Order). Allowed (doing_at p x.activity) s.waiting q x.place) (sym g) (subst (λ (q : Doing). Allowed q s.waiting o x.place) z y.allowed);
      };
      heeds = rw (g, v, sym z) y.heeds;
    }

pub eager-each : {P : Ready → Type 0} {l : List Ready} → Each P l → Each P (eager l)
unfolding eager
eager-each {P} {l} y = each-cond (some is_cut l) (each-only is_cut y) y

record Sits (p : Plan) (os : List Order) (x : Live) : Type 0 where
  ready : x.ready ≡ ready_of p x.order
  sits : actor p os x.slot ≡ x.order
  lives : starts_in os x.slot ≡ false
  within : x.slot < length os

-- each live order stands in its slot
live-each : (p : Plan) (pre l os : List Order) → pre ++ l ≡ os → (i : ℕ) → length pre ≡ i → Each (Sits p os) (live_from p i l)
unfolding live_from
live-each p pre [] os e i d = each_none
live-each p pre (o ∷ l) os e i d =
    live_own (is_live o) refl (live-each p (pre ++ (o ∷ [])) l os (append_snoc pre o l ∙ e) (i + 1) (length-append pre (o ∷ []) ∙ omega (arith, d)))
  where
    live_own : (b : Bool) → is_live o ≡ b → Each (Sits p os) (live_from p (i + 1) l)
        → Each (Sits p os) (elim b [ true ↦ record { slot = i; order = o; ready = ready_of p o } ∷ live_from p (i + 1) l | false ↦ live_from p (i + 1) l ])
    live_own true h y =
        let g : get_or os i no_order ≡ o = ap (λ (z : List Order). get_or z i no_order) (sym e) ∙ subst (λ (z : ℕ). get_or (pre ++ (o ∷ l)) z no_order ≡ o) d (get_or-append_seam pre o l no_order) in
        each_more (record { ready = refl; sits = ap (acting_in p) g ∙ pick_true (is_live o) o (started_order p) h; lives = ap (λ (z : Order). not (is_live z)) g ∙ ap not h; within = omega (arith, d, ap length (sym e) ∙ length-append pre (o ∷ l)) }) y
    live_own false h y = y

order-each : (p : Plan) (s : State) {l : List Letter} → Each (Waits p (live_from p 0 s.orders) s.messages s.waiting) l → (x : Live) → Sits p s.orders x
    → Each (Fine p s) (order_offers p s.waiting l x).offered
unfolding order_offers
order-each p s {l} w x h =
    all-each (λ r. step_offers p s.waiting l x.slot x.order r.activity r.step)
    (λ r d. each-so (fine-from p s false x.order x.slot r.activity r.step h.sits h.lives d.is d.high (λ q. omega (arith, h.within, q)))
    (step-each p (live_from p 0 s.orders) s.messages s.waiting w x.slot x.order r.activity r.step))
    (eager-each (subst (λ (z : List Ready). Each (Does (doing_at p) 0 (size p.body + size p.fault)) z) (sym h.ready) (plan-ready p x.order)))

-- the first free slot is free
free-each : (pre l os : List Order) → pre ++ l ≡ os → (i : ℕ) → length pre ≡ i → is_live (get_or os (free_from i l) no_order) ≡ false
unfolding free_from no_order
free-each pre [] os e i d = ap is_live (get_or-eq_default os no_order (omega (arith, d, ap length (sym e ∙ append-nil pre))))
free-each pre (o ∷ l) os e i d = by-test (is_live o) refl (free-each (pre ++ (o ∷ [])) l os (append_snoc pre o l ∙ e) (i + 1) (length-append pre (o ∷ []) ∙ omega (arith, d)))
  where
    by-test : (b : Bool) → is_live o ≡ b → is_live (get_or os (free_from (i + 1) l) no_order) ≡ false
        → is_live (get_or os (cond b (free_from (i + 1) l) i) no_order) ≡ false
    by-test true t r = r
    by-test false t r = ap is_live (ap (λ (z : List Order). get_or z i no_order) (sym e) ∙ subst (λ (z : ℕ). get_or (pre ++ (o ∷ l)) z no_order ≡ o) d (get_or-append_seam pre o l no_order)) ∙ t

-- starts: each is a receive of the plan that the message fits, where it fits no open one
record Starts (p : Plan) (o : Order) (x : Letter) (k : ℕ) : Type 0 where
  inside : k < size p.body + size p.fault
  from : From
  operation : ℕ
  variables : List ℕ
  is : takes from operation variables ≡ doing_at p k
  fit : fits p o (partner_from from) operation variables x.message ≡ true
  alone : empties x.fitted ≡ true

starts-each : (p : Plan) (o : Order) (x : Letter) {l : List Ready} → Each (Does (doing_at p) 0 (size p.body + size p.fault)) l → Each (Starts p o x) (starts_of p o l x)
unfolding starts_of start_of each
starts-each p o x {l} y = each-where (empties x.fitted) (λ q. all q y)
  where
    one : empties x.fitted ≡ true → (a : ℕ) (d : Doing) → a < size p.body + size p.fault → d ≡ doing_at p a → Each (Starts p o x) (start_of p o x (record { activity = a; step = d }))
    one q a no_step h e = each_none
    one q a (sends b c vs) h e = each_none
    one q a (takes b c vs) h e =
        each-where (fits p o (partner_from b) c vs x.message) (λ f. each_more (record { inside = h; from = b; operation = c; variables = vs; is = e; fit = f; alone = q }) each_none)
    one q a moves h e = each_none
    one q a cuts h e = each_none
    one q a (closes u s) h e = each_none

    all : empties x.fitted ≡ true → {l : List Ready} → Each (Does (doing_at p) 0 (size p.body + size p.fault)) l → Each (Starts p o x) (each (start_of p o x) l)
    all q each_none = each_none
    all q (each_more {a} w z) = each_append (one q a.activity a.step w.high w.is) (all q z)

start-each : (p : Plan) (s : State) (free : ℕ) → is_live (get_or s.orders free no_order) ≡ false → (x : Letter)
    → Waits p (live_from p 0 s.orders) s.messages s.waiting x → Each (Fine p s) (start_offers p free (started_order p) (ready_of p (started_order p)) x).offered
unfolding start_offers Allowed Heeds
start-each p s free h x w = by-room (leb 16 free) refl
  where
    -- where no slot is free, nothing is offered
    no_room : (ks : List ℕ) → Each (Fine p s) (unless_held (not (empties ks)) (map (λ k. offering free k x.place) ks)).offered
    no_room [] = each_none
    no_room (k ∷ ks) = each_none

    by-room : (b : Bool) → leb 16 free ≡ b
        → Each (Fine p s) (unless_held (b && not (empties (starts_of p (started_order p) (ready_of p (started_order p)) x)))
        (map (λ k. offering free k x.place) (starts_of p (started_order p) (ready_of p (started_order p)) x))).offered
    by-room true e = no_room (starts_of p (started_order p) (ready_of p (started_order p)) x)
    by-room false e =
        each_map (λ k. offering free k x.place) (λ k z.
        fine-from p s true (started_order p) free k (takes z.from z.operation z.variables) (pick-false (is_live (get_or s.orders free no_order)) _ _ h) (ap not h) z.is z.inside
        (λ q. leb-false 16 free e) (offering free k x.place)
        (record { slot = refl; activity = refl; allowed = w.is; heeds = (rw (sym w.stands) z.fit, rw (sym w.stands, sym w.fitted) z.alone) }))
        (starts-each p (started_order p) x (plan-ready p (started_order p)))

offers-fine : (p : Plan) (s : State) → Each (Fine p s) (offers_of p s).offered
unfolding offers_of
offers-fine p s =
    let w = letters-wait p (live_from p 0 s.orders) [] s.messages s.messages refl 0 refl s.waiting s.waiting (omega arith) in
    each_append
    (all-each _ (λ x h. order-each p s w x h) (live-each p [] s.orders s.orders refl 0 refl))
    (all-each _ (λ x h. start-each p s (free_from 0 s.orders) (free-each [] s.orders s.orders refl 0 refl) x h) w)

-- the one chosen is one of them
nth-each : {P : Offer → Type 0} {l : List Offer} (n c : ℕ) (x : Offer) → Each P l → nth n l c ≡ chosen x → P x
unfolding nth
nth-each n c x each_none e = absurd (let z : ◌≡◌ {A = ℕ} 0 1 = cc in omega arith)
nth-each {P} n zero x (each_more {a} h y) e = subst P (let z : a ≡ x = cc in z) h
nth-each n (suc c) x (each_more h y) e = nth-each n c x y e

-- What a choice comes to may be taken.
pub chosen-fine : (p : Plan) (s : State) (c : ℕ) (x : Offer) → choosing (offers_of p s) c ≡ chosen x → Fine p s x
unfolding choosing
chosen-fine p s c x e = nth-each _ c x (offers-fine p s) e
