-- A state that passes 17 passes it after every call, and keeps its plan: what is posted, collected or dropped, and a step. Assumes nothing.
use mathlib.Core.Path.{◌≡◌, refl, sym, ap, ◌∙◌, subst}
use mathlib.Core.Bool.{Bool, true, false, cond, not, ◌&&◌, ◌||◌}
use mathlib.Core.List.{List, [], ◌∷◌, ◌++◌}
use Prim.Native.Nat.{ℕ, zero, suc, ◌+◌, ◌-◌, ◌*◌, ◌<◌, ◌≤◌}
use native.Mathlib.Numerals.{add-one}
use native.Mathlib.Omega.{arith}
use borrow.Author.Tests.{le-leb, lt-ltb, leb-true, leb-false, ltb-true, ltb-false, eqb-true, not-false}
use lib.Dec.{eqb, ltb, leb}
use lib.ListN.{length, get_or, take, drop, set, replicate, length-append, length-set, length-drop, length-replicate}
use lib.Seq.{take_at, take-append-le, length-take-le, drop_at as drop_at_lem}
use Rattle.plan.specs.Found.{Found, refused, found}
use Rattle.plan.specs.Read.{read_plan}
use Rattle.plan.specs.Table.{table_of}
use Rattle.plan.specs.Within.{plan_within, own_within, exchange_within}
use Rattle.plan.specs.Tree.{Exp, to_partner, to_held, held_by, reply_of, From, from_partner, from_asking, Own, empty, send, receive, set as setting, raise, leave, choose, repeat, sequence, flow, pick, scope, arm, kind, Act, act, Acts, none, more, Plan, size, count}
use Rattle.plan.proofs.Accepts.{both}
use Rattle.plan.proofs.Limits.{accepted-is-within}
use Rattle.order.specs.declared.Order.{Order}
use Rattle.order.specs.Acting.{started_order, begun_order, all_bound, partner_to, reaches, may_send}
use Rattle.order.specs.Judging.{step_order}
use Rattle.order.specs.Event.{Event, started}
use Rattle.order.specs.Lists.{every, stored}
use Rattle.order.specs.Room.{room_plan}
use Rattle.order.specs.Stands.{Stands}
use Rattle.order.specs.State.{is_live, no_order, closings, value_of}
use Rattle.order.specs.Taking.{act_at, bind_all, storing}
use Rattle.order.proofs.Accepted.{within-spelled}
use Rattle.order.proofs.PlanStands.{plan-stands, plan-at}
use Rattle.machine.specs.declared.Message.{Message}
use Rattle.machine.specs.declared.State.{State}
use Rattle.machine.specs.declared.Tally.{Tally}
use Rattle.machine.specs.declared.Posted.{Posted}
use Rattle.machine.specs.declared.Collected.{Collected}
use Rattle.machine.specs.Calls.{Stepped, doing_at, values_of, sent_by, gives, messages_after, order_taking, stepped, taken, step_chosen, step_by, step, choosing, Chosen, chosen, refused_choice, refusing, nth, trimmed, post_by, post, handing, drop_at, collect_by, collect, load, foreign, partners_of, count_start}
use Rattle.machine.specs.Fit.{Doing, no_step, sends, takes, moves, cuts, closes, doing_of}
use Rattle.machine.specs.Limits.{exchanged, message_in_limits, order_in_limits, in_limits, plan_in, by}
use Rattle.machine.specs.Offer.{Offer, Offers, send_held, offers_of}
use Rattle.machine.specs.Planned.{Planned}
use Rattle.machine.specs.State.{no_message, fresh, letters, with_order, with_messages, adding, removing}
use Rattle.laws.specs.Good.{Allowed, Good, actor}
use Rattle.machine.proofs.Called.{plan-found, short-found}
use Rattle.machine.proofs.Moved.{every-at}
use Rattle.laws.proofs.Offering.{pick_true, pick-false, chosen-fine}
use Rattle.laws.proofs.Roomy.{take-closings}
use Rattle.laws.proofs.Staying.{every_set, step-limits, start-limits, binding-limits, bind-limits, none-limits}
use Rattle.laws.proofs.Doing.{good-room, send-room, plan-doing, act_doing}

-- a state that passes 17, whose messages have their 64 places
pub record Passes (s : State) : Type 0 where
  pub long : length s.messages ≡ 64
  pub short : s.length ≤ 4096
  pub waiting : s.waiting ≤ 64
  pub orders : every order_in_limits s.orders ≡ true
  pub messages : every message_in_limits (letters s) ≡ true

abbrev pub PassesAfter : Stepped → Type 0
PassesAfter r = Passes r.state

pub passes : (s : State) → length s.messages ≡ 64 → in_limits s ≡ true → Passes s
unfolding in_limits
passes s l e =
    both (leb s.length 4096) _ e (λ a b.
    both (leb s.waiting 64) _ b (λ c d.
    both (every order_in_limits s.orders) _ d (λ f g.
    record { long = l; short = leb-true _ _ a; waiting = leb-true _ _ c; orders = f; messages = g })))

pub passed : {s : State} → Passes s → in_limits s ≡ true
unfolding in_limits
passed {s} f = rw (le-leb s.length 4096 f.short, le-leb s.waiting 64 f.waiting, f.orders, f.messages)

-- an order in a slot is within its limits
pub order-limits : (l : List Order) (i : ℕ) → every order_in_limits l ≡ true → order_in_limits (get_or l i no_order) ≡ true
unfolding every
order-limits [] i e = none-limits
order-limits (o ∷ l) zero e = both (order_in_limits o) (every order_in_limits l) e (λ a b. a)
order-limits (o ∷ l) (suc i) e = both (order_in_limits o) (every order_in_limits l) e (λ a b. order-limits l i b)

put-passes : {s : State} (i : ℕ) (o : Order) → order_in_limits o ≡ true → Passes s → Passes (with_order i o s)
put-passes {s} i o h f = record { long = f.long; short = f.short; waiting = f.waiting; orders = every_set order_in_limits s.orders i o h f.orders; messages = f.messages }

-- a message arrives
every_more : (f : Message → Bool) (l : List Message) (w : ℕ) (m : Message) → w < length l → f m ≡ true → every f (take w l) ≡ true → every f (take (suc w) (set l w m)) ≡ true
unfolding every
every_more f [] w m h g e = absurd (omega arith)
every_more f (x ∷ l) zero m h g e = rw g
every_more f (x ∷ l) (suc w) m h g e = both (f x) (every f (take w l)) e (λ a b. rw (a, every_more f l w m (omega arith) g b))

add-passes : {s : State} (m : Message) → s.waiting < 64 → message_in_limits m ≡ true → Passes s → Passes (adding m s)
add-passes {s} m h g f = record {
  long = length-set s.messages s.waiting m ∙ f.long;
  short = f.short;
  waiting = omega arith;
  orders = f.orders;
  messages = rw add-one (every_more message_in_limits s.messages s.waiting m (omega (arith, f.long)) g f.messages);
}

-- a message leaves
every-less : (f : Message → Bool) (l e : List Message) (j w : ℕ) → j ≤ w → w < length l → every f (take (suc w) l) ≡ true → every f (take w (take j l ++ (drop (suc j) l ++ e))) ≡ true
unfolding every
every-less f [] e j w h g q = absurd (omega arith)
every-less f (x ∷ l) e zero w h g q = both (f x) (every f (take w l)) q (λ a b. rw (take-append-le w l e (omega arith)) b)
every-less f (x ∷ l) e (suc j) zero h g q = absurd (omega arith)
every-less f (x ∷ l) e (suc j) (suc w) h g q = both (f x) (every f (take (suc w) l)) q (λ a b. rw (a, every-less f l e j w (omega arith) (omega arith) b))

remove-passes : {s : State} (j : ℕ) → j < s.waiting → Passes s → Passes (removing j s)
remove-passes {s} j h f =
    let l = s.messages in
    let w = s.waiting - 1 in
    let e : s.waiting ≡ suc w = omega arith in
    let a : length (take j l) ≡ j = length-take-le j l (omega (arith, f.long, f.waiting)) in
    let g : every message_in_limits (take (suc w) l) ≡ true = subst (λ (n : ℕ). every message_in_limits (take n l) ≡ true) e f.messages in
    record {
      long = length-append (take j l) (drop (j + 1) l ++ (no_message ∷ []))
          ∙ omega (arith, a, length-append (drop (j + 1) l) (no_message ∷ []), length-drop (j + 1) l, f.long, f.waiting);
      short = f.short;
      waiting = omega (arith, f.waiting);
      orders = f.orders;
      messages = rw add-one (every-less message_in_limits l (no_message ∷ []) j w (omega arith) (omega (arith, f.long, f.waiting)) g);
    }

-- a message within its rules with zeros behind its values
zeros : (n : ℕ) → every (eqb 0) (replicate n 0) ≡ true
unfolding every
zeros zero = refl
zeros (suc n) = zeros n

pub stored-limits : (p o : ℕ) (xs : List ℕ) (r : ℕ) → exchanged p o (length xs) r ≡ true
    → message_in_limits (record { partner = p; operation = o; count = length xs; values = stored 4 xs; reply = r }) ≡ true
unfolding message_in_limits
stored-limits p o xs r h = rw (h, drop_at_lem xs (replicate (4 - length xs) 0) (length xs) refl) (zeros (4 - length xs))

values-many : (o : Order) (vs : List ℕ) → length (values_of o vs) ≡ length vs
unfolding values_of
values-many o [] = refl
values-many o (v ∷ vs) = ap suc (values-many o vs)

-- what a send of an accepted plan sends, where its partner is one, is within its rules
Exchanges : Doing → Type 0
Exchanges no_step = Unit
Exchanges (sends to o vs) = (q : Order) → reaches q to ≡ true → exchanged (partner_to q to) o (length vs) (reply_of to) ≡ true
Exchanges (takes p o vs) = Unit
Exchanges moves = Unit
Exchanges cuts = Unit
Exchanges (closes u s) = Unit

own-exchanges : (t : List ℕ) (own : Own) (l : Acts) (k : ℕ) → Stands (act own l) k t → Exchanges (doing_of own l k)
unfolding Exchanges doing_of Stands own_within exchange_within exchanged
own-exchanges t empty l k s = tt
own-exchanges t (send (to_partner p) o vs) l k s = λ q y.
    both (not s.first.arms) _ s.first.limits (λ a b.
    both (eqb (count l) 0) _ b (λ c d.
    both (ltb p 64) _ d (λ e f.
    both (ltb o 64) _ f (λ g h.
    both (leb 1 (length vs)) _ h (λ i j.
    both (leb (length vs) 4) _ j (λ m n. rw (e, g, i, m)))))))
own-exchanges t (send (to_held v r) o vs) l k s = λ q y.
    both (not s.first.arms) _ s.first.limits (λ a b.
    both (eqb (count l) 0) _ b (λ c d.
    both (ltb v s.first.variables) _ d (λ w x.
    both (ltb r 64) _ x (λ e f.
    both (ltb o 64) _ f (λ g h.
    both (leb 1 (length vs)) _ h (λ i j.
    both (leb (length vs) 4) _ j (λ m n. rw (lt-ltb (value_of q v) 64 (omega (arith, leb-true (value_of q v) 63 y)), g, i, m, e))))))))
own-exchanges t (receive p o vs) l k s = tt
own-exchanges t (setting v e) l k s = tt
own-exchanges t (raise number) l k s = tt
own-exchanges t leave l k s = tt
own-exchanges t (choose e) l k s = tt
own-exchanges t (repeat e) l k s = tt
own-exchanges t sequence l k s = tt
own-exchanges t flow l k s = tt
own-exchanges t pick l k s = tt
own-exchanges t (scope ns u) l k s = tt
own-exchanges t (arm p o vs) l k s = tt

plan-exchanges : (p : Plan) (t : ℕ) → plan_within p ≡ true → t < size p.body + size p.fault → Exchanges (doing_at p t)
unfolding act_doing
plan-exchanges p t h g =
    let sp = within-spelled p h in
    subst Exchanges (sym (plan-doing p t g)) (go (act_at p t) (table_of p) (plan-at p _ _ (plan-stands sp) t g))
  where
    go : (a : Act) (u : List ℕ) → Stands a t u → Exchanges (act_doing a t)
    go (act own l) u s = own-exchanges u own l t s

-- the messages after a step on offer
messages-pass : (d : Doing) (j : ℕ) (o : Order) {s : State} → Exchanges d → Allowed d s.waiting o j → Passes s → Passes (messages_after d j o s)
unfolding messages_after Allowed Exchanges
messages-pass no_step j o x a f = f
messages-pass (sends to q vs) j o {s} x a f = go (may_send o to vs) refl
  where
    go : (b : Bool) → may_send o to vs ≡ b → Passes (cond b (adding (sent_by o to q vs) s) s)
    go true e =
        let y : exchanged (partner_to o to) q (length vs) (reply_of to) ≡ true = both (all_bound o (held_by to ++ vs)) (reaches o to) e (λ g h. x o h) in
        add-passes (sent_by o to q vs) (send-room s.waiting o to vs a e)
        (subst (λ (n : ℕ). message_in_limits (record { partner = partner_to o to; operation = q; count = n; values = stored 4 (values_of o vs); reply = reply_of to }) ≡ true) (values-many o vs)
        (stored-limits (partner_to o to) q (values_of o vs) (reply_of to) (rw (values-many o vs) y))) f
    go false e = f
messages-pass (takes p q vs) j o x a f = remove-passes j a f
messages-pass moves j o x a f = f
messages-pass cuts j o x a f = f
messages-pass (closes u y) j o x a f = f

store-limits : (f : From) (r : ℕ) (o : Order) → order_in_limits o ≡ true → order_in_limits (storing f r o) ≡ true
store-limits (from_partner p) r o e = e
store-limits (from_asking p v) r o e = binding-limits v r o e

taking-limits : (d : Doing) (m : Message) (o : Order) → order_in_limits o ≡ true → order_in_limits (order_taking d m o) ≡ true
unfolding order_taking
taking-limits no_step m o e = e
taking-limits (sends p q vs) m o e = e
taking-limits (takes f q vs) m o e = store-limits f (get_or (gives m) 4 0) (bind_all vs (gives m) o) (bind-limits vs (gives m) o e)
taking-limits moves m o e = e
taking-limits cuts m o e = e
taking-limits (closes u s) m o e = e

-- an order has its step
stepped-passes : (p : Plan) (x : Offer) {s : State} (t : Tally) (o : Order) (l : List Event) → plan_within p ≡ true → Good p s.waiting o x.activity x.place → order_in_limits o ≡ true
    → Passes s → Passes (stepped p x s t o l).state
unfolding stepped
stepped-passes p x {s} t o l w g e f =
    let d = doing_at p x.activity in
    let m = get_or s.messages x.place no_message in
    let q = order_taking d m o in
    let r : room_plan p x.activity (closings q) ≡ true = ap (room_plan p x.activity) (take-closings d m o) ∙ good-room g in
    put-passes x.slot (step_order p x.activity q).order (step-limits p x.activity q w g.inside r (taking-limits d m o e))
    (messages-pass d x.place o (plan-exchanges p x.activity w g.inside) g.allowed f)

taken-passes : (p : Plan) (x : Offer) (s : State) (t : Tally) → plan_within p ≡ true → Good p s.waiting (actor p s.orders x.slot) x.activity x.place
    → Passes s → Passes (taken p x s t).state
unfolding taken
taken-passes p x s t w g f = go (is_live (get_or s.orders x.slot no_order)) g (order-limits s.orders x.slot f.orders)
  where
    go : (b : Bool) → Good p s.waiting (elim b [ true ↦ get_or s.orders x.slot no_order | false ↦ started_order p ]) x.activity x.place
        → order_in_limits (get_or s.orders x.slot no_order) ≡ true
        → PassesAfter (elim b [
          | true ↦ stepped p x s t (get_or s.orders x.slot no_order) []
          | false ↦ stepped p x s (count_start t) (started_order p) (started ∷ (begun_order p).log)
        ])
    go true g e = stepped-passes p x t (get_or s.orders x.slot no_order) [] w g e f
    go false g e = stepped-passes p x (count_start t) (started_order p) (started ∷ (begun_order p).log) w g (start-limits p) f

by-passes : (p : Plan) (c : ℕ) (s : State) (t : Tally) → plan_within p ≡ true → Passes s → Passes (step_by p c s t).state
unfolding step_by step_chosen
by-passes p c s t w f = go (choosing (offers_of p s) c) refl
  where
    go : (x : Chosen) → choosing (offers_of p s) c ≡ x → Passes (step_chosen p s t x).state
    go (refused_choice n) e = f
    go (chosen x) e = taken-passes p x s t w (chosen-fine p s c x e).good f

-- and nothing of the plan changes
pub record Same (s r : State) : Type 0 where
  pub plan : r.plan ≡ s.plan
  pub length : r.length ≡ s.length

abbrev SameAfter : State → Stepped → Type 0
SameAfter s r = Same s r.state

same : (s : State) → Same s s
same s = record { plan = refl; length = refl }

messages-same : (d : Doing) (j : ℕ) (o : Order) (s : State) → Same s (messages_after d j o s)
unfolding messages_after
messages-same no_step j o s = same s
messages-same (sends to q vs) j o s = go (may_send o to vs) (sent_by o to q vs)
  where
    go : (b : Bool) (m : Message) → Same s (cond b (adding m s) s)
    go true m = record { plan = refl; length = refl }
    go false m = same s
messages-same (takes p q vs) j o s = record { plan = refl; length = refl }
messages-same moves j o s = same s
messages-same cuts j o s = same s
messages-same (closes u x) j o s = same s

stepped_same : (p : Plan) (x : Offer) (s : State) (t : Tally) (o : Order) (l : List Event) → Same s (stepped p x s t o l).state
unfolding stepped
stepped_same p x s t o l = let q = messages-same (doing_at p x.activity) x.place o s in record { plan = q.plan; length = q.length }

pub by-same : (p : Plan) (c : ℕ) (s : State) (t : Tally) → Same s (step_by p c s t).state
unfolding step_by step_chosen taken
by-same p c s t = go (choosing (offers_of p s) c)
  where
    live : (x : Offer) (b : Bool) → SameAfter s (elim b [
      | true ↦ stepped p x s t (get_or s.orders x.slot no_order) []
      | false ↦ stepped p x s (count_start t) (started_order p) (started ∷ (begun_order p).log)
    ])
    live x true = stepped_same p x s t (get_or s.orders x.slot no_order) []
    live x false = stepped_same p x s (count_start t) (started_order p) (started ∷ (begun_order p).log)

    go : (x : Chosen) → Same s (step_chosen p s t x).state
    go (refused_choice n) = same s
    go (chosen x) = live x (is_live (get_or s.orders x.slot no_order))

-- So the plan of a state stays, and 17 does not come.
abbrev PostedPlan : Plan → ℕ → Posted → Type 0
PostedPlan p next r = Planned p next r.state

abbrev CollectedPlan : Plan → ℕ → Collected → Type 0
CollectedPlan p next r = Planned p next r.state

-- a message that was posted
trimmed-limits : (m : Message) → length m.values ≡ 4 → exchanged m.partner m.operation m.count m.reply ≡ true → message_in_limits (trimmed m) ≡ true
unfolding exchanged
trimmed-limits m l e =
    let c : m.count ≤ 4 = both (ltb m.partner 64) _ e (λ a b. both (ltb m.operation 64) _ b (λ c d. both (leb 1 m.count) _ d (λ f g. both (leb m.count 4) _ g (λ h i. leb-true _ _ h)))) in
    let n : length (take m.count m.values) ≡ m.count = length-take-le m.count m.values (omega arith) in
    subst (λ (k : ℕ). message_in_limits (record { partner = m.partner; operation = m.operation; count = k; values = stored 4 (take m.count m.values); reply = m.reply }) ≡ true) n
    (stored-limits m.partner m.operation (take m.count m.values) m.reply (rw n e))

plan-again : {p : Plan} {next : ℕ} {s r : State} → plan_in s ≡ found p next → Passes r → Same s r → Planned p next r
unfolding plan_in
plan-again {p} {next} {s} {r} e f q =
    let g = passed f in
    let h = (plan-found s e).1 in
    record { is = rw (g, q.plan, q.length, h); long = f.long }

plan-passes : {p : Plan} {next : ℕ} {s : State} → Planned p next s → Passes s
plan-passes {s = s} f = passes s f.long (plan-found s f.is).0

pub plan-within : {p : Plan} {next : ℕ} {s : State} → Planned p next s → plan_within p ≡ true
plan-within {s = s} f = accepted-is-within (take s.length s.plan) (plan-found s f.is).1

module _ {p : Plan} {next : ℕ} {s : State} (f : Planned p next s) where
  pub step-by-keeps : (c : ℕ) (t : Tally) → Planned p next (step_by p c s t).state
  step-by-keeps c t = plan-again f.is (by-passes p c s t (plan-within f) (plan-passes f)) (by-same p c s t)

  -- a step of a state with this plan is the plan's
  pub step-is-by : (c : ℕ) (t : Tally) → step c s t ≡ step_by p c s t
  unfolding step
  step-is-by c t = rw f.is

  pub step_keeps : (c : ℕ) (t : Tally) → Planned p next (step c s t).state
  step_keeps c t = rw (step-is-by c t) (step-by-keeps c t)

  pub post-keeps : (m : Message) → length m.values ≡ 4 → Planned p next (post m s).state
  unfolding post post_by
  post-keeps m l = rw f.is (ruled (exchanged m.partner m.operation m.count m.reply) refl (leb 64 s.waiting) refl)
    where
      ruled : (a : Bool) → exchanged m.partner m.operation m.count m.reply ≡ a → (b : Bool) → leb 64 s.waiting ≡ b
          → PostedPlan p next (cond (not a) (record { refusal = 13; state = s }) (cond b (record { refusal = 14; state = s }) (record { refusal = 0; state = adding (trimmed m) s })))
      ruled false e b g = f
      ruled true e true g = f
      ruled true e false g =
          plan-again f.is (add-passes (trimmed m) (leb-false 64 s.waiting g) (trimmed-limits m l e) (plan-passes f)) (record { plan = refl; length = refl })

  handing-keeps : (i : ℕ) → Planned p next (handing i s).state
  unfolding handing
  handing-keeps i = waits (ltb i s.waiting) refl
    where
      waits : (b : Bool) → ltb i s.waiting ≡ b
          → CollectedPlan p next (cond b (record { refusal = 0; message = get_or s.messages i no_message; state = removing i s }) (record { refusal = 15; message = no_message; state = s }))
      waits true e = plan-again f.is (remove-passes i (ltb-true _ _ e) (plan-passes f)) (record { plan = refl; length = refl })
      waits false e = f

  pub collect-keeps : Planned p next (collect s).state
  unfolding collect collect_by
  collect-keeps = rw f.is (handing-keeps (foreign (partners_of p) 0 (letters s)))

  pub drop_keeps : (i : ℕ) → Planned p next (drop_at i s).state
  unfolding drop_at
  drop_keeps i = rw f.is (handing-keeps i)

-- a state as it is loaded
pub load-plans : (l : List ℕ) {p : Plan} {next : ℕ} → read_plan l ≡ found p next → Planned p next (load l).state
unfolding load fresh plan_in in_limits every
load-plans l {p} {next} e =
    let h : length l ≤ 4096 = short-found l e in
    let g : take (length l) (stored 4096 l) ≡ l = take_at l (replicate (4096 - length l) 0) (length l) refl in
    rw e (record { is = rw (le-leb (length l) 4096 h, none-limits, g, e); long = length-replicate 64 no_message })
