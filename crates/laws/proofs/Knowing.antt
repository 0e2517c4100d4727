-- What an order knows is what the calls told, proved: over one step of each kind, and over any run from a fresh start. Assumes nothing.
use Prim.Native.Nat.{ℕ, zero, suc, ◌+◌, ◌<◌, ◌≤◌}
use native.Mathlib.Omega.{arith}
use mathlib.Core.Path.{◌≡◌, refl, sym, ap, subst, ◌∙◌}
use mathlib.Core.Bool.{Bool, true, false, cond, not, ◌&&◌, false≢true}
use mathlib.Core.List.{List, [], ◌∷◌, ◌++◌, append-nil}
use borrow.Author.Tests.{eqb-true, eqb-false, ltb-true, lt-ltb}
use lib.Dec.{eqb, ltb, leb}
use lib.ListN.{length, get_or, take, drop, set, replicate, length-set, length-replicate}
use lib.Seq.{get_or-drop, get_or-set_same, get_or-set_other}
use Rattle.plan.specs.Found.{Found, refused, found, among}
use Rattle.plan.specs.Read.{read_plan}
use Rattle.plan.specs.Table.{table_of}
use Rattle.plan.specs.Tree.{Exp, constant, variable, binary, From, from_partner, from_asking, stored_by, Own, empty, send, receive, set as setting, raise, leave, choose, repeat, sequence, flow, pick, scope, arm, Act, act, Plan, size, count}
use Rattle.plan.specs.Within.{own_within, exchange_within, variables_within, plan_within}
use Rattle.plan.proofs.Accepts.{both}
use Rattle.plan.proofs.Limits.{accepted-is-within}
use Rattle.order.specs.declared.Order.{Order}
use Rattle.order.specs.declared.End.{End}
use Rattle.order.specs.declared.End.TheVariants.{None, Well, Handled, Failed, Left}
use Rattle.order.specs.Acting.{started_order, may_send}
use Rattle.order.specs.Judging.{step_order}
use Rattle.order.specs.Expression.{unbound_variable, Value, fault, value, evaluate}
use Rattle.order.specs.Lists.{every}
use Rattle.order.specs.Stands.{Stands}
use Rattle.order.specs.State.{idle, is_live, is_bound, value_of, binding, no_order}
use Rattle.order.specs.Taking.{act_at, bind_all, storing, bind_own, bind_act}
use Rattle.order.proofs.Accepted.{within-spelled}
use Rattle.order.proofs.PlanStands.{plan-stands, plan-at}
use Rattle.machine.specs.declared.Message.{Message}
use Rattle.machine.specs.declared.State.{State}
use Rattle.machine.specs.declared.Step.{Step}
use Rattle.machine.specs.declared.Tally.{Tally}
use Rattle.machine.specs.Calls.{loaded_as, load, loaded, trimmed, post_by, post, partners_of, foreign, handing, collect_by, collect, drop_at, step_by, Chosen, refused_choice, chosen, choosing, refusing, answering, doing_at, messages_after, sent_by, gives, order_taking, Stepped, stepped, taken, step_chosen, step, Call, posting, collecting, dropping, stepping}
use Rattle.machine.specs.Fit.{Doing, no_step, sends, takes, moves, cuts, closes}
use Rattle.machine.specs.Limits.{exchanged, plan_in, by}
use Rattle.machine.specs.declared.Collected.{Collected}
use Rattle.machine.specs.declared.Posted.{Posted}
use Rattle.machine.proofs.Called.{plan-found}
use Rattle.machine.specs.Offer.{Offer, offers_of}
use Rattle.machine.specs.State.{no_message, fresh, letters, adding, removing}
use Rattle.laws.specs.Good.{acting_in, actor}
use Rattle.laws.specs.Known.{unknown, known, known_in, Given, last_of, take_gives, to_value, worth, set_gives, own_gives, own_of, Told, free, here, is_here, given_in, unless_ended, told_after, told, after, order_in, told_from, KnownAsTold, LiveAsTold, TakenAsKnown, set_to, variables_after, VariablesMove}
use Rattle.laws.proofs.Keeping.{Same, by-same, load-plans}
use Rattle.laws.proofs.Offering.{Fine, chosen-fine}
use Rattle.laws.proofs.Promised.{step-at, refusal-some, taken_as, taken-answer, taken-in-full}
use Rattle.laws.specs.Promises.{TakenInFull}
use Rattle.laws.proofs.Roomy.{takes_same}
use Rattle.laws.proofs.Variables.{set_by, Goes, goes-leaves, order-goes}

-- a set after the take of its own activity: each does its own
set-taken : (own : Own) (xs : List ℕ) (o : Order) → set_by own (bind_own own xs o) ≡ variables_after own xs o
unfolding set_by bind_own variables_after
set-taken empty xs o = refl
set-taken (send p q vs) xs o = refl
set-taken (receive f q vs) xs o = refl
set-taken (setting v e) xs o = refl
set-taken (raise zero) xs o = refl
set-taken (raise (suc number)) xs o = refl
set-taken leave xs o = refl
set-taken (choose e) xs o = refl
set-taken (repeat e) xs o = refl
set-taken sequence xs o = refl
set-taken flow xs o = refl
set-taken pick xs o = refl
set-taken (scope ns u) xs o = refl
set-taken (arm p q vs) xs o = refl

act-taken : (a : Act) (xs : List ℕ) (o : Order) → set_by (own_of a) (bind_act a xs o) ≡ variables_after (own_of a) xs o
act-taken (act own l) xs o = set-taken own xs o

bind-root : (vs xs : List ℕ) (o : Order) → (bind_all vs xs o).root ≡ o.root
unfolding bind_all
bind-root [] xs o = refl
bind-root (v ∷ vs) xs o = bind-root vs (drop 1 xs) (binding v (get_or xs 0 0) o)

store-root : (f : From) (r : ℕ) (o : Order) → (storing f r o).root ≡ o.root
store-root (from_partner p) r o = refl
store-root (from_asking p v) r o = refl

taking-root : (d : Doing) (m : Message) (o : Order) → (order_taking d m o).root ≡ o.root
unfolding order_taking
taking-root no_step m o = refl
taking-root (sends p q vs) m o = refl
taking-root (takes f q vs) m o = store-root f (get_or (gives m) 4 0) (bind_all vs (gives m) o) ∙ bind-root vs (gives m) o
taking-root moves m o = refl
taking-root cuts m o = refl
taking-root (closes u s) m o = refl

messages-orders : (d : Doing) (j : ℕ) (o : Order) (s : State) → (messages_after d j o s).orders ≡ s.orders
unfolding messages_after
messages-orders no_step j o s = refl
messages-orders (sends to q vs) j o s = go (may_send o to vs) (sent_by o to q vs)
  where
    go : (b : Bool) (m : Message) → ◌≡◌ {A = List Order} (cond b (adding m s) s).orders s.orders
    go true m = refl
    go false m = refl
messages-orders (takes p q vs) j o s = refl
messages-orders moves j o s = refl
messages-orders cuts j o s = refl
messages-orders (closes u x) j o s = refl

-- the order that has a step is live
abbrev is_idle : Order → Bool
is_idle o = eqb o.root idle

acting-live : (p : Plan) (o : Order) → is_idle (acting_in p o) ≡ false
unfolding started_order
acting-live p o = go (is_idle o) refl
  where
    go : (b : Bool) → is_idle o ≡ b → is_idle (elim (not b) [ true ↦ o | false ↦ started_order p ]) ≡ false
    go true e = refl
    go false e = e

-- what stands in the slot after a step: an order with these variables that is live, or none
module _ (p : Plan) (s : State) (x : Offer) (h : x.slot < length s.orders) (g : x.activity < size p.body + size p.fault) where
  abbrev letter : Message
  letter = get_or s.messages x.place no_message

  abbrev wanted : Order
  wanted = variables_after (own_of (act_at p x.activity)) (gives letter) (actor p s.orders x.slot)

  slot-goes : (t : Tally) (l : List _) → let r = stepped p x s t (actor p s.orders x.slot) l in Goes r.answer.end wanted (get_or r.state.orders x.slot no_order)
  unfolding stepped
  slot-goes t l =
      let o = actor p s.orders x.slot in
      let d = doing_at p x.activity in
      let q = order_taking d letter o in
      let a : bind_act (act_at p x.activity) (gives letter) o ≡ q = takes_same p x.activity g letter o in
      let e : eqb q.root idle ≡ false = rw (taking-root d letter o) (acting-live p (get_or s.orders x.slot no_order)) in
      let w : set_by (own_of (act_at p x.activity)) q ≡ wanted = ap (set_by (own_of (act_at p x.activity))) (sym a) ∙ act-taken (act_at p x.activity) (gives letter) o in
      let m = step_order p x.activity q in
      let y : get_or (set (messages_after d x.place o s).orders x.slot m.order) x.slot no_order ≡ m.order =
      ap (λ (z : List Order). get_or (set z x.slot m.order) x.slot no_order) (messages-orders d x.place o s) ∙ get_or-set_same s.orders x.slot m.order no_order h in
      rw (y, sym w) (order-goes p x.activity q g e)

  pub taken-goes : (t : Tally) → Goes (taken p x s t).answer.end wanted (get_or (taken p x s t).state.orders x.slot no_order)
  taken-goes t = let w = taken_as p x s t in rw w.is (slot-goes w.tally w.log)

pub variables-move : VariablesMove
unfolding VariablesMove step_chosen
variables-move p next s t c x f n e =
    let g = chosen-fine p s c x e in
    let h : x.slot < length s.orders = omega (arith, g.slot n, n) in
    rw (step-at s f.is c t, e) (goes-leaves (taken p x s t).answer.end _ _ (taken-goes p s x h g.good.inside t))

-- An order that knows this: it is live, has its 16 variables, and holds what was given last.
record Knows (o : Order) (l : List Given) : Type 0 where
  live : is_idle o ≡ false
  values : length o.values ≡ 16
  bound : length o.bound ≡ 16
  is : (v : ℕ) → known_in o v ≡ last_of v l

-- a variable that is bound
knows-binding : {o : Order} {l : List Given} (v x : ℕ) → v < 16 → Knows o l → Knows (binding v x o) (record { variable = v; value = x } ∷ l)
unfolding known_in last_of
knows-binding {o} {l} v x h f = record {
  live = f.live;
  values = length-set o.values v x ∙ f.values;
  bound = length-set o.bound v 1 ∙ f.bound;
  is = λ w. go w (eqb v w) refl;
}
  where
    go : (w : ℕ) (b : Bool) → eqb v w ≡ b
        → cond (eqb (get_or (set o.bound v 1) w 0) 1) (known (get_or (set o.values v x) w 0)) unknown ≡ cond b (known x) (last_of w l)
    go w true e =
        let z : v ≡ w = eqb-true v w e in
        rw (sym z, get_or-set_same o.bound v 1 0 (omega (arith, f.bound)), get_or-set_same o.values v x 0 (omega (arith, f.values)))
    go w false e =
        let n : w ≡ v → ⊥ = λ z. eqb-false v w e (sym z) in
        rw (get_or-set_other o.bound v w 1 0 n, get_or-set_other o.values v w x 0 n) (f.is w)

-- what an expression comes to
evaluate-worth : (e : Exp) {o : Order} {l : List Given} → Knows o l → evaluate e o ≡ worth e l
unfolding evaluate worth known_in
evaluate-worth (constant n) f = refl
evaluate-worth (variable v) {o} f = go (is_bound o v) ∙ ap to_value (f.is v)
  where
    go : (b : Bool) → cond b (value (value_of o v)) (fault unbound_variable) ≡ to_value (cond b (known (value_of o v)) unknown)
    go true = refl
    go false = refl
evaluate-worth (binary op x y) f = rw (evaluate-worth x f, evaluate-worth y f)

-- the variables that an activity of an accepted plan names are among the 16
unfoldable pub Lower : Own → Type 0
Lower empty = Unit
Lower (send p q vs) = Unit
Lower (receive f q vs) = every (λ v. ltb v 16) (vs ++ stored_by f) ≡ true
Lower (setting v e) = v < 16
Lower (raise number) = Unit
Lower leave = Unit
Lower (choose e) = Unit
Lower (repeat e) = Unit
Lower sequence = Unit
Lower flow = Unit
Lower pick = Unit
Lower (scope ns u) = Unit
Lower (arm p q vs) = every (λ v. ltb v 16) vs ≡ true

lower-all : (vars : ℕ) (once : Bool) (vs : List ℕ) → vars ≤ 16 → variables_within vars once vs ≡ true → every (λ v. ltb v 16) vs ≡ true
unfolding variables_within every
lower-all vars once [] h e = refl
lower-all vars once (v ∷ vs) h e =
    both (ltb v vars) _ e (λ a b. both (not (once && among v vs)) _ b (λ c d.
    rw (lt-ltb v 16 (omega (arith, ltb-true v vars a, h)), lower-all vars once vs h d)))

lower-exchange : (vars : ℕ) (once : Bool) (p q : ℕ) (vs : List ℕ) → vars ≤ 16 → exchange_within vars once p q vs ≡ true → every (λ v. ltb v 16) vs ≡ true
unfolding exchange_within
lower-exchange vars once p q vs h e =
    both (ltb p 64) _ e (λ a b. both (ltb q 64) _ b (λ c d. both (leb 1 (length vs)) _ d (λ f g. both (leb (length vs) 4) _ g (λ i j. lower-all vars once vs h j))))

lower-more : (vs : List ℕ) (v : ℕ) → every (λ v. ltb v 16) vs ≡ true → v < 16 → every (λ v. ltb v 16) (vs ++ (v ∷ [])) ≡ true
unfolding every
lower-more [] v e h = rw (lt-ltb v 16 h)
lower-more (w ∷ vs) v e h = both (ltb w 16) _ e (λ a b. rw (a, lower-more vs v b h))

lower-own : (vars : ℕ) (cs : List ℕ) (h r : Bool) (own : Own) (n : ℕ) → vars ≤ 16 → own_within vars cs h r own n ≡ true → Lower own
unfolding Lower own_within
lower-own vars cs h r empty n f e = tt
lower-own vars cs h r (send p q vs) n f e = tt
lower-own vars cs h r (receive (from_partner p) q vs) n f e = both (not r) _ e (λ a b. both (eqb n 0) _ b (λ c d. rw (append-nil vs) (lower-exchange vars true p q vs f d)))
lower-own vars cs h r (receive (from_asking p v) q vs) n f e =
    both (not r) _ e (λ a b.
    both (eqb n 0) _ b (λ c d.
    both (exchange_within vars true p q vs) _ d (λ g i.
    both (ltb v vars) _ i (λ j k.
    lower-more vs v (lower-exchange vars true p q vs f g) (omega (arith, ltb-true v vars j, f))))))
lower-own vars cs h r (setting v x) n f e = both (not r) _ e (λ a b. both (eqb n 0) _ b (λ c d. both (ltb v vars) _ d (λ g i. omega (arith, ltb-true v vars g, f))))
lower-own vars cs h r (raise number) n f e = tt
lower-own vars cs h r leave n f e = tt
lower-own vars cs h r (choose x) n f e = tt
lower-own vars cs h r (repeat x) n f e = tt
lower-own vars cs h r sequence n f e = tt
lower-own vars cs h r flow n f e = tt
lower-own vars cs h r pick n f e = tt
lower-own vars cs h r (scope ns u) n f e = tt
lower-own vars cs h r (arm p q vs) n f e = both r _ e (λ a b. both (eqb n 1) _ b (λ c d. lower-exchange vars true p q vs f d))

pub lower-at : (p : Plan) (t : ℕ) → plan_within p ≡ true → t < size p.body + size p.fault → Lower (own_of (act_at p t))
unfolding Stands
lower-at p t h g = go (act_at p t) (plan-at p _ _ (plan-stands (within-spelled p h)) t g)
  where
    go : (a : Act) → Stands a t (table_of p) → Lower (own_of a)
    go (act own l) s = lower-own s.first.variables s.first.correlation s.first.handler s.first.arms own (count l) s.first.few s.first.limits

-- a take and a set
knows-take : (vs xs : List ℕ) {o : Order} {l : List Given} → every (λ v. ltb v 16) vs ≡ true → Knows o l → Knows (bind_all vs xs o) (take_gives vs xs l)
unfolding bind_all take_gives every
knows-take [] xs e f = f
knows-take (v ∷ vs) xs e f = both (ltb v 16) _ e (λ a b. knows-take vs (drop 1 xs) b (knows-binding v (get_or xs 0 0) (ltb-true v 16 a) f))

every_first : (vs ws : List ℕ) → every (λ v. ltb v 16) (vs ++ ws) ≡ true → every (λ v. ltb v 16) vs ≡ true
unfolding every
every_first [] ws e = refl
every_first (v ∷ vs) ws e = both (ltb v 16) _ e (λ a b. rw (a, every_first vs ws b))

pub every_rest : (vs ws : List ℕ) → every (λ v. ltb v 16) (vs ++ ws) ≡ true → every (λ v. ltb v 16) ws ≡ true
unfolding every
every_rest [] ws e = e
every_rest (v ∷ vs) ws e = both (ltb v 16) _ e (λ a b. every_rest vs ws b)

-- and what stores the reply partner
knows-store : (g : From) (xs : List ℕ) {o : Order} {l : List Given} → every (λ v. ltb v 16) (stored_by g) ≡ true → Knows o l
    → Knows (storing g (get_or xs 4 0) o) (take_gives (stored_by g) (drop 4 xs) l)
unfolding take_gives every
knows-store (from_partner p) xs e f = f
knows-store (from_asking p v) xs e f = both (ltb v 16) _ e (λ a b. rw (get_or-drop 4 xs 0 0) (knows-binding v (get_or xs 4 0) (ltb-true v 16 a) f))

knows_after : (own : Own) (xs : List ℕ) {o : Order} {l : List Given} → Lower own → Knows o l → Knows (variables_after own xs o) (own_gives own xs l)
unfolding Lower variables_after own_gives
knows_after empty xs h f = f
knows_after (send p q vs) xs h f = f
knows_after (receive g q vs) xs h f = knows-store g xs (every_rest vs _ h) (knows-take vs xs (every_first vs _ h) f)
knows_after (setting v e) xs {o} {l} h f = rw (evaluate-worth e f) (go (worth e l))
  where
    go : (x : Value) → Knows (set_to v x o) (set_gives v x l)
    go (fault n) = f
    go (value n) = knows-binding v n h f
knows_after (raise number) xs h f = f
knows_after leave xs h f = f
knows_after (choose e) xs h f = f
knows_after (repeat e) xs h f = f
knows_after sequence xs h f = f
knows_after flow xs h f = f
knows_after pick xs h f = f
knows_after (scope ns u) xs h f = f
knows_after (arm p q vs) xs h f = knows-take vs xs h f

-- A slot as it is told: no order, or one that knows this.
unfoldable Tells : Order → Told → Type 0
Tells o free = o ≡ no_order
Tells o (here l) = Knows o l

zeros : (n v : ℕ) → ◌≡◌ {A = ℕ} (get_or (replicate n 0) v 0) 0
zeros zero v = refl
zeros (suc n) zero = refl
zeros (suc n) (suc v) = zeros n v

none-known : (v : ℕ) → known_in no_order v ≡ unknown
unfolding known_in no_order
none-known v = rw (zeros 16 v)

started-knows : (p : Plan) → Knows (started_order p) []
unfolding started_order no_order last_of known_in
started-knows p = record { live = refl; values = refl; bound = refl; is = λ v. rw (zeros 16 v) }

-- the order that has a step knows what was given since it started
acting-knows : (p : Plan) (o : Order) (q : Told) → Tells o q → Knows (acting_in p o) (given_in q)
unfolding Tells no_order
acting-knows p o free e = rw e (started-knows p)
acting-knows p o (here l) f = go (is_idle o) f.live
  where
    go : (b : Bool) → b ≡ false → Knows (elim (not b) [ true ↦ o | false ↦ started_order p ]) l
    go true e = absurd (false≢true (sym e))
    go false e = f

goes-tells : (e : End) (w q : Order) (l : List Given) → Goes e w q → Knows w l → Tells q (unless_ended e l)
unfolding Goes Tells unless_ended known_in
goes-tells None w q l g f = record {
  live = g.2;
  values = ap length g.0 ∙ f.values;
  bound = ap length g.1 ∙ f.bound;
  is = λ v. rw (g.0, g.1) (f.is v);
}
goes-tells Well w q l g f = g
goes-tells Handled w q l g f = g
goes-tells Failed w q l g f = g
goes-tells Left w q l g f = g

-- A state along a run from a fresh start: its plan's bytes stay, its slots are 16, and this one is as it is told.
record Along (p : Plan) (next i : ℕ) (s : State) (q : Told) : Type 0 where
  plan : read_plan (take s.length s.plan) ≡ found p next
  long : length s.orders ≡ 16
  tells : Tells (get_or s.orders i no_order) q

-- what leaves plan and orders as they are
record Kept (s r : State) : Type 0 where
  plan : r.plan ≡ s.plan
  length : r.length ≡ s.length
  orders : r.orders ≡ s.orders

kept : (s : State) → Kept s s
kept s = record { plan = refl; length = refl; orders = refl }

abbrev KeptPosted : State → Posted → Type 0
KeptPosted s r = Kept s r.state

abbrev KeptCollected : State → Collected → Type 0
KeptCollected s r = Kept s r.state

post-kept : (m : Message) (s : State) → Kept s (post m s).state
unfolding post post_by
post-kept m s = go (plan_in s)
  where
    ruled : (a b : Bool) → KeptPosted s (cond (not a) (record { refusal = 13; state = s }) (cond b (record { refusal = 14; state = s }) (record { refusal = 0; state = adding (trimmed m) s })))
    ruled false b = kept s
    ruled true true = kept s
    ruled true false = record { plan = refl; length = refl; orders = refl }

    go : (g : Found Plan) → KeptPosted s (by (record { refusal = 17; state = s }) (λ p. post_by p m s) g)
    go (refused n k) = kept s
    go (found p n) = ruled (exchanged m.partner m.operation m.count m.reply) (leb 64 s.waiting)

handing-kept : (i : ℕ) (s : State) → Kept s (handing i s).state
unfolding handing
handing-kept i s = test (ltb i s.waiting)
  where
    test : (b : Bool) → KeptCollected s (cond b (record { refusal = 0; message = get_or s.messages i no_message; state = removing i s }) (record { refusal = 15; message = no_message; state = s }))
    test true = record { plan = refl; length = refl; orders = refl }
    test false = kept s

handed-kept : (place : Plan → ℕ) (s : State) (g : Found Plan) → KeptCollected s (by (record { refusal = 17; message = no_message; state = s }) (λ p. handing (place p) s) g)
handed-kept place s (refused n k) = kept s
handed-kept place s (found p n) = handing-kept (place p) s

collect-kept : (s : State) → Kept s (collect s).state
unfolding collect collect_by
collect-kept s = handed-kept (λ p. foreign (partners_of p) 0 (letters s)) s (plan_in s)

drop-kept : (i : ℕ) (s : State) → Kept s (drop_at i s).state
unfolding drop_at
drop-kept i s = handed-kept (λ p. i) s (plan_in s)

along-kept : {p : Plan} {next i : ℕ} {s r : State} {q : Told} → Kept s r → Along p next i s q → Along p next i r q
along-kept k f = record {
  plan = rw (k.plan, k.length) f.plan;
  long = rw k.orders f.long;
  tells = rw k.orders f.tells;
}

-- the orders after a step that is taken
module _ (p : Plan) (s : State) (x : Offer) (t : Tally) where
  taken-many : length (taken p x s t).state.orders ≡ length s.orders
  unfolding stepped
  taken-many =
      let w = taken_as p x s t in
      let o = actor p s.orders x.slot in
      let d = doing_at p x.activity in
      rw w.is (length-set (messages_after d x.place o s).orders x.slot (step_order p x.activity (order_taking d (get_or s.messages x.place no_message) o)).order
      ∙ ap length (messages-orders d x.place o s))

  taken-other : (j : ℕ) → (j ≡ x.slot → ⊥) → get_or (taken p x s t).state.orders j no_order ≡ get_or s.orders j no_order
  unfolding stepped
  taken-other j h =
      let w = taken_as p x s t in
      let o = actor p s.orders x.slot in
      let d = doing_at p x.activity in
      rw w.is (get_or-set_other (messages_after d x.place o s).orders x.slot j (step_order p x.activity (order_taking d (get_or s.messages x.place no_message) o)).order no_order h
      ∙ ap (λ (z : List Order). get_or z j no_order) (messages-orders d x.place o s))

-- an order that has not had this step; one that has
abbrev told_as : Plan → State → Offer → End → Told → Told
told_as p s x e q = unless_ended e (own_gives (own_of (act_at p x.activity)) (gives (get_or s.messages x.place no_message)) (given_in q))

module _ {p : Plan} {next i : ℕ} (w : plan_within p ≡ true) (s : State) (q : Told) (f : Along p next i s q) where
  abbrev Steps : Stepped → Type 0
  Steps r = Along p next i r.state (told_after p i s r q)

  taken-along : (c : ℕ) (t : Tally) (x : Offer) → choosing (offers_of p s) c ≡ chosen x → Same s (taken p x s t).state → Steps (taken p x s t)
  unfolding told_after
  taken-along c t x e k =
      rw (taken-answer p x s t) (go (eqb x.slot i) refl)
    where
      g : Fine p s x
      g = chosen-fine p s c x e

      h : x.slot < length s.orders
      h = omega (arith, g.slot f.long, f.long)

      go : (b : Bool) → eqb x.slot i ≡ b → Along p next i (taken p x s t).state (cond b (told_as p s x (taken p x s t).answer.end q) q)
      go true d =
          let z : x.slot ≡ i = eqb-true x.slot i d in
          let o : get_or s.orders x.slot no_order ≡ get_or s.orders i no_order = rw z in
          record {
            plan = rw (k.plan, k.length) f.plan;
            long = taken-many p s x t ∙ f.long;
            tells = subst (λ (n : ℕ). Tells (get_or (taken p x s t).state.orders n no_order) (told_as p s x (taken p x s t).answer.end q)) z
                (goes-tells (taken p x s t).answer.end _ (get_or (taken p x s t).state.orders x.slot no_order) _ (taken-goes p s x h g.good.inside t)
                (knows_after (own_of (act_at p x.activity)) (gives (get_or s.messages x.place no_message)) (lower-at p x.activity w g.good.inside)
                (acting-knows p (get_or s.orders x.slot no_order) q (rw o f.tells))));
          }
      go false d = record {
        plan = rw (k.plan, k.length) f.plan;
        long = taken-many p s x t ∙ f.long;
        tells = rw (taken-other p s x t i (λ z. eqb-false x.slot i d (sym z))) f.tells;
      }

  -- a step, taken or refused
  chosen-along : (c : ℕ) (t : Tally) → Steps (step_by p c s t)
  unfolding step_by step_chosen told_after
  chosen-along c t = go (choosing (offers_of p s) c) refl (by-same p c s t)
    where
      go : (y : Chosen) → choosing (offers_of p s) c ≡ y → Same s (step_chosen p s t (choosing (offers_of p s) c)).state → Steps (step_chosen p s t y)
      go (refused_choice n) e k = refusing-along (eqb n 0) refl
        where
          refusing-along : (b : Bool) → eqb n 0 ≡ b → Along p next i s (cond (b && eqb 0 i) (told_as p s (record { slot = 0; activity = 0; place = 0 }) None q) q)
          refusing-along true d = absurd (refusal-some (offers_of p s) c n e (eqb-true n 0 d))
          refusing-along false d = f
      go (chosen x) e k = taken-along c t x e (rw e at k)

  step-along : (c : ℕ) (t : Tally) → Steps (step c s t)
  unfolding step told_after
  step-along c t = go (plan_in s) refl
    where
      go : (g : Found Plan) → plan_in s ≡ g → Steps (by (record { answer = refusing 17; state = s; tally = t; log = [] }) (λ p. step_by p c s t) g)
      go (refused n k) e = f
      go (found p' n) e = let z : p ≡ p' = cc ((plan-found s e).1, f.plan) in subst (λ (y : Plan). Steps (step_by y c s t)) z (chosen-along c t)

told-along : {p : Plan} {next : ℕ} (i : ℕ) → plan_within p ≡ true → (l : List Call) (s : State) (t : Tally) (q : Told) → Along p next i s q → Along p next i (after l s t).0 (told p l i s t q)
unfolding after told
told-along i w [] s t q f = f
told-along i w (posting m ∷ l) s t q f = told-along i w l (post m s).state t q (along-kept (post-kept m s) f)
told-along i w (collecting ∷ l) s t q f = told-along i w l (collect s).state t q (along-kept (collect-kept s) f)
told-along i w (dropping j ∷ l) s t q f = told-along i w l (drop_at j s).state t q (along-kept (drop-kept j s) f)
told-along {p} i w (stepping c ∷ l) s t q f = told-along i w l (step c s t).state (step c s t).tally (told_after p i s (step c s t) q) (step-along w s q f c t)

frees : (n i : ℕ) → get_or (replicate n no_order) i no_order ≡ no_order
frees zero i = refl
frees (suc n) zero = refl
frees (suc n) (suc i) = frees n i

fresh-along : (bytes : List ℕ) {p : Plan} {next : ℕ} → read_plan bytes ≡ found p next → (i : ℕ) → Along p next i (loaded bytes) free
unfolding load fresh Tells
fresh-along bytes {p} {next} e i =
    let z : loaded bytes ≡ fresh bytes = ap (λ (g : Found Plan). (loaded_as bytes g).state) e in
    let g : plan_in (fresh bytes) ≡ found p next = subst (λ (s : State). plan_in s ≡ found p next) z (load-plans bytes e).is in
    subst (λ (s : State). Along p next i s free) (sym z) (record { plan = (plan-found (fresh bytes) g).1; long = length-replicate 16 no_order; tells = frees 16 i })

run_along : (bytes : List ℕ) {p : Plan} {next : ℕ} → read_plan bytes ≡ found p next → (l : List Call) (i : ℕ) (t : Tally)
    → Along p next i (after l (loaded bytes) t).0 (told_from bytes p l i t)
run_along bytes e l i t = told-along i (accepted-is-within bytes e) l (loaded bytes) t free (fresh-along bytes e i)

tells-known : (o : Order) (q : Told) (v : ℕ) → Tells o q → known_in o v ≡ last_of v (given_in q)
unfolding Tells last_of
tells-known o free v f = rw f (none-known v)
tells-known o (here l) v f = f.is v

tells-live : (o : Order) (q : Told) → Tells o q → is_live o ≡ is_here q
unfolding Tells no_order
tells-live o free f = rw f
tells-live o (here l) f = rw f.live

pub known-as-told : KnownAsTold
unfolding KnownAsTold
known-as-told bytes p next e l i t v = tells-known (order_in bytes l i t) (told_from bytes p l i t) v (run_along bytes e l i t).tells

pub live-as-told : LiveAsTold
unfolding LiveAsTold
live-as-told bytes p next e l i t = tells-live (order_in bytes l i t) (told_from bytes p l i t) (run_along bytes e l i t).tells

-- a variable that is known
known-bound : (o : Order) (v x : ℕ) → known_in o v ≡ known x → (is_bound o v ≡ true) × (value_of o v ≡ x)
unfolding known_in
known-bound o v x e = go (is_bound o v) e
  where
    go : (b : Bool) → cond b (known (value_of o v)) unknown ≡ known x → (b ≡ true) × (value_of o v ≡ x)
    go true d = (refl, cc)
    go false d = absurd (let z : ◌≡◌ {A = ℕ} 0 1 = cc in omega arith)

-- what a step with this answer says of its message
abbrev Full : (bytes : List ℕ) → Plan → List Call → Tally → State → Step → Type 0
Full bytes p calls t s a =
    a.refusal ≡ 0 → (l : List Given) → told_from bytes p calls a.slot t ≡ here l
    → (from : From) (operation : ℕ) (vs : List ℕ) → doing_at p a.activity ≡ takes from operation vs
    → (i : ℕ) → i < length vs → among (get_or vs i 0) p.correlation ≡ true → (x : ℕ) → last_of (get_or vs i 0) l ≡ known x
    → get_or (get_or s.messages a.place no_message).values i 0 ≡ x

pub taken-as-known : TakenAsKnown
unfolding TakenAsKnown TakenInFull Tells step step_by step_chosen
taken-as-known bytes p next e calls t c = go (plan_in s) refl
  where
    s : State
    s = (after calls (loaded bytes) t).0

    T : Tally
    T = (after calls (loaded bytes) t).1

    at : (x : Offer) (d : End) (f : ℕ) → choosing (offers_of p s) c ≡ chosen x → Full bytes p calls t s (answering x d f)
    at x d f y z l q a b vs u i h k v g =
        let r : Along p next x.slot s (told_from bytes p calls x.slot t) = run_along bytes e calls x.slot t in
        let w : Knows (get_or s.orders x.slot no_order) l = subst (Tells (get_or s.orders x.slot no_order)) q r.tells in
        let n = known-bound (get_or s.orders x.slot no_order) (get_or vs i 0) v (w.is (get_or vs i 0) ∙ g) in
        taken-in-full p s c x y (rw w.live) a b vs u i h k n.0 ∙ n.1

    by-choice : (y : Chosen) → choosing (offers_of p s) c ≡ y → Full bytes p calls t s (step_chosen p s T y).answer
    by-choice (refused_choice n) y = λ z. absurd (refusal-some (offers_of p s) c n y z)
    by-choice (chosen x) y = rw (taken-answer p x s T) (at x (taken p x s T).answer.end (taken p x s T).answer.fault y)

    go : (g : Found Plan) → plan_in s ≡ g → Full bytes p calls t s (by (record { answer = refusing 17; state = s; tally = T; log = [] }) (λ p. step_by p c s T) g).answer
    go (refused n k) y = λ z. absurd (omega arith)
    go (found p' n) y =
        let f : Along p next 0 s (told_from bytes p calls 0 t) = run_along bytes e calls 0 t in
        let z : p ≡ p' = cc ((plan-found s y).1, f.plan) in
        subst (λ (w : Plan). Full bytes p calls t s (step_by w c s T).answer) z (by-choice (choosing (offers_of p s) c) refl)
