-- What the calls on one order ask for and give, by the step that an activity is there for. Assumes nothing.
use mathlib.Core.Path.{◌≡◌, refl, sym, ap, ◌∙◌, subst}
use mathlib.Core.Bool.{Bool, true, false, not, ◌||◌, false≢true}
use mathlib.Core.List.{List, [], ◌∷◌}
use Prim.Native.Nat.{ℕ, zero, suc, ◌+◌, ◌<◌, ◌≤◌}
use native.Mathlib.Omega.{arith}
use borrow.Author.Tests.{ltb-false, lt-ltb}
use lib.Dec.{eqb, ltb}
use lib.ListN.{length, get_or, drop}
use Rattle.plan.specs.Tree.{Exp, From, from_partner, from_asking, Own, empty, send, receive, set as setting, raise, leave, choose, repeat, sequence, flow, pick, scope, arm, has_undo, Act, act, Acts, none, more, Plan, size}
use Rattle.order.specs.Lists.{only}
use Rattle.order.specs.Room.{has_room, room_in, room_among, room_plan}
use Rattle.order.specs.Scope.{Scope, is_for, forgetting, scope_at}
use Rattle.order.specs.State.{closings, binding}
use Rattle.order.specs.Taking.{act_in, act_among, bind_all, storing, bind_own, bind_act, taking}
use Rattle.machine.specs.declared.Message.{Message}
use Rattle.order.specs.declared.Closing.{Closing}
use Rattle.order.specs.declared.Order.{Order}
use Rattle.order.proofs.MemoryReturns.{closings-are}
use Rattle.machine.specs.Calls.{doing_in, doing_among, doing_at, gives, order_taking}
use Rattle.machine.specs.Fit.{Doing, no_step, sends, takes, moves, cuts, closes, doing_of}
use Rattle.machine.specs.Offer.{close_held}

-- whether a step has room with these closings remembered
unfoldable pub room_of : Doing → List Closing → Bool
room_of no_step xs = true
room_of (sends p o vs) xs = true
room_of (takes p o vs) xs = true
room_of moves xs = true
room_of cuts xs = true
room_of (closes undo s) xs = not undo || ltb (length (only (λ e. not (is_for s e)) xs)) 32

none-room : (xs : List Closing) → true ≡ room_of no_step xs
unfolding room_of
none-room xs = refl

own_room : (own : Own) (l : Acts) (k : ℕ) (xs : List Closing) → has_room own l k xs ≡ room_of (doing_of own l k) xs
unfolding has_room room_of doing_of
own_room empty l k xs = refl
own_room (send p o vs) l k xs = refl
own_room (receive p o vs) l k xs = refl
own_room (setting v e) l k xs = refl
own_room (raise zero) l k xs = refl
own_room (raise (suc number)) l k xs = refl
own_room leave l k xs = refl
own_room (choose e) l k xs = refl
own_room (repeat e) l k xs = refl
own_room sequence l k xs = refl
own_room flow l k xs = refl
own_room pick l k xs = refl
own_room (scope ns u) l k xs = refl
own_room (arm p o vs) l k xs = refl

mutual
  unfolding room_in doing_in

  pub in-room : (a : Act) (k t : ℕ) (xs : List Closing) → room_in a k t xs ≡ room_of (doing_in a k t) xs
  in-room (act own l) k t xs = by-test (eqb k t) (own_room own l k xs) (among-room l (k + 1) t xs)
    where
      by-test : (b : Bool) → has_room own l k xs ≡ room_of (doing_of own l k) xs → room_among l (k + 1) t xs ≡ room_of (doing_among l (k + 1) t) xs
          → ◌≡◌ {A = Bool} (elim b [ true ↦ has_room own l k xs | false ↦ room_among l (k + 1) t xs ])
          (room_of (elim b [ true ↦ doing_of own l k | false ↦ doing_among l (k + 1) t ]) xs)
      by-test true e f = e
      by-test false e f = f

  pub among-room : (l : Acts) (c t : ℕ) (xs : List Closing) → room_among l c t xs ≡ room_of (doing_among l c t) xs
  among-room none c t xs = none-room xs
  among-room (more a l) c t xs = by-test (ltb t (c + size a)) (in-room a c t xs) (among-room l (c + size a) t xs)
    where
      by-test : (b : Bool) → room_in a c t xs ≡ room_of (doing_in a c t) xs → room_among l (c + size a) t xs ≡ room_of (doing_among l (c + size a) t) xs
          → ◌≡◌ {A = Bool} (elim b [ true ↦ room_in a c t xs | false ↦ room_among l (c + size a) t xs ])
          (room_of (elim b [ true ↦ doing_in a c t | false ↦ doing_among l (c + size a) t ]) xs)
      by-test true e f = e
      by-test false e f = f

-- so the step that an activity of a plan is there for has room where that is said of the step
pub plan-room : (p : Plan) (t : ℕ) (xs : List Closing) → room_of (doing_at p t) xs ≡ true → room_plan p t xs ≡ true
unfolding doing_at doing_in room_of
plan-room p t xs h =
    let z : 0 + size p.body ≡ size p.body = omega arith in
    among-room (more p.body (more p.fault none)) 0 t xs
    ∙ subst (λ (n : ℕ). room_of (elim (ltb t n) [
      | true ↦ doing_in p.body 0 t
      | false ↦ elim (ltb t (n + size p.fault)) [ true ↦ doing_in p.fault n t | false ↦ no_step ]
    ]) xs ≡ true) (sym z) (go (ltb t (size p.body)) (ltb t (size p.body + size p.fault)) h)
  where
    go : (a b : Bool) → room_of (elim a [ true ↦ doing_in p.body 0 t | false ↦ doing_in p.fault (size p.body) t ]) xs ≡ true
        → room_of (elim a [
          | true ↦ doing_in p.body 0 t
          | false ↦ elim b [ true ↦ doing_in p.fault (size p.body) t | false ↦ no_step ]
        ]) xs ≡ true
    go true b h = h
    go false true h = h
    go false false h = refl

-- and a close has room where it is not held
pub close-room : (o : Order) (undo : Bool) (s : Scope) → close_held o undo s ≡ false → room_of (closes undo s) (closings o) ≡ true
unfolding room_of forgetting
close-room o false s h = refl
close-room o true s h =
    let xs = only (λ e. not (is_for s e)) (closings o) in
    let m : length xs + 1 ≤ 32 = rw (closings-are xs o) at (ltb-false 32 (length (closings (forgetting s o)) + 1) h) in
    lt-ltb (length xs) 32 (omega arith)

-- what a take binds, by the step that an activity is there for and by what it says of itself
own-takes : (own : Own) (l : Acts) (k : ℕ) (m : Message) (o : Order) → order_taking (doing_of own l k) m o ≡ bind_own own (gives m) o
unfolding doing_of order_taking bind_own
own-takes empty l k m o = refl
own-takes (send p q vs) l k m o = refl
own-takes (receive p q vs) l k m o = refl
own-takes (setting v e) l k m o = refl
own-takes (raise zero) l k m o = refl
own-takes (raise (suc number)) l k m o = refl
own-takes leave l k m o = refl
own-takes (choose e) l k m o = refl
own-takes (repeat e) l k m o = refl
own-takes sequence l k m o = refl
own-takes flow l k m o = refl
own-takes pick l k m o = refl
own-takes (scope ns u) l k m o = refl
own-takes (arm p q vs) l k m o = refl

none-takes : (m : Message) (o : Order) → order_taking no_step m o ≡ bind_act (act empty none) (gives m) o
unfolding order_taking bind_own
none-takes m o = refl

mutual
  unfolding act_in doing_in

  in-takes : (a : Act) (k t : ℕ) (m : Message) (o : Order) → order_taking (doing_in a k t) m o ≡ bind_act (act_in a k t) (gives m) o
  in-takes (act own l) k t m o = by-test (eqb k t) (own-takes own l k m o) (among-takes l (k + 1) t m o)
    where
      by-test : (b : Bool) → order_taking (doing_of own l k) m o ≡ bind_own own (gives m) o
          → order_taking (doing_among l (k + 1) t) m o ≡ bind_act (act_among l (k + 1) t) (gives m) o
          → order_taking (elim b [ true ↦ doing_of own l k | false ↦ doing_among l (k + 1) t ]) m o
          ≡ bind_act (elim b [ true ↦ act own l | false ↦ act_among l (k + 1) t ]) (gives m) o
      by-test true e f = e
      by-test false e f = f

  among-takes : (l : Acts) (c t : ℕ) (m : Message) (o : Order) → order_taking (doing_among l c t) m o ≡ bind_act (act_among l c t) (gives m) o
  among-takes none c t m o = none-takes m o
  among-takes (more a l) c t m o = by-test (ltb t (c + size a)) (in-takes a c t m o) (among-takes l (c + size a) t m o)
    where
      by-test : (b : Bool) → order_taking (doing_in a c t) m o ≡ bind_act (act_in a c t) (gives m) o
          → order_taking (doing_among l (c + size a) t) m o ≡ bind_act (act_among l (c + size a) t) (gives m) o
          → order_taking (elim b [ true ↦ doing_in a c t | false ↦ doing_among l (c + size a) t ]) m o
          ≡ bind_act (elim b [ true ↦ act_in a c t | false ↦ act_among l (c + size a) t ]) (gives m) o
      by-test true e f = e
      by-test false e f = f

-- the order that `order` gives for a take is the definition's, for an activity of the plan
pub takes_same : (p : Plan) (t : ℕ) → t < size p.body + size p.fault → (m : Message) (o : Order) → taking p t (gives m) o ≡ order_taking (doing_at p t) m o
unfolding doing_at doing_in
takes_same p t h m o =
    let z : 0 + size p.body ≡ size p.body = omega arith in
    sym (among-takes (more p.body (more p.fault none)) 0 t m o)
    ∙ subst (λ (n : ℕ). order_taking (elim (ltb t n) [
      | true ↦ doing_in p.body 0 t
      | false ↦ elim (ltb t (n + size p.fault)) [ true ↦ doing_in p.fault n t | false ↦ no_step ]
    ]) m o ≡ order_taking (doing_at p t) m o) (sym z) (go (ltb t (size p.body)) (ltb t (size p.body + size p.fault)) (lt-ltb _ _ h))
  where
    go : (a b : Bool) → b ≡ true
        → order_taking (elim a [
          | true ↦ doing_in p.body 0 t
          | false ↦ elim b [ true ↦ doing_in p.fault (size p.body) t | false ↦ no_step ]
        ]) m o
        ≡ order_taking (elim a [ true ↦ doing_in p.body 0 t | false ↦ doing_in p.fault (size p.body) t ]) m o
    go true b e = refl
    go false true e = refl
    go false false e = absurd (false≢true e)

-- a take changes nothing of what is remembered
pub bind-closings : (vs xs : List ℕ) (o : Order) → closings (bind_all vs xs o) ≡ closings o
unfolding bind_all
bind-closings [] xs o = refl
bind-closings (v ∷ vs) xs o = bind-closings vs (drop 1 xs) (binding v (get_or xs 0 0) o)

store-closings : (f : From) (r : ℕ) (o : Order) → closings (storing f r o) ≡ closings o
store-closings (from_partner p) r o = refl
store-closings (from_asking p v) r o = refl

pub take-closings : (d : Doing) (m : Message) (o : Order) → closings (order_taking d m o) ≡ closings o
unfolding order_taking
take-closings no_step m o = refl
take-closings (sends p q vs) m o = refl
take-closings (takes f q vs) m o = store-closings f (get_or (gives m) 4 0) (bind_all vs (gives m) o) ∙ bind-closings vs (gives m) o
take-closings moves m o = refl
take-closings cuts m o = refl
take-closings (closes u s) m o = refl
