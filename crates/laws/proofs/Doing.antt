-- The step that an activity is there for, by the activity with its number; and that a step on offer has room. Assumes nothing.
use mathlib.Core.Path.{◌≡◌, refl, sym, subst, ◌∙◌}
use mathlib.Core.Bool.{Bool, true, false, ◌&&◌}
use mathlib.Core.List.{List}
use Prim.Native.Nat.{ℕ, ◌+◌, ◌<◌}
use native.Mathlib.Omega.{arith}
use borrow.Author.Tests.{lt-ltb, leb-false, eqb-true}
use lib.Dec.{eqb, leb, ltb}
use Rattle.plan.specs.Tree.{To, Own, Act, act, Acts, none, more, Plan, size}
use Rattle.order.specs.declared.Order.{Order}
use Rattle.order.specs.Acting.{may_send}
use Rattle.order.specs.Room.{room_plan}
use Rattle.order.specs.State.{closings}
use Rattle.order.specs.Taking.{act_in, act_among, act_at}
use Rattle.machine.specs.Calls.{doing_in, doing_among, doing_at}
use Rattle.machine.specs.Fit.{Doing, no_step, sends, takes, moves, cuts, closes, doing_of}
use Rattle.machine.specs.Offer.{send_held}
use Rattle.laws.specs.Good.{Allowed, Good}
use Rattle.laws.proofs.Roomy.{room_of, plan-room, close-room}

-- the step that an activity of the plan is there for is that of the activity with its number
unfoldable pub act_doing : Act → ℕ → Doing
act_doing (act own l) k = doing_of own l k

mutual
  unfolding act_doing act_in doing_in doing_of

  in-doing : (a : Act) (k t : ℕ) → doing_in a k t ≡ act_doing (act_in a k t) t
  in-doing (act own l) k t = by-test (eqb k t) refl (among-doing l (k + 1) t)
    where
      by-test : (b : Bool) → eqb k t ≡ b → doing_among l (k + 1) t ≡ act_doing (act_among l (k + 1) t) t
          → elim b [ true ↦ doing_of own l k | false ↦ doing_among l (k + 1) t ] ≡ act_doing (elim b [ true ↦ act own l | false ↦ act_among l (k + 1) t ]) t
      by-test true e f = let z : k ≡ t = eqb-true k t e in rw z
      by-test false e f = f

  among-doing : (l : Acts) (c t : ℕ) → doing_among l c t ≡ act_doing (act_among l c t) t
  among-doing none c t = refl
  among-doing (more a l) c t = by-test (ltb t (c + size a)) (in-doing a c t) (among-doing l (c + size a) t)
    where
      by-test : (b : Bool) → doing_in a c t ≡ act_doing (act_in a c t) t → doing_among l (c + size a) t ≡ act_doing (act_among l (c + size a) t) t
          → elim b [ true ↦ doing_in a c t | false ↦ doing_among l (c + size a) t ]
          ≡ act_doing (elim b [ true ↦ act_in a c t | false ↦ act_among l (c + size a) t ]) t
      by-test true e f = e
      by-test false e f = f

pub plan-doing : (p : Plan) (t : ℕ) → t < size p.body + size p.fault → doing_at p t ≡ act_doing (act_at p t) t
unfolding doing_at doing_in
plan-doing p t h =
    let z : 0 + size p.body ≡ size p.body = omega arith in
    sym (subst (λ (n : ℕ). ◌≡◌ {A = Doing} (elim (ltb t n) [
      | true ↦ doing_in p.body 0 t
      | false ↦ elim (ltb t (n + size p.fault)) [ true ↦ doing_in p.fault n t | false ↦ no_step ]
    ]) (doing_at p t)) (sym z) (go (ltb t (size p.body)) (ltb t (size p.body + size p.fault)) (lt-ltb _ _ h)))
    ∙ among-doing (more p.body (more p.fault none)) 0 t
  where
    go : (a b : Bool) → b ≡ true
        → ◌≡◌ {A = Doing} (elim a [
          | true ↦ doing_in p.body 0 t
          | false ↦ elim b [ true ↦ doing_in p.fault (size p.body) t | false ↦ no_step ]
        ])
        (elim a [ true ↦ doing_in p.body 0 t | false ↦ doing_in p.fault (size p.body) t ])
    go true b e = refl
    go false true e = refl
    go false false e = absurd (let w : ◌≡◌ {A = ℕ} 0 1 = cc in omega arith)

-- what may be taken has room
room-allowed : (d : Doing) (wait : ℕ) (o : Order) (j : ℕ) → Allowed d wait o j → room_of d (closings o) ≡ true
unfolding Allowed room_of
room-allowed no_step wait o j a = refl
room-allowed (sends p q vs) wait o j a = refl
room-allowed (takes p q vs) wait o j a = refl
room-allowed moves wait o j a = refl
room-allowed cuts wait o j a = refl
room-allowed (closes u s) wait o j a = close-room o u s a

pub good-room : {p : Plan} {wait : ℕ} {o : Order} {k j : ℕ} → Good p wait o k j → room_plan p k (closings o) ≡ true
good-room {p} {wait} {o} {k} {j} g = plan-room p k (closings o) (room-allowed (doing_at p k) wait o j g.allowed)

-- a send that would send and is not held has a place for its message
pub send-room : (n : ℕ) (o : Order) (to : To) (vs : List ℕ) → send_held n o to vs ≡ false → may_send o to vs ≡ true → n < 64
send-room n o to vs h f = go (leb 64 n) refl (subst (λ (z : Bool). (leb 64 n && z) ≡ false) f h)
  where
    go : (z : Bool) → leb 64 n ≡ z → (z && true) ≡ false → n < 64
    go true w g = absurd (let c : ◌≡◌ {A = ℕ} 0 1 = cc in omega arith)
    go false w g = leb-false 64 n w
