-- The offer is short enough to be counted: 16 orders of 256 activities with 64 messages, and 64 messages with 256 start receives. Assumes nothing.
use mathlib.Core.Path.{◌≡◌, ap, ◌∙◌}
use mathlib.Core.Bool.{Bool, true, false, cond, not, ◌&&◌}
use mathlib.Core.List.{List, [], ◌∷◌, map}
use Prim.Native.Nat.{ℕ, suc, ◌+◌, ◌*◌, ◌≤◌}
use native.Mathlib.Nat.{mul-suc}
use native.Mathlib.Omega.{arith}
use lib.Dec.{leb}
use lib.ListN.{length, length-append, length-map}
use lib.Seq.{length-take-le}
use Rattle.plan.specs.Tree.{partner_from, Plan}
use Rattle.plan.specs.Within.{plan_within}
use Rattle.order.specs.declared.Order.{Order}
use Rattle.machine.specs.declared.State.{State}
use Rattle.order.specs.Acting.{started_order}
use Rattle.machine.specs.Fit.{Doing, no_step, sends, takes, moves, cuts, closes, Ready, ready_of, live_from, Letter, letters_from, fits, may_take}
use Rattle.order.specs.Lists.{some, only, each, empties}
use Rattle.machine.specs.Offer.{Offer, offering, Offers, all_of, unless_held, is_cut, eager, send_held, close_held, step_offers, order_offers, start_of, starts_of, free_from, start_offers, offers_of}
use Rattle.order.specs.State.{is_live}
use Rattle.machine.specs.State.{letters}
use Rattle.fit.specs.Lines.{Line, lines_of, is_ready, ready_at, ready_line}
use Rattle.fit.proofs.Lines.{ready-lines, size-short, plan-long}
use Rattle.offer.proofs.Starting.{letters-long}

only-short : {A : Type 0} (f : A → Bool) (l : List A) → length (only f l) ≤ length l
unfolding only
only-short f [] = omega arith
only-short {A} f (x ∷ l) = by-test (only-short f l) (f x)
  where
    by-test : length (only f l) ≤ length l → (b : Bool) → length (cond b (x ∷ only f l) (only f l)) ≤ suc (length l)
    by-test e true = omega arith
    by-test e false = omega arith

each-short : {A B : Type 0} (f : A → List B) → ((x : A) → length (f x) ≤ 1) → (l : List A) → length (each f l) ≤ length l
unfolding each
each-short f h [] = omega arith
each-short f h (x ∷ l) = let e = each-short f h l in let g = h x in omega (arith, length-append (f x) (each f l))

all_short : {A : Type 0} (f : A → Offers) (n : ℕ) → ((x : A) → length (f x).offered ≤ n) → (l : List A) → length (all_of f l).offered ≤ n * length l
unfolding all_of
all_short f n h [] = omega arith
all_short f n h (x ∷ l) =
    let e = all_short f n h l in
    let g = h x in
    omega (arith, length-append (f x).offered (all_of f l).offered, mul-suc n (length l))

unless-short : (b : Bool) (l : List Offer) → length (unless_held b l).offered ≤ length l
unless-short true l = omega arith
unless-short false l = omega arith

step-short : (p : Plan) (wait : ℕ) (l : List Letter) (i : ℕ) (o : Order) (k : ℕ) (d : Doing) → length l ≤ 64 → length (step_offers p wait l i o k d).offered ≤ 64
unfolding step_offers
step-short p wait l i o k no_step h = omega arith
step-short p wait l i o k (sends a b vs) h = let e = unless-short (send_held wait o a vs) (offering i k 0 ∷ []) in omega (arith, e)
step-short p wait l i o k (takes a b vs) h =
    let e = only-short (may_take p o (partner_from a) b vs) l in
    omega (arith, e, length-map (only (may_take p o (partner_from a) b vs) l) (λ x. offering i k x.place))
step-short p wait l i o k moves h = omega arith
step-short p wait l i o k cuts h = omega arith
step-short p wait l i o k (closes u s) h = let e = unless-short (close_held o u s) (offering i k 0 ∷ []) in omega (arith, e)

eager-short : (l : List Ready) → length (eager l) ≤ length l
unfolding eager
eager-short l = by-test (some is_cut l) (only-short is_cut l)
  where
    by-test : (b : Bool) → length (only is_cut l) ≤ length l → length (cond b (only is_cut l) l) ≤ length l
    by-test true e = e
    by-test false e = omega arith

line-short : (ms : List ℕ) (x : Line) → length (ready_line ms x) ≤ 1
unfolding ready_line
line-short ms x = by-test (is_ready ms x)
  where
    by-test : (b : Bool) → length (cond b (ready_at x ∷ []) []) ≤ 1
    by-test true = omega arith
    by-test false = omega arith

module _ (p : Plan) (y : plan_within p ≡ true) where
  ready-short : (o : Order) → length (ready_of p o) ≤ 256
  ready-short o =
      let e = each-short (ready_line o.marks) (line-short o.marks) (lines_of p o.marks) in
      omega (arith, e, ap length (ready-lines p o), plan-long p o.marks, size-short p y)

  order-short : (wait : ℕ) (l : List Letter) (i : ℕ) (o : Order) → length l ≤ 64
      → length (order_offers p wait l (record { slot = i; order = o; ready = ready_of p o })).offered ≤ 16384
  unfolding order_offers
  order-short wait l i o h =
      let e = all_short (λ r. step_offers p wait l i o r.activity r.step) 64 (λ r. step-short p wait l i o r.activity r.step h) (eager (ready_of p o)) in
      let f = eager-short (ready_of p o) in
      omega (arith, e, f, ready-short o)

  live-short : (wait : ℕ) (l : List Letter) → length l ≤ 64 → (i : ℕ) (orders : List Order)
      → length (all_of (order_offers p wait l) (live_from p i orders)).offered ≤ 16384 * length orders
  unfolding all_of live_from
  live-short wait l h i [] = omega arith
  live-short wait l h i (o ∷ orders) =
      by-test (is_live o) (live-short wait l h (i + 1) orders) (order-short wait l i o h)
    where
      by-test : (b : Bool) → length (all_of (order_offers p wait l) (live_from p (i + 1) orders)).offered ≤ 16384 * length orders
          → length (order_offers p wait l (record { slot = i; order = o; ready = ready_of p o })).offered ≤ 16384
          → length (all_of (order_offers p wait l) (elim b [ true ↦ record { slot = i; order = o; ready = ready_of p o } ∷ live_from p (i + 1) orders | false ↦ live_from p (i + 1) orders ])).offered
          ≤ 16384 * suc (length orders)
      by-test true e f =
          omega (
            arith,
            e,
            f,
            length-append (order_offers p wait l (record { slot = i; order = o; ready = ready_of p o })).offered (all_of (order_offers p wait l) (live_from p (i + 1) orders)).offered,
          )
      by-test false e f = omega (arith, e)

  one-test : (b : Bool) (k : ℕ) → length (cond b (k ∷ []) []) ≤ 1
  one-test true k = omega arith
  one-test false k = omega arith

  one-step : (o : Order) (x : Letter) (k : ℕ) (d : Doing) → length (start_of p o x (record { activity = k; step = d })) ≤ 1
  unfolding start_of
  one-step o x k no_step = omega arith
  one-step o x k (sends a b vs) = omega arith
  one-step o x k (takes a b vs) = one-test (fits p o (partner_from a) b vs x.message) k
  one-step o x k moves = omega arith
  one-step o x k cuts = omega arith
  one-step o x k (closes u s) = omega arith

  one-short : (o : Order) (x : Letter) (r : Ready) → length (start_of p o x r) ≤ 1
  one-short o x r = one-step o x r.activity r.step

  start-short : (free : ℕ) (o : Order) (x : Letter) → length (start_offers p free o (ready_of p o) x).offered ≤ 256
  unfolding start_offers starts_of
  start-short free o x =
      by-test (empties x.fitted) (each-short (start_of p o x) (one-short o x) (ready_of p o)) (ready-short o)
    where
      by-test : (b : Bool) → length (each (start_of p o x) (ready_of p o)) ≤ length (ready_of p o) → length (ready_of p o) ≤ 256
          → length (unless_held (leb 16 free && not (empties (cond b (each (start_of p o x) (ready_of p o)) []))) (map (λ k. offering free k x.place) (cond b (each (start_of p o x) (ready_of p o)) []))).offered ≤ 256
      by-test true e f =
          let u = unless-short (leb 16 free && not (empties (each (start_of p o x) (ready_of p o)))) (map (λ k. offering free k x.place) (each (start_of p o x) (ready_of p o))) in
          omega (arith, u, e, f, length-map (each (start_of p o x) (ready_of p o)) (λ k. offering free k x.place))
      by-test false e f = let u = unless-short (leb 16 free && not true) [] in omega (arith, u)

  pub offers-short : (s : State) → length s.orders ≡ 16 → length s.messages ≡ 64 → s.waiting ≤ 64 → length (offers_of p s).offered ≤ 4294967295
  unfolding offers_of
  offers-short s a b c =
      let live = live_from p 0 s.orders in
      let l = letters_from p live 0 (letters s) in
      let long : length l ≡ s.waiting = letters-long p live 0 (letters s) ∙ length-take-le s.waiting s.messages (omega arith) in
      let e = live-short s.waiting l (omega (arith, long)) 0 s.orders in
      let f = all_short (start_offers p (free_from 0 s.orders) (started_order p) (ready_of p (started_order p))) 256 (start-short (free_from 0 s.orders) (started_order p)) l in
      omega (
        arith,
        e,
        f,
        long,
        length-append (all_of (order_offers p s.waiting l) live).offered (all_of (start_offers p (free_from 0 s.orders) (started_order p) (ready_of p (started_order p))) l).offered,
      )
