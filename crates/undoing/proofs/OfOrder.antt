-- At most once for each closing, of the order that runs: what an earlier order in the slot closed counts for nothing. Assumes nothing.
use Prim.Native.Nat.{ℕ, ◌+◌, ◌≤◌}
use native.Mathlib.Omega.{arith}
use mathlib.Core.Path.{◌≡◌, refl, ap, subst, ◌∙◌}
use mathlib.Core.Bool.{Bool, true, false, cond, not, ◌||◌}
use mathlib.Core.List.{List, [], ◌∷◌}
use lib.Dec.{eqb}
use borrow.Author.Tests.{eqb-true, eq-eqb, not-true}
use Rattle.plan.specs.Tree.{Plan}
use Rattle.order.specs.Lists.{only}
use Rattle.order.specs.State.{Name, root, inner, same}
use Rattle.order.specs.Event.{Event, started, began, closed, faulted, stopped, ended, raised, left}
use Rattle.undoing.specs.Demand3.{Inner, scopes_of, is_begin, is_finish, is_left, since, closed_by, undone_by, runner_of, has_turned, none_now, may_turn, may_close, may_undo, allowed, right_after}
use Rattle.undoing.specs.Orderly.{is_began_of}
use Rattle.undoing.specs.Ties.{is_name}
use Rattle.undoing.specs.Buyer.{is_closed_of}
use Rattle.undoing.proofs.Parts.{both, decide, same-itself, same-equal}
use Rattle.undoing.proofs.Accounts.{Known, left-unfinished}
use Rattle.undoing.proofs.Moves.{not-begun, runner-name}
use Rattle.undoing.proofs.Orders.{onto}
use Rattle.undoing.proofs.Offered.{Each}
use Rattle.undoing.proofs.Bought.{may-undo, at, Which, here, nowhere, which, closes, finished, turned, begun, shut, brings, takes, open_closes, open_undos, total, total-so, total-most, total-least, Paid, fresh-since, more-since, point, total-zero, own-closed, hands_on, other-closed, none-closed, own-undo, other-undo, its-undo, pays, none-paid, undone-less}

abbrev pub one_if : Bool → ℕ
one_if b = cond b 1 0

module _ (p : Plan) (all : Each (Known p) (scopes_of p)) (x : Inner) (kn : Known p x) (un : x.undoes ≡ true) where
  -- in the order that runs
  abbrev pub begun_now : List Event → ℕ
  begun_now past = begun p all x kn un (since root past)

  abbrev pub shut_now : List Event → ℕ
  shut_now past = shut p all x kn un (since root past)

  abbrev closes_in : List Event → Name → ℕ
  closes_in past = open_closes p all x kn un past

  abbrev undos_in : List Event → Name → ℕ
  undos_in past = open_undos p all x kn un past

  abbrev all_of : (Name → ℕ) → ℕ
  all_of f = total p all x kn un f

  abbrev Bound : List Event → Type 0
  Bound past = begun_now past + all_of (closes_in past) ≤ shut_now past + all_of (undos_in past)

  -- no event but a start begins the root
  since-more : (e : Event) (past : List Event) → is_begin root e ≡ false → since root (e ∷ past) ≡ e ∷ since root past
  unfolding since
  since-more e past h = rw (h, since)

  begun_more : (e : Event) (past : List Event) → is_begin root e ≡ false → begun_now (e ∷ past) ≡ one_if (is_began_of (eqb x.undo) e) + begun_now past
  unfolding only
  begun_more e past h = ap (λ (l : List Event). begun p all x kn un l) (since-more e past h) ∙ decide (is_began_of (eqb x.undo) e) (λ t. rw t (omega arith)) (λ t. rw t (omega arith))

  shut-more : (e : Event) (past : List Event) → is_begin root e ≡ false → shut_now (e ∷ past) ≡ one_if (is_closed_of x.number e) + shut_now past
  unfolding only
  shut-more e past h = ap (λ (l : List Event). shut p all x kn un l) (since-more e past h) ∙ decide (is_closed_of x.number e) (λ t. rw t (omega arith)) (λ t. rw t (omega arith))

  -- an event that neither undoes nor closes it
  still : (past : List Event) (e : Event) → is_begin root e ≡ false → ((n : Name) → takes p all x kn un n past e ≡ 0) → ((n : Name) → brings p all x kn un n past e ≡ 0) → is_began_of (eqb x.undo) e ≡ false
      → Paid p all x kn un past → Bound past → Bound (e ∷ past)
  still past e r k b y g w =
      let a = total-so p all x kn un (closes_in (e ∷ past)) (undos_in past) (λ n. 0) (closes_in past) (undos_in (e ∷ past)) (λ n. 0)
      (λ n i. let c = point p all x kn un n past e (g.recent n) (k n) in let d = b n in omega arith) in
      let s = begun_more e past r in let s₁ = shut-more e past r in let z = total-zero p all x kn un in
      let q : one_if (is_began_of (eqb x.undo) e) ≡ 0 = rw y in omega arith

  starts : (past : List Event) → Bound (started ∷ past)
  unfolding since is_begin only
  starts past =
      let a = total-so p all x kn un (closes_in (started ∷ past)) (λ n. 0) (λ n. 0) (λ n. 0) (λ n. 0) (λ n. 0)
      (λ n i. let m = (fresh-since p all x kn un n past started (start-begins n)).1 in
      decide (finished p all x kn un n (started ∷ past)) (λ t. rw t (omega arith)) (λ t. rw t (omega arith))) in
      let z = total-zero p all x kn un in omega arith
    where
      start-begins : (n : Name) → (is_begin n started || is_begin root started) ≡ true
      start-begins root = refl
      start-begins (inner k) = refl

  close-bound : (past : List Event) → Paid p all x kn un past → Bound past → Bound (closed x.number ∷ past)
  unfolding undone_by only is_began_of is_begin is_closed_of
  close-bound past g w =
      let e = closed x.number in
      let a = total-so p all x kn un (closes_in (e ∷ past)) (undos_in past) (λ n. 0) (closes_in past) (undos_in (e ∷ past)) (at x.around 1)
      (λ n i. let c = point p all x kn un n past e (g.recent n) refl in let d = own-closed p all x kn un n past in omega arith) in
      let s = begun_more e past refl in let s₁ = shut-more e past refl in let q : one_if (eqb x.number x.number) ≡ 1 = rw (eq-eqb x.number x.number refl) in
      let z = total-zero p all x kn un in let v = total-most p all x kn un x.around 1 in omega arith

  -- a scope with no undo part closes, which hands on what closed in it and finishes
  hand-bound : (y : Inner) → Known p y → y.undoes ≡ false → (past : List Event) → may_turn (inner y.number) past ≡ true → Paid p all x kn un past → Bound past → Bound (closed y.number ∷ past)
  unfolding undone_by only is_began_of may_turn is_begin is_finish
  hand-bound y ky v past h g w =
      let e = closed y.number in
      let k = inner y.number in
      let c = closes p all x kn un k past in
      let a = total-so p all x kn un (closes_in (e ∷ past)) (undos_in past) (at k c) (closes_in past) (undos_in (e ∷ past)) (at y.around c) at_each in
      let s = begun_more e past refl in let s₁ = shut-more e past refl in let m = total-most p all x kn un y.around c in let l = total-least p all x kn un k c ky.name in omega arith
    where
      k : Name
      k = inner y.number

      c : ℕ
      c = closes p all x kn un k past

      e : Event
      e = closed y.number

      here-so : closes_in (closed y.number ∷ past) k + undos_in past k + closes p all x kn un k past ≤ closes_in past k + undos_in (closed y.number ∷ past) k
      here-so =
          both (is_left k past) (not (turned p all x kn un k past)) h (λ a b.
          let u = g.unturned k (not-true (turned p all x kn un k past) b) in
          let m = more-since p all x kn un k past (closed y.number) refl in
          rw (m.2, eq-eqb y.number y.number refl, left-unfinished k past a) (omega arith))

      at_each : (n : Name) → is_name p n ≡ true
          → closes_in (closed y.number ∷ past) n + undos_in past n + at k (closes p all x kn un k past) n ≤ closes_in past n + undos_in (closed y.number ∷ past) n + at y.around (closes p all x kn un k past) n
      at_each n i =
          decide (same k n)
          (λ t. subst (λ (z : Name). closes_in (closed y.number ∷ past) z + undos_in past z + at k (closes p all x kn un k past) z ≤ closes_in past z + undos_in (closed y.number ∷ past) z + at y.around (closes p all x kn un k past) z)
          (same-equal k n t) (rw (same-itself k) (let q = here-so in omega arith)))
          (λ t. rw t (let q = point p all x kn un n past (closed y.number) (g.recent n) refl in let d = hands_on p all x kn un y ky v n past in omega arith))

  -- its undo part starts
  undo-bound : (past : List Event) → allowed p past (began x.undo) ≡ true → Paid p all x kn un past → Bound past → Bound (began x.undo ∷ past)
  unfolding only closed_by is_finish has_turned is_begin is_began_of
  undo-bound past h g w =
      let e = began x.undo in
      let a = total-so p all x kn un (closes_in (e ∷ past)) (undos_in past) (at r 1) (closes_in past) (undos_in (e ∷ past)) (λ n. 0) at_each in
      let s = begun_more e past refl in let s₁ = shut-more e past refl in let z = total-zero p all x kn un in let l = total-least p all x kn un r 1 named in
      let q : one_if (eqb x.undo x.undo) ≡ 1 = rw (eq-eqb x.undo x.undo refl) in omega arith
    where
      r : Name
      r = runner_of past x

      may : may_undo p past x ≡ true
      may = its-undo p all x kn un past h

      named : is_name p r ≡ true
      named = runner-name p (λ n. is_left n past) x.around x.beyond kn.parent kn.further

      here-so : closes_in (began x.undo ∷ past) r + undos_in past r + 1 ≤ closes_in past r + undos_in (began x.undo ∷ past) r
      here-so =
          both (turned p all x kn un r past) (not (finished p all x kn un r past)) (may-undo p past x may).0 (λ a b.
          let f = not-true (finished p all x kn un r past) b in
          let m = more-since p all x kn un r past (began x.undo) (rw (not-begun p r x.undo named (kn.no_scope un))) in
          let c = m.0 in let d = m.1 in
          let k : takes p all x kn un r past (began x.undo) ≡ 1 = own-undo p all x kn un r past ∙ rw (same-itself r) in
          rw (m.2, f) (omega arith))

      at_each : (n : Name) → is_name p n ≡ true
          → closes_in (began x.undo ∷ past) n + undos_in past n + at r 1 n ≤ closes_in past n + undos_in (began x.undo ∷ past) n + 0
      at_each n i =
          decide (same r n)
          (λ t. subst (λ (z : Name). closes_in (began x.undo ∷ past) z + undos_in past z + at r 1 z ≤ closes_in past z + undos_in (began x.undo ∷ past) z + 0)
          (same-equal r n t) (rw (same-itself r) (let q = here-so in omega arith)))
          (λ t. rw t (let q = point p all x kn un n past (began x.undo) (g.recent n) (own-undo p all x kn un n past ∙ rw t) in omega arith))

  -- one more event that is allowed
  bounds : (past : List Event) (e : Event) → allowed p past e ≡ true → Paid p all x kn un past → Bound past → Bound (e ∷ past)
  unfolding only is_began_of is_closed_of undone_by closed_by allowed may_close is_begin
  bounds past started h g w = starts past
  bounds past (began j) h g w =
      decide (eqb x.undo j)
      (λ t. subst (λ (k : ℕ). allowed p past (began k) ≡ true → Bound (began k ∷ past)) (eqb-true x.undo j t) (λ v. undo-bound past v g w) h)
      (λ t. still past (began j) refl (λ n. other-undo p all x kn un j t n past) (λ n. refl) t g w)
  bounds past (closed j) h g w = go (which p j all)
    where
      go : Which p j (scopes_of p) → Bound (closed j ∷ past)
      go (nowhere e) = still past (closed j) refl (λ n. refl) (λ n. none-closed p all x kn un j e n past) refl g w
      go (here y ky e) =
          decide (eqb x.number j)
          (λ t. subst (λ (k : ℕ). Bound (closed k ∷ past)) (eqb-true x.number j t) (close-bound past g w))
          (λ t. subst (λ (k : ℕ). eqb x.number k ≡ false → allowed p past (closed k) ≡ true → Bound (closed k ∷ past)) e
          (λ d v. decide y.undoes
          (λ u. still past (closed y.number) refl (λ n. refl) (λ n. other-closed p all x kn un y ky u d n past) refl g w)
          (λ u. both (not (none_now past)) _ v (λ a b. both (may_turn (inner y.number) past) _ b (λ c f. hand-bound y ky u past c g w)))) t h)
  bounds past (faulted n x) h g w = still past (faulted n x) refl (λ m. refl) (λ m. refl) refl g w
  bounds past (stopped j) h g w = still past (stopped j) refl (λ m. refl) (λ m. refl) refl g w
  bounds past (ended n) h g w = still past (ended n) refl (λ m. refl) (λ m. refl) refl g w
  bounds past (raised j x) h g w = still past (raised j x) refl (λ m. refl) (λ m. refl) refl g w
  bounds past left h g w = still past left refl (λ m. refl) (λ m. refl) refl g w

  -- what a right history keeps
  pub record Within (past : List Event) : Type 0 where
    pub paid : Paid p all x kn un past
    pub bound : begun_now past + total p all x kn un (open_closes p all x kn un past) ≤ shut_now past + total p all x kn un (open_undos p all x kn un past)

  pub within_all : (past l : List Event) → right_after p past l ≡ true → Within past → Within (onto l past)
  unfolding right_after
  within_all past [] h g = g
  within_all past (e ∷ l) h g =
      both (allowed p past e) _ h (λ a b. within_all (e ∷ past) l b (record { paid = pays p all x kn un past e a g.paid; bound = bounds past e a g.paid g.bound }))

  pub within_none : Within []
  unfolding only since
  within_none = record { paid = none-paid p all x kn un; bound = (none-paid p all x kn un).paid }

  -- in the order that runs its undo part began at most once for each closing
  pub within-once : (past : List Event) → Within past → begun_now past ≤ shut_now past
  within-once past g = let v = undone-less p all x kn un past g.paid in let w = g.bound in omega arith
