-- An undo part starts at most once for each closing, and what is taken back was closed: of every history that is right. Assumes nothing.
use Prim.Native.Nat.{ℕ, suc, ◌+◌, ◌≤◌}
use native.Mathlib.Omega.{arith}
use mathlib.Core.Path.{◌≡◌, refl, sym, ap, subst, ◌∙◌}
use mathlib.Core.Bool.{Bool, true, false, cond, not, ◌&&◌, ◌||◌, false≢true}
use mathlib.Core.List.{List, [], ◌∷◌, ◌++◌, reverse, map}
use lib.ListN.{length, take, drop, length-append, length-reverse, take-append-drop}
use native.Mathlib.Nat.{add-zero, zero-add, add-suc, suc-add}
use lib.Dec.{eqb, leb}
use borrow.Author.Tests.{eqb-true, eqb-false, eq-eqb, ne_eqb, le-leb, leb-true, leb-false, not-true}
use Rattle.plan.specs.Tree.{kind, is_scope, Act, act, Acts, none, more, Plan, size}
use Rattle.plan.proofs.Limits.{accepted-is-within}
use Rattle.order.specs.Lists.{every, some, only, each, alike}
use Rattle.order.specs.State.{Name, root, inner, same}
use Rattle.order.specs.Event.{Event, started, began, closed, faulted, stopped, ended, raised, left}
use Rattle.machine.specs.Calls.{loaded}
use Rattle.undoing.specs.History.{history}
use Rattle.undoing.specs.Demand3.{Inner, scopes_in, scopes_among, scopes_of, inside_of, is_begin, is_turn, is_finish, is_left, since, closed_by, undone_by, closings_of, started_by, undone_of, has_turned, none_left, none_now, runner_of, is_undo_part, may_turn, may_close, may_end, may_undo, may_begin, allowed, right_after, right, Demand3}
use Rattle.undoing.specs.Orderly.{is_began_of, may_act, may_start, not_left, orderly, orderly_after, Orderly}
use Rattle.undoing.specs.Ties.{Place, body_of, name_of, beyond_of, is_name, place_of, place_after, seen, end_told}
use Rattle.undoing.specs.Buyer.{how_many, is_closed_of, AtMostOnce, was_closed, closed_first, closed_first_after, TakenBackWasClosed, at_ends, all_back, HandledTakesAllBack, each_back, HandledTakesEachBack}
use Rattle.undoing.proofs.Parts.{both, decide, only-append, only-swap, only-reverse, every-so, every-only, same-itself, same-equal, same-swap}
use Rattle.undoing.proofs.Accounts.{Account, next, account-next, Known, left-unfinished}
use Rattle.undoing.proofs.Marks.{trio}
use Rattle.undoing.proofs.Moves.{undone-inside, closed-inside, not-begun, runner-name}
use Rattle.undoing.proofs.Orders.{bare, bare_in, inner_at, onto, Sits, sits-part, sits-scope, SitsIn, sits-none, sits-more, remedy-bare}
use Rattle.undoing.proofs.Healing.{healers-bare}
use Rattle.undoing.proofs.Roots.{root-fault}
use Rattle.undoing.proofs.Planning.{Promised, promised, scopes-is}
use Rattle.undoing.proofs.Offered.{Each, each_none, each_more, each_append}
use Rattle.undoing.proofs.Demanded as demanded
use Rattle.undoing.proofs.Ending.{handled-takes-all-back}
use Rattle.order.specs.declared.End.{End}
use Rattle.order.specs.declared.End.TheVariants.{None, Well, Handled, Failed, Left}

-- lists that are alike are equal
alike-equal : (l m : List ℕ) → alike l m ≡ true → l ≡ m
unfolding alike
alike-equal [] [] e = refl
alike-equal [] (y ∷ m) e = absurd (false≢true e)
alike-equal (x ∷ l) [] e = absurd (false≢true e)
alike-equal (x ∷ l) (y ∷ m) e = both (eqb x y) (alike l m) e (λ a b. let p = eqb-true x y a in let q = alike-equal l m b in (cc))

-- how often a number stands in a list
abbrev pub times : ℕ → List ℕ → ℕ
times e l = length (only (eqb e) l)

times-append : (e : ℕ) (l m : List ℕ) → times e (l ++ m) ≡ times e l + times e m
times-append e l m = ap length (only-append (eqb e) l m) ∙ length-append (only (eqb e) l) (only (eqb e) m)

-- turned round, a list has a number as often
times-reverse : (e : ℕ) (l : List ℕ) → times e (reverse l) ≡ times e l
times-reverse e l = ap length (only-reverse (eqb e) l) ∙ length-reverse (only (eqb e) l)

-- what a right history says of an undo part that starts: the closings begin with those undone and this one
pub may-undo : (p : Plan) (past : List Event) (x : Inner) → may_undo p past x ≡ true
    → (has_turned (runner_of past x) past ≡ true) × (closings_of p (runner_of past x) past
    ≡ (undone_of p (runner_of past x) past ++ (x.number ∷ [])) ++ drop (length (undone_of p (runner_of past x) past ++ (x.number ∷ []))) (closings_of p (runner_of past x) past))
unfolding may_undo
may-undo p past x h =
    let r = runner_of past x in
    both (has_turned r past) _ h (λ a b. both (none_left p r past) _ b (λ c d.
    let us = undone_of p r past ++ (x.number ∷ []) in
    let e : us ≡ take (length us) (closings_of p r past) = alike-equal us (take (length us) (closings_of p r past)) d in
    (a, sym (take-append-drop (length us) (closings_of p r past)) ∙ ap (λ (l : List ℕ). l ++ drop (length us) (closings_of p r past)) (sym e))))

-- so there is one closing more than it has undone so far
one_more : (p : Plan) (past : List Event) (x : Inner) → may_undo p past x ≡ true
    → times x.number (undone_of p (runner_of past x) past) + 1 ≤ times x.number (closings_of p (runner_of past x) past)
unfolding only
one_more p past x h =
    let r = runner_of past x in
    let u = undone_of p r past in
    let d = drop (length (u ++ (x.number ∷ []))) (closings_of p r past) in
    let a : times x.number (closings_of p r past) ≡ times x.number ((u ++ (x.number ∷ [])) ++ d) = ap (times x.number) (may-undo p past x h).1 in
    let b = times-append x.number (u ++ (x.number ∷ [])) d in
    let c = times-append x.number u (x.number ∷ []) in
    let t : times x.number (x.number ∷ []) ≡ 1 = rw (eq-eqb x.number x.number refl) in
    omega arith

-- Sums over the scopes of a plan.

-- what each scope of a list counts
pub sums : (Name → ℕ) → List Inner → ℕ
sums f [] = 0
sums f (y ∷ l) = f (inner y.number) + sums f l

-- a number where this name is, else none
abbrev pub at : Name → ℕ → Name → ℕ
at a v n = cond (same a n) v 0

sums-root : (v : ℕ) (l : List Inner) → sums (at root v) l ≡ 0
unfolding sums
sums-root v [] = refl
sums-root v (y ∷ l) = zero-add _ ∙ sums-root v l

sums_none : (k v : ℕ) (l : List Inner) → length (only (λ y. eqb y.number k) l) ≡ 0 → sums (at (inner k) v) l ≡ 0
unfolding sums only
sums_none k v [] h = refl
sums_none k v (y ∷ l) h =
    decide (eqb y.number k)
    (λ t. absurd (let z : suc (length (only (λ y. eqb y.number k) l)) ≡ 0 = rw t at h in omega arith))
    (λ t. rw (ne_eqb k y.number (λ d. eqb-false y.number k t (sym d))) (zero-add _ ∙ sums_none k v l (rw t at h)))

sums-most : (k v : ℕ) (l : List Inner) → length (only (λ y. eqb y.number k) l) ≤ 1 → sums (at (inner k) v) l ≤ v
unfolding sums only
sums-most k v [] h = omega arith
sums-most k v (y ∷ l) h =
    decide (eqb y.number k)
    (λ t. let z : suc (length (only (λ y. eqb y.number k) l)) ≤ 1 = rw t at h in let w = sums_none k v l (omega arith) in rw (eq-eqb k y.number (sym (eqb-true y.number k t)), w) (omega arith))
    (λ t. rw (ne_eqb k y.number (λ d. eqb-false y.number k t (sym d))) (let w = sums-most k v l (rw t at h) in omega arith))

sums-least : (k v : ℕ) (l : List Inner) → some (λ y. eqb y.number k) l ≡ true → v ≤ sums (at (inner k) v) l
unfolding sums some
sums-least k v [] h = absurd (false≢true h)
sums-least k v (y ∷ l) h =
    decide (eqb y.number k)
    (λ t. rw (eq-eqb k y.number (sym (eqb-true y.number k t))) (omega arith))
    (λ t. rw (ne_eqb k y.number (λ d. eqb-false y.number k t (sym d))) (let w = sums-least k v l (rw t at h) in omega arith))

sums-zero : (l : List Inner) → sums (λ n. 0) l ≡ 0
unfolding sums
sums-zero [] = refl
sums-zero (y ∷ l) = zero-add _ ∙ sums-zero l

sums-so : (p : Plan) (a b c d e f : Name → ℕ) → ((n : Name) → is_name p n ≡ true → a n + b n + c n ≤ d n + e n + f n) → {l : List Inner} → Each (Known p) l
    → sums a l + sums b l + sums c l ≤ sums d l + sums e l + sums f l
unfolding sums
sums-so p a b c d e f h each_none = omega arith
sums-so p a b c d e f h (each_more {a = y} kn l) = let v = h (inner y.number) kn.name in let w = sums-so p a b c d e f h l in omega arith

-- which scope of a plan has a number, if any
pub data Which (p : Plan) (j : ℕ) (l : List Inner) : Type 0 where
  here : (y : Inner) → Known p y → y.number ≡ j → Which p j l
  nowhere : only (λ y. eqb y.number j) l ≡ [] → Which p j l

pub which : (p : Plan) (j : ℕ) {l : List Inner} → Each (Known p) l → Which p j l
unfolding only
which p j each_none = nowhere refl
which p j (each_more {a = y} {l = l} kn r) =
    decide (eqb y.number j)
    (λ t. here y kn (eqb-true y.number j t))
    (λ t. further t (which p j r))
  where
    further : eqb y.number j ≡ false → Which p j l → Which p j (y ∷ l)
    further t (here z k e) = here z k e
    further t (nowhere e) = nowhere (rw t e)

-- what counts of a scope: nothing once it has finished
abbrev pub counts : Bool → ℕ → ℕ
counts f c = cond f 0 c

counts-begin : (f g : Bool) (c u c' u' d : ℕ) → c' ≡ 0 → u' ≡ 0 → u ≤ c → counts g c' + counts f u + 0 ≤ counts f c + counts g u' + d
counts-begin true true c u c' u' d a b h = omega arith
counts-begin true false c u c' u' d a b h = omega arith
counts-begin false true c u c' u' d a b h = omega arith
counts-begin false false c u c' u' d a b h = omega arith

counts-more : (f g : Bool) (c u c' u' d : ℕ) → c' ≡ d + c → u' ≡ u → u ≤ c → counts (g || f) c' + counts f u + 0 ≤ counts f c + counts (g || f) u' + d
counts-more true true c u c' u' d a b h = omega arith
counts-more true false c u c' u' d a b h = omega arith
counts-more false true c u c' u' d a b h = omega arith
counts-more false false c u c' u' d a b h = omega arith

-- At most once for each closing.
module _ (p : Plan) (all : Each (Known p) (scopes_of p)) (x : Inner) (kn : Known p x) (un : x.undoes ≡ true) where
  abbrev pub undos : Name → List Event → ℕ
  undos n past = times x.number (undone_of p n past)

  abbrev pub closes : Name → List Event → ℕ
  closes n past = times x.number (closings_of p n past)

  abbrev pub finished : Name → List Event → Bool
  finished n past = some (is_finish n) (since n past)

  abbrev pub turned : Name → List Event → Bool
  turned n past = some (is_turn n) (since n past)

  abbrev pub begun : List Event → ℕ
  begun l = how_many (is_began_of (eqb x.undo)) l

  abbrev pub shut : List Event → ℕ
  shut l = how_many (is_closed_of x.number) l

  -- what an event closes and undoes of it at a scope
  abbrev pub brings : Name → List Event → Event → ℕ
  brings n past e = times x.number (closed_by (inside_of p n) (λ k. closings_of p (inner k) past) e)

  abbrev pub takes : Name → List Event → Event → ℕ
  takes n past e = times x.number (undone_by p n past e)

  abbrev pub open_closes : List Event → Name → ℕ
  open_closes past n = counts (finished n past) (closes n past)

  abbrev pub open_undos : List Event → Name → ℕ
  open_undos past n = counts (finished n past) (undos n past)

  abbrev pub total : (Name → ℕ) → ℕ
  total f = f root + sums f (scopes_of p)

  pub total-so : (a b c d e f : Name → ℕ) → ((n : Name) → is_name p n ≡ true → a n + b n + c n ≤ d n + e n + f n) → total a + total b + total c ≤ total d + total e + total f
  total-so a b c d e f h = let v = h root refl in let w = sums-so p a b c d e f h all in omega arith

  pub total-most : (a : Name) (v : ℕ) → total (at a v) ≤ v
  total-most root v = rw (sums-root v (scopes_of p)) (omega arith)
  total-most (inner k) v = go (which p k all)
    where
      go : Which p k (scopes_of p) → total (at (inner k) v) ≤ v
      go (here y kn e) =
          let z : length (only (λ z. eqb z.number k) (scopes_of p)) ≡ 1 = subst (λ (j : ℕ). length (only (λ z. eqb z.number j) (scopes_of p)) ≡ 1) e (rw kn.by_number) in
          let w = sums-most k v (scopes_of p) (omega arith) in omega arith
      go (nowhere e) =
          let z : length (only (λ z. eqb z.number k) (scopes_of p)) ≡ 0 = rw e in
          let w = sums-most k v (scopes_of p) (omega arith) in omega arith

  pub total-least : (a : Name) (v : ℕ) → is_name p a ≡ true → v ≤ total (at a v)
  total-least root v i = omega arith
  total-least (inner k) v i = let w = sums-least k v (scopes_of p) i in omega arith

  -- each scope has undone no more than closed since it last began, and nothing before it turned; and all that began of it was closed, less what is still to be
  -- undone
  pub record Paid (past : List Event) : Type 0 where
    pub recent : (n : Name) → undos n past ≤ closes n past
    pub unturned : (n : Name) → turned n past ≡ false → undos n past ≡ 0
    pub paid : begun past + total (open_closes past) ≤ shut past + total (open_undos past)

  -- where a scope begins nothing is undone or closed yet
  pub fresh-since : (n : Name) (past : List Event) (e : Event) → (is_begin n e || is_begin root e) ≡ true → (undos n (e ∷ past) ≡ 0) × (closes n (e ∷ past) ≡ 0)
  unfolding only
  fresh-since n past e h =
      decide (is_begin n e)
      (λ t. (
        ap (λ (a : Account). times x.number a.undone) (account-next p n e past) ∙ rw (t, next),
        ap (λ (a : Account). times x.number a.closings) (account-next p n e past) ∙ rw (t, next),
      ))
      (λ t. let r : is_begin root e ≡ true = rw t at h in (
        ap (λ (a : Account). times x.number a.undone) (account-next p n e past) ∙ rw (t, next, r),
        ap (λ (a : Account). times x.number a.closings) (account-next p n e past) ∙ rw (t, next, r),
      ))

  -- else what the event undoes and closes is one more
  pub more-since : (n : Name) (past : List Event) (e : Event) → (is_begin n e || is_begin root e) ≡ false
      → (undos n (e ∷ past) ≡ undos n past + takes n past e) × (closes n (e ∷ past) ≡ brings n past e + closes n past)
      × (finished n (e ∷ past) ≡ is_finish n e || finished n past) × (turned n (e ∷ past) ≡ is_turn n e || turned n past)
  more-since n past e h =
      decide (is_begin n e) (λ t. absurd (false≢true (sym (rw t at h)))) (λ b.
      let r : is_begin root e ≡ false = rw b at h in (
        ap (λ (a : Account). times x.number a.undone) (account-next p n e past)
            ∙ (rw (b, next, r) refl ∙ (times-append x.number (undone_of p n past) (reverse (undone_by p n past e))
            ∙ ap (λ (z : ℕ). undos n past + z) (times-reverse x.number (undone_by p n past e)))),
        ap (λ (a : Account). times x.number a.closings) (account-next p n e past)
            ∙ (rw (b, next, r) refl ∙ times-append x.number (closed_by (inside_of p n) (λ k. closings_of p (inner k) past) e) (closings_of p n past)),
        ap (λ (a : Account). a.finished) (account-next p n e past) ∙ rw (b, next, r) refl,
        ap (λ (a : Account). a.turned) (account-next p n e past) ∙ rw (b, next, r) refl,
      ))

  -- a scope that undoes none of it
  pub point : (n : Name) (past : List Event) (e : Event) → undos n past ≤ closes n past → takes n past e ≡ 0
      → open_closes (e ∷ past) n + open_undos past n + 0 ≤ open_closes past n + open_undos (e ∷ past) n + brings n past e
  point n past e h u =
      decide (is_begin n e || is_begin root e)
      (λ t. let m = fresh-since n past e t in
      counts-begin (finished n past) (finished n (e ∷ past)) (closes n past) (undos n past) (closes n (e ∷ past)) (undos n (e ∷ past)) (brings n past e) m.1 m.0 h)
      (λ t. let m = more-since n past e t in
      rw m.2 (counts-more (finished n past) (is_finish n e) (closes n past) (undos n past) (closes n (e ∷ past)) (undos n (e ∷ past)) (brings n past e) m.1 (m.0 ∙ rw (u, add-zero)) h))

  -- an event undoes none of it at a scope, or one, where the scope has turned and has one more to undo
  data Takes (n : Name) (past : List Event) (e : Event) : Type 0 where
    takes_none : takes n past e ≡ 0 → Takes n past e
    takes_one : takes n past e ≡ 1 → has_turned n past ≡ true → undos n past + 1 ≤ closes n past → Takes n past e

  recent-on : (n : Name) (past : List Event) (e : Event) → Takes n past e → undos n past ≤ closes n past → undos n (e ∷ past) ≤ closes n (e ∷ past)
  recent-on n past e k h =
      decide (is_begin n e || is_begin root e)
      (λ t. let m = fresh-since n past e t in let a = m.0 in let b = m.1 in omega arith)
      (λ t. let m = more-since n past e t in go k m.0 m.1)
    where
      go : Takes n past e → undos n (e ∷ past) ≡ undos n past + takes n past e → closes n (e ∷ past) ≡ brings n past e + closes n past → undos n (e ∷ past) ≤ closes n (e ∷ past)
      go (takes_none z) a b = omega arith
      go (takes_one z y x) a b = omega arith

  unturned-on : (n : Name) (past : List Event) (e : Event) → Takes n past e → (turned n past ≡ false → undos n past ≡ 0) → turned n (e ∷ past) ≡ false → undos n (e ∷ past) ≡ 0
  unfolding has_turned
  unturned-on n past e k h z =
      decide (is_begin n e || is_begin root e)
      (λ t. (fresh-since n past e t).0)
      (λ t. let m = more-since n past e t in
      decide (is_turn n e)
      (λ v. absurd (false≢true (sym z ∙ (m.3 ∙ rw v))))
      (λ v. decide (turned n past)
      (λ w. absurd (false≢true (sym z ∙ (m.3 ∙ rw (v, w)))))
      (λ w. go k w m.0)))
    where
      go : Takes n past e → turned n past ≡ false → undos n (e ∷ past) ≡ undos n past + takes n past e → undos n (e ∷ past) ≡ 0
      go (takes_none y) w a = let b = h w in omega arith
      go (takes_one y d x) w a = both (turned n past) _ d (λ b c. absurd (false≢true (sym w ∙ b)))

  carry : (past : List Event) (e : Event) → Paid past → ((n : Name) → Takes n past e)
      → begun (e ∷ past) + total (open_closes (e ∷ past)) ≤ shut (e ∷ past) + total (open_undos (e ∷ past)) → Paid (e ∷ past)
  carry past e g k h =
      record { recent = λ n. recent-on n past e (k n) (g.recent n); unturned = λ n. unturned-on n past e (k n) (g.unturned n); paid = h }

  -- closings only grow in number
  shut-grows : (past : List Event) (e : Event) → shut past ≤ shut (e ∷ past)
  unfolding only
  shut-grows past e = decide (is_closed_of x.number e) (λ t. rw t (omega arith)) (λ t. rw t (omega arith))

  pub total-zero : total (λ n. 0) ≡ 0
  total-zero = let a = sums-zero (scopes_of p) in omega arith

  -- an event that neither undoes nor closes it
  still : (past : List Event) (e : Event) → ((n : Name) → takes n past e ≡ 0) → ((n : Name) → brings n past e ≡ 0) → begun (e ∷ past) ≡ begun past → Paid past → Paid (e ∷ past)
  still past e k b y g =
      let a = total-so (open_closes (e ∷ past)) (open_undos past) (λ n. 0) (open_closes past) (open_undos (e ∷ past)) (λ n. 0)
      (λ n i. let c = point n past e (g.recent n) (k n) in let d = b n in omega arith) in
      let w = g.paid in let s = shut-grows past e in let z = total-zero in
      carry past e g (λ n. takes_none (k n)) (omega arith)

  -- its own closing
  pub own-closed : (n : Name) (past : List Event) → brings n past (closed x.number) ≡ at x.around 1 n
  unfolding only each
  own-closed n past =
      ap (times x.number) (closed-inside p n (λ k. closings_of p (inner k) past) x.number)
      ∙ decide (same x.around n) (λ t. rw (kn.by_number, t, un, eq-eqb x.number x.number refl)) (λ t. rw (kn.by_number, t))

  -- the closing of a scope with no undo part hands on what closed in it
  pub hands_on : (y : Inner) → Known p y → y.undoes ≡ false → (n : Name) (past : List Event)
      → brings n past (closed y.number) ≡ at y.around (closes (inner y.number) past) n
  unfolding only each
  hands_on y ky v n past =
      ap (times x.number) (closed-inside p n (λ k. closings_of p (inner k) past) y.number)
      ∙ decide (same y.around n)
      (λ t. rw (ky.by_number, t, v) (times-append x.number (closings_of p (inner y.number) past) [] ∙ add-zero (closes (inner y.number) past)))
      (λ t. rw (ky.by_number, t))

  -- the closing of another scope is none of it
  pub other-closed : (y : Inner) → Known p y → y.undoes ≡ true → eqb x.number y.number ≡ false → (n : Name) (past : List Event) → brings n past (closed y.number) ≡ 0
  unfolding only each
  other-closed y ky v d n past =
      ap (times x.number) (closed-inside p n (λ k. closings_of p (inner k) past) y.number)
      ∙ decide (same y.around n) (λ t. rw (ky.by_number, t, v, d)) (λ t. rw (ky.by_number, t))

  pub none-closed : (j : ℕ) → only (λ y. eqb y.number j) (scopes_of p) ≡ [] → (n : Name) (past : List Event) → brings n past (closed j) ≡ 0
  unfolding only each
  none-closed j e n past = ap (times x.number) (closed-inside p n (λ k. closings_of p (inner k) past) j) ∙ rw e

  -- its undo part, at the scope that runs it
  pub own-undo : (n : Name) (past : List Event) → takes n past (began x.undo) ≡ at (runner_of past x) 1 n
  unfolding only
  own-undo n past =
      ap (times x.number) (undone-inside p n past x.undo)
      ∙ decide (same (runner_of past x) n) (λ t. rw (kn.by_undo un, t, eq-eqb x.number x.number refl)) (λ t. rw (kn.by_undo un, t))

  -- an undo part other than its own is none of it
  pub other-undo : (j : ℕ) → eqb x.undo j ≡ false → (n : Name) (past : List Event) → takes n past (began j) ≡ 0
  unfolding only
  other-undo j h n past =
      let l = only (is_undo_part j) (scopes_of p) in
      let a : only (λ y. eqb y.number x.number) l ≡ []
      = only-swap (λ y. eqb y.number x.number) (is_undo_part j) (scopes_of p) ∙ (ap (only (is_undo_part j)) kn.by_number ∙ rw (h, un)) in
      let b : only (λ y. eqb y.number x.number) (only (λ y. same (runner_of past y) n) l) ≡ []
      = only-swap (λ y. eqb y.number x.number) (λ y. same (runner_of past y) n) l ∙ ap (only (λ y. same (runner_of past y) n)) a in
      ap (times x.number) (undone-inside p n past j) ∙ (by_number_lem (only (λ y. same (runner_of past y) n) l) ∙ ap length b)
    where
      by_number_lem : (l : List Inner) → times x.number (map (λ y. y.number) l) ≡ length (only (λ y. eqb y.number x.number) l)
      by_number_lem [] = refl
      by_number_lem (y ∷ l) =
          decide (eqb x.number y.number)
          (λ t. rw (t, eq-eqb y.number x.number (sym (eqb-true x.number y.number t))) (ap suc (by_number_lem l)))
          (λ t. rw (t, ne_eqb y.number x.number (λ d. eqb-false x.number y.number t (sym d))) (by_number_lem l))

  -- its undo part may begin only as demand 3 says
  pub its-undo : (past : List Event) → allowed p past (began x.undo) ≡ true → may_undo p past x ≡ true
  unfolding allowed may_begin every
  its-undo past h = both (not (none_now past)) _ h (λ a b. both (may_undo p past x) true (rw (kn.by_undo un) at b) (λ c d. c))

  -- one beginning of it more, and one closing
  more-begun : (past : List Event) → begun (began x.undo ∷ past) ≡ suc (begun past)
  unfolding only is_began_of
  more-begun past = rw (eq-eqb x.undo x.undo refl)

  more-shut : (past : List Event) → shut (closed x.number ∷ past) ≡ suc (shut past)
  unfolding only is_closed_of
  more-shut past = rw (eq-eqb x.number x.number refl)

  -- it closes
  close-pays : (past : List Event) → Paid past → Paid (closed x.number ∷ past)
  unfolding undone_by only is_began_of
  close-pays past g =
      let e = closed x.number in
      let a = total-so (open_closes (e ∷ past)) (open_undos past) (λ n. 0) (open_closes past) (open_undos (e ∷ past)) (at x.around 1)
      (λ n i. let c = point n past e (g.recent n) refl in let d = own-closed n past in omega arith) in
      let w = g.paid in let s = more-shut past in let z = total-zero in let v = total-most x.around 1 in
      carry past e g (λ n. takes_none refl) (omega arith)

  -- a scope with no undo part closes, which hands on what closed in it and finishes
  hand-pays : (y : Inner) → Known p y → y.undoes ≡ false → (past : List Event) → may_turn (inner y.number) past ≡ true → Paid past → Paid (closed y.number ∷ past)
  unfolding undone_by only is_began_of may_turn is_begin is_finish
  hand-pays y ky v past h g =
      let e = closed y.number in
      let k = inner y.number in
      let c = closes k past in
      let a = total-so (open_closes (e ∷ past)) (open_undos past) (at k c) (open_closes past) (open_undos (e ∷ past)) (at y.around c) at_each in
      let w = g.paid in let s = shut-grows past e in let m = total-most y.around c in let l = total-least k c ky.name in
      carry past e g (λ n. takes_none refl) (omega arith)
    where
      k : Name
      k = inner y.number

      here-so : open_closes (closed y.number ∷ past) k + open_undos past k + closes k past ≤ open_closes past k + open_undos (closed y.number ∷ past) k
      here-so =
          both (is_left k past) (not (turned k past)) h (λ a b.
          let u = g.unturned k (not-true (turned k past) b) in
          let m = more-since k past (closed y.number) refl in
          rw (m.2, eq-eqb y.number y.number refl, left-unfinished k past a) (omega arith))

      at_each : (n : Name) → is_name p n ≡ true
          → open_closes (closed y.number ∷ past) n + open_undos past n + at k (closes k past) n ≤ open_closes past n + open_undos (closed y.number ∷ past) n + at y.around (closes k past) n
      at_each n i =
          decide (same k n)
          (λ t. subst (λ (z : Name). open_closes (closed y.number ∷ past) z + open_undos past z + at k (closes k past) z ≤ open_closes past z + open_undos (closed y.number ∷ past) z + at y.around (closes k past) z)
          (same-equal k n t) (rw (same-itself k) (let q = here-so in omega arith)))
          (λ t. rw t (let q = point n past (closed y.number) (g.recent n) refl in let d = hands_on y ky v n past in omega arith))

  -- its undo part starts
  undo-pays : (past : List Event) → allowed p past (began x.undo) ≡ true → Paid past → Paid (began x.undo ∷ past)
  unfolding only closed_by is_finish has_turned is_begin
  undo-pays past h g =
      let e = began x.undo in
      let a = total-so (open_closes (e ∷ past)) (open_undos past) (at r 1) (open_closes past) (open_undos (e ∷ past)) (λ n. 0) at_each in
      let w = g.paid in let s = shut-grows past e in let z = total-zero in let l = total-least r 1 named in let b = more-begun past in
      carry past e g taken (omega arith)
    where
      r : Name
      r = runner_of past x

      may : may_undo p past x ≡ true
      may = its-undo past h

      named : is_name p r ≡ true
      named = runner-name p (λ n. is_left n past) x.around x.beyond kn.parent kn.further

      taken : (n : Name) → Takes n past (began x.undo)
      taken n =
          decide (same r n)
          (λ t. subst (λ (z : Name). Takes z past (began x.undo)) (same-equal r n t) (takes_one (own-undo r past ∙ rw (same-itself r)) (may-undo p past x may).0 (one_more p past x may)))
          (λ t. takes_none (own-undo n past ∙ rw t))

      here-so : open_closes (began x.undo ∷ past) r + open_undos past r + 1 ≤ open_closes past r + open_undos (began x.undo ∷ past) r
      here-so =
          both (turned r past) (not (finished r past)) (may-undo p past x may).0 (λ a b.
          let f = not-true (finished r past) b in
          let m = more-since r past (began x.undo) (rw (not-begun p r x.undo named (kn.no_scope un))) in
          let c = m.0 in let d = m.1 in
          let k : takes r past (began x.undo) ≡ 1 = own-undo r past ∙ rw (same-itself r) in
          rw (m.2, f) (omega arith))

      at_each : (n : Name) → is_name p n ≡ true
          → open_closes (began x.undo ∷ past) n + open_undos past n + at r 1 n ≤ open_closes past n + open_undos (began x.undo ∷ past) n + 0
      at_each n i =
          decide (same r n)
          (λ t. subst (λ (z : Name). open_closes (began x.undo ∷ past) z + open_undos past z + at r 1 z ≤ open_closes past z + open_undos (began x.undo ∷ past) z + 0)
          (same-equal r n t) (rw (same-itself r) (let q = here-so in omega arith)))
          (λ t. rw t (let q = point n past (began x.undo) (g.recent n) (own-undo n past ∙ rw t) in omega arith))

  -- one more event that is allowed
  pub pays : (past : List Event) (e : Event) → allowed p past e ≡ true → Paid past → Paid (e ∷ past)
  unfolding only is_began_of is_closed_of undone_by closed_by allowed may_close
  pays past started h g = still past started (λ n. refl) (λ n. refl) refl g
  pays past (began j) h g =
      decide (eqb x.undo j)
      (λ t. subst (λ (k : ℕ). allowed p past (began k) ≡ true → Paid (began k ∷ past)) (eqb-true x.undo j t) (λ v. undo-pays past v g) h)
      (λ t. still past (began j) (λ n. other-undo j t n past) (λ n. refl) (rw t) g)
  pays past (closed j) h g = go (which p j all)
    where
      go : Which p j (scopes_of p) → Paid (closed j ∷ past)
      go (nowhere e) = still past (closed j) (λ n. refl) (λ n. none-closed j e n past) refl g
      go (here y ky e) =
          decide (eqb x.number j)
          (λ t. subst (λ (k : ℕ). Paid (closed k ∷ past)) (eqb-true x.number j t) (close-pays past g))
          (λ t. subst (λ (k : ℕ). eqb x.number k ≡ false → allowed p past (closed k) ≡ true → Paid (closed k ∷ past)) e
          (λ d w. decide y.undoes
          (λ u. still past (closed y.number) (λ n. refl) (λ n. other-closed y ky u d n past) refl g)
          (λ u. both (not (none_now past)) _ w (λ a b. both (may_turn (inner y.number) past) _ b (λ c f. hand-pays y ky u past c g)))) t h)
  pays past (faulted n x) h g = still past (faulted n x) (λ m. refl) (λ m. refl) refl g
  pays past (stopped j) h g = still past (stopped j) (λ m. refl) (λ m. refl) refl g
  pays past (ended n) h g = still past (ended n) (λ m. refl) (λ m. refl) refl g
  pays past (raised j x) h g = still past (raised j x) (λ m. refl) (λ m. refl) refl g
  pays past left h g = still past left (λ m. refl) (λ m. refl) refl g

  -- over a right history, which leaves the same to be counted
  pays-all : (past l : List Event) → right_after p past l ≡ true → Paid past → Paid (onto l past)
  unfolding right_after
  pays-all past [] h g = g
  pays-all past (e ∷ l) h g = both (allowed p past e) _ h (λ a b. pays-all (e ∷ past) l b (pays past e a g))

  -- in the beginning
  pub none-paid : Paid []
  unfolding only closings_of undone_of started_by since some
  none-paid = let z = total-zero in record { recent = λ n. omega arith; unturned = λ n h. refl; paid = omega arith }

  -- what is undone where it counts is no more than what closed there
  pub undone-less : (past : List Event) → Paid past → total (open_undos past) ≤ total (open_closes past)
  undone-less past g =
      let a = total-so (open_undos past) (λ n. 0) (λ n. 0) (open_closes past) (λ n. 0) (λ n. 0)
      (λ n i. let c = g.recent n in decide (finished n past) (λ t. rw t (omega arith)) (λ t. rw t (omega arith))) in
      let z = total-zero in omega arith

  pub once-each : (l : List Event) → right_after p [] l ≡ true → leb (how_many (is_began_of (eqb x.undo)) l) (how_many (is_closed_of x.number) l) ≡ true
  unfolding only
  once-each l h =
      let g = pays-all [] l h none-paid in
      let a = count-onto (is_began_of (eqb x.undo)) l [] in
      let b = count-onto (is_closed_of x.number) l [] in
      let v = undone-less (onto l []) g in let w = g.paid in
      le-leb (how_many (is_began_of (eqb x.undo)) l) (how_many (is_closed_of x.number) l) (omega arith)
    where
      count-onto : (f : Event → Bool) (l past : List Event) → how_many f (onto l past) ≡ how_many f l + how_many f past
      count-onto f [] past = sym (zero-add (how_many f past))
      count-onto f (e ∷ l) past =
          decide (f e)
          (λ t. count-onto f l (e ∷ past) ∙ rw (t, add-suc, suc-add))
          (λ t. count-onto f l (e ∷ past) ∙ rw t)

-- Every scope of an accepted plan is known.

-- there is none where there is no scope
mutual
  unfolding scopes_in bare

  bare-scopes : (a : Act) (k : ℕ) (n : Name) (ns : List Name) → bare a ≡ true → scopes_in a k n ns ≡ []
  bare-scopes (act own within) k n ns h =
      both (not (is_scope own)) (bare_in within) h (λ a b. scopes-is own within k n ns false (not-true (is_scope own) a) ∙ bare-scopes-in within _ n ns b)

  bare-scopes-in : (l : Acts) (c : ℕ) (n : Name) (ns : List Name) → bare_in l ≡ true → scopes_among l c n ns ≡ []
  bare-scopes-in none c n ns h = refl
  bare-scopes-in (more a l) c n ns h = both (bare a) (bare_in l) h (λ x y. rw (bare-scopes a c n ns x, bare-scopes-in l (c + size a) n ns y))

-- a scope of the plan, and where it stands
record Placed (p : Plan) (y : Inner) : Type 0 where
  known : Known p y
  outer : Name
  place : place_of p y.number ≡ body_of y.around y.beyond outer

-- from the tree as it sits
mutual
  unfolding scopes_in kind

  knowns : {p : Plan} {q : Place} {a : Act} {k : ℕ} → Sits p q a k → Each (Placed p) (scopes_in a k (name_of q) (beyond_of q))
  knowns {p} (sits-part {q = q} {own} {within} {k} s g v y l) = subst (λ z. Each (Placed p) z) (sym (scopes-is own within k (name_of q) (beyond_of q) false s)) (knowns-in l)
  knowns {p} (sits-scope {xs = xs} {v = v₀} {n = n} {c = c} {ns = ns} {b = b} {f = f} {u = u} {k = k} kn v i sb z) =
      subst (λ w. Each (Placed p) (inner_at xs v₀ k n ns (trio b f u) ∷ (scopes_in b (k + 1) (inner k) (cond v₀ [] (n ∷ ns)) ++ w)))
      (sym (bare-scopes-in (more f u) (k + 1 + size b) (inner k) (cond v₀ [] (n ∷ ns)) (healers-bare z)))
      (each_more (record { known = kn; outer = c; place = v.place }) (each_append (knowns sb) each_none))

  knowns-in : {p : Plan} {q : Place} {l : Acts} {c : ℕ} → SitsIn p q l c → Each (Placed p) (scopes_among l c (name_of q) (beyond_of q))
  knowns-in sits-none = each_none
  knowns-in (sits-more s y) = each_append (knowns s) (knowns-in y)

all_placed : (p : Plan) → Promised p → Each (Placed p) (scopes_of p)
unfolding scopes_of
all_placed p h = each_append (subst (λ (ns : List Name). Each (Placed p) (scopes_in p.body 0 root ns)) h.alone (knowns h.seat.body)) (subst (λ z. Each (Placed p) z) (sym (bare-scopes p.fault (size p.body) root [] (remedy-bare (root-fault h.seat)))) each_none)

placed-known : {p : Plan} {l : List Inner} → Each (Placed p) l → Each (Known p) l
placed-known each_none = each_none
placed-known (each_more y l) = each_more y.known (placed-known l)

pub all_known : (p : Plan) → Promised p → Each (Known p) (scopes_of p)
all_known p h = placed-known (all_placed p h)

pub at-most-once : AtMostOnce
unfolding AtMostOnce Demand3 right every only
at-most-once bytes p next e calls slot t = go (all_known p (promised p (accepted-is-within bytes e)))
  where
    all : Each (Known p) (scopes_of p)
    all = all_known p (promised p (accepted-is-within bytes e))

    go : {l : List Inner} → Each (Known p) l
        → every (λ x. leb (how_many (is_began_of (eqb x.undo)) (history calls slot (loaded bytes) t)) (how_many (is_closed_of x.number) (history calls slot (loaded bytes) t))) (only (λ x. x.undoes) l) ≡ true
    go each_none = refl
    go (each_more {a} kn l) =
        decide a.undoes
        (λ u. rw (u, once-each p all a kn u (history calls slot (loaded bytes) t) (demanded.demand3 bytes p next e calls slot t), go l))
        (λ u. rw (u, go l))

-- What is taken back was closed.

-- which event begins a scope
begin-is : (k : ℕ) (e : Event) → is_begin (inner k) e ≡ true → e ≡ began k
unfolding is_begin
begin-is k started h = absurd (false≢true h)
begin-is k (began j) h = ap began (sym (eqb-true k j h))
begin-is k (closed j) h = absurd (false≢true h)
begin-is k (faulted n x) h = absurd (false≢true h)
begin-is k (stopped j) h = absurd (false≢true h)
begin-is k (ended n) h = absurd (false≢true h)
begin-is k (raised j x) h = absurd (false≢true h)
begin-is k left h = absurd (false≢true h)

begin-apart : (a : Name) (k : ℕ) → same (inner k) a ≡ false → is_begin a (began k) ≡ false
unfolding is_begin
begin-apart root k h = refl
begin-apart (inner m) k h = same-swap (inner m) (inner k) ∙ h

-- a scope finishes only when none inside it is left running
finish-none : (p : Plan) (a : Name) (past : List Event) (e : Event) → is_finish a e ≡ true → allowed p past e ≡ true → none_left p a past ≡ true
unfolding is_finish allowed may_close may_end
finish-none p a past started h v = absurd (false≢true h)
finish-none p a past (began j) h v = absurd (false≢true h)
finish-none p a past (closed j) h v =
    both (not (none_now past)) _ v (λ b c. both (may_turn (inner j) past) _ c (λ d f. subst (λ (z : Name). none_left p z past ≡ true) (sym (same-equal a (inner j) h)) f))
finish-none p a past (faulted n x) h v = absurd (false≢true h)
finish-none p a past (stopped j) h v = absurd (false≢true h)
finish-none p a past (ended n) h v =
    both (not (none_now past)) _ v (λ b c. both (none_left p n past) _ c (λ d f. subst (λ (z : Name). none_left p z past ≡ true) (sym (same-equal a n h)) d))
finish-none p a past (raised j x) h v = absurd (false≢true h)
finish-none p a past left h v = absurd (false≢true h)

-- what holds of each in a list holds of the one that a filter finds
every-found : (f g : Inner → Bool) (y : Inner) (l : List Inner) → every f l ≡ true → only g l ≡ y ∷ [] → f y ≡ true
unfolding every
every-found f g y l h e = both (f y) true (subst (λ (z : List Inner). every f z ≡ true) e (every-only f g l h)) (λ a b. a)

-- the accounts after one more event
since-new : (s : Name) (e : Event) (past : List Event) → (is_begin s e || is_begin root e) ≡ true → since s (e ∷ past) ≡ []
unfolding since
since-new s e past t = rw (t, since)

since-old : (s : Name) (e : Event) (past : List Event) → (is_begin s e || is_begin root e) ≡ false → since s (e ∷ past) ≡ e ∷ since s past
unfolding since
since-old s e past t = rw (t, since)

left-new : (s : Name) (e : Event) (past : List Event) → is_begin s e ≡ true → is_left s (e ∷ past) ≡ true
unfolding is_left
left-new s e past t = rw (t, is_left)

left_over : (s : Name) (e : Event) (past : List Event) → is_begin s e ≡ false → (is_finish s e || is_begin root e) ≡ true → is_left s (e ∷ past) ≡ false
unfolding is_left
left_over s e past t f = rw (t, is_left, f)

left-old : (s : Name) (e : Event) (past : List Event) → is_begin s e ≡ false → (is_finish s e || is_begin root e) ≡ false → is_left s (e ∷ past) ≡ is_left s past
unfolding is_left
left-old s e past t f = rw (t, is_left, f)

closings-new : (p : Plan) (s : Name) (e : Event) (past : List Event) → (is_begin s e || is_begin root e) ≡ true → closings_of p s (e ∷ past) ≡ []
unfolding closings_of
closings-new p s e past t = rw (t, closings_of)

closings-old : (p : Plan) (s : Name) (e : Event) (past : List Event) → (is_begin s e || is_begin root e) ≡ false
    → closings_of p s (e ∷ past) ≡ closed_by (inside_of p s) (λ k. closings_of p (inner k) past) e ++ closings_of p s past
unfolding closings_of
closings-old p s e past t = rw (t, closings_of)

-- of two tests of which neither holds
or-first : (a b : Bool) → (a || b) ≡ false → a ≡ false
or-first true b h = absurd (false≢true (sym h))
or-first false b h = refl

or-second : (a b : Bool) → (a || b) ≡ false → b ≡ false
or-second true b h = absurd (false≢true (sym h))
or-second false b h = h

neither : (a b : Bool) → a ≡ false → b ≡ false → (a || b) ≡ false
neither a b x y = rw (x, y)

-- one of a scope's own that is left running since it began keeps all that happened since that one began
since-within : (f : Event → Bool) (k s : Name) (past : List Event) → is_left k (since s past) ≡ true → some f (since k past) ≡ true → some f (since s past) ≡ true
unfolding is_left since some
since-within f k s [] h v = absurd (false≢true h)
since-within f k s (e ∷ past) h v =
    decide (is_begin s e || is_begin root e)
    (λ t. absurd (false≢true (rw (since-new s e past t) at h)))
    (λ t. decide (is_begin k e || is_begin root e)
    (λ b. absurd (false≢true (rw (since-new k e past b) at v)))
    (λ b. let n = or-first (is_begin k e) (is_begin root e) b in let r = or-second (is_begin k e) (is_begin root e) b in
    let h' : is_left k (e ∷ since s past) ≡ true = rw (since-old s e past t) at h in
    let v' : some f (e ∷ since k past) ≡ true = rw (since-old k e past b) at v in
    rw (since-old s e past t)
    (decide (is_finish k e || is_begin root e)
    (λ g. absurd (false≢true (sym (left_over k e (since s past) n g) ∙ h')))
    (λ g. decide (f e)
    (λ d. rw d)
    (λ d. rw d (since-within f k s past (sym (left-old k e (since s past) n g) ∙ h') (rw d at v')))))))

module _ (p : Plan) where
  -- a scope that is left running began since the one around it did, which is left running too
  abbrev Nest : List Event → Type 0
  Nest past = (y : Inner) → Placed p y → is_left (inner y.number) past ≡ true
      → (is_left y.around past ≡ true) × (is_left (inner y.number) (since y.around past) ≡ true)

  -- none of those inside is left
  none_left_lem : (y : Inner) → Known p y → (past : List Event) → none_left p y.around past ≡ true → is_left (inner y.number) (since y.around past) ≡ false
  unfolding none_left inside_of only
  none_left_lem y ky past h =
      not-true (is_left (inner y.number) (since y.around past))
      (every-found (λ x. not (is_left (inner x.number) (since y.around past))) (λ x. eqb x.number y.number) y (inside_of p y.around) h
      (only-swap (λ x. eqb x.number y.number) (λ x. same x.around y.around) (scopes_of p) ∙ (ap (only (λ x. same x.around y.around)) ky.by_number ∙ rw (same-itself y.around))))

  nest-begins : (past : List Event) (y : Inner) → Placed p y → orderly p past (began y.number) ≡ true
      → (is_left y.around (began y.number ∷ past) ≡ true) × (is_left (inner y.number) (since y.around (began y.number ∷ past)) ≡ true)
  unfolding orderly may_act may_turn is_left since is_begin is_finish
  nest-begins past y py o =
      both (may_start p past y.number (place_after p past y.number)) _ o (λ a b.
      let c : may_turn y.around past ≡ true = subst (λ (q : Place). may_start p past y.number (seen (λ n. is_left n past) q) ≡ true) py.place a in
      let d = begin-apart y.around y.number py.known.apart in
      both (is_left y.around past) _ c (λ l m. (
        left-old y.around (began y.number) past d refl ∙ l,
        rw (since-old y.around (began y.number) past (neither _ _ d refl)) (left-new (inner y.number) (began y.number) (since y.around past) (eq-eqb y.number y.number refl)),
      )))

  nest-stays : (past : List Event) (e : Event) → allowed p past e ≡ true → orderly p past e ≡ true → (y : Inner) → Placed p y
      → is_begin (inner y.number) e ≡ false → is_finish (inner y.number) e ≡ false → is_begin root e ≡ false
      → is_left y.around past ≡ true → is_left (inner y.number) (since y.around past) ≡ true
      → (is_left y.around (e ∷ past) ≡ true) × (is_left (inner y.number) (since y.around (e ∷ past)) ≡ true)
  unfolding is_left since orderly not_left
  nest-stays past e h o y py b f r l m =
      decide (is_begin y.around e)
      (λ t. absurd (again y.around t l py.known.parent))
      (λ t. decide (is_finish y.around e)
      (λ v. absurd (false≢true (sym (none_left_lem y py.known past (finish-none p y.around past e v h)) ∙ m)))
      (λ v. (
        left-old y.around e past t (neither _ _ v r) ∙ l,
        rw (since-old y.around e past (neither _ _ t r)) (left-old (inner y.number) e (since y.around past) b (neither _ _ f r) ∙ m),
      )))
    where
      again : (a : Name) → is_begin a e ≡ true → is_left a past ≡ true → is_name p a ≡ true → ⊥
      again root t l i = false≢true (sym r ∙ t)
      again (inner j) t l i =
          both (may_start p past j (place_after p past j)) (not_left p past j) (subst (λ (z : Event). orderly p past z ≡ true) (begin-is j e t) o)
          (λ c d. false≢true (rw (i, l) at d))

  nest-on : (past : List Event) (e : Event) → allowed p past e ≡ true → orderly p past e ≡ true → Nest past → Nest (e ∷ past)
  unfolding is_left
  nest-on past e h o g y py z =
      decide (is_begin (inner y.number) e)
      (λ b. subst (λ (v : Event). (is_left y.around (v ∷ past) ≡ true) × (is_left (inner y.number) (since y.around (v ∷ past)) ≡ true)) (sym (begin-is y.number e b))
      (nest-begins past y py (subst (λ (v : Event). orderly p past v ≡ true) (begin-is y.number e b) o)))
      (λ b. decide (is_finish (inner y.number) e || is_begin root e)
      (λ f. absurd (false≢true (sym (left_over (inner y.number) e past b f) ∙ z)))
      (λ f. let w = g y py (sym (left-old (inner y.number) e past b f) ∙ z) in
      nest-stays past e h o y py b (or-first (is_finish (inner y.number) e) (is_begin root e) f) (or-second (is_finish (inner y.number) e) (is_begin root e) f) w.0 w.1))

  -- what stands among the closings was closed
  abbrev Sound : List Event → Type 0
  Sound past = (s : Name) (e : ℕ) → 1 ≤ times e (closings_of p s past) → some (is_closed_of e) (since s past) ≡ true

  -- what an event brings was closed by it, or inside the scope that it closes
  brought : (all : Each (Placed p) (scopes_of p)) (past : List Event) (v : Event) → allowed p past v ≡ true → Nest past → Sound past
      → (s : Name) (e : ℕ) → is_closed_of e v ≡ false → 1 ≤ times e (closed_by (inside_of p s) (λ k. closings_of p (inner k) past) v) → some (is_closed_of e) (since s past) ≡ true
  unfolding closed_by is_closed_of only each allowed may_close may_turn
  brought all past started h g w s e c n = absurd (omega arith)
  brought all past (began j) h g w s e c n = absurd (omega arith)
  brought all past (closed j) h g w s e c n = go all
    where
      inside : (y : Inner) → Placed p y → y.number ≡ j → some (is_closed_of e) (since s past) ≡ true
      inside y py q =
          let a : times e (closed_by (inside_of p s) (λ k. closings_of p (inner k) past) (closed j)) ≡ times e (each (λ x. cond x.undoes (x.number ∷ []) (closings_of p (inner x.number) past)) (only (λ x. same x.around s) (y ∷ [])))
          = ap (times e) (closed-inside p s (λ k. closings_of p (inner k) past) j
          ∙ ap (λ (l : List Inner). each (λ x. cond x.undoes (x.number ∷ []) (closings_of p (inner x.number) past)) (only (λ x. same x.around s) l))
          (subst (λ (z : ℕ). only (λ x. eqb x.number z) (scopes_of p) ≡ y ∷ []) q py.known.by_number)) in
          decide (same y.around s)
          (λ t. decide y.undoes
          (λ u. absurd (let b : times e (closed_by (inside_of p s) (λ k. closings_of p (inner k) past) (closed j)) ≡ 0 = a ∙ rw (t, u, q, c) in omega arith))
          (λ u. let b : times e (closed_by (inside_of p s) (λ k. closings_of p (inner k) past) (closed j)) ≡ times e (closings_of p (inner y.number) past ++ []) = a ∙ rw (t, u) refl in
          let d = times-append e (closings_of p (inner y.number) past) [] in
          both (not (none_now past)) _ h (λ v₁ v₂. both (is_left (inner j) past && not (some (is_turn (inner j)) (since (inner j) past))) _ v₂ (λ v₃ v₄. both (is_left (inner j) past) _ v₃ (λ v₅ v₆.
          let l : is_left (inner y.number) past ≡ true = subst (λ (z : ℕ). is_left (inner z) past ≡ true) (sym q) v₅ in
          subst (λ (z : Name). some (is_closed_of e) (since z past) ≡ true) (same-equal y.around s t)
          (since-within (is_closed_of e) (inner y.number) y.around past (g y py l).1 (w (inner y.number) e (omega arith))))))))
          (λ t. absurd (let b : times e (closed_by (inside_of p s) (λ k. closings_of p (inner k) past) (closed j)) ≡ 0 = a ∙ rw t in omega arith))

      find : {l : List Inner} → Each (Placed p) l → (only (λ x. eqb x.number j) l ≡ [] → some (is_closed_of e) (since s past) ≡ true) → some (is_closed_of e) (since s past) ≡ true
      find each_none k = k refl
      find (each_more {a = y} py l) k = decide (eqb y.number j) (λ t. inside y py (eqb-true y.number j t)) (λ t. find l (λ z. k (rw t z)))

      go : Each (Placed p) (scopes_of p) → some (is_closed_of e) (since s past) ≡ true
      go l = find l (λ z. absurd (let b : times e (closed_by (inside_of p s) (λ k. closings_of p (inner k) past) (closed j)) ≡ 0 = ap (times e) (closed-inside p s (λ k. closings_of p (inner k) past) j) ∙ rw z in omega arith))
  brought all past (faulted m x) h g w s e c n = absurd (omega arith)
  brought all past (stopped j) h g w s e c n = absurd (omega arith)
  brought all past (ended m) h g w s e c n = absurd (omega arith)
  brought all past (raised j x) h g w s e c n = absurd (omega arith)
  brought all past left h g w s e c n = absurd (omega arith)

  sound-on : (all : Each (Placed p) (scopes_of p)) (past : List Event) (v : Event) → allowed p past v ≡ true → Nest past → Sound past → Sound (v ∷ past)
  unfolding closings_of since some only
  sound-on all past v h g w s e n =
      decide (is_begin s v || is_begin root v)
      (λ t. absurd (let z : times e (closings_of p s (v ∷ past)) ≡ 0 = ap (times e) (closings-new p s v past t) in omega arith))
      (λ t. let z : 1 ≤ times e (closed_by (inside_of p s) (λ k. closings_of p (inner k) past) v ++ closings_of p s past) = rw (closings-old p s v past t) at n in
      let a = times-append e (closed_by (inside_of p s) (λ k. closings_of p (inner k) past) v) (closings_of p s past) in
      decide (is_closed_of e v)
      (λ c. rw (since-old s v past t, c))
      (λ c. rw (since-old s v past t, c)
      (decide (leb 1 (times e (closings_of p s past)))
      (λ b. w s e (leb-true 1 (times e (closings_of p s past)) b))
      (λ b. let d = leb-false 1 (times e (closings_of p s past)) b in brought all past v h g w s e c (omega arith)))))

  first-closed : (past : List Event) (e : Event) → allowed p past e ≡ true → Sound past → closed_first p past e ≡ true
  unfolding allowed may_begin closed_first
  first-closed past started h w = refl
  first-closed past (began k) h w =
      both (not (none_now past)) _ h (λ a b. every-so (may_undo p past) (was_closed past) (λ x m. w (runner_of past x) x.number (let d = one_more p past x m in omega arith)) (only (is_undo_part k) (scopes_of p)) b)
  first-closed past (closed k) h w = refl
  first-closed past (faulted n x) h w = refl
  first-closed past (stopped k) h w = refl
  first-closed past (ended n) h w = refl
  first-closed past (raised k x) h w = refl
  first-closed past left h w = refl

  all_closed : (all : Each (Placed p) (scopes_of p)) (past l : List Event) → right_after p past l ≡ true → orderly_after p past l ≡ true → Nest past → Sound past → closed_first_after p past l ≡ true
  unfolding right_after orderly_after closed_first_after
  all_closed all past [] h o g w = refl
  all_closed all past (e ∷ l) h o g w =
      both (allowed p past e) _ h (λ a b. both (orderly p past e) _ o (λ c d.
      rw (first-closed past e a w, all_closed all (e ∷ past) l b d (nest-on past e a c g) (sound-on all past e a g w))))

pub taken-back-was-closed : TakenBackWasClosed
unfolding TakenBackWasClosed Demand3 right Orderly is_left closings_of only
taken-back-was-closed bytes p next e calls slot t =
    all_closed p (all_placed p (promised p (accepted-is-within bytes e))) [] (history calls slot (loaded bytes) t)
    (demanded.demand3 bytes p next e calls slot t) (demanded.orderly bytes p next e calls slot t)
    (λ y py h. absurd (false≢true h)) (λ s k h. absurd (omega arith))

-- What was taken back at the root began.

at_most : (a n : Name) (v : ℕ) → at a v n ≤ v
at_most a n v = decide (same a n) (λ t. rw t (omega arith)) (λ t. rw t (omega arith))

module _ (p : Plan) (all : Each (Known p) (scopes_of p)) (x : Inner) (kn : Known p x) (un : x.undoes ≡ true) where
  -- an event undoes of a scope no more than begins of its undo part
  takes-begun : (past : List Event) (e : Event) → length (only (eqb x.number) (undone_by p root past e)) ≤ how_many (is_began_of (eqb x.undo)) (e ∷ [])
  unfolding only undone_by is_began_of
  takes-begun past started = omega arith
  takes-begun past (began j) =
      decide (eqb x.undo j)
      (λ t. let z : length (only (eqb x.number) (undone_by p root past (began j))) ≤ 1
      = subst (λ (i : ℕ). length (only (eqb x.number) (undone_by p root past (began i))) ≤ 1) (eqb-true x.undo j t)
      (omega (arith, own-undo p all x kn un root past, at_most (runner_of past x) root 1)) in rw t (omega arith))
      (λ t. omega (arith, other-undo p all x kn un j t root past))
  takes-begun past (closed k) = omega arith
  takes-begun past (faulted n x) = omega arith
  takes-begun past (stopped k) = omega arith
  takes-begun past (ended n) = omega arith
  takes-begun past (raised k x) = omega arith
  takes-begun past left = omega arith

  undone-begun : (past : List Event) → length (only (eqb x.number) (undone_of p root past)) ≤ how_many (is_began_of (eqb x.undo)) (since root past)
  unfolding only undone_of started_by
  undone-begun [] = omega arith
  undone-begun (e ∷ past) =
      decide (is_begin root e || is_begin root e)
      (λ t. let m = (fresh-since p all x kn un root past e t).0 in omega arith)
      (λ t. let m = (more-since p all x kn un root past e t).0 in
      rw (since-old root e past t)
      (let z = undone-begun past in let y = takes-begun past e in let w = more-than (is_began_of (eqb x.undo)) e (since root past) in omega arith))
    where
      more-than : (f : Event → Bool) (e : Event) (l : List Event) → how_many f (e ∷ l) ≡ how_many f (e ∷ []) + how_many f l
      more-than f e l = decide (f e) (λ t. rw t (omega arith)) (λ t. rw t (omega arith))

-- what holds at the ends
ends_so : (f g : End → (past : List Event) → Bool) → ((e : End) (past : List Event) → f e past ≡ true → g e past ≡ true) → (past l : List Event) → at_ends f past l ≡ true → at_ends g past l ≡ true
unfolding at_ends
ends_so f g h past [] e = refl
ends_so f g h past (x ∷ l) e = both (f (end_told (x ∷ past)) past) (at_ends f (x ∷ past) l) e (λ a b. rw (h (end_told (x ∷ past)) past a, ends_so f g h (x ∷ past) l b))

pub handled-takes-each-back : HandledTakesEachBack
unfolding HandledTakesEachBack HandledTakesAllBack every only
handled-takes-each-back bytes p next e calls slot t =
    ends_so (all_back p) (each_back p) go [] (history calls slot (loaded bytes) t) (handled-takes-all-back bytes p next e calls slot t)
  where
    all : Each (Known p) (scopes_of p)
    all = all_known p (promised p (accepted-is-within bytes e))

    each-so : (past : List Event) → undone_of p root past ≡ closings_of p root past → {l : List Inner} → Each (Known p) l
        → every (λ x. leb (length (only (eqb x.number) (closings_of p root past))) (how_many (is_began_of (eqb x.undo)) (since root past))) (only (λ x. x.undoes) l) ≡ true
    each-so past d each_none = refl
    each-so past d (each_more {a} kn l) =
        decide a.undoes
        (λ u. rw (
          u,
          le-leb (length (only (eqb a.number) (closings_of p root past))) (how_many (is_began_of (eqb a.undo)) (since root past))
              (subst (λ (m : List ℕ). length (only (eqb a.number) m) ≤ how_many (is_began_of (eqb a.undo)) (since root past)) d (undone-begun p all a kn u past)),
          each-so past d l,
        ))
        (λ u. rw (u, each-so past d l))

    go : (y : End) (past : List Event) → all_back p y past ≡ true → each_back p y past ≡ true
    go None past h = refl
    go Well past h = refl
    go Handled past h = each-so past (alike-equal (undone_of p root past) (closings_of p root past) h) all
    go Failed past h = refl
    go Left past h = refl
