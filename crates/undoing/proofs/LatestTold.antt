-- What closed directly inside a scope that takes back is taken back the latest first, by the answers alone, over any run. Assumes nothing.
use Prim.Native.Nat.{ℕ, zero, suc, ◌+◌, ◌≤◌}
use native.Mathlib.Omega.{arith}
use mathlib.Core.Path.{◌≡◌, refl, sym, ap, subst, ◌∙◌}
use mathlib.Core.Bool.{Bool, true, false, cond, not, ◌&&◌, ◌||◌, false≢true, or-true}
use mathlib.Core.List.{List, [], ◌∷◌, ◌++◌, append-nil, append_assoc, map}
use lib.ListN.{length, get_or}
use lib.Dec.{eqb}
use borrow.Author.Tests.{eqb-true, eqb-false, eq-eqb, ne_eqb, not-true}
use Rattle.plan.specs.Found.{Found, found}
use Rattle.plan.specs.Read.{read_plan}
use Rattle.plan.specs.Tree.{Act, Plan, size}
use Rattle.plan.proofs.Limits.{accepted-is-within}
use Rattle.order.specs.declared.Order.{Order}
use Rattle.order.specs.declared.End.{End}
use Rattle.order.specs.declared.End.TheVariants.{None, Well, Handled, Failed, Left}
use Rattle.machine.specs.declared.Step.{Step}
use Rattle.machine.specs.declared.Tally.{Tally}
use Rattle.order.specs.Lists.{every, some, only, each}
use Rattle.order.specs.State.{idle, Name, root, inner, same, mark_of, no_order}
use Rattle.machine.specs.State.{fresh}
use Rattle.order.specs.Event.{Event, started, closed}
use Rattle.order.specs.Scope.{root_of, is_open}
use Rattle.order.specs.Acting.{Actor, its_own, in_place, Moved, acted, begun_order, started_order}
use Rattle.order.specs.Judging.{Verdict, clear, clash, conflict, following, upon, judged, spare, settled, step_order}
use Rattle.machine.specs.Calls.{loaded_as, load, Call}
use Rattle.undoing.specs.Demand3.{Inner, scopes_of, inside_of, is_begin, closings_of, closed_by}
use Rattle.undoing.specs.Ties.{Place, body_of, is_name, place_of, place_now, seen, fits}
use Rattle.undoing.specs.Begun.{has_began}
use Rattle.undoing.specs.Buyer.{how_many, is_closed_of}
use Rattle.undoing.specs.Answered.{surely, back_in, back_of, is_close, is_back, putting, without, answered}
use Rattle.undoing.specs.LatestFirst.{taken_from, is_owed, stacked, may_stack, onward, latest_first, takers, TakenBackLatestFirst}
use Rattle.undoing.proofs.Parts.{both, decide, same-itself}
use Rattle.undoing.proofs.Accounts.{account_of, phase, live, undoes, Known}
use Rattle.undoing.proofs.Moves.{HoldsAt, fair, closed-inside}
use Rattle.undoing.proofs.Orders.{directs, Sits, list_of, moment_of, onto, fair_after}
use Rattle.undoing.proofs.Marks.{not-open}
use Rattle.undoing.proofs.Scoping.{Running, scope_live, scope-done, scope-turned}
use Rattle.undoing.proofs.Roots.{Awaited, Standing, Passed, passes_on, passes-end}
use Rattle.undoing.proofs.Planning.{Promised, promised, whole}
use Rattle.undoing.proofs.Judged.{Fitting, OnClash, Higher, conflict-awaited, passed-joined, passed-stands, passed-once}
use Rattle.undoing.proofs.Slots.{Alike, alike-itself, alike-awaited, alike-stands, alike-holds, standing-live}
use Rattle.undoing.proofs.Aside.{begin-silent}
use Rattle.undoing.proofs.Fitting.{standing-fits}
use Rattle.undoing.proofs.BegunTold.{body-knows, lb}
use Rattle.undoing.proofs.Offered.{Each}
use Rattle.undoing.proofs.Bought.{all_known}
use Rattle.undoing.proofs.Sure.{left_in}
use Rattle.undoing.proofs.Owing.{directly, directly-directs, undo-run, undo-quiet}
use Rattle.undoing.proofs.Repaying.{close-place}
use Rattle.undoing.proofs.Pushing.{CloseAt, close_at, Apart}
use Rattle.undoing.proofs.Booked.{some-find}
use Rattle.undoing.proofs.Shrinking.{left-surely}
use Rattle.undoing.proofs.Finding.{has_back, Back, backs}
use Rattle.undoing.proofs.Locating.{Located, locate, located}
use Rattle.undoing.proofs.OneTime.{standing-shape, first, its, own-left, time-fewer, start-fewer}
use Rattle.undoing.proofs.Takers.{left_of, Body, body-calm, turned-body, Placed, placed, every-scope, direct-sure, left-undoes, left-once}
use Rattle.undoing.proofs.Stacks.{Sub, Kept, kept-none, kept-over, kept-one, kept-after, kept-owed, kept-taken, kept_put, kept-nothing, some-less, less_other, some-without}
use Rattle.undoing.proofs.Remaining.{dues_at, Whole, whole-begin, whole-start, tied-whole, whole-tied, Its, Has, Done, Then, closing_then, joined, all_then}
use Rattle.undoing.proofs.Heads.{First, acted-first}
use Rattle.undoing.proofs.NeverTwice.{wrote, some-many, acted-shut}
use Rattle.undoing.proofs.Noting.{Keeping, fresh-noted}

-- A scope that takes back what closed directly inside it: the root, or one with an undo part.
pub data Taker (p : Plan) : Name → Type 0 where
  taker-root : Taker p root
  taker-inner : (j : ℕ) → has_back p.body 0 j ≡ true → Taker p (inner j)

-- what is left to come of an undo part is in one of these
data Held (left : List ℕ) (Q : List (List ℕ)) : Type 0 where
  held_none : ((t : ℕ) → some (eqb t) left ≡ true → ⊥) → Held left Q
  held_by : (before : List (List ℕ)) (q : List ℕ) (after : List (List ℕ)) → Q ≡ before ++ (q ∷ after) → Sub left q → Held left Q

no_member : (t : ℕ) → some (eqb t) [] ≡ true → ⊥
unfolding some
no_member t h = false≢true h

first_member : (x : ℕ) (l : List ℕ) → some (eqb x) (x ∷ l) ≡ true
unfolding some
first_member x l = rw (eq-eqb x x refl)

none-some : (f : Event → Bool) (l : List Event) → only f l ≡ [] → some f l ≡ false
unfolding some only
none-some f [] e = refl
none-some f (x ∷ l) e = decide (f x) (λ t. absurd (let z : ◌≡◌ {A = List Event} (x ∷ only f l) [] = rw t at e in let y : ◌≡◌ {A = ℕ} 1 0 = ap length-of z in omega arith)) (λ t. rw t (none-some f l (rw t at e)))
  where
    length-of : List Event → ℕ
    length-of [] = 0
    length-of (y ∷ m) = 1

mapped : (f : Name → Bool) (l : List Inner) → every (λ x. f (inner x.number)) l ≡ true → every f (map (λ x. inner x.number) l) ≡ true
unfolding every
mapped f [] e = refl
mapped f (x ∷ l) e = both (f (inner x.number)) (every (λ x. f (inner x.number)) l) e (λ a b. rw (a, mapped f l b))

module _ (p : Plan) (h : Promised p) where
  root-placed : (o : Order) → Standing p o → Placed p o.marks o.root root p.body 0
  root-placed o st =
      record {
        body = p.body;
        at = 0;
        last = h.seat.around;
        sits = subst (λ (ns : List Name). Sits p (body_of root ns h.seat.around) p.body 0) h.alone h.seat.body;
        inside = h.seat.inside ∙ ap (λ (ns : List Name). directs p.body 0 root ns) h.alone;
        stands = go st.runs;
        from = omega arith;
        to = omega arith;
        here = λ e d. refl;
      }
    where
      go : Running (root_of p) o.marks o.root → Body o.marks o.root p.body 0
      go (scope_live d r q) = body-calm (undo-run h.seat.body r)
      go (scope-done d q z) = body-calm (undo-quiet h.seat.body o.marks q)
      go (scope-turned t) = turned-body h.seat.body t

  placed-now : (n : Name) → Taker p n → (o : Order) → Standing p o → Placed p o.marks (mark_of n o) n p.body 0
  placed-now root taker-root o st = root-placed o st
  placed-now (inner j) (taker-inner _ g) o st = placed h.seat.body (standing-shape p o st) j g

  taker-name : (n : Name) → Taker p n → is_name p n ≡ true
  taker-name root taker-root = refl
  taker-name (inner j) (taker-inner _ g) = let x = locate h.seat.body (body-knows p h) (lb p h) j g in subst (λ (i : ℕ). is_name p (inner i) ≡ true) x.number x.known.name

  -- what is to come of the undo part of scope e
  abbrev left_at : (e : ℕ) → (marks : List ℕ) → List ℕ
  left_at e ms = left_of (backs p.body 0 e) ms

  module _ (n : Name) (tk : Taker p n) where
    -- A book of n is right of an order: it has an entry for what runs, then for what is remembered.
    record Right (o : Order) (d : List (List ℕ)) : Type 0 where
      running : List (List ℕ)
      kept : Kept (running ++ dues_at p n (list_of p n o)) d
      held : (e : ℕ) → is_close p n e ≡ true → Held (left_at e o.marks) running

    -- Of one order.
    module _ (o : Order) (st : Standing p o) where
      pl : Placed p o.marks (mark_of n o) n p.body 0
      pl = placed-now n tk o st

      direct : (e : ℕ) → is_close p n e ≡ true → directly pl.body pl.at e ≡ true
      direct e c = directly-directs pl.body pl.at e n [] ∙ (ap (some (λ x. eqb x.number e)) (sym pl.inside) ∙ c)

      not-direct : (e : ℕ) → directly pl.body pl.at e ≡ false → is_close p n e ≡ false
      not-direct e c = decide (is_close p n e) (λ t. absurd (false≢true (sym c ∙ direct e t))) (λ t. t)

      there : (j : ℕ) → is_close p n j ≡ true → place_of p j ≡ body_of n [] pl.last
      there j c = close-place pl.body pl.at j pl.sits (direct j c)

      close_of : (j : ℕ) → is_close p n j ≡ true → CloseAt p n [] (back_in pl.body pl.at j) (Apart pl.body pl.at) j
      close_of j c = close_at pl.sits j (direct j c)

      back-there : (j : ℕ) → is_close p n j ≡ true → back_of p j ≡ back_in pl.body pl.at j
      unfolding back_of
      back-there j c = ap (λ (z : Back). z.sure) (pl.here j (direct j c))

      -- what closed in a scope with no undo part stands nowhere directly inside
      handed-dues : (l r : List ℕ) → every (Apart pl.body pl.at) l ≡ true → dues_at p n (l ++ r) ≡ dues_at p n r
      unfolding every dues_at
      handed-dues [] r g = refl
      handed-dues (e ∷ l) r g =
          both (Apart pl.body pl.at e) (every (Apart pl.body pl.at) l) g (λ x y. both (not (directly pl.body pl.at e)) _ x (λ z v.
          rw (not-direct e (not-true (directly pl.body pl.at e) z)) (handed-dues l r y)))

      closing : (j : ℕ) → is_close p n j ≡ true → (past : List Event) (r : List ℕ)
          → dues_at p n (closed_by (inside_of p n) (λ k. closings_of p (inner k) past) (closed j) ++ r) ≡ putting (back_of p j) (dues_at p n r)
      unfolding dues_at each only
      closing j c past r = ap (λ (l : List ℕ). dues_at p n (l ++ r)) shut ∙ by-undo w.its.undoes refl
        where
          w : CloseAt p n [] (back_in pl.body pl.at j) (Apart pl.body pl.at) j
          w = close_of j c

          shut : closed_by (inside_of p n) (λ k. closings_of p (inner k) past) (closed j) ≡ cond w.its.undoes (j ∷ []) (closings_of p (inner j) past)
          shut =
              closed-inside p n (λ k. closings_of p (inner k) past) j
              ∙ (ap (λ (l : List Inner). each (λ x. cond x.undoes (x.number ∷ []) (closings_of p (inner x.number) past)) (only (λ x. same x.around n) l))
              (ap (λ (i : ℕ). only (λ x. eqb x.number i) (scopes_of p)) (sym w.number) ∙ w.known.by_number)
              ∙ rw (w.around, same-itself n, w.number, append-nil))

          by-undo : (b : Bool) → w.its.undoes ≡ b → dues_at p n (cond w.its.undoes (j ∷ []) (closings_of p (inner j) past) ++ r) ≡ putting (back_of p j) (dues_at p n r)
          by-undo true u = rw (u, c)
          by-undo false u = rw (u, back-there j c, w.none-back u) (handed-dues (closings_of p (inner j) past) r (w.handed u past))

      -- a step of it
      takes_of : (e t : ℕ) → is_close p n e ≡ true → (ms : List ℕ) → some (eqb t) (left_at e ms) ≡ true → some (eqb t) (back_of p e) ≡ true
      takes_of e t c ms i =
          let x = pl.here e (direct e c) in
          ap (some (eqb t)) (back-there e c ∙ direct-sure pl.body pl.at e (direct e c))
          ∙ left-surely (backs pl.body pl.at e).tree (backs pl.body pl.at e).at t ms (ap (λ (z : Back). some (eqb t) (left_of z ms)) (sym x) ∙ i)

      -- the scope that is taken back, in the words of the plan
      its-of : (e t : ℕ) (c : is_close p n e ≡ true) (i : some (eqb t) (back_of p e) ≡ true)
          → Its p (all_known p h) n (taker-name n tk) pl.last there closing (close_of e c).its
      unfolding some
      its-of e t c i =
          let w = close_of e c in
          record {
            known = w.known;
            around = w.around;
            beyond = w.beyond;
            undoing = decide w.its.undoes (λ u. u) (λ u. absurd (false≢true (ap (some (eqb t)) (sym (back-there e c ∙ w.none-back u)) ∙ i)));
            closes = ap (is_close p n) w.number ∙ c;
            step = t;
            takes = ap (λ (j : ℕ). some (eqb t) (back_of p j)) w.number ∙ i;
          }

    -- by its number a scope is the same
    same-scope : (e : ℕ) {b : List ℕ} {f : ℕ → Bool} {x : Back} (y : CloseAt p n [] b f e) (z : Located p e x) → y.its ≡ z.inner
    same-scope e y z = heads (sym y.known.by_number ∙ (ap (λ (j : ℕ). only (λ x. eqb x.number j) (scopes_of p)) (y.number ∙ sym z.number) ∙ z.known.by_number))
      where
        heads : {a b : Inner} → ◌≡◌ {A = List Inner} (a ∷ []) (b ∷ []) → a ≡ b
        heads {a} {b} q = cc

    -- What is written down of a step, and whether it may be; of a raise in place of a receive nothing.
    abbrev written : Actor → (k : ℕ) → List (List ℕ) → List (List ℕ)
    written its_own k d = stacked p n k d
    written in_place k d = d

    abbrev May : Actor → (k : ℕ) → List (List ℕ) → Type 0
    May its_own k d = may_stack p n k d ≡ true
    May in_place k d = Unit {0}

    -- Once through the order.
    module _ (actor : Actor) (k : ℕ) (o o' : Order) (past : List Event) (d : List (List ℕ)) (fit : Fitting actor p k) (like : Alike p o o') (w : Awaited p o.marks k) (st : Standing p o)
        (g : HoldsAt p (moment_of p o) past) (was : Right o d) where
      abbrev m : Moved
      m = acted actor p k o'

      passed : Passed p past m
      passed = passed-once p h actor k o' past (alike-awaited like k w) (alike-stands p o o' like st) (alike-holds like past g)

      fair-log : (x : Moved) → Passed p past x → fair_after p past x.log ≡ true
      fair-log x (passes_on r _ _ _) = r
      fair-log x (passes-end r _ _) = r

      named : is_name p n ≡ true
      named = taker-name n tk

      abbrev Finished : (log : List Event) → (Q S : List (List ℕ)) → Type 0
      Finished log Q S = Done p (all_known p h) n (taker-name n tk) (pl o st).last (there o st) (closing o st) past log Q S

      -- what is to come but for the step is held
      abbrev HeldBut : List (List ℕ) → Type 0
      HeldBut Q = (e : ℕ) → is_close p n e ≡ true → Held (without k (left_at e o.marks)) Q

      other_way : (t : ℕ) → eqb t k ≡ false → eqb k t ≡ false
      other_way t e = ne_eqb k t (λ x. eqb-false t k e (sym x))

      finish : (Q S : List (List ℕ)) → Finished m.log Q S → HeldBut Q → m.end ≡ None → Right m.order S
      finish Q S f hb end =
          record {
            running = Q ++ f.more;
            kept = subst (λ (l : List ℕ). Kept ((Q ++ f.more) ++ dues_at p n l) S) lists f.kept;
            held = λ e c. go e c (left_at e m.order.marks) refl;
          }
        where
          s : Standing p m.order × HoldsAt p (moment_of p m.order) (onto m.log past)
          s = passed-stands p past m end passed

          lists : f.left ≡ list_of p n m.order
          lists = whole-tied (phase (mark_of n m.order)) (list_of p n m.order) f.left (account_of p n (onto m.log past)) (s.1.ties n named) f.whole

          -- its undo part began with this
          begun : (e t : ℕ) (c : is_close p n e ≡ true) (i : some (eqb t) (back_of p e) ≡ true) → has_began (first p h e t i) m.log ≡ true → Held (left_at e m.order.marks) (Q ++ f.more)
          begun e t c i b =
              let y = close_of o st e c in
              let z = its p h e t i in
              let x = f.begun y.its (its-of o st e t c i) (ap (λ (v : ℕ). has_began v m.log) (ap (λ (v : Inner). v.undo) (same-scope e y z) ∙ z.undo) ∙ b) in
              held_by (Q ++ x.before) (back_of p y.its.number) x.after (ap (λ (l : List (List ℕ)). Q ++ l) x.is ∙ sym (append_assoc Q x.before (back_of p y.its.number ∷ x.after)))
              (record { at = λ v j. ap (λ (u : ℕ). some (eqb v) (back_of p u)) y.number ∙ takes_of o st e v c m.order.marks j })

          -- it did not
          fewer : (e t : ℕ) (c : is_close p n e ≡ true) (i : some (eqb t) (back_of p e) ≡ true) → has_began (first p h e t i) m.log ≡ false → some (eqb t) (left_at e m.order.marks) ≡ true
              → some (eqb t) (without k (left_at e o.marks)) ≡ true
          fewer e t c i b j =
              let x = time-fewer p h e t i actor k o o' like w st (standing-live p m.order s.0) b j in some-without t k (left_at e o.marks) x.0 (other_way t x.1)

          kept-held : (e : ℕ) → ((t : ℕ) → some (eqb t) (left_at e m.order.marks) ≡ true → some (eqb t) (without k (left_at e o.marks)) ≡ true) → Held (without k (left_at e o.marks)) Q → Held (left_at e m.order.marks) (Q ++ f.more)
          kept-held e v (held_none u) = held_none (λ t j. u t (v t j))
          kept-held e v (held_by before q after u sub) =
              held_by before q (after ++ f.more) (ap (λ (l : List (List ℕ)). l ++ f.more) u ∙ append_assoc before (q ∷ after) f.more) (record { at = λ t j. sub.at t (v t j) })

          go : (e : ℕ) → is_close p n e ≡ true → (l : List ℕ) → left_at e m.order.marks ≡ l → Held (left_at e m.order.marks) (Q ++ f.more)
          go e c [] q = held_none (λ t j. no_member t (ap (some (eqb t)) (sym q) ∙ j))
          go e c (x ∷ l) q =
              let i = takes_of o st e x c m.order.marks (ap (some (eqb x)) q ∙ first_member x l) in
              decide (has_began (first p h e x i) m.log)
              (λ b. begun e x c i b)
              (λ b. kept-held e (λ t j. fewer e t c (takes_of o st e t c m.order.marks j) b j) (hb e c))

      abbrev whole-now : Whole (account_of p n past) (list_of p n o)
      whole-now = tied-whole (phase (mark_of n o)) (list_of p n o) (account_of p n past) (g.ties n named)

      -- nothing is closed directly inside for which something is due
      goes_on : (Q S : List (List ℕ)) → ((j : ℕ) → is_close p n j ≡ true → some (is_closed_of j) m.log ≡ true → back_of p j ≡ []) → Kept (Q ++ dues_at p n (list_of p n o)) S → Finished m.log Q S
      goes_on Q S c v = all_then p (all_known p h) n (taker-name n tk) (pl o st).last (there o st) (closing o st) past m.log Q S (list_of p n o) (fair-log m passed) c whole-now v

      -- the steps of an undo part that awaits its step are to come; its scope stands directly inside
      back-of : {P : Type 0} → is_back p n k ≡ true → ((u : ℕ) → is_close p n u ≡ true → some (eqb k) (left_at u o.marks) ≡ true → P) → P
      back-of b f = some-find (λ e. some (eqb k) (back_of p e)) (inside_of p n) b (λ u c i. f u c (own-left p h u k i o st w))

      -- as it was, where the step neither closes nor takes back
      same-held : HeldBut was.running
      same-held e c = go (was.held e c)
        where
          go : Held (left_at e o.marks) was.running → Held (without k (left_at e o.marks)) was.running
          go (held_none u) = held_none (λ t j. u t (some-less t k (left_at e o.marks) j))
          go (held_by before q after u sub) = held_by before q after u (record { at = λ t j. sub.at t (some-less t k (left_at e o.marks) j) })

      -- It takes back.
      takes_back : is_back p n k ≡ true → ((j : ℕ) → is_close p n j ≡ true → some (is_closed_of j) m.log ≡ true → back_of p j ≡ []) → (is_owed k d ≡ true) × (m.end ≡ None → Right m.order (taken_from k d))
      takes_back b c = back-of b (λ u i j. go u i j (was.held u i))
        where
          go : (u : ℕ) → is_close p n u ≡ true → some (eqb k) (left_at u o.marks) ≡ true → Held (left_at u o.marks) was.running → (is_owed k d ≡ true) × (m.end ≡ None → Right m.order (taken_from k d))
          go u i j (held_none f) = absurd (f k j)
          go u i j (held_by before q after e sub) = (
            kept-owed k (sub.at k j) now,
            finish (without k q ∷ after) (taken_from k d) (goes_on (without k q ∷ after) (taken_from k d) c (kept-taken k (sub.at k j) now)) held-so,
          )
            where
              now : Kept (q ∷ (after ++ dues_at p n (list_of p n o))) d
              now =
                  kept-after before
                  (subst (λ (l : List (List ℕ)). Kept l d) (ap (λ (l : List (List ℕ)). l ++ dues_at p n (list_of p n o)) e ∙ append_assoc before (q ∷ after) (dues_at p n (list_of p n o))) was.kept)

              -- one undo part at a time runs
              held-so : HeldBut (without k q ∷ after)
              held-so f v =
                  decide (eqb u f)
                  (λ x. held_by [] (without k q) after refl (record { at = λ t y. some-without t k q (sub.at t (subst (λ (z : ℕ). some (eqb t) (left_at z o.marks) ≡ true) (sym (eqb-true u f x)) (some-less t k (left_at f o.marks) y))) (less_other t k (left_at f o.marks) y) }))
                  (λ x. held_none (λ t y. eqb-false u f x (left-once p o.marks (mark_of n o) n p.body 0 (pl o st) u f k t (direct o st u i) (direct o st f v) j (some-less t k (left_at f o.marks) y))))

      -- The scope is open where one directly inside closes, so that nothing is to come of any undo part.
      calm : is_close p n k ≡ true → (e t : ℕ) → is_close p n e ≡ true → some (eqb t) (left_at e o.marks) ≡ true → ⊥
      calm c e t v i =
          left-undoes p o.marks (mark_of n o) n p.body 0 (pl o st) e t (direct o st e v) i (λ x q.
          not-both x (sym (open-live (mark_of n o) (subst (λ (q : Place). fits (seen (λ z. not (eqb (mark_of z o) idle)) q) o ≡ true) (there o st k c) (standing-fits p o k st w))) ∙ q))
        where
          not-both : (x : Bool) → live ≡ undoes x → ⊥
          not-both x z = let y : ◌≡◌ {A = ℕ} 0 1 = cc in omega arith

          open-live : (x : ℕ) → is_open x ≡ true → phase x ≡ live
          open-live x t = rw t

      calm-held : is_close p n k ≡ true → HeldBut []
      calm-held c e v = held_none (λ t i. calm c e t v (some-less t k (left_at e o.marks) i))

      not_back : is_close p n k ≡ true → is_back p n k ≡ false
      not_back c = decide (is_back p n k) (λ b. back-of b (λ u i j. absurd (calm c u k i j))) (λ b. b)

      pushed : Kept ([] ++ putting (back_of p k) (dues_at p n (list_of p n o))) (back_of p k ∷ d)
      pushed = kept_put (back_of p k) (kept-after was.running was.kept)

    -- A scope directly inside closes.
    module _ (k : ℕ) (o o' : Order) (past : List Event) (d : List (List ℕ)) (like : Alike p o o') (w : Awaited p o.marks k) (st : Standing p o) (g : HoldsAt p (moment_of p o) past) (was : Right o d)
        (c : is_close p n k ≡ true) where
      abbrev book : List (List ℕ)
      book = back_of p k ∷ d

      abbrev log : List Event
      log = (acted its_own p k o').log

      abbrev Closed : List Event → Type 0
      Closed l = Done p (all_known p h) n (taker-name n tk) (pl o st).last (there o st) (closing o st) past l [] book

      shut-once : (j : ℕ) → how_many (is_closed_of j) log ≤ wrote its_own j k
      shut-once j = acted-shut p j its_own k o' tt

      -- it has an undo part: its close is the first event, and there is no other
      with-undo : has_back p.body 0 k ≡ true → Closed log
      unfolding is_closed_of only fair_after
      with-undo b =
          let x = acted-first p k o' b in
          let f = fair-log its_own k o o' past d tt like w st g was (acted its_own p k o') (passed its_own k o o' past d tt like w st g was) in
          let f₁ : fair_after p past (closed k ∷ x.rest) ≡ true = subst (λ (l : List Event). fair_after p past l ≡ true) x.is f in
          subst Closed (sym x.is) (closed-so x.rest f₁ (λ j v i. none_more x j i))
        where
          none_more : (x : First (closed k) log) (j : ℕ) → some (is_closed_of j) x.rest ≡ true → back_of p j ≡ []
          none_more x j i =
              let a = some-many (is_closed_of j) x.rest i in
              let b : how_many (is_closed_of j) log ≡ how_many (is_closed_of j) (closed k ∷ x.rest) = ap (how_many (is_closed_of j)) x.is in
              let e = shut-once j in
              decide (eqb j k)
              (λ t. let z : how_many (is_closed_of j) (closed k ∷ x.rest) ≡ 1 + how_many (is_closed_of j) x.rest = rw (t) (omega arith) in let y : wrote its_own j k ≡ 1 = rw t in absurd (omega arith))
              (λ t. let z : how_many (is_closed_of j) (closed k ∷ x.rest) ≡ how_many (is_closed_of j) x.rest = rw (t) in let y : wrote its_own j k ≡ 0 = rw t in absurd (omega arith))

          closed-so : (l : List Event) → fair_after p past (closed k ∷ l) ≡ true → ((j : ℕ) → is_close p n j ≡ true → some (is_closed_of j) l ≡ true → back_of p j ≡ []) → Closed (closed k ∷ l)
          closed-so l f v =
              both (fair p past (closed k)) (fair_after p (closed k ∷ past) l) f (λ x y.
              let a = closing_then p (all_known p h) n (taker-name n tk) (pl o st).last (there o st) (closing o st) past [] book (list_of p n o)
              (whole-now its_own k o o' past d tt like w st g was) (kept-over (kept-after was.running was.kept)) k c x (pushed its_own k o o' past d tt like w st g was) in
              joined p (all_known p h) n (taker-name n tk) (pl o st).last (there o st) (closing o st) past (closed k) l [] book a
              (all_then p (all_known p h) n (taker-name n tk) (pl o st).last (there o st) (closing o st) (closed k ∷ past) l ([] ++ a.more) book a.left y v a.whole a.kept))

      -- it has none: nothing is due for it
      without-undo : has_back p.body 0 k ≡ false → Closed log
      without-undo b =
          goes_on its_own k o o' past d tt like w st g was [] book (λ j v i. only-k j i)
          (subst (λ (l : List ℕ). Kept ([] ++ putting l (dues_at p n (list_of p n o))) book) nothing-due (pushed its_own k o o' past d tt like w st g was))
        where
          nothing-due : back_of p k ≡ []
          nothing-due = go (back_of p k) refl
            where
              go : (l : List ℕ) → back_of p k ≡ l → back_of p k ≡ []
              go [] e = e
              go (x ∷ l) e = absurd (false≢true (sym b ∙ (located p h k x (ap (some (eqb x)) e ∙ first_member x l)).0))

          only-k : (j : ℕ) → some (is_closed_of j) log ≡ true → back_of p j ≡ []
          only-k j i =
              let a = some-many (is_closed_of j) log i in
              let e = shut-once j in
              decide (eqb j k)
              (λ t. ap (back_of p) (eqb-true j k t) ∙ nothing-due)
              (λ t. let y : wrote its_own j k ≡ 0 = rw t in absurd (omega arith))

      closes-right : (may_stack p n k d ≡ true) × ((acted its_own p k o').end ≡ None → Right (acted its_own p k o').order (stacked p n k d))
      unfolding may_stack stacked
      closes-right = (
        rw (not_back its_own k o o' past d tt like w st g was c),
        rw c (finish its_own k o o' past d tt like w st g was [] book (decide (has_back p.body 0 k) with-undo without-undo) (calm-held its_own k o o' past d tt like w st g was c)),
      )

    -- no closing directly inside with any other step
    none-closed : (actor : Actor) (k : ℕ) (o' : Order) → Fitting actor p k → (wrote actor k k ≡ 1 → is_close p n k ≡ false) → (j : ℕ) → is_close p n j ≡ true → some (is_closed_of j) (acted actor p k o').log ≡ true → back_of p j ≡ []
    none-closed its_own k o' f u j c i =
        let a = some-many (is_closed_of j) (acted its_own p k o').log i in
        let e = acted-shut p j its_own k o' f in
        decide (eqb j k)
        (λ t. absurd (false≢true (sym (u (rw (eq-eqb k k refl))) ∙ (ap (is_close p n) (sym (eqb-true j k t)) ∙ c))))
        (λ t. let y : wrote its_own j k ≡ 0 = rw t in absurd (omega arith))
    none-closed in_place k o' f u j c i = let a = some-many (is_closed_of j) (acted in_place p k o').log i in let e = acted-shut p j in_place k o' f in absurd (omega arith)

    acted-right : (actor : Actor) (k : ℕ) (o o' : Order) (past : List Event) (d : List (List ℕ)) → Fitting actor p k → Alike p o o' → Awaited p o.marks k → Standing p o → HoldsAt p (moment_of p o) past → Right o d
        → May actor k d × ((acted actor p k o').end ≡ None → Right (acted actor p k o').order (written actor k d))
    unfolding may_stack stacked
    acted-right its_own k o o' past d f like w st g was =
        decide (is_close p n k)
        (λ c. closes-right k o o' past d like w st g was c)
        (λ c. decide (is_back p n k)
        (λ b. let x = takes_back its_own k o o' past d f like w st g was b (none-closed its_own k o' f (λ _. c)) in (rw (b, x.0), rw (c, b) x.1))
        (λ b. (
          rw b,
          rw (c, b) (finish its_own k o o' past d f like w st g was was.running d (goes_on its_own k o o' past d f like w st g was was.running d (none-closed its_own k o' f (λ _. c)) was.kept)
              (same-held its_own k o o' past d f like w st g was)),
        )))
    acted-right in_place k o o' past d f like w st g was = (
      tt,
      finish in_place k o o' past d f like w st g was was.running d (goes_on in_place k o o' past d f like w st g was was.running d (none-closed in_place k o' f (λ x. absurd (omega arith))) was.kept)
          (same-held in_place k o o' past d f like w st g was),
    )

    -- What is judged: nothing is written down of the raises.
    judged-right : (b : List (List ℕ)) (i : ℕ) (past : List Event) (m : Moved) → Passed p past m → (m.end ≡ None → Right m.order b) → (judged i p m).end ≡ None → Right (judged i p m).order b
    unfolding judged
    judged-right b zero past m w q = q
    judged-right b (suc i) past m w q = go (λ m' w' q'. judged-right b i past m' w' q') m.end refl
      where
        Goes : Moved → Type 0
        Goes x = x.end ≡ None → Right x.order b

        on : ((m' : Moved) → Passed p past m' → Goes m' → Goes (judged i p m')) → m.end ≡ None → (v : Verdict) → OnClash (Higher p m.order) v → Goes (upon (judged i p) p m v)
        on f e clear c = q
        on f e (clash k) c =
            let s = passed-stands p past m e w in
            let l = onto m.log past in
            let m' = acted in_place p k m.order in
            f (following m.log m') (passed-joined p past m m' e w (passed-once p h in_place k m.order l c.0 s.0 s.1))
            (acted-right in_place k m.order m.order l b c.1 (alike-itself p m.order) c.0 s.0 s.1 (q e)).1

        go : ((m' : Moved) → Passed p past m' → Goes m' → Goes (judged i p m')) → (e : End) → m.end ≡ e
            → Goes (elim e [ None ↦ upon (judged i p) p m (conflict p m.order) | Well ↦ m | Handled ↦ m | Failed ↦ m | Left ↦ m ])
        go f None e = on f e (conflict p m.order) (conflict-awaited p m.order)
        go f Well e = q
        go f Handled e = q
        go f Failed e = q
        go f Left e = q

    step_right : (k : ℕ) (o o' : Order) (past : List Event) (d : List (List ℕ)) → Alike p o o' → Awaited p o.marks k → Standing p o → HoldsAt p (moment_of p o) past → Right o d
        → (may_stack p n k d ≡ true) × ((step_order p k o').end ≡ None → Right (step_order p k o').order (stacked p n k d))
    unfolding step_order settled
    step_right k o o' past d like w st g was =
        let r = acted-right its_own k o o' past d tt like w st g was in
        (r.0, judged-right (stacked p n k d) (spare p (acted its_own p k o').order) past (acted its_own p k o') (passed-once p h its_own k o' past (alike-awaited like k w) (alike-stands p o o' like st) (alike-holds like past g)) r.1)

    -- With an order that starts no undo part begins, and none has anything to come.
    start-closed : (j : ℕ) → some (is_closed_of j) (begun_order p).log ≡ false
    unfolding begun_order is_closed_of
    start-closed j = none-some (is_closed_of j) (begun_order p).log (begin-silent (is_closed_of j) (record { begins = λ k. refl; stops = λ k. refl; ends = λ k. refl }) p.body 0 no_order.marks)

    started-right : (past : List Event) → fair_after p past (started ∷ (begun_order p).log) ≡ true → Standing p (started_order p) → HoldsAt p (moment_of p (started_order p)) (onto (started ∷ (begun_order p).log) past) → Right (started_order p) []
    unfolding started_order no_order only dues_at fair_after is_begin
    started-right past f st g = record { running = []; kept = kept-none; held = λ e c. held_none (λ t i. nothing_left e t c i) }
      where
        begun-log : Done p (all_known p h) n (taker-name n tk) (pl (started_order p) st).last (there (started_order p) st) (closing (started_order p) st) (started ∷ past) (begun_order p).log [] []
        begun-log =
            both (fair p past started) (fair_after p (started ∷ past) (begun_order p).log) f (λ x y.
            all_then p (all_known p h) n (taker-name n tk) (pl (started_order p) st).last (there (started_order p) st) (closing (started_order p) st) (started ∷ past) (begun_order p).log [] [] [] y
            (λ j c i. absurd (false≢true (sym (start-closed j) ∙ i)))
            (decide (is_begin n started) (λ b. whole-begin p n past started b) (λ b. whole-start p n past started b refl)) kept-none)

        nothing_left : (e t : ℕ) → is_close p n e ≡ true → some (eqb t) (left_at e (started_order p).marks) ≡ true → ⊥
        nothing_left e t c i =
            let tks = takes_of (started_order p) st e t c (started_order p).marks i in
            decide (has_began (first p h e t tks) (begun_order p).log)
            (λ b. let y = close_of (started_order p) st e c in
            let z = its p h e t tks in
            let x = begun-log.begun y.its (its-of (started_order p) st e t c tks) (ap (λ (v : ℕ). has_began v (begun_order p).log) (ap (λ (v : Inner). v.undo) (same-scope e y z) ∙ z.undo) ∙ b) in
            kept-nothing x.before (back_of p y.its.number) (x.after ++ dues_at p n begun-log.left)
            (subst (λ (l : List (List ℕ)). Kept l []) (ap (λ (l : List (List ℕ)). l ++ dues_at p n begun-log.left) x.is ∙ append_assoc x.before (back_of p y.its.number ∷ x.after) (dues_at p n begun-log.left)) begun-log.kept))
            (λ b. start-fewer p h e t tks b i)

    keeping : Keeping (List (List ℕ))
    unfolding latest_first
    keeping =
        record {
          judge = latest_first p n;
          ok = may_stack p n;
          after = λ t e d. onward e (stacked p n t d);
          empty = [];
          none = λ d. refl;
          one = λ d x l a b. rw (a, b);
          over = λ t d. (refl, refl, refl, refl);
        }

    latest-first : (bytes : List ℕ) (next i : ℕ) → read_plan bytes ≡ found p next → (calls : List Call) (u : Tally) → latest_first p n [] (answered calls i (fresh bytes) u) ≡ true
    unfolding keeping latest_first
    latest-first bytes next i e calls u = fresh-noted p h (List (List ℕ)) keeping Right step_right started-right bytes next i e calls u

-- The answers alone, in every scope that takes back.
pub taken-back-latest-first : TakenBackLatestFirst
unfolding TakenBackLatestFirst load takers every
taken-back-latest-first bytes p next d calls slot u =
    subst (λ (f : Found Plan). every (λ n. latest_first p n [] (answered calls slot (loaded_as bytes f).state u)) (takers p) ≡ true) (sym d)
    (let h = promised p (accepted-is-within bytes d) in
    rw (latest-first p h root taker-root bytes next slot d calls u)
    (mapped (λ n. latest_first p n [] (answered calls slot (fresh bytes) u)) (only (λ x. x.undoes) (scopes_of p))
    (subst (λ (l : List Inner). every (λ x. latest_first p (inner x.number) [] (answered calls slot (fresh bytes) u)) (only (λ x. x.undoes) l) ≡ true) (sym (whole p h.body h.fault))
    (every-scope (λ j. latest_first p (inner j) [] (answered calls slot (fresh bytes) u)) p.body 0 root [] (λ j g. latest-first p h (inner j) (taker-inner j g) bytes next slot d calls u)))))
