-- A step of one order, from the root: what it logs is right, and the order stands after it or is over. Assumes nothing.
use Prim.Native.Nat.{ℕ, ◌+◌, ◌≤◌, ◌<◌}
use native.Mathlib.Omega.{arith}
use mathlib.Core.Path.{◌≡◌, refl, sym, ap, subst, ◌∙◌}
use mathlib.Core.Bool.{Bool, true, false, cond, false≢true}
use mathlib.Core.List.{List, [], ◌∷◌}
use lib.ListN.{length}
use lib.Dec.{eqb, ltb}
use borrow.Author.Tests.{eqb-true, eqb-false, lt-ltb, le-ltb}
use Rattle.plan.specs.Tree.{none, more, Plan, size}
use Rattle.order.specs.declared.Order.{Order}
use Rattle.order.specs.declared.End.{End}
use Rattle.order.specs.declared.End.TheVariants.{None, Well, Handled, Failed, Left}
use Rattle.order.specs.State.{Name, root, inner, done, halted, withdrawing, choice_in, mark_of, no_order}
use Rattle.order.specs.Event.{Event, started, began, closed, faulted, stopped, ended, raised, left}
use Rattle.order.specs.Begin.{part, part_at}
use Rattle.order.specs.declared.Way.{Way as Result}
use Rattle.order.specs.declared.Way.TheVariants.{Running as running, Over as over, Raising as raising, Leaving as leaving, Undone as undone, UndoRaising as undo_raising}
use Rattle.order.specs.Scope.{Outcome, Scope, root_of, chosen_part, chosen_at, from_body, from_fault}
use Rattle.order.specs.Acting.{Actor, step_in, step_root, end_of, Moved, moved_to, acted}
use Rattle.undoing.specs.Demand3.{closings_of, undone_of, none_now, is_over}
use Rattle.undoing.specs.Ties.{fault_of, end_told}
use Rattle.undoing.specs.Standing.{choice_on}
use Rattle.undoing.proofs.Accounts.{Phase, live, waits, heals, phase}
use Rattle.undoing.proofs.Moves.{HoldsAt, tied_at, root-well, root-unturned}
use Rattle.undoing.proofs.Marks.{Quiet, quiet-part, Nth, nth_here, nth-later, turned-waits, turned-undoes, turned-heals}
use Rattle.undoing.proofs.Orders.{ends_turned, older, moment_of, fair_after, onto, Does, does-then, Remedy}
use Rattle.undoing.proofs.Remedies.{chosen-most, choice-on}
use Rattle.undoing.proofs.Seats.{Seat, inside-rest, quiet-inner}
use Rattle.undoing.proofs.Waiting.{Waits, quiet-waits}
use Rattle.undoing.proofs.Scoping.{Acted, RunAs, scope_live, scope-done, scope-turned, Turning, Running, StepsAs, Steps, Reach, waits-mark, undoes-mark, from-live, from-stopped, from-undoing, from-heals}
use Rattle.undoing.proofs.Stepping.{awake-first, steps, steps-stopped, steps-undoing, steps-part}

-- activity t of the root's body or fault part awaits its step
pub data Awaited (p : Plan) (ms : List ℕ) (t : ℕ) : Type 0 where
  in-body : t < size p.body → Waits ms p.body 0 t false → Awaited p ms t
  in-fault : size p.body ≤ t → Waits ms p.fault (size p.body) t false → Awaited p ms t

-- an order that runs
pub record Standing (p : Plan) (o : Order) : Type 0 where
  pub many : size p.body + size p.fault ≤ length o.marks
  pub runs : Running (root_of p) o.marks o.root
  pub going : o.root ≡ done → ⊥

-- the definition, by where the step is
pub root_is : (actor : Actor) (p : Plan) (t : ℕ) (o : Order) (b : Bool) → ltb t (size p.body) ≡ b
    → step_root actor p t o ≡ elim b [ true ↦ from_body (root_of p) (step_in actor p.body 0 0 t o) | false ↦ from_fault (root_of p) (step_in actor p.fault (size p.body) (size p.body) t o) ]
unfolding step_root
root_is actor p t o b e =
    subst (λ (z : Bool). step_root actor p t o ≡ elim z [ true ↦ from_body (root_of p) (step_in actor p.body 0 0 t o) | false ↦ from_fault (root_of p) (step_in actor p.fault (size p.body) (size p.body) t o) ]) e refl

-- the numbers of the root
root-reach : (p : Plan) → Reach (root_of p)
unfolding size
root-reach p = record { start = omega arith; lone = λ i x y. absurd (omega arith); end = omega arith; owns = tt }

-- it has the one fault part
pub root-fault : {p : Plan} (h : Seat p (root_of p)) → Remedy p (fault_of root h.beyond h.around) p.fault (size p.body)
unfolding chosen_part chosen_at
root-fault h = h.fault 0

pub choice-none : (m : ℕ) → choice_on [] m ≡ 0
choice-none m = choice-on [] m (choice_in m) refl ∙ omega (arith, chosen-most [] (choice_in m))

-- weaker: what turned runs
weaker : {p : Plan} {s : Scope} {o : Order} {r : Outcome} → Steps p s (Turning s) o r → Steps p s (Running s) o r
weaker {p} {s} {o} {r} v = record { apart = v.apart; comes = go r.result v.comes }
  where
    go : (x : Result) → StepsAs p s (Turning s) o r.log r.order x → StepsAs p s (Running s) o r.log r.order x
    go running c = (scope-turned c.0, c.1)
    go over c = c
    go (raising x) c = c
    go leaving c = c
    go undone c = c
    go (undo_raising x) c = c

module _ (p : Plan) (actor : Actor) (h : Seat p (root_of p)) where
  -- its fault part has its step
  root-heals : (i t : ℕ) (o : Order) → i ≡ 0 → Waits o.marks p.fault (size p.body) t false → Nth o.marks i (more p.fault none) (size p.body) → phase o.root ≡ heals
      → size p.body + size p.fault ≤ length o.marks
      → Acted (part_at i (more p.fault none) (size p.body)) (size (part i (more p.fault none))) o
      (RunAs p (part i (more p.fault none)) (part_at i (more p.fault none) (size p.body)) t o) (step_in actor p.fault (size p.body) (size p.body) t o)
  unfolding part part_at
  root-heals i t o e w (nth_here r q) v m = steps-part p actor (root-fault h) (size p.body) t o false tt w refl r v m
  root-heals i t o e w (nth-later q r) v m = absurd (omega arith)

  pub root-steps : (t : ℕ) (o : Order) → Awaited p o.marks t → Standing p o → (o.root ≡ halted → ⊥) → (o.root ≡ withdrawing → ⊥)
      → Steps p (root_of p) (Running (root_of p)) o (step_root actor p t o)
  unfolding size
  root-steps t o (in-body e w) st x y =
      subst (λ (r : Outcome). Steps p (root_of p) (Running (root_of p)) o r) (sym (root_is actor p t o true (lt-ltb t (size p.body) e))) (go st.runs)
    where
      m : size p.body + size p.fault ≤ length o.marks
      m = st.many

      no_stop : (a : Bool) → a ≡ false → phase o.root ≡ waits a → ⊥
      no_stop a d q = x (eqb-true o.root halted ((waits-mark o.root q).1 ∙ rw d))

      no-withdrawal : (a : Bool) → a ≡ false → phase o.root ≡ Phase.undoes a → ⊥
      no-withdrawal a d q = y (eqb-true o.root withdrawing ((undoes-mark o.root q).1 ∙ rw d))

      go : Running (root_of p) o.marks o.root → Steps p (root_of p) (Running (root_of p)) o (from_body (root_of p) (step_in actor p.body 0 0 t o))
      go (scope_live d r q) =
          from-live p (root_of p) t o (step_in actor p.body 0 0 t o) h d q (omega (arith, m)) (steps p actor h.body 0 t o false h.at w refl r (ap phase d) (omega (arith, m)))
      go (scope-done d q z) = absurd (st.going d)
      go (scope-turned (turned-waits {w = a} q z _ v)) =
          weaker (from-stopped p a (root_of p) o (step_in actor p.body 0 0 t o) h (λ d. absurd (no_stop a d q)) q v (omega (arith, m)) (steps-stopped p actor h.body 0 t o false h.at w refl z (omega (arith, m))))
      go (scope-turned (turned-undoes {w = a} q z v)) =
          weaker (from-undoing p a (root_of p) t o (step_in actor p.body 0 0 t o) h (root-reach p) (λ d. absurd (no-withdrawal a d q)) q v (omega (arith, m))
          (steps-undoing p actor h.body 0 t o false h.at w refl z root (awake-first p actor (λ n. mark_of n o) root h.beyond a q)
          (a, ap (λ (n : Name). phase (mark_of n o)) (awake-first p actor (λ n. mark_of n o) root h.beyond a q) ∙ q) (omega (arith, m))))
      go (scope-turned (turned-heals q z v)) = absurd (quiet-waits w refl z)
  root-steps t o (in-fault e w) st x y =
      subst (λ (r : Outcome). Steps p (root_of p) (Running (root_of p)) o r) (sym (root_is actor p t o false (le-ltb t (size p.body) e))) (go st.runs)
    where
      m : size p.body + size p.fault ≤ length o.marks
      m = st.many

      go : Running (root_of p) o.marks o.root → Steps p (root_of p) (Running (root_of p)) o (from_fault (root_of p) (step_in actor p.fault (size p.body) (size p.body) t o))
      go (scope_live d r q) = absurd (quiet-waits w refl (quiet-part q (omega arith) (omega arith)))
      go (scope-done d q z) = absurd (st.going d)
      go (scope-turned (turned-waits q z _ v)) = absurd (quiet-waits w refl (quiet-part v (omega arith) (omega arith)))
      go (scope-turned (turned-undoes q z v)) = absurd (quiet-waits w refl (quiet-part v (omega arith) (omega arith)))
      go (scope-turned (turned-heals q z v)) =
          weaker (from-heals p (root_of p) t o (step_in actor p.fault (size p.body) (size p.body) t o) h (root-reach p) q z v (omega (arith, m))
          (root-heals (choice_on [] o.root) t o (choice-none o.root) w v q m))

-- an end
abbrev is_some : End → Bool
is_some None = false
is_some Well = true
is_some Handled = true
is_some Failed = true
is_some Left = true

-- the newest event, where the history tells of an end, ends the order
told_over : (past : List Event) → is_some (end_told past) ≡ true → none_now past ≡ true
unfolding end_told none_now is_over
told_over [] h = absurd (false≢true h)
told_over (started ∷ past) h = absurd (false≢true h)
told_over (began k ∷ past) h = absurd (false≢true h)
told_over (closed k ∷ past) h = absurd (false≢true h)
told_over (faulted n x ∷ past) h = absurd (false≢true h)
told_over (stopped k ∷ past) h = absurd (false≢true h)
told_over (ended root ∷ past) h = refl
told_over (ended (inner k) ∷ past) h = absurd (false≢true h)
told_over (raised k x ∷ past) h = absurd (false≢true h)
told_over (left ∷ past) h = refl

turned-over : (past : List Event) → ends_turned past ≡ true → none_now past ≡ true
unfolding ends_turned none_now is_over
turned-over [] h = absurd (false≢true h)
turned-over (started ∷ past) h = absurd (false≢true h)
turned-over (began k ∷ past) h = absurd (false≢true h)
turned-over (closed k ∷ past) h = absurd (false≢true h)
turned-over (faulted n x ∷ past) h = absurd (false≢true h)
turned-over (stopped k ∷ past) h = absurd (false≢true h)
turned-over (ended root ∷ past) h = refl
turned-over (ended (inner k) ∷ past) h = absurd (false≢true h)
turned-over (raised k x ∷ past) h = absurd (false≢true h)
turned-over (left ∷ past) h = absurd (false≢true h)

-- what is known of the newest event where an order has ended so
abbrev pub EndedAs : Plan → End → List Event → Type 0
EndedAs p None past = ⊥
EndedAs p Well past = (end_told past ≡ Well) × (undone_of p root (older past) ≡ [])
EndedAs p Handled past = (ends_turned past ≡ true) × (undone_of p root (older past) ≡ closings_of p root (older past))
EndedAs p Failed past = ends_turned past ≡ true
EndedAs p Left past = end_told past ≡ Left

-- so that there is none now
pub ended-now : (p : Plan) (e : End) (past : List Event) → EndedAs p e past → none_now past ≡ true
ended-now p None past h = absurd h
ended-now p Well past h = told_over past (ap is_some h.0)
ended-now p Handled past h = turned-over past h.0
ended-now p Failed past h = turned-over past h
ended-now p Left past h = told_over past (ap is_some h)

-- what a step of an order leaves: an order that stands, or none
pub data Passed (p : Plan) (past : List Event) (m : Moved) : Type 0 where
  passes_on : fair_after p past m.log ≡ true → m.end ≡ None → Standing p m.order → HoldsAt p (moment_of p m.order) (onto m.log past) → Passed p past m
  passes-end : fair_after p past m.log ≡ true → m.order ≡ no_order → EndedAs p m.end (onto m.log past) → Passed p past m

module _ (p : Plan) (actor : Actor) (h : Seat p (root_of p)) where
  -- the root's body is done
  does-well : (o : Order) → o.root ≡ done → Quiet o.marks 0 (size p.body) → Does p Well o (ended root ∷ []) no_order
  unfolding fair_after end_told
  does-well o e q =
      record { does = λ past x. (rw (root-well p (moment_of p o) (moment_of p o) past x (ap phase e) (inside-rest p (root_of p) o h (quiet-inner p.body 0 q))), (rw (root-unturned p (moment_of p o) (moment_of p o) past x (ap phase e)), (tied_at p (moment_of p o) (moment_of p o) past x live root refl (ap phase e)).2)) }

  -- a root that is done has a quiet body
  pub done-quiet : (ms : List ℕ) (m : ℕ) → m ≡ done → Running (root_of p) ms m → Quiet ms 0 (size p.body)
  done-quiet ms m e (scope_live d r q) = absurd (let z : ◌≡◌ {A = ℕ} 1 3 = sym d ∙ e in omega arith)
  done-quiet ms m e (scope-done d r q) = r
  done-quiet ms m e (scope-turned (turned-waits {w = a} d r _ q)) = absurd (let z : live ≡ waits a = sym (ap phase e) ∙ d in let x : ◌≡◌ {A = ℕ} 0 1 = cc in omega arith)
  done-quiet ms m e (scope-turned (turned-undoes {w = a} d r q)) = absurd (let z : live ≡ Phase.undoes a = sym (ap phase e) ∙ d in let x : ◌≡◌ {A = ℕ} 0 1 = cc in omega arith)
  done-quiet ms m e (scope-turned (turned-heals d r q)) = absurd (let z : live ≡ heals = sym (ap phase e) ∙ d in let x : ◌≡◌ {A = ℕ} 0 1 = cc in omega arith)

  -- a step of an order that stands
  pub order-steps : (t : ℕ) (o : Order) (past : List Event) → Awaited p o.marks t → Standing p o → (o.root ≡ halted → ⊥) → (o.root ≡ withdrawing → ⊥)
      → HoldsAt p (moment_of p o) past → Passed p past (acted actor p t o)
  unfolding acted end_of moved_to
  order-steps t o past w st x y g = go r.result v.comes
    where
      r : Outcome
      r = step_root actor p t o

      v : Steps p (root_of p) (Running (root_of p)) o r
      v = root-steps p actor h t o w st x y

      by-done : Running (root_of p) r.order.marks r.order.root → Does p None o r.log r.order → (b : Bool) → eqb r.order.root done ≡ b
          → Passed p past (moved_to (record { result = running; order = r.order; log = r.log }) (cond b Well None))
      by-done c d true e =
          let z = does-then d (does-well r.order (eqb-true r.order.root done e) (done-quiet r.order.marks r.order.root (eqb-true r.order.root done e) c)) in
          passes-end (z.does past g).0 refl (z.does past g).1
      by-done c d false e =
          passes_on (d.does past g).0 refl (record { many = omega (arith, st.many, v.apart.many); runs = c; going = eqb-false r.order.root done e }) (d.does past g).1

      go : (z : Result) → StepsAs p (root_of p) (Running (root_of p)) o r.log r.order z
          → Passed p past (moved_to (record { result = z; order = r.order; log = r.log }) (end_of (record { result = z; order = r.order; log = r.log })))
      go running c = by-done c.0 c.1 (eqb r.order.root done) refl
      go over c = passes-end (c.3.does past g).0 refl (c.3.does past g).1
      go (raising x) c = passes-end (c.3.does past g).0 refl (c.3.does past g).1
      go leaving c = passes-end (c.does past g).0 refl (c.does past g).1
      go undone c = absurd c
      go (undo_raising x) c = absurd c
