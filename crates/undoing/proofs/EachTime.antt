-- What holds of each time that a step goes through its order, its own and those of the raises that follow, holds of all that any run takes. Assumes nothing.
use Prim.Native.Nat.{ℕ, zero, suc}
use mathlib.Core.Path.{◌≡◌, refl, sym, subst}
use mathlib.Core.Bool.{Bool, true, false}
use mathlib.Core.List.{List, [], ◌∷◌, ◌++◌}
use Rattle.plan.specs.Found.{Found, found}
use Rattle.plan.specs.Read.{read_plan}
use Rattle.plan.specs.Tree.{Plan}
use Rattle.plan.proofs.Limits.{accepted-is-within}
use Rattle.order.specs.declared.Order.{Order}
use Rattle.order.specs.declared.End.{End}
use Rattle.order.specs.declared.End.TheVariants.{None, Well, Handled, Failed, Left}
use Rattle.machine.specs.declared.Message.{Message}
use Rattle.machine.specs.declared.State.{State}
use Rattle.machine.specs.declared.Tally.{Tally}
use Rattle.order.specs.Lists.{every}
use Rattle.order.specs.State.{is_live}
use Rattle.machine.specs.State.{fresh}
use Rattle.order.specs.Event.{Event, started}
use Rattle.order.specs.Acting.{Moved, begun_order, started_order, Actor, its_own, in_place, acted}
use Rattle.order.specs.Judging.{Verdict, clear, clash, conflict, spare}
use Rattle.machine.specs.Calls.{loaded_as, load, post, collect, drop_at, Stepped, doing_at, step, Call, posting, collecting, dropping, stepping}
use Rattle.undoing.specs.History.{log_of}
use Rattle.undoing.specs.Demand3.{none_now}
use Rattle.undoing.specs.Begun.{Taken, raises_of, taken_by, steps_taken}
use Rattle.undoing.proofs.Parts.{every_append}
use Rattle.undoing.proofs.Orders.{moment_of, onto}
use Rattle.undoing.proofs.Moves.{HoldsAt}
use Rattle.undoing.proofs.Planning.{Promised, promised}
use Rattle.undoing.proofs.Roots.{Awaited, Standing, Passed}
use Rattle.undoing.proofs.Judged.{OnClash, Higher, conflict-awaited, passed-stands, passed-once}
use Rattle.undoing.proofs.Slots.{standing-live, Alike, alike-itself, taking-alike, alike-awaited, alike-stands, alike-holds, order-starts, post-same, collect-same, drop-same, Sane, same-sane, fresh-sane}
use Rattle.undoing.proofs.Happening.{order_in, with_message, Happens, nothing-here, goes-here, starts-here, step-happens}
use Rattle.undoing.proofs.Demanded.{step_after}
use Rattle.undoing.proofs.BegunTold.{times, taken-goes, taken-starts}

-- a time that a step goes through an order; and the first time of the order that starts with it
abbrev pub time : (t : ℕ) → Order → (before : List Event) → Moved → Taken
time t o l m = record { activity = t; before = o; after = m.order; log = l ++ m.log }

-- of every time in an order that stands, having taken its message or not; and of the first time of an order that starts
abbrev pub OfTimes : (p : Plan) → (Taken → Bool) → Type 0
OfTimes p f =
    (actor : Actor) (t : ℕ) (o o' : Order) (past : List Event) → Alike p o o' → Awaited p o.marks t → Standing p o → HoldsAt p (moment_of p o) past
    → f (time t o [] (acted actor p t o')) ≡ true

-- the order as it was, or having taken its message
pub data Took (p : Plan) (t : ℕ) (o : Order) : Order → Type 0 where
  took : (m : Message) → Took p t o (with_message p t m o)
  took-none : Took p t o o

abbrev pub OfTaking : (p : Plan) → (Taken → Bool) → Type 0
OfTaking p f =
    (actor : Actor) (t : ℕ) (o o' : Order) (past : List Event) → Took p t o o' → Alike p o o' → Awaited p o.marks t → Standing p o → HoldsAt p (moment_of p o) past
    → f (time t o [] (acted actor p t o')) ≡ true

abbrev pub OfStarts : (p : Plan) → (Taken → Bool) → Type 0
OfStarts p f =
    (t : ℕ) (m : Message) (o : Order) (past : List Event) → is_live o ≡ false → none_now past ≡ true → Awaited p (started_order p).marks t
    → f (time t o (started ∷ (begun_order p).log) (acted its_own p t (with_message p t m (started_order p)))) ≡ true

module _ (p : Plan) (h : Promised p) (f : Taken → Bool) (one : OfTaking p f) (first : OfStarts p f) where
  -- the raises of an order that is judged
  raises-each : (n : ℕ) (past : List Event) (m : Moved) → Passed p past m → every f (raises_of n p m) ≡ true
  unfolding raises_of every
  raises-each zero past m w = refl
  raises-each (suc n) past m w = go (λ past' m' w'. raises-each n past' m' w') m.end refl
    where
      on : ((past' : List Event) (m' : Moved) → Passed p past' m' → every f (raises_of n p m') ≡ true) → m.end ≡ None → (v : Verdict) → OnClash (Higher p m.order) v
          → every f (elim v [ clear ↦ [] | clash k ↦ time k m.order [] (acted in_place p k m.order) ∷ raises_of n p (acted in_place p k m.order) ]) ≡ true
      on g e clear c = refl
      on g e (clash k) c =
          let s = passed-stands p past m e w in
          rw (
            one in_place k m.order m.order (onto m.log past) took-none (alike-itself p m.order) c.0 s.0 s.1,
            g (onto m.log past) (acted in_place p k m.order) (passed-once p h in_place k m.order (onto m.log past) c.0 s.0 s.1),
          )

      go : ((past' : List Event) (m' : Moved) → Passed p past' m' → every f (raises_of n p m') ≡ true) → (e : End) → m.end ≡ e
          → every f (elim e [
            | None ↦ elim (conflict p m.order) [ clear ↦ [] | clash k ↦ time k m.order [] (acted in_place p k m.order) ∷ raises_of n p (acted in_place p k m.order) ]
            | Well ↦ []
            | Handled ↦ []
            | Failed ↦ []
            | Left ↦ []
          ]) ≡ true
      go g None e = on g e (conflict p m.order) (conflict-awaited p m.order)
      go g Well e = refl
      go g Handled e = refl
      go g Failed e = refl
      go g Left e = refl

  module _ (i : ℕ) where
    -- the times of a step
    happens-each : (s : State) (past : List Event) (r : Stepped) → Happens p i s past r → every f (taken_by p i s r) ≡ true
    unfolding every
    happens-each s past r (nothing-here n l e d) = rw n
    happens-each s past r (goes-here t m q x st c y l e d) =
        let o = order_in s i in
        let o' = with_message p t m o in
        let like = taking-alike p (doing_at p t) m o in
        subst (λ (l : List Taken). every f l ≡ true) (sym (taken-goes p h i s t m r (q.0, q.1, q.2) (standing-live p o st)))
        (rw (
          one its_own t o o' past (took m) like x st y,
          raises-each (spare p (acted its_own p t o').order) past (acted its_own p t o') (passed-once p h its_own t o' past (alike-awaited like t x) (alike-stands p o o' like st) (alike-holds like past y)),
        ))
    happens-each s past r (starts-here t m q x z n l e d) =
        let o' = with_message p t m (started_order p) in
        let l₀ = started ∷ (begun_order p).log in
        let like = taking-alike p (doing_at p t) m (started_order p) in
        let b = order-starts p h t past n x in
        subst (λ (l : List Taken). every f l ≡ true) (sym (taken-starts p h i s t m r (q.0, q.1, q.2) z))
        (rw (
          first t m (order_in s i) past z n x,
          raises-each (spare p (acted its_own p t o').order) (onto l₀ past) (acted its_own p t o')
              (passed-once p h its_own t o' (onto l₀ past) (alike-awaited like t x) (alike-stands p (started_order p) o' like b.1) (alike-holds like (onto l₀ past) b.2)),
        ))

    -- over any calls
    module _ (bytes : List ℕ) (next : ℕ) (accepted : read_plan bytes ≡ found p next) where
      all-each : (calls : List Call) (s : State) (t : Tally) (past : List Event) → Sane p bytes next i accepted h s past → every f (steps_taken p calls i s t) ≡ true
      unfolding steps_taken every
      all-each [] s t past g = refl
      all-each (posting m ∷ l) s t past g = all-each l (post m s).state t past (same-sane p bytes next i accepted h s (post m s).state past (post-same m s) g)
      all-each (collecting ∷ l) s t past g = all-each l (collect s).state t past (same-sane p bytes next i accepted h s (collect s).state past (collect-same s) g)
      all-each (dropping j ∷ l) s t past g = all-each l (drop_at j s).state t past (same-sane p bytes next i accepted h s (drop_at j s).state past (drop-same j s) g)
      all-each (stepping c ∷ l) s t past g =
          let r = step c s t in
          every_append f (taken_by p i s r) (steps_taken p l i r.state r.tally) (happens-each s past r (step-happens p bytes next i accepted h c s t past g).happens)
          (all-each l r.state r.tally (onto (log_of i r) past) (step_after p bytes next i accepted h c s t past g).1)

-- from a fresh start
pub each-taking : (f : Plan → Taken → Bool) → ((p : Plan) → Promised p → OfTaking p (f p)) → ((p : Plan) → Promised p → OfStarts p (f p))
    → (bytes : List ℕ) (p : Plan) (next : ℕ) → read_plan bytes ≡ found p next → (calls : List Call) (slot : ℕ) (t : Tally) → every (f p) (steps_taken p calls slot (load bytes).state t) ≡ true
unfolding load
each-taking f one first bytes p next e calls slot t =
    subst (λ (g : Found Plan). every (f p) (steps_taken p calls slot (loaded_as bytes g).state t) ≡ true) (sym e)
    (let h = promised p (accepted-is-within bytes e) in all-each p h (f p) (one p h) (first p h) slot bytes next e calls (fresh bytes) t [] (fresh-sane p bytes next slot e h))

-- where it makes no difference what was taken
pub each-time : (f : Plan → Taken → Bool) → ((p : Plan) → Promised p → OfTimes p (f p)) → ((p : Plan) → Promised p → OfStarts p (f p))
    → (bytes : List ℕ) (p : Plan) (next : ℕ) → read_plan bytes ≡ found p next → (calls : List Call) (slot : ℕ) (t : Tally) → every (f p) (steps_taken p calls slot (load bytes).state t) ≡ true
each-time f one first = each-taking f (λ p h actor t o o' past w. one p h actor t o o' past) first
