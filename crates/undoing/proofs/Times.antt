-- What a step logs is what its times log, and the order after it is the one after the last. Assumes nothing.
use Prim.Native.Nat.{ℕ, zero, suc, ◌+◌}
use mathlib.Core.Path.{◌≡◌, refl, sym, ap, subst, ◌∙◌}
use mathlib.Core.List.{List, [], ◌∷◌, ◌++◌, append-nil, append_assoc}
use lib.ListN.{get_or}
use Rattle.plan.specs.Found.{Found, found}
use Rattle.plan.specs.Read.{read_plan}
use Rattle.plan.specs.Tree.{Plan}
use Rattle.plan.proofs.Limits.{accepted-is-within}
use Rattle.order.specs.declared.Order.{Order}
use Rattle.order.specs.declared.End.{End}
use Rattle.order.specs.declared.End.TheVariants.{None, Well, Handled, Failed, Left}
use Rattle.machine.specs.declared.Message.{Message}
use Rattle.machine.specs.declared.State.{State}
use Rattle.machine.specs.declared.Tally.{Tally}
use Rattle.order.specs.Lists.{each}
use Rattle.order.specs.State.{no_order}
use Rattle.machine.specs.State.{fresh}
use Rattle.order.specs.Event.{Event, started}
use Rattle.order.specs.Acting.{its_own, in_place, Moved, acted, begun_order, started_order}
use Rattle.order.specs.Judging.{Verdict, clear, clash, conflict, following, upon, judged, spare, settled, step_order}
use Rattle.machine.specs.Calls.{loaded_as, load, post, collect, drop_at, Stepped, step, Call, posting, collecting, dropping, stepping}
use Rattle.undoing.specs.History.{log_of}
use Rattle.undoing.specs.Ties.{state_after, tally_after}
use Rattle.undoing.specs.Begun.{Taken, raises_of, taken_by, last_of, TimesTold}
use Rattle.undoing.proofs.Orders.{onto}
use Rattle.undoing.proofs.Planning.{Promised, promised}
use Rattle.undoing.proofs.Slots.{standing-live, post-same, collect-same, drop-same, Sane, same-sane, fresh-sane}
use Rattle.undoing.proofs.Happening.{order_in, with_message, Happens, nothing-here, goes-here, starts-here, step-happens}
use Rattle.undoing.proofs.Demanded.{step_after}
use Rattle.undoing.proofs.BegunTold.{times, taken-goes, taken-starts}

-- what some times log
abbrev logs : List Taken → List Event
logs l = each (λ x. x.log) l

-- the times of the judging are told by the order and its end
raises-of : (n : ℕ) (p : Plan) (m m' : Moved) → m.end ≡ m'.end → m.order ≡ m'.order → raises_of n p m ≡ raises_of n p m'
unfolding raises_of
raises-of zero p m m' e d = refl
raises-of (suc n) p m m' e d = ap (λ (x : End). taken x m.order) e ∙ ap (λ (o : Order). taken m'.end o) d
  where
    taken : End → Order → List Taken
    taken x o =
        elim x [
          | None ↦ elim (conflict p o) [
            | clear ↦ []
            | clash k ↦ record { activity = k; before = o; after = (acted in_place p k o).order; log = (acted in_place p k o).log } ∷ raises_of n p (acted in_place p k o)
          ]
          | Well ↦ []
          | Handled ↦ []
          | Failed ↦ []
          | Left ↦ []
        ]

-- What is judged: its log, and the order after it.
abbrev Timed : (n : ℕ) → Plan → Moved → Type 0
Timed n p m = ((judged n p m).log ≡ m.log ++ logs (raises_of n p m)) × ((judged n p m).order ≡ last_of m.order (raises_of n p m))

judged-times : (n : ℕ) (p : Plan) (m : Moved) → Timed n p m
unfolding judged raises_of each last_of
judged-times zero p m = (sym (append-nil m.log), refl)
judged-times (suc n) p m = go (λ m'. judged-times n p m') m.end
  where
    still : (m.log ≡ m.log ++ []) × (m.order ≡ m.order)
    still = (sym (append-nil m.log), refl)

    on : ((m' : Moved) → Timed n p m') → (v : Verdict)
        → ((upon (judged n p) p m v).log
        ≡ m.log ++ logs (elim v [ clear ↦ [] | clash k ↦ record { activity = k; before = m.order; after = (acted in_place p k m.order).order; log = (acted in_place p k m.order).log } ∷ raises_of n p (acted in_place p k m.order) ]))
        × ((upon (judged n p) p m v).order
        ≡ last_of m.order (elim v [ clear ↦ [] | clash k ↦ record { activity = k; before = m.order; after = (acted in_place p k m.order).order; log = (acted in_place p k m.order).log } ∷ raises_of n p (acted in_place p k m.order) ]))
    on f clear = still
    on f (clash k) =
        let m₁ = acted in_place p k m.order in
        let m₂ = following m.log m₁ in
        let x = f m₂ in
        let s = raises-of n p m₂ m₁ refl refl in (
          x.0 ∙ (ap (λ (l : List Taken). (m.log ++ m₁.log) ++ logs l) s ∙ append_assoc m.log m₁.log (logs (raises_of n p m₁))),
          x.1 ∙ ap (last_of m₁.order) s,
        )

    go : ((m' : Moved) → Timed n p m') → (e : End)
        → ((elim e as (λ _. Moved) [ None ↦ upon (judged n p) p m (conflict p m.order) | Well ↦ m | Handled ↦ m | Failed ↦ m | Left ↦ m ]).log
        ≡ m.log ++ logs (elim e as (λ _. List Taken) [
          | None ↦ elim (conflict p m.order) as (λ _. List Taken) [ clear ↦ [] | clash k ↦ record { activity = k; before = m.order; after = (acted in_place p k m.order).order; log = (acted in_place p k m.order).log } ∷ raises_of n p (acted in_place p k m.order) ]
          | Well ↦ []
          | Handled ↦ []
          | Failed ↦ []
          | Left ↦ []
        ]))
        × ((elim e as (λ _. Moved) [ None ↦ upon (judged n p) p m (conflict p m.order) | Well ↦ m | Handled ↦ m | Failed ↦ m | Left ↦ m ]).order
        ≡ last_of m.order (elim e as (λ _. List Taken) [
          | None ↦ elim (conflict p m.order) as (λ _. List Taken) [ clear ↦ [] | clash k ↦ record { activity = k; before = m.order; after = (acted in_place p k m.order).order; log = (acted in_place p k m.order).log } ∷ raises_of n p (acted in_place p k m.order) ]
          | Well ↦ []
          | Handled ↦ []
          | Failed ↦ []
          | Left ↦ []
        ]))
    go f None = on f (conflict p m.order)
    go f Well = still
    go f Handled = still
    go f Failed = still
    go f Left = still

-- a step
step-times : (p : Plan) (t : ℕ) (o : Order) → let m = acted its_own p t o in
    ((step_order p t o).log ≡ m.log ++ logs (raises_of (spare p m.order) p m)) × ((step_order p t o).order ≡ last_of m.order (raises_of (spare p m.order) p m))
unfolding step_order settled
step-times p t o = judged-times (spare p (acted its_own p t o).order) p (acted its_own p t o)

module _ (p : Plan) (bytes : List ℕ) (next i : ℕ) (accepted : read_plan bytes ≡ found p next) (h : Promised p) where
  abbrev Told : State → Stepped → Type 0
  Told s r = (log_of i r ≡ logs (taken_by p i s r)) × (order_in r.state i ≡ last_of (order_in s i) (taken_by p i s r))

  pub happens-times : (s : State) (past : List Event) (r : Stepped) → Happens p i s past r → Told s r
  unfolding each last_of
  happens-times s past r (nothing-here n l e d) = (rw (n, l), rw (n, d))
  happens-times s past r (goes-here t m q w st k y l e d) =
      let x = step-times p t (with_message p t m (order_in s i)) in
      let z = taken-goes p h i s t m r (q.0, q.1, q.2) (standing-live p (order_in s i) st) in (
        l ∙ (x.0 ∙ ap logs (sym z)),
        d ∙ (x.1 ∙ ap (last_of (order_in s i)) (sym z)),
      )
  happens-times s past r (starts-here t m q w v n l e d) =
      let m₁ = acted its_own p t (with_message p t m (started_order p)) in
      let x = step-times p t (with_message p t m (started_order p)) in
      let z = taken-starts p h i s t m r (q.0, q.1, q.2) v in (
        l ∙ (ap (λ (g : List Event). (started ∷ (begun_order p).log) ++ g) x.0
            ∙ (sym (append_assoc (started ∷ (begun_order p).log) m₁.log (logs (raises_of (spare p m₁.order) p m₁))) ∙ ap logs (sym z))),
        d ∙ (x.1 ∙ ap (last_of (order_in s i)) (sym z)),
      )

  -- after any calls
  told : (calls : List Call) (s : State) (t : Tally) (past : List Event) (c : ℕ) → Sane p bytes next i accepted h s past
      → Told (state_after calls s t) (step c (state_after calls s t) (tally_after calls s t))
  unfolding state_after tally_after
  told [] s t past c g = happens-times s past (step c s t) (step-happens p bytes next i accepted h c s t past g).happens
  told (posting m ∷ l) s t past c g = told l (post m s).state t past c (same-sane p bytes next i accepted h s (post m s).state past (post-same m s) g)
  told (collecting ∷ l) s t past c g = told l (collect s).state t past c (same-sane p bytes next i accepted h s (collect s).state past (collect-same s) g)
  told (dropping j ∷ l) s t past c g = told l (drop_at j s).state t past c (same-sane p bytes next i accepted h s (drop_at j s).state past (drop-same j s) g)
  told (stepping v ∷ l) s t past c g =
      told l (step v s t).state (step v s t).tally (onto (log_of i (step v s t)) past) c (step_after p bytes next i accepted h v s t past g).1

-- A step is its times.
pub times-told : TimesTold
unfolding TimesTold load
times-told bytes p next e calls slot t c =
    subst (λ (f : Found Plan). let s = state_after calls (loaded_as bytes f).state t in
    let r = step c s (tally_after calls (loaded_as bytes f).state t) in
    (log_of slot r ≡ each (λ x. x.log) (taken_by p slot s r)) × (get_or r.state.orders slot no_order ≡ last_of (get_or s.orders slot no_order) (taken_by p slot s r))) (sym e)
    (let h = promised p (accepted-is-within bytes e) in told p bytes next slot e h calls (fresh bytes) t [] c (fresh-sane p bytes next slot e h))
