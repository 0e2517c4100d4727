-- The history of every slot over any run breaks none of the statements. Assumes nothing.
use Prim.Native.Nat.{ℕ}
use mathlib.Core.Path.{◌≡◌, refl, sym, subst}
use mathlib.Core.Bool.{Bool, true, false, not, false≢true}
use mathlib.Core.List.{List, [], ◌∷◌, ◌++◌, map}
use lib.Dec.{eqb}
use Rattle.plan.specs.Tree.{Plan}
use Rattle.order.specs.declared.Order.{Order}
use Rattle.order.specs.declared.End.{End}
use Rattle.order.specs.Lists.{every, each, alike}
use Rattle.order.specs.State.{idle, Name, root, inner, mark_of, is_live}
use Rattle.order.specs.Event.{Event}
use Rattle.order.specs.Scope.{is_open}
use Rattle.machine.specs.Calls.{end_number, loaded}
use Rattle.undoing.specs.Demand3.{Inner, scopes_of, closings_of, undone_of, has_turned, is_left, may_turn, Demand3}
use Rattle.undoing.specs.Ties.{order_after, past_after, is_name, LiveTold, is_turned, MarksTold, remembered, ListsTold, StepsTold, FaultsTold, EndsTold, HandledBecause, PlacesTold, NeverStuck, GoingOn, NoneTwice}
use Rattle.undoing.proofs.Settling.{none-twice}
use Rattle.undoing.specs.Orderly.{Orderly, is_choice, ChoicesTold}
use Rattle.undoing.specs.Begun.{BegunAll, BegunInTurn}
use Rattle.undoing.specs.Entirely.{BegunTrulyEver, BegunOnce, BegunAfresh, BegunEntirely, LeftToFinish, LeftAlone, AwaitedTold, Chained, StoppedTold, AllGoOn}
use Rattle.undoing.specs.Onward.{KeptRunning, PassedOn, Decided}
use Rattle.undoing.specs.Standing.{Stands}
use Rattle.undoing.specs.UndoneRight.{same_bool, event_code, same_events, same_ends, names_of, mark_told, list_told, broken, UndoneRight}
use Rattle.undoing.proofs.Parts.{decide, every-so, alike-itself}
use Rattle.undoing.proofs.Accounts.{numbers-are-names}
use Rattle.undoing.proofs.Demanded as demanded
use Rattle.undoing.proofs.Told.{live-told, marks-told, lists-told, places-told}
use Rattle.undoing.proofs.Stepped.{steps-told}
use Rattle.undoing.proofs.Heeding.{faults-told}
use Rattle.undoing.proofs.Ending.{ends-told}
use Rattle.undoing.proofs.Because.{handled-because, choices-told}
use Rattle.undoing.proofs.BegunTold.{begun_all, begun-in-turn}
use Rattle.undoing.proofs.Awaiting.{never_stuck}
use Rattle.undoing.proofs.Going.{going_on}
use Rattle.undoing.proofs.Alone.{chained-told}
use Rattle.undoing.proofs.EntirelyTold.{begun-truly-ever, begun-entirely}
use Rattle.undoing.proofs.OnceOver.{begun-once}
use Rattle.undoing.proofs.AfreshTold.{begun-afresh}
use Rattle.undoing.proofs.NearTold.{left-to-finish}
use Rattle.undoing.proofs.AloneTold.{left_alone}
use Rattle.undoing.proofs.Moving.{kept-running, passed_on}
use Rattle.undoing.proofs.Deciding.{decided-told}
use Rattle.undoing.proofs.Firmly.{awaited-told}
use Rattle.undoing.proofs.Calming.{stopped-told}
use Rattle.undoing.proofs.Coming.{all-go-on}
use Rattle.undoing.proofs.Upright.{stands-told}

-- what is the same is found so
bools-same : (a b : Bool) → a ≡ b → same_bool a b ≡ true
bools-same true b e = sym e
bools-same false b e = rw (← e)

events-same : (l m : List Event) → l ≡ m → same_events l m ≡ true
events-same l m e = subst (λ (z : List Event). same_events l z ≡ true) e (alike-itself (each event_code l))

ends_same : (l m : List End) → l ≡ m → same_ends l m ≡ true
ends_same l m e = subst (λ (z : List End). same_ends l z ≡ true) e (alike-itself (map end_number l))

numbers-same : (l m : List ℕ) → l ≡ m → alike l m ≡ true
numbers-same l m e = subst (λ (z : List ℕ). alike l z ≡ true) e (alike-itself l)

-- a test of each name of the plan holds of the root and of each scope
every-name : (p : Plan) (f : Name → Bool) → ((n : Name) → is_name p n ≡ true → f n ≡ true) → every f (names_of p) ≡ true
unfolding names_of every
every-name p f h = rw (h root refl, inners (scopes_of p) (every-so (λ x. is_name p (inner x.number)) (λ x. f (inner x.number)) (λ x e. h (inner x.number) e) (scopes_of p) (numbers-are-names (scopes_of p))))
  where
    inners : (l : List Inner) → every (λ x. f (inner x.number)) l ≡ true → every f (map (λ x. inner x.number) l) ≡ true
    inners [] e = refl
    inners (x ∷ l) e = decide (f (inner x.number)) (λ t. rw (t, inners l (rw t at e))) (λ t. absurd (false≢true (rw t at e)))

module _ (p : Plan) (o : Order) (past : List Event) where
  mark-told : (n : Name) → (not (eqb (mark_of n o) idle) ≡ is_left n past) × (is_open (mark_of n o) ≡ may_turn n past) × (is_turned (mark_of n o) ≡ has_turned n past) → mark_told o past n ≡ true
  unfolding mark_told
  mark-told n h = rw (bools-same _ _ h.0, bools-same _ _ h.1, bools-same _ _ h.2)

  list-told : (n : Name) → (is_left n past ≡ true → closings_of p n past ≡ undone_of p n past ++ remembered n o) × (is_left n past ≡ false → remembered n o ≡ []) → list_told p o past n ≡ true
  unfolding list_told
  list-told n h =
      decide (is_left n past)
      (λ t. rw (t, h.0 t, alike-itself (undone_of p n past ++ remembered n o)))
      (λ t. rw (t, h.1 t, alike-itself []))

-- The one statement.
pub undone-right : UndoneRight
unfolding UndoneRight broken Demand3 Orderly FaultsTold StepsTold EndsTold HandledBecause BegunTrulyEver BegunAll BegunInTurn BegunOnce BegunAfresh BegunEntirely LeftToFinish LeftAlone KeptRunning PassedOn Decided AwaitedTold Chained LiveTold MarksTold ChoicesTold ListsTold PlacesTold GoingOn NeverStuck NoneTwice StoppedTold AllGoOn Stands
undone-right bytes p next e calls slot t =
    rw (
      demanded.demand3 bytes p next e calls slot t,
      demanded.orderly bytes p next e calls slot t,
      faults-told bytes p next e calls slot t,
      events-same _ _ (steps-told bytes p next e calls slot t),
      ends_same _ _ (ends-told bytes p next e calls slot t),
      numbers-same _ _ (handled-because bytes p next e calls slot t),
      begun-truly-ever bytes p next e calls slot t,
      begun_all bytes p next e calls slot t,
      begun-in-turn bytes p next e calls slot t,
      begun-once bytes p next e calls slot t,
      begun-afresh bytes p next e calls slot t,
      begun-entirely bytes p next e calls slot t,
      left-to-finish bytes p next e calls slot t,
      left_alone bytes p next e calls slot t,
      kept-running bytes p next e calls slot t,
      passed_on bytes p next e calls slot t,
      decided-told bytes p next e calls slot t,
      awaited-told bytes p next e calls slot t,
      chained-told bytes p next e calls slot t,
      bools-same _ _ (live-told bytes p next e calls slot t),
    )
    (decide (is_live o)
    (λ v. rw (
      v,
      every-name p (mark_told o past) (λ n i. mark-told p o past n (marks-told bytes p next e calls slot t v n i)),
      every-name p (is_choice p o past) (choices-told bytes p next e calls slot t v).0,
      (choices-told bytes p next e calls slot t v).1,
      every-name p (list_told p o past) (λ n i. list-told p o past n (lists-told bytes p next e calls slot t v n i)),
      places-told bytes p next e calls slot t v,
      going_on bytes p next e calls slot t v,
      never_stuck bytes p next e calls slot t v,
      none-twice bytes p next e calls slot t,
      stopped-told bytes p next e calls slot t v,
      all-go-on bytes p next e calls slot t v,
      stands-told bytes p next e calls slot t v,
    ))
    (λ v. rw v))
  where
    o : Order
    o = order_after calls slot (loaded bytes) t

    past : List Event
    past = past_after calls slot (loaded bytes) t
