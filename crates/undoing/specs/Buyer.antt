-- Meaning: what demand 3 means to a buyer: corollaries, each a sentence. Assumes nothing: these are definitions.
use Rattle.std.specs.Prelude.{ℕ, ◌≡◌, Bool, true, false, ◌&&◌, List, [], ◌∷◌, length, leb, eqb}
use Rattle.plan.specs.Found.{found}
use Rattle.plan.specs.Read.{read_plan}
use Rattle.plan.specs.Tree.{Plan}
use Rattle.order.specs.declared.End.{End}
use Rattle.order.specs.declared.End.TheVariants.{None, Well, Handled, Failed, Left}
use Rattle.machine.specs.declared.Tally.{Tally}
use Rattle.order.specs.Lists.{every, some, only, alike, empties}
use Rattle.order.specs.State.{root}
use Rattle.order.specs.Event.{Event, started, began, closed, faulted, stopped, ended, raised, left}
use Rattle.machine.specs.Calls.{loaded, Call}
use Rattle.undoing.specs.History.{history}
use Rattle.undoing.specs.Demand3.{Inner, scopes_of, since, closings_of, runner_of, is_undo_part, undone_of}
use Rattle.undoing.specs.Ties.{end_told}
use Rattle.undoing.specs.Orderly.{is_began_of}

-- What holds of the history of every slot, for every accepted plan and every run of posts, collects and choices from a fresh start.
abbrev pub OfEvery : (Plan → List Event → Bool) → Type 0
OfEvery f =
    (bytes : List ℕ) (p : Plan) (next : ℕ) → read_plan bytes ≡ found p next → (calls : List Call) (slot : ℕ) (t : Tally) →
    f p (history calls slot (loaded bytes) t) ≡ true

-- how many events are such
abbrev pub how_many : (Event → Bool) → List Event → ℕ
how_many f l = length (only f l)

-- an event closes the scope with this number
unfoldable pub is_closed_of : (scope : ℕ) → Event → Bool
is_closed_of k started = false
is_closed_of k (began j) = false
is_closed_of k (closed j) = eqb k j
is_closed_of k (faulted n x) = false
is_closed_of k (stopped j) = false
is_closed_of k (ended n) = false
is_closed_of k (raised j x) = false
is_closed_of k left = false

-- For each closing of a scope its undo part starts at most once.
unfoldable pub AtMostOnce : Type 0
AtMostOnce = OfEvery (λ p l. every (λ x. leb (how_many (is_began_of (eqb x.undo)) l) (how_many (is_closed_of x.number) l)) (only (λ x. x.undoes) (scopes_of p)))

-- What is taken back was closed before, since the scope that takes it back last began.
abbrev pub was_closed : (past : List Event) → Inner → Bool
was_closed past x = some (is_closed_of x.number) (since (runner_of past x) past)

unfoldable pub closed_first : Plan → (past : List Event) → Event → Bool
closed_first p past started = true
closed_first p past (began k) = every (was_closed past) (only (is_undo_part k) (scopes_of p))
closed_first p past (closed k) = true
closed_first p past (faulted n x) = true
closed_first p past (stopped k) = true
closed_first p past (ended n) = true
closed_first p past (raised k x) = true
closed_first p past left = true

unfoldable pub closed_first_after : Plan → (past : List Event) → List Event → Bool
closed_first_after p past [] = true
closed_first_after p past (e ∷ l) = closed_first p past e && closed_first_after p (e ∷ past) l

unfoldable pub TakenBackWasClosed : Type 0
TakenBackWasClosed = OfEvery (λ p l. closed_first_after p [] l)

-- what holds where an order ends: of its end, and of what happened before
unfoldable pub at_ends : (End → (past : List Event) → Bool) → (past : List Event) → List Event → Bool
at_ends f past [] = true
at_ends f past (e ∷ l) = f (end_told (e ∷ past)) past && at_ends f (e ∷ past) l

-- An order that ended handled has taken back everything that closed directly inside its root.
abbrev pub all_back : Plan → End → (past : List Event) → Bool
all_back p None past = true
all_back p Well past = true
all_back p Handled past = alike (undone_of p root past) (closings_of p root past)
all_back p Failed past = true
all_back p Left past = true

unfoldable pub HandledTakesAllBack : Type 0
HandledTakesAllBack = OfEvery (λ p l. at_ends (all_back p) [] l)

-- So what closed in its root, looked through, was taken back by name: the undo part of every scope that has one, in however many scopes with none it stands, began in
-- this order at least as often as that scope is among what closed in the root. What scopes with no undo part hand on is not lost with them.
abbrev pub each_back : Plan → End → (past : List Event) → Bool
each_back p None past = true
each_back p Well past = true
each_back p Handled past =
    every (λ x. leb (length (only (eqb x.number) (closings_of p root past))) (how_many (is_began_of (eqb x.undo)) (since root past))) (only (λ x. x.undoes) (scopes_of p))
each_back p Failed past = true
each_back p Left past = true

unfoldable pub HandledTakesEachBack : Type 0
HandledTakesEachBack = OfEvery (λ p l. at_ends (each_back p) [] l)

-- An order that ended well has taken back nothing at its root.
abbrev pub none_back : Plan → End → (past : List Event) → Bool
none_back p None past = true
none_back p Well past = empties (undone_of p root past)
none_back p Handled past = true
none_back p Failed past = true
none_back p Left past = true

unfoldable pub WellTakesNothingBack : Type 0
WellTakesNothingBack = OfEvery (λ p l. at_ends (none_back p) [] l)
