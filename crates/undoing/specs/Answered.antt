-- Meaning: what is taken back, told by the answers of the steps taken alone (which activity had its step, and how the order ended): with no log in it, and
-- nothing of what stands in a slot. This is what a buyer can check from outside. Assumes nothing: these are definitions.
use Rattle.std.specs.Prelude.{ℕ, ◌+◌, ◌≡◌, Bool, true, false, cond, not, ◌&&◌, List, [], ◌∷◌, ◌++◌, length, ltb, eqb}
use Rattle.plan.specs.Found.{found}
use Rattle.plan.specs.Read.{read_plan}
use Rattle.plan.specs.Tree.{Own, empty, send, receive, set as setting, raise, leave, choose, repeat, sequence, flow, pick, scope, arm, is_scope, numbers_of, undo_part, Act, act, Acts, none, more, Plan, size}
use Rattle.order.specs.declared.End.{End}
use Rattle.order.specs.declared.End.TheVariants.{None, Well, Handled, Failed, Left}
use Rattle.machine.specs.declared.State.{State}
use Rattle.machine.specs.declared.Step.{Step}
use Rattle.machine.specs.declared.Tally.{Tally}
use Rattle.order.specs.Lists.{every, some, only, empties}
use Rattle.order.specs.State.{Name, root}
use Rattle.order.specs.Begin.{part, part_at}
use Rattle.machine.specs.Calls.{loaded, post, collect, drop_at, Stepped, step, Call, posting, collecting, dropping, stepping}
use Rattle.undoing.specs.Demand3.{inside_of}
use Rattle.undoing.specs.Ties.{is_taken}

-- The sure steps of an activity: those that it has once each, whenever it runs from its beginning to its end. Of a send, a receive, a set, a raise, a leave and a
-- choose that is its own; of a sequence and of a flow those of all that stands in it. What a choose, a repeat or a pick lets run may run or not, or often.
unfoldable pub is_sure : Own → Bool
is_sure empty = false
is_sure (send p op vs) = true
is_sure (receive p op vs) = true
is_sure (setting v e) = true
is_sure (raise n) = true
is_sure leave = true
is_sure (choose e) = true
is_sure (repeat e) = false
is_sure sequence = false
is_sure flow = false
is_sure pick = false
is_sure (scope ns undo) = false
is_sure (arm p op vs) = false

-- whether all that stands in an activity runs with it
unfoldable pub has_all : Own → Bool
has_all empty = false
has_all (send p op vs) = false
has_all (receive p op vs) = false
has_all (setting v e) = false
has_all (raise n) = false
has_all leave = false
has_all (choose e) = false
has_all (repeat e) = false
has_all sequence = true
has_all flow = true
has_all pick = false
has_all (scope ns undo) = false
has_all (arm p op vs) = false

unfoldable mutual
  pub surely : Act → (k : ℕ) → List ℕ
  surely (act own within) k = elim (is_sure own) [ true ↦ k ∷ [] | false ↦ elim (has_all own) [ true ↦ surely_among within (k + 1) | false ↦ [] ] ]

  pub surely_among : Acts → (c : ℕ) → List ℕ
  surely_among none c = []
  surely_among (more a l) c = surely a c ++ surely_among l (c + size a)

-- the sure steps of the undo part of scope e, which stands in activity k: those that take e back
unfoldable mutual
  pub back_in : Act → (k e : ℕ) → List ℕ
  back_in (act own within) k e =
      elim (is_scope own && eqb k e) [ true ↦ surely (part (undo_part (numbers_of own)) within) (part_at (undo_part (numbers_of own)) within (k + 1)) | false ↦ back_among within (k + 1) e ]

  pub back_among : Acts → (c e : ℕ) → List ℕ
  back_among none c e = []
  back_among (more a l) c e = elim (ltb e (c + size a)) [ true ↦ back_in a c e | false ↦ back_among l (c + size a) e ]

unfoldable pub back_of : Plan → (scope : ℕ) → List ℕ
back_of p e = back_in p.body 0 e

-- whether t is the close of a scope directly inside n; whether it takes one of them back
abbrev pub is_close : Plan → Name → (t : ℕ) → Bool
is_close p n t = some (λ x. eqb x.number t) (inside_of p n)

abbrev pub is_back : Plan → Name → (t : ℕ) → Bool
is_back p n t = some (λ x. some (eqb t) (back_of p x.number)) (inside_of p n)

-- What a buyer writes down of an order: for each closing of a scope directly inside a scope, the latest first, the steps that are still due to take it back; and
-- whether taking back has begun.
-- Of a scope with no undo part nothing is due by its own closing, and what it hands on is not in this book: that is taken back by the scope around it, or by the scope
-- itself where it faults, and which of the two, and whether it broke and forgot the rest, no answer tells. Looked through (closings_of in Demand3) it is said over
-- the history: HandledTakesAllBack and HandledTakesEachBack in Buyer.
pub record Book : Type 0 where
  pub due : List (List ℕ)
  pub begun : Bool

abbrev pub nothing_due : Book
nothing_due = record { due = []; begun = false }

-- a closing of which nothing is due is not in the book
abbrev pub putting : List ℕ → List (List ℕ) → List (List ℕ)
putting [] d = d
putting (t ∷ b) d = (t ∷ b) ∷ d

abbrev pub without : (t : ℕ) → List ℕ → List ℕ
without t l = only (λ e. not (eqb t e)) l

-- step t is due: "once for each closing, latest first", so it is one of those of the latest closing that is not taken back
abbrev pub is_due : (t : ℕ) → List (List ℕ) → Bool
is_due t [] = false
is_due t (b ∷ d) = some (eqb t) b

-- and it is due no longer
abbrev pub paid : (t : ℕ) → List (List ℕ) → List (List ℕ)
paid t [] = []
paid t (b ∷ d) = putting (without t b) d

-- step t is answered: a closing makes due what takes it back, and a step that takes back is due no longer
unfoldable pub noted : Plan → Name → (t : ℕ) → Book → Book
noted p n t a =
    cond (is_close p n t) (record { due = putting (back_of p t) a.due; begun = a.begun })
    (cond (is_back p n t) (record { due = paid t a.due; begun = true })
    a)

-- "No undo part starts otherwise": what takes back is answered only where it is due. And nothing closes once taking back has begun.
unfoldable pub may_note : Plan → Name → (t : ℕ) → Book → Bool
may_note p n t a = cond (is_close p n t) (not a.begun) (cond (is_back p n t) (is_due t a.due) true)

-- An order that ended well has taken back nothing; one that ended handled has taken back all. One that failed, by a raise in an undo part or in the root's fault
-- part, may have more to take back, and so may one that left.
unfoldable pub settles : End → Book → Bool
settles None a = true
settles Well a = not a.begun
settles Handled a = empties a.due
settles Failed a = true
settles Left a = true

-- the next order in the slot has a book of its own
abbrev pub turned : End → Book → Book
turned None a = a
turned Well a = nothing_due
turned Handled a = nothing_due
turned Failed a = nothing_due
turned Left a = nothing_due

-- the answers in a slot, oldest first, where this stands in the book: each is as it may be
unfoldable pub in_order : Plan → Book → List Step → Bool
in_order p a [] = true
in_order p a (x ∷ l) =
    let b = noted p root x.activity a in
    may_note p root x.activity a && (settles x.end b && in_order p (turned x.end b) l)

-- the answers of the steps taken in a slot with these calls, oldest first
unfoldable pub answered : List Call → (slot : ℕ) → State → Tally → List Step
answered [] i s t = []
answered (posting m ∷ l) i s t = answered l i (post m s).state t
answered (collecting ∷ l) i s t = answered l i (collect s).state t
answered (dropping j ∷ l) i s t = answered l i (drop_at j s).state t
answered (stepping c ∷ l) i s t = let r = step c s t in cond (is_taken i r) (r.answer ∷ []) [] ++ answered l i r.state r.tally

-- What closed directly inside the root and has an undo part is taken back once for each closing, the latest first: all of it where the order ended handled, nothing
-- where it ended well, and never what is not due. For every accepted plan, every run of posts, collects and choices from a fresh start, and every slot.
unfoldable pub TakenBackOnce : Type 0
TakenBackOnce =
    (bytes : List ℕ) (p : Plan) (next : ℕ) → read_plan bytes ≡ found p next → (calls : List Call) (slot : ℕ) (t : Tally) →
    in_order p nothing_due (answered calls slot (loaded bytes) t) ≡ true

-- In numbers: in an order that ended handled each step that takes a scope directly inside the root back was answered as often as that scope closed, and in one
-- that ended well never.

-- how often a step is one of these
abbrev pub often_in : (t : ℕ) → List ℕ → ℕ
often_in t l = length (only (eqb t) l)

unfoldable pub as_often : Plan → End → (steps : List ℕ) → Bool
as_often p None ks = true
as_often p Well ks = every (λ x. every (λ t. eqb (often_in t ks) 0) (back_of p x.number)) (inside_of p root)
as_often p Handled ks = every (λ x. every (λ t. eqb (often_in t ks) (often_in x.number ks)) (back_of p x.number)) (inside_of p root)
as_often p Failed ks = true
as_often p Left ks = true

-- the steps of an order so far, the newest first: those of the next one in the slot are its own
abbrev pub going_on : End → List ℕ → List ℕ
going_on None ks = ks
going_on Well ks = []
going_on Handled ks = []
going_on Failed ks = []
going_on Left ks = []

unfoldable pub each_as_often : Plan → (steps : List ℕ) → List Step → Bool
each_as_often p ks [] = true
each_as_often p ks (x ∷ l) = let js = x.activity ∷ ks in as_often p x.end js && each_as_often p (going_on x.end js) l

unfoldable pub TakenBackAsOften : Type 0
TakenBackAsOften =
    (bytes : List ℕ) (p : Plan) (next : ℕ) → read_plan bytes ≡ found p next → (calls : List Call) (slot : ℕ) (t : Tally) →
    each_as_often p [] (answered calls slot (loaded bytes) t) ≡ true
