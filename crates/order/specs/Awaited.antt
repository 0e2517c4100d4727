-- Meaning: which steps an order awaits. Assumes nothing: these are definitions.
use Rattle.std.specs.Prelude.{ℕ, ◌+◌, Bool, true, false, cond, ◌&&◌, List, [], ◌∷◌, ◌++◌, get_or, ltb, eqb}
use Rattle.plan.specs.Tree.{Exp, To, From, from_partner, Own, empty, send, receive, set as setting, raise, leave, choose, repeat, sequence, flow, pick, scope, arm, kind, is_scope, is_pick, is_arm, Act, act, Acts, none, more, Plan, size}
use Rattle.order.specs.declared.Order.{Order}
use Rattle.order.specs.State.{active, done}
use Rattle.order.specs.Scope.{Scope, scope_at}

-- "Steps. Send, take, set, decide (choose or repeat), raise, leave, close": the step that activity k is there for. To move is to set or to
-- decide, to cut off is to raise or to leave; a close says whether the scope has an undo part of its own.
pub data Doing : Type 0 where
  no_step : Doing
  sends : To → (operation : ℕ) → (variables : List ℕ) → Doing
  takes : From → (operation : ℕ) → (variables : List ℕ) → Doing
  moves : Doing
  cuts : Doing
  closes : (undo : Bool) → Scope → Doing

unfoldable pub doing_of : Own → (within : Acts) → (k : ℕ) → Doing
doing_of empty within k = no_step
doing_of (send p o vs) within k = sends p o vs
doing_of (receive p o vs) within k = takes p o vs
doing_of (setting v e) within k = moves
doing_of (raise n) within k = cuts
doing_of leave within k = cuts
doing_of (choose e) within k = moves
doing_of (repeat e) within k = moves
doing_of sequence within k = no_step
doing_of flow within k = no_step
doing_of pick within k = no_step
doing_of (scope ns undo) within k = closes undo (scope_at ns k within)
doing_of (arm p o vs) within k = takes (from_partner p) o vs

-- whether it awaits that step: an arm where its pick is active, a scope where its body is done, all else where it is active
unfoldable pub awaits : Own → (arms_open : Bool) → (mark : ℕ) → Bool
awaits own arms_open m = cond (is_arm own) arms_open (cond (is_scope own) (eqb m done) (eqb m active))

-- an activity or arm with the step that it awaits
pub record Ready : Type 0 where
  pub activity : ℕ
  pub step : Doing

-- all of these in activity k and within it, ascending
unfoldable mutual
  pub ready_in : Act → (k : ℕ) → (arms_open : Bool) → List ℕ → List Ready
  ready_in (act own within) k arms_open ms =
      let l = ready_among within (k + 1) (is_pick own && eqb (get_or ms k 0) active) ms in
      elim (awaits own arms_open (get_or ms k 0)) [ true ↦ record { activity = k; step = doing_of own within k } ∷ l | false ↦ l ]

  pub ready_among : Acts → (c : ℕ) → (arms_open : Bool) → List ℕ → List Ready
  ready_among none c arms_open ms = []
  ready_among (more a l) c arms_open ms = ready_in a c arms_open ms ++ ready_among l (c + size a) arms_open ms

unfoldable pub ready_of : Plan → Order → List Ready
ready_of p o = ready_in p.body 0 false o.marks ++ ready_in p.fault (size p.body) false o.marks

-- the kind of activity t, where k is the number of the first
unfoldable mutual
  pub kind_in : Act → (k t : ℕ) → ℕ
  kind_in (act own within) k t = elim (eqb k t) [ true ↦ kind own | false ↦ kind_among within (k + 1) t ]

  pub kind_among : Acts → (c t : ℕ) → ℕ
  kind_among none c t = 0
  kind_among (more a l) c t = elim (ltb t (c + size a)) [ true ↦ kind_in a c t | false ↦ kind_among l (c + size a) t ]

unfoldable pub kind_at : Plan → (activity : ℕ) → ℕ
kind_at p t = elim (ltb t (size p.body)) [ true ↦ kind_in p.body 0 t | false ↦ kind_in p.fault (size p.body) t ]
