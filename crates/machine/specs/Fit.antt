-- Meaning: which messages fit an open receive, and which may start an order. Assumes nothing: these are definitions.
use Rattle.std.specs.Prelude.{ℕ, suc, ◌+◌, Bool, true, false, cond, not, ◌&&◌, ◌||◌, List, [], ◌∷◌, length, get_or, drop, leb, eqb}
use Rattle.plan.specs.Found.{among}
use Rattle.plan.specs.Tree.{partner_from, Plan}
use Rattle.machine.specs.declared.Message.{Message}
use Rattle.order.specs.declared.Order.{Order}
use Rattle.order.specs.Lists.{every, each}
use Rattle.order.specs.State.{is_bound, value_of, is_live}
pub use Rattle.order.specs.Awaited.{Doing, no_step, sends, takes, moves, cuts, closes, Ready}
unfoldable pub use Rattle.order.specs.Awaited.{doing_of, awaits, ready_in, ready_among, ready_of}

-- A live order in its slot, with all that it awaits.
pub record Live : Type 0 where
  pub slot : ℕ
  pub order : Order
  pub ready : List Ready

-- the live orders among some, the first of which has the slot i
unfoldable pub live_from : Plan → (i : ℕ) → List Order → List Live
live_from p i [] = []
live_from p i (o ∷ l) =
    elim (is_live o) [
      | true ↦ record { slot = i; order = o; ready = ready_of p o } ∷ live_from p (i + 1) l
      | false ↦ live_from p (i + 1) l
    ]

-- "each place with a bound correlation variable": the places of a receive that are checked
abbrev pub is_checked : Plan → Order → (variable : ℕ) → Bool
is_checked p o v = among v p.correlation && is_bound o v

-- "holds the same value"
unfoldable pub agrees : Plan → Order → (variables values : List ℕ) → Bool
agrees p o [] xs = true
agrees p o (v ∷ vs) xs = (not (is_checked p o v) || eqb (value_of o v) (get_or xs 0 0)) && agrees p o vs (drop 1 xs)

-- "A message fits an open receive when partner, operation and count agree and each place with a bound correlation variable holds the same value."
unfoldable pub fits : Plan → Order → (partner operation : ℕ) → (variables : List ℕ) → Message → Bool
fits p o partner operation vs m =
    eqb m.partner partner && (eqb m.operation operation && (eqb m.count (length vs) && agrees p o vs m.values))

-- "Other places are unchecked": how many
unfoldable pub unchecked : Plan → Order → (variables : List ℕ) → ℕ
unchecked p o [] = 0
unchecked p o (v ∷ vs) = cond (is_checked p o v) (unchecked p o vs) (suc (unchecked p o vs))

-- of an open receive that the message fits, how many places are unchecked; of anything else nothing
unfoldable pub fitting : Plan → Order → Message → Doing → List ℕ
fitting p o m no_step = []
fitting p o m (sends to operation vs) = []
fitting p o m (takes from operation vs) = cond (fits p o (partner_from from) operation vs m) (unchecked p o vs ∷ []) []
fitting p o m moves = []
fitting p o m cuts = []
fitting p o m (closes undo s) = []

-- "all open receives in live orders that a message fits", each by its number of unchecked places
unfoldable pub fittings : Plan → List Live → Message → List ℕ
fittings p l m = each (λ x. each (λ r. fitting p x.order m r.step) x.ready) l

-- A waiting message with its place and its fittings.
pub record Letter : Type 0 where
  pub place : ℕ
  pub message : Message
  pub fitted : List ℕ

-- the messages, the first of which has the place i
unfoldable pub letters_from : Plan → List Live → (i : ℕ) → List Message → List Letter
letters_from p l i [] = []
letters_from p l i (m ∷ ms) = record { place = i; message = m; fitted = fittings p l m } ∷ letters_from p l (i + 1) ms

-- "only those with the fewest unchecked places may take it; ties stay a choice"
unfoldable pub may_take : Plan → Order → (partner operation : ℕ) → (variables : List ℕ) → Letter → Bool
may_take p o partner operation vs x =
    fits p o partner operation vs x.message && every (leb (unchecked p o vs)) x.fitted
