-- Glue: the code's answers, by what the definitions say: of the 256 rows of a table, and of the 64 messages that may wait. Assumes nothing: these are
-- definitions, and nothing here has to be believed.
use Rattle.std.specs.Prelude.{ℕ, zero, suc, ◌+◌, ◌*◌, ◌-◌, ◌≤◌, ◌<◌, Bool, false, cond, ◌&&◌, List, [], ◌∷◌, ◌≡◌, eqb, ltb, length, get_or}
use Rattle.plan.specs.Found.{among}
use Rattle.plan.specs.Tree.{partner_from, Own, empty, send, receive, set as setting, raise, leave, choose, repeat, sequence, flow, pick, scope, arm, Plan}
use Rattle.machine.specs.declared.Message.{Message}
use Rattle.order.specs.declared.Order.{Order}
use Rattle.machine.specs.Fit.{awaits, is_checked, agrees, fits, unchecked}
use Rattle.machine.specs.State.{no_message}
use Rattle.order.specs.State.{active, mark_at, value_of}

-- the flags say which variables are for correlation, and none beyond them is
pub record Correlated (p : Plan) (flags : List ℕ) : Type 0 where
  pub known : (v : ℕ) → v < 16 → eqb (get_or flags v 0) 1 ≡ among v p.correlation
  pub beyond : (v : ℕ) → 16 ≤ v → among v p.correlation ≡ false

-- row k of the table t, one of its 256, names the partner a, the operation b and the variables vs
pub record Exchange (a b : ℕ) (vs : List ℕ) (k : ℕ) (t : List ℕ) : Type 0 where
  pub inside : k < 256
  pub partner : get_or t (k * 13 + 1) 0 ≡ a
  pub operation : get_or t (k * 13 + 2) 0 ≡ b
  pub count : get_or t (k * 13 + 3) 0 ≡ length vs
  pub variables : (i : ℕ) → i < 4 → get_or t (k * 13 + 4 + i) 0 ≡ get_or vs i 0

-- what is asked at the place of variable v: one more than the variable's value where it is checked, 0 where it is not
unfoldable pub asked_of : Plan → Order → (variable : ℕ) → ℕ
asked_of p o v = cond (is_checked p o v) (value_of o v + 1) 0

-- that of a variable, by its flag, whether it is bound, and its value
abbrev pub known_value : (flag bound value : ℕ) → ℕ
known_value f b x = cond (eqb f 1 && eqb b 1) (x + 1) 0

-- what stands at the place v of sixteen, and 0 beyond
unfoldable pub sixteenth : List ℕ → (v : ℕ) → ℕ
sixteenth l v = cond (ltb v 16) (get_or l v 0) 0

-- `known` has what is asked at the place of each variable
pub record Knows (known : List ℕ) (p : Plan) (o : Order) : Type 0 where
  pub is : (v : ℕ) → sixteenth known v ≡ asked_of p o v

-- r has that of an order; and how long the list of what is bound is, which a lent list does not say
pub record KnowsOrder (flags : List ℕ) (o : Order) (r : List ℕ) : Type 0 where
  pub bindings : length o.bound ≡ 16
  pub worths : length o.values ≡ 16
  pub is : (p : Plan) → Correlated p flags → Knows r p o

-- r is what row k asks at its places
pub record AsksRow (t known : List ℕ) (k : ℕ) (r : List ℕ) : Type 0 where
  pub is : k < 256 → (i : ℕ) → i < 4 → get_or r i 0 ≡ sixteenth known (get_or t (k * 13 + 4 + i) 0)

-- `asked` is what is asked at the places of some variables
pub record Asking (asked : List ℕ) (p : Plan) (o : Order) (vs : List ℕ) : Type 0 where
  pub few : length vs ≤ 4
  pub is : (i : ℕ) → i < length vs → get_or asked i 0 ≡ asked_of p o (get_or vs i 0)

-- one of the eight numbers of a message: its partner, its operation, its count, its four values, its reply partner
unfoldable pub number_of : Message → (i : ℕ) → ℕ
number_of m i =
    cond (eqb i 0) m.partner (cond (eqb i 1) m.operation (cond (eqb i 2) m.count (cond (eqb i 7) m.reply (get_or m.values (i - 3) 0))))

pub record Numbers (m : Message) (i r : ℕ) : Type 0 where
  pub long : length m.values ≡ 4
  pub is : i < 8 → r ≡ number_of m i

-- the message at place j, where each has eight numbers
unfoldable pub message_at : (letters : List ℕ) → (j : ℕ) → Message
message_at l j =
    record {
      partner = get_or l (j * 8) 0;
      operation = get_or l (j * 8 + 1) 0;
      count = get_or l (j * 8 + 2) 0;
      values = get_or l (j * 8 + 3) 0 ∷ (get_or l (j * 8 + 4) 0 ∷ (get_or l (j * 8 + 5) 0 ∷ (get_or l (j * 8 + 6) 0 ∷ [])));
      reply = get_or l (j * 8 + 7) 0;
    }

-- r has the numbers of the messages that wait
pub record Letters (messages : List Message) (waiting : ℕ) (r : List ℕ) : Type 0 where
  pub held : length messages ≡ 64
  pub is : waiting ≤ 64 → (j : ℕ) → j < waiting → get_or messages j no_message ≡ message_at r j

-- r says whether the values of the message at place j, of which there are `count`, are those that are asked
pub record Agrees (asked letters : List ℕ) (j count : ℕ) (r : Bool) : Type 0 where
  pub is : (p : Plan) (o : Order) (vs : List ℕ) → Asking asked p o vs → length vs ≡ count → r ≡ agrees p o vs (message_at letters j).values

-- r says whether the message at place j fits the receive or arm in row k
pub record FitsRow (t : List ℕ) (k : ℕ) (asked letters : List ℕ) (j : ℕ) (r : Bool) : Type 0 where
  pub is : j < 64 → (p : Plan) (o : Order) (a b : ℕ) (vs : List ℕ) → Asking asked p o vs → Exchange a b vs k t → r ≡ fits p o a b vs (message_at letters j)

-- r is 1 where any value will do and 0 where not
pub record Costs (asked r : ℕ) : Type 0 where
  pub is : r ≡ cond (eqb asked 0) 1 0
  pub most : r ≤ 1

-- r is how many places of the receive or arm in row k are unchecked
pub record UncheckedRow (t : List ℕ) (k : ℕ) (asked : List ℕ) (r : ℕ) : Type 0 where
  pub is : (p : Plan) (o : Order) (a b : ℕ) (vs : List ℕ) → Asking asked p o vs → Exchange a b vs k t → r ≡ unchecked p o vs

-- whether row j is an active pick
abbrev pub open_pick : List ℕ → (marks : List ℕ) → (j : ℕ) → Bool
open_pick t ms j = eqb (get_or t (j * 13) 0) 10 && eqb (get_or ms j 0) active

-- whether the nearest row below j whose activity reaches beyond row k is an active pick
unfoldable pub arms_from : List ℕ → (marks : List ℕ) → (k j : ℕ) → Bool
arms_from t ms k zero = false
arms_from t ms k (suc j) = cond (ltb k (get_or t (j * 13 + 11) 0)) (open_pick t ms j) (arms_from t ms k j)

-- the nearest row below j whose activity reaches beyond row k, 256 where there is none
unfoldable pub around_from : List ℕ → (k j : ℕ) → ℕ
around_from t k zero = 256
around_from t k (suc j) = cond (ltb k (get_or t (j * 13 + 11) 0)) j (around_from t k j)

-- r is the row that the arm in row k stands within
pub record PicksRow (t : List ℕ) (k r : ℕ) : Type 0 where
  pub is : get_or t (k * 13) 0 ≡ 255 → r ≡ around_from t k k

-- `picks` has that of each arm
pub record Picks (t picks : List ℕ) : Type 0 where
  pub is : (k : ℕ) → k < 256 → PicksRow t k (get_or picks k 0)

-- r says whether the arm in row k is open: by the table alone, and by the rows that the arms stand within
pub record ArmAt (t ms : List ℕ) (k : ℕ) (r : Bool) : Type 0 where
  pub is : k < 256 → r ≡ arms_from t ms k k

pub record ArmsRow (t picks ms : List ℕ) (k : ℕ) (r : Bool) : Type 0 where
  pub is : k < 256 → Picks t picks → get_or t (k * 13) 0 ≡ 255 → r ≡ arms_from t ms k k

-- whether a message fits what an activity or arm says of itself: a receive or an arm
unfoldable pub fits_own : Plan → Order → Message → Own → Bool
fits_own p o m empty = false
fits_own p o m (send a b vs) = false
fits_own p o m (receive from b vs) = fits p o (partner_from from) b vs m
fits_own p o m (setting v e) = false
fits_own p o m (raise n) = false
fits_own p o m leave = false
fits_own p o m (choose e) = false
fits_own p o m (repeat e) = false
fits_own p o m sequence = false
fits_own p o m flow = false
fits_own p o m pick = false
fits_own p o m (scope ns undo) = false
fits_own p o m (arm a b vs) = fits p o a b vs m

-- whether it is open too, and so takes the message
unfoldable pub catches : Plan → Order → Message → Own → (arms_open : Bool) → (k : ℕ) → Bool
catches p o m own arms_open k = awaits own arms_open (mark_at k o) && fits_own p o m own
