-- Glue: the search for the open receives that a message fits, and for the fewest unchecked places among them. Assumes nothing: these are definitions, and
-- nothing here has to be believed.
use Rattle.std.specs.Prelude.{ℕ, ◌<◌, ◌≤◌, Bool, cond, ◌&&◌, ◌||◌, List, ◌≡◌, eqb, length, get_or}
use Rattle.plan.specs.Spells.{variables_of}
use Rattle.plan.specs.Tree.{Own, kind, Plan}
use Rattle.machine.specs.declared.Message.{Message}
use Rattle.order.specs.declared.Order.{Order}
use Rattle.fit.specs.Answering.{Correlated, Exchange, Knows, Asking, UncheckedRow, message_at, Picks, catches}
use Rattle.fit.specs.Finding.{receiver, first_of, or_else, first_receiver}
use Rattle.machine.specs.Fit.{ready_of, Live, live_from, Letter, fits, unchecked as unchecked_in, fitting, fittings}
use Rattle.order.specs.State.{is_live}
use Rattle.std.specs.Prelude.{Option, None}
use Rattle.fit.specs.declared.Receiver.{Receiver}
use Rattle.fit.specs.Folds.{folded, lesser}
use Rattle.fit.specs.Lines.{Line, is_ready, Stands, Tabled, Rows, Wholes}

-- the fewest unchecked places so far, and after one line more; 5 where nothing fits
unfoldable pub least_line : Message → Order → Plan → List Letter → Line → ℕ → ℕ
least_line m o p l x c = cond (catches p o m x.own x.arms x.activity) (lesser (unchecked_in p o (variables_of x.own)) c) c

unfoldable pub least_live : Message → Plan → List Letter → Live → ℕ → ℕ
least_live m p l x c = folded (λ r. folded lesser (fitting p x.order m r.step)) x.ready c

-- the first open receive that the message fits, after one line more and after one live order more
unfoldable pub catch_line : (slot : ℕ) → Message → Order → Plan → List Letter → Line → Option Receiver → Option Receiver
catch_line i m o p l x c = or_else c (cond (catches p o m x.own x.arms x.activity) (receiver i x.activity) None)

unfoldable pub catch_live : Message → Plan → List Letter → Live → Option Receiver → Option Receiver
catch_live m p l x c = or_else c (first_of p x.slot x.order m x.ready)

-- r is what f makes of the state c at one slot
pub record Slots {S : Type 0} (t : List ℕ) (activities : ℕ) (Given : Plan → List Letter → Type 0) (f : Plan → List Letter → Live → S → S) (slot : ℕ) (o : Order) (c r : S) : Type 0 where
  pub is : (p : Plan) (l : List Letter) → Given p l → Tabled p t activities
      → r ≡ cond (is_live o) (f p l (record { slot = slot; order = o; ready = ready_of p o }) c) c

-- at all slots, ascending
pub record Across {S : Type 0} (t : List ℕ) (activities : ℕ) (Given : Plan → List Letter → Type 0) (f : Plan → List Letter → Live → S → S) (orders : List Order) (c r : S) : Type 0 where
  pub long : length orders ≡ 16
  pub is : (p : Plan) (l : List Letter) → Given p l → Tabled p t activities → r ≡ folded (f p l) (live_from p 0 orders) c

-- the flags are those of the plan, and the picks those of its table
pub record Flagged (t picks flags : List ℕ) (p : Plan) (l : List Letter) : Type 0 where
  pub correlated : Correlated p flags
  pub picked : Picks t picks

-- whose marks are lent, with what is known of its variables
pub record Lent (t picks marks known : List ℕ) (o : Order) (p : Plan) (l : List Letter) : Type 0 where
  pub picked : Picks t picks
  pub marked : o.marks ≡ marks
  pub knows : Knows known p o

-- whether an activity or arm takes a message
abbrev pub receives : Own → Bool
receives own = eqb (kind own) 2 || (eqb (kind own) 18 || eqb (kind own) 255)

-- r says whether row k is an open receive or arm
pub record OpensRow (t picks ms : List ℕ) (k : ℕ) (r : Bool) : Type 0 where
  pub is : (x : Line) → Picks t picks → Stands t ms k x → r ≡ (is_ready ms x && receives x.own)

-- r says whether it is one that the message at place j fits
pub record TakesRow (t picks marks known : List ℕ) (k : ℕ) (letters : List ℕ) (j : ℕ) (r : Bool) : Type 0 where
  pub is : j < 64 → (o : Order) (p : Plan) (l : List Letter) (x : Line) → Lent t picks marks known o p l → Stands t o.marks k x
      → r ≡ catches p o (message_at letters j) x.own x.arms x.activity

-- r is the first open receive that the message at place j fits
pub record Receives (t flags picks : List ℕ) (orders : List Order) (activities : ℕ) (letters : List ℕ) (j : ℕ) (r : Option Receiver) : Type 0 where
  pub is : j < 64 → (p : Plan) → Correlated p flags → Picks t picks → Tabled p t activities → r ≡ first_receiver p (live_from p 0 orders) (message_at letters j)

-- the fewest unchecked places of the open receives that a message fits
pub record Least (t flags : List ℕ) (activities : ℕ) (orders : List Order) (m : Message) (r : ℕ) : Type 0 where
  pub is : (p : Plan) → Correlated p flags → Tabled p t activities → r ≡ folded lesser (fittings p (live_from p 0 orders) m) 5

-- r is the fewest, after the receive or arm in row k, for the message at place j
pub record LeastLetter (t : List ℕ) (k : ℕ) (asked letters : List ℕ) (j unchecked c r : ℕ) : Type 0 where
  pub is : (p : Plan) (o : Order) (a b : ℕ) (vs : List ℕ) → UncheckedRow t k asked unchecked → Asking asked p o vs → Exchange a b vs k t
      → r ≡ cond (fits p o a b vs (message_at letters j)) (lesser (unchecked_in p o vs) c) c

-- for each message that waits: after the receive or arm in row k
pub record LeastLetters (t known : List ℕ) (k : ℕ) (letters : List ℕ) (waiting : ℕ) (c r : List ℕ) : Type 0 where
  pub long : length r ≡ length c
  pub is : length c ≡ 64 → (j : ℕ) → j < waiting → (p : Plan) (o : Order) (a b : ℕ) (vs : List ℕ) → Knows known p o → Exchange a b vs k t → length vs ≤ 4
      → get_or r j 0 ≡ cond (fits p o a b vs (message_at letters j)) (lesser (unchecked_in p o vs) (get_or c j 0)) (get_or c j 0)

-- after row k
pub record LeastRow (t picks marks known : List ℕ) (k : ℕ) (letters : List ℕ) (waiting : ℕ) (c r : List ℕ) : Type 0 where
  pub long : length r ≡ length c
  pub is : length c ≡ 64 → (j : ℕ) → j < waiting → Rows t k (Lent t picks marks known) (least_line (message_at letters j)) (get_or c j 0) (get_or r j 0)

-- after all rows of an order
pub record LeastRows (t picks marks known : List ℕ) (activities : ℕ) (letters : List ℕ) (waiting : ℕ) (c r : List ℕ) : Type 0 where
  pub long : length r ≡ length c
  pub is : length c ≡ 64 → (j : ℕ) → j < waiting → Wholes t activities (Lent t picks marks known) (least_line (message_at letters j)) (get_or c j 0) (get_or r j 0)

-- after the order in a slot
pub record LeastSlot (t flags picks : List ℕ) (o : Order) (activities : ℕ) (letters : List ℕ) (waiting : ℕ) (c r : List ℕ) : Type 0 where
  pub long : length r ≡ length c
  pub is : waiting ≤ 64 → length c ≡ 64 → (j : ℕ) → j < waiting → (slot : ℕ) → Slots t activities (Flagged t picks flags) (least_live (message_at letters j)) slot o (get_or c j 0) (get_or r j 0)

-- after all
pub record Leasts (t flags picks : List ℕ) (orders : List Order) (activities : ℕ) (letters : List ℕ) (waiting : ℕ) (r : List ℕ) : Type 0 where
  pub few : waiting ≤ 64
  pub is : (j : ℕ) → j < waiting → Picks t picks → Least t flags activities orders (message_at letters j) (get_or r j 0)
