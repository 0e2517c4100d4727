-- Glue: counting a choice down over what the rows of an order have on offer, without the list. Assumes nothing: these are definitions, and nothing here has to
-- be believed.
use Rattle.std.specs.Prelude.{ℕ, ◌+◌, ◌*◌, ◌-◌, ◌<◌, ◌≤◌, Bool, true, false, cond, not, ◌&&◌, ◌||◌, List, [], ◌≡◌, leb, eqb, length, get_or}
use Rattle.plan.specs.Spells.{variables_of}
use Rattle.plan.specs.Tree.{to_partner, to_held, from_partner, from_asking, Acts, Plan}
use Rattle.machine.specs.declared.Message.{Message}
use Rattle.order.specs.declared.Order.{Order}
use Rattle.machine.specs.declared.Step.{Step}
use Rattle.fit.specs.Answering.{Knows, Asking, UncheckedRow, message_at, Picks}
use Rattle.machine.specs.Calls.{Chosen, refused_choice, chosen, previewed}
use Rattle.machine.specs.Fit.{Doing, no_step, sends, takes, moves, cuts, closes, doing_of, Letter, may_take}
use Rattle.order.specs.Answering.{Bindings, Values}
use Rattle.order.specs.Lists.{every}
use Rattle.machine.specs.Offer.{Offer, offering, Offers, is_cut, close_held, step_offers}
use Rattle.order.specs.Scope.{Scope, scope_at}
use Rattle.order.specs.State.{closing_of}
use Rattle.machine.specs.State.{no_message}
use Rattle.sight.specs.declared.Pointer.{Pointer}
use Rattle.sight.specs.declared.Sight.{Sight}
use Rattle.fit.specs.Folds.{folded}
use Rattle.fit.specs.Lines.{Line, is_ready, ready_at, Stands}

-- one more is on offer: the choice is there, or one nearer
unfoldable pub pointed : Offer → Pointer → Pointer
pointed x c =
    cond c.found c
    (cond (eqb c.left 0) (record { left = 0; found = true; slot = x.slot; activity = x.activity; place = x.place })
    (record { left = c.left - 1; found = false; slot = c.slot; activity = c.activity; place = c.place }))

-- what was seen of the offer, and then of one thing more
unfoldable pub seen : Offers → Sight → Sight
seen a s = record { pointer = folded pointed a.offered s.pointer; held = s.held || a.held }

unfoldable pub showing : (slot activity place : ℕ) → Sight → Sight
showing i k j s = record { pointer = pointed (offering i k j) s.pointer; held = s.held }

unfoldable pub withholding : Sight → Sight
withholding s = record { pointer = s.pointer; held = true }

-- nothing seen yet
unfoldable pub unseen : (choice : ℕ) → Sight
unseen c = record { pointer = record { left = c; found = false; slot = 0; activity = 0; place = 0 }; held = false }

-- r is that
pub record Unseen (c : ℕ) (r : Sight) : Type 0 where
  pub is : r ≡ unseen c

-- what a choice comes to, when all was seen: one of the offers, or a refusal
unfoldable pub chosen_by : (choice : ℕ) → Sight → Chosen
chosen_by c s =
    cond s.pointer.found (chosen (offering s.pointer.slot s.pointer.activity s.pointer.place))
    (refused_choice (cond (eqb s.pointer.left c) (cond s.held 11 10) 12))

unfoldable pub answered : (choice : ℕ) → Sight → Step
answered c s = previewed (chosen_by c s)

-- what is known of the order o, whose marks are lent
pub record Marked (marks : List ℕ) (o : Order) (p : Plan) (l : List Letter) : Type 0 where
  pub same : o.marks ≡ marks

-- a letter is the message at a place, and its fittings are known by the fewest
pub record Tells (x : Letter) (j : ℕ) (m : Message) (least : ℕ) : Type 0 where
  pub place : x.place ≡ j
  pub message : x.message ≡ m
  pub few : (u : ℕ) → u ≤ 4 → every (leb u) x.fitted ≡ leb u least

abbrev pub no_letter : Letter
no_letter = record { place = 0; message = no_message; fitted = [] }

-- the letters are the messages that wait, of which there are at most 64
pub record Told (l : List Letter) (letters : List ℕ) (waiting : ℕ) (least : List ℕ) : Type 0 where
  pub few : waiting ≤ 64
  pub long : length l ≡ waiting
  pub tells : (j : ℕ) → j < waiting → Tells (get_or l j no_letter) j (message_at letters j) (get_or least j 0)

-- where row k is none of a scope with fault parts by number, which has their numbers in the places of an exchange
pub record Exchanging (t : List ℕ) (k : ℕ) (Given : Order → Plan → List Letter → Type 0) (o : Order) (p : Plan) (l : List Letter) : Type 0 where
  pub row : get_or t (k * 13) 0 ≡ 14 → ⊥
  pub given : Given o p l

-- of an order, what is known of its variables, and the letters
pub record Heeding (known letters : List ℕ) (waiting : ℕ) (least : List ℕ) (o : Order) (p : Plan) (l : List Letter) : Type 0 where
  pub knows : Knows known p o
  pub told : Told l letters waiting least

-- `parts` has the parts that an order's closings are remembered for, one for each of the 32 places there are
pub record Remembers (o : Order) (parts : List ℕ) : Type 0 where
  pub long : length o.remembered ≡ 32
  pub is : (i : ℕ) → i < 32 → get_or parts i 0 ≡ (get_or o.remembered i (closing_of 0 0)).part

-- with what it remembers, which variables are bound, and to what
pub record Serving (known bound values parts : List ℕ) (kept : ℕ) (letters : List ℕ) (waiting : ℕ) (least : List ℕ) (o : Order) (p : Plan) (l : List Letter) : Type 0 where
  pub heeding : Heeding known letters waiting least o p l
  pub bindings : Bindings o bound
  pub holds : Values o values
  pub memory : Remembers o parts
  pub many : o.kept ≡ kept

-- and its marks
pub record Opening (t picks marks known bound values parts : List ℕ) (kept : ℕ) (letters : List ℕ) (waiting : ℕ) (least : List ℕ) (o : Order) (p : Plan) (l : List Letter) : Type 0 where
  pub picked : Picks t picks
  pub marked : o.marks ≡ marks
  pub serving : Serving known bound values parts kept letters waiting least o p l

-- the kinds of sends: to a partner, or to the one that a variable holds
unfoldable pub is_send_code : (kind : ℕ) → Bool
is_send_code n = eqb n 1 || eqb n 17

-- the step of a row, by its kind and its partner (of a send to a held partner: that to reply to), operation and variable
unfoldable pub doing_by : (kind partner operation variable : ℕ) → (variables : List ℕ) → Scope → Doing
doing_by n a b v vs s =
    cond (eqb n 1) (sends (to_partner a) b vs)
    (cond (eqb n 17) (sends (to_held v a) b vs)
    (cond (eqb n 2 || eqb n 255) (takes (from_partner a) b vs)
    (cond (eqb n 18) (takes (from_asking a v) b vs)
    (cond (eqb n 11 || eqb n 14) (closes true s)
    (cond (eqb n 12) (closes false s)
    (cond (eqb n 13) cuts
    (cond (leb 3 n && leb n 7) (cond (eqb n 4 || eqb n 5) cuts moves) no_step)))))))

-- r says whether row k awaits its step
pub record AwaitsRow (t picks ms : List ℕ) (k : ℕ) (r : Bool) : Type 0 where
  pub is : (x : Line) → Picks t picks → Stands t ms k x → r ≡ is_ready ms x

-- r says whether row k is a raise or a leave
pub record CutRow (t : List ℕ) (k : ℕ) (r : Bool) : Type 0 where
  pub is : (ms : List ℕ) (x : Line) → Stands t ms k x → r ≡ is_cut (ready_at x)

-- whether a line is an active raise or leave, or one was before
unfoldable pub cut_line : Order → Plan → List Letter → Line → Bool → Bool
cut_line o p l x c = cond (is_ready o.marks x) (is_cut (ready_at x) || c) c

-- r says whether the close in row k, of a scope of this kind, is held: of the three kinds 12 has no undo part
pub record ClosesRow (kind : ℕ) (parts : List ℕ) (kept k : ℕ) (r : Bool) : Type 0 where
  pub is : (o : Order) (ns : List ℕ) (within : Acts) → Remembers o parts → o.kept ≡ kept → r ≡ close_held o (not (eqb kind 12)) (scope_at ns k within)

-- what one message adds at a receive or arm
unfoldable pub take_letter : (slot partner operation : ℕ) → Order → Plan → Line → Letter → Sight → Sight
take_letter i a b o p x y s = cond (may_take p o a b (variables_of x.own) y) (showing i x.activity y.place s) s

-- r is what the message at place j adds at row k
pub record TakesLetter (t : List ℕ) (slot k : ℕ) (asked : List ℕ) (unchecked : ℕ) (letters : List ℕ) (j least : ℕ) (s r : Sight) : Type 0 where
  pub is : (o : Order) (p : Plan) (x : Line) (y : Letter) → (get_or t (k * 13) 0 ≡ 14 → ⊥) → UncheckedRow t k asked unchecked → Asking asked p o (variables_of x.own) → Stands t o.marks k x
      → Tells y j (message_at letters j) least
      → r ≡ take_letter slot (get_or t (k * 13 + 1) 0) (get_or t (k * 13 + 2) 0) o p x y s

-- what the messages add at a receive or arm
unfoldable pub take_line : (slot partner operation : ℕ) → Order → Plan → List Letter → Line → Sight → Sight
take_line i a b o p l x s = folded (take_letter i a b o p x) l s

-- what a line has on offer, whether or not it awaits its step
unfoldable pub doing_line : (wait slot : ℕ) → Order → Plan → List Letter → Line → Sight → Sight
doing_line wait i o p l x s = seen (step_offers p wait l i o x.activity (doing_of x.own x.within x.activity)) s

-- what a line has on offer, where the order has an active raise or leave and where it has none
unfoldable pub offer_line : (cutting : Bool) → (wait slot : ℕ) → Order → Plan → List Letter → Line → Sight → Sight
offer_line cutting wait i o p l x s =
    cond (is_ready o.marks x) (cond (not cutting || is_cut (ready_at x)) (doing_line wait i o p l x s) s) s
