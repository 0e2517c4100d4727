-- Meaning: a window of the offer, in a lent buffer. Only `listed_out` and `listed_in`, which the contract of `list` names, have to be believed: the rest is glue.
-- Assumes nothing: these are definitions.
use Rattle.std.specs.Prelude.{ℕ, ◌+◌, ◌-◌, Bool, cond, List, [], map, ◌≡◌, eqb, ltb, length, take, drop, set}
use Rattle.plan.specs.Tree.{Plan}
use Rattle.order.specs.declared.End.TheVariants.{None}
use Rattle.order.specs.declared.Order.{Order}
use Rattle.order.specs.Acting.{started_order}
use Rattle.order.specs.Answering.{Spelled}
use Rattle.machine.specs.declared.Message.{Message}
use Rattle.machine.specs.declared.State.{State}
use Rattle.machine.specs.Calls.{answering}
use Rattle.machine.specs.Fit.{ready_of, live_from, Letter, letters_from, fittings}
use Rattle.machine.specs.Limits.{plan_in, by}
use Rattle.machine.specs.Offer.{Offer, Offers, together, all_of, order_offers, free_from, start_offers, offers_of}
use Rattle.answers.specs.Numbering.{step_number, filled}
use Rattle.fit.specs.Answering.{Correlated, message_at, Picks}
use Rattle.fit.specs.Folds.{folded}
use Rattle.fit.specs.Lines.{Line, Stands, Tabled}
use Rattle.fit.specs.Receiving.{Lent}
use Rattle.sight.specs.declared.Sight.{Sight}
use Rattle.sight.specs.Sights.{seen, unseen, Opening}
use Rattle.offer.specs.Acts.{line_offers}
use Rattle.offer.specs.Seeing.{Mailed}
use Rattle.listing.specs.declared.Listed.{Listed}

-- an offer as one number: the step that it is, not taken
abbrev pub offer_number : Offer → ℕ
offer_number x = step_number (answering x None 0)

-- THE WINDOW, as a caller has it: the offers from the choice `first` on, as numbers, one after the other from the front of the buffer, as far as there is
-- room; with a state that earns 17 the buffer stays as it is
unfoldable pub listed_out : (first : ℕ) → State → (out : List ℕ) → List ℕ
listed_out first s out = by out (λ p. filled 0 (map offer_number (drop first (offers_of p s).offered)) out) (plan_in s)

-- how many these are
unfoldable pub listed_in : (first : ℕ) → State → (room : ℕ) → Listed
listed_in first s room =
    by (record { refusal = 17; many = 0 }) (λ p. record { refusal = 0; many = length (take room (drop first (offers_of p s).offered)) }) (plan_in s)

-- How it is written. What is carried along: how many offers are still to be passed by, how many were written, and the buffer.
pub record Listing : Type 0 where
  pub skip : ℕ
  pub at : ℕ
  pub out : List ℕ

abbrev pub holding : (skip at : ℕ) → (out : List ℕ) → Listing
holding skip at out = record { skip = skip; at = at; out = out }

-- one more is on offer: it is passed by, or written, as long as there is room
unfoldable pub written : Offer → Listing → Listing
written x w =
    cond (ltb w.at (length w.out))
    (cond (eqb w.skip 0) (holding 0 (w.at + 1) (set w.out w.at (offer_number x))) (holding (w.skip - 1) w.at w.out))
    w

unfoldable pub listing : Offers → Listing → Listing
listing a w = folded written a.offered w

-- r is what is seen of each such offer when it is asked for one choice
pub record Asks (P : Offers → Type 0) (c : ℕ) (r : Sight) : Type 0 where
  pub is : (a : Offers) → P a → r ≡ seen a (unseen c)

-- r is the window with each such offer written
pub record Lists (P : Offers → Type 0) (w r : Listing) : Type 0 where
  pub is : (a : Offers) → P a → r ≡ listing a w

-- what row k of an order has on offer, for any order that this is known of
pub record RowOf (t picks marks known bound values parts : List ℕ) (kept slot k : ℕ) (cutting : Bool) (letters : List ℕ) (waiting : ℕ) (least : List ℕ) (a : Offers) : Type 0 where
  pub order : Order
  pub plan : Plan
  pub told : List Letter
  pub line : Line
  pub given : Opening t picks marks known bound values parts kept letters waiting least order plan told
  pub stands : Stands t order.marks k line
  pub is : a ≡ line_offers cutting waiting slot order plan told line

-- what the message at place j may start in the slot `free`, for any order as it starts that this is known of
pub record LetterOf (t flags picks : List ℕ) (orders : List Order) (marks known : List ℕ) (free activities : ℕ) (letters : List ℕ) (j : ℕ) (a : Offers) : Type 0 where
  pub order : Order
  pub plan : Plan
  pub letter : Letter
  pub correlated : Correlated plan flags
  pub lent : Lent t picks marks known order plan []
  pub tabled : Tabled plan t activities
  pub place : letter.place ≡ j
  pub message : letter.message ≡ message_at letters j
  pub fitted : letter.fitted ≡ fittings plan (live_from plan 0 orders) (message_at letters j)
  pub is : a ≡ start_offers plan free order (ready_of plan order) letter

-- r is the window of the whole offer of some orders and letters
pub record ListsBy (t flags picks : List ℕ) (orders : List Order) (activities : ℕ) (letters : List ℕ) (waiting : ℕ) (w r : Listing) : Type 0 where
  pub is : (p : Plan) (ms : List Message) → Correlated p flags → Picks t picks → Spelled p activities t → Mailed letters waiting ms
      → r ≡ listing (together (all_of (order_offers p waiting (letters_from p (live_from p 0 orders) 0 ms)) (live_from p 0 orders))
      (all_of (start_offers p (free_from 0 orders) (started_order p) (ready_of p (started_order p))) (letters_from p (live_from p 0 orders) 0 ms))) w

-- r is the window of a state's offer
pub record ListsAll (t flags : List ℕ) (st : State) (activities : ℕ) (w r : Listing) : Type 0 where
  pub is : (p : Plan) → Correlated p flags → Spelled p activities t → r ≡ listing (offers_of p st) w
