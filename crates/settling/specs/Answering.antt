-- Glue: the code's answers on what is open, by what the definitions say. Assumes nothing: these are definitions, and nothing here has to be believed.
use Rattle.std.specs.Prelude.{ℕ, ◌+◌, ◌*◌, ◌≤◌, ◌<◌, Bool, true, false, cond, ◌&&◌, List, [], ◌∷◌, ◌≡◌, ltb, leb, length, get_or, Option, Some, None}
use Rattle.plan.specs.Tree.{From, from_partner, partner_from, Plan}
use Rattle.order.specs.declared.Order.{Order}
use Rattle.order.specs.Answering.{Spelled}
use Rattle.order.specs.Awaited.{takes, Ready}
use Rattle.order.specs.Judging.{is_thing, Verdict, clear, clash, conflict, rank, weight}
use Rattle.order.specs.Lists.{some}
use Rattle.fit.specs.Answering.{Exchange, open_pick}
use Rattle.fit.specs.Lines.{Line, is_ready, Stands}
use Rattle.fit.specs.Receiving.{receives}

-- r says whether the receives or arms in rows j and k are for one thing
pub record SameThing (t : List ℕ) (j k : ℕ) (r : Bool) : Type 0 where
  pub is : (a b c d : ℕ) (vs ws : List ℕ) → Exchange a b vs k t → length vs ≤ 4 → Exchange c d ws j t → length ws ≤ 4 → r ≡ is_thing (from_partner a) b vs (takes (from_partner c) d ws)

-- what was awaited before, the last first: the receives and arms among it stand in the first n of these rows
pub data Opened (t rows : List ℕ) : ℕ → List Ready → Type 0 where
  opened-none : Opened t rows 0 []
  opened-other : {n : ℕ} {r : Ready} {l : List Ready} → ((a : From) (b : ℕ) (vs : List ℕ) → is_thing a b vs r.step ≡ false) → Opened t rows n l → Opened t rows n (r ∷ l)
  opened-more : {n : ℕ} {r : Ready} {l : List Ready} (a : From) (b : ℕ) (vs : List ℕ) → Exchange (partner_from a) b vs (get_or rows n 0) t → length vs ≤ 4 → r.step ≡ takes a b vs
      → Opened t rows n l → Opened t rows (n + 1) (r ∷ l)

-- r says whether the receive or arm in row k is for the same thing as one in these rows
pub record SeenRow (t rows : List ℕ) (k : ℕ) (r : Bool) : Type 0 where
  pub is : (l : List Ready) → Opened t rows (length rows) l → (a : From) (b : ℕ) (vs : List ℕ) → Exchange (partner_from a) b vs k t → length vs ≤ 4 → r ≡ some (λ x. is_thing a b vs x.step) l

-- no active pick before row k ends beyond `reach`
pub record Beyond (t ms : List ℕ) (reach k : ℕ) : Type 0 where
  pub ends : (j : ℕ) → j < k → open_pick t ms j ≡ true → get_or t (j * 13 + 11) 0 ≤ reach

-- r is as far as `reach`, and as far as row k where that is an active pick
pub record Reaches (t ms : List ℕ) (reach k r : ℕ) : Type 0 where
  pub keeps : reach ≤ r
  pub covers : open_pick t ms k ≡ true → get_or t (k * 13 + 11) 0 ≤ r

-- r says whether row k is an open receive or arm
pub record OpenRow (t ms : List ℕ) (reach k : ℕ) (r : Bool) : Type 0 where
  pub is : (x : Line) → Stands t ms k x → Beyond t ms reach k → r ≡ (is_ready ms x && receives x.own)

-- the number of an activity that faults, none where none does
abbrev pub number_of : Verdict → Option ℕ
number_of clear = None
number_of (clash k) = Some k

-- r is the higher number of the first pair
pub record Clashes (t : List ℕ) (activities : ℕ) (ms : List ℕ) (r : Option ℕ) : Type 0 where
  pub is : (p : Plan) → Spelled p activities t → (o : Order) → o.marks ≡ ms → r ≡ number_of (conflict p o)

-- how many rows are compared: none of a table with more than 256
unfoldable pub rows_of : (activities : ℕ) → ℕ
rows_of n = cond (leb n 256) n 0

-- r is how many that is
pub record Counts (activities r : ℕ) : Type 0 where
  pub is : r ≡ rows_of activities
  pub few : r ≤ 256

-- r is the rank of the mark of row k
pub record RankAt (t ms : List ℕ) (k r : ℕ) : Type 0 where
  pub is : r ≡ rank (get_or t (k * 13) 0) (get_or ms k 0)

-- the ranks of an order's marks as one number, by the kinds in the rows
unfoldable pub weight_in : List ℕ → (activities root : ℕ) → List ℕ → ℕ
weight_in t n x ms = weight (λ k. get_or t (k * 13) 0) 0 (rows_of n) ms (rank 11 x)

-- r says whether the ranks after are lower than those before, the root's mark and the others
pub record Lowers (t : List ℕ) (activities before : ℕ) (ms : List ℕ) (after : ℕ) (os : List ℕ) (r : Bool) : Type 0 where
  pub is : r ≡ ltb (weight_in t activities after os) (weight_in t activities before ms)
