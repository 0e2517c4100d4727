-- Meaning: what the tally counts: the starts and the ends that were answered. Assumes nothing: these are definitions.
use Rattle.std.specs.Prelude.{ℕ, ◌+◌, ◌≤◌, ◌≡◌, cond, not, ◌&&◌, List, [], ◌∷◌, leb, eqb, get_or}
use Rattle.order.specs.declared.End.{End}
use Rattle.order.specs.declared.End.TheVariants.{Well, Handled, Failed, Left}
use Rattle.order.specs.State.{is_live, no_order}
use Rattle.machine.specs.declared.State.{State}
use Rattle.machine.specs.declared.Tally.{Tally}
use Rattle.machine.specs.Calls.{end_number, post, collect, drop_at, Stepped, step, Call, posting, collecting, dropping, stepping}
use Rattle.laws.specs.Known.{after}

-- "A count at 4,294,967,295 stays there."
unfoldable pub up_to : (count more : ℕ) → ℕ
up_to n k = cond (leb (n + k) 4294967295) (n + k) 4294967295

-- a step that was taken starts an order where its slot was free; that is so by the state, and by the answers (LiveAsTold)
unfoldable pub start_of : State → Stepped → ℕ
start_of s r = cond (eqb r.answer.refusal 0 && not (is_live (get_or s.orders r.answer.slot no_order))) 1 0

-- a step that answers this end; one that is refused answers none
unfoldable pub end_of : End → State → Stepped → ℕ
end_of e s r = cond (eqb (end_number r.answer.end) (end_number e)) 1 0

-- how many the steps among these calls count, each by the state before it and by its answer
unfoldable pub counting : (State → Stepped → ℕ) → List Call → State → Tally → ℕ
counting f [] s t = 0
counting f (posting m ∷ l) s t = counting f l (post m s).state t
counting f (collecting ∷ l) s t = counting f l (collect s).state t
counting f (dropping j ∷ l) s t = counting f l (drop_at j s).state t
counting f (stepping c ∷ l) s t = let r = step c s t in f s r + counting f l r.state r.tally

-- every count within its type
pub record Small (t : Tally) : Type 0 where
  pub started : t.started ≤ 4294967295
  pub well : t.well ≤ 4294967295
  pub handled : t.handled ≤ 4294967295
  pub failed : t.failed ≤ 4294967295
  pub left : t.left ≤ 4294967295

-- THE TALLY. "The tally (started and the four ends) is one record that the host owns, lends to each step and finds brought up to date on return." After any
-- calls on any state it has counted the starts answered and each of the four ends answered, up to 4,294,967,295, and nothing else.
pub record Counts (calls : List Call) (s : State) (t : Tally) (r : Tally) : Type 0 where
  pub started : r.started ≡ up_to t.started (counting start_of calls s t)
  pub well : r.well ≡ up_to t.well (counting (end_of Well) calls s t)
  pub handled : r.handled ≡ up_to t.handled (counting (end_of Handled) calls s t)
  pub failed : r.failed ≡ up_to t.failed (counting (end_of Failed) calls s t)
  pub left : r.left ≡ up_to t.left (counting (end_of Left) calls s t)

unfoldable pub TallyCounts : Type 0
TallyCounts = (calls : List Call) (s : State) (t : Tally) → Small t → Counts calls s t (after calls s t).1
