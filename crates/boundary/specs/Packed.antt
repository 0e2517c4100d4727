-- Meaning: what the exported functions answer, as one number. Assumes nothing: these are definitions.
-- Each part of such a number is taken within its own room, so that no part can reach into another. Places and lengths in a plan are at most
-- 4,096 and refusals at most 17, far within it.
use Rattle.std.specs.Prelude.{ℕ, ◌+◌, ◌*◌, ◌%◌, List, length, Result, Ok, Err}
use Rattle.plan.specs.declared.Accepted.{Accepted}
use Rattle.plan.specs.declared.Refusal.{Refusal}
use Rattle.plan.specs.Found.{Found}
use Rattle.show.specs.Shown.{shown_part, shown_start, shown_refusal}
use Rattle.plan.specs.Tree.{Plan}

-- a number and a place, which has 32 bits
abbrev pub pair_of : (number place : ℕ) → ℕ
pair_of number place = number * 4294967296 + place % 4294967296

-- a refusal of 16 bits, and a start and a length of 24 bits each
abbrev pub triple_of : (refusal start length : ℕ) → ℕ
triple_of refusal start length = refusal % 65536 * 281474976710656 + start % 16777216 * 16777216 + length % 16777216

-- accepting: the refusal and its place, or how many activities and arms there are
unfoldable pub accept_number : Result Accepted Refusal → ℕ
accept_number (Err refusal) = pair_of refusal.number refusal.place
accept_number (Ok accepted) = accepted.activities

-- showing: the refusal, where activity k starts, and the length of the part shown; the last two are 0 where it is refused
unfoldable pub show_number : Found Plan → List ℕ → (k : ℕ) → ℕ
show_number g s k = triple_of (shown_refusal g k) (shown_start g k) (length (shown_part g s k))
