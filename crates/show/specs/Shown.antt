-- Meaning: the part of a plan's bytes that `show` gives, where it starts, and the refusal. Assumes nothing: these are definitions.
use Rattle.std.specs.Prelude.{ℕ, ◌+◌, Bool, false, cond, List, [], ltb, length, take, drop, Result, Ok, Err}
use Rattle.plan.specs.Found.{Found, refused, found}
use Rattle.plan.specs.Spell.{spell, act_numbers}
use Rattle.plan.specs.Spells.{Part, part_plan}
use Rattle.plan.specs.Tree.{Plan, size}
use Rattle.show.specs.declared.Shown.{Shown}

-- the bytes of a part: from its place on, as many as spell its activity or arm
abbrev pub bytes_of : Part → List ℕ → List ℕ
bytes_of q s = take (length (spell (act_numbers q.what))) (drop q.start s)

-- "One call shows activity k of a plan as the very part of the lent bytes that spells it"; "A refused show gives the empty part"
unfoldable pub shown_part : Found Plan → List ℕ → (k : ℕ) → List ℕ
shown_part (refused number place) s k = []
shown_part (found p next) s k = cond (ltb k (size p.body + size p.fault)) (bytes_of (part_plan p k) s) []

-- where that part starts, 0 where it is empty
unfoldable pub shown_start : Found Plan → (k : ℕ) → ℕ
shown_start (refused number place) k = 0
shown_start (found p next) k = cond (ltb k (size p.body + size p.fault)) (part_plan p k).start 0

-- 16: "show: no activity k"; "a bad plan its own number"
unfoldable pub shown_refusal : Found Plan → (k : ℕ) → ℕ
shown_refusal (refused number place) k = number
shown_refusal (found p next) k = cond (ltb k (size p.body + size p.fault)) 0 16

-- whether there is an activity k to show: a bad plan has none
unfoldable pub is_shown : Found Plan → (k : ℕ) → Bool
is_shown (refused number place) k = false
is_shown (found p next) k = ltb k (size p.body + size p.fault)

-- what an answer says: a refused show gives the empty part, which starts at 0
abbrev pub part_of : Result Shown ℕ → List ℕ
part_of (Ok x) = x.part.now
part_of (Err n) = []

abbrev pub start_of : Result Shown ℕ → ℕ
start_of (Ok x) = x.start
start_of (Err n) = 0

abbrev pub refusal_of : Result Shown ℕ → ℕ
refusal_of (Ok x) = 0
refusal_of (Err n) = n

-- all that an answer says, where a part is known by its bytes: whether it shows or refuses, what, and from where
abbrev pub said : Result Shown ℕ → Result (List ℕ × ℕ) ℕ
said (Ok x) = Ok (x.part.now, x.start)
said (Err n) = Err n
