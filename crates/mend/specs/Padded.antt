-- Meaning: what a padded plan is: document 02, request 11, "Some partners pad numbers with zero groups". Assumes nothing: these are definitions.
-- s are the bytes and `at` is a place in them.
use Rattle.std.specs.Prelude.{ℕ, zero, suc, ◌+◌, ◌-◌, ◌*◌, ◌%◌, cond, ◌||◌, List, [], ◌∷◌, length, get_or, ltb, leb, eqb, Result, Ok, Err}
use Rattle.numbers.specs.Shortest.{shortest}
use Rattle.numbers.specs.declared.Number.{Number}
use Rattle.numbers.specs.declared.Trouble.{Trouble}
use Rattle.numbers.specs.declared.Trouble.TheVariants.{Short, Bad}
use Rattle.numbers.specs.Number.{got}
use Rattle.plan.specs.Found.{Found, refused, found}
use Rattle.plan.specs.Read.{read_plan}
use Rattle.plan.specs.Spell.{spell}
use Rattle.plan.specs.Tree.{Plan}

-- A padded number: its groups are those of document 01, but it may end in zero groups beyond its shortest form. This is what the groups from `at` on
-- make of a number whose groups before make `sum`, whose next group counts `scale`, and that has `left` groups left.
-- "a number still too large, or with an eleventh group, is 3", also where the bytes end there: both are Bad before the length is asked for again.
unfoldable pub groups_at : (left : ℕ) → List ℕ → (at scale sum : ℕ) → Result Number Trouble
groups_at zero s at scale sum = Err Bad
groups_at (suc left) s at scale sum =
    cond (leb (length s) at) (Err Short)
    (cond (ltb 4294967295 (sum + get_or s at 0 % 128 * scale)) (Err Bad)
    (cond (ltb (get_or s at 0) 128) (got (sum + get_or s at 0 % 128 * scale) (at + 1))
    (groups_at left s (at + 1) (scale * 128) (sum + get_or s at 0 % 128 * scale))))

-- the padded number that starts at `at`: up to ten groups
unfoldable pub padded_at : List ℕ → (at : ℕ) → Result Number Trouble
padded_at s at = groups_at 10 s at 1 0

-- what comes of a number that is one, and of what is none
abbrev pub by_number : {A : Type 0} → Result Number Trouble → A → ((value next : ℕ) → A) → A
by_number (Ok r) none one = one r.value r.next
by_number (Err e) none one = none

-- A padded plan is padded numbers one after the other: every byte of a plan is part of a number. These are the values of those that stand from `at`
-- on, up to the end of the bytes or to the first that is none. Each has a byte or more, so that there are no more of them than bytes: `left`.
unfoldable pub numbers_from : (left : ℕ) → List ℕ → (at : ℕ) → List ℕ
numbers_from zero s at = []
numbers_from (suc left) s at = by_number (padded_at s at) [] (λ value next. value ∷ numbers_from left s next)

unfoldable pub numbers_of : List ℕ → List ℕ
numbers_of s = numbers_from (length s) s 0

-- "in shortest form": the same numbers as document 01 wants them
unfoldable pub shortened : List ℕ → List ℕ
shortened s = spell (numbers_of s)

-- how many groups these numbers have beyond their shortest form
unfoldable pub cut_from : (left : ℕ) → List ℕ → (at : ℕ) → ℕ
cut_from zero s at = 0
cut_from (suc left) s at = by_number (padded_at s at) 0 (λ value next. next - at - length (shortest value) + cut_from left s next)

unfoldable pub groups_cut : List ℕ → ℕ
groups_cut s = cut_from (length s) s 0

-- "its own number and place in the original": where the number that starts at place q of the shortened bytes starts in s; p of these bytes stand
-- for what stands before `at`. The shortened bytes' end stands for the place after the last number.
unfoldable pub place_from : (left : ℕ) → List ℕ → (at p q : ℕ) → ℕ
place_from zero s at p q = at
place_from (suc left) s at p q =
    cond (leb q p) at (by_number (padded_at s at) at (λ value next. place_from left s next (p + length (shortest value)) q))

unfoldable pub place_of : List ℕ → (q : ℕ) → ℕ
place_of s q = place_from (length s) s 0 0 q

unfoldable pub last_place : List ℕ → ℕ
last_place s = place_of s (length (shortened s))

-- where a number is wanted at `at` and there is none: 3 at that number, or 2 at the length
abbrev pub no_number : List ℕ → (at : ℕ) → Result Number Trouble → Found Plan
no_number s at (Err Bad) = refused 3 at
no_number s at (Err Short) = refused 2 (length s)
no_number s at (Ok r) = refused 2 (length s)

-- where the plan has ended at `at`: 9 at the first byte after it, whatever these bytes are
abbrev pub ended : List ℕ → (at : ℕ) → Found Plan → Found Plan
ended s at x = cond (ltb at (length s)) (refused 9 at) x

-- What s says, where its shortened bytes say this. 2 comes where a number is wanted after the last one; 7 and 21, as a plan, only where nothing follows.
unfoldable pub original : List ℕ → Found Plan → Found Plan
original s (found p next) = ended s (last_place s) (found p (length s))
original s (refused number place) =
    cond (eqb number 2) (no_number s (last_place s) (padded_at s (last_place s)))
    (cond (eqb number 7 || eqb number 21) (ended s (last_place s) (refused number (place_of s place)))
    (refused number (place_of s place)))

-- What bytes say, read as a padded plan; 1: longer than 4,096 bytes, at 0
unfoldable pub read_padded : List ℕ → Found Plan
read_padded s = cond (ltb 4096 (length s)) (refused 1 0) (original s (read_plan (shortened s)))
