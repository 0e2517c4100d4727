-- Glue: the rows of an accepted plan as they are cut from its bytes s, one after another: what the functions behind `rows` answer. Assumes nothing: these are
-- definitions, and nothing here has to be believed. t is the plan's table, which tells the kind of each activity and arm, and so how many of the numbers are
-- its row's.
use Rattle.std.specs.Prelude.{ℕ, zero, suc, ◌+◌, ◌*◌, ◌-◌, cond, List, [], ◌∷◌, eqb, ltb, get_or, Result, Ok, Err}
use Rattle.numbers.specs.Number.{number_at}
use Rattle.numbers.specs.declared.Number.{Number}
use Rattle.numbers.specs.declared.Trouble.{Trouble}
use Rattle.writer.specs.Rows.{used}

-- the number at a place and the place after it; in an accepted plan there is always one
unfoldable pub value_of : Result Number Trouble → ℕ
value_of (Ok r) = r.value
value_of (Err e) = 0

unfoldable pub next_of : (at : ℕ) → Result Number Trouble → ℕ
next_of at (Ok r) = r.next
next_of at (Err e) = at

abbrev pub value_in : List ℕ → (at : ℕ) → ℕ
value_in s at = value_of (number_at s at)

abbrev pub next_in : List ℕ → (at : ℕ) → ℕ
next_in s at = next_of at (number_at s at)

-- `left` numbers from `at` on, and the place after them
unfoldable pub numbers_in : (left : ℕ) → List ℕ → (at : ℕ) → List ℕ
numbers_in zero s at = []
numbers_in (suc left) s at = value_in s at ∷ numbers_in left s (next_in s at)

unfoldable pub place_after : (left : ℕ) → List ℕ → (at : ℕ) → ℕ
place_after zero s at = at
place_after (suc left) s at = place_after left s (next_in s at)

-- the kind of activity or arm k, and how many variables it names; the table has 256 rows of 13 numbers
unfoldable pub kind_in : List ℕ → (k : ℕ) → ℕ
kind_in t k = cond (ltb k 256) (get_or t (k * 13) 0) 0

unfoldable pub count_in : List ℕ → (k : ℕ) → ℕ
count_in t k = cond (ltb k 256) (get_or t (k * 13 + 3) 0) 0

-- the place of its first byte
unfoldable pub place_in : List ℕ → (k : ℕ) → ℕ
place_in t k = cond (ltb k 256) (get_or t (k * 13 + 10) 0) 0

-- What stands at `at`, where activity or arm k is the next: this one, or a number before it, between the parts of a scope, whose row is like that of an
-- empty activity: one number, and no expression after it.
abbrev pub kind_at : List ℕ → (k at : ℕ) → ℕ
kind_at t k at = cond (ltb at (place_in t k)) 0 (kind_in t k)

-- how many numbers stand between the parts of the scopes among `left` activities and arms from k on: of each with fault parts by number their count, and
-- the number of each
unfoldable pub between_in : (left : ℕ) → List ℕ → (k : ℕ) → ℕ
between_in zero t k = 0
between_in (suc left) t k = cond (eqb (kind_in t k) 14) (count_in t k + 1) 0 + between_in left t (k + 1)

-- how many numbers the row of an activity or arm has: a send or a receive four before its variables, and one behind them where it has a reply address, an
-- arm, which has no code, three; a set, a sequence, a flow, a pick and a raise with a number two; all others their code alone
unfoldable pub width_of : (kind count : ℕ) → ℕ
width_of kind count =
    cond (eqb kind 1) (used (4 + count))
    (cond (eqb kind 2) (used (4 + count))
    (cond (eqb kind 3) 2
    (cond (eqb kind 8) 2
    (cond (eqb kind 9) 2
    (cond (eqb kind 10) 2
    (cond (eqb kind 13) 2
    (cond (eqb kind 17) (used (5 + count))
    (cond (eqb kind 18) (used (5 + count))
    (cond (eqb kind 255) (used (3 + count))
    1)))))))))

-- how many expressions follow the row of an activity: one after a set, a choose and a repeat
unfoldable pub opens : (kind : ℕ) → ℕ
opens kind = cond (eqb kind 3) 1 (cond (eqb kind 6) 1 (cond (eqb kind 7) 1 0))

-- The next row, where `due` expressions are to come before activity k: a constant or a variable has two numbers, and all other expressions have one,
-- and two more that come after it.
unfoldable pub row_width : (s t : List ℕ) → (k due at : ℕ) → ℕ
row_width s t k due at = cond (eqb due 0) (width_of (kind_at t k at) (count_in t k)) (cond (ltb (value_in s at) 2) 2 1)

unfoldable pub due_after : (s t : List ℕ) → (k due at : ℕ) → ℕ
due_after s t k due at = cond (eqb due 0) (opens (kind_at t k at)) (cond (ltb (value_in s at) 2) (due - 1) (due + 1))

unfoldable pub k_after : List ℕ → (k due at : ℕ) → ℕ
k_after t k due at = cond (eqb due 0) (cond (ltb at (place_in t k)) k (k + 1)) k

-- `left` rows from `at` on
unfoldable pub cut_rows : (left : ℕ) → (s t : List ℕ) → (k due at : ℕ) → List (List ℕ)
cut_rows zero s t k due at = []
cut_rows (suc left) s t k due at =
    numbers_in (row_width s t k due at) s at
    ∷ cut_rows left s t (k_after t k due at) (due_after s t k due at) (place_after (row_width s t k due at) s at)

-- the head: version, count of variables and count of correlation variables, and these
unfoldable pub head_width : List ℕ → ℕ
head_width s = used (3 + value_in s (next_in s (next_in s 0)))

-- the head's row and `left` more
unfoldable pub cut_plan : (left : ℕ) → (s t : List ℕ) → List (List ℕ)
cut_plan left s t = numbers_in (head_width s) s 0 ∷ cut_rows left s t 0 0 (place_after (head_width s) s 0)
