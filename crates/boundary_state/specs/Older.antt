-- Meaning: a state of an older version as one of the next: of the first, MOONHAL1, as one of the second, MOONHAL2, of that as one of the third, MOONHAL3, and of that as one
-- of today. Assumes nothing: these are definitions. Up to the third all stands at the same place before the orders, from 5,932 on.
use Rattle.std.specs.Prelude.{ℕ, zero, suc, ◌+◌, ◌*◌, ◌-◌, ◌/◌, ◌%◌, ◌≤◌, Bool, cond, ◌&&◌, List, [], ◌∷◌, ◌≡◌, eqb, leb, ltb, length, get_or, take, drop}
use Rattle.plan.specs.Answers.{table_for}
use Rattle.plan.specs.Read.{read_plan}
use Rattle.store.specs.Bytes.{valued, eight_at}

-- bytes of a version: as many as it has, with its mark in front
unfoldable pub marked : (size mark : ℕ) → List ℕ → Bool
marked n m s = eqb (length s) n && eqb (eight_at s 0) m

-- "MOONHAL1", "MOONHAL2" and "MOONHAL3"
abbrev pub first_mark : List ℕ
first_mark = 77 ∷ 79 ∷ 79 ∷ 78 ∷ 72 ∷ 65 ∷ 76 ∷ 49 ∷ []

abbrev pub second_mark : List ℕ
second_mark = 77 ∷ 79 ∷ 79 ∷ 78 ∷ 72 ∷ 65 ∷ 76 ∷ 50 ∷ []

abbrev pub third_mark : List ℕ
third_mark = 77 ∷ 79 ∷ 79 ∷ 78 ∷ 72 ∷ 65 ∷ 76 ∷ 51 ∷ []

abbrev pub holds_first : List ℕ → Bool
holds_first s = marked 11964 (valued first_mark) s

abbrev pub holds_second : List ℕ → Bool
holds_second s = marked 12476 (valued second_mark) s

abbrev pub holds_third : List ℕ → Bool
holds_third s = marked 12492 (valued third_mark) s

-- n bytes from the place i on
unfoldable pub placed : (byte : ℕ → ℕ) → (n i : ℕ) → List ℕ
placed f zero i = []
placed f (suc n) i = f i ∷ placed f n (i + 1)

-- FROM THE FIRST TO THE SECOND. An order has 377 bytes in the first and 409 in the second, since a closing has one byte there, the number of the scope that closed,
-- and two then, with the part that it is remembered for.

-- the plan: its length in the 8 bytes from 28 on, its bytes from 36 on, up to 4,096
unfoldable pub plan_end : List ℕ → ℕ
plan_end s = cond (leb (eight_at s 28) 4096) (eight_at s 28 + 36) 36

pub record PlanEnds (s : List ℕ) (r : ℕ) : Type 0 where
  pub is : r ≡ plan_end s
  pub low : 36 ≤ r
  pub high : r ≤ 4132

abbrev pub old_plan : List ℕ → List ℕ
old_plan s = take (plan_end s - 36) (drop 36 s)

-- "Close remembers the scope for the nearest scope around it": whether row j is a scope that row k stands in, and by the rows below j the part that the closing of
-- scope k is remembered for: the body of the nearest such scope, which is the row after it, or the root's. No plan of that time has a scope of code 12 or 14.
abbrev pub is_around : (table : List ℕ) → (j k : ℕ) → Bool
is_around t j k = eqb (get_or t (j * 13) 0) 11 && ltb k (get_or t (j * 13 + 11) 0)

unfoldable pub part_around : (table : List ℕ) → (k j : ℕ) → ℕ
part_around t k zero = 0
part_around t k (suc j) = cond (is_around t j k) (j + 1) (part_around t k j)

-- the two bytes of the closing of scope k
abbrev pub closing_byte : (table : List ℕ) → (k half : ℕ) → ℕ
closing_byte t k half = cond (eqb half 0) k (part_around t k k)

-- a byte of an order, whose bytes start at `at` in the first version; 337 stand before its closings, and then 8 more
unfoldable pub order_byte : List ℕ → (table : List ℕ) → (at within : ℕ) → ℕ
order_byte s t at r =
    cond (ltb r 337) (get_or s (at + r) 0)
    (cond (ltb r 401) (closing_byte t (get_or s (at + 337 + (r - 337) / 2) 0) ((r - 337) % 2)) (get_or s (at + r - 32) 0))

-- a byte of the state: the mark ends in 2, and all before the orders is as it was
unfoldable pub byte_of : List ℕ → (table : List ℕ) → (place : ℕ) → ℕ
byte_of s t i =
    cond (eqb i 7) 50 (cond (ltb i 5932) (get_or s i 0) (order_byte s t (5932 + (i - 5932) / 409 * 377) ((i - 5932) % 409)))

abbrev pub renewed_by : List ℕ → (table : List ℕ) → List ℕ
renewed_by s t = placed (byte_of s t) 12476 0

-- by the table of the plan, which is empty where the plan is refused
unfoldable pub renewed : List ℕ → List ℕ
renewed s = renewed_by s (table_for (read_plan (old_plan s)))

-- FROM THE SECOND TO THE THIRD. An order has 409 bytes there and 410 then: behind them stands the number of the fault that the root faulted with. None was kept, so it is 0, also
-- where the root has faulted.

-- a byte of an order, whose bytes start at `at` in the second version
unfoldable pub cause_byte : List ℕ → (at within : ℕ) → ℕ
cause_byte s at r = cond (ltb r 409) (get_or s (at + r) 0) 0

-- a byte of the state: the mark ends in 3, and all before the orders is as it was
unfoldable pub byte_with : List ℕ → (place : ℕ) → ℕ
byte_with s i = cond (eqb i 7) 51 (cond (ltb i 5932) (get_or s i 0) (cause_byte s (5932 + (i - 5932) / 410 * 409) ((i - 5932) % 410)))

abbrev pub with_causes : List ℕ → List ℕ
with_causes s = placed (byte_with s) 12492 0

-- FROM THE THIRD TO THIS. A message has 28 bytes there and 32 now: behind them stand the four of the partner to reply to. None was kept, so they are 0, and the orders
-- stand 256 bytes further on.

-- a byte of a message, whose bytes start at `at` in the third version
unfoldable pub reply_byte : List ℕ → (at within : ℕ) → ℕ
reply_byte s at r = cond (ltb r 28) (get_or s (at + r) 0) 0

-- a byte of the state: the mark ends in 4, and all before the messages and all behind them is as it was
unfoldable pub byte_now : List ℕ → (place : ℕ) → ℕ
byte_now s i =
    cond (eqb i 7) 52
    (cond (ltb i 4140) (get_or s i 0)
    (cond (ltb i 6188) (reply_byte s (4140 + (i - 4140) / 32 * 28) ((i - 4140) % 32)) (get_or s (i - 256) 0)))

abbrev pub with_replies : List ℕ → List ℕ
with_replies s = placed (byte_now s) 12748 0
