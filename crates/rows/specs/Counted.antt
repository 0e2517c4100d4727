-- Meaning: tables in which each row has as many numbers as its code asks for: those whose refusals are their bytes'. Assumes nothing: these are definitions.
use Rattle.std.specs.Prelude.{ℕ, zero, suc, ◌+◌, ◌*◌, ◌/◌, Bool, true, cond, ◌&&◌, ◌||◌, List, [], ◌∷◌, ◌++◌, leb, eqb, length, replicate}
use Rattle.writer.specs.Reading.{cell, shaped}

-- What a row may stand for.
pub data Part : Type 0 where
  a_head : Part
  an_activity : Part
  an_arm : Part
  an_expression : Part
  a_count : Part
  a_number : Part

-- how many numbers an activity has: of a send and a receive, `count` is the count of their variables
unfoldable pub activity_asks : (code count : ℕ) → ℕ
activity_asks code n =
    cond (eqb code 1 || eqb code 2) (4 + n)
    (cond (eqb code 17 || eqb code 18) (5 + n)
    (cond (eqb code 3 || (eqb code 8 || (eqb code 9 || (eqb code 10 || eqb code 13)))) 2 1))

-- how many numbers row r asks for, by its code and its counts
unfoldable pub asks : Part → List ℕ → (r : ℕ) → ℕ
asks a_head t r = 3 + cell t r 3
asks an_activity t r = activity_asks (cell t r 1) (cell t r 4)
asks an_arm t r = 3 + cell t r 3
asks an_expression t r = cond (leb (cell t r 1) 1) 2 1
asks a_count t r = 1
asks a_number t r = 1

-- n of them; none where so many are not allowed
unfoldable pub times : (most n : ℕ) → Part → List Part
times most n p = cond (leb n most) (replicate n p) []

-- what the rows after an activity stand for, by its code and its count
unfoldable pub activity_has : (code count : ℕ) → List Part
activity_has code n =
    cond (eqb code 3) (an_expression ∷ [])
    (cond (eqb code 6) (an_expression ∷ an_activity ∷ an_activity ∷ [])
    (cond (eqb code 7) (an_expression ∷ an_activity ∷ [])
    (cond (eqb code 8 || eqb code 9) (times 32 n an_activity)
    (cond (eqb code 10) (times 8 n an_arm)
    (cond (eqb code 11) (an_activity ∷ an_activity ∷ an_activity ∷ [])
    (cond (eqb code 12) (an_activity ∷ an_activity ∷ [])
    (cond (eqb code 14) (an_activity ∷ a_count ∷ []) [])))))))

-- what the rows after a count of fault parts by number stand for: each has its number before it, and two parts follow them
unfoldable pub numbered_has : (count : ℕ) → List Part
numbered_has zero = an_activity ∷ an_activity ∷ []
numbered_has (suc n) = a_number ∷ an_activity ∷ numbered_has n

-- what the rows after row r stand for
unfoldable pub has : Part → List ℕ → (r : ℕ) → List Part
has a_head t r = an_activity ∷ an_activity ∷ []
has an_activity t r = activity_has (cell t r 1) (cell t r 2)
has an_arm t r = an_activity ∷ []
has an_expression t r = cond (leb (cell t r 1) 1) [] (an_expression ∷ an_expression ∷ [])
has a_count t r = cond (leb (cell t r 1) 8) (numbered_has (cell t r 1)) []
has a_number t r = []

-- `left` rows from row r on, which are to stand for these: each has the count that it asks for, and 0 in the places behind; of rows left over the
-- first has a number
unfoldable pub counted_from : (left : ℕ) → List ℕ → (r : ℕ) → List Part → Bool
counted_from zero t r ps = true
counted_from (suc left) t r [] = leb 1 (cell t r 0)
counted_from (suc left) t r (p ∷ ps) = shaped t r (asks p t r) && counted_from left t (r + 1) (has p t r ++ ps)

-- a table of whole rows, counted so
unfoldable pub counted : List ℕ → Bool
counted t = eqb (length t / 20 * 20) (length t) && counted_from (length t / 20) t 0 (a_head ∷ [])
