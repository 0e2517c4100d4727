-- Meaning: which number a name stands for, by a table of names: 512 places of 33 bytes, each the length of a name and its characters. Assumes nothing: these
-- are definitions.
use Rattle.std.specs.Prelude.{ℕ, zero, suc, ◌+◌, ◌*◌, Bool, cond, not, ◌&&◌, List, length, take, drop, get_or, eqb, ltb, Option, Some, None, Result, Ok, Err}
use Rattle.text.specs.declared.DecimalError.{DecimalError}
use Rattle.text.specs.declared.DecimalError.TheVariants.{Large as LargeNumber, Bad}
use Rattle.text.specs.Words.{same_text}
use Rattle.text.specs.Decimals.{decimal_of}
use Rattle.names.specs.declared.NameError.{NameError}
use Rattle.names.specs.declared.NameError.TheVariants.{Large, Unnamed, Unnumbered}

-- how long the name at a place is; a length of 33 or more, which no name has, counts as none
unfoldable pub length_at : List ℕ → (place : ℕ) → ℕ
length_at names place =
    cond (ltb place 512) (cond (ltb (get_or names (place * 33) 0) 33) (get_or names (place * 33) 0) 0) 0

-- the characters of the name at a place
unfoldable pub name_at : List ℕ → (place : ℕ) → List ℕ
name_at names place = take (length_at names place) (drop (place * 33 + 1) names)

-- whether a word is the name at a place; the empty word is no name
unfoldable pub is_named : List ℕ → (place : ℕ) → (word : List ℕ) → Bool
is_named names place word = not (eqb (length word) 0) && same_text (name_at names place) word

-- the first number from k on of which a test holds, of `left` numbers
unfoldable pub first_from : (left k : ℕ) → (ℕ → Bool) → Option ℕ
first_from zero k f = None
first_from (suc left) k f = cond (f k) (Some k) (first_from left (k + 1) f)

-- the number of what is called so, where the names of `many` stand from the place `first` on
unfoldable pub number_named : List ℕ → (first many : ℕ) → (word : List ℕ) → Option ℕ
number_named names first many word = first_from many 0 (λ k. is_named names (first + k) word)

-- a partner or an operation that was found, or not
abbrev pub numbered : Option ℕ → Result ℕ NameError
numbered (Some k) = Ok k
numbered None = Err Unnamed

-- what word n of a message names: the first a partner, the second an operation, and all others are numbers
unfoldable pub by_name : List ℕ → (n : ℕ) → (word : List ℕ) → Result ℕ NameError
by_name names n word =
    cond (eqb n 0) (numbered (number_named names 16 64 word))
    (cond (eqb n 1) (numbered (number_named names 80 64 word)) (Err Unnumbered))

-- a number stands for itself; a word that is none, for what it names
unfoldable pub or_else : Result ℕ DecimalError → Result ℕ NameError → Result ℕ NameError
or_else (Ok n) named = Ok n
or_else (Err LargeNumber) named = Err Large
or_else (Err Bad) named = named

unfoldable pub stands_for : List ℕ → (n : ℕ) → (word : List ℕ) → Result ℕ NameError
stands_for names n word = or_else (decimal_of word) (by_name names n word)
