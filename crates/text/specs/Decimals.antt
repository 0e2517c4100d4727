-- Meaning: decimal numbers up to 4,294,967,295. Assumes nothing: these are definitions.
use Rattle.std.specs.Prelude.{ℕ, ◌+◌, ◌-◌, ◌*◌, Bool, cond, List, [], ◌∷◌, length, eqb, ltb, Result, Ok, Err}
use Rattle.std.specs.Char.{is_ascii_digit}
use Rattle.text.specs.declared.DecimalError.{DecimalError}
use Rattle.text.specs.declared.DecimalError.TheVariants.{Large, Bad}
use Rattle.text.specs.Words.{all}

-- '0' to '9'
abbrev pub digit : ℕ → Bool
digit b = is_ascii_digit b

-- the value of digits that follow those that make `sum`
unfoldable pub value_from : List ℕ → (sum : ℕ) → ℕ
value_from [] sum = sum
value_from (b ∷ l) sum = value_from l (sum * 10 + (b - 48))

-- one digit or more, and nothing else; zeros may stand in front
unfoldable pub decimal_of : List ℕ → Result ℕ DecimalError
decimal_of s =
    cond (eqb (length s) 0) (Err Bad)
    (cond (all digit s)
    (cond (ltb 4294967295 (value_from s 0)) (Err Large) (Ok (value_from s 0)))
    (Err Bad))
