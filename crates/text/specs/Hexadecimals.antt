-- Meaning: bytes in hexadecimal: two digits for each byte, in either case, or '-' for no bytes. Assumes nothing: these are definitions.
use Rattle.std.specs.Prelude.{ℕ, zero, suc, ◌+◌, ◌-◌, ◌*◌, ◌/◌, ◌%◌, Bool, cond, List, [], ◌∷◌, ◌≡◌, length, get_or, set, eqb, ltb, leb, bytes_eq, Result, Ok, Err}
use Rattle.std.specs.Char.{is_ascii_hexdigit}
use Rattle.text.specs.declared.HexError.{HexError}
use Rattle.text.specs.declared.HexError.TheVariants.{Long, Bad}
use Rattle.text.specs.Words.{all}

-- '0' to '9', 'A' to 'F', 'a' to 'f'
abbrev pub hex_digit : ℕ → Bool
hex_digit b = is_ascii_hexdigit b

-- what a digit counts, and 0 for what is none
unfoldable pub hex_value : ℕ → ℕ
hex_value b =
    cond (ltb b 48) 0 (cond (leb b 57) (b - 48)
    (cond (ltb b 65) 0 (cond (leb b 70) (b - 55)
    (cond (ltb b 97) 0 (cond (leb b 102) (b - 87) 0)))))

-- the word '-'
abbrev pub dash : List ℕ → Bool
dash s = bytes_eq s (45 ∷ [])

-- how many bytes a word spells, if it spells any and they are at most 8,000
unfoldable pub hex_of : List ℕ → Result ℕ HexError
hex_of s =
    cond (dash s) (Ok 0)
    (cond (eqb (length s) 0) (Err Bad)
    (cond (eqb (length s % 2) 1) (Err Bad)
    (cond (all hex_digit s)
    (cond (ltb 8000 (length s / 2)) (Err Long) (Ok (length s / 2)))
    (Err Bad))))

-- byte k of a word: its first digit counts 16 times
abbrev pub byte_of : List ℕ → (k : ℕ) → ℕ
byte_of s k = hex_value (get_or s (k * 2) 0) * 16 + hex_value (get_or s (k * 2 + 1) 0)

-- t with byte k of a word at its place k, for each of the first n bytes
unfoldable pub filled : List ℕ → (n : ℕ) → List ℕ → List ℕ
filled s zero t = t
filled s (suc n) t = set (filled s n t) n (byte_of s n)

-- u is t with the bytes of a word in its front, and t itself where the word spells none
abbrev pub Decoded : List ℕ → Result ℕ HexError → (t u : List ℕ) → Type 0
Decoded s (Ok n) t u = u ≡ filled s n t
Decoded s (Err e) t u = u ≡ t
