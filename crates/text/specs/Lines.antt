-- Meaning: a line as it is gathered, and as it counts once it has ended. Assumes nothing: these are definitions.
use Rattle.std.specs.Prelude.{ℕ, ◌-◌, cond, List, length, get_or, set, eqb, ltb, Option, Some, None}

-- one more byte after `length` of them, where there is room for it
unfoldable pub kept : List ℕ → (length b : ℕ) → List ℕ
kept line n b = cond (ltb n 16002) (set line n b) line

-- of a line without its line feed, how many characters count: a carriage return at the end is a part of the line end
unfoldable pub bare : List ℕ → ℕ
bare s = cond (eqb (get_or s (length s - 1) 0) 13) (length s - 1) (length s)

-- at most 16,000 characters
unfoldable pub line_of : List ℕ → Option ℕ
line_of s = cond (ltb 16000 (bare s)) None (Some (bare s))
