-- Meaning: numbers and lists of numbers as bytes, the least byte first, and back. Assumes nothing: these are definitions.
use Rattle.std.specs.Prelude.{ℕ, zero, suc, ◌+◌, ◌*◌, ◌/◌, ◌%◌, cond, List, [], ◌∷◌, leb, length, take, drop}

-- a number in w bytes
unfoldable pub spelled : (w : ℕ) → ℕ → List ℕ
spelled zero n = []
spelled (suc w) n = n % 256 ∷ spelled w (n / 256)

-- the number that bytes spell
unfoldable pub valued : List ℕ → ℕ
valued [] = 0
valued (b ∷ l) = b + 256 * valued l

-- the number in the first w bytes
unfoldable pub number_in : (w : ℕ) → List ℕ → ℕ
number_in w s = valued (take w s)

-- the number in the 8 bytes from a place on, 0 where there are not as many
unfoldable pub eight_at : List ℕ → (at : ℕ) → ℕ
eight_at s at = cond (leb (at + 8) (length s)) (number_in 8 (drop at s)) 0

-- n things one after the other, each in w bytes and read by f
unfoldable pub many_in : {A : Type 0} → (f : List ℕ → A) → (w n : ℕ) → List ℕ → List A
many_in f w zero s = []
many_in f w (suc n) s = f s ∷ many_in f w n (drop w s)
