-- Meaning: the seal of bytes. Two sums below 2^32, the weight and the moment: each byte adds to the weight, and the weight, as it then is, to the moment. So the weight
-- tells a byte that was changed, and the moment two that changed places. Assumes nothing: these are definitions.
use Rattle.std.specs.Prelude.{ℕ, ◌+◌, ◌*◌, ◌%◌, ◌<◌, ◌≡◌, List, [], ◌∷◌, ◌++◌}

-- both sums as one number, the weight below
abbrev pub both : (weight moment : ℕ) → ℕ
both w m = m * 4294967296 + w

unfoldable pub seal_from : List ℕ → (weight moment : ℕ) → ℕ
seal_from [] w m = both w m
seal_from (b ∷ l) w m = let v = (w + b) % 4294967296 in seal_from l v ((m + v) % 4294967296)

unfoldable pub seal_of : List ℕ → ℕ
seal_of l = seal_from l 1 0

-- What was saved cannot lie in one byte: bytes that differ in one place alone have other seals.
unfoldable pub ChangeTold : Type 0
ChangeTold = (l r : List ℕ) (b c : ℕ) → b < 256 → c < 256 → seal_of (l ++ (b ∷ r)) ≡ seal_of (l ++ (c ∷ r)) → b ≡ c
