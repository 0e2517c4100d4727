-- Glue: going through a list with a state. Assumes nothing: these are definitions, and nothing here has to be believed.
use Rattle.std.specs.Prelude.{ℕ, cond, List, [], ◌∷◌, ltb}

-- the state after each of a list, one after the other
unfoldable pub folded : {A S : Type 0} → (A → S → S) → List A → S → S
folded f [] s = s
folded f (a ∷ l) s = folded f l (f a s)

-- the lesser of two numbers
unfoldable pub lesser : ℕ → ℕ → ℕ
lesser x c = cond (ltb x c) x c
