-- Glue: the numbers of a scope's fault parts while they are read: k of them stand in a list of eight, with zeros behind them. Assumes nothing: these are
-- definitions, and nothing here has to be believed.
use Rattle.std.specs.Prelude.{ℕ, zero, suc, ◌+◌, ◌*◌, List, [], ◌∷◌, get_or}

-- the first k, the latest first: so `fault_number_in` is handed those that are read
unfoldable pub backwards : (k : ℕ) → List ℕ → List ℕ
backwards zero l = []
backwards (suc k) l = get_or l k 0 ∷ backwards k l

-- the variables that row n of a table names, the latest first
abbrev pub named : List ℕ → (n : ℕ) → List ℕ
named t n =
    backwards (get_or t (n * 13 + 3) 0)
    (get_or t (n * 13 + 4) 0 ∷ get_or t (n * 13 + 5) 0 ∷ get_or t (n * 13 + 6) 0 ∷ get_or t (n * 13 + 7) 0 ∷ 0 ∷ 0 ∷ 0 ∷ 0 ∷ [])

-- the row of a scope at `at` with `count` fault parts by number, whose numbers stand in l
abbrev pub numbers_row : List ℕ → (count at : ℕ) → List ℕ
numbers_row l count at =
    14 ∷ get_or l 0 0 ∷ get_or l 1 0 ∷ count ∷ get_or l 2 0 ∷ get_or l 3 0 ∷ get_or l 4 0 ∷ get_or l 5 0 ∷ get_or l 6 0 ∷ get_or l 7 0 ∷ at ∷ []
