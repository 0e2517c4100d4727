-- Meaning: a state of any version brought up to date: what is answered, and what the caller's bytes hold afterwards. Assumes nothing: these are definitions.
-- There are four versions: that of today, which is what `unpacked` reads, and the three before it.
use Rattle.std.specs.Prelude.{ℕ, Bool, cond, ◌||◌, List, eqb, length}
use Rattle.store.specs.Packed.{holds}
use Rattle.boundary_state.specs.Older.{holds_first, holds_second, holds_third, renewed, with_causes, with_replies}

-- a state of this version as it is, and one of an older version through each that came after it
unfoldable pub brought_up : List ℕ → List ℕ
brought_up s =
    cond (holds_first s) (with_replies (with_causes (renewed s))) (cond (holds_second s) (with_replies (with_causes s)) (cond (holds_third s) (with_replies s) s))

-- 18 where there is no room for a state, 17 where the old bytes hold none
unfoldable pub upgrade_number : (old : List ℕ) → List ℕ → ℕ
upgrade_number s l = cond (eqb (length l) 12748) (cond (holds_first s || (holds_second s || (holds_third s || holds s))) 0 17) 18

-- the state that the old bytes hold; unchanged where the call is refused
unfoldable pub upgrade_bytes : (old : List ℕ) → List ℕ → List ℕ
upgrade_bytes s l = cond (eqb (upgrade_number s l) 0) (brought_up s) l
