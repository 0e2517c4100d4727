-- Glue: how receives that disagree are found in one pass: what was heard so far. Assumes nothing: these are definitions, and nothing here has to be believed.
use Rattle.std.specs.Prelude.{ℕ, zero, suc, ◌+◌, ◌*◌, ◌%◌, cond, ◌||◌, List, [], ◌∷◌, ◌++◌, eqb, get_or, set, replicate}
use Rattle.plan.specs.Agree.{Asked, asking}

-- For each pair of a partner and an operation the count of its first receive or arm, in a byte, 0 where there is none yet; and the place of the first
-- count that differs from that one, 0 where none does.
pub record Noted : Type 0 where
  pub counts : List ℕ
  pub first : ℕ

abbrev pub noted : (counts : List ℕ) → (first : ℕ) → Noted
noted counts first = record { counts = counts; first = first }

abbrev pub blank_heard : Noted
blank_heard = noted (replicate 4096 0) 0

-- where a pair has its count
abbrev pub pair_of : (partner operation : ℕ) → ℕ
pair_of partner operation = partner % 64 * 64 + operation % 64

unfoldable pub heard : Asked → Noted → Noted
heard a t =
    cond (eqb (get_or t.counts (pair_of a.partner a.operation) 0) 0) (noted (set t.counts (pair_of a.partner a.operation) (a.many % 256)) t.first)
    (cond (eqb (get_or t.counts (pair_of a.partner a.operation) 0) a.many) t
    (cond (eqb t.first 0) (noted t.counts a.place) t))

-- one after the other
unfoldable pub heard_all : List Asked → Noted → Noted
heard_all [] t = t
heard_all (a ∷ l) t = heard_all l (heard a t)

-- how many bytes stand before the count of a receive, or of an arm: its code, its partner and its operation have one each
unfoldable pub ahead_of : (kind : ℕ) → ℕ
ahead_of kind = cond (eqb kind 2 || eqb kind 18) 3 (cond (eqb kind 255) 2 0)

-- what row k of a plan's table asks for
unfoldable pub row_asked : List ℕ → (k : ℕ) → List Asked
row_asked t k =
    cond (eqb (ahead_of (get_or t (k * 13 + 0) 0)) 0) []
    (asking (get_or t (k * 13 + 1) 0) (get_or t (k * 13 + 2) 0) (get_or t (k * 13 + 3) 0) (get_or t (k * 13 + 10) 0 + ahead_of (get_or t (k * 13 + 0) 0)) ∷ [])

-- what `left` rows from k on ask for
unfoldable pub rows_asked : (left : ℕ) → List ℕ → (k : ℕ) → List Asked
rows_asked zero t k = []
rows_asked (suc left) t k = row_asked t k ++ rows_asked left t (k + 1)

-- the place of the first count that differs, 0 where none does
unfoldable pub differing : List Asked → ℕ
differing l = (heard_all l blank_heard).first
