-- The ends of the rows of an activity. Assumes nothing.
use mathlib.Core.List.{List}
use Prim.Native.Nat.{ℕ, ◌+◌, ◌*◌, ◌<◌, ◌≤◌}
use native.Mathlib.Decide.{ℕ_discrete, dec_lt}
use native.Mathlib.Omega.{arith}
use lib.ListN.{get_or}
use Rattle.plan.specs.Spell.{gaps_of, later, passing}
use Rattle.plan.specs.Spells.{Spells, SpellsAll}
use Rattle.plan.specs.Tree.{numbers_of, Act, act, Acts, none, more, size, sizes}

-- no row of an activity reaches beyond the activity
mutual
  unfolding Spells size

  pub ends-in : (t : List ℕ) (a : Act) (at n q : ℕ) → Spells a at n q t → (j : ℕ) → n ≤ j → j < n + size a
      → get_or t (j * 13 + 11) 0 ≤ n + size a
  ends-in t (act own l) at n q s j h g =
      elim (ℕ_discrete j n) [
        | yes e ↦ rw e (omega (arith, s.row.end))
        | no e ↦ let w = ends-all t (gaps_of (numbers_of own)) l _ (n + 1) _ s.within j (omega (arith, e)) (omega arith) in omega (arith, w)
      ]

  ends-all : (t : List ℕ) (gs : List (List ℕ)) (l : Acts) (at n q : ℕ) → SpellsAll gs l at n q t → (j : ℕ) → n ≤ j → j < n + sizes l
      → get_or t (j * 13 + 11) 0 ≤ n + sizes l
  ends-all t gs none at n q s j h g = absurd (omega arith)
  ends-all t gs (more a l) at n q s j h g =
      elim (dec_lt j (n + size a)) [
        | yes e ↦ let w = ends-in t a (passing gs at) n q s.first j h e in omega (arith, w)
        | no e ↦ let w = ends-all t (later gs) l _ (n + size a) _ s.rest j (omega (arith, e)) (omega arith) in omega (arith, w)
      ]

pub size-some : (a : Act) → 0 < size a
unfolding size
size-some (act own l) = omega arith
