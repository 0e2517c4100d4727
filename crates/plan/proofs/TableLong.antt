-- A table stays as long as it was, whatever is written. Assumes nothing.
use mathlib.Core.Path.{◌≡◌, refl, ◌∙◌}
use mathlib.Core.Bool.{Bool, true, false, cond, ◌||◌}
use mathlib.Core.List.{List, [], ◌∷◌}
use Prim.Native.Nat.{ℕ, ◌+◌, ◌*◌}
use lib.Dec.{eqb}
use lib.ListN.{length}
use Rattle.plan.specs.Spell.{gaps_of, later, passing}
use Rattle.plan.specs.Store.{store}
use Rattle.plan.specs.Table.{row_of, noted, put_row, put_node, put_nodes, put_own_nodes, put_own, put_close, put, put_all}
use Rattle.plan.specs.Tree.{Exp, constant, variable, binary, Own, empty, send, receive, set, raise, leave, choose, repeat, sequence, flow, pick, scope, arm, numbers_of, Act, act, Acts, none, more}
use Rattle.plan.proofs.Stores.{length-store}

pub length-noted : (k p : ℕ) (t : List ℕ) → length (noted k p t) ≡ length t
unfolding noted
length-noted k p t = by-test (eqb k 2 || (eqb k 18 || eqb k 255))
  where
    by-test : (b : Bool) → length (cond b (store (1 ∷ []) (3328 + p) 0 t) t) ≡ length t
    by-test true = length-store (1 ∷ []) (3328 + p) 0 t
    by-test false = refl

length-put_nodes : (e : Exp) (m : ℕ) (t : List ℕ) → length (put_nodes e m t) ≡ length t
unfolding put_nodes put_node
length-put_nodes (constant v) m t = length-store _ (3392 + m * 2) 0 t
length-put_nodes (variable v) m t = length-store _ (3392 + m * 2) 0 t
length-put_nodes (binary o l r) m t = length-put_nodes r _ _ ∙ (length-store _ (3392 + m * 2) 0 _ ∙ length-put_nodes l (m + 1) t)

length-put_own_nodes : (own : Own) (m : ℕ) (t : List ℕ) → length (put_own_nodes own m t) ≡ length t
unfolding put_own_nodes
length-put_own_nodes empty m t = refl
length-put_own_nodes (send a b vs) m t = refl
length-put_own_nodes (receive a b vs) m t = refl
length-put_own_nodes (set v e) m t = length-put_nodes e m t
length-put_own_nodes (raise number) m t = refl
length-put_own_nodes leave m t = refl
length-put_own_nodes (choose e) m t = length-put_nodes e m t
length-put_own_nodes (repeat e) m t = length-put_nodes e m t
length-put_own_nodes sequence m t = refl
length-put_own_nodes flow m t = refl
length-put_own_nodes pick m t = refl
length-put_own_nodes (scope ns undo) m t = refl
length-put_own_nodes (arm a b vs) m t = refl

length-put_own : (own : Own) (at n m : ℕ) (t : List ℕ) → length (put_own own at n m t) ≡ length t
unfolding put_own put_row
length-put_own own at n m t = length-noted _ _ _ ∙ (length-store (row_of own m at) (n * 13) 0 _ ∙ length-put_own_nodes own m t)

mutual
  unfolding put put_close

  length-put : (a : Act) (at n m : ℕ) (t : List ℕ) → length (put a at n m t) ≡ length t
  length-put (act own l) at n m t = length-store _ (n * 13) 11 _ ∙ (length-put_all (gaps_of (numbers_of own)) l _ (n + 1) _ _ ∙ length-put_own own at n m t)

  pub length-put_all : (gs : List (List ℕ)) (l : Acts) (at n m : ℕ) (t : List ℕ) → length (put_all gs l at n m t) ≡ length t
  length-put_all gs none at n m t = refl
  length-put_all gs (more a l) at n m t = length-put_all (later gs) l _ _ _ _ ∙ length-put a (passing gs at) n m t
