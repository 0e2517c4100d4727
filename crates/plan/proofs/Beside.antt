-- What is written before the rows of an activity, and what the activity writes, may be written in either order. Assumes nothing.
use mathlib.Core.Path.{◌≡◌, refl, ap, ◌∙◌}
use mathlib.Core.Bool.{Bool, true, false, cond, ◌||◌}
use mathlib.Core.List.{List, [], ◌∷◌}
use Prim.Native.Nat.{ℕ, ◌+◌, ◌*◌, ◌≤◌, ◌<◌}
use native.Mathlib.Omega.{arith}
use lib.Dec.{eqb}
use lib.ListN.{length, set}
use lib.Seq.{set_comm}
use Rattle.plan.specs.Numbering.{numbers_row}
use Rattle.plan.specs.Spell.{spell, own_numbers, gaps_of, later, passing, act_numbers, acts_numbers}
use Rattle.plan.specs.Store.{store}
use Rattle.plan.specs.Table.{noted, put_row, row_of, put_node, put_nodes, nodes_of, own_nodes, put_own_nodes, put_own, put_close, nodes, put, put_all}
use Rattle.plan.specs.Tree as tree
use Rattle.plan.specs.Tree.{Exp, constant, variable, binary, Own, empty, send, receive, raise, leave, choose, repeat, sequence, flow, pick, scope, arm, numbers_of, Act, act, Acts, none, more, size, sizes, count}

pub store_beside : (r : List ℕ) (base offset i x : ℕ) (t : List ℕ) → i < base + offset → store r base offset (set t i x) ≡ set (store r base offset t) i x
unfolding store
store_beside [] base offset i x t h = refl
store_beside (y ∷ r) base offset i x t h =
    ap (store r base (offset + 1)) (set_comm t i (base + offset) x y (λ e. omega arith))
    ∙ store_beside r base (offset + 1) i x (set t (base + offset) y) (omega arith)

-- a place in the rows
module _ (i x : ℕ) (low : i < 3328) where
  pub noted-beside : (k p : ℕ) (t : List ℕ) → noted k p (set t i x) ≡ set (noted k p t) i x
  unfolding noted
  noted-beside k p t = go (eqb k 2 || (eqb k 18 || eqb k 255))
    where
      go : (b : Bool) → cond b (store (1 ∷ []) (3328 + p) 0 (set t i x)) (set t i x) ≡ set (cond b (store (1 ∷ []) (3328 + p) 0 t) t) i x
      go true = store_beside (1 ∷ []) (3328 + p) 0 i x t (omega arith)
      go false = refl

  row-beside : (n : ℕ) (r t : List ℕ) → i < n * 13 → put_row n r (set t i x) ≡ set (put_row n r t) i x
  unfolding put_row
  row-beside n r t h = rw (store_beside r (n * 13) 0 i x t (omega arith)) (noted-beside _ _ (store r (n * 13) 0 t))

  node-beside : (m code value : ℕ) (t : List ℕ) → put_node m code value (set t i x) ≡ set (put_node m code value t) i x
  unfolding put_node
  node-beside m code value t = store_beside (code ∷ value ∷ []) (3392 + m * 2) 0 i x t (omega arith)

  nodes-beside : (e : Exp) (m : ℕ) (t : List ℕ) → put_nodes e m (set t i x) ≡ set (put_nodes e m t) i x
  unfolding put_nodes
  nodes-beside (constant value) m t = node-beside m 0 value t
  nodes-beside (variable number) m t = node-beside m 1 number t
  nodes-beside (binary operation left right) m t =
      rw (nodes-beside left (m + 1) t, node-beside m _ _ (put_nodes left (m + 1) t)) (nodes-beside right (m + 1 + nodes_of left) _)

  own-nodes-beside : (own : Own) (m : ℕ) (t : List ℕ) → put_own_nodes own m (set t i x) ≡ set (put_own_nodes own m t) i x
  unfolding put_own_nodes
  own-nodes-beside empty m t = refl
  own-nodes-beside (send p o vs) m t = refl
  own-nodes-beside (receive p o vs) m t = refl
  own-nodes-beside (tree.set v e) m t = nodes-beside e m t
  own-nodes-beside (raise n) m t = refl
  own-nodes-beside leave m t = refl
  own-nodes-beside (choose e) m t = nodes-beside e m t
  own-nodes-beside (repeat e) m t = nodes-beside e m t
  own-nodes-beside sequence m t = refl
  own-nodes-beside flow m t = refl
  own-nodes-beside pick m t = refl
  own-nodes-beside (scope ns undo) m t = refl
  own-nodes-beside (arm p o vs) m t = refl

  own-beside : (own : Own) (at n m : ℕ) (t : List ℕ) → i < n * 13 → put_own own at n m (set t i x) ≡ set (put_own own at n m t) i x
  unfolding put_own
  own-beside own at n m t h = rw (own-nodes-beside own m t) (row-beside n (row_of own m at) (put_own_nodes own m t) h)

  close-beside : (n end stop : ℕ) (t : List ℕ) → i < n * 13 → put_close n end stop (set t i x) ≡ set (put_close n end stop t) i x
  unfolding put_close
  close-beside n end stop t h = store_beside (end ∷ stop ∷ []) (n * 13) 11 i x t (omega arith)

  mutual
    unfolding put put_all

    put-beside : (a : Act) (at n m : ℕ) (t : List ℕ) → i < n * 13 → put a at n m (set t i x) ≡ set (put a at n m t) i x
    put-beside (act own l) at n m t h =
        rw (own-beside own at n m t h, all-beside (gaps_of (numbers_of own)) l (at + length (spell (own_numbers own (count l)))) (n + 1) (m + own_nodes own) (put_own own at n m t) (omega arith))
        (close-beside n (n + 1 + sizes l) (at + length (spell (own_numbers own (count l))) + length (spell (acts_numbers (gaps_of (numbers_of own)) l))) _ h)

    all-beside : (gs : List (List ℕ)) (l : Acts) (at n m : ℕ) (t : List ℕ) → i < n * 13 → put_all gs l at n m (set t i x) ≡ set (put_all gs l at n m t) i x
    all-beside gs none at n m t h = refl
    all-beside gs (more a l) at n m t h =
        rw (put-beside a (passing gs at) n m t h)
        (all-beside (later gs) l (passing gs at + length (spell (act_numbers a))) (n + size a) (m + nodes a) (put a (passing gs at) n m t) (omega arith))

-- numbers before the rows of an activity
stored-beside : (r : List ℕ) (base offset : ℕ) (a : Act) (at n m : ℕ) (t : List ℕ) → base + offset + length r ≤ n * 13 → base + offset + length r ≤ 3328
    → store r base offset (put a at n m t) ≡ put a at n m (store r base offset t)
unfolding store
stored-beside [] base offset a at n m t h l = refl
stored-beside (x ∷ r) base offset a at n m t h l =
    rw (← put-beside (base + offset) x (omega arith) a at n m t (omega arith))
    (stored-beside r base (offset + 1) a at n m (set t (base + offset) x) (omega arith) (omega arith))

-- the row of a scope with fault parts by number, and an activity after it
pub numbers-beside : (row : ℕ) (l : List ℕ) (k place : ℕ) (a : Act) (at n m : ℕ) (t : List ℕ) → row < n → row < 256
    → put_row row (numbers_row l k place) (put a at n m t) ≡ put a at n m (put_row row (numbers_row l k place) t)
unfolding put_row noted
numbers-beside row l k place a at n m t h b = stored-beside (numbers_row l k place) (row * 13) 0 a at n m t (omega arith) (omega arith)
