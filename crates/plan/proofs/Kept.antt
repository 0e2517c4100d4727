-- What is written into the table of a plan, and what each writing leaves as it was. Assumes nothing.
use mathlib.Core.Path.{◌≡◌, refl, ◌∙◌}
use mathlib.Core.Bool.{Bool, true, false, cond, ◌||◌}
use mathlib.Core.List.{List, [], ◌∷◌}
use Prim.Native.Nat.{ℕ, zero, suc, ◌+◌, ◌*◌, ◌≤◌, ◌<◌}
use native.Mathlib.Omega.{arith}
use lib.Dec.{eqb}
use lib.ListN.{length, get_or, length-set}
use lib.ListN as lists
use lib.Seq.{get_or-set_same, get_or-set_other}
use Rattle.plan.specs.Spell.{operation_code, gaps_of, later, passing}
use Rattle.plan.specs.Spells.{variables_of}
use Rattle.plan.specs.Store.{store, padded}
use Rattle.plan.specs.Table.{row, row_of, noted, put_row, nodes_of, put_node, put_nodes, own_nodes, put_own_nodes, put_own, put_close, nodes, nodes_all, put, put_all}
use Rattle.plan.specs.Tree.{Exp, constant, variable, binary, Own, empty, to_partner, to_held, from_partner, from_asking, send, receive, set, raise, leave, choose, repeat, sequence, flow, pick, scope, arm, kind, numbers_of, Act, act, Acts, none, more, size, sizes}

-- u is as long as t, and has its numbers but from k up to, not including, e
pub record But (k e : ℕ) (t u : List ℕ) : Type 0 where
  pub long : length u ≡ length t
  pub below : (i : ℕ) → i < k → get_or u i 0 ≡ get_or t i 0
  pub above : (i : ℕ) → e ≤ i → get_or u i 0 ≡ get_or t i 0

-- numbers stored one after the other change no others
pub store-but : (l : List ℕ) (base offset : ℕ) (t : List ℕ) → But (base + offset) (base + offset + length l) t (store l base offset t)
unfolding store
store-but [] base offset t = record { long = refl; below = λ i h. refl; above = λ i h. refl }
store-but (x ∷ l) base offset t =
    let r = store-but l base (offset + 1) (lists.set t (base + offset) x) in
    record {
      long = r.long ∙ length-set t (base + offset) x;
      below = λ i h. r.below i (omega arith) ∙ get_or-set_other t (base + offset) i x 0 (λ q. omega arith);
      above = λ i h. r.above i (omega arith) ∙ get_or-set_other t (base + offset) i x 0 (λ q. omega arith);
    }

-- and stand there after it
pub store_at : (l : List ℕ) (base offset : ℕ) (t : List ℕ) → base + offset + length l ≤ length t
    → (j : ℕ) → j < length l → get_or (store l base offset t) (base + offset + j) 0 ≡ get_or l j 0
unfolding store
store_at [] base offset t f j h = absurd (omega arith)
store_at (x ∷ l) base offset t f zero h =
    let q : base + offset + 0 ≡ base + offset = omega arith in
    rw q
    ((store-but l base (offset + 1) (lists.set t (base + offset) x)).below (base + offset) (omega arith)
    ∙ get_or-set_same t (base + offset) x 0 (omega arith))
store_at (x ∷ l) base offset t f (suc j) h =
    let q : base + offset + suc j ≡ base + (offset + 1) + j = omega arith in
    let s = length-set t (base + offset) x in
    rw q (store_at l base (offset + 1) (lists.set t (base + offset) x) (omega arith) j (omega arith))

-- u is as long as t, and has its rows but from n up to, not including, e, and its nodes but from m up to, not including, f; flags may differ
pub record Kept (n e m f : ℕ) (t u : List ℕ) : Type 0 where
  pub long : length u ≡ length t
  pub rows_below : (i : ℕ) → i < n * 13 → get_or u i 0 ≡ get_or t i 0
  pub rows_above : (i : ℕ) → e * 13 ≤ i → i < 3328 → get_or u i 0 ≡ get_or t i 0
  pub nodes_below : (i : ℕ) → 3392 ≤ i → i < 3392 + m * 2 → get_or u i 0 ≡ get_or t i 0
  pub nodes_above : (i : ℕ) → 3392 + f * 2 ≤ i → get_or u i 0 ≡ get_or t i 0

pub kept_same : (n e m f : ℕ) (t : List ℕ) → Kept n e m f t t
kept_same n e m f t =
    record { long = refl; rows_below = λ i h. refl; rows_above = λ i h l. refl; nodes_below = λ i h l. refl; nodes_above = λ i h. refl }

pub kept_then : {n e m f : ℕ} {t u v : List ℕ} → Kept n e m f t u → Kept n e m f u v → Kept n e m f t v
kept_then a b = record {
  long = b.long ∙ a.long;
  rows_below = λ i h. b.rows_below i h ∙ a.rows_below i h;
  rows_above = λ i h l. b.rows_above i h l ∙ a.rows_above i h l;
  nodes_below = λ i h l. b.nodes_below i h l ∙ a.nodes_below i h l;
  nodes_above = λ i h. b.nodes_above i h ∙ a.nodes_above i h;
}

-- the partner that an activity names, or a raise's number, which stands in its place
abbrev pub partner_of : Own → ℕ
partner_of own = get_or (row_of own 0 0) 1 0

-- that what is noted has a flag: the partner of a receive or an arm; and that each one noted in a tree has
abbrev pub Noting : (kind partner : ℕ) → Type 0
Noting k p = (eqb k 2 || (eqb k 18 || eqb k 255)) ≡ true → p < 64

unfoldable mutual
  pub Partners : Act → Type 0
  Partners (act own l) = Noting (kind own) (partner_of own) × PartnersAll l

  pub PartnersAll : Acts → Type 0
  PartnersAll none = Unit
  PartnersAll (more a l) = Partners a × PartnersAll l

-- the row of an activity, whatever it is but a scope with fault parts by number
pub row_is : (own : Own) (m at : ℕ) → numbers_of own ≡ []
    → row_of own m at ≡ row (kind own) (partner_of own) (get_or (row_of own 0 0) 2 0) (variables_of own) (get_or (row_of own 0 0) 8 0) (get_or (row_of own m 0) 9 0) at
unfolding row_of kind variables_of padded store
row_is empty m at h = refl
row_is (send (to_partner p) o vs) m at h = refl
row_is (send (to_held v r) o vs) m at h = refl
row_is (receive (from_partner p) o vs) m at h = refl
row_is (receive (from_asking p v) o vs) m at h = refl
row_is (set v e) m at h = refl
row_is (raise zero) m at h = refl
row_is (raise (suc number)) m at h = refl
row_is leave m at h = refl
row_is (choose e) m at h = refl
row_is (repeat e) m at h = refl
row_is sequence m at h = refl
row_is flow m at h = refl
row_is pick m at h = refl
row_is (scope [] undo) m at h = refl
row_is (scope (n ∷ ns) undo) m at h = let z : ◌≡◌ {A = ℕ} 0 1 = cc in absurd (omega arith)
row_is (arm p o vs) m at h = refl

-- of any row: how long it is, its kind, its partner and its place
pub record Rowed (own : Own) (m at : ℕ) : Type 0 where
  pub long : length (row_of own m at) ≡ 11
  pub kind-is : get_or (row_of own m at) 0 0 ≡ kind own
  pub partner-is : get_or (row_of own m at) 1 0 ≡ partner_of own
  pub place_is : get_or (row_of own m at) 10 0 ≡ at

pub rowed : (own : Own) (m at : ℕ) → Rowed own m at
unfolding row_of kind
rowed empty m at = record { long = refl; kind-is = refl; partner-is = refl; place_is = refl }
rowed (send (to_partner p) o vs) m at = record { long = refl; kind-is = refl; partner-is = refl; place_is = refl }
rowed (send (to_held v r) o vs) m at = record { long = refl; kind-is = refl; partner-is = refl; place_is = refl }
rowed (receive (from_partner p) o vs) m at = record { long = refl; kind-is = refl; partner-is = refl; place_is = refl }
rowed (receive (from_asking p v) o vs) m at = record { long = refl; kind-is = refl; partner-is = refl; place_is = refl }
rowed (set v e) m at = record { long = refl; kind-is = refl; partner-is = refl; place_is = refl }
rowed (raise zero) m at = record { long = refl; kind-is = refl; partner-is = refl; place_is = refl }
rowed (raise (suc number)) m at = record { long = refl; kind-is = refl; partner-is = refl; place_is = refl }
rowed leave m at = record { long = refl; kind-is = refl; partner-is = refl; place_is = refl }
rowed (choose e) m at = record { long = refl; kind-is = refl; partner-is = refl; place_is = refl }
rowed (repeat e) m at = record { long = refl; kind-is = refl; partner-is = refl; place_is = refl }
rowed sequence m at = record { long = refl; kind-is = refl; partner-is = refl; place_is = refl }
rowed flow m at = record { long = refl; kind-is = refl; partner-is = refl; place_is = refl }
rowed pick m at = record { long = refl; kind-is = refl; partner-is = refl; place_is = refl }
rowed (scope ns undo) m at = record { long = refl; kind-is = refl; partner-is = refl; place_is = refl }
rowed (arm p o vs) m at = record { long = refl; kind-is = refl; partner-is = refl; place_is = refl }

pub row-length : (own : Own) (m at : ℕ) → length (row_of own m at) ≡ 11
row-length own m at = (rowed own m at).long

pub row-noting : (own : Own) (m at : ℕ) → Noting (kind own) (partner_of own) → Noting (get_or (row_of own m at) 0 0) (get_or (row_of own m at) 1 0)
row-noting own m at p = rw ((rowed own m at).kind-is, (rowed own m at).partner-is) p

-- Whatever is written between the rows n and e and the nodes m and f is written nowhere else. In each law k is the number of the row and j that of
-- the first node that it writes.
module _ (n e m f : ℕ) (ordered : n ≤ e) (small : e ≤ 256) where
  rows-kept : (k l : ℕ) {t u : List ℕ} → But k l t u → n * 13 ≤ k → l ≤ e * 13 → Kept n e m f t u
  rows-kept k l b h g = record {
    long = b.long;
    rows_below = λ i x. b.below i (omega arith);
    rows_above = λ i x y. b.above i (omega arith);
    nodes_below = λ i x y. b.above i (omega arith);
    nodes_above = λ i x. b.above i (omega arith);
  }

  flags-kept : (k l : ℕ) {t u : List ℕ} → But k l t u → 3328 ≤ k → l ≤ 3392 → Kept n e m f t u
  flags-kept k l b h g = record {
    long = b.long;
    rows_below = λ i x. b.below i (omega arith);
    rows_above = λ i x y. b.below i (omega arith);
    nodes_below = λ i x y. b.above i (omega arith);
    nodes_above = λ i x. b.above i (omega arith);
  }

  nodes-kept : (k l : ℕ) {t u : List ℕ} → But k l t u → 3392 + m * 2 ≤ k → l ≤ 3392 + f * 2 → Kept n e m f t u
  nodes-kept k l b h g = record {
    long = b.long;
    rows_below = λ i x. b.below i (omega arith);
    rows_above = λ i x y. b.below i (omega arith);
    nodes_below = λ i x y. b.below i (omega arith);
    nodes_above = λ i x. b.above i (omega arith);
  }

  pub noted-kept : (k p : ℕ) (t : List ℕ) → Noting k p → Kept n e m f t (noted k p t)
  unfolding noted
  noted-kept k p t h = go (eqb k 2 || (eqb k 18 || eqb k 255)) h
    where
      go : (b : Bool) → (b ≡ true → p < 64) → Kept n e m f t (cond b (store (1 ∷ []) (3328 + p) 0 t) t)
      go true g = flags-kept (3328 + p + 0) (3328 + p + 0 + 1) (store-but (1 ∷ []) (3328 + p) 0 t) (omega arith) (omega (arith, g refl))
      go false g = kept_same n e m f t

  pub put_row-kept : (k : ℕ) (r t : List ℕ) → length r ≤ 13 → Noting (get_or r 0 0) (get_or r 1 0) → n ≤ k → k < e → Kept n e m f t (put_row k r t)
  unfolding put_row
  put_row-kept k r t w p h g =
      kept_then
      (rows-kept (k * 13 + 0) (k * 13 + 0 + length r) (store-but r (k * 13) 0 t) (omega arith) (omega arith))
      (noted-kept (get_or r 0 0) (get_or r 1 0) (store r (k * 13) 0 t) p)

  pub put_close-kept : (k end stop : ℕ) (t : List ℕ) → n ≤ k → k < e → Kept n e m f t (put_close k end stop t)
  unfolding put_close
  put_close-kept k end stop t h g =
      rows-kept (k * 13 + 11) (k * 13 + 11 + 2) (store-but (end ∷ stop ∷ []) (k * 13) 11 t) (omega arith) (omega arith)

  pub put_node-kept : (j code value : ℕ) (t : List ℕ) → m ≤ j → j < f → Kept n e m f t (put_node j code value t)
  unfolding put_node
  put_node-kept j code value t h g =
      nodes-kept (3392 + j * 2 + 0) (3392 + j * 2 + 0 + 2) (store-but (code ∷ value ∷ []) (3392 + j * 2) 0 t) (omega arith) (omega arith)

  pub put_nodes-kept : (x : Exp) (j : ℕ) (t : List ℕ) → m ≤ j → j + nodes_of x ≤ f → Kept n e m f t (put_nodes x j t)
  unfolding put_nodes nodes_of
  put_nodes-kept (constant v) j t h g = put_node-kept j 0 v t h (omega arith)
  put_nodes-kept (variable v) j t h g = put_node-kept j 1 v t h (omega arith)
  put_nodes-kept (binary o l r) j t h g =
      kept_then
      (put_nodes-kept l (j + 1) t (omega arith) (omega arith))
      (kept_then
      (put_node-kept j (operation_code o) (j + 1 + nodes_of l) _ h (omega arith))
      (put_nodes-kept r (j + 1 + nodes_of l) _ (omega arith) (omega arith)))

  pub put_own_nodes-kept : (own : Own) (j : ℕ) (t : List ℕ) → m ≤ j → j + own_nodes own ≤ f → Kept n e m f t (put_own_nodes own j t)
  unfolding put_own_nodes own_nodes
  put_own_nodes-kept empty j t h g = kept_same n e m f t
  put_own_nodes-kept (send p o vs) j t h g = kept_same n e m f t
  put_own_nodes-kept (receive p o vs) j t h g = kept_same n e m f t
  put_own_nodes-kept (set v x) j t h g = put_nodes-kept x j t h g
  put_own_nodes-kept (raise number) j t h g = kept_same n e m f t
  put_own_nodes-kept leave j t h g = kept_same n e m f t
  put_own_nodes-kept (choose x) j t h g = put_nodes-kept x j t h g
  put_own_nodes-kept (repeat x) j t h g = put_nodes-kept x j t h g
  put_own_nodes-kept sequence j t h g = kept_same n e m f t
  put_own_nodes-kept flow j t h g = kept_same n e m f t
  put_own_nodes-kept pick j t h g = kept_same n e m f t
  put_own_nodes-kept (scope ns undo) j t h g = kept_same n e m f t
  put_own_nodes-kept (arm p o vs) j t h g = kept_same n e m f t

  pub put_own-kept : (own : Own) (at k j : ℕ) (t : List ℕ) → Noting (kind own) (partner_of own) → n ≤ k → k < e → m ≤ j → j + own_nodes own ≤ f
      → Kept n e m f t (put_own own at k j t)
  unfolding put_own
  put_own-kept own at k j t p h g x y =
      let w = row-length own j at in
      kept_then
      (put_own_nodes-kept own j t x y)
      (put_row-kept k (row_of own j at) (put_own_nodes own j t) (omega arith) (row-noting own j at p) h g)

  mutual
    unfolding put size nodes Partners

    pub put-kept : (a : Act) (at k j : ℕ) (t : List ℕ) → Partners a → n ≤ k → k + size a ≤ e → m ≤ j → j + nodes a ≤ f
        → Kept n e m f t (put a at k j t)
    put-kept (act own l) at k j t p h g x y =
        kept_then
        (put_own-kept own at k j t p.0 h (omega arith) x (omega arith))
        (kept_then
        (put_all-kept (gaps_of (numbers_of own)) l _ (k + 1) (j + own_nodes own) _ p.1 (omega arith) (omega arith) (omega arith) (omega arith))
        (put_close-kept k _ _ _ h (omega arith)))

    pub put_all-kept : (gs : List (List ℕ)) (l : Acts) (at k j : ℕ) (t : List ℕ) → PartnersAll l → n ≤ k → k + sizes l ≤ e → m ≤ j → j + nodes_all l ≤ f
        → Kept n e m f t (put_all gs l at k j t)
    put_all-kept gs none at k j t p h g x y = kept_same n e m f t
    put_all-kept gs (more a l) at k j t p h g x y =
        kept_then
        (put-kept a (passing gs at) k j t p.0 h (omega arith) x (omega arith))
        (put_all-kept (later gs) l _ (k + size a) (j + nodes a) _ p.1 (omega arith) (omega arith) (omega arith) (omega arith))
