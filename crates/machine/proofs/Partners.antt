-- The table of a plan has a flag for exactly the partners that the plan receives on. Assumes nothing.
use mathlib.Core.Path.{◌≡◌, refl, sym, ap, ◌∙◌}
use mathlib.Core.Bool.{Bool, true, false, cond, ◌||◌}
use mathlib.Core.List.{List, [], ◌∷◌, ◌++◌, append-nil}
use Prim.Native.Nat.{ℕ, zero, suc, ◌+◌, ◌*◌, ◌<◌, ◌≤◌}
use native.Mathlib.Decide.{ℕ_discrete}
use native.Mathlib.Omega.{arith}
use borrow.Author.Tests.{leb-true, eq-eqb, ne_eqb}
use lib.Dec.{leb, eqb}
use lib.ListN.{length, get_or, replicate, length-replicate, get_or-replicate}
use lib.ListN as lists
use lib.Seq.{get_or-set_same, get_or-set_other}
use Rattle.plan.specs.Found.{found, among}
use Rattle.plan.specs.Read.{read_plan}
use Rattle.plan.specs.Spell.{spelling, operation_code, gaps_of, later, passing}
use Rattle.plan.specs.Store.{store}
use Rattle.plan.specs.Table.{row, row_of, noted, put_row, nodes_of, put_node, put_nodes, put_own_nodes, put_own, put_close, put, put_all, blank_table, body_place, table_over, table_of}
use Rattle.plan.specs.Tree.{Exp, constant, variable, binary, to_partner, to_held, from_partner, from_asking, Own, empty, send, receive, set, raise, leave, choose, repeat, sequence, flow, pick, scope, arm, kind, numbers_of, Act, act, Acts, none, more, Plan, size, sizes}
use Rattle.plan.specs.Within.{from1, ascending, act_within, plan_within}
use Rattle.plan.proofs.Accepts.{both, among-append}
use Rattle.plan.proofs.Kept.{But, store-but}
use Rattle.plan.proofs.Limits.{accepted-is-within}
use Rattle.machine.specs.Fit.{doing_of}
use Rattle.machine.specs.Calls.{partner_of, partners_in, partners_among, partners_of}
use Rattle.machine.specs.Heard.{Heard}

-- The flag of q in u is 1 where q is among these, and else what it is in t.
record Flag (q : ℕ) (ps t u : List ℕ) : Type 0 where
  long : length u ≡ length t
  flag : get_or u (3328 + q) 0 ≡ cond (among q ps) 1 (get_or t (3328 + q) 0)

twice : (a b : Bool) (x : ℕ) → cond b 1 (cond a 1 x) ≡ cond (a || b) 1 x
twice true true x = refl
twice true false x = refl
twice false true x = refl
twice false false x = refl

module _ (q : ℕ) (small : q < 64) where
  flag_same : (t : List ℕ) → Flag q [] t t
  unfolding among
  flag_same t = record { long = refl; flag = refl }

  flag-then : {ps qs t u v : List ℕ} → Flag q ps t u → Flag q qs u v → Flag q (ps ++ qs) t v
  flag-then {ps} {qs} {t} {u} {v} a b = record {
    long = b.long ∙ a.long;
    flag = b.flag
        ∙ ap (cond (among q qs) 1) a.flag
        ∙ twice (among q ps) (among q qs) (get_or t (3328 + q) 0)
        ∙ ap (λ (x : Bool). cond x 1 (get_or t (3328 + q) 0)) (sym (among-append q ps qs));
  }

  flag-kept : {ps t u v : List ℕ} → Flag q ps t u → Flag q [] u v → Flag q ps t v
  flag-kept a b = rw append-nil at (flag-then a b)

  -- what is written below the flags or above them
  flag-below : {k e : ℕ} {t u : List ℕ} → But k e t u → e ≤ 3328 → Flag q [] t u
  unfolding among
  flag-below b h = record { long = b.long; flag = b.above (3328 + q) (omega arith) }

  flag-above : {k e : ℕ} {t u : List ℕ} → But k e t u → 3392 ≤ k → Flag q [] t u
  unfolding among
  flag-above b h = record { long = b.long; flag = b.below (3328 + q) (omega arith) }

  row-flag : (r : List ℕ) (n : ℕ) (t : List ℕ) → length r ≤ 13 → n < 256 → Flag q [] t (store r (n * 13) 0 t)
  row-flag r n t w h = flag-below (store-but r (n * 13) 0 t) (omega arith)

  close-flag : (n end stop : ℕ) (t : List ℕ) → n < 256 → Flag q [] t (put_close n end stop t)
  unfolding put_close
  close-flag n end stop t h = flag-below (store-but (end ∷ stop ∷ []) (n * 13) 11 t) (omega arith)

  node-flag : (m code value : ℕ) (t : List ℕ) → Flag q [] t (put_node m code value t)
  unfolding put_node
  node-flag m code value t = flag-above (store-but (code ∷ value ∷ []) (3392 + m * 2) 0 t) (omega arith)

  nodes-flag : (x : Exp) (m : ℕ) (t : List ℕ) → Flag q [] t (put_nodes x m t)
  unfolding put_nodes
  nodes-flag (constant v) m t = node-flag m 0 v t
  nodes-flag (variable v) m t = node-flag m 1 v t
  nodes-flag (binary o l r) m t =
      flag-then (nodes-flag l (m + 1) t)
      (flag-then (node-flag m (operation_code o) (m + 1 + nodes_of l) _)
      (nodes-flag r (m + 1 + nodes_of l) _))

  -- a flag is written
  partner-flag : (p : ℕ) (t : List ℕ) → length t ≡ 11584 → Flag q (p ∷ []) t (store (1 ∷ []) (3328 + p) 0 t)
  unfolding store among
  partner-flag p t h = record { long = (store-but (1 ∷ []) (3328 + p) 0 t).long; flag = go (ℕ_discrete q p) }
    where
      go : Dec (q ≡ p) → get_or (lists.set t (3328 + p + 0) 1) (3328 + q) 0 ≡ cond (eqb q p || false) 1 (get_or t (3328 + q) 0)
      go (yes e) =
          let z : 3328 + p + 0 ≡ 3328 + q = omega arith in
          rw (eq-eqb q p e, z) (get_or-set_same t (3328 + q) 1 0 (omega arith))
      go (no e) = rw (ne_eqb q p e) (get_or-set_other t (3328 + p + 0) (3328 + q) 1 0 (λ z. e (omega arith)))

  module _ (l : Acts) (at n m : ℕ) (t : List ℕ) (long : length t ≡ 11584) (h : n < 256) where
    -- the row of one that takes messages of partner p, and the flag of that
    hears : (p : ℕ) (r : List ℕ) → length r ≤ 13 → Flag q (p ∷ []) t (store (1 ∷ []) (3328 + p) 0 (store r (n * 13) 0 t))
    hears p r w =
        let a = row-flag r n t w h in
        flag-then a (partner-flag p _ (a.long ∙ long))

    own-flag : (own : Own) → Flag q (partner_of (doing_of own l 0)) t (put_own own at n m t)
    unfolding put_own put_row row_of kind noted put_own_nodes partner_of doing_of
    own-flag empty = row-flag _ n t (omega arith) h
    own-flag (send (to_partner p) o vs) = row-flag _ n t (omega arith) h
    own-flag (send (to_held v r) o vs) = row-flag _ n t (omega arith) h
    own-flag (receive (from_partner p) o vs) = hears p (row 2 p o vs 0 0 at) (omega arith)
    own-flag (receive (from_asking p v) o vs) = hears p (row 18 p o vs v 0 at) (omega arith)
    own-flag (set v x) = flag-then (nodes-flag x m t) (row-flag _ n _ (omega arith) h)
    own-flag (raise zero) = row-flag _ n t (omega arith) h
    own-flag (raise (suc number)) = row-flag _ n t (omega arith) h
    own-flag leave = row-flag _ n t (omega arith) h
    own-flag (choose x) = flag-then (nodes-flag x m t) (row-flag _ n _ (omega arith) h)
    own-flag (repeat x) = flag-then (nodes-flag x m t) (row-flag _ n _ (omega arith) h)
    own-flag sequence = row-flag _ n t (omega arith) h
    own-flag flow = row-flag _ n t (omega arith) h
    own-flag pick = row-flag _ n t (omega arith) h
    own-flag (scope [] true) = row-flag _ n t (omega arith) h
    own-flag (scope [] false) = row-flag _ n t (omega arith) h
    own-flag (scope (x ∷ ns) v) = row-flag _ n t (omega arith) h
    own-flag (arm p o vs) = hears p (row 255 p o vs 0 0 at) (omega arith)

  mutual
    unfolding put size partners_in

    put-flag : (a : Act) (at n m : ℕ) (t : List ℕ) → length t ≡ 11584 → n + size a ≤ 256 → Flag q (partners_in a) t (put a at n m t)
    put-flag (act own l) at n m t h g =
        let a = own-flag l at n m t h (omega arith) own in
        let b = put_all-flag (gaps_of (numbers_of own)) l _ (n + 1) _ _ (a.long ∙ h) (omega arith) in
        flag-kept (flag-then a b) (close-flag n _ _ _ (omega arith))

    put_all-flag : (gs : List (List ℕ)) (l : Acts) (at n m : ℕ) (t : List ℕ) → length t ≡ 11584 → n + sizes l ≤ 256 → Flag q (partners_among l) t (put_all gs l at n m t)
    put_all-flag gs none at n m t h g = flag_same t
    put_all-flag gs (more a l) at n m t h g =
        let b = put-flag a (passing gs at) n m t h (omega arith) in
        flag-then b (put_all-flag (later gs) l _ (n + size a) _ _ (b.long ∙ h) (omega arith))

  told : (b : Bool) {x y : ℕ} → x ≡ cond b 1 y → y ≡ 0 → eqb x 1 ≡ b
  told true e z = rw e
  told false e z = rw (e ∙ z)

  table-flag : (p : Plan) → size p.body + size p.fault ≤ 256 → eqb (get_or (table_of p) (3328 + q) 0) 1 ≡ among q (partners_of p)
  unfolding table_over partners_of partners_in size
  table-flag p h =
      let a = put_all-flag [] (more p.body (more p.fault none)) (body_place p) 0 0 blank_table (length-replicate {A = ℕ} 11584 0) (omega arith) in
      let b = rw append-nil at a.flag in
      told (among q (partners_in p.body ++ partners_in p.fault)) b (get_or-replicate {A = ℕ} 11584 (3328 + q) 0 0 (omega arith))

-- the flags of a plan within the limits, and of one that was accepted
pub within-heard : (p : Plan) → plan_within p ≡ true → Heard (table_of p) (partners_of p)
unfolding plan_within
within-heard p h =
    both (leb (length (spelling p)) 4096) _ h
    (λ short h1. both (from1 16 p.variables) _ h1
    (λ vars h2. both (ascending p.variables 0 p.correlation) _ h2
    (λ rising h3. both (act_within p.variables p.correlation false false p.body 16) _ h3
    (λ body h4. both (act_within p.variables p.correlation true false p.fault 16) _ h4
    (λ fault h5. both (leb (size p.body + size p.fault) 256) _ h5
    (λ few h6. record { tells = λ q small. table-flag q small p (leb-true _ 256 few) }))))))

pub accepted-heard : (s : List ℕ) {p : Plan} {next : ℕ} → read_plan s ≡ found p next → Heard (table_of p) (partners_of p)
accepted-heard s {p} e = within-heard p (accepted-is-within s e)
