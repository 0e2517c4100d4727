-- What is asked for in the rows of a table is within the limits, and is what the tree that is read asks for. Assumes nothing.
use borrow.Author.Tests.{ltb-true, leb-true}
use native.Mathlib.Omega.{arith}
use native.Mathlib.Nat.{add-zero}
use mathlib.Core.Path.{◌≡◌, refl, sym, ap, ◌∙◌}
use mathlib.Core.Bool.{Bool, true, false, ◌&&◌, ◌||◌}
use mathlib.Core.List.{List, [], ◌∷◌, ◌++◌}
use Prim.Native.Nat.{ℕ, zero, suc, ◌+◌, ◌*◌, ◌/◌, ◌≤◌, ◌<◌}
use lib.Dec.{eqb, ltb, leb}
use lib.ListN.{length, get_or, drop, length-append}
use lib.Seq.{get_or-take, get_or-drop}
use Rattle.plan.specs.Agree.{asking, asked_own, span_of, span_all}
use Rattle.plan.specs.Found.{Found}
use Rattle.plan.specs.Read.{Head, is_code, many_in, later_of, start_form}
use Rattle.plan.specs.Spell.{exchange_numbers, gaps_of, later}
use Rattle.plan.specs.Tree.{Exp, Own, empty, to_partner, to_held, from_partner, from_asking, send, receive, set, raise, leave, choose, repeat, sequence, flow, pick, scope, arm, kind, is_pick, numbers_of, Act, act, Acts, none, more, size, count}
use Rattle.plan.specs.Within.{from1}
use Rattle.plan.proofs.Accepts.{both}
use Rattle.plan.proofs.ByKind.{last_code}
use Rattle.plan.proofs.Finds.{Finds, finds-refused, finds-itself, finds-found, finds-cond, finds-code, finds-then}
use Rattle.plan.proofs.RowsAsked.{Exchanged, AsksOwn, Asks, AsksAll}
use Rattle.writer.specs.Rows.{own_rows, alone, act_rows, acts_rows}
use Rattle.writer.specs.Reading.{cell, tuple, expression_at, exchange_fits, stores_reply, arm_at, parts_fit, with_expression, parts_at, head_at, count_at, fault_number_at, numbered_at, numbered_scope_at, whole_at, arm_with, reads_at, act_at, root_at, head_fits, plan_at, in_rows, row_asks}
use Rattle.writer.proofs.Lines.{Row, Stands, cons, tuple-long}
use Rattle.writer.proofs.OwnReturns.{row-finds, code-finds}

-- What is asked for is within the limits.

-- an exchange whose places keep their rules
exchange-asks : (vars : ℕ) (t : List ℕ) (r c behind p : ℕ) → r < length t / 20 → c ≤ 3 → p < 64 → exchange_fits vars true t r c behind ≡ true
    → Exchanged p (cell t r c) (tuple t r (c + 1))
unfolding exchange_fits
exchange-asks vars t r c behind p there small h e =
    both (ltb (cell t r c) 64) _ e (λ a e1. both (from1 4 (cell t r (c + 1))) _ e1 (λ b e2. both (leb 1 (cell t r (c + 1))) _ b (λ b1 b2.
    let m : cell t r (c + 1) ≤ 4 = leb-true _ _ b2 in
    let j : 1 ≤ cell t r (c + 1) = leb-true _ _ b1 in
    let l = tuple-long t r there (c + 1) (omega arith) (omega arith) in
    record { partner = h; operation = ltb-true _ _ a; some = omega (arith, l); few = omega (arith, l) })))

with-asks : (vars : ℕ) (t : List ℕ) (own : Exp → Own) (within r : ℕ) → ((e : Exp) → AsksOwn (own e)) → Finds (λ h next. AsksOwn h.own) (with_expression vars t own within r)
unfolding with_expression
with-asks vars t own within r f = finds-then (finds-itself (expression_at 8 vars t r)) (λ e next x. finds-found (f e))

parts-ask : (vars : ℕ) (cs t : List ℕ) (r k next : ℕ) → r < length t / 20 → is_code k ≡ true → parts_fit vars cs t r k ≡ true → Finds (λ h next. AsksOwn h.own) (parts_at vars t r k next)
unfolding parts_at parts_fit AsksOwn
parts-ask vars cs t r k next there i h =
    finds-code k 0 (omega arith) (λ e. finds-found tt) (λ l.
    finds-code k 1 l (λ e. finds-found tt) (λ l.
    finds-code k 2 l (λ e.
    let g : (ltb (cell t r 2) 64 && exchange_fits vars true t r 3 0) ≡ true = rw e at h in
    finds-found (both (ltb (cell t r 2) 64) _ g (λ a b. exchange-asks vars t r 3 0 (cell t r 2) there (omega arith) (ltb-true _ _ a) b))) (λ l.
    finds-code k 3 l (λ e. with-asks vars t (set (cell t r 2)) 0 next (λ x. tt)) (λ l.
    finds-code k 4 l (λ e. finds-found tt) (λ l.
    finds-code k 5 l (λ e. finds-found tt) (λ l.
    finds-code k 6 l (λ e. with-asks vars t choose 2 next (λ x. tt)) (λ l.
    finds-code k 7 l (λ e. with-asks vars t repeat 1 next (λ x. tt)) (λ l.
    finds-code k 8 l (λ e. finds-found tt) (λ l.
    finds-code k 9 l (λ e. finds-found tt) (λ l.
    finds-code k 10 l (λ e. finds-found tt) (λ l.
    finds-code k 11 l (λ e. finds-found tt) (λ l.
    finds-code k 12 l (λ e. finds-found tt) (λ l.
    finds-code k 13 l (λ e. finds-found tt) (λ l.
    finds-code k 14 l (λ e. finds-found tt) (λ l.
    finds-cond (eqb k 17) (λ e. finds-found tt) (λ e.
    let g : (ltb (cell t r 2) 64 && (exchange_fits vars true t r 3 1 && stores_reply vars cs t r)) ≡ true = rw (last_code k i l e) at h in
    finds-found (both (ltb (cell t r 2) 64) _ g (λ a b. both (exchange_fits vars true t r 3 1) _ b (λ c d.
    exchange-asks vars t r 3 1 (cell t r 2) there (omega arith) (ltb-true _ _ a) c)))))))))))))))))))

head-asks : (vars : ℕ) (cs t : List ℕ) (handler : Bool) (depth n r : ℕ) → Finds (λ h next. AsksOwn h.own) (head_at vars cs t handler depth n r)
unfolding head_at
head-asks vars cs t handler depth n r =
    finds-then (code-finds t handler depth n r) (λ k next c.
    finds-cond (parts_fit vars cs t r k) (λ e. parts-ask vars cs t r k next c.row.there c.known e) (λ e. finds-refused))

arm-asks : (vars : ℕ) (t : List ℕ) (n r : ℕ) → Finds (λ h next. AsksOwn h.own) (arm_at vars t n r)
unfolding arm_at AsksOwn
arm-asks vars t n r =
    finds-then (row-finds t r) (λ p next w.
    finds-cond (ltb p 64) (λ e.
    finds-cond (leb 256 n) (λ f. finds-refused) (λ f.
    finds-cond (exchange_fits vars true t r 2 0) (λ g. finds-found (exchange-asks vars t r 2 0 p w.there (omega arith) (ltb-true _ _ e) g)) (λ g. finds-refused)))
    (λ e. finds-refused))

AskReads : (Bool → ℕ → ℕ → Found Act) → Type 0
AskReads one = (handler : Bool) (n r : ℕ) → Finds (λ a next. Asks a) (one handler n r)

many-ask : (one : Bool → ℕ → ℕ → Found Act) → AskReads one → (handler later : Bool) (left n r : ℕ) → Finds (λ l next. AsksAll l) (many_in one handler later left n r)
unfolding many_in AsksAll AskReads
many-ask one reads handler later zero n r = finds-found tt
many-ask one reads handler later (suc k) n r =
    finds-then (reads handler n r) (λ a p x. finds-then (many-ask one reads later later k (n + size a) p) (λ l q y. finds-found (x, y)))

numbered-ask : (t : List ℕ) (one : Bool → ℕ → ℕ → Found Act) → AskReads one → (left : ℕ) (known : List ℕ) (n r : ℕ)
    → Finds (λ c next. AsksAll c.parts) (numbered_at one t left known n r)
unfolding numbered_at AsksAll AskReads
numbered-ask t one reads zero known n r = finds-then (many-ask one reads true true 2 n r) (λ l next x. finds-found x)
numbered-ask t one reads (suc left) known n r =
    finds-then (finds-itself (fault_number_at t known r)) (λ x p e.
    finds-then (reads true n p) (λ a q y.
    finds-then (numbered-ask t one reads left (x ∷ known) (n + size a) q) (λ c next z. finds-found (y, z))))

scope-asks : (t : List ℕ) (one : Bool → ℕ → ℕ → Found Act) → AskReads one → (handler : Bool) (n r : ℕ) → Finds (λ a next. Asks a) (numbered_scope_at one t handler n r)
unfolding numbered_scope_at Asks AsksOwn AskReads
scope-asks t one reads handler n r =
    finds-then (reads handler (n + 1) r) (λ body p x.
    finds-then (finds-itself (count_at t p)) (λ k q e.
    finds-then (numbered-ask t one reads k [] (n + 1 + size body) q) (λ c next y. finds-found (tt, (x, y)))))

whole-asks : (t : List ℕ) (one : Bool → ℕ → ℕ → Found Act) → AskReads one → (handler later : Bool) (n : ℕ) (h : Head) (next : ℕ) → AsksOwn h.own
    → Finds (λ a q. Asks a) (whole_at one t handler later n h next)
unfolding Asks
whole-asks t one reads handler later n h next w =
    finds-cond h.numbered (λ e. scope-asks t one reads handler n next)
    (λ e. finds-then (many-ask one reads handler later h.within (n + 1) next) (λ l q x. finds-found (w, x)))

reads-ask : (t : List ℕ) (one : Bool → ℕ → ℕ → Found Act) → AskReads one → (arms : Bool) (vars : ℕ) → AskReads (reads_at arms one vars t)
unfolding arm_with AskReads
reads-ask t one reads false vars = reads
reads-ask t one reads true vars = λ handler n r. finds-then (arm-asks vars t n r) (λ h next w. whole-asks t one reads handler handler n h next w)

act-asks : (depth vars : ℕ) (cs t : List ℕ) → AskReads (act_at depth vars cs t)
unfolding act_at AskReads
act-asks zero vars cs t = λ handler n r. finds-then (finds-itself (head_at vars cs t handler 0 n r)) (λ h next e. finds-refused)
act-asks (suc d) vars cs t =
    λ handler n r. finds-then (head-asks vars cs t handler (suc d) n r) (λ h next w.
    whole-asks t (reads_at (is_pick h.own) (act_at d vars cs t) vars t) (reads-ask t (act_at d vars cs t) (act-asks d vars cs t) (is_pick h.own) vars)
    handler (later_of h.own handler) n h next w)

root-asks : (vars : ℕ) (cs t : List ℕ) (r : ℕ) → Finds (λ p next. AsksAll (more p.body (more p.fault none))) (root_at vars cs t r)
unfolding root_at AskReads AsksAll
root-asks vars cs t r =
    finds-then (act-asks 16 vars cs t false 0 r) (λ body p x.
    finds-then (act-asks 16 vars cs t true (size body) p) (λ fault q y.
    finds-cond (ltb (q * 20) (length t)) (λ f. finds-refused) (λ f.
    finds-cond (start_form body) (λ g. finds-found (x, (y, tt))) (λ g. finds-refused))))

pub plan-asks : (t : List ℕ) → Finds (λ p next. AsksAll (more p.body (more p.fault none))) (plan_at t)
unfolding plan_at
plan-asks t =
    finds-then (row-finds t 0) (λ v r w.
    finds-cond (eqb v 1) (λ e.
    finds-cond (head_fits t) (λ f. root-asks (cell t 0 2) (tuple t 0 3) t r) (λ f. finds-refused))
    (λ e. finds-refused))

-- What a row asks for.

row-cell : {t : List ℕ} {r : ℕ} {ns : List ℕ} → Row t r ns → (c : ℕ) → c < length ns → cell t r (c + 1) ≡ get_or ns c 0
row-cell {t} {r} {ns} w c h =
    let i : r * 20 + (c + 1) ≡ r * 20 + 1 + c = omega arith in
    rw i (sym (get_or-drop (r * 20 + 1) t c 0) ∙ (sym (get_or-take (length ns) (drop (r * 20 + 1) t) c 0 h) ∙ ap (λ l. get_or l c 0) w.is))

receive-row : {t : List ℕ} {r k : ℕ} (p o : ℕ) (vs l : List ℕ) → (eqb k 2 || eqb k 18) ≡ true → Row t r (k ∷ p ∷ o ∷ length vs ∷ l) → asking p o (length vs) (r + 0) ∷ [] ≡ row_asks t r k
unfolding row_asks
receive-row {t} {r} p o vs l e w = rw (e, row-cell w 1 (omega arith), row-cell w 2 (omega arith), row-cell w 3 (omega arith), add-zero r)

arm-row : {t : List ℕ} {r : ℕ} (p o : ℕ) (vs : List ℕ) → Row t r (p ∷ o ∷ length vs ∷ vs) → asking p o (length vs) (r + 0) ∷ [] ≡ row_asks t r 255
unfolding row_asks
arm-row {t} {r} p o vs w = rw (row-cell w 0 (omega arith), row-cell w 1 (omega arith), row-cell w 2 (omega arith), add-zero r)

first-row : {t : List ℕ} {r next : ℕ} {ns : List ℕ} {l : List (List ℕ)} → Stands t r (ns ∷ l) next → Row t r ns
first-row (cons w x) = w

pub own-asked : (t : List ℕ) (r : ℕ) (own : Own) (within : ℕ) {next : ℕ} → Stands t r (own_rows own within) next → asked_own in_rows own r ≡ row_asks t r (kind own)
unfolding asked_own in_rows own_rows exchange_numbers kind row_asks
own-asked t r empty within x = refl
own-asked t r (send (to_partner p) o vs) within x = refl
own-asked t r (send (to_held v reply) o vs) within x = refl
own-asked t r (receive (from_partner p) o vs) within x = receive-row p o vs vs refl (first-row x)
own-asked t r (receive (from_asking p v) o vs) within x = receive-row p o vs (vs ++ (v ∷ [])) refl (first-row x)
own-asked t r (set v e) within x = refl
own-asked t r (raise zero) within x = refl
own-asked t r (raise (suc n)) within x = refl
own-asked t r leave within x = refl
own-asked t r (choose e) within x = refl
own-asked t r (repeat e) within x = refl
own-asked t r sequence within x = refl
own-asked t r flow within x = refl
own-asked t r pick within x = refl
own-asked t r (scope [] true) within x = refl
own-asked t r (scope [] false) within x = refl
own-asked t r (scope (n ∷ ns) undo) within x = refl
own-asked t r (arm p o vs) within x = arm-row p o vs (first-row x)

-- how many rows an activity takes
pub alone-long : (ns : List ℕ) → length (alone ns) ≡ length ns
alone-long [] = refl
alone-long (x ∷ ns) = rw (alone-long ns)

mutual
  unfolding span_of in_rows act_rows

  pub span-rows : (a : Act) → span_of in_rows a ≡ length (act_rows a)
  span-rows (act own l) =
      rw (span-all (gaps_of (numbers_of own)) l) (sym (length-append (own_rows own (count l)) (acts_rows (gaps_of (numbers_of own)) l)))

  span-all : (gs : List (List ℕ)) (l : Acts) → span_all in_rows gs l ≡ length (acts_rows gs l)
  span-all gs none = refl
  span-all [] (more a l) = rw (span-rows a, span-all [] l) (sym (length-append (act_rows a) (acts_rows [] l)))
  span-all (g ∷ gs) (more a l) =
      rw (span-rows a, span-all gs l)
      (omega (arith, length-append (alone g) (act_rows a ++ acts_rows gs l), length-append (act_rows a) (acts_rows gs l), alone-long g))
