-- The rows of a plan within the limits are read as that plan. Assumes nothing.
use borrow.Author.Tests.{eq-eqb, ne_eqb, lt-ltb, le-ltb, le-leb, lt-leb, ltb-true, leb-true, eqb-true, not-true}
use native.Mathlib.Omega.{arith}
use native.Mathlib.Nat.{add-zero}
use native.Mathlib.Numerals.{sub-one, one-add}
use mathlib.Core.Path.{◌≡◌, refl, sym, ap, ◌∙◌}
use mathlib.Core.Bool.{Bool, true, false, cond, not, ◌&&◌, ◌||◌, false≢true, and-false}
use mathlib.Core.List.{List, [], ◌∷◌, ◌++◌, append_assoc, append-nil}
use Prim.Native.Nat.{ℕ, zero, suc, ◌+◌, ◌*◌, ◌-◌, ◌/◌, ◌≤◌, ◌<◌}
use lib.Dec.{eqb, ltb, leb}
use lib.ListN.{length, get_or, take, drop, replicate, length-append, length-drop}
use lib.Seq.{drop-cons, drop-drop, drop_at, take-append_seam, take-take, drop-append_seam, get_or-append_seam, get_or-take, get_or-drop}
use Rattle.plan.specs.Found.{found, among}
use Rattle.plan.specs.Read.{operation_of, head, numbered_head, namable, is_code, is_scope_code, many_in, later_of, start_form}
use Rattle.plan.specs.Spell.{operation_code, exchange_numbers, gaps_of, gap, later, spelling}
use Rattle.plan.specs.Tree.{Operation, sum, difference, equal, less, Exp, constant, variable, binary, Own, empty, to_partner, to_held, from_partner, from_asking, send, receive, set, raise, leave, choose, repeat, sequence, flow, pick, scope, arm, is_scope, is_pick, numbers_of, Act, act, Acts, none, more, Plan, size, sizes, count}
use Rattle.plan.specs.Agree.{asked_from, agree}
use Rattle.plan.specs.Within.{expression_within, variables_within, exchange_within, from1, numbers_each, numbers_within, own_within, act_within, acts_within, ascending, plan_within}
use Rattle.plan.proofs.Accepts.{both, Apart, apart-first, apart_more}
use Rattle.plan.proofs.ByKind.{raise-limits, ByNumber, plain, numbered, by_number, early-code}
use Rattle.writer.specs.Rows as rows
use Rattle.writer.specs.Rows.{line, lines, expression_rows, own_rows, act_rows, acts_rows, plan_rows, rows_of}
use Rattle.plan.proofs.Agreeing.{judged-agrees}
use Rattle.writer.specs.Reading.{cell, zeros, shaped, tuple, row_in, expression_fits, expression_head, expression_at, exchange_fits, last_of, arm_at, code_at, parts_fit, with_expression, parts_at, head_at, count_at, fault_number_at, numbered_at, numbered_scope_at, arm_with, reads_at, act_at, root_at, head_fits, plan_at, in_rows, agreed_at, read_rows}
use Rattle.writer.proofs.Lines.{Row, Stands, nil, cons, cells-cons, four-cells, line-long}
use Rattle.writer.proofs.RowStands.{scope-rows}
use Rattle.rows.proofs.SamePlaces.{rows_agree}

-- Rows written one after another stand in the table.

are-zeros : (m : ℕ) (t : List ℕ) (at : ℕ) (rest : List ℕ) → drop at t ≡ replicate m 0 ++ rest → zeros m t at ≡ true
unfolding zeros
are-zeros zero t at rest e = refl
are-zeros (suc m) t at rest e =
    let w : at < length t = omega (arith, simp length-drop at (ap length e)) in
    let o : suc at ≡ at + 1 = omega arith in
    let d : get_or t at 0 ∷ drop (at + 1) t ≡ 0 ∷ (replicate m 0 ++ rest) = rw (← o) (sym (drop-cons t at 0 w) ∙ e) in
    let g : get_or t at 0 ≡ 0 = cc in
    let k : drop (at + 1) t ≡ replicate m 0 ++ rest = cc in
    rw (eq-eqb (get_or t at 0) 0 g) (are-zeros m t (at + 1) rest k)

record Started (t : List ℕ) (r : ℕ) (ns rest : List ℕ) : Type 0 where
  row : Row t r ns
  inside : (r + 1) * 20 ≤ length t
  after : drop ((r + 1) * 20) t ≡ rest

row_of : (t : List ℕ) (r : ℕ) (ns rest : List ℕ) → r * 20 ≤ length t → length ns ≤ 19 → drop (r * 20) t ≡ line ns ++ rest → Started t r ns rest
unfolding line shaped
row_of t r ns rest i few e =
    let l : length t - r * 20 ≡ 20 + length rest = sym (length-drop (r * 20) t) ∙ ap length e ∙ length-append (line ns) rest ∙ rw (line-long ns few) in
    let o : suc (r * 20) ≡ r * 20 + 1 = omega arith in
    let w : r * 20 < length t = omega arith in
    let d : get_or t (r * 20) 0 ∷ drop (r * 20 + 1) t ≡ length ns ∷ ((ns ++ replicate (19 - length ns) 0) ++ rest) = rw (← o) (sym (drop-cons t (r * 20) 0 w) ∙ e) in
    let c : get_or t (r * 20) 0 ≡ length ns = cc in
    let b : drop (r * 20 + 1) t ≡ (ns ++ replicate (19 - length ns) 0) ++ rest = cc in
    let f : drop (r * 20 + 1) t ≡ ns ++ (replicate (19 - length ns) 0 ++ rest) = b ∙ append_assoc ns (replicate (19 - length ns) 0) rest in
    let g : drop (r * 20 + 1 + length ns) t ≡ replicate (19 - length ns) 0 ++ rest = sym (drop-drop (length ns) (r * 20 + 1) t) ∙ rw f (drop-append_seam ns _) in
    let z : r * 20 + 20 ≡ (r + 1) * 20 = omega arith in
    record {
      row = record {
        there = omega arith;
        few = few;
        shape = rw (add-zero (r * 20), eq-eqb (get_or t (r * 20) 0) (length ns) c) (are-zeros (19 - length ns) t (r * 20 + 1 + length ns) rest g);
        is = rw f (take-append_seam ns _);
      };
      inside = omega arith;
      after = rw (← z) (sym (drop-drop 20 (r * 20) t) ∙ rw e (drop_at (line ns) rest 20 (line-long ns few)));
    }

-- no row has more than 19 numbers
unfoldable pub Short : List (List ℕ) → Type 0
Short [] = Unit
Short (ns ∷ l) = (length ns ≤ 19) × Short l

lines-stand : (t : List ℕ) (r : ℕ) (l : List (List ℕ)) → Short l → r * 20 ≤ length t → drop (r * 20) t ≡ lines l → Stands t r l (r + length l)
unfolding lines Short
lines-stand t r [] s i e = rw (add-zero r) nil
lines-stand t r (ns ∷ l) s i e =
    let w = row_of t r ns (lines l) i s.0 e in
    let z : r + suc (length l) ≡ r + 1 + length l = omega arith in
    let y : Stands t (r + 1) l (r + suc (length l)) = rw z (lines-stand t (r + 1) l s.1 w.inside w.after) in
    cons w.row y

record Split (t : List ℕ) (r : ℕ) (a b : List (List ℕ)) (n : ℕ) : Type 0 where
  m : ℕ
  first : Stands t r a m
  second : Stands t m b n

stands-split : (t : List ℕ) (a b : List (List ℕ)) {r n : ℕ} → Stands t r (a ++ b) n → Split t r a b n
stands-split t [] b x = record { m = _; first = nil; second = x }
stands-split t (ns ∷ a) b (cons w x) = let s = stands-split t a b x in record { m = s.m; first = cons w s.first; second = s.second }

-- The places of a row that stands.

row_read : {t : List ℕ} {r a : ℕ} {ns : List ℕ} → Row t r (a ∷ ns) → row_in t r ≡ found a (r + 1)
unfolding row_in
row_read {t} {r} {a} {ns} w =
    let e : cell t r 1 ∷ take (length ns) (drop (r * 20 + 2) t) ≡ a ∷ ns = sym (cells-cons t r 1 (length ns) w.there (omega arith)) ∙ w.is in
    let c : cell t r 1 ≡ a = cc in
    rw (lt-ltb r (length t / 20) w.there, c)

second-read : {t : List ℕ} {r a b : ℕ} → Row t r (a ∷ b ∷ []) → cell t r 2 ≡ b
second-read {t} {r} {a} {b} w =
    let e : cell t r 1 ∷ cell t r 2 ∷ [] ≡ a ∷ b ∷ [] = sym (cells-cons t r 1 1 w.there (omega arith) ∙ ap (λ (x : List ℕ). cell t r 1 ∷ x) (cells-cons t r 2 0 w.there (omega arith))) ∙ w.is in
    cc

-- Expressions.

record Code (o : Operation) : Type 0 where
  known : operation_code o ≤ 5
  first : eqb (operation_code o) 0 ≡ false
  second : eqb (operation_code o) 1 ≡ false
  same : operation_of (operation_code o) ≡ o

code_of : (o : Operation) → Code o
unfolding operation_code
code_of sum = record { known = omega arith; first = refl; second = refl; same = refl }
code_of difference = record { known = omega arith; first = refl; second = refl; same = refl }
code_of equal = record { known = omega arith; first = refl; second = refl; same = refl }
code_of less = record { known = omega arith; first = refl; second = refl; same = refl }

head_read : (depth vars : ℕ) {t : List ℕ} {r k : ℕ} {ns : List ℕ} → Row t r (k ∷ ns) → k ≤ 5 → expression_fits vars t r k ≡ true
    → expression_head (suc depth) vars t r ≡ found k (r + 1)
unfolding expression_head
head_read depth vars {k = k} w h f = rw (row_read w, le-ltb 5 k h, ne_eqb (suc depth) 0 (λ z. omega arith), f)

pub expression-read : (vars : ℕ) (t : List ℕ) (e : Exp) (depth : ℕ) {r m : ℕ} → expression_within vars e depth ≡ true → Stands t r (expression_rows e) m
    → expression_at depth vars t r ≡ found e m
unfolding expression_within expression_rows expression_at expression_fits
expression-read vars t (constant v) zero h x = absurd (false≢true h)
expression-read vars t (variable v) zero h x = absurd (false≢true h)
expression-read vars t (binary o l r) zero h x = absurd (false≢true h)
expression-read vars t (constant v) (suc d) h (cons w nil) = rw (head_read d vars w (omega arith) w.shape, second-read w)
expression-read vars t (variable v) (suc d) h (cons w nil) =
    both (ltb 0 (suc d)) _ h (λ _ b. rw (head_read d vars w (omega arith) (rw (second-read w, b) w.shape), second-read w))
expression-read vars t (binary o l r) (suc d) h (cons w x) =
    both (ltb 0 (suc d)) _ h (λ _ b. both (expression_within vars l (suc d - 1)) _ b (λ p q.
    let c = code_of o in
    let s = stands-split t (expression_rows l) (expression_rows r) x in
    rw (
      head_read d vars w c.known (rw (c.first, c.second) w.shape),
      c.first,
      c.second,
      expression-read vars t l d (rw (sub-one (suc d)) at p) s.first,
      expression-read vars t r d (rw (sub-one (suc d)) at q) s.second,
      c.same,
    )))

-- What activities and arms say of themselves.

record Tupled3 (t : List ℕ) (r b : ℕ) (vs : List ℕ) : Type 0 where
  two : cell t r 2 ≡ b
  three : cell t r 3 ≡ length vs
  all : tuple t r 3 ≡ vs

tuple3-read : {t : List ℕ} {r a b : ℕ} {vs : List ℕ} → Row t r (a ∷ b ∷ length vs ∷ vs) → Tupled3 t r b vs
tuple3-read {t} {r} {a} {b} {vs} w =
    let h = w.there in
    let i : cell t r 1 ∷ cell t r 2 ∷ cell t r 3 ∷ take (length vs) (drop (r * 20 + 4) t) ≡ a ∷ b ∷ length vs ∷ vs =
    sym (cells-cons t r 1 (suc (suc (length vs))) h (omega arith) ∙ ap (λ (x : List ℕ). cell t r 1 ∷ x) (cells-cons t r 2 (suc (length vs)) h (omega arith)
    ∙ ap (λ (x : List ℕ). cell t r 2 ∷ x) (cells-cons t r 3 (length vs) h (omega arith)))) ∙ w.is in
    let c : cell t r 3 ≡ length vs = cc in
    let k : take (length vs) (drop (r * 20 + 4) t) ≡ vs = cc in
    let y : r * 20 + 3 + 1 ≡ r * 20 + 4 = omega arith in
    record { two = cc; three = c; all = rw (c, y) k }

record Tupled4 (t : List ℕ) (r b c : ℕ) (vs : List ℕ) : Type 0 where
  two : cell t r 2 ≡ b
  three : cell t r 3 ≡ c
  four : cell t r 4 ≡ length vs
  all : tuple t r 4 ≡ vs

-- a row whose variables are followed by others, or by none
tuple4-read : {t : List ℕ} {r a b c : ℕ} (vs us : List ℕ) {l : List ℕ} → l ≡ vs ++ us → Row t r (a ∷ b ∷ c ∷ length vs ∷ l) → Tupled4 t r b c vs
tuple4-read {t} {r} {a} {b} {c} vs us {l} e w =
    let i : cell t r 1 ∷ cell t r 2 ∷ cell t r 3 ∷ cell t r 4 ∷ take (length l) (drop (r * 20 + 5) t) ≡ a ∷ b ∷ c ∷ length vs ∷ l =
    sym (four-cells t r w.there (length l)) ∙ w.is in
    let d : cell t r 4 ≡ length vs = cc in
    let k : take (length l) (drop (r * 20 + 5) t) ≡ l = cc in
    let m : length l ≡ length vs + length us = ap length e ∙ length-append vs us in
    let f : take (length vs) (drop (r * 20 + 5) t) ≡ vs =
    sym (take-take (length vs) (length l) (drop (r * 20 + 5) t) (omega arith)) ∙ rw (k, e) (take-append_seam vs us) in
    let y : r * 20 + 4 + 1 ≡ r * 20 + 5 = omega arith in
    record { two = cc; three = cc; four = d; all = rw (d, y) f }

-- the number behind them
last-read : {t : List ℕ} {r a b c : ℕ} (vs : List ℕ) (x : ℕ) → Row t r (a ∷ b ∷ c ∷ length vs ∷ (vs ++ (x ∷ []))) → last_of t r 4 ≡ x
last-read {t} {r} {a} {b} {c} vs x w =
    let l = vs ++ (x ∷ []) in
    let i : cell t r 1 ∷ cell t r 2 ∷ cell t r 3 ∷ cell t r 4 ∷ take (length l) (drop (r * 20 + 5) t) ≡ a ∷ b ∷ c ∷ length vs ∷ l =
    sym (four-cells t r w.there (length l)) ∙ w.is in
    let d : cell t r 4 ≡ length vs = cc in
    let k : take (length l) (drop (r * 20 + 5) t) ≡ l = cc in
    let z : r * 20 + (5 + length vs) ≡ r * 20 + 5 + length vs = omega arith in
    let m : length l ≡ length vs + 1 = length-append vs (x ∷ []) in
    rw (d, z)
    (sym (get_or-drop (r * 20 + 5) t (length vs) 0)
    ∙ (sym (get_or-take (length l) (drop (r * 20 + 5) t) (length vs) 0 (omega arith)) ∙ (ap (λ (y : List ℕ). get_or y (length vs) 0) k ∙ get_or-append_seam vs x [] 0)))

pub record Exchange (vars : ℕ) (once : Bool) (p o : ℕ) (vs : List ℕ) : Type 0 where
  pub partner : ltb p 64 ≡ true
  pub operation : ltb o 64 ≡ true
  pub some : leb 1 (length vs) ≡ true
  pub most : leb (length vs) 4 ≡ true
  pub each : variables_within vars once vs ≡ true

pub exchange-of : (vars : ℕ) (once : Bool) (p o : ℕ) (vs : List ℕ) → exchange_within vars once p o vs ≡ true → Exchange vars once p o vs
unfolding exchange_within
exchange-of vars once p o vs h =
    both (ltb p 64) _ h (λ a h1. both (ltb o 64) _ h1 (λ b h2. both (leb 1 (length vs)) _ h2 (λ c h3. both (leb (length vs) 4) _ h3 (λ d e.
    record { partner = a; operation = b; some = c; most = d; each = e }))))

-- operation, count and variables, behind any first number, with `behind` numbers behind them
exchange-read : (vars : ℕ) (once : Bool) (behind : ℕ) {t : List ℕ} {r a p o : ℕ} {vs : List ℕ} → Exchange vars once p o vs → Tupled4 t r a o vs → (k : ℕ)
    → shaped t r k ≡ true → k ≡ 4 + length vs + behind → exchange_fits vars once t r 3 behind ≡ true
unfolding exchange_fits
exchange-read vars once behind x y k s e = rw (y.all, y.three, x.operation, y.four, x.some, x.most, x.each, ← e) s

message-read : (vars : ℕ) (once : Bool) {t : List ℕ} {r k p o : ℕ} (vs : List ℕ) → exchange_within vars once p o vs ≡ true
    → Row t r (k ∷ p ∷ o ∷ length vs ∷ vs) → (ltb (cell t r 2) 64 && exchange_fits vars once t r 3 0) ≡ true
message-read vars once {t} {r} {k} {p} {o} vs h w =
    let x = exchange-of vars once p o vs h in
    let y : Tupled4 t r p o vs = tuple4-read vs [] (sym (append-nil vs)) w in
    rw (y.two, x.partner) (exchange-read vars once 0 {vs = vs} x y _ w.shape (omega arith))

module _ (vars : ℕ) (cs t : List ℕ) (handler : Bool) (d n : ℕ) (room : n < 256) where
  code_read : {r k : ℕ} {ns : List ℕ} → Row t r (k ∷ ns) → is_code k ≡ true → (handler && is_scope_code k) ≡ false → code_at t handler (suc d) n r ≡ found k (r + 1)
  unfolding code_at
  code_read {k = k} w h f = rw (row_read w, h, f, ne_eqb (suc d) 0 (λ z. omega arith), lt-leb 256 n room)

  known_read : {r k : ℕ} {ns : List ℕ} → Row t r (k ∷ ns) → k ≤ 10 → parts_fit vars cs t r k ≡ true
      → head_at vars cs t handler (suc d) n r ≡ parts_at vars t r k (r + 1)
  unfolding head_at
  known_read {k = k} w h f = rw (code_read w (early-code k (omega arith)) (rw (ne_eqb k 11 (λ z. omega arith), ne_eqb k 12 (λ z. omega arith), ne_eqb k 14 (λ z. omega arith)) (and-false handler)), f)

  own_read : (own : Own) (within : ℕ) {r m : ℕ} → numbers_of own ≡ [] → own_within vars cs handler false own within ≡ true → Stands t r (own_rows own within) m
      → head_at vars cs t handler (suc d) n r ≡ found (head own within) m
  unfolding own_within own_rows exchange_numbers parts_fit parts_at with_expression head_at
  own_read empty within i h (cons w nil) = known_read w (omega arith) w.shape ∙ rw (eqb-true within 0 h)
  own_read (send (to_partner p) o vs) within i h (cons w nil) =
      both (eqb within 0) _ h (λ z x. let y : Tupled4 t _ p o vs = tuple4-read vs [] (sym (append-nil vs)) w in
      known_read w (omega arith) (message-read vars false vs x w) ∙ rw (y.all, y.two, y.three, eqb-true within 0 z))
  own_read (send (to_held v reply) o vs) within {r} i h (cons w nil) =
      both (eqb within 0) _ h (λ z h1. both (ltb v vars) _ h1 (λ f g.
      let x = exchange-of vars false reply o vs g in
      let y : Tupled4 t r v o vs = tuple4-read vs (reply ∷ []) refl w in
      let e : last_of t r 4 ≡ reply = last-read vs reply w in
      let n = length-append vs (reply ∷ []) in
      let q : exchange_fits vars false t r 3 1 ≡ true = exchange-read vars false 1 {vs = vs} x y _ w.shape (omega arith) in
      rw (code_read w refl (and-false handler), e, q, y.two, f, x.partner, y.all, y.three, eqb-true within 0 z)))
  own_read (receive (from_partner p) o vs) within i h (cons w nil) =
      both (eqb within 0) _ h (λ z x. let y : Tupled4 t _ p o vs = tuple4-read vs [] (sym (append-nil vs)) w in
      known_read w (omega arith) (message-read vars true vs x w) ∙ rw (y.all, y.two, y.three, eqb-true within 0 z))
  own_read (receive (from_asking p v) o vs) within {r} i h (cons w nil) =
      both (eqb within 0) _ h (λ z h1. both (exchange_within vars true p o vs) _ h1 (λ g h2. both (ltb v vars) _ h2 (λ f b.
      let x = exchange-of vars true p o vs g in
      let y : Tupled4 t r p o vs = tuple4-read vs (v ∷ []) refl w in
      let e : last_of t r 4 ≡ v = last-read vs v w in
      let n = length-append vs (v ∷ []) in
      let q : exchange_fits vars true t r 3 1 ≡ true = exchange-read vars true 1 {vs = vs} x y _ w.shape (omega arith) in
      rw (code_read w refl (and-false handler), e, q, y.all, y.two, x.partner, f, b, y.three, eqb-true within 0 z))))
  own_read (set v e) within i h (cons w x) =
      both (eqb within 0) _ h (λ z h1. both (ltb v vars) _ h1 (λ a h2. both (not (among v cs)) _ h2 (λ b q.
      known_read w (omega arith) (rw (second-read w, a, b) w.shape) ∙ rw (expression-read vars t e 8 q x, second-read w, eqb-true within 0 z))))
  own_read (raise zero) within i h (cons w nil) = both (eqb within 0) _ h (λ z x. known_read w (omega arith) w.shape ∙ rw (eqb-true within 0 z))
  own_read (raise (suc number)) within i h (cons w nil) =
      both (eqb within 0) _ h (λ z x. let y = raise-limits number x in
      rw (code_read w refl (and-false handler), second-read w, le-leb 16 (suc number) y.0, le-leb (suc number) 255 (omega (arith, y.1)), w.shape, eqb-true within 0 z))
  own_read leave within i h (cons w nil) = known_read w (omega arith) w.shape ∙ rw (eqb-true within 0 h)
  own_read (choose e) within i h (cons w x) =
      both (eqb within 2) _ h (λ z q. known_read w (omega arith) w.shape ∙ rw (expression-read vars t e 8 q x, eqb-true within 2 z))
  own_read (repeat e) within i h (cons w x) =
      both (eqb within 1) _ h (λ z q. known_read w (omega arith) w.shape ∙ rw (expression-read vars t e 8 q x, eqb-true within 1 z))
  own_read sequence within i h (cons w nil) = known_read w (omega arith) (rw (second-read w, h) w.shape) ∙ rw (second-read w)
  own_read flow within i h (cons w nil) = known_read w (omega arith) (rw (second-read w, h) w.shape) ∙ rw (second-read w)
  own_read pick within i h (cons w nil) = known_read w (omega arith) (rw (second-read w, h) w.shape) ∙ rw (second-read w)
  own_read (scope [] true) within i h (cons w nil) =
      both (eqb within 3) _ h (λ z x. both (not handler) _ x (λ y v. rw (code_read w refl (rw (not-true handler y)), w.shape, eqb-true within 3 z)))
  own_read (scope [] false) within i h (cons w nil) =
      both (eqb within 2) _ h (λ z x. both (not handler) _ x (λ y v. rw (code_read w refl (rw (not-true handler y)), w.shape, eqb-true within 2 z)))
  own_read (scope (number ∷ numbers) undo) within i h x = let z : ◌≡◌ {A = ℕ} 0 1 = cc in absurd (omega arith)
  own_read (arm p o vs) within i h x = absurd (false≢true h)

  -- a scope with fault parts by number, before its body
  scope-read : {r : ℕ} → Row t r (14 ∷ []) → handler ≡ false → head_at vars cs t handler (suc d) n r ≡ found numbered_head (r + 1)
  unfolding head_at parts_fit parts_at
  scope-read w e = rw (code_read w refl (rw e), w.shape)

  arm-own-read : (own : Own) (within : ℕ) {r m : ℕ} → own_within vars cs handler true own within ≡ true → Stands t r (own_rows own within) m
      → ((is_scope own ≡ false) × ((is_pick own ≡ false) × (numbers_of own ≡ []))) × (arm_at vars t n r ≡ found (head own within) m)
  unfolding own_within own_rows exchange_numbers arm_at exchange_fits
  arm-own-read (arm p o vs) within {r} h (cons w nil) =
      both (eqb within 1) _ h (λ z q.
      let x = exchange-of vars true p o vs q in
      let y : Tupled3 t r o vs = tuple3-read {vs = vs} w in
      let k : 3 + length vs + 0 ≡ suc (suc (suc (length vs))) = omega arith in
      ((refl, (refl, refl)), rw (row_read w, x.partner, lt-leb 256 n room, y.all, y.two, x.operation, y.three, x.some, x.most, x.each, k, w.shape, eqb-true within 1 z)))
  arm-own-read empty within h x = absurd (false≢true h)
  arm-own-read (send (to_partner p) o vs) within h x = absurd (false≢true h)
  arm-own-read (send (to_held v reply) o vs) within h x = absurd (false≢true h)
  arm-own-read (receive (from_partner p) o vs) within h x = absurd (false≢true h)
  arm-own-read (receive (from_asking p v) o vs) within h x = absurd (false≢true h)
  arm-own-read (set v e) within h x = absurd (false≢true h)
  arm-own-read (raise number) within h x = absurd (false≢true h)
  arm-own-read leave within h x = absurd (false≢true h)
  arm-own-read (choose e) within h x = absurd (false≢true h)
  arm-own-read (repeat e) within h x = absurd (false≢true h)
  arm-own-read sequence within h x = absurd (false≢true h)
  arm-own-read flow within h x = absurd (false≢true h)
  arm-own-read pick within h x = absurd (false≢true h)
  arm-own-read (scope ns undo) within h x = absurd (false≢true h)

-- the rows of a scope with fault parts by number, one after the other
record Scoped (t : List ℕ) (r : ℕ) (numbers : List ℕ) (a : Act) (l : Acts) (n : ℕ) : Type 0 where
  m : ℕ
  code : Row t r (14 ∷ [])
  body : Stands t (r + 1) (act_rows a) m
  many : Row t m (length numbers ∷ [])
  parts : Stands t (m + 1) (acts_rows (rows.alone numbers) l) n

scope-split : {t : List ℕ} {r n : ℕ} (numbers : List ℕ) (a : Act) (l : Acts)
    → Stands t r ((14 ∷ []) ∷ (act_rows a ++ ((length numbers ∷ []) ∷ acts_rows (rows.alone numbers) l))) n → Scoped t r numbers a l n
scope-split {t} {r} {n} numbers a l (cons w x) = go (stands-split t (act_rows a) ((length numbers ∷ []) ∷ acts_rows (rows.alone numbers) l) x)
  where
    tail : {m : ℕ} → Stands t m ((length numbers ∷ []) ∷ acts_rows (rows.alone numbers) l) n → Row t m (length numbers ∷ []) × Stands t (m + 1) (acts_rows (rows.alone numbers) l) n
    tail (cons v y) = (v, y)

    go : Split t (r + 1) (act_rows a) ((length numbers ∷ []) ∷ acts_rows (rows.alone numbers) l) n → Scoped t r numbers a l n
    go s = let y = tail s.second in record { m = s.m; code = w; body = s.first; many = y.0; parts = y.1 }

gaps-none : (t : List ℕ) {r m : ℕ} (gs : List (List ℕ)) (l : Acts) → gs ≡ [] → Stands t r (acts_rows gs l) m → Stands t r (acts_rows [] l) m
gaps-none t gs l e x = rw e at x

-- Activities and arms with those within them.

module _ (vars : ℕ) (cs t : List ℕ) where
  ReadsAct : Act → Type 0
  ReadsAct a = (arms handler : Bool) (depth n r m : ℕ) → n + size a ≤ 256 → act_within vars cs handler arms a depth ≡ true → Stands t r (act_rows a) m
      → reads_at arms (act_at depth vars cs t) vars t handler n r ≡ found a m

  ReadsEach : Acts → Type 0
  ReadsEach none = Unit
  ReadsEach (more a l) = ReadsAct a × ReadsEach l

  many_read : (l : Acts) → ReadsEach l → (arms handler later : Bool) (depth n r m : ℕ) → n + sizes l ≤ 256 → acts_within vars cs handler later arms l depth ≡ true
      → Stands t r (acts_rows [] l) m → many_in (reads_at arms (act_at depth vars cs t) vars t) handler later (count l) n r ≡ found l m
  unfolding ReadsAct ReadsEach acts_within acts_rows sizes count many_in
  many_read none each arms handler later depth n r m room h nil = refl
  many_read (more a l) each arms handler after depth n r m room h x =
      both (act_within vars cs handler arms a depth) _ h (λ p q.
      let s = stands-split t (act_rows a) (acts_rows [] l) x in
      rw (one-add (count l), each.0 arms handler depth n r s.m (omega arith) p s.first, many_read l each.1 arms after after depth (n + size a) s.m m (omega arith) q s.second))

  -- fault parts by number, each behind its number, and what follows them
  count-read : {r k : ℕ} → Row t r (k ∷ []) → from1 8 k ≡ true → count_at t r ≡ found k (r + 1)
  unfolding count_at
  count-read w h = rw (row_read w, h, w.shape)

  number_read : {r x : ℕ} (known : List ℕ) → Row t r (x ∷ []) → namable x ≡ true → among x known ≡ false → fault_number_at t known r ≡ found x (r + 1)
  unfolding fault_number_at
  number_read known w h k = rw (row_read w, h, k, w.shape)

  parts-read : (numbers : List ℕ) (l : Acts) → ReadsEach l → (known : List ℕ) (depth n r m : ℕ) → count l ≡ length numbers + 2 → n + sizes l ≤ 256
      → acts_within vars cs true true false l depth ≡ true → numbers_each numbers ≡ true → Apart true known numbers → Stands t r (acts_rows (rows.alone numbers) l) m
      → numbered_at (act_at depth vars cs t) t (length numbers) known n r ≡ found (record { numbers = numbers; parts = l }) m
  unfolding ReadsAct ReadsEach acts_within acts_rows sizes count numbers_each numbered_at
  parts-read [] l each known depth n r m many room h f a x = rw (rw many at (many_read l each false true true depth n r m room h x))
  parts-read (y ∷ ns) none each known depth n r m many room h f a x = absurd (omega arith)
  parts-read (y ∷ ns) (more b l) each known depth n r m many room h f a (cons w x) =
      both (act_within vars cs true false b depth) _ h (λ u v. both (namable y) _ f (λ g f1. both (not (among y ns)) _ f1 (λ i j.
      let s = stands-split t (act_rows b) (acts_rows (rows.alone ns) l) x in
      rw (
        number_read known w g (apart-first true known ns y a),
        each.0 false true depth n (r + 1) s.m (omega arith) u s.first,
        parts-read ns l each.1 (y ∷ known) depth (n + size b) s.m m (omega arith) (omega arith) v j (apart_more known ns y a (not-true _ i)) s.second,
      ))))

  numbered-read : (number : ℕ) (numbers : List ℕ) (undo : Bool) (l : Acts) → ReadsEach l → (handler : Bool) (d n r m : ℕ) → n + (1 + sizes l) ≤ 256
      → own_within vars cs handler false (scope (number ∷ numbers) undo) (count l) ≡ true → acts_within vars cs handler true false l d ≡ true
      → Stands t r (act_rows (act (scope (number ∷ numbers) undo) l)) m → act_at (suc d) vars cs t handler n r ≡ found (act (scope (number ∷ numbers) undo) l) m
  unfolding ReadsAct ReadsEach Apart among own_within numbers_within acts_within sizes count act_at numbered_scope_at
  numbered-read y ns undo none each handler d n r m room h k x =
      both (eqb 0 (length (y ∷ ns) + cond undo 3 2)) _ h (λ e w. let f = eqb-true 0 (length (y ∷ ns) + cond undo 3 2) e in absurd (omega arith))
  numbered-read y ns false (more b l) each handler d n r m room h k x =
      both (eqb (count (more b l)) (length (y ∷ ns) + 2)) _ h (λ e h1. both (not handler) _ h1 (λ g h2. absurd (false≢true h2)))
  numbered-read y ns true (more b l) each handler d n r m room h k x =
      both (eqb (count (more b l)) (length (y ∷ ns) + 3)) _ h (λ e h1. both (not handler) _ h1 (λ g h2. both (leb (length (y ∷ ns)) 8) _ h2 (λ i j.
      both (act_within vars cs handler false b d) _ k (λ u v.
      let parts : count l ≡ length (y ∷ ns) + 2 = omega (arith, eqb-true (count (more b l)) (length (y ∷ ns) + 3) e) in
      let s = scope-split (y ∷ ns) b l (rw (scope-rows (y ∷ ns) b l (omega arith) parts) at x) in
      rw (
        scope-read vars cs t handler d n (omega arith) s.code (not-true handler g),
        each.0 false handler d (n + 1) (r + 1) s.m (omega arith) u s.body,
        count-read s.many (rw (le-leb 1 (length (y ∷ ns)) (omega arith), i)),
        parts-read (y ∷ ns) l each.1 [] d (n + 1 + size b) (s.m + 1) m parts (omega arith) v j (λ w o. refl) s.parts,
      )))))

  plain-read : (own : Own) (l : Acts) → numbers_of own ≡ [] → ReadsEach l → (handler : Bool) (d n r m : ℕ) → n + (1 + sizes l) ≤ 256
      → own_within vars cs handler false own (count l) ≡ true → acts_within vars cs handler (later_of own handler) (is_pick own) l d ≡ true
      → Stands t r (act_rows (act own l)) m → act_at (suc d) vars cs t handler n r ≡ found (act own l) m
  unfolding act_rows gaps_of act_at
  plain-read own l e each handler d n r m room a b x =
      let y : Stands t r (own_rows own (count l) ++ acts_rows [] l) m = rw e at x in
      let s = stands-split t (own_rows own (count l)) (acts_rows [] l) y in
      rw (
        own_read vars cs t handler d n (omega arith) own (count l) e a s.first,
        many_read l each (is_pick own) handler (later_of own handler) d (n + 1) s.m m (omega arith) b s.second,
      )

  any-read : (own : Own) → ByNumber own → (l : Acts) → ReadsEach l → (handler : Bool) (d n r m : ℕ) → n + (1 + sizes l) ≤ 256
      → own_within vars cs handler false own (count l) ≡ true → acts_within vars cs handler (later_of own handler) (is_pick own) l d ≡ true
      → Stands t r (act_rows (act own l)) m → act_at (suc d) vars cs t handler n r ≡ found (act own l) m
  any-read own (plain e) l = plain-read own l e
  any-read own (numbered y ns undo) l = numbered-read y ns undo l

  act-read : (own : Own) (l : Acts) → ReadsEach l → ReadsAct (act own l)
  unfolding ReadsAct act_within act_rows gaps_of size arm_with
  act-read own l each true handler depth n r m room h x =
      both (own_within vars cs handler true own (count l)) _ h (λ a b.
      let s = stands-split t (own_rows own (count l)) (acts_rows (gaps_of (numbers_of own)) l) x in
      let (k, o) = arm-own-read vars cs t handler 0 n (omega arith) own (count l) a s.first in
      rw (o, many_read l each false handler handler depth (n + 1) s.m m (omega arith) (rw (k.0, k.1.0) at b) (gaps-none t (gaps_of (numbers_of own)) l (ap gaps_of k.1.1) s.second)))
  act-read own l each false handler zero n r m room h x = absurd (false≢true h)
  act-read own l each false handler (suc d) n r m room h x =
      both (ltb 0 (suc d)) _ h (λ _ h1. both (own_within vars cs handler false own (count l)) _ h1 (λ a b.
      any-read own (by_number own) l each handler d n r m room a (rw (sub-one (suc d)) at b) x))

  mutual
    unfolding ReadsEach

    reads-act : (a : Act) → ReadsAct a
    reads-act (act own l) = act-read own l (reads-each l)

    reads-each : (l : Acts) → ReadsEach l
    reads-each none = tt
    reads-each (more a l) = (reads-act a, reads-each l)

-- Plans.

-- each of the correlation variables is above the one before, so that there are no more of them than variables
pub ascending-few : (vars least : ℕ) (l : List ℕ) → least ≤ vars → ascending vars least l ≡ true → least + length l ≤ vars
unfolding ascending
ascending-few vars least [] k h = omega arith
ascending-few vars least (v ∷ l) k h =
    both (leb least v) _ h (λ x h1. both (ltb v vars) _ h1 (λ y z.
    let a = leb-true least v x in
    let b = ltb-true v vars y in
    omega (arith, ascending-few vars (v + 1) l (omega arith) z)))

pub record Limits (p : Plan) : Type 0 where
  pub short : length (spelling p) ≤ 4096
  pub some : leb 1 p.variables ≡ true
  pub few : leb p.variables 16 ≡ true
  pub ordered : ascending p.variables 0 p.correlation ≡ true
  pub body : act_within p.variables p.correlation false false p.body 16 ≡ true
  pub fault : act_within p.variables p.correlation true false p.fault 16 ≡ true
  pub room : size p.body + size p.fault ≤ 256
  pub start : start_form p.body ≡ true

pub limits : (p : Plan) → plan_within p ≡ true → Limits p
unfolding plan_within
limits p h =
    both (leb (length (spelling p)) 4096) _ h (λ a h1.
    both (from1 16 p.variables) _ h1 (λ b h2.
    both (leb 1 p.variables) _ b (λ b1 b2.
    both (ascending p.variables 0 p.correlation) _ h2 (λ c h3.
    both (act_within p.variables p.correlation false false p.body 16) _ h3 (λ d h4.
    both (act_within p.variables p.correlation true false p.fault 16) _ h4 (λ e h5.
    both (leb (size p.body + size p.fault) 256) _ h5 (λ f g. record {
      short = leb-true _ _ a;
      some = b1;
      few = b2;
      ordered = c;
      body = d;
      fault = e;
      room = leb-true _ _ f;
      start = g;
    })))))))

-- A table in which the rows of a plan within the limits stand, and no more, is read as that plan, whether or not its receives agree.
standing-is-any : (t : List ℕ) (p : Plan) {m : ℕ} → plan_within p ≡ true → Stands t 0 (plan_rows p) m → length t ≤ m * 20 → plan_at t ≡ found p m
unfolding plan_rows plan_at root_at head_fits ReadsAct
standing-is-any t p {m} h (cons w x) last =
    let l = limits p h in
    let cs = p.correlation in
    let y : Tupled3 t 0 p.variables cs = tuple3-read {vs = cs} w in
    let k : 3 + length cs ≡ suc (suc (suc (length cs))) = omega arith in
    let f : leb (length cs) p.variables ≡ true =
    le-leb (length cs) p.variables (omega (arith, ascending-few p.variables 0 cs (omega arith) l.ordered)) in
    let s = stands-split t (act_rows p.body) (act_rows p.fault) x in
    rw (
      row_read w,
      y.all,
      y.two,
      y.three,
      l.some,
      l.few,
      f,
      l.ordered,
      k,
      w.shape,
      reads-act p.variables cs t p.body false false 16 0 1 s.m (omega (arith, l.room)) l.body s.first,
      reads-act p.variables cs t p.fault false true 16 (size p.body) s.m m l.room l.fault s.second,
      le-ltb (m * 20) (length t) last,
      l.start,
    )

-- A table in which the rows of a plan within the limits stand, and no more, is read as that plan, where its receives agree.
pub standing-is-read : (t : List ℕ) (p : Plan) {m : ℕ} → plan_within p ≡ true → agree p ≡ true → Stands t 0 (plan_rows p) m → length t ≤ m * 20 → read_rows t ≡ found p m
unfolding read_rows agreed_at
standing-is-read t p {m} h k x last =
    rw (
      standing-is-any t p h x last,
      judged-agrees [] (asked_from in_rows p 1) (found p m) (rows_agree p ∙ k),
      le-ltb 4096 (length (spelling p)) (limits p h).short,
    )

-- no row of a plan within the limits has more than 19 numbers
pub short-append : (a b : List (List ℕ)) → Short a → Short b → Short (a ++ b)
unfolding Short
short-append [] b x y = y
short-append (ns ∷ a) b x y = (x.0, short-append a b x.1 y)

short-expression : (e : Exp) → Short (expression_rows e)
unfolding Short expression_rows
short-expression (constant v) = (omega arith, tt)
short-expression (variable v) = (omega arith, tt)
short-expression (binary o l r) = (omega arith, short-append (expression_rows l) (expression_rows r) (short-expression l) (short-expression r))

short-exchange : (vars : ℕ) (once : Bool) (p o : ℕ) (vs : List ℕ) → exchange_within vars once p o vs ≡ true → length vs ≤ 4
short-exchange vars once p o vs h = leb-true _ _ (exchange-of vars once p o vs h).most

short-own : (vars : ℕ) (cs : List ℕ) (handler arms : Bool) (own : Own) (within : ℕ) → own_within vars cs handler arms own within ≡ true → Short (own_rows own within)
unfolding Short own_rows own_within exchange_numbers
short-own vars cs handler arms empty within h = (omega arith, tt)
short-own vars cs handler arms (send (to_partner p) o vs) within h =
    both (not arms) _ h (λ a h1. both (eqb within 0) _ h1 (λ b x. (omega (arith, short-exchange vars false p o vs x), tt)))
short-own vars cs handler arms (send (to_held v reply) o vs) within h =
    both (not arms) _ h (λ a h1. both (eqb within 0) _ h1 (λ b h2. both (ltb v vars) _ h2 (λ c x.
    (omega (arith, short-exchange vars false reply o vs x, length-append vs (reply ∷ [])), tt))))
short-own vars cs handler arms (receive (from_partner p) o vs) within h =
    both (not arms) _ h (λ a h1. both (eqb within 0) _ h1 (λ b x. (omega (arith, short-exchange vars true p o vs x), tt)))
short-own vars cs handler arms (receive (from_asking p v) o vs) within h =
    both (not arms) _ h (λ a h1. both (eqb within 0) _ h1 (λ b h2. both (exchange_within vars true p o vs) _ h2 (λ x c.
    (omega (arith, short-exchange vars true p o vs x, length-append vs (v ∷ [])), tt))))
short-own vars cs handler arms (set v e) within h = (omega arith, short-expression e)
short-own vars cs handler arms (raise zero) within h = (omega arith, tt)
short-own vars cs handler arms (raise (suc number)) within h = (omega arith, tt)
short-own vars cs handler arms leave within h = (omega arith, tt)
short-own vars cs handler arms (choose e) within h = (omega arith, short-expression e)
short-own vars cs handler arms (repeat e) within h = (omega arith, short-expression e)
short-own vars cs handler arms sequence within h = (omega arith, tt)
short-own vars cs handler arms flow within h = (omega arith, tt)
short-own vars cs handler arms pick within h = (omega arith, tt)
short-own vars cs handler arms (scope ns undo) within h = (omega arith, tt)
short-own vars cs handler arms (arm p o vs) within h =
    both arms _ h (λ a h1. both (eqb within 1) _ h1 (λ b x. (omega (arith, short-exchange vars true p o vs x), tt)))

short-alone : (ns : List ℕ) → Short (rows.alone ns)
unfolding Short
short-alone [] = tt
short-alone (x ∷ ns) = (omega arith, short-alone ns)

mutual
  unfolding act_rows acts_rows act_within acts_within Short

  short-act : (vars : ℕ) (cs : List ℕ) (handler arms : Bool) (a : Act) (depth : ℕ) → act_within vars cs handler arms a depth ≡ true → Short (act_rows a)
  short-act vars cs handler arms (act own l) depth h =
      both (arms || ltb 0 depth) _ h (λ a h1. both (own_within vars cs handler arms own (count l)) _ h1 (λ b c.
      short-append (own_rows own (count l)) (acts_rows (gaps_of (numbers_of own)) l) (short-own vars cs handler arms own (count l) b)
      (short-acts vars cs handler _ _ (gaps_of (numbers_of own)) l _ c)))

  short-acts : (vars : ℕ) (cs : List ℕ) (handler after arms : Bool) (gs : List (List ℕ)) (l : Acts) (depth : ℕ) → acts_within vars cs handler after arms l depth ≡ true → Short (acts_rows gs l)
  short-acts vars cs handler after arms gs none depth h = tt
  short-acts vars cs handler after arms gs (more a l) depth h =
      both (act_within vars cs handler arms a depth) _ h (λ b c.
      short-append (rows.alone (gap gs)) (act_rows a ++ acts_rows (later gs) l) (short-alone (gap gs))
      (short-append (act_rows a) (acts_rows (later gs) l) (short-act vars cs handler arms a depth b) (short-acts vars cs after after arms (later gs) l depth c)))

pub short-plan : (p : Plan) → Limits p → Short (plan_rows p)
unfolding plan_rows Short
short-plan p l =
    let few : p.variables ≤ 16 = leb-true p.variables 16 l.few in (
      omega (arith, ascending-few p.variables 0 p.correlation (omega arith) l.ordered),
      short-append (act_rows p.body) (act_rows p.fault) (short-act _ _ _ _ p.body _ l.body) (short-act _ _ _ _ p.fault _ l.fault),
    )

pub lines_long : (l : List (List ℕ)) → Short l → length (lines l) ≡ length l * 20
unfolding lines Short
lines_long [] s = refl
lines_long (ns ∷ l) s = length-append (line ns) (lines l) ∙ omega (arith, line-long ns s.0, lines_long l s.1)

-- The table of every plan within the limits whose receives agree is read as that plan.
pub rows-are-read : (p : Plan) → plan_within p ≡ true → agree p ≡ true → read_rows (rows_of p) ≡ found p (length (plan_rows p))
unfolding rows_of
rows-are-read p h k =
    let s = short-plan p (limits p h) in
    let z : 0 + length (plan_rows p) ≡ length (plan_rows p) = omega arith in
    standing-is-read (lines (plan_rows p)) p h k (rw z at (lines-stand (lines (plan_rows p)) 0 (plan_rows p) s (omega arith) refl)) (omega (arith, lines_long (plan_rows p) s))
