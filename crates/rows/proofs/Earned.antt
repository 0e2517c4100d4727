-- A table is refused with the number that its bytes earn, where each of its rows has the count that its code asks for. Both readers go side by side, row by
-- row. Assumes nothing.
use borrow.Author.Tests.{eq-eqb, ne_eqb, lt-ltb, le-ltb, le-leb, lt-leb, ltb-true, ltb-false, leb-true, leb-false, eqb-true, eqb-false, not-false}
use native.Mathlib.Omega.{arith}
use mathlib.Core.Path.{◌≡◌, refl, sym, ap, subst, ◌∙◌}
use mathlib.Core.Bool.{Bool, true, false, cond, not, ◌&&◌, ◌||◌, false≢true, and-true}
use mathlib.Core.List.{List, [], ◌∷◌, ◌++◌, append_assoc, append-nil}
use Prim.Native.Nat.{ℕ, zero, suc, ◌+◌, ◌*◌, ◌-◌, ◌/◌, ◌≤◌, ◌<◌}
use lib.Dec.{eqb, ltb, leb}
use lib.ListN.{length, take, drop, replicate, length-append, length-drop, take-append-drop}
use lib.Seq.{length-take-le, drop-drop, drop_at}
use Rattle.numbers.specs.Number.{got, groups, number_at}
use Rattle.numbers.specs.Shortest.{shortest}
use Rattle.numbers.proofs.Laws.{shortest-is-read, shortest-long}
use Rattle.plan.specs.Agree.{Asked, agrees_with, agree_after, agree, asked, asked_from, judged}
use Rattle.plan.specs.Found.{Found, refused, found, and_then, number_in, field_in, among}
use Rattle.plan.specs.Spell.{spell}
use Rattle.plan.specs.Tree.{Exp, Own, to_partner, to_held, from_partner, from_asking, send, receive, set, choose, repeat, sequence, flow, pick, arm, is_pick, Act, Plan, size}
use Rattle.plan.specs.Read.{expression_code_in, leaf_in, expression_in, variables_in, tuple_in, Head, head, exchange_in, arm_in, partner_in, held_send_in, asking_receive_in, with_expression_in, set_in, list_in, raise_in, namable, fault_number_in, is_code, is_scope_code, code_in, parts_in, head_in, many_in, numbered_head, numbered_in, numbered_scope_in, whole_in, read_arm, reads_in, later_of, read_act, start_form, correlation_in, version_in, closing, root_in, read_any, read_plan}
use Rattle.plan.specs.Within.{variables_within, from1, ascending}
use Rattle.plan.proofs.Accepts.{both, among-append}
use Rattle.plan.proofs.Agreeing.{judged-agrees}
use Rattle.plan.proofs.ByKind.{last_code}
use Rattle.writer.specs.Rows.{used, row_numbers, numbers_from, numbers_of}
use Rattle.writer.specs.Reading.{cell, shaped, row_in, expression_fits, expression_head, expression_at, tuple, exchange_fits, last_of, stores_reply, arm_at, code_at, parts_fit, with_expression, parts_at, head_at, count_at, fault_number_at, numbered_at, numbered_scope_at, whole_at, arm_with, reads_at, act_at, closing_at, root_at, head_fits, plan_at, in_rows, agreed_at, read_rows}
use Rattle.writer.proofs.Lines.{cells-cons}
use Rattle.writer.proofs.WriteReturns.{rows-spell}
use Rattle.rows.proofs.SamePlaces.{rows_agree}
use Rattle.rows.specs.Counted.{Part, a_head, an_activity, an_arm, an_expression, a_count, a_number, activity_asks, asks, times, activity_has, numbered_has, has, counted_from, counted}
use Rattle.rows.proofs.TableLimits.{Words}

-- a number at a place from which it and others are spelled; and where nothing is spelled
record Number-read (s : List ℕ) (q x : ℕ) (ns : List ℕ) : Type 0 where
  next : ℕ
  is : number_in s q ≡ found x next
  after : drop next s ≡ spell ns

number_read : (s : List ℕ) (q x : ℕ) (ns : List ℕ) → drop q s ≡ spell (x ∷ ns) → x ≤ 4294967295 → Number-read s q x ns
unfolding spell number_in
number_read s q x ns e small =
    let l : length (take q s) ≡ q = length-take-le q s (omega (arith, length-drop q s, ap length e, length-append (shortest x) (spell ns), shortest-long x)) in
    let w : s ≡ take q s ++ (shortest x ++ spell ns) = sym (take-append-drop q s) ∙ rw e in
    let n : number_at s q ≡ got x (q + length (shortest x)) = rw l at (rw (← w) at (shortest-is-read (take q s) (spell ns) x small)) in
    record {
      next = q + length (shortest x);
      is = rw n;
      after = sym (drop-drop (length (shortest x)) q s) ∙ rw e (drop_at (shortest x) (spell ns) (length (shortest x)) refl);
    }

spelt-some : (s : List ℕ) (q x : ℕ) (ns : List ℕ) → drop q s ≡ spell (x ∷ ns) → q < length s
unfolding spell
spelt-some s q x ns e = omega (arith, length-drop q s, ap length e, length-append (shortest x) (spell ns), shortest-long x)

spelt-none : (s : List ℕ) (q : ℕ) → drop q s ≡ spell [] → length s ≤ q
unfolding spell
spelt-none s q e = omega (arith, length-drop q s, ap length e)

short-read : (s : List ℕ) (q : ℕ) → length s ≤ q → number_in s q ≡ refused 2 (length s)
unfolding number_in number_at groups
short-read s q h = simp (le-leb (length s) q h)

-- a test holds or not, with the equation
decide : {P : Type 0} (b : Bool) → (b ≡ true → P) → (b ≡ false → P) → P
decide true f g = f refl
decide false f g = g refl

-- The two readers side by side: t is the table, s its bytes.
module _ (t s : List ℕ) (words : Words t) where
  -- row r is to stand for the first of these, and place q is where its bytes start
  record Here (ps : List Part) (r q : ℕ) : Type 0 where
    left : ℕ
    rows : r + left ≡ length t / 20
    spelt : drop q s ≡ spell (numbers_from left t r)
    good : counted_from left t r ps ≡ true

  -- k numbers of row r are left from place c on, and place q is where their bytes start; the rows behind stand for these
  record Inside (ps : List Part) (r c k q : ℕ) : Type 0 where
    left : ℕ
    rows : r + 1 + left ≡ length t / 20
    room : c + k ≤ 20
    spelt : drop q s ≡ spell (take k (drop (r * 20 + c) t) ++ numbers_from left t (r + 1))
    good : counted_from left t (r + 1) ps ≡ true

  -- what they find: the same, or a refusal with the same number
  data Meets (ps : List Part) {A : Type 0} : Found A → Found A → Type 0 where
    met : {a : A} {r q : ℕ} → Here ps r q → Meets ps (found a r) (found a q)
    same : {n r q : ℕ} → Meets ps (refused n r) (refused n q)

  meets-then : {ps qs : List Part} {A B : Type 0} {x y : Found A} {f g : A → ℕ → Found B} → Meets ps x y
      → ((a : A) (r q : ℕ) → Here ps r q → Meets qs (f a r) (g a q)) → Meets qs (and_then x f) (and_then y g)
  meets-then (met h) k = k _ _ _ h
  meets-then same k = same

  -- one number of a row
  record Cell (ps : List Part) (r c k q : ℕ) : Type 0 where
    next : ℕ
    is : number_in s q ≡ found (cell t r c) next
    inside : Inside ps r (c + 1) k next

  cell-read : {ps : List Part} {r c k q : ℕ} → Inside ps r c (suc k) q → Cell ps r c k q
  cell-read {ps} {r} {c} {k} {q} w =
      let a : take (suc k) (drop (r * 20 + c) t) ≡ cell t r c ∷ take k (drop (r * 20 + (c + 1)) t) = cells-cons t r c k (omega (arith, w.rows)) (omega (arith, w.room)) in
      let e : drop q s ≡ spell (cell t r c ∷ (take k (drop (r * 20 + (c + 1)) t) ++ numbers_from w.left t (r + 1))) = w.spelt ∙ ap (λ (l : List ℕ). spell (l ++ numbers_from w.left t (r + 1))) a in
      let n = number_read s q (cell t r c) _ e (words (r * 20 + c)) in
      record { next = n.next; is = n.is; inside = record { left = w.left; rows = w.rows; room = omega (arith, w.room); spelt = n.after; good = w.good } }

  -- the same under a rule
  field-read : {ps : List Part} {r c k q : ℕ} (x : Cell ps r c k q) (least limit : ℕ)
      → field_in s least limit q ≡ cond (ltb (cell t r c) least || leb limit (cell t r c)) (refused 5 q) (found (cell t r c) x.next)
  unfolding field_in
  field-read x least limit = rw x.is

  leaves : {ps : List Part} {r c q : ℕ} → Inside ps r c 0 q → Here ps (r + 1) q
  leaves w = record { left = w.left; rows = w.rows; spelt = w.spelt; good = w.good }

  -- a row begins
  record Row (p : Part) (ps : List Part) (r q : ℕ) : Type 0 where
    there : ltb r (length t / 20) ≡ true
    shape : shaped t r (asks p t r) ≡ true
    inside : Inside (has p t r ++ ps) r 1 (used (asks p t r)) q

  used-few : (k : ℕ) → used k ≤ 19
  used-few k = decide (ltb 19 k) (λ e. rw e (omega arith)) (λ e. rw e (omega (arith, ltb-false 19 k e)))

  row-begins : {p : Part} {ps : List Part} {r q : ℕ} (h : Here (p ∷ ps) r q) (l : ℕ) → h.left ≡ suc l → Row p ps r q
  unfolding counted_from numbers_from row_numbers shaped
  row-begins {p} {ps} {r} {q} h l z =
      let g : counted_from (suc l) t r (p ∷ ps) ≡ true = subst (λ (n : ℕ). counted_from n t r (p ∷ ps) ≡ true) z h.good in
      let e : drop q s ≡ spell (numbers_from (suc l) t r) = h.spelt ∙ ap (λ (n : ℕ). spell (numbers_from n t r)) z in
      both (shaped t r (asks p t r)) _ g (λ a b.
      let m : cell t r 0 ≡ asks p t r = both (eqb (cell t r 0) (asks p t r)) _ a (λ c d. eqb-true _ _ c) in
      record {
        there = lt-ltb r (length t / 20) (omega (arith, h.rows, z));
        shape = a;
        inside = record {
          left = l;
          rows = omega (arith, h.rows, z);
          room = omega (arith, used-few (asks p t r));
          spelt = e ∙ ap (λ (n : ℕ). spell (take (used n) (drop (r * 20 + 1) t) ++ numbers_from l t (r + 1))) m;
          good = b;
        };
      })

  -- every row asks for a number
  used-some : (k : ℕ) → 1 ≤ k → 0 < used k
  used-some k h = decide (ltb 19 k) (λ e. rw e (omega arith)) (λ e. rw e (omega arith))

  cond-some : (b : Bool) (x y : ℕ) → 1 ≤ x → 1 ≤ y → 1 ≤ cond b x y
  cond-some true x y f g = f
  cond-some false x y f g = g

  asks-some : (p : Part) (r : ℕ) → 1 ≤ asks p t r
  unfolding asks activity_asks
  asks-some a_head r = omega arith
  asks-some an_activity r =
      cond-some (eqb (cell t r 1) 1 || eqb (cell t r 1) 2) _ _ (omega arith)
      (cond-some (eqb (cell t r 1) 17 || eqb (cell t r 1) 18) _ _ (omega arith)
      (cond-some (eqb (cell t r 1) 3 || (eqb (cell t r 1) 8 || (eqb (cell t r 1) 9 || (eqb (cell t r 1) 10 || eqb (cell t r 1) 13)))) 2 1 (omega arith) (omega arith)))
  asks-some an_arm r = omega arith
  asks-some an_expression r = cond-some (leb (cell t r 1) 1) 2 1 (omega arith) (omega arith)
  asks-some a_count r = omega arith
  asks-some a_number r = omega arith

  -- the first number of a row that is to stand for p; or the rows and the bytes run out
  data Starts (p : Part) (ps : List Part) (r q : ℕ) : Type 0 where
    ends : {n m : ℕ} → row_in t r ≡ refused 2 n → number_in s q ≡ refused 2 m → Starts p ps r q
    begins : Row p ps r q → row_in t r ≡ found (cell t r 1) (r + 1) → (k : ℕ) → used (asks p t r) ≡ suc k → Cell (has p t r ++ ps) r 1 k q → Starts p ps r q

  starts : {p : Part} {ps : List Part} {r q : ℕ} → Here (p ∷ ps) r q → Starts p ps r q
  unfolding row_in numbers_from
  starts {p} {ps} {r} {q} h = go h.left refl
    where
      go : (l : ℕ) → h.left ≡ l → Starts p ps r q
      go zero z =
          let a : ltb r (length t / 20) ≡ false = le-ltb r (length t / 20) (omega (arith, h.rows, z)) in
          ends {n = length t / 20} {m = length s} (rw a) (short-read s q (spelt-none s q (h.spelt ∙ ap (λ (n : ℕ). spell (numbers_from n t r)) z)))
      go (suc l) z =
          let w = row-begins h l z in
          let n : used (asks p t r) ≡ suc (used (asks p t r) - 1) = omega (arith, used-some (asks p t r) (asks-some p r)) in
          let i : Inside (has p t r ++ ps) r 1 (suc (used (asks p t r) - 1)) q = subst (λ (m : ℕ). Inside (has p t r ++ ps) r 1 m q) n w.inside in
          begins w (rw w.there) (used (asks p t r) - 1) n (cell-read i)

  -- Expressions.
  abbrev Expressions : (depth vars : ℕ) → Type 0
  Expressions depth vars = (ps : List Part) (r q : ℕ) → Here (an_expression ∷ ps) r q → Meets ps (expression_at depth vars t r) (expression_in depth vars s q)

  expression-none : (vars : ℕ) → Expressions 0 vars
  unfolding expression_at expression_head expression_in expression_code_in
  expression-none vars ps r q h = go (starts h)
    where
      go : Starts an_expression ps r q → Meets ps (expression_at 0 vars t r) (expression_in 0 vars s q)
      go (ends a b) = rw (a, b) same
      go (begins w a k n x) = rw (a, x.is) (decide (ltb 5 (cell t r 1)) (λ e. rw e same) (λ e. rw e same))

  inside-as : {ps qs : List Part} {r c k j q : ℕ} → ps ≡ qs → k ≡ j → Inside ps r c k q → Inside qs r c j q
  inside-as {ps} {qs} {r} {c} {k} {j} {q} e d w = subst (λ (z : List Part). Inside z r c j q) e (subst (λ (m : ℕ). Inside ps r c m q) d w)

  below : (v vars : ℕ) → (ltb v vars ≡ true → leb vars v ≡ false) × (ltb v vars ≡ false → leb vars v ≡ true)
  below v vars = ((λ e. lt-leb vars v (ltb-true v vars e)), λ e. le-leb vars v (ltb-false v vars e))

  never_less : (v : ℕ) → ltb v 0 ≡ false
  never_less v = le-ltb v 0 (omega arith)

  -- the row of an expression: two numbers, or one and two expressions behind it
  module _ {ps : List Part} {r q k : ℕ} (w : Row an_expression ps r q) (n : used (asks an_expression t r) ≡ suc k) (x : Cell (has an_expression t r ++ ps) r 1 k q) where
    leaf-shape : leb (cell t r 1) 1 ≡ true → shaped t r 2 ≡ true
    unfolding asks
    leaf-shape b = rw b at w.shape

    leaf-in : leb (cell t r 1) 1 ≡ true → Inside ps r 2 1 x.next
    unfolding asks has
    leaf-in b = let m : 2 ≡ suc k = rw b at n in inside-as (rw b) (omega arith) x.inside

    node-shape : leb (cell t r 1) 1 ≡ false → shaped t r 1 ≡ true
    unfolding asks
    node-shape b = rw b at w.shape

    node_in : leb (cell t r 1) 1 ≡ false → Inside (an_expression ∷ an_expression ∷ ps) r 2 0 x.next
    unfolding asks has
    node_in b = let m : 1 ≡ suc k = rw b at n in inside-as (rw b) (omega arith) x.inside

  module _ (depth vars : ℕ) (ih : Expressions depth vars) where
    expression-more : Expressions (suc depth) vars
    unfolding expression_at expression_head expression_in expression_code_in expression_fits leaf_in field_in
    expression-more ps r q h = go (starts h)
      where
        deep : eqb (suc depth) 0 ≡ false
        deep = ne_eqb (suc depth) 0 (λ z. omega (arith, z))

        leaf : (k : ℕ) (w : Row an_expression ps r q) (n : used (asks an_expression t r) ≡ suc k) (x : Cell (has an_expression t r ++ ps) r 1 k q)
            → row_in t r ≡ found (cell t r 1) (r + 1) → leb (cell t r 1) 1 ≡ true → Meets ps (expression_at (suc depth) vars t r) (expression_in (suc depth) vars s q)
        leaf k w n x a b =
            let m = leaf-shape w n x b in
            let y = cell-read (leaf-in w n x b) in
            decide (eqb (cell t r 1) 0)
            (λ e. let z : cell t r 1 ≡ 0 = eqb-true _ _ e in rw (a, x.is, z, deep, m, y.is) (met (leaves y.inside)))
            (λ e. let z : cell t r 1 ≡ 1 = omega (arith, leb-true (cell t r 1) 1 b, eqb-false (cell t r 1) 0 e) in
            rw (a, x.is, z, deep, m, y.is, never_less (cell t r 2))
            (decide (ltb (cell t r 2) vars) (λ i. rw (i, (below (cell t r 2) vars).0 i) (met (leaves y.inside))) (λ i. rw (i, (below (cell t r 2) vars).1 i) same)))

        node : (k : ℕ) (w : Row an_expression ps r q) (n : used (asks an_expression t r) ≡ suc k) (x : Cell (has an_expression t r ++ ps) r 1 k q)
            → row_in t r ≡ found (cell t r 1) (r + 1) → leb (cell t r 1) 1 ≡ false → ltb 5 (cell t r 1) ≡ false → Meets ps (expression_at (suc depth) vars t r) (expression_in (suc depth) vars s q)
        node k w n x a b e =
            let m = node-shape w n x b in
            let g = leb-false (cell t r 1) 1 b in
            let e0 : eqb (cell t r 1) 0 ≡ false = ne_eqb (cell t r 1) 0 (λ z. omega (arith, g, z)) in
            let e1 : eqb (cell t r 1) 1 ≡ false = ne_eqb (cell t r 1) 1 (λ z. omega (arith, g, z)) in
            let e2 : ltb (cell t r 1) 2 ≡ false = le-ltb (cell t r 1) 2 (omega (arith, g)) in
            rw (a, x.is, e, deep, e0, e1, m, e0, e1, e2)
            (meets-then (ih (an_expression ∷ ps) (r + 1) x.next (leaves (node_in w n x b))) (λ l u v i. meets-then (ih ps u v i) (λ y j z d. met d)))

        go : Starts an_expression ps r q → Meets ps (expression_at (suc depth) vars t r) (expression_in (suc depth) vars s q)
        go (ends a b) = rw (a, b) same
        go (begins w a k n x) =
            decide (ltb 5 (cell t r 1)) (λ e. rw (a, x.is, e) same) (λ e. decide (leb (cell t r 1) 1) (λ b. leaf k w n x a b) (λ b. node k w n x a b e))

  expression-meets : (depth vars : ℕ) → Expressions depth vars
  expression-meets zero vars = expression-none vars
  expression-meets (suc depth) vars = expression-more depth vars (expression-meets depth vars)

  -- Tuples: the variables that are left, each below `vars` and, where `once` holds, none that was read before.
  ok : (vars : ℕ) (once : Bool) → (read l : List ℕ) → Bool
  ok vars once read [] = true
  ok vars once read (v ∷ l) = ltb v vars && (not (once && among v read) && ok vars once (read ++ (v ∷ [])) l)

  -- what is read of them: all, up to place d of the row, where `behind` numbers are left; or 5
  data Tuple (ps : List Part) (r d behind : ℕ) (good : Bool) (vs : List ℕ) : Found (List ℕ) → Type 0 where
    all : {q : ℕ} → good ≡ true → Inside ps r d behind q → Tuple ps r d behind good vs (found vs q)
    wrong : {place : ℕ} → good ≡ false → Tuple ps r d behind good vs (refused 5 place)

  inside-at : {ps : List Part} {r c d k j q : ℕ} → c ≡ d → k ≡ j → Inside ps r c k q → Inside ps r d j q
  inside-at {ps} {r} {c} {d} {k} {j} {q} e f w = subst (λ (i : ℕ). Inside ps r i j q) e (subst (λ (m : ℕ). Inside ps r c m q) f w)

  variables-meet : (vars : ℕ) (once : Bool) (left behind : ℕ) (read : List ℕ) {ps : List Part} {r c d k q : ℕ} → Inside ps r c k q → k ≡ left + behind → c + left ≡ d
      → (l : List ℕ) → take left (drop (r * 20 + c) t) ≡ l → Tuple ps r d behind (ok vars once read l) (read ++ l) (variables_in vars once s left read q)
  unfolding variables_in ok
  variables-meet vars once zero behind read w f g l e = rw (sym e, append-nil read) (all refl (inside-at (omega arith) (omega arith) w))
  variables-meet vars once (suc left) behind read {ps} {r} {c} {d} {k} {q} u f g l e =
      let w : Inside ps r c (suc (left + behind)) q = inside-at refl (omega arith) u in
      let x = cell-read w in
      let v = cell t r c in
      let a : cell t r c ∷ take left (drop (r * 20 + (c + 1)) t) ≡ l = sym (cells-cons t r c left (omega (arith, w.rows)) (omega (arith, w.room))) ∙ e in
      rw (sym a, field-read x 0 vars, never_less v)
      (decide (ltb v vars)
      (λ i. rw (i, (below v vars).0 i) (decide (once && among v read) (λ j. rw j (wrong refl))
      (λ j. rw (j, sym (append_assoc read (v ∷ []) (take left (drop (r * 20 + (c + 1)) t)))) (variables-meet vars once left behind (read ++ (v ∷ [])) x.inside refl (omega arith) _ refl))))
      (λ i. rw (i, (below v vars).1 i) (wrong refl)))

  -- whether each may stand there does not depend on the way it is asked: by those before, or by those behind
  apart : (once : Bool) → (read l : List ℕ) → Bool
  apart once read [] = true
  apart once read (v ∷ l) = not (once && among v read) && apart once read l

  eqb_swap : (v w : ℕ) → eqb v w ≡ eqb w v
  eqb_swap v w = decide (eqb v w) (λ e. e ∙ sym (eq-eqb w v (sym (eqb-true v w e)))) (λ e. e ∙ sym (ne_eqb w v (λ z. eqb-false v w e (sym z))))

  apart_more : (once : Bool) (read : List ℕ) (v : ℕ) (l : List ℕ) → apart once (read ++ (v ∷ [])) l ≡ (apart once read l && not (once && among v l))
  unfolding apart among
  apart_more true read v [] = refl
  apart_more false read v [] = refl
  apart_more once read v (w ∷ l) =
      rw (among-append w read (v ∷ []), apart_more once read v l, eqb_swap w v) (bools once (among w read) (eqb v w) (among v l) (apart once read l))
    where
      bools : (o a e m p : Bool) → (not (o && (a || (e || false))) && (p && not (o && m))) ≡ ((not (o && a) && p) && not (o && (e || m)))
      bools true true e m p = refl
      bools true false true true true = refl
      bools true false true true false = refl
      bools true false true false true = refl
      bools true false true false false = refl
      bools true false false true true = refl
      bools true false false true false = refl
      bools true false false false true = refl
      bools true false false false false = refl
      bools false a e m true = refl
      bools false a e m false = refl

  apart_none : (once : Bool) (l : List ℕ) → apart once [] l ≡ true
  unfolding apart among
  apart_none once [] = refl
  apart_none true (v ∷ l) = apart_none true l
  apart_none false (v ∷ l) = apart_none false l

  ok-both : (vars : ℕ) (once : Bool) (read l : List ℕ) → ok vars once read l ≡ (variables_within vars once l && apart once read l)
  unfolding ok apart variables_within
  ok-both vars once read [] = refl
  ok-both vars once read (v ∷ l) =
      rw (ok-both vars once (read ++ (v ∷ [])) l, apart_more once read v l)
      (bools (ltb v vars) (not (once && among v read)) (variables_within vars once l) (apart once read l) (not (once && among v l)))
    where
      bools : (b a w p m : Bool) → (b && (a && (w && (p && m)))) ≡ ((b && (m && w)) && (a && p))
      bools false a w p m = refl
      bools true true true true true = refl
      bools true true true true false = refl
      bools true true true false true = refl
      bools true true true false false = refl
      bools true true false true true = refl
      bools true true false true false = refl
      bools true true false false true = refl
      bools true true false false false = refl
      bools true false true true true = refl
      bools true false true true false = refl
      bools true false true false true = refl
      bools true false true false false = refl
      bools true false false true true = refl
      bools true false false true false = refl
      bools true false false false true = refl
      bools true false false false false = refl

  ok-within : (vars : ℕ) (once : Bool) (l : List ℕ) → ok vars once [] l ≡ variables_within vars once l
  ok-within vars once l = ok-both vars once [] l ∙ rw (apart_none once l) (and-true (variables_within vars once l))

  -- What is found of an activity or arm before those within it; behind it come those within, each of which is to stand for what f says.
  data Heads (f : Own → Part) (ps : List Part) : Found Head → Found Head → Type 0 where
    head-met : {h : Head} {r q : ℕ} → h.numbered ≡ false → Here (replicate h.within (f h.own) ++ ps) r q → Heads f ps (found h r) (found h q)
    numbered-met : {r q : ℕ} → Here (an_activity ∷ a_count ∷ ps) r q → Heads f ps (found numbered_head r) (found numbered_head q)
    head-same : {n r q : ℕ} → Heads f ps (refused n r) (refused n q)

  heads-then : {f : Own → Part} {ps : List Part} {x y : Found Head} {A : Type 0} {u v : Head → ℕ → Found A} → Heads f ps x y
      → ((h : Head) (r q : ℕ) → h.numbered ≡ false → Here (replicate h.within (f h.own) ++ ps) r q → Meets ps (u h r) (v h q))
      → ((r q : ℕ) → Here (an_activity ∷ a_count ∷ ps) r q → Meets ps (u numbered_head r) (v numbered_head q)) → Meets ps (and_then x u) (and_then y v)
  heads-then (head-met e h) k m = k _ _ _ e h
  heads-then (numbered-met h) k m = m _ _ h
  heads-then head-same k m = same

  here-as : {ps qs : List Part} {r q : ℕ} → ps ≡ qs → Here ps r q → Here qs r q
  here-as {r = r} {q = q} e h = subst (λ (z : List Part). Here z r q) e h

  meets-heads : {f : Own → Part} {ps qs : List Part} {A : Type 0} {x y : Found A} → Meets qs x y → (g : A → Head) → ((a : A) → (g a).numbered ≡ false)
      → ((a : A) → qs ≡ replicate (g a).within (f (g a).own) ++ ps) → Heads f ps (and_then x (λ a n. found (g a) n)) (and_then y (λ a n. found (g a) n))
  meets-heads (met {a = a} h) g d e = head-met (d a) (here-as (e a) h)
  meets-heads same g d e = head-same

  tuple-then : {f : Own → Part} {ps qs : List Part} {r d behind : ℕ} {fits : Bool} {vs : List ℕ} {x : Found (List ℕ)} → Tuple qs r d behind fits vs x
      → (good : Bool) (h : Found Head) (g : List ℕ → ℕ → Found Head) → ((p : ℕ) → Inside qs r d behind p → Heads f ps (cond good h (refused 5 r)) (g vs p))
      → Heads f ps (cond (fits && good) h (refused 5 r)) (and_then x g)
  tuple-then (all e i) good h g k = rw e (k _ i)
  tuple-then (wrong e) good h g k = rw e head-same

  -- the numbers of a send, a receive or an arm from the operation on, and `behind` more, whose rule is `good`
  exchange-then : (f : Own → Part) (ps : List Part) (vars : ℕ) (once : Bool) (c behind : ℕ) {qs : List Part} {r q k : ℕ} → Inside qs r c (suc (suc k)) q
      → (cell t r (c + 1) ≤ 4 → k ≡ cell t r (c + 1) + behind) → shaped t r (c + 1 + cell t r (c + 1) + behind) ≡ true → (good : Bool) (h : Found Head) (g : ℕ → List ℕ → ℕ → Found Head)
      → ((p : ℕ) → Inside qs r (c + 2 + cell t r (c + 1)) behind p → Heads f ps (cond good h (refused 5 r)) (g (cell t r c) (tuple t r (c + 1)) p))
      → Heads f ps (cond (exchange_fits vars once t r c behind && good) h (refused 5 r)) (and_then (field_in s 0 64 q) (λ o p. and_then (tuple_in vars once s p) (λ us a. g o us a)))
  unfolding exchange_fits tuple_in field_in
  exchange-then f ps vars once c behind {qs} {r} {q} {k} w m sh good h g d =
      rw (x.is, never_less v)
      (decide (ltb v 64) (λ i. rw (i, (below v 64).0 i) counts) (λ i. rw (i, (below v 64).1 i) head-same))
    where
      x : Cell qs r c (suc k) q
      x = cell-read w

      y : Cell qs r (c + 1) k x.next
      y = cell-read x.inside

      v : ℕ
      v = cell t r c

      n : ℕ
      n = cell t r (c + 1)

      vs : List ℕ
      vs = tuple t r (c + 1)

      read : leb n 4 ≡ true → Tuple qs r (c + 2 + n) behind (variables_within vars once vs) vs (variables_in vars once s n [] y.next)
      read j =
          let z : r * 20 + (c + 1 + 1) ≡ r * 20 + (c + 1) + 1 = omega arith in
          let e : c + 1 + 1 + n ≡ c + 2 + n = omega arith in
          subst (λ (b : Bool). Tuple qs r (c + 2 + n) behind b vs (variables_in vars once s n [] y.next)) (ok-within vars once vs)
          (variables-meet vars once n behind [] y.inside (m (leb-true n 4 j)) e vs (ap (λ (i : ℕ). take n (drop i t)) z))

      counts : Heads f ps (cond ((from1 4 n && (variables_within vars once vs && shaped t r (c + 1 + n + behind))) && good) h (refused 5 r))
          (and_then (and_then (and_then (number_in s x.next) (λ value next. cond (ltb value 1 || leb 5 value) (refused 5 x.next) (found value next))) (λ count next. variables_in vars once s count [] next))
          (λ us a. g v us a))
      counts =
          rw y.is
          (decide (leb 1 n)
          (λ i. decide (leb n 4)
          (λ j. rw (i, j, le-ltb n 1 (leb-true 1 n i), lt-leb 5 n (omega (arith, leb-true n 4 j)), sh, and-true (variables_within vars once vs)) (tuple-then (read j) good h (g v) d))
          (λ j. rw (i, j, le-ltb n 1 (leb-true 1 n i), le-leb 5 n (omega (arith, leb-false n 4 j))) head-same))
          (λ i. rw (i, lt-ltb n 1 (omega (arith, leb-false 1 n i))) head-same))

  -- with none behind them
  exchange-heads : (f : Own → Part) (ps : List Part) (vars : ℕ) (once : Bool) (own : ℕ → List ℕ → Own) (within c : ℕ) {qs : List Part} {r q k : ℕ} → Inside qs r c (suc (suc k)) q
      → (cell t r (c + 1) ≤ 4 → k ≡ cell t r (c + 1)) → shaped t r (c + 1 + cell t r (c + 1)) ≡ true → ((o : ℕ) (us : List ℕ) → qs ≡ replicate within (f (own o us)) ++ ps)
      → Heads f ps (cond (exchange_fits vars once t r c 0) (found (head (own (cell t r c) (tuple t r (c + 1))) within) (r + 1)) (refused 5 r)) (exchange_in vars once s own within q)
  unfolding exchange_in
  exchange-heads f ps vars once own within c {r = r} w m sh d =
      let z : c + 1 + cell t r (c + 1) + 0 ≡ c + 1 + cell t r (c + 1) = omega arith in
      rw (and-true (exchange_fits vars once t r c 0)) at
      (exchange-then f ps vars once c 0 w (λ i. omega (arith, m i)) (rw z sh) true (found (head (own (cell t r c) (tuple t r (c + 1))) within) (r + 1)) (λ o us p. found (head (own o us) within) p)
      (λ p i. head-met refl (here-as (d (cell t r c) (tuple t r (c + 1))) (leaves i))))

  -- how many numbers of a row are left behind its first ones
  used_low : (m : ℕ) → m ≤ 19 → used m ≡ m
  used_low m h = rw (le-ltb 19 m h)

  used-least : (j m : ℕ) → j ≤ 19 → j ≤ m → j ≤ used m
  used-least j m h g = decide (ltb 19 m) (λ e. rw e h) (λ e. rw e g)

  -- an arm
  arm-heads : (vars n : ℕ) (ps : List Part) (r q : ℕ) → Here (an_arm ∷ ps) r q → Heads (λ o. an_activity) ps (arm_at vars t n r) (arm_in vars s n q)
  unfolding arm_at arm_in field_in asks has
  arm-heads vars n ps r q h = go (starts h)
    where
      p : ℕ
      p = cell t r 1

      go : Starts an_arm ps r q → Heads (λ o. an_activity) ps (arm_at vars t n r) (arm_in vars s n q)
      go (ends a b) = rw (a, b) head-same
      go (begins w a k e x) =
          let l = used-least 3 (3 + cell t r 3) (omega arith) (omega arith) in
          let j : k ≡ suc (suc (k - 2)) = omega arith in
          rw (a, x.is, never_less p)
          (decide (ltb p 64)
          (λ i. rw (i, (below p 64).0 i) (decide (leb 256 n) (λ b. rw b head-same)
          (λ b. rw b (exchange-heads (λ o. an_activity) ps vars true (arm p) 1 2 (inside-as refl j x.inside) (λ g. let y = used_low (3 + cell t r 3) (omega (arith, g)) in omega (arith, e, y)) w.shape (λ o us. refl)))))
          (λ i. rw (i, (below p 64).1 i) head-same))

  -- what stands within an activity
  abbrev within_of : Own → Part
  within_of own = cond (is_pick own) an_arm an_activity

  -- the rows of an activity, by its code
  module _ (vars : ℕ) (cs : List ℕ) (ps : List Part) (r q : ℕ) where
    abbrev Coded : ℕ → Type 0
    Coded c =
        (k : ℕ) → shaped t r (activity_asks c (cell t r 4)) ≡ true → used (activity_asks c (cell t r 4)) ≡ suc k → Inside (activity_has c (cell t r 2) ++ ps) r 2 k q
        → Heads within_of ps (cond (parts_fit vars cs t r c) (parts_at vars t r c (r + 1)) (refused 5 r)) (parts_in vars cs s c q)

    -- no other number
    coded-empty : Coded 0
    unfolding activity_asks activity_has parts_fit parts_at parts_in
    coded-empty k sh e w = rw sh (head-met refl (leaves (inside-as refl (omega (arith, e)) w)))

    coded-raise : Coded 4
    unfolding activity_asks activity_has parts_fit parts_at parts_in
    coded-raise k sh e w = rw sh (head-met refl (leaves (inside-as refl (omega (arith, e)) w)))

    coded-leave : Coded 5
    unfolding activity_asks activity_has parts_fit parts_at parts_in
    coded-leave k sh e w = rw sh (head-met refl (leaves (inside-as refl (omega (arith, e)) w)))

    coded-scope : Coded 11
    unfolding activity_asks activity_has parts_fit parts_at parts_in
    coded-scope k sh e w = rw sh (head-met refl (leaves (inside-as refl (omega (arith, e)) w)))

    coded-open : Coded 12
    unfolding activity_asks activity_has parts_fit parts_at parts_in
    coded-open k sh e w = rw sh (head-met refl (leaves (inside-as refl (omega (arith, e)) w)))

    coded-numbered : Coded 14
    unfolding activity_asks activity_has parts_fit parts_at parts_in
    coded-numbered k sh e w = rw sh (numbered-met (leaves (inside-as refl (omega (arith, e)) w)))

    -- an expression
    with-heads : (own : Exp → Own) (within : ℕ) (qs : List Part) → ((e : Exp) → qs ≡ replicate within (within_of (own e)) ++ ps) → (a b : ℕ) → Here (an_expression ∷ qs) a b
        → Heads within_of ps (with_expression vars t own within a) (with_expression_in vars s own within b)
    unfolding with_expression with_expression_in
    with-heads own within qs d a b h = meets-heads (expression-meets 8 vars qs a b h) (λ e. head (own e) within) (λ e. refl) d

    coded-choose : Coded 6
    unfolding activity_asks activity_has parts_fit parts_at parts_in
    coded-choose k sh e w = rw sh (with-heads choose 2 (an_activity ∷ an_activity ∷ ps) (λ x. refl) (r + 1) q (leaves (inside-as refl (omega (arith, e)) w)))

    coded-repeat : Coded 7
    unfolding activity_asks activity_has parts_fit parts_at parts_in
    coded-repeat k sh e w = rw sh (with-heads repeat 1 (an_activity ∷ ps) (λ x. refl) (r + 1) q (leaves (inside-as refl (omega (arith, e)) w)))

    coded_set : Coded 3
    unfolding activity_asks activity_has parts_fit parts_at parts_in set_in field_in
    coded_set k sh e w =
        let v = cell t r 2 in
        let y : Inside (an_expression ∷ ps) r 2 1 q = inside-as refl (omega (arith, e)) w in
        let x = cell-read y in
        rw (x.is, never_less v, sh)
        (decide (ltb v vars)
        (λ i. rw (i, (below v vars).0 i) (decide (among v cs) (λ j. rw j head-same)
        (λ j. rw j (with-heads (set v) 0 ps (λ y. refl) (r + 1) x.next (leaves x.inside)))))
        (λ i. rw (i, (below v vars).1 i) head-same))

    -- a send or a receive
    partner-heads : (once : Bool) (own : ℕ → ℕ → List ℕ → Own) (k : ℕ) → shaped t r (4 + cell t r 4) ≡ true
        → used (4 + cell t r 4) ≡ suc k → Inside ps r 2 k q
        → Heads within_of ps (cond (ltb (cell t r 2) 64 && exchange_fits vars once t r 3 0) (found (head (own (cell t r 2) (cell t r 3) (tuple t r 4)) 0) (r + 1)) (refused 5 r)) (partner_in vars once s own q)
    unfolding partner_in field_in
    partner-heads once own k sh e w =
        let v = cell t r 2 in
        let l = used-least 4 (4 + cell t r 4) (omega arith) (omega arith) in
        let j : k ≡ suc (suc (suc (k - 3))) = omega arith in
        let x = cell-read (inside-as refl j w) in
        rw (x.is, never_less v)
        (decide (ltb v 64)
        (λ i. rw (i, (below v 64).0 i)
        (exchange-heads within_of ps vars once (own v) 0 3 x.inside (λ g. let y = used_low (4 + cell t r 4) (omega (arith, g)) in omega (arith, e, y)) sh (λ o us. refl)))
        (λ i. rw (i, (below v 64).1 i) head-same))

    coded-send : Coded 1
    unfolding activity_asks activity_has parts_fit parts_at parts_in
    coded-send k sh e w = partner-heads false (λ p. send (to_partner p)) k sh e w

    coded-receive : Coded 2
    unfolding activity_asks activity_has parts_fit parts_at parts_in
    coded-receive k sh e w = partner-heads true (λ p. receive (from_partner p)) k sh e w

    -- the number behind the variables: a reply partner, and a reply variable
    held-heads : (v : ℕ) {p : ℕ} → Inside ps r (5 + cell t r 4) 1 p
        → Heads within_of ps (cond (ltb (last_of t r 4) 64) (found (head (send (to_held v (last_of t r 4)) (cell t r 3) (tuple t r 4)) 0) (r + 1)) (refused 5 r))
        (and_then (field_in s 0 64 p) (λ reply next. found (head (send (to_held v reply) (cell t r 3) (tuple t r 4)) 0) next))
    unfolding field_in
    held-heads v i =
        let l = last_of t r 4 in
        let x = cell-read i in
        rw (x.is, never_less l)
        (decide (ltb l 64) (λ j. rw (j, (below l 64).0 j) (head-met refl (leaves x.inside))) (λ j. rw (j, (below l 64).1 j) head-same))

    asking-heads : (v : ℕ) {p : ℕ} → Inside ps r (5 + cell t r 4) 1 p
        → Heads within_of ps (cond (stores_reply vars cs t r) (found (head (receive (from_asking v (last_of t r 4)) (cell t r 3) (tuple t r 4)) 0) (r + 1)) (refused 5 r))
        (and_then (field_in s 0 vars p) (λ x next. cond (among x cs || among x (tuple t r 4)) (refused 5 p) (found (head (receive (from_asking v x) (cell t r 3) (tuple t r 4)) 0) next)))
    unfolding field_in
    asking-heads v i =
        let l = last_of t r 4 in
        let x = cell-read i in
        rw (x.is, never_less l)
        (decide (ltb l vars)
        (λ j. rw (j, (below l vars).0 j) (decide (among l cs || among l (tuple t r 4)) (λ m. rw m head-same) (λ m. rw m (head-met refl (leaves x.inside)))))
        (λ j. rw (j, (below l vars).1 j) head-same))

    -- a send or a receive with such a number; `limit` is that of its first part
    module _ (k limit : ℕ) (once : Bool) (sh : shaped t r (5 + cell t r 4) ≡ true) (e : used (5 + cell t r 4) ≡ suc k) (w : Inside ps r 2 k q) (good : Bool) (h : Found Head)
        (g : ℕ → ℕ → List ℕ → ℕ → Found Head) (d : (p : ℕ) → Inside ps r (5 + cell t r 4) 1 p → Heads within_of ps (cond good h (refused 5 r)) (g (cell t r 2) (cell t r 3) (tuple t r 4) p)) where
      last-heads : Heads within_of ps (cond (ltb (cell t r 2) limit && (exchange_fits vars once t r 3 1 && good)) h (refused 5 r))
          (and_then (field_in s 0 limit q) (λ v p. and_then (field_in s 0 64 p) (λ o a. and_then (tuple_in vars once s a) (λ us b. g v o us b))))
      unfolding field_in
      last-heads =
          let v = cell t r 2 in
          let l = used-least 5 (5 + cell t r 4) (omega arith) (omega arith) in
          let j : k ≡ suc (suc (suc (k - 3))) = omega arith in
          let z : 4 + cell t r 4 + 1 ≡ 5 + cell t r 4 = omega arith in
          let x = cell-read (inside-as refl j w) in
          rw (x.is, never_less v)
          (decide (ltb v limit)
          (λ i. rw (i, (below v limit).0 i)
          (exchange-then within_of ps vars once 3 1 x.inside (λ m. let y = used_low (5 + cell t r 4) (omega (arith, m)) in omega (arith, e, y)) (rw z sh) good h (g v) d))
          (λ i. rw (i, (below v limit).1 i) head-same))

    coded-held : Coded 17
    unfolding activity_asks activity_has parts_fit parts_at parts_in held_send_in
    coded-held k sh e w =
        last-heads k vars false sh e w (ltb (last_of t r 4) 64) (found (head (send (to_held (cell t r 2) (last_of t r 4)) (cell t r 3) (tuple t r 4)) 0) (r + 1))
        (λ v o us a. and_then (field_in s 0 64 a) (λ reply next. found (head (send (to_held v reply) o us) 0) next)) (λ p i. held-heads (cell t r 2) i)

    coded-asking : Coded 18
    unfolding activity_asks activity_has parts_fit parts_at parts_in asking_receive_in
    coded-asking k sh e w =
        last-heads k 64 true sh e w (stores_reply vars cs t r) (found (head (receive (from_asking (cell t r 2) (last_of t r 4)) (cell t r 3) (tuple t r 4)) 0) (r + 1))
        (λ v o us a. and_then (field_in s 0 vars a) (λ x next. cond (among x cs || among x us) (refused 5 a) (found (head (receive (from_asking v x) o us) 0) next))) (λ p i. asking-heads (cell t r 2) i)

    -- a raise with its number
    coded-number : Coded 13
    unfolding activity_asks activity_has parts_fit parts_at parts_in raise_in field_in
    coded-number k sh e w =
        let v = cell t r 2 in
        let y : Inside ps r 2 1 q = inside-as refl (omega (arith, e)) w in
        let x = cell-read y in
        rw (x.is, sh)
        (decide (leb 16 v)
        (λ i. decide (leb v 255)
        (λ j. rw (i, j, le-ltb v 16 (leb-true 16 v i), lt-leb 256 v (omega (arith, leb-true v 255 j))) (head-met refl (leaves x.inside)))
        (λ j. rw (i, j, le-ltb v 16 (leb-true 16 v i), le-leb 256 v (omega (arith, leb-false v 255 j))) head-same))
        (λ i. rw (i, lt-ltb v 16 (omega (arith, leb-false 16 v i))) head-same))

    -- a list with its count
    list-from : (own : Own) (most : ℕ) (qs : List Part) → (x : Cell qs r 2 0 q) → shaped t r 2 ≡ true
        → (leb (cell t r 2) most ≡ true → qs ≡ replicate (cell t r 2) (within_of own) ++ ps)
        → Heads within_of ps (cond (from1 most (cell t r 2) && shaped t r 2) (found (head own (cell t r 2)) (r + 1)) (refused 5 r)) (list_in s own (suc most) q)
    unfolding list_in field_in
    list-from own most qs x sh d =
        let n = cell t r 2 in
        rw (x.is, sh)
        (decide (leb 1 n)
        (λ i. decide (leb n most)
        (λ j. rw (i, j, le-ltb n 1 (leb-true 1 n i), lt-leb (suc most) n (omega (arith, leb-true n most j))) (head-met refl (here-as (d j) (leaves x.inside))))
        (λ j. rw (i, j, le-ltb n 1 (leb-true 1 n i), le-leb (suc most) n (omega (arith, leb-false n most j))) head-same))
        (λ i. rw (i, lt-ltb n 1 (omega (arith, leb-false 1 n i))) head-same))

    times-few : (most n : ℕ) (p : Part) → leb n most ≡ true → times most n p ++ ps ≡ replicate n p ++ ps
    unfolding times
    times-few most n p j = rw j

    list-heads : (own : Own) (most k : ℕ) → shaped t r 2 ≡ true → used 2 ≡ suc k → Inside (times most (cell t r 2) (within_of own) ++ ps) r 2 k q
        → Heads within_of ps (cond (from1 most (cell t r 2) && shaped t r 2) (found (head own (cell t r 2)) (r + 1)) (refused 5 r)) (list_in s own (suc most) q)
    list-heads own most k sh e w =
        let y : Inside (times most (cell t r 2) (within_of own) ++ ps) r 2 1 q = inside-as refl (omega (arith, e)) w in
        list-from own most (times most (cell t r 2) (within_of own) ++ ps) (cell-read y) sh (times-few most (cell t r 2) (within_of own))

    coded-sequence : Coded 8
    unfolding activity_asks activity_has parts_fit parts_at parts_in
    coded-sequence k sh e w = list-heads sequence 32 k sh e w

    coded-flow : Coded 9
    unfolding activity_asks activity_has parts_fit parts_at parts_in
    coded-flow k sh e w = list-heads flow 32 k sh e w

    coded-pick : Coded 10
    unfolding activity_asks activity_has parts_fit parts_at parts_in
    coded-pick k sh e w = list-heads pick 8 k sh e w

    coded-late : (c : ℕ) → is_code c ≡ true → 14 < c → Coded c
    coded-late c h l =
        decide (eqb c 17) (λ i. subst (λ (n : ℕ). Coded n) (sym (eqb-true c 17 i)) coded-held) (λ i. subst (λ (n : ℕ). Coded n) (sym (last_code c h l i)) coded-asking)

    coded : (c : ℕ) → is_code c ≡ true → Coded c
    coded zero h = coded-empty
    coded (suc zero) h = coded-send
    coded (suc (suc zero)) h = coded-receive
    coded (suc (suc (suc zero))) h = coded_set
    coded (suc (suc (suc (suc zero)))) h = coded-raise
    coded (suc (suc (suc (suc (suc zero))))) h = coded-leave
    coded (suc (suc (suc (suc (suc (suc zero)))))) h = coded-choose
    coded (suc (suc (suc (suc (suc (suc (suc zero))))))) h = coded-repeat
    coded (suc (suc (suc (suc (suc (suc (suc (suc zero)))))))) h = coded-sequence
    coded (suc (suc (suc (suc (suc (suc (suc (suc (suc zero))))))))) h = coded-flow
    coded (suc (suc (suc (suc (suc (suc (suc (suc (suc (suc zero)))))))))) h = coded-pick
    coded (suc (suc (suc (suc (suc (suc (suc (suc (suc (suc (suc zero))))))))))) h = coded-scope
    coded (suc (suc (suc (suc (suc (suc (suc (suc (suc (suc (suc (suc zero)))))))))))) h = coded-open
    coded (suc (suc (suc (suc (suc (suc (suc (suc (suc (suc (suc (suc (suc zero))))))))))))) h = coded-number
    coded (suc (suc (suc (suc (suc (suc (suc (suc (suc (suc (suc (suc (suc (suc zero)))))))))))))) h = coded-numbered
    coded (suc (suc (suc (suc (suc (suc (suc (suc (suc (suc (suc (suc (suc (suc (suc n))))))))))))))) h = coded-late (suc (suc (suc (suc (suc (suc (suc (suc (suc (suc (suc (suc (suc (suc (suc n))))))))))))))) h (omega arith)

  -- an activity before those within it
  activity-heads : (vars : ℕ) (cs : List ℕ) (handler : Bool) (depth n : ℕ) (ps : List Part) (r q : ℕ) → Here (an_activity ∷ ps) r q
      → Heads within_of ps (head_at vars cs t handler depth n r) (head_in vars cs s handler depth n q)
  unfolding head_at code_at head_in code_in asks has
  activity-heads vars cs handler depth n ps r q h = go (starts h)
    where
      go : Starts an_activity ps r q → Heads within_of ps (head_at vars cs t handler depth n r) (head_in vars cs s handler depth n q)
      go (ends a b) = rw (a, b) head-same
      go (begins w a k e x) =
          rw (a, x.is)
          (decide (not (is_code (cell t r 1))) (λ i. rw i head-same)
          (λ i. rw i (decide (handler && is_scope_code (cell t r 1)) (λ j. rw j head-same)
          (λ j. rw j (decide (eqb depth 0 || leb 256 n) (λ b. rw b head-same)
          (λ b. rw b (coded vars cs ps r x.next (cell t r 1) (not-false (is_code (cell t r 1)) i) k w.shape e x.inside)))))))

  -- Those within: two readers of one that go side by side.
  abbrev Ones : Part → (one two : Bool → ℕ → ℕ → Found Act) → Type 0
  Ones p one two = (handler : Bool) (n : ℕ) (ps : List Part) (r q : ℕ) → Here (p ∷ ps) r q → Meets ps (one handler n r) (two handler n q)

  many_meets : (p : Part) (one two : Bool → ℕ → ℕ → Found Act) → Ones p one two → (handler later : Bool) (left n : ℕ) (ps : List Part) (r q : ℕ) → Here (replicate left p ++ ps) r q
      → Meets ps (many_in one handler later left n r) (many_in two handler later left n q)
  unfolding many_in
  many_meets p one two k handler later zero n ps r q h = met h
  many_meets p one two k handler later (suc left) n ps r q h =
      meets-then (k handler n (replicate left p ++ ps) r q h) (λ a u v i.
      meets-then (many_meets p one two k later later left (n + size a) ps u v i) (λ l y z d. met d))

  -- the count of fault parts by number, and what follows it
  data Counts (ps : List Part) : Found ℕ → Found ℕ → Type 0 where
    count-met : {k r q : ℕ} → Here (numbered_has k ++ ps) r q → Counts ps (found k r) (found k q)
    count_same : {n r q : ℕ} → Counts ps (refused n r) (refused n q)

  counts-then : {ps : List Part} {x y : Found ℕ} {A : Type 0} {u v : ℕ → ℕ → Found A} → Counts ps x y
      → ((k r q : ℕ) → Here (numbered_has k ++ ps) r q → Meets ps (u k r) (v k q)) → Meets ps (and_then x u) (and_then y v)
  counts-then (count-met h) k = k _ _ _ h
  counts-then count_same k = same

  counts-meet : (ps : List Part) (r q : ℕ) → Here (a_count ∷ ps) r q → Counts ps (count_at t r) (field_in s 1 9 q)
  unfolding count_at field_in asks has
  counts-meet ps r q h = go (starts h)
    where
      n : ℕ
      n = cell t r 1

      go : Starts a_count ps r q → Counts ps (count_at t r) (field_in s 1 9 q)
      go (ends a b) = rw (a, b) count_same
      go (begins w a k e x) =
          rw (a, x.is, w.shape)
          (decide (leb 1 n)
          (λ i. decide (leb n 8)
          (λ j.
          let y : Inside (numbered_has n ++ ps) r 2 0 x.next = inside-as (rw j) (omega (arith, e)) x.inside in
          rw (i, j, le-ltb n 1 (leb-true 1 n i), lt-leb 9 n (omega (arith, leb-true n 8 j))) (count-met (leaves y)))
          (λ j. rw (i, j, le-ltb n 1 (leb-true 1 n i), le-leb 9 n (omega (arith, leb-false n 8 j))) count_same))
          (λ i. rw (i, lt-ltb n 1 (omega (arith, leb-false 1 n i))) count_same))

  -- the number of a fault part
  number-meets : (known : List ℕ) (ps : List Part) (r q : ℕ) → Here (a_number ∷ ps) r q → Meets ps (fault_number_at t known r) (fault_number_in s known q)
  unfolding fault_number_at fault_number_in asks has
  number-meets known ps r q h = go (starts h)
    where
      go : Starts a_number ps r q → Meets ps (fault_number_at t known r) (fault_number_in s known q)
      go (ends a b) = rw (a, b) same
      go (begins w a k e x) =
          let y : Inside ps r 2 0 x.next = inside-as refl (omega (arith, e)) x.inside in
          rw (a, x.is, w.shape)
          (decide (namable (cell t r 1) && not (among (cell t r 1) known)) (λ i. rw i (met (leaves y))) (λ i. rw i same))

  -- fault parts by number, and what follows them
  numbered-meets : (one two : Bool → ℕ → ℕ → Found Act) → Ones an_activity one two → (left : ℕ) (known : List ℕ) (n : ℕ) (ps : List Part) (r q : ℕ) → Here (numbered_has left ++ ps) r q
      → Meets ps (numbered_at one t left known n r) (numbered_in two s left known n q)
  unfolding numbered_at numbered_in numbered_has
  numbered-meets one two k zero known n ps r q h = meets-then (many_meets an_activity one two k true true 2 n ps r q h) (λ l u v d. met d)
  numbered-meets one two k (suc left) known n ps r q h =
      meets-then (number-meets known (an_activity ∷ (numbered_has left ++ ps)) r q h) (λ x u v i.
      meets-then (k true n (numbered_has left ++ ps) u v i) (λ a y z d.
      meets-then (numbered-meets one two k left (x ∷ known) (n + size a) ps y z d) (λ c e f g. met g)))

  scope-meets : (one two : Bool → ℕ → ℕ → Found Act) → Ones an_activity one two → (handler : Bool) (n : ℕ) (ps : List Part) (r q : ℕ) → Here (an_activity ∷ a_count ∷ ps) r q
      → Meets ps (numbered_scope_at one t handler n r) (numbered_scope_in two s handler n q)
  unfolding numbered_scope_at numbered_scope_in
  scope-meets one two k handler n ps r q h =
      meets-then (k handler (n + 1) (a_count ∷ ps) r q h) (λ b u v i.
      counts-then (counts-meet ps u v i) (λ m y z d.
      meets-then (numbered-meets one two k m [] (n + 1 + size b) ps y z d) (λ c e f g. met g)))

  whole_meets : (p : Part) (one two : Bool → ℕ → ℕ → Found Act) → Ones p one two → (handler later : Bool) (n : ℕ) (h : Head) (ps : List Part) (r q : ℕ) → h.numbered ≡ false
      → Here (replicate h.within p ++ ps) r q → Meets ps (whole_at one t handler later n h r) (whole_in two s handler later n h q)
  whole_meets p one two k handler later n h ps r q e i = rw e (meets-then (many_meets p one two k handler later h.within (n + 1) ps r q i) (λ l u v d. met d))

  arms-meet : (one two : Bool → ℕ → ℕ → Found Act) (vars : ℕ) → Ones an_activity one two → Ones an_arm (arm_with one vars t) (read_arm two vars s)
  unfolding arm_with read_arm
  arms-meet one two vars k handler n ps r q h =
      heads-then (arm-heads vars n ps r q h) (λ d u v e i. whole_meets an_activity one two k handler handler n d ps u v e i) (λ u v i. scope-meets one two k handler n ps u v i)

  reads-meet : (one two : Bool → ℕ → ℕ → Found Act) (vars : ℕ) → Ones an_activity one two → (b : Bool) → Ones (cond b an_arm an_activity) (cond b (arm_with one vars t) one) (cond b (read_arm two vars s) two)
  reads-meet one two vars k true = arms-meet one two vars k
  reads-meet one two vars k false = k

  activity-meets : (depth vars : ℕ) (cs : List ℕ) → Ones an_activity (act_at depth vars cs t) (read_act depth vars cs s)
  unfolding act_at read_act
  activity-meets zero vars cs handler n ps r q h = heads-then (activity-heads vars cs handler 0 n ps r q h) (λ d u v e i. same) (λ u v i. same)
  activity-meets (suc depth) vars cs handler n ps r q h =
      heads-then (activity-heads vars cs handler (suc depth) n ps r q h) (λ d u v e i.
      whole_meets (within_of d.own) (reads_at (is_pick d.own) (act_at depth vars cs t) vars t) (reads_in d.own (read_act depth vars cs s) vars s)
      (reads-meet (act_at depth vars cs t) (read_act depth vars cs s) vars (activity-meets depth vars cs) (is_pick d.own)) handler (later_of d.own handler) n d ps u v e i)
      (λ u v i. scope-meets (act_at depth vars cs t) (read_act depth vars cs s) (activity-meets depth vars cs) handler n ps u v i)

  -- The head: its correlation variables, each below `vars` and above the one before.
  correlation-meet : (vars : ℕ) (left least : ℕ) (read : List ℕ) {ps : List Part} {r c d q : ℕ} → Inside ps r c left q → c + left ≡ d
      → (l : List ℕ) → take left (drop (r * 20 + c) t) ≡ l → Tuple ps r d 0 (ascending vars least l) (read ++ l) (correlation_in vars s left least read q)
  unfolding correlation_in ascending field_in
  correlation-meet vars zero least read w g l e = rw (sym e, append-nil read) (all refl (inside-at (omega arith) refl w))
  correlation-meet vars (suc left) least read {ps} {r} {c} {d} {q} w g l e =
      let x = cell-read w in
      let v = cell t r c in
      let a : cell t r c ∷ take left (drop (r * 20 + (c + 1)) t) ≡ l = sym (cells-cons t r c left (omega (arith, w.rows)) (omega (arith, w.room))) ∙ e in
      rw (sym a, x.is)
      (decide (leb least v)
      (λ i. rw (i, le-ltb v least (leb-true least v i))
      (decide (ltb v vars)
      (λ j. rw (j, (below v vars).0 j, sym (append_assoc read (v ∷ []) (take left (drop (r * 20 + (c + 1)) t)))) (correlation-meet vars left (v + 1) (read ++ (v ∷ [])) x.inside (omega arith) _ refl))
      (λ j. rw (j, (below v vars).1 j) (wrong refl))))
      (λ i. rw (i, lt-ltb v least (leb-false least v i)) (wrong refl)))

  -- after the root's parts: rows left over, and bytes left over
  module _ (whole : length t / 20 * 20 ≡ length t) where
    left_over : (y z : ℕ) → Here [] y z → ltb (y * 20) (length t) ≡ ltb z (length s)
    unfolding counted_from numbers_from row_numbers
    left_over y z h = go h.left refl
      where
        go : (l : ℕ) → h.left ≡ l → ltb (y * 20) (length t) ≡ ltb z (length s)
        go zero e =
            let a : length s ≤ z = spelt-none s z (h.spelt ∙ ap (λ (n : ℕ). spell (numbers_from n t y)) e) in
            le-ltb (y * 20) (length t) (omega (arith, h.rows, e, whole)) ∙ sym (le-ltb z (length s) a)
        go (suc l) e =
            let g : leb 1 (cell t y 0) ≡ true = subst (λ (n : ℕ). counted_from n t y [] ≡ true) e h.good in
            let m = used-least 1 (cell t y 0) (omega arith) (leb-true 1 (cell t y 0) g) in
            let u : used (cell t y 0) ≡ suc (used (cell t y 0) - 1) = omega arith in
            let k = used (cell t y 0) - 1 in
            let a : row_numbers t y ≡ cell t y 1 ∷ take k (drop (y * 20 + (1 + 1)) t) =
            ap (λ (n : ℕ). take n (drop (y * 20 + 1) t)) u ∙ cells-cons t y 1 k (omega (arith, h.rows, e)) (omega arith) in
            let d : drop z s ≡ spell (cell t y 1 ∷ (take k (drop (y * 20 + (1 + 1)) t) ++ numbers_from l t (y + 1))) =
            h.spelt ∙ (ap (λ (n : ℕ). spell (numbers_from n t y)) e ∙ ap (λ (x : List ℕ). spell (x ++ numbers_from l t (y + 1))) a) in
            lt-ltb (y * 20) (length t) (omega (arith, h.rows, e, whole)) ∙ sym (lt-ltb z (length s) (spelt-some s z (cell t y 1) _ d))

    closing-meets : (p : Plan) (r q y z : ℕ) → Here [] y z → Meets [] (closing_at t p r y) (closing s p q z)
    closing-meets p r q y z h =
        rw (left_over y z h) (decide (ltb z (length s)) (λ e. rw e same) (λ e. rw e (decide (start_form p.body) (λ d. rw d (met h)) (λ d. rw d same))))

    root-meets : (vars : ℕ) (cs : List ℕ) (r q : ℕ) → Here (an_activity ∷ an_activity ∷ []) r q → Meets [] (root_at vars cs t r) (root_in vars cs s q)
    unfolding root_at root_in
    root-meets vars cs r q h =
        meets-then (activity-meets 16 vars cs false 0 (an_activity ∷ []) r q h) (λ b u v i.
        meets-then (activity-meets 16 vars cs true (size b) [] u v i) (λ f y z d.
        closing-meets (record { variables = vars; correlation = cs; body = b; fault = f }) r q y z d))

    tuple-root : (vars : ℕ) {d : ℕ} {good : Bool} {cs : List ℕ} {x : Found (List ℕ)} → Tuple (an_activity ∷ an_activity ∷ []) 0 d 0 good cs x
        → Meets [] (cond good (root_at vars cs t 1) (refused 5 0)) (and_then x (λ us q. root_in vars us s q))
    tuple-root vars {cs = cs} (all {q} e h) = rw e (root-meets vars cs 1 q (leaves h))
    tuple-root vars (wrong e) = rw e same

    -- the head, and the whole
    plan-meets : length s ≤ 4096 → Here (a_head ∷ []) 0 0 → Meets [] (plan_at t) (read_any s)
    unfolding plan_at head_fits read_any version_in field_in asks has
    plan-meets short h = rw (le-ltb 4096 (length s) short) (go (starts h))
      where
        v : ℕ
        v = cell t 0 2

        n : ℕ
        n = cell t 0 3

        bytes : Found Plan
        bytes =
            and_then (version_in s) (λ version p.
            and_then (field_in s 1 17 p) (λ vars q.
            and_then (field_in s 0 (vars + 1) q) (λ count r.
            and_then (correlation_in vars s count 0 [] r) (λ cs at. root_in vars cs s at))))

        go : Starts a_head [] 0 0 → Meets [] (plan_at t) bytes
        go (ends a b) = rw (a, b) same
        go (begins w a k e x) =
            let l = used-least 3 (3 + n) (omega arith) (omega arith) in
            let j : k ≡ suc (suc (k - 2)) = omega arith in
            let y = cell-read (inside-as refl j x.inside) in
            let z = cell-read y.inside in
            rw (a, x.is)
            (decide (eqb (cell t 0 1) 1) (λ i. rw (i, y.is) (decide (leb 1 v)
            (λ b. decide (leb v 16)
            (λ c. rw (b, c, le-ltb v 1 (leb-true 1 v b), lt-leb 17 v (omega (arith, leb-true v 16 c)), z.is, never_less n)
            (decide (leb n v)
            (λ d. let f : leb (v + 1) n ≡ false = lt-leb (v + 1) n (omega (arith, leb-true n v d)) in
            let g : k - 2 ≡ n = (let m = used_low (3 + n) (omega (arith, leb-true n v d, leb-true v 16 c)) in omega (arith, e, m)) in
            rw (d, f, w.shape, and-true (ascending v 0 (tuple t 0 3)))
            (tuple-root v (correlation-meet v n 0 [] (inside-as refl g z.inside) refl (tuple t 0 3) refl)))
            (λ d. let f : leb (v + 1) n ≡ true = le-leb (v + 1) n (omega (arith, leb-false n v d)) in rw (d, f) same)))
            (λ c. rw (b, c, le-ltb v 1 (leb-true 1 v b), le-leb 17 v (omega (arith, leb-false v 16 c))) same))
            (λ b. rw (b, lt-ltb v 1 (omega (arith, leb-false 1 v b))) same)))
            (λ i. rw i same))

-- A refusal with this number, at some place.
pub record Refuses (n : ℕ) (x : Found Plan) : Type 0 where
  pub place : ℕ
  pub is : x ≡ refused n place

judged-not : (earlier l : List Asked) (x : Found Plan) → agree_after earlier l ≡ false → Refuses 21 (judged earlier l x)
unfolding judged agree_after
judged-not earlier [] x e = absurd (false≢true (sym e))
judged-not earlier (a ∷ l) x e =
    decide (agrees_with earlier a) (λ d. rw d (judged-not (a ∷ earlier) l x (rw d at e))) (λ d. rw d (record { place = a.place; is = refl }))

-- A table in which each row has the count that its code asks for is refused with the number that its bytes earn, if these are no longer than a plan may be.
-- (Where they are, the bytes earn 1, which comes first there and last here. Where a row has another count than its code asks for, or a place that it does
-- not use is not 0, the table is refused with 5, whatever the bytes earn.)
pub refused-as-bytes : (t : List ℕ) → Words t → counted t ≡ true → length (spell (numbers_of t)) ≤ 4096 → {n r : ℕ} → read_rows t ≡ refused n r → Refuses n (read_plan (spell (numbers_of t)))
unfolding counted read_rows agreed_at read_plan
refused-as-bytes t words c short {n} {r} e =
    both (eqb (length t / 20 * 20) (length t)) _ c (λ a b.
    go (plan-meets t s words (eqb-true _ _ a) short (record { left = length t / 20; rows = omega arith; spelt = refl; good = b })) refl refl)
  where
    s : List ℕ
    s = spell (numbers_of t)

    go : {x y : Found Plan} → Meets t s words [] x y → plan_at t ≡ x → read_any s ≡ y → Refuses n (read_plan s)
    go (same {n = m} {r = a} {q = b}) d f =
        let g : read_rows t ≡ refused m a = rw d in
        let z : m ≡ n = cc (g, e) in
        record { place = b; is = rw f (ap {B = Found Plan} (λ (i : ℕ). refused i b) z) }
    go (met {a = p} {r = u} {q = v} h) d f = decide (agree p) good bad
      where
        good : agree p ≡ true → Refuses n (read_plan s)
        good i =
            let j : read_rows t ≡ found p u = rw (d, judged-agrees [] (asked_from in_rows p 1) (found p u) (rows_agree p ∙ i), sym (rows-spell t d), le-ltb 4096 (length s) short) in
            absurd (let k : ◌≡◌ {A = Found Plan} (found p u) (refused n r) = sym j ∙ e in let z : ◌≡◌ {A = ℕ} 0 1 = cc in omega arith)

        bad : agree p ≡ false → Refuses n (read_plan s)
        bad i =
            let j = judged-not [] (asked_from in_rows p 1) (found p u) (rows_agree p ∙ i) in
            let k = judged-not [] (asked p) (found p v) i in
            let g : read_rows t ≡ refused 21 j.place = rw (d, j.is) in
            let m : n ≡ 21 = cc (g, e) in
            record { place = k.place; is = rw f (k.is ∙ ap {B = Found Plan} (λ (z : ℕ). refused z k.place) (sym m)) }
