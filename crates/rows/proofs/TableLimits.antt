-- What a table is read as is within the limits of document 01, so that what is written of it is accepted. Assumes nothing.
use borrow.Author.Tests.{ltb-false, leb-true, leb-false, eqb-true, lt-ltb, le-leb, eq-eqb, not-true}
use native.Mathlib.Omega.{arith}
use native.Mathlib.Numerals.{sub-one}
use mathlib.Core.Path.{◌≡◌, refl, sym, ◌∙◌}
use mathlib.Core.Bool.{Bool, true, false, cond, not, ◌&&◌, false≢true, and-true}
use mathlib.Core.List.{List, [], ◌∷◌}
use Prim.Native.Nat.{ℕ, zero, suc, ◌+◌, ◌*◌, ◌/◌, ◌≤◌, ◌<◌}
use lib.Dec.{eqb, ltb, leb}
use lib.ListN.{length, get_or}
use Rattle.plan.specs.Agree.{asked_from, agree, judged}
use Rattle.plan.specs.Found.{Found, refused, found, and_then, among}
use Rattle.plan.specs.Read.{Head, is_code, is_scope_code, many_in, Numbered, later_of, start_form, read_plan}
use Rattle.plan.specs.Spell.{spelling}
use Rattle.plan.specs.Tree.{Exp, Own, set, choose, repeat, is_scope, is_pick, Act, Plan, size, sizes, count}
use Rattle.plan.specs.Within.{expression_within, variables_within, exchange_within, from1, raise_within, numbers_each, numbers_within, own_within, act_within, acts_within, ascending, plan_within}
use Rattle.plan.proofs.Accepts.{both}
use Rattle.plan.proofs.ByKind.{raise-allowed, last_code}
use Rattle.plan.proofs.Agreeing.{judged-found, spelled-is-accepted}
use Rattle.plan.proofs.Bounds.{many-numbered}
use Rattle.plan.proofs.Bounds as bounds
use Rattle.plan.proofs.Limits.{Others, others-itself, others-more, numbers-allowed}
use Rattle.plan.proofs.Finds.{Finds, finds-refused, finds-itself, finds-found, finds-cond, finds-code, finds-then, finds-so, finds-both, cond-case}
use Rattle.plan.proofs.Stands.{HeadIs, plain, numbered, many-count}
use Rattle.writer.specs.Reading.{cell, shaped, tuple, row_in, expression_fits, expression_head, expression_at, exchange_fits, last_of, stores_reply, arm_at, parts_fit, with_expression, parts_at, head_at, count_at, fault_number_at, numbered_at, numbered_scope_at, whole_at, arm_with, reads_at, act_at, root_at, head_fits, plan_at, in_rows, agreed_at, read_rows}
use Rattle.writer.proofs.Lines.{tuple-long}
use Rattle.writer.proofs.WriteReturns.{agreed-is-read}
use Rattle.writer.proofs.OwnReturns.{There, row-finds, code-finds, head-is, arm_plain}
use Rattle.writer.proofs.RowStands.{count-stands, number-stands, node-numbered}
use Rattle.writer.proofs.ExpressionReturns.{node-finds}
use Rattle.rows.proofs.SamePlaces.{rows_agree}

-- every number of the table is one of 32 bits, as in a slice of them
abbrev pub Words : List ℕ → Type 0
Words t = (i : ℕ) → get_or t i 0 ≤ 4294967295

fits_below : (vars : ℕ) (t : List ℕ) (r k : ℕ) → expression_fits vars t r k ≡ true → k ≡ 1 → ltb (cell t r 2) vars ≡ true
unfolding expression_fits
fits_below vars t r k h e = let g : (ltb (cell t r 2) vars && shaped t r 2) ≡ true = rw e at h in both (ltb (cell t r 2) vars) _ g (λ a b. a)

-- the receives of what a table is read as agree
agreed-agrees : (x : Found Plan) {p : Plan} {next : ℕ} → and_then x (λ q m. judged [] (asked_from in_rows q 1) (found q m)) ≡ found p next → agree p ≡ true
agreed-agrees (refused n m) e = let z : ◌≡◌ {A = ℕ} 0 1 = cc in absurd (omega arith)
agreed-agrees (found q m) {p} e =
    let r = judged-found [] (asked_from in_rows q 1) (found q m) e in
    let i = r.was in
    let j : q ≡ p = cc in
    rw j at (sym (rows_agree q) ∙ r.agreed)

rows-agreed : (t : List ℕ) → Finds (λ p next. agree p ≡ true) (read_rows t)
unfolding read_rows agreed_at
rows-agreed t =
    finds-then (finds-itself (agreed_at t)) (λ p next x.
    finds-cond (ltb 4096 (length (spelling p))) (λ e. finds-refused) (λ e. finds-found (agreed-agrees (plan_at t) x)))

pub read-agrees : (t : List ℕ) {p : Plan} {next : ℕ} → read_rows t ≡ found p next → agree p ≡ true
read-agrees t e = (rows-agreed t).holds e

module _ (t : List ℕ) (words : Words t) where
  expression-within : (depth vars r : ℕ) → Finds (λ e next. expression_within vars e depth ≡ true) (expression_at depth vars t r)
  unfolding expression_at expression_within
  expression-within zero vars r = finds-then (finds-itself (expression_head 0 vars t r)) (λ code next e. finds-refused)
  expression-within (suc d) vars r =
      finds-then (node-finds (suc d) vars t r) (λ k next w.
      finds-cond (eqb k 0) (λ e. finds-found (rw (lt-ltb 0 (suc d) (omega arith), le-leb (cell t r 2) 4294967295 (words (r * 20 + 2)))))
      (λ e. finds-cond (eqb k 1) (λ f. finds-found (rw (lt-ltb 0 (suc d) (omega arith), fits_below vars t r k w.fits (eqb-true k 1 f))))
      (λ f. finds-then (expression-within d vars next) (λ left p x.
      finds-then (expression-within d vars p) (λ right q y.
      finds-found (rw (lt-ltb 0 (suc d) (omega arith), sub-one (suc d), x, y)))))))

  exchange-within : (vars : ℕ) (once : Bool) (r c behind p : ℕ) → r < length t / 20 → c ≤ 3 → ltb p 64 ≡ true → exchange_fits vars once t r c behind ≡ true
      → exchange_within vars once p (cell t r c) (tuple t r (c + 1)) ≡ true
  unfolding exchange_fits exchange_within
  exchange-within vars once r c behind p there l h k =
      both (ltb (cell t r c) 64) _ k (λ a k1. both (from1 4 (cell t r (c + 1))) _ k1 (λ b k2.
      both (leb 1 (cell t r (c + 1))) _ b (λ b1 b2. both (variables_within vars once (tuple t r (c + 1))) _ k2 (λ d s.
      let m = leb-true (cell t r (c + 1)) 4 b2 in
      let n : length (tuple t r (c + 1)) ≡ cell t r (c + 1) = tuple-long t r there (c + 1) (omega arith) (omega arith) in
      rw (h, a, n, b1, b2, d)))))

  module _ (vars : ℕ) (cs : List ℕ) (handler : Bool) where
    abbrev Kept : Head → ℕ → Type 0
    Kept h q = cond h.numbered (not handler) (own_within vars cs handler false h.own h.within) ≡ true

    with-within : (own : Exp → Own) (within next : ℕ) → ((e : Exp) → expression_within vars e 8 ≡ true → own_within vars cs handler false (own e) within ≡ true)
        → Finds Kept (with_expression vars t own within next)
    unfolding with_expression
    with-within own within next f = finds-then (expression-within 8 vars next) (λ e q x. finds-found (f e x))

    message-within : (r k next : ℕ) → There t r k next → (once : Bool) → (ltb (cell t r 2) 64 && exchange_fits vars once t r 3 0) ≡ true
        → exchange_within vars once (cell t r 2) (cell t r 3) (tuple t r 4) ≡ true
    message-within r k next w once h = both (ltb (cell t r 2) 64) _ h (λ a b. exchange-within vars once r 3 0 (cell t r 2) w.there (omega arith) a b)

    held-within : (r k next : ℕ) → There t r k next → (ltb (cell t r 2) vars && (exchange_fits vars false t r 3 1 && ltb (last_of t r 4) 64)) ≡ true
        → (ltb (cell t r 2) vars && exchange_within vars false (last_of t r 4) (cell t r 3) (tuple t r 4)) ≡ true
    held-within r k next w h =
        both (ltb (cell t r 2) vars) _ h (λ a h1. both (exchange_fits vars false t r 3 1) _ h1 (λ b c.
        rw (a, exchange-within vars false r 3 1 (last_of t r 4) w.there (omega arith) c b)))

    asking-within : (r k next : ℕ) → There t r k next → (ltb (cell t r 2) 64 && (exchange_fits vars true t r 3 1 && stores_reply vars cs t r)) ≡ true
        → (exchange_within vars true (cell t r 2) (cell t r 3) (tuple t r 4) && stores_reply vars cs t r) ≡ true
    asking-within r k next w h =
        both (ltb (cell t r 2) 64) _ h (λ a h1. both (exchange_fits vars true t r 3 1) _ h1 (λ b c.
        rw (exchange-within vars true r 3 1 (cell t r 2) w.there (omega arith) a b) c))

    list-within : (most x : ℕ) (s : Bool) → (from1 most x && s) ≡ true → from1 most x ≡ true
    list-within most x s h = both (from1 most x) s h (λ a b. a)

    raise-within : (x : ℕ) (s : Bool) → (leb 16 x && (leb x 255 && s)) ≡ true → raise_within x ≡ true
    raise-within x s h =
        both (leb 16 x) _ h (λ a h1. both (leb x 255) _ h1 (λ b c. raise-allowed x (leb-true 16 x a) (omega (arith, leb-true x 255 b))))

    parts_within : (r k next : ℕ) → There t r k next → is_code k ≡ true → (handler && is_scope_code k) ≡ false → parts_fit vars cs t r k ≡ true → Finds Kept (parts_at vars t r k next)
    unfolding parts_at parts_fit own_within raise_within numbers_within
    parts_within r k next w l g h =
        finds-code k 0 (omega arith) (λ e. finds-found refl) (λ z.
        finds-code k 1 (omega arith) (λ e. finds-found (message-within r k next w false (rw e at h))) (λ z.
        finds-code k 2 (omega arith) (λ e. finds-found (message-within r k next w true (rw e at h))) (λ z.
        finds-code k 3 (omega arith) (λ e.
        let s : (ltb (cell t r 2) vars && (not (among (cell t r 2) cs) && shaped t r 2)) ≡ true = rw e at h in
        both (ltb (cell t r 2) vars) _ s (λ a s1. both (not (among (cell t r 2) cs)) _ s1 (λ b s2.
        with-within (set (cell t r 2)) 0 next (λ x y. rw (a, b, y))))) (λ z.
        finds-code k 4 (omega arith) (λ e. finds-found refl) (λ z.
        finds-code k 5 (omega arith) (λ e. finds-found refl) (λ z.
        finds-code k 6 (omega arith) (λ e. with-within choose 2 next (λ x y. y)) (λ z.
        finds-code k 7 (omega arith) (λ e. with-within repeat 1 next (λ x y. y)) (λ z.
        finds-code k 8 (omega arith) (λ e. finds-found (list-within 32 (cell t r 2) _ (rw e at h))) (λ z.
        finds-code k 9 (omega arith) (λ e. finds-found (list-within 32 (cell t r 2) _ (rw e at h))) (λ z.
        finds-code k 10 (omega arith) (λ e. finds-found (list-within 8 (cell t r 2) _ (rw e at h))) (λ z.
        finds-code k 11 (omega arith) (λ e. finds-found (rw (sym (and-true handler) ∙ rw e at g))) (λ z.
        finds-code k 12 (omega arith) (λ e. finds-found (rw (sym (and-true handler) ∙ rw e at g))) (λ z.
        finds-code k 13 (omega arith) (λ e. finds-found (raise-within (cell t r 2) _ (rw e at h))) (λ z.
        finds-code k 14 (omega arith) (λ e. finds-found (rw (sym (and-true handler) ∙ rw e at g))) (λ z.
        finds-cond (eqb k 17) (λ f. let e = eqb-true k 17 f in finds-found (held-within r k next w (rw e at h))) (λ f.
        let e = last_code k l z f in finds-found (asking-within r k next w (rw e at h))))))))))))))))))

    head-within : (depth n r : ℕ) → Finds (λ h q. Kept h q × (n < 256)) (head_at vars cs t handler depth n r)
    unfolding head_at
    head-within depth n r =
        finds-then (code-finds t handler depth n r) (λ k next c.
        finds-cond (parts_fit vars cs t r k) (λ e. finds-so (parts_within r k next c.row c.known c.placed e) (λ h q x. (x, c.numbered))) (λ e. finds-refused))

    arm_within : (n r : ℕ) → Finds (λ h q. ((is_scope h.own ≡ false) × (is_pick h.own ≡ false)) × ((own_within vars cs handler true h.own h.within ≡ true) × (n < 256))) (arm_at vars t n r)
    unfolding arm_at own_within
    arm_within n r =
        finds-then (row-finds t r) (λ p next w.
        finds-cond (ltb p 64) (λ e.
        finds-cond (leb 256 n) (λ f. finds-refused) (λ f.
        finds-cond (exchange_fits vars true t r 2 0) (λ g. finds-found ((refl, refl), (exchange-within vars true r 2 0 p w.there (omega arith) e g, leb-false _ _ f))) (λ g. finds-refused)))
        (λ e. finds-refused))

  module _ (vars : ℕ) (cs : List ℕ) where
    abbrev Keeps : (arms : Bool) (depth : ℕ) → (Bool → ℕ → ℕ → Found Act) → Type 0
    Keeps arms depth read = (handler : Bool) (n r : ℕ) → Finds (λ a next. act_within vars cs handler arms a depth ≡ true) (read handler n r)

    many-within : (arms : Bool) (depth : ℕ) (read : Bool → ℕ → ℕ → Found Act) → Keeps arms depth read → (handler later : Bool) (left n r : ℕ)
        → Finds (λ l next. acts_within vars cs handler later arms l depth ≡ true) (many_in read handler later left n r)
    unfolding many_in acts_within
    many-within arms depth read k handler later zero n r = finds-found refl
    many-within arms depth read k handler later (suc left) n r =
        finds-then (k handler n r)
        (λ a p h. finds-then (many-within arms depth read k later later left (n + size a) p) (λ l q m. finds-found (rw (h, m))))

    -- fault parts by number, and what follows them
    record PartsWithin (depth : ℕ) (known : List ℕ) (c : Numbered) : Type 0 where
      each : numbers_each c.numbers ≡ true
      others : Others known c.numbers
      parts : acts_within vars cs true true false c.parts depth ≡ true

    numbered_within : (depth : ℕ) (read : Bool → ℕ → ℕ → Found Act) → Keeps false depth read → (left : ℕ) (known : List ℕ) (n r : ℕ)
        → Finds (λ c next. PartsWithin depth known c) (numbered_at read t left known n r)
    unfolding numbered_at acts_within numbers_each among
    numbered_within depth read k zero known n r =
        finds-then (many-within false depth read k true true 2 n r)
        (λ l next h. finds-found (record { each = refl; others = λ w e. absurd (false≢true e); parts = h }))
    numbered_within depth read k (suc left) known n r =
        finds-then (number-stands t known r)
        (λ x p h. finds-then (k true n p)
        (λ a q y. finds-then (numbered_within depth read k left (x ∷ known) (n + size a) q)
        (λ c next m. finds-found (record {
          each = rw (h.may, others-itself x known c.numbers m.others, m.each);
          others = others-more x known c.numbers (not-true (among x known) h.once) m.others;
          parts = rw (y, m.parts);
        }))))

    scope-within : (depth : ℕ) → Keeps false depth (act_at depth vars cs t) → (handler : Bool) → not handler ≡ true → (n r : ℕ)
        → Finds (λ a next. act_within vars cs handler false a (suc depth) ≡ true) (numbered_scope_at (act_at depth vars cs t) t handler n r)
    unfolding numbered_scope_at act_within own_within count
    scope-within depth k handler e n r =
        finds-then (k handler (n + 1) r)
        (λ body p b. finds-then (count-stands t p)
        (λ m q f. finds-then (finds-both (node-numbered depth vars cs t m [] (n + 1 + size body) q) (numbered_within depth (act_at depth vars cs t) k m [] (n + 1 + size body) q))
        (λ c next w. finds-found
        (rw (
          lt-ltb 0 (suc depth) (omega arith),
          eq-eqb (1 + count c.parts) (length c.numbers + 3) (omega (arith, w.0.many, w.0.parts)),
          e,
          numbers-allowed c.numbers (omega (arith, w.0.many, f.few)) w.1.each,
          sub-one (suc depth),
          b,
          w.1.parts,
        )))))

    arm-act-within : (depth : ℕ) (read : Bool → ℕ → ℕ → Found Act) → Keeps false depth read → Keeps true depth (arm_with read vars t)
    unfolding arm_with act_within
    arm-act-within depth read k handler n r =
        finds-then (finds-both (arm_plain vars t n r) (arm_within vars cs handler n r))
        (λ h p w. rw w.0.told (finds-then
        (finds-both (many-count read handler handler h.within (n + 1) p) (many-within false depth read k handler handler h.within (n + 1) p))
        (λ l q m. finds-found (rw (m.0, w.1.1.0, w.1.0.0, w.1.0.1, m.1)))))

    reads-within : (depth : ℕ) (read : Bool → ℕ → ℕ → Found Act) → Keeps false depth read → (arms : Bool) → Keeps arms depth (reads_at arms read vars t)
    reads-within depth read k true = arm-act-within depth read k
    reads-within depth read k false = k

    -- an activity, whatever its head is
    whole-within : (depth : ℕ) → Keeps false depth (act_at depth vars cs t) → (handler : Bool) (n : ℕ) (h : Head) (r : ℕ) → HeadIs h → Kept vars cs handler h r
        → Finds (λ a next. act_within vars cs handler false a (suc depth) ≡ true)
        (whole_at (reads_at (is_pick h.own) (act_at depth vars cs t) vars t) t handler (later_of h.own handler) n h r)
    unfolding act_within
    whole-within depth k handler n h r (plain i) w =
        let arms = is_pick h.own in
        let later = later_of h.own handler in
        let read = reads_at arms (act_at depth vars cs t) vars t in
        let own : own_within vars cs handler false h.own h.within ≡ true = rw i.told at w in
        rw i.told
        (finds-then
        (finds-both (many-count read handler later h.within (n + 1) r)
        (many-within arms depth read (reads-within depth (act_at depth vars cs t) k arms) handler later h.within (n + 1) r))
        (λ l q m. finds-found (rw (lt-ltb 0 (suc depth) (omega arith), m.0, own, sub-one (suc depth), m.1))))
    whole-within depth k handler n h r numbered w = scope-within depth k handler w n r

    act-within : (depth : ℕ) → Keeps false depth (act_at depth vars cs t)
    unfolding act_at
    act-within zero handler n r = finds-then (finds-itself (head_at vars cs t handler 0 n r)) (λ h p w. finds-refused)
    act-within (suc depth) handler n r =
        finds-then (finds-both (head-is vars cs t handler (suc depth) n r) (head-within vars cs handler (suc depth) n r))
        (λ h p w. whole-within depth (act-within depth) handler n h p w.0 w.1.0)

    -- the numbers of activities and arms
    parts-numbered : (read : Bool → ℕ → ℕ → Found Act) → bounds.Numbered read → (left : ℕ) (known : List ℕ) (n r : ℕ) → n ≤ 256
        → Finds (λ c next. n + sizes c.parts ≤ 256) (numbered_at read t left known n r)
    unfolding numbered_at sizes
    parts-numbered read k zero known n r m = finds-then (many-numbered read k true true 2 n r m) (λ l next h. finds-found h)
    parts-numbered read k (suc left) known n r m =
        finds-then (finds-itself (fault_number_at t known r))
        (λ x p e. finds-then (k true n p)
        (λ a q h. finds-then (parts-numbered read k left (x ∷ known) (n + size a) q h) (λ c next y. finds-found (omega arith))))

    whole-numbered : (read : Bool → ℕ → ℕ → Found Act) → bounds.Numbered read → (handler later : Bool) (n : ℕ) (h : Head) (r : ℕ) → n < 256
        → Finds (λ a next. n + size a ≤ 256) (whole_at read t handler later n h r)
    unfolding numbered_scope_at size
    whole-numbered read k handler later n h r m =
        finds-cond h.numbered
        (λ e. finds-then (k handler (n + 1) r)
        (λ body p b. finds-then (finds-itself (count_at t p))
        (λ j q f. finds-then (parts-numbered read k j [] (n + 1 + size body) q b) (λ c next y. finds-found (omega arith)))))
        (λ e. finds-then (many-numbered read k handler later h.within (n + 1) r (omega arith)) (λ acts next y. finds-found (omega arith)))

    arm-numbered : (read : Bool → ℕ → ℕ → Found Act) → bounds.Numbered read → bounds.Numbered (arm_with read vars t)
    unfolding arm_with
    arm-numbered read k handler n r = finds-then (arm_within vars cs handler n r) (λ h next w. whole-numbered read k handler handler n h next w.1.1)

    act-numbered : (depth : ℕ) → bounds.Numbered (act_at depth vars cs t)
    unfolding act_at
    act-numbered zero handler n r = finds-then (finds-itself (head_at vars cs t handler 0 n r)) (λ h p w. finds-refused)
    act-numbered (suc depth) handler n r =
        finds-then (head-within vars cs handler (suc depth) n r)
        (λ h p w. whole-numbered (reads_at (is_pick h.own) (act_at depth vars cs t) vars t)
        (cond-case bounds.Numbered (is_pick h.own) (λ e. arm-numbered (act_at depth vars cs t) (act-numbered depth)) (λ e. act-numbered depth))
        handler (later_of h.own handler) n h p w.1)

    root-within : (r : ℕ) → from1 16 vars ≡ true → ascending vars 0 cs ≡ true → Finds (λ p next. length (spelling p) ≤ 4096 → plan_within p ≡ true) (root_at vars cs t r)
    unfolding root_at plan_within
    root-within r a c =
        finds-then (act-within 16 false 0 r)
        (λ body p x. finds-then (finds-both (act-within 16 true (size body) p) (act-numbered 16 true (size body) p))
        (λ fault q y. finds-cond (ltb (q * 20) (length t)) (λ e. finds-refused)
        (λ e. finds-cond (start_form body)
        (λ u. finds-found (λ k. rw (le-leb _ 4096 k, a, c, x, y.0, le-leb (size body + size fault) 256 y.1, u)))
        (λ u. finds-refused))))

  plan-within : Finds (λ p next. length (spelling p) ≤ 4096 → plan_within p ≡ true) (plan_at t)
  unfolding plan_at head_fits
  plan-within =
      finds-then (finds-itself (row_in t 0)) (λ v r w.
      finds-cond (eqb v 1) (λ e.
      finds-cond (head_fits t) (λ f.
      both (from1 16 (cell t 0 2)) _ f (λ a f1. both (leb (cell t 0 3) (cell t 0 2)) _ f1 (λ b f2. both (ascending (cell t 0 2) 0 (tuple t 0 3)) _ f2 (λ c s.
      root-within (cell t 0 2) (tuple t 0 3) r a c))))
      (λ f. finds-refused))
      (λ e. finds-refused))

  rows-within : Finds (λ p next. plan_within p ≡ true) (read_rows t)
  unfolding read_rows
  rows-within =
      finds-then (finds-itself (agreed_at t)) (λ p next x.
      finds-cond (ltb 4096 (length (spelling p))) (λ e. finds-refused) (λ e. finds-found (plan-within.holds (agreed-is-read t x) (ltb-false _ _ e))))

  -- What a table is read as is within the limits.
  pub read-is-within : {p : Plan} {next : ℕ} → read_rows t ≡ found p next → plan_within p ≡ true
  read-is-within e = rows-within.holds e

  -- What is written is accepted, as the plan that the table was read as.
  pub written-is-accepted : {p : Plan} {next : ℕ} → read_rows t ≡ found p next → read_plan (spelling p) ≡ found p (length (spelling p))
  written-is-accepted {p} e = spelled-is-accepted p (read-is-within e) (read-agrees t e)
