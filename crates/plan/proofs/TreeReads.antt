-- The returns of the two functions that read an activity and a list of activities, and why their calls of each other end. Assumes nothing.
use mathlib.Core.Path.{◌≡◌, refl, sym, ap, ◌∙◌}
use mathlib.Core.Bool.{Bool, true, false, ◌&&◌, ◌||◌, false≢true}
use mathlib.Core.List.{List, []}
use Prim.Native.Nat.{ℕ, zero, suc, ◌+◌, ◌-◌, ◌*◌, ◌<◌, ◌≤◌}
use native.Mathlib.Nat.{add-zero}
use native.Mathlib.Numerals.{sub-one}
use native.Mathlib.Omega.{arith}
use lib.Dec.{eqb, leb}
use lib.ListN.{length}
use mir.Syntax.{w64}
use mir.Val.{Fits}
use Rattle.plan.specs.declared.Out.{Out}
use Rattle.plan.specs.declared.Own as code
use Rattle.std.specs.Prelude.{Result, Ok, Err}
use Rattle.plan.specs.declared.Refusal.{Refusal}
use Rattle.plan.specs.Answers.{out, refusal, OwnRead, out_of, Put, ActRead, out_all, PutAll, ActsRead}
use Rattle.plan.specs.Fits.{weigh, weigh_scope}
use Rattle.plan.specs.Found.{Found, refused, found, and_then, field_in, among}
use Rattle.plan.specs.Nodes.{Base, node_head_in, node_in}
use Rattle.plan.specs.Read.{expression_in, tuple_in, Head, numbered_head, exchange_in, arm_in, partner_in, held_send_in, asking_receive_in, with_expression_in, set_in, list_in, raise_in, is_scope_code, parts_in, head_in, many_in, whole_in, read_arm, read_act, later_of, starts, start_form, first_starts, every_starts}
use Rattle.plan.specs.Spell.{spell, own_numbers, gaps_of, act_numbers, acts_numbers}
use Rattle.plan.specs.Table.{put_own, put_close, put, put_all, own_nodes, nodes, nodes_all}
use Rattle.plan.specs.Tree.{Exp, Own, to_partner, from_partner, send, receive, set, choose, repeat, sequence, flow, pick, kind, is_scope, is_pick, numbers_of, Act, act, Acts, more, size, sizes, count}
use Rattle.plan.specs.Within.{levels_below}
use Rattle.plan.proofs.Bounds.{arm-numbered, own-nodes-spelled, act-nodes-spelled, many-numbered, reads-numbered, act-numbered, Numbered}
use Rattle.plan.proofs.Finds.{Finds, finds-refused, finds-itself, finds-found, finds-cond, finds-then, finds-so, finds-both}
use Rattle.plan.proofs.ByKind.{kind-scope, kind-pick}
use Rattle.plan.proofs.OneNumber.{then_found, then-refused}
use Rattle.plan.proofs.OwnReads.{Said, own-got, own-no, code-numbered}
use Rattle.plan.proofs.Stands.{Stands, Reads, Plain, HeadIs, plain, numbered, arm_plain, head-is, field-within, head_numbers, stands-forward, stands-inside, own-some, act-some, arm-stands, head-stands, many-stands, many-count, reads-stand, act-stands}

-- no more than 32 stand directly within; and what stands within an arm are no arms, and no fault parts
abbrev Few : Head → ℕ → Type 0
Few h next = h.within ≤ 32

module _ (vars : ℕ) (s : List ℕ) where
  exchange-few : (once : Bool) (own : ℕ → List ℕ → Own) (within at : ℕ) → within ≤ 32 → Finds Few (exchange_in vars once s own within at)
  unfolding exchange_in
  exchange-few once own within at l =
      finds-then (finds-itself (field_in s 0 64 at))
      (λ operation p h. finds-then (finds-itself (tuple_in vars once s p)) (λ variables q k. finds-found l))

  partner-few : (once : Bool) (own : ℕ → ℕ → List ℕ → Own) (at : ℕ) → Finds Few (partner_in vars once s own at)
  unfolding partner_in
  partner-few once own at = finds-then (finds-itself (field_in s 0 64 at)) (λ partner p h. exchange-few once (own partner) 0 p (omega arith))

  held-few : (at : ℕ) → Finds Few (held_send_in vars s at)
  unfolding held_send_in
  held-few at =
      finds-then (finds-itself (field_in s 0 vars at))
      (λ v p h. finds-then (finds-itself (field_in s 0 64 p))
      (λ operation q i. finds-then (finds-itself (tuple_in vars false s q))
      (λ variables r j. finds-then (finds-itself (field_in s 0 64 r)) (λ reply next k. finds-found (omega arith)))))

  asking-few : (cs : List ℕ) (at : ℕ) → Finds Few (asking_receive_in vars cs s at)
  unfolding asking_receive_in
  asking-few cs at =
      finds-then (finds-itself (field_in s 0 64 at))
      (λ partner p h. finds-then (finds-itself (field_in s 0 64 p))
      (λ operation q i. finds-then (finds-itself (tuple_in vars true s q))
      (λ variables r j. finds-then (finds-itself (field_in s 0 vars r))
      (λ v next k. finds-cond (among v cs || among v variables) (λ t. finds-refused) (λ t. finds-found (omega arith))))))

  expression-few : (own : Exp → Own) (within at : ℕ) → within ≤ 32 → Finds Few (with_expression_in vars s own within at)
  unfolding with_expression_in
  expression-few own within at l = finds-then (finds-itself (expression_in 8 vars s at)) (λ e p h. finds-found l)

  set-few : (cs : List ℕ) (at : ℕ) → Finds Few (set_in vars cs s at)
  unfolding set_in
  set-few cs at =
      finds-then (finds-itself (field_in s 0 vars at)) (λ v p h. finds-cond (among v cs) (λ t. finds-refused) (λ t. expression-few (set v) 0 p (omega arith)))

  list-few : (own : Own) (limit at : ℕ) → limit ≤ 33 → Finds Few (list_in s own limit at)
  unfolding list_in
  list-few own limit at l = finds-then (field-within s 1 limit at) (λ k p h. finds-found (omega arith))

  raise-few : (at : ℕ) → Finds Few (raise_in s at)
  unfolding raise_in
  raise-few at = finds-then (finds-itself (field_in s 16 256 at)) (λ n p h. finds-found (omega arith))

  parts-few : (cs : List ℕ) (code at : ℕ) → Finds Few (parts_in vars cs s code at)
  unfolding parts_in
  parts-few cs code at =
      finds-cond (eqb code 0) (λ e. finds-found (omega arith))
      (λ l. finds-cond (eqb code 1) (λ e. partner-few false (λ p. send (to_partner p)) at)
      (λ l. finds-cond (eqb code 2) (λ e. partner-few true (λ p. receive (from_partner p)) at)
      (λ l. finds-cond (eqb code 3) (λ e. set-few cs at)
      (λ l. finds-cond (eqb code 4) (λ e. finds-found (omega arith))
      (λ l. finds-cond (eqb code 5) (λ e. finds-found (omega arith))
      (λ l. finds-cond (eqb code 6) (λ e. expression-few choose 2 at (omega arith))
      (λ l. finds-cond (eqb code 7) (λ e. expression-few repeat 1 at (omega arith))
      (λ l. finds-cond (eqb code 8) (λ e. list-few sequence 33 at (omega arith))
      (λ l. finds-cond (eqb code 9) (λ e. list-few flow 33 at (omega arith))
      (λ l. finds-cond (eqb code 10) (λ e. list-few pick 9 at (omega arith))
      (λ l. finds-cond (eqb code 11) (λ e. finds-found (omega arith))
      (λ l. finds-cond (eqb code 12) (λ e. finds-found (omega arith))
      (λ l. finds-cond (eqb code 13) (λ e. raise-few at)
      (λ l. finds-cond (eqb code 14) (λ e. finds-found (omega arith))
      (λ l. finds-cond (eqb code 17) (λ e. held-few at) (λ l. asking-few cs at))))))))))))))))

  arm-alone : (n at : ℕ) → Finds (λ h next. (is_scope h.own ≡ false) × ((is_pick h.own ≡ false) × (h.within ≡ 1))) (arm_in vars s n at)
  unfolding arm_in exchange_in
  arm-alone n at =
      finds-then (finds-itself (field_in s 0 64 at))
      (λ partner p h. finds-cond (leb 256 n) (λ t. finds-refused)
      (λ t. finds-then (finds-itself (field_in s 0 64 p))
      (λ operation q k. finds-then (finds-itself (tuple_in vars true s q)) (λ variables r j. finds-found (refl, (refl, refl))))))

-- which of the two a head is
pub plain-told : {h : Head} → HeadIs h → h.numbered ≡ false → Plain h
plain-told (plain k) e = k
plain-told numbered e = absurd (false≢true (sym e))

pub numbered-told : {h : Head} → HeadIs h → h.numbered ≡ true → h ≡ numbered_head
numbered-told (plain k) e = absurd (false≢true (sym k.told ∙ e))
numbered-told numbered e = refl

-- What holds of the head of an activity, or of an arm, that was read.
pub record Noded (arm : Bool) (depth n : ℕ) (h : Head) : Type 0 where
  pub numbered : n < 256
  pub few : h.within ≤ 32
  pub falls : weigh (is_pick h.own) (levels_below arm depth) + (1 + h.within) < weigh arm depth
  pub is : HeadIs h
  pub scoped : h.numbered ≡ true → weigh_scope (levels_below arm depth) < weigh arm depth

pos : (d : ℕ) → (d ≡ 0 → ⊥) → 0 < d
pos zero z = absurd (z refl)
pos (suc d) z = omega arith

weigh-most : (arm : Bool) (depth : ℕ) → weigh arm depth ≤ depth * 128 + 64
weigh-most true depth = omega arith
weigh-most false depth = omega arith

head-deep : (vars : ℕ) (cs s : List ℕ) (handler : Bool) (depth n at : ℕ)
    → Finds (λ h next. ((depth ≡ 0 → ⊥) × (n < 256)) × Few h next) (head_in vars cs s handler depth n at)
unfolding head_in
head-deep vars cs s handler depth n at =
    finds-then (code-numbered s handler depth n at) (λ code next c. finds-so (parts-few vars s cs code next) (λ h q e. ((c.deep, c.numbered), e)))

pub node-noded : (arm : Bool) (vars : ℕ) (cs s : List ℕ) (handler : Bool) (depth n at : ℕ)
    → Finds (λ h next. Noded arm depth n h) (node_head_in arm vars cs s handler depth n at)
node-noded true vars cs s handler depth n at =
    finds-so (finds-both (finds-both (arm-alone vars s n at) (arm-numbered vars s n at)) (arm_plain vars s n at))
    (λ h next w. record {
      numbered = w.0.1;
      few = omega (arith, w.0.0.1.1);
      falls = rw (w.0.0.1.0, w.0.0.1.1) (omega arith);
      is = plain w.1;
      scoped = λ e. absurd (false≢true (sym w.1.told ∙ e));
    })
node-noded false vars cs s handler depth n at =
    finds-so (finds-both (head-deep vars cs s handler depth n at) (head-is vars cs s handler depth n at))
    (λ h next w.
    let d = pos depth w.0.0.0 in
    record {
      numbered = w.0.0.1;
      few = w.0.1;
      falls = omega (arith, weigh-most (is_pick h.own) (depth - 1), w.0.1);
      is = w.1;
      scoped = λ e. omega arith;
    })

pub node-stands : (arm : Bool) (vars : ℕ) (cs s : List ℕ) (handler : Bool) (depth n at : ℕ)
    → Finds (λ h next. Stands s at (head_numbers h) next) (node_head_in arm vars cs s handler depth n at)
node-stands true vars cs s handler depth n at = arm-stands vars s n at
node-stands false vars cs s handler depth n at = head-stands vars cs s handler depth n at

-- one level of reading, where the head is read and where it is refused
module _ (vars : ℕ) (cs s : List ℕ) (handler : Bool) (n at : ℕ) where
  level-act : (depth : ℕ) {h : Head} {next : ℕ} → head_in vars cs s handler depth n at ≡ found h next
      → read_act depth vars cs s handler n at
      ≡ whole_in (node_in (is_pick h.own) (depth - 1) vars cs s) s handler (later_of h.own handler) n h next
  unfolding read_act
  level-act zero e = absurd (((head-deep vars cs s handler 0 n at).holds e).0.0 refl)
  level-act (suc depth) e = rw (sub-one (suc depth)) (then_found (head_in vars cs s handler (suc depth) n at) _ e)

  level-arm : (depth : ℕ) {h : Head} {next : ℕ} → arm_in vars s n at ≡ found h next
      → read_arm (read_act depth vars cs s) vars s handler n at
      ≡ whole_in (node_in (is_pick h.own) depth vars cs s) s handler (later_of h.own handler) n h next
  unfolding read_arm
  level-arm depth {h} e =
      let k = (arm-alone vars s n at).holds e in
      then_found (arm_in vars s n at) _ e ∙ rw (k.0, k.1.0)

  pub level : (arm : Bool) (depth : ℕ) {h : Head} {next : ℕ} → node_head_in arm vars cs s handler depth n at ≡ found h next
      → node_in arm depth vars cs s handler n at
      ≡ whole_in (node_in (is_pick h.own) (levels_below arm depth) vars cs s) s handler (later_of h.own handler) n h next
  level true depth e = level-arm depth e
  level false depth e = level-act depth e

  no-level : (arm : Bool) (depth : ℕ) {number place : ℕ} → node_head_in arm vars cs s handler depth n at ≡ refused number place
      → node_in arm depth vars cs s handler n at ≡ refused number place
  unfolding read_arm read_act
  no-level true depth e = then-refused (arm_in vars s n at) _ e
  no-level false zero e = then-refused (head_in vars cs s handler 0 n at) _ e
  no-level false (suc depth) e = then-refused (head_in vars cs s handler (suc depth) n at) _ e

-- What reading comes to, where what is found is known, and the other way round.
module _ (at n m : ℕ) where
  pub act-refused : (g : Found Act) (t u : List ℕ) {number place : ℕ} → g ≡ refused number place → ActRead g at n m (Err (refusal number place)) t u
  unfolding out_of Put
  act-refused g t u e = rw e (record { is = refl; put = tt })

  pub act-no : (g : Found Act) {r : Result Out Refusal} {t u : List ℕ} {y : Refusal} → ActRead g at n m r t u → r ≡ Err y → g ≡ refused y.number y.place
  unfolding out_of
  act-no (refused x p) a o = let i = a.is in cc
  act-no (found x q) a o = let i = a.is in let z : ◌≡◌ {A = ℕ} 0 1 = cc in absurd (omega arith)

  acts-refused : (g : Found Acts) (t u : List ℕ) {number place : ℕ} → g ≡ refused number place → ActsRead g at n m (Err (refusal number place)) t u
  unfolding out_all PutAll
  acts-refused g t u e = rw e (record { is = refl; put = tt })

  pub acts-no : (g : Found Acts) {r : Result Out Refusal} {t u : List ℕ} {y : Refusal} → ActsRead g at n m r t u → r ≡ Err y → g ≡ refused y.number y.place
  unfolding out_all
  acts-no (refused x p) a o = let i = a.is in cc
  acts-no (found x q) a o = let i = a.is in let z : ◌≡◌ {A = ℕ} 0 1 = cc in absurd (omega arith)

-- an activity that was read, and a list
pub record OneRead (g : Found Act) (at n m next end last : ℕ) (first every : Bool) (t u : List ℕ) : Type 0 where
  pub a : Act
  pub is : g ≡ found a next
  pub end_is : end ≡ n + size a
  pub last-is : last ≡ m + nodes a
  pub first-is : first ≡ start_form a
  pub put_is : u ≡ put a at n m t

pub act-got : (at n m : ℕ) (g : Found Act) {r : Result Out Refusal} {t u : List ℕ} {y : Out} → ActRead g at n m r t u
    → r ≡ Ok y → OneRead g at n m y.next y.count y.nodes y.first y.every t u
unfolding out_of Put
act-got at n m (refused x p) b o = let i = b.is in let z : ◌≡◌ {A = ℕ} 0 1 = cc in absurd (omega arith)
act-got at n m (found x q) {y = y} b o =
    let i = b.is in
    let j : y.next ≡ q = cc in
    record { a = x; is = rw j; end_is = cc; last-is = cc; first-is = cc; put_is = b.put }

pub record AllRead (g : Found Acts) (at n m next end last : ℕ) (first every : Bool) (t u : List ℕ) : Type 0 where
  pub l : Acts
  pub is : g ≡ found l next
  pub end_is : end ≡ n + sizes l
  pub last-is : last ≡ m + nodes_all l
  pub first-is : first ≡ first_starts l
  pub every-is : every ≡ every_starts l
  pub put_is : u ≡ put_all [] l at n m t

pub acts-got : (at n m : ℕ) (g : Found Acts) {r : Result Out Refusal} {t u : List ℕ} {y : Out} → ActsRead g at n m r t u
    → r ≡ Ok y → AllRead g at n m y.next y.count y.nodes y.first y.every t u
unfolding out_all PutAll
acts-got at n m (refused x p) b o = let i = b.is in let z : ◌≡◌ {A = ℕ} 0 1 = cc in absurd (omega arith)
acts-got at n m (found x q) {y = y} b o =
    let i = b.is in
    let j : y.next ≡ q = cc in
    record { l = x; is = rw j; end_is = cc; last-is = cc; first-is = cc; every-is = cc; put_is = b.put }

-- whatever an activity or arm is read as stands where it was read, and keeps to 256 numbers
pub node-reads : (arms : Bool) (depth vars : ℕ) (cs s : List ℕ) → Reads s (node_in arms depth vars cs s)
node-reads arms depth vars cs s = reads-stand s (read_act depth vars cs s) (act-stands depth vars cs s) arms vars

pub node-numbered : (arms : Bool) (depth vars : ℕ) (cs s : List ℕ) → Numbered (node_in arms depth vars cs s)
node-numbered arms depth vars cs s = reads-numbered (read_act depth vars cs s) (act-numbered depth vars cs s) arms vars s

-- a list that is not empty
many-some : (read : Bool → ℕ → ℕ → Found Act) (handler later : Bool) (left n at : ℕ) → (left ≡ 0 → ⊥) → many_in read handler later left n at
    ≡ and_then (read handler n at) (λ a p. and_then (many_in read later later (left - 1) (n + size a) p) (λ l q. found (more a l) q))
unfolding many_in
many-some read handler later zero n at z = absurd (z refl)
many-some read handler later (suc k) n at z = rw (sub-one (suc k))

-- a list whose first and whose rest are read
more-found : (g : Found Acts) (at n m : ℕ) (t u : List ℕ) (a : Act) (l : Acts) {stop end last : ℕ} {first both : Bool} → g ≡ found (more a l) stop
    → end ≡ n + (size a + sizes l) → last ≡ m + (nodes a + nodes_all l) → first ≡ start_form a → both ≡ (start_form a && every_starts l)
    → u ≡ put_all [] l (at + length (spell (act_numbers a))) (n + size a) (m + nodes a) (put a at n m t) → ActsRead g at n m (out stop end last first both) t u
unfolding out_all PutAll put_all nodes_all sizes first_starts
more-found g at n m t u a l e i j f v p = rw (e, i, j, f, v) (record { is = refl; put = p })

same-both : {both first every x y : Bool} → both ≡ (first && every) → first ≡ x → every ≡ y → both ≡ (x && y)
same-both w f e = w ∙ rw (f, e)

put_on : (l : Acts) {a b n k m j : ℕ} {t u : List ℕ} → a ≡ b → n ≡ k → m ≡ j → t ≡ u → put_all [] l a n m t ≡ put_all [] l b k j u
put_on l e f g h = rw (e, f, g, h)

-- `activities_at`
module _ (arms : Bool) (depth vars : ℕ) (cs s : List ℕ) (handler later : Bool) (left n at m : ℕ) (t : List ℕ) where
  pub acts-none : left ≡ 0 → ActsRead (many_in (node_in arms depth vars cs s) handler later left n at) at n m (out at n m false true) t t
  unfolding many_in out_all PutAll put_all nodes_all sizes first_starts every_starts
  acts-none z = rw z (record { is = rw (add-zero n, add-zero m); put = refl })

  module _ (z : left ≡ 0 → ⊥) where
    some : many_in (node_in arms depth vars cs s) handler later left n at
        ≡ and_then (node_in arms depth vars cs s handler n at) (λ a p. and_then (many_in (node_in arms depth vars cs s) later later (left - 1) (n + size a) p) (λ l q. found (more a l) q))
    some = many-some (node_in arms depth vars cs s) handler later left n at z

    pub acts-no-first : (u : List ℕ) {r : Result Out Refusal} {y : Refusal} → ActRead (node_in arms depth vars cs s handler n at) at n m r t u
        → r ≡ Err y → ActsRead (many_in (node_in arms depth vars cs s) handler later left n at) at n m (Err y) t u
    acts-no-first u a o = acts-refused at n m _ t u (some ∙ then-refused _ _ (act-no at n m _ a o))

    module _ (t₁ u : List ℕ) {r rest : Result Out Refusal} {one : Out}
        (a : ActRead (node_in arms depth vars cs s handler n at) at n m r t t₁) (o : r ≡ Ok one)
        (b : ActsRead (many_in (node_in arms depth vars cs s) later later (left - 1) one.count one.next) one.next one.count one.nodes rest t₁ u) where
      pub acts-no-rest : {y : Refusal} → rest ≡ Err y
          → ActsRead (many_in (node_in arms depth vars cs s) handler later left n at) at n m (Err y) t u
      acts-no-rest w =
          let x = act-got at n m _ a o in
          let e = acts-no one.next one.count one.nodes _ b w in
          acts-refused at n m _ t u (some ∙ (then_found _ _ x.is ∙ then-refused _ _ (rw x.end_is at e)))

      pub acts-more : {all : Out} {both : Bool} → rest ≡ Ok all → both ≡ (one.first && all.every)
          → ActsRead (many_in (node_in arms depth vars cs s) handler later left n at) at n m (out all.next all.count all.nodes one.first both) t u
      acts-more {both = both} q w =
          let x = act-got at n m _ a o in
          let y = acts-got one.next one.count one.nodes _ b q in
          let k = (node-reads arms depth vars cs s handler n at).holds x.is in
          more-found _ at n m t u x.a y.l
          (some ∙ (then_found _ _ x.is ∙ then_found _ _ (sym (ap (λ i. many_in (node_in arms depth vars cs s) later later (left - 1) i one.next) x.end_is) ∙ y.is)))
          (omega (arith, y.end_is, x.end_is)) (omega (arith, y.last-is, x.last-is)) x.first-is (same-both w x.first-is y.every-is)
          (y.put_is ∙ put_on y.l k.ends x.end_is x.last-is x.put_is)

-- an activity whose head and whose list are read
pub whole-found : (g : Found Act) (at n m : ℕ) (t u : List ℕ) (own : Own) (l : Acts) {stop end last : ℕ} {start : Bool} → g ≡ found (act own l) stop
    → end ≡ n + (1 + sizes l) → last ≡ m + (own_nodes own + nodes_all l) → start ≡ starts (kind own) (first_starts l) (every_starts l)
    → u ≡ put (act own l) at n m t → ActRead g at n m (out stop end last start start) t u
unfolding out_of Put size nodes start_form
whole-found g at n m t u own l e i j s p = rw (e, i, j, s) (record { is = refl; put = p })

same_start : {start first every f e : Bool} {k j : ℕ} → start ≡ starts k first every → k ≡ j → first ≡ f → every ≡ e → start ≡ starts j f e
same_start w i f e = w ∙ rw (i, f, e)

put_whole : (own : Own) (l : Acts) (at n m : ℕ) (t : List ℕ) {next end stop nodes₁ within : ℕ} {t₁ t₂ u : List ℕ} → numbers_of own ≡ [] → within ≡ count l
    → next ≡ at + length (spell (own_numbers own within)) → nodes₁ ≡ m + own_nodes own → t₁ ≡ put_own own at n m t
    → end ≡ n + 1 + sizes l → stop ≡ next + length (spell (acts_numbers [] l)) → t₂ ≡ put_all [] l next (n + 1) nodes₁ t₁ → u ≡ put_close n end stop t₂
    → u ≡ put (act own l) at n m t
unfolding put gaps_of
put_whole own l at n m t z c e j w i s p q = q ∙ rw (z, i, s, p, j, w, e, c)

-- `activity_at`
module _ (arm : Bool) (depth vars : ℕ) (cs s : List ℕ) (handler : Bool) (n at m : ℕ) (t : List ℕ) where
  pub act-no-own : (u : List ℕ) {own : Result code.Own Refusal} {y : Refusal} → OwnRead (node_head_in arm vars cs s handler depth n at) at n m own t u
      → own ≡ Err y → ActRead (node_in arm depth vars cs s handler n at) at n m (Err y) t u
  act-no-own u a o = act-refused at n m _ t u (no-level vars cs s handler n at arm depth (own-no _ at n m a o))

  module _ (t₁ t₂ : List ℕ) {own : Result code.Own Refusal} {k within next nodes₁ : ℕ} {later : Bool} {below : ℕ} {all : Result Out Refusal}
      (a : OwnRead (node_head_in arm vars cs s handler depth n at) at n m own t t₁) (o : own ≡ Ok (code.Own.Read k within next nodes₁))
      (i : later ≡ (is_scope_code k || handler)) (j : below ≡ levels_below arm depth)
      (b : ActsRead (many_in (node_in (eqb k 10) below vars cs s) handler later within (n + 1) next) next (n + 1) nodes₁ all t₁ t₂) where
    x : Said (node_head_in arm vars cs s handler depth n at) at n m k within next nodes₁ t t₁
    x = own-got _ at n m a o

    straight : Plain x.h
    straight = plain-told ((node-noded arm vars cs s handler depth n at).holds x.is).is x.plain

    -- the list that the code reads is the one that the definition reads
    list : (h : Head) → k ≡ kind h.own → within ≡ h.within
        → many_in (node_in (is_pick h.own) (levels_below arm depth) vars cs s) handler (later_of h.own handler) h.within (n + 1) next
        ≡ many_in (node_in (eqb k 10) below vars cs s) handler later within (n + 1) next
    list h e f = rw (i, j, e, f, kind-scope h.own, kind-pick h.own)

    pub act-no-within : {y : Refusal} → all ≡ Err y → ActRead (node_in arm depth vars cs s handler n at) at n m (Err y) t t₂
    act-no-within r =
        act-refused at n m _ t t₂
        (level vars cs s handler n at arm depth x.is ∙ rw x.plain (then-refused _ _ (list x.h x.same x.many ∙ acts-no next (n + 1) nodes₁ _ b r)))

    pub act-whole : (u : List ℕ) {rest : Out} {start : Bool} → all ≡ Ok rest
        → u ≡ put_close n rest.count rest.next t₂ → start ≡ starts k rest.first rest.every
        → ActRead (node_in arm depth vars cs s handler n at) at n m (out rest.next rest.count rest.nodes start start) t u
    act-whole u r w z =
        let y = acts-got next (n + 1) nodes₁ _ b r in
        let c = (many-count (node_in (eqb k 10) below vars cs s) handler later within (n + 1) next).holds y.is in
        let d = (many-stands s (node_in (eqb k 10) below vars cs s) (node-reads (eqb k 10) below vars cs s) handler later within (n + 1) next).holds y.is in
        let e = rw x.plain at ((node-stands arm vars cs s handler depth n at).holds x.is) in
        whole-found _ at n m t u x.h.own y.l
        (level vars cs s handler n at arm depth x.is ∙ rw x.plain (then_found _ _ (list x.h x.same x.many ∙ y.is)))
        (omega (arith, y.end_is)) (omega (arith, y.last-is, x.count)) (same_start z x.same y.first-is y.every-is)
        (put_whole x.h.own y.l at n m t straight.none (sym x.many ∙ sym c) e.ends x.count x.put y.end_is d.ends y.put_is w)

-- What the calls of the two functions may count on.
falls-same : (b : Bool) (depth : ℕ) (own : Own) {below t₀ k within w : ℕ} → below ≡ levels_below b depth → weigh b depth ≡ t₀ → k ≡ kind own → within ≡ w
    → weigh (is_pick own) (levels_below b depth) + (1 + w) < weigh b depth → weigh (eqb k 10) below + (1 + within) < t₀
falls-same b depth own e f i l h = rw (← f, e, i, l, kind-pick own) h

module _ (arm : Bool) (depth vars : ℕ) (cs s : List ℕ) (handler : Bool) (n at m : ℕ) {t t₁ : List ℕ} {own : Result code.Own Refusal} {k within next nodes₁ : ℕ}
    (a : OwnRead (node_head_in arm vars cs s handler depth n at) at n m own t t₁) (o : own ≡ Ok (code.Own.Read k within next nodes₁)) where
  said : Said (node_head_in arm vars cs s handler depth n at) at n m k within next nodes₁ t t₁
  said = own-got _ at n m a o

  noded : Noded arm depth n said.h
  noded = (node-noded arm vars cs s handler depth n at).holds said.is

  pub own-numbered : n < 256
  own-numbered = noded.numbered

  pub own-next : n + 1 ≤ 256
  own-next = let l = noded.numbered in omega arith

  pub own-next-fits : Fits w64 (n + 1)
  own-next-fits = let l = noded.numbered in omega arith

  pub own-few : within ≤ 32
  own-few = omega (arith, said.many, noded.few)

  pub own-base : Base s vars m at → Base s vars nodes₁ next
  own-base b =
      let e = rw said.plain at ((node-stands arm vars cs s handler depth n at).holds said.is) in
      let f = stands-forward e (own-some said.h.own said.h.within) in
      record {
        short = b.short;
        few = b.few;
        behind = omega (arith, b.behind, said.count, e.ends, own-nodes-spelled said.h.own said.h.within);
        placed = omega (arith, b.short, f.1);
      }

  pub own-falls : (below t₀ : ℕ) → below ≡ levels_below arm depth → weigh arm depth ≡ t₀ → weigh (eqb k 10) below + (1 + within) < t₀
  own-falls below t₀ e f = falls-same arm depth said.h.own e f said.same said.many noded.falls

module _ (arms : Bool) (depth vars : ℕ) (cs s : List ℕ) (handler : Bool) (n at m : ℕ) {t t₁ : List ℕ} {r : Result Out Refusal} {one : Out}
    (a : ActRead (node_in arms depth vars cs s handler n at) at n m r t t₁) (o : r ≡ Ok one) where
  read_one : OneRead (node_in arms depth vars cs s handler n at) at n m one.next one.count one.nodes one.first one.every t t₁
  read_one = act-got at n m _ a o

  pub one-numbered : one.count ≤ 256
  one-numbered = omega (arith, read_one.end_is, (node-numbered arms depth vars cs s handler n at).holds read_one.is)

  pub one-base : Base s vars m at → Base s vars one.nodes one.next
  one-base b =
      let e = (node-reads arms depth vars cs s handler n at).holds read_one.is in
      let f = stands-forward e (act-some read_one.a) in
      record {
        short = b.short;
        few = b.few;
        behind = omega (arith, b.behind, read_one.last-is, e.ends, act-nodes-spelled read_one.a);
        placed = omega (arith, b.short, f.1);
      }

module _ (arms : Bool) (depth vars : ℕ) (cs s : List ℕ) (handler later : Bool) (left n at m : ℕ) {t t₁ : List ℕ} {all : Result Out Refusal} {rest : Out} (a : ActsRead (many_in (node_in arms depth vars cs s) handler later left n at) at n m all t t₁)
    (o : all ≡ Ok rest) where
  read_all : AllRead (many_in (node_in arms depth vars cs s) handler later left n at) at n m rest.next rest.count rest.nodes rest.first rest.every t t₁
  read_all = acts-got at n m _ a o

  pub all-numbered : n ≤ 256 → rest.count ≤ 256
  all-numbered h =
      omega (arith, read_all.end_is, (many-numbered (node_in arms depth vars cs s) (node-numbered arms depth vars cs s) handler later left n at h).holds read_all.is)

  pub all-base : Base s vars m at → at ≤ length s → rest.next ≤ 4096
  all-base b h =
      let e = (many-stands s (node_in arms depth vars cs s) (node-reads arms depth vars cs s) handler later left n at).holds read_all.is in
      omega (arith, b.short, stands-inside e h)

-- the place after an activity is one of a short slice's
pub whole-stop : (b : Bool) (depth vars : ℕ) (cs s : List ℕ) (handler : Bool) (n at m : ℕ) {t t₁ t₂ : List ℕ} {own : Result code.Own Refusal} {k within next nodes₁ : ℕ}
    → OwnRead (node_head_in b vars cs s handler depth n at) at n m own t t₁ → own ≡ Ok (code.Own.Read k within next nodes₁)
    → (arms : Bool) (below : ℕ) (later : Bool) {all : Result Out Refusal} {rest : Out}
    → ActsRead (many_in (node_in arms below vars cs s) handler later within (n + 1) next) next (n + 1) nodes₁ all t₁ t₂ → all ≡ Ok rest
    → Base s vars m at → rest.next ≤ 4096
whole-stop b depth vars cs s handler n at m a o arms below later l r c =
    let x = own-got _ at n m a o in
    let e = rw x.plain at ((node-stands b vars cs s handler depth n at).holds x.is) in
    all-base arms below vars cs s handler later _ (n + 1) _ _ l r (own-base b depth vars cs s handler n at m a o c)
    (stands-forward e (own-some x.h.own x.h.within)).1
