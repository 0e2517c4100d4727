-- The returns of the functions that read a scope with fault parts by number, and what their calls may count on. Assumes nothing.
use mathlib.Core.Path.{◌≡◌, refl, sym, ap, ◌∙◌}
use mathlib.Core.Bool.{Bool, true, false}
use mathlib.Core.List.{List, [], ◌∷◌, ◌++◌, map}
use Prim.Native.Nat.{ℕ, zero, suc, ◌+◌, ◌-◌, ◌<◌, ◌≤◌}
use native.Mathlib.Nat.{add-zero, zero-add, add_assoc}
use native.Mathlib.Numerals.{add-one, sub-one}
use native.Mathlib.Omega.{arith}
use lib.ListN.{length, set, replicate, length-append}
use lib.Seq.{get_or-set_same, get_or-set_other}
use mir.Syntax.{w64}
use mir.Val.{Fits}
use Rattle.numbers.specs.Shortest.{shortest, spelled as groups}
use Rattle.plan.specs.declared.Out.{Out}
use Rattle.plan.specs.declared.Own as code
use Rattle.std.specs.Prelude.{Result, Ok, Err}
use Rattle.numbers.specs.declared.Number.{Number}
use Rattle.plan.specs.declared.Refusal.{Refusal}
use Rattle.plan.specs.Answers.{out, refusal, field_of, OwnRead, ActRead, out_all, PutAll, ActsRead, NumberedIs, NumberedPut, NumberedRead}
use Rattle.plan.specs.Fits.{NumberFits, FieldFits, weigh, weigh_scope, weigh_parts}
use Rattle.plan.specs.Found.{Found, refused, found, and_then, number_in, field_in, among}
use Rattle.plan.specs.Nodes.{Base, ScopeRoom, NumbersRoom, node_head_in, node_in}
use Rattle.plan.specs.Numbering.{backwards, numbers_row}
use Rattle.plan.specs.Read.{Head, numbered_head, Numbered, also_numbered, namable, fault_number_in, many_in, numbered_in, numbered_scope_in, starts, first_starts, every_starts}
use Rattle.plan.specs.Spell.{spell, own_numbers, gaps_of, act_numbers, acts_numbers}
use Rattle.plan.specs.Store.{store}
use Rattle.plan.specs.Table.{scope_row, row_of, put_row, put_own, put_own_nodes, put_close, put, put_all, own_nodes, nodes, nodes_all}
use Rattle.plan.specs.Tree.{scope, scope_code, kind, Act, act, Acts, none, more, size, sizes, count}
use Rattle.plan.specs.Within.{levels_below}
use Rattle.plan.proofs.Beside.{numbers-beside}
use Rattle.plan.proofs.Bounds.{parts-numbered}
use Rattle.plan.proofs.OneNumber.{then_found, then-refused, field-got, field-no, field_fits, number_fits, handed}
use Rattle.plan.proofs.OwnReads.{own-numbers}
use Rattle.plan.proofs.Stands.{one, NumberedStands, spell-append, stands-forward, stands-inside, field-stands, fault-number-stands, numbered-stands}
use Rattle.plan.proofs.TreeReads.{node-noded, node-stands, node-reads, node-numbered, numbered-told, level, act-refused, act-no, act-got, whole-found, one-base, one-numbered}

-- The numbers while they are read.

backwards-set : (k : ℕ) (l : List ℕ) (j x : ℕ) → k ≤ j → backwards k (set l j x) ≡ backwards k l
unfolding backwards
backwards-set zero l j x h = refl
backwards-set (suc k) l j x h = rw (get_or-set_other l j k x 0 (λ e. omega arith), backwards-set k l j x (omega arith))

-- `with_number`
pub number_behind : (l : List ℕ) (k x : ℕ) → k < length l → backwards (k + 1) (set l k x) ≡ x ∷ backwards k l
unfolding backwards
number_behind l k x h = rw (add-one k, get_or-set_same l k x 0 h, backwards-set k l k x (omega arith))

-- `fault_number_at`
module _ {r : Result Number Refusal} (s : List ℕ) (l : List ℕ) (k at : ℕ) (e : r ≡ field_of (number_in s at)) where
  pub fault-number-handed : {y : Refusal} → r ≡ Err y → Err y ≡ field_of (fault_number_in s (backwards k l) at)
  unfolding fault_number_in
  fault-number-handed o = handed (number_in s at) _ e o

  module _ {read : Number} (o : r ≡ Ok read) {a : Bool} (i : a ≡ namable read.value) where
    pub fault-number-bad : a ≡ false → Err (refusal 5 at) ≡ field_of (fault_number_in s (backwards k l) at)
    unfolding fault_number_in field_of
    fault-number-bad t = rw (field-got (number_in s at) e o, sym i ∙ t)

    module _ {b : Bool} (j : b ≡ among read.value (backwards k l)) where
      pub fault-number-good : a ≡ true → b ≡ false → Ok read ≡ field_of (fault_number_in s (backwards k l) at)
      unfolding fault_number_in field_of
      fault-number-good t u = rw (field-got (number_in s at) e o, sym i ∙ t, sym j ∙ u)

      pub fault-number-known : a ≡ true → b ≡ true → Err (refusal 5 at) ≡ field_of (fault_number_in s (backwards k l) at)
      unfolding fault_number_in field_of
      fault-number-known t u = rw (field-got (number_in s at) e o, sym i ∙ t, sym j ∙ u)

-- What reading comes to, where what is found is known, and the other way round.
module _ (l : List ℕ) (k row place at n m : ℕ) where
  numbers-refused : (g : Found Numbered) (t u : List ℕ) {number q : ℕ} → g ≡ refused number q → NumberedRead g l k row place at n m (Err (refusal number q)) t u
  unfolding NumberedIs NumberedPut
  numbers-refused g t u e = rw e (record { is = refl; put = tt })

  numbers-no : (g : Found Numbered) {r : Result Out Refusal} {t u : List ℕ} {y : Refusal} → NumberedRead g l k row place at n m r t u → r ≡ Err y → g ≡ refused y.number y.place
  unfolding NumberedIs
  numbers-no (refused x p) a o = let i = a.is in cc
  numbers-no (found x p) a o = let i = a.is.1.1 in let z : ◌≡◌ {A = ℕ} 0 1 = cc in absurd (omega arith)

numbers_as : (l : List ℕ) (k row place at n m : ℕ) {g h : Found Numbered} {r : Result Out Refusal} {t u : List ℕ} → g ≡ h → NumberedRead g l k row place at n m r t u
    → NumberedRead h l k row place at n m r t u
numbers_as l k row place at n m e b = rw e at b

record PartsRead (g : Found Numbered) (l : List ℕ) (k row place at n m next end last : ℕ) (t u : List ℕ) : Type 0 where
  c : Numbered
  is : g ≡ found c next
  end_is : end ≡ n + sizes c.parts
  last-is : last ≡ m + nodes_all c.parts
  put_is : u ≡ put_all (map one c.numbers) c.parts at n m (put_row row (numbers_row (store c.numbers 0 k l) (k + length c.numbers) place) t)

numbers-got : (l : List ℕ) (k row place at n m : ℕ) (g : Found Numbered) {r : Result Out Refusal} {t u : List ℕ} {y : Out}
    → NumberedRead g l k row place at n m r t u → r ≡ Ok y → PartsRead g l k row place at n m y.next y.count y.nodes t u
unfolding NumberedIs NumberedPut
numbers-got l k row place at n m (refused x p) b o = let i = b.is in let z : ◌≡◌ {A = ℕ} 0 1 = cc in absurd (omega arith)
numbers-got l k row place at n m (found x q) {y = y} b o =
    let i = b.is.1.1 in
    let j : y.next ≡ q = cc in
    record { c = x; is = rw j; end_is = cc; last-is = cc; put_is = b.put }

-- the two parts after those by number
last-two : (g : Found Acts) (l : List ℕ) (k row place at n m : ℕ) (t t₁ u : List ℕ) {r : Result Out Refusal} → ActsRead g at n m r t₁ u → t₁ ≡ put_row row (numbers_row l k place) t
    → NumberedRead (and_then g (λ x next. found (record { numbers = []; parts = x }) next)) l k row place at n m r t u
unfolding NumberedIs NumberedPut out_all PutAll store
last-two (refused x p) l k row place at n m t t₁ u a w = record { is = a.is; put = tt }
last-two (found x p) l k row place at n m t t₁ u a w =
    record { is = (first_starts x, (every_starts x, a.is)); put = a.put ∙ rw (w, add-zero k) }

-- one more part by number
one_more : (g : Found Numbered) (l l₁ : List ℕ) (k row place at n m : ℕ) (t t₁ u : List ℕ) (x next after n₁ m₁ : ℕ) (a : Act) {r : Result Out Refusal} → NumberedRead g l₁ (k + 1) row place after n₁ m₁ r t₁ u
    → l₁ ≡ set l k x → next ≡ at + length (spell (x ∷ [])) → after ≡ next + length (spell (act_numbers a)) → n₁ ≡ n + size a → m₁ ≡ m + nodes a
    → t₁ ≡ put a next n m t → row < n → row < 256
    → NumberedRead (and_then g (λ c stop. found (also_numbered x a c) stop)) l k row place at n m r t u
unfolding NumberedIs NumberedPut sizes nodes_all put_all store
one_more (refused y p) l l₁ k row place at n m t t₁ u x next after n₁ m₁ a b e f h i j w s q = record { is = b.is; put = tt }
one_more (found c p) l l₁ k row place at n m t t₁ u x next after n₁ m₁ a b e f h i j w s q =
    record { is = (b.is.0, (b.is.1.0, b.is.1.1 ∙ sized)); put = b.put ∙ written }
  where
    sized : out p (n₁ + sizes c.parts) (m₁ + nodes_all c.parts) b.is.0 b.is.1.0
        ≡ out p (n + sizes (more a c.parts)) (m + nodes_all (more a c.parts)) b.is.0 b.is.1.0
    sized = rw (i, j, add_assoc n (size a) (sizes c.parts), add_assoc m (nodes a) (nodes_all c.parts))

    counted : k + 1 + length c.numbers ≡ k + suc (length c.numbers)
    counted = omega arith

    written : put_all (map one c.numbers) c.parts after n₁ m₁ (put_row row (numbers_row (store c.numbers 0 (k + 1) l₁) (k + 1 + length c.numbers) place) t₁)
        ≡ put_all (map one (x ∷ c.numbers)) (more a c.parts) at n m (put_row row (numbers_row (store (x ∷ c.numbers) 0 k l) (k + length (x ∷ c.numbers)) place) t)
    written =
        rw (w, numbers-beside row (store c.numbers 0 (k + 1) l₁) (k + 1 + length c.numbers) place a next n m t s q, e, h, f, i, j, counted, zero-add k)

-- `numbered_at`
module _ (depth vars : ℕ) (cs s l : List ℕ) (k left row place n at m : ℕ) (t : List ℕ) where
  pub numbers-none : left ≡ 0 → (t₁ u : List ℕ) {r : Result Out Refusal} → t₁ ≡ put_row row (numbers_row l k place) t
      → ActsRead (many_in (node_in false depth vars cs s) true true 2 n at) at n m r t₁ u
      → NumberedRead (numbered_in (node_in false depth vars cs s) s left (backwards k l) n at) l k row place at n m r t u
  unfolding numbered_in
  numbers-none z t₁ u w a = rw z (last-two _ l k row place at n m t t₁ u a w)

  module _ (z : left ≡ 0 → ⊥) {f : Result Number Refusal} (e : f ≡ field_of (fault_number_in s (backwards k l) at)) where
    some : numbered_in (node_in false depth vars cs s) s left (backwards k l) n at
        ≡ and_then (fault_number_in s (backwards k l) at) (λ x p.
        and_then (node_in false depth vars cs s true n p) (λ a q.
        and_then (numbered_in (node_in false depth vars cs s) s (left - 1) (x ∷ backwards k l) (n + size a) q) (λ c next. found (also_numbered x a c) next)))
    unfolding numbered_in
    some = go left z
      where
        go : (j : ℕ) → (j ≡ 0 → ⊥) → numbered_in (node_in false depth vars cs s) s j (backwards k l) n at
            ≡ and_then (fault_number_in s (backwards k l) at) (λ x p.
            and_then (node_in false depth vars cs s true n p) (λ a q.
            and_then (numbered_in (node_in false depth vars cs s) s (j - 1) (x ∷ backwards k l) (n + size a) q) (λ c next. found (also_numbered x a c) next)))
        go zero z = absurd (z refl)
        go (suc j) z = rw (sub-one (suc j))

    pub numbers-no-number : {y : Refusal} → f ≡ Err y
        → NumberedRead (numbered_in (node_in false depth vars cs s) s left (backwards k l) n at) l k row place at n m (Err y) t t
    numbers-no-number o = numbers-refused l k row place at n m _ t t (some ∙ then-refused _ _ (field-no _ e o))

    module _ {read : Number} (o : f ≡ Ok read) (t₁ : List ℕ) {part : Result Out Refusal}
        (a : ActRead (node_in false depth vars cs s true n read.next) read.next n m part t t₁) where
      pub numbers-no-part : {y : Refusal} → part ≡ Err y
          → NumberedRead (numbered_in (node_in false depth vars cs s) s left (backwards k l) n at) l k row place at n m (Err y) t t₁
      numbers-no-part r =
          (numbers-refused l k row place at n m _ t t₁ (some ∙ (then_found _ _ (field-got _ e o) ∙ then-refused _ _ (act-no read.next n m _ a r))))

      module _ {one : Out} (r : part ≡ Ok one) where
        pub numbers_more : (l₁ u : List ℕ) {rest : Result Out Refusal} → l₁ ≡ set l k read.value → backwards (k + 1) l₁ ≡ read.value ∷ backwards k l → NumbersRoom s vars n m row place at
            → NumberedRead (numbered_in (node_in false depth vars cs s) s (left - 1) (backwards (k + 1) l₁) one.count one.next) l₁ (k + 1) row place one.next one.count one.nodes rest t₁ u
            → NumberedRead (numbered_in (node_in false depth vars cs s) s left (backwards k l) n at) l k row place at n m rest t u
        numbers_more l₁ u i j c b =
            let x = act-got read.next n m _ a r in
            let p = (fault-number-stands s (backwards k l) at).holds (field-got _ e o) in
            let q = (node-reads false depth vars cs s true n read.next).holds x.is in
            let w : numbered_in (node_in false depth vars cs s) s (left - 1) (backwards (k + 1) l₁) one.count one.next
            ≡ numbered_in (node_in false depth vars cs s) s (left - 1) (read.value ∷ backwards k l) (n + size x.a) one.next =
            ap (λ (y : List ℕ). numbered_in (node_in false depth vars cs s) s (left - 1) y one.count one.next) j
            ∙ ap (λ (y : ℕ). numbered_in (node_in false depth vars cs s) s (left - 1) (read.value ∷ backwards k l) y one.next) x.end_is in
            rw (some ∙ (then_found _ _ (field-got _ e o) ∙ then_found _ _ x.is))
            (one_more (numbered_in (node_in false depth vars cs s) s (left - 1) (read.value ∷ backwards k l) (n + size x.a) one.next) l l₁ k row place at n m t t₁ u read.value read.next one.next one.count one.nodes x.a
            (numbers_as l₁ (k + 1) row place one.next one.count one.nodes w b) i p.ends q.ends x.end_is x.last-is x.put_is c.before (omega (arith, c.before, c.numbered)))

-- The scope.

-- its numbers are one to eight, and its parts two more
record Counted (numbers : List ℕ) (parts : Acts) : Type 0 where
  some : 0 < length numbers
  most : length numbers ≤ 8
  both : count parts ≡ length numbers + 2

-- its row
numbers-row : (numbers : List ℕ) (place : ℕ) → length numbers ≤ 8 → numbers_row (store numbers 0 0 (replicate 8 0)) (0 + length numbers) place ≡ scope_row 14 numbers place
unfolding store
numbers-row [] place h = refl
numbers-row (a ∷ []) place h = refl
numbers-row (a ∷ b ∷ []) place h = refl
numbers-row (a ∷ b ∷ c ∷ []) place h = refl
numbers-row (a ∷ b ∷ c ∷ d ∷ []) place h = refl
numbers-row (a ∷ b ∷ c ∷ d ∷ e ∷ []) place h = refl
numbers-row (a ∷ b ∷ c ∷ d ∷ e ∷ f ∷ []) place h = refl
numbers-row (a ∷ b ∷ c ∷ d ∷ e ∷ f ∷ g ∷ []) place h = refl
numbers-row (a ∷ b ∷ c ∷ d ∷ e ∷ f ∷ g ∷ i ∷ []) place h = refl
numbers-row (a ∷ b ∷ c ∷ d ∷ e ∷ f ∷ g ∷ i ∷ j ∷ l) place h = absurd (omega arith)

numbers-code : (numbers : List ℕ) → 0 < length numbers → scope_code numbers true ≡ 14
numbers-code [] h = absurd (omega arith)
numbers-code (x ∷ l) h = refl

numbers-start : (numbers : List ℕ) (first every : Bool) → 0 < length numbers → starts (kind (scope numbers true)) first every ≡ first
unfolding starts kind
numbers-start [] first every h = absurd (omega arith)
numbers-start (x ∷ l) first every h = refl

-- its parts: the body, and behind the count the others, each behind its number
nothing-passed : (at : ℕ) → at + length (spell []) ≡ at
unfolding spell
nothing-passed at = add-zero at

gap-passed : (at x y : ℕ) → at + length (spell (x ∷ y ∷ [])) ≡ at + length (spell (x ∷ [])) + length (spell (y ∷ []))
gap-passed at x y =
    let e : length (spell (x ∷ y ∷ [])) ≡ length (spell (x ∷ [])) + length (spell (y ∷ [])) =
    ap length (spell-append (x ∷ []) (y ∷ [])) ∙ length-append (spell (x ∷ [])) (spell (y ∷ [])) in
    omega arith

put-parts : (numbers : List ℕ) (body : Act) (parts : Acts) (at n m : ℕ) (t : List ℕ) → 0 < length numbers → count parts ≡ length numbers + 2
    → put_all (gaps_of numbers) (more body parts) at n m t
    ≡ put_all (map one numbers) parts (at + length (spell (act_numbers body)) + length (spell (length numbers ∷ []))) (n + size body) (m + nodes body) (put body at n m t)
unfolding put_all gaps_of count
put-parts [] body parts at n m t h e = absurd (omega arith)
put-parts (x ∷ l) body none at n m t h e = absurd (omega arith)
put-parts (x ∷ l) body (more a parts) at n m t h e =
    rw (nothing-passed at, gap-passed (at + length (spell (act_numbers body))) (length (x ∷ l)) x)

spell-parts : (numbers : List ℕ) (body : Act) (parts : Acts) → 0 < length numbers → count parts ≡ length numbers + 2
    → acts_numbers (gaps_of numbers) (more body parts) ≡ act_numbers body ++ ((length numbers ∷ []) ++ acts_numbers (map one numbers) parts)
unfolding acts_numbers gaps_of count
spell-parts [] body parts h e = absurd (omega arith)
spell-parts (x ∷ l) body none h e = absurd (omega arith)
spell-parts (x ∷ l) body (more a parts) h e = refl

spelled : (a b c : List ℕ) → length (spell (a ++ (b ++ c))) ≡ length (spell a) + (length (spell b) + length (spell c))
spelled a b c =
    ap length (spell-append a (b ++ c)) ∙ (length-append (spell a) (spell (b ++ c))
    ∙ ap (λ (j : ℕ). length (spell a) + j) (ap length (spell-append b c) ∙ length-append (spell b) (spell c)))

code-long : length (spell (14 ∷ [])) ≡ 1
unfolding spell shortest groups
code-long = refl

put-scope : (numbers : List ℕ) (body : Act) (parts : Acts) (place at n m : ℕ) (t : List ℕ) {next after end stop n₁ m₁ : ℕ} {t₁ t₂ u : List ℕ} → Counted numbers parts
    → at ≡ place + 1 → next ≡ at + length (spell (act_numbers body)) → after ≡ next + length (spell (length numbers ∷ [])) → n₁ ≡ n + 1 + size body → m₁ ≡ m + nodes body
    → t₁ ≡ put body at (n + 1) m t → n < 256
    → t₂ ≡ put_all (map one numbers) parts after n₁ m₁ (put_row n (numbers_row (store numbers 0 0 (replicate 8 0)) (0 + length numbers) place) t₁)
    → end ≡ n₁ + sizes parts → stop ≡ after + length (spell (acts_numbers (map one numbers) parts)) → u ≡ put_close n end stop t₂
    → u ≡ put (act (scope numbers true) (more body parts)) place n m t
unfolding put put_own row_of put_own_nodes own_nodes own_numbers sizes
put-scope numbers body parts place at n m t {next} {after} {end} {stop} {n₁} {m₁} {t₁} {t₂} {u} c e f g i j w b v x y z = z ∙ go
  where
    coded : place + length (spell (14 ∷ [])) ≡ at
    coded = rw code-long (sym e)

    ended : end ≡ n + 1 + (size body + sizes parts)
    ended = omega arith

    stopped : stop ≡ at + length (spell (acts_numbers (gaps_of numbers) (more body parts)))
    stopped =
        rw (spell-parts numbers body parts c.some c.both, spelled (act_numbers body) (length numbers ∷ []) (acts_numbers (map one numbers) parts)) (omega arith)

    written : t₂ ≡ put_all (gaps_of numbers) (more body parts) at (n + 1) m (put_row n (scope_row 14 numbers place) t)
    written =
        v ∙ (rw (w, numbers-beside n (store numbers 0 0 (replicate 8 0)) (0 + length numbers) place body at (n + 1) m t (omega arith) b, numbers-row numbers place c.most, g, f, i, j)
        (sym (put-parts numbers body parts at (n + 1) m _ c.some c.both)))

    go : put_close n end stop t₂ ≡ put (act (scope numbers true) (more body parts)) place n m t
    go = rw (numbers-code numbers c.some, coded, add-zero m, ended, stopped, written)

-- `numbered_scope_at`
module _ (depth vars : ℕ) (cs s : List ℕ) (handler : Bool) (n at place m : ℕ) (t t₁ : List ℕ) {body : Result Out Refusal}
    (a : ActRead (node_in false depth vars cs s handler (n + 1) at) at (n + 1) m body t t₁) where
  pub scope-no-body : {y : Refusal} → body ≡ Err y
      → ActRead (numbered_scope_in (node_in false depth vars cs s) s handler n at) place n m (Err y) t t₁
  unfolding numbered_scope_in
  scope-no-body o = act-refused place n m _ t t₁ (then-refused _ _ (act-no at (n + 1) m _ a o))

  module _ {one : Out} (o : body ≡ Ok one) {f : Result Number Refusal} (e : f ≡ field_of (field_in s 1 9 one.next)) where
    pub scope-no-count : {y : Refusal} → f ≡ Err y
        → ActRead (numbered_scope_in (node_in false depth vars cs s) s handler n at) place n m (Err y) t t₁
    unfolding numbered_scope_in
    scope-no-count r =
        act-refused place n m _ t t₁ (then_found _ _ (act-got at (n + 1) m _ a o).is ∙ then-refused _ _ (field-no _ e r))

    module _ {many : Number} (r : f ≡ Ok many) (t₂ : List ℕ) {rest : Result Out Refusal}
        (b : NumberedRead (numbered_in (node_in false depth vars cs s) s many.value (backwards 0 (replicate 8 0)) one.count many.next) (replicate 8 0) 0 n place many.next one.count one.nodes rest t₁ t₂) where
      -- what is read of the scope
      scope-is : numbered_scope_in (node_in false depth vars cs s) s handler n at
          ≡ and_then (numbered_in (node_in false depth vars cs s) s many.value (backwards 0 (replicate 8 0)) one.count many.next) (λ c stop.
          found (act (scope c.numbers true) (more (act-got at (n + 1) m _ a o).a c.parts)) stop)
      unfolding numbered_scope_in backwards
      scope-is =
          let x = act-got at (n + 1) m _ a o in
          then_found _ _ x.is ∙ (then_found _ _ (field-got _ e r)
          ∙ sym (ap (λ (i : ℕ). and_then (numbered_in (node_in false depth vars cs s) s many.value [] i many.next) (λ c stop. found (act (scope c.numbers true) (more x.a c.parts)) stop))
          x.end_is))

      pub scope-no-parts : {y : Refusal} → rest ≡ Err y → ActRead (numbered_scope_in (node_in false depth vars cs s) s handler n at) place n m (Err y) t t₂
      scope-no-parts w = (act-refused place n m _ t t₂ (scope-is ∙ then-refused _ _ (numbers-no (replicate 8 0) 0 n place many.next one.count one.nodes _ b w)))

      module _ (k : FieldFits s one.next 1 9 f) {all : Out} (w : rest ≡ Ok all) where
        read-parts : PartsRead (numbered_in (node_in false depth vars cs s) s many.value (backwards 0 (replicate 8 0)) one.count many.next) (replicate 8 0) 0 n place many.next one.count one.nodes all.next all.count all.nodes t₁ t₂
        read-parts = numbers-got (replicate 8 0) 0 n place many.next one.count one.nodes _ b w

        stand-parts : NumberedStands s many.next many.value read-parts.c all.next
        stand-parts = (numbered-stands s (node_in false depth vars cs s) (node-reads false depth vars cs s) many.value (backwards 0 (replicate 8 0)) one.count many.next).holds read-parts.is

        count-parts : Counted read-parts.c.numbers read-parts.c.parts
        count-parts =
            let v = (field_fits s one.next 1 9 k r).1 in
            record {
              some = omega (arith, stand-parts.many);
              most = omega (arith, stand-parts.many);
              both = omega (arith, stand-parts.many, stand-parts.parts);
            }

        pub scope-whole : (u : List ℕ) → ScopeRoom s vars m place at → n < 256 → u ≡ put_close n all.count all.next t₂
            → ActRead (numbered_scope_in (node_in false depth vars cs s) s handler n at) place n m (out all.next all.count all.nodes one.first one.first) t u
        unfolding sizes nodes_all first_starts own_nodes
        scope-whole u v l z =
            let x = act-got at (n + 1) m _ a o in
            let y = read-parts in
            let p = (node-reads false depth vars cs s handler (n + 1) at).holds x.is in
            let q = (field-stands s 1 9 one.next).holds (field-got _ e r) in
            whole-found _ place n m t u (scope y.c.numbers true) (more x.a y.c.parts) (scope-is ∙ then_found _ _ y.is)
            (omega (arith, y.end_is, x.end_is)) (omega (arith, y.last-is, x.last-is))
            (x.first-is ∙ sym (numbers-start y.c.numbers _ _ count-parts.some))
            (put-scope y.c.numbers x.a y.c.parts place at n m t count-parts v.coded p.ends
            (q.ends ∙ rw stand-parts.many) x.end_is x.last-is x.put_is l y.put_is y.end_is stand-parts.all.ends z)

        pub scope-end : all.count ≤ 256
        scope-end =
            let l = one-numbered false depth vars cs s handler (n + 1) at m a o in
            omega (arith, read-parts.end_is, (parts-numbered (node_in false depth vars cs s) (node-numbered false depth vars cs s) s many.value (backwards 0 (replicate 8 0)) one.count many.next l).holds read-parts.is)

        pub scope-stop : ScopeRoom s vars m place at → all.next ≤ 4096
        scope-stop v =
            let d = (field_fits s one.next 1 9 k r).0 in
            omega (arith, v.base.short, stands-inside stand-parts.all d.inside)

-- What the calls of these functions may count on.
pub scope-next-fits : (n : ℕ) → n < 256 → Fits w64 (n + 1)
scope-next-fits n l = omega arith

module _ (s : List ℕ) (vars n m place at : ℕ) (v : ScopeRoom s vars m place at) where
  module _ (depth : ℕ) (cs : List ℕ) (handler : Bool) {t t₁ : List ℕ} {body : Result Out Refusal} {one : Out}
      (a : ActRead (node_in false depth vars cs s handler (n + 1) at) at (n + 1) m body t t₁) (o : body ≡ Ok one) where
    pub scope-numbers-room : {f : Result Number Refusal} {many : Number} → FieldFits s one.next 1 9 f → f ≡ Ok many → NumbersRoom s vars one.count one.nodes n place many.next
    scope-numbers-room k r =
        let x = act-got at (n + 1) m _ a o in
        let b = one-base false depth vars cs s handler (n + 1) at m a o v.base in
        let d = (field_fits s one.next 1 9 k r).0 in
        record {
          base = record { short = b.short; few = b.few; behind = omega (arith, b.behind, d.forward); placed = omega (arith, b.short, d.inside) };
          numbered = one-numbered false depth vars cs s handler (n + 1) at m a o;
          before = omega (arith, x.end_is);
          placed = omega (arith, v.coded, v.base.placed);
        }

pub scope-numbers-few : (s : List ℕ) (next : ℕ) {f : Result Number Refusal} {many : Number} → FieldFits s next 1 9 f → f ≡ Ok many → 0 + many.value ≤ 8
scope-numbers-few s next k r = omega (arith, (field_fits s next 1 9 k r).1.1)

pub scope-numbers-fall : (s : List ℕ) (next depth t₀ : ℕ) {f : Result Number Refusal} {many : Number} → FieldFits s next 1 9 f → f ≡ Ok many → weigh_scope depth ≡ t₀
    → weigh_parts depth many.value < t₀
scope-numbers-fall s next depth t₀ k r e = omega (arith, (field_fits s next 1 9 k r).1.1, e)

module _ (s : List ℕ) (vars n m row place at : ℕ) (v : NumbersRoom s vars n m row place at) {f : Result Number Refusal} {read : Number} (k : NumberFits s at f) (o : f ≡ Ok read) where
  pub number-base : Base s vars m read.next
  number-base =
      let d = number_fits s at k o in
      let b = v.base in
      record { short = b.short; few = b.few; behind = omega (arith, b.behind, d.forward); placed = omega (arith, b.short, d.inside) }

  pub number-room : (depth : ℕ) (cs : List ℕ) {t t₁ : List ℕ} {part : Result Out Refusal} {one : Out}
      → ActRead (node_in false depth vars cs s true n read.next) read.next n m part t t₁ → part ≡ Ok one → NumbersRoom s vars one.count one.nodes row place one.next
  number-room depth cs a r =
      let x = act-got read.next n m _ a r in
      record {
        base = one-base false depth vars cs s true n read.next m a r number-base;
        numbered = one-numbered false depth vars cs s true n read.next m a r;
        before = omega (arith, x.end_is, v.before);
        placed = v.placed;
      }

-- `activity_at`, of such a scope
module _ (arm : Bool) (depth vars : ℕ) (cs s : List ℕ) (handler : Bool) (n at m : ℕ) (t t₁ : List ℕ) {own : Result code.Own Refusal} {body : ℕ}
    (a : OwnRead (node_head_in arm vars cs s handler depth n at) at n m own t t₁) (o : own ≡ Ok (code.Own.Numbered body)) where
  the-head : node_head_in arm vars cs s handler depth n at ≡ found numbered_head body
  the-head =
      let x = own-numbers _ at n m a o in
      x.is ∙ ap (λ (h : Head). found h body) (numbered-told ((node-noded arm vars cs s handler depth n at).holds x.is).is x.told)

  pub act-scope : (u : List ℕ) {below : ℕ} {r : Result Out Refusal} → below ≡ levels_below arm depth
      → ActRead (numbered_scope_in (node_in false below vars cs s) s handler n body) at n m r t₁ u → ActRead (node_in arm depth vars cs s handler n at) at n m r t u
  act-scope u j b =
      let x = own-numbers _ at n m a o in
      rw (level vars cs s handler n at arm depth the-head) (rw (x.same, j) at b)

  pub scope-numbered : n < 256
  scope-numbered = ((node-noded arm vars cs s handler depth n at).holds the-head).numbered

  pub scope-room : Base s vars m at → ScopeRoom s vars m at body
  scope-room b =
      let e = (node-stands arm vars cs s handler depth n at).holds the-head in
      let f = stands-forward e (omega arith) in
      record {
        base = record { short = b.short; few = b.few; behind = omega (arith, b.behind, f.0); placed = omega (arith, b.short, f.1) };
        coded = e.ends ∙ rw code-long;
      }

  pub scope-falls : (below t₀ : ℕ) → below ≡ levels_below arm depth → weigh arm depth ≡ t₀ → weigh_scope below < t₀
  scope-falls below t₀ e f = rw (e, ← f) (((node-noded arm vars cs s handler depth n at).holds the-head).scoped refl)
