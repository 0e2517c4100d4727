-- Reading goes by its numbers. The bytes o and their shortened form are read alike, place by place, up to the first number that plain reading
-- refuses with 3. Stated over how a number is read, it is one line for each reader of plan/specs/Read. Assumes nothing.
use native.Mathlib.Omega.{arith}
use native.Mathlib.Decide.{dec_lt}
use borrow.Author.Tests.{lt-ltb, le-ltb, le-leb, eqb-true}
use mathlib.Core.Path.{◌≡◌, refl, sym, ap, ◌∙◌}
use mathlib.Core.Bool.{Bool, true, false, cond, not, ◌&&◌, ◌||◌}
use mathlib.Core.List.{List, [], ◌∷◌, ◌++◌}
use Prim.Native.Nat.{ℕ, zero, suc, ◌+◌, ◌-◌, ◌*◌, ◌%◌, ◌≤◌, ◌<◌}
use lib.ListN.{length, get_or, take, drop, length-append, length-drop, take-append-drop}
use lib.Seq.{length-take-le, drop-drop, drop-append_seam}
use lib.Dec.{ltb, leb, eqb}
use Rattle.std.specs.Prelude.{Result, Err}
use Rattle.numbers.specs.declared.Number.{Number}
use Rattle.numbers.specs.declared.Trouble.{Trouble}
use Rattle.numbers.specs.declared.Trouble.TheVariants.{Short, Bad}
use Rattle.numbers.specs.Number.{got, last_group, groups, number_at}
use Rattle.numbers.specs.Shortest.{shortest}
use Rattle.numbers.proofs.Laws.{shortest-is-read, shortest-long}
use Rattle.plan.specs.Found.{Found, refused, found, and_then, found_number, number_in, field_in, among}
use Rattle.plan.specs.Spell.{spell}
use Rattle.plan.specs.Tree.{Exp, Own, to_partner, from_partner, send, receive, set, choose, repeat, sequence, flow, pick, arm, is_pick, Act, Plan, size}
use Rattle.plan.specs.Read.{expression_code_in, leaf_in, expression_in, variables_in, tuple_in, Head, exchange_in, arm_in, partner_in, held_send_in, asking_receive_in, with_expression_in, set_in, list_in, raise_in, namable, fault_number_in, is_code, is_scope_code, code_in, parts_in, head_in, many_in, numbered_in, numbered_scope_in, whole_in, read_arm, later_of, read_act, start_form, correlation_in, version_in, closing, root_in, read_any}
use Rattle.mend.specs.Padded.{groups_at, padded_at, numbers_from, numbers_of, shortened, place_from, place_of, last_place, no_number, original}
use Rattle.mend.proofs.PaddedLaws.{next-below, padded-bounds}
use Rattle.mend.proofs.RunReturns.{None, trouble, none-as, end_none, numbers-none, spell-some, place_none, place-there, place-further, Left, left_over}
use Rattle.mend.proofs.RunLaws.{shortened-fits}

-- What plain reading makes of a number, and what padded reading does: the same, unless plain reading refuses it with 3.
pub data Pair : Result Number Trouble → Result Number Trouble → Type 0 where
  plain : {v next : ℕ} → Pair (got v next) (got v next)
  cut : Pair (Err Short) (Err Short)
  three : {y : Result Number Trouble} → Pair (Err Bad) y

pair-cond : (t : Bool) {x y v w : Result Number Trouble} → (t ≡ true → Pair x y) → (t ≡ false → Pair v w) → Pair (cond t x v) (cond t y w)
pair-cond true f g = f refl
pair-cond false f g = g refl

pair-cond-one : (t : Bool) {x v y : Result Number Trouble} → (t ≡ true → Pair x y) → (t ≡ false → Pair v y) → Pair (cond t x v) y
pair-cond-one true f g = f refl
pair-cond-one false f g = g refl

pair-last : (b scale sum next : ℕ) → sum < scale → Pair (last_group b scale (sum + b % 128 * scale) next) (got (sum + b % 128 * scale) next)
unfolding last_group
pair-last b scale sum next h =
    pair-cond-one (eqb b 0)
    (λ z. pair-cond-one (eqb scale 1)
    (λ o. let e : sum + b % 128 * scale ≡ 0 = nought (eqb-true b 0 z) (eqb-true scale 1 o) in rw e plain)
    (λ o. three))
    (λ z. plain)
  where
    nought : b ≡ 0 → scale ≡ 1 → sum + b % 128 * scale ≡ 0
    nought z o = rw (z, o) (omega arith)

pair-groups : (k j : ℕ) (s : List ℕ) (at scale sum : ℕ) → k ≤ j → sum < scale → Pair (groups k s at scale sum) (groups_at j s at scale sum)
unfolding groups groups_at
pair-groups zero j s at scale sum l h = three
pair-groups (suc k) zero s at scale sum l h = absurd (omega arith)
pair-groups (suc k) (suc j) s at scale sum l h =
    pair-cond (leb (length s) at) (λ t. cut)
    (λ t. pair-cond (ltb 4294967295 (sum + get_or s at 0 % 128 * scale)) (λ u. three)
    (λ u. pair-cond (ltb (get_or s at 0) 128) (λ w. pair-last (get_or s at 0) scale sum (at + 1) h)
    (λ w. pair-groups k j s (at + 1) (scale * 128) (sum + get_or s at 0 % 128 * scale) (omega arith) (next-below sum (get_or s at 0) scale h))))

pub pair : (s : List ℕ) (at : ℕ) → Pair (number_at s at) (padded_at s at)
unfolding number_at padded_at
pair s at = pair-groups 5 10 s at 1 0 (omega arith) (omega arith)

-- a number in shortest form, at the place where its spelling starts
pub number-there : (t r : List ℕ) (at v : ℕ) → at ≤ length t → drop at t ≡ shortest v ++ r → v ≤ 4294967295 → number_at t at ≡ got v (at + length (shortest v))
number-there t r at v i e h =
    let l : length (take at t) ≡ at = length-take-le at t i in
    let w : take at t ++ (shortest v ++ r) ≡ t = rw (← e) (take-append-drop at t) in
    rw (l, w) at (shortest-is-read (take at t) r v h)

-- Place q of the shortened bytes of o stands for `at`: the numbers from there on are those from `at` on.
pub record Stands (o : List ℕ) (at q : ℕ) : Type 0 where
  pub left : ℕ
  pub enough : length o ≤ at + left
  pub inside : at ≤ length o
  pub within : q ≤ length (shortened o)
  pub there : drop q (shortened o) ≡ spell (numbers_from left o at)
  pub same : (i : ℕ) → q ≤ i → place_of o i ≡ place_from left o at q i

pub stands-start : (o : List ℕ) → Stands o 0 0
unfolding place_of shortened numbers_of
stands-start o = record { left = length o; enough = omega arith; inside = omega arith; within = omega arith; there = refl; same = λ i h. refl }

pub start_left : (o : List ℕ) → (stands-start o).left ≡ length o
unfolding stands-start
start_left o = refl

module _ {o : List ℕ} {at q : ℕ} (r : Stands o at q) where
  pub stands-place : place_of o q ≡ at
  stands-place = r.same q (omega arith) ∙ place-there r.left o at q q (omega arith)

  -- where there is no number the shortened bytes end
  pub stands-none : None (padded_at o at) → (length (shortened o) ≡ q) × (last_place o ≡ at)
  unfolding spell last_place
  stands-none h =
      let e : drop q (shortened o) ≡ [] = r.there ∙ rw (numbers-none r.left o at h) in
      let l : length (shortened o) - q ≡ 0 = simp length-drop at (ap length e) in
      (omega (arith, r.within), r.same (length (shortened o)) r.within ∙ place_none r.left o at q (length (shortened o)) h)

  module _ {v next : ℕ} (e : padded_at o at ≡ got v next) where
    pub over : Left o at v next r.left
    over = left_over o at v next r.left e r.enough

    pub spelled-there : drop q (shortened o) ≡ shortest v ++ spell (numbers_from over.rest o next)
    spelled-there = r.there ∙ ap (λ k. spell (numbers_from k o at)) over.is ∙ spell-some over.rest o at e

    room : q + length (shortest v) ≤ length (shortened o)
    room =
        let l : length (shortened o) - q ≡ length (shortest v) + length (spell (numbers_from over.rest o next)) =
        simp (length-drop, length-append) at (ap length spelled-there) in
        omega (arith, r.within, (shortest-long v).0)

    pub stands-number : number_at (shortened o) q ≡ got v (q + length (shortest v))
    stands-number = number-there (shortened o) _ q v r.within spelled-there (padded-bounds o at e).small

    pub stands-next : Stands o next (q + length (shortest v))
    stands-next = record {
      left = over.rest;
      enough = over.enough;
      inside = (padded-bounds o at e).inside;
      within = room;
      there = sym (drop-drop (length (shortest v)) q (shortened o)) ∙ rw spelled-there (drop-append_seam (shortest v) (spell (numbers_from over.rest o next)));
      same = λ i h.
          r.same i (omega arith) ∙ ap (λ k. place_from k o at q i) over.is
          ∙ place-further over.rest o at q i (omega (arith, h, (shortest-long v).0)) e;
    }

    pub stands-left : stands-next.left ≡ over.rest
    unfolding stands-next
    stands-left = refl

-- What plain reading makes of o, and what it makes of the shortened bytes.
data Goes (o : List ℕ) {A : Type 0} : Found A → Found A → Type 0 where
  same : {a : A} {next q : ℕ} → Stands o next q → Goes o (found a next) (found a q)
  stopped : {place : ℕ} {y : Found A} → Goes o (refused 3 place) y
  told : {n p m q : ℕ} → original o (refused m q) ≡ refused n p → Goes o (refused n p) (refused m q)

module _ {o : List ℕ} where
  goes_then : {A B : Type 0} {x y : Found A} {f g : A → ℕ → Found B} → Goes o x y
      → ((a : A) (next q : ℕ) → Stands o next q → Goes o (f a next) (g a q)) → Goes o (and_then x f) (and_then y g)
  goes_then (same r) k = k _ _ _ r
  goes_then stopped k = stopped
  goes_then (told e) k = told e

  goes-cond : {A : Type 0} (t : Bool) {x y v w : Found A} → Goes o x y → Goes o v w → Goes o (cond t x v) (cond t y w)
  goes-cond true f g = f
  goes-cond false f g = g

  -- a refusal at a number
  kept : {A : Type 0} {number at q : ℕ} → eqb number 2 ≡ false → (eqb number 7 || eqb number 21) ≡ false → Stands o at q → Goes o {A = A} (refused number at) (refused number q)
  unfolding original
  kept {number = n} {at} {q} i j r =
      let e : original o (refused n q) ≡ refused n at = rw (i, j) (ap (refused n) (stands-place r)) in
      told e

short-there : (t : List ℕ) (i : ℕ) → length t ≤ i → number_at t i ≡ Err Short
unfolding number_at groups
short-there t i h = simp (le-leb (length t) i h)

-- the numbers at one place
number-as : (o : List ℕ) {at q : ℕ} → Stands o at q → (x y : Result Number Trouble) → padded_at o at ≡ y → Pair x y
    → Goes o (found_number o at x) (number_in (shortened o) q)
unfolding number_in original
number-as o r _ _ f plain = rw (stands-number r f) (same (stands-next r f))
number-as o r _ _ f three = stopped
number-as o {at} {q} r _ _ f cut =
    let (l, z) = stands-none r (none-as trouble (sym f)) in
    let i : number_at (shortened o) q ≡ Err Short = short-there (shortened o) q (omega arith) in
    let k : no_number o (last_place o) (padded_at o (last_place o)) ≡ refused 2 (length o) = rw (z, f) in
    rw i (told k)

module _ (o : List ℕ) where
  number : {at q : ℕ} → Stands o at q → Goes o (number_in o at) (number_in (shortened o) q)
  unfolding number_in
  number {at} r = number-as o r (number_at o at) (padded_at o at) refl (pair o at)

  field : (least limit : ℕ) {at q : ℕ} → Stands o at q → Goes o (field_in o least limit at) (field_in (shortened o) least limit q)
  unfolding field_in
  field least limit r = goes_then (number r) (λ value next p m. goes-cond (ltb value least || leb limit value) (kept refl refl r) (same m))

  expression-code : {at q : ℕ} → Stands o at q → Goes o (expression_code_in o at) (expression_code_in (shortened o) q)
  unfolding expression_code_in
  expression-code r = goes_then (number r) (λ code next p m. goes-cond (ltb 5 code) (kept refl refl r) (same m))

  leaf : (vars code : ℕ) {at q : ℕ} → Stands o at q → Goes o (leaf_in vars o code at) (leaf_in vars (shortened o) code q)
  unfolding leaf_in
  leaf vars code r =
      goes-cond (eqb code 0) (goes_then (number r) (λ value next p m. same m)) (goes_then (field 0 vars r) (λ number next p m. same m))

  expression : (depth vars : ℕ) {at q : ℕ} → Stands o at q → Goes o (expression_in depth vars o at) (expression_in depth vars (shortened o) q)
  unfolding expression_in
  expression zero vars r = goes_then (expression-code r) (λ code next p m. kept refl refl r)
  expression (suc depth) vars r =
      goes_then (expression-code r) (λ code next p m.
      goes-cond (ltb code 2) (leaf vars code m)
      (goes_then (expression depth vars m) (λ left i j k.
      goes_then (expression depth vars k) (λ right u v w. same w))))

  variables : (vars : ℕ) (once : Bool) (left : ℕ) (read : List ℕ) {at q : ℕ} → Stands o at q
      → Goes o (variables_in vars once o left read at) (variables_in vars once (shortened o) left read q)
  unfolding variables_in
  variables vars once zero read r = same r
  variables vars once (suc left) read r =
      goes_then (field 0 vars r) (λ v next p m.
      goes-cond (once && among v read) (kept refl refl r) (variables vars once left (read ++ (v ∷ [])) m))

  tuple : (vars : ℕ) (once : Bool) {at q : ℕ} → Stands o at q → Goes o (tuple_in vars once o at) (tuple_in vars once (shortened o) q)
  unfolding tuple_in
  tuple vars once r = goes_then (field 1 5 r) (λ count next p m. variables vars once count [] m)

  exchange : (vars : ℕ) (once : Bool) (own : ℕ → List ℕ → Own) (within : ℕ) {at q : ℕ} → Stands o at q
      → Goes o (exchange_in vars once o own within at) (exchange_in vars once (shortened o) own within q)
  unfolding exchange_in
  exchange vars once own within r =
      goes_then (field 0 64 r) (λ operation next p m. goes_then (tuple vars once m) (λ variables i j k. same k))

  in-arm : (vars n : ℕ) {at q : ℕ} → Stands o at q → Goes o (arm_in vars o n at) (arm_in vars (shortened o) n q)
  unfolding arm_in
  in-arm vars n r =
      goes_then (field 0 64 r) (λ partner next p m. goes-cond (leb 256 n) (kept refl refl r) (exchange vars true (arm partner) 1 m))

  partner : (vars : ℕ) (once : Bool) (own : ℕ → ℕ → List ℕ → Own) {at q : ℕ} → Stands o at q
      → Goes o (partner_in vars once o own at) (partner_in vars once (shortened o) own q)
  unfolding partner_in
  partner vars once own r = goes_then (field 0 64 r) (λ number next p m. exchange vars once (own number) 0 m)

  in-held-send : (vars : ℕ) {at q : ℕ} → Stands o at q → Goes o (held_send_in vars o at) (held_send_in vars (shortened o) q)
  unfolding held_send_in
  in-held-send vars r =
      goes_then (field 0 vars r) (λ v next p m.
      goes_then (field 0 64 m) (λ operation i j k.
      goes_then (tuple vars false k) (λ variables x y z.
      goes_then (field 0 64 z) (λ reply a b c. same c))))

  in-asking-receive : (vars : ℕ) (cs : List ℕ) {at q : ℕ} → Stands o at q → Goes o (asking_receive_in vars cs o at) (asking_receive_in vars cs (shortened o) q)
  unfolding asking_receive_in
  in-asking-receive vars cs r =
      goes_then (field 0 64 r) (λ partner next p m.
      goes_then (field 0 64 m) (λ operation i j k.
      goes_then (tuple vars true k) (λ variables x y z.
      goes_then (field 0 vars z) (λ v a b c.
      goes-cond (among v cs || among v variables) (kept refl refl z) (same c)))))

  with-expression : (vars : ℕ) (own : Exp → Own) (within : ℕ) {at q : ℕ} → Stands o at q
      → Goes o (with_expression_in vars o own within at) (with_expression_in vars (shortened o) own within q)
  unfolding with_expression_in
  with-expression vars own within r = goes_then (expression 8 vars r) (λ e next p m. same m)

  in-set : (vars : ℕ) (cs : List ℕ) {at q : ℕ} → Stands o at q → Goes o (set_in vars cs o at) (set_in vars cs (shortened o) q)
  unfolding set_in
  in-set vars cs r =
      goes_then (field 0 vars r) (λ v next p m. goes-cond (among v cs) (kept refl refl r) (with-expression vars (set v) 0 m))

  list : (own : Own) (limit : ℕ) {at q : ℕ} → Stands o at q → Goes o (list_in o own limit at) (list_in (shortened o) own limit q)
  unfolding list_in
  list own limit r = goes_then (field 1 limit r) (λ count next p m. same m)

  in-raise : {at q : ℕ} → Stands o at q → Goes o (raise_in o at) (raise_in (shortened o) q)
  unfolding raise_in
  in-raise r = goes_then (field 16 256 r) (λ n next p m. same m)

  code : (handler : Bool) (depth n : ℕ) {at q : ℕ} → Stands o at q → Goes o (code_in o handler depth n at) (code_in (shortened o) handler depth n q)
  unfolding code_in
  code handler depth n r =
      goes_then (number r) (λ c next p m.
      goes-cond (not (is_code c)) (kept refl refl r)
      (goes-cond (handler && is_scope_code c) (kept refl refl r)
      (goes-cond (eqb depth 0 || leb 256 n) (kept refl refl r) (same m))))

  parts : (vars : ℕ) (cs : List ℕ) (c : ℕ) {at q : ℕ} → Stands o at q → Goes o (parts_in vars cs o c at) (parts_in vars cs (shortened o) c q)
  unfolding parts_in
  parts vars cs c r =
      goes-cond (eqb c 0) (same r)
      (goes-cond (eqb c 1) (partner vars false (λ p. send (to_partner p)) r)
      (goes-cond (eqb c 2) (partner vars true (λ p. receive (from_partner p)) r)
      (goes-cond (eqb c 3) (in-set vars cs r)
      (goes-cond (eqb c 4) (same r)
      (goes-cond (eqb c 5) (same r)
      (goes-cond (eqb c 6) (with-expression vars choose 2 r)
      (goes-cond (eqb c 7) (with-expression vars repeat 1 r)
      (goes-cond (eqb c 8) (list sequence 33 r)
      (goes-cond (eqb c 9) (list flow 33 r)
      (goes-cond (eqb c 10) (list pick 9 r)
      (goes-cond (eqb c 11) (same r)
      (goes-cond (eqb c 12) (same r)
      (goes-cond (eqb c 13) (in-raise r)
      (goes-cond (eqb c 14) (same r)
      (goes-cond (eqb c 17) (in-held-send vars r)
      (in-asking-receive vars cs r))))))))))))))))

  in_head : (vars : ℕ) (cs : List ℕ) (handler : Bool) (depth n : ℕ) {at q : ℕ} → Stands o at q
      → Goes o (head_in vars cs o handler depth n at) (head_in vars cs (shortened o) handler depth n q)
  unfolding head_in
  in_head vars cs handler depth n r = goes_then (code handler depth n r) (λ c next p m. parts vars cs c m)

  -- two readers of one activity or arm read alike
  abbrev Ones : (one two : Bool → ℕ → ℕ → Found Act) → Type 0
  Ones one two = (handler : Bool) (n at q : ℕ) → Stands o at q → Goes o (one handler n at) (two handler n q)

  many : {one two : Bool → ℕ → ℕ → Found Act} → Ones one two → (handler later : Bool) (left n : ℕ) {at q : ℕ} → Stands o at q
      → Goes o (many_in one handler later left n at) (many_in two handler later left n q)
  unfolding many_in
  many ones handler later zero n r = same r
  many ones handler later (suc left) n {at} {q} r =
      goes_then (ones handler n at q r) (λ a next p m.
      goes_then (many ones later later left (n + size a) m) (λ rest i j k. same k))

  fault-number : (read : List ℕ) {at q : ℕ} → Stands o at q → Goes o (fault_number_in o read at) (fault_number_in (shortened o) read q)
  unfolding fault_number_in
  fault-number read r = goes_then (number r) (λ x next p m. goes-cond (namable x && not (among x read)) (same m) (kept refl refl r))

  by_number : {one two : Bool → ℕ → ℕ → Found Act} → Ones one two → (left : ℕ) (read : List ℕ) (n : ℕ) {at q : ℕ} → Stands o at q
      → Goes o (numbered_in one o left read n at) (numbered_in two (shortened o) left read n q)
  unfolding numbered_in
  by_number ones zero read n r = goes_then (many ones true true 2 n r) (λ l next p m. same m)
  by_number ones (suc left) read n r =
      goes_then (fault-number read r) (λ x i j k.
      goes_then (ones true n i j k) (λ a u v w.
      goes_then (by_number ones left (x ∷ read) (n + size a) w) (λ c next p m. same m)))

  numbered-scope : {one two : Bool → ℕ → ℕ → Found Act} → Ones one two → (handler : Bool) (n : ℕ) {at q : ℕ} → Stands o at q
      → Goes o (numbered_scope_in one o handler n at) (numbered_scope_in two (shortened o) handler n q)
  unfolding numbered_scope_in
  numbered-scope ones handler n {at} {q} r =
      goes_then (ones handler (n + 1) at q r) (λ body i j k.
      goes_then (field 1 9 k) (λ count u v w.
      goes_then (by_number ones count [] (n + 1 + size body) w) (λ c next p m. same m)))

  whole : {one two : Bool → ℕ → ℕ → Found Act} → Ones one two → (handler later : Bool) (n : ℕ) (h : Head) {at q : ℕ} → Stands o at q
      → Goes o (whole_in one o handler later n h at) (whole_in two (shortened o) handler later n h q)
  whole ones handler later n h r =
      goes-cond h.numbered (numbered-scope ones handler n r) (goes_then (many ones handler later h.within (n + 1) r) (λ rest next p m. same m))

  one_arm : {one two : Bool → ℕ → ℕ → Found Act} → Ones one two → (vars : ℕ) → Ones (read_arm one vars o) (read_arm two vars (shortened o))
  unfolding read_arm
  one_arm ones vars handler n at q r = goes_then (in-arm vars n r) (λ h next p m. whole ones handler handler n h m)

  reads : {one two : Bool → ℕ → ℕ → Found Act} → Ones one two → (vars : ℕ) (t : Bool)
      → Ones (cond t (read_arm one vars o) one) (cond t (read_arm two vars (shortened o)) two)
  reads ones vars true = one_arm ones vars
  reads ones vars false = ones

  activity : (depth vars : ℕ) (cs : List ℕ) → Ones (read_act depth vars cs o) (read_act depth vars cs (shortened o))
  unfolding read_act
  activity zero vars cs handler n at q r = goes_then (in_head vars cs handler 0 n r) (λ h next p m. kept refl refl r)
  activity (suc depth) vars cs handler n at q r =
      goes_then (in_head vars cs handler (suc depth) n r) (λ h next p m.
      whole (reads (activity depth vars cs) vars (is_pick h.own)) handler (later_of h.own handler) n h m)

  correlation : (vars left least : ℕ) (read : List ℕ) {at q : ℕ} → Stands o at q
      → Goes o (correlation_in vars o left least read at) (correlation_in vars (shortened o) left least read q)
  unfolding correlation_in
  correlation vars zero least read r = same r
  correlation vars (suc left) least read r =
      goes_then (field least vars r) (λ v next p m. correlation vars left (v + 1) (read ++ (v ∷ [])) m)

  version : Goes o (version_in o) (version_in (shortened o))
  unfolding version_in
  version =
      goes_then (number (stands-start o)) (λ v next p m. goes-cond (eqb v 1) (same m) (kept refl refl (stands-start o)))

  -- the end of a plan
  module _ (p : Plan) {body b next q : ℕ} (c : Stands o body b) (r : Stands o next q) where
    more_left : q < length (shortened o) → next < length o
    more_left h =
        elim (dec_lt next (length o)) [ yes l ↦ l | no l ↦ absurd (omega (arith, (stands-none r (end_none o next (omega (arith, l)))).0)) ]

    last-is : length (shortened o) ≤ q → last_place o ≡ next
    unfolding last_place
    last-is h = let e : length (shortened o) ≡ q = omega (arith, r.within) in rw e (stands-place r)

    bytes_after : q < length (shortened o) → original o (closing (shortened o) p b q) ≡ closing o p body next
    unfolding original
    bytes_after h =
        rw (lt-ltb q (length (shortened o)) h, lt-ltb next (length o) (more_left h)) (ap (refused 9) (stands-place r))

    nothing-after : (start : Bool) → length (shortened o) ≤ q → original o (cond start (found p q) (refused 7 b))
        ≡ cond (ltb next (length o)) (refused 9 next) (cond start (found p next) (refused 7 body))
    unfolding original
    nothing-after start h =
        elim (dec_lt next (length o)) [
          | yes l ↦ rw (lt-ltb next (length o) l) (after start (lt-ltb next (length o) l))
          | no l ↦ rw (le-ltb next (length o) (omega (arith, l))) (at-end start (le-ltb next (length o) (omega (arith, l))) (omega (arith, l, r.inside)))
        ]
      where
        after : (start : Bool) → ltb next (length o) ≡ true → original o (cond start (found p q) (refused 7 b)) ≡ refused 9 next
        after true e = rw (last-is h, e)
        after false e = rw (last-is h, e)

        at-end : (start : Bool) → ltb next (length o) ≡ false → next ≡ length o
            → original o (cond start (found p q) (refused 7 b)) ≡ cond start (found p next) (refused 7 body)
        at-end true e i = rw (last-is h, e) (ap (found p) (sym i))
        at-end false e i = rw (last-is h, e) (ap (refused 7) (stands-place c))

    closing-kept : original o (closing (shortened o) p b q) ≡ closing o p body next
    closing-kept =
        elim (dec_lt q (length (shortened o))) [
          | yes h ↦ bytes_after h
          | no h ↦ rw (le-ltb q (length (shortened o)) (omega (arith, h))) (nothing-after (start_form p.body) (omega (arith, h)))
        ]

-- What plain reading makes of a whole plan, and what it makes of its shortened bytes.
pub data Ends (o : List ℕ) : Found Plan → Found Plan → Type 0 where
  three : {place : ℕ} {y : Found Plan} → Ends o (refused 3 place) y
  alike : {x y : Found Plan} → original o y ≡ x → Ends o x y

ends-then : {o : List ℕ} {A : Type 0} {x y : Found A} {f g : A → ℕ → Found Plan} → Goes o x y
    → ((a : A) (next q : ℕ) → Stands o next q → Ends o (f a next) (g a q)) → Ends o (and_then x f) (and_then y g)
ends-then (same r) k = k _ _ _ r
ends-then stopped k = three
ends-then (told e) k = alike e

root : (o : List ℕ) (vars : ℕ) (cs : List ℕ) {at q : ℕ} → Stands o at q → Ends o (root_in vars cs o at) (root_in vars cs (shortened o) q)
unfolding root_in
root o vars cs {at} {q} r =
    ends-then (activity o 16 vars cs false 0 at q r) (λ body i j m.
    ends-then (activity o 16 vars cs true (size body) i j m) (λ fault u v w. alike (closing-kept o _ r w)))

pub any-ends : (o : List ℕ) → length o ≤ 4096 → Ends o (read_any o) (read_any (shortened o))
unfolding read_any
any-ends o l =
    rw (le-ltb 4096 (length o) l, le-ltb 4096 (length (shortened o)) (omega (arith, shortened-fits o)))
    (ends-then (version o) (λ number i j a.
    ends-then (field o 1 17 a) (λ vars k m b.
    ends-then (field o 0 (vars + 1) b) (λ count u v c.
    ends-then (correlation o vars count 0 [] c) (λ cs x y d. root o vars cs d)))))
