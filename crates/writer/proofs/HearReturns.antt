-- What is heard by the functions that check rows. Assumes nothing.
use borrow.Author.Tests.{eq-eqb}
use native.Mathlib.Omega.{arith}
use mathlib.Core.Path.{◌≡◌, refl, sym, ap, ◌∙◌}
use mathlib.Core.Bool.{Bool, true, false, ◌||◌}
use mathlib.Core.List.{List, [], ◌∷◌, ◌++◌}
use Prim.Native.Nat.{ℕ, ◌+◌, ◌-◌, ◌*◌, ◌/◌, ◌≤◌, ◌<◌}
use lib.Dec.{eqb, ltb, leb}
use lib.ListN.{length}
use Rattle.plan.specs.Agree.{asked_own, span_of, asked_in, asked_all, asked_from, judged}
use Rattle.plan.specs.Found.{Found, refused, found, and_then}
use Rattle.plan.specs.Heard.{Noted, noted, blank_heard, heard_all, differing}
use Rattle.plan.specs.Read.{Head, is_scope_code, many_in, Numbered, also_numbered}
use Rattle.plan.specs.Spell.{gaps_of}
use Rattle.plan.specs.Tree.{Own, scope, kind, numbers_of, Act, act, Acts, none, more, Plan, count}
use Rattle.plan.specs.Within.{levels_below}
use Rattle.plan.proofs.Finds.{Finds, finds-refused, finds-itself, finds-found, finds-cond, finds-then, finds-so}
use Rattle.plan.proofs.HearReturns.{heard-append}
use Rattle.plan.proofs.Hears.{judged-by}
use Rattle.plan.proofs.Hears as hears
use Rattle.plan.proofs.OneNumber.{then_found}
use Rattle.plan.proofs.RowsAsked.{fit_all}
use Rattle.plan.proofs.Stands.{HeadIs, plain, numbered, many-count}
use Rattle.std.specs.Prelude.{Result, Ok, Err}
use Rattle.std.specs.Result.{IsErr}
use Rattle.plan.specs.declared.Refusal.{Refusal}
use Rattle.writer.specs.declared.Field.{Field}
use Rattle.writer.specs.declared.Out.{Out}
use Rattle.writer.specs.declared.Own as code
use Rattle.writer.specs.Reading.{cell, tuple, row_in, exchange_fits, arm_at, parts_fit, parts_at, head_at, node_head_at, count_at, fault_number_at, numbered_at, numbered_scope_at, node_at, root_at, head_fits, plan_at, in_rows, row_asks, agreed_at}
use Rattle.writer.specs.Rows.{own_rows, alone, act_rows}
use Rattle.writer.specs.Written.{result_for, field_for, step_of, step_for, own_for, out_for, out_all_for, out_numbered_for, HeardAct, HeardActs, HeardNumbered, HeardPlan, ActHears, ActsHear, NumberedHears, PlanHears}
use Rattle.writer.proofs.Lines.{Stands, stands-ends}
use Rattle.writer.proofs.OwnReturns.{row-finds, code-finds, head-is, arm_plain}
use Rattle.writer.proofs.Told.{Told, told-found, field_is}
use Rattle.writer.proofs.RootReturns as root
use Rattle.writer.proofs.RowStands.{count-stands, number-stands, node-numbered, node-stands, node-head-stands}
use Rattle.writer.proofs.RowsAsk.{own-asked, span-rows, plan-asks}
use Rattle.writer.proofs.TreeReturns.{acts-got, said, inside, first_read, opened, scope-inside, body-read, count-opened, parts-got, last-read, last-is, part-read, parts-opened}

-- of what is refused nothing is to be heard
module _ (r : ℕ) (s u : Noted) {x : Result Out Refusal} where
  pub act-silent : (n : ℕ) (g : Found Act) → x ≡ out_for n g → IsErr x → ActHears g r s u
  unfolding result_for HeardAct
  act-silent n (refused k p) e w = record { heard = tt }
  act-silent n (found a q) e w = let z : ◌≡◌ {A = Bool} false true = rw e at w in cc

  pub acts-silent : (n : ℕ) (g : Found Acts) → x ≡ out_all_for n g → IsErr x → ActsHear g r s u
  unfolding result_for HeardActs
  acts-silent n (refused k p) e w = record { heard = tt }
  acts-silent n (found a q) e w = let z : ◌≡◌ {A = Bool} false true = rw e at w in cc

  pub parts-silent : (n : ℕ) (g : Found Numbered) → x ≡ out_numbered_for n g → IsErr x → NumberedHears g r s u
  unfolding result_for HeardNumbered
  parts-silent n (refused k p) e w = record { heard = tt }
  parts-silent n (found a q) e w = let z : ◌≡◌ {A = Bool} false true = rw e at w in cc

module _ (r : ℕ) (s u : Noted) where
  pub plan-silent : {x : Result ℕ Refusal} (g : Found Plan) → x ≡ step_for g → IsErr x → PlanHears g r s u
  unfolding result_for HeardPlan
  plan-silent (refused k p) e w = record { heard = tt }
  plan-silent (found a q) e w = let z : ◌≡◌ {A = Bool} false true = rw e at w in cc

  pub plan-refused : {e : Refusal} (g : Found Plan) → Err e ≡ step_for g → PlanHears g r s u
  plan-refused g h = plan-silent g h refl

-- what was heard of what is found
act-heard : (g : Found Act) (r : ℕ) (s u : Noted) {a : Act} {next : ℕ} → g ≡ found a next → ActHears g r s u → u ≡ heard_all (asked_in in_rows a r) s
unfolding HeardAct
act-heard g r s u e h = let w = rw e at h in w.heard

acts-heard : (g : Found Acts) (r : ℕ) (s u : Noted) {l : Acts} {next : ℕ} → g ≡ found l next → ActsHear g r s u → u ≡ heard_all (asked_all in_rows [] l r) s
unfolding HeardActs
acts-heard g r s u e h = let w = rw e at h in w.heard

act-hears : (g : Found Act) (r : ℕ) (s u : Noted) {a : Act} {next : ℕ} → g ≡ found a next → u ≡ heard_all (asked_in in_rows a r) s → ActHears g r s u
unfolding HeardAct
act-hears g r s u e h = rw e (record { heard = h })

acts-hear : (g : Found Acts) (r : ℕ) (s u : Noted) {l : Acts} {next : ℕ} → g ≡ found l next → u ≡ heard_all (asked_all in_rows [] l r) s → ActsHear g r s u
unfolding HeardActs
acts-hear g r s u e h = rw e (record { heard = h })

-- an activity or arm: what it asks for by itself, and then what those within it ask for
whole-heard : (t : List ℕ) (own : Own) (l : Acts) (r k within next : ℕ) (s v u : Noted) → numbers_of own ≡ [] → Stands t r (own_rows own within) next → k ≡ kind own → count l ≡ within
    → v ≡ heard_all (row_asks t r k) s → u ≡ heard_all (asked_all in_rows [] l next) v → u ≡ heard_all (asked_in in_rows (act own l) r) s
unfolding asked_in in_rows gaps_of
whole-heard t own l r k within next s v u n x i c h f =
    let e : next ≡ r + length (own_rows own (count l)) = (stands-ends x).0 ∙ rw c in
    let w : v ≡ heard_all (asked_own in_rows own r) s = h ∙ rw (i, own-asked t r own within x) in
    rw n (f ∙ (rw (w, e) (sym (heard-append (asked_own in_rows own r) (asked_all in_rows [] l (r + length (own_rows own (count l)))) s))))

-- a list: the first of them, and then the others
more-heard : (t : List ℕ) (a : Act) (l : Acts) (r next : ℕ) (s v u : Noted) → Stands t r (act_rows a) next → v ≡ heard_all (asked_in in_rows a r) s
    → u ≡ heard_all (asked_all in_rows [] l next) v → u ≡ heard_all (asked_all in_rows [] (more a l) r) s
unfolding asked_all
more-heard t a l r next s v u x h f =
    let e : next ≡ r + span_of in_rows a = (stands-ends x).0 ∙ rw (span-rows a) in
    f ∙ (rw (h, e) (sym (heard-append (asked_in in_rows a r) (asked_all in_rows [] l (r + span_of in_rows a)) s)))

-- a fault part behind the row of its number, and then the others
part-heard : (t : List ℕ) (x : ℕ) (a : Act) (c : Numbered) (r p next : ℕ) (s v u : Noted) → p ≡ r + 1 → Stands t p (act_rows a) next → v ≡ heard_all (asked_in in_rows a p) s
    → u ≡ heard_all (asked_all in_rows (alone c.numbers) c.parts next) v → u ≡ heard_all (asked_all in_rows (alone (x ∷ c.numbers)) (more a c.parts) r) s
unfolding asked_all in_rows
part-heard t x a c r p next s v u i y h f =
    let e : next ≡ p + span_of in_rows a = (stands-ends y).0 ∙ rw (span-rows a) in
    f ∙ rw (h, e, i) (sym (heard-append (asked_in in_rows a (r + 1)) (asked_all in_rows (alone c.numbers) c.parts (r + 1 + span_of in_rows a)) s))

-- a scope with fault parts by number asks for nothing by itself, and has a row for their count
scope-asked : (numbers : List ℕ) (body : Act) (parts : Acts) (r : ℕ) → 0 < length numbers → count parts ≡ length numbers + 2
    → asked_in in_rows (act (scope numbers true) (more body parts)) r ≡ asked_in in_rows body (r + 1) ++ asked_all in_rows (alone numbers) parts (r + 1 + span_of in_rows body + 1)
unfolding asked_in asked_own in_rows own_rows gaps_of count
scope-asked [] body parts r h e = absurd (omega arith)
scope-asked (x ∷ l) body none r h e = absurd (omega arith)
scope-asked (x ∷ l) body (more a parts) r h e =
    let i : r + 1 + 0 ≡ r + 1 = omega arith in
    let j : r + 1 + span_of in_rows body + 2 ≡ r + 1 + span_of in_rows body + 1 + 1 = omega arith in
    rw (i, j)

scope-heard : (t : List ℕ) (body : Act) (c : Numbered) (r k next from : ℕ) (s v u : Noted) → 1 ≤ k → length c.numbers ≡ k → count c.parts ≡ k + 2
    → Stands t (r + 1) (act_rows body) next → from ≡ next + 1 → v ≡ heard_all (asked_in in_rows body (r + 1)) s
    → u ≡ heard_all (asked_all in_rows (alone c.numbers) c.parts from) v → u ≡ heard_all (asked_in in_rows (act (scope c.numbers true) (more body c.parts)) r) s
scope-heard t body c r k next from s v u some many parts y i h f =
    let e : next ≡ r + 1 + span_of in_rows body = (stands-ends y).0 ∙ rw (span-rows body) in
    f ∙ rw (scope-asked c.numbers body c.parts r (omega arith) (omega arith), h, i, e)
    (sym (heard-append (asked_in in_rows body (r + 1)) (asked_all in_rows (alone c.numbers) c.parts (r + 1 + span_of in_rows body + 1)) s))

-- of fault parts by number
parts-heard : (g : Found Numbered) (r : ℕ) (s u : Noted) {c : Numbered} {next : ℕ} → g ≡ found c next → NumberedHears g r s u
    → u ≡ heard_all (asked_all in_rows (alone c.numbers) c.parts r) s
unfolding HeardNumbered
parts-heard g r s u e h = let w = rw e at h in w.heard

parts-hear : (g : Found Numbered) (r : ℕ) (s u : Noted) {c : Numbered} {next : ℕ} → g ≡ found c next
    → u ≡ heard_all (asked_all in_rows (alone c.numbers) c.parts r) s → NumberedHears g r s u
unfolding HeardNumbered
parts-hear g r s u e h = rw e (record { heard = h })

-- a row that is read is there
node-there : (arm : Bool) (vars : ℕ) (cs t : List ℕ) (handler : Bool) (depth n r : ℕ) → Finds (λ h next. r < length t / 20) (node_head_at arm vars cs t handler depth n r)
unfolding arm_at head_at
node-there true vars cs t handler depth n r =
    finds-then (row-finds t r) (λ p next w.
    finds-cond (ltb p 64) (λ e.
    finds-cond (leb 256 n) (λ f. finds-refused) (λ f.
    finds-cond (exchange_fits vars true t r 2 0) (λ g. finds-found w.there) (λ g. finds-refused)))
    (λ e. finds-refused))
node-there false vars cs t handler depth n r =
    finds-then (code-finds t handler depth n r) (λ k next c.
    finds-cond (parts_fit vars cs t r k) (λ e. finds-so (finds-itself (parts_at vars t r k next)) (λ h q x. c.row.there)) (λ e. finds-refused))

-- what is no scope with fault parts by number has none
plain-none : {h : Head} → HeadIs h → h.numbered ≡ false → numbers_of h.own ≡ []
plain-none (plain k) e = k.none
plain-none numbered e = refl

node-plain : (arm : Bool) (vars : ℕ) (cs t : List ℕ) (handler : Bool) (depth n r : ℕ) → Finds (λ h next. h.numbered ≡ false → numbers_of h.own ≡ []) (node_head_at arm vars cs t handler depth n r)
node-plain true vars cs t handler depth n r = finds-so (arm_plain vars t n r) (λ h q w e. w.none)
node-plain false vars cs t handler depth n r = finds-so (head-is vars cs t handler depth n r) (λ h q w e. plain-none w e)

-- `activity_at`
module _ (arm : Bool) (depth vars : ℕ) (cs t : List ℕ) (handler : Bool) (n r : ℕ) {own : code.Own}
    (a : Ok own ≡ own_for (node_head_at arm vars cs t handler depth n r)) where
  pub own-there : r < length t / 20
  own-there = let w = told-found _ (node_head_at arm vars cs t handler depth n r) a in (node-there arm vars cs t handler depth n r).holds w.is

  module _ {k within next : ℕ} (o : own ≡ code.Own.Read k within next) {later : Bool} {below : ℕ} (x : later ≡ (is_scope_code k || handler)) (y : below ≡ levels_below arm depth)
      {all : Out} (b : Ok all ≡ out_all_for (n + 1) (many_in (node_at (eqb k 10) below vars cs t) handler later within (n + 1) next)) (s u : Noted) where
    pub one-whole : {v : Noted} → v ≡ heard_all (row_asks t r k) s
        → ActsHear (many_in (node_at (eqb k 10) below vars cs t) handler later within (n + 1) next) next v u
        → ActHears (node_at arm depth vars cs t handler n r) r s u
    one-whole {v} h f =
        let w = said arm depth vars cs t handler n r a o in
        let z = acts-got (n + 1) (many_in (node_at (eqb k 10) below vars cs t) handler later within (n + 1) next) b in
        let c = (many-count (node_at (eqb k 10) below vars cs t) handler later within (n + 1) next).holds z.is in
        act-hears _ r s u (inside arm depth vars cs t handler n r a o x y ∙ then_found _ _ z.is)
        (whole-heard t w.h.own z.l r k w.h.within next s v u ((node-plain arm vars cs t handler depth n r).holds w.is w.told)
        (rw w.told at ((node-head-stands arm vars cs t handler depth n r).holds w.is)) w.same (c ∙ w.many) h
        (acts-heard _ next v u z.is f))

-- `activity_at`, of a scope with fault parts by number
module _ (arm : Bool) (depth vars : ℕ) (cs t : List ℕ) (handler : Bool) (n r : ℕ) {own : code.Own}
    (a : Ok own ≡ own_for (node_head_at arm vars cs t handler depth n r)) (o : own ≡ code.Own.Numbered) where
  pub one-scope : {below : ℕ} → below ≡ levels_below arm depth → {s u : Noted} → ActHears (numbered_scope_at (node_at false below vars cs t) t handler n (r + 1)) r s u
      → ActHears (node_at arm depth vars cs t handler n r) r s u
  one-scope e h = rw (scope-inside arm depth vars cs t handler n r a o e) h

-- `numbered_scope_at`
module _ (depth vars : ℕ) (cs t : List ℕ) (handler : Bool) (n r : ℕ) {body : Out} (o : Ok body ≡ out_for (n + 1) (node_at false depth vars cs t handler (n + 1) (r + 1)))
    {f : Field} (b : Ok f ≡ field_for (count_at t body.next)) {zs : List ℕ} (none-read : zs ≡ []) {rest : Out}
    (d : Ok rest ≡ out_numbered_for body.count (numbered_at (node_at false depth vars cs t) t f.value zs body.count f.next)) where
  pub whole-scope : {s v u : Noted} → ActHears (node_at false depth vars cs t handler (n + 1) (r + 1)) (r + 1) s v
      → NumberedHears (numbered_at (node_at false depth vars cs t) t f.value zs body.count f.next) f.next v u
      → ActHears (numbered_scope_at (node_at false depth vars cs t) t handler n (r + 1)) r s u
  whole-scope {s} {v} {u} h g =
      let x = body-read depth vars cs t handler n r o in
      let y = parts-got body.count (numbered_at (node_at false depth vars cs t) t f.value zs body.count f.next) d in
      let w = (node-numbered depth vars cs t f.value zs body.count f.next).holds y.is in
      let m = (count-stands t body.next).holds (field_is (count_at t body.next) f b) in
      act-hears _ r s u (count-opened depth vars cs t handler n r o b none-read ∙ then_found _ _ y.is)
      (scope-heard t x.a y.c r f.value body.next f.next s v u m.some w.many w.parts ((node-stands false depth vars cs t handler (n + 1) (r + 1)).holds x.is) (stands-ends m.row).0
      (act-heard _ (r + 1) s v x.is h) (parts-heard _ f.next v u y.is g))

-- `numbered_at`
module _ (depth vars : ℕ) (cs t : List ℕ) (left : ℕ) (known : List ℕ) (n r : ℕ) (s u : Noted) where
  pub some-last : (e : left ≡ 0) {last : Out} (o : Ok last ≡ out_all_for n (many_in (node_at false depth vars cs t) true true 2 n r))
      → ActsHear (many_in (node_at false depth vars cs t) true true 2 n r) r s u
      → NumberedHears (numbered_at (node_at false depth vars cs t) t left known n r) r s u
  some-last e o h =
      parts-hear _ r s u (last-is depth vars cs t left known n r e o) (acts-heard _ r s u (last-read depth vars cs t left known n r e o).is h)

  module _ (z : left ≡ 0 → ⊥) {f : Field} (o : Ok f ≡ field_for (fault_number_at t known r)) {part : Out} (b : Ok part ≡ out_for n (node_at false depth vars cs t true n f.next))
      {more-known : List ℕ} (i : more-known ≡ f.value ∷ known) where
    more_parts : (g : Found Numbered) {v : Noted} → numbered_at (node_at false depth vars cs t) t left known n r ≡ and_then g (λ c next. found (also_numbered f.value (part-read depth vars cs t left known n r z o b).a c) next)
        → v ≡ heard_all (asked_in in_rows (part-read depth vars cs t left known n r z o b).a f.next) s → NumberedHears g part.next v u
        → NumberedHears (numbered_at (node_at false depth vars cs t) t left known n r) r s u
    unfolding HeardNumbered
    more_parts (refused number place) e h w = rw e (record { heard = tt })
    more_parts (found c next) {v} e h w =
        let y = part-read depth vars cs t left known n r z o b in
        let m = (number-stands t known r).holds (field_is (fault_number_at t known r) f o) in
        parts-hear _ r s u {c = also_numbered f.value y.a c} e
        (part-heard t f.value y.a c r f.next part.next s v u (stands-ends m.row).0 ((node-stands false depth vars cs t true n f.next).holds y.is) h w.heard)

    pub some_more : {v : Noted} → ActHears (node_at false depth vars cs t true n f.next) f.next s v
        → NumberedHears (numbered_at (node_at false depth vars cs t) t (left - 1) more-known part.count part.next) part.next v u
        → NumberedHears (numbered_at (node_at false depth vars cs t) t left known n r) r s u
    some_more h w =
        let y = part-read depth vars cs t left known n r z o b in
        more_parts _ (parts-opened depth vars cs t left known n r z o b) (act-heard _ f.next s _ y.is h) (rw (i, y.end_is) at w)

-- `activities_at`
module _ (arms : Bool) (depth vars : ℕ) (cs t : List ℕ) (handler later : Bool) (left n r : ℕ) where
  pub all_none : (s : Noted) → left ≡ 0 → ActsHear (many_in (node_at arms depth vars cs t) handler later left n r) r s s
  unfolding many_in HeardActs asked_all heard_all
  all_none s z = rw z (record { heard = refl })

  module _ (z : left ≡ 0 → ⊥) {one : Out} (o : Ok one ≡ out_for n (node_at arms depth vars cs t handler n r)) {rest : Out}
      (b : Ok rest ≡ out_all_for one.count (many_in (node_at arms depth vars cs t) later later (left - 1) one.count one.next)) (s u : Noted) where
    pub all_more : {v : Noted} → ActHears (node_at arms depth vars cs t handler n r) r s v
        → ActsHear (many_in (node_at arms depth vars cs t) later later (left - 1) one.count one.next) one.next v u
        → ActsHear (many_in (node_at arms depth vars cs t) handler later left n r) r s u
    all_more {v} h f =
        let y = acts-got one.count (many_in (node_at arms depth vars cs t) later later (left - 1) one.count one.next) b in
        let x = first_read arms depth vars cs t handler later left n r z o in
        acts-hear _ r s u (opened arms depth vars cs t handler later left n r z o ∙ then_found _ _ y.is)
        (more-heard t x.a y.l r one.next s v u ((node-stands arms depth vars cs t handler n r).holds x.is) (act-heard _ r s v x.is h) (acts-heard _ one.next v u y.is f))

-- `root_at`
module _ (vars : ℕ) (cs t : List ℕ) (r : ℕ) {parts : Out} (a : Ok parts ≡ out_all_for 0 (many_in (node_at false 16 vars cs t) false true 2 0 r)) (s u : Noted) where
  pub root-hears : {b : Bool} (x : b ≡ ltb (parts.next * 20) (length t)) → b ≡ false → parts.first ≡ true → ActsHear (many_in (node_at false 16 vars cs t) false true 2 0 r) r s u → PlanHears (root_at vars cs t r) r s u
  unfolding HeardPlan
  root-hears x y f h =
      let w = root.parted vars cs t r a in
      let z = root.all_read vars cs t r a in
      let e : root_at vars cs t r ≡ found (record { variables = vars; correlation = cs; body = w.a; fault = w.b }) parts.next =
      root.closed vars cs t r a ∙ rw (sym x ∙ y, sym (root.started vars cs t r a) ∙ f) in
      let l : u ≡ heard_all (asked_all in_rows [] (more w.a (more w.b none)) r) s = acts-heard _ r s u z.is h ∙ rw w.all in
      rw e (record { heard = l })

from_row : (g : Found Plan) {r q : ℕ} {s u : Noted} → PlanHears g r s u → r ≡ q → PlanHears g q s u
from_row g h e = rw e at h

-- `plan_at`
module _ (t : List ℕ) {f : Field} (o : Ok f ≡ field_for (row_in t 0)) (n : f.value ≡ 1) {b : Bool} (x : b ≡ head_fits t) (y : b ≡ true) where
  pub plan-hears : {p : ℕ} {cs : List ℕ} → p ≡ cell t 0 2 → cs ≡ tuple t 0 3 → {s u : Noted} → PlanHears (root_at p cs t f.next) f.next s u → PlanHears (plan_at t) 1 s u
  unfolding plan_at
  plan-hears g h {s} {u} z =
      let i : f.next ≡ 1 = ((row-finds t 0).holds (field_is (row_in t 0) f o)).next-is in
      let k : PlanHears (root_at (cell t 0 2) (tuple t 0 3) t f.next) 1 s u = from_row _ (rw (g, h) at z) i in
      rw (field_is (row_in t 0) f o, eq-eqb f.value 1 n, sym x ∙ y) k

-- `agreed_at`
plan-heard : (g : Found Plan) (s u : Noted) {p : Plan} {next : ℕ} → g ≡ found p next → PlanHears g 1 s u → u ≡ heard_all (asked_from in_rows p 1) s
unfolding HeardPlan
plan-heard g s u e h = let w = rw e at h in w.heard

told-by : {d k : ℕ} {y x : Found Plan} → d ≡ k → hears.Told k y x → hears.Told d y x
told-by e h = rw e h

module _ (t : List ℕ) {row : ℕ} (o : Ok row ≡ step_for (plan_at t)) {counts : List ℕ} {first : ℕ} (h : PlanHears (plan_at t) 1 blank_heard (noted counts first)) where
  got : Told step_of (plan_at t) row
  got = told-found step_of (plan_at t) o

  place_is : first ≡ differing (asked_from in_rows got.a 1)
  unfolding differing
  place_is = ap (λ x. x.first) (plan-heard (plan_at t) blank_heard (noted counts first) got.is h)

  told : hears.Told (first) (judged [] (asked_from in_rows got.a 1) (found got.a got.next)) (found got.a got.next)
  told =
      told-by place_is (judged-by (asked_from in_rows got.a 1) (found got.a got.next)
      (fit_all in_rows [] (more got.a.body (more got.a.fault none)) 1 (omega arith) ((plan-asks t).holds got.is)))

  pub agreed-yes : first ≡ 0 → Ok row ≡ step_for (agreed_at t)
  unfolding agreed_at result_for
  agreed-yes z = let f : ℕ → Result ℕ Refusal = λ n. Ok n in ap f got.told ∙ rw (got.is, told.agreed z)

  pub agreed-differs : (first ≡ 0 → ⊥) → Err (record { number = 21; place = first }) ≡ step_for (agreed_at t)
  unfolding agreed_at result_for
  agreed-differs z = rw (got.is, told.differed z)
