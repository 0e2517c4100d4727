-- What is accepted is what is read and agrees: the laws of refusal 21. Assumes nothing.
use borrow.Author.Tests.{eqb-true, eq-eqb}
use native.Mathlib.Omega.{arith}
use mathlib.Core.Path.{◌≡◌, refl, sym}
use mathlib.Core.Bool.{Bool, true, false, cond}
use mathlib.Core.List.{List, [], ◌∷◌}
use Prim.Native.Nat.{ℕ}
use lib.ListN.{length}
use Rattle.plan.specs.Agree.{Asked, asked, agrees, agrees_with, agree_after, agree, judged}
use Rattle.plan.specs.Found.{Found, refused, found, and_then}
use Rattle.plan.specs.Read.{read_any, read_plan}
use Rattle.plan.specs.Spell.{spelling}
use Rattle.plan.specs.Tree.{Plan}
use Rattle.plan.specs.Within.{plan_within}
use Rattle.plan.proofs.Accepts.{both, spelled-is-read}

-- where each agrees with every earlier one, what was found stays
pub judged-agrees : {A : Type 0} (earlier l : List Asked) (x : Found A) → agree_after earlier l ≡ true → judged earlier l x ≡ x
unfolding judged agree_after
judged-agrees earlier [] x h = refl
judged-agrees earlier (a ∷ l) x h = both (agrees_with earlier a) _ h (λ b k. rw b (judged-agrees (a ∷ earlier) l x k))

-- where something is found, each agrees with every earlier one
pub record Agreed {A : Type 0} (earlier l : List Asked) (x : Found A) (a : A) (next : ℕ) : Type 0 where
  pub agreed : agree_after earlier l ≡ true
  pub was : x ≡ found a next

judged-case : {A : Type 0} (b : Bool) (q : ℕ) (x : Found A) {a : A} {next : ℕ} → cond b x (refused 21 q) ≡ found a next → (b ≡ true) × (x ≡ found a next)
judged-case true q x e = (refl, e)
judged-case false q x e = let z : ◌≡◌ {A = ℕ} 0 1 = cc in absurd (omega arith)

pub judged-found : {A : Type 0} (earlier l : List Asked) (x : Found A) {a : A} {next : ℕ} → judged earlier l x ≡ found a next → Agreed earlier l x a next
unfolding judged agree_after
judged-found earlier [] x e = record { agreed = refl; was = e }
judged-found earlier (a ∷ l) x e =
    let w = judged-case (agrees_with earlier a) a.place (judged (a ∷ earlier) l x) e in
    let r = judged-found (a ∷ earlier) l x w.1 in
    record { agreed = rw w.0 r.agreed; was = r.was }

accepted-was : (x : Found Plan) {p : Plan} {next : ℕ} → and_then x (λ q m. judged [] (asked q) (found q m)) ≡ found p next
    → (x ≡ found p next) × (agree p ≡ true)
accepted-was (refused n m) e = let z : ◌≡◌ {A = ℕ} 0 1 = cc in absurd (omega arith)
accepted-was (found q m) {p} e =
    let r = judged-found [] (asked q) (found q m) e in
    let i = r.was in
    let j : q ≡ p = cc in
    (i, rw j at r.agreed)

-- What is accepted is read, and its receives agree.
pub accepted-any : (s : List ℕ) {p : Plan} {next : ℕ} → read_plan s ≡ found p next → read_any s ≡ found p next
unfolding read_plan
accepted-any s e = (accepted-was (read_any s) e).0

pub accepted-agrees : (s : List ℕ) {p : Plan} {next : ℕ} → read_plan s ≡ found p next → agree p ≡ true
unfolding read_plan
accepted-agrees s e = (accepted-was (read_any s) e).1

pub any-agrees : (s : List ℕ) {p : Plan} {next : ℕ} → read_any s ≡ found p next → agree p ≡ true → read_plan s ≡ found p next
unfolding read_plan
any-agrees s {p} {next} e h = rw e (judged-agrees [] (asked p) (found p next) h)

-- The spelling of a plan within the limits whose receives agree is accepted as that plan.
pub spelled-is-accepted : (p : Plan) → plan_within p ≡ true → agree p ≡ true → read_plan (spelling p) ≡ found p (length (spelling p))
spelled-is-accepted p h k = any-agrees (spelling p) (spelled-is-read p h) k

-- "Any two receives or arms of one plan with the same partner and operation must have the same count."

-- one of a list
pub data Among (a : Asked) : List Asked → Type 0 where
  here : {l : List Asked} → Among a (a ∷ l)
  later : {b : Asked} {l : List Asked} → Among a l → Among a (b ∷ l)

agrees-many : (a b : Asked) → agrees a b ≡ true → a.partner ≡ b.partner → a.operation ≡ b.operation → a.many ≡ b.many
agrees-many a b h p o = eqb-true a.many b.many (rw (eq-eqb _ _ p, eq-eqb _ _ o) at h)

with-many : (a b : Asked) {l : List Asked} → agrees_with l a ≡ true → Among b l → b.partner ≡ a.partner → b.operation ≡ a.operation → b.many ≡ a.many
unfolding agrees_with
with-many a b h here p o = both (agrees b a) _ h (λ x y. agrees-many b a x p o)
with-many a b h (later {b = d} m) p o = both (agrees d a) _ h (λ x y. with-many a b y m p o)

-- an earlier one and one of l
across : (a b : Asked) (earlier : List Asked) {l : List Asked} → agree_after earlier l ≡ true → Among a earlier → Among b l
    → a.partner ≡ b.partner → a.operation ≡ b.operation → a.many ≡ b.many
unfolding agree_after
across a b earlier h m here p o = both (agrees_with earlier b) _ h (λ x y. with-many b a x m p o)
across a b earlier h m (later {b = d} n) p o = both (agrees_with earlier d) _ h (λ x y. across a b (d ∷ earlier) y (later m) n p o)

-- two of l
any-two : (a b : Asked) (earlier : List Asked) {l : List Asked} → agree_after earlier l ≡ true → Among a l → Among b l
    → a.partner ≡ b.partner → a.operation ≡ b.operation → a.many ≡ b.many
unfolding agree_after
any-two a b earlier h here here p o = refl
any-two a b earlier h here (later n) p o = both (agrees_with earlier a) _ h (λ x y. across a b (a ∷ earlier) y here n p o)
any-two a b earlier h (later m) here p o = both (agrees_with earlier b) _ h (λ x y. sym (across b a (b ∷ earlier) y here m (sym p) (sym o)))
any-two a b earlier h (later {b = d} m) (later n) p o = both (agrees_with earlier d) _ h (λ x y. any-two a b (d ∷ earlier) y m n p o)

-- Any two receives or arms of an accepted plan with the same partner and operation have the same count.
pub same_count : (s : List ℕ) {p : Plan} {next : ℕ} → read_plan s ≡ found p next → (a b : Asked) → Among a (asked p) → Among b (asked p)
    → a.partner ≡ b.partner → a.operation ≡ b.operation → a.many ≡ b.many
same_count s e a b m n p o = any-two a b [] (accepted-agrees s e) m n p o
