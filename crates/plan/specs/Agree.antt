-- Meaning: whether the receives of a plan agree: document 02, request 8, and refusal 21. Assumes nothing: these are definitions.
use Rattle.std.specs.Prelude.{ℕ, ◌+◌, Bool, true, cond, not, ◌&&◌, ◌||◌, List, [], ◌∷◌, ◌++◌, eqb, length}
use Rattle.plan.specs.Found.{Found, refused}
use Rattle.plan.specs.Spell.{spell, own_numbers, gaps_of, later}
use Rattle.plan.specs.Table.{body_place}
use Rattle.plan.specs.Tree.{Own, empty, send, receive, set, raise, leave, choose, repeat, sequence, flow, pick, scope, arm, kind, partner_from, numbers_of, Act, act, Acts, none, more, Plan, count}

-- what a receive or an arm asks for: its partner, its operation and its count, and the place where that count stands
pub record Asked : Type 0 where
  pub partner : ℕ
  pub operation : ℕ
  pub many : ℕ
  pub place : ℕ

abbrev pub asking : (partner operation many place : ℕ) → Asked
asking partner operation many place = record { partner = partner; operation = operation; many = many; place = place }

-- How places are counted: how many of them an activity or arm takes before those within it, how many its first numbers take, and how many the numbers
-- between those within it take.
pub record Places : Type 0 where
  pub owned : Own → (within : ℕ) → ℕ
  pub passed : List ℕ → ℕ
  pub between : List ℕ → ℕ

-- in the bytes of a plan
unfoldable pub in_bytes : Places
in_bytes = record { owned = λ own within. length (spell (own_numbers own within)); passed = λ ns. length (spell ns); between = λ ns. length (spell ns) }

-- what an activity or arm at `at` asks for by itself; a receive's count stands after its code, its partner and its operation, and an arm has no code
unfoldable pub asked_own : Places → Own → (at : ℕ) → List Asked
asked_own c empty at = []
asked_own c (send p o vs) at = []
asked_own c (receive f o vs) at = asking (partner_from f) o (length vs) (at + c.passed (kind (receive f o vs) ∷ partner_from f ∷ o ∷ [])) ∷ []
asked_own c (set v e) at = []
asked_own c (raise n) at = []
asked_own c leave at = []
asked_own c (choose e) at = []
asked_own c (repeat e) at = []
asked_own c sequence at = []
asked_own c flow at = []
asked_own c pick at = []
asked_own c (scope ns undo) at = []
asked_own c (arm p o vs) at = asking p o (length vs) (at + c.passed (p ∷ o ∷ [])) ∷ []

-- a place after what stands before the next of those within
abbrev pub beyond : Places → List (List ℕ) → (at : ℕ) → ℕ
beyond c [] at = at
beyond c (g ∷ gs) at = at + c.between g

-- how many places an activity takes with all that stands within it
unfoldable mutual
  pub span_of : Places → Act → ℕ
  span_of c (act own l) = c.owned own (count l) + span_all c (gaps_of (numbers_of own)) l

  pub span_all : Places → List (List ℕ) → Acts → ℕ
  span_all c gs none = 0
  span_all c gs (more a l) = beyond c gs (span_of c a) + span_all c (later gs) l

-- what is asked for in an activity at `at`, and in a list of them, in the order of the file
unfoldable mutual
  pub asked_in : Places → Act → (at : ℕ) → List Asked
  asked_in c (act own l) at = asked_own c own at ++ asked_all c (gaps_of (numbers_of own)) l (at + c.owned own (count l))

  pub asked_all : Places → List (List ℕ) → Acts → (at : ℕ) → List Asked
  asked_all c gs none at = []
  asked_all c gs (more a l) at = asked_in c a (beyond c gs at) ++ asked_all c (later gs) l (beyond c gs at + span_of c a)

-- the receives and arms of a plan, whose body is at `at`
abbrev pub asked_from : Places → Plan → (at : ℕ) → List Asked
asked_from c p at = asked_all c [] (more p.body (more p.fault none)) at

unfoldable pub asked : Plan → List Asked
asked p = asked_from in_bytes p (body_place p)

-- "Any two receives or arms of one plan with the same partner and operation must have the same count."
abbrev pub same_pair : (a b : Asked) → Bool
same_pair a b = eqb a.partner b.partner && eqb a.operation b.operation

abbrev pub agrees : (a b : Asked) → Bool
agrees a b = not (same_pair a b) || eqb a.many b.many

-- one agrees with each of the others
unfoldable pub agrees_with : (others : List Asked) → Asked → Bool
agrees_with [] a = true
agrees_with (b ∷ l) a = agrees b a && agrees_with l a

-- each of l agrees with every earlier one; `earlier` are those before l, the latest first
unfoldable pub agree_after : (earlier l : List Asked) → Bool
agree_after earlier [] = true
agree_after earlier (a ∷ l) = agrees_with earlier a && agree_after (a ∷ earlier) l

abbrev pub agree : Plan → Bool
agree p = agree_after [] (asked p)

-- 21: "at the first count in the file that differs from an earlier one for the same pair"; else what was found
unfoldable pub judged : {A : Type 0} → (earlier l : List Asked) → Found A → Found A
judged earlier [] x = x
judged earlier (a ∷ l) x = cond (agrees_with earlier a) (judged (a ∷ earlier) l x) (refused 21 a.place)
