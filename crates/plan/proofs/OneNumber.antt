-- What the code's answers say of what the definitions find, and the returns of the functions that read one number. Assumes nothing.
use mathlib.Core.Path.{◌≡◌, sym}
use mathlib.Core.Logic.{◌⊎◌, inl, inr}
use mathlib.Core.List.{List}
use Prim.Native.Nat.{ℕ, ◌<◌, ◌≤◌}
use native.Mathlib.Omega.{arith}
use borrow.Author.Tests.{lt-ltb, le-ltb, le-leb, lt-leb}
use lib.ListN.{length}
use Rattle.std.specs.Prelude.{Err, IsErrAnd, Ok, Result}
use Rattle.numbers.specs.Number.{number_at}
use Rattle.numbers.specs.declared.Trouble.TheVariants.{Short, Bad}
use Rattle.numbers.proofs.Laws.{value-bounds}
use Rattle.numbers.specs.declared.Number.{Number}
use Rattle.plan.specs.declared.Refusal.{Refusal}
use Rattle.plan.specs.Answers.{refusal, field_of}
use Rattle.plan.specs.Fits.{Ahead, NumberFits, FieldFits}
use Rattle.plan.specs.Found.{Found, refused, found, and_then, number_in, field_in}

-- what the exit of a `?` returns
pub returned : {T E : Type 0} {r : Result T E} {e : E} → IsErrAnd r (λ x. x ≡ e) → r ≡ Err e
returned {r = Ok x} a = absurd a
returned {r = Err x} a = rw a

-- one step of reading, where what was found is known
module _ {A B : Type 0} (g : Found A) (f : A → ℕ → Found B) where
  pub then_found : {a : A} {next : ℕ} → g ≡ found a next → and_then g f ≡ f a next
  then_found e = rw e

  pub then-refused : {number place : ℕ} → g ≡ refused number place → and_then g f ≡ refused number place
  then-refused e = rw e

-- what was found, where the answer is known
pub field-got : {r : Result Number Refusal} {x : Number} (g : Found ℕ) → r ≡ field_of g → r ≡ Ok x → g ≡ found x.value x.next
unfolding field_of
field-got (refused n p) e o = let z : ◌≡◌ {A = ℕ} 0 1 = cc in absurd (omega arith)
field-got (found v n) e o = cc

pub field-no : {r : Result Number Refusal} {y : Refusal} (g : Found ℕ) → r ≡ field_of g → r ≡ Err y → g ≡ refused y.number y.place
unfolding field_of
field-no (refused n p) e o = cc
field-no (found v n) e o = let z : ◌≡◌ {A = ℕ} 0 1 = cc in absurd (omega arith)

-- what an answer keeps where it is known
pub number_fits : (s : List ℕ) (at : ℕ) {read : Number} {r : Result Number Refusal} → NumberFits s at r → r ≡ Ok read → Ahead s at read.next
number_fits s at f o = rw o at f

pub field_fits : (s : List ℕ) (at least limit : ℕ) {read : Number} {r : Result Number Refusal} → FieldFits s at least limit r → r ≡ Ok read
    → Ahead s at read.next × ((least ≤ read.value) × (read.value < limit))
field_fits s at least limit f o = rw o at f

pub number-none : (s : List ℕ) (at : ℕ) {y : Refusal} {r : Result Number Refusal} → r ≡ Err y → NumberFits s at r
number-none s at o = rw o tt

pub number-of-field : (s : List ℕ) (at least limit : ℕ) (r : Result Number Refusal) → FieldFits s at least limit r → NumberFits s at r
number-of-field s at least limit (Err e) f = tt
number-of-field s at least limit (Ok x) f = f.0

-- `number_at`
module _ (s : List ℕ) (at : ℕ) where
  pub number_short : Err Short ≡ number_at s at → Err (refusal 2 (length s)) ≡ field_of (number_in s at)
  unfolding field_of number_in
  number_short e = rw (← e)

  pub number-bad : Err Bad ≡ number_at s at → Err (refusal 3 at) ≡ field_of (number_in s at)
  unfolding field_of number_in
  number-bad e = rw (← e)

  pub number-value : {x : Number} → Ok x ≡ number_at s at → Ok x ≡ field_of (number_in s at)
  unfolding field_of number_in
  number-value e = rw (← e)

  pub number-ahead : {x : Number} → Ok x ≡ number_at s at → Ahead s at x.next
  number-ahead e = let b = value-bounds s at (sym e) in record { forward = b.forward; inside = b.inside }

-- an answer of one number that is handed on, and one that is refused for the value read
module _ {r : Result Number Refusal} (g : Found ℕ) (f : ℕ → ℕ → Found ℕ) (e : r ≡ field_of g) where
  pub handed : {y : Refusal} → r ≡ Err y → Err y ≡ field_of (and_then g f)
  unfolding field_of
  handed o = rw (field-no g e o)

-- `field_at`
module _ {r : Result Number Refusal} (s : List ℕ) (least limit at : ℕ) (e : r ≡ field_of (number_in s at)) where
  pub field-handed : {y : Refusal} → r ≡ Err y → Err y ≡ field_of (field_in s least limit at)
  unfolding field_in
  field-handed o = handed (number_in s at) _ e o

  module _ {read : Number} (o : r ≡ Ok read) where
    field-low : read.value < least → Err (refusal 5 at) ≡ field_of (field_in s least limit at)
    unfolding field_in field_of
    field-low h = rw (field-got (number_in s at) e o, lt-ltb _ _ h)

    field-high : least ≤ read.value → limit ≤ read.value → Err (refusal 5 at) ≡ field_of (field_in s least limit at)
    unfolding field_in field_of
    field-high h l = rw (field-got (number_in s at) e o, le-ltb _ _ h, le-leb _ _ l)

    pub field-outside : (read.value < least) ⊎ ((least ≤ read.value) × (limit ≤ read.value)) → Err (refusal 5 at) ≡ field_of (field_in s least limit at)
    field-outside (inl h) = field-low h
    field-outside (inr w) = field-high w.0 w.1

    pub field-ruled : least ≤ read.value → read.value < limit → Ok read ≡ field_of (field_in s least limit at)
    unfolding field_in field_of
    field-ruled h l = rw (field-got (number_in s at) e o, le-ltb _ _ h, lt-leb _ _ l)

pub field-none : (s : List ℕ) (at least limit : ℕ) {y : Refusal} {r : Result Number Refusal} → r ≡ Err y → FieldFits s at least limit r
field-none s at least limit o = rw o tt
