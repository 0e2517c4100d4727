-- What the code is told of what was found, and what it tells then. Assumes nothing.
use mathlib.Core.Path.{◌≡◌, refl, ◌∙◌}
use Prim.Native.Nat.{ℕ}
use Rattle.std.specs.Prelude.{Result, Ok, Err}
use Rattle.std.specs.Result.{IsErrAnd}
use Rattle.std.proofs.lemmas.Bool.Decides.{nat_tests}
use Rattle.std.proofs.lemmas.Result.{err_from_is_err_and}
use Rattle.plan.specs.Found.{Found, refused, found, and_then}
use Rattle.plan.specs.declared.Refusal.{Refusal}
use Rattle.writer.specs.declared.Field.{Field}
use Rattle.writer.proofs.CellReturns.{among_any}
use Rattle.writer.specs.Written.{result_for, field_of}

-- what a refusal was
pub told-refused : {A B : Type 0} (f : A → ℕ → B) (g : Found A) {e : Refusal} → Err e ≡ result_for f g → g ≡ refused e.number e.place
unfolding result_for
told-refused f (refused n p) o = cc
told-refused f (found a n) o = cc

-- what was found, where it is told
pub record Told {A B : Type 0} (f : A → ℕ → B) (g : Found A) (b : B) : Type 0 where
  pub a : A
  pub next : ℕ
  pub is : g ≡ found a next
  pub told : b ≡ f a next

pub told-found : {A B : Type 0} (f : A → ℕ → B) (g : Found A) {b : B} → Ok b ≡ result_for f g → Told f g b
unfolding result_for
told-found f (refused n p) o = cc
told-found f (found a n) o = record { a = a; next = n; is = refl; told = cc }

-- the exit of a `?`: a refusal is passed on as it is
pub passed-on : {A B C D : Type 0} (f : A → ℕ → B) (h : C → ℕ → D) (g : Found A) (k : A → ℕ → Found C) {e : Refusal} → Err e ≡ result_for f g
    → {out : Result D Refusal} → IsErrAnd out (λ y. y ≡ e) → out ≡ result_for h (and_then g k)
unfolding result_for
passed-on f h g k {e} o {out} w =
    let p = err_from_is_err_and out w in
    rw (p.1, p.2, told-refused f g o)

-- the same, where what was refused is known
pub told-no : {A B : Type 0} (f : A → ℕ → B) (e : Refusal) {out : Result B Refusal} → IsErrAnd out (λ y. y ≡ e) → out ≡ result_for f (refused e.number e.place)
unfolding result_for
told-no f e {out} w = let p = err_from_is_err_and out w in rw (p.1, p.2)

-- a number
pub field_is : (g : Found ℕ) (f : Field) → Ok f ≡ result_for field_of g → g ≡ found f.value f.next
field_is g f o = let w = told-found field_of g o in w.is ∙ cc

pub ruleset cases = (nat_tests, field_is, passed-on, among_any)
