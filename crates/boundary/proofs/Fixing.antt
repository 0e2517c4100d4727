-- Any two outcomes that the contract of a public call allows are equal, proved. Assumes nothing.
use native.Mathlib.Omega.{arith}
use Prim.Native.Nat.{ℕ, ◌+◌}
use mathlib.Core.Bool.{true, false}
use mathlib.Core.Path.{◌≡◌, sym, ap, ◌∙◌}
use Rattle.std.specs.Prelude.{List, Ok, Err}
use Rattle.step.specs.declared.Stepped.{Stepped}
use Rattle.run.specs.declared.Ran.{Ran}
use Rattle.show.specs.Shown.{said}
use Rattle.boundary.specs.Outcomes.{Fixed, FixedAs, Show, TakenStep, Run, RunTold, AllFixed}

-- what each is equal to
pub equal : {A : Type 0} {a b f : A} → a ≡ f → b ≡ f → a ≡ b
equal e d = e ∙ sym d

pub both_equal : {A B : Type 0} (a b : A) (c d : B) → a ≡ b → c ≡ d → ◌≡◌ {A = A × B} (a, c) (b, d)
both_equal a b c d e f = cc

all-equal : {A B C : Type 0} (a b : A) (c d : B) (x y : C) → a ≡ b → c ≡ d → x ≡ y → ◌≡◌ {A = A × B × C} (a, c, x) (b, d, y)
all-equal a b c d x y e f g = cc

-- Of two answers of show one is no refusal where the other is one: whether it shows is the same of both.
show-fixed : FixedAs said Show
show-fixed x (Ok a) (Ok b) f g =
    let e : ◌≡◌ {A = List ℕ} a.part.now b.part.now = equal f.part g.part in
    let h : a.start ≡ b.start = equal f.place g.place in
    cc
show-fixed x (Ok a) (Err n) f g = let e : true ≡ false = equal f.given g.given in cc
show-fixed x (Err m) (Ok b) f g = let e : false ≡ true = equal f.given g.given in cc
show-fixed x (Err m) (Err n) f g = ap (λ (k : ℕ). Err k) (equal f.refused g.refused)

step-fixed : Fixed TakenStep
step-fixed x a b f g =
    let e : a.0 ≡ b.0 = equal f.is.0 g.is.0 in
    both_equal a.0 b.0 a.1 b.1 e (f.is.1 ∙ (ap (λ (r : Stepped). r.tally) e ∙ sym g.is.1))

-- what is left of a budget, where as many steps were taken
left-equal : {r s : Ran} {m n b : ℕ} → r ≡ s → m + r.taken ≡ b → n + s.taken ≡ b → m ≡ n
left-equal e f g = let k = ap (λ (r : Ran). r.taken) e in omega (arith, f, g, k)

run-fixed : Fixed Run
run-fixed x a b f g =
    let e : a.0 ≡ b.0 = equal f.is g.is in
    both_equal a.0 b.0 a.1 b.1 e (left-equal e f.left g.left)

run-told-fixed : Fixed RunTold
run-told-fixed x a b f g =
    let e : a.0 ≡ b.0 = equal f.is g.is in
    all-equal a.0 b.0 a.1 b.1 a.2 b.2 e (left-equal e f.left g.left) (equal f.told g.told)

pub all-fixed : AllFixed
all-fixed = record {
  accept = λ s a b f g. all-equal a.0 b.0 a.1 b.1 a.2 b.2 (equal f.is g.is) (equal f.rows g.rows) (equal f.flags g.flags);
  show = show-fixed;
  load = λ s a b f g. equal f.is g.is;
  post = λ x a b f g. equal f.is g.is;
  collect = λ s a b f g. equal f.is g.is;
  drop = λ x a b f g. equal f.is g.is;
  offer = λ x a b f g. equal f.is g.is;
  offers = λ s a b f g. equal f.is g.is;
  list = λ x a b f g. both_equal a.0 b.0 a.1 b.1 (equal f.is g.is) (equal f.out g.out);
  take_step = λ x a b f g. equal f.is g.is;
  step = step-fixed;
  run = run-fixed;
  run_told = run-told-fixed;
}
