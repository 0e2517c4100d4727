-- Cases on one test, and on two. Assumes nothing.
use mathlib.Core.Path.{◌≡◌, refl, sym}
use mathlib.Core.Bool.{Bool, true, false, ◌&&◌, ◌||◌, false≢true}

-- both of two tests hold
pub both : {P : Type 0} (a b : Bool) → (a && b) ≡ true → (a ≡ true → b ≡ true → P) → P
both true b h f = f refl h
both false b h f = absurd (false≢true h)

-- a test holds or does not
pub decide : {P : Type 0} (b : Bool) → (b ≡ true → P) → (b ≡ false → P) → P
decide true f g = f refl
decide false f g = g refl

-- one of two tests holds
pub or_case : {P : Type 0} (a b : Bool) → (a || b) ≡ true → (a ≡ true → P) → (b ≡ true → P) → P
or_case true b h f g = f refl
or_case false b h f g = g h

-- the first of two, or the second
pub first-of : {A : Type 0} (b : Bool) (x y z : A) → z ≡ elim b [ true ↦ x | false ↦ y ] → b ≡ true → z ≡ x
first-of true x y z e d = e
first-of false x y z e d = absurd (false≢true d)

pub second-of : {A : Type 0} (b : Bool) (x y z : A) → z ≡ elim b [ true ↦ x | false ↦ y ] → b ≡ false → z ≡ y
second-of true x y z e d = absurd (false≢true (sym d))
second-of false x y z e d = e
