-- A test of each element, as `all` of an iterator answers it. Assumes nothing.
use mathlib.Core.Path.{◌≡◌, refl}
use mathlib.Core.Bool.{Bool}
use mathlib.Core.List.{List, [], ◌∷◌}
use Rattle.std.specs.List.{list_all}
use Rattle.order.specs.Lists.{every}

pub every_as : {A : Type 0} (f g : A → Bool) → ((a : A) → f a ≡ g a) → (l : List A) → list_all f l ≡ every g l
unfolding every
every_as f g e [] = refl
every_as f g e (a ∷ l) = rw (e a, every_as f g e l)

pub every_all : {A : Type 0} (f : A → Bool) (l : List A) → list_all f l ≡ every f l
every_all f l = every_as f f (λ a. refl) l
