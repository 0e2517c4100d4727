-- What is known of every order there is: each number fits its type, and each array has its length. Assumes nothing.
use mathlib.Core.Path.{◌≡◌}
use mathlib.Core.List.{List, [], ◌∷◌}
use Prim.Native.Nat.{ℕ, ◌^◌, ◌<◌}
use lib.ListN.{length}
use mir.Val.{Val}
use denote.Array.{Array, each}
use denote.Laws.{Is}
use denote.Shadow.{shadow}
use denote.RattleType.{RattleType}
use denote.Struct.Declared.{row}
use denote.Struct.Field.{u8-field, u32-field}
use Rattle.order.specs.declared.Closing.{Closing}
use Rattle.order.specs.declared.Order.{Order}
use Rattle.order.specs.contracts.Closing as closing
use Rattle.order.specs.contracts.Order as order

-- what holds of each
abbrev pub Each : {A : Type 0} → (A → Type 0) → List A → Type 0
Each P [] = Unit
Each P (x ∷ l) = P x × Each P l

abbrev pub Word : ℕ → Type 0
Word n = n < 256 ^ 4

abbrev pub Long : ℕ → Type 0
Long n = n < 256 ^ 8

-- an array has its length, and what is known of each value of its type holds of each element
module _ (R : RattleType) (P : R.Denot → Type 0) (h : (x : R.Denot) (vs : List Val) → Is R x vs → P x) where
  each_of : (xs : List R.Denot) (us : List Val) → shadow (each R.Denot R.own_val xs us) → Each P xs
  each_of [] us s = tt
  each_of (x ∷ xs) [] s = absurd s
  each_of (x ∷ xs) (u ∷ us) s = (h x (u ∷ []) s.0, each_of xs us s.1)

  pub array_of : (n : ℕ) (xs : List R.Denot) (vs : List Val) → Is (Array R n) xs vs → Each P xs × (length xs ≡ n)
  array_of n xs vs p = (each_of xs p.0 p.1.1, p.1.0.1)

-- an array of bytes, of numbers
pub bytes_of : (n : ℕ) (xs : List ℕ) (vs : List Val) → Is (Array u8-field.row n) xs vs → length xs ≡ n
bytes_of n xs vs p = (array_of u8-field.row (λ x. Unit) (λ x us s. tt) n xs vs p).1

pub words_of : (n : ℕ) (xs : List ℕ) (vs : List Val) → Is (Array u32-field.row n) xs vs → Each Word xs × (length xs ≡ n)
words_of = array_of u32-field.row Word (λ x us s. s.1)

pub record WholeOrder (o : Order) : Type 0 where
  pub marks-long : length o.marks ≡ 256
  pub values : Each Word o.values
  pub values-long : length o.values ≡ 16
  pub bound-long : length o.bound ≡ 16
  pub remembered-long : length o.remembered ≡ 32
  pub kept : Long o.kept

pub order-whole : (o : Order) (vs : List Val) → Is (row order.the_type) o vs → WholeOrder o
order-whole o vs p =
    let a = p.1.1.1 in
    let v = words_of 16 o.values _ a.1.0 in
    record {
      marks-long = bytes_of 256 o.marks _ a.0;
      values = v.0;
      values-long = v.1;
      bound-long = bytes_of 16 o.bound _ a.1.1.0;
      remembered-long = (array_of (row closing.the_type) (λ c. Unit) (λ c us s. tt) 32 o.remembered _ a.1.1.1.0).1;
      kept = a.1.1.1.1.0.1;
    }
