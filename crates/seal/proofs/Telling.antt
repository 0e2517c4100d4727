-- A byte that is changed changes the seal: the lower half of a seal is the weight, which is the sum of the bytes below 2^32. Assumes nothing.
use Prim.Native.Nat.{ℕ, ◌+◌, ◌*◌, ◌%◌, ◌<◌}
use native.Mathlib.Omega.{arith}
use mathlib.Core.Path.{◌≡◌, sym, ◌∙◌, ap}
use mathlib.Core.List.{List, [], ◌∷◌, ◌++◌}
use Rattle.seal.specs.Sealed.{seal_from, seal_of, ChangeTold}

abbrev sum : List ℕ → ℕ
sum [] = 0
sum (b ∷ l) = b + sum l

from-none : (n : ℕ) → n ≡ 0 + n
from-none n = omega arith

from_more : (b l r n : ℕ) → n ≡ l + r → b + n ≡ b + l + r
from_more b l r n e = omega (arith, e)

sum-append : (l r : List ℕ) → sum (l ++ r) ≡ sum l + sum r
sum-append [] r = from-none (sum r)
sum-append (b ∷ l) r = from_more b (sum l) (sum r) _ (sum-append l r)

-- the weight is what the seal leaves below 2^32
weight-none : (w m : ℕ) → w < 4294967296 → (m * 4294967296 + w) % 4294967296 ≡ (w + 0) % 4294967296
weight-none w m h = omega arith

weight-more : (w b s x : ℕ) → x % 4294967296 ≡ ((w + b) % 4294967296 + s) % 4294967296 → x % 4294967296 ≡ (w + (b + s)) % 4294967296
weight-more w b s x e = omega (arith, e)

weight : (l : List ℕ) (w m : ℕ) → w < 4294967296 → seal_from l w m % 4294967296 ≡ (w + sum l) % 4294967296
unfolding seal_from
weight [] w m h = weight-none w m h
weight (b ∷ l) w m h = weight-more w b (sum l) _ (weight l ((w + b) % 4294967296) ((m + (w + b) % 4294967296) % 4294967296) (omega arith))

one_byte : (s r b c : ℕ) → b < 256 → c < 256 → (1 + (s + (b + r))) % 4294967296 ≡ (1 + (s + (c + r))) % 4294967296 → b ≡ c
one_byte s r b c hb hc e = omega (arith, e)

pub change-told : ChangeTold
unfolding ChangeTold seal_of
change-told l r b c hb hc e =
    let at : (x : ℕ) → seal_from (l ++ (x ∷ r)) 1 0 % 4294967296 ≡ (1 + (sum l + (x + sum r))) % 4294967296 = λ x. weight (l ++ (x ∷ r)) 1 0 (omega arith) ∙ ap (λ n. (1 + n) % 4294967296) (sum-append l (x ∷ r)) in
    one_byte (sum l) (sum r) b c hb hc (sym (at b) ∙ (ap (λ n. n % 4294967296) e ∙ at c))
